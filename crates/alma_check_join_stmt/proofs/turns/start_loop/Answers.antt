use Rattle.std.proofs.Common.{None}
use Rattle.alma_rules.specs.Scene.{found}
use Rattle.alma_rules.specs.StmtRules as stmt_rules
use Rattle.alma_rules.specs.View.{view_name}
use Rattle.alma_check_rules.specs.Views.{scene_of, somewhere, headings_in}
use Rattle.alma_check_join_stmt.proofs.Passed.{start_passed}
use Rattle.alma_check_join_stmt.proofs.turns.start_loop.Goals as goal

pub returns-in_err-counter-clause-started : goal.returns-in_err-counter-clause-started
returns-in_err-counter-clause-started c =
    start_passed (headings_in c.args.env.now) c.args.name.now.node
    (λ f. stmt_rules.loop_name_rules (scene_of c.args.env.now c.args.place) f None)
    (found (scene_of c.args.env.now somewhere) (view_name c.args.name.now)) c.args.slot.now _ _ _ c.from_residual.ensures.1
    (rw c.in_err-counter.ensures.taken tt)

pub returns-in_err-found-clause-started : goal.returns-in_err-found-clause-started
returns-in_err-found-clause-started c = start_passed (headings_in c.args.env.now) c.args.name.now.node
    (λ f. stmt_rules.loop_name_rules (scene_of c.args.env.now c.args.place) f None)
    (found (scene_of c.args.env.now somewhere) (view_name c.args.name.now)) c.args.slot.now _ _ _ c.from_residual-in_err-found.ensures.1
    c.in_err-found.ensures

pub returns-clause-started : goal.returns-clause-started
returns-clause-started c = (
  c.in_ok-counter.ensures.taken.0,
  c.in_ok-counter.ensures.taken.1,
  c.in_ok-found.ensures.0,
  c.in_ok-found.ensures.1,
)
