use Rattle.std.proofs.Common.{◌≡◌, ap, sym, subst, None}
use Rattle.std.specs.Prelude.{MatchOption, slice_get}
use Rattle.alma_code.specs.Head.{PlainHead}
use Rattle.alma_code.specs.Layout.{RunsRise, kinds_of}
use Rattle.alma_code.specs.Plain.{PlainRoutine, head_at}
use Rattle.alma_code.specs.Rules.{last_end}
use Rattle.alma_object.specs.View.{code_of_view, head_of_view}
use Rattle.alma_verify.specs.Runs.{Covers}
use Rattle.alma_verify.proofs.view.run_over.Goals as goal

pub run_at-requires : goal.run_at-requires
run_at-requires c =
    let is : head_of_view c.routine_of.result ≡ head_at (code_of_view c.args.view.now) c.args.routine =
    ap (λ (q : PlainRoutine). q.head) c.routine_of.ensures in
    record {
      rise = subst (λ (h : PlainHead). RunsRise 0 h.runs (last_end 0 h.runs)) (sym is)
          (c.requires.table.runs c.args.routine c.requires.routine);
    }

pub returns : goal.returns
returns c =
    let is : head_of_view c.routine_of.result ≡ head_at (code_of_view c.args.view.now) c.args.routine =
    ap (λ (q : PlainRoutine). q.head) c.routine_of.ensures in
    subst (λ (h : PlainHead). MatchOption c.run_at.result (slice_get (kinds_of 0 h.runs) c.args.slot ≡ None)
    (λ run. Covers (kinds_of 0 h.runs) c.args.slot run)) is c.run_at.ensures
