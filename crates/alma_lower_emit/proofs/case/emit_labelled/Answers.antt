use Rattle.std.proofs.Common.{◌≡◌, ◌∙◌, ◌-◌, length, drop, sym, ap, add-zero}
use Rattle.std.proofs.Common.{take}
use Rattle.alma_ir.specs.Tree as tree
use Rattle.alma_ir.specs.View.{stmts_list, cases_list}
use Rattle.alma_lower_work.specs.Front.{around}
use Rattle.alma_lower_parts.proofs.Said.{from_both, said, all_is, some_elements, drop_one, slice_rest}
use Rattle.alma_lower_parts.proofs.Arms.{all_first}
use Rattle.alma_lower_emit.proofs.case.emit_labelled.Goals as goal

pub returns : goal.returns
returns g c =
    let x = c.index-arms-0.result in
    let whole : tree.more_cases x.labels.items (stmts_list x.body.items)
    (cases_list (take (length c.args.arms.now - 1) (drop 1 c.args.arms.now))) ≡ cases_list c.args.arms.now =
    ap (λ ys. tree.more_cases x.labels.items (stmts_list x.body.items) (cases_list ys)) (slice_rest c.args.arms.now 1)
    ∙ sym (ap cases_list (drop_one c.args.arms.now 0 x (some_elements _ c.if-is_empty.ensures) c.index-arms-0.is)) in
    record {
      puts = λ test. from_both c.then_aim.result c.then_aim.ensures.done c.then_aim.ensures.aims
          (λ ok h. all_is (around c.args.scene.now) c.args.line _ _ _ _ _ _ _ whole
          (all_first (around c.args.scene.now) c.args.line _ _ _ _ _ _ _ _ _ _ _ _ _ _
          (said c.emit_case_arm-done.result c.in_ok-exit.ensures.done (c.emit_case_arm-done.ensures.puts test)) c.in_ok-exit.ensures.address
          c.in_ok-exit.ensures.codes (c.in_ok-emit_cases.ensures.puts test) (said c.emit_else-done.result ok c.emit_else-done.ensures.puts)
          h
          (add-zero _)));
    }
