use Rattle.std.proofs.Common.{◌≡◌, ◌+◌, drop, ap, sym, arith}
use Rattle.alma_ir.specs.Tree as tree
use Rattle.alma_ir.specs.View.{cases_list, stmts_list}
use Rattle.alma_lower_parts.proofs.Said.{all_is, drop_one, no_elements}
use Rattle.alma_lower_parts.proofs.Arms.{skipped_all, turns_is}
use Rattle.alma_lower_parts.proofs.pass.pass_unlabelled.Goals as goal

pub returns-then-not-is_empty : goal.returns-then-not-is_empty
returns-then-not-is_empty c = λ s line value bound e rest h.
    c.loop-arm.invariant.completes s line value bound e rest
    (all_is s line value bound _ _ _ _ rest (ap (λ n. cases_list (drop n c.args.arms.now)) c.loop-arm.invariant.count) h)

pub loop-arm-preserved : goal.loop-arm-preserved
loop-arm-preserved c =
    let l = c.loop-arm in
    let arm = c.arm-item.result in
    let one : cases_list (drop l.arm-index c.args.arms.now) ≡ tree.more_cases arm.labels.items (stmts_list arm.body.items)
    (cases_list (drop (l.arm-index + 1) c.args.arms.now)) =
    ap cases_list (drop_one c.args.arms.now l.arm-index arm c.loop-arm-test.true c.arm-item.is) in
    record {
      count = ap (λ n. n + 1) l.invariant.count;
      completes = λ s line value bound e rest h. l.invariant.completes s line value bound e rest
          (all_is s line value bound _ _ _ _ rest (sym one)
          (skipped_all s line _ _ _ value bound _ _ _ rest (omega (arith, no_elements _ c.if-not-is_empty.ensures, arm.labels.ok.0))
          (turns_is s line _ _ _ _ (ap stmts_list c.deref.ensures.value) c.in_ok-pass_stmts.ensures) h));
    }

pub returns : goal.returns
returns c = λ s line value bound e rest h.
    c.loop-arm.invariant.completes s line value bound e rest
    (all_is s line value bound _ _ _ _ rest (ap (λ n. cases_list (drop n c.args.arms.now)) c.loop-arm.invariant.count) h)
