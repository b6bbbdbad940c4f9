use Rattle.std.proofs.Common.{◌≡◌, ap, rules, to_z, of_z, w64}
use Rattle.std.proofs.lemmas.Int.{to_z-of_z}
use Rattle.alma_ir.specs.Tree as tree
use Rattle.alma_lower_work.specs.Front.{around}
use Rattle.alma_lower_parts.proofs.ExprForms.{const_put}
use Rattle.alma_lower_parts.proofs.Said.{expr_is}
use Rattle.alma_lower_parts.proofs.leaf.emit_const.Goals as goal

pub returns : goal.returns
returns c =
    let same : to_z w64 (of_z w64 c.args.value) ≡ c.args.value = to_z-of_z w64 c.args.value (search rules) in
    record {
      slot = c.in_ok-to.ensures.slot;
      puts = expr_is (around c.args.scene.now) c.args.line _ _ _ _ (ap tree.Const same)
          (const_put (around c.args.scene.now) c.args.line _ _ _ _ _ c.in_ok-to.ensures.takes c.in_ok-to.ensures.slot
          c.in_ok-put.ensures.codes);
    }
