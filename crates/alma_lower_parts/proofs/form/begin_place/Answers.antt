use Rattle.std.proofs.Common.{◌∙◌, ◌+◌, ap, sym}
use Rattle.alma_ir.specs.View.{sels_list}
use Rattle.alma_lower_work.specs.Front.{around}
use Rattle.alma_lower_parts.proofs.PlaceForms.{begins_own, begins_made}
use Rattle.alma_lower_parts.proofs.form.begin_place.Goals as goal

pub returns-in-Some : goal.returns-in-Some
returns-in-Some c = begins_own (around c.args.scene.now) c.args.line _ _ _ _ _ _ _
    (ap sels_list c.deref.ensures.value) c.in_ok-to.ensures.takes (sym c.in-Some.is ∙ c.in_ok-from.ensures)

pub returns-in_ok-put_root-in-None : goal.returns-in_ok-put_root-in-None
returns-in_ok-put_root-in-None c =
    let takes = c.in_ok-to.ensures.takes in
    begins_made (around c.args.scene.now) c.args.line _ _ _ _ _ _ _ _ (ap sels_list c.deref.ensures.value) takes c.in_ok-to.ensures.slot
    (sym c.in-None.is ∙ c.in_ok-from.ensures)
    (c.in_ok-put_root-in-None.ensures (takes.next_slot ∙ ap (λ n. n + 1) (sym c.in_ok-to.ensures.slot)))
