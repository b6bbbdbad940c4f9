use Rattle.std.proofs.Common.{sym, subst}
use Rattle.std.specs.Prelude.{slice_get}
use Rattle.alma_code.specs.Plain.{code_of}
use Rattle.alma_lower_slots.specs.Inner.Checks.{FitsSlot, HasStretch}
use Rattle.alma_lower_slots.specs.Stretches.{stretch_at}
use Rattle.alma_lower_slots.proofs.CheckSteps.{below_more}
use Rattle.alma_lower_slots.proofs.close.fit_slots.Goals as goal
use Rattle.alma_lower_slots.proofs.close.fit_slots.Goals.{else-has_stretch-via-then-has_stretch+else-not-fits_slot}
use Rattle.alma_lower_slots.proofs.close.fit_slots.Goals.{else-has_stretch-via-else-has_stretch}

pub loop-slot-preserved : goal.loop-slot-preserved
loop-slot-preserved c =
    below_more (λ n. HasStretch (stretch_at c.args.stretches.now n) → FitsSlot (code_of c.args.code.now) c.args.routine
    (slice_get c.args.kinds.now n) n (stretch_at c.args.stretches.now n)) c.loop-slot.slot c.loop-slot.invariant
    (λ has. elim c.else-has_stretch.branch [
      | else-has_stretch-via-then-has_stretch+else-not-fits_slot w ↦
          subst (λ k. FitsSlot (code_of c.args.code.now) c.args.routine k c.loop-slot.slot
          (stretch_at c.args.stretches.now c.loop-slot.slot)) c.kind_of-kind.ensures
          (subst (λ x. FitsSlot (code_of c.args.code.now) c.args.routine c.kind_of-kind.result c.loop-slot.slot x)
          c.stretch_of-stretch.ensures (w.fits_slot.ensures w.if-not-fits_slot.false))
      | else-has_stretch-via-else-has_stretch w ↦
          absurd (c.has_stretch.ensures w.if-has_stretch.false
          (subst (λ x. HasStretch x) (sym c.stretch_of-stretch.ensures) has))
    ])
