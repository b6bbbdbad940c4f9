-- What a running machine's memory has.
use Rattle.std.proofs.Common.{◌≡◌, ◌∙◌, ◌^◌, ◌<◌, ◌≤◌, List, length, get_or, ap, subst, sym, arith, refl}
use Rattle.alma_code.specs.Fits.{FitsFrame, routines_of}
use Rattle.alma_code.specs.Machine.{State}
use Rattle.alma_code.specs.Picture.{PlainFrame, no_frame}
use Rattle.alma_code.specs.Plain.{PlainCode, kinds_at}
use Rattle.alma_machine.proofs.Counting.{few_kinds}
use Rattle.alma_machine.specs.Stands.{Stands}
use Rattle.alma_trace.specs.Places.{main_slots}

-- frame 0 has the slots of the frame of the module, which are few
few_slots : (code : PlainCode) (s : State) → Stands code s → main_slots s.now < 2 ^ 32
few_slots code s h =
    let some : 0 < length s.now = omega (arith, h.fits.frames.some) in
    let frame : FitsFrame code (routines_of s.now) 0 (get_or s.now 0 no_frame) = h.fits.frames.each 0 some in
    let slots : main_slots s.now ≡ length (kinds_at code 0) =
    frame.full ∙ ap length (frame.kinds ∙ ap (kinds_at code) (frame.main refl)) in
    let few : length (kinds_at code 0) ≤ 8388608 = few_kinds code h.sound 0 h.sound.table.some in
    omega arith

-- also in the memory that the machine shows
pub few_shown : (code : PlainCode) (s : State) (frames : List PlainFrame) → Stands code s → frames ≡ s.now → main_slots frames < 2 ^ 32
few_shown code s frames h e = subst (λ (fs : List PlainFrame). main_slots fs < 2 ^ 32) (sym e) (few_slots code s h)
