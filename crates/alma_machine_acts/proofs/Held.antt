-- What the reading and writing of places and links of any frame gives.
use Rattle.std.proofs.Common.{◌≡◌, ℕ, ◌-◌, List, length, get_or, sym, ap, ◌∙◌, subst, Some}
use Rattle.std.specs.Prelude.{slice_get}
use Rattle.std.proofs.lemmas.Option.{slice_get-get_or, get_or_from_slice_get}
use Rattle.alma_base.specs.declared.fault.RunFault.TheVariants as fault
use Rattle.alma_code.specs.declared.cell.Cell.{Cell}
use Rattle.alma_code.specs.declared.cell.Cell.TheVariants as cell
use Rattle.alma_code.specs.declared.cell.CellPlace.{CellPlace}
use Rattle.alma_code.specs.Machine.{State, StepResult, as_place, slot_in, link, ends_in_fault, put_link, to_link, link_to, quiet_step}
use Rattle.alma_code.specs.Machine.{with_slot}
use Rattle.alma_code.specs.Picture.{PlainFrame, no_frame, last_frame, cell_at}
use Rattle.alma_code_laws.proofs.Ready.{link_is}
use Rattle.alma_machine_acts.specs.Rows.{HasSlot, HasPlaceIn, HasLinkTo, HoldsPlace}

-- what a slot holds is what it holds whatever stands for a slot that is not there
held_or : (now : List PlainFrame) (f n : ℕ) (c : Cell) → HasPlaceIn now f n → c ≡ cell_at now f n cell.Unknown
    → slice_get (get_or now f no_frame).cells n ≡ Some c
held_or now f n c h is = slice_get-get_or (get_or now f no_frame).cells n cell.Unknown h.below ∙ ap Some (sym is)

-- what such a slot holds
pub held_content : (now : List PlainFrame) (f n : ℕ) (c : Cell) → HasPlaceIn now f n → c ≡ cell_at now f n cell.Unknown → HoldsPlace c
held_content now f n c h is = subst HoldsPlace (get_or_from_slice_get (get_or now f no_frame).cells n c cell.Unset (held_or now f n c h is))
    h.content

-- a place is read
pub held_place : (now : List PlainFrame) (f n : ℕ) (p : CellPlace) (s : State) (k : CellPlace → StepResult) → HasPlaceIn now f n
    → cell.Place p ≡ cell_at now f n cell.Unknown → s.now ≡ now → as_place (slot_in s f n) s k ≡ k p
held_place now f n p s k h is same = ap (λ fs. as_place (slice_get (get_or fs f no_frame).cells n) s k) same
    ∙ ap (λ o. as_place o s k) (held_or now f n (cell.Place p) h is)

-- none yet is read
pub held_unset : (now : List PlainFrame) (f n : ℕ) (s : State) (k : CellPlace → StepResult) → HasPlaceIn now f n
    → cell.Unset ≡ cell_at now f n cell.Unknown → s.now ≡ now → as_place (slot_in s f n) s k ≡ ends_in_fault fault.Unknown s
held_unset now f n s k h is same = ap (λ fs. as_place (slice_get (get_or fs f no_frame).cells n) s k) same
    ∙ ap (λ o. as_place o s k) (held_or now f n cell.Unset h is)

pub ruleset helds = (held_content, held_place, held_unset)

-- ---- links of the top frame

-- what a link slot holds
pub link_content : (now : List PlainFrame) (n : ℕ) (c : Cell) → HasPlaceIn now (length now - 1) n
    → slice_get (last_frame now).cells n ≡ Some c → HoldsPlace c
link_content now n c h is = subst HoldsPlace (get_or_from_slice_get (last_frame now).cells n c cell.Unset is) h.content

-- a link is read
pub link_read : (now : List PlainFrame) (n : ℕ) (p : CellPlace) (s : State) (k : ℕ → StepResult)
    → slice_get (last_frame now).cells n ≡ Some (cell.Place p) → s.now ≡ now → link s n k ≡ k p.frame
link_read now n p s k is same = ap (λ fs. as_place (slice_get (last_frame fs).cells n) s (λ p. k p.frame)) same
    ∙ ap (λ o. as_place o s (λ p. k p.frame)) is

-- no link yet is read
pub link_unset : (now : List PlainFrame) (n : ℕ) (s : State) (k : ℕ → StepResult) → slice_get (last_frame now).cells n ≡ Some cell.Unset
    → s.now ≡ now → link s n k ≡ ends_in_fault fault.Unknown s
link_unset now n s k is same = ap (λ fs. as_place (slice_get (last_frame fs).cells n) s (λ p. k p.frame)) same
    ∙ ap (λ o. as_place o s (λ p. k p.frame)) is

pub ruleset links = (link_content, link_read, link_unset)

-- a link goes into a link slot
pub put_link_is : (s : State) (n frame : ℕ) → HasLinkTo s.now n
    → put_link s n frame ≡ quiet_step (with_slot s n (cell.Place (record { frame = frame; slot = 0; len = 0 })))
put_link_is s n frame h =
    let kind = slice_get (last_frame s.now).kinds n in
    ap (λ o. to_link o s (λ _. quiet_step (with_slot s n (cell.Place (link_to frame))))) (link_is kind h.kind)

-- a link slot is a slot
pub link_is_slot : (now : List PlainFrame) (n : ℕ) → HasLinkTo now n → HasSlot now n
link_is_slot now n h = record { some = h.some; below = h.below }

pub ruleset put_links = (put_link_is, link_is_slot)
