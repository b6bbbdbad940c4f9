-- What the reading of slots gives.
use Rattle.std.proofs.Common.{inl, inr, ◌≡◌, ℕ, ◌+◌, List, get_or, refl, sym, ap, ◌∙◌, subst, arith, Some}
use Rattle.std.specs.Prelude.{ℤ, pos, negsuc, zero, suc, slice_get, Bool, true, false, ◌&&◌, ◌≤ℤ◌, ◌<ℤ◌, int_le, Option, None, Result, Ok}
use Rattle.std.specs.Prelude.{Err}
use Rattle.std.proofs.lemmas.Bool.{eq-eqb, and_from}
use Rattle.std.proofs.lemmas.Int.{ints}
use Rattle.std.proofs.lemmas.Bool.Decides.{eqb_tells}
use Rattle.alma_base.specs.declared.number.Range.{Range}
use Rattle.alma_base.specs.Numbers.{within, is_zero, int_eq, is_beyond}
use Rattle.alma_base.specs.Choice.{if_true}
use Rattle.alma_code.specs.Carries.{number_at}
use Rattle.alma_code.specs.Kinds.{is_number}
use Rattle.std.proofs.lemmas.Option.{slice_get-get_or, get_or_from_slice_get}
use Rattle.alma_base.specs.declared.fault.RunFault.{RunFault}
use Rattle.alma_base.specs.declared.fault.RunFault.TheVariants as fault
use Rattle.alma_code.specs.declared.cell.Cell.{Cell}
use Rattle.alma_code.specs.declared.cell.Cell.TheVariants as cell
use Rattle.alma_code.specs.declared.cell.CellPlace.{CellPlace}
use Rattle.alma_code.specs.declared.step.Step.{Step}
use Rattle.alma_code.specs.Fits.{IsContent}
use Rattle.alma_code.specs.Machine.{State, StepResult, number, place, content, as_content, as_number, as_place, ends_in_fault, put_number}
use Rattle.alma_code.specs.Machine.{to_number, quiet_step, gets_stuck, store, with_slot, with_cell}
use Rattle.alma_code.specs.Picture.{PlainFrame, no_frame, last_frame, cell_at}
use Rattle.alma_memory.specs.Machine.{MachinePicture}
use Rattle.alma_machine_acts.specs.declared.registers.Registers.{Registers}
use Rattle.alma_machine_acts.specs.Acts.{Acts, Makes}
use Rattle.alma_machine_acts.specs.Rows.{HasSlot, HasNumber, HasNumberIn, IsCells, HoldsCells, Gives, put_or_fault}

-- what a slot holds that has a content is a content
pub content_read : (cs : List Cell) (n : ℕ) (c : Cell) → slice_get cs n ≡ Some c → IsContent (get_or cs n cell.Unset) → IsContent c
content_read cs n c is h = subst IsContent (get_or_from_slice_get cs n c cell.Unset is) h

-- what a slot for places holds
pub place_read : (now : List PlainFrame) (cs : List Cell) (l n : ℕ) (c : Cell) → slice_get cs n ≡ Some c
    → HoldsCells now l (get_or cs n cell.Unset) → HoldsCells now l c
place_read now cs l n c is h = subst (HoldsCells now l) (get_or_from_slice_get cs n c cell.Unset is) h

-- a number is read
pub reads_number : (now : List PlainFrame) (n : ℕ) (v : ℤ) (s : State) (k : ℤ → StepResult)
    → slice_get (last_frame now).cells n ≡ Some (cell.Int v) → s.now ≡ now → number s n k ≡ k v
reads_number now n v s k is same = ap (λ fs. as_number (slice_get (last_frame fs).cells n) s k) same ∙ ap (λ o. as_number o s k) is

-- an unknown number is read
pub reads_unknown : (now : List PlainFrame) (n : ℕ) (s : State) (k : ℤ → StepResult)
    → slice_get (last_frame now).cells n ≡ Some cell.Unknown
    → s.now ≡ now → number s n k ≡ ends_in_fault fault.Unknown s
reads_unknown now n s k is same = ap (λ fs. as_number (slice_get (last_frame fs).cells n) s k) same ∙ ap (λ o. as_number o s k) is

-- a place is read
pub reads_place : (now : List PlainFrame) (n : ℕ) (p : CellPlace) (s : State) (k : CellPlace → StepResult)
    → slice_get (last_frame now).cells n ≡ Some (cell.Place p) → s.now ≡ now → place s n k ≡ k p
reads_place now n p s k is same = ap (λ fs. as_place (slice_get (last_frame fs).cells n) s k) same ∙ ap (λ o. as_place o s k) is

-- a place that is not there is read
pub reads_unset : (now : List PlainFrame) (n : ℕ) (s : State) (k : CellPlace → StepResult)
    → slice_get (last_frame now).cells n ≡ Some cell.Unset → s.now ≡ now → place s n k ≡ ends_in_fault fault.Unknown s
reads_unset now n s k is same = ap (λ fs. as_place (slice_get (last_frame fs).cells n) s k) same ∙ ap (λ o. as_place o s k) is

pub ruleset numbers = (content_read, reads_number, reads_unknown)

pub ruleset places = (place_read, reads_place, reads_unset)

-- ---- tests of numbers

-- 0 is zero
pub zero_is : (x : ℤ) → x ≡ pos 0 → is_zero x ≡ true
zero_is x e = ap is_zero e

-- any other number is not
pub zero_is_not : (x : ℤ) → (x ≡ pos 0 → ⊥) → is_zero x ≡ false
zero_is_not (pos zero) h = absurd (h refl)
zero_is_not (pos (suc n)) h = refl
zero_is_not (negsuc n) h = refl

-- a number is itself
equals_itself : (z : ℤ) → int_eq z z ≡ true
equals_itself (pos n) = eq-eqb n n refl
equals_itself (negsuc n) = eq-eqb n n refl

-- equal numbers are one
pub equal_is : (x y : ℤ) → x ≡ y → int_eq x y ≡ true
equal_is x y e = subst (λ z. int_eq x z ≡ true) e (equals_itself x)

-- and no other
pub equal_is_not : (x y : ℤ) → (x ≡ y → ⊥) → int_eq x y ≡ false
equal_is_not (pos a) (pos b) h = elim (eqb_tells a b) [ inl w ↦ absurd (h (ap pos w.1)) | inr w ↦ w.0 ]
equal_is_not (negsuc a) (negsuc b) h = elim (eqb_tells a b) [ inl w ↦ absurd (h (ap negsuc w.1)) | inr w ↦ w.0 ]
equal_is_not (pos a) (negsuc b) h = refl
equal_is_not (negsuc a) (pos b) h = refl

pub ruleset tests = (zero_is, zero_is_not, equal_is, equal_is_not)

-- a number between the ends of a range is in it
pub within_is : (r : Range) (v : ℤ) → r.low ≤ℤ v → v ≤ℤ r.high → within r v ≡ true
within_is r v a b =
    let low : int_le r.low v ≡ true = grind (arith, ints) in
    let high : int_le v r.high ≡ true = grind (arith, ints) in
    and_from (int_le r.low v) (int_le v r.high) low high

-- one below its low end is not
pub below_range : (r : Range) (v : ℤ) → v <ℤ r.low → within r v ≡ false
below_range r v a =
    let low : int_le r.low v ≡ false = grind (arith, ints) in
    ap (λ b. b && int_le v r.high) low

-- a test and false is false
and_false : (b : Bool) → (b && false) ≡ false
and_false true = refl
and_false false = refl

-- one above its high end is not
pub above_range : (r : Range) (v : ℤ) → r.high <ℤ v → within r v ≡ false
above_range r v a =
    let high : int_le v r.high ≡ false = grind (arith, ints) in
    ap (λ b. int_le r.low v && b) high ∙ and_false (int_le r.low v)

pub ruleset ranges = (within_is, below_range, above_range)

-- a counter that goes up is beyond a limit below it
pub beyond_up : (next limit by : ℤ) → pos 0 ≤ℤ by → limit <ℤ next → is_beyond next limit by ≡ true
beyond_up next limit (pos n) up lt = grind (arith, ints)
beyond_up next limit (negsuc n) up lt = absurd (omega (arith, ints))

-- and not beyond another
pub within_up : (next limit by : ℤ) → pos 0 ≤ℤ by → next ≤ℤ limit → is_beyond next limit by ≡ false
within_up next limit (pos n) up le = grind (arith, ints)
within_up next limit (negsuc n) up le = absurd (omega (arith, ints))

-- a counter that goes down is beyond a limit above it
pub beyond_down : (next limit by : ℤ) → by <ℤ pos 0 → next <ℤ limit → is_beyond next limit by ≡ true
beyond_down next limit (negsuc n) down lt = grind (arith, ints)
beyond_down next limit (pos n) down lt = absurd (omega (arith, ints))

-- and not beyond another
pub within_down : (next limit by : ℤ) → by <ℤ pos 0 → limit ≤ℤ next → is_beyond next limit by ≡ false
within_down next limit (negsuc n) down le = grind (arith, ints)
within_down next limit (pos n) down le = absurd (omega (arith, ints))

pub ruleset limits = (beyond_up, within_up, beyond_down, within_down)

-- ---- the cell at a place

-- a cell that is there is the same whatever stands for one that is not
pub any_or : (now : List PlainFrame) (f n : ℕ) → HasNumberIn now f n → cell_at now f n cell.Unset ≡ cell_at now f n cell.Unknown
any_or now f n h =
    let cs = (get_or now f no_frame).cells in
    get_or_from_slice_get cs n (cell_at now f n cell.Unknown) cell.Unset (slice_get-get_or cs n cell.Unknown h.below)

-- the cell of a number slot is read with what it knows
pub content_int : (now : List PlainFrame) (f n : ℕ) (v : ℤ) (s : State) (k : Option ℤ → StepResult) → HasNumberIn now f n
    → cell.Int v ≡ cell_at now f n cell.Unknown → s.now ≡ now → content s f n k ≡ k (Some v)
content_int now f n v s k h is same =
    ap (λ fs. as_content (number_at fs f n) (cell_at fs f n cell.Unset) s k) same
    ∙ ap (λ o. as_content (is_number o) (cell_at now f n cell.Unset) s k) h.kind
    ∙ ap (λ c. as_content true c s k) (any_or now f n h ∙ sym is)

-- and one that knows nothing
pub content_unknown : (now : List PlainFrame) (f n : ℕ) (s : State) (k : Option ℤ → StepResult) → HasNumberIn now f n
    → cell.Unknown ≡ cell_at now f n cell.Unknown → s.now ≡ now → content s f n k ≡ k None
content_unknown now f n s k h is same =
    ap (λ fs. as_content (number_at fs f n) (cell_at fs f n cell.Unset) s k) same
    ∙ ap (λ o. as_content (is_number o) (cell_at now f n cell.Unset) s k) h.kind
    ∙ ap (λ c. as_content true c s k) (any_or now f n h ∙ sym is)

-- what a number slot of a frame holds is a content
pub content_held : (now : List PlainFrame) (f n : ℕ) (c : Cell) → HasNumberIn now f n → c ≡ cell_at now f n cell.Unknown → IsContent c
content_held now f n c h is = subst IsContent (any_or now f n h ∙ sym is) h.content

pub ruleset contents = (content_int, content_unknown, content_held)

-- the slot of a place of one cell
pub one_slot : (now : List PlainFrame) (l : ℕ) (p : CellPlace) → IsCells now l p → l ≡ 1 → HasNumberIn now p.frame p.slot
one_slot now l p h one =
    let here : p.slot + 0 ≡ p.slot = omega arith in
    subst (HasNumberIn now p.frame) here (h.each 0 (omega arith))

-- a number goes to a number slot of a frame
pub store_is : (s : State) (f n : ℕ) (v : ℤ) (k : State → StepResult) → HasNumberIn s.now f n
    → store s f n v k ≡ k (with_cell s f n (cell.Int v))
store_is s f n v k h = ap (λ o. if_true (is_number o) (λ _. k (with_cell s f n (cell.Int v))) (λ _. gets_stuck s)) h.kind

-- ---- writes

-- a number goes into a number slot
pub put_is : (s : State) (n : ℕ) (v : ℤ) → HasNumber s.now n → put_number s n v ≡ quiet_step (with_slot s n (cell.Int v))
put_is s n v h = ap (λ o. to_number o s (λ _. quiet_step (with_slot s n (cell.Int v)))) h.kind

-- a number slot is a slot
pub number_is_slot : (now : List PlainFrame) (n : ℕ) → HasNumber now n → HasSlot now n
number_is_slot now n h = record { some = omega (arith, h.live); below = h.below }

pub ruleset puts = (put_is, number_is_slot)

-- ---- answers

-- what was made, by an equal word
pub makes_is : {M : Type 0} {picture : M → MachinePicture} {old new : Registers M} {answer : Step} {x y : StepResult}
    → Makes picture old new answer x → x ≡ y → Makes picture old new answer y
makes_is {M} {picture} {old} {new} {answer} h e = subst (Makes picture old new answer) e h

-- what was acted on, by an equal word
pub acts_is : {M E : Type 0} (picture : M → MachinePicture) (old new : Registers M) (r : Result Step E) {x y : StepResult}
    → Acts picture old new r x → x ≡ y → Acts picture old new r y
acts_is picture old new r h e = subst (Acts picture old new r) e h

-- what a word gives goes into a slot, or ends the run
pub gives_put : (now : List PlainFrame) (word : State → (ℤ → StepResult) → StepResult) (s : State) (to : ℕ) (result : Result ℤ RunFault)
    → s.now ≡ now → Gives now word result → word s (λ v. put_number s to v) ≡ put_or_fault s to result
gives_put now word s to (Ok v) same h = h s (λ v. put_number s to v) same
gives_put now word s to (Err fault) same h = h s (λ v. put_number s to v) same
