-- Words of an instruction that is taken in two states that are alike: slots that they name are read and written.
use Rattle.std.proofs.Common.{◌≡◌, ℕ, ◌<◌, [], ◌∷◌, length, get_or, sym, subst, Option, Some, None}
use Rattle.std.specs.Prelude.{ℤ, slice_get, Bool, true, ◌&&◌}
use Rattle.std.specs.List.{list_all}
use Rattle.std.proofs.lemmas.Bool.{and_parts}
use Rattle.std.proofs.lemmas.Option.{slice_get_within}
use Rattle.alma_base.specs.Numbers.{is_integer, within}
use Rattle.alma_base.specs.declared.fault.RunFault.{RunFault}
use Rattle.alma_base.specs.declared.fault.RunFault.TheVariants as fault
use Rattle.alma_base.specs.declared.number.Range.{Range}
use Rattle.alma_code.specs.declared.cell.CellPlace.{CellPlace}
use Rattle.alma_code.specs.declared.cell.SlotKind.TheVariants as slot
use Rattle.alma_code.specs.declared.instr.Instr.{Instr}
use Rattle.alma_code.specs.declared.instr.Word.TheVariants as W
use Rattle.alma_code.specs.Plain.{PlainCode, kinds_at}
use Rattle.alma_code.specs.Rules.{kind_in, length_in, link_in, names_slot}
use Rattle.alma_code.specs.Fits.{routines_of}
use Rattle.alma_code.specs.Machine.{State, StepResult, ends_in_fault, number, place, link, put_number, put_place, put_link}
use Rattle.alma_code.specs.Machine.{integer_result}
use Rattle.alma_code.specs.Machine.{as_range, range_check, optional_range_check, with_known_content}
use Rattle.alma_code.proofs.Heads.{number_is}
use Rattle.alma_code_laws.proofs.Acts.{number_word, place_word}
use Rattle.alma_code_laws.proofs.Links.{link_word}
use Rattle.alma_lower_slots.specs.Slots.{target_slot}
use Rattle.alma_lower_slots.specs.Sharing.{Sharing, matters}
use Rattle.alma_lower_slots.proofs.Alike.{AlikeRest, AlikeStep, Doing}
use Rattle.alma_lower_slots.proofs.Settles.{Shared, stuck_alike, fault_alike, if_alike, number_alike, place_alike, link_alike}
use Rattle.alma_lower_slots.proofs.Settles.{put_number_alike, put_place_alike, put_link_alike}
use Rattle.alma_lower_slots.proofs.OwnSlots.{IsOwn, place_is_own, link_leads}

-- ---- what holds of the slots of a list

-- of the only one
pub one_of : (p : ℕ → Bool) (a : ℕ) → list_all p (a ∷ []) ≡ true → p a ≡ true
one_of p a e = (and_parts (p a) true e).0

-- of both
pub two_of : (p : ℕ → Bool) (a b : ℕ) → list_all p (a ∷ b ∷ []) ≡ true → (p a ≡ true) × (p b ≡ true)
two_of p a b e =
    let x = and_parts (p a) (p b && true) e in
    (x.0, (and_parts (p b) true x.1).0)

-- of all three
pub three_of : (p : ℕ → Bool) (a b c : ℕ) → list_all p (a ∷ b ∷ c ∷ []) ≡ true → (p a ≡ true) × (p b ≡ true) × (p c ≡ true)
three_of p a b c e =
    let x = and_parts (p a) (p b && (p c && true)) e in
    let y = and_parts (p b) (p c && true) x.1 in
    (x.0, y.0, (and_parts (p c) true y.1).0)

-- ---- slots that words name are slots of the routine

-- a number slot
pub number_there : (code : PlainCode) (r n : ℕ) → names_slot code r (W.Number n) ≡ true → n < length (kinds_at code r)
number_there code r n e = slice_get_within (kinds_at code r) n slot.Number (number_is (kind_in code r n) (number_word code r n e).1)

-- a place slot
pub place_there : (code : PlainCode) (r n : ℕ) → names_slot code r (W.Place n) ≡ true → n < length (kinds_at code r)
place_there code r n e = slice_get_within (kinds_at code r) n (slot.Place (length_in code r n)) (place_word code r n e).1

-- a link slot
pub link_there : (code : PlainCode) (r n : ℕ) → names_slot code r (W.Link n) ≡ true → n < length (kinds_at code r)
link_there code r n e = slice_get_within (kinds_at code r) n (slot.Link (link_in code r n)) (link_word code r n e).1

module _ {code new : PlainCode} {s : Sharing} where
  -- ---- reads

  -- a number slot is read
  pub read_number : {r at : ℕ} {i : Instr} {t t' : State} → Doing code new s r at i t t' → (n : ℕ)
      → names_slot code r (W.Number n) ≡ true → matters s r at n ≡ true → (k k' : ℤ → StepResult)
      → ((v : ℤ) → AlikeStep code new s (k v) (k' v)) → AlikeStep code new s (number t n k) (number t' (s.slot r n) k')
  read_number {r} h n e m k k' good = number_alike h n (number_there code r n e) m k k' (λ v _. good v)

  -- two are
  pub read_two : {r at : ℕ} {i : Instr} {t t' : State} → Doing code new s r at i t t' → (b c : ℕ)
      → names_slot code r (W.Number b) ≡ true → names_slot code r (W.Number c) ≡ true
      → list_all (λ n. matters s r at n) (b ∷ c ∷ []) ≡ true → (k k' : ℤ → ℤ → StepResult)
      → ((x y : ℤ) → AlikeStep code new s (k x y) (k' x y))
      → AlikeStep code new s (number t b (λ x. number t c (λ y. k x y)))
      (number t' (s.slot r b) (λ x. number t' (s.slot r c) (λ y. k' x y)))
  read_two {r} {at} {i} {t} {t'} h b c eb ec m k k' good =
      let both = two_of (λ n. matters s r at n) b c m in
      read_number h b eb both.0 (λ x. number t c (λ y. k x y)) (λ x. number t' (s.slot r c) (λ y. k' x y))
      (λ x. read_number h c ec both.1 (λ y. k x y) (λ y. k' x y) (λ y. good x y))

  -- a place slot is read
  pub read_place : {r at : ℕ} {i : Instr} {t t' : State} → Doing code new s r at i t t' → (n : ℕ)
      → names_slot code r (W.Place n) ≡ true → matters s r at n ≡ true → (k k' : CellPlace → StepResult)
      → ((p : CellPlace) → p.len ≡ length_in code r n → IsOwn code s t p → AlikeStep code new s (k p) (k' p))
      → AlikeStep code new s (place t n k) (place t' (s.slot r n) k')
  read_place {r} h n e m k k' good =
      place_alike h n (place_there code r n e) m k k' (λ p is.
      let own = place_is_own h n (length_in code r n) p (place_word code r n e).1 is in
      good p own.0 own.1)

  -- a link slot is read
  pub read_link : {r at : ℕ} {i : Instr} {t t' : State} → Doing code new s r at i t t' → (n : ℕ)
      → names_slot code r (W.Link n) ≡ true → matters s r at n ≡ true → (k k' : ℕ → StepResult)
      → ((f : ℕ) → f < length t.now → get_or (routines_of t.now) f 0 ≡ link_in code r n → AlikeStep code new s (k f) (k' f))
      → AlikeStep code new s (link t n k) (link t' (s.slot r n) k')
  read_link {r} h n e m k k' good =
      link_alike h n (link_there code r n e) m k k' (λ p is.
      let leads = link_leads h n (link_in code r n) p (link_word code r n e).1 is in
      good p.frame leads.0 leads.1)

  -- ---- writes

  -- a number slot is written
  pub write_number : {r at : ℕ} {i : Instr} {t t' : State} → Shared code new s → Doing code new s r at i t t' → (n : ℕ) (v : ℤ)
      → names_slot code r (W.Number n) ≡ true → target_slot code i ≡ Some n
      → AlikeStep code new s (put_number t n v) (put_number t' (s.slot r n) v)
  write_number {r} w h n v e is = put_number_alike w h n v (number_there code r n e) is

  -- a place slot is written
  pub write_place : {r at : ℕ} {i : Instr} {t t' : State} → Shared code new s → Doing code new s r at i t t' → (n : ℕ)
      → names_slot code r (W.Place n) ≡ true → target_slot code i ≡ Some n → (frame : ℕ) (first : ℕ → ℕ)
      → AlikeStep code new s (put_place t n frame first) (put_place t' (s.slot r n) frame first)
  write_place {r} w h n e is frame first = put_place_alike w h n (place_there code r n e) is frame first

  -- a link slot is written
  pub write_link : {r at : ℕ} {i : Instr} {t t' : State} → Shared code new s → Doing code new s r at i t t' → (n : ℕ)
      → names_slot code r (W.Link n) ≡ true → target_slot code i ≡ Some n → (frame : ℕ)
      → AlikeStep code new s (put_link t n frame) (put_link t' (s.slot r n) frame)
  write_link {r} w h n e is frame = put_link_alike w h n (link_there code r n e) is frame

  -- ---- numbers and ranges

  -- a result that may be outside INTEGER
  pub fitted_alike : {t t' : State} → AlikeRest code new s t t' → (v : ℤ) (k k' : ℤ → StepResult)
      → ((x : ℤ) → AlikeStep code new s (k x) (k' x)) → AlikeStep code new s (integer_result t v k) (integer_result t' v k')
  fitted_alike {t} {t'} h v k k' good = if_alike (is_integer v) (λ _. k v) (λ _. ends_in_fault fault.Overflow t) (λ _. k' v)
      (λ _. ends_in_fault fault.Overflow t') (λ _. good v) (λ _. fault_alike fault.Overflow h)

  -- a number that may be out of range
  pub ranged_alike : {t t' : State} → AlikeRest code new s t t' → (range : Range) (f : RunFault) (v : ℤ) (k k' : Unit {0} → StepResult)
      → AlikeStep code new s (k tt) (k' tt) → AlikeStep code new s (range_check range f t v k) (range_check range f t' v k')
  ranged_alike {t} {t'} h range f v k k' good = if_alike (within range v) k (λ _. ends_in_fault f t) k' (λ _. ends_in_fault f t')
      (λ _. good) (λ _. fault_alike f h)

  -- the same where there is a range
  pub ranged_if_alike : {t t' : State} → AlikeRest code new s t t' → (range : Option Range) (v : ℤ) (k k' : Unit {0} → StepResult)
      → AlikeStep code new s (k tt) (k' tt) → AlikeStep code new s (optional_range_check range t v k) (optional_range_check range t' v k')
  ranged_if_alike h (Some range) v k k' good = ranged_alike h range fault.Range v k k' good
  ranged_if_alike h None v k k' good = good

  -- a range of the code that is there, or is not
  as_range_alike : {t t' : State} → AlikeRest code new s t t' → (o : Option Range) (k k' : Range → StepResult)
      → ((range : Range) → AlikeStep code new s (k range) (k' range)) → AlikeStep code new s (as_range o t k) (as_range o t' k')
  as_range_alike h (Some range) k k' good = good range
  as_range_alike h None k k' good = stuck_alike h

  -- a range of the code, which is one of the other code
  pub range_alike : {t t' : State} → Shared code new s → AlikeRest code new s t t' → (n : ℕ) (k k' : Range → StepResult)
      → ((range : Range) → AlikeStep code new s (k range) (k' range))
      → AlikeStep code new s (as_range (slice_get code.ranges n) t k) (as_range (slice_get new.ranges n) t' k')
  range_alike {t} {t'} w h n k k' good =
      subst (λ ranges. AlikeStep code new s (as_range (slice_get code.ranges n) t k) (as_range (slice_get ranges n) t' k'))
      (sym w.renames.ranges) (as_range_alike h (slice_get code.ranges n) k k' good)

  -- a content that may be unknown
  pub known_alike : {t t' : State} → AlikeRest code new s t t' → (o : Option ℤ) (k k' : ℤ → StepResult)
      → ((v : ℤ) → AlikeStep code new s (k v) (k' v)) → AlikeStep code new s (with_known_content t o k) (with_known_content t' o k')
  known_alike h (Some v) k k' good = good v
  known_alike h None k k' good = fault_alike fault.Unknown h
