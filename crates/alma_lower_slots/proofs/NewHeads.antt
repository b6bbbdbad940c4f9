-- The new heads: their runs, and the kinds that they name.
use Rattle.std.proofs.Common.{◌≡◌, ℕ, ◌+◌, ◌-◌, ◌<◌, Bool, true, false, not, List, [], ◌∷◌, ◌++◌, length, replicate, refl, sym}
use Rattle.std.proofs.Common.{ap}
use Rattle.std.proofs.Common.{◌∙◌, subst, arith}
use Rattle.std.specs.Prelude.{slice_get}
use Rattle.std.proofs.lemmas.Bool.{and_parts, and_from, eqb-true, false≢true}
use Rattle.std.proofs.lemmas.List.{length-append, length-replicate}
use Rattle.alma_code.specs.declared.cell.SlotKind.{SlotKind}
use Rattle.alma_code.specs.declared.cell.SlotKind.TheVariants as slot
use Rattle.alma_code.specs.declared.head.Run.{Run}
use Rattle.alma_code.specs.Layout.{RunsRise, kinds_of}
use Rattle.alma_code.specs.Plain.{PlainCode, head_at, kinds_at, routine_at}
use Rattle.alma_code.specs.Records.{same_kind, runs_differ}
use Rattle.alma_code.specs.Rules.{IsSound, last_end}
use Rattle.alma_lower_slots.specs.declared.stretch.Stretch.{Stretch}
use Rattle.alma_lower_slots.specs.Runs.{HasHead}
use Rattle.alma_lower_slots.specs.Inner.Shared.{HeadBehind, slot_in}
use Rattle.alma_lower_templates.specs.Runs.{RunsDiffer}

-- ---- runs that differ

-- two kinds that test as one are one
kind_is : (a b : SlotKind) → same_kind a b ≡ true → a ≡ b
kind_is slot.Number slot.Number e = refl
kind_is (slot.Place m) (slot.Place n) e = ap slot.Place (eqb-true m n e)
kind_is slot.Mark slot.Mark e = refl
kind_is (slot.Link m) (slot.Link n) e = ap slot.Link (eqb-true m n e)
kind_is a b e = absurd (let bad : false ≡ true = e in false≢true bad)

-- two that are not one test as two
kinds_differ : (a b : SlotKind) → (a ≡ b → ⊥) → same_kind a b ≡ false
kinds_differ a b h = by (same_kind a b) refl
  where
    by : (t : Bool) → same_kind a b ≡ t → t ≡ false
    by false e = refl
    by true e = absurd (h (kind_is a b e))

-- runs that differ test so
differ_is : (runs : List Run) → RunsDiffer runs → runs_differ runs ≡ true
differ_is [] h = refl
differ_is (a ∷ []) h = refl
differ_is (a ∷ (b ∷ rest)) h =
    and_from (not (same_kind a.kind b.kind)) (runs_differ (b ∷ rest)) (ap not (kinds_differ a.kind b.kind h.0)) (differ_is (b ∷ rest) h.1)

-- ---- how many slots

-- runs that rise name as many kinds as there are slots below their top
kinds_length : (low top : ℕ) (runs : List Run) → RunsRise low runs top → length (kinds_of low runs) + low ≡ top
kinds_length low top [] h = rw h (omega arith)
kinds_length low top (r ∷ rs) h =
    let rest : length (kinds_of r.end rs) + r.end ≡ top = kinds_length r.end top rs h.1 in
    let len : length (replicate (r.end - low) r.kind ++ kinds_of r.end rs) ≡ (r.end - low) + length (kinds_of r.end rs) =
    length-append (replicate (r.end - low) r.kind) (kinds_of r.end rs)
    ∙ ap (λ n. n + length (kinds_of r.end rs)) (length-replicate (r.end - low) r.kind) in
    omega (arith, h.0)

-- a routine of a sound code has as many kinds as slots
pub sound_slots : (code : PlainCode) → IsSound code → (r : ℕ) → r < length code.routines → length (kinds_at code r) ≡ (head_at code r).slots
sound_slots code sound r lt =
    let two = (sound.heads r lt).1 in
    let ends = (and_parts _ _ (and_parts _ _ two).0).0 in
    let top : last_end 0 (head_at code r).runs ≡ (head_at code r).slots = eqb-true _ _ ends in
    omega (arith, top, kinds_length 0 (last_end 0 (head_at code r).runs) (head_at code r).runs (sound.table.runs r lt))

-- ---- a new head

-- it names the kinds that it is to
kinds_then : (code new : PlainCode) (r : ℕ) (stretches : List Stretch)
    → (h : HeadBehind (routine_at code r) (kinds_at code r) stretches (routine_at new r)) → kinds_at new r ≡ h.kinds_then
kinds_then code new r stretches h = h.head.runs.names

-- each slot keeps its kind under its new number
pub kind_kept : (code new : PlainCode) (r : ℕ) (stretches : List Stretch)
    → HeadBehind (routine_at code r) (kinds_at code r) stretches (routine_at new r) → (n : ℕ) → n < length (kinds_at code r)
    → slice_get (kinds_at new r) (slot_in stretches n) ≡ slice_get (kinds_at code r) n
kind_kept code new r stretches h n lt =
    ap (λ l. slice_get l (slot_in stretches n)) (kinds_then code new r stretches h) ∙ h.over.named n lt

-- the head of a routine behind a renaming
pub has_head : (code new : PlainCode) → IsSound code → (r : ℕ) → r < length code.routines → (stretches : List Stretch)
    → HeadBehind (routine_at code r) (kinds_at code r) stretches (routine_at new r) → HasHead code new r
has_head code new sound r lt stretches h =
    let same = kinds_then code new r stretches h in
    record {
      rise = subst (RunsRise 0 (head_at new r).runs) (sym h.head.slots) h.head.runs.ends;
      differ = differ_is (head_at new r).runs h.head.runs.longest;
      fewer = omega (arith, h.head.slots, h.over.fewer, sound_slots code sound r lt);
      declared = omega (arith, h.head.declared, h.head.slots, h.head.enough);
      from = λ j below.
          let there : j < length h.kinds_then = subst (λ l. j < length l) same below in
          let found = h.over.from j there in
          (found.0, found.1, ap (λ l. slice_get l j) same ∙ found.2);
    }
