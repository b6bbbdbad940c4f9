-- The first slots of a head, as a list of kinds.
use Rattle.std.proofs.Common.{◌≡◌, ℕ, zero, suc, ◌+◌, List, [], ◌∷◌, ◌++◌, length, take, drop, replicate, refl, sym, ap, ◌∙◌, arith}
use Rattle.std.proofs.Common.{append_assoc}
use Rattle.std.specs.Prelude.{true, Option, Some, None, slice_get}
use Rattle.std.proofs.lemmas.Bool.{and_parts, eqb-true}
use Rattle.std.proofs.Math.Seq.{take-append_seam}
use Rattle.alma_code.specs.declared.cell.SlotKind.{SlotKind}
use Rattle.alma_code.specs.declared.cell.SlotKind.TheVariants as slot
use Rattle.alma_code.specs.declared.head.ParamKind.{ParamKind}
use Rattle.alma_code.specs.declared.head.ParamKind.TheVariants as param
use Rattle.alma_code.specs.declared.head.CodeParam.{CodeParam}
use Rattle.alma_code.specs.Head.{PlainHead}
use Rattle.alma_code.specs.Kinds.{is_number, is_place_of, is_link_of, numbers_from}
use Rattle.alma_code.specs.Layout.{kinds_of, holds_param, param_slots, hold_params, IsHead}

-- the kinds of the slots of a parameter
abbrev pub param_kinds : ParamKind → ℕ → List SlotKind
param_kinds param.Value n = slot.Number ∷ []
param_kinds param.Place n = slot.Place n ∷ []
param_kinds param.Mix n = slot.Place 1 ∷ slot.Number ∷ []
param_kinds param.Cells n = replicate n slot.Number
param_kinds param.Link n = slot.Link n ∷ []

-- the kinds of the slots of the parameters, in order
abbrev pub params_kinds : List CodeParam → List SlotKind
params_kinds [] = []
params_kinds (p ∷ ps) = param_kinds p.kind p.cells ++ params_kinds ps

-- a slot that is a number slot
pub number_is : (o : Option SlotKind) → is_number o ≡ true → o ≡ Some slot.Number
number_is (Some slot.Number) e = refl
number_is (Some (slot.Place l)) e = absurd (cc)
number_is (Some slot.Mark) e = absurd (cc)
number_is (Some (slot.Link q)) e = absurd (cc)
number_is None e = absurd (cc)

-- a slot that is a place slot of this length
pub place_of_is : (n : ℕ) (o : Option SlotKind) → is_place_of n o ≡ true → o ≡ Some (slot.Place n)
place_of_is n (Some (slot.Place l)) e = ap (λ m. Some (slot.Place m)) (eqb-true l n e)
place_of_is n (Some slot.Number) e = absurd (cc)
place_of_is n (Some slot.Mark) e = absurd (cc)
place_of_is n (Some (slot.Link q)) e = absurd (cc)
place_of_is n None e = absurd (cc)

-- a slot that is a link slot for frames of this routine
pub link_of_is : (r : ℕ) (o : Option SlotKind) → is_link_of r o ≡ true → o ≡ Some (slot.Link r)
link_of_is r (Some (slot.Link q)) e = ap (λ m. Some (slot.Link m)) (eqb-true q r e)
link_of_is r (Some slot.Number) e = absurd (cc)
link_of_is r (Some (slot.Place l)) e = absurd (cc)
link_of_is r (Some slot.Mark) e = absurd (cc)
link_of_is r None e = absurd (cc)

-- a list begins with what stands at its head
take-one : (k : SlotKind) (ks : List SlotKind) (i : ℕ) → slice_get ks i ≡ Some k → drop i ks ≡ k ∷ drop (suc i) ks
take-one k [] i e = absurd (cc)
take-one k (x ∷ ks) zero e = let same : x ≡ k = cc in ap (λ y. y ∷ ks) same
take-one k (x ∷ ks) (suc i) e = take-one k ks i e

-- number slots stand one after another
numbers-drop : (n : ℕ) (ks : List SlotKind) (i : ℕ) → numbers_from n ks i ≡ true → drop i ks ≡ replicate n slot.Number ++ drop (i + n) ks
numbers-drop zero ks i e = let z : i ≡ i + 0 = omega arith in ap (λ j. drop j ks) z
numbers-drop (suc n) ks i e =
    let both = and_parts (is_number (slice_get ks i)) (numbers_from n ks (suc i)) e in
    let z : suc i + n ≡ i + suc n = omega arith in
    take-one slot.Number ks i (number_is (slice_get ks i) both.0)
    ∙ ap (λ rest. slot.Number ∷ rest) (numbers-drop n ks (suc i) both.1 ∙ ap (λ j. replicate n slot.Number ++ drop j ks) z)

-- the slots of a parameter stand where they must
param-drop : (ks : List SlotKind) (kind : ParamKind) (n i : ℕ) → holds_param ks kind n i ≡ true
    → drop i ks ≡ param_kinds kind n ++ drop (i + param_slots kind n) ks
param-drop ks param.Value n i e =
    let z : suc i ≡ i + 1 = omega arith in
    take-one slot.Number ks i (number_is (slice_get ks i) e) ∙ ap (λ j. slot.Number ∷ drop j ks) z
param-drop ks param.Place n i e =
    let z : suc i ≡ i + 1 = omega arith in
    take-one (slot.Place n) ks i (place_of_is n (slice_get ks i) e) ∙ ap (λ j. slot.Place n ∷ drop j ks) z
param-drop ks param.Mix n i e =
    let both = and_parts (is_place_of 1 (slice_get ks i)) (is_number (slice_get ks (suc i))) e in
    let z : suc (suc i) ≡ i + 2 = omega arith in
    take-one (slot.Place 1) ks i (place_of_is 1 (slice_get ks i) both.0)
    ∙ ap (λ rest. slot.Place 1 ∷ rest) (take-one slot.Number ks (suc i) (number_is (slice_get ks (suc i)) both.1)
    ∙ ap (λ j. slot.Number ∷ drop j ks) z)
param-drop ks param.Cells n i e = numbers-drop n ks i e
param-drop ks param.Link n i e =
    let z : suc i ≡ i + 1 = omega arith in
    take-one (slot.Link n) ks i (link_of_is n (slice_get ks i) e) ∙ ap (λ j. slot.Link n ∷ drop j ks) z

-- the slots that hold parameters
params-drop : (ks : List SlotKind) (ps : List CodeParam) (i : ℕ) → hold_params ks ps i ≡ true → (j : ℕ)
    × (drop i ks ≡ params_kinds ps ++ drop j ks)
params-drop ks [] i e = (i, refl)
params-drop ks (p ∷ ps) i e =
    let both = and_parts (holds_param ks p.kind p.cells i) (hold_params ks ps (i + param_slots p.kind p.cells)) e in
    let rest = params-drop ks ps (i + param_slots p.kind p.cells) both.1 in (
      rest.0,
      param-drop ks p.kind p.cells i both.0 ∙ ap (λ xs. param_kinds p.kind p.cells ++ xs) rest.1
          ∙ sym (append_assoc (param_kinds p.kind p.cells) (params_kinds ps) (drop rest.0 ks)),
    )

-- the first slots of a head are those of its parameters
pub first-kinds : (h : PlainHead) → IsHead h → take (length (params_kinds h.params)) (kinds_of 0 h.runs) ≡ params_kinds h.params
first-kinds h head =
    let found = params-drop (kinds_of 0 h.runs) h.params 0 head.first in
    ap (take (length (params_kinds h.params))) found.1 ∙ take-append_seam (params_kinds h.params) (drop found.0 (kinds_of 0 h.runs))
