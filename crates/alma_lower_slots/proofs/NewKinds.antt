-- The kinds of the new slots, from the names of all slots.
use Rattle.std.proofs.Common.{◌≡◌, ℕ, ◌<◌, ◌≤◌, List, length, map, take, get_or, sym, ap, ◌∙◌, arith}
use Rattle.std.specs.Prelude.{Option, Some, None, Result, Ok, Err, IfOk, IfSome, Vec, slice_get}
use Rattle.std.specs.declared.alloc.Global.{Global}
use Rattle.std.proofs.lemmas.List.{length-map, length-take-le, get_or-map, get_or-take}
use Rattle.std.proofs.lemmas.Option.{slice_get-get_or}
use Rattle.alma_code.specs.declared.cell.SlotKind.{SlotKind}
use Rattle.alma_code.specs.declared.cell.SlotKind.TheVariants as slot
use Rattle.alma_lower_slots.specs.declared.stretch.Stretch.{Stretch}
use Rattle.alma_lower_slots.specs.Inner.Shared.{KindsFor, NamesSoFar, slot_in}

-- where the first so many are named, there are so many
named_count : (new : List SlotKind) (named : List (Option SlotKind)) (count : ℕ) → count ≤ length named → map Some new ≡ take count named
    → length new ≡ count
named_count new named count low is = sym (length-map new Some) ∙ ap length is ∙ length-take-le count named low

-- each of them is the name at its place
named_at : (new : List SlotKind) (named : List (Option SlotKind)) (count j : ℕ) → count ≤ length named → map Some new ≡ take count named
    → j < length new → slice_get new j ≡ get_or named j None
named_at new named count j low is lt =
    let few : j < count = omega (arith, named_count new named count low is, lt) in
    slice_get-get_or new j slot.Number lt
    ∙ sym (get_or-map Some new j slot.Number None lt)
    ∙ ap (λ x. get_or x j None) is
    ∙ get_or-take count named j None few

-- all slots are named, and so are all numbers
pub kinds_for : (kinds new : List SlotKind) (stretches : List Stretch) (named : List (Option SlotKind)) (count : ℕ)
    → NamesSoFar kinds stretches (length kinds) named count → map Some new ≡ take count named → KindsFor kinds stretches new
kinds_for kinds new stretches named count h is =
    let low : count ≤ length named = omega (arith, h.low, h.size) in
    let many : length new ≡ count = named_count new named count low is in
    record {
      fewer = omega (arith, many, h.low);
      named = λ n lt.
          let there : slot_in stretches n < length new = omega (arith, h.below n lt, many) in
          named_at new named count (slot_in stretches n) low is there ∙ h.placed n lt;
      from = λ j lt.
          let at : slice_get new j ≡ get_or named j None = named_at new named count j low is lt in
          let some : slice_get new j ≡ Some (get_or new j slot.Number) = slice_get-get_or new j slot.Number lt in
          let found = h.from j (λ e. none_some _ (sym (at ∙ e) ∙ some)) in
          (found.0, found.1, at ∙ found.2);
    }
  where
    none_some : (k : SlotKind) → None ≡ Some k → ⊥
    none_some k e = cc

-- what a search for them gives
pub kinds_found : {E : Type 0} (found : Result (Option (Vec SlotKind Global)) E) (kinds : List SlotKind) (stretches : List Stretch)
    (named named2 : List (Option SlotKind)) (count : ℕ) → named2 ≡ named → NamesSoFar kinds stretches (length kinds) named count
    → IfOk found (λ some. IfSome some (λ new. map Some new.items ≡ take count named2))
    → IfOk found (λ some. IfSome some (λ new. KindsFor kinds stretches new.items))
kinds_found (Ok (Some new)) kinds stretches named named2 count is h e =
    kinds_for kinds new.items stretches named count h (e ∙ ap (take count) is)
kinds_found (Ok None) kinds stretches named named2 count is h e = tt
kinds_found (Err e2) kinds stretches named named2 count is h e = tt
