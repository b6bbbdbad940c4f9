-- Names and the places of globals.
use Rattle.std.proofs.Common.{◌≡◌, ◌∙◌, ℕ, zero, suc, ◌+◌, ◌<◌, ◌≤◌, Bool, true, false, List, [], ◌∷◌, length, get_or, drop, drop-cons, ap}
use Rattle.std.proofs.Common.{sym, subst, arith, refl, bytes_eq, nat_eq}
use Rattle.std.specs.Prelude.{◌&&◌, Option, Some, None, MatchOption, not, nat_lt, slice_get}
use Rattle.std.specs.List.{list_all}
use Rattle.std.proofs.lemmas.Bool.{and_parts}
use Rattle.std.proofs.lemmas.Option.{slice_get_within, get_or_from_slice_get}
use Rattle.std.proofs.lemmas.List.{at_drop_all}
use Rattle.alma_base.specs.Choice.{if_true}
use Rattle.alma_code_laws.proofs.Acts.{numbers_from_at}
use Rattle.alma_code.specs.declared.cell.SlotKind.TheVariants as slot
use Rattle.alma_code.specs.Kinds.{numbers_from}
use Rattle.alma_code.specs.Plain.{PlainCode, PlainGlobal, head_at, kinds_at, start_at, end_at}
use Rattle.alma_code.specs.Rules.{IsSound, cells_in, is_free, is_global, is_main}
use Rattle.alma_code.specs.TraceText.{same_name}
use Rattle.alma_trace.specs.Resolved.{ResolvedAreOfModule, place_of_name}

-- names are alike where their bytes are
pub same_is : (a b : List ℕ) → bytes_eq a b ≡ same_name a b
same_is [] [] = refl
same_is [] (y ∷ b) = refl
same_is (x ∷ a) [] = refl
same_is (x ∷ a) (y ∷ b) = ap (λ (z : Bool). nat_eq x y && z) (same_is a b)

-- the globals from one on, by the first of them
from_one : (globals : List PlainGlobal) (i : ℕ) (g : PlainGlobal) (name : List ℕ) → slice_get globals i ≡ Some g
    → place_of_name (drop i globals) name ≡ if_true (same_name g.name name) (λ _. Some (g.slot, g.cells))
    (λ _. place_of_name (drop (suc i) globals) name)
from_one globals i g name h =
    let lt : i < length globals = slice_get_within globals i g h in
    let here : get_or globals i g ≡ g = get_or_from_slice_get globals i g g h in
    ap (λ (gs : List PlainGlobal). place_of_name gs name)
    (drop-cons globals i g lt ∙ ap (λ (x : PlainGlobal). x ∷ drop (suc i) globals) here)

-- one that has the name
pub found : (globals : List PlainGlobal) (i : ℕ) (g : PlainGlobal) (name : List ℕ) → slice_get globals i ≡ Some g
    → same_name g.name name ≡ true
    → place_of_name (drop i globals) name ≡ Some (g.slot, g.cells)
found globals i g name h e =
    from_one globals i g name h ∙ ap (λ b. if_true b (λ _. Some (g.slot, g.cells)) (λ _. place_of_name (drop (suc i) globals) name)) e

-- one that has not
pub passed : (globals : List PlainGlobal) (i : ℕ) (g : PlainGlobal) (name : List ℕ) → slice_get globals i ≡ Some g
    → same_name g.name name ≡ false
    → place_of_name (drop i globals) name ≡ place_of_name (drop (i + 1) globals) name
passed globals i g name h e =
    let one : suc i ≡ i + 1 = omega arith in
    from_one globals i g name h ∙ ap (λ b. if_true b (λ _. Some (g.slot, g.cells)) (λ _. place_of_name (drop (suc i) globals) name)) e
    ∙ ap (λ (k : ℕ). place_of_name (drop k globals) name) one

-- behind the last there is none
pub none_left : (globals : List PlainGlobal) (i : ℕ) (name : List ℕ) → length globals ≤ i → place_of_name (drop i globals) name ≡ None
none_left globals i name h = at_drop_all (λ (gs : List PlainGlobal). place_of_name gs name) globals i h

-- the cells of a global are slots of the frame of the module
cells_room : (code : PlainCode) (i n : ℕ) → cells_in code 0 i n ≡ true → 0 < n → i + n ≤ length (kinds_at code 0)
cells_room code i zero h lt = absurd (omega arith)
cells_room code i (suc n) h lt =
    let numbers = (and_parts (is_free code 0 i) (numbers_from (suc n) (kinds_at code 0) i) h).1 in
    let last = slice_get_within (kinds_at code 0) (i + n) slot.Number
    (numbers_from_at code (suc n) (kinds_at code 0) i n numbers (omega arith)) in
    omega (arith, last)

-- one of two places is within so many slots where each is
within_choice : (slots : ℕ) (b : Bool) (here : ℕ × ℕ) (rest : Option (ℕ × ℕ)) → (0 < here.1 → here.0 + here.1 ≤ slots)
    → MatchOption rest (Unit {0}) (λ place. 0 < place.1 → place.0 + place.1 ≤ slots)
    → MatchOption (if_true b (λ _. Some here) (λ _. rest)) (Unit {0}) (λ place. 0 < place.1 → place.0 + place.1 ≤ slots)
within_choice slots true here rest h k = h
within_choice slots false here rest h k = k

-- the place of a name is within the frame of the module
pub place_within : (code : PlainCode) (globals : List PlainGlobal) (name : List ℕ) → list_all (is_global code) globals ≡ true
    → MatchOption (place_of_name globals name) (Unit {0}) (λ place. 0 < place.1 → place.0 + place.1 ≤ length (kinds_at code 0))
place_within code [] name h = tt
place_within code (g ∷ rest) name h =
    let parts = and_parts (is_global code g) (list_all (is_global code) rest) h in
    within_choice (length (kinds_at code 0)) (same_name g.name name) (g.slot, g.cells) (place_of_name rest name)
    (cells_room code g.slot g.cells parts.0) (place_within code rest name parts.1)

-- the globals of a sound code are its
pub globals_sound : (code : PlainCode) → IsSound code → list_all (is_global code) code.globals ≡ true
globals_sound code sound =
    let all = list_all (is_global code) code.globals in
    let main = (and_parts (nat_lt (start_at code 0) (end_at code 0)) (is_main code 0) (sound.heads 0 sound.table.some).0).1 in
    let two = (and_parts (nat_eq (length (head_at code 0).params) 0) (not (head_at code 0).has_result && all) main).1 in
    (and_parts (not (head_at code 0).has_result) all two).1

-- the places of all watches
pub resolved_are_of_module : (code : PlainCode) → ResolvedAreOfModule code
resolved_are_of_module code =
    λ watches sound h k d lt.
    subst (λ (at : Option (ℕ × ℕ)). MatchOption at (Unit {0}) (λ place. 0 < place.1 → place.0 + place.1 ≤ length (kinds_at code 0)))
    (sym (h k d lt)) (place_within code code.globals (get_or watches k d).name.now (globals_sound code sound))
