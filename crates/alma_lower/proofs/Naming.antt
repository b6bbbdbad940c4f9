-- The code of a program keeps its names.
use Rattle.std.proofs.Common.{◌≡◌, ◌<◌, ◌∙◌, ℕ, suc, List, [], ◌∷◌, length, get_or, refl, ap, arith}
use Rattle.std.specs.Prelude.{map}
use Rattle.alma_ir.specs.Tree.{Program, Routine}
use Rattle.alma_ir.specs.Tree as tree
use Rattle.alma_code.specs.Plain.{PlainCode, PlainRoutine}
use Rattle.alma_code.specs.Plain as plain
use Rattle.alma_lower_templates.specs.CodeOf.{IsCodeOf}
use Rattle.alma_lower_sound.proofs.Whole.{count, name_is}
use Rattle.alma_lower.specs.Names.{KeepsNames}

abbrev names_of : List PlainRoutine → List (List ℕ)
names_of rs = map (λ r. r.name) rs

-- routines with the same names, one by one
names_alike : (xs : List PlainRoutine) (ys : List Routine) → length xs ≡ length ys
    → ((r : ℕ) → r < length xs → (get_or xs r plain.no_routine).name ≡ (get_or ys r tree.no_routine).name)
    → names_of xs ≡ map (λ (y : Routine). y.name) ys
names_alike [] [] e h = refl
names_alike [] (y ∷ ys) e h = absurd (omega (arith, e))
names_alike (x ∷ xs) [] e h = absurd (omega (arith, e))
names_alike (x ∷ xs) (y ∷ ys) e h =
    ap (λ (n : List ℕ). n ∷ names_of xs) (h 0 (omega arith))
    ∙ ap (λ (ns : List (List ℕ)). y.name ∷ ns) (names_alike xs ys (omega (arith, e)) (λ r lt. h (suc r) (omega (arith, lt))))

-- the code of a program has its variables and the names of its routines
pub keeps_names : (p : Program) (code : PlainCode) → IsCodeOf p code → KeepsNames code p
keeps_names p code is_code = record {
  variables = ap (λ (c : PlainCode). c.globals) is_code.is;
  routines = names_alike code.routines p.routines (count p code is_code)
      (λ r lt. name_is p code is_code r (omega (arith, lt, count p code is_code)));
}

-- and version 2
pub version_is : (p : Program) (code : PlainCode) → IsCodeOf p code → code.version ≡ 2
version_is p code is_code = ap (λ (c : PlainCode). c.version) is_code.is
