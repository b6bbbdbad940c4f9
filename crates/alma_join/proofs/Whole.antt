-- The joined program of its parts.
use Rattle.std.proofs.Common.{◌≡◌, ◌+◌, ◌<◌, List, [], ◌∷◌, length, get_or, map, ap, ◌∙◌, arith, None}
use Rattle.alma_ir.specs.declared.program.Program as whole
use Rattle.alma_ir.specs.Tree.{Program, routine_at}
use Rattle.alma_ir.specs.View.{program_of}
use Rattle.alma_join.specs.Joined.{or_next, import_fault, size_fault, no_totals, kept_in, join_fault, first_of, joined_program}
use Rattle.alma_join.specs.declared.part.Parts.{Parts}
use Rattle.alma_join.specs.Parts.{ArePartsOf, with_body}

pub first_is : (units : List whole.Program) (x : whole.Program) → 0 < length units → x ≡ get_or units 0 x
    → program_of x ≡ first_of (map program_of units)
first_is [] x some is = absurd (omega (arith, some))
first_is (y ∷ units) x some is = ap program_of is

pub whole_is : (units : List Program) (p : Program) (parts : Parts) → p ≡ first_of units → ArePartsOf parts units
    → with_body p parts ≡ joined_program units
whole_is units p parts first h = λ i. record {
  name = (first i).name;
  globals = h.globals i;
  routines = record (routine_at
      (first i) 0) { declared = h.declared i; slots = 1 + h.slots i; body = h.body i; lines = h.lines i } ∷ h.procedures i;
}

pub no_fault : (units : List Program) → import_fault (kept_in 1 units) 1 units ≡ None → size_fault no_totals 1 units ≡ None
    → join_fault units ≡ None
no_fault units imports sizes = ap (λ o. or_next o (λ _. size_fault no_totals 1 units)) imports ∙ sizes
