-- The parts of the units, one after another.
use Rattle.std.proofs.Common.{◌≡◌, ℕ, zero, suc, ◌+◌, ◌<◌, ◌≤◌, List, [], ◌∷◌, ◌++◌, length, get_or, drop, map, refl, sym, ap, subst, ◌∙◌}
use Rattle.std.proofs.Common.{arith, add-one}
use Rattle.std.specs.Prelude.{sum_by}
use Rattle.std.specs.List.{AllByRecursion}
use Rattle.std.proofs.lemmas.List.{append-nil, append_assoc}
use Rattle.alma_copy.specs.Moved.{moved_stmts, moved_routine, moved_global}
use Rattle.alma_copy.specs.Numbers.{slot_behind}
use Rattle.alma_ir.specs.Tree as ir
use Rattle.alma_ir.specs.Tree.{Stmts, Program, routine_at}
use Rattle.alma_ir.specs.View.{routine_of, global_of, stmts_list}
use Rattle.alma_join.proofs.Alone.{append_none, slot_stays}
use Rattle.alma_join.specs.Joined.{Kept, kept_in, kept_of, own_slots, body_moves, procedure_moves}
use Rattle.alma_join.specs.Joined.{joined_globals, joined_stmts, joined_lines, joined_procedures}
use Rattle.alma_join.specs.declared.part.Parts.{Parts}
use Rattle.alma_join.specs.Numbers.{NumbersUnit, NumbersUnits}
use Rattle.alma_join.specs.Parts.{body_numbers, procedure_numbers, AddsUnit, ArePartsOf}
use Rattle.alma_join.proofs.Rows.{rest_from, rest_none, sum_rest, sum_none}
use Rattle.alma_rules.specs.Parts.{append_stmts}

-- ---- the numbers of a unit

body_same : (all : List Kept) (unit : ℕ) (p : Program) (numbers : List ℕ) (before : ℕ) → NumbersUnit all unit p numbers
    → body_numbers numbers before ≡ body_moves all unit p before
body_same all unit p numbers before h = λ i. record {
  own = slot_behind before;
  global = slot_behind before;
  routine = λ r. h.at r i;
}

procedures_same : (all : List Kept) (unit : ℕ) (p : Program) (numbers : List ℕ) (before : ℕ) → NumbersUnit all unit p numbers
    → procedure_numbers numbers before ≡ procedure_moves all unit p before
procedures_same all unit p numbers before h = λ i. record {
  own = λ n. slot_stays n i;
  global = slot_behind before;
  routine = λ r. h.at r i;
}

pub numbers_length : (all : List Kept) (unit : ℕ) (ps : List Program) (ts : List (List ℕ)) → NumbersUnits all unit ps ts
    → length ps ≡ length ts
numbers_length all unit [] [] h = refl
numbers_length all unit [] (t ∷ ts) h = absurd h
numbers_length all unit (p ∷ ps) [] h = absurd h
numbers_length all unit (p ∷ ps) (t ∷ ts) h = ap suc (numbers_length all (suc unit) ps ts h.1)

pub numbers_at : (all : List Kept) (unit : ℕ) (ps : List Program) (ts : List (List ℕ)) (i : ℕ) (p : Program) (t : List ℕ) → i < length ps
    → p ≡ get_or ps i p → t ≡ get_or ts i t → NumbersUnits all unit ps ts → NumbersUnit all (unit + i) p t
numbers_at all unit [] ts i p t lt is at h = absurd (omega (arith, lt))
numbers_at all unit (q ∷ ps) [] i p t lt is at h = absurd h
numbers_at all unit (q ∷ ps) (s ∷ ts) zero p t lt is at h = let e : unit
    ≡ unit + 0 = omega arith in subst (λ n. NumbersUnit all n p t) e
    (subst (λ x. NumbersUnit all unit x t) (sym is) (subst (NumbersUnit all unit q) (sym at) h.0))
numbers_at all unit (q ∷ ps) (s ∷ ts) (suc i) p t lt is at h = let e : suc unit + i
    ≡ unit + suc i = omega arith in subst (λ n. NumbersUnit all n p t) e
    (numbers_at all (suc unit) ps ts i p t (omega (arith, lt)) is at h.1)

-- ---- statements

append_both : (x y z : Stmts) → append_stmts (append_stmts x y) z ≡ append_stmts x (append_stmts y z)
append_both ir.no_stmts y z = refl
append_both (ir.more_stmts line x rest) y z = ap (ir.more_stmts line x) (append_both rest y z)

-- ---- unit after unit

abbrev all_of : List Program → List Kept
all_of units = kept_in 1 units

abbrev declared_in : Program → ℕ
declared_in p = (routine_at p 0).declared

-- what there is, and what the units from this one on add
pub record PartsGo (units : List Program) (i : ℕ) (parts : Parts) : Type 0 where
  pub globals : map global_of parts.globals.items ++ joined_globals parts.slots (drop i units) ≡ joined_globals 0 units
  pub body : append_stmts (stmts_list parts.body.items) (joined_stmts (all_of units) (i + 1) parts.slots (drop i units))
      ≡ joined_stmts (all_of units) 1 0 units
  pub lines : parts.lines.items ++ joined_lines (drop i units) ≡ joined_lines units
  pub procedures : map routine_of parts.procedures.items ++ joined_procedures (all_of units) (i + 1) parts.slots (drop i units)
      ≡ joined_procedures (all_of units) 1 0 units
  pub declared : parts.declared + sum_by declared_in (drop i units) ≡ sum_by declared_in units
  pub slots : parts.slots + sum_by own_slots (drop i units) ≡ sum_by own_slots units

pub parts_none : (units : List Program) (parts : Parts) → parts.globals.items ≡ [] → parts.body.items ≡ [] → parts.lines.items ≡ []
    → parts.procedures.items ≡ [] → parts.declared ≡ 0 → parts.slots ≡ 0 → PartsGo units 0 parts
parts_none units parts globals body lines procedures declared slots = record {
  globals = λ i. map global_of (globals i) ++ joined_globals (slots i) units;
  body = λ i. append_stmts (stmts_list (body i)) (joined_stmts (all_of units) 1 (slots i) units);
  lines = ap (λ l. l ++ joined_lines units) lines;
  procedures = λ i. map routine_of (procedures i) ++ joined_procedures (all_of units) 1 (slots i) units;
  declared = omega (arith, declared);
  slots = omega (arith, slots);
}

module _ (units : List Program) (i : ℕ) (p : Program) (within : i < length units) (is : p ≡ get_or units i p) (a b : Parts)
    (numbers : List ℕ) (h : PartsGo units i a) (adds : AddsUnit a b p numbers) (n : NumbersUnit (all_of units) (i + 1) p numbers) where
  abbrev all : List Kept
  all = all_of units

  abbrev rest : List Program
  rest = drop (i + 1) units

  rest_is : drop i units ≡ p ∷ rest
  rest_is = rest_from units i p within is

  body_is : body_numbers numbers a.slots ≡ body_moves all (i + 1) p a.slots
  body_is = body_same all (i + 1) p numbers a.slots n

  procedures_are : procedure_numbers numbers a.slots ≡ procedure_moves all (i + 1) p a.slots
  procedures_are = procedures_same all (i + 1) p numbers a.slots n

  globals_go : map global_of b.globals.items ++ joined_globals b.slots rest ≡ joined_globals 0 units
  globals_go =
      (λ j. (adds.globals ∙ ap (λ m. map global_of a.globals.items ++ map (moved_global m) p.globals) body_is) j ++ joined_globals
      (adds.slots j) rest)
      ∙ append_assoc (map global_of a.globals.items) (map (moved_global (body_moves all (i + 1) p a.slots)) p.globals)
      (joined_globals (a.slots + own_slots p) rest)
      ∙ ap (λ us. map global_of a.globals.items ++ joined_globals a.slots us) (sym rest_is) ∙ h.globals

  body_goes : append_stmts (stmts_list b.body.items) (joined_stmts all (i + 1 + 1) b.slots rest) ≡ joined_stmts all 1 0 units
  body_goes =
      (λ j. append_stmts ((adds.body ∙ ap (λ m. append_stmts (stmts_list a.body.items) (moved_stmts m (routine_at p 0).body)) body_is) j)
      (joined_stmts all (add-one (i + 1) j) (adds.slots j) rest))
      ∙ append_both (stmts_list a.body.items) (moved_stmts (body_moves all (i + 1) p a.slots) (routine_at p 0).body)
      (joined_stmts all (suc (i + 1)) (a.slots + own_slots p) rest)
      ∙ ap (λ us. append_stmts (stmts_list a.body.items) (joined_stmts all (i + 1) a.slots us)) (sym rest_is) ∙ h.body

  procedures_go : map routine_of b.procedures.items ++ joined_procedures all (i + 1 + 1) b.slots rest ≡ joined_procedures all 1 0 units
  procedures_go =
      (λ j. (adds.procedures (i + 1) ∙ ap (λ m. map routine_of a.procedures.items ++ map (λ k. moved_routine m k.routine)
      (kept_of (i + 1) p)) procedures_are) j ++ joined_procedures all (add-one (i + 1) j) (adds.slots j) rest)
      ∙ append_assoc (map routine_of a.procedures.items) (map (λ k. moved_routine (procedure_moves all (i + 1) p a.slots) k.routine)
      (kept_of (i + 1) p)) (joined_procedures all (suc (i + 1)) (a.slots + own_slots p) rest)
      ∙ ap (λ us. map routine_of a.procedures.items ++ joined_procedures all (i + 1) a.slots us) (sym rest_is) ∙ h.procedures

  pub parts_more : PartsGo units (i + 1) b
  parts_more = record {
    globals = globals_go;
    body = body_goes;
    lines = ap (λ l. l ++ joined_lines rest) adds.lines ∙ append_assoc a.lines.items (routine_at p 0).lines (joined_lines rest)
        ∙ ap (λ us. a.lines.items ++ joined_lines us) (sym rest_is) ∙ h.lines;
    procedures = procedures_go;
    declared = omega (arith, adds.declared, sum_rest declared_in units i p within is, h.declared);
    slots = omega (arith, adds.slots, sum_rest own_slots units i p within is, h.slots);
  }

pub parts_all : (units : List Program) (i : ℕ) (parts : Parts) → length units ≤ i → PartsGo units i parts → ArePartsOf parts units
parts_all units i parts past h =
    let none = rest_none units i past in
    record {
      globals = sym (append-nil _) ∙ ap (λ us. map global_of parts.globals.items ++ joined_globals parts.slots us) (sym none) ∙ h.globals;
      body = sym (append_none _) ∙ ap (λ us. append_stmts (stmts_list parts.body.items)
          (joined_stmts (all_of units) (i + 1) parts.slots us)) (sym none) ∙ h.body;
      lines = sym (append-nil _) ∙ ap (λ us. parts.lines.items ++ joined_lines us) (sym none) ∙ h.lines;
      procedures = sym (append-nil _) ∙ ap (λ us. map routine_of parts.procedures.items ++ joined_procedures (all_of units)
          (i + 1) parts.slots us) (sym none) ∙ h.procedures;
      declared = omega (arith, sum_none declared_in units i past, h.declared);
      slots = omega (arith, sum_none own_slots units i past, h.slots);
    }

-- what holds of all units holds of this one
pub each_at : (F : Program → Type 0) (units : List Program) (i : ℕ) (p : Program) → i < length units → p ≡ get_or units i p
    → AllByRecursion F units → F p
each_at F [] i p lt is h = absurd (omega (arith, lt))
each_at F (q ∷ us) zero p lt is h = subst F (sym is) h.0
each_at F (q ∷ us) (suc i) p lt is h = each_at F us i p (omega (arith, lt)) is h.1
