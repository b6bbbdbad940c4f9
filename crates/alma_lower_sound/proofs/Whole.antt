-- The code of a whole program: where each routine ends, what its head says, and what is known of its slots.
use Rattle.std.proofs.Common.{◌≡◌, ℕ, zero, suc, ◌+◌, ◌<◌, List, [], ◌∷◌, ◌++◌, length, get_or, refl, sym, ap, ◌∙◌, subst, arith}
use Rattle.std.proofs.lemmas.List.{length-append, length-map}
use Rattle.alma_code.specs.declared.head.Run.{Run}
use Rattle.alma_code.specs.Plain.{PlainCode, PlainRoutine, head_at, start_at, end_at}
use Rattle.alma_code.specs.Plain as plain
use Rattle.alma_ir.specs.Tree.{Program, routine_at}
use Rattle.alma_ir.specs.Checked.{IsChecked}
use Rattle.alma_lower_templates.specs.Runs.{NamesKinds}
use Rattle.alma_lower_templates.specs.LineInstr.{LineInstr}
use Rattle.alma_lower_templates.specs.Tables.{Tables}
use Rattle.alma_lower_templates.specs.Slots.{routine_kinds}
use Rattle.alma_lower_templates.specs.Templates.{routine_code}
use Rattle.alma_lower_templates.specs.Compiled.{head_for, routines_code, routines_named}
use Rattle.alma_lower_templates.specs.CodeOf.{IsCodeOf}
use Rattle.alma_lower_templates.proofs.Premises.{kinds_are, variables_are, params_are}
use Rattle.alma_lower_templates.proofs.Whole.{start_in, start_behind, start_is}
use Rattle.alma_lower_sound.specs.Runs.{HasLongRuns}
use Rattle.alma_lower_sound.proofs.Roots.{Compiled}

module _ (p : Program) (tables : Tables) where
  pub named_long : (all : List (List Run)) (r at : ℕ) → length (routines_named p tables r at all) ≡ length all
  named_long [] r at = refl
  named_long (runs ∷ rest) r at = ap suc (named_long rest (suc r) (at + length (routine_code p tables r at)))

  named_head : (all : List (List Run)) (r at k : ℕ) → k < length all
      → (get_or (routines_named p tables r at all) k plain.no_routine).head ≡ head_for p (r + k) (get_or all k [])
  named_head [] r at k lt = absurd (omega (arith, lt))
  named_head (runs ∷ rest) r at zero lt = let e : r ≡ r + 0 = omega arith in ap (λ n. head_for p n runs) e
  named_head (runs ∷ rest) r at (suc k) lt =
      let e : suc r + k ≡ r + suc k = omega arith in
      named_head rest (suc r) (at + length (routine_code p tables r at)) k (omega (arith, lt)) ∙ ap (λ n. head_for p n (get_or rest k [])) e

  named_name : (all : List (List Run)) (r at k : ℕ) → k < length all
      → (get_or (routines_named p tables r at all) k plain.no_routine).name ≡ (routine_at p (r + k)).name
  named_name [] r at k lt = absurd (omega (arith, lt))
  named_name (runs ∷ rest) r at zero lt = let e : r ≡ r + 0 = omega arith in ap (λ n. (routine_at p n).name) e
  named_name (runs ∷ rest) r at (suc k) lt =
      let e : suc r + k ≡ r + suc k = omega arith in
      named_name rest (suc r) (at + length (routine_code p tables r at)) k (omega (arith, lt)) ∙ ap (λ n. (routine_at p n).name) e

  -- each routine ends behind its code
  named_end : (all : List (List Run)) (r at k : ℕ) → k < length all
      → (get_or (routines_named p tables r at all) k plain.no_routine).code_end ≡ start_in at (routines_named p tables r at all) k
      + length (routine_code p tables (r + k) (start_in at (routines_named p tables r at all) k))
  named_end [] r at k lt = absurd (omega (arith, lt))
  named_end (runs ∷ rest) r at zero lt = let e : r ≡ r + 0 = omega arith in ap (λ n. at + length (routine_code p tables n at)) e
  named_end (runs ∷ rest) r at (suc k) lt =
      let next : ℕ = at + length (routine_code p tables r at) in
      let named = routines_named p tables (suc r) next rest in
      let e : suc r + k ≡ r + suc k = omega arith in
      let z = named_end rest (suc r) next k (omega (arith, lt)) in
      let same = start_behind at (get_or (routines_named p tables r at (runs ∷ rest)) 0 plain.no_routine) named k in
      z ∙ ap (λ n. start_in next named k + length (routine_code p tables n (start_in next named k))) e
      ∙ ap (λ a. a + length (routine_code p tables (r + suc k) a)) (sym same)

  -- the last ends behind all code
  named_last : (all : List (List Run)) (r at : ℕ)
      → start_in at (routines_named p tables r at all) (length all) ≡ at + length (routines_code p tables r (length all) at)
  named_last [] r at = omega arith
  named_last (runs ∷ rest) r at =
      let one : List LineInstr = routine_code p tables r at in
      let next : ℕ = at + length one in
      let named = routines_named p tables (suc r) next rest in
      let z = named_last rest (suc r) next in
      let long = length-append one (routines_code p tables (suc r) (length rest) next) in
      let added : next + length (routines_code p tables (suc r) (length rest) next) ≡ at + length
      (one ++ routines_code p tables (suc r) (length rest) next) = omega (arith, long) in
      start_behind at (get_or (routines_named p tables r at (runs ∷ rest)) 0 plain.no_routine) named (length rest) ∙ z ∙ added

module _ (p : Program) (code : PlainCode) (is_code : IsCodeOf p code) where
  abbrev tables : Tables
  tables = is_code.tables

  abbrev named : List PlainRoutine
  named = routines_named p is_code.tables 0 0 is_code.runs

  routines_are : code.routines ≡ named
  routines_are = ap (λ c. c.routines) is_code.is

  pub count : length code.routines ≡ length p.routines
  count = ap length routines_are ∙ named_long p is_code.tables is_code.runs 0 0 ∙ is_code.count

  pub head_is : (r : ℕ) → r < length p.routines → head_at code r ≡ head_for p r (get_or is_code.runs r [])
  head_is r lt =
      let z : 0 + r ≡ r = omega arith in
      ap (λ x. (get_or x r plain.no_routine).head) routines_are
      ∙ named_head p is_code.tables is_code.runs 0 0 r (omega (arith, lt, is_code.count))
      ∙ ap (λ n. head_for p n (get_or is_code.runs r [])) z

  pub name_is : (r : ℕ) → r < length p.routines → (plain.routine_at code r).name ≡ (routine_at p r).name
  name_is r lt =
      let z : 0 + r ≡ r = omega arith in
      ap (λ x. (get_or x r plain.no_routine).name) routines_are
      ∙ named_name p is_code.tables is_code.runs 0 0 r (omega (arith, lt, is_code.count)) ∙ ap (λ n. (routine_at p n).name) z

  start_named : (r : ℕ) → start_in 0 named r ≡ start_at code r
  start_named r = ap (λ rs. start_in 0 rs r) (sym routines_are) ∙ sym (start_is code r)

  pub end_is : (r : ℕ) → r < length p.routines
      → end_at code r ≡ start_at code r + length (routine_code p is_code.tables r (start_at code r))
  end_is r lt =
      let z : 0 + r ≡ r = omega arith in
      ap (λ x. (get_or x r plain.no_routine).code_end) routines_are
      ∙ named_end p is_code.tables is_code.runs 0 0 r (omega (arith, lt, is_code.count))
      ∙ ap (λ n. start_in 0 named r + length (routine_code p is_code.tables n (start_in 0 named r))) z
      ∙ ap (λ a. a + length (routine_code p is_code.tables r a)) (start_named r)

  pub last_is : start_at code (length code.routines) ≡ length code.instrs
  last_is =
      let all : List LineInstr = routines_code p is_code.tables 0 (length p.routines) 0 in
      let long : length (routines_code p is_code.tables 0 (length is_code.runs) 0) ≡ length all =
      ap (λ n. length (routines_code p is_code.tables 0 n 0)) is_code.count in
      let instrs : length code.instrs ≡ length all = ap (λ c. length c.instrs) is_code.is ∙ length-map all (λ x. x.instr) in
      let z = named_last p is_code.tables is_code.runs 0 0 in
      ap (start_at code) (count ∙ sym is_code.count) ∙ sym (start_named (length is_code.runs)) ∙ omega (arith, z, long, instrs)

  pub compiled : IsChecked p → Compiled p is_code.tables code
  compiled checked = record {
    count = count;
    ranges = ap (λ c. c.ranges) is_code.is;
    texts = ap (λ c. c.texts) is_code.is;
    held = is_code.held;
    params = λ q lt. ap (λ h. h.params) (head_is q lt);
    results = λ q lt. ap (λ h. h.has_result) (head_is q lt);
    kinds = kinds_are p is_code.tables code is_code.runs is_code.is is_code.count is_code.names checked [];
    variables = variables_are p is_code.tables code is_code.runs is_code.is is_code.count is_code.names checked [];
    places = params_are p is_code.tables code is_code.runs is_code.is is_code.count is_code.names checked [];
  }

  -- runs that are each as long as they can be
  pub long_runs : ((r : ℕ) → r < length p.routines → NamesKinds (get_or is_code.runs r []) (routine_kinds p r)) → HasLongRuns p code
  long_runs h r lt = subst (λ x. NamesKinds x (routine_kinds p r)) (sym (ap (λ y. y.runs) (head_is r lt))) (h r lt)
