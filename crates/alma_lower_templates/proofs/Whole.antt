-- The code of a whole program: where each routine stands, and what its head says.
use Rattle.std.proofs.Common.{◌≡◌, ℕ, zero, suc, ◌+◌, ◌<◌, List, [], ◌∷◌, length, get_or, refl, sym, ap, ◌∙◌, subst, arith}
use Rattle.std.proofs.lemmas.Option.{slice_get-get_or}
use Rattle.alma_code.specs.declared.head.Run.{Run}
use Rattle.alma_code.specs.Layout.{kinds_of}
use Rattle.alma_code.specs.Plain.{PlainCode, PlainRoutine, start_at}
use Rattle.alma_code.specs.Plain as plain
use Rattle.alma_ir.specs.Tree.{Program}
use Rattle.alma_lower_templates.specs.Tables.{Tables}
use Rattle.alma_lower_templates.specs.Slots.{routine_kinds}
use Rattle.alma_lower_templates.specs.Templates.{routine_code}
use Rattle.alma_lower_templates.specs.Compiled.{head_for, routines_code, routines_named, program_code}
use Rattle.alma_lower_templates.specs.Stands.{Stands}
use Rattle.alma_lower_templates.proofs.Stands.{stands_front, stands_back, stands_whole}
use Rattle.alma_lower_templates.proofs.NewFrame.{IsCompiled}

-- the address of the first instruction of a routine of these, of which the first begins at an address
abbrev pub start_in : (at : ℕ) → List PlainRoutine → (k : ℕ) → ℕ
start_in at named zero = at
start_in at named (suc before) = (get_or named before plain.no_routine).code_end

pub start_behind : (at : ℕ) (x : PlainRoutine) (named : List PlainRoutine) (k : ℕ)
    → start_in at (x ∷ named) (suc k) ≡ start_in x.code_end named k
start_behind at x named zero = refl
start_behind at x named (suc k) = refl

pub start_is : (code : PlainCode) (r : ℕ) → start_at code r ≡ start_in 0 code.routines r
start_is code zero = refl
start_is code (suc r) = refl

module _ (p : Program) (tables : Tables) (code : PlainCode) where
  named_long : (all : List (List Run)) (r at : ℕ) → length (routines_named p tables r at all) ≡ length all
  named_long [] r at = refl
  named_long (runs ∷ rest) r at = ap suc (named_long rest (suc r) (at + length (routine_code p tables r at)))

  named_head : (all : List (List Run)) (r at k : ℕ) → k < length all
      → (get_or (routines_named p tables r at all) k plain.no_routine).head ≡ head_for p (r + k) (get_or all k [])
  named_head [] r at k lt = absurd (omega (arith, lt))
  named_head (runs ∷ rest) r at zero lt = let e : r ≡ r + 0 = omega arith in ap (λ n. head_for p n runs) e
  named_head (runs ∷ rest) r at (suc k) lt =
      let e : suc r + k ≡ r + suc k = omega arith in
      named_head rest (suc r) (at + length (routine_code p tables r at)) k (omega (arith, lt)) ∙ ap (λ n. head_for p n (get_or rest k [])) e

  each_stands : (all : List (List Run)) (r at k : ℕ) → k < length all → Stands code at (routines_code p tables r (length all) at)
      → Stands code (start_in at (routines_named p tables r at all) k)
      (routine_code p tables (r + k) (start_in at (routines_named p tables r at all) k))
  each_stands [] r at k lt h = absurd (omega (arith, lt))
  each_stands (runs ∷ rest) r at zero lt h =
      let e : r ≡ r + 0 = omega arith in
      subst (λ n. Stands code at (routine_code p tables n at)) e
      (stands_front code at (routine_code p tables r at)
      (routines_code p tables (suc r) (length rest) (at + length (routine_code p tables r at))) h)
  each_stands (runs ∷ rest) r at (suc k) lt h =
      let next : ℕ = at + length (routine_code p tables r at) in
      let named = routines_named p tables (suc r) next rest in
      let e : suc r + k ≡ r + suc k = omega arith in
      let there = each_stands rest (suc r) next k (omega (arith, lt))
      (stands_back code at (routine_code p tables r at) (routines_code p tables (suc r) (length rest) next) h) in
      subst (λ a. Stands code a (routine_code p tables (r + suc k) a))
      (sym (start_behind at (get_or (routines_named p tables r at (runs ∷ rest)) 0 plain.no_routine) named k))
      (subst (λ n. Stands code (start_in next named k) (routine_code p tables n (start_in next named k))) e there)

  -- the code is that of the program, with runs that name the kinds of each routine
  module _ (all : List (List Run)) (is : code ≡ program_code p tables all) (count : length all ≡ length p.routines)
      (names : (r : ℕ) → r < length p.routines → kinds_of 0 (get_or all r []) ≡ routine_kinds p r) where
    pub routine_stands : (r : ℕ) → r < length p.routines → Stands code (start_at code r) (routine_code p tables r (start_at code r))
    routine_stands r lt =
        let whole : Stands code 0 (routines_code p tables 0 (length p.routines) 0) =
        stands_whole code (routines_code p tables 0 (length p.routines) 0) (ap (λ c. c.instrs) is) (ap (λ c. c.lines) is) in
        let there = each_stands all 0 0 r (omega (arith, lt, count))
        (subst (λ n. Stands code 0 (routines_code p tables 0 n 0)) (sym count) whole) in
        let z : 0 + r ≡ r = omega arith in
        let at : start_in 0 (routines_named p tables 0 0 all) r ≡ start_at code r =
        ap (λ rs. start_in 0 rs r) (sym (ap (λ c. c.routines) is)) ∙ sym (start_is code r) in
        subst (λ a. Stands code a (routine_code p tables r a))
        at (subst (λ n. Stands code (start_in 0 (routines_named p tables 0 0 all) r)
        (routine_code p tables n (start_in 0 (routines_named p tables 0 0 all) r))) z there)

    pub routine_compiled : (r : ℕ) → r < length p.routines → IsCompiled p code r (get_or code.routines r plain.no_routine)
    routine_compiled r lt =
        let named = routines_named p tables 0 0 all in
        let rs : code.routines ≡ named = ap (λ c. c.routines) is in
        let z : 0 + r ≡ r = omega arith in
        let head : (get_or code.routines r plain.no_routine).head ≡ head_for p r (get_or all r []) =
        ap (λ x. (get_or x r plain.no_routine).head) rs ∙ named_head all 0 0 r (omega (arith, lt, count))
        ∙ ap (λ n. head_for p n (get_or all r [])) z in
        record {
          there = slice_get-get_or code.routines r plain.no_routine (omega (arith, lt, count, ap length rs, named_long all 0 0));
          params = ap (λ h. h.params) head;
          declared = ap (λ h. h.declared) head;
          kinds = ap (λ h. kinds_of 0 h.runs) head ∙ names r lt;
        }
