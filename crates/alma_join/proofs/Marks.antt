-- Marks of routines.
use Rattle.std.proofs.Common.{◌≡◌, ℕ, ◌+◌, ◌<◌, ◌≤◌, inl, inr, Bool, true, false, List, [], ◌∷◌, ◌++◌, length, get_or, take}
use Rattle.std.proofs.Common.{drop, set, map, refl, sym, ap, ◌∙◌, arith}
use Rattle.std.specs.Prelude.{nat_eq, ◌||◌, ◌&&◌, not, sum_by}
use Rattle.std.specs.List.{list_any}
use Rattle.std.proofs.lemmas.Bool.{eq-eqb, cases_eq, cases_lt}
use Rattle.std.proofs.lemmas.Bool.Decides.{nat_tests}
use Rattle.std.proofs.lemmas.List.{take_more, take_all, length-map, length-append, get_or-set_same, get_or-set_other, length-set}
use Rattle.std.proofs.lemmas.List.{map-append}
use Rattle.std.proofs.lemmas.List.{get_or_append_left}
use Rattle.std.proofs.Math.Seq.{get_or-append_seam}
use Rattle.std.proofs.lemmas.List.Folds.{list_any-append}
use Rattle.alma_ir.specs.declared.phrase.Stmt.{Stmt}
use Rattle.alma_ir.specs.declared.program.Param.{Param}
use Rattle.alma_ir.specs.declared.program.Program as whole
use Rattle.alma_ir.specs.declared.program.Routine as memory
use Rattle.alma_ir.specs.Checked.{param_slots}
use Rattle.alma_ir.specs.Tree.{Routine, Program, routine_at, no_routine}
use Rattle.alma_ir.specs.View.{routine_of, program_of, stmts_list}
use Rattle.alma_join.specs.Joined.{is_empty, is_bare}
use Rattle.alma_join.specs.Bare.{MarksOuter, MarksBare}
use Rattle.alma_join.proofs.Rows.{sum_none, element_is, any_default}

-- ---- slots that parameters leave

pub filled : (params : List Param) (i slots left : ℕ) → length params ≤ i
    → slots + sum_by param_slots (drop i params) ≡ left + sum_by param_slots params
    → nat_eq left 0 ≡ nat_eq slots (sum_by param_slots params)
filled params i slots left past kept =
    let e : slots ≡ left + sum_by param_slots params = omega (arith, sum_none param_slots params i past, kept) in
    elim (cases_eq left 0) [
      | inl z ↦ let same : slots ≡ sum_by param_slots params = omega (arith, e, z) in eq-eqb left 0 z ∙ sym (eq-eqb slots _ same)
      | inr ne ↦ let gt : sum_by param_slots params < slots = omega (arith, e, ne) in grind (arith, nat_tests, gt, ne)
    ]

-- ---- routines with one inside

abbrev stands_in : ℕ → Routine → Bool
stands_in r x = nat_eq x.outer r

-- marks for the first i of these routines
pub record MarksFirst (routines : List memory.Routine) (i : ℕ) (marks : List Bool) : Type 0 where
  pub long : length marks ≡ length routines
  pub at : (r : ℕ) → r < length routines → get_or marks r false ≡ list_any (stands_in r) (map routine_of (take i routines))

one_more : (routines : List memory.Routine) (i r : ℕ) (x : memory.Routine) → i < length routines → x ≡ get_or routines i x
    → list_any (stands_in r) (map routine_of (take (i + 1) routines))
    ≡ (list_any (stands_in r) (map routine_of (take i routines)) || nat_eq x.outer r)
one_more routines i r x within is =
    ap (λ l. list_any (stands_in r) (map routine_of l)) (take_more routines i x within ∙ ap (λ y. take i routines ++ y ∷ []) (sym is))
    ∙ ap (list_any (stands_in r)) (map-append routine_of (take i routines) (x ∷ []))
    ∙ list_any-append (stands_in r) (map routine_of (take i routines)) (routine_of x ∷ [])
    ∙ ap (λ b. list_any (stands_in r) (map routine_of (take i routines)) || b) (or_false (nat_eq x.outer r))
  where
    or_false : (b : Bool) → (b || false) ≡ b
    or_false true = refl
    or_false false = refl

or_true : (b : Bool) → true ≡ (b || true)
or_true true = refl
or_true false = refl

or_none : (b : Bool) → b ≡ (b || false)
or_none true = refl
or_none false = refl

pub marks_more : (routines : List memory.Routine) (i : ℕ) (x : memory.Routine) (marks : List Bool) → i < length routines
    → x ≡ get_or routines i x → MarksFirst routines i marks → x.outer < length marks
    → MarksFirst routines (i + 1) (set marks x.outer true)
marks_more routines i x marks within is h lt = record { long = length-set marks x.outer true ∙ h.long; at = by }
  where
    by : (r : ℕ) → r < length routines → get_or (set marks x.outer true) r false
        ≡ list_any (stands_in r) (map routine_of (take (i + 1) routines))
    by r below = elim (cases_eq r x.outer) [
      | inl e ↦ ap (λ n. get_or (set marks x.outer true) n false) e ∙ get_or-set_same marks x.outer true false lt
          ∙ or_true _ ∙ ap (λ b. list_any (stands_in r) (map routine_of (take i routines)) || b) (sym (eq-eqb x.outer r (sym e)))
          ∙ sym (one_more routines i r x within is)
      | inr ne ↦ let differ : nat_eq x.outer r ≡ false = grind (arith, nat_tests, ne) in
          get_or-set_other marks x.outer r true false ne ∙ h.at r below
          ∙ or_none _ ∙ ap (λ b. list_any (stands_in r) (map routine_of (take i routines)) || b) (sym differ)
          ∙ sym (one_more routines i r x within is)
    ]

pub marks_all : (routines : List memory.Routine) (i : ℕ) (marks : List Bool) → length routines ≤ i → MarksFirst routines i marks
    → MarksOuter (map routine_of routines) marks
marks_all routines i marks past h = record {
  long = h.long ∙ sym (length-map routines routine_of);
  at = λ r lt. h.at r (omega (arith, lt, length-map routines routine_of))
      ∙ ap (λ l. list_any (stands_in r) (map routine_of l)) (take_all i routines past);
}

-- ---- bare routines

pub empty_is : (xs : List Stmt) → nat_eq (length xs) 0 ≡ is_empty (stmts_list xs)
empty_is [] = refl
empty_is (x ∷ xs) = let some : 0 < length (x ∷ xs) = omega arith in grind (arith, nat_tests, some)

-- marks for the first i routines of a program
pub record BareFirst (p : Program) (i : ℕ) (marks : List Bool) : Type 0 where
  pub long : length marks ≡ i
  pub at : (r : ℕ) → r < i → get_or marks r false ≡ is_bare p r (routine_at p r)

pub bare_more : (p : Program) (i : ℕ) (marks longer : List Bool) (b : Bool) → BareFirst p i marks → longer ≡ marks ++ b ∷ []
    → b ≡ is_bare p i (routine_at p i) → BareFirst p (i + 1) longer
bare_more p i marks longer b h is e = record {
  long = ap length is ∙ omega (arith, length-append marks (b ∷ []), h.long);
  at = λ r lt. elim (cases_lt r i) [
    | inl below ↦ ap (λ m. get_or m r false) is ∙ get_or_append_left marks (b ∷ []) false r (omega (arith, below, h.long)) ∙ h.at r below
    | inr past ↦ let same : r ≡ i = omega (arith, lt, past) in
        ap (λ m. get_or m r false) is ∙ ap (get_or_at marks b) (same ∙ sym h.long) ∙ get_or-append_seam marks b [] false ∙ e
        ∙ ap (λ n. is_bare p n (routine_at p n)) (sym same)
  ];
}
  where
    get_or_at : List Bool → Bool → ℕ → Bool
    get_or_at marks b n = get_or (marks ++ b ∷ []) n false

-- a routine is bare by its parts and its mark
pub bare_here : (p : whole.Program) (r : ℕ) (x : memory.Routine) (marks : List Bool) (m : Bool) → r < length p.routines.items
    → x ≡ get_or p.routines.items r x → MarksOuter (map routine_of p.routines.items) marks
    → m ≡ get_or marks r m → (nat_eq x.level 1 && (is_empty (stmts_list x.body.items) &&
    (nat_eq x.slots (sum_by param_slots x.params.items) && not m))) ≡ is_bare (program_of p) r (routine_at (program_of p) r)
bare_here p r x marks m within is h e =
    let there : routine_at (program_of p) r ≡ routine_of x = element_is routine_of p.routines.items r x no_routine within is in
    (λ i. nat_eq x.level 1 && (is_empty (stmts_list x.body.items) &&
    (nat_eq x.slots (sum_by param_slots x.params.items) && not
    ((e ∙ any_default marks r m false (omega (arith, within, h.long, length-map p.routines.items routine_of))
    ∙ h.at r (omega (arith, within, length-map p.routines.items routine_of))) i))))
    ∙ ap (is_bare (program_of p) r) (sym there)

-- what a mark says
pub bare_by : (p : whole.Program) (r : ℕ) (marks : List Bool) (m b : Bool) → r < length p.routines.items → MarksBare (program_of p) marks
    → m ≡ get_or marks r m → m ≡ b → is_bare (program_of p) r (routine_at (program_of p) r) ≡ b
bare_by p r marks m b within h at marked =
    let within' : r < length (program_of p).routines = omega (arith, within, length-map p.routines.items routine_of) in
    sym (h.at r within') ∙ any_default marks r false m (omega (arith, within', h.long)) ∙ sym at ∙ marked

pub routine_there : (p : whole.Program) (r : ℕ) (x : memory.Routine) → r < length p.routines.items → x ≡ get_or p.routines.items r x
    → routine_at (program_of p) r ≡ routine_of x
routine_there p r x within is = element_is routine_of p.routines.items r x no_routine within is

pub within_program : (p : whole.Program) (r : ℕ) → r < length p.routines.items → r < length (program_of p).routines
within_program p r lt = omega (arith, lt, length-map p.routines.items routine_of)

pub past_program : (p : whole.Program) (r : ℕ) → length p.routines.items ≤ r → length (program_of p).routines ≤ r
past_program p r le = omega (arith, le, length-map p.routines.items routine_of)
