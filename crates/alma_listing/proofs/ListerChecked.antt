-- The program that lists a checked program is a checked one.
use Rattle.std.proofs.Common.{◌≡◌, inl, inr, ℕ, zero, suc, ◌+◌, ◌*◌, ◌<◌, ◌≤◌, List, [], ◌∷◌, ◌++◌, length, refl, sym, ap, ◌∙◌, subst}
use Rattle.std.proofs.Common.{arith}
use Rattle.std.specs.Prelude.{pos, ◌≤ℤ◌, IsNone, IsSome, sum_by, codes, replicate}
use Rattle.std.specs.List.{AllByRecursion}
use Rattle.std.specs.Prelude.{nat_abs, MatchOption}
use Rattle.std.proofs.lemmas.Int.{ints}
use Rattle.alma_base.specs.Numbers.{range_size}
use Rattle.std.proofs.lemmas.Bool.{cases_lt}
use Rattle.std.proofs.lemmas.List.{get_or_append_left, length-append, length-replicate}
use Rattle.std.proofs.Math.Seq.{get_or-append_seam}
use Rattle.std.proofs.lemmas.List.Sums.{sum_by-cons}
use Rattle.alma_ir.specs.declared.phrase.Root.TheVariants as root
use Rattle.alma_ir.specs.Tree.{Stmts, Loop, Program, Routine, Global, routine_at, no_routine, no_stmts, more_stmts, WriteText, a_loop}
use Rattle.alma_ir.specs.Tree.{Value, Bind, Unify, SameCells, Seq, And, Or, Not, CallTest, Const, Load, Chain, Compare, Truth, Known, Chr}
use Rattle.alma_ir.specs.Tree.{CallExpr, no_args, a_desig}
use Rattle.alma_ir.specs.Phrases.{Phrase, StmtPhrase, TestPhrase, ExprPhrase, ArgPhrase, DesigPhrase, SelPhrase, stmts_phrases}
use Rattle.alma_ir.specs.Lines.{stmt_count}
use Rattle.alma_ir.specs.Checked.{IsChecked, EachRoutine, EachPhrase, AreNumbers, IsOutside, HoldsPlace, HoldPlace, outer_at, RootExists}
use Rattle.alma_ir.specs.Checked.{RootLeaves, IsHiddenSlot, LoopIsApart, loops_of, IsGlobal, param_slots, CalleeExists, ResultAgrees}
use Rattle.alma_ir.specs.Checked.{CallLeads, CallFits, ArgsFit, LinksAgree, PartsExist, CellsAgree, RangesOrdered, HasStep, HasChoice}
use Rattle.alma_ir.specs.Checked.{ReturnAgrees, ReturnsStay, ParamsFirst, DeclaredFits, IsNested, HeadRangesOrdered, RoutineKeepsLimits}
use Rattle.alma_ir.specs.Checked.{HasLines, NamesSpelled, KeepsLimits, IsName, link_slots, text_bytes}
use Rattle.alma_ir.proofs.LinesBack.{count_sum}
use Rattle.alma_ir.proofs.Each.{each_of_append, each_of_both, each_follows}
use Rattle.alma_resolved.specs.Room.{HasRoom}
use Rattle.alma_listing.specs.Listing.{ListerIsChecked}
use Rattle.alma_rules.specs.Parts.{append_stmts}
use Rattle.alma_listing.specs.Lister.{list_procedure, list_and_fail, listing_body, listing_of, write_cells, write_globals, write_line}
use Rattle.alma_listing.specs.Lister.{globals_stmts, cells_loop, cell_range}
use Rattle.alma_listing.proofs.LineEach.{line_each, line_count}
use Rattle.alma_rules.proofs.Phrases.{append_phrases}

-- routines with the same slots and parameters have the same number slots
numbers_in : (a b : Routine) → a.slots ≡ b.slots → a.params ≡ b.params → (from count : ℕ) → AreNumbers a from count →
    AreNumbers b from count
numbers_in a b same params from count h = record {
  exist = omega (arith, h.exist, same);
  kinds = subst (λ ps. AllByRecursion (λ z. HoldsPlace z.kind → IsOutside from count z.slot) ps) params h.kinds;
}

module _ (name : List ℕ) (gs : List Global) (body : Routine) (rest : List Routine) where
  abbrev p : Program
  p = record { name = name; globals = gs; routines = body ∷ rest }

  abbrev q : Program
  q = listing_of p

  abbrev number : ℕ
  number = suc (length rest)

  abbrev last_routine : Routine
  last_routine = list_procedure body.line gs

  list_procedure_is : routine_at q number ≡ last_routine
  list_procedure_is = get_or-append_seam rest last_routine [] no_routine

  others_are : (r : ℕ) → 0 < r → r < number → routine_at q r ≡ routine_at p r
  others_are zero low high = absurd (omega (arith, low))
  others_are (suc j) low high = get_or_append_left rest (last_routine ∷ []) no_routine j (omega (arith, high))

  count_is : length q.routines ≡ suc number
  count_is = omega (arith, length-append rest (last_routine ∷ []))

  -- a fact of each routine
  each_routine : (Fact : ℕ → Routine → Type 0) → Fact 0 (listing_body body number) →
      ((r : ℕ) → 0 < r → r < number → Fact r (routine_at p r)) → Fact number last_routine → EachRoutine q Fact
  each_routine Fact a b c zero lt = a
  each_routine Fact a b c (suc j) lt = elim (cases_lt (suc j) number) [
    | inl high ↦ subst (Fact (suc j)) (sym (others_are (suc j) (omega arith) high)) (b (suc j) (omega arith) high)
    | inr ge ↦ let last : number ≡ suc j = omega (arith, ge, lt, count_is) in subst (λ n. Fact n (routine_at q n)) last
        (subst (Fact number) (sym list_procedure_is) c)
  ]

  -- a fact of each phrase
  each_phrase : (P Q : ℕ → Routine → Phrase → Type 0) → ((x : Phrase) → P 0 body x → Q 0 (listing_body body number) x)
      → ((r : ℕ) → 0 < r → r < number → (x : Phrase) → P r (routine_at p r) x → Q r (routine_at p r) x)
      → AllByRecursion (Q 0 (listing_body body number)) (stmts_phrases (list_and_fail number)) → AllByRecursion (Q number last_routine)
      (stmts_phrases (write_line gs)) → EachPhrase p P → EachPhrase q Q
  each_phrase P Q first move tail line h =
      each_routine (λ r routine. AllByRecursion (Q r routine) (stmts_phrases routine.body))
      (subst (AllByRecursion (Q 0 (listing_body body number))) (sym (append_phrases body.body (list_and_fail number)))
      (each_of_append (Q 0 (listing_body body number)) (stmts_phrases body.body) (stmts_phrases (list_and_fail number))
      (each_follows (P 0 body) (Q 0 (listing_body body number)) first (stmts_phrases body.body) (h 0 (omega arith))) tail))
      (λ r low high. each_follows (P r (routine_at p r)) (Q r (routine_at p r)) (move r low high) (stmts_phrases (routine_at p r).body)
      (h r high)) line

  -- what the head of a routine says
  same_slots : (r : ℕ) → r < number → (routine_at q r).slots ≡ (routine_at p r).slots
  same_slots zero lt = refl
  same_slots (suc j) lt = ap (λ x. x.slots) (others_are (suc j) (omega arith) lt)

  same_params : (r : ℕ) → r < number → (routine_at q r).params ≡ (routine_at p r).params
  same_params zero lt = refl
  same_params (suc j) lt = ap (λ x. x.params) (others_are (suc j) (omega arith) lt)

  same_result : (r : ℕ) → r < number → (routine_at q r).result ≡ (routine_at p r).result
  same_result zero lt = refl
  same_result (suc j) lt = ap (λ x. x.result) (others_are (suc j) (omega arith) lt)

  same_level : (r : ℕ) → r < number → (routine_at q r).level ≡ (routine_at p r).level
  same_level zero lt = refl
  same_level (suc j) lt = ap (λ x. x.level) (others_are (suc j) (omega arith) lt)

  same_outer : (r : ℕ) → r < number → (routine_at q r).outer ≡ (routine_at p r).outer
  same_outer zero lt = refl
  same_outer (suc j) lt = ap (λ x. x.outer) (others_are (suc j) (omega arith) lt)

  module _ (h : IsChecked p) where
    -- links lead to the same routines
    outer_in : (links r : ℕ) → r < number → (outer_at q r links ≡ outer_at p r links) × (outer_at p r links < number)
    outer_in zero r lt = (refl, lt)
    outer_in (suc links) r lt =
        let further = outer_in links (routine_at p r).outer ((h.nested r lt).exists) in
        (ap (λ n. outer_at q n links) (same_outer r lt) ∙ further.0, further.1)

    -- ---- roots

    root_in : (r : ℕ) → r < number → (routine routine2 : Routine) → routine.slots ≡ routine2.slots → routine.params ≡ routine2.params →
        routine.level ≡ routine2.level → (x : Phrase) → RootExists p r routine x → RootExists q r routine2 x
    root_in r lt a b slots params level (DesigPhrase (a_desig (root.Local slot) cells sels)) k =
        (numbers_in a b slots params slot cells k.0, k.1)
    root_in r lt a b slots params level (DesigPhrase (a_desig (root.Global slot) cells sels)) k =
        (omega (arith, k.0, level), numbers_in body (listing_body body number) refl refl slot cells k.1, k.2)
    root_in r lt a b slots params level (DesigPhrase (a_desig (root.Param slot) cells sels)) k =
        subst (λ ps. HoldPlace ps slot cells) params k
    root_in r lt a b slots params level (DesigPhrase (a_desig (root.Outer links slot) cells sels)) k =
        let o = outer_in links r lt in (
          (k.0.0, omega (arith, k.0.1, level)),
          subst (λ n. AreNumbers (routine_at q n) slot cells) (sym o.0)
              (numbers_in (routine_at p (outer_at p r links)) (routine_at q (outer_at p r links)) (sym (same_slots _ o.1))
              (sym (same_params _ o.1)) slot cells k.1),
        )
    root_in r lt a b slots params level (DesigPhrase (a_desig (root.OuterParam links slot) cells sels)) k =
        let o = outer_in links r lt in (
          (k.0.0, omega (arith, k.0.1, level)),
          subst (λ n. HoldPlace (routine_at q n).params slot cells) (sym o.0)
              (subst (λ ps. HoldPlace ps slot cells) (sym (same_params _ o.1)) k.1),
        )
    root_in r lt a b slots params level (StmtPhrase x) k = tt
    root_in r lt a b slots params level (TestPhrase x) k = tt
    root_in r lt a b slots params level (ExprPhrase x) k = tt
    root_in r lt a b slots params level (ArgPhrase x) k = tt
    root_in r lt a b slots params level (SelPhrase x) k = tt

    -- of a global
    abbrev Here : ℕ → ℕ → Type 0
    Here slot cells = AreNumbers body slot cells × (0 < slot)

    globals_here : AllByRecursion (λ g. Here g.slot g.cells) gs
    globals_here = each_follows (IsGlobal p) (λ g. Here g.slot g.cells) (λ g k. (k.slots, k.position)) gs h.globals

    pub roots_checked : EachPhrase q (RootExists q)
    unfolding stmts_phrases
    roots_checked =
        each_phrase (RootExists p) (RootExists q) (root_in 0 (omega arith) body (listing_body body number) refl refl refl)
        (λ r low high x k. root_in r high (routine_at p r) (routine_at p r) refl refl refl x k) (tt, (tt, (tt, (tt, (tt, tt)))))
        (line_each (RootExists q number last_routine) Here (λ t. tt) (λ v. tt)
        (record { exist = omega arith; kinds = tt }, λ e. absurd (omega (arith, e))) tt tt tt (λ s l g. tt) (λ s l g. tt)
        (λ s l g. tt) (λ s l g. tt)
        (λ s l g. (omega arith, numbers_in body (listing_body body number) refl refl s (suc l) g.0, g.1)) (λ s l g. tt) (λ s l g. tt)
        (λ s l g. tt) gs globals_here) h.roots

    -- ---- conditions that speak of no other routine

    same_head_facts : (P : ℕ → Routine → Phrase → Type 0) → ((x : Phrase) → P 0 body x → P 0 (listing_body body number) x)
        → AllByRecursion (P 0 (listing_body body number)) (stmts_phrases (list_and_fail number)) → AllByRecursion (P number last_routine)
        (stmts_phrases (write_line gs)) → EachPhrase p P → EachPhrase q P
    same_head_facts P first tail line k = each_phrase P P first (λ r low high x m. m) tail line k

    parts_checked : EachPhrase q (λ r routine x. PartsExist x)
    unfolding stmts_phrases
    parts_checked =
        same_head_facts (λ r routine x. PartsExist x) (λ x k. k) (tt, (tt, (tt, (tt, (tt, tt)))))
        (line_each (λ x. PartsExist x) (λ s c. Unit {0}) (λ t. tt) (λ v. tt) tt tt tt tt (λ s l g. tt) (λ s l g. tt) (λ s l g. tt)
        (λ s l g. tt) (λ s l g. (array_part l, tt)) (λ s l g. tt) (λ s l g. tt) (λ s l g. tt) gs
        (each_follows (IsGlobal p) (λ g. Unit {0}) (λ g k. tt) gs h.globals)) h.parts
      where
        array_part : (l : ℕ) → range_size (cell_range l) * 1 ≤ suc l
        array_part l = grind (arith, ints)

    any_globals : AllByRecursion (λ g. Unit {0}) gs
    any_globals = each_follows (IsGlobal p) (λ g. Unit {0}) (λ g k. tt) gs h.globals

    cells_checked : EachPhrase q (λ r routine x. CellsAgree x)
    unfolding stmts_phrases
    cells_checked =
        same_head_facts (λ r routine x. CellsAgree x) (λ x k. k) (tt, (tt, (tt, (tt, (tt, tt)))))
        (line_each (λ x. CellsAgree x) (λ s c. Unit {0}) (λ t. tt) (λ v. tt) tt refl tt tt (λ s l g. refl) (λ s l g. tt) (λ s l g. tt)
        (λ s l g. refl) (λ s l g. tt) (λ s l g. tt) (λ s l g. tt) (λ s l g. refl) gs any_globals) h.cells

    ranges_checked : EachPhrase q (λ r routine x. RangesOrdered x)
    unfolding stmts_phrases
    ranges_checked =
        same_head_facts (λ r routine x. RangesOrdered x) (λ x k. k) (tt, (tt, (tt, (tt, (tt, tt)))))
        (line_each (λ x. RangesOrdered x) (λ s c. Unit {0}) (λ t. tt) (λ v. tt) tt tt tt tt (λ s l g. (ordered l, tt)) (λ s l g. tt)
        (λ s l g. tt) (λ s l g. tt) (λ s l g. tt) (λ s l g. (ordered l, tt)) (λ s l g. tt) (λ s l g. tt) gs any_globals) h.ranges
      where
        ordered : (l : ℕ) → pos 0 ≤ℤ pos l
        ordered l = omega (arith, ints)

    steps_checked : EachPhrase q (λ r routine x. AllByRecursion HasStep (loops_of x))
    unfolding stmts_phrases
    steps_checked =
        same_head_facts (λ r routine x. AllByRecursion HasStep (loops_of x)) (λ x k. k) (tt, (tt, (tt, (tt, (tt, tt)))))
        (line_each (λ x. AllByRecursion HasStep (loops_of x)) (λ s c. Unit {0}) (λ t. tt) (λ v. tt) tt tt tt tt (λ s l g. (has_step, tt))
        (λ s l g. tt) (λ s l g. tt) (λ s l g. tt) (λ s l g. tt) (λ s l g. tt) (λ s l g. tt) (λ s l g. tt) gs any_globals) h.steps
      where
        has_step : pos 1 ≡ pos 0 → ⊥
        has_step e = let bad : 1 ≡ 0 = ap nat_abs e in absurd (omega (arith, bad))

    choices_checked : EachPhrase q (λ r routine x. HasChoice x)
    unfolding stmts_phrases
    choices_checked =
        same_head_facts (λ r routine x. HasChoice x) (λ x k. k) (tt, (tt, (tt, (tt, (tt, tt)))))
        (line_each (λ x. HasChoice x) (λ s c. Unit {0}) (λ t. tt) (λ v. tt) tt tt tt tt (λ s l g. tt) (λ s l g. tt) (λ s l g. tt)
        (λ s l g. tt) (λ s l g. tt) (λ s l g. tt) (λ s l g. tt) (λ s l g. tt) gs any_globals) h.choices

    stays_checked : EachPhrase q (λ r routine x. ReturnsStay x)
    unfolding stmts_phrases
    stays_checked =
        same_head_facts (λ r routine x. ReturnsStay x) (λ x k. k) (tt, (tt, (tt, (tt, (tt, tt)))))
        (line_each (λ x. ReturnsStay x) (λ s c. Unit {0}) (λ t. tt) (λ v. tt) tt tt tt tt (λ s l g. tt) (λ s l g. tt) (λ s l g. tt)
        (λ s l g. tt) (λ s l g. tt) (λ s l g. tt) (λ s l g. tt) (λ s l g. tt) gs any_globals) h.returns_stay

    -- ---- loops

    -- a slot that the procedure's phrases leave, where it is no slot of theirs and no global takes it in
    leaves_in : (r slot : ℕ) → r < number → IsHiddenSlot p r slot → EachPhrase q (λ holder routine x. RootLeaves q holder r slot x)
    unfolding stmts_phrases
    leaves_in r slot lt k =
        each_phrase (λ holder routine x. RootLeaves p holder r slot x) (λ holder routine x. RootLeaves q holder r slot x)
        (move 0 (omega arith)) (λ holder low high x m. move holder high x m) (tt, (tt, (tt, (tt, (tt, tt)))))
        (line_each (λ x. RootLeaves q number r slot x) (λ s c. r ≡ 0 → IsOutside s c slot) (λ t. tt) (λ v. tt)
        (λ e. absurd (omega (arith, e, lt))) tt tt tt (λ s l g. tt) (λ s l g. tt) (λ s l g. tt) (λ s l g. tt) (λ s l g. g)
        (λ s l g. tt) (λ s l g. tt) (λ s l g. tt) gs
        (globals_left r slot k)) k.roots
      where
        move : (holder : ℕ) → holder < number → (x : Phrase) → RootLeaves p holder r slot x → RootLeaves q holder r slot x
        move holder high (DesigPhrase (a_desig (root.Local from) cells sels)) m = m
        move holder high (DesigPhrase (a_desig (root.Global from) cells sels)) m = m
        move holder high (DesigPhrase (a_desig (root.Outer links from) cells sels)) m = λ e. m (sym (outer_in links holder high).0 ∙ e)
        move holder high (DesigPhrase (a_desig (root.Param from) cells sels)) m = tt
        move holder high (DesigPhrase (a_desig (root.OuterParam links from) cells sels)) m = tt
        move holder high (StmtPhrase x) m = tt
        move holder high (TestPhrase x) m = tt
        move holder high (ExprPhrase x) m = tt
        move holder high (ArgPhrase x) m = tt
        move holder high (SelPhrase x) m = tt

        globals_left : (r slot : ℕ) → IsHiddenSlot p r slot → AllByRecursion (λ g. r ≡ 0 → IsOutside g.slot g.cells slot) gs
        globals_left zero slot k =
            each_follows (λ g. IsOutside g.slot g.cells slot) (λ g. 0 ≡ 0 → IsOutside g.slot g.cells slot) (λ g m e. m) gs (k.globals refl)
        globals_left (suc j) slot k =
            each_follows (IsGlobal p) (λ g. suc j ≡ 0 → IsOutside g.slot g.cells slot) (λ g m e. absurd (omega (arith, e))) gs h.globals

    hidden_in : (r slot : ℕ) → r < number → IsHiddenSlot p r slot → IsHiddenSlot q r slot
    hidden_in r slot lt k = record {
      exists = omega (arith, k.exists, same_slots r lt);
      position = k.position;
      params = subst (λ ps. AllByRecursion (λ z. IsOutside z.slot (param_slots z) slot) ps) (sym (same_params r lt)) k.params;
      globals = k.globals;
      roots = leaves_in r slot lt k;
    }

    loop_in : (r : ℕ) → r < number → (l : Loop) → LoopIsApart p r l → LoopIsApart q r l
    loop_in r lt (a_loop d range counter limit from to by x) k = record {
      of_counter = hidden_in r counter lt k.of_counter;
      of_limit = hidden_in r limit lt k.of_limit;
      two = k.two;
      nested = k.nested;
    }

    -- the two slots of the procedure
    own_leaves : (slot : ℕ) → 0 < slot → EachPhrase q (λ holder routine x. RootLeaves q holder number slot x)
    unfolding stmts_phrases
    own_leaves slot some =
        each_phrase (λ holder routine x. Unit {0}) (λ holder routine x. RootLeaves q holder number slot x) (λ x m. left 0 (omega arith) x)
        (λ holder low high x m. left holder high x) (tt, (tt, (tt, (tt, (tt, tt)))))
        (line_each (λ x. RootLeaves q number number slot x) (λ s c. Unit {0}) (λ t. tt) (λ v. tt) (λ e. inr (omega (arith, some))) tt tt
        tt (λ s l g. tt) (λ s l g. tt) (λ s l g. tt) (λ s l g. tt) (λ s l g e. absurd (omega (arith, e))) (λ s l g. tt) (λ s l g. tt)
        (λ s l g. tt) gs any_globals)
        (λ r lt. each_follows (λ x. PartsExist x) (λ x. Unit {0}) (λ x m. tt) (stmts_phrases (routine_at p r).body) (h.parts r lt))
      where
        left : (holder : ℕ) → holder < number → (x : Phrase) → RootLeaves q holder number slot x
        left holder high (DesigPhrase (a_desig (root.Local from) cells sels)) = λ e. absurd (omega (arith, e, high))
        left holder high (DesigPhrase (a_desig (root.Global from) cells sels)) = λ e. absurd (omega (arith, e))
        left holder high (DesigPhrase (a_desig (root.Outer links from) cells sels)) =
            λ e. absurd (omega (arith, e, (outer_in links holder high).0, (outer_in links holder high).1))
        left holder high (DesigPhrase (a_desig (root.Param from) cells sels)) = tt
        left holder high (DesigPhrase (a_desig (root.OuterParam links from) cells sels)) = tt
        left holder high (StmtPhrase x) = tt
        left holder high (TestPhrase x) = tt
        left holder high (ExprPhrase x) = tt
        left holder high (ArgPhrase x) = tt
        left holder high (SelPhrase x) = tt

    own_hidden : (slot : ℕ) → 0 < slot → slot < 3 → IsHiddenSlot q number slot
    own_hidden slot some few = record {
      exists = subst (λ routine. slot < routine.slots) (sym list_procedure_is) few;
      position = λ e. absurd (omega (arith, e));
      params = subst (λ routine. AllByRecursion (λ z. IsOutside z.slot (param_slots z) slot) routine.params) (sym list_procedure_is) tt;
      globals = λ e. absurd (omega (arith, e));
      roots = own_leaves slot some;
    }

    own_loop : (s l : ℕ) → LoopIsApart q number (cells_loop s l)
    unfolding stmts_phrases
    own_loop s l = record {
      of_counter = own_hidden 1 (omega arith) (omega arith);
      of_limit = own_hidden 2 (omega arith) (omega arith);
      two = λ e. absurd (omega (arith, e));
      nested = (
        tt,
        (
          tt,
          (
            tt,
            (
              tt,
              (
                tt,
                (tt, (tt, (tt, (tt, (tt, (tt, (tt, (tt, (tt, (tt, (tt, (tt, (tt, (tt, (tt, (tt, (tt, tt))))))))))))))))),
              ),
            ),
          ),
        ),
      );
    }

    loops_checked : EachPhrase q (λ r routine x. AllByRecursion (LoopIsApart q r) (loops_of x))
    unfolding stmts_phrases
    loops_checked =
        each_phrase (λ r routine x. AllByRecursion (LoopIsApart p r) (loops_of x))
        (λ r routine x. AllByRecursion (LoopIsApart q r) (loops_of x))
        (λ x m. each_follows (LoopIsApart p 0) (LoopIsApart q 0) (loop_in 0 (omega arith)) (loops_of x) m)
        (λ r low high x m. each_follows (LoopIsApart p r) (LoopIsApart q r) (loop_in r high) (loops_of x) m)
        (tt, (tt, (tt, (tt, (tt, tt)))))
        (line_each (λ x. AllByRecursion (LoopIsApart q number) (loops_of x)) (λ s c. Unit {0}) (λ t. tt) (λ v. tt) tt tt tt tt
        (λ s l g. (own_loop s l, tt)) (λ s l g. tt) (λ s l g. tt) (λ s l g. tt) (λ s l g. tt) (λ s l g. tt) (λ s l g. tt)
        (λ s l g. tt) gs any_globals) h.loops

    -- ---- calls

    leads_in : (r : ℕ) → r < number → (a b : Routine) → a.level ≡ b.level → (c up : ℕ) → (0 < c) × (c < number) → LinksAgree p r a c up →
        LinksAgree q r b c up
    leads_in r lt a b level c up callee k =
        let same = others_are c callee.0 callee.1 in
        let same_up : (routine_at q c).level ≡ (routine_at p c).level = ap (λ x. x.level) same in
        (omega (arith, k.0, level, same_up), (outer_in up r lt).0 ∙ k.1 ∙ sym (ap (λ x. x.outer) same))

    -- what is asked of calls, together
    abbrev Calls : Program → ℕ → Routine → Phrase → Type 0
    Calls u r routine x = (CalleeExists u x × ResultAgrees u x) × (CallLeads u r routine x × CallFits u x)

    calls_in : (r : ℕ) → r < number → (a b : Routine) → a.level ≡ b.level → (x : Phrase) → Calls p r a x → Calls q r b x
    calls_in r lt a b level (TestPhrase (Value e)) k = ((tt, tt), (tt, tt))
    calls_in r lt a b level (TestPhrase (Bind d e range left)) k = ((tt, tt), (tt, tt))
    calls_in r lt a b level (TestPhrase (Unify d range e range2)) k = ((tt, tt), (tt, tt))
    calls_in r lt a b level (TestPhrase (SameCells d e)) k = ((tt, tt), (tt, tt))
    calls_in r lt a b level (TestPhrase (Seq x)) k = ((tt, tt), (tt, tt))
    calls_in r lt a b level (TestPhrase (And ts)) k = ((tt, tt), (tt, tt))
    calls_in r lt a b level (TestPhrase (Or ts)) k = ((tt, tt), (tt, tt))
    calls_in r lt a b level (TestPhrase (Not t)) k = ((tt, tt), (tt, tt))
    calls_in r lt a b level (TestPhrase (CallTest c args up)) k = (
      (
        (k.0.0.0, omega (arith, k.0.0.1, count_is)),
        subst (λ routine. IsNone routine.result) (sym (others_are c k.0.0.0 k.0.0.1))
            k.0.1,
      ),
      (
        leads_in r lt a b level c up k.0.0 k.1.0,
        subst (λ routine. ArgsFit routine.params args)
            (sym (others_are c k.0.0.0 k.0.0.1)) k.1.1,
      ),
    )
    calls_in r lt a b level (ExprPhrase (Const v)) k = ((tt, tt), (tt, tt))
    calls_in r lt a b level (ExprPhrase (Load d)) k = ((tt, tt), (tt, tt))
    calls_in r lt a b level (ExprPhrase (Chain negated e links)) k = ((tt, tt), (tt, tt))
    calls_in r lt a b level (ExprPhrase (Compare how x y)) k = ((tt, tt), (tt, tt))
    calls_in r lt a b level (ExprPhrase (Truth t)) k = ((tt, tt), (tt, tt))
    calls_in r lt a b level (ExprPhrase (Known d)) k = ((tt, tt), (tt, tt))
    calls_in r lt a b level (ExprPhrase (Chr e)) k = ((tt, tt), (tt, tt))
    calls_in r lt a b level (ExprPhrase (CallExpr c args up)) k = (
      (
        (k.0.0.0, omega (arith, k.0.0.1, count_is)),
        subst (λ routine. IsSome routine.result) (sym (others_are c k.0.0.0 k.0.0.1))
            k.0.1,
      ),
      (
        leads_in r lt a b level c up k.0.0 k.1.0,
        subst (λ routine. ArgsFit routine.params args)
            (sym (others_are c k.0.0.0 k.0.0.1)) k.1.1,
      ),
    )
    calls_in r lt a b level (StmtPhrase x) k = ((tt, tt), (tt, tt))
    calls_in r lt a b level (ArgPhrase x) k = ((tt, tt), (tt, tt))
    calls_in r lt a b level (DesigPhrase x) k = ((tt, tt), (tt, tt))
    calls_in r lt a b level (SelPhrase x) k = ((tt, tt), (tt, tt))

    calls_together : EachPhrase p (Calls p)
    calls_together r lt =
        let xs = stmts_phrases (routine_at p r).body in
        each_of_both (λ x. CalleeExists p x × ResultAgrees p x) (λ x. CallLeads p r (routine_at p r) x × CallFits p x) xs
        (each_of_both (λ x. CalleeExists p x) (λ x. ResultAgrees p x) xs (h.callees r lt) (h.results r lt))
        (each_of_both (CallLeads p r (routine_at p r)) (λ x. CallFits p x) xs (h.links r lt) (h.arguments r lt))

    calls_checked : EachPhrase q (Calls q)
    unfolding stmts_phrases
    calls_checked =
        each_phrase (Calls p) (Calls q) (calls_in 0 (omega arith) body (listing_body body number) refl)
        (λ r low high x k. calls_in r high (routine_at p r) (routine_at p r) refl x k)
        (((tt, tt), (tt, tt)), (list_procedure_called, (((tt, tt), (tt, tt)), (((tt, tt), (tt, tt)), (((tt, tt), (tt, tt)), tt)))))
        (line_each (Calls q number last_routine) (λ s c. Unit {0}) (λ t. ((tt, tt), (tt, tt))) (λ v. ((tt, tt), (tt, tt)))
        ((tt, tt), (tt, tt)) ((tt, tt), (tt, tt)) ((tt, tt), (tt, tt)) ((tt, tt), (tt, tt)) (λ s l g. ((tt, tt), (tt, tt)))
        (λ s l g. ((tt, tt), (tt, tt))) (λ s l g. ((tt, tt), (tt, tt))) (λ s l g. ((tt, tt), (tt, tt)))
        (λ s l g. ((tt, tt), (tt, tt))) (λ s l g. ((tt, tt), (tt, tt))) (λ s l g. ((tt, tt), (tt, tt)))
        (λ s l g. ((tt, tt), (tt, tt))) gs any_globals) calls_together
      where
        body_level : body.level ≡ 0
        body_level = ((h.nested 0 (omega arith)).body refl).0

        list_procedure_called : Calls q 0 (listing_body body number) (TestPhrase (CallTest number no_args 0))
        list_procedure_called =
            let up : (routine_at q number).level ≡ 1 = ap (λ x. x.level) list_procedure_is in (
              ((omega arith, omega (arith, count_is)), subst (λ routine. IsNone routine.result) (sym list_procedure_is) refl),
              (
                (omega (arith, up, body_level), sym (ap (λ x. x.outer) list_procedure_is)),
                subst (λ routine. ArgsFit routine.params no_args)
                    (sym list_procedure_is) tt,
              ),
            )

    returns_checked : EachPhrase q (λ r routine x. ReturnAgrees routine x)
    unfolding stmts_phrases
    returns_checked =
        each_phrase (λ r routine x. ReturnAgrees routine x) (λ r routine x. ReturnAgrees routine x) (λ x k. k) (λ r low high x k. k)
        (tt, (tt, (tt, (tt, (tt, tt)))))
        (line_each (λ x. ReturnAgrees last_routine x) (λ s c. Unit {0}) (λ t. tt) (λ v. tt) tt tt tt tt (λ s l g. tt) (λ s l g. tt)
        (λ s l g. tt) (λ s l g. tt) (λ s l g. tt) (λ s l g. tt) (λ s l g. tt) (λ s l g. tt) gs any_globals) h.returns

    -- ---- heads

    params_checked : EachRoutine q (λ r routine. ParamsFirst routine)
    params_checked =
        let k = h.params 0 (omega arith) in
        each_routine (λ r routine. ParamsFirst routine) (record { laid_out = k.laid_out; fit = k.fit; cells = k.cells })
        (λ r low high. h.params r high) (record { laid_out = tt; fit = omega arith; cells = tt })

    declared_checked : EachRoutine q DeclaredFits
    declared_checked =
        let k = h.declared 0 (omega arith) in
        each_routine DeclaredFits (record { within = k.within; body = k.body }) (λ r low high. h.declared r high)
        (record { within = omega arith; body = λ e. absurd (omega (arith, e)) })

    nested_checked : EachRoutine q (IsNested q)
    nested_checked =
        let k = h.nested 0 (omega arith) in
        each_routine (IsNested q)
        (record { body = k.body; exists = omega (arith, (k.body refl).1); above = λ low. absurd (omega (arith, low)); few = k.few })
        (λ r low high. let m = h.nested r high in record {
          body = m.body;
          exists = omega (arith, m.exists, count_is);
          above = λ l. m.above l
              ∙ ap suc (sym (same_level (routine_at p r).outer m.exists));
          few = m.few;
        })
        (record {
          body = λ e. absurd (omega (arith, e));
          exists = omega arith;
          above = λ l. ap suc (sym (k.body refl).0);
          few = omega
              arith;
        })

    globals_checked : AllByRecursion (IsGlobal q) gs
    globals_checked =
        each_follows (IsGlobal p) (IsGlobal q)
        (λ g k. record { slots = numbers_in body (listing_body body number) refl refl g.slot g.cells k.slots; position = k.position }) gs
        h.globals

    head_ranges_checked : EachRoutine q (λ r routine. HeadRangesOrdered routine)
    head_ranges_checked =
        let k = h.head_ranges 0 (omega arith) in
        each_routine (λ r routine. HeadRangesOrdered routine) (record { params = k.params; result = k.result })
        (λ r low high. h.head_ranges r high)
        (record { params = tt; result = λ range e. absurd (subst (λ o. MatchOption o (Unit {0}) (λ _. ⊥)) e tt) })

    limits_of_routines : EachRoutine q (λ r routine. RoutineKeepsLimits routine)
    limits_of_routines =
        let k = h.routine_limits 0 (omega arith) in
        each_routine (λ r routine. RoutineKeepsLimits routine) (record { declared = k.declared; slots = k.slots })
        (λ r low high. h.routine_limits r high) (record { declared = omega arith; slots = omega arith })

    -- ---- lines

    lines_checked : EachRoutine q (λ r routine. HasLines routine)
    unfolding stmts_phrases
    lines_checked =
        let k = h.lines 0 (omega arith) in
        let phrases : stmt_count (stmts_phrases (append_stmts body.body (list_and_fail number))) ≡ stmt_count (stmts_phrases body.body) +
        2 =
        ap stmt_count (append_phrases body.body (list_and_fail number)) ∙ count_sum (stmts_phrases body.body)
        (stmts_phrases (list_and_fail number)) ∙ ap (λ n. stmt_count (stmts_phrases body.body) + n) tail_count in
        each_routine (λ r routine. HasLines routine)
        (record {
          line = k.line;
          count = omega (arith, length-append body.lines (body.line ∷ body.line ∷ []), k.count, phrases);
          lines = each_of_append (λ l. 0 < l) body.lines (body.line ∷ body.line ∷ []) k.lines (k.line, (k.line, tt));
        })
        (λ r low high. h.lines r high)
        (record {
          line = k.line;
          count = length-replicate (globals_stmts gs + 2) body.line ∙ sym (line_count gs);
          lines = all_lines
              (globals_stmts gs + 2) body.line k.line;
        })
      where
        tail_count : stmt_count (stmts_phrases (list_and_fail number)) ≡ 2
        tail_count = refl

        all_lines : (n l : ℕ) → 0 < l → AllByRecursion (λ m. 0 < m) (replicate n l)
        all_lines zero l some = tt
        all_lines (suc n) l some = (some, all_lines n l some)

    -- ---- names and limits

    names_checked : NamesSpelled q
    names_checked = record {
      globals = h.names.globals;
      routines = (
        h.names.routines.0,
        each_of_append (λ r. IsName r.name) rest (last_routine ∷ []) h.names.routines.1
            ((refl, (refl, (refl, (refl, tt)))), tt),
      );
    }

    sum_behind : (f : Routine → ℕ) (xs : List Routine) (r : Routine) → sum_by f (xs ++ (r ∷ [])) ≡ sum_by f xs + f r
    sum_behind f [] r = omega (arith, sum_by-cons f r [])
    sum_behind f (x ∷ xs) r = omega (arith, sum_by-cons f x (xs ++ (r ∷ [])), sum_by-cons f x xs, sum_behind f xs r)

    -- the texts of a list of phrases, of the statements behind the body, and of the line
    texts : List Phrase → ℕ
    texts [] = 0
    texts (x ∷ xs) = text_bytes x + texts xs

    texts_are : (xs : List Phrase) → sum_by text_bytes xs ≡ texts xs
    unfolding texts
    texts_are [] = refl
    texts_are (x ∷ xs) = omega (arith, sum_by-cons text_bytes x xs, texts_are xs)

    texts_two : (xs ys : List Phrase) → texts (xs ++ ys) ≡ texts xs + texts ys
    unfolding texts
    texts_two [] ys = omega arith
    texts_two (x ∷ xs) ys = omega (arith, texts_two xs ys)

    texts_tail : texts (stmts_phrases (list_and_fail number)) ≡ 0
    unfolding stmts_phrases texts
    texts_tail = refl

    texts_cells : (slot cells : ℕ) (rest : Stmts) → texts (stmts_phrases (write_cells slot cells rest)) ≤ 2 + texts (stmts_phrases rest)
    unfolding stmts_phrases texts
    texts_cells slot zero rest = omega arith
    texts_cells slot (suc last) rest = omega arith

    texts_globals : (before : List ℕ) → length before ≤ 1 → (xs : List Global) (rest : Stmts) →
        texts (stmts_phrases (write_globals before xs rest)) ≤ sum_by (λ g. length g.name) xs + 4 * length xs + texts (stmts_phrases rest)
    unfolding stmts_phrases texts
    texts_globals before short [] rest = omega arith
    texts_globals before short (g ∷ xs) rest =
        omega (
          arith,
          short,
          length-append (before ++ g.name) (codes "="),
          length-append before g.name,
          texts_cells g.slot g.cells
              (write_globals (codes " ") xs rest),
          texts_globals (codes " ") (omega arith) xs rest,
          sum_by-cons (λ z. length z.name) g xs,
        )

    texts_line : texts (stmts_phrases (write_line gs)) ≤ sum_by (λ g. length g.name) gs + 4 * length gs + 3
    unfolding stmts_phrases texts
    texts_line = omega (arith, texts_globals [] (omega arith) gs (more_stmts 0 (WriteText (125 ∷ 10 ∷ [])) no_stmts))

    module _ (room : (sum_by (λ r. length r.name) p.routines + sum_by (λ g. length g.name) gs) + sum_by
        (λ r. sum_by text_bytes (stmts_phrases r.body)) p.routines ≤ 4194304) where
      abbrev body2 : Routine
      body2 = listing_body body number

      params_of : Routine → ℕ
      params_of r = length r.params + link_slots r.level

      sums : (f : Routine → ℕ) → sum_by f q.routines ≡ f body2 + (sum_by f rest + f last_routine)
      sums f = omega (arith, sum_by-cons f body2 (rest ++ (last_routine ∷ [])), sum_behind f rest last_routine)

      limits_checked : KeepsLimits q
      limits_checked = record {
        globals = h.limits.globals;
        params =
            omega (
              arith,
              h.limits.params,
              sums (λ r. length r.params + link_slots r.level),
              sum_by-cons
                  (λ r. length r.params + link_slots r.level) body rest,
            );
        names = omega (arith, room, sums (λ r. length r.name), sum_by-cons (λ r. length r.name) body rest);
        texts = omega (
          arith,
          room,
          h.limits.globals,
          sums (λ r. sum_by text_bytes (stmts_phrases r.body)),
          sum_by-cons (λ r. sum_by text_bytes (stmts_phrases r.body)) body rest,
          body_texts,
          texts_are (stmts_phrases (write_line gs)),
          texts_line,
        );
      }
        where
          body_texts : sum_by text_bytes (stmts_phrases (append_stmts body.body (list_and_fail number))) ≡ sum_by text_bytes
              (stmts_phrases body.body)
          body_texts =
              ap (sum_by text_bytes) (append_phrases body.body (list_and_fail number))
              ∙ texts_are (stmts_phrases body.body ++ stmts_phrases (list_and_fail number))
              ∙ texts_two (stmts_phrases body.body) (stmts_phrases (list_and_fail number))
              ∙ omega (arith, texts_tail, texts_are (stmts_phrases body.body))

      -- all conditions
      all_checked : IsChecked q
      all_checked = record {
        body = (omega arith, h.body.1);
        body_takes_nothing = h.body_takes_nothing;
        params = params_checked;
        declared = declared_checked;
        nested = nested_checked;
        globals = globals_checked;
        roots = roots_checked;
        parts = parts_checked;
        cells = cells_checked;
        head_ranges = head_ranges_checked;
        ranges = ranges_checked;
        steps = steps_checked;
        loops = loops_checked;
        callees =
            λ r lt. each_follows (Calls q r (routine_at q r)) (λ x. CalleeExists q x) (λ x k. k.0.0) (stmts_phrases (routine_at q r).body)
            (calls_checked r lt);
        results =
            λ r lt. each_follows (Calls q r (routine_at q r)) (λ x. ResultAgrees q x) (λ x k. k.0.1) (stmts_phrases (routine_at q r).body)
            (calls_checked r lt);
        links =
            λ r lt. each_follows (Calls q r (routine_at q r)) (CallLeads q r (routine_at q r)) (λ x k. k.1.0)
            (stmts_phrases (routine_at q r).body) (calls_checked r lt);
        arguments =
            λ r lt. each_follows (Calls q r (routine_at q r)) (λ x. CallFits q x) (λ x k. k.1.1) (stmts_phrases (routine_at q r).body)
            (calls_checked r lt);
        choices = choices_checked;
        returns = returns_checked;
        returns_stay = stays_checked;
        lines = lines_checked;
        names = names_checked;
        limits = limits_checked;
        routine_limits = limits_of_routines;
      }

by_routines : (name : List ℕ) (gs : List Global) (rs : List Routine) → IsChecked (record { name = name; globals = gs; routines = rs }) →
    HasRoom (record { name = name; globals = gs; routines = rs }) →
    IsChecked (listing_of (record { name = name; globals = gs; routines = rs }))
by_routines name gs [] h room = absurd (omega (arith, h.body.0))
by_routines name gs (body ∷ rest) h room = all_checked name gs body rest h room

pub lister_is_checked : ListerIsChecked listing_of
lister_is_checked p h room = by_routines p.name p.globals p.routines h room
