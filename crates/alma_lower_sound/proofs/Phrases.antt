-- The code of each phrase of a routine of a checked program: each instruction has what it needs, by induction over the phrases.
use Rattle.std.proofs.Common.{◌≡◌, ℕ, ◌+◌, ◌<◌, Bool, true, false, List, [], ◌∷◌, ◌++◌, length, Option, Some, None, pos, refl, sym, ap}
use Rattle.std.proofs.Common.{ℤ}
use Rattle.std.proofs.Common.{◌∙◌}
use Rattle.std.proofs.Common.{subst, arith, append_assoc}
use Rattle.std.specs.Prelude.{slice_get, IsNone, IsSome}
use Rattle.std.specs.List.{AllByRecursion}
use Rattle.std.proofs.lemmas.List.{length-append}
use Rattle.std.proofs.lemmas.Option.{slice_get_within}
use Rattle.alma_base.specs.declared.number.Range.{Range}
use Rattle.alma_code.specs.declared.cell.SlotKind.{SlotKind}
use Rattle.alma_code.specs.declared.cell.SlotKind.TheVariants as slot
use Rattle.alma_code.specs.declared.instr.Instr.{Instr}
use Rattle.alma_code.specs.declared.instr.Instr.TheVariants as I
use Rattle.alma_code.specs.Plain.{PlainCode, head_at}
use Rattle.alma_ir.specs.declared.phrase.Cmp.{Cmp}
use Rattle.alma_ir.specs.declared.phrase.Cmp.TheVariants as cmp
use Rattle.alma_ir.specs.declared.phrase.ReadAs.{ReadAs}
use Rattle.alma_ir.specs.declared.phrase.ReadAs.TheVariants as read_as
use Rattle.alma_ir.specs.Tree.{Stmts, Stmt, Arms, CaseArms, Else, Branches, Loop, Test, Tests, Expr, Links, Args, Arg, Desig, Sels, Sel}
use Rattle.alma_ir.specs.Tree.{Program, routine_at, no_stmts, more_stmts, TestStmt, Assign, CopyCells, If, While, Repeat, ForTo, SomeOf}
use Rattle.alma_ir.specs.Tree.{Case, Either, Forall, Commit, Return, Read, WriteExpr, WriteText, WriteLine, no_arms, more_arms, no_cases}
use Rattle.alma_ir.specs.Tree.{more_cases, no_else, else_part, no_branches, more_branches, a_loop, no_result, some_result, Value, Bind}
use Rattle.alma_ir.specs.Tree.{Unify, SameCells, Seq, And, Or, Not, CallTest, no_tests, more_tests, Const, Load, Chain, Compare, Truth}
use Rattle.alma_ir.specs.Tree.{Known, Chr, CallExpr, no_links, more_links, no_args, more_args, ByValue, ByCells, ByPlace, MixValue}
use Rattle.alma_ir.specs.Tree.{MixPlace, a_desig, no_sels, more_sels, Field, Index}
use Rattle.alma_ir.specs.Phrases.{Phrase, StmtPhrase, stmts_phrases, stmt_phrases, arms_phrases, cases_phrases, else_phrases}
use Rattle.alma_ir.specs.Phrases.{branches_phrases, loop_phrases, test_phrases, tests_phrases, expr_phrases, links_phrases, args_phrases}
use Rattle.alma_ir.specs.Phrases.{arg_phrases, desig_phrases, sels_phrases, sel_phrases}
use Rattle.alma_ir.specs.Checked.{IsChecked, ArePartsOf, IsPart, sel_cells, desig_cells}
use Rattle.alma_ir.proofs.Each.{each_of_front, each_of_back, each_of_append}
use Rattle.alma_lower_templates.specs.LineInstr.{LineInstr, own}
use Rattle.alma_lower_templates.specs.Tables.{Tables, range_number, text_number}
use Rattle.alma_lower_templates.specs.Pieces.{condition, guard_code, branch_code, first_of_two, truth_code, fit_code, neg_code, op_code}
use Rattle.alma_lower_templates.specs.Pieces.{cmp_code}
use Rattle.alma_lower_templates.specs.Pieces.{unequal_code, opposite_code, write_code, read_code, case_arm, passed_over, has_dead}
use Rattle.alma_lower_templates.specs.Pieces.{behind_labels}
use Rattle.alma_lower_templates.specs.Pieces.{begin_loop, for_turns, some_turns, turn_code, each_body, unless_constant, limit_code}
use Rattle.alma_lower_templates.specs.Pieces.{held_code as constant_code, held_or}
use Rattle.alma_lower_templates.specs.Slots.{bare, bare_desig, stays, stays_in, taken_from, unless_bare, is_simple, is_turned, by_turn}
use Rattle.alma_lower_templates.specs.Slots.{mark_slots, handed_slots}
use Rattle.alma_lower_templates.specs.Slots.{call_links, root_slots, arg_kind, stmts_slots, stmt_slots, arms_slots, dead_slots, cases_slots}
use Rattle.alma_lower_templates.specs.Slots.{else_slots, branches_slots, for_slots, some_slots, test_slots, and_slots, or_slots, expr_slots}
use Rattle.alma_lower_templates.specs.Slots.{links_slots, args_slots, arg_slots, desig_slots, sels_slots, sel_slots, behind_expr}
use Rattle.alma_lower_templates.specs.Slots.{behind_dead, behind_value, behind_desig, behind_target, behind_variable, behind_test}
use Rattle.alma_lower_templates.specs.Slots.{behind_stmts, behind_stmt, behind_condition, own_place, own_root, goes_straight}
use Rattle.alma_lower_templates.specs.Slots.{constant, ends_alone, is_straight, held_constant, held_slots, behind_held}
use Rattle.alma_lower_templates.specs.Slots as slots_of
use Rattle.alma_base.specs.Numbers.{char_range}
use Rattle.alma_lower_templates.specs.Templates.{own_slot, slot_or, value_at, part_slot, behind_root, place_at, root_code}
use Rattle.alma_lower_templates.specs.Templates.{call_link_code, arguments_from, call_code, set_code, load_code, count_at, count_code}
use Rattle.alma_lower_templates.specs.Templates.{fit_result, stmts_code, stmt_code, if_code, arms_code, for_code, some_code, dead_code}
use Rattle.alma_lower_templates.specs.Templates.{case_code, cases_code, else_code, either_code, branches_code, test_code, and_code, or_code}
use Rattle.alma_lower_templates.specs.Templates.{operands_code, jump_code, back_code, expr_code, links_code, args_code, arg_code}
use Rattle.alma_lower_templates.specs.Templates.{desig_code}
use Rattle.alma_lower_templates.specs.Templates.{sels_code, sel_code, held_at, handed_code, set_to}
use Rattle.alma_lower_templates.specs.CodeOf.{HoldsChecked}
use Rattle.alma_lower_templates.specs.Compiled.{is_function}
use Rattle.alma_lower_templates.proofs.Args.{same_cells}
use Rattle.alma_lower_templates.proofs.First.{as_stays, as_stays_in}
use Rattle.alma_lower_templates.proofs.Tested.{compared_code, Tested, tested, as_value, as_unequal}
use Rattle.alma_lower_templates.proofs.Turned.{while_code}
use Rattle.alma_lower_sound.proofs.Facts.{Facts}
use Rattle.alma_lower_sound.proofs.Needs.{HasKind, IsInside, Needs, IsRange, Number, Place, Mark}
use Rattle.alma_lower_sound.proofs.Pieces as pieces
use Rattle.alma_lower_sound.proofs.Pieces.{Fits}
use Rattle.alma_lower_sound.proofs.Handed.{placed_fits, desig_ends}
use Rattle.alma_lower_templates.proofs.Placed.{handed_is}
use Rattle.alma_lower_sound.proofs.Roots as roots
use Rattle.alma_lower_sound.proofs.Roots.{Compiled, Slots}
use Rattle.alma_lower_sound.proofs.Values as values
use Rattle.alma_lower_sound.proofs.Values.{Good}
use Rattle.alma_lower_templates.proofs.Straight.{straight_variable}
use Rattle.alma_lower_templates.proofs.FormRuns.{held_code}

module _ (p : Program) (tables : Tables) (code : PlainCode) (checked : IsChecked p) (w : Compiled p tables code) (r : ℕ)
    (lt : r < length p.routines) where
  abbrev SlotsOf : (lo : ℕ) → List SlotKind → Type 0
  SlotsOf lo kinds = Slots p tables code checked w r lt lo kinds

  abbrev Fine : List Phrase → Type 0
  Fine xs = Good p tables code checked w r lt xs

  abbrev Here : (at : ℕ) → List LineInstr → Type 0
  Here at c = Fits code r 0 at c

  abbrev AllNeeds : List Instr → Type 0
  AllNeeds xs = AllByRecursion (Needs code r) xs

  -- ---- parts of slots and of facts

  front : (lo : ℕ) (a b : List SlotKind) → SlotsOf lo (a ++ b) → SlotsOf lo a
  front lo a b h = roots.front p tables code checked w r lt lo a b h

  back : (lo : ℕ) (a b : List SlotKind) → SlotsOf lo (a ++ b) → SlotsOf (lo + length a) b
  back lo a b h = roots.back p tables code checked w r lt lo a b h

  first_slot : (lo : ℕ) (k : SlotKind) (rest : List SlotKind) → SlotsOf lo (k ∷ rest) → HasKind code r lo k
  first_slot lo k rest h = roots.first_slot p tables code checked w r lt lo k rest h

  fine_front : (xs ys : List Phrase) → Fine (xs ++ ys) → Fine xs
  fine_front xs ys h = each_of_front (Facts p tables r) xs ys h

  fine_back : (xs ys : List Phrase) → Fine (xs ++ ys) → Fine ys
  fine_back xs ys h = each_of_back (Facts p tables r) xs ys h

  number : (lo : ℕ) (e : Expr) → Fine (expr_phrases e) → SlotsOf lo (unless_bare (bare e) (expr_slots p r e))
      → Number code r (value_at p tables r lo e)
  number lo e good slots = values.value_number p tables code checked w r lt lo e good slots

  own_fits : (at line : ℕ) (xs : List Instr) → AllNeeds xs → Here at (own line xs)
  own_fits at line xs h = pieces.own_fits code r 0 at line xs h

  row : (at : ℕ) (a b : List LineInstr) → Here at a → Here (at + length a) b → Here at (a ++ b)
  row at a b f g = pieces.both_fit code r 0 at a b f g

  then_own : (at line : ℕ) (a : List LineInstr) (xs : List Instr) → Here at a → AllNeeds xs → Here at (a ++ own line xs)
  then_own at line a xs f h = pieces.then_own code r 0 at line a xs f h

  -- ---- parts that have code only where they have slots

  once : (line at lo : ℕ) (e : Expr) → SlotsOf lo (unless_bare (bare e) (expr_slots p r e))
      → (SlotsOf lo (expr_slots p r e) → Here at (expr_code p tables r line at lo e))
      → Here at (unless_bare (bare e) (expr_code p tables r line at lo e))
  once line at lo e slots f = pieces.unless code r 0 at (bare e) (expr_code p tables r line at lo e)
      (λ none. f (values.none_slots p tables code checked w r lt (bare e) lo (expr_slots p r e) none slots))

  -- a designator whose place is used
  held_here : (line at lo : ℕ) (d : Desig) → Here at (desig_code p tables r line at lo d) → Here at (held_code p tables r line at lo d)
  held_here line at lo d f = pieces.unless code r 0 at (own_place d) (desig_code p tables r line at lo d) (λ none. f)

  located : (line at lo : ℕ) (d : Desig) → (bare_desig d ≡ None → SlotsOf lo (desig_slots p r d))
      → (SlotsOf lo (desig_slots p r d) → Here at (desig_code p tables r line at lo d))
      → Here at (unless_bare (bare_desig d) (held_code p tables r line at lo d))
  located line at lo d slots f =
      pieces.unless code r 0 at (bare_desig d) (held_code p tables r line at lo d) (λ none. held_here line at lo d (f (slots none)))

  target_slots : (lo : ℕ) (d : Desig) → SlotsOf lo (unless_bare (bare_desig d) (desig_slots p r d)) → bare_desig d ≡ None
      → SlotsOf lo (desig_slots p r d)
  target_slots lo d slots none = values.none_slots p tables code checked w r lt (bare_desig d) lo (desig_slots p r d) none slots

  -- a place that is handed over
  handed_fits : (line at to lo : ℕ) (d : Desig) → HasKind code r to (slot.Place (slots_of.desig_cells d)) → SlotsOf lo (desig_slots p r d)
      → Here at (desig_code p tables r line at lo d)
      → Here at (handed_code p tables r (own_place d) line to (desig_code p tables r line at lo d))
  handed_fits line at to lo d k slots f =
      subst (Here at) (sym (handed_is p tables r to line at lo d))
      (placed_fits code r to (place_at p tables r lo d) (desig_cells d) at (desig_code p tables r line at lo d)
      (desig_ends p tables r line at lo d) (values.desig_place p tables code checked w r lt lo d slots)
      (subst (Place code r to) (same_cells d) k) f)

  -- ---- conditions

  abbrev condition_code : (line at lo none : ℕ) → Test → List LineInstr
  condition_code line at lo none t = condition (is_simple t) line at lo none (λ at lo none. jump_code p tables r line at lo none t)
      (λ at lo. test_code p tables r line at lo t)

  abbrev guarded_code : (line at lo skipped : ℕ) → Test → ((at : ℕ) → List LineInstr) → List LineInstr
  guarded_code line at lo skipped t body = guard_code at skipped (λ none. condition_code line at lo none t) body

  jump_long : (line at lo a b : ℕ) (t : Test) → length (jump_code p tables r line at lo a t) ≡ length (jump_code p tables r line at lo b t)
  jump_long line at lo a b (Value x) = length-append _ (own line (I.JumpZero _ a ∷ []))
      ∙ sym (length-append _ (own line (I.JumpZero _ b ∷ [])))
  jump_long line at lo a b (Bind d x range left) = refl
  jump_long line at lo a b (Unify d range x range') = refl
  jump_long line at lo a b (SameCells d x) = refl
  jump_long line at lo a b (Seq x) = refl
  jump_long line at lo a b (And ts) = refl
  jump_long line at lo a b (Or ts) = refl
  jump_long line at lo a b (Not t) = refl
  jump_long line at lo a b (CallTest called args up) = refl

  condition_long : (line at lo none : ℕ) (t : Test) → length (condition_code line at lo none t) ≡ length (condition_code line at lo 0 t)
  condition_long line at lo none t = by (is_simple t)
    where
      by : (z : Bool) → length (condition z line at lo none (λ at lo none. jump_code p tables r line at lo none t)
          (λ at lo. test_code p tables r line at lo t)) ≡ length
          (condition z line at lo 0 (λ at lo none. jump_code p tables r line at lo none t) (λ at lo. test_code p tables r line at lo t))
      by true = jump_long line at lo none 0 t
      by false = refl

  mark_of : (z : Bool) (lo : ℕ) (xs : List SlotKind) → SlotsOf lo (mark_slots z ++ xs) → z ≡ false → Mark code r lo
  mark_of false lo xs h e = first_slot lo slot.Mark xs h
  mark_of true lo xs h e = absurd (let bad : true ≡ false = e in cc)

  simple_slots : (z : Bool) (lo : ℕ) (xs : List SlotKind) → SlotsOf lo (mark_slots z ++ xs) → z ≡ true → SlotsOf lo xs
  simple_slots true lo xs h e = h
  simple_slots false lo xs h e = absurd (let bad : false ≡ true = e in cc)

  marked_slots : (z : Bool) (lo : ℕ) (xs : List SlotKind) → SlotsOf lo (mark_slots z ++ xs) → z ≡ false → SlotsOf (lo + 1) xs
  marked_slots false lo xs h e = back lo (slot.Mark ∷ []) xs h
  marked_slots true lo xs h e = absurd (let bad : true ≡ false = e in cc)

  -- a condition that goes on at an address of the routine where it has no alternative
  decides : (line at lo none : ℕ) (t : Test) → SlotsOf lo (mark_slots (is_simple t) ++ test_slots p r t)
      → (SlotsOf lo (test_slots p r t) → Here at (jump_code p tables r line at lo none t))
      → ((at lo : ℕ) → SlotsOf lo (test_slots p r t) → Here at (test_code p tables r line at lo t)) → IsInside code r none
      → Here at (condition_code line at lo none t)
  decides line at lo none t slots j f out =
      pieces.condition_fits code r (is_simple t) 0 line at lo none (λ at lo none. jump_code p tables r line at lo none t)
      (λ at lo. test_code p tables r line at lo t)
      (λ simple. j (simple_slots (is_simple t) lo (test_slots p r t) slots simple)) (mark_of (is_simple t) lo (test_slots p r t) slots)
      (λ marked. f (at + 2) (lo + 1) (marked_slots (is_simple t) lo (test_slots p r t) slots marked)) out

  guards : (line at lo skipped : ℕ) (t : Test) (body : (at : ℕ) → List LineInstr)
      → SlotsOf lo (mark_slots (is_simple t) ++ test_slots p r t)
      → ((none : ℕ) → IsInside code r none → SlotsOf lo (test_slots p r t) → Here at (jump_code p tables r line at lo none t))
      → ((at lo : ℕ) → SlotsOf lo (test_slots p r t) → Here at (test_code p tables r line at lo t)) → ((at : ℕ) → Here at (body at))
      → Fits code r skipped at (guarded_code line at lo skipped t body)
  guards line at lo skipped t body slots j f b =
      pieces.guarded_fits code r at skipped (λ none. condition_code line at lo none t) body (λ none. condition_long line at lo none t)
      (λ none out. decides line at lo none t slots (j none out) f out) b

  -- the slots of a condition, and those behind it
  condition_slots : (lo : ℕ) (z : Bool) (xs ys : List SlotKind) → SlotsOf lo (mark_slots z ++ (xs ++ ys)) → SlotsOf lo (mark_slots z ++ xs)
      × SlotsOf (lo + length (mark_slots z) + length xs) ys
  condition_slots lo z xs ys h = (
    front lo (mark_slots z ++ xs) ys (subst (SlotsOf lo) (sym (append_assoc (mark_slots z) xs ys)) h),
    back (lo + length (mark_slots z)) xs ys (back lo (mark_slots z) (xs ++ ys) h),
  )

  -- the slots of a condition, of what it guards, and those behind
  arm_parts : (lo : ℕ) (a b c d e : List SlotKind) → SlotsOf lo ((a ++ (b ++ (c ++ d))) ++ e) → SlotsOf lo (a ++ b)
      × SlotsOf (lo + length a + length b) c × SlotsOf (lo + length a + length b + length c) (d ++ e)
  arm_parts lo a b c d e h =
      let flat : SlotsOf lo (a ++ (b ++ (c ++ (d ++ e)))) =
      subst (SlotsOf lo) (append_assoc a (b ++ (c ++ d)) e
      ∙ ap (λ x. a ++ x) (append_assoc b (c ++ d) e ∙ ap (λ x. b ++ x) (append_assoc c d e))) h in
      let behind_a = back lo a (b ++ (c ++ (d ++ e))) flat in
      let behind_b = back (lo + length a) b (c ++ (d ++ e)) behind_a in (
        front lo (a ++ b) (c ++ (d ++ e)) (subst (SlotsOf lo) (sym (append_assoc a b (c ++ (d ++ e)))) flat),
        front (lo + length a + length b) c (d ++ e) behind_b,
        back (lo + length a + length b) c (d ++ e) behind_b,
      )

  -- the slots of the value of CASE, and two for its labels
  record CaseSlots (value bound : ℕ) : Type 0 where
    number_at : Number code r value
    low : Number code r bound
    test : Number code r (bound + 1)

  case_parts : (lo : ℕ) (a b c : List SlotKind) → SlotsOf lo ((a ++ b) ++ c) → SlotsOf lo a × SlotsOf (lo + length a) (b ++ c)
  case_parts lo a b c h =
      let flat : SlotsOf lo (a ++ (b ++ c)) = subst (SlotsOf lo) (append_assoc a b c) h in
      (front lo a (b ++ c) flat, back lo a (b ++ c) flat)

  -- ---- a value as a test

  unequal_fits : (line at lo : ℕ) (x y : Expr) → Here at (expr_code p tables r line at lo (Compare cmp.Unequal x y))
      → Here at (test_code p tables r line at lo (Value (Compare cmp.Unequal x y)))
  unequal_fits line at lo x y f room =
      let operand : ℕ = value_at p tables r (behind_expr p r lo x) y in
      let operands : List LineInstr = compared_code p tables r line at lo x y in
      let first : ℕ = slot_or p tables r (stays x y) lo in
      let end : List LineInstr = own line (unequal_code lo first operand (at + length operands)) in
      let value : List LineInstr = own line (cmp_code cmp.Unequal lo first operand) in
      let long = length-append operands end in
      let all = f (record { low = room.low; high = omega (arith, room.high, long, length-append operands value) }) in
      let equal = each_of_back (pieces.NeedsOf code r) operands value all in
      let out : IsInside code r (at + length operands + 3) =
      record { low = omega (arith, room.low); high = omega (arith, room.high, long) } in
      each_of_append (pieces.NeedsOf code r) operands end (each_of_front (pieces.NeedsOf code r) operands value all)
      (equal.0, ((equal.0.0, out), (tt, tt)))

  value_fits : (line at lo : ℕ) (e : Expr) → Fine (expr_phrases e) → SlotsOf lo (unless_bare (bare e) (expr_slots p r e))
      → Here at (unless_bare (bare e) (expr_code p tables r line at lo e)) → Tested p tables r e
      → Here at (test_code p tables r line at lo (Value e))
  value_fits line at lo e good slots f (as_value is) =
      subst (Here at) (sym (is line at lo)) (then_own at line (unless_bare (bare e) (expr_code p tables r line at lo e))
      (I.Check (value_at p tables r lo e) ∷ []) f (number lo e good slots, tt))
  value_fits line at lo e good slots f (as_unequal x y same) =
      subst (λ z. Here at (test_code p tables r line at lo (Value z))) (sym same)
      (unequal_fits line at lo x y (subst (λ z. Here at (unless_bare (bare z) (expr_code p tables r line at lo z))) same f))

  -- ---- WHILE

  -- the opposite of a comparison needs what the comparison does
  back_needs : (how : Cmp) (to first other top : ℕ) → IsInside code r top → AllNeeds (cmp_code how to first other)
      → AllNeeds (opposite_code how to first other ∷ I.JumpZero to top ∷ [])
  back_needs cmp.Equal to first other top out h = (h.0, ((h.0.0, out), tt))
  back_needs cmp.Unequal to first other top out h = (h.0, ((h.0.0, out), tt))
  back_needs cmp.Less to first other top out h = ((h.0.0, h.0.2, h.0.1), ((h.0.0, out), tt))
  back_needs cmp.LessEq to first other top out h = ((h.0.0, h.0.2, h.0.1), ((h.0.0, out), tt))
  back_needs cmp.Greater to first other top out h = ((h.0.0, h.0.2, h.0.1), ((h.0.0, out), tt))
  back_needs cmp.GreaterEq to first other top out h = ((h.0.0, h.0.2, h.0.1), ((h.0.0, out), tt))

  -- the slot of a constant that is held
  abbrev HeldNumber : Option ℤ → (held : ℕ) → Type 0
  HeldNumber (Some n) held = Number code r held
  HeldNumber None held = Unit {0}

  held_number : (o : Option ℤ) (held other : ℕ) → HeldNumber o held → Number code r other → Number code r (held_or o held other)
  held_number (Some n) held other h k = h
  held_number None held other h k = k

  held_slot : (o : Option ℤ) (lo : ℕ) (rest : List SlotKind) → SlotsOf lo (held_slots o ++ rest) → HeldNumber o lo
  held_slot (Some n) lo rest h = first_slot lo slot.Number rest h
  held_slot None lo rest h = tt

  constant_needs : (o : Option ℤ) (lo : ℕ) → HeldNumber o lo → AllNeeds (constant_code o lo)
  constant_needs (Some n) lo h = (h, tt)
  constant_needs None lo h = tt

  while_fits : (behind : Bool) (line at lo : ℕ) (t : Test) (body : Stmts)
      → SlotsOf lo (by_turn behind (held_slots (held_constant t) ++ (stmts_slots p r body ++ test_slots p r t))
      (mark_slots (is_simple t) ++ (test_slots p r t ++ stmts_slots p r body)))
      → ((none : ℕ) → IsInside code r none → SlotsOf lo (test_slots p r t) → Here (at + 1) (jump_code p tables r line (at + 1) lo none t))
      → ((at lo : ℕ) → SlotsOf lo (test_slots p r t) → Here at (test_code p tables r line at lo t))
      → ((at lo held top : ℕ) → IsInside code r top → HeldNumber (held_constant t) held → SlotsOf lo (test_slots p r t)
      → Here at (back_code p tables r line at lo held top t))
      → ((at lo : ℕ) → SlotsOf lo (stmts_slots p r body) → Here at (stmts_code p tables r at lo body))
      → Here at (while_code p tables r behind line at lo t body)
  while_fits true line at lo t body slots j f g b room =
      let constant : List Instr = constant_code (held_constant t) lo in
      let at1 : ℕ = at + length (own line constant) in
      let lo1 : ℕ = behind_held p r lo t in
      let inner : List LineInstr = stmts_code p tables r (at1 + 1) lo1 body in
      let next : ℕ = at1 + 1 + length inner in
      let lo2 : ℕ = behind_stmts p r lo1 body in
      let last : List LineInstr = back_code p tables r line next lo2 lo (at1 + 1) t in
      let loop : List LineInstr = own line (I.Jump next ∷ []) ++ (inner ++ last) in
      let here = held_slot (held_constant t) lo (stmts_slots p r body ++ test_slots p r t) slots in
      let mine = back lo (held_slots (held_constant t)) (stmts_slots p r body ++ test_slots p r t) slots in
      let long = length-append inner last in
      let whole = length-append (own line constant) loop in
      let there : IsInside code r next = record { low = omega (arith, room.low); high = omega (arith, room.high, long, whole) } in
      let top : IsInside code r (at1 + 1) = record { low = omega (arith, room.low); high = omega (arith, room.high, long, whole) } in
      let all = row (at1 + 1) inner last (b (at1 + 1) lo1 (front lo1 (stmts_slots p r body) (test_slots p r t) mine))
      (g next lo2 lo (at1 + 1) top here (back lo1 (stmts_slots p r body) (test_slots p r t) mine)) in
      row at (own line constant) loop (own_fits at line constant (constant_needs (held_constant t) lo here))
      (λ inside. (there, all (record { low = omega (arith, inside.low); high = omega (arith, inside.high) }))) room
  while_fits false line at lo t body slots j f g b room =
      let parts = condition_slots lo (is_simple t) (test_slots p r t) (stmts_slots p r body) slots in
      let lo2 : ℕ = behind_condition p r lo t in
      let inner : List LineInstr = guarded_code line (at + 1) lo 1 t (λ next. stmts_code p tables r next lo2 body) in
      let last : List LineInstr = own line (I.Jump (at + 1) ∷ []) in
      let top : IsInside code r (at + 1) = record { low = omega (arith, room.low); high = omega (arith, room.high) } in
      let rest = pieces.in_two code r 0 (at + 1) inner last
      (pieces.less_spare code r (length last + 0) 1 (at + 1) inner (omega arith)
      (guards line (at + 1) lo 1 t (λ next. stmts_code p tables r next lo2 body) parts.0 j f (λ next. b next lo2 parts.1)))
      (own_fits (at + 1 + length inner) line (I.Jump (at + 1) ∷ []) (top, tt)) in
      (top, rest (record { low = omega (arith, room.low); high = omega (arith, room.high) }))

  -- ---- READ and RETURN

  read_needs : (how : ReadAs) (place range : ℕ) → Place code r place 1 → IsRange code r range → Needs code r (read_code how place range)
  read_needs read_as.Int place range a b = (a, b)
  read_needs read_as.Char place range a b = (a, b)

  result_needs : (value : ℕ) → IsSome (routine_at p r).result → Number code r value
      → AllNeeds (fit_result p tables r (routine_at p r).result value ++ (I.ReturnValue value ∷ []))
  result_needs value some n = each_of_append (Needs code r) (fit_result p tables r (routine_at p r).result value) (I.ReturnValue value ∷ [])
      (fits (routine_at p r).result refl) ((n, w.results r lt ∙ is (routine_at p r).result some), tt)
    where
      fits : (o : Option Range) → (routine_at p r).result ≡ o → AllNeeds (fit_result p tables r o value)
      fits None e = tt
      fits (Some range) e = values.fit_needs p tables code checked w r lt range value (w.held.results r range lt e) n

      is : (o : Option Range) → IsSome o → is_function o ≡ true
      is None h = absurd (cc)
      is (Some range) h = refl

  no_result_is : IsNone (routine_at p r).result → (head_at code r).has_result ≡ false
  no_result_is none = w.results r lt ∙ is (routine_at p r).result none
    where
      is : (o : Option Range) → IsNone o → is_function o ≡ false
      is None h = refl
      is (Some range) h = absurd (cc)

  -- ---- a value that goes straight into a variable, or what sets the variable

  set_fits : (o : Option ℕ) (at line lo : ℕ) (d : Desig) (e : Expr) (range : Range) (value : List LineInstr) (set : List Instr)
      → goes_straight d e range ≡ o → Fine (desig_phrases d) → desig_cells d ≡ 1 → Here at value → AllNeeds set
      → Here at (set_to p tables r o line value set)
  set_fits (Some to) at line lo d e range value set is good cell f needs =
      pieces.straight_fits code r (own_slot p tables r to) at value
      (subst (values.BareIs p tables code checked w r lt) (straight_variable d e range to is)
      (values.bare_variable p tables code checked w r lt d good cell)) f
  set_fits None at line lo d e range value set is good cell f needs = then_own at line value set f needs

  -- ---- the limit of a loop

  abbrev limit_of : (line at lo limit : ℕ) → Expr → List LineInstr
  limit_of line at lo limit e =
      limit_code (ends_alone e) line limit (value_at p tables r lo e) (unless_bare (bare e) (expr_code p tables r line at lo e))

  limit_here : (line at lo limit : ℕ) (e : Expr) → Fine (expr_phrases e) → SlotsOf lo (expr_slots p r e) → Number code r limit
      → Here at (expr_code p tables r line at lo e) → Here at (limit_of line at lo limit e)
  limit_here line at lo limit e good slots there f =
      let value : List LineInstr = expr_code p tables r line at lo e in
      pieces.limit_fits code r (ends_alone e) line at limit (value_at p tables r lo e) (unless_bare (bare e) value) there
      (values.first_number p tables code checked w r lt (bare e) lo (values.bare_value p tables code checked w r lt e good)
      (values.expr_number p tables code checked w r lt lo e slots))
      (pieces.unless code r 0 at (bare e) value (λ none. f))

  -- ---- the count of a turn

  count_needs : (o : Option ℕ) (range : Range) (counter lo : ℕ) → HoldsChecked tables range → Number code r counter
      → (o ≡ None → Number code r lo) → AllNeeds (count_code p tables r o range counter lo)
      × Number code r (count_at p tables r o counter lo)
  count_needs (Some to) range counter lo h n m = (values.fit_needs p tables code checked w r lt range counter h n, n)
  count_needs None range counter lo h n m = let k = m refl in (((k, n), values.fit_needs p tables code checked w r lt range lo h k), k)

  abbrev turn_of : (line at counter lo : ℕ) → Desig → Range → ((at : ℕ) → List LineInstr) → List LineInstr
  turn_of line at counter lo d range body =
      turn_code line at (count_code p tables r (bare_desig d) range counter lo)
      (λ at. unless_bare (bare_desig d) (held_code p tables r line at (lo + 1) d))
      (set_code p tables r (lo + 1) (count_at p tables r (bare_desig d) counter lo) d) body

  turn : (line at counter lo : ℕ) (d : Desig) (range : Range) (body : (at : ℕ) → List LineInstr) → HoldsChecked tables range
      → desig_cells d ≡ 1
      → Fine (desig_phrases d) → Number code r counter → SlotsOf lo (unless_bare (bare_desig d) (slot.Number ∷ desig_slots p r d))
      → ((at lo : ℕ) → SlotsOf lo (desig_slots p r d) → Here at (desig_code p tables r line at lo d)) → ((at : ℕ) → Here at (body at))
      → Here at (turn_of line at counter lo d range body)
  turn line at counter lo d range body held cell good n slots f b =
      let c = count_needs (bare_desig d) range counter lo held n (λ none. first_slot lo slot.Number (desig_slots p r d) (own_slots none)) in
      pieces.turn_fits code r line at (count_code p tables r (bare_desig d) range counter lo)
      (λ at. unless_bare (bare_desig d) (held_code p tables r line at (lo + 1) d))
      (set_code p tables r (lo + 1) (count_at p tables r (bare_desig d) counter lo) d) body
      c.0 (λ at. located line at (lo + 1) d place_slots (f at (lo + 1)))
      (values.set_needs p tables code checked w r lt (lo + 1) (count_at p tables r (bare_desig d) counter lo) d good cell place_slots c.1) b
    where
      own_slots : bare_desig d ≡ None → SlotsOf lo (slot.Number ∷ desig_slots p r d)
      own_slots none = values.none_slots p tables code checked w r lt (bare_desig d) lo (slot.Number ∷ desig_slots p r d) none slots

      place_slots : bare_desig d ≡ None → SlotsOf (lo + 1) (desig_slots p r d)
      place_slots none = back lo (slot.Number ∷ []) (desig_slots p r d) (own_slots none)

  mutual
    unfolding stmts_phrases

    -- ---- designators

    desig_fits : (line at lo : ℕ) (d : Desig) → Fine (desig_phrases d) → SlotsOf lo (desig_slots p r d)
        → Here at (desig_code p tables r line at lo d)
    desig_fits line at lo (a_desig x cells sels) good slots =
        let o : Option ℕ = own_root x sels in
        let placed : List LineInstr = own line (root_code p tables r lo x) in
        let one : List LineInstr = unless_bare o placed in
        let from : ℕ = slot_or p tables r o lo in
        let lo2 : ℕ = behind_root p tables r lo x in
        row at one (sels_code p tables r line (at + length one) from lo2 sels)
        (pieces.unless code r 0 at o placed (λ none. own_fits at line (root_code p tables r lo x)
        (roots.root_needs p tables code checked w r lt lo cells x (sels_slots p r sels) good.0.0 slots)))
        (sels_fit line (at + length one) from lo2 cells sels good.1
        (values.root_place p tables code checked w r lt o lo cells x sels refl good.0.0
        (first_slot lo (slot.Place cells) (root_slots p r x ++ sels_slots p r sels) slots)) good.0.1
        (values.sels_behind p tables code checked w r lt lo cells x sels slots))

    sels_fit : (line at from lo size : ℕ) (sels : Sels) → Fine (sels_phrases sels) → Place code r from size → ArePartsOf sels size
        → SlotsOf lo (sels_slots p r sels) → Here at (sels_code p tables r line at from lo sels)
    sels_fit line at from lo size no_sels good place parts slots = λ room. tt
    sels_fit line at from lo size (more_sels x rest) good place parts slots =
        let one : List LineInstr = sel_code p tables r line at from lo x in
        let part : ℕ = part_slot p tables r lo x in
        let mine = front lo (sel_slots p r x) (sels_slots p r rest) slots in
        row at one (sels_code p tables r line (at + length one) part (part + 1) rest)
        (sel_fits line at from lo size x (fine_front (sel_phrases x) (sels_phrases rest) good) place parts.0 mine)
        (sels_fit line (at + length one) part (part + 1) (sel_cells x) rest (fine_back (sel_phrases x) (sels_phrases rest) good)
        (values.part_place p tables code checked w r lt lo x mine) parts.1
        (values.behind_part p tables code checked w r lt lo x rest slots))

    sel_fits : (line at from lo size : ℕ) (x : Sel) → Fine (sel_phrases x) → Place code r from size → IsPart x size
        → SlotsOf lo (sel_slots p r x) → Here at (sel_code p tables r line at from lo x)
    sel_fits line at from lo size (Field offset cells) good place part slots =
        own_fits at line (I.Field lo from offset ∷ [])
        (record { part = cells; cells = size; place = first_slot lo (slot.Place cells) [] slots; whole = place; fits = part }, tt)
    sel_fits line at from lo size (Index e range cells) good place part slots =
        let mine = front lo (unless_bare (bare e) (expr_slots p r e)) (slot.Place cells ∷ []) slots in
        then_own at line (unless_bare (bare e) (expr_code p tables r line at lo e))
        (I.Index (behind_value p r lo e) from (value_at p tables r lo e) (range_number tables range) ∷ [])
        (once line at lo e mine (expr_fits line at lo e good.1)) (
          record {
            part = cells;
            cells = size;
            range = range;
            place = values.part_place p tables code checked w r lt lo (Index e range cells) slots;
            whole = place;
            index = number lo e good.1 mine;
            there = values.range_there p tables code checked w r lt range good.0;
            fits = part;
          },
          tt,
        )

    -- ---- expressions

    expr_fits : (line at lo : ℕ) (e : Expr) → Fine (expr_phrases e) → SlotsOf lo (expr_slots p r e)
        → Here at (expr_code p tables r line at lo e)
    expr_fits line at lo (Const n) good slots = own_fits at line (I.Const lo n ∷ []) (first_slot lo slot.Number [] slots, tt)
    expr_fits line at lo (Load d) good slots =
        let inner = back lo (slot.Number ∷ []) (unless_bare (bare_desig d) (desig_slots p r d)) slots in
        let one : List LineInstr = held_code p tables r line at (lo + 1) d in
        then_own at line (unless_bare (bare_desig d) one) (load_code p tables r lo d ∷ [])
        (pieces.unless code r 0 at (bare_desig d) one
        (λ none. held_here line at (lo + 1) d (desig_fits line at (lo + 1) d good.1 (target_slots (lo + 1) d inner none))))
        (values.load_needs p tables code checked w r lt lo d good.1 good.0 slots, tt)
    expr_fits line at lo (Chain negated e links) good slots =
        let mine = front lo (expr_slots p r e) (links_slots p r links) slots in
        let n = values.expr_number p tables code checked w r lt lo e mine in
        let o : Option ℕ = stays_in negated e links in
        let taken : Option ℕ = taken_from negated e links in
        let from : ℕ = value_at p tables r lo e in
        let inner : List LineInstr = unless_bare taken (expr_code p tables r line at lo e) in
        let one : List LineInstr = inner ++ own line (neg_code negated lo from) in
        let first : ℕ = slot_or p tables r o lo in
        let good_e = fine_front (expr_phrases e) (links_phrases links) good.1 in
        let bare_is = values.bare_value p tables code checked w r lt e good_e in
        let there = as_stays_in (values.BareIs p tables code checked w r lt) negated e links tt bare_is in
        row at one (links_code p tables r line (at + length one) first lo (behind_expr p r lo e) links)
        (then_own at line inner (neg_code negated lo from)
        (pieces.unless code r 0 at taken (expr_code p tables r line at lo e) (λ none. expr_fits line at lo e good_e mine))
        (values.neg_needs p tables code checked w r lt negated lo from n
        (values.first_number p tables code checked w r lt (bare e) lo bare_is n)))
        (links_fit line (at + length one) first lo (behind_expr p r lo e) links (fine_back (expr_phrases e) (links_phrases links) good.1)
        (values.first_number p tables code checked w r lt o lo there n) n (back lo (expr_slots p r e) (links_slots p r links) slots))
    expr_fits line at lo (Compare how x y) good slots =
        let lo2 : ℕ = behind_expr p r lo x in
        let one : List LineInstr = unless_bare (stays x y) (expr_code p tables r line at lo x) in
        let two : List LineInstr = unless_bare (bare y) (expr_code p tables r line (at + length one) lo2 y) in
        let first : ℕ = slot_or p tables r (stays x y) lo in
        let mine = front lo (expr_slots p r x) (unless_bare (bare y) (expr_slots p r y)) slots in
        let others = back lo (expr_slots p r x) (unless_bare (bare y) (expr_slots p r y)) slots in
        let good_y = fine_back (expr_phrases x) (expr_phrases y) good.1 in
        let good_x = fine_front (expr_phrases x) (expr_phrases y) good.1 in
        let n = values.expr_number p tables code checked w r lt lo x mine in
        let there = as_stays (values.BareIs p tables code checked w r lt) x y tt
        (values.bare_value p tables code checked w r lt x good_x) in
        then_own at line (one ++ two) (cmp_code how lo first (value_at p tables r lo2 y))
        (row at one two (pieces.unless code r 0 at (stays x y) (expr_code p tables r line at lo x)
        (λ none. expr_fits line at lo x good_x mine))
        (once line (at + length one) lo2 y others (expr_fits line (at + length one) lo2 y good_y)))
        (values.cmp_needs p tables code checked w r lt how lo first (value_at p tables r lo2 y) n
        (values.first_number p tables code checked w r lt (stays x y) lo there n) (number lo2 y good_y others))
    expr_fits line at lo (Truth t) good slots =
        let inner = back lo (slot.Number ∷ []) (mark_slots (is_simple t) ++ test_slots p r t) slots in
        let one : List LineInstr = guarded_code line at (lo + 1) 2 t (λ next. []) in
        let last : List LineInstr = truth_code line lo (at + length one) in
        pieces.in_two code r 0 at one last
        (pieces.less_spare code r (length last + 0) 2 at one (omega arith)
        (guards line at (lo + 1) 2 t (λ next. []) inner (λ none out s. jump_fits line at (lo + 1) none t good.1 out s)
        (λ at lo s. test_fits line at lo t good.1 s) (λ at room. tt)))
        (pieces.truth_fits code r line lo (at + length one)
        (first_slot lo slot.Number (mark_slots (is_simple t) ++ test_slots p r t) slots))
    expr_fits line at lo (Known d) good slots =
        let inner = back lo (slot.Number ∷ []) (desig_slots p r d) slots in
        then_own at line (held_code p tables r line at (lo + 1) d) (I.Known lo (held_at p tables r (lo + 1) d) ∷ [])
        (held_here line at (lo + 1) d (desig_fits line at (lo + 1) d good.1 inner)) (
          (
            first_slot lo slot.Number (desig_slots p r d) slots,
            values.one_place p tables code checked w r lt (lo + 1) d good.1 good.0 inner,
          ),
          tt,
        )
    expr_fits line at lo (Chr e) good slots =
        then_own at line (expr_code p tables r line at lo e) (I.InRange lo (range_number tables char_range) ∷ [])
        (expr_fits line at lo e good.1 slots)
        ((values.expr_number p tables code checked w r lt lo e slots, values.is_range p tables code checked w r lt char_range good.0), tt)
    expr_fits line at lo (CallExpr called args up) good slots =
        let links = call_links p r called up in
        let rest = handed_slots args ++ args_slots p r args in
        let inner = back lo (slot.Number ∷ slot.Mark ∷ []) (links ++ rest) slots in
        let behind_links = back (lo + 2) links rest inner in
        let to : ℕ = arguments_from p tables r called up (lo + 2) in
        let one : List LineInstr = own line (call_link_code p tables r called up (lo + 2)) in
        let lo2 : ℕ = to + length (handed_slots args) in
        let two : List LineInstr = args_code p tables r line (at + length one) to lo2 args in
        let n = first_slot lo slot.Number (slot.Mark ∷ (links ++ rest)) slots in
        let m = first_slot (lo + 1) slot.Mark (links ++ rest) (back lo (slot.Number ∷ []) (slot.Mark ∷ (links ++ rest)) slots) in
        then_own at line (one ++ two) (I.Mark (lo + 1) ∷ call_code p tables r called args up (lo + 2) lo ∷ I.Cut (lo + 1) ∷ [])
        (row at one two (own_fits at line (call_link_code p tables r called up (lo + 2))
        (values.call_link_needs p tables code checked w r lt called up (lo + 2) args good.0.0 (front (lo + 2) links rest inner)))
        (args_fit line (at + length one) to lo2 args good.1 (front to (handed_slots args) (args_slots p r args) behind_links)
        (back to (handed_slots args) (args_slots p r args) behind_links))) (
          m,
          (
            values.expr_call_needs p tables code checked w r lt called up (lo + 2) lo args (args_slots p r args) good.0.0 good.0.1 n inner,
            (m, tt),
          ),
        )

    links_fit : (line at first to lo : ℕ) (links : Links) → Fine (links_phrases links) → Number code r first → Number code r to
        → SlotsOf lo (links_slots p r links) → Here at (links_code p tables r line at first to lo links)
    links_fit line at first to lo no_links good f n slots = λ room. tt
    links_fit line at first to lo (more_links how e rest) good f n slots =
        let before : List LineInstr = unless_bare (bare e) (expr_code p tables r line at lo e) in
        let one : List LineInstr = before ++ own line (op_code how to first (value_at p tables r lo e) ∷ []) in
        let mine = front lo (unless_bare (bare e) (expr_slots p r e)) (links_slots p r rest) slots in
        let good_e = fine_front (expr_phrases e) (links_phrases rest) good in
        row at one (links_code p tables r line (at + length one) to to (behind_value p r lo e) rest)
        (then_own at line before (op_code how to first (value_at p tables r lo e) ∷ [])
        (once line at lo e mine (expr_fits line at lo e good_e))
        (values.op_needs p tables code checked w r lt how to first (value_at p tables r lo e) n f (number lo e good_e mine), tt))
        (links_fit line (at + length one) to to (behind_value p r lo e) rest (fine_back (expr_phrases e) (links_phrases rest) good) n n
        (back lo (unless_bare (bare e) (expr_slots p r e)) (links_slots p r rest) slots))

    -- ---- arguments

    args_fit : (line at to lo : ℕ) (args : Args) → Fine (args_phrases args) → SlotsOf to (handed_slots args)
        → SlotsOf lo (args_slots p r args) → Here at (args_code p tables r line at to lo args)
    args_fit line at to lo no_args good places slots = λ room. tt
    args_fit line at to lo (more_args a rest) good places slots =
        let one : List LineInstr = arg_code p tables r line at to lo a in
        let lo2 : ℕ = lo + length (arg_slots p r a) in
        row at one (args_code p tables r line (at + length one) (to + 1) lo2 rest)
        (arg_fits line at to lo a (fine_front (arg_phrases a) (args_phrases rest) good)
        (first_slot to (arg_kind a) (handed_slots rest) places) (front lo (arg_slots p r a) (args_slots p r rest) slots))
        (args_fit line (at + length one) (to + 1) lo2 rest (fine_back (arg_phrases a) (args_phrases rest) good)
        (back to (arg_kind a ∷ []) (handed_slots rest) places) (back lo (arg_slots p r a) (args_slots p r rest) slots))

    arg_fits : (line at to lo : ℕ) (a : Arg) → Fine (arg_phrases a) → HasKind code r to (arg_kind a) → SlotsOf lo (arg_slots p r a)
        → Here at (arg_code p tables r line at to lo a)
    arg_fits line at to lo (ByValue e range) good k slots =
        let v : ℕ = value_at p tables r lo e in
        let n = number lo e good.1 slots in
        pieces.put_fits code r (is_straight e range) line at to v (fit_code tables range v)
        (unless_bare (bare e) (expr_code p tables r line at lo e)) k n
        (values.fit_needs p tables code checked w r lt range v good.0 n) (once line at lo e slots (expr_fits line at lo e good.1))
    arg_fits line at to lo (ByCells d) good k slots = handed_fits line at to lo d k slots (desig_fits line at lo d good.1 slots)
    arg_fits line at to lo (ByPlace d) good k slots = handed_fits line at to lo d k slots (desig_fits line at lo d good.1 slots)
    arg_fits line at to lo (MixValue e range) good k slots =
        let v : ℕ = value_at p tables r lo e in
        let n = number lo e good.1 slots in
        pieces.put_fits code r (is_straight e range) line at to v (fit_code tables range v)
        (unless_bare (bare e) (expr_code p tables r line at lo e)) k n
        (values.fit_needs p tables code checked w r lt range v good.0 n) (once line at lo e slots (expr_fits line at lo e good.1))
    arg_fits line at to lo (MixPlace d) good k slots = handed_fits line at to lo d k slots (desig_fits line at lo d good.1 slots)

    -- ---- tests

    -- a simple condition
    jump_fits : (line at lo none : ℕ) (t : Test) → Fine (test_phrases t) → IsInside code r none → SlotsOf lo (test_slots p r t)
        → Here at (jump_code p tables r line at lo none t)
    jump_fits line at lo none (Value e) good out slots =
        then_own at line (unless_bare (bare e) (expr_code p tables r line at lo e)) (I.JumpZero (value_at p tables r lo e) none ∷ [])
        (once line at lo e slots (expr_fits line at lo e good.1)) ((number lo e good.1 slots, out), tt)
    jump_fits line at lo none (Bind d e range left) good out slots = λ room. tt
    jump_fits line at lo none (Unify d range e range') good out slots = λ room. tt
    jump_fits line at lo none (SameCells d e) good out slots = λ room. tt
    jump_fits line at lo none (Seq x) good out slots = λ room. tt
    jump_fits line at lo none (And ts) good out slots = λ room. tt
    jump_fits line at lo none (Or ts) good out slots = λ room. tt
    jump_fits line at lo none (Not t) good out slots = λ room. tt
    jump_fits line at lo none (CallTest called args up) good out slots = λ room. tt

    -- a comparison that goes back
    back_fits : (line at lo held top : ℕ) (t : Test) → Fine (test_phrases t) → IsInside code r top → HeldNumber (held_constant t) held
        → SlotsOf lo (test_slots p r t) → Here at (back_code p tables r line at lo held top t)
    back_fits line at lo held top (Value (Compare how x y)) good out here slots =
        let lo2 : ℕ = behind_expr p r lo x in
        let one : List LineInstr = unless_bare (stays x y) (expr_code p tables r line at lo x) in
        let two : List LineInstr = unless_bare (bare y) (expr_code p tables r line (at + length one) lo2 y) in
        let first : ℕ = slot_or p tables r (stays x y) lo in
        let other : ℕ = held_or (constant y) held (value_at p tables r lo2 y) in
        let mine = front lo (expr_slots p r x) (unless_bare (bare y) (expr_slots p r y)) slots in
        let others = back lo (expr_slots p r x) (unless_bare (bare y) (expr_slots p r y)) slots in
        let good_x = fine_front (expr_phrases x) (expr_phrases y) good.1.1 in
        let good_y = fine_back (expr_phrases x) (expr_phrases y) good.1.1 in
        let n = values.expr_number p tables code checked w r lt lo x mine in
        let there = as_stays (values.BareIs p tables code checked w r lt) x y tt
        (values.bare_value p tables code checked w r lt x good_x) in
        then_own at line (one ++ unless_constant (constant y) two) (opposite_code how lo first other ∷ I.JumpZero lo top ∷ [])
        (row at one (unless_constant (constant y) two) (pieces.unless code r 0 at (stays x y) (expr_code p tables r line at lo x)
        (λ none. expr_fits line at lo x good_x mine))
        (pieces.constant_fits code r (constant y) (at + length one) two
        (once line (at + length one) lo2 y others (expr_fits line (at + length one) lo2 y good_y))))
        (back_needs how lo first other top out (values.cmp_needs p tables code checked w r lt how lo first other n
        (values.first_number p tables code checked w r lt (stays x y) lo there n)
        (held_number (constant y) held (value_at p tables r lo2 y) here (number lo2 y good_y others))))
    back_fits line at lo held top (Value (Const n)) good out here slots = λ room. tt
    back_fits line at lo held top (Value (Load d)) good out here slots = λ room. tt
    back_fits line at lo held top (Value (Chain negated e links)) good out here slots = λ room. tt
    back_fits line at lo held top (Value (Truth t)) good out here slots = λ room. tt
    back_fits line at lo held top (Value (Known d)) good out here slots = λ room. tt
    back_fits line at lo held top (Value (Chr e)) good out here slots = λ room. tt
    back_fits line at lo held top (Value (CallExpr called args up)) good out here slots = λ room. tt
    back_fits line at lo held top (Bind d e range left) good out here slots = λ room. tt
    back_fits line at lo held top (Unify d range e range') good out here slots = λ room. tt
    back_fits line at lo held top (SameCells d e) good out here slots = λ room. tt
    back_fits line at lo held top (Seq x) good out here slots = λ room. tt
    back_fits line at lo held top (And ts) good out here slots = λ room. tt
    back_fits line at lo held top (Or ts) good out here slots = λ room. tt
    back_fits line at lo held top (Not t) good out here slots = λ room. tt
    back_fits line at lo held top (CallTest called args up) good out here slots = λ room. tt

    test_fits : (line at lo : ℕ) (t : Test) → Fine (test_phrases t) → SlotsOf lo (test_slots p r t)
        → Here at (test_code p tables r line at lo t)
    test_fits line at lo (Value e) good slots =
        value_fits line at lo e good.1 slots (once line at lo e slots (expr_fits line at lo e good.1)) (tested p tables r e)
    test_fits line at lo (Bind d e range true) good slots =
        let lo2 : ℕ = behind_desig p r lo d in
        let one : List LineInstr = held_code p tables r line at lo d in
        let two : List LineInstr = unless_bare (bare e) (expr_code p tables r line (at + length one) lo2 e) in
        let mine = front lo (desig_slots p r d) (unless_bare (bare e) (expr_slots p r e)) slots in
        let others = back lo (desig_slots p r d) (unless_bare (bare e) (expr_slots p r e)) slots in
        let good_d = fine_front (desig_phrases d) (expr_phrases e) good.1 in
        let good_e = fine_back (desig_phrases d) (expr_phrases e) good.1 in
        then_own at line (one ++ two) (I.Bind (held_at p tables r lo d) (value_at p tables r lo2 e) (range_number tables range) ∷ [])
        (row at one two (held_here line at lo d (desig_fits line at lo d good_d mine))
        (once line (at + length one) lo2 e others (expr_fits line (at + length one) lo2 e good_e))) (
          (
            values.one_place p tables code checked w r lt lo d good_d good.0.0 mine,
            number lo2 e good_e others,
            values.is_range p tables code checked w r lt range good.0.1,
          ),
          tt,
        )
    test_fits line at lo (Bind d e range false) good slots =
        let lo2 : ℕ = behind_expr p r lo e in
        let one : List LineInstr = expr_code p tables r line at lo e in
        let two : List LineInstr = held_code p tables r line (at + length one) lo2 d in
        let mine = front lo (expr_slots p r e) (desig_slots p r d) slots in
        let others = back lo (expr_slots p r e) (desig_slots p r d) slots in
        let good_d = fine_front (desig_phrases d) (expr_phrases e) good.1 in
        then_own at line (one ++ two) (I.Bind (held_at p tables r lo2 d) lo (range_number tables range) ∷ [])
        (row at one two (expr_fits line at lo e (fine_back (desig_phrases d) (expr_phrases e) good.1) mine)
        (held_here line (at + length one) lo2 d (desig_fits line (at + length one) lo2 d good_d others))) (
          (
            values.one_place p tables code checked w r lt lo2 d good_d good.0.0 others,
            values.expr_number p tables code checked w r lt lo e mine,
            values.is_range p tables code checked w r lt range good.0.1,
          ),
          tt,
        )
    test_fits line at lo (Unify d range e range') good slots =
        let lo2 : ℕ = behind_desig p r lo d in
        let one : List LineInstr = held_code p tables r line at lo d in
        let two : List LineInstr = held_code p tables r line (at + length one) lo2 e in
        let mine = front lo (desig_slots p r d) (desig_slots p r e) slots in
        let others = back lo (desig_slots p r d) (desig_slots p r e) slots in
        let good_d = fine_front (desig_phrases d) (desig_phrases e) good.1 in
        let good_e = fine_back (desig_phrases d) (desig_phrases e) good.1 in
        then_own at line (one ++ two) (I.Unify (held_at p tables r lo d) (range_number tables range) (held_at p tables r lo2 e)
        (range_number tables range') ∷ [])
        (row at one two (held_here line at lo d (desig_fits line at lo d good_d mine))
        (held_here line (at + length one) lo2 e (desig_fits line (at + length one) lo2 e good_e others))) (
          (
            values.one_place p tables code checked w r lt lo d good_d good.0.0 mine,
            values.is_range p tables code checked w r lt range good.0.2,
            values.one_place p tables code checked w r lt lo2 e good_e good.0.1 others,
            values.is_range p tables code checked w r lt range' good.0.3,
          ),
          tt,
        )
    test_fits line at lo (SameCells d e) good slots =
        let lo2 : ℕ = behind_desig p r lo d in
        let one : List LineInstr = held_code p tables r line at lo d in
        let two : List LineInstr = held_code p tables r line (at + length one) lo2 e in
        let mine = front lo (desig_slots p r d) (desig_slots p r e) slots in
        let others = back lo (desig_slots p r d) (desig_slots p r e) slots in
        let good_d = fine_front (desig_phrases d) (desig_phrases e) good.1 in
        let good_e = fine_back (desig_phrases d) (desig_phrases e) good.1 in
        then_own at line (one ++ two) (I.SameCells (held_at p tables r lo d) (held_at p tables r lo2 e) ∷ [])
        (row at one two (held_here line at lo d (desig_fits line at lo d good_d mine))
        (held_here line (at + length one) lo2 e (desig_fits line (at + length one) lo2 e good_e others))) (
          record {
            cells = desig_cells d;
            first = values.held_place p tables code checked w r lt lo d good_d mine;
            second =
                subst (Place code r (held_at p tables r lo2 e)) (sym good.0)
                (values.held_place p tables code checked w r lt lo2 e good_e others);
          },
          tt,
        )
    test_fits line at lo (Seq x) good slots = stmts_fit at lo x good.1 slots
    test_fits line at lo (And ts) good slots = and_fits line at lo ts good.1 slots
    test_fits line at lo (Or ts) good slots = or_fits line at lo ts good.1 slots
    test_fits line at lo (Not t) good slots =
        pieces.refused_fits code r line at lo (test_code p tables r line (at + 2) (lo + 1) t)
        (first_slot lo slot.Mark (test_slots p r t) slots)
        (test_fits line (at + 2) (lo + 1) t good.1 (back lo (slot.Mark ∷ []) (test_slots p r t) slots))
    test_fits line at lo (CallTest called args up) good slots =
        let links = call_links p r called up in
        let rest = handed_slots args ++ args_slots p r args in
        let behind_links = back lo links rest slots in
        let to : ℕ = arguments_from p tables r called up lo in
        let one : List LineInstr = own line (call_link_code p tables r called up lo) in
        let lo2 : ℕ = to + length (handed_slots args) in
        let two : List LineInstr = args_code p tables r line (at + length one) to lo2 args in
        then_own at line (one ++ two) (call_code p tables r called args up lo 0 ∷ [])
        (row at one two (own_fits at line (call_link_code p tables r called up lo)
        (values.call_link_needs p tables code checked w r lt called up lo args good.0.0 (front lo links rest slots)))
        (args_fit line (at + length one) to lo2 args good.1 (front to (handed_slots args) (args_slots p r args) behind_links)
        (back to (handed_slots args) (args_slots p r args) behind_links)))
        (values.test_call_needs p tables code checked w r lt called up lo args (args_slots p r args) good.0.0 good.0.1 slots, tt)

    and_fits : (line at lo : ℕ) (ts : Tests) → Fine (tests_phrases ts) → SlotsOf lo (and_slots p r ts)
        → Here at (and_code p tables r line at lo ts)
    and_fits line at lo no_tests good slots = λ room. tt
    and_fits line at lo (more_tests t rest) good slots =
        let one : List LineInstr = test_code p tables r line at lo t in
        let lo2 : ℕ = behind_test p r lo t in
        row at one (and_code p tables r line (at + length one) lo2 rest)
        (test_fits line at lo t (fine_front (test_phrases t) (tests_phrases rest) good)
        (front lo (test_slots p r t) (and_slots p r rest) slots))
        (and_fits line (at + length one) lo2 rest (fine_back (test_phrases t) (tests_phrases rest) good)
        (back lo (test_slots p r t) (and_slots p r rest) slots))

    or_fits : (line at lo : ℕ) (ts : Tests) → Fine (tests_phrases ts) → SlotsOf lo (or_slots p r ts)
        → Here at (or_code p tables r line at lo ts)
    or_fits line at lo no_tests good slots = own_fits at line (I.Fail ∷ []) (tt, tt)
    or_fits line at lo (more_tests t no_tests) good slots = test_fits line at lo t (fine_front (test_phrases t) [] good) slots
    or_fits line at lo (more_tests t (more_tests t2 rest)) good slots =
        let others = or_slots p r (more_tests t2 rest) in
        let inner = back lo (slot.Mark ∷ []) (test_slots p r t ++ others) slots in
        let body : List LineInstr = test_code p tables r line (at + 2) (lo + 1) t in
        let one : List LineInstr = first_of_two line (at + 2) lo body in
        let lo2 : ℕ = behind_test p r (lo + 1) t in
        pieces.leaving_fits code r at line one (λ next jump. operands_code p tables r line jump next lo2 (more_tests t2 rest))
        (pieces.first_of_two_fits code r line at lo body (first_slot lo slot.Mark (test_slots p r t ++ others) slots)
        (test_fits line (at + 2) (lo + 1) t (fine_front (test_phrases t) (tests_phrases (more_tests t2 rest)) good)
        (front (lo + 1) (test_slots p r t) others inner)))
        (λ out. operands_fit line (at + length one) (at + length one + 1) lo2 (more_tests t2 rest)
        (fine_back (test_phrases t) (tests_phrases (more_tests t2 rest)) good) (back (lo + 1) (test_slots p r t) others inner) out)

    operands_fit : (line jump at lo : ℕ) (ts : Tests) → Fine (tests_phrases ts) → SlotsOf lo (or_slots p r ts) → IsInside code r jump
        → Here at (operands_code p tables r line jump at lo ts)
    operands_fit line jump at lo no_tests good slots out = λ room. tt
    operands_fit line jump at lo (more_tests t no_tests) good slots out = test_fits line at lo t (fine_front (test_phrases t) [] good) slots
    operands_fit line jump at lo (more_tests t (more_tests t2 rest)) good slots out =
        let others = or_slots p r (more_tests t2 rest) in
        let inner = back lo (slot.Mark ∷ []) (test_slots p r t ++ others) slots in
        let body : List LineInstr = test_code p tables r line (at + 2) (lo + 1) t in
        let one : List LineInstr = first_of_two line (at + 2) lo body in
        let lo2 : ℕ = behind_test p r (lo + 1) t in
        let next : ℕ = at + length (one ++ own line (I.Jump jump ∷ [])) in
        pieces.by_jump code r at line jump one (λ next. operands_code p tables r line jump next lo2 (more_tests t2 rest)) out
        (pieces.first_of_two_fits code r line at lo body (first_slot lo slot.Mark (test_slots p r t ++ others) slots)
        (test_fits line (at + 2) (lo + 1) t (fine_front (test_phrases t) (tests_phrases (more_tests t2 rest)) good)
        (front (lo + 1) (test_slots p r t) others inner)))
        (operands_fit line jump next lo2 (more_tests t2 rest) (fine_back (test_phrases t) (tests_phrases (more_tests t2 rest)) good)
        (back (lo + 1) (test_slots p r t) others inner) out)

    -- ---- statements

    pub stmts_fit : (at lo : ℕ) (x : Stmts) → Fine (stmts_phrases x) → SlotsOf lo (stmts_slots p r x)
        → Here at (stmts_code p tables r at lo x)
    stmts_fit at lo no_stmts good slots = λ room. tt
    stmts_fit at lo (more_stmts line x rest) good slots =
        let one : List LineInstr = stmt_code p tables r line at lo x in
        let lo2 : ℕ = behind_stmt p r lo x in
        row at one (stmts_code p tables r (at + length one) lo2 rest)
        (stmt_fits line at lo x (fine_front (stmt_phrases x) (stmts_phrases rest) good)
        (front lo (stmt_slots p r x) (stmts_slots p r rest) slots))
        (stmts_fit (at + length one) lo2 rest (fine_back (stmt_phrases x) (stmts_phrases rest) good)
        (back lo (stmt_slots p r x) (stmts_slots p r rest) slots))

    stmt_fits : (line at lo : ℕ) (x : Stmt) → Fine (stmt_phrases x) → SlotsOf lo (stmt_slots p r x)
        → Here at (stmt_code p tables r line at lo x)
    stmt_fits line at lo (TestStmt t) good slots = test_fits line at lo t good.1 slots
    stmt_fits line at lo (Assign d e range) good slots =
        let a = unless_bare (bare_desig d) (desig_slots p r d) in
        let b = unless_bare (bare e) (expr_slots p r e) in
        let lo2 : ℕ = behind_target p r lo d in
        let v : ℕ = value_at p tables r lo2 e in
        let one : List LineInstr = unless_bare (bare_desig d) (held_code p tables r line at lo d) in
        let two : List LineInstr = unless_bare (bare e) (expr_code p tables r line (at + length one) lo2 e) in
        let place_slots = target_slots lo d (front lo a b slots) in
        let others = back lo a b slots in
        let good_d = fine_front (desig_phrases d) (expr_phrases e) good.1 in
        let good_e = fine_back (desig_phrases d) (expr_phrases e) good.1 in
        let n = number lo2 e good_e others in
        set_fits (goes_straight d e range) at line lo d e range (one ++ two) (fit_code tables range v ++ (set_code p tables r lo v d ∷ []))
        refl good_d good.0.0
        (row at one two (located line at lo d place_slots (desig_fits line at lo d good_d))
        (once line (at + length one) lo2 e others (expr_fits line (at + length one) lo2 e good_e)))
        (each_of_append (Needs code r) (fit_code tables range v) (set_code p tables r lo v d ∷ [])
        (values.fit_needs p tables code checked w r lt range v good.0.1 n)
        (values.set_needs p tables code checked w r lt lo v d good_d good.0.0 place_slots n, tt))
    stmt_fits line at lo (CopyCells d e) good slots =
        let lo2 : ℕ = behind_desig p r lo d in
        let one : List LineInstr = held_code p tables r line at lo d in
        let two : List LineInstr = held_code p tables r line (at + length one) lo2 e in
        let mine = front lo (desig_slots p r d) (desig_slots p r e) slots in
        let others = back lo (desig_slots p r d) (desig_slots p r e) slots in
        let good_d = fine_front (desig_phrases d) (desig_phrases e) good.1 in
        let good_e = fine_back (desig_phrases d) (desig_phrases e) good.1 in
        then_own at line (one ++ two) (I.CopyCells (held_at p tables r lo d) (held_at p tables r lo2 e) ∷ [])
        (row at one two (held_here line at lo d (desig_fits line at lo d good_d mine))
        (held_here line (at + length one) lo2 e (desig_fits line (at + length one) lo2 e good_e others))) (
          record {
            cells = desig_cells d;
            first = values.held_place p tables code checked w r lt lo d good_d mine;
            second =
                subst (Place code r (held_at p tables r lo2 e)) (sym good.0)
                (values.held_place p tables code checked w r lt lo2 e good_e others);
          },
          tt,
        )
    stmt_fits line at lo (If arms rest) good slots =
        if_fits line at lo arms (λ next la. stmts_code p tables r next la rest) (stmts_slots p r rest)
        (fine_front (arms_phrases arms) (stmts_phrases rest) good.1) slots
        (λ next la s. stmts_fit next la rest (fine_back (arms_phrases arms) (stmts_phrases rest) good.1) s)
    stmt_fits line at lo (While t body) good slots =
        let good_t = fine_front (test_phrases t) (stmts_phrases body) good.1 in
        while_fits (is_turned t) line at lo t body slots (λ none out s. jump_fits line (at + 1) lo none t good_t out s)
        (λ at lo s. test_fits line at lo t good_t s) (λ at lo held top out here s. back_fits line at lo held top t good_t out here s)
        (λ next lo s. stmts_fit next lo body (fine_back (test_phrases t) (stmts_phrases body) good.1) s)
    stmt_fits line at lo (Repeat body t) good slots =
        let lo2 : ℕ = behind_stmts p r lo body in
        let one : List LineInstr = stmts_code p tables r at lo body in
        let good_t = fine_back (stmts_phrases body) (test_phrases t) good.1 in
        λ room.
        let top : IsInside code r at = record { low = room.low; high = omega (arith, room.high) } in
        row at one (condition_code line (at + length one) lo2 at t)
        (stmts_fit at lo body (fine_front (stmts_phrases body) (test_phrases t) good.1)
        (front lo (stmts_slots p r body) (mark_slots (is_simple t) ++ test_slots p r t) slots))
        (decides line (at + length one) lo2 at t (back lo (stmts_slots p r body) (mark_slots (is_simple t) ++ test_slots p r t) slots)
        (λ s. jump_fits line (at + length one) lo2 at t good_t top s) (λ at lo s. test_fits line at lo t good_t s) top)
        room
    stmt_fits line at lo (ForTo l) good slots = for_fits line at lo l good.0 good.1 slots
    stmt_fits line at lo (SomeOf l) good slots = some_fits line at lo l good.0 good.1 slots
    stmt_fits line at lo (Case e arms rest) good slots =
        let first : ℕ = behind_expr p r lo e in
        let bound : ℕ = behind_dead p r first arms in
        let labels = cases_slots p r arms ++ else_slots p r rest in
        let tried = slot.Number ∷ slot.Number ∷ labels in
        let one : List LineInstr = expr_code p tables r line at lo e in
        let next : ℕ = at + length one in
        let dead : List LineInstr = dead_code p tables r (next + 1) first arms in
        let over : List LineInstr = passed_over (has_dead arms) line next dead in
        let begin : ℕ = next + length over in
        let choice : List LineInstr = case_code p tables r line lo bound begin (bound + 2) arms
        (λ next la. else_code p tables r line next la rest) in
        let mine = front lo (expr_slots p r e) (dead_slots p r arms ++ tried) slots in
        let behind_e = back lo (expr_slots p r e) (dead_slots p r arms ++ tried) slots in
        let others = back first (dead_slots p r arms) tried behind_e in
        let parts = expr_phrases e ++ cases_phrases arms in
        let good_parts = fine_front parts (else_phrases rest) good.1 in
        let good_arms = fine_back (expr_phrases e) (cases_phrases arms) good_parts in
        row at one (over ++ choice) (expr_fits line at lo e (fine_front (expr_phrases e) (cases_phrases arms) good_parts) mine)
        (row next over choice (pieces.over_fits code r (has_dead arms) line next dead
        (dead_fits (next + 1) first arms good_arms (front first (dead_slots p r arms) tried behind_e)))
        (case_fits line lo bound begin (bound + 2) arms (λ next la. else_code p tables r line next la rest) (else_slots p r rest) good_arms
        (record {
          number_at = values.expr_number p tables code checked w r lt lo e mine;
          low = first_slot bound slot.Number (slot.Number ∷ labels) others;
          test = first_slot (bound + 1) slot.Number labels (back bound (slot.Number ∷ []) (slot.Number ∷ labels) others);
        })
        (back bound (slot.Number ∷ slot.Number ∷ []) labels others)
        (λ next la s. else_fits line next la rest (fine_back parts (else_phrases rest) good.1) s)))
    stmt_fits line at lo (Either x) good slots = either_fits line at lo x good.1 slots
    stmt_fits line at lo (Forall x y) good slots =
        let inner : ℕ = behind_stmts p r (lo + 1) x in
        let one : List LineInstr = stmts_code p tables r (at + 1) (lo + 1) x in
        let n : ℕ = at + 1 + length one in
        let two : List LineInstr = stmts_code p tables r (n + 2) (inner + 1) y in
        let behind_mark = back lo (slot.Mark ∷ []) (stmts_slots p r x ++ (slot.Mark ∷ stmts_slots p r y)) slots in
        let behind_x = back (lo + 1) (stmts_slots p r x) (slot.Mark ∷ stmts_slots p r y) behind_mark in
        let m = first_slot lo slot.Mark (stmts_slots p r x ++ (slot.Mark ∷ stmts_slots p r y)) slots in
        pieces.forall_fits code r line at lo (one ++ each_body line (n + 2) lo inner two) m
        (pieces.both_fit code r 1 (at + 1) one (each_body line (n + 2) lo inner two)
        (stmts_fit (at + 1) (lo + 1) x (fine_front (stmts_phrases x) (stmts_phrases y) good.1)
        (front (lo + 1) (stmts_slots p r x) (slot.Mark ∷ stmts_slots p r y) behind_mark))
        (pieces.each_fits code r line n lo inner two m (first_slot inner slot.Mark (stmts_slots p r y) behind_x)
        (stmts_fit (n + 2) (inner + 1) y (fine_back (stmts_phrases x) (stmts_phrases y) good.1)
        (back inner (slot.Mark ∷ []) (stmts_slots p r y) behind_x))))
    stmt_fits line at lo (Commit x) good slots =
        let m = first_slot lo slot.Mark (stmts_slots p r x) slots in
        let inner : List LineInstr = stmts_code p tables r (at + 1) (lo + 1) x in
        row at (own line (I.Mark lo ∷ [])) (inner ++ own line (I.Cut lo ∷ [])) (own_fits at line (I.Mark lo ∷ []) (m, tt))
        (then_own (at + 1) line inner (I.Cut lo ∷ [])
        (stmts_fit (at + 1) (lo + 1) x good.1 (back lo (slot.Mark ∷ []) (stmts_slots p r x) slots)) (m, tt))
    stmt_fits line at lo (Return no_result) good slots = own_fits at line (I.Return ∷ []) (no_result_is good.0, tt)
    stmt_fits line at lo (Return (some_result e)) good slots =
        let v : ℕ = value_at p tables r lo e in
        then_own at line (unless_bare (bare e) (expr_code p tables r line at lo e))
        (fit_result p tables r (routine_at p r).result v ++ (I.ReturnValue v ∷ []))
        (once line at lo e slots (expr_fits line at lo e good.1)) (result_needs v good.0 (number lo e good.1 slots))
    stmt_fits line at lo (Read d how range) good slots =
        then_own at line (held_code p tables r line at lo d) (read_code how (held_at p tables r lo d) (range_number tables range) ∷ [])
        (held_here line at lo d (desig_fits line at lo d good.1 slots)) (
          read_needs how (held_at p tables r lo d) (range_number tables range)
              (values.one_place p tables code checked w r lt lo d good.1 good.0.0 slots)
              (values.is_range p tables code checked w r lt range good.0.1),
          tt,
        )
    stmt_fits line at lo (WriteExpr e how) good slots =
        then_own at line (unless_bare (bare e) (expr_code p tables r line at lo e)) (write_code how (value_at p tables r lo e) ∷ [])
        (once line at lo e slots (expr_fits line at lo e good.1))
        (values.write_needs p tables code checked w r lt how (value_at p tables r lo e) (number lo e good.1 slots), tt)
    stmt_fits line at lo (WriteText text) good slots =
        let there : slice_get code.texts (text_number tables text) ≡ Some text = ap (λ ts. slice_get ts (text_number tables text)) w.texts
        ∙ good.0 in
        own_fits at line (I.WriteText (text_number tables text) ∷ []) (slice_get_within code.texts (text_number tables text) text there, tt)
    stmt_fits line at lo WriteLine good slots = own_fits at line (I.WriteLine ∷ []) (tt, tt)

    -- ---- IF

    if_fits : (line at lo : ℕ) (arms : Arms) (otherwise : (at lo : ℕ) → List LineInstr) (others : List SlotKind) → Fine (arms_phrases arms)
        → SlotsOf lo (arms_slots p r arms ++ others) → ((at lo : ℕ) → SlotsOf lo others → Here at (otherwise at lo))
        → Here at (if_code p tables r line at lo arms otherwise)
    if_fits line at lo no_arms otherwise others good slots f = f at lo slots
    if_fits line at lo (more_arms t body rest) otherwise others good slots f =
        let parts = arm_parts lo (mark_slots (is_simple t)) (test_slots p r t) (stmts_slots p r body) (arms_slots p r rest) others slots in
        let two = fine_front (test_phrases t ++ stmts_phrases body) (arms_phrases rest) good in
        let good_t = fine_front (test_phrases t) (stmts_phrases body) two in
        let lo2 : ℕ = behind_condition p r lo t in
        let lo3 : ℕ = behind_stmts p r lo2 body in
        let one : List LineInstr = guarded_code line at lo 1 t (λ next. stmts_code p tables r next lo2 body) in
        pieces.leaving_fits code r at line one (λ next jump. arms_code p tables r line jump next lo3 rest otherwise)
        (guards line at lo 1 t (λ next. stmts_code p tables r next lo2 body) parts.0
        (λ none out s. jump_fits line at lo none t good_t out s) (λ at lo s. test_fits line at lo t good_t s)
        (λ next. stmts_fit next lo2 body (fine_back (test_phrases t) (stmts_phrases body) two) parts.1))
        (λ out. arms_fit line (at + length one) (at + length one + 1) lo3 rest otherwise others
        (fine_back (test_phrases t ++ stmts_phrases body) (arms_phrases rest) good) parts.2 out f)

    arms_fit : (line jump at lo : ℕ) (arms : Arms) (otherwise : (at lo : ℕ) → List LineInstr) (others : List SlotKind)
        → Fine (arms_phrases arms) → SlotsOf lo (arms_slots p r arms ++ others) → IsInside code r jump
        → ((at lo : ℕ) → SlotsOf lo others → Here at (otherwise at lo)) → Here at (arms_code p tables r line jump at lo arms otherwise)
    arms_fit line jump at lo no_arms otherwise others good slots out f = f at lo slots
    arms_fit line jump at lo (more_arms t body rest) otherwise others good slots out f =
        let parts = arm_parts lo (mark_slots (is_simple t)) (test_slots p r t) (stmts_slots p r body) (arms_slots p r rest) others slots in
        let two = fine_front (test_phrases t ++ stmts_phrases body) (arms_phrases rest) good in
        let good_t = fine_front (test_phrases t) (stmts_phrases body) two in
        let lo2 : ℕ = behind_condition p r lo t in
        let lo3 : ℕ = behind_stmts p r lo2 body in
        let one : List LineInstr = guarded_code line at lo 1 t (λ next. stmts_code p tables r next lo2 body) in
        let next : ℕ = at + length (one ++ own line (I.Jump jump ∷ [])) in
        pieces.by_jump code r at line jump one (λ next. arms_code p tables r line jump next lo3 rest otherwise) out
        (guards line at lo 1 t (λ next. stmts_code p tables r next lo2 body) parts.0
        (λ none away s. jump_fits line at lo none t good_t away s) (λ at lo s. test_fits line at lo t good_t s)
        (λ next. stmts_fit next lo2 body (fine_back (test_phrases t) (stmts_phrases body) two) parts.1))
        (arms_fit line jump next lo3 rest otherwise others (fine_back (test_phrases t ++ stmts_phrases body) (arms_phrases rest) good)
        parts.2 out f)

    -- ---- EITHER

    either_fits : (line at lo : ℕ) (x : Branches) → Fine (branches_phrases x) → SlotsOf lo (branches_slots p r x)
        → Here at (either_code p tables r line at lo x)
    either_fits line at lo no_branches good slots = own_fits at line (I.Fail ∷ []) (tt, tt)
    either_fits line at lo (more_branches body no_branches) good slots =
        stmts_fit at lo body (fine_front (stmts_phrases body) [] good) (front lo (stmts_slots p r body) [] slots)
    either_fits line at lo (more_branches body (more_branches body2 rest)) good slots =
        let others = branches_slots p r (more_branches body2 rest) in
        let inner : List LineInstr = stmts_code p tables r (at + 1) lo body in
        let one : List LineInstr = branch_code line (at + 1) inner in
        let lo2 : ℕ = behind_stmts p r lo body in
        pieces.leaving_fits code r at line one (λ next jump. branches_code p tables r line jump next lo2 (more_branches body2 rest))
        (pieces.chosen_fits code r line at inner
        (stmts_fit (at + 1) lo body (fine_front (stmts_phrases body) (branches_phrases (more_branches body2 rest)) good)
        (front lo (stmts_slots p r body) others slots)))
        (λ out. branches_fit line (at + length one) (at + length one + 1) lo2 (more_branches body2 rest)
        (fine_back (stmts_phrases body) (branches_phrases (more_branches body2 rest)) good)
        (back lo (stmts_slots p r body) others slots) out)

    branches_fit : (line jump at lo : ℕ) (x : Branches) → Fine (branches_phrases x) → SlotsOf lo (branches_slots p r x)
        → IsInside code r jump → Here at (branches_code p tables r line jump at lo x)
    branches_fit line jump at lo no_branches good slots out = λ room. tt
    branches_fit line jump at lo (more_branches body no_branches) good slots out =
        stmts_fit at lo body (fine_front (stmts_phrases body) [] good) (front lo (stmts_slots p r body) [] slots)
    branches_fit line jump at lo (more_branches body (more_branches body2 rest)) good slots out =
        let others = branches_slots p r (more_branches body2 rest) in
        let inner : List LineInstr = stmts_code p tables r (at + 1) lo body in
        let one : List LineInstr = branch_code line (at + 1) inner in
        let lo2 : ℕ = behind_stmts p r lo body in
        let next : ℕ = at + length (one ++ own line (I.Jump jump ∷ [])) in
        pieces.by_jump code r at line jump one (λ next. branches_code p tables r line jump next lo2 (more_branches body2 rest)) out
        (pieces.chosen_fits code r line at inner
        (stmts_fit (at + 1) lo body (fine_front (stmts_phrases body) (branches_phrases (more_branches body2 rest)) good)
        (front lo (stmts_slots p r body) others slots)))
        (branches_fit line jump next lo2 (more_branches body2 rest)
        (fine_back (stmts_phrases body) (branches_phrases (more_branches body2 rest)) good)
        (back lo (stmts_slots p r body) others slots) out)

    -- ---- loops

    for_fits : (line at lo : ℕ) (l : Loop) → Facts p tables r (StmtPhrase (ForTo l)) → Fine (loop_phrases l) → SlotsOf lo (for_slots p r l)
        → Here at (for_code p tables r line at lo l)
    for_fits line at lo (a_loop d range counter limit from to by body) facts good slots =
        let a = expr_slots p r from in
        let b = expr_slots p r to in
        let c = unless_bare (bare_desig d) (slot.Number ∷ desig_slots p r d) in
        let e = stmts_slots p r body in
        let last : ℕ = behind_expr p r (lo + 1) from in
        let place : ℕ = behind_expr p r last to in
        let lo2 : ℕ = behind_variable p r place d in
        let slots1 = back lo (slot.Number ∷ []) (a ++ (b ++ (c ++ e))) slots in
        let slots2 = back (lo + 1) a (b ++ (c ++ e)) slots1 in
        let slots3 = back last b (c ++ e) slots2 in
        let bounds = fine_front ((desig_phrases d ++ expr_phrases from) ++ expr_phrases to) (stmts_phrases body) good in
        let bounds1 = fine_front (desig_phrases d ++ expr_phrases from) (expr_phrases to) bounds in
        let good_d = fine_front (desig_phrases d) (expr_phrases from) bounds1 in
        let mine = front (lo + 1) a (b ++ (c ++ e)) slots1 in
        let mine2 = front last b (c ++ e) slots2 in
        let count : ℕ = own_slot p tables r counter in
        let n = roots.hidden p tables code checked w r lt counter facts.2 in
        let step = first_slot lo slot.Number (a ++ (b ++ (c ++ e))) slots in
        let l : ℕ = own_slot p tables r limit in
        let m = roots.hidden p tables code checked w r lt limit facts.3 in
        let good_to = fine_back (desig_phrases d ++ expr_phrases from) (expr_phrases to) bounds in
        let one : List LineInstr = begin_loop line at lo
        by (λ at. unless_constant (constant from) (expr_code p tables r line at (lo + 1) from))
        (λ at. limit_of line at last l to) in
        let next : ℕ = at + length one in
        let each : List LineInstr = turn_of line (next + 3) count place d range (λ at. stmts_code p tables r at lo2 body) in
        row at one (for_turns line next by (constant from) count l lo (lo + 1) each)
        (pieces.begin_fits code r 0 line at lo by (λ at. unless_constant (constant from) (expr_code p tables r line at (lo + 1) from))
        (λ at. limit_of line at last l to) step
        (λ at. pieces.constant_fits code r (constant from) at (expr_code p tables r line at (lo + 1) from)
        (expr_fits line at (lo + 1) from (fine_back (desig_phrases d) (expr_phrases from) bounds1) mine))
        (λ at. limit_here line at last l to good_to mine2 m (expr_fits line at last to good_to mine2)))
        (pieces.for_turns_fits code r line next by (constant from) count l lo (lo + 1) each
        (record { count = n; bound = m; by = step; from = values.expr_number p tables code checked w r lt (lo + 1) from mine })
        (turn line (next + 3) count place d range (λ at. stmts_code p tables r at lo2 body) facts.1 facts.0 good_d n
        (front place c e slots3) (λ at lo s. desig_fits line at lo d good_d s)
        (λ at. stmts_fit at lo2 body (fine_back ((desig_phrases d ++ expr_phrases from) ++ expr_phrases to) (stmts_phrases body) good)
        (back place c e slots3))))

    some_fits : (line at lo : ℕ) (l : Loop) → Facts p tables r (StmtPhrase (SomeOf l)) → Fine (loop_phrases l)
        → SlotsOf lo (some_slots p r l) → Here at (some_code p tables r line at lo l)
    some_fits line at lo (a_loop d range counter limit from to by body) facts good slots =
        let a = expr_slots p r from in
        let b = expr_slots p r to in
        let c = unless_bare (bare_desig d) (slot.Number ∷ desig_slots p r d) in
        let e = stmts_slots p r body in
        let last : ℕ = behind_expr p r (lo + 1) from in
        let more : ℕ = behind_expr p r last to in
        let lo2 : ℕ = behind_variable p r (more + 1) d in
        let slots1 = back lo (slot.Number ∷ []) (a ++ (b ++ (slot.Number ∷ (c ++ e)))) slots in
        let slots2 = back (lo + 1) a (b ++ (slot.Number ∷ (c ++ e))) slots1 in
        let slots3 = back last b (slot.Number ∷ (c ++ e)) slots2 in
        let slots4 = back more (slot.Number ∷ []) (c ++ e) slots3 in
        let bounds = fine_front ((desig_phrases d ++ expr_phrases from) ++ expr_phrases to) (stmts_phrases body) good in
        let bounds1 = fine_front (desig_phrases d ++ expr_phrases from) (expr_phrases to) bounds in
        let good_d = fine_front (desig_phrases d) (expr_phrases from) bounds1 in
        let mine = front (lo + 1) a (b ++ (slot.Number ∷ (c ++ e))) slots1 in
        let mine2 = front last b (slot.Number ∷ (c ++ e)) slots2 in
        let count : ℕ = own_slot p tables r counter in
        let n = roots.hidden p tables code checked w r lt counter facts.2 in
        let step = first_slot lo slot.Number (a ++ (b ++ (slot.Number ∷ (c ++ e)))) slots in
        let l : ℕ = own_slot p tables r limit in
        let m = roots.hidden p tables code checked w r lt limit facts.3 in
        let good_to = fine_back (desig_phrases d ++ expr_phrases from) (expr_phrases to) bounds in
        let one : List LineInstr = begin_loop line at lo (pos 1)
        (λ at. unless_constant (constant from) (expr_code p tables r line at (lo + 1) from))
        (λ at. limit_of line at last l to) in
        let next : ℕ = at + length one in
        let each : List LineInstr = turn_of line (next + 8) count (more + 1) d range (λ at. stmts_code p tables r at lo2 body) in
        row at one (some_turns line next (constant from) count l lo (lo + 1) more each)
        (pieces.begin_fits code r 0 line at lo (pos 1) (λ at. unless_constant (constant from) (expr_code p tables r line at (lo + 1) from))
        (λ at. limit_of line at last l to) step
        (λ at. pieces.constant_fits code r (constant from) at (expr_code p tables r line at (lo + 1) from)
        (expr_fits line at (lo + 1) from (fine_back (desig_phrases d) (expr_phrases from) bounds1) mine))
        (λ at. limit_here line at last l to good_to mine2 m (expr_fits line at last to good_to mine2)))
        (pieces.some_turns_fits code r line next (constant from) count l lo (lo + 1) more each
        (record { count = n; bound = m; by = step; from = values.expr_number p tables code checked w r lt (lo + 1) from mine })
        (first_slot more slot.Number (c ++ e) slots3)
        (turn line (next + 8) count (more + 1) d range (λ at. stmts_code p tables r at lo2 body) facts.1 facts.0 good_d n
        (front (more + 1) c e slots4) (λ at lo s. desig_fits line at lo d good_d s)
        (λ at. stmts_fit at lo2 body (fine_back ((desig_phrases d ++ expr_phrases from) ++ expr_phrases to) (stmts_phrases body) good)
        (back (more + 1) c e slots4))))

    -- ---- CASE

    dead_fits : (at lo : ℕ) (arms : CaseArms) → Fine (cases_phrases arms) → SlotsOf lo (dead_slots p r arms)
        → Here at (dead_code p tables r at lo arms)
    dead_fits at lo no_cases good slots = λ room. tt
    dead_fits at lo (more_cases [] body rest) good slots =
        let one : List LineInstr = stmts_code p tables r at lo body in
        let lo2 : ℕ = behind_stmts p r lo body in
        row at one (dead_code p tables r (at + length one) lo2 rest)
        (stmts_fit at lo body (fine_front (stmts_phrases body) (cases_phrases rest) good)
        (front lo (stmts_slots p r body) (dead_slots p r rest) slots))
        (dead_fits (at + length one) lo2 rest (fine_back (stmts_phrases body) (cases_phrases rest) good)
        (back lo (stmts_slots p r body) (dead_slots p r rest) slots))
    dead_fits at lo (more_cases (label ∷ labels) body rest) good slots =
        dead_fits at lo rest (fine_back (stmts_phrases body) (cases_phrases rest) good) slots

    case_fits : (line value bound at lo : ℕ) (arms : CaseArms) (otherwise : (at lo : ℕ) → List LineInstr) (others : List SlotKind)
        → Fine (cases_phrases arms) → CaseSlots value bound → SlotsOf lo (cases_slots p r arms ++ others)
        → ((at lo : ℕ) → SlotsOf lo others → Here at (otherwise at lo))
        → Here at (case_code p tables r line value bound at lo arms otherwise)
    case_fits line value bound at lo no_cases otherwise others good c slots f = f at lo slots
    case_fits line value bound at lo (more_cases [] body rest) otherwise others good c slots f =
        case_fits line value bound at lo rest otherwise others (fine_back (stmts_phrases body) (cases_phrases rest) good) c slots f
    case_fits line value bound at lo (more_cases (label ∷ labels) body rest) otherwise others good c slots f =
        let parts = case_parts lo (stmts_slots p r body) (cases_slots p r rest) others slots in
        let inner : List LineInstr = stmts_code p tables r (behind_labels at label labels) lo body in
        let one : List LineInstr = case_arm line value bound at label labels inner in
        let lo2 : ℕ = behind_stmts p r lo body in
        pieces.leaving_fits code r at line one (λ next jump. cases_code p tables r line value bound jump next lo2 rest otherwise)
        (pieces.arm_fits code r line value bound at label labels inner c.number_at c.low c.test
        (stmts_fit (behind_labels at label labels) lo body (fine_front (stmts_phrases body) (cases_phrases rest) good) parts.0))
        (λ out. cases_fit line value bound (at + length one) (at + length one + 1) lo2 rest otherwise others
        (fine_back (stmts_phrases body) (cases_phrases rest) good) c parts.1 out f)

    cases_fit : (line value bound jump at lo : ℕ) (arms : CaseArms) (otherwise : (at lo : ℕ) → List LineInstr) (others : List SlotKind)
        → Fine (cases_phrases arms) → CaseSlots value bound → SlotsOf lo (cases_slots p r arms ++ others) → IsInside code r jump
        → ((at lo : ℕ) → SlotsOf lo others → Here at (otherwise at lo))
        → Here at (cases_code p tables r line value bound jump at lo arms otherwise)
    cases_fit line value bound jump at lo no_cases otherwise others good c slots out f = f at lo slots
    cases_fit line value bound jump at lo (more_cases [] body rest) otherwise others good c slots out f =
        cases_fit line value bound jump at lo rest otherwise others (fine_back (stmts_phrases body) (cases_phrases rest) good) c slots out f
    cases_fit line value bound jump at lo (more_cases (label ∷ labels) body rest) otherwise others good c slots out f =
        let parts = case_parts lo (stmts_slots p r body) (cases_slots p r rest) others slots in
        let inner : List LineInstr = stmts_code p tables r (behind_labels at label labels) lo body in
        let one : List LineInstr = case_arm line value bound at label labels inner in
        let lo2 : ℕ = behind_stmts p r lo body in
        let next : ℕ = at + length (one ++ own line (I.Jump jump ∷ [])) in
        pieces.by_jump code r at line jump one (λ next. cases_code p tables r line value bound jump next lo2 rest otherwise) out
        (pieces.arm_fits code r line value bound at label labels inner c.number_at c.low c.test
        (stmts_fit (behind_labels at label labels) lo body (fine_front (stmts_phrases body) (cases_phrases rest) good) parts.0))
        (cases_fit line value bound jump next lo2 rest otherwise others (fine_back (stmts_phrases body) (cases_phrases rest) good) c parts.1
        out f)

    else_fits : (line at lo : ℕ) (rest : Else) → Fine (else_phrases rest) → SlotsOf lo (else_slots p r rest)
        → Here at (else_code p tables r line at lo rest)
    else_fits line at lo no_else good slots = own_fits at line (I.Fault 5 ∷ []) (refl, tt)
    else_fits line at lo (else_part body) good slots = stmts_fit at lo body good slots
