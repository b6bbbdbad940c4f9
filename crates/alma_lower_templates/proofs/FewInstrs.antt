-- The instructions of the phrases of a routine are at most 16 for each node.
use Rattle.std.proofs.Common.{◌≡◌, ℕ, zero, suc, ◌+◌, ◌*◌, ◌≤◌, Bool, true, false, List, [], ◌∷◌, ◌++◌, length, drop, get_or, Option, Some}
use Rattle.std.proofs.Common.{None, refl, ap, arith, ℤ, pos}
use Rattle.std.proofs.lemmas.List.{length-append, length-map}
use Rattle.std.specs.Prelude.{if◌then◌else◌}
use Rattle.alma_base.specs.Numbers.{char_range, int_eq}
use Rattle.alma_base.specs.declared.number.Range.{Range}
use Rattle.alma_code.specs.declared.instr.Instr.{Instr}
use Rattle.alma_code.specs.declared.instr.Instr.TheVariants as I
use Rattle.alma_ir.specs.declared.phrase.Cmp.{Cmp}
use Rattle.alma_ir.specs.declared.phrase.Cmp.TheVariants as cmp
use Rattle.alma_ir.specs.declared.phrase.Root.{Root}
use Rattle.alma_ir.specs.declared.phrase.Root.TheVariants as root
use Rattle.alma_ir.specs.Tree.{Stmts, Stmt, Arms, CaseArms, Else, Branches, Loop, Test, Tests, Expr, Links, Args, Arg, Desig, Sels, Sel}
use Rattle.alma_ir.specs.Tree.{Program, routine_at, no_stmts, more_stmts, TestStmt, Assign, CopyCells, If, While, Repeat, ForTo, SomeOf}
use Rattle.alma_ir.specs.Tree.{Case, Either, Forall, Commit, Return, Read, WriteExpr, WriteText, WriteLine, no_arms, more_arms, no_cases}
use Rattle.alma_ir.specs.Tree.{more_cases, no_else, else_part, no_branches, more_branches, a_loop, no_result, some_result, Value, Bind}
use Rattle.alma_ir.specs.Tree.{Unify, SameCells, Seq, And, Or, Not, CallTest, no_tests, more_tests, Const, Load, Chain, Compare, Truth}
use Rattle.alma_ir.specs.Tree.{Known, Chr, CallExpr, no_links, more_links, no_args, more_args, ByValue, ByCells, ByPlace, MixValue}
use Rattle.alma_ir.specs.Tree.{MixPlace, a_desig, no_sels, more_sels, Field, Index}
use Rattle.alma_ir.specs.Count.{stmts_nodes, stmt_nodes, arms_nodes, cases_nodes, else_nodes, branches_nodes, loop_nodes, test_nodes}
use Rattle.alma_ir.specs.Count.{tests_nodes, expr_nodes, links_nodes, args_nodes, arg_nodes, desig_nodes, sels_nodes, sel_nodes}
use Rattle.alma_ir.specs.Lines.{behind, stmts_with, stmt_with, arms_with, cases_with, else_with, branches_with, loop_with, test_with}
use Rattle.alma_ir.specs.Lines.{tests_with, expr_with, links_with, args_with, arg_with, desig_with, sels_with, sel_with}
use Rattle.alma_ir.specs.Phrases.{DesigPhrase, stmts_phrases, stmt_phrases, arms_phrases, cases_phrases, else_phrases, branches_phrases}
use Rattle.alma_ir.specs.Phrases.{loop_phrases, test_phrases, tests_phrases, expr_phrases, links_phrases, args_phrases, arg_phrases}
use Rattle.alma_ir.specs.Phrases.{desig_phrases, sels_phrases, sel_phrases}
use Rattle.alma_lower_templates.specs.LineInstr.{LineInstr, own, in_row}
use Rattle.alma_lower_templates.specs.Pieces.{cmp_code, op_code, neg_code, fit_code, unless_whole, link_code, chain_code, condition}
use Rattle.alma_lower_templates.specs.Pieces.{guard_code, read_code, write_code, truth_code, first_of_two, branch_code, passed_over}
use Rattle.alma_lower_templates.specs.Pieces.{has_dead}
use Rattle.alma_lower_templates.specs.Pieces.{case_arm, behind_labels, labels_code, label_code, label_test, test_size, begin_loop}
use Rattle.alma_lower_templates.specs.Pieces.{for_turns}
use Rattle.alma_lower_templates.specs.Pieces.{some_turns, turn_code, opposite_code, unless_constant, limit_code, put_code}
use Rattle.alma_lower_templates.specs.Pieces.{held_code as constant_code, held_or}
use Rattle.alma_lower_templates.specs.Slots.{shift_of, bare, bare_desig, stays, stays_in, taken_from, unless_bare, is_simple, is_turned}
use Rattle.alma_lower_templates.specs.Slots.{handed_slots, arg_slots}
use Rattle.alma_lower_templates.specs.Slots.{behind_stmts, behind_stmt, behind_test, behind_condition, behind_expr, behind_dead}
use Rattle.alma_lower_templates.specs.Slots.{behind_value, behind_desig, behind_target, behind_variable, own_place, own_root, goes_straight}
use Rattle.alma_lower_templates.specs.Slots.{constant, ends_alone, is_straight, behind_held, held_constant}
use Rattle.alma_lower_templates.specs.Tables.{Tables, range_number, is_whole}
use Rattle.alma_lower_templates.specs.Templates
use Rattle.alma_lower_templates.proofs.Straight.{straight_long}
use Rattle.alma_lower_templates.proofs.FormRuns.{held_code}
use Rattle.alma_lower_templates.proofs.Placed.{handed_is, placed_long}
use Rattle.alma_lower_templates.proofs.FewSlots.{Short, AreShort, short_front, short_back, unless_few}
use Rattle.alma_lower_templates.proofs.Tested.{compared_code, tested_long}
use Rattle.alma_lower_templates.proofs.Turned.{while_code}

own_long : (line : ℕ) (xs : List Instr) → length (own line xs) ≡ length xs
own_long line xs = length-map xs (λ i. record { line = line; instr = i })

whole_few : (z : Bool) (xs : List Instr) → length (unless_whole z xs) ≤ length xs
whole_few true xs = omega arith
whole_few false xs = omega arith

cmp_few : (line : ℕ) (how : Cmp) (to first other : ℕ) → length (own line (cmp_code how to first other)) ≤ 2
cmp_few line cmp.Equal to first other = omega arith
cmp_few line cmp.Unequal to first other = omega arith
cmp_few line cmp.Less to first other = omega arith
cmp_few line cmp.LessEq to first other = omega arith
cmp_few line cmp.Greater to first other = omega arith
cmp_few line cmp.GreaterEq to first other = omega arith

cmp_some : (line : ℕ) (how : Cmp) (to first other : ℕ) → 1 ≤ length (own line (cmp_code how to first other))
cmp_some line cmp.Equal to first other = omega arith
cmp_some line cmp.Unequal to first other = omega arith
cmp_some line cmp.Less to first other = omega arith
cmp_some line cmp.LessEq to first other = omega arith
cmp_some line cmp.Greater to first other = omega arith
cmp_some line cmp.GreaterEq to first other = omega arith

neg_few : (line : ℕ) (negated : Bool) (to from : ℕ) → length (own line (neg_code negated to from)) ≤ 1
neg_few line true to from = omega arith
neg_few line false to from = omega arith

chain_long : (from links : ℕ) → length (chain_code from links) ≡ links
chain_long from zero = refl
chain_long from (suc links) = let z = chain_long (from + 1) links in omega (arith, z)

label_test_few : (value bound miss : ℕ) (label : Range) → length (label_test value bound miss label) ≤ 6
label_test_few value bound miss label = by (int_eq label.low label.high)
  where
    by : (z : Bool) → length (if z then
        I.Const bound label.low ∷ I.Equal (bound + 1) bound value ∷ I.JumpZero (bound + 1) miss ∷ [] else
        (I.Const bound label.low ∷ I.LessEq (bound + 1) bound value ∷ I.JumpZero (bound + 1) miss
        ∷ I.Const bound label.high ∷ I.LessEq (bound + 1) value bound ∷ I.JumpZero (bound + 1) miss ∷ [])) ≤ 6
    by true = omega arith
    by false = omega arith

labels_few : (value bound at hit miss : ℕ) (label : Range) (labels : List Range)
    → length (labels_code value bound at hit miss label labels) ≤ 7 * length labels + 6
labels_few value bound at hit miss label [] = let z = label_test_few value bound miss label in omega (arith, z)
labels_few value bound at hit miss label (label2 ∷ rest) =
    let next : ℕ = at + test_size label + 1 in
    let test : List Instr = label_test value bound next label in
    let z = labels_few value bound next hit miss label2 rest in
    omega (
      arith,
      z,
      length-append (label_code value bound at hit label) (labels_code value bound next hit miss label2 rest),
      length-append test (I.Jump hit ∷ []),
      label_test_few value bound next label,
    )

passed_few : (z : Bool) (line at : ℕ) (dead : List LineInstr) → length (passed_over z line at dead) ≤ 1 + length dead
passed_few true line at dead = omega arith
passed_few false line at dead = omega arith

condition_few :
    (simple : Bool) (line at lo none : ℕ) (jump : (at lo none : ℕ) → List LineInstr) (test : (at lo : ℕ) → List LineInstr) (n : ℕ)
    → ((at lo none : ℕ) → 4 + length (jump at lo none) ≤ n)
    → ((at lo : ℕ) → 4 + length (test at lo) ≤ n)
    → 1 + length (condition simple line at lo none jump test) ≤ n
condition_few true line at lo none jump test n j t = let z = j at lo none in omega (arith, z)
condition_few false line at lo none jump test n j t =
    let z = t (at + 2) (lo + 1) in
    omega (arith, z, length-append (test (at + 2) (lo + 1)) (own line (I.Cut lo ∷ [])))

guarded_few :
    (at skipped : ℕ) (condition : (none : ℕ) → List LineInstr) (body : (at : ℕ) → List LineInstr) (m n : ℕ)
    → ((none : ℕ) → 1 + length (condition none) ≤ m)
    → ((at : ℕ) → length (body at) ≤ n)
    → 1 + length (guard_code at skipped condition body) ≤ m + n
guarded_few at skipped condition body m n c b =
    let here : ℕ = at + length (condition 0) in
    let none : ℕ = here + length (body here) + skipped in
    let x = c none in
    let y = b here in
    omega (arith, x, y, length-append (condition none) (body here))

module _ (p : Program) (tables : Tables) (r : ℕ) where
  fit_few : (line : ℕ) (range : Range) (value : ℕ) (rest : List Instr)
      → length (own line (fit_code tables range value ++ rest)) ≤ 1 + length rest
  fit_few line range value rest =
      let one : List Instr = I.InRange value (range_number tables range) ∷ [] in
      omega (
        arith,
        own_long line (fit_code tables range value ++ rest),
        length-append (fit_code tables range value) rest,
        whole_few (is_whole range) one,
      )

  link_few : (sh up lo : ℕ) → length (Templates.link_if p tables r sh up lo) ≤ up + 1
  link_few zero up lo = omega arith
  link_few (suc one) up lo = let z = chain_long lo up in omega (arith, z)

  root_few : (line lo : ℕ) (x : Root) (cells : ℕ) (sels : Sels) → Short (DesigPhrase (a_desig x cells sels))
      → length (own line (Templates.root_code p tables r lo x)) ≤ 9
  root_few line lo (root.Local from) cells sels h = omega arith
  root_few line lo (root.Global from) cells sels h = omega arith
  root_few line lo (root.Param from) cells sels h = omega arith
  root_few line lo (root.Outer links from) cells sels h =
      let code : List Instr = Templates.root_code p tables r lo (root.Outer links from) in
      let z = chain_long (lo + 1) links in
      omega (
        arith,
        own_long line code,
        length-append (link_code (lo + 1) links)
            (I.Outer lo (lo + 1 + links) (Templates.outer_slot p tables r links from) ∷ []),
        z,
        h,
      )
  root_few line lo (root.OuterParam links from) cells sels h =
      let code : List Instr = Templates.root_code p tables r lo (root.OuterParam links from) in
      let z = chain_long (lo + 1) links in
      omega (
        arith,
        own_long line code,
        length-append (link_code (lo + 1) links)
            (I.OuterSame lo (lo + 1 + links) (Templates.outer_slot p tables r links from) ∷ []),
        z,
        h,
      )

  set_few : (o : Option ℕ) (line : ℕ) (value : List LineInstr) (set : List Instr)
      → length (Templates.set_to p tables r o line value set) ≤ length value + length (own line set)
  set_few (Some to) line value set = omega (arith, straight_long (Templates.own_slot p tables r to) value)
  set_few None line value set = omega (arith, length-append value (own line set))

  result_few : (line : ℕ) (o : Option Range) (value : ℕ) (rest : List Instr)
      → length (own line (Templates.fit_result p tables r o value ++ rest)) ≤ 1 + length rest
  result_few line (Some range) value rest = fit_few line range value rest
  result_few line None value rest = let z = own_long line rest in omega (arith, z)

  count_few : (o : Option ℕ) (range : Range) (counter lo : ℕ) → length (Templates.count_code p tables r o range counter lo) ≤ 2
  count_few (Some to) range counter lo = let z = whole_few (is_whole range) (I.InRange counter (range_number tables range) ∷ []) in
      omega (arith, z)
  count_few None range counter lo = let z = whole_few (is_whole range) (I.InRange lo (range_number tables range) ∷ []) in omega (arith, z)

  -- ---- forms of several parts, given their parts

  put_few : (z : Bool) (line to from : ℕ) (range : Range) (value : List LineInstr)
      → length (put_code z line to from (fit_code tables range from) value) ≤ 2 + length value
  put_few true line to from range value = omega (arith, straight_long to value)
  put_few false line to from range value =
      omega (
        arith,
        length-append value (own line (fit_code tables range from ++ (I.Move to from ∷ []))),
        fit_few line range from (I.Move to from ∷ []),
      )

  handed_few : (line at to lo : ℕ) (y : Expr) (range : Range) (n : ℕ) → 1 + length (Templates.expr_code p tables r line at lo y) ≤ n
      → length (Templates.arg_code p tables r line at to lo (ByValue y range)) ≤ 1 + n
  handed_few line at to lo y range n z =
      omega (
        arith,
        z,
        put_few (is_straight y range) line to (Templates.value_at p tables r lo y) range
            (unless_bare (bare y) (Templates.expr_code p tables r line at lo y)),
        unless_few (bare y) (Templates.expr_code p tables r line at lo y),
      )

  -- a condition
  asks_few :
      (line at lo none : ℕ) (u : Test) (n : ℕ)
      → ((at lo none : ℕ) → 4 + length (Templates.jump_code p tables r line at lo none u) ≤ n)
      → ((at lo : ℕ) → 4 + length (Templates.test_code p tables r line at lo u) ≤ n)
      → 1 + length (condition (is_simple u) line at lo none (λ at lo none. Templates.jump_code p tables r line at lo none u)
      (λ at lo. Templates.test_code p tables r line at lo u)) ≤ n
  asks_few line at lo none u n j t = condition_few (is_simple u) line at lo none
      (λ at lo none. Templates.jump_code p tables r line at lo none u) (λ at lo. Templates.test_code p tables r line at lo u) n j t

  -- and what is done where it has an alternative
  asked_few :
      (line at lo skipped : ℕ) (u : Test) (m : ℕ)
      → ((at lo none : ℕ) → 4 + length (Templates.jump_code p tables r line at lo none u) ≤ m)
      → ((at lo : ℕ) → 4 + length (Templates.test_code p tables r line at lo u) ≤ m)
      → (body : (at : ℕ) → List LineInstr) (n : ℕ)
      → ((at : ℕ) → length (body at) ≤ n)
      → 1 + length (guard_code at skipped (λ none. condition (is_simple u) line at lo none
      (λ at lo none. Templates.jump_code p tables r line at lo none u) (λ at lo. Templates.test_code p tables r line at lo u)) body) ≤ m
      + n
  asked_few line at lo skipped u m j t body n b =
      guarded_few at skipped (λ none. condition (is_simple u) line at lo none
      (λ at lo none. Templates.jump_code p tables r line at lo none u) (λ at lo. Templates.test_code p tables r line at lo u)) body m n
      (λ none. asks_few line at lo none u m j t) b

  -- a first count, and an operand that is held
  constant_few : (o : Option ℤ) (value : List LineInstr) → length (unless_constant o value) ≤ length value
  constant_few (Some n) value = omega arith
  constant_few None value = omega arith

  one_few : (line : ℕ) (o : Option ℤ) (to : ℕ) → length (own line (constant_code o to)) ≤ 1
  one_few line (Some n) to = omega arith
  one_few line None to = omega arith

  -- a comparison that goes back is no longer than the test of it
  back_few : (line at lo held top : ℕ) (u : Test)
      → length (Templates.back_code p tables r line at lo held top u) ≤ length (Templates.test_code p tables r line at lo u)
  back_few line at lo held top (Value (Compare how x y)) =
      let one : List LineInstr = unless_bare (stays x y) (Templates.expr_code p tables r line at lo x) in
      let two : List LineInstr = unless_bare (bare y) (Templates.expr_code p tables r line (at + length one) (behind_expr p r lo x) y) in
      let operands : List LineInstr = compared_code p tables r line at lo x y in
      let first : ℕ = Templates.slot_or p tables r (stays x y) lo in
      let other : ℕ = Templates.value_at p tables r (behind_expr p r lo x) y in
      omega (
        arith,
        tested_long p tables r line at lo (Compare how x y),
        length-append operands (own line (cmp_code how lo first other)),
        length-append one two,
        length-append one (unless_constant (constant y) two),
        constant_few (constant y) two,
        length-append (one ++ unless_constant (constant y) two)
            (own line (opposite_code how lo first (held_or (constant y) held other) ∷ I.JumpZero lo top ∷ [])),
        cmp_some line how lo first other,
      )
  back_few line at lo held top (Value (Const n)) = omega arith
  back_few line at lo held top (Value (Load d)) = omega arith
  back_few line at lo held top (Value (Chain negated e links)) = omega arith
  back_few line at lo held top (Value (Truth t)) = omega arith
  back_few line at lo held top (Value (Known d)) = omega arith
  back_few line at lo held top (Value (Chr e)) = omega arith
  back_few line at lo held top (Value (CallExpr called args up)) = omega arith
  back_few line at lo held top (Bind d e range left) = omega arith
  back_few line at lo held top (Unify d range e range2) = omega arith
  back_few line at lo held top (SameCells d e) = omega arith
  back_few line at lo held top (Seq x) = omega arith
  back_few line at lo held top (And ts) = omega arith
  back_few line at lo held top (Or ts) = omega arith
  back_few line at lo held top (Not t) = omega arith
  back_few line at lo held top (CallTest called args up) = omega arith

  -- WHILE, wherever its condition stands
  while_few :
      (behind : Bool) (line at lo : ℕ) (u : Test) (y : Stmts) (m n : ℕ)
      → ((at lo none : ℕ) → 4 + length (Templates.jump_code p tables r line at lo none u) ≤ m)
      → ((at lo : ℕ) → 4 + length (Templates.test_code p tables r line at lo u) ≤ m)
      → ((at lo : ℕ) → length (Templates.stmts_code p tables r at lo y) ≤ n)
      → length (while_code p tables r behind line at lo u y) ≤ 1 + m + n
  while_few true line at lo u y m n j t b =
      let lo1 : ℕ = behind_held p r lo u in
      let held : List LineInstr = own line (constant_code (held_constant u) lo) in
      let top : ℕ = at + length held + 1 in
      let body : List LineInstr = Templates.stmts_code p tables r top lo1 y in
      let next : ℕ = top + length body in
      let lo2 : ℕ = behind_stmts p r lo1 y in
      let last : List LineInstr = Templates.back_code p tables r line next lo2 lo top u in
      omega (
        arith,
        length-append held (own line (I.Jump next ∷ []) ++ (body ++ last)),
        length-append body last,
        one_few line (held_constant u) lo,
        back_few line next lo2 lo top u,
        t next lo2,
        b top lo1,
      )
  while_few false line at lo u y m n j t b =
      let lo2 : ℕ = behind_condition p r lo u in
      let one : List LineInstr = guard_code (at + 1) 1
      (λ none. condition (is_simple u) line (at + 1) lo none (λ at lo none. Templates.jump_code p tables r line at lo none u)
      (λ at lo. Templates.test_code p tables r line at lo u)) (λ next. Templates.stmts_code p tables r next lo2 y) in
      omega (
        arith,
        asked_few line (at + 1) lo 1 u m j t (λ next. Templates.stmts_code p tables r next lo2 y) n (λ next. b next lo2),
        length-append one (own line (I.Jump (at + 1) ∷ [])),
      )

  -- a place that is used
  held_few : (line at lo : ℕ) (y : Desig) (m : ℕ) → length (Templates.desig_code p tables r line at lo y) ≤ m
      → length (held_code p tables r line at lo y) ≤ m
  held_few line at lo y m a = omega (arith, a, unless_few (own_place y) (Templates.desig_code p tables r line at lo y))

  -- two designators
  pair_few :
      (line at lo : ℕ) (y z : Desig) (m n : ℕ)
      → length (Templates.desig_code p tables r line at lo y) ≤ m
      → ((at lo : ℕ) → length (Templates.desig_code p tables r line at lo z) ≤ n)
      → length (in_row at (held_code p tables r line at lo y) (λ next. held_code p tables r line next (behind_desig p r lo y) z)) ≤ m + n
  pair_few line at lo y z m n a b =
      let one : List LineInstr = held_code p tables r line at lo y in
      let next : ℕ = at + length one in
      let lo2 : ℕ = behind_desig p r lo y in
      let first = held_few line at lo y m a in
      let second = held_few line next lo2 z n (b next lo2) in
      omega (arith, first, second, length-append one (held_code p tables r line next lo2 z))

  -- an operand of OR that is not the last, without the jump behind it
  first_few : (line at lo : ℕ) (x : List LineInstr) (n : ℕ) → 4 + length x ≤ n → 1 + length (first_of_two line at lo x) ≤ n
  first_few line at lo x n z = omega (arith, z, length-append x (own line (I.Cut lo ∷ [])))

  -- an arm of CASE
  arm_few : (line value bound at : ℕ) (label : Range) (labels : List Range) (x : List LineInstr)
      → length (case_arm line value bound at label labels x) ≤ 7 * length labels + 6 + length x
  arm_few line value bound at label labels x =
      let here : ℕ = behind_labels at label labels in
      let tests : List Instr = labels_code value bound at here (here + length x + 1) label labels in
      omega (
        arith,
        length-append (own line tests) x,
        own_long line tests,
        labels_few value bound at here (here + length x + 1) label labels,
      )

  -- a limit
  limit_few : (z : Bool) (line limit from : ℕ) (value : List LineInstr) → length (limit_code z line limit from value) ≤ length value + 1
  limit_few true line limit from value = omega (arith, straight_long limit value)
  limit_few false line limit from value = omega (arith, length-append value (own line (I.Move limit from ∷ [])))

  -- the count of a loop, the variable set to it, and the body
  turn_few :
      (line at counter lo : ℕ) (y : Desig) (range : Range) (body : (at : ℕ) → List LineInstr) (m n : ℕ)
      → ((at : ℕ) → length (Templates.desig_code p tables r line at (lo + 1) y) ≤ m)
      → ((at : ℕ) → length (body at) ≤ n)
      → length (turn_code line at (Templates.count_code p tables r (bare_desig y) range counter lo)
      (λ at. unless_bare (bare_desig y) (held_code p tables r line at (lo + 1) y))
      (Templates.set_code p tables r (lo + 1) (Templates.count_at p tables r (bare_desig y) counter lo) y) body) ≤ 3 + m + n
  turn_few line at counter lo y range body m n a b =
      let check : List Instr = Templates.count_code p tables r (bare_desig y) range counter lo in
      let zero : List LineInstr = own line check in
      let at1 : ℕ = at + length zero in
      let one : List LineInstr = unless_bare (bare_desig y) (held_code p tables r line at1 (lo + 1) y) in
      let at2 : ℕ = at1 + length one in
      let end : List LineInstr = own line (Templates.set_code p tables r (lo + 1) (Templates.count_at p tables r (bare_desig y) counter lo)
      y
      ∷ []) ++ body (at2 + 1) in
      let c = held_few line at1 (lo + 1) y m (a at1) in
      let e = b (at2 + 1) in
      omega (
        arith,
        c,
        e,
        length-append zero (one ++ end),
        length-append one end,
        own_long line check,
        count_few (bare_desig y) range counter lo,
        unless_few (bare_desig y) (held_code p tables r line at1 (lo + 1) y),
      )

  mutual
    unfolding stmts_phrases stmts_with

    desig_few : (line at lo : ℕ) (d : Desig) (ls : List ℕ) → AreShort (desig_phrases d)
        → length (Templates.desig_code p tables r line at lo (desig_with d ls)) ≤ 16 * desig_nodes d
    desig_few line at lo (a_desig x cells sels) ls h =
        let o : Option ℕ = own_root x (sels_with sels ls) in
        let placed : List LineInstr = own line (Templates.root_code p tables r lo x) in
        let one : List LineInstr = unless_bare o placed in
        let from : ℕ = Templates.slot_or p tables r o lo in
        let next : ℕ = at + length one in
        let lo2 : ℕ = Templates.behind_root p tables r lo x in
        omega (
          arith,
          length-append one (Templates.sels_code p tables r line next from lo2 (sels_with sels ls)),
          unless_few o placed,
          root_few line lo x cells sels h.0,
          sels_few line next from lo2 sels ls h.1,
        )

    sels_few : (line at from lo : ℕ) (sels : Sels) (ls : List ℕ) → AreShort (sels_phrases sels)
        → length (Templates.sels_code p tables r line at from lo (sels_with sels ls)) ≤ 16 * sels_nodes sels
    sels_few line at from lo no_sels ls h = omega arith
    sels_few line at from lo (more_sels x rest) ls h =
        let ls2 = behind (sel_phrases x) ls in
        let y : Sel = sel_with x ls in
        let one : List LineInstr = Templates.sel_code p tables r line at from lo y in
        let next : ℕ = at + length one in
        let part : ℕ = Templates.part_slot p tables r lo y in
        omega (
          arith,
          length-append one (Templates.sels_code p tables r line next part (part + 1) (sels_with rest ls2)),
          sel_few line at from lo x ls (short_front (sel_phrases x) (sels_phrases rest) h),
          sels_few line next part (part + 1) rest ls2 (short_back (sel_phrases x) (sels_phrases rest) h),
        )

    sel_few : (line at from lo : ℕ) (x : Sel) (ls : List ℕ) → AreShort (sel_phrases x)
        → length (Templates.sel_code p tables r line at from lo (sel_with x ls)) ≤ 16 * sel_nodes x
    sel_few line at from lo (Field offset cells) ls h = omega arith
    sel_few line at from lo (Index e range cells) ls h =
        let y : Expr = expr_with e ls in
        let last : Instr = I.Index (behind_value p r lo y) from (Templates.value_at p tables r lo y) (range_number tables range) in
        omega (
          arith,
          length-append (unless_bare (bare y) (Templates.expr_code p tables r line at lo y)) (own line (last ∷ [])),
          unless_few (bare y) (Templates.expr_code p tables r line at lo y),
          expr_few line at lo e ls h.1,
        )

    expr_few : (line at lo : ℕ) (e : Expr) (ls : List ℕ) → AreShort (expr_phrases e)
        → 1 + length (Templates.expr_code p tables r line at lo (expr_with e ls)) ≤ 16 * expr_nodes e
    expr_few line at lo (Const n) ls h = omega arith
    expr_few line at lo (Load d) ls h =
        let y : Desig = desig_with d ls in
        let x : List LineInstr = held_code p tables r line at (lo + 1) y in
        omega (
          arith,
          length-append (unless_bare (bare_desig y) x) (own line (Templates.load_code p tables r lo y ∷ [])),
          unless_few (bare_desig y) x,
          held_few line at (lo + 1) y (16 * desig_nodes d) (desig_few line at (lo + 1) d ls h.1),
        )
    expr_few line at lo (Chain negated e links) ls h =
        let ls2 = behind (expr_phrases e) ls in
        let y : Expr = expr_with e ls in
        let x : List LineInstr = Templates.expr_code p tables r line at lo y in
        let o : Option ℕ = taken_from negated y (links_with links ls2) in
        let one : List LineInstr = unless_bare o x in
        let from : ℕ = Templates.value_at p tables r lo y in
        let neg : List LineInstr = own line (neg_code negated lo from) in
        let next : ℕ = at + length (one ++ neg) in
        let lo2 : ℕ = behind_expr p r lo y in
        let first : ℕ = Templates.slot_or p tables r (stays_in negated y (links_with links ls2)) lo in
        omega (
          arith,
          length-append (one ++ neg) (Templates.links_code p tables r line next first lo lo2 (links_with links ls2)),
          length-append one neg,
          neg_few line negated lo from,
          unless_few o x,
          expr_few line at lo e ls (short_front (expr_phrases e) (links_phrases links) h.1),
          operators_few line next first lo lo2 links ls2 (short_back (expr_phrases e) (links_phrases links) h.1),
        )
    expr_few line at lo (Compare how a b) ls h =
        let ls2 = behind (expr_phrases a) ls in
        let y : Expr = expr_with a ls in
        let z : Expr = expr_with b ls2 in
        let one : List LineInstr = unless_bare (stays y z) (Templates.expr_code p tables r line at lo y) in
        let next : ℕ = at + length one in
        let lo2 : ℕ = behind_expr p r lo y in
        let two : List LineInstr = unless_bare (bare z) (Templates.expr_code p tables r line next lo2 z) in
        let first : ℕ = Templates.slot_or p tables r (stays y z) lo in
        let other : ℕ = Templates.value_at p tables r lo2 z in
        omega (
          arith,
          length-append (one ++ two) (own line (cmp_code how lo first other)),
          length-append one two,
          cmp_few line how lo first other,
          unless_few (stays y z) (Templates.expr_code p tables r line at lo y),
          unless_few (bare z) (Templates.expr_code p tables r line next lo2 z),
          expr_few line at lo a ls (short_front (expr_phrases a) (expr_phrases b) h.1),
          expr_few line next lo2 b ls2 (short_back (expr_phrases a) (expr_phrases b) h.1),
        )
    expr_few line at lo (Truth t) ls h =
        let u : Test = test_with t ls in
        let one : List LineInstr = guard_code at 2 (λ none. condition (is_simple u) line at (lo + 1) none
        (λ at lo none. Templates.jump_code p tables r line at lo none u) (λ at lo. Templates.test_code p tables r line at lo u))
        (λ next. []) in
        omega (
          arith,
          length-append one (truth_code line lo (at + length one)),
          asked_few line at (lo + 1) 2 u (16 * test_nodes t) (λ at lo none. jump_few line at lo none t ls h.1)
              (λ at lo. test_few line at lo t ls h.1) (λ next. []) 0 (λ next. omega arith),
        )
    expr_few line at lo (Known d) ls h =
        let y : Desig = desig_with d ls in
        let last : Instr = I.Known lo (Templates.held_at p tables r (lo + 1) y) in
        omega (
          arith,
          length-append (held_code p tables r line at (lo + 1) y) (own line (last ∷ [])),
          held_few line at (lo + 1) y (16 * desig_nodes d) (desig_few line at (lo + 1) d ls h.1),
        )
    expr_few line at lo (Chr e) ls h =
        omega (
          arith,
          length-append (Templates.expr_code p tables r line at lo (expr_with e ls))
              (own line (I.InRange lo (range_number tables char_range) ∷ [])),
          expr_few line at lo e ls h.1,
        )
    expr_few line at lo (CallExpr called args up) ls h =
        let x : Args = args_with args ls in
        let first : ℕ = Templates.arguments_from p tables r called up (lo + 2) in
        let one : List LineInstr = own line (Templates.call_link_code p tables r called up (lo + 2)) in
        let next : ℕ = at + length one in
        let lo2 : ℕ = first + length (handed_slots x) in
        let two : List LineInstr = Templates.args_code p tables r line next first lo2 x in
        let end : List LineInstr = own line (I.Mark (lo + 1) ∷ Templates.call_code p tables r called x up (lo + 2) lo ∷ I.Cut (lo + 1) ∷ [])
        in
        omega (
          arith,
          length-append (one ++ two) end,
          length-append one two,
          own_long line (Templates.call_link_code p tables r called up (lo + 2)),
          link_few (shift_of p called) up (lo + 2),
          args_few line next first lo2 args ls h.1,
          h.0,
        )

    operators_few : (line at first to lo : ℕ) (links : Links) (ls : List ℕ) → AreShort (links_phrases links)
        → length (Templates.links_code p tables r line at first to lo (links_with links ls)) ≤ 16 * links_nodes links
    operators_few line at first to lo no_links ls h = omega arith
    operators_few line at first to lo (more_links how e rest) ls h =
        let ls2 = behind (expr_phrases e) ls in
        let y : Expr = expr_with e ls in
        let x : List LineInstr = unless_bare (bare y) (Templates.expr_code p tables r line at lo y) in
        let end : List LineInstr = own line (op_code how to first (Templates.value_at p tables r lo y) ∷ []) in
        let next : ℕ = at + length (x ++ end) in
        let lo2 : ℕ = behind_value p r lo y in
        omega (
          arith,
          length-append (x ++ end) (Templates.links_code p tables r line next to to lo2 (links_with rest ls2)),
          length-append x end,
          unless_few (bare y) (Templates.expr_code p tables r line at lo y),
          expr_few line at lo e ls (short_front (expr_phrases e) (links_phrases rest) h),
          operators_few line next to to lo2 rest ls2 (short_back (expr_phrases e) (links_phrases rest) h),
        )

    args_few : (line at to lo : ℕ) (args : Args) (ls : List ℕ) → AreShort (args_phrases args)
        → length (Templates.args_code p tables r line at to lo (args_with args ls)) ≤ 16 * args_nodes args
    args_few line at to lo no_args ls h = omega arith
    args_few line at to lo (more_args a rest) ls h =
        let ls2 = behind (arg_phrases a) ls in
        let y : Arg = arg_with a ls in
        let one : List LineInstr = Templates.arg_code p tables r line at to lo y in
        let next : ℕ = at + length one in
        let lo2 : ℕ = lo + length (arg_slots p r y) in
        omega (
          arith,
          length-append one (Templates.args_code p tables r line next (to + 1) lo2 (args_with rest ls2)),
          arg_few line at to lo a ls (short_front (arg_phrases a) (args_phrases rest) h),
          args_few line next (to + 1) lo2 rest ls2 (short_back (arg_phrases a) (args_phrases rest) h),
        )

    arg_few : (line at to lo : ℕ) (a : Arg) (ls : List ℕ) → AreShort (arg_phrases a)
        → length (Templates.arg_code p tables r line at to lo (arg_with a ls)) ≤ 16 * arg_nodes a
    arg_few line at to lo (ByValue e range) ls h = let z =
        handed_few line at to lo (expr_with e ls) range (16 * expr_nodes e) (expr_few line at lo e ls h.1) in omega (arith, z)
    arg_few line at to lo (ByCells d) ls h = let y : Desig = desig_with d ls in
        let made : List LineInstr = Templates.desig_code p tables r line at lo y in
        omega (
          arith,
          ap length (handed_is p tables r to line at lo y),
          placed_long to made,
          desig_few line at lo d ls h.1,
        )
    arg_few line at to lo (ByPlace d) ls h = let y : Desig = desig_with d ls in
        let made : List LineInstr = Templates.desig_code p tables r line at lo y in
        omega (
          arith,
          ap length (handed_is p tables r to line at lo y),
          placed_long to made,
          desig_few line at lo d ls h.1,
        )
    arg_few line at to lo (MixValue e range) ls h = let z =
        handed_few line at to lo (expr_with e ls) range (16 * expr_nodes e) (expr_few line at lo e ls h.1) in omega (arith, z)
    arg_few line at to lo (MixPlace d) ls h = let y : Desig = desig_with d ls in
        let made : List LineInstr = Templates.desig_code p tables r line at lo y in
        omega (
          arith,
          ap length (handed_is p tables r to line at lo y),
          placed_long to made,
          desig_few line at lo d ls h.1,
        )

    jump_few : (line at lo none : ℕ) (t : Test) (ls : List ℕ) → AreShort (test_phrases t)
        → 4 + length (Templates.jump_code p tables r line at lo none (test_with t ls)) ≤ 16 * test_nodes t
    jump_few line at lo none (Value e) ls h =
        let y : Expr = expr_with e ls in
        omega (
          arith,
          length-append (unless_bare (bare y) (Templates.expr_code p tables r line at lo y))
              (own line (I.JumpZero (Templates.value_at p tables r lo y) none ∷ [])),
          unless_few (bare y) (Templates.expr_code p tables r line at lo y),
          expr_few line at lo e ls h.1,
        )
    jump_few line at lo none (Bind d e range true) ls h = omega arith
    jump_few line at lo none (Bind d e range false) ls h = omega arith
    jump_few line at lo none (Unify d range e range2) ls h = omega arith
    jump_few line at lo none (SameCells d e) ls h = omega arith
    jump_few line at lo none (Seq x) ls h = omega arith
    jump_few line at lo none (And ts) ls h = omega arith
    jump_few line at lo none (Or ts) ls h = omega arith
    jump_few line at lo none (Not t) ls h = omega arith
    jump_few line at lo none (CallTest called args up) ls h = omega arith

    test_few : (line at lo : ℕ) (t : Test) (ls : List ℕ) → AreShort (test_phrases t)
        → 4 + length (Templates.test_code p tables r line at lo (test_with t ls)) ≤ 16 * test_nodes t
    test_few line at lo (Value e) ls h =
        let y : Expr = expr_with e ls in
        omega (
          arith,
          tested_long p tables r line at lo y,
          unless_few (bare y) (Templates.expr_code p tables r line at lo y),
          expr_few line at lo e ls h.1,
        )
    test_few line at lo (Bind d e range true) ls h =
        let ls2 = behind (desig_phrases d) ls in
        let y : Desig = desig_with d ls in
        let z : Expr = expr_with e ls2 in
        let one : List LineInstr = held_code p tables r line at lo y in
        let next : ℕ = at + length one in
        let lo2 : ℕ = behind_desig p r lo y in
        let two : List LineInstr = unless_bare (bare z) (Templates.expr_code p tables r line next lo2 z) in
        let last : Instr = I.Bind (Templates.held_at p tables r lo y) (Templates.value_at p tables r lo2 z) (range_number tables range) in
        omega (
          arith,
          length-append (one ++ two) (own line (last ∷ [])),
          length-append one two,
          unless_few (bare z) (Templates.expr_code p tables r line next lo2 z),
          held_few line at lo y (16 * desig_nodes d) (desig_few line at lo d ls (short_front (desig_phrases d) (expr_phrases e) h.1)),
          expr_few line next lo2 e ls2 (short_back (desig_phrases d) (expr_phrases e) h.1),
        )
    test_few line at lo (Bind d e range false) ls h =
        let ls2 = behind (expr_phrases e) ls in
        let y : Expr = expr_with e ls in
        let z : Desig = desig_with d ls2 in
        let one : List LineInstr = Templates.expr_code p tables r line at lo y in
        let next : ℕ = at + length one in
        let lo2 : ℕ = behind_expr p r lo y in
        let two : List LineInstr = held_code p tables r line next lo2 z in
        let last : Instr = I.Bind (Templates.held_at p tables r lo2 z) lo (range_number tables range) in
        omega (
          arith,
          length-append (one ++ two) (own line (last ∷ [])),
          length-append one two,
          held_few line next lo2 z (16 * desig_nodes d)
              (desig_few line next lo2 d ls2 (short_front (desig_phrases d) (expr_phrases e) h.1)),
          expr_few line at lo e ls (short_back (desig_phrases d) (expr_phrases e) h.1),
        )
    test_few line at lo (Unify d range e range2) ls h =
        let z = pair_few line at lo (desig_with d ls) (desig_with e (behind (desig_phrases d) ls)) (16 * desig_nodes d) (16 * desig_nodes e)
        (desig_few line at lo d ls (short_front (desig_phrases d) (desig_phrases e) h.1))
        (λ at lo. desig_few line at lo e (behind (desig_phrases d) ls) (short_back (desig_phrases d) (desig_phrases e) h.1)) in
        let ls2 = behind (desig_phrases d) ls in
        let y : Desig = desig_with d ls in
        let last : Instr = I.Unify (Templates.held_at p tables r lo y) (range_number tables range)
        (Templates.held_at p tables r (behind_desig p r lo y) (desig_with e ls2)) (range_number tables range2) in
        omega (
          arith,
          z,
          length-append (in_row at (held_code p tables r line at lo y)
              (λ next. held_code p tables r line next (behind_desig p r lo y) (desig_with e ls2))) (own line (last ∷ [])),
        )
    test_few line at lo (SameCells d e) ls h =
        let z = pair_few line at lo (desig_with d ls) (desig_with e (behind (desig_phrases d) ls)) (16 * desig_nodes d) (16 * desig_nodes e)
        (desig_few line at lo d ls (short_front (desig_phrases d) (desig_phrases e) h.1))
        (λ at lo. desig_few line at lo e (behind (desig_phrases d) ls) (short_back (desig_phrases d) (desig_phrases e) h.1)) in
        let ls2 = behind (desig_phrases d) ls in
        let y : Desig = desig_with d ls in
        let last : Instr = I.SameCells (Templates.held_at p tables r lo y)
        (Templates.held_at p tables r (behind_desig p r lo y) (desig_with e ls2)) in
        omega (
          arith,
          z,
          length-append (in_row at (held_code p tables r line at lo y)
              (λ next. held_code p tables r line next (behind_desig p r lo y) (desig_with e ls2))) (own line (last ∷ [])),
        )
    test_few line at lo (Seq x) ls h = let z = stmts_few at lo x ls h.1 in omega (arith, z)
    test_few line at lo (And ts) ls h = let z = and_few line at lo ts ls h.1 in omega (arith, z)
    test_few line at lo (Or ts) ls h = let z = or_few line at lo ts ls h.1 in omega (arith, z)
    test_few line at lo (Not t) ls h =
        let x : List LineInstr = Templates.test_code p tables r line (at + 2) (lo + 1) (test_with t ls) in
        omega (arith, length-append x (own line (I.Cut lo ∷ I.Fail ∷ [])), test_few line (at + 2) (lo + 1) t ls h.1)
    test_few line at lo (CallTest called args up) ls h =
        let x : Args = args_with args ls in
        let first : ℕ = Templates.arguments_from p tables r called up lo in
        let one : List LineInstr = own line (Templates.call_link_code p tables r called up lo) in
        let next : ℕ = at + length one in
        let lo2 : ℕ = first + length (handed_slots x) in
        let two : List LineInstr = Templates.args_code p tables r line next first lo2 x in
        let end : List LineInstr = own line (Templates.call_code p tables r called x up lo 0 ∷ []) in
        omega (
          arith,
          length-append (one ++ two) end,
          length-append one two,
          own_long line (Templates.call_link_code p tables r called up lo),
          link_few (shift_of p called) up lo,
          args_few line next first lo2 args ls h.1,
          h.0,
        )

    and_few : (line at lo : ℕ) (ts : Tests) (ls : List ℕ) → AreShort (tests_phrases ts)
        → length (Templates.and_code p tables r line at lo (tests_with ts ls)) ≤ 16 * tests_nodes ts
    and_few line at lo no_tests ls h = omega arith
    and_few line at lo (more_tests t rest) ls h =
        let ls2 = behind (test_phrases t) ls in
        let u : Test = test_with t ls in
        let one : List LineInstr = Templates.test_code p tables r line at lo u in
        let next : ℕ = at + length one in
        let lo2 : ℕ = behind_test p r lo u in
        omega (
          arith,
          length-append one (Templates.and_code p tables r line next lo2 (tests_with rest ls2)),
          test_few line at lo t ls (short_front (test_phrases t) (tests_phrases rest) h),
          and_few line next lo2 rest ls2 (short_back (test_phrases t) (tests_phrases rest) h),
        )

    or_few : (line at lo : ℕ) (ts : Tests) (ls : List ℕ) → AreShort (tests_phrases ts)
        → length (Templates.or_code p tables r line at lo (tests_with ts ls)) ≤ 1 + 16 * tests_nodes ts
    or_few line at lo no_tests ls h = omega arith
    or_few line at lo (more_tests t no_tests) ls h = let z = test_few line at lo t ls (short_front (test_phrases t) [] h) in
        omega (arith, z)
    or_few line at lo (more_tests t (more_tests t2 rest)) ls h =
        let ls2 = behind (test_phrases t) ls in
        let u : Test = test_with t ls in
        let others : Tests = more_tests t2 rest in
        let one : List LineInstr = first_of_two line (at + 2) lo (Templates.test_code p tables r line (at + 2) (lo + 1) u) in
        let jump : ℕ = at + length one in
        let lo2 : ℕ = behind_test p r (lo + 1) u in
        let two : List LineInstr = Templates.operands_code p tables r line jump (jump + 1) lo2 (tests_with others ls2) in
        omega (
          arith,
          length-append one (own line (I.Jump (jump + 1 + length two) ∷ []) ++ two),
          first_few line (at + 2) lo (Templates.test_code p tables r line (at + 2) (lo + 1) u) (16 * test_nodes t)
              (test_few line (at + 2) (lo + 1) t ls (short_front (test_phrases t) (tests_phrases others) h)),
          operands_few line jump (jump + 1) lo2 (more_tests t2 rest) ls2 (short_back (test_phrases t) (tests_phrases others) h),
        )

    operands_few : (line jump at lo : ℕ) (ts : Tests) (ls : List ℕ) → AreShort (tests_phrases ts)
        → length (Templates.operands_code p tables r line jump at lo (tests_with ts ls)) ≤ 16 * tests_nodes ts
    operands_few line jump at lo no_tests ls h = omega arith
    operands_few line jump at lo (more_tests t no_tests) ls h = let z = test_few line at lo t ls (short_front (test_phrases t) [] h) in
        omega (arith, z)
    operands_few line jump at lo (more_tests t (more_tests t2 rest)) ls h =
        let ls2 = behind (test_phrases t) ls in
        let u : Test = test_with t ls in
        let others : Tests = more_tests t2 rest in
        let one : List LineInstr = first_of_two line (at + 2) lo (Templates.test_code p tables r line (at + 2) (lo + 1) u) in
        let end : List LineInstr = own line (I.Jump jump ∷ []) in
        let next : ℕ = at + length (one ++ end) in
        let lo2 : ℕ = behind_test p r (lo + 1) u in
        omega (
          arith,
          length-append (one ++ end) (Templates.operands_code p tables r line jump next lo2 (tests_with others ls2)),
          length-append one end,
          first_few line (at + 2) lo (Templates.test_code p tables r line (at + 2) (lo + 1) u) (16 * test_nodes t)
              (test_few line (at + 2) (lo + 1) t ls (short_front (test_phrases t) (tests_phrases others) h)),
          operands_few line jump next lo2 (more_tests t2 rest) ls2 (short_back (test_phrases t) (tests_phrases others) h),
        )

    pub stmts_few : (at lo : ℕ) (x : Stmts) (ls : List ℕ) → AreShort (stmts_phrases x)
        → length (Templates.stmts_code p tables r at lo (stmts_with x ls)) ≤ 16 * stmts_nodes x
    stmts_few at lo no_stmts ls h = omega arith
    stmts_few at lo (more_stmts given x rest) ls h =
        let ls2 = behind (stmt_phrases x) ls in
        let y : Stmt = stmt_with x (drop 1 ls) in
        let line : ℕ = get_or ls 0 0 in
        let one : List LineInstr = Templates.stmt_code p tables r line at lo y in
        let next : ℕ = at + length one in
        let lo2 : ℕ = behind_stmt p r lo y in
        omega (
          arith,
          length-append one (Templates.stmts_code p tables r next lo2 (stmts_with rest ls2)),
          stmt_few line at lo x (drop 1 ls) (short_front (stmt_phrases x) (stmts_phrases rest) h),
          stmts_few next lo2 rest ls2 (short_back (stmt_phrases x) (stmts_phrases rest) h),
        )

    stmt_few : (line at lo : ℕ) (x : Stmt) (ls : List ℕ) → AreShort (stmt_phrases x)
        → length (Templates.stmt_code p tables r line at lo (stmt_with x ls)) ≤ 16 * stmt_nodes x
    stmt_few line at lo (TestStmt t) ls h = let z = test_few line at lo t ls h.1 in omega (arith, z)
    stmt_few line at lo (Assign d e range) ls h =
        let ls2 = behind (desig_phrases d) ls in
        let y : Desig = desig_with d ls in
        let z : Expr = expr_with e ls2 in
        let one : List LineInstr = unless_bare (bare_desig y) (held_code p tables r line at lo y) in
        let next : ℕ = at + length one in
        let lo2 : ℕ = behind_target p r lo y in
        let two : List LineInstr = unless_bare (bare z) (Templates.expr_code p tables r line next lo2 z) in
        let value : ℕ = Templates.value_at p tables r lo2 z in
        let last : List Instr = Templates.set_code p tables r lo value y ∷ [] in
        omega (
          arith,
          set_few (goes_straight y z range) line (one ++ two) (fit_code tables range value ++ last),
          length-append one two,
          fit_few line range value last,
          unless_few (bare_desig y) (held_code p tables r line at lo y),
          unless_few (bare z) (Templates.expr_code p tables r line next lo2 z),
          held_few line at lo y (16 * desig_nodes d) (desig_few line at lo d ls (short_front (desig_phrases d) (expr_phrases e) h.1)),
          expr_few line next lo2 e ls2 (short_back (desig_phrases d) (expr_phrases e) h.1),
        )
    stmt_few line at lo (CopyCells d e) ls h =
        let z = pair_few line at lo (desig_with d ls) (desig_with e (behind (desig_phrases d) ls)) (16 * desig_nodes d) (16 * desig_nodes e)
        (desig_few line at lo d ls (short_front (desig_phrases d) (desig_phrases e) h.1))
        (λ at lo. desig_few line at lo e (behind (desig_phrases d) ls) (short_back (desig_phrases d) (desig_phrases e) h.1)) in
        let ls2 = behind (desig_phrases d) ls in
        let y : Desig = desig_with d ls in
        let last : Instr = I.CopyCells (Templates.held_at p tables r lo y)
        (Templates.held_at p tables r (behind_desig p r lo y) (desig_with e ls2)) in
        omega (
          arith,
          z,
          length-append (in_row at (held_code p tables r line at lo y)
              (λ next. held_code p tables r line next (behind_desig p r lo y) (desig_with e ls2))) (own line (last ∷ [])),
        )
    stmt_few line at lo (If arms rest) ls h =
        let ls2 = behind (arms_phrases arms) ls in
        let z =
        if_few line at lo arms ls (λ next lo. Templates.stmts_code p tables r next lo (stmts_with rest ls2)) (16 * stmts_nodes rest)
        (short_front (arms_phrases arms) (stmts_phrases rest) h.1)
        (λ next lo. stmts_few next lo rest ls2 (short_back (arms_phrases arms) (stmts_phrases rest) h.1)) in
        omega (arith, z)
    stmt_few line at lo (While t body) ls h =
        let ls2 = behind (test_phrases t) ls in
        let u : Test = test_with t ls in
        let y : Stmts = stmts_with body ls2 in
        let z =
        while_few (is_turned u) line at lo u y (16 * test_nodes t) (16 * stmts_nodes body)
        (λ at lo none. jump_few line at lo none t ls (short_front (test_phrases t) (stmts_phrases body) h.1))
        (λ at lo. test_few line at lo t ls (short_front (test_phrases t) (stmts_phrases body) h.1))
        (λ next lo. stmts_few next lo body ls2 (short_back (test_phrases t) (stmts_phrases body) h.1)) in
        omega (arith, z)
    stmt_few line at lo (Repeat body t) ls h =
        let ls2 = behind (stmts_phrases body) ls in
        let u : Test = test_with t ls2 in
        let y : Stmts = stmts_with body ls in
        let one : List LineInstr = Templates.stmts_code p tables r at lo y in
        let next : ℕ = at + length one in
        let lo2 : ℕ = behind_stmts p r lo y in
        omega (
          arith,
          length-append one (condition (is_simple u) line next lo2 at (λ at lo none. Templates.jump_code p tables r line at lo none u)
              (λ at lo. Templates.test_code p tables r line at lo u)),
          stmts_few at lo body ls (short_front (stmts_phrases body) (test_phrases t) h.1),
          asks_few line next lo2 at u (16 * test_nodes t)
              (λ at lo none. jump_few line at lo none t ls2 (short_back (stmts_phrases body) (test_phrases t) h.1))
              (λ at lo. test_few line at lo t ls2 (short_back (stmts_phrases body) (test_phrases t) h.1)),
        )
    stmt_few line at lo (ForTo l) ls h = let z = for_few line at lo l ls h.1 in omega (arith, z)
    stmt_few line at lo (SomeOf l) ls h = let z = some_few line at lo l ls h.1 in omega (arith, z)
    stmt_few line at lo (Case e arms rest) ls h =
        let parts = expr_phrases e ++ cases_phrases arms in
        let two = short_front parts (else_phrases rest) h.1 in
        let ls2 = behind (expr_phrases e) ls in
        let ls3 = behind (cases_phrases arms) ls2 in
        let y : Expr = expr_with e ls in
        let one : List LineInstr = Templates.expr_code p tables r line at lo y in
        let next : ℕ = at + length one in
        let first : ℕ = behind_expr p r lo y in
        let xs : CaseArms = cases_with arms ls2 in
        let bound : ℕ = behind_dead p r first xs in
        let dead : List LineInstr = Templates.dead_code p tables r (next + 1) first xs in
        let over : List LineInstr = passed_over (has_dead xs) line next dead in
        let tried : ℕ = next + length over in
        let otherwise : (at lo : ℕ) → List LineInstr = λ next lo. Templates.else_code p tables r line next lo (else_with rest ls3) in
        let made : List LineInstr = Templates.case_code p tables r line lo bound tried (bound + 2) xs otherwise in
        omega (
          arith,
          length-append one (over ++ made),
          length-append over made,
          passed_few (has_dead xs) line next dead,
          expr_few line at lo e ls (short_front (expr_phrases e) (cases_phrases arms) two),
          case_few line lo bound tried (bound + 2) (next + 1) first arms ls2 otherwise (1 + 16 * else_nodes rest)
              (short_back (expr_phrases e) (cases_phrases arms) two)
              (λ next lo. else_few line next lo rest ls3 (short_back parts (else_phrases rest) h.1)),
        )
    stmt_few line at lo (Either x) ls h = let z = either_few line at lo x ls h.1 in omega (arith, z)
    stmt_few line at lo (Forall x y) ls h =
        let ls2 = behind (stmts_phrases x) ls in
        let a : Stmts = stmts_with x ls in
        let b : Stmts = stmts_with y ls2 in
        let inner : ℕ = behind_stmts p r (lo + 1) a in
        let one : List LineInstr = Templates.stmts_code p tables r (at + 1) (lo + 1) a in
        let next : ℕ = at + 1 + length one in
        let body : List LineInstr = Templates.stmts_code p tables r (next + 2) (inner + 1) b in
        let end : List LineInstr = own line (I.Cut inner ∷ I.Keep lo ∷ I.Fail ∷ []) in
        let each : List LineInstr = own line (I.Overlay lo (next + 2 + length body + 2) ∷ I.Mark inner ∷ []) ++ (body ++ end) in
        omega (
          arith,
          length-append (one ++ each) (own line (I.Finish ∷ [])),
          length-append one each,
          length-append body end,
          stmts_few (at + 1) (lo + 1) x ls (short_front (stmts_phrases x) (stmts_phrases y) h.1),
          stmts_few (next + 2) (inner + 1) y ls2 (short_back (stmts_phrases x) (stmts_phrases y) h.1),
        )
    stmt_few line at lo (Commit x) ls h =
        omega (
          arith,
          length-append (Templates.stmts_code p tables r (at + 1) (lo + 1) (stmts_with x ls)) (own line (I.Cut lo ∷ [])),
          stmts_few (at + 1) (lo + 1) x ls h.1,
        )
    stmt_few line at lo (Return no_result) ls h = omega arith
    stmt_few line at lo (Return (some_result e)) ls h =
        let y : Expr = expr_with e ls in
        let value : ℕ = Templates.value_at p tables r lo y in
        let last : List Instr = I.ReturnValue value ∷ [] in
        let fit : List Instr = Templates.fit_result p tables r (routine_at p r).result value in
        omega (
          arith,
          length-append (unless_bare (bare y) (Templates.expr_code p tables r line at lo y)) (own line (fit ++ last)),
          result_few line (routine_at p r).result value last,
          unless_few (bare y) (Templates.expr_code p tables r line at lo y),
          expr_few line at lo e ls h.1,
        )
    stmt_few line at lo (Read d how range) ls h =
        let y : Desig = desig_with d ls in
        omega (
          arith,
          length-append (held_code p tables r line at lo y)
              (own line (read_code how (Templates.held_at p tables r lo y) (range_number tables range) ∷ [])),
          held_few line at lo y (16 * desig_nodes d) (desig_few line at lo d ls h.1),
        )
    stmt_few line at lo (WriteExpr e how) ls h =
        let y : Expr = expr_with e ls in
        omega (
          arith,
          length-append (unless_bare (bare y) (Templates.expr_code p tables r line at lo y))
              (own line (write_code how (Templates.value_at p tables r lo y) ∷ [])),
          unless_few (bare y) (Templates.expr_code p tables r line at lo y),
          expr_few line at lo e ls h.1,
        )
    stmt_few line at lo (WriteText text) ls h = omega arith
    stmt_few line at lo WriteLine ls h = omega arith

    if_few :
        (line at lo : ℕ) (arms : Arms) (ls : List ℕ) (otherwise : (at lo : ℕ) → List LineInstr) (n : ℕ) → AreShort (arms_phrases arms)
        → ((at lo : ℕ) → length (otherwise at lo) ≤ n)
        → length (Templates.if_code p tables r line at lo (arms_with arms ls) otherwise) ≤ 16 * arms_nodes arms + n
    if_few line at lo no_arms ls otherwise n h o = let z = o at lo in omega (arith, z)
    if_few line at lo (more_arms t body rest) ls otherwise n h o =
        let parts = test_phrases t ++ stmts_phrases body in
        let two = short_front parts (arms_phrases rest) h in
        let ls2 = behind (test_phrases t) ls in
        let ls3 = behind (stmts_phrases body) ls2 in
        let u : Test = test_with t ls in
        let y : Stmts = stmts_with body ls2 in
        let lo2 : ℕ = behind_condition p r lo u in
        let z =
        asked_few line at lo 1 u (16 * test_nodes t)
        (λ at lo none. jump_few line at lo none t ls (short_front (test_phrases t) (stmts_phrases body) two))
        (λ at lo. test_few line at lo t ls (short_front (test_phrases t) (stmts_phrases body) two))
        (λ next. Templates.stmts_code p tables r next lo2 y) (16 * stmts_nodes body)
        (λ next. stmts_few next lo2 body ls2 (short_back (test_phrases t) (stmts_phrases body) two)) in
        let one : List LineInstr = guard_code at 1 (λ none. condition (is_simple u) line at lo none
        (λ at lo none. Templates.jump_code p tables r line at lo none u) (λ at lo. Templates.test_code p tables r line at lo u))
        (λ next. Templates.stmts_code p tables r next lo2 y) in
        let jump : ℕ = at + length one in
        let lo3 : ℕ = behind_stmts p r lo2 y in
        let others : List LineInstr = Templates.arms_code p tables r line jump (jump + 1) lo3 (arms_with rest ls3) otherwise in
        omega (
          arith,
          z,
          length-append one (own line (I.Jump (jump + 1 + length others) ∷ []) ++ others),
          arms_few line jump (jump + 1) lo3 rest ls3 otherwise n (short_back parts (arms_phrases rest) h) o,
        )

    arms_few :
        (line jump at lo : ℕ) (arms : Arms) (ls : List ℕ) (otherwise : (at lo : ℕ) → List LineInstr) (n : ℕ) → AreShort (arms_phrases arms)
        → ((at lo : ℕ) → length (otherwise at lo) ≤ n)
        → length (Templates.arms_code p tables r line jump at lo (arms_with arms ls) otherwise) ≤ 16 * arms_nodes arms + n
    arms_few line jump at lo no_arms ls otherwise n h o = let z = o at lo in omega (arith, z)
    arms_few line jump at lo (more_arms t body rest) ls otherwise n h o =
        let parts = test_phrases t ++ stmts_phrases body in
        let two = short_front parts (arms_phrases rest) h in
        let ls2 = behind (test_phrases t) ls in
        let ls3 = behind (stmts_phrases body) ls2 in
        let u : Test = test_with t ls in
        let y : Stmts = stmts_with body ls2 in
        let lo2 : ℕ = behind_condition p r lo u in
        let z =
        asked_few line at lo 1 u (16 * test_nodes t)
        (λ at lo none. jump_few line at lo none t ls (short_front (test_phrases t) (stmts_phrases body) two))
        (λ at lo. test_few line at lo t ls (short_front (test_phrases t) (stmts_phrases body) two))
        (λ next. Templates.stmts_code p tables r next lo2 y) (16 * stmts_nodes body)
        (λ next. stmts_few next lo2 body ls2 (short_back (test_phrases t) (stmts_phrases body) two)) in
        let one : List LineInstr = guard_code at 1 (λ none. condition (is_simple u) line at lo none
        (λ at lo none. Templates.jump_code p tables r line at lo none u) (λ at lo. Templates.test_code p tables r line at lo u))
        (λ next. Templates.stmts_code p tables r next lo2 y) in
        let end : List LineInstr = own line (I.Jump jump ∷ []) in
        let next : ℕ = at + length (one ++ end) in
        let lo3 : ℕ = behind_stmts p r lo2 y in
        omega (
          arith,
          z,
          length-append (one ++ end) (Templates.arms_code p tables r line jump next lo3 (arms_with rest ls3) otherwise),
          length-append one end,
          arms_few line jump next lo3 rest ls3 otherwise n (short_back parts (arms_phrases rest) h) o,
        )

    -- with the arms that are never tried, which stand at an address of their own
    case_few :
        (line value bound at lo at2 lo2 : ℕ) (arms : CaseArms) (ls : List ℕ) (otherwise : (at lo : ℕ) → List LineInstr) (n : ℕ)
        → AreShort (cases_phrases arms)
        → ((at lo : ℕ) → length (otherwise at lo) ≤ n)
        → length (Templates.dead_code p tables r at2 lo2 (cases_with arms ls))
        + length (Templates.case_code p tables r line value bound at lo (cases_with arms ls) otherwise) ≤ 16 * cases_nodes arms + n
    case_few line value bound at lo at2 lo2 no_cases ls otherwise n h o = let z = o at lo in omega (arith, z)
    case_few line value bound at lo at2 lo2 (more_cases [] body rest) ls otherwise n h o =
        let ls2 = behind (stmts_phrases body) ls in
        let y : Stmts = stmts_with body ls in
        let one : List LineInstr = Templates.stmts_code p tables r at2 lo2 y in
        let next : ℕ = at2 + length one in
        let lo3 : ℕ = behind_stmts p r lo2 y in
        let z = case_few line value bound at lo next lo3 rest ls2 otherwise n (short_back (stmts_phrases body) (cases_phrases rest) h) o in
        omega (
          arith,
          z,
          length-append one (Templates.dead_code p tables r next lo3 (cases_with rest ls2)),
          stmts_few at2 lo2 body ls (short_front (stmts_phrases body) (cases_phrases rest) h),
        )
    case_few line value bound at lo at2 lo2 (more_cases (label ∷ labels) body rest) ls otherwise n h o =
        let ls2 = behind (stmts_phrases body) ls in
        let y : Stmts = stmts_with body ls in
        let here : ℕ = behind_labels at label labels in
        let z = stmts_few here lo body ls (short_front (stmts_phrases body) (cases_phrases rest) h) in
        let w = arm_few line value bound at label labels (Templates.stmts_code p tables r here lo y) in
        let one : List LineInstr = case_arm line value bound at label labels (Templates.stmts_code p tables r here lo y) in
        let jump : ℕ = at + length one in
        let lo3 : ℕ = behind_stmts p r lo y in
        let others : List LineInstr = Templates.cases_code p tables r line value bound jump (jump + 1) lo3 (cases_with rest ls2) otherwise
        in
        omega (
          arith,
          z,
          w,
          length-append one (own line (I.Jump (jump + 1 + length others) ∷ []) ++ others),
          cases_few line value bound jump (jump + 1) lo3 at2 lo2 rest ls2 otherwise n
              (short_back (stmts_phrases body) (cases_phrases rest) h) o,
        )

    cases_few :
        (line value bound jump at lo at2 lo2 : ℕ) (arms : CaseArms) (ls : List ℕ) (otherwise : (at lo : ℕ) → List LineInstr) (n : ℕ)
        → AreShort (cases_phrases arms)
        → ((at lo : ℕ) → length (otherwise at lo) ≤ n)
        → length (Templates.dead_code p tables r at2 lo2 (cases_with arms ls))
        + length (Templates.cases_code p tables r line value bound jump at lo (cases_with arms ls) otherwise) ≤ 16 * cases_nodes arms
        + n
    cases_few line value bound jump at lo at2 lo2 no_cases ls otherwise n h o = let z = o at lo in omega (arith, z)
    cases_few line value bound jump at lo at2 lo2 (more_cases [] body rest) ls otherwise n h o =
        let ls2 = behind (stmts_phrases body) ls in
        let y : Stmts = stmts_with body ls in
        let one : List LineInstr = Templates.stmts_code p tables r at2 lo2 y in
        let next : ℕ = at2 + length one in
        let lo3 : ℕ = behind_stmts p r lo2 y in
        let z = cases_few line value bound jump at lo next lo3 rest ls2 otherwise n (short_back (stmts_phrases body) (cases_phrases rest) h)
        o in
        omega (
          arith,
          z,
          length-append one (Templates.dead_code p tables r next lo3 (cases_with rest ls2)),
          stmts_few at2 lo2 body ls (short_front (stmts_phrases body) (cases_phrases rest) h),
        )
    cases_few line value bound jump at lo at2 lo2 (more_cases (label ∷ labels) body rest) ls otherwise n h o =
        let ls2 = behind (stmts_phrases body) ls in
        let y : Stmts = stmts_with body ls in
        let here : ℕ = behind_labels at label labels in
        let z = stmts_few here lo body ls (short_front (stmts_phrases body) (cases_phrases rest) h) in
        let w = arm_few line value bound at label labels (Templates.stmts_code p tables r here lo y) in
        let one : List LineInstr = case_arm line value bound at label labels (Templates.stmts_code p tables r here lo y) in
        let end : List LineInstr = own line (I.Jump jump ∷ []) in
        let next : ℕ = at + length (one ++ end) in
        let lo3 : ℕ = behind_stmts p r lo y in
        omega (
          arith,
          z,
          w,
          length-append (one ++ end) (Templates.cases_code p tables r line value bound jump next lo3 (cases_with rest ls2) otherwise),
          length-append one end,
          cases_few line value bound jump next lo3 at2 lo2 rest ls2 otherwise n (short_back (stmts_phrases body) (cases_phrases rest) h) o,
        )

    else_few : (line at lo : ℕ) (rest : Else) (ls : List ℕ) → AreShort (else_phrases rest)
        → length (Templates.else_code p tables r line at lo (else_with rest ls)) ≤ 1 + 16 * else_nodes rest
    else_few line at lo no_else ls h = omega arith
    else_few line at lo (else_part body) ls h = let z = stmts_few at lo body ls h in omega (arith, z)

    either_few : (line at lo : ℕ) (x : Branches) (ls : List ℕ) → AreShort (branches_phrases x)
        → length (Templates.either_code p tables r line at lo (branches_with x ls)) ≤ 1 + 16 * branches_nodes x
    either_few line at lo no_branches ls h = omega arith
    either_few line at lo (more_branches body no_branches) ls h = let z = stmts_few at lo body ls (short_front (stmts_phrases body) [] h) in
        omega (arith, z)
    either_few line at lo (more_branches body (more_branches body2 rest)) ls h =
        let ls2 = behind (stmts_phrases body) ls in
        let y : Stmts = stmts_with body ls in
        let others : Branches = more_branches body2 rest in
        let x : List LineInstr = Templates.stmts_code p tables r (at + 1) lo y in
        let one : List LineInstr = branch_code line (at + 1) x in
        let jump : ℕ = at + length one in
        let lo2 : ℕ = behind_stmts p r lo y in
        let two : List LineInstr = Templates.branches_code p tables r line jump (jump + 1) lo2 (branches_with others ls2) in
        omega (
          arith,
          length-append one (own line (I.Jump (jump + 1 + length two) ∷ []) ++ two),
          stmts_few (at + 1) lo body ls (short_front (stmts_phrases body) (branches_phrases others) h),
          branches_few line jump (jump + 1) lo2 (more_branches body2 rest) ls2
              (short_back (stmts_phrases body) (branches_phrases others) h),
        )

    branches_few : (line jump at lo : ℕ) (x : Branches) (ls : List ℕ) → AreShort (branches_phrases x)
        → length (Templates.branches_code p tables r line jump at lo (branches_with x ls)) ≤ 16 * branches_nodes x
    branches_few line jump at lo no_branches ls h = omega arith
    branches_few line jump at lo (more_branches body no_branches) ls h = let z =
        stmts_few at lo body ls (short_front (stmts_phrases body) [] h) in omega (arith, z)
    branches_few line jump at lo (more_branches body (more_branches body2 rest)) ls h =
        let ls2 = behind (stmts_phrases body) ls in
        let y : Stmts = stmts_with body ls in
        let others : Branches = more_branches body2 rest in
        let x : List LineInstr = Templates.stmts_code p tables r (at + 1) lo y in
        let one : List LineInstr = branch_code line (at + 1) x in
        let end : List LineInstr = own line (I.Jump jump ∷ []) in
        let next : ℕ = at + length (one ++ end) in
        let lo2 : ℕ = behind_stmts p r lo y in
        omega (
          arith,
          length-append (one ++ end) (Templates.branches_code p tables r line jump next lo2 (branches_with others ls2)),
          length-append one end,
          stmts_few (at + 1) lo body ls (short_front (stmts_phrases body) (branches_phrases others) h),
          branches_few line jump next lo2 (more_branches body2 rest) ls2 (short_back (stmts_phrases body) (branches_phrases others) h),
        )

    for_few : (line at lo : ℕ) (l : Loop) (ls : List ℕ) → AreShort (loop_phrases l)
        → length (Templates.for_code p tables r line at lo (loop_with l ls)) ≤ 10 + 16 * loop_nodes l
    for_few line at lo (a_loop d range counter limit from to by body) ls h =
        let bounds = (desig_phrases d ++ expr_phrases from) ++ expr_phrases to in
        let three = short_front bounds (stmts_phrases body) h in
        let two = short_front (desig_phrases d ++ expr_phrases from) (expr_phrases to) three in
        let ls2 = behind (desig_phrases d) ls in
        let ls3 = behind (expr_phrases from) ls2 in
        let ls4 = behind (expr_phrases to) ls3 in
        let y : Desig = desig_with d ls in
        let a : Expr = expr_with from ls2 in
        let b : Expr = expr_with to ls3 in
        let last : ℕ = behind_expr p r (lo + 1) a in
        let place : ℕ = behind_expr p r last b in
        let value : List LineInstr = Templates.expr_code p tables r line (at + 1) (lo + 1) a in
        let one : List LineInstr = unless_constant (constant a) value in
        let at2 : ℕ = at + 1 + length one in
        let limit_value : List LineInstr = Templates.expr_code p tables r line at2 last b in
        let c : ℕ = Templates.own_slot p tables r counter in
        let l : ℕ = Templates.own_slot p tables r limit in
        let both : List LineInstr = limit_code (ends_alone b) line l (Templates.value_at p tables r last b)
        (unless_bare (bare b) limit_value)
        in
        let begin : List LineInstr = begin_loop line at lo by
        (λ at. unless_constant (constant a) (Templates.expr_code p tables r line at (lo + 1) a))
        (λ at. limit_code (ends_alone b) line l (Templates.value_at p tables r last b)
        (unless_bare (bare b) (Templates.expr_code p tables r line at last b))) in
        let next : ℕ = at + length begin in
        let lo2 : ℕ = behind_variable p r place y in
        let turn : List LineInstr = turn_code line (next + 3) (Templates.count_code p tables r (bare_desig y) range c place)
        (λ at. unless_bare (bare_desig y) (held_code p tables r line at (place + 1) y))
        (Templates.set_code p tables r (place + 1) (Templates.count_at p tables r (bare_desig y) c place) y)
        (λ at. Templates.stmts_code p tables r at lo2 (stmts_with body ls4)) in
        let out : ℕ = next + 3 + length turn + 2 in
        let end : List LineInstr = own line (I.Step c l lo out ∷ I.Jump (next + 3) ∷ []) in
        omega (
          arith,
          length-append begin (for_turns line next by (constant a) c l lo (lo + 1) turn),
          length-append one both,
          constant_few (constant a) value,
          limit_few (ends_alone b) line l (Templates.value_at p tables r last b) (unless_bare (bare b) limit_value),
          unless_few (bare b) limit_value,
          length-append turn end,
          expr_few line (at + 1) (lo + 1) from ls2 (short_back (desig_phrases d) (expr_phrases from) two),
          expr_few line at2 last to ls3 (short_back (desig_phrases d ++ expr_phrases from) (expr_phrases to) three),
          turn_few line (next + 3) c place y range (λ at. Templates.stmts_code p tables r at lo2 (stmts_with body ls4)) (16 * desig_nodes d)
              (16 * stmts_nodes body) (λ at. desig_few line at (place + 1) d ls (short_front (desig_phrases d) (expr_phrases from) two))
              (λ at. stmts_few at lo2 body ls4 (short_back bounds (stmts_phrases body) h)),
        )

    some_few : (line at lo : ℕ) (l : Loop) (ls : List ℕ) → AreShort (loop_phrases l)
        → length (Templates.some_code p tables r line at lo (loop_with l ls)) ≤ 16 + 16 * loop_nodes l
    some_few line at lo (a_loop d range counter limit from to by body) ls h =
        let bounds = (desig_phrases d ++ expr_phrases from) ++ expr_phrases to in
        let three = short_front bounds (stmts_phrases body) h in
        let two = short_front (desig_phrases d ++ expr_phrases from) (expr_phrases to) three in
        let ls2 = behind (desig_phrases d) ls in
        let ls3 = behind (expr_phrases from) ls2 in
        let ls4 = behind (expr_phrases to) ls3 in
        let y : Desig = desig_with d ls in
        let a : Expr = expr_with from ls2 in
        let b : Expr = expr_with to ls3 in
        let last : ℕ = behind_expr p r (lo + 1) a in
        let more : ℕ = behind_expr p r last b in
        let value : List LineInstr = Templates.expr_code p tables r line (at + 1) (lo + 1) a in
        let one : List LineInstr = unless_constant (constant a) value in
        let at2 : ℕ = at + 1 + length one in
        let limit_value : List LineInstr = Templates.expr_code p tables r line at2 last b in
        let c : ℕ = Templates.own_slot p tables r counter in
        let l : ℕ = Templates.own_slot p tables r limit in
        let both : List LineInstr = limit_code (ends_alone b) line l (Templates.value_at p tables r last b)
        (unless_bare (bare b) limit_value)
        in
        let begin : List LineInstr = begin_loop line at lo (pos 1)
        (λ at. unless_constant (constant a) (Templates.expr_code p tables r line at (lo + 1) a))
        (λ at. limit_code (ends_alone b) line l (Templates.value_at p tables r last b)
        (unless_bare (bare b) (Templates.expr_code p tables r line at last b))) in
        let next : ℕ = at + length begin in
        let lo2 : ℕ = behind_variable p r (more + 1) y in
        let turn : List LineInstr = turn_code line (next + 8) (Templates.count_code p tables r (bare_desig y) range c (more + 1))
        (λ at. unless_bare (bare_desig y) (held_code p tables r line at (more + 1 + 1) y))
        (Templates.set_code p tables r (more + 1 + 1) (Templates.count_at p tables r (bare_desig y) c (more + 1)) y)
        (λ at. Templates.stmts_code p tables r at lo2 (stmts_with body ls4)) in
        omega (
          arith,
          length-append begin (some_turns line next (constant a) c l lo (lo + 1) more turn),
          length-append one both,
          constant_few (constant a) value,
          limit_few (ends_alone b) line l (Templates.value_at p tables r last b) (unless_bare (bare b) limit_value),
          unless_few (bare b) limit_value,
          expr_few line (at + 1) (lo + 1) from ls2 (short_back (desig_phrases d) (expr_phrases from) two),
          expr_few line at2 last to ls3 (short_back (desig_phrases d ++ expr_phrases from) (expr_phrases to) three),
          turn_few line (next + 8) c (more + 1) y range (λ at. Templates.stmts_code p tables r at lo2 (stmts_with body ls4))
              (16 * desig_nodes d) (16 * stmts_nodes body)
              (λ at. desig_few line at (more + 1 + 1) d ls (short_front (desig_phrases d) (expr_phrases from) two))
              (λ at. stmts_few at lo2 body ls4 (short_back bounds (stmts_phrases body) h)),
        )
