-- The table of lines of a code has at most two records for each node: to walk over the code of a phrase from its line and
-- back takes at most two steps for each node in it.
use Rattle.std.proofs.Common.{◌≡◌, ℕ, suc, ◌+◌, ◌*◌, ◌≤◌, Bool, true, false, List, [], ◌∷◌, ◌++◌, length, Option, Some, None, ℤ, pos, refl}
use Rattle.std.proofs.Common.{sym, ap, ◌∙◌, subst, arith}
use Rattle.std.specs.Prelude.{nat_eq}
use Rattle.std.proofs.lemmas.Bool.{eq-eqb, eqb-true}
use Rattle.alma_base.specs.Choice.{if_true}
use Rattle.alma_base.specs.declared.number.Range.{Range}
use Rattle.alma_code.specs.declared.instr.Instr.{Instr}
use Rattle.alma_code.specs.declared.instr.Instr.TheVariants as I
use Rattle.alma_ir.specs.declared.phrase.Cmp.TheVariants as cmp
use Rattle.alma_ir.specs.Tree.{Stmts, Stmt, Arms, CaseArms, Else, Branches, Loop, Test, Tests, Expr, Links, Args, Arg, Desig, Sels, Sel}
use Rattle.alma_ir.specs.Tree.{Program, routine_at, no_stmts, more_stmts, TestStmt, Assign, CopyCells, If, While, Repeat, ForTo, SomeOf}
use Rattle.alma_ir.specs.Tree.{Case, Either, Forall, Commit, Return, Read, WriteExpr, WriteText, WriteLine, no_arms, more_arms, no_cases}
use Rattle.alma_ir.specs.Tree.{more_cases, no_else, else_part, no_branches, more_branches, a_loop, no_result, some_result, Value, Bind}
use Rattle.alma_ir.specs.Tree.{Unify, SameCells, Seq, And, Or, Not, CallTest, no_tests, more_tests, Const, Load, Chain, Compare, Truth}
use Rattle.alma_ir.specs.Tree.{Known, Chr, CallExpr, no_links, more_links, no_args, more_args, ByValue, ByCells, ByPlace, MixValue}
use Rattle.alma_ir.specs.Tree.{MixPlace, a_desig, no_sels, more_sels, Field, Index}
use Rattle.alma_ir.specs.Count.{stmts_nodes, stmt_nodes, arms_nodes, cases_nodes, else_nodes, branches_nodes, loop_nodes, test_nodes}
use Rattle.alma_ir.specs.Count.{tests_nodes, expr_nodes, links_nodes, args_nodes, arg_nodes, desig_nodes, sels_nodes, sel_nodes}
use Rattle.alma_lower_templates.proofs.Tested.{compared_code, Tested, tested, as_value, as_unequal}
use Rattle.alma_lower_templates.proofs.Turned.{Turned, compares_two, turned, while_code}
use Rattle.alma_lower_templates.specs.LineInstr.{LineInstr, own, leaving, line_from, lines_from}
use Rattle.alma_lower_templates.specs.Tables.{Tables, range_number, text_number}
use Rattle.alma_lower_templates.specs.Pieces.{condition, guard_code, branch_code, first_of_two, not_code, fit_code, neg_code, op_code}
use Rattle.alma_lower_templates.specs.Pieces.{cmp_code}
use Rattle.alma_lower_templates.specs.Pieces.{unequal_code, opposite_code, write_code, read_code, case_arm, passed_over, has_dead}
use Rattle.alma_lower_templates.specs.Pieces.{behind_labels, aim, aim_place, with_last}
use Rattle.alma_lower_templates.specs.Pieces.{labels_code, begin_loop, bounds_code, for_turns, some_turns, turn_code, each_body}
use Rattle.alma_lower_templates.specs.Pieces.{forall_code, straight, count_from, unless_constant, limit_code, put_code, held_or}
use Rattle.alma_lower_templates.specs.Pieces.{held_code as constant_code}
use Rattle.alma_lower_templates.specs.Slots.{bare, bare_desig, stays, stays_in, taken_from, unless_bare, is_simple, is_turned, handed_slots}
use Rattle.alma_lower_templates.specs.Slots.{arg_slots}
use Rattle.alma_lower_templates.proofs.Placed.{handed_is}
use Rattle.alma_lower_templates.specs.Slots.{behind_expr, behind_dead, behind_value, behind_desig, behind_target, behind_variable}
use Rattle.alma_lower_templates.specs.Slots.{behind_test, behind_stmts, behind_stmt, behind_condition, own_place, own_root, goes_straight}
use Rattle.alma_lower_templates.specs.Slots.{constant, ends_alone, is_straight, held_constant, behind_held}
use Rattle.alma_base.specs.Numbers.{char_range}
use Rattle.alma_lower_templates.specs.Templates.{own_slot, slot_or, value_at, part_slot, behind_root, root_code}
use Rattle.alma_lower_templates.specs.Templates.{call_link_code, arguments_from, call_code, set_code, load_code, count_at, count_code}
use Rattle.alma_lower_templates.specs.Templates.{fit_result, stmts_code, stmt_code, if_code, arms_code, for_code, some_code, dead_code}
use Rattle.alma_lower_templates.specs.Templates.{case_code, cases_code, else_code, either_code, branches_code, test_code, and_code, or_code}
use Rattle.alma_lower_templates.specs.Templates.{operands_code, jump_code, expr_code, links_code, args_code, arg_code, desig_code}
use Rattle.alma_lower_templates.specs.Templates.{sels_code, sel_code, held_at, set_to, back_code}
use Rattle.alma_lower_templates.proofs.FormRuns.{held_code}

-- ---- walks

-- a step from one line to another
unfoldable pub hop : (from to : ℕ) → ℕ
hop from to = if_true (nat_eq to from) (λ _. 0) (λ _. 1)

pub hop_few : (a b : ℕ) → hop a b ≤ 1
unfolding hop
hop_few a b = by (nat_eq b a)
  where
    by : (t : Bool) → if_true t (λ _. 0) (λ _. 1) ≤ 1
    by true = omega arith
    by false = omega arith

hop_none : (a : ℕ) → hop a a ≡ 0
unfolding hop
hop_none a = ap (λ t. if_true t (λ _. 0) (λ _. 1)) (eq-eqb a a refl)

hop_one : (a b : ℕ) → nat_eq b a ≡ false → hop a b ≡ 1
unfolding hop
hop_one a b e = ap (λ t. if_true t (λ _. 0) (λ _. 1)) e

hop_over : (a b c : ℕ) → hop a c ≤ hop a b + hop b c
hop_over a b c = by (nat_eq b a) refl (nat_eq c b) refl
  where
    by : (s : Bool) → nat_eq b a ≡ s → (t : Bool) → nat_eq c b ≡ t → hop a c ≤ hop a b + hop b c
    by false e t e2 = omega (arith, hop_one a b e, hop_few a c)
    by true e false e2 = omega (arith, hop_one b c e2, hop_few a c)
    by true e true e2 = subst (λ n. hop a n ≤ hop a b + hop b n) (sym (eqb-true c b e2)) (omega (arith, hop_none b))

-- from a line through those of the code to another
abbrev pub walk : (from : ℕ) → List LineInstr → (to : ℕ) → ℕ
walk from [] to = hop from to
walk from (x ∷ xs) to = hop from x.line + walk x.line xs to

-- the table has no more records than a walk has steps
pub records_few : (at from : ℕ) (xs : List LineInstr) (to : ℕ) → length (lines_from at from xs) ≤ walk from xs to
unfolding hop
records_few at from [] to = omega arith
records_few at from (x ∷ xs) to = by (nat_eq x.line from) (records_few (suc at) x.line xs to)
  where
    by : (t : Bool) → length (lines_from (suc at) x.line xs) ≤ walk x.line xs to
        → length (line_from t at x.line (lines_from (suc at) x.line xs)) ≤ if_true t (λ _. 0) (λ _. 1) + walk x.line xs to
    by true rest = omega (arith, rest)
    by false rest = omega (arith, rest)

pub from_other : (a b : ℕ) (xs : List LineInstr) (to : ℕ) → walk a xs to ≤ hop a b + walk b xs to
from_other a b [] to = hop_over a b to
from_other a b (x ∷ xs) to = omega (arith, hop_over a b x.line)

pub walk_two : (a b c : ℕ) (xs ys : List LineInstr) → walk a (xs ++ ys) c ≤ walk a xs b + walk b ys c
walk_two a b c [] ys = from_other a b ys c
walk_two a b c (x ∷ xs) ys = omega (arith, walk_two x.line b c xs ys)

to_other : (a b c : ℕ) (xs : List LineInstr) → walk a xs c ≤ walk a xs b + hop b c
to_other a b c [] = hop_over a b c
to_other a b c (x ∷ xs) = omega (arith, to_other x.line b c xs)

-- code of one line within that of another
around : (a line c : ℕ) (xs : List LineInstr) → walk a xs c ≤ 2 + walk line xs line
around a line c xs = omega (arith, from_other a line xs c, to_other line line c xs, hop_few a line, hop_few line c)

-- code with its last instruction changed
last_walk : (change : Instr → Instr) (from line : ℕ) (xs : List LineInstr) → walk from (with_last change xs) line ≡ walk from xs line
last_walk change from line [] = refl
last_walk change from line (x ∷ []) = refl
last_walk change from line (x ∷ (y ∷ rest)) = ap (λ n. hop from x.line + n) (last_walk change x.line line (y ∷ rest))

straight_walk : (from to line : ℕ) (xs : List LineInstr) → walk from (straight to xs) line ≡ walk from xs line
straight_walk from to line xs = last_walk (aim to) from line xs

module _ (line : ℕ) where
  -- from a line and back to it
  abbrev pub round : List LineInstr → ℕ
  round xs = walk line xs line

  own_round : (xs : List Instr) → round (own line xs) ≡ 0
  own_round [] = hop_none line
  own_round (x ∷ xs) = omega (arith, hop_none line, own_round xs)

  both : (a b : List LineInstr) → round (a ++ b) ≤ round a + round b
  both a b = walk_two line line line a b

  pub then_own : (a : List LineInstr) (xs : List Instr) → round (a ++ own line xs) ≤ round a
  then_own a xs = omega (arith, both a (own line xs), own_round xs)

  -- instructions of the line at its end add nothing
  ends_alike : (from : ℕ) (a : List LineInstr) (xs : List Instr) → walk from (a ++ own line xs) line ≡ walk from a line
  ends_alike from [] [] = refl
  ends_alike from [] (x ∷ xs) = omega (arith, own_round xs)
  ends_alike from (y ∷ a) xs = ap (λ n. hop from y.line + n) (ends_alike y.line a xs)

  own_then : (xs : List Instr) (a : List LineInstr) → round (own line xs ++ a) ≤ round a
  own_then xs a = omega (arith, both (own line xs) a, own_round xs)

  unless_round : (o : Option ℕ) (c : List LineInstr) → round (unless_bare o c) ≤ round c
  unless_round (Some n) c = omega (arith, hop_none line, at_least c)
    where
      at_least : (xs : List LineInstr) → 0 ≤ round xs
      at_least xs = omega arith
  unless_round None c = omega arith

  leaving_round : (at : ℕ) (a : List LineInstr) (rest : (at jump : ℕ) → List LineInstr)
      → round (leaving line at a rest) ≤ round a + round (rest (at + length a + 1) (at + length a))
  leaving_round at a rest =
      let jump : ℕ = at + length a in
      let b : List LineInstr = rest (jump + 1) jump in
      let over : List Instr = I.Jump (jump + 1 + length b) ∷ [] in
      omega (arith, both a (own line over ++ b), own_then over b)

  by_jump_round : (jump : ℕ) (a b : List LineInstr) → round ((a ++ own line (I.Jump jump ∷ [])) ++ b) ≤ round a + round b
  by_jump_round jump a b = omega (arith, both (a ++ own line (I.Jump jump ∷ [])) b, then_own a (I.Jump jump ∷ []))

  condition_round : (simple : Bool) (at lo none : ℕ) (jump : (at lo none : ℕ) → List LineInstr) (test : (at lo : ℕ) → List LineInstr)
      (n : ℕ)
      → round (jump at lo none) ≤ n → round (test (at + 2) (lo + 1)) ≤ n → round (condition simple line at lo none jump test) ≤ n
  condition_round true at lo none jump test n j t = j
  condition_round false at lo none jump test n j t =
      let inner : List LineInstr = test (at + 2) (lo + 1) in
      omega (arith, t, own_then (I.Mark lo ∷ I.Choose none ∷ []) (inner ++ own line (I.Cut lo ∷ [])), then_own inner (I.Cut lo ∷ []))

  guarded_round : (at skipped : ℕ) (cond : (none : ℕ) → List LineInstr) (body : (at : ℕ) → List LineInstr) (m n : ℕ)
      → ((none : ℕ) → round (cond none) ≤ m) → ((at : ℕ) → round (body at) ≤ n) → round (guard_code at skipped cond body) ≤ m + n
  guarded_round at skipped cond body m n c b =
      let behind : ℕ = at + length (cond 0) in
      let inner : List LineInstr = body behind in
      let none : ℕ = behind + length inner + skipped in
      let x = c none in
      let y = b behind in
      omega (arith, x, y, both (cond none) inner)

  chosen_round : (at : ℕ) (a : List LineInstr) → round (branch_code line at a) ≤ round a
  chosen_round at a = own_then (I.Choose (at + length a + 1) ∷ []) a

  first_round : (at mark : ℕ) (a : List LineInstr) → round (first_of_two line at mark a) ≤ round a
  first_round at mark a = omega (
    arith,
    own_then (I.Mark mark ∷ I.Choose (at + length a + 2) ∷ []) (a ++ own line (I.Cut mark ∷ [])),
    then_own a (I.Cut mark ∷ []),
  )

  refused_round : (at mark : ℕ) (a : List LineInstr) → round (not_code line at mark a) ≤ round a
  refused_round at mark a = omega (
    arith,
    own_then (I.Mark mark ∷ I.Choose (at + length a + 2) ∷ [])
        (a ++ own line (I.Cut mark ∷ I.Fail ∷ [])),
    then_own a (I.Cut mark ∷ I.Fail ∷ []),
  )

  each_round : (at mark inner : ℕ) (a : List LineInstr) → round (each_body line at mark inner a) ≤ round a
  each_round at mark inner a =
      omega (
        arith,
        own_then (I.Overlay mark (at + length a + 2) ∷ I.Mark inner ∷ [])
            (a ++ own line (I.Cut inner ∷ I.Keep mark ∷ I.Fail ∷ [])),
        then_own a (I.Cut inner ∷ I.Keep mark ∷ I.Fail ∷ []),
      )

  forall_round : (at mark : ℕ) (a : List LineInstr) → round (forall_code line at mark a) ≤ round a
  forall_round at mark a = omega (
    arith,
    own_then (I.Forall mark (at + length a) ∷ []) (a ++ own line (I.Finish ∷ [])),
    then_own a (I.Finish ∷ []),
  )

  -- the jump over code that is never reached
  over_round : (has : Bool) (at : ℕ) (a : List LineInstr) → round (passed_over has line at a) ≤ round a
  over_round false at a = omega (arith, hop_none line)
  over_round true at a = own_then (I.Jump (at + 1 + length a) ∷ []) a

  arm_round : (value bound at : ℕ) (label : Range) (rest : List Range) (a : List LineInstr)
      → round (case_arm line value bound at label rest a) ≤ round a
  arm_round value bound at label rest a = own_then
      (labels_code value bound at (behind_labels at label rest) (behind_labels at label rest + length a + 1) label rest) a

  begin_round : (at step : ℕ) (by : ℤ) (from to : (at : ℕ) → List LineInstr) (m n : ℕ) → ((at : ℕ) → round (from at) ≤ m)
      → ((at : ℕ) → round (to at) ≤ n) → round (begin_loop line at step by from to) ≤ m + n
  begin_round at step by from to m n f g =
      let one : List LineInstr = from (at + 1) in
      let two : List LineInstr = to (at + 1 + length one) in
      let x = f (at + 1) in
      let y = g (at + 1 + length one) in
      omega (arith, x, y, own_then (I.Const step by ∷ []) (one ++ two), both one two)

  turn_round : (at : ℕ) (check : List Instr) (locate : (at : ℕ) → List LineInstr) (store : Instr) (body : (at : ℕ) → List LineInstr)
      (m n : ℕ)
      → ((at : ℕ) → round (locate at) ≤ m) → ((at : ℕ) → round (body at) ≤ n) → round (turn_code line at check locate store body) ≤ m + n
  turn_round at check locate store body m n l b =
      let at1 : ℕ = at + length (own line check) in
      let one : List LineInstr = locate at1 in
      let at2 : ℕ = at1 + length one in
      let two : List LineInstr = body (at2 + 1) in
      let x = l at1 in
      let y = b (at2 + 1) in
      omega (
        arith,
        x,
        y,
        own_then check (one ++ (own line (store ∷ []) ++ two)),
        both one (own line (store ∷ []) ++ two),
        own_then (store ∷ []) two,
      )

  for_round : (at : ℕ) (by : ℤ) (o : Option ℤ) (counter limit step first : ℕ) (a : List LineInstr)
      → round (for_turns line at by o counter limit step first a) ≤ round a
  for_round at by o counter limit step first a =
      let exit : ℕ = at + 3 + length a + 2 in
      omega (
        arith,
        own_then (bounds_code by o counter limit first exit) (a ++ own line (I.Step counter limit step exit ∷ I.Jump (at + 3) ∷ [])),
        then_own a (I.Step counter limit step exit ∷ I.Jump (at + 3) ∷ []),
      )

  some_round : (at : ℕ) (o : Option ℤ) (counter limit step first more : ℕ) (a : List LineInstr)
      → round (some_turns line at o counter limit step first more a) ≤ round a
  some_round at o counter limit step first more a = own_then
      (count_from o counter first ∷ I.LessEq first counter limit ∷ I.Check first ∷ I.Jump (at + 5) ∷ I.Add counter counter step
      ∷ I.Less more counter limit ∷ I.JumpZero more (at + 8) ∷ I.Choose (at + 4) ∷ []) a

  -- a number that goes to a slot
  put_round : (z : Bool) (to value : ℕ) (check : List Instr) (a : List LineInstr) → round (put_code z line to value check a) ≤ round a
  put_round true to value check a = omega (arith, straight_walk line to line a)
  put_round false to value check a = then_own a (check ++ (I.Move to value ∷ []))

  -- a first count that may be a constant, and a limit that goes to its slot
  constant_round : (o : Option ℤ) (a : List LineInstr) → round (unless_constant o a) ≤ round a
  constant_round (Some n) a = omega (arith, hop_none line)
  constant_round None a = omega arith

  limit_round : (z : Bool) (limit value : ℕ) (a : List LineInstr) → round (limit_code z line limit value a) ≤ round a
  limit_round z limit value a = put_round z limit value [] a

-- ---- the arms of CASE

-- the nodes of the bodies that have no label
abbrev dead_nodes : CaseArms → ℕ
dead_nodes no_cases = 0
dead_nodes (more_cases [] body rest) = stmts_nodes body + dead_nodes rest
dead_nodes (more_cases (label ∷ labels) body rest) = dead_nodes rest

-- and of those that have some
abbrev live_nodes : CaseArms → ℕ
live_nodes no_cases = 0
live_nodes (more_cases [] body rest) = live_nodes rest
live_nodes (more_cases (label ∷ labels) body rest) = stmts_nodes body + live_nodes rest

all_nodes : (x : CaseArms) → dead_nodes x + live_nodes x ≤ cases_nodes x
all_nodes no_cases = omega arith
all_nodes (more_cases [] body rest) = omega (arith, all_nodes rest)
all_nodes (more_cases (label ∷ labels) body rest) = omega (arith, all_nodes rest)

module _ (p : Program) (tables : Tables) (r : ℕ) where
  abbrev condition_code : (line at lo none : ℕ) → Test → List LineInstr
  condition_code line at lo none t = condition (is_simple t) line at lo none (λ at lo none. jump_code p tables r line at lo none t)
      (λ at lo. test_code p tables r line at lo t)

  abbrev guarded_code : (line at lo skipped : ℕ) → Test → ((at : ℕ) → List LineInstr) → List LineInstr
  guarded_code line at lo skipped t body = guard_code at skipped (λ none. condition_code line at lo none t) body

  abbrev turn_of : (line at counter lo : ℕ) → Desig → Range → ((at : ℕ) → List LineInstr) → List LineInstr
  turn_of line at counter lo d range body =
      turn_code line at (count_code p tables r (bare_desig d) range counter lo)
      (λ at. unless_bare (bare_desig d) (held_code p tables r line at (lo + 1) d))
      (set_code p tables r (lo + 1) (count_at p tables r (bare_desig d) counter lo) d) body

  -- ---- forms of several parts, given their parts

  -- a designator whose place is used
  held_round : (line at lo : ℕ) (d : Desig) (m : ℕ) → round line (desig_code p tables r line at lo d) ≤ m
      → round line (held_code p tables r line at lo d) ≤ m
  held_round line at lo d m h = omega (arith, h, unless_round line (own_place d) (desig_code p tables r line at lo d))

  decides : (line at lo none : ℕ) (t : Test) (n : ℕ) → round line (jump_code p tables r line at lo none t) ≤ n
      → round line (test_code p tables r line (at + 2) (lo + 1) t) ≤ n → round line (condition_code line at lo none t) ≤ n
  decides line at lo none t n j f = condition_round line (is_simple t) at lo none (λ at lo none. jump_code p tables r line at lo none t)
      (λ at lo. test_code p tables r line at lo t) n j f

  asked : (line at lo skipped : ℕ) (t : Test) (body : (at : ℕ) → List LineInstr) (m n : ℕ)
      → ((none : ℕ) → round line (jump_code p tables r line at lo none t) ≤ m)
      → ((at lo : ℕ) → round line (test_code p tables r line at lo t) ≤ m) → ((at : ℕ) → round line (body at) ≤ n)
      → round line (guarded_code line at lo skipped t body) ≤ m + n
  asked line at lo skipped t body m n j f b =
      guarded_round line at skipped (λ none. condition_code line at lo none t) body m n
      (λ none. decides line at lo none t m (j none) (f (at + 2) (lo + 1))) b

  turn : (line at counter lo : ℕ) (d : Desig) (range : Range) (body : (at : ℕ) → List LineInstr) (m n : ℕ)
      → ((at : ℕ) → round line (desig_code p tables r line at (lo + 1) d) ≤ m) → ((at : ℕ) → round line (body at) ≤ n)
      → round line (turn_of line at counter lo d range body) ≤ m + n
  turn line at counter lo d range body m n f b =
      turn_round line at (count_code p tables r (bare_desig d) range counter lo)
      (λ at. unless_bare (bare_desig d) (held_code p tables r line at (lo + 1) d))
      (set_code p tables r (lo + 1) (count_at p tables r (bare_desig d) counter lo) d) body m n located b
    where
      located : (at : ℕ) → round line (unless_bare (bare_desig d) (held_code p tables r line at (lo + 1) d)) ≤ m
      located at =
          let z = held_round line at (lo + 1) d m (f at) in
          omega (arith, z, unless_round line (bare_desig d) (held_code p tables r line at (lo + 1) d))

  -- the bounds of a loop
  abbrev limit_of : (line at lo limit : ℕ) → Expr → List LineInstr
  limit_of line at lo limit e =
      limit_code (ends_alone e) line limit (value_at p tables r lo e) (unless_bare (bare e) (expr_code p tables r line at lo e))

  first_below : (line : ℕ) (o : Option ℤ) (a : List LineInstr) (n : ℕ) → round line a ≤ n → round line (unless_constant o a) ≤ n
  first_below line o a n h = omega (arith, h, constant_round line o a)

  limit_below : (line at lo limit : ℕ) (e : Expr) (n : ℕ) → round line (expr_code p tables r line at lo e) ≤ n
      → round line (limit_of line at lo limit e) ≤ n
  limit_below line at lo limit e n h =
      let value : List LineInstr = expr_code p tables r line at lo e in
      omega (
        arith,
        h,
        unless_round line (bare e) value,
        limit_round line (ends_alone e) limit (value_at p tables r lo e) (unless_bare (bare e) value),
      )

  -- a value that goes straight into a variable, or what sets the variable
  set_round : (o : Option ℕ) (line : ℕ) (value : List LineInstr) (set : List Instr)
      → round line (set_to p tables r o line value set) ≤ round line value
  set_round (Some to) line value set = omega (arith, straight_walk line (own_slot p tables r to) line value)
  set_round None line value set = then_own line value set

  -- a value as a test goes over the lines of the value
  value_round : (line at lo : ℕ) (e : Expr)
      → round line (test_code p tables r line at lo (Value e)) ≡ round line (unless_bare (bare e) (expr_code p tables r line at lo e))
  value_round line at lo e = by (tested p tables r e)
    where
      differ : (x y : Expr) → round line (test_code p tables r line at lo (Value (Compare cmp.Unequal x y))) ≡ round line
          (expr_code p tables r line at lo (Compare cmp.Unequal x y))
      differ x y =
          let operand : ℕ = value_at p tables r (behind_expr p r lo x) y in
          let operands : List LineInstr = compared_code p tables r line at lo x y in
          let first : ℕ = slot_or p tables r (stays x y) lo in
          ends_alike line line operands (unequal_code lo first operand (at + length operands))
          ∙ sym (ends_alike line line operands (cmp_code cmp.Unequal lo first operand))

      by : Tested p tables r e → round line (test_code p tables r line at lo (Value e)) ≡ round line
          (unless_bare (bare e) (expr_code p tables r line at lo e))
      by (as_value is) = ap (round line) (is line at lo)
          ∙ ends_alike line line (unless_bare (bare e) (expr_code p tables r line at lo e)) (I.Check (value_at p tables r lo e) ∷ [])
      by (as_unequal x y same) = subst (λ z. round line (test_code p tables r line at lo (Value z)) ≡ round line
          (unless_bare (bare z) (expr_code p tables r line at lo z))) (sym same) (differ x y)

  -- an operand that is held has no line of its own
  constant_same : (line at lo : ℕ) (one : List LineInstr) (y : Expr)
      → round line (one ++ unless_constant (constant y) (unless_bare (bare y) (expr_code p tables r line at lo y)))
      ≡ round line (one ++ unless_bare (bare y) (expr_code p tables r line at lo y))
  constant_same line at lo one (Const n) = ends_alike line line one [] ∙ sym (ends_alike line line one (I.Const lo n ∷ []))
  constant_same line at lo one (Load d) = refl
  constant_same line at lo one (Chain negated e links) = refl
  constant_same line at lo one (Compare how x y) = refl
  constant_same line at lo one (Truth t) = refl
  constant_same line at lo one (Known d) = refl
  constant_same line at lo one (Chr x) = refl
  constant_same line at lo one (CallExpr called args up) = refl

  -- a comparison that goes back goes over the lines of the test of it
  back_round : (line at lo held top : ℕ) (t : Test) → is_turned t ≡ true
      → round line (back_code p tables r line at lo held top t) ≡ round line (test_code p tables r line at lo t)
  back_round line at lo held top t e = by (turned t e)
    where
      by : Turned t → round line (back_code p tables r line at lo held top t) ≡ round line (test_code p tables r line at lo t)
      by (compares_two how x y is opposite simple) =
          let lo2 : ℕ = behind_expr p r lo x in
          let operand : ℕ = value_at p tables r lo2 y in
          let other : ℕ = held_or (constant y) held operand in
          let one : List LineInstr = unless_bare (stays x y) (expr_code p tables r line at lo x) in
          let two : List LineInstr = unless_bare (bare y) (expr_code p tables r line (at + length one) lo2 y) in
          let first : ℕ = slot_or p tables r (stays x y) lo in
          subst (λ u. round line (back_code p tables r line at lo held top u) ≡ round line (test_code p tables r line at lo u)) (sym is)
          (ends_alike line line (one ++ unless_constant (constant y) two) (opposite_code how lo first other ∷ I.JumpZero lo top ∷ [])
          ∙ constant_same line (at + length one) lo2 one y
          ∙ sym (ends_alike line line (one ++ two) (cmp_code how lo first operand)) ∙ sym (value_round line at lo (Compare how x y)))

  while_round : (behind : Bool) (line at lo : ℕ) (t : Test) (body : Stmts) (m n : ℕ) → is_turned t ≡ behind
      → ((none : ℕ) → round line (jump_code p tables r line (at + 1) lo none t) ≤ m)
      → ((at lo : ℕ) → round line (test_code p tables r line at lo t) ≤ m)
      → ((at lo : ℕ) → round line (stmts_code p tables r at lo body) ≤ n)
      → round line (while_code p tables r behind line at lo t body) ≤ m + n
  while_round true line at lo t body m n e j f g =
      let constant : List Instr = constant_code (held_constant t) lo in
      let at1 : ℕ = at + length (own line constant) + 1 in
      let lo1 : ℕ = behind_held p r lo t in
      let inner : List LineInstr = stmts_code p tables r at1 lo1 body in
      let top : ℕ = at1 + length inner in
      let lo2 : ℕ = behind_stmts p r lo1 body in
      let last : List LineInstr = back_code p tables r line top lo2 lo at1 t in
      omega (
        arith,
        own_then line constant (own line (I.Jump top ∷ []) ++ (inner ++ last)),
        own_then line (I.Jump top ∷ []) (inner ++ last),
        both line inner last,
        back_round line top lo2 lo at1 t e,
        f top lo2,
        g at1 lo1,
      )
  while_round false line at lo t body m n e j f g =
      let lo2 : ℕ = behind_condition p r lo t in
      let inner : List LineInstr = guarded_code line (at + 1) lo 1 t (λ next. stmts_code p tables r next lo2 body) in
      omega (
        arith,
        asked line (at + 1) lo 1 t (λ next. stmts_code p tables r next lo2 body) m n j f (λ next. g next lo2),
        own_then line (I.Jump (at + 1) ∷ []) (inner ++ own line (I.Jump (at + 1) ∷ [])),
        then_own line inner (I.Jump (at + 1) ∷ []),
      )

  mutual
    desig_round : (line at lo : ℕ) (x : Desig) → round line (desig_code p tables r line at lo x) ≤ 2 * desig_nodes x
    desig_round line at lo (a_desig root cells sels) =
        let o : Option ℕ = own_root root sels in
        let placed : List LineInstr = own line (root_code p tables r lo root) in
        let one : List LineInstr = unless_bare o placed in
        let from : ℕ = slot_or p tables r o lo in
        let lo2 : ℕ = behind_root p tables r lo root in
        omega (
          arith,
          both line one (sels_code p tables r line (at + length one) from lo2 sels),
          unless_round line o placed,
          own_round line (root_code p tables r lo root),
          sels_round line (at + length one) from lo2 sels,
        )

    sels_round : (line at from lo : ℕ) (x : Sels) → round line (sels_code p tables r line at from lo x) ≤ 2 * sels_nodes x
    sels_round line at from lo no_sels = omega (arith, hop_none line)
    sels_round line at from lo (more_sels x rest) =
        let one : List LineInstr = sel_code p tables r line at from lo x in
        let part : ℕ = part_slot p tables r lo x in
        omega (
          arith,
          both line one (sels_code p tables r line (at + length one) part (part + 1) rest),
          sel_round line at from lo x,
          sels_round line (at + length one) part (part + 1) rest,
        )

    sel_round : (line at from lo : ℕ) (x : Sel) → round line (sel_code p tables r line at from lo x) ≤ 2 * sel_nodes x
    sel_round line at from lo (Field offset cells) = omega (arith, own_round line (I.Field lo from offset ∷ []))
    sel_round line at from lo (Index e range cells) =
        omega (
          arith,
          then_own line (unless_bare (bare e) (expr_code p tables r line at lo e))
              (I.Index (behind_value p r lo e) from (value_at p tables r lo e) (range_number tables range) ∷ []),
          unless_round line (bare e) (expr_code p tables r line at lo e),
          expr_round line at lo e,
        )

    expr_round : (line at lo : ℕ) (x : Expr) → round line (expr_code p tables r line at lo x) ≤ 2 * expr_nodes x
    expr_round line at lo (Const n) = omega (arith, own_round line (I.Const lo n ∷ []))
    expr_round line at lo (Load d) =
        let one : List LineInstr = held_code p tables r line at (lo + 1) d in
        omega (
          arith,
          then_own line (unless_bare (bare_desig d) one) (load_code p tables r lo d ∷ []),
          unless_round line (bare_desig d) one,
          held_round line at (lo + 1) d (2 * desig_nodes d) (desig_round line at (lo + 1) d),
        )
    expr_round line at lo (Chain negated e links) =
        let o : Option ℕ = taken_from negated e links in
        let from : ℕ = value_at p tables r lo e in
        let inner : List LineInstr = unless_bare o (expr_code p tables r line at lo e) in
        let one : List LineInstr = inner ++ own line (neg_code negated lo from) in
        let lo2 : ℕ = behind_expr p r lo e in
        let first : ℕ = slot_or p tables r (stays_in negated e links) lo in
        omega (
          arith,
          both line one (links_code p tables r line (at + length one) first lo lo2 links),
          then_own line inner (neg_code negated lo from),
          unless_round line o (expr_code p tables r line at lo e),
          expr_round line at lo e,
          links_round line (at + length one) first lo lo2 links,
        )
    expr_round line at lo (Compare how x y) =
        let lo2 : ℕ = behind_expr p r lo x in
        let one : List LineInstr = unless_bare (stays x y) (expr_code p tables r line at lo x) in
        let inner : List LineInstr = expr_code p tables r line (at + length one) lo2 y in
        let two : List LineInstr = unless_bare (bare y) inner in
        omega (
          arith,
          then_own line (one ++ two) (cmp_code how lo (slot_or p tables r (stays x y) lo) (value_at p tables r lo2 y)),
          both line one two,
          unless_round line (stays x y) (expr_code p tables r line at lo x),
          unless_round line (bare y) inner,
          expr_round line at lo x,
          expr_round line (at + length one) lo2 y,
        )
    expr_round line at lo (Truth t) =
        let one : List LineInstr = guarded_code line at (lo + 1) 2 t (λ next. []) in
        let end : ℕ = at + length one in
        let z = asked line at (lo + 1) 2 t (λ next. []) (2 * test_nodes t) 0 (λ none. jump_round line at (lo + 1) none t)
        (λ at lo. test_round line at lo t) (λ next. omega (arith, hop_none line)) in
        omega (arith, z, then_own line one (I.Const lo (pos 1) ∷ I.Jump (end + 3) ∷ I.Const lo (pos 0) ∷ []))
    expr_round line at lo (Known d) =
        omega (
          arith,
          then_own line (held_code p tables r line at (lo + 1) d) (I.Known lo (held_at p tables r (lo + 1) d) ∷ []),
          held_round line at (lo + 1) d (2 * desig_nodes d) (desig_round line at (lo + 1) d),
        )
    expr_round line at lo (Chr e) = omega (
      arith,
      then_own line (expr_code p tables r line at lo e) (I.InRange lo (range_number tables char_range) ∷ []),
      expr_round line at lo e,
    )
    expr_round line at lo (CallExpr called args up) =
        let to : ℕ = arguments_from p tables r called up (lo + 2) in
        let link : List Instr = call_link_code p tables r called up (lo + 2) in
        let next : ℕ = at + length (own line link) in
        let lo2 : ℕ = to + length (handed_slots args) in
        let two : List LineInstr = args_code p tables r line next to lo2 args in
        omega (
          arith,
          then_own line (own line link ++ two)
              (I.Mark (lo + 1) ∷ call_code p tables r called args up (lo + 2) lo ∷ I.Cut (lo + 1) ∷ []),
          own_then line link two,
          args_round line next to lo2 args,
        )

    links_round : (line at first to lo : ℕ) (x : Links) → round line (links_code p tables r line at first to lo x) ≤ 2 * links_nodes x
    links_round line at first to lo no_links = omega (arith, hop_none line)
    links_round line at first to lo (more_links how e rest) =
        let inner : List LineInstr = expr_code p tables r line at lo e in
        let one : List LineInstr = unless_bare (bare e) inner ++ own line (op_code how to first (value_at p tables r lo e) ∷ []) in
        let lo2 : ℕ = behind_value p r lo e in
        omega (
          arith,
          both line one (links_code p tables r line (at + length one) to to lo2 rest),
          then_own line (unless_bare (bare e) inner) (op_code how to first (value_at p tables r lo e) ∷ []),
          unless_round line (bare e) inner,
          expr_round line at lo e,
          links_round line (at + length one) to to lo2 rest,
        )

    args_round : (line at to lo : ℕ) (x : Args) → round line (args_code p tables r line at to lo x) ≤ 2 * args_nodes x
    args_round line at to lo no_args = omega (arith, hop_none line)
    args_round line at to lo (more_args a rest) =
        let one : List LineInstr = arg_code p tables r line at to lo a in
        let lo2 : ℕ = lo + length (arg_slots p r a) in
        omega (
          arith,
          both line one (args_code p tables r line (at + length one) (to + 1) lo2 rest),
          arg_round_of line at to lo a,
          args_round line (at + length one) (to + 1) lo2 rest,
        )

    arg_round_of : (line at to lo : ℕ) (x : Arg) → round line (arg_code p tables r line at to lo x) ≤ 2 * arg_nodes x
    arg_round_of line at to lo (ByValue e range) =
        let v : ℕ = value_at p tables r lo e in
        omega (
          arith,
          put_round line (is_straight e range) to v (fit_code tables range v)
              (unless_bare (bare e) (expr_code p tables r line at lo e)),
          unless_round line (bare e) (expr_code p tables r line at lo e),
          expr_round line at lo e,
        )
    arg_round_of line at to lo (ByCells d) =
        omega (
          arith,
          ap (round line) (handed_is p tables r to line at lo d),
          last_walk (aim_place to) line line (desig_code p tables r line at lo d),
          desig_round line at lo d,
        )
    arg_round_of line at to lo (ByPlace d) =
        omega (
          arith,
          ap (round line) (handed_is p tables r to line at lo d),
          last_walk (aim_place to) line line (desig_code p tables r line at lo d),
          desig_round line at lo d,
        )
    arg_round_of line at to lo (MixValue e range) =
        let v : ℕ = value_at p tables r lo e in
        omega (
          arith,
          put_round line (is_straight e range) to v (fit_code tables range v)
              (unless_bare (bare e) (expr_code p tables r line at lo e)),
          unless_round line (bare e) (expr_code p tables r line at lo e),
          expr_round line at lo e,
        )
    arg_round_of line at to lo (MixPlace d) =
        omega (
          arith,
          ap (round line) (handed_is p tables r to line at lo d),
          last_walk (aim_place to) line line (desig_code p tables r line at lo d),
          desig_round line at lo d,
        )

    jump_round : (line at lo none : ℕ) (x : Test) → round line (jump_code p tables r line at lo none x) ≤ 2 * test_nodes x
    jump_round line at lo none (Value e) = omega (
      arith,
      then_own line (unless_bare (bare e) (expr_code p tables r line at lo e)) (I.JumpZero (value_at p tables r lo e) none ∷ []),
      unless_round line (bare e) (expr_code p tables r line at lo e),
      expr_round line at lo e,
    )
    jump_round line at lo none (Bind d e range left) = omega (arith, hop_none line)
    jump_round line at lo none (Unify d range e range2) = omega (arith, hop_none line)
    jump_round line at lo none (SameCells d e) = omega (arith, hop_none line)
    jump_round line at lo none (Seq x) = omega (arith, hop_none line)
    jump_round line at lo none (And ts) = omega (arith, hop_none line)
    jump_round line at lo none (Or ts) = omega (arith, hop_none line)
    jump_round line at lo none (Not t) = omega (arith, hop_none line)
    jump_round line at lo none (CallTest called args up) = omega (arith, hop_none line)

    test_round : (line at lo : ℕ) (x : Test) → round line (test_code p tables r line at lo x) ≤ 2 * test_nodes x
    test_round line at lo (Value e) = omega (
      arith,
      value_round line at lo e,
      unless_round line (bare e) (expr_code p tables r line at lo e),
      expr_round line at lo e,
    )
    test_round line at lo (Bind d e range true) =
        let lo2 : ℕ = behind_desig p r lo d in
        let one : List LineInstr = held_code p tables r line at lo d in
        let inner : List LineInstr = expr_code p tables r line (at + length one) lo2 e in
        let two : List LineInstr = unless_bare (bare e) inner in
        omega (
          arith,
          then_own line (one ++ two)
              (I.Bind (held_at p tables r lo d) (value_at p tables r lo2 e) (range_number tables range) ∷ []),
          both line one two,
          unless_round line (bare e) inner,
          held_round line at lo d (2 * desig_nodes d) (desig_round line at lo d),
          expr_round line (at + length one) lo2 e,
        )
    test_round line at lo (Bind d e range false) =
        let lo2 : ℕ = behind_expr p r lo e in
        let one : List LineInstr = expr_code p tables r line at lo e in
        let two : List LineInstr = held_code p tables r line (at + length one) lo2 d in
        omega (
          arith,
          then_own line (one ++ two) (I.Bind (held_at p tables r lo2 d) lo (range_number tables range) ∷ []),
          both line one two,
          expr_round line at lo e,
          held_round line (at + length one) lo2 d (2 * desig_nodes d) (desig_round line (at + length one) lo2 d),
        )
    test_round line at lo (Unify d range e range2) =
        let lo2 : ℕ = behind_desig p r lo d in
        let one : List LineInstr = held_code p tables r line at lo d in
        let two : List LineInstr = held_code p tables r line (at + length one) lo2 e in
        omega (
          arith,
          then_own line (one ++ two) (I.Unify (held_at p tables r lo d) (range_number tables range) (held_at p tables r lo2 e)
              (range_number tables range2) ∷ []),
          both line one two,
          held_round line at lo d (2 * desig_nodes d) (desig_round line at lo d),
          held_round line (at + length one) lo2 e (2 * desig_nodes e) (desig_round line (at + length one) lo2 e),
        )
    test_round line at lo (SameCells d e) =
        let lo2 : ℕ = behind_desig p r lo d in
        let one : List LineInstr = held_code p tables r line at lo d in
        let two : List LineInstr = held_code p tables r line (at + length one) lo2 e in
        omega (
          arith,
          then_own line (one ++ two) (I.SameCells (held_at p tables r lo d) (held_at p tables r lo2 e) ∷ []),
          both line one two,
          held_round line at lo d (2 * desig_nodes d) (desig_round line at lo d),
          held_round line (at + length one) lo2 e (2 * desig_nodes e) (desig_round line (at + length one) lo2 e),
        )
    test_round line at lo (Seq x) = omega (arith, stmts_round line at lo x)
    test_round line at lo (And ts) = omega (arith, and_round line at lo ts)
    test_round line at lo (Or ts) = omega (arith, or_round line at lo ts)
    test_round line at lo (Not t) = omega (
      arith,
      refused_round line (at + 2) lo (test_code p tables r line (at + 2) (lo + 1) t),
      test_round line (at + 2) (lo + 1) t,
    )
    test_round line at lo (CallTest called args up) =
        let to : ℕ = arguments_from p tables r called up lo in
        let link : List Instr = call_link_code p tables r called up lo in
        let next : ℕ = at + length (own line link) in
        let lo2 : ℕ = to + length (handed_slots args) in
        let two : List LineInstr = args_code p tables r line next to lo2 args in
        omega (
          arith,
          then_own line (own line link ++ two) (call_code p tables r called args up lo 0 ∷ []),
          own_then line link two,
          args_round line next to lo2 args,
        )

    and_round : (line at lo : ℕ) (x : Tests) → round line (and_code p tables r line at lo x) ≤ 2 * tests_nodes x
    and_round line at lo no_tests = omega (arith, hop_none line)
    and_round line at lo (more_tests t rest) =
        let one : List LineInstr = test_code p tables r line at lo t in
        let lo2 : ℕ = behind_test p r lo t in
        omega (
          arith,
          both line one (and_code p tables r line (at + length one) lo2 rest),
          test_round line at lo t,
          and_round line (at + length one) lo2 rest,
        )

    or_round : (line at lo : ℕ) (x : Tests) → round line (or_code p tables r line at lo x) ≤ 2 * tests_nodes x
    or_round line at lo no_tests = omega (arith, own_round line (I.Fail ∷ []))
    or_round line at lo (more_tests t no_tests) = omega (arith, test_round line at lo t)
    or_round line at lo (more_tests t (more_tests t2 rest)) =
        let inner : List LineInstr = test_code p tables r line (at + 2) (lo + 1) t in
        let one : List LineInstr = first_of_two line (at + 2) lo inner in
        let lo2 : ℕ = behind_test p r (lo + 1) t in
        omega (
          arith,
          leaving_round line at one (λ next jump. operands_code p tables r line jump next lo2 (more_tests t2 rest)),
          first_round line (at + 2) lo inner,
          test_round line (at + 2) (lo + 1) t,
          operands_round line (at + length one) (at + length one + 1) lo2 (more_tests t2 rest),
        )

    operands_round : (line jump at lo : ℕ) (x : Tests) → round line (operands_code p tables r line jump at lo x) ≤ 2 * tests_nodes x
    operands_round line jump at lo no_tests = omega (arith, hop_none line)
    operands_round line jump at lo (more_tests t no_tests) = omega (arith, test_round line at lo t)
    operands_round line jump at lo (more_tests t (more_tests t2 rest)) =
        let inner : List LineInstr = test_code p tables r line (at + 2) (lo + 1) t in
        let one : List LineInstr = first_of_two line (at + 2) lo inner in
        let lo2 : ℕ = behind_test p r (lo + 1) t in
        let next : ℕ = at + length (one ++ own line (I.Jump jump ∷ [])) in
        omega (
          arith,
          by_jump_round line jump one (operands_code p tables r line jump next lo2 (more_tests t2 rest)),
          first_round line (at + 2) lo inner,
          test_round line (at + 2) (lo + 1) t,
          operands_round line jump next lo2 (more_tests t2 rest),
        )

    pub stmts_round : (line at lo : ℕ) (x : Stmts) → round line (stmts_code p tables r at lo x) ≤ 2 * stmts_nodes x
    stmts_round line at lo no_stmts = omega (arith, hop_none line)
    stmts_round line at lo (more_stmts mine x rest) =
        let one : List LineInstr = stmt_code p tables r mine at lo x in
        let lo2 : ℕ = behind_stmt p r lo x in
        omega (
          arith,
          both line one (stmts_code p tables r (at + length one) lo2 rest),
          around line mine line one,
          stmt_round mine at lo x,
          stmts_round line (at + length one) lo2 rest,
        )

    stmt_round : (line at lo : ℕ) (x : Stmt) → 2 + round line (stmt_code p tables r line at lo x) ≤ 2 * stmt_nodes x
    stmt_round line at lo (TestStmt t) = omega (arith, test_round line at lo t)
    stmt_round line at lo (Assign d e range) =
        let lo2 : ℕ = behind_target p r lo d in
        let v : ℕ = value_at p tables r lo2 e in
        let place : List LineInstr = held_code p tables r line at lo d in
        let one : List LineInstr = unless_bare (bare_desig d) place in
        let inner : List LineInstr = expr_code p tables r line (at + length one) lo2 e in
        let two : List LineInstr = unless_bare (bare e) inner in
        omega (
          arith,
          set_round (goes_straight d e range) line (one ++ two) (fit_code tables range v ++ (set_code p tables r lo v d ∷ [])),
          both line one two,
          unless_round line (bare_desig d) place,
          unless_round line (bare e) inner,
          held_round line at lo d (2 * desig_nodes d) (desig_round line at lo d),
          expr_round line (at + length one) lo2 e,
        )
    stmt_round line at lo (CopyCells d e) =
        let lo2 : ℕ = behind_desig p r lo d in
        let one : List LineInstr = held_code p tables r line at lo d in
        let two : List LineInstr = held_code p tables r line (at + length one) lo2 e in
        omega (
          arith,
          then_own line (one ++ two) (I.CopyCells (held_at p tables r lo d) (held_at p tables r lo2 e) ∷ []),
          both line one two,
          held_round line at lo d (2 * desig_nodes d) (desig_round line at lo d),
          held_round line (at + length one) lo2 e (2 * desig_nodes e) (desig_round line (at + length one) lo2 e),
        )
    stmt_round line at lo (If arms rest) =
        let z = if_round line at lo arms (λ next la. stmts_code p tables r next la rest) (2 * stmts_nodes rest)
        (λ next la. stmts_round line next la rest) in
        omega (arith, z)
    stmt_round line at lo (While t body) =
        let z = while_round (is_turned t) line at lo t body (2 * test_nodes t) (2 * stmts_nodes body) refl
        (λ none. jump_round line (at + 1) lo none t) (λ at lo. test_round line at lo t) (λ next lo. stmts_round line next lo body) in
        omega (arith, z)
    stmt_round line at lo (Repeat body t) =
        let lo2 : ℕ = behind_stmts p r lo body in
        let one : List LineInstr = stmts_code p tables r at lo body in
        let next : ℕ = at + length one in
        let z = decides line next lo2 at t (2 * test_nodes t) (jump_round line next lo2 at t) (test_round line (next + 2) (lo2 + 1) t) in
        omega (arith, z, both line one (condition_code line next lo2 at t), stmts_round line at lo body)
    stmt_round line at lo (ForTo l) = omega (arith, for_of_round line at lo l)
    stmt_round line at lo (SomeOf l) = omega (arith, some_of_round line at lo l)
    stmt_round line at lo (Case e arms rest) =
        let first : ℕ = behind_expr p r lo e in
        let bound : ℕ = behind_dead p r first arms in
        let one : List LineInstr = expr_code p tables r line at lo e in
        let next : ℕ = at + length one in
        let dead : List LineInstr = dead_code p tables r (next + 1) first arms in
        let over : List LineInstr = passed_over (has_dead arms) line next dead in
        let begin : ℕ = next + length over in
        let tried : List LineInstr = case_code p tables r line lo bound begin (bound + 2) arms
        (λ next la. else_code p tables r line next la rest) in
        let z = case_round line lo bound begin (bound + 2) arms (λ next la. else_code p tables r line next la rest) (2 * else_nodes rest)
        (λ next la. else_round line next la rest) in
        omega (
          arith,
          z,
          both line one (over ++ tried),
          both line over tried,
          over_round line (has_dead arms) next dead,
          dead_round line (next + 1) first arms,
          all_nodes arms,
          expr_round line at lo e,
        )
    stmt_round line at lo (Either x) = omega (arith, either_round line at lo x)
    stmt_round line at lo (Forall x y) =
        let inner : ℕ = behind_stmts p r (lo + 1) x in
        let one : List LineInstr = stmts_code p tables r (at + 1) (lo + 1) x in
        let n : ℕ = at + 1 + length one in
        let two : List LineInstr = stmts_code p tables r (n + 2) (inner + 1) y in
        omega (
          arith,
          forall_round line (at + 1) lo (one ++ each_body line (n + 2) lo inner two),
          both line one (each_body line (n + 2) lo inner two),
          each_round line (n + 2) lo inner two,
          stmts_round line (at + 1) (lo + 1) x,
          stmts_round line (n + 2) (inner + 1) y,
        )
    stmt_round line at lo (Commit x) =
        let inner : List LineInstr = stmts_code p tables r (at + 1) (lo + 1) x in
        omega (
          arith,
          own_then line (I.Mark lo ∷ []) (inner ++ own line (I.Cut lo ∷ [])),
          then_own line inner (I.Cut lo ∷ []),
          stmts_round line (at + 1) (lo + 1) x,
        )
    stmt_round line at lo (Return no_result) = omega (arith, own_round line (I.Return ∷ []))
    stmt_round line at lo (Return (some_result e)) =
        let v : ℕ = value_at p tables r lo e in
        omega (
          arith,
          then_own line (unless_bare (bare e) (expr_code p tables r line at lo e))
              (fit_result p tables r (routine_at p r).result v ++ (I.ReturnValue v ∷ [])),
          unless_round line (bare e) (expr_code p tables r line at lo e),
          expr_round line at lo e,
        )
    stmt_round line at lo (Read d how range) =
        omega (
          arith,
          then_own line (held_code p tables r line at lo d)
              (read_code how (held_at p tables r lo d) (range_number tables range) ∷ []),
          held_round line at lo d (2 * desig_nodes d) (desig_round line at lo d),
        )
    stmt_round line at lo (WriteExpr e how) =
        omega (
          arith,
          then_own line (unless_bare (bare e) (expr_code p tables r line at lo e))
              (write_code how (value_at p tables r lo e) ∷ []),
          unless_round line (bare e) (expr_code p tables r line at lo e),
          expr_round line at lo e,
        )
    stmt_round line at lo (WriteText text) = omega (arith, own_round line (I.WriteText (text_number tables text) ∷ []))
    stmt_round line at lo WriteLine = omega (arith, own_round line (I.WriteLine ∷ []))

    if_round : (line at lo : ℕ) (x : Arms) (otherwise : (at lo : ℕ) → List LineInstr) (n : ℕ)
        → ((at lo : ℕ) → round line (otherwise at lo) ≤ n)
        → round line (if_code p tables r line at lo x otherwise) ≤ 2 * arms_nodes x + n
    if_round line at lo no_arms otherwise n f = let z = f at lo in omega (arith, z)
    if_round line at lo (more_arms t body rest) otherwise n f =
        let lo2 : ℕ = behind_condition p r lo t in
        let lo3 : ℕ = behind_stmts p r lo2 body in
        let one : List LineInstr = guarded_code line at lo 1 t (λ next. stmts_code p tables r next lo2 body) in
        let z = asked line at lo 1 t (λ next. stmts_code p tables r next lo2 body) (2 * test_nodes t) (2 * stmts_nodes body)
        (λ none. jump_round line at lo none t) (λ at lo. test_round line at lo t) (λ next. stmts_round line next lo2 body) in
        let others = arms_round line (at + length one) (at + length one + 1) lo3 rest otherwise n f in
        omega (arith, z, others, leaving_round line at one (λ next jump. arms_code p tables r line jump next lo3 rest otherwise))

    arms_round : (line jump at lo : ℕ) (x : Arms) (otherwise : (at lo : ℕ) → List LineInstr) (n : ℕ)
        → ((at lo : ℕ) → round line (otherwise at lo) ≤ n)
        → round line (arms_code p tables r line jump at lo x otherwise) ≤ 2 * arms_nodes x + n
    arms_round line jump at lo no_arms otherwise n f = let z = f at lo in omega (arith, z)
    arms_round line jump at lo (more_arms t body rest) otherwise n f =
        let lo2 : ℕ = behind_condition p r lo t in
        let lo3 : ℕ = behind_stmts p r lo2 body in
        let one : List LineInstr = guarded_code line at lo 1 t (λ next. stmts_code p tables r next lo2 body) in
        let z = asked line at lo 1 t (λ next. stmts_code p tables r next lo2 body) (2 * test_nodes t) (2 * stmts_nodes body)
        (λ none. jump_round line at lo none t) (λ at lo. test_round line at lo t) (λ next. stmts_round line next lo2 body) in
        let next : ℕ = at + length (one ++ own line (I.Jump jump ∷ [])) in
        let others = arms_round line jump next lo3 rest otherwise n f in
        omega (arith, z, others, by_jump_round line jump one (arms_code p tables r line jump next lo3 rest otherwise))

    dead_round : (line at lo : ℕ) (x : CaseArms) → round line (dead_code p tables r at lo x) ≤ 2 * dead_nodes x
    dead_round line at lo no_cases = omega (arith, hop_none line)
    dead_round line at lo (more_cases [] body rest) =
        let one : List LineInstr = stmts_code p tables r at lo body in
        let lo2 : ℕ = behind_stmts p r lo body in
        omega (
          arith,
          both line one (dead_code p tables r (at + length one) lo2 rest),
          stmts_round line at lo body,
          dead_round line (at + length one) lo2 rest,
        )
    dead_round line at lo (more_cases (label ∷ labels) body rest) = omega (arith, dead_round line at lo rest)

    case_round : (line value bound at lo : ℕ) (x : CaseArms) (otherwise : (at lo : ℕ) → List LineInstr) (n : ℕ)
        → ((at lo : ℕ) → round line (otherwise at lo) ≤ n)
        → round line (case_code p tables r line value bound at lo x otherwise) ≤ 2 * live_nodes x + n
    case_round line value bound at lo no_cases otherwise n f = let z = f at lo in omega (arith, z)
    case_round line value bound at lo (more_cases [] body rest) otherwise n f = let z =
        case_round line value bound at lo rest otherwise n f in omega (arith, z)
    case_round line value bound at lo (more_cases (label ∷ labels) body rest) otherwise n f =
        let inner : List LineInstr = stmts_code p tables r (behind_labels at label labels) lo body in
        let one : List LineInstr = case_arm line value bound at label labels inner in
        let lo2 : ℕ = behind_stmts p r lo body in
        let others = cases_round line value bound (at + length one) (at + length one + 1) lo2 rest otherwise n f in
        omega (
          arith,
          others,
          leaving_round line at one (λ next jump. cases_code p tables r line value bound jump next lo2 rest otherwise),
          arm_round line value bound at label labels inner,
          stmts_round line (behind_labels at label labels) lo body,
        )

    cases_round : (line value bound jump at lo : ℕ) (x : CaseArms) (otherwise : (at lo : ℕ) → List LineInstr) (n : ℕ)
        → ((at lo : ℕ) → round line (otherwise at lo) ≤ n)
        → round line (cases_code p tables r line value bound jump at lo x otherwise) ≤ 2 * live_nodes x + n
    cases_round line value bound jump at lo no_cases otherwise n f = let z = f at lo in omega (arith, z)
    cases_round line value bound jump at lo (more_cases [] body rest) otherwise n f = let z =
        cases_round line value bound jump at lo rest otherwise n f in omega (arith, z)
    cases_round line value bound jump at lo (more_cases (label ∷ labels) body rest) otherwise n f =
        let inner : List LineInstr = stmts_code p tables r (behind_labels at label labels) lo body in
        let one : List LineInstr = case_arm line value bound at label labels inner in
        let lo2 : ℕ = behind_stmts p r lo body in
        let next : ℕ = at + length (one ++ own line (I.Jump jump ∷ [])) in
        let others = cases_round line value bound jump next lo2 rest otherwise n f in
        omega (
          arith,
          others,
          by_jump_round line jump one (cases_code p tables r line value bound jump next lo2 rest otherwise),
          arm_round line value bound at label labels inner,
          stmts_round line (behind_labels at label labels) lo body,
        )

    else_round : (line at lo : ℕ) (x : Else) → round line (else_code p tables r line at lo x) ≤ 2 * else_nodes x
    else_round line at lo no_else = omega (arith, own_round line (I.Fault 5 ∷ []))
    else_round line at lo (else_part body) = stmts_round line at lo body

    either_round : (line at lo : ℕ) (x : Branches) → round line (either_code p tables r line at lo x) ≤ 2 * branches_nodes x
    either_round line at lo no_branches = omega (arith, own_round line (I.Fail ∷ []))
    either_round line at lo (more_branches body no_branches) = omega (arith, stmts_round line at lo body)
    either_round line at lo (more_branches body (more_branches body2 rest)) =
        let inner : List LineInstr = stmts_code p tables r (at + 1) lo body in
        let one : List LineInstr = branch_code line (at + 1) inner in
        let lo2 : ℕ = behind_stmts p r lo body in
        omega (
          arith,
          leaving_round line at one (λ next jump. branches_code p tables r line jump next lo2 (more_branches body2 rest)),
          chosen_round line (at + 1) inner,
          stmts_round line (at + 1) lo body,
          branches_round line (at + length one) (at + length one + 1) lo2 (more_branches body2 rest),
        )

    branches_round : (line jump at lo : ℕ) (x : Branches) → round line (branches_code p tables r line jump at lo x) ≤ 2 * branches_nodes x
    branches_round line jump at lo no_branches = omega (arith, hop_none line)
    branches_round line jump at lo (more_branches body no_branches) = omega (arith, stmts_round line at lo body)
    branches_round line jump at lo (more_branches body (more_branches body2 rest)) =
        let inner : List LineInstr = stmts_code p tables r (at + 1) lo body in
        let one : List LineInstr = branch_code line (at + 1) inner in
        let lo2 : ℕ = behind_stmts p r lo body in
        let next : ℕ = at + length (one ++ own line (I.Jump jump ∷ [])) in
        omega (
          arith,
          by_jump_round line jump one (branches_code p tables r line jump next lo2 (more_branches body2 rest)),
          chosen_round line (at + 1) inner,
          stmts_round line (at + 1) lo body,
          branches_round line jump next lo2 (more_branches body2 rest),
        )

    for_of_round : (line at lo : ℕ) (x : Loop) → round line (for_code p tables r line at lo x) ≤ 2 * loop_nodes x
    for_of_round line at lo (a_loop d range counter limit from to by body) =
        let last : ℕ = behind_expr p r (lo + 1) from in
        let place : ℕ = behind_expr p r last to in
        let lo2 : ℕ = behind_variable p r place d in
        let count : ℕ = own_slot p tables r counter in
        let l : ℕ = own_slot p tables r limit in
        let one : List LineInstr = begin_loop line at lo
        by (λ at. unless_constant (constant from) (expr_code p tables r line at (lo + 1) from))
        (λ at. limit_of line at last l to) in
        let next : ℕ = at + length one in
        let each : List LineInstr = turn_of line (next + 3) count place d range (λ at. stmts_code p tables r at lo2 body) in
        let begin = begin_round line at lo by (λ at. unless_constant (constant from) (expr_code p tables r line at (lo + 1) from))
        (λ at. limit_of line at last l to) (2 * expr_nodes from) (2 * expr_nodes to)
        (λ at. first_below line (constant from) (expr_code p tables r line at (lo + 1) from) (2 * expr_nodes from)
        (expr_round line at (lo + 1) from))
        (λ at. limit_below line at last l to (2 * expr_nodes to) (expr_round line at last to)) in
        let turns = turn line (next + 3) count place d range (λ at. stmts_code p tables r at lo2 body) (2 * desig_nodes d)
        (2 * stmts_nodes body) (λ at. desig_round line at (place + 1) d) (λ at. stmts_round line at lo2 body) in
        omega (
          arith,
          begin,
          turns,
          both line one (for_turns line next by (constant from) count l lo (lo + 1) each),
          for_round line next by (constant from) count l lo (lo + 1) each,
        )

    some_of_round : (line at lo : ℕ) (x : Loop) → round line (some_code p tables r line at lo x) ≤ 2 * loop_nodes x
    some_of_round line at lo (a_loop d range counter limit from to by body) =
        let last : ℕ = behind_expr p r (lo + 1) from in
        let more : ℕ = behind_expr p r last to in
        let lo2 : ℕ = behind_variable p r (more + 1) d in
        let count : ℕ = own_slot p tables r counter in
        let l : ℕ = own_slot p tables r limit in
        let one : List LineInstr = begin_loop line at lo (pos 1)
        (λ at. unless_constant (constant from) (expr_code p tables r line at (lo + 1) from))
        (λ at. limit_of line at last l to) in
        let next : ℕ = at + length one in
        let each : List LineInstr = turn_of line (next + 8) count (more + 1) d range (λ at. stmts_code p tables r at lo2 body) in
        let begin = begin_round line at lo (pos 1) (λ at. unless_constant (constant from) (expr_code p tables r line at (lo + 1) from))
        (λ at. limit_of line at last l to) (2 * expr_nodes from) (2 * expr_nodes to)
        (λ at. first_below line (constant from) (expr_code p tables r line at (lo + 1) from) (2 * expr_nodes from)
        (expr_round line at (lo + 1) from))
        (λ at. limit_below line at last l to (2 * expr_nodes to) (expr_round line at last to)) in
        let turns = turn line (next + 8) count (more + 1) d range (λ at. stmts_code p tables r at lo2 body) (2 * desig_nodes d)
        (2 * stmts_nodes body) (λ at. desig_round line at (more + 1 + 1) d) (λ at. stmts_round line at lo2 body) in
        omega (
          arith,
          begin,
          turns,
          both line one (some_turns line next (constant from) count l lo (lo + 1) more each),
          some_round line next (constant from) count l lo (lo + 1) more each,
        )
