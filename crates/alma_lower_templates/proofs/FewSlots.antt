-- The slots of the phrases of a routine are at most 16 for each node.
use Rattle.std.proofs.Common.{◌≡◌, ℕ, zero, suc, ◌+◌, ◌*◌, ◌≤◌, Bool, true, false, List, [], ◌∷◌, ◌++◌, length, drop, Option, Some, None}
use Rattle.std.proofs.Common.{refl, arith, ℤ}
use Rattle.std.specs.List.{AllByRecursion}
use Rattle.std.proofs.lemmas.List.{length-append}
use Rattle.alma_code.specs.declared.cell.SlotKind.{SlotKind}
use Rattle.alma_code.specs.declared.cell.SlotKind.TheVariants as slot
use Rattle.alma_ir.specs.declared.phrase.Root.{Root}
use Rattle.alma_ir.specs.declared.phrase.Root.TheVariants as root
use Rattle.alma_ir.specs.Tree.{Stmts, Stmt, Arms, CaseArms, Else, Branches, Loop, Test, Tests, Expr, Links, Args, Arg, Desig, Sels, Sel}
use Rattle.alma_ir.specs.Tree.{Program, routine_at, no_stmts, more_stmts, TestStmt, Assign, CopyCells, If, While, Repeat, ForTo, SomeOf}
use Rattle.alma_ir.specs.Tree.{Case, Either, Forall, Commit, Return, Read, WriteExpr, WriteText, WriteLine, no_arms, more_arms, no_cases}
use Rattle.alma_ir.specs.Tree.{more_cases, no_else, else_part, no_branches, more_branches, a_loop, no_result, some_result, Value, Bind}
use Rattle.alma_ir.specs.Tree.{Unify, SameCells, Seq, And, Or, Not, CallTest, no_tests, more_tests, Const, Load, Chain, Compare, Truth}
use Rattle.alma_ir.specs.Tree.{Known, Chr, CallExpr, no_links, more_links, no_args, more_args, ByValue, ByCells, ByPlace, MixValue}
use Rattle.alma_ir.specs.Tree.{MixPlace, a_desig, no_sels, more_sels, Field, Index}
use Rattle.alma_ir.specs.Count.{stmts_nodes, stmt_nodes, arms_nodes, cases_nodes, else_nodes, branches_nodes, loop_nodes, test_nodes}
use Rattle.alma_ir.specs.Count.{tests_nodes, expr_nodes, links_nodes, args_nodes, arg_nodes, desig_nodes, sels_nodes, sel_nodes}
use Rattle.alma_ir.specs.Lines.{behind, stmts_with, stmt_with, arms_with, cases_with, else_with, branches_with, loop_with, test_with}
use Rattle.alma_ir.specs.Lines.{tests_with, expr_with, links_with, args_with, arg_with, desig_with, sels_with, sel_with}
use Rattle.alma_ir.specs.Phrases.{Phrase, TestPhrase, ExprPhrase, DesigPhrase, stmts_phrases, stmt_phrases, arms_phrases, cases_phrases}
use Rattle.alma_ir.specs.Phrases.{else_phrases, branches_phrases, loop_phrases, test_phrases, tests_phrases, expr_phrases, links_phrases}
use Rattle.alma_ir.specs.Phrases.{args_phrases, arg_phrases, desig_phrases, sels_phrases, sel_phrases}
use Rattle.alma_ir.proofs.Each.{each_of_front, each_of_back}
use Rattle.alma_lower_templates.specs.Slots.{shift_of, chain_slots, bare, bare_desig, unless_bare, is_simple, is_turned, by_turn}
use Rattle.alma_lower_templates.specs.Slots.{mark_slots, held_constant, held_slots}
use Rattle.alma_lower_templates.specs.Slots.{handed_slots, links_if, root_slots, stmts_slots, stmt_slots, arms_slots, dead_slots}
use Rattle.alma_lower_templates.specs.Slots.{cases_slots, else_slots}
use Rattle.alma_lower_templates.specs.Slots.{branches_slots, for_slots, some_slots, test_slots, and_slots, or_slots, expr_slots}
use Rattle.alma_lower_templates.specs.Slots.{links_slots, args_slots, arg_slots, desig_slots, sels_slots, sel_slots}

-- the links of a root or of a call are few
abbrev pub Short : Phrase → Type 0
Short (DesigPhrase (a_desig (root.Outer links from) cells sels)) = links ≤ 7
Short (DesigPhrase (a_desig (root.OuterParam links from) cells sels)) = links ≤ 7
Short (TestPhrase (CallTest called args up)) = up ≤ 9
Short (ExprPhrase (CallExpr called args up)) = up ≤ 9
Short _ = Unit {0}

abbrev pub AreShort : List Phrase → Type 0
AreShort xs = AllByRecursion Short xs

pub short_front : (xs ys : List Phrase) → AreShort (xs ++ ys) → AreShort xs
short_front xs ys h = each_of_front Short xs ys h

pub short_back : (xs ys : List Phrase) → AreShort (xs ++ ys) → AreShort ys
short_back xs ys h = each_of_back Short xs ys h

pub unless_few : {A : Type 0} (o : Option ℕ) (xs : List A) → length (unless_bare o xs) ≤ length xs
unless_few (Some n) xs = omega arith
unless_few None xs = omega arith

mark_few : (z : Bool) → length (mark_slots z) ≤ 1
mark_few true = omega arith
mark_few false = omega arith

held_few : (o : Option ℤ) → length (held_slots o) ≤ 1
held_few (Some n) = omega arith
held_few None = omega arith

-- those of WHILE, wherever its condition stands
turn_few : (behind simple : Bool) (o : Option ℤ) (xs ys : List SlotKind)
    → length (by_turn behind (held_slots o ++ (ys ++ xs)) (mark_slots simple ++ (xs ++ ys))) ≤ 1 + length xs + length ys
turn_few true simple o xs ys = omega (arith, held_few o, length-append (held_slots o) (ys ++ xs), length-append ys xs)
turn_few false simple o xs ys =
    omega (arith, length-append (mark_slots simple) (xs ++ ys), length-append xs ys, mark_few simple)

module _ (p : Program) where
  chain_long : (links r : ℕ) → length (chain_slots p r links) ≡ links + 1
  chain_long zero r = refl
  chain_long (suc links) r = let z = chain_long links (routine_at p r).outer in omega (arith, z)

  links_few : (sh up r : ℕ) → length (links_if p r sh up) ≤ up + 1
  links_few zero up r = omega arith
  links_few (suc one) up r = let z = chain_long up r in omega (arith, z)

  root_few : (r : ℕ) (x : Root) (cells : ℕ) (sels : Sels) → Short (DesigPhrase (a_desig x cells sels)) → length (root_slots p r x) ≤ 8
  root_few r (root.Local from) cells sels h = omega arith
  root_few r (root.Global from) cells sels h = omega arith
  root_few r (root.Param from) cells sels h = omega arith
  root_few r (root.Outer links from) cells sels h = let z = chain_long links r in omega (arith, z, h)
  root_few r (root.OuterParam links from) cells sels h = let z = chain_long links r in omega (arith, z, h)

  -- OR, given its parts
  or_more : (r : ℕ) (t : Test) (rest : Tests)
      → length (or_slots p r (more_tests t rest)) ≤ 1 + length (test_slots p r t) + length (or_slots p r rest)
  or_more r t no_tests = omega arith
  or_more r t (more_tests u rest) = omega (arith, length-append (test_slots p r t) (or_slots p r (more_tests u rest)))

  mutual
    unfolding stmts_phrases stmts_with

    desig_few : (r : ℕ) (d : Desig) (ls : List ℕ) → AreShort (desig_phrases d)
        → length (desig_slots p r (desig_with d ls)) ≤ 16 * desig_nodes d
    desig_few r (a_desig x cells sels) ls h =
        omega (
          arith,
          length-append (root_slots p r x) (sels_slots p r (sels_with sels ls)),
          root_few r x cells sels h.0,
          sels_few r sels ls h.1,
        )

    sels_few : (r : ℕ) (sels : Sels) (ls : List ℕ) → AreShort (sels_phrases sels)
        → length (sels_slots p r (sels_with sels ls)) ≤ 16 * sels_nodes sels
    sels_few r no_sels ls h = omega arith
    sels_few r (more_sels x rest) ls h =
        let ls2 = behind (sel_phrases x) ls in
        omega (
          arith,
          length-append (sel_slots p r (sel_with x ls)) (sels_slots p r (sels_with rest ls2)),
          sel_few r x ls (short_front (sel_phrases x) (sels_phrases rest) h),
          sels_few r rest ls2 (short_back (sel_phrases x) (sels_phrases rest) h),
        )

    sel_few : (r : ℕ) (x : Sel) (ls : List ℕ) → AreShort (sel_phrases x) → length (sel_slots p r (sel_with x ls)) ≤ 16 * sel_nodes x
    sel_few r (Field offset cells) ls h = omega arith
    sel_few r (Index e range cells) ls h =
        let y : Expr = expr_with e ls in
        omega (
          arith,
          length-append (unless_bare (bare y) (expr_slots p r y)) (slot.Place cells ∷ []),
          unless_few (bare y) (expr_slots p r y),
          expr_few r e ls h.1,
        )

    expr_few : (r : ℕ) (e : Expr) (ls : List ℕ) → AreShort (expr_phrases e) → length (expr_slots p r (expr_with e ls)) ≤ 16 * expr_nodes e
    expr_few r (Const n) ls h = omega arith
    expr_few r (Load d) ls h = let y : Desig = desig_with d ls in
        omega (arith, unless_few (bare_desig y) (desig_slots p r y), desig_few r d ls h.1)
    expr_few r (Chain negated e links) ls h =
        let ls2 = behind (expr_phrases e) ls in
        omega (
          arith,
          length-append (expr_slots p r (expr_with e ls)) (links_slots p r (links_with links ls2)),
          expr_few r e ls (short_front (expr_phrases e) (links_phrases links) h.1),
          operators_few r links ls2 (short_back (expr_phrases e) (links_phrases links) h.1),
        )
    expr_few r (Compare how a b) ls h =
        let ls2 = behind (expr_phrases a) ls in
        let y : Expr = expr_with b ls2 in
        omega (
          arith,
          length-append (expr_slots p r (expr_with a ls)) (unless_bare (bare y) (expr_slots p r y)),
          unless_few (bare y) (expr_slots p r y),
          expr_few r a ls (short_front (expr_phrases a) (expr_phrases b) h.1),
          expr_few r b ls2 (short_back (expr_phrases a) (expr_phrases b) h.1),
        )
    expr_few r (Truth t) ls h = let u : Test = test_with t ls in
        omega (arith, length-append (mark_slots (is_simple u)) (test_slots p r u), mark_few (is_simple u), test_few r t ls h.1)
    expr_few r (Known d) ls h = omega (arith, desig_few r d ls h.1)
    expr_few r (Chr e) ls h = omega (arith, expr_few r e ls h.1)
    expr_few r (CallExpr called args up) ls h =
        let x : Args = args_with args ls in
        omega (
          arith,
          length-append (links_if p r (shift_of p called) up) (handed_slots x ++ args_slots p r x),
          length-append (handed_slots x) (args_slots p r x),
          links_few (shift_of p called) up r,
          args_few r args ls h.1,
          h.0,
        )

    operators_few : (r : ℕ) (links : Links) (ls : List ℕ) → AreShort (links_phrases links)
        → length (links_slots p r (links_with links ls)) ≤ 16 * links_nodes links
    operators_few r no_links ls h = omega arith
    operators_few r (more_links how e rest) ls h =
        let ls2 = behind (expr_phrases e) ls in
        let y : Expr = expr_with e ls in
        omega (
          arith,
          length-append (unless_bare (bare y) (expr_slots p r y)) (links_slots p r (links_with rest ls2)),
          unless_few (bare y) (expr_slots p r y),
          expr_few r e ls (short_front (expr_phrases e) (links_phrases rest) h),
          operators_few r rest ls2 (short_back (expr_phrases e) (links_phrases rest) h),
        )

    -- those in which the arguments are handed over too
    args_few : (r : ℕ) (args : Args) (ls : List ℕ) → AreShort (args_phrases args)
        → length (handed_slots (args_with args ls)) + length (args_slots p r (args_with args ls)) ≤ 16 * args_nodes args
    args_few r no_args ls h = omega arith
    args_few r (more_args a rest) ls h =
        let ls2 = behind (arg_phrases a) ls in
        omega (
          arith,
          length-append (arg_slots p r (arg_with a ls)) (args_slots p r (args_with rest ls2)),
          arg_few r a ls (short_front (arg_phrases a) (args_phrases rest) h),
          args_few r rest ls2 (short_back (arg_phrases a) (args_phrases rest) h),
        )

    arg_few : (r : ℕ) (a : Arg) (ls : List ℕ) → AreShort (arg_phrases a) → 1 + length (arg_slots p r (arg_with a ls)) ≤ 16 * arg_nodes a
    arg_few r (ByValue e range) ls h = let y : Expr = expr_with e ls in
        omega (arith, unless_few (bare y) (expr_slots p r y), expr_few r e ls h.1)
    arg_few r (ByCells d) ls h = omega (arith, desig_few r d ls h.1)
    arg_few r (ByPlace d) ls h = omega (arith, desig_few r d ls h.1)
    arg_few r (MixValue e range) ls h = let y : Expr = expr_with e ls in
        omega (arith, unless_few (bare y) (expr_slots p r y), expr_few r e ls h.1)
    arg_few r (MixPlace d) ls h = omega (arith, desig_few r d ls h.1)

    test_few : (r : ℕ) (t : Test) (ls : List ℕ) → AreShort (test_phrases t)
        → 1 + length (test_slots p r (test_with t ls)) ≤ 16 * test_nodes t
    test_few r (Value e) ls h = let y : Expr = expr_with e ls in omega (arith, unless_few (bare y) (expr_slots p r y), expr_few r e ls h.1)
    test_few r (Bind d e range true) ls h =
        let ls2 = behind (desig_phrases d) ls in
        let y : Expr = expr_with e ls2 in
        omega (
          arith,
          length-append (desig_slots p r (desig_with d ls)) (unless_bare (bare y) (expr_slots p r y)),
          unless_few (bare y) (expr_slots p r y),
          desig_few r d ls (short_front (desig_phrases d) (expr_phrases e) h.1),
          expr_few r e ls2 (short_back (desig_phrases d) (expr_phrases e) h.1),
        )
    test_few r (Bind d e range false) ls h =
        let ls2 = behind (expr_phrases e) ls in
        omega (
          arith,
          length-append (expr_slots p r (expr_with e ls)) (desig_slots p r (desig_with d ls2)),
          desig_few r d ls2 (short_front (desig_phrases d) (expr_phrases e) h.1),
          expr_few r e ls (short_back (desig_phrases d) (expr_phrases e) h.1),
        )
    test_few r (Unify d range e range2) ls h =
        let ls2 = behind (desig_phrases d) ls in
        omega (
          arith,
          length-append (desig_slots p r (desig_with d ls)) (desig_slots p r (desig_with e ls2)),
          desig_few r d ls (short_front (desig_phrases d) (desig_phrases e) h.1),
          desig_few r e ls2 (short_back (desig_phrases d) (desig_phrases e) h.1),
        )
    test_few r (SameCells d e) ls h =
        let ls2 = behind (desig_phrases d) ls in
        omega (
          arith,
          length-append (desig_slots p r (desig_with d ls)) (desig_slots p r (desig_with e ls2)),
          desig_few r d ls (short_front (desig_phrases d) (desig_phrases e) h.1),
          desig_few r e ls2 (short_back (desig_phrases d) (desig_phrases e) h.1),
        )
    test_few r (Seq x) ls h = omega (arith, stmts_few r x ls h.1)
    test_few r (And ts) ls h = omega (arith, and_few r ts ls h.1)
    test_few r (Or ts) ls h = omega (arith, or_few r ts ls h.1)
    test_few r (Not t) ls h = omega (arith, test_few r t ls h.1)
    test_few r (CallTest called args up) ls h =
        let x : Args = args_with args ls in
        omega (
          arith,
          length-append (links_if p r (shift_of p called) up) (handed_slots x ++ args_slots p r x),
          length-append (handed_slots x) (args_slots p r x),
          links_few (shift_of p called) up r,
          args_few r args ls h.1,
          h.0,
        )

    and_few : (r : ℕ) (ts : Tests) (ls : List ℕ) → AreShort (tests_phrases ts)
        → length (and_slots p r (tests_with ts ls)) ≤ 16 * tests_nodes ts
    and_few r no_tests ls h = omega arith
    and_few r (more_tests t rest) ls h =
        let ls2 = behind (test_phrases t) ls in
        omega (
          arith,
          length-append (test_slots p r (test_with t ls)) (and_slots p r (tests_with rest ls2)),
          test_few r t ls (short_front (test_phrases t) (tests_phrases rest) h),
          and_few r rest ls2 (short_back (test_phrases t) (tests_phrases rest) h),
        )

    or_few : (r : ℕ) (ts : Tests) (ls : List ℕ) → AreShort (tests_phrases ts)
        → length (or_slots p r (tests_with ts ls)) ≤ 16 * tests_nodes ts
    or_few r no_tests ls h = omega arith
    or_few r (more_tests t rest) ls h =
        let ls2 = behind (test_phrases t) ls in
        omega (
          arith,
          or_more r (test_with t ls) (tests_with rest ls2),
          test_few r t ls (short_front (test_phrases t) (tests_phrases rest) h),
          or_few r rest ls2 (short_back (test_phrases t) (tests_phrases rest) h),
        )

    pub stmts_few : (r : ℕ) (x : Stmts) (ls : List ℕ) → AreShort (stmts_phrases x)
        → length (stmts_slots p r (stmts_with x ls)) ≤ 16 * stmts_nodes x
    stmts_few r no_stmts ls h = omega arith
    stmts_few r (more_stmts given x rest) ls h =
        let ls2 = behind (stmt_phrases x) ls in
        omega (
          arith,
          length-append (stmt_slots p r (stmt_with x (drop 1 ls))) (stmts_slots p r (stmts_with rest ls2)),
          stmt_few r x (drop 1 ls) (short_front (stmt_phrases x) (stmts_phrases rest) h),
          stmts_few r rest ls2 (short_back (stmt_phrases x) (stmts_phrases rest) h),
        )

    stmt_few : (r : ℕ) (x : Stmt) (ls : List ℕ) → AreShort (stmt_phrases x) → length (stmt_slots p r (stmt_with x ls)) ≤ 16 * stmt_nodes x
    stmt_few r (TestStmt t) ls h = omega (arith, test_few r t ls h.1)
    stmt_few r (Assign d e range) ls h =
        let ls2 = behind (desig_phrases d) ls in
        let y : Desig = desig_with d ls in
        let z : Expr = expr_with e ls2 in
        omega (
          arith,
          length-append (unless_bare (bare_desig y) (desig_slots p r y)) (unless_bare (bare z) (expr_slots p r z)),
          unless_few (bare_desig y) (desig_slots p r y),
          unless_few (bare z) (expr_slots p r z),
          desig_few r d ls (short_front (desig_phrases d) (expr_phrases e) h.1),
          expr_few r e ls2 (short_back (desig_phrases d) (expr_phrases e) h.1),
        )
    stmt_few r (CopyCells d e) ls h =
        let ls2 = behind (desig_phrases d) ls in
        omega (
          arith,
          length-append (desig_slots p r (desig_with d ls)) (desig_slots p r (desig_with e ls2)),
          desig_few r d ls (short_front (desig_phrases d) (desig_phrases e) h.1),
          desig_few r e ls2 (short_back (desig_phrases d) (desig_phrases e) h.1),
        )
    stmt_few r (If arms rest) ls h =
        let ls2 = behind (arms_phrases arms) ls in
        omega (
          arith,
          length-append (arms_slots p r (arms_with arms ls)) (stmts_slots p r (stmts_with rest ls2)),
          arms_few r arms ls (short_front (arms_phrases arms) (stmts_phrases rest) h.1),
          stmts_few r rest ls2 (short_back (arms_phrases arms) (stmts_phrases rest) h.1),
        )
    stmt_few r (While t body) ls h =
        let ls2 = behind (test_phrases t) ls in
        let u : Test = test_with t ls in
        let x : List SlotKind = stmts_slots p r (stmts_with body ls2) in
        omega (
          arith,
          turn_few (is_turned u) (is_simple u) (held_constant u) (test_slots p r u) x,
          test_few r t ls (short_front (test_phrases t) (stmts_phrases body) h.1),
          stmts_few r body ls2 (short_back (test_phrases t) (stmts_phrases body) h.1),
        )
    stmt_few r (Repeat body t) ls h =
        let ls2 = behind (stmts_phrases body) ls in
        let u : Test = test_with t ls2 in
        let x : List SlotKind = stmts_slots p r (stmts_with body ls) in
        omega (
          arith,
          length-append x (mark_slots (is_simple u) ++ test_slots p r u),
          length-append (mark_slots (is_simple u)) (test_slots p r u),
          mark_few (is_simple u),
          test_few r t ls2 (short_back (stmts_phrases body) (test_phrases t) h.1),
          stmts_few r body ls (short_front (stmts_phrases body) (test_phrases t) h.1),
        )
    stmt_few r (ForTo l) ls h = omega (arith, for_few r l ls h.1)
    stmt_few r (SomeOf l) ls h = omega (arith, some_few r l ls h.1)
    stmt_few r (Case e arms rest) ls h =
        let parts = expr_phrases e ++ cases_phrases arms in
        let two = short_front parts (else_phrases rest) h.1 in
        let ls2 = behind (expr_phrases e) ls in
        let ls3 = behind (cases_phrases arms) ls2 in
        let dead : List SlotKind = dead_slots p r (cases_with arms ls2) in
        let a : List SlotKind = cases_slots p r (cases_with arms ls2) in
        let b : List SlotKind = else_slots p r (else_with rest ls3) in
        let tried : List SlotKind = slot.Number ∷ slot.Number ∷ (a ++ b) in
        omega (
          arith,
          length-append (expr_slots p r (expr_with e ls)) (dead ++ tried),
          length-append dead tried,
          length-append a b,
          expr_few r e ls (short_front (expr_phrases e) (cases_phrases arms) two),
          cases_few r arms ls2 (short_back (expr_phrases e) (cases_phrases arms) two),
          else_few r rest ls3 (short_back parts (else_phrases rest) h.1),
        )
    stmt_few r (Either x) ls h = omega (arith, branches_few r x ls h.1)
    stmt_few r (Forall x y) ls h =
        let ls2 = behind (stmts_phrases x) ls in
        let a : List SlotKind = stmts_slots p r (stmts_with x ls) in
        let b : List SlotKind = stmts_slots p r (stmts_with y ls2) in
        omega (
          arith,
          length-append a (slot.Mark ∷ b),
          stmts_few r x ls (short_front (stmts_phrases x) (stmts_phrases y) h.1),
          stmts_few r y ls2 (short_back (stmts_phrases x) (stmts_phrases y) h.1),
        )
    stmt_few r (Commit x) ls h = omega (arith, stmts_few r x ls h.1)
    stmt_few r (Return no_result) ls h = omega arith
    stmt_few r (Return (some_result e)) ls h = let y : Expr = expr_with e ls in
        omega (arith, unless_few (bare y) (expr_slots p r y), expr_few r e ls h.1)
    stmt_few r (Read d how range) ls h = omega (arith, desig_few r d ls h.1)
    stmt_few r (WriteExpr e how) ls h = let y : Expr = expr_with e ls in
        omega (arith, unless_few (bare y) (expr_slots p r y), expr_few r e ls h.1)
    stmt_few r (WriteText text) ls h = omega arith
    stmt_few r WriteLine ls h = omega arith

    arms_few : (r : ℕ) (arms : Arms) (ls : List ℕ) → AreShort (arms_phrases arms)
        → length (arms_slots p r (arms_with arms ls)) ≤ 16 * arms_nodes arms
    arms_few r no_arms ls h = omega arith
    arms_few r (more_arms t body rest) ls h =
        let parts = test_phrases t ++ stmts_phrases body in
        let two = short_front parts (arms_phrases rest) h in
        let ls2 = behind (test_phrases t) ls in
        let ls3 = behind (stmts_phrases body) ls2 in
        let u : Test = test_with t ls in
        let a : List SlotKind = stmts_slots p r (stmts_with body ls2) in
        let b : List SlotKind = arms_slots p r (arms_with rest ls3) in
        omega (
          arith,
          length-append (mark_slots (is_simple u)) (test_slots p r u ++ (a ++ b)),
          length-append (test_slots p r u) (a ++ b),
          length-append a b,
          mark_few (is_simple u),
          test_few r t ls (short_front (test_phrases t) (stmts_phrases body) two),
          stmts_few r body ls2 (short_back (test_phrases t) (stmts_phrases body) two),
          arms_few r rest ls3 (short_back parts (arms_phrases rest) h),
        )

    -- those of the arms that are never tried too
    cases_few : (r : ℕ) (arms : CaseArms) (ls : List ℕ) → AreShort (cases_phrases arms)
        → length (dead_slots p r (cases_with arms ls)) + length (cases_slots p r (cases_with arms ls)) ≤ 16 * cases_nodes arms
    cases_few r no_cases ls h = omega arith
    cases_few r (more_cases [] body rest) ls h =
        let ls2 = behind (stmts_phrases body) ls in
        omega (
          arith,
          length-append (stmts_slots p r (stmts_with body ls)) (dead_slots p r (cases_with rest ls2)),
          stmts_few r body ls (short_front (stmts_phrases body) (cases_phrases rest) h),
          cases_few r rest ls2 (short_back (stmts_phrases body) (cases_phrases rest) h),
        )
    cases_few r (more_cases (label ∷ labels) body rest) ls h =
        let ls2 = behind (stmts_phrases body) ls in
        omega (
          arith,
          length-append (stmts_slots p r (stmts_with body ls)) (cases_slots p r (cases_with rest ls2)),
          stmts_few r body ls (short_front (stmts_phrases body) (cases_phrases rest) h),
          cases_few r rest ls2 (short_back (stmts_phrases body) (cases_phrases rest) h),
        )

    else_few : (r : ℕ) (rest : Else) (ls : List ℕ) → AreShort (else_phrases rest)
        → length (else_slots p r (else_with rest ls)) ≤ 16 * else_nodes rest
    else_few r no_else ls h = omega arith
    else_few r (else_part body) ls h = stmts_few r body ls h

    branches_few : (r : ℕ) (x : Branches) (ls : List ℕ) → AreShort (branches_phrases x)
        → length (branches_slots p r (branches_with x ls)) ≤ 16 * branches_nodes x
    branches_few r no_branches ls h = omega arith
    branches_few r (more_branches body rest) ls h =
        let ls2 = behind (stmts_phrases body) ls in
        omega (
          arith,
          length-append (stmts_slots p r (stmts_with body ls)) (branches_slots p r (branches_with rest ls2)),
          stmts_few r body ls (short_front (stmts_phrases body) (branches_phrases rest) h),
          branches_few r rest ls2 (short_back (stmts_phrases body) (branches_phrases rest) h),
        )

    for_few : (r : ℕ) (l : Loop) (ls : List ℕ) → AreShort (loop_phrases l) → length (for_slots p r (loop_with l ls)) ≤ 2 + 16 * loop_nodes l
    for_few r (a_loop d range counter limit from to by body) ls h =
        let bounds = (desig_phrases d ++ expr_phrases from) ++ expr_phrases to in
        let three = short_front bounds (stmts_phrases body) h in
        let two = short_front (desig_phrases d ++ expr_phrases from) (expr_phrases to) three in
        let ls2 = behind (desig_phrases d) ls in
        let ls3 = behind (expr_phrases from) ls2 in
        let ls4 = behind (expr_phrases to) ls3 in
        let y : Desig = desig_with d ls in
        let a : List SlotKind = expr_slots p r (expr_with from ls2) in
        let b : List SlotKind = expr_slots p r (expr_with to ls3) in
        let c : List SlotKind = unless_bare (bare_desig y) (slot.Number ∷ desig_slots p r y) in
        let e : List SlotKind = stmts_slots p r (stmts_with body ls4) in
        omega (
          arith,
          length-append a (b ++ (c ++ e)),
          length-append b (c ++ e),
          length-append c e,
          unless_few (bare_desig y) (slot.Number ∷ desig_slots p r y),
          desig_few r d ls (short_front (desig_phrases d) (expr_phrases from) two),
          expr_few r from ls2 (short_back (desig_phrases d) (expr_phrases from) two),
          expr_few r to ls3 (short_back (desig_phrases d ++ expr_phrases from) (expr_phrases to) three),
          stmts_few r body ls4 (short_back bounds (stmts_phrases body) h),
        )

    some_few : (r : ℕ) (l : Loop) (ls : List ℕ) → AreShort (loop_phrases l)
        → length (some_slots p r (loop_with l ls)) ≤ 3 + 16 * loop_nodes l
    some_few r (a_loop d range counter limit from to by body) ls h =
        let bounds = (desig_phrases d ++ expr_phrases from) ++ expr_phrases to in
        let three = short_front bounds (stmts_phrases body) h in
        let two = short_front (desig_phrases d ++ expr_phrases from) (expr_phrases to) three in
        let ls2 = behind (desig_phrases d) ls in
        let ls3 = behind (expr_phrases from) ls2 in
        let ls4 = behind (expr_phrases to) ls3 in
        let y : Desig = desig_with d ls in
        let a : List SlotKind = expr_slots p r (expr_with from ls2) in
        let b : List SlotKind = expr_slots p r (expr_with to ls3) in
        let c : List SlotKind = unless_bare (bare_desig y) (slot.Number ∷ desig_slots p r y) in
        let e : List SlotKind = stmts_slots p r (stmts_with body ls4) in
        omega (
          arith,
          length-append a (b ++ (slot.Number ∷ (c ++ e))),
          length-append b (slot.Number ∷ (c ++ e)),
          length-append c e,
          unless_few (bare_desig y) (slot.Number ∷ desig_slots p r y),
          desig_few r d ls (short_front (desig_phrases d) (expr_phrases from) two),
          expr_few r from ls2 (short_back (desig_phrases d) (expr_phrases from) two),
          expr_few r to ls3 (short_back (desig_phrases d ++ expr_phrases from) (expr_phrases to) three),
          stmts_few r body ls4 (short_back bounds (stmts_phrases body) h),
        )
