-- Each slot for links of a routine of a checked program is for frames of a routine that exists, and not of the module.
use Rattle.std.proofs.Common.{◌≡◌, ℕ, zero, suc, ◌+◌, ◌-◌, ◌<◌, Bool, true, false, List, [], ◌∷◌, ◌++◌, length, replicate, Option, Some}
use Rattle.std.proofs.Common.{None, refl, arith, ℤ}
use Rattle.std.specs.Prelude.{nat_lt}
use Rattle.std.specs.List.{AllByRecursion, list_all}
use Rattle.std.proofs.lemmas.Bool.{lt-ltb, and_from}
use Rattle.alma_code.specs.declared.cell.SlotKind.{SlotKind}
use Rattle.alma_code.specs.declared.cell.SlotKind.TheVariants as slot
use Rattle.alma_code.specs.declared.head.Run.{Run}
use Rattle.alma_code.specs.Layout.{RunsRise, kinds_of}
use Rattle.alma_code.specs.Plain.{PlainCode}
use Rattle.alma_code.specs.Rules.{names_routine}
use Rattle.alma_ir.specs.declared.phrase.Root.{Root}
use Rattle.alma_ir.specs.declared.phrase.Root.TheVariants as root
use Rattle.alma_ir.specs.declared.program.ArgKind.{ArgKind}
use Rattle.alma_ir.specs.declared.program.ArgKind.TheVariants as kind
use Rattle.alma_ir.specs.declared.program.Param.{Param}
use Rattle.alma_ir.specs.Tree.{Stmts, Stmt, Arms, CaseArms, Else, Branches, Loop, Test, Tests, Expr, Links, Args, Arg, Desig, Sels, Sel}
use Rattle.alma_ir.specs.Tree.{Program, Routine, routine_at, no_stmts, more_stmts, TestStmt, Assign, CopyCells, If, While, Repeat, ForTo}
use Rattle.alma_ir.specs.Tree.{SomeOf, Case, Either, Forall, Commit, Return, Read, WriteExpr, WriteText, WriteLine, no_arms, more_arms}
use Rattle.alma_ir.specs.Tree.{no_cases, more_cases, no_else, else_part, no_branches, more_branches, a_loop, no_result, some_result, Value}
use Rattle.alma_ir.specs.Tree.{Bind, Unify, SameCells, Seq, And, Or, Not, CallTest, no_tests, more_tests, Const, Load, Chain, Compare}
use Rattle.alma_ir.specs.Tree.{Truth, Known, Chr, CallExpr, no_links, more_links, no_args, more_args, ByValue, ByCells, ByPlace, MixValue}
use Rattle.alma_ir.specs.Tree.{MixPlace, a_desig, no_sels, more_sels, Field, Index}
use Rattle.alma_ir.specs.Lines.{body_with_lines}
use Rattle.alma_ir.specs.Phrases.{Phrase, DesigPhrase, stmts_phrases, stmt_phrases, arms_phrases, cases_phrases, else_phrases}
use Rattle.alma_ir.specs.Phrases.{branches_phrases, loop_phrases, test_phrases, tests_phrases, expr_phrases, links_phrases, args_phrases}
use Rattle.alma_ir.specs.Phrases.{arg_phrases, desig_phrases, sels_phrases, sel_phrases}
use Rattle.alma_ir.specs.Checked.{IsChecked, RootExists, link_slots}
use Rattle.alma_ir.proofs.Each.{each_of_front, each_of_back, each_of_append}
use Rattle.alma_lower_templates.specs.Tables.{Tables}
use Rattle.alma_lower_templates.specs.Slots.{shift_of, chain_slots, links_if, bare, bare_desig, unless_bare, is_simple, mark_slots}
use Rattle.alma_lower_templates.specs.Slots.{is_turned, by_turn, held_constant, held_slots}
use Rattle.alma_lower_templates.specs.Slots.{handed_slots, arg_kind, call_links, root_slots, stmts_slots, stmt_slots, arms_slots}
use Rattle.alma_lower_templates.specs.Slots.{dead_slots, cases_slots, else_slots, branches_slots, for_slots, some_slots, test_slots}
use Rattle.alma_lower_templates.specs.Slots.{and_slots, or_slots, expr_slots, links_slots, args_slots, arg_slots, desig_slots, sels_slots}
use Rattle.alma_lower_templates.specs.Slots.{sel_slots, param_kinds, params_kinds, link_kinds, routine_kinds}
use Rattle.alma_lower_sound.proofs.Facts.{Facts, CallFacts, body_facts}
use Rattle.alma_lower_templates.specs.CodeOf.{HoldsAllOf}

module _ (p : Program) where
  -- where a slot is for links
  abbrev pub IsNamed : SlotKind → Type 0
  IsNamed (slot.Link q) = (0 < q) × (q < length p.routines)
  IsNamed slot.Number = Unit {0}
  IsNamed (slot.Place n) = Unit {0}
  IsNamed slot.Mark = Unit {0}

  abbrev pub AllNamed : List SlotKind → Type 0
  AllNamed ks = AllByRecursion IsNamed ks

  both : (a b : List SlotKind) → AllNamed a → AllNamed b → AllNamed (a ++ b)
  both a b h k = each_of_append IsNamed a b h k

  -- ---- runs

  module _ (code : PlainCode) (count : length code.routines ≡ length p.routines) where
    names_one : (k : SlotKind) → IsNamed k → names_routine code k ≡ true
    names_one (slot.Link q) h = and_from (nat_lt 0 q) (nat_lt q (length code.routines)) (lt-ltb 0 q h.0)
        (lt-ltb q (length code.routines) (omega (arith, h.1, count)))
    names_one slot.Number h = refl
    names_one (slot.Place n) h = refl
    names_one slot.Mark h = refl

    -- a run has at least one slot
    first_named : (n : ℕ) (k : SlotKind) (rest : List SlotKind) → 0 < n → AllNamed (replicate n k ++ rest) → IsNamed k
    first_named zero k rest lt h = absurd (omega (arith, lt))
    first_named (suc n) k rest lt h = h.0

    -- runs that rise, of kinds that are named
    pub runs_named : (low top : ℕ) (runs : List Run) → RunsRise low runs top → AllNamed (kinds_of low runs)
        → list_all (λ run. names_routine code run.kind) runs ≡ true
    runs_named low top [] rise h = refl
    runs_named low top (run ∷ runs) rise h =
        and_from (names_routine code run.kind) (list_all (λ x. names_routine code x.kind) runs)
        (names_one run.kind (first_named (run.end - low) run.kind (kinds_of run.end runs) (omega (arith, rise.0)) h))
        (runs_named run.end top runs rise.1 (each_of_back IsNamed (replicate (run.end - low) run.kind) (kinds_of run.end runs) h))

  -- ---- the slots of a routine

  numbers_named : (n : ℕ) → AllNamed (replicate n slot.Number)
  numbers_named zero = tt
  numbers_named (suc n) = (tt, numbers_named n)

  param_named : (k : ArgKind) (cells : ℕ) → AllNamed (param_kinds k cells)
  param_named kind.Value cells = (tt, tt)
  param_named kind.Place cells = (tt, tt)
  param_named kind.Mix cells = (tt, (tt, tt))
  param_named kind.Cells cells = numbers_named cells

  params_named : (qs : List Param) → AllNamed (params_kinds qs)
  params_named [] = tt
  params_named (q ∷ qs) = both (param_kinds q.kind q.cells) (params_kinds qs) (param_named q.kind q.cells) (params_named qs)

  unless_named : (o : Option ℕ) (ks : List SlotKind) → AllNamed ks → AllNamed (unless_bare o ks)
  unless_named (Some n) ks h = tt
  unless_named None ks h = h

  mark_named : (z : Bool) → AllNamed (mark_slots z)
  mark_named true = tt
  mark_named false = (tt, tt)

  -- the slots of WHILE, wherever its condition stands
  held_named : (o : Option ℤ) → AllNamed (held_slots o)
  held_named (Some n) = (tt, tt)
  held_named None = tt

  turn_named : (behind simple : Bool) (o : Option ℤ) (xs ys : List SlotKind) → AllNamed xs → AllNamed ys
      → AllNamed (by_turn behind (held_slots o ++ (ys ++ xs)) (mark_slots simple ++ (xs ++ ys)))
  turn_named true simple o xs ys h k = both (held_slots o) (ys ++ xs) (held_named o) (both ys xs k h)
  turn_named false simple o xs ys h k = both (mark_slots simple) (xs ++ ys) (mark_named simple) (both xs ys h k)

  arg_named : (a : Arg) → IsNamed (arg_kind a)
  arg_named (ByValue e range) = tt
  arg_named (ByCells d) = tt
  arg_named (ByPlace d) = tt
  arg_named (MixValue e range) = tt
  arg_named (MixPlace d) = tt

  handed_named : (args : Args) → AllNamed (handed_slots args)
  handed_named no_args = tt
  handed_named (more_args a rest) = (arg_named a, handed_named rest)

  module _ (tables : Tables) (code : PlainCode) (checked : IsChecked p) where
    -- a routine that is not the module
    above : (s k : ℕ) → s < length p.routines → k < (routine_at p s).level → 0 < s
    above zero k lt low = let z = (checked.nested 0 lt).body refl in absurd (omega (arith, z.0, low))
    above (suc s) k lt low = omega arith

    chain_named : (links s : ℕ) → s < length p.routines → links < (routine_at p s).level → AllNamed (chain_slots p s links)
    chain_named zero s lt deep = ((above s zero lt deep, lt), tt)
    chain_named (suc k) s lt deep =
        let some = above s (suc k) lt deep in
        let nested = checked.nested s lt in
        let up = nested.above some in
        ((some, lt), chain_named k (routine_at p s).outer nested.exists (omega (arith, deep, up)))

    module _ (r : ℕ) (lt : r < length p.routines) where
      abbrev Fine : List Phrase → Type 0
      Fine xs = AllByRecursion (Facts p tables r) xs

      fine_front : (xs ys : List Phrase) → Fine (xs ++ ys) → Fine xs
      fine_front xs ys h = each_of_front (Facts p tables r) xs ys h

      fine_back : (xs ys : List Phrase) → Fine (xs ++ ys) → Fine ys
      fine_back xs ys h = each_of_back (Facts p tables r) xs ys h

      root_named : (x : Root) (cells : ℕ) → RootExists p r (routine_at p r) (DesigPhrase (a_desig x cells no_sels))
          → AllNamed (root_slots p r x)
      root_named (root.Local from) cells h = tt
      root_named (root.Global from) cells h = tt
      root_named (root.Param from) cells h = tt
      root_named (root.Outer links from) cells h = chain_named links r lt h.0.1
      root_named (root.OuterParam links from) cells h = chain_named links r lt h.0.1

      call_named : (called up : ℕ) (args : Args) → CallFacts p tables r called args up → AllNamed (call_links p r called up)
      call_named called up args h = by (shift_of p called) (deep (routine_at p called).level)
        where
          deep : (l : ℕ) → up + l ≡ suc (routine_at p r).level → 0 < link_slots l → up < (routine_at p r).level
          deep zero e some = absurd (omega (arith, some))
          deep (suc zero) e some = absurd (omega (arith, some))
          deep (suc (suc above)) e some = omega (arith, e)

          by : (sh : ℕ) → (up + (routine_at p called).level ≡ suc (routine_at p r).level → 0 < sh → up < (routine_at p r).level)
              → AllNamed (links_if p r sh up)
          by zero f = tt
          by (suc one) f = chain_named up r lt (f h.leads.0 (omega arith))

      mutual
        unfolding stmts_phrases

        desig_named : (d : Desig) → Fine (desig_phrases d) → AllNamed (desig_slots p r d)
        desig_named (a_desig x cells sels) h = (
          tt,
          both (root_slots p r x) (sels_slots p r sels) (root_named x cells h.0.0) (sels_named sels h.1),
        )

        sels_named : (sels : Sels) → Fine (sels_phrases sels) → AllNamed (sels_slots p r sels)
        sels_named no_sels h = tt
        sels_named (more_sels x rest) h = both (sel_slots p r x) (sels_slots p r rest)
            (sel_named x (fine_front (sel_phrases x) (sels_phrases rest) h))
            (sels_named rest (fine_back (sel_phrases x) (sels_phrases rest) h))

        sel_named : (x : Sel) → Fine (sel_phrases x) → AllNamed (sel_slots p r x)
        sel_named (Field offset cells) h = (tt, tt)
        sel_named (Index e range cells) h = both (unless_bare (bare e) (expr_slots p r e)) (slot.Place cells ∷ [])
            (unless_named (bare e) (expr_slots p r e) (expr_named e h.1)) (tt, tt)

        expr_named : (e : Expr) → Fine (expr_phrases e) → AllNamed (expr_slots p r e)
        expr_named (Const n) h = (tt, tt)
        expr_named (Load d) h = (tt, unless_named (bare_desig d) (desig_slots p r d) (desig_named d h.1))
        expr_named (Chain negated e links) h = both (expr_slots p r e) (links_slots p r links)
            (expr_named e (fine_front (expr_phrases e) (links_phrases links) h.1))
            (links_named links (fine_back (expr_phrases e) (links_phrases links) h.1))
        expr_named (Compare how x y) h =
            both (expr_slots p r x) (unless_bare (bare y) (expr_slots p r y))
            (expr_named x (fine_front (expr_phrases x) (expr_phrases y) h.1))
            (unless_named (bare y) (expr_slots p r y) (expr_named y (fine_back (expr_phrases x) (expr_phrases y) h.1)))
        expr_named (Truth t) h = (tt, both (mark_slots (is_simple t)) (test_slots p r t) (mark_named (is_simple t)) (test_named t h.1))
        expr_named (Known d) h = (tt, desig_named d h.1)
        expr_named (Chr e) h = expr_named e h.1
        expr_named (CallExpr called args up) h = (
          tt,
          (
            tt,
            both (call_links p r called up) (handed_slots args ++ args_slots p r args) (call_named called up args h.0.0)
                (both (handed_slots args) (args_slots p r args) (handed_named args) (args_named args h.1)),
          ),
        )

        links_named : (links : Links) → Fine (links_phrases links) → AllNamed (links_slots p r links)
        links_named no_links h = tt
        links_named (more_links how e rest) h =
            both (unless_bare (bare e) (expr_slots p r e)) (links_slots p r rest)
            (unless_named (bare e) (expr_slots p r e) (expr_named e (fine_front (expr_phrases e) (links_phrases rest) h)))
            (links_named rest (fine_back (expr_phrases e) (links_phrases rest) h))

        args_named : (args : Args) → Fine (args_phrases args) → AllNamed (args_slots p r args)
        args_named no_args h = tt
        args_named (more_args a rest) h = both (arg_slots p r a) (args_slots p r rest)
            (arg_slots_named a (fine_front (arg_phrases a) (args_phrases rest) h))
            (args_named rest (fine_back (arg_phrases a) (args_phrases rest) h))

        arg_slots_named : (a : Arg) → Fine (arg_phrases a) → AllNamed (arg_slots p r a)
        arg_slots_named (ByValue e range) h = unless_named (bare e) (expr_slots p r e) (expr_named e h.1)
        arg_slots_named (ByCells d) h = desig_named d h.1
        arg_slots_named (ByPlace d) h = desig_named d h.1
        arg_slots_named (MixValue e range) h = unless_named (bare e) (expr_slots p r e) (expr_named e h.1)
        arg_slots_named (MixPlace d) h = desig_named d h.1

        test_named : (t : Test) → Fine (test_phrases t) → AllNamed (test_slots p r t)
        test_named (Value e) h = unless_named (bare e) (expr_slots p r e) (expr_named e h.1)
        test_named (Bind d e range true) h =
            both (desig_slots p r d) (unless_bare (bare e) (expr_slots p r e))
            (desig_named d (fine_front (desig_phrases d) (expr_phrases e) h.1))
            (unless_named (bare e) (expr_slots p r e) (expr_named e (fine_back (desig_phrases d) (expr_phrases e) h.1)))
        test_named (Bind d e range false) h = both (expr_slots p r e) (desig_slots p r d)
            (expr_named e (fine_back (desig_phrases d) (expr_phrases e) h.1))
            (desig_named d (fine_front (desig_phrases d) (expr_phrases e) h.1))
        test_named (Unify d range e range2) h = both (desig_slots p r d) (desig_slots p r e)
            (desig_named d (fine_front (desig_phrases d) (desig_phrases e) h.1))
            (desig_named e (fine_back (desig_phrases d) (desig_phrases e) h.1))
        test_named (SameCells d e) h = both (desig_slots p r d) (desig_slots p r e)
            (desig_named d (fine_front (desig_phrases d) (desig_phrases e) h.1))
            (desig_named e (fine_back (desig_phrases d) (desig_phrases e) h.1))
        test_named (Seq x) h = stmts_named x h.1
        test_named (And ts) h = and_named ts h.1
        test_named (Or ts) h = or_named ts h.1
        test_named (Not t) h = (tt, test_named t h.1)
        test_named (CallTest called args up) h =
            both (call_links p r called up) (handed_slots args ++ args_slots p r args) (call_named called up args h.0.0)
            (both (handed_slots args) (args_slots p r args) (handed_named args) (args_named args h.1))

        and_named : (ts : Tests) → Fine (tests_phrases ts) → AllNamed (and_slots p r ts)
        and_named no_tests h = tt
        and_named (more_tests t rest) h = both (test_slots p r t) (and_slots p r rest)
            (test_named t (fine_front (test_phrases t) (tests_phrases rest) h))
            (and_named rest (fine_back (test_phrases t) (tests_phrases rest) h))

        or_named : (ts : Tests) → Fine (tests_phrases ts) → AllNamed (or_slots p r ts)
        or_named no_tests h = tt
        or_named (more_tests t no_tests) h = test_named t (fine_front (test_phrases t) [] h)
        or_named (more_tests t (more_tests t2 rest)) h = (
          tt,
          both (test_slots p r t) (or_slots p r (more_tests t2 rest))
              (test_named t (fine_front (test_phrases t) (tests_phrases (more_tests t2 rest)) h))
              (or_named (more_tests t2 rest) (fine_back (test_phrases t) (tests_phrases (more_tests t2 rest)) h)),
        )

        stmts_named : (x : Stmts) → Fine (stmts_phrases x) → AllNamed (stmts_slots p r x)
        stmts_named no_stmts h = tt
        stmts_named (more_stmts line x rest) h =
            both (stmt_slots p r x) (stmts_slots p r rest) (stmt_named x (fine_front (stmt_phrases x) (stmts_phrases rest) h))
            (stmts_named rest (fine_back (stmt_phrases x) (stmts_phrases rest) h))

        stmt_named : (x : Stmt) → Fine (stmt_phrases x) → AllNamed (stmt_slots p r x)
        stmt_named (TestStmt t) h = test_named t h.1
        stmt_named (Assign d e range) h =
            both (unless_bare (bare_desig d) (desig_slots p r d)) (unless_bare (bare e) (expr_slots p r e))
            (unless_named (bare_desig d) (desig_slots p r d) (desig_named d (fine_front (desig_phrases d) (expr_phrases e) h.1)))
            (unless_named (bare e) (expr_slots p r e) (expr_named e (fine_back (desig_phrases d) (expr_phrases e) h.1)))
        stmt_named (CopyCells d e) h = both (desig_slots p r d) (desig_slots p r e)
            (desig_named d (fine_front (desig_phrases d) (desig_phrases e) h.1))
            (desig_named e (fine_back (desig_phrases d) (desig_phrases e) h.1))
        stmt_named (If arms rest) h = both (arms_slots p r arms) (stmts_slots p r rest)
            (arms_named arms (fine_front (arms_phrases arms) (stmts_phrases rest) h.1))
            (stmts_named rest (fine_back (arms_phrases arms) (stmts_phrases rest) h.1))
        stmt_named (While t body) h =
            turn_named (is_turned t) (is_simple t) (held_constant t) (test_slots p r t) (stmts_slots p r body)
            (test_named t (fine_front (test_phrases t) (stmts_phrases body) h.1))
            (stmts_named body (fine_back (test_phrases t) (stmts_phrases body) h.1))
        stmt_named (Repeat body t) h =
            both (stmts_slots p r body) (mark_slots (is_simple t) ++ test_slots p r t)
            (stmts_named body (fine_front (stmts_phrases body) (test_phrases t) h.1))
            (both (mark_slots (is_simple t)) (test_slots p r t) (mark_named (is_simple t))
            (test_named t (fine_back (stmts_phrases body) (test_phrases t) h.1)))
        stmt_named (ForTo l) h = for_named l h.1
        stmt_named (SomeOf l) h = some_named l h.1
        stmt_named (Case e arms rest) h =
            let parts = fine_front (expr_phrases e ++ cases_phrases arms) (else_phrases rest) h.1 in
            let good = fine_back (expr_phrases e) (cases_phrases arms) parts in
            let tried = slot.Number ∷ slot.Number ∷ (cases_slots p r arms ++ else_slots p r rest) in
            both (expr_slots p r e) (dead_slots p r arms ++ tried) (expr_named e (fine_front (expr_phrases e) (cases_phrases arms) parts))
            (both (dead_slots p r arms) tried (dead_named arms good) (
              tt,
              (
                tt,
                both (cases_slots p r arms) (else_slots p r rest) (cases_named arms good)
                    (else_named rest (fine_back (expr_phrases e ++ cases_phrases arms) (else_phrases rest) h.1)),
              ),
            ))
        stmt_named (Either x) h = branches_named x h.1
        stmt_named (Forall x y) h = (
          tt,
          both (stmts_slots p r x) (slot.Mark ∷ stmts_slots p r y)
              (stmts_named x (fine_front (stmts_phrases x) (stmts_phrases y) h.1))
              (tt, stmts_named y (fine_back (stmts_phrases x) (stmts_phrases y) h.1)),
        )
        stmt_named (Commit x) h = (tt, stmts_named x h.1)
        stmt_named (Return no_result) h = tt
        stmt_named (Return (some_result e)) h = unless_named (bare e) (expr_slots p r e) (expr_named e h.1)
        stmt_named (Read d how range) h = desig_named d h.1
        stmt_named (WriteExpr e how) h = unless_named (bare e) (expr_slots p r e) (expr_named e h.1)
        stmt_named (WriteText text) h = tt
        stmt_named WriteLine h = tt

        arms_named : (arms : Arms) → Fine (arms_phrases arms) → AllNamed (arms_slots p r arms)
        arms_named no_arms h = tt
        arms_named (more_arms t body rest) h =
            let two = fine_front (test_phrases t ++ stmts_phrases body) (arms_phrases rest) h in
            both (mark_slots (is_simple t)) (test_slots p r t ++ (stmts_slots p r body ++ arms_slots p r rest)) (mark_named (is_simple t))
            (both (test_slots p r t) (stmts_slots p r body ++ arms_slots p r rest)
            (test_named t (fine_front (test_phrases t) (stmts_phrases body) two))
            (both (stmts_slots p r body) (arms_slots p r rest) (stmts_named body (fine_back (test_phrases t) (stmts_phrases body) two))
            (arms_named rest (fine_back (test_phrases t ++ stmts_phrases body) (arms_phrases rest) h))))

        dead_named : (arms : CaseArms) → Fine (cases_phrases arms) → AllNamed (dead_slots p r arms)
        dead_named no_cases h = tt
        dead_named (more_cases [] body rest) h =
            both (stmts_slots p r body) (dead_slots p r rest) (stmts_named body (fine_front (stmts_phrases body) (cases_phrases rest) h))
            (dead_named rest (fine_back (stmts_phrases body) (cases_phrases rest) h))
        dead_named (more_cases (label ∷ labels) body rest) h = dead_named rest (fine_back (stmts_phrases body) (cases_phrases rest) h)

        cases_named : (arms : CaseArms) → Fine (cases_phrases arms) → AllNamed (cases_slots p r arms)
        cases_named no_cases h = tt
        cases_named (more_cases [] body rest) h = cases_named rest (fine_back (stmts_phrases body) (cases_phrases rest) h)
        cases_named (more_cases (label ∷ labels) body rest) h =
            both (stmts_slots p r body) (cases_slots p r rest) (stmts_named body (fine_front (stmts_phrases body) (cases_phrases rest) h))
            (cases_named rest (fine_back (stmts_phrases body) (cases_phrases rest) h))

        else_named : (rest : Else) → Fine (else_phrases rest) → AllNamed (else_slots p r rest)
        else_named no_else h = tt
        else_named (else_part body) h = stmts_named body h

        branches_named : (x : Branches) → Fine (branches_phrases x) → AllNamed (branches_slots p r x)
        branches_named no_branches h = tt
        branches_named (more_branches body rest) h =
            both (stmts_slots p r body) (branches_slots p r rest)
            (stmts_named body (fine_front (stmts_phrases body) (branches_phrases rest) h))
            (branches_named rest (fine_back (stmts_phrases body) (branches_phrases rest) h))

        for_named : (l : Loop) → Fine (loop_phrases l) → AllNamed (for_slots p r l)
        for_named (a_loop d range counter limit from to by body) h =
            let c = unless_bare (bare_desig d) (slot.Number ∷ desig_slots p r d) in
            let three = fine_front ((desig_phrases d ++ expr_phrases from) ++ expr_phrases to) (stmts_phrases body) h in
            let two = fine_front (desig_phrases d ++ expr_phrases from) (expr_phrases to) three in (
              tt,
              both (expr_slots p r from) (expr_slots p r to ++ (c ++ stmts_slots p r body))
                  (expr_named from (fine_back (desig_phrases d) (expr_phrases from) two))
                  (both (expr_slots p r to) (c ++ stmts_slots p r body)
                  (expr_named to (fine_back (desig_phrases d ++ expr_phrases from) (expr_phrases to) three))
                  (both c (stmts_slots p r body) (unless_named (bare_desig d) (slot.Number ∷ desig_slots p r d)
                  (tt, desig_named d (fine_front (desig_phrases d) (expr_phrases from) two)))
                  (stmts_named body (fine_back ((desig_phrases d ++ expr_phrases from) ++ expr_phrases to) (stmts_phrases body) h)))),
            )

        some_named : (l : Loop) → Fine (loop_phrases l) → AllNamed (some_slots p r l)
        some_named (a_loop d range counter limit from to by body) h =
            let c = unless_bare (bare_desig d) (slot.Number ∷ desig_slots p r d) in
            let three = fine_front ((desig_phrases d ++ expr_phrases from) ++ expr_phrases to) (stmts_phrases body) h in
            let two = fine_front (desig_phrases d ++ expr_phrases from) (expr_phrases to) three in (
              tt,
              both (expr_slots p r from) (expr_slots p r to ++ (slot.Number ∷ (c ++ stmts_slots p r body)))
                  (expr_named from (fine_back (desig_phrases d) (expr_phrases from) two))
                  (both (expr_slots p r to) (slot.Number ∷ (c ++ stmts_slots p r body))
                  (expr_named to (fine_back (desig_phrases d ++ expr_phrases from) (expr_phrases to) three)) (
                    tt,
                    both c (stmts_slots p r body) (unless_named (bare_desig d) (slot.Number ∷ desig_slots p r d)
                        (tt, desig_named d (fine_front (desig_phrases d) (expr_phrases from) two)))
                        (stmts_named body (fine_back ((desig_phrases d ++ expr_phrases from) ++ expr_phrases to) (stmts_phrases body) h)),
                  )),
            )

      -- ---- the whole frame

      link_named : (level : ℕ) → (routine_at p r).level ≡ level → AllNamed (link_kinds level (routine_at p r).outer)
      link_named zero e = tt
      link_named (suc zero) e = tt
      link_named (suc (suc above_it)) e =
          let nested = checked.nested r lt in
          let up = nested.above (above r zero lt (omega (arith, e))) in
          ((above (routine_at p r).outer zero nested.exists (omega (arith, e, up)), nested.exists), tt)

      pub kinds_named : HoldsAllOf p tables → AllNamed (routine_kinds p r)
      kinds_named held =
          let own : Routine = routine_at p r in
          let link = link_kinds own.level own.outer in
          let params = params_kinds own.params in
          let others = replicate (own.slots - length params) slot.Number in
          both (link ++ (params ++ others)) (stmts_slots p r (body_with_lines own))
          (both link (params ++ others) (link_named own.level refl)
          (both params others (params_named own.params) (numbers_named (own.slots - length params))))
          (stmts_named (body_with_lines own) (body_facts p tables r checked held lt))
