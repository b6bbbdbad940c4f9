-- How each phrase of a routine runs, by induction over the phrases: one call of its form for each.
use Rattle.std.proofs.Common.{◌≡◌, ℕ, zero, suc, ◌+◌, ◌-◌, ◌<◌, ◌≤◌, Bool, true, false, List, [], ◌∷◌, ◌++◌, length, get_or, drop, Some}
use Rattle.std.proofs.Common.{None, Option, inl, inr, refl, sym, ap, ◌∙◌, subst, arith, append_assoc, ℤ}
use Rattle.std.specs.Prelude.{slice_get, IsNone, IsSome}
use Rattle.alma_base.specs.declared.number.Range.{Range}
use Rattle.alma_base.specs.Numbers.{is_integer}
use Rattle.alma_code.specs.declared.cell.SlotKind.{SlotKind}
use Rattle.alma_code.specs.declared.cell.SlotKind.TheVariants as slot
use Rattle.alma_code.specs.declared.head.Run.{Run}
use Rattle.alma_code.specs.Layout.{kinds_of}
use Rattle.alma_code.specs.Plain.{PlainCode, kinds_at}
use Rattle.alma_ir.specs.declared.phrase.Cmp.{Cmp}
use Rattle.alma_ir.specs.declared.phrase.Cmp.TheVariants as cmp
use Rattle.alma_ir.specs.declared.phrase.Root.{Root}
use Rattle.alma_ir.specs.declared.phrase.Root.TheVariants as root
use Rattle.alma_ir.specs.Tree.{Stmts, Stmt, Arms, CaseArms, Else, Branches, Loop, Test, Tests, Expr, Links, Args, Arg, Desig, Sels, Sel}
use Rattle.alma_ir.specs.Tree.{Program, routine_at, no_stmts, more_stmts, TestStmt, Assign, CopyCells, If, While, Repeat, ForTo, SomeOf}
use Rattle.alma_ir.specs.Tree.{Case, Either, Forall, Commit, Return, Read, WriteExpr, WriteText, WriteLine, no_arms, more_arms, no_cases}
use Rattle.alma_ir.specs.Tree.{more_cases, no_else, else_part, no_branches, more_branches, a_loop, no_result, some_result, Value, Bind}
use Rattle.alma_ir.specs.Tree.{Unify, SameCells, Seq, And, Or, Not, CallTest, no_tests, more_tests, Const, Load, Chain, Compare, Truth}
use Rattle.alma_ir.specs.Tree.{Known, Chr, CallExpr, no_links, more_links, no_args, more_args, ByValue, ByCells, ByPlace, MixValue}
use Rattle.alma_ir.specs.Tree.{MixPlace, a_desig, no_sels, more_sels, Field, Index}
use Rattle.alma_ir.specs.Checked.{IsChecked, IsHiddenSlot, IsOutside, param_slots, slots_of_kind, HoldsPlace, HasChoice, RootExists}
use Rattle.alma_ir.specs.Checked.{AreNumbers, LeavesPosition, HoldPlace, ArePartsOf, IsPart, desig_cells, sel_cells, outer_at}
use Rattle.alma_ir.specs.Checked as checked_of
use Rattle.alma_ir.specs.declared.program.ArgKind.{ArgKind}
use Rattle.alma_ir.specs.declared.program.ArgKind.TheVariants as kind
use Rattle.alma_ir.specs.declared.program.Param.{Param}
use Rattle.alma_ir.proofs.Each.{each_follows}
use Rattle.alma_ir.specs.Lines.{behind, stmts_with, stmt_with, arms_with, cases_with, else_with, branches_with, loop_with, test_with}
use Rattle.alma_ir.specs.Lines.{tests_with, expr_with, links_with, args_with, arg_with, desig_with, sels_with, sel_with}
use Rattle.alma_ir.specs.Phrases.{Phrase, StmtPhrase, DesigPhrase, stmts_phrases, stmt_phrases, arms_phrases, cases_phrases, else_phrases}
use Rattle.alma_ir.specs.Phrases.{branches_phrases, loop_phrases, test_phrases, tests_phrases, expr_phrases, links_phrases, args_phrases}
use Rattle.alma_ir.specs.Phrases.{arg_phrases, desig_phrases, sels_phrases, sel_phrases}
use Rattle.alma_mean.specs.Meaning.{Level, level_above, ev_desig, ev_stmt, ev_stmts, ev_test}
use Rattle.alma_mean.specs.Events.{Events, NoYield, Visit, one, bind, on_first}
use Rattle.alma_mean.specs.Rows.{while_turn, repeat_turn}
use Rattle.alma_lower_implements.proofs.Ways.{Later, visited_later}
use Rattle.alma_lower_templates.specs.Stands.{Stands}
use Rattle.alma_base.specs.Limits.{input_limit}
use Rattle.alma_lower_implements.proofs.Frames.{shift, own_end, HasSlots}
use Rattle.alma_lower_implements.proofs.ExprRows.{AreVariables, first_kind, slots_first, slots_behind}
use Rattle.alma_lower_templates.specs.Tables.{Tables}
use Rattle.alma_lower_templates.specs.Slots.{routine_kinds, bare, bare_desig, own_place, unless_bare, is_simple, mark_slots}
use Rattle.alma_lower_templates.specs.Slots.{handed_slots, root_slots, stmts_slots, stmt_slots, test_slots, and_slots, or_slots, expr_slots}
use Rattle.alma_lower_templates.specs.Slots.{links_slots, args_slots, arg_slots, desig_slots, sels_slots, sel_slots, behind_expr}
use Rattle.alma_lower_templates.specs.Slots.{behind_dead, behind_value, behind_desig, behind_test, behind_stmts, behind_stmt}
use Rattle.alma_lower_templates.specs.Slots.{behind_condition, behind_variable, behind_held, is_turned, held_constant, held_slots}
use Rattle.alma_lower_templates.specs.Slots.{arms_slots, dead_slots, cases_slots, else_slots, fields_from}
use Rattle.alma_lower_templates.specs.Compiled.{program_code}
use Rattle.alma_lower_templates.specs.Templates.{part_slot, part_at, behind_root, arg_code, desig_code, place_at, stmts_code, stmt_code}
use Rattle.alma_lower_templates.specs.Pieces.{place_code}
use Rattle.alma_lower_templates.proofs.AtOnce.{BareFits}
use Rattle.alma_lower_templates.proofs.Args.{ArgPart, ArgParts, RangeFits, same_cells}
use Rattle.alma_lower_templates.proofs.Asked.{HasUnlessWhole, Asked, Fine, fine_front, fine_back, fine_first, fine_second, fine_third}
use Rattle.alma_lower_templates.proofs.Asked.{fine_fourth, fine_test, fine_expr, fine_arg, fine_desig, fine_sel, fine_stmt, has_line}
use Rattle.alma_lower_templates.proofs.Asked.{swapped_first, swapped_second, cells_with, args_with_fit, DesigGoes, OperandsGo, ExprGoes}
use Rattle.alma_lower_templates.proofs.Asked.{TestGoes, once, behind_first, target, variable, decides, decides_back, Stays, stays_front}
use Rattle.alma_lower_templates.proofs.Asked.{stays_back, sel_cells_with, parts_with, limit_goes}
use Rattle.alma_lower_templates.proofs.Fields.{fields_fit}
use Rattle.alma_lower_templates.proofs.BarrierForms.{no_stmts_run, more_stmts_run, AndRun, no_and_run, more_and_run, and_runs, seq_runs}
use Rattle.alma_lower_templates.proofs.BarrierForms.{not_runs, commit_runs}
use Rattle.alma_lower_templates.proofs.Calls.{RoutineRuns}
use Rattle.alma_lower_templates.proofs.CallForms.{test_call_runs, expr_call_runs}
use Rattle.alma_lower_templates.proofs.CaseForms.{CasesRun, FirstRun, unlabelled_run, labelled_run, no_else_run, else_run, no_first_run}
use Rattle.alma_lower_templates.proofs.CaseForms.{unlabelled_first_run, labelled_first_run, case_runs}
use Rattle.alma_lower_templates.proofs.ForStatement.{for_runs, for_counts}
use Rattle.alma_lower_templates.proofs.SomeForms.{some_runs, some_counts}
use Rattle.alma_lower_templates.proofs.CellRuns.{copy_runs, match_runs}
use Rattle.alma_lower_templates.proofs.CellTests.{bind_runs, bind_value_runs, unify_runs}
use Rattle.alma_lower_templates.proofs.ChoiceForms.{EachRuns, either_form, OperandsRun, last_operand_run, more_operands_run, one_or_runs}
use Rattle.alma_lower_templates.proofs.ChoiceForms.{or_runs}
use Rattle.alma_lower_templates.proofs.Destinations.{Goal, in_first, in_slot, in_variable, goal_end, goal_ways, GoalFits, goal_takes}
use Rattle.alma_lower_templates.proofs.Straight.{alone_bare}
use Rattle.alma_lower_templates.proofs.OwnPlace.{OwnFits, own_root_is, held_runs}
use Rattle.alma_lower_templates.proofs.Placed.{by_sels}
use Rattle.alma_lower_templates.proofs.DesigForms.{SelRuns, SelsRun, EndFits, PartsRun, field_runs, part_end, part_kind, desig_ends}
use Rattle.alma_lower_templates.proofs.DesigForms.{index_runs, no_sels_run, more_sels_run, desig_runs, placed_runs}
use Rattle.alma_lower_templates.proofs.ExprForms.{LinksRun, OthersRun, const_to, const_runs, load_runs, load_straight, more_links_run}
use Rattle.alma_lower_templates.proofs.ExprForms.{chain_runs, chain_straight, compare_runs, unequal_runs, known_runs, first_slot}
use Rattle.alma_lower_templates.proofs.ExprForms.{some_slots}
use Rattle.alma_lower_templates.proofs.Tested.{Tested, tested, as_value, as_unequal}
use Rattle.alma_lower_templates.proofs.FormRuns.{DesigRuns, TestRuns, ListRuns, StmtRuns, StatementRuns}
use Rattle.alma_lower_templates.proofs.ForallRuns.{forall_runs}
use Rattle.alma_lower_templates.proofs.GuardedForms.{ArmsRun, no_arms_run, more_arms_run, no_arms_if, if_runs}
use Rattle.alma_lower_templates.proofs.Levels.{Below, ForTurns, SomeTurns, owes_less}
use Rattle.alma_lower_templates.proofs.ReadForms.{read_runs}
use Rattle.alma_lower_templates.proofs.Returning.{return_runs, return_value_runs}
use Rattle.alma_lower_templates.proofs.Parts.{NodeFor, RunsFor, PlaceIn, ending, as_statement}
use Rattle.alma_lower_templates.proofs.LoopForms.{truth_runs, TurnsRun, HeldTurnsRun, TurnKnown, while_top, while_exit, while_slots}
use Rattle.alma_lower_templates.proofs.LoopForms.{behind_constant, turned_top, while_turn_runs, while_runs}
use Rattle.alma_lower_templates.proofs.LoopForms.{repeat_exit, repeat_turn_runs, repeat_runs}
use Rattle.alma_lower_templates.proofs.RangeChecks.{chr_runs}
use Rattle.alma_lower_templates.proofs.RootForms.{RootFits, IsParam}
use Rattle.alma_lower_templates.proofs.StmtForms.{value_runs, test_stmt_runs, assign_runs, write_runs, text_runs, line_runs}

part_above : (p : Program) (tables : Tables) (r lo : ℕ) (x : Sel) → lo ≤ part_slot p tables r lo x
part_above p tables r lo (Field offset cells) = omega arith
part_above p tables r lo (Index e range cells) = omega arith

-- the slot of a root is before those of the selectors: where none follow it is the last slot of all
root_near : (p : Program) (tables : Tables) (r : ℕ) (sels : Sels) (lo next : ℕ) → lo < next
    → by_sels sels (part_at p tables r lo next sels) lo < next
root_near p tables r no_sels lo next lt = lt
root_near p tables r (more_sels x rest) lo next lt = lt

placed_near : (sels : Sels) (to lo next : ℕ) → to ≤ lo → lo < next → by_sels sels to lo < next
placed_near no_sels to lo next le lt = omega (arith, le, lt)
placed_near (more_sels x rest) to lo next le lt = lt

same_value : (a b : Expr) → Value a ≡ Value b → a ≡ b
same_value a b e = cc

same_number : (a b : ℤ) → Const a ≡ Const b → a ≡ b
same_number a b e = cc

same_left : (how how2 : Cmp) (a b c d : Expr) → Compare how a c ≡ Compare how2 b d → a ≡ b
same_left how how2 a b c d e = cc

same_right : (how how2 : Cmp) (a b c d : Expr) → Compare how a c ≡ Compare how2 b d → c ≡ d
same_right how how2 a b c d e = cc

module _ (p : Program) (tables : Tables) (code : PlainCode) (all : List (List Run)) (is : code ≡ program_code p tables all)
    (count : length all ≡ length p.routines) (names : (r : ℕ) → r < length p.routines → kinds_of 0 (get_or all r []) ≡ routine_kinds p r)
    (checked : IsChecked p)
    (input : List ℕ) (lawful : length input ≤ input_limit) (flat : shift p 0 ≡ 0)
    (position_kind : slice_get (kinds_at code 0) 0 ≡ Some slot.Number)
    (results : (r : ℕ) (range : Range) → r < length p.routines → (routine_at p r).result ≡ Some range
    → HasUnlessWhole p tables code input range)
    -- what the tables of slots say of the variables and parameters of a routine
    (variables : (r from cells : ℕ) → r < length p.routines → AreNumbers (routine_at p r) from cells → LeavesPosition r from
    → AreVariables p code input r from cells)
    (params : (r from cells : ℕ) → r < length p.routines → HoldPlace (routine_at p r).params from cells → IsParam p code input r from cells)
  where
    -- ---- roots

    -- the routine so many links up, and its level
    outer_there : (links r : ℕ) → r < length p.routines → links ≤ (routine_at p r).level → (outer_at p r links < length p.routines)
        × ((routine_at p (outer_at p r links)).level + links ≡ (routine_at p r).level)
    outer_there zero r lt le = (lt, omega arith)
    outer_there (suc links) r lt le =
        let nested = checked.nested r lt in
        let above = nested.above (not_main r nested.body le) in
        let z = outer_there links (routine_at p r).outer nested.exists (omega (arith, le, above)) in
        (z.0, omega (arith, z.1, above))
      where
        not_main : (s : ℕ) → (s ≡ 0 → ((routine_at p s).level ≡ 0) × ((routine_at p s).outer ≡ 0)) → suc links ≤ (routine_at p s).level
            → 0 < s
        not_main zero main low = let z = main refl in absurd (omega (arith, z.0, low))
        not_main (suc s) main low = omega arith

    -- a routine that is led out to is not the body of the module
    not_main_outer : (r links : ℕ) → r < length p.routines → links < (routine_at p r).level → outer_at p r links ≡ 0 → ⊥
    not_main_outer r links lt few zero_is =
        let z = outer_there links r lt (omega (arith, few)) in
        let main = (checked.nested 0 checked.body.0).body refl in
        let same : (routine_at p (outer_at p r links)).level ≡ 0 = ap (λ n. (routine_at p n).level) zero_is ∙ main.0 in
        omega (arith, z.1, same, few)

    root_fits : (r cells : ℕ) (sels : Sels) (x : Root) → r < length p.routines
        → RootExists p r (routine_at p r) (DesigPhrase (a_desig x cells sels)) → RootFits p code input r x cells
    root_fits r cells sels (root.Local from) lt h = variables r from cells lt h.0 h.1
    root_fits r cells sels (root.Global from) lt h = (variables 0 from cells checked.body.0 h.1 (λ e. h.2), flat)
    root_fits r cells sels (root.Param from) lt h = params r from cells lt h
    root_fits r cells sels (root.Outer links from) lt h =
        let z = outer_there links r lt (omega (arith, h.0.1)) in
        (h.0.1, variables (outer_at p r links) from cells z.0 h.1 (λ e. absurd (not_main_outer r links lt h.0.1 e)))
    root_fits r cells sels (root.OuterParam links from) lt h =
        let z = outer_there links r lt (omega (arith, h.0.1)) in
        (h.0.1, params (outer_at p r links) from cells z.0 h.1)

    -- a field of a variable of the routine is one
    bare_fits : (below : Level) (line q r cells : ℕ) (sels sels2 : Sels) (x : Root) → r < length p.routines
        → RootExists p r (routine_at p r) (DesigPhrase (a_desig x cells sels2)) → ArePartsOf sels cells
        → desig_cells (a_desig x cells sels) ≡ 1 → BareFits p tables code input below r line q (bare_desig (a_desig x cells sels))
    bare_fits below line q r cells sels sels2 (root.Local from) lt h parts e = by (fields_from from sels) refl
      where
        by : (o : Option ℕ) → fields_from from sels ≡ o → BareFits p tables code input below r line q o
        by (Some to) is =
            subst (AreVariables p code input r to) e
            (fields_fit p code input r sels from cells to (variables r from cells lt h.0 h.1) parts is)
        by None is = tt
    bare_fits below line q r cells sels sels2 (root.Global from) lt h parts e = tt
    bare_fits below line q r cells sels sels2 (root.Param from) lt h parts e = tt
    bare_fits below line q r cells sels sels2 (root.Outer links from) lt h parts e = tt
    bare_fits below line q r cells sels sels2 (root.OuterParam links from) lt h parts e = tt

    -- the slot of a whole parameter
    own_fits : (r cells : ℕ) (sels sels2 : Sels) (x : Root) → r < length p.routines
        → RootExists p r (routine_at p r) (DesigPhrase (a_desig x cells sels2))
        → OwnFits p code input r (own_place (a_desig x cells sels)) (desig_cells (a_desig x cells sels))
    own_fits r cells no_sels sels2 (root.Param from) lt h = params r from cells lt h
    own_fits r cells (more_sels y rest) sels2 (root.Param from) lt h = tt
    own_fits r cells sels sels2 (root.Local from) lt h = tt
    own_fits r cells sels sels2 (root.Global from) lt h = tt
    own_fits r cells sels sels2 (root.Outer links from) lt h = tt
    own_fits r cells sels sels2 (root.OuterParam links from) lt h = tt

    -- counter and limit of a loop are variables of the routine
    hidden_variable : (r n : ℕ) → r < length p.routines → IsHiddenSlot p r n → AreVariables p code input r n 1
    hidden_variable r n lt h = variables r n 1 lt
        (record {
          exist = omega (arith, h.exists);
          kinds =
              each_follows (λ x. IsOutside x.slot (param_slots x) n) (λ x. HoldsPlace x.kind → IsOutside n 1 x.slot) outside
              (routine_at p r).params
              h.params;
        }) h.position
      where
        outside : (x : Param) → IsOutside x.slot (param_slots x) n → HoldsPlace x.kind → IsOutside n 1 x.slot
        outside x away holds = by x.kind away holds
          where
            by : (k : ArgKind) → IsOutside x.slot (slots_of_kind k x.cells) n → HoldsPlace k → IsOutside n 1 x.slot
            by kind.Place (inl early) holds = inr (omega (arith, early))
            by kind.Place (inr late) holds = inl (omega (arith, late))
            by kind.Mix (inl early) holds = inr (omega (arith, early))
            by kind.Mix (inr late) holds = inl (omega (arith, late))
            by kind.Value away holds = absurd holds
            by kind.Cells away holds = absurd holds

    module _ (below : Level) (n : ℕ) (routines : (r : ℕ) → r < length p.routines → RoutineRuns p tables code input below r n)
        (know : Below p tables code input below n) where
      abbrev GoodDesig : (r line : ℕ) → Desig → Type 0
      GoodDesig r line d = DesigGoes p tables code input below r line (suc n) d

      abbrev GoodExpr : (r line : ℕ) → Expr → Type 0
      GoodExpr r line e = ExprGoes p tables code input below r line (suc n) e

      abbrev GoodTest : (r line : ℕ) → Test → Type 0
      GoodTest r line t = TestGoes p tables code input below r line (suc n) t

      abbrev FineIn : (r : ℕ) → List Phrase → List ℕ → Type 0
      FineIn r xs ls = Fine p tables code input r xs ls

      -- a place as an argument
      place_of : (r line at la : ℕ) (d : Desig) → GoodDesig r line d → HasSlots p code r la (desig_slots p r d)
          → ArgPart p tables code input below r line (suc n) at la (ByPlace d)
      place_of r line at la d g slots to small own_to kind =
          subst (λ k. NodeFor p code input r line at to (place_code to (desig_code p tables r line at la d)) (ev_desig p input below d)
          (PlaceIn p code input to k) (suc n)) (sym (same_cells d))
          (g.placed to at la (record {
            behind = own_to;
            above = omega arith;
            kind = subst (λ k. slice_get (kinds_at code r) to ≡ Some (slot.Place k)) (same_cells d) kind;
          }) (omega (arith, small)) slots)

      -- a value as an argument
      value_of : (r line at la : ℕ) (e : Expr) (range : Range) → GoodExpr r line e → RangeFits p tables code input range
          → HasSlots p code r la (unless_bare (bare e) (expr_slots p r e))
          → ArgPart p tables code input below r line (suc n) at la (ByValue e range)
      value_of r line at la e range g fits slots = record {
        once = once p tables code input below r line (suc n) e g at la slots;
        fits = fits;
        straightly = λ to alone le behind kind. g.straightly (in_slot to) at la alone (le, behind, kind)
            (subst (λ o. HasSlots p code r la (unless_bare o (expr_slots p r e))) (alone_bare e alone) slots);
      }

      -- a value as a test
      value_goes : (r line : ℕ) (x : Expr) → GoodExpr r line x → Tested p tables r x → (at lo : ℕ)
          → HasSlots p code r lo (unless_bare (bare x) (expr_slots p r x))
          → TestRuns p tables code input below r line (suc n) at lo (Value x)
      value_goes r line x g (as_value is) at lo slots =
          value_runs p tables code input below r line (suc n) at lo x is slots.behind
          (once p tables code input below r line (suc n) x g at lo slots)
      value_goes r line x g (as_unequal a b same) at lo slots =
          let o = g.operands cmp.Unequal a b same in
          let both : HasSlots p code r lo (expr_slots p r a ++ unless_bare (bare b) (expr_slots p r b)) =
          subst (λ k. HasSlots p code r lo (unless_bare (bare k) (expr_slots p r k))) same slots in
          subst (λ k. TestRuns p tables code input below r line (suc n) at lo (Value k)) (sym same)
          (unequal_runs p tables code input below r line (suc n) at lo a b both
          (o.first at lo (slots_first p code input r lo (expr_slots p r a) (unless_bare (bare b) (expr_slots p r b)) both)) o.fits
          (o.second (behind_expr p r lo a) (slots_behind p code input r lo (expr_slots p r a) (unless_bare (bare b) (expr_slots p r b))
          both)))

      -- operands of OR, given those behind
      abbrev Others : (r line : ℕ) → Tests → Type 0
      Others r line ts = (ts ≡ no_tests → ⊥) → (jump next lo : ℕ) → HasSlots p code r lo (or_slots p r ts)
          → OperandsRun p tables code input below r line (suc n) jump next lo ts

      or_first : (r line at lo : ℕ) (t : Test) (rest : Tests) → GoodTest r line t → Others r line rest
          → HasSlots p code r lo (or_slots p r (more_tests t rest))
          → TestRuns p tables code input below r line (suc n) at lo (Or (more_tests t rest))
      or_first r line at lo t no_tests g others slots = one_or_runs p tables code input below r line (suc n) at lo t (g.runs at lo slots)
      or_first r line at lo t (more_tests t2 rest) g others slots =
          let inside = slots_behind p code input r lo (slot.Mark ∷ []) (test_slots p r t ++ or_slots p r (more_tests t2 rest)) slots in
          or_runs p tables code input below r line (suc n) at lo t t2 rest slots
          (g.runs (at + 2) (lo + 1) (slots_first p code input r (lo + 1) (test_slots p r t) (or_slots p r (more_tests t2 rest)) inside))
          (λ jump next. others (λ bad. absurd (cc)) jump next (behind_test p r (lo + 1) t)
          (slots_behind p code input r (lo + 1) (test_slots p r t) (or_slots p r (more_tests t2 rest)) inside))

      or_next : (r line jump at lo : ℕ) (t : Test) (rest : Tests) → GoodTest r line t → Others r line rest
          → HasSlots p code r lo (or_slots p r (more_tests t rest))
          → OperandsRun p tables code input below r line (suc n) jump at lo (more_tests t rest)
      or_next r line jump at lo t no_tests g others slots =
          last_operand_run p tables code input below r line (suc n) jump at lo t (g.runs at lo slots)
      or_next r line jump at lo t (more_tests t2 rest) g others slots =
          let inside = slots_behind p code input r lo (slot.Mark ∷ []) (test_slots p r t ++ or_slots p r (more_tests t2 rest)) slots in
          more_operands_run p tables code input below r line (suc n) jump at lo t t2 rest slots
          (g.runs (at + 2) (lo + 1) (slots_first p code input r (lo + 1) (test_slots p r t) (or_slots p r (more_tests t2 rest)) inside))
          (λ next. others (λ bad. absurd (cc)) jump next (behind_test p r (lo + 1) t)
          (slots_behind p code input r (lo + 1) (test_slots p r t) (or_slots p r (more_tests t2 rest)) inside))

      -- ---- statements that have no RETURN, and RETURN

      plain : (may : Bool) (r line at lo : ℕ) (x : Stmt) → StmtRuns p tables code input below r line (suc n) at lo x
          → StatementRuns p tables code input below r line (suc n) may at lo x
      plain may r line at lo x runs stands v now b =
          as_statement p code input may line at (at + length (stmt_code p tables r line at lo x)) lo r now (ev_stmt p input below x v)
          (suc n)
          (runs stands v now b)

      may_return : (may : Bool) (r line at lo : ℕ) (x : Stmt) → (may ≡ false → ⊥)
          → StatementRuns p tables code input below r line (suc n) true at lo x
          → StatementRuns p tables code input below r line (suc n) may at lo x
      may_return true r line at lo x allowed h = h
      may_return false r line at lo x allowed h = absurd (allowed refl)

      less_one : n ≡ suc n - 1
      less_one = omega arith

      -- the list of a turn, which the level below runs
      turn_list : (may : Bool) (r line : ℕ) → r < length p.routines → (x : Stmts) (ls : List ℕ) → FineIn r (stmts_phrases x) ls
          → Stays p tables code input may (stmts_phrases x) → (at lo : ℕ) → HasSlots p code r lo (stmts_slots p r (stmts_with x ls))
          → RunsFor p code input may r line at lo (stmts_code p tables r at lo (stmts_with x ls)) (below.stmts (stmts_with x ls))
          (suc n - 1)
      turn_list may r line lt x ls fine stays at lo slots =
          subst (λ k. RunsFor p code input may r line at lo (stmts_code p tables r at lo (stmts_with x ls)) (below.stmts (stmts_with x ls))
          k)
          less_one (know.lists may r line lt x ls fine stays at lo slots)

      -- the list of a turn of WHILE, which pays for the test before it
      turn_body : (may : Bool) (r line : ℕ) → r < length p.routines → (x : Stmts) (ls : List ℕ) → FineIn r (stmts_phrases x) ls
          → Stays p tables code input may (stmts_phrases x) → (at lo : ℕ) → HasSlots p code r lo (stmts_slots p r (stmts_with x ls))
          → RunsFor p code input may r line at lo (stmts_code p tables r at lo (stmts_with x ls)) (below.stmts (stmts_with x ls)) (n - 1)
      turn_body may r line lt x ls fine stays at lo slots =
          owes_less p tables code input may r line at lo (stmts_code p tables r at lo (stmts_with x ls)) (below.stmts (stmts_with x ls)) n
          (n - 1) (omega arith) (know.lists may r line lt x ls fine stays at lo slots)

      -- an ELSE list, wherever it stands
      abbrev ElseRuns : (may : Bool) (r : ℕ) → Stmts → Type 0
      ElseRuns may r els = (line at lo : ℕ) → HasSlots p code r lo (stmts_slots p r els)
          → ListRuns p tables code input below r line (suc n) may at lo els

      -- ---- slots

      condition_slots : (r lo : ℕ) (z : Bool) (xs ys : List SlotKind) → HasSlots p code r lo (mark_slots z ++ (xs ++ ys))
          → HasSlots p code r lo (mark_slots z ++ xs) × HasSlots p code r (lo + length (mark_slots z) + length xs) ys
      condition_slots r lo z xs ys h =
          let behind_mark = slots_behind p code input r lo (mark_slots z) (xs ++ ys) h in (
            slots_first p code input r lo (mark_slots z ++ xs) ys
                (subst (HasSlots p code r lo) (sym (append_assoc (mark_slots z) xs ys)) h),
            slots_behind p code input r (lo + length (mark_slots z)) xs ys behind_mark,
          )

      -- the condition and the body of a turn of WHILE, which the level below runs
      turn_known : (z : Bool) (may : Bool) (r line : ℕ) → r < length p.routines → (t : Test) (body : Stmts) (ls : List ℕ)
          → FineIn r (test_phrases t ++ stmts_phrases body) ls → Stays p tables code input may (test_phrases t ++ stmts_phrases body)
          → (at lo : ℕ) → is_turned (test_with t ls) ≡ z
          → HasSlots p code r lo (while_slots p tables code input below r line (suc n) z (test_with t ls)
          (stmts_with body (behind (test_phrases t) ls)))
          → TurnKnown p tables code input below r line (suc n) z may at lo (test_with t ls) (stmts_with body (behind (test_phrases t) ls))
          (below.test (test_with t ls)) (below.stmts (stmts_with body (behind (test_phrases t) ls))) n
      turn_known true may r line lt t body ls inner inner_stays at lo e slots =
          let ls2 = behind (test_phrases t) ls in
          let u : Test = test_with t ls in
          let x : Stmts = stmts_with body ls2 in
          let lo1 : ℕ = behind_held p r lo u in
          let at1 : ℕ = behind_constant p tables code input below r line (suc n) at lo u + 1 in
          let slots1 = slots_behind p code input r lo (held_slots (held_constant u)) (stmts_slots p r x ++ test_slots p r u) slots in
          record {
            decides = know.backs r line lt t ls (fine_front p tables code input r (test_phrases t) (stmts_phrases body) ls inner) e
                (turned_top p tables code input below r line (suc n) at lo u x) (behind_stmts p r lo1 x) lo at1
                (slots_behind p code input r lo1 (stmts_slots p r x) (test_slots p r u) slots1);
            runs = turn_body may r line lt body ls2 (fine_back p tables code input r (test_phrases t) (stmts_phrases body) ls inner)
                (stays_back p tables code input may (test_phrases t) (stmts_phrases body) inner_stays) at1 lo1
                (slots_first p code input r lo1 (stmts_slots p r x) (test_slots p r u) slots1);
          }
      turn_known false may r line lt t body ls inner inner_stays at lo e slots =
          let ls2 = behind (test_phrases t) ls in
          let u : Test = test_with t ls in
          let x : Stmts = stmts_with body ls2 in
          let condition = condition_slots r lo (is_simple u) (test_slots p r u) (stmts_slots p r x) slots in
          record {
            decides = λ none. know.tests r line lt t ls (fine_front p tables code input r (test_phrases t) (stmts_phrases body) ls inner)
                (at + 1) lo none condition.0;
            runs = λ next. turn_body may r line lt body ls2
                (fine_back p tables code input r (test_phrases t) (stmts_phrases body) ls inner)
                (stays_back p tables code input may (test_phrases t) (stmts_phrases body) inner_stays) next (behind_condition p r lo u)
                condition.1;
          }

      arm_slots : (r lo : ℕ) (a b c d e : List SlotKind) → HasSlots p code r lo ((a ++ (b ++ (c ++ d))) ++ e)
          → HasSlots p code r lo (a ++ b)
          × HasSlots p code r (lo + length a + length b) c × HasSlots p code r (lo + length a + length b + length c) (d ++ e)
      arm_slots r lo a b c d e h =
          let flat_slots : HasSlots p code r lo (a ++ (b ++ (c ++ (d ++ e)))) =
          subst (HasSlots p code r lo) (append_assoc a (b ++ (c ++ d)) e
          ∙ ap (λ x. a ++ x) (append_assoc b (c ++ d) e ∙ ap (λ x. b ++ x) (append_assoc c d e))) h in
          let behind_a = slots_behind p code input r lo a (b ++ (c ++ (d ++ e))) flat_slots in
          let behind_b = slots_behind p code input r (lo + length a) b (c ++ (d ++ e)) behind_a in (
            slots_first p code input r lo (a ++ b) (c ++ (d ++ e))
                (subst (HasSlots p code r lo) (sym (append_assoc a b (c ++ (d ++ e)))) flat_slots),
            slots_first p code input r (lo + length a + length b) c (d ++ e) behind_b,
            slots_behind p code input r (lo + length a + length b) c (d ++ e) behind_b,
          )

      -- the slots of the value of CASE and of its labels
      record CaseSlots (r lo bound : ℕ) : Type 0 where
        apart : lo < bound
        behind : own_end p r ≤ lo
        kind : slice_get (kinds_at code r) bound ≡ Some slot.Number
        kind2 : slice_get (kinds_at code r) (bound + 1) ≡ Some slot.Number

      abbrev ElseCases : (may : Bool) (r line lo bound : ℕ) → CaseSlots r lo bound → Else → Type 0
      ElseCases may r line lo bound c els =
          (jump at la : ℕ) → lo ≤ la → HasSlots p code r la (else_slots p r els)
          → CasesRun p tables code input below r line (suc n) may lo bound c.apart c.behind c.kind c.kind2 els jump at la no_cases

      case_slots : (r lo : ℕ) (a b c : List SlotKind) → HasSlots p code r lo ((a ++ b) ++ c) → HasSlots p code r lo a
          × HasSlots p code r (lo + length a) (b ++ c)
      case_slots r lo a b c h =
          let flat_slots : HasSlots p code r lo (a ++ (b ++ c)) = subst (HasSlots p code r lo) (append_assoc a b c) h in
          (slots_first p code input r lo a (b ++ c) flat_slots, slots_behind p code input r lo a (b ++ c) flat_slots)

      stays_second : (may : Bool) (xs ys zs : List Phrase) → Stays p tables code input may ((xs ++ ys) ++ zs)
          → Stays p tables code input may ys
      stays_second may xs ys zs h = stays_back p tables code input may xs ys (stays_front p tables code input may (xs ++ ys) zs h)

      -- ---- what is asked, in other words

      has_branch : (x : Branches) (ls : List ℕ) → HasChoice (StmtPhrase (Either x)) → branches_with x ls ≡ no_branches → ⊥
      unfolding stmts_with
      has_branch no_branches ls h e = h
      has_branch (more_branches body rest) ls h e = absurd (cc)

      no_result_is : (o : Option Range) → IsNone o → o ≡ None
      no_result_is None h = refl
      no_result_is (Some range) h = absurd (cc)

      result_is : (o : Option Range) → IsSome o → (range : Range) × (o ≡ Some range)
      result_is None h = absurd (cc)
      result_is (Some range) h = (range, refl)

      -- an assigned value that goes straight has the slots of the statement
      straight_slots : (o o2 : Option ℕ) (to : ℕ) (xs ys : List SlotKind) → o ≡ Some to → o2 ≡ None → {r lo : ℕ}
          → HasSlots p code r lo (unless_bare o xs ++ unless_bare o2 ys) → HasSlots p code r lo ys
      straight_slots o o2 to xs ys e e2 {r = r} {lo = lo} h =
          subst (λ k. HasSlots p code r lo (unless_bare k ys)) e2
          (subst (λ k. HasSlots p code r lo (unless_bare k xs ++ unless_bare o2 ys)) e h)

      -- ---- expressions

      mutual
        unfolding stmts_phrases stmts_with

        desig_go : (r line : ℕ) → r < length p.routines → (d : Desig) (ls : List ℕ) → FineIn r (desig_phrases d) ls
            → GoodDesig r line (desig_with d ls)
        desig_go r line lt (a_desig x cells sels) ls h =
            let inner = fine_desig p tables code input r (a_desig x cells sels) (sels_phrases sels) ls h in
            let asked = h.asked.0 in
            let all : Sels = sels_with sels ls in
            let y : Desig = a_desig x cells all in
            let fits = root_fits r cells sels x lt asked.root in
            let parts : (low end lo : ℕ) → EndFits p tables code input below r line (suc n) low end (checked_of.cells_after all cells)
            → low ≤ lo → own_end p r ≤ lo → by_sels all end lo < behind_root p tables r lo x → HasSlots p code r lo (desig_slots p r y)
            → PartsRun p tables code input below r line (suc n) low end lo cells x all =
            λ low end lo ends under own_lo near slots.
            let rest = slots_behind p code input r (lo + 1) (root_slots p r x) (sels_slots p r all)
            (slots_behind p code input r lo (slot.Place cells ∷ []) (root_slots p r x ++ sels_slots p r all) slots) in
            let next : ℕ = behind_root p tables r lo x in
            record {
              placed = λ m. sels_go r line lt sels ls inner cells asked.parts low end m (by_sels all end lo) next ends
                  (omega (arith, under)) near rest;
              owned = λ from is m.
                  let param : IsParam p code input r from cells =
                  subst (λ k. RootFits p code input r k cells) (own_root_is x all from is) fits in
                  sels_go r line lt sels ls inner cells asked.parts low end m (shift p r + from) next ends (omega (arith, under))
                  (omega (arith, own_lo, param.exists)) rest;
            } in
            let runs : (at lo : ℕ) → HasSlots p code r lo (desig_slots p r y) → DesigRuns p tables code input below r line (suc n) at lo y =
            λ at lo slots.
            let end : ℕ = place_at p tables r lo y in
            desig_runs p tables code input below r line (suc n) at lo cells x all fits checked.nested slots
            (parts lo end lo (desig_ends p tables code input below r line (suc n) lo cells x all slots) (omega arith) slots.behind
            (root_near p tables r all lo (behind_root p tables r lo x) (omega arith)) slots) in
            record {
              fits = λ e. bare_fits below line (suc n) r cells all sels x lt asked.root (parts_with sels cells ls asked.parts) e;
              runs = runs;
              held = λ at lo slots. held_runs p tables code input below r line (suc n) at lo y slots.behind
                  (own_fits r cells all sels x lt asked.root) (runs at lo slots);
              placed = λ to at lo ends under slots. placed_runs p tables code input below r line (suc n) to at lo cells x all ends under
                  fits
                  checked.nested slots
                  (parts to to lo ends under slots.behind (placed_near all to lo (behind_root p tables r lo x) under (omega arith)) slots);
            }

        -- from any slot before their own, the last into any slot
        sels_go : (r line : ℕ) → r < length p.routines → (sels : Sels) (ls : List ℕ) → FineIn r (sels_phrases sels) ls → (size : ℕ)
            → ArePartsOf sels size → (low end at from lo : ℕ)
            → EndFits p tables code input below r line (suc n) low end (checked_of.cells_after (sels_with sels ls) size)
            → low ≤ lo → from < lo → HasSlots p code r lo (sels_slots p r (sels_with sels ls))
            → SelsRun p tables code input below r line (suc n) low end at from lo size (sels_with sels ls)
        sels_go r line lt no_sels ls h size parts low end at from lo ends under small slots =
            no_sels_run p tables code input below r line (suc n) low end at from lo size
        sels_go r line lt (more_sels x no_sels) ls h size parts low end at from lo ends under small slots =
            let y : Sel = sel_with x ls in
            let next_low : low ≤ part_slot p tables r lo y + 1 = omega (arith, under, part_above p tables r lo y) in
            more_sels_run p tables code input below r line (suc n) low end at from lo size y no_sels ends.behind
            (sel_go r line lt x ls (fine_front p tables code input r (sel_phrases x) [] ls h) size parts.0 low end at from lo ends under
            small
            (slots_first p code input r lo (sel_slots p r y) [] slots))
            (λ next. no_sels_run p tables code input below r line (suc n) low end next end (part_slot p tables r lo y + 1) (sel_cells y))
        sels_go r line lt (more_sels x (more_sels z rest)) ls h size parts low end at from lo ends under small slots =
            let y : Sel = sel_with x ls in
            let ls2 = behind (sel_phrases x) ls in
            let others : Sels = sels_with (more_sels z rest) ls2 in
            let part : ℕ = part_slot p tables r lo y in
            let first = slots_first p code input r lo (sel_slots p r y) (sels_slots p r others) slots in
            let behind_slots = slots_behind p code input r lo (sel_slots p r y) (sels_slots p r others) slots in
            let low_part : low ≤ part = omega (arith, under, part_above p tables r lo y) in
            more_sels_run p tables code input below r line (suc n) low end at from lo size y others ends.behind
            (sel_go r line lt x ls (fine_front p tables code input r (sel_phrases x) (sels_phrases (more_sels z rest)) ls h) size parts.0
            low
            part at from lo
            (record { behind = ends.behind; above = low_part; kind = part_kind p tables code input below r line (suc n) lo y first })
            under small first)
            (λ next. subst (λ k. SelsRun p tables code input below r line (suc n) low end next part (part + 1) k others)
            (sym (sel_cells_with x ls))
            (sels_go r line lt (more_sels z rest) ls2
            (fine_back p tables code input r (sel_phrases x) (sels_phrases (more_sels z rest)) ls h) (checked_of.sel_cells x)
            parts.1 low end next part (part + 1)
            (subst (λ k. EndFits p tables code input below r line (suc n) low end (checked_of.cells_after others k)) (sel_cells_with x ls)
            ends)
            (omega (arith, low_part)) (omega arith)
            (subst (λ k. HasSlots p code r k (sels_slots p r others)) (part_end p tables code input below r line (suc n) lo y)
            behind_slots)))

        sel_go : (r line : ℕ) → r < length p.routines → (x : Sel) (ls : List ℕ) → FineIn r (sel_phrases x) ls → (size : ℕ) → IsPart x size
            → (low end at from lo : ℕ) → EndFits p tables code input below r line (suc n) low end (sel_cells (sel_with x ls)) → low ≤ lo
            → from < lo → HasSlots p code r lo (sel_slots p r (sel_with x ls))
            → SelRuns p tables code input below r line (suc n) low end at from lo size (sel_with x ls)
        sel_go r line lt (Field offset cells) ls h size part low end at from lo ends under small slots =
            field_runs p tables code input below r line (suc n) low end at from lo size offset cells ends part
        sel_go r line lt (Index e range cells) ls h size part low end at from lo ends under small slots =
            let y : Expr = expr_with e ls in
            index_runs p tables code input below r line (suc n) low end at from lo size cells y range ends under small h.asked.0.coded part
            (once p tables code input below r line (suc n) y
            (expr_go r line lt e ls (fine_sel p tables code input r (Index e range cells) (expr_phrases e) ls h)) at lo
            (slots_first p code input r lo (unless_bare (bare y) (expr_slots p r y)) (slot.Place cells ∷ []) slots))

        expr_go : (r line : ℕ) → r < length p.routines → (e : Expr) (ls : List ℕ) → FineIn r (expr_phrases e) ls
            → GoodExpr r line (expr_with e ls)
        expr_go r line lt (Const m) ls h = record {
          fits = tt;
          constants = λ n same. subst (λ k. is_integer k ≡ true) (same_number m n same) h.asked.0.coded;
          runs = λ at lo slots. const_runs p tables code input below r line (suc n) at lo m h.asked.0.coded slots;
          operands = λ how x y same. absurd (cc);
          straightly = λ goal at lo alone numbers slots. const_to p tables code input below r line (suc n) at lo
              (goal_end p code input r goal lo) m
              (goal_ways p code input r goal lo) h.asked.0.coded (goal_takes p code input r line (suc n) lo goal numbers slots.behind
              (first_slot p code input r lo (Const m) slots));
        }
        expr_go r line lt (Load d) ls h =
            let g = desig_go r line lt d ls (fine_expr p tables code input r (Load d) (desig_phrases d) ls h) in
            let y : Desig = desig_with d ls in
            let one_cell : desig_cells y ≡ 1 = cells_with d ls ∙ h.asked.0.cells in
            record {
              fits = g.fits one_cell;
              constants = λ n same. absurd (cc);
              runs = λ at lo slots. load_runs p tables code input below r line (suc n) at lo y (g.fits one_cell)
                  (target p tables code input below r line (suc n) y g at (lo + 1)
                  (slots_behind p code input r lo (slot.Number ∷ []) (unless_bare (bare_desig y) (desig_slots p r y)) slots)) one_cell
                  slots;
              operands = λ how y z same. absurd (cc);
              straightly = λ goal at lo alone numbers slots.
                  let none = alone_bare (Load y) alone in
                  let place_code = target p tables code input below r line (suc n) y g at (lo + 1)
                  (slots_behind p code input r lo (slot.Number ∷ []) (unless_bare (bare_desig y) (desig_slots p r y)) slots) none in
                  load_straight p tables code input below r line (suc n) at lo (goal_end p code input r goal lo) y
                  (goal_ways p code input r goal lo) none place_code one_cell
                  (goal_takes p code input r line (suc n) lo goal numbers slots.behind (first_slot p code input r lo (Load y) slots));
            }
        expr_go r line lt (Chain negated e links) ls h =
            let inner = fine_expr p tables code input r (Chain negated e links) (expr_phrases e ++ links_phrases links) ls h in
            let ls2 = behind (expr_phrases e) ls in
            let x : Expr = expr_with e ls in
            let g = expr_go r line lt e ls (fine_front p tables code input r (expr_phrases e) (links_phrases links) ls inner) in
            let behind_e = fine_back p tables code input r (expr_phrases e) (links_phrases links) ls inner in
            record {
              fits = tt;
              constants = λ n same. absurd (cc);
              runs = λ at lo slots.
                  let first = slots_first p code input r lo (expr_slots p r x) (links_slots p r (links_with links ls2)) slots in
                  let kind = first_slot p code input r lo x first in
                  chain_runs p tables code input below r line (suc n) at lo negated x (links_with links ls2) slots (g.runs at lo first)
                  g.fits
                  (others_go r line lt links ls2 behind_e in_first lo (behind_expr p r lo x) tt (omega (arith, some_slots p code input r x))
                  slots.behind kind
                  (slots_behind p code input r lo (expr_slots p r x) (links_slots p r (links_with links ls2)) slots));
              operands = λ how y z same. absurd (cc);
              straightly = λ goal at lo alone numbers slots.
                  let first = slots_first p code input r lo (expr_slots p r x) (links_slots p r (links_with links ls2)) slots in
                  let kind = first_slot p code input r lo x first in
                  let takes = goal_takes p code input r line (suc n) lo goal numbers slots.behind kind in
                  chain_straight p tables code input below r line (suc n) at lo (goal_end p code input r goal lo)
                  (goal_ways p code input r goal lo) negated x (links_with links ls2) alone takes slots (g.runs at lo first) g.fits
                  (others_go r line lt links ls2 behind_e goal lo (behind_expr p r lo x) numbers
                  (omega (arith, some_slots p code input r x)) slots.behind kind
                  (slots_behind p code input r lo (expr_slots p r x) (links_slots p r (links_with links ls2)) slots));
            }
        expr_go r line lt (Compare how a b) ls h =
            let inner = fine_expr p tables code input r (Compare how a b) (expr_phrases a ++ expr_phrases b) ls h in
            let ls2 = behind (expr_phrases a) ls in
            let x : Expr = expr_with a ls in
            let y : Expr = expr_with b ls2 in
            let g = expr_go r line lt a ls (fine_front p tables code input r (expr_phrases a) (expr_phrases b) ls inner) in
            let g2 = expr_go r line lt b ls2 (fine_back p tables code input r (expr_phrases a) (expr_phrases b) ls inner) in
            record {
              fits = tt;
              constants = λ n same. absurd (cc);
              runs = λ at lo slots.
                  compare_runs p tables code input below r line (suc n) at lo how x y slots
                  (g.runs at lo (slots_first p code input r lo (expr_slots p r x) (unless_bare (bare y) (expr_slots p r y)) slots)) g.fits
                  (behind_first p tables code input below r line (suc n) y g2 (behind_expr p r lo x)
                  (slots_behind p code input r lo (expr_slots p r x) (unless_bare (bare y) (expr_slots p r y)) slots));
              operands = λ how2 a2 b2 same.
                  subst (λ k. OperandsGo p tables code input below r line (suc n) k b2) (same_left how how2 x a2 y b2 same)
                  (subst (λ k. OperandsGo p tables code input below r line (suc n) x k) (same_right how how2 x a2 y b2 same)
                  (record { fits = g.fits; first = g.runs; second = behind_first p tables code input below r line (suc n) y g2 }));
              straightly = λ goal at lo alone numbers slots. absurd (let bad : false ≡ true = alone in cc);
            }
        expr_go r line lt (Truth t) ls h =
            let u : Test = test_with t ls in
            let g = test_go r line lt t ls (fine_expr p tables code input r (Truth t) (test_phrases t) ls h) in
            record {
              fits = tt;
              constants = λ n same. absurd (cc);
              runs = λ at lo slots. truth_runs p tables code input below r line (suc n) at lo u slots
                  (λ none. decides p tables code input below r line (suc n) u g at (lo + 1) none
                  (slots_behind p code input r lo (slot.Number ∷ []) (mark_slots (is_simple u) ++ test_slots p r u) slots));
              operands = λ how y z same. absurd (cc);
              straightly = λ goal at lo alone numbers slots. absurd (let bad : false ≡ true = alone in cc);
            }
        expr_go r line lt (Known d) ls h =
            let y : Desig = desig_with d ls in
            let g = desig_go r line lt d ls (fine_expr p tables code input r (Known d) (desig_phrases d) ls h) in
            record {
              fits = tt;
              constants = λ n same. absurd (cc);
              runs = λ at lo slots. known_runs p tables code input below r line (suc n) at lo y slots (cells_with d ls ∙ h.asked.0.cells)
                  (g.held at (lo + 1) (slots_behind p code input r lo (slot.Number ∷ []) (desig_slots p r y) slots));
              operands = λ how y z same. absurd (cc);
              straightly = λ goal at lo alone numbers slots. absurd (let bad : false ≡ true = alone in cc);
            }
        expr_go r line lt (Chr e) ls h =
            let x : Expr = expr_with e ls in
            let g = expr_go r line lt e ls (fine_expr p tables code input r (Chr e) (expr_phrases e) ls h) in
            record {
              fits = tt;
              constants = λ n same. absurd (cc);
              runs =
                  λ at lo slots. chr_runs p tables code input below r line (suc n) at lo x slots h.asked.0.coded (g.runs at lo slots);
              operands = λ how y z same. absurd (cc);
              straightly =
                  λ goal at lo alone numbers slots. absurd (let bad : false ≡ true = alone in cc);
            }
        expr_go r line lt (CallExpr called args up) ls h =
            let inner = fine_expr p tables code input r (CallExpr called args up) (args_phrases args) ls h in
            let asked = h.asked.0 in
            record {
              fits = tt;
              constants = λ n same. absurd (cc);
              runs = λ at lo slots. expr_call_runs p tables code all is count names checked input below n routines r line lt called up
                  (args_with args ls) at lo asked.callee asked.leads (args_with_fit (routine_at p called).params args ls asked.fits)
                  asked.result slots
                  (λ m first arg_slots_. args_go r line lt args ls inner m first (first + length (handed_slots (args_with args ls)))
                  arg_slots_);
              operands = λ how y z same. absurd (cc);
              straightly = λ goal at lo alone numbers slots. absurd (let bad : false ≡ true = alone in cc);
            }

        links_go : (r line : ℕ) → r < length p.routines → (links : Links) (ls : List ℕ) → FineIn r (links_phrases links) ls
            → (g : Goal p code input) (at to lo : ℕ) → GoalFits p code input r g to → to < lo → own_end p r ≤ to
            → slice_get (kinds_at code r) to ≡ Some slot.Number
            → HasSlots p code r lo (links_slots p r (links_with links ls))
            → LinksRun p tables code input below r line (suc n) (goal_end p code input r g to) (goal_ways p code input r g to) at to lo
            (links_with links ls)
        links_go r line lt no_links ls h goal at to lo fits small own_to kind slots = tt
        links_go r line lt (more_links how e rest) ls h goal at to lo fits small own_to kind slots =
            let x : Expr = expr_with e ls in
            let ls2 = behind (expr_phrases e) ls in
            let g = expr_go r line lt e ls (fine_front p tables code input r (expr_phrases e) (links_phrases rest) ls h) in
            more_links_run p tables code input below r line (suc n) at (goal_end p code input r goal to) to lo
            (goal_ways p code input r goal to) how x (links_with rest ls2)
            (goal_takes p code input r line (suc n) to goal fits own_to kind) small own_to kind
            (once p tables code input below r line (suc n) x g at lo
            (slots_first p code input r lo (unless_bare (bare x) (expr_slots p r x)) (links_slots p r (links_with rest ls2)) slots))
            (λ next. links_go r line lt rest ls2 (fine_back p tables code input r (expr_phrases e) (links_phrases rest) ls h) goal next to
            (behind_value p r lo x) fits (omega (arith, small)) own_to kind
            (slots_behind p code input r lo (unless_bare (bare x) (expr_slots p r x)) (links_slots p r (links_with rest ls2)) slots))

        -- behind a first operand
        others_go : (r line : ℕ) → r < length p.routines → (links : Links) (ls : List ℕ) → FineIn r (links_phrases links) ls
            → (g : Goal p code input) (to lo : ℕ) → GoalFits p code input r g to → to < lo → own_end p r ≤ to
            → slice_get (kinds_at code r) to ≡ Some slot.Number
            → HasSlots p code r lo (links_slots p r (links_with links ls))
            → OthersRun p tables code input below r line (suc n) (goal_end p code input r g to) (goal_ways p code input r g to) to lo
            (links_with links ls)
        others_go r line lt no_links ls h goal to lo fits small own_to kind slots = tt
        others_go r line lt (more_links how e rest) ls h goal to lo fits small own_to kind slots =
            let x : Expr = expr_with e ls in
            let ls2 = behind (expr_phrases e) ls in
            let g = expr_go r line lt e ls (fine_front p tables code input r (expr_phrases e) (links_phrases rest) ls h) in (
              behind_first p tables code input below r line (suc n) x g lo
                  (slots_first p code input r lo (unless_bare (bare x) (expr_slots p r x)) (links_slots p r (links_with rest ls2)) slots),
              λ next. links_go r line lt rest ls2 (fine_back p tables code input r (expr_phrases e) (links_phrases rest) ls h) goal next to
                  (behind_value p r lo x) fits (omega (arith, small)) own_to kind
                  (slots_behind p code input r lo (unless_bare (bare x) (expr_slots p r x)) (links_slots p r (links_with rest ls2)) slots),
            )

        args_go : (r line : ℕ) → r < length p.routines → (args : Args) (ls : List ℕ) → FineIn r (args_phrases args) ls → (at to la : ℕ)
            → HasSlots p code r la (args_slots p r (args_with args ls))
            → ArgParts p tables code input below r line (suc n) at to la (args_with args ls)
        args_go r line lt no_args ls h at to la slots = tt
        args_go r line lt (more_args a rest) ls h at to la slots =
            let x : Arg = arg_with a ls in
            let ls2 = behind (arg_phrases a) ls in (
              arg_go r line lt a ls (fine_front p tables code input r (arg_phrases a) (args_phrases rest) ls h) at la
                  (slots_first p code input r la (arg_slots p r x) (args_slots p r (args_with rest ls2)) slots),
              args_go r line lt rest ls2 (fine_back p tables code input r (arg_phrases a) (args_phrases rest) ls h)
                  (at + length (arg_code p tables r line at to la x)) (to + 1) (la + length (arg_slots p r x))
                  (slots_behind p code input r la (arg_slots p r x) (args_slots p r (args_with rest ls2)) slots),
            )

        arg_go : (r line : ℕ) → r < length p.routines → (a : Arg) (ls : List ℕ) → FineIn r (arg_phrases a) ls → (at la : ℕ)
            → HasSlots p code r la (arg_slots p r (arg_with a ls)) → ArgPart p tables code input below r line (suc n) at la (arg_with a ls)
        arg_go r line lt (ByValue e range) ls h at la slots =
            value_of r line at la (expr_with e ls) range
            (expr_go r line lt e ls (fine_arg p tables code input r (ByValue e range) (expr_phrases e) ls h)) h.asked.0.coded slots
        arg_go r line lt (MixValue e range) ls h at la slots =
            value_of r line at la (expr_with e ls) range
            (expr_go r line lt e ls (fine_arg p tables code input r (MixValue e range) (expr_phrases e) ls h)) h.asked.0.coded slots
        arg_go r line lt (ByCells d) ls h at la slots =
            place_of r line at la (desig_with d ls) (desig_go r line lt d ls
            (fine_arg p tables code input r (ByCells d) (desig_phrases d) ls h)) slots
        arg_go r line lt (ByPlace d) ls h at la slots =
            place_of r line at la (desig_with d ls) (desig_go r line lt d ls
            (fine_arg p tables code input r (ByPlace d) (desig_phrases d) ls h)) slots
        arg_go r line lt (MixPlace d) ls h at la slots =
            place_of r line at la (desig_with d ls) (desig_go r line lt d ls
            (fine_arg p tables code input r (MixPlace d) (desig_phrases d) ls h)) slots

        -- ---- tests

        test_go : (r line : ℕ) → r < length p.routines → (t : Test) (ls : List ℕ) → FineIn r (test_phrases t) ls
            → GoodTest r line (test_with t ls)
        test_go r line lt (Value e) ls h =
            let x : Expr = expr_with e ls in
            let g = expr_go r line lt e ls (fine_test p tables code input r (Value e) (expr_phrases e) ls h) in
            record {
              runs = λ at lo slots. value_goes r line x g (tested p tables r x) at lo slots;
              value = λ y same. subst (GoodExpr r line) (same_value x y same) g;
            }
        test_go r line lt (Bind d e range true) ls h =
            let inner = fine_test p tables code input r (Bind d e range true) (desig_phrases d ++ expr_phrases e) ls h in
            let ls2 = behind (desig_phrases d) ls in
            let y : Desig = desig_with d ls in
            let x : Expr = expr_with e ls2 in
            let g = desig_go r line lt d ls (fine_front p tables code input r (desig_phrases d) (expr_phrases e) ls inner) in
            let g2 = expr_go r line lt e ls2 (fine_back p tables code input r (desig_phrases d) (expr_phrases e) ls inner) in
            record {
              runs = λ at lo slots. bind_runs p tables code input below r line (suc n) at lo y x range slots.behind
                  (cells_with d ls ∙ h.asked.0.cells) h.asked.0.coded
                  (g.held at lo (slots_first p code input r lo (desig_slots p r y) (unless_bare (bare x) (expr_slots p r x)) slots))
                  (λ next. once p tables code input below r line (suc n) x g2 next (behind_desig p r lo y)
                  (slots_behind p code input r lo (desig_slots p r y) (unless_bare (bare x) (expr_slots p r x)) slots));
              value = λ z same. absurd (cc);
            }
        test_go r line lt (Bind d e range false) ls h =
            let inner = fine_test p tables code input r (Bind d e range false) (desig_phrases d ++ expr_phrases e) ls h in
            let ls2 = behind (expr_phrases e) ls in
            let y : Desig = desig_with d ls2 in
            let x : Expr = expr_with e ls in
            let g = desig_go r line lt d ls2 (swapped_second p tables code input r (desig_phrases d) (expr_phrases e) ls inner) in
            let g2 = expr_go r line lt e ls (swapped_first p tables code input r (desig_phrases d) (expr_phrases e) ls inner) in
            record {
              runs = λ at lo slots. bind_value_runs p tables code input below r line (suc n) at lo y x range slots.behind
                  (cells_with d ls2 ∙ h.asked.0.cells) h.asked.0.coded
                  (g2.runs at lo (slots_first p code input r lo (expr_slots p r x) (desig_slots p r y) slots))
                  (λ next. g.held next (behind_expr p r lo x)
                  (slots_behind p code input r lo (expr_slots p r x) (desig_slots p r y) slots));
              value = λ z same. absurd (cc);
            }
        test_go r line lt (Unify d range e range2) ls h =
            let inner = fine_test p tables code input r (Unify d range e range2) (desig_phrases d ++ desig_phrases e) ls h in
            let ls2 = behind (desig_phrases d) ls in
            let y : Desig = desig_with d ls in
            let z : Desig = desig_with e ls2 in
            let g = desig_go r line lt d ls (fine_front p tables code input r (desig_phrases d) (desig_phrases e) ls inner) in
            let g2 = desig_go r line lt e ls2 (fine_back p tables code input r (desig_phrases d) (desig_phrases e) ls inner) in
            let asked = h.asked.0 in
            record {
              runs = λ at lo slots. unify_runs p tables code input below r line (suc n) at lo y z range range2 slots.behind
                  (cells_with d ls ∙ asked.cells.0) (cells_with e ls2 ∙ asked.cells.1) asked.coded.0 asked.coded.1
                  (g.held at lo (slots_first p code input r lo (desig_slots p r y) (desig_slots p r z) slots))
                  (λ next. g2.held next (behind_desig p r lo y)
                  (slots_behind p code input r lo (desig_slots p r y) (desig_slots p r z) slots));
              value = λ u same. absurd (cc);
            }
        test_go r line lt (SameCells d e) ls h =
            let inner = fine_test p tables code input r (SameCells d e) (desig_phrases d ++ desig_phrases e) ls h in
            let ls2 = behind (desig_phrases d) ls in
            let y : Desig = desig_with d ls in
            let z : Desig = desig_with e ls2 in
            let g = desig_go r line lt d ls (fine_front p tables code input r (desig_phrases d) (desig_phrases e) ls inner) in
            let g2 = desig_go r line lt e ls2 (fine_back p tables code input r (desig_phrases d) (desig_phrases e) ls inner) in
            record {
              runs = λ at lo slots. match_runs p tables code input below r line (suc n) at lo y z slots.behind
                  (cells_with d ls ∙ h.asked.0.cells ∙ sym (cells_with e ls2))
                  (g.held at lo (slots_first p code input r lo (desig_slots p r y) (desig_slots p r z) slots))
                  (λ next. g2.held next (behind_desig p r lo y)
                  (slots_behind p code input r lo (desig_slots p r y) (desig_slots p r z) slots));
              value = λ u same. absurd (cc);
            }
        test_go r line lt (And ts) ls h =
            let inner = fine_test p tables code input r (And ts) (tests_phrases ts) ls h in
            record {
              runs = λ at lo slots. and_runs p tables code input below r line (suc n) at lo (tests_with ts ls)
                  (and_go r line lt ts ls inner at lo slots);
              value = λ u same. absurd (cc);
            }
        test_go r line lt (Not t) ls h =
            let u : Test = test_with t ls in
            let g = test_go r line lt t ls (fine_test p tables code input r (Not t) (test_phrases t) ls h) in
            record {
              runs = λ at lo slots. not_runs p tables code input below r line (suc n) at lo u slots
                  (g.runs (at + 2) (lo + 1) (slots_behind p code input r lo (slot.Mark ∷ []) (test_slots p r u) slots));
              value = λ x same. absurd (cc);
            }
        test_go r line lt (CallTest called args up) ls h =
            let inner = fine_test p tables code input r (CallTest called args up) (args_phrases args) ls h in
            let asked = h.asked.0 in
            record {
              runs = λ at lo slots. test_call_runs p tables code all is count names checked input below n routines r line lt called up
                  (args_with args ls) at lo asked.callee asked.leads (args_with_fit (routine_at p called).params args ls asked.fits)
                  asked.result slots
                  (λ m first arg_slots_. args_go r line lt args ls inner m first (first + length (handed_slots (args_with args ls)))
                  arg_slots_);
              value = λ x same. absurd (cc);
            }
        test_go r line lt (Or no_tests) ls h = absurd h.asked.0.choice
        test_go r line lt (Or (more_tests t rest)) ls h =
            let inner = fine_test p tables code input r (Or (more_tests t rest)) (test_phrases t ++ tests_phrases rest) ls h in
            let ls2 = behind (test_phrases t) ls in
            let g = test_go r line lt t ls (fine_front p tables code input r (test_phrases t) (tests_phrases rest) ls inner) in
            record {
              runs = λ at lo slots. or_first r line at lo (test_with t ls) (tests_with rest ls2) g
                  (λ some jump next low more. or_go r line lt rest ls2
                  (fine_back p tables code input r (test_phrases t) (tests_phrases rest) ls inner) some jump next low more) slots;
              value = λ x same. absurd (cc);
            }
        test_go r line lt (Seq x) ls h =
            let inner = fine_test p tables code input r (Seq x) (stmts_phrases x) ls h in
            let stay = h.asked.0.stay in
            record {
              runs = λ at lo slots. seq_runs p tables code input below r line (suc n) at lo (stmts_with x ls)
                  (stmts_go false r lt x ls inner (λ e. stay) line at lo slots);
              value = λ y same. absurd (cc);
            }

        and_go : (r line : ℕ) → r < length p.routines → (ts : Tests) (ls : List ℕ) → FineIn r (tests_phrases ts) ls → (at lo : ℕ)
            → HasSlots p code r lo (and_slots p r (tests_with ts ls))
            → AndRun p tables code input below r line (suc n) at lo (tests_with ts ls)
        and_go r line lt no_tests ls h at lo slots = no_and_run p tables code input below r line (suc n) at lo
        and_go r line lt (more_tests t rest) ls h at lo slots =
            let u : Test = test_with t ls in
            let ls2 = behind (test_phrases t) ls in
            let g = test_go r line lt t ls (fine_front p tables code input r (test_phrases t) (tests_phrases rest) ls h) in
            more_and_run p tables code input below r line (suc n) at lo u (tests_with rest ls2) slots.behind
            (g.runs at lo (slots_first p code input r lo (test_slots p r u) (and_slots p r (tests_with rest ls2)) slots))
            (λ next. and_go r line lt rest ls2 (fine_back p tables code input r (test_phrases t) (tests_phrases rest) ls h) next
            (behind_test p r lo u) (slots_behind p code input r lo (test_slots p r u) (and_slots p r (tests_with rest ls2)) slots))

        -- the operands behind the first
        or_go : (r line : ℕ) → r < length p.routines → (ts : Tests) (ls : List ℕ) → FineIn r (tests_phrases ts) ls
            → (tests_with ts ls ≡ no_tests → ⊥) → (jump at lo : ℕ) → HasSlots p code r lo (or_slots p r (tests_with ts ls))
            → OperandsRun p tables code input below r line (suc n) jump at lo (tests_with ts ls)
        or_go r line lt no_tests ls h some jump at lo slots = absurd (some refl)
        or_go r line lt (more_tests t rest) ls h some jump at lo slots =
            let ls2 = behind (test_phrases t) ls in
            let g = test_go r line lt t ls (fine_front p tables code input r (test_phrases t) (tests_phrases rest) ls h) in
            or_next r line jump at lo (test_with t ls) (tests_with rest ls2) g
            (λ more jump next low low_slots. or_go r line lt rest ls2
            (fine_back p tables code input r (test_phrases t) (tests_phrases rest) ls h) more jump next low low_slots) slots

        -- ---- statements

        pub stmts_go : (may : Bool) (r : ℕ) → r < length p.routines → (x : Stmts) (ls : List ℕ) → FineIn r (stmts_phrases x) ls
            → Stays p tables code input may (stmts_phrases x) → (line at lo : ℕ) → HasSlots p code r lo (stmts_slots p r (stmts_with x ls))
            → ListRuns p tables code input below r line (suc n) may at lo (stmts_with x ls)
        stmts_go may r lt no_stmts ls h stays line at lo slots = no_stmts_run p tables code input below r line (suc n) may at lo
        stmts_go may r lt (more_stmts given x rest) ls h stays line at lo slots =
            let own_line : ℕ = get_or ls 0 0 in
            let y : Stmt = stmt_with x (drop 1 ls) in
            let ls2 = behind (stmt_phrases x) ls in
            let first = fine_front p tables code input r (stmt_phrases x) (stmts_phrases rest) ls h in
            more_stmts_run p tables code input below r line (suc n) may own_line at lo y (stmts_with rest ls2)
            (has_line p tables code input r x ls first) slots.behind
            (stmt_go may r lt x ls first (stays_front p tables code input may (stmt_phrases x) (stmts_phrases rest) stays) own_line at lo
            (slots_first p code input r lo (stmt_slots p r y) (stmts_slots p r (stmts_with rest ls2)) slots))
            (λ next. stmts_go may r lt rest ls2 (fine_back p tables code input r (stmt_phrases x) (stmts_phrases rest) ls h)
            (stays_back p tables code input may (stmt_phrases x) (stmts_phrases rest) stays) line next (behind_stmt p r lo y)
            (slots_behind p code input r lo (stmt_slots p r y) (stmts_slots p r (stmts_with rest ls2)) slots))

        stmt_go : (may : Bool) (r : ℕ) → r < length p.routines → (x : Stmt) (ls : List ℕ) → FineIn r (stmt_phrases x) ls
            → Stays p tables code input may (stmt_phrases x) → (line at lo : ℕ)
            → HasSlots p code r lo (stmt_slots p r (stmt_with x (drop 1 ls)))
            → StatementRuns p tables code input below r line (suc n) may at lo (stmt_with x (drop 1 ls))
        stmt_go may r lt (TestStmt t) ls0 h stays line at lo slots =
            let ls = drop 1 ls0 in
            let g = test_go r line lt t ls (fine_stmt p tables code input r (TestStmt t) (test_phrases t) ls0 h) in
            plain may r line at lo (TestStmt (test_with t ls))
            (test_stmt_runs p tables code input below r line (suc n) at lo (test_with t ls) (g.runs at lo slots))
        stmt_go may r lt (Assign d e range) ls0 h stays line at lo slots =
            let ls = drop 1 ls0 in
            let inner = fine_stmt p tables code input r (Assign d e range) (desig_phrases d ++ expr_phrases e) ls0 h in
            let ls2 = behind (desig_phrases d) ls in
            let y : Desig = desig_with d ls in
            let x : Expr = expr_with e ls2 in
            let g = desig_go r line lt d ls (fine_front p tables code input r (desig_phrases d) (expr_phrases e) ls inner) in
            let g2 = expr_go r line lt e ls2 (fine_back p tables code input r (desig_phrases d) (expr_phrases e) ls inner) in
            let one_cell : desig_cells y ≡ 1 = cells_with d ls ∙ h.asked.0.cells in
            let place : List SlotKind = unless_bare (bare_desig y) (desig_slots p r y) in
            let value : List SlotKind = unless_bare (bare x) (expr_slots p r x) in
            plain may r line at lo (Assign y x range)
            (assign_runs p tables code input below r line (suc n) at lo y x range (g.fits one_cell) one_cell slots.behind h.asked.0.coded
            (target p tables code input below r line (suc n) y g at lo (slots_first p code input r lo place value slots))
            (λ next. once p tables code input below r line (suc n) x g2 next (lo + length place)
            (slots_behind p code input r lo place value slots))
            (λ to next goes numbers. g2.straightly (in_variable to) next lo goes.alone numbers
            (straight_slots (bare_desig y) (bare x) to (desig_slots p r y) (expr_slots p r x) goes.variable (alone_bare x goes.alone)
            slots)))
        stmt_go may r lt (CopyCells d e) ls0 h stays line at lo slots =
            let ls = drop 1 ls0 in
            let inner = fine_stmt p tables code input r (CopyCells d e) (desig_phrases d ++ desig_phrases e) ls0 h in
            let ls2 = behind (desig_phrases d) ls in
            let y : Desig = desig_with d ls in
            let z : Desig = desig_with e ls2 in
            let g = desig_go r line lt d ls (fine_front p tables code input r (desig_phrases d) (desig_phrases e) ls inner) in
            let g2 = desig_go r line lt e ls2 (fine_back p tables code input r (desig_phrases d) (desig_phrases e) ls inner) in
            plain may r line at lo (CopyCells y z) (copy_runs p tables code input below r line (suc n) at lo y z slots.behind
            (cells_with d ls ∙ h.asked.0.cells ∙ sym (cells_with e ls2))
            (g.held at lo (slots_first p code input r lo (desig_slots p r y) (desig_slots p r z) slots))
            (λ next. g2.held next (behind_desig p r lo y) (slots_behind p code input r lo (desig_slots p r y) (desig_slots p r z) slots)))
        stmt_go may r lt (If arms rest) ls0 h stays line at lo slots =
            let ls = drop 1 ls0 in
            let inner = fine_stmt p tables code input r (If arms rest) (arms_phrases arms ++ stmts_phrases rest) ls0 h in
            let inner_stays = λ (e : may ≡ false). (stays e).1 in
            let ls2 = behind (arms_phrases arms) ls in
            if_go may r lt arms ls (fine_front p tables code input r (arms_phrases arms) (stmts_phrases rest) ls inner)
            (stays_front p tables code input may (arms_phrases arms) (stmts_phrases rest) inner_stays) (stmts_with rest ls2)
            (λ other next low low_slots. stmts_go may r lt rest ls2
            (fine_back p tables code input r (arms_phrases arms) (stmts_phrases rest) ls inner)
            (stays_back p tables code input may (arms_phrases arms) (stmts_phrases rest) inner_stays) other next low low_slots) line at lo
            slots
        stmt_go may r lt (While t body) ls0 h stays line at lo slots =
            let ls = drop 1 ls0 in
            let inner = fine_stmt p tables code input r (While t body) (test_phrases t ++ stmts_phrases body) ls0 h in
            let inner_stays = λ (e : may ≡ false). (stays e).1 in
            let ls2 = behind (test_phrases t) ls in
            let u : Test = test_with t ls in
            let x : Stmts = stmts_with body ls2 in
            λ stands v now b.
            while_runs p tables code input below r line (suc n) may at lo u x slots (n - 1) (omega arith)
            (subst (λ k. TurnKnown p tables code input below r line (suc n) (is_turned u) may at lo u x (below.test u) (below.stmts x) k)
            less_one (turn_known (is_turned u) may r line lt t body ls inner inner_stays at lo refl slots))
            (know.whiles may r line lt t body ls inner inner_stays at lo slots stands) stands v now b
        stmt_go may r lt (Repeat body t) ls0 h stays line at lo slots =
            let ls = drop 1 ls0 in
            let inner = fine_stmt p tables code input r (Repeat body t) (stmts_phrases body ++ test_phrases t) ls0 h in
            let inner_stays = λ (e : may ≡ false). (stays e).1 in
            let ls2 = behind (stmts_phrases body) ls in
            let x : Stmts = stmts_with body ls in
            let u : Test = test_with t ls2 in
            let g = test_go r line lt t ls2 (fine_back p tables code input r (stmts_phrases body) (test_phrases t) ls inner) in
            λ stands v now b.
            repeat_runs p tables code input below r line (suc n) may at lo x u slots.behind n (omega arith)
            (stmts_go may r lt body ls (fine_front p tables code input r (stmts_phrases body) (test_phrases t) ls inner)
            (stays_front p tables code input may (stmts_phrases body) (test_phrases t) inner_stays) line at lo
            (slots_first p code input r lo (stmts_slots p r x) (mark_slots (is_simple u) ++ test_slots p r u) slots))
            (λ next. decides p tables code input below r line (suc n) u g next (behind_stmts p r lo x)
            at (slots_behind p code input r lo (stmts_slots p r x) (mark_slots (is_simple u) ++ test_slots p r u) slots))
            (know.repeats may r line lt body t ls inner inner_stays at lo slots stands) stands v now b
        stmt_go may r lt (ForTo (a_loop d range counter limit from to by body)) ls0 h stays line at lo slots =
            let ls = drop 1 ls0 in
            let l : Loop = a_loop d range counter limit from to by body in
            let inner = fine_stmt p tables code input r (ForTo l) (loop_phrases l) ls0 h in
            let inner_stays = λ (e : may ≡ false). (stays e).1 in
            let bounds = (desig_phrases d ++ expr_phrases from) ++ expr_phrases to in
            let ls2 = behind (desig_phrases d) ls in
            let ls3 = behind (expr_phrases from) ls2 in
            let ls4 = behind (expr_phrases to) ls3 in
            let y : Desig = desig_with d ls in
            let x1 : Expr = expr_with from ls2 in
            let x2 : Expr = expr_with to ls3 in
            let x : Stmts = stmts_with body ls4 in
            let before_body = fine_front p tables code input r bounds (stmts_phrases body) ls inner in
            let g = desig_go r line lt d ls (fine_first p tables code input r (desig_phrases d) (expr_phrases from) (expr_phrases to) ls
            before_body) in
            let g1 = expr_go r line lt from ls2 (fine_second p tables code input r (desig_phrases d) (expr_phrases from) (expr_phrases to)
            ls
            before_body) in
            let g2 = expr_go r line lt to ls3 (fine_third p tables code input r (desig_phrases d) (expr_phrases from) (expr_phrases to) ls
            before_body) in
            let fine_body = fine_fourth p tables code input r (desig_phrases d) (expr_phrases from) (expr_phrases to) (stmts_phrases body)
            ls
            inner in
            let body_stays = stays_back p tables code input may bounds (stmts_phrases body) inner_stays in
            let apart = h.asked.0.loops.0 in
            let one_cell : desig_cells y ≡ 1 = cells_with d ls ∙ h.asked.0.cells in
            let of_counter = hidden_variable r counter lt apart.of_counter in
            let of_limit = hidden_variable r limit lt apart.of_limit in
            let var : List SlotKind = unless_bare (bare_desig y) (slot.Number ∷ desig_slots p r y) in
            let rest : List SlotKind = var ++ stmts_slots p r x in
            let last : ℕ = behind_expr p r (lo + 1) x1 in
            let place : ℕ = behind_expr p r last x2 in
            let s1 = slots_behind p code input r lo (slot.Number ∷ []) (expr_slots p r x1 ++ (expr_slots p r x2 ++ rest)) slots in
            let s2 = slots_behind p code input r (lo + 1) (expr_slots p r x1) (expr_slots p r x2 ++ rest) s1 in
            let s3 = slots_behind p code input r last (expr_slots p r x2) rest s2 in
            λ stands v now b.
            for_runs p tables code input below r line (suc n) may at lo (suc n) y range counter limit x1 x2 by x one_cell (omega arith)
            apart.two slots of_counter of_limit g1.constants
            (g1.runs (at + 1) (lo + 1) (slots_first p code input r (lo + 1) (expr_slots p r x1) (expr_slots p r x2 ++ rest) s1))
            (λ next. limit_goes p tables code input below r line (suc n) may x2 g2 next last limit of_limit
            (slots_first p code input r last (expr_slots p r x2) rest s2))
            (for_counts p tables code input below r line (suc n) may at lo n y range counter limit x1 x2 by x (g.fits one_cell) one_cell
            (omega arith) h.asked.0.coded slots of_counter of_limit
            (λ none next. variable p tables code input below r line (suc n) y g next place
            (slots_first p code input r place var (stmts_slots p r x) s3) none)
            (λ next. turn_list may r line lt body ls4 fine_body body_stays next (behind_variable p r place y)
            (slots_behind p code input r place var (stmts_slots p r x) s3))
            (know.fors may r line lt l ls h.asked.0 inner inner_stays at lo slots stands) stands) stands v now b
        stmt_go may r lt (SomeOf (a_loop d range counter limit from to by body)) ls0 h stays line at lo slots =
            let ls = drop 1 ls0 in
            let l : Loop = a_loop d range counter limit from to by body in
            let inner = fine_stmt p tables code input r (SomeOf l) (loop_phrases l) ls0 h in
            let inner_stays = λ (e : may ≡ false). (stays e).1 in
            let bounds = (desig_phrases d ++ expr_phrases from) ++ expr_phrases to in
            let ls2 = behind (desig_phrases d) ls in
            let ls3 = behind (expr_phrases from) ls2 in
            let ls4 = behind (expr_phrases to) ls3 in
            let y : Desig = desig_with d ls in
            let x1 : Expr = expr_with from ls2 in
            let x2 : Expr = expr_with to ls3 in
            let x : Stmts = stmts_with body ls4 in
            let before_body = fine_front p tables code input r bounds (stmts_phrases body) ls inner in
            let g = desig_go r line lt d ls (fine_first p tables code input r (desig_phrases d) (expr_phrases from) (expr_phrases to) ls
            before_body) in
            let g1 = expr_go r line lt from ls2 (fine_second p tables code input r (desig_phrases d) (expr_phrases from) (expr_phrases to)
            ls
            before_body) in
            let g2 = expr_go r line lt to ls3 (fine_third p tables code input r (desig_phrases d) (expr_phrases from) (expr_phrases to) ls
            before_body) in
            let fine_body = fine_fourth p tables code input r (desig_phrases d) (expr_phrases from) (expr_phrases to) (stmts_phrases body)
            ls
            inner in
            let body_stays = stays_back p tables code input may bounds (stmts_phrases body) inner_stays in
            let apart = h.asked.0.loops.0 in
            let one_cell : desig_cells y ≡ 1 = cells_with d ls ∙ h.asked.0.cells in
            let of_counter = hidden_variable r counter lt apart.of_counter in
            let of_limit = hidden_variable r limit lt apart.of_limit in
            let var : List SlotKind = unless_bare (bare_desig y) (slot.Number ∷ desig_slots p r y) in
            let rest : List SlotKind = slot.Number ∷ (var ++ stmts_slots p r x) in
            let last : ℕ = behind_expr p r (lo + 1) x1 in
            let more : ℕ = behind_expr p r last x2 in
            let s1 = slots_behind p code input r lo (slot.Number ∷ []) (expr_slots p r x1 ++ (expr_slots p r x2 ++ rest)) slots in
            let s2 = slots_behind p code input r (lo + 1) (expr_slots p r x1) (expr_slots p r x2 ++ rest) s1 in
            let s3 = slots_behind p code input r more (slot.Number ∷ []) (var ++ stmts_slots p r x)
            (slots_behind p code input r last (expr_slots p r x2) rest s2) in
            λ stands v now b.
            some_runs p tables code input below r line (suc n) may at lo (suc n) y range counter limit x1 x2 by x one_cell (omega arith)
            apart.two slots of_counter of_limit g1.constants
            (g1.runs (at + 1) (lo + 1) (slots_first p code input r (lo + 1) (expr_slots p r x1) (expr_slots p r x2 ++ rest) s1))
            (λ next. limit_goes p tables code input below r line (suc n) may x2 g2 next last limit of_limit
            (slots_first p code input r last (expr_slots p r x2) rest s2))
            (some_counts p tables code input below r line (suc n) may at lo n y range counter limit x1 x2 by x (g.fits one_cell) one_cell
            (omega arith) apart.two h.asked.0.coded slots of_counter of_limit
            (λ none next. variable p tables code input below r line (suc n) y g next (more + 1)
            (slots_first p code input r (more + 1) var (stmts_slots p r x) s3) none)
            (λ next. turn_list may r line lt body ls4 fine_body body_stays next (behind_variable p r (more + 1) y)
            (slots_behind p code input r (more + 1) var (stmts_slots p r x) s3))
            (know.somes may r line lt l ls h.asked.0 inner inner_stays at lo slots stands) stands) stands v now b
        stmt_go may r lt (Case e arms rest) ls0 h stays line at lo slots =
            let ls = drop 1 ls0 in
            let parts = expr_phrases e ++ cases_phrases arms in
            let inner = fine_stmt p tables code input r (Case e arms rest) (parts ++ else_phrases rest) ls0 h in
            let inner_stays = λ (e : may ≡ false). (stays e).1 in
            let ls2 = behind (expr_phrases e) ls in
            let ls3 = behind (cases_phrases arms) ls2 in
            let x : Expr = expr_with e ls in
            let els : Else = else_with rest ls3 in
            let g = expr_go r line lt e ls (fine_first p tables code input r (expr_phrases e) (cases_phrases arms) (else_phrases rest) ls
            inner) in
            let dead : List SlotKind = dead_slots p r (cases_with arms ls2) in
            let bound : ℕ = behind_dead p r (behind_expr p r lo x) (cases_with arms ls2) in
            let others : List SlotKind = cases_slots p r (cases_with arms ls2) ++ else_slots p r els in
            let first = slots_first p code input r lo (expr_slots p r x) (dead ++ (slot.Number ∷ slot.Number ∷ others)) slots in
            let s0 = slots_behind p code input r lo (expr_slots p r x) (dead ++ (slot.Number ∷ slot.Number ∷ others)) slots in
            let s1 = slots_behind p code input r (behind_expr p r lo x) dead (slot.Number ∷ slot.Number ∷ others) s0 in
            let c : CaseSlots r lo bound = record {
              apart = omega (arith, some_slots p code input r x);
              behind = slots.behind;
              kind = first_kind p code input r bound slot.Number (slot.Number ∷ others) s1;
              kind2 = first_kind p code input r (bound + 1) slot.Number others
                  (slots_behind p code input r bound (slot.Number ∷ []) (slot.Number ∷ others) s1);
            } in
            case_runs p tables code input below r line (suc n) may lo bound c.apart c.behind c.kind c.kind2 els at (bound + 2) x
            (cases_with arms ls2) refl refl (g.runs at lo first)
            (λ next. first_go may r lt arms ls2 (fine_second p tables code input r (expr_phrases e) (cases_phrases arms) (else_phrases rest)
            ls inner) (stays_second may (expr_phrases e) (cases_phrases arms) (else_phrases rest) inner_stays) els line lo bound c
            (λ jump there la le else_there. else_go may r lt rest ls3
            (fine_third p tables code input r (expr_phrases e) (cases_phrases arms) (else_phrases rest) ls inner)
            (stays_back p tables code input may parts (else_phrases rest) inner_stays) line lo bound c jump there la le else_there)
            next (bound + 2) (omega arith) (slots_behind p code input r bound (slot.Number ∷ slot.Number ∷ []) others s1))
        stmt_go may r lt (Either branches) ls0 h stays line at lo slots =
            let ls = drop 1 ls0 in
            let inner = fine_stmt p tables code input r (Either branches) (branches_phrases branches) ls0 h in
            either_form p tables code input below r line (suc n) may at lo (branches_with branches ls) slots
            (has_branch branches ls h.asked.0.choice) (branches_go may r lt branches ls inner (λ e. (stays e).1) line)
        stmt_go may r lt (Forall x y) ls0 h stays line at lo slots =
            let ls = drop 1 ls0 in
            let inner = fine_stmt p tables code input r (Forall x y) (stmts_phrases x ++ stmts_phrases y) ls0 h in
            let stay = h.asked.0.stay in
            let ls2 = behind (stmts_phrases x) ls in
            let first : Stmts = stmts_with x ls in
            let second : Stmts = stmts_with y ls2 in
            let xs : List SlotKind = stmts_slots p r first in
            let ys : List SlotKind = stmts_slots p r second in
            let behind_mark = slots_behind p code input r lo (slot.Mark ∷ []) (xs ++ (slot.Mark ∷ ys)) slots in
            let behind_first = slots_behind p code input r (lo + 1) xs (slot.Mark ∷ ys) behind_mark in
            plain may r line at lo (Forall first second) (forall_runs p tables code input below r line (suc n) first second at lo slots
            (stmts_go false r lt x ls (fine_front p tables code input r (stmts_phrases x) (stmts_phrases y) ls inner) (λ e. stay.0) line
            (at + 1) (lo + 1) (slots_first p code input r (lo + 1) xs (slot.Mark ∷ ys) behind_mark))
            (stmts_go false r lt y ls2 (fine_back p tables code input r (stmts_phrases x) (stmts_phrases y) ls inner) (λ e. stay.1) line
            (at + 1 + length (stmts_code p tables r (at + 1) (lo + 1) first) + 2) (behind_stmts p r (lo + 1) first + 1)
            (slots_behind p code input r (lo + 1 + length xs) (slot.Mark ∷ []) ys behind_first)))
        stmt_go may r lt (Commit x) ls0 h stays line at lo slots =
            let ls = drop 1 ls0 in
            let inner = fine_stmt p tables code input r (Commit x) (stmts_phrases x) ls0 h in
            let stay = h.asked.0.stay in
            let first : Stmts = stmts_with x ls in
            plain may r line at lo (Commit first) (commit_runs p tables code input below r line (suc n) at lo first slots
            (stmts_go false r lt x ls inner (λ e. stay) line (at + 1) (lo + 1)
            (slots_behind p code input r lo (slot.Mark ∷ []) (stmts_slots p r first) slots)))
        stmt_go may r lt (Return no_result) ls0 h stays line at lo slots =
            may_return may r line at lo (Return no_result) (λ e. (stays e).0)
            (return_runs p tables code input below r line (suc n) lo at (no_result_is (routine_at p r).result h.asked.0.return)
            slots.behind)
        stmt_go may r lt (Return (some_result e)) ls0 h stays line at lo slots =
            let ls = drop 1 ls0 in
            let x : Expr = expr_with e ls in
            let g = expr_go r line lt e ls (fine_stmt p tables code input r (Return (some_result e)) (expr_phrases e) ls0 h) in
            let result = result_is (routine_at p r).result h.asked.0.return in
            may_return may r line at lo (Return (some_result x)) (λ no. (stays no).0)
            (return_value_runs p tables code input below r line (suc n) x result.0 lo at result.1 slots.behind
            (results r result.0 lt result.1) (once p tables code input below r line (suc n) x g at lo slots))
        stmt_go may r lt (Read d how range) ls0 h stays line at lo slots =
            let ls = drop 1 ls0 in
            let y : Desig = desig_with d ls in
            let g = desig_go r line lt d ls (fine_stmt p tables code input r (Read d how range) (desig_phrases d) ls0 h) in
            let asked = h.asked.0 in
            plain may r line at lo (Read y how range)
            (read_runs p tables code input below r line (suc n) flat position_kind lawful at lo y how range slots.behind
            (cells_with d ls ∙ asked.cells) asked.coded.0 asked.coded.1 (g.held at lo slots))
        stmt_go may r lt (WriteExpr e how) ls0 h stays line at lo slots =
            let ls = drop 1 ls0 in
            let x : Expr = expr_with e ls in
            let g = expr_go r line lt e ls (fine_stmt p tables code input r (WriteExpr e how) (expr_phrases e) ls0 h) in
            plain may r line at lo (WriteExpr x how)
            (write_runs p tables code input below r line (suc n) at lo x how slots.behind
            (once p tables code input below r line (suc n) x g at lo slots))
        stmt_go may r lt (WriteText text) ls0 h stays line at lo slots =
            plain may r line at lo (WriteText text) (text_runs p tables code input below r line (suc n) at lo text h.asked.0.coded)
        stmt_go may r lt WriteLine ls0 h stays line at lo slots =
            plain may r line at lo WriteLine (line_runs p tables code input below r line (suc n) at lo)

        branches_go : (may : Bool) (r : ℕ) → r < length p.routines → (x : Branches) (ls : List ℕ) → FineIn r (branches_phrases x) ls
            → Stays p tables code input may (branches_phrases x) → (line : ℕ)
            → EachRuns p tables code input below r line (suc n) may (branches_with x ls)
        branches_go may r lt no_branches ls h stays line = tt
        branches_go may r lt (more_branches body rest) ls h stays line = (
          λ at lo slots. stmts_go may r lt body ls (fine_front p tables code input r (stmts_phrases body) (branches_phrases rest) ls h)
              (stays_front p tables code input may (stmts_phrases body) (branches_phrases rest) stays) line at lo slots,
          branches_go may r lt rest (behind (stmts_phrases body) ls)
              (fine_back p tables code input r (stmts_phrases body) (branches_phrases rest) ls h)
              (stays_back p tables code input may (stmts_phrases body) (branches_phrases rest) stays) line,
        )

        -- the arms of IF, given its ELSE list
        if_go : (may : Bool) (r : ℕ) → r < length p.routines → (arms : Arms) (ls : List ℕ) → FineIn r (arms_phrases arms) ls
            → Stays p tables code input may (arms_phrases arms) → (els : Stmts) → ElseRuns may r els → (line at lo : ℕ)
            → HasSlots p code r lo (arms_slots p r (arms_with arms ls) ++ stmts_slots p r els)
            → StatementRuns p tables code input below r line (suc n) may at lo (If (arms_with arms ls) els)
        if_go may r lt no_arms ls h stays els others line at lo slots =
            no_arms_if p tables code input below r line (suc n) may at lo els (others line at lo slots)
        if_go may r lt (more_arms t body rest) ls h stays els others line at lo slots =
            let ls2 = behind (test_phrases t) ls in
            let ls3 = behind (stmts_phrases body) ls2 in
            let u : Test = test_with t ls in
            let x : Stmts = stmts_with body ls2 in
            let parts = arm_slots r lo (mark_slots (is_simple u)) (test_slots p r u) (stmts_slots p r x)
            (arms_slots p r (arms_with rest ls3))
            (stmts_slots p r els) slots in
            let g = test_go r line lt t ls (fine_first p tables code input r (test_phrases t) (stmts_phrases body) (arms_phrases rest) ls h)
            in
            if_runs p tables code input below r line (suc n) may at lo u x (arms_with rest ls3) els slots.behind
            (λ none. decides p tables code input below r line (suc n) u g at lo none parts.0)
            (λ next. stmts_go may r lt body ls2 (fine_second p tables code input r (test_phrases t) (stmts_phrases body) (arms_phrases rest)
            ls h) (stays_second may (test_phrases t) (stmts_phrases body) (arms_phrases rest) stays) line next (behind_condition p r lo u)
            parts.1)
            (λ jump next. arms_go may r lt rest ls3 (fine_third p tables code input r (test_phrases t) (stmts_phrases body)
            (arms_phrases rest) ls h) (stays_back p tables code input may (test_phrases t ++ stmts_phrases body) (arms_phrases rest)
            stays) els others line jump next (behind_stmts p r (behind_condition p r lo u) x) parts.2)

        arms_go : (may : Bool) (r : ℕ) → r < length p.routines → (arms : Arms) (ls : List ℕ) → FineIn r (arms_phrases arms) ls
            → Stays p tables code input may (arms_phrases arms) → (els : Stmts) → ElseRuns may r els → (line jump at lo : ℕ)
            → HasSlots p code r lo (arms_slots p r (arms_with arms ls) ++ stmts_slots p r els)
            → ArmsRun p tables code input below r line (suc n) may jump at lo (arms_with arms ls) els
        arms_go may r lt no_arms ls h stays els others line jump at lo slots =
            no_arms_run p tables code input below r line (suc n) may jump at lo els (others line at lo slots)
        arms_go may r lt (more_arms t body rest) ls h stays els others line jump at lo slots =
            let ls2 = behind (test_phrases t) ls in
            let ls3 = behind (stmts_phrases body) ls2 in
            let u : Test = test_with t ls in
            let x : Stmts = stmts_with body ls2 in
            let parts = arm_slots r lo (mark_slots (is_simple u)) (test_slots p r u) (stmts_slots p r x)
            (arms_slots p r (arms_with rest ls3))
            (stmts_slots p r els) slots in
            let g = test_go r line lt t ls (fine_first p tables code input r (test_phrases t) (stmts_phrases body) (arms_phrases rest) ls h)
            in
            more_arms_run p tables code input below r line (suc n) may jump at lo u x (arms_with rest ls3) els slots.behind
            (λ none. decides p tables code input below r line (suc n) u g at lo none parts.0)
            (λ next. stmts_go may r lt body ls2 (fine_second p tables code input r (test_phrases t) (stmts_phrases body) (arms_phrases rest)
            ls h) (stays_second may (test_phrases t) (stmts_phrases body) (arms_phrases rest) stays) line next (behind_condition p r lo u)
            parts.1)
            (λ next. arms_go may r lt rest ls3 (fine_third p tables code input r (test_phrases t) (stmts_phrases body) (arms_phrases rest)
            ls
            h) (stays_back p tables code input may (test_phrases t ++ stmts_phrases body) (arms_phrases rest) stays) els others line jump
            next (behind_stmts p r (behind_condition p r lo u) x) parts.2)

        -- the arms of CASE, given its ELSE part
        first_go : (may : Bool) (r : ℕ) → r < length p.routines → (arms : CaseArms) (ls : List ℕ) → FineIn r (cases_phrases arms) ls
            → Stays p tables code input may (cases_phrases arms) → (els : Else) (line lo bound : ℕ) (c : CaseSlots r lo bound)
            → ElseCases may r line lo bound c els
            → (at la : ℕ) → lo ≤ la → HasSlots p code r la (cases_slots p r (cases_with arms ls) ++ else_slots p r els)
            → FirstRun p tables code input below r line (suc n) may lo bound c.apart c.behind c.kind c.kind2 els at la
            (cases_with arms ls)
        first_go may r lt no_cases ls h stays els line lo bound c others at la le slots =
            no_first_run p tables code input below r line (suc n) may lo bound c.apart c.behind c.kind c.kind2 els at la
            (λ jump. others jump at la le slots)
        first_go may r lt (more_cases [] body rest) ls h stays els line lo bound c others at la le slots =
            let ls2 = behind (stmts_phrases body) ls in
            unlabelled_first_run p tables code input below r line (suc n) may lo bound c.apart c.behind c.kind c.kind2 els at la
            (stmts_with body ls) (cases_with rest ls2)
            (first_go may r lt rest ls2 (fine_back p tables code input r (stmts_phrases body) (cases_phrases rest) ls h)
            (stays_back p tables code input may (stmts_phrases body) (cases_phrases rest) stays) els line lo bound c others at la le
            slots)
        first_go may r lt (more_cases (label ∷ labels) body rest) ls h stays els line lo bound c others at la le slots =
            let ls2 = behind (stmts_phrases body) ls in
            let x : Stmts = stmts_with body ls in
            let split = case_slots r la (stmts_slots p r x) (cases_slots p r (cases_with rest ls2)) (else_slots p r els) slots in
            labelled_first_run p tables code input below r line (suc n) may lo bound c.apart c.behind c.kind c.kind2 els at la label labels
            x
            (cases_with rest ls2) le
            (λ next. stmts_go may r lt body ls (fine_front p tables code input r (stmts_phrases body) (cases_phrases rest) ls h)
            (stays_front p tables code input may (stmts_phrases body) (cases_phrases rest) stays) line next la split.0)
            (λ jump next. cases_go may r lt rest ls2 (fine_back p tables code input r (stmts_phrases body) (cases_phrases rest) ls h)
            (stays_back p tables code input may (stmts_phrases body) (cases_phrases rest) stays) els line lo bound c others jump next
            (behind_stmts p r la x) (omega (arith, le)) split.1)

        cases_go : (may : Bool) (r : ℕ) → r < length p.routines → (arms : CaseArms) (ls : List ℕ) → FineIn r (cases_phrases arms) ls
            → Stays p tables code input may (cases_phrases arms) → (els : Else) (line lo bound : ℕ) (c : CaseSlots r lo bound)
            → ElseCases may r line lo bound c els
            → (jump at la : ℕ) → lo ≤ la → HasSlots p code r la (cases_slots p r (cases_with arms ls) ++ else_slots p r els)
            → CasesRun p tables code input below r line (suc n) may lo bound c.apart c.behind c.kind c.kind2 els jump at la
            (cases_with arms ls)
        cases_go may r lt no_cases ls h stays els line lo bound c others jump at la le slots = others jump at la le slots
        cases_go may r lt (more_cases [] body rest) ls h stays els line lo bound c others jump at la le slots =
            let ls2 = behind (stmts_phrases body) ls in
            unlabelled_run p tables code input below r line (suc n) may lo bound c.apart c.behind c.kind c.kind2 els jump at la
            (stmts_with body ls) (cases_with rest ls2)
            (cases_go may r lt rest ls2 (fine_back p tables code input r (stmts_phrases body) (cases_phrases rest) ls h)
            (stays_back p tables code input may (stmts_phrases body) (cases_phrases rest) stays) els line lo bound c others jump at la le
            slots)
        cases_go may r lt (more_cases (label ∷ labels) body rest) ls h stays els line lo bound c others jump at la le slots =
            let ls2 = behind (stmts_phrases body) ls in
            let x : Stmts = stmts_with body ls in
            let split = case_slots r la (stmts_slots p r x) (cases_slots p r (cases_with rest ls2)) (else_slots p r els) slots in
            labelled_run p tables code input below r line (suc n) may lo bound c.apart c.behind c.kind c.kind2 els jump at la label labels x
            (cases_with rest ls2) le
            (λ next. stmts_go may r lt body ls (fine_front p tables code input r (stmts_phrases body) (cases_phrases rest) ls h)
            (stays_front p tables code input may (stmts_phrases body) (cases_phrases rest) stays) line next la split.0)
            (λ next. cases_go may r lt rest ls2 (fine_back p tables code input r (stmts_phrases body) (cases_phrases rest) ls h)
            (stays_back p tables code input may (stmts_phrases body) (cases_phrases rest) stays) els line lo bound c others jump next
            (behind_stmts p r la x) (omega (arith, le)) split.1)

        else_go : (may : Bool) (r : ℕ) → r < length p.routines → (rest : Else) (ls : List ℕ) → FineIn r (else_phrases rest) ls
            → Stays p tables code input may (else_phrases rest) → (line lo bound : ℕ) (c : CaseSlots r lo bound) (jump at la : ℕ) → lo ≤ la
            → HasSlots p code r la (else_slots p r (else_with rest ls))
            → CasesRun p tables code input below r line (suc n) may lo bound c.apart c.behind c.kind c.kind2 (else_with rest ls) jump at la
            no_cases
        else_go may r lt no_else ls h stays line lo bound c jump at la le slots =
            no_else_run p tables code input below r line (suc n) may lo bound jump at la c.apart c.behind c.kind c.kind2
        else_go may r lt (else_part body) ls h stays line lo bound c jump at la le slots =
            else_run p tables code input below r line (suc n) may lo bound jump at la c.apart c.behind c.kind c.kind2 (stmts_with body ls)
            le
            (stmts_go may r lt body ls h stays line at la slots)

      -- ---- the turns at this level

      for_go : (may : Bool) (r line : ℕ) → r < length p.routines → (l : Loop) (ls : List ℕ)
          → Asked p tables code input r (StmtPhrase (ForTo l)) → FineIn r (loop_phrases l) ls
          → Stays p tables code input may (loop_phrases l)
          → (at lo : ℕ) → HasSlots p code r lo (stmt_slots p r (ForTo (loop_with l ls)))
          → Stands code at (stmt_code p tables r line at lo (ForTo (loop_with l ls)))
          → ForTurns p tables code input (level_above p input below) may r line at lo (loop_with l ls) (suc n)
      unfolding stmts_phrases stmts_with
      for_go may r line lt (a_loop d range counter limit from to by body) ls asked inner inner_stays at lo slots stands =
          let l : Loop = a_loop d range counter limit from to by body in
          let bounds = (desig_phrases d ++ expr_phrases from) ++ expr_phrases to in
          let ls2 = behind (desig_phrases d) ls in
          let ls3 = behind (expr_phrases from) ls2 in
          let ls4 = behind (expr_phrases to) ls3 in
          let y : Desig = desig_with d ls in
          let x1 : Expr = expr_with from ls2 in
          let x2 : Expr = expr_with to ls3 in
          let x : Stmts = stmts_with body ls4 in
          let before_body = fine_front p tables code input r bounds (stmts_phrases body) ls inner in
          let g = desig_go r line lt d ls (fine_first p tables code input r (desig_phrases d) (expr_phrases from) (expr_phrases to) ls
          before_body) in
          let fine_body = fine_fourth p tables code input r (desig_phrases d) (expr_phrases from) (expr_phrases to) (stmts_phrases body) ls
          inner in
          let body_stays = stays_back p tables code input may bounds (stmts_phrases body) inner_stays in
          let apart = asked.loops.0 in
          let one_cell : desig_cells y ≡ 1 = cells_with d ls ∙ asked.cells in
          let var : List SlotKind = unless_bare (bare_desig y) (slot.Number ∷ desig_slots p r y) in
          let rest : List SlotKind = var ++ stmts_slots p r x in
          let last : ℕ = behind_expr p r (lo + 1) x1 in
          let place : ℕ = behind_expr p r last x2 in
          let s1 = slots_behind p code input r lo (slot.Number ∷ []) (expr_slots p r x1 ++ (expr_slots p r x2 ++ rest)) slots in
          let s3 = slots_behind p code input r last (expr_slots p r x2) rest
          (slots_behind p code input r (lo + 1) (expr_slots p r x1) (expr_slots p r x2 ++ rest) s1) in
          for_counts p tables code input below r line (suc n) may at lo n y range counter limit x1 x2 by x (g.fits one_cell) one_cell
          (omega arith) asked.coded slots (hidden_variable r counter lt apart.of_counter) (hidden_variable r limit lt apart.of_limit)
          (λ none next. variable p tables code input below r line (suc n) y g next place
          (slots_first p code input r place var (stmts_slots p r x) s3) none)
          (λ next. turn_list may r line lt body ls4 fine_body body_stays next (behind_variable p r place y)
          (slots_behind p code input r place var (stmts_slots p r x) s3))
          (know.fors may r line lt l ls asked inner inner_stays at lo slots stands) stands

      some_go : (may : Bool) (r line : ℕ) → r < length p.routines → (l : Loop) (ls : List ℕ)
          → Asked p tables code input r (StmtPhrase (SomeOf l)) → FineIn r (loop_phrases l) ls
          → Stays p tables code input may (loop_phrases l) → (at lo : ℕ) → HasSlots p code r lo (stmt_slots p r (SomeOf (loop_with l ls)))
          → Stands code at (stmt_code p tables r line at lo (SomeOf (loop_with l ls)))
          → SomeTurns p tables code input (level_above p input below) may r line at lo (loop_with l ls) (suc n)
      unfolding stmts_phrases stmts_with
      some_go may r line lt (a_loop d range counter limit from to by body) ls asked inner inner_stays at lo slots stands =
          let l : Loop = a_loop d range counter limit from to by body in
          let bounds = (desig_phrases d ++ expr_phrases from) ++ expr_phrases to in
          let ls2 = behind (desig_phrases d) ls in
          let ls3 = behind (expr_phrases from) ls2 in
          let ls4 = behind (expr_phrases to) ls3 in
          let y : Desig = desig_with d ls in
          let x1 : Expr = expr_with from ls2 in
          let x2 : Expr = expr_with to ls3 in
          let x : Stmts = stmts_with body ls4 in
          let before_body = fine_front p tables code input r bounds (stmts_phrases body) ls inner in
          let g = desig_go r line lt d ls (fine_first p tables code input r (desig_phrases d) (expr_phrases from) (expr_phrases to) ls
          before_body) in
          let fine_body = fine_fourth p tables code input r (desig_phrases d) (expr_phrases from) (expr_phrases to) (stmts_phrases body) ls
          inner in
          let body_stays = stays_back p tables code input may bounds (stmts_phrases body) inner_stays in
          let apart = asked.loops.0 in
          let one_cell : desig_cells y ≡ 1 = cells_with d ls ∙ asked.cells in
          let var : List SlotKind = unless_bare (bare_desig y) (slot.Number ∷ desig_slots p r y) in
          let rest : List SlotKind = slot.Number ∷ (var ++ stmts_slots p r x) in
          let last : ℕ = behind_expr p r (lo + 1) x1 in
          let more : ℕ = behind_expr p r last x2 in
          let s1 = slots_behind p code input r lo (slot.Number ∷ []) (expr_slots p r x1 ++ (expr_slots p r x2 ++ rest)) slots in
          let s2 = slots_behind p code input r (lo + 1) (expr_slots p r x1) (expr_slots p r x2 ++ rest) s1 in
          let s3 = slots_behind p code input r more (slot.Number ∷ []) (var ++ stmts_slots p r x)
          (slots_behind p code input r last (expr_slots p r x2) rest s2) in
          some_counts p tables code input below r line (suc n) may at lo n y range counter limit x1 x2 by x (g.fits one_cell) one_cell
          (omega arith) apart.two asked.coded slots (hidden_variable r counter lt apart.of_counter)
          (hidden_variable r limit lt apart.of_limit)
          (λ none next. variable p tables code input below r line (suc n) y g next (more + 1)
          (slots_first p code input r (more + 1) var (stmts_slots p r x) s3) none)
          (λ next. turn_list may r line lt body ls4 fine_body body_stays next (behind_variable p r (more + 1) y)
          (slots_behind p code input r (more + 1) var (stmts_slots p r x) s3))
          (know.somes may r line lt l ls asked inner inner_stays at lo slots stands) stands

      while_go : (may : Bool) (r line : ℕ) → r < length p.routines → (t : Test) (body : Stmts) (ls : List ℕ)
          → FineIn r (test_phrases t ++ stmts_phrases body) ls → Stays p tables code input may (test_phrases t ++ stmts_phrases body)
          → (at lo : ℕ) → HasSlots p code r lo (stmt_slots p r (While (test_with t ls) (stmts_with body (behind (test_phrases t) ls))))
          → Stands code at (stmt_code p tables r line at lo (While (test_with t ls) (stmts_with body (behind (test_phrases t) ls))))
          → HeldTurnsRun p tables code input below r line (suc n) may
          (while_top p tables code input below r line (suc n) at lo (test_with t ls) (stmts_with body (behind (test_phrases t) ls)))
          (while_exit p tables code input below r line (suc n) at lo (test_with t ls) (stmts_with body (behind (test_phrases t) ls))) lo
          (test_with t ls) (while_turn (below.test (test_with t ls)) (below.stmts (stmts_with body (behind (test_phrases t) ls)))
          (below.while (test_with t ls) (stmts_with body (behind (test_phrases t) ls)))) (suc n - 1)
      while_go may r line lt t body ls inner inner_stays at lo slots stands v now b is_held =
          let ls2 = behind (test_phrases t) ls in
          let u : Test = test_with t ls in
          let x : Stmts = stmts_with body ls2 in
          let top : ℕ = while_top p tables code input below r line (suc n) at lo u x in
          let exit : ℕ = while_exit p tables code input below r line (suc n) at lo u x in
          let w = ending p code input may lo r now in
          let e : Events NoYield = on_first (below.test u v) (λ a _. bind (below.stmts x a) (λ y _. below.while u x y)) (λ _. one v tt) in
          subst (λ k. Later code input line top exit now w (Visit e) k) less_one
          (visited_later code input line top exit now w e n
          (while_turn_runs p tables code input below r line (suc n) may at lo u x (below.test u) (below.stmts x) (below.while u x) n (n - 1)
          slots.behind (omega arith) (turn_known (is_turned u) may r line lt t body ls inner inner_stays at lo refl slots)
          (know.whiles may r line lt t body ls inner inner_stays at lo slots stands) stands v now b is_held))

      repeat_go : (may : Bool) (r line : ℕ) → r < length p.routines → (body : Stmts) (t : Test) (ls : List ℕ)
          → FineIn r (stmts_phrases body ++ test_phrases t) ls → Stays p tables code input may (stmts_phrases body ++ test_phrases t)
          → (at lo : ℕ) → HasSlots p code r lo (stmt_slots p r (Repeat (stmts_with body ls) (test_with t (behind (stmts_phrases body) ls))))
          → Stands code at (stmt_code p tables r line at lo (Repeat (stmts_with body ls) (test_with t (behind (stmts_phrases body) ls))))
          → TurnsRun p tables code input below r line (suc n) may
          at (repeat_exit p tables code input below r line (suc n) at lo (stmts_with body ls)
          (test_with t (behind (stmts_phrases body) ls))) lo
          (repeat_turn (ev_stmts p input below (stmts_with body ls)) (ev_test p input below (test_with t (behind (stmts_phrases body) ls)))
          (below.repeat (stmts_with body ls) (test_with t (behind (stmts_phrases body) ls)))) (suc n)
      repeat_go may r line lt body t ls inner inner_stays at lo slots stands v now b =
          let ls2 = behind (stmts_phrases body) ls in
          let x : Stmts = stmts_with body ls in
          let u : Test = test_with t ls2 in
          let exit : ℕ = repeat_exit p tables code input below r line (suc n) at lo x u in
          let w = ending p code input may lo r now in
          let g = test_go r line lt t ls2 (fine_back p tables code input r (stmts_phrases body) (test_phrases t) ls inner) in
          let e : Events NoYield = bind (ev_stmts p input below x v)
          (λ a _. on_first (ev_test p input below u a) (λ y _. one y tt) (λ _. below.repeat x u a)) in
          visited_later code input line at exit now w e (suc n)
          (repeat_turn_runs p tables code input below r line (suc n) may at lo x u (ev_stmts p input below x) (ev_test p input below u)
          (below.repeat x u) n slots.behind (omega arith)
          (stmts_go may r lt body ls (fine_front p tables code input r (stmts_phrases body) (test_phrases t) ls inner)
          (stays_front p tables code input may (stmts_phrases body) (test_phrases t) inner_stays) line at lo
          (slots_first p code input r lo (stmts_slots p r x) (mark_slots (is_simple u) ++ test_slots p r u) slots))
          (λ next. decides p tables code input below r line (suc n) u g next (behind_stmts p r lo x)
          at (slots_behind p code input r lo (stmts_slots p r x) (mark_slots (is_simple u) ++ test_slots p r u) slots))
          (know.repeats may r line lt body t ls inner inner_stays at lo slots stands) stands v now b)

      -- what is known at this level
      pub level_known : Below p tables code input (level_above p input below) (suc n)
      level_known = record {
        lists = λ may r line lt x ls fine stays at lo slots. stmts_go may r lt x ls fine stays line at lo slots;
        tests = λ r line lt t ls fine at lo none slots. decides p tables code input below r line (suc n) (test_with t ls)
            (test_go r line lt t ls fine) at lo none slots;
        backs = λ r line lt t ls fine e at lo held top slots. decides_back p tables code input below r line (suc n) (test_with t ls)
            (test_go r line lt t ls fine) e at lo held top slots;
        whiles = λ may r line lt t x ls fine stays at lo slots stands v now b held. while_go may r line lt t x ls fine stays at lo slots
            stands v now b held;
        repeats = λ may r line lt x t ls fine stays at lo slots stands v now b. repeat_go may r line lt x t ls fine stays at lo slots stands
            v
            now b;
        fors = λ may r line lt l ls asked fine stays at lo slots stands. for_go may r line lt l ls asked fine stays at lo slots stands;
        somes = λ may r line lt l ls asked fine stays at lo slots stands. some_go may r line lt l ls asked fine stays at lo slots stands;
      }
