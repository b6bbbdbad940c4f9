-- The code that is made of each phrase of a routine. A phrase stands at an address, has the line of the statement round it,
-- and takes fresh slots from a slot on: those of `stmt_slots` and the like.
use Rattle.std.specs.Prelude.{ℕ, zero, suc, ◌+◌, true, false, pos, List, [], ◌∷◌, ◌++◌, length, Option, Some, None}
use Rattle.alma_base.specs.Numbers.{char_range}
use Rattle.alma_base.specs.declared.number.Range.{Range}
use Rattle.alma_code.specs.Machine.{no_case, no_return}
use Rattle.alma_code.specs.declared.instr.Instr.{Instr}
use Rattle.alma_code.specs.declared.instr.Instr.TheVariants as I
use Rattle.alma_ir.specs.declared.phrase.Cmp.TheVariants as cmp
use Rattle.alma_ir.specs.declared.phrase.Root.{Root}
use Rattle.alma_ir.specs.declared.phrase.Root.TheVariants as root
use Rattle.alma_ir.specs.Tree.{Stmts, Stmt, Arms, CaseArms, Else, Branches, Loop, ReturnExpr, Test, Tests, Expr, Links, Args, Arg, Desig}
use Rattle.alma_ir.specs.Tree.{Sels, Sel, Program, routine_at, no_stmts, more_stmts, TestStmt, Assign, CopyCells, If, While, Repeat, ForTo}
use Rattle.alma_ir.specs.Tree.{SomeOf, Case, Either, Forall, Commit, Return, Read, WriteExpr, WriteText, WriteLine, no_arms, more_arms}
use Rattle.alma_ir.specs.Tree.{no_cases, more_cases, no_else, else_part, no_branches, more_branches, a_loop, no_result, some_result, Value}
use Rattle.alma_ir.specs.Tree.{Bind, Unify, SameCells, Seq, And, Or, Not, CallTest, no_tests, more_tests, Const, Load, Chain, Compare}
use Rattle.alma_ir.specs.Tree.{Truth, Known, Chr, CallExpr, no_links, more_links, no_args, more_args, ByValue, ByCells, ByPlace, MixValue}
use Rattle.alma_ir.specs.Tree.{MixPlace, a_desig, no_sels, more_sels, Field, Index}
use Rattle.alma_ir.specs.Checked.{outer_at}
use Rattle.alma_ir.specs.Lines.{body_with_lines}
use Rattle.alma_lower_templates.specs.LineInstr.{LineInstr, own, in_row, leaving}
use Rattle.alma_lower_templates.specs.Tables.{Tables, range_number, text_number}
use Rattle.alma_lower_templates.specs.Slots.{shift_of, bare_desig, bare, stays, stays_in, taken_from, unless_bare, goes_straight, own_place}
use Rattle.alma_lower_templates.specs.Slots.{own_root}
use Rattle.alma_lower_templates.specs.Slots.{is_simple, handed_slots, call_links, root_slots, arg_slots, behind_stmts, behind_stmt}
use Rattle.alma_lower_templates.specs.Slots.{behind_test, behind_condition, behind_expr, behind_dead, behind_value, behind_desig}
use Rattle.alma_lower_templates.specs.Slots.{behind_target, behind_variable, is_straight, own_kinds, is_turned, by_turn, constant}
use Rattle.alma_lower_templates.specs.Slots.{ends_alone, held_constant, behind_held}
use Rattle.alma_lower_templates.specs.Pieces.{op_code, cmp_code, unequal_code, straight, neg_code, write_code, read_code, fit_code}
use Rattle.alma_lower_templates.specs.Pieces.{link_code, condition, guard_code, branch_code, first_of_two, not_code, truth_code, each_body}
use Rattle.alma_lower_templates.specs.Pieces.{forall_code, begin_loop, turn_code, for_turns, some_turns, behind_labels, case_arm}
use Rattle.alma_lower_templates.specs.Pieces.{passed_over, has_dead, put_code, first_argument, turned_loop, opposite_code, unless_constant}
use Rattle.alma_lower_templates.specs.Pieces.{limit_code, place_code, held_code, held_or}

module _ (p : Program) (tables : Tables) (r : ℕ) where
  -- the slot of the code for a slot of the routine
  abbrev pub own_slot : ℕ → ℕ
  own_slot from = shift_of p r + from

  -- the slot of the code for a slot of the routine so many links up
  abbrev pub outer_slot : (links from : ℕ) → ℕ
  outer_slot links from = shift_of p (outer_at p r links) + from

  -- ---- where a value stands that is used at once

  -- the slot of the code for this slot of the routine, where there is one, else `lo`
  abbrev pub slot_or : Option ℕ → ℕ → ℕ
  slot_or (Some from) lo = own_slot from
  slot_or None lo = lo

  -- the slot of a value that takes slots from `lo` on: its own where it is a variable of the routine, else the first
  abbrev pub value_at : (lo : ℕ) → Expr → ℕ
  value_at lo e = slot_or (bare e) lo

  -- ---- where a place stands

  -- the slot of the part that a selector names, which is its last
  abbrev pub part_slot : (lo : ℕ) → Sel → ℕ
  part_slot lo (Field offset cells) = lo
  part_slot lo (Index e range cells) = behind_value p r lo e

  -- the slot of the part that selectors name, of the place in the slot `from`
  abbrev pub part_at : (from lo : ℕ) → Sels → ℕ
  part_at from lo no_sels = from
  part_at from lo (more_sels x rest) = part_at (part_slot lo x) (part_slot lo x + 1) rest

  -- the first slot behind those of a root
  abbrev pub behind_root : (lo : ℕ) → Root → ℕ
  behind_root lo root = lo + 1 + length (root_slots p r root)

  -- the slot of the place of a designator that takes slots from `lo` on
  abbrev pub place_at : (lo : ℕ) → Desig → ℕ
  place_at lo (a_desig root cells sels) = part_at lo (behind_root lo root) sels

  -- that of a parameter stands in its own slot where it is read at once
  abbrev pub held_at : (lo : ℕ) → Desig → ℕ
  held_at lo d = slot_or (own_place d) (place_at lo d)

  -- ---- designators without selectors

  -- the place of a root goes into the slot `lo`, the links on the way to it into those behind
  abbrev pub root_code : (lo : ℕ) → Root → List Instr
  root_code lo (root.Local from) = I.Local lo (own_slot from) ∷ []
  root_code lo (root.Global from) = I.Global lo from ∷ []
  root_code lo (root.Param from) = I.Same lo (own_slot from) ∷ []
  root_code lo (root.Outer links from) = link_code (lo + 1) links ++ (I.Outer lo (lo + 1 + links) (outer_slot links from) ∷ [])
  root_code lo (root.OuterParam links from) = link_code (lo + 1) links ++ (I.OuterSame lo (lo + 1 + links) (outer_slot links from) ∷ [])

  -- ---- calls

  -- a link to the frame so many links up, where the called routine has one
  abbrev pub link_if : (shift up lo : ℕ) → List Instr
  link_if zero up lo = []
  link_if (suc one) up lo = link_code lo up

  -- the link that a call hands over, where the called routine has one
  abbrev pub call_link_code : (called up lo : ℕ) → List Instr
  call_link_code called up lo = link_if (shift_of p called) up lo

  -- how many slots are handed over: that of the link, where there is one, and those of the arguments
  abbrev pub handed : (called : ℕ) → Args → ℕ
  handed called args = shift_of p called + length (handed_slots args)

  -- the slot of the first of what is handed over: of the link, where there is one, else of the first argument
  abbrev pub handed_from : (shift up lo : ℕ) → ℕ
  handed_from zero up lo = lo
  handed_from (suc one) up lo = lo + up

  -- the slot of the first argument, behind that of the link
  abbrev pub arguments_from : (called up lo : ℕ) → ℕ
  arguments_from called up lo = lo + length (call_links p r called up)

  -- a call, whose result goes into the slot `to`
  abbrev pub call_code : (called : ℕ) → Args → (up lo to : ℕ) → Instr
  call_code called args up lo to = I.Call called (first_argument (handed called args) (handed_from (shift_of p called) up lo)) to

  -- ---- variables

  -- the number in a slot goes to a variable, into its own slot where it has one
  abbrev pub set_by : Option ℕ → (lo value : ℕ) → Desig → Instr
  set_by (Some to) lo value d = I.Move (own_slot to) value
  set_by None lo value d = I.Store (held_at lo d) value

  -- the same, by where the variable stands
  abbrev pub set_code : (lo value : ℕ) → Desig → Instr
  set_code lo value d = set_by (bare_desig d) lo value d

  -- a value and what sets a variable to it, or the value alone where it goes straight into the slot of the variable
  abbrev pub set_to : Option ℕ → (line : ℕ) → (value : List LineInstr) → (set : List Instr) → List LineInstr
  set_to (Some to) line value set = straight (own_slot to) value
  set_to None line value set = value ++ own line set

  -- the number of a variable, from its own slot where it has one, goes into the slot `lo`
  abbrev pub load_by : Option ℕ → (lo : ℕ) → Desig → Instr
  load_by (Some from) lo d = I.Move lo (own_slot from)
  load_by None lo d = I.Load lo (held_at (lo + 1) d)

  -- the same, by where the variable stands
  abbrev pub load_code : (lo : ℕ) → Desig → Instr
  load_code lo d = load_by (bare_desig d) lo d

  -- a place that is handed over goes straight to the slot of its argument; that of a whole parameter is in its own slot
  abbrev pub handed_code : Option ℕ → (line to : ℕ) → (located : List LineInstr) → List LineInstr
  handed_code (Some from) line to located = own line (I.Same to (own_slot from) ∷ [])
  handed_code None line to located = place_code to located

  -- ---- the count of a turn

  -- its slot: that of the counter where the variable is set in its own slot. Else it has a slot of its own, since the code that
  -- locates the variable stands between
  abbrev pub count_at : Option ℕ → (counter lo : ℕ) → ℕ
  count_at (Some to) counter lo = counter
  count_at None counter lo = lo

  -- the counter goes into that slot, where it is another
  abbrev pub save_code : Option ℕ → (counter lo : ℕ) → List Instr
  save_code (Some to) counter lo = []
  save_code None counter lo = I.Move lo counter ∷ []

  -- the count in its slot, and the check that the range of the variable holds it
  abbrev pub count_code : Option ℕ → Range → (counter lo : ℕ) → List Instr
  count_code o range counter lo = save_code o counter lo ++ fit_code tables range (count_at o counter lo)

  -- ---- RETURN

  -- the check that the range of the result holds the value
  abbrev pub fit_result : Option Range → (value : ℕ) → List Instr
  fit_result (Some range) value = fit_code tables range value
  fit_result None value = []

  -- ---- phrases

  abbrev mutual
    -- each statement with its own line, one behind another
    pub stmts_code : (at lo : ℕ) → Stmts → List LineInstr
    stmts_code at lo no_stmts = []
    stmts_code at lo (more_stmts line x rest) =
        in_row at (stmt_code line at lo x) (λ next. stmts_code next (behind_stmt p r lo x) rest)

    -- a statement with its line
    pub stmt_code : (line at lo : ℕ) → Stmt → List LineInstr
    stmt_code line at lo (TestStmt t) = test_code line at lo t
    stmt_code line at lo (Assign d e range) =
        set_to (goes_straight d e range) line
        (in_row at (unless_bare (bare_desig d) (unless_bare (own_place d) (desig_code line at lo d)))
        (λ next. unless_bare (bare e) (expr_code line next (behind_target p r lo d) e)))
        (fit_code tables range (value_at (behind_target p r lo d) e) ++ (set_code lo (value_at (behind_target p r lo d) e) d ∷ []))
    stmt_code line at lo (CopyCells d e) =
        in_row at (unless_bare (own_place d) (desig_code line at lo d))
        (λ next. unless_bare (own_place e) (desig_code line next (behind_desig p r lo d) e))
        ++ own line (I.CopyCells (held_at lo d) (held_at (behind_desig p r lo d) e) ∷ [])
    stmt_code line at lo (If arms rest) = if_code line at lo arms (λ next lo. stmts_code next lo rest)
    -- the first jump is the one step before the first condition
    stmt_code line at lo (While t body) =
        by_turn (is_turned t)
        (in_row at (own line (held_code (held_constant t) lo))
        (λ at. turned_loop line at (stmts_code (at + 1) (behind_held p r lo t) body)
        (λ next. back_code line next (behind_stmts p r (behind_held p r lo t) body) lo (at + 1) t)))
        (own line (I.Jump (at + 1) ∷ [])
        ++ (guard_code (at + 1) 1 (λ none. condition (is_simple t) line (at + 1) lo none (λ at lo none. jump_code line at lo none t)
        (λ at lo. test_code line at lo t))
        (λ next. stmts_code next (behind_condition p r lo t) body)
        ++ own line (I.Jump (at + 1) ∷ [])))
    stmt_code line at lo (Repeat body t) =
        in_row at (stmts_code at lo body) (λ next. condition (is_simple t) line next (behind_stmts p r lo body)
        at (λ at lo none. jump_code line at lo none t) (λ at lo. test_code line at lo t))
    stmt_code line at lo (ForTo l) = for_code line at lo l
    stmt_code line at lo (SomeOf l) = some_code line at lo l
    -- the value, the arms that are never tried, and two slots for the labels
    stmt_code line at lo (Case e arms rest) =
        let first : ℕ = behind_expr p r lo e in
        let bound : ℕ = behind_dead p r first arms in
        in_row at (expr_code line at lo e)
        (λ next. in_row next (passed_over (has_dead arms) line next (dead_code (next + 1) first arms))
        (λ next. case_code line lo bound next (bound + 2) arms (λ next lo. else_code line next lo rest)))
    stmt_code line at lo (Either branches) = either_code line at lo branches
    stmt_code line at lo (Forall x y) =
        let inner : ℕ = behind_stmts p r (lo + 1) x in
        forall_code line (at + 1) lo
        (in_row (at + 1) (stmts_code (at + 1) (lo + 1) x)
        (λ next. each_body line (next + 2) lo inner (stmts_code (next + 2) (inner + 1) y)))
    stmt_code line at lo (Commit x) = own line (I.Mark lo ∷ []) ++ (stmts_code (at + 1) (lo + 1) x ++ own line (I.Cut lo ∷ []))
    stmt_code line at lo (Return e) = return_code line at lo e
    stmt_code line at lo (Read d how range) = unless_bare (own_place d) (desig_code line at lo d)
        ++ own line (read_code how (held_at lo d) (range_number tables range) ∷ [])
    stmt_code line at lo (WriteExpr e how) = unless_bare (bare e) (expr_code line at lo e) ++ own line (write_code how (value_at lo e) ∷ [])
    stmt_code line at lo (WriteText text) = own line (I.WriteText (text_number tables text) ∷ [])
    stmt_code line at lo WriteLine = own line (I.WriteLine ∷ [])

    -- the first arm leaves over all, the others by its jump
    pub if_code : (line at lo : ℕ) → Arms → (otherwise : (at lo : ℕ) → List LineInstr) → List LineInstr
    if_code line at lo no_arms otherwise = otherwise at lo
    if_code line at lo (more_arms t body rest) otherwise =
        leaving line at
        (guard_code at 1 (λ none. condition (is_simple t) line at lo none (λ at lo none. jump_code line at lo none t)
        (λ at lo. test_code line at lo t))
        (λ next. stmts_code next (behind_condition p r lo t) body))
        (λ next jump. arms_code line jump next (behind_stmts p r (behind_condition p r lo t) body) rest otherwise)

    -- the arms behind the first, and what stands behind all
    pub arms_code : (line jump at lo : ℕ) → Arms → (otherwise : (at lo : ℕ) → List LineInstr) → List LineInstr
    arms_code line jump at lo no_arms otherwise = otherwise at lo
    arms_code line jump at lo (more_arms t body rest) otherwise =
        in_row at
        (guard_code at 1 (λ none. condition (is_simple t) line at lo none (λ at lo none. jump_code line at lo none t)
        (λ at lo. test_code line at lo t))
        (λ next. stmts_code next (behind_condition p r lo t) body)
        ++ own line (I.Jump jump ∷ []))
        (λ next. arms_code line jump next (behind_stmts p r (behind_condition p r lo t) body) rest otherwise)

    -- FOR: its step and its bounds, then its turns
    pub for_code : (line at lo : ℕ) → Loop → List LineInstr
    for_code line at lo (a_loop d range counter limit from to by body) =
        let last : ℕ = behind_expr p r (lo + 1) from in
        let place : ℕ = behind_expr p r last to in
        in_row at (begin_loop line at lo by (λ at. unless_constant (constant from) (expr_code line at (lo + 1) from))
        (λ at. limit_code (ends_alone to) line (own_slot limit) (value_at last to) (unless_bare (bare to) (expr_code line at last to))))
        (λ next. for_turns line next by (constant from) (own_slot counter) (own_slot limit) lo (lo + 1)
        (turn_code line (next + 3) (count_code (bare_desig d) range (own_slot counter) place)
        (λ at. unless_bare (bare_desig d) (unless_bare (own_place d) (desig_code line at (place + 1) d)))
        (set_code (place + 1) (count_at (bare_desig d) (own_slot counter) place) d)
        (λ at. stmts_code at (behind_variable p r place d) body)))

    -- SOME: its step, which is 1, and its bounds, then its turns
    pub some_code : (line at lo : ℕ) → Loop → List LineInstr
    some_code line at lo (a_loop d range counter limit from to by body) =
        let last : ℕ = behind_expr p r (lo + 1) from in
        let more : ℕ = behind_expr p r last to in
        in_row at (begin_loop line at lo (pos 1) (λ at. unless_constant (constant from) (expr_code line at (lo + 1) from))
        (λ at. limit_code (ends_alone to) line (own_slot limit) (value_at last to) (unless_bare (bare to) (expr_code line at last to))))
        (λ next. some_turns line next (constant from) (own_slot counter) (own_slot limit) lo (lo + 1) more
        (turn_code line (next + 8) (count_code (bare_desig d) range (own_slot counter) (more + 1))
        (λ at. unless_bare (bare_desig d) (unless_bare (own_place d) (desig_code line at (more + 1 + 1) d)))
        (set_code (more + 1 + 1) (count_at (bare_desig d) (own_slot counter) (more + 1)) d)
        (λ at. stmts_code at (behind_variable p r (more + 1) d) body)))

    -- the arms without labels: nothing leads to them
    pub dead_code : (at lo : ℕ) → CaseArms → List LineInstr
    dead_code at lo no_cases = []
    dead_code at lo (more_cases [] body rest) = in_row at (stmts_code at lo body) (λ next. dead_code next (behind_stmts p r lo body) rest)
    dead_code at lo (more_cases (label ∷ labels) body rest) = dead_code at lo rest

    -- the first arm that has a label leaves over all, the others by its jump
    pub case_code : (line value bound at lo : ℕ) → CaseArms → (otherwise : (at lo : ℕ) → List LineInstr) → List LineInstr
    case_code line value bound at lo no_cases otherwise = otherwise at lo
    case_code line value bound at lo (more_cases [] body rest) otherwise = case_code line value bound at lo rest otherwise
    case_code line value bound at lo (more_cases (label ∷ labels) body rest) otherwise =
        leaving line at (case_arm line value bound at label labels (stmts_code (behind_labels at label labels) lo body))
        (λ next jump. cases_code line value bound jump next (behind_stmts p r lo body) rest otherwise)

    -- the arms behind that one, and what stands behind all
    pub cases_code : (line value bound jump at lo : ℕ) → CaseArms → (otherwise : (at lo : ℕ) → List LineInstr) → List LineInstr
    cases_code line value bound jump at lo no_cases otherwise = otherwise at lo
    cases_code line value bound jump at lo (more_cases [] body rest) otherwise = cases_code line value bound jump at lo rest otherwise
    cases_code line value bound jump at lo (more_cases (label ∷ labels) body rest) otherwise =
        in_row at (case_arm line value bound at label labels (stmts_code (behind_labels at label labels) lo body)
        ++ own line (I.Jump jump ∷ []))
        (λ next. cases_code line value bound jump next (behind_stmts p r lo body) rest otherwise)

    -- the statements of an ELSE part; where there is none, the fault NoCase
    pub else_code : (line at lo : ℕ) → Else → List LineInstr
    else_code line at lo no_else = own line (I.Fault no_case ∷ [])
    else_code line at lo (else_part body) = stmts_code at lo body

    -- the first branch leaves over all, the others by its jump
    pub either_code : (line at lo : ℕ) → Branches → List LineInstr
    either_code line at lo no_branches = own line (I.Fail ∷ [])
    either_code line at lo (more_branches body no_branches) = stmts_code at lo body
    either_code line at lo (more_branches body (more_branches body' rest)) =
        leaving line at (branch_code line (at + 1) (stmts_code (at + 1) lo body))
        (λ next jump. branches_code line jump next (behind_stmts p r lo body) (more_branches body' rest))

    -- the branches behind the first, of which the last has no choice entry
    pub branches_code : (line jump at lo : ℕ) → Branches → List LineInstr
    branches_code line jump at lo no_branches = []
    branches_code line jump at lo (more_branches body no_branches) = stmts_code at lo body
    branches_code line jump at lo (more_branches body (more_branches body' rest)) =
        in_row at (branch_code line (at + 1) (stmts_code (at + 1) lo body) ++ own line (I.Jump jump ∷ []))
        (λ next. branches_code line jump next (behind_stmts p r lo body) (more_branches body' rest))

    -- RETURN, with the check of its value
    pub return_code : (line at lo : ℕ) → ReturnExpr → List LineInstr
    return_code line at lo no_result = own line (I.Return ∷ [])
    return_code line at lo (some_result e) =
        unless_bare (bare e) (expr_code line at lo e)
        ++ own line (fit_result (routine_at p r).result (value_at lo e) ++ (I.ReturnValue (value_at lo e) ∷ []))

    -- a test: the code goes on behind it where it succeeds, and fails where it does not
    pub test_code : (line at lo : ℕ) → Test → List LineInstr
    test_code line at lo (Value (Compare cmp.Unequal x y)) =
        in_row at (in_row at (unless_bare (stays x y) (expr_code line at lo x))
        (λ next. unless_bare (bare y) (expr_code line next (behind_expr p r lo x) y)))
        (λ next. own line (unequal_code lo (slot_or (stays x y) lo) (value_at (behind_expr p r lo x) y) next))
    test_code line at lo (Value e) = unless_bare (bare e) (expr_code line at lo e) ++ own line (I.Check (value_at lo e) ∷ [])
    test_code line at lo (Bind d e range true) =
        in_row at (unless_bare (own_place d) (desig_code line at lo d))
        (λ next. unless_bare (bare e) (expr_code line next (behind_desig p r lo d) e))
        ++ own line (I.Bind (held_at lo d) (value_at (behind_desig p r lo d) e) (range_number tables range) ∷ [])
    test_code line at lo (Bind d e range false) =
        in_row at (expr_code line at lo e) (λ next. unless_bare (own_place d) (desig_code line next (behind_expr p r lo e) d))
        ++ own line (I.Bind (held_at (behind_expr p r lo e) d) lo (range_number tables range) ∷ [])
    test_code line at lo (Unify d range e range') =
        in_row at (unless_bare (own_place d) (desig_code line at lo d))
        (λ next. unless_bare (own_place e) (desig_code line next (behind_desig p r lo d) e))
        ++ own line (I.Unify (held_at lo d) (range_number tables range) (held_at (behind_desig p r lo d) e) (range_number tables range')
        ∷ [])
    test_code line at lo (SameCells d e) =
        in_row at (unless_bare (own_place d) (desig_code line at lo d))
        (λ next. unless_bare (own_place e) (desig_code line next (behind_desig p r lo d) e))
        ++ own line (I.SameCells (held_at lo d) (held_at (behind_desig p r lo d) e) ∷ [])
    test_code line at lo (Seq x) = stmts_code at lo x
    test_code line at lo (And ts) = and_code line at lo ts
    test_code line at lo (Or ts) = or_code line at lo ts
    test_code line at lo (Not t) = not_code line (at + 2) lo (test_code line (at + 2) (lo + 1) t)
    test_code line at lo (CallTest called args up) =
        let first : ℕ = arguments_from called up lo in
        in_row at (own line (call_link_code called up lo)) (λ next. args_code line next first (first + length (handed_slots args)) args)
        ++ own line (call_code called args up lo 0 ∷ [])

    -- one operand of AND behind another
    pub and_code : (line at lo : ℕ) → Tests → List LineInstr
    and_code line at lo no_tests = []
    and_code line at lo (more_tests t rest) = in_row at (test_code line at lo t) (λ next. and_code line next (behind_test p r lo t) rest)

    -- the first operand leaves over all, the others by its jump
    pub or_code : (line at lo : ℕ) → Tests → List LineInstr
    or_code line at lo no_tests = own line (I.Fail ∷ [])
    or_code line at lo (more_tests t no_tests) = test_code line at lo t
    or_code line at lo (more_tests t (more_tests t' rest)) =
        leaving line at (first_of_two line (at + 2) lo (test_code line (at + 2) (lo + 1) t))
        (λ next jump. operands_code line jump next (behind_test p r (lo + 1) t) (more_tests t' rest))

    -- the operands of OR behind the first, of which the last has no mark
    pub operands_code : (line jump at lo : ℕ) → Tests → List LineInstr
    operands_code line jump at lo no_tests = []
    operands_code line jump at lo (more_tests t no_tests) = test_code line at lo t
    operands_code line jump at lo (more_tests t (more_tests t' rest)) =
        in_row at (first_of_two line (at + 2) lo (test_code line (at + 2) (lo + 1) t) ++ own line (I.Jump jump ∷ []))
        (λ next. operands_code line jump next (behind_test p r (lo + 1) t) (more_tests t' rest))

    -- a simple condition goes to `none` where its value is 0
    pub jump_code : (line at lo none : ℕ) → Test → List LineInstr
    jump_code line at lo none (Value e) = unless_bare (bare e) (expr_code line at lo e) ++ own line (I.JumpZero (value_at lo e) none ∷ [])
    jump_code line at lo none _ = []

    -- a comparison goes to `top` while it holds; a constant that is its second operand stands in the slot `held`
    pub back_code : (line at lo held top : ℕ) → Test → List LineInstr
    back_code line at lo held top (Value (Compare how x y)) =
        in_row at (unless_bare (stays x y) (expr_code line at lo x))
        (λ next. unless_constant (constant y) (unless_bare (bare y) (expr_code line next (behind_expr p r lo x) y)))
        ++ own line (opposite_code how lo (slot_or (stays x y) lo) (held_or (constant y) held (value_at (behind_expr p r lo x) y))
        ∷ I.JumpZero lo top ∷ [])
    back_code line at lo held top _ = []

    -- the value goes into the slot `lo`
    pub expr_code : (line at lo : ℕ) → Expr → List LineInstr
    expr_code line at lo (Const n) = own line (I.Const lo n ∷ [])
    expr_code line at lo (Load d) =
        unless_bare (bare_desig d) (unless_bare (own_place d) (desig_code line at (lo + 1) d)) ++ own line (load_code lo d ∷ [])
    expr_code line at lo (Chain negated e links) =
        in_row at (unless_bare (taken_from negated e links) (expr_code line at lo e) ++ own line (neg_code negated lo (value_at lo e)))
        (λ next. links_code line next (slot_or (stays_in negated e links) lo) lo (behind_expr p r lo e) links)
    -- a first operand that stays is read by the instruction that takes both. Where it is unknown that one faults: before it stands a
    -- constant at most, and where the next operand is unknown too the fault is the same
    expr_code line at lo (Compare how x y) =
        in_row at (unless_bare (stays x y) (expr_code line at lo x))
        (λ next. unless_bare (bare y) (expr_code line next (behind_expr p r lo x) y))
        ++ own line (cmp_code how lo (slot_or (stays x y) lo) (value_at (behind_expr p r lo x) y))
    expr_code line at lo (Truth t) =
        in_row at (guard_code at 2 (λ none. condition (is_simple t) line at (lo + 1) none (λ at lo none. jump_code line at lo none t)
        (λ at lo. test_code line at lo t)) (λ next. [])) (λ next. truth_code line lo next)
    expr_code line at lo (Known d) =
        unless_bare (own_place d) (desig_code line at (lo + 1) d) ++ own line (I.Known lo (held_at (lo + 1) d) ∷ [])
    expr_code line at lo (Chr e) = expr_code line at lo e ++ own line (I.InRange lo (range_number tables char_range) ∷ [])
    expr_code line at lo (CallExpr called args up) =
        let first : ℕ = arguments_from called up (lo + 2) in
        in_row at (own line (call_link_code called up (lo + 2)))
        (λ next. args_code line next first (first + length (handed_slots args)) args)
        ++ own line (I.Mark (lo + 1) ∷ call_code called args up (lo + 2) lo ∷ I.Cut (lo + 1) ∷ [])

    -- each operator puts its value into the slot `to` as soon as its operand is there; the first takes the slot `first`
    pub links_code : (line at first to lo : ℕ) → Links → List LineInstr
    links_code line at first to lo no_links = []
    links_code line at first to lo (more_links how e rest) =
        in_row at (unless_bare (bare e) (expr_code line at lo e) ++ own line (op_code how to first (value_at lo e) ∷ []))
        (λ next. links_code line next to to (behind_value p r lo e) rest)

    -- the arguments go into the slots from `to` on
    pub args_code : (line at to lo : ℕ) → Args → List LineInstr
    args_code line at to lo no_args = []
    args_code line at to lo (more_args a rest) =
        in_row at (arg_code line at to lo a) (λ next. args_code line next (to + 1) (lo + length (arg_slots p r a)) rest)

    -- an argument goes into the slot `to`
    pub arg_code : (line at to lo : ℕ) → Arg → List LineInstr
    arg_code line at to lo (ByValue e range) =
        put_code (is_straight e range) line to (value_at lo e) (fit_code tables range (value_at lo e))
        (unless_bare (bare e) (expr_code line at lo e))
    arg_code line at to lo (ByCells d) = handed_code (own_place d) line to (desig_code line at lo d)
    arg_code line at to lo (ByPlace d) = handed_code (own_place d) line to (desig_code line at lo d)
    arg_code line at to lo (MixValue e range) =
        put_code (is_straight e range) line to (value_at lo e) (fit_code tables range (value_at lo e))
        (unless_bare (bare e) (expr_code line at lo e))
    arg_code line at to lo (MixPlace d) = handed_code (own_place d) line to (desig_code line at lo d)

    -- the place goes into the slot `place_at lo`
    pub desig_code : (line at lo : ℕ) → Desig → List LineInstr
    desig_code line at lo (a_desig root cells sels) =
        in_row at (unless_bare (own_root root sels) (own line (root_code lo root)))
        (λ next. sels_code line next (slot_or (own_root root sels) lo) (behind_root lo root) sels)

    -- the place to be narrowed stands in the slot `from`
    pub sels_code : (line at from lo : ℕ) → Sels → List LineInstr
    sels_code line at from lo no_sels = []
    sels_code line at from lo (more_sels x rest) =
        in_row at (sel_code line at from lo x) (λ next. sels_code line next (part_slot lo x) (part_slot lo x + 1) rest)

    -- the place in the slot `from` is narrowed to a part
    pub sel_code : (line at from lo : ℕ) → Sel → List LineInstr
    sel_code line at from lo (Field offset cells) = own line (I.Field lo from offset ∷ [])
    sel_code line at from lo (Index e range cells) =
        unless_bare (bare e) (expr_code line at lo e)
        ++ own line (I.Index (behind_value p r lo e) from (value_at lo e) (range_number tables range) ∷ [])

  -- ---- the whole routine

  -- the end of a routine: a function has no result there, the fault NoReturn, and any other routine is left
  abbrev pub end_code : Option Range → Instr
  end_code (Some range) = I.Fault no_return
  end_code None = I.Return

  -- the body behind the own slots, and the end, which has the line of the routine
  abbrev pub routine_code : (at : ℕ) → List LineInstr
  routine_code at =
      stmts_code at (length (own_kinds (routine_at p r))) (body_with_lines (routine_at p r))
      ++ own (routine_at p r).line (end_code (routine_at p r).result ∷ [])
