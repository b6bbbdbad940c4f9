-- What each phrase adds where it is emitted: its code and slots by the templates, with the lines that it is given.
use Rattle.std.specs.Prelude.{◌≡◌, ℕ, zero, suc, ◌+◌, Bool, true, false, List, [], ◌∷◌, ◌++◌, length, drop, Option, Some, None}
use Rattle.alma_base.specs.declared.number.Range.{Range}
use Rattle.alma_code.specs.declared.cell.SlotKind.TheVariants as slot
use Rattle.alma_code.specs.declared.instr.Instr.{Instr}
use Rattle.alma_code.specs.declared.instr.Instr.TheVariants as I
use Rattle.alma_ir.specs.declared.phrase.Cmp.{Cmp}
use Rattle.alma_ir.specs.declared.phrase.Cmp.TheVariants as cmp
use Rattle.alma_ir.specs.declared.phrase.Root.{Root}
use Rattle.alma_ir.specs.declared.phrase.Root.TheVariants as root
use Rattle.alma_ir.specs.Tree.{Stmts, Stmt, Arms, CaseArms, Else, Branches, Test, Tests, Expr, Links, Args, Arg, Desig, Sels, Sel, Compare}
use Rattle.alma_ir.specs.Tree.{no_args, more_args, Value}
use Rattle.alma_ir.specs.Phrases.{Phrase, stmts_phrases, stmt_phrases, arms_phrases, cases_phrases, else_phrases, branches_phrases}
use Rattle.alma_ir.specs.Phrases.{test_phrases, tests_phrases, expr_phrases, links_phrases, args_phrases, arg_phrases, desig_phrases}
use Rattle.alma_ir.specs.Phrases.{sels_phrases, sel_phrases}
use Rattle.alma_ir.specs.Lines.{behind, stmts_with, stmt_with, arms_with, cases_with, else_with, branches_with, test_with, tests_with}
use Rattle.alma_ir.specs.Lines.{expr_with, links_with, args_with, arg_with, desig_with, sels_with, sel_with}
use Rattle.alma_ir.specs.View.{expr_of}
use Rattle.alma_lower_work.specs.declared.first_operand.Taken.{Taken}
use Rattle.alma_lower_work.specs.declared.first_operand.Taken.TheVariants as takes
use Rattle.alma_lower_work.specs.declared.stand.Stand.{Stand}
use Rattle.alma_lower_work.specs.declared.stand.Stand.TheVariants as stands
use Rattle.alma_lower_work.specs.Front.{Around, Front, Adds, Holes}
use Rattle.alma_lower_templates.specs.LineInstr.{LineInstr, own, in_row}
use Rattle.alma_lower_templates.specs.Slots.{shift_of, bare_desig, bare, stays, unless_bare, own_place, is_simple, is_turned, mark_slots}
use Rattle.alma_lower_templates.specs.Slots.{handed_slots}
use Rattle.alma_lower_templates.specs.Slots.{call_links, stmts_slots, stmt_slots, arms_slots, dead_slots, cases_slots, else_slots}
use Rattle.alma_lower_templates.specs.Slots.{behind_condition, branches_slots, test_slots, and_slots, or_slots, expr_slots, links_slots}
use Rattle.alma_lower_templates.specs.Slots.{args_slots, arg_slots, desig_slots, sels_slots, sel_slots}
use Rattle.alma_lower_templates.specs.Pieces.{condition, guard_code, first_of_two, branch_code, labels_code, behind_labels, case_arm}
use Rattle.alma_lower_templates.specs.Pieces.{passed_over}
use Rattle.alma_lower_templates.specs.Pieces.{has_dead, first_argument}
use Rattle.alma_lower_templates.specs.Templates as T

-- ---- variables, by slot or by place

module _ (s : Around) where
  -- a variable of the routine stands in its own slot, any other by its place
  abbrev pub stand_by : Option ℕ → (place : ℕ) → Stand
  stand_by (Some from) place = stands.Own (T.own_slot s.program s.tables s.routine from)
  stand_by None place = stands.Placed place

  -- where a variable stands, whose place takes slots from `lo` on
  abbrev pub stand_of : (lo : ℕ) → Desig → Stand
  stand_of lo d = stand_by (bare_desig d) (T.held_at s.program s.tables s.routine lo d)

  -- the slot in which a value that is used at once stands
  abbrev pub value_slot : (lo : ℕ) → Expr → ℕ
  value_slot lo e = T.value_at s.program s.tables s.routine lo e

  -- the slot of the first of what is handed over at a call
  abbrev pub first_slot : (called up lo : ℕ) → Args → ℕ
  first_slot called up lo args = first_argument (T.handed s.program s.tables s.routine called args)
      (T.handed_from s.program s.tables s.routine (shift_of s.program called) up lo)

-- the slot of the link that is handed over, where one is
abbrev pub link_slot : (shift up lo : ℕ) → Option ℕ
link_slot zero up lo = None
link_slot (suc one) up lo = Some (lo + up)

-- the slot of the first of what is handed over: the link, or the first argument, or 0 where nothing is
abbrev pub first_of_call : Option ℕ → Args → (to : ℕ) → ℕ
first_of_call (Some slot) args to = slot
first_of_call None no_args to = 0
first_of_call None (more_args a rest) to = to

-- a number goes to a variable
abbrev pub set_instr : Stand → (value : ℕ) → Instr
set_instr (stands.Own to) value = I.Move to value
set_instr (stands.Placed place) value = I.Store place value

-- the slot of a root that is a parameter with a place
abbrev pub param_of : Root → Option ℕ
param_of (root.Param from) = Some from
param_of _ = None

-- the slot of the routine in which a first operand stays until it is taken
abbrev pub stays_until : (first : Expr) → Taken → Option ℕ
stays_until first takes.AtOnce = bare first
stays_until first (takes.Behind next) = stays first (expr_of next.now)
stays_until first takes.Never = None

-- where a first operand stands behind its sign, if it has one
abbrev pub behind_sign : (negated : Bool) → (from to : ℕ) → ℕ
behind_sign true from to = to
behind_sign false from to = from

-- whether an expression is a test of inequality
abbrev pub is_unequal : Expr → Bool
is_unequal (Compare cmp.Unequal x y) = true
is_unequal _ = false

-- the first of some instructions
abbrev pub first_of : List Instr → Instr
first_of [] = I.Fail
first_of (i ∷ rest) = i

-- the address behind the labels of an arm of CASE, which stand at an address
abbrev pub behind_all : (at : ℕ) → List Range → ℕ
behind_all at [] = at
behind_all at (label ∷ rest) = behind_labels at label rest

-- the labels of an arm of CASE
abbrev pub all_labels : (value bound at hit miss : ℕ) → List Range → List Instr
all_labels value bound at hit miss [] = []
all_labels value bound at hit miss (label ∷ rest) = labels_code value bound at hit miss label rest

-- the phrases inside a statement
abbrev pub inside : Stmt → List Phrase
inside x = drop 1 (stmt_phrases x)

-- ---- phrases

-- the value of an expression, in the first of its slots
pub record PutsExpr (s : Around) (line : ℕ) (a b : Front) (e : Expr) : Type 0 where
  pub all : Adds a b (λ at lo ls. T.expr_code s.program s.tables s.routine line at lo (expr_with e ls))
      (λ ls. expr_slots s.program s.routine (expr_with e ls)) (behind (expr_phrases e))

-- a first operand, which has no code where it stays; the first of its slots is for the value of the phrase round it
pub record PutsFirstOperand (s : Around) (line : ℕ) (a b : Front) (stays : Option ℕ) (e : Expr) : Type 0 where
  pub all : Adds a b (λ at lo ls. unless_bare stays (T.expr_code s.program s.tables s.routine line at lo (expr_with e ls)))
      (λ ls. expr_slots s.program s.routine (expr_with e ls)) (behind (expr_phrases e))

-- a value that is used at once
pub record PutsValue (s : Around) (line : ℕ) (a b : Front) (e : Expr) : Type 0 where
  pub all : Adds a b (λ at lo ls. unless_bare (bare (expr_with e ls))
      (T.expr_code s.program s.tables s.routine line at lo (expr_with e ls)))
      (λ ls. unless_bare (bare (expr_with e ls)) (expr_slots s.program s.routine (expr_with e ls))) (behind (expr_phrases e))

-- operators and operands, of which the first takes the number in the slot `first`
pub record PutsLinks (s : Around) (line first to : ℕ) (a b : Front) (links : Links) : Type 0 where
  pub all : Adds a b (λ at lo ls. T.links_code s.program s.tables s.routine line at first to lo (links_with links ls))
      (λ ls. links_slots s.program s.routine (links_with links ls)) (behind (links_phrases links))

-- a place
pub record PutsDesig (s : Around) (line : ℕ) (a b : Front) (d : Desig) : Type 0 where
  pub all : Adds a b (λ at lo ls. T.desig_code s.program s.tables s.routine line at lo (desig_with d ls))
      (λ ls. desig_slots s.program s.routine (desig_with d ls)) (behind (desig_phrases d))

-- a variable that is written, which has no code where it, or its place, stands in its own slot
pub record PutsTarget (s : Around) (line : ℕ) (a b : Front) (d : Desig) : Type 0 where
  pub all : Adds a b (λ at lo ls. unless_bare (bare_desig (desig_with d ls))
      (unless_bare (own_place (desig_with d ls)) (T.desig_code s.program s.tables s.routine line at lo (desig_with d ls))))
      (λ ls. unless_bare (bare_desig (desig_with d ls)) (desig_slots s.program s.routine (desig_with d ls))) (behind (desig_phrases d))

-- a place that is handed over, into a slot
pub record PutsPlace (s : Around) (line to : ℕ) (a b : Front) (d : Desig) : Type 0 where
  pub all : Adds a b (λ at lo ls. T.handed_code s.program s.tables s.routine (own_place (desig_with d ls)) line to
      (T.desig_code s.program s.tables s.routine line at lo (desig_with d ls)))
      (λ ls. desig_slots s.program s.routine (desig_with d ls)) (behind (desig_phrases d))

-- a place that is used: that of a parameter stands in its own slot
pub record PutsHeld (s : Around) (line : ℕ) (a b : Front) (d : Desig) : Type 0 where
  pub all : Adds a b (λ at lo ls. unless_bare (own_place (desig_with d ls))
      (T.desig_code s.program s.tables s.routine line at lo (desig_with d ls))) (λ ls. desig_slots s.program s.routine (desig_with d ls))
      (behind (desig_phrases d))

-- selectors, from the place in a slot on
pub record PutsSels (s : Around) (line from : ℕ) (a b : Front) (sels : Sels) : Type 0 where
  pub all : Adds a b (λ at lo ls. T.sels_code s.program s.tables s.routine line at from lo (sels_with sels ls))
      (λ ls. sels_slots s.program s.routine (sels_with sels ls)) (behind (sels_phrases sels))

-- a selector, from the place in a slot on
pub record PutsSel (s : Around) (line from : ℕ) (a b : Front) (x : Sel) : Type 0 where
  pub all : Adds a b (λ at lo ls. T.sel_code s.program s.tables s.routine line at from lo (sel_with x ls))
      (λ ls. sel_slots s.program s.routine (sel_with x ls)) (behind (sel_phrases x))

-- arguments, into the slots from one on
pub record PutsArgs (s : Around) (line to : ℕ) (a b : Front) (args : Args) : Type 0 where
  pub all : Adds a b (λ at lo ls. T.args_code s.program s.tables s.routine line at to lo (args_with args ls))
      (λ ls. args_slots s.program s.routine (args_with args ls)) (behind (args_phrases args))

-- an argument, into a slot
pub record PutsArg (s : Around) (line to : ℕ) (a b : Front) (x : Arg) : Type 0 where
  pub all : Adds a b (λ at lo ls. T.arg_code s.program s.tables s.routine line at to lo (arg_with x ls))
      (λ ls. arg_slots s.program s.routine (arg_with x ls)) (behind (arg_phrases x))

-- the link and the arguments of a call
pub record PutsHanded (s : Around) (line called up : ℕ) (a b : Front) (args : Args) : Type 0 where
  pub all : Adds a b (λ at lo ls. in_row at (own line (T.call_link_code s.program s.tables s.routine called up lo))
      (λ next. T.args_code s.program s.tables s.routine line next (T.arguments_from s.program s.tables s.routine called up lo)
      (T.arguments_from s.program s.tables s.routine called up lo + length (handed_slots (args_with args ls))) (args_with args ls)))
      (λ ls. call_links s.program s.routine called up
      ++ (handed_slots (args_with args ls) ++ args_slots s.program s.routine (args_with args ls))) (behind (args_phrases args))

-- a test
pub record PutsTest (s : Around) (line : ℕ) (a b : Front) (t : Test) : Type 0 where
  pub all : Adds a b (λ at lo ls. T.test_code s.program s.tables s.routine line at lo (test_with t ls))
      (λ ls. test_slots s.program s.routine (test_with t ls)) (behind (test_phrases t))

-- a condition that WHILE tests behind its body, in its parts
pub record IsTurned (t : Test) (how : Cmp) (x y : Expr) : Type 0 where
  pub is : t ≡ Value (Compare how x y)
  pub turned : is_turned t ≡ true

-- and its code, which goes back to `top` while the comparison holds; a constant that is its second operand is held in a slot
pub record PutsBack (s : Around) (line held top : ℕ) (a b : Front) (t : Test) : Type 0 where
  pub all : Adds a b (λ at lo ls. T.back_code s.program s.tables s.routine line at lo held top (test_with t ls))
      (λ ls. test_slots s.program s.routine (test_with t ls)) (behind (test_phrases t))

-- the operands of AND
pub record PutsAnd (s : Around) (line : ℕ) (a b : Front) (ts : Tests) : Type 0 where
  pub all : Adds a b (λ at lo ls. T.and_code s.program s.tables s.routine line at lo (tests_with ts ls))
      (λ ls. and_slots s.program s.routine (tests_with ts ls)) (behind (tests_phrases ts))

-- operands of OR behind the first, which leave by a jump
pub record PutsOperands (s : Around) (line exit : ℕ) (a b : Front) (ts : Tests) : Type 0 where
  pub all : Adds a b (λ at lo ls. T.operands_code s.program s.tables s.routine line exit at lo (tests_with ts ls))
      (λ ls. or_slots s.program s.routine (tests_with ts ls)) (behind (tests_phrases ts))

-- statements, each at its line
pub record PutsStmts (s : Around) (a b : Front) (body : Stmts) : Type 0 where
  pub all : Adds a b (λ at lo ls. T.stmts_code s.program s.tables s.routine at lo (stmts_with body ls))
      (λ ls. stmts_slots s.program s.routine (stmts_with body ls)) (behind (stmts_phrases body))

-- a statement, at its line
pub record PutsStmt (s : Around) (line : ℕ) (a b : Front) (x : Stmt) : Type 0 where
  pub all : Adds a b (λ at lo ls. T.stmt_code s.program s.tables s.routine line at lo (stmt_with x ls))
      (λ ls. stmt_slots s.program s.routine (stmt_with x ls)) (behind (inside x))

-- arms of IF behind the first, which leave by a jump
pub record PutsArms (s : Around) (line exit : ℕ) (a b : Front) (arms : Arms) : Type 0 where
  pub all : Adds a b (λ at lo ls. T.arms_code s.program s.tables s.routine line exit at lo (arms_with arms ls) (λ next behind. []))
      (λ ls. arms_slots s.program s.routine (arms_with arms ls)) (behind (arms_phrases arms))

-- the bodies of the arms of CASE without a label
pub record PutsDeadBodies (s : Around) (a b : Front) (arms : CaseArms) : Type 0 where
  pub all : Adds a b (λ at lo ls. T.dead_code s.program s.tables s.routine at lo (cases_with arms ls))
      (λ ls. dead_slots s.program s.routine (cases_with arms ls)) (behind (cases_phrases arms))

-- these behind a jump over them, where there are some; the lines are still to be handed out
pub record PutsDead (s : Around) (line : ℕ) (a b : Front) (arms : CaseArms) : Type 0 where
  pub all : Adds a b (λ at lo ls. passed_over (has_dead (cases_with arms ls)) line
      at (T.dead_code s.program s.tables s.routine (at + 1) lo (cases_with arms ls)))
      (λ ls. dead_slots s.program s.routine (cases_with arms ls)) (λ ls. ls)

-- arms of CASE behind the first, which leave by a jump
pub record PutsCases (s : Around) (line value bound exit : ℕ) (a b : Front) (arms : CaseArms) : Type 0 where
  pub all : Adds a b (λ at lo ls. T.cases_code s.program s.tables s.routine line value bound exit at lo (cases_with arms ls)
      (λ next behind. [])) (λ ls. cases_slots s.program s.routine (cases_with arms ls)) (behind (cases_phrases arms))

-- the ELSE part of CASE
pub record PutsElse (s : Around) (line : ℕ) (a b : Front) (rest : Else) : Type 0 where
  pub all : Adds a b (λ at lo ls. T.else_code s.program s.tables s.routine line at lo (else_with rest ls))
      (λ ls. else_slots s.program s.routine (else_with rest ls)) (behind (else_phrases rest))

-- branches of EITHER behind the first, which leave by a jump
pub record PutsBranches (s : Around) (line exit : ℕ) (a b : Front) (branches : Branches) : Type 0 where
  pub all : Adds a b (λ at lo ls. T.branches_code s.program s.tables s.routine line exit at lo (branches_with branches ls))
      (λ ls. branches_slots s.program s.routine (branches_with branches ls)) (behind (branches_phrases branches))

-- a condition, whose way on without an alternative is still to be aimed
pub record PutsGuard (s : Around) (line : ℕ) (a b : Front) (aim : (to : ℕ) → List LineInstr → List LineInstr) (t : Test) : Type 0 where
  pub all : Holes a b aim (λ none at lo ls. condition (is_simple (test_with t ls)) line at lo none
      (λ at lo none. T.jump_code s.program s.tables s.routine line at lo none (test_with t ls))
      (λ at lo. T.test_code s.program s.tables s.routine line at lo (test_with t ls)))
      (λ ls. mark_slots (is_simple (test_with t ls)) ++ test_slots s.program s.routine (test_with t ls)) (behind (test_phrases t))

-- a condition and what is done where it has an alternative; else the code goes on so far behind that
pub record PutsGuarded (s : Around) (line skip : ℕ) (a b : Front) (t : Test) (body : Stmts) : Type 0 where
  pub all : Adds a b (λ at lo ls. guard_code at skip
      (λ none. condition (is_simple (test_with t ls)) line at lo none
      (λ at lo none. T.jump_code s.program s.tables s.routine line at lo none (test_with t ls))
      (λ at lo. T.test_code s.program s.tables s.routine line at lo (test_with t ls)))
      (λ next. T.stmts_code s.program s.tables s.routine next (behind_condition s.program s.routine lo (test_with t ls))
      (stmts_with body (behind (test_phrases t) ls))))
      (λ ls. (mark_slots (is_simple (test_with t ls)) ++ test_slots s.program s.routine (test_with t ls))
      ++ stmts_slots s.program s.routine (stmts_with body (behind (test_phrases t) ls)))
      (λ ls. behind (stmts_phrases body) (behind (test_phrases t) ls))

-- an operand of OR that is not the last
pub record PutsFirst (s : Around) (line : ℕ) (a b : Front) (t : Test) : Type 0 where
  pub all : Adds a b (λ at lo ls. first_of_two line (at + 2) lo
      (T.test_code s.program s.tables s.routine line (at + 2) (lo + 1) (test_with t ls)))
      (λ ls. slot.Mark ∷ test_slots s.program s.routine (test_with t ls)) (behind (test_phrases t))

-- a branch of EITHER that is not the last
pub record PutsChosen (s : Around) (line : ℕ) (a b : Front) (body : Stmts) : Type 0 where
  pub all : Adds a b (λ at lo ls. branch_code line (at + 1) (T.stmts_code s.program s.tables s.routine (at + 1) lo (stmts_with body ls)))
      (λ ls. stmts_slots s.program s.routine (stmts_with body ls)) (behind (stmts_phrases body))

-- an arm of CASE that has a label
pub record PutsCaseArm (s : Around) (line value bound : ℕ) (a b : Front) (label : Range) (rest : List Range) (body : Stmts) : Type 0 where
  pub all : Adds a b (λ at lo ls. case_arm line value bound at label rest
      (T.stmts_code s.program s.tables s.routine (behind_labels at label rest) lo (stmts_with body ls)))
      (λ ls. stmts_slots s.program s.routine (stmts_with body ls)) (behind (stmts_phrases body))
