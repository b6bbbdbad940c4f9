-- The slots of a routine's frame: the link, its own slots, and a fresh slot for each need of each phrase of its body, in
-- the order of the phrases. No two phrases share one.
use Rattle.std.specs.Prelude.{ℕ, zero, suc, ◌+◌, ◌-◌, Bool, true, false, not, ◌&&◌, List, [], ◌∷◌, ◌++◌, length, replicate, Option, Some}
use Rattle.std.specs.Prelude.{None, ℤ}
use Rattle.alma_base.specs.declared.number.Range.{Range}
use Rattle.alma_code.specs.declared.cell.SlotKind.{SlotKind}
use Rattle.alma_code.specs.declared.cell.SlotKind.TheVariants as slot
use Rattle.alma_ir.specs.declared.phrase.Cmp.{Cmp}
use Rattle.alma_ir.specs.declared.phrase.Cmp.TheVariants as cmp
use Rattle.alma_ir.specs.declared.phrase.Root.{Root}
use Rattle.alma_ir.specs.declared.phrase.Root.TheVariants as root
use Rattle.alma_ir.specs.declared.program.ArgKind.{ArgKind}
use Rattle.alma_ir.specs.declared.program.ArgKind.TheVariants as kind
use Rattle.alma_ir.specs.declared.program.Param.{Param}
use Rattle.alma_ir.specs.Tree.{Stmts, Stmt, Arms, CaseArms, Else, Branches, Loop, ReturnExpr, Test, Tests, Expr, Links, Args, Arg, Desig}
use Rattle.alma_ir.specs.Tree.{Sels, Sel, Routine, Program, routine_at, no_stmts, more_stmts, TestStmt, Assign, CopyCells, If, While}
use Rattle.alma_ir.specs.Tree.{Repeat, ForTo, SomeOf, Case, Either, Forall, Commit, Return, Read, WriteExpr, WriteText, WriteLine, no_arms}
use Rattle.alma_ir.specs.Tree.{more_arms, no_cases, more_cases, no_else, else_part, no_branches, more_branches, a_loop, no_result}
use Rattle.alma_ir.specs.Tree.{some_result, Value, Bind, Unify, SameCells, Seq, And, Or, Not, CallTest, no_tests, more_tests, Const, Load}
use Rattle.alma_ir.specs.Tree.{Chain, Compare, Truth, Known, Chr, CallExpr, no_links, more_links, no_args, more_args, ByValue, ByCells}
use Rattle.alma_ir.specs.Tree.{ByPlace, MixValue, MixPlace, a_desig, no_sels, more_sels, Field, Index}
use Rattle.alma_ir.specs.Checked.{link_slots}
use Rattle.alma_ir.specs.Lines.{body_with_lines}
use Rattle.alma_lower_templates.specs.Tables.{is_whole}

-- ---- links

-- how many slots stand before the own slots of a routine
abbrev pub shift_of : Program → (r : ℕ) → ℕ
shift_of p r = link_slots (routine_at p r).level

-- a link to the routine's own frame, and one to each frame on the way so many links up
abbrev pub chain_slots : Program → (r links : ℕ) → List SlotKind
chain_slots p r zero = slot.Link r ∷ []
chain_slots p r (suc links) = slot.Link r ∷ chain_slots p (routine_at p r).outer links

-- ---- variables that are read and written in their own slot

-- the first slot of the part that selectors name in what stands from a slot on: each of them is a field
abbrev pub fields_from : (from : ℕ) → Sels → Option ℕ
fields_from from no_sels = Some from
fields_from from (more_sels (Field offset cells) rest) = fields_from (from + offset) rest
fields_from from (more_sels (Index e range cells) rest) = None

-- the slot of a variable of the routine, or of a field of one
abbrev pub bare_desig : Desig → Option ℕ
bare_desig (a_desig (root.Local from) cells sels) = fields_from from sels
bare_desig _ = None

-- the slot of which an expression is the value: that of a variable of the routine, or of a field of one
abbrev pub bare : Expr → Option ℕ
bare (Load d) = bare_desig d
bare _ = None

-- whether there is such a slot
abbrev pub is_given : Option ℕ → Bool
is_given (Some from) = true
is_given None = false

-- whether a value is a variable of the routine or a constant: what puts it in place can neither fault nor change a variable
abbrev pub is_ready : Expr → Bool
is_ready (Const n) = true
is_ready (Load d) = is_given (bare_desig d)
is_ready _ = false

-- a slot, where the condition holds
abbrev pub if_ready : Bool → ℕ → Option ℕ
if_ready true from = Some from
if_ready false from = None

-- the slot of a first operand, if it has one, where the next operand is ready
abbrev pub stays_by : Option ℕ → (next : Expr) → Option ℕ
stays_by (Some from) next = if_ready (is_ready next) from
stays_by None next = None

-- the slot in which a first operand stays: that of a variable of the routine, where the next operand is ready
abbrev pub stays : (first next : Expr) → Option ℕ
stays first next = stays_by (bare first) next

-- and that of a first operand without a sign, behind which operators stand
abbrev pub stays_in : (negated : Bool) → (first : Expr) → Links → Option ℕ
stays_in true first links = None
stays_in false first no_links = None
stays_in false first (more_links how next rest) = stays first next

-- the slot from which the first operand is taken where it has no code of its own: a sign takes a variable of the routine from its slot
abbrev pub taken_from : (negated : Bool) → (first : Expr) → Links → Option ℕ
taken_from true first links = bare first
taken_from false first links = stays_in false first links

-- nothing where there is such a slot
abbrev pub unless_bare : {A : Type 0} → Option ℕ → List A → List A
unless_bare (Some from) all = []
unless_bare None all = all

-- ---- values that go straight into a variable

-- whether an operator stands behind the first operand
abbrev pub has_operator : Links → Bool
has_operator no_links = false
has_operator (more_links how e rest) = true

-- whether an expression that has code puts its value in place by its last instruction alone
abbrev pub ends_alone : Expr → Bool
ends_alone (Const n) = true
ends_alone (Load d) = not (is_given (bare_desig d))
ends_alone (Chain negated e links) = has_operator links
ends_alone _ = false

-- the slot of a variable, if it has one, where the value can go straight
abbrev pub straight_by : Option ℕ → (alone : Bool) → Option ℕ
straight_by (Some to) alone = if_ready alone to
straight_by None alone = None

-- whether a value of this range may go straight to a slot: its range is all of INTEGER, since no check stands between
abbrev pub is_straight : Expr → Range → Bool
is_straight e range = is_whole range && ends_alone e

-- the variable of the routine into which an assigned value goes straight
abbrev pub goes_straight : Desig → Expr → Range → Option ℕ
goes_straight d e range = straight_by (bare_desig d) (is_straight e range)

-- ---- bounds of loops

-- the number of a first count that is a constant
abbrev pub constant : Expr → Option ℤ
constant (Const n) = Some n
constant _ = None

-- ---- parameters whose place is used in their own slot

-- the slot of a parameter that holds the place of the whole designator
abbrev pub own_place : Desig → Option ℕ
own_place (a_desig (root.Param from) cells no_sels) = Some from
own_place _ = None

-- the slot of a parameter of whose place the first selector takes a part
abbrev pub own_root : Root → Sels → Option ℕ
own_root (root.Param from) (more_sels x rest) = Some from
own_root _ _ = None

-- ---- conditions that need no choice entry: the value of an expression without a call and without a truth

abbrev mutual
  -- whether an expression holds no call and no truth
  pub is_simple_expr : Expr → Bool
  is_simple_expr (Const n) = true
  is_simple_expr (Load d) = is_simple_desig d
  is_simple_expr (Chain negated e links) = is_simple_expr e && are_simple_links links
  is_simple_expr (Compare how x y) = is_simple_expr x && is_simple_expr y
  is_simple_expr (Truth t) = false
  is_simple_expr (Known d) = is_simple_desig d
  is_simple_expr (Chr e) = is_simple_expr e
  is_simple_expr (CallExpr q args up) = false

  -- whether all operands behind the first are such expressions
  pub are_simple_links : Links → Bool
  are_simple_links no_links = true
  are_simple_links (more_links how e rest) = is_simple_expr e && are_simple_links rest

  -- whether all indices of a designator are
  pub is_simple_desig : Desig → Bool
  is_simple_desig (a_desig root cells sels) = are_simple_sels sels

  -- whether all indices among selectors are
  pub are_simple_sels : Sels → Bool
  are_simple_sels no_sels = true
  are_simple_sels (more_sels x rest) = is_simple_sel x && are_simple_sels rest

  -- whether a selector is a field, or such an index
  pub is_simple_sel : Sel → Bool
  is_simple_sel (Field offset cells) = true
  is_simple_sel (Index e range cells) = is_simple_expr e

-- whether a test is the value of such an expression
abbrev pub is_simple : Test → Bool
is_simple (Value e) = is_simple_expr e
is_simple _ = false

-- whether the opposite of a comparison is one instruction too
abbrev pub has_opposite : Cmp → Bool
has_opposite cmp.Equal = false
has_opposite _ = true

-- whether WHILE tests its condition behind its body: a simple comparison whose opposite is one instruction too
abbrev pub is_turned : Test → Bool
is_turned (Value (Compare how x y)) = has_opposite how && (is_simple_expr x && is_simple_expr y)
is_turned _ = false

-- the second operand of that comparison, where it is a constant: it goes into a slot of its own once, before the loop
abbrev pub held_constant : Test → Option ℤ
held_constant (Value (Compare how x y)) = constant y
held_constant _ = None

-- the slot of a constant that is held, where there is one
abbrev pub held_slots : Option ℤ → List SlotKind
held_slots (Some n) = slot.Number ∷ []
held_slots None = []

-- the one or the other, by where the condition of WHILE stands
abbrev pub by_turn : {A : Type 0} → (turned : Bool) → (behind before : A) → A
by_turn true behind before = behind
by_turn false behind before = before

-- the mark of a condition that has a choice entry
abbrev pub mark_slots : (simple : Bool) → List SlotKind
mark_slots true = []
mark_slots false = slot.Mark ∷ []

-- ---- arguments

-- how many cells the part has that selectors name, in a place of so many
abbrev pub cells_behind : ℕ → Sels → ℕ
cells_behind cells no_sels = cells
cells_behind cells (more_sels (Field offset part) rest) = cells_behind part rest
cells_behind cells (more_sels (Index e range part) rest) = cells_behind part rest

-- how many cells the place has that a designator names
abbrev pub desig_cells : Desig → ℕ
desig_cells (a_desig root cells sels) = cells_behind cells sels

-- the kind of the slot in which an argument is handed over
abbrev pub arg_kind : Arg → SlotKind
arg_kind (ByValue e range) = slot.Number
arg_kind (ByCells d) = slot.Place (desig_cells d)
arg_kind (ByPlace d) = slot.Place (desig_cells d)
arg_kind (MixValue e range) = slot.Number
arg_kind (MixPlace d) = slot.Place (desig_cells d)

-- the slots in which the arguments are handed over
abbrev pub handed_slots : Args → List SlotKind
handed_slots no_args = []
handed_slots (more_args a rest) = arg_kind a ∷ handed_slots rest

module _ (p : Program) (r : ℕ) where
  -- the links to the frame so many links up, where the called routine has a link
  abbrev pub links_if : (shift up : ℕ) → List SlotKind
  links_if zero up = []
  links_if (suc one) up = chain_slots p r up

  -- the links on the way to the frame of the routine round the called one, of which the last is handed over
  abbrev pub call_links : (called up : ℕ) → List SlotKind
  call_links called up = links_if (shift_of p called) up

  -- the links on the way to the frame of a variable or parameter of an outer routine
  abbrev pub root_slots : Root → List SlotKind
  root_slots (root.Local from) = []
  root_slots (root.Global from) = []
  root_slots (root.Param from) = []
  root_slots (root.Outer links from) = chain_slots p r links
  root_slots (root.OuterParam links from) = chain_slots p r links

  -- ---- phrases

  abbrev mutual
    -- one statement behind another
    pub stmts_slots : Stmts → List SlotKind
    stmts_slots no_stmts = []
    stmts_slots (more_stmts line x rest) = stmt_slots x ++ stmts_slots rest

    -- the parts of a statement, in the order of their code
    pub stmt_slots : Stmt → List SlotKind
    stmt_slots (TestStmt t) = test_slots t
    stmt_slots (Assign d e range) = unless_bare (bare_desig d) (desig_slots d) ++ unless_bare (bare e) (expr_slots e)
    stmt_slots (CopyCells d e) = desig_slots d ++ desig_slots e
    stmt_slots (If arms rest) = arms_slots arms ++ stmts_slots rest
    stmt_slots (While t body) = by_turn (is_turned t) (held_slots (held_constant t) ++ (stmts_slots body ++ test_slots t))
        (mark_slots (is_simple t) ++ (test_slots t ++ stmts_slots body))
    stmt_slots (Repeat body t) = stmts_slots body ++ (mark_slots (is_simple t) ++ test_slots t)
    stmt_slots (ForTo l) = for_slots l
    stmt_slots (SomeOf l) = some_slots l
    -- the value, the arms that are never tried, and two numbers for the labels
    stmt_slots (Case e arms rest) = expr_slots e ++ (dead_slots arms ++ (slot.Number ∷ slot.Number ∷ (cases_slots arms ++ else_slots rest)))
    stmt_slots (Either branches) = branches_slots branches
    stmt_slots (Forall x y) = slot.Mark ∷ (stmts_slots x ++ (slot.Mark ∷ stmts_slots y))
    stmt_slots (Commit x) = slot.Mark ∷ stmts_slots x
    stmt_slots (Return e) = return_slots e
    stmt_slots (Read d how range) = desig_slots d
    stmt_slots (WriteExpr e how) = unless_bare (bare e) (expr_slots e)
    stmt_slots (WriteText text) = []
    stmt_slots WriteLine = []

    -- of each arm of IF a mark, where its condition has a choice entry, the condition and the body
    pub arms_slots : Arms → List SlotKind
    arms_slots no_arms = []
    arms_slots (more_arms t body rest) = mark_slots (is_simple t) ++ (test_slots t ++ (stmts_slots body ++ arms_slots rest))

    -- an arm without labels is dead: it is never tried
    pub dead_slots : CaseArms → List SlotKind
    dead_slots no_cases = []
    dead_slots (more_cases [] body rest) = stmts_slots body ++ dead_slots rest
    dead_slots (more_cases (label ∷ labels) body rest) = dead_slots rest

    -- the arms with labels
    pub cases_slots : CaseArms → List SlotKind
    cases_slots no_cases = []
    cases_slots (more_cases [] body rest) = cases_slots rest
    cases_slots (more_cases (label ∷ labels) body rest) = stmts_slots body ++ cases_slots rest

    -- the statements of an ELSE part, where there is one
    pub else_slots : Else → List SlotKind
    else_slots no_else = []
    else_slots (else_part body) = stmts_slots body

    -- one branch of EITHER behind another
    pub branches_slots : Branches → List SlotKind
    branches_slots no_branches = []
    branches_slots (more_branches body rest) = stmts_slots body ++ branches_slots rest

    -- the step, the first count, the limit, the count of a turn and the place of the variable where it is not set in its own
    -- slot, and the body
    pub for_slots : Loop → List SlotKind
    for_slots (a_loop d range counter limit from to by body) =
        slot.Number ∷ (expr_slots from ++ (expr_slots to ++ (unless_bare (bare_desig d) (slot.Number ∷ desig_slots d) ++ stmts_slots body)))

    -- and behind the limit whether there are more turns
    pub some_slots : Loop → List SlotKind
    some_slots (a_loop d range counter limit from to by body) =
        slot.Number ∷ (expr_slots from ++ (expr_slots to
        ++ (slot.Number ∷ (unless_bare (bare_desig d) (slot.Number ∷ desig_slots d) ++ stmts_slots body))))

    -- the value of RETURN, where it has code
    pub return_slots : ReturnExpr → List SlotKind
    return_slots no_result = []
    return_slots (some_result e) = unless_bare (bare e) (expr_slots e)

    -- the parts of a test; NOT has a mark, and a call has its links and its arguments
    pub test_slots : Test → List SlotKind
    test_slots (Value e) = unless_bare (bare e) (expr_slots e)
    test_slots (Bind d e range true) = desig_slots d ++ unless_bare (bare e) (expr_slots e)
    test_slots (Bind d e range false) = expr_slots e ++ desig_slots d
    test_slots (Unify d range e range') = desig_slots d ++ desig_slots e
    test_slots (SameCells d e) = desig_slots d ++ desig_slots e
    test_slots (Seq x) = stmts_slots x
    test_slots (And ts) = and_slots ts
    test_slots (Or ts) = or_slots ts
    test_slots (Not t) = slot.Mark ∷ test_slots t
    test_slots (CallTest called args up) = call_links called up ++ (handed_slots args ++ args_slots args)

    -- one operand of AND behind another
    pub and_slots : Tests → List SlotKind
    and_slots no_tests = []
    and_slots (more_tests t rest) = test_slots t ++ and_slots rest

    -- each operand but the last has a mark
    pub or_slots : Tests → List SlotKind
    or_slots no_tests = []
    or_slots (more_tests t no_tests) = test_slots t
    or_slots (more_tests t (more_tests t' rest)) = slot.Mark ∷ (test_slots t ++ or_slots (more_tests t' rest))

    -- the value stands in the first
    pub expr_slots : Expr → List SlotKind
    expr_slots (Const n) = slot.Number ∷ []
    expr_slots (Load d) = slot.Number ∷ unless_bare (bare_desig d) (desig_slots d)
    expr_slots (Chain negated e links) = expr_slots e ++ links_slots links
    expr_slots (Compare how x y) = expr_slots x ++ unless_bare (bare y) (expr_slots y)
    expr_slots (Truth t) = slot.Number ∷ (mark_slots (is_simple t) ++ test_slots t)
    expr_slots (Known d) = slot.Number ∷ desig_slots d
    expr_slots (Chr e) = expr_slots e
    expr_slots (CallExpr called args up) = slot.Number ∷ slot.Mark ∷ (call_links called up ++ (handed_slots args ++ args_slots args))

    -- one operand behind another, without those that are used in their own slot
    pub links_slots : Links → List SlotKind
    links_slots no_links = []
    links_slots (more_links how e rest) = unless_bare (bare e) (expr_slots e) ++ links_slots rest

    -- what the arguments need before they are handed over
    pub args_slots : Args → List SlotKind
    args_slots no_args = []
    args_slots (more_args a rest) = arg_slots a ++ args_slots rest

    -- the value or the place of an argument
    pub arg_slots : Arg → List SlotKind
    arg_slots (ByValue e range) = unless_bare (bare e) (expr_slots e)
    arg_slots (ByCells d) = desig_slots d
    arg_slots (ByPlace d) = desig_slots d
    arg_slots (MixValue e range) = unless_bare (bare e) (expr_slots e)
    arg_slots (MixPlace d) = desig_slots d

    -- the place of the root stands in the first
    pub desig_slots : Desig → List SlotKind
    desig_slots (a_desig root cells sels) = slot.Place cells ∷ (root_slots root ++ sels_slots sels)

    -- one selector behind another
    pub sels_slots : Sels → List SlotKind
    sels_slots no_sels = []
    sels_slots (more_sels x rest) = sel_slots x ++ sels_slots rest

    -- the place of the part stands in the last
    pub sel_slots : Sel → List SlotKind
    sel_slots (Field offset cells) = slot.Place cells ∷ []
    sel_slots (Index e range cells) = unless_bare (bare e) (expr_slots e) ++ (slot.Place cells ∷ [])

  -- ---- the first slot behind those of a phrase that takes them from `lo` on

  -- of statements
  abbrev pub behind_stmts : (lo : ℕ) → Stmts → ℕ
  behind_stmts lo xs = lo + length (stmts_slots xs)

  -- of a statement
  abbrev pub behind_stmt : (lo : ℕ) → Stmt → ℕ
  behind_stmt lo x = lo + length (stmt_slots x)

  -- of a test
  abbrev pub behind_test : (lo : ℕ) → Test → ℕ
  behind_test lo t = lo + length (test_slots t)

  -- of a condition, with its mark where it has one
  abbrev pub behind_condition : (lo : ℕ) → Test → ℕ
  behind_condition lo t = lo + length (mark_slots (is_simple t)) + length (test_slots t)

  -- of an expression
  abbrev pub behind_expr : (lo : ℕ) → Expr → ℕ
  behind_expr lo e = lo + length (expr_slots e)

  -- of the arms of CASE that are never tried
  abbrev pub behind_dead : (lo : ℕ) → CaseArms → ℕ
  behind_dead lo arms = lo + length (dead_slots arms)

  -- of a value that is used at once
  abbrev pub behind_value : (lo : ℕ) → Expr → ℕ
  behind_value lo e = lo + length (unless_bare (bare e) (expr_slots e))

  -- of a designator
  abbrev pub behind_desig : (lo : ℕ) → Desig → ℕ
  behind_desig lo d = lo + length (desig_slots d)

  -- of a designator that is written
  abbrev pub behind_target : (lo : ℕ) → Desig → ℕ
  behind_target lo d = lo + length (unless_bare (bare_desig d) (desig_slots d))

  -- of a constant that is put before a loop
  abbrev pub behind_held : (lo : ℕ) → Test → ℕ
  behind_held lo t = lo + length (held_slots (held_constant t))

  -- of the variable of a loop
  abbrev pub behind_variable : (lo : ℕ) → Desig → ℕ
  behind_variable lo d = lo + length (unless_bare (bare_desig d) (slot.Number ∷ desig_slots d))

-- ---- the whole frame

-- the slots of a parameter
abbrev pub param_kinds : ArgKind → (cells : ℕ) → List SlotKind
param_kinds kind.Value cells = slot.Number ∷ []
param_kinds kind.Place cells = slot.Place cells ∷ []
param_kinds kind.Mix cells = slot.Place 1 ∷ slot.Number ∷ []
param_kinds kind.Cells cells = replicate cells slot.Number

-- the slots of all parameters, in order
abbrev pub params_kinds : List Param → List SlotKind
params_kinds [] = []
params_kinds (q ∷ rest) = param_kinds q.kind q.cells ++ params_kinds rest

-- the link of a routine of this level
abbrev pub link_kinds : (level outer : ℕ) → List SlotKind
link_kinds zero outer = []
link_kinds (suc zero) outer = []
link_kinds (suc (suc above)) outer = slot.Link outer ∷ []

-- the link and the own slots of a routine: its parameters, and numbers
abbrev pub own_kinds : Routine → List SlotKind
own_kinds routine =
    link_kinds routine.level routine.outer
    ++ (params_kinds routine.params ++ replicate (routine.slots - length (params_kinds routine.params)) slot.Number)

-- the kinds of all slots of a frame of the routine
abbrev pub routine_kinds : Program → (r : ℕ) → List SlotKind
routine_kinds p r = own_kinds (routine_at p r) ++ stmts_slots p r (body_with_lines (routine_at p r))
