-- The meaning of a resolved program: the events of each phrase, row by row. A node of the program
-- is `node` of its row, but for an arm of IF and a label, whose visits stand in their rows. A call,
-- an operator with its operand, what FOR and SOME share, and the ELSE parts are no nodes. A fault
-- has line 0 in the rows and gets that of the nearest statement round it; NoReturn has the line of
-- its routine from the start.
use Rattle.std.specs.Prelude.{ℕ, zero, suc, true, false, ℤ, pos, List, [], ◌∷◌, None}
use Rattle.alma_base.specs.Choice.{if_true}
use Rattle.alma_base.specs.Numbers.{char_range, is_zero, bit}
use Rattle.alma_base.specs.declared.fault.RunFault.TheVariants as fault
use Rattle.alma_ir.specs.Tree.{Stmts, Stmt, Arms, CaseArms, Else, Branches, Loop, ReturnExpr, Test, Tests, Expr, Links, Args, Arg, Desig}
use Rattle.alma_ir.specs.Tree.{Sels, Sel, Program, routine_at, no_stmts, more_stmts, TestStmt, Assign, CopyCells, If, While, Repeat, ForTo}
use Rattle.alma_ir.specs.Tree.{SomeOf, Case, Either, Forall, Commit, Return, Read, WriteExpr, WriteText, WriteLine, no_arms, more_arms}
use Rattle.alma_ir.specs.Tree.{no_cases, more_cases, no_else, else_part, no_branches, more_branches, a_loop, no_result, some_result, Value}
use Rattle.alma_ir.specs.Tree.{Bind, Unify, SameCells, Seq, And, Or, Not, CallTest, no_tests, more_tests, Const, Load, Chain, Compare}
use Rattle.alma_ir.specs.Tree.{Truth, Known, Chr, CallExpr, no_links, more_links, no_args, more_args, ByValue, ByCells, ByPlace, MixValue}
use Rattle.alma_ir.specs.Tree.{MixPlace, a_desig, no_sels, more_sels, Field, Index}
use Rattle.alma_ir.specs.Lines.{body_with_lines}
use Rattle.alma_mean.specs.Store.{Store, Place, Number, top_frame, part, cell_of, put_at, start_cells}
use Rattle.alma_mean.specs.Events as events
use Rattle.alma_mean.specs.Events.{Events, NoYield, Visit, Print, Alt, Fail, Fault, Cut, one, join, bind, node, visit_each, at_line, first}
use Rattle.alma_mean.specs.Events.{on_first, End, end_of, prints}
use Rattle.alma_mean.specs.Arithmetic.{check_range, apply_op, apply_sign, compares, written_text}
use Rattle.alma_mean.specs.Rows.{read_cell, known_bit, root_place, index_place, bind_cell, unify_cells, match_cells, copy_cells, while_turn}
use Rattle.alma_mean.specs.Rows.{repeat_turn, for_turn, some_turn, begin_loop, try_labels, forall_row, read_row, ArgValue, ArgNumber}
use Rattle.alma_mean.specs.Rows.{ArgMix, ArgPlace, ArgCells, enter, as_test, as_value, return_within}

-- the meaning at one level: the events of each phrase in a store, of a routine's statements, and of
-- a turn of a loop
pub record Level : Type 0 where
  pub stmts : Stmts → Store → Events NoYield
  pub stmt : Stmt → Store → Events NoYield
  pub test : Test → Store → Events NoYield
  pub expr : Expr → Store → Events ℤ
  pub arg : Arg → Store → Events ArgValue
  pub desig : Desig → Store → Events Place
  pub sel : Sel → Place → Store → Events Place
  pub routine : ℕ → Store → Events NoYield
  pub while : Test → Stmts → Store → Events NoYield
  pub repeat : Stmts → Test → Store → Events NoYield
  pub for : Loop → Store → Events NoYield
  pub some : Loop → Store → Events NoYield

-- at level 0 all is cut off, an empty list too
abbrev pub level_0 : Level
level_0 = record {
  stmts = λ x s. Cut;
  stmt = λ x s. Cut;
  test = λ t s. Cut;
  expr = λ e s. Cut;
  arg = λ a s. Cut;
  desig = λ d s. Cut;
  sel = λ x q s. Cut;
  routine = λ r s. Cut;
  while = λ t x s. Cut;
  repeat = λ x t s. Cut;
  for = λ l s. Cut;
  some = λ l s. Cut;
}

-- The rows. Parts are taken at the same level, each in the store that the part before it left;
-- those that are taken at the level below go through `below`.
module _ (p : Program) (input : List ℕ) (below : Level) where
  unfoldable mutual
    -- none leaves the store as it is; else the first, and for each of its alternatives the rest
    pub ev_stmts : Stmts → Store → Events NoYield
    ev_stmts no_stmts s = one s tt
    -- a fault in a statement that has no line yet stands at the line of the statement
    ev_stmts (more_stmts line x rest) s = bind (at_line line (ev_stmt x s)) (λ t _. ev_stmts rest t)

    -- each form of statement
    pub ev_stmt : Stmt → Store → Events NoYield
    -- a test as a statement is two nodes, the statement and the test
    ev_stmt (TestStmt t) s = node (ev_test t s)
    ev_stmt (Assign d e range) s =
        node (bind (ev_desig d s) (λ t q. bind (ev_expr e t) (λ u n. check_range range n (λ _. one (put_at u q (Number n)) tt))))
    ev_stmt (CopyCells d e) s =
        node (bind (ev_desig d s) (λ t q. bind (ev_desig e t) (λ u r. one (copy_cells u q r) tt)))
    ev_stmt (If arms rest) s = node (ev_arms arms s (ev_stmts rest))
    ev_stmt (While t body) s = node (while_turn (below.test t) (below.stmts body) (below.while t body) s)
    -- only the next turn is taken at the level below
    ev_stmt (Repeat body t) s = node (repeat_turn (ev_stmts body) (ev_test t) (below.repeat body t) s)
    ev_stmt (ForTo l) s = node (ev_for l s)
    ev_stmt (SomeOf l) s = node (ev_some l s)
    -- the ELSE part is taken in the store after the value
    ev_stmt (Case e arms rest) s = node (bind (ev_expr e s) (λ t n. ev_cases arms n t (ev_else rest)))
    ev_stmt (Either branches) s = node (ev_branches branches s)
    ev_stmt (Forall x y) s = node (forall_row (ev_stmts y) s [] (ev_stmts x s))
    ev_stmt (Commit x) s = node (on_first (ev_stmts x s) (λ t _. one t tt) (λ _. Fail))
    ev_stmt (Return e) s = node (ev_return e s)
    -- the designator is located before the input is looked at
    ev_stmt (Read d how range) s = node (bind (ev_desig d s) (λ t q. read_row input how t q range))
    ev_stmt (WriteExpr e how) s = node (bind (ev_expr e s) (λ t n. Print (written_text how n) (one t tt)))
    -- a text of no bytes is a print too
    ev_stmt (WriteText text) s = node (Print text (one s tt))
    ev_stmt WriteLine s = node (Print (10 ∷ []) (one s tt))

    -- the arms of IF in order, and then the ELSE part. An arm is a visit when it is tried, and one
    -- before each alternative of its body; the arms behind it stand outside of it, in the store on
    -- entry
    pub ev_arms : Arms → Store → (Store → Events NoYield) → Events NoYield
    ev_arms no_arms s otherwise = otherwise s
    ev_arms (more_arms t body rest) s otherwise =
        Visit (on_first (ev_test t s) (λ u _. visit_each (ev_stmts body u)) (λ _. ev_arms rest s otherwise))

    -- the labels of all arms in order; a label that is tried is one visit, and an arm that is taken
    -- is a node
    pub ev_cases : CaseArms → ℤ → Store → (Store → Events NoYield) → Events NoYield
    ev_cases no_cases n s otherwise = otherwise s
    ev_cases (more_cases labels body rest) n s otherwise =
        try_labels labels n (λ _. node (ev_stmts body s)) (λ _. ev_cases rest n s otherwise)

    -- the ELSE part of CASE, or fault NoCase where there is none
    pub ev_else : Else → Store → Events NoYield
    ev_else no_else s = Fault fault.NoCase 0
    ev_else (else_part body) s = ev_stmts body s

    -- each branch is a node, in the store on entry
    pub ev_branches : Branches → Store → Events NoYield
    ev_branches no_branches s = Fail
    ev_branches (more_branches body rest) s = join (node (ev_stmts body s)) (ev_branches rest s)

    -- an empty FOR goes on with counter and limit stored
    pub ev_for : Loop → Store → Events NoYield
    ev_for (a_loop d range counter limit from to by body) s =
        bind (ev_expr from s) (λ t n. bind (ev_expr to t) (λ u l.
        begin_loop counter limit by n l u
        (for_turn (ev_desig d) range counter limit by (below.stmts body) (below.for (a_loop d range counter limit from to by body)))
        (λ w. one w tt)))

    -- an empty SOME fails; its step is 1, whatever the loop says
    pub ev_some : Loop → Store → Events NoYield
    ev_some (a_loop d range counter limit from to by body) s =
        bind (ev_expr from s) (λ t n. bind (ev_expr to t) (λ u l.
        begin_loop counter limit (pos 1) n l u
        (some_turn (ev_desig d) range counter limit (below.stmts body) (below.some (a_loop d range counter limit from to by body)))
        (λ w. Fail)))

    -- the range is that of the routine of the frame on top
    pub ev_return : ReturnExpr → Store → Events NoYield
    ev_return no_result s = Alt s (events.Return None) Fail
    ev_return (some_result e) s =
        bind (ev_expr e s) (λ t n. return_within (routine_at p (top_frame t).routine).result t n)

    -- each form of test
    pub ev_test : Test → Store → Events NoYield
    ev_test (Value e) s = node (bind (ev_expr e s) (λ t n. if_true (is_zero n) (λ _. Fail) (λ _. one t tt)))
    -- cells are looked at after both sides were evaluated and located, in the store that they left
    ev_test (Bind d e range true) s =
        node (bind (ev_desig d s) (λ t q. bind (ev_expr e t) (λ u n. bind_cell u q (cell_of u q) range n)))
    ev_test (Bind d e range false) s =
        node (bind (ev_expr e s) (λ t n. bind (ev_desig d t) (λ u q. bind_cell u q (cell_of u q) range n)))
    ev_test (Unify d range e range') s =
        node (bind (ev_desig d s) (λ t q. bind (ev_desig e t) (λ u r. unify_cells u q (cell_of u q) range r (cell_of u r) range')))
    ev_test (SameCells d e) s =
        node (bind (ev_desig d s) (λ t q. bind (ev_desig e t) (λ u r. match_cells q.size u q r)))
    ev_test (Seq x) s = node (ev_stmts x s)
    ev_test (And ts) s = node (ev_and ts s)
    ev_test (Or ts) s = node (ev_or ts s)
    -- where there is no alternative the store is the one on entry, hidden cells and the input
    -- position too
    ev_test (Not t) s = node (on_first (ev_test t s) (λ u _. Fail) (λ _. one s tt))
    -- at a call the routine's statements are taken, with no visit of the routine's own node
    ev_test (CallTest r args links) s = node (bind (ev_args args s) (λ t taken. as_test (enter p (below.routine r) r links t taken)))

    -- as a list of statements: for each alternative of the first operand those of the rest
    pub ev_and : Tests → Store → Events NoYield
    ev_and no_tests s = one s tt
    ev_and (more_tests t rest) s = bind (ev_test t s) (λ u _. ev_and rest u)

    -- each operand in the store on entry; the last has all its alternatives, each other one only
    -- its first
    pub ev_or : Tests → Store → Events NoYield
    ev_or no_tests s = Fail
    ev_or (more_tests t no_tests) s = ev_test t s
    ev_or (more_tests t (more_tests t' rest)) s =
        on_first (ev_test t s) (λ u _. one u tt) (λ _. ev_or (more_tests t' rest) s)

    -- each form of expression
    pub ev_expr : Expr → Store → Events ℤ
    ev_expr (Const n) s = node (one s n)
    ev_expr (Load d) s = node (bind (ev_desig d s) (λ t q. read_cell (cell_of t q) (λ n. one t n)))
    -- the sign, and each operator, is applied as soon as its operand is there
    ev_expr (Chain negated e links) s =
        node (bind (ev_expr e s) (λ t n. bind (apply_sign negated t n) (λ u m. ev_links links m u)))
    ev_expr (Compare how x y) s =
        node (bind (ev_expr x s) (λ t n. bind (ev_expr y t) (λ u m. one u (bit (compares how n m)))))
    ev_expr (Truth t) s = node (on_first (ev_test t s) (λ u _. one u (pos 1)) (λ _. one s (pos 0)))
    ev_expr (Known d) s = node (bind (ev_desig d s) (λ t q. one t (known_bit (cell_of t q))))
    ev_expr (Chr e) s =
        node (bind (ev_expr e s) (λ t n. check_range char_range n (λ _. one t n)))
    ev_expr (CallExpr r args links) s =
        node (bind (ev_args args s) (λ t taken. as_value (routine_at p r).line (enter p (below.routine r) r links t taken)))

    -- the operators behind the number n
    pub ev_links : Links → ℤ → Store → Events ℤ
    ev_links no_links n s = one s n
    ev_links (more_links how e rest) n s =
        bind (ev_expr e s) (λ t m. bind (apply_op t how n m) (λ u k. ev_links rest k u))

    -- the arguments in order
    pub ev_args : Args → Store → Events (List ArgValue)
    ev_args no_args s = one s []
    ev_args (more_args a rest) s = bind (ev_arg a s) (λ t taken. bind (ev_args rest t) (λ u others. one u (taken ∷ others)))

    -- a value is checked before the next argument is taken; of cells the place is taken in its turn
    pub ev_arg : Arg → Store → Events ArgValue
    ev_arg (ByValue e range) s = node (bind (ev_expr e s) (λ t n. check_range range n (λ _. one t (ArgNumber n))))
    ev_arg (ByCells d) s = node (bind (ev_desig d s) (λ t q. one t (ArgCells q)))
    ev_arg (ByPlace d) s = node (bind (ev_desig d s) (λ t q. one t (ArgPlace q)))
    ev_arg (MixValue e range) s = node (bind (ev_expr e s) (λ t n. check_range range n (λ _. one t (ArgMix n))))
    ev_arg (MixPlace d) s = node (bind (ev_desig d s) (λ t q. one t (ArgPlace q)))

    -- the place of the root, of so many cells, narrowed by the selectors
    pub ev_desig : Desig → Store → Events Place
    ev_desig (a_desig root cells sels) s = node (bind (root_place s root cells) (λ t q. ev_sels sels q t))

    -- the place narrowed by each selector in turn
    pub ev_sels : Sels → Place → Store → Events Place
    ev_sels no_sels q s = one s q
    ev_sels (more_sels x rest) q s = bind (ev_sel x q s) (λ t r. ev_sels rest r t)

    -- a part of the place: a field, or the element with an index
    pub ev_sel : Sel → Place → Store → Events Place
    ev_sel (Field offset cells) q s = node (one s (part q offset cells))
    ev_sel (Index e range cells) q s = node (bind (ev_expr e s) (λ t n. index_place t q n range cells))

  -- the statements of a routine, each with its line
  abbrev pub ev_routine : ℕ → Store → Events NoYield
  ev_routine r s = ev_stmts (body_with_lines (routine_at p r)) s

  -- a turn of FOR at this level: the variable is located here, the body and the next turn are taken
  -- at the level below
  abbrev pub turn_for : Loop → Store → Events NoYield
  turn_for (a_loop d range counter limit from to by body) =
      for_turn (ev_desig d) range counter limit by (below.stmts body) (below.for (a_loop d range counter limit from to by body))

  -- a turn of SOME, in the same way
  abbrev pub turn_some : Loop → Store → Events NoYield
  turn_some (a_loop d range counter limit from to by body) =
      some_turn (ev_desig d) range counter limit (below.stmts body) (below.some (a_loop d range counter limit from to by body))

  -- the level above
  abbrev pub level_above : Level
  level_above = record {
    stmts = ev_stmts;
    stmt = ev_stmt;
    test = ev_test;
    expr = ev_expr;
    arg = ev_arg;
    desig = ev_desig;
    sel = ev_sel;
    routine = ev_routine;
    while = λ t x s. while_turn (below.test t) (below.stmts x) (below.while t x) s;
    repeat = λ x t s. repeat_turn (ev_stmts x) (ev_test t) (below.repeat x t) s;
    for = turn_for;
    some = turn_some;
  }

-- the meaning at level n
abbrev pub level : Program → List ℕ → ℕ → Level
level p input zero = level_0
level p input (suc n) = level_above p input (level p input n)

-- one frame, of routine 0, with the input position 0 and all other cells unknown
abbrev pub start : Program → Store
start p = record { routine = 0; link = 0; cells = start_cells (routine_at p 0).slots } ∷ []

-- the events of the program at level n: the one place where the node of a routine is visited
abbrev pub ev_program : ℕ → Program → List ℕ → Events NoYield
ev_program zero p input = Cut
ev_program (suc n) p input = node ((level p input (suc n)).routine 0 (start p))

-- what the program prints up to its first alternative, and how it ends
abbrev pub result : ℕ → Program → List ℕ → List ℕ × End
result n p input = (prints (first (ev_program n p input)), end_of (first (ev_program n p input)))
