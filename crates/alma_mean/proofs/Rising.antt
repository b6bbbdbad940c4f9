-- Each level of the meaning extends the one below.
use Rattle.std.proofs.Common.{ℕ, zero, suc, List, [], ◌∷◌, ◌++◌}
use Rattle.std.specs.Prelude.{true, false, ℤ, pos, nat_lt, nat_le, length, ◌+◌}
use Rattle.alma_base.specs.Numbers.{is_beyond}
use Rattle.alma_base.specs.declared.number.Range.{Range}
use Rattle.alma_base.specs.declared.fault.RunFault.TheVariants as fault
use Rattle.alma_ir.specs.Tree.{Stmts, Stmt, Arms, CaseArms, Else, Branches, Loop, ReturnExpr, Test, Tests, Expr, Links, Args, Arg, Desig}
use Rattle.alma_ir.specs.Tree.{Sels, Sel, Program, routine_at, no_stmts, more_stmts, TestStmt, Assign, CopyCells, If, While, Repeat, ForTo}
use Rattle.alma_ir.specs.Tree.{SomeOf, Case, Either, Forall, Commit, Return, Read, WriteExpr, WriteText, WriteLine, no_arms, more_arms}
use Rattle.alma_ir.specs.Tree.{no_cases, more_cases, no_else, else_part, no_branches, more_branches, a_loop, no_result, some_result, Value}
use Rattle.alma_ir.specs.Tree.{Bind, Unify, SameCells, Seq, And, Or, Not, CallTest, no_tests, more_tests, Const, Load, Chain, Compare}
use Rattle.alma_ir.specs.Tree.{Truth, Known, Chr, CallExpr, no_links, more_links, no_args, more_args, ByValue, ByCells, ByPlace, MixValue}
use Rattle.alma_ir.specs.Tree.{MixPlace, a_desig, no_sels, more_sels, Field, Index}
use Rattle.alma_ir.specs.Lines.{body_with_lines}
use Rattle.alma_mean.specs.Store.{Store, Place, top_cell}
use Rattle.alma_mean.specs.Events.{Events, NoYield, Fail, one}
use Rattle.alma_mean.specs.Rows.{ArgValue, next_turn, set_variable, for_turn, some_turn, while_turn, repeat_turn, begin_loop, enter}
use Rattle.alma_mean.specs.Rows.{declared_cells, frame_of}
use Rattle.alma_mean.specs.Meaning.{Level, level, level_above, ev_stmts, ev_stmt, ev_arms, ev_cases, ev_else, ev_branches, ev_for, ev_some}
use Rattle.alma_mean.specs.Meaning.{ev_return, ev_test, ev_and, ev_or, ev_expr, ev_links, ev_args, ev_arg, ev_desig, ev_sels, ev_sel}
use Rattle.alma_mean.specs.Meaning.{turn_for, turn_some, ev_program, start}
use Rattle.alma_mean.specs.Laws.{Extends, on_visit, at_fail, at_fault, at_cut, IsBelow, LevelsRise}
use Rattle.alma_mean.proofs.Extending.{same, joined, bound, visited, lined, noded, first_taken, checked, chosen, read, labelled}
use Rattle.alma_mean.proofs.Extending.{gone_through, left, answered}

-- a function of the store that extends another
abbrev Over : {A : Type 0} → (Store → Events A) → (Store → Events A) → Type 0
Over {A} f g = (s : Store) → Extends A (f s) (g s)

-- ---- turns of loops

-- a turn of WHILE, where its parts are extended
while_over : {c c' b b' a a' : Store → Events NoYield} → Over c c' → Over b b' → Over a a' → Over (while_turn c b a) (while_turn c' b' a')
while_over c b a s = on_visit (first_taken (c s) (λ t _. bound (b t) (λ u _. a u)) (λ _. same _))

-- a turn of REPEAT
repeat_over : {b b' c c' a a' : Store → Events NoYield} → Over b b' → Over c c' → Over a a'
    → Over (repeat_turn b c a) (repeat_turn b' c' a')
repeat_over b c a s = on_visit (bound (b s) (λ t _. first_taken (c t) (λ u _. same _) (λ _. a t)))

-- the end of a turn
stepped : (counter limit : ℕ) (by : ℤ) {a a' : Store → Events NoYield} → Over a a' → (s : Store) (last : Events NoYield)
    → Extends NoYield (next_turn counter limit by a s last) (next_turn counter limit by a' s last)
stepped counter limit by a s last =
    read (top_cell s counter) (λ v. read (top_cell s limit) (λ l. chosen _ (λ _. same last) (λ _. a _)))

-- the setting of the variable
with_var : {d d' : Store → Events Place} → Over d d' → (range : Range) (s : Store) (v : ℤ) {k k' : Store → Events NoYield} → Over k k'
    → Extends NoYield (set_variable d range s v k) (set_variable d' range s v k')
with_var d range s v k = checked fault.Range _ (λ _. bound (d s) (λ t p. k _))

-- a turn of FOR
for_over : {d d' : Store → Events Place} → Over d d' → (range : Range) (counter limit : ℕ) (by : ℤ) {b b' a a' : Store → Events NoYield}
    → Over b b' → Over a a' → Over (for_turn d range counter limit by b a) (for_turn d' range counter limit by b' a')
for_over d range counter limit by b a s =
    on_visit (read (top_cell s counter) (λ v. with_var d range s v (λ t. bound (b t) (λ u _. stepped counter limit by a u (one u tt)))))

-- a turn of SOME
some_over : {d d' : Store → Events Place} → Over d d' → (range : Range) (counter limit : ℕ) {b b' a a' : Store → Events NoYield} → Over b b'
    → Over a a' → Over (some_turn d range counter limit b a) (some_turn d' range counter limit b' a')
some_over d range counter limit b a s =
    on_visit (read (top_cell s counter) (λ v. joined (with_var d range s v b) (stepped counter limit (pos 1) a s Fail)))

-- the begin of a loop
begun : (counter limit : ℕ) (by v l : ℤ) (s : Store) {f f' : Store → Events NoYield} → Over f f' → (z : Store → Events NoYield)
    → Extends NoYield (begin_loop counter limit by v l s f z) (begin_loop counter limit by v l s f' z)
begun counter limit by v l s f z = chosen (is_beyond v l by) (λ _. same _) (λ _. f _)

-- ---- the rows

module _ (p : Program) (input : List ℕ) (b c : Level) (h : IsBelow b c) where
  -- the body of a call, where it stands one level below
  entered : (r links : ℕ) (s : Store) (hs : List ArgValue)
      → Extends NoYield (enter p (b.routine r) r links s hs) (enter p (c.routine r) r links s hs)
  entered r links s hs =
      checked fault.DepthFull (nat_lt (length s) 10000) (λ _.
      checked fault.CellsFull (nat_le (declared_cells p s + (routine_at p r).declared) 1048576) (λ _.
      h.routine r (s ++ frame_of s r links (routine_at p r) hs ∷ [])))

  -- each phrase, where what stands one level below is extended
  mutual
    unfolding ev_stmts

    pub stmts_over : (x : Stmts) (s : Store) → Extends NoYield (ev_stmts p input b x s) (ev_stmts p input c x s)
    stmts_over no_stmts s = same _
    stmts_over (more_stmts line x rest) s = bound (lined line (stmt_over x s)) (λ t _. stmts_over rest t)

    pub stmt_over : (x : Stmt) (s : Store) → Extends NoYield (ev_stmt p input b x s) (ev_stmt p input c x s)
    stmt_over (TestStmt t) s = noded (test_over t s)
    stmt_over (Assign d e range) s = noded (bound (desig_over d s) (λ t q. bound (expr_over e t) (λ u v. same _)))
    stmt_over (CopyCells d e) s = noded (bound (desig_over d s) (λ t q. bound (desig_over e t) (λ u r. same _)))
    stmt_over (If arms rest) s = noded (arms_over arms s (λ t. stmts_over rest t))
    stmt_over (While t body) s = noded (while_over (h.test t) (h.stmts body) (h.while t body) s)
    stmt_over (Repeat body t) s = noded (repeat_over (λ u. stmts_over body u) (λ u. test_over t u) (h.repeat body t) s)
    stmt_over (ForTo l) s = noded (for_stmt_over l s)
    stmt_over (SomeOf l) s = noded (some_stmt_over l s)
    stmt_over (Case e arms rest) s = noded (bound (expr_over e s) (λ t v. cases_over arms v t (λ u. else_over rest u)))
    stmt_over (Either branches) s = noded (branches_over branches s)
    stmt_over (Forall x y) s = noded (gone_through (λ t. stmts_over y t) s [] (stmts_over x s))
    stmt_over (Commit x) s = noded (first_taken (stmts_over x s) (λ t _. same _) (λ _. at_fail))
    stmt_over (Return e) s = noded (answer_over e s)
    stmt_over (Read d how range) s = noded (bound (desig_over d s) (λ t q. same _))
    stmt_over (WriteExpr e how) s = noded (bound (expr_over e s) (λ t v. same _))
    stmt_over (WriteText text) s = same _
    stmt_over WriteLine s = same _

    pub arms_over : (x : Arms) (s : Store) {k k' : Store → Events NoYield} → Over k k'
        → Extends NoYield (ev_arms p input b x s k) (ev_arms p input c x s k')
    arms_over no_arms s k = k s
    arms_over (more_arms t body rest) s k =
        on_visit (first_taken (test_over t s) (λ u _. visited (stmts_over body u)) (λ _. arms_over rest s k))

    pub cases_over : (x : CaseArms) (v : ℤ) (s : Store) {k k' : Store → Events NoYield} → Over k k'
        → Extends NoYield (ev_cases p input b x v s k) (ev_cases p input c x v s k')
    cases_over no_cases v s k = k s
    cases_over (more_cases labels body rest) v s k =
        labelled labels v (λ _. noded (stmts_over body s)) (λ _. cases_over rest v s k)

    pub else_over : (x : Else) (s : Store) → Extends NoYield (ev_else p input b x s) (ev_else p input c x s)
    else_over no_else s = at_fault
    else_over (else_part body) s = stmts_over body s

    pub branches_over : (x : Branches) (s : Store) → Extends NoYield (ev_branches p input b x s) (ev_branches p input c x s)
    branches_over no_branches s = at_fail
    branches_over (more_branches body rest) s = joined (noded (stmts_over body s)) (branches_over rest s)

    pub for_stmt_over : (l : Loop) (s : Store) → Extends NoYield (ev_for p input b l s) (ev_for p input c l s)
    for_stmt_over (a_loop d range counter limit from to by body) s =
        bound (expr_over from s) (λ t v. bound (expr_over to t) (λ u l.
        begun counter limit by v l u
        (for_over (λ w. desig_over d w) range counter limit by (h.stmts body) (h.for (a_loop d range counter limit from to by body)))
        (λ w. one w tt)))

    pub some_stmt_over : (l : Loop) (s : Store) → Extends NoYield (ev_some p input b l s) (ev_some p input c l s)
    some_stmt_over (a_loop d range counter limit from to by body) s =
        bound (expr_over from s) (λ t v. bound (expr_over to t) (λ u l.
        begun counter limit (pos 1) v l u
        (some_over (λ w. desig_over d w) range counter limit (h.stmts body) (h.some (a_loop d range counter limit from to by body)))
        (λ w. Fail)))

    pub answer_over : (x : ReturnExpr) (s : Store) → Extends NoYield (ev_return p input b x s) (ev_return p input c x s)
    answer_over no_result s = same _
    answer_over (some_result e) s = bound (expr_over e s) (λ t v. same _)

    pub test_over : (t : Test) (s : Store) → Extends NoYield (ev_test p input b t s) (ev_test p input c t s)
    test_over (Value e) s = noded (bound (expr_over e s) (λ t v. same _))
    test_over (Bind d e range true) s = noded (bound (desig_over d s) (λ t q. bound (expr_over e t) (λ u v. same _)))
    test_over (Bind d e range false) s = noded (bound (expr_over e s) (λ t v. bound (desig_over d t) (λ u q. same _)))
    test_over (Unify d range e range') s = noded (bound (desig_over d s) (λ t q. bound (desig_over e t) (λ u r. same _)))
    test_over (SameCells d e) s = noded (bound (desig_over d s) (λ t q. bound (desig_over e t) (λ u r. same _)))
    test_over (Seq x) s = noded (stmts_over x s)
    test_over (And ts) s = noded (and_over ts s)
    test_over (Or ts) s = noded (or_over ts s)
    test_over (Not t) s = noded (first_taken (test_over t s) (λ u _. at_fail) (λ _. same _))
    test_over (CallTest r args links) s = noded (bound (args_over args s) (λ t hs. left (entered r links t hs)))

    pub and_over : (ts : Tests) (s : Store) → Extends NoYield (ev_and p input b ts s) (ev_and p input c ts s)
    and_over no_tests s = same _
    and_over (more_tests t rest) s = bound (test_over t s) (λ u _. and_over rest u)

    pub or_over : (ts : Tests) (s : Store) → Extends NoYield (ev_or p input b ts s) (ev_or p input c ts s)
    or_over no_tests s = at_fail
    or_over (more_tests t no_tests) s = test_over t s
    or_over (more_tests t (more_tests t' rest)) s =
        first_taken (test_over t s) (λ u _. same _) (λ _. or_over (more_tests t' rest) s)

    pub expr_over : (e : Expr) (s : Store) → Extends ℤ (ev_expr p input b e s) (ev_expr p input c e s)
    expr_over (Const v) s = same _
    expr_over (Load d) s = noded (bound (desig_over d s) (λ t q. same _))
    expr_over (Chain neg e links) s = noded (bound (expr_over e s) (λ t v. bound (same _) (λ u w. links_over links w u)))
    expr_over (Compare cmp x y) s = noded (bound (expr_over x s) (λ t v. bound (expr_over y t) (λ u w. same _)))
    expr_over (Truth t) s = noded (first_taken (test_over t s) (λ u _. same _) (λ _. same _))
    expr_over (Known d) s = noded (bound (desig_over d s) (λ t q. same _))
    expr_over (Chr e) s = noded (bound (expr_over e s) (λ t v. same _))
    expr_over (CallExpr r args links) s = noded (bound (args_over args s) (λ t hs. answered (routine_at p r).line (entered r links t hs)))

    pub links_over : (x : Links) (v : ℤ) (s : Store) → Extends ℤ (ev_links p input b x v s) (ev_links p input c x v s)
    links_over no_links v s = same _
    links_over (more_links op e rest) v s = bound (expr_over e s) (λ t w. bound (same _) (λ u x. links_over rest x u))

    pub args_over : (x : Args) (s : Store) → Extends (List ArgValue) (ev_args p input b x s) (ev_args p input c x s)
    args_over no_args s = same _
    args_over (more_args a rest) s = bound (arg_over a s) (λ t y. bound (args_over rest t) (λ u hs. same _))

    pub arg_over : (a : Arg) (s : Store) → Extends ArgValue (ev_arg p input b a s) (ev_arg p input c a s)
    arg_over (ByValue e range) s = noded (bound (expr_over e s) (λ t v. same _))
    arg_over (ByCells d) s = noded (bound (desig_over d s) (λ t q. same _))
    arg_over (ByPlace d) s = noded (bound (desig_over d s) (λ t q. same _))
    arg_over (MixValue e range) s = noded (bound (expr_over e s) (λ t v. same _))
    arg_over (MixPlace d) s = noded (bound (desig_over d s) (λ t q. same _))

    pub desig_over : (d : Desig) (s : Store) → Extends Place (ev_desig p input b d s) (ev_desig p input c d s)
    desig_over (a_desig root cells sels) s = noded (bound (same _) (λ t q. sels_over sels q t))

    pub sels_over : (x : Sels) (q : Place) (s : Store) → Extends Place (ev_sels p input b x q s) (ev_sels p input c x q s)
    sels_over no_sels q s = same _
    sels_over (more_sels x rest) q s = bound (sel_over x q s) (λ t r. sels_over rest r t)

    pub sel_over : (x : Sel) (q : Place) (s : Store) → Extends Place (ev_sel p input b x q s) (ev_sel p input c x q s)
    sel_over (Field offset cells) q s = same _
    sel_over (Index e range cells) q s = noded (bound (expr_over e s) (λ t v. same _))

  -- the turns of loops that the level above begins
  for_again_over : (l : Loop) → Over (turn_for p input b l) (turn_for p input c l)
  for_again_over (a_loop d range counter limit from to by body) =
      for_over (desig_over d) range counter limit by (h.stmts body) (h.for (a_loop d range counter limit from to by body))

  some_again_over : (l : Loop) → Over (turn_some p input b l) (turn_some p input c l)
  some_again_over (a_loop d range counter limit from to by body) =
      some_over (desig_over d) range counter limit (h.stmts body) (h.some (a_loop d range counter limit from to by body))

  -- so a level that is extended lies below, level above for level above
  pub next_over : IsBelow (level_above p input b) (level_above p input c)
  next_over = record {
    stmts = stmts_over;
    stmt = stmt_over;
    test = test_over;
    expr = expr_over;
    arg = arg_over;
    desig = desig_over;
    sel = sel_over;
    routine = λ r s. stmts_over (body_with_lines (routine_at p r)) s;
    while = λ t x s. while_over (h.test t) (h.stmts x) (h.while t x) s;
    repeat = λ x t s. repeat_over (stmts_over x) (test_over t) (h.repeat x t) s;
    for = for_again_over;
    some = some_again_over;
  }

-- each phrase at a level is extended by itself at the next
pub phrases_rise : (p : Program) (input : List ℕ) (n : ℕ) → IsBelow (level p input n) (level p input (suc n))
phrases_rise p input zero = record {
  stmts = λ x s. at_cut;
  stmt = λ x s. at_cut;
  test = λ t s. at_cut;
  expr = λ e s. at_cut;
  arg = λ a s. at_cut;
  desig = λ d s. at_cut;
  sel = λ x q s. at_cut;
  routine = λ r s. at_cut;
  while = λ t x s. at_cut;
  repeat = λ x t s. at_cut;
  for = λ l s. at_cut;
  some = λ l s. at_cut;
}
phrases_rise p input (suc n) = next_over p input (level p input n) (level p input (suc n)) (phrases_rise p input n)

-- and the program is the node of its routine 0
program_rises : (p : Program) (input : List ℕ) (n : ℕ) → Extends NoYield (ev_program n p input) (ev_program (suc n) p input)
program_rises p input zero = at_cut
program_rises p input (suc n) = noded ((phrases_rise p input (suc n)).routine 0 (start p))

-- both together
pub levels_rise : (p : Program) (input : List ℕ) → LevelsRise p input
levels_rise p input = record { phrases = phrases_rise p input; program = program_rises p input }
