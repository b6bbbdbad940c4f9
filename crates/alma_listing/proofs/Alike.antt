-- Statements that call shared procedures alone mean the same in two programs; each alternative keeps
-- the frames that live, and goes on where no RETURN stands in them.
use Rattle.std.proofs.Common.{◌≡◌, ℕ, zero, suc, ◌+◌, ◌<◌, List, [], ◌∷◌, ◌++◌, length, refl, sym, ap, ◌∙◌, subst, arith}
use Rattle.std.specs.Prelude.{true, false, ℤ, pos, nat_lt, nat_le, sum_by}
use Rattle.std.specs.List.{AllByRecursion}
use Rattle.std.proofs.lemmas.List.{length-append}
use Rattle.alma_base.specs.Numbers.{is_zero, bit}
use Rattle.alma_base.specs.declared.fault.RunFault.TheVariants as fault
use Rattle.alma_ir.specs.Tree.{Stmts, Stmt, Arms, CaseArms, Else, Branches, Loop, ReturnExpr, Test, Tests, Expr, Links, Args, Arg, Desig}
use Rattle.alma_ir.specs.Tree.{Sels, Sel, Program, Routine, routine_at, no_stmts, more_stmts, TestStmt, Assign, CopyCells, If, While}
use Rattle.alma_ir.specs.Tree.{Repeat, ForTo, SomeOf, Case, Either, Forall, Commit, Return, Read, WriteExpr, WriteText, WriteLine, no_arms}
use Rattle.alma_ir.specs.Tree.{more_arms, no_cases, more_cases, no_else, else_part, no_branches, more_branches, a_loop, no_result}
use Rattle.alma_ir.specs.Tree.{some_result, Value, Bind, Unify, SameCells, Seq, And, Or, Not, CallTest, no_tests, more_tests, Const, Load}
use Rattle.alma_ir.specs.Tree.{Chain, Compare, Truth, Known, Chr, CallExpr, no_links, more_links, no_args, more_args, ByValue, ByCells}
use Rattle.alma_ir.specs.Tree.{ByPlace, MixValue, MixPlace, a_desig, no_sels, more_sels, Field, Index}
use Rattle.alma_ir.specs.Lines.{body_with_lines}
use Rattle.alma_ir.specs.Phrases.{Phrase, stmts_phrases, stmt_phrases, arms_phrases, cases_phrases, else_phrases, branches_phrases}
use Rattle.alma_ir.specs.Phrases.{loop_phrases, return_phrases, test_phrases, tests_phrases, expr_phrases, links_phrases, args_phrases}
use Rattle.alma_ir.specs.Phrases.{arg_phrases, desig_phrases, sels_phrases, sel_phrases}
use Rattle.alma_ir.specs.Checked.{IsNoReturn, CalleeExists}
use Rattle.alma_ir.proofs.Each.{each_of_front, each_of_back}
use Rattle.alma_mean.specs.Store.{Store, Frame, Place, Number, top_frame, cell_of, part}
use Rattle.alma_mean.specs.Events.{Events, NoYield}
use Rattle.alma_mean.specs.Rows.{ArgValue, ArgNumber, ArgMix, ArgPlace, ArgCells, enter, frame_of, declared_cells, as_value, known_bit}
use Rattle.alma_mean.specs.Rows.{return_within}
use Rattle.alma_mean.specs.Meaning.{Level, level, level_above, ev_stmts, ev_stmt, ev_arms, ev_cases, ev_else, ev_branches, ev_for, ev_some}
use Rattle.alma_mean.specs.Meaning.{ev_return, ev_test, ev_and, ev_or, ev_expr, ev_links, ev_args, ev_arg, ev_desig, ev_sels, ev_sel}
use Rattle.alma_mean.specs.Meaning.{turn_for, turn_some, ev_routine}
use Rattle.alma_mean.specs.Arithmetic.{fault_unless, compares}
use Rattle.alma_listing.specs.Alike.{Alike, on_visit, on_print, on_alt, at_fail, at_fault, at_cut, HaveSame, MeanTheSame}
use Rattle.alma_listing.proofs.AlikeLists.{leaf, under, joined, bound, visited, lined, noded, first_taken, checked, chosen, read, labelled}
use Rattle.alma_listing.proofs.AlikeLists.{gone_through, left, value_given}
use Rattle.alma_listing.proofs.AlikeRows.{Both, rooted, indexed, ranged, put_leaf, cell_bound, unified, matched, copied, applied, signed}
use Rattle.alma_listing.proofs.AlikeRows.{read_in, while_alike, repeat_alike, for_alike, some_alike, begun, answered}

-- nothing is asked of how an alternative of an expression goes on: each does
abbrev Any : Type 0
Any = Unit {0}

-- no RETURN stands among the phrases
abbrev Plain : List Phrase → Type 0
Plain xs = AllByRecursion IsNoReturn xs

module _ (shared : Program) where
  -- the calls among the phrases are of shared procedures
  abbrev Calls : List Phrase → Type 0
  Calls xs = AllByRecursion (λ x. CalleeExists shared x) xs

  cf : (xs ys : List Phrase) → Calls (xs ++ ys) → Calls xs
  cf xs ys h = each_of_front (λ x. CalleeExists shared x) xs ys h

  cb : (xs ys : List Phrase) → Calls (xs ++ ys) → Calls ys
  cb xs ys h = each_of_back (λ x. CalleeExists shared x) xs ys h

  rf : (xs ys : List Phrase) → Plain (xs ++ ys) → Plain xs
  rf xs ys h = each_of_front IsNoReturn xs ys h

  rb : (xs ys : List Phrase) → Plain (xs ++ ys) → Plain ys
  rb xs ys h = each_of_back IsNoReturn xs ys h

  -- two levels at which phrases mean the same
  record AreAlike (b c : Level) : Type 0 where
    stmts : (x : Stmts) (n : ℕ) (s : Store) → length s ≡ n → Calls (stmts_phrases x) → Alike NoYield n (Plain (stmts_phrases x))
        (b.stmts x s) (c.stmts x s)
    test : (t : Test) (n : ℕ) (s : Store) → length s ≡ n → Calls (test_phrases t) → Alike NoYield n (Plain (test_phrases t)) (b.test t s)
        (c.test t s)
    while : (t : Test) (x : Stmts) (n : ℕ) (s : Store) → length s ≡ n → Calls (test_phrases t) → Calls (stmts_phrases x) →
        Alike NoYield n (Plain (stmts_phrases x)) (b.while t x s) (c.while t x s)
    repeat : (x : Stmts) (t : Test) (n : ℕ) (s : Store) → length s ≡ n → Calls (stmts_phrases x) → Calls (test_phrases t) →
        Alike NoYield n (Plain (stmts_phrases x)) (b.repeat x t s) (c.repeat x t s)
    for : (l : Loop) (n : ℕ) (s : Store) → length s ≡ n → Calls (loop_phrases l) → Alike NoYield n (Plain (loop_phrases l)) (b.for l s)
        (c.for l s)
    some : (l : Loop) (n : ℕ) (s : Store) → length s ≡ n → Calls (loop_phrases l) → Alike NoYield n (Plain (loop_phrases l)) (b.some l s)
        (c.some l s)
    routine : (r n : ℕ) (s : Store) → length s ≡ n → 0 < r → r < length shared.routines → Alike NoYield n ⊥ (b.routine r s) (c.routine r s)

module _ (p q : Program) (same : HaveSame p q) where
  declared_same : (s : Store) → declared_cells q s ≡ declared_cells p s
  declared_same s = ap (λ f. sum_by f s) (λ i f. (same.declared f.routine) i)

  module _ (input : List ℕ) (b c : Level) (h : AreAlike p b c) where
    -- the body of a call
    entered : (r links n : ℕ) (s : Store) (hs : List ArgValue) → length s ≡ n → 0 < r → r < length p.routines →
        Alike NoYield (suc n) ⊥ (enter q (b.routine r) r links s hs) (enter p (c.routine r) r links s hs)
    entered r links n s hs l low high =
        let one_routine : routine_at q r ≡ routine_at p r = same.procedures r low high in
        let new : Frame = frame_of s r links (routine_at p r) hs in
        let long : length (s ++ new ∷ []) ≡ suc n = length-append s (new ∷ []) ∙ omega (arith, l) in
        let entry : ℕ → Routine → Events NoYield =
        λ d routine. fault_unless fault.DepthFull (nat_lt (length s) 10000) (λ _.
        fault_unless fault.CellsFull (nat_le (d + routine.declared) 1048576) (λ _. b.routine r (s ++ frame_of s r links routine hs ∷ [])))
        in
        let here : Alike NoYield (suc n) ⊥ (entry (declared_cells p s) (routine_at p r)) (enter p (c.routine r) r links s hs) =
        checked fault.DepthFull (nat_lt (length s) 10000) (λ _.
        checked fault.CellsFull (nat_le (declared_cells p s + (routine_at p r).declared) 1048576) (λ _.
        h.routine r (suc n) (s ++ new ∷ []) long low high)) in
        let same_entry : entry (declared_cells p s) (routine_at p r) ≡ entry (declared_cells q s) (routine_at q r) =
        ap (λ d. entry d (routine_at p r)) (sym (declared_same s)) ∙ ap (entry (declared_cells q s)) (sym one_routine) in
        subst (λ e. Alike NoYield (suc n) ⊥ e (enter p (c.routine r) r links s hs)) same_entry here

    valued : (line n : ℕ) {e e2 : Events NoYield} → Alike NoYield (suc n) ⊥ e e2 → Alike ℤ n Any (as_value line e) (as_value line e2)
    valued line n (on_visit k) = on_visit (valued line n k)
    valued line n (on_print k) = on_print (valued line n k)
    valued line n (on_alt {s = s} {w = w} l g k) = value_given line s w l
    valued line n at_fail = at_fail
    valued line n at_fault = at_fault
    valued line n at_cut = at_cut

    mutual
      unfolding ev_stmts stmts_phrases

      stmts_alike : (x : Stmts) (n : ℕ) (s : Store) → length s ≡ n → Calls p (stmts_phrases x) → Alike NoYield n (Plain (stmts_phrases x))
          (ev_stmts q input b x s) (ev_stmts p input c x s)
      stmts_alike no_stmts n s l k = leaf s tt l
      stmts_alike (more_stmts line x rest) n s l k =
          bound (lined line (stmt_alike x n s l (cf p (stmt_phrases x) (stmts_phrases rest) k)))
          (λ g. rf p (stmt_phrases x) (stmts_phrases rest) g)
          (λ t _ lt. under (λ g. rb p (stmt_phrases x) (stmts_phrases rest) g)
          (stmts_alike rest n t lt (cb p (stmt_phrases x) (stmts_phrases rest) k)))

      stmt_alike : (x : Stmt) (n : ℕ) (s : Store) → length s ≡ n → Calls p (stmt_phrases x) → Alike NoYield n (Plain (stmt_phrases x))
          (ev_stmt q input b x s) (ev_stmt p input c x s)
      stmt_alike (TestStmt t) n s l k = noded (under (λ g. g.1) (test_alike t n s l k.1))
      stmt_alike (Assign d e range) n s l k =
          noded (bound (desig_alike d n s l (cf p (desig_phrases d) (expr_phrases e) k.1)) (λ g. tt) (λ t y lt.
          bound (expr_alike e n t lt (cb p (desig_phrases d) (expr_phrases e) k.1)) (λ g. tt)
          (λ u v lu. ranged range v (λ _. put_leaf u y (Number v) lu))))
      stmt_alike (CopyCells d e) n s l k =
          noded (bound (desig_alike d n s l (cf p (desig_phrases d) (desig_phrases e) k.1)) (λ g. tt) (λ t y lt.
          bound (desig_alike e n t lt (cb p (desig_phrases d) (desig_phrases e) k.1)) (λ g. tt) (λ u z lu. copied u y z lu)))
      stmt_alike (If arms rest) n s l k =
          noded (under (λ g. (rf p (arms_phrases arms) (stmts_phrases rest) g.1, rb p (arms_phrases arms) (stmts_phrases rest) g.1))
          (arms_alike arms n s l (cf p (arms_phrases arms) (stmts_phrases rest) k.1) (stmts_phrases rest)
          (λ t lt. stmts_alike rest n t lt (cb p (arms_phrases arms) (stmts_phrases rest) k.1))))
      stmt_alike (While t body) n s l k =
          let ct = cf p (test_phrases t) (stmts_phrases body) k.1 in
          let cx = cb p (test_phrases t) (stmts_phrases body) k.1 in
          noded (under (λ g. rb p (test_phrases t) (stmts_phrases body) g.1)
          (while_alike (λ u lu. h.test t n u lu ct) (λ u lu. h.stmts body n u lu cx) (λ u lu. h.while t body n u lu ct cx) s l))
      stmt_alike (Repeat body t) n s l k =
          let cx = cf p (stmts_phrases body) (test_phrases t) k.1 in
          let ct = cb p (stmts_phrases body) (test_phrases t) k.1 in
          noded (under (λ g. rf p (stmts_phrases body) (test_phrases t) g.1)
          (repeat_alike (λ u lu. stmts_alike body n u lu cx) (λ u lu. test_alike t n u lu ct) (λ u lu. h.repeat body t n u lu cx ct) s
          l))
      stmt_alike (ForTo x) n s l k = noded (under (λ g. g.1) (for_stmt_alike x n s l k.1))
      stmt_alike (SomeOf x) n s l k = noded (under (λ g. g.1) (some_stmt_alike x n s l k.1))
      stmt_alike (Case e arms rest) n s l k =
          let front = expr_phrases e ++ cases_phrases arms in
          let ck = cf p front (else_phrases rest) k.1 in
          noded (bound (expr_alike e n s l (cf p (expr_phrases e) (cases_phrases arms) ck)) (λ g. tt) (λ t v lt.
          under (λ g. (rb p (expr_phrases e) (cases_phrases arms) (rf p front (else_phrases rest) g.1), rb p front (else_phrases rest) g.1))
          (cases_alike arms v n t lt (cb p (expr_phrases e) (cases_phrases arms) ck) (else_phrases rest)
          (λ u lu. else_alike rest n u lu (cb p front (else_phrases rest) k.1)))))
      stmt_alike (Either branches) n s l k = noded (under (λ g. g.1) (branches_alike branches n s l k.1))
      stmt_alike (Forall x y) n s l k =
          let cx = cf p (stmts_phrases x) (stmts_phrases y) k.1 in
          let cy = cb p (stmts_phrases x) (stmts_phrases y) k.1 in
          noded (gone_through (λ t lt. stmts_alike y n t lt cy) s l [] (stmts_alike x n s l cx))
      stmt_alike (Commit x) n s l k = noded (first_taken (stmts_alike x n s l k.1) (λ t _ lt. leaf t tt lt) (λ _. at_fail))
      stmt_alike (Return e) n s l k = noded (under (λ g. g.0) (return_alike e n s l k.1))
      stmt_alike (Read d how range) n s l k = noded (bound (desig_alike d n s l k.1) (λ g. tt) (λ t y lt. read_in input how t y range lt))
      stmt_alike (WriteExpr e how) n s l k = noded (bound (expr_alike e n s l k.1) (λ g. tt) (λ t v lt. on_print (leaf t tt lt)))
      stmt_alike (WriteText text) n s l k = noded (on_print (leaf s tt l))
      stmt_alike WriteLine n s l k = noded (on_print (leaf s tt l))

      -- the condition and the body of each arm, and what follows them all
      arms_alike : (x : Arms) (n : ℕ) (s : Store) → length s ≡ n → Calls p (arms_phrases x) →
          (ys : List Phrase) {z z2 : Store → Events NoYield} → Both NoYield n (Plain ys) z z2 →
          Alike NoYield n (Plain (arms_phrases x) × Plain ys) (ev_arms q input b x s z) (ev_arms p input c x s z2)
      arms_alike no_arms n s l k ys z = under (λ g. g.1) (z s l)
      arms_alike (more_arms t body rest) n s l k ys z =
          let front = test_phrases t ++ stmts_phrases body in
          let ck = cf p front (arms_phrases rest) k in
          on_visit (first_taken (test_alike t n s l (cf p (test_phrases t) (stmts_phrases body) ck))
          (λ u _ lu. visited (under (λ g. rb p (test_phrases t) (stmts_phrases body) (rf p front (arms_phrases rest) g.0))
          (stmts_alike body n u lu (cb p (test_phrases t) (stmts_phrases body) ck))))
          (λ _. under (λ g. (rb p front (arms_phrases rest) g.0, g.1)) (arms_alike rest n s l (cb p front (arms_phrases rest) k) ys z)))

      cases_alike : (x : CaseArms) (v : ℤ) (n : ℕ) (s : Store) → length s ≡ n → Calls p (cases_phrases x) →
          (ys : List Phrase) {z z2 : Store → Events NoYield} → Both NoYield n (Plain ys) z z2 →
          Alike NoYield n (Plain (cases_phrases x) × Plain ys) (ev_cases q input b x v s z) (ev_cases p input c x v s z2)
      cases_alike no_cases v n s l k ys z = under (λ g. g.1) (z s l)
      cases_alike (more_cases labels body rest) v n s l k ys z =
          labelled labels v (λ _. noded
          (under (λ g. rf p (stmts_phrases body) (cases_phrases rest) g.0)
          (stmts_alike body n s l (cf p (stmts_phrases body) (cases_phrases rest) k))))
          (λ _. under (λ g. (rb p (stmts_phrases body) (cases_phrases rest) g.0, g.1))
          (cases_alike rest v n s l (cb p (stmts_phrases body) (cases_phrases rest) k) ys z))

      else_alike : (x : Else) (n : ℕ) (s : Store) → length s ≡ n → Calls p (else_phrases x) → Alike NoYield n (Plain (else_phrases x))
          (ev_else q input b x s) (ev_else p input c x s)
      else_alike no_else n s l k = at_fault
      else_alike (else_part body) n s l k = stmts_alike body n s l k

      branches_alike : (x : Branches) (n : ℕ) (s : Store) → length s ≡ n → Calls p (branches_phrases x) →
          Alike NoYield n (Plain (branches_phrases x)) (ev_branches q input b x s) (ev_branches p input c x s)
      branches_alike no_branches n s l k = at_fail
      branches_alike (more_branches body rest) n s l k =
          joined (noded (under (λ g. rf p (stmts_phrases body) (branches_phrases rest) g)
          (stmts_alike body n s l (cf p (stmts_phrases body) (branches_phrases rest) k))))
          (under (λ g. rb p (stmts_phrases body) (branches_phrases rest) g)
          (branches_alike rest n s l (cb p (stmts_phrases body) (branches_phrases rest) k)))

      for_stmt_alike : (x : Loop) (n : ℕ) (s : Store) → length s ≡ n → Calls p (loop_phrases x) → Alike NoYield n (Plain (loop_phrases x))
          (ev_for q input b x s) (ev_for p input c x s)
      for_stmt_alike (a_loop d range counter limit from to by body) n s l k =
          let f2 = desig_phrases d ++ expr_phrases from in
          let f3 = f2 ++ expr_phrases to in
          let k3 = cf p f3 (stmts_phrases body) k in
          let k2 = cf p f2 (expr_phrases to) k3 in
          bound (expr_alike from n s l (cb p (desig_phrases d) (expr_phrases from) k2)) (λ g. tt) (λ t v lt.
          bound (expr_alike to n t lt (cb p f2 (expr_phrases to) k3)) (λ g. tt) (λ u m lu.
          begun counter limit by v m u lu
          (for_alike (λ w lw. desig_alike d n w lw (cf p (desig_phrases d) (expr_phrases from) k2)) range counter limit by
          (λ w lw. under (λ g. rb p f3 (stmts_phrases body) g) (h.stmts body n w lw (cb p f3 (stmts_phrases body) k)))
          (λ w lw. h.for (a_loop d range counter limit from to by body) n w lw k))
          (λ w lw. leaf w tt lw)))

      some_stmt_alike : (x : Loop) (n : ℕ) (s : Store) → length s ≡ n → Calls p (loop_phrases x) →
          Alike NoYield n (Plain (loop_phrases x)) (ev_some q input b x s) (ev_some p input c x s)
      some_stmt_alike (a_loop d range counter limit from to by body) n s l k =
          let f2 = desig_phrases d ++ expr_phrases from in
          let f3 = f2 ++ expr_phrases to in
          let k3 = cf p f3 (stmts_phrases body) k in
          let k2 = cf p f2 (expr_phrases to) k3 in
          bound (expr_alike from n s l (cb p (desig_phrases d) (expr_phrases from) k2)) (λ g. tt) (λ t v lt.
          bound (expr_alike to n t lt (cb p f2 (expr_phrases to) k3)) (λ g. tt) (λ u m lu.
          begun counter limit (pos 1) v m u lu
          (some_alike (λ w lw. desig_alike d n w lw (cf p (desig_phrases d) (expr_phrases from) k2)) range counter limit
          (λ w lw. under (λ g. rb p f3 (stmts_phrases body) g) (h.stmts body n w lw (cb p f3 (stmts_phrases body) k)))
          (λ w lw. h.some (a_loop d range counter limit from to by body) n w lw k))
          (λ w lw. at_fail)))

      -- a RETURN does not go on
      return_alike : (x : ReturnExpr) (n : ℕ) (s : Store) → length s ≡ n → Calls p (return_phrases x) →
          Alike NoYield n ⊥ (ev_return q input b x s) (ev_return p input c x s)
      return_alike no_result n s l k = on_alt l (λ g. g) at_fail
      return_alike (some_result e) n s l k =
          bound (expr_alike e n s l k) (λ g. tt) (λ t v lt.
          subst (λ res. Alike NoYield n ⊥ (return_within res t v) (return_within (routine_at p (top_frame t).routine).result t v))
          (sym (same.results (top_frame t).routine))
          (answered (routine_at p (top_frame t).routine).result t v lt (λ g. g)))

      test_alike : (x : Test) (n : ℕ) (s : Store) → length s ≡ n → Calls p (test_phrases x) → Alike NoYield n (Plain (test_phrases x))
          (ev_test q input b x s) (ev_test p input c x s)
      test_alike (Value e) n s l k =
          noded (bound (expr_alike e n s l k.1) (λ g. tt) (λ t v lt. chosen (is_zero v) (λ _. at_fail) (λ _. leaf t tt lt)))
      test_alike (Bind d e range true) n s l k =
          noded (bound (desig_alike d n s l (cf p (desig_phrases d) (expr_phrases e) k.1)) (λ g. tt) (λ t y lt.
          bound (expr_alike e n t lt (cb p (desig_phrases d) (expr_phrases e) k.1)) (λ g. tt)
          (λ u v lu. cell_bound u y (cell_of u y) range v lu)))
      test_alike (Bind d e range false) n s l k =
          noded (bound (expr_alike e n s l (cb p (desig_phrases d) (expr_phrases e) k.1)) (λ g. tt) (λ t v lt.
          bound (desig_alike d n t lt (cf p (desig_phrases d) (expr_phrases e) k.1)) (λ g. tt)
          (λ u y lu. cell_bound u y (cell_of u y) range v lu)))
      test_alike (Unify d range e range2) n s l k =
          noded (bound (desig_alike d n s l (cf p (desig_phrases d) (desig_phrases e) k.1)) (λ g. tt) (λ t y lt.
          bound (desig_alike e n t lt (cb p (desig_phrases d) (desig_phrases e) k.1)) (λ g. tt)
          (λ u z lu. unified u y (cell_of u y) range z (cell_of u z) range2 lu)))
      test_alike (SameCells d e) n s l k =
          noded (bound (desig_alike d n s l (cf p (desig_phrases d) (desig_phrases e) k.1)) (λ g. tt) (λ t y lt.
          bound (desig_alike e n t lt (cb p (desig_phrases d) (desig_phrases e) k.1)) (λ g. tt) (λ u z lu. matched y.size u y z lu)))
      test_alike (Seq x) n s l k = noded (under (λ g. g.1) (stmts_alike x n s l k.1))
      test_alike (And ts) n s l k = noded (under (λ g. g.1) (and_alike ts n s l k.1))
      test_alike (Or ts) n s l k = noded (under (λ g. g.1) (or_alike ts n s l k.1))
      test_alike (Not t) n s l k = noded (first_taken (test_alike t n s l k.1) (λ u _ lu. at_fail) (λ _. leaf s tt l))
      test_alike (CallTest r args links) n s l k =
          noded (bound (args_alike args n s l k.1) (λ g. tt) (λ t taken lt. left (entered r links n t taken lt k.0.0 k.0.1)))

      and_alike : (x : Tests) (n : ℕ) (s : Store) → length s ≡ n → Calls p (tests_phrases x) → Alike NoYield n (Plain (tests_phrases x))
          (ev_and q input b x s) (ev_and p input c x s)
      and_alike no_tests n s l k = leaf s tt l
      and_alike (more_tests t rest) n s l k =
          bound (test_alike t n s l (cf p (test_phrases t) (tests_phrases rest) k)) (λ g. rf p (test_phrases t) (tests_phrases rest) g)
          (λ u _ lu. under (λ g. rb p (test_phrases t) (tests_phrases rest) g)
          (and_alike rest n u lu (cb p (test_phrases t) (tests_phrases rest) k)))

      or_alike : (x : Tests) (n : ℕ) (s : Store) → length s ≡ n → Calls p (tests_phrases x) → Alike NoYield n (Plain (tests_phrases x))
          (ev_or q input b x s) (ev_or p input c x s)
      or_alike no_tests n s l k = at_fail
      or_alike (more_tests t no_tests) n s l k = under (λ g. rf p (test_phrases t) [] g) (test_alike t n s l (cf p (test_phrases t) [] k))
      or_alike (more_tests t (more_tests t2 rest)) n s l k =
          let back = tests_phrases (more_tests t2 rest) in
          first_taken (test_alike t n s l (cf p (test_phrases t) back k)) (λ u _ lu. leaf u tt lu)
          (λ _. under (λ g. rb p (test_phrases t) back g) (or_alike (more_tests t2 rest) n s l (cb p (test_phrases t) back k)))

      expr_alike : (x : Expr) (n : ℕ) (s : Store) → length s ≡ n → Calls p (expr_phrases x) → Alike ℤ n Any (ev_expr q input b x s)
          (ev_expr p input c x s)
      expr_alike (Const v) n s l k = noded (leaf s v l)
      expr_alike (Load d) n s l k = noded (bound (desig_alike d n s l k.1) (λ g. tt) (λ t y lt. read (cell_of t y) (λ v. leaf t v lt)))
      expr_alike (Chain negated e links) n s l k =
          noded (bound (expr_alike e n s l (cf p (expr_phrases e) (links_phrases links) k.1)) (λ g. tt) (λ t v lt.
          bound {G1 = Any} (signed negated t v lt) (λ g. tt)
          (λ u m lu. links_alike links m n u lu (cb p (expr_phrases e) (links_phrases links) k.1))))
      expr_alike (Compare how x y) n s l k =
          noded (bound (expr_alike x n s l (cf p (expr_phrases x) (expr_phrases y) k.1)) (λ g. tt) (λ t v lt.
          bound (expr_alike y n t lt (cb p (expr_phrases x) (expr_phrases y) k.1)) (λ g. tt)
          (λ u m lu. leaf u (bit (compares how v m)) lu)))
      expr_alike (Truth t) n s l k = noded (first_taken (test_alike t n s l k.1) (λ u _ lu. leaf u (pos 1) lu) (λ _. leaf s (pos 0) l))
      expr_alike (Known d) n s l k = noded (bound (desig_alike d n s l k.1) (λ g. tt) (λ t y lt. leaf t (known_bit (cell_of t y)) lt))
      expr_alike (Chr e) n s l k =
          noded (bound (expr_alike e n s l k.1) (λ g. tt) (λ t v lt. ranged (record { low = pos 0; high = pos 255 }) v (λ _. leaf t v lt)))
      expr_alike (CallExpr r args links) n s l k =
          noded (bound (args_alike args n s l k.1) (λ g. tt) (λ t taken lt.
          subst (λ routine. Alike ℤ n Any (as_value routine.line (enter q (b.routine r) r links t taken))
          (as_value (routine_at p r).line (enter p (c.routine r) r links t taken)))
          (sym (same.procedures r k.0.0 k.0.1)) (valued (routine_at p r).line n (entered r links n t taken lt k.0.0 k.0.1))))

      links_alike : (x : Links) (v : ℤ) (n : ℕ) (s : Store) → length s ≡ n → Calls p (links_phrases x) →
          Alike ℤ n Any (ev_links q input b x v s) (ev_links p input c x v s)
      links_alike no_links v n s l k = leaf s v l
      links_alike (more_links how e rest) v n s l k =
          bound (expr_alike e n s l (cf p (expr_phrases e) (links_phrases rest) k)) (λ g. tt) (λ t m lt.
          bound {G1 = Any} (applied t how v m lt) (λ g. tt)
          (λ u w lu. links_alike rest w n u lu (cb p (expr_phrases e) (links_phrases rest) k)))

      args_alike : (x : Args) (n : ℕ) (s : Store) → length s ≡ n → Calls p (args_phrases x) → Alike (List ArgValue) n Any
          (ev_args q input b x s) (ev_args p input c x s)
      args_alike no_args n s l k = leaf s [] l
      args_alike (more_args a rest) n s l k =
          bound (arg_alike a n s l (cf p (arg_phrases a) (args_phrases rest) k)) (λ g. tt) (λ t y lt.
          bound (args_alike rest n t lt (cb p (arg_phrases a) (args_phrases rest) k)) (λ g. tt) (λ u hs lu. leaf u (y ∷ hs) lu))

      arg_alike : (x : Arg) (n : ℕ) (s : Store) → length s ≡ n → Calls p (arg_phrases x) → Alike ArgValue n Any (ev_arg q input b x s)
          (ev_arg p input c x s)
      arg_alike (ByValue e range) n s l k =
          noded (bound (expr_alike e n s l k.1) (λ g. tt) (λ t v lt. ranged range v (λ _. leaf t (ArgNumber v) lt)))
      arg_alike (ByCells d) n s l k = noded (bound (desig_alike d n s l k.1) (λ g. tt) (λ t y lt. leaf t (ArgCells y) lt))
      arg_alike (ByPlace d) n s l k = noded (bound (desig_alike d n s l k.1) (λ g. tt) (λ t y lt. leaf t (ArgPlace y) lt))
      arg_alike (MixValue e range) n s l k =
          noded (bound (expr_alike e n s l k.1) (λ g. tt) (λ t v lt. ranged range v (λ _. leaf t (ArgMix v) lt)))
      arg_alike (MixPlace d) n s l k = noded (bound (desig_alike d n s l k.1) (λ g. tt) (λ t y lt. leaf t (ArgPlace y) lt))

      desig_alike : (x : Desig) (n : ℕ) (s : Store) → length s ≡ n → Calls p (desig_phrases x) →
          Alike Place n Any (ev_desig q input b x s) (ev_desig p input c x s)
      desig_alike (a_desig root cells sels) n s l k =
          noded (bound {G1 = Any} (rooted s root cells l) (λ g. tt) (λ t y lt. sels_alike sels y n t lt k.1))

      sels_alike : (x : Sels) (y : Place) (n : ℕ) (s : Store) → length s ≡ n → Calls p (sels_phrases x) →
          Alike Place n Any (ev_sels q input b x y s) (ev_sels p input c x y s)
      sels_alike no_sels y n s l k = leaf s y l
      sels_alike (more_sels x rest) y n s l k =
          bound (sel_alike x y n s l (cf p (sel_phrases x) (sels_phrases rest) k)) (λ g. tt)
          (λ t z lt. sels_alike rest z n t lt (cb p (sel_phrases x) (sels_phrases rest) k))

      sel_alike : (x : Sel) (y : Place) (n : ℕ) (s : Store) → length s ≡ n → Calls p (sel_phrases x) →
          Alike Place n Any (ev_sel q input b x y s) (ev_sel p input c x y s)
      sel_alike (Field offset cells) y n s l k = noded (leaf s (part y offset cells) l)
      sel_alike (Index e range cells) y n s l k = noded (bound (expr_alike e n s l k.1) (λ g. tt) (λ t v lt. indexed t y v range cells lt))

    -- a turn of FOR that the level above begins
    for_turn_alike : (x : Loop) (n : ℕ) (s : Store) → length s ≡ n → Calls p (loop_phrases x) → Alike NoYield n (Plain (loop_phrases x))
        (turn_for q input b x s) (turn_for p input c x s)
    unfolding stmts_phrases
    for_turn_alike (a_loop d range counter limit from to by body) n s l k =
        let f2 = desig_phrases d ++ expr_phrases from in
        let f3 = f2 ++ expr_phrases to in
        let k3 = cf p f3 (stmts_phrases body) k in
        let k2 = cf p f2 (expr_phrases to) k3 in
        for_alike (λ w lw. desig_alike d n w lw (cf p (desig_phrases d) (expr_phrases from) k2)) range counter limit by
        (λ w lw. under (λ g. rb p f3 (stmts_phrases body) g) (h.stmts body n w lw (cb p f3 (stmts_phrases body) k)))
        (λ w lw. h.for (a_loop d range counter limit from to by body) n w lw k) s l

    some_turn_alike : (x : Loop) (n : ℕ) (s : Store) → length s ≡ n → Calls p (loop_phrases x) → Alike NoYield n (Plain (loop_phrases x))
        (turn_some q input b x s) (turn_some p input c x s)
    unfolding stmts_phrases
    some_turn_alike (a_loop d range counter limit from to by body) n s l k =
        let f2 = desig_phrases d ++ expr_phrases from in
        let f3 = f2 ++ expr_phrases to in
        let k3 = cf p f3 (stmts_phrases body) k in
        let k2 = cf p f2 (expr_phrases to) k3 in
        some_alike (λ w lw. desig_alike d n w lw (cf p (desig_phrases d) (expr_phrases from) k2)) range counter limit
        (λ w lw. under (λ g. rb p f3 (stmts_phrases body) g) (h.stmts body n w lw (cb p f3 (stmts_phrases body) k)))
        (λ w lw. h.some (a_loop d range counter limit from to by body) n w lw k) s l

    routine_alike : (r n : ℕ) (s : Store) → length s ≡ n → 0 < r → r < length p.routines → Alike NoYield n ⊥ (ev_routine q input b r s)
        (ev_routine p input c r s)
    routine_alike r n s l low high =
        subst (λ routine. Alike NoYield n ⊥ (ev_stmts q input b (body_with_lines routine) s)
        (ev_stmts p input c (body_with_lines (routine_at p r)) s)) (sym (same.procedures r low high))
        (under (λ g. absurd g) (stmts_alike (body_with_lines (routine_at p r)) n s l (same.calls r low high)))

    next_alike : AreAlike p (level_above q input b) (level_above p input c)
    next_alike = record {
      stmts = stmts_alike;
      test = test_alike;
      while =
          λ t x n s l ct cx. while_alike (λ u lu. h.test t n u lu ct) (λ u lu. h.stmts x n u lu cx) (λ u lu. h.while t x n u lu ct cx) s l;
      repeat =
          λ x t n s l cx ct. repeat_alike (λ u lu. stmts_alike x n u lu cx) (λ u lu. test_alike t n u lu ct)
          (λ u lu. h.repeat x t n u lu cx ct) s l;
      for = for_turn_alike;
      some = some_turn_alike;
      routine = routine_alike;
    }

  levels_alike : (input : List ℕ) (n : ℕ) → AreAlike p (level q input n) (level p input n)
  levels_alike input zero = record {
    stmts = λ x n s l k. at_cut;
    test = λ t n s l k. at_cut;
    while = λ t x n s l ct cx. at_cut;
    repeat = λ x t n s l cx ct. at_cut;
    for = λ x n s l k. at_cut;
    some = λ x n s l k. at_cut;
    routine = λ r n s l low high. at_cut;
  }
  levels_alike input (suc n) = next_alike input (level q input n) (level p input n) (levels_alike input n)

pub mean_the_same : (p q : Program) → MeanTheSame p q
mean_the_same p q same input n x s k = (levels_alike p q same input n).stmts x (length s) s refl k
