-- Operands and branches in a row: one more in front of others, of which there is one.
use Rattle.std.proofs.Common.{◌≡◌, ℕ, ◌+◌, ◌<◌, ◌≤◌, List, [], ◌∷◌, length, drop, get_or, subst, add-zero, arith}
use Rattle.alma_code.specs.declared.instr.Instr.TheVariants as I
use Rattle.alma_choice.specs.Emitted.{aim_jump}
use Rattle.alma_ir.specs.declared.phrase.Test as T
use Rattle.alma_ir.specs.declared.phrase.Branch.{Branch}
use Rattle.alma_ir.specs.declared.phrase.Arm.{Arm}
use Rattle.alma_ir.specs.Tree.{Test, Stmts, If, Or, Either, more_tests, more_branches}
use Rattle.alma_ir.specs.View.{test_of, stmts_list, arms_list, tests_list, branches_list}
use Rattle.alma_lower_work.specs.Front.{Around, Front, Codes, Changes}
use Rattle.alma_lower_work.specs.Puts.{PutsTest, PutsStmts, PutsStmt, PutsArms, PutsGuarded, PutsFirst, PutsOperands, PutsChosen}
use Rattle.alma_lower_work.specs.Puts.{PutsBranches}
use Rattle.alma_lower_parts.proofs.TestForms.{operands_put, or_put, no_or_put, one_or_put}
use Rattle.alma_lower_parts.proofs.StmtForms.{branches_put, either_put, no_either_put, one_either_put}
use Rattle.alma_lower_parts.proofs.IfForms.{if_put}
use Rattle.alma_lower_parts.proofs.IfForms as conditional
use Rattle.alma_lower_templates.specs.LineInstr.{own}

module _ (s : Around) (line : ℕ) where
  pub more_operands : (a b c d : Front) (exit : ℕ) (t : Test) (xs : List T.Test) → 0 < length xs → PutsFirst s line a b t
      → Codes b c (own line (I.Jump exit ∷ [])) → PutsOperands s line exit c d (tests_list xs)
      → PutsOperands s line exit a d (more_tests t (tests_list xs))
  more_operands a b c d exit t [] some h j k = absurd (omega (arith, some))
  more_operands a b c d exit t (x ∷ xs) some h j k = operands_put s line a b c d exit _ _ _ h j k

  pub some_or : (a b c d e : Front) (exit target : ℕ) (t : Test) (xs : List T.Test) → 0 < length xs → PutsFirst s line a b t
      → exit ≡ length b.code → Codes b c (own line (I.Jump 0 ∷ [])) → PutsOperands s line exit c d (tests_list xs)
      → Changes d e (λ xs. aim_jump xs exit target) → target ≡ length d.code → PutsTest s line a e (Or (more_tests t (tests_list xs)))
  some_or a b c d e exit target t [] some h here j k m is = absurd (omega (arith, some))
  some_or a b c d e exit target t (x ∷ xs) some h here j k m is = or_put s line a b c d e exit target _ _ _ h here j k m is

  pub more_chosen : (a b c d : Front) (exit : ℕ) (body : Stmts) (xs : List Branch) → 0 < length xs → PutsChosen s line a b body
      → Codes b c (own line (I.Jump exit ∷ [])) → PutsBranches s line exit c d (branches_list xs)
      → PutsBranches s line exit a d (more_branches body (branches_list xs))
  more_chosen a b c d exit body [] some h j k = absurd (omega (arith, some))
  more_chosen a b c d exit body (x ∷ xs) some h j k = branches_put s line a b c d exit _ _ _ h j k

  pub some_either : (a b c d e : Front) (exit target : ℕ) (body : Stmts) (xs : List Branch) → 0 < length xs → PutsChosen s line a b body
      → exit ≡ length b.code → Codes b c (own line (I.Jump 0 ∷ [])) → PutsBranches s line exit c d (branches_list xs)
      → Changes d e (λ xs. aim_jump xs exit target) → target ≡ length d.code
      → PutsStmt s line a e (Either (more_branches body (branches_list xs)))
  some_either a b c d e exit target body [] some h here j k m is = absurd (omega (arith, some))
  some_either a b c d e exit target body (x ∷ xs) some h here j k m is = either_put s line a b c d e exit target _ _ _ h here j k m is

  -- ---- whole lists, of which the first element is at hand

  pub chosen_is : (a b : Front) (x y : Stmts) → x ≡ y → PutsChosen s line a b x → PutsChosen s line a b y
  chosen_is a b x y e h = subst (λ z. PutsChosen s line a b z) e h

  pub guarded_is : (a b : Front) (t : Test) (x y : Stmts) → x ≡ y → PutsGuarded s line 1 a b t x → PutsGuarded s line 1 a b t y
  guarded_is a b t x y e h = subst (λ z. PutsGuarded s line 1 a b t z) e h

  pub either_none : (a b : Front) (xs : List Branch) → length xs ≡ 0 → Codes a b (own line (I.Fail ∷ []))
      → PutsStmt s line a b (Either (branches_list xs))
  either_none a b [] none h = no_either_put s line a b h
  either_none a b (x ∷ xs) none h = absurd (omega (arith, none))

  pub either_one : (a b : Front) (xs : List Branch) (x : Branch) → length xs ≡ 1 → x ≡ get_or xs 0 x
      → PutsStmts s a b (stmts_list x.body.items) → PutsStmt s line a b (Either (branches_list xs))
  either_one a b [] x one is h = absurd (omega (arith, one))
  either_one a b (y ∷ []) x one is h = one_either_put s line a b _ (subst (λ z. PutsStmts s a b (stmts_list z.body.items)) is h)
  either_one a b (y ∷ z ∷ ys) x one is h = absurd (omega (arith, one))

  pub either_of : (a b c d e : Front) (exit : ℕ) (xs : List Branch) (x : Branch) → 2 ≤ length xs → x ≡ get_or xs 0 x
      → PutsChosen s line a b (stmts_list x.body.items) → exit ≡ length b.code → Codes b c (own line (I.Jump 0 ∷ []))
      → PutsBranches s line exit c d (branches_list (drop 1 xs)) → Changes d e (λ xs. aim_jump xs exit (length d.code + 0))
      → PutsStmt s line a e (Either (branches_list xs))
  either_of a b c d e exit [] x two is h here j k m = absurd (omega (arith, two))
  either_of a b c d e exit (y ∷ ys) x two is h here j k m =
      some_either a b c d e exit _ _ ys (omega (arith, two)) (subst (λ z. PutsChosen s line a b (stmts_list z.body.items)) is h) here j k m
      (add-zero (length d.code))

  pub or_none : (a b : Front) (xs : List T.Test) → length xs ≡ 0 → Codes a b (own line (I.Fail ∷ []))
      → PutsTest s line a b (Or (tests_list xs))
  or_none a b [] none h = no_or_put s line a b h
  or_none a b (x ∷ xs) none h = absurd (omega (arith, none))

  pub or_one : (a b : Front) (xs : List T.Test) (x : T.Test) → length xs ≡ 1 → x ≡ get_or xs 0 x → PutsTest s line a b (test_of x)
      → PutsTest s line a b (Or (tests_list xs))
  or_one a b [] x one is h = absurd (omega (arith, one))
  or_one a b (y ∷ []) x one is h = one_or_put s line a b _ (subst (λ z. PutsTest s line a b (test_of z)) is h)
  or_one a b (y ∷ z ∷ ys) x one is h = absurd (omega (arith, one))

  pub or_of : (a b c d e : Front) (exit : ℕ) (xs : List T.Test) (x : T.Test) → 2 ≤ length xs → x ≡ get_or xs 0 x
      → PutsFirst s line a b (test_of x) → exit ≡ length b.code → Codes b c (own line (I.Jump 0 ∷ []))
      → PutsOperands s line exit c d (tests_list (drop 1 xs)) → Changes d e (λ xs. aim_jump xs exit (length d.code + 0))
      → PutsTest s line a e (Or (tests_list xs))
  or_of a b c d e exit [] x two is h here j k m = absurd (omega (arith, two))
  or_of a b c d e exit (y ∷ ys) x two is h here j k m =
      some_or a b c d e exit _ _ ys (omega (arith, two)) (subst (λ z. PutsFirst s line a b (test_of z)) is h) here j k m
      (add-zero (length d.code))

  pub if_none : (a b : Front) (xs : List Arm) (rest : Stmts) → length xs ≡ 0 → PutsStmts s a b rest
      → PutsStmt s line a b (If (arms_list xs) rest)
  if_none a b [] rest none h = conditional.else_put s line a b rest h
  if_none a b (x ∷ xs) rest none h = absurd (omega (arith, none))

  pub if_of : (a d e f g h : Front) (exit : ℕ) (xs : List Arm) (x : Arm) (rest : Stmts) → 0 < length xs → x ≡ get_or xs 0 x
      → PutsGuarded s line 1 a d (test_of x.cond) (stmts_list x.body.items) → exit ≡ length d.code
      → Codes d e (own line (I.Jump 0 ∷ [])) → PutsArms s line exit e f (arms_list (drop 1 xs)) → PutsStmts s f g rest
      → Changes g h (λ xs. aim_jump xs exit (length g.code + 0)) → PutsStmt s line a h (If (arms_list xs) rest)
  if_of a d e f g h exit [] x rest some is p here j k l m = absurd (omega (arith, some))
  if_of a d e f g h exit (y ∷ ys) x rest some is p here j k l m =
      if_put s line a d e f g h exit _ _ _ (arms_list ys) rest
      (subst (λ z. PutsGuarded s line 1 a d (test_of z.cond) (stmts_list z.body.items)) is p) here j k l m (add-zero (length g.code))
