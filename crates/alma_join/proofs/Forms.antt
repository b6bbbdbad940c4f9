-- Conditions that speak of a phrase alone hold of the phrase numbered anew.
use Rattle.std.proofs.Common.{◌≡◌, ℕ, List, [], ◌∷◌, ◌++◌, map, refl, sym, ap, ◌∙◌, subst, arith}
use Rattle.std.specs.Prelude.{suc, IsNone, IsSome, sum_by}
use Rattle.std.specs.List.{AllByRecursion}
use Rattle.std.proofs.lemmas.List.Sums.{sum_by-cons}
use Rattle.alma_ir.specs.Tree.{Stmts, CaseArms, Loop, Desig, Sels, Sel, TestStmt, Assign, CopyCells, If, While, Repeat, ForTo, SomeOf, Case}
use Rattle.alma_ir.specs.Tree.{Either, Forall, Commit, Return, Read, WriteExpr, WriteText, WriteLine, no_cases, more_cases, no_branches}
use Rattle.alma_ir.specs.Tree.{more_branches, a_loop, no_result, some_result, Value, Bind, Unify, SameCells, Seq, And, Or, Not, CallTest}
use Rattle.alma_ir.specs.Tree.{no_tests, more_tests, Const, Load, Chain, Compare, Truth, Known, Chr, CallExpr, ByValue, ByCells, ByPlace}
use Rattle.alma_ir.specs.Tree.{MixValue, MixPlace, a_desig, no_sels, more_sels, Field, Index}
use Rattle.alma_ir.specs.Tree.{Routine}
use Rattle.alma_ir.specs.Phrases.{Phrase, StmtPhrase, TestPhrase, ExprPhrase, ArgPhrase, DesigPhrase, SelPhrase, stmts_phrases}
use Rattle.alma_ir.specs.Lines.{stmt_count}
use Rattle.alma_ir.specs.Checked.{loops_of, sel_cells, cells_after, desig_cells, IsPart, ArePartsOf, PartsExist, CellsAgree, labels_of}
use Rattle.alma_ir.specs.Checked.{ranges_of, IsOrdered, RangesOrdered, HasStep, HasChoice, ReturnAgrees, IsNoReturn, HaveNoReturn}
use Rattle.alma_ir.specs.Checked.{ReturnsStay, text_bytes}
use Rattle.alma_ir.proofs.Each.{each_follows}
use Rattle.alma_copy.specs.Moved.{Moves, moved_stmts, moved_cases, moved_loop, moved_desig, moved_sels, moved_sel}
use Rattle.alma_join.proofs.Moving.{moved_phrase, stmts_moved}

-- a fact of each element, of the elements of another list
pub each_of_map : {X Y : Type 0} (P : Y → Type 0) (f : X → Y) (xs : List X) → AllByRecursion (λ x. P (f x)) xs → AllByRecursion P (map f xs)
each_of_map P f [] h = tt
each_of_map P f (x ∷ xs) h = (h.0, each_of_map P f xs h.1)

module _ (m : Moves) where
  -- ---- cells

  sel_stays : (x : Sel) → sel_cells (moved_sel m x) ≡ sel_cells x
  unfolding moved_stmts
  sel_stays (Field offset cells) = refl
  sel_stays (Index e range cells) = refl

  cells_stay : (x : Sels) (cells : ℕ) → cells_after (moved_sels m x) cells ≡ cells_after x cells
  unfolding moved_stmts
  cells_stay no_sels cells = refl
  cells_stay (more_sels x rest) cells = cells_stay rest (sel_cells (moved_sel m x)) ∙ ap (cells_after rest) (sel_stays x)

  pub desig_stays : (d : Desig) → desig_cells (moved_desig m d) ≡ desig_cells d
  unfolding moved_stmts
  desig_stays (a_desig at cells sels) = cells_stay sels cells

  part_stays : (x : Sel) (cells : ℕ) → IsPart x cells → IsPart (moved_sel m x) cells
  unfolding moved_stmts
  part_stays (Field offset part) cells h = h
  part_stays (Index e range part) cells h = h

  parts_stay : (x : Sels) (cells : ℕ) → ArePartsOf x cells → ArePartsOf (moved_sels m x) cells
  unfolding moved_stmts
  parts_stay no_sels cells h = tt
  parts_stay (more_sels x rest) cells h =
      (part_stays x cells h.0, subst (ArePartsOf (moved_sels m rest)) (sym (sel_stays x)) (parts_stay rest (sel_cells x) h.1))

  pub parts_moved : (x : Phrase) → PartsExist x → PartsExist (moved_phrase m x)
  unfolding moved_stmts
  parts_moved (StmtPhrase x) h = tt
  parts_moved (TestPhrase x) h = tt
  parts_moved (ExprPhrase x) h = tt
  parts_moved (ArgPhrase x) h = tt
  parts_moved (DesigPhrase (a_desig at cells sels)) h = parts_stay sels cells h
  parts_moved (SelPhrase x) h = tt

  -- a variable whose cells are told
  one_cell : (d : Desig) (n : ℕ) → desig_cells d ≡ n → desig_cells (moved_desig m d) ≡ n
  one_cell d n h = desig_stays d ∙ h

  same_cells : (d e : Desig) → desig_cells d ≡ desig_cells e → desig_cells (moved_desig m d) ≡ desig_cells (moved_desig m e)
  same_cells d e h = desig_stays d ∙ h ∙ sym (desig_stays e)

  pub cells_moved : (x : Phrase) → CellsAgree x → CellsAgree (moved_phrase m x)
  unfolding moved_stmts
  cells_moved (StmtPhrase (TestStmt t)) h = tt
  cells_moved (StmtPhrase (Assign d e range)) h = one_cell d 1 h
  cells_moved (StmtPhrase (CopyCells d e)) h = same_cells d e h
  cells_moved (StmtPhrase (If arms rest)) h = tt
  cells_moved (StmtPhrase (While t body)) h = tt
  cells_moved (StmtPhrase (Repeat body t)) h = tt
  cells_moved (StmtPhrase (ForTo (a_loop d range counter limit from to by body))) h = one_cell d 1 h
  cells_moved (StmtPhrase (SomeOf (a_loop d range counter limit from to by body))) h = one_cell d 1 h
  cells_moved (StmtPhrase (Case e arms rest)) h = tt
  cells_moved (StmtPhrase (Either no_branches)) h = tt
  cells_moved (StmtPhrase (Either (more_branches body rest))) h = tt
  cells_moved (StmtPhrase (Forall x y)) h = tt
  cells_moved (StmtPhrase (Commit x)) h = tt
  cells_moved (StmtPhrase (Return no_result)) h = tt
  cells_moved (StmtPhrase (Return (some_result e))) h = tt
  cells_moved (StmtPhrase (Read d how range)) h = one_cell d 1 h
  cells_moved (StmtPhrase (WriteExpr e how)) h = tt
  cells_moved (StmtPhrase (WriteText text)) h = tt
  cells_moved (StmtPhrase WriteLine) h = tt
  cells_moved (TestPhrase (Value e)) h = tt
  cells_moved (TestPhrase (Bind d e range left)) h = one_cell d 1 h
  cells_moved (TestPhrase (Unify d range e range2)) h = (one_cell d 1 h.0, one_cell e 1 h.1)
  cells_moved (TestPhrase (SameCells d e)) h = same_cells d e h
  cells_moved (TestPhrase (Seq x)) h = tt
  cells_moved (TestPhrase (And ts)) h = tt
  cells_moved (TestPhrase (Or no_tests)) h = tt
  cells_moved (TestPhrase (Or (more_tests t ts))) h = tt
  cells_moved (TestPhrase (Not t)) h = tt
  cells_moved (TestPhrase (CallTest c args up)) h = tt
  cells_moved (ExprPhrase (Const v)) h = tt
  cells_moved (ExprPhrase (Load d)) h = one_cell d 1 h
  cells_moved (ExprPhrase (Chain negated e links)) h = tt
  cells_moved (ExprPhrase (Compare how x y)) h = tt
  cells_moved (ExprPhrase (Truth t)) h = tt
  cells_moved (ExprPhrase (Known d)) h = one_cell d 1 h
  cells_moved (ExprPhrase (Chr e)) h = tt
  cells_moved (ExprPhrase (CallExpr c args up)) h = tt
  cells_moved (ArgPhrase x) h = tt
  cells_moved (DesigPhrase d) h = tt
  cells_moved (SelPhrase x) h = tt

  -- ---- ranges and steps

  labels_stay : (x : CaseArms) → labels_of (moved_cases m x) ≡ labels_of x
  unfolding moved_stmts
  labels_stay no_cases = refl
  labels_stay (more_cases labels body rest) = ap (λ r. labels ++ r) (labels_stay rest)

  ranges_stay : (x : Phrase) → ranges_of (moved_phrase m x) ≡ ranges_of x
  unfolding moved_stmts
  ranges_stay (StmtPhrase (TestStmt t)) = refl
  ranges_stay (StmtPhrase (Assign d e range)) = refl
  ranges_stay (StmtPhrase (CopyCells d e)) = refl
  ranges_stay (StmtPhrase (If arms rest)) = refl
  ranges_stay (StmtPhrase (While t body)) = refl
  ranges_stay (StmtPhrase (Repeat body t)) = refl
  ranges_stay (StmtPhrase (ForTo (a_loop d range counter limit from to by body))) = refl
  ranges_stay (StmtPhrase (SomeOf (a_loop d range counter limit from to by body))) = refl
  ranges_stay (StmtPhrase (Case e arms rest)) = labels_stay arms
  ranges_stay (StmtPhrase (Either no_branches)) = refl
  ranges_stay (StmtPhrase (Either (more_branches body rest))) = refl
  ranges_stay (StmtPhrase (Forall x y)) = refl
  ranges_stay (StmtPhrase (Commit x)) = refl
  ranges_stay (StmtPhrase (Return no_result)) = refl
  ranges_stay (StmtPhrase (Return (some_result e))) = refl
  ranges_stay (StmtPhrase (Read d how range)) = refl
  ranges_stay (StmtPhrase (WriteExpr e how)) = refl
  ranges_stay (StmtPhrase (WriteText text)) = refl
  ranges_stay (StmtPhrase WriteLine) = refl
  ranges_stay (TestPhrase (Value e)) = refl
  ranges_stay (TestPhrase (Bind d e range left)) = refl
  ranges_stay (TestPhrase (Unify d range e range2)) = refl
  ranges_stay (TestPhrase (SameCells d e)) = refl
  ranges_stay (TestPhrase (Seq x)) = refl
  ranges_stay (TestPhrase (And ts)) = refl
  ranges_stay (TestPhrase (Or no_tests)) = refl
  ranges_stay (TestPhrase (Or (more_tests t ts))) = refl
  ranges_stay (TestPhrase (Not t)) = refl
  ranges_stay (TestPhrase (CallTest c args up)) = refl
  ranges_stay (ExprPhrase x) = refl
  ranges_stay (ArgPhrase (ByValue e range)) = refl
  ranges_stay (ArgPhrase (ByCells d)) = refl
  ranges_stay (ArgPhrase (ByPlace d)) = refl
  ranges_stay (ArgPhrase (MixValue e range)) = refl
  ranges_stay (ArgPhrase (MixPlace d)) = refl
  ranges_stay (DesigPhrase d) = refl
  ranges_stay (SelPhrase (Field offset cells)) = refl
  ranges_stay (SelPhrase (Index e range cells)) = refl

  pub ranges_moved : (x : Phrase) → RangesOrdered x → RangesOrdered (moved_phrase m x)
  ranges_moved x h = subst (AllByRecursion IsOrdered) (sym (ranges_stay x)) h

  pub loops_moved : (x : Phrase) → loops_of (moved_phrase m x) ≡ map (moved_loop m) (loops_of x)
  unfolding moved_stmts
  loops_moved (StmtPhrase (TestStmt t)) = refl
  loops_moved (StmtPhrase (Assign d e range)) = refl
  loops_moved (StmtPhrase (CopyCells d e)) = refl
  loops_moved (StmtPhrase (If arms rest)) = refl
  loops_moved (StmtPhrase (While t body)) = refl
  loops_moved (StmtPhrase (Repeat body t)) = refl
  loops_moved (StmtPhrase (ForTo (a_loop d range counter limit from to by body))) = refl
  loops_moved (StmtPhrase (SomeOf (a_loop d range counter limit from to by body))) = refl
  loops_moved (StmtPhrase (Case e arms rest)) = refl
  loops_moved (StmtPhrase (Either no_branches)) = refl
  loops_moved (StmtPhrase (Either (more_branches body rest))) = refl
  loops_moved (StmtPhrase (Forall x y)) = refl
  loops_moved (StmtPhrase (Commit x)) = refl
  loops_moved (StmtPhrase (Return no_result)) = refl
  loops_moved (StmtPhrase (Return (some_result e))) = refl
  loops_moved (StmtPhrase (Read d how range)) = refl
  loops_moved (StmtPhrase (WriteExpr e how)) = refl
  loops_moved (StmtPhrase (WriteText text)) = refl
  loops_moved (StmtPhrase WriteLine) = refl
  loops_moved (TestPhrase x) = refl
  loops_moved (ExprPhrase x) = refl
  loops_moved (ArgPhrase x) = refl
  loops_moved (DesigPhrase d) = refl
  loops_moved (SelPhrase x) = refl

  step_moved : (l : Loop) → HasStep l → HasStep (moved_loop m l)
  unfolding moved_stmts
  step_moved (a_loop d range counter limit from to by body) h = h

  pub steps_moved : (x : Phrase) → AllByRecursion HasStep (loops_of x) → AllByRecursion HasStep (loops_of (moved_phrase m x))
  steps_moved x h = subst (AllByRecursion HasStep) (sym (loops_moved x))
      (each_of_map HasStep (moved_loop m) (loops_of x) (each_follows HasStep (λ l. HasStep (moved_loop m l)) step_moved (loops_of x) h))

  -- ---- choices and RETURN

  pub choices_moved : (x : Phrase) → HasChoice x → HasChoice (moved_phrase m x)
  unfolding moved_stmts
  choices_moved (StmtPhrase (TestStmt t)) h = tt
  choices_moved (StmtPhrase (Assign d e range)) h = tt
  choices_moved (StmtPhrase (CopyCells d e)) h = tt
  choices_moved (StmtPhrase (If arms rest)) h = tt
  choices_moved (StmtPhrase (While t body)) h = tt
  choices_moved (StmtPhrase (Repeat body t)) h = tt
  choices_moved (StmtPhrase (ForTo (a_loop d range counter limit from to by body))) h = tt
  choices_moved (StmtPhrase (SomeOf (a_loop d range counter limit from to by body))) h = tt
  choices_moved (StmtPhrase (Case e arms rest)) h = tt
  choices_moved (StmtPhrase (Either no_branches)) h = h
  choices_moved (StmtPhrase (Either (more_branches body rest))) h = tt
  choices_moved (StmtPhrase (Forall x y)) h = tt
  choices_moved (StmtPhrase (Commit x)) h = tt
  choices_moved (StmtPhrase (Return no_result)) h = tt
  choices_moved (StmtPhrase (Return (some_result e))) h = tt
  choices_moved (StmtPhrase (Read d how range)) h = tt
  choices_moved (StmtPhrase (WriteExpr e how)) h = tt
  choices_moved (StmtPhrase (WriteText text)) h = tt
  choices_moved (StmtPhrase WriteLine) h = tt
  choices_moved (TestPhrase (Value e)) h = tt
  choices_moved (TestPhrase (Bind d e range left)) h = tt
  choices_moved (TestPhrase (Unify d range e range2)) h = tt
  choices_moved (TestPhrase (SameCells d e)) h = tt
  choices_moved (TestPhrase (Seq x)) h = tt
  choices_moved (TestPhrase (And ts)) h = tt
  choices_moved (TestPhrase (Or no_tests)) h = h
  choices_moved (TestPhrase (Or (more_tests t ts))) h = tt
  choices_moved (TestPhrase (Not t)) h = tt
  choices_moved (TestPhrase (CallTest c args up)) h = tt
  choices_moved (ExprPhrase x) h = tt
  choices_moved (ArgPhrase x) h = tt
  choices_moved (DesigPhrase d) h = tt
  choices_moved (SelPhrase x) h = tt

  pub returns_moved : (a b : Routine) → a.result ≡ b.result → (x : Phrase) → ReturnAgrees a x → ReturnAgrees b (moved_phrase m x)
  unfolding moved_stmts
  returns_moved a b same (StmtPhrase (TestStmt t)) h = tt
  returns_moved a b same (StmtPhrase (Assign d e range)) h = tt
  returns_moved a b same (StmtPhrase (CopyCells d e)) h = tt
  returns_moved a b same (StmtPhrase (If arms rest)) h = tt
  returns_moved a b same (StmtPhrase (While t body)) h = tt
  returns_moved a b same (StmtPhrase (Repeat body t)) h = tt
  returns_moved a b same (StmtPhrase (ForTo (a_loop d range counter limit from to by body))) h = tt
  returns_moved a b same (StmtPhrase (SomeOf (a_loop d range counter limit from to by body))) h = tt
  returns_moved a b same (StmtPhrase (Case e arms rest)) h = tt
  returns_moved a b same (StmtPhrase (Either no_branches)) h = tt
  returns_moved a b same (StmtPhrase (Either (more_branches body rest))) h = tt
  returns_moved a b same (StmtPhrase (Forall x y)) h = tt
  returns_moved a b same (StmtPhrase (Commit x)) h = tt
  returns_moved a b same (StmtPhrase (Return no_result)) h = subst (λ result. IsNone result) same h
  returns_moved a b same (StmtPhrase (Return (some_result e))) h = subst (λ result. IsSome result) same h
  returns_moved a b same (StmtPhrase (Read d how range)) h = tt
  returns_moved a b same (StmtPhrase (WriteExpr e how)) h = tt
  returns_moved a b same (StmtPhrase (WriteText text)) h = tt
  returns_moved a b same (StmtPhrase WriteLine) h = tt
  returns_moved a b same (TestPhrase x) h = tt
  returns_moved a b same (ExprPhrase x) h = tt
  returns_moved a b same (ArgPhrase x) h = tt
  returns_moved a b same (DesigPhrase d) h = tt
  returns_moved a b same (SelPhrase x) h = tt

  no_return_moved : (x : Phrase) → IsNoReturn x → IsNoReturn (moved_phrase m x)
  unfolding moved_stmts
  no_return_moved (StmtPhrase (TestStmt t)) h = tt
  no_return_moved (StmtPhrase (Assign d e range)) h = tt
  no_return_moved (StmtPhrase (CopyCells d e)) h = tt
  no_return_moved (StmtPhrase (If arms rest)) h = tt
  no_return_moved (StmtPhrase (While t body)) h = tt
  no_return_moved (StmtPhrase (Repeat body t)) h = tt
  no_return_moved (StmtPhrase (ForTo (a_loop d range counter limit from to by body))) h = tt
  no_return_moved (StmtPhrase (SomeOf (a_loop d range counter limit from to by body))) h = tt
  no_return_moved (StmtPhrase (Case e arms rest)) h = tt
  no_return_moved (StmtPhrase (Either no_branches)) h = tt
  no_return_moved (StmtPhrase (Either (more_branches body rest))) h = tt
  no_return_moved (StmtPhrase (Forall x y)) h = tt
  no_return_moved (StmtPhrase (Commit x)) h = tt
  no_return_moved (StmtPhrase (Return no_result)) h = h
  no_return_moved (StmtPhrase (Return (some_result e))) h = h
  no_return_moved (StmtPhrase (Read d how range)) h = tt
  no_return_moved (StmtPhrase (WriteExpr e how)) h = tt
  no_return_moved (StmtPhrase (WriteText text)) h = tt
  no_return_moved (StmtPhrase WriteLine) h = tt
  no_return_moved (TestPhrase x) h = tt
  no_return_moved (ExprPhrase x) h = tt
  no_return_moved (ArgPhrase x) h = tt
  no_return_moved (DesigPhrase d) h = tt
  no_return_moved (SelPhrase x) h = tt

  none_moved : (x : Stmts) → HaveNoReturn x → HaveNoReturn (moved_stmts m x)
  none_moved x h =
      subst (AllByRecursion IsNoReturn) (sym (stmts_moved m x))
      (each_of_map IsNoReturn (moved_phrase m) (stmts_phrases x)
      (each_follows IsNoReturn (λ y. IsNoReturn (moved_phrase m y)) no_return_moved (stmts_phrases x) h))

  pub stays_moved : (x : Phrase) → ReturnsStay x → ReturnsStay (moved_phrase m x)
  unfolding moved_stmts
  stays_moved (StmtPhrase (TestStmt t)) h = tt
  stays_moved (StmtPhrase (Assign d e range)) h = tt
  stays_moved (StmtPhrase (CopyCells d e)) h = tt
  stays_moved (StmtPhrase (If arms rest)) h = tt
  stays_moved (StmtPhrase (While t body)) h = tt
  stays_moved (StmtPhrase (Repeat body t)) h = tt
  stays_moved (StmtPhrase (ForTo (a_loop d range counter limit from to by body))) h = tt
  stays_moved (StmtPhrase (SomeOf (a_loop d range counter limit from to by body))) h = tt
  stays_moved (StmtPhrase (Case e arms rest)) h = tt
  stays_moved (StmtPhrase (Either no_branches)) h = tt
  stays_moved (StmtPhrase (Either (more_branches body rest))) h = tt
  stays_moved (StmtPhrase (Forall x y)) h = (none_moved x h.0, none_moved y h.1)
  stays_moved (StmtPhrase (Commit x)) h = none_moved x h
  stays_moved (StmtPhrase (Return no_result)) h = tt
  stays_moved (StmtPhrase (Return (some_result e))) h = tt
  stays_moved (StmtPhrase (Read d how range)) h = tt
  stays_moved (StmtPhrase (WriteExpr e how)) h = tt
  stays_moved (StmtPhrase (WriteText text)) h = tt
  stays_moved (StmtPhrase WriteLine) h = tt
  stays_moved (TestPhrase (Value e)) h = tt
  stays_moved (TestPhrase (Bind d e range left)) h = tt
  stays_moved (TestPhrase (Unify d range e range2)) h = tt
  stays_moved (TestPhrase (SameCells d e)) h = tt
  stays_moved (TestPhrase (Seq x)) h = none_moved x h
  stays_moved (TestPhrase (And ts)) h = tt
  stays_moved (TestPhrase (Or no_tests)) h = tt
  stays_moved (TestPhrase (Or (more_tests t ts))) h = tt
  stays_moved (TestPhrase (Not t)) h = tt
  stays_moved (TestPhrase (CallTest c args up)) h = tt
  stays_moved (ExprPhrase x) h = tt
  stays_moved (ArgPhrase x) h = tt
  stays_moved (DesigPhrase d) h = tt
  stays_moved (SelPhrase x) h = tt

  -- ---- texts and lines

  text_moved : (x : Phrase) → text_bytes (moved_phrase m x) ≡ text_bytes x
  unfolding moved_stmts
  text_moved (StmtPhrase (TestStmt t)) = refl
  text_moved (StmtPhrase (Assign d e range)) = refl
  text_moved (StmtPhrase (CopyCells d e)) = refl
  text_moved (StmtPhrase (If arms rest)) = refl
  text_moved (StmtPhrase (While t body)) = refl
  text_moved (StmtPhrase (Repeat body t)) = refl
  text_moved (StmtPhrase (ForTo (a_loop d range counter limit from to by body))) = refl
  text_moved (StmtPhrase (SomeOf (a_loop d range counter limit from to by body))) = refl
  text_moved (StmtPhrase (Case e arms rest)) = refl
  text_moved (StmtPhrase (Either no_branches)) = refl
  text_moved (StmtPhrase (Either (more_branches body rest))) = refl
  text_moved (StmtPhrase (Forall x y)) = refl
  text_moved (StmtPhrase (Commit x)) = refl
  text_moved (StmtPhrase (Return no_result)) = refl
  text_moved (StmtPhrase (Return (some_result e))) = refl
  text_moved (StmtPhrase (Read d how range)) = refl
  text_moved (StmtPhrase (WriteExpr e how)) = refl
  text_moved (StmtPhrase (WriteText text)) = refl
  text_moved (StmtPhrase WriteLine) = refl
  text_moved (TestPhrase x) = refl
  text_moved (ExprPhrase x) = refl
  text_moved (ArgPhrase x) = refl
  text_moved (DesigPhrase d) = refl
  text_moved (SelPhrase x) = refl

  pub texts_moved : (xs : List Phrase) → sum_by text_bytes (map (moved_phrase m) xs) ≡ sum_by text_bytes xs
  texts_moved [] = refl
  texts_moved (x ∷ xs) = omega (
    arith,
    sum_by-cons text_bytes (moved_phrase m x) (map (moved_phrase m) xs),
    sum_by-cons text_bytes x xs,
    text_moved x,
    texts_moved xs,
  )

  pub count_moved : (xs : List Phrase) → stmt_count (map (moved_phrase m) xs) ≡ stmt_count xs
  count_moved [] = refl
  count_moved (StmtPhrase x ∷ xs) = ap suc (count_moved xs)
  count_moved (TestPhrase x ∷ xs) = count_moved xs
  count_moved (ExprPhrase x ∷ xs) = count_moved xs
  count_moved (ArgPhrase x ∷ xs) = count_moved xs
  count_moved (DesigPhrase x ∷ xs) = count_moved xs
  count_moved (SelPhrase x ∷ xs) = count_moved xs
