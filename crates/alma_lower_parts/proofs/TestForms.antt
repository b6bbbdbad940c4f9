-- What each form of test adds.
use Rattle.std.proofs.Common.{◌≡◌, ℕ, ◌+◌, true, false, List, [], ◌∷◌, ◌++◌, length, drop, Option, refl, sym, ap, ◌∙◌, subst, arith}
use Rattle.std.proofs.Common.{length-append}
use Rattle.alma_base.specs.declared.number.Range.{Range}
use Rattle.alma_code.specs.declared.cell.SlotKind.TheVariants as slot
use Rattle.alma_code.specs.declared.instr.Instr.{Instr}
use Rattle.alma_code.specs.declared.instr.Instr.TheVariants as I
use Rattle.alma_choice.specs.Emitted.{aim_jump}
use Rattle.alma_ir.specs.declared.phrase.Cmp.TheVariants as cmp
use Rattle.alma_ir.specs.Tree.{Stmts, Test, Tests, Expr, Desig, Compare, Value, Bind, Unify, SameCells, Seq, And, Or, Not, no_tests}
use Rattle.alma_ir.specs.Tree.{more_tests}
use Rattle.alma_ir.specs.Phrases.{stmts_phrases, test_phrases, tests_phrases, expr_phrases, desig_phrases}
use Rattle.alma_ir.specs.Lines.{behind, stmts_with, test_with, tests_with, expr_with, desig_with}
use Rattle.alma_ir.proofs.LinesBack.{behind_two, count_sum}
use Rattle.alma_lower_work.specs.Front.{Around, Front, Adds, Codes, Changes, Holes}
use Rattle.alma_lower_work.specs.Puts.{PutsExpr, PutsFirstOperand, PutsValue, PutsHeld, PutsTest, PutsAnd, PutsOperands, PutsFirst}
use Rattle.alma_lower_work.specs.Puts.{PutsStmts, value_slot, is_unequal}
use Rattle.alma_lower_work.proofs.Joins.{nothing, then_adds, adds_as, adds_code, only_code, filled, over, address_behind}
use Rattle.alma_lower_templates.specs.LineInstr.{LineInstr, own, in_row}
use Rattle.alma_lower_templates.specs.Tables.{range_number}
use Rattle.alma_lower_templates.specs.Slots.{bare, own_place, stays, unless_bare, test_slots, expr_slots, desig_slots}
use Rattle.alma_lower_templates.specs.Pieces.{unequal_code, begin_first, first_of_two}
use Rattle.alma_lower_templates.proofs.Tested.{ChecksValue, Tested, tested, as_value, as_unequal}
use Rattle.alma_lower_parts.proofs.With.{unequal_with, stays_with}
use Rattle.alma_lower_templates.specs.Templates as T

module _ (s : Around) (line : ℕ) where
  abbrev pub place_of : (lo : ℕ) → Desig → ℕ
  place_of lo d = T.held_at s.program s.tables s.routine lo d

  -- the code of a place, which that of a parameter has not
  abbrev pub located : (at lo : ℕ) → Desig → List LineInstr
  located at lo d = unless_bare (own_place d) (T.desig_code s.program s.tables s.routine line at lo d)

  -- two phrases are passed in the other order
  behind_swap : (d : Desig) (e : Expr) (ls : List ℕ)
      → behind (desig_phrases d) (behind (expr_phrases e) ls) ≡ behind (desig_phrases d ++ expr_phrases e) ls
  behind_swap d e ls =
      sym (behind_two (expr_phrases e) (desig_phrases d) ls)
      ∙ ap (λ n. drop n ls) (omega (arith, count_sum (expr_phrases e) (desig_phrases d), count_sum (desig_phrases d) (expr_phrases e)))

  -- a value that is no inequality is checked
  checks_with : (e : Expr) (ls : List ℕ) → is_unequal e ≡ false → ChecksValue s.program s.tables s.routine (expr_with e ls)
  checks_with e ls h = by (tested s.program s.tables s.routine (expr_with e ls))
    where
      by : Tested s.program s.tables s.routine (expr_with e ls) → ChecksValue s.program s.tables s.routine (expr_with e ls)
      by (as_value is) = is
      by (as_unequal x y same) = absurd (let bad : true ≡ false = sym (ap is_unequal same) ∙ (unequal_with e ls ∙ h) in cc)

  pub value_test_put : (a b c : Front) (e : Expr) (value : ℕ) → is_unequal e ≡ false → PutsValue s line a b e
      → value ≡ value_slot s a.next (expr_with e a.lines) → Codes b c (own line (I.Check value ∷ [])) → PutsTest s line a c (Value e)
  unfolding stmts_with stmts_phrases
  value_test_put a b c e value other h is j =
      let code = unless_bare (bare (expr_with e a.lines))
      (T.expr_code s.program s.tables s.routine line (length a.code) a.next (expr_with e a.lines)) in
      record {
        all = adds_as a c _ _ _ _ _ _ (adds_code a b c _ _ _ _ h.all j)
            (ap (λ n. code ++ own line (I.Check n ∷ [])) is ∙ sym (checks_with e a.lines other line (length a.code) a.next)) refl refl;
      }

  pub unequal_put : (a b c d : Front) (from to other : ℕ) (x y : Expr) → PutsFirstOperand s line a b (stays x y) x → to ≡ a.next
      → from ≡ T.slot_or s.program s.tables s.routine (stays x y) a.next
      → PutsValue s line b c y → other ≡ value_slot s b.next (expr_with y b.lines)
      → Codes c d (own line (unequal_code to from other (length c.code))) → PutsTest s line a d (Value (Compare cmp.Unequal x y))
  unfolding stmts_with stmts_phrases
  unequal_put a b c d from to other x y h is is2 j is3 k =
      let ls = behind (expr_phrases x) a.lines in
      let lo = a.next + length (expr_slots s.program s.routine (expr_with x a.lines)) in
      let there : other ≡ value_slot s lo (expr_with y ls) = is3 ∙ ap (λ n. value_slot s n (expr_with y b.lines)) h.all.next_slot
      ∙ ap (λ n. value_slot s lo (expr_with y n)) h.all.left in
      let operands = then_adds a b c _ _ _ _ _ _ h.all j.all in
      let both : Option ℕ → List LineInstr = λ o.
      in_row (length a.code) (unless_bare o (T.expr_code s.program s.tables s.routine line (length a.code) a.next (expr_with x a.lines)))
      (λ next. unless_bare (bare (expr_with y ls)) (T.expr_code s.program s.tables s.routine line next lo (expr_with y ls))) in
      let here : length c.code ≡ length a.code + length (both (stays x y)) = address_behind a c _ _ _ operands in
      let code : Option ℕ → (from to other at : ℕ)
      → List LineInstr = λ o from to other at. both o ++ own line (unequal_code to from other at) in
      let stay : ℕ = T.slot_or s.program s.tables s.routine (stays x y) a.next in
      record {
        all = adds_as a d _ _ _ _ _ _ (adds_code a c d _ _ _ _ operands k)
            (ap (λ n. code (stays x y) from n other (length c.code)) is ∙ ap (λ n. code (stays x y) n a.next other (length c.code)) is2
            ∙ ap (λ n. code (stays x y) stay a.next n (length c.code)) there
            ∙ ap (code (stays x y) stay a.next (value_slot s lo (expr_with y ls))) here
            ∙ ap (λ o. code o (T.slot_or s.program s.tables s.routine o a.next) a.next (value_slot s lo (expr_with y ls))
            (length a.code + length (both o))) (sym (stays_with x y a.lines ls)))
            refl (sym (behind_two (expr_phrases x) (expr_phrases y) a.lines));
      }

  pub bind_left_put : (a b c d : Front) (x : Desig) (e : Expr) (range : Range) (place value number : ℕ) → PutsHeld s line a b x
      → place ≡ place_of a.next (desig_with x a.lines)
      → PutsValue s line b c e → value ≡ value_slot s b.next (expr_with e b.lines) → number ≡ range_number s.tables range
      → Codes c d (own line (I.Bind place value number ∷ []))
      → PutsTest s line a d (Bind x e range true)
  unfolding stmts_with stmts_phrases
  bind_left_put a b c d x e range place value number h is j is2 is3 k =
      let ls = behind (desig_phrases x) a.lines in
      let lo = a.next + length (desig_slots s.program s.routine (desig_with x a.lines)) in
      let there : value ≡ value_slot s lo (expr_with e ls) = is2 ∙ ap (λ n. value_slot s n (expr_with e b.lines)) h.all.next_slot
      ∙ ap (λ n. value_slot s lo (expr_with e n)) h.all.left in
      let both = in_row (length a.code) (located (length a.code) a.next (desig_with x a.lines))
      (λ next. unless_bare (bare (expr_with e ls)) (T.expr_code s.program s.tables s.routine line next lo (expr_with e ls))) in
      record {
        all = adds_as a d _ _ _ _ _ _ (adds_code a c d _ _ _ _ (then_adds a b c _ _ _ _ _ _ h.all j.all) k)
            (ap (λ n. both ++ own line (I.Bind n value number ∷ [])) is
            ∙ ap (λ n. both ++ own line (I.Bind (place_of a.next (desig_with x a.lines)) n number ∷ [])) there
            ∙ ap (λ n. both ++ own line (I.Bind (place_of a.next (desig_with x a.lines)) (value_slot s lo (expr_with e ls)) n ∷ [])) is3)
            refl (sym (behind_two (desig_phrases x) (expr_phrases e) a.lines));
      }

  pub bind_right_put : (a b c d : Front) (x : Desig) (e : Expr) (range : Range) (place value number : ℕ) → PutsExpr s line a b e
      → value ≡ a.next
      → PutsHeld s line b c x → place ≡ place_of b.next (desig_with x b.lines) → number ≡ range_number s.tables range
      → Codes c d (own line (I.Bind place value number ∷ []))
      → PutsTest s line a d (Bind x e range false)
  unfolding stmts_with stmts_phrases
  bind_right_put a b c d x e range place value number h is j is2 is3 k =
      let ls = behind (expr_phrases e) a.lines in
      let lo = a.next + length (expr_slots s.program s.routine (expr_with e a.lines)) in
      let there : place ≡ place_of lo (desig_with x ls) = is2 ∙ ap (λ n. place_of n (desig_with x b.lines)) h.all.next_slot
      ∙ ap (λ n. place_of lo (desig_with x n)) h.all.left in
      let both = in_row (length a.code) (T.expr_code s.program s.tables s.routine line (length a.code) a.next (expr_with e a.lines))
      (λ next. located next lo (desig_with x ls)) in
      record {
        all = adds_as a d _ _ _ _ _ _ (adds_code a c d _ _ _ _ (then_adds a b c _ _ _ _ _ _ h.all j.all) k)
            (ap (λ n. both ++ own line (I.Bind place n number ∷ [])) is ∙ ap (λ n. both ++ own line (I.Bind n a.next number ∷ [])) there
            ∙ ap (λ n. both ++ own line (I.Bind (place_of lo (desig_with x ls)) a.next n ∷ [])) is3)
            refl (behind_swap x e a.lines);
      }

  -- two designators, and an instruction on both places
  pub two_places : (a b c d : Front) (x y : Desig) (place place2 : ℕ) (instr : (place place2 : ℕ) → Instr) → PutsHeld s line a b x
      → place ≡ place_of a.next (desig_with x a.lines)
      → PutsHeld s line b c y → place2 ≡ place_of b.next (desig_with y b.lines) → Codes c d (own line (instr place place2 ∷ []))
      → Adds a d (λ at lo ls. in_row at (located at lo (desig_with x ls))
      (λ next. located next (lo + length (desig_slots s.program s.routine (desig_with x ls)))
      (desig_with y (behind (desig_phrases x) ls)))
      ++ own line (instr (place_of lo (desig_with x ls))
      (place_of (lo + length (desig_slots s.program s.routine (desig_with x ls))) (desig_with y (behind (desig_phrases x) ls))) ∷ []))
      (λ ls. desig_slots s.program s.routine (desig_with x ls)
      ++ desig_slots s.program s.routine (desig_with y (behind (desig_phrases x) ls)))
      (λ ls. behind (desig_phrases x ++ desig_phrases y) ls)
  two_places a b c d x y place place2 instr h is j is2 k =
      let ls = behind (desig_phrases x) a.lines in
      let lo = a.next + length (desig_slots s.program s.routine (desig_with x a.lines)) in
      let there : place2 ≡ place_of lo (desig_with y ls) = is2 ∙ ap (λ n. place_of n (desig_with y b.lines)) h.all.next_slot
      ∙ ap (λ n. place_of lo (desig_with y n)) h.all.left in
      let both = in_row (length a.code) (located (length a.code) a.next (desig_with x a.lines))
      (λ next. located next lo (desig_with y ls)) in
      adds_as a d _ _ _ _ _ _ (adds_code a c d _ _ _ _ (then_adds a b c _ _ _ _ _ _ h.all j.all) k)
      (ap (λ n. both ++ own line (instr n place2 ∷ [])) is
      ∙ ap (λ n. both ++ own line (instr (place_of a.next (desig_with x a.lines)) n ∷ [])) there)
      refl (sym (behind_two (desig_phrases x) (desig_phrases y) a.lines))

  pub unify_put : (a b c d : Front) (x y : Desig) (range range2 : Range) (place place2 number number2 : ℕ) → PutsHeld s line a b x
      → place ≡ place_of a.next (desig_with x a.lines)
      → PutsHeld s line b c y → place2 ≡ place_of b.next (desig_with y b.lines) → number ≡ range_number s.tables range
      → number2 ≡ range_number s.tables range2
      → Codes c d (own line (I.Unify place number place2 number2 ∷ [])) → PutsTest s line a d (Unify x range y range2)
  unfolding stmts_with stmts_phrases
  unify_put a b c d x y range range2 place place2 number number2 h is j is2 is3 is4 k =
      record {
        all = two_places a b c d x y place place2 (λ m n. I.Unify m (range_number s.tables range) n (range_number s.tables range2)) h is j
            is2
            (subst (λ n. Codes c d (own line (I.Unify place (range_number s.tables range) place2 n ∷ []))) is4
            (subst (λ n. Codes c d (own line (I.Unify place n place2 number2 ∷ []))) is3 k));
      }

  pub same_put : (a b c d : Front) (x y : Desig) (place place2 : ℕ) → PutsHeld s line a b x
      → place ≡ place_of a.next (desig_with x a.lines)
      → PutsHeld s line b c y → place2 ≡ place_of b.next (desig_with y b.lines) → Codes c d (own line (I.SameCells place place2 ∷ []))
      → PutsTest s line a d (SameCells x y)
  unfolding stmts_with stmts_phrases
  same_put a b c d x y place place2 h is j is2 k =
      record { all = two_places a b c d x y place place2 (λ m n. I.SameCells m n) h is j is2 k }

  pub seq_put : (a b : Front) (body : Stmts) → PutsStmts s a b body → PutsTest s line a b (Seq body)
  unfolding stmts_with stmts_phrases
  seq_put a b body h = record { all = h.all }

  -- ---- AND, OR, NOT

  pub no_and_put : (a : Front) → PutsAnd s line a a no_tests
  unfolding stmts_with stmts_phrases
  no_and_put a = record { all = adds_as a a _ _ _ _ _ _ (nothing a) refl refl refl }

  pub more_and_put : (a b c : Front) (t : Test) (rest : Tests) → PutsTest s line a b t → PutsAnd s line b c rest
      → PutsAnd s line a c (more_tests t rest)
  unfolding stmts_with stmts_phrases
  more_and_put a b c t rest h j = record {
    all =
        adds_as a c _ _ _ _ _ _ (then_adds a b c _ _ _ _ _ _ h.all j.all) refl refl
        (sym (behind_two (test_phrases t) (tests_phrases rest) a.lines));
  }

  pub and_put : (a b : Front) (ts : Tests) → PutsAnd s line a b ts → PutsTest s line a b (And ts)
  unfolding stmts_with stmts_phrases
  and_put a b ts h = record { all = h.all }

  -- a test behind a mark, with the cut behind it; the way on without an alternative is aimed so far behind
  pub marked : (a b c d e : Front) (t : Test) (mark target : ℕ) (aim : ℕ → List LineInstr → List LineInstr) (behind_it : List Instr)
      (beyond : ℕ → ℕ) → Holes a b aim (λ none at lo ls. begin_first line lo none) (λ ls. slot.Mark ∷ []) (λ ls. ls)
      → mark ≡ a.next → PutsTest s line b c t → Codes c d (own line (I.Cut mark ∷ behind_it)) → Changes d e (aim target)
      → target ≡ beyond (length d.code)
      → Adds a e (λ at lo ls. let inner : List LineInstr = T.test_code s.program s.tables s.routine line (at + 2) (lo + 1) (test_with t ls)
      ++ own line (I.Cut lo ∷ behind_it) in begin_first line lo (beyond (at + 2 + length inner)) ++ inner)
      (λ ls. slot.Mark ∷ test_slots s.program s.routine (test_with t ls)) (behind (test_phrases t))
  marked a b c d e t mark target aim behind_it beyond h is j k m is2 =
      let inner = T.test_code s.program s.tables s.routine line (length a.code + 2) (a.next + 1) (test_with t a.lines) in
      adds_as a e _ _ _ _ _ _ (filled a b d e _ _ _ _ aim _ _ target beyond h (adds_code b c d _ _ _ _ j.all k) m is2)
      (ap (λ n. begin_first line a.next (beyond (length a.code + 2 + length (inner ++ own line (I.Cut n ∷ behind_it))))
      ++ (inner ++ own line (I.Cut n ∷ behind_it))) is)
      refl refl

  pub not_put : (a b c d e : Front) (t : Test) (mark target : ℕ) (aim : ℕ → List LineInstr → List LineInstr)
      → Holes a b aim (λ none at lo ls. begin_first line lo none) (λ ls. slot.Mark ∷ []) (λ ls. ls)
      → mark ≡ a.next → PutsTest s line b c t → Codes c d (own line (I.Cut mark ∷ I.Fail ∷ [])) → Changes d e (aim target)
      → target ≡ length d.code → PutsTest s line a e (Not t)
  unfolding stmts_with stmts_phrases
  not_put a b c d e t mark target aim h is j k m is2 =
      let inner = T.test_code s.program s.tables s.routine line (length a.code + 2) (a.next + 1) (test_with t a.lines) in
      let ends = own line (I.Cut a.next ∷ I.Fail ∷ []) in
      let far : length a.code + 2 + length (inner ++ ends) ≡ length a.code + 2 + length inner + 2 =
      omega (arith, length-append inner ends) in
      record {
        all = adds_as a e _ _ _ _ _ _ (marked a b c d e t mark target aim (I.Fail ∷ []) (λ n. n) h is j k m is2)
            (ap (λ n. begin_first line a.next n ++ (inner ++ ends)) far) refl refl;
      }

  pub first_put : (a b c d e : Front) (t : Test) (mark target : ℕ) (aim : ℕ → List LineInstr → List LineInstr)
      → Holes a b aim (λ none at lo ls. begin_first line lo none) (λ ls. slot.Mark ∷ []) (λ ls. ls)
      → mark ≡ a.next → PutsTest s line b c t → Codes c d (own line (I.Cut mark ∷ [])) → Changes d e (aim target)
      → target ≡ length d.code + 1 → PutsFirst s line a e t
  first_put a b c d e t mark target aim h is j k m is2 =
      let inner = T.test_code s.program s.tables s.routine line (length a.code + 2) (a.next + 1) (test_with t a.lines) in
      let ends = own line (I.Cut a.next ∷ []) in
      let far : length a.code + 2 + length (inner ++ ends) + 1 ≡ length a.code + 2 + length inner + 2 =
      omega (arith, length-append inner ends) in
      record {
        all = adds_as a e _ _ _ _ _ _ (marked a b c d e t mark target aim [] (λ n. n + 1) h is j k m is2)
            (ap (λ n. begin_first line a.next n ++ (inner ++ ends)) far) refl refl;
      }

  pub no_or_put : (a b : Front) → Codes a b (own line (I.Fail ∷ [])) → PutsTest s line a b (Or no_tests)
  unfolding stmts_with stmts_phrases
  no_or_put a b h = record { all = adds_as a b _ _ _ _ _ _ (only_code a b _ h) refl refl refl }

  pub one_or_put : (a b : Front) (t : Test) → PutsTest s line a b t → PutsTest s line a b (Or (more_tests t no_tests))
  unfolding stmts_with stmts_phrases
  one_or_put a b t h = record {
    all = adds_as a b _ _ _ _ _ _ h.all refl refl
        (sym (behind_two (test_phrases t) (tests_phrases no_tests) a.lines));
  }

  pub last_put : (a b : Front) (exit : ℕ) (t : Test) → PutsTest s line a b t → PutsOperands s line exit a b (more_tests t no_tests)
  unfolding stmts_with stmts_phrases
  last_put a b exit t h = record {
    all = adds_as a b _ _ _ _ _ _ h.all refl refl
        (sym (behind_two (test_phrases t) (tests_phrases no_tests) a.lines));
  }

  pub operands_put : (a b c d : Front) (exit : ℕ) (t t2 : Test) (rest : Tests) → PutsFirst s line a b t
      → Codes b c (own line (I.Jump exit ∷ [])) → PutsOperands s line exit c d (more_tests t2 rest)
      → PutsOperands s line exit a d (more_tests t (more_tests t2 rest))
  unfolding stmts_with stmts_phrases
  operands_put a b c d exit t t2 rest h j k =
      let ls = a.lines in
      let first = first_of_two line (length a.code + 2) a.next
      (T.test_code s.program s.tables s.routine line (length a.code + 2) (a.next + 1) (test_with t ls))
      ++ own line (I.Jump exit ∷ []) in
      let n = test_slots s.program s.routine (test_with t ls) in
      let low : a.next + length (slot.Mark ∷ n) ≡ a.next + 1 + length n = omega arith in
      record {
        all = adds_as a d _ _ _ _ _ _ (then_adds a c d _ _ _ _ _ _ (adds_code a b c _ _ _ _ h.all j) k.all)
            (ap (λ m. first ++ T.operands_code s.program s.tables s.routine line exit (length a.code + length first) m
            (tests_with (more_tests t2 rest) (behind (test_phrases t) ls))) low)
            refl (sym (behind_two (test_phrases t) (tests_phrases (more_tests t2 rest)) ls));
      }

  pub or_put : (a b c d e : Front) (exit target : ℕ) (t t2 : Test) (rest : Tests) → PutsFirst s line a b t → exit ≡ length b.code
      → Codes b c (own line (I.Jump 0 ∷ [])) → PutsOperands s line exit c d (more_tests t2 rest)
      → Changes d e (λ xs. aim_jump xs exit target) → target ≡ length d.code → PutsTest s line a e (Or (more_tests t (more_tests t2 rest)))
  unfolding stmts_with stmts_phrases
  or_put a b c d e exit target t t2 rest h here j k m is =
      let ls = a.lines in
      let first = first_of_two line (length a.code + 2) a.next
      (T.test_code s.program s.tables s.routine line (length a.code + 2) (a.next + 1) (test_with t ls)) in
      let jump = length a.code + length first in
      let n = test_slots s.program s.routine (test_with t ls) in
      let low : a.next + length (slot.Mark ∷ n) ≡ a.next + 1 + length n = omega arith in
      let out : exit ≡ jump = here ∙ address_behind a b _ _ _ h.all in
      let code : List LineInstr → List LineInstr = λ c. first ++ (own line (I.Jump (jump + 1 + length c) ∷ []) ++ c) in
      let others : (exit lo : ℕ) → List LineInstr = λ exit lo. T.operands_code s.program s.tables s.routine line exit (jump + 1) lo
      (tests_with (more_tests t2 rest) (behind (test_phrases t) ls)) in
      record {
        all = adds_as a e _ _ _ _ _ _ (then_adds a b e _ _ _ _ _ _ h.all
            (over b c d e line exit target (I.Jump 0) _ _ _ (λ n. n) here refl j k.all m is))
            (ap (λ x. code (others x (a.next + length (slot.Mark ∷ n)))) out ∙ ap (λ x. code (others jump x)) low)
            refl (sym (behind_two (test_phrases t) (tests_phrases (more_tests t2 rest)) ls));
      }
