-- What conditions add, and what is done where they have an alternative.
use Rattle.std.proofs.Common.{◌≡◌, ℕ, ◌+◌, true, false, List, [], ◌∷◌, ◌++◌, length, refl, sym, ap, ◌∙◌, arith, append_assoc, length-append}
use Rattle.std.proofs.Common.{add-zero}
use Rattle.std.proofs.lemmas.List.{append-nil}
use Rattle.alma_code.specs.declared.cell.SlotKind.{SlotKind}
use Rattle.alma_code.specs.declared.cell.SlotKind.TheVariants as slot
use Rattle.alma_code.specs.declared.instr.Instr.TheVariants as I
use Rattle.alma_choice.specs.Emitted.{aim_jump}
use Rattle.alma_ir.specs.Tree.{Stmts, Arms, Test, Expr, Value, no_arms, more_arms}
use Rattle.alma_ir.specs.Phrases.{stmts_phrases, arms_phrases, test_phrases}
use Rattle.alma_ir.specs.Lines.{behind, stmts_with, arms_with, test_with, expr_with}
use Rattle.alma_ir.proofs.LinesBack.{behind_two}
use Rattle.alma_lower_work.specs.Front.{Around, Front, Codes, Changes, Holes}
use Rattle.alma_lower_work.specs.Puts.{PutsValue, PutsTest, PutsGuard, PutsGuarded, PutsStmts, PutsArms, value_slot}
use Rattle.alma_lower_work.proofs.Joins.{nothing, then_adds, adds_as, adds_code, hole_put, adds_holes, holes_adds, holes_code, holes_as}
use Rattle.alma_lower_work.proofs.Joins.{filled}
use Rattle.alma_lower_parts.proofs.With.{simple_test}
use Rattle.alma_lower_templates.specs.LineInstr.{LineInstr, own}
use Rattle.alma_lower_templates.specs.Slots.{bare, unless_bare, is_simple, mark_slots, test_slots, stmts_slots, arms_slots}
use Rattle.alma_lower_templates.specs.Slots.{behind_condition, behind_stmts}
use Rattle.alma_lower_templates.specs.Pieces.{condition, guard_code, begin_first}
use Rattle.alma_lower_templates.specs.Templates as T

module _ (s : Around) (line : ℕ) where
  -- a condition, as its template has it
  abbrev pub condition_code : (none at lo : ℕ) → Test → List LineInstr
  condition_code none at lo t =
      condition (is_simple t) line at lo none (λ at lo none. T.jump_code s.program s.tables s.routine line at lo none t)
      (λ at lo. T.test_code s.program s.tables s.routine line at lo t)

  abbrev pub condition_slots : Test → List SlotKind
  condition_slots t = mark_slots (is_simple t) ++ test_slots s.program s.routine t

  pub simple_guard : (a b c : Front) (e : Expr) (value jump : ℕ) → is_simple (Value e) ≡ true → PutsValue s line a b e
      → value ≡ value_slot s a.next (expr_with e a.lines)
      → jump ≡ length b.code → Codes b c (own line (I.JumpZero value 0 ∷ []))
      → PutsGuard s line a c (λ to xs. aim_jump xs jump to) (Value e)
  unfolding stmts_with stmts_phrases
  simple_guard a b c e value jump simple h is here j =
      let t = test_with (Value e) a.lines in
      let easy : is_simple t ≡ true = simple_test (Value e) a.lines ∙ simple in
      let code = unless_bare (bare (expr_with e a.lines))
      (T.expr_code s.program s.tables s.routine line (length a.code) a.next (expr_with e a.lines)) in
      record {
        all = holes_as a c _ _ _ _ _ _ _ (adds_holes a b c _ _ _ _ _ _ _ h.all (hole_put b c line jump (I.JumpZero value 0) here refl j))
            (λ to. ap (λ n. code ++ own line (I.JumpZero n to ∷ [])) is
            ∙ sym (ap (λ x. condition x line (length a.code) a.next to
            (λ at lo none. T.jump_code s.program s.tables s.routine line at lo none t)
            (λ at lo. T.test_code s.program s.tables s.routine line at lo t)) easy))
            (append-nil _ ∙ sym (ap (λ x. mark_slots x ++ test_slots s.program s.routine t) easy)) refl;
      }

  pub barrier_guard : (a b c d : Front) (t : Test) (mark : ℕ) (aim : ℕ → List LineInstr → List LineInstr) → is_simple t ≡ false
      → Holes a b aim (λ none at lo ls. begin_first line lo none) (λ ls. slot.Mark ∷ []) (λ ls. ls)
      → mark ≡ a.next → PutsTest s line b c t → Codes c d (own line (I.Cut mark ∷ [])) → PutsGuard s line a d aim t
  barrier_guard a b c d t mark aim simple h is j k =
      let u = test_with t a.lines in
      let hard : is_simple u ≡ false = simple_test t a.lines ∙ simple in
      let inner = T.test_code s.program s.tables s.routine line (length a.code + 2) (a.next + 1) u in
      record {
        all = holes_as a d _ _ _ _ _ _ _ (holes_code a c d _ _ _ _ _ (holes_adds a b c _ _ _ _ _ _ _ h j.all) k)
            (λ to. append_assoc (begin_first line a.next to) inner (own line (I.Cut mark ∷ []))
            ∙ ap (λ n. begin_first line a.next to ++ (inner ++ own line (I.Cut n ∷ []))) is
            ∙ sym (ap (λ x. condition x line (length a.code) a.next to
            (λ at lo none. T.jump_code s.program s.tables s.routine line at lo none u)
            (λ at lo. T.test_code s.program s.tables s.routine line at lo u)) hard))
            (sym (ap (λ x. mark_slots x ++ test_slots s.program s.routine u) hard)) refl;
      }

  -- a condition and what is done where it has an alternative; else the code goes on so far behind that
  abbrev pub guarded_code : (skip at lo : ℕ) → Test → Stmts → List LineInstr
  guarded_code skip at lo t body = guard_code at skip (λ none. condition_code none at lo t)
      (λ next. T.stmts_code s.program s.tables s.routine next (behind_condition s.program s.routine lo t) body)

  pub guarded_put : (a b c d : Front) (t : Test) (body : Stmts) (aim : ℕ → List LineInstr → List LineInstr) (skip target : ℕ)
      → PutsGuard s line a b aim t → PutsStmts s b c body → Changes c d (aim target)
      → target ≡ length c.code + skip → PutsGuarded s line skip a d t body
  guarded_put a b c d t body aim skip target h j k is =
      let u = test_with t a.lines in
      let x = stmts_with body (behind (test_phrases t) a.lines) in
      let at = length a.code in
      let lo : a.next + length (condition_slots u) ≡ behind_condition s.program s.routine a.next u =
      omega (arith, length-append (mark_slots (is_simple u)) (test_slots s.program s.routine u)) in
      record {
        all = adds_as a d _ _ _ _ _ _ (filled a b c d _ _ _ _ aim _ _ target (λ n. n + skip) h.all j.all k is)
            (ap (λ n. guard_code at skip (λ none. condition_code none at a.next u)
            (λ next. T.stmts_code s.program s.tables s.routine next n x)) lo) refl refl;
      }

  -- ---- IF

  -- arms behind the first, and what stands behind them
  pub arms_split : (exit at lo : ℕ) (arms : Arms) (otherwise : (at lo : ℕ) → List LineInstr)
      → T.arms_code s.program s.tables s.routine line exit at lo arms otherwise
      ≡ T.arms_code s.program s.tables s.routine line exit at lo arms (λ next behind. [])
      ++ otherwise (at + length (T.arms_code s.program s.tables s.routine line exit at lo arms (λ next behind. [])))
      (lo + length (arms_slots s.program s.routine arms))
  arms_split exit at lo no_arms otherwise = ap (λ n. otherwise n lo) (sym (add-zero at)) ∙ ap (otherwise (at + 0)) (sym (add-zero lo))
  arms_split exit at lo (more_arms t body rest) otherwise =
      let first = guarded_code 1 at lo t body ++ own line (I.Jump exit ∷ []) in
      let next = at + length first in
      let low = behind_stmts s.program s.routine (behind_condition s.program s.routine lo t) body in
      let others = T.arms_code s.program s.tables s.routine line exit next low rest (λ next behind. []) in
      let m = mark_slots (is_simple t) in
      let k = test_slots s.program s.routine t in
      let l = stmts_slots s.program s.routine body in
      let z = arms_slots s.program s.routine rest in
      let there : next + length others ≡ at + length (first ++ others) = omega (arith, length-append first others) in
      let under : low + length z ≡ lo + length (m ++ (k ++ (l ++ z))) =
      omega (arith, length-append m (k ++ (l ++ z)), length-append k (l ++ z), length-append l z) in
      ap (λ c. first ++ c) (arms_split exit next low rest otherwise ∙ ap (λ n. others ++ otherwise n (low + length z)) there
      ∙ ap (λ n. others ++ otherwise (at + length (first ++ others)) n) under)
      ∙ sym (append_assoc first others (otherwise (at + length (first ++ others)) (lo + length (m ++ (k ++ (l ++ z))))))

  pub no_arms_put : (a : Front) (exit : ℕ) → PutsArms s line exit a a no_arms
  unfolding stmts_with stmts_phrases
  no_arms_put a exit = record { all = adds_as a a _ _ _ _ _ _ (nothing a) refl refl refl }

  pub four_slots : (m k l z : List SlotKind) → ((m ++ k) ++ l) ++ z ≡ m ++ (k ++ (l ++ z))
  four_slots m k l z = append_assoc (m ++ k) l z ∙ append_assoc m k (l ++ z)

  pub four_long : (lo : ℕ) (m k l : List SlotKind) → lo + length ((m ++ k) ++ l) ≡ lo + length m + length k + length l
  four_long lo m k l = omega (arith, length-append (m ++ k) l, length-append m k)

  pub arms_put : (a d e f : Front) (exit : ℕ) (t : Test) (body : Stmts) (rest : Arms) → PutsGuarded s line 1 a d t body
      → Codes d e (own line (I.Jump exit ∷ [])) → PutsArms s line exit e f rest
      → PutsArms s line exit a f (more_arms t body rest)
  unfolding stmts_with stmts_phrases
  arms_put a d e f exit t body rest h j k =
      let ls = a.lines in
      let u = test_with t ls in
      let x = stmts_with body (behind (test_phrases t) ls) in
      let z = arms_with rest (behind (stmts_phrases body) (behind (test_phrases t) ls)) in
      let first = guarded_code 1 (length a.code) a.next u x ++ own line (I.Jump exit ∷ []) in
      let m = mark_slots (is_simple u) in
      let l = test_slots s.program s.routine u in
      let n = stmts_slots s.program s.routine x in
      record {
        all = adds_as a f _ _ _ _ _ _ (then_adds a e f _ _ _ _ _ _ (adds_code a d e _ _ _ _ h.all j) k.all)
            (ap (λ low. first ++ T.arms_code s.program s.tables s.routine line exit (length a.code + length first) low z
            (λ next behind. [])) (four_long a.next m l n))
            (four_slots m l n (arms_slots s.program s.routine z))
            (sym (behind_two (test_phrases t ++ stmts_phrases body) (arms_phrases rest) ls
            ∙ ap (behind (arms_phrases rest)) (behind_two (test_phrases t) (stmts_phrases body) ls)));
      }
