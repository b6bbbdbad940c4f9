-- IF, WHILE, REPEAT, and a test as a number.
use Rattle.std.proofs.Common.{◌≡◌, ℕ, ◌+◌, false, List, [], ◌∷◌, ◌++◌, length, pos, refl, sym, ap, ◌∙◌, arith, append_assoc}
use Rattle.std.proofs.lemmas.List.{append-nil}
use Rattle.alma_code.specs.declared.cell.SlotKind.TheVariants as slot
use Rattle.alma_code.specs.declared.instr.Instr.TheVariants as I
use Rattle.alma_choice.specs.Emitted.{aim_jump}
use Rattle.alma_ir.specs.Tree.{Stmts, Arms, Test, If, While, Repeat, Truth, no_arms, more_arms}
use Rattle.alma_ir.specs.Phrases.{stmts_phrases, arms_phrases, test_phrases}
use Rattle.alma_ir.specs.Lines.{behind, stmts_with, arms_with, test_with}
use Rattle.alma_ir.proofs.LinesBack.{behind_two}
use Rattle.alma_lower_work.specs.Front.{Around, Front, Codes, Takes, Changes}
use Rattle.alma_lower_work.specs.Puts.{PutsExpr, PutsGuard, PutsGuarded, PutsStmts, PutsStmt, PutsArms}
use Rattle.alma_lower_work.proofs.Joins.{then_adds, adds_as, code_adds, adds_code, slot_adds, closed, over, address_behind}
use Rattle.alma_lower_parts.proofs.GuardForms.{condition_code, guarded_code, arms_split, four_long}
use Rattle.alma_lower_parts.proofs.TurnedForms.{turned_with}
use Rattle.alma_lower_templates.specs.LineInstr.{LineInstr, own}
use Rattle.alma_lower_templates.specs.Slots.{is_simple, is_turned, by_turn, mark_slots, test_slots, stmts_slots, arms_slots}
use Rattle.alma_lower_templates.specs.Slots.{held_constant, held_slots}
use Rattle.alma_lower_templates.specs.Pieces.{guard_code}
use Rattle.alma_lower_templates.specs.Templates as T
use Rattle.alma_lower_templates.proofs.Turned.{while_code}

module _ (s : Around) (line : ℕ) where
  pub else_put : (a b : Front) (rest : Stmts) → PutsStmts s a b rest → PutsStmt s line a b (If no_arms rest)
  unfolding stmts_with stmts_phrases
  else_put a b rest h = record { all = h.all }

  pub if_put : (a d e f g h : Front) (exit target : ℕ) (t : Test) (body : Stmts) (arms : Arms) (rest : Stmts)
      → PutsGuarded s line 1 a d t body → exit ≡ length d.code → Codes d e (own line (I.Jump 0 ∷ []))
      → PutsArms s line exit e f arms → PutsStmts s f g rest → Changes g h (λ xs. aim_jump xs exit target) → target ≡ length g.code
      → PutsStmt s line a h (If (more_arms t body arms) rest)
  unfolding stmts_with stmts_phrases
  if_put a d e f g h exit target t body arms rest x here j k l m is =
      let ls = a.lines in
      let u = test_with t ls in
      let b = stmts_with body (behind (test_phrases t) ls) in
      let ls2 = behind (stmts_phrases body) (behind (test_phrases t) ls) in
      let y = arms_with arms ls2 in
      let z = stmts_with rest (behind (arms_phrases arms) ls2) in
      let lines : behind (arms_phrases arms) ls2 ≡ behind ((test_phrases t ++ stmts_phrases body) ++ arms_phrases arms) ls =
      sym (behind_two (test_phrases t ++ stmts_phrases body) (arms_phrases arms) ls
      ∙ ap (behind (arms_phrases arms)) (behind_two (test_phrases t) (stmts_phrases body) ls)) in
      let first = guarded_code s line 1 (length a.code) a.next u b in
      let jump = length a.code + length first in
      let mm = mark_slots (is_simple u) in
      let kk = test_slots s.program s.routine u in
      let nn = stmts_slots s.program s.routine b in
      let low = a.next + length mm + length kk + length nn in
      let otherwise : (at lo : ℕ) → List LineInstr = λ next lo. T.stmts_code s.program s.tables s.routine next lo z in
      let others : (exit lo : ℕ) → List LineInstr = λ exit lo. T.arms_code s.program s.tables s.routine line exit (jump + 1) lo y
      (λ next behind. []) in
      let inner : (exit lo : ℕ) → List LineInstr = λ exit lo. others exit lo ++ otherwise (jump + 1 + length (others exit lo))
      (lo + length (arms_slots s.program s.routine y)) in
      let code : List LineInstr → List LineInstr = λ c. first ++ (own line (I.Jump (jump + 1 + length c) ∷ []) ++ c) in
      let out : exit ≡ jump = here ∙ address_behind a d _ _ _ x.all in
      let all = then_adds a d h _ _ _ _ _ _ x.all
      (over d e g h line exit target (I.Jump 0) _ _ _ (λ n. n) here refl j (then_adds e f g _ _ _ _ _ _ k.all l.all) m is) in
      record {
        all = adds_as a h _ _ _ _ _ _ all
            (ap (λ n. code (inner n (a.next + length ((mm ++ kk) ++ nn)))) out
            ∙ ap (λ n. code (inner jump n)) (four_long s line a.next mm kk nn)
            ∙ ap code (sym (arms_split s line jump (jump + 1) low y otherwise))
            ∙ ap (λ m. code (T.arms_code s.program s.tables s.routine line jump (jump + 1) low y
            (λ next lo. T.stmts_code s.program s.tables s.routine next lo (stmts_with rest m)))) lines)
            (append_assoc (mm ++ kk) nn _ ∙ append_assoc mm kk _
            ∙ ap (λ c. mm ++ c) (ap (λ c. kk ++ c)
            (sym (append_assoc nn (arms_slots s.program s.routine y) (stmts_slots s.program s.routine z)))
            ∙ sym (append_assoc kk (nn ++ arms_slots s.program s.routine y) (stmts_slots s.program s.routine z)))
            ∙ sym (append_assoc mm (kk ++ (nn ++ arms_slots s.program s.routine y)) (stmts_slots s.program s.routine z))
            ∙ ap (λ m. (mm ++ (kk ++ (nn ++ arms_slots s.program s.routine y))) ++ stmts_slots s.program s.routine (stmts_with rest m))
            lines)
            (sym (behind_two ((test_phrases t ++ stmts_phrases body) ++ arms_phrases arms) (stmts_phrases rest) ls
            ∙ ap (behind (stmts_phrases rest)) (behind_two (test_phrases t ++ stmts_phrases body) (arms_phrases arms) ls
            ∙ ap (behind (arms_phrases arms)) (behind_two (test_phrases t) (stmts_phrases body) ls))));
      }

  pub while_put : (a b c d : Front) (top : ℕ) (t : Test) (body : Stmts) → is_turned t ≡ false → top ≡ length a.code + 1
      → Codes a b (own line (I.Jump top ∷ []))
      → PutsGuarded s line 1 b c t body → Codes c d (own line (I.Jump top ∷ []))
      → PutsStmt s line a d (While t body)
  unfolding stmts_with stmts_phrases
  while_put a b c d top t body before is h j k =
      let ls = a.lines in
      let at = length a.code in
      let u = test_with t ls in
      let x = stmts_with body (behind (test_phrases t) ls) in
      let inner = guarded_code s line 1 (at + 1) a.next u x in
      let z : is_turned u ≡ false = turned_with t ls ∙ before in
      record {
        all = adds_as a d _ _ _ _ _ _ (code_adds a b d _ _ _ _ h (adds_code b c d _ _ _ _ j.all k))
            (ap (λ n. own line (I.Jump n ∷ []) ++ (inner ++ own line (I.Jump n ∷ []))) is
            ∙ ap (λ k. while_code s.program s.tables s.routine k line at a.next u x) (sym z))
            (append_assoc (mark_slots (is_simple u)) (test_slots s.program s.routine u) (stmts_slots s.program s.routine x)
            ∙ ap (λ k. by_turn k (held_slots (held_constant u) ++ (stmts_slots s.program s.routine x ++ test_slots s.program s.routine u))
            (mark_slots (is_simple u) ++ (test_slots s.program s.routine u ++ stmts_slots s.program s.routine x))) (sym z))
            (sym (behind_two (test_phrases t) (stmts_phrases body) ls));
      }

  pub repeat_put : (a b c d : Front) (top : ℕ) (aim : ℕ → List LineInstr → List LineInstr) (body : Stmts) (t : Test) → top ≡ length a.code
      → PutsStmts s a b body → PutsGuard s line b c aim t → Changes c d (aim top)
      → PutsStmt s line a d (Repeat body t)
  unfolding stmts_with stmts_phrases
  repeat_put a b c d top aim body t is h j k =
      let ls = a.lines in
      let x = stmts_with body ls in
      let first = T.stmts_code s.program s.tables s.routine (length a.code) a.next x in
      record {
        all = adds_as a d _ _ _ _ _ _ (then_adds a b d _ _ _ _ _ _ h.all (closed b c d _ _ aim _ top j.all k))
            (ap (λ n. first ++ condition_code s line n (length a.code + length first) (a.next + length (stmts_slots s.program s.routine x))
            (test_with t (behind (stmts_phrases body) ls))) is)
            refl (sym (behind_two (stmts_phrases body) (test_phrases t) ls));
      }

  pub truth_put : (a b c d e : Front) (to target jump : ℕ) (aim : ℕ → List LineInstr → List LineInstr) (t : Test) → Takes a b slot.Number
      → to ≡ a.next → PutsGuard s line b c aim t → Changes c d (aim target)
      → target ≡ length c.code + 2 → jump ≡ length d.code + 3
      → Codes d e (own line (I.Const to (pos 1) ∷ I.Jump jump ∷ I.Const to (pos 0) ∷ [])) → PutsExpr s line a e (Truth t)
  unfolding stmts_with stmts_phrases
  truth_put a b c d e to target jump aim t h is j k is2 is3 l =
      let u = test_with t a.lines in
      let at = length a.code in
      let lo = a.next + 1 in
      let cond : ℕ → List LineInstr = λ n. condition_code s line n at lo u in
      let guard = closed b c d _ _ aim _ target j.all k in
      let at2 : length b.code ≡ at = ap length h.instrs in
      let mine : condition_code s line 0 (length b.code) b.next (test_with t b.lines) ≡ cond 0 =
      ap (λ n. condition_code s line 0 n b.next (test_with t b.lines)) at2
      ∙ ap (λ n. condition_code s line 0 at n (test_with t b.lines)) h.next_slot
      ∙ ap (λ n. condition_code s line 0 at lo (test_with t n)) h.left in
      let far : target ≡ at + length (cond 0) + 0 + 2 = omega (arith, is2, address_behind b c _ _ _ j.all.all, at2, ap length mine) in
      let all = slot_adds a b e _ _ _ _ h (adds_code b d e _ _ _ _ guard l) in
      let mine2 : condition_code s line target (length b.code) b.next (test_with t b.lines) ≡ cond target =
      ap (λ n. condition_code s line target n b.next (test_with t b.lines)) at2
      ∙ ap (λ n. condition_code s line target at n (test_with t b.lines)) h.next_slot
      ∙ ap (λ n. condition_code s line target at lo (test_with t n)) h.left in
      let jumps : jump ≡ at + length (cond target) + 3 = omega (arith, is3, address_behind b d _ _ _ guard, at2, ap length mine2) in
      let whole = guard_code at 2 (λ none. cond none) (λ next. []) in
      let done : cond target ≡ whole = ap cond far ∙ sym (append-nil (cond (at + length (cond 0) + 0 + 2))) in
      record {
        all = adds_as a e _ _ _ _ _ _ all
            (ap (λ n. cond target ++ own line (I.Const to (pos 1) ∷ I.Jump n ∷ I.Const to (pos 0) ∷ [])) jumps
            ∙ ap (λ n. cond target ++ own line (I.Const n (pos 1) ∷ I.Jump (at + length (cond target) + 3) ∷ I.Const n (pos 0) ∷ [])) is
            ∙ ap (λ c. c ++ own line (I.Const a.next (pos 1) ∷ I.Jump (at + length c + 3) ∷ I.Const a.next (pos 0) ∷ [])) done)
            refl refl;
      }
