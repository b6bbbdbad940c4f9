-- The arms of CASE: those without a label have their code before the others, and their lines are passed over there.
use Rattle.std.proofs.Common.{◌≡◌, ℕ, ◌+◌, ◌<◌, true, List, [], ◌∷◌, ◌++◌, length, drop, refl, sym, ap, ◌∙◌, subst, arith}
use Rattle.std.proofs.Common.{add-zero}
use Rattle.alma_base.specs.declared.number.Range.{Range}
use Rattle.alma_code.specs.declared.cell.SlotKind.TheVariants as slot
use Rattle.alma_code.specs.declared.instr.Instr.TheVariants as I
use Rattle.alma_choice.specs.Emitted.{aim_jump}
use Rattle.alma_ir.specs.Tree.{Stmts, CaseArms, Else, Expr, Case, no_cases, more_cases}
use Rattle.alma_ir.specs.Phrases.{stmts_phrases, cases_phrases, else_phrases, expr_phrases}
use Rattle.alma_ir.specs.Lines.{behind, stmts_with, cases_with, else_with, expr_with}
use Rattle.alma_ir.proofs.LinesBack.{behind_two}
use Rattle.alma_lower_work.specs.Front.{Around, Front, Adds, Codes, Changes, Holes, Turns}
use Rattle.alma_lower_work.specs.Puts.{PutsExpr, PutsStmts, PutsStmt, PutsCases, PutsDead, PutsDeadBodies, PutsElse, all_labels, behind_all}
use Rattle.alma_lower_work.proofs.Joins.{then_adds, adds_as, holes_as}
use Rattle.alma_lower_parts.proofs.LoopForms.{turned}
use Rattle.alma_lower_parts.proofs.CaseForms.{arm_put, cases_put, body_put, dead_put, first_case_put}
use Rattle.alma_lower_parts.specs.Cases.{PutsAllArms, PutsArmOf}
use Rattle.alma_lower_templates.specs.LineInstr.{LineInstr, own}
use Rattle.alma_lower_templates.specs.Pieces.{behind_labels, passed_over, has_dead}
use Rattle.alma_lower_templates.specs.Slots.{expr_slots, dead_slots, cases_slots, else_slots}
use Rattle.alma_lower_templates.specs.Templates as T

module _ (s : Around) (line : ℕ) where
  -- the lines behind a body and other arms
  two : (body : Stmts) (arms : CaseArms) (ls : List ℕ)
      → behind (cases_phrases arms) (behind (stmts_phrases body) ls) ≡ behind (stmts_phrases body ++ cases_phrases arms) ls
  two body arms ls = sym (behind_two (stmts_phrases body) (cases_phrases arms) ls)

  pub all_none : (a b : Front) (value bound : ℕ) (rest : Else) → PutsElse s line a b rest → PutsAllArms s line value bound a b no_cases rest
  unfolding stmts_with stmts_phrases
  all_none a b value bound rest h = record { all = h.all }

  pub all_skip : (a b c : Front) (value bound : ℕ) (body : Stmts) (arms : CaseArms) (rest : Else)
      → Turns a b (behind (stmts_phrases body) a.lines) → PutsAllArms s line value bound b c arms rest
      → PutsAllArms s line value bound a c (more_cases [] body arms) rest
  unfolding stmts_with stmts_phrases
  all_skip a b c value bound body arms rest h j =
      let ls = a.lines in
      let ms = behind (stmts_phrases body) ls in
      let x = cases_with arms ms in
      record {
        all = adds_as a c _ _ _ _ _ _ (turned s line a b c ms _ _ _ h j.all)
            (ap (λ m. T.case_code s.program s.tables s.routine line value bound (length a.code) a.next x
            (λ next lo. T.else_code s.program s.tables s.routine line next lo (else_with rest m))) (two body arms ls))
            (ap (λ m. cases_slots s.program s.routine x ++ else_slots s.program s.routine (else_with rest m)) (two body arms ls))
            (ap (behind (else_phrases rest)) (two body arms ls));
      }

  pub cases_skip : (a b c : Front) (value bound exit : ℕ) (body : Stmts) (arms : CaseArms) → Turns a b (behind (stmts_phrases body) a.lines)
      → PutsCases s line value bound exit b c arms
      → PutsCases s line value bound exit a c (more_cases [] body arms)
  unfolding stmts_with stmts_phrases
  cases_skip a b c value bound exit body arms h j =
      record {
        all = adds_as a c _ _ _ _ _ _ (turned s line a b c (behind (stmts_phrases body) a.lines) _ _ _ h j.all) refl refl
            (two body arms a.lines);
      }

  pub all_first : (a b c d e f : Front) (value bound exit target : ℕ) (labels : List Range) (body : Stmts) (arms : CaseArms) (rest : Else)
      → PutsArmOf s line value bound a b labels body
      → exit ≡ length b.code → Codes b c (own line (I.Jump 0 ∷ [])) → PutsCases s line value bound exit c d arms → PutsElse s line d e rest
      → Changes e f (λ xs. aim_jump xs exit target) → target ≡ length e.code
      → PutsAllArms s line value bound a f (more_cases labels body arms) rest
  unfolding stmts_with stmts_phrases
  all_first a b c d e f value bound exit target [] body arms rest h here j k l m is = absurd h
  all_first a b c d e f value bound exit target (label ∷ labels) body arms rest h here j k l m is =
      let ls = a.lines in
      let x = cases_with (more_cases (label ∷ labels) body arms) ls in
      record {
        all = adds_as a f _ _ _ _ _ _ (first_case_put s line a b c d e f value bound exit target label labels body arms rest h here j k l m
            is)
            (ap (λ m. T.case_code s.program s.tables s.routine line value bound (length a.code) a.next x
            (λ next lo. T.else_code s.program s.tables s.routine line next lo (else_with rest m))) (two body arms ls))
            (ap (λ m. cases_slots s.program s.routine x ++ else_slots s.program s.routine (else_with rest m)) (two body arms ls))
            (ap (behind (else_phrases rest)) (two body arms ls));
      }

  pub next_arm : (a b c d : Front) (value bound exit : ℕ) (labels : List Range) (body : Stmts) (arms : CaseArms)
      → PutsArmOf s line value bound a b labels body → Codes b c (own line (I.Jump exit ∷ []))
      → PutsCases s line value bound exit c d arms → PutsCases s line value bound exit a d (more_cases labels body arms)
  next_arm a b c d value bound exit [] body arms h j k = absurd h
  next_arm a b c d value bound exit (label ∷ labels) body arms h j k =
      cases_put s line a b c d value bound exit label labels body arms h j k

  pub skipped_arm : (a b c : Front) (value bound exit : ℕ) (labels : List Range) (body : Stmts) (arms : CaseArms) → length labels ≡ 0
      → Turns a b (behind (stmts_phrases body) a.lines) → PutsCases s line value bound exit b c arms
      → PutsCases s line value bound exit a c (more_cases labels body arms)
  skipped_arm a b c value bound exit [] body arms none h j = cases_skip a b c value bound exit body arms h j
  skipped_arm a b c value bound exit (label ∷ labels) body arms none h j = absurd (omega (arith, none))

  pub skipped_all : (a b c : Front) (value bound : ℕ) (labels : List Range) (body : Stmts) (arms : CaseArms) (rest : Else)
      → length labels ≡ 0 → Turns a b (behind (stmts_phrases body) a.lines) → PutsAllArms s line value bound b c arms rest
      → PutsAllArms s line value bound a c (more_cases labels body arms) rest
  skipped_all a b c value bound [] body arms rest none h j = all_skip a b c value bound body arms rest h j
  skipped_all a b c value bound (label ∷ labels) body arms rest none h j = absurd (omega (arith, none))

  -- the labels, the body, and both jumps of the last label
  pub arm_of : (a b c d e : Front) (value bound low high target : ℕ) (labels : List Range) (body : Stmts) → 0 < length labels
      → Holes a b (λ to xs. aim_jump (aim_jump xs low to) high to)
      (λ none at lo ls. own line (all_labels value bound at (behind_all at labels) none labels)) (λ ls. []) (λ ls. ls)
      → PutsStmts s b c body → target ≡ length c.code + 1 → Changes c d (λ xs. aim_jump xs low target)
      → Changes d e (λ xs. aim_jump xs high target) → PutsArmOf s line value bound a e labels body
  arm_of a b c d e value bound low high target [] body some h j is k l = absurd (omega (arith, some))
  arm_of a b c d e value bound low high target (label ∷ labels) body some h j is k l =
      let both : Changes c e (λ xs. aim_jump (aim_jump xs low target) high target) = record {
        instrs = l.instrs ∙ ap (λ xs. aim_jump xs high target) k.instrs;
        taken = l.taken ∙ k.taken;
        next_slot = l.next_slot ∙ k.next_slot;
        left = l.left ∙ k.left;
        whole = l.whole ∙ k.whole;
      } in
      arm_put s line a b c e value bound (behind_labels (length a.code) label labels) target
      (λ to xs. aim_jump (aim_jump xs low to) high to)
      label labels body refl (holes_as a b _ _ _ _ _ _ _ h (λ to. refl) refl refl) j both is

  pub turns_is : (a b : Front) (x y : Stmts) → x ≡ y → Turns a b (behind (stmts_phrases x) a.lines)
      → Turns a b (behind (stmts_phrases y) a.lines)
  turns_is a b x y e h = subst (λ z. Turns a b (behind (stmts_phrases z) a.lines)) e h

  -- ---- the arms without a label

  pub passed_body : (a b c : Front) (labels : List Range) (body : Stmts) (arms : CaseArms) → 0 < length labels
      → Turns a b (behind (stmts_phrases body) a.lines) → PutsDeadBodies s b c arms
      → PutsDeadBodies s a c (more_cases labels body arms)
  unfolding stmts_with stmts_phrases
  passed_body a b c [] body arms some h j = absurd (omega (arith, some))
  passed_body a b c (label ∷ labels) body arms some h j =
      record {
        all = adds_as a c _ _ _ _ _ _ (turned s line a b c (behind (stmts_phrases body) a.lines) _ _ _ h j.all) refl refl
            (two body arms a.lines);
      }

  pub dead_body : (a b c : Front) (labels : List Range) (body : Stmts) (arms : CaseArms) → length labels ≡ 0 → PutsStmts s a b body
      → PutsDeadBodies s b c arms → PutsDeadBodies s a c (more_cases labels body arms)
  dead_body a b c [] body arms none h j = body_put s line a b c body arms h j
  dead_body a b c (label ∷ labels) body arms none h j = absurd (omega (arith, none))

  pub dead_joined : (a b c d e : Front) (before exit : ℕ) (arms : CaseArms) → has_dead arms ≡ true → a.lines ≡ drop before a.all_lines
      → exit ≡ length a.code → Codes a b (own line (I.Jump 0 ∷ [])) → PutsDeadBodies s b c arms
      → d.code ≡ c.code → d.kinds ≡ c.kinds → d.next ≡ c.next → d.lines ≡ drop before c.all_lines → d.all_lines ≡ c.all_lines
      → Changes d e (λ xs. aim_jump xs exit (length d.code + 0)) → PutsDead s line a e arms
  dead_joined a b c d e before exit arms some before_is here h j code kinds next lines whole k =
      let back : Turns c d a.lines = record {
        instrs = code;
        taken = kinds;
        next_slot = next;
        left = lines
            ∙ ap (drop before) (j.all.whole ∙ h.whole) ∙ sym before_is;
        whole = whole;
      } in
      dead_put s line a b c d e exit (length d.code + 0) arms some here h j back k (add-zero (length d.code))

  -- ---- the whole

  pub case_put : (a b c d e : Front) (value bound : ℕ) (x : Expr) (arms : CaseArms) (rest : Else) → PutsExpr s line a b x → value ≡ a.next
      → PutsDead s line b c arms
      → Adds c d (λ at lo ls. []) (λ ls. slot.Number ∷ slot.Number ∷ []) (λ ls. ls) → bound ≡ c.next
      → PutsAllArms s line value bound d e arms rest → PutsStmt s line a e (Case x arms rest)
  unfolding stmts_with stmts_phrases
  case_put a b c d e value bound x arms rest h is dead j is2 k =
      let ls = a.lines in
      let ms = behind (expr_phrases x) ls in
      let u = expr_with x ls in
      let first = T.expr_code s.program s.tables s.routine line (length a.code) a.next u in
      let y = cases_with arms ms in
      let next = length a.code + length first in
      let low = a.next + length (expr_slots s.program s.routine u) in
      let over = passed_over (has_dead y) line next (T.dead_code s.program s.tables s.routine (next + 1) low y) in
      let under = low + length (dead_slots s.program s.routine y) in
      let bound_is : bound ≡ under = is2 ∙ dead.all.next_slot
      ∙ ap (λ n. n + length (dead_slots s.program s.routine (cases_with arms b.lines))) h.all.next_slot
      ∙ ap (λ m. low + length (dead_slots s.program s.routine (cases_with arms m))) h.all.left in
      let all : (value bound at : ℕ) → List LineInstr = λ value bound at. T.case_code s.program s.tables s.routine line value bound
      at (under + 2) y (λ next lo. T.else_code s.program s.tables s.routine line next lo
      (else_with rest (behind (cases_phrases arms) ms))) in
      record {
        all = adds_as a e _ _ _ _ _ _ (then_adds a b e _ _ _ _ _ _ h.all
            (then_adds b c e _ _ _ _ _ _ dead.all (then_adds c d e _ _ _ _ _ _ j k.all)))
            (ap (λ n. first ++ (over ++ all n bound (next + length over + 0))) is
            ∙ ap (λ n. first ++ (over ++ all a.next n (next + length over + 0))) bound_is
            ∙ ap (λ n. first ++ (over ++ all a.next under n)) (add-zero (next + length over)))
            refl
            (sym (behind_two (expr_phrases x ++ cases_phrases arms) (else_phrases rest) ls
            ∙ ap (behind (else_phrases rest)) (behind_two (expr_phrases x) (cases_phrases arms) ls)));
      }
