-- CASE: labels, arms, those that are never tried, and the ELSE part.
use Rattle.std.proofs.Common.{◌≡◌, ℕ, ◌+◌, ◌<◌, Bool, true, false, List, [], ◌∷◌, ◌++◌, length, drop, get_or, refl, sym, ap, ◌∙◌}
use Rattle.std.proofs.Common.{arith, append_assoc, length-append, add-zero}
use Rattle.alma_base.specs.declared.number.Range.{Range}
use Rattle.alma_code.specs.declared.instr.Instr.{Instr}
use Rattle.alma_code.specs.declared.instr.Instr.TheVariants as I
use Rattle.alma_choice.specs.Emitted.{aim_jump}
use Rattle.alma_ir.specs.declared.phrase.CaseArm.{CaseArm}
use Rattle.alma_ir.specs.Tree.{Stmts, CaseArms, Else, no_cases, more_cases, no_else, else_part}
use Rattle.alma_ir.specs.View.{cases_list, stmts_list}
use Rattle.alma_ir.specs.Phrases.{stmts_phrases, cases_phrases, else_phrases}
use Rattle.alma_ir.specs.Lines.{behind, stmts_with, cases_with, else_with}
use Rattle.alma_ir.proofs.LinesBack.{behind_two}
use Rattle.alma_lower_work.specs.Front.{Around, Front, Adds, Codes, Changes, Holes, Turns}
use Rattle.alma_lower_work.specs.Puts.{PutsStmts, PutsCases, PutsCaseArm, PutsDead, PutsDeadBodies, PutsElse}
use Rattle.alma_lower_parts.proofs.LabelForms.{test_long, code_long}
use Rattle.alma_lower_work.proofs.Small.{drop_one}
use Rattle.alma_lower_work.proofs.Joins.{nothing, then_adds, adds_as, turned_back, adds_code, only_code, filled, over, address_behind}
use Rattle.alma_lower_work.proofs.Joins.{own_two}
use Rattle.alma_lower_templates.specs.LineInstr.{LineInstr, own}
use Rattle.alma_lower_templates.specs.Slots.{stmts_slots, dead_slots, cases_slots, else_slots}
use Rattle.alma_lower_templates.specs.Pieces.{test_size, label_code, labels_code, behind_labels, case_arm, passed_over, has_dead}
use Rattle.alma_lower_templates.specs.Templates as T

-- the first of the arms that are left has no label, or the others decide
pub dead_here : (arms : List CaseArm) (i : ℕ) (arm : CaseArm) → i < length arms → arm ≡ get_or arms i arm → length arm.labels.items ≡ 0
    → has_dead (cases_list (drop i arms)) ≡ true
dead_here arms i arm lt is none = ap (λ xs. has_dead (cases_list xs)) (drop_one arms i arm lt is) ∙ by arm.labels.items none
  where
    by : (labels : List Range) → length labels ≡ 0
        → has_dead (more_cases labels (stmts_list arm.body.items) (cases_list (drop (i + 1) arms))) ≡ true
    by [] none = refl
    by (label ∷ labels) none = absurd (omega (arith, none))

pub dead_behind : (arms : List CaseArm) (i : ℕ) (arm : CaseArm) → i < length arms → arm ≡ get_or arms i arm → 0 < length arm.labels.items
    → has_dead (cases_list (drop (i + 1) arms)) ≡ has_dead (cases_list (drop i arms))
dead_behind arms i arm lt is some = by arm.labels.items some ∙ ap (λ xs. has_dead (cases_list xs)) (sym (drop_one arms i arm lt is))
  where
    by : (labels : List Range) → 0 < length labels
        → has_dead (cases_list (drop (i + 1) arms)) ≡ has_dead
        (more_cases labels (stmts_list arm.body.items) (cases_list (drop (i + 1) arms)))
    by [] some = absurd (omega (arith, some))
    by (label ∷ labels) some = refl

module _ (s : Around) (line : ℕ) where
  -- ---- the ELSE part

  pub no_else_put : (a b : Front) → Codes a b (own line (I.Fault 5 ∷ [])) → PutsElse s line a b no_else
  unfolding stmts_with stmts_phrases
  no_else_put a b h = record { all = adds_as a b _ _ _ _ _ _ (only_code a b _ h) refl refl refl }

  pub else_put : (a b : Front) (body : Stmts) → PutsStmts s a b body → PutsElse s line a b (else_part body)
  unfolding stmts_with stmts_phrases
  else_put a b body h = record { all = h.all }

  -- ---- an arm

  labels_end : (value bound at hit miss : ℕ) (label : Range) (rest : List Range)
      → at + length (own line (labels_code value bound at hit miss label rest)) ≡ behind_labels at label rest
  labels_end value bound at hit miss label [] = ap (λ n. at + n) (test_long line value bound miss label)
  labels_end value bound at hit miss label (label2 ∷ rest) =
      let next : ℕ = at + test_size label + 1 in
      let one : List Instr = label_code value bound at hit label in
      let others : List Instr = labels_code value bound next hit miss label2 rest in
      let far : at + length (own line (one ++ others)) ≡ next + length (own line others) =
      omega (
        arith,
        ap length (own_two line one others),
        length-append (own line one) (own line others),
        code_long line value bound at hit label,
      )
      in
      far ∙ labels_end value bound next hit miss label2 rest

  -- the labels, the body, and both jumps of the last label aimed behind the jump that follows
  pub arm_put : (a b c d : Front) (value bound hit target : ℕ) (aim : ℕ → List LineInstr → List LineInstr) (label : Range)
      (rest : List Range)
      (body : Stmts) → hit ≡ behind_labels (length a.code) label rest
      → Holes a b aim (λ miss at lo ls. own line (labels_code value bound at hit miss label rest)) (λ ls. []) (λ ls. ls)
      → PutsStmts s b c body → Changes c d (aim target) → target ≡ length c.code + 1
      → PutsCaseArm s line value bound a d label rest body
  arm_put a b c d value bound hit target aim label rest body is h j k is2 =
      let at = length a.code in
      let x = stmts_with body a.lines in
      let count : (miss : ℕ) → at + length (own line (labels_code value bound at hit miss label rest)) ≡ behind_labels at label rest =
      λ miss. labels_end value bound at hit miss label rest in
      let code : (hit miss next lo : ℕ) → List LineInstr = λ hit miss next lo. own line (labels_code value bound at hit miss label rest)
      ++ T.stmts_code s.program s.tables s.routine next lo x in
      let here = at + length (own line (labels_code value bound at hit 0 label rest)) in
      let body_code : (next lo : ℕ) → List LineInstr = λ next lo. T.stmts_code s.program s.tables s.routine next lo x in
      record {
        all = adds_as a d _ _ _ _ _ _ (filled a b c d _ _ _ _ aim _ _ target (λ n. n + 1) h j.all k is2)
            (ap (λ lo. own line (labels_code value bound at hit (here + length (body_code here lo) + 1) label rest) ++ body_code here lo)
            (add-zero a.next)
            ∙ ap (λ n. own line (labels_code value bound at hit (n + length (body_code n a.next) + 1) label rest) ++ body_code n a.next)
            (count 0)
            ∙ ap (λ h. own line (labels_code value bound at h
            (behind_labels at label rest + length (body_code (behind_labels at label rest) a.next) + 1) label rest)
            ++ body_code (behind_labels at label rest) a.next) is)
            refl refl;
      }

  -- ---- arms behind the first that has a label

  pub cases_split : (value bound exit at lo : ℕ) (arms : CaseArms) (otherwise : (at lo : ℕ) → List LineInstr)
      → T.cases_code s.program s.tables s.routine line value bound exit at lo arms otherwise
      ≡ T.cases_code s.program s.tables s.routine line value bound exit at lo arms (λ next behind. [])
      ++ otherwise (at + length (T.cases_code s.program s.tables s.routine line value bound exit at lo arms (λ next behind. [])))
      (lo + length (cases_slots s.program s.routine arms))
  cases_split value bound exit at lo no_cases otherwise = ap (λ n. otherwise n lo) (sym (add-zero at))
      ∙ ap (otherwise (at + 0)) (sym (add-zero lo))
  cases_split value bound exit at lo (more_cases [] body rest) otherwise = cases_split value bound exit at lo rest otherwise
  cases_split value bound exit at lo (more_cases (label ∷ labels) body rest) otherwise =
      let first = case_arm line value bound at label labels
      (T.stmts_code s.program s.tables s.routine (behind_labels at label labels) lo body)
      ++ own line (I.Jump exit ∷ []) in
      let next = at + length first in
      let l = stmts_slots s.program s.routine body in
      let z = cases_slots s.program s.routine rest in
      let low = lo + length l in
      let others = T.cases_code s.program s.tables s.routine line value bound exit next low rest (λ next behind. []) in
      let there : next + length others ≡ at + length (first ++ others) = omega (arith, length-append first others) in
      let under : low + length z ≡ lo + length (l ++ z) = omega (arith, length-append l z) in
      ap (λ c. first ++ c) (cases_split value bound exit next low rest otherwise ∙ ap (λ n. others ++ otherwise n (low + length z)) there
      ∙ ap (λ n. others ++ otherwise (at + length (first ++ others)) n) under)
      ∙ sym (append_assoc first others (otherwise (at + length (first ++ others)) (lo + length (l ++ z))))

  pub no_cases_put : (a : Front) (value bound exit : ℕ) → PutsCases s line value bound exit a a no_cases
  unfolding stmts_with stmts_phrases
  no_cases_put a value bound exit = record { all = adds_as a a _ _ _ _ _ _ (nothing a) refl refl refl }

  pub cases_put : (a b c d : Front) (value bound exit : ℕ) (label : Range) (labels : List Range) (body : Stmts) (rest : CaseArms)
      → PutsCaseArm s line value bound a b label labels body → Codes b c (own line (I.Jump exit ∷ []))
      → PutsCases s line value bound exit c d rest → PutsCases s line value bound exit a d (more_cases (label ∷ labels) body rest)
  unfolding stmts_with stmts_phrases
  cases_put a b c d value bound exit label labels body rest h j k =
      record {
        all = adds_as a d _ _ _ _ _ _ (then_adds a c d _ _ _ _ _ _ (adds_code a b c _ _ _ _ h.all j) k.all) refl refl
            (sym (behind_two (stmts_phrases body) (cases_phrases rest) a.lines));
      }

  -- ---- the arms without a label

  -- lines change no label
  dead_lined : (arms : CaseArms) (ls : List ℕ) → has_dead (cases_with arms ls) ≡ has_dead arms
  unfolding stmts_with
  dead_lined no_cases ls = refl
  dead_lined (more_cases [] body rest) ls = refl
  dead_lined (more_cases (label ∷ labels) body rest) ls = dead_lined rest (behind (stmts_phrases body) ls)

  no_dead_slots : (arms : CaseArms) → has_dead arms ≡ false → dead_slots s.program s.routine arms ≡ []
  no_dead_slots no_cases h = refl
  no_dead_slots (more_cases [] body rest) h = absurd (cc)
  no_dead_slots (more_cases (label ∷ labels) body rest) h = no_dead_slots rest h

  pub no_bodies_put : (a : Front) → PutsDeadBodies s a a no_cases
  unfolding stmts_with stmts_phrases
  no_bodies_put a = record { all = adds_as a a _ _ _ _ _ _ (nothing a) refl refl refl }

  pub body_put : (a b c : Front) (body : Stmts) (arms : CaseArms) → PutsStmts s a b body → PutsDeadBodies s b c arms
      → PutsDeadBodies s a c (more_cases [] body arms)
  unfolding stmts_with stmts_phrases
  body_put a b c body arms h j =
      record {
        all = adds_as a c _ _ _ _ _ _ (then_adds a b c _ _ _ _ _ _ h.all j.all) refl refl
            (sym (behind_two (stmts_phrases body) (cases_phrases arms) a.lines));
      }

  -- where each arm has a label nothing is added
  pub no_dead_put : (a : Front) (arms : CaseArms) → has_dead arms ≡ false → PutsDead s line a a arms
  no_dead_put a arms none =
      let lined : has_dead (cases_with arms a.lines) ≡ false = dead_lined arms a.lines ∙ none in
      let code : Bool → List LineInstr = λ some. passed_over some line (length a.code)
      (T.dead_code s.program s.tables s.routine (length a.code + 1) a.next (cases_with arms a.lines)) in
      record { all = adds_as a a _ _ _ _ _ _ (nothing a) (ap code (sym lined)) (sym (no_dead_slots (cases_with arms a.lines) lined)) refl }

  -- the jump is aimed behind the bodies, and the lines are those of before
  pub dead_put : (a b c d e : Front) (exit target : ℕ) (arms : CaseArms) → has_dead arms ≡ true → exit ≡ length a.code
      → Codes a b (own line (I.Jump 0 ∷ [])) → PutsDeadBodies s b c arms → Turns c d a.lines
      → Changes d e (λ xs. aim_jump xs exit target) → target ≡ length d.code → PutsDead s line a e arms
  dead_put a b c d e exit target arms some here h j t k is =
      let lined : has_dead (cases_with arms a.lines) ≡ true = dead_lined arms a.lines ∙ some in
      let code : Bool → List LineInstr = λ some. passed_over some line (length a.code)
      (T.dead_code s.program s.tables s.routine (length a.code + 1) a.next (cases_with arms a.lines)) in
      record {
        all = adds_as a e _ _ _ _ _ _ (over a b d e line exit target (I.Jump 0) _ _ _ (λ n. n) here refl h
            (turned_back b c d a.lines _ _ _ j.all t) k is) (ap code (sym lined)) refl refl;
      }

  -- ---- the whole

  -- the first arm with a label leaves over all, the others by its jump
  pub first_case_put : (a b c d e f : Front) (value bound exit target : ℕ) (label : Range) (labels : List Range) (body : Stmts)
      (arms : CaseArms) (rest : Else) → PutsCaseArm s line value bound a b label labels body
      → exit ≡ length b.code → Codes b c (own line (I.Jump 0 ∷ [])) → PutsCases s line value bound exit c d arms → PutsElse s line d e rest
      → Changes e f (λ xs. aim_jump xs exit target) → target ≡ length e.code
      → Adds a f (λ at lo ls. T.case_code s.program s.tables s.routine line value bound at lo
      (cases_with (more_cases (label ∷ labels) body arms) ls)
      (λ next lo. T.else_code s.program s.tables s.routine line next lo
      (else_with rest (behind (cases_phrases arms) (behind (stmts_phrases body) ls)))))
      (λ ls. cases_slots s.program s.routine (cases_with (more_cases (label ∷ labels) body arms) ls)
      ++ else_slots s.program s.routine (else_with rest (behind (cases_phrases arms) (behind (stmts_phrases body) ls))))
      (λ ls. behind (else_phrases rest) (behind (cases_phrases arms) (behind (stmts_phrases body) ls)))
  unfolding stmts_with stmts_phrases
  first_case_put a b c d e f value bound exit target label labels body arms rest h here j k l m is =
      let ls = a.lines in
      let x = stmts_with body ls in
      let y = cases_with arms (behind (stmts_phrases body) ls) in
      let z = else_with rest (behind (cases_phrases arms) (behind (stmts_phrases body) ls)) in
      let first = case_arm line value bound (length a.code) label labels
      (T.stmts_code s.program s.tables s.routine (behind_labels (length a.code) label labels) a.next x) in
      let jump = length a.code + length first in
      let low = a.next + length (stmts_slots s.program s.routine x) in
      let otherwise : (at lo : ℕ) → List LineInstr = λ next lo. T.else_code s.program s.tables s.routine line next lo z in
      let others : ℕ → List LineInstr = λ exit. T.cases_code s.program s.tables s.routine line value bound exit (jump + 1) low y
      (λ next behind. []) in
      let inner : ℕ → List LineInstr = λ exit. others exit
      ++ otherwise (jump + 1 + length (others exit)) (low + length (cases_slots s.program s.routine y)) in
      let code : List LineInstr → List LineInstr = λ c. first ++ (own line (I.Jump (jump + 1 + length c) ∷ []) ++ c) in
      let out : exit ≡ jump = here ∙ address_behind a b _ _ _ h.all in
      adds_as a f _ _ _ _ _ _ (then_adds a b f _ _ _ _ _ _ h.all
      (over b c e f line exit target (I.Jump 0) _ _ _ (λ n. n) here refl j (then_adds c d e _ _ _ _ _ _ k.all l.all) m is))
      (ap (λ n. code (inner n)) out ∙ ap code (sym (cases_split value bound jump (jump + 1) low y otherwise)))
      (sym (append_assoc (stmts_slots s.program s.routine x) (cases_slots s.program s.routine y) (else_slots s.program s.routine z))) refl
