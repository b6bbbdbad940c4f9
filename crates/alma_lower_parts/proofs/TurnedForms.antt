-- WHILE whose condition stands behind its body. The lines of the condition come before those of the body; a simple condition has none.
use Rattle.std.proofs.Common.{◌≡◌, ℕ, ℤ, ◌+◌, true, false, List, [], ◌∷◌, ◌++◌, length, drop, Option, Some, None, refl, sym, ap, ◌∙◌}
use Rattle.std.proofs.Common.{arith, subst}
use Rattle.std.specs.Prelude.{◌&&◌}
use Rattle.std.proofs.lemmas.Bool.{and_parts}
use Rattle.std.proofs.lemmas.List.{append-nil}
use Rattle.alma_code.specs.declared.cell.SlotKind.{SlotKind}
use Rattle.alma_code.specs.declared.cell.SlotKind.TheVariants as slot
use Rattle.alma_code.specs.declared.instr.Instr.TheVariants as I
use Rattle.alma_choice.specs.Emitted.{aim_jump}
use Rattle.alma_ir.specs.declared.phrase.Cmp.{Cmp}
use Rattle.alma_ir.specs.Tree.{Stmts, Test, Expr, Links, Desig, Sels, Sel, While, Value, Bind, Unify, SameCells, Seq, And, Or, Not}
use Rattle.alma_ir.specs.Tree.{CallTest}
use Rattle.alma_ir.specs.Tree.{Const, Load, Chain, Compare, Truth, Known, Chr, CallExpr, no_links, more_links, a_desig, no_sels, more_sels}
use Rattle.alma_ir.specs.Tree.{Field, Index}
use Rattle.alma_ir.specs.Phrases.{stmts_phrases, test_phrases, expr_phrases, links_phrases, desig_phrases, sels_phrases, sel_phrases}
use Rattle.alma_ir.specs.Lines.{stmt_count, behind, stmts_with, test_with, expr_with, links_with, desig_with, sels_with, sel_with}
use Rattle.alma_ir.proofs.LinesBack.{count_sum, behind_two}
use Rattle.alma_lower_work.specs.Front.{Around, Front, Adds, Codes, Takes, Changes}
use Rattle.alma_lower_work.specs.Puts.{PutsFirstOperand, PutsValue, PutsBack, PutsStmts, PutsStmt, value_slot}
use Rattle.alma_lower_work.proofs.Joins.{nothing, then_adds, adds_as, adds_code, slot_adds, adds_slot, only_code, over}
use Rattle.alma_lower_work.proofs.Joins.{address_after}
use Rattle.alma_lower_parts.specs.Steps.{held_slot, HoldsConstant, PutsSlot}
use Rattle.alma_lower_parts.proofs.With.{simple_expr, stays_with, constant_with}
use Rattle.alma_lower_templates.specs.LineInstr.{LineInstr, own, in_row}
use Rattle.alma_lower_templates.specs.Slots.{bare, stays, unless_bare, is_simple, is_simple_expr, are_simple_links, is_simple_desig}
use Rattle.alma_lower_templates.specs.Slots.{are_simple_sels, is_simple_sel, is_turned, by_turn, has_opposite, mark_slots, test_slots}
use Rattle.alma_lower_templates.specs.Slots.{stmts_slots, expr_slots, constant, held_constant, held_slots}
use Rattle.alma_lower_templates.specs.Pieces.{opposite_code, turned_loop, unless_constant, held_code, held_or}
use Rattle.alma_lower_templates.specs.Templates as T
use Rattle.alma_lower_templates.proofs.Turned.{Turned, compares_two, turned, while_code}

-- ---- simple phrases have no statement inside

mutual
  unfolding stmts_with

  same_expr : (e : Expr) (ls : List ℕ) → is_simple_expr e ≡ true → expr_with e ls ≡ e
  same_expr (Const n) ls h = refl
  same_expr (Load d) ls h = ap Load (same_desig d ls h)
  same_expr (Chain negated e links) ls h =
      let z = and_parts (is_simple_expr e) (are_simple_links links) h in
      ap (λ x. Chain negated x (links_with links (behind (expr_phrases e) ls))) (same_expr e ls z.0)
      ∙ ap (Chain negated e) (same_links links (behind (expr_phrases e) ls) z.1)
  same_expr (Compare how x y) ls h =
      let z = and_parts (is_simple_expr x) (is_simple_expr y) h in
      ap (λ k. Compare how k (expr_with y (behind (expr_phrases x) ls))) (same_expr x ls z.0)
      ∙ ap (Compare how x) (same_expr y (behind (expr_phrases x) ls) z.1)
  same_expr (Truth t) ls h = absurd (let bad : false ≡ true = h in cc)
  same_expr (Known d) ls h = ap Known (same_desig d ls h)
  same_expr (Chr e) ls h = ap Chr (same_expr e ls h)
  same_expr (CallExpr called args up) ls h = absurd (let bad : false ≡ true = h in cc)

  same_links : (links : Links) (ls : List ℕ) → are_simple_links links ≡ true → links_with links ls ≡ links
  same_links no_links ls h = refl
  same_links (more_links how e rest) ls h =
      let z = and_parts (is_simple_expr e) (are_simple_links rest) h in
      ap (λ x. more_links how x (links_with rest (behind (expr_phrases e) ls))) (same_expr e ls z.0)
      ∙ ap (more_links how e) (same_links rest (behind (expr_phrases e) ls) z.1)

  same_desig : (d : Desig) (ls : List ℕ) → is_simple_desig d ≡ true → desig_with d ls ≡ d
  same_desig (a_desig root cells sels) ls h = ap (a_desig root cells) (same_sels sels ls h)

  same_sels : (sels : Sels) (ls : List ℕ) → are_simple_sels sels ≡ true → sels_with sels ls ≡ sels
  same_sels no_sels ls h = refl
  same_sels (more_sels x rest) ls h =
      let z = and_parts (is_simple_sel x) (are_simple_sels rest) h in
      ap (λ k. more_sels k (sels_with rest (behind (sel_phrases x) ls))) (same_sel x ls z.0)
      ∙ ap (more_sels x) (same_sels rest (behind (sel_phrases x) ls) z.1)

  same_sel : (x : Sel) (ls : List ℕ) → is_simple_sel x ≡ true → sel_with x ls ≡ x
  same_sel (Field offset cells) ls h = refl
  same_sel (Index e range cells) ls h = ap (λ k. Index k range cells) (same_expr e ls h)

mutual
  unfolding stmts_phrases

  none_in_expr : (e : Expr) → is_simple_expr e ≡ true → stmt_count (expr_phrases e) ≡ 0
  none_in_expr (Const n) h = refl
  none_in_expr (Load d) h = none_in_desig d h
  none_in_expr (Chain negated e links) h =
      let z = and_parts (is_simple_expr e) (are_simple_links links) h in
      omega (arith, count_sum (expr_phrases e) (links_phrases links), none_in_expr e z.0, none_in_links links z.1)
  none_in_expr (Compare how x y) h =
      let z = and_parts (is_simple_expr x) (is_simple_expr y) h in
      omega (arith, count_sum (expr_phrases x) (expr_phrases y), none_in_expr x z.0, none_in_expr y z.1)
  none_in_expr (Truth t) h = absurd (let bad : false ≡ true = h in cc)
  none_in_expr (Known d) h = none_in_desig d h
  none_in_expr (Chr e) h = none_in_expr e h
  none_in_expr (CallExpr called args up) h = absurd (let bad : false ≡ true = h in cc)

  none_in_links : (links : Links) → are_simple_links links ≡ true → stmt_count (links_phrases links) ≡ 0
  none_in_links no_links h = refl
  none_in_links (more_links how e rest) h =
      let z = and_parts (is_simple_expr e) (are_simple_links rest) h in
      omega (arith, count_sum (expr_phrases e) (links_phrases rest), none_in_expr e z.0, none_in_links rest z.1)

  none_in_desig : (d : Desig) → is_simple_desig d ≡ true → stmt_count (desig_phrases d) ≡ 0
  none_in_desig (a_desig root cells sels) h = none_in_sels sels h

  none_in_sels : (sels : Sels) → are_simple_sels sels ≡ true → stmt_count (sels_phrases sels) ≡ 0
  none_in_sels no_sels h = refl
  none_in_sels (more_sels x rest) h =
      let z = and_parts (is_simple_sel x) (are_simple_sels rest) h in
      omega (arith, count_sum (sel_phrases x) (sels_phrases rest), none_in_sel x z.0, none_in_sels rest z.1)

  none_in_sel : (x : Sel) → is_simple_sel x ≡ true → stmt_count (sel_phrases x) ≡ 0
  none_in_sel (Field offset cells) h = refl
  none_in_sel (Index e range cells) h = none_in_expr e h

-- nor has a condition that is tested behind the body
same_test : (t : Test) (ls : List ℕ) → is_turned t ≡ true → test_with t ls ≡ t
unfolding stmts_with
same_test t ls e = by (turned t e)
  where
    by : Turned t → test_with t ls ≡ t
    by (compares_two how x y is opposite simple) =
        ap (λ u. test_with u ls) is ∙ ap Value (same_expr (Compare how x y) ls simple) ∙ sym is

passes : (t : Test) (ls : List ℕ) → is_turned t ≡ true → behind (test_phrases t) ls ≡ ls
unfolding stmts_phrases
passes t ls e = by (turned t e)
  where
    by : Turned t → behind (test_phrases t) ls ≡ ls
    by (compares_two how x y is opposite simple) =
        ap (λ u. behind (test_phrases u) ls) is ∙ ap (λ n. drop n ls) (none_in_expr (Compare how x y) simple)

-- lines do not turn a condition
pub turned_with : (t : Test) (ls : List ℕ) → is_turned (test_with t ls) ≡ is_turned t
unfolding stmts_with
turned_with (Value (Compare how x y)) ls = ap (λ b. has_opposite how && b) (simple_expr (Compare how x y) ls)
turned_with (Value (Const n)) ls = refl
turned_with (Value (Load d)) ls = refl
turned_with (Value (Chain negated e links)) ls = refl
turned_with (Value (Truth t)) ls = refl
turned_with (Value (Known d)) ls = refl
turned_with (Value (Chr e)) ls = refl
turned_with (Value (CallExpr called args up)) ls = refl
turned_with (Bind d e range true) ls = refl
turned_with (Bind d e range false) ls = refl
turned_with (Unify d range e range2) ls = refl
turned_with (SameCells d e) ls = refl
turned_with (Seq x) ls = refl
turned_with (And ts) ls = refl
turned_with (Or ts) ls = refl
turned_with (Not t) ls = refl
turned_with (CallTest called args up) ls = refl

-- nor do they change the constant that is its second operand
held_with : (t : Test) (ls : List ℕ) → is_turned t ≡ true → held_constant (test_with t ls) ≡ held_constant t
held_with t ls e = ap held_constant (same_test t ls e)

-- ---- constants that are held

no_held : (o : Option ℤ) (lo : ℕ) → None ≡ held_slot o lo → o ≡ None
no_held (Some n) lo h = absurd (cc)
no_held None lo h = refl

is_constant : (y : Expr) (n : ℤ) → constant y ≡ Some n → y ≡ Const n
is_constant (Const m) n e = let same : m ≡ n = cc in ap Const same
is_constant (Load d) n e = absurd (cc)
is_constant (Chain negated x links) n e = absurd (cc)
is_constant (Compare how x y) n e = absurd (cc)
is_constant (Truth t) n e = absurd (cc)
is_constant (Known d) n e = absurd (cc)
is_constant (Chr x) n e = absurd (cc)
is_constant (CallExpr called args up) n e = absurd (cc)

-- none is put where there is none
pub none_held : (line : ℕ) (a : Front) (o : Option ℤ) → None ≡ o → HoldsConstant line a a o None
none_held line a (Some n) e = absurd (cc)
none_held line a None e = record { held_at = refl; all = nothing a }

-- and one goes into a slot of its own
pub some_held : (line : ℕ) (a b c : Front) (o : Option ℤ) (n : ℤ) (to : ℕ) → Some n ≡ o → to ≡ a.next → Takes a b slot.Number
    → Codes b c (own line (I.Const to n ∷ [])) → HoldsConstant line a c o (Some to)
some_held line a b c (Some m) n to e is h j =
    let same : n ≡ m = cc in
    record {
      held_at = ap Some is;
      all = adds_as a c _ _ _ _ _ _ (slot_adds a b c _ _ _ _ h (only_code b c _ j))
          (ap (λ k. own line (I.Const k n ∷ [])) is ∙ ap (λ k. own line (I.Const a.next k ∷ [])) same) refl refl;
    }
some_held line a b c None n to e is h j = absurd (cc)

module _ (s : Around) (line : ℕ) where
  -- a comparison that goes back, with no constant that is held
  pub back_put : (a b c d : Front) (from to other held top : ℕ) (how : Cmp) (x y : Expr) → None ≡ held_slot (constant y) held
      → PutsFirstOperand s line a b (stays x y) x → to ≡ a.next → from ≡ T.slot_or s.program s.tables s.routine (stays x y) a.next
      → PutsValue s line b c y → other ≡ value_slot s b.next (expr_with y b.lines)
      → Codes c d (own line (opposite_code how to from other ∷ I.JumpZero to top ∷ []))
      → PutsBack s line held top a d (Value (Compare how x y))
  unfolding stmts_with stmts_phrases
  back_put a b c d from to other held top how x y none h is_to is_from j is_other k =
      let ls = behind (expr_phrases x) a.lines in
      let lo = a.next + length (expr_slots s.program s.routine (expr_with x a.lines)) in
      let there : other ≡ value_slot s lo (expr_with y ls) = is_other ∙ ap (λ n. value_slot s n (expr_with y b.lines)) h.all.next_slot
      ∙ ap (λ n. value_slot s lo (expr_with y n)) h.all.left in
      let all = adds_code a c d _ _ _ _ (then_adds a b c _ _ _ _ _ _ h.all j.all) k in
      let without : constant (expr_with y ls) ≡ None = constant_with y ls ∙ no_held (constant y) held none in
      let code : Option ℕ → Option ℤ → (from to other : ℕ) → List LineInstr = λ o z from to other.
      in_row (length a.code) (unless_bare o (T.expr_code s.program s.tables s.routine line (length a.code) a.next (expr_with x a.lines)))
      (λ next. unless_constant z (unless_bare (bare (expr_with y ls))
      (T.expr_code s.program s.tables s.routine line next lo (expr_with y ls))))
      ++ own line (opposite_code how to from (held_or z held other) ∷ I.JumpZero to top ∷ []) in
      record {
        all = adds_as a d _ _ _ _ _ _ all
            (ap (λ n. code (stays x y) None from n other) is_to ∙ ap (λ n. code (stays x y) None n a.next other) is_from
            ∙ ap (code (stays x y) None (T.slot_or s.program s.tables s.routine (stays x y) a.next) a.next) there
            ∙ ap (λ o. code o None (T.slot_or s.program s.tables s.routine o a.next) a.next (value_slot s lo (expr_with y ls)))
            (sym (stays_with x y a.lines ls))
            ∙ ap (λ z. code (stays (expr_with x a.lines) (expr_with y ls)) z
            (T.slot_or s.program s.tables s.routine (stays (expr_with x a.lines) (expr_with y ls)) a.next) a.next
            (value_slot s lo (expr_with y ls))) (sym without))
            refl (sym (behind_two (expr_phrases x) (expr_phrases y) a.lines));
      }

  -- one with a constant that is held
  with_constant : (a b c : Front) (from to held top : ℕ) (how : Cmp) (x : Expr) (n : ℤ)
      → PutsFirstOperand s line a b (stays x (Const n)) x → to ≡ a.next
      → from ≡ T.slot_or s.program s.tables s.routine (stays x (Const n)) a.next
      → PutsSlot b c slot.Number (own line (opposite_code how to from held ∷ I.JumpZero to top ∷ []))
      → PutsBack s line held top a c (Value (Compare how x (Const n)))
  unfolding stmts_with stmts_phrases
  with_constant a b c from to held top how x n h is_to is_from j =
      let ls = behind (expr_phrases x) a.lines in
      let stay = stays (expr_with x a.lines) (Const n) in
      let first : Option ℕ → List LineInstr = λ o.
      unless_bare o (T.expr_code s.program s.tables s.routine line (length a.code) a.next (expr_with x a.lines)) in
      let last : (from to : ℕ) → List LineInstr = λ from to. own line (opposite_code how to from held ∷ I.JumpZero to top ∷ []) in
      let slot_or : Option ℕ → ℕ = λ o. T.slot_or s.program s.tables s.routine o a.next in
      record {
        all = adds_as a c _ _ _ _ _ _ (adds_code a j.b c _ _ _ _ (adds_slot a b j.b _ _ _ _ h.all j.takes) j.codes)
            (ap (λ k. first (stays x (Const n)) ++ last from k) is_to
            ∙ ap (λ k. first (stays x (Const n)) ++ last k a.next) is_from
            ∙ ap (λ o. first o ++ last (slot_or o) a.next) (sym (stays_with x (Const n) a.lines ls))
            ∙ ap (λ k. k ++ last (slot_or stay) a.next) (sym (append-nil (first stay))))
            refl (sym (behind_two (expr_phrases x) (expr_phrases (Const n)) a.lines));
      }

  pub held_back_put : (a b c : Front) (from to given held top : ℕ) (how : Cmp) (x y : Expr) → Some given ≡ held_slot (constant y) held
      → PutsFirstOperand s line a b (stays x y) x → to ≡ a.next → from ≡ T.slot_or s.program s.tables s.routine (stays x y) a.next
      → PutsSlot b c slot.Number (own line (opposite_code how to from given ∷ I.JumpZero to top ∷ []))
      → PutsBack s line held top a c (Value (Compare how x y))
  held_back_put a b c from to given held top how x y some h is_to is_from j = by (constant y) refl some
    where
      by : (o : Option ℤ) → constant y ≡ o → Some given ≡ held_slot o held → PutsBack s line held top a c (Value (Compare how x y))
      by (Some n) e is =
          let same : given ≡ held = cc in
          subst (λ z. PutsFirstOperand s line a b (stays x z) x → from ≡ T.slot_or s.program s.tables s.routine (stays x z) a.next
          → PutsBack s line held top a c (Value (Compare how x z))) (sym (is_constant y n e))
          (λ h2 is_from2. with_constant a b c from to held top how x n h2 is_to is_from2
          (subst (λ k. PutsSlot b c slot.Number (own line (opposite_code how to from k ∷ I.JumpZero to top ∷ []))) same j)) h is_from
      by None e is = absurd (cc)

  -- the loop itself, behind the constant
  loop_put : (a b c d e : Front) (jump held top target : ℕ) (t : Test) (body : Stmts) → is_turned t ≡ true → jump ≡ length a.code
      → Codes a b (own line (I.Jump 0 ∷ [])) → top ≡ length b.code → PutsStmts s b c body
      → Changes c d (λ xs. aim_jump xs jump target) → target ≡ length c.code + 0 → PutsBack s line held top d e t
      → Adds a e (λ at lo ls. turned_loop line at
      (T.stmts_code s.program s.tables s.routine (at + 1) lo (stmts_with body (behind (test_phrases t) ls)))
      (λ next. T.back_code s.program s.tables s.routine line next
      (lo + length (stmts_slots s.program s.routine (stmts_with body (behind (test_phrases t) ls)))) held (at + 1) (test_with t ls)))
      (λ ls. stmts_slots s.program s.routine (stmts_with body (behind (test_phrases t) ls))
      ++ test_slots s.program s.routine (test_with t ls))
      (λ ls. behind (stmts_phrases body) (behind (test_phrases t) ls))
  unfolding stmts_with stmts_phrases
  loop_put a b c d e jump held top target t body is here h top_at j k target_at l =
      let ls = a.lines in
      let at = length a.code in
      let x = stmts_with body ls in
      let ls2 = behind (stmts_phrases body) ls in
      let pr = s.program in
      let inner = T.stmts_code pr s.tables s.routine (at + 1) a.next x in
      let lo2 = a.next + length (stmts_slots pr s.routine x) in
      let zero : (n : ℕ) → n + 0 ≡ n = λ n. omega arith in
      let front = over a b c d line jump target (I.Jump 0) _ _ _ (λ n. n + 0) here refl h j.all k target_at in
      let all = then_adds a d e _ _ _ _ _ _ front l.all in
      let body_lines : ls ≡ behind (test_phrases t) ls = sym (passes t ls is) in
      let test_lines : test_with t ls2 ≡ test_with t ls = same_test t ls2 is ∙ sym (same_test t ls is) in
      let behind_body : (n : ℕ) → at + length (own line (I.Jump n ∷ []) ++ inner) ≡ at + 1 + length inner = λ n. omega arith in
      let top_is : top ≡ at + 1 = top_at ∙ address_after a b _ h in
      let back : (next top : ℕ) → Test → List LineInstr = λ next top u. T.back_code pr s.tables s.routine line next lo2 held top u in
      let loop : Stmts → List LineInstr = λ y. turned_loop line at (T.stmts_code pr s.tables s.routine (at + 1) a.next y)
      (λ next. T.back_code pr s.tables s.routine line next (a.next + length (stmts_slots pr s.routine y)) held (at + 1) (test_with t ls)) in
      adds_as a e _ _ _ _ _ _ all
      (ap (λ n. (own line (I.Jump n ∷ []) ++ inner)
      ++ back (at + length (own line (I.Jump n ∷ []) ++ inner)) top (test_with t ls2)) (zero (at + 1 + length inner))
      ∙ ap (λ n. (own line (I.Jump (at + 1 + length inner) ∷ []) ++ inner) ++ back n top (test_with t ls2))
      (behind_body (at + 1 + length inner))
      ∙ ap (λ n. own line (I.Jump (at + 1 + length inner) ∷ []) ++ (inner ++ back (at + 1 + length inner) n (test_with t ls2))) top_is
      ∙ ap (λ u. own line (I.Jump (at + 1 + length inner) ∷ []) ++ (inner ++ back (at + 1 + length inner) (at + 1) u)) test_lines
      ∙ ap (λ m. loop (stmts_with body m)) body_lines)
      (ap (λ u. stmts_slots pr s.routine x ++ test_slots pr s.routine u) test_lines
      ∙ ap (λ m. stmts_slots pr s.routine (stmts_with body m) ++ test_slots pr s.routine (test_with t ls)) body_lines)
      (passes t ls2 is ∙ ap (behind (stmts_phrases body)) body_lines)

  pub turned_put : (a b c d e f : Front) (held : Option ℕ) (jump top target : ℕ) (t : Test) (body : Stmts) → is_turned t ≡ true
      → HoldsConstant line a b (held_constant t) held → jump ≡ length b.code → Codes b c (own line (I.Jump 0 ∷ []))
      → top ≡ length c.code → PutsStmts s c d body → Changes d e (λ xs. aim_jump xs jump target) → target ≡ length d.code + 0
      → PutsBack s line a.next top e f t → PutsStmt s line a f (While t body)
  unfolding stmts_with stmts_phrases
  turned_put a b c d e f held jump top target t body is z here h top_at j k target_at l =
      let ls = a.lines in
      let at = length a.code in
      let u = test_with t ls in
      let x = stmts_with body (behind (test_phrases t) ls) in
      let pr = s.program in
      let all = then_adds a b f _ _ _ _ _ _ z.all (loop_put b c d e f jump a.next top target t body is here h top_at j k target_at l) in
      let turns : is_turned u ≡ true = turned_with t ls ∙ is in
      let same : held_constant t ≡ held_constant u = sym (held_with t ls is) in
      let code : Option ℤ → List LineInstr = λ o. in_row at (own line (held_code o a.next))
      (λ at. turned_loop line at (T.stmts_code pr s.tables s.routine (at + 1) (a.next + length (held_slots o)) x)
      (λ next. T.back_code pr s.tables s.routine line next
      (a.next + length (held_slots o) + length (stmts_slots pr s.routine x)) a.next (at + 1) u)) in
      let slots : Option ℤ → List SlotKind = λ o. held_slots o ++ (stmts_slots pr s.routine x ++ test_slots pr s.routine u) in
      record {
        all = adds_as a f _ _ _ _ _ _ all
            (ap code same ∙ ap (λ k. while_code pr s.tables s.routine k line at a.next u x) (sym turns))
            (ap slots same
            ∙ ap (λ k. by_turn k (slots (held_constant u))
            (mark_slots (is_simple u) ++ (test_slots pr s.routine u ++ stmts_slots pr s.routine x))) (sym turns))
            (sym (behind_two (test_phrases t) (stmts_phrases body) ls));
      }
