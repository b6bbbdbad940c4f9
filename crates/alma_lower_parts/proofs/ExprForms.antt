-- What each form of expression adds.
use Rattle.std.proofs.Common.{◌≡◌, ℕ, ℤ, ◌+◌, Bool, true, false, List, [], ◌∷◌, ◌++◌, length, Some, None, refl, sym, ap, ◌∙◌}
use Rattle.std.specs.Prelude.{Option, option_map}
use Rattle.alma_code.specs.declared.cell.SlotKind.TheVariants as slot
use Rattle.alma_code.specs.declared.instr.Instr.{Instr}
use Rattle.alma_code.specs.declared.instr.Instr.TheVariants as I
use Rattle.alma_ir.specs.declared.phrase.Op.{Op}
use Rattle.alma_ir.specs.declared.phrase.Cmp.{Cmp}
use Rattle.alma_ir.specs.Tree.{Expr, Links, Desig, Const, Load, Chain, Compare, Known, Chr, no_links, more_links}
use Rattle.alma_ir.specs.Phrases.{stmts_phrases, expr_phrases, links_phrases}
use Rattle.alma_ir.specs.Lines.{behind, stmts_with, expr_with, links_with, desig_with}
use Rattle.alma_ir.proofs.LinesBack.{behind_two}
use Rattle.alma_base.specs.Numbers.{char_range}
use Rattle.alma_lower_work.specs.Front.{Around, Front, Codes, Takes}
use Rattle.alma_lower_work.specs.Puts.{PutsExpr, PutsFirstOperand, PutsValue, PutsLinks, PutsHeld, PutsTarget, stand_by}
use Rattle.alma_lower_work.specs.Puts.{stand_of, value_slot, behind_sign}
use Rattle.alma_lower_work.proofs.Joins.{nothing, then_adds, adds_as, adds_code, only_code, slot_adds}
use Rattle.alma_lower_parts.proofs.With.{bare_slots}
use Rattle.alma_lower_parts.proofs.With.{no_bare, own_desig, own_expr, own_desig_passes, own_expr_passes, stays_with, taken_with}
use Rattle.alma_lower_templates.specs.LineInstr.{LineInstr, own, in_row}
use Rattle.alma_lower_templates.specs.Tables.{range_number}
use Rattle.alma_lower_templates.specs.Slots.{bare_desig, bare, own_place, stays, stays_in, taken_from, unless_bare, expr_slots, desig_slots}
use Rattle.alma_lower_templates.specs.Pieces.{op_code, cmp_code, neg_code}
use Rattle.alma_lower_templates.specs.Templates as T

module _ (s : Around) (line : ℕ) where
  pub const_put : (a b c : Front) (to : ℕ) (n : ℤ) → Takes a b slot.Number → to ≡ a.next → Codes b c (own line (I.Const to n ∷ []))
      → PutsExpr s line a c (Const n)
  unfolding stmts_with stmts_phrases
  const_put a b c to n h is j = record {
    all =
        adds_as a c _ _ _ _ _ _ (slot_adds a b c _ _ _ _ h (only_code b c _ j)) (ap (λ m. own line (I.Const m n ∷ [])) is) refl refl;
  }

  -- ---- values that are used at once

  pub own_value_put : (a : Front) (e : Expr) (from : ℕ) → bare e ≡ Some from → PutsValue s line a a e
  own_value_put a e from h = record {
    all = adds_as a a _ _ _ _ _ _ (nothing a)
        (sym (ap (λ o. unless_bare o (T.expr_code s.program s.tables s.routine line (length a.code) a.next (expr_with e a.lines)))
        (own_expr e a.lines ∙ h)))
        (sym (ap (λ o. unless_bare o (expr_slots s.program s.routine (expr_with e a.lines))) (own_expr e a.lines ∙ h)))
        (sym (own_expr_passes e from a.lines h));
  }

  pub own_value_slot : (lo : ℕ) (ls : List ℕ) (e : Expr) (from : ℕ) → bare e ≡ Some from
      → value_slot s lo (expr_with e ls) ≡ T.own_slot s.program s.tables s.routine from
  own_value_slot lo ls e from h = ap (λ o. T.slot_or s.program s.tables s.routine o lo) (own_expr e ls ∙ h)

  pub made_value_put : (a b : Front) (e : Expr) → bare e ≡ None → PutsExpr s line a b e → PutsValue s line a b e
  made_value_put a b e h j = record {
    all = adds_as a b _ _ _ _ _ _ j.all
        (sym (ap (λ o. unless_bare o (T.expr_code s.program s.tables s.routine line (length a.code) a.next (expr_with e a.lines)))
        (own_expr e a.lines ∙ h)))
        (sym (ap (λ o. unless_bare o (expr_slots s.program s.routine (expr_with e a.lines))) (own_expr e a.lines ∙ h)))
        refl;
  }

  pub made_value_slot : (lo : ℕ) (ls : List ℕ) (e : Expr) → bare e ≡ None → value_slot s lo (expr_with e ls) ≡ lo
  made_value_slot lo ls e h = ap (λ o. T.slot_or s.program s.tables s.routine o lo) (own_expr e ls ∙ h)

  -- ---- first operands

  -- a variable of the routine takes the slot for the value alone
  alone : (e : Expr) (from : ℕ) (ls : List ℕ) → bare e ≡ Some from → slot.Number ∷ [] ≡ expr_slots s.program s.routine (expr_with e ls)
  alone e from ls h = sym (bare_slots s.program s.routine (expr_with e ls) from (own_expr e ls ∙ h))

  pub stay_put : (a b : Front) (e : Expr) (o : Option ℕ) (from : ℕ) → o ≡ Some from → bare e ≡ Some from → Takes a b slot.Number
      → PutsFirstOperand s line a b o e
  stay_put a b e o from is h j = record {
    all = adds_as a b _ _ _ _ _ _ (slot_adds a b b _ _ _ _ j (nothing b))
        (sym (ap (λ o. unless_bare o (T.expr_code s.program s.tables s.routine line (length a.code) a.next (expr_with e a.lines))) is))
        (alone e from a.lines h)
        (sym (own_expr_passes e from a.lines h));
  }

  pub made_first_put : (a b : Front) (e : Expr) (o : Option ℕ) → o ≡ None → PutsExpr s line a b e → PutsFirstOperand s line a b o e
  made_first_put a b e o is h = record {
    all = adds_as a b _ _ _ _ _ _ h.all (sym
        (ap (λ o. unless_bare o (T.expr_code s.program s.tables s.routine line (length a.code) a.next (expr_with e a.lines))) is)) refl
        refl;
  }

  -- ---- variables

  pub own_target_put : (a : Front) (d : Desig) (from : ℕ) → bare_desig d ≡ Some from → PutsTarget s line a a d
  own_target_put a d from h = record {
    all = adds_as a a _ _ _ _ _ _ (nothing a)
        (sym (ap (λ o. unless_bare o (unless_bare (own_place (desig_with d a.lines))
        (T.desig_code s.program s.tables s.routine line (length a.code) a.next (desig_with d a.lines))))
        (own_desig d a.lines ∙ h)))
        (sym (ap (λ o. unless_bare o (desig_slots s.program s.routine (desig_with d a.lines))) (own_desig d a.lines ∙ h)))
        (sym (own_desig_passes d from a.lines h));
  }

  pub made_target_put : (a b : Front) (d : Desig) → bare_desig d ≡ None → PutsHeld s line a b d → PutsTarget s line a b d
  made_target_put a b d h j = record {
    all = adds_as a b _ _ _ _ _ _ j.all
        (sym (ap (λ o. unless_bare o (unless_bare (own_place (desig_with d a.lines))
        (T.desig_code s.program s.tables s.routine line (length a.code) a.next (desig_with d a.lines))))
        (own_desig d a.lines ∙ h)))
        (sym (ap (λ o. unless_bare o (desig_slots s.program s.routine (desig_with d a.lines))) (own_desig d a.lines ∙ h)))
        refl;
  }

  pub own_stand_of : (lo : ℕ) (ls : List ℕ) (d : Desig) (from : ℕ) → bare_desig d ≡ Some from
      → stand_of s lo (desig_with d ls) ≡ stand_by s (Some from) 0
  own_stand_of lo ls d from h = ap (λ o. stand_by s o (T.held_at s.program s.tables s.routine lo (desig_with d ls))) (own_desig d ls ∙ h)

  pub made_stand_of : (lo : ℕ) (ls : List ℕ) (d : Desig) → bare_desig d ≡ None
      → stand_of s lo (desig_with d ls) ≡ stand_by s None (T.held_at s.program s.tables s.routine lo (desig_with d ls))
  made_stand_of lo ls d h = ap (λ o. stand_by s o (T.held_at s.program s.tables s.routine lo (desig_with d ls))) (own_desig d ls ∙ h)

  -- the number of a variable that stands in its own slot
  pub load_own : (a b c : Front) (x : Desig) (to from : ℕ)
      → Some from ≡ option_map (T.own_slot s.program s.tables s.routine) (bare_desig x) → Takes a b slot.Number → to ≡ a.next
      → Codes b c (own line (I.Move to from ∷ [])) → PutsExpr s line a c (Load x)
  unfolding stmts_with stmts_phrases
  load_own a b c x to from is h there k = by (bare_desig x) refl is
    where
      put : (n : ℕ) → bare_desig x ≡ Some n → from ≡ T.own_slot s.program s.tables s.routine n → PutsExpr s line a c (Load x)
      put n e same =
          let y = desig_with x a.lines in
          let z : bare_desig y ≡ Some n = own_desig x a.lines ∙ e in
          let place = unless_bare (own_place y) (T.desig_code s.program s.tables s.routine line (length a.code) (a.next + 1) y) in
          let code : Option ℕ → List LineInstr = λ o.
          unless_bare o place ++ own line (T.load_by s.program s.tables s.routine o a.next y ∷ []) in
          record {
            all = adds_as a c _ _ _ _ _ _ (slot_adds a b c _ _ _ _ h (only_code b c _ k))
                (ap (λ m. own line (I.Move m from ∷ [])) there ∙ ap (λ m. own line (I.Move a.next m ∷ [])) same ∙ ap code (sym z))
                (ap (λ o. slot.Number ∷ unless_bare o (desig_slots s.program s.routine y)) (sym z))
                (sym (own_desig_passes x n a.lines e));
          }

      by : (o : Option ℕ) → bare_desig x ≡ o → Some from ≡ option_map (T.own_slot s.program s.tables s.routine) o
          → PutsExpr s line a c (Load x)
      by (Some n) e same = put n e cc
      by None e same = absurd (cc)

  -- the number at a place
  pub load_held : (a b c d : Front) (x : Desig) (to place : ℕ)
      → None ≡ option_map (T.own_slot s.program s.tables s.routine) (bare_desig x) → Takes a b slot.Number → to ≡ a.next
      → PutsHeld s line b c x → place ≡ T.held_at s.program s.tables s.routine b.next (desig_with x b.lines)
      → Codes c d (own line (I.Load to place ∷ [])) → PutsExpr s line a d (Load x)
  unfolding stmts_with stmts_phrases
  load_held a b c d x to place none h is j is2 k =
      let y = desig_with x a.lines in
      let z : bare_desig y ≡ None = own_desig x a.lines ∙ no_bare (T.own_slot s.program s.tables s.routine) (bare_desig x) none in
      let there : place ≡ T.held_at s.program s.tables s.routine (a.next + 1) y = is2
      ∙ ap (λ n. T.held_at s.program s.tables s.routine n (desig_with x b.lines)) h.next_slot
      ∙ ap (λ n. T.held_at s.program s.tables s.routine (a.next + 1) (desig_with x n)) h.left in
      let code : List LineInstr = unless_bare (own_place y) (T.desig_code s.program s.tables s.routine line (length a.code) (a.next + 1) y)
      in
      record {
        all = adds_as a d _ _ _ _ _ _ (slot_adds a b d _ _ _ _ h (adds_code b c d _ _ _ _ j.all k))
            (ap (λ n. code ++ own line (I.Load n place ∷ [])) is ∙ ap (λ n. code ++ own line (I.Load a.next n ∷ [])) there
            ∙ ap (λ o. unless_bare o code ++ own line (T.load_by s.program s.tables s.routine o a.next y ∷ [])) (sym z))
            (ap (λ o. slot.Number ∷ unless_bare o (desig_slots s.program s.routine y)) (sym z)) refl;
      }

  -- ---- operators

  pub no_links_put : (a : Front) (first to : ℕ) → PutsLinks s line first to a a no_links
  unfolding stmts_with stmts_phrases
  no_links_put a first to = record { all = adds_as a a _ _ _ _ _ _ (nothing a) refl refl refl }

  pub links_put : (a b c d : Front) (first to operand : ℕ) (op : Op) (e : Expr) (rest : Links) → PutsValue s line a b e
      → operand ≡ value_slot s a.next (expr_with e a.lines)
      → Codes b c (own line (op_code op to first operand ∷ [])) → PutsLinks s line to to c d rest
      → PutsLinks s line first to a d (more_links op e rest)
  unfolding stmts_with stmts_phrases
  links_put a b c d first to operand op e rest h is j k =
      let all = then_adds a c d _ _ _ _ _ _ (adds_code a b c _ _ _ _ h.all j) k.all in
      let value = unless_bare (bare (expr_with e a.lines))
      (T.expr_code s.program s.tables s.routine line (length a.code) a.next (expr_with e a.lines)) in
      record {
        all = adds_as a d _ _ _ _ _ _ all
            (ap (λ n. in_row (length a.code) (value ++ own line (op_code op to first n ∷ []))
            (λ next. T.links_code s.program s.tables s.routine line next to to
            (a.next + length (unless_bare (bare (expr_with e a.lines)) (expr_slots s.program s.routine (expr_with e a.lines))))
            (links_with rest (behind (expr_phrases e) a.lines)))) is)
            refl (sym (behind_two (expr_phrases e) (links_phrases rest) a.lines));
      }

  -- behind its sign the first operand stands in the slot for the value
  signed_from : (lo : ℕ) (negated : Bool) (e : Expr) (links : Links)
      → behind_sign negated (T.slot_or s.program s.tables s.routine (taken_from negated e links) lo) lo
      ≡ T.slot_or s.program s.tables s.routine (stays_in negated e links) lo
  signed_from lo true e links = refl
  signed_from lo false e links = refl

  signed_code : (to lo : ℕ) (negated : Bool) (e : Expr) (links : Links)
      → neg_code negated to (T.slot_or s.program s.tables s.routine (taken_from negated e links) lo)
      ≡ neg_code negated to (value_slot s lo e)
  signed_code to lo true e links = refl
  signed_code to lo false e links = refl

  pub chain_put : (a b c d : Front) (from to signed signed_to : ℕ) (negated : Bool) (e : Expr) (links : Links)
      → PutsFirstOperand s line a b (taken_from negated e links) e → to ≡ a.next
      → from ≡ T.slot_or s.program s.tables s.routine (taken_from negated e links) a.next
      → signed ≡ behind_sign negated from to → signed_to ≡ to → Codes b c (own line (neg_code negated to from))
      → PutsLinks s line signed signed_to c d links → PutsExpr s line a d (Chain negated e links)
  unfolding stmts_with stmts_phrases
  chain_put a b c d from to signed signed_to negated e links h is is2 is3 is4 j k =
      let all = then_adds a c d _ _ _ _ _ _ (adds_code a b c _ _ _ _ h.all j) k.all in
      let x = expr_with e a.lines in
      let lo = a.next + length (expr_slots s.program s.routine x) in
      let ls = behind (expr_phrases e) a.lines in
      let v = links_with links ls in
      let o = taken_from negated e links in
      let stay = T.slot_or s.program s.tables s.routine o a.next in
      let code : Option ℕ → List Instr → (from to : ℕ) → List LineInstr = λ o sign from to.
      in_row (length a.code) (unless_bare o (T.expr_code s.program s.tables s.routine line (length a.code) a.next x) ++ own line sign)
      (λ next. T.links_code s.program s.tables s.routine line next from to lo v) in
      record {
        all = adds_as a d _ _ _ _ _ _ all
            (ap (λ n. code o (neg_code negated to from) signed n) is4
            ∙ ap (λ n. code o (neg_code negated to from) n to) is3
            ∙ ap (λ n. code o (neg_code negated n from) (behind_sign negated from n) n) is
            ∙ ap (λ n. code o (neg_code negated a.next n) (behind_sign negated n a.next) a.next) is2
            ∙ ap (λ z. code z (neg_code negated a.next (T.slot_or s.program s.tables s.routine z a.next))
            (behind_sign negated (T.slot_or s.program s.tables s.routine z a.next) a.next) a.next)
            (sym (taken_with negated e links a.lines ls))
            ∙ ap (λ i. code (taken_from negated x v) i
            (behind_sign negated (T.slot_or s.program s.tables s.routine (taken_from negated x v) a.next) a.next) a.next)
            (signed_code a.next a.next negated x v)
            ∙ ap (λ n. code (taken_from negated x v) (neg_code negated a.next (value_slot s a.next x)) n a.next)
            (signed_from a.next negated x v))
            refl (sym (behind_two (expr_phrases e) (links_phrases links) a.lines));
      }

  pub compare_put : (a b c d : Front) (from to other : ℕ) (how : Cmp) (x y : Expr) → PutsFirstOperand s line a b (stays x y) x → to ≡ a.next
      → from ≡ T.slot_or s.program s.tables s.routine (stays x y) a.next
      → PutsValue s line b c y → other ≡ value_slot s b.next (expr_with y b.lines) → Codes c d (own line (cmp_code how to from other))
      → PutsExpr s line a d (Compare how x y)
  unfolding stmts_with stmts_phrases
  compare_put a b c d from to other how x y h is is2 j is3 k =
      let ls = behind (expr_phrases x) a.lines in
      let lo = a.next + length (expr_slots s.program s.routine (expr_with x a.lines)) in
      let there : other ≡ value_slot s lo (expr_with y ls) = is3 ∙ ap (λ n. value_slot s n (expr_with y b.lines)) h.all.next_slot
      ∙ ap (λ n. value_slot s lo (expr_with y n)) h.all.left in
      let all = adds_code a c d _ _ _ _ (then_adds a b c _ _ _ _ _ _ h.all j.all) k in
      let code : Option ℕ → (from to other : ℕ) → List LineInstr = λ o from to other.
      in_row (length a.code) (unless_bare o (T.expr_code s.program s.tables s.routine line (length a.code) a.next (expr_with x a.lines)))
      (λ next. unless_bare (bare (expr_with y ls)) (T.expr_code s.program s.tables s.routine line next lo (expr_with y ls)))
      ++ own line (cmp_code how to from other) in
      record {
        all = adds_as a d _ _ _ _ _ _ all
            (ap (λ n. code (stays x y) from n other) is ∙ ap (λ n. code (stays x y) n a.next other) is2
            ∙ ap (code (stays x y) (T.slot_or s.program s.tables s.routine (stays x y) a.next) a.next) there
            ∙ ap (λ o. code o (T.slot_or s.program s.tables s.routine o a.next) a.next (value_slot s lo (expr_with y ls)))
            (sym (stays_with x y a.lines ls)))
            refl (sym (behind_two (expr_phrases x) (expr_phrases y) a.lines));
      }

  pub known_put : (a b c d : Front) (x : Desig) (to place : ℕ) → Takes a b slot.Number → to ≡ a.next → PutsHeld s line b c x
      → place ≡ T.held_at s.program s.tables s.routine b.next (desig_with x b.lines)
      → Codes c d (own line (I.Known to place ∷ [])) → PutsExpr s line a d (Known x)
  unfolding stmts_with stmts_phrases
  known_put a b c d x to place h is j is2 k =
      let y = desig_with x a.lines in
      let there : place ≡ T.held_at s.program s.tables s.routine (a.next + 1) y = is2
      ∙ ap (λ n. T.held_at s.program s.tables s.routine n (desig_with x b.lines)) h.next_slot
      ∙ ap (λ n. T.held_at s.program s.tables s.routine (a.next + 1) (desig_with x n)) h.left in
      let code = unless_bare (own_place y) (T.desig_code s.program s.tables s.routine line (length a.code) (a.next + 1) y) in
      record {
        all = adds_as a d _ _ _ _ _ _ (slot_adds a b d _ _ _ _ h (adds_code b c d _ _ _ _ j.all k))
            (ap (λ n. code ++ own line (I.Known n place ∷ [])) is ∙ ap (λ n. code ++ own line (I.Known a.next n ∷ [])) there) refl refl;
      }

  pub chr_put : (a b c : Front) (e : Expr) (to range : ℕ) → PutsExpr s line a b e → to ≡ a.next → range ≡ range_number s.tables char_range
      → Codes b c (own line (I.InRange to range ∷ [])) → PutsExpr s line a c (Chr e)
  unfolding stmts_with stmts_phrases
  chr_put a b c e to range h is is2 k =
      let code = T.expr_code s.program s.tables s.routine line (length a.code) a.next (expr_with e a.lines) in
      record {
        all = adds_as a c _ _ _ _ _ _ (adds_code a b c _ _ _ _ h.all k)
            (ap (λ n. code ++ own line (I.InRange n range ∷ [])) is ∙ ap (λ n. code ++ own line (I.InRange a.next n ∷ [])) is2) refl refl;
      }
