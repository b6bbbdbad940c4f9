-- The bounds of loops: a first count, the limit, which goes to its slot, and what stands before the turns of SOME.
use Rattle.std.proofs.Common.{◌≡◌, ℕ, ℤ, ◌+◌, true, false, List, [], ◌∷◌, ◌++◌, length, Option, Some, None, refl, sym, ap, ◌∙◌, arith}
use Rattle.alma_code.specs.declared.cell.SlotKind.TheVariants as slot
use Rattle.alma_code.specs.declared.instr.Instr.TheVariants as I
use Rattle.alma_choice.proofs.Aiming.{last_behind}
use Rattle.alma_ir.specs.Tree.{Expr, Const, Load, Chain, Compare, Truth, Known, Chr, CallExpr}
use Rattle.alma_ir.specs.Phrases.{stmts_phrases}
use Rattle.alma_ir.specs.Lines.{stmts_with, expr_with}
use Rattle.alma_lower_work.specs.Front.{Around, Front, Codes, Takes, Changes}
use Rattle.alma_lower_work.specs.Puts.{PutsExpr, PutsFirstOperand, value_slot}
use Rattle.alma_lower_work.proofs.Joins.{adds_as, adds_code, code_code, codes_as, only_slot, address_after}
use Rattle.alma_lower_parts.specs.Loops.{PutsFirstCount, PutsLimit}
use Rattle.alma_lower_parts.specs.Steps.{BeginsSome}
use Rattle.alma_lower_parts.proofs.StmtForms.{has_code}
use Rattle.alma_lower_parts.proofs.With.{own_expr, alone_with, constant_with}
use Rattle.alma_lower_templates.specs.LineInstr.{LineInstr, own}
use Rattle.alma_lower_templates.specs.Slots.{bare, unless_bare, constant, ends_alone}
use Rattle.alma_lower_templates.specs.Pieces.{aim, straight, count_from, unless_constant, limit_code}
use Rattle.alma_lower_templates.specs.Templates as T

-- what stands before the turns of SOME, in three parts
pub front_put : (a b c d e : Front) (line : ℕ) (known : Option ℤ) (counter limit step first more : ℕ) → Takes a b slot.Number
    → more ≡ a.next
    → Codes b c (own line (count_from known counter first ∷ I.LessEq first counter limit ∷ []))
    → Codes c d (own line (I.Check first ∷ I.Jump (length c.code + 3) ∷ []))
    → Codes d e (own line (I.Add counter counter step ∷ I.Less more counter limit ∷ I.JumpZero more (length d.code + 4)
    ∷ I.Choose (length d.code) ∷ [])) → BeginsSome line known counter limit step first a e
front_put a b c d e line known counter limit step first more h is j k l =
    let c0 : length c.code ≡ length b.code + 2 = address_after b c _ j in
    let d0 : length d.code ≡ length c.code + 2 = address_after c d _ k in
    let over : length c.code + 3 ≡ length b.code + 5 = omega (arith, c0) in
    let turn : length d.code + 4 ≡ length b.code + 8 = omega (arith, c0, d0) in
    let retry : length d.code ≡ length b.code + 4 = omega (arith, c0, d0) in
    let all : (more over turn retry : ℕ) → List LineInstr = λ more over turn retry. own line
    (count_from known counter first ∷ I.LessEq first counter limit ∷ I.Check first ∷ I.Jump over ∷ I.Add counter counter step
    ∷ I.Less more counter limit ∷ I.JumpZero more turn ∷ I.Choose retry ∷ []) in
    record {
      b = b;
      takes = h;
      codes = codes_as b e _ _
          (ap (λ n. all n (length c.code + 3) (length d.code + 4) (length d.code)) is
          ∙ ap (λ n. all a.next n (length d.code + 4) (length d.code)) over
          ∙ ap (λ n. all a.next (length b.code + 5) n (length d.code)) turn
          ∙ ap (λ n. all a.next (length b.code + 5) (length b.code + 8) n) retry)
          (code_code b c e _ _ j (code_code c d e _ _ k l));
    }

module _ (s : Around) (line : ℕ) where
  -- a constant takes its slot alone
  pub constant_first : (a b : Front) (e : Expr) (n : ℤ) → Some n ≡ constant e → Takes a b slot.Number → PutsFirstCount s line a b e
  unfolding stmts_with stmts_phrases
  constant_first a b (Const m) n h j = record { all = adds_as a b _ _ _ _ _ _ (only_slot a b slot.Number j) refl refl refl }
  constant_first a b (Load d) n h j = absurd (cc)
  constant_first a b (Chain negated e links) n h j = absurd (cc)
  constant_first a b (Compare how x y) n h j = absurd (cc)
  constant_first a b (Truth t) n h j = absurd (cc)
  constant_first a b (Known d) n h j = absurd (cc)
  constant_first a b (Chr e) n h j = absurd (cc)
  constant_first a b (CallExpr q args up) n h j = absurd (cc)

  pub other_first : (a b : Front) (e : Expr) → None ≡ constant e → PutsExpr s line a b e → PutsFirstCount s line a b e
  other_first a b e none h = record {
    all = adds_as a b _ _ _ _ _ _ h.all
        (ap (λ o. unless_constant o (T.expr_code s.program s.tables s.routine line (length a.code) a.next (expr_with e a.lines)))
        (none ∙ sym (constant_with e a.lines))) refl refl;
  }

  -- the last instruction of the value puts it into the slot of the limit
  pub straight_limit : (a b c : Front) (limit : ℕ) (e : Expr) → true ≡ ends_alone e → PutsFirstOperand s line a b (bare e) e
      → Changes b c (λ xs. straight limit xs) → PutsLimit s line limit a c e
  straight_limit a b c limit e alone h k =
      let v = expr_with e a.lines in
      let code : List LineInstr = T.expr_code s.program s.tables s.routine line (length a.code) a.next v in
      let ends : ends_alone v ≡ true = alone_with e a.lines ∙ sym alone in
      record {
        all = record {
          instrs = k.instrs ∙ ap (straight limit) h.all.instrs
              ∙ ap (λ o. straight limit (a.code ++ unless_bare o code)) (sym (own_expr e a.lines))
              ∙ last_behind (aim limit) a.code (unless_bare (bare v) code) (has_code s line (length a.code) a.next v ends)
              ∙ ap (λ b. a.code ++ limit_code b line limit (value_slot s a.next v) (unless_bare (bare v) code)) (sym ends);
          taken = k.taken ∙ h.all.taken;
          next_slot = k.next_slot ∙ h.all.next_slot;
          left = k.left ∙ h.all.left;
          whole = k.whole ∙ h.all.whole;
        };
      }

  -- the value is moved there
  pub moved_limit : (a b c : Front) (limit value : ℕ) (e : Expr) → false ≡ ends_alone e
      → value ≡ T.slot_or s.program s.tables s.routine (bare e) a.next → PutsFirstOperand s line a b (bare e) e
      → Codes b c (own line (I.Move limit value ∷ [])) → PutsLimit s line limit a c e
  moved_limit a b c limit value e alone is h k =
      let v = expr_with e a.lines in
      let code : List LineInstr = T.expr_code s.program s.tables s.routine line (length a.code) a.next v in
      let there : value ≡ value_slot s a.next v =
      is ∙ ap (λ o. T.slot_or s.program s.tables s.routine o a.next) (sym (own_expr e a.lines)) in
      record {
        all = adds_as a c _ _ _ _ _ _ (adds_code a b c _ _ _ _ h.all k)
            (ap (λ o. unless_bare o code ++ own line (I.Move limit value ∷ [])) (sym (own_expr e a.lines))
            ∙ ap (λ n. unless_bare (bare v) code ++ own line (I.Move limit n ∷ [])) there
            ∙ ap (λ b. limit_code b line limit (value_slot s a.next v) (unless_bare (bare v) code)) (alone ∙ sym (alone_with e a.lines)))
            refl refl;
      }
