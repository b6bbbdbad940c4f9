-- A value as a test: a test of inequality has an end of its own, any other value is checked.
use Rattle.std.proofs.Common.{◌≡◌, ℕ, ◌+◌, List, [], ◌∷◌, ◌++◌, length, Option, refl, sym, ap, ◌∙◌, subst, arith}
use Rattle.std.proofs.lemmas.List.{length-append}
use Rattle.alma_code.specs.declared.instr.Instr.TheVariants as I
use Rattle.alma_ir.specs.declared.phrase.Cmp.TheVariants as cmp
use Rattle.alma_ir.specs.Tree.{Program, Expr, Value, Const, Load, Chain, Compare, Truth, Known, Chr, CallExpr}
use Rattle.alma_lower_templates.specs.LineInstr.{LineInstr, own, in_row}
use Rattle.alma_lower_templates.specs.Tables.{Tables}
use Rattle.alma_lower_templates.specs.Slots.{bare, stays, unless_bare, behind_expr}
use Rattle.alma_lower_templates.specs.Pieces.{cmp_code, unequal_code}
use Rattle.alma_lower_templates.specs.Templates.{test_code, expr_code, slot_or, value_at}

module _ (p : Program) (tables : Tables) (r : ℕ) where
  -- the code of both operands of a comparison, where the first stays or not
  abbrev pub operands_code : Option ℕ → (line at lo : ℕ) → (x y : Expr) → List LineInstr
  operands_code o line at lo x y = in_row at (unless_bare o (expr_code p tables r line at lo x))
      (λ next. unless_bare (bare y) (expr_code p tables r line next (behind_expr p r lo x) y))

  abbrev pub compared_code : (line at lo : ℕ) → (x y : Expr) → List LineInstr
  compared_code line at lo x y = operands_code (stays x y) line at lo x y

  -- the code of a value that is checked
  abbrev pub ChecksValue : Expr → Type 0
  ChecksValue e = (line at lo : ℕ) → test_code p tables r line at lo (Value e) ≡ unless_bare (bare e) (expr_code p tables r line at lo e)
      ++ own line (I.Check (value_at p tables r lo e) ∷ [])

  pub data Tested (e : Expr) : Type 0 where
    as_value : ChecksValue e → Tested e
    as_unequal : (x y : Expr) → e ≡ Compare cmp.Unequal x y → Tested e

  pub tested : (e : Expr) → Tested e
  tested (Const n) = as_value (λ line at lo. refl)
  tested (Load d) = as_value (λ line at lo. refl)
  tested (Chain negated x links) = as_value (λ line at lo. refl)
  tested (Compare cmp.Equal x y) = as_value (λ line at lo. refl)
  tested (Compare cmp.Unequal x y) = as_unequal x y refl
  tested (Compare cmp.Less x y) = as_value (λ line at lo. refl)
  tested (Compare cmp.LessEq x y) = as_value (λ line at lo. refl)
  tested (Compare cmp.Greater x y) = as_value (λ line at lo. refl)
  tested (Compare cmp.GreaterEq x y) = as_value (λ line at lo. refl)
  tested (Truth t) = as_value (λ line at lo. refl)
  tested (Known d) = as_value (λ line at lo. refl)
  tested (Chr x) = as_value (λ line at lo. refl)
  tested (CallExpr called args up) = as_value (λ line at lo. refl)

  -- it is one instruction longer than the value
  pub tested_long : (line at lo : ℕ) (e : Expr)
      → length (test_code p tables r line at lo (Value e)) ≡ length (unless_bare (bare e) (expr_code p tables r line at lo e)) + 1
  tested_long line at lo e = by (tested e)
    where
      differ : (x y : Expr) → length (test_code p tables r line at lo (Value (Compare cmp.Unequal x y))) ≡ length
          (expr_code p tables r line at lo (Compare cmp.Unequal x y)) + 1
      differ x y =
          let operands : List LineInstr = compared_code line at lo x y in
          let first : ℕ = slot_or p tables r (stays x y) lo in
          let operand : ℕ = value_at p tables r (behind_expr p r lo x) y in
          omega (
            arith,
            length-append operands (own line (unequal_code lo first operand (at + length operands))),
            length-append operands (own line (cmp_code cmp.Unequal lo first operand)),
          )

      by : Tested e → length (test_code p tables r line at lo (Value e)) ≡ length (unless_bare (bare e) (expr_code p tables r line at lo e))
          + 1
      by (as_value is) = ap length (is line at lo)
          ∙ length-append (unless_bare (bare e) (expr_code p tables r line at lo e)) (own line (I.Check (value_at p tables r lo e) ∷ []))
      by (as_unequal x y is) = subst (λ z. length (test_code p tables r line at lo (Value z)) ≡ length
          (unless_bare (bare z) (expr_code p tables r line at lo z)) + 1) (sym is) (differ x y)
