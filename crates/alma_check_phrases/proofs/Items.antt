-- What the walk says of an item of WRITE: a text, or an expression.
use Rattle.std.proofs.Common.{◌≡◌, ℕ, List, Option, None, Some, refl, ap, ◌∙◌}
use Rattle.std.specs.Prelude.{Bool, true, false, nat_eq, length, option_and_then, if◌then◌else◌}
use Rattle.alma_ir.specs.Tree as ir
use Rattle.alma_rules.specs.Judgement.{Judgement, fine, at_node, with}
use Rattle.alma_rules.specs.Scene.{Scene, literal_at}
use Rattle.alma_rules.specs.Parts as parts
use Rattle.alma_rules.specs.StmtRules as stmt_rules
use Rattle.alma_rules.specs.Nodes as nodes
use Rattle.alma_base.specs.Choice.{if_true}
use Rattle.alma_check_join_expr.specs.Exactly.{text_of}

-- the literal of an item that is no CHAR
abbrev literal_by : (k : ℕ) (text : List ℕ) → Bool → Option (ℕ × List ℕ)
literal_by k text b = if b then None else Some (k, text)

module _ (s : Scene) (n node : ℕ) (item : Judgement parts.Typing) where
  -- an item by the test whether its literal is a CHAR
  abbrev text_by : ℕ → List ℕ → Bool → Judgement ir.Stmts
  text_by k text b = if_true b (λ _. with (parts.write_stmts s) (at_node node (stmt_rules.write_rules s) item))
      (λ _. at_node k (nodes.text_rules s) (fine n (parts.one_stmt (ir.WriteText text))))

  -- a literal as an item
  abbrev text_of_some : Option (ℕ × List ℕ) → Judgement ir.Stmts
  text_of_some None = with (parts.write_stmts s) (at_node node (stmt_rules.write_rules s) item)
  text_of_some (Some p) = at_node p.0 (nodes.text_rules s) (fine n (parts.one_stmt (ir.WriteText p.1)))

  by_literal : (k : ℕ) (text : List ℕ) (b : Bool) → text_by k text b ≡ text_of_some (literal_by k text b)
  by_literal k text true = refl
  by_literal k text false = refl

  item_by : (l : Option (ℕ × ℕ)) → nodes.item_of s n node l item ≡ text_of_some (option_and_then (text_of s) l)
  item_by None = refl
  item_by (Some l) = by_literal l.0 (literal_at s l.1) (nat_eq (length (literal_at s l.1)) 1)

  -- an expression, or a literal that is a CHAR
  pub item_plain : (l : Option (ℕ × ℕ)) → option_and_then (text_of s) l ≡ None
      → nodes.item_of s n node l item ≡ with (parts.write_stmts s) (at_node node (stmt_rules.write_rules s) item)
  item_plain l h = item_by l ∙ ap text_of_some h

  -- any other literal
  pub item_text : (l : Option (ℕ × ℕ)) (p : ℕ × List ℕ) → option_and_then (text_of s) l ≡ Some p
      → nodes.item_of s n node l item ≡ at_node p.0 (nodes.text_rules s) (fine n (parts.one_stmt (ir.WriteText p.1)))
  item_text l p h = item_by l ∙ ap text_of_some h
