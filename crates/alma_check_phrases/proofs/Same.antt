-- What is the same wherever a phrase stands.
use Rattle.std.proofs.Common.{◌≡◌, ℕ, refl}
use Rattle.alma_rules.specs.Numbered as tree
use Rattle.alma_rules.specs.Judgement.{Judgement}
use Rattle.alma_rules.specs.Scene.{found}
use Rattle.alma_rules.specs.Parts as parts
use Rattle.alma_rules.specs.ExprRules as rules
use Rattle.alma_rules.specs.Nodes as nodes
use Rattle.alma_check_rules.specs.declared.env.Env.{Env}
use Rattle.alma_check_rules.specs.declared.env.Place.{Place}
use Rattle.alma_check_rules.specs.Views.{scene_of, somewhere}

module _ (e : Env) (p : Place) where
  pub found_same : (name : tree.Name) → found (scene_of e p) name ≡ found (scene_of e somewhere) name
  found_same name = refl

  pub kind_same : (x : tree.Expr) → rules.argument_kind (scene_of e p) x ≡ rules.argument_kind (scene_of e somewhere) x
  kind_same x = refl

  pub indexed_same : (d : Judgement parts.Denotation) (k : ℕ) (j : Judgement parts.Typing)
      → nodes.index_at (scene_of e p) d k j ≡ nodes.index_at (scene_of e somewhere) d k j
  indexed_same d k j = refl

  pub case_same : (k : ℕ) (a : Judgement parts.Typing) → nodes.case_at (scene_of e p) k a ≡ nodes.case_at (scene_of e somewhere) k a
  case_same k a = refl
