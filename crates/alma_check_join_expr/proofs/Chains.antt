-- Sums and products at their node.
use Rattle.std.proofs.Common.{◌≡◌, ℕ, List, [], ◌∷◌, ◌++◌, Option, None, Some, refl, sym, subst, ap, ◌∙◌}
use Rattle.std.specs.Prelude.{Bool, true, false, ◌&&◌, option_map}
use Rattle.alma_base.specs.declared.fault.CheckFault.{CheckFault}
use Rattle.alma_base.specs.declared.fault.CheckFault.TheVariants as fault
use Rattle.alma_tree.specs.declared.leaf.Sign.{Sign}
use Rattle.alma_ir.specs.Tree as ir
use Rattle.alma_rules.specs.declared.error.Stop.{Stop}
use Rattle.alma_rules.specs.declared.error.Stop.TheVariants.{Fault, Memory}
use Rattle.alma_rules.specs.Numbered as tree
use Rattle.alma_rules.specs.Judgement.{Judgement, of_value, broken_at, both, both_of, at_node}
use Rattle.alma_rules.specs.Answers.{Stops}
use Rattle.alma_rules.specs.Scene.{Scene}
use Rattle.alma_rules.specs.Parts as parts
use Rattle.alma_rules.specs.ExprRules as rules
use Rattle.alma_rules.specs.Nodes as nodes
use Rattle.alma_rules.proofs.Judging.{stops_more, both_fine, with_fine, node_stops}
use Rattle.alma_check_join_expr.specs.Single.{one_term, one_factor}

-- the first of two lists of rules stops
pub stops_front : (n : ℕ) (xs ys : List CheckFault) (e : Stop) → Stops (broken_at n xs) e → Stops (broken_at n (xs ++ ys)) e
stops_front n [] ys (Fault f k) h = absurd (cc)
stops_front n (x ∷ xs) ys (Fault f k) h = h
stops_front n xs ys Memory h = tt

none_behind : (xs : List CheckFault) → xs ++ [] ≡ xs
none_behind [] = refl
none_behind (x ∷ xs) = ap (λ l. x ∷ l) (none_behind xs)

module _ (s : Scene) (join : ir.Tests → ir.Test) (o : rules.Operand) (sign : Option Sign) (logical : Bool)
    (v : Option (parts.Typing × parts.Operands)) where
  chain_over : s.constant && logical ≡ false → rules.no_constant_sum s sign logical v ≡ true
      → rules.chain_rules s join o sign logical v ≡ rules.operand_rules s o None ++ fault.ConstRange ∷ []
  chain_over c h = rw (c, h) refl

  chain_fit : s.constant && logical ≡ false → rules.no_constant_sum s sign logical v ≡ false
      → rules.chain_rules s join o sign logical v ≡ rules.operand_rules s o (option_map (parts.chain_typing join sign) v)
  chain_fit c h = rw (c, h) (none_behind (rules.operand_rules s o (option_map (parts.chain_typing join sign) v)))

  pub chain_const : (k : ℕ) → s.constant && logical ≡ true
      → Stops (broken_at k (rules.chain_rules s join o sign logical v)) (Fault fault.NotConst k)
  chain_const k c = rw c refl

  pub chain_over_operand : (k : ℕ) (e : Stop) → s.constant && logical ≡ false → rules.no_constant_sum s sign logical v ≡ true
      → Stops (broken_at k (rules.operand_rules s o None)) e → Stops (broken_at k (rules.chain_rules s join o sign logical v)) e
  chain_over_operand k e c h t = rw (chain_over c h) (stops_front k (rules.operand_rules s o None) (fault.ConstRange ∷ []) e t)

  pub chain_range : (k : ℕ) → s.constant && logical ≡ false → rules.no_constant_sum s sign logical v ≡ true
      → rules.operand_rules s o None ≡ [] → Stops (broken_at k (rules.chain_rules s join o sign logical v)) (Fault fault.ConstRange k)
  chain_range k c h t = rw (chain_over c h, t) refl

  pub chain_operand : (k : ℕ) (e : Stop) → s.constant && logical ≡ false → rules.no_constant_sum s sign logical v ≡ false
      → Stops (broken_at k (rules.operand_rules s o (option_map (parts.chain_typing join sign) v))) e
      → Stops (broken_at k (rules.chain_rules s join o sign logical v)) e
  chain_operand k e c h t = rw (chain_fit c h) t

  pub chain_fine : (m k : ℕ) → s.constant && logical ≡ false → rules.no_constant_sum s sign logical v ≡ false
      → rules.operand_rules s o (option_map (parts.chain_typing join sign) v) ≡ []
      → nodes.chain_at s join o k sign logical (of_value m v) ≡ of_value m (option_map (parts.chain_typing join sign) v)
  chain_fine m k c h t = rw (chain_fit c h ∙ t) refl

pub ruleset chains = (chain_const, chain_over_operand, chain_range, chain_operand, chain_fine)

-- ---- one term, and one factor
pub sum_one : (s : Scene) (k : ℕ) (sign : Option Sign) (rest : tree.TermTail) (j : Judgement (parts.Typing × parts.Operands))
    → one_term sign rest ≡ true
    → nodes.sum_at s k sign rest j ≡ nodes.alone_in j
sum_one s k None tree.no_term j h = refl
sum_one s k None (tree.more_term o t rest) j h = absurd (cc)
sum_one s k (Some g) rest j h = absurd (cc)

pub sum_more : (s : Scene) (k : ℕ) (sign : Option Sign) (rest : tree.TermTail) (j : Judgement (parts.Typing × parts.Operands))
    → one_term sign rest ≡ false
    → nodes.sum_at s k sign rest j ≡ nodes.chain_at s ir.Or rules.alone k sign (nodes.any_or rest) j
sum_more s k None tree.no_term j h = absurd (cc)
sum_more s k None (tree.more_term o t rest) j h = refl
sum_more s k (Some g) tree.no_term j h = refl
sum_more s k (Some g) (tree.more_term o t rest) j h = refl

pub product_one : (s : Scene) (o : rules.Operand) (k : ℕ) (rest : tree.FactorTail) (j : Judgement (parts.Typing × parts.Operands))
    → one_factor rest ≡ true
    → nodes.product_at s o k rest j ≡ at_node k (rules.operand_rules s o) (nodes.alone_in j)
product_one s o k tree.no_factor j h = refl
product_one s o k (tree.more_factor x f rest) j h = absurd (cc)

pub product_more : (s : Scene) (o : rules.Operand) (k : ℕ) (rest : tree.FactorTail) (j : Judgement (parts.Typing × parts.Operands))
    → one_factor rest ≡ false
    → nodes.product_at s o k rest j ≡ nodes.chain_at s ir.And o k None (nodes.any_and rest) j
product_more s o k tree.no_factor j h = absurd (cc)
product_more s o k (tree.more_factor x f rest) j h = refl

-- a fault of the operands stays the first
pub sum_stops : (s : Scene) (k : ℕ) (sign : Option Sign) (rest : tree.TermTail) (j : Judgement (parts.Typing × parts.Operands)) (x : Stop)
    → Stops j.faults x → Stops (nodes.sum_at s k sign rest j).faults x
sum_stops s k None tree.no_term j x h = h
sum_stops s k None (tree.more_term o t rest) j x h = stops_more j.faults _ x h
sum_stops s k (Some g) tree.no_term j x h = stops_more j.faults _ x h
sum_stops s k (Some g) (tree.more_term o t rest) j x h = stops_more j.faults _ x h

pub product_stops : (s : Scene) (o : rules.Operand) (k : ℕ) (rest : tree.FactorTail) (j : Judgement (parts.Typing × parts.Operands))
    (x : Stop)
    → Stops j.faults x → Stops (nodes.product_at s o k rest j).faults x
product_stops s o k tree.no_factor j x h = stops_more j.faults _ x h
product_stops s o k (tree.more_factor y f rest) j x h = stops_more j.faults _ x h

pub ruleset ones = (sum_one, sum_more, product_one, product_more)

-- ---- a node, by what its parts are
pub sum_whole : (s : Scene) (k n m : ℕ) (sign : Option Sign) (rest : tree.TermTail) (v : Option parts.Typing) (j : Judgement parts.Operands)
    (w : Option parts.Operands) (logical : Bool)
    → one_term sign rest ≡ false → logical ≡ nodes.any_or rest → j ≡ of_value m w
    → nodes.sum_at s k sign rest (both (of_value n v) j) ≡ nodes.chain_at s ir.Or rules.alone k sign logical (of_value m (both_of v w))
sum_whole s k n m sign rest v j w logical h e is = sum_more s k sign rest (both (of_value n v) j) h ∙ rw (e, is) refl

pub product_whole : (s : Scene) (o : rules.Operand) (k n m : ℕ) (rest : tree.FactorTail) (v : Option parts.Typing)
    (j : Judgement parts.Operands) (w : Option parts.Operands) (logical : Bool)
    → one_factor rest ≡ false → logical ≡ nodes.any_and rest → j ≡ of_value m w
    → nodes.product_at s o k rest (both (of_value n v) j) ≡ nodes.chain_at s ir.And o k None logical (of_value m (both_of v w))
product_whole s o k n m rest v j w logical h e is = product_more s o k rest (both (of_value n v) j) h ∙ rw (e, is) refl

-- the rules of a product that is its only factor
pub product_alone_stops : (s : Scene) (o : rules.Operand) (k n m : ℕ) (rest : tree.FactorTail) (v : Option parts.Typing)
    (j : Judgement parts.Operands) (w : Option parts.Operands) (t : Option parts.Typing) (x : Stop)
    → one_factor rest ≡ true → j ≡ of_value m w → t ≡ option_map (λ p. p.0) (both_of v w)
    → Stops (broken_at k (rules.operand_rules s o t)) x → Stops (nodes.product_at s o k rest (both (of_value n v) j)).faults x
product_alone_stops s o k n m rest v j w t x h is e a =
    subst (λ (i : Judgement parts.Typing). Stops i.faults x) (sym (product_one s o k rest (both (of_value n v) j) h))
    (node_stops k (rules.operand_rules s o) (nodes.alone_in (both (of_value n v) j)) x m t
    (with_fine (λ (p : parts.Typing × parts.Operands). p.0) (both (of_value n v) j) m (both_of v w) (both_fine n m v j w is)
    ∙ ap (of_value m) (sym e)) a)
