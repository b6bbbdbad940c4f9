-- An index, whose rules hold.
use Rattle.std.proofs.Common.{◌≡◌, ℕ, Option, ap}
use Rattle.alma_rules.specs.Judgement.{Judgement, of_value, at_node}
use Rattle.alma_rules.specs.Parts as parts
use Rattle.alma_rules.specs.Nodes as nodes
use Rattle.alma_rules.specs.ExprRules as rules
use Rattle.alma_rules.specs.Scene.{Scene}
use Rattle.alma_rules.proofs.Onwards.{judged}

pub indexed_fine : (s : Scene) (n k m : ℕ) (v : Option parts.Denotation) (j : Judgement parts.Typing) (w : Option parts.Typing)
    → at_node k (rules.index_rules s v) j ≡ of_value m w
    → nodes.index_at s (of_value n v) k j ≡ of_value m (parts.select_index s v w)
indexed_fine s n k m v j w h = ap (λ (i : Judgement parts.Typing). judged {A = parts.Denotation} i.faults i.next
    (parts.select_index s v i.value))
    h
