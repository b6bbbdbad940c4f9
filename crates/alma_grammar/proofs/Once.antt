-- No two fillers of the open parts have one spelling, and so no two trees.
use Rattle.std.proofs.Common.{◌≡◌, List, [], ◌∷◌, Option, None, Some, ap, sym, ◌∙◌}
use Rattle.alma_tree.specs.declared.kind.Kind.{Kind}
use Rattle.alma_tree.specs.Tree as tree
use Rattle.alma_tree.specs.Spelling.{spelling}
use Rattle.alma_grammar.specs.Parts.{Part, next, whole}
use Rattle.alma_grammar.specs.Filling.{Fills, spell_fills, WhereSome}
use Rattle.alma_grammar.proofs.Finish.{Before, before}
use Rattle.alma_grammar.proofs.Follow.{InOrder, still_in_order}
use Rattle.alma_grammar.proofs.Steps.{Came, from, step, same_unspelled, whole_in_order, fills_of, spelled_so, module_of, module_again}

-- fillers that come from one token are the same, where those of what is open behind it are
same_on : (k : Kind) (ks : List Kind) (parts : List Part) (f g : Fills parts) (n : Option (List Part)) (w : WhereSome n (Before parts k))
    → Came parts k f n w → Came parts k g n w → WhereSome n InOrder → spell_fills parts f ≡ k ∷ ks → spell_fills parts g ≡ k ∷ ks
    → ((later : List Part) (x y : Fills later) → InOrder later → spell_fills later x ≡ ks → spell_fills later y ≡ ks → x ≡ y) → f ≡ g
same_on k ks parts f g None w c e o s t ih = absurd c
same_on k ks parts f g (Some later) w c e o s t ih =
    let a = (w c.0).1 in let b = ap (spell_fills parts) c.1 in let x : spell_fills later c.0 ≡ ks = cc in
    let p = (w e.0).1 in let q = ap (spell_fills parts) e.1 in let y : spell_fills later e.0 ≡ ks = cc in
    sym c.1 ∙ ap (λ z. (w z).0) (ih later c.0 e.0 o x y) ∙ e.1

-- fillers with one spelling are the same
same_fills : (ks : List Kind) (parts : List Part) (f g : Fills parts) → InOrder parts → spell_fills parts f ≡ ks → spell_fills parts g ≡ ks
    → f ≡ g
same_fills [] parts f g o s t = same_unspelled parts f g (from [] parts f s (step parts f o)) (from [] parts g t (step parts g o))
same_fills (k ∷ ks) parts f g o s t =
    same_on k ks parts f g (next parts k) (before parts k) (from (k ∷ ks) parts f s (step parts f o))
    (from (k ∷ ks) parts g t (step parts g o))
    (still_in_order parts k o) s t (same_fills ks)

-- trees with one spelling are the same
pub one_spelling : (t u : tree.Module) → spelling t ≡ spelling u → t ≡ u
one_spelling t u e =
    let x = same_fills (spelling u) whole (fills_of t) (fills_of u) whole_in_order (spelled_so t ∙ e) (spelled_so u) in
    sym (module_again t) ∙ ap module_of x ∙ module_again u
