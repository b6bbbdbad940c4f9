-- The spelling of what fills the open parts is read to its end, and so is each tree.
use Rattle.std.proofs.Common.{◌≡◌, ℕ, false, List, [], ◌∷◌, Option, None, Some, ap}
use Rattle.alma_tree.specs.declared.kind.Kind.{Kind}
use Rattle.alma_tree.specs.Tree as tree
use Rattle.alma_tree.specs.Spelling.{spelling}
use Rattle.alma_grammar.specs.Parts.{Part, next, whole}
use Rattle.alma_grammar.specs.Reading.{reading, done, at_end, goes_on, level}
use Rattle.alma_grammar.specs.Filling.{Fills, spell_fills, WhereSome}
use Rattle.alma_grammar.proofs.Finish.{Before, before}
use Rattle.alma_grammar.proofs.Follow.{InOrder, still_in_order}
use Rattle.alma_grammar.proofs.Steps.{Came, from, step, all_skipped, whole_in_order, fills_of, spelled_so}

-- fillers that come from a token are read on, where those of what is open behind it are
reads_on : (k : Kind) (ks : List Kind) (parts : List Part) (f : Fills parts) (d : ℕ) (n : Option (List Part))
    (w : WhereSome n (Before parts k))
    → Came parts k f n w → WhereSome n InOrder → spell_fills parts f ≡ k ∷ ks
    → ((later : List Part) (g : Fills later) → InOrder later → spell_fills later g ≡ ks → reading false ks (level d k) later ≡ done)
    → goes_on n false (k ∷ ks) (reading false ks (level d k)) ≡ done
reads_on k ks parts f d None w c g s ih = absurd c
reads_on k ks parts f d (Some later) w c g s ih =
    let x = (w c.0).1 in let y = ap (spell_fills parts) c.1 in let z : spell_fills later c.0 ≡ ks = cc in ih later c.0 g z

-- fillers of parts in order are read to their end
reads : (ks : List Kind) (parts : List Part) (f : Fills parts) (d : ℕ) → InOrder parts → spell_fills parts f ≡ ks
    → reading false ks d parts ≡ done
reads [] parts f d g s = ap at_end (all_skipped parts f (from [] parts f s (step parts f g)))
reads (k ∷ ks) parts f d g s =
    reads_on k ks parts f d (next parts k) (before parts k) (from (k ∷ ks) parts f s (step parts f g)) (still_in_order parts k g) s
    (λ later x. reads ks later x (level d k))

-- each tree is read to its end
pub whole_read : (t : tree.Module) → reading false (spelling t) 0 whole ≡ done
whole_read t = reads (spelling t) whole (fills_of t) 0 whole_in_order (spelled_so t)
