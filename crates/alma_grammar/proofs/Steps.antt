-- The first token of what fills the open parts, and the fillers of what is open behind it.
use Rattle.std.proofs.Common.{◌≡◌, Bool, true, false, ◌&&◌, List, [], ◌∷◌, Option, None, Some, refl, ap, sym, ◌∙◌, subst}
use Rattle.alma_tree.specs.declared.kind.Kind.{Kind}
use Rattle.alma_tree.specs.declared.kind.Kind.TheVariants as kinds
use Rattle.alma_tree.specs.Tree as tree
use Rattle.alma_tree.specs.Spelling.{spelling}
use Rattle.alma_grammar.specs.Parts.{Part, one, decl_tail, body_part, begins, may_skip, this_or_later, next, all_skip, whole}
use Rattle.alma_grammar.specs.Filling.{Fill, spell_fill, shortest, Fills, spell_fills, WhereSome}
use Rattle.alma_grammar.proofs.Begun.{Built, begun}
use Rattle.alma_grammar.proofs.Finish.{Silent, silent, Before, before_from, before}
use Rattle.alma_grammar.proofs.Follow.{InOrder, is_some, may_follow, not_this}
use Rattle.alma_grammar.proofs.Undo.{Undone, Undo, nothing, token, undo}

-- the fillers are made of fillers of what is open behind the token
abbrev pub Came : (parts : List Part) (k : Kind) → Fills parts → (n : Option (List Part)) → WhereSome n (Before parts k) → Type 0
Came parts k f None w = ⊥
Came parts k f (Some later) w = (g : Fills later) × ((w g).0 ≡ f)

-- the fillers of no tokens
abbrev pub Unspelled : (parts : List Part) → Fills parts → Type 0
Unspelled [] f = Unit {0}
Unspelled (p ∷ rest) f = ((may_skip p ≡ true) × (shortest p ≡ f.0)) × Unspelled rest f.1

-- the fillers of the open parts have no token, or there is a first one
pub data Step (parts : List Part) (f : Fills parts) : Type 0 where
  ended : Unspelled parts f → Step parts f
  on : (k : Kind) → Came parts k f (next parts k) (before parts k) → Step parts f

-- ---- the first token

-- a token that begins what fills the first part
this_came : (p : Part) (rest : List Part) (k : Kind) (f : Fill p) (o : Fills rest) (b : Option (List Part))
    (w : WhereSome b (Built p k rest))
    (m : Bool) (s : m ≡ true → Silent p) (later : Option (List Part)) (ih : WhereSome later (Before rest k)) → Undone p k rest f o b w
    → Came (p ∷ rest) k (f, o) (this_or_later b m rest later) (before_from p rest k b w m s later ih)
this_came p rest k f o None w m s later ih u = absurd u
this_came p rest k f o (Some parts) w m s later ih u = (u.0, let x = u.1 in let y = u.2 in cc)

-- a token that a later part takes, where the first is filled by no token
later_came : (p : Part) (rest : List Part) (k : Kind) (f : Fill p) (o : Fills rest) (b : Option (List Part))
    (w : WhereSome b (Built p k rest))
    (m : Bool) (s : m ≡ true → Silent p) (later : Option (List Part)) (ih : WhereSome later (Before rest k))
    → is_some b ≡ false → (e : m ≡ true) → shortest p ≡ f → Came rest k o later ih
    → Came (p ∷ rest) k (f, o) (this_or_later b m rest later) (before_from p rest k b w m s later ih)
later_came p rest k f o (Some parts) w m s later ih h e q c = absurd cc
later_came p rest k f o None w true s None ih h refl q c = absurd c
later_came p rest k f o None w true s (Some later) ih h refl q c = (c.0, let x = c.1 in let y = q in cc)
later_came p rest k f o None w false s later ih h e q c = absurd cc

-- a token that fillers come from may stand there
came_is : (parts : List Part) (k : Kind) (f : Fills parts) (n : Option (List Part)) (w : WhereSome n (Before parts k)) → Came parts k f n w
    → is_some n ≡ true
came_is parts k f None w c = absurd c
came_is parts k f (Some later) w c = refl

-- each filling of the open parts has its first token, or none
pub step : (parts : List Part) (f : Fills parts) → InOrder parts → Step parts f
step [] f g = ended tt
step (p ∷ rest) f g = step_by (undo p f.0 rest f.1) (step rest f.1 g.1) where
  step_by : Undo p f.0 rest f.1 → Step rest f.1 → Step (p ∷ rest) f
  step_by (token k u) s =
      on k (this_came p rest k f.0 f.1 (begins p k) (begun p k rest) (may_skip p) (silent p) (next rest k) (before rest k) u)
  step_by (nothing m q) (ended u) = ended ((m, q), u)
  step_by (nothing m q) (on k c) =
      on k (later_came p rest k f.0 f.1 (begins p k) (begun p k rest) (may_skip p) (silent p) (next rest k) (before rest k)
      (not_this p k m (g.0 k (came_is rest k f.1 (next rest k) (before rest k) c))) m q c)

-- ---- fillers of no tokens

-- fillers of no tokens are spelled as nothing
unspelled : (parts : List Part) (f : Fills parts) → Unspelled parts f → spell_fills parts f ≡ []
unspelled [] f u = refl
unspelled (p ∷ rest) f u =
    let x = silent p u.0.0 (spell_fills rest f.1) in ap (λ y. spell_fill p y (spell_fills rest f.1)) (sym u.0.1) ∙ x
    ∙ unspelled rest f.1 u.1

-- the parts that they fill may all be left out
pub all_skipped : (parts : List Part) (f : Fills parts) → Unspelled parts f → all_skip parts ≡ true
all_skipped [] f u = refl
all_skipped (p ∷ rest) f u = ap (λ m. m && all_skip rest) u.0.0 ∙ all_skipped rest f.1 u.1

-- a filler and those of the parts behind
abbrev paired : (p : Part) (rest : List Part) → Fill p → Fills rest → Fills (p ∷ rest)
paired p rest f o = (f, o)

-- they are the only ones
pub same_unspelled : (parts : List Part) (f g : Fills parts) → Unspelled parts f → Unspelled parts g → f ≡ g
same_unspelled [] f g u v = refl
same_unspelled (p ∷ rest) f g u v =
    ap (λ x. paired p rest x f.1) (sym u.0.1 ∙ v.0.1) ∙ ap (paired p rest g.0) (same_unspelled rest f.1 g.1 u.1 v.1)

-- ---- what a spelling begins with

-- the token that fillers come from is the first of their spelling
first_kind : (k a : Kind) (ks : List Kind) (parts : List Part) (f : Fills parts) (n : Option (List Part)) (w : WhereSome n (Before parts k))
    → Came parts k f n w → spell_fills parts f ≡ a ∷ ks → k ≡ a
first_kind k a ks parts f None w c s = absurd c
first_kind k a ks parts f (Some later) w c s = let x = (w c.0).1 in let y = ap (spell_fills parts) c.1 in cc

-- fillers that come from a token have a spelling
not_ended : (k : Kind) (parts : List Part) (f : Fills parts) (n : Option (List Part)) (w : WhereSome n (Before parts k))
    → Came parts k f n w → spell_fills parts f ≡ [] → ⊥
not_ended k parts f None w c s = c
not_ended k parts f (Some later) w c s = let x = (w c.0).1 in let y = ap (spell_fills parts) c.1 in cc

-- from which step a spelling comes
abbrev pub From : (ks : List Kind) (parts : List Part) → Fills parts → Type 0
From [] parts f = Unspelled parts f
From (k ∷ ks) parts f = Came parts k f (next parts k) (before parts k)

-- the spelling tells the step
pub from : (ks : List Kind) (parts : List Part) (f : Fills parts) → spell_fills parts f ≡ ks → Step parts f → From ks parts f
from [] parts f s (ended u) = u
from [] parts f s (on k c) = absurd (not_ended k parts f (next parts k) (before parts k) c s)
from (a ∷ ks) parts f s (ended u) = let x = unspelled parts f u in absurd cc
from (a ∷ ks) parts f s (on k c) =
    let x = first_kind k a ks parts f (next parts k) (before parts k) c s in subst (λ y. Came parts y f (next parts y) (before parts y)) x c

-- ---- whole programs

-- the parts of a program are in order
pub whole_in_order : InOrder whole
whole_in_order = (λ k h. refl, (λ k h. refl, (λ k h. refl, (decls_behind, (body_behind, (λ k h. refl, (λ k h. refl, (λ k h. refl, tt))))))))
  where
    decls_behind : (k : Kind) → is_some (next (body_part ∷ one kinds.End ∷ one kinds.Name ∷ one kinds.Dot ∷ []) k) ≡ true
        → may_follow decl_tail k ≡ true
    decls_behind kinds.Begin h = refl
    decls_behind kinds.End h = refl
    decls_behind k h = absurd cc

    body_behind : (k : Kind) → is_some (next (one kinds.End ∷ one kinds.Name ∷ one kinds.Dot ∷ []) k) ≡ true → may_follow body_part k ≡ true
    body_behind kinds.End h = refl
    body_behind k h = absurd cc

-- a tree as what fills the parts of a program
abbrev pub fills_of : tree.Module → Fills whole
fills_of (tree.module_of (tree.block decls b)) = (tt, (tt, (tt, (decls, (b, (tt, (tt, (tt, tt))))))))

-- its spelling is that of the tree
pub spelled_so : (t : tree.Module) → spell_fills whole (fills_of t) ≡ spelling t
spelled_so (tree.module_of (tree.block decls b)) = refl

-- and back
abbrev pub module_of : Fills whole → tree.Module
module_of f = tree.module_of (tree.block f.1.1.1.0 f.1.1.1.1.0)

-- back again it is the same tree
pub module_again : (t : tree.Module) → module_of (fills_of t) ≡ t
module_again (tree.module_of (tree.block decls b)) = refl
