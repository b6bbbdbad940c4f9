-- The tokens read so far, followed by the shortest rest of each open part, are the spelling of a tree.
use Rattle.std.proofs.Common.{◌≡◌, Bool, true, false, ◌&&◌, List, [], ◌∷◌, ◌++◌, Option, None, Some, refl, ap, ◌∙◌}
use Rattle.alma_tree.specs.declared.kind.Kind.{Kind}
use Rattle.alma_tree.specs.Tree as tree
use Rattle.alma_tree.specs.Spelling.{spelling}
use Rattle.alma_grammar.specs.Parts.{Part, one, factor_part, primary_part, args_inside}
use Rattle.alma_grammar.specs.Parts.{plain_part}
use Rattle.alma_grammar.specs.Parts.{params_inside}
use Rattle.alma_grammar.specs.Parts.{next}
use Rattle.alma_grammar.specs.Parts.{begins, may_skip, this_or_later, next, all_skip, whole}
use Rattle.alma_grammar.specs.Filling.{spell_fill, Fills, spell_fills, shortest, shortest_fills, finish, WhereSome, and_then, open_after}
use Rattle.alma_grammar.proofs.Begun.{Built, begun}

-- the shortest filler of a part that may be left out is no token
abbrev pub Silent : Part → Type 0
Silent p = (ks : List Kind) → spell_fill p (shortest p) ks ≡ ks

pub silent : (p : Part) → may_skip p ≡ true → Silent p
silent (one k) h = absurd cc
silent factor_part h = absurd cc
silent primary_part h = absurd cc
silent args_inside h = absurd cc
silent plain_part h = absurd cc
silent params_inside h = absurd cc
silent p h = λ ks. refl

-- fillers of what is open after one more token make fillers of what was open before it
abbrev pub Before : List Part → Kind → List Part → Type 0
Before parts k later = (f : Fills later) → (g : Fills parts) × (spell_fills parts g ≡ k ∷ spell_fills later f)

abbrev pub before_from : (p : Part) (rest : List Part) (k : Kind) (b : Option (List Part)) → WhereSome b (Built p k rest)
    → (m : Bool) → (m ≡ true → Silent p) → (later : Option (List Part)) → WhereSome later (Before rest k)
    → WhereSome (this_or_later b m rest later) (Before (p ∷ rest) k)
before_from p rest k (Some parts) h m s later ih = λ f. let r = h f in ((r.0, r.1), r.2)
before_from p rest k None h true s None ih = tt
before_from p rest k None h true s (Some later) ih = λ f. let r = ih f in ((shortest p, r.0), s refl _ ∙ r.1)
before_from p rest k None h false s later ih = tt

abbrev pub before : (parts : List Part) (k : Kind) → WhereSome (next parts k) (Before parts k)
before [] k = tt
before (p ∷ rest) k = before_from p rest k (begins p k) (begun p k rest) (may_skip p) (silent p) (next rest k) (before rest k)

abbrev Front : List Kind → List Part → List Part → Type 0
Front ks parts later = (f : Fills later) → (g : Fills parts) × (spell_fills parts g ≡ ks ++ spell_fills later f)

front_joined : (k : Kind) (ks : List Kind) (parts later : List Part) (b : Option (List Part)) → Before parts k later
    → WhereSome b (Front ks later) → WhereSome b (Front (k ∷ ks) parts)
front_joined k ks parts later None h r = tt
front_joined k ks parts later (Some last) h r = λ f. let x = r f in let y = h x.0 in (y.0, y.1 ∙ ap (λ z. k ∷ z) x.1)

front_from : (k : Kind) (ks : List Kind) (parts : List Part) (b : Option (List Part)) → WhereSome b (Before parts k)
    → ((later : List Part) → WhereSome (open_after ks later) (Front ks later))
    → WhereSome (and_then b (open_after ks)) (Front (k ∷ ks) parts)
front_from k ks parts None h ih = tt
front_from k ks parts (Some later) h ih = front_joined k ks parts later (open_after ks later) h (ih later)

front : (ks : List Kind) (parts : List Part) → WhereSome (open_after ks parts) (Front ks parts)
front [] parts = λ f. (f, refl)
front (k ∷ ks) parts = front_from k ks parts (next parts k) (before parts k) (front ks)

-- ---- whole programs

as_module : (f : Fills whole) → (t : tree.Module) × (spelling t ≡ spell_fills whole f)
as_module f = (tree.module_of (tree.block f.1.1.1.0 f.1.1.1.1.0), refl)

finished : (b : Option (List Part)) (ks : List Kind) → WhereSome b (Front ks whole)
    → WhereSome b (λ parts. (t : tree.Module) × (spelling t ≡ ks ++ finish parts))
finished None ks h = tt
finished (Some parts) ks h = let r = h (shortest_fills parts) in let t = as_module r.0 in (t.0, t.1 ∙ r.1)

pub each_front_is_finished : (ks : List Kind)
    → WhereSome (open_after ks whole) (λ parts. (t : tree.Module) × (spelling t ≡ ks ++ finish parts))
each_front_is_finished ks = finished (open_after ks whole) ks (front ks whole)

-- ---- where all open parts may be left out

no_tokens_from : (p : Part) (rest : List Part) (m a : Bool) → (m ≡ true → Silent p)
    → (a ≡ true → (f : Fills rest) × (spell_fills rest f ≡ [])) → (m && a) ≡ true → (f : Fills (p ∷ rest)) × (spell_fills (p ∷ rest) f ≡ [])
no_tokens_from p rest true true s ih h = let r = ih refl in ((shortest p, r.0), s refl _ ∙ r.1)
no_tokens_from p rest true false s ih h = absurd cc
no_tokens_from p rest false a s ih h = absurd cc

no_tokens : (parts : List Part) → all_skip parts ≡ true → (f : Fills parts) × (spell_fills parts f ≡ [])
no_tokens [] h = (tt, refl)
no_tokens (p ∷ rest) h = no_tokens_from p rest (may_skip p) (all_skip rest) (silent p) (no_tokens rest) h

ended : (b : Option (List Part)) (ks : List Kind) → WhereSome b (Front ks whole)
    → WhereSome b (λ parts. all_skip parts ≡ true → (t : tree.Module) × (spelling t ≡ ks ++ []))
ended None ks h = tt
ended (Some parts) ks h = λ a. let e = no_tokens parts a in let r = h e.0 in let t = as_module r.0 in
    (t.0, t.1 ∙ r.1 ∙ ap (λ x. ks ++ x) e.1)

pub each_end_is_a_tree : (ks : List Kind)
    → WhereSome (open_after ks whole) (λ parts. all_skip parts ≡ true → (t : tree.Module) × (spelling t ≡ ks ++ []))
each_end_is_a_tree ks = ended (open_after ks whole) ks (front ks whole)
