-- What the test says whether a list is empty.
use Rattle.std.proofs.Common.{◌≡◌, List, [], ◌∷◌, Vec, Global, length, refl, sym, ap, ◌∙◌, arith}
use Rattle.std.specs.Prelude.{Bool, true, false, not, ◌==◌, vec_len}
use Rattle.std.proofs.Math.Dec.{eqb-suc-zero}
use Rattle.std.proofs.lemmas.Bool.{false≢true}
use Rattle.alma_tree.specs.declared.phrase.Selector as dj
use Rattle.alma_rules.specs.View as view
use Rattle.alma_rules.specs.Nodes as nodes

pub length_is : {A : Type 0} (v : Vec A Global) → length v.items ≡ vec_len v
length_is v = omega (arith, v.ok)

tested : {A : Type 0} (v : Vec A Global) (b : Bool) → (vec_len v == 0) ≡ b → (length v.items == 0) ≡ b
tested v b h = ap (λ n. n == 0) (length_is v) ∙ h

none_by : {A : Type 0} (xs : List A) → (length xs == 0) ≡ true → xs ≡ []
none_by [] h = refl
none_by (x ∷ xs) h = absurd (false≢true (sym (eqb-suc-zero (length xs)) ∙ h))

more_by : {A : Type 0} (xs : List A) → (length xs == 0) ≡ false → xs ≡ [] → ⊥
more_by [] h e = false≢true (sym h)
more_by (x ∷ xs) h e = false≢true (cc)

chosen_by : (xs : List dj.Selector) → nodes.is_selected (view.selectors_of xs) ≡ not (length xs == 0)
chosen_by [] = refl
chosen_by (x ∷ xs) = ap not (sym (eqb-suc-zero (length xs)))

pub empty_by : {A : Type 0} (v : Vec A Global) → (vec_len v == 0) ≡ true → v.items ≡ []
empty_by v h = none_by v.items (tested v true h)

pub some_by : {A : Type 0} (v : Vec A Global) → (vec_len v == 0) ≡ false → v.items ≡ [] → ⊥
some_by v h = more_by v.items (tested v false h)

pub selected_by : (v : Vec dj.Selector Global) → nodes.is_selected (view.selectors_of v.items) ≡ not (vec_len v == 0)
selected_by v = chosen_by v.items ∙ ap (λ n. not (n == 0)) (length_is v)
