-- Phrases put one behind another.
use Rattle.std.proofs.Common.{◌≡◌, ℕ, ◌+◌, ◌<◌, ◌≤◌, List, [], ◌∷◌, ◌++◌, length, get_or, drop, false, Result, Ok, Err, OnOk, refl, ap, sym}
use Rattle.std.proofs.Common.{subst, ◌∙◌}
use Rattle.std.proofs.lemmas.List.{drop_more, drop_all}
use Rattle.alma_tree.specs.declared.kind.Kind.{Kind}
use Rattle.alma_spell.specs.declared.word.Spelled.{Spelled}
use Rattle.alma_spell.specs.Pushed.{Pushes, Puts}

pub stays : (a : Spelled) → Puts a a (λ rest. rest)
stays a = record { room = λ e. e; pushed = λ e rest. refl }

-- one phrase and then another
infixr 10 ◌▹◌
pub ◌▹◌ : {a m b : Spelled} {f g : List Kind → List Kind} → Puts a m f → Puts m b g → Puts a b (λ rest. f (g rest))
◌▹◌ {a} {m} {b} {f} {g} x y =
    record { room = λ e. x.room (y.room e); pushed = λ e rest. y.pushed e rest ∙ x.pushed (y.room e) (g rest) }

-- what was put of one phrase was put of another that is the same
pub alike : {X : Type 0} {a b : Spelled} (f : X → List Kind → List Kind) {s t : X} → s ≡ t → Puts a b (f t) → Puts a b (f s)
alike {X = X} {a = a} {b = b} f e h = subst (λ v. Puts a b (f v)) (sym e) h

-- the kinds that were taken out of a list, with a phrase behind them, are in the list again
pub given : {T E : Type 0} {a b : Spelled} {f : List Kind → List Kind} (r : Result T E) (old new : List Kind) → a.kinds.items ≡ old
    → Puts a b f
    → new ≡ b.kinds.items → OnOk r (b.full ≡ false) → OnOk r (Pushes old new f)
given {f = f} (Ok x) old new was h is room =
    λ rest. ap (λ kinds. kinds ++ rest) is ∙ h.pushed room rest ∙ ap (λ kinds. kinds ++ f rest) was
given (Err x) old new was h is room = tt

-- ---- loops

-- what is put now, with what is left to put, is the whole
pub record Rests (start now : Spelled) (all left : List Kind → List Kind) : Type 0 where
  pub room : now.full ≡ false → start.full ≡ false
  pub pushed : now.full ≡ false → (rest : List Kind) → now.kinds.items ++ left rest ≡ start.kinds.items ++ all rest

pub rests_all : (a : Spelled) (f : List Kind → List Kind) → Rests a a f f
rests_all a f = record { room = λ e. e; pushed = λ e rest. refl }

next : {X : Type 0} {start now : Spelled} {all : List Kind → List Kind} (p : List X → List Kind → List Kind) (i : ℕ) (xs : List X) (x : X)
    → i < length xs
    → x ≡ get_or xs i x → Rests start now all (p (drop i xs)) → Rests start now all (p (x ∷ drop (i + 1) xs))
next {start = start} {now = now} {all = all} p i xs x lt is h =
    subst (λ y. Rests start now all (p (y ∷ drop (i + 1) xs))) (sym is) (subst (λ ys. Rests start now all (p ys)) (drop_more xs i x lt) h)

behind : {start now m : Spelled} {all f : List Kind → List Kind} (before left : List Kind → List Kind) → Rests start now all before
    → Puts now m f
    → ((rest : List Kind) → f (left rest) ≡ before rest) → Rests start m all left
behind {now = now} before left h g e =
    record {
      room = λ full. h.room (g.room full);
      pushed = λ full rest. g.pushed full (left rest) ∙ ap (λ kinds. now.kinds.items ++ kinds) (e rest) ∙ h.pushed (g.room full) rest;
    }

-- one turn, which puts one item
pub turn : {X : Type 0} {start now m : Spelled} {all f : List Kind → List Kind} (p : List X → List Kind → List Kind) (i : ℕ) (xs : List X)
    (x : X)
    → i < length xs → x ≡ get_or xs i x → Rests start now all (p (drop i xs)) → Puts now m f
    → ((rest : List Kind) → f (p (drop (i + 1) xs) rest) ≡ p (x ∷ drop (i + 1) xs) rest) → Rests start m all (p (drop (i + 1) xs))
turn p i xs x lt is h g e = behind (p (x ∷ drop (i + 1) xs)) (p (drop (i + 1) xs)) (next p i xs x lt is h) g e

-- no item is left
pub finish : {X : Type 0} {start now : Spelled} {all : List Kind → List Kind} (p : List X → List Kind → List Kind) (i : ℕ) (xs : List X)
    → length xs ≤ i
    → ((rest : List Kind) → p [] rest ≡ rest) → Rests start now all (p (drop i xs)) → Puts start now all
finish {now = now} p i xs le e h =
    record {
      room = h.room;
      pushed = λ full rest. ap (λ kinds. now.kinds.items ++ kinds) (sym (ap (λ ys. p ys rest) (drop_all i xs le) ∙ e rest))
          ∙ h.pushed full rest;
    }
