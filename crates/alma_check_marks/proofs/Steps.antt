-- Phrases walked one behind another.
use Rattle.std.proofs.Common.{◌≡◌, ℕ, ◌+◌, ◌<◌, ◌≤◌, List, [], ◌∷◌, length, get_or, drop, Result, Ok, Err, IsOk, OnOk, refl, ap, sym, subst}
use Rattle.std.proofs.Common.{◌∙◌, append_assoc, append-nil}
use Rattle.std.proofs.lemmas.List.{drop_more, drop_all}
use Rattle.alma_rules.specs.Places.{PhraseMarks, Step, stay, step_on, ◌>>◌, whole, token, statement, statement_of, from_here, marked_node}
use Rattle.alma_rules.specs.Places.{node_at}
use Rattle.alma_check_marks.specs.Marking.{begun, loop_head, two_words, one_more, Goes, HasNode}

followed_on : (a : PhraseMarks) (f g : Step) → step_on (step_on a f) g ≡ step_on a (f >> g)
followed_on a f g = ap (λ xs. record { marks = xs; end = (g (f a.end).end).end })
    (append_assoc a.marks (f a.end).marks (g (f a.end).end).marks)

followed_stay : (a : PhraseMarks) → step_on a stay ≡ a
followed_stay a = ap (λ xs. record { marks = xs; end = a.end }) (append-nil a.marks)

pub stays : (a : PhraseMarks) → Goes a a stay
stays a = record { same = sym (followed_stay a) }

-- one phrase and then another
infixr 10 ◌▹◌
pub ◌▹◌ : {a m r : PhraseMarks} {f g : Step} → Goes a m f → Goes m r g → Goes a r (f >> g)
◌▹◌ {a} {m} {r} {f} {g} x y = record { same = y.same ∙ ap (λ u. step_on u g) x.same ∙ followed_on a f g }

-- the phrase is a node
pub wholly : {a m r : PhraseMarks} {f : Step} {n : ℕ} → Goes a m f → HasNode m r n a.end → Goes a r (whole n f)
wholly {a} {m} {r} {f} {n} x y =
    record {
      same = y.same ∙ ap (marked_node n a.end) x.same
          ∙ ap (λ xs. record { marks = xs; end = (f a.end).end }) (append_assoc a.marks (f a.end).marks (node_at n a.end ∷ []));
    }

-- the same, where memory may run out
pub ends : {T E : Type 0} {a m : PhraseMarks} {f : Step} (r : Result T E) (new : PhraseMarks) (n : ℕ) → Goes a m f
    → OnOk r (HasNode m new n a.end)
    → OnOk r (Goes a new (whole n f))
ends (Ok x) new n g h = wholly g h
ends (Err x) new n g h = tt

pub ends_in : {T E : Type 0} {a m : PhraseMarks} {f : Step} (r : Result T E) (new : PhraseMarks) (g : Step) → Goes a m f
    → OnOk r (Goes m new g)
    → OnOk r (Goes a new (f >> g))
ends_in (Ok x) new g e h = e ▹ h
ends_in (Err x) new g e h = tt

-- where what came behind a part was reached, the part has been walked
pub went : {T E : Type 0} {a m : PhraseMarks} {f : Step} (w : Result T E) → IsOk w → OnOk w (Goes a m f) → Goes a m f
went (Ok x) is h = h
went (Err x) is h = absurd (cc)

-- the part is a node with what it is behind, and was looked at by who put the node
pub closes : {T E U F : Type 0} {a m k : PhraseMarks} {f g : Step} (r : Result T E) (w : Result U F) (new : PhraseMarks) (n : ℕ)
    → OnOk w (Goes m k g) → OnOk r (IsOk w) → OnOk r (HasNode k new n a.end) → (Goes m k g → Goes a k f) → OnOk r (Goes a new (whole n f))
closes (Ok x) w new n h is noted last = wholly (last (went w is h)) noted
closes (Err x) w new n h is noted last = tt

-- one phrase that nothing is known of
next_of : (k : PhraseMarks) (f : Step) → Goes k (step_on k f) f
next_of k f = record { same = refl }

-- the same, with a token behind the part
pub closes_in : {T E U F : Type 0} {a m : PhraseMarks} {f : Step} (r : Result T E) (w : Result U F) (new : PhraseMarks) (n : ℕ)
    (k : PhraseMarks)
    (g : Step)
    → OnOk w (Goes m k g) → OnOk r (IsOk w) → OnOk r (HasNode (step_on k token) new n a.end)
    → (Goes m (step_on k token) (g >> token) → Goes a (step_on k token) f) → OnOk r (Goes a new (whole n f))
closes_in (Ok x) w new n k g h is noted last = wholly (last (went w is h ▹ next_of k token)) noted
closes_in (Err x) w new n k g h is noted last = tt

-- the part and a token behind it, which looked at it
pub passes : {T E U F : Type 0} (r : Result T E) (w : Result U F) (a m new : PhraseMarks) (f : Step)
    → OnOk w (Goes a m f) → OnOk r (IsOk w) → OnOk r (Goes m new token) → OnOk r (Goes a new (f >> token))
passes (Ok x) w a m new f h is g = went w is h ▹ g
passes (Err x) w a m new f h is g = tt

-- a node behind a phrase, as it is behind what the phrase makes of the marks
pub noted_in : {a m r : PhraseMarks} {f : Step} {n at : ℕ} → Goes a m f → HasNode m r n at → HasNode (step_on a f) r n at
noted_in {a} {m} {r} {f} {n} {at} x y = record { same = y.same ∙ ap (marked_node n at) x.same }

-- two tokens, and what is behind them
pub words : {a m r : PhraseMarks} {g : Step} → Goes a m two_words → Goes m r g → Goes a r (token >> token >> g)
words x y = record { same = (x ▹ y).same }

-- the head of a FOR or SOME, and what is behind it
pub opens : {a m r : PhraseMarks} {g : Step} (v : ℕ) → Goes a m (loop_head v) → Goes m r g
    → Goes a r (statement >> token >> whole v token >> token >> g)
opens v x y = record { same = (x ▹ y).same }

-- a statement that begins here
pub stated : {a r : PhraseMarks} → Goes a r (statement_of a.end) → Goes a r statement
stated g = record { same = g.same }

pub here : {a r : PhraseMarks} (f : ℕ → Step) → Goes a r (f a.end) → Goes a r (from_here f)
here f g = record { same = g.same }

-- ---- from a token on, with nothing before

pub started : {a r : PhraseMarks} {f : Step} {at : ℕ} → a ≡ stay at → Goes a r f → r ≡ f at
started {a} {r} {f} {at} e g = g.same ∙ ap (λ u. step_on u f) e

pub whole_from : {a m r : PhraseMarks} {f : Step} {n at : ℕ} → a ≡ stay at → Goes a m f → HasNode m r n at → r ≡ whole n f at
whole_from {a} {m} {r} {f} {n} {at} e g y = y.same ∙ ap (marked_node n at) (started e g)

-- ---- loops

-- what is walked now, with the rest behind it, is the whole
pub record Rests (start now : PhraseMarks) (all rest : Step) : Type 0 where
  pub same : step_on now rest ≡ step_on start all

pub rests_all : (a : PhraseMarks) (f : Step) → Rests a a f f
rests_all a f = record { same = refl }

infixl 10 ◌▸◌
pub ◌▸◌ : {start now m : PhraseMarks} {all f rest : Step} → Rests start now all (f >> rest) → Goes now m f → Rests start m all rest
◌▸◌ {start} {now} {m} {all} {f} {rest} h g = record { same = ap (λ u. step_on u rest) g.same ∙ followed_on now f rest ∙ h.same }

-- a comma and a statement at a token, as one step of a loop
pub item : {start now m : PhraseMarks} {all rest : Step} (at : ℕ) → Rests start now all (token >> statement_of at >> rest)
    → Goes now m (one_more at) → Rests start m all rest
item {start} {now} {m} {all} {rest} at h g =
    record { same = ap (λ u. step_on u rest) g.same ∙ followed_on now (one_more at) rest ∙ h.same }

pub next_at : {X : Type 0} {start now : PhraseMarks} {all : Step} (p : List X → Step) (i : ℕ) (xs : List X) (d : X) → i < length xs
    → Rests start now all (p (drop i xs)) → Rests start now all (p (get_or xs i d ∷ drop (i + 1) xs))
next_at {start = start} {now = now} {all = all} p i xs d lt h = subst (λ ys. Rests start now all (p ys)) (drop_more xs i d lt) h

pub next : {X : Type 0} {start now : PhraseMarks} {all : Step} (p : List X → Step) (i : ℕ) (xs : List X) (x : X) → i < length xs
    → x ≡ get_or xs i x
    → Rests start now all (p (drop i xs)) → Rests start now all (p (x ∷ drop (i + 1) xs))
next {start = start} {now = now} {all = all} p i xs x lt is h =
    subst (λ y. Rests start now all (p (y ∷ drop (i + 1) xs))) (sym is) (next_at p i xs x lt h)

pub finish : {X : Type 0} {start now : PhraseMarks} {all : Step} (p : List X → Step) (i : ℕ) (xs : List X) → length xs ≤ i → p [] ≡ stay
    → Rests start now all (p (drop i xs)) → Goes start now all
finish {start = start} {now = now} {all = all} p i xs le e h =
    record { same = sym (followed_stay now) ∙ ap (step_on now) (sym e ∙ ap p (sym (drop_all i xs le))) ∙ h.same }

-- a statement with its first word, and the rest of it
pub begins : {a m r : PhraseMarks} {g : Step} → Goes a m begun → Goes m r g → Goes a r (statement >> token >> g)
begins {a} {m} {r} {g} x y = record {
  same = (x ▹ y).same ∙ sym (followed_on a statement (token >> g))
      ∙ sym (followed_on (step_on a statement) token g) ∙ ap (λ u. step_on u g) (followed_on a statement token)
      ∙ followed_on a (statement >> token) g;
}
