-- Trees with numbers, read off a cursor: what each step of numbering adds, and that it is what the step checks.
use Rattle.std.proofs.Common.{◌≡◌, ◌⊎◌, inl, inr, ℕ, suc, Bool, Option, None, Some, refl, ap, sym, ◌∙◌}
use Rattle.std.specs.Prelude.{true, false, nat_eq}
use Rattle.std.proofs.lemmas.Bool.Decides.{eqb_tells}
use Rattle.alma_tree.specs.declared.leaf.Sign.{Sign}
use Rattle.alma_tree.specs.declared.leaf.Mode.{Mode}
use Rattle.alma_tree.specs.declared.leaf.Name.{Name}
use Rattle.alma_tree.specs.Numbers as number
use Rattle.alma_tree.specs.Numbers.{Cursor, Step, where_so, token, leaf, stay, and_then, number_name, number_sign, number_mode, ◌>>◌}
use Rattle.alma_rules.specs.View as view
use Rattle.alma_rules.specs.Numbered as numbered

-- what is counted from a cursor on, and the cursor behind it
abbrev pub Counts : Type 0 → Type 0
Counts A = Cursor → A × Cursor

-- one token further
abbrev pub past : Cursor → Cursor
past at = record { token = suc at.token; node = at.node }

-- nothing is counted
pub give : {A : Type 0} → A → Counts A
give x at = (x, at)

-- a token in front
pub skip : {A : Type 0} → Counts A → Counts A
skip r at = r (past at)

-- a leaf in front, and its token
pub with_token : {A : Type 0} → (ℕ → Counts A) → Counts A
with_token r at = r at.token (past at)

-- the end of a node, and its number
pub close : {A : Type 0} → (ℕ → A) → Counts A
close k at = (k at.node, record { token = at.token; node = suc at.node })

-- one part and then what comes behind it
pub bind : {A B : Type 0} → Counts A → (A → Counts B) → Counts B
bind r k at = k (r at).0 (r at).1

-- the last part
pub map : {A B : Type 0} → (A → B) → Counts A → Counts B
map k r at = (k (r at).0, (r at).1)

-- a sign, where there is one
pub past_sign : {A : Type 0} → Option Sign → Counts A → Counts A
unfolding skip
past_sign None r = r
past_sign (Some s) r = skip r

-- a mode, where there is one
pub past_mode : {A : Type 0} → Option Mode → Counts A → Counts A
unfolding skip
past_mode None r = r
past_mode (Some m) r = skip r

abbrev pub name_of : (token node : ℕ) → numbered.Name
name_of t n = record { node = n; token = t }

-- a name: its token and its node
abbrev pub count_name : Counts numbered.Name
count_name = with_token (λ t. close (name_of t))

-- where the step finds the numbers that it wants, counting gives the value, and comes to the same cursor
pub record Makes {A : Type 0} (f : Step) (r : Counts A) (x : A) : Type 0 where
  pub so : (at b : Cursor) → f at ≡ Some b → r at ≡ (x, b)

some_is : (a b : Cursor) → Some a ≡ Some b → a ≡ b
some_is a b h = ap (λ (o : Option Cursor). get o) h
  where
    get : Option Cursor → Cursor
    get None = a
    get (Some c) = c

parts : (o : Option Cursor) (g : Step) (b : Cursor) → and_then o g ≡ Some b → (mid : Cursor) × (o ≡ Some mid) × (g mid ≡ Some b)
parts None g b h = absurd (cc)
parts (Some c) g b h = (c, refl, h)

pub stays : {A : Type 0} (x : A) → Makes stay (give x) x
unfolding give
stays x = record { so = λ at b h. ap (λ (c : Cursor). (x, c)) (some_is at b h) }

pub one_token : {A : Type 0} (x : A) → Makes token (skip (give x)) x
unfolding give skip
one_token x = record { so = λ at b h. ap (λ (c : Cursor). (x, c)) (some_is (past at) b h) }

pub closes : {A : Type 0} (n : ℕ) (k : ℕ → A) → Makes (number.node n) (close k) (k n)
unfolding close
closes n k = record { so = λ at b h. go at b (nat_eq n at.node) (eqb_tells n at.node) h }
  where
    end : Cursor → Cursor
    end at = record { token = at.token; node = suc at.node }

    go : (at b : Cursor) (t : Bool) → ((t ≡ true) × (n ≡ at.node)) ⊎ ((t ≡ false) × (n ≡ at.node → ⊥)) → where_so t (end at) ≡ Some b
        → close k at ≡ (k n, b)
    go at b true (inl p) h = ap (λ (m : ℕ). (k m, end at)) (sym p.1) ∙ ap (λ (c : Cursor). (k n, c)) (some_is (end at) b h)
    go at b true (inr p) h = absurd (cc)
    go at b false p h = absurd (cc)

pub behind_token : {A : Type 0} {g : Step} {r : Counts A} {x : A} → Makes g r x → Makes (token >> g) (skip r) x
unfolding skip
behind_token d = record { so = λ at b h. d.so (past at) b h }

pub behind_leaf : {A : Type 0} (t : ℕ) {g : Step} (r : ℕ → Counts A) {x : A} → Makes g (r t) x → Makes (leaf t >> g) (with_token r) x
unfolding with_token
behind_leaf t {g = g} r {x = x} d = record { so = λ at b h. go at b (nat_eq t at.token) (eqb_tells t at.token) h }
  where
    go : (at b : Cursor) (q : Bool) → ((q ≡ true) × (t ≡ at.token)) ⊎ ((q ≡ false) × (t ≡ at.token → ⊥))
        → and_then (where_so q (past at)) g ≡ Some b
        → r at.token (past at) ≡ (x, b)
    go at b true (inl p) h = ap (λ (m : ℕ). r m (past at)) (sym p.1) ∙ d.so (past at) b h
    go at b true (inr p) h = absurd (cc)
    go at b false p h = absurd (cc)

-- a part, and what comes behind it
pub both : {A B : Type 0} {f g : Step} {r : Counts A} (k : A → Counts B) {x : A} {y : B} → Makes f r x → Makes g (k x) y
    → Makes (f >> g) (bind r k) y
unfolding bind
both {A = A} {f = f} {g = g} k {y = y} d e = record {
  so = λ at b h. let p : (mid : Cursor) × (f at ≡ Some mid) × (g mid ≡ Some b) = parts (f at) g b h in
      ap (λ (q : A × Cursor). k q.0 q.1) (d.so at p.0 p.1) ∙ e.so p.0 b p.2;
}

pub last : {A B : Type 0} {f : Step} (k : A → B) {r : Counts A} {x : A} → Makes f r x → Makes f (map k r) (k x)
unfolding map
last {A = A} k d = record { so = λ at b h. ap (λ (q : A × Cursor). (k q.0, q.1)) (d.so at b h) }

pub behind_sign : {A : Type 0} (s : Option Sign) {g : Step} {r : Counts A} {x : A} → Makes g r x
    → Makes (number_sign s >> g) (past_sign s r) x
unfolding past_sign skip
behind_sign None d = record { so = λ at b h. d.so at b h }
behind_sign (Some s) d = record { so = λ at b h. d.so (past at) b h }

pub behind_mode : {A : Type 0} (m : Option Mode) {g : Step} {r : Counts A} {x : A} → Makes g r x
    → Makes (number_mode m >> g) (past_mode m r) x
unfolding past_mode skip
behind_mode None d = record { so = λ at b h. d.so at b h }
behind_mode (Some m) d = record { so = λ at b h. d.so (past at) b h }

pub name_made : (l : Name) → Makes (number_name l) count_name (view.view_name l)
name_made l = behind_leaf l.token _ (closes l.node _)
