-- The relation between an event list and a run of the machine, and how runs of parts make runs of wholes.
--
-- `Goes line left more fits base e s r q`: from the state s the machine does what the event list e says, with the entries of
-- `base` below its own. r steps are paid for, each visit pays for 32 more; at an alternative `left` steps are still paid
-- for, where `more` steps may be had on credit; q steps must still be made before a cut. `fits` says where and how an
-- alternative leaves the machine. A fault that has no line yet ends the machine at an address of the line of the statement
-- around, and another one at an address of its own line. When something fails again, the entries of `base` may have got other carries.
use Rattle.std.proofs.Common.{◌≡◌, ℕ, zero, suc, ◌+◌, ◌-◌, ◌<◌, ◌≤◌, List, [], ◌∷◌, ◌++◌, refl, sym, ap, ◌∙◌, arith, append_assoc}
use Rattle.std.proofs.Common.{append-nil}
use Rattle.alma_code.specs.declared.step.End.TheVariants as end
use Rattle.alma_code.specs.Picture.{PlainEntry}
use Rattle.alma_code.specs.Plain.{PlainCode}
use Rattle.alma_code.specs.Machine.{Mode, Going, Failing, Ended, Stuck, State, step, after, prints}
use Rattle.alma_mean.specs.Store.{Store}
use Rattle.alma_mean.specs.Events.{Events, Flow, Go, Return, Visit, Print, Alt, Fail, Fault, Cut, one, join, bind, visit_each, node}
use Rattle.alma_mean.specs.Events.{on_first, line_or, at_line}
use Rattle.alma_lower_implements.specs.Implements.{line_in}

-- the machine has not come to an end
abbrev pub IsOn : Mode → Type 0
IsOn Going = Unit {0}
IsOn Failing = Unit {0}
IsOn (Ended e) = ⊥
IsOn Stuck = ⊥

-- two entries that differ in their carries alone
pub record LikeEntry (a b : PlainEntry) : Type 0 where
  pub kind : a.kind ≡ b.kind
  pub resume : a.resume ≡ b.resume
  pub frames : a.frames ≡ b.frames

-- entry by entry
abbrev pub Like : List PlainEntry → List PlainEntry → Type 0
Like [] [] = Unit {0}
Like [] (b ∷ bs) = ⊥
Like (a ∷ as_) [] = ⊥
Like (a ∷ as_) (b ∷ bs) = LikeEntry a b × Like as_ bs

pub like_self : (a : List PlainEntry) → Like a a
like_self [] = tt
like_self (x ∷ a) = (record { kind = refl; resume = refl; frames = refl }, like_self a)

pub like_trans : (a b c : List PlainEntry) → Like a b → Like b c → Like a c
like_trans [] [] [] h k = tt
like_trans [] [] (z ∷ c) h k = k
like_trans [] (y ∷ b) c h k = absurd h
like_trans (x ∷ a) [] c h k = absurd h
like_trans (x ∷ a) (y ∷ b) [] h k = k
like_trans (x ∷ a) (y ∷ b) (z ∷ c) h k =
    (record { kind = h.0.kind ∙ k.0.kind; resume = h.0.resume ∙ k.0.resume; frames = h.0.frames ∙ k.0.frames }, like_trans a b c h.1 k.1)

-- with the same entries above
pub like_below : (a b m : List PlainEntry) → Like a b → Like (a ++ m) (b ++ m)
like_below [] [] m h = like_self m
like_below [] (y ∷ b) m h = absurd h
like_below (x ∷ a) [] m h = absurd h
like_below (x ∷ a) (y ∷ b) m h = (h.0, like_below a b m h.1)

-- a failing machine with these entries, whatever its frames
pub record IsFailing (held : List PlainEntry) (s : State) : Type 0 where
  pub mode : s.mode ≡ Failing
  pub entries : s.held ≡ held

-- a machine that goes on with these entries
pub record IsGoing (held : List PlainEntry) (s : State) : Type 0 where
  pub mode : s.mode ≡ Going
  pub entries : s.held ≡ held

module _ (code : PlainCode) (input : List ℕ) where
  -- k steps lead from s to t, and print nothing
  pub record Silently (k : ℕ) (s t : State) : Type 0 where
    pub steps : after code input k s ≡ t
    pub silent : prints code input k s ≡ []

  -- one step leads from s to t, and prints these bytes
  pub record Prints (bytes : List ℕ) (s t : State) : Type 0 where
    pub on : IsOn s.mode
    pub leads : (step code input s).state ≡ t
    pub printed : (step code input s).printed ≡ bytes

  -- ---- steps

  pub after_sum : (j k : ℕ) (s : State) → after code input (j + k) s ≡ after code input k (after code input j s)
  after_sum zero k s = let e : 0 + k ≡ k = omega arith in ap (λ n. after code input n s) e
  after_sum (suc j) k s =
      let e : suc j + k ≡ suc (j + k) = omega arith in
      ap (λ n. after code input n s) e ∙ after_sum j k (step code input s).state

  pub prints_sum : (j k : ℕ) (s : State) → prints code input (j + k) s ≡ prints code input j s ++ prints code input k (after code input j s)
  prints_sum zero k s = let e : 0 + k ≡ k = omega arith in ap (λ n. prints code input n s) e
  prints_sum (suc j) k s =
      let e : suc j + k ≡ suc (j + k) = omega arith in
      ap (λ n. prints code input n s) e
      ∙ ap (λ x. (step code input s).printed ++ x) (prints_sum j k (step code input s).state)
      ∙ sym (append_assoc (step code input s).printed (prints code input j (step code input s).state)
      (prints code input k (after code input (suc j) s)))

  pub no_step : (s : State) → Silently 0 s s
  no_step s = record { steps = refl; silent = refl }

  -- some steps, and then some more
  pub and_then : {j k : ℕ} {s t u : State} → Silently j s t → Silently k t u → Silently (j + k) s u
  and_then {j = j} {k = k} {s = s} a b = record {
    steps = after_sum j k s ∙ ap (after code input k) a.steps ∙ b.steps;
    silent = prints_sum j k s ∙ ap (λ x. x ++ prints code input k (after code input j s)) a.silent ∙ ap (prints code input k) a.steps
        ∙ b.silent;
  }

-- `line` is that of the statement around
module _ (code : PlainCode) (input : List ℕ) (line : ℕ) where
  abbrev pub Goes : {A : Type 0} → (left more : ℕ) → (fits : Store → Flow A → State → Type 0) → (base : List PlainEntry) → Events A → State
      → (r q : ℕ) → Type 0
  Goes left more fits base Fail s r q = (k : ℕ) × (t : State) × (k ≤ r) × Silently code input k s t × IsFailing base t
  Goes left more fits base (Fault f own) s r q = (k : ℕ) × (t : State) × (k ≤ r) × Silently code input k s t
      × (t.mode ≡ Ended (end.Fault f)) × (line_in code t ≡ line_or own line)
  Goes left more fits base Cut s r q = (k : ℕ) × (t : State) × (k ≤ r) × Silently code input k s t × (q ≤ k) × IsOn t.mode
  Goes left more fits base (Visit e) s r q = Goes left more fits base e s (r + 32) q
  Goes left more fits base (Print bytes e) s r q =
      (k : ℕ) × (t : State) × (suc k ≤ r) × Silently code input k s t × (u : State) × Prints code input bytes t u × IsOn u.mode
      × Goes left more fits base e u (r - suc k) (q - suc k)
  Goes left more fits base (Alt v w e) s r q =
      (k : ℕ) × (t : State) × (k + left ≤ r + more) × Silently code input k s t × (above : List PlainEntry) × IsGoing (base ++ above) t
      × fits v w t
      × ((base2 : List PlainEntry) (u : State) → Like base base2 → IsFailing (base2 ++ above) u → Goes left more fits base2 e u 0 (q - k))

  -- ---- more credit, less debt, and steps before

  pub before : {A : Type 0} (left more : ℕ) (fits : Store → Flow A → State → Type 0) (base : List PlainEntry) (e : Events A) (s t : State)
      (j r p q u : ℕ) → Silently code input j s t → j + p ≤ r → q ≤ j + u → Goes left more fits base e t p u
      → Goes left more fits base e s r q
  before left more fits base Fail s t j r p q u a le de h = (j + h.0, h.1, omega (arith, h.2), and_then code input a h.3, h.4)
  before left more fits base (Fault f own) s t j r p q u a le de h = (j + h.0, h.1, omega (arith, h.2), and_then code input a h.3, h.4, h.5)
  before left more fits base Cut s t j r p q u a le de h =
      (j + h.0, h.1, omega (arith, h.2), and_then code input a h.3, omega (arith, h.4), h.5)
  before left more fits base (Visit e) s t j r p q u a le de h =
      before left more fits base e s t j (r + 32) (p + 32) q u a (omega arith) de h
  before left more fits base (Print bytes e) s t j r p q u a le de h = (
    j + h.0,
    h.1,
    omega (arith, h.2),
    and_then code input a h.3,
    h.4,
    h.5,
    h.6,
    before left more fits base e h.4 h.4 0 (r - suc (j + h.0)) (p - suc h.0) (q - suc (j + h.0)) (u - suc h.0) (no_step code input h.4)
        (omega (arith, h.2)) (omega arith) h.7,
  )
  before left more fits base (Alt v w e) s t j r p q u a le de h = (
    j + h.0,
    h.1,
    omega (arith, h.2),
    and_then code input a h.3,
    h.4,
    h.5,
    h.6,
    λ base2 x like failing. before left more fits base2 e x x 0 0 0 (q - (j + h.0)) (u - h.0) (no_step code input x) (omega arith)
        (omega arith) (h.7 base2 x like failing),
  )

  pub weaker : {A : Type 0} (left more : ℕ) (fits : Store → Flow A → State → Type 0) (base : List PlainEntry) (e : Events A) (s : State)
      (r p q u : ℕ) → p ≤ r → q ≤ u → Goes left more fits base e s p u → Goes left more fits base e s r q
  weaker left more fits base e s r p q u le de h =
      before left more fits base e s s 0 r p q u (no_step code input s) (omega arith) (omega arith) h

  -- ---- one list and then another

  -- g is what the machine does when it fails over `base` and the entries of `mid`, whatever the carries in `base` have become
  pub join_goes : {A : Type 0} (left more : ℕ) (fits : Store → Flow A → State → Type 0) (base mid : List PlainEntry) (f g : Events A)
      (s : State) (r q : ℕ) → Goes left more fits (base ++ mid) f s r q
      → ((base2 : List PlainEntry) (u : State) → Like base base2 → IsFailing (base2 ++ mid) u → Goes left more fits base2 g u 0 q)
      → Goes left more fits base (join f g) s r q
  join_goes left more fits base mid Fail g s r q h k =
      before left more fits base g s h.1 h.0 r 0 q q h.3 (omega (arith, h.2)) (omega arith) (k base h.1 (like_self base) h.4)
  join_goes left more fits base mid (Fault x own) g s r q h k = h
  join_goes left more fits base mid Cut g s r q h k = h
  join_goes left more fits base mid (Visit e) g s r q h k = join_goes left more fits base mid e g s (r + 32) q h k
  join_goes left more fits base mid (Print bytes e) g s r q h k = (
    h.0,
    h.1,
    h.2,
    h.3,
    h.4,
    h.5,
    h.6,
    join_goes left more fits base mid e g h.4 (r - suc h.0) (q - suc h.0) h.7
        (λ base2 u like failing. weaker left more fits base2 g u 0 0 (q - suc h.0) q (omega arith) (omega arith) (k base2 u like failing)),
  )
  join_goes left more fits base mid (Alt v w e) g s r q h k = (
    h.0,
    h.1,
    h.2,
    h.3,
    mid ++ h.4,
    record { mode = h.5.mode; entries = h.5.entries ∙ append_assoc base mid h.4 },
    h.6,
    λ base2 u like failing.
        join_goes left more fits base2 mid e g u 0 (q - h.0)
        (h.7 (base2 ++ mid) u (like_below base base2 mid like)
        (record { mode = failing.mode; entries = failing.entries ∙ sym (append_assoc base2 mid h.4) }))
        (λ base3 x like3 failing3. weaker left more fits base3 g x 0 0 (q - h.0) q (omega arith) (omega arith)
        (k base3 x (like_trans base base2 base3 like like3) failing3)),
  )

  -- ---- in place of each alternative that goes on

  pub bind_goes : {A B : Type 0} (left left2 more2 : ℕ) (fits : Store → Flow A → State → Type 0) (fits2 : Store → Flow B → State → Type 0)
      (base : List PlainEntry) (e : Events A) (f : Store → A → Events B) (s : State) (r q p : ℕ) → p ≤ left → left2 ≤ left + more2
      → Goes left 0 fits base e s r q
      → ((v : Store) (y : A) (t : State) (held : List PlainEntry) → IsGoing held t → fits v (Go y) t
      → Goes left2 more2 fits2 held (f v y) t p q)
      → ((v : Store) (n : _) (t : State) → fits v (Return n) t → fits2 v (Return n) t)
      → Goes left2 more2 fits2 base (bind e f) s r q
  bind_goes left left2 more2 fits fits2 base Fail f s r q p pl ll h k back = h
  bind_goes left left2 more2 fits fits2 base (Fault x own) f s r q p pl ll h k back = h
  bind_goes left left2 more2 fits fits2 base Cut f s r q p pl ll h k back = h
  bind_goes left left2 more2 fits fits2 base (Visit e) f s r q p pl ll h k back =
      bind_goes left left2 more2 fits fits2 base e f s (r + 32) q p pl ll h k back
  bind_goes left left2 more2 fits fits2 base (Print bytes e) f s r q p pl ll h k back = (
    h.0,
    h.1,
    h.2,
    h.3,
    h.4,
    h.5,
    h.6,
    bind_goes left left2 more2 fits fits2 base e f h.4 (r - suc h.0) (q - suc h.0) p pl ll h.7
        (λ v y t held going fit. weaker left2 more2 fits2 held (f v y) t p p (q - suc h.0) q (omega arith) (omega arith)
        (k v y t held going fit)) back,
  )
  bind_goes left left2 more2 fits fits2 base (Alt v (Return n) e) f s r q p pl ll h k back = (
    h.0,
    h.1,
    omega (arith, h.2),
    h.3,
    h.4,
    h.5,
    back v n h.1 h.6,
    λ base2 u like failing. bind_goes left left2 more2 fits fits2 base2 e f u 0 (q - h.0) p pl ll (h.7 base2 u like failing)
        (λ x y t held going fit. weaker left2 more2 fits2 held (f x y) t p p (q - h.0) q (omega arith) (omega arith)
        (k x y t held going fit)) back,
  )
  bind_goes left left2 more2 fits fits2 base (Alt v (Go y) e) f s r q p pl ll h k back =
      let less = λ (x : Store) (z : _) (t : State) (held : List PlainEntry) (going : IsGoing held t) (fit : fits x (Go z) t). weaker left2
      more2 fits2 held (f x z) t p p (q - h.0) q (omega arith) (omega arith) (k x z t held going fit) in
      before left2 more2 fits2 base (join (f v y) (bind e f)) s h.1 h.0 r p q (q - h.0) h.3 (omega (arith, h.2)) (omega arith)
      (join_goes left2 more2 fits2 base h.4 (f v y) (bind e f) h.1 p (q - h.0) (less v y h.1 (base ++ h.4) h.5 h.6)
      (λ base2 u like failing. bind_goes left left2 more2 fits fits2 base2 e f u 0 (q - h.0) p pl ll (h.7 base2 u like failing) less back))

  -- ---- up to the first alternative; c more steps are handed on to both ways

  pub first_goes : {A B : Type 0} (left left2 more2 : ℕ) (fits : Store → Flow A → State → Type 0) (fits2 : Store → Flow B → State → Type 0)
      (base base2 : List PlainEntry) (e : Events A) (found : Store → Flow A → Events B) (none : Unit {0} → Events B) (c : ℕ) (s : State)
      (r q : ℕ) → Goes left 0 fits base e s r q
      → ((v : Store) (w : Flow A) (t : State) (above : List PlainEntry) → IsGoing (base ++ above) t → fits v w t
      → Goes left2 more2 fits2 base2 (found v w) t (left + c) q)
      → ((u : State) → IsFailing base u → Goes left2 more2 fits2 base2 (none tt) u c q)
      → Goes left2 more2 fits2 base2 (on_first e found none) s (r + c) q
  first_goes left left2 more2 fits fits2 base base2 Fail found none c s r q h k n =
      before left2 more2 fits2 base2 (none tt) s h.1 h.0 (r + c) c q q h.3 (omega (arith, h.2)) (omega arith) (n h.1 h.4)
  first_goes left left2 more2 fits fits2 base base2 (Fault x own) found none c s r q h k n = (h.0, h.1, omega (arith, h.2), h.3, h.4, h.5)
  first_goes left left2 more2 fits fits2 base base2 Cut found none c s r q h k n = (h.0, h.1, omega (arith, h.2), h.3, h.4, h.5)
  first_goes left left2 more2 fits fits2 base base2 (Visit e) found none c s r q h k n =
      weaker left2 more2 fits2 base2 (on_first e found none) s (r + c + 32) (r + 32 + c) q q (omega arith) (omega arith)
      (first_goes left left2 more2 fits fits2 base base2 e found none c s (r + 32) q h k n)
  first_goes left left2 more2 fits fits2 base base2 (Print bytes e) found none c s r q h k n = (
    h.0,
    h.1,
    omega (arith, h.2),
    h.3,
    h.4,
    h.5,
    h.6,
    weaker left2 more2 fits2 base2 (on_first e found none) h.4 (r + c - suc h.0) (r - suc h.0 + c) (q - suc h.0) (q - suc h.0)
        (omega (arith, h.2)) (omega arith)
        (first_goes left left2 more2 fits fits2 base base2 e found none c h.4 (r - suc h.0) (q - suc h.0) h.7
        (λ v w t above going fit. weaker left2 more2 fits2 base2 (found v w) t (left + c) (left + c) (q - suc h.0) q (omega arith)
        (omega arith) (k v w t above going fit))
        (λ u failing. weaker left2 more2 fits2 base2 (none tt) u c c (q - suc h.0) q (omega arith) (omega arith) (n u failing))),
  )
  first_goes left left2 more2 fits fits2 base base2 (Alt v w e) found none c s r q h k n =
      before left2 more2 fits2 base2 (found v w) s h.1 h.0 (r + c) (left + c) q q h.3 (omega (arith, h.2)) (omega arith)
      (k v w h.1 h.4 h.5 h.6)

  -- ---- a visit before each alternative pays for 32 steps more

  pub visited_goes : {A : Type 0} (left left2 more : ℕ) (fits : Store → Flow A → State → Type 0) (base : List PlainEntry) (e : Events A)
      (s : State) (r q : ℕ) → left2 + more ≤ left + 32 → Goes left more fits base e s r q → Goes left2 0 fits base (visit_each e) s r q
  visited_goes left left2 more fits base Fail s r q le h = h
  visited_goes left left2 more fits base (Fault x own) s r q le h = h
  visited_goes left left2 more fits base Cut s r q le h = h
  visited_goes left left2 more fits base (Visit e) s r q le h = visited_goes left left2 more fits base e s (r + 32) q le h
  visited_goes left left2 more fits base (Print bytes e) s r q le h =
      (h.0, h.1, h.2, h.3, h.4, h.5, h.6, visited_goes left left2 more fits base e h.4 (r - suc h.0) (q - suc h.0) le h.7)
  visited_goes left left2 more fits base (Alt v w e) s r q le h = (
    h.0,
    h.1,
    omega (arith, h.2),
    h.3,
    h.4,
    h.5,
    h.6,
    λ base2 u like failing. visited_goes left left2 more fits base2 e u 0 (q - h.0) le (h.7 base2 u like failing),
  )

  -- a node: its own visit pays for 32 steps, and so does the one before each alternative
  pub node_goes : {A : Type 0} (left left2 more : ℕ) (fits : Store → Flow A → State → Type 0) (base : List PlainEntry) (e : Events A)
      (s : State) (r q : ℕ) → left2 + more ≤ left + 32 → Goes left more fits base e s (r + 32) q → Goes left2 0 fits base (node e) s r q
  node_goes left left2 more fits base e s r q le h = visited_goes left left2 more fits base e s (r + 32) q le h

  -- ---- some steps after each alternative, or another word for where it leaves off

  -- an alternative at hand
  pub one_goes : {A : Type 0} (left more : ℕ) (fits : Store → Flow A → State → Type 0) (base : List PlainEntry) (v : Store) (y : A)
      (s : State) (r q : ℕ) → left ≤ r + more → IsGoing base s → fits v (Go y) s → Goes left more fits base (one v y) s r q
  one_goes left more fits base v y s r q le going fit = (
    0,
    s,
    omega arith,
    no_step code input s,
    [],
    record { mode = going.mode; entries = going.entries ∙ sym (append-nil base) },
    fit,
    λ base2 u like failing. (
      0,
      u,
      omega arith,
      no_step code input u,
      record { mode = failing.mode; entries = failing.entries ∙ append-nil base2 },
    ),
  )

  -- ---- what is left at an alternative, in other words

  pub credited : {A : Type 0} (left left2 more more2 : ℕ) (fits : Store → Flow A → State → Type 0) (base : List PlainEntry) (e : Events A)
      (s : State) (r q : ℕ) → left2 + more ≤ left + more2 → Goes left more fits base e s r q → Goes left2 more2 fits base e s r q
  credited left left2 more more2 fits base Fail s r q le h = h
  credited left left2 more more2 fits base (Fault x own) s r q le h = h
  credited left left2 more more2 fits base Cut s r q le h = h
  credited left left2 more more2 fits base (Visit e) s r q le h = credited left left2 more more2 fits base e s (r + 32) q le h
  credited left left2 more more2 fits base (Print bytes e) s r q le h =
      (h.0, h.1, h.2, h.3, h.4, h.5, h.6, credited left left2 more more2 fits base e h.4 (r - suc h.0) (q - suc h.0) le h.7)
  credited left left2 more more2 fits base (Alt v w e) s r q le h = (
    h.0,
    h.1,
    omega (arith, h.2),
    h.3,
    h.4,
    h.5,
    h.6,
    λ base2 u like failing. credited left left2 more more2 fits base2 e u 0 (q - h.0) le (h.7 base2 u like failing),
  )

-- ---- the line of a statement

line_or_known : (own given around : ℕ) → 0 < given → line_or (line_or own given) around ≡ line_or own given
line_or_known zero zero around some = absurd (omega (arith, some))
line_or_known zero (suc given) around some = refl
line_or_known (suc own) given around some = refl

-- a statement with a line of its own, inside one with another line
pub lined_goes : {A : Type 0} (code : PlainCode) (input : List ℕ) (around given : ℕ) (left more : ℕ)
    (fits : Store → Flow A → State → Type 0) (base : List PlainEntry) (e : Events A) (s : State) (r q : ℕ) → 0 < given
    → Goes code input given left more fits base e s r q → Goes code input around left more fits base (at_line given e) s r q
lined_goes code input around given left more fits base Fail s r q some h = h
lined_goes code input around given left more fits base (Fault f own) s r q some h =
    (h.0, h.1, h.2, h.3, h.4, h.5 ∙ sym (line_or_known own given around some))
lined_goes code input around given left more fits base Cut s r q some h = h
lined_goes code input around given left more fits base (Visit e) s r q some h =
    lined_goes code input around given left more fits base e s (r + 32) q some h
lined_goes code input around given left more fits base (Print bytes e) s r q some h =
    (h.0, h.1, h.2, h.3, h.4, h.5, h.6, lined_goes code input around given left more fits base e h.4 (r - suc h.0) (q - suc h.0) some h.7)
lined_goes code input around given left more fits base (Alt v w e) s r q some h = (
  h.0,
  h.1,
  h.2,
  h.3,
  h.4,
  h.5,
  h.6,
  λ base2 u like failing. lined_goes code input around given left more fits base2 e u 0 (q - h.0) some
      (h.7 base2 u like failing),
)
