-- Claims about numbers and bytes of which it is decided whether they hold.
use Rattle.std.proofs.Common.{◌≡◌, ◌≤◌, ◌⊎◌, inl, inr, ℕ, List, [], ◌∷◌, ◌++◌, refl}
use Rattle.std.specs.Prelude.{Bool, true, false, leb, nat_eq, Option, Some, None}
use Rattle.std.specs.Str.{bytes_eq}
use Rattle.std.proofs.lemmas.Bool.{eq-eqb, eqb-true, leb-true, le-leb}
use Rattle.std.proofs.lemmas.Slice.Eq.{bytes_eq-Decides}
use Rattle.alma_scan.specs.Bytes.{AllIn}

-- it holds, or it cannot hold
abbrev pub Decidable : Type 0 → Type 0
Decidable claim = claim ⊎ (claim → ⊥)

-- a claim that a test decides
pub by_test : (test : Bool) (claim : Type 0) → (test ≡ true → claim) → (claim → test ≡ true) → Decidable claim
by_test true claim there back = inl (there refl)
by_test false claim there back = inr (λ h. cc (back h))

-- two claims together
pub both : (first second : Type 0) → Decidable first → Decidable second → Decidable (first × second)
both first second (inl a) (inl b) = inl (a, b)
both first second (inl a) (inr never) = inr (λ h. never h.1)
both first second (inr never) other = inr (λ h. never h.0)

-- a number is no greater than another
pub no_more : (m n : ℕ) → Decidable (m ≤ n)
no_more m n = by_test (leb m n) (m ≤ n) (leb-true m n) (le-leb m n)

-- two numbers are the same
pub same_number : (m n : ℕ) → Decidable (m ≡ n)
same_number m n = by_test (nat_eq m n) (m ≡ n) (eqb-true m n) (eq-eqb m n)

-- two texts are the same
pub same_text : (text other : List ℕ) → Decidable (text ≡ other)
same_text text other =
    let decides = bytes_eq-Decides text other in by_test (bytes_eq text other) (text ≡ other) decides.0 decides.1

-- a test is passed
pub passed : (test : Bool) → Decidable (test ≡ true)
passed test = by_test test (test ≡ true) (λ e. e) (λ e. e)

-- each byte passes a test
pub all_in : (test : ℕ → Bool) (bytes : List ℕ) → Decidable (AllIn test bytes)
all_in test [] = inl tt
all_in test (b ∷ bytes) = both (test b ≡ true) (AllIn test bytes) (passed (test b)) (all_in test bytes)

-- there is nothing
pub is_nothing : (A : Type 0) (found : Option A) → Decidable (found ≡ None)
is_nothing A None = inl refl
is_nothing A (Some a) = inr (λ e. cc e)

-- a text has this front
pub has_front : (front text : List ℕ) → Decidable ((rest : List ℕ) × (text ≡ front ++ rest))
has_front [] text = inl (text, refl)
has_front (a ∷ front) [] = inr (λ h. cc (h.1))
has_front (a ∷ front) (b ∷ text) = more (same_number b a) (has_front front text)
  where
    more : Decidable (b ≡ a) → Decidable ((rest : List ℕ) × (text ≡ front ++ rest))
        → Decidable ((rest : List ℕ) × (b ∷ text ≡ a ∷ (front ++ rest)))
    more (inl same) (inl h) = inl (h.0, cc (same, h.1))
    more (inl same) (inr never) = inr (λ h. never (h.0, cc (h.1)))
    more (inr other) d = inr (λ h. other (cc (h.1)))
