-- First words that cannot stand where they are, over any form of words that a program takes.
use Rattle.std.proofs.Common.{◌≡◌, ◌<◌, ◌≤◌, ◌+◌, ℕ, List, [], ◌∷◌, ◌++◌, length, take, drop, subst, sym, inl, inr, arith, append_assoc}
use Rattle.std.proofs.lemmas.Bool.{cases_lt}
use Rattle.std.proofs.lemmas.List.{append-nil, length-append, take-append-drop, take-append-le}
use Rattle.std.proofs.Math.Seq.{take-append-add}
use Rattle.std.specs.Prelude.{◌⊎◌}
use Rattle.alma_driver_words.specs.BadWords.{Begins, IsBadWord}

module _ (Asks : List (List ℕ) → Type 0) where
  -- ---- words that begin a request

  -- those in front of others with which they begin one
  pub front_begins : (front words : List (List ℕ)) → Begins Asks (front ++ words) → Begins Asks front
  front_begins front words h = (words ++ h.0, subst Asks (append_assoc front words h.0) h.1)

  pub take_begins : (k : ℕ) (words : List (List ℕ)) → Begins Asks words → Begins Asks (take k words)
  take_begins k words h =
      front_begins (take k words) (drop k words) (subst (λ (all : List (List ℕ)). Begins Asks all) (sym (take-append-drop k words)) h)

  -- all words of one
  pub asks_begins : (words : List (List ℕ)) → Asks words → Begins Asks words
  asks_begins words asks = ([], subst Asks (sym (append-nil words)) asks)

  -- ---- bad words

  none_before : (words : List (List ℕ)) (j k : ℕ) → IsBadWord Asks words j → IsBadWord Asks words k → j < k → ⊥
  none_before words j k one other less = one.here (omega (arith, less, other.end)) (other.before j less)

  -- two first bad words are one
  pub one_bad_word : (words : List (List ℕ)) (j k : ℕ) → IsBadWord Asks words j → IsBadWord Asks words k → j ≡ k
  one_bad_word words j k one other = by (cases_lt j k) (cases_lt k j)
    where
      by : (j < k) ⊎ (k ≤ j) → (k < j) ⊎ (j ≤ k) → j ≡ k
      by (inl less) other_way = absurd (none_before words j k one other less)
      by (inr no_less) (inl more) = absurd (none_before words k j other one more)
      by (inr no_less) (inr no_more) = omega (arith, no_less, no_more)

  -- words that begin a request, and one behind them with which they begin none
  pub bad_behind : (front : List (List ℕ)) (word : List ℕ) (rest : List (List ℕ)) → Begins Asks front
      → (Begins Asks (front ++ word ∷ []) → ⊥)
      → IsBadWord Asks (front ++ word ∷ rest) (length front + 1)
  bad_behind front word rest begins bad =
      let cut : take (length front + 1) (front ++ word ∷ rest) ≡ front ++ word ∷ [] = take-append-add front (word ∷ rest) 1 in
      record {
        before = λ j less. subst (λ (xs : List (List ℕ)). Begins Asks xs)
            (sym (take-append-le j front (word ∷ rest) (omega (arith, less)))) (take_begins j front begins);
        here = λ within some. bad (subst (λ (xs : List (List ℕ)). Begins Asks xs) cut some);
        end = omega (arith, length-append front (word ∷ rest));
        none = λ asks. bad (rest, subst Asks (sym (append_assoc front (word ∷ []) rest)) asks);
      }

  -- words that begin a request, and are none: one more is wanted
  pub bad_end : (words : List (List ℕ)) → Begins Asks words → (Asks words → ⊥) → IsBadWord Asks words (length words + 1)
  bad_end words begins none = record {
    before = λ j less. take_begins j words begins;
    here = λ within some. omega (arith, within);
    end = omega arith;
    none = none;
  }

  -- ---- a walk along words: it finds that they are a request, or it tells a bad word

  abbrev pub Found : (words : List (List ℕ)) → (Told : ℕ → Type 0) → Type 0
  Found words Told = Asks words ⊎ ((k : ℕ) × IsBadWord Asks words k × Told k)

  -- so they are one of both
  pub one_of_both : (words : List (List ℕ)) (Told : ℕ → Type 0) → Found words Told → Asks words ⊎ ((k : ℕ) × IsBadWord Asks words k)
  one_of_both words Told (inl asks) = inl asks
  one_of_both words Told (inr h) = inr (h.0, h.1)

  -- and the bad word is told
  pub bad_is_told : (words : List (List ℕ)) (Told : ℕ → Type 0) → Found words Told → (k : ℕ) → IsBadWord Asks words k → Told k
  bad_is_told words Told (inl asks) k bad = absurd (bad.none asks)
  bad_is_told words Told (inr h) k bad = subst Told (one_bad_word words h.0 k h.1 bad) h.2
