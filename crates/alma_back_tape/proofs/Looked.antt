-- Lemmas on the places that are looked at: each place that differs from before some notes is among them.
use Rattle.std.proofs.Common.{◌≡◌, ℕ, ◌≤◌, ◌<◌, ◌+◌, ◌-◌, Bool, true, false, List, [], ◌∷◌, ◌++◌, length, take, get_or, min, suc, zero, inl}
use Rattle.std.proofs.Common.{inr, refl, sym, ap, ◌∙◌, arith}
use Rattle.std.specs.Prelude.{◌⊎◌, ◌||◌, nat_lt, Some, None}
use Rattle.std.proofs.lemmas.Bool.{ltb-true}
use Rattle.std.proofs.lemmas.Bool.Decides.{nat_tests}
use Rattle.std.proofs.lemmas.List.{length-append}
use Rattle.alma_base.specs.Carry.{Change, Carry, is_same_place, carried_at}
use Rattle.alma_base.specs.Choice.{if_true}
use Rattle.alma_code.specs.declared.cell.Cell.{Cell}
use Rattle.alma_code.specs.Picture.{PlainFrame, no_frame}
use Rattle.alma_code.specs.Carries.{differs, diff_at, slot_diffs, diffs}
use Rattle.alma_memory_store.specs.Frames.{AreWhole}
use Rattle.alma_memory_store.specs.Numbers.{number_of}
use Rattle.alma_memory_store.specs.Past.{has_place, AllChanged, SameGain}
use Rattle.alma_memory_store.proofs.Carrying.{same-place-is}
use Rattle.alma_memory_store.proofs.Stores.{number-cell, number-frame}
use Rattle.alma_memory_store.proofs.Gains.{has-left, has-right, all-append, all-diff, all-slots, has-diff, has-slots, parts, not-same}
use Rattle.alma_memory_store.proofs.Gains.{found-gain}
use Rattle.alma_back_tape.specs.Inner.Earlier.{frames_with_old_cells, over, diffs_at, diffs_between}
use Rattle.alma_back_tape.proofs.Pasts.{shared-length}
use Rattle.alma_back_tape.proofs.Contents.{over-none, number-frames_with_old_cells, number-shared}

-- ---- tests

-- one of two tests holds
or-cases : (a b : Bool) → a || b ≡ true → (a ≡ true) ⊎ (b ≡ true)
or-cases true b e = inl refl
or-cases false b e = inr e

-- a number is below another or not
or-above : (f n : ℕ) → (f < n) ⊎ (n ≤ f)
or-above f n = choose (nat_lt f n) refl
  where
    choose : (b : Bool) → nat_lt f n ≡ b → (f < n) ⊎ (n ≤ f)
    choose true e = inl (ltb-true f n e)
    choose false e = inr (grind (arith, nat_tests))

-- a number below the next of another
below-suc : (s k : ℕ) → s < suc k → (s < k) ⊎ (s ≡ k)
below-suc s k l = elim (or-above s k) [
  | inl lt ↦ inl lt
  | inr le ↦ inr (omega arith)
]

-- a place without a change has no cell
none-carried : (f s : ℕ) (cs : Carry Cell) → has_place f s cs ≡ false → carried_at f s cs ≡ None
none-carried f s [] h = refl
none-carried f s (x ∷ cs) h = choose (is_same_place x.frame x.slot f s) (none-carried f s cs) h
  where
    choose : (b : Bool) → (has_place f s cs ≡ false → carried_at f s cs ≡ None) → b || has_place f s cs ≡ false →
        if_true b (λ _. Some x.cell) (λ _. carried_at f s cs) ≡ None
    choose true ih e = absurd (cc)
    choose false ih e = ih e

-- ---- what is found

module _ (before now : List PlainFrame) where
  -- the changes in some frames from a frame on
  all-between : (low n : ℕ) → AllChanged before now (diffs_between before now low n)
  all-between low zero = tt
  all-between low (suc n) =
      all-append before now (diffs_between before now low n)
      (slot_diffs before now (low + n) (length (get_or now (low + n) no_frame).cells))
      (all-between low n) (all-slots before now (low + n) (length (get_or now (low + n) no_frame).cells))

  -- the changes at some places
  all-at : (cs : Carry Cell) → AllChanged before now (diffs_at before now cs)
  all-at [] = tt
  all-at (x ∷ cs) = all-append before now (diff_at before now x.frame x.slot) (diffs_at before now cs)
      (all-diff before now x.frame x.slot) (all-at cs)

  -- a place that differs is among the changes of some frames
  has-between : (low n f s : ℕ) → differs before now f s ≡ true → low ≤ f → f < low + n → s < length (get_or now f no_frame).cells →
      has_place f s (diffs_between before now low n) ≡ true
  has-between low zero f s d le l w = absurd (omega arith)
  has-between low (suc n) f s d le l w =
      let l' : f < suc (low + n) = omega arith in
      elim (below-suc f (low + n) l') [
        | inl lt ↦ has-left f s (diffs_between before now low n)
            (slot_diffs before now (low + n) (length (get_or now (low + n) no_frame).cells))
            (has-between low n f s d le lt w)
        | inr e ↦ has-right f s (diffs_between before now low n)
            (slot_diffs before now (low + n) (length (get_or now (low + n) no_frame).cells))
            (ap (λ g. has_place f s (slot_diffs before now g (length (get_or now g no_frame).cells))) (sym e)
            ∙ has-slots before now f s (length (get_or now f no_frame).cells) d w)
      ]

  -- a place that differs and is named is among the changes at the places
  has-at : (f s : ℕ) (cs : Carry Cell) → has_place f s cs ≡ true → differs before now f s ≡ true →
      has_place f s (diffs_at before now cs) ≡ true
  has-at f s [] h d = absurd (cc)
  has-at f s (x ∷ cs) h d =
      elim (or-cases (is_same_place x.frame x.slot f s) (has_place f s cs) h) [
        | inl a ↦ (let one = same-place-is x.frame x.slot f s a in
            has-left f s (diff_at before now x.frame x.slot) (diffs_at before now cs)
            (ap (λ g. has_place f s (diff_at before now g x.slot)) one.0 ∙
            (ap (λ t. has_place f s (diff_at before now f t)) one.1 ∙ has-diff before now f s d)))
        | inr b ↦ has-right f s (diff_at before now x.frame x.slot) (diffs_at before now cs) (has-at f s cs b d)
      ]

-- a place of a shared frame differs only where a note names it
shared-named : (n : ℕ) (now above : List PlainFrame) (cs : Carry Cell) (before : List PlainFrame) (f s : ℕ) → n ≤ length now → f < n →
    before ≡ take n (frames_with_old_cells now cs) ++ above → AreWhole now → differs before now f s ≡ true → has_place f s cs ≡ false → ⊥
shared-named n now above cs before f s l lt p w d e =
    not-same before now f s d
    (ap (λ gs. number_of gs f s) p ∙ (number-shared n now above cs f s l lt ∙ (number-frames_with_old_cells now cs f s w
    ∙ (ap (over (number_of now f s)) (none-carried f s cs e) ∙ over-none (number_of now f s)))))

-- each place that differs is looked at
covered : (n count : ℕ) (now above : List PlainFrame) (cs : Carry Cell) (before : List PlainFrame) (f s : ℕ) → n ≤ length now
    → count ≡ min (length above) (length now - n) →
    before ≡ take n (frames_with_old_cells now cs) ++ above → AreWhole now → differs before now f s ≡ true →
    has_place f s (diffs_at before now cs ++ diffs_between before now n count) ≡ true
covered n count now above cs before f s l q p w d =
    elim (or-above f n) [
      | inl lt ↦ has-left f s (diffs_at before now cs) (diffs_between before now n count)
          (has-at before now f s cs (named (has_place f s cs) refl lt) d)
      | inr le ↦ has-right f s (diffs_at before now cs) (diffs_between before now n count)
          (has-between before now n count f s d le (below le) (number-cell now f s w (parts before now f s d).1))
    ]
  where
    named : (b : Bool) → has_place f s cs ≡ b → f < n → has_place f s cs ≡ true
    named true e lt = e
    named false e lt = absurd (shared-named n now above cs before f s l lt p w d e)

    below : n ≤ f → f < n + count
    below le =
        let len = shared-length n now cs l in
        let sum = length-append (take n (frames_with_old_cells now cs)) above in
        let b : f < length before = number-frame before f s (parts before now f s d).0 in
        let a : f < length now = number-frame now f s (parts before now f s d).1 in
        let wide : length before ≡ length (take n (frames_with_old_cells now cs) ++ above) = ap length p in
        omega (arith, len, sum, b, a, wide, q)

-- what is found there gives a carry all changes
pub looked-gain : (n count : ℕ) (now above : List PlainFrame) (cs : Carry Cell) (before : List PlainFrame) (found : List (Change Cell))
    → n ≤ length now →
    count ≡ min (length above) (length now - n) → before ≡ take n (frames_with_old_cells now cs) ++ above → AreWhole now →
    found ≡ diffs_at before now cs ++ diffs_between before now n count → SameGain found (diffs before now)
looked-gain n count now above cs before found l q p w e =
    found-gain before now found w
    (rw e (all-append before now (diffs_at before now cs) (diffs_between before now n count)
    (all-at before now cs) (all-between before now n count)))
    (λ f s d. rw e (covered n count now above cs before f s l q p w d))
