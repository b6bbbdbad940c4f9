-- Serials that start anew: the copies stay, and no stamp counts.
use Rattle.std.proofs.Common.{◌≡◌, ℕ, suc, zero, ◌<◌, ◌+◌, List, [], ◌∷◌, length, take, drop, get_or, set, replicate}
use Rattle.std.proofs.Common.{refl, sym, ap, ◌∙◌, arith}
use Rattle.std.proofs.lemmas.List.{length-replicate}
use Rattle.alma_memory_rewind.specs.declared.rewind.Note.{Note}
use Rattle.alma_memory_rewind.specs.declared.rewind.Mark.{Mark}
use Rattle.alma_memory_rewind.specs.Trail.{before, copy_of, held_of, at_of, stamp_of, no_mark}
use Rattle.alma_memory_rewind.specs.Sound.{Rises, IsSound, IsStamp}
use Rattle.alma_memory_rewind.specs.Restart.{with_serials, with_zero_stamps, Anew, Renews}
use Rattle.alma_memory_rewind.proofs.Stamps.{no-stamp, zeros}

-- ---- the marks

pub length-numbered : (count n : ℕ) (ms : List Mark) → length (with_serials count n ms) ≡ length ms
length-numbered zero n ms = refl
length-numbered (suc count) n [] = refl
length-numbered (suc count) n (m ∷ ms) = ap suc (length-numbered count (suc n) ms)

-- one more is numbered
pub number-more : (at n : ℕ) (ms : List Mark) (m x : Mark) (serial : ℕ) → at < length ms → m ≡ get_or (with_serials at n ms) at m
    → serial ≡ at + n → x ≡ record { mark = m.mark; top = m.top; serial = serial }
    → set (with_serials at n ms) at x ≡ with_serials (at + 1) n ms
number-more at n [] m x serial l e q p = absurd (omega (arith, l))
number-more zero n (m' ∷ ms) m x serial l e q p =
    let s : serial ≡ n = omega (arith, q) in
    ap (λ y. y ∷ ms) (p ∙ (ap (λ (y : Mark). record { mark = y.mark; top = y.top; serial = serial }) e
    ∙ ap (λ k. record { mark = m'.mark; top = m'.top; serial = k }) s))
number-more (suc at) n (m' ∷ ms) m x serial l e q p =
    let up : suc at + 1 ≡ suc (at + 1) = omega arith in
    rw up (ap (λ ys. (record { mark = m'.mark; top = m'.top; serial = n }) ∷ ys)
    (number-more at (suc n) ms m x serial (omega (arith, l)) e (omega (arith, q)) p))

serial-of : (count n : ℕ) (ms : List Mark) (i : ℕ) → i < count → i < length ms → (get_or (with_serials count n ms) i no_mark).serial ≡ n + i
serial-of zero n ms i c l = absurd (omega (arith, c))
serial-of (suc count) n [] i c l = absurd (omega (arith, l))
serial-of (suc count) n (m ∷ ms) zero c l = omega arith
serial-of (suc count) n (m ∷ ms) (suc i) c l =
    let e = serial-of count (suc n) ms i (omega (arith, c)) (omega (arith, l)) in omega (arith, e)

rises-numbered : (count n mark top : ℕ) (ms : List Mark) (notes items : ℕ) → Rises mark top ms notes items
    → Rises mark top (with_serials count n ms) notes items
rises-numbered zero n mark top ms notes items r = r
rises-numbered (suc count) n mark top [] notes items r = r
rises-numbered (suc count) n mark top (m ∷ ms) notes items r = (r.0, r.1, rises-numbered count (suc n) m.mark m.top ms notes items r.2)

module _ {T : Type 0} where
  held-numbered : (count n : ℕ) (ms : List Mark) (trail : List (Note T)) (xs : List T)
      → held_of trail xs (with_serials count n ms) ≡ held_of trail xs ms
  held-numbered zero n ms trail xs = refl
  held-numbered (suc count) n [] trail xs = refl
  held-numbered (suc count) n (m ∷ ms) trail xs = ap (λ hs. copy_of trail xs m ∷ hs) (held-numbered count (suc n) ms trail xs)

  -- ---- the notes

  pub length-cleared : (count : ℕ) (ns : List (Note T)) → length (with_zero_stamps count ns) ≡ length ns
  length-cleared zero ns = refl
  length-cleared (suc count) [] = refl
  length-cleared (suc count) (n ∷ ns) = ap suc (length-cleared count ns)

  -- one more is cleared
  pub clear-more : (at : ℕ) (ns : List (Note T)) (n x : Note T) → at < length ns → n ≡ get_or (with_zero_stamps at ns) at n
      → x ≡ record { at = n.at; stamp = 0; old = n.old } → set (with_zero_stamps at ns) at x ≡ with_zero_stamps (at + 1) ns
  clear-more at [] n x l e p = absurd (omega (arith, l))
  clear-more zero (n' ∷ ns) n x l e p =
      ap (λ y. y ∷ ns) (p ∙ ap (λ (y : Note T). record { at = y.at; stamp = 0; old = y.old }) e)
  clear-more (suc at) (n' ∷ ns) n x l e p =
      let up : suc at + 1 ≡ suc (at + 1) = omega arith in
      rw up (ap (λ ys. (record { at = n'.at; stamp = 0; old = n'.old }) ∷ ys) (clear-more at ns n x (omega (arith, l)) e p))

  before-cleared : (count : ℕ) (ns : List (Note T)) (xs : List T) → before (with_zero_stamps count ns) xs ≡ before ns xs
  before-cleared zero ns xs = refl
  before-cleared (suc count) [] xs = refl
  before-cleared (suc count) (n ∷ ns) xs = ap (λ v. set v n.at n.old) (before-cleared count ns xs)

  before-later : (count m : ℕ) (ns : List (Note T)) (xs : List T) → before (drop m (with_zero_stamps count ns)) xs ≡ before (drop m ns) xs
  before-later count zero ns xs = before-cleared count ns xs
  before-later zero (suc m) ns xs = refl
  before-later (suc count) (suc m) [] xs = refl
  before-later (suc count) (suc m) (n ∷ ns) xs = before-later count m ns xs

  held-cleared : (count : ℕ) (ms : List Mark) (trail : List (Note T)) (xs : List T)
      → held_of (with_zero_stamps count trail) xs ms ≡ held_of trail xs ms
  held-cleared count [] trail xs = refl
  held-cleared count (m ∷ ms) trail xs =
      let one : copy_of (with_zero_stamps count trail) xs m ≡ copy_of trail xs m = ap (take m.top) (before-later count m.mark trail xs) in
      let rest : held_of (with_zero_stamps count trail) xs ms ≡ held_of trail xs ms = held-cleared count ms trail xs in
      cc

  stamp-cleared : (ns : List (Note T)) (p : ℕ) → stamp_of (with_zero_stamps (length ns) ns) p ≡ 0
  stamp-cleared [] zero = refl
  stamp-cleared [] (suc p) = refl
  stamp-cleared (n ∷ ns) zero = refl
  stamp-cleared (n ∷ ns) (suc p) = stamp-cleared ns p

  -- ---- both

  pub anew : (ms ms' : List Mark) (trail trail' : List (Note T)) (xs : List T) (stamps stamps' : List ℕ) (counter counter' : ℕ)
      → ms' ≡ with_serials (length ms) 1 ms → trail' ≡ with_zero_stamps (length trail) trail → stamps' ≡ replicate (length stamps) 0
      → counter' ≡ length ms → IsSound ms trail xs stamps counter → Anew ms ms' trail trail' xs stamps' counter'
  anew ms ms' trail trail' xs stamps stamps' counter counter' p q z c s = rw (p, q, z, c) (record {
    held = held-numbered (length ms) 1 ms (with_zero_stamps (length trail) trail) xs ∙ held-cleared (length trail) ms trail xs;
    sound = record {
      wide = rw (length-replicate {A = ℕ} (length stamps) 0) s.wide;
      stamped = record {
        now = λ k. rw (zeros 0 (length stamps) k) (right (length (with_zero_stamps (length trail) trail)) k);
        older =
            λ k l. older k;
      };
      old = record {
        now = λ k. rw (zeros 0 (length stamps) k) (omega arith);
        older = λ k l. rw (stamp-cleared trail k) (omega arith);
        serials = λ i l. (let e = serial i l in omega (arith, e.0, e.1));
        some = λ i l. (let e = serial i l in omega (arith, e.0));
      };
      rises = rw (length-cleared (length trail) trail) (rises-numbered (length ms) 1 0 0 ms (length trail) (length xs) s.rises);
      idle = λ h. (let none = s.idle (sym (length-numbered (length ms) 1 ms) ∙ h) in rw none refl);
    };
  })
    where
      serial : (i : ℕ) → i < length (with_serials (length ms) 1 ms)
          → ((get_or (with_serials (length ms) 1 ms) i no_mark).serial ≡ 1 + i) × (i < length ms)
      serial i l =
          let w : i < length ms = rw (length-numbered (length ms) 1 ms) at l in
          (serial-of (length ms) 1 ms i w w, w)

      right : (n at : ℕ) → IsStamp (with_serials (length ms) 1 ms) (with_zero_stamps (length trail) trail) n at 0
      right n at = no-stamp (with_serials (length ms) 1 ms) (with_zero_stamps (length trail) trail) n at
          (λ i l. (let e = serial i l in omega (arith, e.0)))

      older : (p : ℕ) → IsStamp (with_serials (length ms) 1 ms) (with_zero_stamps (length trail) trail) p
          (at_of (with_zero_stamps (length trail) trail) p)
          (stamp_of (with_zero_stamps (length trail) trail) p)
      older p = rw (stamp-cleared trail p) (right p (at_of (with_zero_stamps (length trail) trail) p))

  pub renews : (ms ms' : List Mark) (trail trail' : List (Note T)) (stamps stamps' : List ℕ) (counter counter' : ℕ)
      → ms' ≡ with_serials (length ms) 1 ms → trail' ≡ with_zero_stamps (length trail) trail → stamps' ≡ replicate (length stamps) 0
      → counter' ≡ length ms → Renews ms ms' trail trail' stamps stamps' counter counter'
  renews ms ms' trail trail' stamps stamps' counter counter' p q z c =
      record { keeps = λ xs s. anew ms ms' trail trail' xs stamps stamps' counter counter' p q z c s }
