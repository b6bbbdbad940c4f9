-- What a change at one start makes of how far spans reach.
use Rattle.std.proofs.Common.{◌≡◌, ℕ, ℤ, ◌<ℤ◌, true, false, Option, None, Some, refl, sym, subst, arith, ap, ◌∙◌}
use Rattle.std.proofs.lemmas.Grind.{common_steps}
use Rattle.std.specs.Prelude.{Bool, cond}
use Rattle.std.specs.Ordering.{is_eq}
use Rattle.std.specs.BTreeMap.{BTreeMap, get}
use Rattle.alma_check_rules.specs.Reach.{start_cmp, end_at, Rises, Covers, Keeps, IsNextWithin, IsReached, IsWithin, IsTopped}
use Rattle.alma_check_rules.proofs.Starts.{here, same_start}

-- n is m with w at one start
pub record IsChanged (m n : BTreeMap (ℕ × ℤ) ℤ) (base : ℕ) (low : ℤ) (w : Option ℤ) : Type 0 where
  pub now : (q : ℕ × ℤ) → get start_cmp n q ≡ cond (is_eq (start_cmp (base, low) q)) w (get start_cmp m q)

module _ (m n : BTreeMap (ℕ × ℤ) ℤ) (base : ℕ) (low : ℤ) (w : Option ℤ) (c : IsChanged m n base low w) where
  pub changed_here : end_at n base low ≡ w
  changed_here = c.now (base, low) ∙ ap (λ (b : Bool). cond b w (get start_cmp m (base, low))) (here base low)

  -- a start is the one that changed, or has what it had
  pub data Spot (b : ℕ) (x : ℤ) : Type 0 where
    at : b ≡ base → x ≡ low → Spot b x
    off : end_at n b x ≡ end_at m b x → Spot b x

  spot_by : (b : ℕ) (x : ℤ) (t : Bool) → is_eq (start_cmp (base, low) (b, x)) ≡ t → Spot b x
  spot_by b x true h = let s = same_start base b low x h in at (sym s.0) (sym s.1)
  spot_by b x false h = off (c.now (b, x) ∙ ap (λ (k : Bool). cond k w (get start_cmp m (b, x))) h)

  pub spot : (b : ℕ) (x : ℤ) → Spot b x
  spot b x = spot_by b x (is_eq (start_cmp (base, low) (b, x))) refl

-- two starts are one, or they are not
data Either (base b : ℕ) (low x : ℤ) : Type 0 where
  one : b ≡ base → x ≡ low → Either base b low x
  two : (b ≡ base → x ≡ low → ⊥) → Either base b low x

either_by : (base b : ℕ) (low x : ℤ) (t : Bool) → is_eq (start_cmp (base, low) (b, x)) ≡ t → Either base b low x
either_by base b low x true h = let s = same_start base b low x h in one (sym s.0) (sym s.1)
either_by base b low x false h = two (λ p q. grind (arith, common_steps, h, p, q, here base low))

-- ---- one is left out

module _ (m n : BTreeMap (ℕ × ℤ) ℤ) (base : ℕ) (low high y : ℤ) (c : IsChanged m n base y None) (t : IsTopped m base low high) where
  had_by : (b : ℕ) (x v : ℤ) → Spot m n base y None c b x → end_at n b x ≡ Some v → end_at m b x ≡ Some v
  had_by b x v (at p q) e = let gone : end_at n b x ≡ None = rw (p, q) (changed_here m n base y None c) in absurd (cc)
  had_by b x v (off k) e = sym k ∙ e

  had : (b : ℕ) (x v : ℤ) → end_at n b x ≡ Some v → end_at m b x ≡ Some v
  had b x v e = had_by b x v (spot m n base y None c b x) e

  top_by : low <ℤ y → Spot m n base y None c base low → end_at n base low ≡ Some high
  top_by h (at p q) = absurd (grind (arith, q, h))
  top_by h (off k) = k ∙ t.noted

  pub topped_drop : low <ℤ y → IsTopped n base low high
  topped_drop h = record {
    noted = top_by h (spot m n base y None c base low);
    before = λ x v e l. t.before x v (had base x v e) l;
    but = record { rises = λ b x z v w ex ez l k. t.but.rises b x z v w (had b x v ex) (had b z w ez) l k };
  }

  kept_by : IsWithin m base low high y → (b : ℕ) (l h : ℤ) (k : Covers m b l h) → Spot m n base y None c b k.start → Covers n b l h
  kept_by i b l h k (at p q) =
      let e : Some k.end ≡ Some i.end = sym k.noted ∙ (rw (p, q) refl) ∙ i.noted in
      let same : k.end ≡ i.end = cc in
      record {
        start = low;
        end = high;
        noted = rw p (topped_drop i.behind).noted;
        begins = grind (arith, q, k.begins, i.behind);
        reaches = grind (arith, same, k.reaches, i.near);
      }
  kept_by i b l h k (off o) = record { start = k.start; end = k.end; noted = o ∙ k.noted; begins = k.begins; reaches = k.reaches }

  pub keeps_drop : IsWithin m base low high y → Keeps m n
  keeps_drop i = record { keeps = λ b l h k. kept_by i b l h k (spot m n base y None c b k.start) }

-- ---- one is put in

module _ (m n : BTreeMap (ℕ × ℤ) ℤ) (base : ℕ) (low high : ℤ) (c : IsChanged m n base low (Some high)) (r : Rises m)
    (f : IsReached m base low high false) where
  before_by : (x v : ℤ) → end_at n base x ≡ Some v → x <ℤ low → Spot m n base low (Some high) c base x → v <ℤ high
  before_by x v e l (at p q) = absurd (grind (arith, q, l))
  before_by x v e l (off k) = f x v (sym k ∙ e) (grind (arith, l))

  before : (x v : ℤ) → end_at n base x ≡ Some v → x <ℤ low → v <ℤ high
  before x v e l = before_by x v e l (spot m n base low (Some high) c base x)

  but_by : (b : ℕ) (x z v w : ℤ) → end_at n b x ≡ Some v → end_at n b z ≡ Some w → x <ℤ z → (b ≡ base → x ≡ low → ⊥)
      → Spot m n base low (Some high) c b x → Spot m n base low (Some high) c b z → v <ℤ w
  but_by b x z v w ex ez l k (at p q) s = absurd (k p q)
  but_by b x z v w ex ez l k (off o) (off u) = r.rises b x z v w (sym o ∙ ex) (sym u ∙ ez) l
  but_by b x z v w ex ez l k (off o) (at p q) =
      let e : Some w ≡ Some high = sym ez ∙ (rw (p, q) (changed_here m n base low (Some high) c)) in
      let same : w ≡ high = cc in
      let here : end_at n base x ≡ Some v = subst (λ (a : ℕ). end_at n a x ≡ Some v) p ex in
      let less : v <ℤ high = before x v here (grind (arith, q, l)) in
      grind (arith, same, less)

  pub topped_insert : IsTopped n base low high
  topped_insert = record {
    noted = changed_here m n base low (Some high) c;
    before = before;
    but = record {
      rises = λ b x z v w ex ez l k. but_by b x z v w ex ez l k (spot m n base low (Some high) c b x)
          (spot m n base low (Some high) c b z);
    };
  }

  put_by : (b : ℕ) (l h : ℤ) (k : Covers m b l h) → Spot m n base low (Some high) c b k.start → Covers n b l h
  put_by b l h k (at p q) =
      let had : end_at m base low ≡ Some k.end = rw (sym p, sym q) k.noted in
      let less : k.end <ℤ high = f low k.end had (grind arith) in
      record {
        start = low;
        end = high;
        noted = rw p (changed_here m n base low (Some high) c);
        begins = grind (arith, q, k.begins);
        reaches = grind (arith, less, k.reaches);
      }
  put_by b l h k (off o) = record { start = k.start; end = k.end; noted = o ∙ k.noted; begins = k.begins; reaches = k.reaches }

  pub keeps_insert : Keeps m n
  keeps_insert = record { keeps = λ b l h k. put_by b l h k (spot m n base low (Some high) c b k.start) }

-- ---- nothing is left to leave out

module _ (m : BTreeMap (ℕ × ℤ) ℤ) (base : ℕ) (low high : ℤ) (t : IsTopped m base low high) where
  rises_by : IsNextWithin m base low high None → (b : ℕ) (x y v w : ℤ) → end_at m b x ≡ Some v → end_at m b y ≡ Some w → x <ℤ y
      → Either base b low x → v <ℤ w
  rises_by h b x y v w ex ey l (one p q) =
      let e : Some v ≡ Some high = sym ex ∙ (rw (p, q) t.noted) in
      let same : v ≡ high = cc in
      let far : high <ℤ w = h y w (subst (λ (a : ℕ). end_at m a y ≡ Some w) p ey) (grind (arith, q, l)) in
      grind (arith, same, far)
  rises_by h b x y v w ex ey l (two k) = t.but.rises b x y v w ex ey l k

  pub topped_done : IsNextWithin m base low high None → Rises m
  topped_done h = record {
    rises = λ b x y v w ex ey l. rises_by h b x y v w ex ey l
        (either_by base b low x (is_eq (start_cmp (base, low) (b, x))) refl);
  }

pub keeps_on : (m n k : BTreeMap (ℕ × ℤ) ℤ) → Keeps m n → Keeps n k → Keeps m k
keeps_on m n k f g = record { keeps = λ b l h c. g.keeps b l h (f.keeps b l h c) }
