-- The order of where spans begin: by base, and then by the least value.
use Rattle.std.proofs.Common.{◌≡◌, ℕ, ℤ, ◌≤◌, ◌<ℤ◌, ◌≤ℤ◌, true, false, Option, None, Some, refl, sym, subst, arith}
use Rattle.std.proofs.lemmas.Grind.{common_steps}
use Rattle.std.specs.Ordering.{is_gt, is_lt, is_eq}
use Rattle.std.specs.declared.cmp.Ordering.TheVariants.{Less}
use Rattle.std.specs.BTreeMap.{BTreeMap, get}
use Rattle.std.specs.Prelude.{IsSome, nat_eq, Bool, int_lt, int_le}
use Rattle.alma_check_rules.specs.Reach.{start_cmp, end_at, Rises, RisesBut, Covers, IsEndUpTo, IsReached, IsWithin}

pub not_behind : (b : ℕ) (x low : ℤ) → x ≤ℤ low → is_gt (start_cmp (b, x) (b, low)) ≡ false
not_behind b x low h = grind (arith, common_steps)

pub up_to : (b : ℕ) (x low : ℤ) → is_gt (start_cmp (b, x) (b, low)) ≡ false → x ≤ℤ low
up_to b x low h = grind (arith, common_steps)

pub not_before : (b : ℕ) (x y : ℤ) → is_lt (start_cmp (b, y) (b, x)) ≡ false → x ≤ℤ y
not_before b x y h = grind (arith, common_steps)

pub base_no_more : (a b : ℕ) (x y : ℤ) → is_gt (start_cmp (a, x) (b, y)) ≡ false → a ≤ b
base_no_more a b x y h = grind (arith, common_steps)

pub base_no_less : (a b : ℕ) (x y : ℤ) → is_lt (start_cmp (a, x) (b, y)) ≡ false → b ≤ a
base_no_less a b x y h = grind (arith, common_steps)

pub behind : (b : ℕ) (low x : ℤ) → low <ℤ x → start_cmp (b, low) (b, x) ≡ Less
behind b low x h = grind (arith, common_steps)

pub is_behind : (b : ℕ) (low x : ℤ) → start_cmp (b, low) (b, x) ≡ Less → low <ℤ x
is_behind b low x h = grind (arith, common_steps)

pub base_behind : (a b : ℕ) (x y : ℤ) → start_cmp (a, x) (b, y) ≡ Less → a ≤ b
base_behind a b x y h = grind (arith, common_steps)

pub same_start : (a b : ℕ) (x y : ℤ) → is_eq (start_cmp (a, x) (b, y)) ≡ true → (a ≡ b) × (x ≡ y)
same_start a b x y h = (grind (arith, common_steps), grind (arith, common_steps))

pub here : (b : ℕ) (x : ℤ) → is_eq (start_cmp (b, x) (b, x)) ≡ true
here b x = grind (arith, common_steps)

-- what a range up to a start, and one from behind it, hold of a map
pub none_up_to : (m : BTreeMap (ℕ × ℤ) ℤ) (b : ℕ) (l low : ℤ) → l ≡ low
    → ((q : ℕ × ℤ) → is_gt (start_cmp q (b, l)) ≡ false → get start_cmp m q ≡ None)
    → (x v : ℤ) → end_at m b x ≡ Some v → low <ℤ x
none_up_to m b l low at h x v e = grind (arith, common_steps, at, not_behind b x l, h (b, x), e)

-- the last of another base
pub other_up_to : (m : BTreeMap (ℕ × ℤ) ℤ) (a b : ℕ) (y l low : ℤ) → l ≡ low → nat_eq a b ≡ false → is_gt (start_cmp (a, y) (b, l)) ≡ false
    → ((q : ℕ × ℤ) → is_gt (start_cmp q (b, l)) ≡ false → IsSome (get start_cmp m q) → is_lt (start_cmp (a, y) q) ≡ false)
    → (x v : ℤ) → end_at m b x ≡ Some v → low <ℤ x
other_up_to m a b y l low at d up last x v e =
    grind (arith, common_steps, at, not_behind b x l, last (b, x), e, base_no_more a b y l, base_no_less a b y x)

-- the last of this base
pub last_covers : (m : BTreeMap (ℕ × ℤ) ℤ) (a b : ℕ) (y end l low : ℤ) → l ≡ low → a ≡ b → is_gt (start_cmp (a, y) (b, l)) ≡ false
    → end_at m a y ≡ Some end → Covers m b low end
last_covers m a b y end l low at same up is =
    record { start = y; end = end; noted = rw (sym same) is; begins = grind (arith, at, same, up, up_to b y l); reaches = grind arith }

pub last_up_to : (m : BTreeMap (ℕ × ℤ) ℤ) (a b : ℕ) (y end l low : ℤ) → l ≡ low → a ≡ b → Rises m → end_at m a y ≡ Some end
    → ((q : ℕ × ℤ) → is_gt (start_cmp q (b, l)) ≡ false → IsSome (get start_cmp m q) → is_lt (start_cmp (a, y) q) ≡ false)
    → (x v : ℤ) → end_at m b x ≡ Some v → x ≤ℤ low → v ≤ℤ end
last_up_to m a b y end l low at same r is last x v e h =
    grind (arith, common_steps, at, same, not_behind b x l, last (b, x), e, is, not_before b x y, r.rises b x y v end e)

-- what a range from behind a start holds of a map
pub none_behind : (m : BTreeMap (ℕ × ℤ) ℤ) (b : ℕ) (l low high : ℤ) → l ≡ low
    → ((q : ℕ × ℤ) → start_cmp (b, l) q ≡ Less → get start_cmp m q ≡ None)
    → (x v : ℤ) → end_at m b x ≡ Some v → low <ℤ x → high <ℤ v
none_behind m b l low high at h x v e d = grind (arith, common_steps, at, behind b l x, h (b, x), e)

-- the first of another base
pub other_behind : (m : BTreeMap (ℕ × ℤ) ℤ) (a b : ℕ) (y l low high : ℤ) → l ≡ low → nat_eq a b ≡ false → start_cmp (b, l) (a, y) ≡ Less
    → ((q : ℕ × ℤ) → start_cmp (b, l) q ≡ Less → IsSome (get start_cmp m q) → is_gt (start_cmp (a, y) q) ≡ false)
    → (x v : ℤ) → end_at m b x ≡ Some v → low <ℤ x → high <ℤ v
other_behind m a b y l low high at d past first x v e h =
    grind (arith, common_steps, at, d, behind b l x, first (b, x), e, base_behind b a l y past, base_no_more a b y x)

-- the first of this base
nearer : (m : BTreeMap (ℕ × ℤ) ℤ) (b : ℕ) (y end low high : ℤ) → RisesBut m b low → end_at m b y ≡ Some end → high <ℤ end → low <ℤ y
    → (x v : ℤ) (t : Bool) → t ≡ int_lt y x → y ≤ℤ x → end_at m b x ≡ Some v → high <ℤ v
nearer m b y end low high r is far past x v true q up e =
    let further : end <ℤ v = r.rises b y x end v is e (grind (arith, q)) (λ _ k. grind (arith, k, past)) in grind (arith, further, far)
nearer m b y end low high r is far past x v false q up e = let same : x ≡ y = grind (arith, q, up) in
    grind (arith, common_steps, same, e, is, far)

pub first_behind : (m : BTreeMap (ℕ × ℤ) ℤ) (a b : ℕ) (y end l low high : ℤ) → l ≡ low → a ≡ b → start_cmp (b, l) (a, y) ≡ Less
    → RisesBut m b low → end_at m a y ≡ Some end → high <ℤ end
    → ((q : ℕ × ℤ) → start_cmp (b, l) q ≡ Less → IsSome (get start_cmp m q) → is_gt (start_cmp (a, y) q) ≡ false)
    → (x v : ℤ) → end_at m b x ≡ Some v → low <ℤ x → high <ℤ v
first_behind m a b y end l low high at same past r is far first x v e h =
    let seen = first (b, x) (behind b l x (grind (arith, at, h))) (subst (λ (o : Option ℤ). IsSome o) (sym e) refl) in
    let past_b : start_cmp (b, l) (b, y) ≡ Less = subst (λ (k : ℕ). start_cmp (b, l) (k, y) ≡ Less) same past in
    let is_b : end_at m b y ≡ Some end = subst (λ (k : ℕ). end_at m k y ≡ Some end) same is in
    let seen_b : is_gt (start_cmp (b, y) (b, x)) ≡ false = subst (λ (k : ℕ). is_gt (start_cmp (k, y) (b, x)) ≡ false) same seen in
    let beyond : l <ℤ y = is_behind b l y past_b in
    nearer m b y end low high r is_b far (grind (arith, at, beyond)) x v (int_lt y x) refl (up_to b y x seen_b) e

pub first_within : (m : BTreeMap (ℕ × ℤ) ℤ) (a b : ℕ) (y end l low high : ℤ) → l ≡ low → a ≡ b → start_cmp (b, l) (a, y) ≡ Less
    → end_at m a y ≡ Some end → end ≤ℤ high → IsWithin m b low high y
first_within m a b y end l low high at same past is near =
    let past_b : start_cmp (b, l) (b, y) ≡ Less = subst (λ (k : ℕ). start_cmp (b, l) (k, y) ≡ Less) same past in
    let beyond : l <ℤ y = is_behind b l y past_b in
    record { end = end; noted = subst (λ (k : ℕ). end_at m k y ≡ Some end) same is; behind = grind (arith, at, beyond); near = near }

-- whether a span is reached
pub reached_as : (m : BTreeMap (ℕ × ℤ) ℤ) (base : ℕ) (low high end : ℤ) (t : Bool) → t ≡ int_le high end → IsEndUpTo m base low (Some end)
    → IsReached m base low high t
reached_as m base low high end true q h = let k = h.0 in
    record { start = k.start; end = k.end; noted = k.noted; begins = k.begins; reaches = grind (arith, q, k.reaches) }
reached_as m base low high end false q h = λ x v e l. let most : v ≤ℤ end = h.1 x v e l in grind (arith, q, most)
