-- What goes on as shapes are put together.
use Rattle.std.proofs.Common.{◌≡◌, ℕ, ◌+◌, ◌-◌, ◌<◌, ◌≤◌, List, [], ◌∷◌, ◌++◌, Option, None, Some, false, Vec, Global, length, get_or, take}
use Rattle.std.proofs.Common.{map, refl, sym, ap, subst, ◌∙◌, arith}
use Rattle.std.specs.Prelude.{bytes_eq, option_map, slice_get, AllPairs, ◌≢◌}
use Rattle.std.specs.List.{IsDistinct, AllByRecursion}
use Rattle.std.proofs.lemmas.List.{take_more, take_all, map-append}
use Rattle.std.proofs.lemmas.Option.{get_or_from_slice_get, slice_get_within}
use Rattle.std.proofs.lemmas.Map.Made.{AllPairs-from_IsDistinct}
use Rattle.std.proofs.lemmas.Slice.Eq.{bytes_eq-Decides}
use Rattle.alma_names.specs.declared.shapes.FieldOf.{FieldOf}
use Rattle.alma_names.specs.Shapes.{PlainField, field_of, fields_of, names_of, AllBelow}
use Rattle.alma_rules.specs.Scene.{Scene}
use Rattle.alma_rules.specs.Judgement.{BrokenRule}
use Rattle.alma_rules.specs.Types.{ShapeOrLimit, number_in, size_rules, row_on, rows_on}
use Rattle.alma_check_type.specs.Told.{Told, told_with, told_at, told_type, a_told}
use Rattle.alma_check_type.specs.Inner.Tables.{field_view, fields_view}

-- ---- arrays

rows_last : (xs : List ℕ) (x : ℕ) (s : Scene) (f : ShapeOrLimit)
    → rows_on s (xs ++ x ∷ []) f ≡ rows_on (row_on x (s, f)).0 xs (row_on x (s, f)).1
rows_last [] x s f = refl
rows_last (y ∷ ys) x s f = ap (row_on y) (rows_last ys x s f)

rows_more : (is : List ℕ) (k : ℕ) → k < length is → (s : Scene) (f : ShapeOrLimit)
    → rows_on s (take (k + 1) is) f ≡ rows_on (row_on (get_or is k 0) (s, f)).0 (take k is) (row_on (get_or is k 0) (s, f)).1
rows_more is k lt s f = ap (λ xs. rows_on s xs f) (take_more is k 0 lt) ∙ rows_last (take k is) (get_or is k 0) s f

pub rows_next : (s : Scene) (f : ShapeOrLimit) (is : List ℕ) (n k : ℕ) (p : Scene × ShapeOrLimit) → n ≡ length is → k < n
    → p ≡ row_on (get_or is (n - 1 - k) 0) (s, f)
    → rows_on s (take (n - k) is) f ≡ rows_on p.0 (take (n - (k + 1)) is) p.1
rows_next s f is n k p len lt h =
    let a : n - k ≡ n - 1 - k + 1 = omega arith in
    let b : n - 1 - k ≡ n - (k + 1) = omega arith in
    let c : n - 1 - k < length is = omega arith in
    ap (λ m. rows_on s (take m is) f) a ∙ rows_more is (n - 1 - k) c s f
    ∙ ap (λ (q : Scene × ShapeOrLimit). rows_on q.0 (take (n - 1 - k) is) q.1) (sym h)
    ∙ ap (λ m. rows_on p.0 (take m is) p.1) b

-- ---- fields

below_push : (n : ℕ) (xs : List FieldOf) (x : FieldOf) → AllBelow n (fields_of xs) → x.shape.0 < n → AllBelow n (fields_of (xs ++ x ∷ []))
below_push n [] x h lt = (lt, tt)
below_push n (y ∷ ys) x h lt = (h.0, below_push n ys x h.1 lt)

fields_push : (xs : List FieldOf) (x : FieldOf) → fields_of (xs ++ x ∷ []) ≡ fields_of xs ++ field_of x ∷ []
fields_push [] x = refl
fields_push (y ∷ ys) x = ap (λ fs. field_of y ∷ fs) (fields_push ys x)

-- the fields of a list so far
pub record IsListed (n k : ℕ) (es : List (Vec ℕ Global × ℕ)) (xs : List FieldOf) : Type 0 where
  pub list : fields_of xs ≡ fields_view (take k es)
  pub below : AllBelow n (fields_of xs)

pub listed_more : (n k : ℕ) (es : List (Vec ℕ Global × ℕ)) (xs ys : List FieldOf) (x : FieldOf) (e : Vec ℕ Global × ℕ) → IsListed n k es xs
    → slice_get es k ≡ Some e
    → field_of x ≡ field_view e → x.shape.0 < n → ys ≡ xs ++ x ∷ [] → IsListed n (k + 1) es ys
listed_more n k es xs ys x e is there same lt new =
    rw new (record {
      list = fields_push xs x ∙ ap (λ f. fields_of xs ++ f ∷ []) same ∙ ap (λ fs. fs ++ field_view e ∷ []) is.list
          ∙ sym (map-append field_view (take k es) (e ∷ []))
          ∙ ap fields_view (sym (take_more es k e (slice_get_within es k e there)
          ∙ ap (λ i. take k es ++ i ∷ []) (get_or_from_slice_get es k e e there)));
      below = below_push n xs x is.below lt;
    })

apart_names : (k : Vec ℕ Global) (ks : List (Vec ℕ Global)) → AllByRecursion (λ y. bytes_eq k.items y.items ≡ false) ks
    → AllByRecursion (λ y. bytes_eq k.items y ≡ false) (map (λ (i : Vec ℕ Global). i.items) ks)
apart_names k [] h = tt
apart_names k (y ∷ ys) h = (h.0, apart_names k ys h.1)

distinct_texts : (ks : List (Vec ℕ Global)) → IsDistinct (λ x y. bytes_eq x.items y.items) ks
    → IsDistinct bytes_eq (map (λ (i : Vec ℕ Global). i.items) ks)
unfolding IsDistinct
distinct_texts [] h = tt
distinct_texts (k ∷ ks) h = (apart_names k ks h.0, distinct_texts ks h.1)

names_are : (es : List (Vec ℕ Global × ℕ))
    → names_of (fields_view es) ≡ map (λ (i : Vec ℕ Global). i.items) (map (λ (e : Vec ℕ Global × ℕ). e.0) es)
names_are [] = refl
names_are (e ∷ es) = ap (λ ns. e.0.items ∷ ns) (names_are es)

pub distinct_names : (es : List (Vec ℕ Global × ℕ)) (fs : List PlainField) → fs ≡ fields_view es
    → IsDistinct (λ x y. bytes_eq x.items y.items) (map (λ (e : Vec ℕ Global × ℕ). e.0) es)
    → AllPairs (λ a b. a ≢ b) (names_of fs)
distinct_names es fs is h =
    subst (λ ns. AllPairs (λ a b. a ≢ b) ns) (sym (ap names_of is ∙ names_are es))
    (AllPairs-from_IsDistinct bytes_eq-Decides (map (λ (i : Vec ℕ Global). i.items) (map (λ (e : Vec ℕ Global × ℕ). e.0) es))
    (distinct_texts (map (λ (e : Vec ℕ Global × ℕ). e.0) es) h))

pub listed_next : (n k : ℕ) (es : List (Vec ℕ Global × ℕ)) (xs ys : List FieldOf) (x : FieldOf) → IsListed n k es xs
    → Some (field_of x) ≡ option_map field_view (slice_get es k) → x.shape.0 < n
    → ys ≡ xs ++ x ∷ [] → IsListed n (k + 1) es ys
listed_next n k es xs ys x is same lt new = go (slice_get es k) refl same
  where
    go : (o : Option (Vec ℕ Global × ℕ)) → slice_get es k ≡ o → Some (field_of x) ≡ option_map field_view o → IsListed n (k + 1) es ys
    go None e h = absurd (cc)
    go (Some d) e h = let same : field_of x ≡ field_view d = cc in listed_more n k es xs ys x d is e same lt new

pub listed_end : (n k : ℕ) (es : List (Vec ℕ Global × ℕ)) (xs : List FieldOf) → IsListed n k es xs → length es ≤ k
    → fields_of xs ≡ fields_view es
listed_end n k es xs is le = is.list ∙ ap fields_view (take_all k es le)

-- ---- a type of its indices and its element

pub type_formed : (n : ℕ) (f : Option BrokenRule) (s : Scene) (is : List ℕ) (e x : ShapeOrLimit) (j : Scene) (t : Told ℕ)
    → (j, x) ≡ rows_on s is e
    → told_with number_in (told_at n size_rules (a_told f j (Some x))) ≡ t → told_type n (a_told f s (Some (is, e))) ≡ t
type_formed n f s is e x j t h k = ap (λ (p : Scene × ShapeOrLimit). told_with number_in (told_at n size_rules (a_told f p.0 (Some p.1))))
    (sym h)
    ∙ k

-- ---- the arrays of some indices, and none

pub rows_begin : (s : Scene) (f : ShapeOrLimit) (is : List ℕ) (n : ℕ) → n ≡ length is → rows_on s is f ≡ rows_on s (take (n - 0) is) f
rows_begin s f is n h = let le : length is ≤ n - 0 = omega arith in ap (λ xs. rows_on s xs f) (sym (take_all (n - 0) is le))

pub rows_end : (s : Scene) (f : ShapeOrLimit) (is : List ℕ) (n k : ℕ) → n ≤ k → rows_on s (take (n - k) is) f ≡ (s, f)
rows_end s f is n k h = let e : n - k ≡ 0 = omega arith in ap (λ m. rows_on s (take m is) f) e
