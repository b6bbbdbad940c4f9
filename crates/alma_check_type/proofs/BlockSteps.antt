-- What goes on as blocks begin and end, and what a look-up in the names of a block says.
use Rattle.std.proofs.Common.{◌≡◌, ℕ, ◌+◌, ◌-◌, ◌<◌, ◌≤◌, List, [], ◌∷◌, ◌++◌, None, Some, Bool, true, false, cond, Vec}
use Rattle.std.proofs.Common.{Global, length, get_or, take, map, refl, sym, ap, ◌∙◌, arith, eq-eqb, true≢false}
use Rattle.std.specs.Prelude.{bytes_eq, is_some, ◌||◌, nat_eq, ◌≢◌, map}
use Rattle.std.specs.Map.{lookup}
use Rattle.std.proofs.lemmas.List.{map-append, length-map, length_push, take_more, take_all}
use Rattle.indexmap.specs.IndexMap.{insert_entry}
use Rattle.alma_names.specs.Blocks.{DeclaredName}
use Rattle.alma_names.specs.Scopes.{Blocks, entries_of, with_new_block, without_top_block}
use Rattle.alma_rules.specs.Decls.{has_text, with_text}
use Rattle.alma_rules.specs.Scene.{Scene, first_token, is_first, text_at}
use Rattle.alma_check_type.specs.Told.{IsCounted}
use Rattle.alma_tree.specs.declared.leaf.Name.{Name}
use Rattle.alma_rules.specs.Numbered as tree

-- ---- counts

entries_last : (bs : List (List DeclaredName)) (b : List DeclaredName) → entries_of (bs ++ b ∷ []) ≡ entries_of bs + length b
entries_last [] b = omega arith
entries_last (x ∷ bs) b = omega (arith, entries_last bs b)

pub counted_new : (below counts : List ℕ) (top all : ℕ) (s t : Blocks) → IsCounted below top all s → counts ≡ below ++ top ∷ []
    → t ≡ with_new_block s → IsCounted counts 0 all t
counted_new below counts top all s t is c n =
    rw (c, n) (record {
      counts = map-append length s.below (s.top ∷ []) ∙ ap (λ xs. xs ++ length s.top ∷ []) is.counts
          ∙ ap (λ x. below ++ x ∷ []) (sym is.highest);
      highest = refl;
      sum = is.sum ∙ omega (arith, entries_last s.below s.top);
    })

some_last : (ys : List ℕ) (y : ℕ) → [] ≡ ys ++ y ∷ [] → ⊥
some_last [] y h = cc
some_last (z ∷ zs) y h = cc

same_last : (xs ys : List ℕ) (x y : ℕ) → xs ++ x ∷ [] ≡ ys ++ y ∷ [] → record { front : xs ≡ ys; last : x ≡ y }
same_last [] [] x y h = record { front = refl; last = cc }
same_last [] (z ∷ zs) x y h = absurd (some_last zs y (cc))
same_last (w ∷ ws) [] x y h = absurd (some_last ws x (cc))
same_last (w ∷ ws) (z ∷ zs) x y h =
    let e = same_last ws zs x y (cc) in
    let head : w ≡ z = cc in
    record { front = rw (head, e.front) refl; last = e.last }

-- the last of some lists is taken off as the last of their lengths is
last_taken : (bs : List (List DeclaredName)) (ns : List ℕ) (n : ℕ) → map length bs ≡ ns ++ n ∷ []
    → record {
      front : map length (take (length bs - 1) bs) ≡ ns;
      last : length (get_or bs (length bs - 1) []) ≡ n;
      sum : entries_of bs ≡ entries_of (take (length bs - 1) bs) + n;
    }
last_taken bs ns n h =
    let k : ℕ = length bs - 1 in
    let len : length bs ≡ length ns + 1 = sym (length-map bs length) ∙ ap length h ∙ length_push ns n in
    let lt : k < length bs = omega arith in
    let le : length bs ≤ k + 1 = omega arith in
    let all : take k bs ++ get_or bs k [] ∷ [] ≡ bs = sym (take_more bs k [] lt) ∙ take_all (k + 1) bs le in
    let e = same_last (map length (take k bs)) ns (length (get_or bs k [])) n
    (sym (map-append length (take k bs) (get_or bs k [] ∷ [])) ∙ ap (map length) all ∙ h) in
    record {
      front = e.front;
      last = e.last;
      sum = ap entries_of (sym all)
          ∙ omega (arith, entries_last (take k bs) (get_or bs k []), e.last);
    }

pub counted_left : (below counts : List ℕ) (top all count : ℕ) (s t : Blocks) → IsCounted below top all s → below ≡ counts ++ count ∷ []
    → t ≡ without_top_block s
    → IsCounted counts count (all - top) t
counted_left below counts top all count s t is c n =
    let e = last_taken s.below counts count (is.counts ∙ c) in
    let all_in : all ≡ entries_of s.below + length s.top = is.sum in
    let top_in : top ≡ length s.top = is.highest in
    rw n (record { counts = e.front; highest = sym e.last; sum = omega (arith, e.sum, e.last) })

-- ---- the first of the names of a block

abbrev pub key_view : Vec ℕ Global × ℕ → List ℕ × ℕ
key_view e = (e.0.items, e.1)

module _ (text : List ℕ) (token : ℕ) where
  first_some : (es : List (Vec ℕ Global × ℕ)) (t : ℕ) → Some t ≡ lookup (λ k. bytes_eq text k.items) es
      → first_token text (map key_view es) token ≡ t
  first_some [] t h = absurd (cc)
  first_some (e ∷ es) t h = go (bytes_eq text e.0.items) h (first_some es t)
    where
      go : (b : Bool) → Some t ≡ cond b (Some e.1) (lookup (λ k. bytes_eq text k.items) es)
          → (Some t ≡ lookup (λ k. bytes_eq text k.items) es → first_token text (map key_view es) token ≡ t)
          → cond b e.1 (first_token text (map key_view es) token) ≡ t
      go true h f = cc
      go false h f = f h

  first_none : (es : List (Vec ℕ Global × ℕ)) → None ≡ lookup (λ k. bytes_eq text k.items) es
      → first_token text (map key_view es) token ≡ token
  first_none [] h = refl
  first_none (e ∷ es) h = go (bytes_eq text e.0.items) h (first_none es)
    where
      go : (b : Bool) → None ≡ cond b (Some e.1) (lookup (λ k. bytes_eq text k.items) es)
          → (None ≡ lookup (λ k. bytes_eq text k.items) es → first_token text (map key_view es) token ≡ token)
          → cond b e.1 (first_token text (map key_view es) token) ≡ token
      go true h f = absurd (cc)
      go false h f = f h

same_token : (n : ℕ) → true ≡ nat_eq n n
same_token n = sym (eq-eqb n n refl)

module _ (s : Scene) (name : tree.Name) (es : List (Vec ℕ Global × ℕ)) (text : List ℕ) (v : map key_view es ≡ s.declares)
    (t : text ≡ text_at s name.token) where
  first_is : (k : ℕ) → first_token text (map key_view es) name.token ≡ k → nat_eq k name.token ≡ is_first s name
  first_is k h = ap (λ n. nat_eq n name.token)
      (sym h ∙ ap (λ x. first_token x (map key_view es) name.token) t ∙ ap (λ d. first_token (text_at s name.token) d name.token) v)

  pub found_first : (k : ℕ) → Some k ≡ lookup (λ i. bytes_eq text i.items) es → nat_eq k name.token ≡ is_first s name
  found_first k h = first_is k (first_some text name.token es k h)

  pub absent_first : None ≡ lookup (λ i. bytes_eq text i.items) es → true ≡ is_first s name
  absent_first h = same_token name.token ∙ first_is name.token (first_none text name.token es h)

-- a name that is not there is entered last
pub inserted : (key : Vec ℕ Global) (shape : ℕ) (es : List (Vec ℕ Global × ℕ))
    → is_some (lookup (λ k. bytes_eq key.items k.items) es) ≡ false
    → insert_entry (λ x y. bytes_eq x.items y.items) es key shape ≡ es ++ (key, shape) ∷ []
inserted key shape [] h = refl
inserted key shape (e ∷ es) h = go (bytes_eq key.items e.0.items) h (inserted key shape es)
  where
    go : (b : Bool) → is_some (cond b (Some e.1) (lookup (λ k. bytes_eq key.items k.items) es)) ≡ false
        → (is_some (lookup (λ k. bytes_eq key.items k.items) es) ≡ false
        → insert_entry (λ x y. bytes_eq x.items y.items) es key shape ≡ es ++ (key, shape) ∷ [])
        → cond b ((e.0, shape) ∷ es) (e ∷ insert_entry (λ x y. bytes_eq x.items y.items) es key shape) ≡ e ∷ (es ++ (key, shape) ∷ [])
    go true n f = absurd (true≢false n)
    go false n f = ap (λ x. e ∷ x) (f n)

-- ---- names of a block

has_text_is : (text : List ℕ) (es : List (Vec ℕ Global × ℕ))
    → has_text text (map key_view es) ≡ is_some (lookup (λ k. bytes_eq text k.items) es)
has_text_is text [] = refl
has_text_is text (e ∷ es) = go (bytes_eq text e.0.items) (has_text_is text es)
  where
    go : (b : Bool) → has_text text (map key_view es) ≡ is_some (lookup (λ k. bytes_eq text k.items) es)
        → (b || has_text text (map key_view es)) ≡ is_some (cond b (Some e.1) (lookup (λ k. bytes_eq text k.items) es))
    go true h = refl
    go false h = h

pub name_there : (text : List ℕ) (token : ℕ) (es : List (Vec ℕ Global × ℕ)) → is_some (lookup (λ k. bytes_eq text k.items) es) ≡ true
    → map key_view es ≡ with_text (map key_view es) text token
name_there text token es h = rw (has_text_is text es ∙ h) refl

pub name_new : (text : List ℕ) (token : ℕ) (es : List (Vec ℕ Global × ℕ)) (key : Vec ℕ Global) (new : List (Vec ℕ Global × ℕ))
    → is_some (lookup (λ k. bytes_eq text k.items) es) ≡ false → key.items ≡ text
    → new ≡ insert_entry (λ x y. bytes_eq x.items y.items) es key token
    → map key_view new ≡ with_text (map key_view es) text token
name_new text token es key new h k n =
    let same : is_some (lookup (λ i. bytes_eq key.items i.items) es) ≡ false = rw k h in
    ap (map key_view) (n ∙ inserted key token es same) ∙ map-append key_view es ((key, token) ∷ [])
    ∙ rw k (rw (has_text_is text es ∙ h) refl)

-- ---- headings

-- ---- the outermost scene is that in which a module is judged
