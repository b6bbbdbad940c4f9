-- The declarations of a block, and the entries of its map.
use Rattle.std.proofs.Common.{◌≡◌, ℕ, ◌+◌, ◌<◌, ◌≤◌, List, [], ◌∷◌, ◌++◌, Option, None, Some, Bool, cond, not, Vec, Global}
use Rattle.std.proofs.Common.{length, map, position, slice_get, refl, ap, sym, ◌∙◌, arith, true≢false, is_some}
use Rattle.std.specs.Prelude.{bytes_eq}
use Rattle.std.specs.Option.{option_map}
use Rattle.std.specs.List.{position_or_len}
use Rattle.std.specs.Map.{keys_of, lookup}
use Rattle.std.proofs.lemmas.List.{map-append, length-map}
use Rattle.std.proofs.lemmas.Option.{slice_get-map}
use Rattle.std.proofs.lemmas.Bool.Decides.{nat_tests}
use Rattle.indexmap.specs.IndexMap.{insert_entry}
use Rattle.indexmap.proofs.MapLemmas.{some_index}
use Rattle.alma_names.proofs.Added.{added}
use Rattle.alma_names.specs.declared.block.Declaration.{Declaration}
use Rattle.alma_names.specs.Blocks.{DeclaredName, declared_of, place, seen, entry_in}

-- a key of a map is the name
abbrev pub is_named : List ℕ → Vec ℕ Global → Bool
is_named name k = bytes_eq name k.items

first_names : (name : List ℕ) (es : List (Vec ℕ Global × Declaration))
    → position_or_len (λ d. bytes_eq name d.name) (map declared_of es) ≡ position_or_len (is_named name) (keys_of es)
first_names name [] = refl
first_names name (e ∷ es) = ap (λ n. cond (not (bytes_eq name e.0.items)) (1 + n) 0) (first_names name es)

keys_len : (es : List (Vec ℕ Global × Declaration)) → length (map declared_of es) ≡ length (keys_of es)
keys_len es = length-map es declared_of ∙ sym (length-map es _)

-- the place of a name among the declarations is its place among the keys
place_names : (name : List ℕ) (es : List (Vec ℕ Global × Declaration))
    → place name (map declared_of es) ≡ position (is_named name) (keys_of es)
place_names name es = rw (first_names name es, keys_len es) refl

-- what a look-up in the map says of the block
module _ (name : List ℕ) (at : ℕ) (es : List (Vec ℕ Global × Declaration)) (b : List DeclaredName) (v : map declared_of es ≡ b) where
  pub place_found : {r : Option ℕ} → r ≡ position (is_named name) (keys_of es) → r ≡ place name b
  place_found h = rw (← v) (h ∙ sym (place_names name es))

  pub seen_none : None ≡ position (is_named name) (keys_of es) → None ≡ seen name at b
  seen_none h = rw (← place_found h) refl

  there : (i : ℕ) (k : Vec ℕ Global) (x : Declaration) → slice_get es i ≡ Some (k, x) → slice_get b i ≡ Some (declared_of (k, x))
  there i k x h = rw (← v, slice_get-map declared_of es i, h) refl

  pub seen_some : (i : ℕ) (k : Vec ℕ Global) (x : Declaration) → Some i ≡ position (is_named name) (keys_of es)
      → slice_get es i ≡ Some (k, x) → x.from ≤ at → Some i ≡ seen name at b
  seen_some i k x p h le = rw (← place_found p, there i k x h) (grind (arith, nat_tests))

  pub seen_later : (i : ℕ) (k : Vec ℕ Global) (x : Declaration) → Some i ≡ position (is_named name) (keys_of es)
      → slice_get es i ≡ Some (k, x) → at < x.from → None ≡ seen name at b
  seen_later i k x p h lt = rw (← place_found p, there i k x h) (grind (arith, nat_tests))

  pub entry_there : (i : ℕ) (x : Declaration) → slice_get (map (λ e. e.1) es) i ≡ Some x → x.entry ≡ entry_in (slice_get b i)
  entry_there i x h = rw (← v, slice_get-map declared_of es i) (by (slice_get es i) (sym (slice_get-map (λ e. e.1) es i) ∙ h))
    where
      by : (o : Option (Vec ℕ Global × Declaration)) → option_map (λ e. e.1) o ≡ Some x → x.entry ≡ entry_in (option_map declared_of o)
      by None p = absurd (cc)
      by (Some e) p = cc

missed : (test : Vec ℕ Global → Bool) (es : List (Vec ℕ Global × Declaration)) → position test (keys_of es) ≡ None → lookup test es ≡ None
missed test es h = by (lookup test es) refl
  where
    by : (o : Option Declaration) → lookup test es ≡ o → o ≡ None
    by None p = refl
    by (Some k) p = absurd (true≢false (sym (some_index test es ∙ ap is_some p) ∙ ap is_some h))

-- the block after an insertion of a name that it did not have
pub added_name : (name : List ℕ) (key : Vec ℕ Global) (declaration : Declaration) (es : List (Vec ℕ Global × Declaration))
    (b : List DeclaredName) → map declared_of es ≡ b → place name b ≡ None → key.items ≡ name
    → (new : List (Vec ℕ Global × Declaration)) → new ≡ insert_entry (λ x y. bytes_eq x.items y.items) es key declaration
    → map declared_of new ≡ b ++ record { name = name; from = declaration.from; entry = declaration.entry } ∷ []
added_name name key declaration es b v none is new h =
    let gone : lookup (is_named name) es ≡ None = missed (is_named name) es (place_found name 0 es b v refl ∙ none) in
    let same : lookup (is_named key.items) es ≡ None = rw is gone in
    rw (h, added (λ x y. bytes_eq x.items y.items) key declaration es same, map-append declared_of es _, v, is) refl
