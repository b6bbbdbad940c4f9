-- Names with their bytes, in a map with texts as keys.
use Rattle.std.proofs.Common.{◌≡◌, ◌≢◌, ◌∙◌, ℕ, List, [], ◌∷◌, Bool, true, false, cond, map, ap, sym, refl}
use Rattle.std.specs.Prelude.{Option, Some, String}
use Rattle.std.specs.Option.{option_map}
use Rattle.std.specs.Global.{Vec}
use Rattle.std.specs.declared.alloc.Global.{Global}
use Rattle.std.specs.Ordering.{nat_cmp, is_eq, eq_by_cmp}
use Rattle.std.specs.Cmp.Lexicographic.{slice_cmp, nat_list_cmp_total, nat_list_eq_equiv, bytes_decides}
use Rattle.std.specs.Str.{bytes_eq}
use Rattle.std.specs.String.{string_bytes, string_cmp}
use Rattle.std.specs.BTreeMap.{BTreeMap, get_by_text, is_at, Updates}
use Rattle.std.specs.Map.{lookup}
use Rattle.std.specs.FinMap as finite
use Rattle.std.proofs.lemmas.Map.Text.{is_eq-slice_cmp, btree_map_updates_text}
use Rattle.std.proofs.lemmas.Bool.{false_from_ne_true}
use Rattle.alma_io.specs.Files.{Told, Untold, Missing, Has, NowHas}
use Rattle.alma_io.specs.Memory.{NamedBytes}
use Rattle.alma_io.specs.Named.{named_bytes}

-- a look-up among names with bytes is one among texts
find-map : (name : List ℕ) (files : List (String Global × Vec ℕ))
    → finite.find (slice_cmp nat_cmp) name (map (λ file. (string_bytes file.0, file.1.items)) files)
    ≡ option_map (λ v. v.items) (lookup (is_at (λ k. slice_cmp nat_cmp name (string_bytes k))) files)
find-map name [] = refl
find-map name (file ∷ files) =
    elim (is_eq (slice_cmp nat_cmp name (string_bytes file.0))) as (λ b.
    cond b (Some file.1.items) (finite.find (slice_cmp nat_cmp) name (map (λ file. (string_bytes file.0, file.1.items)) files))
    ≡ option_map (λ v. v.items) (cond b (Some file.1) (lookup (is_at (λ k. slice_cmp nat_cmp name (string_bytes k))) files)))
    [ true ↦ refl | false ↦ find-map name files ]

-- what a map has at a name is what the names with their bytes have
pub get-named_bytes : (files : BTreeMap (String Global) (Vec ℕ)) (name : List ℕ)
    → finite.get (named_bytes files) name ≡ option_map (λ v. v.items) (get_by_text files name)
get-named_bytes files name = finite.get-from_entries nat_list_cmp_total _ name ∙ find-map name files.entries

-- names tie exactly where they are equal
ties : (q name : List ℕ) → eq_by_cmp (slice_cmp nat_cmp) q name ≡ bytes_eq name q
ties q name = is_eq-slice_cmp q name ∙ nat_list_eq_equiv.symm q name

-- what a change at a name does to a look-up
option_map-cond : (b : Bool) (v : Vec ℕ) (o : Option (Vec ℕ))
    → option_map (λ w. w.items) (cond b (Some v) o) ≡ cond b (Some v.items) (option_map (λ w. w.items) o)
option_map-cond true v o = refl
option_map-cond false v o = refl

-- a map with one text set is the names with that one set
pub named_bytes-insert : (old new : BTreeMap (String Global) (Vec ℕ)) (key : String Global) (v : Vec ℕ)
    → Updates string_cmp old new key (Some v)
    → named_bytes new ≡ finite.insert (named_bytes old) (string_bytes key) v.items
named_bytes-insert old new key v h =
    finite.same_map nat_list_cmp_total (finite.slice_cmp-IsAntisymmetric finite.nat_cmp-IsAntisymmetric) _ _ (λ q.
    get-named_bytes new q
    ∙ ap (option_map (λ w. w.items)) (btree_map_updates_text (string_bytes key) old new (Some v) h q)
    ∙ option_map-cond (bytes_eq (string_bytes key) q) v (get_by_text old q)
    ∙ ap (cond (bytes_eq (string_bytes key) q) (Some v.items)) (sym (get-named_bytes old q))
    ∙ ap (λ b. cond b (Some v.items) (finite.get (named_bytes old) q)) (sym (ties q (string_bytes key)))
    ∙ sym (finite.get-insert nat_list_cmp_total (named_bytes old) (string_bytes key) v.items q))

-- the name that was set
pub get-insert_same : (files : NamedBytes) (name bytes : List ℕ) → finite.get (finite.insert files name bytes) name ≡ Some bytes
get-insert_same files name bytes =
    finite.get-insert nat_list_cmp_total files name bytes name
    ∙ ap (λ b. cond b (Some bytes) (finite.get files name)) (ties name name ∙ (bytes_decides name name).1 refl)

-- another name than the one that was set
pub get-insert_other : (files : NamedBytes) (name bytes other : List ℕ) → other ≢ name
    → finite.get (finite.insert files name bytes) other ≡ finite.get files other
get-insert_other files name bytes other apart =
    finite.get-insert nat_list_cmp_total files name bytes other
    ∙ ap (λ b. cond b (Some bytes) (finite.get files other))
    (ties other name ∙ false_from_ne_true (bytes_eq name other) (λ e. apart (sym ((bytes_decides name other).0 e))))

-- a name that is told to have these bytes now
pub now_has : (old new : Told) (bytes : List ℕ) → new ≡ Has bytes → NowHas old new bytes
now_has Untold new bytes e = tt
now_has Missing new bytes e = e
now_has (Has known) new bytes e = e
