-- Exports under their names.
use Rattle.std.proofs.Common.{◌≡◌, ℕ, inl, inr, true, false, [], ◌∷◌, ◌++◌, map, sym, ap, ◌∙◌, cond, Option, None, Some, Vec, Global}
use Rattle.std.specs.Prelude.{nat_eq}
use Rattle.std.specs.Cmp.Lexicographic.{pointwise, bytes_decides}
use Rattle.std.proofs.lemmas.Bool.{cases_Bool}
use Rattle.std.proofs.lemmas.List.{map-append}
use Rattle.std.specs.Map.{lookup}
use Rattle.indexmap.specs.IndexMap.{IndexMap, get}
use Rattle.alma_join.specs.declared.directory.Export.{Export}
use Rattle.alma_join.specs.Directory.{plain_export, entries_in, alike}

pub alike_by : (x y : Vec ℕ Global) → x.items ≡ y.items → alike x y ≡ true
alike_by x y e = (bytes_decides x.items y.items).1 e

pub unlike_by : (x y : Vec ℕ Global) → (x.items ≡ y.items → ⊥) → alike x y ≡ false
unlike_by x y differ = elim (cases_Bool (alike x y)) [ inl e ↦ absurd (differ ((bytes_decides x.items y.items).0 e)) | inr e ↦ e ]

-- what a look-up gives once a longer list was put under the name
pub own_put : (name key q : Vec ℕ Global) (old mid new : Option (Vec Export Global)) (list longer : Vec Export Global) (e : Export)
    → key.items ≡ name.items → q.items ≡ name.items
    → entries_in old ≡ map plain_export list.items → longer.items ≡ list.items ++ e ∷ [] → new ≡ cond (alike key q) (Some longer) mid
    → entries_in new ≡ entries_in old ++ plain_export e ∷ []
own_put name key q old mid new list longer e by_name asked was is put =
    ap entries_in (put ∙ ap (λ b. cond b (Some longer) mid) (alike_by key q (by_name ∙ sym asked)))
    ∙ ap (map plain_export) is ∙ map-append plain_export list.items (e ∷ []) ∙ ap (λ l. l ++ plain_export e ∷ []) (sym was)

-- and under another name
pub other_put : (name key q : Vec ℕ Global) (old mid new : Option (Vec Export Global)) (longer : Option (Vec Export Global))
    → key.items ≡ name.items → (q.items ≡ name.items → ⊥)
    → mid ≡ cond (alike name q) None old → new ≡ cond (alike key q) longer mid → entries_in new ≡ entries_in old
other_put name key q old mid new longer by_name differ taken put =
    ap entries_in (put ∙ ap (λ b. cond b longer mid) (unlike_by key q (λ e. differ (sym e ∙ by_name)))
    ∙ taken ∙ ap (λ b. cond b None old) (unlike_by name q (λ e. differ (sym e))))

-- a look-up goes by the bytes of the name
pub same_there : {S : Type 0} (m : IndexMap (Vec ℕ Global) (Vec Export Global) S) (x y : Vec ℕ Global) → x.items ≡ y.items
    → get alike m x ≡ get alike m y
same_there m x y e = ap (λ xs. lookup (λ k. pointwise nat_eq xs k.items) m.entries) e

-- what was found as a list
pub found_some : (old r : Option (Vec Export Global)) (list v : Vec Export Global) → old ≡ r → r ≡ Some v → list ≡ v
    → entries_in old ≡ map plain_export list.items
found_some old r list v same is by_list = ap entries_in (same ∙ is) ∙ ap (λ l. map plain_export l.items) (sym by_list)

pub found_none : (old r : Option (Vec Export Global)) (list v : Vec Export Global) → old ≡ r → r ≡ None → list ≡ v → v.items ≡ []
    → entries_in old ≡ map plain_export list.items
found_none old r list v same is by_list empty = ap entries_in (same ∙ is) ∙ sym (ap (map plain_export) (ap (λ l. l.items) by_list ∙ empty))
