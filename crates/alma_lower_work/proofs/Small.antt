-- One more of a list, and designators with a selector.
use Rattle.std.proofs.Common.{◌≡◌, ℕ, suc, ◌+◌, arith, List, [], ◌∷◌, length, refl, sym, ap, ◌∙◌, None, ◌<◌, drop, get_or}
use Rattle.std.proofs.Common.{drop-cons, add-one}
use Rattle.std.specs.Prelude.{option_map, Option, Result, Ok, Err, IfOk}
use Rattle.alma_ir.specs.declared.phrase.Root.{Root}
use Rattle.alma_ir.specs.Tree.{a_desig}
use Rattle.alma_ir.specs.View.{sels_list}
use Rattle.alma_lower_templates.specs.Slots.{own_place, own_root}
use Rattle.alma_lower_work.specs.Puts.{param_of}
use Rattle.alma_ir.specs.declared.phrase.Sel as L
use Rattle.alma_ir.specs.declared.phrase.Root.TheVariants as root

pub drop_one : {A : Type 0} (xs : List A) (i : ℕ) (x : A) → i < length xs → x ≡ get_or xs i x → drop i xs ≡ x ∷ drop (i + 1) xs
drop_one xs i x lt is = drop-cons xs i x lt ∙ ap (λ y. y ∷ drop (suc i) xs) (sym is) ∙ ap (λ n. x ∷ drop n xs) (sym (add-one i))

-- where there is a selector a place is not that of a parameter
pub placed : {A : Type 0} (f : ℕ → A) (r : Root) (cells : ℕ) (sels : List L.Sel) → (length sels ≡ 0 → ⊥)
    → None ≡ option_map f (own_place (a_desig r cells (sels_list sels)))
placed f r cells [] h = absurd (h refl)
placed f (root.Local from) cells (x ∷ rest) h = refl
placed f (root.Global from) cells (x ∷ rest) h = refl
placed f (root.Param from) cells (x ∷ rest) h = refl
placed f (root.Outer links from) cells (x ∷ rest) h = refl
placed f (root.OuterParam links from) cells (x ∷ rest) h = refl

-- where there is no selector none takes a part of a parameter's place
pub no_part : {A : Type 0} (f : ℕ → A) (r : Root) (sels : List L.Sel) → length sels ≡ 0 → None ≡ option_map f (own_root r (sels_list sels))
no_part f (root.Local from) [] none = refl
no_part f (root.Global from) [] none = refl
no_part f (root.Param from) [] none = refl
no_part f (root.Outer links from) [] none = refl
no_part f (root.OuterParam links from) [] none = refl
no_part f r (x ∷ rest) none = absurd (omega (arith, none))

-- and else the first one does
part_root : (r : Root) (x : L.Sel) (rest : List L.Sel) → param_of r ≡ own_root r (sels_list (x ∷ rest))
part_root (root.Local from) x rest = refl
part_root (root.Global from) x rest = refl
part_root (root.Param from) x rest = refl
part_root (root.Outer links from) x rest = refl
part_root (root.OuterParam links from) x rest = refl

pub part_of : {A X : Type 0} (f : ℕ → A) (o : Result (Option A) X) (r : Root) (sels : List L.Sel) → (length sels ≡ 0 → ⊥)
    → IfOk o (λ x. x ≡ option_map f (param_of r)) → IfOk o (λ x. x ≡ option_map f (own_root r (sels_list sels)))
part_of f o r [] some h = absurd (some refl)
part_of f (Ok y) r (x ∷ rest) some h = h ∙ ap (option_map f) (part_root r x rest)
part_of f (Err e) r (x ∷ rest) some h = h
