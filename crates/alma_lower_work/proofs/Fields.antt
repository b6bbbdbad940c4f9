-- Fields one after another.
use Rattle.std.proofs.Common.{◌≡◌, ℕ, ◌+◌, ◌<◌, List, length, drop, get_or, refl, ap, ◌∙◌, None}
use Rattle.alma_base.specs.declared.number.Range.{Range}
use Rattle.alma_ir.specs.declared.phrase.Expr.{Expr}
use Rattle.alma_ir.specs.declared.phrase.Sel as L
use Rattle.alma_ir.specs.Tree.{Sels, no_sels, more_sels, Field, Index}
use Rattle.alma_ir.specs.View.{sel_of, sels_list}
use Rattle.alma_ir.proofs.Views
use Rattle.alma_lower_templates.specs.Slots.{fields_from, is_given}
use Rattle.alma_lower_work.proofs.Small.{drop_one}

-- the selectors from one on: that one, and those behind it
from_one : (xs : List L.Sel) (i at : ℕ) (x : L.Sel) → i < length xs → x ≡ get_or xs i x
    → fields_from at (sels_list (drop i xs)) ≡ fields_from at (more_sels (sel_of x) (sels_list (drop (i + 1) xs)))
from_one xs i at x lt is = ap (λ l. fields_from at (sels_list l)) (drop_one xs i x lt is)

-- a field leads on
pub field_on : (xs : List L.Sel) (i at offset cells : ℕ) (x : L.Sel) → i < length xs → x ≡ get_or xs i x → x ≡ L.Field offset cells
    → fields_from at (sels_list (drop i xs)) ≡ fields_from (at + offset) (sels_list (drop (i + 1) xs))
field_on xs i at offset cells x lt is form =
    from_one xs i at x lt is
    ∙ ap (λ y. fields_from at (more_sels y (sels_list (drop (i + 1) xs)))) (ap sel_of form ∙ Views.field_view offset cells)

-- and an index does not
pub index_ends : (xs : List L.Sel) (i at : ℕ) (e : Expr) (range : Range) (cells : ℕ) (x : L.Sel) → i < length xs → x ≡ get_or xs i x
    → x ≡ L.Index e range cells → fields_from at (sels_list (drop i xs)) ≡ None
index_ends xs i at e range cells x lt is form =
    from_one xs i at x lt is
    ∙ ap (λ y. fields_from at (more_sels y (sels_list (drop (i + 1) xs)))) (ap sel_of form ∙ Views.index_view e range cells)

-- whether all are fields does not rest on where they begin
pub from_any : (sels : Sels) (n m : ℕ) → is_given (fields_from n sels) ≡ is_given (fields_from m sels)
from_any no_sels n m = refl
from_any (more_sels (Field offset cells) rest) n m = from_any rest (n + offset) (m + offset)
from_any (more_sels (Index e range cells) rest) n m = refl
