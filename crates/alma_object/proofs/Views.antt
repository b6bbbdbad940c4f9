-- What a view has of the code that it stands for.
use Rattle.std.proofs.Common.{◌≡◌, ℕ, zero, suc, ◌+◌, ◌≤◌, Bool, true, false, ◌||◌, List, get_or, take, Some, refl}
use Rattle.std.proofs.Common.{sym, ap, ◌∙◌, arith}
use Rattle.std.specs.Prelude.{slice_get}
use Rattle.std.specs.List.{list_any}
use Rattle.std.proofs.lemmas.List.Folds.{list_any_more, list_any_at}
use Rattle.std.proofs.lemmas.Option.{slice_get_within, get_or_from_slice_get}
use Rattle.alma_code.specs.Plain.{PlainRoutine, no_routine, start_at}
use Rattle.alma_object_format.specs.declared.header.Header.{Header}
use Rattle.alma_object_format.specs.Walk.{start_of, code_end}
use Rattle.alma_object_format.specs.Reading.{routine_in, code_in}
use Rattle.alma_object.proofs.Items.{item_at}

pub code_start_is : (bytes : List ℕ) (h : Header) (r : ℕ) → r ≤ h.routines → start_of (code_end bytes h) r ≡ start_at (code_in bytes h) r
unfolding routine_in
code_start_is bytes h zero le = refl
code_start_is bytes h (suc r) le = ap (λ (x : PlainRoutine). x.code_end)
    (sym (item_at (routine_in bytes h) h.routines r no_routine (omega arith)))

-- no item so far passes the test, and the next does not
pub none_more : {A : Type 0} (p : A → Bool) (xs : List A) (i : ℕ) (x : A) → slice_get xs i ≡ Some x → p x ≡ false
    → list_any p (take i xs) ≡ false → list_any p (take (i + 1) xs) ≡ false
none_more {A = A} p xs i x e fails before =
    list_any_more p xs i x (slice_get_within xs i x e) ∙ ap (λ (b : Bool). b || p (get_or xs i x)) before
    ∙ ap p (get_or_from_slice_get xs i x x e) ∙ fails

-- an item that passes the test
pub one_passes : {A : Type 0} (p : A → Bool) (xs : List A) (i : ℕ) (x : A) → slice_get xs i ≡ Some x → p x ≡ true → list_any p xs ≡ true
one_passes p xs i x e passes = list_any_at p xs i x (slice_get_within xs i x e) (ap p (get_or_from_slice_get xs i x x e) ∙ passes)
