-- Lemmas on the slots that are kept for the next frame.
use Rattle.std.proofs.Common.{◌≡◌, ℕ, ◌≤◌, ◌<◌, ◌+◌, ◌-◌, List, [], ◌∷◌, ◌++◌, length, map, take, drop, get_or, suc, zero}
use Rattle.std.proofs.Common.{sym, ap, ◌∙◌, arith}
use Rattle.std.proofs.lemmas.List.{drop-drop, length-map, take_more}
use Rattle.std.specs.Prelude.{Some, slice_get}
use Rattle.alma_code.specs.declared.cell.Cell.{Cell}
use Rattle.alma_code.specs.declared.head.Run.{Run}
use Rattle.alma_code.specs.Head.{PlainHead}
use Rattle.alma_code.specs.Layout.{IsHead, blank_of, kinds_of}
use Rattle.alma_memory_store.specs.declared.store.Slot.{Slot}
use Rattle.alma_memory_store.specs.Images.{IsImage}
use Rattle.alma_memory_store.specs.Regions.{blank_slot, cells_in, kinds_in}
use Rattle.alma_memory_store.proofs.Layouts.{cells-blank, head-kinds, kinds-blank}

take-read-suc : (x : Run) (xs : List Run) (i : ℕ) → slice_get xs i ≡ Some x → take (suc i) xs ≡ take i xs ++ x ∷ []
take-read-suc x [] i e = absurd (cc)
take-read-suc x (y ∷ ys) zero e = let same : y ≡ x = cc in ap (λ z. z ∷ []) same
take-read-suc x (y ∷ ys) (suc i) e = ap (λ v. y ∷ v) (take-read-suc x ys i e)

-- one run more
pub take-read : (x : Run) (xs : List Run) (i : ℕ) → slice_get xs i ≡ Some x → take (i + 1) xs ≡ take i xs ++ x ∷ []
take-read x xs i e = let up : i + 1 ≡ suc i = omega arith in ap (λ k. take k xs) up ∙ take-read-suc x xs i e

-- one run more that is the same
pub same-more : (xs ys : List Run) (d y : Run) (i : ℕ) → i < length xs → slice_get ys i ≡ Some y → get_or xs i d ≡ y
    → take i xs ≡ take i ys → take (i + 1) xs ≡ take (i + 1) ys
same-more xs ys d y i l e same h =
    take_more xs i d l ∙ (ap (λ v. v ++ get_or xs i d ∷ []) h ∙ (ap (λ z. take i ys ++ z ∷ []) same ∙ sym (take-read y ys i e)))

-- slots before anything is written are an image
pub fresh-image : (runs all : List Run) (slots : List Slot) (written : ℕ) → runs ≡ all → slots ≡ map blank_slot (kinds_of 0 all)
    → IsImage runs slots written
fresh-image runs all slots written e f =
    let back : kinds_of 0 all ≡ kinds_of 0 runs = ap (λ rs. kinds_of 0 rs) (sym e) in record {
      kinds = ap kinds_in f ∙ (kinds-blank (kinds_of 0 all) ∙ back);
      blank = ap (λ v. drop written (cells_in v)) f
          ∙ (ap (λ v. drop written v) (cells-blank (kinds_of 0 all)) ∙ ap (λ ks. drop written (map blank_of ks)) back);
    }

-- more slots may be written
pub image-later : (runs : List Run) (slots : List Slot) (w n : ℕ) → IsImage runs slots w → w ≤ n → IsImage runs slots n
image-later runs slots w n i l =
    let up : w + (n - w) ≡ n = omega (arith, l) in
    let blanks : List Cell = map blank_of (kinds_of 0 runs) in record {
      kinds = i.kinds;
      blank = ap (λ k. drop k (cells_in slots)) (sym up)
          ∙ (sym (drop-drop (n - w) w (cells_in slots)) ∙ (ap (λ v. drop (n - w) v) i.blank
          ∙ (drop-drop (n - w) w blanks ∙ ap (λ k. drop k blanks) up)));
    }

-- an image has as many slots as a head of its runs
pub image-length : (h : PlainHead) (runs : List Run) (slots : List Slot) (w : ℕ) → IsHead h → runs ≡ h.runs → IsImage runs slots w
    → length slots ≡ h.slots
image-length h runs slots w head e i =
    let all = head-kinds h (kinds_of 0 runs) head (ap (λ rs. kinds_of 0 rs) e) in
    sym (length-map slots (λ (s : Slot). s.kind)) ∙ (ap length i.kinds ∙ all)
