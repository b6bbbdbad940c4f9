-- Lemmas on the frames from before some notes: what one more note changes in them.
use Rattle.std.proofs.Common.{◌≡◌, ℕ, ◌≤◌, ◌<◌, ◌+◌, ◌-◌, List, [], ◌∷◌, ◌++◌, length, take, set, get_or, suc, zero, true, false, refl, sym}
use Rattle.std.proofs.Common.{ap, ◌∙◌, arith}
use Rattle.std.proofs.lemmas.List.{get_or_read, length-append, length-set, length-take-le, set-set, append-nil, get_or-append_right}
use Rattle.alma_base.specs.Carry.{Change, Carry, is_before, is_same_place, with_change}
use Rattle.alma_base.specs.Choice.{if_true}
use Rattle.alma_code.specs.declared.cell.Cell.{Cell}
use Rattle.alma_code.specs.Picture.{PlainFrame, no_frame, frame_with, frames_with_cell, without_last}
use Rattle.alma_back_tape.specs.Inner.Earlier.{frames_with_old_cells}
use Rattle.alma_memory_store.proofs.Carrying.{same-place-is}
use Rattle.alma_memory_store.proofs.Rising.{if-keeps, same-itself}

-- ---- lists

-- writes at two indices can be swapped
set-apart : {A : Type 0} (x y : A) (xs : List A) (i j : ℕ) → (i ≡ j → ⊥) → set (set xs i x) j y ≡ set (set xs j y) i x
set-apart x y [] i j h = refl
set-apart x y (z ∷ xs) zero zero h = absurd (h refl)
set-apart x y (z ∷ xs) zero (suc j) h = refl
set-apart x y (z ∷ xs) (suc i) zero h = refl
set-apart x y (z ∷ xs) (suc i) (suc j) h = ap (λ ys. z ∷ ys) (set-apart x y xs i j (λ e. h (ap suc e)))

-- the first of the first elements are the first elements
pub take-take-le : {A : Type 0} (m n : ℕ) (xs : List A) → m ≤ n → take m (take n xs) ≡ take m xs
take-take-le zero n xs l = refl
take-take-le (suc m) zero xs l = absurd (omega arith)
take-take-le (suc m) (suc n) [] l = refl
take-take-le (suc m) (suc n) (x ∷ xs) l = ap (λ ys. x ∷ ys) (take-take-le m n xs (omega arith))

-- ---- writes

-- old cells leave as many frames
pub length-frames_with_old_cells : (fs : List PlainFrame) (cs : Carry Cell) → length (frames_with_old_cells fs cs) ≡ length fs
length-frames_with_old_cells fs [] = refl
length-frames_with_old_cells fs (x ∷ cs) = length-set (frames_with_old_cells fs cs) x.frame
    (frame_with (get_or (frames_with_old_cells fs cs) x.frame no_frame) x.slot x.cell) ∙ length-frames_with_old_cells fs cs

-- of two writes to one slot the second counts
written-again : (fs : List PlainFrame) (f s : ℕ) (c d : Cell)
    → frames_with_cell (frames_with_cell fs f s c) f s d ≡ frames_with_cell fs f s d
written-again [] f s c d = refl
written-again (x ∷ fs) zero s c d = ap (λ cs. record x { cells = cs } ∷ fs) (set-set x.cells s c d)
written-again (x ∷ fs) (suc f) s c d = ap (λ gs. x ∷ gs) (written-again fs f s c d)

-- writes to two slots can be swapped
written-apart : (fs : List PlainFrame) (f s g t : ℕ) (c d : Cell) → (f ≡ g → s ≡ t → ⊥)
    → frames_with_cell (frames_with_cell fs f s c) g t d ≡ frames_with_cell (frames_with_cell fs g t d) f s c
written-apart [] f s g t c d h = refl
written-apart (x ∷ fs) zero s zero t c d h = ap (λ cs. record x { cells = cs } ∷ fs) (set-apart c d x.cells s t (h refl))
written-apart (x ∷ fs) zero s (suc g) t c d h = refl
written-apart (x ∷ fs) (suc f) s zero t c d h = refl
written-apart (x ∷ fs) (suc f) s (suc g) t c d h = ap (λ gs. x ∷ gs) (written-apart fs f s g t c d (λ e. h (ap suc e)))

-- a change of the carry is one more write
pub frames_with_old_cells-with : (fs : List PlainFrame) (x : Change Cell) (cs : Carry Cell)
    → frames_with_old_cells fs (with_change x cs) ≡ frames_with_cell (frames_with_old_cells fs cs) x.frame x.slot x.cell
frames_with_old_cells-with fs x [] = refl
frames_with_old_cells-with fs x (y ∷ cs) =
    let P : Carry Cell → Type 0 =
    (λ zs. frames_with_old_cells fs zs ≡ frames_with_cell (frames_with_old_cells fs (y ∷ cs)) x.frame x.slot x.cell) in
    let q = is_same_place x.frame x.slot y.frame y.slot in
    if-keeps P (is_before x.frame x.slot y.frame y.slot) (λ _. x ∷ y ∷ cs) (λ _. if_true q (λ _. x ∷ cs) (λ _. y ∷ with_change x cs))
    (λ _. refl)
    (λ _. if-keeps P q (λ _. x ∷ cs) (λ _. y ∷ with_change x cs)
    (λ s. let one = same-place-is x.frame x.slot y.frame y.slot s in
    sym (ap (λ f. frames_with_cell (frames_with_cell (frames_with_old_cells fs cs) f y.slot y.cell) x.frame x.slot x.cell) (sym one.0)
    ∙ (ap (λ t. frames_with_cell (frames_with_cell (frames_with_old_cells fs cs) x.frame t y.cell) x.frame x.slot x.cell) (sym one.1)
    ∙ written-again (frames_with_old_cells fs cs) x.frame x.slot y.cell x.cell)))
    (λ ns. ap (λ gs. frames_with_cell gs y.frame y.slot y.cell) (frames_with_old_cells-with fs x cs)
    ∙ written-apart (frames_with_old_cells fs cs) x.frame x.slot y.frame y.slot x.cell y.cell
    (λ e d. let no : true ≡ false = sym (rw (← e, ← d) (same-itself x.frame x.slot)) ∙ ns in absurd (cc))))

-- a write to one of the first frames
pub take-written : (n : ℕ) (fs : List PlainFrame) (f s : ℕ) (c : Cell)
    → take n (frames_with_cell fs f s c) ≡ frames_with_cell (take n fs) f s c
take-written zero fs f s c = refl
take-written (suc n) [] f s c = refl
take-written (suc n) (x ∷ fs) zero s c = refl
take-written (suc n) (x ∷ fs) (suc f) s c = ap (λ gs. x ∷ gs) (take-written n fs f s c)

-- a write to a frame of the first list
written-left : (xs ys : List PlainFrame) (f s : ℕ) (c : Cell) → f < length xs
    → frames_with_cell (xs ++ ys) f s c ≡ frames_with_cell xs f s c ++ ys
written-left [] ys f s c l = absurd (omega arith)
written-left (x ∷ xs) ys zero s c l = refl
written-left (x ∷ xs) ys (suc f) s c l = ap (λ gs. x ∷ gs) (written-left xs ys f s c (omega arith))

-- a write to a frame of the second list
written-right : (xs ys : List PlainFrame) (f s i : ℕ) (c : Cell) → length xs + i ≡ f
    → frames_with_cell (xs ++ ys) f s c ≡ xs ++ frames_with_cell ys i s c
written-right [] ys f s i c e = let z : f ≡ i = omega (arith, e) in ap (λ g. frames_with_cell ys g s c) z
written-right (x ∷ xs) ys zero s i c e = absurd (omega arith)
written-right (x ∷ xs) ys (suc f) s i c e = ap (λ gs. x ∷ gs) (written-right xs ys f s i c (omega arith))

-- ---- what a note changes

-- the frames that are shared, with their old cells
pub shared-length : (n : ℕ) (now : List PlainFrame) (cs : Carry Cell) → n ≤ length now → length (take n (frames_with_old_cells now cs)) ≡ n
shared-length n now cs l = length-take-le n (frames_with_old_cells now cs) (rw (length-frames_with_old_cells now cs) l)

-- a write to a shared frame
pub wrote-shared : (n : ℕ) (now above : List PlainFrame) (cs cs' : Carry Cell) (x : Change Cell) → n ≤ length now → x.frame < n
    → cs' ≡ with_change x cs →
    take n (frames_with_old_cells now cs') ++ above ≡ frames_with_cell (take n (frames_with_old_cells now cs) ++ above) x.frame x.slot
    x.cell
wrote-shared n now above cs cs' x l lt e =
    let len = shared-length n now cs l in
    ap (λ gs. take n gs ++ above) (ap (frames_with_old_cells now) e ∙ frames_with_old_cells-with now x cs)
    ∙ (ap (λ gs. gs ++ above) (take-written n (frames_with_old_cells now cs) x.frame x.slot x.cell)
    ∙ sym (written-left (take n (frames_with_old_cells now cs)) above x.frame x.slot x.cell (omega (arith, len, lt))))

-- a write to a frame above the shared ones
pub wrote-above : (n : ℕ) (now above above' : List PlainFrame) (cs : Carry Cell) (f s : ℕ) (c : Cell) → n ≤ length now → n ≤ f
    → above' ≡ frames_with_cell above (f - n) s c →
    take n (frames_with_old_cells now cs) ++ above' ≡ frames_with_cell (take n (frames_with_old_cells now cs) ++ above) f s c
wrote-above n now above above' cs f s c l le e =
    let len = shared-length n now cs l in
    let at : length (take n (frames_with_old_cells now cs)) + (f - n) ≡ f = omega (arith, len, le) in
    ap (λ gs. take n (frames_with_old_cells now cs) ++ gs) e
    ∙ sym (written-right (take n (frames_with_old_cells now cs)) above f s (f - n) c at)

-- a frame above the shared ones
pub at-above : (n : ℕ) (now above : List PlainFrame) (cs : Carry Cell) (f : ℕ) → n ≤ length now → n ≤ f →
    get_or (take n (frames_with_old_cells now cs) ++ above) f no_frame ≡ get_or above (f - n) no_frame
at-above n now above cs f l le =
    let len = shared-length n now cs l in
    get_or-append_right (take n (frames_with_old_cells now cs)) above n f no_frame len le

-- no frames on top
none : (fs : List PlainFrame) → fs ≡ fs ++ []
none fs = rw append-nil refl

-- an entry to the last of the shared frames
pub entered-shared : (n : ℕ) (now above above' : List PlainFrame) (cs : Carry Cell) → n ≤ length now → above ≡ [] → above' ≡ [] →
    take (n - 1) (frames_with_old_cells now cs) ++ above' ≡ without_last (take n (frames_with_old_cells now cs) ++ above)
entered-shared n now above above' cs l e e' =
    let len = shared-length n now cs l in
    let less : n - 1 ≤ n = omega arith in
    ap (λ gs. take (n - 1) (frames_with_old_cells now cs) ++ gs) e' ∙ (sym (none (take (n - 1) (frames_with_old_cells now cs)))
    ∙ (sym (take-take-le (n - 1) n (frames_with_old_cells now cs) less) ∙
    (ap (λ k. take (k - 1) (take n (frames_with_old_cells now cs))) (sym len)
    ∙ ap without_last (none (take n (frames_with_old_cells now cs)) ∙ ap (λ gs. take n (frames_with_old_cells now cs) ++ gs) (sym e)))))

-- a frame of before that is not shared is there
pub above-there : (n : ℕ) (now above : List PlainFrame) (cs : Carry Cell) (f : ℕ) → n ≤ length now → n ≤ f →
    f < length (take n (frames_with_old_cells now cs) ++ above) → f - n < length above
above-there n now above cs f l le lt =
    let len = shared-length n now cs l in
    let sum = length-append (take n (frames_with_old_cells now cs)) above in
    omega (arith, len, sum, le, lt)

-- the frame that is read above the shared ones
pub above-read : (n : ℕ) (now above : List PlainFrame) (cs : Carry Cell) (f : ℕ) (g : PlainFrame) → n ≤ length now → n ≤ f →
    f < length (take n (frames_with_old_cells now cs) ++ above) → g ≡ get_or above (f - n) g → g ≡ get_or above (f - n) no_frame
above-read n now above cs f g l le lt e = get_or_read above (f - n) g (above-there n now above cs f l le lt) e no_frame
