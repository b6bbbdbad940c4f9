-- Writes to the top frame, and what they leave of the frames that stand for a store.
use Rattle.std.proofs.Common.{◌≡◌, ◌≢◌, true, ℕ, zero, suc, ◌+◌, ◌-◌, ◌<◌, ◌≤◌, ◌⊎◌, inl, inr, List, [], ◌∷◌, length, get_or, set, Some}
use Rattle.std.proofs.Common.{refl, sym, ap, ◌∙◌, subst, arith, ℤ}
use Rattle.std.specs.Prelude.{slice_get}
use Rattle.std.proofs.lemmas.Bool.{cases_eq, cases_lt}
use Rattle.std.proofs.lemmas.List.{get_or-set_same, get_or-set_other, length-set}
use Rattle.std.proofs.lemmas.Option.{slice_get-get_or, slice_get_within, get_or_from_slice_get}
use Rattle.alma_base.specs.Numbers.{is_integer}
use Rattle.alma_code.specs.declared.cell.Cell.{Cell}
use Rattle.alma_code.specs.declared.cell.Cell.TheVariants as cell
use Rattle.alma_code.specs.declared.cell.SlotKind.{SlotKind}
use Rattle.alma_code.specs.declared.cell.SlotKind.TheVariants as slot
use Rattle.alma_code.specs.declared.cell.CellPlace.{CellPlace}
use Rattle.alma_code.specs.Kinds.{is_number}
use Rattle.alma_code.specs.Carries.{number_at}
use Rattle.alma_code.specs.Picture.{PlainFrame, last_frame, frame_with, frames_with_cell, cell_at}
use Rattle.alma_code.specs.Picture as picture
use Rattle.alma_code.specs.Plain.{PlainCode, kinds_at}
use Rattle.alma_ir.specs.Tree.{Program, routine_at}
use Rattle.alma_mean.specs.Store.{Store, Place, Frame, Unknown, Number, At, with_cell, put, top, top_frame, cell_of}
use Rattle.alma_mean.specs.Store as store
use Rattle.alma_lower_implements.proofs.Frames.{shift, shift_in, own_end, SameContent, HasLink, SameFrame, StandFor, HeldPlace, KeptBelow}
use Rattle.alma_lower_implements.proofs.Frames.{Fits, AreNumbers, SamePlace}
use Rattle.alma_lower_implements.proofs.Steps.{top_written, Holds}

-- ---- the top frame after a write

pub top_is : (now : List PlainFrame) (n : ℕ) (c : Cell) → 1 ≤ length now
    → last_frame (top_written now n c) ≡ frame_with (last_frame now) n c
top_is now n c some =
    ap (λ m. get_or (top_written now n c) (m - 1) picture.no_frame) (length-set now (length now - 1) (frame_with (last_frame now) n c))
    ∙ get_or-set_same now (length now - 1) (frame_with (last_frame now) n c) picture.no_frame (omega arith)

pub count_kept : (now : List PlainFrame) (n : ℕ) (c : Cell) → length (top_written now n c) ≡ length now
count_kept now n c = length-set now (length now - 1) (frame_with (last_frame now) n c)

-- what is written is there
pub holds_written : (now : List PlainFrame) (n : ℕ) (c : Cell) → 1 ≤ length now → n < length (last_frame now).cells
    → Holds (top_written now n c) n c
holds_written now n c some within =
    let longer : n < length (set (last_frame now).cells n c) = omega (arith, length-set (last_frame now).cells n c) in
    ap (λ f. slice_get f.cells n) (top_is now n c some)
    ∙ slice_get-get_or (set (last_frame now).cells n c) n cell.Unset longer
    ∙ ap Some (get_or-set_same (last_frame now).cells n c cell.Unset within)

-- what stands in another slot stays
pub holds_other : (now : List PlainFrame) (n m : ℕ) (c x : Cell) → 1 ≤ length now → m ≢ n → Holds now m x → Holds (top_written now n c) m x
holds_other now n m c x some other h =
    let there : m < length (last_frame now).cells = slice_get_within (last_frame now).cells m x h in
    let longer : m < length (set (last_frame now).cells n c) = omega (arith, length-set (last_frame now).cells n c) in
    ap (λ f. slice_get f.cells m) (top_is now n c some)
    ∙ slice_get-get_or (set (last_frame now).cells n c) m cell.Unset longer
    ∙ ap Some (get_or-set_other (last_frame now).cells n m c cell.Unset other
    ∙ get_or_from_slice_get (last_frame now).cells m x cell.Unset h)

-- ---- a store after a write

pub put_is : (v : Store) (k n : ℕ) (c : store.Cell) → k < length v → put v k n c ≡ set v k (with_cell (get_or v k store.no_frame) n c)
put_is [] k n c lt = absurd (omega arith)
put_is (f ∷ v) zero n c lt = refl
put_is (f ∷ v) (suc k) n c lt = ap (λ z. f ∷ z) (put_is v k n c (omega arith))

-- a write changes the routine of no frame
pub put_routine : (x : Store) (f n : ℕ) (new : store.Cell) → f < length x
    → (top_frame (store.put x f n new)).routine ≡ (top_frame x).routine
put_routine x f n new lt =
    let y = set x f (store.with_cell (get_or x f store.no_frame) n new) in
    let is : store.put x f n new ≡ y = put_is x f n new lt in
    let last : length y - 1 ≡ length x - 1 = ap (λ m. m - 1) (length-set x f (store.with_cell (get_or x f store.no_frame) n new)) in
    ap (λ z. (top_frame z).routine) is ∙ ap (λ m. (get_or y m store.no_frame).routine) last ∙ by (length x - 1) (cases_eq (length x - 1) f)
  where
    by : (k : ℕ) → (k ≡ f) ⊎ (k ≡ f → ⊥) → (get_or (set x f (store.with_cell (get_or x f store.no_frame) n new)) k store.no_frame).routine
        ≡ (get_or x k store.no_frame).routine
    by k (inl e) =
        ap (λ m. (get_or (set x f (store.with_cell (get_or x f store.no_frame) n new)) m store.no_frame).routine) e
        ∙ ap (λ g. g.routine) (get_or-set_same x f (store.with_cell (get_or x f store.no_frame) n new) store.no_frame lt)
        ∙ ap (λ m. (get_or x m store.no_frame).routine) (sym e)
    by k (inr ne) = ap (λ g. g.routine) (get_or-set_other x f k (store.with_cell (get_or x f store.no_frame) n new) store.no_frame ne)

-- a write changes the kinds, the routine and the declared cells of no frame
pub written_frame : (now : List PlainFrame) (f n k : ℕ) (c : Cell) → f < length now
    → ((get_or (frames_with_cell now f n c) k picture.no_frame).kinds ≡ (get_or now k picture.no_frame).kinds)
    × ((get_or (frames_with_cell now f n c) k picture.no_frame).declared ≡ (get_or now k picture.no_frame).declared)
written_frame now f n k c lt = elim (cases_eq k f) [
  | inl e ↦
      let is : get_or (frames_with_cell now f n c) k picture.no_frame ≡ frame_with (get_or now k picture.no_frame) n c =
      ap (λ m. get_or (frames_with_cell now f n c) m picture.no_frame) e
      ∙ get_or-set_same now f (frame_with (get_or now f picture.no_frame) n c) picture.no_frame lt
      ∙ ap (λ m. frame_with (get_or now m picture.no_frame) n c) (sym e) in
      (ap (λ g. g.kinds) is, ap (λ g. g.declared) is)
  | inr ne ↦
      let is : get_or (frames_with_cell now f n c) k picture.no_frame ≡ get_or now k picture.no_frame =
      get_or-set_other now f k (frame_with (get_or now f picture.no_frame) n c) picture.no_frame ne in
      (ap (λ g. g.kinds) is, ap (λ g. g.declared) is)
]

-- a cell that holds a place
abbrev pub HoldsPlace : store.Cell → Type 0
HoldsPlace Unknown = ⊥
HoldsPlace (Number x) = ⊥
HoldsPlace (At q) = Unit {0}

-- a number that is put hides no place
place_put : (v : Store) (f n k i : ℕ) (x : ℤ) (q : Place) → f < length v → n < length (get_or v f store.no_frame).cells
    → get_or (get_or (put v f n (Number x)) k store.no_frame).cells i Unknown ≡ At q
    → get_or (get_or v k store.no_frame).cells i Unknown ≡ At q
place_put v f n k i x q lt there e = by (cases_eq k f) (cases_eq i n)
  where
    g : Frame
    g = with_cell (get_or v f store.no_frame) n (Number x)

    moved : get_or (get_or (set v f g) k store.no_frame).cells i Unknown ≡ At q
    moved = ap (λ z. get_or (get_or z k store.no_frame).cells i Unknown) (sym (put_is v f n (Number x) lt)) ∙ e

    by : (k ≡ f) ⊎ (k ≡ f → ⊥) → (i ≡ n) ⊎ (i ≡ n → ⊥) → get_or (get_or v k store.no_frame).cells i Unknown ≡ At q
    by (inr ne) at = ap (λ h. get_or h.cells i Unknown) (sym (get_or-set_other v f k g store.no_frame ne)) ∙ moved
    by (inl a) (inl b) =
        let is : get_or (get_or (set v f g) k store.no_frame).cells i Unknown ≡ Number x =
        ap (λ m. get_or (get_or (set v f g) m store.no_frame).cells i Unknown) a
        ∙ ap (λ h. get_or h.cells i Unknown) (get_or-set_same v f g store.no_frame lt)
        ∙ ap (λ m. get_or (set (get_or v f store.no_frame).cells n (Number x)) m Unknown) b
        ∙ get_or-set_same (get_or v f store.no_frame).cells n (Number x) Unknown there in
        absurd (subst HoldsPlace (sym moved ∙ is) tt)
    by (inl a) (inr nb) =
        let is : get_or (get_or (set v f g) k store.no_frame).cells i Unknown ≡ get_or (get_or v k store.no_frame).cells i Unknown =
        ap (λ m. get_or (get_or (set v f g) m store.no_frame).cells i Unknown) a
        ∙ ap (λ h. get_or h.cells i Unknown) (get_or-set_same v f g store.no_frame lt)
        ∙ get_or-set_other (get_or v f store.no_frame).cells n i (Number x) Unknown nb
        ∙ ap (λ m. get_or (get_or v m store.no_frame).cells i Unknown) (sym a) in
        sym is ∙ moved

-- and no frame becomes longer
pub put_long : (v : Store) (f n k : ℕ) (c : store.Cell) → f < length v
    → length (get_or (put v f n c) k store.no_frame).cells ≡ length (get_or v k store.no_frame).cells
put_long v f n k c lt = ap (λ z. length (get_or z k store.no_frame).cells) (put_is v f n c lt) ∙ by (cases_eq k f)
  where
    by : (k ≡ f) ⊎ (k ≡ f → ⊥) → length (get_or (set v f (with_cell (get_or v f store.no_frame) n c)) k store.no_frame).cells ≡ length
        (get_or v k store.no_frame).cells
    by (inl e) =
        ap (λ m. length (get_or (set v f (with_cell (get_or v f store.no_frame) n c)) m store.no_frame).cells) e
        ∙ ap (λ h. length h.cells) (get_or-set_same v f (with_cell (get_or v f store.no_frame) n c) store.no_frame lt)
        ∙ length-set (get_or v f store.no_frame).cells n c
        ∙ ap (λ m. length (get_or v m store.no_frame).cells) (sym e)
    by (inr ne) = ap (λ h. length h.cells) (get_or-set_other v f k (with_cell (get_or v f store.no_frame) n c) store.no_frame ne)

module _ (p : Program) where
  -- ---- shifts

  -- a write changes the routine of no frame
  pub put_frame : (v : Store) (f n k : ℕ) (c : store.Cell) → f < length v
      → ((get_or (put v f n c) k store.no_frame).routine ≡ (get_or v k store.no_frame).routine)
      × ((get_or (put v f n c) k store.no_frame).link ≡ (get_or v k store.no_frame).link)
  put_frame v f n k c lt =
      let w = set v f (with_cell (get_or v f store.no_frame) n c) in
      let is : put v f n c ≡ w = put_is v f n c lt in
      subst (λ z. ((get_or z k store.no_frame).routine ≡ (get_or v k store.no_frame).routine)
      × ((get_or z k store.no_frame).link ≡ (get_or v k store.no_frame).link)) (sym is) (by (cases_eq k f))
    where
      by : (k ≡ f) ⊎ (k ≡ f → ⊥)
          → ((get_or (set v f (with_cell (get_or v f store.no_frame) n c)) k store.no_frame).routine ≡ (get_or v k store.no_frame).routine)
          × ((get_or (set v f (with_cell (get_or v f store.no_frame) n c)) k store.no_frame).link ≡ (get_or v k store.no_frame).link)
      by (inl e) =
          let there : get_or (set v f (with_cell (get_or v f store.no_frame) n c)) k store.no_frame ≡ with_cell (get_or v f store.no_frame)
          n c =
          ap (λ m. get_or (set v f (with_cell (get_or v f store.no_frame) n c)) m store.no_frame) e
          ∙ get_or-set_same v f (with_cell (get_or v f store.no_frame) n c) store.no_frame lt in
          let back : get_or v f store.no_frame ≡ get_or v k store.no_frame = ap (λ m. get_or v m store.no_frame) (sym e) in
          (ap (λ g. g.routine) there ∙ ap (λ g. g.routine) back, ap (λ g. g.link) there ∙ ap (λ g. g.link) back)
      by (inr ne) =
          let there : get_or (set v f (with_cell (get_or v f store.no_frame) n c)) k store.no_frame ≡ get_or v k store.no_frame =
          get_or-set_other v f k (with_cell (get_or v f store.no_frame) n c) store.no_frame ne in
          (ap (λ g. g.routine) there, ap (λ g. g.link) there)

  pub put_shift : (v : Store) (f n k : ℕ) (c : store.Cell) → f < length v → shift_in p (put v f n c) k ≡ shift_in p v k
  put_shift v f n k c lt = ap (shift p) (put_frame v f n k c lt).0

  -- a place is the same place where each frame has the shift that it had
  place_moved : (v w : Store) (q : Place) (c : CellPlace) → ((k : ℕ) → shift_in p w k ≡ shift_in p v k) → SamePlace p v q c
      → SamePlace p w q c
  place_moved v w q c same h = record { frame = h.frame; slot = ap (λ n. n + q.slot) (same q.frame) ∙ h.slot; size = h.size }

  pub content_moved : (v w : Store) (kind : SlotKind) (a : store.Cell) (b : Cell) → ((k : ℕ) → shift_in p w k ≡ shift_in p v k)
      → SameContent p v kind a b → SameContent p w kind a b
  content_moved v w slot.Number Unknown cell.Unknown same h = h
  content_moved v w slot.Number Unknown cell.Unset same h = absurd h
  content_moved v w slot.Number Unknown (cell.Int x) same h = absurd h
  content_moved v w slot.Number Unknown (cell.Place x) same h = absurd h
  content_moved v w slot.Number Unknown (cell.Mark x) same h = absurd h
  content_moved v w slot.Number (Number a) (cell.Int b) same h = h
  content_moved v w slot.Number (Number a) cell.Unknown same h = absurd h
  content_moved v w slot.Number (Number a) cell.Unset same h = absurd h
  content_moved v w slot.Number (Number a) (cell.Place x) same h = absurd h
  content_moved v w slot.Number (Number a) (cell.Mark x) same h = absurd h
  content_moved v w slot.Number (At q) b same h = absurd h
  content_moved v w (slot.Place l) Unknown cell.Unset same h = h
  content_moved v w (slot.Place l) Unknown cell.Unknown same h = absurd h
  content_moved v w (slot.Place l) Unknown (cell.Int x) same h = absurd h
  content_moved v w (slot.Place l) Unknown (cell.Place x) same h = absurd h
  content_moved v w (slot.Place l) Unknown (cell.Mark x) same h = absurd h
  content_moved v w (slot.Place l) (Number a) b same h = absurd h
  content_moved v w (slot.Place l) (At q) (cell.Place c) same h = place_moved v w q c same h
  content_moved v w (slot.Place l) (At q) cell.Unknown same h = absurd h
  content_moved v w (slot.Place l) (At q) cell.Unset same h = absurd h
  content_moved v w (slot.Place l) (At q) (cell.Int x) same h = absurd h
  content_moved v w (slot.Place l) (At q) (cell.Mark x) same h = absurd h
  content_moved v w slot.Mark a b same h = absurd h
  content_moved v w (slot.Link r) a b same h = absurd h

module _ (p : Program) (code : PlainCode) where
  -- ---- frames that stand for frames

  same_temp : (v : Store) (f : Frame) (g : PlainFrame) (n : ℕ) (c : Cell) → shift p f.routine + length f.cells ≤ n → SameFrame p code v f g
      → SameFrame p code v f (frame_with g n c)
  same_temp v f g n c behind h = record {
    routine = h.routine;
    kinds = h.kinds;
    full = length-set g.cells n c ∙ h.full;
    slots = h.slots;
    within = omega (arith, h.within, length-set g.cells n c);
    cells = λ i lt. subst (SameContent p v (get_or g.kinds (shift p f.routine + i) slot.Mark) (get_or f.cells i Unknown))
        (sym (get_or-set_other g.cells n (shift p f.routine + i) c cell.Unset (λ e. omega (arith, e, lt, behind)))) (h.cells i lt);
    link = λ some. get_or-set_other g.cells n 0 c cell.Unset (λ e. omega (arith, e, some, behind)) ∙ h.link some;
  }

  -- and where each frame has the shift that it had
  same_moved : (v w : Store) (f : Frame) (g : PlainFrame) → ((k : ℕ) → shift_in p w k ≡ shift_in p v k) → SameFrame p code v f g
      → SameFrame p code w f g
  same_moved v w f g same h = record {
    routine = h.routine;
    kinds = h.kinds;
    full = h.full;
    slots = h.slots;
    within = h.within;
    cells = λ i lt. content_moved p v w (get_or g.kinds (shift p f.routine + i) slot.Mark) (get_or f.cells i Unknown)
        (get_or g.cells (shift p f.routine + i) cell.Unset) same (h.cells i lt);
    link = h.link;
  }

  same_var : (v : Store) (f : Frame) (g : PlainFrame) (n : ℕ) (x : ℤ) → n < length f.cells
      → get_or g.kinds (shift p f.routine + n) slot.Mark ≡ slot.Number → is_integer x ≡ true → SameFrame p code v f g
      → SameFrame p code v (with_cell f n (Number x)) (frame_with g (shift p f.routine + n) (cell.Int x))
  same_var v f g n x there kind fits h = record {
    routine = h.routine;
    kinds = h.kinds;
    full = length-set g.cells (shift p f.routine + n) (cell.Int x) ∙ h.full;
    slots = length-set f.cells n (Number x) ∙ h.slots;
    within = omega (arith, h.within, length-set f.cells n (Number x), length-set g.cells (shift p f.routine + n) (cell.Int x));
    cells = λ i lt. by i (omega (arith, lt, length-set f.cells n (Number x))) (cases_eq i n);
    link = λ some. get_or-set_other g.cells (shift p f.routine + n) 0 (cell.Int x) cell.Unset (λ e. omega (arith, e, some)) ∙ h.link some;
  }
    where
      by : (i : ℕ) → i < length f.cells → (i ≡ n) ⊎ (i ≡ n → ⊥)
          → SameContent p v (get_or g.kinds (shift p f.routine + i) slot.Mark) (get_or (set f.cells n (Number x)) i Unknown)
          (get_or (set g.cells (shift p f.routine + n) (cell.Int x)) (shift p f.routine + i) cell.Unset)
      by i lt (inl e) =
          let left : get_or (set f.cells n (Number x)) i Unknown ≡ Number x = ap (λ m. get_or (set f.cells n (Number x)) m Unknown) e
          ∙ get_or-set_same f.cells n (Number x) Unknown there in
          let right : get_or (set g.cells (shift p f.routine + n) (cell.Int x)) (shift p f.routine + i) cell.Unset ≡ cell.Int x =
          ap (λ m. get_or (set g.cells (shift p f.routine + n) (cell.Int x)) (shift p f.routine + m) cell.Unset) e
          ∙ get_or-set_same g.cells (shift p f.routine + n) (cell.Int x) cell.Unset (omega (arith, h.within, there)) in
          let kind_i : get_or g.kinds (shift p f.routine + i) slot.Mark ≡ slot.Number =
          ap (λ m. get_or g.kinds (shift p f.routine + m) slot.Mark) e ∙ kind in
          let same : SameContent p v slot.Number (Number x) (cell.Int x) = (refl, fits) in
          subst (λ k. SameContent p v k (get_or (set f.cells n (Number x)) i Unknown)
          (get_or (set g.cells (shift p f.routine + n) (cell.Int x)) (shift p f.routine + i) cell.Unset)) (sym kind_i)
          (subst (λ a. SameContent p v slot.Number a
          (get_or (set g.cells (shift p f.routine + n) (cell.Int x)) (shift p f.routine + i) cell.Unset)) (sym left)
          (subst (SameContent p v slot.Number (Number x)) (sym right) same))
      by i lt (inr ne) =
          subst (λ a. SameContent p v (get_or g.kinds (shift p f.routine + i) slot.Mark) a
          (get_or (set g.cells (shift p f.routine + n) (cell.Int x)) (shift p f.routine + i) cell.Unset))
          (sym (get_or-set_other f.cells n i (Number x) Unknown ne))
          (subst (SameContent p v (get_or g.kinds (shift p f.routine + i) slot.Mark) (get_or f.cells i Unknown))
          (sym (get_or-set_other g.cells (shift p f.routine + n) (shift p f.routine + i) (cell.Int x) cell.Unset
          (λ e. ne (omega (arith, e))))) (h.cells i lt))

  -- the first m frames of two stores are of the same routines, as long, and of the same kinds
  pub record FrontAlike (m : ℕ) (v w : Store) (now later : List PlainFrame) : Type 0 where
    pub live : m ≤ length w
    pub routine : (k : ℕ) → k < m → (get_or w k store.no_frame).routine ≡ (get_or v k store.no_frame).routine
    pub long : (k : ℕ) → k < m → length (get_or w k store.no_frame).cells ≡ length (get_or v k store.no_frame).cells
    pub kinds : (k : ℕ) → k < m → (get_or later k picture.no_frame).kinds ≡ (get_or now k picture.no_frame).kinds

  -- numbers of a front are numbers
  pub numbers_moved : (m : ℕ) (v w : Store) (now later : List PlainFrame) (q : Place) → FrontAlike m v w now later → q.frame < m
      → AreNumbers p code v now q → AreNumbers p code w later q
  numbers_moved m v w now later q alike lt h = record {
    frame = omega (arith, lt, alike.live);
    cells = λ k small. omega (arith, h.cells k small, alike.long q.frame lt);
    kinds = λ k small. ap (λ r. get_or (get_or later q.frame picture.no_frame).kinds (shift p r + (q.slot + k)) slot.Mark)
        (alike.routine q.frame lt) ∙ ap (λ ks. get_or ks (shift_in p v q.frame + (q.slot + k)) slot.Mark) (alike.kinds q.frame lt)
        ∙ h.kinds k small;
    free = h.free;
  }

  -- and what a frame of it holds
  pub held_moved : (m : ℕ) (v w : Store) (now later : List PlainFrame) (k i : ℕ) (q : Place) → FrontAlike m v w now later → k < m
      → HeldPlace p code v now k i q → HeldPlace p code w later k i q
  held_moved m v w now later k i q alike lt h = record {
    below = h.below;
    numbers = numbers_moved m v w now later q alike (omega (arith, h.below, lt)) h.numbers;
    size = ap (λ r. get_or (get_or later k picture.no_frame).kinds (shift p r + i) slot.Mark) (alike.routine k lt)
        ∙ ap (λ ks. get_or ks (shift_in p v k + i) slot.Mark) (alike.kinds k lt) ∙ h.size;
  }

  -- ---- frames that stand for a store

  -- the top frame stands for the top frame
  pub top_same : (v : Store) (now : List PlainFrame) → StandFor p code v now → SameFrame p code v (top_frame v) (last_frame now)
  top_same v now h =
      let at : length now - 1 ≡ length v - 1 = ap (λ n. n - 1) h.count in
      subst (λ k. SameFrame p code v (top_frame v) (get_or now k picture.no_frame)) (sym at)
      (h.frames (length v - 1) (omega (arith, h.some)))

  -- a write behind the slots of the routine changes nothing of the store
  pub stand_temp : (v : Store) (now : List PlainFrame) (n : ℕ) (c : Cell) → shift p (top_frame v).routine + length (top_frame v).cells ≤ n
      → StandFor p code v now → StandFor p code v (top_written now n c)
  stand_temp v now n c behind h = record {
    count = count_kept now n c ∙ h.count;
    some = h.some;
    frames = λ k lt. by k lt (cases_eq k (length now - 1));
    links = h.links;
    declared = λ k lt. (written_frame now (length now - 1) n k c some_now).1 ∙ h.declared k lt;
    places = λ k i q lt e. held_moved (length v) v v now (top_written now n c) k i q
        (record {
          live = omega arith;
          routine = λ j a. refl;
          long = λ j a. refl;
          kinds =
              λ j a. (written_frame now (length now - 1) n j c some_now).0;
        }) lt (h.places k i q lt e);
    routines = h.routines;
    main = h.main;
  }
    where
      some_now : length now - 1 < length now
      some_now = omega (arith, h.count, h.some)

      at : length now - 1 ≡ length v - 1
      at = ap (λ m. m - 1) h.count

      by : (k : ℕ) → k < length v → (k ≡ length now - 1) ⊎ (k ≡ length now - 1 → ⊥)
          → SameFrame p code v (get_or v k store.no_frame) (get_or (top_written now n c) k picture.no_frame)
      by k lt (inl e) =
          let there : length now - 1 < length now = omega (arith, h.count, h.some) in
          let is : get_or (top_written now n c) k picture.no_frame ≡ frame_with (last_frame now) n c =
          ap (λ m. get_or (top_written now n c) m picture.no_frame) e
          ∙ get_or-set_same now (length now - 1) (frame_with (last_frame now) n c) picture.no_frame there in
          let of_top : get_or v k store.no_frame ≡ top_frame v = ap (λ m. get_or v m store.no_frame) (e ∙ at) in
          subst (λ f. SameFrame p code v f (get_or (top_written now n c) k picture.no_frame)) (sym of_top)
          (subst (SameFrame p code v (top_frame v)) (sym is) (same_temp v (top_frame v) (last_frame now) n c behind (top_same v now h)))
      by k lt (inr ne) =
          subst (SameFrame p code v (get_or v k store.no_frame))
          (sym (get_or-set_other now (length now - 1) k (frame_with (last_frame now) n c) picture.no_frame ne)) (h.frames k lt)

  -- a number that is stored in a number slot of a frame is stored in the store
  pub stand_put : (v : Store) (now : List PlainFrame) (f n : ℕ) (x : ℤ) → f < length v → n < length (get_or v f store.no_frame).cells
      → get_or (get_or now f picture.no_frame).kinds (shift_in p v f + n) slot.Mark ≡ slot.Number → is_integer x ≡ true
      → StandFor p code v now → StandFor p code (put v f n (Number x)) (frames_with_cell now f (shift_in p v f + n) (cell.Int x))
  stand_put v now f n x live there kind fits h = record {
    count = length-set now f (frame_with (get_or now f picture.no_frame) (shift_in p v f + n) (cell.Int x)) ∙ h.count ∙ sym long;
    some = omega (arith, h.some, long);
    frames = λ k lt. same_moved v (put v f n (Number x)) (get_or (put v f n (Number x)) k store.no_frame)
        (get_or (frames_with_cell now f (shift_in p v f + n) (cell.Int x)) k picture.no_frame) (λ j. put_shift p v f n j (Number x) live)
        (subst (λ z. SameFrame p code v (get_or z k store.no_frame)
        (get_or (frames_with_cell now f (shift_in p v f + n) (cell.Int x)) k picture.no_frame)) (sym is)
        (by k (omega (arith, lt, long)) (cases_eq k f)));
    links = λ k lt some. moved_link k (omega (arith, lt, long)) some;
    declared = λ k lt. (written_frame now f (shift_in p v f + n) k (cell.Int x) live_now).1 ∙ h.declared k (omega (arith, lt, long))
        ∙ ap (λ r. (routine_at p r).declared) (sym (put_frame p v f n k (Number x) live).0);
    places = λ k i q lt e. held_moved (length v) v (put v f n (Number x)) now (frames_with_cell now f (shift_in p v f + n) (cell.Int x)) k i
        q
        (record {
          live = omega (arith, long);
          routine = λ j a. (put_frame p v f n j (Number x) live).0;
          long = λ j a. put_long v f n j (Number x) live;
          kinds = λ j a. (written_frame now f (shift_in p v f + n) j (cell.Int x) live_now).0;
        }) (omega (arith, lt, long)) (h.places k i q (omega (arith, lt, long)) (place_put v f n k i x q live there e));
    routines = λ k lt. omega (arith, h.routines k (omega (arith, lt, long)), (put_frame p v f n k (Number x) live).0);
    main = (put_frame p v f n 0 (Number x) live).0 ∙ h.main;
  }
    where
      live_now : f < length now
      live_now = omega (arith, live, h.count)

      is : put v f n (Number x) ≡ set v f (with_cell (get_or v f store.no_frame) n (Number x))
      is = put_is v f n (Number x) live

      long : length (put v f n (Number x)) ≡ length v
      long = ap length is ∙ length-set v f (with_cell (get_or v f store.no_frame) n (Number x))

      moved_link : (k : ℕ) → k < length v → 1 ≤ k → HasLink p (put v f n (Number x)) k (get_or (put v f n (Number x)) k store.no_frame)
      moved_link k lt some =
          let was = h.links k lt some in
          let frame = put_frame p v f n k (Number x) live in
          record {
            below = omega (arith, was.below, frame.1);
            outer = ap (λ m. (get_or (put v f n (Number x)) m store.no_frame).routine) frame.1
                ∙ (put_frame p v f n (get_or v k store.no_frame).link (Number x) live).0 ∙ was.outer
                ∙ ap (λ r. (routine_at p r).outer) (sym frame.0);
          }

      by : (k : ℕ) → k < length v → (k ≡ f) ⊎ (k ≡ f → ⊥)
          → SameFrame p code v (get_or (set v f (with_cell (get_or v f store.no_frame) n (Number x))) k store.no_frame)
          (get_or (frames_with_cell now f (shift_in p v f + n) (cell.Int x)) k picture.no_frame)
      by k lt (inl e) =
          let right : get_or (frames_with_cell now f (shift_in p v f + n) (cell.Int x)) k picture.no_frame ≡ frame_with
          (get_or now f picture.no_frame) (shift_in p v f + n) (cell.Int x) =
          ap (λ m. get_or (frames_with_cell now f (shift_in p v f + n) (cell.Int x)) m picture.no_frame) e
          ∙ get_or-set_same now f (frame_with (get_or now f picture.no_frame) (shift_in p v f + n) (cell.Int x)) picture.no_frame
          (omega (arith, live, h.count)) in
          let left : get_or (set v f (with_cell (get_or v f store.no_frame) n (Number x))) k store.no_frame ≡ with_cell
          (get_or v f store.no_frame) n (Number x) =
          ap (λ m. get_or (set v f (with_cell (get_or v f store.no_frame) n (Number x))) m store.no_frame) e
          ∙ get_or-set_same v f (with_cell (get_or v f store.no_frame) n (Number x)) store.no_frame live in
          subst (λ g. SameFrame p code v g (get_or (frames_with_cell now f (shift_in p v f + n) (cell.Int x)) k picture.no_frame))
          (sym left)
          (subst (SameFrame p code v (with_cell (get_or v f store.no_frame) n (Number x))) (sym right)
          (same_var v (get_or v f store.no_frame) (get_or now f picture.no_frame) n x there kind fits (h.frames f live)))
      by k lt (inr ne) =
          subst (λ g. SameFrame p code v g (get_or (frames_with_cell now f (shift_in p v f + n) (cell.Int x)) k picture.no_frame))
          (sym (get_or-set_other v f k (with_cell (get_or v f store.no_frame) n (Number x)) store.no_frame ne))
          (subst (SameFrame p code v (get_or v k store.no_frame))
          (sym (get_or-set_other now f k (frame_with (get_or now f picture.no_frame) (shift_in p v f + n) (cell.Int x)) picture.no_frame
          ne)) (h.frames k lt))

  -- ---- where a phrase leaves the frames

  kept_self : (lo : ℕ) (g : PlainFrame) → KeptBelow p code lo g g
  kept_self lo g = record {
    back = refl;
    routine = refl;
    declared = refl;
    long = refl;
    link = λ i a. refl;
    cells = λ i a b. refl;
    kinds =
        refl;
    places = λ i l e a. refl;
  }

  kept_on : (lo lo' : ℕ) (g g' g'' : PlainFrame) → lo ≤ lo' → KeptBelow p code lo g g' → KeptBelow p code lo' g' g''
      → KeptBelow p code lo g g''
  kept_on lo lo' g g' g'' le h k = record {
    back = k.back ∙ h.back;
    routine = k.routine ∙ h.routine;
    declared = k.declared ∙ h.declared;
    long = k.long ∙ h.long;
    link = λ i a. k.link i (subst (λ r. i < shift p r) (sym h.routine) a) ∙ h.link i a;
    cells = λ i a b. k.cells i (subst (λ r. own_end p r ≤ i) (sym h.routine) a) (omega arith) ∙ h.cells i a b;
    kinds = k.kinds ∙ h.kinds;
    places = λ i l e a. k.places i l (ap (λ ks. get_or ks i slot.Mark) h.kinds ∙ e) (subst (λ r. i < own_end p r) (sym h.routine) a)
        ∙ h.places i l e a;
  }

  -- a phrase that has done nothing yet
  pub fits_self : (lo : ℕ) (v : Store) (now : List PlainFrame) → StandFor p code v now → Fits p code lo now v now
  fits_self lo v now h = record {
    stand = h;
    same_count = refl;
    top = kept_self lo (last_frame now);
    others = λ k lt. kept_self _ (get_or now k picture.no_frame);
  }

  -- one phrase after another
  pub fits_on : (lo lo' : ℕ) (v v' : Store) (before now later : List PlainFrame) → lo ≤ lo' → Fits p code lo before v now
      → Fits p code lo' now v' later → Fits p code lo before v' later
  fits_on lo lo' v v' before now later le h k = record {
    stand = k.stand;
    same_count = k.same_count ∙ h.same_count;
    top = kept_on lo lo' (last_frame before) (last_frame now) (last_frame later) le h.top k.top;
    others = λ i lt.
        let first = h.others i (omega (arith, lt, k.same_count)) in
        kept_on (length (get_or before i picture.no_frame).cells) (length (get_or now i picture.no_frame).cells)
        (get_or before i picture.no_frame) (get_or now i picture.no_frame) (get_or later i picture.no_frame)
        (omega (arith, first.long)) first (k.others i lt);
  }

  -- the same with fewer slots that are kept
  pub fits_less : (lo lo' : ℕ) (v : Store) (before now : List PlainFrame) → lo ≤ lo' → Fits p code lo' before v now
      → Fits p code lo before v now
  fits_less lo lo' v before now le h = record {
    stand = h.stand;
    same_count = h.same_count;
    top = record {
      back = h.top.back;
      routine = h.top.routine;
      declared = h.top.declared;
      long = h.top.long;
      link = h.top.link;
      cells =
          λ i a b. h.top.cells i a (omega arith);
      kinds = h.top.kinds;
      places = h.top.places;
    };
    others = h.others;
  }

  others_kept : (now : List PlainFrame) (n i : ℕ) (c : Cell) → suc i < length (top_written now n c)
      → KeptBelow p code (length (get_or now i picture.no_frame).cells) (get_or now i picture.no_frame)
      (get_or (top_written now n c) i picture.no_frame)
  others_kept now n i c lt =
      let below : i ≡ length now - 1 → ⊥ = λ e. omega (arith, e, lt, count_kept now n c) in
      subst (KeptBelow p code (length (get_or now i picture.no_frame).cells) (get_or now i picture.no_frame))
      (sym (get_or-set_other now (length now - 1) i (frame_with (last_frame now) n c) picture.no_frame below))
      (kept_self _ (get_or now i picture.no_frame))

  -- the frame on top has as many cells in the store as its routine has slots
  slots_are : (v : Store) (now : List PlainFrame) → StandFor p code v now
      → length (top_frame v).cells ≡ (routine_at p (last_frame now).routine).slots
  slots_are v now h = let same = top_same v now h in same.slots ∙ ap (λ r. (routine_at p r).slots) same.routine

  -- a write to a slot of the phrase
  pub fits_temp : (lo : ℕ) (v : Store) (now : List PlainFrame) (n : ℕ) (c : Cell) → lo ≤ n
      → shift p (top_frame v).routine + length (top_frame v).cells ≤ n → StandFor p code v now → Fits p code lo now v (top_written now n c)
  fits_temp lo v now n c le behind h = record {
    stand = stand_temp v now n c behind h;
    same_count = count_kept now n c;
    top = subst (KeptBelow p code lo (last_frame now)) (sym (top_is now n c (omega (arith, h.some, h.count)))) (record {
      back = refl;
      routine = refl;
      declared = refl;
      long = length-set (last_frame now).cells n c;
      link = λ i a. get_or-set_other (last_frame now).cells n i c cell.Unset
          (λ e. omega (arith, e, a, behind, ap (shift p) (top_same v now h).routine));
      cells = λ i a b. get_or-set_other (last_frame now).cells n i c cell.Unset (λ e. omega (arith, e));
      kinds = refl;
      places = λ i l e a. get_or-set_other (last_frame now).cells n i c cell.Unset
          (λ z. omega (arith, z, a, behind, slots_are v now h, ap (shift p) (top_same v now h).routine));
    });
    others = λ i lt. others_kept now n i c lt;
  }

  -- a frame after a number was stored in one of the slots of its routine
  abbrev IsNumberKind : SlotKind → Type 0
  IsNumberKind slot.Number = Unit {0}
  IsNumberKind (slot.Place l) = ⊥
  IsNumberKind slot.Mark = ⊥
  IsNumberKind (slot.Link r) = ⊥

  kept_put : (v : Store) (lo : ℕ) (f : Frame) (g : PlainFrame) (n : ℕ) (c : Cell) → n < length f.cells
      → get_or g.kinds (shift p f.routine + n) slot.Mark ≡ slot.Number → SameFrame p code v f g
      → KeptBelow p code lo g (frame_with g (shift p f.routine + n) c)
  kept_put v lo f g n c there kind same =
      let shifts : shift p f.routine ≡ shift p g.routine = ap (shift p) same.routine in
      let slots : length f.cells ≡ (routine_at p g.routine).slots = same.slots ∙ ap (λ r. (routine_at p r).slots) same.routine in
      record {
        back = refl;
        routine = refl;
        declared = refl;
        long = length-set g.cells (shift p f.routine + n) c;
        link = λ i a. get_or-set_other g.cells (shift p f.routine + n) i c cell.Unset (λ e. omega (arith, e, a, shifts));
        cells = λ i a b. get_or-set_other g.cells (shift p f.routine + n) i c cell.Unset (λ e. omega (arith, e, a, there, slots, shifts));
        kinds = refl;
        places = λ i l is a. get_or-set_other g.cells (shift p f.routine + n) i c cell.Unset
            (λ e. subst IsNumberKind (sym kind ∙ ap (λ m. get_or g.kinds m slot.Mark) (sym e) ∙ is) tt);
      }

  -- a number stored in a slot of a routine
  pub fits_put : (lo : ℕ) (v : Store) (now : List PlainFrame) (f n : ℕ) (x : ℤ) → f < length v
      → n < length (get_or v f store.no_frame).cells
      → get_or (get_or now f picture.no_frame).kinds (shift_in p v f + n) slot.Mark ≡ slot.Number → is_integer x ≡ true
      → StandFor p code v now → Fits p code lo now (put v f n (Number x)) (frames_with_cell now f (shift_in p v f + n) (cell.Int x))
  fits_put lo v now f n x live there kind integer h = record {
    stand = stand_put v now f n x live there kind integer h;
    same_count = long;
    top = ap_top;
    others = λ k lt. at k (length (get_or now k picture.no_frame).cells) (cases_eq k f);
  }
    where
      long : length (frames_with_cell now f (shift_in p v f + n) (cell.Int x)) ≡ length now
      long = length-set now f (frame_with (get_or now f picture.no_frame) (shift_in p v f + n) (cell.Int x))

      at : (k lo2 : ℕ) → (k ≡ f) ⊎ (k ≡ f → ⊥)
          → KeptBelow p code lo2 (get_or now k picture.no_frame)
          (get_or (frames_with_cell now f (shift_in p v f + n) (cell.Int x)) k picture.no_frame)
      at k lo2 (inl e) =
          let is : get_or (frames_with_cell now f (shift_in p v f + n) (cell.Int x)) k picture.no_frame ≡ frame_with
          (get_or now k picture.no_frame) (shift_in p v k + n) (cell.Int x) =
          ap (λ m. get_or (frames_with_cell now f (shift_in p v f + n) (cell.Int x)) m picture.no_frame) e
          ∙ get_or-set_same now f (frame_with (get_or now f picture.no_frame) (shift_in p v f + n) (cell.Int x)) picture.no_frame
          (omega (arith, live, h.count))
          ∙ ap (λ m. frame_with (get_or now m picture.no_frame) (shift_in p v m + n) (cell.Int x)) (sym e) in
          let here : n < length (get_or v k store.no_frame).cells =
          subst (λ m. n < length (get_or v m store.no_frame).cells) (sym e) there in
          subst (KeptBelow p code lo2 (get_or now k picture.no_frame)) (sym is)
          (kept_put v lo2 (get_or v k store.no_frame) (get_or now k picture.no_frame) n (cell.Int x) here
          (subst (λ m. get_or (get_or now m picture.no_frame).kinds (shift_in p v m + n) slot.Mark ≡ slot.Number) (sym e) kind)
          (h.frames k (omega (arith, e, live))))
      at k lo2 (inr ne) =
          subst (KeptBelow p code lo2 (get_or now k picture.no_frame))
          (sym (get_or-set_other now f k (frame_with (get_or now f picture.no_frame) (shift_in p v f + n) (cell.Int x)) picture.no_frame
          ne))
          (kept_self lo2 (get_or now k picture.no_frame))

      ap_top : KeptBelow p code lo (last_frame now) (last_frame (frames_with_cell now f (shift_in p v f + n) (cell.Int x)))
      ap_top =
          let last : length (frames_with_cell now f (shift_in p v f + n) (cell.Int x)) - 1 ≡ length now - 1 = ap (λ m. m - 1) long in
          subst (λ m. KeptBelow p code lo (last_frame now)
          (get_or (frames_with_cell now f (shift_in p v f + n) (cell.Int x)) m picture.no_frame)) (sym last)
          (at (length now - 1) lo (cases_eq (length now - 1) f))

  -- ---- places

  -- each frame is of the routine that it was of, and has the kinds that it had
  pub frame_routine : (lo k : ℕ) (v v' : Store) (now later : List PlainFrame) → k < length v → StandFor p code v now
      → Fits p code lo now v' later
      → (get_or later k picture.no_frame).routine ≡ (get_or now k picture.no_frame).routine
  frame_routine lo k v v' now later lt h fit = by (cases_lt (suc k) (length later))
    where
      by : (suc k < length later) ⊎ (length later ≤ suc k)
          → (get_or later k picture.no_frame).routine ≡ (get_or now k picture.no_frame).routine
      by (inl below) = (fit.others k below).routine
      by (inr last) =
          let at_later : length later - 1 ≡ k = omega (arith, last, lt, h.count, fit.same_count) in
          let at_now : length now - 1 ≡ k = omega (arith, last, lt, h.count, fit.same_count) in
          ap (λ m. (get_or later m picture.no_frame).routine) (sym at_later) ∙ fit.top.routine
          ∙ ap (λ m. (get_or now m picture.no_frame).routine) at_now

  -- numbers stay numbers
  pub numbers_kept : (lo : ℕ) (q : Place) (v v' : Store) (now later : List PlainFrame) → StandFor p code v now → Fits p code lo now v' later
      → AreNumbers p code v now q → AreNumbers p code v' later q
  numbers_kept lo q v v' now later h fit numbers = record {
    frame = omega (arith, numbers.frame, h.count, fit.same_count, fit.stand.count);
    cells = λ k lt. there k lt;
    kinds = λ k lt. ap (λ n. get_or (get_or later q.frame picture.no_frame).kinds (n + (q.slot + k)) slot.Mark) same_shift
        ∙ ap (λ ks. get_or ks (shift_in p v q.frame + (q.slot + k)) slot.Mark) same_kinds ∙ numbers.kinds k lt;
    free = numbers.free;
  }
    where
      in_later : q.frame < length v'
      in_later = omega (arith, numbers.frame, h.count, fit.same_count, fit.stand.count)

      same_routine : (get_or later q.frame picture.no_frame).routine ≡ (get_or now q.frame picture.no_frame).routine
      same_routine = frame_routine lo q.frame v v' now later numbers.frame h fit

      same_kinds : (get_or later q.frame picture.no_frame).kinds ≡ (get_or now q.frame picture.no_frame).kinds
      same_kinds = (fit.stand.frames q.frame in_later).kinds ∙ ap (kinds_at code) same_routine ∙ sym (h.frames q.frame numbers.frame).kinds

      same_slots : length (get_or v' q.frame store.no_frame).cells ≡ length (get_or v q.frame store.no_frame).cells
      same_slots =
          (fit.stand.frames q.frame in_later).slots
          ∙ ap (λ r. (routine_at p r).slots) ((fit.stand.frames q.frame in_later).routine ∙ same_routine
          ∙ sym (h.frames q.frame numbers.frame).routine)
          ∙ sym (h.frames q.frame numbers.frame).slots

      same_shift : shift_in p v' q.frame ≡ shift_in p v q.frame
      same_shift = ap (shift p) ((fit.stand.frames q.frame in_later).routine ∙ same_routine ∙ sym (h.frames q.frame numbers.frame).routine)

      there : (k : ℕ) → k < q.size → q.slot + k < length (get_or v' q.frame store.no_frame).cells
      there k lt = omega (arith, numbers.cells k lt, same_slots)

  -- a place stays the same place after a phrase
  pub place_kept : (lo : ℕ) (q : Place) (c : CellPlace) (v v' : Store) (now later : List PlainFrame) → q.frame < length v
      → StandFor p code v now → Fits p code lo now v' later → SamePlace p v q c → SamePlace p v' q c
  place_kept lo q c v v' now later lt h fit same =
      let in_later : q.frame < length v' = omega (arith, lt, h.count, fit.same_count, fit.stand.count) in
      let shifts : shift_in p v' q.frame ≡ shift_in p v q.frame =
      ap (shift p) ((fit.stand.frames q.frame in_later).routine ∙ frame_routine lo q.frame v v' now later lt h fit
      ∙ sym (h.frames q.frame lt).routine) in
      record { frame = same.frame; slot = ap (λ n. n + q.slot) shifts ∙ same.slot; size = same.size }

  -- what is at a place of one cell
  pub content_there : (v : Store) (now : List PlainFrame) (q : Place) (c : CellPlace) → StandFor p code v now → AreNumbers p code v now q
      → 0 < q.size → SamePlace p v q c
      → (number_at now c.frame c.slot ≡ true) × SameContent p v slot.Number (cell_of v q) (cell_at now c.frame c.slot cell.Unset)
  content_there v now q c h numbers some same =
      let sh = shift_in p v q.frame in
      let at : sh + (q.slot + 0) ≡ sh + q.slot = omega arith in
      let frame = h.frames q.frame numbers.frame in
      let there : q.slot < length (get_or v q.frame store.no_frame).cells = omega (arith, numbers.cells 0 some) in
      let kind : get_or (get_or now q.frame picture.no_frame).kinds (sh + q.slot) slot.Mark ≡ slot.Number =
      ap (λ n. get_or (get_or now q.frame picture.no_frame).kinds n slot.Mark) (sym at) ∙ numbers.kinds 0 some in
      let kinds_long : sh + q.slot < length (get_or now q.frame picture.no_frame).kinds = omega (arith, there, frame.within, frame.full) in
      let found : number_at now q.frame (sh + q.slot) ≡ true =
      ap is_number (slice_get-get_or (get_or now q.frame picture.no_frame).kinds (sh + q.slot) slot.Mark kinds_long ∙ ap Some kind) in
      let content : SameContent p v slot.Number (cell_of v q) (cell_at now q.frame (sh + q.slot) cell.Unset) =
      subst (λ k. SameContent p v k (cell_of v q) (cell_at now q.frame (sh + q.slot) cell.Unset)) kind (frame.cells q.slot there) in (
        ap (λ f. number_at now f c.slot) (sym same.frame) ∙ ap (number_at now q.frame) (sym same.slot) ∙ found,
        subst (λ f. SameContent p v slot.Number (cell_of v q) (cell_at now f c.slot cell.Unset)) same.frame
            (subst (λ n. SameContent p v slot.Number (cell_of v q) (cell_at now q.frame n cell.Unset)) same.slot content),
      )
