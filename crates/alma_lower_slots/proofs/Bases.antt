-- What keeps that frames have bases: writes, frames that come and go, and entries that come and fall.
use Rattle.std.proofs.Common.{◌≡◌, ℕ, zero, suc, ◌+◌, ◌-◌, ◌<◌, ◌≤◌, inl, inr, List, [], ◌∷◌, ◌++◌, length, get_or, set, take, refl, sym}
use Rattle.std.proofs.Common.{ap, ◌∙◌, subst, arith, Some, get_or-set_same, get_or-set_other, length-set}
use Rattle.std.specs.Prelude.{slice_get, Bool, true, false, if◌then◌else◌, nat_lt}
use Rattle.std.proofs.lemmas.Bool.{cases_eq, cases_lt, lt-ltb, ltb-true}
use Rattle.std.proofs.lemmas.List.{length-append, length-take-le, get_or-take}
use Rattle.std.proofs.Math.ListN.{get_or-append}
use Rattle.std.proofs.Math.Seq.{get_or-append_seam}
use Rattle.alma_base.specs.Carry.{Change, Carry}
use Rattle.alma_code.specs.Carries.{number_at, frames_with_change, frames_with_carry}
use Rattle.alma_code.specs.declared.cell.Cell.{Cell}
use Rattle.alma_code.specs.declared.cell.Cell.TheVariants as cell
use Rattle.alma_code.specs.Fits.{IsContent, AllFit}
use Rattle.alma_code.specs.Machine.{State, with_cell}
use Rattle.alma_code.specs.Picture.{PlainFrame, PlainEntry, no_frame, no_entry, frame_with, frames_with_cell}
use Rattle.alma_code.specs.Plain.{PlainCode}
use Rattle.alma_lower_slots.proofs.Based.{HasFrame, HasFrames, IsBody, BasedBy, BasedIn}

-- the cell is no mark
abbrev pub NoMark : Cell → Type 0
NoMark c = (m : ℕ) → c ≡ cell.Mark m → ⊥

-- none of the cells is
abbrev pub NoMarks : List Cell → Type 0
NoMarks cs = (i m : ℕ) → slice_get cs i ≡ Some (cell.Mark m) → ⊥

-- a number or an unknown one is none
pub content_no_mark : (c : Cell) → IsContent c → NoMark c
content_no_mark c h m e = subst IsContent e h

-- a mark after a write was there before, or it was written
mark_written : (P : ℕ → ℕ → Type 0) (xs : List Cell) (n : ℕ) (c : Cell) → ((i m : ℕ) → slice_get xs i ≡ Some (cell.Mark m) → P i m)
    → ((m : ℕ) → c ≡ cell.Mark m → P n m) → (i m : ℕ) → slice_get (set xs n c) i ≡ Some (cell.Mark m) → P i m
mark_written P [] n c h g i m e = absurd (cc)
mark_written P (x ∷ xs) zero c h g zero m e = g m (cc)
mark_written P (x ∷ xs) zero c h g (suc i) m e = h (suc i) m e
mark_written P (x ∷ xs) (suc n) c h g zero m e = h zero m e
mark_written P (x ∷ xs) (suc n) c h g (suc i) m e = mark_written (λ j. P (suc j)) xs n c (λ j. h (suc j)) g i m e

-- each frame is among the same frames
pub has_self : (frames : List PlainFrame) → HasFrames frames frames
has_self frames f lf = record { there = lf; same = refl }

module _ (code : PlainCode) where
  -- ---- frames

  -- what is known of a mark in slot n of a frame of routine r, where b is the base of the frame
  record IsMark (b r n m : ℕ) : Type 0 where
    pub above : b ≤ m
    pub body : IsBody code r n → b < m

  -- frames of the same routines, of which the marks are known too
  based_again : (base : ℕ → ℕ) (frames others : List PlainFrame) (held : List PlainEntry) → BasedBy code base frames held
      → length others ≡ length frames
      → ((f : ℕ) → f < length frames → (get_or others f no_frame).routine ≡ (get_or frames f no_frame).routine)
      → ((f n m : ℕ) → f < length frames → slice_get (get_or others f no_frame).cells n ≡ Some (cell.Mark m)
      → IsMark (base f) (get_or frames f no_frame).routine n m)
      → BasedBy code base others held
  based_again base frames others held h count routine marks = record {
    rise = λ f g le lg. h.rise f g le (omega arith);
    low = λ f lf. h.low f (omega arith);
    has = λ f k lf lk le.
        let lt : f < length frames = omega arith in
        let old = h.has f k lt lk le in
        record { there = old.there; same = old.same ∙ sym (routine f lt) };
    marks = λ f n m lf e. (marks f n m (omega arith) e).above;
    bodies = λ f n m lf e body.
        let lt : f < length frames = omega arith in
        (marks f n m lt e).body (subst (λ r. IsBody code r n) (routine f lt) body);
  }

  -- a cell is written: if it is a mark, one that may be there
  pub based_written : (base : ℕ → ℕ) (frames : List PlainFrame) (held : List PlainEntry) (f i : ℕ) (c : Cell)
      → BasedBy code base frames held
      → ((m : ℕ) → c ≡ cell.Mark m → (base f ≤ m) × (IsBody code (get_or frames f no_frame).routine i → base f < m))
      → BasedBy code base (frames_with_cell frames f i c) held
  based_written base frames held f i c h mark =
      let old : PlainFrame = get_or frames f no_frame in
      let now : List PlainFrame = frames_with_cell frames f i c in
      let count : length now ≡ length frames = length-set frames f (frame_with old i c) in
      let same : f < length frames → get_or now f no_frame ≡ frame_with old i c =
      λ lf. get_or-set_same frames f (frame_with old i c) no_frame lf in
      based_again base frames now held h count
      (λ g lg. elim (cases_eq g f) [
        | inl q ↦
            let lf : f < length frames = omega arith in
            subst (λ k. (get_or now k no_frame).routine ≡ (get_or frames k no_frame).routine) (sym q) (ap (λ x. x.routine) (same lf))
        | inr ne ↦ ap (λ x. x.routine) (get_or-set_other frames f g (frame_with old i c) no_frame ne)
      ])
      (λ g n m lg e. elim (cases_eq g f) [
        | inl q ↦
            let lf : f < length frames = omega arith in
            let there : slice_get (set old.cells i c) n ≡ Some (cell.Mark m) =
            subst (λ x. slice_get x.cells n ≡ Some (cell.Mark m)) (ap (λ k. get_or now k no_frame) q ∙ same lf) e in
            subst (λ k. IsMark (base k) (get_or frames k no_frame).routine n m) (sym q)
            (mark_written (λ j p. IsMark (base f) old.routine j p) old.cells i c
            (λ j p ej. record { above = h.marks f j p lf ej; body = h.bodies f j p lf ej })
            (λ p ep. record { above = (mark p ep).0; body = (mark p ep).1 }) n m there)
        | inr ne ↦
            let there = subst (λ x. slice_get x.cells n ≡ Some (cell.Mark m))
            (get_or-set_other frames f g (frame_with old i c) no_frame ne) e in
            record { above = h.marks g n m lg there; body = h.bodies g n m lg there }
      ])

  -- a cell is written that is no mark
  pub based_plain : (base : ℕ → ℕ) (frames : List PlainFrame) (held : List PlainEntry) (f i : ℕ) (c : Cell)
      → BasedBy code base frames held → NoMark c → BasedBy code base (frames_with_cell frames f i c) held
  based_plain base frames held f i c h none = based_written base frames held f i c h (λ m e. absurd (none m e))

  -- a change is laid over the frames
  laid_based : (base : ℕ → ℕ) (frames : List PlainFrame) (held : List PlainEntry) (x : Change Cell) → IsContent x.cell
      → BasedBy code base frames held → BasedBy code base (frames_with_change frames x) held
  laid_based base frames held x content h =
      let laid : (b : Bool) → BasedBy code base (if b then frames_with_cell frames x.frame x.slot x.cell else frames) held =
      λ b. elim b as (λ b. BasedBy code base (if b then frames_with_cell frames x.frame x.slot x.cell else frames) held) [
        | true ↦ based_plain base frames held x.frame x.slot x.cell h (content_no_mark x.cell content)
        | false ↦ h
      ] in
      laid (number_at frames x.frame x.slot)

  -- a carry is
  pub based_carried : (base : ℕ → ℕ) (xs : Carry Cell) (frames : List PlainFrame) (held : List PlainEntry) → AllFit code xs
      → BasedBy code base frames held → BasedBy code base (frames_with_carry frames xs) held
  based_carried base [] frames held fit h = h
  based_carried base (x ∷ xs) frames held fit h =
      based_carried base xs (frames_with_change frames x) held fit.1 (laid_based base frames held x fit.0.content h)

  -- frames are left
  pub based_left : (base : ℕ → ℕ) (n : ℕ) (frames : List PlainFrame) (held : List PlainEntry) → n ≤ length frames
      → BasedBy code base frames held → BasedBy code base (take n frames) held
  based_left base n frames held few h =
      let len : length (take n frames) ≡ n = length-take-le n frames few in
      let same : (f : ℕ) → f < length (take n frames) → get_or (take n frames) f no_frame ≡ get_or frames f no_frame =
      λ f lf. get_or-take n frames f no_frame (omega arith) in
      record {
        rise = λ f g le lg. h.rise f g le (omega arith);
        low = λ f lf. h.low f (omega arith);
        has = λ f k lf lk lh.
            let old = h.has f k (omega arith) lk lh in
            record { there = old.there; same = old.same ∙ sym (ap (λ x. x.routine) (same f lf)) };
        marks = λ f m v lf e. h.marks f m v (omega arith) (subst (λ x. slice_get x.cells m ≡ Some (cell.Mark v)) (same f lf) e);
        bodies = λ f m v lf e body.
            h.bodies f m v (omega arith) (subst (λ x. slice_get x.cells m ≡ Some (cell.Mark v)) (same f lf) e)
            (subst (λ x. IsBody code x.routine m) (same f lf) body);
      }

  -- the bases with one more frame, which is entered now
  abbrev pub more_base : (base : ℕ → ℕ) (count height : ℕ) → ℕ → ℕ
  more_base base count height f = if nat_lt f count then base f else height

  -- those of the frames below
  old_base : (base : ℕ → ℕ) (count height f : ℕ) → f < count → more_base base count height f ≡ base f
  old_base base count height f lt = ap (λ b. if b then base f else height) (lt-ltb f count lt)

  -- that of the new one
  new_base : (base : ℕ → ℕ) (count height f : ℕ) → count ≤ f → more_base base count height f ≡ height
  new_base base count height f le = by (nat_lt f count) refl
    where
      by : (b : Bool) → nat_lt f count ≡ b → (if b then base f else height) ≡ height
      by true e = let lt = ltb-true f count e in absurd (omega arith)
      by false e = refl

  -- a frame is entered that has no marks
  pub based_entered : (base : ℕ → ℕ) (frames : List PlainFrame) (held : List PlainEntry) (x : PlainFrame) → NoMarks x.cells
      → BasedBy code base frames held → BasedBy code (more_base base (length frames) (length held)) (frames ++ x ∷ []) held
  based_entered base frames held x none h =
      let c : ℕ = length frames in
      let b : ℕ → ℕ = more_base base c (length held) in
      let len : length (frames ++ x ∷ []) ≡ c + 1 = length-append frames (x ∷ []) in
      let old : (f : ℕ) → f < c → b f ≡ base f = λ f lf. old_base base c (length held) f lf in
      let new : (f : ℕ) → c ≤ f → b f ≡ length held = λ f le. new_base base c (length held) f le in
      let below : (f : ℕ) → f < c → get_or (frames ++ x ∷ []) f no_frame ≡ get_or frames f no_frame =
      λ f lf. get_or-append frames (x ∷ []) no_frame f lf in
      let here : (f n m : ℕ) → f < length (frames ++ x ∷ []) → c ≤ f
      → slice_get (get_or (frames ++ x ∷ []) f no_frame).cells n ≡ Some (cell.Mark m) → ⊥ =
      λ f n m lf le e.
      let q : f ≡ c = omega arith in
      let same : get_or (frames ++ x ∷ []) f no_frame ≡ x = ap (λ k. get_or (frames ++ x ∷ []) k no_frame) q
      ∙ get_or-append_seam frames x [] no_frame in
      none n m (subst (λ y. slice_get y.cells n ≡ Some (cell.Mark m)) same e) in
      record {
        rise = λ f g le lg. elim (cases_lt g c) [
          | inl lt ↦ omega (arith, old f (omega arith), old g lt, h.rise f g le lt)
          | inr past ↦ elim (cases_lt f c) [
            | inl lf ↦ omega (arith, old f lf, new g past, h.low f lf)
            | inr lf ↦ omega (arith, new f lf, new g past)
          ]
        ];
        low = λ f lf. elim (cases_lt f c) [
          | inl lt ↦ omega (arith, old f lt, h.low f lt)
          | inr past ↦ omega (arith, new f past)
        ];
        has = λ f k lf lk le. elim (cases_lt f c) [
          | inl lt ↦
              let was = h.has f k lt (omega (arith, old f lt)) le in
              record { there = was.there; same = was.same ∙ sym (ap (λ y. y.routine) (below f lt)) }
          | inr past ↦ absurd (omega (arith, new f past))
        ];
        marks = λ f n m lf e. elim (cases_lt f c) [
          | inl lt ↦ omega (arith, old f lt, h.marks f n m lt (subst (λ y. slice_get y.cells n ≡ Some (cell.Mark m)) (below f lt) e))
          | inr past ↦ absurd (here f n m lf past e)
        ];
        bodies = λ f n m lf e body. elim (cases_lt f c) [
          | inl lt ↦ omega (
            arith,
            old f lt,
            h.bodies f n m lt (subst (λ y. slice_get y.cells n ≡ Some (cell.Mark m)) (below f lt) e)
                (subst (λ y. IsBody code y.routine n) (below f lt) body),
          )
          | inr past ↦ absurd (here f n m lf past e)
        ];
      }

  -- ---- entries

  -- the lowest entries, or others with the frames of these
  pub based_lower : (base : ℕ → ℕ) (frames : List PlainFrame) (held others : List PlainEntry) → BasedBy code base frames held
      → length others ≤ length held → ((f : ℕ) → f < length frames → base f ≤ length others)
      → ((k : ℕ) → k < length others → (get_or others k no_entry).frames ≡ (get_or held k no_entry).frames)
      → BasedBy code base frames others
  based_lower base frames held others h le low same = record {
    rise = h.rise;
    low = low;
    has = λ f k lf lk lh.
        subst (λ x. HasFrame frames x f) (sym (same (k - 1) (omega arith))) (h.has f k lf lk (omega arith));
    marks = h.marks;
    bodies = h.bodies;
  }

  -- one more, which has the frames
  pub based_pushed : (base : ℕ → ℕ) (frames : List PlainFrame) (held : List PlainEntry) (e : PlainEntry) → BasedBy code base frames held
      → HasFrames frames e.frames → BasedBy code base frames (held ++ e ∷ [])
  based_pushed base frames held e h has =
      let len : length (held ++ e ∷ []) ≡ length held + 1 = length-append held (e ∷ []) in
      record {
        rise = h.rise;
        low = λ f lf. omega (arith, h.low f lf);
        has = λ f k lf lk le. elim (cases_eq (k - 1) (length held)) [
          | inl q ↦
              let same : get_or (held ++ e ∷ []) (k - 1) no_entry ≡ e = ap (λ j. get_or (held ++ e ∷ []) j no_entry) q
              ∙ get_or-append_seam held e [] no_entry in
              subst (λ x. HasFrame frames x.frames f) (sym same) (has f lf)
          | inr ne ↦
              subst (λ x. HasFrame frames x.frames f) (sym (get_or-append held (e ∷ []) no_entry (k - 1) (omega arith)))
              (h.has f k lf lk (omega arith))
        ];
        marks = h.marks;
        bodies = h.bodies;
      }

  -- a cell of a state is written that is no mark
  pub based_cell : (at : ℕ) (t : State) (f n : ℕ) (c : Cell) → BasedIn code at t → f < length t.now → NoMark c
      → BasedIn code at (with_cell t f n c)
  based_cell at t f n c h lf none = record {
    now = λ g.
        let b = h.now g in
        let count : length (with_cell t f n c).now ≡ length t.now = length-set t.now f (frame_with (get_or t.now f no_frame) n c) in
        record {
          base = b.base;
          by = based_plain b.base t.now t.held f n c b.by none;
          finish = λ e. subst (λ k. b.base (k - 1) < length t.held) (sym count) (b.finish e);
        };
    held = h.held;
    done = h.done;
  }
