-- Numbers that are stored: at a place, or in a variable of the routine that is written in its own slot.
use Rattle.std.proofs.Common.{◌≡◌, ℕ, suc, ◌+◌, ◌-◌, ◌<◌, ◌≤◌, ◌⊎◌, inl, inr, true, List, [], ◌∷◌, ◌++◌, length, get_or, set, Option, Some}
use Rattle.std.proofs.Common.{None, refl, sym, ap, ◌∙◌, subst, arith, ℤ}
use Rattle.std.proofs.lemmas.Bool.{cases_eq}
use Rattle.std.proofs.lemmas.List.{get_or-set_same, get_or-set_other, length-append}
use Rattle.alma_base.specs.Numbers.{is_integer}
use Rattle.alma_code.specs.declared.cell.Cell.TheVariants as cell
use Rattle.alma_code.specs.declared.cell.SlotKind.TheVariants as slot
use Rattle.alma_code.specs.declared.instr.Instr.TheVariants as I
use Rattle.alma_code.specs.Picture.{PlainFrame, frames_with_cell}
use Rattle.alma_code.specs.Picture as picture
use Rattle.alma_code.specs.Plain.{PlainCode}
use Rattle.alma_code.specs.Machine.{act, number, store, quiet_step}
use Rattle.alma_ir.specs.Tree.{Program, Desig, Sels, a_desig, no_sels, more_sels, Field, Index}
use Rattle.alma_ir.specs.Checked.{desig_cells}
use Rattle.alma_mean.specs.Store.{Store, Frame, Place, Unknown, Number, At, cell_at, put, put_at, put_top, top, with_cell}
use Rattle.alma_mean.specs.Store as store_of
use Rattle.alma_mean.specs.Events.{Events, Fail, join, bind}
use Rattle.alma_mean.specs.Meaning.{Level, ev_desig, ev_expr}
use Rattle.alma_lower_implements.proofs.Goes.{weaker}
use Rattle.alma_lower_implements.proofs.Frames.{shift, shift_in, own_end, Fits}
use Rattle.alma_lower_implements.proofs.FrameLemmas.{put_is, fits_put, content_there, put_routine}
use Rattle.alma_lower_implements.proofs.BareRow.{ReadsFirst}
use Rattle.alma_lower_implements.proofs.ExprRows.{AreVariables}
use Rattle.alma_lower_implements.proofs.ForSteps.{slot_within, slot_has_kind, fits_top, move_step}
use Rattle.alma_lower_implements.proofs.Steps.{top_written, InstrAt, passed, does, place_is, store_step}
use Rattle.alma_lower_implements.proofs.Ways.{Leaves}
use Rattle.alma_lower_templates.specs.Tables.{Tables}
use Rattle.alma_lower_templates.specs.Slots.{bare, bare_desig, unless_bare, expr_slots, desig_slots, sels_slots, root_slots, behind_value}
use Rattle.alma_lower_templates.specs.Templates.{place_at, held_at, part_at, behind_root, set_by}
use Rattle.alma_lower_templates.specs.Stands.{Stands}
use Rattle.alma_lower_templates.proofs.Parts.{Begins, Left, left_self, put_position, sound_after, place_after, IsValue, IsPlace, PlaceIn}
use Rattle.alma_lower_templates.proofs.Parts.{NoNewPlaces, From, Takes, leaving, step_from, then_from, alone_from}
use Rattle.alma_lower_templates.proofs.Fields.{desig_from}
use Rattle.alma_lower_templates.proofs.AtOnce.{BareFits}
use Rattle.alma_lower_templates.proofs.FormRuns.{held_code, HeldRuns}

module _ (p : Program) (code : PlainCode) (input : List ℕ) where
  -- a number that is put is no place
  pub put_places : (v : Store) (f i : ℕ) (x : ℤ) → f < length v → i < length (get_or v f store_of.no_frame).cells
      → NoNewPlaces p code input v (put v f i (Number x))
  put_places v f i x live there k j a e = by (cases_eq k f)
    where
      old : Frame
      old = get_or v f store_of.no_frame

      is : put v f i (Number x) ≡ set v f (with_cell old i (Number x))
      is = put_is v f i (Number x) live

      within : get_or (set old.cells i (Number x)) j Unknown ≡ At a → get_or old.cells j Unknown ≡ At a
      within h = elim (cases_eq j i) [
        | inl same ↦
            let number : get_or (set old.cells i (Number x)) j Unknown ≡ Number x =
            ap (λ n. get_or (set old.cells i (Number x)) n Unknown) same ∙ get_or-set_same old.cells i (Number x) Unknown there in
            absurd (let bad : Number x ≡ At a = sym number ∙ h in cc)
        | inr other ↦ sym (get_or-set_other old.cells i j (Number x) Unknown other) ∙ h
      ]

      by : (k ≡ f) ⊎ (k ≡ f → ⊥) → cell_at v k j ≡ At a
      by (inr other) = sym (ap (λ g. get_or g.cells j Unknown)
          (get_or-set_other v f k (with_cell old i (Number x)) store_of.no_frame other)) ∙ sym (ap (λ z. cell_at z k j) is) ∙ e
      by (inl same) =
          let here : get_or (set v f (with_cell old i (Number x))) k store_of.no_frame ≡ with_cell old i (Number x) =
          ap (λ n. get_or (set v f (with_cell old i (Number x))) n store_of.no_frame) same
          ∙ get_or-set_same v f (with_cell old i (Number x)) store_of.no_frame live in
          ap (λ n. cell_at v n j) same ∙ within (sym (ap (λ g. get_or g.cells j Unknown) here) ∙ sym (ap (λ z. cell_at z k j) is) ∙ e)

  -- a variable of the routine on top is not the input position
  pub top_free : (from r : ℕ) (v : Store) (now : List PlainFrame) → AreVariables p code input r from 1 → Begins p code input r v now
      → top v ≡ 0 → 0 < from
  top_free from r v now variable b e = variable.free (sym b.routine ∙ ap (λ n. (get_or v n store_of.no_frame).routine) e ∙ b.stand.main)

  pub left_put : (lo r f i : ℕ) (x : ℤ) (v : Store) (now : List PlainFrame) → f < length v → i < length (get_or v f store_of.no_frame).cells
      → get_or (get_or now f picture.no_frame).kinds (shift_in p v f + i) slot.Mark ≡ slot.Number → is_integer x ≡ true → (f ≡ 0 → 0 < i)
      → Begins p code input r v now → Left p code input lo r now (put v f i (Number x))
      (frames_with_cell now f (shift_in p v f + i) (cell.Int x))
  left_put lo r f i x v now live there kind integer free b =
      let fit : Fits p code lo now (put v f i (Number x)) (frames_with_cell now f (shift_in p v f + i) (cell.Int x)) =
      fits_put p code lo v now f i x live there kind integer b.stand in
      record {
        fits = fit;
        routine = put_routine v f i (Number x) live ∙ b.routine;
        sound =
            sound_after p code input lo v (put v f i (Number x)) now (frames_with_cell now f (shift_in p v f + i) (cell.Int x)) b.stand fit
            (put_places v f i x live there) (put_position p code input v f i (Number x) free) b.sound;
      }

  -- a number in a variable of the routine
  pub left_variable : (lo r from : ℕ) (v : Store) (now : List PlainFrame) (x : ℤ) → AreVariables p code input r from 1 → is_integer x ≡ true
      → Begins p code input r v now
      → Left p code input lo r now (put_top v from (Number x)) (top_written now (shift p r + from) (cell.Int x))
  left_variable lo r from v now x variable integer b =
      let t : List PlainFrame = top_written now (shift p r + from) (cell.Int x) in
      let live : top v < length v = omega (arith, b.stand.some) in
      let fit : Fits p code lo now (put_top v from (Number x)) t =
      fits_top p code input r from variable v now b.stand b.routine lo x integer in
      record {
        fits = fit;
        routine = put_routine v (top v) from (Number x) live ∙ b.routine;
        sound = sound_after p code input lo v (put_top v from (Number x)) now t b.stand fit
            (put_places v (top v) from x live (slot_within p code input r from variable v now b.stand b.routine))
            (put_position p code input v (top v) from (Number x) (top_free from r v now variable b)) b.sound;
      }

  module _ {B : Type 0} (line c at exit lo r : ℕ) (v : Store) (now : List PlainFrame) (x : ℤ)
      (yields : Store → B → List PlainFrame → Type 0) (e : Events B) (q : ℕ) (behind : own_end p r ≤ lo) (b : Begins p code input r v now)
    where
      -- a number goes into a place by one step, and the phrase goes on
      pub put_goes_on : (n size : ℕ) (a : Place) → 0 < size → (h : IsPlace p code input n size v a now) → is_integer x ≡ true
          → Takes p code input at (at + 1) now (frames_with_cell now h.place.frame h.place.slot (cell.Int x))
          → ((t : List PlainFrame) → Left p code input lo r now (put_at v a (Number x)) t
          → From p code input line c (at + 1) exit t (leaving p code input lo r t yields) e q)
          → From p code input line (suc c) at exit now (leaving p code input lo r now yields) e q
      put_goes_on n size a some h integer takes later =
          let sh : ℕ = shift_in p v a.frame in
          let some_cell : 0 < a.size = omega (arith, some, h.sized) in
          let there : a.slot < length (get_or v a.frame store_of.no_frame).cells = omega (arith, h.numbers.cells 0 some_cell) in
          let zero : sh + (a.slot + 0) ≡ sh + a.slot = omega arith in
          let kind : get_or (get_or now a.frame picture.no_frame).kinds (sh + a.slot) slot.Mark ≡ slot.Number =
          ap (λ n. get_or (get_or now a.frame picture.no_frame).kinds n slot.Mark) (sym zero) ∙ h.numbers.kinds 0 some_cell in
          let t : List PlainFrame = frames_with_cell now a.frame (sh + a.slot) (cell.Int x) in
          let here : frames_with_cell now h.place.frame h.place.slot (cell.Int x) ≡ t =
          ap (λ f. frames_with_cell now f h.place.slot (cell.Int x)) (sym h.same.frame)
          ∙ ap (λ n. frames_with_cell now a.frame n (cell.Int x)) (sym h.same.slot) in
          let left : Left p code input lo r now (put_at v a (Number x)) t =
          left_put lo r a.frame a.slot x v now h.numbers.frame there kind integer h.numbers.free b in
          step_from p code input line c at (at + 1) exit lo r (put_at v a (Number x)) now t yields e q behind
          (λ held s is. let w = takes held s is in
          record {
            to = w.to;
            silently = w.silently;
            is =
                record { mode = w.is.mode; here = w.is.here; frames = w.is.frames ∙ here; entries = w.is.entries };
          })
          left (later t left)

      -- a number is stored at a place, and the phrase goes on
      pub store_goes_on : (n size value : ℕ) (a : Place) → 0 < size → IsPlace p code input n size v a now → IsValue p code input value x now
          → InstrAt code input line at (I.Store n value)
          → ((t : List PlainFrame) → Left p code input lo r now (put_at v a (Number x)) t
          → From p code input line c (at + 1) exit t (leaving p code input lo r t yields) e q)
          → From p code input line (suc c) at exit now (leaving p code input lo r now yields) e q
      store_goes_on n size value a some h hx i later =
          let live = content_there p code v now a h.place b.stand h.numbers (omega (arith, some, h.sized)) h.same in
          put_goes_on n size a some h hx.integer
          (λ held s is. let w = store_step code input line at now held s is n value h.place x i h.holds hx.holds live.0 in
          record { to = w.to; silently = w.silently; is = w.is }) later

      -- a number goes into a variable of the routine
      pub move_goes_on : (from value : ℕ) → AreVariables p code input r from 1 → IsValue p code input value x now
          → InstrAt code input line at (I.Move (shift p r + from) value)
          → ((t : List PlainFrame) → Left p code input lo r now (put_top v from (Number x)) t
          → From p code input line c (at + 1) exit t (leaving p code input lo r t yields) e q)
          → From p code input line (suc c) at exit now (leaving p code input lo r now yields) e q
      move_goes_on from value variable hx i later =
          let t : List PlainFrame = top_written now (shift p r + from) (cell.Int x) in
          let left = left_variable lo r from v now x variable hx.integer b in
          step_from p code input line c at (at + 1) exit lo r (put_top v from (Number x)) now t yields e q behind
          (λ held s is.
          let w = move_step code input line at now held s is (shift p r + from) value x i
          (slot_has_kind p code input r from variable v now b.stand b.routine) hx.holds in
          record { to = w.to; silently = w.silently; is = w.is })
          left (later t left)

module _ (p : Program) (tables : Tables) (code : PlainCode) (input : List ℕ) (below : Level) (r line q : ℕ) where
  -- ---- the slot of a place

  pub part_within : (from lo : ℕ) (sels : Sels) → from < lo → (from ≤ part_at p tables r from lo sels)
      × (part_at p tables r from lo sels < lo + length (sels_slots p r sels))
  part_within from lo no_sels lt = (omega arith, omega (arith, lt))
  part_within from lo (more_sels (Field offset cells) rest) lt =
      let z = part_within lo (lo + 1) rest (omega arith) in
      (omega (arith, lt, z.0), omega (arith, z.1))
  part_within from lo (more_sels (Index x range cells) rest) lt =
      let to : ℕ = behind_value p r lo x in
      let z = part_within to (to + 1) rest (omega arith) in
      let long : length ((unless_bare (bare x) (expr_slots p r x) ++ (slot.Place cells ∷ [])) ++ sels_slots p r rest) ≡ length
      (unless_bare (bare x) (expr_slots p r x)) + 1 + length (sels_slots p r rest) =
      length-append (unless_bare (bare x) (expr_slots p r x) ++ (slot.Place cells ∷ [])) (sels_slots p r rest)
      ∙ ap (λ n. n + length (sels_slots p r rest)) (length-append (unless_bare (bare x) (expr_slots p r x)) (slot.Place cells ∷ [])) in
      (omega (arith, lt, z.0), omega (arith, z.1, long))

  pub place_within : (lo : ℕ) (d : Desig) → (lo ≤ place_at p tables r lo d) × (place_at p tables r lo d < lo + length (desig_slots p r d))
  place_within lo (a_desig root cells sels) =
      let z = part_within lo (behind_root p tables r lo root) sels (omega arith) in
      let long : length ((slot.Place cells ∷ root_slots p r root) ++ sels_slots p r sels) ≡ length (slot.Place cells ∷ root_slots p r root)
      + length (sels_slots p r sels) = length-append (slot.Place cells ∷ root_slots p r root) (sels_slots p r sels) in
      (z.0, omega (arith, z.1, long))

  -- ---- what is written

  -- it is located: a variable of the routine, or a place in its slot
  abbrev pub IsTarget : Option ℕ → (lo : ℕ) → Desig → Store → Place → List PlainFrame → Type 0
  IsTarget (Some from) lo d v a now = (a.frame ≡ top v) × (a.slot ≡ from)
  IsTarget None lo d v a now = (held_at p tables r lo d < lo + length (desig_slots p r d))
      × IsPlace p code input (held_at p tables r lo d) (desig_cells d) v a now

  pub target_after : (o : Option ℕ) (lo la : ℕ) (d : Desig) (a : Place) (v w : Store) (now later : List PlainFrame)
      → Begins p code input r v now → own_end p r ≤ lo → lo + length (unless_bare o (desig_slots p r d)) ≤ la
      → Left p code input la r now w later
      → IsTarget o lo d v a now → IsTarget o lo d w a later
  target_after (Some from) lo la d a v w now later b behind le left h =
      let long : length v ≡ length w = sym b.stand.count ∙ sym left.fits.same_count ∙ left.fits.stand.count in
      (h.0 ∙ ap (λ n. n - 1) long, h.1)
  target_after None lo la d a v w now later b behind le left h = (
    omega (arith, h.0),
    place_after p code input la r (held_at p tables r lo d) (desig_cells d) a v w now later b (omega (arith, behind, le))
        (omega (arith, h.0, le)) left h.1,
  )

  pub target_from : {B : Type 0} (o : Option ℕ) (at exit lo la : ℕ) (d : Desig) (v : Store) (now : List PlainFrame)
      (yb : Store → B → List PlainFrame → Type 0) (k : Store → Place → Events B) → bare_desig d ≡ o → lo ≤ la → own_end p r ≤ lo
      → Begins p code input r v now
      → (o ≡ None → HeldRuns p tables code input below r line q at la d)
      → Stands code at (unless_bare o (held_code p tables r line at la d))
      → ((u : Store) (a : Place) (t : List PlainFrame) → Left p code input la r now u t → IsTarget o la d u a t
      → From p code input line 8 (at + length (unless_bare o (held_code p tables r line at la d))) exit t
      (leaving p code input lo r t yb) (k u a) q)
      → From p code input line 0 at exit now (leaving p code input lo r now yb) (bind (ev_desig p input below d v) k) q
  unfolding ev_expr
  target_from None at exit lo la d v now yb k e le behind b runs stands later =
      then_from p code input line at (at + length (held_code p tables r line at la d)) exit lo la r now
      (PlaceIn p code input (held_at p tables r la d) (desig_cells d)) yb (ev_desig p input below d v) k q le behind
      ((runs refl).runs stands v now b) (λ u a t left place. later u a t left ((runs refl).within, place))
  target_from (Some from) at exit lo la d v now yb k e le behind b runs stands later =
      let zero : at + 0 ≡ at = omega arith in
      let w = leaving p code input lo r now yb in
      desig_from p code input line at exit now w below v from q d k e
      (λ size held s is. let a : Place = record { frame = top v; slot = from; size = size } in
      weaker code input line 0 24 (Leaves exit w) held (join (k v a) Fail) s 64 8 q q (omega arith) (omega arith)
      (alone_from p code input line 8 at exit now w (k v a) q
      (subst (λ m. From p code input line 8 m exit now w (k v a) q) zero (later v a now (left_self p code input la r v now b) (refl, refl)))
      held s is))

  -- the number is set
  pub set_from : {B : Type 0} (o : Option ℕ) (c at exit lo la value : ℕ) (d : Desig) (v : Store) (now : List PlainFrame) (a : Place) (x : ℤ)
      (yields : Store → B → List PlainFrame → Type 0) (e : Events B) → BareFits p tables code input below r line q o → desig_cells d ≡ 1
      → own_end p r ≤ lo → Begins p code input r v now
      → IsTarget o la d v a now → IsValue p code input value x now → InstrAt code input line at (set_by p tables r o la value d)
      → ((t : List PlainFrame) → Left p code input lo r now (put_at v a (Number x)) t
      → From p code input line c (at + 1) exit t (leaving p code input lo r t yields) e q)
      → From p code input line (suc c) at exit now (leaving p code input lo r now yields) e q
  set_from None c at exit lo la value d v now a x yields e fits cells behind b h hx i later =
      store_goes_on p code input line c at exit lo r v now x yields e q behind b (held_at p tables r la d) (desig_cells d) value a
      (omega (arith, cells)) h.1 hx i later
  set_from (Some from) c at exit lo la value d v now a x yields e fits cells behind b h hx i later =
      move_goes_on p code input line c at exit lo r v now x yields e q behind b from value fits hx i
      (λ t left. later t (subst (λ f. Left p code input lo r now (put v f a.slot (Number x)) t) (sym h.0)
      (subst (λ n. Left p code input lo r now (put v (top v) n (Number x)) t) (sym h.1) left)))

  -- the instruction reads the number first
  pub set_reads : (o : Option ℕ) (at la value : ℕ) (d : Desig) (v : Store) (a : Place) (now : List PlainFrame) → IsTarget o la d v a now
      → InstrAt code input line at (set_by p tables r o la value d) → ReadsFirst code input at value now
  unfolding act
  set_reads (Some from) at la value d v a now h i held s is = (_, does code input line at now held s (I.Move (shift p r + from) value) is i)
  set_reads None at la value d v a now h i held s is = (
    _,
    does code input line at now held s (I.Store (held_at p tables r la d) value) is i
        ∙ place_is code input now (passed code input s) (held_at p tables r la d) h.1.place
        (λ c. number (passed code input s) value (λ n. store (passed code input s) c.frame c.slot n quiet_step)) is.frames h.1.holds,
  )
