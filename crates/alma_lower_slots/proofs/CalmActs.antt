-- What most instructions keep: the frames are based, the stack is what it was, and the machine does not go on at a Finish.
use Rattle.std.proofs.Common.{◌≡◌, ℕ, zero, suc, ◌+◌, ◌-◌, List, length, get_or, refl, Option, Some, None}
use Rattle.std.specs.Prelude.{ℤ, pos, negsuc, slice_get, Bool, true, false, ◌&&◌}
use Rattle.std.proofs.lemmas.Bool.{and_parts}
use Rattle.alma_base.specs.declared.fault.RunFault.{RunFault}
use Rattle.alma_base.specs.declared.number.Range.{Range}
use Rattle.alma_base.specs.declared.number.ReadInt.{ReadInt}
use Rattle.alma_base.specs.declared.number.ReadInt.TheVariants.{Number, NoNumber, TooLarge}
use Rattle.alma_base.specs.Numbers.{within, is_integer, int_eq}
use Rattle.alma_code.specs.Carries.{number_at}
use Rattle.alma_code.specs.declared.cell.Cell.{Cell}
use Rattle.alma_code.specs.declared.cell.Cell.TheVariants as cell
use Rattle.alma_code.specs.declared.cell.CellPlace.{CellPlace}
use Rattle.alma_code.specs.declared.cell.SlotKind.{SlotKind}
use Rattle.alma_code.specs.declared.cell.SlotKind.TheVariants as slot
use Rattle.alma_code.specs.declared.instr.Instr.{Instr}
use Rattle.alma_code.specs.declared.instr.Instr.TheVariants as I
use Rattle.alma_code.specs.Machine.{State, StepResult, quiet_step, slot_of, kind_of, as_number, as_place}
use Rattle.alma_code.specs.Machine.{number, place, link, with_cell, with_slot, to_number, to_place, to_mark, to_link, put_number}
use Rattle.alma_code.specs.Machine.{put_place, put_link, link_to, integer_result, as_content}
use Rattle.alma_code.specs.Machine.{content, store, with_known_content, as_range, range_check, optional_range_check}
use Rattle.alma_code.specs.Machine.{binds_content, equations}
use Rattle.alma_code.specs.Machine.{equation_of_contents, equation, copies_cells, result_to, answers_return}
use Rattle.alma_code.specs.Machine.{as_position, position, take_input, takes_read, byte_or_failure, as_text}
use Rattle.alma_code.specs.Picture.{PlainEntry, no_frame, cell_at}
use Rattle.alma_code.specs.Plain.{PlainCode}
use Rattle.alma_code_laws.proofs.Acts.{live_content}
use Rattle.alma_code_laws.proofs.Ready.{Ready, if_true_keeps}
use Rattle.alma_lower_slots.proofs.Based.{AtFinish, BasedBy}
use Rattle.alma_lower_slots.proofs.Bases.{NoMark, content_no_mark, based_plain}

module _ (code : PlainCode) (base : ℕ → ℕ) (old : List PlainEntry) where
  -- the frames are based, the stack is the old one, and the machine does not go on at a Finish
  pub record Calm (t : State) : Type 0 where
    pub by : BasedBy code base t.now old
    pub held : t.held ≡ old
    pub at : AtFinish code t.at → ⊥

  -- so it is after a step
  abbrev pub Quiet : StepResult → Type 0
  Quiet x = Calm x.state

  -- ---- numbers

  -- a cell is read as a number
  pub as_number_calm : (o : Option Cell) (t : State) (k : ℤ → StepResult) → Calm t → ((v : ℤ) → Quiet (k v)) → Quiet (as_number o t k)
  as_number_calm (Some (cell.Int v)) t k h g = g v
  as_number_calm (Some cell.Unknown) t k h g = record { by = h.by; held = h.held; at = h.at }
  as_number_calm (Some cell.Unset) t k h g = record { by = h.by; held = h.held; at = h.at }
  as_number_calm (Some (cell.Place p)) t k h g = record { by = h.by; held = h.held; at = h.at }
  as_number_calm (Some (cell.Mark m)) t k h g = record { by = h.by; held = h.held; at = h.at }
  as_number_calm None t k h g = record { by = h.by; held = h.held; at = h.at }

  -- a slot is read as a number
  pub number_calm : (t : State) (n : ℕ) (k : ℤ → StepResult) → Calm t → ((v : ℤ) → Quiet (k v)) → Quiet (number t n k)
  number_calm t n k h g = as_number_calm (slot_of t n) t k h g

  -- two slots are read as numbers
  pub two_calm : (t : State) (b c : ℕ) (k : ℤ → ℤ → StepResult) → Calm t → ((x y : ℤ) → Quiet (k x y))
      → Quiet (number t b (λ x. number t c (λ y. k x y)))
  two_calm t b c k h g = number_calm t b (λ x. number t c (λ y. k x y)) h (λ x. number_calm t c (λ y. k x y) h (λ y. g x y))

  -- a cell is written that is no mark
  pub with_cell_calm : (t : State) (f i : ℕ) (c : Cell) → Calm t → NoMark c → Calm (with_cell t f i c)
  with_cell_calm t f i c h none = record { by = based_plain code base t.now old f i c h.by none; held = h.held; at = h.at }

  -- a number is written
  pub with_number_calm : (t : State) (f i : ℕ) (v : ℤ) → Calm t → Calm (with_cell t f i (cell.Int v))
  with_number_calm t f i v h = with_cell_calm t f i (cell.Int v) h (λ m e. absurd (cc))

  -- the slot that is written is a number slot
  pub to_number_calm : (o : Option SlotKind) (t : State) (k : Unit {0} → StepResult) → Calm t → Quiet (k tt) → Quiet (to_number o t k)
  to_number_calm (Some slot.Number) t k h g = g
  to_number_calm (Some (slot.Place l)) t k h g = record { by = h.by; held = h.held; at = h.at }
  to_number_calm (Some slot.Mark) t k h g = record { by = h.by; held = h.held; at = h.at }
  to_number_calm (Some (slot.Link r)) t k h g = record { by = h.by; held = h.held; at = h.at }
  to_number_calm None t k h g = record { by = h.by; held = h.held; at = h.at }

  -- it is a mark slot
  pub to_mark_calm : (o : Option SlotKind) (t : State) (k : Unit {0} → StepResult) → Calm t → Quiet (k tt) → Quiet (to_mark o t k)
  to_mark_calm (Some slot.Mark) t k h g = g
  to_mark_calm (Some slot.Number) t k h g = record { by = h.by; held = h.held; at = h.at }
  to_mark_calm (Some (slot.Place l)) t k h g = record { by = h.by; held = h.held; at = h.at }
  to_mark_calm (Some (slot.Link r)) t k h g = record { by = h.by; held = h.held; at = h.at }
  to_mark_calm None t k h g = record { by = h.by; held = h.held; at = h.at }

  -- a number is put into a slot
  pub put_number_calm : (t : State) (n : ℕ) (v : ℤ) → Calm t → Quiet (put_number t n v)
  put_number_calm t n v h =
      let w = with_number_calm t (length t.now - 1) n v h in
      to_number_calm (kind_of t n) t (λ _. quiet_step (with_slot t n (cell.Int v))) h (record { by = w.by; held = w.held; at = w.at })

  -- a result that may be out of INTEGER
  pub integer_calm : (t : State) (v : ℤ) (k : ℤ → StepResult) → Calm t → ((v : ℤ) → Quiet (k v)) → Quiet (integer_result t v k)
  integer_calm t v k h g = if_true_keeps Quiet (is_integer v) _ _ (λ _. g v) (λ _. record { by = h.by; held = h.held; at = h.at })

  -- ---- cells at places

  -- a cell is looked at as a content
  as_content_calm : (b : Bool) (c : Cell) (t : State) (k : Option ℤ → StepResult) → Calm t → ((o : Option ℤ) → Quiet (k o))
      → Quiet (as_content b c t k)
  as_content_calm true (cell.Int v) t k h g = g (Some v)
  as_content_calm true cell.Unknown t k h g = g None
  as_content_calm true cell.Unset t k h g = record { by = h.by; held = h.held; at = h.at }
  as_content_calm true (cell.Place p) t k h g = record { by = h.by; held = h.held; at = h.at }
  as_content_calm true (cell.Mark m) t k h g = record { by = h.by; held = h.held; at = h.at }
  as_content_calm false c t k h g = record { by = h.by; held = h.held; at = h.at }

  -- the cell at a place is looked at
  pub content_calm : (t : State) (f n : ℕ) (k : Option ℤ → StepResult) → Calm t → ((o : Option ℤ) → Quiet (k o)) → Quiet (content t f n k)
  content_calm t f n k h g = as_content_calm (number_at t.now f n) (cell_at t.now f n cell.Unset) t k h g

  -- the cell at a place gets a number
  pub store_calm : (t : State) (f n : ℕ) (v : ℤ) (k : State → StepResult) → Calm t → ((u : State) → Calm u → Quiet (k u))
      → Quiet (store t f n v k)
  store_calm t f n v k h g =
      if_true_keeps Quiet (number_at t.now f n) _ _ (λ _. g (with_cell t f n (cell.Int v)) (with_number_calm t f n v h))
      (λ _. record { by = h.by; held = h.held; at = h.at })

  -- a content that may be unknown
  pub known_calm : (o : Option ℤ) (t : State) (k : ℤ → StepResult) → Calm t → ((v : ℤ) → Quiet (k v)) → Quiet (with_known_content t o k)
  known_calm (Some v) t k h g = g v
  known_calm None t k h g = record { by = h.by; held = h.held; at = h.at }

  -- a range that may not be there
  pub as_range_calm : (o : Option Range) (t : State) (k : Range → StepResult) → Calm t → ((x : Range) → o ≡ Some x → Quiet (k x))
      → Quiet (as_range o t k)
  as_range_calm (Some x) t k h g = g x refl
  as_range_calm None t k h g = record { by = h.by; held = h.held; at = h.at }

  -- a number that may be out of range
  pub ranged_calm : (x : Range) (f : RunFault) (t : State) (v : ℤ) (k : Unit {0} → StepResult) → Calm t
      → (within x v ≡ true → Quiet (k tt)) → Quiet (range_check x f t v k)
  ranged_calm x f t v k h g = if_true_keeps Quiet (within x v) _ _ g (λ _. record { by = h.by; held = h.held; at = h.at })

  -- the same where there may be no range
  pub ranged_if_calm : (o : Option Range) (t : State) (v : ℤ) (k : Unit {0} → StepResult) → Calm t → Quiet (k tt)
      → Quiet (optional_range_check o t v k)
  ranged_if_calm (Some x) t v k h g = ranged_calm x _ t v k h (λ _. g)
  ranged_if_calm None t v k h g = g

  -- a cell has a number, or gets it
  pub bound_calm : (t : State) (p : CellPlace) (x : Range) (v : ℤ) (o : Option ℤ) → Calm t → Quiet (binds_content t p x v o)
  bound_calm t p x v (Some u) h =
      if_true_keeps Quiet (int_eq u v) _ _ (λ _. record { by = h.by; held = h.held; at = h.at })
      (λ _. record { by = h.by; held = h.held; at = h.at })
  bound_calm t p x v None h =
      ranged_calm x _ t v _ h (λ _. store_calm t p.frame p.slot v quiet_step h (λ u hu. record { by = hu.by; held = hu.held; at = hu.at }))

  -- two contents are equated
  equated_calm : (t : State) (f i : ℕ) (a : Option Range) (u : Option ℤ) (g j : ℕ) (b : Option Range) (v : Option ℤ)
      (k : State → StepResult)
      → Calm t → ((x : State) → Calm x → Quiet (k x)) → Quiet (equation_of_contents t f i a u g j b v k)
  equated_calm t f i a None g j b None k h good = record { by = h.by; held = h.held; at = h.at }
  equated_calm t f i a None g j b (Some v) k h good = ranged_if_calm a t v _ h (store_calm t f i v k h good)
  equated_calm t f i a (Some u) g j b None k h good = ranged_if_calm b t u _ h (store_calm t g j u k h good)
  equated_calm t f i a (Some u) g j b (Some v) k h good =
      if_true_keeps Quiet (int_eq u v) _ _ (λ _. good t h) (λ _. record { by = h.by; held = h.held; at = h.at })

  -- two cells are equated
  pub equation_calm : (t : State) (f i : ℕ) (a : Option Range) (g j : ℕ) (b : Option Range) (k : State → StepResult)
      → Calm t → ((x : State) → Calm x → Quiet (k x)) → Quiet (equation t f i a g j b k)
  equation_calm t f i a g j b k h good =
      content_calm t f i _ h (λ u. content_calm t g j _ h (λ v. equated_calm t f i a u g j b v k h good))

  -- n cells are equated
  pub equations_calm : (n : ℕ) (t : State) (f i g j : ℕ) → Calm t → Quiet (equations n t f i g j)
  equations_calm zero t f i g j h = record { by = h.by; held = h.held; at = h.at }
  equations_calm (suc n) t f i g j h =
      equation_calm t f i None g j None _ h (λ u hu. equations_calm n u f (suc i) g (suc j) hu)

  -- n cells are copied from the frames of a state that fits
  pub copies_calm : (r : ℕ) (s : State) → Ready code r s → (n : ℕ) (t : State) (f i g j : ℕ) → Calm t
      → Quiet (copies_cells n s.now t f i g j)
  copies_calm r s ready zero t f i g j h = record { by = h.by; held = h.held; at = h.at }
  copies_calm r s ready (suc n) t f i g j h =
      let c : Cell = cell_at s.now g j cell.Unknown in
      if_true_keeps Quiet (number_at t.now f i && number_at s.now g j) _ _
      (λ e.
      let content = live_content code r s g j cell.Unknown ready (and_parts (number_at t.now f i) (number_at s.now g j) e).1 in
      copies_calm r s ready n (with_cell t f i c) f (suc i) g (suc j) (with_cell_calm t f i c h (content_no_mark c content.0)))
      (λ _. record { by = h.by; held = h.held; at = h.at })

  -- ---- input

  -- a cell is read as the input position
  as_position_calm : (o : Option Cell) (t : State) (k : ℕ → StepResult) → Calm t → ((n : ℕ) → Quiet (k n)) → Quiet (as_position o t k)
  as_position_calm (Some (cell.Int (pos n))) t k h g = g n
  as_position_calm (Some (cell.Int (negsuc n))) t k h g = record { by = h.by; held = h.held; at = h.at }
  as_position_calm (Some cell.Unknown) t k h g = record { by = h.by; held = h.held; at = h.at }
  as_position_calm (Some cell.Unset) t k h g = record { by = h.by; held = h.held; at = h.at }
  as_position_calm (Some (cell.Place p)) t k h g = record { by = h.by; held = h.held; at = h.at }
  as_position_calm (Some (cell.Mark m)) t k h g = record { by = h.by; held = h.held; at = h.at }
  as_position_calm None t k h g = record { by = h.by; held = h.held; at = h.at }

  -- the input position is read
  pub position_calm : (t : State) (k : ℕ → StepResult) → Calm t → ((n : ℕ) → Quiet (k n)) → Quiet (position t k)
  position_calm t k h g = as_position_calm (slice_get (get_or t.now 0 no_frame).cells 0) t k h g

  -- what was read goes to its place
  took_calm : (t : State) (x : Range) (p : CellPlace) (v : ℤ) (n : ℕ) → Calm t → Quiet (take_input t x p v n)
  took_calm t x p v n h =
      ranged_calm x _ t v _ h (λ _. store_calm t 0 0 (pos n) (λ u. store u p.frame p.slot v quiet_step) h
      (λ u hu. store_calm u p.frame p.slot v quiet_step hu (λ w hw. record { by = hw.by; held = hw.held; at = hw.at })))

  -- what was found where a number is read
  pub found_calm : (t : State) (x : Range) (p : CellPlace) (f : ReadInt) → Calm t → Quiet (takes_read t x p f)
  found_calm t x p NoNumber h = record { by = h.by; held = h.held; at = h.at }
  found_calm t x p TooLarge h = record { by = h.by; held = h.held; at = h.at }
  found_calm t x p (Number v n) h = took_calm t x p v n h

  -- what was found where a byte is read
  pub byte_calm : (t : State) (x : Range) (p : CellPlace) (n : ℕ) (o : Option ℕ) → Calm t → Quiet (byte_or_failure t x p n o)
  byte_calm t x p n None h = record { by = h.by; held = h.held; at = h.at }
  byte_calm t x p n (Some b) h = took_calm t x p (pos b) (n + 1) h

  -- ---- places and links

  -- a cell is read as a place
  pub as_place_calm : (o : Option Cell) (t : State) (k : CellPlace → StepResult) → Calm t → ((p : CellPlace) → Quiet (k p))
      → Quiet (as_place o t k)
  as_place_calm (Some (cell.Place p)) t k h g = g p
  as_place_calm (Some cell.Unset) t k h g = record { by = h.by; held = h.held; at = h.at }
  as_place_calm (Some cell.Unknown) t k h g = record { by = h.by; held = h.held; at = h.at }
  as_place_calm (Some (cell.Int v)) t k h g = record { by = h.by; held = h.held; at = h.at }
  as_place_calm (Some (cell.Mark m)) t k h g = record { by = h.by; held = h.held; at = h.at }
  as_place_calm None t k h g = record { by = h.by; held = h.held; at = h.at }

  -- a slot is read as a place
  pub place_calm : (t : State) (n : ℕ) (k : CellPlace → StepResult) → Calm t → ((p : CellPlace) → Quiet (k p)) → Quiet (place t n k)
  place_calm t n k h g = as_place_calm (slot_of t n) t k h g

  -- a slot is read as a link
  pub link_calm : (t : State) (n : ℕ) (k : ℕ → StepResult) → Calm t → ((f : ℕ) → Quiet (k f)) → Quiet (link t n k)
  link_calm t n k h g = as_place_calm (slot_of t n) t (λ p. k p.frame) h (λ p. g p.frame)

  -- a place is put into a slot
  pub put_place_calm : (t : State) (n f : ℕ) (first : ℕ → ℕ) → Calm t → Quiet (put_place t n f first)
  put_place_calm t n f first h = by (kind_of t n)
    where
      by : (o : Option SlotKind)
          → Quiet (to_place o t (λ l. quiet_step (with_slot t n (cell.Place (record { frame = f; slot = first l; len = l })))))
      by (Some (slot.Place l)) =
          let c : Cell = cell.Place (record { frame = f; slot = first l; len = l }) in
          let w = with_cell_calm t (length t.now - 1) n c h (λ m e. absurd (cc)) in
          record { by = w.by; held = w.held; at = w.at }
      by (Some slot.Number) = record { by = h.by; held = h.held; at = h.at }
      by (Some slot.Mark) = record { by = h.by; held = h.held; at = h.at }
      by (Some (slot.Link q)) = record { by = h.by; held = h.held; at = h.at }
      by None = record { by = h.by; held = h.held; at = h.at }

  -- a link is put into a slot
  pub put_link_calm : (t : State) (n f : ℕ) → Calm t → Quiet (put_link t n f)
  put_link_calm t n f h = by (kind_of t n)
    where
      by : (o : Option SlotKind) → Quiet (to_link o t (λ _. quiet_step (with_slot t n (cell.Place (link_to f)))))
      by (Some (slot.Link q)) =
          let w = with_cell_calm t (length t.now - 1) n (cell.Place (link_to f)) h (λ m e. absurd (cc)) in
          record { by = w.by; held = w.held; at = w.at }
      by (Some slot.Number) = record { by = h.by; held = h.held; at = h.at }
      by (Some (slot.Place l)) = record { by = h.by; held = h.held; at = h.at }
      by (Some slot.Mark) = record { by = h.by; held = h.held; at = h.at }
      by None = record { by = h.by; held = h.held; at = h.at }

  -- ---- results, texts and faults

  -- a result goes to the slot that the Call names
  pub result_calm : (o : Option Instr) (t : State) (v : ℤ) → Calm t → Quiet (result_to o t v)
  result_calm (Some (I.Call r first to)) t v h =
      let w = with_number_calm t (length t.now - 1) to v h in
      to_number_calm (kind_of t to) t (λ _. answers_return (with_slot t to (cell.Int v))) h
      (record { by = w.by; held = w.held; at = w.at })
  result_calm o t v h = record { by = h.by; held = h.held; at = h.at }

  -- a text that may not be there
  pub text_calm : (o : Option (List ℕ)) (t : State) → Calm t → Quiet (as_text o t)
  text_calm (Some x) t h = record { by = h.by; held = h.held; at = h.at }
  text_calm None t h = record { by = h.by; held = h.held; at = h.at }
