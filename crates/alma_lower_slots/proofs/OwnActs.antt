-- The words of the machine keep that each place names own slots.
use Rattle.std.proofs.Common.{◌≡◌, ℕ, zero, suc, ◌+◌, ◌-◌, ◌≤◌, List, [], ◌∷◌, length, get_or, set, take, refl, sym, ◌∙◌, subst, arith}
use Rattle.std.proofs.Common.{Option, Some, None, length-set}
use Rattle.std.specs.Prelude.{ℤ, pos, negsuc, slice_get, Bool, true, false, ◌&&◌, nat_lt, if◌then◌else◌}
use Rattle.std.proofs.lemmas.Bool.{ltb-true}
use Rattle.alma_base.specs.Carry.{Change, Carry, with_changes}
use Rattle.alma_base.specs.declared.fault.RunFault.{RunFault}
use Rattle.alma_base.specs.declared.number.Range.{Range}
use Rattle.alma_base.specs.declared.number.ReadInt.{ReadInt}
use Rattle.alma_base.specs.declared.number.ReadInt.TheVariants.{Number, NoNumber, TooLarge}
use Rattle.alma_base.specs.Numbers.{within, is_integer, int_eq}
use Rattle.alma_code.specs.Carries.{number_at, frames_with_change, frames_with_carry, with_carry, diffs}
use Rattle.alma_code.specs.declared.cell.Cell.{Cell}
use Rattle.alma_code.specs.declared.cell.Cell.TheVariants as cell
use Rattle.alma_code.specs.declared.cell.CellPlace.{CellPlace}
use Rattle.alma_code.specs.declared.cell.ChoiceKind.{ChoiceKind}
use Rattle.alma_code.specs.declared.cell.ChoiceKind.TheVariants as choice
use Rattle.alma_code.specs.declared.cell.SlotKind.{SlotKind}
use Rattle.alma_code.specs.declared.cell.SlotKind.TheVariants as slot
use Rattle.alma_code.specs.Fits.{routines_of, IsContent, FitsFrames, FitsHeld, AllFit}
use Rattle.alma_code.specs.Machine.{State, StepResult, quiet_step, slot_of, kind_of, as_number, as_mark}
use Rattle.alma_code.specs.Machine.{number, mark, with_cell, with_slot, to_number, to_mark, put_number}
use Rattle.alma_code.specs.Machine.{put_mark, integer_result, as_content}
use Rattle.alma_code.specs.Machine.{content, store, with_known_content, as_range, range_check, optional_range_check}
use Rattle.alma_code.specs.Machine.{binds_content, equations}
use Rattle.alma_code.specs.Machine.{equation_of_contents, equation, copies_cells, is_kind, is_forall_at, state_after_push}
use Rattle.alma_code.specs.Machine.{cut_to, state_with_carry, overlay, keep, finish, pop_or_end, state_after_leave}
use Rattle.alma_code.specs.Machine.{as_position, position, take_input, takes_read, byte_or_failure}
use Rattle.alma_code.specs.Picture.{PlainFrame, PlainEntry, no_frame, cell_at, frames_with_cell, top_of, entry_at, kind_at}
use Rattle.alma_code.specs.Picture.{entry_after_pop, entry_of_kind_after_pop}
use Rattle.alma_code.specs.Plain.{PlainCode}
use Rattle.alma_code_laws.proofs.Acts.{is_kind_within}
use Rattle.alma_code_laws.proofs.Ready.{if_true_keeps}
use Rattle.alma_code_laws.proofs.Writes.{written-routines}
use Rattle.alma_lower_slots.specs.Sharing.{Sharing}
use Rattle.alma_lower_slots.proofs.Alike.{NamesOwn, OwnPlaces, OwnState}
use Rattle.alma_lower_slots.proofs.OwnPlaces.{IfPlace, own_cell, written_own, left_own, OwnHeld, held_any, held_taken, held_none, held_one}
use Rattle.alma_lower_slots.proofs.OwnPlaces.{held_joined, held_replaced}

module _ (s : Sharing) where
  -- each place of the state after a step names own slots
  abbrev pub Own : StepResult → Type 0
  Own x = OwnState s x.state

  -- ---- numbers

  -- a cell is read as a number
  pub as_number_own : (o : Option Cell) (t : State) (k : ℤ → StepResult) → OwnState s t → ((v : ℤ) → Own (k v)) → Own (as_number o t k)
  as_number_own (Some (cell.Int v)) t k h g = g v
  as_number_own (Some cell.Unknown) t k h g = record { now = h.now; held = h.held }
  as_number_own (Some cell.Unset) t k h g = record { now = h.now; held = h.held }
  as_number_own (Some (cell.Place p)) t k h g = record { now = h.now; held = h.held }
  as_number_own (Some (cell.Mark m)) t k h g = record { now = h.now; held = h.held }
  as_number_own None t k h g = record { now = h.now; held = h.held }

  -- a slot is read as a number
  pub number_own : (t : State) (n : ℕ) (k : ℤ → StepResult) → OwnState s t → ((v : ℤ) → Own (k v)) → Own (number t n k)
  number_own t n k h g = as_number_own (slot_of t n) t k h g

  -- two slots are read as numbers
  pub two_own : (t : State) (b c : ℕ) (k : ℤ → ℤ → StepResult) → OwnState s t → ((x y : ℤ) → Own (k x y))
      → Own (number t b (λ x. number t c (λ y. k x y)))
  two_own t b c k h g = number_own t b (λ x. number t c (λ y. k x y)) h (λ x. number_own t c (λ y. k x y) h (λ y. g x y))

  -- a cell is read as a mark
  as_mark_own : (o : Option Cell) (t : State) (k : ℕ → StepResult) → OwnState s t → ((v : ℕ) → Own (k v)) → Own (as_mark o t k)
  as_mark_own (Some (cell.Mark m)) t k h g = g m
  as_mark_own (Some cell.Unset) t k h g = record { now = h.now; held = h.held }
  as_mark_own (Some cell.Unknown) t k h g = record { now = h.now; held = h.held }
  as_mark_own (Some (cell.Int v)) t k h g = record { now = h.now; held = h.held }
  as_mark_own (Some (cell.Place p)) t k h g = record { now = h.now; held = h.held }
  as_mark_own None t k h g = record { now = h.now; held = h.held }

  -- a slot is read as a mark
  pub mark_own : (t : State) (n : ℕ) (k : ℕ → StepResult) → OwnState s t → ((v : ℕ) → Own (k v)) → Own (mark t n k)
  mark_own t n k h g = as_mark_own (slot_of t n) t k h g

  -- a cell is written
  pub with_cell_own : (t : State) (f i : ℕ) (c : Cell) → OwnState s t → IfPlace (NamesOwn s (routines_of t.now)) c
      → OwnState s (with_cell t f i c)
  with_cell_own t f i c h hc = record { now = written_own s t.now f i c h.now hc; held = h.held }

  -- a number is written
  pub with_number_own : (t : State) (f i : ℕ) (v : ℤ) → OwnState s t → OwnState s (with_cell t f i (cell.Int v))
  with_number_own t f i v h = with_cell_own t f i (cell.Int v) h (λ p e. absurd (cc))

  -- the slot that is written is a number slot
  pub to_number_own : (o : Option SlotKind) (t : State) (k : Unit {0} → StepResult) → OwnState s t → Own (k tt) → Own (to_number o t k)
  to_number_own (Some slot.Number) t k h g = g
  to_number_own (Some (slot.Place l)) t k h g = record { now = h.now; held = h.held }
  to_number_own (Some slot.Mark) t k h g = record { now = h.now; held = h.held }
  to_number_own (Some (slot.Link r)) t k h g = record { now = h.now; held = h.held }
  to_number_own None t k h g = record { now = h.now; held = h.held }

  -- it is a mark slot
  pub to_mark_own : (o : Option SlotKind) (t : State) (k : Unit {0} → StepResult) → OwnState s t → Own (k tt) → Own (to_mark o t k)
  to_mark_own (Some slot.Mark) t k h g = g
  to_mark_own (Some slot.Number) t k h g = record { now = h.now; held = h.held }
  to_mark_own (Some (slot.Place l)) t k h g = record { now = h.now; held = h.held }
  to_mark_own (Some (slot.Link r)) t k h g = record { now = h.now; held = h.held }
  to_mark_own None t k h g = record { now = h.now; held = h.held }

  -- a number is put into a slot
  pub put_number_own : (t : State) (n : ℕ) (v : ℤ) → OwnState s t → Own (put_number t n v)
  put_number_own t n v h =
      let w = with_number_own t (length t.now - 1) n v h in
      to_number_own (kind_of t n) t (λ _. quiet_step (with_slot t n (cell.Int v))) h (record { now = w.now; held = w.held })

  -- a mark is put into a slot
  pub put_mark_own : (t : State) (n m : ℕ) → OwnState s t → Own (put_mark t n m)
  put_mark_own t n m h =
      let w = with_cell_own t (length t.now - 1) n (cell.Mark m) h (λ p e. absurd (cc)) in
      to_mark_own (kind_of t n) t (λ _. quiet_step (with_slot t n (cell.Mark m))) h (record { now = w.now; held = w.held })

  -- a result that may be out of INTEGER
  pub integer_own : (t : State) (v : ℤ) (k : ℤ → StepResult) → OwnState s t → ((v : ℤ) → Own (k v)) → Own (integer_result t v k)
  integer_own t v k h g = if_true_keeps Own (is_integer v) _ _ (λ _. g v) (λ _. record { now = h.now; held = h.held })

  -- ---- cells at places

  -- a cell is looked at as a content
  as_content_own : (b : Bool) (c : Cell) (t : State) (k : Option ℤ → StepResult) → OwnState s t → ((o : Option ℤ) → Own (k o))
      → Own (as_content b c t k)
  as_content_own true (cell.Int v) t k h g = g (Some v)
  as_content_own true cell.Unknown t k h g = g None
  as_content_own true cell.Unset t k h g = record { now = h.now; held = h.held }
  as_content_own true (cell.Place p) t k h g = record { now = h.now; held = h.held }
  as_content_own true (cell.Mark m) t k h g = record { now = h.now; held = h.held }
  as_content_own false c t k h g = record { now = h.now; held = h.held }

  -- the cell at a place is looked at
  pub content_own : (t : State) (f n : ℕ) (k : Option ℤ → StepResult) → OwnState s t → ((o : Option ℤ) → Own (k o)) → Own (content t f n k)
  content_own t f n k h g = as_content_own (number_at t.now f n) (cell_at t.now f n cell.Unset) t k h g

  -- the cell at a place gets a number
  pub store_own : (t : State) (f n : ℕ) (v : ℤ) (k : State → StepResult) → OwnState s t → ((u : State) → OwnState s u → Own (k u))
      → Own (store t f n v k)
  store_own t f n v k h g =
      if_true_keeps Own (number_at t.now f n) _ _ (λ _. g (with_cell t f n (cell.Int v)) (with_number_own t f n v h))
      (λ _. record { now = h.now; held = h.held })

  -- a content that may be unknown
  pub known_own : (o : Option ℤ) (t : State) (k : ℤ → StepResult) → OwnState s t → ((v : ℤ) → Own (k v)) → Own (with_known_content t o k)
  known_own (Some v) t k h g = g v
  known_own None t k h g = record { now = h.now; held = h.held }

  -- a range that may not be there
  pub as_range_own : (o : Option Range) (t : State) (k : Range → StepResult) → OwnState s t → ((x : Range) → o ≡ Some x → Own (k x))
      → Own (as_range o t k)
  as_range_own (Some x) t k h g = g x refl
  as_range_own None t k h g = record { now = h.now; held = h.held }

  -- a number that may be out of range
  pub ranged_own : (x : Range) (f : RunFault) (t : State) (v : ℤ) (k : Unit {0} → StepResult) → OwnState s t
      → (within x v ≡ true → Own (k tt)) → Own (range_check x f t v k)
  ranged_own x f t v k h g = if_true_keeps Own (within x v) _ _ g (λ _. record { now = h.now; held = h.held })

  -- the same where there may be no range
  pub ranged_if_own : (o : Option Range) (t : State) (v : ℤ) (k : Unit {0} → StepResult) → OwnState s t → Own (k tt)
      → Own (optional_range_check o t v k)
  ranged_if_own (Some x) t v k h g = ranged_own x _ t v k h (λ _. g)
  ranged_if_own None t v k h g = g

  -- a cell has a number, or gets it
  pub bound_own : (t : State) (p : CellPlace) (x : Range) (v : ℤ) (o : Option ℤ) → OwnState s t → Own (binds_content t p x v o)
  bound_own t p x v (Some u) h =
      if_true_keeps Own (int_eq u v) _ _ (λ _. record { now = h.now; held = h.held }) (λ _. record { now = h.now; held = h.held })
  bound_own t p x v None h =
      ranged_own x _ t v _ h (λ _. store_own t p.frame p.slot v quiet_step h (λ u hu. record { now = hu.now; held = hu.held }))

  -- two contents are equated
  equated_own : (t : State) (f i : ℕ) (a : Option Range) (u : Option ℤ) (g j : ℕ) (b : Option Range) (v : Option ℤ) (k : State → StepResult)
      → OwnState s t → ((x : State) → OwnState s x → Own (k x)) → Own (equation_of_contents t f i a u g j b v k)
  equated_own t f i a None g j b None k h good = record { now = h.now; held = h.held }
  equated_own t f i a None g j b (Some v) k h good = ranged_if_own a t v _ h (store_own t f i v k h good)
  equated_own t f i a (Some u) g j b None k h good = ranged_if_own b t u _ h (store_own t g j u k h good)
  equated_own t f i a (Some u) g j b (Some v) k h good =
      if_true_keeps Own (int_eq u v) _ _ (λ _. good t h) (λ _. record { now = h.now; held = h.held })

  -- two cells are equated
  pub equation_own : (t : State) (f i : ℕ) (a : Option Range) (g j : ℕ) (b : Option Range) (k : State → StepResult)
      → OwnState s t → ((x : State) → OwnState s x → Own (k x)) → Own (equation t f i a g j b k)
  equation_own t f i a g j b k h good =
      content_own t f i _ h (λ u. content_own t g j _ h (λ v. equated_own t f i a u g j b v k h good))

  -- n cells are equated
  pub equations_own : (n : ℕ) (t : State) (f i g j : ℕ) → OwnState s t → Own (equations n t f i g j)
  equations_own zero t f i g j h = record { now = h.now; held = h.held }
  equations_own (suc n) t f i g j h =
      equation_own t f i None g j None _ h (λ u hu. equations_own n u f (suc i) g (suc j) hu)

  -- n cells are copied
  pub copies_own : (n : ℕ) (before : List PlainFrame) (t : State) (f i g j : ℕ) → OwnState s t → OwnPlaces s before
      → routines_of t.now ≡ routines_of before → Own (copies_cells n before t f i g j)
  copies_own zero before t f i g j h hb same = record { now = h.now; held = h.held }
  copies_own (suc n) before t f i g j h hb same =
      let c : Cell = cell_at before g j cell.Unknown in
      let hc : IfPlace (NamesOwn s (routines_of t.now)) c =
      subst (λ rs. IfPlace (NamesOwn s rs) c) (sym same) (own_cell s before g j hb) in
      if_true_keeps Own (number_at t.now f i && number_at before g j) _ _
      (λ _. copies_own n before (with_cell t f i c) f (suc i) g (suc j) (with_cell_own t f i c h hc) hb
      (written-routines t.now f i c ∙ same))
      (λ _. record { now = h.now; held = h.held })

  -- ---- input

  -- a cell is read as the input position
  as_position_own : (o : Option Cell) (t : State) (k : ℕ → StepResult) → OwnState s t → ((n : ℕ) → Own (k n)) → Own (as_position o t k)
  as_position_own (Some (cell.Int (pos n))) t k h g = g n
  as_position_own (Some (cell.Int (negsuc n))) t k h g = record { now = h.now; held = h.held }
  as_position_own (Some cell.Unknown) t k h g = record { now = h.now; held = h.held }
  as_position_own (Some cell.Unset) t k h g = record { now = h.now; held = h.held }
  as_position_own (Some (cell.Place p)) t k h g = record { now = h.now; held = h.held }
  as_position_own (Some (cell.Mark m)) t k h g = record { now = h.now; held = h.held }
  as_position_own None t k h g = record { now = h.now; held = h.held }

  -- the input position is read
  pub position_own : (t : State) (k : ℕ → StepResult) → OwnState s t → ((n : ℕ) → Own (k n)) → Own (position t k)
  position_own t k h g = as_position_own (slice_get (get_or t.now 0 no_frame).cells 0) t k h g

  -- what was read goes to its place
  took_own : (t : State) (x : Range) (p : CellPlace) (v : ℤ) (n : ℕ) → OwnState s t → Own (take_input t x p v n)
  took_own t x p v n h =
      ranged_own x _ t v _ h (λ _. store_own t 0 0 (pos n) (λ u. store u p.frame p.slot v quiet_step) h
      (λ u hu. store_own u p.frame p.slot v quiet_step hu (λ w hw. record { now = hw.now; held = hw.held })))

  -- what was found where a number is read
  pub found_own : (t : State) (x : Range) (p : CellPlace) (f : ReadInt) → OwnState s t → Own (takes_read t x p f)
  found_own t x p NoNumber h = record { now = h.now; held = h.held }
  found_own t x p TooLarge h = record { now = h.now; held = h.held }
  found_own t x p (Number v n) h = took_own t x p v n h

  -- what was found where a byte is read
  pub byte_own : (t : State) (x : Range) (p : CellPlace) (n : ℕ) (o : Option ℕ) → OwnState s t → Own (byte_or_failure t x p n o)
  byte_own t x p n None h = record { now = h.now; held = h.held }
  byte_own t x p n (Some b) h = took_own t x p (pos b) (n + 1) h

  -- ---- entries

  -- an entry is pushed
  pub pushed_own : (t : State) (kind : ChoiceKind) (resume : ℕ) → OwnState s t → OwnState s (state_after_push t kind resume)
  pushed_own t kind resume h =
      let entry : PlainEntry = record { kind = kind; resume = resume; frames = t.now; carry = [] } in
      record { now = h.now; held = held_joined s t.held (entry ∷ []) h.held (held_one s entry h.now) }

  -- entries fall
  pub cut_own : (t : State) (n : ℕ) → OwnState s t → Own (cut_to t n)
  cut_own t n h =
      if_true_keeps Own (nat_lt n (length t.held)) _ _
      (λ b.
      let lt = ltb-true n (length t.held) b in
      record { now = h.now; held = held_taken s n t.held (omega arith) h.held })
      (λ _. record { now = h.now; held = h.held })

  -- a Body is kept
  pub keep_own : (t : State) (n : ℕ) → OwnState s t → Own (keep t n)
  keep_own t n h =
      let old : PlainEntry = entry_at t.held n in
      let new : PlainEntry = with_carry old (with_changes (diffs (top_of t.held).frames t.now) old.carry) in
      let all = held_replaced s t.held (n - 1) new h.held (held_any s t.held (n - 1) h.held) in
      let le : length t.held - 1 ≤ length (set t.held (n - 1) new) = omega (arith, length-set t.held (n - 1) new) in
      if_true_keeps Own (is_forall_at t.held n && (nat_lt n (length t.held) && is_kind choice.Body (kind_at t.held (length t.held)))) _ _
      (λ _. record { now = h.now; held = held_taken s (length t.held - 1) (set t.held (n - 1) new) le all })
      (λ _. record { now = h.now; held = h.held })

  -- what a pop leaves of an entry
  left_of_pop : (kind : ChoiceKind) (x : PlainEntry) → OwnPlaces s x.frames → OwnHeld s (entry_of_kind_after_pop kind x)
  left_of_pop choice.Forall x h = held_one s (record x { kind = choice.Done }) h
  left_of_pop choice.Branch x h = held_none s
  left_of_pop choice.Body x h = held_none s
  left_of_pop choice.Done x h = held_none s

  -- a pop, where the entries are these
  pub pop_own : (held : List PlainEntry) (t : State) → OwnState s t → Own (pop_or_end t held)
  pop_own [] t h = record { now = h.now; held = h.held }
  pop_own (x ∷ xs) t h =
      let n : ℕ = length t.held - 1 in
      let above = held_any s t.held n h.held in
      record {
        now = above;
        held = held_joined s (take n t.held) (entry_after_pop (top_of t.held)) (held_taken s n t.held (omega arith) h.held)
            (left_of_pop (top_of t.held).kind (top_of t.held) above);
      }

  -- ---- carries

  -- what a number slot may hold is no place
  content_is_none : (P : CellPlace → Type 0) (c : Cell) → IsContent c → IfPlace P c
  content_is_none P cell.Unknown h p e = absurd (cc)
  content_is_none P (cell.Int v) h p e = absurd (cc)
  content_is_none P cell.Unset h p e = absurd h
  content_is_none P (cell.Place q) h p e = absurd h
  content_is_none P (cell.Mark m) h p e = absurd h

  module _ (code : PlainCode) where
    -- one change is laid over the frames
    laid_own : (fs : List PlainFrame) (x : Change Cell) → IsContent x.cell → OwnPlaces s fs → OwnPlaces s (frames_with_change fs x)
    laid_own fs x content h =
        let laid : (b : Bool) → OwnPlaces s (if b then frames_with_cell fs x.frame x.slot x.cell else fs) =
        λ b. elim b as (λ b. OwnPlaces s (if b then frames_with_cell fs x.frame x.slot x.cell else fs)) [
          | true ↦ written_own s fs x.frame x.slot x.cell h (content_is_none (NamesOwn s (routines_of fs)) x.cell content)
          | false ↦ h
        ] in
        laid (number_at fs x.frame x.slot)

    -- a carry is laid over the frames
    carried_own : (xs : Carry Cell) (fs : List PlainFrame) → AllFit code xs → OwnPlaces s fs → OwnPlaces s (frames_with_carry fs xs)
    carried_own [] fs fit h = h
    carried_own (x ∷ xs) fs fit h = carried_own xs (frames_with_change fs x) fit.1 (laid_own fs x fit.0.content h)

    -- the carry of an entry is laid over
    with_carry_own : (t : State) (n : ℕ) → FitsHeld code t.held → (1 ≤ n) × (n ≤ length t.held) → OwnState s t
        → OwnState s (state_with_carry t n)
    with_carry_own t n fit w h =
        record { now = carried_own (entry_at t.held n).carry t.now (fit (n - 1) (omega arith)).carry h.now; held = h.held }

    -- the carry of a Forall is laid over, where there is one
    pub overlay_own : (t : State) (n : ℕ) → FitsHeld code t.held → OwnState s t → OwnState s (overlay t n)
    overlay_own t n fit h =
        if_true_keeps (OwnState s) (is_forall_at t.held n) (λ _. state_with_carry t n) (λ _. t)
        (λ e. with_carry_own t n fit (is_kind_within code choice.Forall t.held n e) h) (λ _. h)

    -- a Done on top is finished
    pub finish_own : (t : State) → FitsHeld code t.held → OwnState s t → Own (finish t)
    finish_own t fit h =
        let n : ℕ = length t.held in
        if_true_keeps Own (is_kind choice.Done (kind_at t.held n)) _ _
        (λ b.
        let u = with_carry_own t n fit (is_kind_within code choice.Done t.held n b) h in
        record { now = u.now; held = held_taken s (n - 1) t.held (omega arith) h.held })
        (λ _. record { now = h.now; held = h.held })

    -- the top frame is left
    pub leave_own : (t : State) → FitsFrames code t.now → OwnState s t → OwnState s (state_after_leave t)
    leave_own t fit h = record { now = left_own code s (length t.now - 1) t.now (omega arith) fit h.now; held = h.held }
