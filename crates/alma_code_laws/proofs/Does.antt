-- What a step makes of the stack of choice entries, and what it answers then.
use Rattle.std.proofs.Common.{◌≡◌, ℕ, zero, suc, ◌+◌, ◌-◌, List, [], ◌∷◌, ◌++◌, length, take, refl, ap, Option, Some, None}
use Rattle.std.specs.Prelude.{ℤ, pos, negsuc, Bool, true, false, ◌&&◌, if◌then◌else◌, nat_lt, nat_eq, nat_le}
use Rattle.alma_base.specs.Choice.{if_true}
use Rattle.alma_base.specs.Numbers.{within, is_integer, int_eq}
use Rattle.alma_base.specs.Limits.{cell_limit, frame_limit}
use Rattle.alma_base.specs.declared.number.Range.{Range}
use Rattle.alma_base.specs.declared.number.ReadInt.{ReadInt}
use Rattle.alma_base.specs.declared.number.ReadInt.TheVariants.{Number, NoNumber, TooLarge}
use Rattle.alma_base.specs.declared.fault.RunFault.{RunFault}
use Rattle.alma_base.specs.declared.fault.RunFault.TheVariants as fault
use Rattle.alma_code.specs.declared.cell.Cell.{Cell}
use Rattle.alma_code.specs.declared.cell.Cell.TheVariants as cell
use Rattle.alma_code.specs.declared.cell.CellPlace.{CellPlace}
use Rattle.alma_code.specs.declared.cell.SlotKind.{SlotKind}
use Rattle.alma_code.specs.declared.cell.SlotKind.TheVariants as slot
use Rattle.alma_code.specs.declared.cell.ChoiceKind.{ChoiceKind}
use Rattle.alma_code.specs.declared.cell.ChoiceKind.TheVariants as choice
use Rattle.alma_code.specs.declared.head.ParamKind.{ParamKind}
use Rattle.alma_code.specs.declared.head.ParamKind.TheVariants as param
use Rattle.alma_code.specs.declared.head.CodeParam.{CodeParam}
use Rattle.alma_code.specs.declared.instr.Instr.{Instr}
use Rattle.alma_code.specs.declared.instr.Instr.TheVariants as I
use Rattle.alma_code.specs.declared.step.Step.{Step}
use Rattle.alma_code.specs.declared.step.Step.TheVariants as answer
use Rattle.alma_code.specs.Head.{PlainHead}
use Rattle.alma_code.specs.Picture.{PlainFrame, PlainEntry, cell_at, live_cells, kind_at}
use Rattle.alma_code.specs.Carries.{number_at, held_after_keep}
use Rattle.alma_code.specs.Plain.{PlainRoutine}
use Rattle.alma_code.specs.Machine.{State, StepResult, quiet_step, slot_of, kind_of, as_number, as_place, as_mark, number, place, mark}
use Rattle.alma_code.specs.Machine.{link}
use Rattle.alma_code.specs.Machine.{with_cell, to_number, to_place, to_mark, to_link, put_number, put_place, put_mark, put_link}
use Rattle.alma_code.specs.Machine.{integer_result, as_content, content, store, with_known_content, as_range, range_check}
use Rattle.alma_code.specs.Machine.{optional_range_check, binds_content, equation_of_contents, equation, equations, copies_cells, is_kind}
use Rattle.alma_code.specs.Machine.{is_forall_at, cut_to, keep, finish, numbers_at, as_argument, arguments, enters_routine, as_routine}
use Rattle.alma_code.specs.Machine.{result_to, as_position, position, take_input, takes_read, byte_or_failure, as_text, as_fault}

-- neither a push nor a pop
abbrev pub is_quiet : Step → Bool
is_quiet (answer.Chose h) = false
is_quiet (answer.Popped h) = false
is_quiet _ = true

-- the entry of a push
abbrev pub entry_of : ChoiceKind → (resume : ℕ) → List PlainFrame → PlainEntry
entry_of kind resume frames = record { kind = kind; resume = resume; frames = frames; carry = [] }

-- the frames that a push copies, where these were there before the step, and those behind it
abbrev pub copy_of : ChoiceKind → (before behind : List PlainFrame) → List PlainFrame
copy_of kind before behind = if is_kind choice.Body (Some kind) then behind else before

-- The stack becomes what it was; its lowest entries; that with the top entry kept in another; or that with one entry more, of which
-- the step tells the height; no instruction answers a pop. Before are the frames before the step.
pub data Does (old : List PlainEntry) (before : List PlainFrame) (r : StepResult) : Type 0 where
  stays : r.state.held ≡ old → is_quiet r.answer ≡ true → Does old before r
  falls : (n : ℕ) → r.state.held ≡ take n old → is_quiet r.answer ≡ true → Does old before r
  keeps : (h : ℕ) (now : List PlainFrame) → r.state.held ≡ held_after_keep old h now → is_quiet r.answer ≡ true → Does old before r
  pushes : (kind : ChoiceKind) (resume : ℕ) → r.state.held ≡ old ++ entry_of kind resume (copy_of kind before r.state.now) ∷ []
      → r.answer ≡ answer.Chose (length r.state.held) → Does old before r

module _ (old : List PlainEntry) (before : List PlainFrame) where
  abbrev D : StepResult → Type 0
  D r = Does old before r

  -- ---- words that look at one thing

  pub if_true_does : (b : Bool) (k z : Unit {0} → StepResult) → D (k tt) → D (z tt) → D (if_true b k z)
  if_true_does true k z h g = h
  if_true_does false k z h g = g

  pub number_in : (o : Option Cell) (s : State) (k : ℤ → StepResult) → s.held ≡ old → ((v : ℤ) → D (k v)) → D (as_number o s k)
  number_in (Some (cell.Int v)) s k e h = h v
  number_in (Some cell.Unknown) s k e h = stays e refl
  number_in (Some cell.Unset) s k e h = stays e refl
  number_in (Some (cell.Place p)) s k e h = stays e refl
  number_in (Some (cell.Mark m)) s k e h = stays e refl
  number_in None s k e h = stays e refl

  pub place_in : (o : Option Cell) (s : State) (k : CellPlace → StepResult) → s.held ≡ old → ((p : CellPlace) → D (k p))
      → D (as_place o s k)
  place_in (Some (cell.Place p)) s k e h = h p
  place_in (Some cell.Unset) s k e h = stays e refl
  place_in (Some cell.Unknown) s k e h = stays e refl
  place_in (Some (cell.Int v)) s k e h = stays e refl
  place_in (Some (cell.Mark m)) s k e h = stays e refl
  place_in None s k e h = stays e refl

  pub mark_in : (o : Option Cell) (s : State) (k : ℕ → StepResult) → s.held ≡ old → ((m : ℕ) → D (k m)) → D (as_mark o s k)
  mark_in (Some (cell.Mark m)) s k e h = h m
  mark_in (Some cell.Unset) s k e h = stays e refl
  mark_in (Some cell.Unknown) s k e h = stays e refl
  mark_in (Some (cell.Int v)) s k e h = stays e refl
  mark_in (Some (cell.Place p)) s k e h = stays e refl
  mark_in None s k e h = stays e refl

  pub number_slot : (o : Option SlotKind) (s : State) (k : Unit {0} → StepResult) → s.held ≡ old → D (k tt) → D (to_number o s k)
  number_slot (Some slot.Number) s k e h = h
  number_slot (Some (slot.Place l)) s k e h = stays e refl
  number_slot (Some slot.Mark) s k e h = stays e refl
  number_slot (Some (slot.Link r)) s k e h = stays e refl
  number_slot None s k e h = stays e refl

  pub place_slot : (o : Option SlotKind) (s : State) (k : ℕ → StepResult) → s.held ≡ old → ((l : ℕ) → D (k l)) → D (to_place o s k)
  place_slot (Some (slot.Place l)) s k e h = h l
  place_slot (Some slot.Number) s k e h = stays e refl
  place_slot (Some slot.Mark) s k e h = stays e refl
  place_slot (Some (slot.Link r)) s k e h = stays e refl
  place_slot None s k e h = stays e refl

  pub mark_slot : (o : Option SlotKind) (s : State) (k : Unit {0} → StepResult) → s.held ≡ old → D (k tt) → D (to_mark o s k)
  mark_slot (Some slot.Mark) s k e h = h
  mark_slot (Some slot.Number) s k e h = stays e refl
  mark_slot (Some (slot.Place l)) s k e h = stays e refl
  mark_slot (Some (slot.Link r)) s k e h = stays e refl
  mark_slot None s k e h = stays e refl

  pub link_slot : (o : Option SlotKind) (s : State) (k : Unit {0} → StepResult) → s.held ≡ old → D (k tt) → D (to_link o s k)
  link_slot (Some (slot.Link r)) s k e h = h
  link_slot (Some slot.Number) s k e h = stays e refl
  link_slot (Some (slot.Place l)) s k e h = stays e refl
  link_slot (Some slot.Mark) s k e h = stays e refl
  link_slot None s k e h = stays e refl

  pub content_in : (b : Bool) (c : Cell) (s : State) (k : Option ℤ → StepResult) → s.held ≡ old → ((u : Option ℤ) → D (k u))
      → D (as_content b c s k)
  content_in true (cell.Int v) s k e h = h (Some v)
  content_in true cell.Unknown s k e h = h None
  content_in true cell.Unset s k e h = stays e refl
  content_in true (cell.Place p) s k e h = stays e refl
  content_in true (cell.Mark m) s k e h = stays e refl
  content_in false c s k e h = stays e refl

  pub known_in : (o : Option ℤ) (s : State) (k : ℤ → StepResult) → s.held ≡ old → ((v : ℤ) → D (k v)) → D (with_known_content s o k)
  known_in (Some v) s k e h = h v
  known_in None s k e h = stays e refl

  pub range_in : (o : Option Range) (s : State) (k : Range → StepResult) → s.held ≡ old → ((t : Range) → D (k t)) → D (as_range o s k)
  range_in (Some t) s k e h = h t
  range_in None s k e h = stays e refl

  -- ---- words of slots

  pub number_does : (s : State) (n : ℕ) (k : ℤ → StepResult) → s.held ≡ old → ((v : ℤ) → D (k v)) → D (number s n k)
  number_does s n k e h = number_in (slot_of s n) s k e h

  pub place_does : (s : State) (n : ℕ) (k : CellPlace → StepResult) → s.held ≡ old → ((p : CellPlace) → D (k p)) → D (place s n k)
  place_does s n k e h = place_in (slot_of s n) s k e h

  pub mark_does : (s : State) (n : ℕ) (k : ℕ → StepResult) → s.held ≡ old → ((m : ℕ) → D (k m)) → D (mark s n k)
  mark_does s n k e h = mark_in (slot_of s n) s k e h

  pub link_does : (s : State) (n : ℕ) (k : ℕ → StepResult) → s.held ≡ old → ((f : ℕ) → D (k f)) → D (link s n k)
  link_does s n k e h = place_in (slot_of s n) s (λ p. k p.frame) e (λ p. h p.frame)

  pub put_number_does : (s : State) (n : ℕ) (v : ℤ) → s.held ≡ old → D (put_number s n v)
  put_number_does s n v e = number_slot (kind_of s n) s _ e (stays e refl)

  pub put_place_does : (s : State) (n frame : ℕ) (first : ℕ → ℕ) → s.held ≡ old → D (put_place s n frame first)
  put_place_does s n frame first e = place_slot (kind_of s n) s _ e (λ l. stays e refl)

  pub put_mark_does : (s : State) (n m : ℕ) → s.held ≡ old → D (put_mark s n m)
  put_mark_does s n m e = mark_slot (kind_of s n) s _ e (stays e refl)

  pub put_link_does : (s : State) (n frame : ℕ) → s.held ≡ old → D (put_link s n frame)
  put_link_does s n frame e = link_slot (kind_of s n) s _ e (stays e refl)

  pub integer_does : (s : State) (v : ℤ) (k : ℤ → StepResult) → s.held ≡ old → D (k v) → D (integer_result s v k)
  integer_does s v k e h = if_true_does (is_integer v) _ _ h (stays e refl)

  pub check_does : (r : Range) (f : RunFault) (s : State) (v : ℤ) (k : Unit {0} → StepResult) → s.held ≡ old → D (k tt)
      → D (range_check r f s v k)
  check_does r f s v k e h = if_true_does (within r v) k _ h (stays e refl)

  pub optional_check_does : (o : Option Range) (s : State) (v : ℤ) (k : Unit {0} → StepResult) → s.held ≡ old → D (k tt)
      → D (optional_range_check o s v k)
  optional_check_does (Some r) s v k e h = check_does r fault.Range s v k e h
  optional_check_does None s v k e h = h

  -- ---- cells at places

  pub content_does : (s : State) (f n : ℕ) (k : Option ℤ → StepResult) → s.held ≡ old → ((u : Option ℤ) → D (k u)) → D (content s f n k)
  content_does s f n k e h = content_in (number_at s.now f n) (cell_at s.now f n cell.Unset) s k e h

  pub store_does : (s : State) (f n : ℕ) (v : ℤ) (k : State → StepResult) → s.held ≡ old → D (k (with_cell s f n (cell.Int v)))
      → D (store s f n v k)
  store_does s f n v k e h = if_true_does (number_at s.now f n) _ _ h (stays e refl)

  pub binds_does : (s : State) (p : CellPlace) (r : Range) (v : ℤ) (o : Option ℤ) → s.held ≡ old → D (binds_content s p r v o)
  binds_does s p r v (Some u) e = if_true_does (int_eq u v) _ _ (stays e refl) (stays e refl)
  binds_does s p r v None e = check_does r fault.Range s v _ e (store_does s p.frame p.slot v quiet_step e (stays e refl))

  pub contents_do : (s : State) (f i : ℕ) (r : Option Range) (u : Option ℤ) (g j : ℕ) (t : Option Range) (v : Option ℤ)
      (k : State → StepResult)
      → s.held ≡ old → ((x : State) → x.held ≡ old → D (k x)) → D (equation_of_contents s f i r u g j t v k)
  contents_do s f i r None g j t None k e h = stays e refl
  contents_do s f i r None g j t (Some v) k e h =
      optional_check_does r s v _ e (store_does s f i v k e (h (with_cell s f i (cell.Int v)) e))
  contents_do s f i r (Some u) g j t None k e h =
      optional_check_does t s u _ e (store_does s g j u k e (h (with_cell s g j (cell.Int u)) e))
  contents_do s f i r (Some u) g j t (Some v) k e h = if_true_does (int_eq u v) _ _ (h s e) (stays e refl)

  pub equation_does : (s : State) (f i : ℕ) (r : Option Range) (g j : ℕ) (t : Option Range) (k : State → StepResult)
      → s.held ≡ old → ((x : State) → x.held ≡ old → D (k x)) → D (equation s f i r g j t k)
  equation_does s f i r g j t k e h = content_does s f i _ e (λ u. content_does s g j _ e (λ v. contents_do s f i r u g j t v k e h))

  pub equations_do : (n : ℕ) (s : State) (f i g j : ℕ) → s.held ≡ old → D (equations n s f i g j)
  equations_do zero s f i g j e = stays e refl
  equations_do (suc n) s f i g j e = equation_does s f i None g j None _ e (λ t et. equations_do n t f (suc i) g (suc j) et)

  pub copies_do : (n : ℕ) (from : List PlainFrame) (s : State) (f i g j : ℕ) → s.held ≡ old → D (copies_cells n from s f i g j)
  copies_do zero from s f i g j e = stays e refl
  copies_do (suc n) from s f i g j e =
      if_true_does (number_at s.now f i && number_at from g j) _ _
      (copies_do n from (with_cell s f i (cell_at from g j cell.Unknown)) f (suc i) g (suc j) e) (stays e refl)

  -- ---- choice entries

  pub cut_does : (s : State) (h : ℕ) → s.held ≡ old → D (cut_to s h)
  cut_does s h e = if_true_does (nat_lt h (length s.held)) _ _ (falls h (ap (take h) e) refl) (stays e refl)

  pub keep_does : (s : State) (h : ℕ) → s.held ≡ old → D (keep s h)
  keep_does s h e =
      if_true_does (is_forall_at s.held h && (nat_lt h (length s.held) && is_kind choice.Body (kind_at s.held (length s.held)))) _ _
      (keeps h s.now (ap (λ x. held_after_keep x h s.now) e) refl) (stays e refl)

  pub finish_does : (s : State) → s.held ≡ old → D (finish s)
  finish_does s e =
      if_true_does (is_kind choice.Done (kind_at s.held (length s.held))) _ _
      (falls (length s.held - 1) (ap (take (length s.held - 1)) e) refl) (stays e refl)

  -- ---- calls

  pub argument_does : (kind : ParamKind) (n : ℕ) (o : Option Cell) (s : State) (k : Cell → StepResult) → s.held ≡ old
      → ((c : Cell) → D (k c))
      → D (as_argument kind n o s k)
  argument_does kind n None s k e h = stays e refl
  argument_does kind n (Some cell.Unknown) s k e h = stays e refl
  argument_does kind n (Some cell.Unset) s k e h = stays e refl
  argument_does kind n (Some (cell.Mark m)) s k e h = stays e refl
  argument_does param.Value n (Some (cell.Int v)) s k e h = h (cell.Int v)
  argument_does param.Mix n (Some (cell.Int v)) s k e h = h (cell.Int v)
  argument_does param.Place n (Some (cell.Int v)) s k e h = stays e refl
  argument_does param.Cells n (Some (cell.Int v)) s k e h = stays e refl
  argument_does param.Link n (Some (cell.Int v)) s k e h = stays e refl
  argument_does param.Value n (Some (cell.Place p)) s k e h = stays e refl
  argument_does param.Mix n (Some (cell.Place p)) s k e h = if_true_does (nat_eq p.len 1) _ _ (h (cell.Place p)) (stays e refl)
  argument_does param.Place n (Some (cell.Place p)) s k e h = if_true_does (nat_eq p.len n) _ _ (h (cell.Place p)) (stays e refl)
  argument_does param.Cells n (Some (cell.Place p)) s k e h =
      if_true_does (nat_eq p.len n && numbers_at n s.now p.frame p.slot) _ _ (h (cell.Place p)) (stays e refl)
  argument_does param.Link n (Some (cell.Place p)) s k e h =
      if_true_does (nat_eq p.slot 0 && nat_eq p.len 0) _ _ (h (cell.Place p)) (stays e refl)

  pub arguments_do : (ps : List CodeParam) (s : State) (n : ℕ) (k : List Cell → StepResult) → s.held ≡ old → ((cs : List Cell) → D (k cs))
      → D (arguments ps s n k)
  arguments_do [] s n k e h = h []
  arguments_do (p ∷ ps) s n k e h = argument_does p.kind p.cells (slot_of s n) s _ e (λ c. arguments_do ps s (suc n) _ e (λ cs. h (c ∷ cs)))

  pub enters_does : (s : State) (r start : ℕ) (h : PlainHead) (args : List Cell) → s.held ≡ old → D (enters_routine s r start h args)
  enters_does s r start h args e =
      if_true_does (nat_lt (length s.now) frame_limit) _ _
      (if_true_does (nat_le (live_cells s.now + h.declared) cell_limit) _ _ (stays e refl) (stays e refl)) (stays e refl)

  pub routine_does : (o : Option PlainRoutine) (s : State) (k : PlainHead → StepResult) → s.held ≡ old → ((h : PlainHead) → D (k h))
      → D (as_routine o s k)
  routine_does (Some r) s k e h = h r.head
  routine_does None s k e h = stays e refl

  pub result_does : (o : Option Instr) (s : State) (v : ℤ) → s.held ≡ old → D (result_to o s v)
  result_does (Some (I.Const x0 x1)) s v e = stays e refl
  result_does (Some (I.Move x0 x1)) s v e = stays e refl
  result_does (Some (I.Add x0 x1 x2)) s v e = stays e refl
  result_does (Some (I.Sub x0 x1 x2)) s v e = stays e refl
  result_does (Some (I.Mul x0 x1 x2)) s v e = stays e refl
  result_does (Some (I.Div x0 x1 x2)) s v e = stays e refl
  result_does (Some (I.Mod x0 x1 x2)) s v e = stays e refl
  result_does (Some (I.Neg x0 x1)) s v e = stays e refl
  result_does (Some (I.Equal x0 x1 x2)) s v e = stays e refl
  result_does (Some (I.Less x0 x1 x2)) s v e = stays e refl
  result_does (Some (I.LessEq x0 x1 x2)) s v e = stays e refl
  result_does (Some (I.Flip x0 x1)) s v e = stays e refl
  result_does (Some (I.InRange x0 x1)) s v e = stays e refl
  result_does (Some (I.Local x0 x1)) s v e = stays e refl
  result_does (Some (I.Global x0 x1)) s v e = stays e refl
  result_does (Some (I.Same x0 x1)) s v e = stays e refl
  result_does (Some (I.Field x0 x1 x2)) s v e = stays e refl
  result_does (Some (I.Index x0 x1 x2 x3)) s v e = stays e refl
  result_does (Some (I.Load x0 x1)) s v e = stays e refl
  result_does (Some (I.Store x0 x1)) s v e = stays e refl
  result_does (Some (I.Known x0 x1)) s v e = stays e refl
  result_does (Some (I.Bind x0 x1 x2)) s v e = stays e refl
  result_does (Some (I.Unify x0 x1 x2 x3)) s v e = stays e refl
  result_does (Some (I.CopyCells x0 x1)) s v e = stays e refl
  result_does (Some (I.SameCells x0 x1)) s v e = stays e refl
  result_does (Some (I.Jump x0)) s v e = stays e refl
  result_does (Some (I.JumpZero x0 x1)) s v e = stays e refl
  result_does (Some (I.Check x0)) s v e = stays e refl
  result_does (Some I.Fail) s v e = stays e refl
  result_does (Some (I.Mark x0)) s v e = stays e refl
  result_does (Some (I.Cut x0)) s v e = stays e refl
  result_does (Some (I.Choose x0)) s v e = stays e refl
  result_does (Some (I.Forall x0 x1)) s v e = stays e refl
  result_does (Some (I.Overlay x0 x1)) s v e = stays e refl
  result_does (Some (I.Keep x0)) s v e = stays e refl
  result_does (Some I.Finish) s v e = stays e refl
  result_does (Some (I.Call r first to)) s v e = number_slot (kind_of s to) s _ e (stays e refl)
  result_does (Some I.Return) s v e = stays e refl
  result_does (Some (I.ReturnValue x0)) s v e = stays e refl
  result_does (Some (I.ReadInt x0 x1)) s v e = stays e refl
  result_does (Some (I.ReadChar x0 x1)) s v e = stays e refl
  result_does (Some (I.WriteInt x0)) s v e = stays e refl
  result_does (Some (I.WriteChar x0)) s v e = stays e refl
  result_does (Some (I.WriteBool x0)) s v e = stays e refl
  result_does (Some (I.WriteText x0)) s v e = stays e refl
  result_does (Some I.WriteLine) s v e = stays e refl
  result_does (Some (I.Fault x0)) s v e = stays e refl
  result_does (Some (I.Step x0 x1 x2 x3)) s v e = stays e refl
  result_does (Some (I.Own x0)) s v e = stays e refl
  result_does (Some (I.Chain x0 x1 x2)) s v e = stays e refl
  result_does (Some (I.Outer x0 x1 x2)) s v e = stays e refl
  result_does (Some (I.OuterSame x0 x1 x2)) s v e = stays e refl
  result_does None s v e = stays e refl

  -- ---- input, texts and faults

  pub position_in : (o : Option Cell) (s : State) (k : ℕ → StepResult) → s.held ≡ old → ((n : ℕ) → D (k n)) → D (as_position o s k)
  position_in (Some (cell.Int (pos n))) s k e h = h n
  position_in (Some (cell.Int (negsuc n))) s k e h = stays e refl
  position_in (Some cell.Unknown) s k e h = stays e refl
  position_in (Some cell.Unset) s k e h = stays e refl
  position_in (Some (cell.Place p)) s k e h = stays e refl
  position_in (Some (cell.Mark m)) s k e h = stays e refl
  position_in None s k e h = stays e refl

  pub position_does : (s : State) (k : ℕ → StepResult) → s.held ≡ old → ((n : ℕ) → D (k n)) → D (position s k)
  position_does s k e h = position_in _ s k e h

  pub input_does : (s : State) (r : Range) (p : CellPlace) (v : ℤ) (behind : ℕ) → s.held ≡ old → D (take_input s r p v behind)
  input_does s r p v behind e =
      check_does r fault.Range s v _ e (store_does s 0 0 (pos behind) (λ t. store t p.frame p.slot v quiet_step) e
      (store_does (with_cell s 0 0 (cell.Int (pos behind))) p.frame p.slot v quiet_step e (stays e refl)))

  pub read_does : (s : State) (r : Range) (p : CellPlace) (x : ReadInt) → s.held ≡ old → D (takes_read s r p x)
  read_does s r p NoNumber e = stays e refl
  read_does s r p TooLarge e = stays e refl
  read_does s r p (Number v behind) e = input_does s r p v behind e

  pub byte_does : (s : State) (r : Range) (p : CellPlace) (at : ℕ) (o : Option ℕ) → s.held ≡ old → D (byte_or_failure s r p at o)
  byte_does s r p at None e = stays e refl
  byte_does s r p at (Some byte) e = input_does s r p (pos byte) (at + 1) e

  pub text_does : (o : Option (List ℕ)) (s : State) → s.held ≡ old → D (as_text o s)
  text_does (Some t) s e = stays e refl
  text_does None s e = stays e refl

  pub fault_does : (o : Option RunFault) (s : State) → s.held ≡ old → D (as_fault o s)
  fault_does (Some f) s e = stays e refl
  fault_does None s e = stays e refl
