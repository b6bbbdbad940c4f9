-- The copying code machine: what each instruction does, where each choice entry holds a whole copy
-- of the live frames. A read looks at what the slot holds, a write at the kind of the slot, and a
-- place is looked at when one of its cells is used.
use Rattle.std.specs.Prelude.{ℕ, zero, suc, ◌+◌, ◌-◌, ◌*◌, Bool, true, false, not, ◌&&◌, nat_eq, nat_lt, nat_le, ℤ, pos, ◌+ℤ◌, ◌-ℤ◌, ◌*ℤ◌}
use Rattle.std.specs.Prelude.{neg_ℤ, int_lt, int_le, nat_abs, List, [], ◌∷◌, ◌++◌, length, get_or, take, Option, Some, None, slice_get}
use Rattle.std.specs.Int.{int_rem_euclid}
use Rattle.alma_base.specs.Limits.{cell_limit, frame_limit}
use Rattle.alma_base.specs.declared.fault.RunFault.{RunFault}
use Rattle.alma_base.specs.declared.fault.RunFault.TheVariants as fault
use Rattle.alma_base.specs.declared.number.Range.{Range}
use Rattle.alma_base.specs.declared.number.ReadInt.{ReadInt}
use Rattle.alma_base.specs.declared.number.ReadInt.TheVariants.{Number, NoNumber, TooLarge}
use Rattle.alma_base.specs.declared.value.Value.TheVariants as value
use Rattle.alma_base.specs.Choice.{if_true}
use Rattle.alma_base.specs.Numbers.{within, is_integer, int_eq, is_beyond, is_zero, bit, div_down_of, mod_down_of}
use Rattle.alma_base.specs.Reading.{number_from}
use Rattle.alma_base.specs.Value.{value_text}
use Rattle.alma_code.specs.declared.cell.Cell.{Cell}
use Rattle.alma_code.specs.declared.cell.Cell.TheVariants as cell
use Rattle.alma_code.specs.declared.cell.CellPlace.{CellPlace}
use Rattle.alma_code.specs.declared.cell.SlotKind.{SlotKind}
use Rattle.alma_code.specs.declared.cell.SlotKind.TheVariants as slot
use Rattle.alma_code.specs.declared.cell.ChoiceKind.{ChoiceKind}
use Rattle.alma_code.specs.declared.cell.ChoiceKind.TheVariants as choice
use Rattle.alma_code.specs.declared.head.ParamKind.{ParamKind}
use Rattle.alma_code.specs.declared.head.ParamKind.TheVariants as param
use Rattle.alma_code.specs.declared.head.CodeParam.{CodeParam}
use Rattle.alma_code.specs.declared.instr.Instr.{Instr}
use Rattle.alma_code.specs.declared.instr.Instr.TheVariants as I
use Rattle.alma_code.specs.declared.step.Step.{Step}
use Rattle.alma_code.specs.declared.step.Step.TheVariants as answer
use Rattle.alma_code.specs.declared.step.End.{End}
use Rattle.alma_code.specs.declared.step.End.TheVariants as end
use Rattle.alma_code.specs.Head.{PlainHead}
use Rattle.alma_code.specs.Picture.{PlainFrame, PlainEntry, no_frame, frames_with_cell, cell_at, last_frame, without_last, live_cells}
use Rattle.alma_code.specs.Picture.{top_of, entry_at, kind_at, stack_after_pop}
use Rattle.alma_code.specs.Layout.{start_frame, frame_of_call}
use Rattle.alma_code.specs.Carries.{number_at, frames_with_carry, held_after_keep}
use Rattle.alma_code.specs.Plain.{PlainCode, PlainRoutine, head_at, start_at}

-- ---- the state

-- the machine goes on, is failing, has ended, or is stuck: at a slot of a wrong kind, a dead place,
-- or an address or a number that is not in the code; a sound code never comes there
pub data Mode : Type 0 where
  Going : Mode
  Failing : Mode
  Ended : End → Mode
  Stuck : Mode

-- the next address, the address of the last instruction taken, or 0 before any, the live frames,
-- the choice entries from the bottom, and the counts of steps, of entries pushed and of entries
-- popped
pub record State : Type 0 where
  pub at : ℕ
  pub last : ℕ
  pub mode : Mode
  pub now : List PlainFrame
  pub held : List PlainEntry
  pub steps : ℕ
  pub choices : ℕ
  pub fails : ℕ

-- what a step answers, what it prints, and the state after it
pub record StepResult : Type 0 where
  pub answer : Step
  pub printed : List ℕ
  pub state : State

-- ---- how a step ends

-- with an answer, and no print
abbrev pub answers_with : Step → State → StepResult
answers_with a s = record { answer = a; printed = []; state = s }

-- with nothing to tell
abbrev pub quiet_step : State → StepResult
quiet_step s = answers_with answer.Went s

-- with a print, which may be of no bytes
abbrev pub prints_bytes : List ℕ → State → StepResult
prints_bytes bytes s = record { answer = answer.Printed; printed = bytes; state = s }

-- at what a sound code never comes to
abbrev pub gets_stuck : State → StepResult
gets_stuck s = quiet_step (record s { mode = Stuck })

-- with the end of the run; the next address stays behind the instruction that ended it
abbrev pub ends_run : End → State → StepResult
ends_run e s = answers_with (answer.Done e) (record s { mode = Ended e })

-- with a fault; what was written before it in the same step stays written
abbrev pub ends_in_fault : RunFault → State → StepResult
ends_in_fault f s = ends_run (end.Fault f) s

-- with a failure: the next step is a pop
abbrev pub fails_now : State → StepResult
fails_now s = quiet_step (record s { mode = Failing })

-- with a jump
abbrev pub goes_to : ℕ → State → StepResult
goes_to at s = quiet_step (record s { at = at })

-- ---- slots of the top frame

-- the number of the top frame
abbrev pub top : State → ℕ
top s = length s.now - 1

-- what a slot of the top frame holds
abbrev pub slot_of : State → ℕ → Option Cell
slot_of s n = slice_get (last_frame s.now).cells n

-- the kind of a slot of the top frame
abbrev pub kind_of : State → ℕ → Option SlotKind
kind_of s n = slice_get (last_frame s.now).kinds n

-- a cell that is read as a number
abbrev pub as_number : Option Cell → State → (ℤ → StepResult) → StepResult
as_number (Some (cell.Int v)) s k = k v
as_number (Some cell.Unknown) s k = ends_in_fault fault.Unknown s
as_number (Some cell.Unset) s k = gets_stuck s
as_number (Some (cell.Place p)) s k = gets_stuck s
as_number (Some (cell.Mark h)) s k = gets_stuck s
as_number None s k = gets_stuck s

-- a cell that is read as a place
abbrev pub as_place : Option Cell → State → (CellPlace → StepResult) → StepResult
as_place (Some (cell.Place p)) s k = k p
as_place (Some cell.Unset) s k = ends_in_fault fault.Unknown s
as_place (Some cell.Unknown) s k = gets_stuck s
as_place (Some (cell.Int v)) s k = gets_stuck s
as_place (Some (cell.Mark h)) s k = gets_stuck s
as_place None s k = gets_stuck s

-- what a slot of a frame holds, as a link to the frame finds it
abbrev pub slot_in : State → (frame n : ℕ) → Option Cell
slot_in s frame n = slice_get (get_or s.now frame no_frame).cells n

-- a cell that is read as a mark
abbrev pub as_mark : Option Cell → State → (ℕ → StepResult) → StepResult
as_mark (Some (cell.Mark h)) s k = k h
as_mark (Some cell.Unset) s k = ends_in_fault fault.Unknown s
as_mark (Some cell.Unknown) s k = gets_stuck s
as_mark (Some (cell.Int v)) s k = gets_stuck s
as_mark (Some (cell.Place p)) s k = gets_stuck s
as_mark None s k = gets_stuck s

-- goes on with the number in a slot
abbrev pub number : State → ℕ → (ℤ → StepResult) → StepResult
number s n k = as_number (slot_of s n) s k

-- goes on with the place in a slot
abbrev pub place : State → ℕ → (CellPlace → StepResult) → StepResult
place s n k = as_place (slot_of s n) s k

-- goes on with the mark in a slot
abbrev pub mark : State → ℕ → (ℕ → StepResult) → StepResult
mark s n k = as_mark (slot_of s n) s k

-- goes on with the frame that the link in a slot names
abbrev pub link : State → ℕ → (ℕ → StepResult) → StepResult
link s n k = as_place (slot_of s n) s (λ p. k p.frame)

-- the state after a write to a slot of a frame
abbrev pub with_cell : State → ℕ → ℕ → Cell → State
with_cell s frame n c = record s { now = frames_with_cell s.now frame n c }

-- the state after a write to a slot of the top frame
abbrev pub with_slot : State → ℕ → Cell → State
with_slot s n c = with_cell s (top s) n c

-- goes on where the slot that is written is a number slot
abbrev pub to_number : Option SlotKind → State → (Unit {0} → StepResult) → StepResult
to_number (Some slot.Number) s k = k tt
to_number (Some (slot.Place l)) s k = gets_stuck s
to_number (Some slot.Mark) s k = gets_stuck s
to_number (Some (slot.Link r)) s k = gets_stuck s
to_number None s k = gets_stuck s

-- goes on where it is a place slot, with the length that its places have
abbrev pub to_place : Option SlotKind → State → (ℕ → StepResult) → StepResult
to_place (Some (slot.Place l)) s k = k l
to_place (Some slot.Number) s k = gets_stuck s
to_place (Some slot.Mark) s k = gets_stuck s
to_place (Some (slot.Link r)) s k = gets_stuck s
to_place None s k = gets_stuck s

-- goes on where it is a mark slot
abbrev pub to_mark : Option SlotKind → State → (Unit {0} → StepResult) → StepResult
to_mark (Some slot.Mark) s k = k tt
to_mark (Some slot.Number) s k = gets_stuck s
to_mark (Some (slot.Place l)) s k = gets_stuck s
to_mark (Some (slot.Link r)) s k = gets_stuck s
to_mark None s k = gets_stuck s

-- goes on where it is a link slot
abbrev pub to_link : Option SlotKind → State → (Unit {0} → StepResult) → StepResult
to_link (Some (slot.Link r)) s k = k tt
to_link (Some slot.Number) s k = gets_stuck s
to_link (Some (slot.Place l)) s k = gets_stuck s
to_link (Some slot.Mark) s k = gets_stuck s
to_link None s k = gets_stuck s

-- slot n := the number
abbrev pub put_number : State → ℕ → ℤ → StepResult
put_number s n v = to_number (kind_of s n) s (λ _. quiet_step (with_slot s n (cell.Int v)))

-- slot n := the place in a frame, of as many cells as the slot's places have; the first cell may
-- depend on that length
abbrev pub put_place : State → ℕ → ℕ → (ℕ → ℕ) → StepResult
put_place s n frame first = to_place (kind_of s n) s
    (λ l. quiet_step (with_slot s n (cell.Place (record { frame = frame; slot = first l; len = l }))))

-- slot n := the mark
abbrev pub put_mark : State → ℕ → ℕ → StepResult
put_mark s n h = to_mark (kind_of s n) s (λ _. quiet_step (with_slot s n (cell.Mark h)))

-- a link to a frame
abbrev pub link_to : (frame : ℕ) → CellPlace
link_to frame = record { frame = frame; slot = 0; len = 0 }

-- slot n := the link to a frame
abbrev pub put_link : State → ℕ → (frame : ℕ) → StepResult
put_link s n frame = to_link (kind_of s n) s (λ _. quiet_step (with_slot s n (cell.Place (link_to frame))))

-- goes on with a result that is in INTEGER
abbrev pub integer_result : State → ℤ → (ℤ → StepResult) → StepResult
integer_result s v k = if_true (is_integer v) (λ _. k v) (λ _. ends_in_fault fault.Overflow s)

-- ---- cells at places

-- a cell that is looked at as the content of a number slot
abbrev pub as_content : Bool → Cell → State → (Option ℤ → StepResult) → StepResult
as_content true (cell.Int v) s k = k (Some v)
as_content true cell.Unknown s k = k None
as_content true cell.Unset s k = gets_stuck s
as_content true (cell.Place p) s k = gets_stuck s
as_content true (cell.Mark h) s k = gets_stuck s
as_content false c s k = gets_stuck s

-- goes on with the content of a live number slot of a frame
abbrev pub content : State → ℕ → ℕ → (Option ℤ → StepResult) → StepResult
content s frame n k = as_content (number_at s.now frame n) (cell_at s.now frame n cell.Unset) s k

-- a live number slot of a frame := the number
abbrev pub store : State → ℕ → ℕ → ℤ → (State → StepResult) → StepResult
store s frame n v k = if_true (number_at s.now frame n) (λ _. k (with_cell s frame n (cell.Int v))) (λ _. gets_stuck s)

-- goes on with a content that is known
abbrev pub with_known_content : State → Option ℤ → (ℤ → StepResult) → StepResult
with_known_content s (Some v) k = k v
with_known_content s None k = ends_in_fault fault.Unknown s

-- the content is known
abbrev pub is_known : Option ℤ → Bool
is_known (Some v) = true
is_known None = false

-- ---- ranges

-- goes on with a range that is there
abbrev pub as_range : Option Range → State → (Range → StepResult) → StepResult
as_range (Some r) s k = k r
as_range None s k = gets_stuck s

-- goes on where the number is in the range
abbrev pub range_check : Range → RunFault → State → ℤ → (Unit {0} → StepResult) → StepResult
range_check r f s v k = if_true (within r v) k (λ _. ends_in_fault f s)

-- the same where there is a range; with none any number will do
abbrev pub optional_range_check : Option Range → State → ℤ → (Unit {0} → StepResult) → StepResult
optional_range_check (Some r) s v k = range_check r fault.Range s v k
optional_range_check None s v k = k tt

-- a cell with this content has the number, or gets it
abbrev pub binds_content : State → CellPlace → Range → ℤ → Option ℤ → StepResult
binds_content s p r v (Some u) = if_true (int_eq u v) (λ _. quiet_step s) (λ _. fails_now s)
binds_content s p r v None = range_check r fault.Range s v (λ _. store s p.frame p.slot v quiet_step)

-- ---- equations

-- the equation of two cells by their contents: an unknown one gets the other's number
abbrev pub equation_of_contents : State → (f i : ℕ) → Option Range → Option ℤ → (g j : ℕ) → Option Range → Option ℤ → (State → StepResult)
    → StepResult
equation_of_contents s f i r None g j t None k = ends_in_fault fault.Unknown s
equation_of_contents s f i r None g j t (Some v) k = optional_range_check r s v (λ _. store s f i v k)
equation_of_contents s f i r (Some u) g j t None k = optional_range_check t s u (λ _. store s g j u k)
equation_of_contents s f i r (Some u) g j t (Some v) k = if_true (int_eq u v) (λ _. k s) (λ _. fails_now s)

-- the equation of two cells
abbrev pub equation : State → (f i : ℕ) → Option Range → (g j : ℕ) → Option Range → (State → StepResult) → StepResult
equation s f i r g j t k = content s f i (λ u. content s g j (λ v. equation_of_contents s f i r u g j t v k))

-- the equations of n cells, one after another: each sees what the one before wrote
abbrev pub equations : ℕ → State → (f i g j : ℕ) → StepResult
equations zero s f i g j = quiet_step s
equations (suc n) s f i g j = equation s f i None g j None (λ t. equations n t f (suc i) g (suc j))

-- n cells := cells of these frames, which are the frames as they were before
abbrev pub copies_cells : ℕ → (before : List PlainFrame) → State → (f i g j : ℕ) → StepResult
copies_cells zero before s f i g j = quiet_step s
copies_cells (suc n) before s f i g j =
    if_true (number_at s.now f i && number_at before g j)
    (λ _. copies_cells n before (with_cell s f i (cell_at before g j cell.Unknown)) f (suc i) g (suc j))
    (λ _. gets_stuck s)

-- ---- choice entries; heights count from 1 at the bottom

-- there is an entry, and it is of the kind
abbrev pub is_kind : ChoiceKind → Option ChoiceKind → Bool
is_kind choice.Branch (Some choice.Branch) = true
is_kind choice.Forall (Some choice.Forall) = true
is_kind choice.Body (Some choice.Body) = true
is_kind choice.Done (Some choice.Done) = true
is_kind _ _ = false

-- a Forall is at the height
abbrev pub is_forall_at : List PlainEntry → ℕ → Bool
is_forall_at held h = is_kind choice.Forall (kind_at held h)

-- the state after a push of an entry with a copy of the frames; entries of all kinds count as
-- pushed
abbrev pub state_after_push : State → ChoiceKind → ℕ → State
state_after_push s kind resume =
    record s { held = s.held ++ record { kind = kind; resume = resume; frames = s.now; carry = [] } ∷ []; choices = s.choices + 1 }

-- answers the new height
abbrev pub answer_of_push : State → StepResult
answer_of_push s = answers_with (answer.Chose (length s.held)) s

-- answers the height after entries fell
abbrev pub answer_of_fall : State → StepResult
answer_of_fall s = answers_with (answer.Cut (length s.held)) s

-- drops the entries above a height, where there are any
abbrev pub cut_to : State → ℕ → StepResult
cut_to s h = if_true (nat_lt h (length s.held)) (λ _. answer_of_fall (record s { held = take h s.held })) (λ _. quiet_step s)

-- the state after the carry of an entry is laid over the frames
abbrev pub state_with_carry : State → ℕ → State
state_with_carry s h = record s { now = frames_with_carry s.now (entry_at s.held h).carry }

-- lays the carry of a Forall over; where there is none at the height, nothing is laid over
abbrev pub overlay : State → ℕ → State
overlay s h = if_true (is_forall_at s.held h) (λ _. state_with_carry s h) (λ _. s)

-- keeps the Body on top in the Forall at a height below it, whichever Forall that is; else does
-- nothing
abbrev pub keep : State → ℕ → StepResult
keep s h =
    if_true (is_forall_at s.held h && (nat_lt h (length s.held) && is_kind choice.Body (kind_at s.held (length s.held))))
    (λ _. answer_of_fall (record s { held = held_after_keep s.held h s.now }))
    (λ _. quiet_step s)

-- lays the carry of the Done on top over and drops that entry; else does nothing
abbrev pub finish : State → StepResult
finish s =
    if_true (is_kind choice.Done (kind_at s.held (length s.held)))
    (λ _. answer_of_fall (record (state_with_carry s (length s.held)) { held = take (length s.held - 1) s.held }))
    (λ _. quiet_step s)

-- a pop of the entries that are left: with none the run ends, and no pop is counted
abbrev pub pop_or_end : State → List PlainEntry → StepResult
pop_or_end s [] = ends_run end.Failed s
pop_or_end s (e ∷ rest) =
    answers_with (answer.Popped (length s.held))
    (record s {
      mode = Going;
      at = (top_of s.held).resume;
      now = (top_of s.held).frames;
      held = stack_after_pop s.held;
      fails = s.fails + 1;
    })

-- what a failing machine does: it takes the top copy; a Forall that becomes a Done is a pop too
abbrev pub pop : State → StepResult
pop s = pop_or_end s s.held

-- ---- calls

-- n live number slots
abbrev pub numbers_at : ℕ → List PlainFrame → ℕ → ℕ → Bool
numbers_at zero frames f i = true
numbers_at (suc n) frames f i = number_at frames f i && numbers_at n frames f (suc i)

-- a cell that is read as the argument of a parameter
abbrev pub as_argument : ParamKind → ℕ → Option Cell → State → (Cell → StepResult) → StepResult
as_argument kind n None s k = gets_stuck s
as_argument kind n (Some cell.Unknown) s k = ends_in_fault fault.Unknown s
as_argument kind n (Some cell.Unset) s k = ends_in_fault fault.Unknown s
as_argument kind n (Some (cell.Mark h)) s k = gets_stuck s
as_argument param.Value n (Some (cell.Int v)) s k = k (cell.Int v)
as_argument param.Mix n (Some (cell.Int v)) s k = k (cell.Int v)
as_argument param.Place n (Some (cell.Int v)) s k = gets_stuck s
as_argument param.Cells n (Some (cell.Int v)) s k = gets_stuck s
as_argument param.Value n (Some (cell.Place p)) s k = gets_stuck s
as_argument param.Mix n (Some (cell.Place p)) s k = if_true (nat_eq p.len 1) (λ _. k (cell.Place p)) (λ _. gets_stuck s)
as_argument param.Place n (Some (cell.Place p)) s k = if_true (nat_eq p.len n) (λ _. k (cell.Place p)) (λ _. gets_stuck s)
as_argument param.Cells n (Some (cell.Place p)) s k =
    if_true (nat_eq p.len n && numbers_at n s.now p.frame p.slot) (λ _. k (cell.Place p)) (λ _. gets_stuck s)
as_argument param.Link n (Some (cell.Int v)) s k = gets_stuck s
as_argument param.Link n (Some (cell.Place p)) s k =
    if_true (nat_eq p.slot 0 && nat_eq p.len 0) (λ _. k (cell.Place p)) (λ _. gets_stuck s)

-- the argument slots from n on are all read, in order, before anything else is done
abbrev pub arguments : List CodeParam → State → ℕ → (List Cell → StepResult) → StepResult
arguments [] s n k = k []
arguments (p ∷ ps) s n k = as_argument p.kind p.cells (slot_of s n) s (λ c. arguments ps s (suc n) (λ cs. k (c ∷ cs)))

-- enters a routine: DepthFull comes before CellsFull, and only then are the cells of arguments
-- copied
abbrev pub enters_routine : State → ℕ → ℕ → PlainHead → List Cell → StepResult
enters_routine s r start h args =
    if_true (nat_lt (length s.now) frame_limit)
    (λ _. if_true (nat_le (live_cells s.now + h.declared) cell_limit)
    (λ _. answers_with (answer.Called r (length s.now + 1))
    (record s { at = start; now = s.now ++ frame_of_call s.now h r s.at args ∷ [] }))
    (λ _. ends_in_fault fault.CellsFull s))
    (λ _. ends_in_fault fault.DepthFull s)

-- goes on with the head of a routine that is there
abbrev pub as_routine : Option PlainRoutine → State → (PlainHead → StepResult) → StepResult
as_routine (Some r) s k = k r.head
as_routine None s k = gets_stuck s

-- the state after the top frame is left
abbrev pub state_after_leave : State → State
state_after_leave s = record s { at = (last_frame s.now).back; now = without_last s.now }

-- answers how many frames are left
abbrev pub answers_return : State → StepResult
answers_return s = answers_with (answer.Returned (length s.now)) s

-- the slot of the caller that the Call before the return address names := the number
abbrev pub result_to : Option Instr → State → ℤ → StepResult
result_to (Some (I.Call r first to)) s v =
    to_number (kind_of s to) s (λ _. answers_return (with_slot s to (cell.Int v)))
result_to _ s v = gets_stuck s

-- ---- input

-- a cell that is read as the input position
abbrev pub as_position : Option Cell → State → (ℕ → StepResult) → StepResult
as_position (Some (cell.Int (pos n))) s k = k n
as_position _ s k = gets_stuck s

-- goes on with the input position, which is slot 0 of frame 0
abbrev pub position : State → (ℕ → StepResult) → StepResult
position s k = as_position (slice_get (get_or s.now 0 no_frame).cells 0) s k

-- the number goes to the place and the position behind it; with fault Range neither moves
abbrev pub take_input : State → Range → CellPlace → ℤ → ℕ → StepResult
take_input s r p v behind = range_check r fault.Range s v (λ _. store s 0 0 (pos behind) (λ t. store t p.frame p.slot v quiet_step))

-- what was found where a number is read
abbrev pub takes_read : State → Range → CellPlace → ReadInt → StepResult
takes_read s r p NoNumber = fails_now s
takes_read s r p TooLarge = ends_in_fault fault.ReadRange s
takes_read s r p (Number v behind) = take_input s r p v behind

-- what was found where a byte is read
abbrev pub byte_or_failure : State → Range → CellPlace → ℕ → Option ℕ → StepResult
byte_or_failure s r p at None = fails_now s
byte_or_failure s r p at (Some byte) = take_input s r p (pos byte) (at + 1)

-- ---- texts and faults by their numbers

-- prints a text that is there
abbrev pub as_text : Option (List ℕ) → State → StepResult
as_text (Some t) s = prints_bytes t s
as_text None s = gets_stuck s

-- the run faults in the order of their numbers, from 0 on
abbrev pub run_faults : List RunFault
run_faults =
    fault.Unknown ∷ fault.Range ∷ fault.Index ∷ fault.Overflow ∷ fault.ZeroDivide ∷ fault.NoCase
    ∷ fault.NoReturn ∷ fault.ReadRange ∷ fault.DepthFull ∷ fault.CellsFull ∷ []

-- the number of the fault NoCase: no arm of a CASE is for the value
abbrev pub no_case : ℕ
no_case = 5

-- the number of the fault NoReturn: a function ends and has returned nothing
abbrev pub no_return : ℕ
no_return = 6

-- ends in a fault that is there
abbrev pub as_fault : Option RunFault → State → StepResult
as_fault (Some f) s = ends_in_fault f s
as_fault None s = gets_stuck s

-- ---- the instructions, in the order of their opcodes

module _ (code : PlainCode) (input : List ℕ) where
  -- goes on with a range of the code
  abbrev pub range_at : State → ℕ → (Range → StepResult) → StepResult
  range_at s r k = as_range (slice_get code.ranges r) s k

  -- what an instruction does in a state that already goes on at the next address; words are read in
  -- their order
  unfoldable pub act : Instr → State → StepResult
  act (I.Const a v) s = put_number s a v
  act (I.Move a b) s = number s b (λ v. put_number s a v)
  act (I.Add a b c) s = number s b (λ x. number s c (λ y. integer_result s (x +ℤ y) (λ v. put_number s a v)))
  act (I.Sub a b c) s = number s b (λ x. number s c (λ y. integer_result s (x -ℤ y) (λ v. put_number s a v)))
  act (I.Mul a b c) s = number s b (λ x. number s c (λ y. integer_result s (x *ℤ y) (λ v. put_number s a v)))
  act (I.Div a b c) s =
      number s b (λ x. number s c (λ y. if_true (is_zero y) (λ _. ends_in_fault fault.ZeroDivide s)
      (λ _. integer_result s (div_down_of x y) (λ v. put_number s a v))))
  act (I.Mod a b c) s =
      number s b (λ x. number s c (λ y. if_true (is_zero y) (λ _. ends_in_fault fault.ZeroDivide s)
      (λ _. integer_result s (mod_down_of x y) (λ v. put_number s a v))))
  act (I.Neg a b) s = number s b (λ x. integer_result s (neg_ℤ x) (λ v. put_number s a v))
  act (I.Equal a b c) s = number s b (λ x. number s c (λ y. put_number s a (bit (int_eq x y))))
  act (I.Less a b c) s = number s b (λ x. number s c (λ y. put_number s a (bit (int_lt x y))))
  act (I.LessEq a b c) s = number s b (λ x. number s c (λ y. put_number s a (bit (int_le x y))))
  act (I.Flip a b) s = number s b (λ x. put_number s a (bit (is_zero x)))
  act (I.InRange a r) s = number s a (λ v. range_at s r (λ t. range_check t fault.Range s v (λ _. quiet_step s)))
  act (I.Local a b) s = put_place s a (top s) (λ _. b)
  act (I.Global a b) s = put_place s a 0 (λ _. b)
  -- the place has the length of the slot that it goes into: in a sound code that of the slot it
  -- comes from
  act (I.Same a b) s = place s b (λ p. put_place s a p.frame (λ _. p.slot))
  act (I.Field a b c) s = place s b (λ p. put_place s a p.frame (λ _. p.slot + c))
  act (I.Index a b c d) s =
      place s b (λ p. number s c (λ v. range_at s d
      (λ t. range_check t fault.Index s v (λ _. put_place s a p.frame (λ l. p.slot + nat_abs (v -ℤ t.low) * l)))))
  act (I.Load a b) s = place s b (λ p. content s p.frame p.slot (λ c. with_known_content s c (λ v. put_number s a v)))
  act (I.Store a b) s = place s a (λ p. number s b (λ v. store s p.frame p.slot v quiet_step))
  act (I.Known a b) s = place s b (λ p. content s p.frame p.slot (λ c. put_number s a (bit (is_known c))))
  act (I.Bind a b c) s =
      place s a (λ p. number s b (λ v. range_at s c (λ t. content s p.frame p.slot (λ u. binds_content s p t v u))))
  act (I.Unify a b c d) s =
      place s a (λ p. range_at s b (λ r. place s c
      (λ q. range_at s d (λ t. equation s p.frame p.slot (Some r) q.frame q.slot (Some t) quiet_step))))
  act (I.CopyCells a b) s = place s a (λ p. place s b (λ q. copies_cells p.len s.now s p.frame p.slot q.frame q.slot))
  act (I.SameCells a b) s = place s a (λ p. place s b (λ q. equations p.len s p.frame p.slot q.frame q.slot))
  act (I.Jump a) s = goes_to a s
  act (I.JumpZero a b) s = number s a (λ v. if_true (is_zero v) (λ _. goes_to b s) (λ _. quiet_step s))
  act (I.Check a) s = number s a (λ v. if_true (is_zero v) (λ _. fails_now s) (λ _. quiet_step s))
  act I.Fail s = fails_now s
  act (I.Mark a) s = put_mark s a (length s.held)
  act (I.Cut a) s = mark s a (λ h. cut_to s h)
  act (I.Choose a) s = answer_of_push (state_after_push s choice.Branch a)
  -- the copy in the entry has the mark slot as it was before
  act (I.Forall a b) s =
      to_mark (kind_of s a) s (λ _. answer_of_push (with_slot (state_after_push s choice.Forall b) a (cell.Mark (length s.held + 1))))
  -- the copy in the entry has the cells that were laid over
  act (I.Overlay a b) s = mark s a (λ h. answer_of_push (state_after_push (overlay s h) choice.Body b))
  act (I.Keep a) s = mark s a (λ h. keep s h)
  act I.Finish s = finish s
  act (I.Call r b c) s =
      as_routine (slice_get code.routines r) s (λ h. arguments h.params s b (λ args. enters_routine s r (start_at code r) h args))
  act I.Return s = if_true (nat_eq (length s.now) 1) (λ _. ends_run end.Succeeded s) (λ _. answers_return (state_after_leave s))
  act (I.ReturnValue a) s =
      number s a (λ v. result_to (slice_get code.instrs ((last_frame s.now).back - 1)) (state_after_leave s) v)
  act (I.ReadInt a r) s =
      place s a (λ p. range_at s r (λ t. position s (λ n. takes_read s t p (number_from input n))))
  act (I.ReadChar a r) s =
      place s a (λ p. range_at s r (λ t. position s (λ n. byte_or_failure s t p n (slice_get input n))))
  act (I.WriteInt a) s = number s a (λ v. prints_bytes (value_text (value.Int v)) s)
  act (I.WriteChar a) s = number s a (λ v. prints_bytes (value_text (value.Char (nat_abs (int_rem_euclid v (pos 256))))) s)
  act (I.WriteBool a) s = number s a (λ v. prints_bytes (value_text (value.Bool (not (is_zero v)))) s)
  act (I.WriteText a) s = as_text (slice_get code.texts a) s
  act I.WriteLine s = prints_bytes (10 ∷ []) s
  act (I.Fault n) s = as_fault (slice_get run_faults n) s
  act (I.Step a b c d) s =
      number s a (λ x. number s b (λ y. number s c (λ z.
      if_true (is_beyond (x +ℤ z) y z) (λ _. goes_to d s) (λ _. put_number s a (x +ℤ z)))))
  act (I.Own a) s = put_link s a (top s)
  act (I.Chain a b c) s = link s b (λ f. as_place (slot_in s f c) s (λ p. put_link s a p.frame))
  act (I.Outer a b c) s = link s b (λ f. put_place s a f (λ _. c))
  act (I.OuterSame a b c) s = link s b (λ f. as_place (slot_in s f c) s (λ p. put_place s a p.frame (λ _. p.slot)))

  -- ---- steps

  -- the state with one more step counted
  abbrev pub with_step_counted : State → State
  with_step_counted s = record s { steps = s.steps + 1 }

  -- takes the instruction at the address
  abbrev pub fetch_and_act : Option Instr → State → StepResult
  fetch_and_act (Some i) s = act i (record (with_step_counted s) { at = s.at + 1; last = s.at })
  fetch_and_act None s = gets_stuck s

  -- a step is one instruction, or a pop after one that failed; the pop that ends the run is a step
  -- too, and an ended machine does not change
  abbrev pub step_in : Mode → State → StepResult
  step_in Going s = fetch_and_act (slice_get code.instrs s.at) s
  step_in Failing s = pop (with_step_counted s)
  step_in (Ended e) s = answers_with (answer.Done e) s
  step_in Stuck s = gets_stuck s

  -- one step
  abbrev pub step : State → StepResult
  step s = step_in s.mode s

  -- the state after n steps
  abbrev pub after : ℕ → State → State
  after zero s = s
  after (suc n) s = after n (step s).state

  -- what n steps print
  abbrev pub prints : ℕ → State → List ℕ
  prints zero s = []
  prints (suc n) s = (step s).printed ++ prints n (step s).state

-- the state in which a run begins
abbrev pub start : PlainCode → State
start code = record {
  at = 0;
  last = 0;
  mode = Going;
  now = start_frame (head_at code 0) ∷ [];
  held = [];
  steps = 0;
  choices = 0;
  fails = 0;
}
