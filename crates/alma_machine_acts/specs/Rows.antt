-- What the parts of a step need and give.
use Rattle.std.specs.Prelude.{◌≡◌, ◌+◌, ◌-◌, ◌^◌, ◌<◌, ◌≤◌, ◌||◌, ◌+ℤ◌, nat_eq, ℕ, ℤ, true, List, length, get_or, slice_get, Option, Some}
use Rattle.std.specs.Prelude.{None, Result, Ok, Err, MatchResult}
use Rattle.alma_base.specs.Choice.{if_true}
use Rattle.alma_base.specs.Numbers.{is_beyond}
use Rattle.alma_base.specs.declared.fault.RunFault.{RunFault}
use Rattle.alma_code.specs.declared.cell.Cell.{Cell}
use Rattle.alma_code.specs.declared.cell.Cell.TheVariants as cell
use Rattle.alma_code.specs.declared.cell.CellPlace.{CellPlace}
use Rattle.alma_code.specs.declared.cell.SlotKind.TheVariants as slot
use Rattle.alma_code.specs.declared.step.Step.{Step}
use Rattle.alma_code.specs.Fits.{IsContent}
use Rattle.alma_code.specs.Kinds.{is_place, is_link}
use Rattle.alma_code.specs.Machine.{Mode, Going, Failing, Ended, State, StepResult, number, place, content, link, mark, slot_in, as_place}
use Rattle.alma_code.specs.Machine.{put_number, put_place, put_link, ends_in_fault, no_case, no_return}
use Rattle.alma_code.specs.Picture.{PlainFrame, no_frame, last_frame}
use Rattle.alma_code.specs.Rules.{place_length}
use Rattle.alma_memory.specs.Machine.{MachinePicture}
use Rattle.alma_machine_acts.specs.declared.places.Spot.{Spot}
use Rattle.alma_machine_acts.specs.declared.registers.Mode as rust
use Rattle.alma_machine_acts.specs.declared.registers.Mode.TheVariants as mode
use Rattle.alma_machine_acts.specs.declared.registers.Registers.{Registers}
use Rattle.alma_machine_acts.specs.Steps.{IsLive, ModeAfter}

-- ---- the state

-- the mode of the copying code machine
abbrev pub mode_of : rust.Mode → Mode
mode_of mode.Going = Going
mode_of mode.Failing = Failing
mode_of (mode.Ended end) = Ended end

-- the state of the copying code machine: the frames and entries are those of the memory's picture
abbrev pub state_of : {M : Type 0} → (picture : M → MachinePicture) → Registers M → State
state_of picture r = record {
  at = r.at;
  last = r.last;
  mode = mode_of r.mode;
  now = (picture r.memory).now;
  held = (picture r.memory).held;
  steps = r.steps;
  choices = r.choices;
  fails = r.fails;
}

-- ---- what a slot must be

-- a slot of the top frame
pub record HasSlot (now : List PlainFrame) (n : ℕ) : Type 0 where
  pub some : 1 ≤ length now
  pub below : n < length (last_frame now).cells

-- a number slot of a frame, with a content
pub record HasNumberIn (now : List PlainFrame) (frame n : ℕ) : Type 0 where
  pub live : frame < length now
  pub below : n < length (get_or now frame no_frame).cells
  pub kind : slice_get (get_or now frame no_frame).kinds n ≡ Some slot.Number
  pub content : IsContent (get_or (get_or now frame no_frame).cells n cell.Unset)

-- a number slot of the top frame
abbrev pub HasNumber : List PlainFrame → ℕ → Type 0
HasNumber now n = HasNumberIn now (length now - 1) n

-- each number slot stays one
abbrev pub KeepsNumbers : (old new : List PlainFrame) → Type 0
KeepsNumbers old new = (frame n : ℕ) → HasNumberIn old frame n → HasNumberIn new frame n

-- how many cells the places of a slot of the top frame have
abbrev pub width : List PlainFrame → ℕ → ℕ
width now n = place_length (slice_get (last_frame now).kinds n)

-- a place of l number slots of a live frame; where there are any, all are below the greatest number of 32 bits
pub record IsCells (now : List PlainFrame) (l : ℕ) (p : CellPlace) : Type 0 where
  pub live : p.frame < length now
  pub many : p.len ≡ l
  pub few : 1 ≤ l → p.slot + l < 2 ^ 32
  pub each : (k : ℕ) → k < l → HasNumberIn now p.frame (p.slot + k)

-- the cells of a frame from one on are number slots, and where there are any all have numbers of 32 bits
pub record AreNumbers (now : List PlainFrame) (frame first count : ℕ) : Type 0 where
  pub few : 1 ≤ count → first + count < 2 ^ 32
  pub each : (k : ℕ) → k < count → HasNumberIn now frame (first + k)

-- a place of l number slots of a live frame, or no place yet
abbrev pub HoldsCells : List PlainFrame → ℕ → Cell → Type 0
HoldsCells now l (cell.Place p) = IsCells now l p
HoldsCells now l cell.Unset = Unit {0}
HoldsCells now l cell.Unknown = ⊥
HoldsCells now l (cell.Int v) = ⊥
HoldsCells now l (cell.Mark h) = ⊥

-- a slot of the top frame that holds a place of as many number slots as its kind says, or none yet
pub record HasCells (now : List PlainFrame) (n : ℕ) : Type 0 where
  pub some : 1 ≤ length now
  pub below : n < length (last_frame now).cells
  pub content : HoldsCells now (width now n) (get_or (last_frame now).cells n cell.Unset)

-- such a slot, for places of one cell
pub record HasOneCell (now : List PlainFrame) (n : ℕ) : Type 0 where
  pub place : HasCells now n
  pub one : width now n ≡ 1

-- a place slot of the top frame
pub record HasPlace (now : List PlainFrame) (n : ℕ) : Type 0 where
  pub some : 1 ≤ length now
  pub below : n < length (last_frame now).cells
  pub kind : is_place (slice_get (last_frame now).kinds n) ≡ true

-- a place, or none yet
abbrev pub HoldsPlace : Cell → Type 0
HoldsPlace (cell.Place p) = Unit {0}
HoldsPlace cell.Unset = Unit {0}
HoldsPlace cell.Unknown = ⊥
HoldsPlace (cell.Int v) = ⊥
HoldsPlace (cell.Mark h) = ⊥

-- a slot of a frame for places or links
pub record HasPlaceIn (now : List PlainFrame) (frame n : ℕ) : Type 0 where
  pub live : frame < length now
  pub below : n < length (get_or now frame no_frame).cells
  pub content : HoldsPlace (get_or (get_or now frame no_frame).cells n cell.Unset)

-- a slot of the top frame that is read for a link: for places or links
abbrev pub HasLink : List PlainFrame → ℕ → Type 0
HasLink now n = HasPlaceIn now (length now - 1) n

-- a link slot of the top frame, to be written
pub record HasLinkTo (now : List PlainFrame) (n : ℕ) : Type 0 where
  pub some : 1 ≤ length now
  pub below : n < length (last_frame now).cells
  pub kind : is_link (slice_get (last_frame now).kinds n) ≡ true

-- a link leads to a frame that has a slot for places or links
abbrev pub LeadsTo : List PlainFrame → (link n : ℕ) → Type 0
LeadsTo now link n = (p : CellPlace) → slice_get (last_frame now).cells link ≡ Some (cell.Place p) → HasPlaceIn now p.frame n

-- a height, or none yet
abbrev pub HoldsMark : Cell → Type 0
HoldsMark (cell.Mark h) = Unit {0}
HoldsMark cell.Unset = Unit {0}
HoldsMark cell.Unknown = ⊥
HoldsMark (cell.Int v) = ⊥
HoldsMark (cell.Place p) = ⊥

-- a mark slot of the top frame that holds a height, or none yet
pub record HasMark (now : List PlainFrame) (n : ℕ) : Type 0 where
  pub some : 1 ≤ length now
  pub below : n < length (last_frame now).cells
  pub kind : slice_get (last_frame now).kinds n ≡ Some slot.Mark
  pub content : HoldsMark (get_or (last_frame now).cells n cell.Unset)

-- the number of a fault that code may name: of NoCase or of NoReturn
abbrev pub IsFaultNumber : ℕ → Type 0
IsFaultNumber number = (nat_eq number no_case || nat_eq number no_return) ≡ true

-- ---- what a part of a step gives, whatever comes after it

-- a word of the copying code machine goes on with the number, or ends in the fault, in each state with these frames
abbrev pub Gives : List PlainFrame → (State → (ℤ → StepResult) → StepResult) → Result ℤ RunFault → Type 0
Gives now word result = MatchResult result
    (λ v. (s : State) (k : ℤ → StepResult) → s.now ≡ now → word s k ≡ k v)
    (λ f. (s : State) (k : ℤ → StepResult) → s.now ≡ now → word s k ≡ ends_in_fault f s)

-- reading a place goes on with a place of live number slots, or ends in the fault
abbrev pub GivesPlace : List PlainFrame → ℕ → Result CellPlace RunFault → Type 0
GivesPlace now n result = MatchResult result
    (λ p. IsCells now (width now n) p × ((s : State) (k : CellPlace → StepResult) → s.now ≡ now → place s n k ≡ k p))
    (λ f. (s : State) (k : CellPlace → StepResult) → s.now ≡ now → place s n k ≡ ends_in_fault f s)

-- a counter is counted on: the run goes out where the next number is beyond the limit
abbrev pub count_on : State → (counter limit by : ℕ) → (out : StepResult) → (ℤ → StepResult) → StepResult
count_on s counter limit by out k =
    number s counter (λ x. number s limit (λ y. number s by (λ z. if_true (is_beyond (x +ℤ z) y z) (λ _. out) (λ _. k (x +ℤ z)))))

-- the run goes on with the number where there is one, and else elsewhere
abbrev pub next_or : StepResult → (ℤ → StepResult) → Option ℤ → StepResult
next_or out k (Some next) = k next
next_or out k None = out

-- counting on goes on with the next number of the counter, goes out where that is beyond the limit, or ends in the fault
abbrev pub GivesNext : List PlainFrame → (counter limit by : ℕ) → Result (Option ℤ) RunFault → Type 0
GivesNext now counter limit by result = MatchResult result
    (λ next. (s : State) (out : StepResult) (k : ℤ → StepResult) → s.now ≡ now → count_on s counter limit by out k ≡ next_or out k next)
    (λ f. (s : State) (out : StepResult) (k : ℤ → StepResult) → s.now ≡ now → count_on s counter limit by out k ≡ ends_in_fault f s)

-- looking at a number slot of a frame goes on with what it knows
abbrev pub GivesContent : List PlainFrame → (frame n : ℕ) → Option ℤ → Type 0
GivesContent now frame n result = (s : State) (k : Option ℤ → StepResult) → s.now ≡ now → content s frame n k ≡ k result

-- the number goes into the slot, or the run ends in the fault
abbrev pub put_or_fault : State → ℕ → Result ℤ RunFault → StepResult
put_or_fault s n (Ok v) = put_number s n v
put_or_fault s n (Err f) = ends_in_fault f s

-- reading a slot of a frame for places or links goes on with what it holds, or ends in the fault
abbrev pub GivesHeld : List PlainFrame → (frame n : ℕ) → Result CellPlace RunFault → Type 0
GivesHeld now frame n result = MatchResult result
    (λ p. (s : State) (k : CellPlace → StepResult) → s.now ≡ now → as_place (slot_in s frame n) s k ≡ k p)
    (λ f. (s : State) (k : CellPlace → StepResult) → s.now ≡ now → as_place (slot_in s frame n) s k ≡ ends_in_fault f s)

-- reading a link goes on with the frame of what the slot holds, or ends in the fault
abbrev pub GivesLink : List PlainFrame → ℕ → Result ℕ RunFault → Type 0
GivesLink now n result = MatchResult result
    (λ f. ((m : ℕ) → LeadsTo now n m → HasPlaceIn now f m) × ((s : State) (k : ℕ → StepResult) → s.now ≡ now → link s n k ≡ k f))
    (λ f. (s : State) (k : ℕ → StepResult) → s.now ≡ now → link s n k ≡ ends_in_fault f s)

-- reading a mark goes on with the height, or ends in the fault
abbrev pub GivesMark : List PlainFrame → ℕ → Result ℕ RunFault → Type 0
GivesMark now n result = MatchResult result
    (λ h. (s : State) (k : ℕ → StepResult) → s.now ≡ now → mark s n k ≡ k h)
    (λ f. (s : State) (k : ℕ → StepResult) → s.now ≡ now → mark s n k ≡ ends_in_fault f s)

-- the place that begins at a spot goes into the slot, or the run ends in the fault
abbrev pub point_or_fault : State → ℕ → Result Spot RunFault → StepResult
point_or_fault s n (Ok spot) = put_place s n spot.frame (λ _. spot.slot)
point_or_fault s n (Err f) = ends_in_fault f s

-- the link goes into the slot, or the run ends in the fault
abbrev pub link_or_fault : State → ℕ → Result ℕ RunFault → StepResult
link_or_fault s n (Ok frame) = put_link s n frame
link_or_fault s n (Err f) = ends_in_fault f s

-- a part of a step counts no step, its answer tells the mode, and it pushes and pops at most one entry
abbrev pub KeepsOn : Step → State → State → Type 0
KeepsOn step old new =
    (new.steps ≡ old.steps) × (IsLive old.mode → ModeAfter step new.mode) × (new.choices ≤ old.choices + 1) × (new.fails ≤ old.fails + 1)

-- where a part of a step goes on, the mode and the counts stay
abbrev pub GoesOn : State → State → Type 0
GoesOn old new = (new.steps ≡ old.steps) × (IsLive old.mode → IsLive new.mode) × (new.choices ≡ old.choices) × (new.fails ≡ old.fails)
