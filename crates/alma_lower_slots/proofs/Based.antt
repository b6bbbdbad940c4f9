-- Of the code itself: above which heights of the stack each frame lives. An entry that was pushed since a frame was entered has that frame.
use Rattle.std.specs.Prelude.{◌≡◌, ◌<◌, ◌≤◌, ℕ, ◌-◌, true, List, length, get_or, take, Some, slice_get}
use Rattle.alma_code.specs.declared.cell.Cell.TheVariants as cell
use Rattle.alma_code.specs.declared.cell.ChoiceKind.TheVariants as choice
use Rattle.alma_code.specs.declared.instr.Instr.TheVariants as I
use Rattle.alma_code.specs.Machine.{Going, State}
use Rattle.alma_code.specs.Picture.{PlainFrame, PlainEntry, no_frame, entry_at}
use Rattle.alma_code.specs.Plain.{PlainCode, start_at, end_at}
use Rattle.alma_lower_slots.specs.Slots.{is_finish, body_of}

-- frame f is among others too, with its routine
pub record HasFrame (frames others : List PlainFrame) (f : ℕ) : Type 0 where
  pub there : f < length others
  pub same : (get_or others f no_frame).routine ≡ (get_or frames f no_frame).routine

-- each frame is
abbrev pub HasFrames : (frames others : List PlainFrame) → Type 0
HasFrames frames others = (f : ℕ) → f < length frames → HasFrame frames others f

module _ (code : PlainCode) where
  -- an instruction of the routine looks in the mark slot for the height of a FORALL
  pub record IsBody (r n : ℕ) : Type 0 where
    pub at : ℕ
    pub low : start_at code r ≤ at
    pub high : at < end_at code r
    pub is : body_of (get_or code.instrs at I.Fail) ≡ Some n

  -- the instruction at the address is a Finish
  abbrev pub AtFinish : ℕ → Type 0
  AtFinish at = is_finish (get_or code.instrs at I.Fail) ≡ true

  -- each frame has a base, the height of the stack when it was entered: entries above it have the frame, with its routine, and the marks
  -- in the frame are not below it, those of FORALLs above it
  pub record BasedBy (base : ℕ → ℕ) (frames : List PlainFrame) (held : List PlainEntry) : Type 0 where
    pub rise : (f g : ℕ) → f ≤ g → g < length frames → base f ≤ base g
    pub low : (f : ℕ) → f < length frames → base f ≤ length held
    pub has : (f h : ℕ) → f < length frames → base f < h → h ≤ length held → HasFrame frames (entry_at held h).frames f
    pub marks : (f n m : ℕ) → f < length frames → slice_get (get_or frames f no_frame).cells n ≡ Some (cell.Mark m) → base f ≤ m
    pub bodies : (f n m : ℕ) → f < length frames → slice_get (get_or frames f no_frame).cells n ≡ Some (cell.Mark m)
        → IsBody (get_or frames f no_frame).routine n → base f < m

  -- the frames are based, and at a Finish an entry stands above the base of the top frame
  pub record BasedAt (at : ℕ) (frames : List PlainFrame) (held : List PlainEntry) : Type 0 where
    pub base : ℕ → ℕ
    pub by : BasedBy base frames held
    pub finish : AtFinish at → base (length frames - 1) < length held

  -- an entry over those below it: a Forall, and it alone, goes on at a Finish
  pub record BasedEntry (entry : PlainEntry) (below : List PlainEntry) : Type 0 where
    pub base : ℕ → ℕ
    pub by : BasedBy base entry.frames below
    pub forall : entry.kind ≡ choice.Forall → AtFinish entry.resume
    pub finish : AtFinish entry.resume → (entry.kind ≡ choice.Branch → ⊥) × (entry.kind ≡ choice.Body → ⊥)

  -- the whole state, where the instruction at the address is taken or comes next; a Done stands on top alone, and only where it is a Finish
  pub record BasedIn (at : ℕ) (t : State) : Type 0 where
    pub now : t.mode ≡ Going → BasedAt at t.now t.held
    pub held : (h : ℕ) → 1 ≤ h → h ≤ length t.held → BasedEntry (entry_at t.held h) (take (h - 1) t.held)
    pub done : (h : ℕ) → 1 ≤ h → h ≤ length t.held → (entry_at t.held h).kind ≡ choice.Done
        → (h ≡ length t.held) × (t.mode ≡ Going) × AtFinish at

  -- between two steps
  abbrev pub BasedState : State → Type 0
  BasedState t = BasedIn t.at t
