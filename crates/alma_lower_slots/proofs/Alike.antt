-- When two states of the machine are alike: one on a code, the other on that code with its slots renamed.
use Rattle.std.specs.Prelude.{◌≡◌, ◌<◌, ℕ, suc, ◌+◌, ◌-◌, true, List, length, get_or, Some, slice_get}
use Rattle.alma_base.specs.Carry.{Carry, carried_at}
use Rattle.alma_code.specs.declared.cell.Cell.{Cell}
use Rattle.alma_code.specs.declared.cell.Cell.TheVariants as cell
use Rattle.alma_code.specs.declared.cell.CellPlace.{CellPlace}
use Rattle.alma_code.specs.declared.instr.Instr.{Instr}
use Rattle.alma_code.specs.declared.instr.Instr.TheVariants as I
use Rattle.alma_code.specs.declared.step.End.TheVariants as end
use Rattle.alma_code.specs.Fits.{routines_of}
use Rattle.alma_code.specs.Kinds.{is_number}
use Rattle.alma_code.specs.Machine.{Mode, Going, Failing, Ended, Stuck, State, StepResult}
use Rattle.alma_code.specs.Picture.{PlainFrame, PlainEntry, no_frame, no_entry}
use Rattle.alma_code.specs.Plain.{PlainCode, kinds_at, end_at}
use Rattle.alma_code.specs.Rules.{kind_in}
use Rattle.alma_lower_slots.specs.Slots.{target_slot}
use Rattle.alma_lower_slots.proofs.Based.{BasedIn}
use Rattle.alma_code_laws.proofs.Acts.{Here, Obeys}
use Rattle.alma_lower_implements.proofs.CarryMaps.{IsRising}
use Rattle.alma_lower_slots.specs.Sharing.{Sharing, SharesAt}

-- ---- of the code itself: places name own slots

module _ (s : Sharing) where
  -- a place names own slots of the routine of its frame, where rs are the routines of the frames
  abbrev pub NamesOwn : (rs : List ℕ) → CellPlace → Type 0
  NamesOwn rs p = (k : ℕ) → k < p.len → p.slot + k < s.own (get_or rs p.frame 0)

  -- each place in these frames does
  abbrev pub OwnPlaces : List PlainFrame → Type 0
  OwnPlaces frames = (f i : ℕ) (p : CellPlace) → f < length frames
      → slice_get (get_or frames f no_frame).cells i ≡ Some (cell.Place p) → NamesOwn (routines_of frames) p

  -- each place of the state does
  pub record OwnState (t : State) : Type 0 where
    pub now : OwnPlaces t.now
    pub held : (h : ℕ) → h < length t.held → OwnPlaces (get_or t.held h no_entry).frames

-- ---- of both

-- in this mode the frames of a machine matter: it goes on, or it has come to success
abbrev pub FramesMatter : Mode → Type 0
FramesMatter Going = Unit {0}
FramesMatter (Ended end.Succeeded) = Unit {0}
FramesMatter (Ended end.Failed) = ⊥
FramesMatter (Ended (end.Fault f)) = ⊥
FramesMatter Failing = ⊥
FramesMatter Stuck = ⊥

module _ (code new : PlainCode) (s : Sharing) where
  -- slot n of frame f is to be the same in both, where the top frame goes on at the address: a slot that is kept, one that is live
  -- at the address, and in a frame below one that is live behind its call and is not written there
  pub data IsDue (frames : List PlainFrame) (at f n : ℕ) : Type 0 where
    is_kept : s.kept (get_or frames f no_frame).routine n ≡ true → IsDue frames at f n
    on_top : suc f ≡ length frames → s.live (get_or frames f no_frame).routine at n ≡ true → IsDue frames at f n
    below : suc f < length frames
        → s.live (get_or frames f no_frame).routine (get_or frames (suc f) no_frame).back n ≡ true
        → (target_slot code (get_or code.instrs ((get_or frames (suc f) no_frame).back - 1) I.Fail) ≡ Some n → ⊥)
        → IsDue frames at f n

  -- two frames of which the slots P are the same
  pub record AlikeFrame (P : ℕ → Type 0) (frame frame' : PlainFrame) : Type 0 where
    pub routine : frame'.routine ≡ frame.routine
    pub back : frame'.back ≡ frame.back
    pub declared : frame'.declared ≡ frame.declared
    pub kinds : frame'.kinds ≡ kinds_at new frame.routine
    pub full : length frame'.cells ≡ length frame'.kinds
    pub cells : (n : ℕ) → n < length (kinds_at code frame.routine) → P n
        → slice_get frame'.cells (s.slot frame.routine n) ≡ slice_get frame.cells n

  -- two lists of frames of which the top one goes on at the address
  pub record AlikeFrames (at : ℕ) (frames frames' : List PlainFrame) : Type 0 where
    pub count : length frames' ≡ length frames
    pub each : (f : ℕ) → f < length frames → AlikeFrame (IsDue frames at f) (get_or frames f no_frame) (get_or frames' f no_frame)

  -- two carries for frames of these routines
  abbrev pub AlikeCarries : (rs : List ℕ) → Carry Cell → Carry Cell → Type 0
  AlikeCarries rs carry carry' = (f n : ℕ) → f < length rs → n < length (kinds_at code (get_or rs f 0)) → s.kept (get_or rs f 0) n ≡ true
      → is_number (kind_in code (get_or rs f 0) n) ≡ true → carried_at f (s.slot (get_or rs f 0) n) carry' ≡ carried_at f n carry

  -- two choice entries
  pub record AlikeEntry (e e' : PlainEntry) : Type 0 where
    pub kind : e'.kind ≡ e.kind
    pub resume : e'.resume ≡ e.resume
    pub frames : AlikeFrames e.resume e.frames e'.frames
    pub carry : AlikeCarries (routines_of e.frames) e.carry e'.carry
    -- the places of both carries rise (a carry is laid over from its first change on, and carried_at takes the first)
    pub rising : IsRising e.carry
    pub rising' : IsRising e'.carry

  -- two stacks
  pub record AlikeHeld (held held' : List PlainEntry) : Type 0 where
    pub count : length held' ≡ length held
    pub each : (h : ℕ) → h < length held → AlikeEntry (get_or held h no_entry) (get_or held' h no_entry)

  -- all of two states but their frames
  pub record AlikeRest (t t' : State) : Type 0 where
    pub at : t'.at ≡ t.at
    pub last : t'.last ≡ t.last
    pub mode : t'.mode ≡ t.mode
    pub steps : t'.steps ≡ t.steps
    pub choices : t'.choices ≡ t.choices
    pub fails : t'.fails ≡ t.fails
    pub held : AlikeHeld t.held t'.held

  -- two states: their frames are alike where they matter
  pub record Alike (t t' : State) : Type 0 where
    pub rest : AlikeRest t t'
    pub now : FramesMatter t.mode → AlikeFrames t.at t.now t'.now

  -- two states in which an instruction is taken: they go on behind its address, and their frames are as they were at it
  pub record Taken (at : ℕ) (t t' : State) : Type 0 where
    pub rest : AlikeRest t t'
    pub going : t.mode ≡ Going
    pub behind : t.at ≡ suc at
    pub now : AlikeFrames at t.now t'.now

  -- two steps
  pub record AlikeStep (x x' : StepResult) : Type 0 where
    pub answer : x'.answer ≡ x.answer
    pub printed : x'.printed ≡ x.printed
    pub state : Alike x.state x'.state

  -- an instruction of routine r that is taken in both states
  pub record Doing (r at : ℕ) (i : Instr) (t t' : State) : Type 0 where
    pub taken : Taken at t t'
    pub here : Here code r at t
    pub routine : r < length code.routines
    pub high : at < end_at code r
    pub own : OwnState s t
    pub based : BasedIn code at t
    pub is : get_or code.instrs at I.Fail ≡ i
    pub shares : SharesAt code s r at i
    pub obeys : Obeys code r at i
