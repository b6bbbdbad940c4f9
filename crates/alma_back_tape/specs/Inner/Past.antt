-- What is true of a memory that goes back.
use Rattle.std.specs.Prelude.{◌≡◌, ◌≤◌, ◌<◌, ◌+◌, ◌*◌, ℕ, List, [], ◌∷◌, length, get_or, reverse, vec_capacity}
use Rattle.alma_code.specs.Picture.{PlainFrame, no_frame}
use Rattle.alma_code.specs.declared.cell.ChoiceKind.{ChoiceKind}
use Rattle.alma_code.specs.declared.cell.ChoiceKind.TheVariants.{Branch, Forall, Body, Done}
use Rattle.alma_memory_store.specs.Frames.{AreLive}
use Rattle.alma_memory.specs.Machine.{MachinePicture, Scene}
use Rattle.alma_back_tape.specs.Inner.Reel.{Reel, before, past, last_or, no_note, no_entry, no_gain, scene_of, undo, unwind}
use Rattle.alma_back_tape.specs.declared.change.Note.{Note}
use Rattle.alma_back_tape.specs.declared.change.Note.TheVariants.{Wrote, Entered, Left}
use Rattle.alma_back_tape.specs.declared.change.Entry.{Entry}
use Rattle.alma_back_tape.specs.declared.change.Change.{Change}
use Rattle.alma_back_tape.specs.declared.change.Change.TheVariants.{Began, Noted, Pushed, Undone, Dropped, Finished, Kept}
use Rattle.alma_back_tape.specs.declared.journal.Journal.{Journal}

-- ---- that all can be taken back

-- a note can be undone at the frames that it left
abbrev pub Undoes : Note → List PlainFrame → Type 0
Undoes (Wrote place cell) frames = (place.frame < length frames) × (place.slot < length (get_or frames place.frame no_frame).cells)
Undoes Entered frames = Unit {0}
Undoes (Left frame) frames = Unit {0}

-- each note can be undone after the notes above it, and leaves frames that may be live
abbrev pub Fits : List Note → List PlainFrame → Type 0
Fits [] frames = AreLive frames
Fits (note ∷ notes) frames = Fits notes frames × Undoes note (unwind notes frames) × AreLive (undo note (unwind notes frames))

-- the marks rise from low to top
abbrev pub Rises : (low : ℕ) → List Entry → (top : ℕ) → Type 0
Rises low [] top = low ≤ top
Rises low (entry ∷ entries) top = (low ≤ entry.mark) × Rises entry.mark entries top

-- the notes fit the frames, and the marks the notes
pub record IsWound (r : Reel) : Type 0 where
  pub fits : Fits r.trail r.frames
  pub rises : Rises 0 r.entries (length r.trail)

-- a change can be taken back
abbrev pub CanBack : Change → Reel → Type 0
CanBack Began r = Unit {0}
CanBack Noted r = 1 ≤ length r.trail
CanBack Pushed r = 1 ≤ length r.entries
CanBack Undone r = (1 ≤ length r.redo) × Undoes (last_or r.redo no_note) r.frames × AreLive (undo (last_or r.redo no_note) r.frames)
CanBack Dropped r = 1 ≤ length r.dropped
CanBack Finished r = (1 ≤ length r.entries) × ((last_or r.entries no_entry).kind ≡ Done)
CanBack Kept r =
    (1 ≤ length r.kept) × ((last_or r.kept no_gain).at < length r.entries) ×
    (length (last_or r.kept no_gain).had ≤ length (last_or r.kept no_gain).places)

-- all changes can be taken back, one after another, the last one first
abbrev pub IsGood : List Change → Reel → Type 0
IsGood [] r = IsWound r
IsGood (change ∷ changes) r = IsWound r × CanBack change r × IsGood changes (before change r)

-- ---- room for what comes back

-- how often an entry of a kind can be finished before it is dropped
abbrev pub finishes : ChoiceKind → ℕ
finishes Branch = 0
finishes Forall = 1
finishes Body = 0
finishes Done = 0

-- how often entries can be finished, all together
abbrev pub all_finishes : List Entry → ℕ
all_finishes [] = 0
all_finishes (entry ∷ entries) = finishes entry.kind + all_finishes entries

-- the changes that notes and entries may still need: each note is undone, each entry is dropped, and a Forall is finished before
abbrev pub due_changes : (trail : ℕ) → (entries dropped : List Entry) → ℕ
due_changes trail entries dropped = trail + (length entries + (all_finishes entries + all_finishes dropped))

-- there is room for what failures, cuts and going back move, for the notes and entries that are promised, and for so many more changes
pub record HasRooms (more : ℕ) (j : Journal) : Type 0 where
  pub trail : length j.trail.items + length j.redo.items + j.trail_room ≤ vec_capacity j.trail
  pub redo : length j.trail.items + length j.redo.items + j.trail_room ≤ vec_capacity j.redo
  pub entries : length j.entries.items + length j.dropped.items + j.choice_room ≤ vec_capacity j.entries
  pub dropped : length j.entries.items + length j.dropped.items + j.choice_room ≤ vec_capacity j.dropped
  pub changes :
      length j.changes.items + more + due_changes (length j.trail.items) j.entries.items j.dropped.items + 2 * j.trail_room + 3 *
      j.choice_room ≤ vec_capacity j.changes

-- ---- a journal

-- what its lists hold
abbrev pub reel_of : Journal → Reel
reel_of j = record {
  frames = j.frames;
  trail = j.trail.items;
  entries = j.entries.items;
  redo = j.redo.items;
  dropped = j.dropped.items;
  kept = j.kept.items;
}

-- the scenes at which its steps began, the last one first
abbrev pub scenes : Journal → List Scene
scenes j = past (reverse j.changes.items) (reel_of j)

-- what a machine sees of it
abbrev pub picture_of : Journal → MachinePicture
picture_of j = record {
  now = j.frames;
  held = (scene_of (reel_of j)).held;
  choice_room = j.choice_room;
  trail_room = j.trail_room;
  past = scenes j;
}

-- what is true of it: all can be taken back, and there is room for what comes back
pub record IsTape (j : Journal) : Type 0 where
  pub good : IsGood (reverse j.changes.items) (reel_of j)
  pub rooms : HasRooms 0 j

-- the same where the last change is taken from the list, and still to be taken back
pub record IsOpen (change : Change) (j : Journal) : Type 0 where
  pub good : IsGood (change ∷ reverse j.changes.items) (reel_of j)
  pub rooms : HasRooms 1 j

-- the scenes at which its steps began, where the last change is taken from the list, and still to be taken back
abbrev pub scenes_open : Change → Journal → List Scene
scenes_open change j = past (change ∷ reverse j.changes.items) (reel_of j)

-- more room, and else nothing
pub record Reserves (old new : Journal) : Type 0 where
  pub reel : reel_of new ≡ reel_of old
  pub changes : new.changes.items ≡ old.changes.items
  pub rooms : HasRooms 0 new
  pub choice_room : old.choice_room ≤ new.choice_room
  pub trail_room : old.trail_room ≤ new.trail_room

-- the same scenes, whatever the rooms
pub record Rests (old new : Journal) : Type 0 where
  pub tape : IsTape new
  pub reel : reel_of new ≡ reel_of old
  pub past : scenes new ≡ scenes old
