-- What a memory that goes back holds, and what each of its changes takes back.
use Rattle.std.specs.Prelude.{◌-◌, List, [], ◌∷◌, ◌++◌, map, length, take, drop, set, get_or}
use Rattle.alma_code.specs.declared.cell.Cell.TheVariants as cell
use Rattle.alma_code.specs.declared.cell.ChoiceKind.{ChoiceKind}
use Rattle.alma_code.specs.declared.cell.ChoiceKind.TheVariants.{Branch, Forall, Body, Done}
use Rattle.alma_code.specs.Picture.{PlainFrame, PlainEntry, frames_with_cell, without_last, cell_at, last_frame}
use Rattle.alma_memory_store.specs.Carries.{all_put_back}
use Rattle.alma_memory.specs.Machine.{Scene}
use Rattle.alma_back_tape.specs.Inner.PlainGain.{PlainGain}
use Rattle.alma_back_tape.specs.declared.change.Note.{Note}
use Rattle.alma_back_tape.specs.declared.change.Note.TheVariants.{Wrote, Entered, Left}
use Rattle.alma_back_tape.specs.declared.change.Entry.{Entry}
use Rattle.alma_back_tape.specs.declared.change.Change.{Change}
use Rattle.alma_back_tape.specs.declared.change.Change.TheVariants.{Began, Noted, Pushed, Undone, Dropped, Finished, Kept}

-- ---- notes

-- the frames from before a note
abbrev pub undo : Note → List PlainFrame → List PlainFrame
undo (Wrote place cell) frames = frames_with_cell frames place.frame place.slot cell
undo Entered frames = without_last frames
undo (Left frame) frames = frames ++ frame ∷ []

-- the frames from before all of the notes, of which the last is undone first
abbrev pub unwind : List Note → List PlainFrame → List PlainFrame
unwind [] frames = frames
unwind (note ∷ notes) frames = undo note (unwind notes frames)

-- an entry with its whole copy: the frames from before all notes above its mark
abbrev pub entry_of : List Note → List PlainFrame → Entry → PlainEntry
entry_of trail frames entry =
    record { kind = entry.kind; resume = entry.resume; frames = unwind (drop entry.mark trail) frames; carry = entry.carry }

-- the stack of entries with their whole copies
abbrev pub held_of : List Note → List PlainFrame → List Entry → List PlainEntry
held_of trail frames entries = map (entry_of trail frames) entries

-- the note by which the undoing of a note is undone
abbrev pub flip : Note → List PlainFrame → Note
flip (Wrote place old) frames = Wrote place (cell_at frames place.frame place.slot cell.Unknown)
flip Entered frames = Left (last_frame frames)
flip (Left frame) frames = Entered

-- what a pop leaves of an entry of a kind: a Forall stays as a Done
abbrev pub stays_as : ChoiceKind → Entry → List Entry
stays_as Forall entry = record entry { kind = Done } ∷ []
stays_as Branch entry = []
stays_as Body entry = []
stays_as Done entry = []

-- what a pop leaves of an entry
abbrev pub stays : Entry → List Entry
stays entry = stays_as entry.kind entry

-- ---- the whole

-- the live frames, the notes of their changes, the choice entries, what was taken from both by failures and cuts, and what carries gained
pub record Reel : Type 0 where
  pub frames : List PlainFrame
  pub trail : List Note
  pub entries : List Entry
  pub redo : List Note
  pub dropped : List Entry
  pub kept : List PlainGain

-- what a machine sees of it: the frames, and the entries with their whole copies
abbrev pub scene_of : Reel → Scene
scene_of r = record { now = r.frames; held = held_of r.trail r.frames r.entries }

-- ---- the last of a list

-- all but the last of a list
abbrev pub front : {A : Type 0} → List A → List A
front xs = take (length xs - 1) xs

-- the last of a list, or else the last argument
abbrev pub last_or : {A : Type 0} → List A → A → A
last_or xs d = get_or xs (length xs - 1) d

-- what stands for a note that is not there
abbrev pub no_note : Note
no_note = Entered

-- what stands for an entry that is not there
abbrev pub no_entry : Entry
no_entry = record { kind = Branch; resume = 0; mark = 0; carry = [] }

-- what stands for a gain that is not there
abbrev pub no_gain : PlainGain
no_gain = record { at = 0; places = []; had = [] }

-- ---- changes

-- the entry before its carry gained this
abbrev pub without_gain : PlainGain → Entry → Entry
without_gain gain entry = record entry { carry = all_put_back gain.places gain.had entry.carry }

-- the entries before one of them gained this
abbrev pub entries_without : PlainGain → List Entry → List Entry
entries_without gain entries = set entries gain.at (without_gain gain (get_or entries gain.at no_entry))

-- all before a change
abbrev pub before : Change → Reel → Reel
before Began r = r
before Noted r = record r { frames = undo (last_or r.trail no_note) r.frames; trail = front r.trail }
before Pushed r = record r { entries = front r.entries }
before Undone r = record r {
  frames = undo (last_or r.redo no_note) r.frames;
  trail = r.trail ++ flip (last_or r.redo no_note) r.frames ∷ [];
  redo = front r.redo;
}
before Dropped r = record r { entries = r.entries ++ last_or r.dropped no_entry ∷ []; dropped = front r.dropped }
before Finished r = record r { entries = front r.entries ++ record (last_or r.entries no_entry) { kind = Forall } ∷ [] }
before Kept r = record r { entries = entries_without (last_or r.kept no_gain) r.entries; kept = front r.kept }

-- the scenes at which steps began, the last one first, by the changes since, the last one first
abbrev pub past : List Change → Reel → List Scene
past [] r = []
past (Began ∷ changes) r = scene_of r ∷ past changes r
past (change ∷ changes) r = past changes (before change r)
