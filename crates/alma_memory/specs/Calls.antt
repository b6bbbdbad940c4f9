-- The calls of a memory, as changes of its picture.
use Rattle.std.specs.Prelude.{◌≡◌, ℕ, ◌-◌, ◌≤◌, List, [], ◌∷◌, ◌++◌, length, take}
use Rattle.alma_code.specs.declared.cell.Cell.{Cell}
use Rattle.alma_code.specs.declared.cell.ChoiceKind.{ChoiceKind}
use Rattle.alma_code.specs.Picture.{PlainFrame, PlainEntry, frames_with_cell, without_last, top_of, entry_at, stack_after_pop}
use Rattle.alma_code.specs.Carries.{frames_with_carry, held_after_keep}
use Rattle.alma_memory.specs.Picture.{Picture}

-- a call that did what it was asked for; a reader, `reserve` and a refused call are all `Nothing`
pub data Call : Type 0 where
  Nothing : Call
  Write : (frame slot : ℕ) → Cell → Call
  Enter : PlainFrame → Call
  Leave : Call
  Choose : ChoiceKind → (resume : ℕ) → Call
  Fail : Call
  Cut : (height : ℕ) → Call
  Overlay : (height : ℕ) → Call
  Keep : (height : ℕ) → Call
  Finish : Call

-- the frames after a call
abbrev pub now_after : Call → Picture → List PlainFrame
now_after Nothing p = p.now
now_after (Write frame slot cell) p = frames_with_cell p.now frame slot cell
now_after (Enter frame) p = p.now ++ frame ∷ []
now_after Leave p = without_last p.now
now_after (Choose kind resume) p = p.now
now_after Fail p = (top_of p.held).frames
now_after (Cut height) p = p.now
now_after (Overlay height) p = frames_with_carry p.now (entry_at p.held height).carry
now_after (Keep height) p = p.now
now_after Finish p = frames_with_carry p.now (top_of p.held).carry

-- the stack after a call
abbrev pub held_after : Call → Picture → List PlainEntry
held_after Nothing p = p.held
held_after (Write frame slot cell) p = p.held
held_after (Enter frame) p = p.held
held_after Leave p = p.held
held_after (Choose kind resume) p = p.held ++ (record { kind = kind; resume = resume; frames = p.now; carry = [] }) ∷ []
held_after Fail p = stack_after_pop p.held
held_after (Cut height) p = take height p.held
held_after (Overlay height) p = p.held
held_after (Keep height) p = held_after_keep p.held height p.now
held_after Finish p = take (length p.held - 1) p.held

-- the call takes the first picture to the second, whatever the rooms
pub record Makes (call : Call) (old new : Picture) : Type 0 where
  pub now : new.now ≡ now_after call old
  pub held : new.held ≡ held_after call old

-- the calls, one after another, take the first picture to the second, and after each of them there
-- are at least so many entries
abbrev pub Leads : (entries : ℕ) → List Call → (old new : Picture) → Type 0
Leads entries [] old new = (new.now ≡ old.now) × (new.held ≡ old.held)
Leads entries (call ∷ calls) old new = (next : Picture) × Makes call old next × (entries ≤ length next.held) × Leads entries calls next new

-- a choice, any calls that leave its entry, a cut to its height and a pop give back the frames from
-- before the choice
abbrev pub GivesBack : Type 0
GivesBack =
    (kind : ChoiceKind) (resume : ℕ) (calls : List Call) (before chosen later cut failed : Picture)
    → Makes (Choose kind resume) before chosen
    → Leads (length chosen.held) calls chosen later
    → Makes (Cut (length chosen.held)) later cut
    → Makes Fail cut failed
    → failed.now ≡ before.now
