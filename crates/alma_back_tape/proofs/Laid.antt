-- Cells that are laid over the frames one after another.
use Rattle.std.proofs.Common.{◌≡◌, ◌≤◌, ◌+◌, ◌∙◌, ℕ, List, length, drop, take, ◌-◌, sym, ap}
use Rattle.std.proofs.lemmas.List.{length-map}
use Rattle.alma_code.specs.declared.cell.Cell.{Cell}
use Rattle.alma_code.specs.Carries.{frames_with_carry}
use Rattle.alma_memory_store.specs.declared.carry.SlotPlace.{SlotPlace}
use Rattle.alma_memory_store.specs.Carries.{carry_of_entries}
use Rattle.alma_back_tape.proofs.Trails.{cut-held}
use Rattle.alma_back_tape.specs.Inner.Reel.{front, held_of, entry_of}
use Rattle.alma_back_tape.specs.declared.journal.Journal.{Journal}
use Rattle.alma_back_tape.specs.Inner.Past.{IsTape, picture_of, scenes}

-- the first of the cells are laid
pub record Lays (cells : List (SlotPlace × Cell)) (i : ℕ) (old now : Journal) : Type 0 where
  pub tape : IsTape now
  pub laid : frames_with_carry now.frames (carry_of_entries (drop i cells)) ≡ frames_with_carry old.frames (carry_of_entries cells)
  pub held : (picture_of now).held ≡ (picture_of old).held
  pub past : scenes now ≡ scenes old
  pub room : length cells ≤ now.trail_room + i
  pub choice_room : old.choice_room ≤ now.choice_room

-- the stack without its top entry
pub fewer_held : (old now next : Journal) → (picture_of now).held ≡ (picture_of old).held → next.frames ≡ now.frames
    → next.trail.items ≡ now.trail.items
    → next.entries.items ≡ front now.entries.items → (picture_of next).held ≡ take (length (picture_of old).held - 1) (picture_of old).held
fewer_held old now next held frames trail entries =
    let es = now.entries.items in
    let wide : length es ≡ length (picture_of now).held = sym (length-map es (entry_of now.trail.items now.frames)) in
    ap (λ ns. held_of ns next.frames next.entries.items) trail ∙ ap (λ fs. held_of now.trail.items fs next.entries.items) frames
    ∙ cut-held (length es - 1) now.trail.items now.frames es next.entries.items entries ∙ ap (λ n. take (n - 1) (picture_of now).held) wide
    ∙ ap (λ h. take (length h - 1) h) held
