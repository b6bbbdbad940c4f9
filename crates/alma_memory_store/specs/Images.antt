-- The slots of a frame that are kept for the next one.
use Rattle.std.specs.Prelude.{◌≡◌, ℕ, List, drop, map}
use Rattle.alma_code.specs.declared.head.Run.{Run}
use Rattle.alma_code.specs.Layout.{blank_of, kinds_of}
use Rattle.alma_memory_store.specs.declared.store.Slot.{Slot}
use Rattle.alma_memory_store.specs.Regions.{cells_in, kinds_in}

-- how many images are kept: eight, and one for wide frames
abbrev pub image_count : ℕ
image_count = 9

-- the slots are those of the runs, and behind the first `written` of them each holds what it holds at first
pub record IsImage (runs : List Run) (slots : List Slot) (written : ℕ) : Type 0 where
  pub kinds : kinds_in slots ≡ kinds_of 0 runs
  pub blank : drop written (cells_in slots) ≡ drop written (map blank_of (kinds_of 0 runs))
