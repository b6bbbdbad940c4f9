-- When a frame may be entered, and what a refusal means.
use Rattle.std.specs.Prelude.{ℕ, ◌+◌, ◌≤◌, ◌<◌, List, length}
use Rattle.alma_base.specs.Limits.{cell_limit, frame_limit}
use Rattle.alma_code.specs.Picture.{PlainFrame, live_cells}
use Rattle.alma_memory.specs.declared.memory.EnterError.{EnterError}
use Rattle.alma_memory.specs.declared.memory.EnterError.TheVariants.{DepthFull, CellsFull, Memory}

-- one more frame with so many declared cells may be live
pub record HasFrameRoom (frames : List PlainFrame) (declared : ℕ) : Type 0 where
  pub depth : length frames < frame_limit
  pub cells : live_cells frames + declared ≤ cell_limit

-- when each refusal comes
abbrev pub RefusesFor : EnterError → List PlainFrame → ℕ → Type 0
RefusesFor DepthFull frames declared = frame_limit ≤ length frames
RefusesFor CellsFull frames declared = (length frames < frame_limit) × (cell_limit < live_cells frames + declared)
RefusesFor Memory frames declared = HasFrameRoom frames declared
