-- What is true of the fields of the live frames.
use Rattle.std.specs.Prelude.{◌≡◌, ◌≤◌, length, vec_capacity}
use Rattle.alma_base.specs.Limits.{cell_limit, frame_limit}
use Rattle.alma_code.specs.Picture.{live_cells}
use Rattle.alma_back_tape.specs.declared.frames.Frames.TheInside.{Inside}

-- there is room for all frames that may be live, and the declared cells are counted
pub record IsCounted (frames : Inside) : Type 0 where
  pub room : frame_limit ≤ vec_capacity frames.list
  pub few : length frames.list.items ≤ frame_limit
  pub declared : frames.declared ≡ live_cells frames.list.items
  pub limit : live_cells frames.list.items ≤ cell_limit
