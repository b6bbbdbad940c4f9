-- The limits of a list that goes back.
use Rattle.std.specs.Prelude.{ℕ, ◌^◌, ◌-◌}

-- the greatest number of items, so that a note has room for the place of each
abbrev pub item_limit : ℕ
item_limit = 2 ^ 32

-- the greatest serial, and the greatest number of copies
abbrev pub serial_limit : ℕ
serial_limit = 2 ^ 32 - 1
