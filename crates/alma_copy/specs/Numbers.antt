-- The new numbers that a value of the code's type Moves stands for; here that type is called Numbers.
use Rattle.std.specs.Prelude.{ℕ, zero, suc, ◌+◌, List, get_or}
use Rattle.alma_copy.specs.declared.copy.Moves.{Moves as Numbers}
use Rattle.alma_copy.specs.Moved.{Moves}

-- a slot moved behind so many others; slot 0 stays
abbrev pub slot_behind : (before : ℕ) → ℕ → ℕ
slot_behind before zero = zero
slot_behind before (suc slot) = suc slot + before

-- the number that a table has for a routine, or the routine's own where it has none
abbrev pub number_in : List ℕ → ℕ → ℕ
number_in table r = get_or table r r

-- the new numbers of slots and routines that such a value stands for
abbrev pub moves_of : Numbers → Moves
moves_of m = record { own = slot_behind m.own; global = slot_behind m.global; routine = number_in m.routines.now }
