-- That each program of a pool runs as if it were alone.
use Rattle.std.specs.Prelude.{◌≡◌, ◌<◌, ◌+◌, ◌++◌, ℕ, List, length}
use Rattle.alma_code.specs.Plain.{PlainCode}
use Rattle.alma_pool.specs.Pool.{PoolView, lone_run, seen_of, player_at_start, player_after, program_at, after_turns, turns_of}

-- after every list of turns, a program that began with this code and input is the program alone after as many turns as are its own: its
-- machine stands in the same state, and it has printed the same
abbrev pub StandsAlone : Type 0
StandsAlone =
    (pool : PoolView) (turns : List ℕ) (k : ℕ) (code : PlainCode) (input : List ℕ) → k < length pool.programs
    → program_at pool k ≡ player_at_start code input
    → program_at (after_turns pool turns) k ≡ player_after code input (turns_of k turns)

-- so what is seen of it is its run alone for as many turns
abbrev pub RunAlone : Type 0
RunAlone =
    (pool : PoolView) (turns : List ℕ) (k : ℕ) (code : PlainCode) (input : List ℕ) → k < length pool.programs
    → program_at pool k ≡ player_at_start code input
    → seen_of (program_at (after_turns pool turns) k) ≡ lone_run code input (turns_of k turns)

-- and what it has printed by then is a prefix of what it prints alone in more turns
abbrev pub PrintsFront : Type 0
PrintsFront =
    (pool : PoolView) (turns : List ℕ) (k : ℕ) (code : PlainCode) (input : List ℕ) (more : ℕ) → k < length pool.programs
    → program_at pool k ≡ player_at_start code input
    → (rest : List ℕ) × ((lone_run code input (turns_of k turns + more)).output ≡ (program_at (after_turns pool turns) k).output ++ rest)
