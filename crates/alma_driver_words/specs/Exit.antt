-- The exit statuses, as all programs answer them.
use Rattle.std.specs.Prelude.{ℕ}

-- the program succeeded, or what was asked is done
abbrev pub succeeded : ℕ
succeeded = 0

-- the program failed: no way is left to try
abbrev pub failed : ℕ
failed = 1

-- the words are no request
abbrev pub bad_word : ℕ
bad_word = 2

-- a source is no program
abbrev pub refused : ℕ
refused = 3

-- the run stopped in a fault
abbrev pub faulted : ℕ
faulted = 4

-- all steps were made, and the run was not at its end
abbrev pub steps_out : ℕ
steps_out = 5

-- a file is missing, or a fetch or a read of the input failed
abbrev pub read_fault : ℕ
read_fault = 6

-- a write or a store failed
abbrev pub write_fault : ℕ
write_fault = 7

-- memory ran out
abbrev pub no_memory : ℕ
no_memory = 8

-- bytes are no object, or its code is not sound
abbrev pub bad_object : ℕ
bad_object = 9

-- a file or the input is past its greatest length
abbrev pub too_long : ℕ
too_long = 10

-- the size of the program is past the greatest
abbrev pub too_much_code : ℕ
too_much_code = 11

-- a program refuses for a reason of its own, as a bad line of a script: each of the further programs has one
abbrev pub own_refusal : ℕ
own_refusal = 13
