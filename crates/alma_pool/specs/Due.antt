-- What a call of the program comes to: its plan.
use Rattle.std.specs.Prelude.{◌+◌, ◌-◌, ℕ, Bool, true, false, ◌&&◌, ◌||◌, List, [], ◌∷◌, ◌++◌, length, codes, decimal, eqb, leb, ltb}
use Rattle.std.specs.Prelude.{cond, flat_map, Option, None, Some, Result, Ok, Err}
use Rattle.std.specs.List.{list_any}
use Rattle.alma_base.specs.Fault.{run_fault_text}
use Rattle.alma_base.specs.Limits.{object_limit}
use Rattle.alma_code.specs.declared.step.End.{End}
use Rattle.alma_code.specs.declared.step.End.TheVariants as ended
use Rattle.alma_code.specs.Plain.{PlainCode}
use Rattle.alma_code.specs.Reads.{code_reads}
use Rattle.alma_verify.specs.Bytes.{object_code}
use Rattle.alma_plan.specs.Plan.{Due, Ending, Plan, Fetches, Reads, Ends, silent, prints, tells, bad_word}
use Rattle.alma_plan.specs.Objects.{object_refusal}
use Rattle.alma_plan.specs.Words.{bad_file}
use Rattle.alma_driver_words.specs.Exit as exit
use Rattle.alma_pool.specs.Pool.{LoneRun, lone_run, turns_of}

-- the name of the program
abbrev pub program : List ℕ
program = codes "alma_pool"

-- the greatest number of bytes of a file of turns
abbrev pub turns_limit : ℕ
turns_limit = 16777216

-- ---- the bytes of a file of turns

-- the number of this one where it is not good, else what comes of the rest
abbrev pub unless : (good : Bool) → (number : ℕ) → (rest : Option ℕ) → Option ℕ
unless true number rest = rest
unless false number rest = Some number

-- the byte may stand in a file of turns of so many programs: a line feed, or the letter of a program; that of the first is `a`
abbrev pub is_turn : (programs byte : ℕ) → Bool
is_turn programs byte = eqb byte 10 || (leb 97 byte && ltb (byte - 97) programs)

-- the first byte, from 1, that may not stand there, behind so many
abbrev pub bad_turn_behind : (programs seen : ℕ) → List ℕ → Option ℕ
bad_turn_behind programs seen [] = None
bad_turn_behind programs seen (byte ∷ bytes) = unless (is_turn programs byte) (seen + 1) (bad_turn_behind programs (seen + 1) bytes)

-- the programs that take turns, by their numbers from 0: a line feed is no turn
abbrev pub turn_in : (byte : ℕ) → List ℕ
turn_in byte = cond (eqb byte 10) [] ((byte - 97) ∷ [])

-- those of all bytes
abbrev pub turns_in : List ℕ → List ℕ
turns_in bytes = flat_map turn_in bytes

-- ---- what is printed

-- the words for an end
abbrev pub end_text : Option End → List ℕ
end_text None = codes "waiting"
end_text (Some ended.Succeeded) = codes "succeeded"
end_text (Some ended.Failed) = codes "failed"
end_text (Some (ended.Fault fault)) = codes "fault " ++ run_fault_text fault

-- the lines of a program of a number
abbrev pub program_lines : (number : ℕ) → (ended output : List ℕ) → List ℕ
program_lines number ended output =
    codes "program " ++ (decimal number ++ (codes " "
    ++ (ended ++ (codes " bytes " ++ (decimal (length output) ++ (codes "\n" ++ (output ++ codes "\n")))))))

-- the same by what is seen of its run
abbrev pub program_text : (number : ℕ) → LoneRun → List ℕ
program_text number l = program_lines number (end_text l.end) l.output

-- The lines of these programs, which stand behind so many others: each shows its run alone, for as many turns as are its own.
abbrev pub pool_text : (before : ℕ) → List PlainCode → (input : List ℕ) → (turns : List ℕ) → List ℕ
pool_text before [] input turns = []
pool_text before (code ∷ more) input turns =
    program_text (before + 1) (lone_run code input (turns_of before turns)) ++ pool_text (before + 1) more input turns

-- ---- the objects

-- what comes of the rest, unless an object is refused
abbrev pub or_refused : Option Ending → Result (List PlainCode) Ending → Result (List PlainCode) Ending
or_refused None rest = rest
or_refused (Some end) rest = Err end

-- the codes of objects, behind those that were, or the end that the first brings about which is refused
abbrev pub open_objects : (got : List PlainCode) → (objects : List (List ℕ)) → Result (List PlainCode) Ending
open_objects got [] = Ok got
open_objects got (bytes ∷ objects) = or_refused (object_refusal program bytes) (open_objects (got ++ object_code bytes ∷ []) objects)

-- ---- the plan

-- codes that take turns, where the input is read if one of them reads it
abbrev pub play_on_plan : (reads : Bool) → List PlainCode → (turns : List ℕ) → Plan ⊥ Due
play_on_plan true all turns = Reads (λ input. prints (pool_text 0 all input turns))
play_on_plan false all turns = Ends (prints (pool_text 0 all [] turns))

-- codes take turns, unless an object was refused
abbrev pub play_plan : Result (List PlainCode) Ending → (turns : List ℕ) → Plan ⊥ Due
play_plan (Ok all) turns = play_on_plan (list_any code_reads all) all turns
play_plan (Err end) turns = Ends (silent end)

-- the end for a byte, from 1, that may not stand in the file of turns
abbrev pub bad_turn : (turn : ℕ) → Ending
bad_turn turn = tells program exit.own_refusal (codes "bad turn " ++ decimal turn)

-- all files are there: the first bad byte of the file of turns is told; without one the objects are opened, and take turns
abbrev pub unless_bad_turn : (bad : Option ℕ) → (turns : List ℕ) → (objects : List (List ℕ)) → Plan ⊥ Due
unless_bad_turn (Some turn) turns objects = Ends (silent (bad_turn turn))
unless_bad_turn None turns objects = play_plan (open_objects [] objects) (turns_in turns)

-- the first bad byte of the file of turns comes before any fault of an object
abbrev pub play_files_plan : (turns : List ℕ) → (objects : List (List ℕ)) → Plan ⊥ Due
play_files_plan turns objects = unless_bad_turn (bad_turn_behind (length objects) 0 turns) turns objects

-- the objects of these names are fetched, behind those that were
abbrev pub objects_plan : (turns : List ℕ) → (got : List (List ℕ)) → (names : List (List ℕ)) → Plan ⊥ Due
objects_plan turns got [] = play_files_plan turns got
objects_plan turns got (name ∷ names) = Fetches name object_limit (λ bytes. objects_plan turns (got ++ bytes ∷ []) names)

-- a word that cannot stand where it is, or one more than there are
abbrev pub bad_word_plan : (word : ℕ) → Plan ⊥ Due
bad_word_plan word = Ends (silent (bad_word program word))

-- words that can stand
abbrev pub fetch_plan : List (List ℕ) → Plan ⊥ Due
fetch_plan [] = bad_word_plan 1
fetch_plan (turns ∷ objects) = Fetches turns turns_limit (λ bytes. objects_plan bytes [] objects)

-- words of which this is the first bad one, or none is
abbrev pub words_plan : (bad : Option ℕ) → (words : List (List ℕ)) → Plan ⊥ Due
words_plan (Some word) words = bad_word_plan word
words_plan None words = fetch_plan words

-- a call with these words: a file of turns, and behind it from 1 to 16 objects
abbrev pub pool_plan : (words : List (List ℕ)) → Plan ⊥ Due
pool_plan words = words_plan (bad_file 1 0 words) words
