-- Plans: what a program reads, in which order, and what it comes to. A program's plan is a function of its words.
use Rattle.std.specs.Prelude.{◌≡◌, ◌≤◌, ◌⊎◌, List, ℕ, [], ◌++◌, codes, decimal, length, Option, None}
use Rattle.alma_base.specs.Limits.{input_limit}
use Rattle.alma_driver_words.specs.Exit as exit
use Rattle.alma_io.specs.Files.{Told, Missing, Has, MayHave, MayPass}
use Rattle.alma_io.specs.Outside.{StoredFile, MayBeLeft}
use Rattle.alma_io.specs.Whole.{MayHaveMore}

-- ---- what is due

-- how a call ends: its status, and its text on err
pub record Ending : Type 0 where
  pub status : ℕ
  pub text : List ℕ

-- what is due from a call: its end, the bytes that it writes to out, and what it stores
pub record Due : Type 0 where
  pub end : Ending
  pub out : List ℕ
  pub stored : Option StoredFile

-- an end by its parts
abbrev pub ending_of : (status : ℕ) → (text : List ℕ) → Ending
ending_of status text = record { status = status; text = text }

-- a line on err in the name of a program
abbrev pub line_of : (program text : List ℕ) → List ℕ
line_of program text = program ++ (codes ": " ++ (text ++ codes "\n"))

-- an end with such a line
abbrev pub tells : (program : List ℕ) → (status : ℕ) → (text : List ℕ) → Ending
tells program status text = ending_of status (line_of program text)

-- what is said of a bad word, by its number, from 1
abbrev pub bad_word_text : (word : ℕ) → List ℕ
bad_word_text word = codes "bad word " ++ decimal word

-- the ends that every program may come to: a word cannot stand where it is
abbrev pub bad_word : (program : List ℕ) → (word : ℕ) → Ending
bad_word program word = tells program exit.bad_word (bad_word_text word)

-- a file is missing, or a fetch or a read of the input failed
abbrev pub read_fault : (program : List ℕ) → Ending
read_fault program = tells program exit.read_fault (codes "read fault")

-- a write or a store failed
abbrev pub write_fault : (program : List ℕ) → Ending
write_fault program = tells program exit.write_fault (codes "write fault")

-- memory ran out
abbrev pub no_memory : (program : List ℕ) → Ending
no_memory program = tells program exit.no_memory (codes "out of memory")

-- a file or the input is past its greatest length
abbrev pub too_long : (program : List ℕ) → Ending
too_long program = tells program exit.too_long (codes "too long")

-- all steps of a run were made, and it was not at its end
abbrev pub steps_out : (program : List ℕ) → Ending
steps_out program = tells program exit.steps_out (codes "steps out")

-- a program is too large, by its size
abbrev pub too_much_code : (program : List ℕ) → (size : ℕ) → Ending
too_much_code program size = tells program exit.too_much_code (codes "too much code " ++ decimal size)

-- success, without a word on err
abbrev pub success : Ending
success = ending_of exit.succeeded []

-- an end without a print
abbrev pub silent : Ending → Due
silent end = record { end = end; out = []; stored = None }

-- success with these bytes on out
abbrev pub prints : List ℕ → Due
prints out = record { end = success; out = out; stored = None }

-- ---- plans

-- A plan: a file is fetched, of so many bytes at most, and what comes then goes by its bytes; or a source is judged, and it
-- goes by the verdict; or the whole input is read, of so many bytes as an input may have, and what is due follows from a last
-- value that goes by them; or it follows from a last value at once.
pub data Plan (V L : Type 0) : Type 0 where
  Fetches : (name : List ℕ) (limit : ℕ) (next : List ℕ → Plan V L) → Plan V L
  Judges : (source : List ℕ) (next : V → Plan V L) → Plan V L
  Reads : (last : List ℕ → L) → Plan V L
  Ends : (last : L) → Plan V L

-- what plans say: to which verdicts a source may come, and what a last value means
pub record Sense (V L : Type 0) : Type 1 where
  pub judged : (source : List ℕ) → V → Type 0
  pub means : L → Due → Type 0

-- a last value is what is due
abbrev pub IsDue : (last due : Due) → Type 0
IsDue last due = due ≡ last

-- so it is of plans that judge no source
abbrev pub plain : Sense ⊥ Due
plain = record { judged = λ source verdict. ⊥; means = IsDue }

-- what becomes of the input: it stays, it is read to its end, or it is found to be longer than an input may be
pub data Reading : Type 0 where
  Kept : Reading
  Finished : Reading
  Passed : Reading

module _ {V L : Type 0} (sense : Sense V L) (told : List ℕ → Told) where
  -- the plan may ask for this file, by what the files tell
  abbrev pub Asks : Plan V L → (name : List ℕ) → Type 0
  Asks (Fetches name limit next) asked =
      (name ≡ asked) ⊎ ((bytes : List ℕ) × MayHave (told name) bytes × (length bytes ≤ limit) × Asks (next bytes) asked)
  Asks (Judges source next) asked = (verdict : V) × sense.judged source verdict × Asks (next verdict) asked
  Asks (Reads last) asked = ⊥
  Asks (Ends last) asked = ⊥

  -- it may ask for a file that is told to be missing
  abbrev pub MayLack : Plan V L → Type 0
  MayLack plan = (name : List ℕ) × Asks plan name × (told name ≡ Missing)

  -- it does so: the files that it asks for before are told too
  abbrev pub Lacks : Plan V L → Type 0
  Lacks (Fetches name limit next) =
      (told name ≡ Missing) ⊎ ((bytes : List ℕ) × (told name ≡ Has bytes) × (length bytes ≤ limit) × Lacks (next bytes))
  Lacks (Judges source next) = (verdict : V) × sense.judged source verdict × Lacks (next verdict)
  Lacks (Reads last) = ⊥
  Lacks (Ends last) = ⊥

module _ {V L : Type 0} (sense : Sense V L) (program : List ℕ) (told : List ℕ → Told) (left : Option (List ℕ)) where
  -- What a plan may come to, by what the files tell and what is left of the input, and what becomes of the input then: a file
  -- that is missing is a read fault, and one that passes its limit, or an input that does, is too long.
  abbrev pub Comes : Plan V L → Reading → Due → Type 0
  Comes (Fetches name limit next) reading due =
      ((told name ≡ Missing) × (reading ≡ Kept) × (due ≡ silent (read_fault program)))
      ⊎ ((MayPass (told name) limit × (reading ≡ Kept) × (due ≡ silent (too_long program)))
      ⊎ ((bytes : List ℕ) × MayHave (told name) bytes × (length bytes ≤ limit) × Comes (next bytes) reading due))
  Comes (Judges source next) reading due = (verdict : V) × sense.judged source verdict × Comes (next verdict) reading due
  Comes (Reads last) reading due =
      (MayHaveMore left input_limit × (reading ≡ Passed) × (due ≡ silent (too_long program)))
      ⊎ ((bytes : List ℕ) × MayBeLeft left bytes × (length bytes ≤ input_limit) × (reading ≡ Finished) × sense.means (last bytes) due)
  Comes (Ends last) reading due = (reading ≡ Kept) × sense.means last due
