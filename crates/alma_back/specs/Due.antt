-- What a call of the program comes to: its plan.
use Rattle.std.specs.Prelude.{ℕ, Bool, true, false, List, [], ◌∷◌, ◌++◌, codes, decimal, cond, Option, None, Some, Result, Ok, Err}
use Rattle.alma_base.specs.Limits.{object_limit}
use Rattle.alma_code.specs.Plain.{PlainCode}
use Rattle.alma_code.specs.Reads.{code_reads}
use Rattle.alma_verify.specs.Bytes.{object_code}
use Rattle.alma_plan.specs.Plan.{Due, Ending, Plan, Fetches, Reads, Ends, silent, prints, tells, bad_word}
use Rattle.alma_plan.specs.Objects.{object_refusal}
use Rattle.alma_driver_words.specs.Exit as exit
use Rattle.alma_driver_words.specs.Words.{is_file_name}
use Rattle.alma_back.specs.Script.{Line, lines_in}
use Rattle.alma_back.specs.Session.{session}

-- the name of the program
abbrev pub program : List ℕ
program = codes "alma_back"

-- the greatest number of bytes of a script
abbrev pub script_limit : ℕ
script_limit = 1048576

-- ---- the plan

-- a code that is walked by lines, where the input is read if the code reads it
abbrev pub walk_on_plan : (reads : Bool) → PlainCode → List Line → Plan ⊥ Due
walk_on_plan true code lines = Reads (λ input. prints (session code input lines))
walk_on_plan false code lines = Ends (prints (session code [] lines))

-- the code of an object, unless that is refused
abbrev pub walk_plan : Option Ending → PlainCode → List Line → Plan ⊥ Due
walk_plan (Some end) code lines = Ends (silent end)
walk_plan None code lines = walk_on_plan (code_reads code) code lines

-- the end for a line of the script, from 1, that is none
abbrev pub bad_line : (line : ℕ) → Ending
bad_line line = tells program exit.own_refusal (codes "bad line " ++ decimal line)

-- both files are there: the first bad line of the script comes before any fault of the object
abbrev pub unless_bad_line : Result (List Line) ℕ → (object : List ℕ) → Plan ⊥ Due
unless_bad_line (Err line) object = Ends (silent (bad_line line))
unless_bad_line (Ok lines) object = walk_plan (object_refusal program object) (object_code object) lines

-- the same by the bytes of both
abbrev pub walk_files_plan : (object script : List ℕ) → Plan ⊥ Due
walk_files_plan object script = unless_bad_line (lines_in script) object

-- the files of these names are fetched
abbrev pub fetch_plan : (object script : List ℕ) → Plan ⊥ Due
fetch_plan object script = Fetches object object_limit (λ bytes. Fetches script script_limit (λ lines. walk_files_plan bytes lines))

-- a word that cannot stand where it is, or one more than there are
abbrev pub bad_word_plan : (word : ℕ) → Plan ⊥ Due
bad_word_plan word = Ends (silent (bad_word program word))

-- the words behind an object's name: the name of a script, and no more
abbrev pub with_script : (object : List ℕ) → (words : List (List ℕ)) → Plan ⊥ Due
with_script object [] = bad_word_plan 2
with_script object (script ∷ []) = cond (is_file_name script) (fetch_plan object script) (bad_word_plan 2)
with_script object (script ∷ word ∷ words) = cond (is_file_name script) (bad_word_plan 3) (bad_word_plan 2)

-- a call with these words
abbrev pub back_plan : (words : List (List ℕ)) → Plan ⊥ Due
back_plan [] = bad_word_plan 1
back_plan (object ∷ words) = cond (is_file_name object) (with_script object words) (bad_word_plan 1)
