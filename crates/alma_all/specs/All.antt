-- What a call of the program comes to: its plan.
use Rattle.std.specs.Prelude.{ℕ, List, [], ◌∷◌, Bool, true, false, eqb, cond, codes, Option, None, Some}
use Rattle.std.specs.List.{list_any}
use Rattle.alma_ir.specs.Phrases.{Phrase, StmtPhrase, stmts_phrases}
use Rattle.alma_ir.specs.Tree.{Program, Return, routine_at}
use Rattle.alma_scan.specs.Bytes.{value_of}
use Rattle.alma_driver_words.specs.Exit as exit
use Rattle.alma_driver_words.specs.Words.{default_steps, greatest_steps, is_file_name, is_numeral, steps_digits}
use Rattle.alma_listing.specs.Lister.{listing_of}
use Rattle.alma_source.specs.Verdict.{Verdict}
use Rattle.alma_plan.specs.Plan.{Ending, Plan, Sense, Ends, bad_word, silent, success, tells}
use Rattle.alma_plan.specs.Programs.{Last, Tells, read_source, run_plan, sense}

-- the name of the program
abbrev pub program : List ℕ
program = codes "alma_all"

-- where all alternatives are listed, the program that lists them fails: that is success
abbrev pub all_sense : Sense Verdict Last
all_sense = sense program success

-- ---- the words

-- the text behind a front that it begins with
abbrev pub strip_prefix : (front text : List ℕ) → Option (List ℕ)
strip_prefix [] text = Some text
strip_prefix (x ∷ front) [] = None
strip_prefix (x ∷ front) (y ∷ text) = cond (eqb x y) (strip_prefix front text) None

-- digits name a number of steps from 1 on
abbrev pub names_steps : List ℕ → Bool
names_steps text = is_numeral steps_digits greatest_steps text

-- the number of steps that a text names, where there is one
abbrev pub steps_of_digits : Option (List ℕ) → Option ℕ
steps_of_digits None = None
steps_of_digits (Some text) = cond (names_steps text) (Some (value_of text)) None

-- the number of steps that an option names
abbrev pub steps_in : (word : List ℕ) → Option ℕ
steps_in word = steps_of_digits (strip_prefix (codes "--steps=") word)

-- ---- the plan

-- the phrase is a RETURN
abbrev pub is_return : Phrase → Bool
is_return (StmtPhrase (Return e)) = true
is_return _ = false

-- a RETURN stands in the body of the module
abbrev pub body_returns : Program → Bool
body_returns p = list_any is_return (stmts_phrases (routine_at p 0).body)

-- the end where one stands there
abbrev pub module_return : Ending
module_return = tells program exit.own_refusal (codes "ModuleReturn")

-- the alternatives of a program are listed by another, in so many steps; one whose body returns is refused
abbrev pub unless_returns : (returns : Bool) → Program → (steps : ℕ) → Plan Verdict Last
unless_returns true p steps = Ends (Tells (silent module_return))
unless_returns false p steps = run_plan program (listing_of p) steps

-- the same by the program
abbrev pub list_plan : Program → (steps : ℕ) → Plan Verdict Last
list_plan p steps = unless_returns (body_returns p) p steps

-- those of the program of a file
abbrev pub file_plan : (file : List ℕ) → (steps : ℕ) → Plan Verdict Last
file_plan file steps = read_source file (λ p. list_plan p steps)

-- a call that comes to an end without a print
abbrev pub end_plan : Ending → Plan Verdict Last
end_plan end = Ends (Tells (silent end))

-- a word that cannot stand where it is, or one more than there are
abbrev pub bad_word_plan : (word : ℕ) → Plan Verdict Last
bad_word_plan word = end_plan (bad_word program word)

-- a file, the number of steps that the second word names, and the words behind
abbrev pub with_steps : (file : List ℕ) → Option ℕ → (more : List (List ℕ)) → Plan Verdict Last
with_steps file None more = bad_word_plan 2
with_steps file (Some steps) [] = file_plan file steps
with_steps file (Some steps) (word ∷ more) = bad_word_plan 3

-- a file, and the words behind it
abbrev pub with_options : (file : List ℕ) → (options : List (List ℕ)) → Plan Verdict Last
with_options file [] = file_plan file default_steps
with_options file (option ∷ more) = with_steps file (steps_in option) more

-- a word that may name a file, or that may not, and the words behind it
abbrev pub with_file : (is_file : Bool) → (file : List ℕ) → (options : List (List ℕ)) → Plan Verdict Last
with_file false file options = bad_word_plan 1
with_file true file options = with_options file options

-- a call with these words
abbrev pub all_plan : (words : List (List ℕ)) → Plan Verdict Last
all_plan [] = bad_word_plan 1
all_plan (file ∷ options) = with_file (is_file_name file) file options
