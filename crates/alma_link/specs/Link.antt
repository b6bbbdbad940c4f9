-- What a call of the program comes to: its plan.
use Rattle.std.specs.Prelude.{◌-◌, ℕ, List, [], ◌∷◌, ◌++◌, codes, decimal, get_or, Option, None, Some, Result, Ok, Err}
use Rattle.alma_driver_words.specs.Exit as exit
use Rattle.alma_driver_words.specs.Words.{default_steps}
use Rattle.alma_ir.specs.Tree.{Program, routine_at}
use Rattle.alma_join.specs.Joined.{JoinFault, Missing, Twice, HeadDiffers, TooLarge, join_fault, joined_program, no_program}
use Rattle.alma_plan.specs.Plan.{Ending, Plan, Ends, ending_of, silent, tells, bad_word}
use Rattle.alma_plan.specs.Programs.{Last, Tells, read_source, run_plan, store_plan}
use Rattle.alma_source.specs.Verdict.{Verdict}
use Rattle.alma_link.specs.Words.{Task, Run, Compile, Request, request_of}

-- the name of the program
abbrev pub program : List ℕ
program = codes "alma_link"

-- how a run ends that fails
abbrev pub failure : Ending
failure = ending_of exit.failed []

-- ---- faults of modules

-- the module of a number, from 1
abbrev pub unit_at : List Program → (unit : ℕ) → Program
unit_at units unit = get_or units (unit - 1) no_program

-- what is said of an import, by its module and its number there: its fault, the number of the module, and its name
abbrev pub import_text : (fault : List ℕ) → List Program → (unit routine : ℕ) → List ℕ
import_text fault units unit routine = fault ++ (decimal unit ++ (codes " " ++ (routine_at (unit_at units unit) routine).name))

-- what is said of a fault of modules
abbrev pub join_text : List Program → JoinFault → List ℕ
join_text units (Missing unit routine) = import_text (codes "Missing ") units unit routine
join_text units (Twice unit routine) = import_text (codes "Twice ") units unit routine
join_text units (HeadDiffers unit routine) = import_text (codes "HeadDiffers ") units unit routine
join_text units (TooLarge unit) = codes "TooLarge " ++ decimal unit

-- the end of a call whose modules have it
abbrev pub join_refusal : List Program → JoinFault → Ending
join_refusal units fault = tells program exit.own_refusal (join_text units fault)

-- ---- the plan

-- what a task does with a program
abbrev pub task_plan : Task → Program → Plan Verdict Last
task_plan Run p = run_plan program p default_steps
task_plan (Compile object) p = store_plan program p object

-- modules without a fault are joined, and others are refused
abbrev pub unless_fault : Option JoinFault → Task → List Program → Plan Verdict Last
unless_fault None task units = task_plan task (joined_program units)
unless_fault (Some fault) task units = Ends (Tells (silent (join_refusal units fault)))

-- all modules are there
abbrev pub join_plan : Task → List Program → Plan Verdict Last
join_plan task units = unless_fault (join_fault units) task units

-- the files of these names are read, one after another, behind the modules that were
abbrev pub files_plan : Task → (got : List Program) → (names : List (List ℕ)) → Plan Verdict Last
files_plan task got [] = join_plan task got
files_plan task got (name ∷ names) = read_source name (λ p. files_plan task (got ++ p ∷ []) names)

-- a word that cannot stand where it is, or one more than there are
abbrev pub bad_word_plan : (word : ℕ) → Plan Verdict Last
bad_word_plan word = Ends (Tells (silent (bad_word program word)))

-- words that are a request, or not
abbrev pub request_plan : Result Request ℕ → Plan Verdict Last
request_plan (Ok r) = files_plan r.task [] r.files
request_plan (Err word) = bad_word_plan word

-- a call with these words
abbrev pub link_plan : (words : List (List ℕ)) → Plan Verdict Last
link_plan words = request_plan (request_of words)
