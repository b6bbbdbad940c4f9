-- What the words of a call ask for.
use Rattle.std.specs.Prelude.{◌≡◌, ◌≤◌, ℕ, Bool, true, false, List, [], ◌∷◌, codes, length, cond, Option, None, Some}
use Rattle.std.specs.Prelude.{Result, Ok, Err}
use Rattle.std.specs.Str.{bytes_eq}
use Rattle.alma_driver_words.specs.Words.{AreFileNames, is_file_name}
use Rattle.alma_plan.specs.Words.{bad_file, greatest_files}

-- what is done with the joined program: it is run, or its object is stored under a name
pub data Task : Type 0 where
  Run : Task
  Compile : (object : List ℕ) → Task

-- a task, and the files that hold the modules
pub record Request : Type 0 where
  pub task : Task
  pub files : List (List ℕ)

-- a request by its parts
abbrev pub request : Task → (files : List (List ℕ)) → Request
request task files = record { task = task; files = files }

-- a request, or its bad word
abbrev pub unless_bad : Option ℕ → Request → Result Request ℕ
unless_bad None r = Ok r
unless_bad (Some word) r = Err word

-- a request whose files stand behind so many words, or its bad word
abbrev pub with_files : (before : ℕ) → Task → (files : List (List ℕ)) → Result Request ℕ
with_files before task files = unless_bad (bad_file before before files) (request task files)

-- what stands behind `compile`
abbrev pub compile_request : List (List ℕ) → Result Request ℕ
compile_request [] = Err 2
compile_request (object ∷ files) = cond (is_file_name object) (with_files 2 (Compile object) files) (Err 2)

-- what stands behind the first word
abbrev pub request_behind : (is_run is_compile : Bool) → List (List ℕ) → Result Request ℕ
request_behind true is_compile words = with_files 1 Run words
request_behind false true words = compile_request words
request_behind false false words = Err 1

-- `run FILE1 .. FILEn` or `compile OUT FILE1 .. FILEn`: the request, or the first word, from 1, that cannot stand where it is
abbrev pub request_of : List (List ℕ) → Result Request ℕ
request_of [] = Err 1
request_of (word ∷ words) = request_behind (bytes_eq word (codes "run")) (bytes_eq word (codes "compile")) words

-- ---- the same, as a reader knows it

-- names of files, from 1 to 16
pub record AreFiles (files : List (List ℕ)) : Type 0 where
  pub names : AreFileNames files
  pub some : 1 ≤ length files
  pub few : length files ≤ greatest_files

-- the words ask for a task with these files
abbrev pub AsksForTask : (words : List (List ℕ)) → Task → (files : List (List ℕ)) → Type 0
AsksForTask words Run files = (words ≡ codes "run" ∷ files) × AreFiles files
AsksForTask words (Compile object) files = (words ≡ codes "compile" ∷ object ∷ files) × (is_file_name object ≡ true) × AreFiles files

-- the same of a request
abbrev pub AsksFor : (words : List (List ℕ)) → Request → Type 0
AsksFor words r = AsksForTask words r.task r.files

-- they ask for something
abbrev pub IsRequest : (words : List (List ℕ)) → Type 0
IsRequest words = (r : Request) × AsksFor words r
