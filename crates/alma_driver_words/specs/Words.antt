-- What the words of a call ask for.
use Rattle.std.specs.Prelude.{◌≡◌, ◌≤◌, ◌^◌, Bool, true, false, List, ℕ, zero, suc, [], ◌∷◌, ◌++◌, length, map, codes}
use Rattle.std.specs.Prelude.{not, eqb, leb, ◌&&◌, String, Result, Ok, Err}
use Rattle.std.specs.List.{list_all}
use Rattle.std.specs.declared.alloc.Global.{Global}
use Rattle.std.specs.String.{string_bytes}
use Rattle.alma_base.specs.Reading.{is_digit}
use Rattle.alma_tree.specs.declared.kind.Kind.TheVariants as kinds
use Rattle.alma_scan.specs.Bytes.{AllIn, value_of}
use Rattle.alma_scan.specs.Tokens.{Tokens}
use Rattle.alma_driver_words.specs.BadWords as form
use Rattle.alma_driver_words.specs.declared.words.Request as read
use Rattle.alma_driver_words.specs.declared.words.Request.TheVariants as read_request
use Rattle.alma_driver_words.specs.declared.words.WordsError.{WordsError}
use Rattle.alma_driver_words.specs.declared.words.WordsError.TheVariants.{Bad, Memory}

-- ---- single words

-- a word that may name a file: not empty, and without '-' in front
abbrev pub is_file_name : List ℕ → Bool
is_file_name [] = false
is_file_name (byte ∷ bytes) = not (eqb byte 45)

-- a word may name a file
abbrev pub IsFileName : List ℕ → Type 0
IsFileName word = is_file_name word ≡ true

-- each word may name a file
abbrev pub AreFileNames : List (List ℕ) → Type 0
AreFileNames [] = Unit {0}
AreFileNames (word ∷ words) = IsFileName word × AreFileNames words

-- the greatest number of steps that words may name
abbrev pub greatest_steps : ℕ
greatest_steps = 2 ^ 62

-- the greatest number of digits by which they name it
abbrev pub steps_digits : ℕ
steps_digits = 19

-- the number of steps where the words name none
abbrev pub default_steps : ℕ
default_steps = 1000000000

-- the greatest number of lines of a sample
abbrev pub greatest_lines : ℕ
greatest_lines = 5000

-- the greatest number of digits by which words name it
abbrev pub lines_digits : ℕ
lines_digits = 4

-- the greatest number of names that words watch
abbrev pub greatest_watches : ℕ
greatest_watches = 8

-- so many digits at most, one at least, and their value
pub record IsNumeral (most : ℕ) (text : List ℕ) (number : ℕ) : Type 0 where
  pub digits : AllIn is_digit text
  pub some : 1 ≤ length text
  pub short : length text ≤ most
  pub value : value_of text ≡ number

-- one digit at least and so many at most, whose value is from 1 to the greatest
abbrev pub is_numeral : (most greatest : ℕ) → List ℕ → Bool
is_numeral most greatest text = list_all is_digit text &&
    (leb 1 (length text) && (leb (length text) most && (leb 1 (value_of text) && leb (value_of text) greatest)))

-- digits name a number of steps from 1 on
pub record NamesSteps (text : List ℕ) (steps : ℕ) : Type 0 where
  pub numeral : IsNumeral steps_digits text steps
  pub least : 1 ≤ steps
  pub greatest : steps ≤ greatest_steps

-- digits name a number of lines of a sample
pub record NamesLines (text : List ℕ) (lines : ℕ) : Type 0 where
  pub numeral : IsNumeral lines_digits text lines
  pub greatest : lines ≤ greatest_lines

-- the text is one name of the language, and no reserved word
abbrev pub IsName : List ℕ → Type 0
IsName text = Tokens text (record { kind = kinds.Name; text = text; start = 0 } ∷ [])

-- ---- options

-- an option: a number of steps, the line of statistics, or a watched variable
pub data Setting : Type 0 where
  Steps : (steps : ℕ) → Setting
  Stats : Setting
  Watch : (name : List ℕ) → Setting

-- the word is this option
abbrev pub IsSetting : (word : List ℕ) → Setting → Type 0
IsSetting word (Steps steps) = (digits : List ℕ) × (word ≡ codes "--steps=" ++ digits) × NamesSteps digits steps
IsSetting word Stats = word ≡ codes "--stats"
IsSetting word (Watch name) = (word ≡ codes "--watch=" ++ name) × IsName name

-- the words are these options, in order
abbrev pub AreSettings : (words : List (List ℕ)) → List Setting → Type 0
AreSettings [] [] = Unit {0}
AreSettings [] (setting ∷ settings) = ⊥
AreSettings (word ∷ words) [] = ⊥
AreSettings (word ∷ words) (setting ∷ settings) = IsSetting word setting × AreSettings words settings

-- the numbers of steps that options name
abbrev pub steps_named : List Setting → List ℕ
steps_named [] = []
steps_named (Steps steps ∷ settings) = steps ∷ steps_named settings
steps_named (Stats ∷ settings) = steps_named settings
steps_named (Watch name ∷ settings) = steps_named settings

-- how many of the options ask for statistics
abbrev pub stats_count : List Setting → ℕ
stats_count [] = zero
stats_count (Steps steps ∷ settings) = stats_count settings
stats_count (Stats ∷ settings) = suc (stats_count settings)
stats_count (Watch name ∷ settings) = stats_count settings

-- the watched names, in order
abbrev pub names_watched : List Setting → List (List ℕ)
names_watched [] = []
names_watched (Steps steps ∷ settings) = names_watched settings
names_watched (Stats ∷ settings) = names_watched settings
names_watched (Watch name ∷ settings) = name ∷ names_watched settings

-- the options of a command that takes so many for statistics and so many names to watch: at most one for steps
pub record Allows (stats watches : ℕ) (settings : List Setting) : Type 0 where
  pub few_steps : length (steps_named settings) ≤ 1
  pub few_stats : stats_count settings ≤ stats
  pub few_watches : length (names_watched settings) ≤ watches

-- the number of steps by those that options name: the first of them, or the default where there is none
abbrev pub steps_of : (named : List ℕ) → ℕ
steps_of [] = default_steps
steps_of (steps ∷ more) = steps

-- a count is not zero
abbrev pub is_positive : ℕ → Bool
is_positive zero = false
is_positive (suc more) = true

-- the options behind the names of a command, with what they come to
pub record Options (stats watches : ℕ) (words : List (List ℕ)) (steps : ℕ) (with_stats : Bool) (names : List (List ℕ)) : Type 0 where
  pub settings : List Setting
  pub are : AreSettings words settings
  pub allowed : Allows stats watches settings
  pub steps_are : steps ≡ steps_of (steps_named settings)
  pub stats_are : with_stats ≡ is_positive (stats_count settings)
  pub names_are : names ≡ names_watched settings

-- ---- requests

-- what a call may be asked for; each field as the word that names it
pub data Request : Type 0 where
  Check : (name : List ℕ) → Request
  Compile : (name object : List ℕ) → Request
  Listing : (object : List ℕ) → Request
  Run : (name : List ℕ) (steps : ℕ) (stats : Bool) → Request
  Exec : (object : List ℕ) (steps : ℕ) (stats : Bool) → Request
  Trace : (name : List ℕ) (steps : ℕ) (watch : List (List ℕ)) → Request
  Sample : (lines : ℕ) → Request

-- the words are this request
abbrev pub Asks : List (List ℕ) → Request → Type 0
Asks words (Check name) = (words ≡ codes "check" ∷ name ∷ []) × IsFileName name
Asks words (Compile name object) = (words ≡ codes "compile" ∷ name ∷ object ∷ []) × IsFileName name × IsFileName object
Asks words (Listing object) = (words ≡ codes "list" ∷ object ∷ []) × IsFileName object
Asks words (Run name steps stats) =
    (options : List (List ℕ)) × (words ≡ codes "run" ∷ name ∷ options) × IsFileName name × Options 1 0 options steps stats []
Asks words (Exec object steps stats) =
    (options : List (List ℕ)) × (words ≡ codes "exec" ∷ object ∷ options) × IsFileName object × Options 1 0 options steps stats []
Asks words (Trace name steps watch) =
    (options : List (List ℕ)) × (words ≡ codes "trace" ∷ name ∷ options) × IsFileName name
    × Options 0 greatest_watches options steps false watch
Asks words (Sample lines) = (digits : List ℕ) × (words ≡ codes "sample" ∷ digits ∷ []) × NamesLines digits lines

-- they ask for something
abbrev pub IsRequest : List (List ℕ) → Type 0
IsRequest words = (request : Request) × Asks words request

-- word k is the first that cannot stand where it is in a request, or they end too early
abbrev pub IsBadWord : List (List ℕ) → (k : ℕ) → Type 0
IsBadWord words k = form.IsBadWord IsRequest words k

-- ---- what reading the words answers

-- the bytes of each word
abbrev pub texts : List (String Global) → List (List ℕ)
texts words = map (λ word. string_bytes word) words

-- the request that a read one is
abbrev pub request_of : read.Request → Request
request_of (read_request.Check file) = Check file.now
request_of (read_request.Compile file object) = Compile file.now object.now
request_of (read_request.List object) = Listing object.now
request_of (read_request.Run file steps stats) = Run file.now steps stats
request_of (read_request.Exec object steps stats) = Exec object.now steps stats
request_of (read_request.Trace file steps watch) = Trace file.now steps (map (λ name. name.now) watch.items)
request_of (read_request.Sample lines) = Sample lines

-- What reading these words may answer: the request that they are, or the first word that cannot stand. Want of memory is free.
abbrev pub Reads : List (List ℕ) → Result read.Request WordsError → Type 0
Reads words (Ok request) = Asks words (request_of request)
Reads words (Err (Bad k)) = IsBadWord words k
Reads words (Err Memory) = Unit {0}

-- the file that the words name for a refusal: the second word
abbrev pub file_of : List (List ℕ) → List ℕ
file_of [] = []
file_of (command ∷ []) = []
file_of (command ∷ file ∷ options) = file
