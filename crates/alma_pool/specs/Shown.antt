-- What a call shows of programs that take turns, in the words of a reader of their meanings.
use Rattle.std.specs.Prelude.{◌≡◌, ◌≤◌, ◌+◌, List, ℕ, true, [], ◌∷◌, ◌++◌, codes, length, None, Some}
use Rattle.std.specs.List.{list_any}
use Rattle.alma_base.specs.Fault.{run_fault_text}
use Rattle.alma_base.specs.Limits.{input_limit}
use Rattle.alma_io.specs.Files.{Told, Has}
use Rattle.alma_ir.specs.Tree.{Program}
use Rattle.alma_lower_sound.specs.Reads.{program_reads}
use Rattle.alma_mean.specs.Events.{End, Succeeded, Failed, Faulted, CutOff}
use Rattle.alma_io.specs.Outside.{Outside}
use Rattle.alma_plan.specs.Plan.{prints}
use Rattle.alma_plan.specs.Undisturbed.{ShowsDue}
use Rattle.alma_run_laws.specs.Shown.{Shows}
use Rattle.alma_run_laws.specs.Stored.{SpellsCodeOf}
use Rattle.alma_pool.specs.Due.{turns_limit, bad_turn_behind, turns_in, program_lines}
use Rattle.alma_pool.specs.Pool.{turns_of}
use Rattle.alma_pool.specs.Words.{AsksToPlay}

-- each file has the object of its place, which spells code of the program of its place, as `alma compile` stores it
abbrev pub HaveObjectsOf : (told : List ℕ → Told) → (files objects : List (List ℕ)) → List Program → Type 0
HaveObjectsOf told [] [] [] = Unit {0}
HaveObjectsOf told (file ∷ files) (bytes ∷ objects) (p ∷ programs) =
    (told file ≡ Has bytes) × SpellsCodeOf p bytes × HaveObjectsOf told files objects programs
HaveObjectsOf told [] [] (p ∷ programs) = ⊥
HaveObjectsOf told [] (bytes ∷ objects) programs = ⊥
HaveObjectsOf told (file ∷ files) [] programs = ⊥
HaveObjectsOf told (file ∷ files) (bytes ∷ objects) [] = ⊥

-- The words ask that programs take turns: the file of turns has these bytes, letters of the programs and line feeds, the others have
-- objects of the programs; and where one of them reads, this input is left, within its length.
pub record PlaysPrograms (words : List (List ℕ)) (before : Outside) (turns : List ℕ) (programs : List Program) (input : List ℕ) : Type 0
  where
    pub file : List ℕ
    pub files : List (List ℕ)
    pub objects : List (List ℕ)
    pub asks : AsksToPlay words file files
    pub turns_told : before.files.told file ≡ Has turns
    pub turns_short : length turns ≤ turns_limit
    pub turns_good : bad_turn_behind (length programs) 0 turns ≡ None
    pub told : HaveObjectsOf before.files.told files objects programs
    pub left : list_any program_reads programs ≡ true → before.input.left ≡ Some input
    pub input_short : length input ≤ input_limit

-- the words for an end of a meaning, as far as a program's turns reach
abbrev pub meant_words : End → List ℕ
meant_words Succeeded = codes "succeeded"
meant_words Failed = codes "failed"
meant_words (Faulted fault line) = codes "fault " ++ run_fault_text fault
meant_words CutOff = codes "waiting"

-- The text is the lines of these programs, which stand behind so many others, one after another: of each what its meaning prints on the
-- input, and how it ends, or a front of that, in as many steps as it has turns.
pub data ShowsEach (input : List ℕ) (turns : List ℕ) : (ahead : ℕ) → List Program → (text : List ℕ) → Type 0 where
  none : (ahead : ℕ) → ShowsEach input turns ahead [] []
  one_more : (ahead : ℕ) (p : Program) (programs : List Program) (printed rest : List ℕ) (end : End)
      → Shows p input (turns_of ahead turns) printed end
      → ShowsEach input turns (ahead + 1) programs rest
      → ShowsEach input turns ahead (p ∷ programs) (program_lines (ahead + 1) (meant_words end) printed ++ rest)

-- what such a call shows, where nothing fails
abbrev pub ShowsPrograms : (turns : List ℕ) → List Program → (input : List ℕ) → (before after : Outside) → (status : ℕ) → Type 0
ShowsPrograms turns programs input before after status =
    (text : List ℕ) × ShowsEach input (turns_in turns) 0 programs text × ShowsDue before after status (prints text)
