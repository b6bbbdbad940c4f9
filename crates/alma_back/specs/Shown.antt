-- What a call shows of a program that is walked, in the words of a reader of its meaning.
use Rattle.std.specs.Prelude.{◌≡◌, ◌≤◌, List, ℕ, true, [], ◌∷◌, ◌++◌, codes, decimal, length, Ok, Some}
use Rattle.alma_base.specs.Limits.{input_limit}
use Rattle.alma_code.specs.declared.step.End.TheVariants as end
use Rattle.alma_code.specs.Machine.{Ended}
use Rattle.alma_io.specs.Files.{Has}
use Rattle.alma_ir.specs.Tree.{Program}
use Rattle.alma_lower_implements.specs.Implements.{line_in}
use Rattle.alma_lower_sound.specs.Reads.{program_reads}
use Rattle.alma_io.specs.Outside.{Outside}
use Rattle.alma_plan.specs.Plan.{prints}
use Rattle.alma_plan.specs.Undisturbed.{ShowsDue}
use Rattle.alma_run_laws.specs.Shown.{Shows, shown_end}
use Rattle.alma_run_laws.specs.Stored.{SpellsCodeOf}
use Rattle.alma_run_laws.specs.Variables.{IsMeantWord, variable_word}
use Rattle.alma_verify.specs.Bytes.{object_code}
use Rattle.alma_back.specs.Due.{script_limit}
use Rattle.alma_back.specs.Script.{Line, Forward, Backward, Value, Output, lines_in}
use Rattle.alma_back.specs.Session.{after_line, at_text}
use Rattle.alma_back.specs.Standing.{Standing, standing_at_start, state_of}
use Rattle.alma_back.specs.Words.{AsksToWalk}

-- The words ask to walk a run of this program by these lines: the object spells code of the program, as `alma compile` stores it, the
-- script has the lines; and where the program reads, this input is left, within its length.
pub record WalksProgram (words : List (List ℕ)) (before : Outside) (p : Program) (lines : List Line) (input : List ℕ) : Type 0 where
  pub object : List ℕ
  pub script : List ℕ
  pub bytes : List ℕ
  pub text : List ℕ
  pub asks : AsksToWalk words object script
  pub object_told : before.files.told object ≡ Has bytes
  pub spells : SpellsCodeOf p bytes
  pub script_told : before.files.told script ≡ Has text
  pub script_short : length text ≤ script_limit
  pub script_good : lines_in text ≡ Ok lines
  pub left : program_reads p ≡ true → before.input.left ≡ Some input
  pub input_short : length input ≤ input_limit

-- What a line shows of a run of the program that stands there: the number of its steps; a variable of the program, by its cells there,
-- and where the run has come to success what its meaning gives the variable; or how many bytes were printed: all that its meaning
-- prints where the run has ended, and else a front of them that so many steps show.
abbrev pub ShowsLine : Program → Standing → Line → (text : List ℕ) → Type 0
ShowsLine p s (Forward more) text = text ≡ at_text s
ShowsLine p s (Backward less) text = text ≡ at_text s
ShowsLine p s (Value name) text =
    (text ≡ variable_word (state_of s).now p.globals name ++ codes "\n")
    × ((state_of s).mode ≡ Ended end.Succeeded → IsMeantWord p s.input s.steps name (variable_word (state_of s).now p.globals name))
ShowsLine p s Output text =
    (printed : List ℕ) × Shows p s.input s.steps printed (shown_end (state_of s).mode (line_in s.code (state_of s)))
    × (text ≡ codes "printed " ++ (decimal (length printed) ++ codes "\n"))

-- what lines show, one after another, where each moves the run before it shows anything
pub data ShowsLines (p : Program) : Standing → List Line → (text : List ℕ) → Type 0 where
  none : (s : Standing) → ShowsLines p s [] []
  one_more : (s : Standing) (line : Line) (lines : List Line) (text rest : List ℕ) → ShowsLine p (after_line s line) line text
      → ShowsLines p (after_line s line) lines rest
      → ShowsLines p s (line ∷ lines) (text ++ rest)

-- what such a call shows, where nothing fails: a walk of a run of the code that the object's bytes spell
abbrev pub ShowsWalk : Program → List Line → (input bytes : List ℕ) → (before after : Outside) → (status : ℕ) → Type 0
ShowsWalk p lines input bytes before after status =
    (text : List ℕ) × ShowsLines p (standing_at_start (object_code bytes) input) lines text × ShowsDue before after status (prints text)
