-- Objects that spell code of programs, one after another.
use Rattle.std.proofs.Common.{◌≡◌, ◌≤◌, ◌+◌, ◌∙◌, ℕ, suc, List, [], ◌∷◌, ◌++◌, length, refl, sym, ap, subst, append_assoc}
use Rattle.std.proofs.lemmas.List.{append-nil}
use Rattle.std.specs.Prelude.{◌||◌, Bool, true, false, Option, Ok, map}
use Rattle.std.specs.List.{list_any}
use Rattle.alma_base.specs.Limits.{input_limit}
use Rattle.alma_code.specs.declared.step.End.TheVariants as ended
use Rattle.alma_code.specs.Machine.{Mode, Going, Failing, Ended, Stuck, State, after, prints, start}
use Rattle.alma_code.specs.Plain.{PlainCode}
use Rattle.alma_code.specs.Reads.{code_reads}
use Rattle.alma_io.specs.Files.{Told}
use Rattle.alma_ir.specs.Tree.{Program}
use Rattle.alma_lower_implements.specs.Implements.{state_after, printed_by, line_in}
use Rattle.alma_lower_sound.specs.Reads.{program_reads}
use Rattle.alma_plan.specs.Plan.{Ending}
use Rattle.alma_run_laws.specs.Shown.{shown_end}
use Rattle.alma_run_laws.proofs.Meant.{code_shows}
use Rattle.alma_plan.proofs.SpelledObjects.{spelled_accepted}
use Rattle.alma_run_laws.proofs.Unread.{after_alike, prints_alike}
use Rattle.alma_verify.specs.Bytes.{object_code}
use Rattle.alma_pool.specs.Due.{program, or_refused, open_objects, end_text, program_lines, program_text, pool_text}
use Rattle.alma_pool.specs.Pool.{lone_run, ended_in, turns_of}
use Rattle.alma_pool.specs.Shown.{HaveObjectsOf, ShowsEach, none as none_shown, one_more as one_more_shown, meant_words}

-- the codes of objects
abbrev pub object_codes : List (List ℕ) → List PlainCode
object_codes objects = map object_code objects

-- ---- ends

-- the words for an end of the machine are those for the end that it shows
words_agree : (m : Mode) (line : ℕ) → meant_words (shown_end m line) ≡ end_text (ended_in m)
words_agree (Ended ended.Succeeded) line = refl
words_agree (Ended ended.Failed) line = refl
words_agree (Ended (ended.Fault fault)) line = refl
words_agree Going line = refl
words_agree Failing line = refl
words_agree Stuck line = refl

-- ---- code that reads nothing

-- the lines of a program by a state and prints
abbrev lines_at : (number : ℕ) → State → (output : List ℕ) → List ℕ
lines_at number s output = program_lines number (end_text (ended_in s.mode)) output

program_alike : (number : ℕ) (code : PlainCode) (one other : List ℕ) (steps : ℕ) → code_reads code ≡ false
    → program_text number (lone_run code one steps) ≡ program_text number (lone_run code other steps)
program_alike number code one other steps none =
    ap (λ (s : State). lines_at number s (prints code one steps (start code))) (after_alike code one other steps (start code) none)
    ∙ ap (λ (output : List ℕ). lines_at number (after code other steps (start code)) output)
    (prints_alike code one other steps (start code) none)

-- neither of two where not one of them
neither : (a b : Bool) → (a || b) ≡ false → (a ≡ false) × (b ≡ false)
neither false b e = (refl, e)
neither true b e = cc e

-- codes of which none reads show the same on each input
pub pool_alike : (before : ℕ) (all : List PlainCode) (one other turns : List ℕ) → list_any code_reads all ≡ false
    → pool_text before all one turns ≡ pool_text before all other turns
pool_alike before [] one other turns none = refl
pool_alike before (code ∷ all) one other turns none =
    let both = neither (code_reads code) (list_any code_reads all) none in
    ap (λ (text : List ℕ). text ++ pool_text (before + 1) all one turns)
    (program_alike (before + 1) code one other (turns_of before turns) both.0)
    ∙ ap (λ (text : List ℕ). program_text (before + 1) (lone_run code other (turns_of before turns)) ++ text)
    (pool_alike (before + 1) all one other turns both.1)

-- ---- all objects

module _ (told : List ℕ → Told) where
  -- as many as programs
  pub objects_count : (files objects : List (List ℕ)) (programs : List Program) → HaveObjectsOf told files objects programs
      → length objects ≡ length programs
  objects_count [] [] [] has = refl
  objects_count [] [] (p ∷ programs) has = absurd has
  objects_count [] (bytes ∷ objects) programs has = absurd has
  objects_count (file ∷ files) [] programs has = absurd has
  objects_count (file ∷ files) (bytes ∷ objects) [] has = absurd has
  objects_count (file ∷ files) (bytes ∷ objects) (p ∷ programs) has = ap suc (objects_count files objects programs has.2)

  -- they are opened
  pub objects_open : (got : List PlainCode) (files objects : List (List ℕ)) (programs : List Program)
      → HaveObjectsOf told files objects programs → open_objects got objects ≡ Ok (got ++ object_codes objects)
  objects_open got [] [] [] has = ap (λ (all : List PlainCode). Ok all) (sym (append-nil got))
  objects_open got [] [] (p ∷ programs) has = absurd has
  objects_open got [] (bytes ∷ objects) programs has = absurd has
  objects_open got (file ∷ files) [] programs has = absurd has
  objects_open got (file ∷ files) (bytes ∷ objects) [] has = absurd has
  objects_open got (file ∷ files) (bytes ∷ objects) (p ∷ programs) has =
      let rest = open_objects (got ++ object_code bytes ∷ []) objects in
      ap (λ (refused : Option Ending). or_refused refused rest) (spelled_accepted program p bytes has.1)
      ∙ objects_open (got ++ object_code bytes ∷ []) files objects programs has.2
      ∙ ap (λ (all : List PlainCode). Ok all) (append_assoc got (object_code bytes ∷ []) (object_codes objects))

  -- one of the codes reads where one of the programs does
  pub objects_read : (files objects : List (List ℕ)) (programs : List Program) → HaveObjectsOf told files objects programs
      → list_any code_reads (object_codes objects) ≡ list_any program_reads programs
  objects_read [] [] [] has = refl
  objects_read [] [] (p ∷ programs) has = absurd has
  objects_read [] (bytes ∷ objects) programs has = absurd has
  objects_read (file ∷ files) [] programs has = absurd has
  objects_read (file ∷ files) (bytes ∷ objects) [] has = absurd has
  objects_read (file ∷ files) (bytes ∷ objects) (p ∷ programs) has =
      ap (λ (b : Bool). b || list_any code_reads (object_codes objects)) has.1.code.reads
      ∙ ap (λ (b : Bool). program_reads p || b) (objects_read files objects programs has.2)

  -- what they print shows the programs
  pub objects_show : (before : ℕ) (files objects : List (List ℕ)) (programs : List Program) (input turns : List ℕ)
      → length input ≤ input_limit
      → HaveObjectsOf told files objects programs
      → ShowsEach input turns before programs (pool_text before (object_codes objects) input turns)
  objects_show before [] [] [] input turns short has = none_shown before
  objects_show before [] [] (p ∷ programs) input turns short has = absurd has
  objects_show before [] (bytes ∷ objects) programs input turns short has = absurd has
  objects_show before (file ∷ files) [] programs input turns short has = absurd has
  objects_show before (file ∷ files) (bytes ∷ objects) [] input turns short has = absurd has
  objects_show before (file ∷ files) (bytes ∷ objects) (p ∷ programs) input turns short has =
      let code = object_code bytes in
      let steps = turns_of before turns in
      let s = state_after code input steps in
      let printed = printed_by code input steps in
      let rest = pool_text (before + 1) (object_codes objects) input turns in
      subst (λ (words : List ℕ). ShowsEach input turns before (p ∷ programs) (program_lines (before + 1) words printed ++ rest))
      (words_agree s.mode (line_in code s))
      (one_more_shown before p programs printed rest (shown_end s.mode (line_in code s))
      (code_shows code p input steps has.1.code.implements short)
      (objects_show (before + 1) files objects programs input turns short has.2))
