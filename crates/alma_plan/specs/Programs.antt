-- What programs come to that are read from files: plans of sources, of runs, and of objects.
use Rattle.std.specs.Prelude.{◌≡◌, ℕ, ◌++◌, List, [], Bool, true, false, ltb, codes, None, Some}
use Rattle.alma_base.specs.Fault.{run_fault_text}
use Rattle.alma_base.specs.Limits.{source_limit, size_limit}
use Rattle.alma_base.specs.declared.place.Place.{Place}
use Rattle.alma_base.specs.declared.fault.RunFault.{RunFault}
use Rattle.alma_code.specs.declared.step.End.{End}
use Rattle.alma_code.specs.declared.step.End.TheVariants as ended
use Rattle.alma_code.specs.Lines.{known_line}
use Rattle.alma_code.specs.Machine.{Mode, Going, Failing, Ended, Stuck}
use Rattle.alma_code.specs.Plain.{PlainCode}
use Rattle.alma_driver_words.specs.Exit as exit
use Rattle.alma_ir.specs.Tree.{Program}
use Rattle.alma_lower_implements.specs.Implements.{state_after, printed_by, line_in}
use Rattle.alma_lower_sound.specs.Reads.{program_reads}
use Rattle.alma_object.specs.Fields.{FitsFields}
use Rattle.alma_object_format.specs.Object.{IsObject}
use Rattle.alma_run_laws.specs.Shown.{size_of, line_text}
use Rattle.alma_lower.specs.CodeFor.{IsCodeFor}
use Rattle.alma_source.specs.Texts.{refusal_text}
use Rattle.alma_source.specs.Verdict.{Verdict, Accepted, Rejected, IsVerdict}
use Rattle.alma_source.specs.declared.fault.SourceFault.{SourceFault}
use Rattle.alma_plan.specs.Plan.{Due, Ending, Plan, Sense, Fetches, Judges, Reads, Ends, ending_of, silent, steps_out, success, tells}
use Rattle.alma_plan.specs.Plan.{too_much_code}

-- ---- what is due

-- the last value of a plan: this is due; or what a run of a program on an input for so many steps comes to; or the object of a
-- program, stored under a name
pub data Last : Type 0 where
  Tells : (due : Due) → Last
  Runs : (p : Program) (input : List ℕ) (steps : ℕ) → Last
  Stores : (p : Program) (object : List ℕ) → Last

-- what is said of a run that stopped in a fault, by the name of that
abbrev pub named_words : (name : List ℕ) → (line : ℕ) → List ℕ
named_words name line = codes "fault " ++ (name ++ line_text (known_line line))

-- the same by the fault
abbrev pub fault_words : RunFault → (line : ℕ) → List ℕ
fault_words fault line = named_words (run_fault_text fault) line

-- success without a print, where these bytes are stored under this name
abbrev pub storing : (name bytes : List ℕ) → Due
storing name bytes = record { end = success; out = []; stored = Some (record { name = name; bytes = bytes }) }

-- In the name of a program; so a run that fails ends.
module _ (program : List ℕ) (failed : Ending) where
  -- the end of a run
  abbrev pub end_of : End → (line : ℕ) → Ending
  end_of ended.Succeeded line = success
  end_of ended.Failed line = failed
  end_of (ended.Fault fault) line = tells program exit.faulted (fault_words fault line)

  -- that of one which is left in this mode
  abbrev pub mode_end : Mode → (line : ℕ) → Ending
  mode_end (Ended end) line = end_of end line
  mode_end Going line = steps_out program
  mode_end Failing line = steps_out program
  mode_end Stuck line = steps_out program

  -- what a run of code on an input for so many steps comes to
  abbrev pub code_due : PlainCode → (input : List ℕ) → (steps : ℕ) → Due
  code_due code input steps = record {
    end = mode_end (state_after code input steps).mode (line_in code (state_after code input steps));
    out = printed_by code input steps;
    stored = None;
  }

  -- what is due is that
  abbrev pub IsRun : PlainCode → (input : List ℕ) → (steps : ℕ) → Due → Type 0
  IsRun code input steps due = due ≡ code_due code input steps

  -- what last values mean
  abbrev pub Means : Last → Due → Type 0
  Means (Tells told) due = due ≡ told
  Means (Runs p input steps) due = (code : PlainCode) × IsCodeFor p code × IsRun code input steps due
  Means (Stores p object) due =
      (code : PlainCode) × (bytes : List ℕ) × IsCodeFor p code × IsObject code bytes × FitsFields code
      × (due ≡ storing object bytes)

  -- what plans of programs say
  abbrev pub sense : Sense Verdict Last
  sense = record { judged = IsVerdict; means = Means }

-- ---- plans

-- a program within its limit of size goes on, and another is refused with its size
abbrev pub unless_large : (is_large : Bool) → (program : List ℕ) → Program → Plan Verdict Last → Plan Verdict Last
unless_large true program p next = Ends (Tells (silent (too_much_code program (size_of p))))
unless_large false program p next = next

-- the same by the size of the program
abbrev pub within_size : (program : List ℕ) → Program → Plan Verdict Last → Plan Verdict Last
within_size program p next = unless_large (ltb size_limit (size_of p)) program p next

-- a run for so many steps, on the input where it is read
abbrev pub run_on : (reads : Bool) → Program → (steps : ℕ) → Plan Verdict Last
run_on true p steps = Reads (λ input. Runs p input steps)
run_on false p steps = Ends (Runs p [] steps)

-- a program is run for so many steps
abbrev pub run_plan : (program : List ℕ) → Program → (steps : ℕ) → Plan Verdict Last
run_plan program p steps = within_size program p (run_on (program_reads p) p steps)

-- the object of a program is stored under a name
abbrev pub store_plan : (program : List ℕ) → Program → (object : List ℕ) → Plan Verdict Last
store_plan program p object = within_size program p (Ends (Stores p object))

-- a file is refused for the fault of its source
abbrev pub refuse_source : (file : List ℕ) → SourceFault → Place → Ending
refuse_source file fault place = ending_of exit.refused (refusal_text file fault place)

-- the source of a file is a program, and it goes on; or it is refused
abbrev pub accept_source : (file : List ℕ) → (next : Program → Plan Verdict Last) → Verdict → Plan Verdict Last
accept_source file next (Accepted p) = next p
accept_source file next (Rejected fault place) = Ends (Tells (silent (refuse_source file fault place)))

-- a file is read, and goes on as the program that its source is
abbrev pub read_source : (file : List ℕ) → (next : Program → Plan Verdict Last) → Plan Verdict Last
read_source file next = Fetches file source_limit (λ source. Judges source (accept_source file next))
