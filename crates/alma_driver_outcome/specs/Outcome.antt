-- What a call comes to where memory is found and nothing fails, layer by layer.
use Rattle.std.specs.Prelude.{◌≡◌, ◌<◌, ◌≤◌, ◌⊎◌, Bool, true, false, List, ℕ, [], length, Option, None, Some}
use Rattle.alma_base.specs.Limits.{size_limit, input_limit}
use Rattle.alma_io.specs.Files.{Told, Missing, MayHave, MayPass}
use Rattle.alma_io.specs.Outside.{StoredFile, MayBeLeft}
use Rattle.alma_io.specs.Whole.{MayHaveMore}
use Rattle.alma_ir.specs.Tree.{Program}
use Rattle.alma_mean.specs.Events as events
use Rattle.alma_code.specs.declared.step.VerifyFault.{VerifyFault}
use Rattle.alma_code.specs.ListText.{list_text}
use Rattle.alma_code.specs.Plain.{PlainCode}
use Rattle.alma_code.specs.Reads.{code_reads}
use Rattle.alma_code.specs.Machine.{State}
use Rattle.alma_code.specs.Rules.{code_fault}
use Rattle.alma_object_format.specs.declared.fault.ObjectFault.{ObjectFault}
use Rattle.alma_object.specs.Object.{IsObject}
use Rattle.alma_object.specs.Fields.{FitsFields}
use Rattle.alma_object.specs.Walk.{object_fault}
use Rattle.alma_verify.specs.Bytes.{object_code}
use Rattle.alma_driver_words.specs.Sample.{sample_text}
use Rattle.alma_lower_sound.specs.Reads.{program_reads}
use Rattle.alma_lower_implements.specs.Implements.{state_after, line_in}
use Rattle.alma_run_laws.specs.Shown.{Shows, size_of}
use Rattle.alma_lower.specs.CodeFor.{IsCodeFor}
use Rattle.alma_plan.specs.Plan.{Reading, Kept, Finished, Passed}
use Rattle.alma_plan.specs.declared.refusal.Refusal.TheVariants as refusal
use Rattle.alma_plan.specs.declared.stop.Stop.TheVariants as stop
use Rattle.alma_driver_words.specs.Words.{Request, Check, Compile, Listing, Run, Exec, Trace, Sample, Asks, IsBadWord, default_steps}
use Rattle.alma_driver_outcome.specs.Words.{read_by, limit_of, IsReadBy}
use Rattle.alma_driver_outcome.specs.Showing.{Showing, Prints, Traces, counts_shown, text_shown}
use Rattle.alma_driver_outcome.specs.Ends.{mode_end, counts_in, status_of, sample_line, end_of_stop}
use Rattle.alma_source.specs.Refusal.{IsRefused, IsProgramOf, place_of}
use Rattle.alma_source.specs.declared.fault.SourceFault.{SourceFault}
use Rattle.alma_driver_outcome.specs.declared.end.Counts.{Counts}
use Rattle.alma_driver_outcome.specs.declared.end.End.{End}
use Rattle.alma_driver_outcome.specs.declared.end.End.TheVariants.{Succeeded, Failed, Faulted, StepsOut, BadSource, TooMuchCode, Refused}

-- what is due from a call: its end, the bytes that it writes to out, what it stores, and what becomes of the input
pub record Due : Type 0 where
  pub end : End
  pub out : List ℕ
  pub stored : Option StoredFile
  pub reading : Reading

-- an end with these bytes on out, where nothing is stored and the input stays
abbrev pub due_of : End → List ℕ → Due
due_of end out = record { end = end; out = out; stored = None; reading = Kept }

-- an end without a print
abbrev pub silent : End → Due
silent end = due_of end []

-- success without a print, where these bytes are stored under this name
abbrev pub storing : (name bytes : List ℕ) → Due
storing name bytes = record { end = Succeeded None; out = []; stored = Some (record { name = name; bytes = bytes }); reading = Kept }

-- ---- code and its input

-- what becomes of the input by whether it is read: it is read to its end, or stays
abbrev pub reading_of : (reads : Bool) → Reading
reading_of true = Finished
reading_of false = Kept

-- the end of code in a state, with the counts where they are asked for
abbrev pub code_end : PlainCode → (stats : Bool) → State → End
code_end code stats s = mode_end s.mode (line_in code s) (counts_in stats s)

-- what a run of code on an input for so many steps comes to, by what it shows
abbrev pub code_due : PlainCode → (input : List ℕ) → (steps : ℕ) → Showing → Due
code_due code input steps showing = record {
  end = code_end code (counts_shown showing) (state_after code input steps);
  out = text_shown code input steps showing;
  stored = None;
  reading = reading_of (code_reads code);
}

-- an input that was read and is too long
abbrev pub long_input : Due
long_input = record { end = end_of_stop stop.TooLong; out = []; stored = None; reading = Passed }

-- What a run of code comes to, by what is left of the input: where the code reads, the whole input is read before its
-- first step, and may be too long; where it does not, it runs on an empty one.
pub data InputOutcome (left : Option (List ℕ)) (code : PlainCode) (steps : ℕ) (showing : Showing) (due : Due) : Type 0 where
  unread : code_reads code ≡ false → due ≡ code_due code [] steps showing → InputOutcome left code steps showing due
  taken : (input : List ℕ) → code_reads code ≡ true → MayBeLeft left input → length input ≤ input_limit
      → due ≡ code_due code input steps showing
      → InputOutcome left code steps showing due
  past_input : code_reads code ≡ true → MayHaveMore left input_limit → due ≡ long_input → InputOutcome left code steps showing due

-- ---- programs

-- what a run of a program for so many steps comes to: what code of it comes to in so many steps, or the refusal of its size
pub data ProgramOutcome (left : Option (List ℕ)) (p : Program) (steps : ℕ) (showing : Showing) (due : Due) : Type 0 where
  ran : (code : PlainCode) → size_of p ≤ size_limit → IsCodeFor p code
      → InputOutcome left code steps showing due
      → ProgramOutcome left p steps showing due
  too_much_code : size_limit < size_of p → due ≡ silent (TooMuchCode (size_of p)) → ProgramOutcome left p steps showing due

-- What compiling a program under a name comes to: the object of code of it whose numbers fit their fields, so that it is read back as
-- that code, is stored there; or the refusal of its size.
pub data CompileOutcome (p : Program) (object : List ℕ) (due : Due) : Type 0 where
  made : (code : PlainCode) (bytes : List ℕ) → size_of p ≤ size_limit → IsCodeFor p code
      → IsObject code bytes → FitsFields code → due ≡ storing object bytes → CompileOutcome p object due
  past_size : size_limit < size_of p → due ≡ silent (TooMuchCode (size_of p)) → CompileOutcome p object due

-- ---- the same by the meaning alone

-- counts are told where they are asked for
abbrev pub AreCounts : (stats : Bool) → Option Counts → Type 0
AreCounts false counts = counts ≡ None
AreCounts true counts = (told : Counts) × (counts ≡ Some told)

-- the end of a call that tells this end of the meaning, with counts; where the meaning is cut off the steps ran out
abbrev pub told_end : events.End → Option Counts → End
told_end events.Succeeded counts = Succeeded counts
told_end events.Failed counts = Failed counts
told_end (events.Faulted fault line) counts = Faulted fault line counts
told_end events.CutOff counts = StepsOut counts

-- What the meaning of a program says of such a run on an input: its prints and its end, or a front of them.
pub record MeansOn (p : Program) (input : List ℕ) (steps : ℕ) (stats : Bool) (due : Due) : Type 0 where
  pub end : events.End
  pub shows : Shows p input steps due.out end
  pub counts : Option Counts
  pub counted : AreCounts stats counts
  pub ends : due.end ≡ told_end end counts

-- the input on which a run goes, by whether it is read
abbrev pub IsTaken : Option (List ℕ) → (reads : Bool) → List ℕ → Type 0
IsTaken left false input = input ≡ []
IsTaken left true input = MayBeLeft left input × (length input ≤ input_limit)

-- What it says by what is left of the input: the program runs on that, or, where it is not read, on an empty input; or the
-- input is too long; or the refusal of its size.
pub data Meant (left : Option (List ℕ)) (p : Program) (steps : ℕ) (stats : Bool) (due : Due) : Type 0 where
  meant_on : (input : List ℕ) → size_of p ≤ size_limit → due.reading ≡ reading_of (program_reads p) → IsTaken left (program_reads p) input
      → MeansOn p input steps stats due → Meant left p steps stats due
  too_long : size_of p ≤ size_limit → MayHaveMore left input_limit → due ≡ long_input → Meant left p steps stats due
  too_large : size_limit < size_of p → due ≡ silent (TooMuchCode (size_of p)) → Meant left p steps stats due

-- What it says of a trace of such a run: it ends as the meaning does, all of whose prints the traced run made, or its steps ran out,
-- and the run made a front of them.
pub data TraceMeant (left : Option (List ℕ)) (p : Program) (steps : ℕ) (due : Due) : Type 0 where
  traced_on : (input printed : List ℕ) (end : events.End) → size_of p ≤ size_limit → due.reading ≡ reading_of (program_reads p)
      → IsTaken left (program_reads p) input → Shows p input steps printed end → due.end ≡ told_end end None → TraceMeant left p steps due
  trace_too_long : size_of p ≤ size_limit → MayHaveMore left input_limit → due ≡ long_input → TraceMeant left p steps due
  trace_too_large : size_limit < size_of p → due ≡ silent (TooMuchCode (size_of p)) → TraceMeant left p steps due

-- ---- sources and objects

-- the end of a source that is no program: its refusal
pub data IsSourceEnd (source : List ℕ) (end : End) : Type 0 where
  refused : (fault : SourceFault) (offset : ℕ) → IsRefused source fault offset → end ≡ BadSource fault (place_of source offset)
      → IsSourceEnd source end

-- what a source comes to: that end, or what its program comes to
pub data SourceOutcome (source : List ℕ) (program_outcome : Program → Due → Type 0) (due : Due) : Type 0 where
  stopped : (end : End) → IsSourceEnd source end → due ≡ silent end → SourceOutcome source program_outcome due
  compiled : (p : Program) → IsProgramOf source p → program_outcome p due → SourceOutcome source program_outcome due

-- what a program that is only checked comes to: success
abbrev pub CheckOutcome : Program → Due → Type 0
CheckOutcome p due = due ≡ silent (Succeeded None)

-- What listing bytes comes to: the text of the code whose object they are, or the first fault of the format.
pub data ListOutcome (bytes : List ℕ) (due : Due) : Type 0 where
  listed : object_fault bytes ≡ None → IsObject (object_code bytes) bytes → due ≡ due_of (Succeeded None) (list_text (object_code bytes))
      → ListOutcome bytes due
  no_object : (fault : ObjectFault) → object_fault bytes ≡ Some fault → due ≡ silent (Refused (refusal.BadObject fault))
      → ListOutcome bytes due

-- What running code of a stranger for so many steps comes to: what it comes to in so many steps, or the first rule that it breaks.
pub data CodeOutcome (left : Option (List ℕ)) (code : PlainCode) (steps : ℕ) (stats : Bool) (due : Due) : Type 0 where
  executed : code_fault code ≡ None → InputOutcome left code steps (Prints stats) due → CodeOutcome left code steps stats due
  unsound : (fault : VerifyFault) → code_fault code ≡ Some fault → due ≡ silent (Refused (refusal.BadCode fault))
      → CodeOutcome left code steps stats due

-- what running the code of an object comes to; or the first fault of the format of bytes that are none
pub data ExecOutcome (left : Option (List ℕ)) (bytes : List ℕ) (steps : ℕ) (stats : Bool) (due : Due) : Type 0 where
  opened : object_fault bytes ≡ None → CodeOutcome left (object_code bytes) steps stats due → ExecOutcome left bytes steps stats due
  unopened : (fault : ObjectFault) → object_fault bytes ≡ Some fault → due ≡ silent (Refused (refusal.BadObject fault))
      → ExecOutcome left bytes steps stats due

-- ---- requests

-- the run of a source on an empty input, for as many steps as where words name none, prints so many bytes and comes to this status
pub record IsSampled (source : List ℕ) (printed status : ℕ) : Type 0 where
  pub run : Due
  pub outcome : SourceOutcome source (λ p. ProgramOutcome (Some []) p default_steps (Prints false)) run
  pub prints : length run.out ≡ printed
  pub ends : status_of run.end ≡ status

-- What a sample of so many lines comes to: success, and the line that sums up the run of its source.
pub data SampleOutcome (lines : ℕ) (due : Due) : Type 0 where
  summed : (printed status : ℕ) → IsSampled (sample_text lines) printed status
      → due ≡ due_of (Succeeded None) (sample_line lines (length (sample_text lines)) printed status) → SampleOutcome lines due

-- what a request comes to, by what is left of the input and the bytes of the file that it reads
abbrev pub FileOutcome : Option (List ℕ) → Request → List ℕ → Due → Type 0
FileOutcome left (Check name) source due = SourceOutcome source CheckOutcome due
FileOutcome left (Compile name object) source due = SourceOutcome source (λ p. CompileOutcome p object) due
FileOutcome left (Listing object) bytes due = ListOutcome bytes due
FileOutcome left (Run name steps stats) source due = SourceOutcome source (λ p. ProgramOutcome left p steps (Prints stats)) due
FileOutcome left (Exec object steps stats) bytes due = ExecOutcome left bytes steps stats due
FileOutcome left (Trace name steps watch) source due = SourceOutcome source (λ p. ProgramOutcome left p steps (Traces watch)) due
FileOutcome left (Sample lines) none due = SampleOutcome lines due

-- What a request comes to, by what the files tell: its file is missing, or too long, or has these bytes; or it reads none.
pub data RequestOutcome (told : List ℕ → Told) (left : Option (List ℕ)) (request : Request) (due : Due) : Type 0 where
  absent : (name : List ℕ) → read_by request ≡ Some name → told name ≡ Missing → due ≡ silent (end_of_stop stop.Read)
      → RequestOutcome told left request due
  past_limit : (name : List ℕ) → read_by request ≡ Some name → MayPass (told name) (limit_of request)
      → due ≡ silent (end_of_stop stop.TooLong)
      → RequestOutcome told left request due
  fetched : (name bytes : List ℕ) → read_by request ≡ Some name → MayHave (told name) bytes → length bytes ≤ limit_of request
      → FileOutcome left request bytes due → RequestOutcome told left request due
  unfetched : read_by request ≡ None → FileOutcome left request [] due → RequestOutcome told left request due

-- what words come to, by what the files tell and what is left of the input
pub data Outcome (words : List (List ℕ)) (told : List ℕ → Told) (left : Option (List ℕ)) (due : Due) : Type 0 where
  bad_word : (k : ℕ) → IsBadWord words k → due ≡ silent (Refused (refusal.BadWord k)) → Outcome words told left due
  asks : (request : Request) → Asks words request → RequestOutcome told left request due → Outcome words told left due

-- the words ask to read this file
abbrev pub AskToRead : List (List ℕ) → (name : List ℕ) → Type 0
AskToRead words name = (request : Request) × Asks words request × IsReadBy request name

-- the words ask to read a file that is told to be missing
abbrev pub Lacks : List (List ℕ) → (List ℕ → Told) → Type 0
Lacks words told = (request : Request) × (name : List ℕ) × Asks words request × (read_by request ≡ Some name) × (told name ≡ Missing)

-- ---- inner: how the reading of a source may stop

-- memory ran out, or the source is no program
abbrev pub IsStop : (source : List ℕ) → End → Type 0
IsStop source end = (end ≡ end_of_stop stop.Memory) ⊎ IsSourceEnd source end
