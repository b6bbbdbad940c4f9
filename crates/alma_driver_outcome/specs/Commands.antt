-- What calls come to that check, compile or trace a source, list or run an object, or run a sample.
use Rattle.std.specs.Prelude.{◌≡◌, ◌<◌, ◌≤◌, suc, Bool, true, false, List, ℕ, [], length, codes, None, Some}
use Rattle.std.specs.Io.KnownBytes.{Appends}
use Rattle.alma_base.specs.Limits.{size_limit, input_limit}
use Rattle.alma_io.specs.Files.{Has}
use Rattle.alma_io.specs.Outside.{FilesStay, Gains, Outside}
use Rattle.alma_ir.specs.Tree.{Program}
use Rattle.alma_mean.specs.Events.{End}
use Rattle.alma_mean.specs.Meaning.{result}
use Rattle.alma_code.specs.ListText.{list_text}
use Rattle.alma_code.specs.Plain.{PlainCode}
use Rattle.alma_code.specs.Reads.{code_reads}
use Rattle.alma_code.specs.Rules.{code_fault}
use Rattle.alma_code.specs.TraceText.{trace_text}
use Rattle.alma_code.specs.declared.step.VerifyFault.{VerifyFault}
use Rattle.alma_lower.specs.CodeFor.{IsCodeFor}
use Rattle.alma_lower_implements.specs.Implements.{printed_by, state_after}
use Rattle.alma_lower_sound.specs.Reads.{program_reads}
use Rattle.alma_driver_words.specs.Exit as exit
use Rattle.alma_driver_words.specs.Sample.{sample_text}
use Rattle.alma_driver_words.specs.Words.{Request, Asks, file_of}
use Rattle.alma_object.specs.Object.{IsObject}
use Rattle.alma_object.specs.Walk.{object_fault}
use Rattle.alma_object_format.specs.declared.fault.ObjectFault.{ObjectFault}
use Rattle.alma_plan.specs.Undisturbed.{ShowsDue}
use Rattle.alma_plan.specs.declared.refusal.Refusal.TheVariants as refusal
use Rattle.alma_run_laws.specs.Shown.{size_of, Shows}
use Rattle.alma_run_laws.specs.Stored.{SpellsCodeOf}
use Rattle.alma_source.specs.Refusal.{IsOnlyFault, IsProgramOf, place_of}
use Rattle.alma_source.specs.declared.fault.SourceFault.{SourceFault}
use Rattle.alma_verify.specs.Bytes.{object_code}
use Rattle.alma_driver_outcome.specs.Words.{limit_of, IsReadBy}
use Rattle.alma_driver_outcome.specs.Outcome.{IsSampled, code_end, told_end}
use Rattle.alma_driver_outcome.specs.Ends.{ending_in, sample_line, says}
use Rattle.alma_driver_outcome.specs.Headline.{ShowsEnd, ShowsResult, ShowsFront}
use Rattle.alma_driver_outcome.specs.declared.end.End.TheVariants.{BadSource, Refused, Succeeded, TooMuchCode}

-- ---- what is asked for

-- the words ask for this, and the file that it reads has these bytes, within their length, as AsksToRun says it of `run`
pub record AsksOf (words : List (List ℕ)) (request : Request) (before : Outside) (bytes : List ℕ) : Type 0 where
  pub asks : Asks words request
  pub name : List ℕ
  pub reads : IsReadBy request name
  pub told : before.files.told name ≡ Has bytes
  pub short : length bytes ≤ limit_of request

-- where the program reads, this input is left; it is within its length
pub record GivesInput (before : Outside) (p : Program) (input : List ℕ) : Type 0 where
  pub left : program_reads p ≡ true → before.input.left ≡ Some input
  pub short : length input ≤ input_limit

-- the input that is left is past its length
pub record PassesInput (before : Outside) (input : List ℕ) : Type 0 where
  pub left : before.input.left ≡ Some input
  pub long : input_limit < length input

-- the input on which a program runs, by whether it reads: that, or an empty one
abbrev pub input_by : (reads : Bool) → (input : List ℕ) → List ℕ
input_by true input = input
input_by false input = []

-- ---- what is shown

module _ (words : List (List ℕ)) (before after : Outside) (status : ℕ) where
  -- the source has one fault, and is refused for that at its place
  pub record ShowsRefusal (source : List ℕ) : Type 0 where
    pub fault : SourceFault
    pub offset : ℕ
    pub only : IsOnlyFault source fault offset
    pub shows : ShowsEnd words before after status (BadSource fault (place_of source offset)) []

  -- the source is a program whose size is past its limit, and is refused with that number
  pub record ShowsSize (source : List ℕ) : Type 0 where
    pub program : Program
    pub is : IsProgramOf source program
    pub large : size_limit < size_of program
    pub shows : ShowsEnd words before after status (TooMuchCode (size_of program)) []

  -- What a call shows that asks to check a source: its fault, or success.
  pub data CheckEnds (source : List ℕ) : Type 0 where
    refuses : ShowsRefusal source → CheckEnds source
    accepts : (p : Program) → IsProgramOf source p → ShowsEnd words before after status (Succeeded None) [] → CheckEnds source

  -- What a call shows that asks to compile a source: its fault or its size; or these bytes are stored under the name of the
  -- object, and what is read from them is sound code that implements the program of the source.
  pub data CompileEnds (source object : List ℕ) : Type 0 where
    refuses : ShowsRefusal source → CompileEnds source object
    too_large : ShowsSize source → CompileEnds source object
    stores : (p : Program) (bytes : List ℕ) → IsProgramOf source p → size_of p ≤ size_limit → SpellsCodeOf p bytes
        → ShowsDue before after status (record {
          end = ending_in (file_of words) (Succeeded None);
          out = [];
          stored = Some (record { name = object; bytes = bytes });
        })
        → CompileEnds source object

  -- A program was traced on an input for so many steps: out gained the text of a run of code that implements it. The prints of
  -- that run and the end that is shown are those of the meaning, or the steps ran out.
  pub record ShowsTrace (p : Program) (input : List ℕ) (steps : ℕ) (watch : List (List ℕ)) : Type 0 where
    pub code : PlainCode
    pub is_code : IsCodeFor p code
    pub end : End
    pub meant : Shows p input steps (printed_by code input steps) end
    pub shows : ShowsEnd words before after status (told_end end None) (trace_text code input watch steps)

  -- What a call shows that asks to trace a source.
  pub data TraceEnds (source input : List ℕ) (steps : ℕ) (watch : List (List ℕ)) : Type 0 where
    refuses : ShowsRefusal source → TraceEnds source input steps watch
    too_large : ShowsSize source → TraceEnds source input steps watch
    traces : (p : Program) → IsProgramOf source p → size_of p ≤ size_limit
        → ShowsTrace p (input_by (program_reads p) input) steps watch → TraceEnds source input steps watch

  -- What a call shows that runs a program: its result, or a front of its prints.
  pub data ProgramEnds (p : Program) (input : List ℕ) (steps : ℕ) (stats : Bool) : Type 0 where
    ended : ShowsResult words stats (result (suc steps) p input) before after status → ProgramEnds p input steps stats
    ran_out : ShowsFront words stats p input steps before after status → ProgramEnds p input steps stats

  -- What a call shows that asks to list bytes: the text of the code whose object they are, or the first fault of the format.
  pub data ListingEnds (bytes : List ℕ) : Type 0 where
    lists : object_fault bytes ≡ None → IsObject (object_code bytes) bytes
        → ShowsEnd words before after status (Succeeded None) (list_text (object_code bytes)) → ListingEnds bytes
    no_object : (fault : ObjectFault) → object_fault bytes ≡ Some fault
        → ShowsEnd words before after status (Refused (refusal.BadObject fault)) [] → ListingEnds bytes

  -- code ran on an input for so many steps: out gained its prints, and its end is shown, behind counts where they are asked for
  abbrev pub ShowsCodeRun : PlainCode → (input : List ℕ) → (steps : ℕ) → (stats : Bool) → Type 0
  ShowsCodeRun code input steps stats =
      ShowsEnd words before after status (code_end code stats (state_after code input steps)) (printed_by code input steps)

  -- What a call shows that asks to run bytes, whoever made them: the first fault of the format, or the first rule of sound code that
  -- is broken; or a run of the code that is read from them.
  pub data ObjectEnds (bytes input : List ℕ) (steps : ℕ) (stats : Bool) : Type 0 where
    no_object : (fault : ObjectFault) → object_fault bytes ≡ Some fault
        → ShowsEnd words before after status (Refused (refusal.BadObject fault)) [] → ObjectEnds bytes input steps stats
    unsound : (fault : VerifyFault) → object_fault bytes ≡ None → code_fault (object_code bytes) ≡ Some fault
        → ShowsEnd words before after status (Refused (refusal.BadCode fault)) [] → ObjectEnds bytes input steps stats
    runs : object_fault bytes ≡ None → code_fault (object_code bytes) ≡ None
        → ShowsCodeRun (object_code bytes) (input_by (code_reads (object_code bytes)) input) steps stats
        → ObjectEnds bytes input steps stats

  -- What a call shows that asks for a sample of so many lines: the line that sums up the run of its source on an empty input.
  pub record ShowsSample (lines : ℕ) : Type 0 where
    pub printed : ℕ
    pub status_of_run : ℕ
    pub sampled : IsSampled (sample_text lines) printed status_of_run
    pub shows : ShowsEnd words before after status (Succeeded None)
        (sample_line lines (length (sample_text lines)) printed status_of_run)

  -- What a call shows whose file is missing: a read fault. Out gained nothing, and the files stay.
  pub record ShowsMissing : Type 0 where
    pub status_is : status ≡ exit.read_fault
    pub nothing : Appends before.out.written after.out.written []
    pub told : Gains before.err after.err (says (codes "read fault"))
    pub files : FilesStay before.files after.files
