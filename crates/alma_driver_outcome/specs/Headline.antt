-- What a run of a source comes to, in the words of a reader of its meaning.
use Rattle.std.specs.Prelude.{◌≡◌, ◌<◌, ◌≤◌, ◌/◌, suc, Bool, true, false, List, ℕ, [], Option, None, Some}
use Rattle.alma_base.specs.Limits.{size_limit}
use Rattle.alma_io.specs.Outside.{Outside}
use Rattle.alma_io.specs.Sides.{SourceSide}
use Rattle.alma_ir.specs.Tree.{Program}
use Rattle.alma_mean.specs.Events.{End, CutOff, first}
use Rattle.alma_mean.specs.Meaning.{ev_program, result}
use Rattle.alma_lower_implements.specs.Implements.{Covers, visit_steps}
use Rattle.alma_driver_words.specs.Words.{Asks, Run, file_of}
use Rattle.alma_plan.specs.Undisturbed.{GivesSource, ShowsDue}
use Rattle.alma_run_laws.specs.Shown.{size_of, MayRunOut}
use Rattle.alma_source.specs.Refusal.{IsOnlyFault, IsProgramOf, place_of}
use Rattle.alma_source.specs.declared.fault.SourceFault.{SourceFault}
use Rattle.alma_driver_outcome.specs.Outcome.{AreCounts, told_end}
use Rattle.alma_driver_outcome.specs.Ends.{ending_in}
use Rattle.alma_driver_outcome.specs.declared.end.Counts.{Counts}
use Rattle.alma_driver_outcome.specs.declared.end.End as told
use Rattle.alma_driver_outcome.specs.declared.end.End.TheVariants.{BadSource, StepsOut, TooMuchCode}

-- the words ask to run a file for so many steps; it has this source, and where its program reads, this input is left
pub record AsksToRun (words : List (List ℕ)) (before : Outside) (source input : List ℕ) (steps : ℕ) (stats : Bool) : Type 0 where
  pub name : List ℕ
  pub asks : Asks words (Run name steps stats)
  pub given : GivesSource before name source input

-- the call shows this end, by its status and its text on err, and these bytes on out; the files stay
abbrev pub ShowsEnd : (words : List (List ℕ)) → (before after : Outside) → (status : ℕ) → told.End → (out : List ℕ) → Type 0
ShowsEnd words before after status end out =
    ShowsDue before after status (record { end = ending_in (file_of words) end; out = out; stored = None })

-- what becomes of an input that is told: nothing of it is left where it is read, and else it stays
abbrev pub IsInputLeft : (reads : Bool) → SourceSide → SourceSide → Type 0
IsInputLeft true before after = after.left ≡ Some []
IsInputLeft false before after = after ≡ before

-- The call shows a result of the meaning, which is not cut off: its prints on out, and its end, behind counts.
pub record ShowsResult (words : List (List ℕ)) (stats : Bool) (meant : List ℕ × End) (before after : Outside) (status : ℕ) : Type 0 where
  pub uncut : meant.1 ≡ CutOff → ⊥
  pub counts : Option Counts
  pub counted : AreCounts stats counts
  pub shows : ShowsEnd words before after status (told_end meant.1 counts) meant.0

-- the steps ran out: out gained a front of the prints of the meaning, which covers one visit for each 32 steps
pub record ShowsFront (words : List (List ℕ)) (stats : Bool) (p : Program) (input : List ℕ) (steps : ℕ) (before after : Outside)
    (status : ℕ) : Type 0 where
  pub printed : List ℕ
  pub covers : Covers (first (ev_program (suc steps) p input)) printed (steps / visit_steps)
  pub few : MayRunOut p input steps
  pub counts : Option Counts
  pub counted : AreCounts stats counts
  pub shows : ShowsEnd words before after status (StepsOut counts) printed

-- What a call that asks to run a source shows.
pub data RunEnds (words : List (List ℕ)) (source input : List ℕ) (steps : ℕ) (stats : Bool) (before after : Outside) (status : ℕ) : Type 0
  where
    -- the source has this fault at this place, and no other: it is refused for that
    refuses : (fault : SourceFault) (offset : ℕ) → IsOnlyFault source fault offset
        → ShowsEnd words before after status (BadSource fault (place_of source offset)) []
        → RunEnds words source input steps stats before after status
    -- the source is a program whose size is past its limit: it is refused with that number
    too_large : (p : Program) → IsProgramOf source p → size_limit < size_of p
        → ShowsEnd words before after status (TooMuchCode (size_of p)) []
        → RunEnds words source input steps stats before after status
    -- the source is a program: its result, or a front of its prints
    ended : (p : Program) → IsProgramOf source p → size_of p ≤ size_limit
        → ShowsResult words stats (result (suc steps) p input) before after status
        → RunEnds words source input steps stats before after status
    ran_out : (p : Program) → IsProgramOf source p → size_of p ≤ size_limit → ShowsFront words stats p input steps before after status
        → RunEnds words source input steps stats before after status
