-- What a call with these words may ask for and come to, and so what it promises, in the frame that all programs share.
use Rattle.std.specs.Prelude.{List, ℕ}
use Rattle.alma_io.specs.Outside.{Outside}
use Rattle.alma_driver_words.specs.Words.{file_of}
use Rattle.alma_plan.specs.Causes.{CausesWithin}
use Rattle.alma_plan.specs.Course.{AnswersWithin, Scope}
use Rattle.alma_driver_outcome.specs.Parts.{MayCome}
use Rattle.alma_driver_outcome.specs.Ends.{program}
use Rattle.alma_driver_outcome.specs.Outcome.{Due, Outcome, AskToRead, Lacks}

-- what the words come to, by what is outside before
abbrev pub IsOutcome : (words : List (List ℕ)) → Outside → Due → Type 0
IsOutcome words before = Outcome words before.files.told before.input.left

-- what a call with these words may ask for, and what may come; one file is read at most, so it asks for each that it may ask for
abbrev pub scope_of : (words : List (List ℕ)) → Outside → Scope
scope_of words before = record {
  asks = AskToRead words;
  may_lack = Lacks words before.files.told;
  lacks = Lacks words before.files.told;
  may = MayCome (file_of words) (IsOutcome words before);
}

-- How a call with these words may change what is outside, and which status it may answer.
abbrev pub Answers : (words : List (List ℕ)) → (before after : Outside) → (status : ℕ) → Type 0
Answers words before after status = AnswersWithin program (scope_of words before) before after status

-- What each status says of the call, and what a call shows that met a fault.
abbrev pub Causes : (words : List (List ℕ)) → (before after : Outside) → (status : ℕ) → Type 0
Causes words before after status = CausesWithin program (scope_of words before) before after status
