-- What a call shows of the alternatives of a program, in the words of a reader of its meaning.
use Rattle.std.specs.Prelude.{◌≡◌, ◌<◌, ◌≤◌, ◌+◌, ◌*◌, ◌/◌, ℕ, suc, true, false, List, [], ◌∷◌, length}
use Rattle.alma_base.specs.Limits.{input_limit, size_limit}
use Rattle.alma_driver_words.specs.Words.{IsSetting, Steps, default_steps, is_file_name}
use Rattle.alma_ir.specs.Checked.{IsChecked, HaveNoReturn}
use Rattle.alma_ir.specs.Tree.{Program, routine_at}
use Rattle.alma_lower_implements.specs.Implements.{Covers, visit_steps}
use Rattle.alma_mean.specs.Events.{End, CutOff, first, visit_count}
use Rattle.alma_mean.specs.Laws.{IsPrefix, ends_in_cut}
use Rattle.alma_mean.specs.Meaning.{ev_program}
use Rattle.alma_listing.specs.Lister.{listing_of}
use Rattle.alma_listing.specs.Listing.{alternatives, line_visits, listing_text, listing, more_levels}
use Rattle.alma_io.specs.Outside.{Outside}
use Rattle.alma_plan.specs.Plan.{Due, Ending, silent, steps_out, success, too_much_code}
use Rattle.alma_plan.specs.Meant.{meant_ending}
use Rattle.alma_plan.specs.Programs.{Runs, refuse_source}
use Rattle.alma_plan.specs.Undisturbed.{GivesSource, ShowsDue}
use Rattle.alma_run_laws.specs.Shown.{size_of}
use Rattle.alma_source.specs.Refusal.{IsProgramOf, IsOnlyFault, place_of}
use Rattle.alma_source.specs.declared.fault.SourceFault.{SourceFault}
use Rattle.alma_all.specs.All.{program, all_sense, body_returns, module_return}

-- how a call ends behind all alternatives: where these close in a failure that is success, and a fault is told with its line
abbrev pub listing_end : End → Ending
listing_end end = meant_ending program success end

-- how many visits listing costs at most: those of the program, and those of the line of each alternative
abbrev pub most_visits : (level : ℕ) → Program → (input : List ℕ) → ℕ
most_visits level p input =
    visit_count (ev_program level p input) + line_visits p * alternatives (ev_program level p input)

-- so many steps may not be enough: at 32 for each visit, and 32 more, they would be
abbrev pub ListingMayRunOut : Program → (input : List ℕ) → (steps : ℕ) → Type 0
ListingMayRunOut p input steps =
    (level : ℕ) → ends_in_cut (ev_program level p input) ≡ false
    → steps < visit_steps * (most_visits (level + more_levels p) p input + 1)

-- what is due lists the alternatives of a program on an input, in so many steps
pub data IsListed (p : Program) (input : List ℕ) (steps : ℕ) (due : Due) : Type 0 where
  -- all of them, and the end behind them
  whole : (end : End) → listing (suc steps) p input ≡ (due.out, end) → due.end ≡ listing_end end → (end ≡ CutOff → ⊥)
      → IsListed p input steps due
  -- the steps ran out: a front of them, which covers one visit of the listing program for each 32 steps
  front : due.end ≡ steps_out program
      → IsPrefix due.out (listing_text p.globals (ev_program (suc steps) p input))
      → Covers (first (ev_program (suc steps) (listing_of p) input)) due.out (steps / visit_steps) → ListingMayRunOut p input steps
      → IsListed p input steps due

-- what a run of the listing program comes to lists every alternative of the program
abbrev pub ListsEveryAlternative : Type 0
ListsEveryAlternative =
    (p : Program) (input : List ℕ) (steps : ℕ) (due : Due) → IsChecked p → HaveNoReturn (routine_at p 0).body → length input ≤ input_limit
    → all_sense.means (Runs (listing_of p) input steps) due → IsListed p input steps due

-- ---- whole calls

-- the words ask for the alternatives of the program of this file, in so many steps
pub data AsksToList (words : List (List ℕ)) (file : List ℕ) (steps : ℕ) : Type 0 where
  plain : words ≡ file ∷ [] → is_file_name file ≡ true → steps ≡ default_steps → AsksToList words file steps
  within : (option : List ℕ) → words ≡ file ∷ option ∷ [] → is_file_name file ≡ true → IsSetting option (Steps steps)
      → AsksToList words file steps

-- the words ask for alternatives
abbrev pub IsRequest : (words : List (List ℕ)) → Type 0
IsRequest words = (file : List ℕ) × (steps : ℕ) × AsksToList words file steps

-- they do so of a file that has this source, and where its program reads, this input is left
pub record ListsSource (words : List (List ℕ)) (before : Outside) (file source input : List ℕ) (steps : ℕ) : Type 0 where
  pub asks : AsksToList words file steps
  pub given : GivesSource before file source input

-- What such a call shows, where nothing fails.
pub data ListEnds (file source input : List ℕ) (steps : ℕ) (before after : Outside) (status : ℕ) : Type 0 where
  -- the source has this fault at this place, and no other: it is refused for that
  refuses : (fault : SourceFault) (offset : ℕ) → IsOnlyFault source fault offset
      → ShowsDue before after status (silent (refuse_source file fault (place_of source offset)))
      → ListEnds file source input steps before after status
  -- a RETURN stands in the body of the program's module
  returns : (p : Program) → IsProgramOf source p → body_returns p ≡ true
      → ShowsDue before after status (silent module_return)
      → ListEnds file source input steps before after status
  -- the program that lists the alternatives is too large
  too_large : (p : Program) → IsProgramOf source p → body_returns p ≡ false → size_limit < size_of (listing_of p)
      → ShowsDue before after status (silent (too_much_code program (size_of (listing_of p))))
      → ListEnds file source input steps before after status
  -- else its alternatives are listed, or a front of them
  lists : (p : Program) (due : Due) → IsProgramOf source p → body_returns p ≡ false → size_of (listing_of p) ≤ size_limit
      → IsListed p input steps due → ShowsDue before after status due
      → ListEnds file source input steps before after status
