-- What a call shows that lists the alternatives of a source, where nothing fails.
use Rattle.std.proofs.Common.{◌≡◌, ◌≤◌, ◌∙◌, ℕ, List, length, refl, subst, sym, inl, inr, Some}
use Rattle.std.specs.Prelude.{◌⊎◌, Bool, true, false}
use Rattle.alma_base.specs.Limits.{input_limit, source_limit}
use Rattle.alma_io.specs.Files.{Told, Has}
use Rattle.alma_ir.specs.Checked.{IsChecked}
use Rattle.alma_ir.specs.Phrases.{stmts_phrases}
use Rattle.alma_ir.specs.Tree.{Program, routine_at}
use Rattle.alma_lower_sound.specs.Reads.{program_reads}
use Rattle.alma_listing.proofs.ReadsAlike.{each_reads_alike}
use Rattle.alma_listing.specs.Lister.{listing_of}
use Rattle.alma_plan.specs.Causes.{Causes}
use Rattle.alma_io.specs.Outside.{Outside, IsUndisturbed}
use Rattle.alma_plan.specs.Plan.{Due, Plan, Reading, Asks, Comes, MayLack, success}
use Rattle.alma_plan.proofs.ToldLemmas.{run_asks, source_asks, RunComes, run_comes, SourceComes, source_comes}
use Rattle.alma_plan.proofs.UndisturbedLemmas.{call_shows_due}
use Rattle.alma_plan.specs.Programs.{Last}
use Rattle.alma_plan.specs.Undisturbed.{ShowsDue}
use Rattle.alma_resolved.proofs.ConditionsMet.{fits_checked}
use Rattle.alma_resolved.proofs.FramesKept.{program_keeps_frames}
use Rattle.alma_resolved.proofs.GlobalsKept.{program_has_globals}
use Rattle.alma_resolved.proofs.Lined.{program_lines}
use Rattle.alma_resolved.proofs.Programs.{program_fits}
use Rattle.alma_resolved.proofs.Routines.{program_keeps_limits, program_keeps_slots}
use Rattle.alma_resolved.proofs.Standing.{numbered_stands}
use Rattle.alma_resolved.proofs.TreeNames.{tree_named}
use Rattle.alma_rules.specs.View.{view_module}
use Rattle.alma_source.proofs.RefusalLemmas.{only_fault}
use Rattle.alma_source.specs.Refusal.{IsProgramOf}
use Rattle.alma_source.specs.Verdict.{Verdict}
use Rattle.alma_all.specs.All.{program, all_plan, all_sense, file_plan, body_returns, list_plan, unless_returns}
use Rattle.alma_all.specs.Shown.{ListsSource, ListEnds, refuses, returns, too_large, lists}
use Rattle.alma_all.proofs.Listings.{lists_every_alternative}
use Rattle.alma_all.proofs.Requests.{plan_is}
use Rattle.alma_all.proofs.Returns.{all_there}

module _ (told : List ℕ → Told) where
  -- a program asks for no file
  unless_asks : (returns : Bool) (p : Program) (steps : ℕ) (name : List ℕ) → Asks all_sense told (unless_returns returns p steps) name → ⊥
  unless_asks true p steps name asks = asks
  unless_asks false p steps name asks = run_asks program success told (listing_of p) steps name asks

  -- the one file that is asked for is there
  lacks_none : (file source : List ℕ) (steps : ℕ) → told file ≡ Has source → MayLack all_sense told (file_plan file steps) → ⊥
  lacks_none file source steps has lacks =
      by (source_asks program success told file source lacks.0 (λ p. list_plan p steps) has lacks.1)
    where
      by : (told lacks.0 ≡ Has source) ⊎ ((p : Program) × Asks all_sense told (list_plan p steps) lacks.0) → ⊥
      by (inl there) = cc (there, lacks.2)
      by (inr (p, asks)) = unless_asks (body_returns p) p steps lacks.0 asks

-- the program of a short source is checked
program_checked : (source : List ℕ) (p : Program) → length source ≤ source_limit → IsProgramOf source p → IsChecked p
program_checked source p short is =
    let t = is.parsed.whole in
    let x = view_module is.tree in
    let stand = numbered_stands is.tree _ t.numbered in
    let frames = program_keeps_frames source is.tokens x p stand is.program in
    let fits = program_fits source is.tokens x p stand is.program in
    fits_checked p frames (program_has_globals source is.tokens x p stand is.program) fits
    (program_lines source is.tokens x p frames is.program) (tree_named source is.tokens is.tree p t is.program)
    (program_keeps_limits source is.tokens is.tree p short t is.program)
    (program_keeps_slots source is.tokens is.tree p short t is.program fits)

module _ (file source input : List ℕ) (steps : ℕ) (before after : Outside) (status : ℕ) (source_short : length source ≤ source_limit)
    (left : (p : Program) → IsProgramOf source p → program_reads p ≡ true → before.input.left ≡ Some input)
    (short : length input ≤ input_limit) (reading : Reading) (due : Due) (shows : ShowsDue before after status due)
  where
    shows_it : (other : Due) → due ≡ other → ShowsDue before after status other
    shows_it other is = subst (ShowsDue before after status) is shows

    module _ (p : Program) (is : IsProgramOf source p) where
      run_ends : body_returns p ≡ false
          → RunComes program success before.files.told before.input.left reading due (listing_of p) input steps
          → ListEnds file source input steps before after status
      run_ends stays (inl (large, is_due)) = too_large p is stays large (shows_it _ is_due)
      run_ends stays (inr (small, means)) =
          let checked = program_checked source p source_short is in
          lists p due is stays small
          (lists_every_alternative p input steps due checked (all_there (stmts_phrases (routine_at p 0).body) stays) short means) shows

      body_ends : (b : Bool) → body_returns p ≡ b
          → Comes all_sense program before.files.told before.input.left (unless_returns b p steps) reading due
          → ListEnds file source input steps before after status
      body_ends true e come = returns p is e (shows_it _ come.1)
      body_ends false e come =
          run_ends e (run_comes program success before.files.told before.input.left reading due (listing_of p) input steps
          (λ reads. left p is (sym (each_reads_alike p) ∙ reads)) short come)

    source_ends : SourceComes program success before.files.told before.input.left reading due file source (λ p. list_plan p steps)
        → ListEnds file source input steps before after status
    source_ends (inl (fault, offset, is, is_due)) =
        refuses fault offset (only_fault source fault offset is) (shows_it _ is_due)
    source_ends (inr (p, is, come)) = body_ends p is (body_returns p) refl come

pub call_lists : (words : List (List ℕ)) (file source input : List ℕ) (steps : ℕ) (before after : Outside) (status : ℕ)
    → ListsSource words before file source input steps → Causes all_sense program (all_plan words) before after status
    → IsUndisturbed before after status → ListEnds file source input steps before after status
call_lists words file source input steps before after status asks causes calm =
    let causes' = subst (λ (plan : Plan Verdict Last). Causes all_sense program plan before after status)
    (plan_is words file steps asks.asks) causes in
    let due = call_shows_due all_sense program (file_plan file steps) before after status causes' calm
    (lacks_none before.files.told file source steps asks.given.told) in
    source_ends file source input steps before after status asks.given.source_short asks.given.left asks.given.input_short due.0 due.1 due.3
    (source_comes program success before.files.told before.input.left due.0 due.1 file source (λ p. list_plan p steps) asks.given.told
    asks.given.source_short due.2)
