-- What a run of a listing program lists.
use Rattle.std.proofs.Common.{◌≡◌, ◌≤◌, ◌+◌, ◌∙◌, ℕ, suc, List, [], ◌++◌, refl, sym, ap, arith, append_assoc}
use Rattle.std.specs.Prelude.{false}
use Rattle.alma_ir.specs.Tree.{Program}
use Rattle.alma_lower_implements.specs.Implements.{HasPrefix, nothing, a_visit, a_print}
use Rattle.alma_mean.specs.Events.{End, Events, NoYield, Visit, Print, Alt, Fail, Fault, Cut, CutOff, first, end_of, prints, visit_count}
use Rattle.alma_mean.specs.Laws.{IsPrefix, ends_in_cut}
use Rattle.alma_mean.specs.Meaning.{ev_program}
use Rattle.alma_listing.specs.Lister.{listing_of}
use Rattle.alma_listing.specs.Listing.{Lists, more_levels}
use Rattle.alma_listing.proofs.Listed.{each_is_listed}
use Rattle.alma_listing.proofs.Results.{listers_give_listings}
use Rattle.alma_plan.specs.Plan.{Due, success}
use Rattle.alma_plan.proofs.MeantLemmas.{run_is_meant}
use Rattle.alma_run_laws.specs.Shown as run
use Rattle.alma_all.specs.All.{program}
use Rattle.alma_all.specs.Shown.{listing_end, ListingMayRunOut, whole, front, IsListed, ListsEveryAlternative}

-- events that do not end in a cut have no end there
no_cut : {A : Type 0} (e : Events A) → ends_in_cut e ≡ false → end_of (first e) ≡ CutOff → ⊥
no_cut (Visit e) h c = no_cut e h c
no_cut (Print b e) h c = no_cut e h c
no_cut (Alt s w e) h c = cc c
no_cut Fail h c = cc c
no_cut (Fault x l) h c = cc c
no_cut Cut h c = cc h

-- the visits up to the first alternative are no more than all
fewer_visits : {A : Type 0} (e : Events A) → visit_count (first e) ≤ visit_count e
fewer_visits (Visit e) = omega (arith, fewer_visits e)
fewer_visits (Print b e) = fewer_visits e
fewer_visits (Alt s w e) = omega arith
fewer_visits Fail = omega arith
fewer_visits (Fault x l) = omega arith
fewer_visits Cut = omega arith

-- what a front prints is a prefix of what the whole prints
front_prints : {A : Type 0} (e : Events A) (printed : List ℕ) (visits : ℕ) → HasPrefix e printed visits → IsPrefix printed (prints e)
front_prints e [] visits nothing = (prints e, refl)
front_prints (Visit e) printed visits (a_visit h) = front_prints e _ _ h
front_prints (Print b e) printed visits (a_print h) =
    let more = front_prints e _ _ h in (more.0, append_assoc b _ more.0 ∙ ap (λ z. b ++ z) more.1)

-- so is what the events up to the first alternative print
first_prints : {A : Type 0} (e : Events A) → IsPrefix (prints (first e)) (prints e)
first_prints (Visit e) = first_prints e
first_prints (Print b e) = let more = first_prints e in (more.0, append_assoc b (prints (first e)) more.0 ∙ ap (λ z. b ++ z) more.1)
first_prints (Alt s w e) = (prints e, refl)
first_prints Fail = ([], refl)
first_prints (Fault x l) = ([], refl)
first_prints Cut = ([], refl)

prefix_of_prefix : (x y z : List ℕ) → IsPrefix x y → IsPrefix y z → IsPrefix x z
prefix_of_prefix x y z h k = (h.0 ++ k.0, sym (append_assoc x h.0 k.0) ∙ ap (λ w. w ++ k.0) h.1 ∙ k.1)

module _ (p : Program) (input : List ℕ) (steps : ℕ) (due : Due) (lists : Lists (listing_of p) p) where
  -- where the run of the listing program may run out, so may the listing
  may_run_out : run.MayRunOut (listing_of p) input steps → ListingMayRunOut p input steps
  may_run_out out level uncut =
      let high : ℕ = level + more_levels p in
      let e : Events NoYield = ev_program high (listing_of p) input in
      let whole : ends_in_cut e ≡ false = (lists level input).reached uncut in
      omega (arith, out high (no_cut e whole), fewer_visits e, (lists high input).visits whole)

  -- what such a run shows is listed
  run_is_listed : (end : End) → due.end ≡ listing_end end → run.Shows (listing_of p) input steps due.out end → IsListed p input steps due
  run_is_listed end ends (run.whole goes is) =
      let uncut : end_of (first (ev_program (suc steps) (listing_of p) input)) ≡ CutOff → ⊥ =
      λ c. goes (sym (ap (λ (r : List ℕ × End). r.1) is) ∙ c) in
      whole end (sym (listers_give_listings (listing_of p) p lists (suc steps) input uncut) ∙ is) ends goes
  run_is_listed end ends (run.front cut covers out) =
      let e : Events NoYield = ev_program (suc steps) (listing_of p) input in
      let here = prefix_of_prefix due.out (prints (first e)) (prints e) (front_prints (first e) due.out covers.visits covers.front)
      (first_prints e) in
      front (ends ∙ ap listing_end cut) (prefix_of_prefix due.out (prints e) _ here (lists (suc steps) input).prefix) covers
      (may_run_out out)

pub lists_every_alternative : ListsEveryAlternative
lists_every_alternative p input steps due checked stays short means =
    let meant = run_is_meant program success (listing_of p) input steps due short means in
    run_is_listed p input steps due (each_is_listed p checked stays).0 meant.end meant.ends meant.shows
