-- Calls in which nothing failed: all came that is due from their words, and from the bytes of the file that they read.
use Rattle.std.proofs.Common.{◌≡◌, ◌≤◌, ◌∙◌, ℕ, List, length, ap, sym, subst, arith}
use Rattle.std.specs.Prelude.{Option, None, Some}
use Rattle.alma_io.specs.Files.{Told, Has, MayHave, MayPass}
use Rattle.alma_driver_words.specs.Words.{Request, file_of}
use Rattle.alma_driver_words.proofs.WordLemmas.{one_request}
use Rattle.alma_driver_outcome.specs.Words.{read_by, limit_of}
use Rattle.alma_io.specs.Outside.{Outside, IsUndisturbed, StoredFile}
use Rattle.alma_plan.specs.Causes.{IsWhole}
use Rattle.alma_plan.specs.Course.{Takes}
use Rattle.alma_plan.specs.Plan.{Reading}
use Rattle.alma_plan.specs.Undisturbed.{ShowsDue}
use Rattle.alma_plan.proofs.UndisturbedLemmas.{call_is_whole}
use Rattle.alma_driver_outcome.specs.Commands.{AsksOf}
use Rattle.alma_driver_outcome.specs.Ends.{ending_in, program}
use Rattle.alma_driver_outcome.specs.Headline.{ShowsEnd}
use Rattle.alma_driver_outcome.specs.Outcome.{Due, FileOutcome, RequestOutcome, absent, past_limit, fetched, unfetched, Outcome, bad_word}
use Rattle.alma_driver_outcome.specs.Outcome.{asks, Lacks}
use Rattle.alma_driver_outcome.specs.Parts.{MayCome, shown_in}
use Rattle.alma_driver_outcome.specs.Scope.{Causes, IsOutcome, scope_of}
use Rattle.alma_driver_outcome.specs.declared.end.End.{End}

-- all that is due from the words came
pub record Came (words : List (List ℕ)) (before after : Outside) (status : ℕ) : Type 0 where
  pub due : Due
  pub outcome : Outcome words before.files.told before.input.left due
  pub shows : ShowsDue before after status (shown_in (file_of words) due)
  pub takes : Takes due.reading before.input after.input

-- so it did where nothing failed, and no file is missing
pub whole_words : (words : List (List ℕ)) (before after : Outside) (status : ℕ) → (Lacks words before.files.told → ⊥)
    → Causes words before after status → IsUndisturbed before after status → Came words before after status
whole_words words before after status there c u =
    by (call_is_whole program (scope_of words before) before after status c u there)
  where
    by : IsWhole (MayCome (file_of words) (IsOutcome words before)) before after status → Came words before after status
    by w = record {
      due = w.2.0;
      outcome = w.2.1;
      shows = subst (ShowsDue before after status) w.2.3 (record { status_is = w.3; out = w.4; err = w.5; files = w.6 });
      takes = subst (λ (x : Reading). Takes x before.input after.input) w.2.2 w.7;
    }

-- all that is due from the bytes of a request's file came
pub record CameWhole (words : List (List ℕ)) (request : Request) (bytes : List ℕ) (before after : Outside) (status : ℕ) : Type 0 where
  pub due : Due
  pub outcome : FileOutcome before.input.left request bytes due
  pub shows : ShowsDue before after status (shown_in (file_of words) due)
  pub takes : Takes due.reading before.input after.input

-- the outcome of a request whose file has these bytes
file_outcome : (told : List ℕ → Told) (left : Option (List ℕ)) (r : Request) (name bytes : List ℕ) (due : Due) → read_by r ≡ Some name
    → told name ≡ Has bytes → length bytes ≤ limit_of r → RequestOutcome told left r due → FileOutcome left r bytes due
file_outcome told left r name bytes due reads has short (absent n is gone e) =
    let same : name ≡ n = cc (sym reads ∙ is) in
    cc (sym has ∙ ap told same ∙ gone)
file_outcome told left r name bytes due reads has short (past_limit n is past e) =
    let same : name ≡ n = cc (sym reads ∙ is) in
    let more : MayPass (Has bytes) (limit_of r) = subst (λ (t : Told). MayPass t (limit_of r)) (ap told (sym same) ∙ has) past in
    absurd (omega (arith, short, more))
file_outcome told left r name bytes due reads has short (fetched n other is may few o) =
    let same : name ≡ n = cc (sym reads ∙ is) in
    let one : bytes ≡ other = subst (λ (t : Told). MayHave t other) (ap told (sym same) ∙ has) may in
    subst (λ (s : List ℕ). FileOutcome left r s due) (sym one) o
file_outcome told left r name bytes due reads has short (unfetched is o) = cc (sym reads ∙ is)

module _ (words : List (List ℕ)) (r : Request) (bytes : List ℕ) (before after : Outside) (status : ℕ) (a : AsksOf words r before bytes)
  where
    -- the outcome of words that ask for it
    words_outcome : (due : Due) → Outcome words before.files.told before.input.left due → FileOutcome before.input.left r bytes due
    words_outcome due (bad_word k bad e) = absurd (bad.none (r, a.asks))
    words_outcome due (asks other h o) =
        let same : other ≡ r = one_request words other r h a.asks in
        file_outcome before.files.told before.input.left r a.name bytes due a.reads a.told a.short
        (subst (λ (q : Request). RequestOutcome before.files.told before.input.left q due) same o)

    -- its file is not missing
    not_lacking : Lacks words before.files.told → ⊥
    not_lacking l =
        let same : l.0 ≡ r = one_request words l.0 r l.2 a.asks in
        let name : Some a.name ≡ Some l.1 = sym a.reads ∙ sym (ap read_by same) ∙ l.3 in
        let one : a.name ≡ l.1 = cc name in
        cc (sym a.told ∙ ap before.files.told one ∙ l.4)

    -- all that is due from a call came where nothing failed
    pub whole_call : Causes words before after status → IsUndisturbed before after status → CameWhole words r bytes before after status
    whole_call c u =
        let w = whole_words words before after status not_lacking c u in
        record { due = w.due; outcome = words_outcome w.due w.outcome; shows = w.shows; takes = w.takes }

-- what is due by its end and its bytes, where nothing is stored
pub shows_end : (words : List (List ℕ)) (before after : Outside) (status : ℕ) (due : Due) (end : End) → due.end ≡ end → due.stored ≡ None
    → ShowsDue before after status (shown_in (file_of words) due) → ShowsEnd words before after status end due.out
shows_end words before after status due end e none h =
    let file = file_of words in
    subst (ShowsDue before after status)
    (ap (λ (x : End). record { end = ending_in file x; out = due.out; stored = due.stored }) e
    ∙ ap (λ (x : Option StoredFile). record { end = ending_in file end; out = due.out; stored = x }) none) h
