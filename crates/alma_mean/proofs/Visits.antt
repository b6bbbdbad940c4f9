-- What small programs visit, by computation.
use Rattle.std.proofs.Common.{refl}
use Rattle.alma_ir.specs.Phrases.{stmts_phrases}
use Rattle.alma_ir.specs.Lines.{stmts_with}
use Rattle.alma_mean.specs.Meaning.{ev_stmts}
use Rattle.alma_mean.specs.Worked.Visits.{VisitsCount}

-- each side computes
pub visits_count : VisitsCount
unfolding ev_stmts stmts_with stmts_phrases
visits_count = record {
  of_nothing = refl;
  of_a_test = refl;
  of_a_selector = refl;
  of_an_arm = refl;
  of_labels = refl;
  of_a_branch = refl;
  of_a_turn = refl;
  of_a_call = refl;
}
