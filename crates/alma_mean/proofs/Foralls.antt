-- What programs with FORALL give, by computation.
use Rattle.std.proofs.Common.{refl}
use Rattle.alma_ir.specs.Phrases.{stmts_phrases}
use Rattle.alma_ir.specs.Lines.{stmts_with}
use Rattle.alma_mean.specs.Meaning.{ev_stmts}
use Rattle.alma_mean.specs.Worked.Foralls.{ForallsRun}

-- each side computes
pub foralls_run : ForallsRun
unfolding ev_stmts stmts_with stmts_phrases
foralls_run = record {
  carry_counts = refl;
  carry_is_over_the_alternative = refl;
  carry_grows = refl;
  no_alternative = refl;
  failed_part_adds_nothing = refl;
  alternative_is_undone = refl;
  alternatives_never_see_the_carry = refl;
  unknown_is_no_change = refl;
  change_is_from_the_carry = refl;
  position_is_carried = refl;
  position_of_the_part_wins = refl;
  fault_ends_it = refl;
  it_has_one_alternative = refl;
  part_is_committed = refl;
  one_in_another = refl;
  loop_in_the_part = refl;
}
