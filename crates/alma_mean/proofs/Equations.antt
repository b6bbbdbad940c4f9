-- What programs with equations, assignments and numbers give, by computation.
use Rattle.std.proofs.Common.{refl}
use Rattle.alma_ir.specs.Phrases.{stmts_phrases}
use Rattle.alma_ir.specs.Lines.{stmts_with}
use Rattle.alma_mean.specs.Meaning.{ev_stmts}
use Rattle.alma_mean.specs.Worked.Equations.{EquationsRun, NumbersRun}

-- each side computes
pub equations_run : EquationsRun
unfolding ev_stmts stmts_with stmts_phrases
equations_run = record {
  both_unknown = refl;
  unknown_with_itself = refl;
  left_gets_right = refl;
  right_gets_left = refl;
  known_and_unlike = refl;
  expression_on_the_left = refl;
  binds_out_of_range = refl;
  known_is_not_ranged = refl;
  unifies_out_of_range = refl;
  arrays_complete_each_other = refl;
  arrays_both_unknown = refl;
  arrays_fail_in_order = refl;
  unknown_is_copied = refl;
  index_outside = refl;
  part_of_a_part = refl;
  assigns_out_of_range = refl;
  unknown_is_read = refl;
  no_case = refl;
  first_arm_that_holds = refl;
  case_else = refl;
}

-- each side computes
pub numbers_run : NumbersRun
unfolding ev_stmts stmts_with stmts_phrases
numbers_run = record {
  sum_overflows = refl;
  division_rounds_down = refl;
  div_by_zero = refl;
  mod_by_zero = refl;
  least_mod_minus_one = refl;
  least_div_minus_one = refl;
  sign_overflows = refl;
  from_left_to_right = refl;
  comparisons = refl;
  chr = refl;
  chr_out_of_range = refl;
  known = refl;
}
