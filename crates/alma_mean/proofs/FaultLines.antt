-- The lines of faults, by computation.
use Rattle.std.proofs.Common.{refl}
use Rattle.alma_ir.specs.Phrases.{stmts_phrases}
use Rattle.alma_ir.specs.Lines.{stmts_with}
use Rattle.alma_mean.specs.Meaning.{ev_stmts}
use Rattle.alma_mean.specs.Worked.FaultLines.{FaultLines}

-- each side computes
pub fault_lines : FaultLines
unfolding ev_stmts stmts_with stmts_phrases
fault_lines = record {
  unknown = refl;
  out_of_range = refl;
  index = refl;
  overflow = refl;
  zero_divide = refl;
  no_case = refl;
  read_range = refl;
  cells_full = refl;
  depth_full = refl;
  no_return = refl;
  in_a_procedure = refl;
  result_out_of_range = refl;
  in_an_argument = refl;
  in_a_condition = refl;
  in_an_arm = refl;
  in_the_else_part = refl;
  behind_it = refl;
  in_a_later_turn = refl;
  behind_the_body = refl;
  in_a_for = refl;
  in_a_some = refl;
  in_a_sequence = refl;
  behind_the_variable = refl;
  behind_a_call = refl;
  in_a_case = refl;
  in_a_branch = refl;
  in_a_not = refl;
  in_an_or = refl;
  in_a_forall = refl;
  in_a_commit = refl;
}
