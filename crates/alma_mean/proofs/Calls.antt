-- What programs with procedures and functions give, by computation.
use Rattle.std.proofs.Common.{refl}
use Rattle.alma_ir.specs.Phrases.{stmts_phrases}
use Rattle.alma_ir.specs.Lines.{stmts_with}
use Rattle.alma_mean.specs.Meaning.{ev_stmts}
use Rattle.alma_mean.specs.Worked.Calls.{CallsRun}

-- each side computes
pub calls_run : CallsRun
unfolding ev_stmts stmts_with stmts_phrases
calls_run = record {
  mix_both_ways = refl;
  mix_handed_on = refl;
  frame_lives_again = refl;
  function_takes_the_first = refl;
  value_is_a_copy = refl;
  all_cells_are_copied = refl;
  cells_are_copied_last = refl;
  value_is_checked_in_its_turn = refl;
  global_is_set = refl;
  new_frame_is_unknown = refl;
  procedure_returns = refl;
  function_calls_itself = refl;
  function_fails = refl;
  function_without_return = refl;
  result_out_of_range = refl;
  cell_is_looked_at_last = refl;
  sum_overflows_in_its_turn = refl;
  cells_full = refl;
  cells_not_full = refl;
  depth_full = refl;
  depth_not_full = refl;
  call_at_1 = refl;
  call_at_2 = refl;
  some_locates_anew = refl;
  condition_has_none = refl;
}
