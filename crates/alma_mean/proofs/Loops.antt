-- What programs with loops give, by computation.
use Rattle.std.proofs.Common.{refl}
use Rattle.alma_ir.specs.Phrases.{stmts_phrases}
use Rattle.alma_ir.specs.Lines.{stmts_with}
use Rattle.alma_mean.specs.Meaning.{ev_stmts}
use Rattle.alma_mean.specs.Worked.Loops.{LoopsRun, QueensRun}

-- each side computes
pub loops_run : LoopsRun
unfolding ev_stmts stmts_with stmts_phrases
loops_run = record {
  forever_at_4 = refl;
  forever_at_40 = refl;
  calls_at_1 = refl;
  calls_at_2 = refl;
  calls_at_3 = refl;
  calls_at_4 = refl;
  calls_at_5 = refl;
  calls_at_6 = refl;
  while_counts = refl;
  condition_binds = refl;
  repeat_counts = refl;
  repeat_is_cut_off = refl;
  repeat_undoes_the_condition = refl;
  for_by_minus_two = refl;
  empty_for_does_nothing = refl;
  empty_for_stores_its_bounds = refl;
  for_leaves_the_range = refl;
  count_does_not_overflow = refl;
  bounds_are_taken_once = refl;
  count_is_hidden = refl;
  turns_keep_their_choices = refl;
  sixty_turns = refl;
}

-- each side computes
pub queens_run : QueensRun
unfolding ev_stmts stmts_with stmts_phrases
queens_run = record {
  on_four_rows = refl;
}
