-- What programs that choose give, by computation.
use Rattle.std.proofs.Common.{refl}
use Rattle.alma_ir.specs.Phrases.{stmts_phrases}
use Rattle.alma_ir.specs.Lines.{stmts_with}
use Rattle.alma_mean.specs.Meaning.{ev_stmts}
use Rattle.alma_mean.specs.Worked.Choices.{ChoicesRun}

-- each side computes
pub choices_run : ChoicesRun
unfolding ev_stmts stmts_with stmts_phrases
choices_run = record {
  empty_module = refl;
  false_fails = refl;
  second_branch = refl;
  branch_is_undone = refl;
  negative_is_true = refl;
  empty_some_fails = refl;
  some_in_order = refl;
  some_from_where_the_turn_began = refl;
  commit_takes_the_first = refl;
  commit_keeps_older_choices = refl;
  not_binds_nothing = refl;
  not_prints = refl;
  or_takes_the_first = refl;
  or_drops_later_alternatives = refl;
  or_keeps_all_of_the_last = refl;
  and_is_a_sequence = refl;
  true_value_binds = refl;
  false_value_binds_nothing = refl;
  condition_takes_the_first = refl;
  elsif_in_the_store_on_entry = refl;
  else_part = refl;
  body_keeps_its_choices = refl;
  return_ends_the_module = refl;
}
