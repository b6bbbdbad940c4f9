-- What programs with procedures inside procedures give, by computation.
use Rattle.std.proofs.Common.{refl}
use Rattle.alma_ir.specs.Phrases.{stmts_phrases}
use Rattle.alma_ir.specs.Lines.{stmts_with}
use Rattle.alma_mean.specs.Meaning.{ev_stmts}
use Rattle.alma_mean.specs.Worked.Nested.{NestedRun}

-- each side computes
pub nested_run : NestedRun
unfolding ev_stmts stmts_with stmts_phrases
nested_run = record {
  variable_and_parameter = refl;
  choice_in_an_outer_frame = refl;
  each_has_its_own = refl;
  link_passes_the_caller = refl;
  one_beside_another = refl;
  inner_calls_outer = refl;
  variable_is_handed_on = refl;
  mix_parameter_outside = refl;
  function_inside = refl;
  levels_to_2 = refl;
  levels_to_5 = refl;
  levels_to_8 = refl;
  eight_links_up = refl;
}
