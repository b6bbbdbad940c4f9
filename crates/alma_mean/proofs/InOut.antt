-- What programs that read and write give, by computation.
use Rattle.std.proofs.Common.{refl}
use Rattle.alma_ir.specs.Phrases.{stmts_phrases}
use Rattle.alma_ir.specs.Lines.{stmts_with}
use Rattle.alma_mean.specs.Meaning.{ev_stmts}
use Rattle.alma_mean.specs.Worked.InOut.{InOutRuns}

-- each side computes
pub in_out_runs : InOutRuns
unfolding ev_stmts stmts_with stmts_phrases
in_out_runs = record {
  position_is_given_back = refl;
  no_number = refl;
  number_too_large = refl;
  blanks_are_skipped = refl;
  minus_is_read = refl;
  plus_is_read = refl;
  sign_alone = refl;
  read_out_of_range = refl;
  too_large_comes_first = refl;
  bytes = refl;
  no_byte = refl;
  byte_out_of_range = refl;
  located_first = refl;
  items = refl;
  byte_modulo = refl;
  other_numbers_are_true = refl;
}
