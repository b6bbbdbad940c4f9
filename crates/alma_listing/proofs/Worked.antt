-- What small programs list, by computation.
use Rattle.std.proofs.Common.{refl}
use Rattle.alma_ir.specs.Phrases.{stmts_phrases}
use Rattle.alma_ir.specs.Lines.{stmts_with}
use Rattle.alma_mean.specs.Meaning.{ev_stmts}
use Rattle.alma_listing.specs.Worked.{ListingsRun}

-- each side computes
pub listings_run : ListingsRun
unfolding ev_stmts stmts_with stmts_phrases
listings_run = record {
  two_lines = (refl, refl, refl);
  two_stores = refl;
  line = refl;
  no_line = (refl, refl, refl);
  no_globals = (refl, refl, refl);
  several_cells = (refl, refl, refl);
  cut_off = (refl, refl);
  few_nodes = refl;
  few_visits = refl;
}
