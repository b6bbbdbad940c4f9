-- What small modules give that are joined, by computation.
use Rattle.std.proofs.Common.{refl}
use Rattle.alma_ir.specs.Phrases.{stmts_phrases}
use Rattle.alma_ir.specs.Lines.{stmts_with}
use Rattle.alma_mean.specs.Meaning.{ev_stmts}
use Rattle.alma_copy.specs.Moved.{moved_stmts}
use Rattle.alma_join.specs.Worked.{JoinsWork}

-- each side computes
pub joins_work : JoinsWork
unfolding ev_stmts stmts_with stmts_phrases moved_stmts
joins_work = record {
  two_modules = refl;
  two_run = refl;
  other_way = refl;
  other_runs = refl;
  three_run = refl;
  three_globals = refl;
  missing = refl;
  missing_twice = refl;
  twice = refl;
  head_differs = refl;
  alone = refl;
}
