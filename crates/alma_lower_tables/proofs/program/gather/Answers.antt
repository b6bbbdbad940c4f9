use Rattle.alma_ir.specs.View.{program_of}
use Rattle.alma_lower_tables.proofs.Held.{all_ranges_are, all_texts_are, all_integers, holds_all, some_ranges, some_texts}
use Rattle.alma_lower_tables.proofs.program.gather.Goals as goal

pub returns : goal.returns
returns c =
    let p = program_of c.args.program.now in
    let ranges = all_ranges_are p _ _ _ c.new-numbers.ensures.ranges c.in_ok-add_bodies.ensures c.in_ok-add_results.ensures in
    let texts = all_texts_are p _ _ _ c.new-numbers.ensures.texts c.in_ok-add_bodies.ensures c.in_ok-add_results.ensures in
    record {
      holds = holds_all p _ ranges texts;
      ranges = some_ranges p _ ranges texts;
      texts = some_texts p _ ranges texts;
      integers =
          all_integers p _ _ c.in_ok-add_bodies.ensures;
    }
