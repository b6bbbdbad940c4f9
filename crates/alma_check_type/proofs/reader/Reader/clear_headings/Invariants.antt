use Rattle.std.proofs.Common.{◌≡◌, ◌-◌, ◌≤◌}
use Rattle.alma_check_type.specs.Around.{clear}
use Rattle.alma_check_type.proofs.reader.Reader.clear_headings.Given as goal

abbrev pub invariant-loop-routine : goal.invariant-loop-routine
invariant-loop-routine l =
    record {
      scene : l.self ≡ record l.fn.self { headings = clear l.first (l.routine - l.first) l.fn.self.headings };
      before : l.routine - l.first ≤ l.end - l.first;
    }
