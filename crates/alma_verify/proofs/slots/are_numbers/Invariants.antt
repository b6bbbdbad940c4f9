use Rattle.std.proofs.Common.{◌≡◌, ◌+◌, ◌-◌}
use Rattle.alma_code.specs.Plain.{kinds_at}
use Rattle.alma_code.specs.Kinds.{numbers_from}
use Rattle.alma_verify.proofs.slots.are_numbers.Given as goal

abbrev pub invariant-walk : goal.invariant-walk
invariant-walk g l =
    record {
      end : l.end ≡ l.first + l.count;
      rest :
          numbers_from l.count (kinds_at (g.R.CodeReader.code l.reader) l.routine) l.first
          ≡ numbers_from (l.end - l.at) (kinds_at (g.R.CodeReader.code l.reader) l.routine) l.at;
    }

abbrev pub decreases-walk : goal.decreases-walk
decreases-walk g l = l.end - l.at
