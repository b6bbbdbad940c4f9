use Rattle.std.proofs.Common.{◌≡◌, drop}
use Rattle.alma_scan.specs.Spellings.{look_up}
use Rattle.alma_scan.specs.Inner.Tables.{entries}
use Rattle.alma_scan.proofs.spelling.find.Given as goal

abbrev pub invariant-loop-spelling : goal.invariant-loop-spelling
invariant-loop-spelling l = look_up (entries (drop l.spelling-index l.table)) l.text ≡ look_up (entries l.table) l.text
