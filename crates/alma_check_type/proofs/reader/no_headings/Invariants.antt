use Rattle.std.proofs.Common.{◌≡◌, None}
use Rattle.std.specs.Prelude.{replicate}
use Rattle.alma_check_rules.specs.Views.{headings_view}
use Rattle.alma_check_type.proofs.reader.no_headings.Given as goal

abbrev pub invariant-loop-routine : goal.invariant-loop-routine
invariant-loop-routine l = headings_view l.headings.items ≡ replicate l._routine None
