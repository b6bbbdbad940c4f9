use Rattle.alma_verify.specs.Seen.{AreAlike}
use Rattle.alma_verify.proofs.alike.are_alike.Given as goal

abbrev pub invariant-turn : goal.invariant-turn
invariant-turn g l =
    AreAlike (g.R.CodeReader.code l.reader) l.one.caller l.one.first l.other.caller l.other.first l.passed
