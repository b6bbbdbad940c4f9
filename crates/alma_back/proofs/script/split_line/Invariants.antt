use Rattle.std.proofs.Common.{◌≡◌, take, drop}
use Rattle.alma_back.specs.Script.{texts_in}
use Rattle.alma_back.proofs.Texts.{onto}
use Rattle.alma_back.proofs.script.split_line.Given as goal

abbrev pub invariant-loop-at : goal.invariant-loop-at
invariant-loop-at l = texts_in l.text ≡ onto (take l.at l.text) (texts_in (drop l.at l.text))
