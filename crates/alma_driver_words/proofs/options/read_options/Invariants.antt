use Rattle.std.proofs.Common.{take}
use Rattle.alma_driver_words.specs.Words.{texts}
use Rattle.alma_driver_words.specs.Inner.Settings.{AreGathered}
use Rattle.alma_driver_words.proofs.options.read_options.Given as goal

abbrev pub invariant-loop-index : goal.invariant-loop-index
invariant-loop-index l = AreGathered l.allowance (take l.index (texts l.words)) l.options
