use Rattle.std.proofs.Common.{◌≡◌, take}
use Rattle.alma_rules.specs.View as view
use Rattle.alma_rules.specs.Decls as rules
use Rattle.alma_check_block.specs.Shown.{frame_with_scene, told_frame}
use Rattle.alma_check_block.proofs.formal.read_formals.Given as goal

abbrev pub invariant-loop-formal : goal.invariant-loop-formal
invariant-loop-formal l =
    (f : rules.Frame) → frame_with_scene l.fn.reader l.fn.frame ≡ told_frame f
    → frame_with_scene l.reader l.frame ≡ told_frame (rules.read_formals f (view.more_formals_of (take l.formal-index l.formals)))
