use Rattle.std.proofs.Common.{◌≡◌, take}
use Rattle.alma_rules.specs.View as view
use Rattle.alma_rules.specs.Decls as rules
use Rattle.alma_check_block.specs.Shown.{frame_with_scene, told_frame}
use Rattle.alma_check_block.proofs.entry.read_types.Given as goal

abbrev pub invariant-loop-entry : goal.invariant-loop-entry
invariant-loop-entry l =
    (f : rules.Frame) → frame_with_scene l.fn.reader l.fn.frame ≡ told_frame f
    → frame_with_scene l.reader l.frame ≡ told_frame (rules.read_types f (view.types_of (take l.entry-index l.entries)))
