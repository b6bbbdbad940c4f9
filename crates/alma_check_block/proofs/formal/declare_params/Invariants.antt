use Rattle.std.proofs.Common.{◌≡◌, take}
use Rattle.alma_rules.specs.View as view
use Rattle.alma_rules.specs.Decls as rules
use Rattle.alma_check_block.specs.Shown.{frame_with_scene, told_frame}
use Rattle.alma_check_block.proofs.formal.declare_params.Given as goal

abbrev pub invariant-loop-name : goal.invariant-loop-name
invariant-loop-name l =
    (f : rules.Frame) → frame_with_scene l.fn.reader l.fn.frame ≡ told_frame f
    → frame_with_scene l.reader l.frame ≡ told_frame (rules.params_in f l.from l.mode l.shape (view.names_of (take l.name-index l.names)))
