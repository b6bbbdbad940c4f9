use Rattle.std.proofs.Common.{◌≡◌, ◌+◌, take}
use Rattle.alma_rules.specs.View as view
use Rattle.alma_rules.specs.Decls as rules
use Rattle.alma_check_block.specs.Shown.{frame_with_scene, told_frame}
use Rattle.alma_check_block.proofs.decls.read_decls.Given as goal

abbrev pub invariant-loop-decl : goal.invariant-loop-decl
invariant-loop-decl l =
    record {
      number : l.next ≡ l.first + rules.decls_routines (view.decls_of (take l.decl-index l.decls));
      read : (f : rules.Frame) → frame_with_scene l.fn.reader l.fn.frame ≡ told_frame f
          → frame_with_scene l.reader l.frame ≡ told_frame (rules.read_decls f l.first (view.decls_of (take l.decl-index l.decls)));
    }
