use Rattle.std.proofs.Common.{◌≡◌, ◌+◌, ◌*◌, drop}
use denote.Param.Weighed.{most}
use Rattle.alma_tree.specs.declared.module.Block as db
use Rattle.alma_tree.specs.declared.module.Decl as dh
use Rattle.alma_rules.specs.View as view
use Rattle.alma_check_stmt.specs.Inner.Gathered.{through_decls, AreReady}
use Rattle.alma_check_stmt.specs.Inner.Shown.{stand}
use Rattle.alma_check_stmt.proofs.routine.+routines.Given as goal

-- ---- measures: four times the depth, and one more where a block is passed on as it is

abbrev pub decreases-check_declared : goal.decreases-check_declared
decreases-check_declared l = 4 * (db.size-Block l.block.now)

abbrev pub decreases-check_block : goal.decreases-check_block
decreases-check_block l = 4 * (db.size-Block l.block.now) + 1

abbrev pub decreases-check_procedure : goal.decreases-check_procedure
decreases-check_procedure l = 4 * (db.size-Block l.block.now) + 2

abbrev pub decreases-check_decl : goal.decreases-check_decl
decreases-check_decl l = 4 * (dh.size-Decl l.decl.now)

abbrev pub decreases-check_decls : goal.decreases-check_decls
decreases-check_decls l = 4 * (most dh.size-Decl l.decls.now) + 1

abbrev pub invariant-check_decls-loop-decl : goal.invariant-check_decls-loop-decl
invariant-check_decls-loop-decl l = record {
  stands : through_decls (stand l.fn.checked l.fn.reader) (view.decls_of l.decls) ≡ through_decls (stand l.checked l.reader)
      (view.decls_of (drop l.decl-index l.decls));
  ready : AreReady l.lines l.reader l.checked.next (view.decls_of (drop l.decl-index l.decls));
}
