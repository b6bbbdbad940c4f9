use Rattle.std.proofs.Common.{drop}
use Rattle.alma_ir.specs.View.{stmts_list}
use Rattle.alma_lower_work.specs.Front.{Front, around, front}
use Rattle.alma_lower_work.specs.Puts.{PutsStmts}
use Rattle.alma_lower_emit.proofs.statement.emit_sequence.Given as goal

abbrev pub invariant-loop-stmt : goal.invariant-loop-stmt
invariant-loop-stmt g l =
    (c : Front) → PutsStmts (around l.scene) (front l.work) c (stmts_list (drop l.stmt-index l.body))
    → PutsStmts (around l.scene) (front l.fn.work) c (stmts_list l.body)
