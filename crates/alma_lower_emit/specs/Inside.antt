-- What the emitter of expressions and tests asks of the way to put statements, which puts what stands in a test.
use Rattle.std.specs.Prelude.{List, Result, OnOk}
use Rattle.std.specs.Borrow.{Bor, MutBor}
use Rattle.alma_base.specs.declared.fault.NoMemory.{NoMemory}
use Rattle.alma_ir.specs.declared.phrase.Stmt.{Stmt}
use Rattle.alma_ir.specs.View.{stmts_list}
use Rattle.alma_lower_work.specs.declared.scene.Scene.{Scene}
use Rattle.alma_lower_work.specs.declared.work.Work.{Work}
use Rattle.alma_lower_work.specs.Front.{around, front}
use Rattle.alma_lower_work.specs.Puts.{PutsStmts}

-- it may be called at any code, and each call that does not run out of memory puts the statements that it is given behind the code so far
pub record EmitsStmts (callable : Type 0)
    (post : MutBor Work → Bor Scene → Bor (List Stmt) → Result (Unit {0}) NoMemory → MutBor Work → Type 0) : Type 0 where
  pub may_call : callable
  pub each_call : (work : MutBor Work) (scene : Bor Scene) (body : Bor (List Stmt)) (r : Result (Unit {0}) NoMemory) (after : MutBor Work) →
      post work scene body r after → OnOk r (PutsStmts (around scene.now) (front work.now) (front after.now) (stmts_list body.now))
