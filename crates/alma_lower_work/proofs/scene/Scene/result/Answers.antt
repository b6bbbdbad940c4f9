use Rattle.std.proofs.Common.{ap}
use Rattle.alma_ir.specs.Tree.{Routine}
use Rattle.alma_lower_work.specs.Front.{around}
use Rattle.alma_lower_work.proofs.Scenes.{routine_found, routine_past}
use Rattle.alma_lower_work.proofs.scene.Scene.result.Goals as goal

pub returns-in-Some : goal.returns-in-Some
unfolding around
returns-in-Some c =
    let found = c.in-Some.ensures.lookup in
    ap (λ (x : Routine). x.result) (routine_found c.args.self.now _ c.args.self.now.routine c.in-Some.routine.now c.deref.ensures.value
    found.3.0 found.1)

pub returns-in-None : goal.returns-in-None
unfolding around
returns-in-None c =
    ap (λ (x : Routine). x.result) (routine_past c.args.self.now _ c.args.self.now.routine c.deref.ensures.value c.in-None.ensures.lookup.3)
