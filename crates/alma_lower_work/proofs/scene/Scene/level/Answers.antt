use Rattle.std.proofs.Common.{ap}
use Rattle.alma_ir.specs.Tree.{Routine}
use Rattle.alma_lower_work.proofs.Scenes.{routine_found, routine_past}
use Rattle.alma_lower_work.proofs.scene.Scene.level.Goals as goal

pub returns-in-Some : goal.returns-in-Some
returns-in-Some c =
    let found = c.in-Some.ensures.lookup in
    ap (λ (x : Routine). x.level) (routine_found c.args.self.now _ c.args.routine c.in-Some.routine.now c.deref.ensures.value found.3.0
    found.1)

pub returns-in-None : goal.returns-in-None
returns-in-None c =
    ap (λ (x : Routine). x.level) (routine_past c.args.self.now _ c.args.routine c.deref.ensures.value c.in-None.ensures.lookup.3)
