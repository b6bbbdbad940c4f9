use Rattle.std.proofs.Common.{◌≡◌, ◌-◌, ap, ◌∙◌, arith}
use Rattle.alma_rules.specs.Scene.{Scene}
use Rattle.alma_check_type.specs.Around.{clear}
use Rattle.alma_check_type.proofs.reader.Reader.clear_headings.Goals as goal

pub returns : goal.returns
returns c =
    let n : c.loop-routine.routine - c.args.first ≡ c.args.end - c.args.first = omega arith in
    c.loop-routine.invariant.scene ∙ ap (λ k. let s : Scene =
    record c.args.self.now { headings = clear c.args.first k c.args.self.now.headings } in s) n
