use Rattle.std.proofs.Common.{subst}
use Rattle.alma_choice.specs.Emitted.{Aims}
use Rattle.alma_choice.proofs.Aiming.{ends_forall}
use Rattle.alma_choice.proofs.emit.Emit.end_forall.Goals as goal

pub returns-clause-ends : goal.returns-clause-ends
returns-clause-ends c =
    let a = c.args.self.now in
    ends_forall a c.put_all.new.self c.aim.new.self c.args.line c.args.forall c.in_ok-at.ensures.puts
    (subst (λ n. Aims c.put_all.new.self c.aim.new.self c.args.forall n) c.in_ok-at.ensures.address c.aim.ensures.aims)
