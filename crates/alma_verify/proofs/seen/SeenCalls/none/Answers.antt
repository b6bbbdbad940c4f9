use Rattle.std.proofs.Common.{arith}
use Rattle.std.proofs.lemmas.List.Elements.{All-replicate}
use Rattle.alma_verify.specs.Seen.{IsFit}
use Rattle.alma_verify.proofs.seen.SeenCalls.none.Goals as goal

pub returns : goal.returns
returns c code =
    let none = All-replicate (IsFit code) 256 (record { caller = 0; callee = 0; first = 0 }) (λ lt. absurd (omega (arith, lt))) in
    record { calls = none; latest = none }
