use Rattle.std.proofs.Common.{◌≡◌, ◌∙◌, ap, arith, length}
use Rattle.std.specs.Prelude.{nat_eq}
use Rattle.std.specs.Vec.{vec_len}
use Rattle.alma_join.proofs.Marks.{empty_is}
use Rattle.alma_join.proofs.bare.has_empty_body.Goals as goal

pub returns : goal.returns
returns c =
    let len : vec_len c.args.routine.now.body ≡ length c.args.routine.now.body.items = omega (arith, c.args.routine.now.body.ok) in
    c.is_empty.ensures ∙ ap (λ n. nat_eq n 0) len ∙ empty_is c.args.routine.now.body.items
