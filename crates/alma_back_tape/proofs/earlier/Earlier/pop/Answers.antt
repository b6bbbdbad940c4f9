use Rattle.std.proofs.Common.{◌≡◌, ◌∙◌, ap, length, [], arith}
use Rattle.std.proofs.lemmas.Bool.Decides.{nat_tests}
use Rattle.std.proofs.lemmas.List.{nil_from_length}
use Rattle.alma_code.specs.Picture.{without_last}
use Rattle.alma_back_tape.specs.Inner.Earlier.{PlainEarlier}
use Rattle.alma_back_tape.proofs.Pasts.{entered-shared}
use Rattle.alma_back_tape.proofs.earlier.Earlier.pop.Goals as goal

pub returns-then-is_empty-clause-before : goal.returns-then-is_empty-clause-before
returns-then-is_empty-clause-before c =
    let n : length c.self.inside.above.items ≡ 0 = grind (arith, nat_tests) in
    let none : c.self.inside.above.items ≡ [] = nil_from_length c.self.inside.above.items n in
    entered-shared c.self.inside.shared c.self.inside.frames.now c.self.inside.above.items c.self.inside.above.items c.self.inside.cells
    c.self.invariant none none
    ∙ ap (λ (p : PlainEarlier). without_last p.before) c.self.view_is
