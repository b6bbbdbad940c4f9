use Rattle.std.proofs.Common.{◌∙◌, ap, ◌+ℤ◌, ◌-ℤ◌, ◌*ℤ◌, neg_ℤ, int_lt, int_le}
use Rattle.alma_base.specs.Choice.{if_true}
use Rattle.alma_base.specs.declared.fault.RunFault.TheVariants as fault
use Rattle.alma_base.specs.Numbers.{is_zero, int_eq, bit, div_down_of, mod_down_of}
use Rattle.alma_code.specs.Machine.{act, number, place, content, with_known_content, is_known, integer_result, ends_in_fault}
use Rattle.alma_machine_acts.proofs.Words.{gives_put}
use Rattle.alma_machine.proofs.dispatch.computation.Goals as goal

pub returns-in-Add-clause-number : goal.returns-in-Add-clause-number
unfolding act
returns-in-Add-clause-number g c code input s same =
    ap (λ i. act code input i s) c.in-Add.is
    ∙ gives_put (g.M.MachineMemory.picture c.args.registers.now.memory).now
    (λ s k. number s c.in-Add.left (λ x. number s c.in-Add.right (λ y. integer_result s (x +ℤ y) k))) s c.in-Add.to c.sum.result same
    c.sum.ensures

pub returns-in-Sub-clause-number : goal.returns-in-Sub-clause-number
unfolding act
returns-in-Sub-clause-number g c code input s same =
    ap (λ i. act code input i s) c.in-Sub.is
    ∙ gives_put (g.M.MachineMemory.picture c.args.registers.now.memory).now
    (λ s k. number s c.in-Sub.left (λ x. number s c.in-Sub.right (λ y. integer_result s (x -ℤ y) k))) s c.in-Sub.to c.difference.result
    same c.difference.ensures

pub returns-in-Mul-clause-number : goal.returns-in-Mul-clause-number
unfolding act
returns-in-Mul-clause-number g c code input s same =
    ap (λ i. act code input i s) c.in-Mul.is
    ∙ gives_put (g.M.MachineMemory.picture c.args.registers.now.memory).now
    (λ s k. number s c.in-Mul.left (λ x. number s c.in-Mul.right (λ y. integer_result s (x *ℤ y) k))) s c.in-Mul.to c.product.result
    same c.product.ensures

pub returns-in-Div-clause-number : goal.returns-in-Div-clause-number
unfolding act
returns-in-Div-clause-number g c code input s same =
    ap (λ i. act code input i s) c.in-Div.is
    ∙ gives_put (g.M.MachineMemory.picture c.args.registers.now.memory).now
    (λ s k. number s c.in-Div.left (λ x. number s c.in-Div.right
    (λ y. if_true (is_zero y) (λ _. ends_in_fault fault.ZeroDivide s) (λ _. integer_result s (div_down_of x y) k)))) s c.in-Div.to
    c.quotient.result same c.quotient.ensures

pub returns-in-Mod-clause-number : goal.returns-in-Mod-clause-number
unfolding act
returns-in-Mod-clause-number g c code input s same =
    ap (λ i. act code input i s) c.in-Mod.is
    ∙ gives_put (g.M.MachineMemory.picture c.args.registers.now.memory).now
    (λ s k. number s c.in-Mod.left (λ x. number s c.in-Mod.right
    (λ y. if_true (is_zero y) (λ _. ends_in_fault fault.ZeroDivide s) (λ _. integer_result s (mod_down_of x y) k)))) s c.in-Mod.to
    c.remainder.result same c.remainder.ensures

pub returns-in-Neg-clause-number : goal.returns-in-Neg-clause-number
unfolding act
returns-in-Neg-clause-number g c code input s same =
    ap (λ i. act code input i s) c.in-Neg.is
    ∙ gives_put (g.M.MachineMemory.picture c.args.registers.now.memory).now
    (λ s k. number s c.in-Neg.from (λ x. integer_result s (neg_ℤ x) k)) s c.in-Neg.to c.negated.result same c.negated.ensures

pub returns-in-Equal-clause-number : goal.returns-in-Equal-clause-number
unfolding act
returns-in-Equal-clause-number g c code input s same =
    ap (λ i. act code input i s) c.in-Equal.is
    ∙ gives_put (g.M.MachineMemory.picture c.args.registers.now.memory).now
    (λ s k. number s c.in-Equal.left (λ x. number s c.in-Equal.right (λ y. k (bit (int_eq x y))))) s c.in-Equal.to c.equal.result same
    c.equal.ensures

pub returns-in-Less-clause-number : goal.returns-in-Less-clause-number
unfolding act
returns-in-Less-clause-number g c code input s same =
    ap (λ i. act code input i s) c.in-Less.is
    ∙ gives_put (g.M.MachineMemory.picture c.args.registers.now.memory).now
    (λ s k. number s c.in-Less.left (λ x. number s c.in-Less.right (λ y. k (bit (int_lt x y))))) s c.in-Less.to c.less.result same
    c.less.ensures

pub returns-in-LessEq-clause-number : goal.returns-in-LessEq-clause-number
unfolding act
returns-in-LessEq-clause-number g c code input s same =
    ap (λ i. act code input i s) c.in-LessEq.is
    ∙ gives_put (g.M.MachineMemory.picture c.args.registers.now.memory).now
    (λ s k. number s c.in-LessEq.left (λ x. number s c.in-LessEq.right (λ y. k (bit (int_le x y))))) s c.in-LessEq.to c.at_most.result
    same c.at_most.ensures

pub returns-in-Flip-clause-number : goal.returns-in-Flip-clause-number
unfolding act
returns-in-Flip-clause-number g c code input s same =
    ap (λ i. act code input i s) c.in-Flip.is
    ∙ gives_put (g.M.MachineMemory.picture c.args.registers.now.memory).now (λ s k. number s c.in-Flip.from (λ x. k (bit (is_zero x)))) s
    c.in-Flip.to c.flipped.result same c.flipped.ensures

pub returns-in-Load-clause-number : goal.returns-in-Load-clause-number
unfolding act
returns-in-Load-clause-number g c code input s same =
    ap (λ i. act code input i s) c.in-Load.is
    ∙ gives_put (g.M.MachineMemory.picture c.args.registers.now.memory).now
    (λ s k. place s c.in-Load.from (λ p. content s p.frame p.slot (λ c. with_known_content s c k))) s c.in-Load.to c.number_at.result
    same c.number_at.ensures

pub returns-in-Known-clause-number : goal.returns-in-Known-clause-number
unfolding act
returns-in-Known-clause-number g c code input s same =
    ap (λ i. act code input i s) c.in-Known.is
    ∙ gives_put (g.M.MachineMemory.picture c.args.registers.now.memory).now
    (λ s k. place s c.in-Known.of (λ p. content s p.frame p.slot (λ c. k (bit (is_known c))))) s c.in-Known.to c.knows.result same
    c.knows.ensures
