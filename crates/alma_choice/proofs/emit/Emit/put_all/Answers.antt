use Rattle.std.proofs.Common.{◌≡◌, ◌++◌, List, map, arith, subst}
use Rattle.std.proofs.lemmas.List.{take_all}
use Rattle.alma_code.specs.declared.instr.Instr.{Instr}
use Rattle.alma_choice.proofs.Aiming.{puts_all}
use Rattle.alma_choice.proofs.emit.Emit.put_all.Goals as goal

pub returns-clause-puts : goal.returns-clause-puts
returns-clause-puts c =
    let l = c.loop-i in
    let line = c.args.line in
    let all = take_all l.i c.args.instrs.now (omega (arith, c.loop-i-test.false)) in
    puts_all c.args.self.now l.self line c.args.instrs.now
    (subst (λ (instrs : List Instr). l.self.code.items ≡ c.args.self.now.code.items ++ map (λ i. (i, line)) instrs) all l.invariant.code)
    l.invariant.kinds l.invariant.next
