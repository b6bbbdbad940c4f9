use Rattle.std.proofs.Common.{sym, ◌∙◌, ◌++◌, ap, arith}
use Rattle.alma_pool.proofs.TurnLemmas.{ready_on, none_known, machine_turn}
use Rattle.alma_pool.proofs.pool.play.Goals as goal

pub returns-in_default-clause-turn : goal.returns-in_default-clause-turn
returns-in_default-clause-turn c =
    machine_turn c.args.player.now.machine c.step.new.self c.in_ok-step.step c.args.player.now.output.items
    c.extend_from_slice.new.self.items
    c.in_ok-step.ensures.step c.in_ok-step.ensures.same
    (c.in_ok-extend_from_slice.ensures.items ∙ ap (λ bytes. c.args.player.now.output.items ++ bytes) c.printed.ensures)

pub returns-in_default-clause-ready : goal.returns-in_default-clause-ready
returns-in_default-clause-ready c =
    ready_on c.step.new.self c.in_ok-step.step c.args.player.now.end
    (none_known c.args.player.now.end (sym c.is_some.ensures ∙ c.if-is_some.false)) c.in_default.not-Done
    c.in_ok-step.ensures.mode c.in_ok-step.ensures.running

pub returns-in_default-clause-counted : goal.returns-in_default-clause-counted
returns-in_default-clause-counted c = omega (arith, c.in_ok-step.ensures.counted)
