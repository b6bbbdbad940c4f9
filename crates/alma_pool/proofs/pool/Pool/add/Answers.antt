use Rattle.std.proofs.Common.{sym, ap}
use Rattle.std.proofs.lemmas.List.Elements.{All-push}
use Rattle.alma_pool.specs.declared.pool.Player.{Player}
use Rattle.alma_pool.specs.Pool.{ended_in}
use Rattle.alma_pool.specs.Ready.{IsReady}
use Rattle.alma_pool.proofs.pool.Pool.add.Goals as goal

pub invariant_of-self-2 : goal.invariant_of-self-2
invariant_of-self-2 c =
    rw c.in_ok-push.ensures.items (λ whole. All-push (λ (q : Player). IsReady q.machine q.end) c.self.inside.players.items _
    (c.self.invariant whole)
    (record {
      end_is = sym (ap (λ m. ended_in m.state.mode) c.in_ok-machine.ensures);
      running =
          λ _. ap (λ m. m.running) c.in_ok-machine.ensures;
    }))
