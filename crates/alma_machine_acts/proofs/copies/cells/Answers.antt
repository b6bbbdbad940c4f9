use Rattle.std.proofs.Common.{◌∷◌, ◌++◌, [], ap, ◌∙◌}
use Rattle.alma_machine_acts.specs.Copies.{cells_from}
use Rattle.alma_machine_acts.proofs.Copying.{read_more}
use Rattle.alma_machine_acts.proofs.copies.cells.Goals as goal

pub loop-k-preserved : goal.loop-k-preserved
loop-k-preserved g c =
    let now = (g.M.MachineMemory.picture c.args.registers.now.memory).now in
    let f = c.args.from.frame in
    let i = c.args.from.slot in
    let k = c.loop-k.k in
    c.in_ok-push.ensures.items ∙ ap (λ xs. xs ++ (c.read.result ∷ [])) c.loop-k.invariant
    ∙ ap (λ x. cells_from now f i k ++ (x ∷ [])) c.read.ensures ∙ read_more now f i k

pub read-requires : goal.read-requires
read-requires g c =
    let h = c.requires.each c.loop-k.k c.loop-k-test.true in
    record { live = h.live; slot_of = h.below }
