use Rattle.std.proofs.Common.{sym, ◌∙◌}
use Rattle.alma_machine_acts.proofs.Entries.{forall_found}
use Rattle.alma_machine_acts.proofs.choices.lay_over.Goals as goal

pub overlay-requires : goal.overlay-requires
overlay-requires g c =
    forall_found (g.M.MachineMemory.picture c.reserve.new.self).held c.args.height (sym c.has_forall.ensures ∙ c.if-has_forall.true)
