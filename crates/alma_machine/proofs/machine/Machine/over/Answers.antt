use Rattle.alma_verify.specs.Verified.{code_of_verified}
use Rattle.alma_machine.proofs.Stepping.{stands_first}
use Rattle.alma_machine.proofs.machine.Machine.over.Goals as goal

pub invariant_of-result : goal.invariant_of-result
invariant_of-result c = (
  c.requires.lawful,
  λ running. stands_first (code_of_verified c.args.code) c.args.memory.now c.args.memory.held c.keeps_sound.ensures
      c.requires.now c.requires.held,
)
