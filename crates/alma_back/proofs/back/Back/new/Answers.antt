use Rattle.std.proofs.Common.{subst, sym, length, List}
use Rattle.alma_memory.specs.Machine.{MachinePicture}
use Rattle.alma_machine_acts.specs.declared.registers.Mode.{Mode}
use Rattle.alma_machine_acts.specs.declared.registers.Registers.{Registers}
use Rattle.alma_machine.proofs.Stepping.{first_is}
use Rattle.alma_verify.specs.Verified.{code_of_verified}
use Rattle.alma_back.specs.declared.back.Old.{Old}
use Rattle.alma_back.specs.Kept.{Keeps}
use Rattle.alma_back.proofs.Keeping.{keeps_start}
use Rattle.alma_back.proofs.back.Back.new.Goals as goal

pub invariant_of-result : goal.invariant_of-result
invariant_of-result c =
    let code = code_of_verified c.args.code in
    let registers : Registers MachinePicture = record {
      alloc = c.args.alloc;
      at = 0;
      last = 0;
      mode = Mode.Going;
      memory = c.in_ok-memory.memory;
      args = c.new.result;
      steps = 0;
      choices = 0;
      fails = 0;
    } in (
      c.requires,
      subst (λ (olds : List Old). Keeps code c.args.input.now (length olds) registers olds 0) (sym c.new-2.ensures.items)
          (keeps_start code c.args.input.now registers c.keeps_sound.ensures
          (first_is code _ _ c.in_ok-memory.ensures.now c.in_ok-memory.ensures.held)
          c.in_ok-memory.ensures.past),
    )
