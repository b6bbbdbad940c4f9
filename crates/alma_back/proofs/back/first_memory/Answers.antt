use Rattle.std.proofs.Common.{ap, sym, subst, arith}
use Rattle.alma_code.specs.Head.{PlainHead}
use Rattle.alma_code.specs.Layout.{IsHead}
use Rattle.alma_verify.specs.Verified.{code_of_verified}
use Rattle.alma_machine.proofs.Counting.{few_declared, some_slots}
use Rattle.alma_machine.proofs.Needing.{head_is}
use Rattle.alma_back.proofs.back.first_memory.Goals as goal

pub new-requires-clause-head : goal.new-requires-clause-head
new-requires-clause-head c =
    let code = code_of_verified c.args.code.now in
    subst IsHead (sym c.main_head-head.ensures) (head_is code c.keeps_sound.ensures 0 c.keeps_sound.ensures.table.some)

pub new-requires-clause-some : goal.new-requires-clause-some
new-requires-clause-some c =
    let code = code_of_verified c.args.code.now in
    omega (arith, ap (λ (h : PlainHead). h.slots) c.main_head-head.ensures, some_slots code c.keeps_sound.ensures)

pub new-requires-clause-few : goal.new-requires-clause-few
new-requires-clause-few c =
    let code = code_of_verified c.args.code.now in
    omega (
      arith,
      ap (λ (h : PlainHead). h.declared) c.main_head-head.ensures,
      few_declared code c.keeps_sound.ensures 0 c.keeps_sound.ensures.table.some,
    )
