use Rattle.std.proofs.Common.{◌<◌, ◌+◌, slice_index, arith}
use Rattle.alma_object_format.specs.Bytes.{u32_at, i64_at}
use Rattle.alma_object_format.specs.Instrs.{instr_at as instr_there, instrs_with}
use Rattle.alma_code.specs.declared.instr.Instr.TheVariants as I
use Rattle.alma_object_format.proofs.Records.{at_no_form}
use Rattle.alma_object_format.proofs.instr.instr_at.Goals as goal

pub returns-in_default-2 : goal.returns-in_default-2
unfolding instr_there
returns-in_default-2 c =
    let far : 0 < slice_index c.args.bytes.now c.args.at → 52 < slice_index c.args.bytes.now c.args.at = λ lt. omega arith in
    at_no_form I.Fail (instrs_with (u32_at c.args.bytes.now (c.args.at + 1)) (u32_at c.args.bytes.now (c.args.at + 5))
    (u32_at c.args.bytes.now (c.args.at + 9)) (u32_at c.args.bytes.now (c.args.at + 13)) (i64_at c.args.bytes.now (c.args.at + 5)))
    (slice_index c.args.bytes.now c.args.at) far
