use Rattle.std.proofs.Common.{arith}
use Rattle.alma_lower_slots.proofs.InMemory.{routine_span}
use Rattle.alma_lower_slots.proofs.routines.push_instrs.Goals as goal

pub slice_bounds-push_renamed-end : goal.slice_bounds-push_renamed-end
slice_bounds-push_renamed-end c =
    let span = routine_span c.args.code.now c.args.routine c.index.result.now c.requires.sound c.requires.exists c.index.ensures in
    omega (
      arith,
      span.0,
      span.1,
      c.requires.start,
      c.len-start.ensures,
      c.args.instrs.now.ok.0,
      c.deref.ensures.len,
      c.args.code.now.code.ok.0,
    )
