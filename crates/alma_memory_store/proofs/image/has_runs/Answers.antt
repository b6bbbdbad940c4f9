use Rattle.std.proofs.Common.{◌<◌, arith, length, refl}
use Rattle.alma_code.specs.declared.cell.SlotKind.TheVariants.{Number}
use Rattle.alma_memory_store.proofs.Blanks.{same-more}
use Rattle.alma_memory_store.proofs.image.has_runs.Goals as goal

pub loop-i-preserved : goal.loop-i-preserved
loop-i-preserved g c =
    let l : c.loop-i.i < length c.args.runs.now = omega arith in
    same-more c.args.runs.now (g.H.Head.head c.args.head.now).runs (record { kind = Number; end = 0 }) c.run.result
    c.loop-i.i l c.run.ensures (c.if-not-is_same_run.ensures refl) c.loop-i.invariant
