use Rattle.std.proofs.Common.{length, refl, ap, ◌∙◌, arith}
use Rattle.alma_code.specs.Layout.{kinds_of}
use Rattle.alma_memory_store.proofs.Layouts.{args-fit, head-kinds}
use Rattle.alma_memory_store.proofs.image.lay_call.Goals as goal

pub lay-requires-clause-fit : goal.lay-requires-clause-fit
lay-requires-clause-fit g c =
    let h = g.H.Head.head c.args.head.now in
    let fit = args-fit (g.F.LiveFrames.live c.args.frames.now) h c.args.args.now c.requires.head c.requires.whole c.requires.args in
    let args = ap length (c.as_slice.ensures.value ∙ c.in_ok-push_args.ensures) in
    let kinds = head-kinds h (kinds_of 0 h.runs) c.requires.head refl in
    omega (arith, fit, args, kinds)
