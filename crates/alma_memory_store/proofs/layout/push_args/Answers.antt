use Rattle.std.proofs.Common.{◌≡◌, ◌<◌, ◌∙◌, arith, length, get_or, ap}
use Rattle.alma_code.specs.Layout.{args_cells, no_param}
use Rattle.alma_code.specs.declared.head.CodeParam.{CodeParam}
use Rattle.alma_code.specs.declared.head.ParamKind.TheVariants.{Mix}
use Rattle.alma_memory_store.proofs.Layouts.{mix-room}
use Rattle.alma_memory_store.proofs.Indexed.{read-at}
use Rattle.alma_memory_store.proofs.layout.push_args.Goals as goal

pub push_arg-requires-clause-room : goal.push_arg-requires-clause-room
push_arg-requires-clause-room g c = λ m.
    let h = g.H.Head.head c.args.head.now in
    let l : c.loop-i.i < length h.params = omega arith in
    let k : (get_or h.params c.loop-i.i no_param).kind ≡ Mix =
    ap (λ (q : CodeParam). q.kind) (read-at c.param.result no_param h.params c.loop-i.i c.param.ensures) ∙ m in
    let room = mix-room (g.F.LiveFrames.live c.args.frames.now) h c.args.args.now c.loop-i.i c.requires.head c.requires.whole
    c.requires.args l k in
    let e : length c.loop-i.cells.items ≡ length (args_cells (g.F.LiveFrames.live c.args.frames.now) h.params c.args.args.now c.loop-i.i) =
    ap length c.loop-i.invariant in
    omega (arith, room, e, c.slots.ensures)
