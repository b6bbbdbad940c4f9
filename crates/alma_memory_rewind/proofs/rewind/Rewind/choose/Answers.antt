use Rattle.std.proofs.Common.{◌≡◌, ◌≤◌, ◌+◌, ◌++◌, ◌∷◌, [], length, sym, ap, refl, ◌∙◌, arith}
use Rattle.std.proofs.lemmas.Grind.{common_steps}
use Rattle.alma_memory_rewind.specs.declared.rewind.Mark.{Mark}
use Rattle.alma_memory_rewind.specs.PlainRewind.{PlainRewind, needed}
use Rattle.alma_memory_rewind.specs.Trail.{held_of, last_mark}
use Rattle.alma_memory_rewind.proofs.Trails.{needed-top}
use Rattle.alma_memory_rewind.proofs.Changes.{choose-sound}
use Rattle.alma_memory_rewind.proofs.rewind.Rewind.choose.Goals as goal

pub invariant_of-self-2 : goal.invariant_of-self-2
invariant_of-self-2 g c =
    let xs = c.self.inside.items.items in
    let marks = c.room_for_serial-self-inside.new.marks.items in
    let trail = c.room_for_serial-self-inside.new.trail.items in
    let stamps = c.room_for_serial-self-inside.new.stamps.items in
    let counter = c.room_for_serial-self-inside.result in
    let anew = c.room_for_serial-self-inside.ensures.keeps.keeps xs c.self.invariant.0 in
    let m : Mark = record { mark = c.len-2.result; top = c.args.top; serial = counter + 1 } in
    let pushed : c.push.new.self.items ≡ marks ++ m ∷ [] = grind (arith, common_steps) in
    let notes : c.len-2.result ≡ length trail = c.len-2.ensures ∙ c.room_for_serial-self-inside.new.trail.ok.0 in
    let e : needed (held_of trail xs marks) ≡ (last_mark marks).top = needed-top trail xs marks (length trail) anew.sound.rises in
    let v : needed (held_of trail xs marks) ≡ needed c.args.self.now.held =
    ap needed anew.held ∙ ap (λ (p : PlainRewind g.row.T.Denot). needed p.held) c.self.view_is in
    let low : (last_mark marks).top ≤ c.args.top = rw (sym e ∙ v) c.requires.low in
    let wide : length xs ≡ length c.args.self.now.now = ap (λ (p : PlainRewind g.row.T.Denot). length p.now) c.self.view_is in
    let high : c.args.top ≤ length xs = rw wide c.requires.high in
    ((choose-sound marks c.push.new.self.items m trail xs stamps counter pushed notes refl low high anew.sound).sound, c.self.invariant.1)
