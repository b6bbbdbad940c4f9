use Rattle.std.proofs.Common.{◌≡◌, ◌∙◌, ap, sym}
use Rattle.alma_code.specs.Picture.{no_frame, frame_with, frames_with_cell}
use Rattle.std.proofs.Common.{set, get_or}
use Rattle.std.proofs.lemmas.List.{length-set, get_or_read}
use Rattle.alma_back_tape.proofs.Lives.{live-written}
use Rattle.alma_back_tape.proofs.frames.Frames.write.Goals as goal

pub invariant_of-self : goal.invariant_of-self
invariant_of-self c =
    let fs = c.self.inside.list.items in
    let lt = rw (← c.self.view_is) at c.requires.live in
    let read : c.index_mut-changed.result.now ≡ get_or fs c.args.place.frame no_frame =
    get_or_read fs c.args.place.frame c.index_mut-changed.result.now lt c.index_mut-changed.ensures.value no_frame in
    let put : set fs c.args.place.frame c.write.new.self ≡ frames_with_cell fs c.args.place.frame c.args.place.slot c.args.cell =
    ap (set fs c.args.place.frame) (c.write.ensures ∙ ap (λ g. frame_with g c.args.place.slot c.args.cell) read) in
    let live = live-written fs (set fs c.args.place.frame c.write.new.self) c.args.place.frame c.args.place.slot c.args.cell put in
    record {
      room = c.self.invariant.room;
      few = rw (length-set fs c.args.place.frame c.write.new.self) c.self.invariant.few;
      declared = c.self.invariant.declared ∙ sym live;
      limit = rw live c.self.invariant.limit;
    }
