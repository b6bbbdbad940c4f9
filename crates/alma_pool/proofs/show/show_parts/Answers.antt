use Rattle.std.proofs.Common.{◌∙◌, List, ℕ, subst}
use Rattle.alma_io.specs.Outside.{Writes}
use Rattle.alma_pool.proofs.Showing.{lines_parts}
use Rattle.alma_pool.proofs.show.show_parts.Goals as goal

pub returns : goal.returns
returns g c =
    let same = lines_parts _ _ _ c.args.word.now c.args.fault.now _ _ _ c.args.output.now c.args.number c.as_slice-first.ensures
    (c.as_bytes-number.ensures.value ∙ c.format.ensures.text) c.as_slice-space.ensures c.as_slice-bytes.ensures
    (c.as_bytes-count.ensures.value ∙ c.format-2.ensures.text) c.as_slice-end.ensures in
    subst (λ (bytes : List ℕ). Writes (g.O.Sink.side c.args.out.now) (g.O.Sink.side c.write_parts.new.sink) bytes c.write_parts.result) same
    c.write_parts.ensures
