use Rattle.std.proofs.Common.{List, ℕ, subst}
use Rattle.alma_io.specs.Outside.{Writes}
use Rattle.alma_driver_serve.proofs.SampleLemmas.{summary_parts}
use Rattle.alma_driver_serve.proofs.sample.write_summary_line.Goals as goal

pub returns : goal.returns
returns g c =
    let same = summary_parts _ c.args.lines.now _ c.args.bytes.now _ c.args.printed.now _ c.args.status.now _ c.as_slice-first.ensures
    c.as_slice-second.ensures c.as_slice-third.ensures c.as_slice-fourth.ensures c.as_slice-end.ensures in
    subst (λ (bytes : List ℕ). Writes (g.O.Sink.side c.args.out.now) (g.O.Sink.side c.write_parts.new.sink) bytes c.write_parts.result) same
    c.write_parts.ensures
