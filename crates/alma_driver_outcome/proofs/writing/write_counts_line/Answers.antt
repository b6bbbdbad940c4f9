use Rattle.std.proofs.Common.{List, ℕ, subst}
use Rattle.alma_io.specs.Outside.{Writes}
use Rattle.alma_driver_outcome.proofs.ReportLemmas.{counts_parts}
use Rattle.alma_driver_outcome.proofs.writing.write_counts_line.Goals as goal

pub returns : goal.returns
returns g c =
    let same = counts_parts _ c.args.steps.now _ c.args.choices.now _ c.args.fails.now _ c.as_slice-first.ensures c.as_slice-second.ensures
    c.as_slice-third.ensures c.as_slice-end.ensures in
    subst (λ (bytes : List ℕ). Writes (g.E.Sink.side c.args.err.now) (g.E.Sink.side c.write_text.new.err) bytes c.write_text.result) same
    c.write_text.ensures
