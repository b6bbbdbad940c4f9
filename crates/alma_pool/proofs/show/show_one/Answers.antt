use Rattle.std.proofs.Common.{◌+◌, List, ℕ, subst}
use Rattle.alma_io.specs.Outside.{Writes}
use Rattle.alma_pool.specs.Pool.{program_at}
use Rattle.alma_pool.proofs.Showing.{program_shown}
use Rattle.alma_pool.proofs.show.show_one.Goals as goal

pub returns : goal.returns
returns g c =
    let same = program_shown (c.args.k + 1) (program_at c.args.pool.now c.args.k) c.end-ended.result c.end_word.result.now
    c.fault_word.result.now c.output.result.now
    c.end-ended.ensures c.end_word.ensures c.fault_word.ensures c.output.ensures in
    subst (λ (bytes : List ℕ). Writes (g.O.Sink.side c.args.out.now) (g.O.Sink.side c.show_parts.new.out) bytes c.show_parts.result) same
    c.show_parts.ensures
