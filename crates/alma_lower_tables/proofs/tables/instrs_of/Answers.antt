use Rattle.std.proofs.Common.{◌≡◌, ◌∙◌, ap, map, take, length, arith}
use Rattle.std.proofs.Math.Seq.{take-length}
use Rattle.alma_lower_tables.proofs.TableLemmas.{instrs_pairs}
use Rattle.alma_lower_tables.proofs.tables.instrs_of.Goals as goal

pub returns : goal.returns
returns c =
    let l = c.loop-one in
    let whole : l.one-index ≡ length c.args.placed.now = omega (arith, c.loop-one-test.false, l.auto.one-index-end) in
    l.invariant ∙ ap (λ n. map (λ x. x.0) (take n c.args.placed.now)) whole ∙ ap (map (λ x. x.0)) (take-length c.args.placed.now)
    ∙ instrs_pairs c.args.placed.now
