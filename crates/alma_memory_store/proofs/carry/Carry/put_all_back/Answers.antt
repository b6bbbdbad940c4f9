use Rattle.std.proofs.Common.{◌≡◌, ◌<◌, ◌∙◌, ap, sym, get_or, length, arith, []}
use Rattle.std.proofs.lemmas.List.{nil_from_length}
use Rattle.alma_memory_store.specs.Carries.{put_back, all_put_back}
use Rattle.alma_memory_store.proofs.Rising.{put-last, none-back, no_change}
use Rattle.alma_memory_store.proofs.carry.Carry.put_all_back.Goals as goal

pub loop-cell-preserved : goal.loop-cell-preserved
loop-cell-preserved c =
    let xs = c.args.changes.now in
    let n : c.len.result ≡ length c.pop.new.self.items = c.len.ensures ∙ c.pop.new.self.ok.0 in
    let lt : length c.pop.new.self.items < length xs = omega (arith, n, c.in-Some.ensures.len, c.loop-cell.invariant.1, c.len.ensures) in
    let put : c.put_back.new.self ≡ put_back (get_or xs (length c.pop.new.self.items) no_change).0 c.in-Some.cell c.loop-cell.self =
    c.put_back.ensures ∙ ap (λ k. put_back (get_or xs k no_change).0 c.in-Some.cell c.loop-cell.self) n in (
      ap (all_put_back xs c.pop.new.self.items) put
          ∙ (sym (put-last xs c.pop.new.self.items c.in-Some.cell c.loop-cell.self lt)
          ∙ (ap (λ os. all_put_back xs os c.loop-cell.self) (sym c.in-Some.ensures.items) ∙ c.loop-cell.invariant.0)),
      omega (arith, c.in-Some.ensures.len, c.loop-cell.invariant.1),
    )

pub returns : goal.returns
returns c =
    let n : length c.loop-cell.had.items ≡ 0 = sym c.loop-cell.had.ok.0 ∙ c.in_default.ensures.cases.0 in
    let none : c.loop-cell.had.items ≡ [] = nil_from_length c.loop-cell.had.items n in
    sym (none-back c.args.changes.now c.loop-cell.self)
    ∙ (ap (λ os. all_put_back c.args.changes.now os c.loop-cell.self) (sym none) ∙ c.loop-cell.invariant.0)
