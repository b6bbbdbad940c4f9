use Rattle.std.proofs.Common.{arith, ◌≡◌, ℕ, ◌+◌, ◌-◌, ◌∙◌, List, ap, Some}
use Rattle.std.specs.Prelude.{true}
use Rattle.alma_code.specs.declared.cell.SlotKind.{SlotKind}
use Rattle.alma_code.specs.Plain.{kinds_at}
use Rattle.alma_code.specs.Kinds.{numbers_from, is_number}
use Rattle.alma_code.proofs.Heads.{number_is}
use Rattle.alma_verify.proofs.SlotRuns.{numbers_skip}
use Rattle.alma_verify.proofs.slots.are_numbers.Goals as goal

pub walk-preserved : goal.walk-preserved
walk-preserved g c =
    let kinds : List SlotKind = kinds_at (g.R.CodeReader.code c.args.reader.now) c.args.routine in
    let at : ℕ = c.walk.at in
    let end : ℕ = c.args.first + c.from.result in
    let next : ℕ = c.from-at.result in
    let cover = c.in-Some.ensures in
    let ends : next ≡ c.in-Some.run'.end = c.from-at.ensures in
    let yes : is_number (Some c.in-Some.run'.kind) ≡ true = cc in
    let number = number_is (Some c.in-Some.run'.kind) yes in
    let skip = numbers_skip (next - at) (end - at) kinds at (λ k le lt. cover.kind k le (omega (arith, cover.within)) ∙ number) in
    let a : end - at - (next - at) ≡ end - next = omega (arith, cover.within) in
    let b : at + (next - at) ≡ next = omega (arith, cover.within) in
    record {
      end = omega (arith, c.walk.invariant.end);
      rest = c.walk.invariant.rest ∙ skip ∙ ap (λ m. numbers_from m kinds (at + (next - at))) a
          ∙ ap (λ i. numbers_from (end - next) kinds i) b;
    }
