use Rattle.std.proofs.Common.{arith, ◌≡◌, ℕ, ◌+◌, ◌-◌, ◌∙◌, ◌<◌, ◌≤◌, ap, sym}
use Rattle.std.specs.Prelude.{Bool, true, false, ◌&&◌}
use Rattle.std.specs.List.{list_all}
use Rattle.alma_lower_slots.specs.Inner.Checks.{matters_at}
use Rattle.alma_lower_slots.specs.Slots.{slots_from}
use Rattle.alma_lower_slots.proofs.CheckSteps.{slots_more, slots_none}
use Rattle.alma_lower_slots.proofs.matters.all_matter.Goals as goal

pub returns-then-not-matters : goal.returns-then-not-matters
returns-then-not-matters c =
    let p : ℕ → Bool = λ n. matters_at c.args.stretches.now c.args.at n in
    let i : ℕ = c.args.first + c.loop-k.k in
    let n : ℕ = c.args.count - c.loop-k.k in
    let lt : 0 < n = omega arith in
    let no : p i ≡ false = cc in
    sym (c.loop-k.invariant ∙ slots_more p n i lt ∙ ap (λ b. b && list_all p (slots_from (n - 1) (i + 1))) no)

pub loop-k-preserved : goal.loop-k-preserved
loop-k-preserved c =
    let p : ℕ → Bool = λ n. matters_at c.args.stretches.now c.args.at n in
    let i : ℕ = c.args.first + c.loop-k.k in
    let n : ℕ = c.args.count - c.loop-k.k in
    let lt : 0 < n = omega arith in
    let yes : p i ≡ true = cc in
    let a : n - 1 ≡ c.args.count - (c.loop-k.k + 1) = omega arith in
    let b : i + 1 ≡ c.args.first + (c.loop-k.k + 1) = omega arith in
    c.loop-k.invariant ∙ slots_more p n i lt ∙ ap (λ b. b && list_all p (slots_from (n - 1) (i + 1))) yes
    ∙ ap (λ m. list_all p (slots_from m (i + 1))) a ∙ ap (λ j. list_all p (slots_from (c.args.count - (c.loop-k.k + 1)) j)) b

pub returns : goal.returns
returns c =
    let p : ℕ → Bool = λ n. matters_at c.args.stretches.now c.args.at n in
    let le : c.args.count - c.loop-k.k ≤ 0 = omega arith in
    sym (c.loop-k.invariant ∙ slots_none p (c.args.count - c.loop-k.k) (c.args.first + c.loop-k.k) le)
