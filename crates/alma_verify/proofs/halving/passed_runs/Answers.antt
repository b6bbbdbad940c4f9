use Rattle.std.proofs.Common.{arith, ◌≡◌, ℕ, suc, ◌+◌, ◌-◌, ◌<◌, ◌≤◌, ◌/◌, List, length, get_or, ap, subst}
use Rattle.alma_code.specs.declared.head.Run.{Run}
use Rattle.alma_code.specs.Rules.{last_end}
use Rattle.alma_verify.specs.Runs.{begin_from, no_run}
use Rattle.alma_verify.proofs.SlotRuns.{read_is, begin_next, passes_all, few_runs, early_begin, late_end}
use Rattle.alma_verify.proofs.halving.passed_runs.Goals as goal

pub returns-then-slot-end : goal.returns-then-slot-end
returns-then-slot-end g c =
    let runs : List Run = (g.H.Head.head c.args.head.now).runs in
    let le : last_end 0 runs ≤ c.args.slot = omega arith in
    passes_all runs c.args.slot c.run_count-count.result c.run_count-count.ensures le

pub halve-init : goal.halve-init
halve-init g c =
    let runs : List Run = (g.H.Head.head c.args.head.now).runs in
    let few : length runs ≤ last_end 0 runs = few_runs runs c.requires.rise in
    let lt : c.args.slot < last_end 0 runs = omega arith in
    let low : c.earliest-low.result ≡ (c.args.slot + length runs) - last_end 0 runs = omega arith in
    record {
      order = omega (arith, few, lt, low);
      top = omega arith;
      count = c.run_count-count.ensures;
      from = early_begin runs c.args.slot c.earliest-low.result c.requires.rise lt low;
      below = λ less. late_end runs c.args.slot c.latest-high.result c.requires.rise (omega (arith, less)) less;
    }

pub halve-preserved-then-slot-from : goal.halve-preserved-then-slot-from
halve-preserved-then-slot-from g c =
    let runs : List Run = (g.H.Head.head c.args.head.now).runs in
    let i : ℕ = c.halve.low + (c.halve.high - c.halve.low) / 2 in
    let e = read_is runs i c.run.result c.run.ensures in
    record {
      order = omega arith;
      top = omega arith;
      count = c.halve.invariant.count;
      from = c.halve.invariant.from;
      below = λ less. omega (arith, ap (λ (r : Run). r.end) e);
    }

pub halve-preserved : goal.halve-preserved
halve-preserved g c =
    let runs : List Run = (g.H.Head.head c.args.head.now).runs in
    let i : ℕ = c.halve.low + (c.halve.high - c.halve.low) / 2 in
    let lt : i < length runs = omega arith in
    let e = read_is runs i c.run.result c.run.ensures in
    let n : suc i ≡ i + 1 = omega arith in
    let b : begin_from 0 runs (suc i) ≡ (get_or runs i no_run).end = begin_next 0 runs i lt in
    let from : begin_from 0 runs (i + 1) ≤ c.args.slot =
    subst (λ k. begin_from 0 runs k ≤ c.args.slot) n (omega (arith, ap (λ (r : Run). r.end) e)) in
    record { order = omega arith; top = omega arith; count = c.halve.invariant.count; from = from; below = c.halve.invariant.below }

pub returns : goal.returns
returns g c =
    let runs : List Run = (g.H.Head.head c.args.head.now).runs in
    let same : c.halve.high ≡ c.halve.low = omega arith in
    record {
      most = omega arith;
      before = c.halve.invariant.from;
      behind = λ less. subst (λ k. c.args.slot < (get_or runs k no_run).end) same (c.halve.invariant.below (omega (arith, less)));
    }
