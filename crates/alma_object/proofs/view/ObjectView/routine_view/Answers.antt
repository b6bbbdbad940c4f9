use Rattle.std.proofs.Common.{◌∙◌, arith}
use Rattle.alma_object_format.proofs.Kept.{routine_seen}
use Rattle.alma_object.proofs.Views.{code_start_is}
use Rattle.alma_object.proofs.view.ObjectView.routine_view.Goals as goal

pub overflow_sub-result : goal.overflow_sub-result
overflow_sub-result c =
    let seen = routine_seen c.args.self.now.bytes.now c.args.self.now.header c.args.self.now.none c.args.i c.requires in
    omega (arith, seen.params.low)

pub overflow_sub-result-2 : goal.overflow_sub-result-2
overflow_sub-result-2 c =
    let seen = routine_seen c.args.self.now.bytes.now c.args.self.now.header c.args.self.now.none c.args.i c.requires in
    omega (arith, seen.runs.low)

pub invariant_of-result : goal.invariant_of-result
invariant_of-result c =
    let seen = routine_seen c.args.self.now.bytes.now c.args.self.now.header c.args.self.now.none c.args.i c.requires in
    record {
      params = omega (arith, seen.params.low, seen.params.high, c.args.self.now.whole);
      runs =
          omega (arith, seen.runs.low, seen.runs.high, c.args.self.now.whole);
    }

pub returns-clause-start : goal.returns-clause-start
returns-clause-start c = c.code_start.ensures ∙ code_start_is c.args.self.now.bytes.now c.args.self.now.header c.args.i (omega arith)
