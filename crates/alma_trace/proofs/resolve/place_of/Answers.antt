use Rattle.std.proofs.Common.{◌∙◌, sym}
use Rattle.alma_object.specs.View.{code_of_view, global_of_view}
use Rattle.alma_trace.proofs.Resolving.{found, passed}
use Rattle.alma_trace.proofs.resolve.place_of.Goals as goal

pub returns-then-is_same : goal.returns-then-is_same
returns-then-is_same c =
    sym
    (c.loop-i.invariant
    ∙ found (code_of_view c.args.view.now).globals c.loop-i.i (global_of_view c.in-Some.global) c.args.name.now (sym c.in-Some.ensures)
    (sym c.is_same.ensures ∙ c.if-is_same.true))

pub loop-i-preserved : goal.loop-i-preserved
loop-i-preserved c =
    c.loop-i.invariant
    ∙ passed (code_of_view c.args.view.now).globals c.loop-i.i (global_of_view c.in-Some.global) c.args.name.now (sym c.in-Some.ensures)
    (sym c.is_same.ensures ∙ c.if-is_same.false)
