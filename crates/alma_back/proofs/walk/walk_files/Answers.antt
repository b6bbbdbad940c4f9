use Rattle.std.proofs.lemmas.Result.{err_from_is_err_and}
use Rattle.alma_plan.specs.Refusals.{refusal_end}
use Rattle.alma_back.specs.Due.{program}
use Rattle.alma_back.proofs.Plans.{walk_files_read_to, walk_files_unread}
use Rattle.alma_back.proofs.walk.walk_files.Goals as goal

pub returns-in_err-lines : goal.returns-in_err-lines
returns-in_err-lines g c = λ files.
    let p = err_from_is_err_and c.from_residual.result c.from_residual.ensures.1 in
    rw (p.1, p.2) (walk_files_unread c.args.object.now files (g.I.Source.side c.args.input.now)
    (g.O.Sink.side c.args.out.now) c.args.script.now c.in_err-lines.field-0.0 c.in_err-lines.ensures.refused)

pub returns-in_err-walk_object : goal.returns-in_err-walk_object
returns-in_err-walk_object g c = λ files.
    let p = err_from_is_err_and c.from_residual-in_err-walk_object.result c.from_residual-in_err-walk_object.ensures.1 in
    rw (p.1, p.2) (walk_files_read_to c.args.object.now files (g.I.Source.side c.args.input.now) (g.O.Sink.side c.args.out.now)
    (g.I.Source.side c.walk_object.new.input) (g.O.Sink.side c.walk_object.new.out) (refusal_end program c.in_err-walk_object.field-0.0)
    c.args.script.now _ c.in_ok-lines.ensures.lines (rw c.deref.ensures.value at (c.in_err-walk_object.ensures files)))

pub returns : goal.returns
returns g c = λ files.
    walk_files_read_to c.args.object.now files (g.I.Source.side c.args.input.now) (g.O.Sink.side c.args.out.now)
    (g.I.Source.side c.walk_object.new.input) (g.O.Sink.side c.walk_object.new.out) _ c.args.script.now _ c.in_ok-lines.ensures.lines
    (rw c.deref.ensures.value at (c.in_ok-walk_object.ensures files))
