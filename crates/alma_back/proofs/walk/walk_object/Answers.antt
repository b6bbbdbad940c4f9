use Rattle.std.proofs.lemmas.Result.{err_from_is_err_and}
use Rattle.alma_plan.specs.Refusals.{stop_end}
use Rattle.alma_verify.specs.Verified.{code_of_verified}
use Rattle.alma_back.specs.Due.{program}
use Rattle.alma_back.specs.Inner.{lines_of}
use Rattle.alma_back.proofs.Plans.{walked_opened_to, walked_refused}
use Rattle.alma_back.proofs.walk.walk_object.Goals as goal

pub returns-in_err-code : goal.returns-in_err-code
returns-in_err-code g c = λ files.
    let p = err_from_is_err_and c.from_residual.result c.from_residual.ensures.1 in
    rw (p.1, p.2) (walked_refused c.args.object.now files (g.I.Source.side c.args.input.now) (g.O.Sink.side c.args.out.now)
    (lines_of c.args.lines.now) c.in_err-code.field-0.0 (c.in_err-code.ensures.refused program))

pub returns-in_err-walk : goal.returns-in_err-walk
returns-in_err-walk g c = λ files.
    let p = err_from_is_err_and c.from_residual-in_err-walk.result c.from_residual-in_err-walk.ensures.1 in
    rw (p.1, p.2) (walked_opened_to c.args.object.now files (g.I.Source.side c.args.input.now) (g.O.Sink.side c.args.out.now)
    (g.I.Source.side c.walk.new.input) (g.O.Sink.side c.walk.new.out) (stop_end program c.in_err-walk.field-0.0)
    (code_of_verified c.in_ok-code.code) (lines_of c.args.lines.now) (c.in_ok-code.ensures.sound program) c.in_ok-code.ensures.code
    (c.in_err-walk.ensures files))

pub returns : goal.returns
returns g c = λ files.
    walked_opened_to c.args.object.now files (g.I.Source.side c.args.input.now) (g.O.Sink.side c.args.out.now)
    (g.I.Source.side c.walk.new.input) (g.O.Sink.side c.walk.new.out) _ (code_of_verified c.in_ok-code.code) (lines_of c.args.lines.now)
    (c.in_ok-code.ensures.sound program) c.in_ok-code.ensures.code (c.in_ok-walk.ensures files)
