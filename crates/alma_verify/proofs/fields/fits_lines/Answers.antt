use Rattle.std.proofs.Common.{◌<◌, ◌^◌}
use Rattle.alma_code.specs.declared.code.Line.{Line}
use Rattle.alma_verify.proofs.Fitting.{all_more, all_done}
use Rattle.alma_verify.proofs.fields.fits_lines.Goals as goal

pub loop-line-preserved : goal.loop-line-preserved
loop-line-preserved c = all_more (λ (x : Line). x.line < 2 ^ 32) c.args.lines.now c.loop-line.line-index _ c.loop-line-test.true
    c.loop-line.invariant c.fits_line.ensures

pub returns : goal.returns
returns c = all_done (λ (x : Line). x.line < 2 ^ 32) c.args.lines.now c.loop-line.line-index c.loop-line-test.false c.loop-line.invariant
