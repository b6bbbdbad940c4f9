use Rattle.alma_rules.specs.Decls as rules
use Rattle.alma_rules.specs.View as view
use Rattle.alma_check_block.proofs.Texts.{ok_eq}
use Rattle.alma_check_block.proofs.Frames.{let_in, left_out, more_cells, variable_scene}
use Rattle.alma_check_block.proofs.variable.place_variable.Goals as goal

pub returns-then-fits : goal.returns-then-fits
returns-then-fits c f h =
    let_in _ _ _ _ (view.view_name c.args.name.now) f (rules.with_variable f (view.view_name c.args.name.now) c.args.from c.args.shape)
    c.fits.ensures c.if-fits.true
    (more_cells (λ n. n) c.args.reader.now c.args.frame.now f c.env.result.now c.cells.result c.args.shape h c.env.ensures c.cells.ensures)
    (c.push_variable.ensures f h)

pub returns : goal.returns
returns c f h =
    left_out c.declare.result c.declare.new.self c.refuse.new.self _ _ (view.view_name c.args.name.now) f
    (rules.with_variable f (view.view_name c.args.name.now) c.args.from c.args.shape)
    (λ u. c.refuse.ensures c.args.reader.now u f h) c.fits.ensures c.if-fits.false
    (more_cells (λ n. n) c.args.reader.now c.args.frame.now f c.env.result.now c.cells.result c.args.shape h c.env.ensures c.cells.ensures)
    (ok_eq _ _ _ _ (variable_scene c.args.reader.now c.args.frame.now f (view.view_name c.args.name.now) c.args.from c.args.shape
    c.variable_access-access.result h c.variable_access-access.ensures) c.declare.ensures)
