use Rattle.std.proofs.Common.{ap, ◌∙◌}
use Rattle.alma_rules.specs.Scene.{is_structured}
use Rattle.alma_rules.specs.Decls as rules
use Rattle.alma_rules.specs.View as view
use Rattle.alma_check_block.proofs.Texts.{ok_eq}
use Rattle.alma_check_block.proofs.Frames.{let_in, left_out, more_cells, param_scene}
use Rattle.alma_check_block.proofs.formal.take_param.Goals as goal

pub returns-then-fits : goal.returns-then-fits
returns-then-fits c f h =
    let_in _ _ _ _ (view.view_name c.args.name.now) f
    (rules.with_param f (view.view_name c.args.name.now) c.args.from c.args.mode c.args.shape
    (rules.param_kind (is_structured f.scene c.args.shape) c.args.mode))
    c.fits.ensures c.if-fits.true
    (more_cells (rules.declared_cells c.args.mode) c.args.reader.now c.args.frame.now f c.env.result.now c.declared_cells.result
    c.args.shape h c.env.ensures (c.declared_cells.ensures ∙ ap (rules.declared_cells c.args.mode) c.cells.ensures))
    (c.push_param.ensures f h)

pub returns : goal.returns
returns c f h =
    left_out c.declare.result c.declare.new.self c.refuse.new.self _ _ (view.view_name c.args.name.now) f
    (rules.with_param f (view.view_name c.args.name.now) c.args.from c.args.mode c.args.shape
    (rules.param_kind (is_structured f.scene c.args.shape) c.args.mode))
    (λ u. c.refuse.ensures c.args.reader.now u f h) c.fits.ensures c.if-fits.false
    (more_cells (rules.declared_cells c.args.mode) c.args.reader.now c.args.frame.now f c.env.result.now c.declared_cells.result
    c.args.shape h c.env.ensures (c.declared_cells.ensures ∙ ap (rules.declared_cells c.args.mode) c.cells.ensures))
    (ok_eq _ _ _ _ (param_scene c.args.reader.now c.args.frame.now f (view.view_name c.args.name.now) c.args.from c.args.mode
    c.args.shape c.param_access-access.result h c.param_access-access.ensures) c.declare.ensures)
