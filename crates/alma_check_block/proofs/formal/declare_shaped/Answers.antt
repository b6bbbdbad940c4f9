use Rattle.std.proofs.Common.{Some}
use Rattle.alma_rules.specs.View as view
use Rattle.alma_check_block.specs.Shown.{param_shaped}
use Rattle.alma_check_block.proofs.Frames.{formal_pushed}
use Rattle.alma_check_block.proofs.formal.declare_shaped.Goals as goal

pub returns : goal.returns
returns c f h =
    formal_pushed c.place_param.new.reader c.place_param.new.frame c.push.new.self
    (Some (record { mode = c.args.mode; shape = c.args.shape }))
    (param_shaped f c.args.from c.args.mode c.args.shape (view.view_name c.args.name.now))
    (c.in_ok-place_param.ensures f h) c.in_ok-push.ensures.items
