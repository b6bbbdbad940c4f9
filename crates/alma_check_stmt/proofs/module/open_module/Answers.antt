use Rattle.std.proofs.Common.{[], ◌∙◌, ap}
use Rattle.alma_rules.specs.Scene.{Scene, nothing}
use Rattle.alma_rules.specs.Decls.{with_block}
use Rattle.alma_rules.specs.View as view
use Rattle.alma_check_stmt.proofs.module.open_module.Goals as goal

pub returns : goal.returns
returns c =
    c.in_ok-open_block.ensures.opened ∙ ap (λ (s : Scene). with_block s 0 nothing [] (view.view_block c.args.module.now.block))
    c.in_ok-reader.ensures
