use Rattle.std.proofs.Common.{◌++◌, ap, ◌∙◌, arith}
use Rattle.std.specs.Prelude.{codes}
use Rattle.alma_ir.specs.Tree.{ForTo}
use Rattle.alma_ir.proofs.Views
use Rattle.alma_listing.proofs.Built.{no_cells_written, cells_written}
use Rattle.alma_listing.proofs.procedure.write_global.Goals as goal

pub returns-in_ok-push-2 : goal.returns-in_ok-push-2
returns-in_ok-push-2 c =
    cells_written c.args.global.now _ _ _ _ _ _ _ _ (omega (arith, c.if-global-gt0.true)) c.in_ok-push.ensures.items
    c.in_ok-push-2.ensures.items
    (Views.writetext_view _) (c.in_ok-name_text.ensures ∙ ap (λ name. c.args.before.now ++ name ++ codes "=") c.deref.ensures.value)
    (Views.forto_view _ ∙ ap ForTo c.in_ok-cells_loop.ensures)

pub returns-else-global-gt0 : goal.returns-else-global-gt0
returns-else-global-gt0 c =
    no_cells_written c.args.global.now _ _ _ _ _ (omega (arith, c.if-global-gt0.false)) c.in_ok-push.ensures.items (Views.writetext_view _)
    (c.in_ok-name_text.ensures ∙ ap (λ name. c.args.before.now ++ name ++ codes "=") c.deref.ensures.value)
