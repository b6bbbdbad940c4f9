use Rattle.std.proofs.Common.{arith, sym, ap, ◌∙◌}
use Rattle.std.specs.Prelude.{not}
use Rattle.alma_ir.specs.View.{expr_of}
use Rattle.alma_ir.proofs.Views
use Rattle.alma_lower_templates.specs.Slots.{ends_alone}
use Rattle.alma_lower_work.proofs.Alone.{operator, ends_not}
use Rattle.alma_lower_work.proofs.straight.ends_alone.Goals as goal

pub returns-in-Const : goal.returns-in-Const
returns-in-Const c = sym (ap (λ e. ends_alone (expr_of e)) c.in-Const.is ∙ ap ends_alone (Views.const_view _))

pub returns-in-Load : goal.returns-in-Load
returns-in-Load c = ap not c.is_own.ensures ∙ sym (ap (λ e. ends_alone (expr_of e)) c.in-Load.is ∙ ap ends_alone (Views.load_view _))

pub returns-in-Chain : goal.returns-in-Chain
returns-in-Chain c = operator _ _ _ (omega (arith, c.in-Chain.links.ok)) c.is_empty.ensures
    ∙ sym (ap (λ e. ends_alone (expr_of e)) c.in-Chain.is ∙ ap ends_alone (Views.chain_view _ _ _))

pub returns-in-Compare : goal.returns-in-Compare
returns-in-Compare c = ends_not _ c.in-Compare.is

pub returns-in-Compare-2 : goal.returns-in-Compare-2
returns-in-Compare-2 c = ends_not _ c.in-Compare.is

pub returns-in-Compare-3 : goal.returns-in-Compare-3
returns-in-Compare-3 c = ends_not _ c.in-Compare.is

pub returns-in-Compare-4 : goal.returns-in-Compare-4
returns-in-Compare-4 c = ends_not _ c.in-Compare.is

pub returns-in-Compare-5 : goal.returns-in-Compare-5
returns-in-Compare-5 c = ends_not _ c.in-Compare.is
