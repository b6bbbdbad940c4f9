use Rattle.std.proofs.Common.{sym, ap, ◌∙◌}
use Rattle.alma_ir.specs.View.{expr_of}
use Rattle.alma_ir.proofs.Views
use Rattle.alma_lower_templates.specs.Slots.{is_ready}
use Rattle.alma_lower_work.proofs.Ready.{not_ready}
use Rattle.alma_lower_work.proofs.first_operand.is_ready.Goals as goal

pub returns-in-Const : goal.returns-in-Const
returns-in-Const c = sym (ap (λ e. is_ready (expr_of e)) c.in-Const.is ∙ ap is_ready (Views.const_view _))

pub returns-in-Load : goal.returns-in-Load
returns-in-Load c = c.is_own.ensures ∙ sym (ap (λ e. is_ready (expr_of e)) c.in-Load.is ∙ ap is_ready (Views.load_view _))

pub returns-in-Chain : goal.returns-in-Chain
returns-in-Chain c = not_ready _ c.in-Chain.is

pub returns-in-Chain-2 : goal.returns-in-Chain-2
returns-in-Chain-2 c = not_ready _ c.in-Chain.is

pub returns-in-Chain-3 : goal.returns-in-Chain-3
returns-in-Chain-3 c = not_ready _ c.in-Chain.is

pub returns-in-Chain-4 : goal.returns-in-Chain-4
returns-in-Chain-4 c = not_ready _ c.in-Chain.is

pub returns-in-Chain-5 : goal.returns-in-Chain-5
returns-in-Chain-5 c = not_ready _ c.in-Chain.is

pub returns-in-Chain-6 : goal.returns-in-Chain-6
returns-in-Chain-6 c = not_ready _ c.in-Chain.is
