-- An expression that is not the value of a variable stands in no slot.
use Rattle.alma_lower_work.proofs.Bare.{loaded, not_yet}
use Rattle.alma_lower_work.proofs.stand.own_value.Goals as goal

pub returns-in-Load : goal.returns-in-Load
returns-in-Load c = loaded _ _ _ _ c.in-Load.is c.own_stand.ensures

pub returns-in-Const : goal.returns-in-Const
returns-in-Const c = not_yet _ c.args.expr.now c.in-Const.is

pub returns-in-Const-2 : goal.returns-in-Const-2
returns-in-Const-2 c = not_yet _ c.args.expr.now c.in-Const.is

pub returns-in-Const-3 : goal.returns-in-Const-3
returns-in-Const-3 c = not_yet _ c.args.expr.now c.in-Const.is

pub returns-in-Const-4 : goal.returns-in-Const-4
returns-in-Const-4 c = not_yet _ c.args.expr.now c.in-Const.is

pub returns-in-Const-5 : goal.returns-in-Const-5
returns-in-Const-5 c = not_yet _ c.args.expr.now c.in-Const.is

pub returns-in-Const-6 : goal.returns-in-Const-6
returns-in-Const-6 c = not_yet _ c.args.expr.now c.in-Const.is

pub returns-in-Const-7 : goal.returns-in-Const-7
returns-in-Const-7 c = not_yet _ c.args.expr.now c.in-Const.is
