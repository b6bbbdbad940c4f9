-- How deep the parts of a phrase are: less deep than the phrase.
use Rattle.std.proofs.Common.{◌<◌, ◌≡◌, Box, Global, Some, ap, arith}
use denote.Param.Weighed.{most}
use Rattle.alma_tree.specs.declared.phrase.Arm.TheViews as views
use Rattle.alma_tree.specs.declared.phrase.Stmts as ds
use Rattle.alma_tree.specs.declared.phrase.Stmt as dt
use Rattle.alma_tree.specs.declared.phrase.Expr as de
use Rattle.alma_tree.specs.declared.phrase.Compared as dc
use Rattle.alma_tree.specs.declared.phrase.Simple as di
use Rattle.alma_tree.specs.declared.phrase.AddLink as dk
use Rattle.alma_tree.specs.declared.phrase.Term as dm
use Rattle.alma_tree.specs.declared.phrase.MulLink as dn
use Rattle.alma_tree.specs.declared.phrase.Factor as dr
use Rattle.alma_tree.specs.declared.phrase.Args as dg
use Rattle.alma_tree.specs.declared.phrase.Exprs as dx
use Rattle.alma_tree.specs.declared.phrase.Desig as dd
use Rattle.alma_tree.specs.declared.phrase.Selector as dj

pub expr_left : (e : de.Expr) → di.size-Simple (de.out-Expr e).left < de.size-Expr e
expr_left e = omega (arith, views.size_roll-Expr (de.out-Expr e), ap de.size-Expr (views.roll-out-Expr e))

pub compared_right : (c : dc.Compared) → di.size-Simple (dc.out-Compared c).right < dc.size-Compared c
compared_right c = omega (arith, views.size_roll-Compared (dc.out-Compared c), ap dc.size-Compared (views.roll-out-Compared c))

pub expr_right : (e : de.Expr) (c : Box dc.Compared Global) → (de.out-Expr e).right ≡ Some c
    → di.size-Simple (dc.out-Compared c.value).right < de.size-Expr e
expr_right e c h = omega (
  arith,
  compared_right c.value,
  rw h at (views.size_roll-Expr (de.out-Expr e)),
  ap de.size-Expr (rw h at (views.roll-out-Expr e)),
)

pub simple_first : (s : di.Simple) → dm.size-Term (di.out-Simple s).first.value < di.size-Simple s
simple_first s = omega (arith, views.size_roll-Simple (di.out-Simple s), ap di.size-Simple (views.roll-out-Simple s))

pub simple_more : (s : di.Simple) → most dk.size-AddLink (di.out-Simple s).more.items < di.size-Simple s
simple_more s = omega (arith, views.size_roll-Simple (di.out-Simple s), ap di.size-Simple (views.roll-out-Simple s))

pub add_operand : (l : dk.AddLink) → dm.size-Term (dk.out-AddLink l).operand < dk.size-AddLink l
add_operand l = omega (arith, views.size_roll-AddLink (dk.out-AddLink l), ap dk.size-AddLink (views.roll-out-AddLink l))

pub term_first : (s : dm.Term) → dr.size-Factor (dm.out-Term s).first < dm.size-Term s
term_first s = omega (arith, views.size_roll-Term (dm.out-Term s), ap dm.size-Term (views.roll-out-Term s))

pub term_more : (s : dm.Term) → most dn.size-MulLink (dm.out-Term s).more.items < dm.size-Term s
term_more s = omega (arith, views.size_roll-Term (dm.out-Term s), ap dm.size-Term (views.roll-out-Term s))

pub mul_operand : (l : dn.MulLink) → dr.size-Factor l.operand < dn.size-MulLink l
mul_operand l = omega (arith, views.size_roll-MulLink (dn.out-MulLink l), ap dn.size-MulLink (views.roll-out-MulLink l))

pub stmts_first : (s : ds.Stmts) → dt.size-Stmt s.first.value < ds.size-Stmts s
stmts_first s = omega (arith, views.size_roll-Stmts (ds.out-Stmts s), ap ds.size-Stmts (views.roll-out-Stmts s))

pub exprs_first : (e : dx.Exprs) → de.size-Expr (dx.out-Exprs e).first.value < dx.size-Exprs e
exprs_first e = omega (arith, views.size_roll-Exprs (dx.out-Exprs e), ap dx.size-Exprs (views.roll-out-Exprs e))

pub exprs_more : (e : dx.Exprs) → most de.size-Expr (dx.out-Exprs e).more.items < dx.size-Exprs e
exprs_more e = omega (arith, views.size_roll-Exprs (dx.out-Exprs e), ap dx.size-Exprs (views.roll-out-Exprs e))

pub args_values : (a : dg.Args) (e : dx.Exprs) → (dg.out-Args a).values ≡ Some e → dx.size-Exprs e < dg.size-Args a
args_values a e h = omega (arith, rw h at (views.size_roll-Args (dg.out-Args a)), ap dg.size-Args (rw h at (views.roll-out-Args a)))

pub desig_more : (s : dd.Desig) → most dj.size-Selector s.more.items < dd.size-Desig s
desig_more s = omega (arith, views.size_roll-Desig (dd.out-Desig s), ap dd.size-Desig (views.roll-out-Desig s))
