-- What the values that the functions read spell and number.
use Rattle.std.proofs.Common.{List, Vec, Global}
use Rattle.alma_tree.specs.declared.kind.Kind.{Kind}
use Rattle.alma_tree.specs.declared.phrase.Stmts as ds
use Rattle.alma_tree.specs.declared.phrase.Stmt as dt
use Rattle.alma_tree.specs.declared.phrase.Label as dl
use Rattle.alma_tree.specs.declared.phrase.Expr as de
use Rattle.alma_tree.specs.declared.phrase.Exprs as dx
use Rattle.alma_tree.specs.declared.phrase.AddLink as dk
use Rattle.alma_tree.specs.declared.phrase.MulLink as dn
use Rattle.alma_tree.specs.declared.phrase.Desig as dd
use Rattle.alma_tree.specs.declared.phrase.Selector as dj
use Rattle.alma_tree.specs.declared.phrase.Primary as dp
use Rattle.alma_tree.specs.declared.phrase.Arm as da
use Rattle.alma_tree.specs.declared.phrase.Simple as di
use Rattle.alma_tree.specs.declared.phrase.Term as dm
use Rattle.alma_tree.specs.declared.phrase.Factor as dr
use Rattle.alma_tree.specs.Spelling.{spell_primary, spell_stmt, spell_arm, spell_simple, spell_term, spell_factor, spell_selector}
use Rattle.alma_tree.specs.View.{view_primary, view_stmt, view_arm, view_simple, view_term, view_factor, view_selector}
use Rattle.alma_tree.specs.Spelling.{spell_expr, spell_stmts, spell_desig, spell_exprs, spell_term_tail, spell_factor_tail}
use Rattle.alma_tree.specs.Spelling.{spell_selector_tail}
use Rattle.alma_tree.specs.Spelling.{spell_stmt_tail, spell_label_tail, spell_orelse_tail, spell_desig_tail}
use Rattle.alma_tree.specs.View.{view_expr, view_stmts, view_desig, view_exprs, terms_of, factors_of, selectors_of, stmts_of, labels_of}
use Rattle.alma_tree.specs.View.{orelses_of, desigs_of}
use Rattle.alma_tree.specs.Numbers.{Step, numbers_of_terms, numbers_of_factors, numbers_of_selectors, numbers_of_stmts, numbers_of_labels}
use Rattle.alma_tree.specs.Numbers.{numbers_of_orelses, numbers_of_desigs}

abbrev pub an_expr : de.Expr → List Kind → List Kind
an_expr v = spell_expr (view_expr v)

abbrev pub some_exprs : dx.Exprs → List Kind → List Kind
some_exprs v = spell_exprs (view_exprs v)

abbrev pub a_desig : dd.Desig → List Kind → List Kind
a_desig v = spell_desig (view_desig v)

abbrev pub some_stmts : ds.Stmts → List Kind → List Kind
some_stmts v = spell_stmts (view_stmts v)

abbrev pub more_terms : Vec dk.AddLink Global → List Kind → List Kind
more_terms v = spell_term_tail (terms_of v.items)

abbrev pub count_terms : Vec dk.AddLink Global → Step
count_terms v = numbers_of_terms v.items

abbrev pub more_factors : Vec dn.MulLink Global → List Kind → List Kind
more_factors v = spell_factor_tail (factors_of v.items)

abbrev pub count_factors : Vec dn.MulLink Global → Step
count_factors v = numbers_of_factors v.items

abbrev pub more_selectors : Vec dj.Selector Global → List Kind → List Kind
more_selectors v = spell_selector_tail (selectors_of v.items)

abbrev pub count_selectors : Vec dj.Selector Global → Step
count_selectors v = numbers_of_selectors v.items

abbrev pub more_stmts : Vec dt.Stmt Global → List Kind → List Kind
more_stmts v = spell_stmt_tail (stmts_of v.items)

abbrev pub count_stmts : Vec dt.Stmt Global → Step
count_stmts v = numbers_of_stmts v.items

abbrev pub more_labels : Vec dl.Label Global → List Kind → List Kind
more_labels v = spell_label_tail (labels_of v.items)

abbrev pub count_labels : Vec dl.Label Global → Step
count_labels v = numbers_of_labels v.items

abbrev pub more_orelses : Vec ds.Stmts Global → List Kind → List Kind
more_orelses v = spell_orelse_tail (orelses_of v.items)

abbrev pub count_orelses : Vec ds.Stmts Global → Step
count_orelses v = numbers_of_orelses v.items

abbrev pub more_desigs : Vec dd.Desig Global → List Kind → List Kind
more_desigs v = spell_desig_tail (desigs_of v.items)

abbrev pub count_desigs : Vec dd.Desig Global → Step
count_desigs v = numbers_of_desigs v.items

abbrev pub a_primary : dp.Primary → List Kind → List Kind
a_primary v = spell_primary (view_primary v)

abbrev pub a_stmt : dt.Stmt → List Kind → List Kind
a_stmt v = spell_stmt (view_stmt v)

abbrev pub an_arm : da.Arm → List Kind → List Kind
an_arm v = spell_arm (view_arm v)

abbrev pub a_simple : di.Simple → List Kind → List Kind
a_simple v = spell_simple (view_simple v)

abbrev pub a_term : dm.Term → List Kind → List Kind
a_term v = spell_term (view_term v)

abbrev pub a_factor : dr.Factor → List Kind → List Kind
a_factor v = spell_factor (view_factor v)

abbrev pub a_selector : dj.Selector → List Kind → List Kind
a_selector v = spell_selector (view_selector v)
