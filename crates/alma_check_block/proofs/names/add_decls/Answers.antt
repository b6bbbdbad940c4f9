use Rattle.std.proofs.Common.{◌+◌, drop, ap}
use Rattle.std.proofs.lemmas.List.{drop_all}
use Rattle.alma_rules.proofs.Exprs.{next_of}
use Rattle.alma_rules.specs.View as view
use Rattle.alma_rules.specs.Decls as rules
use Rattle.alma_check_rules.specs.Views.{declares_view}
use Rattle.alma_check_block.proofs.Texts.{names_on, names_end}
use Rattle.alma_check_block.proofs.names.add_decls.Goals as goal

pub loop-decl-preserved : goal.loop-decl-preserved
loop-decl-preserved c =
    names_on c.args.reader.now (declares_view c.loop-decl.names) _ _ (rules.decl_names (view.view_decl c.decl-item.result))
    (rules.decls_names (view.decls_of (drop (c.loop-decl.decl-index + 1) c.args.decls.now))) _
    c.in_ok-add_decl.ensures
    (ap (λ xs. rules.decls_names (view.decls_of xs))
    (next_of c.args.decls.now c.loop-decl.decl-index c.decl-item.result c.loop-decl-test.true c.decl-item.is)) c.loop-decl.invariant

pub returns : goal.returns
returns c = names_end c.args.reader.now _ _ _
    (ap (λ xs. rules.decls_names (view.decls_of xs)) (drop_all c.loop-decl.decl-index c.args.decls.now c.loop-decl-test.false))
    c.loop-decl.invariant
