use Rattle.std.proofs.Common.{◌+◌, sym, ap, ◌∙◌, arith}
use Rattle.alma_rules.specs.View as view
use Rattle.alma_rules.specs.Decls as rules
use Rattle.alma_check_block.proofs.Opening.{count_on, count_end, block_count, const_count, type_count, var_count, procedure_count, some_to}
use Rattle.alma_check_block.proofs.open.+routines.Goals as goal

pub count_in-returns-in-Const : goal.count_in-returns-in-Const
count_in-returns-in-Const t c = sym (ap (λ d. rules.decl_routines (view.view_decl d)) c.in-Const.is
    ∙ const_count c.in-Const.node c.in-Const.entries)

pub count_in-returns-in-Type : goal.count_in-returns-in-Type
count_in-returns-in-Type t c = sym (ap (λ d. rules.decl_routines (view.view_decl d)) c.in-Type.is
    ∙ type_count c.in-Type.node c.in-Type.entries)

pub count_in-returns-in-Var : goal.count_in-returns-in-Var
count_in-returns-in-Var t c = sym (ap (λ d. rules.decl_routines (view.view_decl d)) c.in-Var.is ∙ var_count c.in-Var.node c.in-Var.entries)

pub count_in-returns-in_ok-count_routines-in-Procedure : goal.count_in-returns-in_ok-count_routines-in-Procedure
count_in-returns-in_ok-count_routines-in-Procedure t c =
    some_to c.sum.result _ _ (ap (λ n. 1 + n) c.in_ok-count_routines-in-Procedure.ensures
    ∙ sym (ap (λ d. rules.decl_routines (view.view_decl d)) c.in-Procedure.is
    ∙ procedure_count c.in-Procedure.node c.in-Procedure.name c.in-Procedure.params c.in-Procedure.result c.in-Procedure.block
    c.in-Procedure.end_name)) c.sum.ensures

pub count_routines-loop-decl-preserved : goal.count_routines-loop-decl-preserved
count_routines-loop-decl-preserved t c =
    omega (
      arith,
      c.loop-decl.invariant,
      c.in_ok-count.ensures,
      c.in_ok-count_in.ensures,
      count_on c.args.block.now.decls.items c.loop-decl.decl-index c.decl-item.result
          (rw c.deref-decl-items.ensures.value at c.loop-decl-test.true) (rw c.deref-decl-items.ensures.value at c.decl-item.is),
    )

pub count_routines-returns : goal.count_routines-returns
count_routines-returns t c =
    omega (
      arith,
      c.loop-decl.invariant,
      count_end c.args.block.now.decls.items c.loop-decl.decl-index
          (rw c.deref-decl-items.ensures.value at c.loop-decl-test.false),
      block_count c.args.block.now,
    )
