use Rattle.std.proofs.Common.{arith, ◌≡◌, ◌+◌, ◌-◌, ◌∙◌, ap, sym, subst, refl}
use Rattle.std.specs.Prelude.{OnOk}
use denote.Param.Weighed.{at_most}
use Rattle.alma_tree.specs.declared.module.Decl as dh
use Rattle.alma_rules.specs.Numbered as tree
use Rattle.alma_rules.specs.View as view
use Rattle.alma_rules.specs.Decls as frames
use Rattle.alma_rules.specs.Modules as modules
use Rattle.alma_check_type.specs.Told.{fault_of}
use Rattle.alma_check_stmt.specs.Inner.Gathered.{Stage, through_decl, AreReady}
use Rattle.alma_check_stmt.specs.Inner.Shown.{stand, routines_in}
use Rattle.alma_check_stmt.specs.Inner.Framed.{frame_in}
use Rattle.alma_check_stmt.proofs.Gathering.{decls_first, through_const, through_type, through_var}
use Rattle.alma_check_stmt.proofs.Routines.{procedure_is, inside_ready, block_ready, declared_ready, first_of, rest_of, decls_next}
use Rattle.alma_check_stmt.proofs.Routines.{decls_end, declared_by, is_open, procedure_by}
use Rattle.alma_check_stmt.proofs.Headings.{inner_frame}
use Rattle.alma_check_stmt.proofs.Sizes.{procedure_size}
use Rattle.alma_check_stmt.proofs.Checking.{on_ok, shown_in, block_checked, inner_read, cleared_by}
use Rattle.alma_check_stmt.proofs.routine.+routines.Goals as goal

-- ---- blocks

pub check_block-check_declared-requires : goal.check_block-check_declared-requires
check_block-check_declared-requires t c = (
  omega (arith, c.decreases),
  (
    (let f : frames.Frame = frame_in c.args.reader.now c.args.frame.now in
        let told = rw c.deref.ensures.value at (c.in_ok-read_decls.ensures f (shown_in c.args.reader.now c.args.frame.now c.requires.quiet))
        in
        declared_ready c.args.lines.now f c.read_decls.new.reader c.args.checked.now.next (view.decls_of c.args.block.now.decls.items)
        (view.body_of c.args.block.now.body) c.requires.ready
        (ap (λ x. x.scene) told) c.add_fault.new.self.next (ap (λ (y : Stage). y.next) (c.add_fault.ensures c.args.reader.now))),
    c.requires.ready.rising_body,
  ),
)

pub check_block-returns-clause-stands : goal.check_block-returns-clause-stands
check_block-returns-clause-stands t c =
    let f : frames.Frame = frame_in c.args.reader.now c.args.frame.now in
    let decls : tree.DeclTail = view.decls_of c.args.block.now.decls.items in
    let told = rw c.deref.ensures.value at (c.in_ok-read_decls.ensures f (shown_in c.args.reader.now c.args.frame.now c.requires.quiet)) in
    on_ok c.check_declared.result
    (λ h. block_checked c.args.checked.now c.add_fault.new.self c.args.reader.now c.read_decls.new.reader c.read_decls.new.frame
    (frames.read_decls f c.args.checked.now.next decls) (stand c.check_declared.new.checked c.check_declared.new.reader)
    (view.view_name c.args.site.name.now) c.args.site.outer c.args.site.end decls (view.body_of c.args.block.now.body) told
    (decls_first f c.args.checked.now.next decls refl c.requires.ready.rising) (c.add_fault.ensures c.read_decls.new.reader) h)
    c.check_declared.ensures.stands

pub check_declared-returns-clause-stands : goal.check_declared-returns-clause-stands
check_declared-returns-clause-stands t c =
    declared_by (fault_of c.args.checked.now.fault) (fault_of c.check_own.new.checked.fault) (fault_of c.in_ok-fault.fault)
    (routines_in c.args.checked.now) (routines_in c.check_own.new.checked) c.args.checked.now.next c.check_own.new.checked.next
    c.args.reader.now (frame_in c.args.reader.now c.args.frame.now) (view.view_name c.args.site.name.now) c.args.site.outer c.args.site.end
    (view.decls_of c.args.block.now.decls.items) (view.body_of c.args.block.now.body)
    (stand c.check_decls.new.checked c.check_decls.new.reader) (stand c.add_fault.new.self c.check_decls.new.reader) refl c.requires.body
    c.in_ok-fault.ensures.added (ap fault_of c.in_ok-fault.ensures.fault) c.in_ok-fault.ensures.next
    (rw c.deref.ensures.value at c.in_ok-check_decls.ensures) (c.add_fault.ensures c.check_decls.new.reader)

-- ---- procedures

pub check_procedure-check_block-requires : goal.check_procedure-check_block-requires
check_procedure-check_block-requires t c = (
  omega (arith, c.decreases),
  (
    block_ready c.args.lines.now c.args.reader.now c.open_procedure.new.reader c.args.checked.now.next c.args.node
        (view.params_of c.args.params.now) (view.result_of c.args.returns.now) (view.view_block c.args.block.now)
        (view.decls_of c.args.block.now.decls.items) (view.body_of c.args.block.now.body) c.requires.ready
        (ap (λ (f : frames.Frame). f.scene) c.in_ok-opened.ensures.frame) c.count.new.self.next
        (ap (λ (y : Stage). y.next) (c.in_ok-count.ensures c.args.reader.now)),
    c.in_ok-opened.ensures.quiet,
  ),
)

pub check_procedure-leave-requires : goal.check_procedure-leave-requires
check_procedure-leave-requires t c =
    let decls : tree.DeclTail = view.decls_of c.args.block.now.decls.items in
    let body = view.body_of c.args.block.now.body in
    let e = inner_read c.args.checked.now c.count.new.self c.args.reader.now c.open_procedure.new.reader c.in_ok-opened.opened.frame
    c.args.node (view.params_of c.args.params.now) (view.result_of c.args.returns.now) c.args.block.now.node decls body
    (view.view_name c.args.name.now) c.env.result.now.routine c.env.result.now.routine c.saturating_sub.result c.saturating_sub.result
    (stand c.check_block.new.checked c.check_block.new.reader)
    c.in_ok-count.ensures c.in_ok-opened.ensures.frame refl refl c.in_ok-check_block.ensures.stands in
    is_open c.args.reader.now c.check_block.new.reader c.args.checked.now.next c.args.node (view.params_of c.args.params.now)
    (view.result_of c.args.returns.now) c.args.block.now.node decls body
    (modules.judge_bodies (inner_frame c.args.reader.now c.args.checked.now.next c.args.node (view.params_of c.args.params.now)
    (view.result_of c.args.returns.now) c.args.block.now.node decls body).scene (c.args.checked.now.next + 1) decls).shapes
    (sym (ap (λ (y : Stage). y.scene) e))

pub check_procedure-returns : goal.check_procedure-returns
check_procedure-returns t c =
    let decls : tree.DeclTail = view.decls_of c.args.block.now.decls.items in
    let body = view.body_of c.args.block.now.body in
    let s4 = c.clear_headings.new.self in
    procedure_by (fault_of c.args.checked.now.fault) (fault_of c.check_block.new.checked.fault) (routines_in c.args.checked.now)
    (routines_in c.check_block.new.checked) c.args.checked.now.next c.check_block.new.checked.next
    c.args.reader.now c.check_block.new.reader s4 c.args.node (view.view_name c.args.name.now) (view.params_of c.args.params.now)
    (view.result_of c.args.returns.now) c.args.block.now.node decls body (view.view_name c.args.end_name.now)
    (stand c.check_end.new.checked s4) c.requires.ready.empty
    (inner_read c.args.checked.now c.count.new.self c.args.reader.now c.open_procedure.new.reader c.in_ok-opened.opened.frame c.args.node
    (view.params_of c.args.params.now) (view.result_of c.args.returns.now) c.args.block.now.node decls body
    (view.view_name c.args.name.now) c.env.result.now.routine c.args.reader.now.routine c.saturating_sub.result
    (c.args.end_name.now.token - 1) (stand c.check_block.new.checked c.check_block.new.reader)
    c.in_ok-count.ensures c.in_ok-opened.ensures.frame (ap (λ s. s.routine) c.env.ensures) c.saturating_sub.ensures
    c.in_ok-check_block.ensures.stands)
    (cleared_by c.args.reader.now c.check_block.new.reader c.leave.new.self s4 c.in_ok-opened.opened.around c.count.new.self.next
    c.args.checked.now.next c.check_block.new.checked.next c.leave.ensures c.in_ok-opened.ensures.around
    (ap (λ (y : Stage). y.next) (c.in_ok-count.ensures c.args.reader.now)) c.clear_headings.ensures)
    c.check_end.ensures

-- ---- declarations

pub check_decl-check_procedure-requires : goal.check_decl-check_procedure-requires
check_decl-check_procedure-requires t c = (
  omega (
    arith,
    c.decreases,
    ap dh.size-Decl c.in-Procedure.is,
    procedure_size c.in-Procedure.node c.in-Procedure.name c.in-Procedure.params c.in-Procedure.result c.in-Procedure.block
        c.in-Procedure.end_name,
  ),
  (let p = c.in-Procedure in
      inside_ready c.args.lines.now c.args.reader.now c.args.checked.now.next p.node (view.view_name p.name) (view.params_of p.params)
      (view.result_of p.result) p.block.node (view.decls_of p.block.decls.items) (view.body_of p.block.body) (view.view_name p.end_name)
      (subst (λ (d : tree.Decl). AreReady c.args.lines.now c.args.reader.now c.args.checked.now.next (tree.more_decl d tree.no_decl))
      (ap view.view_decl p.is ∙ procedure_is p.node p.name p.params p.result p.block p.end_name) c.requires.ready)),
)

pub check_decl-returns-in-Const : goal.check_decl-returns-in-Const
check_decl-returns-in-Const t c =
    ap (λ d. through_decl (stand c.args.checked.now c.args.reader.now) (view.view_decl d)) c.in-Const.is
    ∙ through_const (fault_of c.args.checked.now.fault) (routines_in c.args.checked.now) c.args.checked.now.next c.args.reader.now
    c.in-Const.node (view.consts_of c.in-Const.entries.items)

pub check_decl-returns-in-Type : goal.check_decl-returns-in-Type
check_decl-returns-in-Type t c =
    ap (λ d. through_decl (stand c.args.checked.now c.args.reader.now) (view.view_decl d)) c.in-Type.is
    ∙ through_type (fault_of c.args.checked.now.fault) (routines_in c.args.checked.now) c.args.checked.now.next c.args.reader.now
    c.in-Type.node (view.types_of c.in-Type.entries.items)

pub check_decl-returns-in-Var : goal.check_decl-returns-in-Var
check_decl-returns-in-Var t c =
    ap (λ d. through_decl (stand c.args.checked.now c.args.reader.now) (view.view_decl d)) c.in-Var.is
    ∙ through_var (fault_of c.args.checked.now.fault) (routines_in c.args.checked.now) c.args.checked.now.next c.args.reader.now
    c.in-Var.node (view.vars_of c.in-Var.entries.items)

pub check_decl-returns-in-Procedure : goal.check_decl-returns-in-Procedure
check_decl-returns-in-Procedure t c =
    let p = c.in-Procedure in
    subst (λ (d : tree.Decl). OnOk c.check_procedure.result
    (through_decl (stand c.args.checked.now c.args.reader.now) d ≡ stand c.check_procedure.new.checked c.check_procedure.new.reader))
    (sym (ap view.view_decl p.is ∙ procedure_is p.node p.name p.params p.result p.block p.end_name)) c.check_procedure.ensures

pub check_decls-check_decl-requires : goal.check_decls-check_decl-requires
check_decls-check_decl-requires t c = (
  omega (
    arith,
    c.decreases,
    at_most dh.size-Decl c.args.decls.now c.loop-decl.decl-index c.decl-item.result c.loop-decl-test.true,
    ap dh.size-Decl c.decl-item.is,
  ),
  (first_of c.args.lines.now c.loop-decl.reader c.loop-decl.checked.next c.loop-decl.decl-index c.args.decls.now c.decl-item.result
      c.loop-decl-test.true c.decl-item.is c.loop-decl.invariant.ready),
)

pub check_decls-loop-decl-preserved : goal.check_decls-loop-decl-preserved
check_decls-loop-decl-preserved t c = record {
  stands = c.loop-decl.invariant.stands
      ∙ decls_next (stand c.loop-decl.checked c.loop-decl.reader) (stand c.check_decl.new.checked c.check_decl.new.reader)
      c.loop-decl.decl-index c.args.decls.now c.decl-item.result c.loop-decl-test.true c.decl-item.is c.in_ok-check_decl.ensures;
  ready = rest_of c.args.lines.now c.loop-decl.reader c.check_decl.new.reader c.loop-decl.decl-index c.args.decls.now c.decl-item.result
      (fault_of c.loop-decl.checked.fault) (fault_of c.check_decl.new.checked.fault) (routines_in c.loop-decl.checked)
      (routines_in c.check_decl.new.checked) c.loop-decl.checked.next c.check_decl.new.checked.next c.loop-decl-test.true c.decl-item.is
      c.loop-decl.invariant.ready c.in_ok-check_decl.ensures;
}

pub check_decls-returns : goal.check_decls-returns
check_decls-returns t c =
    c.loop-decl.invariant.stands
    ∙ decls_end (fault_of c.loop-decl.checked.fault) (routines_in c.loop-decl.checked) c.loop-decl.checked.next c.loop-decl.reader
    c.loop-decl.decl-index c.args.decls.now c.loop-decl-test.false
