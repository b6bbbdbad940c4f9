use Rattle.std.proofs.Common.{◌∙◌, ap, map}
use Rattle.alma_scan.specs.Scanned.{lexemes}
use Rattle.alma_ir.specs.View.{global_of}
use Rattle.alma_rules.specs.Scene.{text_at}
use Rattle.alma_rules.specs.Decls.{new_frame}
use Rattle.alma_rules.specs.View as view
use Rattle.alma_check_type.specs.Told.{fault_of}
use Rattle.alma_check_block.specs.Shown.{ToldFrame}
use Rattle.alma_check_stmt.specs.Inner.Gathered.{Stage}
use Rattle.alma_check_stmt.specs.Inner.Shown.{stand, routines_in}
use Rattle.alma_check_stmt.specs.Inner.Framed.{frame_in}
use Rattle.alma_check_stmt.proofs.Checking.{frame_told, no_fault}
use Rattle.alma_check_stmt.proofs.Judging.{named_judged}
use Rattle.alma_check_stmt.proofs.Wholes.{module_ready, module_by}
use Rattle.alma_check_stmt.proofs.module.judge_whole.Goals as goal

pub check_block-requires-clause-ready : goal.check_block-requires-clause-ready
check_block-requires-clause-ready c =
    let m = c.args.module.now in
    module_ready c.args.source.now (lexemes c.args.tokens.now) m.node (view.view_name m.name) m.block.node
    (view.decls_of m.block.decls.items) (view.body_of m.block.body) (view.view_name m.end_name)
    c.in_ok-lines.lines c.in_ok-reader.reader c.nothing_checked-checked.result.next c.requires.rising c.in_ok-lines.ensures
    c.in_ok-reader.ensures
    (ap (λ (y : Stage). y.next) (c.nothing_checked-checked.ensures c.in_ok-reader.reader))

pub check_block-requires-clause-quiet : goal.check_block-requires-clause-quiet
check_block-requires-clause-quiet c = no_fault c.new_frame-frame.result.fault
    (ap (λ (t : ToldFrame). t.fault) (c.new_frame-frame.ensures c.in_ok-reader.reader))

pub returns : goal.returns
returns c =
    let m = c.args.module.now in
    let source = c.args.source.now in
    let tokens = lexemes c.args.tokens.now in
    named_judged source tokens (view.view_module m) c.text-name.result.now c.check_block.new.frame.variables c.check_end.new.checked
    c.whole_of.result c.whole_of.ensures.name c.whole_of.ensures.globals c.whole_of.ensures.checked
    (module_by source tokens m.node (view.view_name m.name) m.block.node (view.decls_of m.block.decls.items) (view.body_of m.block.body)
    (view.view_name m.end_name)
    c.in_ok-reader.reader c.check_block.new.reader (frame_in c.in_ok-reader.reader c.new_frame-frame.result)
    (stand c.nothing_checked-checked.result c.in_ok-reader.reader) c.nothing_checked-checked.result.next
    c.check_block.new.checked.next c.check_end.new.checked.next (fault_of c.check_block.new.checked.fault)
    (fault_of c.check_end.new.checked.fault) (routines_in c.check_block.new.checked) (routines_in c.check_end.new.checked)
    (map global_of c.check_block.new.frame.variables.items) c.text-name.result.now
    c.in_ok-reader.ensures
    (frame_told c.in_ok-reader.reader c.new_frame-frame.result (new_frame c.in_ok-reader.reader 1)
    (c.new_frame-frame.ensures c.in_ok-reader.reader))
    (ap (λ (y : Stage). y.next) (c.nothing_checked-checked.ensures c.in_ok-reader.reader))
    (c.nothing_checked-checked.ensures c.in_ok-reader.reader)
    (rw c.saturating_sub.ensures at c.in_ok-check_block.ensures.stands) c.check_end.ensures c.in_ok-check_block.ensures.variables
    (c.text-name.ensures ∙ ap (λ s. text_at s m.name.token) c.env.ensures))
