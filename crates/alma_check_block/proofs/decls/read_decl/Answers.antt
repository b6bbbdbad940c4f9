use Rattle.std.proofs.Common.{ap, sym, ◌∙◌}
use Rattle.alma_rules.specs.View as view
use Rattle.alma_rules.specs.Judgement.{broken_at}
use Rattle.alma_rules.specs.Types.{redeclaration_rules}
use Rattle.alma_rules.specs.Decls as rules
use Rattle.alma_check_rules.specs.Views.{heading_view}
use Rattle.std.specs.Prelude.{option_map}
use Rattle.alma_check_block.specs.Shown.{told_frame}
use Rattle.alma_rules.proofs.TypeRows.{procedure_is}
use Rattle.alma_check_block.proofs.Leaving.{heading_fault, heading_inside, procedure_read}
use Rattle.alma_check_block.proofs.decls.read_decl.Goals as goal

pub leave-requires : goal.leave-requires
leave-requires c =
    heading_inside c.args.reader.now (rules.new_frame c.args.reader.now 0) c.args.number c.in-Procedure.node
    (view.view_name c.in-Procedure.name) (view.params_of c.in-Procedure.params) (view.result_of c.in-Procedure.result)
    (view.view_block c.in-Procedure.block)
    c.read_heading.new.reader c.in_ok-headed-in-Procedure.headed.frame c.in_ok-headed-in-Procedure.ensures.frame

pub returns-in_ok-headed-in-Procedure : goal.returns-in_ok-headed-in-Procedure
returns-in_ok-headed-in-Procedure c f h =
    procedure_read c.args.reader.now f c.args.number c.in-Procedure.node (view.view_name c.in-Procedure.name)
    (view.params_of c.in-Procedure.params) (view.result_of c.in-Procedure.result) (view.view_block c.in-Procedure.block)
    c.read_heading.new.reader c.leave.new.self c.set_heading.new.self c.args.frame.now c.in_ok-headed-in-Procedure.headed.frame
    c.add_fault-in-Procedure.new.self _ (option_map heading_view c.in_ok-headed-in-Procedure.headed.heading) h
    (c.add_fault-in-Procedure.ensures c.args.reader.now
    (rules.with_faults f (broken_at c.in-Procedure.name.node (redeclaration_rules c.args.reader.now (view.view_name c.in-Procedure.name))))
    (rules.read_heading c.args.reader.now c.args.number c.in-Procedure.node (view.params_of c.in-Procedure.params)
    (view.result_of c.in-Procedure.result) (view.view_block c.in-Procedure.block)).frame.faults
    (c.add_fault.ensures c.args.reader.now f
    (broken_at c.in-Procedure.name.node (redeclaration_rules c.args.reader.now (view.view_name c.in-Procedure.name))) h
    c.redeclared-twice.ensures)
    (heading_fault c.args.reader.now f c.args.number c.in-Procedure.node (view.view_name c.in-Procedure.name)
    (view.params_of c.in-Procedure.params) (view.result_of c.in-Procedure.result) (view.view_block c.in-Procedure.block)
    c.read_heading.new.reader c.in_ok-headed-in-Procedure.headed.frame c.in_ok-headed-in-Procedure.ensures.frame))
    c.in_ok-headed-in-Procedure.ensures.frame c.in_ok-headed-in-Procedure.ensures.around c.leave.ensures
    c.in_ok-headed-in-Procedure.ensures.heading c.set_heading.ensures
    ∙ ap (λ d. told_frame (rules.read_decl f c.args.number d))
    (sym (procedure_is c.in-Procedure.node c.in-Procedure.name c.in-Procedure.params c.in-Procedure.result c.in-Procedure.block
    c.in-Procedure.end_name))
    ∙ ap (λ d. told_frame (rules.read_decl f c.args.number (view.view_decl d))) (sym c.in-Procedure.is)
