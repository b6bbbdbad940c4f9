use Rattle.alma_rules.specs.Judgement.{broken_at}
use Rattle.alma_rules.specs.Types.{redeclaration_rules}
use Rattle.alma_rules.specs.Decls as rules
use Rattle.alma_rules.specs.View as view
use Rattle.alma_check_block.proofs.Frames.{entered_by}
use Rattle.alma_check_block.proofs.entry.enter_name.Goals as goal

pub returns : goal.returns
returns c f faults h k =
    entered_by c.args.reader.now c.declare.new.self c.add_fault-2.new.self f (view.view_name c.args.name.now) c.args.from faults
    c.args.entry
    (c.add_fault-2.ensures f.scene (rules.with_faults f
    (broken_at c.args.name.now.node (redeclaration_rules c.args.reader.now (view.view_name c.args.name.now)))) faults
    (c.add_fault.ensures f.scene f (broken_at c.args.name.now.node (redeclaration_rules c.args.reader.now (view.view_name c.args.name.now)))
    h
    c.redeclared-twice.ensures) k)
    c.in_ok-declare.ensures
