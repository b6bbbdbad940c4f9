use Rattle.alma_check_marks.proofs.Steps.{◌▹◌, whole_from}
use Rattle.alma_check_marks.proofs.declaration.mark_module.Goals as goal

pub returns : goal.returns
returns c = whole_from c.marks_from-marks.ensures
    (c.in_ok-token.ensures ▹ c.in_ok-leaf.ensures ▹ c.in_ok-token-2.ensures ▹ c.in_ok-mark_block.ensures ▹ c.in_ok-token-3.ensures
    ▹ c.in_ok-leaf-2.ensures ▹ c.in_ok-token-4.ensures) c.in_ok-node.ensures
