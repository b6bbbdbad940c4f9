use Rattle.alma_check_marks.proofs.Steps.{◌▹◌, ends}
use Rattle.alma_check_marks.proofs.declaration.mark_formal.Goals as goal

pub returns : goal.returns
returns c = ends c.node.result _ _ (c.in_ok-mark_mode.ensures ▹ c.in_ok-mark_names.ensures ▹ c.in_ok-token.ensures ▹ c.in_ok-leaf.ensures)
    c.node.ensures
