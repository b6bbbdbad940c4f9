use Rattle.alma_check_marks.proofs.Steps.{◌▹◌, ends}
use Rattle.alma_check_marks.proofs.type_node.mark_names.Goals as goal

pub returns : goal.returns
returns c = ends c.node.result _ _ (c.in_ok-leaf.ensures ▹ (rw c.deref.ensures.value at c.in_ok-mark_more_names.ensures)) c.node.ensures
