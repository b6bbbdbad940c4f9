use Rattle.alma_lower_parts.proofs.LabelForms.{label_done}
use Rattle.alma_lower_parts.proofs.case.put_label.Goals as goal

pub returns : goal.returns
returns c = λ test.
    label_done _ _ _ _ _ c.args.line c.args.labels.value c.args.labels.bound c.args.hit c.in_ok-miss.miss.low c.in_ok-miss.miss.high _
    c.args.label (c.in_ok-miss.ensures test) c.in_ok-behind.ensures c.aim.ensures c.aim-2.ensures c.in_ok-put.ensures.codes
