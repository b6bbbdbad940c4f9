use Rattle.alma_lower_work.proofs.Joins.{then_code}
use Rattle.alma_lower_work.proofs.value.put_function.Goals as goal

pub returns : goal.returns
returns c =
    then_code _ c.then_add.result _ _ _ _ _ c.then_add.ensures.done
    (then_code _ c.then_add-called.result _ _ _ _ _ c.then_add-called.ensures.done c.add-marked.ensures c.then_add-called.ensures.codes)
    c.then_add.ensures.codes
