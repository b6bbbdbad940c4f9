use Rattle.alma_rules.specs.View as view
use Rattle.alma_check_block.proofs.Opening.{opened_by}
use Rattle.alma_check_block.proofs.open.open_block.Goals as goal

pub returns : goal.returns
returns c = record {
  opened = opened_by c.args.reader.now _ _ c.args.routine _ _ (view.params_of c.args.params.now) c.args.block.now c.in_ok-first.ensures
      c.in_ok-declares.ensures c.in_ok-around.ensures.scene
      (rw c.deref.ensures.value at c.in_ok-declare_routines.ensures);
  around = c.in_ok-around.ensures.around;
}
