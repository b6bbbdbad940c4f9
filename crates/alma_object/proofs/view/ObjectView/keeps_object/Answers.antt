use Rattle.alma_object.proofs.Whole.{is_object}
use Rattle.alma_object.proofs.view.ObjectView.keeps_object.Goals as goal

pub returns : goal.returns
returns c =
    let view = c.args.self.now in
    is_object view.bytes.now view.header view.cells view.read view.within view.clean view.none view.whole
