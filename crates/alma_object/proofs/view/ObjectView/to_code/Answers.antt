use Rattle.alma_object.specs.View.{code_of_view}
use Rattle.alma_object.proofs.Whole.{is_object, keeps_counts_of, code_same}
use Rattle.alma_object.proofs.view.ObjectView.to_code.Goals as goal

pub returns-clause-counts : goal.returns-clause-counts
returns-clause-counts c =
    let view = c.args.self.now in
    keeps_counts_of _ (code_of_view view) view.bytes.now
    (code_same (code_of_view view) _ _ _ _ _ _ c.in_ok-copy_routines.ensures c.in_ok-copy_globals.ensures c.in_ok-copy_ranges.ensures
    c.in_ok-copy_texts.ensures c.in_ok-copy_instrs.ensures c.in_ok-copy_lines.ensures)
    (is_object view.bytes.now view.header view.cells view.read view.within view.clean view.none view.whole)
