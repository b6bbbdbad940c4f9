use Rattle.std.proofs.Common.{◌+◌, ◌*◌, ◌∙◌, ap, sym, arith}
use Rattle.std.specs.List.{list_any}
use Rattle.std.proofs.lemmas.List.{take_all}
use Rattle.alma_object_format.specs.Header.{instrs_at}
use Rattle.alma_object_format.specs.Instrs.{instr_at}
use Rattle.alma_object.proofs.Items.{length_items}
use Rattle.alma_code.specs.Reads.{is_read as is_read_of}
use Rattle.alma_object.specs.View.{code_of_view}
use Rattle.alma_object.proofs.Views.{none_more, one_passes}
use Rattle.alma_object.proofs.view.ObjectView.has_read.Goals as goal

pub loop-at-preserved : goal.loop-at-preserved
loop-at-preserved c = none_more is_read_of (code_of_view c.args.self.now).instrs c.loop-at.at c.instr.result c.instr.ensures
    (sym c.is_read.ensures ∙ c.if-is_read.false) c.loop-at.invariant

pub returns-then-is_read : goal.returns-then-is_read
returns-then-is_read c = sym (one_passes is_read_of (code_of_view c.args.self.now).instrs c.loop-at.at c.instr.result c.instr.ensures
    (sym c.is_read.ensures ∙ c.if-is_read.true))

pub returns : goal.returns
returns c =
    let all = take_all c.loop-at.at (code_of_view c.args.self.now).instrs
    (omega (
      arith,
      length_items (λ k. instr_at c.args.self.now.bytes.now (instrs_at c.args.self.now.header + 17 * k))
          c.args.self.now.header.instrs,
    )) in
    sym (ap (list_any is_read_of) (sym all) ∙ c.loop-at.invariant)
