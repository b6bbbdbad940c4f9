use Rattle.std.proofs.Common.{arith, ◌≡◌, suc, ◌-◌, length, sym, ap, ◌∙◌, subst}
use Rattle.std.proofs.lemmas.Option.{get_or_from_slice_get}
use Rattle.alma_code.specs.declared.code.Line.{Line}
use Rattle.alma_object.specs.View.{code_of_view, no_line, IsSplit}
use Rattle.alma_object.proofs.LineOrder.{line_split}
use Rattle.alma_object.proofs.view.ObjectView.line_at.Goals as goal

pub returns-then-count-eq0 : goal.returns-then-count-eq0
returns-then-count-eq0 c =
    let code = code_of_view c.args.self.now in
    let none : c.lines_until-count.result ≡ 0 = omega arith in
    let split = subst (IsSplit c.args.at code.lines) none c.lines_until-count.ensures in
    sym (line_split c.args.at 0 0 (length code.instrs) code.lines 0 c.keeps_object.ensures.records.lines split)

pub returns-else-count-eq0 : goal.returns-else-count-eq0
returns-else-count-eq0 c =
    let code = code_of_view c.args.self.now in
    let count = c.lines_until-count.result in
    let more : count ≡ suc (count - 1) = omega arith in
    let split = subst (IsSplit c.args.at code.lines) more c.lines_until-count.ensures in
    let last = get_or_from_slice_get code.lines (count - 1) c.line.result no_line c.line.ensures in
    ap (λ (x : Line). x.line) (sym last)
    ∙ sym (line_split c.args.at 0 0 (length code.instrs) code.lines (suc (count - 1)) c.keeps_object.ensures.records.lines split)
