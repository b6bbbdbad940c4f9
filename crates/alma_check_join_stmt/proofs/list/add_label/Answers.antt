use Rattle.std.proofs.Common.{sym, ap, ◌∙◌, ◌++◌, List}
use Rattle.std.specs.Prelude.{option_to_list}
use Rattle.alma_rules.specs.Judgement.{Judgement}
use Rattle.alma_rules.specs.Parts as parts
use Rattle.alma_rules.specs.Nodes as nodes
use Rattle.alma_check_rules.specs.Views.{spans_view, spans_in}
use Rattle.alma_rules.proofs.Onwards.{onward_stops, passed_on, no_memory_on}
use Rattle.alma_check_join_stmt.proofs.Labels.{label_grown}
use Rattle.alma_check_join_stmt.proofs.Steps as steps
use Rattle.alma_check_join_stmt.proofs.list.add_label.Goals as goal

pub returns-in_err-span-clause-judged : goal.returns-in_err-span-clause-judged
returns-in_err-span-clause-judged c = λ j m rest a. passed_on _ _ _ _ c.from_residual.ensures.1
    (onward_stops (λ (x y : List parts.Span). x ++ y) nodes.cons_span (spans_in c.args.kept) j rest _ (rw c.in_err-span.was at a))

pub returns-in_err-note-clause-judged : goal.returns-in_err-note-clause-judged
returns-in_err-note-clause-judged c = λ j m rest a. no_memory_on _ _ _ c.from_residual-in_err-note.ensures.1

pub returns-in_err-whole-clause-judged : goal.returns-in_err-whole-clause-judged
returns-in_err-whole-clause-judged c = λ j m rest a. no_memory_on _ _ _ c.from_residual-in_err-whole.ensures.1

pub returns-clause-judged : goal.returns-clause-judged
returns-clause-judged c = λ j m rest a. steps.span_added c.in_ok-whole.whole c.args.kept c.in_ok-span.span j m rest
    (rw c.in_ok-span.was at a) c.in_ok-whole.ensures

pub returns-clause-earlier : goal.returns-clause-earlier
returns-clause-earlier c = λ j m a. c.in_ok-note.ensures
    ∙ ap (λ (i : Judgement parts.Span). spans_view c.args.earlier.now ++ option_to_list i.value) (sym (rw c.in_ok-span.was at a))

pub returns-clause-grown : goal.returns-clause-grown
returns-clause-grown c = λ old g. label_grown c.in_ok-whole.whole c.args.kept c.in_ok-span.span old _ _ c.in_ok-whole.ensures
    c.in_ok-note.ensures g
