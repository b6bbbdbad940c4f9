use Rattle.std.proofs.Common.{◌≡◌, ◌∙◌, ap, sym, subst}
use Rattle.alma_code.specs.Head.{PlainHead}
use Rattle.alma_code.specs.Layout.{RunsRise, kinds_of}
use Rattle.alma_code.specs.Plain.{PlainRoutine, head_at}
use Rattle.alma_code.specs.Rules.{last_end}
use Rattle.alma_object.specs.View.{code_of_view, head_of_view}
use Rattle.alma_verify.specs.Runs.{fit_slots}
use Rattle.alma_verify.proofs.SlotStarts.{arguments_are}
use Rattle.alma_verify.proofs.view.fit_arguments.Goals as goal

pub fit_all-requires : goal.fit_all-requires
fit_all-requires c =
    let is : head_of_view c.routine_of-caller.result ≡ head_at (code_of_view c.args.view.now) c.args.routine =
    ap (λ (q : PlainRoutine). q.head) c.routine_of-caller.ensures in
    record {
      rise = subst (λ (h : PlainHead). RunsRise 0 h.runs (last_end 0 h.runs)) (sym is)
          (c.requires.table.runs c.args.routine c.requires.routine);
    }

pub returns : goal.returns
returns c =
    let code = code_of_view c.args.view.now in
    let caller : head_of_view c.routine_of-caller.result ≡ head_at code c.args.routine =
    ap (λ (q : PlainRoutine). q.head) c.routine_of-caller.ensures in
    let called : head_of_view c.routine_of-called.result ≡ head_at code c.args.callee =
    ap (λ (q : PlainRoutine). q.head) c.routine_of-called.ensures in
    c.fit_all.ensures
    ∙ ap (λ (h : PlainHead). fit_slots c.args.routine (kinds_of 0 h.runs) (head_of_view c.routine_of-called.result).params c.args.first)
    caller
    ∙ ap (λ (h : PlainHead). fit_slots c.args.routine (kinds_of 0 (head_at code c.args.routine).runs) h.params c.args.first) called
    ∙ arguments_are code c.args.routine (head_at code c.args.callee).params c.args.first
