use Rattle.std.proofs.Common.{refl, ◌∙◌, ap}
use Rattle.std.specs.Prelude.{map}
use Rattle.alma_choice.specs.Emitted.{line_instr}
use Rattle.alma_ir.specs.View.{program_of, global_of}
use Rattle.alma_lower_templates.specs.Compiled.{global_named}
use Rattle.alma_lower_templates.specs.LineInstr as lines
use Rattle.alma_lower.proofs.Finishing.{is_code_of, has_long_runs, holds_each_once}
use Rattle.alma_lower.proofs.compiled.compiled.Goals as goal

pub returns-clause-code : goal.returns-clause-code
returns-clause-code c =
    let made = c.in_ok-made.ensures in
    is_code_of (program_of c.args.program.now) _ _ refl made.heads
    (c.in_ok-globals.ensures ∙ ap (λ g. map global_named (map global_of g)) c.deref.ensures.value) c.in_ok-ranges.ensures
    c.in_ok-texts.ensures (c.in_ok-code.ensures ∙ ap (λ x. lines.instrs_of (map line_instr x)) c.deref-2.ensures.value
    ∙ ap lines.instrs_of made.code) (c.in_ok-lines.ensures ∙ ap (λ x. lines.lines_of (map line_instr x)) c.deref-3.ensures.value
    ∙ ap lines.lines_of made.code) c.in_ok-numbers.ensures.holds

pub returns-clause-runs : goal.returns-clause-runs
returns-clause-runs c =
    let made = c.in_ok-made.ensures in
    has_long_runs (program_of c.args.program.now) _ _ refl made.heads
    (c.in_ok-globals.ensures ∙ ap (λ g. map global_named (map global_of g)) c.deref.ensures.value) c.in_ok-ranges.ensures
    c.in_ok-texts.ensures (c.in_ok-code.ensures ∙ ap (λ x. lines.instrs_of (map line_instr x)) c.deref-2.ensures.value
    ∙ ap lines.instrs_of made.code) (c.in_ok-lines.ensures ∙ ap (λ x. lines.lines_of (map line_instr x)) c.deref-3.ensures.value
    ∙ ap lines.lines_of made.code) c.in_ok-numbers.ensures.holds

pub returns-clause-once : goal.returns-clause-once
returns-clause-once c =
    let made = c.in_ok-made.ensures in
    holds_each_once (program_of c.args.program.now) _ _ refl made.heads
    (c.in_ok-globals.ensures ∙ ap (λ g. map global_named (map global_of g)) c.deref.ensures.value) c.in_ok-ranges.ensures
    c.in_ok-texts.ensures (c.in_ok-code.ensures ∙ ap (λ x. lines.instrs_of (map line_instr x)) c.deref-2.ensures.value
    ∙ ap lines.instrs_of made.code) (c.in_ok-lines.ensures ∙ ap (λ x. lines.lines_of (map line_instr x)) c.deref-3.ensures.value
    ∙ ap lines.lines_of made.code) c.in_ok-numbers.ensures.ranges c.in_ok-numbers.ensures.texts
