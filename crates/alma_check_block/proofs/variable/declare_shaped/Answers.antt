use Rattle.std.proofs.Common.{true, false, ap, sym, ◌∙◌}
use Rattle.alma_rules.specs.Judgement.{broken_at}
use Rattle.alma_rules.specs.Scene.{is_first}
use Rattle.alma_rules.specs.Types.{redeclaration_rules}
use Rattle.alma_rules.specs.View as view
use Rattle.alma_check_block.specs.Shown.{told_frame}
use Rattle.alma_check_block.proofs.Texts.{ok_eq}
use Rattle.alma_check_block.proofs.Frames.{scene_is, scene_in, twice_at, variable_first, variable_later}
use Rattle.alma_check_block.proofs.variable.declare_shaped.Goals as goal

pub returns-then-is_first : goal.returns-then-is_first
returns-then-is_first c f h =
    ok_eq _ _ _ _ (ap (λ g. told_frame g) (sym (variable_first f c.args.from c.args.shape (view.view_name c.args.name.now)
    (scene_in (λ i. is_first i (view.view_name c.args.name.now)) c.args.reader.now f.scene true
    (scene_is c.args.reader.now c.args.frame.now f h) (sym c.is_first.ensures ∙ c.if-is_first.true))))) (c.place_variable.ensures f h)

pub returns : goal.returns
returns c f h =
    c.add_fault.ensures c.args.reader.now f (broken_at c.args.name.now.node (redeclaration_rules f.scene (view.view_name c.args.name.now)))
    h
    (twice_at c.args.reader.now f.scene (view.view_name c.args.name.now) _ (scene_is c.args.reader.now c.args.frame.now f h)
    c.redeclared.ensures)
    ∙ ap (λ g. told_frame g) (sym (variable_later f c.args.from c.args.shape (view.view_name c.args.name.now)
    (scene_in (λ i. is_first i (view.view_name c.args.name.now)) c.args.reader.now f.scene false
    (scene_is c.args.reader.now c.args.frame.now f h) (sym c.is_first.ensures ∙ c.if-is_first.false))))
