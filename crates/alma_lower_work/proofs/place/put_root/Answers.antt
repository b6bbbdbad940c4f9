-- Each root by its instruction, and those of frames round the one in hand behind the links to them.
use Rattle.std.proofs.Common.{◌+◌, [], ◌∷◌, ◌++◌, refl, ap, ◌∙◌}
use Rattle.alma_code.specs.declared.instr.Instr.TheVariants as I
use Rattle.alma_lower_templates.specs.Pieces.{link_code}
use Rattle.alma_lower_templates.specs.Slots.{shift_of}
use Rattle.alma_lower_work.specs.Front.{around}
use Rattle.alma_lower_work.proofs.DesigForms.{one_root, linked_root}
use Rattle.alma_lower_work.proofs.place.put_root.Goals as goal

pub returns-in_ok-first-in-Local : goal.returns-in_ok-first-in-Local
returns-in_ok-first-in-Local c next =
    one_root (around c.args.scene.now) c.args.line _ _ _ c.args.to c.args.root _ _ c.in-Local.is
    (ap (λ n. I.Local c.args.to n ∷ []) c.in_ok-first-in-Local.ensures) refl
    c.add.ensures

pub returns-in-Global : goal.returns-in-Global
returns-in-Global c next =
    one_root (around c.args.scene.now) c.args.line _ _ _ c.args.to c.args.root _ _ c.in-Global.is refl refl c.add-in-Global.ensures

pub returns-in_ok-from-in-Param : goal.returns-in_ok-from-in-Param
returns-in_ok-from-in-Param c next =
    one_root (around c.args.scene.now) c.args.line _ _ _ c.args.to c.args.root _ _ c.in-Param.is
    (ap (λ n. I.Same c.args.to n ∷ []) c.in_ok-from-in-Param.ensures) refl
    c.add-in-Param.ensures

pub returns-in_ok-link-in-Outer : goal.returns-in_ok-link-in-Outer
returns-in_ok-link-in-Outer c next =
    let s = around c.args.scene.now in
    let to = c.args.to in
    let links = c.in-Outer.links in
    linked_root s c.args.line _ _ _ _ to links c.args.root _ _ c.in-Outer.is next
    (ap (λ n. link_code (to + 1) links ++ (I.Outer to n c.in_ok-first-in-Outer.first ∷ []))
    (c.in_ok-link-in-Outer.ensures.slot ∙ ap (λ n. n + links) next)
    ∙ ap (λ n. link_code (to + 1) links ++ (I.Outer to (to + 1 + links) n ∷ []))
    (c.in_ok-first-in-Outer.ensures ∙ ap (λ n. shift_of s.program n + c.in-Outer.from) c.outermost.ensures))
    refl c.in_ok-link-in-Outer.ensures.puts c.add-in-Outer.ensures

pub returns-in_ok-link-in-OuterParam : goal.returns-in_ok-link-in-OuterParam
returns-in_ok-link-in-OuterParam c next =
    let s = around c.args.scene.now in
    let to = c.args.to in
    let links = c.in-OuterParam.links in
    linked_root s c.args.line _ _ _ _ to links c.args.root _ _ c.in-OuterParam.is next
    (ap (λ n. link_code (to + 1) links ++ (I.OuterSame to n c.in_ok-slot-in-OuterParam.slot ∷ []))
    (c.in_ok-link-in-OuterParam.ensures.slot ∙ ap (λ n. n + links) next)
    ∙ ap (λ n. link_code (to + 1) links ++ (I.OuterSame to (to + 1 + links) n ∷ []))
    (c.in_ok-slot-in-OuterParam.ensures ∙ ap (λ n. shift_of s.program n + c.in-OuterParam.from) c.outermost-in-OuterParam.ensures))
    refl c.in_ok-link-in-OuterParam.ensures.puts c.add-in-OuterParam.ensures
