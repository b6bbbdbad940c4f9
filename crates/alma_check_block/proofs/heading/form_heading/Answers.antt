use Rattle.std.proofs.Common.{None, Some, map, ap, sym, ◌∙◌}
use Rattle.alma_rules.specs.Scene.{Heading}
use Rattle.alma_check_rules.specs.Views.{formal_view}
use Rattle.alma_check_block.proofs.Headings.{heading_broken, heading_is}
use Rattle.alma_check_block.proofs.heading.form_heading.Goals as goal

pub returns-then-is_some : goal.returns-then-is_some
returns-then-is_some c s f h = heading_broken s c.args.frame.now f h c.args.returns (sym c.is_some.ensures ∙ c.if-is_some.true)

pub returns-in-None : goal.returns-in-None
returns-in-None c s f h = heading_is s c.args.frame.now f h c.args.returns None (sym c.is_some.ensures ∙ c.if-is_some.false)
    (rw (c.in-None.is, c.deref.ensures.value) at c.in_ok-all_formals.ensures)

pub returns-in_ok-copy_params-in-Some : goal.returns-in_ok-copy_params-in-Some
returns-in_ok-copy_params-in-Some c s f h =
    ap (λ p. Some (let g : Heading = record { formals = map formal_view c.in-Some.formals.items; result = c.args.returns; params = p } in
    g)) (rw c.deref-in-Some.ensures.value at c.in_ok-copy_params-in-Some.ensures)
    ∙ heading_is s c.args.frame.now f h c.args.returns (Some c.in-Some.formals) (sym c.is_some.ensures ∙ c.if-is_some.false)
    (rw (c.in-Some.is, c.deref.ensures.value) at c.in_ok-all_formals.ensures)
