use Rattle.std.proofs.Common.{refl, sym, subst, ◌∙◌}
use Rattle.std.specs.Prelude.{Some}
use Rattle.alma_code.specs.Machine.{place, equation, quiet_step}
use Rattle.alma_machine.specs.Quick.{Quietly}
use Rattle.alma_machine.specs.View.{run_state}
use Rattle.alma_machine_acts.proofs.Words.{one_slot}
use Rattle.alma_machine.proofs.quick_cells.unify_quickly.Goals as goal

pub equate_quickly-requires : goal.equate_quickly-requires
equate_quickly-requires c =
    let now = c.args.registers.now.memory.now in
    record {
      left = one_slot now _ c.in-Ok.one c.in-Ok.ensures.0 c.requires.left.one;
      right = one_slot now _ c.in-Ok-place.other c.in-Ok-place.ensures.0 c.requires.right.one;
    }

pub returns : goal.returns
returns c =
    let s = run_state c.args.registers.now in
    let a = c.args in
    let p = c.in-Ok.one in
    subst (Quietly _ _ _) (sym (c.in-Ok.ensures.1 s
    (λ p. place s a.right (λ q. equation s p.frame p.slot (Some a.first) q.frame q.slot (Some a.second) quiet_step)) refl
    ∙ c.in-Ok-place.ensures.1 s (λ q. equation s p.frame p.slot (Some a.first) q.frame q.slot (Some a.second) quiet_step) refl))
    c.equate_quickly.ensures
