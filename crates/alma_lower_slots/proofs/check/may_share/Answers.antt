use Rattle.std.proofs.Common.{arith, ◌≤◌, subst}
use Rattle.alma_code.specs.Plain.{code_of}
use Rattle.alma_lower_slots.specs.Inner.Checks.{KeepsOwn}
use Rattle.alma_lower_slots.specs.Sharing.{params_slots}
use Rattle.alma_lower_slots.proofs.CheckFits.{fits_routine}
use Rattle.alma_lower_slots.proofs.check.may_share.Goals as goal

pub returns : goal.returns
returns c = record {
  fits = λ yes.
      fits_routine (code_of c.args.code.now) c.args.own.now c.args.kinds.now c.args.stretches.now c.args.routine c.requires.kinds
      (omega (arith, c.own_of-count.ensures, c.if-count-eq0.false))
      (subst (λ n. params_slots (code_of c.args.code.now) c.args.routine ≤ n) c.own_of-count.ensures
      (c.params_are_own.ensures c.if-not-params_are_own.false))
      (subst (λ n. KeepsOwn n c.args.stretches.now) c.own_of-count.ensures (c.keeps_own.ensures c.if-not-keeps_own.false))
      (c.in_ok-bodies.ensures c.if-not-bodies.false) (c.in_ok-apart.ensures c.if-not-apart.false)
      (omega (arith, c.if-stretches-kinds.false)) (c.fit_slots.ensures c.if-not-fit_slots.false)
      (c.fit_instrs.ensures yes);
}
