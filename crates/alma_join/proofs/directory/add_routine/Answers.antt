use Rattle.std.proofs.Common.{◌≡◌, refl, false, arith}
use Rattle.std.specs.Prelude.{nat_eq}
use Rattle.std.proofs.lemmas.Bool.{eq-eqb}
use Rattle.std.proofs.lemmas.Bool.Decides.{nat_tests}
use Rattle.alma_join.proofs.Sharing.{entered, passed}
use Rattle.alma_join.proofs.directory.add_routine.Goals as goal

pub returns-in_ok-add_entry : goal.returns-in_ok-add_entry
returns-in_ok-add_entry c = entered c.args.directory.now _ c.args.unit _ c.in_ok-directory.ensures
    (eq-eqb c.args.routine.now.level 1 c.if-routine-eq1.true) c.in_ok-add_entry.ensures.own c.in_ok-add_entry.ensures.others

pub returns-else-routine-eq1 : goal.returns-else-routine-eq1
returns-else-routine-eq1 c =
    let other : nat_eq c.args.routine.now.level 1 ≡ false = grind (arith, nat_tests, c.if-routine-eq1.false) in
    passed c.args.directory.now _ c.args.unit _ c.in_ok-directory.ensures other (λ q. refl)
