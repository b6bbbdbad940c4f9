use Rattle.std.proofs.Common.{arith, ◌≡◌, ℕ, ◌+◌, ◌++◌, ◌<◌, List, length, take, drop, get_or, sym, subst}
use Rattle.std.proofs.lemmas.List.{take_at, get_or_default}
use Rattle.alma_lower_slots.specs.declared.stretch.Stretch.{Stretch}
use Rattle.alma_lower_slots.specs.Inner.Checks.{Takes, Rise}
use Rattle.alma_lower_slots.specs.Stretches.{own_stretch, stretch_at}
use Rattle.alma_lower_slots.proofs.CheckSteps.{rise_more, rise_apart}
use Rattle.alma_lower_slots.proofs.apart.are_apart.Goals as goal

pub loop-stretch-preserved : goal.loop-stretch-preserved
loop-stretch-preserved c =
    let stretches : List Stretch = c.args.stretches.now in
    let i : ℕ = c.loop-stretch.stretch-index in
    let old : List ℕ = c.loop-stretch.ends.items in
    let new : List ℕ = c.take.new.ends in
    let lt : i < length stretches = c.loop-stretch-test.true in
    let value : c.deref_mut.result.now ≡ old = c.deref_mut.ensures.value in
    let item : get_or stretches i (record { slot = 0; low = 0; high = 0 }) ≡ stretch_at stretches i =
    get_or_default stretches i (record { slot = 0; low = 0; high = 0 }) (own_stretch i) lt in
    let taken : Takes old new (stretch_at stretches i) =
    subst (λ x. Takes old new x) item
    (subst (λ xs. Takes xs new (get_or stretches i (record { slot = 0; low = 0; high = 0 }))) value
    (c.take.ensures c.if-not-take.false)) in
    let is : take c.loop-stretch.ends.len (new ++ drop (length new) old) ≡ new =
    take_at new (drop (length new) old) c.loop-stretch.ends.len
    (omega (arith, c.take.auto.ends, c.deref_mut.ensures.len, c.loop-stretch.ends.ok)) in
    subst (λ xs. Rise stretches (i + 1) xs) (sym is) (rise_more stretches i old new c.loop-stretch.invariant taken)

pub returns : goal.returns
returns c = λ yes.
    rise_apart c.args.stretches.now c.loop-stretch.stretch-index c.loop-stretch.ends.items c.loop-stretch-test.false
    c.loop-stretch.invariant
