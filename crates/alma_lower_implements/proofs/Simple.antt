-- Events that give one value and change nothing: those of simple expressions.
use Rattle.std.proofs.Common.{Bool, true, false, not, ℕ, ℤ}
use Rattle.alma_base.specs.declared.fault.RunFault.{RunFault}
use Rattle.alma_base.specs.Numbers.{is_zero}
use Rattle.alma_ir.specs.declared.phrase.Op.{Op}
use Rattle.alma_ir.specs.declared.phrase.Op.TheVariants as op
use Rattle.alma_mean.specs.Store.{Store}
use Rattle.alma_mean.specs.Store as store
use Rattle.alma_mean.specs.Events.{Events, Visit, Alt, Fault, Cut, Go, Fail, one, join, bind, visit_each, node}
use Rattle.alma_mean.specs.Rows.{read_cell}
use Rattle.alma_mean.specs.Arithmetic.{apply_op, apply_sign, fault_unless}

-- visits, and then one alternative with this store and nothing behind it, or a fault
pub data GivesOne (A : Type 0) (v : Store) : Events A → Type 0 where
  on_visit : {e : Events A} → GivesOne A v e → GivesOne A v (Visit e)
  on_one : {y : A} → GivesOne A v (Alt v (Go y) Fail)
  at_fault : {f : RunFault} {l : ℕ} → GivesOne A v (Fault f l)
  at_cut : GivesOne A v Cut

one_joined : {A : Type 0} {v : Store} {e : Events A} → GivesOne A v e → GivesOne A v (join e Fail)
one_joined (on_visit h) = on_visit (one_joined h)
one_joined on_one = on_one
one_joined at_fault = at_fault
one_joined at_cut = at_cut

pub one_bound : {A B : Type 0} {v : Store} {e : Events A} (k : Store → A → Events B) → GivesOne A v e → ((y : A) → GivesOne B v (k v y))
    → GivesOne B v (bind e k)
one_bound k (on_visit h) rest = on_visit (one_bound k h rest)
one_bound k (on_one {y = y}) rest = one_joined (rest y)
one_bound k at_fault rest = at_fault
one_bound k at_cut rest = at_cut

one_each : {A : Type 0} {v : Store} {e : Events A} → GivesOne A v e → GivesOne A v (visit_each e)
one_each (on_visit h) = on_visit (one_each h)
one_each on_one = on_visit on_one
one_each at_fault = at_fault
one_each at_cut = at_cut

pub one_noded : {A : Type 0} {v : Store} {e : Events A} → GivesOne A v e → GivesOne A v (node e)
one_noded h = on_visit (one_each h)

pub one_read : (v : Store) (c : store.Cell) → GivesOne ℤ v (read_cell c (λ x. one v x))
one_read v (store.Number n) = on_one
one_read v store.Unknown = at_fault
one_read v (store.At q) = at_fault

pub one_checked : (v : Store) (f : RunFault) (b : Bool) (z : ℤ) → GivesOne ℤ v (fault_unless f b (λ _. one v z))
one_checked v f true z = on_one
one_checked v f false z = at_fault

one_unless : (v : Store) (f : RunFault) (b : Bool) (e : Events ℤ) → GivesOne ℤ v e → GivesOne ℤ v (fault_unless f b (λ _. e))
one_unless v f true e h = h
one_unless v f false e h = at_fault

pub one_op : (v : Store) (how : Op) (a b : ℤ) → GivesOne ℤ v (apply_op v how a b)
one_op v op.Add a b = one_checked v _ _ _
one_op v op.Sub a b = one_checked v _ _ _
one_op v op.Mul a b = one_checked v _ _ _
one_op v op.Div a b = one_unless v _ (not (is_zero b)) _ (one_checked v _ _ _)
one_op v op.Mod a b = one_unless v _ (not (is_zero b)) _ on_one

pub one_sign : (v : Store) (negated : Bool) (a : ℤ) → GivesOne ℤ v (apply_sign negated v a)
one_sign v false a = on_one
one_sign v true a = one_checked v _ _ _
