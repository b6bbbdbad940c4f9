-- Operators, comparisons, range checks and the texts of WRITE, with their faults.
use Rattle.std.specs.Prelude.{Bool, true, false, not, ℤ, pos, ◌+ℤ◌, ◌-ℤ◌, ◌*ℤ◌, neg_ℤ, int_lt, int_le, nat_abs, List, ℕ}
use Rattle.std.specs.Int.{int_rem_euclid}
use Rattle.alma_base.specs.Numbers.{within, is_integer, int_eq, is_zero, div_down_of, mod_down_of}
use Rattle.alma_base.specs.Value.{value_text}
use Rattle.alma_base.specs.declared.number.Range.{Range}
use Rattle.alma_base.specs.declared.fault.RunFault.{RunFault}
use Rattle.alma_base.specs.declared.fault.RunFault.TheVariants as fault
use Rattle.alma_base.specs.declared.value.Value.{Value}
use Rattle.alma_base.specs.declared.value.Value.TheVariants as value
use Rattle.alma_ir.specs.declared.phrase.Op.{Op}
use Rattle.alma_ir.specs.declared.phrase.Op.TheVariants as op
use Rattle.alma_ir.specs.declared.phrase.Cmp.{Cmp}
use Rattle.alma_ir.specs.declared.phrase.Cmp.TheVariants as cmp
use Rattle.alma_ir.specs.declared.phrase.WriteAs.{WriteAs}
use Rattle.alma_ir.specs.declared.phrase.WriteAs.TheVariants as write_as
use Rattle.alma_mean.specs.Store.{Store}
use Rattle.alma_mean.specs.Events.{Events, Fault, one}

-- goes on, or ends in a fault where the test is false
abbrev pub fault_unless : {A : Type 0} → RunFault → Bool → (Unit {0} → Events A) → Events A
fault_unless f true k = k tt
fault_unless f false k = Fault f 0

-- goes on where the number is in the range, or ends in fault Range
abbrev pub check_range : {A : Type 0} → Range → ℤ → (Unit {0} → Events A) → Events A
check_range range n k = fault_unless fault.Range (within range n) k

-- a number, or fault Overflow where it is none of INTEGER
abbrev pub check_integer : Store → ℤ → Events ℤ
check_integer s n = fault_unless fault.Overflow (is_integer n) (λ _. one s n)

-- an operator on two numbers, with fault Overflow outside INTEGER and fault ZeroDivide. The
-- remainder always fits, so the least number by -1 leaves 0 and no fault
abbrev pub apply_op : Store → Op → ℤ → ℤ → Events ℤ
apply_op s op.Add a b = check_integer s (a +ℤ b)
apply_op s op.Sub a b = check_integer s (a -ℤ b)
apply_op s op.Mul a b = check_integer s (a *ℤ b)
apply_op s op.Div a b = fault_unless fault.ZeroDivide (not (is_zero b)) (λ _. check_integer s (div_down_of a b))
apply_op s op.Mod a b = fault_unless fault.ZeroDivide (not (is_zero b)) (λ _. one s (mod_down_of a b))

-- the number, negated where the flag says so
abbrev pub apply_sign : Bool → Store → ℤ → Events ℤ
apply_sign false s n = one s n
apply_sign true s n = check_integer s (neg_ℤ n)

-- the comparison of two numbers is true
abbrev pub compares : Cmp → ℤ → ℤ → Bool
compares cmp.Equal a b = int_eq a b
compares cmp.Unequal a b = not (int_eq a b)
compares cmp.Less a b = int_lt a b
compares cmp.LessEq a b = int_le a b
compares cmp.Greater a b = int_lt b a
compares cmp.GreaterEq a b = int_le b a

-- what WRITE prints of a number: as a CHAR the byte is the number modulo 256, as a BOOLEAN 0 is
-- FALSE
abbrev pub printed_value : WriteAs → ℤ → Value
printed_value write_as.Int n = value.Int n
printed_value write_as.Char n = value.Char (nat_abs (int_rem_euclid n (pos 256)))
printed_value write_as.Bool n = value.Bool (not (is_zero n))

-- the bytes that WRITE prints of a number
abbrev pub written_text : WriteAs → ℤ → List ℕ
written_text how n = value_text (printed_value how n)
