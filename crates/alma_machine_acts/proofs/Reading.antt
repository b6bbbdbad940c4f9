-- What READ gives.
use Rattle.std.proofs.Common.{◌≡◌, ℕ, suc, ◌+◌, ◌-◌, ◌*◌, ◌<◌, ◌≤◌, List, [], ◌∷◌, length, get_or, drop, refl, sym, ap, ◌∙◌, subst, arith}
use Rattle.std.proofs.Common.{Some}
use Rattle.std.specs.Prelude.{ℤ, pos, negsuc, slice_get, Option, Bool, true, false, nat_eq, nat_abs}
use Rattle.std.proofs.lemmas.List.{drop_all, length-drop}
use Rattle.std.proofs.lemmas.Option.{slice_get-get_or}
use Rattle.alma_base.specs.Choice.{if_true}
use Rattle.alma_base.specs.Numbers.{is_integer, within}
use Rattle.alma_base.specs.declared.number.Range.{Range}
use Rattle.alma_base.specs.declared.number.ReadInt.{ReadInt}
use Rattle.alma_base.specs.declared.number.ReadInt.TheVariants.{Number, NoNumber, TooLarge}
use Rattle.alma_base.specs.declared.fault.RunFault.TheVariants as fault
use Rattle.alma_base.specs.Reading.{is_blank, is_digit, signed_value, sized, ended, digits_on, sign_on, number_on}
use Rattle.alma_base.specs.Reading.{number_from}
use Rattle.alma_code.specs.declared.cell.Cell.{Cell}
use Rattle.alma_code.specs.declared.cell.Cell.TheVariants as cell
use Rattle.alma_code.specs.declared.cell.CellPlace.{CellPlace}
use Rattle.alma_code.specs.Fits.{IsPosition}
use Rattle.alma_code.specs.Machine.{State, StepResult, position, as_position, byte_or_failure, takes_read, take_input, ends_in_fault, store}
use Rattle.alma_code.specs.Machine.{quiet_step, with_cell}
use Rattle.alma_code.specs.Picture.{PlainFrame, no_frame, cell_at}
use Rattle.alma_machine_acts.specs.Inputs.{HasPosition, IsBelow}
use Rattle.alma_machine_acts.specs.Rows.{HasNumberIn}
use Rattle.alma_machine_acts.proofs.Stays.{number_stays}
use Rattle.alma_machine_acts.proofs.Words.{any_or, store_is}

-- ---- the place behind a number

-- the place behind a number, where there is one, is at most top
abbrev pub IsAtMost : (top : ℕ) → ReadInt → Type 0
IsAtMost top (Number v behind) = behind ≤ top
IsAtMost top NoNumber = Unit {0}
IsAtMost top TooLarge = Unit {0}

either : (top : ℕ) (b : Bool) (x y : Unit {0} → ReadInt) → IsAtMost top (x tt) → IsAtMost top (y tt) → IsAtMost top (if_true b x y)
either top true x y h g = h
either top false x y h g = g

sized_most : (top : ℕ) (b : Bool) (v : ℤ) (place : ℕ) → place ≤ top → IsAtMost top (sized b v place)
sized_most top true v place le = le
sized_most top false v place le = tt

ended_most : (top : ℕ) (any negative : Bool) (value place : ℕ) → place ≤ top → IsAtMost top (ended any negative value place)
ended_most top true negative value place le =
    sized_most top (is_integer (signed_value negative value)) (signed_value negative value) place le
ended_most top false negative value place le = tt

digits_most : (top : ℕ) (any negative : Bool) (value place : ℕ) (rest : List ℕ) → place + length rest ≤ top
    → IsAtMost top (digits_on any negative value place rest)
digits_most top any negative value place [] le = ended_most top any negative value place (omega arith)
digits_most top any negative value place (c ∷ rest) le =
    either top (is_digit c) (λ _. digits_on true negative (value * 10 + (c - 48)) (suc place) rest)
    (λ _. ended any negative value place)
    (digits_most top true negative (value * 10 + (c - 48)) (suc place) rest (omega arith))
    (ended_most top any negative value place (omega arith))

sign_most : (top place : ℕ) (rest : List ℕ) → place + length rest ≤ top → IsAtMost top (sign_on place rest)
sign_most top place [] le = tt
sign_most top place (c ∷ rest) le =
    either top (nat_eq c 45) (λ _. digits_on false true 0 (suc place) rest)
    (λ _. if_true (nat_eq c 43) (λ _. digits_on false false 0 (suc place) rest) (λ _. digits_on false false 0 place (c ∷ rest)))
    (digits_most top false true 0 (suc place) rest (omega arith))
    (either top (nat_eq c 43) (λ _. digits_on false false 0 (suc place) rest) (λ _. digits_on false false 0 place (c ∷ rest))
    (digits_most top false false 0 (suc place) rest (omega arith)) (digits_most top false false 0 place (c ∷ rest) le))

number_most : (top place : ℕ) (rest : List ℕ) → place + length rest ≤ top → IsAtMost top (number_on place rest)
number_most top place [] le = tt
number_most top place (c ∷ rest) le =
    either top (is_blank c) (λ _. number_on (suc place) rest) (λ _. sign_on place (c ∷ rest))
    (number_most top (suc place) rest (omega arith)) (sign_most top place (c ∷ rest) le)

below_from : (read : ReadInt) (top : ℕ) → top ≤ 16777216 → IsAtMost top read → IsBelow read
below_from (Number v behind) top le h = omega arith
below_from NoNumber top le h = tt
below_from TooLarge top le h = tt

-- a number that is found is in the input
pub read_below : (input : List ℕ) (from : ℕ) → length input ≤ 16777216 → from ≤ length input → IsBelow (number_from input from)
read_below input from few le = below_from (number_from input from) (length input) few
    (number_most (length input) from (drop from input) (omega (arith, length-drop from input)))

-- behind the input there is none
pub none_behind : (input : List ℕ) (from : ℕ) → length input < from → NoNumber ≡ number_from input from
none_behind input from lt = sym (ap (number_on from) (drop_all from input (omega arith)))

pub ruleset finds = (read_below, none_behind)

-- ---- the position

-- a position is read
position_read : (c : Cell) (v : ℤ) (s : State) (k : ℕ → StepResult) → IsPosition c → c ≡ cell.Int v
    → as_position (Some c) s k ≡ k (nat_abs v)
position_read (cell.Int (pos n)) v s k h is = ap (λ (c : Cell). as_position (Some c) s k) is ∙ at v (subst IsPosition is h)
  where
    at : (v : ℤ) → IsPosition (cell.Int v) → as_position (Some (cell.Int v)) s k ≡ k (nat_abs v)
    at (pos n) h = refl
    at (negsuc n) h = absurd h
position_read (cell.Int (negsuc n)) v s k h is = absurd h
position_read cell.Unknown v s k h is = absurd h
position_read cell.Unset v s k h is = absurd h
position_read (cell.Place p) v s k h is = absurd h
position_read (cell.Mark m) v s k h is = absurd h

pub position_is : (now : List PlainFrame) (v : ℤ) (s : State) (k : ℕ → StepResult) → HasPosition now
    → cell.Int v ≡ cell_at now 0 0 cell.Unknown → s.now ≡ now → position s k ≡ k (nat_abs v)
position_is now v s k h is same =
    let cs = (get_or now 0 no_frame).cells in
    ap (λ fs. as_position (slice_get (get_or fs 0 no_frame).cells 0) s k) same
    ∙ ap (λ o. as_position o s k) (slice_get-get_or cs 0 cell.Unset h.number.below)
    ∙ position_read (get_or cs 0 cell.Unset) v s k h.position (any_or now 0 0 h.number ∙ sym is)

-- what it holds is a position
pub position_held : (now : List PlainFrame) (c : Cell) → HasPosition now → c ≡ cell_at now 0 0 cell.Unknown → IsPosition c
position_held now c h is = subst IsPosition (any_or now 0 0 h.number ∙ sym is) h.position

-- its slot is there
pub position_slot : (now : List PlainFrame) → HasPosition now → HasNumberIn now 0 0
position_slot now h = h.number

pub ruleset positions = (position_is, position_held, position_slot)

-- a byte is read as a number
pub byte_read : (o : Option ℕ) (s : State) (r : Range) (p : CellPlace) (at byte : ℕ) → o ≡ Some byte
    → byte_or_failure s r p at o ≡ takes_read s r p (Number (pos byte) (at + 1))
byte_read o s r p at byte is = ap (byte_or_failure s r p at) is

-- ---- what is taken

-- a number in the range goes to its place, and the position behind it
pub took_is : (s : State) (r : Range) (p : CellPlace) (v : ℤ) (behind : ℕ) → within r v ≡ true → HasNumberIn s.now 0 0
    → HasNumberIn s.now p.frame p.slot
    → take_input s r p v behind ≡ quiet_step (with_cell (with_cell s 0 0 (cell.Int (pos behind))) p.frame p.slot (cell.Int v))
took_is s r p v behind inside zero there =
    let t = with_cell s 0 0 (cell.Int (pos behind)) in
    ap (λ b. if_true b (λ _. store s 0 0 (pos behind) (λ t. store t p.frame p.slot v quiet_step)) (λ _. ends_in_fault fault.Range s)) inside
    ∙ store_is s 0 0 (pos behind) (λ t. store t p.frame p.slot v quiet_step) zero
    ∙ store_is t p.frame p.slot v quiet_step (number_stays s.now 0 0 (pos behind) p.frame p.slot there)

-- one outside ends the run
pub took_out : (s : State) (r : Range) (p : CellPlace) (v : ℤ) (behind : ℕ) → within r v ≡ false
    → take_input s r p v behind ≡ ends_in_fault fault.Range s
took_out s r p v behind out = ap (λ b. if_true b (λ _. store s 0 0 (pos behind) (λ t. store t p.frame p.slot v quiet_step))
    (λ _. ends_in_fault fault.Range s)) out

pub ruleset takes = (took_is, took_out, number_stays)
