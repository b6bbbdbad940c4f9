-- The rules on statements, and those of each node in the order of CheckFault.
use Rattle.std.specs.Prelude.{ℕ, ℤ, Bool, true, false, ◌&&◌, ◌||◌, not, nat_eq, int_le, int_lt, List, [], ◌∷◌, ◌++◌, Option, None, Some}
use Rattle.alma_base.specs.declared.fault.CheckFault.{CheckFault}
use Rattle.alma_base.specs.declared.fault.CheckFault.TheVariants as fault
use Rattle.alma_base.specs.declared.number.Range.{Range}
use Rattle.alma_base.specs.Numbers.{is_zero}
use Rattle.alma_rules.specs.Judgement.{when, holds, both_of}
use Rattle.alma_rules.specs.Scene.{Scene, Returns, nothing, a_value, Found, absent, bad, variable, routine, base, is_structured}
use Rattle.alma_rules.specs.Scene.{has_integer, has_char, has_boolean, are_compatible}
use Rattle.alma_rules.specs.Parts.{Typing, Location, Span}
use Rattle.alma_rules.specs.ExprRules.{undeclared, no_integer, structured}

-- TypeMismatch: := with types that are not compatible
abbrev pub unlike_sides : Scene → Location × Typing → Bool
unlike_sides s p = not (are_compatible s p.0.shape p.1.shape)

-- the rules on an assignment
abbrev pub assign_rules : Scene → Option (Location × Typing) → List CheckFault
assign_rules s v = when (holds (unlike_sides s) v) fault.TypeMismatch

-- ---- loops

-- NotVariable: a loop Name that names no variable
abbrev pub no_loop_variable : Scene → Found → Bool
no_loop_variable s absent = false
no_loop_variable s bad = false
no_loop_variable s (variable shape root) = false
no_loop_variable s (routine r up None) = s.constant
no_loop_variable s f = true

-- the rules on a loop Name
abbrev pub loop_name_rules : Scene → Found → Option Location → List CheckFault
loop_name_rules s f v = when (undeclared f) fault.Undeclared ++ when (no_loop_variable s f) fault.NotVariable

-- an expression of another base than this shape
abbrev pub other_base : Scene → ℕ → Typing → Bool
other_base s shape t = not (nat_eq (base s shape) (base s t.shape))

-- TypeMismatch: a loop variable that is structured, or a bound of another base
abbrev pub bad_loop : Scene → Option Typing → Option Typing → Location → Bool
bad_loop s low high l = is_structured s l.shape || holds (other_base s l.shape) low || holds (other_base s l.shape) high

-- the rules on a loop
abbrev pub loop_rules : {A : Type 0} → Scene → Option Location → Option Typing → Option Typing → Option A → List CheckFault
loop_rules s var low high v = when (holds (bad_loop s low high) var) fault.TypeMismatch

-- ConstRange: a step behind BY that is zero
abbrev pub zero_step : Scene → Typing → Bool
zero_step s t = has_integer s t.shape && holds is_zero t.constant

-- BY: TypeMismatch where it is not of base INTEGER, and ConstRange where it is zero
abbrev pub by_rules : Scene → Option Typing → List CheckFault
by_rules s v = when (holds (no_integer s) v) fault.TypeMismatch ++ when (holds (zero_step s) v) fault.ConstRange

-- ---- CASE

-- TypeMismatch: a CASE value that is structured
abbrev pub case_rules : {A : Type 0} → Scene → Option Typing → Option A → List CheckFault
case_rules s case v = when (holds (structured s) case) fault.TypeMismatch

-- TypeMismatch: a Label of another base than the CASE value
abbrev pub other_label : Scene → Option Typing → Option Typing → Typing → Bool
other_label s low high case =
    not (is_structured s case.shape) && (holds (other_base s case.shape) low || holds (other_base s case.shape) high)

-- the two ends of a label with one base
abbrev pub ends_with : Scene → Typing × Typing → Bool
ends_with s p = nat_eq (base s p.0.shape) (base s p.1.shape)

-- the first value is above the second, where there are both
abbrev pub is_above : Option ℤ → Option ℤ → Bool
is_above (Some a) (Some b) = int_lt b a
is_above a b = false

-- ConstRange: a label range with low above high
abbrev pub low_above_high : Scene → Typing × Typing → Bool
low_above_high s p = ends_with s p && is_above p.0.constant p.1.constant

-- the two ranges have a value in common
abbrev pub share_value : Range → Range → Bool
share_value a b = int_le a.low b.high && int_le b.low a.high

-- a label shares a value with one of these
abbrev pub shares_value : Span → List Span → Bool
shares_value x [] = false
shares_value x (y ∷ ys) = (nat_eq x.base y.base && share_value x.range y.range) || shares_value x ys

-- the same, of a label that there may not be
abbrev pub shares_with : List Span → Option Span → Bool
shares_with earlier None = false
shares_with earlier (Some x) = shares_value x earlier

-- LabelTwice: a Label that shares a value with an earlier Label of the same CASE
abbrev pub label_twice : Scene → List Span → (Typing × Typing → Option Span) → Typing × Typing → Bool
label_twice s earlier span p = ends_with s p && not (is_above p.0.constant p.1.constant) && shares_with earlier (span p)

-- the rules on a Label
abbrev pub label_rules : {A : Type 0} → Scene → Option Typing → List Span → (Typing × Typing → Option Span) → Option Typing → Option Typing
    → Option A → List CheckFault
label_rules s case earlier span low high v =
    when (holds (other_label s low high) case) fault.TypeMismatch
    ++ when (holds (low_above_high s) (both_of low high)) fault.ConstRange
    ++ when (holds (label_twice s earlier span) (both_of low high)) fault.LabelTwice

-- ---- RETURN

-- TypeMismatch: RETURN with an expression of another base than the result
abbrev pub other_result : Scene → Returns → Typing → Bool
other_result s nothing t = false
other_result s (a_value None) t = false
other_result s (a_value (Some shape)) t = other_base s shape t

-- ReturnForm: RETURN with an expression outside a function, or without one in a function
abbrev pub other_form : (with_value : Bool) → Returns → Bool
other_form with_value nothing = with_value
other_form with_value (a_value shape) = not with_value

-- JumpOut: RETURN inside FORALL, COMMIT, NOT or a parenthesised sequence
abbrev pub return_rules : Scene → (with_value : Bool) → Option Typing → List CheckFault
return_rules s with_value v =
    when (holds (other_result s s.returns) v) fault.TypeMismatch
    ++ when (other_form with_value s.returns) fault.ReturnForm
    ++ when s.inside fault.JumpOut

-- ---- READ and WRITE

-- BadRead: a READ designator whose base is neither INTEGER nor CHAR
abbrev pub unreadable : Scene → Location → Bool
unreadable s l = not (has_integer s l.shape || has_char s l.shape)

-- the rules on a designator of READ
abbrev pub read_rules : Scene → Option Location → List CheckFault
read_rules s v = when (holds (unreadable s) v) fault.BadRead

-- BadWrite: an item that is neither of base INTEGER, CHAR or BOOLEAN nor a literal
abbrev pub unwritable : Scene → Typing → Bool
unwritable s t = not (has_integer s t.shape || has_char s t.shape || has_boolean s t.shape)

-- the rules on an item of WRITE
abbrev pub write_rules : Scene → Option Typing → List CheckFault
write_rules s v = when (holds (unwritable s) v) fault.BadWrite
