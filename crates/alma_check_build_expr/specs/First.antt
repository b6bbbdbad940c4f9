-- What stands first behind the first operand.
use Rattle.std.specs.Prelude.{[], ◌∷◌, Option, None, Some}
use Rattle.alma_rules.specs.Parts as parts

-- the first operator of a sum or product
abbrev pub first_of : parts.Operands → Option parts.Operator
first_of [] = None
first_of (x ∷ xs) = Some x.0
