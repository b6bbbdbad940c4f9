-- Shapes by their numbers, in what the calls of this crate answer.
use Rattle.std.specs.Prelude.{ℕ, ℤ, Option, Result, Ok, Err, option_map}
use Rattle.alma_names.specs.declared.shapes.ShapeId.{ShapeId}
use Rattle.alma_check_type.specs.declared.reading.Bound.{Bound}
use Rattle.alma_rules.specs.declared.error.CheckError.{CheckError}

-- a constant by the number of its shape
abbrev pub pair_of : ShapeId × ℤ → ℕ × ℤ
pair_of p = (p.0.0, p.1)

-- the answer about a constant, by the number of its shape
abbrev pub constant_in : Result (Option (ShapeId × ℤ)) CheckError → Result (Option (ℕ × ℤ)) CheckError
constant_in (Ok v) = Ok (option_map pair_of v)
constant_in (Err e) = Err e

-- a shape by its number
abbrev pub number_of : ShapeId → ℕ
number_of s = s.0

-- the answer about a type, by the number of its shape
abbrev pub shape_in : Result (Option ShapeId) CheckError → Result (Option ℕ) CheckError
shape_in (Ok v) = Ok (option_map number_of v)
shape_in (Err e) = Err e

-- the shape and the value of a constant that has one
abbrev pub pair_in : Bound → Option (ℕ × ℤ)
pair_in b = option_map (λ v. (b.shape, v)) b.constant
