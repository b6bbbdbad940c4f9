-- Numbers behind spaces.
use Rattle.std.specs.Prelude.{ℕ, List, ◌∷◌}
use Rattle.std.specs.Fmt.{decimal}

-- a number in decimal, behind a space
abbrev pub behind_space : ℕ → List ℕ
behind_space number = 32 ∷ decimal number
