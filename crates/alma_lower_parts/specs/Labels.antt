-- What the tests of labels put.
use Rattle.std.specs.Prelude.{ℕ, List, []}
use Rattle.alma_code.specs.declared.instr.Instr.{Instr}
use Rattle.alma_choice.specs.Emitted.{aim_jump}
use Rattle.alma_lower_work.specs.Front.{Front, Holes}
use Rattle.alma_lower_templates.specs.LineInstr.{own}

-- tests of labels at a line, whose last jumps, at these two addresses, are still to be aimed where the number lies in none
abbrev pub PutsLabels : (a b : Front) → (line low high : ℕ) → (code : (none at : ℕ) → List Instr) → Type 0
PutsLabels a b line low high code =
    Holes a b (λ to xs. aim_jump (aim_jump xs low to) high to) (λ none at lo ls. own line (code none at)) (λ ls. []) (λ ls. ls)
