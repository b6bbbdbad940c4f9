-- What so many steps of a program show, in words of its meaning.
use Rattle.std.specs.Prelude.{◌≡◌, ◌<◌, ◌+◌, ◌*◌, ◌/◌, ◌++◌, suc, ℕ, List, [], Option, None, Some, codes, decimal}
use Rattle.alma_code.specs.Machine.{Mode, Going, Failing, Ended, Stuck}
use Rattle.alma_ir.specs.Count.{saturate, nodes}
use Rattle.alma_ir.specs.Tree.{Program}
use Rattle.alma_lower_implements.specs.Implements.{Covers, meant_end, visit_steps}
use Rattle.alma_mean.specs.Events.{End, CutOff, first, end_of, visit_count}
use Rattle.alma_mean.specs.Meaning.{ev_program, result}

-- the size of a program, by which its code is limited
abbrev pub size_of : Program → ℕ
size_of p = saturate (16 * nodes p)

-- So many steps may not be enough for the meaning of the program: at 32 steps for each visit, and 32 more, they would be.
abbrev pub MayRunOut : Program → (input : List ℕ) → (steps : ℕ) → Type 0
MayRunOut p input steps =
    (level : ℕ) → (end_of (first (ev_program level p input)) ≡ CutOff → ⊥)
    → steps < visit_steps * (visit_count (first (ev_program level p input)) + 1)

-- the words for the line of a fault, if it is known
abbrev pub line_text : Option ℕ → List ℕ
line_text None = []
line_text (Some line) = codes " line " ++ decimal line

-- the end, in the words of the meaning, of a machine that is left in this mode: cut off where its steps ran out
abbrev pub shown_end : Mode → (line : ℕ) → End
shown_end (Ended e) line = meant_end e line
shown_end Going line = CutOff
shown_end Failing line = CutOff
shown_end Stuck line = CutOff

-- So many steps show these prints and this end: the result of the meaning, or, where they ran out, a front of its prints that covers
-- one visit for each 32 steps.
pub data Shows (p : Program) (input : List ℕ) (steps : ℕ) (printed : List ℕ) (end : End) : Type 0 where
  whole : (end ≡ CutOff → ⊥) → result (suc steps) p input ≡ (printed, end) → Shows p input steps printed end
  front : end ≡ CutOff → Covers (first (ev_program (suc steps) p input)) printed (steps / visit_steps) → MayRunOut p input steps
      → Shows p input steps printed end
