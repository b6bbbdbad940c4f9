-- A block that begins and ends, and the headings that its end forgets.
use Rattle.std.specs.Prelude.{ℕ, zero, suc, ◌+◌, List, Option, None, set}
use Rattle.alma_names.specs.Scopes.{with_new_block, without_top_block}
use Rattle.alma_rules.specs.Scene.{Scene, Heading, Returns, nothing}

-- what a scene has that each block has of its own: the names that it declares, its routine, and what RETURN gives there
pub record Outer : Type 0 where
  pub declares : List (List ℕ × ℕ)
  pub routine : ℕ
  pub returns : Returns

-- what a scene has of its own block, which `leave_block` puts back
abbrev pub outer_of : Scene → Outer
outer_of s = record { declares = s.declares; routine = s.routine; returns = s.returns }

-- the scene of a new block of a routine, with the names that it declares
abbrev pub enter_block : Scene → (declares : List (List ℕ × ℕ)) → (routine : ℕ) → Scene
enter_block s declares routine =
    record s {
      blocks = with_new_block s.blocks;
      declares = declares;
      routine = routine;
      returns = nothing;
    }

-- the scene behind a block
abbrev pub leave_block : Scene → Outer → Scene
leave_block s outer =
    record s {
      blocks = without_top_block s.blocks;
      declares = outer.declares;
      routine = outer.routine;
      returns = outer.returns;
    }

-- the headings of which so many from one on are forgotten
abbrev pub clear : (first count : ℕ) → List (Option Heading) → List (Option Heading)
clear first zero headings = headings
clear first (suc n) headings = set (clear first n headings) (first + n) None
