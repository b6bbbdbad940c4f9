-- The outermost scene.
use Rattle.std.specs.Prelude.{ℕ, false, List, [], replicate, None}
use Rattle.alma_scan.specs.Tokens.{Lexeme}
use Rattle.alma_names.specs.Shapes.{first_shapes}
use Rattle.alma_names.specs.Scopes.{first_blocks}
use Rattle.alma_rules.specs.Scene.{Scene, nothing}

-- where nothing is declared but the names that stand outside each module, and no heading of so many routines is read yet
abbrev pub outermost : List ℕ → List Lexeme → (routines : ℕ) → Scene
outermost source tokens routines =
    record {
      source = source;
      tokens = tokens;
      shapes = first_shapes;
      blocks = first_blocks;
      headings = replicate routines None;
      declares = [];
      routine = 0;
      returns = nothing;
      constant = false;
      inside = false;
    }
