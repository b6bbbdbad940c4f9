-- The tables of the code, as the definition has them.
use Rattle.std.specs.Prelude.{List, ℕ, map}
use Rattle.std.specs.Borrow.{Bor}
use Rattle.alma_tree.specs.declared.kind.Kind.{Kind}
use Rattle.alma_scan.specs.Spellings.{Spelling}

-- the plain entry that one with borrowed text stands for
abbrev pub entry : Bor (List ℕ) × Kind → Spelling
entry e = record { text = e.0.now; kind = e.1 }

-- the plain entries of a table
abbrev pub entries : List (Bor (List ℕ) × Kind) → List Spelling
entries table = map entry table
