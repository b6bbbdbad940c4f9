-- What the readers of expressions ask of the reader of statements, which reads what stands in a parenthesis.
use Rattle.std.specs.Prelude.{ℕ, Result, MatchResult}
use Rattle.std.specs.Global.{Global}
use Rattle.alma_tree.specs.declared.phrase.Stmts.{Stmts}
use Rattle.alma_tree.specs.Spelling.{spell_stmts}
use Rattle.alma_tree.specs.View.{view_stmts}
use Rattle.alma_tree.specs.Numbers.{number_stmts}
use Rattle.alma_grammar.specs.Parts.{stmts_parts}
use Rattle.alma_parse_cursor.specs.declared.cursor.Cursor.{Cursor}
use Rattle.alma_parse_cursor.specs.declared.fault.Fault.{Fault}
use Rattle.alma_parse_cursor.specs.Parsing.{position_of, Reads, Fails}

-- at a cursor and a depth it reads statements, or fails where reading them does
abbrev pub ReadsAt : Cursor → ℕ → Result (Stmts × Cursor) Fault → Type 0
ReadsAt at d r = MatchResult r (λ t. Reads (spell_stmts (view_stmts t.0)) (number_stmts t.0) stmts_parts d d (position_of at)
    (position_of t.1))
    (λ e. Fails e stmts_parts d (position_of at))

-- it may be called at any cursor and depth, and each call reads statements there
pub record ReadsStmts (callable : Type 0) (post : Global → Cursor → ℕ → Result (Stmts × Cursor) Fault → Type 0) : Type 0 where
  pub may_call : callable
  pub each_call : (alloc : Global) (at : Cursor) (d : ℕ) (r : Result (Stmts × Cursor) Fault) → post alloc at d r → ReadsAt at d r
