-- How the phrases of one statement run, in words: each stands somewhere, takes its slots from `lo` on, and is at the line
-- of the statement.
use Rattle.std.proofs.Common.{◌≡◌, ℕ, ◌+◌, ◌<◌, Bool, false, Some, List, length}
use Rattle.std.specs.Prelude.{slice_get}
use Rattle.alma_base.specs.declared.number.Range.{Range}
use Rattle.alma_code.specs.Plain.{PlainCode}
use Rattle.alma_ir.specs.Tree.{Program, Stmts, Stmt, Test, Expr, Desig}
use Rattle.alma_ir.specs.Checked.{desig_cells}
use Rattle.alma_mean.specs.Meaning.{Level, ev_stmts, ev_stmt, ev_test, ev_expr, ev_desig}
use Rattle.alma_lower_templates.specs.Tables.{Tables, range_number, is_whole}
use Rattle.alma_lower_templates.specs.LineInstr.{LineInstr}
use Rattle.alma_lower_templates.specs.Pieces.{place_code}
use Rattle.alma_lower_templates.specs.Slots.{own_place, unless_bare, desig_slots}
use Rattle.alma_lower_templates.specs.Templates.{stmts_code, stmt_code, test_code, expr_code, desig_code, place_at, held_at}
use Rattle.alma_lower_templates.proofs.Parts.{NodeFor, RunsFor, ValueIn, PlaceIn, Nothing}

-- the code that comes before what uses the place of a designator: none for a whole parameter, which has it in its own slot
abbrev pub held_code : (p : Program) (tables : Tables) (r line at lo : ℕ) → Desig → List LineInstr
held_code p tables r line at lo d = unless_bare (own_place d) (desig_code p tables r line at lo d)

module _ (p : Program) (tables : Tables) (code : PlainCode) (input : List ℕ) (below : Level) (r line q : ℕ) where
  abbrev pub ExprRuns : (at lo : ℕ) → Expr → Type 0
  ExprRuns at lo x = NodeFor p code input r line at lo (expr_code p tables r line at lo x) (ev_expr p input below x)
      (ValueIn p code input lo) q

  abbrev pub DesigRuns : (at lo : ℕ) → Desig → Type 0
  DesigRuns at lo d = NodeFor p code input r line at lo (desig_code p tables r line at lo d) (ev_desig p input below d)
      (PlaceIn p code input (place_at p tables r lo d) (desig_cells d)) q

  -- with its place put into the slot `to`
  abbrev pub PlacedRuns : (to at lo : ℕ) → Desig → Type 0
  PlacedRuns to at lo d = NodeFor p code input r line at to (place_code to (desig_code p tables r line at lo d)) (ev_desig p input below d)
      (PlaceIn p code input to (desig_cells d)) q

  -- a designator whose place is used: behind that code it is held by a slot before those of the next phrase
  pub record HeldRuns (at lo : ℕ) (d : Desig) : Type 0 where
    pub within : held_at p tables r lo d < lo + length (desig_slots p r d)
    pub runs : NodeFor p code input r line at lo (held_code p tables r line at lo d) (ev_desig p input below d)
        (PlaceIn p code input (held_at p tables r lo d) (desig_cells d)) q

  abbrev pub TestRuns : (at lo : ℕ) → Test → Type 0
  TestRuns at lo t = NodeFor p code input r line at lo (test_code p tables r line at lo t) (ev_test p input below t) (Nothing p code input)
      q

  -- a statement without RETURN
  abbrev pub StmtRuns : (at lo : ℕ) → Stmt → Type 0
  StmtRuns at lo x = NodeFor p code input r line at lo (stmt_code p tables r line at lo x) (ev_stmt p input below x) (Nothing p code input)
      q

  -- a statement, and a list of statements
  abbrev pub StatementRuns : (may : Bool) → (at lo : ℕ) → Stmt → Type 0
  StatementRuns may at lo x = RunsFor p code input may r line at lo (stmt_code p tables r line at lo x) (ev_stmt p input below x) q

  abbrev pub ListRuns : (may : Bool) → (at lo : ℕ) → Stmts → Type 0
  ListRuns may at lo xs = RunsFor p code input may r line at lo (stmts_code p tables r at lo xs) (ev_stmts p input below xs) q

  -- the code has the range by its number
  abbrev pub HasRange : Range → Type 0
  HasRange range = slice_get code.ranges (range_number tables range) ≡ Some range

  -- and where a check of it has code
  abbrev pub FitsRange : Range → Type 0
  FitsRange range = is_whole range ≡ false → HasRange range
