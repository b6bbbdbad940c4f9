-- The program that lists: behind the statements of the module stand a call of a procedure more, which
-- writes the line, and the test FALSE, so that the next alternative is asked for.
use Rattle.std.specs.Prelude.{ℕ, zero, suc, ◌+◌, pos, List, [], ◌∷◌, ◌++◌, length, None, codes, replicate}
use Rattle.alma_base.specs.declared.number.Range.{Range}
use Rattle.alma_ir.specs.declared.phrase.Root.TheVariants as root
use Rattle.alma_ir.specs.declared.phrase.WriteAs.TheVariants as write_as
use Rattle.alma_ir.specs.Tree.{Stmts, Stmt, Expr, Desig, Loop, Routine, Global, Program, no_stmts, more_stmts, TestStmt, If, ForTo}
use Rattle.alma_ir.specs.Tree.{WriteExpr, WriteText, no_arms, more_arms, a_loop, Value, CallTest, Const, Load, Known, no_args, a_desig}
use Rattle.alma_ir.specs.Tree.{no_sels, more_sels, Index}
use Rattle.alma_rules.specs.Parts.{append_stmts}

-- ---- the procedure that writes the line. Its slots are the number of a cell, its count and the
-- limit of that: it declares none, so that its call never meets a limit

-- the number of the cell that is written
abbrev pub index : Expr
index = Load (a_desig (root.Local 0) 1 no_sels)

-- the numbers from 0 to the last cell
abbrev pub cell_range : (last : ℕ) → Range
cell_range last = record { low = pos 0; high = pos last }

-- that cell of a global whose last cell has this number
abbrev pub cell_of_global : (slot last : ℕ) → Desig
cell_of_global slot last = a_desig (root.Global slot) (suc last) (more_sels (Index index (cell_range last) 1) no_sels)

-- a comma before each cell but the first
abbrev pub write_comma : Stmt
write_comma = If (more_arms (Value index) (more_stmts 0 (WriteText (codes ",")) no_stmts) no_arms) no_stmts

-- the cell, or a question mark where it is unknown
abbrev pub write_cell : (slot last : ℕ) → Stmt
write_cell slot last =
    If (more_arms (Value (Known (cell_of_global slot last)))
    (more_stmts 0 (WriteExpr (Load (cell_of_global slot last)) write_as.Int) no_stmts) no_arms)
    (more_stmts 0 (WriteText (codes "?")) no_stmts)

-- all cells, by a loop
abbrev pub cells_loop : (slot last : ℕ) → Loop
cells_loop slot last =
    a_loop (a_desig (root.Local 0) 1 no_sels) (cell_range last) 1 2 (Const (pos 0)) (Const (pos last)) (pos 1)
    (more_stmts 0 write_comma (more_stmts 0 (write_cell slot last) no_stmts))

-- a global of no cells has no statement for them
abbrev pub write_cells : (slot cells : ℕ) → Stmts → Stmts
write_cells slot zero rest = rest
write_cells slot (suc last) rest = more_stmts 0 (ForTo (cells_loop slot last)) rest

-- each global: what stands before it, its name, `=` and its cells
abbrev pub write_globals : (before : List ℕ) → List Global → Stmts → Stmts
write_globals before [] rest = rest
write_globals before (g ∷ gs) rest =
    more_stmts 0 (WriteText (before ++ g.name ++ codes "=")) (write_cells g.slot g.cells (write_globals (codes " ") gs rest))

-- the line of all globals, between braces and with a line feed
abbrev pub write_line : List Global → Stmts
write_line gs = more_stmts 0 (WriteText (codes "{")) (write_globals [] gs (more_stmts 0 (WriteText (125 ∷ 10 ∷ [])) no_stmts))

-- how many statements write a global of so many cells
abbrev pub global_stmts : (cells : ℕ) → ℕ
global_stmts zero = 1
global_stmts (suc last) = 7

-- how many statements write globals
abbrev pub globals_stmts : List Global → ℕ
globals_stmts [] = 0
globals_stmts (g ∷ gs) = global_stmts g.cells + globals_stmts gs

-- the procedure, at the line of the module
abbrev pub list_procedure : (line : ℕ) → List Global → Routine
list_procedure line gs = record {
  name = codes "list";
  params = [];
  result = None;
  declared = 0;
  slots = 3;
  body = write_line gs;
  level = 1;
  outer = 0;
  line = line;
  lines = replicate (globals_stmts gs + 2) line;
}

-- ---- the program

-- the procedure is called, and then nothing more succeeds
abbrev pub list_and_fail : (number : ℕ) → Stmts
list_and_fail r = more_stmts 0 (TestStmt (CallTest r no_args 0)) (more_stmts 0 (TestStmt (Value (Const (pos 0)))) no_stmts)

-- the body of the module with these statements behind, on the module's line
abbrev pub listing_body : Routine → (number : ℕ) → Routine
listing_body body r = record body { body = append_stmts body.body (list_and_fail r); lines = body.lines ++ (body.line ∷ body.line ∷ []) }

-- the routines, the procedure last
abbrev pub listing_routines : List Routine → List Global → List Routine
listing_routines [] gs = []
listing_routines (body ∷ rest) gs = listing_body body (suc (length rest)) ∷ (rest ++ (list_procedure body.line gs ∷ []))

-- the program that lists a program: its name and globals, and its routines with the procedure
abbrev pub listing_of : Program → Program
listing_of p = record { name = p.name; globals = p.globals; routines = listing_routines p.routines p.globals }
