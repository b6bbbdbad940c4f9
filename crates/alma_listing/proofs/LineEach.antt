-- A fact of each phrase of the procedure that lists, from the fact of each of its few forms; and how many statements it has.
use Rattle.std.proofs.Common.{◌≡◌, ℕ, zero, suc, List, [], ◌∷◌, ◌++◌, ◌+◌, refl, arith}
use Rattle.std.specs.Prelude.{ℤ, pos, codes}
use Rattle.std.specs.List.{AllByRecursion}
use Rattle.alma_ir.specs.declared.phrase.Root.TheVariants as root
use Rattle.alma_ir.specs.declared.phrase.WriteAs.TheVariants as write_as
use Rattle.alma_ir.specs.Tree.{Stmts, Global, no_stmts, more_stmts, ForTo, WriteExpr, WriteText, Value, Const, Load, Known, a_desig}
use Rattle.alma_ir.specs.Tree.{no_sels, Index}
use Rattle.alma_ir.specs.Lines.{stmt_count}
use Rattle.alma_ir.specs.Phrases.{Phrase, StmtPhrase, TestPhrase, ExprPhrase, DesigPhrase, SelPhrase, stmts_phrases}
use Rattle.alma_listing.specs.Lister.{index, cell_range, cell_of_global, write_comma, write_cell, cells_loop, write_cells, write_globals}
use Rattle.alma_listing.specs.Lister.{write_line, global_stmts, globals_stmts}

-- ---- how many statements

cells_count : (slot cells : ℕ) (rest : Stmts) → 1 + stmt_count (stmts_phrases (write_cells slot cells rest)) ≡ global_stmts cells +
    stmt_count (stmts_phrases rest)
unfolding stmts_phrases
cells_count slot zero rest = refl
cells_count slot (suc last) rest = omega arith

globals_count : (before : List ℕ) (gs : List Global) (rest : Stmts) → stmt_count (stmts_phrases (write_globals before gs rest)) ≡
    globals_stmts gs + stmt_count (stmts_phrases rest)
unfolding stmts_phrases
globals_count before [] rest = omega arith
globals_count before (g ∷ gs) rest =
    omega (arith, cells_count g.slot g.cells (write_globals (codes " ") gs rest), globals_count (codes " ") gs rest)

pub line_count : (gs : List Global) → stmt_count (stmts_phrases (write_line gs)) ≡ globals_stmts gs + 2
unfolding stmts_phrases
line_count gs = omega (arith, globals_count [] gs (more_stmts 0 (WriteText (125 ∷ 10 ∷ [])) no_stmts))

-- ---- a fact of each phrase

module _ (F : Phrase → Type 0) (G : ℕ → ℕ → Type 0)
    (text : (t : List ℕ) → F (StmtPhrase (WriteText t))) (number : (v : ℤ) → F (ExprPhrase (Const v)))
    (variable : F (DesigPhrase (a_desig (root.Local 0) 1 no_sels))) (the_index : F (ExprPhrase index))
    (test_index : F (TestPhrase (Value index))) (comma : F (StmtPhrase write_comma))
    (loop : (slot last : ℕ) → G slot (suc last) → F (StmtPhrase (ForTo (cells_loop slot last))))
    (cell : (slot last : ℕ) → G slot (suc last) → F (StmtPhrase (write_cell slot last)))
    (test_known : (slot last : ℕ) → G slot (suc last) → F (TestPhrase (Value (Known (cell_of_global slot last)))))
    (known : (slot last : ℕ) → G slot (suc last) → F (ExprPhrase (Known (cell_of_global slot last))))
    (desig : (slot last : ℕ) → G slot (suc last) → F (DesigPhrase (cell_of_global slot last)))
    (sel : (slot last : ℕ) → G slot (suc last) → F (SelPhrase (Index index (cell_range last) 1)))
    (write : (slot last : ℕ) → G slot (suc last) → F (StmtPhrase (WriteExpr (Load (cell_of_global slot last)) write_as.Int)))
    (load : (slot last : ℕ) → G slot (suc last) → F (ExprPhrase (Load (cell_of_global slot last)))) where
  cells_each : (slot cells : ℕ) → G slot cells → (rest : Stmts) → AllByRecursion F (stmts_phrases rest) →
      AllByRecursion F (stmts_phrases (write_cells slot cells rest))
  unfolding stmts_phrases
  cells_each slot zero g rest h = h
  cells_each slot (suc last) g rest h = (
    loop slot last g,
    (
      variable,
      (
        number (pos 0),
        (
          number (pos last),
          (
            comma,
            (
              test_index,
              (
                the_index,
                (
                  variable,
                  (
                    text (codes ","),
                    (
                      cell slot last g,
                      (
                        test_known slot last g,
                        (
                          known slot last g,
                          (
                            desig slot last g,
                            (
                              sel slot last g,
                              (
                                the_index,
                                (
                                  variable,
                                  (
                                    write slot last g,
                                    (
                                      load slot last g,
                                      (
                                        desig slot last g,
                                        (sel slot last g, (the_index, (variable, (text (codes "?"), h)))),
                                      ),
                                    ),
                                  ),
                                ),
                              ),
                            ),
                          ),
                        ),
                      ),
                    ),
                  ),
                ),
              ),
            ),
          ),
        ),
      ),
    ),
  )

  globals_each : (before : List ℕ) (gs : List Global) → AllByRecursion (λ g. G g.slot g.cells) gs → (rest : Stmts) →
      AllByRecursion F (stmts_phrases rest) → AllByRecursion F (stmts_phrases (write_globals before gs rest))
  unfolding stmts_phrases
  globals_each before [] all rest h = h
  globals_each before (g ∷ gs) all rest h = (
    text (before ++ g.name ++ codes "="),
    cells_each g.slot g.cells all.0 (write_globals (codes " ") gs rest)
        (globals_each (codes " ") gs all.1 rest h),
  )

  pub line_each : (gs : List Global) → AllByRecursion (λ g. G g.slot g.cells) gs → AllByRecursion F (stmts_phrases (write_line gs))
  unfolding stmts_phrases
  line_each gs all =
      (text (codes "{"), globals_each [] gs all (more_stmts 0 (WriteText (125 ∷ 10 ∷ [])) no_stmts) (text (125 ∷ 10 ∷ []), tt))
