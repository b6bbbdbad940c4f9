-- COMMIT, NOT, sequences and AND, from template to run.
use Rattle.std.proofs.Common.{◌≡◌, ℕ, suc, ◌+◌, ◌-◌, ◌≤◌, Bool, false, List, [], ◌∷◌, ◌++◌, length, refl, sym, subst, arith}
use Rattle.std.proofs.lemmas.List.{length-append}
use Rattle.alma_code.specs.declared.cell.Cell.TheVariants as cell
use Rattle.alma_code.specs.declared.cell.SlotKind.TheVariants as slot
use Rattle.alma_code.specs.declared.instr.Instr.TheVariants as I
use Rattle.alma_code.specs.Picture.{PlainFrame}
use Rattle.alma_code.specs.Plain.{PlainCode}
use Rattle.alma_ir.specs.Tree.{Program, Stmts, Stmt, Test, Tests, no_stmts, more_stmts, Commit, Seq, And, Not, no_tests, more_tests}
use Rattle.alma_mean.specs.Store.{Store}
use Rattle.alma_mean.specs.Events.{Fail, one, on_first}
use Rattle.alma_mean.specs.Meaning.{Level, ev_stmts, ev_stmt, ev_test, ev_and}
use Rattle.alma_lower_implements.proofs.Goes.{bind_goes, one_goes}
use Rattle.alma_lower_implements.proofs.Frames.{own_end, HasSlots}
use Rattle.alma_lower_implements.proofs.ChoiceSteps.{fails_by}
use Rattle.alma_lower_implements.proofs.ExprRows.{first_kind}
use Rattle.alma_lower_implements.proofs.FirstRow.{first_row, commit_goes}
use Rattle.alma_lower_implements.proofs.SeqRow.{no_stmts_row, more_stmts_row}
use Rattle.alma_lower_implements.proofs.Steps.{top_written, InstrAt}
use Rattle.alma_lower_implements.proofs.Ways.{Leaves, Runs}
use Rattle.alma_lower_templates.specs.LineInstr.{LineInstr, own}
use Rattle.alma_lower_templates.specs.Tables.{Tables}
use Rattle.alma_lower_templates.specs.Slots.{stmts_slots, test_slots, behind_stmt, behind_test}
use Rattle.alma_lower_templates.specs.Templates.{stmts_code, stmt_code, test_code, and_code}
use Rattle.alma_lower_templates.specs.Stands.{Stands}
use Rattle.alma_lower_templates.proofs.Stands.{stands_front, stands_back}
use Rattle.alma_lower_templates.proofs.Parts.{Begins, begins, Left, left_self, left_on, has_kind, Nothing, NodeRuns, leaving, ending}
use Rattle.alma_lower_templates.proofs.Parts.{on_runs, on_ending, as_runs, node_runs, runs_from, none_returns}
use Rattle.alma_lower_templates.proofs.Conditions.{marked, part_keeps}
use Rattle.alma_lower_templates.proofs.FormRuns.{TestRuns, StmtRuns, StatementRuns, ListRuns}

module _ (p : Program) (tables : Tables) (code : PlainCode) (input : List ℕ) (below : Level) (r line q : ℕ) where
  -- ---- lists of statements

  pub no_stmts_run : (may : Bool) (at lo : ℕ) → ListRuns p tables code input below r line q may at lo no_stmts
  unfolding ev_stmts
  no_stmts_run may at lo stands v now b =
      let zero : at ≡ at + 0 = omega arith in
      subst (λ n. Runs code input line at n now (ending p code input may lo r now) (one v tt) q) zero
      (no_stmts_row code input line at now (ending p code input may lo r now) v q (left_self p code input lo r v now b))

  pub more_stmts_run : (may : Bool) (given at lo : ℕ) (x : Stmt) (rest : Stmts) → 1 ≤ given → own_end p r ≤ lo
      → StatementRuns p tables code input below r given q may at lo x
      → ((next : ℕ) → ListRuns p tables code input below r line q may next (behind_stmt p r lo x) rest)
      → ListRuns p tables code input below r line q may at lo (more_stmts given x rest)
  unfolding ev_stmts
  more_stmts_run may given at lo x rest known behind first others stands v now b =
      let front : List LineInstr = stmt_code p tables r given at lo x in
      let m : ℕ = at + length front in
      let after : List LineInstr = stmts_code p tables r m (behind_stmt p r lo x) rest in
      let exit : ℕ = m + length after in
      let whole : length (front ++ after) ≡ length front + length after = length-append front after in
      let end : exit ≡ at + length (front ++ after) = omega (arith, whole) in
      let w = ending p code input may lo r now in
      subst (λ n. Runs code input line at n now w (ev_stmts p input below (more_stmts given x rest) v) q) end
      (more_stmts_row code input line given at m exit now w w (ev_stmt p input below x v) (λ t. ev_stmts p input below rest t) q known
      (first (stands_front code at front after stands) v now b)
      (λ u t left. on_ending p code input may line m exit lo (behind_stmt p r lo x) r u now t (ev_stmts p input below rest u) q
      (omega arith) behind left (others m (stands_back code at front after stands) u t (begins p code input lo r now u t left)))
      (λ u n c t h. h))

  -- ---- sequences and AND

  pub seq_runs : (at lo : ℕ) (x : Stmts) → ListRuns p tables code input below r line q false at lo x
      → TestRuns p tables code input below r line q at lo (Seq x)
  unfolding ev_stmts
  seq_runs at lo x runs stands v now b =
      let exit : ℕ = at + length (stmts_code p tables r at lo x) in
      let w = leaving p code input lo r now (Nothing p code input) in
      node_runs p code input line 8 at exit now w (ev_stmts p input below x v) q (omega arith)
      (runs_from p code input line at exit now w (ev_stmts p input below x v) q
      (none_returns p code input line at exit lo r now (ev_stmts p input below x v) q (runs stands v now b)))

  abbrev pub AndRun : (at lo : ℕ) → Tests → Type 0
  AndRun at lo ts = Stands code at (and_code p tables r line at lo ts) → (v : Store) (now : List PlainFrame) → Begins p code input r v now
      → Runs code input line at (at + length (and_code p tables r line at lo ts)) now (leaving p code input lo r now (Nothing p code input))
      (ev_and p input below ts v) q

  pub no_and_run : (at lo : ℕ) → AndRun at lo no_tests
  unfolding ev_stmts
  no_and_run at lo stands v now b =
      let zero : at ≡ at + 0 = omega arith in
      let w = leaving p code input lo r now (Nothing p code input) in
      subst (λ n. Runs code input line at n now w (one v tt) q) zero
      (no_stmts_row code input line at now w v q (left_self p code input lo r v now b, tt))

  pub more_and_run : (at lo : ℕ) (t : Test) (rest : Tests) → own_end p r ≤ lo → TestRuns p tables code input below r line q at lo t
      → ((next : ℕ) → AndRun next (behind_test p r lo t) rest) → AndRun at lo (more_tests t rest)
  unfolding ev_stmts
  more_and_run at lo t rest behind first others stands v now b =
      let front : List LineInstr = test_code p tables r line at lo t in
      let m : ℕ = at + length front in
      let after : List LineInstr = and_code p tables r line m (behind_test p r lo t) rest in
      let exit : ℕ = m + length after in
      let whole : length (front ++ after) ≡ length front + length after = length-append front after in
      let end : exit ≡ at + length (front ++ after) = omega (arith, whole) in
      let w = leaving p code input lo r now (Nothing p code input) in
      subst (λ n. Runs code input line at n now w (ev_and p input below (more_tests t rest) v) q) end
      (λ c le held s is.
      bind_goes code input line c c 0 (Leaves m w) (Leaves exit w) held (ev_test p input below t v) (λ u _. ev_and p input below rest u) s c
      q c (omega arith) (omega arith)
      (as_runs p code input line at m now w (ev_test p input below t v) q (first (stands_front code at front after stands) v now b) c le
      held s is)
      (λ u y t2 base going left.
      on_runs p code input line m exit lo (behind_test p r lo t) r u now t2.now (Nothing p code input) (ev_and p input below rest u) q
      (omega arith) behind left.1.0
      (others m (stands_back code at front after stands) u t2.now (begins p code input lo r now u t2.now left.1.0)) c le base t2
      (record { mode = going.mode; here = left.0; frames = refl; entries = going.entries }))
      (λ u n t2 none. none))

  pub and_runs : (at lo : ℕ) (ts : Tests) → AndRun at lo ts → TestRuns p tables code input below r line q at lo (And ts)
  unfolding ev_stmts
  and_runs at lo ts runs stands v now b =
      let exit : ℕ = at + length (and_code p tables r line at lo ts) in
      let w = leaving p code input lo r now (Nothing p code input) in
      node_runs p code input line 8 at exit now w (ev_and p input below ts v) q (omega arith)
      (runs_from p code input line at exit now w (ev_and p input below ts v) q (runs stands v now b))

  -- ---- COMMIT

  pub commit_runs : (at lo : ℕ) (x : Stmts) → HasSlots p code r lo (slot.Mark ∷ stmts_slots p r x)
      → ListRuns p tables code input below r line q false (at + 1) (lo + 1) x → StmtRuns p tables code input below r line q at lo (Commit x)
  unfolding ev_stmts
  commit_runs at lo x slots runs stands v now b =
      let kind = first_kind p code input r lo slot.Mark (stmts_slots p r x) slots in
      let inner : List LineInstr = stmts_code p tables r (at + 1) (lo + 1) x in
      let n : ℕ = at + 1 + length inner in
      let back = stands_back code (at + 1) inner (own line (I.Cut lo ∷ [])) stands.2 in
      let whole : length (inner ++ own line (I.Cut lo ∷ [])) ≡ length inner + 1 = length-append inner (own line (I.Cut lo ∷ [])) in
      let end : n + 1 ≡ at + suc (length (inner ++ own line (I.Cut lo ∷ []))) = omega (arith, whole) in
      let w = leaving p code input lo r now (Nothing p code input) in
      subst (λ m. NodeRuns p code input line at m now w (ev_stmt p input below (Commit x) v) q) end
      (node_runs p code input line 9 at (n + 1) now w (on_first (ev_stmts p input below x v) (λ t _. one t tt) (λ _. Fail)) q (omega arith)
      (commit_goes code input line at n lo now
      (λ h. leaving p code input (lo + 1) r (top_written now lo (cell.Mark h)) (Nothing p code input)) w (ev_stmts p input below x v) q
      (record { instr = stands.0; on_line = stands.1 }) (record { instr = back.0; on_line = back.1 })
      (has_kind p code input r lo v now slot.Mark kind b)
      (λ h. none_returns p code input line (at + 1) n (lo + 1) r (top_written now lo (cell.Mark h)) (ev_stmts p input below x v) q
      (runs (stands_front code (at + 1) inner (own line (I.Cut lo ∷ [])) stands.2) v (top_written now lo (cell.Mark h))
      (begins p code input lo r now v (top_written now lo (cell.Mark h)) (marked p code input lo r h v now slots.behind b))))
      (λ h. part_keeps p code input lo r h v now slots.behind kind b)
      (λ h u y t left. (
        left_on p code input lo (lo + 1) r now v u (top_written now lo (cell.Mark h)) t (omega arith)
            (marked p code input lo r h v now slots.behind b) left.0,
        tt,
      ))))

  -- ---- NOT

  pub not_runs : (at lo : ℕ) (t : Test) → HasSlots p code r lo (slot.Mark ∷ test_slots p r t)
      → TestRuns p tables code input below r line q (at + 2) (lo + 1) t → TestRuns p tables code input below r line q at lo (Not t)
  unfolding ev_stmts
  not_runs at lo t slots runs stands v now b =
      let kind = first_kind p code input r lo slot.Mark (test_slots p r t) slots in
      let inner : List LineInstr = test_code p tables r line (at + 2) (lo + 1) t in
      let last : List LineInstr = own line (I.Cut lo ∷ I.Fail ∷ []) in
      let n : ℕ = at + 2 + length inner in
      let two : at + 1 + 1 ≡ at + 2 = omega arith in
      let inside : Stands code (at + 2) (inner ++ last) = subst (λ m. Stands code m (inner ++ last)) two stands.2.2 in
      let back = stands_back code (at + 2) inner last inside in
      let fail : InstrAt code input line (n + 1) I.Fail = record { instr = back.2.0; on_line = back.2.1 } in
      let none : ℕ = at + 2 + length inner + 2 in
      let long : length (inner ++ last) ≡ length inner + 2 = length-append inner last in
      let end : none ≡ at + suc (suc (length (inner ++ last))) = omega (arith, long) in
      let w = leaving p code input lo r now (Nothing p code input) in
      subst (λ m. NodeRuns p code input line at m now w (ev_test p input below (Not t) v) q) end
      (node_runs p code input line 11 at none now w (on_first (ev_test p input below t v) (λ u _. Fail) (λ _. one v tt)) q (omega arith)
      (λ held s is.
      first_row code input line at n none lo now
      (λ h. leaving p code input (lo + 1) r (top_written now lo (cell.Mark h)) (Nothing p code input)) (ev_test p input below t v) 0 24
      (Leaves none w) (λ u _. Fail) (λ _. one v tt) q
      (record { instr = stands.0; on_line = stands.1 }) (record { instr = stands.2.0; on_line = stands.2.1 })
      (record { instr = back.0; on_line = back.1 }) (has_kind p code input r lo v now slot.Mark kind b)
      (λ h. as_runs p code input line (at + 2) n (top_written now lo (cell.Mark h))
      (leaving p code input (lo + 1) r (top_written now lo (cell.Mark h)) (Nothing p code input)) (ev_test p input below t v) q
      (runs (stands_front code (at + 2) inner last inside) v (top_written now lo (cell.Mark h))
      (begins p code input lo r now v (top_written now lo (cell.Mark h)) (marked p code input lo r h v now slots.behind b))))
      (λ h. part_keeps p code input lo r h v now slots.behind kind b) 8 0 (omega arith) held s is
      (λ u y t2 there left. let f = fails_by code input line (n + 1) t2.now held t2 there fail in (1, f.0, omega arith, f.1, f.2))
      (λ t2 there. one_goes code input line 0 24 (Leaves none w) held v tt t2 0 (q - 1) (omega arith)
      (record { mode = there.mode; entries = there.entries }) (
        there.here,
        subst (λ z. Left p code input lo r now v z × Unit {0}) (sym there.frames)
            (marked p code input lo r (length held) v now slots.behind b, tt),
      ))))
