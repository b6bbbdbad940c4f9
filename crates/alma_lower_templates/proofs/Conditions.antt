-- Conditions, from template to what they decide: a simple one is tested by a jump, any other stands behind a choice entry.
use Rattle.std.proofs.Common.{◌≡◌, ℕ, ◌+◌, ◌≤◌, Bool, true, false, List, [], ◌∷◌, ◌++◌, length, Option, Some, None, refl, sym, ap, ◌∙◌}
use Rattle.std.proofs.Common.{subst, arith, ℤ}
use Rattle.std.specs.Prelude.{slice_get}
use Rattle.std.proofs.lemmas.List.{length-append}
use Rattle.alma_base.specs.declared.fault.RunFault.TheVariants as fault
use Rattle.alma_code.specs.declared.cell.Cell.TheVariants as cell
use Rattle.alma_code.specs.declared.cell.SlotKind.TheVariants as slot
use Rattle.alma_code.specs.declared.instr.Instr.TheVariants as I
use Rattle.alma_code.specs.Lines.{line_at}
use Rattle.alma_code.specs.Picture.{PlainFrame, last_frame}
use Rattle.alma_code.specs.Plain.{PlainCode, kinds_at}
use Rattle.alma_code.specs.Machine.{act}
use Rattle.alma_ir.specs.declared.phrase.Root.TheVariants as root
use Rattle.alma_ir.specs.Tree.{Program, Expr, Test, Load, a_desig, no_sels, Value, Bind, Unify, SameCells, Seq, And, Or, Not, CallTest}
use Rattle.alma_mean.specs.Store.{Store, top_cell}
use Rattle.alma_mean.specs.Events.{Visit, Fail, one, join}
use Rattle.alma_mean.specs.Rows.{read_cell}
use Rattle.alma_mean.specs.Meaning.{Level, ev_test, ev_expr}
use Rattle.alma_lower_implements.proofs.Goes.{weaker}
use Rattle.alma_lower_implements.proofs.Frames.{shift, own_end, HasSlots}
use Rattle.alma_lower_implements.proofs.FrameLemmas.{top_same}
use Rattle.alma_lower_implements.proofs.BareRow.{ReadsFirst, reads_unknown, bare_is}
use Rattle.alma_lower_implements.proofs.ExprRows.{first_kind, within_frame, some_frames, AreVariables}
use Rattle.alma_lower_implements.proofs.FirstRow.{KeepsMark}
use Rattle.alma_lower_implements.proofs.ForSteps.{SlotThere, a_number, not_known, slot_there}
use Rattle.alma_lower_implements.proofs.Leaving.{keeps_mark}
use Rattle.alma_lower_implements.proofs.Steps.{top_written, InstrAt, does}
use Rattle.alma_lower_implements.proofs.TurnRow.{Decides, barrier_decides, simple_decides}
use Rattle.alma_lower_implements.proofs.Ways.{Ways, Leaves}
use Rattle.alma_lower_templates.specs.LineInstr.{LineInstr, own}
use Rattle.alma_lower_templates.specs.Tables.{Tables}
use Rattle.alma_lower_templates.specs.Slots.{bare, unless_bare, is_simple, is_simple_expr, mark_slots, test_slots}
use Rattle.alma_lower_templates.specs.Pieces.{condition}
use Rattle.alma_lower_templates.specs.Templates.{expr_code, test_code, jump_code, slot_or, value_at}
use Rattle.alma_lower_templates.specs.Stands.{Stands}
use Rattle.alma_lower_templates.proofs.Stands.{stands_front, stands_back}
use Rattle.alma_lower_templates.proofs.Parts.{Begins, begins, Left, left_on, left_temp, has_kind, ValueIn, Nothing, NodeRuns, NodeFor, From}
use Rattle.alma_lower_templates.proofs.Parts.{leaving, node_runs, as_runs, alone_from, faults_here, ends_here}
use Rattle.alma_lower_templates.proofs.Fields.{load_runs}
use Rattle.alma_lower_templates.proofs.AtOnce.{AtOnce, BareFits}
use Rattle.alma_lower_templates.proofs.SimpleOne.{expr_one}
use Rattle.alma_lower_templates.proofs.FormRuns.{TestRuns}

module _ (p : Program) (code : PlainCode) (input : List ℕ) where
  -- ---- marks

  -- with the mark slot written
  pub marked : (lo r h : ℕ) (v : Store) (now : List PlainFrame) → own_end p r ≤ lo → Begins p code input r v now
      → Left p code input lo r now v (top_written now lo (cell.Mark h))
  marked lo r h v now behind b = left_temp p code input lo r lo v now (cell.Mark h) (omega arith) behind b

  -- a part without RETURN behind a mark keeps it
  pub part_keeps : (lo r h : ℕ) (v : Store) (now : List PlainFrame) → own_end p r ≤ lo → slice_get (kinds_at code r) lo ≡ Some slot.Mark
      → Begins p code input r v now
      → KeepsMark code input lo h (leaving p code input (lo + 1) r (top_written now lo (cell.Mark h)) (Nothing p code input))
  part_keeps lo r h v now behind kind b = record {
    keeps = λ u y t left.
        let same = top_same p code v now b.stand in
        let is : own_end p (last_frame now).routine ≡ own_end p r = ap (own_end p) (sym same.routine ∙ b.routine) in
        keeps_mark p code lo h now u t (some_frames p code input v now r b.stand b.routine)
        (within_frame p code input v now r b.stand b.routine lo slot.Mark kind) (omega (arith, is, behind)) left.0.fits;
    stays = λ u n at t h. h;
  }

module _ (p : Program) (tables : Tables) (code : PlainCode) (input : List ℕ) (below : Level) (r line q : ℕ) where
  -- ---- a value that is used at once, as a part

  bare_runs : (at la from cells : ℕ) (v : Store) (now : List PlainFrame) → AreVariables p code input r from 1 → line_at code at ≡ line
      → ReadsFirst code input at (shift p r + from) now → Begins p code input r v now
      → NodeRuns p code input line at at now (leaving p code input la r now (ValueIn p code input (shift p r + from)))
      (ev_expr p input below (Load (a_desig (root.Local from) cells no_sels)) v) q
  bare_runs at la from cells v now variable there reads b =
      subst (λ e. NodeRuns p code input line at at now w e q) (sym (bare_is code input p below from cells v))
      (node_runs p code input line 8 at at now w (Visit (Visit (join (read_cell (top_cell v from) (λ n. one v n)) Fail))) q (omega arith)
      (λ held s is. weaker code input line 0 24 (Leaves at w) held (join (read_cell (top_cell v from) (λ n. one v n)) Fail) s 72 8 q q
      (omega arith) (omega arith)
      (alone_from p code input line 8 at at now w (read_cell (top_cell v from) (λ n. one v n)) q
      (by (slot_there p code input r from variable v now b.stand b.routine)) held s is)))
    where
      w : Ways ℤ
      w = leaving p code input la r now (ValueIn p code input (shift p r + from))

      by : SlotThere p code input v now from (shift p r + from)
          → From p code input line 8 at at now w (read_cell (top_cell v from) (λ n. one v n)) q
      by (a_number x e hold integer) =
          subst (λ c. From p code input line 8 at at now w (read_cell c (λ n. one v n)) q) (sym e)
          (ends_here p code input line 8 at la r v now (ValueIn p code input (shift p r + from)) x q b
          (record { holds = hold; integer = integer }))
      by (not_known e hold) =
          subst (λ c. From p code input line 8 at at now w (read_cell c (λ n. one v n)) q) (sym e)
          (faults_here p code input line 7 at at now w fault.Unknown q
          (λ held s is. reads_unknown code input line at (shift p r + from) now held s reads is there hold))

  once_by : (o : Option ℕ) (at la : ℕ) (x : Expr) (made : List LineInstr) (v : Store) (now : List PlainFrame) → bare x ≡ o
      → BareFits p tables code input below r line q o
      → (o ≡ None → NodeFor p code input r line at la made (ev_expr p input below x) (ValueIn p code input la) q)
      → Stands code at (unless_bare o made) → line_at code (at + length (unless_bare o made)) ≡ line
      → ReadsFirst code input (at + length (unless_bare o made)) (slot_or p tables r o la) now → Begins p code input r v now
      → NodeRuns p code input line at (at + length (unless_bare o made)) now
      (leaving p code input la r now (ValueIn p code input (slot_or p tables r o la))) (ev_expr p input below x v) q
  once_by None at la x made v now e fits runs stands there reads b = runs refl stands v now b
  once_by (Some from) at la x made v now e fits runs stands there reads b =
      let zero : at + 0 ≡ at = omega arith in
      subst (λ n. NodeRuns p code input line at n now (leaving p code input la r now (ValueIn p code input (shift p r + from)))
      (ev_expr p input below x v) q) (sym zero)
      (load_runs p code input line at at now (leaving p code input la r now (ValueIn p code input (shift p r + from))) below v from q x e
      (λ size. bare_runs at la from size v now fits (ap (line_at code) (sym zero) ∙ there)
      (subst (λ n. ReadsFirst code input n (shift p r + from) now) zero reads) b))

  -- ---- conditions

  -- what is known of the test of a condition: one that is simple is a value, any other runs behind its mark
  pub record TestKnown (at lo : ℕ) (t : Test) : Type 0 where
    pub value : (x : Expr) → t ≡ Value x → is_simple_expr x ≡ true → AtOnce p tables code input below r line q at lo x
    pub runs : is_simple t ≡ false → TestRuns p tables code input below r line q (at + 2) (lo + 1) t

  abbrev pub condition_code : (at lo none : ℕ) → Test → List LineInstr
  condition_code at lo none t = condition (is_simple t) line at lo none (λ at lo none. jump_code p tables r line at lo none t)
      (λ at lo. test_code p tables r line at lo t)

  -- it goes on behind its code with what the test left, and at `none` in the store on entry
  abbrev pub ConditionDecides : (at lo none : ℕ) → Test → Store → List PlainFrame → Type 1
  ConditionDecides at lo none t v now =
      Decides code input line at (at + length (condition_code at lo none t)) none now (ev_test p input below t v)
      (λ u t2. Left p code input lo r now u t2) (λ t2. Left p code input lo r now v t2) q

  jump_reads : (at from none : ℕ) (now : List PlainFrame) → InstrAt code input line at (I.JumpZero from none)
      → ReadsFirst code input at from now
  unfolding act
  jump_reads at from none now i held s is = (_, does code input line at now held s (I.JumpZero from none) is i)

  value_condition : (at lo none : ℕ) (x : Expr) (v : Store) (now : List PlainFrame) → is_simple (Value x) ≡ true
      → Begins p code input r v now → AtOnce p tables code input below r line q at lo x
      → Stands code at (jump_code p tables r line at lo none (Value x))
      → Decides code input line at (at + length (jump_code p tables r line at lo none (Value x))) none now
      (ev_test p input below (Value x) v) (λ u t2. Left p code input lo r now u t2) (λ t2. Left p code input lo r now v t2) q
  unfolding ev_expr
  value_condition at lo none x v now simple b once stands =
      let inner : List LineInstr = unless_bare (bare x) (expr_code p tables r line at lo x) in
      let from : ℕ = value_at p tables r lo x in
      let last : List LineInstr = own line (I.JumpZero from none ∷ []) in
      let m : ℕ = at + length inner in
      let back = stands_back code at inner last stands in
      let i : InstrAt code input line m (I.JumpZero from none) = record { instr = back.0; on_line = back.1 } in
      let whole : length (inner ++ last) ≡ length inner + 1 = length-append inner last in
      let end : m + 1 ≡ at + length (inner ++ last) = omega (arith, whole) in
      let wv = leaving p code input lo r now (ValueIn p code input from) in
      subst (λ n. Decides code input line at n none now (ev_test p input below (Value x) v) (λ u t2. Left p code input lo r now u t2)
      (λ t2. Left p code input lo r now v t2) q) end
      (simple_decides code input line at m none from now v (ev_expr p input below x v) wv (λ u t2. Left p code input lo r now u t2)
      (λ t2. Left p code input lo r now v t2) q (expr_one p input below x v simple)
      (as_runs p code input line at m now wv (ev_expr p input below x v) q
      (once_by (bare x) at lo x (expr_code p tables r line at lo x) v now refl once.fits once.runs
      (stands_front code at inner last stands) i.on_line (jump_reads m from none now i) b))
      i (λ u n t left. left.1.holds) (λ n t left. left.0) (λ n t left. left.0))

  barrier_condition : (at lo none : ℕ) (t : Test) (v : Store) (now : List PlainFrame) → own_end p r ≤ lo
      → slice_get (kinds_at code r) lo ≡ Some slot.Mark → Begins p code input r v now
      → TestRuns p tables code input below r line q (at + 2) (lo + 1) t
      → Stands code at (own line (I.Mark lo ∷ I.Choose none ∷ [])
      ++ (test_code p tables r line (at + 2) (lo + 1) t ++ own line (I.Cut lo ∷ [])))
      → Decides code input line at (at + length
      (own line (I.Mark lo ∷ I.Choose none ∷ []) ++ (test_code p tables r line (at + 2) (lo + 1) t ++ own line (I.Cut lo ∷ [])))) none
      now (ev_test p input below t v) (λ u t2. Left p code input lo r now u t2) (λ t2. Left p code input lo r now v t2) q
  barrier_condition at lo none t v now behind kind b runs stands =
      let inner : List LineInstr = test_code p tables r line (at + 2) (lo + 1) t in
      let n : ℕ = at + 2 + length inner in
      let two : at + 1 + 1 ≡ at + 2 = omega arith in
      let inside : Stands code (at + 2) (inner ++ own line (I.Cut lo ∷ [])) =
      subst (λ m. Stands code m (inner ++ own line (I.Cut lo ∷ []))) two stands.2.2 in
      let back = stands_back code (at + 2) inner (own line (I.Cut lo ∷ [])) inside in
      let long : length (inner ++ own line (I.Cut lo ∷ [])) ≡ length inner + 1 = length-append inner (own line (I.Cut lo ∷ [])) in
      let whole : length (own line (I.Mark lo ∷ I.Choose none ∷ []) ++ (inner ++ own line (I.Cut lo ∷ []))) ≡ 2
      + length (inner ++ own line (I.Cut lo ∷ [])) =
      length-append (own line (I.Mark lo ∷ I.Choose none ∷ [])) (inner ++ own line (I.Cut lo ∷ [])) in
      let end : n + 1 ≡ at + length (own line (I.Mark lo ∷ I.Choose none ∷ []) ++ (inner ++ own line (I.Cut lo ∷ []))) =
      omega (arith, long, whole) in
      subst (λ m. Decides code input line at m none now (ev_test p input below t v) (λ u t2. Left p code input lo r now u t2)
      (λ t2. Left p code input lo r now v t2) q) end
      (barrier_decides code input line at n none lo now
      (λ h. leaving p code input (lo + 1) r (top_written now lo (cell.Mark h)) (Nothing p code input)) (ev_test p input below t v)
      (λ u t2. Left p code input lo r now u t2) (λ t2. Left p code input lo r now v t2) q
      (record { instr = stands.0; on_line = stands.1 }) (record { instr = stands.2.0; on_line = stands.2.1 })
      (record { instr = back.0; on_line = back.1 }) (has_kind p code input r lo v now slot.Mark kind b)
      (λ h. as_runs p code input line (at + 2) n (top_written now lo (cell.Mark h))
      (leaving p code input (lo + 1) r (top_written now lo (cell.Mark h)) (Nothing p code input)) (ev_test p input below t v) q
      (runs (stands_front code (at + 2) inner (own line (I.Cut lo ∷ [])) inside) v (top_written now lo (cell.Mark h))
      (begins p code input lo r now v (top_written now lo (cell.Mark h)) (marked p code input lo r h v now behind b))))
      (λ h. part_keeps p code input lo r h v now behind kind b)
      (λ h u t2 left. left_on p code input lo (lo + 1) r now v u (top_written now lo (cell.Mark h)) t2 (omega arith)
      (marked p code input lo r h v now behind b) left.0)
      (λ h. marked p code input lo r h v now behind b))

  condition_by : (z : Bool) (at lo none : ℕ) (t : Test) (v : Store) (now : List PlainFrame) → is_simple t ≡ z
      → HasSlots p code r lo (mark_slots z ++ test_slots p r t) → Begins p code input r v now → TestKnown at lo t
      → Stands code at (condition z line at lo none (λ at lo none. jump_code p tables r line at lo none t)
      (λ at lo. test_code p tables r line at lo t))
      → Decides code input line at (at + length
      (condition z line at lo none (λ at lo none. jump_code p tables r line at lo none t) (λ at lo. test_code p tables r line at lo t)))
      none now (ev_test p input below t v) (λ u t2. Left p code input lo r now u t2) (λ t2. Left p code input lo r now v t2) q
  condition_by true at lo none (Value x) v now e slots b known stands = value_condition at lo none x v now e b (known.value x refl e) stands
  condition_by true at lo none (Bind d x range left) v now e slots b known stands = absurd (let bad : false ≡ true = e in cc)
  condition_by true at lo none (Unify d range x range') v now e slots b known stands = absurd (let bad : false ≡ true = e in cc)
  condition_by true at lo none (SameCells d x) v now e slots b known stands = absurd (let bad : false ≡ true = e in cc)
  condition_by true at lo none (Seq x) v now e slots b known stands = absurd (let bad : false ≡ true = e in cc)
  condition_by true at lo none (And ts) v now e slots b known stands = absurd (let bad : false ≡ true = e in cc)
  condition_by true at lo none (Or ts) v now e slots b known stands = absurd (let bad : false ≡ true = e in cc)
  condition_by true at lo none (Not t) v now e slots b known stands = absurd (let bad : false ≡ true = e in cc)
  condition_by true at lo none (CallTest called args up) v now e slots b known stands = absurd (let bad : false ≡ true = e in cc)
  condition_by false at lo none t v now e slots b known stands =
      barrier_condition at lo none t v now slots.behind (first_kind p code input r lo slot.Mark (test_slots p r t) slots) b (known.runs e)
      stands

  pub condition_decides : (at lo none : ℕ) (t : Test) (v : Store) (now : List PlainFrame)
      → HasSlots p code r lo (mark_slots (is_simple t) ++ test_slots p r t) → Begins p code input r v now → TestKnown at lo t
      → Stands code at (condition_code at lo none t) → ConditionDecides at lo none t v now
  condition_decides at lo none t v now slots b known stands = condition_by (is_simple t) at lo none t v now refl slots b known stands
