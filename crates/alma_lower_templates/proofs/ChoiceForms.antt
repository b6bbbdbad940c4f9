-- OR and EITHER, from template to run.
use Rattle.std.proofs.Common.{◌≡◌, ℕ, suc, ◌+◌, ◌≤◌, Bool, List, [], ◌∷◌, ◌++◌, length, Some, refl, sym, ◌∙◌, subst, arith, append_assoc}
use Rattle.std.specs.Prelude.{slice_get}
use Rattle.std.proofs.lemmas.List.{length-append}
use Rattle.alma_code.specs.declared.cell.Cell.TheVariants as cell
use Rattle.alma_code.specs.declared.cell.SlotKind.TheVariants as slot
use Rattle.alma_code.specs.declared.instr.Instr.TheVariants as I
use Rattle.alma_code.specs.Picture.{PlainFrame, PlainEntry}
use Rattle.alma_code.specs.Plain.{PlainCode, kinds_at}
use Rattle.alma_code.specs.Machine.{State}
use Rattle.alma_ir.specs.Tree.{Program, Branches, Test, Tests, no_tests, more_tests, Or, Either, no_branches, more_branches}
use Rattle.alma_mean.specs.Store.{Store}
use Rattle.alma_mean.specs.Events.{Events, NoYield, Flow, Go, Return, one, on_first}
use Rattle.alma_mean.specs.Meaning.{Level, ev_stmts, ev_test, ev_or}
use Rattle.alma_lower_implements.proofs.Goes.{Silently, IsGoing, Goes, before, and_then, credited, first_goes, one_goes, no_step}
use Rattle.alma_lower_implements.proofs.Frames.{own_end, HasSlots, IsAt}
use Rattle.alma_lower_implements.proofs.Address.{at_address}
use Rattle.alma_lower_implements.proofs.ChoiceSteps.{branch_entry, mark_step, choose_step, pop_step, cut_step}
use Rattle.alma_lower_implements.proofs.ExprRows.{first_kind}
use Rattle.alma_lower_implements.proofs.Steps.{top_written, InstrAt}
use Rattle.alma_lower_implements.proofs.Ways.{Ways, Leaves, LeadsTo, leads_by_jump, leads_then, then_up_to}
use Rattle.alma_lower_templates.specs.LineInstr.{LineInstr, own}
use Rattle.alma_lower_templates.specs.Tables.{Tables}
use Rattle.alma_lower_templates.specs.Slots.{stmts_slots, test_slots, or_slots, branches_slots, behind_test}
use Rattle.alma_lower_templates.specs.Pieces.{first_of_two}
use Rattle.alma_lower_templates.specs.Templates.{stmts_code, test_code, operands_code}
use Rattle.alma_lower_templates.specs.Stands.{Stands}
use Rattle.alma_lower_templates.proofs.Stands.{stands_front, stands_back}
use Rattle.alma_lower_templates.proofs.EitherRuns as either
use Rattle.alma_lower_templates.proofs.Parts.{Begins, begins, Left, left_self, left_on, has_kind, Nothing, NodeRuns, leaving, ending}
use Rattle.alma_lower_templates.proofs.Parts.{on_ending, node_runs, node_from}
use Rattle.alma_lower_templates.proofs.Conditions.{marked, part_keeps}
use Rattle.alma_lower_templates.proofs.FormRuns.{TestRuns, StatementRuns, ListRuns}

module _ (p : Program) (tables : Tables) (code : PlainCode) (input : List ℕ) (below : Level) (r line q : ℕ) where
  -- ---- OR

  -- events that go on from a state that comes to an address in a few steps
  abbrev pub ComesTo : (at exit : ℕ) → List PlainFrame → Ways NoYield → Events NoYield → Type 0
  ComesTo at exit now w e = (j : ℕ) → j ≤ 6 → (held : List PlainEntry) (s u : State) → Silently code input j s u → IsAt at now held u
      → Goes code input line 0 24 (Leaves exit w) held e s 0 q

  -- an operand that is not the last, and those behind it
  operand_comes : (at n next exit lo : ℕ) (t : Test) (rest : Events NoYield) (v : Store) (now : List PlainFrame) → own_end p r ≤ lo
      → slice_get (kinds_at code r) lo ≡ Some slot.Mark → Begins p code input r v now
      → InstrAt code input line at (I.Mark lo) → InstrAt code input line (at + 1) (I.Choose next) → InstrAt code input line n (I.Cut lo)
      → LeadsTo code input 7 (n + 1) exit
      → ((h : ℕ) → NodeRuns p code input line (at + 2) n (top_written now lo (cell.Mark h))
      (leaving p code input (lo + 1) r (top_written now lo (cell.Mark h)) (Nothing p code input)) (ev_test p input below t v) q)
      → ((h : ℕ) → ComesTo next exit (top_written now lo (cell.Mark h)) (leaving p code input lo r now (Nothing p code input)) rest)
      → ComesTo at exit now (leaving p code input lo r now (Nothing p code input))
      (on_first (ev_test p input below t v) (λ u _. one u tt) (λ _. rest))
  operand_comes at n next exit lo t rest v now behind kind b mark choose cut leads runs later j few held s u silently is =
      let a = mark_step code input line at lo now held u is mark (has_kind p code input r lo v now slot.Mark kind b) in
      let z = choose_step code input line (at + 1) next marked_now held a.to a.is choose in
      first_goes code input line 8 0 24 (Leaves n inner) (Leaves exit w) (held ++ branch_entry next marked_now ∷ []) held
      (ev_test p input below t v) (λ x _. one x tt) (λ _. rest) 0 s 0 q
      (runs (length held) (j + 1 + 1) (omega (arith, few)) (held ++ branch_entry next marked_now ∷ []) s z.to
      (and_then code input (and_then code input silently a.silently) z.silently)
      (at_address (at + 1 + 1) (at + 2) marked_now (held ++ branch_entry next marked_now ∷ []) z.to (omega arith) z.is))
      on_alternative
      (λ x failing. let y = pop_step code input next marked_now held x failing in
      later (length held) 1 (omega arith) held x y.to y.silently y.is)
    where
      marked_now : List PlainFrame
      marked_now = top_written now lo (cell.Mark (length held))

      w : Ways NoYield
      w = leaving p code input lo r now (Nothing p code input)

      inner : Ways NoYield
      inner = leaving p code input (lo + 1) r (top_written now lo (cell.Mark (length held))) (Nothing p code input)

      on_alternative : (x : Store) (f : Flow NoYield) (y : State) (above : List PlainEntry)
          → IsGoing ((held ++ branch_entry next (top_written now lo (cell.Mark (length held))) ∷ []) ++ above) y
          → Leaves n (leaving p code input (lo + 1) r (top_written now lo (cell.Mark (length held))) (Nothing p code input)) x f y
          → Goes code input line 0 24 (Leaves exit (leaving p code input lo r now (Nothing p code input))) held (one x tt) y (8 + 0) q
      on_alternative x (Go m) y above going left =
          let e0 = branch_entry next (top_written now lo (cell.Mark (length held))) in
          let c = cut_step code input line n lo y.now held ((e0 ∷ []) ++ above) y
          (record { mode = going.mode; here = left.0; frames = refl; entries = going.entries ∙ append_assoc held (e0 ∷ []) above }) cut
          ((part_keeps p code input lo r (length held) v now behind kind b).keeps x m y.now left.1) in
          let l = leads y.now held c.to c.is in
          before code input line 0 24 (Leaves exit (leaving p code input lo r now (Nothing p code input))) held (one x tt) y l.1 (1 + l.0)
          (8 + 0) 0 q q (and_then code input c.silently l.3) (omega (arith, l.2)) (omega arith)
          (one_goes code input line 0 24 (Leaves exit (leaving p code input lo r now (Nothing p code input))) held x tt l.1 0 q
          (omega arith) (record { mode = l.4.mode; entries = l.4.entries }) (
            l.4.here,
            subst (λ f. Left p code input lo r now x f × Unit {0}) (sym l.4.frames) (
              left_on p code input lo (lo + 1) r now v x (top_written now lo (cell.Mark (length held))) y.now (omega arith)
                  (marked p code input lo r (length held) v now behind b) left.1.0,
              tt,
            ),
          ))
      on_alternative x (Return m) y above going left = absurd left

  abbrev pub OperandsRun : (jump at lo : ℕ) → Tests → Type 0
  OperandsRun jump at lo ts =
      Stands code at (operands_code p tables r line jump at lo ts) → (exit : ℕ)
      → exit ≡ at + length (operands_code p tables r line jump at lo ts) → LeadsTo code input 6 jump exit
      → (v : Store) (now : List PlainFrame) → Begins p code input r v now
      → ComesTo at exit now (leaving p code input lo r now (Nothing p code input)) (ev_or p input below ts v)

  pub last_operand_run : (jump at lo : ℕ) (t : Test) → TestRuns p tables code input below r line q at lo t
      → OperandsRun jump at lo (more_tests t no_tests)
  unfolding ev_stmts
  last_operand_run jump at lo t runs stands exit is leads v now b j few held s u silently there =
      subst (λ n. Goes code input line 0 24 (Leaves n (leaving p code input lo r now (Nothing p code input))) held
      (ev_test p input below t v) s 0 q) (sym is)
      (credited code input line 8 0 0 24 (Leaves (at + length (test_code p tables r line at lo t))
      (leaving p code input lo r now (Nothing p code input))) held (ev_test p input below t v) s 0 q (omega arith)
      (runs stands v now b j (omega (arith, few)) held s u silently there))

  -- with the mark written, in words of the frames before
  comes_on : (at exit lo la h : ℕ) (e : Events NoYield) (v : Store) (now : List PlainFrame) → lo ≤ la → own_end p r ≤ lo
      → Begins p code input r v now
      → ComesTo at exit (top_written now lo (cell.Mark h))
      (leaving p code input la r (top_written now lo (cell.Mark h)) (Nothing p code input)) e
      → ComesTo at exit (top_written now lo (cell.Mark h)) (leaving p code input lo r now (Nothing p code input)) e
  comes_on at exit lo la h e v now le behind b comes j few held s u silently is =
      then_up_to code input line 0 0 24 0 (Leaves exit (leaving p code input la r m (Nothing p code input)))
      (Leaves exit (leaving p code input lo r now (Nothing p code input))) held e s 0 q (omega arith) less
      (comes j few held s u silently is)
    where
      m : List PlainFrame
      m = top_written now lo (cell.Mark h)

      less : (x : Store) (f : Flow NoYield) (y : State) (base : List PlainEntry) → IsGoing base y
          → Leaves exit (leaving p code input la r m (Nothing p code input)) x f y → (i : ℕ) × (z : State) × (i ≤ 0)
          × Silently code input i y z × IsGoing base z × Leaves exit (leaving p code input lo r now (Nothing p code input)) x f z
      less x (Go n) y base going out = (
        0,
        y,
        omega arith,
        no_step code input y,
        going,
        (out.0, (left_on p code input lo la r now v x m y.now le (marked p code input lo r h v now behind b) out.1.0, tt)),
      )
      less x (Return n) y base going out = absurd out

  pub more_operands_run : (jump at lo : ℕ) (t t' : Test) (rest : Tests)
      → HasSlots p code r lo (or_slots p r (more_tests t (more_tests t' rest)))
      → TestRuns p tables code input below r line q (at + 2) (lo + 1) t
      → ((next : ℕ) → OperandsRun jump next (behind_test p r (lo + 1) t) (more_tests t' rest))
      → OperandsRun jump at lo (more_tests t (more_tests t' rest))
  unfolding ev_stmts
  more_operands_run jump at lo t t' rest slots runs others stands exit is leads v now b =
      let kind = first_kind p code input r lo slot.Mark (test_slots p r t ++ or_slots p r (more_tests t' rest)) slots in
      let inner : List LineInstr = test_code p tables r line (at + 2) (lo + 1) t in
      let cut : List LineInstr = own line (I.Cut lo ∷ []) in
      let head : List LineInstr = first_of_two line (at + 2) lo inner in
      let out : List LineInstr = own line (I.Jump jump ∷ []) in
      let next : ℕ = at + length (head ++ out) in
      let la : ℕ = behind_test p r (lo + 1) t in
      let after : List LineInstr = operands_code p tables r line jump next la (more_tests t' rest) in
      let n : ℕ = at + 2 + length inner in
      let front = stands_front code at (head ++ out) after stands in
      let begin = stands_front code at head out front in
      let back = stands_back code at head out front in
      let two : at + 1 + 1 ≡ at + 2 = omega arith in
      let inside : Stands code (at + 2) (inner ++ cut) = subst (λ m. Stands code m (inner ++ cut)) two begin.2.2 in
      let cut_at = stands_back code (at + 2) inner cut inside in
      let long : length (inner ++ cut) ≡ length inner + 1 = length-append inner cut in
      let ends : at + length head ≡ n + 1 = omega (arith, long) in
      let both : length (head ++ out) ≡ length head + 1 = length-append head out in
      let whole : length ((head ++ out) ++ after) ≡ length (head ++ out) + length after = length-append (head ++ out) after in
      let here : next ≡ n + 2 = omega (arith, both, ends) in
      let jump_at : InstrAt code input line (n + 1) (I.Jump jump) =
      subst (λ m. InstrAt code input line m (I.Jump jump)) ends (record { instr = back.0; on_line = back.1 }) in
      let end : exit ≡ next + length after = omega (arith, is, whole) in
      operand_comes at n (n + 2) exit lo t (ev_or p input below (more_tests t' rest) v) v now slots.behind kind b
      (record { instr = begin.0; on_line = begin.1 }) (record { instr = begin.2.0; on_line = begin.2.1 })
      (record { instr = cut_at.0; on_line = cut_at.1 })
      (leads_then code input line 6 (n + 1) jump exit jump_at leads)
      (λ h. runs (stands_front code (at + 2) inner cut inside) v (top_written now lo (cell.Mark h))
      (begins p code input lo r now v (top_written now lo (cell.Mark h)) (marked p code input lo r h v now slots.behind b)))
      (λ h. comes_on (n + 2) exit lo la h (ev_or p input below (more_tests t' rest) v) v now (omega arith) slots.behind b
      (subst (λ m. ComesTo m exit (top_written now lo (cell.Mark h))
      (leaving p code input la r (top_written now lo (cell.Mark h)) (Nothing p code input))
      (ev_or p input below (more_tests t' rest) v)) here
      (others next (stands_back code at (head ++ out) after stands) exit end leads v (top_written now lo (cell.Mark h))
      (begins p code input lo r now v (top_written now lo (cell.Mark h)) (marked p code input lo r h v now slots.behind b)))))

  pub one_or_runs : (at lo : ℕ) (t : Test) → TestRuns p tables code input below r line q at lo t
      → TestRuns p tables code input below r line q at lo (Or (more_tests t no_tests))
  unfolding ev_stmts
  one_or_runs at lo t runs stands v now b =
      let exit : ℕ = at + length (test_code p tables r line at lo t) in
      let w = leaving p code input lo r now (Nothing p code input) in
      node_runs p code input line 0 at exit now w (ev_test p input below t v) q (omega arith)
      (node_from p code input line at exit now w (ev_test p input below t v) q (runs stands v now b))

  pub or_runs : (at lo : ℕ) (t t' : Test) (rest : Tests) → HasSlots p code r lo (or_slots p r (more_tests t (more_tests t' rest)))
      → TestRuns p tables code input below r line q (at + 2) (lo + 1) t
      → ((jump next : ℕ) → OperandsRun jump next (behind_test p r (lo + 1) t) (more_tests t' rest))
      → TestRuns p tables code input below r line q at lo (Or (more_tests t (more_tests t' rest)))
  unfolding ev_stmts
  or_runs at lo t t' rest slots runs others stands v now b =
      let kind = first_kind p code input r lo slot.Mark (test_slots p r t ++ or_slots p r (more_tests t' rest)) slots in
      let inner : List LineInstr = test_code p tables r line (at + 2) (lo + 1) t in
      let cut : List LineInstr = own line (I.Cut lo ∷ []) in
      let head : List LineInstr = first_of_two line (at + 2) lo inner in
      let jump : ℕ = at + length head in
      let next : ℕ = at + length head + 1 in
      let la : ℕ = behind_test p r (lo + 1) t in
      let after : List LineInstr = operands_code p tables r line jump next la (more_tests t' rest) in
      let out : List LineInstr = own line (I.Jump (jump + 1 + length after) ∷ []) in
      let n : ℕ = at + 2 + length inner in
      let begin = stands_front code at head (out ++ after) stands in
      let back = stands_back code at head (out ++ after) stands in
      let two : at + 1 + 1 ≡ at + 2 = omega arith in
      let inside : Stands code (at + 2) (inner ++ cut) = subst (λ m. Stands code m (inner ++ cut)) two begin.2.2 in
      let cut_at = stands_back code (at + 2) inner cut inside in
      let long : length (inner ++ cut) ≡ length inner + 1 = length-append inner cut in
      let ends : at + length head ≡ n + 1 = omega (arith, long) in
      let whole : length (head ++ (out ++ after)) ≡ length head + suc (length after) = length-append head (out ++ after) in
      let exit : ℕ = at + length (head ++ (out ++ after)) in
      let end : jump + 1 + length after ≡ exit = omega (arith, whole) in
      let here : next ≡ n + 2 = omega (arith, ends) in
      let i : InstrAt code input line jump (I.Jump exit) =
      subst (λ m. InstrAt code input line jump (I.Jump m)) end (record { instr = back.0; on_line = back.1 }) in
      let last : exit ≡ next + length after = omega (arith, whole) in
      let w = leaving p code input lo r now (Nothing p code input) in
      let e : Events NoYield = on_first (ev_test p input below t v) (λ u _. one u tt) (λ _. ev_or p input below (more_tests t' rest) v) in
      node_runs p code input line 0 at exit now w e q (omega arith)
      (λ held s is.
      operand_comes at n (n + 2) exit lo t (ev_or p input below (more_tests t' rest) v) v now slots.behind kind b
      (record { instr = begin.0; on_line = begin.1 }) (record { instr = begin.2.0; on_line = begin.2.1 })
      (record { instr = cut_at.0; on_line = cut_at.1 })
      (subst (λ m. LeadsTo code input 7 m exit) ends (leads_by_jump code input line 7 jump exit (omega arith) i))
      (λ h. runs (stands_front code (at + 2) inner cut inside) v (top_written now lo (cell.Mark h))
      (begins p code input lo r now v (top_written now lo (cell.Mark h)) (marked p code input lo r h v now slots.behind b)))
      (λ h. comes_on (n + 2) exit lo la h (ev_or p input below (more_tests t' rest) v) v now (omega arith) slots.behind b
      (subst (λ m. ComesTo m exit (top_written now lo (cell.Mark h))
      (leaving p code input la r (top_written now lo (cell.Mark h)) (Nothing p code input))
      (ev_or p input below (more_tests t' rest) v)) here
      (others jump next back.2 exit last (leads_by_jump code input line 6 jump exit (omega arith) i) v (top_written now lo (cell.Mark h))
      (begins p code input lo r now v (top_written now lo (cell.Mark h)) (marked p code input lo r h v now slots.behind b)))))
      0 (omega arith) held s s (no_step code input s) is)

  -- ---- EITHER

  -- each list of the branches, wherever it stands
  abbrev pub EachRuns : (may : Bool) → Branches → Type 0
  EachRuns may no_branches = Unit {0}
  EachRuns may (more_branches body rest) =
      ((at lo : ℕ) → HasSlots p code r lo (stmts_slots p r body) → ListRuns p tables code input below r line q may at lo body)
      × EachRuns may rest

  each_list : (may : Bool) (lo : ℕ) (v : Store) (now : List PlainFrame) → own_end p r ≤ lo → Begins p code input r v now
      → (branches : Branches) → EachRuns may branches
      → either.ListsRun p tables r code input below line v now (ending p code input may lo r now) q lo branches
  each_list may lo v now behind b no_branches each = tt
  each_list may lo v now behind b (more_branches body rest) each = (
    λ at lo2 le slots stands.
        on_ending p code input may line at (at + length (stmts_code p tables r at lo2 body)) lo lo2 r v now now
        (ev_stmts p input below body v) q le behind (left_self p code input lo r v now b) (each.0 at lo2 slots stands v now b),
    each_list may lo v now behind b rest each.1,
  )

  pub either_form : (may : Bool) (at lo : ℕ) (branches : Branches) → HasSlots p code r lo (branches_slots p r branches)
      → (branches ≡ no_branches → ⊥) → EachRuns may branches → StatementRuns p tables code input below r line q may at lo (Either branches)
  unfolding ev_stmts
  either_form may at lo branches slots some each stands v now b =
      either.either_runs p tables r code input below line v now (ending p code input may lo r now) q lo branches at lo
      (each_list may lo v now slots.behind b branches each) (omega arith) slots some stands
