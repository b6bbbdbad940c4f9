-- Truths as numbers, WHILE and REPEAT, from template to run.
use Rattle.std.proofs.Common.{◌≡◌, ℕ, suc, ◌+◌, ◌-◌, ◌≤◌, Bool, true, false, List, [], ◌∷◌, ◌++◌, length, refl, sym, subst, arith, ℤ, pos}
use Rattle.std.proofs.Common.{Option, Some, None}
use Rattle.std.proofs.lemmas.List.{length-append}
use Rattle.alma_code.specs.declared.cell.Cell.TheVariants as cell
use Rattle.alma_code.specs.declared.cell.SlotKind.{SlotKind}
use Rattle.alma_code.specs.declared.cell.SlotKind.TheVariants as slot
use Rattle.alma_code.specs.declared.instr.Instr.TheVariants as I
use Rattle.alma_code.specs.Machine.{State}
use Rattle.alma_code.specs.Picture.{PlainFrame, PlainEntry}
use Rattle.alma_code.specs.Plain.{PlainCode}
use Rattle.alma_ir.specs.Tree.{Program, Stmts, Test, While, Repeat, Truth}
use Rattle.alma_mean.specs.Store.{Store}
use Rattle.alma_mean.specs.Events.{Events, NoYield, Visit, one, bind, node, on_first}
use Rattle.alma_mean.specs.Meaning.{Level, ev_stmts, ev_test, ev_expr}
use Rattle.alma_lower_implements.proofs.Goes.{Silently, and_then, before}
use Rattle.alma_lower_implements.proofs.Frames.{own_end, HasSlots, IsAt}
use Rattle.alma_lower_implements.proofs.ChoiceSteps.{jumps}
use Rattle.alma_lower_implements.proofs.ExprRows.{first_kind}
use Rattle.alma_lower_implements.proofs.Steps.{InstrAt, top_written, const_step}
use Rattle.alma_lower_implements.proofs.TurnRow.{while_row, repeat_row}
use Rattle.alma_lower_implements.proofs.Ways.{Leaves, Later, Visited, visited_behind, leads_nowhere, leads_by_jump}
use Rattle.alma_lower_templates.specs.LineInstr.{LineInstr, own}
use Rattle.alma_lower_templates.specs.Tables.{Tables}
use Rattle.alma_lower_templates.specs.Pieces.{held_code}
use Rattle.alma_lower_templates.specs.Slots.{is_simple, is_turned, by_turn, mark_slots, expr_slots, test_slots, stmt_slots, stmts_slots}
use Rattle.alma_lower_templates.specs.Slots.{held_constant, held_slots, behind_stmts, behind_condition, behind_held}
use Rattle.alma_lower_templates.specs.Templates.{stmts_code, stmt_code, back_code}
use Rattle.alma_lower_templates.specs.Stands.{Stands}
use Rattle.alma_lower_templates.proofs.Stands.{stands_front, stands_back}
use Rattle.alma_lower_templates.proofs.Parts.{Begins, begins, Left, left_self, left_less, left_on, left_temp, has_kind, holds_temp}
use Rattle.alma_lower_templates.proofs.Parts.{ValueIn, NodeRuns, From, RunsFor, leaving, from_ending}
use Rattle.alma_lower_templates.proofs.Parts.{ending, on_ending, on_later, as_runs, node_runs, on_from, ends_here, value_ends}
use Rattle.alma_lower_templates.proofs.Parts.{value_goes_on}
use Rattle.alma_lower_templates.proofs.RangeChecks.{past_from}
use Rattle.alma_lower_templates.proofs.GuardedForms.{Decided, behind_test_at, guarded_code, guarded_front, guarded_back, guarded_long}
use Rattle.alma_lower_templates.proofs.GuardedForms.{condition_long}
use Rattle.alma_lower_templates.proofs.Conditions.{condition_code}
use Rattle.alma_lower_templates.proofs.Turned.{while_code, IsHeld, held_up, held_after, GoesBack}
use Rattle.alma_lower_templates.proofs.FormRuns.{ExprRuns, StatementRuns, ListRuns}

module _ (p : Program) (tables : Tables) (code : PlainCode) (input : List ℕ) (below : Level) (r line q : ℕ) where
  -- ---- a condition as a number

  pub truth_runs : (at lo : ℕ) (t : Test) → HasSlots p code r lo (expr_slots p r (Truth t))
      → ((none : ℕ) → Decided p tables code input below r line q at (lo + 1) none t (ev_test p input below t) q)
      → ExprRuns p tables code input below r line q at lo (Truth t)
  unfolding ev_expr
  truth_runs at lo t slots decides stands v now b =
      let kind = first_kind p code input r lo slot.Number (mark_slots (is_simple t) ++ test_slots p r t) slots in
      let nothing = λ (next : ℕ). [] in
      let head : List LineInstr = guarded_code p tables code input below r line q at (lo + 1) 2 t nothing in
      let m : ℕ = behind_test_at p tables code input below r line q at (lo + 1) t in
      let h : ℕ = at + length head in
      let last : List LineInstr = own line (I.Const lo (pos 1) ∷ I.Jump (h + 3) ∷ I.Const lo (pos 0) ∷ []) in
      let front = stands_front code at head last stands in
      let back = stands_back code at head last stands in
      let here : h ≡ m + 0 = guarded_long p tables code input below r line q at (lo + 1) 2 t nothing in
      let at_m : h ≡ m = omega (arith, here) in
      let whole : length (head ++ last) ≡ length head + 3 = length-append head last in
      let exit : ℕ = m + 3 in
      let end : exit ≡ at + length (head ++ last) = omega (arith, whole, at_m) in
      let one_at : InstrAt code input line m (I.Const lo (pos 1)) =
      subst (λ n. InstrAt code input line n (I.Const lo (pos 1))) at_m (record { instr = back.0; on_line = back.1 }) in
      let jump_there : InstrAt code input line (m + 1) (I.Jump (h + 3)) =
      subst (λ n. InstrAt code input line (n + 1) (I.Jump (h + 3))) at_m (record { instr = back.2.0; on_line = back.2.1 }) in
      let out : h + 3 ≡ exit = omega (arith, at_m) in
      let jump_at : InstrAt code input line (m + 1) (I.Jump exit) =
      subst (λ n. InstrAt code input line (m + 1) (I.Jump n)) out jump_there in
      let zero_here : h + 1 + 1 ≡ m + 0 + 2 = omega (arith, at_m) in
      let zero_at : InstrAt code input line (m + 0 + 2) (I.Const lo (pos 0)) =
      subst (λ n. InstrAt code input line n (I.Const lo (pos 0))) zero_here (record { instr = back.2.2.0; on_line = back.2.2.1 }) in
      let behind_zero : m + 0 + 2 + 1 ≡ exit = omega arith in
      let w = leaving p code input lo r now (ValueIn p code input lo) in
      subst (λ n. NodeRuns p code input line at n now w (ev_expr p input below (Truth t) v) q) end
      (node_runs p code input line 19 at exit now w (on_first (ev_test p input below t v) (λ u _. one u (pos 1)) (λ _. one v (pos 0))) q
      (omega arith)
      (λ held s is.
      decides (m + 0 + 2) v now b (guarded_front p tables code input below r line q at (lo + 1) 2 t nothing front) ℤ 0 24 (Leaves exit w)
      (λ u _. one u (pos 1)) (λ _. one v (pos 0)) 8 8 (omega arith) held s is
      (λ u t2 there left.
      let left0 = left_less p code input lo (lo + 1) r now u t2.now (omega arith) left in
      on_from p code input line 16 m exit lo lo r u now t2.now (ValueIn p code input lo) (one u (pos 1)) (q - 1) (omega arith) slots.behind
      left0
      (value_goes_on p code input line 15 m exit lo r u t2.now (pos 1) (ValueIn p code input lo) (one u (pos 1)) (q - 1) slots.behind kind
      refl (begins p code input lo r now u t2.now left0)
      (λ h s2 is2. const_step code input line m t2.now h s2 is2 lo (pos 1) one_at
      (has_kind p code input r lo u t2.now slot.Number kind (begins p code input lo r now u t2.now left0)))
      (λ t3 left3 value.
      past_from p tables code input below r line (q - 1) 14 (m + 1) exit exit t3 (leaving p code input lo r t3 (ValueIn p code input lo))
      (one u (pos 1)) (λ h s2 is2. jumps code input line (m + 1) exit t3 h s2 is2 jump_at)
      (ends_here p code input line 14 exit lo r u t3 (ValueIn p code input lo) (pos 1) (q - 1) (begins p code input lo r t2.now u t3 left3)
      value)))
      held t2 there)
      (λ t2 there left.
      let left0 = left_less p code input lo (lo + 1) r now v t2.now (omega arith) left in
      on_from p code input line 8 (m + 0 + 2) exit lo lo r v now t2.now (ValueIn p code input lo) (one v (pos 0)) (q - 1) (omega arith)
      slots.behind left0
      (subst (λ n. From p code input line 8 (m + 0 + 2) n t2.now (leaving p code input lo r t2.now (ValueIn p code input lo))
      (one v (pos 0)) (q - 1)) behind_zero
      (value_ends p code input line 7 (m + 0 + 2) lo r v t2.now (pos 0) (q - 1) slots.behind kind refl
      (begins p code input lo r now v t2.now left0)
      (λ h s2 is2. const_step code input line (m + 0 + 2) t2.now h s2 is2 lo (pos 0) zero_at
      (has_kind p code input r lo v t2.now slot.Number kind (begins p code input lo r now v t2.now left0)))))
      held t2 there)))

  -- ---- WHILE

  -- lists whose events are given
  abbrev pub GivenRuns : (may : Bool) (at lo : ℕ) → Stmts → (Store → Events NoYield) → (d : ℕ) → Type 0
  GivenRuns may at lo x f d = RunsFor p code input may r line at lo (stmts_code p tables r at lo x) f d

  -- turns whose events are given
  abbrev pub TurnsRun : (may : Bool) (top exit lo : ℕ) → (Store → Events NoYield) → (d : ℕ) → Type 0
  TurnsRun may top exit lo f d = (v : Store) (now : List PlainFrame) → Begins p code input r v now
      → Later code input line top exit now (ending p code input may lo r now) (f v) d

  -- the constant that is held stands in its slot where a turn of WHILE begins
  abbrev pub IsHeldBy : (behind : Bool) (lo : ℕ) → Test → List PlainFrame → Type 0
  IsHeldBy behind lo t now =
      IsHeld p code input r (by_turn behind (held_constant t) None) lo (behind_held p r lo t) now

  abbrev pub HeldTurnsRun : (may : Bool) (top exit lo : ℕ) → Test → (Store → Events NoYield) → (d : ℕ) → Type 0
  HeldTurnsRun may top exit lo t f d = (v : Store) (now : List PlainFrame) → Begins p code input r v now
      → IsHeldBy (is_turned t) lo t now → Later code input line top exit now (ending p code input may lo r now) (f v) d

  abbrev pub while_exit : (at lo : ℕ) → Test → Stmts → ℕ
  while_exit at lo t body = at + length (stmt_code p tables r line at lo (While t body))

  -- the address of the first jump, behind the constant
  abbrev pub behind_constant : (at lo : ℕ) → Test → ℕ
  behind_constant at lo t = at + length (own line (held_code (held_constant t) lo))

  -- the body of a loop whose condition stands behind it, and the address of that condition
  abbrev pub turned_body : (at lo : ℕ) → Test → Stmts → List LineInstr
  turned_body at lo t body = stmts_code p tables r (behind_constant at lo t + 1) (behind_held p r lo t) body

  abbrev pub turned_top : (at lo : ℕ) → Test → Stmts → ℕ
  turned_top at lo t body = behind_constant at lo t + 1 + length (turned_body at lo t body)

  -- the address of the condition
  abbrev pub turn_top : (behind : Bool) (at lo : ℕ) → Test → Stmts → ℕ
  turn_top behind at lo t body = by_turn behind (turned_top at lo t body) (at + 1)

  -- what is known of the condition and the body of a turn
  pub record BehindKnown (may : Bool) (at lo : ℕ) (t : Test) (body : Stmts) (cond does : Store → Events NoYield) (d : ℕ) : Type 1 where
    pub decides : GoesBack p tables code input below r line q (turned_top at lo t body)
        (behind_stmts p r (behind_held p r lo t) body) lo (behind_constant at lo t + 1) t cond d
    pub runs : GivenRuns may (behind_constant at lo t + 1) (behind_held p r lo t) body does (d - 1)

  pub record BeforeKnown (may : Bool) (at lo : ℕ) (t : Test) (body : Stmts) (cond does : Store → Events NoYield) (d : ℕ) : Type 1 where
    pub decides : (none : ℕ) → Decided p tables code input below r line q (at + 1) lo none t cond d
    pub runs : (next : ℕ) → GivenRuns may next (behind_condition p r lo t) body does (d - 1)

  abbrev pub TurnKnown : (behind : Bool) (may : Bool) (at lo : ℕ) → Test → Stmts → (cond does : Store → Events NoYield) (d : ℕ) → Type 1
  TurnKnown true may at lo t body cond does d = BehindKnown may at lo t body cond does d
  TurnKnown false may at lo t body cond does d = BeforeKnown may at lo t body cond does d

  -- a turn, from its condition on
  turn_by : (z : Bool) (may : Bool) (at lo : ℕ) (t : Test) (body : Stmts) (cond does again : Store → Events NoYield) (d u : ℕ)
      → own_end p r ≤ lo → d ≤ suc u → TurnKnown z may at lo t body cond does d
      → ((x : Store) (t2 : List PlainFrame) → Begins p code input r x t2 → IsHeldBy z lo t t2
      → Later code input line (turn_top z at lo t body) (at + length (while_code p tables r z line at lo t body)) t2
      (ending p code input may lo r t2) (again x) u)
      → Stands code at (while_code p tables r z line at lo t body)
      → (v : Store) (now : List PlainFrame) → Begins p code input r v now → IsHeldBy z lo t now
      → Visited code input line (turn_top z at lo t body) (at + length (while_code p tables r z line at lo t body)) now
      (ending p code input may lo r now)
      (on_first (cond v) (λ x _. bind (does x) (λ y _. again y)) (λ _. one v tt)) d
  turn_by true may at lo t body cond does again d u behind owes known turns stands v now b is_held =
      let lo1 : ℕ = behind_held p r lo t in
      let at1 : ℕ = behind_constant at lo t in
      let inner : List LineInstr = turned_body at lo t body in
      let top : ℕ = turned_top at lo t body in
      let lo2 : ℕ = behind_stmts p r lo1 body in
      let last : List LineInstr = back_code p tables r line top lo2 lo (at1 + 1) t in
      let held : List LineInstr = own line (held_code (held_constant t) lo) in
      let jump : List LineInstr = own line (I.Jump top ∷ []) in
      let loop = stands_back code at held (jump ++ (inner ++ last)) stands in
      let both : length (inner ++ last) ≡ length inner + length last = length-append inner last in
      let all : length (held ++ (jump ++ (inner ++ last))) ≡ length held + length (jump ++ (inner ++ last)) =
      length-append held (jump ++ (inner ++ last)) in
      let end : top + length last ≡ at + length (while_code p tables r true line at lo t body) = omega (arith, both, all) in
      let w = ending p code input may lo r now in
      let w1 = ending p code input may lo1 r now in
      subst (λ n. Visited code input line top n now w (on_first (cond v) (λ x _. bind (does x) (λ z _. again z)) (λ _. one v tt)) d) end
      (while_row code input line top (at1 + 1) top (top + length last) now w v (cond v) does again
      (λ x t2. Left p code input lo2 r now x t2) (λ t2. Left p code input lo2 r now v t2) (λ x t2. w1) d u owes
      (known.decides v now b
      (held_up p code input r (held_constant t) lo lo1 lo2 now (omega arith) is_held)
      (stands_back code (at1 + 1) inner last loop.2)) (leads_nowhere code input 1 top)
      (λ x t2 left.
      let left1 = left_less p code input lo1 lo2 r now x t2 (omega arith) left in
      on_ending p code input may line (at1 + 1) top lo1 lo1 r x now t2 (does x) (d - 1) (omega arith) (omega (arith, behind)) left1
      (known.runs (stands_front code (at1 + 1) inner last loop.2) x t2 (begins p code input lo1 r now x t2 left1)))
      (λ x t2 z t3 left left3.
      subst (λ n. Later code input line top n t3 w (again z) u) (sym end)
      (on_later p code input may line top (at + length (while_code p tables r true line at lo t body)) lo lo r z now t3 (again z) u
      (omega arith) behind (left_less p code input lo lo1 r now z t3 (omega arith) left3)
      (turns z t3 (begins p code input lo1 r now z t3 left3)
      (held_after p code input r (held_constant t) lo lo1 v z now t3 b left3 is_held))))
      (λ x t2 z n a t3 left h. h)
      (λ t2 left. left_less p code input lo lo2 r now v t2 (omega arith) left))
  turn_by false may at lo t body cond does again d u behind owes known turns stands v now b is_held =
      let made = λ (next : ℕ). stmts_code p tables r next (behind_condition p r lo t) body in
      let top : ℕ = at + 1 in
      let head : List LineInstr = guarded_code p tables code input below r line q top lo 1 t made in
      let out : List LineInstr = own line (I.Jump top ∷ []) in
      let m : ℕ = behind_test_at p tables code input below r line q top lo t in
      let y : ℕ = m + length (made m) in
      let front = stands_front code top head out stands.2 in
      let back = stands_back code top head out stands.2 in
      let ends : top + length head ≡ y = guarded_long p tables code input below r line q top lo 1 t made in
      let jump_at : InstrAt code input line y (I.Jump top) =
      subst (λ n. InstrAt code input line n (I.Jump top)) ends (record { instr = back.0; on_line = back.1 }) in
      let both : length (head ++ out) ≡ length head + 1 = length-append head out in
      let end : m + length (made m) + 1 ≡ at + length (while_code p tables r false line at lo t body) = omega (arith, both, ends) in
      let w = ending p code input may lo r now in
      subst (λ n. Visited code input line top n now w (on_first (cond v) (λ x _. bind (does x) (λ z _. again z)) (λ _. one v tt)) d) end
      (while_row code input line top m y (m + length (made m) + 1) now w v (cond v) does again (λ x t2. Left p code input lo r now x t2)
      (λ t2. Left p code input lo r now v t2) (λ x t2. w) d u owes
      (known.decides (m + length (made m) + 1) v now b (guarded_front p tables code input below r line q top lo 1 t made front))
      (leads_by_jump code input line 1 y top (omega arith) jump_at)
      (λ x t2 left. on_ending p code input may line m y lo (behind_condition p r lo t) r x now t2 (does x) (d - 1) (omega arith) behind left
      (known.runs m (guarded_back p tables code input below r line q top lo 1 t made front) x t2 (begins p code input lo r now x t2 left)))
      (λ x t2 z t3 left left3.
      subst (λ n. Later code input line top n t3 w (again z) u) (sym end)
      (on_later p code input may line top (at + length (while_code p tables r false line at lo t body)) lo lo r z now t3 (again z) u
      (omega arith) behind
      left3 (turns z t3 (begins p code input lo r now z t3 left3) tt)))
      (λ x t2 z n a t3 left h. h)
      (λ t2 left. left))

  -- up to the first condition: the constant that is held goes into its slot, and the jump is taken
  record Enters (o : Option ℤ) (top lo la : ℕ) (v : Store) (now : List PlainFrame) (held : List PlainEntry) (s : State) : Type 0 where
    count : ℕ
    some : 1 ≤ count
    few : count ≤ 2
    later : List PlainFrame
    to : State
    silently : Silently code input count s to
    is : IsAt top later held to
    left : Left p code input lo r now v later
    stays : IsHeld p code input r o lo la later

  enters : (o : Option ℤ) (at top lo la : ℕ) (others : List SlotKind) (rest : List LineInstr) → lo + length (held_slots o) ≤ la
      → (v : Store) (now : List PlainFrame) → HasSlots p code r lo (held_slots o ++ others) → Begins p code input r v now
      → Stands code at (own line (held_code o lo) ++ (own line (I.Jump top ∷ []) ++ rest))
      → (held : List PlainEntry) (s : State) → IsAt at now held s → Enters o top lo la v now held s
  enters None at top lo la others rest le v now slots b stands held s is =
      let j = jumps code input line at top now held s is (record { instr = stands.0; on_line = stands.1 }) in
      record {
        count = 1;
        some = omega arith;
        few = omega arith;
        later = now;
        to = j.to;
        silently = j.silently;
        is = j.is;
        left = left_self p code input lo r v now b;
        stays = tt;
      }
  enters (Some n) at top lo la others rest le v now slots b stands held s is =
      let kind = first_kind p code input r lo slot.Number others slots in
      let c = const_step code input line at now held s is lo n (record { instr = stands.0; on_line = stands.1 })
      (has_kind p code input r lo v now slot.Number kind b) in
      let later : List PlainFrame = top_written now lo (cell.Int n) in
      let j = jumps code input line (at + 1) top later held c.to c.is (record { instr = stands.2.0; on_line = stands.2.1 }) in
      record {
        count = 2;
        some = omega arith;
        few = omega arith;
        later = later;
        to = j.to;
        silently = and_then code input c.silently j.silently;
        is = j.is;
        left = left_temp p code input lo r lo v now (cell.Int n) (omega arith) slots.behind b;
        stays = record {
          behind = slots.behind;
          under = omega (arith, le);
          holds = holds_temp p code input r lo v now (cell.Int n) slot.Number kind b;
        };
      }

  -- the slots of WHILE, by where its condition stands
  abbrev pub while_slots : (behind : Bool) → Test → Stmts → List SlotKind
  while_slots behind t body = by_turn behind (held_slots (held_constant t) ++ (stmts_slots p r body ++ test_slots p r t))
      (mark_slots (is_simple t) ++ (test_slots p r t ++ stmts_slots p r body))

  entered : (z : Bool) (at lo : ℕ) (t : Test) (body : Stmts) → HasSlots p code r lo (while_slots z t body)
      → Stands code at (while_code p tables r z line at lo t body)
      → (v : Store) (now : List PlainFrame) → Begins p code input r v now → (held : List PlainEntry) (s : State) → IsAt at now held s
      → Enters (by_turn z (held_constant t) None) (turn_top z at lo t body) lo (behind_held p r lo t) v now held s
  entered true at lo t body slots stands v now b held s is =
      let top : ℕ = turned_top at lo t body in
      let last : List LineInstr = back_code p tables r line top (behind_stmts p r (behind_held p r lo t) body) lo
      (behind_constant at lo t + 1) t in
      enters (held_constant t) at top lo (behind_held p r lo t) (stmts_slots p r body ++ test_slots p r t)
      (turned_body at lo t body ++ last) (omega arith) v now slots b stands held s is
  entered false at lo t body slots stands v now b held s is =
      let inner : List LineInstr = guarded_code p tables code input below r line q (at + 1) lo 1 t
      (λ next. stmts_code p tables r next (behind_condition p r lo t) body) in
      enters None at (at + 1) lo (behind_held p r lo t) (while_slots false t body) (inner ++ own line (I.Jump (at + 1) ∷ [])) (omega arith)
      v now slots b stands held s is

  abbrev pub while_top : (at lo : ℕ) → Test → Stmts → ℕ
  while_top at lo t body = turn_top (is_turned t) at lo t body

  pub while_turn_runs : (may : Bool) (at lo : ℕ) (t : Test) (body : Stmts) (cond does again : Store → Events NoYield) (d u : ℕ)
      → own_end p r ≤ lo → d ≤ suc u → TurnKnown (is_turned t) may at lo t body cond does d
      → HeldTurnsRun may (while_top at lo t body) (while_exit at lo t body) lo t again u
      → Stands code at (stmt_code p tables r line at lo (While t body))
      → (v : Store) (now : List PlainFrame) → Begins p code input r v now → IsHeldBy (is_turned t) lo t now
      → Visited code input line (while_top at lo t body) (while_exit at lo t body) now (ending p code input may lo r now)
      (on_first (cond v) (λ x _. bind (does x) (λ y _. again y)) (λ _. one v tt)) d
  while_turn_runs may at lo t body cond does again d u behind owes known turns stands v now b is_held =
      turn_by (is_turned t) may at lo t body cond does again d u behind owes known turns stands v now b is_held

  pub while_runs : (may : Bool) (at lo : ℕ) (t : Test) (body : Stmts) → HasSlots p code r lo (stmt_slots p r (While t body)) → (u : ℕ)
      → q - 1 ≤ suc u
      → TurnKnown (is_turned t) may at lo t body (below.test t) (below.stmts body) (q - 1)
      → HeldTurnsRun may (while_top at lo t body) (while_exit at lo t body) lo t (below.while t body) u
      → StatementRuns p tables code input below r line q may at lo (While t body)
  unfolding ev_stmts
  while_runs may at lo t body slots u owes known turns stands v now b =
      let top : ℕ = while_top at lo t body in
      let exit : ℕ = while_exit at lo t body in
      let w = ending p code input may lo r now in
      let turn : Events NoYield = on_first (below.test t v) (λ x _. bind (below.stmts body x) (λ y _. below.while t body y)) (λ _. one v tt)
      in
      as_runs p code input line at exit now w (node (Visit turn)) q
      (node_runs p code input line 2 at exit now w (Visit turn) q (omega arith)
      (λ held s is.
      let e = entered (is_turned t) at lo t body slots stands v now b held s is in
      let visited = while_turn_runs may at lo t body (below.test t) (below.stmts body) (below.while t body) (q - 1) u slots.behind owes
      known turns stands v e.later (begins p code input lo r now v e.later e.left) e.stays in
      before code input line 0 24 (Leaves exit w) held turn s e.to e.count 34 24 q (q - 1) e.silently (omega (arith, e.few))
      (omega (arith, e.some))
      (from_ending p code input may line 24 top exit lo lo r v now e.later turn (q - 1) (omega arith) slots.behind e.left visited held e.to
      e.is)))

  -- ---- REPEAT

  abbrev pub repeat_exit : (at lo : ℕ) → Stmts → Test → ℕ
  repeat_exit at lo body t = at + length (stmt_code p tables r line at lo (Repeat body t))

  pub repeat_turn_runs : (may : Bool) (at lo : ℕ) (body : Stmts) (t : Test) (does cond again : Store → Events NoYield) (u : ℕ)
      → own_end p r ≤ lo → q ≤ suc u → GivenRuns may at lo body does q
      → ((next : ℕ) → Decided p tables code input below r line q next (behind_stmts p r lo body) at t cond q)
      → TurnsRun may at (repeat_exit at lo body t) lo again u → Stands code at (stmt_code p tables r line at lo (Repeat body t))
      → (v : Store) (now : List PlainFrame) → Begins p code input r v now
      → Visited code input line at (repeat_exit at lo body t) now (ending p code input may lo r now)
      (bind (does v) (λ x _. on_first (cond x) (λ y _. one y tt) (λ _. again x))) q
  repeat_turn_runs may at lo body t does cond again u behind owes runs decides turns stands v now b =
      let inner : List LineInstr = stmts_code p tables r at lo body in
      let m : ℕ = at + length inner in
      let lo2 : ℕ = behind_stmts p r lo body in
      let last : List LineInstr = condition_code p tables code input below r line q m lo2 at t in
      let whole : length (inner ++ last) ≡ length inner + length last = length-append inner last in
      let exit : ℕ = behind_test_at p tables code input below r line q m lo2 t in
      let end : exit ≡ repeat_exit at lo body t = omega (arith, whole, condition_long p tables code input below r line q m lo2 at t) in
      let w = ending p code input may lo r now in
      subst (λ n. Visited code input line at n now w (bind (does v) (λ x _. on_first (cond x) (λ y _. one y tt) (λ _. again x))) q) end
      (repeat_row code input line at m exit now w v does cond again w (λ x z t2. Left p code input lo r now z t2)
      (λ x t2. Left p code input lo r now x t2) q u owes
      (runs (stands_front code at inner last stands) v now b)
      (λ x t2 left B left2 more2 fits2 found none b2 c le held s is on_found on_none.
      decides m x t2 (begins p code input lo r now x t2 left) (stands_back code at inner last stands) B left2 more2 fits2 found none b2 c le
      held s is
      (λ z t3 there left3. on_found z t3 there (left_on p code input lo lo2 r now x z t2 t3.now (omega arith) left left3))
      (λ t3 there left3. on_none t3 there (left_on p code input lo lo2 r now x x t2 t3.now (omega arith) left left3)))
      (λ x z t2 left. left)
      (λ x t2 left.
      subst (λ n. Later code input line at n t2 w (again x) u) (sym end)
      (on_later p code input may line at (repeat_exit at lo body t) lo lo r x now t2 (again x) u (omega arith) behind left
      (turns x t2 (begins p code input lo r now x t2 left))))
      (λ x n a t2 h. h))

  pub repeat_runs : (may : Bool) (at lo : ℕ) (body : Stmts) (t : Test) → own_end p r ≤ lo → (u : ℕ) → q ≤ suc u
      → ListRuns p tables code input below r line q may at lo body
      → ((next : ℕ) → Decided p tables code input below r line q next (behind_stmts p r lo body) at t (ev_test p input below t) q)
      → TurnsRun may at (repeat_exit at lo body t) lo (below.repeat body t) u
      → StatementRuns p tables code input below r line q may at lo (Repeat body t)
  unfolding ev_stmts
  repeat_runs may at lo body t behind u owes runs decides turns stands v now b =
      let exit : ℕ = repeat_exit at lo body t in
      let w = ending p code input may lo r now in
      let turn : Events NoYield = bind (ev_stmts p input below body v)
      (λ x _. on_first (ev_test p input below t x) (λ y _. one y tt) (λ _. below.repeat body t x)) in
      as_runs p code input line at exit now w (node (Visit turn)) q
      (node_runs p code input line 8 at exit now w (Visit turn) q (omega arith)
      (visited_behind code input line at exit now w turn q
      (repeat_turn_runs may at lo body t (ev_stmts p input below body) (ev_test p input below t) (below.repeat body t) u behind owes runs
      decides turns stands v now b)))
