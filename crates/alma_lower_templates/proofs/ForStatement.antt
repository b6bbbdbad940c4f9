-- FOR, from template to run: the first turn behind the bounds, and each turn behind one.
use Rattle.std.proofs.Common.{◌≡◌, ◌≢◌, ℕ, suc, ◌+◌, ◌-◌, ◌≤◌, Bool, List, [], ◌∷◌, ◌++◌, length, None, refl, sym}
use Rattle.std.proofs.Common.{◌∙◌, subst, arith, ℤ}
use Rattle.std.proofs.lemmas.List.{length-append}
use Rattle.alma_base.specs.declared.number.Range.{Range}
use Rattle.alma_code.specs.declared.cell.SlotKind.{SlotKind}
use Rattle.alma_code.specs.declared.cell.SlotKind.TheVariants as slot
use Rattle.alma_code.specs.declared.instr.Instr.TheVariants as I
use Rattle.alma_code.specs.Plain.{PlainCode}
use Rattle.alma_ir.specs.Tree.{Program, Desig, Expr, Stmts, ForTo, a_loop}
use Rattle.alma_ir.specs.Checked.{desig_cells}
use Rattle.alma_mean.specs.Store.{Store, top_cell}
use Rattle.alma_mean.specs.Events.{Events, NoYield, one, bind, node}
use Rattle.alma_mean.specs.Rows.{begin_loop, read_cell, set_variable, next_turn}
use Rattle.alma_mean.specs.Meaning.{Level, ev_stmts, ev_expr, ev_desig, turn_for}
use Rattle.alma_lower_implements.proofs.Goes.{before, weaker, one_goes}
use Rattle.alma_lower_implements.proofs.Frames.{shift, HasSlots}
use Rattle.alma_lower_implements.proofs.ExprRows.{AreVariables, first_kind, slots_first, slots_behind}
use Rattle.alma_lower_implements.proofs.Steps.{InstrAt, zero_jumps, other_goes_on}
use Rattle.alma_lower_implements.proofs.Ways.{Leaves, Later, visited_later}
use Rattle.alma_lower_templates.specs.LineInstr.{LineInstr, own}
use Rattle.alma_lower_templates.specs.Tables.{Tables}
use Rattle.alma_lower_templates.specs.Pieces.{bounds_code, turn_code}
use Rattle.alma_lower_templates.specs.Slots.{bare_desig, unless_bare, expr_slots, desig_slots, stmts_slots, for_slots, behind_expr}
use Rattle.alma_lower_templates.specs.Slots.{behind_variable, constant}
use Rattle.alma_lower_templates.proofs.Stands.{stands_front, stands_back}
use Rattle.alma_lower_templates.proofs.ExprForms.{first_slot, some_slots}
use Rattle.alma_lower_templates.proofs.FormRuns.{held_code, HeldRuns, ExprRuns, StatementRuns, FitsRange}
use Rattle.alma_lower_templates.proofs.AtOnce.{BareFits}
use Rattle.alma_lower_templates.specs.Stands.{Stands}
use Rattle.alma_lower_templates.specs.Templates.{set_code, stmt_code, stmts_code, count_at, count_code}
use Rattle.alma_lower_templates.proofs.Parts.{RunsFor, Left, left_self, ending, from_more, as_runs, node_runs}
use Rattle.alma_lower_templates.proofs.ForForms.{CountsOn, for_turn_of}
use Rattle.alma_lower_templates.proofs.Bounds.{loop_front, LimitRuns, front_from, bounds_from}
use Rattle.alma_lower_templates.proofs.First.{ConstantFits}

module _ (p : Program) (tables : Tables) (code : PlainCode) (input : List ℕ) (below : Level) (r line q : ℕ) (may : Bool) where
  -- ---- the whole

  abbrev pub for_turn_code : (at place : ℕ) → Desig → Range → (counter : ℕ) → Stmts → List LineInstr
  for_turn_code at place d range counter body =
      turn_code line at (count_code p tables r (bare_desig d) range (shift p r + counter) place)
      (λ next. unless_bare (bare_desig d) (held_code p tables r line next (place + 1) d))
      (set_code p tables r (place + 1) (count_at p tables r (bare_desig d) (shift p r + counter) place) d)
      (λ next. stmts_code p tables r next (behind_variable p r place d) body)

  -- where the turns begin
  abbrev pub for_top : (at lo limit : ℕ) (from to : Expr) (by : ℤ) → ℕ
  for_top at lo limit from to by = at + length (loop_front p tables code input below r line q may at lo limit from to by) + 1 + 1 + 1

  pub for_runs : (at lo u : ℕ) (d : Desig) (range : Range) (counter limit : ℕ) (from to : Expr) (by : ℤ) (body : Stmts) → desig_cells d ≡ 1
      → q ≤ u → counter ≢ limit
      → HasSlots p code r lo (for_slots p r (a_loop d range counter limit from to by body)) → AreVariables p code input r counter 1
      → AreVariables p code input r limit 1
      → ConstantFits p tables code input below r line q from → ExprRuns p tables code input below r line q (at + 1) (lo + 1) from
      → ((next : ℕ) → LimitRuns p tables code input below r line q may next (behind_expr p r (lo + 1) from) limit to)
      → CountsOn p tables code input below r line q may (for_top at lo limit from to by)
      (at + length (stmt_code p tables r line at lo (ForTo (a_loop d range counter limit from to by body)))) lo
      counter by (turn_for p input below (a_loop d range counter limit from to by body)) u
      → StatementRuns p tables code input below r line q may at lo (ForTo (a_loop d range counter limit from to by body))
  unfolding ev_stmts
  for_runs at lo u d range counter limit from to by body cells owes two slots of_counter of_limit fits runs_from_ runs_to turns stands v now
      b =
      let last : ℕ = behind_expr p r (lo + 1) from in
      let place : ℕ = behind_expr p r last to in
      let others : List SlotKind = unless_bare (bare_desig d) (slot.Number ∷ desig_slots p r d) ++ stmts_slots p r body in
      let from_slots = slots_first p code input r (lo + 1) (expr_slots p r from) (expr_slots p r to ++ others)
      (slots_behind p code input r lo (slot.Number ∷ []) (expr_slots p r from ++ (expr_slots p r to ++ others)) slots) in
      let kind1 = first_slot p code input r (lo + 1) from from_slots in
      let front : List LineInstr = loop_front p tables code input below r line q may at lo limit from to by in
      let next : ℕ = at + length front in
      let turn : List LineInstr = for_turn_code (next + 3) place d range counter body in
      let empty : ℕ = next + 3 + length turn + 2 in
      let step_part : List LineInstr = own line (I.Step (shift p r + counter) (shift p r + limit) lo empty ∷ I.Jump (next + 3) ∷ []) in
      let bounds : List LineInstr = own line (bounds_code by (constant from) (shift p r + counter) (shift p r + limit) (lo + 1) empty) in
      let tail : List LineInstr = bounds ++ (turn ++ step_part) in
      let turn_long : length (turn ++ step_part) ≡ length turn + 2 = length-append turn step_part in
      let whole : length (front ++ tail) ≡ length front + suc (suc (suc (length (turn ++ step_part)))) = length-append front tail in
      let exit : ℕ = at + length (front ++ tail) in
      let end : empty ≡ exit = omega (arith, turn_long, whole) in
      let back = stands_back code at front tail stands in
      let jump : InstrAt code input line (next + 1 + 1) (I.JumpZero (lo + 1) empty) =
      record { instr = back.2.2.0; on_line = back.2.2.1 } in
      let turn_events = turn_for p input below (a_loop d range counter limit from to by body) in
      let rest = λ (t : Store) (n l : ℤ). begin_loop counter limit by n l t turn_events (λ y. one y tt) in
      let w = ending p code input may lo r now in
      as_runs p code input line at exit now w (node
      (bind (ev_expr p input below from v) (λ t n. bind (ev_expr p input below to t) (λ x l. rest x n l)))) q
      (node_runs p code input line 1 at exit now w
      (bind (ev_expr p input below from v) (λ t n. bind (ev_expr p input below to t) (λ x l. rest x n l))) q (omega arith)
      (front_from p tables code input below r line q may at exit lo limit from to by others rest v now slots of_limit fits runs_from_
      runs_to (stands_front code at front tail stands) b
      (λ v2 t2 n l b2 first step.
      bounds_from p tables code input below r line q may (constant from) next exit lo counter limit by turn_events (λ y. one y tt) v2 t2 n l
      slots.behind of_counter of_limit two kind1 (record { instr = back.0; on_line = back.1 })
      (record { instr = back.2.0; on_line = back.2.1 }) b2 first step
      (λ x t b3 z there zero held s is.
      let m = zero_jumps code input line (next + 1 + 1) t held s is (lo + 1) empty z jump there zero in
      let w3 = ending p code input may (lo + 1) r t in
      before code input line 0 24 (Leaves exit w3) held (one x tt) s m.to 1 5 4 q q m.silently (omega arith) (omega arith)
      (one_goes code input line 0 24 (Leaves exit w3) held x tt m.to 4 q (omega arith)
      (record { mode = m.is.mode; entries = m.is.entries })
      (m.is.here ∙ end, subst (Left p code input (lo + 1) r t x) (sym m.is.frames) (left_self p code input (lo + 1) r x t b3))))
      (λ x t b3 known known_limit step3 z there other held s is.
      let m = other_goes_on code input line (next + 1 + 1) t held s is (lo + 1) empty z jump there other in
      weaker code input line 0 24 (Leaves exit (ending p code input may (lo + 1) r t)) held (turn_events x) s 5 0 q q (omega arith)
      (omega arith)
      (turns x t n b3 known step3 1 q (omega arith) (omega (arith, owes)) held s m.to m.silently m.is)))))

  -- a turn from where the turns begin, given the next
  pub for_counts : (at lo u : ℕ) (d : Desig) (range : Range) (counter limit : ℕ) (from to : Expr) (by : ℤ) (body : Stmts)
      → BareFits p tables code input below r line q (bare_desig d) → desig_cells d ≡ 1 → q ≤ suc u
      → FitsRange p tables code input below r line q range
      → HasSlots p code r lo (for_slots p r (a_loop d range counter limit from to by body)) → AreVariables p code input r counter 1
      → AreVariables p code input r limit 1
      → (bare_desig d ≡ None → (next : ℕ) → HeldRuns p tables code input below r line q next
      (behind_expr p r (behind_expr p r (lo + 1) from) to + 1) d)
      → ((next : ℕ) → RunsFor p code input may r line next (behind_variable p r (behind_expr p r (behind_expr p r (lo + 1) from) to) d)
      (stmts_code p tables r next (behind_variable p r (behind_expr p r (behind_expr p r (lo + 1) from) to) d) body) (below.stmts body)
      (q - 1))
      → CountsOn p tables code input below r line q may (for_top at lo limit from to by)
      (at + length (stmt_code p tables r line at lo (ForTo (a_loop d range counter limit from to by body)))) lo
      counter by (below.for (a_loop d range counter limit from to by body)) u
      → Stands code at (stmt_code p tables r line at lo (ForTo (a_loop d range counter limit from to by body)))
      → CountsOn p tables code input below r line q may (for_top at lo limit from to by)
      (at + length (stmt_code p tables r line at lo (ForTo (a_loop d range counter limit from to by body)))) lo
      counter by (turn_for p input below (a_loop d range counter limit from to by body)) q
  for_counts at lo u d range counter limit from to by body fits cells owes has slots of_counter of_limit runs_d runs turns stands v now n b
      known step =
      let last : ℕ = behind_expr p r (lo + 1) from in
      let place : ℕ = behind_expr p r last to in
      let others : List SlotKind = unless_bare (bare_desig d) (slot.Number ∷ desig_slots p r d) ++ stmts_slots p r body in
      let bound_slots = slots_behind p code input r lo (slot.Number ∷ []) (expr_slots p r from ++ (expr_slots p r to ++ others)) slots in
      let to_slots = slots_behind p code input r (lo + 1) (expr_slots p r from) (expr_slots p r to ++ others) bound_slots in
      let turn_slots = slots_behind p code input r last (expr_slots p r to) others to_slots in
      let front : List LineInstr = loop_front p tables code input below r line q may at lo limit from to by in
      let next : ℕ = at + length front in
      let turn : List LineInstr = for_turn_code (next + 3) place d range counter body in
      let empty : ℕ = next + 3 + length turn + 2 in
      let step_part : List LineInstr = own line (I.Step (shift p r + counter) (shift p r + limit) lo empty ∷ I.Jump (next + 3) ∷ []) in
      let bounds : List LineInstr = own line (bounds_code by (constant from) (shift p r + counter) (shift p r + limit) (lo + 1) empty) in
      let tail : List LineInstr = bounds ++ (turn ++ step_part) in
      let turn_long : length (turn ++ step_part) ≡ length turn + 2 = length-append turn step_part in
      let whole : length (front ++ tail) ≡ length front + suc (suc (suc (length (turn ++ step_part)))) = length-append front tail in
      let exit : ℕ = at + length (front ++ tail) in
      let end : empty ≡ exit = omega (arith, turn_long, whole) in
      let back = stands_back code at front tail stands in
      let three : next + 1 + 1 + 1 ≡ next + 3 = omega arith in
      let top : Stands code (next + 3) (turn ++ own line
      (I.Step (shift p r + counter) (shift p r + limit) lo exit ∷ I.Jump (next + 3) ∷ [])) =
      subst (λ m. Stands code (next + 3) (turn
      ++ own line (I.Step (shift p r + counter) (shift p r + limit) lo m ∷ I.Jump (next + 3) ∷ []))) end
      (subst (λ m. Stands code m (turn ++ step_part)) three back.2.2.2) in
      let w = ending p code input may (lo + 1) r now in
      let e : Events NoYield = turn_for_events v in
      subst (λ m. Later code input line m exit now w (turn_for p input below (a_loop d range counter limit from to by body) v) q)
      (sym three) (visited_later code input line (next + 3) exit now w e q
      (λ held s is.
      from_more p code input line 9 24 (next + 3) exit now w e q (omega arith)
      (for_turn_of p tables code input below r line q may (bare_desig d) (next + 3) exit lo place counter limit u by d range body
      (below.stmts body) (below.for (a_loop d range counter limit from to by body)) refl fits cells slots.behind
      (omega (arith, some_slots p code input r from)) owes has of_counter of_limit
      (λ none. first_kind p code input r place slot.Number (desig_slots p r d)
      (subst (λ o. HasSlots p code r place (unless_bare o (slot.Number ∷ desig_slots p r d))) none
      (slots_first p code input r place (unless_bare (bare_desig d) (slot.Number ∷ desig_slots p r d)) (stmts_slots p r body)
      turn_slots)))
      runs_d runs (subst (λ m. CountsOn p tables code input below r line q may m exit lo
      counter by (below.for (a_loop d range counter limit from to by body)) u) three turns) top v now n b known step)
      held s is))
    where
      turn_for_events : Store → Events NoYield
      turn_for_events t = read_cell (top_cell t counter)
          (λ x. set_variable (ev_desig p input below d) range t x
          (λ y. bind (below.stmts body y) (λ z _. next_turn counter limit by (below.for (a_loop d range counter limit from to by body)) z
          (one z tt))))
