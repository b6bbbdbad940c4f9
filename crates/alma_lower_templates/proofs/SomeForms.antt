-- SOME, from template to run: the step and both bounds, and the turns, each with a choice entry but the last.
use Rattle.std.proofs.Common.{◌≡◌, ◌≢◌, ℕ, suc, ◌+◌, ◌-◌, ◌<◌, ◌≤◌, Bool, true, not, List, [], ◌∷◌, ◌++◌, length, Some, None, Option, refl}
use Rattle.std.proofs.Common.{sym, ap, ◌∙◌, subst, arith, ℤ, pos, ◌+ℤ◌}
use Rattle.std.specs.Prelude.{slice_get, int_lt}
use Rattle.std.proofs.lemmas.List.{length-append}
use Rattle.alma_base.specs.declared.number.Range.{Range}
use Rattle.alma_base.specs.Numbers.{is_integer}
use Rattle.alma_code.specs.declared.cell.Cell.TheVariants as cell
use Rattle.alma_code.specs.declared.cell.SlotKind.{SlotKind}
use Rattle.alma_code.specs.declared.cell.SlotKind.TheVariants as slot
use Rattle.alma_code.specs.declared.instr.Instr.{Instr}
use Rattle.alma_code.specs.declared.instr.Instr.TheVariants as I
use Rattle.alma_code.specs.Picture.{PlainFrame}
use Rattle.alma_code.specs.Plain.{PlainCode, kinds_at}
use Rattle.alma_ir.specs.Tree.{Program, Desig, Expr, Stmts, Loop, SomeOf, a_loop}
use Rattle.alma_ir.specs.Checked.{desig_cells}
use Rattle.alma_mean.specs.Store.{Store, Number, put_top, top, top_cell}
use Rattle.alma_mean.specs.Events.{Events, NoYield, Fail, join, bind, node}
use Rattle.alma_mean.specs.Rows.{begin_loop, read_cell, set_variable, next_turn, some_turn}
use Rattle.alma_mean.specs.Meaning.{Level, ev_stmts, ev_expr, ev_desig, turn_some}
use Rattle.alma_lower_implements.proofs.Goes.{credited, weaker, and_then}
use Rattle.alma_lower_implements.proofs.ChoiceSteps.{jumps}
use Rattle.alma_lower_implements.proofs.Frames.{shift, own_end, HasSlots, Fits}
use Rattle.alma_lower_implements.proofs.ExprRows.{AreVariables, first_kind, slots_first, slots_behind}
use Rattle.alma_lower_implements.proofs.ForSteps.{slot_within, slot_has_kind, number_there, fits_top, count_integer, top_put, top_put_other}
use Rattle.alma_lower_implements.proofs.SomeRow.{HoldsTurn, some_row, beyond_by_one}
use Rattle.alma_lower_implements.proofs.Steps.{top_written, Holds, InstrAt, check_fails, check_passes}
use Rattle.alma_lower_implements.proofs.FrameLemmas.{put_routine}
use Rattle.alma_lower_implements.proofs.Ways.{Ways, Leaves, Runs, Later, visited_later}
use Rattle.alma_lower_templates.specs.LineInstr.{LineInstr}
use Rattle.alma_lower_templates.specs.Tables.{Tables}
use Rattle.alma_lower_templates.specs.Pieces.{count_from, turn_code, some_turns}
use Rattle.alma_lower_templates.specs.Slots.{bare_desig, unless_bare, expr_slots, desig_slots, stmts_slots, some_slots, behind_expr}
use Rattle.alma_lower_templates.specs.Slots.{behind_variable, constant}
use Rattle.alma_lower_templates.specs.Stands.{Stands}
use Rattle.alma_lower_templates.specs.Templates.{set_by, stmt_code, stmts_code, count_at, count_code}
use Rattle.alma_lower_templates.proofs.Stands.{stands_front, stands_back}
use Rattle.alma_lower_templates.proofs.AtOnce.{BareFits}
use Rattle.alma_lower_templates.proofs.ExprForms.{first_slot}
use Rattle.alma_lower_templates.proofs.ExprForms.{some_slots as some_of}
use Rattle.alma_lower_templates.proofs.FormRuns.{held_code, HeldRuns, ExprRuns, StatementRuns, FitsRange}
use Rattle.alma_lower_templates.proofs.ForForms.{variable_from}
use Rattle.alma_lower_templates.proofs.Bounds.{loop_front, LimitRuns, front_from, bounds_from}
use Rattle.alma_lower_templates.proofs.First.{ConstantFits}
use Rattle.alma_lower_templates.proofs.Parts.{RunsFor, Begins, begins, Left, left_self, left_on, left_temp, put_position, sound_after}
use Rattle.alma_lower_templates.proofs.Parts.{has_kind, holds_temp, holds_after, From, ending, from_more, from_ending, on_later, fails_here}
use Rattle.alma_lower_templates.proofs.Parts.{as_runs, node_runs}
use Rattle.alma_lower_templates.proofs.Targets.{put_places, top_free}

module _ (p : Program) (tables : Tables) (code : PlainCode) (input : List ℕ) (below : Level) (r line q : ℕ) (may : Bool) where
  -- ---- a turn

  -- turns, from frames with the count and the limit in the store and the step in the slot before `lo`
  abbrev pub TurnsOn : (top exit lo counter limit : ℕ) → (Store → Events NoYield) → (u : ℕ) → Type 0
  TurnsOn top exit lo counter limit again u =
      (v : Store) (now : List PlainFrame) (n l : ℤ) → Begins p code input r v now → top_cell v counter ≡ Number n
      → top_cell v limit ≡ Number l → Holds now lo (cell.Int (pos 1))
      → Later code input line top exit now (ending p code input may (lo + 1) r now) (again v) u

  -- statements that end where the turn does
  body_ends : (at m exit lo la : ℕ) (v : Store) (now : List PlainFrame) (e : Events NoYield) (d : ℕ) → m ≡ exit → lo ≤ la → own_end p r ≤ lo
      → Begins p code input r v now → Runs code input line at m now (ending p code input may la r now) e d
      → From p code input line 7 at exit now (ending p code input may lo r now) e d
  body_ends at m exit lo la v now e d ends le behind b runs =
      subst (λ a. From p code input line 7 at a now (ending p code input may lo r now) e d) ends
      (from_ending p code input may line 7 at m lo la r v now now e d le behind (left_self p code input lo r v now b)
      (λ held s is. credited code input line 7 0 0 24 (Leaves m (ending p code input may la r now)) held e s 7 d (omega arith)
      (runs 7 (omega arith) held s is)))

  -- the slots of a turn
  turn_holds : (lo more counter limit : ℕ) (v : Store) (now : List PlainFrame) (n l : ℤ) → own_end p r ≤ lo → lo < more
      → AreVariables p code input r counter 1 → AreVariables p code input r limit 1 → slice_get (kinds_at code r) more ≡ Some slot.Number
      → Begins p code input r v now
      → top_cell v counter ≡ Number n → top_cell v limit ≡ Number l → Holds now lo (cell.Int (pos 1))
      → HoldsTurn code input (shift p r + counter) (shift p r + limit) lo more n l now
  turn_holds lo more counter limit v now n l behind above of_counter of_limit kind b known known_limit step = record {
    count = (number_there p code input r counter of_counter v now b.stand b.routine n known).0;
    last = (number_there p code input r limit of_limit v now b.stand b.routine l known_limit).0;
    kind = has_kind p code input r more v now slot.Number kind b;
    test = λ x. holds_temp p code input r more v now (cell.Int x) slot.Number kind b;
    count' = λ x. (number_there p code input r counter of_counter v (later x) (begun x).stand (begun x).routine n known).0;
    by_one = λ x. holds_after p code input (lo + 1) r lo (cell.Int (pos 1)) v v now (later x) b behind (omega arith) (left x) step;
    kind' = λ x. slot_has_kind p code input r counter of_counter v (later x) (begun x).stand (begun x).routine;
  }
    where
      later : ℤ → List PlainFrame
      later x = top_written now more (cell.Int x)

      left : (x : ℤ) → Left p code input (lo + 1) r now v (later x)
      left x = left_temp p code input (lo + 1) r more v now (cell.Int x) (omega (arith, above)) (omega (arith, behind, above)) b

      begun : (x : ℤ) → Begins p code input r v (later x)
      begun x = begins p code input (lo + 1) r now v (later x) (left x)

  -- the code of a turn, which begins at `at`; the slots of its variable begin at `place`
  abbrev turn_made : Option ℕ → (at place : ℕ) → Desig → Range → (counter : ℕ) → Stmts → List LineInstr
  turn_made o at place d range counter body =
      turn_code line at (count_code p tables r o range (shift p r + counter) place)
      (λ next. unless_bare o (held_code p tables r line next (place + 1) d))
      (set_by p tables r o (place + 1) (count_at p tables r o (shift p r + counter) place) d)
      (λ next. stmts_code p tables r next (place + length (unless_bare o (slot.Number ∷ desig_slots p r d))) body)

  -- from the test whether it is the last
  some_turn_of : (o : Option ℕ) (start exit lo more place counter limit u retry : ℕ) (d : Desig) (range : Range) (body : Stmts)
      (does again : Store → Events NoYield) → bare_desig d ≡ o → BareFits p tables code input below r line q o → desig_cells d ≡ 1
      → own_end p r ≤ lo → lo < more → more < place → q ≤ suc u → counter ≢ limit → FitsRange p tables code input below r line q range
      → AreVariables p code input r counter 1 → AreVariables p code input r limit 1
      → slice_get (kinds_at code r) more ≡ Some slot.Number
      → (o ≡ None → slice_get (kinds_at code r) place ≡ Some slot.Number)
      → (o ≡ None → (next : ℕ) → HeldRuns p tables code input below r line q next (place + 1) d)
      → ((next : ℕ) → RunsFor p code input may r line next (place + length (unless_bare o (slot.Number ∷ desig_slots p r d)))
      (stmts_code p tables r next (place + length (unless_bare o (slot.Number ∷ desig_slots p r d))) body) does (q - 1))
      → TurnsOn start exit lo counter limit again u
      → InstrAt code input line start (I.Less more (shift p r + counter) (shift p r + limit))
      → InstrAt code input line (start + 1) (I.JumpZero more (start + 3)) → InstrAt code input line (start + 2) (I.Choose retry)
      → Stands code (start + 3) (turn_made o (start + 3) place d range counter body)
      → start + 3 + length (turn_made o (start + 3) place d range counter body) ≡ exit
      → InstrAt code input line retry (I.Add (shift p r + counter) (shift p r + counter) lo)
      → retry + 1 ≡ start
      → (v : Store) (now : List PlainFrame) (n l : ℤ) → Begins p code input r v now → top_cell v counter ≡ Number n
      → top_cell v limit ≡ Number l → Holds now lo (cell.Int (pos 1))
      → Later code input line start exit now (ending p code input may (lo + 1) r now)
      (some_turn (ev_desig p input below d) range counter limit does again v) q
  some_turn_of o start exit lo more place counter limit u retry d range body does again e fits cells behind above over owes two has
      of_counter of_limit kind kind_place runs_d runs turns less zero choose stands ends add back v now n l b known known_limit step =
      visited_later code input line start exit now w
      (read_cell (top_cell v counter) (λ x. join (set_variable (ev_desig p input below d) range v x does)
      (next_turn counter limit (pos 1) again v Fail))) q
      (some_row code input line start retry exit (shift p r + counter) (shift p r + limit) lo more n l v now w (ev_desig p input below d)
      range counter limit does again q u owes less zero choose add back
      (turn_holds lo more counter limit v now n l behind above of_counter of_limit kind b known known_limit step) next_fits known
      known_limit
      (λ x held s is.
      let t : List PlainFrame = top_written now more (cell.Int x) in
      let left : Left p code input (lo + 1) r now v t =
      left_temp p code input (lo + 1) r more v now (cell.Int x) (omega (arith, above)) (omega (arith, behind, above)) b in
      let b1 = begins p code input (lo + 1) r now v t left in
      let tried : Events NoYield = set_variable (ev_desig p input below d) range v n does in
      from_more p code input line 9 16 (start + 3) exit t w tried q (omega arith)
      (from_ending p code input may line 9 (start + 3) exit (lo + 1) (lo + 1) r v now t tried q (omega arith) (omega (arith, behind)) left
      (variable_from p tables code input below r line q may o (start + 3) exit (lo + 1) place counter d range v t n does made e fits cells
      (omega (arith, behind)) (omega (arith, above, over)) has of_counter kind_place runs_d stands b1 known
      (λ next here there y t2 left2.
      let b2 = begins p code input (lo + 1) r t y t2 left2 in
      body_ends next (next + length (made next)) exit (lo + 1) lb y t2 (does y) (q - 1) (here ∙ ends) (omega (arith, above, over))
      (omega (arith, behind)) b2 (runs next there y t2 b2))))
      held s is)
      (λ lt.
      let y : ℤ = n +ℤ pos 1 in
      let integer : is_integer y ≡ true = next_fits lt in
      let t1 : List PlainFrame = top_written now more (cell.Int (pos 1)) in
      let left1 : Left p code input (lo + 1) r now v t1 =
      left_temp p code input (lo + 1) r more v now (cell.Int (pos 1)) (omega (arith, above)) (omega (arith, behind, above)) b in
      let b1 = begins p code input (lo + 1) r now v t1 left1 in
      let v2 : Store = put_top v counter (Number y) in
      let t2 : List PlainFrame = top_written t1 (shift p r + counter) (cell.Int y) in
      let live : top v < length v = omega (arith, b.stand.some) in
      let there = slot_within p code input r counter of_counter v t1 b1.stand b1.routine in
      let fit : Fits p code (lo + 1) t1 v2 t2 = fits_top p code input r counter of_counter v t1 b1.stand b1.routine (lo + 1) y integer in
      let left2 : Left p code input (lo + 1) r t1 v2 t2 =
      record {
        fits = fit;
        routine = put_routine v (top v) counter (Number y) live ∙ b.routine;
        sound =
            sound_after p code input (lo + 1) v v2 t1 t2 b1.stand fit (put_places p code input v (top v) counter y live there)
            (put_position p code input v (top v) counter (Number y) (top_free p code input counter r v t1 of_counter b1)) b1.sound;
      } in
      let whole : Left p code input (lo + 1) r now v2 t2 =
      left_on p code input (lo + 1) (lo + 1) r now v v2 t1 t2 (omega arith) left1 left2 in
      on_later p code input may line start exit (lo + 1) (lo + 1) r v2 now t2 (again v2) u (omega arith) (omega (arith, behind)) whole
      (turns v2 t2 y l (begins p code input (lo + 1) r t1 v2 t2 left2) (top_put v counter (Number y) b.stand.some there)
      (top_put_other v counter limit (Number y) b.stand.some there (λ same. two (sym same)) ∙ known_limit)
      (holds_after p code input (lo + 1) r lo (cell.Int (pos 1)) v v2 now t2 b behind (omega arith) whole step))))
    where
      w : Ways NoYield
      w = ending p code input may (lo + 1) r now

      lb : ℕ
      lb = place + length (unless_bare o (slot.Number ∷ desig_slots p r d))

      made : ℕ → List LineInstr
      made next = stmts_code p tables r next lb body

      next_fits : int_lt n l ≡ true → is_integer (n +ℤ pos 1) ≡ true
      next_fits lt =
          count_integer (pos 1) n l (number_there p code input r counter of_counter v now b.stand b.routine n known).1
          (number_there p code input r limit of_limit v now b.stand b.routine l known_limit).1
          (beyond_by_one n l ∙ ap not lt)

  -- ---- the whole

  -- the parts of a loop that stands behind its limit from `next` on
  record PartsStand (o : Option ℤ) (next exit lo more counter limit : ℕ) (d : Desig) (range : Range) (body : Stmts) : Type 0 where
    first : InstrAt code input line next (count_from o (shift p r + counter) (lo + 1))
    entry : InstrAt code input line (next + 1) (I.LessEq (lo + 1) (shift p r + counter) (shift p r + limit))
    check : InstrAt code input line (next + 1 + 1) (I.Check (lo + 1))
    over : InstrAt code input line (next + 1 + 1 + 1) (I.Jump (next + 5))
    add : InstrAt code input line (next + 4) (I.Add (shift p r + counter) (shift p r + counter) lo)
    less : InstrAt code input line (next + 5) (I.Less more (shift p r + counter) (shift p r + limit))
    zero : InstrAt code input line (next + 5 + 1) (I.JumpZero more (next + 5 + 3))
    choose : InstrAt code input line (next + 5 + 2) (I.Choose (next + 4))
    turn : Stands code (next + 5 + 3) (turn_made (bare_desig d) (next + 5 + 3) (more + 1) d range counter body)
    ends : next + 5 + 3 + length (turn_made (bare_desig d) (next + 5 + 3) (more + 1) d range counter body) ≡ exit

  moved : (a b : ℕ) (i : Instr) → a ≡ b → InstrAt code input line a i → InstrAt code input line b i
  moved a b i e h = subst (λ n. InstrAt code input line n i) e h

  parts_stand : (o : Option ℤ) (next exit lo more counter limit : ℕ) (d : Desig) (range : Range) (body : Stmts)
      → exit ≡ next + length (some_turns line next o (shift p r + counter) (shift p r + limit) lo (lo + 1) more
      (turn_made (bare_desig d) (next + 8) (more + 1) d range counter body))
      → Stands code next (some_turns line next o (shift p r + counter) (shift p r + limit) lo (lo + 1) more
      (turn_made (bare_desig d) (next + 8) (more + 1) d range counter body))
      → PartsStand o next exit lo more counter limit d range body
  parts_stand o next exit lo more counter limit d range body ends all =
      let made = λ (at : ℕ). turn_made (bare_desig d) at (more + 1) d range counter body in
      let eight : next + 1 + 1 + 1 + 1 + 1 + 1 + 1 + 1 ≡ next + 8 = omega arith in
      let turn_at : next + 8 ≡ next + 5 + 3 = omega arith in
      let head = all.2.2.2.2 in
      let inner : Stands code (next + 8) (made (next + 8)) = subst (λ m. Stands code m (made (next + 8))) eight head.2.2.2.2 in
      let long : next + 8 + length (made (next + 8)) ≡ exit = omega (arith, ends) in
      record {
        first = record { instr = all.0; on_line = all.1 };
        entry = record { instr = all.2.0; on_line = all.2.1 };
        check = record { instr = all.2.2.0; on_line = all.2.2.1 };
        over = record { instr = all.2.2.2.0; on_line = all.2.2.2.1 };
        add = moved (next + 1 + 1 + 1 + 1) (next + 4) (I.Add (shift p r + counter) (shift p r + counter) lo) (omega arith)
            (record { instr = head.0; on_line = head.1 });
        less = moved (next + 1 + 1 + 1 + 1 + 1) (next + 5) (I.Less more (shift p r + counter) (shift p r + limit)) (omega arith)
            (record { instr = head.2.0; on_line = head.2.1 });
        zero = subst (λ m. InstrAt code input line (next + 5 + 1) (I.JumpZero more m)) turn_at
            (moved (next + 1 + 1 + 1 + 1 + 1 + 1) (next + 5 + 1) (I.JumpZero more (next + 8)) (omega arith)
            (record { instr = head.2.2.0; on_line = head.2.2.1 }));
        choose = moved (next + 1 + 1 + 1 + 1 + 1 + 1 + 1) (next + 5 + 2) (I.Choose (next + 4)) (omega arith)
            (record { instr = head.2.2.2.0; on_line = head.2.2.2.1 });
        turn = subst (λ m. Stands code m (made m)) turn_at inner;
        ends = subst (λ m. m + length (made m) ≡ exit) turn_at long;
      }

  -- where the turns begin
  abbrev pub some_top : (at lo limit : ℕ) (from to : Expr) → ℕ
  some_top at lo limit from to = at + length (loop_front p tables code input below r line q may at lo limit from to (pos 1)) + 5

  abbrev pub some_exit : (at lo : ℕ) → Loop → ℕ
  some_exit at lo l = at + length (stmt_code p tables r line at lo (SomeOf l))

  loop_parts : (at lo : ℕ) (d : Desig) (range : Range) (counter limit : ℕ) (from to : Expr) (by : ℤ) (body : Stmts)
      → Stands code at (stmt_code p tables r line at lo (SomeOf (a_loop d range counter limit from to by body)))
      → PartsStand (constant from) (at + length (loop_front p tables code input below r line q may at lo limit from to (pos 1)))
      (some_exit at lo (a_loop d range counter limit from to by body)) lo (behind_expr p r (behind_expr p r (lo + 1) from) to)
      counter limit d range body
  loop_parts at lo d range counter limit from to by body stands =
      let more : ℕ = behind_expr p r (behind_expr p r (lo + 1) from) to in
      let front : List LineInstr = loop_front p tables code input below r line q may at lo limit from to (pos 1) in
      let next : ℕ = at + length front in
      let tail : List LineInstr = some_turns line next (constant from) (shift p r + counter) (shift p r + limit) lo (lo + 1) more
      (turn_made (bare_desig d) (next + 8) (more + 1) d range counter body) in
      let whole : length (front ++ tail) ≡ length front + length tail = length-append front tail in
      parts_stand (constant from) next (at + length (front ++ tail)) lo more counter limit d range body (omega (arith, whole))
      (stands_back code at front tail stands)

  front_stands : (at lo : ℕ) (d : Desig) (range : Range) (counter limit : ℕ) (from to : Expr) (by : ℤ) (body : Stmts)
      → Stands code at (stmt_code p tables r line at lo (SomeOf (a_loop d range counter limit from to by body)))
      → Stands code at (loop_front p tables code input below r line q may at lo limit from to (pos 1))
  front_stands at lo d range counter limit from to by body stands =
      let front : List LineInstr = loop_front p tables code input below r line q may at lo limit from to (pos 1) in
      let more : ℕ = behind_expr p r (behind_expr p r (lo + 1) from) to in
      let next : ℕ = at + length front in
      stands_front code at front (some_turns line next (constant from) (shift p r + counter) (shift p r + limit) lo (lo + 1) more
      (turn_made (bare_desig d) (next + 8) (more + 1) d range counter body)) stands

  pub some_runs : (at lo u : ℕ) (d : Desig) (range : Range) (counter limit : ℕ) (from to : Expr) (by : ℤ) (body : Stmts) → desig_cells d ≡ 1
      → q ≤ u → counter ≢ limit
      → HasSlots p code r lo (some_slots p r (a_loop d range counter limit from to by body)) → AreVariables p code input r counter 1
      → AreVariables p code input r limit 1
      → ConstantFits p tables code input below r line q from → ExprRuns p tables code input below r line q (at + 1) (lo + 1) from
      → ((next : ℕ) → LimitRuns p tables code input below r line q may next (behind_expr p r (lo + 1) from) limit to)
      → TurnsOn (some_top at lo limit from to) (some_exit at lo (a_loop d range counter limit from to by body)) lo counter limit
      (turn_some p input below (a_loop d range counter limit from to by body)) u
      → StatementRuns p tables code input below r line q may at lo (SomeOf (a_loop d range counter limit from to by body))
  unfolding ev_stmts
  some_runs at lo u d range counter limit from to by body cells owes two slots of_counter of_limit fits runs_from_ runs_to turns stands v
      now b =
      let l : Loop = a_loop d range counter limit from to by body in
      let last : ℕ = behind_expr p r (lo + 1) from in
      let others : List SlotKind = slot.Number ∷ (unless_bare (bare_desig d) (slot.Number ∷ desig_slots p r d) ++ stmts_slots p r body) in
      let from_slots = slots_first p code input r (lo + 1) (expr_slots p r from) (expr_slots p r to ++ others)
      (slots_behind p code input r lo (slot.Number ∷ []) (expr_slots p r from ++ (expr_slots p r to ++ others)) slots) in
      let kind1 = first_slot p code input r (lo + 1) from from_slots in
      let next : ℕ = at + length (loop_front p tables code input below r line q may at lo limit from to (pos 1)) in
      let exit : ℕ = some_exit at lo l in
      let h = loop_parts at lo d range counter limit from to by body stands in
      let turn_events = turn_some p input below l in
      let rest = λ (t : Store) (n m : ℤ). begin_loop counter limit (pos 1) n m t turn_events (λ y. Fail) in
      let w = ending p code input may lo r now in
      as_runs p code input line at exit now w (node
      (bind (ev_expr p input below from v) (λ t n. bind (ev_expr p input below to t) (λ x m. rest x n m)))) q
      (node_runs p code input line 1 at exit now w
      (bind (ev_expr p input below from v) (λ t n. bind (ev_expr p input below to t) (λ x m. rest x n m))) q (omega arith)
      (front_from p tables code input below r line q may at exit lo limit from to (pos 1) others rest v now slots of_limit fits runs_from_
      runs_to (front_stands at lo d range counter limit from to by body stands) b
      (λ v2 t2 n m b2 first step.
      bounds_from p tables code input below r line q may (constant from) next exit lo counter limit (pos 1) turn_events (λ y. Fail) v2 t2 n
      m slots.behind of_counter of_limit two kind1 h.first h.entry b2 first step
      (λ x t b3 z there zero. fails_here p code input line 4 (next + 1 + 1) exit t (ending p code input may (lo + 1) r t) q
      (λ held s is. let f = check_fails code input line (next + 1 + 1) t held s is (lo + 1) z h.check there zero in
      (f.to, f.silently, f.is)))
      (λ x t b3 known known_limit step3 z there other held s is.
      let g = check_passes code input line (next + 1 + 1) t held s is (lo + 1) z h.check there other in
      let j = jumps code input line (next + 1 + 1 + 1) (next + 5) t held g.to g.is h.over in
      weaker code input line 0 24 (Leaves exit (ending p code input may (lo + 1) r t)) held (turn_events x) s 5 0 q q (omega arith)
      (omega arith)
      (turns x t n m b3 known known_limit step3 2 q (omega arith) (omega (arith, owes)) held s j.to
      (and_then code input g.silently j.silently) j.is)))))

  -- a turn from where the turns begin, given the next
  pub some_counts : (at lo u : ℕ) (d : Desig) (range : Range) (counter limit : ℕ) (from to : Expr) (by : ℤ) (body : Stmts)
      → BareFits p tables code input below r line q (bare_desig d) → desig_cells d ≡ 1 → q ≤ suc u → counter ≢ limit
      → FitsRange p tables code input below r line q range
      → HasSlots p code r lo (some_slots p r (a_loop d range counter limit from to by body)) → AreVariables p code input r counter 1
      → AreVariables p code input r limit 1
      → (bare_desig d ≡ None → (next : ℕ) → HeldRuns p tables code input below r line q next
      (behind_expr p r (behind_expr p r (lo + 1) from) to + 1 + 1) d)
      → ((next : ℕ) → RunsFor p code input may r line next (behind_variable p r (behind_expr p r (behind_expr p r (lo + 1) from) to + 1) d)
      (stmts_code p tables r next (behind_variable p r (behind_expr p r (behind_expr p r (lo + 1) from) to + 1) d) body)
      (below.stmts body) (q - 1))
      → TurnsOn (some_top at lo limit from to) (some_exit at lo (a_loop d range counter limit from to by body)) lo counter limit
      (below.some (a_loop d range counter limit from to by body)) u
      → Stands code at (stmt_code p tables r line at lo (SomeOf (a_loop d range counter limit from to by body)))
      → TurnsOn (some_top at lo limit from to) (some_exit at lo (a_loop d range counter limit from to by body)) lo counter limit
      (turn_some p input below (a_loop d range counter limit from to by body)) q
  some_counts at lo u d range counter limit from to by body fits cells owes two has slots of_counter of_limit runs_d runs turns stands v now
      n m b known known_limit step =
      let l : Loop = a_loop d range counter limit from to by body in
      let last : ℕ = behind_expr p r (lo + 1) from in
      let more : ℕ = behind_expr p r last to in
      let variable : List SlotKind = unless_bare (bare_desig d) (slot.Number ∷ desig_slots p r d) in
      let others : List SlotKind = slot.Number ∷ (variable ++ stmts_slots p r body) in
      let bound_slots = slots_behind p code input r lo (slot.Number ∷ []) (expr_slots p r from ++ (expr_slots p r to ++ others)) slots in
      let to_slots = slots_behind p code input r (lo + 1) (expr_slots p r from) (expr_slots p r to ++ others) bound_slots in
      let more_slots = slots_behind p code input r last (expr_slots p r to) others to_slots in
      let turn_slots = slots_behind p code input r more (slot.Number ∷ []) (variable ++ stmts_slots p r body) more_slots in
      let next : ℕ = at + length (loop_front p tables code input below r line q may at lo limit from to (pos 1)) in
      let h = loop_parts at lo d range counter limit from to by body stands in
      some_turn_of (bare_desig d) (some_top at lo limit from to) (some_exit at lo l) lo more (more + 1) counter limit u (next + 4) d range
      body (below.stmts body) (below.some l) refl fits cells slots.behind (omega (arith, some_of p code input r from)) (omega arith) owes
      two has of_counter of_limit
      (first_kind p code input r more slot.Number (variable ++ stmts_slots p r body) more_slots)
      (λ none. first_kind p code input r (more + 1) slot.Number (desig_slots p r d)
      (subst (λ o. HasSlots p code r (more + 1) (unless_bare o (slot.Number ∷ desig_slots p r d))) none
      (slots_first p code input r (more + 1) variable (stmts_slots p r body) turn_slots)))
      runs_d runs turns h.less h.zero h.choose h.turn h.ends h.add (omega arith) v now n m b known known_limit step
