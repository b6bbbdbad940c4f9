-- A turn of FOR, from template to run. The count that is checked is the one that is set, whatever is done to locate the
-- variable between: it is the counter where nothing is done, and else it stands in a slot of its own.
use Rattle.std.proofs.Common.{◌≡◌, ℕ, suc, ◌+◌, ◌-◌, ◌<◌, ◌≤◌, Bool, true, false, List, [], ◌∷◌, ◌++◌, length, get_or, Option, Some, None}
use Rattle.std.proofs.Common.{refl, sym, ap, ◌∙◌, subst, arith, ℤ, ◌+ℤ◌}
use Rattle.std.specs.Prelude.{slice_get}
use Rattle.std.proofs.lemmas.List.{length-append}
use Rattle.alma_base.specs.Choice.{if_true}
use Rattle.alma_base.specs.declared.fault.RunFault.TheVariants as fault
use Rattle.alma_base.specs.declared.number.Range.{Range}
use Rattle.alma_base.specs.Numbers.{is_integer, is_beyond}
use Rattle.alma_code.specs.declared.cell.Cell.TheVariants as cell
use Rattle.alma_code.specs.declared.instr.Instr.TheVariants as I
use Rattle.alma_code.specs.Picture.{PlainFrame, frames_with_cell}
use Rattle.alma_code.specs.Picture as picture
use Rattle.alma_code.specs.declared.cell.SlotKind.TheVariants as slot
use Rattle.alma_code.specs.Plain.{PlainCode, kinds_at}
use Rattle.alma_ir.specs.Tree.{Program, Stmts, Desig}
use Rattle.alma_ir.specs.Checked.{desig_cells}
use Rattle.alma_mean.specs.Store.{Store, Place, Number, Unknown, put, put_at, put_top, top, top_cell}
use Rattle.alma_mean.specs.Store as store_of
use Rattle.alma_mean.specs.Events.{Events, NoYield, Fail, one, join, bind}
use Rattle.alma_mean.specs.Arithmetic.{check_range, fault_unless}
use Rattle.alma_mean.specs.Rows.{read_cell, next_turn, set_variable}
use Rattle.alma_mean.specs.Meaning.{Level, ev_expr, ev_desig}
use Rattle.alma_lower_implements.proofs.Goes.{before, weaker, bind_goes, one_goes}
use Rattle.alma_lower_implements.proofs.Frames.{shift, shift_in, own_end, Fits}
use Rattle.alma_lower_implements.proofs.ChoiceSteps.{jumps}
use Rattle.alma_lower_implements.proofs.ExprRows.{AreVariables}
use Rattle.alma_lower_implements.proofs.ForSteps.{SlotThere, a_number, not_known, slot_there, slot_within, slot_has_kind, number_there}
use Rattle.alma_lower_implements.proofs.ForSteps.{fits_top, top_put, count_integer, no_counter, no_limit, loop_ends, next_count, move_step}
use Rattle.alma_lower_implements.proofs.Steps.{top_written, Holds, InstrAt, store_step}
use Rattle.alma_lower_implements.proofs.FrameLemmas.{content_there, put_routine}
use Rattle.alma_lower_implements.proofs.Ways.{Ways, Leaves, Runs, Later}
use Rattle.alma_lower_templates.specs.LineInstr.{LineInstr, own}
use Rattle.alma_lower_templates.specs.Tables.{Tables, range_number, is_whole}
use Rattle.alma_lower_templates.specs.Slots.{bare_desig, unless_bare, desig_slots}
use Rattle.alma_lower_templates.specs.Pieces.{unless_whole, fit_code, turn_code}
use Rattle.alma_lower_templates.specs.Templates.{stmts_code, held_at, set_by, count_at, count_code}
use Rattle.alma_lower_templates.specs.Stands.{Stands}
use Rattle.alma_lower_templates.proofs.Stands.{stands_front, stands_back}
use Rattle.alma_lower_templates.proofs.Parts.{Takes, RunsFor, alone_from, Begins, begins, Left, left_self, left_less, left_on, left_temp}
use Rattle.alma_lower_templates.proofs.Parts.{has_kind, holds_temp, put_position, sound_after, holds_after, value_after, IsValue, IsPlace}
use Rattle.alma_lower_templates.proofs.Parts.{PlaceIn}
use Rattle.alma_lower_templates.proofs.Parts.{From, ending, from_more, from_ending, on_later, then_ending, faults_here}
use Rattle.alma_lower_templates.proofs.Fields.{desig_from}
use Rattle.alma_lower_templates.proofs.AtOnce.{BareFits}
use Rattle.alma_lower_templates.proofs.RangeChecks.{whole_within, check_from}
use Rattle.alma_lower_templates.proofs.Targets.{IsTarget, put_places, left_put, top_free}
use Rattle.alma_lower_templates.proofs.FormRuns.{held_code, HeldRuns, FitsRange}

module _ (p : Program) (tables : Tables) (code : PlainCode) (input : List ℕ) (below : Level) (r line q : ℕ) (may : Bool) where
  -- ---- statements, and what is behind them

  pub ending_then : (c at m exit lo la : ℕ) (now : List PlainFrame) (e : Events NoYield) (k : Store → Events NoYield) → c ≤ 8 → lo ≤ la
      → own_end p r ≤ lo → Runs code input line at m now (ending p code input may la r now) e q
      → ((v : Store) (t : List PlainFrame) → Left p code input la r now v t
      → From p code input line c m exit t (ending p code input may lo r t) (k v) q)
      → From p code input line c at exit now (ending p code input may lo r now) (bind e (λ x _. k x)) q
  ending_then c at m exit lo la now e k few le behind runs later held s is =
      bind_goes code input line c 0 24 (Leaves m (ending p code input may la r now)) (Leaves exit (ending p code input may lo r now)) held e
      (λ x _. k x) s c q c (omega arith) (omega arith)
      (runs c few held s is)
      (λ v y t base going left.
      from_ending p code input may line c m exit lo lo r v now t.now (k v) q (omega arith) behind
      (left_less p code input lo la r now v t.now le left.1) (later v t.now left.1) base t
      (record { mode = going.mode; here = left.0; frames = refl; entries = going.entries }))
      (λ v n t left. left)

  -- ---- the end of a turn: the count is raised, and the next turn begins

  -- turns, from frames with the count in the store and the step in the slot before `lo`
  abbrev pub CountsOn : (top_at exit lo counter : ℕ) (by : ℤ) → (Store → Events NoYield) → (u : ℕ) → Type 0
  CountsOn top_at exit lo counter by again u =
      (v : Store) (now : List PlainFrame) (n : ℤ) → Begins p code input r v now → top_cell v counter ≡ Number n → Holds now lo (cell.Int by)
      → Later code input line top_at exit now (ending p code input may (lo + 1) r now) (again v) u

  pub next_from : (at top_at exit lo counter limit u : ℕ) (by : ℤ) (again : Store → Events NoYield) (v : Store) (now : List PlainFrame)
      → own_end p r ≤ lo → q ≤ suc u → AreVariables p code input r counter 1 → AreVariables p code input r limit 1
      → InstrAt code input line at (I.Step (shift p r + counter) (shift p r + limit) lo exit)
      → InstrAt code input line (at + 1) (I.Jump top_at) → Begins p code input r v now → Holds now lo (cell.Int by)
      → CountsOn top_at exit lo counter by again u
      → From p code input line 7 at exit now (ending p code input may (lo + 1) r now) (next_turn counter limit by again v (one v tt)) q
  next_from at top_at exit lo counter limit u by again v now behind owes of_counter of_limit i j b step turns =
      by_counter (slot_there p code input r counter of_counter v now b.stand b.routine)
    where
      w : Ways NoYield
      w = ending p code input may (lo + 1) r now

      Goal : Events NoYield → Type 0
      Goal e = From p code input line 7 at exit now (ending p code input may (lo + 1) r now) e q

      by_beyond : (x l : ℤ) → top_cell v counter ≡ Number x → is_integer x ≡ true → is_integer l ≡ true
          → Holds now (shift p r + counter) (cell.Int x) → Holds now (shift p r + limit) (cell.Int l) → (z : Bool)
          → is_beyond (x +ℤ by) l by ≡ z
          → Goal (if_true z (λ _. one v tt) (λ _. again (put_top v counter (Number (x +ℤ by)))))
      by_beyond x l e fits_x fits_l hx hl true beyond held s is =
          let m = loop_ends code input line at now held s is (shift p r + counter) (shift p r + limit) lo exit i x hx l by hl step beyond in
          before code input line 0 24 (Leaves exit (ending p code input may (lo + 1) r now)) held (one v tt) s m.to 1 7 6 q q m.silently
          (omega arith) (omega arith)
          (one_goes code input line 0 24 (Leaves exit (ending p code input may (lo + 1) r now)) held v tt m.to 6 q (omega arith)
          (record { mode = m.is.mode; entries = m.is.entries })
          (m.is.here, subst (Left p code input (lo + 1) r now v) (sym m.is.frames) (left_self p code input (lo + 1) r v now b)))
      by_beyond x l e fits_x fits_l hx hl false within_limit held s is =
          let y : ℤ = x +ℤ by in
          let t : List PlainFrame = top_written now (shift p r + counter) (cell.Int y) in
          let v2 : Store = put_top v counter (Number y) in
          let integer : is_integer y ≡ true = count_integer by x l fits_x fits_l within_limit in
          let live : top v < length v = omega (arith, b.stand.some) in
          let there = slot_within p code input r counter of_counter v now b.stand b.routine in
          let fit : Fits p code (lo + 1) now v2 t = fits_top p code input r counter of_counter v now b.stand b.routine (lo + 1) y integer in
          let left : Left p code input (lo + 1) r now v2 t =
          record {
            fits = fit;
            routine = put_routine v (top v) counter (Number y) live ∙ b.routine;
            sound =
                sound_after p code input (lo + 1) v v2 now t b.stand fit (put_places p code input v (top v) counter y live there)
                (put_position p code input v (top v) counter (Number y) (top_free p code input counter r v now of_counter b)) b.sound;
          } in
          let m = next_count code input line at now held s is (shift p r + counter) (shift p r + limit) lo exit i x hx l by hl step
          within_limit (slot_has_kind p code input r counter of_counter v now b.stand b.routine) in
          let g = jumps code input line (at + 1) top_at t held m.to m.is j in
          before code input line 0 24 (Leaves exit (ending p code input may (lo + 1) r now)) held (again v2) s m.to 1 7 0 q (q - 1)
          m.silently (omega arith) (omega arith)
          (on_later p code input may line top_at exit (lo + 1) (lo + 1) r v2 now t (again v2) u (omega arith) (omega (arith, behind)) left
          (turns v2 t y (begins p code input (lo + 1) r now v2 t left) (top_put v counter (Number y) b.stand.some there)
          (holds_after p code input (lo + 1) r lo (cell.Int by) v v2 now t b behind (omega arith) left step))
          1 (q - 1) (omega arith) (omega (arith, owes)) held m.to g.to g.silently g.is)

      by_limit : (x : ℤ) → top_cell v counter ≡ Number x → is_integer x ≡ true → Holds now (shift p r + counter) (cell.Int x)
          → SlotThere p code input v now limit (shift p r + limit)
          → Goal (read_cell (top_cell v limit) (λ l. if_true (is_beyond (x +ℤ by) l by) (λ _. one v tt)
          (λ _. again (put_top v counter (Number (x +ℤ by))))))
      by_limit x e fits_x hx (a_number l e' hl fits_l) =
          subst (λ c. Goal (read_cell c (λ l. if_true (is_beyond (x +ℤ by) l by) (λ _. one v tt)
          (λ _. again (put_top v counter (Number (x +ℤ by))))))) (sym e')
          (by_beyond x l e fits_x fits_l hx hl (is_beyond (x +ℤ by) l by) refl)
      by_limit x e fits_x hx (not_known e' hl) =
          subst (λ c. Goal (read_cell c (λ l. if_true (is_beyond (x +ℤ by) l by) (λ _. one v tt)
          (λ _. again (put_top v counter (Number (x +ℤ by))))))) (sym e')
          (faults_here p code input line 6 at exit now (ending p code input may (lo + 1) r now) fault.Unknown q
          (λ held s is. no_limit code input line at now held s is (shift p r + counter) (shift p r + limit) lo exit i x hx hl))

      by_counter : SlotThere p code input v now counter (shift p r + counter) → Goal (next_turn counter limit by again v (one v tt))
      by_counter (a_number x e hx fits_x) =
          subst (λ c. Goal (read_cell c (λ n. read_cell (top_cell v limit)
          (λ l. if_true (is_beyond (n +ℤ by) l by) (λ _. one v tt) (λ _. again (put_top v counter (Number (n +ℤ by)))))))) (sym e)
          (by_limit x e fits_x hx (slot_there p code input r limit of_limit v now b.stand b.routine))
      by_counter (not_known e hx) =
          subst (λ c. Goal (read_cell c (λ n. read_cell (top_cell v limit)
          (λ l. if_true (is_beyond (n +ℤ by) l by) (λ _. one v tt) (λ _. again (put_top v counter (Number (n +ℤ by)))))))) (sym e)
          (faults_here p code input line 6 at exit now (ending p code input may (lo + 1) r now) fault.Unknown q
          (λ held s is. no_counter code input line at now held s is (shift p r + counter) (shift p r + limit) lo exit i hx))

  -- ---- the variable of a turn

  -- it is located, and the slot of the count keeps what it holds
  located_from : (o : Option ℕ) (at exit lo place value : ℕ) (d : Desig) (v : Store) (now : List PlainFrame) (n : ℤ)
      (k : Store → Place → Events NoYield) → bare_desig d ≡ o → lo ≤ place → own_end p r ≤ lo → Begins p code input r v now
      → (o ≡ None → HeldRuns p tables code input below r line q at (place + 1) d)
      → Stands code at (unless_bare o (held_code p tables r line at (place + 1) d))
      → IsValue p code input (count_at p tables r o value place) n now
      → ((u : Store) (a : Place) (t : List PlainFrame) → Left p code input (place + 1) r now u t
      → IsTarget p tables code input below r line q o (place + 1) d u a t → IsValue p code input (count_at p tables r o value place) n t
      → From p code input line 8 (at + length (unless_bare o (held_code p tables r line at (place + 1) d))) exit t
      (ending p code input may lo r t) (k u a) q)
      → From p code input line 0 at exit now (ending p code input may lo r now) (bind (ev_desig p input below d v) k) q
  unfolding ev_expr
  located_from None at exit lo place value d v now n k e le behind b runs stands count later =
      let m : ℕ = at + length (held_code p tables r line at (place + 1) d) in
      then_ending p code input may line at m exit lo (place + 1) r now
      (PlaceIn p code input (held_at p tables r (place + 1) d) (desig_cells d)) (ev_desig p input below d v) k q (omega (arith, le))
      behind ((runs refl).runs stands v now b)
      (λ u a t left h. later u a t left ((runs refl).within, h)
      (value_after p code input (place + 1) r place n v u now t b (omega (arith, le, behind))
      (omega arith) left count))
  located_from (Some from) at exit lo place value d v now n k e le behind b runs stands count later =
      let zero : at + 0 ≡ at = omega arith in
      let w = ending p code input may lo r now in
      desig_from p code input line at exit now w below v from q d k e
      (λ size held s is. let a : Place = record { frame = top v; slot = from; size = size } in
      weaker code input line 0 24 (Leaves exit w) held (join (k v a) Fail) s 64 8 q q (omega arith) (omega arith)
      (alone_from p code input line 8 at exit now w (k v a) q
      (subst (λ m. From p code input line 8 m exit now w (k v a) q) zero
      (later v a now (left_self p code input (place + 1) r v now b) (refl, refl) count)) held s is))

  -- the number is set by one step
  set_step : (o : Option ℕ) (at lo la value : ℕ) (d : Desig) (v : Store) (now : List PlainFrame) (a : Place) (x : ℤ)
      → BareFits p tables code input below r line q o → desig_cells d ≡ 1 → own_end p r ≤ lo → Begins p code input r v now
      → IsTarget p tables code input below r line q o la d v a now → IsValue p code input value x now
      → InstrAt code input line at (set_by p tables r o la value d)
      → (t : List PlainFrame) × Takes p code input at (at + 1) now t × Left p code input lo r now (put_at v a (Number x)) t
  set_step None at lo la value d v now a x fits cells behind b h hx i =
      let place : IsPlace p code input (held_at p tables r la d) (desig_cells d) v a now = h.1 in
      let some_cell : 0 < a.size = omega (arith, cells, place.sized) in
      let sh : ℕ = shift_in p v a.frame in
      let there : a.slot < length (get_or v a.frame store_of.no_frame).cells = omega (arith, place.numbers.cells 0 some_cell) in
      let zero : sh + (a.slot + 0) ≡ sh + a.slot = omega arith in
      let kind : get_or (get_or now a.frame picture.no_frame).kinds (sh + a.slot) slot.Mark ≡ slot.Number =
      ap (λ n. get_or (get_or now a.frame picture.no_frame).kinds n slot.Mark) (sym zero) ∙ place.numbers.kinds 0 some_cell in
      let live = content_there p code v now a place.place b.stand place.numbers some_cell place.same in
      let t : List PlainFrame = frames_with_cell now a.frame (sh + a.slot) (cell.Int x) in
      let here : frames_with_cell now place.place.frame place.place.slot (cell.Int x) ≡ t =
      ap (λ f. frames_with_cell now f place.place.slot (cell.Int x)) (sym place.same.frame)
      ∙ ap (λ n. frames_with_cell now a.frame n (cell.Int x)) (sym place.same.slot) in (
        t,
        (λ held s is.
            let w = store_step code input line at now held s is (held_at p tables r la d) value place.place x i place.holds hx.holds
            live.0 in
            record {
              to = w.to;
              silently = w.silently;
              is =
                  record { mode = w.is.mode; here = w.is.here; frames = w.is.frames ∙ here; entries = w.is.entries };
            }),
        left_put p code input lo r a.frame a.slot x v now place.numbers.frame there kind hx.integer place.numbers.free b,
      )
  set_step (Some from) at lo la value d v now a x fits cells behind b h hx i =
      let t : List PlainFrame = top_written now (shift p r + from) (cell.Int x) in
      let live : top v < length v = omega (arith, b.stand.some) in
      let fit : Fits p code lo now (put_top v from (Number x)) t =
      fits_top p code input r from fits v now b.stand b.routine lo x hx.integer in
      let left : Left p code input lo r now (put_top v from (Number x)) t =
      record {
        fits = fit;
        routine = put_routine v (top v) from (Number x) live ∙ b.routine;
        sound =
            sound_after p code input lo v (put_top v from (Number x)) now t b.stand fit
            (put_places p code input v (top v) from x live (slot_within p code input r from fits v now b.stand b.routine))
            (put_position p code input v (top v) from (Number x) (top_free p code input from r v now fits b)) b.sound;
      } in (
        t,
        (λ held s is. let w = move_step code input line at now held s is (shift p r + from) value x i
            (slot_has_kind p code input r from fits v now b.stand b.routine) hx.holds in
            record { to = w.to; silently = w.silently; is = w.is }),
        subst (λ f. Left p code input lo r now (put v f a.slot (Number x)) t) (sym h.0)
            (subst (λ n. Left p code input lo r now (put v (top v) n (Number x)) t) (sym h.1) left),
      )

  -- the check of the count
  count_checked : (z : Bool) (at exit value : ℕ) (range : Range) (n : ℤ) (now : List PlainFrame) (w : Ways NoYield) (e : Events NoYield)
      → is_whole range ≡ z → FitsRange p tables code input below r line q range
      → Stands code at (own line (unless_whole z (I.InRange value (range_number tables range) ∷ []))) → IsValue p code input value n now
      → From p code input line 7 (at + length (own line (unless_whole z (I.InRange value (range_number tables range) ∷ [])))) exit now w e q
      → From p code input line 8 at exit now w (check_range range n (λ _. e)) q
  count_checked true at exit value range n now w e is has stands h later =
      let zero : at + 0 ≡ at = omega arith in
      subst (λ y. From p code input line 8 at exit now w (fault_unless fault.Range y (λ _. e)) q) (sym (whole_within range n is h.integer))
      (from_more p code input line 7 8 at exit now w e q (omega arith) (subst (λ m. From p code input line 7 m exit now w e q) zero later))
  count_checked false at exit value range n now w e is has stands h later =
      check_from p tables code input below r line q at exit value range n now w e (has is) (record { instr = stands.0; on_line = stands.1 })
      h (λ in_it. later)

  -- the variable is set to the number in the slot of the count
  set_here : (o : Option ℕ) (at exit lo place value : ℕ) (d : Desig) (v : Store) (now : List PlainFrame) (n : ℤ)
      (k : Store → Events NoYield) (made : List LineInstr) → bare_desig d ≡ o → BareFits p tables code input below r line q o
      → desig_cells d ≡ 1 → own_end p r ≤ lo → lo ≤ place
      → (o ≡ None → HeldRuns p tables code input below r line q at (place + 1) d)
      → Stands code at (unless_bare o (held_code p tables r line at (place + 1) d)
      ++ (own line (set_by p tables r o (place + 1) (count_at p tables r o value place) d ∷ []) ++ made)) → Begins p code input r v now
      → IsValue p code input (count_at p tables r o value place) n now
      → ((w : Store) (t : List PlainFrame) → Left p code input lo r now w t
      → From p code input line 7 (at + length (unless_bare o (held_code p tables r line at (place + 1) d)) + 1) exit t
      (ending p code input may lo r t) (k w) (q - 1))
      → From p code input line 0 at exit now (ending p code input may lo r now)
      (bind (ev_desig p input below d v) (λ t a. k (put_at t a (Number n)))) q
  set_here o at exit lo place value d v now n k made e fits cells behind le runs stands b count later =
      let locate : List LineInstr = unless_bare o (held_code p tables r line at (place + 1) d) in
      let from : ℕ = count_at p tables r o value place in
      let set : List LineInstr = own line (set_by p tables r o (place + 1) from d ∷ []) in
      let m : ℕ = at + length locate in
      let set_at = stands_back code at locate (set ++ made) stands in
      located_from o at exit lo place value d v now n (λ t a. k (put_at t a (Number n))) e le behind b runs
      (stands_front code at locate (set ++ made) stands) count
      (λ u a t left target count1.
      let b1 = begins p code input (place + 1) r now u t left in
      let s1 = set_step o m lo (place + 1) from d u t a n fits cells behind b1 target count1
      (record { instr = set_at.0; on_line = set_at.1 }) in
      let t1 : List PlainFrame = s1.0 in
      let v1 : Store = put_at u a (Number n) in
      let whole : Left p code input lo r now v1 t1 =
      left_on p code input lo lo r now u v1 t t1 (omega arith)
      (left_less p code input lo (place + 1) r now u t (omega (arith, le)) left) s1.2 in
      λ held s is.
      let g = s1.1 held s is in
      before code input line 0 24 (Leaves exit (ending p code input may lo r t)) held (k v1) s g.to 1 8 7 q (q - 1) g.silently (omega arith)
      (omega arith)
      (from_ending p code input may line 7 (m + 1) exit lo lo r v1 t t1 (k v1) (q - 1) (omega arith) behind s1.2 (later v1 t1 whole) held
      g.to g.is))

  -- the count is checked, the variable set, and what is behind goes on
  pub variable_from : (o : Option ℕ) (at exit lo place counter : ℕ) (d : Desig) (range : Range) (v : Store) (now : List PlainFrame) (n : ℤ)
      (k : Store → Events NoYield) (made : (at : ℕ) → List LineInstr) → bare_desig d ≡ o → BareFits p tables code input below r line q o
      → desig_cells d ≡ 1 → own_end p r ≤ lo → lo ≤ place
      → FitsRange p tables code input below r line q range → AreVariables p code input r counter 1
      → (o ≡ None → slice_get (kinds_at code r) place ≡ Some slot.Number)
      → (o ≡ None → (next : ℕ) → HeldRuns p tables code input below r line q next (place + 1) d)
      → Stands code at (turn_code line at (count_code p tables r o range (shift p r + counter) place)
      (λ next. unless_bare o (held_code p tables r line next (place + 1) d))
      (set_by p tables r o (place + 1) (count_at p tables r o (shift p r + counter) place) d) made)
      → Begins p code input r v now → top_cell v counter ≡ Number n
      → ((next : ℕ) → next + length (made next) ≡ at + length
      (turn_code line at (count_code p tables r o range (shift p r + counter) place)
      (λ next. unless_bare o (held_code p tables r line next (place + 1) d))
      (set_by p tables r o (place + 1) (count_at p tables r o (shift p r + counter) place) d) made) → Stands code next (made next)
      → (w : Store) (t : List PlainFrame) → Left p code input lo r now w t
      → From p code input line 7 next exit t (ending p code input may lo r t) (k w) (q - 1))
      → From p code input line 9 at exit now (ending p code input may lo r now) (set_variable (ev_desig p input below d) range v n k) q
  variable_from (Some to) at exit lo place counter d range v now n k made e fits cells behind le has of_counter kind runs stands b known
      later =
      let value : ℕ = shift p r + counter in
      let check : List LineInstr = own line (fit_code tables range value) in
      let m : ℕ = at + length check in
      let set : List LineInstr = own line (set_by p tables r (Some to) (place + 1) value d ∷ []) in
      let rest : List LineInstr = set ++ made (m + 0 + 1) in
      let w = ending p code input may lo r now in
      let found = number_there p code input r counter of_counter v now b.stand b.routine n known in
      let count : IsValue p code input value n now = record { holds = found.0; integer = found.1 } in
      let behind_check = stands_back code at check rest stands in
      let back = behind_check.2 in
      let long : length (check ++ rest) ≡ length check + suc (length (made (m + 0 + 1))) = length-append check rest in
      let zero : m + 1 ≡ m + 0 + 1 = omega arith in
      from_more p code input line 8 9 at exit now w
      (check_range range n (λ _. bind (ev_desig p input below d v) (λ t a. k (put_at t a (Number n))))) q (omega arith)
      (count_checked (is_whole range) at exit value range n now w (bind (ev_desig p input below d v) (λ t a. k (put_at t a (Number n))))
      refl has (stands_front code at check rest stands) count
      (from_more p code input line 0 7 m exit now w (bind (ev_desig p input below d v) (λ t a. k (put_at t a (Number n)))) q (omega arith)
      (set_here (Some to) m exit lo place value d v now n k (made (m + 0 + 1)) e fits cells behind le (λ none. runs none m) behind_check b
      count
      (λ u t left. later (m + 0 + 1) (omega (arith, long)) (subst (λ x. Stands code x (made (m + 0 + 1))) zero back) u t left))))
  variable_from None at exit lo place counter d range v now n k made e fits cells behind le has of_counter kind runs stands b known later =
      let value : ℕ = shift p r + counter in
      let check : List LineInstr = own line (fit_code tables range place) in
      let m : ℕ = at + suc (length check) in
      let locate : List LineInstr = held_code p tables r line m (place + 1) d in
      let set : List LineInstr = own line (set_by p tables r None (place + 1) place d ∷ []) in
      let m2 : ℕ = m + length locate + 1 in
      let rest : List LineInstr = locate ++ (set ++ made m2) in
      let w = ending p code input may lo r now in
      let found = number_there p code input r counter of_counter v now b.stand b.routine n known in
      let t0 : List PlainFrame = top_written now place (cell.Int n) in
      let left0 : Left p code input lo r now v t0 = left_temp p code input lo r place v now (cell.Int n) le (omega (arith, behind, le)) b in
      let b0 = begins p code input lo r now v t0 left0 in
      let count : IsValue p code input place n t0 =
      record { holds = holds_temp p code input r place v now (cell.Int n) slot.Number (kind refl) b; integer = found.1 } in
      let here : at + 1 + length check ≡ m = omega arith in
      let behind_check : Stands code m rest = subst (λ x. Stands code x rest) here (stands_back code (at + 1) check rest stands.2) in
      let back = stands_back code m locate (set ++ made m2) behind_check in
      let long : length (check ++ rest) ≡ length check + length rest = length-append check rest in
      let longer : length rest ≡ length locate + suc (length (made m2)) = length-append locate (set ++ made m2) in
      let e2 : Events NoYield = bind (ev_desig p input below d v) (λ t a. k (put_at t a (Number n))) in
      λ held s is.
      let g = move_step code input line at now held s is place value n (record { instr = stands.0; on_line = stands.1 })
      (has_kind p code input r place v now slot.Number (kind refl) b) found.0 in
      before code input line 0 24 (Leaves exit w) held (check_range range n (λ _. e2)) s g.to 1 9 8 q q g.silently (omega arith)
      (omega arith)
      (from_ending p code input may line 8 (at + 1) exit lo lo r v now t0 (check_range range n (λ _. e2)) q (omega arith) behind left0
      (count_checked (is_whole range) (at + 1) exit place range n t0 (ending p code input may lo r t0) e2 refl has
      (stands_front code (at + 1) check rest stands.2) count
      (from_more p code input line 0 7 (at + 1 + length check) exit t0 (ending p code input may lo r t0) e2 q (omega arith)
      (subst (λ x. From p code input line 0 x exit t0 (ending p code input may lo r t0) e2 q) (sym here)
      (set_here None m exit lo place value d v t0 n k (made m2) e fits cells behind le (λ none. runs none m) behind_check b0 count
      (λ u t left.
      from_ending p code input may line 7 m2 exit lo lo r u t t (k u) (q - 1) (omega arith) behind
      (left_self p code input lo r u t (begins p code input lo r t0 u t left))
      (later m2 (omega (arith, long, longer)) back.2 u t (left_on p code input lo lo r now v u t0 t (omega arith) left0 left)))))))
      held g.to g.is)

module _ (p : Program) (tables : Tables) (code : PlainCode) (input : List ℕ) (below : Level) (r line q : ℕ) (may : Bool) where
  -- ---- a turn

  -- from frames with the count in the store and the step in the slot lo; the places of the variable begin at `place`
  pub for_turn_of : (o : Option ℕ) (at exit lo place counter limit u : ℕ) (by : ℤ) (d : Desig) (range : Range) (body : Stmts)
      (does again : Store → Events NoYield) → bare_desig d ≡ o → BareFits p tables code input below r line q o → desig_cells d ≡ 1
      → own_end p r ≤ lo → lo < place → q ≤ suc u → FitsRange p tables code input below r line q range
      → AreVariables p code input r counter 1 → AreVariables p code input r limit 1
      → (o ≡ None → slice_get (kinds_at code r) place ≡ Some slot.Number)
      → (o ≡ None → (next : ℕ) → HeldRuns p tables code input below r line q next (place + 1) d)
      → ((next : ℕ) → RunsFor p code input may r line next (place + length (unless_bare o (slot.Number ∷ desig_slots p r d)))
      (stmts_code p tables r next (place + length (unless_bare o (slot.Number ∷ desig_slots p r d))) body) does (q - 1))
      → CountsOn p tables code input below r line q may at exit lo counter by again u
      → Stands code at (turn_code line at (count_code p tables r o range (shift p r + counter) place)
      (λ next. unless_bare o (held_code p tables r line next (place + 1) d))
      (set_by p tables r o (place + 1) (count_at p tables r o (shift p r + counter) place) d)
      (λ next. stmts_code p tables r next (place + length (unless_bare o (slot.Number ∷ desig_slots p r d))) body)
      ++ own line (I.Step (shift p r + counter) (shift p r + limit) lo exit ∷ I.Jump at ∷ []))
      → (v : Store) (now : List PlainFrame) (n : ℤ) → Begins p code input r v now → top_cell v counter ≡ Number n
      → Holds now lo (cell.Int by)
      → From p code input line 9 at exit now (ending p code input may (lo + 1) r now)
      (read_cell (top_cell v counter) (λ x. set_variable (ev_desig p input below d) range v x
      (λ t. bind (does t) (λ y _. next_turn counter limit by again y (one y tt))))) q
  for_turn_of o at exit lo place counter limit u by d range body does again e fits cells behind above owes has of_counter of_limit kind
      runs_d runs turns stands v now n b known step =
      let lb : ℕ = place + length (unless_bare o (slot.Number ∷ desig_slots p r d)) in
      let made = λ (next : ℕ). stmts_code p tables r next lb body in
      let turn : List LineInstr = turn_code line at (count_code p tables r o range (shift p r + counter) place)
      (λ next. unless_bare o (held_code p tables r line next (place + 1) d))
      (set_by p tables r o (place + 1) (count_at p tables r o (shift p r + counter) place) d) made in
      let last : List LineInstr = own line (I.Step (shift p r + counter) (shift p r + limit) lo exit ∷ I.Jump at ∷ []) in
      let m : ℕ = at + length turn in
      let ends : Stands code m last = stands_back code at turn last stands in
      let w = ending p code input may (lo + 1) r now in
      let does_next = λ (t : Store). bind (does t) (λ y _. next_turn counter limit by again y (one y tt)) in
      subst (λ c. From p code input line 9 at exit now w (read_cell c (λ x. set_variable (ev_desig p input below d) range v x does_next)) q)
      (sym known)
      (variable_from p tables code input below r line q may o at exit (lo + 1) place counter d range v now n does_next made e fits cells
      (omega (arith, behind)) (omega (arith, above)) has of_counter kind runs_d (stands_front code at turn last stands) b known
      (λ next here there v1 t1 left1.
      let b1 = begins p code input (lo + 1) r now v1 t1 left1 in
      let step1 = holds_after p code input (lo + 1) r lo (cell.Int by) v v1 now t1 b behind (omega arith) left1 step in
      let run = runs next there v1 t1 b1 in
      ending_then p tables code input below r line (q - 1) may 7 next m exit (lo + 1) lb t1 (does v1)
      (λ y. next_turn counter limit by again y (one y tt)) (omega arith) (omega (arith, above)) (omega (arith, behind))
      (subst (λ x. Runs code input line next x t1 (ending p code input may lb r t1) (does v1) (q - 1)) here run)
      (λ y t2 left2.
      next_from p tables code input below r line (q - 1) may m at exit lo counter limit u by again y t2 behind (omega (arith, owes))
      of_counter of_limit (record { instr = ends.0; on_line = ends.1 }) (record { instr = ends.2.0; on_line = ends.2.1 })
      (begins p code input lb r t1 y t2 left2)
      (holds_after p code input lb r lo (cell.Int by) v1 y t1 t2 b1 behind (omega (arith, above)) left2 step1) turns)))
