-- FORALL, from template to run: its first part is gone through, and the second runs in frames over which the carry was laid.
use Rattle.std.proofs.Common.{◌≡◌, ℕ, suc, ◌+◌, ◌-◌, ◌<◌, ◌≤◌, inl, inr, Bool, true, false, not, List, [], ◌∷◌, ◌++◌, length, get_or, Some}
use Rattle.std.proofs.Common.{None, Option, refl, sym, ap, ◌∙◌, subst, arith, pos, length-append}
use Rattle.std.specs.Prelude.{slice_get}
use Rattle.std.proofs.lemmas.Bool.{cases_lt}
use Rattle.std.proofs.lemmas.List.{get_or_past}
use Rattle.alma_base.specs.Choice.{if_true}
use Rattle.alma_base.specs.Carry.{Carry, carried_at, with_changes}
use Rattle.alma_code.specs.declared.cell.Cell as machine_cell
use Rattle.alma_code.specs.declared.cell.Cell.TheVariants as cell
use Rattle.alma_code.specs.declared.cell.SlotKind.{SlotKind}
use Rattle.alma_code.specs.declared.cell.SlotKind.TheVariants as slot
use Rattle.alma_code.specs.declared.instr.Instr.TheVariants as I
use Rattle.alma_code.specs.Carries.{frames_with_carry, diffs}
use Rattle.alma_code.specs.Picture.{PlainFrame, last_frame}
use Rattle.alma_code.specs.Picture as picture
use Rattle.alma_code.specs.Plain.{PlainCode, kinds_at}
use Rattle.alma_ir.specs.Tree.{Program, Stmts, Forall, routine_at}
use Rattle.alma_mean.specs.Store.{Store, Unknown, Number, top_frame, over, changes}
use Rattle.alma_mean.specs.Store as store
use Rattle.alma_mean.specs.Events.{NoYield}
use Rattle.alma_mean.specs.Rows.{forall_row}
use Rattle.alma_mean.specs.Meaning.{Level, ev_stmts}
use Rattle.alma_lower_implements.proofs.Goes.{Goes, before}
use Rattle.alma_lower_implements.proofs.Frames.{own_end, StandFor, Fits, HasSlots}
use Rattle.alma_lower_implements.proofs.FrameLemmas.{FrontAlike, frame_routine}
use Rattle.alma_lower_implements.proofs.ExprRows.{first_kind, slots_behind}
use Rattle.alma_lower_implements.proofs.CarryMaps.{IsRising}
use Rattle.alma_lower_implements.proofs.Carrying.{Alike, nothing_alike, alike_moved, laid_fits}
use Rattle.alma_lower_implements.proofs.Gaining.{gains, meant_gained}
use Rattle.alma_lower_implements.proofs.LaidOver.{or_else, over_cell, over_count, over_routine, overlaid_count, overlaid_form}
use Rattle.alma_lower_implements.proofs.Steps.{Holds, HasKind, InstrAt, top_written}
use Rattle.alma_lower_implements.proofs.ForallSteps.{forall_step}
use Rattle.alma_lower_implements.proofs.ForallRow.{ForallCode, ForallParts, forall_goes}
use Rattle.alma_lower_implements.proofs.SeqRow.{runs_less}
use Rattle.alma_lower_implements.proofs.Ways.{Ways, Leaves, Runs}
use Rattle.alma_lower_templates.specs.LineInstr.{LineInstr, own}
use Rattle.alma_lower_templates.specs.Tables.{Tables}
use Rattle.alma_lower_templates.specs.Slots.{stmts_slots, stmt_slots, behind_stmts}
use Rattle.alma_lower_templates.specs.Templates.{stmts_code, stmt_code}
use Rattle.alma_lower_templates.specs.Pieces.{begin_each, end_each}
use Rattle.alma_lower_templates.specs.Stands.{Stands}
use Rattle.alma_lower_templates.proofs.Stands.{stands_front, stands_back}
use Rattle.alma_lower_templates.proofs.Given.{given_after}
use Rattle.alma_lower_templates.proofs.Parts.{Positioned, Begins, Left, sound_of, begins, left_on, left_temp, holds_temp, has_kind}
use Rattle.alma_lower_templates.proofs.Parts.{holds_after, From, from_less, node_runs, leaving, ending, Nothing}
use Rattle.alma_lower_templates.proofs.FormRuns.{ListRuns, StmtRuns}

module _ (p : Program) (code : PlainCode) where
  -- the frames are of the same routines after a part, and before it
  front_after : (lo : ℕ) (v w : Store) (now later : List PlainFrame) → StandFor p code v now → Fits p code lo now w later
      → FrontAlike p code (length v) v w now later
  front_after lo v w now later stand fit =
      let long : length w ≡ length v = sym fit.stand.count ∙ fit.same_count ∙ stand.count in
      record {
        live = omega (arith, long);
        routine = λ k lt. routine_is k lt long;
        long = λ k lt. (fit.stand.frames k (omega (arith, lt, long))).slots ∙ ap (λ r. (routine_at p r).slots) (routine_is k lt long)
            ∙ sym (stand.frames k lt).slots;
        kinds = λ k lt. (fit.stand.frames k (omega (arith, lt, long))).kinds
            ∙ ap (kinds_at code) (frame_routine p code lo k v w now later lt stand fit) ∙ sym (stand.frames k lt).kinds;
      }
    where
      routine_is : (k : ℕ) → k < length v → length w ≡ length v → (get_or w k store.no_frame).routine ≡ (get_or v k store.no_frame).routine
      routine_is k lt long = (fit.stand.frames k (omega (arith, lt, long))).routine ∙ frame_routine p code lo k v w now later lt stand fit
          ∙ sym (stand.frames k lt).routine

  front_back : (v w : Store) (now later : List PlainFrame) → length w ≡ length v → FrontAlike p code (length v) v w now later
      → FrontAlike p code (length w) w v later now
  front_back v w now later long h = record {
    live = omega (arith, long);
    routine = λ k lt. sym (h.routine k (omega (arith, lt, long)));
    long = λ k lt. sym (h.long k (omega (arith, lt, long)));
    kinds = λ k lt. sym (h.kinds k (omega (arith, lt, long)));
  }

-- an input position that is carried is a number at or above 0
abbrev pub CarriesPosition : Carry store.Cell → Type 0
CarriesPosition carry = (a : store.Cell) → carried_at 0 0 carry ≡ Some a → (n : ℕ) × (a ≡ Number (pos n))

module _ (p : Program) (code : PlainCode) (input : List ℕ) where
  -- there is such a cell
  pub position_there : (v : Store) → Positioned p code input v → 0 < length (get_or v 0 store.no_frame).cells
  position_there v h = elim (cases_lt 0 (length (get_or v 0 store.no_frame).cells)) [
    | inl there ↦ there
    | inr past ↦ let bad : Unknown ≡ Number (pos h.at) = sym (get_or_past (get_or v 0 store.no_frame).cells 0 Unknown past) ∙ h.is in
        absurd (cc)
  ]

  -- the carry laid over a store leaves a position
  laid_position : (v : Store) (carry : Carry store.Cell) → IsRising carry → CarriesPosition carry → 1 ≤ length v → Positioned p code input v
      → Positioned p code input (over v carry)
  laid_position v carry rising carries some h = by (carried_at 0 0 carry) refl
    where
      by : (o : Option store.Cell) → carried_at 0 0 carry ≡ o → Positioned p code input (over v carry)
      by None e = record {
        at = h.at;
        is = over_cell v carry 0 0 rising (omega (arith, some)) (position_there v h)
            ∙ ap (λ o. or_else o (store.cell_at v 0 0)) e ∙ h.is;
      }
      by (Some a) e = let z = carries a e in record {
        at = z.0;
        is = over_cell v carry 0 0 rising (omega (arith, some)) (position_there v h)
            ∙ ap (λ o. or_else o (store.cell_at v 0 0)) e ∙ z.1;
      }

  some_inj : {A : Type 0} {x y : A} → Some x ≡ Some y → x ≡ y
  some_inj e = cc

  gained_by : (b : Bool) (t : Store) (carry : Carry store.Cell) → Positioned p code input t → CarriesPosition carry → (a : store.Cell)
      → if_true b (λ _. Some (store.cell_at t 0 0)) (λ _. carried_at 0 0 carry) ≡ Some a → (n : ℕ) × (a ≡ Number (pos n))
  gained_by true t carry h carries a e = (h.at, let same : Some (store.cell_at t 0 0) ≡ Some a = e in sym (some_inj same) ∙ h.is)
  gained_by false t carry h carries a e = carries a e

  -- and what a body changed is one
  gained_position : (u t : Store) (carry : Carry store.Cell) → 1 ≤ length u → Positioned p code input u → 1 ≤ length t
      → Positioned p code input t → CarriesPosition carry → CarriesPosition (with_changes (changes u t) carry)
  gained_position u t carry some h some_t ht carries a e =
      gained_by (not (store.same_cell (store.cell_at u 0 0) (store.cell_at t 0 0))) t carry ht carries a
      (sym (meant_gained u t 0 0 carry (omega (arith, some)) (omega (arith, some_t)) (position_there u h) (position_there t ht)) ∙ e)

module _ (p : Program) (tables : Tables) (code : PlainCode) (input : List ℕ) (below : Level) (r line q : ℕ) where
  -- statements without RETURN
  abbrev pub staying : (lo : ℕ) → List PlainFrame → Ways NoYield
  staying lo before = record { goes = λ v y now. Left p code input lo r before v now; returns = λ v n at now. ⊥ }

  abbrev pub StayingFor : (lo at : ℕ) → Stmts → Type 0
  StayingFor lo at x =
      Stands code at (stmts_code p tables r at lo x) → (v : Store) (now : List PlainFrame) → Begins p code input r v now
      → Runs code input line at (at + length (stmts_code p tables r at lo x)) now (staying lo now) (ev_stmts p input below x v) q

  -- the frames of the beginning; `inner` is the mark of the second part
  module _ (lo inner h : ℕ) (s0 : Store) (now0 : List PlainFrame) (b0 : Begins p code input r s0 now0) (own_lo : own_end p r ≤ lo)
      (above : lo < inner)
      (first_kind_is : slice_get (kinds_at code r) lo ≡ Some slot.Mark)
      (second_kind_is : slice_get (kinds_at code r) inner ≡ Some slot.Mark) where
    abbrev marked0 : List PlainFrame
    marked0 = top_written now0 lo (cell.Mark h)

    marked0_left : Left p code input lo r now0 s0 marked0
    marked0_left = left_temp p code input lo r lo s0 now0 (cell.Mark h) (omega arith) own_lo b0

    begins_first : Begins p code input r s0 marked0
    begins_first = begins p code input lo r now0 s0 marked0 marked0_left

    abbrev first_ways : Ways NoYield
    first_ways = staying (lo + 1) marked0

    abbrev same : Carry machine_cell.Cell → Carry store.Cell → Type 0
    same c carry = Alike p code inner s0 now0 c carry × CarriesPosition carry

    first_holds : (v : Store) (now : List PlainFrame) → Left p code input (lo + 1) r marked0 v now → Holds now lo (cell.Mark h)
    first_holds v now left = holds_after p code input (lo + 1) r lo (cell.Mark h) s0 v marked0 now begins_first own_lo (omega arith) left
        (holds_temp p code input r lo s0 now0 (cell.Mark h) slot.Mark first_kind_is b0)

    -- an alternative of the first part, with the carry over it
    module _ (v : Store) (now : List PlainFrame) (left : Left p code input (lo + 1) r marked0 v now) where
      from_start : Left p code input lo r now0 v now
      from_start = left_on p code input lo (lo + 1) r now0 s0 v marked0 now (omega arith) marked0_left left

      long : length v ≡ length s0
      long = sym from_start.fits.stand.count ∙ from_start.fits.same_count ∙ b0.stand.count

      front : FrontAlike p code (length s0) s0 v now0 now
      front = front_after p code lo s0 v now0 now b0.stand from_start.fits

      module _ (c : Carry machine_cell.Cell) (carry : Carry store.Cell) (alike : same c carry) where
        alike_here : Alike p code inner v now c carry
        alike_here = alike_moved p code inner s0 v now0 now c carry long front alike.0

        laid_left : Left p code input inner r now (over v carry) (frames_with_carry now c)
        laid_left =
            let fit : Fits p code inner now (over v carry) (frames_with_carry now c) =
            laid_fits p code inner v now c carry left.fits.stand alike_here inner (omega arith) in
            let top_is : (top_frame (over v carry)).routine ≡ (top_frame v).routine =
            ap (λ n. (get_or (over v carry) (n - 1) store.no_frame).routine) (over_count v carry)
            ∙ over_routine v carry (length v - 1) in
            record {
              fits = fit;
              routine = top_is ∙ left.routine;
              sound =
                  sound_of p code input (over v carry) (frames_with_carry now c) fit.stand
                  (laid_position p code input v carry alike.0.carry_rising alike.1 left.fits.stand.some left.sound.position)
                  (given_after p code inner v (over v carry) now (frames_with_carry now c) left.fits.stand fit left.sound.given);
            }

        begins_laid : Begins p code input r (over v carry) (frames_with_carry now c)
        begins_laid = begins p code input inner r now (over v carry) (frames_with_carry now c) laid_left

        laid_holds : Holds (frames_with_carry now c) lo (cell.Mark h)
        laid_holds = holds_after p code input inner r lo (cell.Mark h) v (over v carry) now (frames_with_carry now c)
            (begins p code input (lo + 1) r marked0 v now left) own_lo above laid_left (first_holds v now left)

    -- where the second part leaves off
    pub record SecondLeft (v : Store) (now : List PlainFrame) (c : Carry machine_cell.Cell) (height : ℕ) (t : Store)
        (now2 : List PlainFrame) : Type 0 where
      pub before : Left p code input (lo + 1) r marked0 v now
      pub mark : Holds now2 inner (cell.Mark height)
      pub outer_mark : Holds now2 lo (cell.Mark h)
      pub gained : (carry : Carry store.Cell) → same c carry
          → same (with_changes (diffs (frames_with_carry now c) now2) c) (with_changes (changes (over v carry) t) carry)

    abbrev second_ways : (v : Store) (now : List PlainFrame) (c : Carry machine_cell.Cell) (height : ℕ) → Ways NoYield
    second_ways v now c height = record { goes = λ t y now2. SecondLeft v now c height t now2; returns = λ t n at now2. ⊥ }

    parts_of : (x y at2 : ℕ) (body : Stmts) → y ≡ x + 2 + length (stmts_code p tables r (x + 2) (inner + 1) body)
        → Stands code (x + 2) (stmts_code p tables r (x + 2) (inner + 1) body) → StayingFor (inner + 1) (x + 2) body
        → ForallParts code input line x y lo inner now0 h q s0 same (ev_stmts p input below body) first_ways (staying lo now0)
    parts_of x y at2 body end stands runs = record {
      first_keeps = record { keeps = λ v z now left. first_holds v now left; stays = λ v n at now left. left };
      wt = second_ways;
      kind = λ v now c left. mark_kind v now c left;
      runs = λ v now c carry height left alike. second_runs v now c carry height left alike;
      second_keeps = λ v now c height. record { keeps = λ t z now2 left. left.mark; stays = λ t n at now2 left. left };
      second_keeps_first = λ v now c height. record { keeps = λ t z now2 left. left.outer_mark; stays = λ t n at now2 left. left };
      grows = λ v t now now2 c carry height alike left. left.gained carry alike;
      ends = λ c carry alike.
          let fit : Fits p code lo now0 (over s0 carry) (frames_with_carry now0 c) =
          laid_fits p code inner s0 now0 c carry b0.stand alike.0 lo (omega (arith, above)) in
          let top_is : (top_frame (over s0 carry)).routine ≡ (top_frame s0).routine =
          ap (λ n. (get_or (over s0 carry) (n - 1) store.no_frame).routine) (over_count s0 carry)
          ∙ over_routine s0 carry (length s0 - 1) in
          record {
            fits = fit;
            routine = top_is ∙ b0.routine;
            sound =
                sound_of p code input (over s0 carry) (frames_with_carry now0 c) fit.stand
                (laid_position p code input s0 carry alike.0.carry_rising alike.1 b0.stand.some b0.sound.position)
                (given_after p code lo s0 (over s0 carry) now0 (frames_with_carry now0 c) b0.stand fit b0.sound.given);
          };
    }
      where
        mark_kind : (v : Store) (now : List PlainFrame) (c : Carry machine_cell.Cell) → Left p code input (lo + 1) r marked0 v now
            → HasKind (frames_with_carry now c) inner slot.Mark
        mark_kind v now c left =
            let kinds : (last_frame (frames_with_carry now c)).kinds ≡ (last_frame now).kinds =
            ap (λ n. (get_or (frames_with_carry now c) (n - 1) picture.no_frame).kinds) (overlaid_count now c)
            ∙ (overlaid_form now c (length now - 1)).kinds in
            ap (λ ks. slice_get ks inner) kinds ∙ has_kind p code input r inner v now slot.Mark second_kind_is
            (begins p code input (lo + 1) r marked0 v now left)

        second_runs : (v : Store) (now : List PlainFrame) (c : Carry machine_cell.Cell) (carry : Carry store.Cell) (height : ℕ)
            → Left p code input (lo + 1) r marked0 v now → same c carry
            → Runs code input line (x + 2) y (top_written (frames_with_carry now c) inner (cell.Mark height)) (second_ways v now c height)
            (ev_stmts p input below body (over v carry)) q
        second_runs v now c carry height left alike =
            let u : Store = over v carry in
            let laid : List PlainFrame = frames_with_carry now c in
            let marked : List PlainFrame = top_written laid inner (cell.Mark height) in
            let bl : Begins p code input r u laid = begins_laid v now left c carry alike in
            let put : Left p code input inner r laid u marked =
            left_temp p code input inner r inner u laid (cell.Mark height) (omega arith) (omega (arith, own_lo, above)) bl in
            let bm : Begins p code input r u marked = begins p code input inner r laid u marked put in
            subst (λ n. Runs code input line (x + 2) n marked (second_ways v now c height) (ev_stmts p input below body u) q) (sym end)
            (runs_less code input line (x + 2) (x + 2 + length (stmts_code p tables r (x + 2) (inner + 1) body)) marked
            (staying (inner + 1) marked) (second_ways v now c height) (ev_stmts p input below body u) q
            (λ t z now2 after.
            let whole : Left p code input inner r laid t now2 =
            left_on p code input inner (inner + 1) r laid u t marked now2 (omega arith) put after in
            record {
              before = left;
              mark = holds_after p code input (inner + 1) r inner (cell.Mark height) u t marked now2 bm (omega (arith, own_lo, above))
                  (omega arith) after (holds_temp p code input r inner u laid (cell.Mark height) slot.Mark second_kind_is bl);
              outer_mark = holds_after p code input inner r lo (cell.Mark h) u t laid now2 bl own_lo above whole
                  (laid_holds v now left c carry alike);
              gained = λ other alike2.
                  let here : Alike p code inner v now c other = alike_here v now left c other alike2 in (
                    alike_moved p code inner v s0 now now0 (with_changes (diffs laid now2) c)
                        (with_changes (changes (over v other) t) other) (sym (long v now left))
                        (front_back p code s0 v now0 now (long v now left) (front v now left))
                        (gains p code inner v now c other left.fits.stand here t now2 whole.fits),
                    gained_position p code input (over v other) t other (begins_laid v now left c other alike2).stand.some
                        (begins_laid v now left c other alike2).sound.position whole.fits.stand.some whole.sound.position alike2.1,
                  );
            })
            (λ t n at now2 left2. left2)
            (runs stands u marked bm))

  -- FORALL: the runs of both parts, which hold no RETURN
  pub forall_from : (x y : Stmts) (lo at : ℕ) → HasSlots p code r lo (stmt_slots p r (Forall x y)) → StayingFor (lo + 1) (at + 1) x
      → StayingFor (behind_stmts p r (lo + 1) x + 1) (at + 1 + length (stmts_code p tables r (at + 1) (lo + 1) x) + 2) y
      → Stands code at (stmt_code p tables r line at lo (Forall x y)) → (v : Store) (now : List PlainFrame) → Begins p code input r v now
      → From p code input line 24 at (at + length (stmt_code p tables r line at lo (Forall x y))) now (staying lo now)
      (forall_row (ev_stmts p input below y) v [] (ev_stmts p input below x v)) q
  forall_from x y lo at slots first second stands v now b held s is =
      let inner : ℕ = behind_stmts p r (lo + 1) x in
      let xs : List SlotKind = stmts_slots p r x in
      let a : List LineInstr = stmts_code p tables r (at + 1) (lo + 1) x in
      let m : ℕ = at + 1 + length a in
      let d : List LineInstr = stmts_code p tables r (m + 2) (inner + 1) y in
      let n : ℕ = m + 2 + length d in
      let begin : List LineInstr = begin_each line lo inner (m + 2 + length d + 2) in
      let end : List LineInstr = end_each line lo inner in
      let parts : List LineInstr = a ++ (begin ++ (d ++ end)) in
      let part_long : length parts ≡ length a + (2 + (length d + 3)) = length-append a (begin ++ (d ++ end))
      ∙ ap (λ z. length a + z) (length-append begin (d ++ end) ∙ ap (λ z. 2 + z) (length-append d end)) in
      let all_long : length (stmt_code p tables r line at lo (Forall x y)) ≡ 1 + (length parts + 1) =
      (let z : suc (length (parts ++ own line (I.Finish ∷ []))) ≡ 1 + (length parts + 1) =
      omega (arith, length-append parts (own line (I.Finish ∷ []))) in z) in
      let out : at + 1 + length parts ≡ n + 3 = omega (arith, part_long) in
      let exit : n + 4 ≡ at + length (stmt_code p tables r line at lo (Forall x y)) = omega (arith, part_long, all_long) in
      let rest : Stands code (at + 1) (parts ++ own line (I.Finish ∷ [])) = stands.2 in
      let in_parts : Stands code (at + 1) parts = stands_front code (at + 1) parts (own line (I.Finish ∷ [])) rest in
      let finish : Stands code (at + 1 + length parts) (own line (I.Finish ∷ [])) =
      stands_back code (at + 1) parts (own line (I.Finish ∷ [])) rest in
      let first_there : Stands code (at + 1) a = stands_front code (at + 1) a (begin ++ (d ++ end)) in_parts in
      let behind_first : Stands code m (begin ++ (d ++ end)) = stands_back code (at + 1) a (begin ++ (d ++ end)) in_parts in
      let begin_there : Stands code m begin = stands_front code m begin (d ++ end) behind_first in
      let behind_begin : Stands code (m + 2) (d ++ end) = stands_back code m begin (d ++ end) behind_first in
      let second_there : Stands code (m + 2) d = stands_front code (m + 2) d end behind_begin in
      let end_there : Stands code n end = stands_back code (m + 2) d end behind_begin in
      let n2 : n + 1 + 1 ≡ n + 2 = omega arith in
      let is_code : ForallCode code input line m n lo inner = record {
        overlay = record { instr = begin_there.0; on_line = begin_there.1 };
        mark = record { instr = begin_there.2.0; on_line = begin_there.2.1 };
        cut = record { instr = end_there.0; on_line = end_there.1 };
        keep = record { instr = end_there.2.0; on_line = end_there.2.1 };
        fail = subst (λ k. InstrAt code input line k I.Fail) n2 (record { instr = end_there.2.2.0; on_line = end_there.2.2.1 });
        finish = subst (λ k. InstrAt code input line k I.Finish) out (record { instr = finish.0; on_line = finish.1 });
      } in
      let first_mark : slice_get (kinds_at code r) lo ≡ Some slot.Mark =
      first_kind p code input r lo slot.Mark (xs ++ (slot.Mark ∷ stmts_slots p r y)) slots in
      let behind_mark = slots_behind p code input r lo (slot.Mark ∷ []) (xs ++ (slot.Mark ∷ stmts_slots p r y)) slots in
      let second_mark : slice_get (kinds_at code r) inner ≡ Some slot.Mark =
      first_kind p code input r inner slot.Mark (stmts_slots p r y)
      (slots_behind p code input r (lo + 1) xs (slot.Mark ∷ stmts_slots p r y) behind_mark) in
      let above : lo < inner = omega arith in
      let h : ℕ = length held + 1 in
      let opens : InstrAt code input line at (I.Forall lo (n + 3)) =
      record { instr = stands.0 ∙ ap (λ k. Some (I.Forall lo k)) out; on_line = stands.1 } in
      let z = forall_step code input line at lo (n + 3) now held s is opens (has_kind p code input r lo v now slot.Mark first_mark b) in
      let made = parts_of lo inner h v now b slots.behind above first_mark second_mark m n 0 y refl second_there second in
      let w : Ways NoYield = staying lo now in
      subst (λ k. Goes code input line 0 24 (Leaves k w) held (forall_row (ev_stmts p input below y) v [] (ev_stmts p input below x v)) s 24
      q) exit
      (before code input line 0 24 (Leaves (n + 4) w) held (forall_row (ev_stmts p input below y) v [] (ev_stmts p input below x v)) s z.to
      1 24 8 q q z.silently (omega arith) (omega arith)
      (forall_goes code input line m n lo inner now held q v (same lo inner h v now b slots.behind above first_mark second_mark)
      (ev_stmts p input below y) (first_ways lo inner h v now b slots.behind above first_mark second_mark) w is_code made
      (ev_stmts p input below x v) [] [] z.to 8 q (omega arith)
      (nothing_alike p code inner v now, λ a e. absurd (let bad : None ≡ Some a = e in cc))
      (first first_there v (top_written now lo (cell.Mark h)) (begins_first lo inner h v now b slots.behind above first_mark second_mark) 8
      (omega arith) _ z.to z.is)))

  -- a list without RETURN, in words of lists
  stays : (lo at : ℕ) (x : Stmts) → ListRuns p tables code input below r line q false at lo x → StayingFor lo at x
  stays lo at x runs stands v now b =
      runs_less code input line at (at + length (stmts_code p tables r at lo x)) now (ending p code input false lo r now) (staying lo now)
      (ev_stmts p input below x v) q
      (λ u y t left. left) (λ u n a t h. let no : false ≡ true = h.0 in absurd (cc)) (runs stands v now b)

  pub forall_runs : (x y : Stmts) (at lo : ℕ) → HasSlots p code r lo (stmt_slots p r (Forall x y))
      → ListRuns p tables code input below r line q false (at + 1) (lo + 1) x
      → ListRuns p tables code input below r line q false (at + 1 + length (stmts_code p tables r (at + 1) (lo + 1) x) + 2)
      (behind_stmts p r (lo + 1) x + 1) y → StmtRuns p tables code input below r line q at lo (Forall x y)
  unfolding ev_stmts
  forall_runs x y at lo slots first second stands v now b =
      let made = stmt_code p tables r line at lo (Forall x y) in
      let e = forall_row (ev_stmts p input below y) v [] (ev_stmts p input below x v) in
      node_runs p code input line 24 (at) (at + length made) now (leaving p code input lo r now (Nothing p code input)) e q (omega arith)
      (from_less p code input line 24 at (at + length made) now (staying lo now) (leaving p code input lo r now (Nothing p code input)) e q
      (λ u z t left. (left, tt)) (λ u n a t h. h)
      (forall_from x y lo at slots (stays (lo + 1) (at + 1) x first)
      (stays (behind_stmts p r (lo + 1) x + 1) (at + 1 + length (stmts_code p tables r (at + 1) (lo + 1) x) + 2) y second) stands v now
      b))
