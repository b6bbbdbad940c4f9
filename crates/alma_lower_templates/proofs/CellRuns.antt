-- Several cells at once, from template to run: CopyCells and SameCells, each one step of the machine.
use Rattle.std.proofs.Common.{◌≡◌, ℕ, zero, suc, ◌+◌, ◌<◌, ◌≤◌, Bool, true, false, ◌&&◌, List, [], ◌∷◌, ◌++◌, length, get_or, Option, Some}
use Rattle.std.proofs.Common.{None, refl, sym, ap, ◌∙◌, subst, arith, ℤ, append-nil}
use Rattle.std.proofs.lemmas.List.{length-append, get_or_default}
use Rattle.alma_base.specs.Choice.{if_true}
use Rattle.alma_base.specs.declared.fault.RunFault.TheVariants as fault
use Rattle.alma_base.specs.Numbers.{int_eq, is_integer}
use Rattle.alma_code.specs.declared.cell.Cell.{Cell}
use Rattle.alma_code.specs.declared.cell.Cell.TheVariants as cell
use Rattle.alma_code.specs.declared.cell.CellPlace.{CellPlace}
use Rattle.alma_code.specs.declared.cell.SlotKind.TheVariants as slot
use Rattle.alma_code.specs.declared.instr.Instr.{Instr}
use Rattle.alma_code.specs.declared.instr.Instr.TheVariants as I
use Rattle.alma_code.specs.Lines.{line_at}
use Rattle.alma_code.specs.Carries.{number_at}
use Rattle.alma_code.specs.Picture.{PlainFrame, PlainEntry, cell_at, frames_with_cell}
use Rattle.alma_code.specs.Picture as picture
use Rattle.alma_code.specs.Plain.{PlainCode}
use Rattle.alma_code.specs.Machine.{State, StepResult, Failing, act, step, quiet_step, ends_in_fault, fails_now, gets_stuck, with_cell}
use Rattle.alma_code.specs.Machine.{as_content, place, content, store, equation_of_contents, equations, copies_cells}
use Rattle.alma_ir.specs.Tree.{Program, Desig, CopyCells, SameCells}
use Rattle.alma_ir.specs.Checked.{desig_cells}
use Rattle.alma_mean.specs.Store.{Store, Place, Unknown, Number, put, put_all, cells_from, cell_of}
use Rattle.alma_mean.specs.Store as store_of
use Rattle.alma_mean.specs.Events.{Events, NoYield, Fail, Fault, one, join, bind, node}
use Rattle.alma_mean.specs.Rows.{match_cell, match_cells, copy_cells, succeed_if}
use Rattle.alma_mean.specs.Meaning.{Level, ev_expr, ev_desig}
use Rattle.alma_lower_implements.specs.Implements.{line_in}
use Rattle.alma_lower_implements.proofs.Frames.{shift_in, own_end, IsAt, AreNumbers, SamePlace, SameContent}
use Rattle.alma_lower_implements.proofs.FrameLemmas.{content_there, numbers_kept, place_kept}
use Rattle.alma_lower_implements.proofs.Carrying.{kind_in, number_content}
use Rattle.alma_lower_implements.proofs.Steps.{InstrAt, passed, does, went_on, place_is, here_too}
use Rattle.alma_lower_templates.specs.LineInstr.{LineInstr, own, in_row}
use Rattle.alma_lower_templates.specs.Tables.{Tables}
use Rattle.alma_lower_templates.specs.Slots.{behind_desig}
use Rattle.alma_lower_templates.specs.Templates.{held_at}
use Rattle.alma_lower_templates.proofs.Stands.{stands_front, stands_back}
use Rattle.alma_lower_templates.proofs.Parts.{Begins, begins, Left, left_self, left_on, place_after, IsPlace, PlaceIn, Nothing, NodeRuns}
use Rattle.alma_lower_templates.proofs.Parts.{NodeFor, From, leaving, from_more, node_runs, then_from, step_from, faults_here, fails_here}
use Rattle.alma_lower_templates.proofs.Parts.{ends_here}
use Rattle.alma_lower_templates.proofs.CellEnds.{CellIs, is_number, is_unknown, cell_there}
use Rattle.alma_lower_templates.proofs.CellsMoved.{left_cell}
use Rattle.alma_lower_templates.proofs.Targets.{left_put}
use Rattle.alma_lower_templates.proofs.FormRuns.{held_code, HeldRuns, TestRuns, StmtRuns}

module _ (p : Program) (code : PlainCode) (input : List ℕ) where
  -- so many cells of a frame, in the store and in the machine
  abbrev cells : (frame slot size : ℕ) → Place
  cells f i n = record { frame = f; slot = i; size = n }

  abbrev slots : (frame slot size : ℕ) → CellPlace
  slots f m n = record { frame = f; slot = m; len = n }

  -- all but the first
  numbers_next : (f i j n : ℕ) (v : Store) (now : List PlainFrame) → j ≡ suc i → AreNumbers p code v now (cells f i (suc n))
      → AreNumbers p code v now (cells f j n)
  numbers_next f i j n v now e h = record {
    frame = h.frame;
    cells = λ k lt. omega (arith, h.cells (suc k) (omega (arith, lt)), e);
    kinds = λ k lt. (let same : j + k ≡ i + suc k = omega (arith, e) in
        ap (λ x. get_or (get_or now f picture.no_frame).kinds (shift_in p v f + x) slot.Mark) same ∙ h.kinds (suc k) (omega (arith, lt)));
    free = λ at_zero. omega (arith, h.free at_zero, e);
  }

  first_kind_is : (f i n : ℕ) (v : Store) (now : List PlainFrame) → AreNumbers p code v now (cells f i (suc n))
      → kind_in p code v now f i ≡ slot.Number
  first_kind_is f i n v now h = (let zero_on : i ≡ i + 0 = omega arith in
      ap (λ x. get_or (get_or now f picture.no_frame).kinds (shift_in p v f + x) slot.Mark) zero_on ∙ h.kinds 0 (omega arith))

  first_within : (f i n : ℕ) (v : Store) (now : List PlainFrame) → AreNumbers p code v now (cells f i (suc n))
      → i < length (get_or v f store_of.no_frame).cells
  first_within f i n v now h = omega (arith, h.cells 0 (omega arith))

  same_at : (f i m n : ℕ) (v : Store) → shift_in p v f + i ≡ m → SamePlace p v (cells f i n) (slots f m n)
  same_at f i m n v e = record { frame = refl; slot = e; size = refl }

  -- ---- cells that are copied

  copied_goes : (n lo r f i g j m s : ℕ) (v : Store) (before : List PlainFrame) (w : Store) (now : List PlainFrame) → own_end p r ≤ lo
      → Begins p code input r v before → Left p code input lo r before w now
      → AreNumbers p code v before (cells f i n) → AreNumbers p code v before (cells g j n) → shift_in p v f + i ≡ m
      → shift_in p v g + j ≡ s
      → (t : List PlainFrame) × ((x : State) → x.now ≡ now → copies_cells n before x f m g s ≡ quiet_step (record x { now = t }))
      × Left p code input lo r before (put_all w f i (cells_from v g j n)) t
  copied_goes zero lo r f i g j m s v before w now behind b left to from at_to at_from =
      (now, (λ x e. ap (λ z. quiet_step (record x { now = z })) e), left)
  copied_goes (suc n) lo r f i g j m s v before w now behind b left to from at_to at_from =
      let a : store_of.Cell = store_of.cell_at v g j in
      let c : Cell = cell_at before g s cell.Unknown in
      let there = content_there p code v before (cells g j (suc n)) (slots g s (suc n)) b.stand from (omega arith)
      (same_at g j s (suc n) v at_from) in
      let frame = b.stand.frames g from.frame in
      let within : s < length (get_or before g picture.no_frame).cells =
      omega (arith, first_within g j n v before from, frame.within, at_from) in
      let default : cell_at before g s cell.Unset ≡ c =
      get_or_default (get_or before g picture.no_frame).cells s cell.Unset cell.Unknown within in
      let content : SameContent p v slot.Number a c = subst (SameContent p v slot.Number a) default there.1 in
      let to_w = numbers_kept p code lo (cells f i (suc n)) v w before now b.stand left.fits to in
      let same_w = place_kept p code lo (cells f i (suc n)) (slots f m (suc n)) v w before now to.frame b.stand left.fits
      (same_at f i m (suc n) v at_to) in
      let there_w = content_there p code w now (cells f i (suc n)) (slots f m (suc n)) left.fits.stand to_w (omega arith) same_w in
      let bw = begins p code input lo r before w now left in
      let made = left_cell p code input lo r f i a c w now bw to_w.frame (first_within f i n w now to_w) (first_kind_is f i n w now to_w)
      (number_content p code v w a c content) to_w.free in
      let w1 : Store = put w f i a in
      let t1 : List PlainFrame = frames_with_cell now f m c in
      let left1 : Left p code input lo r now w1 t1 =
      subst (λ x. Left p code input lo r now w1 (frames_with_cell now f x c)) same_w.slot made in
      let rest = copied_goes n lo r f (suc i) g (suc j) (suc m) (suc s) v before w1 t1 behind b
      (left_on p code input lo lo r before w w1 now t1 (omega arith) left left1) (numbers_next f i (suc i) n v before refl to)
      (numbers_next g j (suc j) n v before refl from) (omega (arith, at_to)) (omega (arith, at_from)) in (
        rest.0,
        (λ x e.
            ap (λ z. if_true (number_at z f m && number_at before g s) (λ _. copies_cells n before (with_cell x f m c) f (suc m) g (suc s))
            (λ _. gets_stuck x)) e
            ∙ ap (λ t. if_true (t && number_at before g s) (λ _. copies_cells n before (with_cell x f m c) f (suc m) g (suc s))
            (λ _. gets_stuck x)) there_w.0
            ∙ ap (λ t. if_true t (λ _. copies_cells n before (with_cell x f m c) f (suc m) g (suc s)) (λ _. gets_stuck x)) there.0
            ∙ rest.1 (with_cell x f m c) (ap (λ z. frames_with_cell z f m c) e)),
        rest.2,
      )

  -- ---- cells that meet

  -- what a step comes to that begins with the frames `now`, in words of the events of its phrase
  data Outcome (lo r : ℕ) (before now : List PlainFrame) (run : State → StepResult) : Events NoYield → Type 0 where
    passes : (w : Store) (t : List PlainFrame) → ((x : State) → x.now ≡ now → run x ≡ quiet_step (record x { now = t }))
        → Left p code input lo r before w t → Outcome lo r before now run (one w tt)
    fails : ((x : State) → x.now ≡ now → (t : List PlainFrame) × (run x ≡ fails_now (record x { now = t })))
        → Outcome lo r before now run Fail
    faults : ((x : State) → x.now ≡ now → (t : List PlainFrame) × (run x ≡ ends_in_fault fault.Unknown (record x { now = t })))
        → Outcome lo r before now run (Fault fault.Unknown 0)

  -- nothing behind it
  alone : (lo r : ℕ) (before now : List PlainFrame) (run : State → StepResult) (e : Events NoYield) → Outcome lo r before now run e
      → Outcome lo r before now run (join e Fail)
  alone lo r before now run e (passes w t goes left) = passes w t goes left
  alone lo r before now run e (fails goes) = fails goes
  alone lo r before now run e (faults goes) = faults goes

  -- a step that begins as another goes on
  goes_as : (lo r : ℕ) (before now : List PlainFrame) (run run2 : State → StepResult) (e : Events NoYield)
      → ((x : State) → x.now ≡ now → run x ≡ run2 x) → Outcome lo r before now run2 e → Outcome lo r before now run e
  goes_as lo r before now run run2 e same (passes w t goes left) = passes w t (λ x is. same x is ∙ goes x is) left
  goes_as lo r before now run run2 e same (fails goes) = fails (λ x is. ((goes x is).0, same x is ∙ (goes x is).1))
  goes_as lo r before now run run2 e same (faults goes) = faults (λ x is. ((goes x is).0, same x is ∙ (goes x is).1))

  -- and one that begins by a write
  goes_by : (lo r f m : ℕ) (c : Cell) (v : Store) (before now : List PlainFrame) (run run2 : State → StepResult) (e : Events NoYield)
      → ((x : State) → x.now ≡ now → run x ≡ run2 (with_cell x f m c)) → Left p code input lo r before v (frames_with_cell now f m c)
      → Outcome lo r (frames_with_cell now f m c) (frames_with_cell now f m c) run2 e → Outcome lo r before now run e
  goes_by lo r f m c v before now run run2 e same left (passes w t goes left2) =
      passes w t (λ x is. same x is ∙ goes (with_cell x f m c) (ap (λ z. frames_with_cell z f m c) is))
      (left_on p code input lo lo r before v w (frames_with_cell now f m c) t (omega arith) left left2)
  goes_by lo r f m c v before now run run2 e same left (fails goes) =
      fails (λ x is. (let z = goes (with_cell x f m c) (ap (λ z. frames_with_cell z f m c) is) in (z.0, same x is ∙ z.1)))
  goes_by lo r f m c v before now run run2 e same left (faults goes) =
      faults (λ x is. (let z = goes (with_cell x f m c) (ap (λ z. frames_with_cell z f m c) is) in (z.0, same x is ∙ z.1)))

  content_of : (x : State) (now : List PlainFrame) (f m : ℕ) (c : Cell) (k : Option ℤ → StepResult) → x.now ≡ now → number_at now f m ≡ true
      → cell_at now f m cell.Unset ≡ c → content x f m k ≡ as_content true c x k
  content_of x now f m c k e live is =
      ap (λ z. as_content (number_at z f m) (cell_at z f m cell.Unset) x k) e ∙ ap (λ t. as_content t (cell_at now f m cell.Unset) x k) live
      ∙ ap (λ d. as_content true d x k) is

  stored : (x : State) (now : List PlainFrame) (f m : ℕ) (n : ℤ) (k : State → StepResult) → x.now ≡ now → number_at now f m ≡ true
      → store x f m n k ≡ k (with_cell x f m (cell.Int n))
  stored x now f m n k e live =
      ap (λ z. if_true (number_at z f m) (λ _. k (with_cell x f m (cell.Int n))) (λ _. gets_stuck x)) e
      ∙ ap (λ t. if_true t (λ _. k (with_cell x f m (cell.Int n))) (λ _. gets_stuck x)) live

  matched_goes : (n lo r f i g j m s : ℕ) (v : Store) (now : List PlainFrame) → own_end p r ≤ lo → Begins p code input r v now
      → AreNumbers p code v now (cells f i n) → AreNumbers p code v now (cells g j n) → shift_in p v f + i ≡ m → shift_in p v g + j ≡ s
      → Outcome lo r now now (λ x. equations n x f m g s) (match_cells n v (cells f i n) (cells g j n))
  matched_goes zero lo r f i g j m s v now behind b first second at_first at_second =
      passes v now (λ x e. ap (λ z. quiet_step (record x { now = z })) e) (left_self p code input lo r v now b)
  matched_goes (suc n) lo r f i g j m s v now behind b first second at_first at_second =
      by (cell_there p code input v (cells f i (suc n)) now (slots f m (suc n)) b.stand first (omega arith)
      (same_at f i m (suc n) v at_first)) (cell_there p code input v (cells g j (suc n)) now (slots g s (suc n)) b.stand second
      (omega arith) (same_at g j s (suc n) v at_second))
      (λ w t left. matched_goes n lo r f (i + 1) g (j + 1) (suc m) (suc s) w t behind (begins p code input lo r now w t left)
      (numbers_kept p code lo (cells f (i + 1) n) v w now t b.stand left.fits (numbers_next f i (i + 1) n v now (omega arith) first))
      (numbers_kept p code lo (cells g (j + 1) n) v w now t b.stand left.fits (numbers_next g j (j + 1) n v now (omega arith) second))
      (moved w t left f i m (suc n) first.frame at_first) (moved w t left g j s (suc n) second.frame at_second))
    where
      moved : (w : Store) (t : List PlainFrame) → Left p code input lo r now w t → (h k l size : ℕ) → h < length v → shift_in p v h + k ≡ l
          → shift_in p w h + (k + 1) ≡ suc l
      moved w t left h k l size live e = omega
          (arith, (place_kept p code lo (cells h k size) (slots h l size) v w now t live b.stand left.fits (same_at h k l size v e)).slot)

      rest : State → StepResult
      rest x = equations n x f (suc m) g (suc s)

      next : Store → Events NoYield
      next t = match_cells n t (cells f (i + 1) n) (cells g (j + 1) n)

      runs : (x : State) (c d : Cell) → x.now ≡ now → number_at now f m ≡ true → cell_at now f m cell.Unset ≡ c → number_at now g s ≡ true
          → cell_at now g s cell.Unset ≡ d
          → equations (suc n) x f m g s ≡ as_content true c x
          (λ u. as_content true d x (λ w. equation_of_contents x f m None u g s None w rest))
      runs x c d e live is live' is' =
          content_of x now f m c (λ u. content x g s (λ w. equation_of_contents x f m None u g s None w rest)) e live is ∙ inner c
        where
          inner : (z : Cell) → as_content true z x (λ u. content x g s (λ w. equation_of_contents x f m None u g s None w rest))
              ≡ as_content true z x (λ u. as_content true d x (λ w. equation_of_contents x f m None u g s None w rest))
          inner (cell.Int z) = content_of x now g s d (λ w. equation_of_contents x f m None (Some z) g s None w rest) e live' is'
          inner cell.Unknown = content_of x now g s d (λ w. equation_of_contents x f m None None g s None w rest) e live' is'
          inner cell.Unset = refl
          inner (cell.Place z) = refl
          inner (cell.Mark z) = refl

      Goal : store_of.Cell → store_of.Cell → Type 0
      Goal x y = Outcome lo r now now (λ z. equations (suc n) z f m g s) (match_cell v (cells f i (suc n)) x (cells g j (suc n)) y next)

      put_left : (h k l : ℕ) (x : ℤ) → AreNumbers p code v now (cells h k (suc n)) → shift_in p v h + k ≡ l → is_integer x ≡ true
          → Left p code input lo r now (put v h k (Number x)) (frames_with_cell now h l (cell.Int x))
      put_left h k l x numbers e integer =
          subst (λ z. Left p code input lo r now (put v h k (Number x)) (frames_with_cell now h z (cell.Int x))) e
          (left_put p code input lo r h k x v now numbers.frame (first_within h k n v now numbers) (first_kind_is h k n v now numbers)
          integer numbers.free b)

      decided : (t : Bool) (x y : ℤ) → int_eq x y ≡ t
          → ((z : State) → z.now ≡ now → equations (suc n) z f m g s ≡ if_true (int_eq x y) (λ _. rest z) (λ _. fails_now z))
          → Outcome lo r now now rest (next v)
          → Outcome lo r now now (λ z. equations (suc n) z f m g s) (bind (succeed_if v t) (λ u _. next u))
      decided true x y e goes later =
          goes_as lo r now now (λ z. equations (suc n) z f m g s) rest (join (next v) Fail)
          (λ z is. goes z is ∙ ap (λ t. if_true t (λ _. rest z) (λ _. fails_now z)) e) (alone lo r now now rest (next v) later)
      decided false x y e goes later =
          fails (λ z is. (
            now,
            goes z is ∙ ap (λ t. if_true t (λ _. rest z) (λ _. fails_now z)) e
                ∙ ap (λ y. fails_now (record z { now = y })) is,
          ))

      by : CellIs p code input v (cells f i (suc n)) now (slots f m (suc n))
          → CellIs p code input v (cells g j (suc n)) now (slots g s (suc n))
          → ((w : Store) (t : List PlainFrame) → Left p code input lo r now w t → Outcome lo r t t rest (next w))
          → Goal (cell_of v (cells f i (suc n))) (cell_of v (cells g j (suc n)))
      by (is_number x e live is integer) (is_number y e' live' is' integer') later =
          subst (λ c. Goal c (cell_of v (cells g j (suc n)))) (sym e) (subst (λ c. Goal (Number x) c) (sym e')
          (decided (int_eq x y) x y refl (λ z at_now. runs z (cell.Int x) (cell.Int y) at_now live is live' is')
          (later v now (left_self p code input lo r v now b))))
      by (is_number x e live is integer) (is_unknown e' live' is') later =
          subst (λ c. Goal c (cell_of v (cells g j (suc n)))) (sym e) (subst (λ c. Goal (Number x) c) (sym e')
          (let left = put_left g j s x second at_second integer in
          goes_by lo r g s (cell.Int x) (put v g j (Number x)) now now (λ z. equations (suc n) z f m g s) rest (next (put v g j (Number x)))
          (λ z at_now. runs z (cell.Int x) cell.Unknown at_now live is live' is' ∙ stored z now g s x rest at_now live') left
          (later (put v g j (Number x)) (frames_with_cell now g s (cell.Int x)) left)))
      by (is_unknown e live is) (is_number y e' live' is' integer') later =
          subst (λ c. Goal c (cell_of v (cells g j (suc n)))) (sym e) (subst (λ c. Goal Unknown c) (sym e')
          (let left = put_left f i m y first at_first integer' in
          goes_by lo r f m (cell.Int y) (put v f i (Number y)) now now (λ z. equations (suc n) z f m g s) rest (next (put v f i (Number y)))
          (λ z at_now. runs z cell.Unknown (cell.Int y) at_now live is live' is' ∙ stored z now f m y rest at_now live) left
          (later (put v f i (Number y)) (frames_with_cell now f m (cell.Int y)) left)))
      by (is_unknown e live is) (is_unknown e' live' is') later =
          subst (λ c. Goal c (cell_of v (cells g j (suc n)))) (sym e) (subst (λ c. Goal Unknown c) (sym e')
          (faults (λ z at_now. (
            now,
            runs z cell.Unknown cell.Unknown at_now live is live' is'
                ∙ ap (λ y. ends_in_fault fault.Unknown (record z { now = y })) at_now,
          ))))

module _ (p : Program) (tables : Tables) (code : PlainCode) (input : List ℕ) (below : Level) (r line q : ℕ) where
  -- ---- steps at two places

  abbrev Ends : (at lo : ℕ) → Store → List PlainFrame → Events NoYield → Type 0
  Ends at lo v now e = From p code input line 8 at (at + 1) now (leaving p code input lo r now (Nothing p code input)) e q

  pub passes_with : (at lo : ℕ) (v w : Store) (now t : List PlainFrame) → own_end p r ≤ lo → Begins p code input r v now
      → Left p code input lo r now w t → ((held : List PlainEntry) (s : State) → IsAt at now held s
      → step code input s ≡ quiet_step (record (passed code input s) { now = t })) → Ends at lo v now (one w tt)
  passes_with at lo v w now t behind b left steps =
      step_from p code input line 7 at (at + 1) (at + 1) lo r w now t (Nothing p code input) (one w tt) q behind
      (λ held s is. record {
        to = record (passed code input s) { now = t };
        silently =
            went_on code input s (record (passed code input s) { now = t }) (steps held s is);
        is =
            record { mode = is.mode; here = ap (λ n. n + 1) is.here; frames = refl; entries = is.entries };
      }) left
      (ends_here p code input line 7 (at + 1) lo r w t (Nothing p code input) tt q (begins p code input lo r now w t left) tt)

  outcome_ends : (at lo : ℕ) (v : Store) (now : List PlainFrame) (run : State → StepResult) (e : Events NoYield) → own_end p r ≤ lo
      → Begins p code input r v now → line_at code at ≡ line
      → ((held : List PlainEntry) (s : State) → IsAt at now held s → step code input s ≡ run (passed code input s))
      → Outcome p code input lo r now now run e → Ends at lo v now e
  outcome_ends at lo v now run e behind b there steps (passes w t goes left) =
      passes_with at lo v w now t behind b left (λ held s is. steps held s is ∙ goes (passed code input s) is.frames)
  outcome_ends at lo v now run e behind b there steps (fails goes) =
      fails_here p code input line 7 at (at + 1) now (leaving p code input lo r now (Nothing p code input)) q
      (λ held s is.
      let z = goes (passed code input s) is.frames in
      let to : State = record (passed code input s) { now = z.0; mode = Failing } in
      (to, went_on code input s to (steps held s is ∙ z.1), record { mode = refl; entries = is.entries }))
  outcome_ends at lo v now run e behind b there steps (faults goes) =
      faults_here p code input line 7 at (at + 1) now (leaving p code input lo r now (Nothing p code input)) fault.Unknown q
      (λ held s is.
      let z = goes (passed code input s) is.frames in
      let e2 : step code input s ≡ ends_in_fault fault.Unknown (record (passed code input s) { now = z.0 }) = steps held s is ∙ z.1 in
      record {
        to = (step code input s).state;
        silently = record { steps = refl; silent = append-nil (step code input s).printed ∙ ap (λ x. x.printed) e2 };
        is = ap (λ x. x.state.mode) e2;
        on_line = ap (λ x. line_in code x.state) e2 ∙ here_too code input line at now held s is there;
      })

  -- cells of two places of equal size
  both_long : (a b size : ℕ) (v : Store) (now : List PlainFrame) (m k : Place) → IsPlace p code input a size v m now
      → IsPlace p code input b size v k now → m.size ≡ k.size
  both_long a b size v now m k h h2 = h.sized ∙ sym h2.sized

  copy_ends : (at lo a b size : ℕ) (v : Store) (now : List PlainFrame) (m k : Place) → own_end p r ≤ lo → Begins p code input r v now
      → IsPlace p code input a size v m now → IsPlace p code input b size v k now → InstrAt code input line at (I.CopyCells a b)
      → Ends at lo v now (one (copy_cells v m k) tt)
  unfolding act
  copy_ends at lo a b size v now m k behind begun h h2 i =
      let to : AreNumbers p code v now (cells p code input m.frame m.slot k.size) =
      subst (λ n. AreNumbers p code v now (cells p code input m.frame m.slot n)) (both_long a b size v now m k h h2) h.numbers in
      let goes = copied_goes p code input k.size lo r m.frame m.slot k.frame k.slot h.place.slot h2.place.slot v now v now behind begun
      (left_self p code input lo r v now begun) to h2.numbers h.same.slot h2.same.slot in
      let long : h.place.len ≡ k.size = sym h.same.size ∙ both_long a b size v now m k h h2 in
      passes_with at lo v (copy_cells v m k) now goes.0 behind begun goes.2
      (λ held s is.
      let here : State = passed code input s in
      does code input line at now held s (I.CopyCells a b) is i
      ∙ place_is code input now here a h.place (λ c. place here b (λ d. copies_cells c.len here.now here c.frame c.slot d.frame d.slot))
      is.frames h.holds
      ∙ place_is code input now here b h2.place (λ d. copies_cells h.place.len here.now here h.place.frame h.place.slot d.frame d.slot)
      is.frames h2.holds
      ∙ ap (λ z. copies_cells h.place.len z here h.place.frame h.place.slot h2.place.frame h2.place.slot) is.frames
      ∙ ap (λ n. copies_cells n now here h.place.frame h.place.slot h2.place.frame h2.place.slot) long
      ∙ ap (λ f. copies_cells k.size now here f h.place.slot h2.place.frame h2.place.slot) (sym h.same.frame)
      ∙ ap (λ f. copies_cells k.size now here m.frame h.place.slot f h2.place.slot) (sym h2.same.frame) ∙ goes.1 here is.frames)

  match_ends : (at lo a b size : ℕ) (v : Store) (now : List PlainFrame) (m k : Place) → own_end p r ≤ lo → Begins p code input r v now
      → IsPlace p code input a size v m now → IsPlace p code input b size v k now → InstrAt code input line at (I.SameCells a b)
      → Ends at lo v now (match_cells m.size v m k)
  unfolding act
  match_ends at lo a b size v now m k behind begun h h2 i =
      let from : AreNumbers p code v now (cells p code input k.frame k.slot m.size) =
      subst (λ n. AreNumbers p code v now (cells p code input k.frame k.slot n)) (sym (both_long a b size v now m k h h2)) h2.numbers in
      let same : record { frame = k.frame; slot = k.slot; size = m.size } ≡ k =
      ap (λ n. record { frame = k.frame; slot = k.slot; size = n }) (both_long a b size v now m k h h2) in
      subst (λ z. Ends at lo v now (match_cells m.size v m z)) same
      (outcome_ends at lo v now (λ x. equations m.size x m.frame h.place.slot k.frame h2.place.slot)
      (match_cells m.size v m (cells p code input k.frame k.slot m.size)) behind begun i.on_line
      (λ held s is.
      let here : State = passed code input s in
      does code input line at now held s (I.SameCells a b) is i
      ∙ place_is code input now here a h.place (λ c. place here b (λ d. equations c.len here c.frame c.slot d.frame d.slot)) is.frames
      h.holds
      ∙ place_is code input now here b h2.place (λ d. equations h.place.len here h.place.frame h.place.slot d.frame d.slot) is.frames
      h2.holds
      ∙ ap (λ n. equations n here h.place.frame h.place.slot h2.place.frame h2.place.slot) (sym h.same.size)
      ∙ ap (λ f. equations m.size here f h.place.slot h2.place.frame h2.place.slot) (sym h.same.frame)
      ∙ ap (λ f. equations m.size here m.frame h.place.slot f h2.place.slot) (sym h2.same.frame))
      (matched_goes p code input m.size lo r m.frame m.slot k.frame k.slot h.place.slot h2.place.slot v now behind begun h.numbers from
      h.same.slot h2.same.slot))

  -- ---- two designators, and an instruction

  pair_runs : (at lo : ℕ) (d e : Desig) (i : Instr) (last : Store → Place → Place → Events NoYield) → own_end p r ≤ lo
      → HeldRuns p tables code input below r line q at lo d
      → ((next : ℕ) → HeldRuns p tables code input below r line q next (behind_desig p r lo d) e)
      → ((m : ℕ) (u : Store) (t : List PlainFrame) (k l : Place) → Begins p code input r u t
      → IsPlace p code input (held_at p tables r lo d) (desig_cells d) u k t
      → IsPlace p code input (held_at p tables r (behind_desig p r lo d) e) (desig_cells e) u l t → InstrAt code input line m i
      → Ends m lo u t (last u k l))
      → NodeFor p code input r line at lo (in_row at (held_code p tables r line at lo d)
      (λ next. held_code p tables r line next (behind_desig p r lo d) e) ++ own line (i ∷ []))
      (λ v. node (bind (ev_desig p input below d v) (λ t k. bind (ev_desig p input below e t) (λ u l. last u k l)))) (Nothing p code input)
      q
  pair_runs at lo d e i last behind runs others ends stands v now b =
      let a : ℕ = held_at p tables r lo d in
      let la : ℕ = behind_desig p r lo d in
      let c : ℕ = held_at p tables r la e in
      let first : List LineInstr = held_code p tables r line at lo d in
      let m : ℕ = at + length first in
      let second : List LineInstr = held_code p tables r line m la e in
      let front = stands_front code at (first ++ second) (own line (i ∷ [])) stands in
      let back = stands_back code at (first ++ second) (own line (i ∷ [])) stands in
      let both : length (first ++ second) ≡ length first + length second = length-append first second in
      let whole : length ((first ++ second) ++ own line (i ∷ [])) ≡ length (first ++ second) + 1 =
      length-append (first ++ second) (own line (i ∷ [])) in
      let m2 : ℕ = m + length second in
      let here : at + length (first ++ second) ≡ m2 = omega (arith, both) in
      let there : InstrAt code input line m2 i =
      subst (λ n. InstrAt code input line n i) here (record { instr = back.0; on_line = back.1 }) in
      let end : m2 + 1 ≡ at + length ((first ++ second) ++ own line (i ∷ [])) = omega (arith, both, whole) in
      let w = leaving p code input lo r now (Nothing p code input) in
      let whole_events : Events NoYield = bind (ev_desig p input below d v) (λ t k. bind (ev_desig p input below e t) (λ u l. last u k l))
      in
      subst (λ n. NodeRuns p code input line at n now w (node whole_events) q) end
      (node_runs p code input line 0 at (m2 + 1) now w whole_events q (omega arith)
      (then_from p code input line at m (m2 + 1) lo lo r now (PlaceIn p code input a (desig_cells d)) (Nothing p code input)
      (ev_desig p input below d v) (λ t k. bind (ev_desig p input below e t) (λ u l. last u k l)) q (omega arith) behind
      (runs.runs (stands_front code at first second front) v now b)
      (λ u k t left place.
      let b1 = begins p code input lo r now u t left in
      from_more p code input line 0 8 m (m2 + 1) t (leaving p code input lo r t (Nothing p code input))
      (bind (ev_desig p input below e u) (λ u2 l. last u2 k l)) q (omega arith)
      (then_from p code input line m m2 (m2 + 1) lo la r t (PlaceIn p code input c (desig_cells e)) (Nothing p code input)
      (ev_desig p input below e u) (λ u2 l. last u2 k l) q (omega arith) behind
      ((others m).runs (stands_back code at first second front) u t b1)
      (λ u2 l t2 left2 place2.
      ends m2 u2 t2 k l (begins p code input la r t u2 t2 left2)
      (place_after p code input la r a (desig_cells d) k u u2 t t2 b1 (omega (arith, behind)) runs.within left2 place) place2
      there)))))

  pub copy_runs : (at lo : ℕ) (d e : Desig) → own_end p r ≤ lo → desig_cells d ≡ desig_cells e
      → HeldRuns p tables code input below r line q at lo d
      → ((next : ℕ) → HeldRuns p tables code input below r line q next (behind_desig p r lo d) e)
      → StmtRuns p tables code input below r line q at lo (CopyCells d e)
  unfolding ev_expr
  copy_runs at lo d e behind long runs others =
      pair_runs at lo d e (I.CopyCells (held_at p tables r lo d) (held_at p tables r (behind_desig p r lo d) e))
      (λ u k l. one (copy_cells u k l) tt) behind runs others
      (λ m u t k l b h h2 i. copy_ends m lo (held_at p tables r lo d) (held_at p tables r (behind_desig p r lo d) e) (desig_cells e) u t k
      l behind b (subst (λ n. IsPlace p code input (held_at p tables r lo d) n u k t) long h) h2 i)

  pub match_runs : (at lo : ℕ) (d e : Desig) → own_end p r ≤ lo → desig_cells d ≡ desig_cells e
      → HeldRuns p tables code input below r line q at lo d
      → ((next : ℕ) → HeldRuns p tables code input below r line q next (behind_desig p r lo d) e)
      → TestRuns p tables code input below r line q at lo (SameCells d e)
  unfolding ev_expr
  match_runs at lo d e behind long runs others =
      pair_runs at lo d e (I.SameCells (held_at p tables r lo d) (held_at p tables r (behind_desig p r lo d) e))
      (λ u k l. match_cells k.size u k l) behind runs others
      (λ m u t k l b h h2 i. match_ends m lo (held_at p tables r lo d) (held_at p tables r (behind_desig p r lo d) e) (desig_cells e) u t
      k l behind b (subst (λ n. IsPlace p code input (held_at p tables r lo d) n u k t) long h) h2 i)
