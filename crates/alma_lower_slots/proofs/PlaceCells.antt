-- Cells at places are read, equated, copied and written in two states that are alike.
use Rattle.std.proofs.Common.{◌≡◌, ℕ, zero, suc, ◌+◌, ◌<◌, List, [], length, refl, sym, ap, ◌∙◌, subst, arith, Option, Some, None}
use Rattle.std.specs.Prelude.{ℤ, pos, ◌&&◌}
use Rattle.alma_base.specs.Choice.{if_true}
use Rattle.alma_base.specs.Numbers.{int_eq}
use Rattle.alma_base.specs.declared.fault.RunFault.TheVariants as fault
use Rattle.alma_base.specs.declared.number.Range.{Range}
use Rattle.alma_base.specs.declared.number.ReadInt.{ReadInt}
use Rattle.alma_base.specs.declared.number.ReadInt.TheVariants.{Number, NoNumber, TooLarge}
use Rattle.alma_code.specs.declared.cell.Cell.{Cell}
use Rattle.alma_code.specs.declared.cell.Cell.TheVariants as cell
use Rattle.alma_code.specs.declared.cell.CellPlace.{CellPlace}
use Rattle.alma_code.specs.declared.instr.Instr.{Instr}
use Rattle.alma_code.specs.declared.step.Step.TheVariants as answer
use Rattle.alma_code.specs.Carries.{number_at}
use Rattle.alma_code.specs.Picture.{PlainFrame, cell_at}
use Rattle.alma_code.specs.Plain.{PlainCode}
use Rattle.alma_code.specs.Fits.{routines_of}
use Rattle.alma_code.specs.Machine.{State, StepResult, quiet_step, fails_now, gets_stuck, with_cell, content, store, binds_content}
use Rattle.alma_code.specs.Machine.{equation_of_contents, equation, equations, copies_cells, take_input, takes_read, byte_or_failure}
use Rattle.alma_code_laws.proofs.Writes.{written-routines}
use Rattle.alma_code_laws.proofs.Ready.{content_any}
use Rattle.alma_code_laws.proofs.Acts.{same_length}
use Rattle.alma_lower_slots.specs.Slots.{target_slot}
use Rattle.alma_lower_slots.specs.Sharing.{Sharing}
use Rattle.alma_lower_slots.proofs.Alike.{AlikeStep, Doing}
use Rattle.alma_lower_slots.proofs.Settles.{Shared, stuck_alike, fault_alike, fails_alike, if_alike, settle}
use Rattle.alma_lower_slots.proofs.OwnSlots.{OwnCell, IsOwn, one_own, number_alike_at, cell_alike_at, content_alike, cell_doing}
use Rattle.alma_lower_slots.proofs.OwnSlots.{store_alike, position_own}
use Rattle.alma_lower_slots.proofs.NamedSlots.{ranged_alike, ranged_if_alike}

-- an own number slot of a live frame that is not the input position
pub record OwnFree (code : PlainCode) (s : Sharing) (frames : List PlainFrame) (f n : ℕ) : Type 0 where
  pub live : f < length frames
  pub own : OwnCell code s (routines_of frames) f n
  pub free : 0 < f + n

-- so it is where frames are of the same routines
pub free_across : (code : PlainCode) (s : Sharing) (frames frames2 : List PlainFrame) (f n : ℕ) → routines_of frames2 ≡ routines_of frames
    → OwnFree code s frames f n → OwnFree code s frames2 f n
free_across code s frames frames2 f n e h =
    let len = same_length code frames2 frames e in
    record {
      live = omega (arith, len, h.live);
      own = subst (λ rs. OwnCell code s rs f n) (sym e) h.own;
      free = h.free;
    }

-- a cell of a place that is own
pub run_free : {code : PlainCode} {s : Sharing} {t : State} {p : CellPlace} → IsOwn code s t p → (k : ℕ) → k < p.len
    → OwnFree code s t.now p.frame (p.slot + k)
run_free own k lt = record { live = own.live; own = own.cells k lt; free = own.free k lt }

-- the only cell of such a place
pub one_free : {code : PlainCode} {s : Sharing} {t : State} {p : CellPlace} → IsOwn code s t p → p.len ≡ 1
    → OwnFree code s t.now p.frame p.slot
one_free own e =
    let x = one_own own e in
    record { live = own.live; own = x.0; free = x.1 }

module _ {code new : PlainCode} {s : Sharing} where
  -- a number is stored in such a slot
  pub store_free : {r at : ℕ} {i : Instr} {t t' : State} → Shared code new s → Doing code new s r at i t t' → (f n : ℕ) (v : ℤ)
      → OwnFree code s t.now f n → (k k' : State → StepResult)
      → (Doing code new s r at i (with_cell t f n (cell.Int v)) (with_cell t' f n (cell.Int v))
      → routines_of (with_cell t f n (cell.Int v)).now ≡ routines_of t.now
      → AlikeStep code new s (k (with_cell t f n (cell.Int v))) (k' (with_cell t' f n (cell.Int v))))
      → AlikeStep code new s (store t f n v k) (store t' f n v k')
  store_free w h f n v c k k' good =
      let free : 0 < f + n = c.free in
      store_alike w h f n v c.live c.own (λ z. absurd (omega arith)) k k' good

  -- a cell has a number, or gets it
  pub bound_alike : {r at : ℕ} {i : Instr} {t t' : State} → Shared code new s → Doing code new s r at i t t' → target_slot code i ≡ None
      → (p : CellPlace) (range : Range) (v : ℤ) (u : Option ℤ) → OwnFree code s t.now p.frame p.slot
      → AlikeStep code new s (binds_content t p range v u) (binds_content t' p range v u)
  bound_alike {r} {at} {i} {t} {t'} w h none p range v (Some u) c =
      if_alike (int_eq u v) (λ _. quiet_step t) (λ _. fails_now t) (λ _. quiet_step t') (λ _. fails_now t')
      (λ _. settle h none answer.Went []) (λ _. fails_alike h.taken.rest)
  bound_alike {r} {at} {i} {t} {t'} w h none p range v None c =
      ranged_alike h.taken.rest range fault.Range v (λ _. store t p.frame p.slot v quiet_step) (λ _. store t' p.frame p.slot v quiet_step)
      (store_free w h p.frame p.slot v c quiet_step quiet_step (λ h2 _. settle h2 none answer.Went []))

  -- two contents are equated
  equated_alike : {r at : ℕ} {i : Instr} {t t' : State} → Shared code new s → Doing code new s r at i t t' → (f n : ℕ) (a : Option Range)
      (u : Option ℤ) (g m : ℕ) (b : Option Range) (v : Option ℤ) (k k' : State → StepResult) → OwnFree code s t.now f n
      → OwnFree code s t.now g m
      → ((x x' : State) → Doing code new s r at i x x' → routines_of x.now ≡ routines_of t.now → AlikeStep code new s (k x) (k' x'))
      → AlikeStep code new s (equation_of_contents t f n a u g m b v k) (equation_of_contents t' f n a u g m b v k')
  equated_alike w h f n a None g m b None k k' cf cg good = fault_alike fault.Unknown h.taken.rest
  equated_alike {r} {at} {i} {t} {t'} w h f n a None g m b (Some v) k k' cf cg good =
      ranged_if_alike h.taken.rest a v (λ _. store t f n v k) (λ _. store t' f n v k')
      (store_free w h f n v cf k k' (λ h2 e. good (with_cell t f n (cell.Int v)) (with_cell t' f n (cell.Int v)) h2 e))
  equated_alike {r} {at} {i} {t} {t'} w h f n a (Some u) g m b None k k' cf cg good =
      ranged_if_alike h.taken.rest b u (λ _. store t g m u k) (λ _. store t' g m u k')
      (store_free w h g m u cg k k' (λ h2 e. good (with_cell t g m (cell.Int u)) (with_cell t' g m (cell.Int u)) h2 e))
  equated_alike {r} {at} {i} {t} {t'} w h f n a (Some u) g m b (Some v) k k' cf cg good =
      if_alike (int_eq u v) (λ _. k t) (λ _. fails_now t) (λ _. k' t') (λ _. fails_now t')
      (λ _. good t t' h refl) (λ _. fails_alike h.taken.rest)

  -- two cells are equated
  pub equation_alike : {r at : ℕ} {i : Instr} {t t' : State} → Shared code new s → Doing code new s r at i t t' → (f n : ℕ)
      (a : Option Range) (g m : ℕ) (b : Option Range) (k k' : State → StepResult) → OwnFree code s t.now f n → OwnFree code s t.now g m
      → ((x x' : State) → Doing code new s r at i x x' → routines_of x.now ≡ routines_of t.now → AlikeStep code new s (k x) (k' x'))
      → AlikeStep code new s (equation t f n a g m b k) (equation t' f n a g m b k')
  equation_alike {r} {at} {i} {t} {t'} w h f n a g m b k k' cf cg good =
      content_alike w h f n cf.live cf.own (λ u. content t g m (λ v. equation_of_contents t f n a u g m b v k))
      (λ u. content t' g m (λ v. equation_of_contents t' f n a u g m b v k'))
      (λ u. content_alike w h g m cg.live cg.own (λ v. equation_of_contents t f n a u g m b v k)
      (λ v. equation_of_contents t' f n a u g m b v k') (λ v. equated_alike w h f n a u g m b v k k' cf cg good))

  -- n equations, one after another
  pub equations_alike : {r at : ℕ} {i : Instr} (n : ℕ) (t t' : State) → Shared code new s → Doing code new s r at i t t'
      → target_slot code i ≡ None → (f p g q : ℕ) → ((k : ℕ) → k < n → OwnFree code s t.now f (p + k))
      → ((k : ℕ) → k < n → OwnFree code s t.now g (q + k)) → AlikeStep code new s (equations n t f p g q) (equations n t' f p g q)
  equations_alike zero t t' w h none f p g q cf cg = settle h none answer.Went []
  equations_alike (suc n) t t' w h none f p g q cf cg =
      let zp : p + 0 ≡ p = omega arith in
      let zq : q + 0 ≡ q = omega arith in
      equation_alike w h f p None g q None (λ x. equations n x f (suc p) g (suc q)) (λ x. equations n x f (suc p) g (suc q))
      (subst (λ j. OwnFree code s t.now f j) zp (cf 0 (omega arith))) (subst (λ j. OwnFree code s t.now g j) zq (cg 0 (omega arith)))
      (λ x x' hx e. equations_alike n x x' w hx none f (suc p) g (suc q)
      (λ k lt. let z : p + suc k ≡ suc p + k = omega arith in
      free_across code s t.now x.now f (suc p + k) e (subst (λ j. OwnFree code s t.now f j) z (cf (suc k) (omega arith))))
      (λ k lt. let z : q + suc k ≡ suc q + k = omega arith in
      free_across code s t.now x.now g (suc q + k) e (subst (λ j. OwnFree code s t.now g j) z (cg (suc k) (omega arith)))))

  -- n cells are copied from two states, in two that have come from them by such
  pub copied_alike : {r at : ℕ} {i : Instr} {t t' : State} → Shared code new s → Doing code new s r at i t t' → target_slot code i ≡ None
      → (n : ℕ) (x x' : State) → Doing code new s r at i x x' → routines_of x.now ≡ routines_of t.now → (f p g q : ℕ)
      → ((k : ℕ) → k < n → OwnFree code s t.now f (p + k)) → ((k : ℕ) → k < n → OwnFree code s t.now g (q + k))
      → AlikeStep code new s (copies_cells n t.now x f p g q) (copies_cells n t'.now x' f p g q)
  copied_alike w h none zero x x' hx e f p g q cf cg = settle hx none answer.Went []
  copied_alike {r} {at} {i} {t} {t'} w h none (suc n) x x' hx e f p g q cf cg =
      let zp : p + 0 ≡ p = omega arith in
      let zq : q + 0 ≡ q = omega arith in
      let here : OwnFree code s x.now f p =
      free_across code s t.now x.now f p e (subst (λ j. OwnFree code s t.now f j) zp (cf 0 (omega arith))) in
      let there : OwnFree code s t.now g q = subst (λ j. OwnFree code s t.now g j) zq (cg 0 (omega arith)) in
      let c : Cell = cell_at t.now g q cell.Unknown in
      let same : cell_at t'.now g q cell.Unknown ≡ c = cell_alike_at w h g q cell.Unknown there.live there.own in
      let test : (number_at x'.now f p && number_at t'.now g q) ≡ (number_at x.now f p && number_at t.now g q) =
      ap (λ b. b && number_at t'.now g q) (number_alike_at w hx f p here.live here.own)
      ∙ ap (λ b. number_at x.now f p && b) (number_alike_at w h g q there.live there.own) in
      let is = content_any code r t g q cell.Unknown h.here.ready there.live (record { number = there.own.number; free = there.free }) in
      let free : 0 < f + p = here.free in
      let next : Doing code new s r at i (with_cell x f p c) (with_cell x' f p c) =
      cell_doing w hx f p c here.live here.own is (λ z. absurd (omega arith)) in
      let after : AlikeStep code new s (copies_cells n t.now (with_cell x f p c) f (suc p) g (suc q))
      (copies_cells n t'.now (with_cell x' f p c) f (suc p) g (suc q)) =
      copied_alike w h none n (with_cell x f p c) (with_cell x' f p c) next (written-routines x.now f p c ∙ e) f (suc p) g (suc q)
      (λ k lt. let z : p + suc k ≡ suc p + k = omega arith in subst (λ j. OwnFree code s t.now f j) z (cf (suc k) (omega arith)))
      (λ k lt. let z : q + suc k ≡ suc q + k = omega arith in subst (λ j. OwnFree code s t.now g j) z (cg (suc k) (omega arith))) in
      subst (λ b. AlikeStep code new s (copies_cells (suc n) t.now x f p g q)
      (if_true b (λ _. copies_cells n t'.now (with_cell x' f p (cell_at t'.now g q cell.Unknown)) f (suc p) g (suc q))
      (λ _. gets_stuck x')))
      (sym test)
      (if_alike (number_at x.now f p && number_at t.now g q) _ _ _ _
      (λ _. subst (λ d. AlikeStep code new s (copies_cells n t.now (with_cell x f p c) f (suc p) g (suc q))
      (copies_cells n t'.now (with_cell x' f p d) f (suc p) g (suc q))) (sym same) after)
      (λ _. stuck_alike hx.taken.rest))

  -- ---- input

  -- a number that was read goes to its place
  pub took_alike : {r at : ℕ} {i : Instr} {t t' : State} → Shared code new s → Doing code new s r at i t t' → target_slot code i ≡ None
      → (range : Range) (p : CellPlace) (v : ℤ) (n : ℕ) → OwnFree code s t.now p.frame p.slot
      → AlikeStep code new s (take_input t range p v n) (take_input t' range p v n)
  took_alike {r} {at} {i} {t} {t'} w h none range p v n c =
      ranged_alike h.taken.rest range fault.Range v (λ _. store t 0 0 (pos n) (λ x. store x p.frame p.slot v quiet_step))
      (λ _. store t' 0 0 (pos n) (λ x. store x p.frame p.slot v quiet_step))
      (store_alike w h 0 0 (pos n) h.here.ready.frames.some (position_own w h) (λ _. tt) (λ x. store x p.frame p.slot v quiet_step)
      (λ x. store x p.frame p.slot v quiet_step)
      (λ h2 e. store_free w h2 p.frame p.slot v
      (free_across code s t.now (with_cell t 0 0 (cell.Int (pos n))).now p.frame p.slot e c) quiet_step quiet_step
      (λ h3 _. settle h3 none answer.Went [])))

  -- what was found where a number is read
  pub found_alike : {r at : ℕ} {i : Instr} {t t' : State} → Shared code new s → Doing code new s r at i t t' → target_slot code i ≡ None
      → (range : Range) (p : CellPlace) (found : ReadInt) → OwnFree code s t.now p.frame p.slot
      → AlikeStep code new s (takes_read t range p found) (takes_read t' range p found)
  found_alike w h none range p NoNumber c = fails_alike h.taken.rest
  found_alike w h none range p TooLarge c = fault_alike fault.ReadRange h.taken.rest
  found_alike w h none range p (Number v n) c = took_alike w h none range p v n c

  -- what was found where a byte is read
  pub byte_alike : {r at : ℕ} {i : Instr} {t t' : State} → Shared code new s → Doing code new s r at i t t' → target_slot code i ≡ None
      → (range : Range) (p : CellPlace) (n : ℕ) (found : Option ℕ) → OwnFree code s t.now p.frame p.slot
      → AlikeStep code new s (byte_or_failure t range p n found) (byte_or_failure t' range p n found)
  byte_alike w h none range p n None c = fails_alike h.taken.rest
  byte_alike w h none range p n (Some b) c = took_alike w h none range p (pos b) (n + 1) c
