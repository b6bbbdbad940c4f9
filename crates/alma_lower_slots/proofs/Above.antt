-- What bases say of an entry above them: it has these frames, with their routines. And what a call says of the frame below it.
use Rattle.std.proofs.Common.{◌≡◌, ℕ, suc, ◌-◌, ◌<◌, ◌≤◌, true, List, length, get_or, Some, sym, ap, ◌∙◌, subst, arith}
use Rattle.std.proofs.lemmas.Option.{get_or_from_slice_get}
use Rattle.alma_code.specs.declared.cell.Cell.TheVariants as cell
use Rattle.alma_code.specs.declared.instr.Instr.{Instr}
use Rattle.alma_code.specs.declared.instr.Instr.TheVariants as I
use Rattle.alma_code.specs.Fits.{routines_of, FitsFrames}
use Rattle.alma_code.specs.Kinds.{is_number}
use Rattle.alma_code.specs.Machine.{State, top, slot_of}
use Rattle.alma_code.specs.Picture.{PlainFrame, PlainEntry, no_frame, entry_at}
use Rattle.alma_code.specs.Plain.{PlainCode, start_at, end_at}
use Rattle.alma_code.specs.Rules.{kind_in}
use Rattle.alma_lower_slots.specs.Slots.{target_slot, lays_over, is_finish, body_of}
use Rattle.alma_lower_slots.specs.Sharing.{Sharing, Shares}
use Rattle.alma_lower_slots.proofs.Based.{HasFrames, BasedAt}
use Rattle.alma_lower_slots.proofs.Alike.{Doing}
use Rattle.alma_lower_slots.proofs.OwnSlots.{routine_among}

module _ (code : PlainCode) where
  -- an entry above the base of the top frame has the frames
  pub has_above : (at : ℕ) (frames : List PlainFrame) (held : List PlainEntry) (based : BasedAt code at frames held) (h : ℕ)
      → 1 ≤ length frames → based.base (length frames - 1) < h → h ≤ length held → HasFrames frames (entry_at held h).frames
  has_above at frames held based h some lt le f lf =
      based.by.has f h lf (omega (arith, based.by.rise f (length frames - 1) (omega (arith, lf)) (omega (arith, some)), lt)) le

module _ {code new : PlainCode} {s : Sharing} where
  -- the mark of a FORALL is above the base of the top frame
  pub mark_above : {r at : ℕ} {i : Instr} {t t' : State} (h : Doing code new s r at i t t') → (a n : ℕ) → body_of i ≡ Some a
      → slot_of t a ≡ Some (cell.Mark n) → (h.based.now h.taken.going).base (length t.now - 1) < n
  mark_above {r} {at} {i} {t} {t'} h a n is holds =
      (h.based.now h.taken.going).by.bodies (top t) a n (omega (arith, h.here.ready.frames.some)) holds (record {
        at = at;
        low = subst (λ q. start_at code q ≤ at) (sym h.here.ready.routine) h.here.low;
        high = subst (λ q. at < end_at code q) (sym h.here.ready.routine) h.high;
        is = ap body_of h.is ∙ is;
      })

  -- so what it stands at, and what stands above that, has the frames
  pub has_mark : {r at : ℕ} {i : Instr} {t t' : State} → Doing code new s r at i t t' → (a n : ℕ) → body_of i ≡ Some a
      → slot_of t a ≡ Some (cell.Mark n) → (h : ℕ) → n ≤ h → h ≤ length t.held → HasFrames t.now (entry_at t.held h).frames
  has_mark {r} {at} {i} {t} {t'} d a n is holds h le high =
      has_above code at t.now t.held (d.based.now d.taken.going) h d.here.ready.frames.some
      (omega (arith, mark_above d a n is holds, le)) high

  -- at a Finish the top entry does
  pub has_finish : {r at : ℕ} {i : Instr} {t t' : State} → Doing code new s r at i t t' → is_finish i ≡ true
      → HasFrames t.now (entry_at t.held (length t.held)).frames
  has_finish {r} {at} {i} {t} {t'} d is =
      let based = d.based.now d.taken.going in
      has_above code at t.now t.held based (length t.held) d.here.ready.frames.some
      (based.finish (ap is_finish d.is ∙ is)) (omega arith)

module _ (code : PlainCode) (s : Sharing) where
  -- behind a call no number lives in the frame below but what the call writes
  pub called_still : Shares code s → (frames : List PlainFrame) → FitsFrames code frames → (f n : ℕ) → suc f < length frames
      → is_number (kind_in code (get_or frames f no_frame).routine n) ≡ true
      → s.live (get_or frames f no_frame).routine (get_or frames (suc f) no_frame).back n ≡ true
      → target_slot code (get_or code.instrs ((get_or frames (suc f) no_frame).back - 1) I.Fail) ≡ Some n
  unfolding lays_over
  called_still shares frames fits f n lt number live =
      let q = (get_or frames f no_frame).routine in
      let above = get_or frames (suc f) no_frame in
      let back = ((fits.each (suc f) lt).called (omega arith)).1 in
      let below : suc f - 1 ≡ f = omega arith in
      let caller : get_or (routines_of frames) (suc f - 1) 0 ≡ q = ap (λ k. get_or (routines_of frames) k 0) below
      ∙ routine_among frames f in
      let lq = (fits.each f (omega (arith, lt))).routine in
      let call = I.Call above.routine back.first back.to in
      let is : get_or code.instrs back.at I.Fail ≡ call = get_or_from_slice_get code.instrs back.at call I.Fail back.call in
      let rules = shares.instrs q back.at lq (subst (λ k. start_at code k ≤ back.at) caller back.low)
      (subst (λ k. back.at < end_at code k) caller (omega (arith, back.high, back.behind))) in
      let at_is : above.back - 1 ≡ back.at = omega (arith, back.behind) in
      ap (λ k. target_slot code (get_or code.instrs k I.Fail)) at_is
      ∙ rules.still (ap lays_over is) n number (subst (λ k. s.live q k n ≡ true) back.behind live)
