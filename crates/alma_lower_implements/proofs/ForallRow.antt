-- The row of FORALL: the alternatives of its first part are gone through while the carry grows in the entry below them.
use Rattle.std.proofs.Common.{◌≡◌, ℕ, suc, ◌+◌, ◌-◌, ◌≤◌, List, [], ◌∷◌, ◌++◌, length, refl, sym, ◌∙◌, subst, arith, append_assoc}
use Rattle.std.proofs.Common.{append-nil}
use Rattle.alma_base.specs.Carry.{Carry, with_changes}
use Rattle.alma_code.specs.declared.cell.Cell as machine_cell
use Rattle.alma_code.specs.declared.cell.Cell.TheVariants as cell
use Rattle.alma_code.specs.declared.cell.SlotKind.TheVariants as slot
use Rattle.alma_code.specs.declared.instr.Instr.TheVariants as I
use Rattle.alma_code.specs.Carries.{frames_with_carry, diffs}
use Rattle.alma_code.specs.Picture.{PlainFrame, PlainEntry}
use Rattle.alma_code.specs.Plain.{PlainCode}
use Rattle.alma_code.specs.Machine.{State}
use Rattle.alma_mean.specs.Store.{Store, over, changes}
use Rattle.alma_mean.specs.Store as store
use Rattle.alma_mean.specs.Events.{Events, NoYield, Flow, Go, Return, Visit, Print, Alt, Fail, Fault, Cut}
use Rattle.alma_mean.specs.Rows.{forall_row}
use Rattle.alma_lower_implements.proofs.Goes.{IsGoing, IsFailing, Like, Goes, no_step, and_then, before, weaker, first_goes}
use Rattle.alma_lower_implements.proofs.Address.{at_address}
use Rattle.alma_lower_implements.proofs.Frames.{IsAt}
use Rattle.alma_lower_implements.proofs.Steps.{InstrAt, top_written, HasKind, fail_step}
use Rattle.alma_lower_implements.proofs.ChoiceSteps.{mark_step, cut_step}
use Rattle.alma_lower_implements.proofs.ForallSteps.{forall_entry, body_entry, overlay_step, keep_step, pop_entry, finish_step}
use Rattle.alma_lower_implements.proofs.Ways.{Ways, Leaves, Runs}
use Rattle.alma_lower_implements.proofs.FirstRow.{KeepsMark}

-- another carry in an entry of the base
like_carry : (held : List PlainEntry) (out : ℕ) (now : List PlainFrame) (c d : Carry machine_cell.Cell)
    → Like (held ++ forall_entry out now c ∷ []) (held ++ forall_entry out now d ∷ [])
like_carry [] out now c d = (record { kind = refl; resume = refl; frames = refl }, tt)
like_carry (x ∷ held) out now c d = (record { kind = refl; resume = refl; frames = refl }, like_carry held out now c d)

module _ (code : PlainCode) (input : List ℕ) where
  -- what is known of the code behind the Forall: the first part leaves at `x`, the second stands from `x + 2` on and leaves at `y`
  pub record ForallCode (line x y m i : ℕ) : Type 0 where
    pub overlay : InstrAt code input line x (I.Overlay m (y + 2))
    pub mark : InstrAt code input line (x + 1) (I.Mark i)
    pub cut : InstrAt code input line y (I.Cut i)
    pub keep : InstrAt code input line (y + 1) (I.Keep m)
    pub fail : InstrAt code input line (y + 2) I.Fail
    pub finish : InstrAt code input line (y + 3) I.Finish

  -- `same` relates the carry of the machine to that of the meaning
  pub record ForallParts (line x y m i : ℕ) (now0 : List PlainFrame) (h q : ℕ) (s0 : Store)
      (same : Carry machine_cell.Cell → Carry store.Cell → Type 0) (then_do : Store → Events NoYield) (ws : Ways NoYield)
      (w : Ways NoYield) : Type 1 where
    -- an alternative of the first part keeps the mark of the Forall, and none leaves by RETURN
    pub first_keeps : KeepsMark code input m h ws
    -- the second part, in the frames over which the carry was laid
    pub wt : (v : Store) (now : List PlainFrame) (c : Carry machine_cell.Cell) (height : ℕ) → Ways NoYield
    pub kind : (v : Store) (now : List PlainFrame) (c : Carry machine_cell.Cell) → ws.goes v tt now
        → HasKind (frames_with_carry now c) i slot.Mark
    pub runs : (v : Store) (now : List PlainFrame) (c : Carry machine_cell.Cell) (carry : Carry store.Cell) (height : ℕ) → ws.goes v tt now
        → same c carry
        → Runs code input line (x + 2) y (top_written (frames_with_carry now c) i (cell.Mark height)) (wt v now c height)
        (then_do (over v carry)) q
    pub second_keeps : (v : Store) (now : List PlainFrame) (c : Carry machine_cell.Cell) (height : ℕ)
        → KeepsMark code input i height (wt v now c height)
    pub second_keeps_first : (v : Store) (now : List PlainFrame) (c : Carry machine_cell.Cell) (height : ℕ)
        → KeepsMark code input m h (wt v now c height)
    -- what the second part changed enters both carries alike
    pub grows : (v t : Store) (now now2 : List PlainFrame) (c : Carry machine_cell.Cell) (carry : Carry store.Cell) (height : ℕ)
        → same c carry → (wt v now c height).goes t tt now2
        → same (with_changes (diffs (frames_with_carry now c) now2) c) (with_changes (changes (over v carry) t) carry)
    -- at the end it is laid over the frames and the store of the beginning
    pub ends : (c : Carry machine_cell.Cell) (carry : Carry store.Cell) → same c carry
        → w.goes (over s0 carry) tt (frames_with_carry now0 c)

  module _ (line x y m i : ℕ) (now0 : List PlainFrame) (held : List PlainEntry) (q0 : ℕ) (s0 : Store)
      (same : Carry machine_cell.Cell → Carry store.Cell → Type 0) (then_do : Store → Events NoYield) (ws w : Ways NoYield)
      (is_code : ForallCode line x y m i) (parts : ForallParts line x y m i now0 (length held + 1) q0 s0 same then_do ws w) where
    -- the entries while the carry is c
    abbrev entries : Carry machine_cell.Cell → List PlainEntry
    entries c = held ++ forall_entry (y + 3) now0 c ∷ []

    -- the events that go on when one alternative is done
    abbrev RestGoes : Carry machine_cell.Cell → Carry store.Cell → List PlainEntry → Events NoYield → (q : ℕ) → Type 0
    RestGoes c carry above e q =
        (c2 : Carry machine_cell.Cell) (carry2 : Carry store.Cell) (u : State) → same c2 carry2
        → IsFailing (held ++ forall_entry (y + 3) now0 c2 ∷ above) u
        → Goes code input line 0 24 (Leaves (y + 4) w) held (forall_row then_do s0 carry2 e) u 0 q

    -- behind the address of the Fail with no entry of the body
    fails_on : (c : Carry machine_cell.Cell) (carry : Carry store.Cell) (above : List PlainEntry) (e : Events NoYield)
        (now : List PlainFrame) (t : State) (q : ℕ) → same c carry → IsAt (y + 2) now (held ++ forall_entry (y + 3) now0 c ∷ above) t
        → RestGoes c carry above e q
        → Goes code input line 0 24 (Leaves (y + 4) w) held (forall_row then_do s0 carry e) t 1 q
    fails_on c carry above e now t q alike is rest =
        let z = fail_step code input line (y + 2) now (held ++ forall_entry (y + 3) now0 c ∷ above) t is is_code.fail in
        before code input line 0 24 (Leaves (y + 4) w) held (forall_row then_do s0 carry e) t z.to 1 1 0 q q z.silently (omega arith)
        (omega arith) (rest c carry z.to alike z.is)

    -- one alternative of the first part
    body_goes : (c : Carry machine_cell.Cell) (carry : Carry store.Cell) (above : List PlainEntry) (v : Store) (e : Events NoYield)
        (t : State) (q : ℕ) → q ≤ q0 → same c carry → IsAt x t.now (held ++ forall_entry (y + 3) now0 c ∷ above) t → ws.goes v tt t.now
        → RestGoes c carry above e q
        → Goes code input line 0 24 (Leaves (y + 4) w) held (forall_row then_do s0 carry (Alt v (Go tt) e)) t 8 q
    body_goes c carry above v e t q owes alike is fit rest =
        let a = overlay_step code input line x m (y + 2) (y + 3) t.now now0 c held above t is is_code.overlay
        (parts.first_keeps.keeps v tt t.now fit) in
        let whole : List PlainEntry = (held ++ forall_entry (y + 3) now0 c ∷ above) ++ body_entry (y + 2) (frames_with_carry t.now c)
        ∷ [] in
        let height : ℕ = length whole in
        let b = mark_step code input line (x + 1) i (frames_with_carry t.now c) whole a.to a.is is_code.mark (parts.kind v t.now c fit) in
        let marked : List PlainFrame = top_written (frames_with_carry t.now c) i (cell.Mark height) in
        before code input line 0 24 (Leaves (y + 4) w) held (forall_row then_do s0 carry (Alt v (Go tt) e)) t b.to 2 8 (4 + 2) q q
        (and_then code input a.silently b.silently) (omega arith) (omega arith)
        (first_goes code input line 4 0 24 (Leaves y (parts.wt v t.now c height)) (Leaves (y + 4) w) whole held (then_do (over v carry))
        (λ u _. forall_row then_do s0 (with_changes (changes (over v carry) u) carry) e) (λ _. forall_row then_do s0 carry e) 2 b.to 4 q
        (weaker code input line 4 0 (Leaves y (parts.wt v t.now c height)) whole (then_do (over v carry)) b.to 4 4 q q0 (omega arith) owes
        (parts.runs v t.now c carry height fit alike 4 (omega arith) whole b.to
        (at_address (x + 1 + 1) (x + 2) marked whole b.to (omega arith) b.is)))
        done
        (λ u failing.
        let p = pop_entry code input (held ++ forall_entry (y + 3) now0 c ∷ above) (body_entry (y + 2) (frames_with_carry t.now c)) u
        failing in
        before code input line 0 24 (Leaves (y + 4) w) held (forall_row then_do s0 carry e) u p.to 1 2 1 q q p.silently (omega arith)
        (omega arith)
        (fails_on c carry above e (frames_with_carry t.now c) p.to q alike
        (record {
          mode = p.is.mode;
          here = p.is.here;
          frames = p.is.frames;
          entries = p.is.entries
              ∙ append-nil (held ++ forall_entry (y + 3) now0 c ∷ above);
        }) rest)))
      where
        whole2 : List PlainEntry
        whole2 = (held ++ forall_entry (y + 3) now0 c ∷ above) ++ body_entry (y + 2) (frames_with_carry t.now c) ∷ []

        done : (u : Store) (f : Flow NoYield) (t2 : State) (over_it : List PlainEntry) → IsGoing (whole2 ++ over_it) t2
            → Leaves y (parts.wt v t.now c (length whole2)) u f t2
            → Goes code input line 0 24 (Leaves (y + 4) w) held (forall_row then_do s0 (with_changes (changes (over v carry) u) carry) e) t2
            (4 + 2) q
        done u (Return k) t2 over_it going left = absurd ((parts.second_keeps v t.now c (length whole2)).stays u k t2.at t2.now left)
        done u (Go z) t2 over_it going left =
            let c2 : Carry machine_cell.Cell = with_changes (diffs (frames_with_carry t.now c) t2.now) c in
            let a = cut_step code input line y i t2.now whole2 over_it t2
            (record { mode = going.mode; here = left.0; frames = refl; entries = going.entries }) is_code.cut
            ((parts.second_keeps v t.now c (length whole2)).keeps u z t2.now left.1) in
            let b = keep_step code input line (y + 1) m (y + 2) (y + 3) t2.now now0 (frames_with_carry t.now c) c held above a.to a.is
            is_code.keep ((parts.second_keeps_first v t.now c (length whole2)).keeps u z t2.now left.1) in
            let alike2 : same c2 (with_changes (changes (over v carry) u) carry) =
            parts.grows v u t.now t2.now c carry (length whole2) alike left.1 in
            before code input line 0 24 (Leaves (y + 4) w) held (forall_row then_do s0 (with_changes (changes (over v carry) u) carry) e) t2
            b.to 2 (4 + 2) 1 q q (and_then code input a.silently b.silently) (omega arith) (omega arith)
            (fails_on c2 (with_changes (changes (over v carry) u) carry) above e t2.now b.to q alike2
            (at_address (y + 1 + 1) (y + 2) t2.now (held ++ forall_entry (y + 3) now0 c2 ∷ above) b.to (omega arith) b.is) rest)

    pub forall_goes : (e : Events NoYield) (c : Carry machine_cell.Cell) (carry : Carry store.Cell) (s : State) (r q : ℕ) → q ≤ q0
        → same c carry
        → Goes code input line 8 0 (Leaves x ws) (entries c) e s r q
        → Goes code input line 0 24 (Leaves (y + 4) w) held (forall_row then_do s0 carry e) s r q
    forall_goes (Visit e) c carry s r q owes alike h = forall_goes e c carry s (r + 32) q owes alike h
    forall_goes (Print bytes e) c carry s r q owes alike h =
        (h.0, h.1, h.2, h.3, h.4, h.5, h.6, forall_goes e c carry h.4 (r - suc h.0) (q - suc h.0) (omega (arith, owes)) alike h.7)
    forall_goes (Fault f l) c carry s r q owes alike h = h
    forall_goes Cut c carry s r q owes alike h = h
    forall_goes Fail c carry s r q owes alike h =
        let a = pop_entry code input held (forall_entry (y + 3) now0 c) h.1 h.4 in
        let b = finish_step code input line (y + 3) (y + 3) now0 now0 c held a.to a.is is_code.finish in (
          h.0 + 2,
          b.to,
          omega (arith, h.2),
          and_then code input h.3 (and_then code input a.silently b.silently),
          [],
          record { mode = b.is.mode; entries = b.is.entries ∙ sym (append-nil held) },
          (
            let n : y + 3 + 1 ≡ y + 4 = omega arith in b.is.here ∙ n,
            subst (w.goes (over s0 carry) tt) (sym b.is.frames) (parts.ends c carry alike),
          ),
          λ base2 u like failing. (
            0,
            u,
            omega arith,
            no_step code input u,
            record { mode = failing.mode; entries = failing.entries ∙ append-nil base2 },
          ),
        )
    forall_goes (Alt v (Return k) e) c carry s r q owes alike h = absurd (parts.first_keeps.stays v k h.1.at h.1.now h.6)
    forall_goes (Alt v (Go z) e) c carry s r q owes alike h =
        let row : List PlainEntry = held ++ forall_entry (y + 3) now0 c ∷ h.4 in
        before code input line 0 24 (Leaves (y + 4) w) held (forall_row then_do s0 carry (Alt v (Go z) e)) s h.1 h.0 r 8 q (q - h.0) h.3
        (omega (arith, h.2)) (omega arith)
        (body_goes c carry h.4 v e h.1 (q - h.0) (omega (arith, owes)) alike
        (record {
          mode = h.5.mode;
          here = h.6.0;
          frames = refl;
          entries = h.5.entries
              ∙ append_assoc held (forall_entry (y + 3) now0 c ∷ []) h.4;
        }) h.6.1
        (λ c2 carry2 u alike2 failing.
        forall_goes e c2 carry2 u 0 (q - h.0) (omega (arith, owes)) alike2
        (h.7 (entries c2) u (like_carry held (y + 3) now0 c c2)
        (record { mode = failing.mode; entries = failing.entries ∙ sym (append_assoc held (forall_entry (y + 3) now0 c2 ∷ []) h.4) }))))
