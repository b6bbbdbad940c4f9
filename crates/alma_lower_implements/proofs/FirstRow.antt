-- Barriers: of a part the first alternative is taken, its other entries are dropped, and where it has none the code goes on
-- elsewhere (a condition, NOT, OR, a truth) or fails too (COMMIT, a call in an expression).
use Rattle.std.proofs.Common.{ℕ, ◌+◌, ◌-◌, List, [], ◌∷◌, ◌++◌, length, arith, ℤ, Option, refl, sym, ◌∙◌, append_assoc, subst, ◌≤◌}
use Rattle.alma_code.specs.declared.cell.Cell.TheVariants as cell
use Rattle.alma_code.specs.declared.cell.SlotKind.TheVariants as slot
use Rattle.alma_code.specs.declared.instr.Instr.TheVariants as I
use Rattle.alma_code.specs.Picture.{PlainFrame, PlainEntry}
use Rattle.alma_code.specs.Plain.{PlainCode}
use Rattle.alma_code.specs.Machine.{State}
use Rattle.alma_mean.specs.Store.{Store}
use Rattle.alma_mean.specs.Events.{Events, NoYield, Flow, Go, Return, Fail, one, on_first}
use Rattle.alma_lower_implements.proofs.Goes.{IsGoing, Goes, no_step, and_then, before, first_goes, one_goes}
use Rattle.alma_lower_implements.proofs.Address.{at_address}
use Rattle.alma_lower_implements.proofs.Frames.{IsAt}
use Rattle.alma_lower_implements.proofs.Steps.{InstrAt, top_written, Holds, HasKind}
use Rattle.alma_lower_implements.proofs.ChoiceSteps.{branch_entry, choose_step, pop_step, mark_step, cut_step}
use Rattle.alma_lower_implements.proofs.Ways.{Ways, Leaves, Runs}

module _ (code : PlainCode) (input : List ℕ) where
  -- an alternative keeps the mark, and none leaves by RETURN
  pub record KeepsMark {A : Type 0} (m h : ℕ) (w : Ways A) : Type 0 where
    pub keeps : (v : Store) (y : A) (now : List PlainFrame) → w.goes v y now → Holds now m (cell.Mark h)
    pub stays : (v : Store) (n : Option ℤ) (at : ℕ) (now : List PlainFrame) → w.returns v n at now → ⊥

  -- the front of `begin_first`, a part, and the Cut behind it; b steps are left for the part and behind it, and c are handed on to both
  -- ways
  pub first_row : {A B : Type 0} (line at n none_at m : ℕ) (now : List PlainFrame) (w : ℕ → Ways A) (e : Events A) (left2 more2 : ℕ)
      (fits2 : Store → Flow B → State → Type 0) (found : Store → Flow A → Events B) (none : Unit {0} → Events B) (q : ℕ)
      → InstrAt code input line at (I.Mark m) → InstrAt code input line (at + 1) (I.Choose none_at) → InstrAt code input line n (I.Cut m)
      → HasKind now m slot.Mark
      → ((h : ℕ) → Runs code input line (at + 2) n (top_written now m (cell.Mark h)) (w h) e q)
      → ((h : ℕ) → KeepsMark m h (w h))
      → (b c : ℕ) → b ≤ 8 → (held : List PlainEntry) (s : State) → IsAt at now held s
      → ((v : Store) (y : A) (t : State) → IsAt (n + 1) t.now held t → (w (length held)).goes v y t.now
      → Goes code input line left2 more2 fits2 held (found v (Go y)) t (b + c) (q - 1))
      → ((t : State) → IsAt none_at (top_written now m (cell.Mark (length held))) held t
      → Goes code input line left2 more2 fits2 held (none tt) t c (q - 1))
      → Goes code input line left2 more2 fits2 held (on_first e found none) s (3 + b + c) q
  first_row line at n none_at m now w e left2 more2 fits2 found none q mark choose cut kind runs keeps b c le held s is on_found on_none =
      let a = mark_step code input line at m now held s is mark kind in
      let marked : List PlainFrame = top_written now m (cell.Mark (length held)) in
      let z = choose_step code input line (at + 1) none_at marked held a.to a.is choose in
      before code input line left2 more2 fits2 held (on_first e found none) s z.to 2 (3 + b + c) (b + (1 + c)) q q
      (and_then code input a.silently z.silently) (omega arith) (omega arith)
      (first_goes code input line b left2 more2 (Leaves n (w (length held))) fits2 (held ++ branch_entry none_at marked ∷ []) held e found
      none (1 + c) z.to b q
      (runs (length held) b le (held ++ branch_entry none_at marked ∷ []) z.to
      (at_address (at + 1 + 1) (at + 2) marked (held ++ branch_entry none_at marked ∷ []) z.to (omega arith) z.is))
      on_alternative
      (λ u failing.
      let y = pop_step code input none_at marked held u failing in
      before code input line left2 more2 fits2 held (none tt) u y.to 1 (1 + c) c q (q - 1) y.silently (omega arith) (omega arith)
      (on_none y.to y.is)))
    where
      on_alternative : (v : Store) (f : Flow _) (t : State) (above : List PlainEntry)
          → IsGoing ((held ++ branch_entry none_at (top_written now m (cell.Mark (length held))) ∷ []) ++ above) t
          → Leaves n (w (length held)) v f t
          → Goes code input line left2 more2 fits2 held (found v f) t (b + (1 + c)) q
      on_alternative v (Go y) t above going left =
          let e0 = branch_entry none_at (top_written now m (cell.Mark (length held))) in
          let z = cut_step code input line n m t.now held ((e0 ∷ []) ++ above) t
          (record { mode = going.mode; here = left.0; frames = refl; entries = going.entries ∙ append_assoc held (e0 ∷ []) above }) cut
          ((keeps (length held)).keeps v y t.now left.1) in
          before code input line left2 more2 fits2 held (found v (Go y)) t z.to 1 (b + (1 + c)) (b + c) q (q - 1) z.silently (omega arith)
          (omega arith)
          (on_found v y z.to (record { mode = z.is.mode; here = z.is.here; frames = refl; entries = z.is.entries })
          (subst ((w (length held)).goes v y) (sym z.is.frames) left.1))
      on_alternative v (Return k) t above going left = absurd ((keeps (length held)).stays v k t.at t.now left)

  -- without a choice entry: COMMIT, where no alternative is a failure
  pub commit_goes : (line at n m : ℕ) (now : List PlainFrame) (w : ℕ → Ways NoYield) (w2 : Ways NoYield) (e : Events NoYield) (q : ℕ)
      → InstrAt code input line at (I.Mark m) → InstrAt code input line n (I.Cut m) → HasKind now m slot.Mark
      → ((h : ℕ) → Runs code input line (at + 1) n (top_written now m (cell.Mark h)) (w h) e q)
      → ((h : ℕ) → KeepsMark m h (w h))
      → ((h : ℕ) (v : Store) (y : NoYield) (t : List PlainFrame) → (w h).goes v y t → w2.goes v tt t)
      → (held : List PlainEntry) (s : State) → IsAt at now held s
      → Goes code input line 0 24 (Leaves (n + 1) w2) held (on_first e (λ t _. one t tt) (λ _. Fail)) s 9 q
  commit_goes line at n m now w w2 e q mark cut kind runs keeps less held s is =
      let a = mark_step code input line at m now held s is mark kind in
      before code input line 0 24 (Leaves (n + 1) w2) held (on_first e (λ t _. one t tt) (λ _. Fail)) s a.to 1 9 (8 + 0) q q a.silently
      (omega arith) (omega arith)
      (first_goes code input line 8 0 24 (Leaves n (w (length held))) (Leaves (n + 1) w2) held held e (λ t _. one t tt) (λ _. Fail) 0 a.to 8
      q
      (runs (length held) 8 (omega arith) held a.to a.is)
      on_alternative
      (λ x failing. (0, x, omega arith, no_step code input x, failing)))
    where
      on_alternative : (v : Store) (f : Flow NoYield) (t : State) (above : List PlainEntry) → IsGoing (held ++ above) t
          → Leaves n (w (length held)) v f t
          → Goes code input line 0 24 (Leaves (n + 1) w2) held (one v tt) t (8 + 0) q
      on_alternative v (Go y) t above going left =
          let z = cut_step code input line n m t.now held above t
          (record { mode = going.mode; here = left.0; frames = refl; entries = going.entries }) cut
          ((keeps (length held)).keeps v y t.now left.1) in
          before code input line 0 24 (Leaves (n + 1) w2) held (one v tt) t z.to 1 (8 + 0) 7 q q z.silently (omega arith) (omega arith)
          (one_goes code input line 0 24 (Leaves (n + 1) w2) held v tt z.to 7 q (omega arith)
          (record { mode = z.is.mode; entries = z.is.entries })
          (z.is.here, subst (w2.goes v tt) (sym z.is.frames) (less (length held) v y t.now left.1)))
      on_alternative v (Return k) t above going left = absurd ((keeps (length held)).stays v k t.at t.now left)
