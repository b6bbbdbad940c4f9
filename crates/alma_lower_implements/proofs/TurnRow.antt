-- Conditions of every form, and the loops and the arms that they decide.
use Rattle.std.proofs.Common.{ℕ, suc, ◌+◌, ◌-◌, ◌≤◌, List, length, arith, ℤ, Option, refl, sym, subst, ◌≡◌, [], ◌∷◌, ◌++◌, ◌∙◌, ap}
use Rattle.std.proofs.Common.{append-nil, Bool, true, false, not}
use Rattle.std.proofs.lemmas.List.{length-append}
use Rattle.alma_base.specs.Choice.{if_true}
use Rattle.alma_base.specs.Numbers.{is_zero, bit}
use Rattle.alma_code.specs.declared.cell.Cell.TheVariants as cell
use Rattle.alma_code.specs.declared.cell.SlotKind.TheVariants as slot
use Rattle.alma_code.specs.declared.instr.Instr.TheVariants as I
use Rattle.alma_code.specs.Picture.{PlainFrame, PlainEntry}
use Rattle.alma_code.specs.Plain.{PlainCode}
use Rattle.alma_code.specs.Machine.{State, Failing, after}
use Rattle.alma_mean.specs.Store.{Store}
use Rattle.alma_mean.specs.Events.{Events, NoYield, Flow, Go, one, bind, visit_each, on_first, Fail, join, node}
use Rattle.alma_lower_implements.proofs.Goes.{Goes, before, no_step, weaker, bind_goes, one_goes, like_self, and_then}
use Rattle.alma_lower_implements.proofs.Frames.{IsAt}
use Rattle.alma_lower_implements.proofs.Steps.{InstrAt, Moves, top_written, HasKind, Holds, zero_jumps, other_goes_on}
use Rattle.alma_lower_implements.proofs.Numbers.{zero_bit}
use Rattle.alma_lower_implements.proofs.Simple.{GivesOne, on_visit, on_one, at_fault, at_cut}
use Rattle.alma_lower_implements.proofs.Ways.{Ways, Leaves, Runs, Later, Visited, LeadsTo, Behind}
use Rattle.alma_lower_implements.proofs.EitherRow.{inner_goes}
use Rattle.alma_lower_implements.proofs.FirstRow.{KeepsMark, first_row}

-- what is added to a list and leaves it as it was is nothing
append-cancel : {A : Type 0} (a b : List A) → a ++ b ≡ a → b ≡ []
append-cancel a [] e = refl
append-cancel a (x ∷ b) e = let n : length (a ++ (x ∷ b)) ≡ length a + length (x ∷ b) = length-append a (x ∷ b) in
    let m : length (a ++ (x ∷ b)) ≡ length a = ap length e in absurd (omega (arith, n, m))

module _ (code : PlainCode) (input : List ℕ) where
  -- a condition that stands from `at` on: where it has an alternative the code goes on behind it, where it has none at
  -- `none_at`; either takes a step
  abbrev pub Decides : (line at behind none_at : ℕ) → List PlainFrame → Events NoYield → (found_ok : Store → List PlainFrame → Type 0)
      → (none_ok : List PlainFrame → Type 0) → (q : ℕ) → Type 1
  Decides line at behind none_at now e found_ok none_ok q =
      (B : Type 0) (left2 more2 : ℕ) (fits2 : Store → Flow B → State → Type 0) (found : Store → Flow NoYield → Events B)
      (none : Unit {0} → Events B) (b c : ℕ) → b ≤ 8 → (held : List PlainEntry) (s : State) → IsAt at now held s
      → ((v : Store) (t : State) → IsAt behind t.now held t → found_ok v t.now
      → Goes code input line left2 more2 fits2 held (found v (Go tt)) t (b + c) (q - 1))
      → ((t : State) → IsAt none_at t.now held t → none_ok t.now → Goes code input line left2 more2 fits2 held (none tt) t c (q - 1))
      → Goes code input line left2 more2 fits2 held (on_first e found none) s (3 + b + c) q

  -- a condition with a choice entry
  pub barrier_decides : (line at n none_at m : ℕ) (now : List PlainFrame) (w : ℕ → Ways NoYield) (e : Events NoYield)
      (found_ok : Store → List PlainFrame → Type 0) (none_ok : List PlainFrame → Type 0) (q : ℕ)
      → InstrAt code input line at (I.Mark m) → InstrAt code input line (at + 1) (I.Choose none_at) → InstrAt code input line n (I.Cut m)
      → HasKind now m slot.Mark
      → ((h : ℕ) → Runs code input line (at + 2) n (top_written now m (cell.Mark h)) (w h) e q) → ((h : ℕ) → KeepsMark code input m h (w h))
      → ((h : ℕ) (v : Store) (t : List PlainFrame) → (w h).goes v tt t → found_ok v t)
      → ((h : ℕ) → none_ok (top_written now m (cell.Mark h)))
      → Decides line at (n + 1) none_at now e found_ok none_ok q
  barrier_decides line at n none_at m now w e found_ok none_ok q mark choose cut kind runs keeps is_found is_none B left2 more2 fits2 found
      none b c le held s is on_found on_none =
      first_row code input line at n none_at m now w e left2 more2 fits2 found none q mark choose cut kind runs keeps b c le held s is
      (λ v y t there left. on_found v t there (is_found (length held) v t.now left))
      (λ t there. on_none t (record { mode = there.mode; here = there.here; frames = refl; entries = there.entries })
      (subst none_ok (sym there.frames) (is_none (length held))))

  -- WHILE: a turn from its condition on, to which the body leads back
  pub while_row : (line top m y exit : ℕ) (now : List PlainFrame) (w : Ways NoYield) (v : Store) (cond : Events NoYield)
      (body again : Store → Events NoYield) (found_ok : Store → List PlainFrame → Type 0) (none_ok : List PlainFrame → Type 0)
      (wb : Store → List PlainFrame → Ways NoYield) (q u : ℕ) → q ≤ suc u
      → Decides line top m exit now cond found_ok none_ok q → LeadsTo code input 1 y top
      → ((x : Store) (t : List PlainFrame) → found_ok x t → Runs code input line m y t (wb x t) (body x) (q - 1))
      → ((x : Store) (t : List PlainFrame) (z : Store) (t2 : List PlainFrame) → found_ok x t → (wb x t).goes z tt t2
      → Later code input line top exit t2 w (again z) u)
      → ((x : Store) (t : List PlainFrame) (z : Store) (n : Option ℤ) (a : ℕ) (t2 : List PlainFrame) → found_ok x t
      → (wb x t).returns z n a t2 → w.returns z n a t2)
      → ((t : List PlainFrame) → none_ok t → w.goes v tt t)
      → Visited code input line top exit now w (on_first cond (λ t _. bind (body t) (λ x _. again x)) (λ _. one v tt)) q
  while_row line top m y exit now w v cond body again found_ok none_ok wb q u owes decides back runs later returns ends held s is =
      decides NoYield 0 24 (Leaves exit w) (λ t _. bind (body t) (λ x _. again x)) (λ _. one v tt) 8 13 (omega arith) held s is
      (λ x t there ok.
      bind_goes code input line 8 0 24 (Leaves y (wb x t.now)) (Leaves exit w) held (body x) (λ z _. again z) t 21 (q - 1) 8 (omega arith)
      (omega arith)
      (weaker code input line 8 0 (Leaves y (wb x t.now)) held (body x) t 21 8 (q - 1) (q - 1) (omega arith) (omega arith)
      (runs x t.now ok 8 (omega arith) held t there))
      (λ z yield t2 base going left.
      let j = back t2.now base t2 (record { mode = going.mode; here = left.0; frames = refl; entries = going.entries }) in
      weaker code input line 0 24 (Leaves exit w) base (again z) t2 8 0 (q - 1) (q - 1) (omega arith) (omega arith)
      (later x t.now z t2.now ok left.1 j.0 (q - 1) (omega (arith, j.2)) (omega (arith, owes)) base t2 j.1 j.3 j.4))
      (λ z n t2 left. returns x t.now z n t2.at t2.now ok left))
      (λ t there ok. one_goes code input line 0 24 (Leaves exit w) held v tt t 13 (q - 1) (omega arith)
      (record { mode = there.mode; entries = there.entries }) (there.here, ends t.now ok))

  -- REPEAT: a turn, whose condition goes back to its top where it has no alternative
  pub repeat_row : (line top m exit : ℕ) (now : List PlainFrame) (w : Ways NoYield) (v : Store) (body cond again : Store → Events NoYield)
      (wb : Ways NoYield) (found_ok : Store → Store → List PlainFrame → Type 0) (none_ok : Store → List PlainFrame → Type 0) (q u : ℕ)
      → q ≤ suc u
      → Runs code input line top m now wb (body v) q
      → ((x : Store) (t : List PlainFrame) → wb.goes x tt t → Decides line m exit top t (cond x) (found_ok x) (none_ok x) q)
      → ((x z : Store) (t : List PlainFrame) → found_ok x z t → w.goes z tt t)
      → ((x : Store) (t : List PlainFrame) → none_ok x t → Later code input line top exit t w (again x) u)
      → ((x : Store) (n : Option ℤ) (a : ℕ) (t : List PlainFrame) → wb.returns x n a t → w.returns x n a t)
      → Visited code input line top exit now w (bind (body v) (λ t _. on_first (cond t) (λ x _. one x tt) (λ _. again t))) q
  repeat_row line top m exit now w v body cond again wb found_ok none_ok q u owes runs decides ends later returns held s is =
      bind_goes code input line 8 0 24 (Leaves m wb) (Leaves exit w) held (body v)
      (λ t _. on_first (cond t) (λ x _. one x tt) (λ _. again t)) s 24 q 8 (omega arith) (omega arith)
      (weaker code input line 8 0 (Leaves m wb) held (body v) s 24 8 q q (omega arith) (omega arith) (runs 8 (omega arith) held s is))
      (λ x y t base going left.
      decides x t.now left.1 NoYield 0 24 (Leaves exit w) (λ z _. one z tt) (λ _. again x) 5 0 (omega arith) base t
      (record { mode = going.mode; here = left.0; frames = refl; entries = going.entries })
      (λ z t2 there ok. one_goes code input line 0 24 (Leaves exit w) base z tt t2 5 (q - 1) (omega arith)
      (record { mode = there.mode; entries = there.entries }) (there.here, ends x z t2.now ok))
      (λ t2 there ok. later x t2.now ok 0 (q - 1) (omega arith) (omega (arith, owes)) base t2 t2 (no_step code input t2) there))
      (λ x n t left. returns x n t.at t.now left)

  -- an arm of IF: its body leaves by the jump behind it, and where the condition has no alternative the arms behind it follow
  pub arm_row : (line at m y next exit : ℕ) (now : List PlainFrame) (w : Ways NoYield) (cond : Events NoYield)
      (body : Store → Events NoYield) (rest : Events NoYield) (found_ok : Store → List PlainFrame → Type 0)
      (none_ok : List PlainFrame → Type 0) (q : ℕ)
      → Decides line at m next now cond found_ok none_ok q → LeadsTo code input 8 y exit
      → ((x : Store) (t : List PlainFrame) → found_ok x t → Runs code input line m y t w (body x) q)
      → ((t : List PlainFrame) → none_ok t → Behind code input line next exit t w rest q)
      → Visited code input line at exit now w (on_first cond (λ x _. visit_each (body x)) (λ _. rest)) q
  arm_row line at m y next exit now w cond body rest found_ok none_ok q decides leads runs later held s is =
      decides NoYield 0 24 (Leaves exit w) (λ x _. visit_each (body x)) (λ _. rest) 8 13 (omega arith) held s is
      (λ x t there ok.
      weaker code input line 0 24 (Leaves exit w) held (visit_each (body x)) t 21 8 (q - 1) q (omega arith) (omega arith)
      (inner_goes code input line m y exit t.now w (body x) q leads (runs x t.now ok) held t there))
      (λ t there ok. weaker code input line 0 24 (Leaves exit w) held rest t 13 8 (q - 1) q (omega arith) (omega arith)
      (later t.now ok held t there))

  -- a simple condition: the value of an expression that has one alternative at most, in the store on entry, is tested by a jump,
  -- which leads on where it is 0 and where it is another number
  module _ (line m found_at none_at b : ℕ) (v : Store) (wv : Ways ℤ) (held : List PlainEntry) (q : ℕ)
      (zero : (n : ℤ) (t : State) (there : IsAt m t.now held t) → wv.goes v n t.now → is_zero n ≡ true
      → Moves code input line m t.now held t there none_at)
      (other : (n : ℤ) (t : State) (there : IsAt m t.now held t) → wv.goes v n t.now → is_zero n ≡ false
      → Moves code input line m t.now held t there found_at)
      (B : Type 0) (left2 more2 : ℕ) (fits2 : Store → Flow B → State → Type 0) (found : Store → Flow NoYield → Events B)
      (none : Unit {0} → Events B) (c : ℕ)
      (on_found : (t : State) (n : ℤ) → IsAt found_at t.now held t → wv.goes v n t.now
      → Goes code input line left2 more2 fits2 held (found v (Go tt)) t (b + c) (q - 1))
      (on_none : (t : State) (n : ℤ) → IsAt none_at t.now held t → wv.goes v n t.now
      → Goes code input line left2 more2 fits2 held (none tt) t c (q - 1)) where
    abbrev tested : Store → ℤ → Events NoYield
    tested t n = if_true (is_zero n) (λ _. Fail) (λ _. one t tt)

    value_decides : {e : Events ℤ} → GivesOne ℤ v e → (s : State) (r x d : ℕ) → c + 1 ≤ x → d ≤ q
        → Goes code input line b 0 (Leaves m wv) held e s r d
        → Goes code input line left2 more2 fits2 held (on_first (visit_each (bind e tested)) found none) s (r + x) d
    value_decides (on_visit {e = e} h) s r x d le owes goes =
        weaker code input line left2 more2 fits2 held (on_first (visit_each (bind e tested)) found none) s (r + x + 32) (r + 32 + x) d d
        (omega arith) (omega arith) (value_decides h s (r + 32) x d le owes goes)
    value_decides at_fault s r x d le owes goes = (goes.0, goes.1, omega (arith, goes.2), goes.3, goes.4, goes.5)
    value_decides at_cut s r x d le owes goes = (goes.0, goes.1, omega (arith, goes.2), goes.3, goes.4, goes.5)
    value_decides (on_one {y = n}) s r x d le owes goes = by (is_zero n) refl
      where
        -- nothing stands above, since nothing is left to be tried
        alone : goes.4 ≡ []
        alone =
            let u : State = record goes.1 { mode = Failing; held = held ++ goes.4 } in
            let z = goes.7 held u (like_self held) (record { mode = refl; entries = refl }) in
            let none_left : z.0 ≡ 0 = omega (arith, z.2) in
            let same : z.1 ≡ u = sym z.3.steps ∙ ap (λ k. after code input k u) none_left in
            append-cancel held goes.4 (ap (λ t. t.held) (sym same) ∙ z.4.entries)

        there : IsAt m goes.1.now held goes.1
        there = record {
          mode = goes.5.mode;
          here = goes.6.0;
          frames = refl;
          entries = goes.5.entries ∙ ap (λ l. held ++ l) alone
              ∙ append-nil held;
        }

        by : (z : Bool) → is_zero n ≡ z → Goes code input line left2 more2 fits2 held
            (on_first (visit_each (join (if_true z (λ _. Fail) (λ _. one v tt)) Fail)) found none) s (r + x) d
        by true e =
            let w = zero n goes.1 there goes.6.1 e in
            before code input line left2 more2 fits2 held (none tt) s w.to (goes.0 + 1) (r + x) c d (q - 1)
            (and_then code input goes.3 w.silently) (omega (arith, goes.2, le)) (omega (arith, owes))
            (on_none w.to n (record { mode = w.is.mode; here = w.is.here; frames = refl; entries = w.is.entries })
            (subst (wv.goes v n) (sym w.is.frames) goes.6.1))
        by false e =
            let w = other n goes.1 there goes.6.1 e in
            before code input line left2 more2 fits2 held (found v (Go tt)) s w.to (goes.0 + 1) (r + x + 32) (b + c) d (q - 1)
            (and_then code input goes.3 w.silently) (omega (arith, goes.2, le)) (omega (arith, owes))
            (on_found w.to n (record { mode = w.is.mode; here = w.is.here; frames = refl; entries = w.is.entries })
            (subst (wv.goes v n) (sym w.is.frames) goes.6.1))

  -- the slot holds its value, and the jump leads to where the code goes on with none
  pub simple_decides : (line at m none_at slot : ℕ) (now : List PlainFrame) (v : Store) (value : Events ℤ) (wv : Ways ℤ)
      (found_ok : Store → List PlainFrame → Type 0) (none_ok : List PlainFrame → Type 0) (q : ℕ)
      → GivesOne ℤ v value → Runs code input line at m now wv value q → InstrAt code input line m (I.JumpZero slot none_at)
      → ((x : Store) (n : ℤ) (t : List PlainFrame) → wv.goes x n t → Holds t slot (cell.Int n))
      → ((n : ℤ) (t : List PlainFrame) → wv.goes v n t → found_ok v t) → ((n : ℤ) (t : List PlainFrame) → wv.goes v n t → none_ok t)
      → Decides line at (m + 1) none_at now (node (bind value (λ t n. if_true (is_zero n) (λ _. Fail) (λ _. one t tt)))) found_ok none_ok q
  simple_decides line at m none_at slot now v value wv found_ok none_ok q gives runs i holds is_found is_none B left2 more2 fits2 found
      none b c le held s is on_found on_none =
      weaker code input line left2 more2 fits2 held
      (on_first (visit_each (bind value (λ t n. if_true (is_zero n) (λ _. Fail) (λ _. one t tt)))) found none) s (3 + b + c + 32)
      (b + (c + 35)) q q (omega arith) (omega arith)
      (value_decides line m (m + 1) none_at b v wv held q
      (λ n t there fit e. zero_jumps code input line m t.now held t there slot none_at n i (holds v n t.now fit) e)
      (λ n t there fit e. other_goes_on code input line m t.now held t there slot none_at n i (holds v n t.now fit) e)
      B left2 more2 fits2 found none c
      (λ t n there fit. on_found v t there (is_found n t.now fit))
      (λ t n there fit. on_none t there (is_none n t.now fit))
      gives s b (c + 35) q (omega arith) (omega arith) (runs b le held s is))

  -- the slot holds the opposite of its value, and the jump leads to where the code goes on with an alternative
  pub turned_decides : (line at m found_at slot : ℕ) (now : List PlainFrame) (v : Store) (value : Events ℤ) (wv : Ways ℤ)
      (found_ok : Store → List PlainFrame → Type 0) (none_ok : List PlainFrame → Type 0) (q : ℕ)
      → GivesOne ℤ v value → Runs code input line at m now wv value q → InstrAt code input line m (I.JumpZero slot found_at)
      → ((x : Store) (n : ℤ) (t : List PlainFrame) → wv.goes x n t → Holds t slot (cell.Int (bit (is_zero n))))
      → ((n : ℤ) (t : List PlainFrame) → wv.goes v n t → found_ok v t) → ((n : ℤ) (t : List PlainFrame) → wv.goes v n t → none_ok t)
      → Decides line at found_at (m + 1) now (node (bind value (λ t n. if_true (is_zero n) (λ _. Fail) (λ _. one t tt)))) found_ok none_ok q
  turned_decides line at m found_at slot now v value wv found_ok none_ok q gives runs i holds is_found is_none B left2 more2 fits2 found
      none b c le held s is on_found on_none =
      weaker code input line left2 more2 fits2 held
      (on_first (visit_each (bind value (λ t n. if_true (is_zero n) (λ _. Fail) (λ _. one t tt)))) found none) s (3 + b + c + 32)
      (b + (c + 35)) q q (omega arith) (omega arith)
      (value_decides line m found_at (m + 1) b v wv held q
      (λ n t there fit e. other_goes_on code input line m t.now held t there slot found_at (bit (is_zero n)) i (holds v n t.now fit)
      (zero_bit (is_zero n) ∙ ap not e))
      (λ n t there fit e. zero_jumps code input line m t.now held t there slot found_at (bit (is_zero n)) i (holds v n t.now fit)
      (zero_bit (is_zero n) ∙ ap not e))
      B left2 more2 fits2 found none c
      (λ t n there fit. on_found v t there (is_found n t.now fit))
      (λ t n there fit. on_none t there (is_none n t.now fit))
      gives s b (c + 35) q (omega arith) (omega arith) (runs b le held s is))
