-- What is known of the level below: lists, conditions and turns, wherever they stand.
use Rattle.std.proofs.Common.{◌≡◌, ℕ, zero, suc, ◌+◌, ◌-◌, ◌<◌, ◌≤◌, Bool, true, List, ◌++◌, length, refl, sym, ap, ◌∙◌, subst, arith}
use Rattle.alma_code.specs.Picture.{PlainFrame, PlainEntry}
use Rattle.alma_code.specs.Plain.{PlainCode}
use Rattle.alma_code.specs.Machine.{State, Mode, Going, Failing, Ended, Stuck, after, step}
use Rattle.alma_code.specs.Machine as machine
use Rattle.alma_ir.specs.Tree.{Program, Stmts, Test, Loop, While, Repeat, ForTo, SomeOf, a_loop}
use Rattle.alma_ir.specs.Lines.{behind, stmts_with, test_with, loop_with}
use Rattle.alma_ir.specs.Phrases.{StmtPhrase, stmts_phrases, test_phrases, loop_phrases}
use Rattle.alma_mean.specs.Store.{Store}
use Rattle.alma_mean.specs.Events.{Events, NoYield}
use Rattle.alma_mean.specs.Meaning.{Level, level_0}
use Rattle.alma_lower_implements.proofs.Goes.{IsOn, Silently, no_step, weaker}
use Rattle.alma_lower_implements.proofs.Frames.{HasSlots, IsAt}
use Rattle.alma_lower_implements.proofs.Ways.{Leaves}
use Rattle.alma_lower_templates.specs.LineInstr.{LineInstr}
use Rattle.alma_lower_templates.specs.Tables.{Tables}
use Rattle.alma_lower_templates.specs.Slots.{is_simple, is_turned, mark_slots, test_slots, stmts_slots, stmt_slots}
use Rattle.alma_lower_templates.specs.Stands.{Stands}
use Rattle.alma_lower_templates.specs.Templates.{stmts_code, stmt_code}
use Rattle.alma_lower_templates.proofs.Asked.{Asked, Fine, Stays}
use Rattle.alma_lower_templates.proofs.ForForms.{CountsOn}
use Rattle.alma_lower_templates.proofs.ForStatement.{for_top}
use Rattle.alma_lower_templates.proofs.GuardedForms.{Decided}
use Rattle.alma_lower_templates.proofs.LoopForms.{TurnsRun, HeldTurnsRun, while_top, while_exit, repeat_exit}
use Rattle.alma_lower_templates.proofs.Parts.{RunsFor, ending}
use Rattle.alma_lower_templates.proofs.SomeForms.{TurnsOn, some_top, some_exit}
use Rattle.alma_lower_templates.proofs.Turned.{GoesBack}

module _ (p : Program) (tables : Tables) (code : PlainCode) (input : List ℕ) where
  -- statements that pay for more pay for less
  pub owes_less : (may : Bool) (r line at lo : ℕ) (made : List LineInstr) (f : Store → Events NoYield) (q u : ℕ) → u ≤ q
      → RunsFor p code input may r line at lo made f q → RunsFor p code input may r line at lo made f u
  owes_less may r line at lo made f q u le h stands v now b c few held s is =
      weaker code input line c 0 (Leaves (at + length made) (ending p code input may lo r now)) held (f v) s c c u q (omega arith) le
      (h stands v now b c few held s is)

  -- the turns of a loop, given the loop with its lines
  abbrev pub ForTurns : (below : Level) (may : Bool) (r line at lo : ℕ) → Loop → (q : ℕ) → Type 0
  ForTurns below may r line at lo (a_loop d range counter limit from to by body) q =
      CountsOn p tables code input below r line q may (for_top p tables code input below r line q may at lo limit from to by)
      (at + length (stmt_code p tables r line at lo (ForTo (a_loop d range counter limit from to by body)))) lo
      counter by (below.for (a_loop d range counter limit from to by body)) q

  abbrev pub SomeTurns : (below : Level) (may : Bool) (r line at lo : ℕ) → Loop → (q : ℕ) → Type 0
  SomeTurns below may r line at lo (a_loop d range counter limit from to by body) q =
      TurnsOn p tables code input below r line q may (some_top p tables code input below r line q may at lo limit from to)
      (some_exit p tables code input below r line q may at lo (a_loop d range counter limit from to by body)) lo counter limit
      (below.some (a_loop d range counter limit from to by body)) q

  pub record Below (below : Level) (m : ℕ) : Type 1 where
    pub lists : (may : Bool) (r line : ℕ) → r < length p.routines → (x : Stmts) (ls : List ℕ)
        → Fine p tables code input r (stmts_phrases x) ls → Stays p tables code input may (stmts_phrases x) → (at lo : ℕ)
        → HasSlots p code r lo (stmts_slots p r (stmts_with x ls))
        → RunsFor p code input may r line at lo (stmts_code p tables r at lo (stmts_with x ls)) (below.stmts (stmts_with x ls)) m
    pub tests : (r line : ℕ) → r < length p.routines → (t : Test) (ls : List ℕ) → Fine p tables code input r (test_phrases t) ls
        → (at lo none : ℕ) → HasSlots p code r lo (mark_slots (is_simple (test_with t ls)) ++ test_slots p r (test_with t ls))
        → Decided p tables code input below r line m at lo none (test_with t ls) (below.test (test_with t ls)) m
    pub backs : (r line : ℕ) → r < length p.routines → (t : Test) (ls : List ℕ) → Fine p tables code input r (test_phrases t) ls
        → is_turned (test_with t ls) ≡ true → (at lo held top : ℕ) → HasSlots p code r lo (test_slots p r (test_with t ls))
        → GoesBack p tables code input below r line m at lo held top (test_with t ls) (below.test (test_with t ls)) m
    pub whiles : (may : Bool) (r line : ℕ) → r < length p.routines → (t : Test) (x : Stmts) (ls : List ℕ)
        → Fine p tables code input r (test_phrases t ++ stmts_phrases x) ls
        → Stays p tables code input may (test_phrases t ++ stmts_phrases x)
        → (at lo : ℕ) → HasSlots p code r lo (stmt_slots p r (While (test_with t ls) (stmts_with x (behind (test_phrases t) ls))))
        → Stands code at (stmt_code p tables r line at lo (While (test_with t ls) (stmts_with x (behind (test_phrases t) ls))))
        → HeldTurnsRun p tables code input below r line m may
        (while_top p tables code input below r line m at lo (test_with t ls) (stmts_with x (behind (test_phrases t) ls)))
        (while_exit p tables code input below r line m at lo (test_with t ls) (stmts_with x (behind (test_phrases t) ls))) lo
        (test_with t ls) (below.while (test_with t ls) (stmts_with x (behind (test_phrases t) ls))) (m - 1)
    pub repeats : (may : Bool) (r line : ℕ) → r < length p.routines → (x : Stmts) (t : Test) (ls : List ℕ)
        → Fine p tables code input r (stmts_phrases x ++ test_phrases t) ls
        → Stays p tables code input may (stmts_phrases x ++ test_phrases t)
        → (at lo : ℕ) → HasSlots p code r lo (stmt_slots p r (Repeat (stmts_with x ls) (test_with t (behind (stmts_phrases x) ls))))
        → Stands code at (stmt_code p tables r line at lo (Repeat (stmts_with x ls) (test_with t (behind (stmts_phrases x) ls))))
        → TurnsRun p tables code input below r line m may
        at (repeat_exit p tables code input below r line m at lo (stmts_with x ls) (test_with t (behind (stmts_phrases x) ls))) lo
        (below.repeat (stmts_with x ls) (test_with t (behind (stmts_phrases x) ls))) m
    pub fors : (may : Bool) (r line : ℕ) → r < length p.routines → (l : Loop) (ls : List ℕ)
        → Asked p tables code input r (StmtPhrase (ForTo l)) → Fine p tables code input r (loop_phrases l) ls
        → Stays p tables code input may (loop_phrases l) → (at lo : ℕ) → HasSlots p code r lo (stmt_slots p r (ForTo (loop_with l ls)))
        → Stands code at (stmt_code p tables r line at lo (ForTo (loop_with l ls))) → ForTurns below may r line at lo (loop_with l ls) m
    pub somes : (may : Bool) (r line : ℕ) → r < length p.routines → (l : Loop) (ls : List ℕ)
        → Asked p tables code input r (StmtPhrase (SomeOf l)) → Fine p tables code input r (loop_phrases l) ls
        → Stays p tables code input may (loop_phrases l) → (at lo : ℕ) → HasSlots p code r lo (stmt_slots p r (SomeOf (loop_with l ls)))
        → Stands code at (stmt_code p tables r line at lo (SomeOf (loop_with l ls))) → SomeTurns below may r line at lo (loop_with l ls) m

  -- ---- at level 0 all is cut off

  -- a machine in this mode does not change
  stays_in : (m : Mode) → ((s : State) → s.mode ≡ m → (machine.step_in code input m s).state ≡ s) → (k : ℕ) (s : State) → s.mode ≡ m
      → after code input k s ≡ s
  stays_in m still zero s e = refl
  stays_in m still (suc k) s e =
      let same : (step code input s).state ≡ s = ap (λ x. (machine.step_in code input x s).state) e ∙ still s e in
      ap (after code input k) same ∙ stays_in m still k s e

  -- a state from which a machine goes on is one in which it goes on
  on_before : (j : ℕ) (s u : State) → Silently code input j s u → IsOn u.mode → IsOn s.mode
  on_before j s u runs on = by s.mode refl
    where
      over : (m : Mode) → ((t : State) → t.mode ≡ m → (machine.step_in code input m t).state ≡ t) → s.mode ≡ m → IsOn s.mode
      over m still e = subst IsOn (sym (ap (λ t. t.mode) (sym (stays_in m still j s e) ∙ runs.steps))) on

      by : (m : Mode) → s.mode ≡ m → IsOn s.mode
      by Going e = subst IsOn (sym e) tt
      by Failing e = subst IsOn (sym e) tt
      by Stuck e = over Stuck (λ t is. ap (λ m. record t { mode = m }) (sym is)) e
      by (Ended x) e = over (Ended x) (λ t is. refl) e

  -- what a part that is cut off comes to
  abbrev CutHere : (s : State) (r q : ℕ) → Type 0
  CutHere s r q = (k : ℕ) × (t : State) × (k ≤ r) × Silently code input k s t × (q ≤ k) × IsOn t.mode

  cut_here : (s : State) (r q : ℕ) → q ≤ 0 → IsOn s.mode → CutHere s r q
  cut_here s r q le on = (0, s, omega arith, no_step code input s, omega (arith, le), on)

  cut_later : (at : ℕ) (now : List PlainFrame) (j d : ℕ) → j ≤ 8 → d ≤ 0 → (held : List PlainEntry) (s u : State)
      → Silently code input j s u → IsAt at now held u → CutHere s 0 d
  cut_later at now j d few owes held s u silently is = cut_here s 0 d owes (on_before j s u silently (subst IsOn (sym is.mode) tt))

  cut_for : (may : Bool) (r line at lo : ℕ) (l : Loop) → ForTurns level_0 may r line at lo l 0
  cut_for may r line at lo (a_loop d range counter limit from to by body) =
      λ v now n b known step. λ j d few owes held s u silently is. cut_later _ now j d few owes held s u silently is

  cut_some : (may : Bool) (r line at lo : ℕ) (l : Loop) → SomeTurns level_0 may r line at lo l 0
  cut_some may r line at lo (a_loop d range counter limit from to by body) =
      λ v now n m b known known_limit step. λ j d few owes held s u silently is. cut_later _ now j d few owes held s u silently is

  pub below_none : Below level_0 0
  below_none = record {
    lists = λ may r line lt x ls fine stays at lo slots stands v now b c few held s is. cut_here s c 0 (omega arith)
        (subst IsOn (sym is.mode) tt);
    tests = λ r line lt t ls fine at lo none slots v now b stands B left2 more2 fits2 found nothing b2 c le held s is on_found on_none.
        cut_here s (3 + b2 + c) 0 (omega arith) (subst IsOn (sym is.mode) tt);
    backs = λ r line lt t ls fine e at lo part top slots v now b known stands B left2 more2 fits2 found nothing b2 c le held s is on_found
        on_none. cut_here s (3 + b2 + c) 0 (omega arith) (subst IsOn (sym is.mode) tt);
    whiles = λ may r line lt t x ls fine stays at lo slots stands v now b known. λ j d few owes held s u silently is. cut_later _ now j d
        few owes held s u silently is;
    repeats = λ may r line lt x t ls fine stays at lo slots stands v now b. λ j d few owes held s u silently is. cut_later _ now j d few
        owes held s u silently is;
    fors = λ may r line lt l ls asked fine stays at lo slots stands. cut_for may r line at lo (loop_with l ls);
    somes = λ may r line lt l ls asked fine stays at lo slots stands. cut_some may r line at lo (loop_with l ls);
  }
