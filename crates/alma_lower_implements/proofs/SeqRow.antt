-- Lists of statements, NOT and OR; and parts whose way out is said in another word.
use Rattle.std.proofs.Common.{ℕ, ◌≤◌, List, refl, sym, subst, arith, ℤ, Option}
use Rattle.alma_code.specs.Picture.{PlainFrame, PlainEntry}
use Rattle.alma_code.specs.Plain.{PlainCode}
use Rattle.alma_code.specs.Machine.{State}
use Rattle.alma_mean.specs.Store.{Store}
use Rattle.alma_mean.specs.Events.{Events, NoYield, Flow, Go, Return, one, bind, at_line}
use Rattle.alma_lower_implements.proofs.Goes.{Silently, IsGoing, no_step, bind_goes, one_goes, lined_goes}
use Rattle.alma_lower_implements.proofs.Ways.{Ways, Leaves, Runs, then_up_to}

module _ (code : PlainCode) (input : List ℕ) where
  -- a weaker way out
  pub runs_less : {A : Type 0} (line at exit : ℕ) (now : List PlainFrame) (w w2 : Ways A) (e : Events A) (q : ℕ)
      → ((v : Store) (y : A) (t : List PlainFrame) → w.goes v y t → w2.goes v y t)
      → ((v : Store) (n : Option ℤ) (a : ℕ) (t : List PlainFrame) → w.returns v n a t → w2.returns v n a t)
      → Runs code input line at exit now w e q → Runs code input line at exit now w2 e q
  runs_less line at exit now w w2 e q goes returns runs c le held s is =
      then_up_to code input line c c 0 0 (Leaves exit w) (Leaves exit w2) held e s c q (omega arith) less (runs c le held s is)
    where
      less : (v : Store) (f : Flow _) (t : State) (base : List PlainEntry) → IsGoing base t → Leaves exit w v f t → (i : ℕ) × (u : State)
          × (i ≤ 0) × Silently code input i t u × IsGoing base u × Leaves exit w2 v f u
      less v (Go y) t base going left = (0, t, omega arith, no_step code input t, going, (left.0, goes v y t.now left.1))
      less v (Return n) t base going left = (0, t, omega arith, no_step code input t, going, returns v n t.at t.now left)

  -- a list without statements takes no step
  pub no_stmts_row : (line at : ℕ) (now : List PlainFrame) (w : Ways NoYield) (v : Store) (q : ℕ) → w.goes v tt now
      → Runs code input line at at now w (one v tt) q
  no_stmts_row line at now w v q goes c le held s is =
      one_goes code input line c 0 (Leaves at w) held v tt s c q (omega arith) (record { mode = is.mode; entries = is.entries })
      (is.here, subst (w.goes v tt) (sym is.frames) goes)

  -- a statement at its line, and the rest of the list
  pub more_stmts_row : (line given at m exit : ℕ) (now : List PlainFrame) (w1 w : Ways NoYield) (e : Events NoYield)
      (k : Store → Events NoYield) (q : ℕ) → 1 ≤ given → Runs code input given at m now w1 e q
      → ((v : Store) (t : List PlainFrame) → w1.goes v tt t → Runs code input line m exit t w (k v) q)
      → ((v : Store) (n : Option ℤ) (a : ℕ) (t : List PlainFrame) → w1.returns v n a t → w.returns v n a t)
      → Runs code input line at exit now w (bind (at_line given e) (λ t _. k t)) q
  more_stmts_row line given at m exit now w1 w e k q known first rest returns c le held s is =
      bind_goes code input line c c 0 (Leaves m w1) (Leaves exit w) held (at_line given e) (λ t _. k t) s c q c (omega arith) (omega arith)
      (lined_goes code input line given c 0 (Leaves m w1) held e s c q known (first c le held s is))
      (λ v y t base going left. rest v t.now left.1 c le base t
      (record { mode = going.mode; here = left.0; frames = refl; entries = going.entries }))
      (λ v n t left. returns v n t.at t.now left)
