-- Each program of a pool runs as if it were alone.
use Rattle.std.proofs.Common.{◌≡◌, ◌<◌, ◌+◌, ◌∙◌, ℕ, List, [], ◌∷◌, ◌++◌, length, sym, ap, subst, inl, inr, arith}
use Rattle.std.proofs.lemmas.List.{get_or-set_same, get_or-set_other, length-set}
use Rattle.std.proofs.lemmas.Bool.{cases_eq, eq-eqb, ne_eqb}
use Rattle.std.specs.Prelude.{◌⊎◌, eqb, cond}
use Rattle.alma_code.specs.Machine.{State, step, after, prints, start}
use Rattle.alma_code.specs.Plain.{PlainCode}
use Rattle.alma_machine.proofs.Budget.{after_more, prints_more, prints_sum}
use Rattle.alma_pool.specs.Pool.{PlayerState, PoolView, LoneRun, seen_of, player_at_start, player_after, take_turn, no_program, program_at}
use Rattle.alma_pool.specs.Pool.{after_turn}
use Rattle.alma_pool.specs.Pool.{after_turns}
use Rattle.alma_pool.specs.Pool.{turns_of}
use Rattle.alma_pool.specs.Laws.{StandsAlone, RunAlone, PrintsFront}

-- the program stands where its run alone is after so many turns
pub record IsAt (code : PlainCode) (input : List ℕ) (turns : ℕ) (p : PlayerState) : Type 0 where
  pub code_is : p.code ≡ code
  pub input_is : p.input ≡ input
  pub state_is : p.state ≡ after code input turns (start code)
  pub output_is : p.output ≡ prints code input turns (start code)

-- so it stands after one more
pub at_more : (code : PlainCode) (input : List ℕ) (turns : ℕ) (p : PlayerState) → IsAt code input turns p
    → IsAt code input (turns + 1) (take_turn p)
at_more code input turns p h =
    let same : step p.code p.input p.state ≡ step code input (after code input turns (start code)) =
    ap (λ c. step c p.input p.state) h.code_is ∙ ap (λ i. step code i p.state) h.input_is ∙ ap (step code input) h.state_is in
    record {
      code_is = h.code_is;
      input_is = h.input_is;
      state_is = ap (λ x. x.state) same ∙ sym (after_more code input turns (start code));
      output_is = ap (λ x. p.output ++ x.printed) same
          ∙ ap (λ o. o ++ (step code input (after code input turns (start code))).printed) h.output_is
          ∙ sym (prints_more code input turns (start code));
    }

-- so it is the program alone
is_after : (code : PlainCode) (input : List ℕ) (turns : ℕ) (p : PlayerState) → IsAt code input turns p
    → p ≡ player_after code input turns
is_after code input turns p h =
    let made : PlainCode → List ℕ → State → List ℕ → PlayerState = λ c i s o. record { code = c; input = i; state = s; output = o } in
    let state = after code input turns (start code) in
    ap (λ c. made c p.input p.state p.output) h.code_is ∙ ap (λ i. made code i p.state p.output) h.input_is
    ∙ ap (λ s. made code input s p.output) h.state_is ∙ ap (λ o. made code input state o) h.output_is

-- what one turn of some program makes of it
at_turn : (pool : PoolView) (j k : ℕ) (code : PlainCode) (input : List ℕ) (t : ℕ) → k < length pool.programs
    → IsAt code input t (program_at pool k) → IsAt code input (t + cond (eqb j k) 1 0) (program_at (after_turn pool j) k)
at_turn pool j k code input t there h = by (cases_eq j k)
  where
    by : (j ≡ k) ⊎ (j ≡ k → ⊥) → IsAt code input (t + cond (eqb j k) 1 0) (program_at (after_turn pool j) k)
    by (inl e) =
        let here : program_at (after_turn pool j) k ≡ take_turn (program_at pool k) =
        ap (λ i. program_at (after_turn pool i) k) e ∙ get_or-set_same pool.programs k (take_turn (program_at pool k)) no_program there in
        let one : IsAt code input (t + 1) (program_at (after_turn pool j) k) =
        subst (λ (p : PlayerState). IsAt code input (t + 1) p) (sym here) (at_more code input t (program_at pool k) h) in
        rw (eq-eqb j k e) one
    by (inr ne) =
        let here : program_at (after_turn pool j) k ≡ program_at pool k =
        get_or-set_other pool.programs j k (take_turn (program_at pool j)) no_program (λ e. ne (sym e)) in
        let same : IsAt code input t (program_at (after_turn pool j) k) = subst (λ (p : PlayerState). IsAt code input t p) (sym here) h in
        let none : t ≡ t + 0 = omega arith in
        rw (ne_eqb j k ne) (subst (λ (n : ℕ). IsAt code input n (program_at (after_turn pool j) k)) none same)

-- after a list of turns
pub at_turns : (pool : PoolView) (turns : List ℕ) (k : ℕ) (code : PlainCode) (input : List ℕ) (t : ℕ) → k < length pool.programs
    → IsAt code input t (program_at pool k) → IsAt code input (t + turns_of k turns) (program_at (after_turns pool turns) k)
at_turns pool [] k code input t there h =
    let e : t ≡ t + 0 = omega arith in
    subst (λ (n : ℕ). IsAt code input n (program_at pool k)) e h
at_turns pool (j ∷ turns) k code input t there h =
    let still : k < length (after_turn pool j).programs =
    omega (arith, there, length-set pool.programs j (take_turn (program_at pool j))) in
    let e : t + cond (eqb j k) 1 0 + turns_of k turns ≡ t + (cond (eqb j k) 1 0 + turns_of k turns) = omega arith in
    subst (λ (n : ℕ). IsAt code input n (program_at (after_turns (after_turn pool j) turns) k)) e
    (at_turns (after_turn pool j) turns k code input (t + cond (eqb j k) 1 0) still (at_turn pool j k code input t there h))

-- a program that began is at its start
pub at_start : (code : PlainCode) (input : List ℕ) (p : PlayerState) → p ≡ player_at_start code input → IsAt code input 0 p
at_start code input p e = record {
  code_is = ap (λ q. q.code) e;
  input_is = ap (λ q. q.input) e;
  state_is = ap (λ q. q.state) e;
  output_is = ap (λ q. q.output) e;
}

pub stands_alone : StandsAlone
stands_alone pool turns k code input there e =
    is_after code input (turns_of k turns) (program_at (after_turns pool turns) k)
    (subst (λ (n : ℕ). IsAt code input n (program_at (after_turns pool turns) k)) (omega arith)
    (at_turns pool turns k code input 0 there (at_start code input (program_at pool k) e)))

-- and what is seen of it is its run alone
pub run_alone : RunAlone
run_alone pool turns k code input there e = ap seen_of (stands_alone pool turns k code input there e)

-- and has printed a front of what it prints alone
pub prints_front : PrintsFront
prints_front pool turns k code input more there e =
    let t = turns_of k turns in
    let rest = prints code input more (after code input t (start code)) in
    let same : (program_at (after_turns pool turns) k).output ≡ prints code input t (start code) =
    ap (λ (l : LoneRun). l.output) (run_alone pool turns k code input there e) in
    (rest, prints_sum code input t more (start code) ∙ ap (λ o. o ++ rest) (sym same))
