-- Code without a reading instruction runs alike on each input.
use Rattle.std.proofs.Common.{◌≡◌, ◌∙◌, ◌++◌, ℕ, zero, suc, List, [], ◌∷◌, refl, ap, sym}
use Rattle.std.specs.Prelude.{◌||◌, Bool, true, false, Option, Some, None, slice_get}
use Rattle.std.specs.List.{list_any}
use Rattle.alma_code.specs.declared.instr.Instr.{Instr}
use Rattle.alma_code.specs.declared.instr.Instr.TheVariants as I
use Rattle.alma_code.specs.Plain.{PlainCode}
use Rattle.alma_code.specs.Reads.{is_read, code_reads}
use Rattle.alma_code.specs.Machine.{Mode, Going, Failing, Ended, Stuck, State, StepResult, act, fetch_and_act, step_in, step, after, prints}

-- neither of two where not one of them
neither : (a b : Bool) → (a || b) ≡ false → (a ≡ false) × (b ≡ false)
neither false b e = (refl, e)
neither true b e = cc e

-- no instruction reads where none of them does
none_reads : (is : List Instr) (k : ℕ) (i : Instr) → list_any is_read is ≡ false → slice_get is k ≡ Some i → is_read i ≡ false
none_reads [] k i q e = cc e
none_reads (x ∷ is) zero i q e =
    let same : x ≡ i = cc e in
    sym (ap is_read same) ∙ (neither (is_read x) (list_any is_read is) q).0
none_reads (x ∷ is) (suc k) i q e = none_reads is k i (neither (is_read x) (list_any is_read is) q).1 e

module _ (code : PlainCode) (input other : List ℕ) where
  -- what an instruction does that does not read
  act_alike : (i : Instr) (s : State) → is_read i ≡ false → act code input i s ≡ act code other i s
  unfolding act
  act_alike (I.Const a v) s q = refl
  act_alike (I.Move a b) s q = refl
  act_alike (I.Add a b c) s q = refl
  act_alike (I.Sub a b c) s q = refl
  act_alike (I.Mul a b c) s q = refl
  act_alike (I.Div a b c) s q = refl
  act_alike (I.Mod a b c) s q = refl
  act_alike (I.Neg a b) s q = refl
  act_alike (I.Equal a b c) s q = refl
  act_alike (I.Less a b c) s q = refl
  act_alike (I.LessEq a b c) s q = refl
  act_alike (I.Flip a b) s q = refl
  act_alike (I.InRange a r) s q = refl
  act_alike (I.Local a b) s q = refl
  act_alike (I.Global a b) s q = refl
  act_alike (I.Same a b) s q = refl
  act_alike (I.Field a b c) s q = refl
  act_alike (I.Index a b c d) s q = refl
  act_alike (I.Load a b) s q = refl
  act_alike (I.Store a b) s q = refl
  act_alike (I.Known a b) s q = refl
  act_alike (I.Bind a b c) s q = refl
  act_alike (I.Unify a b c d) s q = refl
  act_alike (I.CopyCells a b) s q = refl
  act_alike (I.SameCells a b) s q = refl
  act_alike (I.Jump a) s q = refl
  act_alike (I.JumpZero a b) s q = refl
  act_alike (I.Check a) s q = refl
  act_alike I.Fail s q = refl
  act_alike (I.Mark a) s q = refl
  act_alike (I.Cut a) s q = refl
  act_alike (I.Choose a) s q = refl
  act_alike (I.Forall a b) s q = refl
  act_alike (I.Overlay a b) s q = refl
  act_alike (I.Keep a) s q = refl
  act_alike I.Finish s q = refl
  act_alike (I.Call r b c) s q = refl
  act_alike I.Return s q = refl
  act_alike (I.ReturnValue a) s q = refl
  act_alike (I.ReadInt a r) s q = cc q
  act_alike (I.ReadChar a r) s q = cc q
  act_alike (I.WriteInt a) s q = refl
  act_alike (I.WriteChar a) s q = refl
  act_alike (I.WriteBool a) s q = refl
  act_alike (I.WriteText a) s q = refl
  act_alike I.WriteLine s q = refl
  act_alike (I.Fault n) s q = refl
  act_alike (I.Step a b c d) s q = refl
  act_alike (I.Own a) s q = refl
  act_alike (I.Chain a b c) s q = refl
  act_alike (I.Outer a b c) s q = refl
  act_alike (I.OuterSame a b c) s q = refl

  -- what is taken at an address
  fetched_alike : (o : Option Instr) (s : State) → ((i : Instr) → o ≡ Some i → is_read i ≡ false)
      → fetch_and_act code input o s ≡ fetch_and_act code other o s
  fetched_alike None s q = refl
  fetched_alike (Some i) s q = act_alike i _ (q i refl)

  -- a step
  step_alike : (m : Mode) (s : State) → code_reads code ≡ false → step_in code input m s ≡ step_in code other m s
  step_alike Going s q = fetched_alike (slice_get code.instrs s.at) s (λ i e. none_reads code.instrs s.at i q e)
  step_alike Failing s q = refl
  step_alike (Ended e) s q = refl
  step_alike Stuck s q = refl

  -- the state after steps
  pub after_alike : (n : ℕ) (s : State) → code_reads code ≡ false → after code input n s ≡ after code other n s
  after_alike zero s q = refl
  after_alike (suc n) s q =
      ap (λ (x : StepResult). after code input n x.state) (step_alike s.mode s q) ∙ after_alike n (step code other s).state q

  -- what steps print
  pub prints_alike : (n : ℕ) (s : State) → code_reads code ≡ false → prints code input n s ≡ prints code other n s
  prints_alike zero s q = refl
  prints_alike (suc n) s q =
      ap (λ (x : StepResult). x.printed ++ prints code input n x.state) (step_alike s.mode s q)
      ∙ ap (λ (z : List ℕ). (step code other s).printed ++ z) (prints_alike n (step code other s).state q)
