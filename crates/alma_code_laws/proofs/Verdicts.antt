-- A code with no broken rule is sound, and the other way round.
use Rattle.std.proofs.Common.{◌≡◌, ℕ, zero, suc, ◌+◌, ◌-◌, ◌<◌, length, get_or, refl, ap, ◌∙◌, subst, arith, None}
use Rattle.std.specs.Prelude.{true, ◌↔◌}
use Rattle.alma_code.specs.declared.instr.Instr.TheVariants as I
use Rattle.alma_code.specs.Plain.{PlainCode, start_at, end_at}
use Rattle.alma_base.proofs.FirstFault.{unless_none, or_none}
use Rattle.alma_base.specs.FirstFault.{unless, or_else}
use Rattle.alma_code.specs.Rules.{breach, rule_1, rule_2, rule_3, instr_fault, instrs_fault, routine_fault, routines_fault}
use Rattle.alma_code.specs.Rules.{code_fault, IsTable, IsSound}

module _ (code : PlainCode) where
  -- where n instructions have no fault, each has none
  instr_sound : (r at n k : ℕ) → instrs_fault code r at n ≡ None → k < n
      → instr_fault code r (at + k) (get_or code.instrs (at + k) I.Fail) ≡ None
  unfolding instrs_fault
  instr_sound r at zero k e lt = absurd (omega arith)
  instr_sound r at (suc n) zero e lt =
      let z : at ≡ at + 0 = omega arith in
      subst (λ q. instr_fault code r q (get_or code.instrs q I.Fail) ≡ None) z
      (or_none (instr_fault code r at (get_or code.instrs at I.Fail)) (instrs_fault code r (suc at) n) e).0
  instr_sound r at (suc n) (suc k) e lt =
      let z : suc at + k ≡ at + suc k = omega arith in
      subst (λ q. instr_fault code r q (get_or code.instrs q I.Fail) ≡ None) z
      (instr_sound r (suc at) n k (or_none (instr_fault code r at (get_or code.instrs at I.Fail)) (instrs_fault code r (suc at) n) e).1
      (omega arith))

  -- where n routines have no fault, each has none
  routine_sound : (r n k : ℕ) → routines_fault code r n ≡ None → k < n → routine_fault code (r + k) ≡ None
  unfolding routines_fault
  routine_sound r zero k e lt = absurd (omega arith)
  routine_sound r (suc n) zero e lt = let z : r ≡ r + 0 = omega arith in
      subst (λ q. routine_fault code q ≡ None) z (or_none (routine_fault code r) (routines_fault code (suc r) n) e).0
  routine_sound r (suc n) (suc k) e lt =
      let z : suc r + k ≡ r + suc k = omega arith in
      subst (λ q. routine_fault code q ≡ None) z
      (routine_sound (suc r) n k (or_none (routine_fault code r) (routines_fault code (suc r) n) e).1 (omega arith))

  -- a routine without a fault keeps the rules of its head, and its instructions have none
  parts : (r : ℕ) → routine_fault code r ≡ None → ((rule_1 code r ≡ true) × (rule_2 code r ≡ true) × (rule_3 code r ≡ true))
      × (instrs_fault code r (start_at code r) (end_at code r - start_at code r) ≡ None)
  unfolding routine_fault
  parts r e =
      let a = unless_none (rule_1 code r) _ _ e in
      let b = unless_none (rule_2 code r) _ _ a.1 in
      let c = unless_none (rule_3 code r) _ _ b.1 in
      ((a.0, b.0, c.0), c.1)

  -- a code with no broken rule is sound
  pub sound_from : IsTable code → code_fault code ≡ None → IsSound code
  sound_from table e =
      let each : (r : ℕ) → r < length code.routines → routine_fault code r ≡ None =
      λ r lt. let z : 0 + r ≡ r = omega arith in
      subst (λ q. routine_fault code q ≡ None) z (routine_sound 0 (length code.routines) r e lt) in
      record {
        table = table;
        heads = λ r lt. (parts r (each r lt)).0;
        instrs = λ r at lt low high.
            let z : start_at code r + (at - start_at code r) ≡ at = omega arith in
            subst (λ q. instr_fault code r q (get_or code.instrs q I.Fail) ≡ None) z
            (instr_sound r (start_at code r) (end_at code r - start_at code r) (at - start_at code r) (parts r (each r lt)).1
            (omega arith));
      }

  -- where each of n instructions has no fault, all have none
  instrs_free : (r at n : ℕ) → ((k : ℕ) → k < n → instr_fault code r (at + k) (get_or code.instrs (at + k) I.Fail) ≡ None)
      → instrs_fault code r at n ≡ None
  unfolding instrs_fault
  instrs_free r at zero h = refl
  instrs_free r at (suc n) h =
      let z : at + 0 ≡ at = omega arith in
      let first : instr_fault code r at (get_or code.instrs at I.Fail) ≡ None =
      subst (λ q. instr_fault code r q (get_or code.instrs q I.Fail) ≡ None) z (h 0 (omega arith)) in
      ap (λ f. or_else f (instrs_fault code r (suc at) n)) first
      ∙ instrs_free r (suc at) n (λ k lt. let y : at + suc k ≡ suc at + k = omega arith in
      subst (λ q. instr_fault code r q (get_or code.instrs q I.Fail) ≡ None) y (h (suc k) (omega arith)))

  -- where each of n routines has no fault, all have none
  routines_free : (r n : ℕ) → ((k : ℕ) → k < n → routine_fault code (r + k) ≡ None) → routines_fault code r n ≡ None
  unfolding routines_fault
  routines_free r zero h = refl
  routines_free r (suc n) h =
      let z : r + 0 ≡ r = omega arith in
      let first : routine_fault code r ≡ None = subst (λ q. routine_fault code q ≡ None) z (h 0 (omega arith)) in
      ap (λ f. or_else f (routines_fault code (suc r) n)) first
      ∙ routines_free (suc r) n (λ k lt. let y : r + suc k ≡ suc r + k = omega arith in
      subst (λ q. routine_fault code q ≡ None) y (h (suc k) (omega arith)))

  -- a routine that keeps the rules of its head, and whose instructions have no fault, has none
  whole : (r : ℕ) → (rule_1 code r ≡ true) × (rule_2 code r ≡ true) × (rule_3 code r ≡ true)
      → instrs_fault code r (start_at code r) (end_at code r - start_at code r) ≡ None → routine_fault code r ≡ None
  unfolding routine_fault
  whole r h e =
      let rest = instrs_fault code r (start_at code r) (end_at code r - start_at code r) in
      ap (λ b. unless b (breach 1 r) (unless (rule_2 code r) (breach 2 r) (unless (rule_3 code r) (breach 3 r) rest))) h.0
      ∙ ap (λ b. unless b (breach 2 r) (unless (rule_3 code r) (breach 3 r) rest)) h.1
      ∙ ap (λ b. unless b (breach 3 r) rest) h.2 ∙ e

  -- a sound code has no broken rule
  pub no_fault : IsSound code → code_fault code ≡ None
  no_fault sound =
      routines_free 0 (length code.routines)
      (λ r lt.
      let z : r ≡ 0 + r = omega arith in
      subst (λ q. routine_fault code q ≡ None) z
      (whole r (sound.heads r lt)
      (instrs_free r (start_at code r) (end_at code r - start_at code r)
      (λ k lk. sound.instrs r (start_at code r + k) lt (omega arith) (omega arith)))))

-- a code whose tables are in order is sound exactly where no rule is broken
pub sound_where_no_fault : (code : PlainCode) → IsTable code → (IsSound code ↔ (code_fault code ≡ None))
sound_where_no_fault code table = (no_fault code, sound_from code table)
