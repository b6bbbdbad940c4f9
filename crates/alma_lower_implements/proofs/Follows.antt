-- From the relation to what it is that code implements a program: the state after any number of steps.
use Rattle.std.proofs.Common.{◌≡◌, ◌≤◌, ◌<◌, ◌⊎◌, inl, inr, ℕ, zero, suc, ◌+◌, ◌-◌, ◌*◌, List, [], ◌∷◌, ◌++◌, refl, sym, ap, ◌∙◌, subst}
use Rattle.std.proofs.Common.{arith}
use Rattle.std.proofs.lemmas.Bool.{cases_lt}
use Rattle.alma_code.specs.declared.step.End.{End}
use Rattle.alma_code.specs.declared.step.End.TheVariants as end
use Rattle.alma_code.specs.Picture.{PlainEntry}
use Rattle.alma_code.specs.Plain.{PlainCode}
use Rattle.alma_code.specs.Machine.{Mode, Going, Failing, Ended, Stuck, State, step, after}
use Rattle.alma_code.specs.Machine as machine
use Rattle.alma_mean.specs.Store.{Store}
use Rattle.alma_mean.specs.Events.{Events, NoYield, Flow, Visit, Print, Alt, Fail, Fault, Cut, first, end_of, prints, line_or, Faulted}
use Rattle.alma_lower_implements.specs.Implements.{HasPrefix, nothing, a_visit, a_print, meant_end, line_in}
use Rattle.alma_lower_implements.proofs.Goes.{IsOn, IsFailing, IsGoing, Silently, Goes, after_sum, prints_sum}

-- a front of the events with at least so many visits, where r steps were paid for before
pub record CoversFrom {A : Type 0} (r n : ℕ) (e : Events A) (printed : List ℕ) : Type 0 where
  pub visits : ℕ
  pub front : HasPrefix e printed visits
  pub paid : n ≤ r + 32 * visits

-- what n steps may have come to
abbrev pub AgreesFrom : {A : Type 0} → (r n : ℕ) → Events A → Mode → (line : ℕ) → List ℕ → Type 0
AgreesFrom r n e (Ended x) line printed = (end_of e ≡ meant_end x line) × (prints e ≡ printed)
AgreesFrom r n e Going line printed = CoversFrom r n e printed
AgreesFrom r n e Failing line printed = CoversFrom r n e printed
AgreesFrom r n e Stuck line printed = CoversFrom r n e printed

-- nothing is put together from nothing alone
front_of_nothing : (a b : List ℕ) → a ++ b ≡ [] → a ≡ []
front_of_nothing [] b e = refl
front_of_nothing (x ∷ a) b e = absurd (cc)

-- with no statement around, the line is the event's own
line_or_none : (own : ℕ) → line_or own 0 ≡ own
line_or_none zero = refl
line_or_none (suc own) = refl

module _ (code : PlainCode) (input : List ℕ) where
  -- an ended machine does not change, and prints nothing
  still : (s : State) (x : End) → s.mode ≡ Ended x → ((step code input s).state ≡ s) × ((step code input s).printed ≡ [])
  still s x e =
      (ap (λ m. (machine.step_in code input m s).state) e, ap (λ m. (machine.step_in code input m s).printed) e)

  pub ended_stays : (k : ℕ) (s : State) (x : End) → s.mode ≡ Ended x → (after code input k s ≡ s) × (machine.prints code input k s ≡ [])
  ended_stays zero s x e = (refl, refl)
  ended_stays (suc k) s x e =
      let p = still s x e in
      let rest = ended_stays k s x e in (
        ap (after code input k) p.0 ∙ rest.0,
        ap (λ b. b ++ machine.prints code input k (step code input s).state) p.1 ∙ ap (machine.prints code input k) p.0 ∙ rest.1,
      )

  -- the state after fewer steps
  split : (k n : ℕ) (s t : State) → n ≤ k → Silently code input k s t
      → (after code input (k - n) (after code input n s) ≡ t) × (machine.prints code input n s ≡ [])
  split k n s t le h =
      let sum : n + (k - n) ≡ k = omega arith in (
        sym (after_sum code input n (k - n) s) ∙ ap (λ m. after code input m s) sum ∙ h.steps,
        front_of_nothing _ _ (sym (prints_sum code input n (k - n) s) ∙ ap (λ m. machine.prints code input m s) sum ∙ h.silent),
      )

  -- before a state that has not ended the machine had not ended
  agrees_before : {A : Type 0} (r n j : ℕ) (e : Events A) (u t : State) (printed : List ℕ) → after code input j u ≡ t → IsOn t.mode
      → printed ≡ [] → n ≤ r → (m : Mode) (line : ℕ) → u.mode ≡ m → AgreesFrom r n e m line printed
  agrees_before r n j e u t printed run on none paid (Ended x) line is =
      let ended : t.mode ≡ Ended x = ap (λ z. z.mode) (sym run ∙ (ended_stays j u x is).0) ∙ is in
      absurd (subst IsOn ended on)
  agrees_before r n j e u t printed run on none paid Going line is =
      record { visits = 0; front = subst (λ b. HasPrefix e b 0) (sym none) nothing; paid = omega arith }
  agrees_before r n j e u t printed run on none paid Failing line is =
      record { visits = 0; front = subst (λ b. HasPrefix e b 0) (sym none) nothing; paid = omega arith }
  agrees_before r n j e u t printed run on none paid Stuck line is =
      record { visits = 0; front = subst (λ b. HasPrefix e b 0) (sym none) nothing; paid = omega arith }

  -- on the way to a state that has not ended
  on_the_way : {A : Type 0} (k n r : ℕ) (s t : State) (e : Events A) → n ≤ k → k ≤ r → Silently code input k s t → IsOn t.mode
      → AgreesFrom r n e (after code input n s).mode (line_in code (after code input n s)) (machine.prints code input n s)
  on_the_way k n r s t e le paid h on =
      let parts = split k n s t le h in
      agrees_before r n (k - n) e (after code input n s) t (machine.prints code input n s) parts.0 on parts.1 (omega arith)
      (after code input n s).mode (line_in code (after code input n s)) refl

  -- an ended machine at last
  agrees_ended : {A : Type 0} (r n : ℕ) (e : Events A) (m : Mode) (line : ℕ) (x : End) (printed : List ℕ) → m ≡ Ended x → printed ≡ []
      → end_of e ≡ meant_end x line → prints e ≡ [] → AgreesFrom r n e m line printed
  agrees_ended r n e m line x printed is none ends says = subst (λ z. AgreesFrom r n e z line printed) (sym is) (ends, says ∙ sym none)

  -- after a state that one more step ends
  past_end : {A : Type 0} (k n r : ℕ) (s t : State) (x : End) (e : Events A) → k < n → Silently code input k s t
      → (step code input t).state.mode ≡ Ended x → (step code input t).printed ≡ []
      → end_of e ≡ meant_end x (line_in code (step code input t).state) → prints e ≡ []
      → AgreesFrom r n e (after code input n s).mode (line_in code (after code input n s)) (machine.prints code input n s)
  past_end k n r s t x e lt h ends none means says =
      let sum : k + suc (n - suc k) ≡ n = omega arith in
      let rest = ended_stays (n - suc k) (step code input t).state x ends in
      let state : after code input n s ≡ after code input (n - suc k) (step code input t).state =
      ap (λ m. after code input m s) (sym sum) ∙ after_sum code input k (suc (n - suc k)) s
      ∙ ap (after code input (suc (n - suc k))) h.steps in
      let printed : machine.prints code input n s ≡ [] =
      ap (λ m. machine.prints code input m s) (sym sum) ∙ prints_sum code input k (suc (n - suc k)) s
      ∙ ap (λ b. b ++ machine.prints code input (suc (n - suc k)) (after code input k s)) h.silent
      ∙ ap (machine.prints code input (suc (n - suc k))) h.steps
      ∙ ap (λ b. b ++ machine.prints code input (n - suc k) (step code input t).state) none ∙ rest.1 in
      let ended : after code input n s ≡ (step code input t).state = state ∙ rest.0 in
      agrees_ended r n e (after code input n s).mode (line_in code (after code input n s)) x (machine.prints code input n s)
      (ap (λ z. z.mode) ended ∙ ends) printed
      (means ∙ ap (λ z. meant_end x (line_in code z)) (sym ended)) says

  -- one more visit
  visit_agrees : {A : Type 0} (r n : ℕ) (e : Events A) (m : Mode) (line : ℕ) (printed : List ℕ) → AgreesFrom (r + 32) n e m line printed
      → AgreesFrom r n (Visit e) m line printed
  visit_agrees r n e (Ended x) line printed h = h
  visit_agrees r n e Going line printed h = record { visits = suc h.visits; front = a_visit h.front; paid = omega (arith, h.paid) }
  visit_agrees r n e Failing line printed h = record { visits = suc h.visits; front = a_visit h.front; paid = omega (arith, h.paid) }
  visit_agrees r n e Stuck line printed h = record { visits = suc h.visits; front = a_visit h.front; paid = omega (arith, h.paid) }

  -- one more print
  print_agrees : {A : Type 0} (r n k : ℕ) (bytes : List ℕ) (e : Events A) (m : Mode) (line : ℕ) (printed whole : List ℕ) → k ≤ n → k ≤ r
      → whole ≡ bytes ++ printed → AgreesFrom (r - k) (n - k) e m line printed → AgreesFrom r n (Print bytes e) m line whole
  print_agrees r n k bytes e (Ended x) line printed whole kn kr is h = (h.0, ap (λ b. bytes ++ b) h.1 ∙ sym is)
  print_agrees r n k bytes e Going line printed whole kn kr is h =
      record {
        visits = h.visits;
        front = subst (λ b. HasPrefix (Print bytes e) b h.visits) (sym is) (a_print h.front);
        paid =
            omega (arith, h.paid);
      }
  print_agrees r n k bytes e Failing line printed whole kn kr is h =
      record {
        visits = h.visits;
        front = subst (λ b. HasPrefix (Print bytes e) b h.visits) (sym is) (a_print h.front);
        paid =
            omega (arith, h.paid);
      }
  print_agrees r n k bytes e Stuck line printed whole kn kr is h =
      record {
        visits = h.visits;
        front = subst (λ b. HasPrefix (Print bytes e) b h.visits) (sym is) (a_print h.front);
        paid =
            omega (arith, h.paid);
      }

  -- a failing machine with no entry ends
  pub no_entry_ends : (t : State) → IsFailing [] t → ((step code input t).state.mode ≡ Ended end.Failed)
      × ((step code input t).printed ≡ [])
  no_entry_ends t h =
      let is : step code input t ≡ machine.pop_or_end (machine.with_step_counted code input t) [] =
      ap (λ m. machine.step_in code input m t) h.mode ∙ ap (machine.pop_or_end (machine.with_step_counted code input t)) h.entries in
      (ap (λ z. z.state.mode) is, ap (λ z. z.printed) is)

  -- one step of a state where an alternative of the whole program leaves off ends in success
  abbrev pub EndsWell : (Store → Flow NoYield → State → Type 0) → Type 0
  EndsWell fits = (v : Store) (w : Flow NoYield) (t : State) (held : List PlainEntry) → IsGoing held t → fits v w t
      → ((step code input t).state.mode ≡ Ended end.Succeeded) × ((step code input t).printed ≡ [])

  pub follows : (left : ℕ) (fits : Store → Flow NoYield → State → Type 0) (e : Events NoYield) (s : State) (r q n : ℕ) → n ≤ q
      → EndsWell fits → Goes code input 0 left 0 fits [] e s r q
      → AgreesFrom r n (first e) (after code input n s).mode (line_in code (after code input n s)) (machine.prints code input n s)
  follows left fits Fail s r q n le ends h = by (cases_lt h.0 n)
    where
      by : (h.0 < n) ⊎ (n ≤ h.0) → AgreesFrom {A = NoYield} r n Fail (after code input n s).mode (line_in code (after code input n s))
          (machine.prints code input n s)
      by (inl lt) = let z = no_entry_ends h.1 h.4 in past_end h.0 n r s h.1 end.Failed Fail lt h.3 z.0 z.1 refl refl
      by (inr ge) = on_the_way h.0 n r s h.1 Fail ge h.2 h.3 (subst IsOn (sym h.4.mode) tt)
  follows left fits (Fault f own) s r q n le ends h = by (cases_lt h.0 n)
    where
      own_line : own ≡ line_in code h.1
      own_line = sym (line_or_none own) ∙ sym h.5

      at_n : n ≤ h.0 → (m : Mode) → (after code input n s).mode ≡ m → machine.prints code input n s ≡ []
          → AgreesFrom {A = NoYield} r n (Fault f own) m (line_in code (after code input n s)) (machine.prints code input n s)
      at_n ge (Ended x) is none =
          let parts = split h.0 n s h.1 ge h.3 in
          let there : after code input n s ≡ h.1 = sym (ended_stays (h.0 - n) (after code input n s) x is).0 ∙ parts.0 in
          let same : Ended x ≡ Ended (end.Fault f) = sym is ∙ ap (λ z. z.mode) there ∙ h.4 in
          subst (λ m. AgreesFrom {A = NoYield} r n (Fault f own) m (line_in code (after code input n s)) (machine.prints code input n s))
          (sym same)
          (ap (Faulted f) (own_line ∙ ap (line_in code) (sym there)), sym none)
      at_n ge Going is none = record {
        visits = 0;
        front = subst (λ b. HasPrefix {A = NoYield} (Fault f own) b 0) (sym none) nothing;
        paid =
            omega (arith, h.2);
      }
      at_n ge Failing is none = record {
        visits = 0;
        front = subst (λ b. HasPrefix {A = NoYield} (Fault f own) b 0) (sym none) nothing;
        paid = omega (arith, h.2);
      }
      at_n ge Stuck is none = record {
        visits = 0;
        front = subst (λ b. HasPrefix {A = NoYield} (Fault f own) b 0) (sym none) nothing;
        paid =
            omega (arith, h.2);
      }

      by : (h.0 < n) ⊎ (n ≤ h.0) → AgreesFrom {A = NoYield} r n (Fault f own) (after code input n s).mode
          (line_in code (after code input n s)) (machine.prints code input n s)
      by (inl lt) = let z = still h.1 (end.Fault f) h.4 in
          past_end h.0 n r s h.1 (end.Fault f) (Fault f own) lt h.3 (ap (λ y. y.mode) z.0 ∙ h.4) z.1
          (ap (Faulted f) (own_line ∙ ap (line_in code) (sym z.0))) refl
      by (inr ge) = at_n ge (after code input n s).mode refl (split h.0 n s h.1 ge h.3).1
  follows left fits Cut s r q n le ends h = on_the_way h.0 n r s h.1 Cut (omega (arith, h.4)) h.2 h.3 h.5
  follows left fits (Visit e) s r q n le ends h =
      visit_agrees r n (first e) (after code input n s).mode (line_in code (after code input n s)) (machine.prints code input n s)
      (follows left fits e s (r + 32) q n le ends h)
  follows left fits (Print bytes e) s r q n le ends h =
      by (follows left fits e h.4 (r - suc h.0) (q - suc h.0) (n - suc h.0) (omega arith) ends h.7) (cases_lt h.0 n)
    where
      by : AgreesFrom (r - suc h.0) (n - suc h.0) (first e) (after code input (n - suc h.0) h.4).mode
          (line_in code (after code input (n - suc h.0) h.4)) (machine.prints code input (n - suc h.0) h.4)
          → (h.0 < n) ⊎ (n ≤ h.0) → AgreesFrom r n (Print bytes (first e)) (after code input n s).mode (line_in code (after code input n s))
          (machine.prints code input n s)
      by later (inr ge) = on_the_way h.0 n r s h.1 (Print bytes (first e)) ge (omega (arith, h.2)) h.3 h.5.on
      by later (inl lt) =
          let sum : h.0 + suc (n - suc h.0) ≡ n = omega arith in
          let rest : after code input (suc (n - suc h.0)) h.1 ≡ after code input (n - suc h.0) h.4 =
          ap (after code input (n - suc h.0)) h.5.leads in
          let state : after code input n s ≡ after code input (n - suc h.0) h.4 =
          ap (λ m. after code input m s) (sym sum) ∙ after_sum code input h.0 (suc (n - suc h.0)) s
          ∙ ap (after code input (suc (n - suc h.0))) h.3.steps ∙ rest in
          let printed : machine.prints code input n s ≡ bytes ++ machine.prints code input (n - suc h.0) h.4 =
          ap (λ m. machine.prints code input m s) (sym sum) ∙ prints_sum code input h.0 (suc (n - suc h.0)) s
          ∙ ap (λ b. b ++ machine.prints code input (suc (n - suc h.0)) (after code input h.0 s)) h.3.silent
          ∙ ap (machine.prints code input (suc (n - suc h.0))) h.3.steps
          ∙ ap (λ b. b ++ machine.prints code input (n - suc h.0) (step code input h.1).state) h.5.printed
          ∙ ap (λ t. bytes ++ machine.prints code input (n - suc h.0) t) h.5.leads in
          print_agrees r n (suc h.0) bytes (first e) (after code input n s).mode (line_in code (after code input n s))
          (machine.prints code input (n - suc h.0) h.4) (machine.prints code input n s)
          (omega arith) h.2 printed
          (subst (λ t. AgreesFrom (r - suc h.0) (n - suc h.0) (first e) t.mode (line_in code t)
          (machine.prints code input (n - suc h.0) h.4)) (sym state) later)
  follows left fits (Alt v w e) s r q n le ends h = by (cases_lt h.0 n)
    where
      by : (h.0 < n) ⊎ (n ≤ h.0) → AgreesFrom r n (Alt v w Fail) (after code input n s).mode (line_in code (after code input n s))
          (machine.prints code input n s)
      by (inl lt) = let z = ends v w h.1 h.4 h.5 h.6 in
          past_end h.0 n r s h.1 end.Succeeded (Alt v w Fail) lt h.3 z.0 z.1 refl refl
      by (inr ge) = on_the_way h.0 n r s h.1 (Alt v w Fail) ge (omega (arith, h.2)) h.3 (subst IsOn (sym h.5.mode) tt)
