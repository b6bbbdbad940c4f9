-- From the relation to the frames of a run that has come to success.
use Rattle.std.proofs.Common.{◌≡◌, ◌≤◌, ◌<◌, ◌⊎◌, inl, inr, ℕ, suc, ◌+◌, ◌-◌, List, [], refl, sym, ap, ◌∙◌, subst, arith, Some}
use Rattle.std.proofs.lemmas.Bool.{cases_lt}
use Rattle.alma_code.specs.declared.step.End.{End}
use Rattle.alma_code.specs.declared.step.End.TheVariants as end
use Rattle.alma_code.specs.Picture.{PlainFrame, PlainEntry}
use Rattle.alma_code.specs.Plain.{PlainCode}
use Rattle.alma_code.specs.Machine.{Mode, Failing, Ended, State, step, after}
use Rattle.alma_mean.specs.Store.{Store}
use Rattle.alma_mean.specs.Events.{Events, NoYield, Flow, Visit, Print, Alt, Fail, Fault, Cut}
use Rattle.alma_lower_implements.specs.Values.{first_store}
use Rattle.alma_lower_implements.proofs.Follows.{ended_stays, no_entry_ends}
use Rattle.alma_lower_implements.proofs.Goes.{IsOn, IsGoing, Goes, after_sum}

-- the frames of a run that has come to success hold what the store of the first alternative does
abbrev pub HoldsFirst : (holds : Store → List PlainFrame → Type 0) → Events NoYield → State → Type 0
HoldsFirst holds e s = (v : Store) × (first_store e ≡ Some v) × holds v s.now

module _ (code : PlainCode) (input : List ℕ) where
  -- after one more step
  one_more : (k n : ℕ) (s t : State) → k < n → after code input k s ≡ t
      → after code input n s ≡ after code input (n - suc k) (step code input t).state
  one_more k n s t lt is =
      let sum : k + suc (n - suc k) ≡ n = omega arith in
      ap (λ m. after code input m s) (sym sum) ∙ after_sum code input k (suc (n - suc k)) s ∙ ap (after code input (suc (n - suc k))) is

  -- a state that has come to success, and one after it
  stays_there : (k n : ℕ) (s t : State) → n ≤ k → after code input k s ≡ t → (after code input n s).mode ≡ Ended end.Succeeded
      → t ≡ after code input n s
  stays_there k n s t le is ended =
      let sum : n + (k - n) ≡ k = omega arith in
      sym is ∙ ap (λ m. after code input m s) (sym sum) ∙ after_sum code input n (k - n) s
      ∙ (ended_stays code input (k - n) (after code input n s) end.Succeeded ended).0

  -- so none after it has another mode
  not_before : (k n : ℕ) (s t : State) (m : Mode) → n ≤ k → after code input k s ≡ t → (after code input n s).mode ≡ Ended end.Succeeded
      → t.mode ≡ m → m ≡ Ended end.Succeeded
  not_before k n s t m le is ended mode = sym mode ∙ ap (λ z. z.mode) (stays_there k n s t le is ended) ∙ ended

  -- nor one before it that has ended
  not_behind : (k n : ℕ) (s t : State) (x : End) → k < n → after code input k s ≡ t → (step code input t).state.mode ≡ Ended x
      → (after code input n s).mode ≡ Ended end.Succeeded → Ended x ≡ Ended end.Succeeded
  not_behind k n s t x lt is ends ended =
      let rest = ended_stays code input (n - suc k) (step code input t).state x ends in
      sym ends ∙ ap (λ z. z.mode) (sym rest.0 ∙ sym (one_more k n s t lt is)) ∙ ended

  -- a machine that is on has not come to success
  on_is_none : (k n : ℕ) (s t : State) → n ≤ k → after code input k s ≡ t → (after code input n s).mode ≡ Ended end.Succeeded → IsOn t.mode
      → ⊥
  on_is_none k n s t le is ended on = subst IsOn (not_before k n s t t.mode le is ended refl) on

  -- one step of a state where an alternative of the whole program leaves off ends in success, and its frames hold what the store does
  abbrev pub EndsWith : (fits : Store → Flow NoYield → State → Type 0) → (holds : Store → List PlainFrame → Type 0) → Type 0
  EndsWith fits holds = (v : Store) (w : Flow NoYield) (t : State) (held : List PlainEntry) → IsGoing held t → fits v w t
      → ((step code input t).state.mode ≡ Ended end.Succeeded) × holds v (step code input t).state.now

  pub succeeds : (left : ℕ) (fits : Store → Flow NoYield → State → Type 0) (holds : Store → List PlainFrame → Type 0) (e : Events NoYield)
      (s : State) (r q n : ℕ) → n ≤ q → EndsWith fits holds → Goes code input 0 left 0 fits [] e s r q
      → (after code input n s).mode ≡ Ended end.Succeeded → HoldsFirst holds e (after code input n s)
  succeeds left fits holds Fail s r q n le ends h ended = by (cases_lt h.0 n)
    where
      by : (h.0 < n) ⊎ (n ≤ h.0) → HoldsFirst holds Fail (after code input n s)
      by (inl lt) =
          let bad = not_behind h.0 n s h.1 end.Failed lt h.3.steps (no_entry_ends code input h.1 h.4).0 ended in absurd (cc)
      by (inr ge) = let bad = not_before h.0 n s h.1 Failing ge h.3.steps ended h.4.mode in absurd (cc)
  succeeds left fits holds (Fault f own) s r q n le ends h ended = by (cases_lt h.0 n)
    where
      by : (h.0 < n) ⊎ (n ≤ h.0) → HoldsFirst holds (Fault f own) (after code input n s)
      by (inl lt) =
          let stays = (ended_stays code input 1 h.1 (end.Fault f) h.4).0 in
          let bad = not_behind h.0 n s h.1 (end.Fault f) lt h.3.steps (ap (λ z. z.mode) stays ∙ h.4) ended in absurd (cc)
      by (inr ge) = let bad = not_before h.0 n s h.1 (Ended (end.Fault f)) ge h.3.steps ended h.4 in absurd (cc)
  succeeds left fits holds Cut s r q n le ends h ended = absurd (on_is_none h.0 n s h.1 (omega (arith, h.4)) h.3.steps ended h.5)
  succeeds left fits holds (Visit e) s r q n le ends h ended = succeeds left fits holds e s (r + 32) q n le ends h ended
  succeeds left fits holds (Print bytes e) s r q n le ends h ended =
      by (λ there. succeeds left fits holds e h.4 (r - suc h.0) (q - suc h.0) (n - suc h.0) (omega arith) ends h.7 there) (cases_lt h.0 n)
    where
      by : ((after code input (n - suc h.0) h.4).mode ≡ Ended end.Succeeded → HoldsFirst holds e (after code input (n - suc h.0) h.4))
          → (h.0 < n) ⊎ (n ≤ h.0) → HoldsFirst holds (Print bytes e) (after code input n s)
      by later (inr ge) = absurd (on_is_none h.0 n s h.1 ge h.3.steps ended h.5.on)
      by later (inl lt) =
          let state : after code input n s ≡ after code input (n - suc h.0) h.4 =
          one_more h.0 n s h.1 lt h.3.steps ∙ ap (after code input (n - suc h.0)) h.5.leads in
          subst (HoldsFirst holds e) (sym state) (later (ap (λ z. z.mode) (sym state) ∙ ended))
  succeeds left fits holds (Alt v w e) s r q n le ends h ended = by (cases_lt h.0 n)
    where
      by : (h.0 < n) ⊎ (n ≤ h.0) → HoldsFirst holds (Alt v w e) (after code input n s)
      by (inl lt) =
          let z = ends v w h.1 h.4 h.5 h.6 in
          let state : after code input n s ≡ (step code input h.1).state =
          one_more h.0 n s h.1 lt h.3.steps ∙ (ended_stays code input (n - suc h.0) (step code input h.1).state end.Succeeded z.0).0 in
          (v, refl, subst (λ t. holds v t.now) (sym state) z.1)
      by (inr ge) = absurd (on_is_none h.0 n s h.1 ge h.3.steps ended (subst IsOn (sym h.5.mode) tt))
