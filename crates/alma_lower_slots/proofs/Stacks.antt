-- Alike choice entries and alike stacks of them: what a push, a fall, a change of one entry and a pop leave of them.
use Rattle.std.proofs.Common.{◌≡◌, ℕ, zero, suc, ◌-◌, ◌<◌, ◌≤◌, inl, inr, List, [], ◌∷◌, ◌++◌, length, get_or, set, map, take, refl, sym}
use Rattle.std.proofs.Common.{ap}
use Rattle.std.proofs.Common.{◌∙◌, subst, arith, get_or-set_same, get_or-set_other, length-set}
use Rattle.std.specs.Prelude.{slice_get}
use Rattle.std.proofs.lemmas.Bool.{cases_eq, cases_lt}
use Rattle.std.proofs.lemmas.List.{length-append, length-take-le, get_or-take, get_or-append_right}
use Rattle.std.proofs.Math.Seq.{get_or-append_seam}
use Rattle.std.proofs.Math.ListN.{get_or-append}
use Rattle.alma_code.specs.declared.cell.ChoiceKind.{ChoiceKind}
use Rattle.alma_code.specs.declared.cell.ChoiceKind.TheVariants as choice
use Rattle.alma_code.specs.Picture.{PlainEntry, no_entry, top_of, entry_at, kind_at, entry_of_kind_after_pop, entry_after_pop}
use Rattle.alma_code.specs.Picture.{stack_after_pop}
use Rattle.alma_code.specs.Plain.{PlainCode}
use Rattle.alma_lower_slots.specs.Sharing.{Sharing}
use Rattle.alma_lower_slots.proofs.Alike.{AlikeEntry, AlikeHeld}

module _ (code new : PlainCode) (s : Sharing) where
  -- one more entry on each
  pub push_alike : (held held' : List PlainEntry) (e e' : PlainEntry) → AlikeHeld code new s held held' → AlikeEntry code new s e e'
      → AlikeHeld code new s (held ++ e ∷ []) (held' ++ e' ∷ [])
  push_alike held held' e e' h one =
      let len = length-append held (e ∷ []) in
      let len' = length-append held' (e' ∷ []) in
      record {
        count = omega (arith, len, len', h.count);
        each = λ k lk.
            elim (cases_eq k (length held)) [
              | inl z ↦
                  let here : get_or (held ++ e ∷ []) k no_entry ≡ e = ap (λ m. get_or (held ++ e ∷ []) m no_entry) z
                  ∙ get_or-append_seam held e [] no_entry in
                  let here' : get_or (held' ++ e' ∷ []) k no_entry ≡ e' = ap (λ m. get_or (held' ++ e' ∷ []) m no_entry) (z ∙ sym h.count)
                  ∙ get_or-append_seam held' e' [] no_entry in
                  subst (λ x. AlikeEntry code new s x (get_or (held' ++ e' ∷ []) k no_entry)) (sym here)
                  (subst (λ x. AlikeEntry code new s e x) (sym here') one)
              | inr ne ↦
                  let below : k < length held = omega (arith, lk, len, ne) in
                  subst (λ x. AlikeEntry code new s x (get_or (held' ++ e' ∷ []) k no_entry))
                  (sym (get_or-append held (e ∷ []) no_entry k below))
                  (subst (λ x. AlikeEntry code new s (get_or held k no_entry) x)
                  (sym (get_or-append held' (e' ∷ []) no_entry k (omega (arith, below, h.count)))) (h.each k below))
            ];
      }

  -- the first n entries of each
  pub take_alike : (n : ℕ) (held held' : List PlainEntry) → n ≤ length held → AlikeHeld code new s held held'
      → AlikeHeld code new s (take n held) (take n held')
  take_alike n held held' le h =
      let len = length-take-le n held le in
      let len' = length-take-le n held' (omega (arith, le, h.count)) in
      record {
        count = len' ∙ sym len;
        each = λ k lk.
            let below : k < n = omega (arith, lk, len) in
            subst (λ x. AlikeEntry code new s x (get_or (take n held') k no_entry)) (sym (get_or-take n held k no_entry below))
            (subst (λ x. AlikeEntry code new s (get_or held k no_entry) x) (sym (get_or-take n held' k no_entry below))
            (h.each k (omega (arith, below, le))));
      }

  -- another entry at one height
  pub set_alike : (n : ℕ) (held held' : List PlainEntry) (e e' : PlainEntry) → n < length held → AlikeHeld code new s held held'
      → AlikeEntry code new s e e' → AlikeHeld code new s (set held n e) (set held' n e')
  set_alike n held held' e e' lt h one =
      let len = length-set held n e in
      let len' = length-set held' n e' in
      record {
        count = len' ∙ h.count ∙ sym len;
        each = λ k lk.
            elim (cases_eq k n) [
              | inl z ↦
                  let here : get_or (set held n e) k no_entry ≡ e = ap (λ m. get_or (set held n e) m no_entry) z
                  ∙ get_or-set_same held n e no_entry lt in
                  let here' : get_or (set held' n e') k no_entry ≡ e' = ap (λ m. get_or (set held' n e') m no_entry) z
                  ∙ get_or-set_same held' n e' no_entry (omega (arith, lt, h.count)) in
                  subst (λ x. AlikeEntry code new s x (get_or (set held' n e') k no_entry)) (sym here)
                  (subst (λ x. AlikeEntry code new s e x) (sym here') one)
              | inr ne ↦
                  subst (λ x. AlikeEntry code new s x (get_or (set held' n e') k no_entry)) (sym (get_or-set_other held n k e no_entry ne))
                  (subst (λ x. AlikeEntry code new s (get_or held k no_entry) x) (sym (get_or-set_other held' n k e' no_entry ne))
                  (h.each k (omega (arith, lk, len))))
            ];
      }

  -- the top entries
  pub top_alike : (held held' : List PlainEntry) → 1 ≤ length held → AlikeHeld code new s held held'
      → AlikeEntry code new s (top_of held) (top_of held')
  top_alike held held' some h =
      subst (λ n. AlikeEntry code new s (top_of held) (get_or held' (n - 1) no_entry)) (sym h.count)
      (h.each (length held - 1) (omega (arith, some)))

  -- the entries at a height
  pub entry_alike : (held held' : List PlainEntry) (n : ℕ) → 1 ≤ n → n ≤ length held → AlikeHeld code new s held held'
      → AlikeEntry code new s (entry_at held n) (entry_at held' n)
  entry_alike held held' n some le h = h.each (n - 1) (omega (arith, some, le))

  -- the kinds of the entries
  kinds_same : (held held' : List PlainEntry) → AlikeHeld code new s held held' → map (λ e. e.kind) held' ≡ map (λ e. e.kind) held
  kinds_same [] [] h = refl
  kinds_same [] (e' ∷ held') h = absurd (omega (arith, h.count))
  kinds_same (e ∷ held) [] h = absurd (omega (arith, h.count))
  kinds_same (e ∷ held) (e' ∷ held') h =
      ap (λ k. k ∷ map (λ e. e.kind) held') (h.each 0 (omega arith)).kind
      ∙ ap (λ ks. e.kind ∷ ks) (kinds_same held held' (record {
        count = omega (arith, h.count);
        each = λ k lk. h.each (suc k) (omega (arith, lk));
      }))

  -- the kind of the entry at a height
  pub kind_same : (held held' : List PlainEntry) (n : ℕ) → AlikeHeld code new s held held' → kind_at held' n ≡ kind_at held n
  kind_same held held' zero h = refl
  kind_same held held' (suc n) h = ap (λ ks. slice_get ks n) (kinds_same held held' h)

  -- what a pop leaves of two entries of one kind
  left_alike : (kind : ChoiceKind) (e e' : PlainEntry) → AlikeEntry code new s e e'
      → AlikeHeld code new s (entry_of_kind_after_pop kind e) (entry_of_kind_after_pop kind e')
  left_alike choice.Forall e e' h = record {
    count = refl;
    each = λ k. elim k as (λ k. k < 1 → AlikeEntry code new s (get_or (entry_of_kind_after_pop choice.Forall e) k no_entry)
        (get_or (entry_of_kind_after_pop choice.Forall e') k no_entry)) [
          | zero ↦ λ _. record {
            kind = refl;
            resume = h.resume;
            frames = h.frames;
            carry = h.carry;
            rising = h.rising;
            rising' = h.rising';
          }
          | suc j ↦ λ lj. absurd (omega (arith, lj))
        ];
  }
  left_alike choice.Branch e e' h = record { count = refl; each = λ k lk. absurd (omega (arith, lk)) }
  left_alike choice.Body e e' h = record { count = refl; each = λ k lk. absurd (omega (arith, lk)) }
  left_alike choice.Done e e' h = record { count = refl; each = λ k lk. absurd (omega (arith, lk)) }

  -- one stack on another
  both_alike : (a a' b b' : List PlainEntry) → AlikeHeld code new s a a' → AlikeHeld code new s b b'
      → AlikeHeld code new s (a ++ b) (a' ++ b')
  both_alike a a' b b' h g =
      let len = length-append a b in
      let len' = length-append a' b' in
      record {
        count = omega (arith, len, len', h.count, g.count);
        each = λ k lk.
            elim (cases_lt k (length a)) [
              | inl lt ↦
                  subst (λ x. AlikeEntry code new s x (get_or (a' ++ b') k no_entry)) (sym (get_or-append a b no_entry k lt))
                  (subst (λ x. AlikeEntry code new s (get_or a k no_entry) x)
                  (sym (get_or-append a' b' no_entry k (omega (arith, lt, h.count)))) (h.each k lt))
              | inr le ↦
                  subst (λ x. AlikeEntry code new s x (get_or (a' ++ b') k no_entry))
                  (sym (get_or-append_right a b (length a) k no_entry refl le))
                  (subst (λ x. AlikeEntry code new s (get_or b (k - length a) no_entry) x)
                  (sym (get_or-append_right a' b' (length a) k no_entry h.count le)) (g.each (k - length a) (omega (arith, lk, len, le))))
            ];
      }

  -- the stacks after a pop
  pub popped_alike : (held held' : List PlainEntry) → 1 ≤ length held → AlikeHeld code new s held held'
      → AlikeHeld code new s (stack_after_pop held) (stack_after_pop held')
  popped_alike held held' some h =
      let top = top_alike held held' some h in
      subst (λ n. AlikeHeld code new s (stack_after_pop held) (take (n - 1) held' ++ entry_after_pop (top_of held'))) (sym h.count)
      (both_alike (take (length held - 1) held) (take (length held - 1) held') (entry_after_pop (top_of held))
      (entry_after_pop (top_of held'))
      (take_alike (length held - 1) held held' (omega arith) h)
      (subst (λ k. AlikeHeld code new s (entry_after_pop (top_of held)) (entry_of_kind_after_pop k (top_of held'))) (sym top.kind)
      (left_alike (top_of held).kind (top_of held) (top_of held') top)))
