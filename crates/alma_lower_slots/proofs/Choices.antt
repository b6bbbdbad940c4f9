-- The forms of choices, and the pop of a failing machine: what they leave of two states that are alike.
use Rattle.std.proofs.Common.{◌≡◌, ℕ, ◌+◌, ◌<◌, ◌≤◌, List, [], ◌∷◌, length, take, refl, sym, ap, subst, arith, None}
use Rattle.std.specs.Prelude.{Bool, true, false, nat_lt}
use Rattle.std.proofs.lemmas.Bool.{and_parts, ltb-true}
use Rattle.std.proofs.lemmas.Option.{slice_get_within}
use Rattle.alma_base.specs.Choice.{if_true}
use Rattle.alma_code.specs.declared.cell.Cell.{Cell}
use Rattle.alma_code.specs.declared.cell.Cell.TheVariants as cell
use Rattle.alma_code.specs.declared.cell.ChoiceKind.{ChoiceKind}
use Rattle.alma_code.specs.declared.cell.ChoiceKind.TheVariants as choice
use Rattle.alma_code.specs.declared.cell.SlotKind.TheVariants as slot
use Rattle.alma_code.specs.declared.instr.Instr.{Instr}
use Rattle.alma_code.specs.declared.instr.Instr.TheVariants as I
use Rattle.alma_code.specs.declared.instr.Word.TheVariants as W
use Rattle.alma_code.specs.declared.step.End.TheVariants as end
use Rattle.alma_code.specs.declared.step.Step.TheVariants as answer
use Rattle.alma_code.specs.Machine.{State, with_slot, state_after_push, answer_of_push, answer_of_fall, to_mark, cut_to, pop_or_end}
use Rattle.alma_code.specs.Machine.{kind_of, put_mark, pop, act}
use Rattle.alma_code.specs.Picture.{PlainEntry}
use Rattle.alma_code.specs.Plain.{PlainCode, kinds_at}
use Rattle.alma_code.specs.Rules.{kind_in, names_slot}
use Rattle.alma_code.specs.Words.{words}
use Rattle.alma_code_laws.proofs.Acts.{slots, mark_word}
use Rattle.alma_code_laws.proofs.Ready.{mark_is}
use Rattle.alma_lower_slots.specs.Slots.{reads, target_slot, away, rename_slots}
use Rattle.alma_lower_slots.specs.Sharing.{Sharing, matters}
use Rattle.alma_lower_slots.proofs.Alike.{AlikeFrames, AlikeHeld, AlikeRest, Alike, AlikeStep, Doing}
use Rattle.alma_lower_slots.proofs.Stacks.{push_alike, take_alike, top_alike, popped_alike}
use Rattle.alma_lower_slots.proofs.Settles.{Shared, ended_alike, kind_alike, behind_alike, away_alike, written_alike, settle, mark_alike}
use Rattle.alma_lower_slots.proofs.Settles.{to_mark_alike, put_mark_alike}

-- two choices of which the tests are one and the sides are related
pub if_both : {A B : Type 0} (R : A → B → Type 0) (b b' : Bool) (k z : Unit {0} → A) (k' z' : Unit {0} → B) → b' ≡ b
    → (b ≡ true → R (k tt) (k' tt)) → (b ≡ false → R (z tt) (z' tt)) → R (if_true b k z) (if_true b' k' z')
if_both R true true k z k' z' e h g = h refl
if_both R false false k z k' z' e h g = g refl
if_both R true false k z k' z' e h g = absurd (cc)
if_both R false true k z k' z' e h g = absurd (cc)

-- a mark slot is one of the routine
pub mark_there : (code : PlainCode) (r n : ℕ) → names_slot code r (W.Mark n) ≡ true → n < length (kinds_at code r)
mark_there code r n e = slice_get_within (kinds_at code r) n slot.Mark (mark_is (kind_in code r n) (mark_word code r n e).1)

module _ {code new : PlainCode} {s : Sharing} where
  -- ---- stacks of the states

  -- other stacks that are alike
  pub held_rest : {t t' : State} (held held' : List PlainEntry) → AlikeRest code new s t t' → AlikeHeld code new s held held'
      → AlikeRest code new s (record t { held = held }) (record t' { held = held' })
  held_rest held held' h alike = record {
    at = h.at;
    last = h.last;
    mode = h.mode;
    steps = h.steps;
    choices = h.choices;
    fails = h.fails;
    held = alike;
  }

  -- entries fall
  pub fall_alike : {t t' : State} (held held' : List PlainEntry) → AlikeRest code new s t t' → AlikeHeld code new s held held'
      → AlikeFrames code new s t.at t.now t'.now
      → AlikeStep code new s (answer_of_fall (record t { held = held })) (answer_of_fall (record t' { held = held' }))
  fall_alike held held' h alike now = record {
    answer = ap (λ n. answer.Cut n) alike.count;
    printed = refl;
    state = record { rest = held_rest held held' h alike; now = λ _. now };
  }

  -- an entry is pushed
  pub push_rest : {t t' : State} (kind : ChoiceKind) (resume : ℕ) → AlikeRest code new s t t' → AlikeFrames code new s resume t.now t'.now
      → AlikeRest code new s (state_after_push t kind resume) (state_after_push t' kind resume)
  push_rest {t} {t'} kind resume h frames = record {
    at = h.at;
    last = h.last;
    mode = h.mode;
    steps = h.steps;
    choices = ap (λ n. n + 1) h.choices;
    fails = h.fails;
    held = push_alike code new s t.held t'.held (record { kind = kind; resume = resume; frames = t.now; carry = [] })
        (record { kind = kind; resume = resume; frames = t'.now; carry = [] }) h.held
        (record { kind = refl; resume = refl; frames = frames; carry = λ f n lf lt k number. refl; rising = tt; rising' = tt });
  }

  -- and its height is the answer
  pub pushed_alike : {t t' : State} (kind : ChoiceKind) (resume : ℕ) → AlikeRest code new s t t'
      → AlikeFrames code new s resume t.now t'.now → AlikeFrames code new s t.at t.now t'.now
      → AlikeStep code new s (answer_of_push (state_after_push t kind resume)) (answer_of_push (state_after_push t' kind resume))
  pushed_alike kind resume h frames now =
      let rest = push_rest kind resume h frames in
      record { answer = ap (λ n. answer.Chose n) rest.held.count; printed = refl; state = record { rest = rest; now = λ _. now } }

  -- ---- going on

  -- the frames of an instruction that writes nothing, where the state goes on
  pub going_alike : {r at : ℕ} {i : Instr} {t t' : State} → Doing code new s r at i t t' → target_slot code i ≡ None
      → AlikeFrames code new s t.at t.now t'.now
  going_alike {r} {at} {i} {t} {t'} h none =
      subst (λ n. AlikeFrames code new s n t.now t'.now) (sym h.taken.behind) (behind_alike h none)

  -- entries above a height fall, where there are any
  cut_to_alike : {r at : ℕ} {i : Instr} {t t' : State} → Doing code new s r at i t t' → target_slot code i ≡ None → (n : ℕ)
      → AlikeStep code new s (cut_to t n) (cut_to t' n)
  cut_to_alike {r} {at} {i} {t} {t'} h none n =
      if_both (AlikeStep code new s) (nat_lt n (length t.held)) (nat_lt n (length t'.held)) _ _ _ _
      (ap (nat_lt n) h.taken.rest.held.count)
      (λ b.
      let lt = ltb-true n (length t.held) b in
      fall_alike (take n t.held) (take n t'.held) h.taken.rest
      (take_alike code new s n t.held t'.held (omega (arith, lt)) h.taken.rest.held) (going_alike h none))
      (λ _. settle h none answer.Went [])

  -- ---- the forms

  module _ (input : List ℕ) where
    -- a choice is pushed
    pub choose_alike : (r at a : ℕ) (t t' : State) → Doing code new s r at (I.Choose a) t t'
        → AlikeStep code new s (act code input (I.Choose a) t) (act new input (rename_slots (s.slot r) (I.Choose a)) t')
    unfolding act target_slot away rename_slots
    choose_alike r at a t t' h = pushed_alike choice.Branch a h.taken.rest (away_alike h a refl) (going_alike h refl)

    -- the height is marked
    pub mark_form_alike : Shared code new s → (r at a : ℕ) (t t' : State) → Doing code new s r at (I.Mark a) t t'
        → AlikeStep code new s (act code input (I.Mark a) t) (act new input (rename_slots (s.slot r) (I.Mark a)) t')
    unfolding act target_slot rename_slots words
    mark_form_alike w r at a t t' h =
        let word = slots code r at (I.Mark a) (W.Mark a) W.Free W.Free W.Free refl h.obeys in
        subst (λ n. AlikeStep code new s (act code input (I.Mark a) t) (put_mark t' (s.slot r a) n)) (sym h.taken.rest.held.count)
        (put_mark_alike w h a (length t.held) (mark_there code r a word.0) refl)

    -- the entries above a mark fall
    pub cut_alike : (r at a : ℕ) (t t' : State) → Doing code new s r at (I.Cut a) t t'
        → AlikeStep code new s (act code input (I.Cut a) t) (act new input (rename_slots (s.slot r) (I.Cut a)) t')
    unfolding act target_slot reads rename_slots words
    cut_alike r at a t t' h =
        let word = slots code r at (I.Cut a) (W.Mark a) W.Free W.Free W.Free refl h.obeys in
        mark_alike h a (mark_there code r a word.0) (and_parts (matters s r at a) true h.shares.read).0 _ _ (λ n _. cut_to_alike h refl n)

    -- a FORALL is pushed, and its height is marked
    pub forall_alike : Shared code new s → (r at a b : ℕ) (t t' : State) → Doing code new s r at (I.Forall a b) t t'
        → AlikeStep code new s (act code input (I.Forall a b) t) (act new input (rename_slots (s.slot r) (I.Forall a b)) t')
    unfolding act target_slot away rename_slots words
    forall_alike w r at a b t t' h =
        let word = slots code r at (I.Forall a b) (W.Mark a) (W.Address b) W.Free W.Free refl h.obeys in
        let there = mark_there code r a word.0 in
        let rest = push_rest choice.Forall b h.taken.rest (away_alike h b refl) in
        let m : ℕ → Cell = λ n. cell.Mark (n + 1) in
        let u = with_slot (state_after_push t choice.Forall b) a (m (length t.held)) in
        let u' : ℕ → State = λ n. with_slot (state_after_push t' choice.Forall b) (s.slot r a) (m n) in
        let both : AlikeStep code new s (answer_of_push u) (answer_of_push (u' (length t.held))) =
        record {
          answer = ap (λ n. answer.Chose n) rest.held.count;
          printed = refl;
          state = record {
            rest = record {
              at = rest.at;
              last = rest.last;
              mode = rest.mode;
              steps = rest.steps;
              choices = rest.choices;
              fails = rest.fails;
              held = rest.held;
            };
            now = λ _. subst (λ n. AlikeFrames code new s n u.now (u' (length t.held)).now) (sym h.taken.behind)
                (written_alike w h a (m (length t.held)) there refl);
          };
        } in
        subst (λ o. AlikeStep code new s (act code input (I.Forall a b) t) (to_mark o t' (λ _. answer_of_push (u' (length t'.held)))))
        (sym (kind_alike w h a there))
        (to_mark_alike h.taken.rest (kind_of t a) _ _
        (subst (λ n. AlikeStep code new s (answer_of_push u) (answer_of_push (u' n))) (sym h.taken.rest.held.count) both))

  -- ---- a pop

  -- a pop of the entries that are left
  popped_or_end_alike : (t t' : State) (held held' : List PlainEntry) → t.held ≡ held → t'.held ≡ held' → AlikeRest code new s t t'
      → AlikeStep code new s (pop_or_end t held) (pop_or_end t' held')
  popped_or_end_alike t t' [] [] e e' h = ended_alike end.Failed h (λ m. absurd m)
  popped_or_end_alike t t' [] (x' ∷ xs') e e' h = absurd (omega (arith, h.held.count, ap length e, ap length e'))
  popped_or_end_alike t t' (x ∷ xs) [] e e' h = absurd (omega (arith, h.held.count, ap length e, ap length e'))
  popped_or_end_alike t t' (x ∷ xs) (x' ∷ xs') e e' h =
      let some : 1 ≤ length t.held = omega (arith, ap length e) in
      let top = top_alike code new s t.held t'.held some h.held in
      record {
        answer = ap (λ n. answer.Popped n) h.held.count;
        printed = refl;
        state = record {
          rest = record {
            at = top.resume;
            last = h.last;
            mode = refl;
            steps = h.steps;
            choices = h.choices;
            fails = ap (λ n. n + 1) h.fails;
            held = popped_alike code new s t.held t'.held some h.held;
          };
          now = λ _. top.frames;
        };
      }

  -- a pop in two states of which the frames do not matter
  pub pop_rest_alike : (t t' : State) → AlikeRest code new s t t' → AlikeStep code new s (pop t) (pop t')
  pop_rest_alike t t' h = popped_or_end_alike t t' t.held t'.held refl refl h

  -- a pop
  pub pop_alike : (t t' : State) → Alike code new s t t' → AlikeStep code new s (pop t) (pop t')
  pop_alike t t' h = pop_rest_alike t t' h.rest
