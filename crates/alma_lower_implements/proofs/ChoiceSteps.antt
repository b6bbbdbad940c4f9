-- One step of the machine: jumps, choice entries, pops.
use Rattle.std.proofs.Common.{◌≡◌, ℕ, ◌+◌, ◌-◌, List, [], ◌∷◌, ◌++◌, length, refl, sym, ap, ◌∙◌, append-nil, get_or, take, arith}
use Rattle.std.specs.Prelude.{slice_get, nat_lt, Bool, true, false}
use Rattle.alma_base.specs.Choice.{if_true}
use Rattle.std.proofs.lemmas.Bool.{ltb-false}
use Rattle.std.proofs.Math.Seq.{take-append_seam, get_or-append_seam}
use Rattle.std.proofs.lemmas.List.{length-append, take_all}
use Rattle.alma_code.specs.declared.cell.Cell.TheVariants as cell
use Rattle.alma_code.specs.declared.cell.ChoiceKind.TheVariants as choice
use Rattle.alma_code.specs.declared.cell.SlotKind.TheVariants as slot
use Rattle.alma_code.specs.declared.instr.Instr.TheVariants as I
use Rattle.alma_code.specs.declared.step.Step.{Step}
use Rattle.alma_code.specs.declared.step.Step.TheVariants as answer
use Rattle.alma_code.specs.Picture.{PlainFrame, PlainEntry, no_entry, top_of, stack_after_pop, last_frame}
use Rattle.alma_code.specs.Picture as picture
use Rattle.alma_code.specs.Plain.{PlainCode}
use Rattle.alma_code.specs.Machine.{State, Going, act, answers_with, step, step_in, pop_or_end, state_after_push, with_step_counted}
use Rattle.alma_code.specs.Machine.{quiet_step, with_slot, to_mark, as_mark, cut_to, answer_of_fall}
use Rattle.alma_lower_implements.proofs.Goes.{Silently, IsFailing}
use Rattle.alma_lower_implements.proofs.Frames.{IsAt}
use Rattle.alma_lower_implements.proofs.Steps.{InstrAt, does, passed, top_written, Holds, HasKind, fail_step}

-- the entry of an alternative that goes on at an address with these frames
abbrev pub branch_entry : (resume : ℕ) → List PlainFrame → PlainEntry
branch_entry resume now = record { kind = choice.Branch; resume = resume; frames = now; carry = [] }

-- a pop of entries of which the last is known
pub popped_last : (base : List PlainEntry) (e : PlainEntry) (s : State)
    → pop_or_end s (base ++ e ∷ []) ≡ answers_with (answer.Popped (length s.held))
    (record s {
      mode = Going;
      at = (top_of s.held).resume;
      now = (top_of s.held).frames;
      held = stack_after_pop s.held;
      fails = s.fails
          + 1;
    })
popped_last [] e s = refl
popped_last (b ∷ base) e s = refl

pub last_index : (base : List PlainEntry) (e : PlainEntry) → length (base ++ e ∷ []) - 1 ≡ length base
last_index base e = let n : length (base ++ e ∷ []) ≡ length base + 1 = length-append base (e ∷ []) in omega (arith, n)

pub top_last : (base : List PlainEntry) (e : PlainEntry) → top_of (base ++ e ∷ []) ≡ e
top_last base e = ap (λ n. get_or (base ++ e ∷ []) n no_entry) (last_index base e) ∙ get_or-append_seam base e [] no_entry

rest_last : (base : List PlainEntry) (resume : ℕ) (now : List PlainFrame) → stack_after_pop (base ++ branch_entry resume now ∷ []) ≡ base
rest_last base resume now =
    ap (λ n. take n (base ++ branch_entry resume now ∷ []) ++ picture.entry_after_pop (top_of (base ++ branch_entry resume now ∷ [])))
    (last_index base (branch_entry resume now))
    ∙ ap (λ xs. xs ++ picture.entry_after_pop (top_of (base ++ branch_entry resume now ∷ [])))
    (take-append_seam base (branch_entry resume now ∷ []))
    ∙ ap (λ x. base ++ picture.entry_after_pop x) (top_last base (branch_entry resume now))
    ∙ append-nil base

module _ (code : PlainCode) (input : List ℕ) where
  -- one step leads to an address with these frames and entries
  pub record GoesOn (to_at : ℕ) (now : List PlainFrame) (held : List PlainEntry) (s : State) : Type 0 where
    pub to : State
    pub silently : Silently code input 1 s to
    pub is : IsAt to_at now held to

  pub answered_silently : (s t : State) (a : Step) → step code input s ≡ answers_with a t → Silently code input 1 s t
  answered_silently s t a e = record {
    steps = ap (λ x. x.state) e;
    silent = append-nil (step code input s).printed
        ∙ ap (λ x. x.printed) e;
  }

  pub choose_step : (line : ℕ) (at resume : ℕ) (now : List PlainFrame) (held : List PlainEntry) (s : State) → IsAt at now held s
      → InstrAt code input line at (I.Choose resume) → GoesOn (at + 1) now (held ++ branch_entry resume now ∷ []) s
  unfolding act
  choose_step line at resume now held s is i = record {
    to = state_after_push (passed code input s) choice.Branch resume;
    silently = answered_silently s (state_after_push (passed code input s) choice.Branch resume)
        (answer.Chose (length (state_after_push (passed code input s) choice.Branch resume).held))
        (does code input line at now held s (I.Choose resume) is i);
    is = record {
      mode = is.mode;
      here = ap (λ a. a + 1) is.here;
      frames = is.frames;
      entries = ap (λ h. h ++ branch_entry resume s.now ∷ []) is.entries ∙ ap (λ n. held ++ branch_entry resume n ∷ []) is.frames;
    };
  }

  pub jumps : (line : ℕ) (at to_at : ℕ) (now : List PlainFrame) (held : List PlainEntry) (s : State) → IsAt at now held s
      → InstrAt code input line at (I.Jump to_at) → GoesOn to_at now held s
  unfolding act
  jumps line at to_at now held s is i = record {
    to = record (passed code input s) { at = to_at };
    silently = answered_silently s (record (passed code input s) { at = to_at }) answer.Went
        (does code input line at now held s (I.Jump to_at) is i);
    is = record { mode = is.mode; here = refl; frames = is.frames; entries = is.entries };
  }

  pub pop_step : (resume : ℕ) (now : List PlainFrame) (base : List PlainEntry) (u : State)
      → IsFailing (base ++ branch_entry resume now ∷ []) u → GoesOn resume now base u
  pop_step resume now base u failing =
      let e = branch_entry resume now in
      let t : State = record (with_step_counted code input u)
      { mode = Going; at = (top_of u.held).resume; now = (top_of u.held).frames; held = stack_after_pop u.held; fails = u.fails + 1 } in
      let is : step code input u ≡ answers_with (answer.Popped (length u.held)) t =
      ap (λ m. step_in code input m u) failing.mode ∙ ap (pop_or_end (with_step_counted code input u)) failing.entries
      ∙ popped_last base e (with_step_counted code input u) in
      let top : top_of u.held ≡ e = ap top_of failing.entries ∙ top_last base e in
      record {
        to = t;
        silently = answered_silently u t (answer.Popped (length u.held)) is;
        is = record {
          mode = refl;
          here = ap (λ x. x.resume) top;
          frames = ap (λ x. x.frames) top;
          entries = ap stack_after_pop failing.entries ∙ rest_last base resume now;
        };
      }

  -- ---- marks

  pub mark_step : (line : ℕ) (at m : ℕ) (now : List PlainFrame) (held : List PlainEntry) (s : State) → IsAt at now held s
      → InstrAt code input line at (I.Mark m) → HasKind now m slot.Mark
      → GoesOn (at + 1) (top_written now m (cell.Mark (length held))) held s
  unfolding act
  mark_step line at m now held s is i kind = record {
    to = with_slot (passed code input s) m (cell.Mark (length s.held));
    silently = answered_silently s (with_slot (passed code input s) m (cell.Mark (length s.held))) answer.Went
        (does code input line at now held s (I.Mark m) is i
        ∙ ap (λ o. to_mark o (passed code input s) (λ _. quiet_step (with_slot (passed code input s) m (cell.Mark (length s.held)))))
        (ap (λ z. slice_get (last_frame z).kinds m) is.frames ∙ kind));
    is = record {
      mode = is.mode;
      here = ap (λ a. a + 1) is.here;
      frames = ap (λ z. top_written z m (cell.Mark (length s.held))) is.frames
          ∙ ap (λ h. top_written now m (cell.Mark (length h))) is.entries;
      entries = is.entries;
    };
  }

  -- the entries above a mark fall
  pub cut_step : (line : ℕ) (at m : ℕ) (now : List PlainFrame) (held above : List PlainEntry) (s : State) → IsAt at now (held ++ above) s
      → InstrAt code input line at (I.Cut m) → Holds now m (cell.Mark (length held)) → GoesOn (at + 1) now held s
  unfolding act
  cut_step line at m now held above s is i there = by (nat_lt (length held) (length s.held)) refl
    where
      cuts : step code input s ≡ cut_to (passed code input s) (length held)
      cuts = does code input line at now (held ++ above) s (I.Cut m) is i
          ∙ ap (λ o. as_mark o (passed code input s) (λ h. cut_to (passed code input s) h))
          (ap (λ z. slice_get (last_frame z).cells m) is.frames ∙ there)

      by : (b : Bool) → nat_lt (length held) (length s.held) ≡ b → GoesOn (at + 1) now held s
      by true e = record {
        to = record (passed code input s) { held = take (length held) s.held };
        silently = answered_silently s (record (passed code input s) { held = take (length held) s.held })
            (answer.Cut (length (take (length held) s.held)))
            (cuts ∙ ap (λ b. if_true b (λ _. answer_of_fall (record (passed code input s) { held = take (length held) s.held }))
            (λ _. quiet_step (passed code input s))) e);
        is = record {
          mode = is.mode;
          here = ap (λ a. a + 1) is.here;
          frames = is.frames;
          entries = ap (take (length held)) is.entries ∙ take-append_seam held above;
        };
      }
      by false e = record {
        to = passed code input s;
        silently = answered_silently s (passed code input s) answer.Went
            (cuts ∙ ap (λ b. if_true b (λ _. answer_of_fall (record (passed code input s) { held = take (length held) s.held }))
            (λ _. quiet_step (passed code input s))) e);
        is = record {
          mode = is.mode;
          here = ap (λ a. a + 1) is.here;
          frames = is.frames;
          entries = sym (take_all (length held) s.held (ltb-false (length held) (length s.held) e)) ∙ ap (take (length held)) is.entries
              ∙ take-append_seam held above;
        };
      }

  pub fails_by : (line : ℕ) (at : ℕ) (now : List PlainFrame) (held : List PlainEntry) (s : State) → IsAt at now held s
      → InstrAt code input line at I.Fail → (t : State) × Silently code input 1 s t × IsFailing held t
  fails_by line at now held s is i = let f = fail_step code input line at now held s is i in (f.to, f.silently, f.is)
