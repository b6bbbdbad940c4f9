-- What marks, and the pushes, cuts and pops of entries give.
use Rattle.std.proofs.Common.{◌≡◌, ℕ, ◌+◌, ◌-◌, ◌<◌, ◌≤◌, List, [], ◌∷◌, length, get_or, take, refl, sym, ap, ◌∙◌, subst, arith, Some}
use Rattle.std.specs.Prelude.{zero, suc, ◌++◌, map, slice_get, Bool, true, false, ◌&&◌, nat_lt, Option, None}
use Rattle.std.proofs.lemmas.List.{length-map, length-append}
use Rattle.std.proofs.lemmas.Option.{slice_get_within}
use Rattle.std.proofs.lemmas.Bool.{and_from}
use Rattle.std.proofs.Math.ListN.{get_or-map}
use Rattle.alma_code.specs.declared.cell.ChoiceKind.{ChoiceKind}
use Rattle.alma_code.specs.declared.cell.ChoiceKind.TheVariants as choice
use Rattle.alma_code.specs.Carries.{IsForallAt, IsTop, held_after_keep}
use Rattle.alma_code.specs.Picture.{no_entry, entry_at, kind_at}
use Rattle.alma_code.specs.Machine.{overlay, state_with_carry, keep, finish, is_kind, is_forall_at, answer_of_push, state_after_push}
use Rattle.alma_code.specs.Machine.{kind_of}
use Rattle.std.proofs.lemmas.Bool.{false≢true, lt-ltb, le-ltb}
use Rattle.std.proofs.lemmas.Option.{get_or_from_slice_get}
use Rattle.alma_base.specs.declared.fault.RunFault.TheVariants as fault
use Rattle.alma_base.specs.Choice.{if_true}
use Rattle.alma_code.specs.declared.cell.Cell.{Cell}
use Rattle.alma_code.specs.declared.cell.Cell.TheVariants as cell
use Rattle.alma_code.specs.declared.step.End.TheVariants as end
use Rattle.alma_code.specs.Machine.{State, StepResult, Going, as_mark, mark, ends_in_fault, put_mark, to_mark, quiet_step, answer_of_fall}
use Rattle.alma_code.specs.Machine.{with_slot, cut_to, pop, pop_or_end, ends_run, answers_with}
use Rattle.alma_code.specs.declared.step.Step.TheVariants as answer
use Rattle.alma_code.specs.Picture.{PlainFrame, PlainEntry, last_frame, top_of, stack_after_pop}
use Rattle.alma_machine_acts.specs.Rows.{HasSlot, HasMark, HoldsMark}

-- ---- marks

-- what a mark slot holds
pub mark_content : (now : List PlainFrame) (n : ℕ) (c : Cell) → HasMark now n → slice_get (last_frame now).cells n ≡ Some c → HoldsMark c
mark_content now n c h is = subst HoldsMark (get_or_from_slice_get (last_frame now).cells n c cell.Unset is) h.content

-- a mark is read
pub mark_read : (now : List PlainFrame) (n height : ℕ) (s : State) (k : ℕ → StepResult)
    → slice_get (last_frame now).cells n ≡ Some (cell.Mark height) → s.now ≡ now → mark s n k ≡ k height
mark_read now n height s k is same = ap (λ fs. as_mark (slice_get (last_frame fs).cells n) s k) same ∙ ap (λ o. as_mark o s k) is

-- no mark yet is read
pub mark_unset : (now : List PlainFrame) (n : ℕ) (s : State) (k : ℕ → StepResult) → slice_get (last_frame now).cells n ≡ Some cell.Unset
    → s.now ≡ now → mark s n k ≡ ends_in_fault fault.Unknown s
mark_unset now n s k is same = ap (λ fs. as_mark (slice_get (last_frame fs).cells n) s k) same ∙ ap (λ o. as_mark o s k) is

pub ruleset marks = (mark_content, mark_read, mark_unset)

-- a mark goes into a mark slot
pub put_mark_is : (s : State) (n height : ℕ) → HasMark s.now n → put_mark s n height ≡ quiet_step (with_slot s n (cell.Mark height))
put_mark_is s n height h = ap (λ o. to_mark o s (λ _. quiet_step (with_slot s n (cell.Mark height)))) h.kind

-- a mark slot is a slot
pub mark_is_slot : (now : List PlainFrame) (n : ℕ) → HasMark now n → HasSlot now n
mark_is_slot now n h = record { some = h.some; below = h.below }

pub ruleset put_marks = (put_mark_is, mark_is_slot)

-- ---- cuts and pops

-- entries above the height fall
pub cut_falls : (s : State) (h : ℕ) → h < length s.held → cut_to s h ≡ answer_of_fall (record s { held = take h s.held })
cut_falls s h lt = ap (λ b. if_true b (λ _. answer_of_fall (record s { held = take h s.held })) (λ _. quiet_step s))
    (lt-ltb h (length s.held) lt)

-- with none above nothing falls
pub cut_nothing : (s : State) (h : ℕ) → length s.held ≤ h → cut_to s h ≡ quiet_step s
cut_nothing s h le = ap (λ b. if_true b (λ _. answer_of_fall (record s { held = take h s.held })) (λ _. quiet_step s))
    (le-ltb h (length s.held) le)

pub ruleset cuts = (cut_falls, cut_nothing)

-- with no entry the run ends
pub pop_none : (s : State) → s.held ≡ [] → pop s ≡ ends_run end.Failed s
pop_none s none = ap (pop_or_end s) none

-- the top entry is popped
pop_to : (s : State) (held : List PlainEntry) → (held ≡ [] → ⊥) → pop_or_end s held
    ≡ answers_with (answer.Popped (length s.held))
    (record s {
      mode = Going;
      at = (top_of s.held).resume;
      now = (top_of s.held).frames;
      held = stack_after_pop s.held;
      fails = s.fails
          + 1;
    })
pop_to s [] some = absurd (some refl)
pop_to s (e ∷ rest) some = refl

pub pop_some : (s : State) → (s.held ≡ [] → ⊥) → pop s
    ≡ answers_with (answer.Popped (length s.held))
    (record s {
      mode = Going;
      at = (top_of s.held).resume;
      now = (top_of s.held).frames;
      held = stack_after_pop s.held;
      fails = s.fails
          + 1;
    })
pop_some s some = pop_to s s.held some

pub ruleset pops = (pop_none, pop_some)

-- ---- entries of FORALL

-- the entry at a height is of the kind that is found there
entry_kind : (held : List PlainEntry) (h : ℕ) (kind : ChoiceKind) → kind_at held h ≡ Some kind → (1 ≤ h) × (h ≤ length held)
    × ((entry_at held h).kind ≡ kind)
entry_kind held zero kind e = absurd (cc)
entry_kind held (suc below) kind e =
    let kinds = map (λ (entry : PlainEntry). entry.kind) held in
    let lt : below < length kinds = slice_get_within kinds below kind e in
    let same : length kinds ≡ length held = length-map held (λ (entry : PlainEntry). entry.kind) in
    let here : get_or kinds below no_entry.kind ≡ kind = get_or_from_slice_get kinds below kind no_entry.kind e in
    let place : suc below - 1 ≡ below = omega arith in (
      omega arith,
      omega arith,
      ap (λ n. (get_or held n no_entry).kind) place
          ∙ sym (get_or-map (λ (entry : PlainEntry). entry.kind) held below no_entry) ∙ here,
    )

-- where a Forall is found one stands
pub forall_there : (held : List PlainEntry) (h : ℕ) → kind_at held h ≡ Some choice.Forall → IsForallAt held h
forall_there held h e = let x = entry_kind held h choice.Forall e in record { some = x.0; below = x.1; forall = x.2 }

-- where a Body or a Done is found on top one stands there
pub top_there : (held : List PlainEntry) (kind : ChoiceKind) → kind_at held (length held) ≡ Some kind → IsTop held kind
top_there held kind e = let x = entry_kind held (length held) kind e in record { some = x.0; top = x.2 }

-- another kind is not of the kind
other_kind : (k : ChoiceKind) (o : Option ChoiceKind) → (o ≡ Some k → ⊥) → is_kind k o ≡ false
other_kind choice.Branch (Some choice.Branch) ne = absurd (ne refl)
other_kind choice.Forall (Some choice.Forall) ne = absurd (ne refl)
other_kind choice.Body (Some choice.Body) ne = absurd (ne refl)
other_kind choice.Done (Some choice.Done) ne = absurd (ne refl)
other_kind choice.Branch (Some choice.Forall) ne = refl
other_kind choice.Branch (Some choice.Body) ne = refl
other_kind choice.Branch (Some choice.Done) ne = refl
other_kind choice.Forall (Some choice.Branch) ne = refl
other_kind choice.Forall (Some choice.Body) ne = refl
other_kind choice.Forall (Some choice.Done) ne = refl
other_kind choice.Body (Some choice.Branch) ne = refl
other_kind choice.Body (Some choice.Forall) ne = refl
other_kind choice.Body (Some choice.Done) ne = refl
other_kind choice.Done (Some choice.Branch) ne = refl
other_kind choice.Done (Some choice.Forall) ne = refl
other_kind choice.Done (Some choice.Body) ne = refl
other_kind choice.Branch None ne = refl
other_kind choice.Forall None ne = refl
other_kind choice.Body None ne = refl
other_kind choice.Done None ne = refl

-- a Forall that is found
forall_kind : (o : Option ChoiceKind) → is_kind choice.Forall o ≡ true → o ≡ Some choice.Forall
forall_kind (Some choice.Forall) e = refl
forall_kind (Some choice.Branch) e = absurd (false≢true e)
forall_kind (Some choice.Body) e = absurd (false≢true e)
forall_kind (Some choice.Done) e = absurd (false≢true e)
forall_kind None e = absurd (false≢true e)

pub forall_found : (held : List PlainEntry) (h : ℕ) → is_forall_at held h ≡ true → IsForallAt held h
forall_found held h e = forall_there held h (forall_kind (kind_at held h) e)

pub overlay_yes : (s : State) (h : ℕ) → is_forall_at s.held h ≡ true → overlay s h ≡ state_with_carry s h
overlay_yes s h e = ap (λ b. if_true b (λ _. state_with_carry s h) (λ _. s)) e

pub overlay_no : (s : State) (h : ℕ) → is_forall_at s.held h ≡ false → overlay s h ≡ s
overlay_no s h e = ap (λ b. if_true b (λ _. state_with_carry s h) (λ _. s)) e

pub ruleset overlays = (forall_found, overlay_yes, overlay_no)

-- a Body is kept
pub keep_is : (s : State) (h : ℕ) → kind_at s.held h ≡ Some choice.Forall → h < length s.held
    → kind_at s.held (length s.held) ≡ Some choice.Body → keep s h ≡ answer_of_fall (record s { held = held_after_keep s.held h s.now })
keep_is s h e lt f =
    let test : (is_forall_at s.held h && (nat_lt h (length s.held) && is_kind choice.Body (kind_at s.held (length s.held)))) ≡ true =
    and_from (is_forall_at s.held h) (nat_lt h (length s.held) && is_kind choice.Body (kind_at s.held (length s.held)))
    (ap (is_kind choice.Forall) e)
    (and_from (nat_lt h (length s.held)) (is_kind choice.Body (kind_at s.held (length s.held))) (lt-ltb h (length s.held) lt)
    (ap (is_kind choice.Body) f)) in
    ap (λ b. if_true b (λ _. answer_of_fall (record s { held = held_after_keep s.held h s.now })) (λ _. quiet_step s)) test

-- a test that fails
keep_out : (s : State) (h : ℕ) → (is_forall_at s.held h
    && (nat_lt h (length s.held) && is_kind choice.Body (kind_at s.held (length s.held)))) ≡ false → keep s h ≡ quiet_step s
keep_out s h e = ap (λ b. if_true b (λ _. answer_of_fall (record s { held = held_after_keep s.held h s.now })) (λ _. quiet_step s)) e

and_right : (a b : Bool) → b ≡ false → (a && b) ≡ false
and_right true b e = e
and_right false b e = refl

-- without a Forall, below a Body on top, nothing is kept
pub keep_no_forall : (s : State) (h : ℕ) → (kind_at s.held h ≡ Some choice.Forall → ⊥) → keep s h ≡ quiet_step s
keep_no_forall s h ne = keep_out s h (ap (λ b. b && (nat_lt h (length s.held) && is_kind choice.Body (kind_at s.held (length s.held))))
    (other_kind choice.Forall (kind_at s.held h) ne))

pub keep_not_below : (s : State) (h : ℕ) → length s.held ≤ h → keep s h ≡ quiet_step s
keep_not_below s h le =
    keep_out s h (and_right (is_forall_at s.held h) (nat_lt h (length s.held) && is_kind choice.Body (kind_at s.held (length s.held)))
    (ap (λ b. b && is_kind choice.Body (kind_at s.held (length s.held))) (le-ltb h (length s.held) le)))

pub keep_no_body : (s : State) (h : ℕ) → (kind_at s.held (length s.held) ≡ Some choice.Body → ⊥) → keep s h ≡ quiet_step s
keep_no_body s h ne =
    keep_out s h (and_right (is_forall_at s.held h) (nat_lt h (length s.held) && is_kind choice.Body (kind_at s.held (length s.held)))
    (and_right (nat_lt h (length s.held)) (is_kind choice.Body (kind_at s.held (length s.held)))
    (other_kind choice.Body (kind_at s.held (length s.held)) ne)))

pub ruleset keeps = (forall_there, top_there, keep_is, keep_no_forall, keep_not_below, keep_no_body)

-- a Done is finished
pub finish_is : (s : State) → kind_at s.held (length s.held) ≡ Some choice.Done
    → finish s ≡ answer_of_fall (record (state_with_carry s (length s.held)) { held = take (length s.held - 1) s.held })
finish_is s e = ap (λ o. if_true (is_kind choice.Done o)
    (λ _. answer_of_fall (record (state_with_carry s (length s.held)) { held = take (length s.held - 1) s.held })) (λ _. quiet_step s)) e

-- without one nothing is
pub finish_none : (s : State) → (kind_at s.held (length s.held) ≡ Some choice.Done → ⊥) → finish s ≡ quiet_step s
finish_none s ne = ap (λ b. if_true b
    (λ _. answer_of_fall (record (state_with_carry s (length s.held)) { held = take (length s.held - 1) s.held })) (λ _. quiet_step s))
    (other_kind choice.Done (kind_at s.held (length s.held)) ne)

pub ruleset finishes = (top_there, finish_is, finish_none)

-- one more entry
pub one_more : (held : List PlainEntry) (e : PlainEntry) → length (held ++ e ∷ []) ≡ length held + 1
one_more held e = length-append held (e ∷ [])

-- a Forall is pushed
pub forall_is : (s : State) (n resume : ℕ) → HasMark s.now n
    → to_mark (kind_of s n) s (λ _. answer_of_push (with_slot (state_after_push s choice.Forall resume) n (cell.Mark (length s.held + 1))))
    ≡ answer_of_push (with_slot (state_after_push s choice.Forall resume) n (cell.Mark (length s.held + 1)))
forall_is s n resume h = ap (λ o. to_mark o s
    (λ _. answer_of_push (with_slot (state_after_push s choice.Forall resume) n (cell.Mark (length s.held + 1))))) h.kind

pub ruleset foralls = (one_more, forall_is)
