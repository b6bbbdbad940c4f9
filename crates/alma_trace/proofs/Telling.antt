-- The text of a run, step after step.
use Rattle.std.proofs.Common.{◌≡◌, ℕ, suc, ◌+◌, ◌-◌, ◌<◌, List, [], ◌++◌, flat_map, refl, sym, ap, ◌∙◌, arith, append_assoc}
use Rattle.std.specs.Prelude.{Option, true, nat_eq}
use Rattle.std.specs.Io.KnownBytes.{Appends}
use Rattle.std.proofs.lemmas.Bool.{eq-eqb}
use Rattle.std.proofs.lemmas.Grind.{flat_map-append}
use Rattle.std.proofs.lemmas.List.{append-nil}
use Rattle.alma_base.specs.Choice.{if_true}
use Rattle.alma_code.specs.declared.step.End.{End}
use Rattle.alma_code.specs.declared.step.Step.{Step}
use Rattle.alma_code.specs.declared.step.Step.TheVariants as answer
use Rattle.alma_code.specs.ListText.{text_line}
use Rattle.alma_code.specs.Machine.{Mode, Going, Failing, Ended, Stuck, State, StepResult, step, after}
use Rattle.alma_code.specs.TraceText.{unless_done}
use Rattle.alma_machine.proofs.Budget.{Progress, made_is, out_front}
use Rattle.alma_machine.specs.declared.machine.RunEnd.{RunEnd}
use Rattle.alma_machine.specs.declared.machine.RunEnd.TheVariants as run
use Rattle.alma_machine.specs.Runs.{OnWriteFault, OnMemory, made}
use Rattle.alma_machine.specs.Steps.{IsLive, ModeAfter, step_result}
use Rattle.alma_machine.specs.View.{MachineView, goes_on}
use Rattle.alma_io.specs.Fronts.{AppendsFront}
use Rattle.alma_trace.specs.Cuts.{IsCut, OnCut, can_go}
use Rattle.alma_trace.specs.declared.watch.Watch.{Watch}
use Rattle.alma_trace.specs.Traced.{traced_words, step_text, steps_end, run_lines, text_of_run, traced_within}

-- what follows a step that goes on
goes_behind : (a : Step) (rest : List (List (List ℕ))) → goes_on a ≡ true → unless_done a (λ _. rest) ≡ rest
goes_behind (answer.Done e) rest h = absurd (cc)
goes_behind answer.Went rest h = refl
goes_behind (answer.Chose height) rest h = refl
goes_behind (answer.Popped height) rest h = refl
goes_behind (answer.Cut height) rest h = refl
goes_behind (answer.Called routine frames) rest h = refl
goes_behind (answer.Returned frames) rest h = refl
goes_behind answer.Printed rest h = refl

-- nothing follows a step where nothing is to follow
nothing_behind : (a : Step) → unless_done a (λ _. []) ≡ []
nothing_behind (answer.Done e) = refl
nothing_behind answer.Went = refl
nothing_behind (answer.Chose height) = refl
nothing_behind (answer.Popped height) = refl
nothing_behind (answer.Cut height) = refl
nothing_behind (answer.Called routine frames) = refl
nothing_behind (answer.Returned frames) = refl
nothing_behind answer.Printed = refl

-- the lines of the first m steps of a run from old, none of which was the last, and those behind them
abbrev pub lines_of : MachineView → List Watch → (behind : List (List (List ℕ))) → (steps : ℕ) → List (List (List ℕ))
lines_of old watches behind steps = run_lines old.code old.input watches behind steps old.state

-- their text
abbrev pub text_of : MachineView → List Watch → (steps : ℕ) → List ℕ
text_of old watches steps = flat_map text_line (lines_of old watches [] steps)

-- none of the first m steps ended the run: the lines of further steps come behind theirs
pub record IsFront (old : MachineView) (watches : List Watch) (m : ℕ) : Type 0 where
  pub lines : (behind : List (List (List ℕ))) (k : ℕ)
      → lines_of old watches behind (m + k)
      ≡ lines_of old watches [] m ++ run_lines old.code old.input watches behind k (after old.code old.input m old.state)

-- one step more: its line, and what is behind it where it goes on
lines_then : (old now new : MachineView) (watches : List Watch) (m : ℕ) (a : Step) → IsFront old watches m → Progress old now m
    → step_result a new.printed new.state ≡ step now.code now.input now.state → (behind : List (List (List ℕ))) (k : ℕ)
    → lines_of old watches behind (m + suc k)
    ≡ lines_of old watches [] m ++ (traced_words old.code watches a new.printed new.state
    ++ unless_done a (λ _. run_lines old.code old.input watches behind k new.state))
lines_then old now new watches m a front p done behind k =
    let at : step now.code now.input now.state ≡ step old.code old.input (after old.code old.input m old.state) =
    ap (λ code. step code now.input now.state) p.code ∙ ap (λ input. step old.code input now.state) p.input
    ∙ ap (step old.code old.input) p.state in
    front.lines behind (suc k)
    ∙ ap (λ (x : StepResult). lines_of old watches [] m ++ (traced_words old.code watches x.answer x.printed x.state
    ++ unless_done x.answer (λ _. run_lines old.code old.input watches behind k x.state))) (sym (done ∙ at))

-- the lines with one step more
lines_more : (old now new : MachineView) (watches : List Watch) (m : ℕ) (a : Step) → IsFront old watches m → Progress old now m
    → step_result a new.printed new.state ≡ step now.code now.input now.state
    → lines_of old watches [] (m + 1) ≡ lines_of old watches [] m ++ traced_words old.code watches a new.printed new.state
lines_more old now new watches m a front p done =
    let words : List (List (List ℕ)) = traced_words old.code watches a new.printed new.state in
    lines_then old now new watches m a front p done [] 0
    ∙ ap (λ (z : List (List (List ℕ))). lines_of old watches [] m ++ (words ++ z)) (nothing_behind a)
    ∙ ap (λ (z : List (List (List ℕ))). lines_of old watches [] m ++ z) (append-nil words)

-- the text with one step more
pub text_more : (old now new : MachineView) (watches : List Watch) (m : ℕ) (a : Step) → IsFront old watches m → Progress old now m
    → step_result a new.printed new.state ≡ step now.code now.input now.state
    → text_of old watches (m + 1) ≡ text_of old watches m ++ step_text old.code watches a new.printed new.state
text_more old now new watches m a front p done =
    ap (flat_map text_line) (lines_more old now new watches m a front p done)
    ∙ flat_map-append text_line (lines_of old watches [] m) (traced_words old.code watches a new.printed new.state)

-- with a step that goes on none ended the run
pub front_more : (old now new : MachineView) (watches : List Watch) (m : ℕ) (a : Step) → IsFront old watches m → Progress old now m
    → Progress old new (m + 1)
    → step_result a new.printed new.state ≡ step now.code now.input now.state → goes_on a ≡ true → IsFront old watches (m + 1)
front_more old now new watches m a front p q done goes = record {
  lines = λ behind k.
      let sum : (m + 1) + k ≡ m + suc k = omega arith in
      let words : List (List (List ℕ)) = traced_words old.code watches a new.printed new.state in
      let rest : List (List (List ℕ)) = run_lines old.code old.input watches behind k new.state in
      ap (lines_of old watches behind) sum
      ∙ lines_then old now new watches m a front p done behind k
      ∙ ap (λ (z : List (List (List ℕ))). lines_of old watches [] m ++ (words ++ z)) (goes_behind a rest goes)
      ∙ sym (append_assoc (lines_of old watches [] m) words rest)
      ∙ ap (λ (z : List (List (List ℕ))). z ++ rest) (sym (lines_more old now new watches m a front p done))
      ∙ ap (λ (s : State). lines_of old watches [] (m + 1) ++ run_lines old.code old.input watches behind k s) q.state;
}

-- with the step that ends the run the text is whole
pub text_whole : (old now new : MachineView) (watches : List Watch) (m budget : ℕ) (a : Step) (e : End) → IsFront old watches m
    → Progress old now m
    → step_result a new.printed new.state ≡ step now.code now.input now.state → a ≡ answer.Done e → m < budget
    → text_of_run old.code old.input watches budget old.state ≡ text_of old watches m ++ step_text old.code watches a new.printed new.state
text_whole old now new watches m budget a e front p done is lt =
    let k : ℕ = budget - (m + 1) in
    let sum : budget ≡ m + suc (budget - (m + 1)) = omega arith in
    let words : List (List (List ℕ)) = traced_words old.code watches a new.printed new.state in
    let rest : List (List (List ℕ)) = run_lines old.code old.input watches steps_end (budget - (m + 1)) new.state in
    ap (λ (n : ℕ). flat_map text_line (lines_of old watches steps_end n)) sum
    ∙ ap (flat_map text_line) (lines_then old now new watches m a front p done steps_end (budget - (m + 1))
    ∙ ap (λ (b : Step). lines_of old watches [] m ++ (words ++ unless_done b (λ _. rest))) is
    ∙ ap (λ (z : List (List (List ℕ))). lines_of old watches [] m ++ z) (append-nil words))
    ∙ flat_map-append text_line (lines_of old watches [] m) words

-- where all steps were made and none ended the run
pub text_out : (old : MachineView) (watches : List Watch) (budget : ℕ) → IsFront old watches budget
    → text_of_run old.code old.input watches budget old.state ≡ text_of old watches budget ++ flat_map text_line steps_end
text_out old watches budget front =
    let none : budget ≡ budget + 0 = omega arith in
    ap (λ (n : ℕ). flat_map text_line (lines_of old watches steps_end n)) none
    ∙ ap (flat_map text_line) (front.lines steps_end 0)
    ∙ flat_map-append text_line (lines_of old watches [] budget) steps_end

-- what may follow the lines of so many steps
abbrev pub end_within : (steps budget : ℕ) → List (List (List ℕ))
end_within steps budget = if_true (nat_eq steps budget) (λ _. steps_end) (λ _. [])

-- the text of the steps made begins with that of each but the last
pub within_now : (old new : MachineView) (watches : List Watch) (m budget : ℕ) → IsFront old watches m → Progress old new m
    → traced_within old.code old.input watches (made old new) budget old.state ≡ text_of old watches m
    ++ flat_map text_line (end_within m budget)
within_now old new watches m budget front p =
    let none : m ≡ m + 0 = omega arith in
    ap (λ (n : ℕ). traced_within old.code old.input watches n budget old.state) (made_is old new m p)
    ∙ ap (λ (n : ℕ). flat_map text_line (lines_of old watches (end_within m budget) n)) none
    ∙ ap (flat_map text_line) (front.lines (end_within m budget) 0)
    ∙ flat_map-append text_line (lines_of old watches [] m) (end_within m budget)

-- and goes on with the line of the last
pub within_then : (old now new : MachineView) (watches : List Watch) (m budget : ℕ) (a : Step) → IsFront old watches m → Progress old now m
    → Progress old new (m + 1) → step_result a new.printed new.state ≡ step now.code now.input now.state
    → traced_within old.code old.input watches (made old new) budget old.state
    ≡ text_of old watches m ++ (step_text old.code watches a new.printed new.state
    ++ flat_map text_line (unless_done a (λ _. end_within (m + 1) budget)))
within_then old now new watches m budget a front p q done =
    let words : List (List (List ℕ)) = traced_words old.code watches a new.printed new.state in
    let rest : List (List (List ℕ)) = unless_done a (λ _. end_within (m + 1) budget) in
    ap (λ (n : ℕ). traced_within old.code old.input watches n budget old.state) (made_is old new (m + 1) q)
    ∙ ap (flat_map text_line) (lines_then old now new watches m a front p done (end_within (m + 1) budget) 0)
    ∙ flat_map-append text_line (lines_of old watches [] m) (words ++ rest)
    ∙ ap (λ (z : List ℕ). text_of old watches m ++ z) (flat_map-append text_line words rest)

-- all steps are those of the budget
pub end_whole : (budget : ℕ) → end_within budget budget ≡ steps_end
end_whole budget = ap (λ b. if_true b (λ _. steps_end) (λ _. [])) (eq-eqb budget budget refl)

-- what holds holds where the run was cut short
pub on_cut : (end : RunEnd) (P : Type 0) → IsCut end → P → OnCut end P
on_cut run.WriteFault P h p = p
on_cut run.Memory P h p = p
on_cut run.Succeeded P h p = absurd h
on_cut run.Failed P h p = absurd h
on_cut (run.Fault fault) P h p = absurd h
on_cut run.StepsOut P h p = absurd h

-- a front of a line comes after the lines before it
pub front_behind : (a b c : Option (List ℕ)) (xs ys rest zs : List ℕ) → Appends a b xs → AppendsFront b c ys → zs ≡ xs ++ (ys ++ rest)
    → AppendsFront a c zs
front_behind a b c xs ys rest zs h (front, more, is, k) e =
    out_front a b c xs (ys ++ rest) zs h (front, more ++ rest, ap (λ (z : List ℕ). z ++ rest) is ∙ append_assoc front more rest, k) e

-- what holds holds where the sink failed
pub on_write_fault : (end : RunEnd) (P : Type 0) → P → OnWriteFault end P
on_write_fault run.WriteFault P p = p
on_write_fault run.Memory P p = tt
on_write_fault run.Succeeded P p = tt
on_write_fault run.Failed P p = tt
on_write_fault (run.Fault fault) P p = tt
on_write_fault run.StepsOut P p = tt

-- and where memory was wanted
pub on_memory : (end : RunEnd) (P : Type 0) → P → OnMemory end P
on_memory run.Memory P p = p
on_memory run.WriteFault P p = tt
on_memory run.Succeeded P p = tt
on_memory run.Failed P p = tt
on_memory (run.Fault fault) P p = tt
on_memory run.StepsOut P p = tt

-- a live machine can make a step
pub live_can_go : (mode : Mode) → IsLive mode → true ≡ can_go mode
live_can_go Going h = refl
live_can_go Failing h = refl
live_can_go (Ended end) h = absurd h
live_can_go Stuck h = absurd h

-- after a step that goes on, and after no other
pub goes_can_go : (a : Step) (mode : Mode) → ModeAfter a mode → goes_on a ≡ can_go mode
goes_can_go (answer.Done e) mode h = sym (ap can_go h)
goes_can_go answer.Went mode h = live_can_go mode h
goes_can_go (answer.Chose height) mode h = live_can_go mode h
goes_can_go (answer.Popped height) mode h = live_can_go mode h
goes_can_go (answer.Cut height) mode h = live_can_go mode h
goes_can_go (answer.Called routine frames) mode h = live_can_go mode h
goes_can_go (answer.Returned frames) mode h = live_can_go mode h
goes_can_go answer.Printed mode h = live_can_go mode h
