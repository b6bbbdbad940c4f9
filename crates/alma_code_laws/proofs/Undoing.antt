-- What stands below in the stack of choice entries keeps its frames, and a pop gives them back.
use Rattle.std.proofs.Common.{◌≡◌, ℕ, zero, suc, ◌+◌, ◌-◌, ◌<◌, ◌≤◌, inl, inr, List, [], ◌∷◌, ◌++◌, length, get_or, take, set, min, refl}
use Rattle.std.proofs.Common.{sym, ap, ◌∙◌, subst, arith, Option, Some, None}
use Rattle.std.specs.Prelude.{Bool, true, false, slice_get, if◌then◌else◌}
use Rattle.std.proofs.Math.ListN.{get_or-append}
use Rattle.std.proofs.Math.Seq.{get_or-append_seam, get_or-append_right}
use Rattle.std.proofs.lemmas.Bool.{cases_eq, cases_lt, false≢true}
use Rattle.std.proofs.lemmas.List.{get_or-take, get_or-set_same, get_or-set_other, length-append, length-take}
use Rattle.alma_base.specs.Carry.{with_changes}
use Rattle.alma_code.specs.declared.cell.ChoiceKind.{ChoiceKind}
use Rattle.alma_code.specs.declared.cell.ChoiceKind.TheVariants as choice
use Rattle.alma_code.specs.declared.instr.Instr.{Instr}
use Rattle.alma_code.specs.declared.step.Step.{Step}
use Rattle.alma_code.specs.declared.step.Step.TheVariants as answer
use Rattle.alma_code.specs.Picture.{PlainFrame, PlainEntry, no_entry, top_of, entry_at, entry_after_pop, entry_of_kind_after_pop}
use Rattle.alma_code.specs.Picture.{stack_after_pop}
use Rattle.alma_code.specs.Carries.{diffs, with_carry, held_after_keep}
use Rattle.alma_code.specs.Plain.{PlainCode}
use Rattle.alma_code.specs.Machine.{Mode, Going, Failing, Ended, Stuck, State, StepResult, is_kind, step, step_in, fetch_and_act}
use Rattle.alma_code.specs.Machine.{with_step_counted, pop_or_end, after}
use Rattle.alma_code_laws.specs.Undo.{Stands, frames_at_choice, GivesBack}
use Rattle.alma_code_laws.proofs.Does.{Does, stays, falls, keeps, pushes, is_quiet, entry_of, copy_of}
use Rattle.alma_code_laws.proofs.UndoneActs.{act_does}

-- ---- one step

-- what is done at an address
fetch_does : (code : PlainCode) (input : List ℕ) (o : Option Instr) (s : State) → Does s.held s.now (fetch_and_act code input o s)
fetch_does code input (Some i) s = act_does code input i _
fetch_does code input None s = stays refl refl

-- ---- the frames of the lowest entries

-- the lowest entries of both stacks hold the same frames
unfoldable Same : ℕ → List PlainEntry → List PlainEntry → Type 0
Same h old new = (i : ℕ) → i < h → (get_or new i no_entry).frames ≡ (get_or old i no_entry).frames

same_refl : (h : ℕ) (old new : List PlainEntry) → new ≡ old → Same h old new
unfolding Same
same_refl h old new e = λ i lt. ap (λ x. (get_or x i no_entry).frames) e

same_then : (h : ℕ) (a b c : List PlainEntry) → Same h a b → Same h b c → Same h a c
unfolding Same
same_then h a b c x y = λ i lt. y i lt ∙ x i lt

same_falls : (h n : ℕ) (old new : List PlainEntry) → new ≡ take n old → h ≤ length new → Same h old new
unfolding Same
same_falls h n old new e le = λ i lt.
    let len : length new ≡ min n (length old) = ap length e ∙ length-take n old in
    let below : i < n = omega (arith, len) in
    ap (λ x. (get_or x i no_entry).frames) e ∙ ap (λ x. x.frames) (get_or-take n old i no_entry below)

same_grows : (h : ℕ) (old new : List PlainEntry) (x : PlainEntry) → new ≡ old ++ x ∷ [] → h ≤ length old → Same h old new
unfolding Same
same_grows h old new x e le = λ i lt.
    ap (λ y. (get_or y i no_entry).frames) e ∙ ap (λ y. y.frames) (get_or-append old (x ∷ []) no_entry i (omega arith))

-- an entry with another carry has its frames
same_set : (old : List PlainEntry) (j i : ℕ) (x : PlainEntry) → x.frames ≡ (get_or old j no_entry).frames → i < length old
    → (get_or (set old j x) i no_entry).frames ≡ (get_or old i no_entry).frames
same_set old j i x e lt = elim (cases_eq i j) [
  | inl is ↦
      let low : j < length old = omega (arith, is) in
      let there : get_or (set old j x) i no_entry ≡ x =
      subst (λ k. get_or (set old j x) k no_entry ≡ x) (sym is) (get_or-set_same old j x no_entry low) in
      ap (λ y. y.frames) there ∙ (e ∙ ap (λ k. (get_or old k no_entry).frames) (sym is))
  | inr ne ↦ ap (λ y. y.frames) (get_or-set_other old j i x no_entry ne)
]

same_keeps : (h g : ℕ) (now : List PlainFrame) (old new : List PlainEntry) → new ≡ held_after_keep old g now → h ≤ length new
    → Same h old new
unfolding Same
same_keeps h g now old new e le = λ i lt.
    let x : PlainEntry = with_carry (entry_at old g) (with_changes (diffs (top_of old).frames now) (entry_at old g).carry) in
    let len : length new ≡ min (length old - 1) (length (set old (g - 1) x)) = ap length e
    ∙ length-take (length old - 1) (set old (g - 1) x) in
    let below : i < length old - 1 = omega (arith, len) in
    ap (λ y. (get_or y i no_entry).frames) e
    ∙ (ap (λ y. y.frames) (get_or-take (length old - 1) (set old (g - 1) x) i no_entry below)
    ∙ same_set old (g - 1) i x refl (omega (arith, below)))

-- what a pop leaves of an entry has its frames
left_by_pop : (k : ChoiceKind) (x : PlainEntry) → 0 < length (entry_of_kind_after_pop k x)
    → (get_or (entry_of_kind_after_pop k x) 0 no_entry).frames ≡ x.frames
left_by_pop choice.Forall x lt = refl
left_by_pop choice.Branch x lt = absurd (omega (arith, lt))
left_by_pop choice.Body x lt = absurd (omega (arith, lt))
left_by_pop choice.Done x lt = absurd (omega (arith, lt))

-- how many entries a pop leaves of one
most_one : (k : ChoiceKind) (x : PlainEntry) → length (entry_of_kind_after_pop k x) ≤ 1
most_one choice.Forall x = omega arith
most_one choice.Branch x = omega arith
most_one choice.Body x = omega arith
most_one choice.Done x = omega arith

-- the entry behind the lowest ones, where it is there
get_behind : (xs ys : List PlainEntry) → get_or (xs ++ ys) (length xs) no_entry ≡ get_or ys 0 no_entry
get_behind xs ys =
    let zero_left : length xs - length xs ≡ 0 = omega arith in
    get_or-append_right xs ys (length xs) no_entry (omega arith) ∙ ap (λ k. get_or ys k no_entry) zero_left

same_pops : (h : ℕ) (old new : List PlainEntry) → new ≡ stack_after_pop old → h ≤ length new → h ≤ length old → Same h old new
unfolding Same
same_pops h old new e le low = λ i lt.
    let xs : List PlainEntry = take (length old - 1) old in
    let len : length xs ≡ min (length old - 1) (length old) = length-take (length old - 1) old in
    let whole : length new ≡ length xs + length (entry_after_pop (top_of old)) = ap length e
    ∙ length-append xs (entry_after_pop (top_of old)) in
    let one : length (entry_after_pop (top_of old)) ≤ 1 = most_one (top_of old).kind (top_of old) in
    elim (cases_lt i (length old - 1)) [
      | inl lower ↦
          ap (λ y. (get_or y i no_entry).frames) e
          ∙ (ap (λ y. y.frames) (get_or-append xs (entry_after_pop (top_of old)) no_entry i (omega (arith, len)))
          ∙ ap (λ y. y.frames) (get_or-take (length old - 1) old i no_entry lower))
      | inr top ↦
          let is : i ≡ length old - 1 = omega arith in
          let at : length xs ≡ i = omega (arith, len) in
          let there : get_or (xs ++ entry_after_pop (top_of old)) i no_entry ≡ get_or (entry_after_pop (top_of old)) 0 no_entry =
          subst (λ k. get_or (xs ++ entry_after_pop (top_of old)) k no_entry ≡ get_or (entry_after_pop (top_of old)) 0 no_entry)
          at (get_behind xs (entry_after_pop (top_of old))) in
          ap (λ y. (get_or y i no_entry).frames) e
          ∙ (ap (λ y. y.frames) there
          ∙ (left_by_pop (top_of old).kind (top_of old) (omega (arith, whole, len))
          ∙ ap (λ k. (get_or old k no_entry).frames) (sym is)))
    ]

-- what a step does keeps the frames of the entries that stand before and behind it
does_same : (h : ℕ) (old : List PlainEntry) (before : List PlainFrame) (r : StepResult) → Does old before r → h ≤ length old
    → h ≤ length r.state.held → Same h old r.state.held
does_same h old before r (stays e q) a b = same_refl h old r.state.held e
does_same h old before r (falls n e q) a b = same_falls h n old r.state.held e b
does_same h old before r (keeps g now e q) a b = same_keeps h g now old r.state.held e b
does_same h old before r (pushes kind resume e q) a b =
    same_grows h old r.state.held (entry_of kind resume (copy_of kind before r.state.now)) e a

-- so does a pop
pop_same : (h : ℕ) (held : List PlainEntry) (s : State) → s.held ≡ held → h ≤ length s.held → h ≤ length (pop_or_end s held).state.held
    → Same h s.held (pop_or_end s held).state.held
pop_same h [] s e a b = same_refl h s.held s.held refl
pop_same h (x ∷ rest) s e a b = same_pops h s.held (stack_after_pop s.held) refl b a

-- and a step
step_same : (code : PlainCode) (input : List ℕ) (m : Mode) (h : ℕ) (s : State) → h ≤ length s.held
    → h ≤ length (step_in code input m s).state.held → Same h s.held (step_in code input m s).state.held
step_same code input Going h s a b =
    does_same h s.held s.now (fetch_and_act code input (slice_get code.instrs s.at) s)
    (fetch_does code input (slice_get code.instrs s.at) s) a b
step_same code input Failing h s a b = pop_same h s.held (with_step_counted code input s) refl a b
step_same code input (Ended e) h s a b = same_refl h s.held s.held refl
step_same code input Stuck h s a b = same_refl h s.held s.held refl

-- ---- many steps

stands_same : (code : PlainCode) (input : List ℕ) (h n : ℕ) (s : State) → Stands code input h n s
    → Same h s.held (after code input n s).held
stands_same code input h zero s stand = same_refl h s.held s.held refl
stands_same code input h (suc n) s stand =
    let first : Same h s.held (step code input s).state.held =
    step_same code input s.mode h s (stand 0 (omega arith)) (stand 1 (omega arith)) in
    let rest : Stands code input h n (step code input s).state = λ k le. stand (suc k) (omega (arith, le)) in
    same_then h s.held (step code input s).state.held (after code input (suc n) s).held first
    (stands_same code input h n (step code input s).state rest)

-- ---- the push and the pop

-- a quiet answer is no push
no_push : (a : Step) (h : ℕ) → is_quiet a ≡ true → a ≡ answer.Chose h → ⊥
no_push a h q e = false≢true (sym (ap is_quiet e) ∙ q)

no_pop : (a : Step) (h : ℕ) → is_quiet a ≡ true → a ≡ answer.Popped h → ⊥
no_pop a h q e = false≢true (sym (ap is_quiet e) ∙ q)

-- the heights that answers tell
abbrev height_of : Step → ℕ
height_of (answer.Chose h) = h
height_of (answer.Popped h) = h
height_of _ = 0

-- an answer that is a push
abbrev is_push : Step → Bool
is_push (answer.Chose h) = true
is_push _ = false

-- the frames that a push copies are those at its choice point
record Copied (s t : State) (h : ℕ) : Type 0 where
  some : 1 ≤ h
  height : h ≡ length t.held
  frames : (get_or t.held (h - 1) no_entry).frames ≡ frames_at_choice s t

-- the top of a stack with one entry more
top_grown : (old : List PlainEntry) (x : PlainEntry) → top_of (old ++ x ∷ []) ≡ x
top_grown old x =
    let len : length (old ++ x ∷ []) ≡ length old + 1 = length-append old (x ∷ []) in
    let at : length old ≡ length (old ++ x ∷ []) - 1 = omega (arith, len) in
    subst (λ k. get_or (old ++ x ∷ []) k no_entry ≡ x) at (get_or-append_seam old x [] no_entry)

push_copies : (s : State) (r : StepResult) (h : ℕ) → Does s.held s.now r → r.answer ≡ answer.Chose h → Copied s r.state h
push_copies s r h (stays e q) is = absurd (no_push r.answer h q is)
push_copies s r h (falls n e q) is = absurd (no_push r.answer h q is)
push_copies s r h (keeps g now e q) is = absurd (no_push r.answer h q is)
push_copies s r h (pushes kind resume e q) is =
    let x : PlainEntry = entry_of kind resume (copy_of kind s.now r.state.now) in
    let height : h ≡ length r.state.held = ap height_of (sym is ∙ q) in
    let len : length r.state.held ≡ length s.held + 1 = ap length e ∙ length-append s.held (x ∷ []) in
    let top : top_of r.state.held ≡ x = ap top_of e ∙ top_grown s.held x in
    record {
      some = omega (arith, height, len);
      height = height;
      frames =
          ap (λ k. (get_or r.state.held (k - 1) no_entry).frames) height
          ∙ (ap (λ y. y.frames) top ∙ ap (λ y. if is_kind choice.Body (Some y.kind) then r.state.now else s.now) (sym top));
    }

-- neither the end of a run nor a pop is a push
pop_pushes : (held : List PlainEntry) (s : State) (h : ℕ) → (pop_or_end s held).answer ≡ answer.Chose h → ⊥
pop_pushes [] s h is = no_push (pop_or_end s []).answer h refl is
pop_pushes (x ∷ rest) s h is = false≢true (ap is_push is)

-- a step that pushes
step_copies : (code : PlainCode) (input : List ℕ) (m : Mode) (s : State) (h : ℕ) → (step_in code input m s).answer ≡ answer.Chose h
    → Copied s (step_in code input m s).state h
step_copies code input Going s h is =
    push_copies s (fetch_and_act code input (slice_get code.instrs s.at) s) h (fetch_does code input (slice_get code.instrs s.at) s) is
step_copies code input Failing s h is = absurd (pop_pushes s.held (with_step_counted code input s) h is)
step_copies code input (Ended e) s h is = absurd (no_push (answer.Done e) h refl is)
step_copies code input Stuck s h is = absurd (no_push answer.Went h refl is)

-- a pop takes the copy of the top entry
record Takes (s t : State) (h : ℕ) : Type 0 where
  height : h ≡ length s.held
  frames : t.now ≡ (top_of s.held).frames

pop_takes : (held : List PlainEntry) (s : State) (h : ℕ) → s.held ≡ held → (pop_or_end s held).answer ≡ answer.Popped h
    → Takes s (pop_or_end s held).state h
pop_takes [] s h e is = absurd (no_pop (pop_or_end s []).answer h refl is)
pop_takes (x ∷ rest) s h e is = record { height = ap height_of (sym is); frames = refl }

-- no instruction answers a pop
never_pops : (s : State) (r : StepResult) (h : ℕ) → Does s.held s.now r → r.answer ≡ answer.Popped h → ⊥
never_pops s r h (stays e q) is = no_pop r.answer h q is
never_pops s r h (falls n e q) is = no_pop r.answer h q is
never_pops s r h (keeps g now e q) is = no_pop r.answer h q is
never_pops s r h (pushes kind resume e q) is = false≢true (ap is_push (sym is ∙ q))

-- a step that pops
step_takes : (code : PlainCode) (input : List ℕ) (m : Mode) (s : State) (h : ℕ) → (step_in code input m s).answer ≡ answer.Popped h
    → Takes s (step_in code input m s).state h
step_takes code input Going s h is =
    absurd (never_pops s (fetch_and_act code input (slice_get code.instrs s.at) s) h (fetch_does code input (slice_get code.instrs s.at) s)
    is)
step_takes code input Failing s h is =
    let t : Takes (with_step_counted code input s) (step_in code input Failing s).state h =
    pop_takes s.held (with_step_counted code input s) h refl is in
    record { height = t.height; frames = t.frames }
step_takes code input (Ended e) s h is = absurd (no_pop (answer.Done e) h refl is)
step_takes code input Stuck s h is = absurd (no_pop answer.Went h refl is)

-- ---- the law

pub gives_back : (code : PlainCode) (input : List ℕ) → GivesBack code input
unfolding Same
gives_back code input s h n chose stand popped =
    let t : State = (step code input s).state in
    let u : State = after code input n t in
    let copied : Copied s t h = step_copies code input s.mode s h chose in
    let taken : Takes u (step code input u).state h = step_takes code input u.mode u h popped in
    let same : Same h t.held u.held = stands_same code input h n t stand in
    let low : h - 1 < h = omega (arith, copied.some) in
    taken.frames
    ∙ (ap (λ k. (get_or u.held (k - 1) no_entry).frames) (sym taken.height)
    ∙ (same (h - 1) low ∙ copied.frames))
