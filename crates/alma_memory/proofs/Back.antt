-- The entry of a choice keeps its copy under all calls that leave it.
use Rattle.std.proofs.Common.{◌≡◌, ℕ, ◌≤◌, ◌<◌, ◌+◌, ◌-◌, List, [], ◌∷◌, ◌++◌, length, take, get_or, set, suc, zero, refl, sym, ap, ◌∙◌}
use Rattle.std.proofs.Common.{arith}
use Rattle.std.proofs.Common.{inl, inr}
use Rattle.std.proofs.lemmas.List.{length_push, length-take, length-take-le, length-append, get_or_at, get_or-take, get_or-append_right}
use Rattle.std.proofs.Math.ListN.{get_or-append}
use Rattle.alma_code.specs.declared.cell.ChoiceKind.{ChoiceKind}
use Rattle.alma_code.specs.declared.cell.ChoiceKind.TheVariants.{Branch, Forall, Body, Done}
use Rattle.alma_code.specs.Picture.{PlainFrame, PlainEntry, no_entry, top_of, entry_at, stack_after_pop, entry_after_pop}
use Rattle.alma_code.specs.Picture.{entry_of_kind_after_pop}
use Rattle.alma_base.specs.Carry.{with_changes}
use Rattle.alma_code.specs.Carries.{with_carry, diffs}
use Rattle.std.proofs.lemmas.Bool.{cases_lt}
use Rattle.alma_memory.specs.Picture.{Picture}
use Rattle.alma_memory.specs.Calls.{Call, Nothing, Write, Enter, Leave, Choose, Fail, Cut, Overlay, Keep, Finish, Makes, Leads, GivesBack}

-- the copy of the entry at a place of the stack
abbrev copy_at : List PlainEntry → ℕ → List PlainFrame
copy_at held i = (get_or held i no_entry).frames

-- entries above leave a copy
copy-append : (held more : List PlainEntry) (i : ℕ) → i < length held → copy_at (held ++ more) i ≡ copy_at held i
copy-append held more i l = ap (λ (e : PlainEntry). e.frames) (get_or-append held more no_entry i l)

-- a cut above leaves a copy
copy-take : (n : ℕ) (held : List PlainEntry) (i : ℕ) → i < n → copy_at (take n held) i ≡ copy_at held i
copy-take n held i l = ap (λ (e : PlainEntry). e.frames) (get_or-take n held i no_entry l)

-- an entry with another carry has the same copy
copy-set : (held : List PlainEntry) (j : ℕ) (e : PlainEntry) (i : ℕ) → e.frames ≡ copy_at held j → copy_at (set held j e) i ≡ copy_at held i
copy-set [] j e i h = refl
copy-set (x ∷ held) zero e zero h = h
copy-set (x ∷ held) zero e (suc i) h = refl
copy-set (x ∷ held) (suc j) e zero h = refl
copy-set (x ∷ held) (suc j) e (suc i) h = copy-set held j e i h

-- what a pop leaves of the top entry has its copy
copy-left : (kind : ChoiceKind) (e : PlainEntry) → 1 ≤ length (entry_of_kind_after_pop kind e)
    → copy_at (entry_of_kind_after_pop kind e) 0 ≡ e.frames
copy-left Forall e l = refl
copy-left Branch e l = absurd (omega arith)
copy-left Body e l = absurd (omega arith)
copy-left Done e l = absurd (omega arith)

-- a pop leaves the copies below the top, and the copy of the top where it stays
copy-stack_after_pop : (held : List PlainEntry) (i : ℕ) → i < length (stack_after_pop held) → i < length held
    → copy_at (stack_after_pop held) i ≡ copy_at held i
copy-stack_after_pop held i l m =
    let n : ℕ = length held - 1 in
    let less : n ≤ length held = omega arith in
    let len : length (take n held) ≡ n = length-take-le n held less in
    elim (cases_lt i n) [
      | inl lt ↦ copy-append (take n held) (entry_after_pop (top_of held)) i (rw len lt) ∙ copy-take n held i lt
      | inr le ↦ (
          let here : i ≡ n = omega arith in
          let sum = length-append (take n held) (entry_after_pop (top_of held)) in
          let some : 1 ≤ length (entry_after_pop (top_of held)) = omega (arith, l, sum, len, here) in
          let z : i - n ≡ 0 = omega arith in
          ap (λ (e : PlainEntry). e.frames) (get_or-append_right (take n held) (entry_after_pop (top_of held)) n i no_entry len le)
          ∙ (ap (copy_at (entry_after_pop (top_of held))) z
          ∙ (copy-left (top_of held).kind (top_of held) some ∙ ap (copy_at held) (sym here))))
    ]

-- a call that leaves an entry leaves its copy
copy-kept : (call : Call) (old new : Picture) (i : ℕ) → Makes call old new → i < length old.held → i < length new.held
    → copy_at new.held i ≡ copy_at old.held i
copy-kept Nothing old new i m l k = ap (λ h. copy_at h i) m.held
copy-kept (Write f s c) old new i m l k = ap (λ h. copy_at h i) m.held
copy-kept (Enter g) old new i m l k = ap (λ h. copy_at h i) m.held
copy-kept Leave old new i m l k = ap (λ h. copy_at h i) m.held
copy-kept (Choose kind resume) old new i m l k =
    ap (λ h. copy_at h i) m.held ∙ copy-append old.held ((record { kind = kind; resume = resume; frames = old.now; carry = [] }) ∷ []) i l
copy-kept Fail old new i m l k = ap (λ h. copy_at h i) m.held ∙ copy-stack_after_pop old.held i (rw (← m.held) k) l
copy-kept (Cut h) old new i m l k =
    let len = length-take h old.held in
    let same = ap length m.held in
    let lt : i < h = omega (arith, k, len, same) in
    ap (λ hs. copy_at hs i) m.held ∙ copy-take h old.held i lt
copy-kept (Overlay h) old new i m l k = ap (λ hs. copy_at hs i) m.held
copy-kept (Keep h) old new i m l k =
    let e : PlainEntry = with_carry (entry_at old.held h)
    (with_changes (diffs (top_of old.held).frames old.now) (entry_at old.held h).carry) in
    let len = length-take (length old.held - 1) (set old.held (h - 1) e) in
    let same = ap length m.held in
    let lt : i < length old.held - 1 = omega (arith, k, len, same) in
    ap (λ hs. copy_at hs i) m.held ∙ (copy-take (length old.held - 1) (set old.held (h - 1) e) i lt ∙ copy-set old.held (h - 1) e i refl)
copy-kept Finish old new i m l k =
    let len = length-take (length old.held - 1) old.held in
    let same = ap length m.held in
    let lt : i < length old.held - 1 = omega (arith, k, len, same) in
    ap (λ hs. copy_at hs i) m.held ∙ copy-take (length old.held - 1) old.held i lt

-- calls that leave an entry leave its copy
copy-led : (n : ℕ) (calls : List Call) (old new : Picture) (i : ℕ) → i < n → n ≤ length old.held → Leads n calls old new →
    (n ≤ length new.held) × (copy_at new.held i ≡ copy_at old.held i)
copy-led n [] old new i l m leads = (rw leads.1 m, ap (λ h. copy_at h i) leads.1)
copy-led n (call ∷ calls) old new i l m leads =
    let next : Picture = leads.0 in
    let one = copy-kept call old next i leads.1 (omega arith) (omega (arith, leads.2)) in
    let rest = copy-led n calls next new i l leads.2 leads.3 in
    (rest.0, rest.1 ∙ one)

-- the frames from before a choice come back
pub gives_back : GivesBack
gives_back kind resume calls before chosen later cut failed c l t f =
    let i : ℕ = length before.held in
    let entry : PlainEntry = record { kind = kind; resume = resume; frames = before.now; carry = [] } in
    let wide : length chosen.held ≡ i + 1 = ap length c.held ∙ length_push before.held entry in
    let led = copy-led (length chosen.held) calls chosen later i (omega (arith, wide)) (omega arith) l in
    let short : length cut.held ≡ length chosen.held = ap length t.held ∙ length-take-le (length chosen.held) later.held led.0 in
    let at : length cut.held - 1 ≡ i = omega (arith, short, wide) in
    let lt : i < length chosen.held = omega (arith, wide) in
    f.now ∙ (ap (copy_at cut.held) at ∙ (ap (λ h. copy_at h i) t.held
    ∙ (copy-take (length chosen.held) later.held i lt ∙ (led.1
    ∙ (ap (λ h. copy_at h i) c.held ∙ ap (λ (e : PlainEntry). e.frames) (get_or_at before.held entry [] no_entry i refl))))))
