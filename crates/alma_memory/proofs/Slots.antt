-- A pop keeps how many slots the global frame has, now and in each copy.
use Rattle.std.proofs.Common.{◌≡◌, ℕ, ◌<◌, ◌-◌, [], length, take, arith}
use Rattle.std.specs.Prelude.{Option, Some, None, IsNone, true, false, is_some, ◌↔◌, if◌then◌else◌}
use Rattle.std.specs.List.{All}
use Rattle.std.proofs.lemmas.List.{nil_from_length}
use Rattle.std.proofs.lemmas.List.Elements.{All-append, All-cons, All-nil, All-take, All-get_or}
use Rattle.alma_code.specs.declared.cell.ChoiceKind.{ChoiceKind}
use Rattle.alma_code.specs.declared.cell.ChoiceKind.TheVariants.{Branch, Forall, Body, Done}
use Rattle.alma_code.specs.Picture.{PlainEntry, no_entry, top_of, entry_after_pop, entry_of_kind_after_pop}
use Rattle.alma_memory.specs.Calls.{Fail, Nothing, Makes}
use Rattle.alma_memory.specs.Picture.{Picture}
use Rattle.alma_memory.specs.Slots.{HasSlots, KeepsSlots}

-- the copy of an entry has so many slots
abbrev CopyHasSlots : ℕ → PlainEntry → Type 0
CopyHasSlots slots entry = HasSlots slots entry.frames

-- what a pop leaves of an entry has its copy
left-slots : (slots : ℕ) (kind : ChoiceKind) (e : PlainEntry) → CopyHasSlots slots e
    → All (CopyHasSlots slots) (entry_of_kind_after_pop kind e)
left-slots slots Forall e h = All-cons (CopyHasSlots slots) (record e { kind = Done }) [] h (All-nil (CopyHasSlots slots))
left-slots slots Branch e h = All-nil (CopyHasSlots slots)
left-slots slots Body e h = All-nil (CopyHasSlots slots)
left-slots slots Done e h = All-nil (CopyHasSlots slots)

-- a pop of an entry keeps the slots
fail-slots : (slots : ℕ) (p q : Picture) → Makes Fail p q → (p.held ≡ [] → ⊥) → KeepsSlots slots p → KeepsSlots slots q
fail-slots slots p q m some h =
    let there : (length p.held ≡ 0 → ⊥) = λ e. some (nil_from_length p.held e) in
    let lt : length p.held - 1 < length p.held = omega (arith, there) in
    let top : CopyHasSlots slots (top_of p.held) = All-get_or (CopyHasSlots slots) p.held (length p.held - 1) no_entry lt h.held in
    record {
      now = rw m.now top;
      held = rw m.held (All-append (CopyHasSlots slots) (take (length p.held - 1) p.held) (entry_after_pop (top_of p.held))
          (All-take (CopyHasSlots slots) (length p.held - 1) p.held h.held) (left-slots slots (top_of p.held).kind (top_of p.held) top));
    }

-- and so does a pop that may find no entry
pub stack_after_pop-slots : {A : Type 0} (stack_after_pop : Option A) (slots : ℕ) (p q : Picture) → (IsNone stack_after_pop ↔ (p.held ≡ []))
    →
    Makes (if is_some stack_after_pop then Fail else Nothing) p q → KeepsSlots slots p → KeepsSlots slots q
stack_after_pop-slots None slots p q none m h = record { now = rw m.now h.now; held = rw m.held h.held }
stack_after_pop-slots (Some r) slots p q none m h = fail-slots slots p q m (λ e. let no : true ≡ false = none.1 e in absurd (cc)) h
