-- Lemmas on a body that is kept: the carry below it gains what differs, and the body is dropped.
use Rattle.std.proofs.Common.{◌≡◌, ◌≤◌, ◌<◌, ◌-◌, ℕ, List, [], length, take, get_or, set, sym, ap, ◌∙◌, arith}
use Rattle.alma_base.specs.Carry.{Change, with_changes}
use Rattle.alma_code.specs.declared.cell.Cell.{Cell}
use Rattle.alma_code.specs.Picture.{PlainFrame, PlainEntry, top_of, entry_at}
use Rattle.alma_code.specs.Carries.{diffs, with_carry, held_after_keep}
use Rattle.alma_memory_rewind.specs.PlainRewind.{top_copy}
use Rattle.alma_memory_store.specs.Carries.{IsRising}
use Rattle.alma_memory_store.specs.Past.{SameGain}
use Rattle.alma_memory.specs.declared.stack.Entry.{Entry}
use Rattle.alma_memory.specs.Inner.Gain.{no_stack_entry, entry_with_changes}
use Rattle.alma_memory.specs.Inner.Stack.{entry_with, stack_of}
use Rattle.alma_memory.proofs.Stacks.{stack-length, stack-at, stack-set, stack-top}

-- the entry below gains what differs from the copy of the top one
pub kept-held : (h top : ℕ) (es es' : List Entry) (hs : List (List PlainFrame)) (now : List PlainFrame) (found : List (Change Cell))
    (after : List PlainEntry) → length es ≡ length hs → 1 ≤ h → h < length es →
    es' ≡ set es (h - 1) (entry_with_changes (get_or es (h - 1) no_stack_entry) found) → top ≡ length es - 1
    → after ≡ take top (stack_of es' hs)
    →
    IsRising (get_or es (h - 1) no_stack_entry).carry → SameGain found (diffs (top_copy hs) now)
    → after ≡ held_after_keep (stack_of es hs) h now
kept-held h top es es' hs now found after e a b p t q r g =
    let base : Entry = get_or es (h - 1) no_stack_entry in
    let held : List PlainEntry = stack_of es hs in
    let wide : length held ≡ length es = stack-length es hs e in
    let old : entry_at held h ≡ entry_with base (get_or hs (h - 1) []) = stack-at (h - 1) es hs e (omega (arith, a, b)) in
    let topmost : top_of held ≡ entry_with (get_or es (length es - 1) no_stack_entry) (top_copy hs) =
    stack-top es hs e (omega (arith, a, b)) in
    let frames : (top_of held).frames ≡ top_copy hs = ap (λ (x : PlainEntry). x.frames) topmost in
    let gains : with_changes found base.carry ≡ with_changes (diffs (top_of held).frames now) base.carry = g base.carry r
    ∙ ap (λ fs. with_changes (diffs fs now) base.carry) (sym frames) in
    let new : entry_with (entry_with_changes base found) (get_or hs (h - 1) []) ≡ with_carry (entry_at held h)
    (with_changes (diffs (top_of held).frames now) (entry_at held h).carry) =
    ap (λ cs. with_carry (entry_with base (get_or hs (h - 1) [])) cs) gains
    ∙ ap (λ (x : PlainEntry). with_carry x (with_changes (diffs (top_of held).frames now) x.carry)) (sym old) in
    q ∙ (ap (λ v. take top (stack_of v hs)) p ∙ (ap (take top) (stack-set (h - 1) es hs (entry_with_changes base found) e)
    ∙ (ap (λ x. take top (set held (h - 1) x)) new
    ∙ ap (λ k. take k (set held (h - 1)
    (with_carry (entry_at held h) (with_changes (diffs (top_of held).frames now) (entry_at held h).carry))))
    (t ∙ ap (λ k. k - 1) (sym wide)))))
