use Rattle.std.proofs.Common.{◌≡◌, ◌≤◌, ◌-◌, ◌++◌, ◌∙◌, ap, refl, length, min, take}
use Rattle.alma_back_tape.specs.Inner.Earlier.{PlainEarlier, frames_with_old_cells, diffs_at, diffs_between}
use Rattle.alma_memory_store.specs.Carries.{carry_of_entries}
use Rattle.alma_back_tape.proofs.Looked.{looked-gain}
use Rattle.alma_back_tape.proofs.earlier.Earlier.changes.Goals as goal

pub returns : goal.returns
returns c =
    let before = c.args.self.now.before in
    let now = c.args.self.now.now in
    let cells = c.self.inside.cells in
    let shared = c.self.inside.shared in
    let above = c.self.inside.above.items in
    let le : shared ≤ length now = rw (← c.self.view_is) c.self.invariant in
    let is : before ≡ take shared (frames_with_old_cells now cells) ++ above = rw (← c.self.view_is) refl in
    let few : c.min-count.result ≡ min (length above) (length now - shared) =
    c.min-count.ensures ∙ (ap (λ k. min k (c.len-2.result - shared)) (c.len.ensures ∙ c.self.inside.above.ok.0)
    ∙ ap (λ k. min (length above) (k - shared)) (c.len-2.ensures ∙ ap (λ (q : PlainEarlier). length q.now) c.self.view_is)) in
    let found : carry_of_entries c.push_frames.new.found.items ≡ diffs_at before now cells ++ diffs_between before now shared
    c.min-count.result =
    c.in_ok-push_frames.ensures ∙ ap (λ xs. xs ++ diffs_between before now shared c.min-count.result)
    (c.in_ok-push_places.ensures ∙ ap (λ xs. carry_of_entries xs ++ diffs_at before now cells) c.new-found.ensures.items) in
    looked-gain shared c.min-count.result now above cells before (carry_of_entries c.push_frames.new.found.items) le few is
    c.requires.now.whole found
