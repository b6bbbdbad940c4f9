use Rattle.std.proofs.Common.{◌≡◌, ◌<◌, ◌-◌, ◌∙◌, ap, length, drop, get_or, reverse, arith}
use Rattle.alma_code.specs.Carries.{diffs}
use Rattle.alma_memory_store.specs.Carries.{carry_of_entries}
use Rattle.alma_memory_store.specs.Past.{SameGain}
use Rattle.alma_back_tape.specs.Inner.Keeping.{entries_with_changes}
use Rattle.alma_back_tape.specs.Inner.Past.{reel_of}
use Rattle.alma_back_tape.specs.Inner.Reel.{front, held_of, unwind}
use Rattle.alma_back_tape.proofs.Gaining.{kept_held}
use Rattle.alma_back_tape.proofs.Marks.{mark-at}
use Rattle.alma_back_tape.proofs.Winding.{good_wound}
use Rattle.alma_back_tape.proofs.keeping.keep.Goals as goal

pub changes_since-requires-clause-fits : goal.changes_since-requires-clause-fits
changes_since-requires-clause-fits c =
    let j = c.args.journal.now in
    rw c.as_slice.ensures.value (good_wound (reverse j.changes.items) (reel_of j) c.requires.tape.good).fits

pub changes_since-requires-clause-mark : goal.changes_since-requires-clause-mark
changes_since-requires-clause-mark c =
    let j = c.args.journal.now in
    let lt : c.len.result - 1 < length j.entries.items = omega (arith, c.len.ensures, j.entries.ok, c.requires.below) in
    let within = mark-at 0 (length j.trail.items) j.entries.items (c.len.result - 1) c.index.result.now
    (good_wound (reverse j.changes.items) (reel_of j) c.requires.tape.good).rises lt in
    rw (c.as_slice.ensures.value, c.index.ensures) within

pub returns-clause-held : goal.returns-clause-held
returns-clause-held c =
    let j = c.args.journal.now in
    let j' = c.drop_top.new.journal in
    let es = j.entries.items in
    let h = c.args.height in
    let found = carry_of_entries c.in_ok-found.found.items in
    let rest : j'.entries.items ≡ front (entries_with_changes (h - 1) found es) =
    c.drop_top.ensures.entries ∙ ap front c.in_ok-gain_at.ensures.entries in
    let top : c.index.result.now ≡ get_or es (length es - 1) c.index.result.now =
    c.index.ensures ∙ ap (λ n. get_or es (n - 1) c.index.result.now) (c.len.ensures ∙ j.entries.ok.0) in
    let gains : SameGain found (diffs (unwind (drop c.index.result.now.mark j.trail.items) j.frames) j.frames) =
    rw (← c.as_slice.ensures.value) c.in_ok-found.ensures in
    ap (λ ns. held_of ns j'.frames j'.entries.items) (c.drop_top.ensures.trail ∙ c.gain_at.ensures.trail)
    ∙ ap (λ fs. held_of j.trail.items fs j'.entries.items) (c.drop_top.ensures.now ∙ c.gain_at.ensures.now)
    ∙ kept_held h j.trail.items j.frames es j'.entries.items found c.index.result.now rest c.in_ok-gain_at.ensures.rising gains top
    c.requires.low c.requires.below
