use Rattle.std.proofs.Common.{◌≡◌, ◌-◌, length, set, get_or, ap, ◌∙◌}
use Rattle.alma_code.specs.Carries.{diffs}
use Rattle.alma_memory_rewind.specs.PlainRewind.{top_copy}
use Rattle.alma_memory_store.specs.Carries.{carry_of_entries}
use Rattle.alma_memory_store.specs.Past.{SameGain}
use Rattle.alma_memory.specs.Inner.Gain.{no_stack_entry, entry_with_changes}
use Rattle.alma_memory.proofs.Keeping.{kept-held}
use Rattle.alma_memory.proofs.stack.keep_top.Goals as goal

pub returns-clause-held : goal.returns-clause-held
returns-clause-held c =
    let es = c.args.entries.now.items in
    let hs = c.args.store.now.held in
    let h = c.args.height in
    let found = carry_of_entries c.as_slice.result.now in
    let items : c.gain.new.entries.items ≡ set es (h - 1) (entry_with_changes (get_or es (h - 1) no_stack_entry) found) =
    c.in_ok-gain.ensures.items in
    let top : c.len-top.result - 1 ≡ length es - 1 =
    ap (λ k. k - 1) (c.len-top.ensures ∙ (c.in_ok-gain.ensures.len ∙ c.args.entries.now.ok.0)) in
    let gains : SameGain found (diffs (top_copy hs) c.args.store.now.now) = rw c.as_slice.ensures.value c.in_ok-found.ensures in
    kept-held h (c.len-top.result - 1) es c.gain.new.entries.items hs c.args.store.now.now found _ c.requires.same c.requires.low
    c.requires.below items top
    c.cut_to.ensures.held c.in_ok-gain.ensures.rising gains
