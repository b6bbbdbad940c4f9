use Rattle.std.proofs.Common.{◌≡◌, ◌<◌, ◌≤◌, ◌-◌, length, get_or, sym, ap, subst, ◌∙◌, arith}
use Rattle.alma_memory_rewind.specs.PlainRewind.{top_copy}
use Rattle.alma_memory_store.specs.PlainStore.{PlainStore, copies_of}
use Rattle.std.proofs.lemmas.List.{get_or_read}
use Rattle.alma_code.specs.Carries.{diffs}
use Rattle.alma_memory_store.specs.Carries.{carry_of_entries}
use Rattle.alma_memory_store.specs.Past.{SameGain}
use Rattle.alma_memory_store.proofs.Copies.{copies-length, states-length, top-at}
use Rattle.alma_memory_store.proofs.Gains.{if-ok}
use Rattle.alma_memory_store.proofs.store.Store.changes.Goals as goal

pub overflow_sub-len : goal.overflow_sub-len
overflow_sub-len c =
    let cs = c.self.inside.slots.held in
    let rs = c.self.inside.regions.held in
    let ls = c.self.inside.lives.items in
    let vh : copies_of cs rs ls ≡ c.args.self.now.held = ap (λ (p : PlainStore). p.held) c.self.view_is in
    let many : length ls ≡ length c.args.self.now.held = sym (copies-length cs rs ls c.self.invariant.1) ∙ ap length vh in
    let some : 1 ≤ length ls = omega (arith, many, c.requires) in
    let len : c.len.result ≡ length ls = c.len.ensures ∙ c.self.inside.lives.ok.0 in
    omega (arith, len, some)

pub index-live-requires : goal.index-live-requires
index-live-requires c =
    let cs = c.self.inside.slots.held in
    let rs = c.self.inside.regions.held in
    let ls = c.self.inside.lives.items in
    let vh : copies_of cs rs ls ≡ c.args.self.now.held = ap (λ (p : PlainStore). p.held) c.self.view_is in
    let many : length ls ≡ length c.args.self.now.held = sym (copies-length cs rs ls c.self.invariant.1) ∙ ap length vh in
    let some : 1 ≤ length ls = omega (arith, many, c.requires) in
    let len : c.len.result ≡ length ls = c.len.ensures ∙ c.self.inside.lives.ok.0 in
    omega (arith, len, some, c.self.inside.lives.ok.0)

pub of-requires-clause-slots : goal.of-requires-clause-slots
of-requires-clause-slots c =
    let cs = c.self.inside.slots.held in
    let rs = c.self.inside.regions.held in
    let ls = c.self.inside.lives.items in
    let vh : copies_of cs rs ls ≡ c.args.self.now.held = ap (λ (p : PlainStore). p.held) c.self.view_is in
    let many : length ls ≡ length c.args.self.now.held = sym (copies-length cs rs ls c.self.invariant.1) ∙ ap length vh in
    let some : 1 ≤ length ls = omega (arith, many, c.requires) in
    let len : c.len.result ≡ length ls = c.len.ensures ∙ c.self.inside.lives.ok.0 in
    let lt : c.len.result - 1 < length ls = omega (arith, len, some) in
    let last : c.index-live.result.now ≡ get_or ls (length ls - 1) 0 =
    get_or_read ls (c.len.result - 1) c.index-live.result.now lt c.index-live.ensures 0 ∙ ap (λ k. get_or ls (k - 1) 0) len in
    let wide = states-length cs rs ls c.self.invariant.1 in
    let top = top-at cs rs ls c.index-live.result.now c.self.invariant.1 some last in
    omega (arith, wide.0, some)

pub of-requires-clause-regions : goal.of-requires-clause-regions
of-requires-clause-regions c =
    let cs = c.self.inside.slots.held in
    let rs = c.self.inside.regions.held in
    let ls = c.self.inside.lives.items in
    let vh : copies_of cs rs ls ≡ c.args.self.now.held = ap (λ (p : PlainStore). p.held) c.self.view_is in
    let many : length ls ≡ length c.args.self.now.held = sym (copies-length cs rs ls c.self.invariant.1) ∙ ap length vh in
    let some : 1 ≤ length ls = omega (arith, many, c.requires) in
    let len : c.len.result ≡ length ls = c.len.ensures ∙ c.self.inside.lives.ok.0 in
    let lt : c.len.result - 1 < length ls = omega (arith, len, some) in
    let last : c.index-live.result.now ≡ get_or ls (length ls - 1) 0 =
    get_or_read ls (c.len.result - 1) c.index-live.result.now lt c.index-live.ensures 0 ∙ ap (λ k. get_or ls (k - 1) 0) len in
    let wide = states-length cs rs ls c.self.invariant.1 in
    let top = top-at cs rs ls c.index-live.result.now c.self.invariant.1 some last in
    omega (arith, wide.1, some)

pub of-requires-clause-before : goal.of-requires-clause-before
of-requires-clause-before c =
    let cs = c.self.inside.slots.held in
    let rs = c.self.inside.regions.held in
    let ls = c.self.inside.lives.items in
    let vh : copies_of cs rs ls ≡ c.args.self.now.held = ap (λ (p : PlainStore). p.held) c.self.view_is in
    let many : length ls ≡ length c.args.self.now.held = sym (copies-length cs rs ls c.self.invariant.1) ∙ ap length vh in
    let some : 1 ≤ length ls = omega (arith, many, c.requires) in
    let len : c.len.result ≡ length ls = c.len.ensures ∙ c.self.inside.lives.ok.0 in
    let lt : c.len.result - 1 < length ls = omega (arith, len, some) in
    let last : c.index-live.result.now ≡ get_or ls (length ls - 1) 0 =
    get_or_read ls (c.len.result - 1) c.index-live.result.now lt c.index-live.ensures 0 ∙ ap (λ k. get_or ls (k - 1) 0) len in
    let wide = states-length cs rs ls c.self.invariant.1 in
    let top = top-at cs rs ls c.index-live.result.now c.self.invariant.1 some last in
    top.state

pub returns : goal.returns
returns c =
    let cs = c.self.inside.slots.held in
    let rs = c.self.inside.regions.held in
    let ls = c.self.inside.lives.items in
    let vh : copies_of cs rs ls ≡ c.args.self.now.held = ap (λ (p : PlainStore). p.held) c.self.view_is in
    let many : length ls ≡ length c.args.self.now.held = sym (copies-length cs rs ls c.self.invariant.1) ∙ ap length vh in
    let some : 1 ≤ length ls = omega (arith, many, c.requires) in
    let len : c.len.result ≡ length ls = c.len.ensures ∙ c.self.inside.lives.ok.0 in
    let lt : c.len.result - 1 < length ls = omega (arith, len, some) in
    let last : c.index-live.result.now ≡ get_or ls (length ls - 1) 0 =
    get_or_read ls (c.len.result - 1) c.index-live.result.now lt c.index-live.ensures 0 ∙ ap (λ k. get_or ls (k - 1) 0) len in
    let wide = states-length cs rs ls c.self.invariant.1 in
    let top = top-at cs rs ls c.index-live.result.now c.self.invariant.1 some last in
    let now : c.in_ok-past.past.now ≡ c.args.self.now.now = c.in_ok-past.ensures.now ∙ ap (λ (p : PlainStore). p.now) c.self.view_is in
    let before : c.in_ok-past.past.before ≡ top_copy c.args.self.now.held = c.in_ok-past.ensures.before
    ∙ (sym top.frames ∙ ap top_copy vh) in
    if-ok c.changes.result _ _ (λ found g. subst (λ b. SameGain (carry_of_entries found.items) (diffs b c.args.self.now.now)) before
    (subst (λ n. SameGain (carry_of_entries found.items) (diffs c.in_ok-past.past.before n)) now g)) c.changes.ensures
