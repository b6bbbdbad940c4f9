use Rattle.std.proofs.Common.{◌≡◌, ◌<◌, ◌≤◌, ◌-◌, length, get_or, sym, ap, ◌∙◌, arith}
use Rattle.alma_memory_rewind.specs.PlainRewind.{top_copy}
use Rattle.alma_memory_store.specs.PlainStore.{PlainStore, copies_of}
use Rattle.std.proofs.lemmas.List.{get_or_read}
use Rattle.alma_memory_store.proofs.Copies.{copies-length, states-length, top-at, backs-to}
use Rattle.alma_memory_store.proofs.store.Store.back.Goals as goal

pub overflow_sub-len : goal.overflow_sub-len
overflow_sub-len c =
    let cs = c.self.inside.slots.held in
    let rs = c.self.inside.regions.held in
    let ls = c.self.inside.lives.items in
    let vh : copies_of cs rs ls ≡ c.args.self.now.held = ap (λ (p : PlainStore). p.held) c.self.view_is in
    let many : length ls ≡ length c.args.self.now.held = sym (copies-length cs rs ls c.self.invariant.1) ∙ ap length vh in
    let some : 1 ≤ length ls = omega (arith, many, c.requires) in
    let len : c.len.result ≡ length ls = c.len.ensures ∙ c.self.inside.lives.ok.0 in
    omega (arith, len, some)

pub index-live-requires : goal.index-live-requires
index-live-requires c =
    let cs = c.self.inside.slots.held in
    let rs = c.self.inside.regions.held in
    let ls = c.self.inside.lives.items in
    let vh : copies_of cs rs ls ≡ c.args.self.now.held = ap (λ (p : PlainStore). p.held) c.self.view_is in
    let many : length ls ≡ length c.args.self.now.held = sym (copies-length cs rs ls c.self.invariant.1) ∙ ap length vh in
    let some : 1 ≤ length ls = omega (arith, many, c.requires) in
    let len : c.len.result ≡ length ls = c.len.ensures ∙ c.self.inside.lives.ok.0 in
    omega (arith, len, some, c.self.inside.lives.ok.0)

pub back-requires : goal.back-requires
back-requires c =
    let cs = c.self.inside.slots.held in
    let rs = c.self.inside.regions.held in
    let ls = c.self.inside.lives.items in
    let vh : copies_of cs rs ls ≡ c.args.self.now.held = ap (λ (p : PlainStore). p.held) c.self.view_is in
    let many : length ls ≡ length c.args.self.now.held = sym (copies-length cs rs ls c.self.invariant.1) ∙ ap length vh in
    let some : 1 ≤ length ls = omega (arith, many, c.requires) in
    let len : c.len.result ≡ length ls = c.len.ensures ∙ c.self.inside.lives.ok.0 in
    let lt : c.len.result - 1 < length ls = omega (arith, len, some) in
    let last : c.index-live.result.now ≡ get_or ls (length ls - 1) 0 =
    get_or_read ls (c.len.result - 1) c.index-live.result.now lt c.index-live.ensures 0 ∙ ap (λ k. get_or ls (k - 1) 0) len in
    let wide = states-length cs rs ls c.self.invariant.1 in
    omega (arith, wide.0, some)

pub back-requires-2 : goal.back-requires-2
back-requires-2 c =
    let cs = c.self.inside.slots.held in
    let rs = c.self.inside.regions.held in
    let ls = c.self.inside.lives.items in
    let vh : copies_of cs rs ls ≡ c.args.self.now.held = ap (λ (p : PlainStore). p.held) c.self.view_is in
    let many : length ls ≡ length c.args.self.now.held = sym (copies-length cs rs ls c.self.invariant.1) ∙ ap length vh in
    let some : 1 ≤ length ls = omega (arith, many, c.requires) in
    let len : c.len.result ≡ length ls = c.len.ensures ∙ c.self.inside.lives.ok.0 in
    let lt : c.len.result - 1 < length ls = omega (arith, len, some) in
    let last : c.index-live.result.now ≡ get_or ls (length ls - 1) 0 =
    get_or_read ls (c.len.result - 1) c.index-live.result.now lt c.index-live.ensures 0 ∙ ap (λ k. get_or ls (k - 1) 0) len in
    let wide = states-length cs rs ls c.self.invariant.1 in
    omega (arith, wide.1, some)

pub overflow_sub-live : goal.overflow_sub-live
overflow_sub-live c =
    let cs = c.self.inside.slots.held in
    let rs = c.self.inside.regions.held in
    let ls = c.self.inside.lives.items in
    let vh : copies_of cs rs ls ≡ c.args.self.now.held = ap (λ (p : PlainStore). p.held) c.self.view_is in
    let many : length ls ≡ length c.args.self.now.held = sym (copies-length cs rs ls c.self.invariant.1) ∙ ap length vh in
    let some : 1 ≤ length ls = omega (arith, many, c.requires) in
    let len : c.len.result ≡ length ls = c.len.ensures ∙ c.self.inside.lives.ok.0 in
    let lt : c.len.result - 1 < length ls = omega (arith, len, some) in
    let last : c.index-live.result.now ≡ get_or ls (length ls - 1) 0 =
    get_or_read ls (c.len.result - 1) c.index-live.result.now lt c.index-live.ensures 0 ∙ ap (λ k. get_or ls (k - 1) 0) len in
    let wide = states-length cs rs ls c.self.invariant.1 in
    let top = top-at cs rs ls c.index-live.result.now c.self.invariant.1 some last in
    omega (arith, top.state.some)

pub get-self-inside-requires : goal.get-self-inside-requires
get-self-inside-requires c =
    let cs = c.self.inside.slots.held in
    let rs = c.self.inside.regions.held in
    let ls = c.self.inside.lives.items in
    let vh : copies_of cs rs ls ≡ c.args.self.now.held = ap (λ (p : PlainStore). p.held) c.self.view_is in
    let many : length ls ≡ length c.args.self.now.held = sym (copies-length cs rs ls c.self.invariant.1) ∙ ap length vh in
    let some : 1 ≤ length ls = omega (arith, many, c.requires) in
    let len : c.len.result ≡ length ls = c.len.ensures ∙ c.self.inside.lives.ok.0 in
    let lt : c.len.result - 1 < length ls = omega (arith, len, some) in
    let last : c.index-live.result.now ≡ get_or ls (length ls - 1) 0 =
    get_or_read ls (c.len.result - 1) c.index-live.result.now lt c.index-live.ensures 0 ∙ ap (λ k. get_or ls (k - 1) 0) len in
    let wide = states-length cs rs ls c.self.invariant.1 in
    let top = top-at cs rs ls c.index-live.result.now c.self.invariant.1 some last in
    let b = backs-to (top_copy cs) c.back.new.self.now (top_copy rs) c.back-2.new.self.now c.index-live.result.now c.back.ensures.now
    c.back-2.ensures.now top.state in
    omega (arith, b.state.some, b.state.live)

pub invariant_of-self : goal.invariant_of-self
invariant_of-self c =
    let cs = c.self.inside.slots.held in
    let rs = c.self.inside.regions.held in
    let ls = c.self.inside.lives.items in
    let vh : copies_of cs rs ls ≡ c.args.self.now.held = ap (λ (p : PlainStore). p.held) c.self.view_is in
    let many : length ls ≡ length c.args.self.now.held = sym (copies-length cs rs ls c.self.invariant.1) ∙ ap length vh in
    let some : 1 ≤ length ls = omega (arith, many, c.requires) in
    let len : c.len.result ≡ length ls = c.len.ensures ∙ c.self.inside.lives.ok.0 in
    let lt : c.len.result - 1 < length ls = omega (arith, len, some) in
    let last : c.index-live.result.now ≡ get_or ls (length ls - 1) 0 =
    get_or_read ls (c.len.result - 1) c.index-live.result.now lt c.index-live.ensures 0 ∙ ap (λ k. get_or ls (k - 1) 0) len in
    let wide = states-length cs rs ls c.self.invariant.1 in
    let top = top-at cs rs ls c.index-live.result.now c.self.invariant.1 some last in
    let b = backs-to (top_copy cs) c.back.new.self.now (top_copy rs) c.back-2.new.self.now c.index-live.result.now c.back.ensures.now
    c.back-2.ensures.now top.state in
    (b.state, rw (c.back.ensures.held, c.back-2.ensures.held) c.self.invariant.1, c.get-self-inside.ensures)

pub returns-clause-now : goal.returns-clause-now
returns-clause-now c =
    let cs = c.self.inside.slots.held in
    let rs = c.self.inside.regions.held in
    let ls = c.self.inside.lives.items in
    let vh : copies_of cs rs ls ≡ c.args.self.now.held = ap (λ (p : PlainStore). p.held) c.self.view_is in
    let many : length ls ≡ length c.args.self.now.held = sym (copies-length cs rs ls c.self.invariant.1) ∙ ap length vh in
    let some : 1 ≤ length ls = omega (arith, many, c.requires) in
    let len : c.len.result ≡ length ls = c.len.ensures ∙ c.self.inside.lives.ok.0 in
    let lt : c.len.result - 1 < length ls = omega (arith, len, some) in
    let last : c.index-live.result.now ≡ get_or ls (length ls - 1) 0 =
    get_or_read ls (c.len.result - 1) c.index-live.result.now lt c.index-live.ensures 0 ∙ ap (λ k. get_or ls (k - 1) 0) len in
    let wide = states-length cs rs ls c.self.invariant.1 in
    let top = top-at cs rs ls c.index-live.result.now c.self.invariant.1 some last in
    let b = backs-to (top_copy cs) c.back.new.self.now (top_copy rs) c.back-2.new.self.now c.index-live.result.now c.back.ensures.now
    c.back-2.ensures.now top.state in
    b.frames ∙ (sym top.frames ∙ ap top_copy vh)

pub returns-clause-held : goal.returns-clause-held
returns-clause-held c =
    let vh : copies_of c.self.inside.slots.held c.self.inside.regions.held c.self.inside.lives.items ≡ c.args.self.now.held =
    ap (λ (p : PlainStore). p.held) c.self.view_is in
    rw (c.back.ensures.held, c.back-2.ensures.held) vh
