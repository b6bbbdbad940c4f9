use Rattle.std.proofs.Common.{◌≡◌, ◌<◌, ◌-◌, length, get_or, ap, sym, ◌∙◌, arith}
use Rattle.std.proofs.lemmas.List.{get_or_read}
use Rattle.std.proofs.lemmas.Bool.{false≢true}
use Rattle.alma_code.specs.Picture.{PlainEntry, top_of}
use Rattle.alma_memory_rewind.specs.PlainRewind.{top_copy}
use Rattle.alma_memory.specs.Picture.{Picture}
use Rattle.alma_memory.specs.declared.stack.Entry.{Entry}
use Rattle.alma_memory.specs.Inner.Gain.{no_stack_entry}
use Rattle.alma_memory.specs.Inner.Stack.{entry_with, stack_of}
use Rattle.alma_memory.proofs.Stacks.{stack-length, stack-top}
use Rattle.alma_memory.proofs.memory.Memory.finish.Goals as goal

pub returns-in_err-reserve-clause-succeeds : goal.returns-in_err-reserve-clause-succeeds
returns-in_err-reserve-clause-succeeds c = λ l.
    let es = c.self.inside.entries.items in
    let hs = c.self.inside.store.held in
    let wide : length c.args.self.now.held ≡ length es = sym (ap (λ (p : Picture). length p.held) c.self.view_is)
    ∙ stack-length es hs c.self.invariant in
    let x = c.index.result.now in
    let n : c.len.result ≡ length es = c.len.ensures ∙ c.self.inside.entries.ok.0 in
    let lt : c.len.result - 1 < length es = omega (arith, wide, n, c.requires.some) in
    let is : x ≡ get_or es (length es - 1) no_stack_entry = get_or_read es (c.len.result - 1) x lt c.index.ensures no_stack_entry
    ∙ ap (λ k. get_or es (k - 1) no_stack_entry) n in
    let room : c.self.inside.store.trail_room ≡ c.args.self.now.trail_room = ap (λ (p : Picture). p.trail_room) c.self.view_is in
    let top : top_of (stack_of es hs) ≡ entry_with (get_or es (length es - 1) no_stack_entry) (top_copy hs) =
    stack-top es hs c.self.invariant (omega (arith, n, lt)) in
    let size : length (top_of c.args.self.now.held).carry ≡ length x.carry =
    sym (ap (λ (p : Picture). length (top_of p.held).carry) c.self.view_is)
    ∙ (ap (λ (y : PlainEntry). length y.carry) top ∙ ap (λ (y : Entry). length y.carry) (sym is)) in
    absurd (false≢true (c.in_err-reserve.ensures.succeeds (omega arith) (omega (arith, l, size, room, c.len-2.ensures))))

pub lay_top-requires-clause-room : goal.lay_top-requires-clause-room
lay_top-requires-clause-room c =
    let es = c.self.inside.entries.items in
    let hs = c.self.inside.store.held in
    let wide : length c.args.self.now.held ≡ length es = sym (ap (λ (p : Picture). length p.held) c.self.view_is)
    ∙ stack-length es hs c.self.invariant in
    let x = c.index.result.now in
    let n : c.len.result ≡ length es = c.len.ensures ∙ c.self.inside.entries.ok.0 in
    let lt : c.len.result - 1 < length es = omega (arith, wide, n, c.requires.some) in
    let is : x ≡ get_or es (length es - 1) no_stack_entry = get_or_read es (c.len.result - 1) x lt c.index.ensures no_stack_entry
    ∙ ap (λ k. get_or es (k - 1) no_stack_entry) n in
    let room : c.self.inside.store.trail_room ≡ c.args.self.now.trail_room = ap (λ (p : Picture). p.trail_room) c.self.view_is in
    let same : length es ≡ length c.reserve.new.self.held = c.self.invariant ∙ sym (ap length c.reserve.ensures.held) in
    let top : top_of (stack_of es c.reserve.new.self.held) ≡ entry_with (get_or es (length es - 1) no_stack_entry)
    (top_copy c.reserve.new.self.held) = stack-top es c.reserve.new.self.held same (omega (arith, n, lt)) in
    let size : length (top_of (stack_of es c.reserve.new.self.held)).carry ≡ length x.carry = ap (λ (y : PlainEntry). length y.carry) top
    ∙ ap (λ (y : Entry). length y.carry) (sym is) in
    omega (arith, size, c.len-2.ensures, c.in_ok-reserve.ensures.trail_room)
