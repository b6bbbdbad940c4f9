use Rattle.std.proofs.Common.{◌≡◌, ◌<◌, ◌-◌, length, get_or, ap, sym, ◌∙◌, arith}
use Rattle.std.proofs.lemmas.List.{get_or_read}
use Rattle.std.proofs.lemmas.Bool.{false≢true}
use Rattle.alma_code.specs.Picture.{PlainEntry, entry_at}
use Rattle.alma_code.specs.Carries.{frames_with_carry}
use Rattle.alma_memory.specs.Picture.{Picture}
use Rattle.alma_memory.specs.Inner.Gain.{no_stack_entry}
use Rattle.alma_memory.specs.Inner.Stack.{stack_of}
use Rattle.alma_memory.proofs.Stacks.{stack-length, stack-entry}
use Rattle.alma_memory.proofs.memory.Memory.overlay.Goals as goal

pub index-requires : goal.index-requires
index-requires c =
    let es = c.self.inside.entries.items in
    let hs = c.self.inside.store.held in
    let h = c.args.height in
    let wide : length c.args.self.now.held ≡ length es = sym (ap (λ (p : Picture). length p.held) c.self.view_is)
    ∙ stack-length es hs c.self.invariant in
    omega (arith, wide, c.requires.some, c.requires.below, c.self.inside.entries.ok.0)

pub returns-in_err-reserve-clause-succeeds : goal.returns-in_err-reserve-clause-succeeds
returns-in_err-reserve-clause-succeeds c = λ l.
    let es = c.self.inside.entries.items in
    let hs = c.self.inside.store.held in
    let h = c.args.height in
    let wide : length c.args.self.now.held ≡ length es = sym (ap (λ (p : Picture). length p.held) c.self.view_is)
    ∙ stack-length es hs c.self.invariant in
    let x = c.index.result.now in
    let lt : h - 1 < length es = omega (arith, wide, c.requires.some, c.requires.below) in
    let is : x ≡ get_or es (h - 1) no_stack_entry = get_or_read es (h - 1) x lt c.index.ensures no_stack_entry in
    let carry : (entry_at c.args.self.now.held h).carry ≡ x.carry =
    sym (ap (λ (p : Picture). (entry_at p.held h).carry) c.self.view_is)
    ∙ ap (λ (y : PlainEntry). y.carry) (stack-entry es hs h x c.self.invariant c.requires.some (omega (arith, wide, c.requires.below))
    is) in
    let size : length (entry_at c.args.self.now.held h).carry ≡ length x.carry = ap length carry in
    let room : c.self.inside.store.trail_room ≡ c.args.self.now.trail_room = ap (λ (p : Picture). p.trail_room) c.self.view_is in
    absurd (false≢true (c.in_err-reserve.ensures.succeeds (omega arith) (omega (arith, l, size, room, c.len.ensures))))

pub returns-clause-now : goal.returns-clause-now
returns-clause-now c =
    let es = c.self.inside.entries.items in
    let hs = c.self.inside.store.held in
    let h = c.args.height in
    let wide : length c.args.self.now.held ≡ length es = sym (ap (λ (p : Picture). length p.held) c.self.view_is)
    ∙ stack-length es hs c.self.invariant in
    let x = c.index.result.now in
    let lt : h - 1 < length es = omega (arith, wide, c.requires.some, c.requires.below) in
    let is : x ≡ get_or es (h - 1) no_stack_entry = get_or_read es (h - 1) x lt c.index.ensures no_stack_entry in
    let carry : (entry_at c.args.self.now.held h).carry ≡ x.carry =
    sym (ap (λ (p : Picture). (entry_at p.held h).carry) c.self.view_is)
    ∙ ap (λ (y : PlainEntry). y.carry) (stack-entry es hs h x c.self.invariant c.requires.some (omega (arith, wide, c.requires.below))
    is) in
    let size : length (entry_at c.args.self.now.held h).carry ≡ length x.carry = ap length carry in
    let room : c.self.inside.store.trail_room ≡ c.args.self.now.trail_room = ap (λ (p : Picture). p.trail_room) c.self.view_is in
    let now : c.lay.new.store.now ≡ frames_with_carry c.args.self.now.now (entry_at c.args.self.now.held h).carry =
    c.lay.ensures.now ∙ (ap (λ fs. frames_with_carry fs x.carry) (c.reserve.ensures.now ∙ ap (λ (p : Picture). p.now) c.self.view_is)
    ∙ ap (frames_with_carry c.args.self.now.now) (sym carry)) in
    now

pub returns-clause-trail_room : goal.returns-clause-trail_room
returns-clause-trail_room c =
    let es = c.self.inside.entries.items in
    let hs = c.self.inside.store.held in
    let h = c.args.height in
    let wide : length c.args.self.now.held ≡ length es = sym (ap (λ (p : Picture). length p.held) c.self.view_is)
    ∙ stack-length es hs c.self.invariant in
    let x = c.index.result.now in
    let lt : h - 1 < length es = omega (arith, wide, c.requires.some, c.requires.below) in
    let is : x ≡ get_or es (h - 1) no_stack_entry = get_or_read es (h - 1) x lt c.index.ensures no_stack_entry in
    let carry : (entry_at c.args.self.now.held h).carry ≡ x.carry =
    sym (ap (λ (p : Picture). (entry_at p.held h).carry) c.self.view_is)
    ∙ ap (λ (y : PlainEntry). y.carry) (stack-entry es hs h x c.self.invariant c.requires.some (omega (arith, wide, c.requires.below))
    is) in
    let size : length (entry_at c.args.self.now.held h).carry ≡ length x.carry = ap length carry in
    let room : c.self.inside.store.trail_room ≡ c.args.self.now.trail_room = ap (λ (p : Picture). p.trail_room) c.self.view_is in
    omega (arith, c.lay.ensures.trail_room, c.in_ok-reserve.ensures.no_less.1, room, size)

pub returns-clause-call : goal.returns-clause-call
returns-clause-call c =
    let es = c.self.inside.entries.items in
    let hs = c.self.inside.store.held in
    let h = c.args.height in
    let wide : length c.args.self.now.held ≡ length es = sym (ap (λ (p : Picture). length p.held) c.self.view_is)
    ∙ stack-length es hs c.self.invariant in
    let x = c.index.result.now in
    let lt : h - 1 < length es = omega (arith, wide, c.requires.some, c.requires.below) in
    let is : x ≡ get_or es (h - 1) no_stack_entry = get_or_read es (h - 1) x lt c.index.ensures no_stack_entry in
    let carry : (entry_at c.args.self.now.held h).carry ≡ x.carry =
    sym (ap (λ (p : Picture). (entry_at p.held h).carry) c.self.view_is)
    ∙ ap (λ (y : PlainEntry). y.carry) (stack-entry es hs h x c.self.invariant c.requires.some (omega (arith, wide, c.requires.below))
    is) in
    let size : length (entry_at c.args.self.now.held h).carry ≡ length x.carry = ap length carry in
    let room : c.self.inside.store.trail_room ≡ c.args.self.now.trail_room = ap (λ (p : Picture). p.trail_room) c.self.view_is in
    let now : c.lay.new.store.now ≡ frames_with_carry c.args.self.now.now (entry_at c.args.self.now.held h).carry =
    c.lay.ensures.now ∙ (ap (λ fs. frames_with_carry fs x.carry) (c.reserve.ensures.now ∙ ap (λ (p : Picture). p.now) c.self.view_is)
    ∙ ap (frames_with_carry c.args.self.now.now) (sym carry)) in
    record {
      now = now;
      held = ap (stack_of es) (c.lay.ensures.held ∙ c.reserve.ensures.held)
          ∙ ap (λ (p : Picture). p.held) c.self.view_is;
    }
