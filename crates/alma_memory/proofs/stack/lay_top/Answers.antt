use Rattle.std.proofs.Common.{◌≡◌, length, ap, sym, ◌∙◌, arith}
use Rattle.alma_code.specs.Picture.{PlainEntry, top_of}
use Rattle.alma_code.specs.Carries.{frames_with_carry}
use Rattle.alma_memory_rewind.specs.PlainRewind.{top_copy}
use Rattle.alma_memory.specs.Inner.Stack.{entry_with, stack_of}
use Rattle.alma_memory.proofs.Stacks.{stack-last, stack-rest}
use Rattle.alma_memory.proofs.stack.lay_top.Goals as goal

pub lay-requires : goal.lay-requires
lay-requires c =
    let es = c.args.entries.now.items in
    let hs = c.args.store.now.held in
    let x = c.in-Some.entry in
    let top : top_of (stack_of es hs) ≡ entry_with x (top_copy hs) =
    stack-last es c.pop.new.self.items x hs c.in-Some.ensures.items c.requires.same in
    let carry : (top_of (stack_of es hs)).carry ≡ x.carry = ap (λ (y : PlainEntry). y.carry) top in
    let size : length (top_of (stack_of es hs)).carry ≡ length x.carry = ap length carry in
    omega (arith, size, c.requires.room, c.cut.ensures.trail_room)

pub returns-clause-now : goal.returns-clause-now
returns-clause-now c =
    let es = c.args.entries.now.items in
    let hs = c.args.store.now.held in
    let x = c.in-Some.entry in
    let top : top_of (stack_of es hs) ≡ entry_with x (top_copy hs) =
    stack-last es c.pop.new.self.items x hs c.in-Some.ensures.items c.requires.same in
    let carry : (top_of (stack_of es hs)).carry ≡ x.carry = ap (λ (y : PlainEntry). y.carry) top in
    let size : length (top_of (stack_of es hs)).carry ≡ length x.carry = ap length carry in
    c.lay.ensures.now ∙ (ap (λ fs. frames_with_carry fs x.carry) c.cut.ensures.now
    ∙ ap (frames_with_carry c.args.store.now.now) (sym carry))

pub returns-clause-held : goal.returns-clause-held
returns-clause-held c =
    let es = c.args.entries.now.items in
    let hs = c.args.store.now.held in
    stack-rest es c.pop.new.self.items c.in-Some.entry hs c.lay.new.store.held c.len.result c.in-Some.ensures.items c.requires.same
    (c.len.ensures ∙ c.pop.new.self.ok.0) (c.lay.ensures.held ∙ c.cut.ensures.held)

pub returns-clause-trail_room : goal.returns-clause-trail_room
returns-clause-trail_room c =
    let es = c.args.entries.now.items in
    let hs = c.args.store.now.held in
    let x = c.in-Some.entry in
    let top : top_of (stack_of es hs) ≡ entry_with x (top_copy hs) =
    stack-last es c.pop.new.self.items x hs c.in-Some.ensures.items c.requires.same in
    let carry : (top_of (stack_of es hs)).carry ≡ x.carry = ap (λ (y : PlainEntry). y.carry) top in
    let size : length (top_of (stack_of es hs)).carry ≡ length x.carry = ap length carry in
    omega (arith, size, c.lay.ensures.trail_room, c.cut.ensures.trail_room)
