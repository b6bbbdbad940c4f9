use Rattle.std.proofs.Common.{◌≡◌, ◌<◌, ◌≤◌, ◌-◌, length, get_or, ap, sym, ◌∙◌, arith}
use Rattle.std.proofs.lemmas.List.{get_or_read}
use Rattle.alma_code.specs.Picture.{PlainEntry, top_of}
use Rattle.alma_memory_rewind.specs.PlainRewind.{top_copy}
use Rattle.alma_memory.specs.Picture.{Picture}
use Rattle.alma_memory.specs.declared.stack.Entry.{Entry}
use Rattle.alma_memory.specs.Inner.Gain.{no_stack_entry}
use Rattle.alma_memory.specs.Inner.Stack.{entry_with, stack_of}
use Rattle.alma_memory.proofs.Stacks.{stack-top}
use Rattle.std.proofs.lemmas.Bool.Decides.{nat_tests}
use Rattle.alma_memory.proofs.memory.Memory.fail.Goals as goal

pub returns-clause-kind : goal.returns-clause-kind
returns-clause-kind c =
    let es = c.self.inside.entries.items in
    let hs = c.self.inside.store.held in
    let x = c.index-entry.result.now in
    let n : c.len.result ≡ length es = c.len.ensures ∙ c.self.inside.entries.ok.0 in
    let some : 1 ≤ length es = grind (arith, nat_tests) in
    let lt : c.len.result - 1 < length es = omega (arith, n, some) in
    let is : x ≡ get_or es (length es - 1) no_stack_entry = get_or_read es (c.len.result - 1) x lt c.index-entry.ensures no_stack_entry
    ∙ ap (λ k. get_or es (k - 1) no_stack_entry) n in
    let top : top_of (stack_of es hs) ≡ entry_with (get_or es (length es - 1) no_stack_entry) (top_copy hs) =
    stack-top es hs c.self.invariant (omega (arith, n, lt)) in
    ap (λ (y : Entry). y.kind) is ∙ (sym (ap (λ (y : PlainEntry). y.kind) top) ∙ ap (λ (p : Picture). (top_of p.held).kind) c.self.view_is)

pub returns-clause-resume : goal.returns-clause-resume
returns-clause-resume c =
    let es = c.self.inside.entries.items in
    let hs = c.self.inside.store.held in
    let x = c.index-entry.result.now in
    let n : c.len.result ≡ length es = c.len.ensures ∙ c.self.inside.entries.ok.0 in
    let some : 1 ≤ length es = grind (arith, nat_tests) in
    let lt : c.len.result - 1 < length es = omega (arith, n, some) in
    let is : x ≡ get_or es (length es - 1) no_stack_entry = get_or_read es (c.len.result - 1) x lt c.index-entry.ensures no_stack_entry
    ∙ ap (λ k. get_or es (k - 1) no_stack_entry) n in
    let top : top_of (stack_of es hs) ≡ entry_with (get_or es (length es - 1) no_stack_entry) (top_copy hs) =
    stack-top es hs c.self.invariant (omega (arith, n, lt)) in
    ap (λ (y : Entry). y.resume) is ∙ (sym (ap (λ (y : PlainEntry). y.resume) top)
    ∙ ap (λ (p : Picture). (top_of p.held).resume) c.self.view_is)
