use Rattle.std.proofs.Common.{◌≡◌, ◌-◌, length, get_or, take, ap, sym, refl, ◌∙◌}
use Rattle.alma_code.specs.Picture.{PlainEntry, top_of}
use Rattle.alma_memory_rewind.specs.PlainRewind.{top_copy}
use Rattle.alma_memory.specs.Inner.Gain.{no_stack_entry}
use Rattle.alma_memory.specs.Inner.Stack.{entry_with, stack_of}
use Rattle.alma_memory.proofs.Stacks.{stack-top, pops-forall, pops-other}
use Rattle.alma_memory.proofs.stack.pop_entry.Goals as goal

pub returns-then-is_forall-clause-now : goal.returns-then-is_forall-clause-now
returns-then-is_forall-clause-now c =
    let es = c.args.entries.now.items in
    let hs = c.args.store.now.held in
    let top : top_of (stack_of es hs) ≡ entry_with (get_or es (length es - 1) no_stack_entry) (top_copy hs) =
    stack-top es hs c.requires.same c.requires.some in
    let kind : c.top_kind.result ≡ (get_or es (length es - 1) no_stack_entry).kind = c.top_kind.ensures
    ∙ ap (λ v. (get_or v (length v - 1) no_stack_entry).kind) c.as_slice.ensures.value in
    c.back.ensures.now ∙ sym (ap (λ (y : PlainEntry). y.frames) top)

pub returns-then-is_forall-clause-held : goal.returns-then-is_forall-clause-held
returns-then-is_forall-clause-held c =
    let es = c.args.entries.now.items in
    let hs = c.args.store.now.held in
    let top : top_of (stack_of es hs) ≡ entry_with (get_or es (length es - 1) no_stack_entry) (top_copy hs) =
    stack-top es hs c.requires.same c.requires.some in
    let kind : c.top_kind.result ≡ (get_or es (length es - 1) no_stack_entry).kind = c.top_kind.ensures
    ∙ ap (λ v. (get_or v (length v - 1) no_stack_entry).kind) c.as_slice.ensures.value in
    ap (stack_of c.finish_top.new.entries.items) c.back.ensures.held
    ∙ pops-forall es c.finish_top.new.entries.items hs c.requires.same c.requires.some (sym kind ∙ c.if-is_forall.ensures.yes refl)
    c.finish_top.ensures.items

pub returns-clause-now : goal.returns-clause-now
returns-clause-now c =
    let es = c.args.entries.now.items in
    let hs = c.args.store.now.held in
    let top : top_of (stack_of es hs) ≡ entry_with (get_or es (length es - 1) no_stack_entry) (top_copy hs) =
    stack-top es hs c.requires.same c.requires.some in
    let kind : c.top_kind.result ≡ (get_or es (length es - 1) no_stack_entry).kind = c.top_kind.ensures
    ∙ ap (λ v. (get_or v (length v - 1) no_stack_entry).kind) c.as_slice.ensures.value in
    c.cut_to.ensures.now ∙ (c.back.ensures.now ∙ sym (ap (λ (y : PlainEntry). y.frames) top))

pub returns-clause-held : goal.returns-clause-held
returns-clause-held c =
    let es = c.args.entries.now.items in
    let hs = c.args.store.now.held in
    let top : top_of (stack_of es hs) ≡ entry_with (get_or es (length es - 1) no_stack_entry) (top_copy hs) =
    stack-top es hs c.requires.same c.requires.some in
    let kind : c.top_kind.result ≡ (get_or es (length es - 1) no_stack_entry).kind = c.top_kind.ensures
    ∙ ap (λ v. (get_or v (length v - 1) no_stack_entry).kind) c.as_slice.ensures.value in
    pops-other es hs _ (c.len-top.result - 1) c.requires.same c.requires.some (λ e. c.if-is_forall.ensures.not refl (kind ∙ e))
    (ap (λ k. k - 1) (c.len-top.ensures ∙ c.args.entries.now.ok.0))
    (c.cut_to.ensures.held ∙ ap (λ v. take (c.len-top.result - 1) (stack_of es v)) c.back.ensures.held)
