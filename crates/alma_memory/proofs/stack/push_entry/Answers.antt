use Rattle.std.proofs.Common.{◌≡◌, ◌++◌, ◌∷◌, [], ap, ◌∙◌, arith}
use Rattle.std.proofs.lemmas.Grind.{common_steps}
use Rattle.alma_memory.specs.declared.stack.Entry.{Entry}
use Rattle.alma_memory.specs.Inner.Stack.{stack_of}
use Rattle.alma_memory.proofs.Stacks.{stack-push}
use Rattle.alma_memory.proofs.stack.push_entry.Goals as goal

pub returns-clause-held : goal.returns-clause-held
returns-clause-held c =
    let es = c.args.entries.now.items in
    let hs = c.args.store.now.held in
    let x : Entry = record { kind = c.args.kind; resume = c.args.resume; carry = c.new.result } in
    let pushed : c.push_reserved.new.self.items ≡ c.reserve.new.self.items ++ x ∷ [] = grind (arith, common_steps) in
    let all : c.push_reserved.new.self.items ≡ es ++ x ∷ [] = pushed ∙ ap (λ v. v ++ x ∷ []) c.reserve.ensures.items in
    ap (λ v. stack_of v c.choose.new.self.held) all
    ∙ (ap (stack_of (es ++ x ∷ [])) c.in_ok-choose.ensures.held ∙ (stack-push es hs x c.args.store.now.now c.requires
    ∙ ap (λ cs. stack_of es hs ++ (record { kind = c.args.kind; resume = c.args.resume; frames = c.args.store.now.now; carry = cs }) ∷ [])
    c.new.ensures))
