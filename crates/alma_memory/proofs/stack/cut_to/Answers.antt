use Rattle.std.proofs.Common.{length, take, min, ap, sym, ◌∙◌}
use Rattle.std.proofs.lemmas.List.{length-take}
use Rattle.alma_memory.specs.Inner.Stack.{stack_of}
use Rattle.alma_memory.proofs.Stacks.{stack-take}
use Rattle.alma_memory.proofs.stack.cut_to.Goals as goal

pub returns-clause-held : goal.returns-clause-held
returns-clause-held c =
    ap (λ es. stack_of es c.cut.new.self.held) c.truncate.ensures.items
    ∙ (ap (λ hs. stack_of (take c.args.height c.args.entries.now.items) hs) c.cut.ensures.held
    ∙ stack-take c.args.height c.args.entries.now.items c.args.store.now.held)

pub returns-clause-same : goal.returns-clause-same
returns-clause-same c =
    ap length c.truncate.ensures.items ∙ (length-take c.args.height c.args.entries.now.items
    ∙ (ap (λ n. min c.args.height n) c.requires
    ∙ (sym (length-take c.args.height c.args.store.now.held) ∙ ap length (sym c.cut.ensures.held))))
