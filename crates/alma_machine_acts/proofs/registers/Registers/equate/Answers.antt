use Rattle.std.proofs.Common.{refl, ◌∙◌}
use Rattle.alma_code.specs.Machine.{content, equation_of_contents}
use Rattle.alma_machine_acts.specs.Rows.{state_of}
use Rattle.alma_machine_acts.proofs.Meetings.{equates_as}
use Rattle.alma_machine_acts.proofs.registers.Registers.equate.Goals as goal

pub returns-clause-equates : goal.returns-clause-equates
returns-clause-equates g c =
    let s = state_of g.M.MachineMemory.picture c.args.self.now in
    let f = c.args.left.frame in
    let i = c.args.left.slot in
    let r = c.args.left_range in
    let b = c.args.right.frame in
    let j = c.args.right.slot in
    let t = c.args.right_range in
    let u = c.content-left_known.result in
    equates_as _ _ _ _ _ _ c.settle.ensures.equates
    (λ k. c.content-left_known.ensures s (λ u. content s b j (λ v. equation_of_contents s f i r u b j t v k)) refl
    ∙ c.content-right_known.ensures s (λ v. equation_of_contents s f i r u b j t v k) refl)
