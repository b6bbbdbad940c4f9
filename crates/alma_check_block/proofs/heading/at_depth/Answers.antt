use Rattle.std.proofs.Common.{ap, ◌∙◌}
use Rattle.alma_rules.specs.Judgement.{broken_at}
use Rattle.alma_rules.specs.Decls as rules
use Rattle.alma_check_block.specs.Shown.{told_frame}
use Rattle.alma_check_block.proofs.Headings.{depth_kept, depth_frame, depth_heading, fault_in}
use Rattle.alma_check_block.proofs.heading.at_depth.Goals as goal

pub returns-in-None : goal.returns-in-None
returns-in-None c = record {
  frame = λ s h faults node g e. g ∙ ap (λ (k : rules.FramedHeading). told_frame k.frame)
      (depth_kept faults node h c.args.deep c.in-None.is e);
  heading = λ h faults node g e. g ∙ ap (λ (k : rules.FramedHeading). k.heading) (depth_kept faults node h c.args.deep c.in-None.is e);
}

pub returns-in-Some : goal.returns-in-Some
returns-in-Some c = record {
  frame = λ s h faults node g e.
      c.add_fault.ensures s h.frame (broken_at node faults) g (fault_in c.args.deep c.in-Some.broken node faults c.in-Some.is e)
      ∙ depth_frame faults node h c.in-Some.broken (fault_in c.args.deep c.in-Some.broken node faults c.in-Some.is e);
  heading = λ h faults node g e. depth_heading faults node h c.in-Some.broken
      (fault_in c.args.deep c.in-Some.broken node faults c.in-Some.is e);
}
