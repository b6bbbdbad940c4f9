use Rattle.alma_lower_parts.proofs.case.end_arm.Goals as goal

pub returns-clause-ends : goal.returns-clause-ends
returns-clause-ends c = record {
  b = _;
  target = _;
  target_at = c.in_ok-behind.ensures;
  aims_low = c.aim.ensures;
  aims_high =
      c.aim-2.ensures;
}
