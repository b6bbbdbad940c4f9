use Rattle.alma_lower_parts.proofs.call.take_result.Goals as goal

pub returns : goal.returns
returns c = record {
  b = _;
  takes_to = c.in_ok-to.ensures.takes;
  to_slot = c.in_ok-to.ensures.slot;
  takes_mark = c.in_ok-mark.ensures.takes;
  mark_slot = c.in_ok-mark.ensures.slot;
}
