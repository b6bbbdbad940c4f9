use Rattle.alma_object_format.proofs.Appends.{after_byte}
use Rattle.alma_object_format.proofs.instr.push_record.Goals as goal

pub returns : goal.returns
returns c = after_byte _ _ _ _ _ c.in_ok-push.ensures.items c.in_ok-push_words.ensures
