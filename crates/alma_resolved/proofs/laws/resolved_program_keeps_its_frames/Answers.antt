use Rattle.alma_resolved.proofs.FramesKept.{program_keeps_frames}
use Rattle.alma_resolved.proofs.laws.resolved_program_keeps_its_frames.Goals as goal

pub returns : goal.returns
returns c = program_keeps_frames
