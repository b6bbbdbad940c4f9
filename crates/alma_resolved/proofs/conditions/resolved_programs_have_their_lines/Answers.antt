use Rattle.alma_resolved.proofs.FramesKept.{program_keeps_frames}
use Rattle.alma_resolved.proofs.Lined.{program_lines}
use Rattle.alma_resolved.proofs.conditions.resolved_programs_have_their_lines.Goals as goal

pub returns : goal.returns
returns c = λ source tokens m p stand e. program_lines source tokens m p (program_keeps_frames source tokens m p stand e) e
