-- The same address, in another word.
use Rattle.std.proofs.Common.{◌≡◌, ℕ, List, ◌∙◌}
use Rattle.alma_code.specs.Picture.{PlainFrame, PlainEntry}
use Rattle.alma_code.specs.Machine.{State}
use Rattle.alma_lower_implements.proofs.Frames.{IsAt}

pub at_address : (a b : ℕ) (now : List PlainFrame) (held : List PlainEntry) (s : State) → a ≡ b → IsAt a now held s → IsAt b now held s
at_address a b now held s e is = record { mode = is.mode; here = is.here ∙ e; frames = is.frames; entries = is.entries }
