-- Of contracts between the functions of this crate.
use Rattle.std.specs.Prelude.{◌≡◌, ◌≤◌, ◌<◌, ◌*◌, List, ℕ, [], ◌∷◌, length, map, Result, Ok, Err}
use Rattle.std.specs.List.{All}
use Rattle.alma_io.specs.Fronts.{AppendsFront}
use Rattle.alma_io.specs.Outside.{Gains, FailsWithin}
use Rattle.alma_io.specs.Sides.{SinkSide}
use Rattle.alma_plan.specs.declared.refusal.Refusal.TheVariants.{Stopped}
use Rattle.alma_plan.specs.declared.stop.Stop.{Stop}
use Rattle.alma_plan.specs.declared.stop.Stop.TheVariants.{Read, Write, Memory, TooLong}
use Rattle.alma_back.specs.declared.script.Line as read
use Rattle.alma_back.specs.declared.script.Line.TheVariants as of_script
use Rattle.alma_back.specs.declared.stop.BackStop.{BackStop}
use Rattle.alma_back.specs.declared.stop.BackStop.TheVariants.{BadLine, Refused}
use Rattle.alma_back.specs.Standing.{step_limit}
use Rattle.alma_back.specs.Script.{Line, Forward, Backward, Value, Output, Texts, lines_in, greatest_count}

-- ---- lines

-- the line that a read one is
abbrev pub line_of : read.Line → Line
line_of (of_script.Forward steps) = Forward steps
line_of (of_script.Backward steps) = Backward steps
line_of (of_script.Value name) = Value name.now
line_of of_script.Output = Output

-- the lines that read ones are
abbrev pub lines_of : List read.Line → List Line
lines_of lines = map line_of lines

-- it asks for no more steps than a line may
abbrev pub IsShort : read.Line → Type 0
IsShort (of_script.Forward steps) = steps ≤ greatest_count
IsShort (of_script.Backward steps) = steps ≤ greatest_count
IsShort (of_script.Value name) = Unit {0}
IsShort of_script.Output = Unit {0}

-- lines that can be walked: each is short, and all together ask for fewer steps than can be kept
pub record AreWalkable (lines : List read.Line) : Type 0 where
  pub short : All IsShort lines
  pub few : length lines * greatest_count < step_limit

-- a text without a line feed
abbrev pub none_ended : List ℕ → Texts
none_ended text = record { ended = []; left = text }

-- a text that is ended, and others behind it
abbrev pub one_ended : List ℕ → Texts → Texts
one_ended text texts = record { ended = text ∷ texts.ended; left = texts.left }

-- why a script was not read: a line is bad, or memory ran out
abbrev pub IsUnread : (script : List ℕ) → BackStop → Type 0
IsUnread script (BadLine line) = lines_in script ≡ Err line
IsUnread script (Refused refusal) = refusal ≡ Stopped Memory

-- ---- stops

-- what a call that shows these bytes comes to: the sink gained them, failed within them, or holds a front of them where memory ran out
abbrev pub Shows : SinkSide → SinkSide → (bytes : List ℕ) → Result (Unit {0}) Stop → Type 0
Shows old new bytes (Ok _) = Gains old new bytes
Shows old new bytes (Err Write) = FailsWithin old new bytes
Shows old new bytes (Err Memory) = AppendsFront old.written new.written bytes × (new.faults ≡ old.faults)
Shows old new bytes (Err Read) = ⊥
Shows old new bytes (Err TooLong) = ⊥
