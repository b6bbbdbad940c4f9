use Rattle.alma_parse_cursor.proofs.Signs.{mode_read}
use Rattle.alma_parse_cursor.proofs.cursor.Cursor.mode.Goals as goal

pub returns-in-Some-mode : goal.returns-in-Some-mode
returns-in-Some-mode c = record { read = λ d. mode_read _ c.in-Some.kind _ _ d c.in-Some-mode.ensures.begins c.in-Some.ensures.passes }
