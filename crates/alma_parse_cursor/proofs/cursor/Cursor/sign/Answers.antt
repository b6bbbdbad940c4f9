use Rattle.alma_parse_cursor.proofs.Signs.{sign_read}
use Rattle.alma_parse_cursor.proofs.cursor.Cursor.sign.Goals as goal

pub returns-in-Some-sign : goal.returns-in-Some-sign
returns-in-Some-sign c = record { read = λ d. sign_read _ c.in-Some.kind _ _ d c.in-Some-sign.ensures.begins c.in-Some.ensures.passes }
