-- What is made of a part that a function has read; where it was not read, its fault stays.
use Rattle.std.specs.Prelude.{◌≡◌, Result, Ok, Err, MatchResult}
use Rattle.alma_parse_cursor.specs.declared.cursor.Cursor.{Cursor}
use Rattle.alma_parse_cursor.specs.declared.fault.Fault.{Fault}
use Rattle.alma_parse_cursor.specs.declared.fault.Fault.TheVariants as faults

-- what a function gives of the value of the part, at the cursor behind it
abbrev pub made : {T U : Type 0} → (T → U) → Result (T × Cursor) Fault → Result (U × Cursor) Fault
made f (Ok t) = Ok (f t.0, t.1)
made f (Err e) = Err e

-- something of which this holds was made of the part, or there was no memory for it
abbrev pub Made : {T U : Type 0} → (T → U → Type 0) → Result (T × Cursor) Fault → Result (U × Cursor) Fault → Type 0
Made R (Ok t) r = MatchResult r (λ u. R t.0 u.0 × (u.1 ≡ t.1)) (λ e. e ≡ faults.Memory)
Made R (Err e) r = r ≡ Err e
