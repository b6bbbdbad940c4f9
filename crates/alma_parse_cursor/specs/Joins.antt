-- What is read behind a part, where the part was read; else its fault stays.
use Rattle.std.specs.Prelude.{◌≡◌, ℕ, ◌∷◌, Result, Ok, Err, MatchResult}
use Rattle.alma_tree.specs.declared.kind.Kind.{Kind}
use Rattle.alma_grammar.specs.Parts.{one}
use Rattle.alma_parse_cursor.specs.declared.cursor.Cursor.{Cursor}
use Rattle.alma_parse_cursor.specs.declared.fault.Fault.{Fault}
use Rattle.alma_parse_cursor.specs.declared.fault.Fault.TheVariants as faults
use Rattle.alma_parse_cursor.specs.Parsing.{position_of, Passes, Counts, Fails}

-- behind the part a token of this kind was passed
abbrev pub Followed : {T : Type 0} → Kind → Result (T × Cursor) Fault → Result (T × Cursor) Fault → Type 0
Followed k (Ok t) r = MatchResult r (λ u. (u.0 ≡ t.0) × Passes k (position_of t.1) (position_of u.1))
    (λ e. (d : ℕ) → Fails e (λ o. one k ∷ o) d (position_of t.1))
Followed k (Err e) r = r ≡ Err e

-- behind the part a node got its number
abbrev pub Numbered : {T : Type 0} → Result (T × Cursor) Fault → Result ((T × ℕ) × Cursor) Fault → Type 0
Numbered (Ok t) r = MatchResult r (λ u. (u.0.0 ≡ t.0) × Counts u.0.1 (position_of t.1) (position_of u.1))
    (λ e. e ≡ faults.Memory)
Numbered (Err e) r = r ≡ Err e
