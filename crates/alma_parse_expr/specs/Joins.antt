-- A part that a function has read, in a box or at the end of a list; and two steps in one.
use Rattle.std.specs.Prelude.{◌≡◌, ℕ, List, [], ◌∷◌, ◌++◌, Result, Ok, Err, MatchResult}
use Rattle.std.specs.declared.boxed.Box.{Box}
use Rattle.std.specs.declared.alloc.Global.{Global}
use Rattle.alma_tree.specs.declared.kind.Kind.{Kind}
use Rattle.alma_parse_cursor.specs.declared.cursor.Cursor.{Cursor}
use Rattle.alma_parse_cursor.specs.declared.fault.Fault.{Fault}
use Rattle.alma_parse_cursor.specs.declared.fault.Fault.TheVariants as faults
use Rattle.alma_parse_cursor.specs.Parsing.{At, Passes, Opens}

-- the part in a box
abbrev pub Boxed : {T : Type 0} → Result (T × Cursor) Fault → Result (Box T Global × Cursor) Fault → Type 0
Boxed (Ok t) r = MatchResult r (λ u. (u.0.value ≡ t.0) × (u.1 ≡ t.1)) (λ e. e ≡ faults.Memory)
Boxed (Err e) r = r ≡ Err e

-- the list with the part at its end
abbrev pub Pushed : {T : Type 0} → Result (T × Cursor) Fault → List T → List T → Result Cursor Fault → Type 0
Pushed (Ok t) before behind r = MatchResult r (λ at. (behind ≡ before ++ (t.0 ∷ [])) × (at ≡ t.1)) (λ e. e ≡ faults.Memory)
Pushed (Err e) before behind r = r ≡ Err e

-- From a to b, and from depth d to depth e, it passed a token and behind it one that opens a bracket.
pub record OpensAfter (k l : Kind) (d e : ℕ) (a b : At) : Type 0 where
  pub between : At
  pub passes : Passes k a between
  pub opens_behind : Opens l d e between b
