-- How many tokens are left behind a part.
use Rattle.std.proofs.Common.{◌≡◌, ◌<◌, ℕ, length, arith, List, Result, Ok, Err, MatchResult, sym, subst}
use Rattle.std.specs.Prelude.{IfOk}
use Rattle.alma_tree.specs.declared.kind.Kind.{Kind}
use Rattle.alma_tree.specs.Numbers.{Step}
use Rattle.alma_grammar.specs.Parts.{Part}
use Rattle.alma_parse_cursor.specs.declared.cursor.Cursor as cursors
use Rattle.alma_parse_cursor.specs.declared.fault.Fault.{Fault}
use Rattle.alma_parse_cursor.specs.Parsing.{At, position_of, Passes}
use Rattle.alma_parse_cursor.proofs.Joins.{Gives}
use Rattle.alma_parse_expr.specs.Joins.{Pushed}
use Rattle.alma_parse_expr.specs.Made.{made}

-- where the part was read, fewer tokens are left than so many
abbrev pub Within : {T : Type 0} → ℕ → Result (T × cursors.Cursor) Fault → Type 0
Within m r = MatchResult r (λ t. length (position_of t.1).kinds < m) (λ e. Unit {0})

-- a part behind a token that was passed
pub behind_within : {T : Type 0} (s : T → List Kind → List Kind) (n : T → Step) (p : List Part → List Part) (d e : ℕ) {k : Kind} {a b : At}
    → Passes k a b
    → (r : Result (T × cursors.Cursor) Fault) → Gives s n p d e b r → Within (length a.kinds) r
behind_within s n p d e x (Ok t) y = omega (arith, x.shorter, y.shorter)
behind_within s n p d e x (Err f) y = tt

pub made_within : {T U : Type 0} (f : T → U) (m : ℕ) (r : Result (T × cursors.Cursor) Fault) (q : Result (U × cursors.Cursor) Fault)
    → q ≡ made f r
    → Within m r → Within m q
made_within f m (Ok t) q x y = subst (Within m) (sym x) y
made_within f m (Err e) q x y = subst (Within m) (sym x) y

pub pushed_within : {T : Type 0} (m : ℕ) (r : Result (T × cursors.Cursor) Fault) (xs ys : List T) (c : cursors.Cursor)
    → Pushed r xs ys (Ok c) → Within m r
    → length (position_of c).kinds < m
pushed_within m (Ok t) xs ys c x y = subst (λ at. length (position_of at).kinds < m) (sym x.1) y
pushed_within m (Err e) xs ys c x y = absurd (cc)

pub within_ok : {T : Type 0} (m : ℕ) (r : Result (T × cursors.Cursor) Fault) → Within m r → IfOk r (λ t. length (position_of t.1).kinds < m)
within_ok m (Ok t) x = x
within_ok m (Err e) x = tt

pub ok_within : {T : Type 0} (m : ℕ) (r : Result (T × cursors.Cursor) Fault) → IfOk r (λ t. length (position_of t.1).kinds < m) → Within m r
ok_within m (Ok t) x = x
ok_within m (Err e) x = tt
