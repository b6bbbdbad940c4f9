-- A source that is read piece by piece.
use Rattle.std.proofs.Common.{◌≡◌, ◌≤◌, ◌<◌, ◌+◌, ◌-◌, ℕ, List, [], ◌∷◌, ◌++◌, length, min, ap, ◌∙◌, length-append, arith}
use Rattle.std.specs.Prelude.{Option, None, Some}
use Rattle.std.specs.Io.KnownBytes.{Consumes}
use Rattle.alma_io.proofs.Known.{consumes_trans}
use Rattle.alma_io.specs.Whole.{LosesAtMost, LosesBytes, MayHaveMore}

-- what was read and one more piece, that may be one byte longer than the room, are a prefix
pub prefix_read : (a b c : Option (List ℕ)) (bytes piece : List ℕ) (most : ℕ) → Consumes a b bytes → Consumes b c piece
    → length bytes + length piece ≤ most → LosesAtMost a c most
prefix_read a b c bytes piece most h k few =
    (bytes ++ piece, consumes_trans a b c bytes piece h k, rw (length-append bytes piece) few)

-- the same, where the count is known
pub bytes_read : (a b c : Option (List ℕ)) (bytes piece : List ℕ) (count : ℕ) → Consumes a b bytes → Consumes b c piece
    → length bytes + length piece ≡ count → LosesBytes a c count
bytes_read a b c bytes piece count h k all =
    (bytes ++ piece, consumes_trans a b c bytes piece h k, rw (length-append bytes piece) all)

-- what has room is kept within the limit
pub kept_within : (count piece len limit new : ℕ) → count ≤ limit - len → count ≡ piece → len ≤ limit → new ≡ len + piece → new ≤ limit
kept_within count piece len limit new room same within sum = omega arith

-- the part of a chunk that one call may fill is a part of it
pub piece_in : (most len room size chunk : ℕ) → most ≡ min len room → len ≡ chunk → size ≡ chunk → most ≤ size
piece_in most len room size chunk least same whole = omega arith

-- and it has room where the chunk has
pub piece_some : (most len room chunk filled part : ℕ) → most ≡ min len (room + 1) → len ≡ chunk → 0 < chunk → filled ≡ part → part ≡ most
    → 0 < filled
piece_some most len room chunk filled part least same some kept whole = omega arith

-- a piece that is longer than the room tells that there were more bytes than the limit
pub more_left : (a b c : Option (List ℕ)) (bytes piece : List ℕ) (count len limit : ℕ) → Consumes a b bytes → Consumes b c piece
    → limit - len < count → count ≡ length piece → len ≡ length bytes → MayHaveMore a limit
more_left None b c bytes piece count len limit h k past same sum = tt
more_left (Some old) None c bytes piece count len limit h k past same sum = absurd h
more_left (Some old) (Some mid) None bytes piece count len limit h k past same sum = absurd k
more_left (Some old) (Some mid) (Some new) bytes piece count len limit h k past same sum =
    omega (arith, ap length h, ap length k, length-append bytes mid, length-append piece new)

-- a piece of no bytes uses up nothing
pub ended_front : (a b c : Option (List ℕ)) (bytes piece : List ℕ) → Consumes a b bytes → Consumes b c piece → length piece ≡ 0
    → Consumes a c bytes
ended_front None b c bytes piece h k none = tt
ended_front (Some old) None c bytes piece h k none = absurd h
ended_front (Some old) (Some mid) None bytes piece h k none = absurd k
ended_front (Some old) (Some mid) (Some new) bytes [] h k none = h ∙ ap (λ z. bytes ++ z) k
ended_front (Some old) (Some mid) (Some new) bytes (x ∷ piece) h k none = absurd (omega (arith, none))

-- a piece that is longer than the room is longer by one byte
pub one_past : (count filled part most chunk len limit items piece : ℕ) → count ≤ filled → filled ≡ part → part ≡ most
    → most ≡ min chunk (limit - len + 1)
    → limit - len < count → count ≡ piece → len ≡ items → items ≤ limit → items + piece ≡ limit + 1
one_past count filled part most chunk len limit items piece few kept whole least past same sum within = omega arith

-- one that is not leaves the whole within the limit
pub none_past : (count len limit items piece : ℕ) → count ≤ limit - len → count ≡ piece → len ≡ items → items ≤ limit
    → items + piece ≤ limit + 1
none_past count len limit items piece room same sum within = omega arith

-- what is one more is at most one more
pub at_most : (a b : ℕ) → a ≡ b → a ≤ b
at_most a b e = omega (arith, e)
