-- A buffer whose front takes a piece.
use Rattle.std.proofs.Common.{◌≡◌, ◌≤◌, ◌<◌, ◌+◌, ◌-◌, ℕ, List, [], ◌++◌, length, take, drop, min, ap, sym, ◌∙◌, arith, length-append}
use Rattle.std.proofs.Common.{length-drop, length-take-le}
use Rattle.std.proofs.lemmas.List.{drop_at, drop_all, take_all}

-- a piece of at most so many bytes, of the buffer's and of the part's
pub piece_within : (n m piece room part : ℕ) → m ≡ min piece room → n ≡ min m part → n ≤ room
piece_within n m piece room part h k = omega arith

pub piece_of_part : (n m part : ℕ) → n ≡ min m part → n ≤ part
piece_of_part n m part k = omega arith

-- the part is what is left
part_length : (at : ℕ) (bytes : List ℕ) → length (take (length bytes - at) (drop at bytes)) ≡ length bytes - at
part_length at bytes = ap length (take_all (length bytes - at) (drop at bytes) (eq_le (length-drop at bytes))) ∙ length-drop at bytes
  where
    eq_le : {a b : ℕ} → a ≡ b → a ≤ b
    eq_le e = omega (arith, e)

-- and the piece is its front
pub piece_left : (n m at len : ℕ) (bytes : List ℕ) → at ≤ len → length bytes ≡ len
    → n ≡ min m (length (take (length bytes - at) (drop at bytes)))
    → at + n ≤ len
piece_left n m at len bytes within same k = inside (length bytes) within same (k ∙ ap (min m) (part_length at bytes))
  where
    inside : (count : ℕ) → at ≤ len → count ≡ len → n ≡ min m (count - at) → at + n ≤ len
    inside count within same k = omega arith

-- the count of a piece, told of the buffer as it is then and of the bytes that are left
pub piece_count : (n m piece at : ℕ) (bytes filled buffer : List ℕ) → m ≡ min piece (length buffer) → length filled ≡ length buffer
    → n ≡ min m (length (take (length bytes - at) (drop at bytes))) → n ≡ min piece (min (length filled) (length (drop at bytes)))
piece_count n m piece at bytes filled buffer h same k =
    let count : n ≡ min m (length bytes - at) = k ∙ ap (min m) (part_length at bytes) in
    rw (same, length-drop at bytes) (counted m piece (length buffer) (length bytes - at) h count)
  where
    counted : (m piece room left : ℕ) → m ≡ min piece room → n ≡ min m left → n ≡ min piece (min room left)
    counted m piece room left h count = omega arith

-- no byte moves into a buffer with room only where none is left
pub piece_end : (n m piece at : ℕ) (bytes filled buffer : List ℕ) → 0 < piece → m ≡ min piece (length buffer)
    → length filled ≡ length buffer
    → n ≡ min m (length (take (length bytes - at) (drop at bytes))) → n ≡ 0 → 0 < length filled → drop (at + n) bytes ≡ []
piece_end n m piece at bytes filled buffer some h same k none room =
    drop_all (at + n) bytes (ended m piece (length buffer) (length filled) (length bytes) some h same
    (k ∙ ap (min m) (part_length at bytes)) none room)
  where
    ended : (m piece buffer filled count : ℕ) → 0 < piece → m ≡ min piece buffer → filled ≡ buffer → n ≡ min m (count - at) → n ≡ 0
        → 0 < filled
        → count ≤ at + n
    ended m piece buffer filled count some h same k none room = omega arith

-- the buffer keeps its length
pub filled_length : (n : ℕ) (new buffer : List ℕ) → n ≤ length buffer → length new ≡ length (take n buffer)
    → length (new ++ drop n buffer) ≡ length buffer
filled_length n new buffer within same =
    omega (arith, length-append new (drop n buffer), length-drop n buffer, length-take-le n buffer within)

-- and it is the same behind the piece
pub filled_rest : (n : ℕ) (new buffer : List ℕ) → n ≤ length buffer → length new ≡ length (take n buffer)
    → drop n (new ++ drop n buffer) ≡ drop n buffer
filled_rest n new buffer within same = drop_at new (drop n buffer) n (same ∙ length-take-le n buffer within)

-- the count is one of the filled buffer's
pub filled_bound : (n : ℕ) (buffer filled : List ℕ) → n ≤ length buffer → length filled ≡ length buffer → (n ≤ length filled)
    × (n ≡ length (take n filled))
filled_bound n buffer filled within same =
    let inside : n ≤ length filled = omega arith in (inside, sym (length-take-le n filled inside))
