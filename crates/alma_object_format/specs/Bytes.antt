-- Numbers in bytes, the lowest byte first.
use Rattle.std.specs.Prelude.{ℕ, ◌+◌, ℤ, List, [], ◌∷◌, slice_index}
use Rattle.std.specs.List.{flat_map}
use Rattle.std.specs.Int.{w16, w32, w64, from_le_bytes, to_le_bytes, cast_signed, cast_unsigned}

-- ---- written

-- the two bytes of a number below 2 ^ 16
unfoldable pub u16_bytes : ℕ → List ℕ
u16_bytes n = to_le_bytes w16 n

-- the four bytes of a number below 2 ^ 32
unfoldable pub u32_bytes : ℕ → List ℕ
u32_bytes n = to_le_bytes w32 n

-- the bytes of words, which are numbers below 2 ^ 32, one after another
abbrev pub words_bytes : List ℕ → List ℕ
words_bytes words = flat_map u32_bytes words

-- the eight bytes of a number of INTEGER
unfoldable pub i64_bytes : ℤ → List ℕ
i64_bytes n = to_le_bytes w64 (cast_unsigned w64 n)

-- ---- read

-- the number in the two bytes at an offset
unfoldable pub u16_at : List ℕ → (at : ℕ) → ℕ
u16_at bytes at = from_le_bytes w16 (slice_index bytes at ∷ slice_index bytes (at + 1) ∷ [])

-- the number in the four bytes at an offset
unfoldable pub u32_at : List ℕ → (at : ℕ) → ℕ
u32_at bytes at = from_le_bytes w32 (slice_index bytes at ∷ slice_index bytes (at + 1) ∷ slice_index bytes (at + 2)
    ∷ slice_index bytes (at + 3) ∷ [])

-- the number of INTEGER in the eight bytes at an offset
unfoldable pub i64_at : List ℕ → (at : ℕ) → ℤ
i64_at bytes at = cast_signed w64 (from_le_bytes w64 (
    slice_index bytes at ∷ slice_index bytes (at + 1) ∷ slice_index bytes (at + 2) ∷ slice_index bytes (at + 3)
    ∷ slice_index bytes (at + 4) ∷ slice_index bytes (at + 5) ∷ slice_index bytes (at + 6) ∷ slice_index bytes (at + 7) ∷ []))
