-- Tokens are slices of their source.
use Rattle.std.proofs.Common.{◌≡◌, ◌≤◌, ◌+◌, ◌-◌, ℕ, zero, suc, List, [], ◌∷◌, ◌++◌, length, take, drop, refl, ap, sym, ◌∙◌, arith}
use Rattle.std.proofs.Common.{append_assoc, length-append}
use Rattle.std.specs.Prelude.{All, slice_range}
use Rattle.std.proofs.Math.Seq.{take-append_seam, drop-append_seam}
use Rattle.alma_scan.specs.Comments.{Closes, here, byte, nested, Gap, none, blank, comment}
use Rattle.alma_scan.specs.Tokens.{Lexeme, HasTokens, IsSlice}
use Rattle.alma_scan.proofs.Lists.{token_shorter}

-- the rest behind a comment is the last of it
closes_front : {bytes rest : List ℕ} → Closes bytes rest → (front : List ℕ) × (bytes ≡ front ++ rest)
closes_front (here rest) = (42 ∷ 41 ∷ [], refl)
closes_front (byte b bytes rest o c h) = let k = closes_front h in (b ∷ k.0, ap (λ (z : List ℕ). b ∷ z) k.1)
closes_front (nested bytes inner rest h i) =
    let k = closes_front h in
    let l = closes_front i in
    (40 ∷ 42 ∷ (k.0 ++ l.0), ap (λ (z : List ℕ). 40 ∷ 42 ∷ z) (k.1 ∙ ap (λ (z : List ℕ). k.0 ++ z) l.1 ∙ sym (append_assoc k.0 l.0 rest)))

-- the rest behind a gap is the last of the bytes
gap_front : {bytes rest : List ℕ} → Gap bytes rest → (front : List ℕ) × (bytes ≡ front ++ rest)
gap_front (none rest) = ([], refl)
gap_front (blank b bytes rest t h) = let k = gap_front h in (b ∷ k.0, ap (λ (z : List ℕ). b ∷ z) k.1)
gap_front (comment bytes after rest c h) =
    let k = closes_front c in
    let l = gap_front h in
    (40 ∷ 42 ∷ (k.0 ++ l.0), ap (λ (z : List ℕ). 40 ∷ 42 ∷ z) (k.1 ∙ ap (λ (z : List ℕ). k.0 ++ z) l.1 ∙ sym (append_assoc k.0 l.0 rest)))

-- a text behind a front is the slice there
slice_at : (front text rest : List ℕ) (start : ℕ) → start ≡ length front
    → slice_range (front ++ (text ++ rest)) start (start + length text) ≡ text
slice_at front text rest start e =
    let size : start + length text - start ≡ length text = omega arith in
    ap (λ (n : ℕ). take n (drop start (front ++ (text ++ rest)))) size
    ∙ ap (λ (n : ℕ). take (length text) (drop n (front ++ (text ++ rest)))) e
    ∙ ap (take (length text)) (drop-append_seam front (text ++ rest))
    ∙ take-append_seam text rest

-- a token behind a front is a slice
one_slice : (source front text rest : List ℕ) (t : Lexeme) → source ≡ front ++ (text ++ rest) → t.text ≡ text
    → t.start + length (text ++ rest) ≡ length source → IsSlice source t
one_slice source front text rest t e x s =
    let whole = ap length e in
    let start : t.start ≡ length front = omega (arith, s, whole, length-append front (text ++ rest)) in
    let size = ap length x in
    record {
      text = ap (λ (z : List ℕ). slice_range z t.start (t.start + length t.text)) e
          ∙ ap (λ (z : List ℕ). slice_range (front ++ (text ++ rest)) t.start (t.start + length z)) x
          ∙ slice_at front text rest t.start start ∙ sym x;
      within = omega (arith, size, s, length-append text rest);
    }

-- what holds of the first and of the others holds of all
all_more : (P : Lexeme → Type 0) (t : Lexeme) (ts : List Lexeme) → P t → All P ts → All P (t ∷ ts)
all_more P t ts h k zero d l = h
all_more P t ts h k (suc n) d l = k n d (omega (arith, l))

-- the tokens behind a front are slices
all_slices : (source front bytes : List ℕ) (ts : List Lexeme) (rest : List ℕ) → source ≡ front ++ bytes
    → HasTokens (length source) bytes ts rest → All (IsSlice source) ts
all_slices source front bytes [] rest e h = λ k d l. absurd (omega (arith, l))
all_slices source front bytes (t ∷ ts) rest e h =
    let gap = gap_front h.1.gap in
    let before = front ++ gap.0 in
    let whole : source ≡ before ++ (t.text ++ h.0) = e ∙ ap (λ (z : List ℕ). front ++ z) gap.1
    ∙ sym (append_assoc front gap.0 (t.text ++ h.0)) in
    let this = one_slice source before t.text h.0 t whole refl h.1.start in
    let more = all_slices source (before ++ t.text) h.0 ts rest (whole ∙ sym (append_assoc before t.text h.0)) h.2 in
    all_more (IsSlice source) t ts this more

-- the tokens of a source are slices of it
pub slices : (source : List ℕ) (ts : List Lexeme) → HasTokens (length source) source ts [] → All (IsSlice source) ts
slices source ts h = all_slices source [] source ts [] refl h

-- each token has a byte of its own
pub count_of : (size : ℕ) (bytes : List ℕ) (ts : List Lexeme) (rest : List ℕ) → HasTokens size bytes ts rest → length ts ≤ length bytes
count_of size bytes [] rest h = omega arith
count_of size bytes (t ∷ ts) rest h =
    let this = token_shorter size bytes t h.0 h.1 in
    let more = count_of size h.0 ts rest h.2 in
    omega (arith, this, more)
