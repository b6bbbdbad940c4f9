-- Lines put together from their words.
use Rattle.std.proofs.Common.{◌≡◌, ◌∙◌, ◌+◌, ◌<◌, ◌≤◌, ℕ, zero, suc, List, [], ◌∷◌, ◌++◌, map, flat_map, append_assoc, ap, sym, arith, refl}
use Rattle.std.proofs.lemmas.List.{append-nil}
use Rattle.std.specs.Fmt.{decimal}
use Rattle.alma_code.specs.declared.cell.Cell.{Cell}
use Rattle.alma_code.specs.declared.cell.Cell.TheVariants as cell
use Rattle.alma_code.specs.ListText.{text_line}
use Rattle.alma_code.specs.Picture.{PlainFrame, cell_at}
use Rattle.alma_code.specs.TraceText.{cell_text, cells_text}
use Rattle.alma_trace.specs.declared.watch.Watch.{Watch}
use Rattle.alma_trace.specs.Places.{watch_word, watch_words, comma}

-- a line of a word and others
line_of : {X : Type 0} (v : X → List ℕ) (word : List ℕ) (words : List X)
    → text_line (word ∷ map v words) ≡ word ++ (flat_map (λ x. 32 ∷ v x) words ++ 10 ∷ [])
line_of v word [] = refl
line_of v word (x ∷ words) =
    ap (λ (z : List ℕ). word ++ 32 ∷ z) (line_of v (v x) words)
    ∙ ap (λ (z : List ℕ). word ++ 32 ∷ z) (sym (append_assoc (v x) (flat_map (λ y. 32 ∷ v y) words) (10 ∷ [])))

-- a line of a word, a number and watched values
pub watched_line : (frames : List PlainFrame) (watches : List Watch) (one two three text word : List ℕ) (height : ℕ)
    → one ≡ word → two ≡ one ++ 32 ∷ decimal height → three ≡ two ++ flat_map (λ watch. 32 ∷ watch_word frames watch) watches
    → text ≡ three ++ 10 ∷ [] → text ≡ text_line (word ∷ decimal height ∷ watch_words frames watches)
watched_line frames watches one two three text word height a b c d =
    let values : List ℕ = flat_map (λ watch. 32 ∷ watch_word frames watch) watches in
    d ∙ ap (λ (z : List ℕ). z ++ 10 ∷ []) (c ∙ ap (λ (z : List ℕ). z ++ values) (b ∙ ap (λ (z : List ℕ). z ++ 32 ∷ decimal height) a))
    ∙ append_assoc (word ++ 32 ∷ decimal height) values (10 ∷ [])
    ∙ append_assoc word (32 ∷ decimal height) (values ++ 10 ∷ [])
    ∙ ap (λ (z : List ℕ). word ++ 32 ∷ z) (sym (line_of (watch_word frames) (decimal height) watches))

-- the comma before the first cell, and before others
pub comma_none : (index : ℕ) → index ≤ 0 → comma index ≡ []
comma_none zero h = refl
comma_none (suc before) h = absurd (omega (arith, h))

pub comma_some : (index : ℕ) → 0 < index → comma index ≡ 44 ∷ []
comma_some zero h = absurd (omega (arith, h))
comma_some (suc before) h = refl

-- one cell more
cells_more : (frames : List PlainFrame) (slot n : ℕ)
    → cells_text frames slot (suc n) ≡ cells_text frames slot n ++ (comma n ++ cell_text (cell_at frames 0 (slot + n) cell.Unknown))
cells_more frames slot zero =
    let e : slot ≡ slot + 0 = omega arith in
    ap (λ (k : ℕ). cell_text (cell_at frames 0 k cell.Unknown)) e
cells_more frames slot (suc zero) =
    let e : suc slot ≡ slot + 1 = omega arith in
    ap (λ (k : ℕ). cell_text (cell_at frames 0 slot cell.Unknown) ++ 44 ∷ cell_text (cell_at frames 0 k cell.Unknown)) e
cells_more frames slot (suc (suc n)) =
    let e : suc slot + suc n ≡ slot + suc (suc n) = omega arith in
    let first : List ℕ = cell_text (cell_at frames 0 slot cell.Unknown) in
    ap (λ (z : List ℕ). first ++ 44 ∷ z) (cells_more frames (suc slot) (suc n))
    ∙ ap (λ (k : ℕ). first ++ 44 ∷ (cells_text frames (suc slot) (suc n) ++ 44 ∷ cell_text (cell_at frames 0 k cell.Unknown))) e
    ∙ sym (append_assoc first (44 ∷ cells_text frames (suc slot) (suc n))
    (44 ∷ cell_text (cell_at frames 0 (slot + suc (suc n)) cell.Unknown)))

-- a cell behind others
pub cells_put : (frames : List PlainFrame) (slot k : ℕ) (c : Cell) (line now one two : List ℕ)
    → now ≡ line ++ cells_text frames slot k → one ≡ now ++ comma k → c ≡ cell_at frames 0 (slot + k) cell.Unknown
    → two ≡ one ++ cell_text c
    → two ≡ line ++ cells_text frames slot (k + 1)
cells_put frames slot k c line now one two a b e d =
    let more : k + 1 ≡ suc k = omega arith in
    d ∙ ap (λ (z : List ℕ). z ++ cell_text c) (b ∙ ap (λ (z : List ℕ). z ++ comma k) a)
    ∙ ap (λ (z : List ℕ). z ++ cell_text c) (append_assoc line (cells_text frames slot k) (comma k))
    ∙ append_assoc line (cells_text frames slot k ++ comma k) (cell_text c)
    ∙ ap (λ (z : List ℕ). line ++ z) (append_assoc (cells_text frames slot k) (comma k) (cell_text c))
    ∙ ap (λ (x : Cell). line ++ (cells_text frames slot k ++ (comma k ++ cell_text x))) e
    ∙ ap (λ (z : List ℕ). line ++ z) (sym (cells_more frames slot k) ∙ ap (cells_text frames slot) (sym more))

-- a line alone
pub alone : (words : List (List ℕ)) → flat_map text_line (words ∷ []) ≡ text_line words
alone words = append-nil (text_line words)
