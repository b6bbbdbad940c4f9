-- Scripts, text after text.
use Rattle.std.proofs.Common.{◌≡◌, ◌<◌, ◌≤◌, ◌+◌, ◌-◌, ◌∙◌, ℕ, List, [], ◌∷◌, ◌++◌, length, get_or, take, drop, refl, sym, ap}
use Rattle.std.proofs.lemmas.Bool.{eq-eqb, ne_eqb}
use Rattle.std.proofs.lemmas.List.{take_more, drop_more, drop_all, take_all, take_rest, map-append}
use Rattle.std.specs.Prelude.{Bool, eqb, cond, Some, Result}
use Rattle.alma_back.specs.declared.script.Line as read
use Rattle.alma_back.specs.Inner.{line_of, lines_of, none_ended, one_ended}
use Rattle.alma_back.specs.Script.{Line, Texts, with_byte, texts_in, one_more, lines_behind, line_in}

-- ---- the texts of a script

-- bytes without a line feed in front of texts
abbrev pub onto : List ℕ → Texts → Texts
onto [] t = t
onto (byte ∷ line) t = with_byte byte (onto line t).ended (onto line t).left

onto_one : (line : List ℕ) (t : Texts) → onto line (one_ended [] t) ≡ one_ended line t
onto_one [] t = refl
onto_one (byte ∷ line) t = ap (λ (x : Texts). with_byte byte x.ended x.left) (onto_one line t)

onto_none : (line : List ℕ) → onto line (none_ended []) ≡ none_ended line
onto_none [] = refl
onto_none (byte ∷ line) = ap (λ (x : Texts). with_byte byte x.ended x.left) (onto_none line)

onto_more : (line : List ℕ) (byte : ℕ) (t : Texts) → onto (line ++ byte ∷ []) t ≡ onto line (with_byte byte t.ended t.left)
onto_more [] byte t = refl
onto_more (b ∷ line) byte t = ap (λ (x : Texts). with_byte b x.ended x.left) (onto_more line byte t)

-- the texts by their first byte
abbrev by_byte : (byte : ℕ) → Texts → (feed : Bool) → Texts
by_byte byte t feed = cond feed (one_ended [] t) (with_byte byte t.ended t.left)

module _ (text : List ℕ) (at byte : ℕ) (within : at < length text) (is : byte ≡ get_or text at 0) where
  here : texts_in (drop at text) ≡ by_byte byte (texts_in (drop (at + 1) text)) (eqb byte 10)
  here =
      ap texts_in (drop_more text at 0 within)
      ∙ ap (λ b. by_byte b (texts_in (drop (at + 1) text)) (eqb b 10)) (sym is)

  -- it is no line feed
  pub texts_more : (byte ≡ 10 → ⊥) → texts_in text ≡ onto (take at text) (texts_in (drop at text))
      → texts_in text ≡ onto (take (at + 1) text) (texts_in (drop (at + 1) text))
  texts_more other before =
      before ∙ ap (onto (take at text)) (here ∙ ap (by_byte byte (texts_in (drop (at + 1) text))) (ne_eqb byte 10 other))
      ∙ sym (onto_more (take at text) byte (texts_in (drop (at + 1) text)))
      ∙ ap (λ line. onto line (texts_in (drop (at + 1) text))) (ap (λ b. take at text ++ b ∷ []) is ∙ sym (take_more text at 0 within))

  -- it is one
  pub texts_split : byte ≡ 10 → texts_in text ≡ onto (take at text) (texts_in (drop at text))
      → texts_in text ≡ one_ended (take at text) (texts_in (take (length text - (at + 1)) (drop (at + 1) text)))
  texts_split feed before =
      before ∙ ap (onto (take at text)) (here ∙ ap (by_byte byte (texts_in (drop (at + 1) text))) (eq-eqb byte 10 feed))
      ∙ onto_one (take at text) (texts_in (drop (at + 1) text))
      ∙ ap (λ r. one_ended (take at text) (texts_in r)) (sym (take_rest text (at + 1)))

-- no line feed came
pub texts_none : (text : List ℕ) (at : ℕ) → length text ≤ at → texts_in text ≡ onto (take at text) (texts_in (drop at text))
    → texts_in text ≡ none_ended text
texts_none text at all before =
    before ∙ ap (λ rest. onto (take at text) (texts_in rest)) (drop_all at text all)
    ∙ ap (λ line. onto line (none_ended [])) (take_all at text all) ∙ onto_none text

-- ---- the lines of texts

-- what comes of texts behind lines
abbrev pub behind : List Line → Texts → Result (List Line) ℕ
behind got t = lines_behind t.ended t.left got

module _ (rest text more : List ℕ) (got : List read.Line) (r : Result (List Line) ℕ)
    (split : texts_in rest ≡ one_ended text (texts_in more))
    (is : r ≡ behind (lines_of got) (texts_in rest)) where
  one : r ≡ one_more (line_in text) (lines_behind (texts_in more).ended (texts_in more).left) (lines_of got)
  one = is ∙ ap (behind (lines_of got)) split

  -- it is one
  pub lines_more : (line : read.Line) → Some (line_of line) ≡ line_in text → r ≡ behind (lines_of (got ++ line ∷ [])) (texts_in more)
  lines_more line some =
      one ∙ ap (λ o. one_more o (lines_behind (texts_in more).ended (texts_in more).left) (lines_of got)) (sym some)
      ∙ ap (λ lines. behind lines (texts_in more)) (sym (map-append line_of got (line ∷ [])))
