-- Which texts are one name of the language.
use Rattle.std.proofs.Common.{◌≡◌, ◌∙◌, inl, inr, ℕ, List, [], ◌∷◌, ◌++◌, length, refl, sym, ap, subst, arith, zero-add}
use Rattle.std.proofs.lemmas.Bool.{and_parts, ne_eqb}
use Rattle.std.proofs.lemmas.List.{append-nil, length-append}
use Rattle.std.specs.Prelude.{Bool, true, false, not, ◌&&◌, bytes_eq, if◌then◌else◌, None, Some, nat_eq}
use Rattle.std.specs.List.{list_all}
use Rattle.alma_base.specs.Bytes.{is_letter, is_word_byte}
use Rattle.alma_tree.specs.declared.kind.Kind.{Kind}
use Rattle.alma_tree.specs.declared.kind.Kind.TheVariants as kinds
use Rattle.alma_scan.specs.Bytes.{AllIn}
use Rattle.alma_scan.specs.Comments as gaps
use Rattle.alma_scan.specs.Spellings.{Spelling, Spells, IsWord, look_up, symbols, reserved_words}
use Rattle.alma_scan.specs.Spellings as spelled
use Rattle.alma_scan.specs.Tokens.{HasToken}
use Rattle.alma_driver_words.specs.Words.{IsName}
use Rattle.alma_driver_words.proofs.Decidable.{Decidable, both, passed, all_in, is_nothing}

-- a letter or _, and then letters, digits and _, which are no reserved word
abbrev pub IsFreeWord : List ℕ → Type 0
IsFreeWord text = IsWord text × (look_up reserved_words text ≡ None)

-- whether a text is a word
is_word : (text : List ℕ) → Decidable (IsWord text)
is_word [] = inr (λ h. h)
is_word (b ∷ bytes) = both (is_letter b ≡ true) (AllIn is_word_byte bytes) (passed (is_letter b)) (all_in is_word_byte bytes)

-- whether a text is such a word
is_free_word : (text : List ℕ) → Decidable (IsFreeWord text)
is_free_word text =
    both (IsWord text) (look_up reserved_words text ≡ None) (is_word text) (is_nothing Kind (look_up reserved_words text))

-- ---- a name is such a word

-- the kind is that of names
abbrev is_kind_name : Kind → Bool
is_kind_name kinds.Name = true
is_kind_name _ = false

-- a table without names
abbrev no_names : List Spelling → Bool
no_names table = list_all (λ entry. not (is_kind_name entry.kind)) table

-- another kind is not that of names
not_name : (k : Kind) → not (is_kind_name k) ≡ true → Some k ≡ Some kinds.Name → ⊥
not_name k other e =
    let same : k ≡ kinds.Name = cc e in
    let never : false ≡ true = subst (λ (x : Kind). not (is_kind_name x) ≡ true) same other in
    absurd (cc never)

-- such a table gives no text that kind
no_look_up : (table : List Spelling) (text : List ℕ) → no_names table ≡ true → look_up table text ≡ Some kinds.Name → ⊥
no_look_up [] text none e = cc e
no_look_up (entry ∷ table) text none e =
    let parts = and_parts (not (is_kind_name entry.kind)) (no_names table) none in
    by (bytes_eq entry.text text) parts.0 (no_look_up table text parts.1) e
  where
    by : (b : Bool) → not (is_kind_name entry.kind) ≡ true → (look_up table text ≡ Some kinds.Name → ⊥)
        → (if b then Some entry.kind else look_up table text) ≡ Some kinds.Name → ⊥
    by true other rest e = not_name entry.kind other e
    by false other rest e = rest e

-- the spelling of a name is such a word
spelled_name : (text : List ℕ) → Spells kinds.Name text → IsFreeWord text
spelled_name text (spelled.name e word free) = (word, free)
spelled_name text (spelled.number e digits small) = cc e
spelled_name text (spelled.literal e is) = cc e
spelled_name text (spelled.symbol e) = absurd (no_look_up symbols text refl e)
spelled_name text (spelled.reserved e) = absurd (no_look_up reserved_words text refl e)

-- ---- such a word is one name

-- a letter is no parenthesis
no_paren : (b : ℕ) → is_letter b ≡ true → nat_eq b 40 ≡ false
no_paren b h = ne_eqb b 40 (λ (e : b ≡ 40). cc (subst (λ (x : ℕ). is_letter x ≡ true) e h))

-- so a word opens no comment
no_comment : (text : List ℕ) → IsWord text → gaps.opens text ≡ false
no_comment [] h = refl
no_comment (a ∷ []) h = refl
no_comment (a ∷ b ∷ bytes) h = ap (λ x. x && nat_eq b 42) (no_paren a h.0)

-- the word is its only token
pub one_name : (text : List ℕ) → IsFreeWord text → IsName text
one_name text h =
    let all : text ++ [] ≡ text = append-nil text in
    let token : HasToken (length text) text (record { kind = kinds.Name; text = text; start = 0 }) [] = record {
      gap = subst (λ (t : List ℕ). gaps.Gap text t) (sym all) (gaps.none text);
      is_token = record {
        spelled = spelled.name refl h.0 h.1;
        longest = λ other longer after e spells.
            omega (arith, ap (λ (t : List ℕ). length t) (sym all ∙ e), length-append longer after);
        no_digit = λ e. tt;
        no_comment = ap gaps.opens all ∙ no_comment text h.0;
      };
      start = zero-add (length (text ++ [])) ∙ ap (λ (t : List ℕ). length t) all;
    } in
    ([], token, gaps.none [])

-- and one name is such a word
pub name_is_free : (text : List ℕ) → IsName text → IsFreeWord text
name_is_free text n = spelled_name text n.1.is_token.spelled

-- whether a text is one name
pub is_name : (text : List ℕ) → Decidable (IsName text)
is_name text = by (is_free_word text)
  where
    by : Decidable (IsFreeWord text) → Decidable (IsName text)
    by (inl free) = inl (one_name text free)
    by (inr never) = inr (λ n. never (name_is_free text n))
