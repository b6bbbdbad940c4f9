-- How many files a request has.
use Rattle.std.proofs.Common.{◌≡◌, ◌<◌, ◌≤◌, ◌+◌, ℕ, List, [], ◌∷◌, length, refl, inl, inr, arith, ap, sym, ◌∙◌}
use Rattle.std.proofs.lemmas.Bool.{and_parts, cases_lt, le-ltb, ltb-true}
use Rattle.std.proofs.lemmas.List.{length-map}
use Rattle.std.specs.Prelude.{◌⊎◌, Bool, true, false, ◌&&◌, None, Some, String, ltb, cond}
use Rattle.std.specs.declared.alloc.Global.{Global}
use Rattle.std.specs.String.{string_bytes}
use Rattle.alma_driver_words.specs.Words.{texts, is_file_name}
use Rattle.alma_plan.specs.Words.{bad_file, greatest_files}

-- the number of files, as words behind so many
abbrev Within : (before seen : ℕ) → List (List ℕ) → Type 0
Within before seen words = (before < seen + length words) × (seen + length words ≤ before + greatest_files)

-- where none is bad, there is one at least, and no more than there may be
pub files_within : (before seen : ℕ) (words : List (List ℕ)) → seen ≤ before + greatest_files → bad_file before seen words ≡ None
    → Within before seen words
files_within before seen [] within e = by (cases_lt before seen)
  where
    by : (before < seen) ⊎ (seen ≤ before) → Within before seen []
    by (inl some) = (omega (arith, some), omega (arith, within))
    by (inr none) = cc (rw (le-ltb before seen none) at e)
files_within before seen (word ∷ words) within e =
    by (is_file_name word && ltb seen (before + greatest_files)) refl e (files_within before (seen + 1) words)
  where
    by : (good : Bool) → is_file_name word && ltb seen (before + greatest_files) ≡ good
        → cond good (bad_file before (seen + 1) words) (Some (seen + 1)) ≡ None
        → (seen + 1 ≤ before + greatest_files → bad_file before (seen + 1) words ≡ None → Within before (seen + 1) words)
        → Within before seen (word ∷ words)
    by false is h more = cc h
    by true is h more =
        let room = ltb-true seen (before + greatest_files) (and_parts (is_file_name word) (ltb seen (before + greatest_files)) is).1 in
        let rest = more (omega (arith, room)) h in
        (omega (arith, rest.0), omega (arith, rest.1))

-- as many words as texts
pub same_count : (words : List (String Global)) (all : List (List ℕ)) → texts words ≡ all → length words ≡ length all
same_count words all e = sym (length-map words (λ word. string_bytes word)) ∙ ap (λ (xs : List (List ℕ)). length xs) e
