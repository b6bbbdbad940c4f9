-- The words of a call that names files.
use Rattle.std.specs.Prelude.{◌+◌, ℕ, ◌&&◌, List, [], ◌∷◌, ltb, cond, Option, None, Some}
use Rattle.alma_driver_words.specs.Words.{is_file_name}

-- the greatest number of files
abbrev pub greatest_files : ℕ
greatest_files = 16

-- from 1 to 16 files behind so many words: the first word, from 1, that cannot stand where it is, or one more than there are,
-- where so many are seen
abbrev pub bad_file : (before seen : ℕ) → List (List ℕ) → Option ℕ
bad_file before seen [] = cond (ltb before seen) None (Some (seen + 1))
bad_file before seen (word ∷ words) =
    cond (is_file_name word && ltb seen (before + greatest_files)) (bad_file before (seen + 1) words) (Some (seen + 1))
