-- Words are a request, or have a first bad word.
use Rattle.std.proofs.Common.{◌≡◌, ◌∙◌, ℕ, List, [], ◌∷◌, ap, refl, sym, inl, inr}
use Rattle.std.specs.Prelude.{◌⊎◌, Bool, true, false, codes, Option, None, Some}
use Rattle.alma_driver_words.specs.Words.{default_steps, is_file_name}
use Rattle.alma_driver_words.specs.BadWords.{Begins, IsBadWord}
use Rattle.alma_driver_words.proofs.BadWords.{Found, asks_begins, bad_behind, bad_end}
use Rattle.alma_driver_words.proofs.BadWords as found
use Rattle.alma_all.specs.All.{all_plan, file_plan, bad_word_plan, steps_in, with_file, with_options, with_steps}
use Rattle.alma_all.specs.Shown.{AsksToList, IsRequest, plain, within}
use Rattle.alma_all.proofs.WordLemmas.{option_is, is_option}

-- words that ask for the alternatives have the plan of that
pub plan_is : (words : List (List ℕ)) (file : List ℕ) (steps : ℕ) → AsksToList words file steps → all_plan words ≡ file_plan file steps
plan_is words file steps (plain is named by) = ap all_plan is ∙ ap (λ b. with_file b file []) named ∙ ap (file_plan file) (sym by)
plan_is words file steps (within option is named by) =
    ap all_plan is ∙ ap (λ b. with_file b file (option ∷ [])) named ∙ ap (λ o. with_steps file o []) (option_is option steps by)

-- ---- what words are that ask for them

-- some
none_asked : (file : List ℕ) (steps : ℕ) → AsksToList [] file steps → ⊥
none_asked file steps (plain is named by) = cc is
none_asked file steps (within option is named by) = cc is

-- the first names the file
first_names : (word : List ℕ) (words : List (List ℕ)) (file : List ℕ) (steps : ℕ) → AsksToList (word ∷ words) file steps
    → is_file_name word ≡ true
first_names word words file steps (plain is named by) =
    let same : word ≡ file = cc is in ap is_file_name same ∙ named
first_names word words file steps (within option is named by) =
    let same : word ≡ file = cc is in ap is_file_name same ∙ named

-- the second names the steps, and is the last
second_names : (word option : List ℕ) (words : List (List ℕ)) (file : List ℕ) (steps : ℕ) → AsksToList (word ∷ option ∷ words) file steps
    → (steps_in option ≡ Some steps) × (words ≡ [])
second_names word option words file steps (plain is named by) = cc is
second_names word option words file steps (within other is named by) =
    let same : option ≡ other = cc is in
    let last : words ≡ [] = cc is in
    (ap steps_in same ∙ option_is other steps by, last)

-- ---- the walk along words

-- words are a request, or their plan tells their bad word
abbrev FoundIn : List (List ℕ) → Type 0
FoundIn words = Found IsRequest words (λ k. all_plan words ≡ bad_word_plan k)

nothing_begins : Begins IsRequest []
nothing_begins = (codes "a" ∷ [], (codes "a", default_steps, plain refl refl refl))

no_words : IsRequest [] → ⊥
no_words (file, steps, asks) = none_asked file steps asks

module _ (file : List ℕ) (named : is_file_name file ≡ true) where
  file_alone : IsRequest (file ∷ [])
  file_alone = (file, default_steps, plain refl named refl)

  -- so words behind the file go on
  behind_file : (options : List (List ℕ)) → all_plan (file ∷ options) ≡ with_options file options
  behind_file options = ap (λ b. with_file b file options) named

  options_found : (option : List ℕ) (more : List (List ℕ)) (steps : Option ℕ) → steps_in option ≡ steps → FoundIn (file ∷ option ∷ more)
  options_found option more None e =
      inr (
        2,
        bad_behind IsRequest (file ∷ []) option more (asks_begins IsRequest (file ∷ []) file_alone)
            (λ begins. cc (sym e ∙ (second_names file option begins.0 begins.1.0 begins.1.1 begins.1.2).0)),
        behind_file (option ∷ more) ∙ ap (λ o. with_steps file o more) e,
      )
  options_found option [] (Some steps) e = inl (file, steps, within option refl named (is_option option steps e))
  options_found option (word ∷ more) (Some steps) e =
      let all : IsRequest (file ∷ option ∷ []) = (file, steps, within option refl named (is_option option steps e)) in
      inr (
        3,
        bad_behind IsRequest (file ∷ option ∷ []) word more (asks_begins IsRequest (file ∷ option ∷ []) all)
            (λ begins. cc (second_names file option (word ∷ begins.0) begins.1.0 begins.1.1 begins.1.2).1),
        behind_file (option ∷ word ∷ more) ∙ ap (λ o. with_steps file o (word ∷ more)) e,
      )

  behind_found : (options : List (List ℕ)) → FoundIn (file ∷ options)
  behind_found [] = inl file_alone
  behind_found (option ∷ more) = options_found option more (steps_in option) refl

words_found : (words : List (List ℕ)) → FoundIn words
words_found [] = inr (1, bad_end IsRequest [] nothing_begins no_words, refl)
words_found (file ∷ options) = by (is_file_name file) refl
  where
    by : (named : Bool) → is_file_name file ≡ named → FoundIn (file ∷ options)
    by true named = behind_found file named options
    by false named =
        inr (
          1,
          bad_behind IsRequest [] file options nothing_begins
              (λ begins. cc (sym named ∙ first_names file begins.0 begins.1.0 begins.1.1 begins.1.2)),
          ap (λ b. with_file b file options) named,
        )

pub bad_word_is : (words : List (List ℕ)) (k : ℕ) → IsBadWord IsRequest words k → all_plan words ≡ bad_word_plan k
bad_word_is words k is = found.bad_is_told IsRequest words (λ k. all_plan words ≡ bad_word_plan k) (words_found words) k is

pub one_of_both : (words : List (List ℕ)) → IsRequest words ⊎ ((k : ℕ) × IsBadWord IsRequest words k)
one_of_both words = found.one_of_both IsRequest words (λ k. all_plan words ≡ bad_word_plan k) (words_found words)
