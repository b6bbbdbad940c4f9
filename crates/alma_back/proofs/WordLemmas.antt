-- Words that ask to walk, and those that have a first bad word.
use Rattle.std.proofs.Common.{◌≡◌, ◌∙◌, ℕ, List, [], ◌∷◌, refl, ap, subst, inl, inr}
use Rattle.std.specs.Prelude.{◌⊎◌, Bool, true, false, codes, cond}
use Rattle.alma_driver_words.specs.BadWords.{Begins, IsBadWord}
use Rattle.alma_driver_words.specs.Words.{AreFileNames, is_file_name}
use Rattle.alma_driver_words.proofs.BadWords.{Found, bad_behind, bad_end, bad_is_told, one_of_both}
use Rattle.alma_back.specs.Due.{fetch_plan, back_plan, bad_word_plan, with_script}
use Rattle.alma_back.specs.Words.{AsksToWalk, IsRequest}

-- ---- the plan of a request

pub request_plan : (words : List (List ℕ)) (object script : List ℕ) → AsksToWalk words object script
    → back_plan words ≡ fetch_plan object script
request_plan words object script asks =
    let names : AreFileNames (object ∷ script ∷ []) = subst AreFileNames asks.are asks.names in
    ap back_plan asks.are ∙ ap (λ b. cond b (with_script object (script ∷ [])) (bad_word_plan 1)) names.0
    ∙ ap (λ b. cond b (fetch_plan object script) (bad_word_plan 2)) names.1.0

-- ---- words that begin a request

-- a name
abbrev some : List ℕ
some = codes "a"

begins_none : Begins IsRequest []
begins_none = (some ∷ some ∷ [], (some, some, record { are = refl; names = (refl, (refl, tt)) }))

begins_object : (object : List ℕ) → is_file_name object ≡ true → Begins IsRequest (object ∷ [])
begins_object object named = (some ∷ [], (object, some, record { are = refl; names = (named, (refl, tt)) }))

asks_both : (object script : List ℕ) → is_file_name object ≡ true → is_file_name script ≡ true → IsRequest (object ∷ script ∷ [])
asks_both object script named too = (object, script, record { are = refl; names = (named, (too, tt)) })

-- ---- words that are none

first_unnamed : (object : List ℕ) (rest : List (List ℕ)) → is_file_name object ≡ false → IsRequest (object ∷ rest) → ⊥
first_unnamed object rest unnamed asks = cc (asks.2.names.0, unnamed)

second_unnamed : (object script : List ℕ) (rest : List (List ℕ)) → is_file_name script ≡ false → IsRequest (object ∷ script ∷ rest) → ⊥
second_unnamed object script rest unnamed asks = cc (asks.2.names.1.0, unnamed)

too_many : (object script word : List ℕ) (rest : List (List ℕ)) → IsRequest (object ∷ script ∷ word ∷ rest) → ⊥
too_many object script word rest asks = cc asks.2.are

none_asks : IsRequest [] → ⊥
none_asks asks = cc asks.2.are

one_asks : (object : List ℕ) → IsRequest (object ∷ []) → ⊥
one_asks object asks = cc asks.2.are

-- ---- the walk of the plan over words

-- the plan tells that bad word
abbrev Tells : (words : List (List ℕ)) → (k : ℕ) → Type 0
Tells words k = back_plan words ≡ bad_word_plan k

-- the words ask to walk, or have a first bad word, which their plan tells
abbrev Asked : (words : List (List ℕ)) → Type 0
Asked words = Found IsRequest words (Tells words)

module _ (object : List ℕ) (named : is_file_name object ≡ true) where
  -- behind an object's name the plan goes by the other words
  past : (words : List (List ℕ)) → back_plan (object ∷ words) ≡ with_script object words
  past words = ap (λ b. cond b (with_script object words) (bad_word_plan 1)) named

  second_bad : (script : List ℕ) (words : List (List ℕ)) → is_file_name script ≡ false → IsBadWord IsRequest (object ∷ script ∷ words) 2
  second_bad script words unnamed =
      bad_behind IsRequest (object ∷ []) script words (begins_object object named)
      (λ begins. second_unnamed object script begins.0 unnamed begins.1)

  two_asked : (script : List ℕ) (b : Bool) → is_file_name script ≡ b → Asked (object ∷ script ∷ [])
  two_asked script true e = inl (asks_both object script named e)
  two_asked script false e =
      inr (2, second_bad script [] e, past (script ∷ []) ∙ ap (λ b. cond b (fetch_plan object script) (bad_word_plan 2)) e)

  more_asked : (script word : List ℕ) (words : List (List ℕ)) (b : Bool) → is_file_name script ≡ b → Asked (object ∷ script ∷ word ∷ words)
  more_asked script word words true e = inr (
    3,
    bad_behind IsRequest (object ∷ script ∷ []) word words ([], asks_both object script named e)
        (λ begins. too_many object script word begins.0 begins.1),
    past (script ∷ word ∷ words) ∙ ap (λ b. cond b (bad_word_plan 3) (bad_word_plan 2)) e,
  )
  more_asked script word words false e =
      inr (2, second_bad script (word ∷ words) e, past (script ∷ word ∷ words) ∙ ap (λ b. cond b (bad_word_plan 3) (bad_word_plan 2)) e)

  named_asked : (words : List (List ℕ)) → Asked (object ∷ words)
  named_asked [] = inr (2, bad_end IsRequest (object ∷ []) (begins_object object named) (one_asks object), past [])
  named_asked (script ∷ []) = two_asked script (is_file_name script) refl
  named_asked (script ∷ word ∷ words) = more_asked script word words (is_file_name script) refl

all_asked : (words : List (List ℕ)) → Asked words
all_asked [] = inr (1, bad_end IsRequest [] begins_none none_asks, refl)
all_asked (object ∷ words) = by (is_file_name object) refl
  where
    by : (b : Bool) → is_file_name object ≡ b → Asked (object ∷ words)
    by true e = named_asked object e words
    by false e = inr (
      1,
      bad_behind IsRequest [] object words begins_none (λ begins. first_unnamed object begins.0 e begins.1),
      ap (λ b. cond b (with_script object words) (bad_word_plan 1)) e,
    )

-- ---- what is said of words

pub bad_plan : (words : List (List ℕ)) (k : ℕ) → IsBadWord IsRequest words k → back_plan words ≡ bad_word_plan k
bad_plan words k is = bad_is_told IsRequest words (Tells words) (all_asked words) k is

pub asked_or_bad : (words : List (List ℕ)) → IsRequest words ⊎ ((k : ℕ) × IsBadWord IsRequest words k)
asked_or_bad words = one_of_both IsRequest words (Tells words) (all_asked words)
