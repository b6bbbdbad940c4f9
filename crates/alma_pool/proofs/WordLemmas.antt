-- Words that name a file of turns and objects, or have a bad word.
use Rattle.std.proofs.Common.{◌≡◌, ◌<◌, ◌≤◌, ◌+◌, ◌∙◌, ℕ, suc, List, [], ◌∷◌, ◌++◌, length, refl, sym, ap, subst, inl, inr, arith}
use Rattle.std.proofs.Common.{append_assoc}
use Rattle.std.proofs.lemmas.Bool.{and_parts, cases_lt, lt-ltb, le-ltb, ltb-true}
use Rattle.std.proofs.lemmas.List.{append-nil, length-append}
use Rattle.std.specs.Prelude.{◌⊎◌, Bool, true, false, ◌&&◌, Option, None, Some, ltb, cond, codes}
use Rattle.alma_plan.specs.Plan.{Ends, bad_word, silent}
use Rattle.alma_driver_words.specs.BadWords.{Begins, IsBadWord}
use Rattle.alma_driver_words.specs.Words.{AreFileNames, is_file_name}
use Rattle.alma_driver_words.proofs.BadWords.{Found, bad_behind, bad_end, bad_is_told, one_of_both}
use Rattle.alma_plan.specs.Words.{bad_file, greatest_files}
use Rattle.alma_pool.specs.Due.{program, fetch_plan, words_plan, pool_plan}
use Rattle.alma_pool.specs.Words.{AsksToPlay, IsRequest}

-- ---- names of files

names_append : (front words : List (List ℕ)) → AreFileNames front → AreFileNames words → AreFileNames (front ++ words)
names_append [] words a b = b
names_append (word ∷ front) words a b = (a.0, names_append front words a.1 b)

name_behind : (front : List (List ℕ)) (word : List ℕ) (words : List (List ℕ)) → AreFileNames (front ++ word ∷ words)
    → is_file_name word ≡ true
name_behind [] word words are = are.0
name_behind (first ∷ front) word words are = name_behind front word words are.1

-- ---- requests

-- from 2 to 17 names are a request
names_request : (words : List (List ℕ)) → AreFileNames words → 2 ≤ length words → length words ≤ 1 + greatest_files
    → IsRequest words
names_request [] names some few = absurd (omega (arith, some))
names_request (turns ∷ objects) names some few =
    (turns, objects, record { are = refl; names = names; some = omega (arith, some); few = omega (arith, few) })

-- how many words a request has
request_count : (words : List (List ℕ)) → IsRequest words → (2 ≤ length words) × (length words ≤ 1 + greatest_files)
request_count words r =
    let count : length words ≡ suc (length r.1) = ap (λ (xs : List (List ℕ)). length xs) r.2.are in
    (omega (arith, count, r.2.some), omega (arith, count, r.2.few))

-- a name
a_name : List ℕ
a_name = codes "a"

-- up to 17 names begin a request
names_begin : (words : List (List ℕ)) → AreFileNames words → length words ≤ 1 + greatest_files → Begins IsRequest words
unfolding a_name
names_begin [] names few =
    (a_name ∷ a_name ∷ [], names_request (a_name ∷ a_name ∷ []) (refl, (refl, tt)) (omega arith) (omega arith))
names_begin (one ∷ []) names few =
    (a_name ∷ [], names_request (one ∷ a_name ∷ []) (names.0, (refl, tt)) (omega arith) (omega arith))
names_begin (one ∷ other ∷ words) names few =
    ([], subst IsRequest (sym (append-nil (one ∷ other ∷ words))) (names_request (one ∷ other ∷ words) names (omega arith) few))

-- what begins a request with a word behind others has a name there, and few words before it
begins_good : (front : List (List ℕ)) (word : List ℕ) → Begins IsRequest (front ++ word ∷ [])
    → (is_file_name word ≡ true) × (length front < 1 + greatest_files)
begins_good front word h =
    let all : (front ++ word ∷ []) ++ h.0 ≡ front ++ word ∷ h.0 = append_assoc front (word ∷ []) h.0 in (
      name_behind front word h.0 (subst AreFileNames all h.1.2.names),
      omega (
        arith,
        (request_count ((front ++ word ∷ []) ++ h.0) h.1).1,
        ap (λ (xs : List (List ℕ)). length xs) all,
        length-append front (word ∷ h.0),
      ),
    )

-- ---- the walk of the plan along the words

-- the number of the bad word that it finds
abbrev IsTold : (seen : ℕ) → (words : List (List ℕ)) → (k : ℕ) → Type 0
IsTold seen words k = bad_file 1 seen words ≡ Some k

-- the words have an end there
walk_end : (front : List (List ℕ)) → AreFileNames front → length front ≤ 1 + greatest_files
    → Found IsRequest front (IsTold (length front) [])
walk_end front names few = by (cases_lt (length front) 2)
  where
    by : (length front < 2) ⊎ (2 ≤ length front) → Found IsRequest front (IsTold (length front) [])
    by (inl less) =
        let told : bad_file 1 (length front) [] ≡ Some (length front + 1) =
        ap (λ (b : Bool). cond b None (Some (length front + 1))) (le-ltb 1 (length front) (omega (arith, less))) in
        inr (
          length front + 1,
          bad_end IsRequest front (names_begin front names few) (λ r. omega (arith, less, (request_count front r).0)),
          told,
        )
    by (inr some) = inl (names_request front names some few)

-- a word cannot stand there
walk_bad : (front : List (List ℕ)) (word : List ℕ) (rest : List (List ℕ)) → AreFileNames front → length front ≤ 1 + greatest_files
    → is_file_name word && ltb (length front) (1 + greatest_files) ≡ false
    → IsBadWord IsRequest (front ++ word ∷ rest) (length front + 1)
walk_bad front word rest names few bad =
    bad_behind IsRequest front word rest (names_begin front names few) (λ h.
    let good = begins_good front word h in
    let both : is_file_name word && ltb (length front) (1 + greatest_files) ≡ true =
    ap (λ (b : Bool). b && ltb (length front) (1 + greatest_files)) good.0 ∙ lt-ltb (length front) (1 + greatest_files) good.1 in
    cc (both, bad))

-- the words are those in front, which are names, and those behind them
walk : (all front words : List (List ℕ)) (seen : ℕ) → all ≡ front ++ words → seen ≡ length front → AreFileNames front
    → seen ≤ 1 + greatest_files → Found IsRequest all (IsTold seen words)
walk all front [] seen e count names few =
    subst (λ (xs : List (List ℕ)). Found IsRequest xs (IsTold seen [])) (sym (e ∙ append-nil front))
    (subst (λ (n : ℕ). Found IsRequest front (IsTold n [])) (sym count) (walk_end front names (omega (arith, few, count))))
walk all front (word ∷ rest) seen e count names few =
    by (is_file_name word && ltb seen (1 + greatest_files)) refl (λ name room.
    walk all (front ++ word ∷ []) rest (seen + 1) (e ∙ sym (append_assoc front (word ∷ []) rest))
    (omega (arith, count, length-append front (word ∷ []))) (names_append front (word ∷ []) names (name, tt)) (omega (arith, room)))
  where
    by : (good : Bool) → is_file_name word && ltb seen (1 + greatest_files) ≡ good
        → (is_file_name word ≡ true → seen < 1 + greatest_files → Found IsRequest all (IsTold (seen + 1) rest))
        → Found IsRequest all (λ k. cond good (bad_file 1 (seen + 1) rest) (Some (seen + 1)) ≡ Some k)
    by true is next =
        let parts = and_parts (is_file_name word) (ltb seen (1 + greatest_files)) is in
        next parts.0 (ltb-true seen (1 + greatest_files) parts.1)
    by false is next =
        let bad = walk_bad front word rest names (omega (arith, few, count))
        (subst (λ (n : ℕ). is_file_name word && ltb n (1 + greatest_files) ≡ false) count is) in
        inr (
          seen + 1,
          subst (λ (n : ℕ). IsBadWord IsRequest all (n + 1)) (sym count)
              (subst (λ (xs : List (List ℕ)). IsBadWord IsRequest xs (length front + 1)) (sym e) bad),
          refl,
        )

found : (words : List (List ℕ)) → Found IsRequest words (IsTold 0 words)
found words = walk words [] words 0 refl refl tt (omega arith)

-- ---- the law

-- names, as many as a request has
no_bad_word : (seen : ℕ) (words : List (List ℕ)) → AreFileNames words → 2 ≤ seen + length words
    → seen + length words ≤ 1 + greatest_files → bad_file 1 seen words ≡ None
no_bad_word seen [] names some few = ap (λ (b : Bool). cond b None (Some (seen + 1))) (lt-ltb 1 seen (omega (arith, some)))
no_bad_word seen (word ∷ words) names some few =
    let rest = bad_file 1 (seen + 1) words in
    ap (λ (b : Bool). cond (b && ltb seen (1 + greatest_files)) rest (Some (seen + 1))) names.0
    ∙ ap (λ (b : Bool). cond b rest (Some (seen + 1))) (lt-ltb seen (1 + greatest_files) (omega (arith, few)))
    ∙ no_bad_word (seen + 1) words names.1 (omega (arith, some)) (omega (arith, few))

pub request_planned : (words objects : List (List ℕ)) (turns : List ℕ) → AsksToPlay words turns objects
    → pool_plan words ≡ fetch_plan (turns ∷ objects)
request_planned words objects turns a =
    let count = request_count words (turns, objects, a) in
    ap (λ (bad : Option ℕ). words_plan bad words) (no_bad_word 0 words a.names (omega (arith, count.0)) (omega (arith, count.1)))
    ∙ ap (λ (all : List (List ℕ)). fetch_plan all) a.are

pub bad_word_planned : (words : List (List ℕ)) (k : ℕ) → IsBadWord IsRequest words k
    → pool_plan words ≡ Ends (silent (bad_word program k))
bad_word_planned words k bad =
    ap (λ (told : Option ℕ). words_plan told words) (bad_is_told IsRequest words (IsTold 0 words) (found words) k bad)

pub request_or_bad : (words : List (List ℕ)) → IsRequest words ⊎ ((k : ℕ) × IsBadWord IsRequest words k)
request_or_bad words = one_of_both IsRequest words (IsTold 0 words) (found words)
