-- Words are a request, or have a first bad word.
use Rattle.std.proofs.Common.{◌≡◌, ◌∙◌, ◌<◌, ◌≤◌, ◌+◌, ℕ, List, [], ◌∷◌, ◌++◌, length, refl, ap, sym, subst, inl, inr, arith}
use Rattle.std.proofs.lemmas.Bool.{cases_lt, le-ltb, lt-ltb, ltb-true, and_parts}
use Rattle.std.proofs.lemmas.List.{append_assoc, append-nil, length-append}
use Rattle.std.proofs.lemmas.Slice.Eq.{bytes_eq-Decides}
use Rattle.std.specs.Prelude.{◌⊎◌, Bool, true, false, ◌&&◌, codes, cond, ltb, Option, None, Some, Result, Ok, Err}
use Rattle.std.specs.Str.{bytes_eq}
use Rattle.alma_driver_words.specs.BadWords.{Begins, IsBadWord}
use Rattle.alma_driver_words.specs.Words.{AreFileNames, is_file_name}
use Rattle.alma_driver_words.proofs.BadWords.{asks_begins, bad_behind, bad_end, one_bad_word}
use Rattle.alma_plan.specs.Words.{bad_file, greatest_files}
use Rattle.alma_link.specs.Words.{Task, Run, Compile, Request, request, unless_bad, with_files, compile_request}
use Rattle.alma_link.specs.Words.{request_behind, request_of, AreFiles, AsksForTask, AsksFor, IsRequest}

-- what reading words answers: the request that they are, or their bad word
abbrev Reads : List (List ℕ) → Result Request ℕ → Type 0
Reads words (Ok r) = AsksFor words r
Reads words (Err k) = IsBadWord IsRequest words k

-- the parts of equal lists of words
first_same : (word other : List ℕ) (words others : List (List ℕ)) → word ∷ words ≡ other ∷ others → word ≡ other
first_same word other words others e = cc e

rest_same : (word other : List ℕ) (words others : List (List ℕ)) → word ∷ words ≡ other ∷ others → words ≡ others
rest_same word other words others e = cc e

-- the two first words differ
not_both : codes "run" ≡ codes "compile" → ⊥
not_both e = absurd (omega (arith, ap (λ (word : List ℕ). length word) e))

-- ---- lists of files

names_more : (got : List (List ℕ)) (word : List ℕ) → AreFileNames got → is_file_name word ≡ true → AreFileNames (got ++ word ∷ [])
names_more [] word names good = (good, tt)
names_more (file ∷ got) word names good = (names.0, names_more got word names.1 good)

names_at : (got more : List (List ℕ)) (word : List ℕ) → AreFileNames (got ++ word ∷ more) → is_file_name word ≡ true
names_at [] more word names = names.0
names_at (file ∷ got) more word names = names_at got more word names.1

one_file : AreFiles (codes "a" ∷ [])
one_file = record { names = (refl, tt); some = omega arith; few = omega arith }

-- ---- the files behind the words of a task

module _ (task : Task) (head : List (List ℕ)) (before : ℕ) (sized : length head ≡ before)
    (forth : (files : List (List ℕ)) → AreFiles files → AsksForTask (head ++ files) task files)
    (back : (files : List (List ℕ)) → IsRequest (head ++ files) → AreFiles files) where
  -- the files are some, or a word that stands behind the task's is bad
  abbrev ReadsFiles : List (List ℕ) → Option ℕ → Type 0
  ReadsFiles files None = AreFiles files
  ReadsFiles files (Some k) = IsBadWord IsRequest (head ++ files) k

  files_begin : (files : List (List ℕ)) → AreFileNames files → length files ≤ greatest_files → Begins IsRequest (head ++ files)
  files_begin [] names few = (
    codes "a" ∷ [],
    (
      request task (codes "a" ∷ []),
      subst (λ (words : List (List ℕ)). AsksForTask words task (codes "a" ∷ []))
          (sym (append_assoc head [] (codes "a" ∷ []))) (forth (codes "a" ∷ []) one_file),
    ),
  )
  files_begin (file ∷ files) names few =
      asks_begins IsRequest (head ++ file ∷ files)
      (request task (file ∷ files), forth (file ∷ files) (record { names = names; some = omega arith; few = few }))

  -- no request goes on behind files with a word that is no file, or one too many
  no_more_files : (got : List (List ℕ)) (word : List ℕ) → is_file_name word && ltb (length got) greatest_files ≡ false
      → Begins IsRequest ((head ++ got) ++ word ∷ []) → ⊥
  no_more_files got word bad (more, asks) =
      let words : ((head ++ got) ++ word ∷ []) ++ more ≡ head ++ (got ++ word ∷ more) =
      append_assoc (head ++ got) (word ∷ []) more ∙ append_assoc head got (word ∷ more) in
      let files = back (got ++ word ∷ more) (subst IsRequest words asks) in
      let few : length got < greatest_files = omega (arith, files.few, length-append got (word ∷ more)) in
      cc (sym bad ∙ ap (λ (b : Bool). b && ltb (length got) greatest_files) (names_at got more word files.names)
      ∙ lt-ltb (length got) greatest_files few)

  -- one file more is one too many, where so many words are
  same_test : (n : ℕ) → ltb (before + n) (before + greatest_files) ≡ ltb n greatest_files
  same_test n = by (cases_lt n greatest_files)
    where
      by : (n < greatest_files) ⊎ (greatest_files ≤ n) → ltb (before + n) (before + greatest_files) ≡ ltb n greatest_files
      by (inl less) = lt-ltb (before + n) (before + greatest_files) (omega (arith, less)) ∙ sym (lt-ltb n greatest_files less)
      by (inr more) = le-ltb (before + n) (before + greatest_files) (omega (arith, more)) ∙ sym (le-ltb n greatest_files more)

  -- the walk along the files, behind those that were seen
  read_files : (got rest : List (List ℕ)) → AreFileNames got → length got ≤ greatest_files
      → ReadsFiles (got ++ rest) (bad_file before (before + length got) rest)
  read_files got [] names few = by (cases_lt before (before + length got))
    where
      by : (before < before + length got) ⊎ (before + length got ≤ before)
          → ReadsFiles (got ++ []) (cond (ltb before (before + length got)) None (Some (before + length got + 1)))
      by (inl some) = rw (lt-ltb before (before + length got) some)
          (subst AreFiles (sym (append-nil got)) (record { names = names; some = omega (arith, some); few = few }))
      by (inr none) = rw (le-ltb before (before + length got) none)
          (subst (λ (files : List (List ℕ)). IsBadWord IsRequest (head ++ files) (before + length got + 1)) (sym (append-nil got))
          (subst (λ (k : ℕ). IsBadWord IsRequest (head ++ got) k) (omega (arith, sized, length-append head got))
          (bad_end IsRequest (head ++ got) (files_begin got names few)
          (λ asks. let files = back got asks in omega (arith, files.some, none)))))
  read_files got (word ∷ rest) names few =
      by (is_file_name word && ltb (before + length got) (before + greatest_files)) refl (read_files (got ++ word ∷ []) rest)
    where
      by : (good : Bool) → is_file_name word && ltb (before + length got) (before + greatest_files) ≡ good
          → (AreFileNames (got ++ word ∷ []) → length (got ++ word ∷ []) ≤ greatest_files
          → ReadsFiles ((got ++ word ∷ []) ++ rest) (bad_file before (before + length (got ++ word ∷ [])) rest))
          → ReadsFiles (got ++ word ∷ rest) (cond good (bad_file before (before + length got + 1) rest) (Some (before + length got + 1)))
      by true is more =
          let parts = and_parts (is_file_name word) (ltb (before + length got) (before + greatest_files)) is in
          let room = ltb-true (before + length got) (before + greatest_files) parts.1 in
          let one : length (got ++ word ∷ []) ≡ length got + 1 = length-append got (word ∷ []) in
          let count : before + length (got ++ word ∷ []) ≡ before + length got + 1 = omega (arith, one) in
          subst (λ (files : List (List ℕ)). ReadsFiles files (bad_file before (before + length got + 1) rest))
          (append_assoc got (word ∷ []) rest)
          (subst (λ (seen : ℕ). ReadsFiles ((got ++ word ∷ []) ++ rest) (bad_file before seen rest)) count
          (more (names_more got word names parts.0) (omega (arith, room, one))))
      by false is more =
          let behind : (head ++ got) ++ word ∷ rest ≡ head ++ (got ++ word ∷ rest) = append_assoc head got (word ∷ rest) in
          subst (λ (words : List (List ℕ)). IsBadWord IsRequest words (before + length got + 1)) behind
          (subst (λ (k : ℕ). IsBadWord IsRequest ((head ++ got) ++ word ∷ rest) k) (omega (arith, sized, length-append head got))
          (bad_behind IsRequest (head ++ got) word rest (files_begin got names few)
          (no_more_files got word (ap (λ (b : Bool). is_file_name word && b) (sym (same_test (length got))) ∙ is))))

  reads_with : (files : List (List ℕ)) (found : Option ℕ) → ReadsFiles files found
      → Reads (head ++ files) (unless_bad found (request task files))
  reads_with files None are = forth files are
  reads_with files (Some k) bad = bad

  read_with : (files : List (List ℕ)) → Reads (head ++ files) (with_files before task files)
  read_with files = reads_with files (bad_file before before files)
      (subst (λ (seen : ℕ). ReadsFiles files (bad_file before seen files)) (omega arith) (read_files [] files tt (omega arith)))

-- ---- `run`

-- words behind it that ask for something are files
run_files : (files : List (List ℕ)) (t : Task) (others : List (List ℕ)) → AsksForTask (codes "run" ∷ files) t others → AreFiles files
run_files files Run others asks =
    subst AreFiles (sym (rest_same (codes "run") (codes "run") files others asks.0)) asks.1
run_files files (Compile object) others asks = absurd (not_both (first_same (codes "run") (codes "compile") files (object ∷ others) asks.0))

read_run : (files : List (List ℕ)) → Reads (codes "run" ∷ files) (with_files 1 Run files)
read_run files =
    read_with Run (codes "run" ∷ []) 1 refl (λ found are. (refl, are)) (λ found asks. run_files found asks.0.task asks.0.files asks.1) files

-- ---- `compile`

-- words behind it that ask for something are an object and files
compile_files : (words : List (List ℕ)) (t : Task) (others : List (List ℕ)) → AsksForTask (codes "compile" ∷ words) t others
    → (object : List ℕ) × (files : List (List ℕ)) × (words ≡ object ∷ files) × (is_file_name object ≡ true) × AreFiles files
compile_files words Run others asks = absurd (not_both (sym (first_same (codes "compile") (codes "run") words others asks.0)))
compile_files words (Compile object) others asks =
    (object, others, rest_same (codes "compile") (codes "compile") words (object ∷ others) asks.0, asks.1, asks.2)

behind_object : (object : List ℕ) (files : List (List ℕ)) → IsRequest (codes "compile" ∷ object ∷ files)
    → (is_file_name object ≡ true) × AreFiles files
behind_object object files (r, asks) =
    let found = compile_files (object ∷ files) r.task r.files asks in (
      subst (λ (word : List ℕ). is_file_name word ≡ true) (sym (first_same object found.0 files found.1 found.2)) found.3,
      subst AreFiles (sym (rest_same object found.0 files found.1 found.2)) found.4,
    )

compile_begins : Begins IsRequest (codes "compile" ∷ [])
compile_begins = (codes "a" ∷ codes "a" ∷ [], (request (Compile (codes "a")) (codes "a" ∷ []), (refl, refl, one_file)))

none_behind : IsRequest (codes "compile" ∷ []) → ⊥
none_behind (r, asks) = let found = compile_files [] r.task r.files asks in cc found.2

read_compile : (words : List (List ℕ)) → Reads (codes "compile" ∷ words) (compile_request words)
read_compile [] = bad_end IsRequest (codes "compile" ∷ []) compile_begins none_behind
read_compile (object ∷ files) = by (is_file_name object) refl
  where
    by : (good : Bool) → is_file_name object ≡ good
        → Reads (codes "compile" ∷ object ∷ files) (cond good (with_files 2 (Compile object) files) (Err 2))
    by true is = read_with (Compile object) (codes "compile" ∷ object ∷ []) 2 refl (λ found are. (refl, is, are))
        (λ found asks. (behind_object object found asks).1) files
    by false is =
        bad_behind IsRequest (codes "compile" ∷ []) object files compile_begins
        (λ begins. cc (sym is ∙ (behind_object object begins.0 begins.1).0))

-- ---- all words

nothing_begins : Begins IsRequest []
nothing_begins = (codes "run" ∷ codes "a" ∷ [], (request Run (codes "a" ∷ []), (refl, one_file)))

-- a request has a first word, which is that of its task
has_first : (words : List (List ℕ)) (t : Task) (files : List (List ℕ)) → AsksForTask words t files
    → (word : List ℕ) × (rest : List (List ℕ)) × (words ≡ word ∷ rest) × ((word ≡ codes "run") ⊎ (word ≡ codes "compile"))
has_first words Run files asks = (codes "run", files, asks.0, inl refl)
has_first words (Compile object) files asks = (codes "compile", object ∷ files, asks.0, inr refl)

no_words : IsRequest [] → ⊥
no_words (r, asks) = let found = has_first [] r.task r.files asks in cc found.2

first_is : (word : List ℕ) (words : List (List ℕ)) → IsRequest (word ∷ words) → (word ≡ codes "run") ⊎ (word ≡ codes "compile")
first_is word words (r, asks) =
    let found = has_first (word ∷ words) r.task r.files asks in
    subst (λ (first : List ℕ). (first ≡ codes "run") ⊎ (first ≡ codes "compile"))
    (sym (first_same word found.0 words found.1 found.2)) found.3

read_words : (words : List (List ℕ)) → Reads words (request_of words)
read_words [] = bad_end IsRequest [] nothing_begins no_words
read_words (word ∷ words) = by (bytes_eq word (codes "run")) (bytes_eq word (codes "compile")) refl refl
  where
    neither : bytes_eq word (codes "run") ≡ false → bytes_eq word (codes "compile") ≡ false
        → (word ≡ codes "run") ⊎ (word ≡ codes "compile") → ⊥
    neither run compile (inl is) = cc (sym run ∙ (bytes_eq-Decides word (codes "run")).1 is)
    neither run compile (inr is) = cc (sym compile ∙ (bytes_eq-Decides word (codes "compile")).1 is)

    by : (is_run is_compile : Bool) → bytes_eq word (codes "run") ≡ is_run → bytes_eq word (codes "compile") ≡ is_compile
        → Reads (word ∷ words) (request_behind is_run is_compile words)
    by true is_compile run compile =
        subst (λ (first : List ℕ). Reads (first ∷ words) (with_files 1 Run words)) (sym ((bytes_eq-Decides word (codes "run")).0 run))
        (read_run words)
    by false true run compile =
        subst (λ (first : List ℕ). Reads (first ∷ words) (compile_request words))
        (sym ((bytes_eq-Decides word (codes "compile")).0 compile)) (read_compile words)
    by false false run compile =
        bad_behind IsRequest [] word words nothing_begins (λ begins. neither run compile (first_is word begins.0 begins.1))

-- ---- words have one answer

-- words are one request
same_task : (words : List (List ℕ)) (t u : Task) (files others : List (List ℕ)) → AsksForTask words t files → AsksForTask words u others
    → request t files ≡ request u others
same_task words Run Run files others a b =
    ap (request Run) (rest_same (codes "run") (codes "run") files others (sym a.0 ∙ b.0))
same_task words Run (Compile object) files others a b =
    absurd (not_both (first_same (codes "run") (codes "compile") files (object ∷ others) (sym a.0 ∙ b.0)))
same_task words (Compile object) Run files others a b =
    absurd (not_both (first_same (codes "run") (codes "compile") others (object ∷ files) (sym b.0 ∙ a.0)))
same_task words (Compile object) (Compile other) files others a b =
    let rest = rest_same (codes "compile") (codes "compile") (object ∷ files) (other ∷ others) (sym a.0 ∙ b.0) in
    ap (λ (name : List ℕ). request (Compile name) files) (first_same object other files others rest)
    ∙ ap (request (Compile other)) (rest_same object other files others rest)

pub request_is : (words : List (List ℕ)) (r : Request) → AsksFor words r → request_of words ≡ Ok r
request_is words r asks = by (request_of words) (read_words words)
  where
    by : (answer : Result Request ℕ) → Reads words answer → answer ≡ Ok r
    by (Ok other) is = ap Ok (same_task words other.task r.task other.files r.files is asks)
    by (Err k) bad = absurd (bad.none (r, asks))

pub bad_word_is : (words : List (List ℕ)) (k : ℕ) → IsBadWord IsRequest words k → request_of words ≡ Err k
bad_word_is words k bad = by (request_of words) (read_words words)
  where
    by : (answer : Result Request ℕ) → Reads words answer → answer ≡ Err k
    by (Ok r) asks = absurd (bad.none (r, asks))
    by (Err other) is = ap Err (one_bad_word IsRequest words other k is bad)

pub one_of_both : (words : List (List ℕ)) → IsRequest words ⊎ ((k : ℕ) × IsBadWord IsRequest words k)
one_of_both words = by (request_of words) (read_words words)
  where
    by : (answer : Result Request ℕ) → Reads words answer → IsRequest words ⊎ ((k : ℕ) × IsBadWord IsRequest words k)
    by (Ok r) asks = inl (r, asks)
    by (Err k) bad = inr (k, bad)
