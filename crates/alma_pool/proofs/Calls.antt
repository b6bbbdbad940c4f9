-- What a call shows whose words ask that programs take turns.
use Rattle.std.proofs.Common.{◌≡◌, ◌≤◌, ◌∙◌, ℕ, List, [], ◌∷◌, ◌++◌, length, refl, sym, ap, subst, append_assoc}
use Rattle.std.proofs.lemmas.List.{append-nil}
use Rattle.std.specs.Prelude.{Bool, true, false, Option, None, Some, Result, Ok, Err}
use Rattle.std.specs.List.{list_any}
use Rattle.alma_base.specs.Limits.{input_limit, object_limit}
use Rattle.alma_code.specs.Plain.{PlainCode}
use Rattle.alma_code.specs.Reads.{code_reads}
use Rattle.alma_io.specs.Files.{Told, Missing, Has}
use Rattle.alma_ir.specs.Tree.{Program}
use Rattle.alma_lower_sound.specs.Reads.{program_reads}
use Rattle.alma_plan.specs.Causes.{Causes}
use Rattle.alma_io.specs.Outside.{Outside, IsUndisturbed}
use Rattle.alma_plan.specs.Plan.{Due, Ending, Plan, Reading, Asks, Comes, plain, prints}
use Rattle.alma_plan.specs.Undisturbed.{ShowsDue}
use Rattle.alma_plan.proofs.SpelledObjects.{spelled_short}
use Rattle.alma_plan.proofs.ToldLemmas.{fetch_asks, fetch_comes, read_comes}
use Rattle.alma_plan.proofs.UndisturbedLemmas.{call_shows_due}
use Rattle.alma_pool.specs.Due.{program, turns_limit, turns_in, bad_turn_behind, pool_text, open_objects, play_on_plan, play_plan}
use Rattle.alma_pool.specs.Due.{unless_bad_turn}
use Rattle.alma_pool.specs.Due.{play_files_plan}
use Rattle.alma_pool.specs.Due.{objects_plan, fetch_plan, pool_plan}
use Rattle.alma_pool.specs.Shown.{HaveObjectsOf, PlaysPrograms, ShowsPrograms}
use Rattle.alma_pool.proofs.Objects.{object_codes, pool_alike, objects_count, objects_open, objects_read, objects_show}
use Rattle.alma_pool.proofs.WordLemmas.{request_planned}

module _ (told : List ℕ → Told) where
  -- the plan may ask for this file
  abbrev AsksOf : Plan ⊥ Due → (name : List ℕ) → Type 0
  AsksOf plan name = Asks plain told plan name

  -- it may come to that
  abbrev ComesOf : (left : Option (List ℕ)) → Reading → Due → Plan ⊥ Due → Type 0
  ComesOf left reading due plan = Comes plain program told left plan reading due

-- ---- no file is missing

module _ (told : List ℕ → Told) (name : List ℕ) (missing : told name ≡ Missing) where
  played_lacks : (reads : Bool) (all : List PlainCode) (turns : List ℕ) → AsksOf told (play_on_plan reads all turns) name → ⊥
  played_lacks true all turns asks = asks
  played_lacks false all turns asks = asks

  opened_lacks : (opened : Result (List PlainCode) Ending) (turns : List ℕ) → AsksOf told (play_plan opened turns) name → ⊥
  opened_lacks (Ok all) turns asks = played_lacks (list_any code_reads all) all turns asks
  opened_lacks (Err end) turns asks = asks

  play_files_lacks : (bad : Option ℕ) (turns : List ℕ) (objects : List (List ℕ)) → AsksOf told (unless_bad_turn bad turns objects) name → ⊥
  play_files_lacks None turns objects asks = opened_lacks (open_objects [] objects) (turns_in turns) asks
  play_files_lacks (Some turn) turns objects asks = asks

  files_lack : (turns : List ℕ) (got files objects : List (List ℕ)) (programs : List Program) → HaveObjectsOf told files objects programs
      → AsksOf told (objects_plan turns got files) name → ⊥
  files_lack turns got [] objects programs has asks = play_files_lacks (bad_turn_behind (length got) 0 turns) turns got asks
  files_lack turns got (file ∷ files) [] programs has asks = has
  files_lack turns got (file ∷ files) (bytes ∷ objects) [] has asks = has
  files_lack turns got (file ∷ files) (bytes ∷ objects) (p ∷ programs) has asks =
      let more = fetch_asks plain program told file bytes name object_limit (λ b. objects_plan turns (got ++ b ∷ []) files) has.0 missing
      asks in
      files_lack turns (got ++ more.0 ∷ []) files objects programs has.2 more.1

  pub call_lacks : (file turns : List ℕ) (files objects : List (List ℕ)) (programs : List Program) → told file ≡ Has turns
      → HaveObjectsOf told files objects programs → AsksOf told (fetch_plan (file ∷ files)) name → ⊥
  call_lacks file turns files objects programs has all asks =
      let more = fetch_asks plain program told file turns name turns_limit (λ b. objects_plan b [] files) has missing asks in
      files_lack more.0 [] files objects programs all more.1

-- ---- what comes of the files

module _ (told : List ℕ → Told) (left : Option (List ℕ)) (reading : Reading) (due : Due) (turns input : List ℕ)
    (short : length input ≤ input_limit) where
  abbrev MayCome : Plan ⊥ Due → Type 0
  MayCome plan = ComesOf told left reading due plan

  -- all codes are there, and the input, where one of them reads
  played_comes : (reads : Bool) (all : List PlainCode) → list_any code_reads all ≡ reads
      → (reads ≡ true → left ≡ Some input) → MayCome (play_on_plan reads all turns) → due ≡ prints (pool_text 0 all input turns)
  played_comes true all is there c =
      read_comes plain program told left reading due input (λ bytes. prints (pool_text 0 all bytes turns)) (there refl) short c
  played_comes false all is there h = h.1 ∙ ap (λ (text : List ℕ). prints text) (pool_alike 0 all [] input turns is)

-- the objects are fetched, behind those that were
files_come : (told : List ℕ → Told) (left : Option (List ℕ)) (reading : Reading) (due : Due) (turns : List ℕ)
    (got files objects : List (List ℕ)) (programs : List Program)
    → HaveObjectsOf told files objects programs → ComesOf told left reading due (objects_plan turns got files)
    → ComesOf told left reading due (play_files_plan turns (got ++ objects))
files_come told left reading due turns got [] [] [] has c =
    subst (λ (all : List (List ℕ)). ComesOf told left reading due (play_files_plan turns all)) (sym (append-nil got)) c
files_come told left reading due turns got [] [] (p ∷ programs) has c = absurd has
files_come told left reading due turns got [] (bytes ∷ objects) programs has c = absurd has
files_come told left reading due turns got (file ∷ files) [] programs has c = absurd has
files_come told left reading due turns got (file ∷ files) (bytes ∷ objects) [] has c = absurd has
files_come told left reading due turns got (file ∷ files) (bytes ∷ objects) (p ∷ programs) has c =
    let next = fetch_comes plain program told left reading due file bytes object_limit (λ b. objects_plan turns (got ++ b ∷ []) files)
    has.0 (spelled_short p bytes has.1) c in
    subst (λ (all : List (List ℕ)). ComesOf told left reading due (play_files_plan turns all)) (append_assoc got (bytes ∷ []) objects)
    (files_come told left reading due turns (got ++ bytes ∷ []) files objects programs has.2 next)

-- ---- the call

module _ (words : List (List ℕ)) (turns : List ℕ) (programs : List Program) (input : List ℕ) (before after : Outside) (status : ℕ)
    (a : PlaysPrograms words before turns programs input) where
  abbrev MayComeOf : Reading → Due → Plan ⊥ Due → Type 0
  MayComeOf reading due plan = ComesOf before.files.told before.input.left reading due plan

  plan_is : pool_plan words ≡ fetch_plan (a.file ∷ a.files)
  plan_is = request_planned words a.files a.file a.asks

  -- no byte of the file of turns is bad
  turns_are_good : bad_turn_behind (length a.objects) 0 turns ≡ None
  turns_are_good =
      ap (λ (count : ℕ). bad_turn_behind count 0 turns) (objects_count before.files.told a.files a.objects programs a.told) ∙ a.turns_good

  codes_read : list_any code_reads (object_codes a.objects) ≡ list_any program_reads programs
  codes_read = objects_read before.files.told a.files a.objects programs a.told

  -- so this is due
  call_due : (reading : Reading) (due : Due) → MayComeOf reading due (fetch_plan (a.file ∷ a.files))
      → due ≡ prints (pool_text 0 (object_codes a.objects) input (turns_in turns))
  call_due reading due c =
      let all = object_codes a.objects in
      let fetched = fetch_comes plain program before.files.told before.input.left reading due a.file turns turns_limit
      (λ b. objects_plan b [] a.files) a.turns_told a.turns_short c in
      let there = files_come before.files.told before.input.left reading due turns [] a.files a.objects programs a.told fetched in
      let good = subst (λ (bad : Option ℕ). MayComeOf reading due (unless_bad_turn bad turns a.objects)) turns_are_good there in
      let opened = subst (λ (r : Result (List PlainCode) Ending). MayComeOf reading due (play_plan r (turns_in turns)))
      (objects_open before.files.told [] a.files a.objects programs a.told) good in
      played_comes before.files.told before.input.left reading due (turns_in turns) input a.input_short (list_any code_reads all) all refl
      (λ e. a.left (sym codes_read ∙ e)) opened

  pub call_shows : Causes plain program (pool_plan words) before after status → IsUndisturbed before after status
      → ShowsPrograms turns programs input before after status
  call_shows causes quiet =
      let h =
      call_shows_due plain program (fetch_plan (a.file ∷ a.files)) before after status
      (subst (λ (p : Plan ⊥ Due). Causes plain program p before after status) plan_is causes) quiet
      (λ lack. call_lacks before.files.told lack.0 lack.2 a.file turns a.files a.objects programs a.turns_told a.told lack.1) in (
        pool_text 0 (object_codes a.objects) input (turns_in turns),
        objects_show before.files.told 0 a.files a.objects programs input (turns_in turns) a.input_short a.told,
        subst (ShowsDue before after status) (call_due h.0 h.1 h.2) h.3,
      )
