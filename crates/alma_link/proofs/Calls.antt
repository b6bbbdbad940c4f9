-- What a call shows that runs modules, or stores their object.
use Rattle.std.proofs.Common.{◌≡◌, ◌∙◌, ℕ, List, [], ◌∷◌, ◌++◌, refl, ap, sym, subst, inl, inr}
use Rattle.std.proofs.lemmas.List.{append_assoc, append-nil}
use Rattle.std.specs.Prelude.{◌⊎◌, Option, None, Some, Result, Ok}
use Rattle.alma_io.specs.Files.{Told, Missing, Has}
use Rattle.alma_ir.specs.Tree.{Program}
use Rattle.alma_join.specs.Joined.{JoinFault, join_fault, joined_program}
use Rattle.alma_plan.specs.Causes.{Causes}
use Rattle.alma_io.specs.Outside.{Outside, IsUndisturbed}
use Rattle.alma_plan.specs.Plan.{Due, Plan, Reading, Asks, Comes, silent}
use Rattle.alma_plan.specs.Programs.{Last, sense, refuse_source}
use Rattle.alma_plan.specs.Undisturbed.{ShowsDue}
use Rattle.alma_plan.proofs.MeantLemmas.{run_is_meant}
use Rattle.alma_plan.proofs.UndisturbedLemmas.{call_shows_due}
use Rattle.alma_plan.proofs.ToldLemmas.{IsLargeOr, RunComes, SourceComes, StoreComes, run_asks, run_comes, source_asks, source_comes}
use Rattle.alma_plan.proofs.ToldLemmas.{store_asks, store_comes}
use Rattle.alma_run_laws.proofs.Spelled.{spells_code}
use Rattle.alma_source.proofs.RefusalLemmas.{only_fault}
use Rattle.alma_source.specs.Refusal.{IsProgramOf, IsRefused, place_of}
use Rattle.alma_source.specs.Verdict.{Verdict}
use Rattle.alma_source.specs.declared.fault.SourceFault.{SourceFault}
use Rattle.alma_driver_words.specs.Words.{default_steps}
use Rattle.alma_link.specs.Link.{program, failure, unless_fault, join_plan, files_plan, task_plan, request_plan, link_plan}
use Rattle.alma_link.specs.Shown.{HaveSources, AreModulesOf, AsksForModules, IsGiven, IsFirstRefused, here, later, ModulesEnd, refuses}
use Rattle.alma_link.specs.Shown.{unjoined, too_large, performs, ShowsRun, ShowsObject}
use Rattle.alma_link.specs.Words.{Task, Run, Compile, Request, request, request_of}
use Rattle.alma_link.proofs.Requests.{request_is}

-- the plan of words that ask for a task with files
plan_of : (task : Task) (words files : List (List ℕ)) → request_of words ≡ Ok (request task files)
    → link_plan words ≡ files_plan task [] files
plan_of task words files asks = ap (λ (r : Result Request ℕ). request_plan r) asks

-- ---- no file is missing

module _ (task : Task) (told : List ℕ → Told) (name : List ℕ) (missing : told name ≡ Missing) where
  task_lacks : (t : Task) (p : Program) → Asks (sense program failure) told (task_plan t p) name → ⊥
  task_lacks Run p asks = run_asks program failure told p default_steps name asks
  task_lacks (Compile object) p asks = store_asks program failure told p object name asks

  join_lacks : (fault : Option JoinFault) (units : List Program) → Asks (sense program failure) told (unless_fault fault task units) name
      → ⊥
  join_lacks None units asks = task_lacks task (joined_program units) asks
  join_lacks (Some fault) units asks = asks

  -- no file of the plan is missing, behind modules that were read
  files_lack : (got : List Program) (files sources : List (List ℕ)) → HaveSources told files sources
      → Asks (sense program failure) told (files_plan task got files) name → ⊥
  files_lack got [] [] has asks = join_lacks (join_fault got) got asks
  files_lack got (file ∷ files) (source ∷ sources) has asks =
      by (λ p. files_lack (got ++ p ∷ []) files sources has.2)
      (source_asks program failure told file source name (λ p. files_plan task (got ++ p ∷ []) files) has.0 asks)
    where
      by : ((p : Program) → Asks (sense program failure) told (files_plan task (got ++ p ∷ []) files) name → ⊥)
          → (told name ≡ Has source) ⊎ ((p : Program) × Asks (sense program failure) told (files_plan task (got ++ p ∷ []) files) name) → ⊥
      by behind (inl found) = cc (sym missing ∙ found)
      by behind (inr h) = behind h.0 h.1
  files_lack got [] (source ∷ sources) has asks = has
  files_lack got (file ∷ files) [] has asks = has

-- ---- what comes of the files

-- the first file that holds no module is refused, or all hold modules, which are joined behind those that were read
data FilesCome (task : Task) (told : List ℕ → Told) (left : Option (List ℕ)) (reading : Reading) (due : Due) (got : List Program)
    (files sources : List (List ℕ)) : Type 0 where
  first_refused : (file source : List ℕ) (fault : SourceFault) (offset : ℕ) → IsFirstRefused file source fault offset files sources
      → due ≡ silent (refuse_source file fault (place_of source offset))
      → FilesCome task told left reading due got files sources
  all_modules : (units : List Program) → AreModulesOf sources units
      → Comes (sense program failure) program told left (join_plan task (got ++ units)) reading due
      → FilesCome task told left reading due got files sources

module _ (task : Task) (told : List ℕ → Told) (left : Option (List ℕ)) (reading : Reading) (due : Due) where
  abbrev ComesOf : Plan Verdict Last → Type 0
  ComesOf plan = Comes (sense program failure) program told left plan reading due

  abbrev ComeOf : (got : List Program) → (files sources : List (List ℕ)) → Type 0
  ComeOf got files sources = FilesCome task told left reading due got files sources

  -- one file more in front
  one_more_come : (got : List Program) (file source : List ℕ) (files sources : List (List ℕ)) (p : Program) → IsProgramOf source p
      → ComeOf (got ++ p ∷ []) files sources → ComeOf got (file ∷ files) (source ∷ sources)
  one_more_come got file source files sources p is (first_refused other text fault offset first e) =
      first_refused other text fault offset (later file source p is first) e
  one_more_come got file source files sources p is (all_modules units are c) =
      all_modules (p ∷ units) (is, are)
      (subst (λ (all : List Program). ComesOf (join_plan task all)) (append_assoc got (p ∷ []) units) c)

  files_come : (got : List Program) (files sources : List (List ℕ)) → HaveSources told files sources → ComesOf (files_plan task got files)
      → ComeOf got files sources
  files_come got [] [] has c =
      all_modules [] tt (subst (λ (all : List Program). ComesOf (join_plan task all)) (sym (append-nil got)) c)
  files_come got (file ∷ files) (source ∷ sources) has c =
      by (λ p. files_come (got ++ p ∷ []) files sources has.2)
      (source_comes program failure told left reading due file source (λ p. files_plan task (got ++ p ∷ []) files) has.0 has.1 c)
    where
      by : ((p : Program) → ComesOf (files_plan task (got ++ p ∷ []) files) → ComeOf (got ++ p ∷ []) files sources)
          → SourceComes program failure told left reading due file source (λ p. files_plan task (got ++ p ∷ []) files)
          → ComeOf got (file ∷ files) (source ∷ sources)
      by behind (inl h) = first_refused file source h.0 h.1 (here h.2) h.3
      by behind (inr h) = one_more_come got file source files sources h.0 h.1 (behind h.0 h.2)
  files_come got [] (source ∷ sources) has c = absurd has
  files_come got (file ∷ files) [] has c = absurd has

-- ---- what is shown

-- the source of the first file that is refused
first_is : {file source : List ℕ} {fault : SourceFault} {offset : ℕ} {files sources : List (List ℕ)}
    → IsFirstRefused file source fault offset files sources → IsRefused source fault offset
first_is (here is) = is
first_is (later other text p is first) = first_is first

module _ (task : Task) (Performs : Program → Type 0) (files sources : List (List ℕ)) (before after : Outside) (status : ℕ)
    (reading : Reading) (due : Due) (shows : ShowsDue before after status due) where
  abbrev End : Type 0
  End = ModulesEnd Performs files sources before after status

  abbrev MayComeOf : Plan Verdict Last → Type 0
  MayComeOf plan = Comes (sense program failure) program before.files.told before.input.left plan reading due

  -- what a task comes to with the joined program of modules
  abbrev TaskComes : Program → Type 0
  TaskComes p = IsLargeOr program failure before.files.told before.input.left reading due p (Performs p)

  module _ (task_comes : (units : List Program) → AreModulesOf sources units → join_fault units ≡ None
      → MayComeOf (task_plan task (joined_program units)) → TaskComes (joined_program units)) where
    -- the modules are joined, or not
    joined_ends : (units : List Program) (fault : Option JoinFault) → AreModulesOf sources units → join_fault units ≡ fault
        → MayComeOf (unless_fault fault task units) → End
    joined_ends units (Some fault) are is c = unjoined units fault are is (subst (ShowsDue before after status) c.1 shows)
    joined_ends units None are is c = by (task_comes units are is c)
      where
        by : TaskComes (joined_program units) → End
        by (inl h) = too_large units are is h.0 (subst (ShowsDue before after status) h.1 shows)
        by (inr h) = performs units are is h.0 h.1

    -- the files hold modules, or not
    files_end : FilesCome task before.files.told before.input.left reading due [] files sources → End
    files_end (first_refused file source fault offset first e) =
        refuses file source fault offset first (only_fault source fault offset (first_is first))
        (subst (ShowsDue before after status) e shows)
    files_end (all_modules units are c) = joined_ends units (join_fault units) are refl c

-- ---- the call

-- a call for modules ends so, where what their task may come to performs it
module _ (task : Task) (words files sources : List (List ℕ)) (before after : Outside) (status : ℕ)
    (asks : AsksForModules task words before files sources)
    (causes : Causes (sense program failure) program (link_plan words) before after status)
    (calm : IsUndisturbed before after status) where
  abbrev Come : Reading → Due → Plan Verdict Last → Type 0
  Come reading due plan = Comes (sense program failure) program before.files.told before.input.left plan reading due

  call_ends : (Performs : Program → Type 0)
      → ((reading : Reading) (due : Due) (units : List Program) → AreModulesOf sources units → join_fault units ≡ None
      → ShowsDue before after status due
      → Come reading due (task_plan task (joined_program units))
      → IsLargeOr program failure before.files.told before.input.left reading due (joined_program units) (Performs (joined_program units)))
      → ModulesEnd Performs files sources before after status
  call_ends Performs task_comes =
      let plan = plan_of task words files (request_is words (request task files) asks.asks) in
      let h =
      call_shows_due (sense program failure) program (files_plan task [] files) before after status
      (subst (λ (p : Plan Verdict Last). Causes (sense program failure) program p before after status) plan causes) calm
      (λ lack. files_lack task before.files.told lack.0 lack.2 [] files sources asks.told lack.1) in
      files_end task Performs files sources before after status h.0 h.1 h.3 (λ units are is c. task_comes h.0 h.1 units are is h.3 c)
      (files_come task before.files.told before.input.left h.0 h.1 [] files sources asks.told h.2)

-- a call that runs them
pub run_ends : (words files sources : List (List ℕ)) (input : List ℕ) (before after : Outside) (status : ℕ)
    → AsksForModules Run words before files sources → IsGiven before sources input
    → Causes (sense program failure) program (link_plan words) before after status → IsUndisturbed before after status
    → ModulesEnd (ShowsRun input before after status) files sources before after status
run_ends words files sources input before after status asks given causes calm =
    call_ends Run words files sources before after status asks causes calm (ShowsRun input before after status)
    (λ reading due units are is shows c. by reading due (joined_program units) shows
    (run_comes program failure before.files.told before.input.left reading due (joined_program units) input default_steps
    (given.left units are is) given.short c))
  where
    by : (reading : Reading) (due : Due) (p : Program) → ShowsDue before after status due
        → RunComes program failure before.files.told before.input.left reading due p input default_steps
        → IsLargeOr program failure before.files.told before.input.left reading due p (ShowsRun input before after status p)
    by reading due p shows (inl large) = inl large
    by reading due p shows (inr h) = inr (h.0, (due, run_is_meant program failure p input default_steps due given.short h.1, shows))

-- a call that stores their object
pub compile_ends : (words files sources : List (List ℕ)) (object : List ℕ) (before after : Outside) (status : ℕ)
    → AsksForModules (Compile object) words before files sources
    → Causes (sense program failure) program (link_plan words) before after status → IsUndisturbed before after status
    → ModulesEnd (ShowsObject object before after status) files sources before after status
compile_ends words files sources object before after status asks causes calm =
    call_ends (Compile object) words files sources before after status asks causes calm (ShowsObject object before after status)
    (λ reading due units are is shows c. by reading due (joined_program units) shows
    (store_comes program failure before.files.told before.input.left reading due (joined_program units) object c))
  where
    by : (reading : Reading) (due : Due) (p : Program) → ShowsDue before after status due
        → StoreComes program failure before.files.told before.input.left reading due p object
        → IsLargeOr program failure before.files.told before.input.left reading due p (ShowsObject object before after status p)
    by reading due p shows (inl large) = inl large
    by reading due p shows (inr (small, (code, bytes, is_code, is, fits, due_is))) =
        inr (
          small,
          (
            bytes,
            spells_code p code bytes is_code is fits,
            subst (ShowsDue before after status) due_is shows,
          ),
        )
