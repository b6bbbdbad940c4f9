-- What a call shows that runs modules, or stores their object, in the words of a reader of their joined program's meaning.
use Rattle.std.specs.Prelude.{◌≡◌, ◌<◌, ◌≤◌, ℕ, true, List, [], ◌∷◌, length, None, Some}
use Rattle.alma_base.specs.Limits.{input_limit, size_limit, source_limit}
use Rattle.alma_io.specs.Files.{Told, Has}
use Rattle.alma_ir.specs.Tree.{Program}
use Rattle.alma_join.specs.Joined.{JoinFault, join_fault, joined_program}
use Rattle.alma_lower_sound.specs.Reads.{program_reads}
use Rattle.alma_io.specs.Outside.{Outside}
use Rattle.alma_plan.specs.Plan.{Due, silent, too_much_code}
use Rattle.alma_plan.specs.Meant.{IsMeant}
use Rattle.alma_plan.specs.Programs.{refuse_source, storing}
use Rattle.alma_plan.specs.Undisturbed.{ShowsDue}
use Rattle.alma_run_laws.specs.Shown.{size_of}
use Rattle.alma_run_laws.specs.Stored.{SpellsCodeOf}
use Rattle.alma_source.specs.Refusal.{IsProgramOf, IsRefused, IsOnlyFault, place_of}
use Rattle.alma_source.specs.declared.fault.SourceFault.{SourceFault}
use Rattle.alma_driver_words.specs.Words.{default_steps}
use Rattle.alma_link.specs.Link.{program, failure, join_refusal}
use Rattle.alma_link.specs.Words.{Task, AsksForTask}

-- each file has the source of its place, which is within its length
abbrev pub HaveSources : (told : List ℕ → Told) → (files sources : List (List ℕ)) → Type 0
HaveSources told [] [] = Unit {0}
HaveSources told (file ∷ files) (source ∷ sources) =
    (told file ≡ Has source) × (length source ≤ source_limit) × HaveSources told files sources
HaveSources told [] (source ∷ sources) = ⊥
HaveSources told (file ∷ files) [] = ⊥

-- the modules are the programs of the sources
abbrev pub AreModulesOf : (sources : List (List ℕ)) → List Program → Type 0
AreModulesOf [] [] = Unit {0}
AreModulesOf (source ∷ sources) (p ∷ units) = IsProgramOf source p × AreModulesOf sources units
AreModulesOf [] (p ∷ units) = ⊥
AreModulesOf (source ∷ sources) [] = ⊥

-- the words ask for this task with the modules of these files, which have these sources
pub record AsksForModules (task : Task) (words : List (List ℕ)) (before : Outside) (files sources : List (List ℕ)) : Type 0 where
  pub asks : AsksForTask words task files
  pub told : HaveSources before.files.told files sources

-- where the modules can be joined, and the joined program reads, this input is left, within its length
pub record IsGiven (before : Outside) (sources : List (List ℕ)) (input : List ℕ) : Type 0 where
  pub left : (units : List Program) → AreModulesOf sources units → join_fault units ≡ None → program_reads (joined_program units) ≡ true
      → before.input.left ≡ Some input
  pub short : length input ≤ input_limit

-- this file is the first whose source, this one, is refused, with this fault and there: those before hold programs
pub data IsFirstRefused (file source : List ℕ) (fault : SourceFault) (offset : ℕ) : (files sources : List (List ℕ)) → Type 0 where
  here : {files sources : List (List ℕ)} → IsRefused source fault offset
      → IsFirstRefused file source fault offset (file ∷ files) (source ∷ sources)
  later : {files sources : List (List ℕ)} (other text : List ℕ) (p : Program) → IsProgramOf text p
      → IsFirstRefused file source fault offset files sources
      → IsFirstRefused file source fault offset (other ∷ files) (text ∷ sources)

-- What a call for modules shows, where nothing fails; `Performs` is what becomes of their joined program.
pub data ModulesEnd (Performs : Program → Type 0) (files sources : List (List ℕ)) (before after : Outside) (status : ℕ) : Type 0 where
  -- the first file that holds no module has this fault at this place, and no other: it is refused for that
  refuses : (file source : List ℕ) (fault : SourceFault) (offset : ℕ) → IsFirstRefused file source fault offset files sources
      → IsOnlyFault source fault offset
      → ShowsDue before after status (silent (refuse_source file fault (place_of source offset)))
      → ModulesEnd Performs files sources before after status
  -- all hold modules, and these cannot be joined: the first fault is told
  unjoined : (units : List Program) (fault : JoinFault) → AreModulesOf sources units → join_fault units ≡ Some fault
      → ShowsDue before after status (silent (join_refusal units fault))
      → ModulesEnd Performs files sources before after status
  -- the joined program is too large
  too_large : (units : List Program) → AreModulesOf sources units → join_fault units ≡ None → size_limit < size_of (joined_program units)
      → ShowsDue before after status (silent (too_much_code program (size_of (joined_program units))))
      → ModulesEnd Performs files sources before after status
  -- else the task is performed with it
  performs : (units : List Program) → AreModulesOf sources units → join_fault units ≡ None → size_of (joined_program units) ≤ size_limit
      → Performs (joined_program units)
      → ModulesEnd Performs files sources before after status

-- a program was run: what its meaning says, or a front of that
abbrev pub ShowsRun : (input : List ℕ) → (before after : Outside) → (status : ℕ) → Program → Type 0
ShowsRun input before after status p = (due : Due) × IsMeant program failure p input default_steps due × ShowsDue before after status due

-- its object was stored under a name (where the file of that is told): bytes that spell sound code of the program
abbrev pub ShowsObject : (object : List ℕ) → (before after : Outside) → (status : ℕ) → Program → Type 0
ShowsObject object before after status p =
    (bytes : List ℕ) × SpellsCodeOf p bytes × ShowsDue before after status (storing object bytes)
