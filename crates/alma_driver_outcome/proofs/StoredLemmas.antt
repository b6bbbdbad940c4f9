-- What is stored for a program is read back, and runs as the program does.
use Rattle.std.proofs.Common.{◌≡◌, ◌≤◌, ℕ, List, ap, subst}
use Rattle.std.specs.Prelude.{Bool, Option, Some, None}
use Rattle.alma_base.specs.Limits.{size_limit}
use Rattle.alma_ir.specs.Tree.{Program}
use Rattle.alma_verify.specs.Bytes.{object_code}
use Rattle.alma_run_laws.specs.Shown.{size_of}
use Rattle.alma_run_laws.specs.Stored.{SpellsCodeOf}
use Rattle.alma_run_laws.proofs.Spelled.{spells_code, spelled_sound}
use Rattle.alma_driver_outcome.specs.Showing.{Prints}
use Rattle.alma_io.specs.Outside.{StoredFile}
use Rattle.alma_driver_outcome.specs.Outcome.{Due, ProgramOutcome, ran, CompileOutcome, made, past_size, SourceOutcome}
use Rattle.alma_driver_outcome.specs.Outcome.{stopped, compiled, executed, unsound, ExecOutcome, opened, unopened}

-- nothing is stored where nothing is due to be
stores_none : (due : Due) (stored : StoredFile) → due.stored ≡ None → due.stored ≡ Some stored → ⊥
stores_none due stored none some = cc (none, some)

-- what is stored is what is due to be
stored_is : (due : Due) (stored given : StoredFile) → due.stored ≡ Some given → due.stored ≡ Some stored → given ≡ stored
stored_is due stored given e s = cc (e, s)

-- so is what compiling stores
pub spells_stored : (p : Program) (object : List ℕ) (due : Due) (stored : StoredFile) → CompileOutcome p object due
    → due.stored ≡ Some stored
    → SpellsCodeOf p stored.bytes
spells_stored p object due stored (made code bytes size is_code is fits e) s =
    let given : StoredFile = record { name = object; bytes = bytes } in
    subst (λ (x : StoredFile). SpellsCodeOf p x.bytes) (stored_is due stored given (ap (λ (d : Due). d.stored) e) s)
    (spells_code p code bytes is_code is fits)
spells_stored p object due stored (past_size size e) s = absurd (stores_none due stored (ap (λ (d : Due). d.stored) e) s)

-- the size of a program that is stored is within its limit
stored_within : (p : Program) (object : List ℕ) (due : Due) (stored : StoredFile) → CompileOutcome p object due → due.stored ≡ Some stored
    → size_of p ≤ size_limit
stored_within p object due stored (made code bytes size is_code is fits e) s = size
stored_within p object due stored (past_size size e) s = absurd (stores_none due stored (ap (λ (d : Due). d.stored) e) s)

-- running such bytes is running the program
spelled_runs : (left : Option (List ℕ)) (p : Program) (bytes : List ℕ) (steps : ℕ) (stats : Bool) (running : Due) → size_of p ≤ size_limit
    → SpellsCodeOf p bytes → ExecOutcome left bytes steps stats running → ProgramOutcome left p steps (Prints stats) running
spelled_runs left p bytes steps stats running size is (opened clean (executed c o)) =
    ran (object_code bytes) size is.code o
spelled_runs left p bytes steps stats running size is (opened clean (unsound fault c e)) =
    cc (spelled_sound p bytes is, c)
spelled_runs left p bytes steps stats running size is (unopened fault c e) = cc (is.clean, c)

-- and so it is of a source
pub stored_runs : (source object : List ℕ) (left : Option (List ℕ)) (steps : ℕ) (stats : Bool) (compiling running : Due)
    (stored : StoredFile)
    → SourceOutcome source (λ p. CompileOutcome p object) compiling → compiling.stored ≡ Some stored
    → ExecOutcome left stored.bytes steps stats running
    → SourceOutcome source (λ p. ProgramOutcome left p steps (Prints stats)) running
stored_runs source object left steps stats compiling running stored (stopped end h e) s x =
    absurd (stores_none compiling stored (ap (λ (d : Due). d.stored) e) s)
stored_runs source object left steps stats compiling running stored (compiled p is o) s x =
    compiled p is (spelled_runs left p stored.bytes steps stats running (stored_within p object compiling stored o s)
    (spells_stored p object compiling stored o s) x)
