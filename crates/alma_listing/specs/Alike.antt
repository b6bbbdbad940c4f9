-- Event lists that are one list, of two programs or two levels.
use Rattle.std.specs.Prelude.{◌≡◌, ℕ, ◌<◌, List, length}
use Rattle.std.specs.List.{AllByRecursion}
use Rattle.alma_base.specs.declared.fault.RunFault.{RunFault}
use Rattle.alma_ir.specs.Tree.{Stmts, Program, routine_at}
use Rattle.alma_ir.specs.Phrases.{stmts_phrases}
use Rattle.alma_ir.specs.Lines.{body_with_lines}
use Rattle.alma_ir.specs.Checked.{IsNoReturn, CalleeExists}
use Rattle.alma_mean.specs.Store.{Store}
use Rattle.alma_mean.specs.Events.{Events, NoYield, Flow, Visit, Print, Alt, Go, Return, Fail, Fault, Cut}
use Rattle.alma_mean.specs.Meaning.{level}

-- the alternative goes on
abbrev pub IsGo : {A : Type 0} → Flow A → Type 0
IsGo (Go y) = Unit {0}
IsGo (Return v) = ⊥

-- one list; each alternative has n frames, and goes on where G holds
pub data Alike (A : Type 0) (n : ℕ) (G : Type 0) : Events A → Events A → Type 0 where
  on_visit : {e f : Events A} → Alike A n G e f → Alike A n G (Visit e) (Visit f)
  on_print : {b : List ℕ} {e f : Events A} → Alike A n G e f → Alike A n G (Print b e) (Print b f)
  on_alt : {s : Store} {w : Flow A} {e f : Events A} → length s ≡ n → (G → IsGo w) → Alike A n G e f → Alike A n G (Alt s w e) (Alt s w f)
  at_fail : Alike A n G Fail Fail
  at_fault : {x : RunFault} {l : ℕ} → Alike A n G (Fault x l) (Fault x l)
  at_cut : Alike A n G Cut Cut

-- ---- two programs

-- all procedures of the first program are those of the second, and call each other alone; and all
-- routines, also the body of the module, have the same result and declare as many cells
pub record HaveSame (p q : Program) : Type 0 where
  pub procedures : (r : ℕ) → 0 < r → r < length p.routines → routine_at q r ≡ routine_at p r
  pub calls : (r : ℕ) → 0 < r → r < length p.routines → AllByRecursion (λ x. CalleeExists p x)
      (stmts_phrases (body_with_lines (routine_at p r)))
  pub results : (r : ℕ) → (routine_at q r).result ≡ (routine_at p r).result
  pub declared : (r : ℕ) → (routine_at q r).declared ≡ (routine_at p r).declared

-- So statements that call these procedures alone mean the same in both programs, each alternative
-- keeps the frames that live, and where no RETURN stands in the statements it goes on
abbrev pub MeanTheSame : Program → Program → Type 0
MeanTheSame p q =
    HaveSame p q → (input : List ℕ) (n : ℕ) (x : Stmts) (s : Store) → AllByRecursion (λ y. CalleeExists p y) (stmts_phrases x)
    → Alike NoYield (length s) (AllByRecursion IsNoReturn (stmts_phrases x)) ((level q input n).stmts x s) ((level p input n).stmts x s)
