-- A variable of the routine whose value is used at once: it has no code, and where it is unknown the instruction that reads
-- it faults, at the line of the same statement.
use Rattle.std.proofs.Common.{◌≡◌, ℕ, List, refl, ap, ◌∙◌, ℤ}
use Rattle.std.specs.Prelude.{slice_get}
use Rattle.alma_base.specs.declared.fault.RunFault.TheVariants as fault
use Rattle.alma_code.specs.declared.cell.Cell.TheVariants as cell
use Rattle.alma_code.specs.Picture.{PlainFrame, PlainEntry, last_frame}
use Rattle.alma_code.specs.Lines.{line_at}
use Rattle.alma_code.specs.Plain.{PlainCode}
use Rattle.alma_code.specs.Machine.{State, StepResult, step, number, as_number}
use Rattle.alma_ir.specs.declared.phrase.Root.TheVariants as root
use Rattle.alma_ir.specs.Tree.{Program, Load, a_desig, no_sels}
use Rattle.alma_mean.specs.Store.{Store, top_cell}
use Rattle.alma_mean.specs.Events.{Visit, Fail, one, join, visit_each}
use Rattle.alma_mean.specs.Rows.{read_cell}
use Rattle.alma_mean.specs.Meaning.{Level, ev_expr}
use Rattle.alma_lower_implements.proofs.Frames.{IsAt}
use Rattle.alma_lower_implements.proofs.Steps.{passed, Holds, Faults, faults_now}

module _ (code : PlainCode) (input : List ℕ) where
  -- the instruction at an address begins by reading a number slot
  abbrev pub ReadsFirst : (at slot : ℕ) → List PlainFrame → Type 0
  ReadsFirst at slot now = (held : List PlainEntry) (s : State) → IsAt at now held s → (k : ℤ → StepResult)
      × (step code input s ≡ number (passed code input s) slot k)

  pub reads_unknown : (line at slot : ℕ) (now : List PlainFrame) (held : List PlainEntry) (s : State) → ReadsFirst at slot now
      → IsAt at now held s → line_at code at ≡ line → Holds now slot cell.Unknown → Faults code input line s fault.Unknown
  reads_unknown line at slot now held s reads is here there =
      let r = reads held s is in
      faults_now code input line s fault.Unknown (ap (line_at code) is.here ∙ here)
      (r.1 ∙ ap (λ o. as_number o (passed code input s) r.0) (ap (λ z. slice_get (last_frame z).cells slot) is.frames ∙ there))

  module _ (p : Program) (below : Level) (from cells : ℕ) (v : Store) where
    pub bare_is : ev_expr p input below (Load (a_desig (root.Local from) cells no_sels)) v ≡ Visit
        (Visit (Visit (visit_each (join (read_cell (top_cell v from) (λ n. one v n)) Fail))))
    unfolding ev_expr
    bare_is = refl
