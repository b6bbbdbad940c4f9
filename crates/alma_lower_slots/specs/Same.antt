-- Two codes on which the machine does the same.
use Rattle.std.specs.Prelude.{◌≡◌, ◌<◌, ℕ, ◌+◌, List, length, map}
use Rattle.std.specs.List.{AllByRecursion}
use Rattle.alma_code.specs.declared.cell.Cell.TheVariants as cell
use Rattle.alma_code.specs.declared.step.End.TheVariants as end
use Rattle.alma_code.specs.Picture.{PlainFrame, cell_at}
use Rattle.alma_code.specs.Plain.{PlainCode, PlainGlobal}
use Rattle.alma_code.specs.Machine.{Ended, start, after, prints}

-- each variable of the module holds the same in the first of these frames and in the first of those, cell for cell
abbrev pub HoldTheSame : List PlainGlobal → (frames frames' : List PlainFrame) → Type 0
HoldTheSame globals frames frames' = AllByRecursion (λ g. (k : ℕ) → k < g.cells
    → cell_at frames' 0 (g.slot + k) cell.Unknown ≡ cell_at frames 0 (g.slot + k) cell.Unknown) globals

-- after any number of steps the machine on both is in one mode, has printed the same, and its last instruction is of one address;
-- where it has come to success, the variables of the module hold the same
pub record DoesTheSame (code new : PlainCode) : Type 0 where
  pub mode : (input : List ℕ) (n : ℕ) → (after new input n (start new)).mode ≡ (after code input n (start code)).mode
  pub last : (input : List ℕ) (n : ℕ) → (after new input n (start new)).last ≡ (after code input n (start code)).last
  pub printed : (input : List ℕ) (n : ℕ) → prints new input n (start new) ≡ prints code input n (start code)
  pub variables : (input : List ℕ) (n : ℕ) → (after code input n (start code)).mode ≡ Ended end.Succeeded
      → HoldTheSame code.globals (after code input n (start code)).now (after new input n (start new)).now

-- what is not of slots is the same in both
pub record KeepsTables (code new : PlainCode) : Type 0 where
  pub version : new.version ≡ code.version
  pub globals : new.globals ≡ code.globals
  pub ranges : new.ranges ≡ code.ranges
  pub texts : new.texts ≡ code.texts
  pub lines : new.lines ≡ code.lines
  pub size : length new.instrs ≡ length code.instrs
  pub names : map (λ r. r.name) new.routines ≡ map (λ r. r.name) code.routines
