-- What a code keeps whose slots are renamed.
use Rattle.std.proofs.Common.{◌≡◌, ◌<◌, ◌+◌, ℕ, List, [], ◌∷◌, sym, ap, ◌∙◌, subst}
use Rattle.std.specs.Prelude.{map}
use Rattle.std.specs.List.{AllByRecursion}
use Rattle.alma_code.specs.declared.cell.Cell.TheVariants as cell
use Rattle.alma_code.specs.Lines.{last_line}
use Rattle.alma_code.specs.Picture.{PlainFrame, cell_at}
use Rattle.alma_code.specs.Plain.{PlainCode, PlainGlobal}
use Rattle.alma_code.specs.Reads.{code_reads}
use Rattle.alma_code.specs.Rules.{IsSound}
use Rattle.alma_ir.specs.Tree.{Program, Global}
use Rattle.alma_mean.specs.Store.{Store}
use Rattle.alma_mean.specs.Store as store
use Rattle.alma_lower_implements.specs.Implements.{ComesTo, Implements, line_in, printed_by, state_after}
use Rattle.alma_lower_implements.specs.Values.{KeepsValues, cell_of_value}
use Rattle.alma_lower_slots.specs.Same.{DoesTheSame, HoldTheSame, KeepsTables}
use Rattle.alma_lower.specs.CodeFor.{IsCodeFor}
use Rattle.alma_lower_templates.specs.Compiled.{global_named}
use Rattle.alma_lower.specs.Names.{KeepsNames}

-- it implements what the code did
pub implements_the_same : (code new : PlainCode) (p : Program) → DoesTheSame code new → KeepsTables code new → Implements code p
    → Implements new p
implements_the_same code new p same tables implements input small n =
    let line : line_in new (state_after new input n) ≡ line_in code (state_after code input n) =
    ap (λ at. last_line at 0 new.lines) (same.last input n)
    ∙ ap (λ lines. last_line (state_after code input n).last 0 lines) tables.lines in
    subst (λ m. ComesTo m (line_in new (state_after new input n)) (printed_by new input n) p input n) (sym (same.mode input n))
    (subst (λ l. ComesTo (state_after code input n).mode l (printed_by new input n) p input n) (sym line)
    (subst (λ out. ComesTo (state_after code input n).mode (line_in code (state_after code input n)) out p input n)
    (sym (same.printed input n)) (implements input small n)))

-- it has the same names
pub names_the_same : (code new : PlainCode) (p : Program) → KeepsTables code new → KeepsNames code p → KeepsNames new p
names_the_same code new p tables names = record {
  variables = tables.globals ∙ names.variables;
  routines = tables.names ∙ names.routines;
}

-- where the variables hold the same, they hold what the store does
values_over : (gs : List Global) (s : Store) (frames frames' : List PlainFrame)
    → AllByRecursion (λ g. (k : ℕ) → k < g.cells → cell_at frames' 0 (g.slot + k) cell.Unknown ≡ cell_at frames 0 (g.slot + k) cell.Unknown)
    (map global_named gs)
    → AllByRecursion (λ g. (k : ℕ) → k < g.cells
    → cell_at frames 0 (g.slot + k) cell.Unknown ≡ cell_of_value (store.cell_at s 0 (g.slot + k))) gs
    → AllByRecursion (λ g. (k : ℕ) → k < g.cells
    → cell_at frames' 0 (g.slot + k) cell.Unknown ≡ cell_of_value (store.cell_at s 0 (g.slot + k))) gs
values_over [] s frames frames' same holds = tt
values_over (g ∷ gs) s frames frames' same holds =
    (λ k lt. same.0 k lt ∙ holds.0 k lt, values_over gs s frames frames' same.1 holds.1)

-- it ends with the same values
pub values_the_same : (code new : PlainCode) (p : Program) → DoesTheSame code new → KeepsNames code p → KeepsValues code p
    → KeepsValues new p
values_the_same code new p same names values input small n ended =
    let before = sym (same.mode input n) ∙ ended in
    let v = values input small n before in
    let held = subst (λ (gs : List PlainGlobal). HoldTheSame gs (state_after code input n).now (state_after new input n).now)
    names.variables
    (same.variables input n before) in
    (v.0, v.1, values_over p.globals v.0 (state_after code input n).now (state_after new input n).now held v.2)

-- it is code of the same program
pub code_for_the_same : (code new : PlainCode) (p : Program) → DoesTheSame code new → KeepsTables code new → IsSound new
    → code_reads new ≡ code_reads code → IsCodeFor p code → IsCodeFor p new
code_for_the_same code new p same tables sound reads is = record {
  sound = sound;
  implements = implements_the_same code new p same tables is.implements;
  values = values_the_same code new p same is.names is.values;
  reads = reads ∙ is.reads;
  names = names_the_same code new p tables is.names;
  version = tables.version ∙ is.version;
}
