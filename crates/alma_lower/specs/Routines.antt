-- What the routines of a code in the making are.
use Rattle.std.specs.Prelude.{◌≡◌, ◌<◌, ℕ, ◌++◌, List, [], map, length, get_or, Option, Some, None}
use Rattle.alma_base.specs.declared.number.Range.{Range}
use Rattle.alma_code.specs.Machine.{no_return}
use Rattle.alma_code.specs.declared.instr.Instr.{Instr}
use Rattle.alma_code.specs.declared.instr.Instr.TheVariants as I
use Rattle.alma_code.specs.declared.cell.SlotKind.{SlotKind}
use Rattle.alma_code.specs.declared.head.Run.{Run}
use Rattle.alma_code.specs.Plain.{PlainRoutine}
use Rattle.alma_ir.specs.Tree.{Program, Routine}
use Rattle.alma_lower_templates.specs.Runs.{NamesKinds}
use Rattle.alma_lower_work.specs.Front.{Around, Front}
use Rattle.alma_lower_templates.specs.Compiled.{link_params, param_named, is_function, routines_named}
use Rattle.alma_lower_templates.specs.Slots.{routine_kinds}
use Rattle.alma_lower_templates.specs.Tables.{Tables}

-- where the phrases of a routine stand
abbrev pub around_at : Program → Tables → (r : ℕ) → Around
around_at p tables r = record { program = p; tables = tables; routine = r }

-- the end of a routine: a function that gave no result faults
abbrev pub end_instr : Option Range → Instr
end_instr (Some range) = I.Fault no_return
end_instr None = I.Return

-- b is a where a routine begins, behind so many own slots, with these lines
pub record Begins (a b : Front) (own : ℕ) (lines : List ℕ) : Type 0 where
  pub code : b.code ≡ a.code
  pub next : b.next ≡ own
  pub kinds : b.kinds ≡ []
  pub left : b.lines ≡ lines

-- the routine of a code is that of a routine with slots of these kinds, whose code ends before an address
pub record HeadFor (routine : Routine) (kinds : List SlotKind) (code_end : ℕ) (made : PlainRoutine) : Type 0 where
  pub name : made.name ≡ routine.name
  pub slots : made.head.slots ≡ length kinds
  pub declared : made.head.declared ≡ routine.declared
  pub params : made.head.params ≡ link_params routine.level routine.outer ++ map param_named routine.params
  pub result : made.head.has_result ≡ is_function routine.result
  pub end : made.code_end ≡ code_end

-- the runs of routines of a code
abbrev pub runs_in : List PlainRoutine → List (List Run)
runs_in made = map (λ r. r.head.runs) made

-- the routines of a code are the first n of the program, each with the longest runs of its slots
pub record AreHeads (p : Program) (tables : Tables) (n : ℕ) (made : List PlainRoutine) : Type 0 where
  pub count : length made ≡ n
  pub are : made ≡ routines_named p tables 0 0 (runs_in made)
  pub names : (r : ℕ) → r < n → NamesKinds (get_or (runs_in made) r []) (routine_kinds p r)
