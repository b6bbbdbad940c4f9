-- The code of a whole program.
use Rattle.std.specs.Prelude.{ℕ, zero, suc, ◌+◌, Bool, true, false, List, [], ◌∷◌, ◌++◌, length, map, Option, Some, None}
use Rattle.alma_base.specs.declared.number.Range.{Range}
use Rattle.alma_code.specs.declared.head.CodeParam.{CodeParam}
use Rattle.alma_code.specs.declared.head.ParamKind.{ParamKind}
use Rattle.alma_code.specs.declared.head.ParamKind.TheVariants as param
use Rattle.alma_code.specs.declared.head.Run.{Run}
use Rattle.alma_code.specs.Head.{PlainHead}
use Rattle.alma_code.specs.Plain.{PlainCode, PlainGlobal, PlainRoutine}
use Rattle.alma_code.specs.Records.{latest_version}
use Rattle.alma_ir.specs.declared.program.ArgKind.{ArgKind}
use Rattle.alma_ir.specs.declared.program.ArgKind.TheVariants as kind
use Rattle.alma_ir.specs.declared.program.Param.{Param}
use Rattle.alma_ir.specs.Tree.{Global, Program, routine_at}
use Rattle.alma_lower_templates.specs.LineInstr.{LineInstr, in_row, instrs_of, lines_of}
use Rattle.alma_lower_templates.specs.Tables.{Tables}
use Rattle.alma_lower_templates.specs.Slots.{routine_kinds}
use Rattle.alma_lower_templates.specs.Templates.{routine_code}

-- ---- heads

-- the kind of a parameter, as a code names it
abbrev pub param_kind : ArgKind → ParamKind
param_kind kind.Value = param.Value
param_kind kind.Place = param.Place
param_kind kind.Mix = param.Mix
param_kind kind.Cells = param.Cells

-- a parameter, as a code names it
abbrev pub param_named : Param → CodeParam
param_named q = record { kind = param_kind q.kind; cells = q.cells }

-- a routine of level 2 or more takes its link before its own parameters
abbrev pub link_params : (level outer : ℕ) → List CodeParam
link_params zero outer = []
link_params (suc zero) outer = []
link_params (suc (suc above)) outer = record { kind = param.Link; cells = outer } ∷ []

-- a routine that has the range of a result is a function
abbrev pub is_function : Option Range → Bool
is_function (Some range) = true
is_function None = false

-- the head of a routine, whose slots these runs name
abbrev pub head_for : Program → (r : ℕ) → List Run → PlainHead
head_for p r runs = record {
  slots = length (routine_kinds p r);
  declared = (routine_at p r).declared;
  params = link_params (routine_at p r).level (routine_at p r).outer ++ map param_named (routine_at p r).params;
  runs = runs;
  has_result = is_function (routine_at p r).result;
}

-- ---- the routines, one behind another

-- the code of n routines from one on
abbrev pub routines_code : Program → Tables → (r n at : ℕ) → List LineInstr
routines_code p tables r zero at = []
routines_code p tables r (suc n) at = in_row at (routine_code p tables r at) (λ next. routines_code p tables (suc r) n next)

-- a variable of the module, as a code names it
abbrev pub global_named : Global → PlainGlobal
global_named g = record { name = g.name; slot = g.slot; cells = g.cells }

-- the routines from one on, each with its runs
abbrev pub routines_named : Program → Tables → (r at : ℕ) → List (List Run) → List PlainRoutine
routines_named p tables r at [] = []
routines_named p tables r at (runs ∷ rest) =
    let end : ℕ = at + length (routine_code p tables r at) in
    record { name = (routine_at p r).name; head = head_for p r runs; code_end = end } ∷ routines_named p tables (suc r) end rest

-- the code of a program, given its tables and the runs of kinds in which the slots of each routine are named
abbrev pub program_code : Program → Tables → List (List Run) → PlainCode
program_code p tables runs = record {
  version = latest_version;
  routines = routines_named p tables 0 0 runs;
  globals = map global_named p.globals;
  ranges = tables.ranges;
  texts = tables.texts;
  instrs = instrs_of (routines_code p tables 0 (length p.routines) 0);
  lines = lines_of (routines_code p tables 0 (length p.routines) 0);
}
