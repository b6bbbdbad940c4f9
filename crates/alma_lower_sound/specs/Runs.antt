-- The runs in which a code of a program names the slots of its routines.
use Rattle.std.specs.Prelude.{◌<◌, ℕ, length}
use Rattle.alma_code.specs.Plain.{PlainCode, head_at}
use Rattle.alma_ir.specs.Tree.{Program}
use Rattle.alma_lower_templates.specs.Runs.{NamesKinds}
use Rattle.alma_lower_templates.specs.Slots.{routine_kinds}

-- the runs of each routine name the kinds of its slots, and each is as long as it can be
abbrev pub HasLongRuns : Program → PlainCode → Type 0
HasLongRuns p code = (r : ℕ) → r < length p.routines → NamesKinds (head_at code r).runs (routine_kinds p r)
