-- How many bytes the names and the texts of a program have, where its source is short.
use Rattle.std.specs.Prelude.{◌+◌, ◌*◌, ◌≤◌, length, sum_by}
use Rattle.alma_base.specs.Limits.{source_limit}
use Rattle.alma_ir.specs.Tree.{Program}
use Rattle.alma_ir.specs.Phrases.{stmts_phrases}
use Rattle.alma_ir.specs.Checked.{text_bytes}

-- the names of routines and globals and all texts together have at most four times as many bytes as a source may have
abbrev pub HasRoom : Program → Type 0
HasRoom p =
    sum_by (λ r. length r.name) p.routines + sum_by (λ g. length g.name) p.globals
    + sum_by (λ r. sum_by text_bytes (stmts_phrases r.body)) p.routines ≤ 4 * source_limit
