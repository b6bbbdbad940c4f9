-- A map with texts as keys, seen as names with their bytes.
use Rattle.std.specs.Prelude.{ℕ, String, map}
use Rattle.std.specs.Global.{Vec}
use Rattle.std.specs.declared.alloc.Global.{Global}
use Rattle.std.specs.String.{string_bytes}
use Rattle.std.specs.BTreeMap.{BTreeMap}
use Rattle.std.specs.FinMap.{from_entries}
use Rattle.alma_io.specs.Memory.{NamedBytes}

-- the names and bytes of a map
abbrev pub named_bytes : BTreeMap (String Global) (Vec ℕ) → NamedBytes
named_bytes files = from_entries (map (λ file. (string_bytes file.0, file.1.items)) files.entries)
