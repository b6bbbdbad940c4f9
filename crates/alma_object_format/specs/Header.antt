-- The header of an object: the magic, the version and the counts.
use Rattle.std.specs.Prelude.{◌≡◌, ℕ, ◌+◌, ◌*◌, ◌≤◌, Bool, true, ◌||◌, nat_eq, nat_le, if◌then◌else◌, Option, None, List, codes}
use Rattle.std.specs.List.{starts_with}
use Rattle.alma_base.specs.Limits.{routine_limit, instr_limit, slot_limit, record_limit, pool_limit}
use Rattle.alma_code.specs.Records.{first_version, latest_version}
use Rattle.alma_object_format.specs.declared.fault.ObjectFault.{ObjectFault}
use Rattle.alma_object_format.specs.declared.fault.ObjectFault.TheVariants as fault
use Rattle.alma_object_format.specs.declared.header.Header.{Header}
use Rattle.alma_object_format.specs.Bytes.{u16_at, u32_at}
use Rattle.alma_base.specs.FirstFault.{unless, or_else}
use Rattle.alma_object_format.specs.Fault.{whole}
use Rattle.alma_object_format.specs.Lengths.{header_len, first_header_len, routine_len, global_len, param_len, run_len, range_len}
use Rattle.alma_object_format.specs.Lengths.{text_end_len, instr_len, line_len}

-- the bytes that each object begins with
abbrev pub magic : List ℕ
magic = codes "ALMA0OBJ"

-- the version and the counts; the first version has no lines
abbrev pub header_of : List ℕ → Header
header_of bytes = record {
  version = u16_at bytes 8;
  routines = u32_at bytes 10;
  globals = u32_at bytes 14;
  params = u32_at bytes 18;
  runs = u32_at bytes 22;
  ranges = u32_at bytes 26;
  texts = u32_at bytes 30;
  name_bytes = u32_at bytes 34;
  text_bytes = u32_at bytes 38;
  instrs = u32_at bytes 42;
  lines = if nat_eq (u16_at bytes 8) latest_version then u32_at bytes 46 else 0;
}

-- ---- the faults of the header

-- of the magic, which is eight bytes
abbrev pub magic_fault : List ℕ → Option ObjectFault
magic_fault bytes = whole bytes 8 (unless (starts_with nat_eq bytes magic) fault.Magic None)

-- a version that is known
abbrev pub is_version : ℕ → Bool
is_version version = nat_eq version first_version || nat_eq version latest_version

-- of the version
abbrev pub version_fault : List ℕ → Option ObjectFault
version_fault bytes = whole bytes 10 (unless (is_version (u16_at bytes 8)) (fault.Version (u16_at bytes 8)) None)

-- of the count at an offset, with its greatest value
unfoldable pub count_fault : List ℕ → (at greatest : ℕ) → Option ObjectFault
count_fault bytes at greatest = whole bytes (at + 4) (unless (nat_le (u32_at bytes at) greatest) (fault.BadCount at) None)

-- of the counts: there is a routine, and no text bytes stand without a text
unfoldable pub counts_fault : List ℕ → Option ObjectFault
counts_fault bytes =
    or_else (count_fault bytes 10 routine_limit)
    (unless (nat_le 1 (u32_at bytes 10)) (fault.BadCount 10)
    (or_else (count_fault bytes 14 record_limit)
    (or_else (count_fault bytes 18 record_limit)
    (or_else (count_fault bytes 22 slot_limit)
    (or_else (count_fault bytes 26 record_limit)
    (or_else (count_fault bytes 30 record_limit)
    (or_else (count_fault bytes 34 pool_limit)
    (or_else (count_fault bytes 38 pool_limit)
    (unless (nat_eq (u32_at bytes 38) 0 || nat_le 1 (u32_at bytes 30)) (fault.BadCount 38)
    (or_else (count_fault bytes 42 instr_limit)
    (if nat_eq (u16_at bytes 8) latest_version then count_fault bytes 46 record_limit else None)))))))))))

-- of the header: of the magic, else of the version, else of the counts
unfoldable pub header_fault : List ℕ → Option ObjectFault
header_fault bytes = or_else (magic_fault bytes) (or_else (version_fault bytes) (counts_fault bytes))

-- ---- what a header without fault keeps

-- the version is known, and the first has no lines; no count is past its greatest value, there is a
-- routine, and no text bytes stand without a text
pub record IsWithin (h : Header) : Type 0 where
  pub version : is_version h.version ≡ true
  pub no_lines : h.version ≡ first_version → h.lines ≡ 0
  pub some : 1 ≤ h.routines
  pub routines : h.routines ≤ routine_limit
  pub globals : h.globals ≤ record_limit
  pub params : h.params ≤ record_limit
  pub runs : h.runs ≤ slot_limit
  pub ranges : h.ranges ≤ record_limit
  pub texts : h.texts ≤ record_limit
  pub name_bytes : h.name_bytes ≤ pool_limit
  pub text_bytes : h.text_bytes ≤ pool_limit
  pub no_text_bytes : h.texts ≡ 0 → h.text_bytes ≡ 0
  pub instrs : h.instrs ≤ instr_limit
  pub lines : h.lines ≤ record_limit

-- ---- where the sections begin, each behind the one before

-- the records of routines, behind the last count
abbrev pub routines_at : Header → ℕ
routines_at h = if nat_eq h.version latest_version then header_len else first_header_len

-- the records of globals
abbrev pub globals_at : Header → ℕ
globals_at h = routines_at h + routine_len * h.routines

-- the records of params
abbrev pub params_at : Header → ℕ
params_at h = globals_at h + global_len * h.globals

-- the records of runs
abbrev pub runs_at : Header → ℕ
runs_at h = params_at h + param_len * h.params

-- the records of ranges
abbrev pub ranges_at : Header → ℕ
ranges_at h = runs_at h + run_len * h.runs

-- the ends of the texts
abbrev pub texts_at : Header → ℕ
texts_at h = ranges_at h + range_len * h.ranges

-- the bytes of all names
abbrev pub name_pool_at : Header → ℕ
name_pool_at h = texts_at h + text_end_len * h.texts

-- the bytes of all texts
abbrev pub text_pool_at : Header → ℕ
text_pool_at h = name_pool_at h + h.name_bytes

-- the records of instructions
abbrev pub instrs_at : Header → ℕ
instrs_at h = text_pool_at h + h.text_bytes

-- the records of lines
abbrev pub lines_at : Header → ℕ
lines_at h = instrs_at h + instr_len * h.instrs

-- the end of the object, behind the last section
abbrev pub end_at : Header → ℕ
end_at h = lines_at h + line_len * h.lines
