-- The bytes of an object: the sections of a code, one after another.
use Rattle.std.specs.Prelude.{◌≡◌, ℕ, ◌+◌, nat_eq, if◌then◌else◌, List, [], ◌∷◌, ◌++◌, length, take, get_or, sum_by}
use Rattle.std.specs.List.{flat_map, range_with_len}
use Rattle.alma_base.specs.declared.number.Range.{Range}
use Rattle.alma_code.specs.declared.cell.SlotKind.{SlotKind}
use Rattle.alma_code.specs.declared.cell.SlotKind.TheVariants as slot
use Rattle.alma_code.specs.declared.code.Line.{Line}
use Rattle.alma_code.specs.declared.head.CodeParam.{CodeParam}
use Rattle.alma_code.specs.declared.head.ParamKind.{ParamKind}
use Rattle.alma_code.specs.declared.head.ParamKind.TheVariants as param
use Rattle.alma_code.specs.declared.head.Run.{Run}
use Rattle.alma_code.specs.Plain.{PlainCode, PlainGlobal, routine_at}
use Rattle.alma_code.specs.Records.{param_count, run_count, name_byte_count, text_byte_count, latest_version}
use Rattle.alma_code.specs.Records.{KeepsVersion, KeepsCounts, KeepsRecords}
use Rattle.alma_code.specs.Rules.{IsTable}
use Rattle.alma_object_format.specs.Bytes.{u16_bytes, words_bytes, i64_bytes}
use Rattle.alma_object_format.specs.Instrs.{instr_bytes}
use Rattle.alma_object_format.specs.Header.{magic}

-- ---- the numbers of kinds

-- the number of a kind of params, in its record
abbrev pub param_number : ParamKind → ℕ
param_number param.Value = 0
param_number param.Place = 1
param_number param.Mix = 2
param_number param.Cells = 3
param_number param.Link = 4

-- the number of a kind of slots, in the record of a run
abbrev pub slot_number : SlotKind → ℕ
slot_number slot.Number = 0
slot_number (slot.Place size) = 1
slot_number slot.Mark = 2
slot_number (slot.Link size) = 3

-- the length of a place slot, or the routine of a link slot; else 0
abbrev pub slot_size : SlotKind → ℕ
slot_size slot.Number = 0
slot_size (slot.Place size) = size
slot_size slot.Mark = 0
slot_size (slot.Link size) = size

-- ---- ends

-- where the part of an item ends: how much it and the items before it have together
abbrev pub end_of : {A : Type 0} → (size : A → ℕ) → List A → ℕ → ℕ
end_of size parts k = sum_by size (take (k + 1) parts)

-- the bytes of all items, each with its number
abbrev pub section : (ℕ → List ℕ) → (n : ℕ) → List ℕ
section each n = flat_map each (range_with_len 0 n)

-- ---- the records

-- what stands for a global that is not there
abbrev pub no_global : PlainGlobal
no_global = record { name = []; slot = 0; cells = 0 }

module _ (code : PlainCode) where
  -- the ends of its name, params, runs and code, its slots and declared cells, and 1 where it has a
  -- result, else 0
  unfoldable pub routine_bytes : ℕ → List ℕ
  routine_bytes r = words_bytes (
      end_of (λ x. length x.name) code.routines r
      ∷ end_of (λ x. length x.head.params) code.routines r
      ∷ end_of (λ x. length x.head.runs) code.routines r
      ∷ (routine_at code r).code_end
      ∷ (routine_at code r).head.slots
      ∷ (routine_at code r).head.declared
      ∷ (if (routine_at code r).head.has_result then 1 else 0)
      ∷ [])

  -- the end of its name, which stands behind those of the routines, its slot and its cells
  unfoldable pub global_bytes : ℕ → List ℕ
  global_bytes g = words_bytes (
      (sum_by (λ x. length x.name) code.routines + end_of (λ x. length x.name) code.globals g)
      ∷ (get_or code.globals g no_global).slot
      ∷ (get_or code.globals g no_global).cells
      ∷ [])

  -- the end of a text
  unfoldable pub text_end_bytes : ℕ → List ℕ
  text_end_bytes t = words_bytes (end_of length code.texts t ∷ [])

-- its kind and its cells
unfoldable pub param_bytes : CodeParam → List ℕ
param_bytes p = words_bytes (param_number p.kind ∷ p.cells ∷ [])

-- its kind, its length or routine, and its end
unfoldable pub run_bytes : Run → List ℕ
run_bytes run = words_bytes (slot_number run.kind ∷ slot_size run.kind ∷ run.end ∷ [])

-- low and high, of eight bytes each
unfoldable pub range_bytes : Range → List ℕ
range_bytes range = i64_bytes range.low ++ i64_bytes range.high

-- the address and the number of the line
unfoldable pub line_bytes : Line → List ℕ
line_bytes line = words_bytes (line.at ∷ line.line ∷ [])

-- ---- the sections

-- the counts; the latest version has that of the lines
abbrev pub counts_of : PlainCode → List ℕ
counts_of code =
    length code.routines ∷ length code.globals ∷ param_count code ∷ run_count code ∷ length code.ranges ∷ length code.texts
    ∷ name_byte_count code ∷ text_byte_count code ∷ length code.instrs
    ∷ (if nat_eq code.version latest_version then length code.lines ∷ [] else [])

-- the magic, the version and the counts
unfoldable pub header_bytes : PlainCode → List ℕ
header_bytes code = magic ++ (u16_bytes code.version ++ words_bytes (counts_of code))

-- the records of routines, globals, params, runs, ranges and texts
unfoldable pub table_bytes : PlainCode → List ℕ
table_bytes code =
    section (routine_bytes code) (length code.routines)
    ++ (section (global_bytes code) (length code.globals)
    ++ (flat_map param_bytes (flat_map (λ r. r.head.params) code.routines)
    ++ (flat_map run_bytes (flat_map (λ r. r.head.runs) code.routines)
    ++ (flat_map range_bytes code.ranges
    ++ section (text_end_bytes code) (length code.texts)))))

-- the bytes of the names and of the texts
unfoldable pub pool_bytes : PlainCode → List ℕ
pool_bytes code = flat_map (λ r. r.name) code.routines ++ (flat_map (λ g. g.name) code.globals ++ flat_map (λ t. t) code.texts)

-- the whole object
unfoldable pub object_bytes : PlainCode → List ℕ
object_bytes code = header_bytes code ++ (table_bytes code
    ++ (pool_bytes code ++ (flat_map instr_bytes code.instrs ++ flat_map line_bytes code.lines)))

-- ---- objects

-- the bytes are the object of a code, whose version, counts, records and tables the format allows
pub record IsObject (code : PlainCode) (bytes : List ℕ) : Type 0 where
  pub version : KeepsVersion code
  pub counts : KeepsCounts code
  pub records : KeepsRecords code
  pub table : IsTable code
  pub spelled : object_bytes code ≡ bytes
