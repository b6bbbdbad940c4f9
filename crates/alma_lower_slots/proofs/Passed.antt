-- What is promised of a code whose slots are shared.
use Rattle.std.proofs.Common.{◌≡◌, refl, sym, subst}
use Rattle.alma_code.specs.Machine.{start, after}
use Rattle.alma_code.specs.Plain.{PlainCode}
use Rattle.alma_code.specs.Reads.{code_reads}
use Rattle.alma_code.specs.Records.{KeepsCounts, KeepsRecords, KeepsVersion}
use Rattle.alma_code.specs.Rules.{IsSound}
use Rattle.alma_lower_slots.specs.Same.{DoesTheSame, KeepsTables}
use Rattle.alma_lower_slots.specs.Inner.Shared.{IsSharedOf}
use Rattle.alma_lower_slots.proofs.Variables.{hold_themselves}
use Rattle.alma_lower_slots.proofs.Whole.{renamed_does_the_same}
use Rattle.alma_lower_slots.proofs.RecordsRenamed.{renamed_keeps_counts, renamed_keeps_records, renamed_keeps_version, renamed_names}
use Rattle.alma_lower_slots.proofs.RecordsRenamed.{renamed_reads}
use Rattle.alma_lower_slots.proofs.SoundRenamed.{renamed_is_sound}

-- all that the pass promises
pub record IsPassed (code new : PlainCode) : Type 0 where
  pub same : DoesTheSame code new
  pub sound : IsSound new
  pub counts : KeepsCounts new
  pub records : KeepsRecords new
  pub version : KeepsVersion new
  pub tables : KeepsTables code new
  pub reads : code_reads new ≡ code_reads code

-- of a code as it is
pub passed_as_is : (code : PlainCode) → IsSound code → KeepsCounts code → KeepsRecords code → KeepsVersion code → IsPassed code code
passed_as_is code sound counts records version = record {
  same = record {
    mode = λ input n. refl;
    last = λ input n. refl;
    printed = λ input n. refl;
    variables = λ input n succeeded. hold_themselves code.globals (after code input n (start code)).now;
  };
  sound = sound;
  counts = counts;
  records = records;
  version = version;
  tables = record { version = refl; globals = refl; ranges = refl; texts = refl; lines = refl; size = refl; names = refl };
  reads = refl;
}

-- of one whose slots are shared
passed : (code new : PlainCode) → IsSound code → KeepsCounts code → KeepsRecords code → KeepsVersion code → IsSharedOf code new
    → IsPassed code new
passed code new sound counts records version h = record {
  same = renamed_does_the_same code new h.sharing sound h.shares h.renames;
  sound = renamed_is_sound code new h.sharing sound h.shares h.renames h.heads;
  counts = renamed_keeps_counts code new h.sharing sound h.shares h.renames h.heads counts;
  records = renamed_keeps_records code new h.sharing sound h.shares h.renames h.heads records;
  version = renamed_keeps_version code new h.sharing sound h.shares h.renames h.heads version;
  tables =
      record {
        version = h.renames.version;
        globals = h.renames.globals;
        ranges = h.renames.ranges;
        texts = h.renames.texts;
        lines = h.renames.lines;
        size = h.renames.size;
        names = renamed_names code new h.sharing sound h.shares h.renames h.heads;
      };
  reads = renamed_reads code new h.sharing sound h.shares h.renames h.heads;
}

-- the same, where the code in memory stands for it
pub passed_as : (code new whole : PlainCode) → whole ≡ new → IsSound code → KeepsCounts code → KeepsRecords code → KeepsVersion code
    → IsSharedOf code new
    → IsPassed code whole
passed_as code new whole is sound counts records version h = subst (IsPassed code) (sym is) (passed code new sound counts records version h)
