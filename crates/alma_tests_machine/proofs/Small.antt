-- The counts of small codes are within their limits.
use Rattle.std.proofs.Common.{◌≤◌, List, length, arith, lit≤}
use Rattle.alma_code.specs.declared.instr.Instr.{Instr}
use Rattle.alma_code.specs.Records.{KeepsCounts}
use Rattle.alma_tests_machine.specs.Small.{small_code}

-- a small code of few instructions keeps its counts
pub small_counts : (instrs : List Instr) → length instrs ≤ 99 → KeepsCounts (small_code instrs)
small_counts instrs few = record {
  routines = lit≤ tt;
  globals = lit≤ tt;
  params = lit≤ tt;
  runs = lit≤ tt;
  ranges = lit≤ tt;
  texts = lit≤ tt;
  names = lit≤ tt;
  text_bytes = lit≤ tt;
  instrs = omega (arith, few);
  lines = lit≤ tt;
}
