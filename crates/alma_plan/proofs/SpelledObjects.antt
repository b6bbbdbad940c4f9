-- Objects that spell code of a program: they are within the length of objects, and are not refused.
use Rattle.std.proofs.Common.{◌≡◌, ◌≤◌, ◌+◌, ◌∙◌, ℕ, Bool, true, false, List, Option, None, length, ap, arith}
use Rattle.std.specs.Prelude.{if◌then◌else◌, nat_eq, nat_le}
use Rattle.alma_base.specs.Limits.{instr_limit, object_limit, pool_limit, record_limit, slot_limit}
use Rattle.alma_code.specs.Rules.{code_fault}
use Rattle.alma_code.specs.declared.step.VerifyFault.{VerifyFault}
use Rattle.alma_ir.specs.Tree.{Program}
use Rattle.alma_object_format.specs.Bytes.{u32_at}
use Rattle.alma_object_format.specs.declared.header.Header.{Header}
use Rattle.alma_object_format.specs.Header.{end_at, header_of, count_fault, counts_fault, header_fault}
use Rattle.alma_object_format.specs.Walk.{routines_fault, globals_fault, params_fault, runs_fault, ranges_fault, texts_fault, pools_fault}
use Rattle.alma_object_format.specs.Walk.{instrs_fault, lines_fault, sections_fault, object_fault}
use Rattle.alma_object_format.specs.declared.fault.ObjectFault.{ObjectFault}
use Rattle.alma_object_format.specs.declared.fault.ObjectFault.TheVariants as fault
use Rattle.alma_base.proofs.FirstFault.{or_none, unless_none}
use Rattle.alma_object_format.proofs.Kept.{le_fact, whole_none}
use Rattle.alma_plan.specs.Objects.{object_refusal, refusal_by}
use Rattle.alma_run_laws.proofs.Spelled.{spelled_sound}
use Rattle.alma_run_laws.specs.Stored.{SpellsCodeOf}
use Rattle.alma_verify.specs.Bytes.{object_code}

-- ---- the length

-- a count without a fault is at most its greatest value
count_kept : (bytes : List ℕ) (at greatest : ℕ) → count_fault bytes at greatest ≡ None → u32_at bytes at ≤ greatest
unfolding count_fault
count_kept bytes at greatest e = le_fact _ _ (unless_none _ _ _ (whole_none bytes (at + 4) _ e).1).0

-- so is that of lines, which version 1 has not
lines_kept : (bytes : List ℕ) (has : Bool) → (if has then count_fault bytes 46 record_limit else None) ≡ None
    → (if has then u32_at bytes 46 else 0) ≤ record_limit
lines_kept bytes true e = count_kept bytes 46 record_limit e
lines_kept bytes false e = omega arith

counts_at : (has : Bool) → (if has then 50 else 46) ≤ 50
counts_at true = omega arith
counts_at false = omega arith

-- the sections that such counts have
header_short : (bytes : List ℕ) → header_fault bytes ≡ None → end_at (header_of bytes) ≤ object_limit
unfolding header_fault counts_fault
header_short bytes e =
    let version = nat_eq (header_of bytes).version 2 in
    let routines = or_none _ _ (or_none _ _ (or_none _ _ e).1).1 in
    let globals = or_none _ _ (unless_none _ _ _ routines.1).1 in
    let params = or_none _ _ globals.1 in
    let runs = or_none _ _ params.1 in
    let ranges = or_none _ _ runs.1 in
    let texts = or_none _ _ ranges.1 in
    let names = or_none _ _ texts.1 in
    let text_bytes = or_none _ _ names.1 in
    let instrs = or_none _ _ (unless_none _ _ _ text_bytes.1).1 in
    omega (
      arith,
      count_kept bytes 10 262144 routines.0,
      count_kept bytes 14 record_limit globals.0,
      count_kept bytes 18 record_limit params.0,
      count_kept bytes 22 slot_limit runs.0,
      count_kept bytes 26 record_limit ranges.0,
      count_kept bytes 30 record_limit texts.0,
      count_kept bytes 34 pool_limit names.0,
      count_kept bytes 38 pool_limit text_bytes.0,
      count_kept bytes 42 instr_limit instrs.0,
      lines_kept bytes version instrs.1,
      counts_at version,
    )

-- no byte stands behind them
end_kept : (bytes : List ℕ) (h : Header) → sections_fault bytes h ≡ None → length bytes ≤ end_at h
unfolding sections_fault
end_kept bytes h e =
    let routines = or_none (routines_fault bytes h) _ e in
    let globals = or_none (globals_fault bytes h) _ routines.1 in
    let params = or_none (params_fault bytes h) _ globals.1 in
    let runs = or_none (runs_fault bytes h) _ params.1 in
    let ranges = or_none (ranges_fault bytes h) _ runs.1 in
    let texts = or_none (texts_fault bytes h) _ ranges.1 in
    let pools = or_none (pools_fault bytes h) _ texts.1 in
    let instrs = or_none (instrs_fault bytes h) _ pools.1 in
    let lines = or_none (lines_fault bytes h) _ instrs.1 in
    le_fact _ _ (unless_none (nat_le (length bytes) (end_at h)) (fault.Trailing (end_at h)) None lines.1).0

-- bytes without a fault are no more than an object may have
object_short : (bytes : List ℕ) → object_fault bytes ≡ None → length bytes ≤ object_limit
unfolding object_fault
object_short bytes e =
    let parts = or_none _ _ e in
    omega (arith, header_short bytes parts.0, end_kept bytes (header_of bytes) parts.1)

-- ---- objects that spell code

pub spelled_short : (p : Program) (bytes : List ℕ) → SpellsCodeOf p bytes → length bytes ≤ object_limit
spelled_short p bytes spells = object_short bytes spells.clean

-- in the name of any program
pub spelled_accepted : (program : List ℕ) (p : Program) (bytes : List ℕ) → SpellsCodeOf p bytes → object_refusal program bytes ≡ None
spelled_accepted program p bytes spells =
    ap (λ (fault : Option ObjectFault). refusal_by program fault (code_fault (object_code bytes))) spells.clean
    ∙ ap (λ (fault : Option VerifyFault). refusal_by program None fault) (spelled_sound p bytes spells)
