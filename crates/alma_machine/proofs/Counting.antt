-- How many slots a routine of a sound code has.
use Rattle.std.proofs.Common.{◌≡◌, ℕ, ◌+◌, ◌-◌, ◌<◌, ◌≤◌, List, [], ◌∷◌, length, ap, ◌∙◌, arith}
use Rattle.std.specs.Prelude.{◌&&◌, ◌++◌, nat_eq, nat_le, replicate}
use Rattle.std.specs.List.{list_all}
use Rattle.std.proofs.lemmas.Bool.{and_parts, eqb-true, leb-true}
use Rattle.std.proofs.lemmas.List.{length-replicate, length-append}
use Rattle.std.proofs.lemmas.Option.{slice_get_within}
use Rattle.alma_code.specs.declared.cell.SlotKind.TheVariants as slot
use Rattle.alma_code.specs.declared.head.Run.{Run}
use Rattle.alma_code.specs.Layout.{RunsRise, kinds_of}
use Rattle.alma_code.specs.Plain.{PlainCode, head_at, kinds_at}
use Rattle.alma_code_laws.proofs.Runs.{first_number}
use Rattle.alma_code.specs.Rules.{IsSound, last_end, names_routine}

-- the runs fill the slots
length_kinds : (low top : ℕ) (runs : List Run) → RunsRise low runs top → length (kinds_of low runs) + low ≡ top
length_kinds low top [] h = rw h (omega arith)
length_kinds low top (run ∷ runs) h =
    let rest : length (kinds_of run.end runs) + run.end ≡ top = length_kinds run.end top runs h.1 in
    let all : length (replicate (run.end - low) run.kind ++ kinds_of run.end runs) ≡ (run.end - low) + length (kinds_of run.end runs) =
    length-append (replicate (run.end - low) run.kind) (kinds_of run.end runs)
    ∙ ap (λ n. n + length (kinds_of run.end runs)) (length-replicate (run.end - low) run.kind) in
    omega (arith, h.0)

-- a routine has few slots
pub few_kinds : (code : PlainCode) → IsSound code → (r : ℕ) → r < length code.routines → length (kinds_at code r) ≤ 8388608
few_kinds code sound r lt =
    let h = head_at code r in
    let named = list_all (λ run. names_routine code run.kind) h.runs in
    let two = and_parts (nat_eq (last_end 0 h.runs) h.slots && (nat_le h.slots 8388608 && named))
    (nat_le h.declared h.slots && nat_le h.declared 1048576) (sound.heads r lt).1 in
    let parts = and_parts (nat_eq (last_end 0 h.runs) h.slots) (nat_le h.slots 8388608 && named) two.0 in
    let last = eqb-true (last_end 0 h.runs) h.slots parts.0 in
    let low = leb-true h.slots 8388608 (and_parts (nat_le h.slots 8388608) named parts.1).0 in
    let all = length_kinds 0 (last_end 0 h.runs) h.runs (sound.table.runs r lt) in
    omega arith

-- a routine declares few cells
pub few_declared : (code : PlainCode) → IsSound code → (r : ℕ) → r < length code.routines → (head_at code r).declared ≤ 1048576
few_declared code sound r lt =
    let h = head_at code r in
    let named = list_all (λ run. names_routine code run.kind) h.runs in
    let two = and_parts (nat_eq (last_end 0 h.runs) h.slots && (nat_le h.slots 8388608 && named))
    (nat_le h.declared h.slots && nat_le h.declared 1048576) (sound.heads r lt).1 in
    leb-true h.declared 1048576 (and_parts (nat_le h.declared h.slots) (nat_le h.declared 1048576) two.1).1

-- the module body has the slot of the input position
pub some_slots : (code : PlainCode) → IsSound code → 1 ≤ (head_at code 0).slots
some_slots code sound =
    let h = head_at code 0 in
    let lt = sound.table.some in
    let named = list_all (λ run. names_routine code run.kind) h.runs in
    let two = and_parts (nat_eq (last_end 0 h.runs) h.slots && (nat_le h.slots 8388608 && named))
    (nat_le h.declared h.slots && nat_le h.declared 1048576) (sound.heads 0 lt).1 in
    let last = eqb-true (last_end 0 h.runs) h.slots
    (and_parts (nat_eq (last_end 0 h.runs) h.slots) (nat_le h.slots 8388608 && named) two.0).0 in
    let all = length_kinds 0 (last_end 0 h.runs) h.runs (sound.table.runs 0 lt) in
    let first = slice_get_within (kinds_at code 0) 0 slot.Number (first_number code sound) in
    omega arith
