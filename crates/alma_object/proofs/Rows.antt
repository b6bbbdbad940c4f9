-- The records of the code that stands in bytes without fault are as they must be.
use Rattle.std.proofs.Common.{◌≡◌, ◌⊎◌, ℕ, zero, suc, ◌+◌, ◌-◌, ◌*◌, ◌<◌, ◌≤◌, ℤ, Bool, true, false, ◌&&◌, not, None, List, ◌∷◌, length}
use Rattle.std.proofs.Common.{get_or, map, refl, sym, ap, subst, ◌∙◌, arith, inl, inr}
use Rattle.std.specs.Prelude.{nat_eq, nat_lt, nat_le, int_le, ◌||◌, if◌then◌else◌, slice_index}
use Rattle.std.specs.List.{range_with_len, list_all}
use Rattle.std.proofs.lemmas.Bool.Decides.{nat_tests}
use Rattle.alma_base.specs.declared.number.Range.{Range}
use Rattle.alma_code.specs.declared.code.Line.{Line}
use Rattle.alma_code.specs.declared.head.CodeParam.{CodeParam}
use Rattle.alma_code.specs.declared.head.Run.{Run}
use Rattle.alma_code.specs.declared.instr.Instr.TheVariants as I
use Rattle.alma_code.specs.Lines.{lines_rise}
use Rattle.alma_code.specs.Plain.{PlainGlobal}
use Rattle.alma_code.specs.Records.{KeepsRecords, KeepsVersion, IsFirst, is_name, has_cells, same_kind, runs_differ, is_routine_record}
use Rattle.alma_code.specs.Records.{is_first_kind, is_first_param, is_first_form, is_first_routine}
use Rattle.alma_object_format.specs.declared.fault.ObjectFault.TheVariants as fault
use Rattle.alma_object_format.specs.declared.header.Header.{Header}
use Rattle.alma_object_format.specs.Bytes.{u32_at, i64_at}
use Rattle.alma_base.specs.FirstFault.{unless}
use Rattle.alma_object_format.specs.Fault.{first_fault}
use Rattle.alma_object_format.specs.Fault.{whole as whole_fault}
use Rattle.alma_object_format.specs.Header.{IsWithin, params_at, runs_at, ranges_at, name_pool_at, text_pool_at, instrs_at, lines_at}
use Rattle.alma_object_format.specs.Header.{end_at}
use Rattle.alma_object_format.specs.Instrs.{instr_at, instrs_with, is_instr, last_opcode}
use Rattle.alma_object_format.specs.Walk.{start_of, can_stand, has_one_cell, has_length, name_count, name_end, params_end, runs_end}
use Rattle.alma_object_format.specs.Walk.{param_fault, range_fault}
use Rattle.alma_object_format.specs.Walk.{name_fault, instr_fault, line_fault, sections_fault}
use Rattle.alma_object_format.specs.Reading.{items, param_kind, slot_kind, param_in, run_in, range_in, line_in, name_in, routine_in}
use Rattle.alma_object_format.specs.Reading.{global_in, code_in}
use Rattle.alma_object.proofs.Items.{length_items}
use Rattle.alma_base.proofs.FirstFault.{unless_none, or_none}
use Rattle.alma_object_format.proofs.Kept.{whole_none, le_fact, lt_fact, and_parts, first_none, routine_seen}
use Rattle.alma_base.proofs.FirstFault.{}
use Rattle.alma_object_format.proofs.Kept.{name_seen, sections_kept}
use Rattle.alma_object.proofs.Sections.{param_none, run_none}
use Rattle.alma_object.proofs.Slices.{IsBytes, can_name}
use Rattle.alma_object.proofs.Tables.{RunKept, run_kept}

-- ---- tests of all items

all_from : {A : Type 0} (p : A → Bool) (of : ℕ → A) (a n : ℕ) → ((k : ℕ) → a ≤ k → k < a + n → p (of k) ≡ true)
    → list_all p (map of (range_with_len a n)) ≡ true
all_from p of a zero h = refl
all_from p of a (suc n) h =
    ap (λ b. b && list_all p (map of (range_with_len (a + 1) n))) (h a (omega arith) (omega arith))
    ∙ all_from p of (a + 1) n (λ k low high. h k (omega arith) (omega arith))

all_items : {A : Type 0} (p : A → Bool) (of : ℕ → A) (n : ℕ) → ((k : ℕ) → k < n → p (of k) ≡ true) → list_all p (items of n) ≡ true
all_items p of n h = all_from p of 0 n (λ k low high. h k (omega arith))

both : (a b : Bool) → a ≡ true → b ≡ true → (a && b) ≡ true
both a b ea eb = ap (λ x. x && b) ea ∙ eb

eq_fact : (m n : ℕ) → nat_eq m n ≡ true → m ≡ n
eq_fact m n e = grind (arith, nat_tests)

eq_test : (m n : ℕ) → m ≡ n → nat_eq m n ≡ true
eq_test m n e = grind (arith, nat_tests)

lt_test : (m n : ℕ) → m < n → nat_lt m n ≡ true
lt_test m n lt = grind (arith, nat_tests)

le_test : (m n : ℕ) → m ≤ n → nat_le m n ≡ true
le_test m n le = grind (arith, nat_tests)

-- ---- version 1

first_slot : (n size : ℕ) → n ≤ 2 → is_first_kind (slot_kind n size) ≡ true
first_slot zero size le = refl
first_slot (suc zero) size le = refl
first_slot (suc (suc zero)) size le = refl
first_slot (suc (suc (suc n))) size le = absurd (omega arith)

first_param : (n : ℕ) → n ≤ 3 → is_first_param (param_kind n) ≡ true
first_param zero le = refl
first_param (suc zero) le = refl
first_param (suc (suc zero)) le = refl
first_param (suc (suc (suc zero))) le = refl
first_param (suc (suc (suc (suc n)))) le = absurd (omega arith)

first_form : (n a b c d : ℕ) (v : ℤ) → n ≤ 48 → is_first_form (get_or (I.Fail ∷ instrs_with a b c d v) n I.Fail) ≡ true
first_form zero a b c d v le = refl
first_form (suc zero) a b c d v le = refl
first_form (suc (suc zero)) a b c d v le = refl
first_form (suc (suc (suc zero))) a b c d v le = refl
first_form (suc (suc (suc (suc zero)))) a b c d v le = refl
first_form (suc (suc (suc (suc (suc zero))))) a b c d v le = refl
first_form (suc (suc (suc (suc (suc (suc zero)))))) a b c d v le = refl
first_form (suc (suc (suc (suc (suc (suc (suc zero))))))) a b c d v le = refl
first_form (suc (suc (suc (suc (suc (suc (suc (suc zero)))))))) a b c d v le = refl
first_form (suc (suc (suc (suc (suc (suc (suc (suc (suc zero))))))))) a b c d v le = refl
first_form (suc (suc (suc (suc (suc (suc (suc (suc (suc (suc zero)))))))))) a b c d v le = refl
first_form (suc (suc (suc (suc (suc (suc (suc (suc (suc (suc (suc zero))))))))))) a b c d v le = refl
first_form (suc (suc (suc (suc (suc (suc (suc (suc (suc (suc (suc (suc zero)))))))))))) a b c d v le = refl
first_form (suc (suc (suc (suc (suc (suc (suc (suc (suc (suc (suc (suc (suc zero))))))))))))) a b c d v le = refl
first_form (suc (suc (suc (suc (suc (suc (suc (suc (suc (suc (suc (suc (suc (suc zero)))))))))))))) a b c d v le = refl
first_form (suc (suc (suc (suc (suc (suc (suc (suc (suc (suc (suc (suc (suc (suc (suc zero))))))))))))))) a b c d v le = refl
first_form (suc (suc (suc (suc (suc (suc (suc (suc (suc (suc (suc (suc (suc (suc (suc (suc zero)))))))))))))))) a b c d v le = refl
first_form (suc (suc (suc (suc (suc (suc (suc (suc (suc (suc (suc (suc (suc (suc (suc (suc (suc zero))))))))))))))))) a b c d v le = refl
first_form (suc (suc (suc (suc (suc (suc (suc (suc (suc (suc (suc (suc (suc (suc (suc (suc (suc (suc zero)))))))))))))))))) a b c d v le =
    refl
first_form (suc (suc (suc (suc (suc (suc (suc (suc (suc (suc (suc (suc (suc (suc (suc (suc (suc (suc (suc zero))))))))))))))))))) a b c d v
    le = refl
first_form (suc (suc (suc (suc (suc (suc (suc (suc (suc (suc (suc (suc (suc (suc (suc (suc (suc (suc (suc (suc zero)))))))))))))))))))) a b
    c d v le = refl
first_form (suc (suc (suc
    (suc (suc (suc (suc (suc (suc (suc (suc (suc (suc (suc (suc (suc (suc (suc (suc (suc (suc zero))))))))))))))))))))) a b c d v le = refl
first_form (suc (suc (suc
    (suc (suc (suc (suc (suc (suc (suc (suc (suc (suc (suc (suc (suc (suc (suc (suc (suc (suc (suc zero)))))))))))))))))))))) a b c d v le =
    refl
first_form (suc (suc (suc
    (suc (suc (suc (suc (suc (suc (suc (suc (suc (suc (suc (suc (suc (suc (suc (suc (suc (suc (suc (suc zero))))))))))))))))))))))) a b c d
    v le = refl
first_form (suc (suc (suc
    (suc (suc (suc (suc (suc (suc (suc (suc (suc (suc (suc (suc (suc (suc (suc (suc (suc (suc (suc (suc (suc zero)))))))))))))))))))))))) a
    b c d v le = refl
first_form (suc (suc (suc
    (suc (suc (suc (suc (suc
    (suc (suc (suc (suc (suc (suc (suc (suc (suc (suc (suc (suc (suc (suc (suc (suc (suc zero))))))))))))))))))))))))) a b c d v le = refl
first_form (suc (suc (suc
    (suc (suc (suc (suc (suc
    (suc (suc (suc (suc (suc (suc (suc (suc (suc (suc (suc (suc (suc (suc (suc (suc (suc (suc zero)))))))))))))))))))))))))) a b c d v le =
    refl
first_form (suc (suc (suc
    (suc (suc (suc (suc (suc
    (suc (suc (suc (suc (suc (suc (suc (suc (suc (suc (suc (suc (suc (suc (suc (suc (suc (suc (suc zero))))))))))))))))))))))))))) a b c d v
    le = refl
first_form (suc (suc (suc
    (suc (suc (suc (suc (suc
    (suc (suc (suc (suc (suc (suc (suc (suc (suc (suc (suc (suc (suc (suc (suc (suc (suc (suc (suc (suc zero)))))))))))))))))))))))))))) a b
    c d v le = refl
first_form (suc (suc (suc
    (suc (suc (suc (suc (suc
    (suc (suc (suc (suc (suc
    (suc (suc (suc (suc (suc (suc (suc (suc (suc (suc (suc (suc (suc (suc (suc (suc zero))))))))))))))))))))))))))))) a b c d v le = refl
first_form (suc (suc (suc
    (suc (suc (suc (suc (suc
    (suc (suc (suc (suc (suc
    (suc (suc (suc (suc (suc (suc (suc (suc (suc (suc (suc (suc (suc (suc (suc (suc (suc zero)))))))))))))))))))))))))))))) a b c d v le =
    refl
first_form (suc (suc (suc
    (suc (suc (suc (suc (suc
    (suc (suc (suc (suc (suc
    (suc (suc (suc (suc (suc (suc (suc (suc (suc (suc (suc (suc (suc (suc (suc (suc (suc (suc zero))))))))))))))))))))))))))))))) a b c d v
    le = refl
first_form (suc (suc (suc
    (suc (suc (suc (suc (suc
    (suc (suc (suc (suc (suc
    (suc (suc (suc (suc (suc (suc (suc (suc (suc (suc (suc (suc (suc (suc (suc (suc (suc (suc (suc zero)))))))))))))))))))))))))))))))) a b
    c d v le = refl
first_form (suc (suc (suc
    (suc (suc (suc (suc (suc
    (suc (suc (suc (suc (suc
    (suc (suc (suc (suc (suc
    (suc (suc (suc (suc (suc (suc (suc (suc (suc (suc (suc (suc (suc (suc (suc zero))))))))))))))))))))))))))))))))) a b c d v le = refl
first_form (suc (suc (suc
    (suc (suc (suc (suc (suc
    (suc (suc (suc (suc (suc
    (suc (suc (suc (suc (suc
    (suc (suc (suc (suc (suc (suc (suc (suc (suc (suc (suc (suc (suc (suc (suc (suc zero)))))))))))))))))))))))))))))))))) a b c d v le =
    refl
first_form (suc (suc (suc
    (suc (suc (suc (suc (suc
    (suc (suc (suc (suc (suc
    (suc (suc (suc (suc (suc
    (suc (suc (suc (suc (suc (suc (suc (suc (suc (suc (suc (suc (suc (suc (suc (suc (suc zero))))))))))))))))))))))))))))))))))) a b c d v
    le = refl
first_form (suc (suc (suc
    (suc (suc (suc (suc (suc
    (suc (suc (suc (suc (suc
    (suc (suc (suc (suc (suc
    (suc (suc (suc (suc (suc (suc (suc (suc (suc (suc (suc (suc (suc (suc (suc (suc (suc (suc zero)))))))))))))))))))))))))))))))))))) a b c
    d v le = refl
first_form (suc (suc (suc
    (suc (suc (suc (suc (suc
    (suc (suc (suc (suc (suc
    (suc (suc (suc (suc (suc
    (suc (suc (suc (suc (suc (suc (suc (suc (suc (suc (suc (suc (suc (suc (suc (suc (suc (suc (suc zero)))))))))))))))))))))))))))))))))))))
    a b c d v le = refl
first_form (suc (suc (suc
    (suc (suc (suc (suc (suc
    (suc (suc (suc (suc (suc
    (suc (suc (suc (suc (suc
    (suc (suc (suc (suc (suc
    (suc (suc (suc (suc (suc (suc (suc (suc (suc (suc (suc (suc (suc (suc (suc zero)))))))))))))))))))))))))))))))))))))) a b c d v le =
    refl
first_form (suc (suc (suc
    (suc (suc (suc (suc (suc
    (suc (suc (suc (suc (suc
    (suc (suc (suc (suc (suc
    (suc (suc (suc (suc (suc
    (suc (suc (suc (suc (suc (suc (suc (suc (suc (suc (suc (suc (suc (suc (suc (suc zero))))))))))))))))))))))))))))))))))))))) a b c d v
    le = refl
first_form (suc (suc (suc
    (suc (suc (suc (suc (suc
    (suc (suc (suc (suc (suc
    (suc (suc (suc (suc (suc
    (suc (suc (suc (suc (suc
    (suc (suc (suc (suc (suc (suc (suc (suc (suc (suc (suc (suc (suc (suc (suc (suc (suc zero)))))))))))))))))))))))))))))))))))))))) a b c
    d v le = refl
first_form (suc (suc (suc
    (suc (suc (suc (suc (suc
    (suc (suc (suc (suc (suc
    (suc (suc (suc (suc (suc
    (suc (suc (suc (suc (suc
    (suc (suc (suc (suc (suc (suc (suc (suc (suc (suc (suc (suc (suc (suc (suc (suc (suc (suc zero)))))))))))))))))))))))))))))))))))))))))
    a b c d v le = refl
first_form (suc (suc (suc
    (suc (suc (suc (suc (suc
    (suc (suc (suc (suc (suc
    (suc (suc (suc (suc (suc
    (suc (suc (suc (suc (suc
    (suc (suc (suc (suc (suc
    (suc (suc (suc (suc (suc (suc (suc (suc (suc (suc (suc (suc (suc (suc zero)))))))))))))))))))))))))))))))))))))))))) a b c d v le = refl
first_form (suc (suc (suc
    (suc (suc (suc (suc (suc
    (suc (suc (suc (suc (suc
    (suc (suc (suc (suc (suc
    (suc (suc (suc (suc (suc
    (suc (suc (suc (suc (suc
    (suc (suc (suc (suc (suc (suc (suc (suc (suc (suc (suc (suc (suc (suc (suc zero))))))))))))))))))))))))))))))))))))))))))) a b c d v
    le = refl
first_form (suc (suc (suc
    (suc (suc (suc (suc (suc
    (suc (suc (suc (suc (suc
    (suc (suc (suc (suc (suc
    (suc (suc (suc (suc (suc
    (suc (suc (suc (suc (suc
    (suc (suc (suc (suc (suc (suc (suc (suc (suc (suc (suc (suc (suc (suc (suc (suc zero)))))))))))))))))))))))))))))))))))))))))))) a b c d
    v le = refl
first_form (suc (suc (suc
    (suc (suc (suc (suc (suc
    (suc (suc (suc (suc (suc
    (suc (suc (suc (suc (suc
    (suc (suc (suc (suc (suc
    (suc (suc (suc (suc (suc
    (suc (suc (suc (suc (suc (suc (suc (suc (suc (suc (suc (suc (suc (suc (suc (suc (suc zero))))))))))))))))))))))))))))))))))))))))))))) a
    b c d v le = refl
first_form (suc (suc (suc
    (suc (suc (suc (suc (suc
    (suc (suc (suc (suc (suc
    (suc (suc (suc (suc (suc
    (suc (suc (suc (suc (suc
    (suc (suc (suc (suc (suc
    (suc (suc (suc (suc (suc
    (suc (suc (suc (suc (suc (suc (suc (suc (suc (suc (suc (suc (suc zero)))))))))))))))))))))))))))))))))))))))))))))) a b c d v le = refl
first_form (suc (suc (suc
    (suc (suc (suc (suc (suc
    (suc (suc (suc (suc (suc
    (suc (suc (suc (suc (suc
    (suc (suc (suc (suc (suc
    (suc (suc (suc (suc (suc
    (suc (suc (suc (suc (suc
    (suc (suc (suc (suc (suc (suc (suc (suc (suc (suc (suc (suc (suc (suc zero))))))))))))))))))))))))))))))))))))))))))))))) a b c d v le =
    refl
first_form (suc (suc (suc
    (suc (suc (suc (suc (suc
    (suc (suc (suc (suc (suc
    (suc (suc (suc (suc (suc
    (suc (suc (suc (suc (suc
    (suc (suc (suc (suc (suc
    (suc (suc (suc (suc (suc
    (suc (suc (suc (suc (suc (suc (suc (suc (suc (suc (suc (suc (suc (suc (suc zero)))))))))))))))))))))))))))))))))))))))))))))))) a b c d
    v le = refl
first_form (suc (suc (suc
    (suc (suc (suc (suc (suc
    (suc (suc (suc (suc (suc
    (suc (suc (suc (suc (suc
    (suc (suc (suc (suc (suc
    (suc (suc (suc (suc (suc
    (suc (suc (suc (suc (suc
    (suc (suc (suc (suc (suc (suc (suc (suc (suc (suc (suc (suc (suc (suc (suc (suc n))))))))))))))))))))))))))))))))))))))))))))))))) a b c
    d v le = absurd (omega arith)

-- ---- params and runs

cells_kept : (n size : ℕ) → n ≤ 4 → (not (has_one_cell n) || nat_eq size 1) ≡ true → has_cells (param_kind n) size ≡ true
cells_kept zero size le e = e
cells_kept (suc zero) size le e = refl
cells_kept (suc (suc zero)) size le e = e
cells_kept (suc (suc (suc zero))) size le e = refl
cells_kept (suc (suc (suc (suc zero)))) size le e = refl
cells_kept (suc (suc (suc (suc (suc n))))) size le e = absurd (omega arith)

-- two kinds are one only where their numbers and sizes are
same_numbers : (m s n t : ℕ) → m ≤ 3 → n ≤ 3 → (has_length m || nat_eq s 0) ≡ true
    → (has_length n || nat_eq t 0) ≡ true →
    (nat_eq m n && nat_eq s t) ≡ false → same_kind (slot_kind m s) (slot_kind n t) ≡ false
same_numbers zero s zero t lm ln es et e =
    (let a = eq_fact s 0 es in let b = eq_fact t 0 et in let c = eq_test s t (omega arith) in absurd cc)
same_numbers zero s (suc zero) t lm ln es et e = refl
same_numbers zero s (suc (suc zero)) t lm ln es et e = refl
same_numbers zero s (suc (suc (suc zero))) t lm ln es et e = refl
same_numbers (suc zero) s zero t lm ln es et e = refl
same_numbers (suc zero) s (suc zero) t lm ln es et e = e
same_numbers (suc zero) s (suc (suc zero)) t lm ln es et e = refl
same_numbers (suc zero) s (suc (suc (suc zero))) t lm ln es et e = refl
same_numbers (suc (suc zero)) s zero t lm ln es et e = refl
same_numbers (suc (suc zero)) s (suc zero) t lm ln es et e = refl
same_numbers (suc (suc zero)) s (suc (suc zero)) t lm ln es et e =
    (let a = eq_fact s 0 es in let b = eq_fact t 0 et in let c = eq_test s t (omega arith) in absurd cc)
same_numbers (suc (suc zero)) s (suc (suc (suc zero))) t lm ln es et e = refl
same_numbers (suc (suc (suc zero))) s zero t lm ln es et e = refl
same_numbers (suc (suc (suc zero))) s (suc zero) t lm ln es et e = refl
same_numbers (suc (suc (suc zero))) s (suc (suc zero)) t lm ln es et e = refl
same_numbers (suc (suc (suc zero))) s (suc (suc (suc zero))) t lm ln es et e = e
same_numbers (suc (suc (suc (suc m)))) s n t lm ln es et e = absurd (omega arith)
same_numbers m s (suc (suc (suc (suc n)))) t lm ln es et e = absurd (omega arith)

last_kind : (two : Bool) (n a b : ℕ) → a ≤ b → nat_le n (if two then b else a) ≡ true → n ≤ b
last_kind true n a b le e = le_fact n b e
last_kind false n a b le e = let f = le_fact n a e in omega arith

first_last : (v n a b : ℕ) → v ≡ 1 → nat_le n (if nat_eq v 2 then b else a) ≡ true → n ≤ a
first_last v n a b e f = le_fact n a (ap (λ k. nat_le n (if nat_eq k 2 then b else a)) (sym e) ∙ f)

differ_from : (of : ℕ → Run) (a n : ℕ) → ((k : ℕ) → a ≤ k → k + 1 < a + n → same_kind (of k).kind (of (k + 1)).kind ≡ false)
    → runs_differ (map of (range_with_len a n)) ≡ true
differ_from of a zero h = refl
differ_from of a (suc zero) h = refl
differ_from of a (suc (suc n)) h =
    ap (λ b. not b && runs_differ (map of (range_with_len (a + 1) (suc n)))) (h a (omega arith) (omega arith))
    ∙ differ_from of (a + 1) (suc n) (λ k low high. h k (omega arith) (omega arith))

-- ---- names

-- ---- lines

lines_from : (of : ℕ → Line) (count a n low : ℕ) → (0 < n → low ≤ (of a).at) → ((k : ℕ) → a ≤ k → k < a + n → (of k).at < count)
    → ((k : ℕ) → a ≤ k → k + 1 < a + n → (of k).at < (of (k + 1)).at) →
    lines_rise low count (map of (range_with_len a n)) ≡ true
lines_from of count a zero low first below next = refl
lines_from of count a (suc n) low first below next =
    both (nat_le low (of a).at && nat_lt (of a).at count) (lines_rise (suc (of a).at) count (map of (range_with_len (a + 1) n)))
    (both (nat_le low (of a).at) (nat_lt (of a).at count) (le_test _ _ (first (omega arith)))
    (lt_test _ _ (below a (omega arith) (omega arith))))
    (lines_from of count (a + 1) n (suc (of a).at) (λ lt. next a (omega arith) (omega arith))
    (λ k low high. below k (omega arith) (omega arith)) (λ k low high. next k (omega arith) (omega arith)))

ne_test : (m n : ℕ) → n < m → nat_eq m n ≡ false
ne_test m n lt = grind (arith, nat_tests)

not_true : (b : Bool) → not b ≡ true → b ≡ false
not_true true e = absurd cc
not_true false e = refl

or_cases : (a b : Bool) → (a || b) ≡ true → (a ≡ true) ⊎ (b ≡ true)
or_cases true b e = inl refl
or_cases false b e = inr e

either_version : (v : ℕ) → (nat_eq v 1 ≡ true) ⊎ (nat_eq v 2 ≡ true) → (v ≡ 1) ⊎ (v ≡ 2)
either_version v (inl e) = inl (eq_fact v 1 e)
either_version v (inr e) = inr (eq_fact v 2 e)

-- a param without fault
record ParamKept (bytes : List ℕ) (h : Header) (at : ℕ) : Type 0 where
  kind : nat_le (u32_at bytes at) (if nat_eq h.version 2 then 4 else 3) ≡ true
  size : (not (has_one_cell (u32_at bytes at)) || nat_eq (u32_at bytes (at + 4)) 1) ≡ true

param_kept : (bytes : List ℕ) (h : Header) (p : ℕ) → param_fault bytes h p ≡ None → ParamKept bytes h (params_at h + 8 * p)
unfolding param_fault
param_kept bytes h p e =
    let at = params_at h + 8 * p in
    let a = whole_none bytes (at + 8) _ e in
    let b = unless_none (nat_le (u32_at bytes at) (if nat_eq h.version 2 then 4 else 3)) _ _ a.1 in
    let c = unless_none (not (has_one_cell (u32_at bytes at)) || nat_eq (u32_at bytes (at + 4)) 1) _ _ b.1 in
    record { kind = b.0; size = c.0 }

-- a line without fault
record LineKept (bytes : List ℕ) (h : Header) (l : ℕ) : Type 0 where
  rises : (nat_eq l 0 || nat_lt (u32_at bytes (lines_at h + 8 * l - 8)) (u32_at bytes (lines_at h + 8 * l))) ≡ true
  below : nat_lt (u32_at bytes (lines_at h + 8 * l)) h.instrs ≡ true

line_kept : (bytes : List ℕ) (h : Header) (l : ℕ) → line_fault bytes h l ≡ None → LineKept bytes h l
unfolding line_fault
line_kept bytes h l e =
    let at = lines_at h + 8 * l in
    let a = whole_none bytes (at + 8) _ e in
    let b = unless_none ((nat_eq l 0 || nat_lt (u32_at bytes (at - 8)) (u32_at bytes at)) && nat_lt (u32_at bytes at) h.instrs) _ _ a.1 in
    let c = and_parts (nat_eq l 0 || nat_lt (u32_at bytes (at - 8)) (u32_at bytes at)) (nat_lt (u32_at bytes at) h.instrs) b.0 in
    record { rises = c.0; below = c.1 }

range_kept : (bytes : List ℕ) (h : Header) (r : ℕ) → range_fault bytes h r ≡ None
    → int_le (i64_at bytes (ranges_at h + 16 * r)) (i64_at bytes (ranges_at h + 16 * r + 8)) ≡ true
unfolding range_fault
range_kept bytes h r e =
    let at = ranges_at h + 16 * r in
    let a = whole_none bytes (at + 16) _ e in
    (unless_none (int_le (i64_at bytes at) (i64_at bytes (at + 8))) _ _ a.1).0

opcode_low : (bytes : List ℕ) (h : Header) (i : ℕ) → h.version ≡ 1 → instr_fault bytes h i ≡ None
    → slice_index bytes (instrs_at h + 17 * i) ≤ 48
unfolding instr_fault is_instr
opcode_low bytes h i one e =
    let at = instrs_at h + 17 * i in
    let a = whole_none bytes (at + 17) _ e in
    let b = unless_none (is_instr h.version bytes at) _ _ a.1 in
    let c = and_parts (nat_le 1 (slice_index bytes at) && nat_le (slice_index bytes at) (last_opcode h.version)) _ b.0 in
    let d = and_parts (nat_le 1 (slice_index bytes at)) (nat_le (slice_index bytes at) (last_opcode h.version)) c.0 in
    first_last h.version (slice_index bytes at) 48 52 one d.1

byte_stands : (bytes : List ℕ) (h : Header) (n i : ℕ) → name_fault bytes h n ≡ None → start_of (name_end bytes h) n ≤ i
    → i < name_end bytes h n → can_stand (nat_eq i (start_of (name_end bytes h) n)) (slice_index bytes (name_pool_at h + i)) ≡ true
unfolding name_fault
byte_stands bytes h n i e low high =
    let start = start_of (name_end bytes h) n in
    let a = first_none (λ j. unless (can_stand (nat_eq j start) (slice_index bytes (name_pool_at h + j)))
    (fault.BadName (name_pool_at h + j)) None) start (name_end bytes h n - start) i e low (omega arith) in
    (unless_none (can_stand (nat_eq i start) (slice_index bytes (name_pool_at h + i))) _ _ a).0

module _ (bytes : List ℕ) (h : Header) (fits : IsBytes bytes) (within : IsWithin h) (none : sections_fault bytes h ≡ None)
    (whole : length bytes ≡ end_at h) where
  run_at : (r : ℕ) → r < h.routines → (k : ℕ) → start_of (runs_end bytes h) r ≤ k → k < runs_end bytes h r
      → RunKept bytes h (nat_eq k (start_of (runs_end bytes h) r)) (runs_at h + 12 * k)
  run_at r lt k low high = run_kept bytes h (nat_eq k (start_of (runs_end bytes h) r)) k (run_none bytes h fits within none r lt k low high)

  runs_kept : (r : ℕ) → r < h.routines → runs_differ (routine_in bytes h r).head.runs ≡ true
  unfolding routine_in run_in
  runs_kept r lt =
      let start = start_of (runs_end bytes h) r in
      let seen = routine_seen bytes h none r lt in
      differ_from (λ k. run_in bytes (runs_at h + 12 * start + 12 * k)) 0 (runs_end bytes h r - start)
      (λ k low high. (let at = runs_at h + 12 * start + 12 * k in
      let next = runs_at h + 12 * start + 12 * (k + 1) in
      let this = run_at r lt (start + k) (omega arith) (omega (arith, seen.runs.low)) in
      let that = run_at r lt (start + (k + 1)) (omega arith) (omega (arith, seen.runs.low)) in
      let e : runs_at h + 12 * (start + k) ≡ at = omega arith in
      let f : runs_at h + 12 * (start + (k + 1)) ≡ next = omega arith in
      let this' : RunKept bytes h (nat_eq (start + k) start) at = subst (RunKept bytes h (nat_eq (start + k) start)) e this in
      let that' : RunKept bytes h (nat_eq (start + (k + 1)) start) next = subst (RunKept bytes h (nat_eq (start + (k + 1)) start)) f that in
      let that'' : RunKept bytes h false next = subst (λ b. RunKept bytes h b next) (ne_test (start + (k + 1)) start (omega arith)) that' in
      let g : next - 12 ≡ at = omega arith in
      let i : next - 8 ≡ at + 4 = omega arith in
      let differs : (nat_eq (u32_at bytes at) (u32_at bytes next) && nat_eq (u32_at bytes (at + 4)) (u32_at bytes (next + 4))) ≡ false =
      ap (λ o. nat_eq (u32_at bytes o) (u32_at bytes next) && nat_eq (u32_at bytes (at + 4)) (u32_at bytes (next + 4))) (sym g)
      ∙ ap (λ o. nat_eq (u32_at bytes (next - 12)) (u32_at bytes next) && nat_eq (u32_at bytes o) (u32_at bytes (next + 4))) (sym i)
      ∙ not_true (nat_eq (u32_at bytes (next - 12)) (u32_at bytes next) && nat_eq (u32_at bytes (next - 8)) (u32_at bytes (next + 4)))
      that''.differs in
      same_numbers (u32_at bytes at) (u32_at bytes (at + 4)) (u32_at bytes next) (u32_at bytes (next + 4))
      (last_kind (nat_eq h.version 2) (u32_at bytes at) 2 3 (omega arith) this'.kind)
      (last_kind (nat_eq h.version 2) (u32_at bytes next) 2 3 (omega arith) that''.kind) this'.size that''.size differs))

  param_at : (r : ℕ) → r < h.routines → (k : ℕ) → k < params_end bytes h r - start_of (params_end bytes h) r
      → ParamKept bytes h (params_at h + 8 * start_of (params_end bytes h) r + 8 * k)
  param_at r lt k high =
      let start = start_of (params_end bytes h) r in
      let seen = routine_seen bytes h none r lt in
      let e : params_at h + 8 * (start + k) ≡ params_at h + 8 * start + 8 * k = omega arith in
      subst (ParamKept bytes h) e (param_kept bytes h (start + k)
      (param_none bytes h fits within none (start + k) (omega (arith, seen.params.high, seen.params.low))))

  params_kept : (r : ℕ) → r < h.routines → list_all (λ p. has_cells p.kind p.cells) (routine_in bytes h r).head.params ≡ true
  unfolding routine_in param_in
  params_kept r lt =
      let start = start_of (params_end bytes h) r in
      all_items (λ (p : CodeParam). has_cells p.kind p.cells) (λ k. param_in bytes (params_at h + 8 * start + 8 * k))
      (params_end bytes h r - start)
      (λ k high. (let at = params_at h + 8 * start + 8 * k in let kept = param_at r lt k high in
      cells_kept (u32_at bytes at) (u32_at bytes (at + 4)) (last_kind (nat_eq h.version 2) (u32_at bytes at) 3 4 (omega arith) kept.kind)
      kept.size))

  names_clean : first_fault (name_fault bytes h) 0 (name_count bytes h) ≡ None
  names_clean = (or_none (first_fault (name_fault bytes h) 0 (name_count bytes h)) (whole_fault bytes (instrs_at h) None)
      (whole_none bytes (text_pool_at h) _ (sections_kept bytes h none).pools).1).0

  is_name_in : (n : ℕ) → n < h.routines + h.globals → is_name (name_in bytes h n) ≡ true
  unfolding name_in
  is_name_in n lt =
      let seen = name_seen bytes h none n lt in
      let start = start_of (name_end bytes h) n in
      let clean = first_none (name_fault bytes h) 0 (name_count bytes h) n names_clean (omega arith) (omega arith) in
      can_name bytes (name_pool_at h + start) (name_pool_at h + name_end bytes h n) (omega (arith, seen.some))
      (omega (arith, seen.name.high))
      (ap (λ b. can_stand b (slice_index bytes (name_pool_at h + start))) (sym (eq_test start start refl))
      ∙ byte_stands bytes h n start clean (omega arith) seen.some)
      (λ i low high. (let j = i - name_pool_at h in
      let back : name_pool_at h + j ≡ i = omega arith in
      ap (λ o. can_stand false (slice_index bytes o)) (sym back)
      ∙ ap (λ b. can_stand b (slice_index bytes (name_pool_at h + j))) (sym (ne_test j start (omega arith)))
      ∙ byte_stands bytes h n j clean (omega arith) (omega arith)))

  line_at : (k : ℕ) → k < h.lines → LineKept bytes h k
  line_at k lt = line_kept bytes h k (first_none (line_fault bytes h) 0 h.lines k (sections_kept bytes h none).lines (omega arith)
      (omega arith))

  pub keeps_records : KeepsRecords (code_in bytes h)
  unfolding routine_in global_in range_in line_in
  keeps_records = record {
    routines = all_items is_routine_record (routine_in bytes h) h.routines
        (λ r lt. both (is_name (name_in bytes h r)) _ (is_name_in r (omega arith))
        (both _ (runs_differ (routine_in bytes h r).head.runs) (params_kept r lt) (runs_kept r lt)));
    globals = all_items (λ (g : PlainGlobal). is_name g.name) (global_in bytes h) h.globals
        (λ g lt. is_name_in (h.routines + g) (omega arith));
    ranges = all_items (λ (t : Range). int_le t.low t.high) (λ k. range_in bytes (ranges_at h + 16 * k)) h.ranges
        (λ k lt. range_kept bytes h k (first_none (range_fault bytes h) 0 h.ranges k (sections_kept bytes h none).ranges (omega arith)
        (omega arith)));
    lines = ap (λ n. lines_rise 0 n (code_in bytes h).lines) (length_items (λ k. instr_at bytes (instrs_at h + 17 * k)) h.instrs)
        ∙ lines_from (λ k. line_in bytes (lines_at h + 8 * k)) h.instrs 0 h.lines 0 (λ some. omega arith)
        (λ k low high. lt_fact (u32_at bytes (lines_at h + 8 * k)) h.instrs (line_at k (omega arith)).below)
        (λ k low high. (let e : lines_at h + 8 * (k + 1) - 8 ≡ lines_at h + 8 * k = omega arith in
        let kept = (line_at (k + 1) (omega arith)).rises in
        lt_fact (u32_at bytes (lines_at h + 8 * k)) (u32_at bytes (lines_at h + 8 * (k + 1)))
        (ap (λ o. nat_lt (u32_at bytes o) (u32_at bytes (lines_at h + 8 * (k + 1)))) (sym e)
        ∙ ap (λ b. b || nat_lt (u32_at bytes (lines_at h + 8 * (k + 1) - 8)) (u32_at bytes (lines_at h + 8 * (k + 1))))
        (sym (ne_test (k + 1) 0 (omega arith))) ∙ kept)));
  }

  is_first : h.version ≡ 1 → IsFirst (code_in bytes h)
  unfolding routine_in param_in run_in instr_at
  is_first one = record {
    routines = all_items is_first_routine (routine_in bytes h) h.routines
        (λ r lt. both (list_all (λ run. is_first_kind run.kind) (routine_in bytes h r).head.runs)
        (list_all (λ p. is_first_param p.kind) (routine_in bytes h r).head.params)
        (all_items (λ (run : Run). is_first_kind run.kind) (λ k. run_in bytes (runs_at h + 12 * start_of (runs_end bytes h) r + 12 * k))
        (runs_end bytes h r - start_of (runs_end bytes h) r)
        (λ k high. (let start = start_of (runs_end bytes h) r in
        let seen = routine_seen bytes h none r lt in
        let e : runs_at h + 12 * (start + k) ≡ runs_at h + 12 * start + 12 * k = omega arith in
        let kept = run_at r lt (start + k) (omega arith) (omega (arith, seen.runs.low)) in
        let at = runs_at h + 12 * start + 12 * k in
        first_slot (u32_at bytes at) (u32_at bytes (at + 4))
        (first_last h.version (u32_at bytes at) 2 3 one
        (ap (λ o. nat_le (u32_at bytes o) (if nat_eq h.version 2 then 3 else 2)) (sym e) ∙ kept.kind)))))
        (all_items (λ (p : CodeParam). is_first_param p.kind)
        (λ k. param_in bytes (params_at h + 8 * start_of (params_end bytes h) r + 8 * k))
        (params_end bytes h r - start_of (params_end bytes h) r)
        (λ k high. (let at = params_at h + 8 * start_of (params_end bytes h) r + 8 * k in
        first_param (u32_at bytes at) (first_last h.version (u32_at bytes at) 3 4 one (param_at r lt k high).kind)))));
    forms = all_items is_first_form (λ k. instr_at bytes (instrs_at h + 17 * k)) h.instrs
        (λ k lt. (let at = instrs_at h + 17 * k in
        first_form (slice_index bytes at) (u32_at bytes (at + 1)) (u32_at bytes (at + 5)) (u32_at bytes (at + 9)) (u32_at bytes (at + 13))
        (i64_at bytes (at + 5))
        (opcode_low bytes h k one (first_none (instr_fault bytes h) 0 h.instrs k (sections_kept bytes h none).instrs (omega arith)
        (omega arith)))));
    lines = ap (items (λ k. line_in bytes (lines_at h + 8 * k))) (within.no_lines one);
  }

  pub keeps_version : KeepsVersion (code_in bytes h)
  keeps_version = record {
    version = either_version h.version (or_cases (nat_eq h.version 1) (nat_eq h.version 2) within.version);
    first =
        is_first;
  }
