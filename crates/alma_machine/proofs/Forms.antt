-- The instruction of a record, by the words that its form uses.
use Rattle.std.proofs.Common.{◌≡◌, ℕ, zero, suc, ℤ, List, ◌∷◌, get_or, replicate, refl, ap, sym, ◌∙◌, subst, Some}
use Rattle.std.specs.Prelude.{Bool, Option, None}
use Rattle.std.proofs.Math.ListN.{get_or-map}
use Rattle.alma_code.specs.declared.instr.Instr.{Instr}
use Rattle.alma_code.specs.declared.instr.Instr.TheVariants as I
use Rattle.alma_code.specs.Machine.{State, act}
use Rattle.alma_code.specs.Picture.{PlainFrame}
use Rattle.alma_code.specs.Plain.{PlainCode}
use Rattle.alma_machine.specs.Needs.{Needs}
use Rattle.alma_machine.specs.Quick.{Quickly, Quietly}
use Rattle.alma_machine.proofs.Dashing.{quick_of_quiet}
use Rattle.alma_object.specs.declared.record.InstrRecord.{InstrRecord}
use Rattle.alma_object.specs.View.{instr_of_record, opcode_of_record, word_of_record, value_of_record}
use Rattle.alma_object.proofs.Records.{form_of, form_is}
use Rattle.alma_object_format.specs.Instrs.{instrs_with}

-- a form with a value
pub const_is : (r : InstrRecord) {a : ℕ} {v : ℤ} → instr_of_record r ≡ I.Const (word_of_record r 1) (value_of_record r)
    → a ≡ word_of_record r 1 → v ≡ value_of_record r → instr_of_record r ≡ I.Const a v
const_is r {a} is p q = is ∙ ap (λ x. I.Const x (value_of_record r)) (sym p) ∙ ap (I.Const a) (sym q)

-- forms of one word, of two, three and four
pub by_one : (form : ℕ → Instr) (r : InstrRecord) {a : ℕ} → instr_of_record r ≡ form (word_of_record r 1) → a ≡ word_of_record r 1
    → instr_of_record r ≡ form a
by_one form r is p = is ∙ ap form (sym p)

pub by_two : (form : ℕ → ℕ → Instr) (r : InstrRecord) {a b : ℕ} → instr_of_record r ≡ form (word_of_record r 1) (word_of_record r 5)
    → a ≡ word_of_record r 1 → b ≡ word_of_record r 5 → instr_of_record r ≡ form a b
by_two form r {a} is p q = by_one (λ x. form x (word_of_record r 5)) r is p ∙ ap (form a) (sym q)

pub by_three : (form : ℕ → ℕ → ℕ → Instr) (r : InstrRecord) {a b c : ℕ}
    → instr_of_record r ≡ form (word_of_record r 1) (word_of_record r 5) (word_of_record r 9)
    → a ≡ word_of_record r 1 → b ≡ word_of_record r 5 → c ≡ word_of_record r 9 → instr_of_record r ≡ form a b c
by_three form r {a} {b} is p q t = by_two (λ x y. form x y (word_of_record r 9)) r is p q ∙ ap (form a b) (sym t)

pub by_four : (form : ℕ → ℕ → ℕ → ℕ → Instr) (r : InstrRecord) {a b c d : ℕ}
    → instr_of_record r ≡ form (word_of_record r 1) (word_of_record r 5) (word_of_record r 9) (word_of_record r 13)
    → a ≡ word_of_record r 1 → b ≡ word_of_record r 5 → c ≡ word_of_record r 9 → d ≡ word_of_record r 13 → instr_of_record r ≡ form a b c d
by_four form r {a} {b} {c} is p q t u = by_three (λ x y z. form x y z (word_of_record r 13)) r is p q t ∙ ap (form a b c) (sym u)

-- what the record needs, its instruction needs
pub needs_of : (code : PlainCode) (now : List PlainFrame) (r : InstrRecord) {i : Instr} → instr_of_record r ≡ i
    → Needs code now (instr_of_record r) → Needs code now i
needs_of code now r is h = subst (Needs code now) is h

-- what its instruction does, the record does
pub done_of : (b : Bool) (old new : State) (code : PlainCode) (input : List ℕ) (r : InstrRecord) {i : Instr} → instr_of_record r ≡ i
    → Quickly b old new (act code input i old) → Quickly b old new (act code input (instr_of_record r) old)
done_of b old new code input r is h = subst (λ j. Quickly b old new (act code input j old)) (sym is) h

pub quietly_of : (b : Bool) (old new : State) (code : PlainCode) (input : List ℕ) (r : InstrRecord) {i : Instr} → instr_of_record r ≡ i
    → Quietly b old new (act code input i old) → Quickly b old new (act code input (instr_of_record r) old)
quietly_of b old new code input r {i} is h = done_of b old new code input r is (quick_of_quiet b old new (act code input i old) h)

-- ---- the slot that a Call names for its number

-- the slot that a Call names, and else another
abbrev called : ℕ → Instr → ℕ
called other (I.Call routine first to) = to
called other _ = other

-- the same of an instruction that is there
abbrev called_in : ℕ → Option Instr → ℕ
called_in other (Some i) = called other i
called_in other None = other

-- each item of one that is repeated
repeated : (n k c : ℕ) → get_or (replicate n c) k c ≡ c
repeated zero k c = refl
repeated (suc n) zero c = refl
repeated (suc n) (suc k) c = repeated n k c

-- each form with a third word names that one, or names none
third_is : (r : InstrRecord) (n : ℕ) → called (word_of_record r 9) (form_of r n) ≡ word_of_record r 9
third_is r n =
    let c = word_of_record r 9 in
    let forms = I.Fail ∷ instrs_with (word_of_record r 1) (word_of_record r 5) c (word_of_record r 13) (value_of_record r) in
    sym (get_or-map (called c) forms n I.Fail) ∙ repeated 53 n c

-- a Call's slot is the third word of its record
pub call_slot : (r : InstrRecord) (o : Option Instr) (routine first to : ℕ) → o ≡ Some (instr_of_record r)
    → o ≡ Some (I.Call routine first to) → word_of_record r 9 ≡ to
call_slot r o routine first to here is =
    let c = word_of_record r 9 in
    let n = opcode_of_record r in
    sym (third_is r n) ∙ ap (called c) (sym (form_is r n refl)) ∙ ap (called_in c) (sym here ∙ is)
