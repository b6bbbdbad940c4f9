-- The fronts of choices, whose targets are still to be aimed.
use Rattle.std.proofs.Common.{◌≡◌, ℕ, suc, ◌+◌, List, [], ◌∷◌, ◌++◌, length, refl, sym, ap, ◌∙◌, append_assoc, length-append, arith}
use Rattle.std.specs.Prelude.{Result, Ok, Err, OnOk, IfOk}
use Rattle.alma_code.specs.declared.cell.SlotKind.{SlotKind}
use Rattle.alma_code.specs.declared.instr.Instr.{Instr}
use Rattle.alma_choice.specs.Emitted.{aim_jump, with_target}
use Rattle.alma_choice.proofs.Aiming.{aim_between}
use Rattle.alma_lower_templates.specs.LineInstr.{own}
use Rattle.alma_lower_work.specs.Front.{Front, Holes}

-- what follows on success from two clauses
pub both_ok : {T E : Type 0} (r : Result T E) {P R : T → Type 0} {Q : Type 0} → ((x : T) → P x → Q → R x) → IfOk r P → OnOk r Q → IfOk r R
both_ok (Ok x) f h j = f x h j
both_ok (Err e) f h j = h

-- one instruction among others of one line is aimed
pub hole_among : (a b : Front) (line at : ℕ) (before after : (lo : ℕ) → List Instr) (i : (lo : ℕ) → Instr) (slots : List SlotKind)
    → b.code ≡ a.code ++ own line (before a.next ++ (i a.next ∷ after a.next)) → b.kinds ≡ a.kinds ++ slots → b.next ≡ a.next + length slots
    → b.lines ≡ a.lines → b.all_lines ≡ a.all_lines
    → at ≡ length a.code + length (before a.next) → with_target (i a.next) 0 ≡ i a.next
    → Holes a b (λ to xs. aim_jump xs at to) (λ none at lo ls. own line (before lo ++ (with_target (i lo) none ∷ after lo))) (λ ls. slots)
    (λ ls. ls)
hole_among a b line at before after i slots code kinds next lines whole here same =
    let f = before a.next in
    let g = after a.next in
    let x = i a.next in
    let two : (y : Instr) → own line (f ++ (y ∷ g)) ≡ own line f ++ (record { line = line; instr = y } ∷ own line g) = λ y. own_parts f y in
    let long : length a.code + length f ≡ length (a.code ++ own line f) = omega (arith, length-append a.code (own line f), own_long f) in
    record {
      all = record {
        instrs = code ∙ ap (λ y. a.code ++ own line (f ++ (y ∷ g))) (sym same);
        taken = kinds;
        next_slot = next;
        left = lines;
        whole = whole;
      };
      fills = λ to ys.
          ap (λ xs. aim_jump (xs ++ ys) at to) (code ∙ ap (λ l. a.code ++ l) (two x)
          ∙ sym (append_assoc a.code (own line f) (record { line = line; instr = x } ∷ own line g)))
          ∙ ap (λ xs. aim_jump xs at to) (append_assoc (a.code ++ own line f) (record { line = line; instr = x } ∷ own line g) ys)
          ∙ ap (λ n. aim_jump ((a.code ++ own line f) ++ (record { line = line; instr = x } ∷ (own line g ++ ys))) n to) (here ∙ long)
          ∙ aim_between (a.code ++ own line f) (record { line = line; instr = x }) (own line g ++ ys) to
          ∙ sym (append_assoc (a.code ++ own line f) (record { line = line; instr = with_target x to } ∷ own line g) ys)
          ∙ ap (λ l. l ++ ys) (append_assoc a.code (own line f) (record { line = line; instr = with_target x to } ∷ own line g)
          ∙ ap (λ l. a.code ++ l) (sym (two (with_target x to))));
    }
  where
    own_parts : (f : List Instr) (y : Instr)
        → own line (f ++ (y ∷ after a.next)) ≡ own line f ++ (record { line = line; instr = y } ∷ own line (after a.next))
    own_parts [] y = refl
    own_parts (z ∷ f) y = ap (λ l. record { line = line; instr = z } ∷ l) (own_parts f y)

    own_long : (f : List Instr) → length (own line f) ≡ length f
    own_long [] = refl
    own_long (z ∷ f) = ap suc (own_long f)
