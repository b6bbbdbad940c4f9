-- Code with a jump aimed late.
use Rattle.std.proofs.Common.{◌≡◌, ℕ, zero, suc, ◌+◌, ◌<◌, ◌≤◌, List, [], ◌∷◌, ◌++◌, length, map, get_or, refl, sym, ap, ◌∙◌, arith}
use Rattle.std.proofs.Common.{append_assoc, append-nil, length-append}
use Rattle.std.specs.Prelude.{slice_set}
use Rattle.std.proofs.lemmas.List.{length-map}
use Rattle.alma_code.specs.declared.cell.SlotKind.{SlotKind}
use Rattle.alma_code.specs.declared.instr.Instr.{Instr}
use Rattle.alma_code.specs.declared.instr.Instr.TheVariants as I
use Rattle.alma_choice.specs.declared.emit.Emit.{Emit}
use Rattle.alma_lower_templates.specs.LineInstr.{LineInstr, own}
use Rattle.alma_lower_templates.specs.Pieces.{with_last}
use Rattle.alma_choice.specs.Emitted.{line_instr, made, with_target, aim_jump, Appends, Aims, EndsEach, EndsForall}

-- an instruction of the code is written anew with its target
pub aimed_in : (xs : List (Instr × ℕ)) (at to : ℕ) (d : Instr × ℕ) → at < length xs
    → map line_instr (slice_set xs at (with_target (get_or xs at d).0 to, (get_or xs at d).1)) ≡ aim_jump (map line_instr xs) at to
aimed_in [] at to d lt = absurd (omega (arith, lt))
aimed_in (x ∷ xs) zero to d lt = refl
aimed_in (x ∷ xs) (suc at) to d lt = ap (λ l. line_instr x ∷ l) (aimed_in xs at to d (omega (arith, lt)))

-- the last instruction of the code is written anew
pub last_in : (change : Instr → Instr) (xs : List (Instr × ℕ)) (at : ℕ) (d : Instr × ℕ) → length xs ≡ suc at
    → map line_instr (slice_set xs at (change (get_or xs at d).0, (get_or xs at d).1)) ≡ with_last change (map line_instr xs)
last_in change [] at d e = absurd (omega (arith, e))
last_in change (x ∷ []) zero d e = refl
last_in change (x ∷ []) (suc at) d e = absurd (omega (arith, e))
last_in change (x ∷ y ∷ xs) zero d e = absurd (omega (arith, e))
last_in change (x ∷ y ∷ xs) (suc at) d e = ap (λ l. line_instr x ∷ l) (last_in change (y ∷ xs) at d (omega (arith, e)))

pub last_none : (change : Instr → Instr) (xs : List (Instr × ℕ)) → length xs ≡ 0 → with_last change (map line_instr xs) ≡ map line_instr xs
last_none change [] e = refl
last_none change (x ∷ xs) e = absurd (omega (arith, e))

last_rest : (change : Instr → Instr) (a : List LineInstr) (x : LineInstr) (b : List LineInstr)
    → with_last change (a ++ (x ∷ b)) ≡ a ++ with_last change (x ∷ b)
last_rest change [] x b = refl
last_rest change (y ∷ []) x b = refl
last_rest change (y ∷ (z ∷ a)) x b = ap (λ c. y ∷ c) (last_rest change (z ∷ a) x b)

-- of two parts the second changes, where it has an instruction
pub last_behind : (change : Instr → Instr) (a b : List LineInstr) → 0 < length b → with_last change (a ++ b) ≡ a ++ with_last change b
last_behind change a [] some = absurd (omega (arith, some))
last_behind change a (x ∷ b) some = last_rest change a x b

-- behind the code there is nothing to be aimed
pub aimed_out : (xs : List LineInstr) (at to : ℕ) → length xs ≤ at → aim_jump xs at to ≡ xs
aimed_out [] at to le = refl
aimed_out (x ∷ xs) zero to le = absurd (omega (arith, le))
aimed_out (x ∷ xs) (suc at) to le = ap (λ l. x ∷ l) (aimed_out xs at to (omega (arith, le)))

-- the jump that stands between two parts
pub aim_between : (xs : List LineInstr) (x : LineInstr) (ys : List LineInstr) (to : ℕ)
    → aim_jump (xs ++ x ∷ ys) (length xs) to ≡ xs ++ record { line = x.line; instr = with_target x.instr to } ∷ ys
aim_between [] x ys to = refl
aim_between (z ∷ xs) x ys to = ap (λ l. z ∷ l) (aim_between xs x ys to)

-- one after another
pub append_then : (a b c : Emit) (f g : List LineInstr) (k l : List SlotKind) → Appends a b f k → Appends b c g l
    → Appends a c (f ++ g) (k ++ l)
append_then a b c f g k l h j = record {
  instrs = j.instrs ∙ ap (λ x. x ++ g) h.instrs ∙ append_assoc (made a) f g;
  kinds = j.kinds ∙ ap (λ x. x ++ l) h.kinds ∙ append_assoc a.kinds.items k l;
  next = omega (arith, h.next, j.next, length-append k l);
}

-- the code is as long as its instructions
pub made_long : (e : Emit) → length (made e) ≡ length e.code.items
made_long e = length-map e.code.items line_instr

-- instructions of one line behind the code
own_behind : (xs : List (Instr × ℕ)) (line : ℕ) (instrs : List Instr)
    → map line_instr (xs ++ map (λ i. (i, line)) instrs) ≡ map line_instr xs ++ own line instrs
own_behind [] line [] = refl
own_behind [] line (i ∷ instrs) = ap (λ l. record { line = line; instr = i } ∷ l) (own_behind [] line instrs)
own_behind (x ∷ xs) line instrs = ap (λ l. line_instr x ∷ l) (own_behind xs line instrs)

pub puts_all : (a b : Emit) (line : ℕ) (instrs : List Instr) → b.code.items ≡ a.code.items ++ map (λ i. (i, line)) instrs
    → b.kinds ≡ a.kinds → b.next ≡ a.next → Appends a b (own line instrs) []
puts_all a b line instrs code kinds next = record {
  instrs = ap (λ l. map line_instr l) code ∙ own_behind a.code.items line instrs;
  kinds = ap (λ k. k.items) kinds ∙ sym (append-nil a.kinds.items);
  next = omega (arith, next);
}

-- an instruction without a target may be put before the jump is aimed
aimed_front : (xs : List LineInstr) (x : LineInstr) (at to : ℕ) → with_target x.instr to ≡ x.instr
    → aim_jump (xs ++ x ∷ []) at to ≡ aim_jump xs at to ++ x ∷ []
aimed_front [] x zero to e = ap (λ (i : Instr). record { line = x.line; instr = i } ∷ []) e
aimed_front [] x (suc at) to e = refl
aimed_front (y ∷ xs) x zero to e = refl
aimed_front (y ∷ xs) x (suc at) to e = ap (λ l. y ∷ l) (aimed_front xs x at to e)

-- the ends of FORALL, aimed when they are put
pub ends_each : (a b c : Emit) (line mark inner overlay : ℕ) → Appends a b (own line (I.Cut inner ∷ I.Keep mark ∷ I.Fail ∷ [])) []
    → Aims b c overlay (length (made a) + 2) → EndsEach a c line mark inner overlay
ends_each a b c line mark inner overlay h aims = record {
  instrs = aims.instrs ∙ ap (λ l. aim_jump l overlay (length (made a) + 2))
      (h.instrs ∙ sym (append_assoc (made a) (own line (I.Cut inner ∷ I.Keep mark ∷ [])) (own line (I.Fail ∷ []))))
      ∙ aimed_front (made a ++ own line (I.Cut inner ∷ I.Keep mark ∷ [])) (record { line = line; instr = I.Fail }) overlay
      (length (made a) + 2) refl;
  kinds = aims.kinds ∙ h.kinds ∙ append-nil a.kinds.items;
  next = omega (arith, aims.next, h.next);
}

pub ends_forall : (a b c : Emit) (line forall : ℕ) → Appends a b (own line (I.Finish ∷ [])) [] → Aims b c forall (length (made a))
    → EndsForall a c line forall
ends_forall a b c line forall h aims = record {
  instrs = aims.instrs ∙ ap (λ l. aim_jump l forall (length (made a))) h.instrs
      ∙ aimed_front (made a) (record { line = line; instr = I.Finish }) forall (length (made a)) refl;
  kinds = aims.kinds ∙ h.kinds ∙ append-nil a.kinds.items;
  next = omega (arith, aims.next, h.next);
}
