-- What was added, one after another.
use Rattle.std.proofs.Common.{◌≡◌, ℕ, ◌+◌, List, [], ◌∷◌, ◌++◌, length, refl, sym, ap, ◌∙◌, arith, append_assoc, length-append}
use Rattle.std.specs.Prelude.{Result, Ok, Err, IsOk, OnOk}
use Rattle.std.proofs.lemmas.Bool.{false≢true}
use Rattle.std.proofs.lemmas.List.{append-nil}
use Rattle.alma_code.specs.declared.cell.SlotKind.{SlotKind}
use Rattle.alma_code.specs.declared.instr.Instr.{Instr}
use Rattle.alma_choice.specs.Emitted.{aim_jump, with_target}
use Rattle.alma_choice.proofs.Aiming.{aim_between}
use Rattle.alma_lower_templates.specs.LineInstr.{LineInstr, own}
use Rattle.alma_lower_work.specs.Front.{Front, Adds, Codes, Takes, Changes, Holes, Turns}

-- a clause on success that follows from another
pub on_ok_map : {T E : Type 0} {P Q : Type 0} (r : Result T E) → (P → Q) → OnOk r P → OnOk r Q
on_ok_map (Ok x) f h = f h
on_ok_map (Err e) f h = h

-- code of one line in two parts
pub own_two : (line : ℕ) (xs ys : List Instr) → own line (xs ++ ys) ≡ own line xs ++ own line ys
own_two line [] ys = refl
own_two line (x ∷ xs) ys = ap (λ l. record { line = line; instr = x } ∷ l) (own_two line xs ys)

abbrev Code : Type 0
Code = (at lo : ℕ) → (ls : List ℕ) → List LineInstr

abbrev Slots : Type 0
Slots = (ls : List ℕ) → List SlotKind

abbrev Pass : Type 0
Pass = (ls : List ℕ) → List ℕ

pub nothing : (a : Front) → Adds a a (λ at lo ls. []) (λ ls. []) (λ ls. ls)
nothing a = record {
  instrs = sym (append-nil a.code);
  taken = sym (append-nil a.kinds);
  next_slot = omega arith;
  left = refl;
  whole =
      refl;
}

pub then_adds : (a b c : Front) (f g : Code) (k l : Slots) (p q : Pass) → Adds a b f k p → Adds b c g l q
    → Adds a c (λ at lo ls. f at lo ls ++ g (at + length (f at lo ls)) (lo + length (k ls)) (p ls)) (λ ls. k ls ++ l (p ls))
    (λ ls. q (p ls))
then_adds a b c f g k l p q h j =
    let at = length a.code in
    let lo = a.next in
    let ls = a.lines in
    let len : length b.code ≡ at + length (f at lo ls) = ap length h.instrs ∙ length-append a.code (f at lo ls) in
    record {
      instrs = j.instrs
          ∙ ap (λ y. y ++ g (length b.code) b.next b.lines) h.instrs
          ∙ ap (λ n. (a.code ++ f at lo ls) ++ g n b.next b.lines) len
          ∙ ap (λ n. (a.code ++ f at lo ls) ++ g (at + length (f at lo ls)) n b.lines) h.next_slot
          ∙ ap (λ n. (a.code ++ f at lo ls) ++ g (at + length (f at lo ls)) (lo + length (k ls)) n) h.left
          ∙ append_assoc a.code (f at lo ls) (g (at + length (f at lo ls)) (lo + length (k ls)) (p ls));
      taken = j.taken ∙ ap (λ y. y ++ l b.lines) h.taken ∙ ap (λ n. (a.kinds ++ k ls) ++ l n) h.left
          ∙ append_assoc a.kinds (k ls) (l (p ls));
      next_slot = omega (arith, j.next_slot, h.next_slot, ap (λ n. length (l n)) h.left, length-append (k ls) (l (p ls)));
      left = j.left ∙ ap q h.left;
      whole = j.whole ∙ h.whole;
    }

-- the same, said in another way
pub adds_as : (a b : Front) (f g : Code) (k l : Slots) (p q : Pass) → Adds a b f k p
    → f (length a.code) a.next a.lines ≡ g (length a.code) a.next a.lines → k a.lines ≡ l a.lines → p a.lines ≡ q a.lines → Adds a b g l q
adds_as a b f g k l p q h e d c = record {
  instrs = h.instrs ∙ ap (λ y. a.code ++ y) e;
  taken = h.taken ∙ ap (λ y. a.kinds ++ y) d;
  next_slot = h.next_slot ∙ ap (λ y. a.next + length y) d;
  left = h.left ∙ c;
  whole = h.whole;
}

-- what was added stays where lines are handed out anew
pub turned_back : (a b c : Front) (ls : List ℕ) (f : Code) (k : Slots) (p : Pass) → Adds a b f k p → Turns b c ls → Adds a c f k (λ ms. ls)
turned_back a b c ls f k p h t = record {
  instrs = t.instrs ∙ h.instrs;
  taken = t.taken ∙ h.taken;
  next_slot = t.next_slot ∙ h.next_slot;
  left = t.left;
  whole = t.whole ∙ h.whole;
}

-- ---- code alone, and slots alone

pub code_code : (a b c : Front) (xs ys : List LineInstr) → Codes a b xs → Codes b c ys → Codes a c (xs ++ ys)
code_code a b c xs ys h j = record {
  instrs = j.instrs ∙ ap (λ y. y ++ ys) h.instrs ∙ append_assoc a.code xs ys;
  taken = j.taken ∙ h.taken;
  next_slot = j.next_slot ∙ h.next_slot;
  left = j.left ∙ h.left;
  whole = j.whole ∙ h.whole;
}

-- code behind what was done before
pub then_code : {A B X : Type 0} (q : Result A X) (r : Result B X) (a b c : Front) (xs ys : List LineInstr) → OnOk r (IsOk q)
    → OnOk q (Codes a b xs)
    → OnOk r (Codes b c ys) → OnOk r (Codes a c (xs ++ ys))
then_code (Ok y) (Ok x) a b c xs ys done h j = code_code a b c xs ys h j
then_code (Err e) (Ok x) a b c xs ys done h j = absurd (false≢true done)
then_code q (Err e) a b c xs ys done h j = j

-- the same code, said in another way
pub codes_as : (a b : Front) (xs ys : List LineInstr) → xs ≡ ys → Codes a b xs → Codes a b ys
codes_as a b xs ys e h = record {
  instrs = h.instrs ∙ ap (λ y. a.code ++ y) e;
  taken = h.taken;
  next_slot = h.next_slot;
  left = h.left;
  whole = h.whole;
}

pub code_adds : (a b c : Front) (xs : List LineInstr) (g : Code) (l : Slots) (q : Pass) → Codes a b xs → Adds b c g l q
    → Adds a c (λ at lo ls. xs ++ g (at + length xs) lo ls) l q
code_adds a b c xs g l q h j =
    let at = length a.code in
    let len : length b.code ≡ at + length xs = ap length h.instrs ∙ length-append a.code xs in
    record {
      instrs = j.instrs
          ∙ ap (λ y. y ++ g (length b.code) b.next b.lines) h.instrs
          ∙ ap (λ n. (a.code ++ xs) ++ g n b.next b.lines) len
          ∙ ap (λ n. (a.code ++ xs) ++ g (at + length xs) n b.lines) h.next_slot
          ∙ ap (λ n. (a.code ++ xs) ++ g (at + length xs) a.next n) h.left
          ∙ append_assoc a.code xs (g (at + length xs) a.next a.lines);
      taken = j.taken ∙ ap (λ y. y ++ l b.lines) h.taken ∙ ap (λ n. a.kinds ++ l n) h.left;
      next_slot = omega (arith, j.next_slot, h.next_slot, ap (λ n. length (l n)) h.left);
      left = j.left ∙ ap q h.left;
      whole = j.whole ∙ h.whole;
    }

pub adds_code : (a b c : Front) (f : Code) (k : Slots) (p : Pass) (xs : List LineInstr) → Adds a b f k p → Codes b c xs
    → Adds a c (λ at lo ls. f at lo ls ++ xs) k p
adds_code a b c f k p xs h j = record {
  instrs = j.instrs ∙ ap (λ y. y ++ xs) h.instrs ∙ append_assoc a.code (f (length a.code) a.next a.lines) xs;
  taken = j.taken ∙ h.taken;
  next_slot = j.next_slot ∙ h.next_slot;
  left = j.left ∙ h.left;
  whole = j.whole ∙ h.whole;
}

pub only_code : (a b : Front) (xs : List LineInstr) → Codes a b xs → Adds a b (λ at lo ls. xs) (λ ls. []) (λ ls. ls)
only_code a b xs h = record {
  instrs = h.instrs;
  taken = h.taken ∙ sym (append-nil a.kinds);
  next_slot = omega (arith, h.next_slot);
  left =
      h.left;
  whole = h.whole;
}

pub slot_adds : (a b c : Front) (kind : SlotKind) (g : Code) (l : Slots) (q : Pass) → Takes a b kind → Adds b c g l q
    → Adds a c (λ at lo ls. g at (lo + 1) ls) (λ ls. kind ∷ l ls) q
slot_adds a b c kind g l q h j = record {
  instrs = j.instrs
      ∙ ap (λ y. y ++ g (length b.code) b.next b.lines) h.instrs
      ∙ ap (λ n. a.code ++ g n b.next b.lines) (ap length h.instrs)
      ∙ ap (λ n. a.code ++ g (length a.code) n b.lines) h.next_slot
      ∙ ap (λ n. a.code ++ g (length a.code) (a.next + 1) n) h.left;
  taken = j.taken ∙ ap (λ y. y ++ l b.lines) h.taken ∙ ap (λ n. (a.kinds ++ kind ∷ []) ++ l n) h.left
      ∙ append_assoc a.kinds (kind ∷ []) (l a.lines);
  next_slot = omega (arith, j.next_slot, h.next_slot, ap (λ n. length (l n)) h.left);
  left = j.left ∙ ap q h.left;
  whole = j.whole ∙ h.whole;
}

pub adds_slot : (a b c : Front) (f : Code) (k : Slots) (p : Pass) (kind : SlotKind) → Adds a b f k p → Takes b c kind
    → Adds a c f (λ ls. k ls ++ kind ∷ []) p
adds_slot a b c f k p kind h j = record {
  instrs = j.instrs ∙ h.instrs;
  taken = j.taken ∙ ap (λ y. y ++ kind ∷ []) h.taken ∙ append_assoc a.kinds (k a.lines) (kind ∷ []);
  next_slot = omega (arith, j.next_slot, h.next_slot, length-append (k a.lines) (kind ∷ []));
  left = j.left ∙ h.left;
  whole = j.whole ∙ h.whole;
}

pub only_slot : (a b : Front) (kind : SlotKind) → Takes a b kind → Adds a b (λ at lo ls. []) (λ ls. kind ∷ []) (λ ls. ls)
only_slot a b kind h = record {
  instrs = h.instrs ∙ sym (append-nil a.code);
  taken = h.taken;
  next_slot = h.next_slot;
  left = h.left;
  whole = h.whole;
}

-- the address and the slot behind
pub address_behind : (a b : Front) (f : Code) (k : Slots) (p : Pass) → Adds a b f k p
    → length b.code ≡ length a.code + length (f (length a.code) a.next a.lines)
address_behind a b f k p h = ap length h.instrs ∙ length-append a.code (f (length a.code) a.next a.lines)

pub address_after : (a b : Front) (xs : List LineInstr) → Codes a b xs → length b.code ≡ length a.code + length xs
address_after a b xs h = ap length h.instrs ∙ length-append a.code xs

-- ---- targets that are aimed late

-- one instruction, whose target is aimed at its address
pub hole_put : (a b : Front) (line at : ℕ) (i : Instr) → at ≡ length a.code → with_target i 0 ≡ i → Codes a b (own line (i ∷ []))
    → Holes a b (λ to xs. aim_jump xs at to) (λ none at lo ls. own line (with_target i none ∷ [])) (λ ls. []) (λ ls. ls)
hole_put a b line at i here same h = record {
  all = adds_as a b _ _ _ _ _ _ (only_code a b _ h) (ap (λ x. own line (x ∷ [])) (sym same)) refl refl;
  fills = λ to ys.
      ap (λ xs. aim_jump (xs ++ ys) at to) h.instrs
      ∙ ap (λ xs. aim_jump xs at to) (append_assoc a.code (own line (i ∷ [])) ys)
      ∙ ap (λ n. aim_jump (a.code ++ record { line = line; instr = i } ∷ ys) n to) here
      ∙ aim_between a.code (record { line = line; instr = i }) ys to
      ∙ sym (append_assoc a.code (own line (with_target i to ∷ [])) ys);
}

pub adds_holes : (a b c : Front) (f : Code) (k l : Slots) (p q : Pass) (aim : ℕ → List LineInstr → List LineInstr) (h : ℕ → Code)
    → Adds a b f k p
    → Holes b c aim h l q
    → Holes a c aim (λ none at lo ls. f at lo ls ++ h none (at + length (f at lo ls)) (lo + length (k ls)) (p ls)) (λ ls. k ls ++ l (p ls))
    (λ ls. q (p ls))
adds_holes a b c f k l p q aim h x y =
    let at = length a.code in
    let lo = a.next in
    let ls = a.lines in
    let len : length b.code ≡ at + length (f at lo ls) = address_behind a b f k p x in
    record {
      all = then_adds a b c f (h 0) k l p q x y.all;
      fills = λ to ys. y.fills to ys
          ∙ ap (λ z. z ++ ys) (ap (λ z. z ++ h to (length b.code) b.next b.lines) x.instrs
          ∙ ap (λ n. (a.code ++ f at lo ls) ++ h to n b.next b.lines) len
          ∙ ap (λ n. (a.code ++ f at lo ls) ++ h to (at + length (f at lo ls)) n b.lines) x.next_slot
          ∙ ap (λ n. (a.code ++ f at lo ls) ++ h to (at + length (f at lo ls)) (lo + length (k ls)) n) x.left
          ∙ append_assoc a.code (f at lo ls) (h to (at + length (f at lo ls)) (lo + length (k ls)) (p ls)));
    }

pub code_holes : (a b c : Front) (xs : List LineInstr) (l : Slots) (q : Pass) (aim : ℕ → List LineInstr → List LineInstr) (h : ℕ → Code)
    → Codes a b xs
    → Holes b c aim h l q
    → Holes a c aim (λ none at lo ls. xs ++ h none (at + length xs) lo ls) l q
code_holes a b c xs l q aim h x y =
    let at = length a.code in
    let len : length b.code ≡ at + length xs = address_after a b xs x in
    record {
      all = code_adds a b c xs (h 0) l q x y.all;
      fills = λ to ys. y.fills to ys
          ∙ ap (λ z. z ++ ys) (ap (λ z. z ++ h to (length b.code) b.next b.lines) x.instrs
          ∙ ap (λ n. (a.code ++ xs) ++ h to n b.next b.lines) len
          ∙ ap (λ n. (a.code ++ xs) ++ h to (at + length xs) n b.lines) x.next_slot
          ∙ ap (λ n. (a.code ++ xs) ++ h to (at + length xs) a.next n) x.left
          ∙ append_assoc a.code xs (h to (at + length xs) a.next a.lines));
    }

pub slot_holes : (a b c : Front) (kind : SlotKind) (l : Slots) (q : Pass) (aim : ℕ → List LineInstr → List LineInstr) (h : ℕ → Code)
    → Takes a b kind → Holes b c aim h l q
    → Holes a c aim (λ none at lo ls. h none at (lo + 1) ls) (λ ls. kind ∷ l ls) q
slot_holes a b c kind l q aim h x y = record {
  all = slot_adds a b c kind (h 0) l q x y.all;
  fills = λ to ys. y.fills to ys
      ∙ ap (λ z. z ++ ys) (ap (λ z. z ++ h to (length b.code) b.next b.lines) x.instrs
      ∙ ap (λ n. a.code ++ h to n b.next b.lines) (ap length x.instrs)
      ∙ ap (λ n. a.code ++ h to (length a.code) n b.lines) x.next_slot
      ∙ ap (λ n. a.code ++ h to (length a.code) (a.next + 1) n) x.left);
}

-- what stands behind the target, where the code before it is as long whatever the target
pub holes_adds : (a b c : Front) (k l : Slots) (p q : Pass) (aim : ℕ → List LineInstr → List LineInstr) (h : ℕ → Code) (g : Code)
    → Holes a b aim h k p → Adds b c g l q
    → Holes a c aim (λ none at lo ls. h none at lo ls ++ g (at + length (h 0 at lo ls)) (lo + length (k ls)) (p ls))
    (λ ls. k ls ++ l (p ls)) (λ ls. q (p ls))
holes_adds a b c k l p q aim h g x y =
    let at = length a.code in
    let lo = a.next in
    let ls = a.lines in
    let len : length b.code ≡ at + length (h 0 at lo ls) = address_behind a b _ _ _ x.all in
    let mine : g (length b.code) b.next b.lines ≡ g (at + length (h 0 at lo ls)) (lo + length (k ls)) (p ls) =
    ap (λ n. g n b.next b.lines) len ∙ ap (λ n. g (at + length (h 0 at lo ls)) n b.lines) x.all.next_slot
    ∙ ap (g (at + length (h 0 at lo ls)) (lo + length (k ls))) x.all.left in
    record {
      all = then_adds a b c (h 0) g k l p q x.all y;
      fills = λ to ys.
          ap (λ z. aim to (z ++ ys)) y.instrs
          ∙ ap (aim to) (append_assoc b.code (g (length b.code) b.next b.lines) ys)
          ∙ x.fills to (g (length b.code) b.next b.lines ++ ys)
          ∙ ap (λ z. (a.code ++ h to at lo ls) ++ (z ++ ys)) mine
          ∙ sym (append_assoc (a.code ++ h to at lo ls) (g (at + length (h 0 at lo ls)) (lo + length (k ls)) (p ls)) ys)
          ∙ ap (λ z. z ++ ys) (append_assoc a.code (h to at lo ls) (g (at + length (h 0 at lo ls)) (lo + length (k ls)) (p ls)));
    }

pub holes_code : (a b c : Front) (k : Slots) (p : Pass) (aim : ℕ → List LineInstr → List LineInstr) (h : ℕ → Code) (xs : List LineInstr)
    → Holes a b aim h k p → Codes b c xs
    → Holes a c aim (λ none at lo ls. h none at lo ls ++ xs) k p
holes_code a b c k p aim h xs x y =
    let at = length a.code in
    record {
      all = adds_code a b c (h 0) k p xs x.all y;
      fills = λ to ys.
          ap (λ z. aim to (z ++ ys)) y.instrs
          ∙ ap (aim to) (append_assoc b.code xs ys)
          ∙ x.fills to (xs ++ ys)
          ∙ sym (append_assoc (a.code ++ h to at a.next a.lines) xs ys)
          ∙ ap (λ z. z ++ ys) (append_assoc a.code (h to at a.next a.lines) xs);
    }

pub holes_as : (a b : Front) (k l : Slots) (p q : Pass) (aim : ℕ → List LineInstr → List LineInstr) (h g : ℕ → Code) → Holes a b aim h k p
    → ((to : ℕ) → h to (length a.code) a.next a.lines ≡ g to (length a.code) a.next a.lines) → k a.lines ≡ l a.lines → p a.lines ≡ q a.lines
    → Holes a b aim g l q
holes_as a b k l p q aim h g x e d c = record {
  all = adds_as a b _ _ _ _ _ _ x.all (e 0) d c;
  fills = λ to ys. x.fills to ys ∙ ap (λ z. (a.code ++ z) ++ ys) (e to);
}

-- what stands behind, and then the target, as far behind as is said
pub filled : (a b c d : Front) (k l : Slots) (p q : Pass) (aim : ℕ → List LineInstr → List LineInstr) (h : ℕ → Code) (g : Code) (target : ℕ)
    (beyond : ℕ → ℕ)
    → Holes a b aim h k p → Adds b c g l q → Changes c d (aim target) → target ≡ beyond (length c.code)
    → Adds a d (λ at lo ls. h (beyond (at + length (h 0 at lo ls) + length (g (at + length (h 0 at lo ls)) (lo + length (k ls)) (p ls))))
    at lo ls ++ g (at + length (h 0 at lo ls)) (lo + length (k ls)) (p ls))
    (λ ls. k ls ++ l (p ls)) (λ ls. q (p ls))
filled a b c d k l p q aim h g target beyond x y z is =
    let at = length a.code in
    let lo = a.next in
    let ls = a.lines in
    let all = then_adds a b c _ _ _ _ _ _ x.all y in
    let len : length b.code ≡ at + length (h 0 at lo ls) = address_behind a b _ _ _ x.all in
    let inner = g (at + length (h 0 at lo ls)) (lo + length (k ls)) (p ls) in
    let mine : g (length b.code) b.next b.lines ≡ inner =
    ap (λ n. g n b.next b.lines) len ∙ ap (λ n. g (at + length (h 0 at lo ls)) n b.lines) x.all.next_slot
    ∙ ap (g (at + length (h 0 at lo ls)) (lo + length (k ls))) x.all.left in
    let ends : length c.code ≡ at + length (h 0 at lo ls) + length inner = omega (arith, address_behind b c _ _ _ y, len, ap length mine) in
    record {
      instrs = z.instrs ∙ ap (aim target) y.instrs ∙ x.fills target (g (length b.code) b.next b.lines)
          ∙ ap (λ m. (a.code ++ h target at lo ls) ++ m) mine
          ∙ ap (λ n. (a.code ++ h n at lo ls) ++ inner) (is ∙ ap beyond ends)
          ∙ append_assoc a.code (h (beyond (at + length (h 0 at lo ls) + length inner)) at lo ls) inner;
      taken = z.taken ∙ all.taken;
      next_slot = z.next_slot ∙ all.next_slot;
      left = z.left ∙ all.left;
      whole = z.whole ∙ all.whole;
    }

-- a target that is aimed with nothing behind
pub closed : (a b c : Front) (k : Slots) (p : Pass) (aim : ℕ → List LineInstr → List LineInstr) (h : ℕ → Code) (target : ℕ)
    → Holes a b aim h k p
    → Changes b c (aim target) → Adds a c (h target) k p
closed a b c k p aim h target x y = record {
  instrs = y.instrs ∙ ap (aim target) (sym (append-nil b.code)) ∙ x.fills target []
      ∙ append-nil (a.code ++ h target (length a.code) a.next a.lines);
  taken = y.taken ∙ x.all.taken;
  next_slot = y.next_slot ∙ x.all.next_slot;
  left = y.left ∙ x.all.left;
  whole = y.whole ∙ x.all.whole;
}

-- one instruction whose target is aimed behind what follows
pub over : (a b c d : Front) (line at target : ℕ) (i : Instr) (g : Code) (l : Slots) (q : Pass) (beyond : ℕ → ℕ) → at ≡ length a.code
    → with_target i 0 ≡ i → Codes a b (own line (i ∷ []))
    → Adds b c g l q → Changes c d (λ xs. aim_jump xs at target) → target ≡ beyond (length c.code)
    → Adds a d (λ at lo ls. own line (with_target i (beyond (at + 1 + length (g (at + 1) lo ls))) ∷ []) ++ g (at + 1) lo ls) l q
over a b c d line at target i g l q beyond here same h j k is =
    let same_slot : a.next + 0 ≡ a.next = omega arith in
    adds_as a d _ _ _ _ _ _ (filled a b c d _ _ _ _ (λ to xs. aim_jump xs at to) _ g target beyond (hole_put a b line at i here same h) j k
    is)
    (ap (λ n. own line (with_target i (beyond (length a.code + 1 + length (g (length a.code + 1) n a.lines))) ∷ [])
    ++ g (length a.code + 1) n a.lines) same_slot) refl refl
