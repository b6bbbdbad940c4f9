-- What is handed over at a call.
use Rattle.std.proofs.Common.{◌≡◌, ℕ, zero, suc, ◌+◌, ◌<◌, List, [], ◌∷◌, ◌++◌, length, take, get_or, None, refl, sym, ap, ◌∙◌, arith}
use Rattle.std.proofs.Common.{add-zero}
use Rattle.alma_code.specs.declared.cell.SlotKind.{SlotKind}
use Rattle.alma_ir.specs.declared.phrase.Arg as A
use Rattle.alma_ir.specs.Tree.{Args, Sel, Sels, Field, Index, no_args, more_args, more_sels}
use Rattle.alma_ir.specs.Checked.{sel_cells}
use Rattle.alma_ir.specs.View.{arg_of, args_list}
use Rattle.alma_lower_work.specs.Front.{Around, Front, Adds, Takes}
use Rattle.alma_lower_work.specs.Puts.{link_slot, first_of_call, first_slot}
use Rattle.alma_lower_work.proofs.Joins.{adds_as, adds_slot}
use Rattle.alma_lower_templates.specs.Slots.{shift_of, cells_behind, handed_slots, arg_kind, call_links, links_if}
use Rattle.alma_lower_templates.specs.Pieces.{first_argument}
use Rattle.alma_lower_templates.specs.Templates as T

pub cells_one : (x : Sel) (rest : Sels) (cells : ℕ) → cells_behind cells (more_sels x rest) ≡ cells_behind (sel_cells x) rest
cells_one (Field offset part) rest cells = refl
cells_one (Index e range part) rest cells = refl

pub first_is : (s : Around) (called up lo to : ℕ) (args : Args) → to ≡ lo + length (call_links s.program s.routine called up)
    → first_of_call (link_slot (shift_of s.program called) up lo) args to ≡ first_slot s called up lo args
first_is s called up lo to args h = by (shift_of s.program called) args h
  where
    by : (shift : ℕ) (args : Args) → to ≡ lo + length (links_if s.program s.routine shift up)
        → first_of_call (link_slot shift up lo) args to ≡ first_argument (shift + length (handed_slots args))
        (T.handed_from s.program s.tables s.routine shift up lo)
    by zero no_args h = refl
    by zero (more_args a rest) h = let e : suc (length (handed_slots rest)) ≡ 0 + suc (length (handed_slots rest)) = omega arith in h
        ∙ add-zero lo ∙ ap (λ m. first_argument m lo) e
    by (suc one) args h = let e : suc (one + length (handed_slots args)) ≡ suc one + length (handed_slots args) = omega arith in
        ap (λ m. first_argument m (lo + up)) e

-- a call that hands arguments over, and no link
pub some_args : (args : List A.Arg) (to : ℕ) → (length args ≡ 0 → ⊥) → to ≡ first_of_call None (args_list args) to
some_args [] to h = absurd (h refl)
some_args (x ∷ rest) to h = refl

take_one : {X : Type 0} (xs : List X) (i : ℕ) (d : X) → i < length xs → take (suc i) xs ≡ take i xs ++ get_or xs i d ∷ []
take_one [] i d lt = absurd (omega (arith, lt))
take_one (x ∷ xs) zero d lt = refl
take_one (x ∷ xs) (suc i) d lt = ap (λ l. x ∷ l) (take_one xs i d (omega (arith, lt)))

handed_last : (xs : List A.Arg) (x : A.Arg)
    → handed_slots (args_list (xs ++ x ∷ [])) ≡ handed_slots (args_list xs) ++ arg_kind (arg_of x) ∷ []
handed_last [] x = refl
handed_last (y ∷ xs) x = ap (λ l. arg_kind (arg_of y) ∷ l) (handed_last xs x)

-- one slot more for an argument
pub handed_one : (a b c : Front) (xs : List A.Arg) (i : ℕ) (x : A.Arg) (kind : SlotKind) → i < length xs → x ≡ get_or xs i x
    → kind ≡ arg_kind (arg_of x)
    → Adds a b (λ at lo ls. []) (λ ls. handed_slots (args_list (take i xs))) (λ ls. ls) → Takes b c kind
    → Adds a c (λ at lo ls. []) (λ ls. handed_slots (args_list (take (i + 1) xs))) (λ ls. ls)
handed_one a b c xs i x kind lt is k h t =
    let more : suc i ≡ i + 1 = omega arith in
    adds_as a c _ _ _ _ _ _ (adds_slot a b c _ _ _ _ h t) refl
    (ap (λ k. handed_slots (args_list (take i xs)) ++ k ∷ []) (k ∙ ap (λ y. arg_kind (arg_of y)) is)
    ∙ sym (handed_last (take i xs) (get_or xs i x))
    ∙ ap (λ l. handed_slots (args_list l)) (sym (take_one xs i x lt) ∙ ap (λ n. take n xs) more)) refl
