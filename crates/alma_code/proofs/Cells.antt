-- The test of two cells holds exactly where they are equal.
use Rattle.std.proofs.Common.{◌≡◌, refl, ap, ◌∙◌}
use Rattle.std.specs.Prelude.{ℕ, ℤ, pos, negsuc, true, ◌&&◌, nat_eq}
use Rattle.std.proofs.lemmas.Bool.{and_parts, and_from, eq-eqb, eqb-true}
use Rattle.alma_base.specs.Numbers.{int_eq}
use Rattle.alma_code.specs.declared.cell.Cell.{Cell}
use Rattle.alma_code.specs.declared.cell.Cell.TheVariants as cell
use Rattle.alma_code.specs.declared.cell.CellPlace.{CellPlace}
use Rattle.alma_code.specs.Carries.{same_cell}

-- a number equals itself
int_eq_itself : (n : ℤ) → int_eq n n ≡ true
int_eq_itself (pos a) = eq-eqb a a refl
int_eq_itself (negsuc a) = eq-eqb a a refl

-- numbers that the test finds equal are one
int_eq_is : (n m : ℤ) → int_eq n m ≡ true → n ≡ m
int_eq_is (pos a) (pos b) e = ap pos (eqb-true a b e)
int_eq_is (negsuc a) (negsuc b) e = ap negsuc (eqb-true a b e)
int_eq_is (pos a) (negsuc b) e = absurd (cc)
int_eq_is (negsuc a) (pos b) e = absurd (cc)

-- places with the same frame, slot and length are one
place_is_place : (p q : CellPlace) → p.frame ≡ q.frame → p.slot ≡ q.slot → p.len ≡ q.len → p ≡ q
place_is_place p q f s l =
    let at : ℕ → ℕ → ℕ → CellPlace = λ frame slot len. record { frame = frame; slot = slot; len = len } in
    ap (λ n. at n p.slot p.len) f ∙ (ap (λ n. at q.frame n p.len) s ∙ ap (at q.frame q.slot) l)

-- a cell equals itself
pub same_itself : (c : Cell) → same_cell c c ≡ true
same_itself cell.Unknown = refl
same_itself (cell.Int n) = int_eq_itself n
same_itself cell.Unset = refl
same_itself (cell.Place p) =
    and_from (nat_eq p.frame p.frame) (nat_eq p.slot p.slot && nat_eq p.len p.len) (eq-eqb p.frame p.frame refl)
    (and_from (nat_eq p.slot p.slot) (nat_eq p.len p.len) (eq-eqb p.slot p.slot refl) (eq-eqb p.len p.len refl))
same_itself (cell.Mark h) = eq-eqb h h refl

-- cells that the test finds equal are one
pub same_is : (a b : Cell) → same_cell a b ≡ true → a ≡ b
same_is cell.Unknown cell.Unknown e = refl
same_is (cell.Int n) (cell.Int m) e = ap cell.Int (int_eq_is n m e)
same_is cell.Unset cell.Unset e = refl
same_is (cell.Place p) (cell.Place q) e =
    let x = and_parts (nat_eq p.frame q.frame) (nat_eq p.slot q.slot && nat_eq p.len q.len) e in
    let y = and_parts (nat_eq p.slot q.slot) (nat_eq p.len q.len) x.1 in
    ap cell.Place (place_is_place p q (eqb-true p.frame q.frame x.0) (eqb-true p.slot q.slot y.0) (eqb-true p.len q.len y.1))
same_is (cell.Mark h) (cell.Mark k) e = ap cell.Mark (eqb-true h k e)
same_is _ _ e = absurd (cc)
