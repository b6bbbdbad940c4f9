-- Event lists that are one list, with stores of n frames at each alternative, and with no RETURN
-- where G holds: the words of event lists keep this.
use Rattle.std.proofs.Common.{◌≡◌, ℕ, zero, suc, ◌-◌, List, [], ◌∷◌, length, refl, ap, ◌∙◌, arith, Some, None}
use Rattle.std.specs.Prelude.{Bool, true, false, ℤ}
use Rattle.std.proofs.lemmas.List.{length-take-le}
use Rattle.alma_base.specs.Choice.{if_true}
use Rattle.alma_base.specs.Numbers.{within}
use Rattle.alma_base.specs.Carry.{Carry, with_changes}
use Rattle.alma_base.specs.declared.number.Range.{Range}
use Rattle.alma_base.specs.declared.fault.RunFault.{RunFault}
use Rattle.alma_mean.specs.Store.{Store, Cell, Unknown, Number, At, put, put_all, over, changes, without_top}
use Rattle.alma_mean.specs.Events.{Events, NoYield, Flow, Go, Return, one, join, bind, visit_each, at_line, node}
use Rattle.alma_mean.specs.Events.{on_first}
use Rattle.alma_mean.specs.Arithmetic.{fault_unless}
use Rattle.alma_mean.specs.Rows.{read_cell, try_labels, forall_row, as_test, function_value}
use Rattle.alma_listing.specs.Alike.{Alike, on_visit, on_print, on_alt, at_fail, at_fault, at_cut}

-- a stronger premise
pub under : {A : Type 0} {n : ℕ} {G G2 : Type 0} {e f : Events A} → (G2 → G) → Alike A n G e f → Alike A n G2 e f
under up (on_visit h) = on_visit (under up h)
under up (on_print h) = on_print (under up h)
under up (on_alt l g h) = on_alt l (λ x. g (up x)) (under up h)
under up at_fail = at_fail
under up at_fault = at_fault
under up at_cut = at_cut

-- one alternative
pub leaf : {A : Type 0} {n : ℕ} {G : Type 0} (s : Store) (y : A) → length s ≡ n → Alike A n G (one s y) (one s y)
leaf s y l = on_alt l (λ _. tt) at_fail

pub joined : {A : Type 0} {n : ℕ} {G : Type 0} {e e2 f f2 : Events A} → Alike A n G e e2 → Alike A n G f f2 →
    Alike A n G (join e f) (join e2 f2)
joined (on_visit h) k = on_visit (joined h k)
joined (on_print h) k = on_print (joined h k)
joined (on_alt l g h) k = on_alt l g (joined h k)
joined at_fail k = k
joined at_fault k = at_fault
joined at_cut k = at_cut

pub bound : {A B : Type 0} {n : ℕ} {G G1 : Type 0} {e e2 : Events A} {k k2 : Store → A → Events B} → Alike A n G1 e e2 → (G → G1) →
    ((s : Store) (y : A) → length s ≡ n → Alike B n G (k s y) (k2 s y)) → Alike B n G (bind e k) (bind e2 k2)
bound (on_visit h) up r = on_visit (bound h up r)
bound (on_print h) up r = on_print (bound h up r)
bound (on_alt {s = s} {w = Go y} l g h) up r = joined (r s y l) (bound h up r)
bound (on_alt {s = s} {w = Return v} l g h) up r = on_alt l (λ x. g (up x)) (bound h up r)
bound at_fail up r = at_fail
bound at_fault up r = at_fault
bound at_cut up r = at_cut

pub visited : {A : Type 0} {n : ℕ} {G : Type 0} {e e2 : Events A} → Alike A n G e e2 → Alike A n G (visit_each e) (visit_each e2)
visited (on_visit h) = on_visit (visited h)
visited (on_print h) = on_print (visited h)
visited (on_alt l g h) = on_visit (on_alt l g (visited h))
visited at_fail = at_fail
visited at_fault = at_fault
visited at_cut = at_cut

pub lined : {A : Type 0} {n : ℕ} {G : Type 0} (given : ℕ) {e e2 : Events A} → Alike A n G e e2 → Alike A n G (at_line given e)
    (at_line given e2)
lined given (on_visit h) = on_visit (lined given h)
lined given (on_print h) = on_print (lined given h)
lined given (on_alt l g h) = on_alt l g (lined given h)
lined given at_fail = at_fail
lined given at_fault = at_fault
lined given at_cut = at_cut

pub noded : {A : Type 0} {n : ℕ} {G : Type 0} {e e2 : Events A} → Alike A n G e e2 → Alike A n G (node e) (node e2)
noded h = on_visit (visited h)

pub first_taken : {A B : Type 0} {n : ℕ} {G G1 : Type 0} {e e2 : Events A} {k k2 : Store → Flow A → Events B}
    {z z2 : NoYield → Events B} → Alike A n G1 e e2 → ((s : Store) (f : Flow A) → length s ≡ n → Alike B n G (k s f) (k2 s f)) →
    ((x : NoYield) → Alike B n G (z x) (z2 x)) → Alike B n G (on_first e k z) (on_first e2 k2 z2)
first_taken (on_visit h) r w = on_visit (first_taken h r w)
first_taken (on_print h) r w = on_print (first_taken h r w)
first_taken (on_alt {s = s} {w = f} l g h) r w = r s f l
first_taken at_fail r w = w tt
first_taken at_fault r w = at_fault
first_taken at_cut r w = at_cut

pub checked : {A : Type 0} {n : ℕ} {G : Type 0} (f : RunFault) (b : Bool) {k k2 : Unit {0} → Events A} →
    ((x : NoYield) → Alike A n G (k x) (k2 x)) → Alike A n G (fault_unless f b k) (fault_unless f b k2)
checked f true h = h tt
checked f false h = at_fault

pub chosen : {A : Type 0} {n : ℕ} {G : Type 0} (b : Bool) {k k2 z z2 : Unit {0} → Events A} → ((x : NoYield) → Alike A n G (k x) (k2 x)) →
    ((x : NoYield) → Alike A n G (z x) (z2 x)) → Alike A n G (if_true b k z) (if_true b k2 z2)
chosen true h w = h tt
chosen false h w = w tt

pub read : {A : Type 0} {n : ℕ} {G : Type 0} (c : Cell) {k k2 : ℤ → Events A} → ((v : ℤ) → Alike A n G (k v) (k2 v)) →
    Alike A n G (read_cell c k) (read_cell c k2)
read (Number v) r = r v
read Unknown r = at_fault
read (At p) r = at_fault

pub labelled : {n : ℕ} {G : Type 0} (ls : List Range) (v : ℤ) {a a2 z z2 : Unit {0} → Events NoYield} →
    ((x : NoYield) → Alike NoYield n G (a x) (a2 x)) → ((x : NoYield) → Alike NoYield n G (z x) (z2 x)) →
    Alike NoYield n G (try_labels ls v a z) (try_labels ls v a2 z2)
labelled [] v h w = w tt
labelled (r ∷ ls) v h w = on_visit (chosen (within r v) h (λ _. labelled ls v h w))

-- ---- stores keep their frames

pub put_long : (s : Store) (frame slot : ℕ) (c : Cell) → length (put s frame slot c) ≡ length s
put_long [] frame slot c = refl
put_long (f ∷ s) zero slot c = refl
put_long (f ∷ s) (suc frame) slot c = ap suc (put_long s frame slot c)

pub put_all_long : (cs : List Cell) (s : Store) (frame slot : ℕ) → length (put_all s frame slot cs) ≡ length s
put_all_long [] s frame slot = refl
put_all_long (c ∷ cs) s frame slot = put_all_long cs (put s frame slot c) frame (suc slot) ∙ put_long s frame slot c

pub over_long : (s : Store) (c : Carry Cell) → length (over s c) ≡ length s
over_long s [] = refl
over_long s (x ∷ rest) = over_long (put s x.frame x.slot x.cell) rest ∙ put_long s x.frame x.slot x.cell

-- FORALL goes through the same alternatives with the same carry
pub gone_through : {n : ℕ} {G G1 G2 : Type 0} {T T2 : Store → Events NoYield} →
    ((s : Store) → length s ≡ n → Alike NoYield n G1 (T s) (T2 s)) → (s : Store) → length s ≡ n →
    (c : Carry Cell) {e e2 : Events NoYield} → Alike NoYield n G2 e e2 → Alike NoYield n G (forall_row T s c e) (forall_row T2 s c e2)
gone_through r s l c (on_visit h) = on_visit (gone_through r s l c h)
gone_through r s l c (on_print h) = on_print (gone_through r s l c h)
gone_through r s l c (on_alt {s = x} lx g h) =
    first_taken (r (over x c) (over_long x c ∙ lx)) (λ t _ lt. gone_through r s l (with_changes (changes (over x c) t) c) h)
    (λ _. gone_through r s l c h)
gone_through r s l c at_fail = leaf (over s c) tt (over_long s c ∙ l)
gone_through r s l c at_fault = at_fault
gone_through r s l c at_cut = at_cut

-- without the frame on top
without_long : (s : Store) (n : ℕ) → length s ≡ suc n → length (without_top s) ≡ n
without_long s n l = length-take-le (length s - 1) s (omega arith) ∙ omega (arith, l)

-- a call as a test
pub left : {n : ℕ} {G G1 : Type 0} {e e2 : Events NoYield} → Alike NoYield (suc n) G1 e e2 → Alike NoYield n G (as_test e) (as_test e2)
left (on_visit h) = on_visit (left h)
left (on_print h) = on_print (left h)
left {n = n} (on_alt {s = s} l g h) = on_alt (without_long s n l) (λ _. tt) (left h)
left at_fail = at_fail
left at_fault = at_fault
left at_cut = at_cut

-- the number that a function gives
pub value_given : {n : ℕ} {G : Type 0} (line : ℕ) (s : Store) (f : Flow NoYield) → length s ≡ suc n →
    Alike ℤ n G (function_value line s f) (function_value line s f)
value_given {n = n} line s (Return (Some v)) l = leaf (without_top s) v (without_long s n l)
value_given line s (Return None) l = at_fault
value_given line s (Go y) l = at_fault
