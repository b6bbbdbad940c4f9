-- The words of event lists keep `Extends`.
use Rattle.std.proofs.Common.{List, [], ◌∷◌}
use Rattle.std.specs.Prelude.{ℕ, Bool, true, false, ℤ}
use Rattle.alma_base.specs.Choice.{if_true}
use Rattle.alma_base.specs.Numbers.{within}
use Rattle.alma_base.specs.Carry.{Carry, with_changes}
use Rattle.alma_base.specs.declared.number.Range.{Range}
use Rattle.alma_base.specs.declared.fault.RunFault.{RunFault}
use Rattle.alma_mean.specs.Store.{Store, Cell, Unknown, Number, At, over, changes}
use Rattle.alma_mean.specs.Events.{Events, NoYield, Visit, Print, Alt, Flow, Go, Return, Fail, Fault, Cut, join, bind, visit_each, at_line}
use Rattle.alma_mean.specs.Events.{node, on_first}
use Rattle.alma_mean.specs.Arithmetic.{fault_unless}
use Rattle.alma_mean.specs.Rows.{read_cell, try_labels, forall_row, as_test, as_value, function_value}
use Rattle.alma_mean.specs.Laws.{Extends, on_visit, on_print, on_alt, at_fail, at_fault, at_cut}

-- a list extends itself
pub same : {A : Type 0} (e : Events A) → Extends A e e
same (Visit e) = on_visit (same e)
same (Print b e) = on_print (same e)
same (Alt s y e) = on_alt (same e)
same Fail = at_fail
same (Fault x l) = at_fault
same Cut = at_cut

-- what follows a list may be extended too
pub joined : {A : Type 0} {e e' f f' : Events A} → Extends A e e' → Extends A f f' → Extends A (join e f) (join e' f')
joined (on_visit h) k = on_visit (joined h k)
joined (on_print h) k = on_print (joined h k)
joined (on_alt h) k = on_alt (joined h k)
joined at_fail k = k
joined at_fault k = at_fault
joined at_cut k = at_cut

-- so may what stands in place of its alternatives
pub bound : {A B : Type 0} {e e' : Events A} {k k' : Store → A → Events B} → Extends A e e'
    → ((s : Store) (y : A) → Extends B (k s y) (k' s y)) → Extends B (bind e k) (bind e' k')
bound (on_visit h) r = on_visit (bound h r)
bound (on_print h) r = on_print (bound h r)
bound (on_alt {s = s} {w = Go y} h) r = joined (r s y) (bound h r)
bound (on_alt {s = s} {w = Return n} h) r = on_alt (bound h r)
bound at_fail r = at_fail
bound at_fault r = at_fault
bound at_cut r = at_cut

-- visits before each alternative keep it
pub visited : {A : Type 0} {e e' : Events A} → Extends A e e' → Extends A (visit_each e) (visit_each e')
visited (on_visit h) = on_visit (visited h)
visited (on_print h) = on_print (visited h)
visited (on_alt h) = on_visit (on_alt (visited h))
visited at_fail = at_fail
visited at_fault = at_fault
visited at_cut = at_cut

-- so does the line of a statement
pub lined : {A : Type 0} (given : ℕ) {e e' : Events A} → Extends A e e' → Extends A (at_line given e) (at_line given e')
lined given (on_visit h) = on_visit (lined given h)
lined given (on_print h) = on_print (lined given h)
lined given (on_alt h) = on_alt (lined given h)
lined given at_fail = at_fail
lined given at_fault = at_fault
lined given at_cut = at_cut

-- so does a node
pub noded : {A : Type 0} {e e' : Events A} → Extends A e e' → Extends A (node e) (node e')
noded h = on_visit (visited h)

-- the first alternative of a list that is extended is the same
pub first_taken : {A B : Type 0} {e e' : Events A} {k k' : Store → Flow A → Events B} {z z' : NoYield → Events B} → Extends A e e'
    → ((s : Store) (f : Flow A) → Extends B (k s f) (k' s f)) → ((x : NoYield) → Extends B (z x) (z' x))
    → Extends B (on_first e k z) (on_first e' k' z')
first_taken (on_visit h) r w = on_visit (first_taken h r w)
first_taken (on_print h) r w = on_print (first_taken h r w)
first_taken (on_alt {s = s} {w = f} h) r w = r s f
first_taken at_fail r w = w tt
first_taken at_fault r w = at_fault
first_taken at_cut r w = at_cut

-- a check goes the same way in both
pub checked : {A : Type 0} (f : RunFault) (b : Bool) {k k' : Unit {0} → Events A} → ((x : NoYield) → Extends A (k x) (k' x))
    → Extends A (fault_unless f b k) (fault_unless f b k')
checked f true h = h tt
checked f false h = at_fault

-- so does a choice
pub chosen : {A : Type 0} (b : Bool) {k k' z z' : Unit {0} → Events A} → ((x : NoYield) → Extends A (k x) (k' x))
    → ((x : NoYield) → Extends A (z x) (z' x)) → Extends A (if_true b k z) (if_true b k' z')
chosen true h w = h tt
chosen false h w = w tt

-- and the number of a cell
pub read : {A : Type 0} (c : Cell) {k k' : ℤ → Events A} → ((v : ℤ) → Extends A (k v) (k' v)) → Extends A (read_cell c k) (read_cell c k')
read (Number v) r = r v
read Unknown r = at_fault
read (At p) r = at_fault

-- the labels of CASE are tried alike
pub labelled : (ls : List Range) (v : ℤ) {a a' n n' : Unit {0} → Events NoYield} → ((x : NoYield) → Extends NoYield (a x) (a' x))
    → ((x : NoYield) → Extends NoYield (n x) (n' x)) → Extends NoYield (try_labels ls v a n) (try_labels ls v a' n')
labelled [] v h w = w tt
labelled (r ∷ ls) v h w = on_visit (chosen (within r v) h (λ _. labelled ls v h w))

-- FORALL goes through the same alternatives with the same carry
pub gone_through : {T T' : Store → Events NoYield} → ((s : Store) → Extends NoYield (T s) (T' s))
    → (s : Store) (c : Carry Cell) {e e' : Events NoYield} → Extends NoYield e e'
    → Extends NoYield (forall_row T s c e) (forall_row T' s c e')
gone_through r s c (on_visit h) = on_visit (gone_through r s c h)
gone_through r s c (on_print h) = on_print (gone_through r s c h)
gone_through r s c (on_alt {s = x} h) =
    first_taken (r (over x c)) (λ t _. gone_through r s (with_changes (changes (over x c) t) c) h) (λ _. gone_through r s c h)
gone_through r s c at_fail = same _
gone_through r s c at_fault = at_fault
gone_through r s c at_cut = at_cut

-- a call as a test
pub left : {e e' : Events NoYield} → Extends NoYield e e' → Extends NoYield (as_test e) (as_test e')
left (on_visit h) = on_visit (left h)
left (on_print h) = on_print (left h)
left (on_alt h) = on_alt (left h)
left at_fail = at_fail
left at_fault = at_fault
left at_cut = at_cut

-- a call in an expression
pub answered : (line : ℕ) {e e' : Events NoYield} → Extends NoYield e e' → Extends ℤ (as_value line e) (as_value line e')
answered line h = first_taken h (λ s f. same (function_value line s f)) (λ _. at_fail)
