-- Lists of visits and prints that close in one end, or are cut off where C holds: what such a list
-- prints, how it goes on behind another, and the listing of a list of events.
use Rattle.std.proofs.Common.{◌≡◌, ℕ, zero, suc, ◌+◌, ◌*◌, ◌≤◌, List, [], ◌++◌, length, refl, sym, ap, ◌∙◌, subst, append_assoc, arith}
use Rattle.std.specs.Prelude.{Bool, true, false}
use Rattle.std.proofs.lemmas.Bool.{true≢false}
use Rattle.alma_base.specs.declared.fault.RunFault.{RunFault}
use Rattle.alma_ir.specs.Tree.{Global}
use Rattle.alma_mean.specs.Store.{Store}
use Rattle.alma_mean.specs.Events.{Events, NoYield, Visit, Print, Alt, Go, Return, Fail, Fault, Cut, End, Succeeded, Failed, Faulted}
use Rattle.alma_mean.specs.Events.{CutOff, join, bind, visit_each, prints, visit_count}
use Rattle.alma_mean.specs.Laws.{IsPrefix, ends_in_cut}
use Rattle.alma_listing.specs.Alike.{Alike, on_visit, on_print, on_alt, at_fail, at_fault, at_cut}
use Rattle.alma_listing.specs.Listing.{line_of_store, listing_text, closes, alternatives}

-- at most v visits, these prints and this end, or less where C holds
pub data Closes (C : Type 0) : (v : ℕ) → (out : List ℕ) → End → Events NoYield → Type 0 where
  c_visit : {v : ℕ} {out : List ℕ} {z : End} {e : Events NoYield} → Closes C v out z e → Closes C (suc v) out z (Visit e)
  c_print : {v : ℕ} {b out : List ℕ} {z : End} {e : Events NoYield} → Closes C v out z e → Closes C v (b ++ out) z (Print b e)
  c_fail : {v : ℕ} → Closes C v [] Failed Fail
  c_fault : {v : ℕ} {x : RunFault} {l : ℕ} → Closes C v [] (Faulted x l) (Fault x l)
  c_end : {v : ℕ} → Closes C v [] CutOff Cut
  c_cut : {v : ℕ} {out : List ℕ} {z : End} → C → Closes C v out z Cut

-- ---- what it says

pub no_alternative : {C : Type 0} {v : ℕ} {out : List ℕ} {z : End} {e : Events NoYield} → Closes C v out z e → alternatives e ≡ 0
no_alternative (c_visit h) = no_alternative h
no_alternative (c_print h) = no_alternative h
no_alternative c_fail = refl
no_alternative c_fault = refl
no_alternative c_end = refl
no_alternative (c_cut c) = refl

pub prints_front : {C : Type 0} {v : ℕ} {out : List ℕ} {z : End} {e : Events NoYield} → Closes C v out z e → IsPrefix (prints e) out
prints_front (c_visit h) = prints_front h
prints_front (c_print {b = b} {e = e} h) = let r = prints_front h in (r.0, append_assoc b (prints e) r.0 ∙ ap (λ x. b ++ x) r.1)
prints_front c_fail = ([], refl)
prints_front c_fault = ([], refl)
prints_front c_end = ([], refl)
prints_front (c_cut {out = out} c) = (out, refl)

pub prints_whole : {C : Type 0} {v : ℕ} {out : List ℕ} {z : End} {e : Events NoYield} → Closes C v out z e → ends_in_cut e ≡ false →
    (prints e ≡ out) × (closes e ≡ z)
prints_whole (c_visit h) n = prints_whole h n
prints_whole (c_print {b = b} h) n = let r = prints_whole h n in (ap (λ x. b ++ x) r.0, r.1)
prints_whole c_fail n = (refl, refl)
prints_whole c_fault n = (refl, refl)
prints_whole c_end n = absurd (true≢false n)
prints_whole (c_cut c) n = absurd (true≢false n)

pub visits_few : {C : Type 0} {v : ℕ} {out : List ℕ} {z : End} {e : Events NoYield} → Closes C v out z e → visit_count e ≤ v
visits_few (c_visit h) = omega (arith, visits_few h)
visits_few (c_print h) = visits_few h
visits_few c_fail = omega arith
visits_few c_fault = omega arith
visits_few c_end = omega arith
visits_few (c_cut c) = omega arith

-- the end is Cut
abbrev pub is_cut : End → Bool
is_cut Succeeded = false
is_cut Failed = false
is_cut (Faulted x l) = false
is_cut CutOff = true

pub never_cut : {C : Type 0} {v : ℕ} {out : List ℕ} {z : End} {e : Events NoYield} → Closes C v out z e → (C → ⊥) → is_cut z ≡ false →
    ends_in_cut e ≡ false
never_cut (c_visit h) never k = never_cut h never k
never_cut (c_print h) never k = never_cut h never k
never_cut c_fail never k = refl
never_cut c_fault never k = refl
never_cut c_end never k = absurd (true≢false k)
never_cut (c_cut c) never k = absurd (never c)

pub cut_alike : {A : Type 0} (e : Events A) → is_cut (closes e) ≡ ends_in_cut e
cut_alike (Visit e) = cut_alike e
cut_alike (Print b e) = cut_alike e
cut_alike (Alt s w e) = cut_alike e
cut_alike Fail = refl
cut_alike (Fault x l) = refl
cut_alike Cut = refl

-- ---- how it goes on

-- more visits may be made
pub c_more : {C : Type 0} {v : ℕ} {out : List ℕ} {z : End} {e : Events NoYield} (m : ℕ) → Closes C v out z e → v ≤ m → Closes C m out z e
c_more zero (c_visit h) le = absurd (omega (arith, le))
c_more (suc m) (c_visit h) le = c_visit (c_more m h (omega (arith, le)))
c_more m (c_print h) le = c_print (c_more m h le)
c_more m c_fail le = c_fail
c_more m c_fault le = c_fault
c_more m c_end le = c_end
c_more m (c_cut c) le = c_cut c

-- it may be cut off where more holds
pub c_weaker : {C D : Type 0} {v : ℕ} {out : List ℕ} {z : End} {e : Events NoYield} → (C → D) → Closes C v out z e → Closes D v out z e
c_weaker up (c_visit h) = c_visit (c_weaker up h)
c_weaker up (c_print h) = c_print (c_weaker up h)
c_weaker up c_fail = c_fail
c_weaker up c_fault = c_fault
c_weaker up c_end = c_end
c_weaker up (c_cut c) = c_cut (up c)

-- a list that fails, and then another
pub c_joined : {C : Type 0} {v w : ℕ} {out more : List ℕ} {z : End} {e f : Events NoYield} → Closes C v out Failed e →
    Closes C w more z f → Closes C (v + w) (out ++ more) z (join e f)
c_joined {w = w} {more = more} {z = z} (c_visit {v = v} {out = out} {e = e} h) k =
    let r = c_joined h k in c_more (suc v + w) (c_visit r) (omega arith)
c_joined {C = C} {w = w} {more = more} {z = z} {f = f} (c_print {v = v} {b = b} {out = out} {e = e} h) k =
    subst (λ o. Closes C (v + w) o z (join (Print b e) f)) (sym (append_assoc b out more)) (c_print (c_joined h k))
c_joined {w = w} (c_fail {v = v}) k = c_more (v + w) k (omega arith)
c_joined (c_cut c) k = c_cut c

-- with no alternative no visit is put before one
pub c_visited : {C : Type 0} {v : ℕ} {out : List ℕ} {z : End} {e : Events NoYield} → Closes C v out z e → Closes C v out z (visit_each e)
c_visited (c_visit h) = c_visit (c_visited h)
c_visited (c_print h) = c_print (c_visited h)
c_visited c_fail = c_fail
c_visited c_fault = c_fault
c_visited c_end = c_end
c_visited (c_cut c) = c_cut c

-- where each alternative of a list of stores of one frame goes on, and what stands in its place
-- prints the line of its store and fails, the listing of the list is printed
pub lists : {C : Type 0} (V : ℕ) (gs : List Global) {K : Store → Events NoYield} →
    ((t : Store) → length t ≡ 1 → Closes C V (line_of_store gs t) Failed (K t))
    → {e e2 : Events NoYield} → Alike NoYield 1 (Unit {0}) e e2 → Closes C (visit_count e2 + V * alternatives e2) (listing_text gs e2)
    (closes e2) (bind e (λ t _. K t))
lists V gs h (on_visit {f = f} k) = c_more (suc (visit_count f) + V * alternatives f) (c_visit (lists V gs h k)) (omega arith)
lists V gs h (on_print k) = c_print (lists V gs h k)
lists V gs h (on_alt {s = s} {w = Go y} {f = f} l g k) =
    c_more (visit_count f + V * suc (alternatives f)) (c_joined (h s l) (lists V gs h k)) (omega arith)
lists V gs h (on_alt {s = s} {w = Return n} l g k) = absurd (g tt)
lists V gs h at_fail = c_fail
lists V gs h at_fault = c_fault
lists V gs h at_cut = c_end

-- ---- a node of it

pub node_listed : (gs : List Global) (e : Events NoYield) → listing_text gs (visit_each e) ≡ listing_text gs e
node_listed gs (Visit e) = node_listed gs e
node_listed gs (Print b e) = ap (λ x. b ++ x) (node_listed gs e)
node_listed gs (Alt s (Go y) e) = ap (λ x. line_of_store gs s ++ x) (node_listed gs e)
node_listed gs (Alt s (Return n) e) = node_listed gs e
node_listed gs Fail = refl
node_listed gs (Fault x l) = refl
node_listed gs Cut = refl

pub node_closes : (e : Events NoYield) → closes (visit_each e) ≡ closes e
node_closes (Visit e) = node_closes e
node_closes (Print b e) = node_closes e
node_closes (Alt s w e) = node_closes e
node_closes Fail = refl
node_closes (Fault x l) = refl
node_closes Cut = refl

pub node_alternatives : (e : Events NoYield) → alternatives (visit_each e) ≡ alternatives e
node_alternatives (Visit e) = node_alternatives e
node_alternatives (Print b e) = node_alternatives e
node_alternatives (Alt s w e) = ap suc (node_alternatives e)
node_alternatives Fail = refl
node_alternatives (Fault x l) = refl
node_alternatives Cut = refl

pub node_visits : (e : Events NoYield) → visit_count e ≤ visit_count (visit_each e)
node_visits (Visit e) = omega (arith, node_visits e)
node_visits (Print b e) = node_visits e
node_visits (Alt s w e) = omega (arith, node_visits e)
node_visits Fail = omega arith
node_visits (Fault x l) = omega arith
node_visits Cut = omega arith
