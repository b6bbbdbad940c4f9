-- Lists of visits and prints before one alternative, or cut off where C holds: how they are put
-- together.
use Rattle.std.proofs.Common.{◌≡◌, ℕ, zero, suc, ◌+◌, ◌≤◌, List, [], ◌++◌, sym, subst, append_assoc, arith}
use Rattle.alma_mean.specs.Store.{Store, without_top}
use Rattle.alma_mean.specs.Events.{Events, NoYield, Visit, Print, Alt, Flow, Go, Return, Fail, Cut, Failed, join, bind, visit_each, at_line}
use Rattle.alma_mean.specs.Events.{node, on_first}
use Rattle.alma_mean.specs.Rows.{as_test}
use Rattle.alma_listing.proofs.Closes.{Closes, c_visit, c_print, c_fail, c_cut, c_more}

-- at most v visits, these prints and one alternative that goes on, of which P holds
pub data Writes (A : Type 0) (P : Store → A → Type 0) (C : Type 0) : (v : ℕ) → (out : List ℕ) → Events A → Type 0 where
  w_visit : {v : ℕ} {out : List ℕ} {e : Events A} → Writes A P C v out e → Writes A P C (suc v) out (Visit e)
  w_print : {v : ℕ} {b out : List ℕ} {e : Events A} → Writes A P C v out e → Writes A P C v (b ++ out) (Print b e)
  w_done : {v : ℕ} {t : Store} {y : A} → P t y → Writes A P C v [] (Alt t (Go y) Fail)
  w_cut : {v : ℕ} {out : List ℕ} → C → Writes A P C v out Cut

pub w_more : {A : Type 0} {P : Store → A → Type 0} {C : Type 0} {v : ℕ} {out : List ℕ} {e : Events A} (m : ℕ) → Writes A P C v out e →
    v ≤ m → Writes A P C m out e
w_more zero (w_visit h) le = absurd (omega (arith, le))
w_more (suc m) (w_visit h) le = w_visit (w_more m h (omega (arith, le)))
w_more m (w_print h) le = w_print (w_more m h le)
w_more m (w_done x) le = w_done x
w_more m (w_cut c) le = w_cut c

-- it may be cut off where more holds
pub w_weaker : {A : Type 0} {P : Store → A → Type 0} {C D : Type 0} {v : ℕ} {out : List ℕ} {e : Events A} → (C → D) →
    Writes A P C v out e → Writes A P D v out e
w_weaker up (w_visit h) = w_visit (w_weaker up h)
w_weaker up (w_print h) = w_print (w_weaker up h)
w_weaker up (w_done x) = w_done x
w_weaker up (w_cut c) = w_cut (up c)

-- and nothing behind it
pub w_alone : {A : Type 0} {P : Store → A → Type 0} {C : Type 0} {v : ℕ} {out : List ℕ} {e : Events A} → Writes A P C v out e →
    Writes A P C v out (join e Fail)
w_alone (w_visit h) = w_visit (w_alone h)
w_alone (w_print h) = w_print (w_alone h)
w_alone (w_done x) = w_done x
w_alone (w_cut c) = w_cut c

pub w_bound : {A B : Type 0} {P : Store → A → Type 0} {Q : Store → B → Type 0} {C : Type 0} {v : ℕ} {out : List ℕ} {e : Events A}
    {k : Store → A → Events B} (w : ℕ) (more : List ℕ) → Writes A P C v out e →
    ((t : Store) (y : A) → P t y → Writes B Q C w more (k t y)) → Writes B Q C (v + w) (out ++ more) (bind e k)
w_bound w more (w_visit {v = v} h) r = w_more (suc v + w) (w_visit (w_bound w more h r)) (omega arith)
w_bound {B = B} {Q = Q} {C = C} {k = k} w more (w_print {v = v} {b = b} {out = out} {e = e} h) r =
    subst (λ o. Writes B Q C (v + w) o (bind (Print b e) k)) (sym (append_assoc b out more)) (w_print (w_bound w more h r))
w_bound w more (w_done {v = v} {t = t} {y = y} x) r = w_more (v + w) (w_alone (r t y x)) (omega arith)
w_bound w more (w_cut c) r = w_cut c

pub w_visited : {A : Type 0} {P : Store → A → Type 0} {C : Type 0} {v : ℕ} {out : List ℕ} {e : Events A} → Writes A P C v out e →
    Writes A P C (suc v) out (visit_each e)
w_visited (w_visit h) = w_visit (w_visited h)
w_visited (w_print h) = w_print (w_visited h)
w_visited (w_done x) = w_visit (w_done x)
w_visited (w_cut c) = w_cut c

pub w_noded : {A : Type 0} {P : Store → A → Type 0} {C : Type 0} {v : ℕ} {out : List ℕ} {e : Events A} → Writes A P C v out e →
    Writes A P C (suc (suc v)) out (node e)
w_noded h = w_visit (w_visited h)

pub w_lined : {A : Type 0} {P : Store → A → Type 0} {C : Type 0} {v : ℕ} {out : List ℕ} {e : Events A} (line : ℕ) → Writes A P C v out e →
    Writes A P C v out (at_line line e)
w_lined line (w_visit h) = w_visit (w_lined line h)
w_lined line (w_print h) = w_print (w_lined line h)
w_lined line (w_done x) = w_done x
w_lined line (w_cut c) = w_cut c

-- an alternative that goes on, of which P holds
abbrev pub Taken : {A : Type 0} → (Store → A → Type 0) → Store → Flow A → Type 0
Taken P t (Go y) = P t y
Taken P t (Return n) = ⊥

-- its alternative is the first
pub w_first : {A B : Type 0} {P : Store → A → Type 0} {Q : Store → B → Type 0} {C : Type 0} {v : ℕ} {out : List ℕ} {e : Events A}
    {k : Store → Flow A → Events B} (z : NoYield → Events B) (w : ℕ) (more : List ℕ) → Writes A P C v out e →
    ((t : Store) (f : Flow A) → Taken P t f → Writes B Q C w more (k t f)) → Writes B Q C (v + w) (out ++ more) (on_first e k z)
w_first z w more (w_visit {v = v} h) r = w_more (suc v + w) (w_visit (w_first z w more h r)) (omega arith)
w_first {B = B} {Q = Q} {C = C} {k = k} z w more (w_print {v = v} {b = b} {out = out} {e = e} h) r =
    subst (λ o. Writes B Q C (v + w) o (on_first (Print b e) k z)) (sym (append_assoc b out more)) (w_print (w_first z w more h r))
w_first z w more (w_done {v = v} {t = t} {y = y} x) r = w_more (v + w) (r t (Go y) x) (omega arith)
w_first z w more (w_cut c) r = w_cut c

-- a test that fails: what is taken where there is no alternative
pub c_first : {B : Type 0} {Q : Store → B → Type 0} {C : Type 0} {v : ℕ} {e : Events NoYield} (k : Store → Flow NoYield → Events B)
    {z : NoYield → Events B} (w : ℕ) (out more : List ℕ) → Closes C v out Failed e → ((x : NoYield) → Writes B Q C w more (z x)) →
    Writes B Q C (v + w) (out ++ more) (on_first e k z)
c_first k w out more (c_visit {v = v} h) r = w_more (suc v + w) (w_visit (c_first k w out more h r)) (omega arith)
c_first {B = B} {Q = Q} {C = C} k {z = z} w o more (c_print {v = v} {b = b} {out = out} {e = e} h) r =
    subst (λ o. Writes B Q C (v + w) o (on_first (Print b e) k z)) (sym (append_assoc b out more)) (w_print (c_first k w out more h r))
c_first k w out more (c_fail {v = v}) r = w_more (v + w) (r tt) (omega arith)
c_first k w out more (c_cut c) r = w_cut c

-- what writes, and then fails
pub w_closed : {A : Type 0} {P : Store → A → Type 0} {C : Type 0} {v : ℕ} {out : List ℕ} {e : Events A} {k : Store → A → Events NoYield}
    (w : ℕ) (more : List ℕ) → Writes A P C v out e → ((t : Store) (y : A) → P t y → Closes C w more Failed (k t y)) →
    Closes C (v + w) (out ++ more) Failed (bind e k)
w_closed w more (w_visit {v = v} h) r = c_more (suc v + w) (c_visit (w_closed w more h r)) (omega arith)
w_closed {C = C} {k = k} w more (w_print {v = v} {b = b} {out = out} {e = e} h) r =
    subst (λ o. Closes C (v + w) o Failed (bind (Print b e) k)) (sym (append_assoc b out more)) (c_print (w_closed w more h r))
w_closed w more (w_done {v = v} {t = t} {y = y} x) r = c_more (v + w) (c_alone (r t y x)) (omega arith)
  where
    c_alone : {C : Type 0} {v : ℕ} {out : List ℕ} {e : Events NoYield} → Closes C v out Failed e → Closes C v out Failed (join e Fail)
    c_alone (c_visit h) = c_visit (c_alone h)
    c_alone (c_print h) = c_print (c_alone h)
    c_alone c_fail = c_fail
    c_alone (c_cut c) = c_cut c
w_closed w more (w_cut c) r = c_cut c

-- a call as a test, of which Q holds without the frame on top
pub w_left : {P Q : Store → NoYield → Type 0} {C : Type 0} {v : ℕ} {out : List ℕ} {e : Events NoYield}
    (drop : (t : Store) → P t tt → Q (without_top t) tt) → Writes NoYield P C v out e → Writes NoYield Q C v out (as_test e)
w_left drop (w_visit h) = w_visit (w_left drop h)
w_left drop (w_print h) = w_print (w_left drop h)
w_left drop (w_done {t = t} x) = w_done (drop t x)
w_left drop (w_cut c) = w_cut c

-- the same prints
pub w_says : {A : Type 0} {P : Store → A → Type 0} {C : Type 0} {v : ℕ} {out out2 : List ℕ} {e : Events A} → out ≡ out2 →
    Writes A P C v out e → Writes A P C v out2 e
w_says {A = A} {P = P} {C = C} {v = v} {e = e} same h = subst (λ o. Writes A P C v o e) same h
