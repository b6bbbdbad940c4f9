-- How what the functions of the parser give fits together.
use Rattle.std.proofs.Common.{◌≡◌, ◌<◌, ◌+◌, ℕ, suc, pred, true, false, List, ◌∷◌, Option, Some, Result, Ok, Err}
use Rattle.std.proofs.Common.{MatchResult, length, nat_le, eq-eqb}
use Rattle.std.proofs.Common.{refl, ap, ap₂, sym, ◌∙◌, subst, le_trans, le_refl, arith}
use Rattle.alma_tree.specs.declared.kind.Kind.{Kind}
use Rattle.alma_tree.specs.Kinds.{code}
use Rattle.alma_tree.specs.Depth.{opens, closes}
use Rattle.alma_tree.specs.Numbers.{Cursor, Step, stay, token, leaf, node, ◌>>◌, and_then}
use Rattle.alma_grammar.specs.Parts.{Part, one}
use Rattle.alma_grammar.specs.Reading.{reading, End}
use Rattle.alma_parse_cursor.specs.declared.cursor.Cursor as cursors
use Rattle.alma_parse_cursor.specs.declared.fault.Fault.{Fault}
use Rattle.alma_parse_cursor.specs.declared.fault.Fault.TheVariants as faults
use Rattle.alma_parse_cursor.specs.Parsing.{At, position_of, Few, Passes, Opens, Counts, Reads, Becomes, Extends, EndsIn, Fails}

-- ---- one token

is_taken : (k : Kind) (ks : List Kind) (d : ℕ) (o : List Part) → opens k ≡ false → closes k ≡ false
    → reading true (k ∷ ks) d (one k ∷ o) ≡ reading true ks d o
is_taken k ks d o h g = rw (eq-eqb (code k) (code k) refl, h, g) refl

is_opened : (k : Kind) (ks : List Kind) (d : ℕ) (o : List Part) → opens k ≡ true → nat_le 100 d ≡ false
    → reading true (k ∷ ks) d (one k ∷ o) ≡ reading true ks (suc d) o
is_opened k ks d o h g = rw (eq-eqb (code k) (code k) refl, h, g) refl

is_closed : (k : Kind) (ks : List Kind) (d : ℕ) (o : List Part) → opens k ≡ false → closes k ≡ true
    → reading true (k ∷ ks) d (one k ∷ o) ≡ reading true ks (pred d) o
is_closed k ks d o h g = rw (eq-eqb (code k) (code k) refl, h, g) refl

from : (a b : List Kind) (d : ℕ) (o : List Part) → a ≡ b → reading true a d o ≡ reading true b d o
from a b d o e = ap (λ x. reading true x d o) e

pub passed : {k : Kind} {d : ℕ} {a b : At} → opens k ≡ false → closes k ≡ false → Passes k a b
    → Reads (λ r. k ∷ r) token (λ o. one k ∷ o) d d a b
passed {k = k} {d = d} {a = a} {b = b} h g x = record {
  spelled_so = x.kinds_so;
  numbered_so = x.place_so;
  reads = λ o. from a.kinds (k ∷ b.kinds) d (one k ∷ o) x.kinds_so ∙ is_taken k b.kinds d o h g;
  shorter = omega (arith, x.shorter);
}

pub opened : {k : Kind} {d e : ℕ} {a b : At} → opens k ≡ true → Opens k d e a b
    → Reads (λ r. k ∷ r) token (λ o. one k ∷ o) d e a b
opened {k = k} {d = d} {e = e} {a = a} {b = b} h x = record {
  spelled_so = x.passes.kinds_so;
  numbered_so = x.passes.place_so;
  reads = λ o. from a.kinds (k ∷ b.kinds) d (one k ∷ o) x.passes.kinds_so ∙ is_opened k b.kinds d o h x.shallow
      ∙ ap (λ n. reading true b.kinds n o) (sym x.deeper);
  shorter = omega (arith, x.passes.shorter);
}

pub closed : {k l : Kind} {d e : ℕ} {a b f g : At} → opens k ≡ false → closes k ≡ true → Opens l d e f g → Passes k a b
    → Reads (λ r. k ∷ r) token (λ o. one k ∷ o) e d a b
closed {k = k} {l = l} {d = d} {e = e} {a = a} {b = b} h g y x = record {
  spelled_so = x.kinds_so;
  numbered_so = x.place_so;
  reads = λ o. from a.kinds (k ∷ b.kinds) e (one k ∷ o) x.kinds_so ∙ is_closed k b.kinds e o h g
      ∙ ap (λ n. reading true b.kinds (pred n) o) y.deeper;
  shorter = omega (arith, x.shorter);
}

-- ---- numbers

node_same : (at : Cursor) → node at.node at ≡ Some (record { token = at.token; node = suc at.node })
node_same at = rw (eq-eqb at.node at.node refl) refl

moved_few : {k : ℕ} {a b : At} → b.kinds ≡ a.kinds → b.place.token ≡ a.place.token → Few k a → Few k b
moved_few e h f = record { counted = ap₂ (λ n ks. n + length ks) h e ∙ f.counted; fits = f.fits }

pub counted : {n d : ℕ} {a b : At} → Counts n a b → Reads (λ r. r) (node n) (λ o. o) d d a b
counted {n = n} {d = d} {a = a} {b = b} x = record {
  spelled_so = sym x.kinds_so;
  numbered_so = λ k f. (rw x.is_next (node_same a.place) ∙ ap Some (sym x.place_so), moved_few x.kinds_so (ap (λ p. p.token) x.place_so) f);
  reads = λ o. from a.kinds b.kinds d o (sym x.kinds_so);
  shorter = rw x.kinds_so (le_refl (length a.kinds));
}

-- ---- one behind the other

pub bound : (o : Option Cursor) (p : Cursor) (f : Step) → o ≡ Some p → and_then o f ≡ f p
bound o p f e = ap (λ x. and_then x f) e

pub then : {s t : List Kind → List Kind} {n m : Step} {p q : List Part → List Part} {d e f : ℕ} {a b c : At}
    → Reads s n p d e a b → Reads t m q e f b c → Reads (λ r. s (t r)) (n >> m) (λ o. p (q o)) d f a c
then {s = s} {t = t} {n = n} {m = m} {p = p} {q = q} {d = d} {e = e} {f = f} {a = a} {b = b} {c = c} x y = record {
  spelled_so = x.spelled_so ∙ ap s y.spelled_so;
  numbered_so = λ k h. (
    bound (n a.place) b.place m (x.numbered_so k h).0 ∙ (y.numbered_so k (x.numbered_so k h).1).0,
    (y.numbered_so k (x.numbered_so k h).1).1,
  );
  reads = λ o. x.reads (q o) ∙ y.reads o;
  shorter = le_trans y.shorter x.shorter;
}

-- the same in other words
pub same : {s t : List Kind → List Kind} {n m : Step} {p : List Part → List Part} {d e : ℕ} {a b : At}
    → t ≡ s → m ≡ n → Reads s n p d e a b → Reads t m p d e a b
same {s = s} {t = t} {n = n} {m = m} {p = p} {d = d} {e = e} {a = a} {b = b} u v x = record {
  spelled_so = x.spelled_so ∙ ap (λ f. f b.kinds) (sym u);
  numbered_so = λ k h. (ap (λ f. f a.place) v ∙ (x.numbered_so k h).0, (x.numbered_so k h).1);
  reads = x.reads;
  shorter = x.shorter;
}

-- the same of an equal value
pub replaced : {A : Type 0} {v w : A} {p : List Part → List Part} {d e : ℕ} {a b : At} (s : A → List Kind → List Kind) (n : A → Step)
    → w ≡ v → Reads (s v) (n v) p d e a b → Reads (s w) (n w) p d e a b
replaced s n q x = same (ap s q) (ap n q) x

-- nothing was read where the parts may be left out
pub skipped : {p : List Part → List Part} {d : ℕ} {a : At} → Becomes p (λ o. o) a.kinds → Reads (λ r. r) stay p d d a a
skipped {p = p} {d = d} {a = a} h = record {
  spelled_so = refl;
  numbered_so = λ k f. (refl, f);
  reads = h.becomes d;
  shorter = le_refl (length a.kinds);
}

pub becoming : {s : List Kind → List Kind} {n : Step} {p q : List Part → List Part} {d e : ℕ} {a b : At}
    → Becomes p q a.kinds → Reads s n q d e a b → Reads s n p d e a b
becoming {s = s} {n = n} {p = p} {q = q} {d = d} {e = e} {a = a} {b = b} h x = record {
  spelled_so = x.spelled_so;
  numbered_so = x.numbered_so;
  reads = λ o. h.becomes d o ∙ x.reads o;
  shorter = x.shorter;
}

replaced_parts : {s : List Kind → List Kind} {n : Step} {p q : List Part → List Part} {d e : ℕ} {a b : At}
    → ((o : List Part) → reading true a.kinds d (p o) ≡ reading true b.kinds e o) → Reads s n q d e a b → Reads s n p d e a b
replaced_parts h x = record { spelled_so = x.spelled_so; numbered_so = x.numbered_so; reads = h; shorter = x.shorter }

-- what stands behind the first part, and makes a whole of both
pub extending : {s r t : List Kind → List Kind} {n l m : Step} {p : List Part → List Part} {d : ℕ} {a b : At}
    → t ≡ (λ ks. s (r ks)) → m ≡ (n >> l) → Reads r l p d d a b → Extends s n p t m d a b
extending {s = s} {r = r} {t = t} {n = n} {l = l} {m = m} {p = p} {d = d} {a = a} {b = b} u v y = record {
  extends = λ start before e x. same u v (then x y);
  reads = y.reads;
  shorter = y.shorter;
}

-- one extension and then another
pub twice : {s t u : List Kind → List Kind} {n m l : Step} {p q : List Part → List Part} {d : ℕ} {a b c : At}
    → Extends s n p t m d a b → Extends t m q u l d b c → Extends s n (λ o. p (q o)) u l d a c
twice {s = s} {t = t} {u = u} {n = n} {m = m} {l = l} {p = p} {q = q} {d = d} {a = a} {b = b} {c = c} x y = record {
  extends = λ start before e z. y.extends start (λ o. before (p o)) e (x.extends start before e z);
  reads = λ o. x.reads (q o) ∙ y.reads o;
  shorter = le_trans y.shorter x.shorter;
}

-- ---- faults

pub moved : (e : Fault) (x y : End) → x ≡ y → EndsIn e y → EndsIn e x
moved e x y q h = subst (EndsIn e) (sym q) h

-- a fault behind what was read
pub after : {s : List Kind → List Kind} {n : Step} {p q : List Part → List Part} {d e : ℕ} {a b : At} {fault : Fault}
    → Reads s n p d e a b → Fails fault q e b → Fails fault (λ o. p (q o)) d a
after {s = s} {n = n} {p = p} {q = q} {d = d} {e = e} {a = a} {b = b} {fault = fault} x y =
    record { ends = λ o. moved fault _ _ (x.reads (q o)) (y.ends o) }

-- a fault in the first of some parts
pub first : {p q : List Part → List Part} {d : ℕ} {a : At} {fault : Fault} → Fails fault p d a → Fails fault (λ o. p (q o)) d a
first {p = p} {q = q} y = record { ends = λ o. y.ends (q o) }

pub becoming_fails : {p q : List Part → List Part} {d : ℕ} {a : At} {fault : Fault} → Becomes p q a.kinds → Fails fault q d a
    → Fails fault p d a
becoming_fails {p = p} {q = q} {d = d} {a = a} {fault = fault} h y = record { ends = λ o. moved fault _ _ (h.becomes d o) (y.ends o) }

-- a fault behind what extends the first part
pub beyond : {s t : List Kind → List Kind} {n m : Step} {p q : List Part → List Part} {d : ℕ} {a b : At} {fault : Fault}
    → Extends s n p t m d a b → Fails fault q d b → Fails fault (λ o. p (q o)) d a
beyond {s = s} {t = t} {n = n} {m = m} {p = p} {q = q} {d = d} {a = a} {b = b} {fault = fault} x y =
    record { ends = λ o. moved fault _ _ (x.reads (q o)) (y.ends o) }

-- want of memory is a fault anywhere
pub no_memory : {p : List Part → List Part} {d : ℕ} {a : At} → Fails faults.Memory p d a
no_memory = record { ends = λ o. tt }

-- ---- leaves

pub leafed : {k : Kind} {d : ℕ} {a b : At} → opens k ≡ false → closes k ≡ false → Passes k a b
    → Reads (λ r. k ∷ r) (leaf a.place.token) (λ o. one k ∷ o) d d a b
leafed {k = k} {d = d} {a = a} {b = b} h g x = record {
  spelled_so = x.kinds_so;
  numbered_so = λ n f. (rw (eq-eqb a.place.token a.place.token refl) (x.place_so n f).0, (x.place_so n f).1);
  reads = λ o. from a.kinds (k ∷ b.kinds) d (one k ∷ o) x.kinds_so ∙ is_taken k b.kinds d o h g;
  shorter = omega (arith, x.shorter);
}

-- ---- one function's result as another's

pub instead : {T : Type 0} (r : Result (T × cursors.Cursor) Fault) (s : T → List Kind → List Kind) (n : T → Step)
    (p q : List Part → List Part) (d : ℕ) (a : At)
    → Becomes p q a.kinds → MatchResult r (λ t. Reads (s t.0) (n t.0) q d d a (position_of t.1)) (λ e. Fails e q d a)
    → MatchResult r (λ t. Reads (s t.0) (n t.0) p d d a (position_of t.1)) (λ e. Fails e p d a)
instead (Ok t) s n p q d a h x = becoming h x
instead (Err e) s n p q d a h x = becoming_fails h x

pub extended : {T : Type 0} (r : Result (T × cursors.Cursor) Fault) (s : T → List Kind → List Kind) (n : T → Step)
    {t : List Kind → List Kind} {m : Step}
    {p : List Part → List Part} (q : List Part → List Part) {d : ℕ} {a b : At} → Reads t m p d d a b
    → MatchResult r (λ x. Extends t m q (s x.0) (n x.0) d b (position_of x.1)) (λ e. Fails e q d b)
    → MatchResult r (λ x. Reads (s x.0) (n x.0) (λ o. p (q o)) d d a (position_of x.1)) (λ e. Fails e (λ o. p (q o)) d a)
extended (Ok x) s n q {d = d} {a = a} y z = z.extends a _ d y
extended (Err e) s n q y z = after y z

-- what extends what extends the first part
pub extended_twice : {T : Type 0} (r : Result (T × cursors.Cursor) Fault) (s : T → List Kind → List Kind) (n : T → Step) {t u : List Kind
    → List Kind} {m l : Step}
    {p : List Part → List Part} (q : List Part → List Part) {d : ℕ} {a b : At} → Extends u l p t m d a b
    → MatchResult r (λ x. Extends t m q (s x.0) (n x.0) d b (position_of x.1)) (λ e. Fails e q d b)
    → MatchResult r (λ x. Extends u l (λ o. p (q o)) (s x.0) (n x.0) d a (position_of x.1)) (λ e. Fails e (λ o. p (q o)) d a)
extended_twice (Ok x) s n q y z = twice y z
extended_twice (Err e) s n q y z = beyond y z

pub instead_any : {T : Type 0} (r : Result (T × cursors.Cursor) Fault) (s : T → List Kind → List Kind) (n : T → Step) (p q : List Part
    → List Part) (d : ℕ) (a : At)
    → Becomes p q a.kinds
    → MatchResult r (λ t. (e : ℕ) → Reads (s t.0) (n t.0) q e e a (position_of t.1)) (λ e. (f : ℕ) → Fails e q f a)
    → MatchResult r (λ t. Reads (s t.0) (n t.0) p d d a (position_of t.1)) (λ e. Fails e p d a)
instead_any (Ok t) s n p q d a h x = becoming h (x d)
instead_any (Err e) s n p q d a h x = becoming_fails h (x d)

pub becoming_extends : {s t : List Kind → List Kind} {n m : Step} {p q : List Part → List Part} {d : ℕ} {a b : At}
    → Becomes p q a.kinds → Extends s n q t m d a b → Extends s n p t m d a b
becoming_extends {s = s} {t = t} {n = n} {m = m} {p = p} {q = q} {d = d} {a = a} {b = b} h x = record {
  extends = λ start before e y. replaced_parts (λ o. y.reads (p o) ∙ h.becomes d o ∙ x.reads o) (x.extends start before e y);
  reads = λ o. h.becomes d o ∙ x.reads o;
  shorter = x.shorter;
}

pub instead_extending : {T : Type 0} (r : Result (T × cursors.Cursor) Fault) (s : T → List Kind → List Kind) (n : T → Step) (p q : List Part
    → List Part) (d : ℕ) (a : At)
    (t : List Kind → List Kind) (m : Step) → Becomes p q a.kinds
    → MatchResult r (λ x. Extends t m q (s x.0) (n x.0) d a (position_of x.1)) (λ e. Fails e q d a)
    → MatchResult r (λ x. Extends t m p (s x.0) (n x.0) d a (position_of x.1)) (λ e. Fails e p d a)
instead_extending (Ok x) s n p q d a t m h y = becoming_extends h y
instead_extending (Err e) s n p q d a t m h y = becoming_fails h y

-- a token that closes a bracket
pub closed_any : {k : Kind} {d : ℕ} {a b : At} → opens k ≡ false → closes k ≡ true → Passes k a b
    → Reads (λ r. k ∷ r) token (λ o. one k ∷ o) d (pred d) a b
closed_any {k = k} {d = d} {a = a} {b = b} h g x = record {
  spelled_so = x.kinds_so;
  numbered_so = x.place_so;
  reads = λ o. from a.kinds (k ∷ b.kinds) d (one k ∷ o) x.kinds_so ∙ is_closed k b.kinds d o h g;
  shorter = omega (arith, x.shorter);
}

-- the depth behind a bracket is that before it
pub shallower : {s : List Kind → List Kind} {n : Step} {p : List Part → List Part} {k : Kind} {d e : ℕ} {a b f g : At}
    → Opens k d e f g → Reads s n p e (pred e) a b → Reads s n p e d a b
shallower {s = s} {n = n} {p = p} {d = d} {e = e} {a = a} {b = b} y x = record {
  spelled_so = x.spelled_so;
  numbered_so = x.numbered_so;
  reads = λ o. x.reads o ∙ ap (λ k. reading true b.kinds (pred k) o) y.deeper;
  shorter = x.shorter;
}

-- fewer tokens are left behind one that was passed, whatever was read then
pub strictly : {s : List Kind → List Kind} {n : Step} {p : List Part → List Part} {k : Kind} {d e : ℕ} {a b c : At}
    → Passes k a b → Reads s n p d e b c → length c.kinds < length a.kinds
strictly x y = omega (arith, x.shorter, y.shorter)
