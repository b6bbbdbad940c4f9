-- Loops: what was read in some turns of one.
use Rattle.std.proofs.Common.{◌≡◌, ◌≤◌, ℕ, true, List, ◌∷◌, Option, None, Some, length, refl, ap, sym, ◌∙◌, le_trans, le_refl}
use Rattle.std.proofs.Math.Path.{fun_ext}
use Rattle.alma_tree.specs.declared.kind.Kind.{Kind}
use Rattle.alma_tree.specs.Numbers.{Cursor, Step, stay, ◌>>◌, and_then}
use Rattle.alma_grammar.specs.Parts.{Part}
use Rattle.alma_grammar.specs.Reading.{reading}
use Rattle.alma_parse_cursor.specs.declared.fault.Fault.{Fault}
use Rattle.alma_parse_cursor.specs.Parsing.{At, Few, Reads, Becomes, Fails}
use Rattle.alma_parse_cursor.proofs.Steps.{bound, moved}

-- From a to b the parser read some turns of a loop, which leave the part open.
pub record Loops (spelled : List Kind → List Kind) (numbered : Step) (p : Part) (d : ℕ) (a b : At) : Type 0 where
  pub spelled_so : a.kinds ≡ spelled b.kinds
  pub numbered_so : (tokens : ℕ) → Few tokens a → (numbered a.place ≡ Some b.place) × Few tokens b
  pub reads : (open_parts : List Part) → reading true a.kinds d (p ∷ open_parts) ≡ reading true b.kinds d (p ∷ open_parts)
  pub shorter : length b.kinds ≤ length a.kinds

pub loops_start : {p : Part} {d : ℕ} {a : At} → Loops (λ r. r) stay p d a a
loops_start {p = p} {d = d} {a = a} = record {
  spelled_so = refl;
  numbered_so = λ k f. (refl, f);
  reads = λ o. refl;
  shorter =
      le_refl (length a.kinds);
}

-- one more turn
pub turned : {s t u : List Kind → List Kind} {n m l : Step} {p : Part} {q : List Part → List Part} {d : ℕ} {a now later : At}
    → u ≡ (λ r. s (t r)) → l ≡ (n >> m) → Loops s n p d a now → Becomes (λ o. p ∷ o) (λ o. q (p ∷ o)) now.kinds → Reads t m q d d now later
    → Loops u l p d a later
turned {s = s} {t = t} {u = u} {n = n} {m = m} {l = l} {p = p} {q = q} {d = d} {a = a} {now = now} {later = later} v w x h y = record {
  spelled_so = x.spelled_so ∙ ap s y.spelled_so ∙ ap (λ f. f later.kinds) (sym v);
  numbered_so = λ k f. (
    ap (λ g. g a.place) w ∙ bound (n a.place) now.place m (x.numbered_so k f).0 ∙ (y.numbered_so k (x.numbered_so k f).1).0,
    (y.numbered_so k (x.numbered_so k f).1).1,
  );
  reads = λ o. x.reads o ∙ h.becomes d o ∙ y.reads (p ∷ o);
  shorter = le_trans y.shorter x.shorter;
}

pub ended : {s : List Kind → List Kind} {n : Step} {p : Part} {d : ℕ} {a b : At} → Loops s n p d a b → Becomes (λ o. p ∷ o) (λ o. o) b.kinds
    → Reads s n (λ o. p ∷ o) d d a b
ended {s = s} {n = n} {p = p} {d = d} {a = a} {b = b} x h = record {
  spelled_so = x.spelled_so;
  numbered_so = x.numbered_so;
  reads = λ o. x.reads o ∙ h.becomes d o;
  shorter = x.shorter;
}

-- a fault in a turn
pub broken : {s : List Kind → List Kind} {n : Step} {p : Part} {q : List Part → List Part} {d : ℕ} {a now : At} {fault : Fault}
    → Loops s n p d a now → Becomes (λ o. p ∷ o) (λ o. q (p ∷ o)) now.kinds → Fails fault q d now → Fails fault (λ o. p ∷ o) d a
broken {s = s} {n = n} {p = p} {q = q} {d = d} {a = a} {now = now} {fault = fault} x h y =
    record { ends = λ o. moved fault _ _ (x.reads o ∙ h.becomes d o) (y.ends (p ∷ o)) }

-- ---- steps

regrouped : (x : Option Cursor) (g h : Step) → and_then (and_then x g) h ≡ and_then x (g >> h)
regrouped None g h = refl
regrouped (Some at) g h = refl

pub grouped : (f g h : Step) → ((f >> g) >> h) ≡ (f >> (g >> h))
grouped f g h = fun_ext (λ at. regrouped (f at) g h)
