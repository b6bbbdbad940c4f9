-- How the turns of a loop add up to the list that it reads.
use Rattle.std.proofs.Common.{◌≡◌, ℕ, pred, true, List, [], ◌∷◌, ◌++◌, Option, None, Some, Result, Ok, Err, length}
use Rattle.std.proofs.Common.{refl, ap, sym, ◌∙◌, subst, le_trans, le_refl}
use Rattle.std.specs.Prelude.{MatchResult}
use Rattle.alma_tree.specs.declared.kind.Kind.{Kind}
use Rattle.alma_tree.specs.Numbers.{Cursor, Step, ◌>>◌, and_then}
use Rattle.alma_grammar.specs.Parts.{Part}
use Rattle.alma_parse_cursor.specs.declared.fault.Fault.{Fault}
use Rattle.alma_parse_cursor.specs.declared.fault.Fault.TheVariants as faults
use Rattle.alma_parse_cursor.specs.Parsing.{At, Passes, Opens, Reads, Fails, Becomes, starts_with}
use Rattle.alma_parse_cursor.proofs.OneKind.{one_kind}
use Rattle.alma_parse_cursor.proofs.Loops.{Loops}
use Rattle.alma_parse_cursor.proofs.Steps.{becoming, becoming_fails, no_memory}

-- ---- steps one behind the other

pub joined : (o : Option Cursor) (f g : Step) → and_then (and_then o f) g ≡ and_then o (f >> g)
joined None f g = refl
joined (Some at) f g = refl

pub alike : (o : Option Cursor) (f g : Step) → ((at : Cursor) → f at ≡ g at) → and_then o f ≡ and_then o g
alike None f g h = refl
alike (Some at) f g h = h at

stays : (o : Option Cursor) (f : Step) → ((at : Cursor) → f at ≡ Some at) → and_then o f ≡ o
stays None f h = refl
stays (Some at) f h = h at

pub two_and : (f g r : Step) (at : Cursor) → (f >> g >> r) at ≡ ((f >> g) >> r) at
two_and f g r at = sym (joined (f at) g r)

pub three_and : (f g h r : Step) (at : Cursor) → (f >> g >> h >> r) at ≡ ((f >> g >> h) >> r) at
three_and f g h r at = alike (f at) (g >> h >> r) ((g >> h) >> r) (two_and g h r) ∙ two_and f (g >> h) r at

pub four_and : (f g h k r : Step) (at : Cursor) → (f >> g >> h >> k >> r) at ≡ ((f >> g >> h >> k) >> r) at
four_and f g h k r at = alike (f at) (g >> h >> k >> r) ((g >> h >> k) >> r) (three_and g h k r) ∙ two_and f (g >> h >> k) r at

-- ---- lists

-- what a list of items spells and numbers, by what one item does
pub record Lists {A : Type 0} (spell : A → List Kind → List Kind) (spell_all : List A → List Kind → List Kind) (number : A → Step)
    (number_all : List A → Step)
    : Type 0 where
  pub spelled_none : (r : List Kind) → spell_all [] r ≡ r
  pub spelled_more : (x : A) (xs : List A) (r : List Kind) → spell_all (x ∷ xs) r ≡ spell x (spell_all xs r)
  pub numbered_none : (at : Cursor) → number_all [] at ≡ Some at
  pub numbered_more : (x : A) (xs : List A) (at : Cursor) → number_all (x ∷ xs) at ≡ (number x >> number_all xs) at

spelled_added : {A : Type 0} {s : A → List Kind → List Kind} {sa : List A → List Kind → List Kind} {n : A → Step} {na : List A → Step}
    → Lists s sa n na → (xs : List A) (x : A) (r : List Kind) → sa (xs ++ (x ∷ [])) r ≡ sa xs (s x r)
spelled_added {s = s} l [] x r = l.spelled_more x [] r ∙ ap (s x) (l.spelled_none r) ∙ sym (l.spelled_none (s x r))
spelled_added {s = s} l (y ∷ xs) x r = l.spelled_more y (xs ++ (x ∷ [])) r ∙ ap (s y) (spelled_added l xs x r)
    ∙ sym (l.spelled_more y xs (s x r))

numbered_added : {A : Type 0} {s : A → List Kind → List Kind} {sa : List A → List Kind → List Kind} {n : A → Step} {na : List A → Step}
    → Lists s sa n na → (xs : List A) (x : A) (at : Cursor) → na (xs ++ (x ∷ [])) at ≡ (na xs >> n x) at
numbered_added {n = n} {na = na} l [] x at =
    l.numbered_more x [] at ∙ stays (n x at) (na []) l.numbered_none ∙ sym (ap (λ o. and_then o (n x)) (l.numbered_none at))
numbered_added {n = n} {na = na} l (y ∷ xs) x at =
    l.numbered_more y (xs ++ (x ∷ [])) at ∙ alike (n y at) (na (xs ++ (x ∷ []))) (na xs >> n x) (numbered_added l xs x)
    ∙ sym (joined (n y at) (na xs) (n x)) ∙ sym (ap (λ o. and_then o (n x)) (l.numbered_more y xs at))

-- ---- loops

follows : (o : Option Cursor) (p : Cursor) (f : Step) → o ≡ Some p → and_then o f ≡ f p
follows o p f e = ap (λ x. and_then x f) e

pub begun : {A : Type 0} {s : A → List Kind → List Kind} {sa : List A → List Kind → List Kind} {n : A → Step} {na : List A → Step}
    {p : Part} {d : ℕ} {a : At}
    → Lists s sa n na → Loops (sa []) (na []) p d a a
begun {a = a} l = record {
  spelled_so = sym (l.spelled_none a.kinds);
  numbered_so = λ k h. (l.numbered_none a.place, h);
  reads = λ o. refl;
  shorter = le_refl (length a.kinds);
}

pub grown : {A : Type 0} {s : A → List Kind → List Kind} {sa : List A → List Kind → List Kind} {n : A → Step} {na : List A → Step}
    {p : Part} {q : List Part → List Part} {d : ℕ} {a b c : At} {xs : List A} {x : A}
    → Lists s sa n na → Loops (sa xs) (na xs) p d a b → Becomes (λ o. p ∷ o) (λ o. q (p ∷ o)) b.kinds → Reads (s x) (n x) q d d b c
    → Loops (sa (xs ++ (x ∷ []))) (na (xs ++ (x ∷ []))) p d a c
grown {sa = sa} {n = n} {na = na} {p = p} {d = d} {a = a} {b = b} {c = c} {xs = xs} {x = x} l loop become turn = record {
  spelled_so = loop.spelled_so ∙ ap (sa xs) turn.spelled_so ∙ sym (spelled_added l xs x c.kinds);
  numbered_so = λ k h. let u = loop.numbered_so k h in let v = turn.numbered_so k u.1 in
      (numbered_added l xs x a.place ∙ follows (na xs a.place) b.place (n x) u.0 ∙ v.0, v.1);
  reads = λ o. loop.reads o ∙ become.becomes d o ∙ turn.reads (p ∷ o);
  shorter = le_trans turn.shorter loop.shorter;
}

-- ---- what the next token begins

pub where_passed : {k : Kind} {p q : List Part → List Part} {a b : At} → Passes k a b → ((ks : List Kind) → Becomes p q (k ∷ ks))
    → Becomes p q a.kinds
where_passed {p = p} {q = q} {b = b} x f = subst (Becomes p q) (sym x.kinds_so) (f b.kinds)

begins_so : (k : Kind) (p q : List Part → List Part) (ks : List Kind) → starts_with k ks ≡ true → ((ks : List Kind) → Becomes p q (k ∷ ks))
    → Becomes p q ks
begins_so k p q [] h f = cc
begins_so k p q (l ∷ ks) h f = subst (λ x. Becomes p q (x ∷ ks)) (sym (one_kind l k h)) (f ks)

pub where_started : {k : Kind} {p q : List Part → List Part} {ks : List Kind} → starts_with k ks ≡ true
    → ((ks : List Kind) → Becomes p q (k ∷ ks))
    → Becomes p q ks
where_started {k = k} {p = p} {q = q} {ks = ks} h f = begins_so k p q ks h f

-- what a call gave for the other parts is returned for these
pub match_instead : {T : Type 0} (s : T → List Kind → List Kind) (n : T → Step) (p q : List Part → List Part) (d e : ℕ) (a : At)
    (b : T → At)
    (r : Result T Fault) → Becomes p q a.kinds
    → MatchResult r (λ t. Reads (s t) (n t) q d e a (b t)) (λ f. Fails f q d a)
    → MatchResult r (λ t. Reads (s t) (n t) p d e a (b t)) (λ f. Fails f p d a)
match_instead s n p q d e a b (Ok t) become h = becoming become h
match_instead s n p q d e a b (Err f) become h = becoming_fails become h

-- and where it was given at any depth
pub match_instead_any : {T : Type 0} (s : T → List Kind → List Kind) (n : T → Step) (p q : List Part → List Part) (d : ℕ) (a : At)
    (b : T → At)
    (r : Result T Fault) → Becomes p q a.kinds
    → MatchResult r (λ t. (i : ℕ) → Reads (s t) (n t) q i i a (b t)) (λ f. (i : ℕ) → Fails f q i a)
    → MatchResult r (λ t. Reads (s t) (n t) p d d a (b t)) (λ f. Fails f p d a)
match_instead_any s n p q d a b (Ok t) become h = becoming become (h d)
match_instead_any s n p q d a b (Err f) become h = becoming_fails become (h d)

-- the same numbers, said at each place
pub numbered_alike : {s : List Kind → List Kind} {n m : Step} {p : List Part → List Part} {d e : ℕ} {a b : At}
    → ((at : Cursor) → m at ≡ n at) → Reads s n p d e a b → Reads s m p d e a b
numbered_alike {a = a} h x = record {
  spelled_so = x.spelled_so;
  numbered_so = λ k few. (h a.place ∙ (x.numbered_so k few).0, (x.numbered_so k few).1);
  reads = x.reads;
  shorter = x.shorter;
}

-- the same spelling, said of each rest
pub spelled_alike : {s t : List Kind → List Kind} {n : Step} {p : List Part → List Part} {d e : ℕ} {a b : At}
    → ((r : List Kind) → s r ≡ t r) → Reads s n p d e a b → Reads t n p d e a b
spelled_alike {b = b} h x = record {
  spelled_so = x.spelled_so ∙ h b.kinds;
  numbered_so = x.numbered_so;
  reads = x.reads;
  shorter = x.shorter;
}

-- behind the closing token the depth is again as before the opening one
pub back_out : {k : Kind} {d e : ℕ} {f g : At} {s : List Kind → List Kind} {n : Step} {p : List Part → List Part} {a b : At}
    → Opens k d e f g → Reads s n p d (pred e) a b → Reads s n p d d a b
back_out {d = d} {s = s} {n = n} {p = p} {a = a} {b = b} x y = subst (λ i. Reads s n p d i a b) (ap pred x.deeper) y

pub want : {p : List Part → List Part} {d : ℕ} {a : At} {fault : Fault} → fault ≡ faults.Memory → Fails fault p d a
want {p = p} {d = d} {a = a} e = subst (λ f. Fails f p d a) (sym e) no_memory
