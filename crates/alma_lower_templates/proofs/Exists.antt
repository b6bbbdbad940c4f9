-- Each program has a code: its tables hold what its phrases name, and each slot has a run of its own.
use Rattle.std.proofs.Common.{◌≡◌, ◌⊎◌, inl, inr, ℕ, zero, suc, ◌+◌, ◌-◌, ◌<◌, Bool, true, false, List, [], ◌∷◌, ◌++◌, length, get_or}
use Rattle.std.proofs.Common.{replicate, Some, None, Option, ℤ, pos, negsuc, refl, sym, ap, ◌∙◌, subst, arith}
use Rattle.std.specs.Prelude.{slice_get, nat_eq}
use Rattle.std.specs.List.{AllByRecursion}
use Rattle.std.proofs.lemmas.Bool.{and_parts, and_from, eqb-true, eq-eqb}
use Rattle.alma_base.specs.Numbers.{char_range, int_eq}
use Rattle.alma_base.specs.declared.number.Range.{Range}
use Rattle.alma_code.specs.declared.cell.SlotKind.{SlotKind}
use Rattle.alma_code.specs.declared.head.Run.{Run}
use Rattle.alma_code.specs.Layout.{kinds_of}
use Rattle.alma_code.specs.Plain.{PlainCode}
use Rattle.alma_ir.specs.Tree.{Program, Routine, routine_at, no_routine, TestStmt, Assign, CopyCells, If, While, Repeat, ForTo, SomeOf}
use Rattle.alma_ir.specs.Tree.{Case, Either, Forall, Commit, Return, Read, WriteExpr, WriteText, WriteLine, a_loop, Value, Bind, Unify}
use Rattle.alma_ir.specs.Tree.{SameCells, Seq, And, Or, Not, CallTest, Const, Load, Chain, Compare, Truth, Known, Chr, CallExpr, ByValue}
use Rattle.alma_ir.specs.Tree.{ByCells, ByPlace, MixValue, MixPlace, Field, Index}
use Rattle.alma_ir.specs.Phrases.{Phrase, StmtPhrase, TestPhrase, ExprPhrase, ArgPhrase, DesigPhrase, SelPhrase, stmts_phrases}
use Rattle.alma_ir.specs.Checked.{ranges_of}
use Rattle.alma_lower_templates.specs.Tables.{Tables, same_range, same_text, count_past, first_place}
use Rattle.alma_lower_templates.specs.Slots.{routine_kinds}
use Rattle.alma_lower_templates.specs.Compiled.{program_code}
use Rattle.alma_lower_templates.specs.CodeOf.{HoldsRange, InTables, HoldsAllOf, IsCodeOf}

-- ---- members of lists

abbrev IsIn : {A : Type 0} → A → List A → Type 0
IsIn a [] = ⊥
IsIn a (x ∷ xs) = (x ≡ a) ⊎ IsIn a xs

in_front : {A : Type 0} (a : A) (xs ys : List A) → IsIn a xs → IsIn a (xs ++ ys)
in_front a [] ys h = absurd h
in_front a (x ∷ xs) ys (inl e) = inl e
in_front a (x ∷ xs) ys (inr h) = inr (in_front a xs ys h)

in_back : {A : Type 0} (a : A) (xs ys : List A) → IsIn a ys → IsIn a (xs ++ ys)
in_back a [] ys h = h
in_back a (x ∷ xs) ys h = inr (in_back a xs ys h)

all_in : {A : Type 0} (P : A → Type 0) (xs : List A) → ((a : A) → IsIn a xs → P a) → AllByRecursion P xs
all_in P [] h = tt
all_in P (x ∷ xs) h = (h x (inl refl), all_in P xs (λ a there. h a (inr there)))

-- the lists of all elements, one behind another
abbrev flat : {A B : Type 0} → (A → List B) → List A → List B
flat f [] = []
flat f (x ∷ xs) = f x ++ flat f xs

in_flat : {A B : Type 0} (f : A → List B) (b : B) (a : A) (xs : List A) → IsIn a xs → IsIn b (f a) → IsIn b (flat f xs)
in_flat f b a [] h k = absurd h
in_flat f b a (x ∷ xs) (inl e) k = in_front b (f x) (flat f xs) (subst (λ y. IsIn b (f y)) (sym e) k)
in_flat f b a (x ∷ xs) (inr h) k = in_back b (f x) (flat f xs) (in_flat f b a xs h k)

in_row_at : {A : Type 0} (xs : List A) (i : ℕ) (d : A) → i < length xs → IsIn (get_or xs i d) xs
in_row_at [] i d lt = absurd (omega (arith, lt))
in_row_at (x ∷ xs) zero d lt = inl refl
in_row_at (x ∷ xs) (suc i) d lt = inr (in_row_at xs i d (omega (arith, lt)))

-- ---- the first place of a member

-- a test of equality finds a member where it first stands
found : {A : Type 0} (same : A → A → Bool) → ((a b : A) → same a b ≡ true → a ≡ b) → ((a : A) → same a a ≡ true) → (xs : List A) (a : A)
    → IsIn a xs → slice_get xs (first_place same xs a) ≡ Some a
found same is itself [] a h = absurd h
found same is itself (x ∷ xs) a h = by (same x a) refl h (λ there. found same is itself xs a there)
  where
    by : (t : Bool) → same x a ≡ t → (x ≡ a) ⊎ IsIn a xs → (IsIn a xs → slice_get xs (first_place same xs a) ≡ Some a)
        → slice_get (x ∷ xs) (count_past t (first_place same xs a)) ≡ Some a
    by true e there later = ap Some (is x a e)
    by false e (inr there) later = later there
    by false e (inl here) later = absurd (let bad : true ≡ false = sym (ap (λ y. same y a) here ∙ itself a) ∙ e in cc)

pub same_number : (a b : ℤ) → int_eq a b ≡ true → a ≡ b
same_number (pos a) (pos b) e = ap pos (eqb-true a b e)
same_number (negsuc a) (negsuc b) e = ap negsuc (eqb-true a b e)
same_number (pos a) (negsuc b) e = absurd (let bad : false ≡ true = e in cc)
same_number (negsuc a) (pos b) e = absurd (let bad : false ≡ true = e in cc)

number_itself : (a : ℤ) → int_eq a a ≡ true
number_itself (pos a) = eq-eqb a a refl
number_itself (negsuc a) = eq-eqb a a refl

pub range_is : (a b : Range) → same_range a b ≡ true → a ≡ b
range_is a b e =
    let z = and_parts (int_eq a.low b.low) (int_eq a.high b.high) e in
    let low : a.low ≡ b.low = same_number a.low b.low z.0 in
    let high : a.high ≡ b.high = same_number a.high b.high z.1 in
    ap (λ n. record { low = n; high = a.high }) low ∙ ap (λ n. record { low = b.low; high = n }) high

pub range_itself : (a : Range) → same_range a a ≡ true
range_itself a = and_from (int_eq a.low a.low) (int_eq a.high a.high) (number_itself a.low) (number_itself a.high)

pub text_is : (a b : List ℕ) → same_text a b ≡ true → a ≡ b
text_is [] [] e = refl
text_is [] (b ∷ bs) e = absurd (let bad : false ≡ true = e in cc)
text_is (a ∷ more) [] e = absurd (let bad : false ≡ true = e in cc)
text_is (a ∷ more) (b ∷ bs) e =
    let z = and_parts (nat_eq a b) (same_text more bs) e in
    ap (λ n. n ∷ more) (eqb-true a b z.0) ∙ ap (λ l. b ∷ l) (text_is more bs z.1)

pub text_itself : (a : List ℕ) → same_text a a ≡ true
text_itself [] = refl
text_itself (a ∷ more) = and_from (nat_eq a a) (same_text more more) (eq-eqb a a refl) (text_itself more)

-- ---- what the phrases name

abbrev texts_of : Phrase → List (List ℕ)
texts_of (StmtPhrase (WriteText text)) = text ∷ []
texts_of _ = []

abbrev phrases_in : Routine → List Phrase
phrases_in r = stmts_phrases r.body

abbrev of_result : Option Range → List Range
of_result None = []
of_result (Some range) = range ∷ []

abbrev results_in : Routine → List Range
results_in r = of_result r.result

abbrev tables_of : Program → Tables
tables_of p = record {
  ranges = char_range ∷ (flat ranges_of (flat phrases_in p.routines) ++ flat results_in p.routines);
  texts = flat texts_of (flat phrases_in p.routines);
}

in_tables : (tables : Tables) (x : Phrase) → HoldsRange tables char_range
    → ((range : Range) → IsIn range (ranges_of x) → HoldsRange tables range)
    → ((text : List ℕ) → IsIn text (texts_of x) → slice_get tables.texts (first_place same_text tables.texts text) ≡ Some text)
    → InTables tables x
in_tables tables (StmtPhrase (TestStmt t)) chars h texts = tt
in_tables tables (StmtPhrase (Assign d e range)) chars h texts = λ part. h range (inl refl)
in_tables tables (StmtPhrase (CopyCells d e)) chars h texts = tt
in_tables tables (StmtPhrase (If arms rest)) chars h texts = tt
in_tables tables (StmtPhrase (While t body)) chars h texts = tt
in_tables tables (StmtPhrase (Repeat body t)) chars h texts = tt
in_tables tables (StmtPhrase (ForTo (a_loop d range counter limit from to by body))) chars h texts = λ part. h range (inl refl)
in_tables tables (StmtPhrase (SomeOf (a_loop d range counter limit from to by body))) chars h texts = λ part. h range (inl refl)
in_tables tables (StmtPhrase (Case e arms rest)) chars h texts = tt
in_tables tables (StmtPhrase (Either alternatives)) chars h texts = tt
in_tables tables (StmtPhrase (Forall x y)) chars h texts = tt
in_tables tables (StmtPhrase (Commit x)) chars h texts = tt
in_tables tables (StmtPhrase (Return e)) chars h texts = tt
in_tables tables (StmtPhrase (Read d how range)) chars h texts = h range (inl refl)
in_tables tables (StmtPhrase (WriteExpr e how)) chars h texts = tt
in_tables tables (StmtPhrase (WriteText text)) chars h texts = texts text (inl refl)
in_tables tables (StmtPhrase WriteLine) chars h texts = tt
in_tables tables (TestPhrase (Value e)) chars h texts = tt
in_tables tables (TestPhrase (Bind d e range left)) chars h texts = h range (inl refl)
in_tables tables (TestPhrase (Unify d range e range')) chars h texts = (h range (inl refl), h range' (inr (inl refl)))
in_tables tables (TestPhrase (SameCells d e)) chars h texts = tt
in_tables tables (TestPhrase (Seq x)) chars h texts = tt
in_tables tables (TestPhrase (And ts)) chars h texts = tt
in_tables tables (TestPhrase (Or ts)) chars h texts = tt
in_tables tables (TestPhrase (Not t)) chars h texts = tt
in_tables tables (TestPhrase (CallTest called args up)) chars h texts = tt
in_tables tables (ExprPhrase (Const n)) chars h texts = tt
in_tables tables (ExprPhrase (Load d)) chars h texts = tt
in_tables tables (ExprPhrase (Chain negated e links)) chars h texts = tt
in_tables tables (ExprPhrase (Compare how x y)) chars h texts = tt
in_tables tables (ExprPhrase (Truth t)) chars h texts = tt
in_tables tables (ExprPhrase (Known d)) chars h texts = tt
in_tables tables (ExprPhrase (Chr e)) chars h texts = chars
in_tables tables (ExprPhrase (CallExpr called args up)) chars h texts = tt
in_tables tables (ArgPhrase (ByValue e range)) chars h texts = λ part. h range (inl refl)
in_tables tables (ArgPhrase (ByCells d)) chars h texts = tt
in_tables tables (ArgPhrase (ByPlace d)) chars h texts = tt
in_tables tables (ArgPhrase (MixValue e range)) chars h texts = λ part. h range (inl refl)
in_tables tables (ArgPhrase (MixPlace d)) chars h texts = tt
in_tables tables (DesigPhrase d) chars h texts = tt
in_tables tables (SelPhrase (Field offset cells)) chars h texts = tt
in_tables tables (SelPhrase (Index e range cells)) chars h texts = h range (inl refl)

module _ (p : Program) where
  has_range : (range : Range) → IsIn range (tables_of p).ranges → HoldsRange (tables_of p) range
  has_range range h = found same_range range_is range_itself (tables_of p).ranges range h

  routine_in : (r : ℕ) → r < length p.routines → IsIn (routine_at p r) p.routines
  routine_in r lt = in_row_at p.routines r no_routine lt

  holds_all : HoldsAllOf p (tables_of p)
  holds_all = record {
    phrases = λ r lt. all_in (InTables (tables_of p)) (stmts_phrases (routine_at p r).body)
        (λ x there.
        let here : IsIn x (flat phrases_in p.routines) = in_flat phrases_in x (routine_at p r) p.routines (routine_in r lt) there in
        in_tables (tables_of p) x (has_range char_range (inl refl))
        (λ range named. has_range range (inr
        (in_front range (flat ranges_of (flat phrases_in p.routines)) (flat results_in p.routines)
        (in_flat ranges_of range x (flat phrases_in p.routines) here named))))
        (λ text named. found same_text text_is text_itself (tables_of p).texts text
        (in_flat texts_of text x (flat phrases_in p.routines) here named)));
    results = λ r range lt is part.
        has_range range (inr (in_back range (flat ranges_of (flat phrases_in p.routines)) (flat results_in p.routines)
        (in_flat results_in range (routine_at p r) p.routines (routine_in r lt)
        (subst (λ o. IsIn range (of_result o)) (sym is) (inl refl)))));
  }

  -- ---- runs

  abbrev runs_from : (low : ℕ) → List SlotKind → List Run
  runs_from low [] = []
  runs_from low (k ∷ ks) = record { kind = k; end = low + 1 } ∷ runs_from (low + 1) ks

  one_slot : (low : ℕ) (k : SlotKind) → replicate (low + 1 - low) k ≡ k ∷ []
  one_slot low k = let one : low + 1 - low ≡ 1 = omega arith in ap (λ n. replicate n k) one

  runs_name : (low : ℕ) (ks : List SlotKind) → kinds_of low (runs_from low ks) ≡ ks
  runs_name low [] = refl
  runs_name low (k ∷ ks) = ap (λ l. l ++ kinds_of (low + 1) (runs_from (low + 1) ks)) (one_slot low k)
      ∙ ap (λ l. k ∷ l) (runs_name (low + 1) ks)

  -- of n routines from one on
  abbrev all_runs : (r n : ℕ) → List (List Run)
  all_runs r zero = []
  all_runs r (suc n) = runs_from 0 (routine_kinds p r) ∷ all_runs (suc r) n

  all_long : (r n : ℕ) → length (all_runs r n) ≡ n
  all_long r zero = refl
  all_long r (suc n) = ap suc (all_long (suc r) n)

  all_name : (r n k : ℕ) → k < n → kinds_of 0 (get_or (all_runs r n) k []) ≡ routine_kinds p (r + k)
  all_name r zero k lt = absurd (omega (arith, lt))
  all_name r (suc n) zero lt = let same : r ≡ r + 0 = omega arith in runs_name 0 (routine_kinds p r) ∙ ap (routine_kinds p) same
  all_name r (suc n) (suc k) lt = let same : suc r + k ≡ r + suc k = omega arith in all_name (suc r) n k (omega (arith, lt))
      ∙ ap (routine_kinds p) same

-- each program has a code by the templates
pub has_code : (p : Program) → (code : PlainCode) × IsCodeOf p code
has_code p = (
  program_code p (tables_of p) (all_runs p 0 (length p.routines)),
  record {
    tables = tables_of p;
    held = holds_all p;
    runs = all_runs p 0 (length p.routines);
    count = all_long p 0 (length p.routines);
    names = λ r lt. (let same : 0 + r ≡ r = omega arith in all_name p 0 (length p.routines) r lt ∙ ap (routine_kinds p) same);
    is = refl;
  },
)
