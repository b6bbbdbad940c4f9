-- Each program has a code whose runs are the longest and whose tables hold each entry once.
use Rattle.std.proofs.Common.{◌≡◌, ℕ, zero, suc, ◌+◌, ◌-◌, ◌<◌, Bool, true, false, List, [], ◌∷◌, ◌++◌, length, get_or, replicate, Some}
use Rattle.std.proofs.Common.{refl, sym, ap, ◌∙◌, subst, arith}
use Rattle.std.specs.Prelude.{slice_get, ◌||◌}
use Rattle.std.specs.List.{AllByRecursion, Contains, IsDistinct, list_any}
use Rattle.std.proofs.lemmas.List.Elements.{Contains-append_left, Contains-append_right}
use Rattle.std.proofs.lemmas.Map.Keys.{IsDistinct-cons}
use Rattle.alma_base.specs.Numbers.{char_range}
use Rattle.alma_base.specs.declared.number.Range.{Range}
use Rattle.alma_code.specs.declared.cell.SlotKind.{SlotKind}
use Rattle.alma_code.specs.declared.head.Run.{Run}
use Rattle.alma_code.specs.Layout.{RunsRise, kinds_of}
use Rattle.alma_code.specs.Plain.{PlainCode}
use Rattle.alma_code.specs.Records.{same_kind}
use Rattle.alma_ir.specs.Tree.{Program, routine_at, no_routine, Assign, ForTo, SomeOf, Read, WriteText, a_loop, Bind, Unify, Chr, ByValue}
use Rattle.alma_ir.specs.Tree.{MixValue, Index}
use Rattle.alma_ir.specs.Phrases.{Phrase, StmtPhrase, TestPhrase, ExprPhrase, ArgPhrase, SelPhrase, stmts_phrases}
use Rattle.alma_ir.specs.Checked.{ranges_of}
use Rattle.alma_lower_templates.specs.Runs.{NamesKinds, RunsDiffer}
use Rattle.alma_lower_templates.specs.Tables.{Tables, same_range, same_text, count_past, first_place}
use Rattle.alma_lower_templates.specs.Slots.{routine_kinds}
use Rattle.alma_lower_templates.specs.Compiled.{program_code}
use Rattle.alma_lower_templates.specs.CodeOf.{HoldsRange, InTables, HoldsAllOf, IsCodeOf}
use Rattle.alma_lower_sound.specs.Entries.{AreSome, HoldsEachOnce, of_each, program_phrases, program_ranges, program_texts, result_range}
use Rattle.alma_lower_sound.specs.Entries.{texts_of}
use Rattle.alma_lower_sound.specs.Runs.{HasLongRuns}
use Rattle.alma_lower_templates.proofs.Exists.{range_is, range_itself, text_is, text_itself}
use Rattle.alma_lower_sound.proofs.Runs.{kind_itself, kind_is}
use Rattle.alma_lower_sound.proofs.Whole.{long_runs}

-- ---- the longest runs of some kinds

-- a slot before runs: of the first of them where it is of its kind
abbrev joined : Bool → (slot run : Run) → List Run → List Run
joined true slot run runs = run ∷ runs
joined false slot run runs = slot ∷ (run ∷ runs)

abbrev with_slot : (low : ℕ) → SlotKind → List Run → List Run
with_slot low k [] = record { kind = k; end = low + 1 } ∷ []
with_slot low k (run ∷ runs) = joined (same_kind k run.kind) (record { kind = k; end = low + 1 }) run runs

abbrev longest : (low : ℕ) → List SlotKind → List Run
longest low [] = []
longest low (k ∷ ks) = with_slot low k (longest (low + 1) ks)

-- the longest runs from a slot on, of these kinds
record Names (low : ℕ) (runs : List Run) (kinds : List SlotKind) : Type 0 where
  rise : RunsRise low runs (low + length kinds)
  named : kinds_of low runs ≡ kinds
  differ : RunsDiffer runs

one_slot : (low : ℕ) (k : SlotKind) (rest : List SlotKind) → replicate (low + 1 - low) k ++ rest ≡ k ∷ rest
one_slot low k rest = let one : low + 1 - low ≡ 1 = omega arith in ap (λ n. replicate n k ++ rest) one

names_more : (low : ℕ) (k : SlotKind) (runs : List Run) (ks : List SlotKind) → Names (low + 1) runs ks
    → Names low (with_slot low k runs) (k ∷ ks)
names_more low k [] ks h = record {
  rise = (omega arith, omega (arith, h.rise));
  named = one_slot low k [] ∙ ap (λ l. k ∷ l) h.named;
  differ = tt;
}
names_more low k (run ∷ runs) ks h = by (same_kind k run.kind) refl
  where
    top : low + 1 + length ks ≡ low + length (k ∷ ks)
    top = omega arith

    by : (t : Bool) → same_kind k run.kind ≡ t → Names low (joined t (record { kind = k; end = low + 1 }) run runs) (k ∷ ks)
    by true e =
        let same : run.kind ≡ k = sym (kind_is k run.kind e) in
        let more : run.end - low ≡ suc (run.end - (low + 1)) = omega (arith, h.rise.0) in
        record {
          rise = (omega (arith, h.rise.0), subst (RunsRise run.end runs) top h.rise.1);
          named = ap (λ n. replicate n run.kind ++ kinds_of run.end runs) more
              ∙ ap (λ x. x ∷ (replicate (run.end - (low + 1)) run.kind ++ kinds_of run.end runs)) same ∙ ap (λ l. k ∷ l) h.named;
          differ = h.differ;
        }
    by false e = record {
      rise = (omega arith, subst (RunsRise (low + 1) (run ∷ runs)) top h.rise);
      named = one_slot low k (kinds_of (low + 1) (run ∷ runs)) ∙ ap (λ l. k ∷ l) h.named;
      differ = ((λ same. let bad : true ≡ false = sym (kind_itself k) ∙ ap (same_kind k) same ∙ e in absurd (cc)), h.differ);
    }

longest_names : (low : ℕ) (ks : List SlotKind) → Names low (longest low ks) ks
longest_names low [] = record { rise = omega arith; named = refl; differ = tt }
longest_names low (k ∷ ks) = names_more low k (longest (low + 1) ks) ks (longest_names (low + 1) ks)

names_kinds : (ks : List SlotKind) → NamesKinds (longest 0 ks) ks
names_kinds ks =
    let h = longest_names 0 ks in
    let top : 0 + length ks ≡ length ks = omega arith in
    record { ends = subst (RunsRise 0 (longest 0 ks)) top h.rise; names = h.named; longest = h.differ }

-- ---- members of lists

in_more : {A : Type 0} (x : A) (xs : List A) (a : A) → Contains xs a → Contains (x ∷ xs) a
in_more x xs a h = (suc h.0, omega (arith, h.1), h.2)

all_in : {A : Type 0} (P : A → Type 0) (xs : List A) → ((a : A) → Contains xs a → P a) → AllByRecursion P xs
all_in P [] h = tt
all_in P (x ∷ xs) h = (h x (0, omega arith, refl), all_in P xs (λ a there. h a (in_more x xs a there)))

at_index : {A : Type 0} (xs : List A) (i : ℕ) (d e : A) → i < length xs → get_or xs i d ≡ get_or xs i e
at_index [] i d e lt = absurd (omega (arith, lt))
at_index (x ∷ xs) zero d e lt = refl
at_index (x ∷ xs) (suc i) d e lt = at_index xs i d e (omega (arith, lt))

in_row_at : {A : Type 0} (xs : List A) (i : ℕ) (d : A) → i < length xs → Contains xs (get_or xs i d)
in_row_at xs i d lt = (i, lt, at_index xs i (get_or xs i d) d lt)

in_each_at : {A B : Type 0} (f : A → List B) (b : B) (xs : List A) (k : ℕ) (a : A) → k < length xs → get_or xs k a ≡ a → Contains (f a) b
    → Contains (of_each f xs) b
in_each_at f b [] k a lt e h = absurd (omega (arith, lt))
in_each_at f b (x ∷ xs) zero a lt e h = Contains-append_left (f x) (of_each f xs) b (subst (λ y. Contains (f y) b) (sym e) h)
in_each_at f b (x ∷ xs) (suc k) a lt e h = Contains-append_right (f x) (of_each f xs) b (in_each_at f b xs k a (omega (arith, lt)) e h)

in_each : {A B : Type 0} (f : A → List B) (b : B) (xs : List A) (a : A) → Contains xs a → Contains (f a) b → Contains (of_each f xs) b
in_each f b xs a there h = in_each_at f b xs there.0 a there.1 there.2 h

-- ---- each entry once

module _ {A : Type 0} (same : A → A → Bool) (is : (a b : A) → same a b ≡ true → a ≡ b) (itself : (a : A) → same a a ≡ true) where
  -- an entry before others, where it is none of them
  abbrev before : Bool → A → List A → List A
  before true x xs = xs
  before false x xs = x ∷ xs

  abbrev once : List A → List A
  once [] = []
  once (x ∷ xs) = before (list_any (same x) (once xs)) x (once xs)

  none_alike : (x : A) (ys : List A) → list_any (same x) ys ≡ false → AllByRecursion (λ y. same x y ≡ false) ys
  none_alike x [] e = tt
  none_alike x (y ∷ ys) e = by (same x y) refl (none_alike x ys) e
    where
      by : (t : Bool) → same x y ≡ t → (list_any (same x) ys ≡ false → AllByRecursion (λ z. same x z ≡ false) ys)
          → (t || list_any (same x) ys) ≡ false → (same x y ≡ false) × AllByRecursion (λ z. same x z ≡ false) ys
      by true e2 later bad = absurd (let no : true ≡ false = bad in cc)
      by false e2 later rest = (e2, later rest)

  one_alike : (x : A) (ys : List A) → list_any (same x) ys ≡ true → Contains ys x
  one_alike x [] e = absurd (let no : false ≡ true = e in cc)
  one_alike x (y ∷ ys) e = by (same x y) refl (one_alike x ys) e
    where
      by : (t : Bool) → same x y ≡ t → (list_any (same x) ys ≡ true → Contains ys x) → (t || list_any (same x) ys) ≡ true
          → Contains (y ∷ ys) x
      by true e2 later rest = (0, omega arith, sym (is x y e2))
      by false e2 later rest = in_more y ys x (later rest)

  pub once_distinct : (xs : List A) → IsDistinct same (once xs)
  unfolding IsDistinct
  once_distinct [] = tt
  once_distinct (x ∷ xs) = by (list_any (same x) (once xs)) refl (once_distinct xs)
    where
      by : (t : Bool) → list_any (same x) (once xs) ≡ t → IsDistinct same (once xs) → IsDistinct same (before t x (once xs))
      by true e later = later
      by false e later = IsDistinct-cons same x (once xs) (none_alike x (once xs) e) later

  -- nothing is new, and nothing is lost
  pub once_among : (xs : List A) (a : A) → Contains (once xs) a → Contains xs a
  once_among [] a h = h
  once_among (x ∷ xs) a h = by (list_any (same x) (once xs)) (once_among xs a) h
    where
      first : (Contains (once xs) a → Contains xs a) → (k : ℕ) → k < length (x ∷ once xs) → get_or (x ∷ once xs) k a ≡ a
          → Contains (x ∷ xs) a
      first later zero lt e = (0, omega arith, e)
      first later (suc k) lt e = in_more x xs a (later (k, omega (arith, lt), e))

      by : (t : Bool) → (Contains (once xs) a → Contains xs a) → Contains (before t x (once xs)) a → Contains (x ∷ xs) a
      by true later there = in_more x xs a (later there)
      by false later there = first later there.0 there.1 there.2

  pub once_all : (xs : List A) (a : A) → Contains xs a → Contains (once xs) a
  once_all [] a h = h
  once_all (x ∷ xs) a h = by (list_any (same x) (once xs)) refl (once_all xs a) h.0 h.1 h.2
    where
      by : (t : Bool) → list_any (same x) (once xs) ≡ t → (Contains xs a → Contains (once xs) a) → (k : ℕ) → k < length (x ∷ xs)
          → get_or (x ∷ xs) k a ≡ a → Contains (before t x (once xs)) a
      by true any later zero lt e = subst (Contains (once xs)) e (one_alike x (once xs) any)
      by true any later (suc k) lt e = later (k, omega (arith, lt), e)
      by false any later zero lt e = (0, omega arith, e)
      by false any later (suc k) lt e = in_more x (once xs) a (later (k, omega (arith, lt), e))

  pub some_once : (xs : List A) → AreSome same xs (once xs)
  some_once xs = record { among = all_in (λ a. Contains xs a) (once xs) (once_among xs); distinct = once_distinct xs }

  -- a member is where it first stands
  place_of : (xs : List A) (k : ℕ) (a : A) → k < length xs → get_or xs k a ≡ a → slice_get xs (first_place same xs a) ≡ Some a
  place_of [] k a lt e = absurd (omega (arith, lt))
  place_of (x ∷ xs) k a lt e = by (same x a) refl (λ i. place_of xs i a) k lt e
    where
      by : (t : Bool) → same x a ≡ t → ((i : ℕ) → i < length xs → get_or xs i a ≡ a → slice_get xs (first_place same xs a) ≡ Some a)
          → (i : ℕ) → i < length (x ∷ xs) → get_or (x ∷ xs) i a ≡ a
          → slice_get (x ∷ xs) (count_past t (first_place same xs a)) ≡ Some a
      by true e2 later i small there = ap Some (is x a e2)
      by false e2 later zero small there = absurd (let no : true ≡ false = sym (ap (λ y. same y a) there ∙ itself a) ∙ e2 in cc)
      by false e2 later (suc i) small there = later i (omega (arith, small)) there

  pub held_once : (xs : List A) (a : A) → Contains xs a → slice_get (once xs) (first_place same (once xs) a) ≡ Some a
  held_once xs a h = let there = once_all xs a h in place_of (once xs) there.0 a there.1 there.2

-- ---- ranges and texts

in_tables : (tables : Tables) (x : Phrase) → HoldsRange tables char_range
    → ((range : Range) → Contains (ranges_of x) range → HoldsRange tables range)
    → ((text : List ℕ) → Contains (texts_of x) text → slice_get tables.texts (first_place same_text tables.texts text) ≡ Some text)
    → InTables tables x
in_tables tables (StmtPhrase (Assign d e range)) chars h texts = λ part. h range (0, omega arith, refl)
in_tables tables (StmtPhrase (ForTo (a_loop d range counter limit from to by body))) chars h texts = λ part. h range (0, omega arith, refl)
in_tables tables (StmtPhrase (SomeOf (a_loop d range counter limit from to by body))) chars h texts = λ part. h range (0, omega arith, refl)
in_tables tables (StmtPhrase (Read d how range)) chars h texts = h range (0, omega arith, refl)
in_tables tables (StmtPhrase (WriteText text)) chars h texts = texts text (0, omega arith, refl)
in_tables tables (TestPhrase (Bind d e range left)) chars h texts = h range (0, omega arith, refl)
in_tables tables (TestPhrase (Unify d range e range2)) chars h texts = (h range (0, omega arith, refl), h range2 (1, omega arith, refl))
in_tables tables (ExprPhrase (Chr e)) chars h texts = chars
in_tables tables (ArgPhrase (ByValue e range)) chars h texts = λ part. h range (0, omega arith, refl)
in_tables tables (ArgPhrase (MixValue e range)) chars h texts = λ part. h range (0, omega arith, refl)
in_tables tables (SelPhrase (Index e range cells)) chars h texts = h range (0, omega arith, refl)
in_tables tables x chars h texts = tt

-- ---- the code

module _ (p : Program) where
  abbrev tables : Tables
  tables = record {
    ranges = once same_range range_is range_itself (program_ranges p);
    texts =
        once same_text text_is text_itself (program_texts p);
  }

  has_range : (range : Range) → Contains (program_ranges p) range → HoldsRange tables range
  has_range range h = held_once same_range range_is range_itself (program_ranges p) range h

  routine_in : (r : ℕ) → r < length p.routines → Contains p.routines (routine_at p r)
  routine_in r lt = in_row_at p.routines r no_routine lt

  holds_all : HoldsAllOf p tables
  holds_all =
      let phrases = of_each ranges_of (program_phrases p) in
      let results = of_each (λ r. result_range r.result) p.routines in
      record {
        phrases = λ r lt. all_in (InTables tables) (stmts_phrases (routine_at p r).body)
            (λ x there.
            let here : Contains (program_phrases p) x =
            in_each (λ y. stmts_phrases y.body) x p.routines (routine_at p r) (routine_in r lt) there in
            in_tables tables x (has_range char_range (0, omega arith, refl))
            (λ range named. has_range range (in_more char_range (phrases ++ results) range
            (Contains-append_left phrases results range (in_each ranges_of range (program_phrases p) x here named))))
            (λ text named. held_once same_text text_is text_itself (program_texts p) text
            (in_each texts_of text (program_phrases p) x here named)));
        results = λ r range lt is part.
            has_range range (in_more char_range (phrases ++ results) range (Contains-append_right phrases results range
            (in_each (λ y. result_range y.result) range p.routines (routine_at p r) (routine_in r lt)
            (subst (λ o. Contains (result_range o) range) (sym is) (0, omega arith, refl)))));
      }

  -- of n routines from one on
  abbrev all_runs : (r n : ℕ) → List (List Run)
  all_runs r zero = []
  all_runs r (suc n) = longest 0 (routine_kinds p r) ∷ all_runs (suc r) n

  all_long : (r n : ℕ) → length (all_runs r n) ≡ n
  all_long r zero = refl
  all_long r (suc n) = ap suc (all_long (suc r) n)

  all_name : (r n k : ℕ) → k < n → NamesKinds (get_or (all_runs r n) k []) (routine_kinds p (r + k))
  all_name r zero k lt = absurd (omega (arith, lt))
  all_name r (suc n) zero lt = let same : r ≡ r + 0 = omega arith in
      subst (λ i. NamesKinds (longest 0 (routine_kinds p r)) (routine_kinds p i)) same (names_kinds (routine_kinds p r))
  all_name r (suc n) (suc k) lt =
      let same : suc r + k ≡ r + suc k = omega arith in
      subst (λ i. NamesKinds (get_or (all_runs (suc r) n) k []) (routine_kinds p i)) same (all_name (suc r) n k (omega (arith, lt)))

  each_named : (r : ℕ) → r < length p.routines → NamesKinds (get_or (all_runs 0 (length p.routines)) r []) (routine_kinds p r)
  each_named r lt = let same : 0 + r ≡ r = omega arith in
      subst (λ i. NamesKinds (get_or (all_runs 0 (length p.routines)) r []) (routine_kinds p i)) same (all_name 0 (length p.routines) r lt)

  abbrev code : PlainCode
  code = program_code p tables (all_runs 0 (length p.routines))

  abbrev is_code : IsCodeOf p code
  is_code = record {
    tables = tables;
    held = holds_all;
    runs = all_runs 0 (length p.routines);
    count = all_long 0 (length p.routines);
    names = λ r lt. (each_named r lt).names;
    is = refl;
  }

  runs_long : HasLongRuns p code
  runs_long = long_runs p code is_code each_named

  holds_once : HoldsEachOnce p code
  holds_once = record {
    ranges = some_once same_range range_is range_itself (program_ranges p);
    texts =
        some_once same_text text_is text_itself (program_texts p);
  }

-- each program has such a code
pub has_such_a_code : (p : Program) → (code : PlainCode) × IsCodeOf p code × HasLongRuns p code × HoldsEachOnce p code
has_such_a_code p = (code p, is_code p, runs_long p, holds_once p)
