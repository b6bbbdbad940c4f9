-- What was gathered from a whole program holds all that its code names, and each once.
use Rattle.std.proofs.Common.{◌≡◌, ℕ, ◌<◌, Bool, true, false, List, [], ◌∷◌, ◌++◌, length, get_or, Some, None, Option, refl, sym, ap, ◌∙◌}
use Rattle.std.proofs.Common.{subst, arith, take, add-one, ◌+◌}
use Rattle.std.proofs.Math.Seq.{take-suc, take-length}
use Rattle.std.specs.Prelude.{slice_get, map, Result, OnOk}
use Rattle.std.specs.List.{AllByRecursion, Contains}
use Rattle.std.proofs.lemmas.List.{append-nil, map-append}
use Rattle.std.proofs.lemmas.List.Elements.{Contains-append_left, Contains-append_right}
use Rattle.alma_base.specs.declared.number.Range.{Range}
use Rattle.alma_ir.specs.declared.program.Routine.{Routine as Here}
use Rattle.alma_ir.specs.View.{routine_of, stmts_list}
use Rattle.alma_ir.specs.Tree.{Program, Routine, routine_at, no_routine, Assign, ForTo, SomeOf, Read, WriteText, a_loop, Bind, Unify, Chr}
use Rattle.alma_ir.specs.Tree.{ByValue, MixValue, Index}
use Rattle.alma_ir.specs.Phrases.{Phrase, StmtPhrase, TestPhrase, ExprPhrase, ArgPhrase, SelPhrase, stmts_phrases}
use Rattle.alma_ir.specs.Checked.{ranges_of}
use Rattle.alma_ir.proofs.Each.{each_of_append}
use Rattle.alma_lower_sound.specs.Entries.{AreSome, of_each, program_phrases, program_ranges, program_texts, result_range, texts_of}
use Rattle.alma_lower_templates.proofs.Exists.{range_itself, text_itself}
use Rattle.alma_lower_tables.proofs.Places.{range_is, text_is}
use Rattle.alma_lower_templates.specs.CodeOf.{HoldsRange, InTables, HoldsAllOf, HasIntegers, IsOfIntegers}
use Rattle.alma_lower_templates.specs.Tables.{Tables, same_range, same_text, is_whole, first_place}
use Rattle.alma_base.specs.Numbers.{char_range}
use Rattle.alma_lower_tables.specs.AddsPhrases.{unless_whole, check_range, checked_result, checked_results, named_ranges, with_entries}
use Rattle.alma_lower_tables.specs.AddsPhrases.{Names}
use Rattle.alma_lower_tables.specs.AddsPhrases.{AddsPhrases}
use Rattle.alma_lower_tables.proofs.Entries.{entries_row, each_row, all_in, all_at, all_each, in_each, in_row_at, held, among, distinct}
use Rattle.alma_lower_tables.proofs.Entries.{none_distinct}
use Rattle.alma_lower_tables.proofs.Walks.{then_walked, names_then, names_none}

in_checked : (range : Range) → is_whole range ≡ false → Contains (check_range range) range
in_checked range part = subst (λ b. Contains (unless_whole b range) range) (sym part) (0, omega arith, refl)

all_checked : (P : Range → Type 0) (range : Range) → P range → AllByRecursion P (check_range range)
all_checked P range h = by (is_whole range)
  where
    by : (b : Bool) → AllByRecursion P (unless_whole b range)
    by true = tt
    by false = (h, tt)

-- the code of a phrase names what stands in the tables
in_tables : (tables : Tables) (x : Phrase) → ((range : Range) → Contains (named_ranges x) range → HoldsRange tables range)
    → ((text : List ℕ) → Contains (texts_of x) text → slice_get tables.texts (first_place same_text tables.texts text) ≡ Some text)
    → InTables tables x
in_tables tables (StmtPhrase (Assign d e range)) h texts = λ part. h range (in_checked range part)
in_tables tables (StmtPhrase (ForTo (a_loop d range counter limit from to by body))) h texts = λ part. h range (in_checked range part)
in_tables tables (StmtPhrase (SomeOf (a_loop d range counter limit from to by body))) h texts = λ part. h range (in_checked range part)
in_tables tables (StmtPhrase (Read d how range)) h texts = h range (0, omega arith, refl)
in_tables tables (StmtPhrase (WriteText text)) h texts = texts text (0, omega arith, refl)
in_tables tables (TestPhrase (Bind d e range left)) h texts = h range (0, omega arith, refl)
in_tables tables (TestPhrase (Unify d range e range2)) h texts = (h range (0, omega arith, refl), h range2 (1, omega arith, refl))
in_tables tables (ExprPhrase (Chr e)) h texts = h char_range (0, omega arith, refl)
in_tables tables (ArgPhrase (ByValue e range)) h texts = λ part. h range (in_checked range part)
in_tables tables (ArgPhrase (MixValue e range)) h texts = λ part. h range (in_checked range part)
in_tables tables (SelPhrase (Index e range cells)) h texts = h range (0, omega arith, refl)
in_tables tables x h texts = tt

-- it names only ranges of the phrase, and that of CHAR
named_among : (P : Range → Type 0) (x : Phrase) → P char_range → ((range : Range) → Contains (ranges_of x) range → P range)
    → AllByRecursion P (named_ranges x)
named_among P (StmtPhrase (Assign d e range)) chars h = all_checked P range (h range (0, omega arith, refl))
named_among P (StmtPhrase (ForTo (a_loop d range counter limit from to by body))) chars h =
    all_checked P range (h range (0, omega arith, refl))
named_among P (StmtPhrase (SomeOf (a_loop d range counter limit from to by body))) chars h =
    all_checked P range (h range (0, omega arith, refl))
named_among P (StmtPhrase (Read d how range)) chars h = (h range (0, omega arith, refl), tt)
named_among P (TestPhrase (Bind d e range left)) chars h = (h range (0, omega arith, refl), tt)
named_among P (TestPhrase (Unify d range e range2)) chars h = (h range (0, omega arith, refl), (h range2 (1, omega arith, refl), tt))
named_among P (ExprPhrase (Chr e)) chars h = (chars, tt)
named_among P (ArgPhrase (ByValue e range)) chars h = all_checked P range (h range (0, omega arith, refl))
named_among P (ArgPhrase (MixValue e range)) chars h = all_checked P range (h range (0, omega arith, refl))
named_among P (SelPhrase (Index e range cells)) chars h = (h range (0, omega arith, refl), tt)
named_among P x chars h = tt

-- ---- the loops over routines

routine_last : {B : Type 0} (f : Routine → List B) (xs : List Here) (i : ℕ) (x : Here) → i < length xs → x ≡ get_or xs i x
    → of_each f (map routine_of (take (i + 1) xs)) ≡ of_each f (map routine_of (take i xs)) ++ f (routine_of x)
routine_last f xs i x lt is =
    let front : take (i + 1) xs ≡ take i xs ++ x ∷ [] = ap (λ k. take k xs) (add-one i) ∙ take-suc xs i x lt
    ∙ ap (λ y. take i xs ++ y ∷ []) (sym is) in
    ap (λ l. of_each f (map routine_of l)) front ∙ ap (of_each f) (map-append routine_of (take i xs) (x ∷ []))
    ∙ each_row f (map routine_of (take i xs)) (routine_of x ∷ [])
    ∙ ap (λ l. of_each f (map routine_of (take i xs)) ++ l) (append-nil (f (routine_of x)))

routine_all : {B : Type 0} (f : Routine → List B) (xs : List Here) (i : ℕ) → i ≡ length xs
    → of_each f (map routine_of xs) ≡ of_each f (map routine_of (take i xs))
routine_all f xs i is = ap (λ l. of_each f (map routine_of l)) (sym (take-length xs) ∙ ap (λ n. take n xs) (sym is))

pub bodies_more : (a b c : Tables) (xs : List Here) (i : ℕ) (x : Here) → i < length xs → x ≡ get_or xs i x
    → AddsPhrases a b (of_each (λ r. stmts_phrases r.body) (map routine_of (take i xs)))
    → AddsPhrases b c (stmts_phrases (stmts_list x.body.items))
    → AddsPhrases a c (of_each (λ r. stmts_phrases r.body) (map routine_of (take (i + 1) xs)))
bodies_more a b c xs i x lt is h j = subst (AddsPhrases a c) (sym (routine_last (λ r. stmts_phrases r.body) xs i x lt is))
    (then_walked a b c _ _ h j)

pub bodies_whole : (a b : Tables) (xs all : List Here) (i : ℕ) → xs ≡ all → i ≡ length xs
    → AddsPhrases a b (of_each (λ r. stmts_phrases r.body) (map routine_of (take i xs)))
    → AddsPhrases a b (of_each (λ r. stmts_phrases r.body) (map routine_of all))
bodies_whole a b xs all i e is h = subst (AddsPhrases a b)
    (sym (routine_all (λ r. stmts_phrases r.body) xs i is) ∙ ap (λ l. of_each (λ r. stmts_phrases r.body) (map routine_of l)) e) h

pub results_more : (a b c : Tables) (xs : List Here) (i : ℕ) (x : Here) → i < length xs → x ≡ get_or xs i x
    → Names a b (of_each (λ r. checked_result r.result) (map routine_of (take i xs))) []
    → Names b c (checked_result x.result) [] → Names a c (of_each (λ r. checked_result r.result) (map routine_of (take (i + 1) xs))) []
results_more a b c xs i x lt is h j = subst (λ l. Names a c l []) (sym (routine_last (λ r. checked_result r.result) xs i x lt is))
    (names_then a b c _ _ [] [] h j)

pub results_whole : (a b : Tables) (xs all : List Here) (i : ℕ) → xs ≡ all → i ≡ length xs
    → Names a b (of_each (λ r. checked_result r.result) (map routine_of (take i xs))) []
    → Names a b (of_each (λ r. checked_result r.result) (map routine_of all)) []
results_whole a b xs all i e is h = subst (λ l. Names a b l [])
    (sym (routine_all (λ r. checked_result r.result) xs i is) ∙ ap (λ l. of_each (λ r. checked_result r.result) (map routine_of l)) e) h

-- the result of a function
pub result_named : {T E : Type 0} (r : Result T E) (a b : Tables) (o : Option Range) (range : Range) → o ≡ Some range
    → OnOk r (Names a b (check_range range) []) → OnOk r (Names a b (checked_result o) [])
result_named r a b o range is h = subst (λ q. OnOk r (Names a b (checked_result q) [])) (sym is) h

pub no_result_named : (a : Tables) (o : Option Range) → o ≡ None → Names a a (checked_result o) []
no_result_named a o is = subst (λ q. Names a a (checked_result q) []) (sym is) (names_none a)

module _ (p : Program) where
  abbrev all_ranges : List Range
  all_ranges = of_each named_ranges (program_phrases p) ++ checked_results p

  abbrev all_texts : List (List ℕ)
  all_texts = of_each texts_of (program_phrases p)

  routine_in : (r : ℕ) → r < length p.routines → Contains p.routines (routine_at p r)
  routine_in r lt = in_row_at p.routines r no_routine lt

  phrase_in : (r : ℕ) (x : Phrase) → r < length p.routines → Contains (stmts_phrases (routine_at p r).body) x
      → Contains (program_phrases p) x
  phrase_in r x lt there = in_each (λ y. stmts_phrases y.body) x p.routines (routine_at p r) (routine_in r lt) there

  abbrev of_results : List Range
  of_results = of_each (λ r. result_range r.result) p.routines

  behind_chars : (range : Range) → Contains (of_each ranges_of (program_phrases p) ++ of_results) range → Contains (program_ranges p) range
  behind_chars range h = Contains-append_right (char_range ∷ []) (of_each ranges_of (program_phrases p) ++ of_results) range h

  named_phrases : AllByRecursion (λ x. Contains (program_ranges p) x) (of_each named_ranges (program_phrases p))
  named_phrases = all_each (λ x. Contains (program_ranges p) x) named_ranges (program_phrases p)
      (all_in (λ y. AllByRecursion (λ x. Contains (program_ranges p) x) (named_ranges y)) (program_phrases p)
      (λ y there. named_among (λ x. Contains (program_ranges p) x) y (0, omega arith, refl)
      (λ range named. behind_chars range (Contains-append_left (of_each ranges_of (program_phrases p)) of_results range
      (in_each ranges_of range (program_phrases p) y there named)))))

  named_results : AllByRecursion (λ x. Contains (program_ranges p) x) (checked_results p)
  named_results = all_each (λ x. Contains (program_ranges p) x) (λ r. checked_result r.result) p.routines
      (all_in (λ r. AllByRecursion (λ x. Contains (program_ranges p) x) (checked_result r.result)) p.routines
      (λ r there. by r.result
      (λ range named. behind_chars range (Contains-append_right (of_each ranges_of (program_phrases p)) of_results range
      (in_each (λ y. result_range y.result) range p.routines r there named)))))
    where
      by : (o : Option Range) → ((range : Range) → Contains (result_range o) range → Contains (program_ranges p) range)
          → AllByRecursion (λ x. Contains (program_ranges p) x) (checked_result o)
      by None h = tt
      by (Some range) h = all_checked (λ x. Contains (program_ranges p) x) range (h range (0, omega arith, refl))

  module _ (t : Tables) (ranges : t.ranges ≡ with_entries same_range [] all_ranges) (texts : t.texts ≡ with_entries same_text [] all_texts)
    where
      has_range : (range : Range) → Contains all_ranges range → HoldsRange t range
      has_range range h = subst (λ l. slice_get l (first_place same_range l range) ≡ Some range) (sym ranges)
          (held same_range range_is range_itself [] all_ranges range h)

      has_text : (text : List ℕ) → Contains all_texts text → slice_get t.texts (first_place same_text t.texts text) ≡ Some text
      has_text text h = subst (λ l. slice_get l (first_place same_text l text) ≡ Some text) (sym texts)
          (held same_text text_is text_itself [] all_texts text h)

      pub holds_all : HoldsAllOf p t
      holds_all = record {
        phrases = λ r lt. all_in (InTables t) (stmts_phrases (routine_at p r).body)
            (λ x there. in_tables t x
            (λ range named. has_range range (Contains-append_left (of_each named_ranges (program_phrases p)) (checked_results p) range
            (in_each named_ranges range (program_phrases p) x (phrase_in r x lt there) named)))
            (λ text named. has_text text (in_each texts_of text (program_phrases p) x (phrase_in r x lt there) named)));
        results = λ r range lt is part.
            has_range range (Contains-append_right (of_each named_ranges (program_phrases p)) (checked_results p) range
            (in_each (λ y. checked_result y.result) range p.routines (routine_at p r) (routine_in r lt)
            (subst (λ o. Contains (checked_result o) range) (sym is) (in_checked range part))));
      }

      pub some_ranges : AreSome same_range (program_ranges p) t.ranges
      some_ranges = subst (AreSome same_range (program_ranges p)) (sym ranges) (record {
        among = among same_range range_is range_itself (program_ranges p) [] all_ranges tt
            (each_of_append (λ x. Contains (program_ranges p) x) (of_each named_ranges (program_phrases p)) (checked_results p)
            named_phrases
            named_results);
        distinct = distinct same_range range_is range_itself [] all_ranges (none_distinct same_range);
      })

      pub some_texts : AreSome same_text (program_texts p) t.texts
      some_texts = subst (AreSome same_text (program_texts p)) (sym texts) (record {
        among = among same_text text_is text_itself (program_texts p) [] all_texts tt
            (all_in (λ x. Contains (program_texts p) x) all_texts (λ x h. h));
        distinct = distinct same_text text_is text_itself [] all_texts (none_distinct same_text);
      })

  pub all_ranges_are : (a b c : Tables) → a.ranges ≡ [] → AddsPhrases a b (program_phrases p) → Names b c (checked_results p) []
      → c.ranges ≡ with_entries same_range [] all_ranges
  all_ranges_are a b c e h j =
      j.of_ranges ∙ ap (λ l. with_entries same_range l (checked_results p))
      (h.names.of_ranges ∙ ap (λ l. with_entries same_range l (of_each named_ranges (program_phrases p))) e)
      ∙ sym (entries_row same_range [] (of_each named_ranges (program_phrases p)) (checked_results p))

  pub all_texts_are : (a b c : Tables) → a.texts ≡ [] → AddsPhrases a b (program_phrases p) → Names b c (checked_results p) []
      → c.texts ≡ with_entries same_text [] all_texts
  all_texts_are a b c e h j = j.of_texts ∙ h.names.of_texts ∙ ap (λ l. with_entries same_text l (of_each texts_of (program_phrases p))) e

  pub all_integers : (a b : Tables) → AddsPhrases a b (program_phrases p) → IsOfIntegers p
  all_integers a b h r lt = all_in (λ x. HasIntegers x) (stmts_phrases (routine_at p r).body)
      (λ x there. all_at (λ y. HasIntegers y) (program_phrases p) x h.integers (phrase_in r x lt there))
