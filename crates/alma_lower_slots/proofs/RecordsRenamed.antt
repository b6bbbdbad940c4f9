-- What objects ask of a code stays where its slots are renamed: counts, records, version, names, and whether it reads the input.
use Rattle.std.proofs.Common.{◌≡◌, ◌⊎◌, inl, inr, ℕ, zero, suc, ◌+◌, ◌<◌, ◌≤◌, List, [], ◌∷◌, length, get_or, refl, sym, ap, ◌∙◌, subst}
use Rattle.std.proofs.Common.{arith}
use Rattle.std.specs.Prelude.{Bool, true, ◌&&◌, ◌||◌, map, sum_by, int_le}
use Rattle.std.specs.List.{list_all, list_any}
use Rattle.std.proofs.lemmas.Bool.{and_parts, and_from, cases_lt}
use Rattle.std.proofs.lemmas.List.Sums.{sum_by-cons}
use Rattle.std.proofs.lemmas.Option.{slice_get_within, slice_get-get_or, get_or_from_slice_get}
use Rattle.alma_base.specs.Limits.{record_limit, pool_limit, instr_limit}
use Rattle.alma_code.specs.declared.instr.Instr.{Instr}
use Rattle.alma_code.specs.declared.instr.Instr.TheVariants as I
use Rattle.alma_code.specs.Lines.{lines_rise}
use Rattle.alma_code.specs.Plain.{PlainCode, PlainRoutine, no_routine, routine_at, head_at, start_at, end_at}
use Rattle.alma_code.specs.Reads.{is_read, code_reads}
use Rattle.alma_code.specs.Records.{KeepsCounts, KeepsRecords, KeepsVersion, IsFirst, is_name, has_cells, runs_differ, is_routine_record}
use Rattle.alma_code.specs.Records.{is_first_kind, is_first_param, is_first_routine, is_first_form}
use Rattle.alma_code.specs.Rules.{IsSound, IsTable}
use Rattle.alma_lower_slots.specs.Runs.{HasHeads}
use Rattle.alma_lower_slots.specs.Sharing.{Sharing, Shares, Renames}
use Rattle.alma_lower_slots.specs.Slots.{rename_slots}
use Rattle.alma_lower_slots.proofs.WordsRenamed.{keeps_form}
use Rattle.alma_lower_slots.proofs.HeadsRenamed.{all_at, all_from, test_of_runs}

-- ---- lists of which each item is alike

module _ {X : Type 0} (none : X) where
  -- what a function makes of the items of two lists
  maps_alike : {Y : Type 0} (f : X → Y) (xs ys : List X) → length ys ≡ length xs
      → ((n : ℕ) → n < length xs → f (get_or ys n none) ≡ f (get_or xs n none)) → map f ys ≡ map f xs
  maps_alike f [] [] long each = refl
  maps_alike f [] (y ∷ ys) long each = absurd (omega arith)
  maps_alike f (x ∷ xs) [] long each = absurd (omega arith)
  maps_alike f (x ∷ xs) (y ∷ ys) long each =
      ap (λ z. z ∷ map f ys) (each 0 (omega arith))
      ∙ ap (λ zs. f x ∷ zs) (maps_alike f xs ys (omega arith) (λ n lt. each (suc n) (omega (arith, lt))))

module _ {X : Type 0} where
  -- sums and tests, by what the function makes of each item
  sum_of_map : (f : X → ℕ) (xs : List X) → sum_by (λ n. n) (map f xs) ≡ sum_by f xs
  sum_of_map f [] = refl
  sum_of_map f (x ∷ xs) = sum_by-cons (λ n. n) (f x) (map f xs) ∙ ap (λ n. f x + n) (sum_of_map f xs) ∙ sym (sum_by-cons f x xs)

  -- whether one passes
  any_of_map : (f : X → Bool) (xs : List X) → list_any (λ b. b) (map f xs) ≡ list_any f xs
  any_of_map f [] = refl
  any_of_map f (x ∷ xs) = ap (λ b. f x || b) (any_of_map f xs)

  -- whether all pass
  all_of_map : (f : X → Bool) (xs : List X) → list_all (λ b. b) (map f xs) ≡ list_all f xs
  all_of_map f [] = refl
  all_of_map f (x ∷ xs) = ap (λ b. f x && b) (all_of_map f xs)

-- ---- the routine of an address

-- the address is one of the routine
pub record IsIn (code : PlainCode) (at r : ℕ) : Type 0 where
  pub routine : r < length code.routines
  pub low : start_at code r ≤ at
  pub high : at < end_at code r

module _ (code : PlainCode) (table : IsTable code) (at : ℕ) (inside : at < length code.instrs) where
  in_some : (n r : ℕ) → r + n ≡ length code.routines → start_at code r ≤ at → (q : ℕ) × IsIn code at q
  in_some zero r e low =
      let last : r ≡ length code.routines = omega arith in
      let end : start_at code r ≡ length code.instrs = ap (start_at code) last ∙ table.last in
      absurd (omega arith)
  in_some (suc n) r e low = by (cases_lt at (end_at code r)) (λ past. in_some n (suc r) (omega arith) past)
    where
      by : (at < end_at code r) ⊎ (end_at code r ≤ at) → (end_at code r ≤ at → (q : ℕ) × IsIn code at q) → (q : ℕ) × IsIn code at q
      by (inl lt) later = (r, record { routine = omega arith; low = low; high = lt })
      by (inr past) later = later past

  -- each address is one of some routine
  pub routine_of : (r : ℕ) × IsIn code at r
  routine_of = in_some (length code.routines) 0 (omega arith) (omega arith)

module _ (code new : PlainCode) (s : Sharing) (sound : IsSound code) (shares : Shares code s) (renames : Renames code s new)
    (heads : HasHeads code new) where
  -- what is alike of each routine is alike of all
  of_routines : {Y : Type 0} (f : PlainRoutine → Y)
      → ((r : ℕ) → r < length code.routines → f (routine_at new r) ≡ f (routine_at code r)) → map f new.routines ≡ map f code.routines
  of_routines f each = maps_alike no_routine f code.routines new.routines renames.count each

  -- so is their sum
  sum_of_routines : (f : PlainRoutine → ℕ)
      → ((r : ℕ) → r < length code.routines → f (routine_at new r) ≡ f (routine_at code r))
      → sum_by f new.routines ≡ sum_by f code.routines
  sum_of_routines f each = sym (sum_of_map f new.routines) ∙ ap (sum_by (λ n. n)) (of_routines f each) ∙ sum_of_map f code.routines

  -- what renaming keeps of a form is alike of all instructions
  of_instrs : (f : Instr → Bool) → ((slot : ℕ → ℕ) (i : Instr) → f (rename_slots slot i) ≡ f i) → map f new.instrs ≡ map f code.instrs
  of_instrs f each = maps_alike I.Fail f code.instrs new.instrs renames.size (λ at lt.
      let found = routine_of code sound.table at lt in
      let here = found.1 in
      ap f (renames.instrs found.0 at here.routine here.low here.high) ∙ each (s.slot found.0) (get_or code.instrs at I.Fail))

  -- it reads the input where the old one does
  reads : code_reads new ≡ code_reads code
  reads =
      sym (any_of_map is_read new.instrs) ∙ ap (list_any (λ b. b)) (of_instrs is_read (λ slot i. (keeps_form slot i).reads))
      ∙ any_of_map is_read code.instrs

  -- the names of its routines
  names : map (λ r. r.name) new.routines ≡ map (λ r. r.name) code.routines
  names = of_routines (λ r. r.name) (λ r lt. (renames.routines r lt).name)

  -- ---- counts

  -- its counts
  counts : KeepsCounts code → KeepsCounts new
  counts old = record {
    routines = omega (arith, old.routines, renames.count);
    globals = subst (λ gs. length gs ≤ record_limit) (sym renames.globals) old.globals;
    params = subst (λ n. n ≤ record_limit)
        (sym (sum_of_routines (λ r. length r.head.params) (λ r lt. ap length (renames.routines r lt).params))) old.params;
    runs = heads.runs;
    ranges = subst (λ ts. length ts ≤ record_limit) (sym renames.ranges) old.ranges;
    texts = subst (λ ts. length ts ≤ record_limit) (sym renames.texts) old.texts;
    names = subst (λ n. n ≤ pool_limit) (sym
        (ap (λ n. n + sum_by (λ g. length g.name) new.globals)
        (sum_of_routines (λ r. length r.name) (λ r lt. ap length (renames.routines r lt).name))
        ∙ ap (λ gs. sum_by (λ r. length r.name) code.routines + sum_by (λ g. length g.name) gs) renames.globals)) old.names;
    text_bytes = subst (λ ts. sum_by length ts ≤ pool_limit) (sym renames.texts) old.text_bytes;
    instrs = subst (λ n. n ≤ instr_limit) (sym renames.size) old.instrs;
    lines = subst (λ ls. length ls ≤ record_limit) (sym renames.lines) old.lines;
  }

  -- ---- records

  -- a test of routines that the new ones pass
  routines_pass : (test : PlainRoutine → Bool)
      → ((r : ℕ) → r < length code.routines → test (routine_at code r) ≡ true → test (routine_at new r) ≡ true)
      → list_all test code.routines ≡ true → list_all test new.routines ≡ true
  routines_pass test each e = all_from test new.routines (λ r x is.
      let lt : r < length code.routines = omega (arith, slice_get_within new.routines r x is, renames.count) in
      subst (λ x. test x ≡ true) (get_or_from_slice_get new.routines r x no_routine is)
      (each r lt (all_at test code.routines r (routine_at code r) e (slice_get-get_or code.routines r no_routine lt))))

  -- the record of a routine
  record_kept : (r : ℕ) → r < length code.routines → is_routine_record (routine_at code r) ≡ true
      → is_routine_record (routine_at new r) ≡ true
  record_kept r lt e =
      let old = routine_at code r in
      let kept = renames.routines r lt in
      let cells = list_all (λ p. has_cells p.kind p.cells) old.head.params in
      let x = and_parts (is_name old.name) (cells && runs_differ old.head.runs) e in
      let y = and_parts cells (runs_differ old.head.runs) x.1 in
      and_from _ _ (ap is_name kept.name ∙ x.0)
      (and_from _ _ (ap (λ ps. list_all (λ p. has_cells p.kind p.cells) ps) kept.params ∙ y.0) (heads.heads r lt).differ)

  -- all its records
  records : KeepsRecords code → KeepsRecords new
  records old = record {
    routines = routines_pass is_routine_record record_kept old.routines;
    globals = subst (λ gs. list_all (λ g. is_name g.name) gs ≡ true) (sym renames.globals) old.globals;
    ranges = subst (λ ts. list_all (λ t. int_le t.low t.high) ts ≡ true) (sym renames.ranges) old.ranges;
    lines = ap (λ ls. lines_rise 0 (length new.instrs) ls) renames.lines ∙ ap (λ n. lines_rise 0 n code.lines) renames.size ∙ old.lines;
  }

  -- ---- the version

  -- a routine of version 1
  first_kept : (r : ℕ) → r < length code.routines → is_first_routine (routine_at code r) ≡ true → is_first_routine (routine_at new r) ≡ true
  first_kept r lt e =
      let old = head_at code r in
      let x = and_parts (list_all (λ run. is_first_kind run.kind) old.runs) (list_all (λ p. is_first_param p.kind) old.params) e in
      and_from _ _ (test_of_runs code new s sound shares renames heads is_first_kind r lt x.0)
      (ap (λ ps. list_all (λ p. is_first_param p.kind) ps) (renames.routines r lt).params ∙ x.1)

  -- a code of version 1
  first : IsFirst code → IsFirst new
  first old = record {
    routines = routines_pass is_first_routine first_kept old.routines;
    forms = sym (all_of_map is_first_form new.instrs)
        ∙ ap (list_all (λ b. b)) (of_instrs is_first_form (λ slot i. (keeps_form slot i).first))
        ∙ all_of_map is_first_form code.instrs
        ∙ old.forms;
    lines = renames.lines ∙ old.lines;
  }

  -- its version
  version : KeepsVersion code → KeepsVersion new
  version old = record {
    version = subst (λ v. (v ≡ 1) ⊎ (v ≡ 2)) (sym renames.version) old.version;
    first = λ one. first (old.first (sym renames.version ∙ one));
  }

-- ---- the laws

-- the new code keeps the counts of objects
pub renamed_keeps_counts : (code new : PlainCode) (s : Sharing) → IsSound code → Shares code s → Renames code s new → HasHeads code new
    → KeepsCounts code → KeepsCounts new
renamed_keeps_counts code new s sound shares renames heads old = counts code new s sound shares renames heads old

-- and their records
pub renamed_keeps_records : (code new : PlainCode) (s : Sharing) → IsSound code → Shares code s → Renames code s new → HasHeads code new
    → KeepsRecords code → KeepsRecords new
renamed_keeps_records code new s sound shares renames heads old = records code new s sound shares renames heads old

-- and what is asked of its version
pub renamed_keeps_version : (code new : PlainCode) (s : Sharing) → IsSound code → Shares code s → Renames code s new → HasHeads code new
    → KeepsVersion code → KeepsVersion new
renamed_keeps_version code new s sound shares renames heads old = version code new s sound shares renames heads old

-- it reads the input where the old one did
pub renamed_reads : (code new : PlainCode) (s : Sharing) → IsSound code → Shares code s → Renames code s new → HasHeads code new
    → code_reads new ≡ code_reads code
renamed_reads code new s sound shares renames heads = reads code new s sound shares renames heads

-- its routines have the names that they had
pub renamed_names : (code new : PlainCode) (s : Sharing) → IsSound code → Shares code s → Renames code s new → HasHeads code new
    → map (λ r. r.name) new.routines ≡ map (λ r. r.name) code.routines
renamed_names code new s sound shares renames heads = names code new s sound shares renames heads
