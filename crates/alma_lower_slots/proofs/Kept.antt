-- What stays of a routine where its slots are renamed: its code, its head but for the runs, and the kinds of its slots.
use Rattle.std.proofs.Common.{◌≡◌, ◌⊎◌, inl, inr, ℕ, zero, suc, ◌+◌, ◌-◌, ◌<◌, ◌≤◌, List, [], ◌∷◌, ◌++◌, length, replicate, refl, sym, ap}
use Rattle.std.proofs.Common.{◌∙◌}
use Rattle.std.proofs.Common.{subst, arith, Option, Some, None}
use Rattle.std.specs.Prelude.{Bool, true, false, ◌&&◌, nat_lt, nat_le, nat_eq}
use Rattle.std.proofs.lemmas.Bool.{cases_lt, and_parts, and_from, false≢true, lt-ltb, eqb-true, leb-true}
use Rattle.std.proofs.lemmas.List.{get_or_past, length-append, length-replicate}
use Rattle.std.specs.List.{list_all}
use Rattle.std.proofs.lemmas.Option.{slice_get_within}
use Rattle.alma_base.specs.Limits.{slot_limit, cell_limit}
use Rattle.alma_code.specs.declared.cell.SlotKind.{SlotKind}
use Rattle.alma_code.specs.declared.head.Run.{Run}
use Rattle.alma_code.specs.Kinds.{is_number, numbers_from}
use Rattle.alma_code.specs.Layout.{RunsRise, kinds_of}
use Rattle.alma_code.specs.Plain.{PlainCode, no_routine, routine_at, head_at, start_at, end_at, kinds_at}
use Rattle.alma_code.specs.Rules.{IsSound, last_end, names_routine, kind_in, length_in, link_in, is_free, cells_in, place_length}
use Rattle.alma_code.specs.Rules.{link_routine}
use Rattle.alma_lower_slots.specs.Sharing.{Sharing, Shares, SharesIn, Renames, IsRenamed}

-- ---- runs

-- runs that rise end at their top
pub last_is_top : (low : ℕ) (runs : List Run) (top : ℕ) → RunsRise low runs top → last_end low runs ≡ top
last_is_top low [] top h = h
last_is_top low (run ∷ runs) top h = last_is_top run.end runs top h.1

-- they say as many kinds as there are slots up to their top
pub kinds_count : (low : ℕ) (runs : List Run) (top : ℕ) → RunsRise low runs top → length (kinds_of low runs) + low ≡ top
kinds_count low [] top h = let same : low ≡ top = h in omega arith
kinds_count low (run ∷ runs) top h =
    let rest : length (kinds_of run.end runs) + run.end ≡ top = kinds_count run.end runs top h.1 in
    let both : length (replicate (run.end - low) run.kind ++ kinds_of run.end runs) ≡ (run.end - low) + length (kinds_of run.end runs) =
    length-append (replicate (run.end - low) run.kind) (kinds_of run.end runs)
    ∙ ap (λ n. n + length (kinds_of run.end runs)) (length-replicate (run.end - low) run.kind) in
    omega (arith, h.0)

-- from the first slot on
pub kinds_full : (runs : List Run) (top : ℕ) → RunsRise 0 runs top → length (kinds_of 0 runs) ≡ top
kinds_full runs top h = let all : length (kinds_of 0 runs) + 0 ≡ top = kinds_count 0 runs top h in omega arith

module _ (code new : PlainCode) (s : Sharing) (sound : IsSound code) (shares : Shares code s) (renames : Renames code s new) where
  -- ---- heads and addresses

  -- a routine and what becomes of it
  pub routine_kept : (r : ℕ) → r < length code.routines → IsRenamed code s r (routine_at code r) (routine_at new r)
  routine_kept r lt = renames.routines r lt

  -- the code of a routine ends where it ended
  pub end_kept : (r : ℕ) → r < length code.routines → end_at new r ≡ end_at code r
  end_kept r lt = (renames.routines r lt).code_end

  -- and begins where it began
  pub start_kept : (r : ℕ) → r ≤ length code.routines → start_at new r ≡ start_at code r
  start_kept zero le = refl
  start_kept (suc before) le = end_kept before (omega arith)

  -- it has a result where it had one
  pub result_kept : (r : ℕ) → r < length code.routines → (head_at new r).has_result ≡ (head_at code r).has_result
  result_kept r lt = (renames.routines r lt).has_result

  -- the parts of the second rule
  pub record HeadRule (r : ℕ) : Type 0 where
    pub top : last_end 0 (head_at code r).runs ≡ (head_at code r).slots
    pub slots : (head_at code r).slots ≤ slot_limit
    pub names : list_all (λ run. names_routine code run.kind) (head_at code r).runs ≡ true
    pub declared : (head_at code r).declared ≤ cell_limit

  -- each routine of a sound code keeps them
  pub head_rule : (r : ℕ) → r < length code.routines → HeadRule r
  head_rule r lt =
      let h = head_at code r in
      let few = nat_le h.slots slot_limit && list_all (λ run. names_routine code run.kind) h.runs in
      let cells = nat_le h.declared h.slots && nat_le h.declared cell_limit in
      let all = and_parts (nat_eq (last_end 0 h.runs) h.slots && few) cells (sound.heads r lt).1 in
      let first = and_parts (nat_eq (last_end 0 h.runs) h.slots) few all.0 in
      let second = and_parts (nat_le h.slots slot_limit) (list_all (λ run. names_routine code run.kind) h.runs) first.1 in
      record {
        top = eqb-true (last_end 0 h.runs) h.slots first.0;
        slots = leb-true h.slots slot_limit second.0;
        names = second.1;
        declared = leb-true h.declared cell_limit (and_parts (nat_le h.declared h.slots) (nat_le h.declared cell_limit) all.1).1;
      }

  -- a routine has as many slots as its runs say
  pub slots_full : (r : ℕ) → r < length code.routines → length (kinds_at code r) ≡ (head_at code r).slots
  slots_full r lt = kinds_full (head_at code r).runs (last_end 0 (head_at code r).runs) (sound.table.runs r lt) ∙ (head_rule r lt).top

  -- ---- kinds

  -- a slot keeps its kind under its new number
  pub kind_kept : (r n : ℕ) → r < length code.routines → n < length (kinds_at code r) → kind_in new r (s.slot r n) ≡ kind_in code r n
  kind_kept r n lt within = renames.kinds r n lt within

  -- so do the places of a place slot their length
  pub length_kept : (r n : ℕ) → r < length code.routines → n < length (kinds_at code r)
      → length_in new r (s.slot r n) ≡ length_in code r n
  length_kept r n lt within = ap place_length (kind_kept r n lt within)

  -- and the links of a link slot their routine
  pub link_kept : (r n : ℕ) → r < length code.routines → n < length (kinds_at code r) → link_in new r (s.slot r n) ≡ link_in code r n
  link_kept r n lt within = ap link_routine (kind_kept r n lt within)

  -- a slot that is not the input position does not become it
  pub free_kept : (r n : ℕ) → r < length code.routines → n < length (kinds_at code r) → is_free code r n ≡ true
      → is_free new r (s.slot r n) ≡ true
  free_kept zero n lt within e = by (cases_lt n (s.own 0))
    where
      mine : SharesIn code s 0
      mine = shares.routines 0 lt

      by : (n < s.own 0) ⊎ (s.own 0 ≤ n) → is_free new 0 (s.slot 0 n) ≡ true
      by (inl own) =
          let same : s.slot 0 n ≡ n = mine.same n own in
          subst (λ m. nat_lt 0 (0 + m) ≡ true) (sym same) e
      by (inr above) =
          let high : s.own 0 ≤ s.slot 0 n = mine.above n above within in
          lt-ltb 0 (0 + s.slot 0 n) (omega (arith, mine.some))
  free_kept (suc r) n lt within e = lt-ltb 0 (suc r + s.slot (suc r) n) (omega arith)

  -- ---- own slots

  -- what has a slot with a kind is a routine
  pub has_kind : (q n : ℕ) (k : SlotKind) → kind_in code q n ≡ Some k → q < length code.routines
  has_kind q n k e = by (cases_lt q (length code.routines))
    where
      by : (q < length code.routines) ⊎ (length code.routines ≤ q) → q < length code.routines
      by (inl lt) = lt
      by (inr past) =
          let none : kinds_at code q ≡ [] = ap (λ r. kinds_of 0 r.head.runs) (get_or_past code.routines q no_routine past) in
          let within : n < length (kinds_at code q) = slice_get_within (kinds_at code q) n k e in
          let empty : length (kinds_at code q) ≡ 0 = ap length none in
          absurd (omega arith)

  -- a test that no slot fails to be there for
  pub some_kind : (P : Option SlotKind → Bool) (o : Option SlotKind) → P None ≡ false → P o ≡ true → (k : SlotKind) × (o ≡ Some k)
  some_kind P None none e = absurd (false≢true (sym none ∙ e))
  some_kind P (Some k) none e = (k, refl)

  -- an own slot passes what it passed
  pub own_kept : (P : Option SlotKind → Bool) (q n : ℕ) → P None ≡ false → n < s.own q → P (kind_in code q n) ≡ true
      → P (kind_in new q n) ≡ true
  own_kept P q n none own e =
      let found = some_kind P (kind_in code q n) none e in
      let lt : q < length code.routines = has_kind q n found.0 found.1 in
      let within : n < length (kinds_at code q) = slice_get_within (kinds_at code q) n found.0 found.1 in
      let same : s.slot q n ≡ n = (shares.routines q lt).same n own in
      let kind : kind_in new q n ≡ kind_in code q n = ap (kind_in new q) (sym same) ∙ kind_kept q n lt within in
      ap P kind ∙ e

  -- own number slots stay number slots
  pub numbers_kept : (n q i : ℕ) → i + n ≤ s.own q → numbers_from n (kinds_at code q) i ≡ true → numbers_from n (kinds_at new q) i ≡ true
  numbers_kept zero q i le e = refl
  numbers_kept (suc n) q i le e =
      let both = and_parts (is_number (kind_in code q i)) (numbers_from n (kinds_at code q) (suc i)) e in
      and_from (is_number (kind_in new q i)) (numbers_from n (kinds_at new q) (suc i))
      (own_kept is_number q i refl (omega arith) both.0)
      (numbers_kept n q (suc i) (omega arith) both.1)

  -- also where the input position is left out
  pub cells_kept : (q i n : ℕ) → i + n ≤ s.own q → cells_in code q i n ≡ true → cells_in new q i n ≡ true
  cells_kept q i zero le e = refl
  cells_kept q i (suc n) le e =
      let both = and_parts (is_free code q i) (numbers_from (suc n) (kinds_at code q) i) e in
      and_from (is_free new q i) (numbers_from (suc n) (kinds_at new q) i) both.0 (numbers_kept (suc n) q i le both.1)
