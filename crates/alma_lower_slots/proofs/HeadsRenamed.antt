-- The tables and heads of a code whose slots are renamed.
use Rattle.std.proofs.Common.{◌≡◌, ℕ, zero, suc, ◌+◌, ◌-◌, ◌<◌, ◌≤◌, List, [], ◌∷◌, ◌++◌, length, replicate, refl, sym, ap, ◌∙◌, subst}
use Rattle.std.proofs.Common.{arith}
use Rattle.std.proofs.Common.{Some}
use Rattle.std.specs.Prelude.{Bool, true, not, ◌&&◌, nat_lt, nat_le, nat_eq, slice_get, sum_by}
use Rattle.std.specs.List.{list_all}
use Rattle.std.proofs.lemmas.Bool.{and_parts, and_from, ltb-true, leb-true, lt-ltb, le-leb, eq-eqb}
use Rattle.std.proofs.lemmas.List.Sums.{sum_by-cons}
use Rattle.std.proofs.lemmas.Option.{slice_get_within}
use Rattle.alma_base.specs.Limits.{slot_limit, cell_limit}
use Rattle.alma_code.specs.declared.cell.SlotKind.{SlotKind}
use Rattle.alma_code.specs.declared.cell.SlotKind.TheVariants as slot
use Rattle.alma_code.specs.declared.head.CodeParam.{CodeParam}
use Rattle.alma_code.specs.declared.head.ParamKind.{ParamKind}
use Rattle.alma_code.specs.declared.head.ParamKind.TheVariants as param
use Rattle.alma_code.specs.declared.head.Run.{Run}
use Rattle.alma_code.specs.Kinds.{is_number, is_place_of, is_link_of}
use Rattle.alma_code.specs.Layout.{RunsRise, kinds_of, hold_params, holds_param, param_slots}
use Rattle.alma_code.specs.Plain.{PlainCode, PlainGlobal, head_at, start_at, end_at, kinds_at}
use Rattle.alma_code.specs.Rules.{IsSound, IsTable, last_end, kind_in, is_global, is_main, has_position, names_routine, rule_1, rule_2}
use Rattle.alma_code.specs.Rules.{rule_3}
use Rattle.alma_lower_slots.specs.Runs.{HasHeads}
use Rattle.alma_lower_slots.specs.Sharing.{Sharing, Shares, Renames}
use Rattle.alma_lower_slots.proofs.Kept.{last_is_top, kinds_full, routine_kept, start_kept, end_kept, head_rule, own_kept, numbers_kept}
use Rattle.alma_lower_slots.proofs.Kept.{cells_kept}

-- ---- tests of kinds and of runs

module _ {X : Type 0} (test : X → Bool) where
  -- a test of a list holds of what stands in it
  pub all_at : (xs : List X) (n : ℕ) (x : X) → list_all test xs ≡ true → slice_get xs n ≡ Some x → test x ≡ true
  all_at [] n x e is = absurd (cc)
  all_at (y ∷ ys) zero x e is =
      let same : y ≡ x = cc in
      ap test (sym same) ∙ (and_parts (test y) (list_all test ys) e).0
  all_at (y ∷ ys) (suc n) x e is = all_at ys n x (and_parts (test y) (list_all test ys) e).1 is

  -- and it holds of the list where it holds of all that stands in it
  pub all_from : (xs : List X) → ((n : ℕ) (x : X) → slice_get xs n ≡ Some x → test x ≡ true) → list_all test xs ≡ true
  all_from [] each = refl
  all_from (y ∷ ys) each = and_from (test y) (list_all test ys) (each 0 y refl) (all_from ys (λ n x is. each (suc n) x is))

  -- a test of one item again and again and of what is behind
  repeat_passes : (n : ℕ) (x : X) (rest : List X) → test x ≡ true → list_all test rest ≡ true → list_all test (replicate n x ++ rest) ≡ true
  repeat_passes zero x rest e f = f
  repeat_passes (suc n) x rest e f = and_from (test x) (list_all test (replicate n x ++ rest)) e (repeat_passes n x rest e f)

  -- what is behind them passes
  behind_repeat : (n : ℕ) (x : X) (rest : List X) → list_all test (replicate n x ++ rest) ≡ true → list_all test rest ≡ true
  behind_repeat zero x rest e = e
  behind_repeat (suc n) x rest e = behind_repeat n x rest (and_parts (test x) (list_all test (replicate n x ++ rest)) e).1

  -- and so does the item, where there is one
  of_repeat : (n : ℕ) (x : X) (rest : List X) → 0 < n → list_all test (replicate n x ++ rest) ≡ true → test x ≡ true
  of_repeat zero x rest some e = absurd (omega arith)
  of_repeat (suc n) x rest some e = (and_parts (test x) (list_all test (replicate n x ++ rest)) e).0

module _ (test : SlotKind → Bool) where
  -- what holds of the kind of each run holds of each kind
  pub kinds_pass : (low : ℕ) (runs : List Run) → list_all (λ run. test run.kind) runs ≡ true → list_all test (kinds_of low runs) ≡ true
  kinds_pass low [] e = refl
  kinds_pass low (run ∷ runs) e =
      let both = and_parts (test run.kind) (list_all (λ run. test run.kind) runs) e in
      repeat_passes test (run.end - low) run.kind (kinds_of run.end runs) both.0 (kinds_pass run.end runs both.1)

  -- and the other way round, where no run is empty
  pub runs_pass : (low : ℕ) (runs : List Run) (top : ℕ) → RunsRise low runs top → list_all test (kinds_of low runs) ≡ true
      → list_all (λ run. test run.kind) runs ≡ true
  runs_pass low [] top rise e = refl
  runs_pass low (run ∷ runs) top rise e =
      and_from (test run.kind) (list_all (λ run. test run.kind) runs)
      (of_repeat test (run.end - low) run.kind (kinds_of run.end runs) (omega (arith, rise.0)) e)
      (runs_pass run.end runs top rise.1 (behind_repeat test (run.end - low) run.kind (kinds_of run.end runs) e))

module _ (code new : PlainCode) (s : Sharing) (sound : IsSound code) (shares : Shares code s) (renames : Renames code s new)
    (heads : HasHeads code new) where
  -- a new head has as many kinds as slots
  pub new_full : (r : ℕ) → r < length code.routines → length (kinds_at new r) ≡ (head_at new r).slots
  new_full r lt = kinds_full (head_at new r).runs (head_at new r).slots (heads.heads r lt).rise

  -- a test that the kinds of a routine pass is passed by its new runs
  pub test_of_runs : (test : SlotKind → Bool) (r : ℕ) → r < length code.routines
      → list_all (λ run. test run.kind) (head_at code r).runs ≡ true → list_all (λ run. test run.kind) (head_at new r).runs ≡ true
  test_of_runs test r lt e =
      let head = heads.heads r lt in
      let all = kinds_pass test 0 (head_at code r).runs e in
      runs_pass test 0 (head_at new r).runs (head_at new r).slots head.rise
      (all_from test (kinds_at new r) (λ j k is.
      let found = head.from j (slice_get_within (kinds_at new r) j k is) in
      all_at test (kinds_at code r) found.0 k all (sym found.2 ∙ is)))

  -- ---- the table

  -- the tables of the new code are in order
  pub new_table : IsTable new
  new_table = record {
    some = omega (arith, sound.table.some, renames.count);
    rise = λ r lt.
        let old : r < length code.routines = omega (arith, lt, renames.count) in
        omega (
          arith,
          sound.table.rise r old,
          start_kept code new s sound shares renames r (omega arith),
          end_kept code new s sound shares renames r old,
        );
    last = ap (start_at new) renames.count ∙ start_kept code new s sound shares renames (length code.routines) (omega arith)
        ∙ sound.table.last ∙ sym renames.size;
    runs = λ r lt.
        let old : r < length code.routines = omega (arith, lt, renames.count) in
        let rise = (heads.heads r old).rise in
        subst (RunsRise 0 (head_at new r).runs) (sym (last_is_top 0 (head_at new r).runs (head_at new r).slots rise)) rise;
  }

  -- ---- rule 1

  -- globals are number slots of routine 0 from 1 on
  globals_kept : (gs : List PlainGlobal) → list_all (is_global code) gs ≡ true
      → list_all (λ g. nat_le (g.slot + g.cells) (s.own 0)) gs ≡ true → list_all (is_global new) gs ≡ true
  globals_kept [] e own = refl
  globals_kept (g ∷ gs) e own =
      let x = and_parts (is_global code g) (list_all (is_global code) gs) e in
      let y = and_parts (nat_le (g.slot + g.cells) (s.own 0)) (list_all (λ g. nat_le (g.slot + g.cells) (s.own 0)) gs) own in
      and_from (is_global new g) (list_all (is_global new) gs)
      (cells_kept code new s sound shares renames 0 g.slot g.cells (leb-true (g.slot + g.cells) (s.own 0) y.0) x.0)
      (globals_kept gs x.1 y.1)

  -- routine 0 is as the module body must be
  main_kept : (r : ℕ) → r < length code.routines → is_main code r ≡ true → is_main new r ≡ true
  main_kept zero lt e =
      let kept = routine_kept code new s sound shares renames 0 lt in
      let x = and_parts (nat_eq (length (head_at code 0).params) 0)
      (not (head_at code 0).has_result && list_all (is_global code) code.globals) e in
      let y = and_parts (not (head_at code 0).has_result) (list_all (is_global code) code.globals) x.1 in
      and_from _ _ (ap (λ ps. nat_eq (length ps) 0) kept.params ∙ x.0)
      (and_from _ _ (ap not kept.has_result ∙ y.0)
      (subst (λ gs. list_all (is_global new) gs ≡ true) (sym renames.globals) (globals_kept code.globals y.1 shares.globals)))
  main_kept (suc r) lt e = refl

  -- the first rule
  first : (r : ℕ) → r < length code.routines → rule_1 new r ≡ true
  first r lt =
      let x = and_parts (nat_lt (start_at code r) (end_at code r)) (is_main code r) (sound.heads r lt).0 in
      and_from _ _
      (lt-ltb (start_at new r) (end_at new r) (omega (
        arith,
        ltb-true (start_at code r) (end_at code r) x.0,
        start_kept code new s sound shares renames r (omega arith),
        end_kept code new s sound shares renames r lt,
      )))
      (main_kept r lt x.1)

  -- ---- rule 2

  -- a kind of links names a routine from 1 on
  names_kept : (k : SlotKind) → names_routine code k ≡ true → names_routine new k ≡ true
  names_kept (slot.Link q) e =
      let x = and_parts (nat_lt 0 q) (nat_lt q (length code.routines)) e in
      and_from (nat_lt 0 q) (nat_lt q (length new.routines)) x.0 (ap (nat_lt q) renames.count ∙ x.1)
  names_kept slot.Number e = refl
  names_kept (slot.Place n) e = refl
  names_kept slot.Mark e = refl

  -- so does each run
  all_names_kept : (runs : List Run) → list_all (λ run. names_routine code run.kind) runs ≡ true
      → list_all (λ run. names_routine new run.kind) runs ≡ true
  all_names_kept [] e = refl
  all_names_kept (run ∷ runs) e =
      let x = and_parts (names_routine code run.kind) (list_all (λ run. names_routine code run.kind) runs) e in
      and_from (names_routine new run.kind) (list_all (λ run. names_routine new run.kind) runs) (names_kept run.kind x.0)
      (all_names_kept runs x.1)

  -- the second rule
  second : (r : ℕ) → r < length code.routines → rule_2 new r ≡ true
  second r lt =
      let head = heads.heads r lt in
      let old = head_rule code new s sound shares renames r lt in
      let kept = routine_kept code new s sound shares renames r lt in
      and_from _ _
      (and_from _ _ (eq-eqb (last_end 0 (head_at new r).runs) (head_at new r).slots
      (last_is_top 0 (head_at new r).runs (head_at new r).slots head.rise))
      (and_from _ _ (le-leb (head_at new r).slots slot_limit (omega (arith, head.fewer, old.slots)))
      (all_names_kept (head_at new r).runs (test_of_runs (names_routine code) r lt old.names))))
      (and_from _ _ (le-leb (head_at new r).declared (head_at new r).slots head.declared)
      (le-leb (head_at new r).declared cell_limit (omega (arith, kept.declared, old.declared))))

  -- ---- rule 3

  -- the slots of a parameter
  param_kept : (k : ParamKind) (cells r i : ℕ) → i + param_slots k cells ≤ s.own r → holds_param (kinds_at code r) k cells i ≡ true
      → holds_param (kinds_at new r) k cells i ≡ true
  param_kept param.Value cells r i le e = own_kept code new s sound shares renames is_number r i refl (omega arith) e
  param_kept param.Place cells r i le e = own_kept code new s sound shares renames (is_place_of cells) r i refl (omega arith) e
  param_kept param.Mix cells r i le e =
      let x = and_parts (is_place_of 1 (kind_in code r i)) (is_number (kind_in code r (suc i))) e in
      and_from (is_place_of 1 (kind_in new r i)) (is_number (kind_in new r (suc i)))
      (own_kept code new s sound shares renames (is_place_of 1) r i refl (omega arith) x.0)
      (own_kept code new s sound shares renames is_number r (suc i) refl (omega arith) x.1)
  param_kept param.Cells cells r i le e = numbers_kept code new s sound shares renames cells r i le e
  param_kept param.Link cells r i le e = own_kept code new s sound shares renames (is_link_of cells) r i refl (omega arith) e

  -- the slots of all parameters, which are own ones
  params_kept : (ps : List CodeParam) (r i : ℕ) → i + sum_by (λ p. param_slots p.kind p.cells) ps ≤ s.own r
      → hold_params (kinds_at code r) ps i ≡ true → hold_params (kinds_at new r) ps i ≡ true
  params_kept [] r i le e = refl
  params_kept (p ∷ ps) r i le e =
      let mine : ℕ = param_slots p.kind p.cells in
      let sum = sum_by-cons (λ p. param_slots p.kind p.cells) p ps in
      let x = and_parts (holds_param (kinds_at code r) p.kind p.cells i) (hold_params (kinds_at code r) ps (i + mine)) e in
      and_from (holds_param (kinds_at new r) p.kind p.cells i) (hold_params (kinds_at new r) ps (i + mine))
      (param_kept p.kind p.cells r i (omega (arith, le, sum)) x.0)
      (params_kept ps r (i + mine) (omega (arith, le, sum)) x.1)

  -- slot 0 of routine 0 is a number slot
  position_kept : (r : ℕ) → r < length code.routines → has_position code r ≡ true → has_position new r ≡ true
  position_kept zero lt e =
      own_kept code new s sound shares renames is_number 0 0 refl (omega (arith, (shares.routines 0 lt).some)) e
  position_kept (suc r) lt e = refl

  -- the third rule
  third : (r : ℕ) → r < length code.routines → rule_3 new r ≡ true
  third r lt =
      let kept = routine_kept code new s sound shares renames r lt in
      let x = and_parts (hold_params (kinds_at code r) (head_at code r).params 0) (has_position code r) (sound.heads r lt).2 in
      and_from _ _
      (ap (λ ps. hold_params (kinds_at new r) ps 0) kept.params
      ∙ params_kept (head_at code r).params r 0 (omega (arith, (shares.routines r lt).params)) x.0)
      (position_kept r lt x.1)

  -- ---- all together

  -- its heads keep the first three rules
  pub new_heads : (r : ℕ) → r < length code.routines → (rule_1 new r ≡ true) × (rule_2 new r ≡ true) × (rule_3 new r ≡ true)
  new_heads r lt = (first r lt, second r lt, third r lt)
