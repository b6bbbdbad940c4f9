-- The program of joined modules is a checked one.
use Rattle.std.proofs.Common.{◌≡◌, ℕ, suc, ◌+◌, ◌<◌, ◌≤◌, List, [], ◌∷◌, length, get_or, refl, sym, ap, ◌∙◌, subst, arith}
use Rattle.std.specs.Prelude.{sum_by, None, IsNone, is_some}
use Rattle.std.specs.List.{AllByRecursion}
use Rattle.std.proofs.lemmas.List.Sums.{sum_by-cons}
use Rattle.alma_ir.specs.Tree.{Program, routine_at, no_routine}
use Rattle.alma_ir.specs.Phrases.{stmts_phrases}
use Rattle.alma_ir.specs.Lines.{stmt_count}
use Rattle.alma_ir.specs.Checked.{IsChecked, EachRoutine, EachPhrase, IsGlobal, loops_of, CalleeExists, ResultAgrees, CallLeads, CallFits}
use Rattle.alma_ir.specs.Checked.{PartsExist, CellsAgree, RangesOrdered, HasStep, HasChoice, ReturnAgrees, ReturnsStay, ParamsFirst}
use Rattle.alma_ir.specs.Checked.{AreLaidOut, param_slots, HasOneCellAs, DeclaredFits, IsNested, HeadRangesOrdered, IsOrdered}
use Rattle.alma_ir.specs.Checked.{RoutineKeepsLimits, HasLines, NamesSpelled, IsName, link_slots}
use Rattle.alma_ir.proofs.Each.{each_follows}
use Rattle.alma_join.specs.Joined.{kept_in, join_fault, own_slots, procedure_moves, global_behind, joined_body, joined_program, AreUnits}
use Rattle.alma_join.specs.Joined.{JoinedIsChecked}
use Rattle.alma_join.proofs.Moving.{stmts_moved}
use Rattle.alma_join.proofs.Forms.{parts_moved, cells_moved, ranges_moved, steps_moved, choices_moved, returns_moved, stays_moved}
use Rattle.alma_join.proofs.Forms.{count_moved}
use Rattle.alma_join.proofs.KeptLists.{each_at, unit_at, before_at}
use Rattle.alma_join.proofs.Places.{number, moves, Stands, SameHead, number_low, number_high, first_is, checked, body_stands}
use Rattle.alma_join.proofs.Places.{head, outer_stands, numbers_own, each_global, each_routine, each_phrase}
use Rattle.alma_join.proofs.Slots.{slot_low, roots_checked, loops_checked}
use Rattle.alma_join.proofs.Imports.{no_faults}
use Rattle.alma_join.proofs.Calls.{Calls, calls_checked}
use Rattle.alma_join.proofs.Limits.{HoldLittle, hold_little, body_has_lines, limits_kept}

-- a fact of each element
all_from : {A : Type 0} (P : A → Type 0) (d : A) (xs : List A) → ((i : ℕ) → i < length xs → P (get_or xs i d)) → AllByRecursion P xs
all_from P d [] h = tt
all_from P d (x ∷ xs) h = (h 0 (omega arith), all_from P d xs (λ i lt. h (suc i) (omega (arith, lt))))

-- the sums over bodies that have at least one slot each, and fewer cells than slots
declared_fit : (ps : List Program) → AllByRecursion IsChecked ps → sum_by (λ p. (routine_at p 0).declared) ps ≤ sum_by own_slots ps
declared_fit [] h = omega arith
declared_fit (p ∷ ps) h =
    omega (
      arith,
      (h.0.declared 0 h.0.body.0).body refl,
      sum_by-cons (λ x. (routine_at x 0).declared) p ps,
      sum_by-cons own_slots p ps,
      declared_fit ps h.1,
    )

slots_fit : (ps : List Program) → AllByRecursion IsChecked ps → sum_by own_slots ps + length ps ≤ sum_by (λ p. (routine_at p 0).slots) ps
slots_fit [] h = omega arith
slots_fit (p ∷ ps) h = omega (
  arith,
  h.0.body.1,
  sum_by-cons (λ x. (routine_at x 0).slots) p ps,
  sum_by-cons own_slots p ps,
  slots_fit ps h.1,
)

module _ (units : List Program) (are : AreUnits units) where
  abbrev u : ℕ → Program
  u i = unit_at units i

  abbrev q : Program
  q = joined_program units

  -- ---- the body

  first_checked : IsChecked (u 0)
  first_checked = checked units are 0 are.some

  body_head : SameHead units 0 0
  body_head = head units are 0 0 (body_stands units are 0 are.some)

  no_params : (joined_body units).params ≡ []
  no_params = body_head.params ∙ first_checked.body_takes_nothing.0

  no_level : (joined_body units).level ≡ 0
  no_level = body_head.level ∙ ((first_checked.nested 0 first_checked.body.0).body refl).0

  no_outer : (joined_body units).outer ≡ 0
  no_outer = body_head.outer ∙ ap (number units 0) ((first_checked.nested 0 first_checked.body.0).body refl).1

  no_result : IsNone (joined_body units).result
  no_result = ap is_some body_head.result ∙ first_checked.body_takes_nothing.1

  -- ---- heads

  params_checked : EachRoutine q (λ r routine. ParamsFirst routine)
  params_checked =
      each_routine units are (λ r routine. ParamsFirst routine) (record {
        laid_out = subst (λ ps. AreLaidOut 0 ps) (sym no_params) tt;
        fit = subst (λ ps. sum_by param_slots ps ≤ (joined_body units).slots) (sym no_params) (omega arith);
        cells = subst (λ ps. AllByRecursion (λ z. HasOneCellAs z.kind z.cells) ps) (sym no_params) tt;
      }) (λ i r s low.
      let k = (checked units are i s.exists).params r s.high in
      record { laid_out = k.laid_out; fit = k.fit; cells = k.cells })

  declared_checked : EachRoutine q DeclaredFits
  declared_checked =
      each_routine units are DeclaredFits
      (record { within = omega (arith, declared_fit units are.checked); body = λ e. omega (arith, declared_fit units are.checked) })
      (λ i r s low. record {
        within = ((checked units are i s.exists).declared r s.high).within;
        body = λ e. absurd (omega (arith, e, number_low units i r s low));
      })

  nested_checked : EachRoutine q (IsNested q)
  nested_checked =
      each_routine units are (IsNested q) (record {
        body = λ e. (no_level, no_outer);
        exists = omega (arith, no_outer);
        above = λ low. absurd (omega (arith, low));
        few = omega (arith, no_level);
      }) (λ i r s low.
      let k = (checked units are i s.exists).nested r s.high in
      let o : Stands units i (routine_at (u i) r).outer = outer_stands units are i r s in
      record {
        body = λ e. absurd (omega (arith, e, number_low units i r s low));
        exists = number_high units i (routine_at (u i) r).outer o;
        above = λ l. k.above low ∙ ap suc (sym (head units are i (routine_at (u i) r).outer o).level);
        few = k.few;
      })

  head_ranges_checked : EachRoutine q (λ r routine. HeadRangesOrdered routine)
  head_ranges_checked =
      each_routine units are (λ r routine. HeadRangesOrdered routine) (record {
        params = subst (λ ps. AllByRecursion (λ z. IsOrdered z.range) ps) (sym no_params) tt;
        result = λ range e. (first_checked.head_ranges 0 first_checked.body.0).result range (sym body_head.result ∙ e);
      }) (λ i r s low. let k = (checked units are i s.exists).head_ranges r s.high in record { params = k.params; result = k.result })

  globals_checked : AllByRecursion (IsGlobal q) q.globals
  globals_checked =
      each_global units (IsGlobal q) (λ i lt. each_follows (IsGlobal (u i)) (λ g. IsGlobal q (global_behind (before_at units i) g))
      (λ g k. record {
        slots = numbers_own units are i 0 g.slot g.cells (body_stands units are i lt) (λ e. k.position) k.slots;
        position = slot_low (before_at units i) g.slot k.position;
      }) (u i).globals
      (checked units are i lt).globals)

  lines_checked : EachRoutine q (λ r routine. HasLines routine)
  lines_checked =
      each_routine units are (λ r routine. HasLines routine)
      (body_has_lines units are.some
      (each_follows IsChecked (λ p. HasLines (routine_at p 0)) (λ p h. h.lines 0 h.body.0) units are.checked)) (λ i r s low.
      let k = (checked units are i s.exists).lines r s.high in
      let m = procedure_moves (kept_in 1 units) (suc i) (u i) (before_at units i) in
      record {
        line = k.line;
        count = k.count
            ∙ sym (ap stmt_count (stmts_moved m (routine_at (u i) r).body)
            ∙ count_moved m (stmts_phrases (routine_at (u i) r).body));
        lines = k.lines;
      })

  -- ---- conditions that speak of a phrase alone

  parts_checked : EachPhrase q (λ r routine x. PartsExist x)
  parts_checked = each_phrase units are (λ i r routine x. PartsExist x) (λ r routine x. PartsExist x)
      (λ i r s x h. parts_moved (moves units i r) x h) (λ i lt. (checked units are i lt).parts)

  cells_checked : EachPhrase q (λ r routine x. CellsAgree x)
  cells_checked = each_phrase units are (λ i r routine x. CellsAgree x) (λ r routine x. CellsAgree x)
      (λ i r s x h. cells_moved (moves units i r) x h) (λ i lt. (checked units are i lt).cells)

  ranges_checked : EachPhrase q (λ r routine x. RangesOrdered x)
  ranges_checked = each_phrase units are (λ i r routine x. RangesOrdered x) (λ r routine x. RangesOrdered x)
      (λ i r s x h. ranges_moved (moves units i r) x h) (λ i lt. (checked units are i lt).ranges)

  steps_checked : EachPhrase q (λ r routine x. AllByRecursion HasStep (loops_of x))
  steps_checked =
      each_phrase units are (λ i r routine x. AllByRecursion HasStep (loops_of x)) (λ r routine x. AllByRecursion HasStep (loops_of x))
      (λ i r s x h. steps_moved (moves units i r) x h) (λ i lt. (checked units are i lt).steps)

  choices_checked : EachPhrase q (λ r routine x. HasChoice x)
  choices_checked = each_phrase units are (λ i r routine x. HasChoice x) (λ r routine x. HasChoice x)
      (λ i r s x h. choices_moved (moves units i r) x h) (λ i lt. (checked units are i lt).choices)

  returns_checked : EachPhrase q (λ r routine x. ReturnAgrees routine x)
  returns_checked =
      each_phrase units are (λ i r routine x. ReturnAgrees routine x) (λ r routine x. ReturnAgrees routine x)
      (λ i r s x h. returns_moved (moves units i r) (routine_at (u i) r) (routine_at q (number units i r))
      (sym (head units are i r s).result) x h) (λ i lt. (checked units are i lt).returns)

  stays_checked : EachPhrase q (λ r routine x. ReturnsStay x)
  stays_checked = each_phrase units are (λ i r routine x. ReturnsStay x) (λ r routine x. ReturnsStay x)
      (λ i r s x h. stays_moved (moves units i r) x h) (λ i lt. (checked units are i lt).returns_stay)

  -- ---- names

  names_checked : NamesSpelled q
  names_checked = record {
    globals = each_global units (λ g. IsName g.name) (λ i lt. (checked units are i lt).names.globals);
    routines = all_from (λ r. IsName r.name) no_routine q.routines named;
  }
    where
      name_at : (i r : ℕ) → i < length units → r < length (u i).routines → IsName (routine_at (u i) r).name
      name_at i r lt high = each_at (λ x. IsName x.name) (u i).routines no_routine (checked units are i lt).names.routines r high

      named : EachRoutine q (λ r routine. IsName routine.name)
      named =
          each_routine units are (λ r routine. IsName routine.name)
          (subst (λ p. IsName (routine_at p 0).name) (sym (first_is units)) (name_at 0 0 are.some first_checked.body.0))
          (λ i r s low. name_at i r s.exists s.high)

  -- ---- all conditions

  module _ (fine : join_fault units ≡ None) where
    little : HoldLittle units
    little = hold_little units (no_faults units fine).1

    limits_of_routines : EachRoutine q (λ r routine. RoutineKeepsLimits routine)
    limits_of_routines =
        let link : link_slots (joined_body units).level ≡ 0 = ap link_slots no_level in
        each_routine units are (λ r routine. RoutineKeepsLimits routine)
        (record { declared = little.declared; slots = omega (arith, little.slots, link, slots_fit units are.checked, are.some) })
        (λ i r s low. let k = (checked units are i s.exists).routine_limits r s.high in record { declared = k.declared; slots = k.slots })

    calls_in : EachPhrase q (Calls q)
    calls_in = calls_checked units are (no_faults units fine).0

    all_checked : IsChecked q
    all_checked = record {
      body = (omega arith, omega arith);
      body_takes_nothing = (no_params, no_result);
      params = params_checked;
      declared = declared_checked;
      nested = nested_checked;
      globals = globals_checked;
      roots = roots_checked units are;
      parts = parts_checked;
      cells = cells_checked;
      head_ranges = head_ranges_checked;
      ranges = ranges_checked;
      steps = steps_checked;
      loops = loops_checked units are;
      callees = λ r lt. each_follows (Calls q r (routine_at q r)) (λ x. CalleeExists q x) (λ x k. k.0.0)
          (stmts_phrases (routine_at q r).body) (calls_in r lt);
      results = λ r lt. each_follows (Calls q r (routine_at q r)) (λ x. ResultAgrees q x) (λ x k. k.0.1)
          (stmts_phrases (routine_at q r).body) (calls_in r lt);
      links = λ r lt. each_follows (Calls q r (routine_at q r)) (CallLeads q r (routine_at q r)) (λ x k. k.1.0)
          (stmts_phrases (routine_at q r).body) (calls_in r lt);
      arguments = λ r lt. each_follows (Calls q r (routine_at q r)) (λ x. CallFits q x) (λ x k. k.1.1) (stmts_phrases (routine_at q r).body)
          (calls_in r lt);
      choices = choices_checked;
      returns = returns_checked;
      returns_stay = stays_checked;
      lines = lines_checked;
      names = names_checked;
      limits = limits_kept units are.some little no_params no_level;
      routine_limits = limits_of_routines;
    }

pub joined_is_checked : JoinedIsChecked
joined_is_checked units are fine = all_checked units are fine
