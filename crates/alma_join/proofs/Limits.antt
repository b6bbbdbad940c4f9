-- What modules whose sizes have no fault hold together keeps the limits, and their lines are those of their statements.
use Rattle.std.proofs.Common.{◌≡◌, inl, inr, ℕ, suc, ◌+◌, ◌<◌, ◌≤◌, false, List, [], ◌∷◌, length, drop, map, refl, sym, ap, ◌∙◌, subst}
use Rattle.std.proofs.Common.{arith, length-append}
use Rattle.std.specs.Prelude.{◌||◌, nat_lt, sum_by, Some, None, is_some}
use Rattle.std.specs.List.{AllByRecursion}
use Rattle.std.proofs.lemmas.Bool.{true≢false, ltb-false, or_parts, cases_Bool}
use Rattle.std.proofs.lemmas.List.{length-map}
use Rattle.std.proofs.lemmas.List.Sums.{sum_by-cons, sum_by-append}
use Rattle.alma_base.specs.Choice.{if_true}
use Rattle.alma_base.specs.Limits.{cell_limit, routine_slot_limit, record_limit, pool_limit}
use Rattle.alma_ir.specs.Tree.{Stmts, Program, Routine, Global, routine_at, no_routine, no_stmts}
use Rattle.alma_ir.specs.Phrases.{stmts_phrases}
use Rattle.alma_ir.specs.Lines.{stmt_count}
use Rattle.alma_ir.specs.Checked.{link_slots, text_bytes, HasLines, KeepsLimits}
use Rattle.alma_ir.proofs.Each.{each_of_append}
use Rattle.alma_ir.proofs.LinesBack.{count_sum}
use Rattle.alma_copy.specs.Moved.{Moves, moved_stmts, moved_routine}
use Rattle.alma_join.specs.Joined.{Kept, is_bare, kept_from, kept_of, kept_in, own_slots, body_moves, procedure_moves}
use Rattle.alma_join.specs.Joined.{global_behind, joined_globals, joined_stmts, joined_lines, joined_procedures, TooLarge, Totals}
use Rattle.alma_join.specs.Joined.{no_totals, with_unit, passes, size_fault, first_of, joined_body, joined_program}
use Rattle.alma_join.proofs.Moving.{stmts_moved}
use Rattle.alma_rules.proofs.Phrases.{append_phrases}
use Rattle.alma_join.proofs.Forms.{texts_moved, count_moved}
use Rattle.alma_join.proofs.KeptLists.{by_test}

-- ---- totals

totals : Totals → List Program → Totals
totals t [] = t
totals t (p ∷ ps) = totals (with_unit t p) ps

-- with no fault none passes its bound
none_passes : (t : Totals) (unit : ℕ) (ps : List Program) → passes t ≡ false → size_fault t unit ps ≡ None → passes (totals t ps) ≡ false
unfolding totals
none_passes t unit [] few e = few
none_passes t unit (p ∷ ps) few e = elim (cases_Bool (passes (with_unit t p))) [
  | inl many ↦ absurd (true≢false
      (ap is_some (subst (λ b. if_true b (λ _. Some (TooLarge unit)) (λ _. size_fault (with_unit t p) (suc unit) ps) ≡ None) many e)))
  | inr still ↦ none_passes (with_unit t p) (suc unit) ps still
      (subst (λ b. if_true b (λ _. Some (TooLarge unit)) (λ _. size_fault (with_unit t p) (suc unit) ps) ≡ None) still e)
]

-- each is a sum over the modules
total_is : (part : Totals → ℕ) (f : Program → ℕ) → ((t : Totals) (p : Program) → part (with_unit t p) ≡ part t + f p)
    → (t : Totals) (ps : List Program) → part (totals t ps) ≡ part t + sum_by f ps
unfolding totals
total_is part f step t [] = omega arith
total_is part f step t (p ∷ ps) = omega (arith, total_is part f step (with_unit t p) ps, step t p, sum_by-cons f p ps)

-- what the modules hold together
pub record HoldLittle (ps : List Program) : Type 0 where
  pub declared : sum_by (λ p. (routine_at p 0).declared) ps ≤ cell_limit
  pub slots : sum_by (λ p. (routine_at p 0).slots) ps ≤ routine_slot_limit
  pub globals : sum_by (λ p. length p.globals) ps ≤ record_limit
  pub params : sum_by (λ p. sum_by (λ r. length r.params + link_slots r.level) p.routines) ps ≤ record_limit
  pub names : sum_by (λ p. sum_by (λ r. length r.name) p.routines + sum_by (λ g. length g.name) p.globals) ps ≤ pool_limit
  pub texts : sum_by (λ p. sum_by (λ r. sum_by text_bytes (stmts_phrases r.body)) p.routines) ps ≤ pool_limit

pub hold_little : (ps : List Program) → size_fault no_totals 1 ps ≡ None → HoldLittle ps
hold_little ps e =
    let t : Totals = totals no_totals ps in
    let parts = or_parts (nat_lt cell_limit t.declared)
    (nat_lt routine_slot_limit t.slots ||
    (nat_lt record_limit t.globals || (nat_lt record_limit t.params || (nat_lt pool_limit t.names || nat_lt pool_limit t.texts))))
    (none_passes no_totals 1 ps refl e) in
    let slots = or_parts (nat_lt routine_slot_limit t.slots)
    (nat_lt record_limit t.globals ||
    (nat_lt record_limit t.params || (nat_lt pool_limit t.names || nat_lt pool_limit t.texts))) parts.1 in
    let globals = or_parts (nat_lt record_limit t.globals)
    (nat_lt record_limit t.params || (nat_lt pool_limit t.names || nat_lt pool_limit t.texts)) slots.1 in
    let params = or_parts (nat_lt record_limit t.params) (nat_lt pool_limit t.names || nat_lt pool_limit t.texts) globals.1 in
    let pools = or_parts (nat_lt pool_limit t.names) (nat_lt pool_limit t.texts) params.1 in
    record {
      declared = omega (
        arith,
        ltb-false cell_limit t.declared parts.0,
        total_is (λ s. s.declared) (λ p. (routine_at p 0).declared) (λ s p. refl) no_totals ps,
      );
      slots = omega (
        arith,
        ltb-false routine_slot_limit t.slots slots.0,
        total_is (λ s. s.slots) (λ p. (routine_at p 0).slots) (λ s p. refl) no_totals ps,
      );
      globals = omega (
        arith,
        ltb-false record_limit t.globals globals.0,
        total_is (λ s. s.globals) (λ p. length p.globals) (λ s p. refl) no_totals ps,
      );
      params = omega (
        arith,
        ltb-false record_limit t.params params.0,
        total_is (λ s. s.params)
            (λ p. sum_by (λ r. length r.params + link_slots r.level) p.routines) (λ s p. refl) no_totals ps,
      );
      names = omega (
        arith,
        ltb-false pool_limit t.names pools.0,
        total_is (λ s. s.names)
            (λ p. sum_by (λ r. length r.name) p.routines + sum_by (λ g. length g.name) p.globals) (λ s p. refl) no_totals ps,
      );
      texts = omega (
        arith,
        ltb-false pool_limit t.texts pools.1,
        total_is (λ s. s.texts)
            (λ p. sum_by (λ r. sum_by text_bytes (stmts_phrases r.body)) p.routines) (λ s p. refl) no_totals ps,
      );
    }

-- ---- sums over the routines

two_sums : (f g : Program → ℕ) (ps : List Program) → sum_by (λ p. f p + g p) ps ≡ sum_by f ps + sum_by g ps
two_sums f g [] = omega arith
two_sums f g (p ∷ ps) = omega (arith, sum_by-cons (λ x. f x + g x) p ps, sum_by-cons f p ps, sum_by-cons g p ps, two_sums f g ps)

first_within : (f : Program → ℕ) (ps : List Program) → 0 < length ps → f (first_of ps) ≤ sum_by f ps
first_within f [] some = absurd (omega (arith, some))
first_within f (p ∷ ps) some = omega (arith, sum_by-cons f p ps)

-- what is counted of a routine, and of its procedure in the joined program, is the same
module _ (f : Routine → ℕ) (stays : (m : Moves) (k : Kept) → f (moved_routine m k.routine) ≡ f k.routine) (nothing : f no_routine ≡ 0) where
  kept_within : (m : Moves) (unit : ℕ) (p : Program) (r : ℕ) (xs : List Routine)
      → sum_by f (map (λ k. moved_routine m k.routine) (kept_from unit p r xs)) ≤ sum_by f xs
  kept_within m unit p r [] = omega arith
  kept_within m unit p r (x ∷ xs) =
      let rest : sum_by f (map (λ k. moved_routine m k.routine) (kept_from unit p (suc r) xs)) ≤ sum_by f xs =
      kept_within m unit p (suc r) xs in
      let here : Kept = record { unit = unit; number = r; routine = x } in
      by_test (λ ks. sum_by f (map (λ k. moved_routine m k.routine) ks) ≤ sum_by f (x ∷ xs)) (is_bare p r x)
      (λ _. kept_from unit p (suc r) xs)
      (λ _. here ∷ kept_from unit p (suc r) xs) (λ t. omega (arith, rest, sum_by-cons f x xs))
      (λ t. omega (
        arith,
        rest,
        stays m here,
        sum_by-cons f x xs,
        sum_by-cons f (moved_routine m x) (map (λ k. moved_routine m k.routine) (kept_from unit p (suc r) xs)),
      ))

  behind_body : (rs : List Routine) (p : Program) → p.routines ≡ rs
      → f (routine_at p 0) + sum_by f (drop 1 p.routines) ≤ sum_by f p.routines
  behind_body [] p e = subst (λ xs. f (routine_at (record p { routines = xs }) 0) + sum_by f (drop 1 xs) ≤ sum_by f xs) (sym e)
      (omega (arith, nothing))
  behind_body (x ∷ xs) p e = subst (λ ys. f (routine_at (record p { routines = ys }) 0) + sum_by f (drop 1 ys) ≤ sum_by f ys) (sym e)
      (omega (arith, sum_by-cons f x xs))

  pub procedures_within : (all : List Kept) (unit before : ℕ) (ps : List Program)
      → sum_by f (joined_procedures all unit before ps) + sum_by (λ p. f (routine_at p 0)) ps ≤ sum_by (λ p. sum_by f p.routines) ps
  procedures_within all unit before [] = omega arith
  procedures_within all unit before (p ∷ ps) =
      let m : Moves = procedure_moves all unit p before in
      omega (
        arith,
        sum_by-append f (map (λ k. moved_routine m k.routine) (kept_of unit p))
            (joined_procedures all (suc unit) (before + own_slots p) ps),
        kept_within m unit p 1 (drop 1 p.routines),
        behind_body p.routines p refl,
        sum_by-cons (λ x. f (routine_at x 0)) p ps,
        sum_by-cons (λ x. sum_by f x.routines) p ps,
        procedures_within all (suc unit) (before + own_slots p) ps,
      )

-- ---- globals, texts and lines of all modules

globals_count : (before : ℕ) (ps : List Program) → length (joined_globals before ps) ≡ sum_by (λ p. length p.globals) ps
globals_count before [] = refl
globals_count before (p ∷ ps) =
    omega (
      arith,
      length-append (map (global_behind before) p.globals) (joined_globals (before + own_slots p) ps),
      length-map p.globals (global_behind before),
      globals_count (before + own_slots p) ps,
      sum_by-cons (λ x. length x.globals) p ps,
    )

names_stay : (before : ℕ) (gs : List Global) → sum_by (λ g. length g.name) (map (global_behind before) gs) ≡ sum_by (λ g. length g.name) gs
names_stay before [] = refl
names_stay before (g ∷ gs) = omega (
  arith,
  sum_by-cons (λ x. length x.name) g gs,
  sum_by-cons (λ x. length x.name) (global_behind before g) (map (global_behind before) gs),
  names_stay before gs,
)

globals_names : (before : ℕ) (ps : List Program)
    → sum_by (λ g. length g.name) (joined_globals before ps) ≡ sum_by (λ p. sum_by (λ g. length g.name) p.globals) ps
globals_names before [] = refl
globals_names before (p ∷ ps) =
    omega (
      arith,
      sum_by-append (λ g. length g.name) (map (global_behind before) p.globals) (joined_globals (before + own_slots p) ps),
      names_stay before p.globals,
      globals_names (before + own_slots p) ps,
      sum_by-cons (λ x. sum_by (λ g. length g.name) x.globals) p ps,
    )

pub texts_stay : (m : Moves) (x : Stmts) → sum_by text_bytes (stmts_phrases (moved_stmts m x)) ≡ sum_by text_bytes (stmts_phrases x)
texts_stay m x = ap (sum_by text_bytes) (stmts_moved m x) ∙ texts_moved m (stmts_phrases x)

body_texts : (all : List Kept) (unit before : ℕ) (ps : List Program)
    → sum_by text_bytes (stmts_phrases (joined_stmts all unit before ps))
    ≡ sum_by (λ p. sum_by text_bytes (stmts_phrases (routine_at p 0).body)) ps
unfolding stmts_phrases
body_texts all unit before [] = refl
body_texts all unit before (p ∷ ps) =
    let x : Stmts = moved_stmts (body_moves all unit p before) (routine_at p 0).body in
    let y : Stmts = joined_stmts all (suc unit) (before + own_slots p) ps in
    ap (sum_by text_bytes) (append_phrases x y)
    ∙ omega (
      arith,
      sum_by-append text_bytes (stmts_phrases x) (stmts_phrases y),
      texts_stay (body_moves all unit p before) (routine_at p 0).body,
      body_texts all (suc unit) (before + own_slots p) ps,
      sum_by-cons (λ z. sum_by text_bytes (stmts_phrases (routine_at z 0).body)) p ps,
    )

-- each module's body has its lines
abbrev HaveLines : List Program → Type 0
HaveLines ps = AllByRecursion (λ p. HasLines (routine_at p 0)) ps

body_count : (all : List Kept) (unit before : ℕ) (ps : List Program) → HaveLines ps
    → length (joined_lines ps) ≡ stmt_count (stmts_phrases (joined_stmts all unit before ps))
unfolding stmts_phrases
body_count all unit before [] h = refl
body_count all unit before (p ∷ ps) h =
    let x : Stmts = moved_stmts (body_moves all unit p before) (routine_at p 0).body in
    let y : Stmts = joined_stmts all (suc unit) (before + own_slots p) ps in
    let here : stmt_count (stmts_phrases x) ≡ stmt_count (stmts_phrases (routine_at p 0).body) = ap stmt_count
    (stmts_moved (body_moves all unit p before) (routine_at p 0).body)
    ∙ count_moved (body_moves all unit p before) (stmts_phrases (routine_at p 0).body) in
    omega (
      arith,
      length-append (routine_at p 0).lines (joined_lines ps),
      h.0.count,
      here,
      body_count all (suc unit) (before + own_slots p) ps h.1,
      count_sum (stmts_phrases x) (stmts_phrases y),
    )
    ∙ sym (ap stmt_count (append_phrases x y))

body_lines : (ps : List Program) → HaveLines ps → AllByRecursion (λ l. 0 < l) (joined_lines ps)
body_lines [] h = tt
body_lines (p ∷ ps) h = each_of_append (λ l. 0 < l) (routine_at p 0).lines (joined_lines ps) h.0.lines (body_lines ps h.1)

first_line : (ps : List Program) → 0 < length ps → HaveLines ps → 0 < (routine_at (first_of ps) 0).line
first_line [] some h = absurd (omega (arith, some))
first_line (p ∷ ps) some h = h.0.line

pub body_has_lines : (ps : List Program) → 0 < length ps → HaveLines ps → HasLines (joined_body ps)
body_has_lines ps some h = record { line = first_line ps some h; count = body_count (kept_in 1 ps) 1 0 ps h; lines = body_lines ps h }

-- ---- all limits

no_texts : sum_by text_bytes (stmts_phrases no_stmts) ≡ 0
unfolding stmts_phrases
no_texts = refl

module _ (ps : List Program) (some : 0 < length ps) (little : HoldLittle ps)
    (takes_nothing : (routine_at (joined_program ps) 0).params ≡ [])
    (level_zero : (routine_at (joined_program ps) 0).level ≡ 0) where
  abbrev body : Routine
  body = joined_body ps

  abbrev procedures : List Routine
  procedures = joined_procedures (kept_in 1 ps) 1 0 ps

  body_params : length body.params + link_slots body.level ≡ 0
  body_params =
      let none : length body.params ≡ 0 = ap length takes_nothing in
      let link : link_slots body.level ≡ 0 = ap link_slots level_zero in
      omega (arith, none, link)

  pub limits_kept : KeepsLimits (joined_program ps)
  limits_kept = record {
    globals = omega (arith, little.globals, globals_count 0 ps);
    params = omega (
      arith,
      little.params,
      sum_by-cons (λ r. length r.params + link_slots r.level) body procedures,
      body_params,
      procedures_within (λ r. length r.params + link_slots r.level) (λ m k. refl) refl (kept_in 1 ps) 1 0 ps,
    );
    names = omega (
      arith,
      little.names,
      two_sums (λ p. sum_by (λ r. length r.name) p.routines) (λ p. sum_by (λ g. length g.name) p.globals) ps,
      sum_by-cons (λ r. length r.name) body procedures,
      first_within (λ p. length (routine_at p 0).name) ps some,
      procedures_within (λ r. length r.name) (λ m k. refl) refl (kept_in 1 ps) 1 0 ps,
      globals_names 0 ps,
    );
    texts = omega (
      arith,
      little.texts,
      sum_by-cons (λ r. sum_by text_bytes (stmts_phrases r.body)) body procedures,
      body_texts (kept_in 1 ps) 1 0 ps,
      procedures_within (λ r. sum_by text_bytes (stmts_phrases r.body)) (λ m k. texts_stay m k.routine.body) no_texts (kept_in 1 ps) 1 0 ps,
    );
  }
