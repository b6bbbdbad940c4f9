-- The code of a checked program keeps its counts.
use Rattle.std.proofs.Common.{◌≡◌, inr, ℕ, zero, suc, ◌+◌, ◌*◌, ◌<◌, ◌≤◌, List, [], ◌∷◌, ◌++◌, length, get_or, refl, ap, ◌∙◌, arith}
use Rattle.std.specs.Prelude.{sum_by, map}
use Rattle.std.proofs.lemmas.List.{length-append, length-map}
use Rattle.std.proofs.lemmas.List.Sums.{sum_by-cons}
use Rattle.alma_base.specs.Limits.{size_limit, record_limit, pool_limit}
use Rattle.alma_code.specs.Plain.{PlainCode, PlainRoutine, head_at}
use Rattle.alma_code.specs.Plain as plain
use Rattle.alma_code.specs.Records.{KeepsCounts, KeepsVersion, param_count, run_count, text_byte_count}
use Rattle.alma_ir.specs.Tree.{Program, Routine, Global, routine_at, no_routine}
use Rattle.alma_ir.specs.Checked.{IsChecked, link_slots}
use Rattle.alma_ir.specs.Count.{nodes, routines_nodes, routine_nodes}
use Rattle.alma_ir.specs.Lines.{body_with_lines}
use Rattle.alma_lower_templates.specs.LineInstr.{LineInstr, own}
use Rattle.alma_lower_templates.specs.Tables.{Tables}
use Rattle.alma_lower_templates.specs.Slots.{own_kinds}
use Rattle.alma_lower_templates.specs.Templates.{stmts_code, routine_code, end_code}
use Rattle.alma_lower_templates.specs.Compiled.{link_params, param_named, global_named, routines_code}
use Rattle.alma_lower_templates.specs.CodeOf.{IsCodeOf}
use Rattle.alma_lower_templates.proofs.Sizes.{code_is_short, few_slots}
use Rattle.alma_lower_sound.specs.Entries.{HoldsEachOnce}
use Rattle.alma_lower_sound.specs.Runs.{HasLongRuns}
use Rattle.alma_lower_sound.proofs.Entries.{few_ranges, few_texts, few_text_bytes}
use Rattle.alma_lower_sound.proofs.NodesAlike.{stmts_alike}
use Rattle.alma_lower_sound.proofs.Runs.{routine_runs}
use Rattle.alma_lower_sound.proofs.Walks.{walk, records_few, walk_two, from_other, then_own, hop_few, stmts_round}
use Rattle.alma_lower_sound.proofs.Whole.{count, head_is, name_is}

-- ---- sums over routines

-- a sum over the routines of a code is at most one over those of the program where each is
sum_over : (f : PlainRoutine → ℕ) (g : Routine → ℕ) (xs : List PlainRoutine) (rs : List Routine) → length xs ≡ length rs
    → ((r : ℕ) → r < length xs → f (get_or xs r plain.no_routine) ≤ g (get_or rs r no_routine)) → sum_by f xs ≤ sum_by g rs
sum_over f g [] rs e h = omega arith
sum_over f g (x ∷ xs) [] e h = absurd (omega (arith, e))
sum_over f g (x ∷ xs) (r ∷ rs) e h =
    let first = h 0 (omega arith) in
    omega (
      arith,
      first,
      sum_by-cons f x xs,
      sum_by-cons g r rs,
      sum_over f g xs rs (omega (arith, e)) (λ i lt. h (suc i) (omega (arith, lt))),
    )

sum_of_nodes : (rs : List Routine) → sum_by (λ r. 2 * (length r.params + link_slots r.level) + 16 * routine_nodes r) rs ≤ 2 * sum_by
    (λ r. length r.params + link_slots r.level) rs + 16 * routines_nodes rs
sum_of_nodes [] = omega arith
sum_of_nodes (r ∷ rs) = omega (
  arith,
  sum_by-cons (λ x. 2 * (length x.params + link_slots x.level) + 16 * routine_nodes x) r rs,
  sum_by-cons (λ x. length x.params + link_slots x.level) r rs,
  sum_of_nodes rs,
)

few_routines : (rs : List Routine) → length rs ≤ routines_nodes rs
few_routines [] = omega arith
few_routines (r ∷ rs) = omega (arith, few_routines rs)

same_names : (gs : List Global) → sum_by (λ g. length g.name) (map global_named gs) ≡ sum_by (λ g. length g.name) gs
same_names [] = refl
same_names (g ∷ gs) = omega (
  arith,
  sum_by-cons (λ x. length x.name) (global_named g) (map global_named gs),
  sum_by-cons (λ x. length x.name) g gs,
  same_names gs,
)

link_long : (level outer : ℕ) → length (link_params level outer) ≡ link_slots level
link_long zero outer = refl
link_long (suc zero) outer = refl
link_long (suc (suc above)) outer = refl

-- ---- lines

module _ (p : Program) (tables : Tables) where
  -- to the line of the routine, which is that of its end
  routine_walk : (r at from : ℕ) → walk from (routine_code p tables r at) (routine_at p r).line ≤ 2 * routine_nodes (routine_at p r)
  routine_walk r at from =
      let mine : Routine = routine_at p r in
      let lo : ℕ = length (own_kinds mine) in
      let body : List LineInstr = stmts_code p tables r at lo (body_with_lines mine) in
      omega (
        arith,
        from_other from mine.line (body ++ own mine.line (end_code p tables r mine.result ∷ [])) mine.line,
        hop_few from mine.line,
        then_own mine.line body (end_code p tables r mine.result ∷ []),
        stmts_round p tables r mine.line at lo (body_with_lines mine),
        stmts_alike mine.body mine.lines,
      )

  routines_walk : (xs : List Routine) (r at from : ℕ) → ((i : ℕ) → routine_at p (r + i) ≡ get_or xs i no_routine)
      → walk from (routines_code p tables r (length xs) at) 0 ≤ 1 + 2 * routines_nodes xs
  routines_walk [] r at from same = omega (arith, hop_few from 0)
  routines_walk (x ∷ rest) r at from same =
      let first : List LineInstr = routine_code p tables r at in
      let next : ℕ = at + length first in
      let line : ℕ = (routine_at p r).line in
      let here : r ≡ r + 0 = omega arith in
      let is : routine_nodes (routine_at p r) ≡ routine_nodes x = ap routine_nodes (ap (routine_at p) here ∙ same 0) in
      let others = routines_walk rest (suc r) next line
      (λ i. (let moved : suc r + i ≡ r + suc i = omega arith in ap (routine_at p) moved ∙ same (suc i))) in
      omega (arith, others, is, routine_walk r at from, walk_two from line 0 first (routines_code p tables (suc r) (length rest) next))

module _ (p : Program) (code : PlainCode) (checked : IsChecked p) (is_code : IsCodeOf p code) where
  there : (r : ℕ) → r < length code.routines → r < length p.routines
  there r lt = omega (arith, lt, count p code is_code)

  few_lines : length code.lines ≤ 1 + 2 * nodes p
  few_lines =
      let all : List LineInstr = routines_code p is_code.tables 0 (length p.routines) 0 in
      let walked = routines_walk p is_code.tables p.routines 0 0 0 (λ i. (let same : 0 + i ≡ i = omega arith in ap (routine_at p) same)) in
      omega (arith, ap (λ c. length c.lines) is_code.is, records_few 0 0 all 0, walked)

  -- ---- heads

  params_few : param_count code ≤ sum_by (λ r. length r.params + link_slots r.level) p.routines
  params_few =
      sum_over (λ r. length r.head.params) (λ r. length r.params + link_slots r.level) code.routines p.routines (count p code is_code)
      (λ r lt.
      let mine : Routine = routine_at p r in
      omega (
        arith,
        ap (λ h. length h.params) (head_is p code is_code r (there r lt)),
        length-append (link_params mine.level mine.outer) (map param_named mine.params),
        link_long mine.level mine.outer,
        length-map mine.params param_named,
      ))

  runs_few : HasLongRuns p code → run_count code ≤ 2 * sum_by (λ r. length r.params + link_slots r.level) p.routines + 16 * nodes p
  runs_few runs =
      let each = sum_over (λ r. length r.head.runs) (λ r. 2 * (length r.params + link_slots r.level) + 16 * routine_nodes r) code.routines
      p.routines (count p code is_code)
      (λ r lt. omega (arith, routine_runs p r (head_at code r).runs (runs r (there r lt)), few_slots p checked r (there r lt))) in
      omega (arith, each, sum_of_nodes p.routines)

  names_same : sum_by (λ r. length r.name) code.routines ≤ sum_by (λ r. length r.name) p.routines
  names_same = sum_over (λ r. length r.name) (λ r. length r.name) code.routines p.routines (count p code is_code)
      (λ r lt. omega (arith, ap length (name_is p code is_code r (there r lt))))

  counts : 16 * nodes p ≤ size_limit → HasLongRuns p code → length code.ranges ≤ record_limit → length code.texts ≤ record_limit
      → text_byte_count code ≤ pool_limit → KeepsCounts code
  counts few runs ranges texts bytes = record {
    routines = omega (arith, few, count p code is_code, few_routines p.routines);
    globals = omega (arith, checked.limits.globals, ap (λ c. length c.globals) is_code.is, length-map p.globals global_named);
    params = omega (arith, params_few, checked.limits.params);
    runs = omega (arith, runs_few runs, checked.limits.params, few);
    ranges = ranges;
    texts = texts;
    names = omega (
      arith,
      names_same,
      ap (λ c. sum_by (λ g. length g.name) c.globals) is_code.is,
      same_names p.globals,
      checked.limits.names,
    );
    text_bytes = bytes;
    instrs = omega (arith, code_is_short p code checked is_code, few);
    lines = omega (arith, few_lines, few);
  }

pub code_keeps_counts : (p : Program) (code : PlainCode) → IsChecked p → IsCodeOf p code → HasLongRuns p code → HoldsEachOnce p code
    → 16 * nodes p ≤ size_limit → KeepsCounts code
code_keeps_counts p code checked is_code runs held few =
    counts p code checked is_code few runs (omega (arith, few_ranges p code held, few)) (omega (arith, few_texts p code held, few))
    (omega (arith, few_text_bytes p code held, checked.limits.texts))

pub code_keeps_version : (p : Program) (code : PlainCode) → IsCodeOf p code → KeepsVersion code
code_keeps_version p code is_code =
    let two : code.version ≡ 2 = ap (λ c. c.version) is_code.is in
    record { version = inr two; first = λ e. absurd (omega (arith, e, two)) }
