-- The code of a checked program is sound.
use Rattle.std.proofs.Common.{◌≡◌, ◌⊎◌, inl, inr, ℕ, zero, suc, ◌+◌, ◌-◌, ◌*◌, ◌<◌, ◌≤◌, true, false, List, [], ◌∷◌, ◌++◌, length, get_or}
use Rattle.std.proofs.Common.{replicate, Option, Some, None, refl, sym, ap, ◌∙◌, subst, arith, append_assoc}
use Rattle.std.specs.Prelude.{slice_get, not, map, nat_eq, IsNone}
use Rattle.std.specs.List.{AllByRecursion, list_all}
use Rattle.std.proofs.lemmas.Bool.{lt-ltb, le-leb, eq-eqb, and_from, cases_lt}
use Rattle.std.proofs.lemmas.List.{length-append, length-replicate}
use Rattle.std.proofs.lemmas.Option.{get_or_from_slice_get}
use Rattle.alma_base.specs.Limits.{size_limit, slot_limit, cell_limit}
use Rattle.alma_base.specs.declared.number.Range.{Range}
use Rattle.alma_code.specs.declared.cell.SlotKind.{SlotKind}
use Rattle.alma_code.specs.declared.cell.SlotKind.TheVariants as slot
use Rattle.alma_code.specs.declared.head.Run.{Run}
use Rattle.alma_code.specs.declared.instr.Instr.TheVariants as I
use Rattle.alma_code.specs.Kinds.{is_number, is_place_of, is_link_of, numbers_from}
use Rattle.alma_code.specs.Layout.{RunsRise, hold_params, holds_param}
use Rattle.alma_code.specs.Layout as layout
use Rattle.alma_code.specs.Plain.{PlainCode, head_at, start_at, end_at, kinds_at}
use Rattle.alma_code.specs.Rules.{last_end, is_global, is_main, has_position, instr_fault, rule_1, rule_2, rule_3, IsTable, IsSound}
use Rattle.alma_ir.specs.declared.program.ArgKind.{ArgKind}
use Rattle.alma_ir.specs.declared.program.ArgKind.TheVariants as kind
use Rattle.alma_ir.specs.declared.program.Param.{Param}
use Rattle.alma_ir.specs.Tree.{Program, Routine, Global, routine_at, no_routine}
use Rattle.alma_ir.specs.Checked.{IsChecked, IsGlobal}
use Rattle.alma_ir.specs.Count.{nodes, routines_nodes, routine_nodes}
use Rattle.alma_ir.specs.Lines.{body_with_lines}
use Rattle.alma_lower_implements.proofs.Frames.{own_end}
use Rattle.alma_lower_templates.specs.LineInstr.{LineInstr, own}
use Rattle.alma_lower_templates.specs.Tables.{Tables}
use Rattle.alma_lower_templates.specs.Slots.{link_kinds, own_kinds, param_kinds, params_kinds, routine_kinds, stmts_slots}
use Rattle.alma_lower_templates.specs.Templates.{stmts_code, end_code}
use Rattle.alma_lower_templates.specs.Compiled.{link_params, param_kind, param_named, global_named, is_function}
use Rattle.alma_lower_templates.specs.CodeOf.{IsCodeOf}
use Rattle.alma_lower_templates.specs.Stands.{Stands}
use Rattle.alma_lower_templates.proofs.Stands.{stands_front, stands_back}
use Rattle.alma_lower_templates.proofs.Whole.{routine_stands}
use Rattle.alma_lower_templates.proofs.Premises.{body_slots, position_kind}
use Rattle.alma_lower_templates.proofs.Returning.{own_long}
use Rattle.alma_lower_templates.proofs.Sizes.{few_slots}
use Rattle.alma_lower_sound.specs.Runs.{HasLongRuns}
use Rattle.alma_lower_sound.proofs.Facts.{body_facts}
use Rattle.alma_lower_sound.proofs.LinkKinds.{AllNamed, runs_named, kinds_named}
use Rattle.alma_lower_sound.proofs.Needs.{no_fault, last_return, last_fault}
use Rattle.alma_lower_sound.proofs.Phrases.{stmts_fit}
use Rattle.alma_lower_sound.proofs.Pieces.{AllNeed}
use Rattle.alma_lower_sound.proofs.Roots.{Compiled, global_cells}
use Rattle.alma_lower_sound.proofs.Whole.{head_is, end_is, last_is, compiled}

-- ---- lists

-- runs that rise end at their top
pub last_is_top : (low : ℕ) (runs : List Run) (top : ℕ) → RunsRise low runs top → last_end low runs ≡ top
last_is_top low [] top h = h
last_is_top low (run ∷ runs) top h = last_is_top run.end runs top h.1

behind : {X : Type 0} (xs ys : List X) (n : ℕ) → n ≡ length xs → slice_get (xs ++ ys) n ≡ slice_get ys 0
behind [] ys n e = ap (slice_get ys) e
behind (x ∷ xs) ys n e = ap (slice_get (x ∷ (xs ++ ys))) e ∙ behind xs ys (length xs) refl

-- the nodes of a routine are nodes of the program
pub some_nodes : (rs : List Routine) (r : ℕ) → r < length rs → routine_nodes (get_or rs r no_routine) ≤ routines_nodes rs
some_nodes [] r lt = absurd (omega (arith, lt))
some_nodes (x ∷ rs) zero lt = omega arith
some_nodes (x ∷ rs) (suc r) lt = omega (arith, some_nodes rs r (omega (arith, lt)))

-- ---- the slots of parameters

numbers_here : (n i : ℕ) (before rest : List SlotKind) → i ≡ length before
    → numbers_from n (before ++ (replicate n slot.Number ++ rest)) i ≡ true
numbers_here zero i before rest e = refl
numbers_here (suc n) i before rest e =
    let ks : List SlotKind = before ++ (slot.Number ∷ (replicate n slot.Number ++ rest)) in
    let moved : (before ++ slot.Number ∷ []) ++ (replicate n slot.Number ++ rest) ≡ ks =
    append_assoc before (slot.Number ∷ []) (replicate n slot.Number ++ rest) in
    and_from (is_number (slice_get ks i)) (numbers_from n ks (suc i))
    (ap is_number (behind before (slot.Number ∷ (replicate n slot.Number ++ rest)) i e))
    (subst (λ x. numbers_from n x (suc i) ≡ true) moved
    (numbers_here n (suc i) (before ++ slot.Number ∷ []) rest (omega (arith, e, length-append before (slot.Number ∷ [])))))

param_here : (k : ArgKind) (n i : ℕ) (before rest : List SlotKind) → i ≡ length before
    → holds_param (before ++ (param_kinds k n ++ rest)) (param_kind k) n i ≡ true
param_here kind.Value n i before rest e = ap is_number (behind before (slot.Number ∷ rest) i e)
param_here kind.Place n i before rest e = ap (is_place_of n) (behind before (slot.Place n ∷ rest) i e) ∙ eq-eqb n n refl
param_here kind.Mix n i before rest e =
    let ks : List SlotKind = before ++ (slot.Place 1 ∷ slot.Number ∷ rest) in
    let moved : (before ++ slot.Place 1 ∷ []) ++ (slot.Number ∷ rest) ≡ ks = append_assoc before (slot.Place 1 ∷ []) (slot.Number ∷ rest) in
    and_from (is_place_of 1 (slice_get ks i)) (is_number (slice_get ks (suc i)))
    (ap (is_place_of 1) (behind before (slot.Place 1 ∷ slot.Number ∷ rest) i e))
    (subst (λ x. is_number (slice_get x (suc i)) ≡ true) moved
    (ap is_number (behind (before ++ slot.Place 1 ∷ []) (slot.Number ∷ rest) (suc i)
    (omega (arith, e, length-append before (slot.Place 1 ∷ []))))))
param_here kind.Cells n i before rest e = numbers_here n i before rest e

param_long : (k : ArgKind) (n : ℕ) → layout.param_slots (param_kind k) n ≡ length (param_kinds k n)
param_long kind.Value n = refl
param_long kind.Place n = refl
param_long kind.Mix n = refl
param_long kind.Cells n = sym (length-replicate n slot.Number)

params_here : (qs : List Param) (i : ℕ) (before rest : List SlotKind) → i ≡ length before
    → hold_params (before ++ (params_kinds qs ++ rest)) (map param_named qs) i ≡ true
params_here [] i before rest e = refl
params_here (q ∷ qs) i before rest e =
    let mine : List SlotKind = param_kinds q.kind q.cells in
    let ks : List SlotKind = before ++ ((mine ++ params_kinds qs) ++ rest) in
    let one : before ++ (mine ++ (params_kinds qs ++ rest)) ≡ ks = ap (λ x. before ++ x) (sym (append_assoc mine (params_kinds qs) rest)) in
    let two : (before ++ mine) ++ (params_kinds qs ++ rest) ≡ ks = append_assoc before mine (params_kinds qs ++ rest) ∙ one in
    let next : ℕ = i + layout.param_slots (param_kind q.kind) q.cells in
    and_from (holds_param ks (param_kind q.kind) q.cells i) (hold_params ks (map param_named qs) next)
    (subst (λ x. holds_param x (param_kind q.kind) q.cells i ≡ true) one (param_here q.kind q.cells i before (params_kinds qs ++ rest) e))
    (subst (λ x. hold_params x (map param_named qs) next ≡ true) two
    (params_here qs next (before ++ mine) rest (omega (arith, e, length-append before mine, param_long q.kind q.cells))))

-- with the link before them
all_here : (level outer : ℕ) (qs : List Param) (rest : List SlotKind)
    → hold_params (link_kinds level outer ++ (params_kinds qs ++ rest)) (link_params level outer ++ map param_named qs) 0 ≡ true
all_here zero outer qs rest = params_here qs 0 [] rest refl
all_here (suc zero) outer qs rest = params_here qs 0 [] rest refl
all_here (suc (suc above)) outer qs rest =
    let ks : List SlotKind = slot.Link outer ∷ (params_kinds qs ++ rest) in
    let next : 1 ≡ 0 + 1 = omega arith in
    and_from (is_link_of outer (slice_get ks 0)) (hold_params ks (map param_named qs) (0 + 1)) (eq-eqb outer outer refl)
    (subst (λ n. hold_params ks (map param_named qs) n ≡ true) next (params_here qs 1 (slot.Link outer ∷ []) rest refl))

module _ (p : Program) (code : PlainCode) (checked : IsChecked p) (is_code : IsCodeOf p code) where
  abbrev tables : Tables
  tables = is_code.tables

  w : Compiled p is_code.tables code
  w = compiled p code is_code checked

  -- ---- instructions

  module _ (r : ℕ) (lt : r < length p.routines) where
    abbrev mine : Routine
    mine = routine_at p r

    pub slots_are : (head_at code r).slots ≡ length (routine_kinds p r)
    slots_are = ap (λ h. h.slots) (head_is p code is_code r lt)

    full : length (kinds_at code r) ≡ (head_at code r).slots
    full = ap length (w.kinds r lt) ∙ sym slots_are

    -- none of these has a fault, where another stands behind them
    none_faults : (xs : List LineInstr) (at : ℕ) → Stands code at xs → AllNeed code r xs → at + length xs < end_at code r → (i : ℕ)
        → i < length xs → instr_fault code r (at + i) (get_or code.instrs (at + i) I.Fail) ≡ None
    none_faults [] at stands needs le i small = absurd (omega (arith, small))
    none_faults (x ∷ xs) at stands needs le zero small =
        let here : at ≡ at + 0 = omega arith in
        subst (λ n. instr_fault code r n (get_or code.instrs n I.Fail) ≡ None) here
        (ap (instr_fault code r at) (get_or_from_slice_get code.instrs at x.instr I.Fail stands.0)
        ∙ no_fault code r full at x.instr (omega (arith, le)) needs.0)
    none_faults (x ∷ xs) at stands needs le (suc i) small =
        let here : at + 1 + i ≡ at + suc i = omega arith in
        subst (λ n. instr_fault code r n (get_or code.instrs n I.Fail) ≡ None) here
        (none_faults xs (at + 1) stands.2 needs.1 (omega (arith, le)) i (omega (arith, small)))

    abbrev begin : ℕ
    begin = start_at code r

    abbrev body : List LineInstr
    body = stmts_code p tables r begin (length (own_kinds mine)) (body_with_lines mine)

    abbrev last : List LineInstr
    last = own mine.line (end_code p tables r mine.result ∷ [])

    stands : Stands code begin (body ++ last)
    stands = routine_stands p tables code is_code.runs is_code.is is_code.count is_code.names r lt

    long : end_at code r ≡ begin + length body + 1
    long = omega (arith, end_is p code is_code r lt, length-append body last)

    needs : AllNeed code r body
    needs =
        stmts_fit p tables code checked w r lt begin (length (own_kinds mine)) (body_with_lines mine)
        (body_facts p tables r checked is_code.held lt)
        (body_slots p tables code is_code.runs is_code.is is_code.count is_code.names checked [] r lt)
        (record { low = omega arith; high = omega (arith, long) })

    -- the last instruction of the routine
    end_fault : (o : Option Range) → mine.result ≡ o → instr_fault code r (begin + length body) (end_code p tables r o) ≡ None
    end_fault None e = last_return code r full (begin + length body) (w.results r lt ∙ ap is_function e)
    end_fault (Some range) e = last_fault code r full (begin + length body)

    pub each_instr : (at : ℕ) → begin ≤ at → at < end_at code r → instr_fault code r at (get_or code.instrs at I.Fail) ≡ None
    each_instr at low high = by (cases_lt (at - begin) (length body))
      where
        by : ((at - begin) < length body) ⊎ (length body ≤ (at - begin)) → instr_fault code r at (get_or code.instrs at I.Fail) ≡ None
        by (inl before) =
            let here : begin + (at - begin) ≡ at = omega (arith, low) in
            subst (λ n. instr_fault code r n (get_or code.instrs n I.Fail) ≡ None) here
            (none_faults body begin (stands_front code begin body last stands) needs (omega (arith, long)) (at - begin) before)
        by (inr behind_body) =
            let here : begin + length body ≡ at = omega (arith, low, high, long, behind_body) in
            subst (λ n. instr_fault code r n (get_or code.instrs n I.Fail) ≡ None) here
            (ap (instr_fault code r (begin + length body))
            (get_or_from_slice_get code.instrs (begin + length body) (end_code p tables r mine.result) I.Fail
            (stands_back code begin body last stands).0) ∙ end_fault mine.result refl)

    -- ---- the head

    some_code : begin < end_at code r
    some_code = omega (arith, long)

    kinds_long : length (routine_kinds p r) ≡ own_end p r + length (stmts_slots p r (body_with_lines mine))
    kinds_long = omega (
      arith,
      length-append (own_kinds mine) (stmts_slots p r (body_with_lines mine)),
      own_long p tables code [] r (checked.params r lt),
    )

    params_hold : hold_params (kinds_at code r) (head_at code r).params 0 ≡ true
    params_hold =
        let others = replicate (mine.slots - length (params_kinds mine.params)) slot.Number in
        let rest = stmts_slots p r (body_with_lines mine) in
        let link = link_kinds mine.level mine.outer in
        let moved : routine_kinds p r ≡ link ++ (params_kinds mine.params ++ (others ++ rest)) =
        append_assoc link (params_kinds mine.params ++ others) rest
        ∙ ap (λ x. link ++ x) (append_assoc (params_kinds mine.params) others rest) in
        ap (λ ks. hold_params ks (head_at code r).params 0) (w.kinds r lt ∙ moved)
        ∙ ap (λ ps. hold_params (link ++ (params_kinds mine.params ++ (others ++ rest))) ps 0) (w.params r lt)
        ∙ all_here mine.level mine.outer mine.params (others ++ rest)

    module _ (few : 16 * nodes p ≤ size_limit) (rise : RunsRise 0 (head_at code r).runs (head_at code r).slots) where
      slots_few : (head_at code r).slots ≤ slot_limit
      slots_few = omega (
        arith,
        slots_are,
        kinds_long,
        few_slots p checked r lt,
        some_nodes p.routines r lt,
        few,
        (checked.routine_limits r lt).slots,
      )

      declared_are : (head_at code r).declared ≡ mine.declared
      declared_are = ap (λ h. h.declared) (head_is p code is_code r lt)

      pub second : rule_2 code r ≡ true
      second =
          and_from _ _
          (and_from _ _ (eq-eqb (last_end 0 (head_at code r).runs) (head_at code r).slots
          (last_is_top 0 (head_at code r).runs (head_at code r).slots rise))
          (and_from _ _ (le-leb (head_at code r).slots slot_limit slots_few)
          (runs_named p code w.count 0 (head_at code r).slots (head_at code r).runs rise
          (subst (AllNamed p) (sym (w.kinds r lt)) (kinds_named p tables code checked r lt is_code.held)))))
          (and_from _ _ (le-leb (head_at code r).declared (head_at code r).slots
          (omega (arith, declared_are, slots_are, kinds_long, (checked.declared r lt).within)))
          (le-leb (head_at code r).declared cell_limit (omega (arith, declared_are, (checked.routine_limits r lt).declared))))

  each_global : (gs : List Global) → AllByRecursion (IsGlobal p) gs → list_all (is_global code) (map global_named gs) ≡ true
  each_global [] h = refl
  each_global (g ∷ gs) h =
      and_from (is_global code (global_named g)) (list_all (is_global code) (map global_named gs))
      (global_cells p tables code checked w g.slot g.cells h.0.slots h.0.position) (each_global gs h.1)

  no_result : (o : Option Range) → IsNone o → is_function o ≡ false
  no_result None h = refl
  no_result (Some range) h = absurd (cc)

  main_holds : (r : ℕ) → is_main code r ≡ true
  main_holds zero =
      let main = (checked.nested 0 checked.body.0).body refl in
      let outer : ℕ = (routine_at p 0).outer in
      let none : (head_at code 0).params ≡ [] =
      w.params 0 checked.body.0 ∙ ap (λ l. link_params l outer ++ map param_named (routine_at p 0).params) main.0
      ∙ ap (map param_named) checked.body_takes_nothing.0 in
      and_from _ _ (ap (λ ps. nat_eq (length ps) 0) none)
      (and_from _ _ (ap not (w.results 0 checked.body.0 ∙ no_result (routine_at p 0).result checked.body_takes_nothing.1))
      (ap (λ gs. list_all (is_global code) gs) (ap (λ c. c.globals) is_code.is) ∙ each_global p.globals checked.globals))
  main_holds (suc r) = refl

  position_holds : (r : ℕ) → has_position code r ≡ true
  position_holds zero = ap is_number (position_kind p tables code is_code.runs is_code.is is_code.count is_code.names checked [])
  position_holds (suc r) = refl

  -- ---- all together

  within : (r : ℕ) → r < length code.routines → r < length p.routines
  within r lt = omega (arith, lt, w.count)

  module _ (few : 16 * nodes p ≤ size_limit) (runs : HasLongRuns p code) where
    fill : (r : ℕ) → r < length code.routines → RunsRise 0 (head_at code r).runs (head_at code r).slots
    fill r lt = subst (RunsRise 0 (head_at code r).runs) (sym (slots_are r (within r lt))) (runs r (within r lt)).ends

    table : IsTable code
    table = record {
      some = omega (arith, w.count, checked.body.0);
      rise = λ r lt. omega (arith, some_code r (within r lt));
      last = last_is p code is_code;
      runs = λ r lt. subst (RunsRise 0 (head_at code r).runs) (sym (last_is_top 0 (head_at code r).runs (head_at code r).slots (fill r lt)))
          (fill r lt);
    }

    heads : (r : ℕ) → r < length code.routines → (rule_1 code r ≡ true) × (rule_2 code r ≡ true) × (rule_3 code r ≡ true)
    heads r lt =
        let there = within r lt in (
          and_from _ _ (lt-ltb (start_at code r) (end_at code r) (some_code r there)) (main_holds r),
          second r there few (fill r lt),
          and_from _ _ (params_hold r there) (position_holds r),
        )

    pub is_sound : IsSound code
    is_sound = record { table = table; heads = heads; instrs = λ r at lt low high. each_instr r (within r lt) at low high }

pub code_is_sound : (p : Program) (code : PlainCode) → IsChecked p → IsCodeOf p code → HasLongRuns p code → 16 * nodes p ≤ size_limit
    → IsSound code
code_is_sound p code checked is_code runs few = is_sound p code checked is_code few runs
