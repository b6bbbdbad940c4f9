-- RETURN, and the end of a routine, from template to run.
use Rattle.std.proofs.Common.{◌≡◌, ℕ, zero, suc, ◌+◌, ◌-◌, ◌≤◌, Bool, true, false, List, [], ◌∷◌, ◌++◌, length, replicate, Some, None}
use Rattle.std.proofs.Common.{Option, refl, sym, ap, ◌∙◌, subst, arith, ℤ, length-append, append-nil}
use Rattle.std.specs.Prelude.{slice_get, sum_by}
use Rattle.std.proofs.lemmas.List.{length-replicate}
use Rattle.std.proofs.lemmas.List.Sums.{sum_by-cons}
use Rattle.alma_base.specs.declared.number.Range.{Range}
use Rattle.alma_base.specs.Numbers.{within}
use Rattle.alma_base.specs.declared.fault.RunFault.TheVariants as fault
use Rattle.alma_code.specs.declared.cell.SlotKind.TheVariants as slot
use Rattle.alma_code.specs.declared.instr.Instr.{Instr}
use Rattle.alma_code.specs.declared.instr.Instr.TheVariants as I
use Rattle.alma_code.specs.Picture.{PlainFrame, PlainEntry, last_frame}
use Rattle.alma_code.specs.Plain.{PlainCode, start_at}
use Rattle.alma_code.specs.Machine.{State, act, state_after_leave, result_to}
use Rattle.alma_ir.specs.declared.program.ArgKind.TheVariants as kind
use Rattle.alma_ir.specs.declared.program.Param.{Param}
use Rattle.alma_ir.specs.Tree.{Program, Expr, Return, no_result, some_result, routine_at}
use Rattle.alma_ir.specs.Checked.{ParamsFirst, link_slots, slots_of_kind, param_slots}
use Rattle.alma_ir.specs.Lines.{body_with_lines}
use Rattle.alma_mean.specs.Store.{Store, top_frame}
use Rattle.alma_mean.specs.Events as events
use Rattle.alma_mean.specs.Events.{Events, NoYield, Go, Visit, Print, Alt, Fail, Fault, Cut, one, join, bind, node}
use Rattle.alma_mean.specs.Arithmetic.{check_range, fault_unless}
use Rattle.alma_mean.specs.Rows.{return_within}
use Rattle.alma_mean.specs.Meaning.{Level, level_0, level_above, ev_stmts, ev_stmt, ev_expr}
use Rattle.alma_lower_implements.proofs.Goes.{IsOn, Goes, no_step}
use Rattle.alma_lower_implements.proofs.BareRow.{ReadsFirst}
use Rattle.alma_lower_implements.proofs.Frames.{own_end}
use Rattle.alma_lower_implements.proofs.Steps.{InstrAt, passed, does}
use Rattle.alma_lower_implements.proofs.Ways.{Ways, Leaves, Runs}
use Rattle.alma_lower_templates.specs.LineInstr.{LineInstr, own}
use Rattle.alma_lower_templates.specs.Tables.{Tables}
use Rattle.alma_lower_templates.specs.Pieces.{fit_code}
use Rattle.alma_lower_templates.specs.Slots.{bare, unless_bare, own_kinds, link_kinds, param_kinds, params_kinds}
use Rattle.alma_lower_templates.specs.Templates.{expr_code, stmt_code, stmts_code, value_at, fit_result, routine_code, end_code}
use Rattle.alma_lower_templates.specs.Stands.{Stands}
use Rattle.alma_lower_templates.proofs.Stands.{stands_front, stands_back}
use Rattle.alma_lower_templates.proofs.Parts.{Begins, Left, begins, left_self, left_less, ValueIn, RunsFor, From, leaving, ending}
use Rattle.alma_lower_templates.proofs.Parts.{ends_here, as_runs, node_runs, ResultIs}
use Rattle.alma_lower_templates.proofs.AtOnce.{AtOnce, at_once}
use Rattle.alma_lower_templates.proofs.Args.{RangeFits, fit_from, fit_reads, own_both}
use Rattle.alma_lower_templates.proofs.Calls.{RoutineRuns, EndsAt}

-- each number as the number of a RETURN
abbrev returned : Events ℤ → Events NoYield
returned (Visit e) = Visit (returned e)
returned (Print b e) = Print b (returned e)
returned (Alt s (Go n) e) = Alt s (events.Return (Some n)) (returned e)
returned (Alt s (events.Return n) e) = Alt s (events.Return n) (returned e)
returned Fail = Fail
returned (Fault x l) = Fault x l
returned Cut = Cut

returned_join : (e f : Events ℤ) → returned (join e f) ≡ join (returned e) (returned f)
returned_join (Visit e) f = ap Visit (returned_join e f)
returned_join (Print b e) f = ap (Print b) (returned_join e f)
returned_join (Alt s (Go n) e) f = ap (Alt s (events.Return (Some n))) (returned_join e f)
returned_join (Alt s (events.Return n) e) f = ap (Alt s (events.Return n)) (returned_join e f)
returned_join Fail f = refl
returned_join (Fault x l) f = refl
returned_join Cut f = refl

returned_bind : (e : Events ℤ) (k : Store → ℤ → Events ℤ) (k2 : Store → ℤ → Events NoYield)
    → ((s : Store) (n : ℤ) → returned (k s n) ≡ k2 s n) → returned (bind e k) ≡ bind e k2
returned_bind (Visit e) k k2 h = ap Visit (returned_bind e k k2 h)
returned_bind (Print b e) k k2 h = ap (Print b) (returned_bind e k k2 h)
returned_bind (Alt s (Go n) e) k k2 h = returned_join (k s n) (bind e k) ∙ ap (λ x. join x (returned (bind e k))) (h s n)
    ∙ ap (join (k2 s n)) (returned_bind e k k2 h)
returned_bind (Alt s (events.Return n) e) k k2 h = ap (Alt s (events.Return n)) (returned_bind e k k2 h)
returned_bind Fail k k2 h = refl
returned_bind (Fault x l) k k2 h = refl
returned_bind Cut k k2 h = refl

-- the number that is returned, where it is in the range of the result
abbrev result_of : Option Range → Store → ℤ → Events ℤ
result_of None s n = one s n
result_of (Some range) s n = check_range range n (λ _. one s n)

returned_result : (o : Option Range) (s : Store) (n : ℤ) → returned (result_of o s n) ≡ return_within o s n
returned_result None s n = refl
returned_result (Some range) s n = by (within range n)
  where
    by : (b : Bool) → returned (fault_unless fault.Range b (λ _. one s n)) ≡ fault_unless fault.Range b
        (λ _. Alt s (events.Return (Some n)) Fail)
    by true = refl
    by false = refl

module _ (p : Program) (tables : Tables) (code : PlainCode) (input : List ℕ) where
  -- ---- RETURN

  returned_goes : (line state_after_leave more m exit : ℕ) (w : Ways ℤ) (w2 : Ways NoYield) (base : List PlainEntry) (e : Events ℤ)
      (s : State) (r q : ℕ) → ((v : Store) (n : ℤ) (t : List PlainFrame) → w.goes v n t → w2.returns v (Some n) m t)
      → ((v : Store) (n : Option ℤ) (a : ℕ) (t : List PlainFrame) → w.returns v n a t → w2.returns v n a t)
      → Goes code input line state_after_leave more (Leaves m w) base e s r q
      → Goes code input line state_after_leave more (Leaves exit w2) base (returned e) s r q
  returned_goes line state_after_leave more m exit w w2 base Fail s r q k l h = h
  returned_goes line state_after_leave more m exit w w2 base (Fault x own) s r q k l h = h
  returned_goes line state_after_leave more m exit w w2 base Cut s r q k l h = h
  returned_goes line state_after_leave more m exit w w2 base (Visit e) s r q k l h =
      returned_goes line state_after_leave more m exit w w2 base e s (r + 32) q k l h
  returned_goes line state_after_leave more m exit w w2 base (Print bytes e) s r q k l h = (
    h.0,
    h.1,
    h.2,
    h.3,
    h.4,
    h.5,
    h.6,
    returned_goes line state_after_leave more m exit w w2 base e h.4 (r - suc h.0) (q - suc h.0) k l
        h.7,
  )
  returned_goes line state_after_leave more m exit w w2 base (Alt v (Go n) e) s r q k l h = (
    h.0,
    h.1,
    h.2,
    h.3,
    h.4,
    h.5,
    subst (λ a. w2.returns v (Some n) a h.1.now) (sym h.6.0) (k v n h.1.now h.6.1),
    λ base2 u like failing. returned_goes line state_after_leave more m exit w w2 base2 e u 0 (q - h.0) k l
        (h.7 base2 u like failing),
  )
  returned_goes line state_after_leave more m exit w w2 base (Alt v (events.Return n) e) s r q k l h = (
    h.0,
    h.1,
    h.2,
    h.3,
    h.4,
    h.5,
    l v n h.1.at h.1.now h.6,
    λ base2 u like failing. returned_goes line state_after_leave more m exit w w2 base2 e u 0 (q - h.0) k l
        (h.7 base2 u like failing),
  )

  pub return_value_reads : (line at from : ℕ) (now : List PlainFrame) → InstrAt code input line at (I.ReturnValue from)
      → ReadsFirst code input at from now
  unfolding act
  return_value_reads line at from now i held s is = (
    (λ v. result_to (slice_get code.instrs ((last_frame (passed code input s).now).back - 1)) (state_after_leave (passed code input s))
        v),
    does code input line at now held s (I.ReturnValue from) is i,
  )

  module _ (below : Level) (r line q : ℕ) where
    -- a node with statements inside of it, from so many steps
    ending_node : (lo c at exit : ℕ) (now : List PlainFrame) (e : Events NoYield) → c ≤ 24
        → From p code input line c at exit now (ending p code input true lo r now) e q
        → Runs code input line at exit now (ending p code input true lo r now) (node e) q
    ending_node lo c at exit now e few h = as_runs p code input line at exit now (ending p code input true lo r now) (node e) q
        (node_runs p code input line c at exit now (ending p code input true lo r now) e q few h)

    pub return_runs : (lo at : ℕ) → (routine_at p r).result ≡ None → own_end p r ≤ lo
        → RunsFor p code input true r line at lo (stmt_code p tables r line at lo (Return no_result))
        (ev_stmt p input below (Return no_result)) q
    unfolding ev_stmts
    return_runs lo at none own_lo stands v now b =
        ending_node lo 24 at (at + 1) now (Alt v (events.Return None) Fail) (omega arith)
        (λ held s is. (
          0,
          s,
          omega arith,
          no_step code input s,
          [],
          record { mode = is.mode; entries = is.entries ∙ sym (append-nil held) },
          (
            refl,
            subst (λ t. Left p code input (own_end p r) r now v t) (sym is.frames) (left_self p code input (own_end p r) r v now b),
            record {
              there = ap (slice_get code.instrs) is.here ∙ stands.0;
              result =
                  subst (λ o. ResultIs p code input o None) (sym none) tt;
            },
          ),
          λ base2 u like failing. (
            0,
            u,
            omega arith,
            no_step code input u,
            record { mode = failing.mode; entries = failing.entries ∙ append-nil base2 },
          ),
        ))

    pub return_value_runs : (e : Expr) (range : Range) (lo at : ℕ) → (routine_at p r).result ≡ Some range → own_end p r ≤ lo
        → RangeFits p tables code input range → AtOnce p tables code input below r line q at lo e
        → RunsFor p code input true r line at lo (stmt_code p tables r line at lo (Return (some_result e)))
        (ev_stmt p input below (Return (some_result e))) q
    unfolding ev_stmts
    return_value_runs e range lo at some own_lo fits once stands v now b =
        let first : List LineInstr = unless_bare (bare e) (expr_code p tables r line at lo e) in
        let value : ℕ = value_at p tables r lo e in
        let fit : List Instr = fit_code tables range value in
        let second : List LineInstr = own line (fit ++ (I.ReturnValue value ∷ [])) in
        let m : ℕ = at + length first in
        let m2 : ℕ = m + length (own line fit) in
        let as_fit : fit_result p tables r (routine_at p r).result value ≡ fit = ap (λ o. fit_result p tables r o value) some in
        let made : List LineInstr = stmt_code p tables r line at lo (Return (some_result e)) in
        let exit : ℕ = at + length made in
        let is : made ≡ first ++ second = ap (λ z. first ++ own line (z ++ (I.ReturnValue value ∷ []))) as_fit in
        let all : Stands code at (first ++ second) = subst (Stands code at) is stands in
        let behind : Stands code m second = stands_back code at first second all in
        let split : second ≡ own line fit ++ own line (I.ReturnValue value ∷ []) = own_both line fit (I.ReturnValue value ∷ []) in
        let parts : Stands code m (own line fit ++ own line (I.ReturnValue value ∷ [])) = subst (Stands code m) split behind in
        let fit_there : Stands code m (own line fit) = stands_front code m (own line fit) (own line (I.ReturnValue value ∷ [])) parts in
        let last : Stands code m2 (own line (I.ReturnValue value ∷ [])) =
        stands_back code m (own line fit) (own line (I.ReturnValue value ∷ [])) parts in
        let reads = fit_reads p tables code input line m value now range (I.ReturnValue value) fits (return_value_reads line m value now)
        behind in
        let w = leaving p code input lo r now (ValueIn p code input value) in
        let k = λ (t : Store) (n : ℤ). result_of (routine_at p (top_frame t).routine).result t n in
        let k2 = λ (t : Store) (n : ℤ). return_within (routine_at p (top_frame t).routine).result t n in
        let same : returned (bind (ev_expr p input below e v) k) ≡ bind (ev_expr p input below e v) k2 =
        returned_bind (ev_expr p input below e v) k k2 (λ t n. returned_result (routine_at p (top_frame t).routine).result t n) in
        ending_node lo 0 at exit now (bind (ev_expr p input below e v) k2) (omega arith)
        (λ held s here.
        subst (λ f. Goes code input line 0 24 (Leaves exit (ending p code input true lo r now)) held f s 0 q) same
        (returned_goes line 0 24 m2 exit w (ending p code input true lo r now) held (bind (ev_expr p input below e v) k) s 0 q
        (λ u n t left_here. (
          refl,
          left_less p code input (own_end p r) lo r now u t own_lo left_here.0,
          record {
            there = (value, last.0, left_here.1.holds);
            result =
                subst (λ o. ResultIs p code input o (Some n)) (sym some) left_here.1.integer;
          },
        ))
        (λ u n a t none. absurd none)
        (at_once p tables code input below r line q m2 lo lo at v now (ValueIn p code input value) k (omega arith) own_lo b e once
        (stands_front code at first second all) reads.0 reads.1
        (λ u n t left_here value_there.
        let bt : Begins p code input r u t = begins p code input lo r now u t left_here in
        let result : result_of (Some range) u n ≡ result_of (routine_at p (top_frame u).routine).result u n =
        ap (λ o. result_of o u n) (sym (ap (λ x. (routine_at p x).result) bt.routine ∙ some)) in
        subst (λ f. From p code input line 8 m m2 t (leaving p code input lo r t (ValueIn p code input value)) f q) result
        (fit_from p tables code input line 7 m m2 m2 t (leaving p code input lo r t (ValueIn p code input value)) range value n (one u n) q
        fits value_there fit_there refl
        (ends_here p code input line 7 m2 lo r u t (ValueIn p code input value) n q bt value_there)))
        held s here)))

  -- ---- the end of a routine

  link_long : (level outer : ℕ) → length (link_kinds level outer) ≡ link_slots level
  link_long zero outer = refl
  link_long (suc zero) outer = refl
  link_long (suc (suc n)) outer = refl

  param_long : (k : _) (n : ℕ) → length (param_kinds k n) ≡ slots_of_kind k n
  param_long kind.Value n = refl
  param_long kind.Place n = refl
  param_long kind.Mix n = refl
  param_long kind.Cells n = length-replicate n slot.Number

  params_long : (qs : List Param) → length (params_kinds qs) ≡ sum_by param_slots qs
  params_long [] = refl
  params_long (q ∷ qs) = omega (
    arith,
    length-append (param_kinds q.kind q.cells) (params_kinds qs),
    param_long q.kind q.cells,
    params_long qs,
    sum_by-cons param_slots q qs,
  )

  -- the phrases of a routine begin behind its own slots
  pub own_long : (r : ℕ) → ParamsFirst (routine_at p r) → length (own_kinds (routine_at p r)) ≡ own_end p r
  own_long r first =
      let params = params_kinds (routine_at p r).params in
      let others = replicate ((routine_at p r).slots - length params) slot.Number in
      omega (
        arith,
        length-append (link_kinds (routine_at p r).level (routine_at p r).outer) (params ++ others),
        length-append params others,
        length-replicate ((routine_at p r).slots - length params) slot.Number,
        link_long (routine_at p r).level (routine_at p r).outer,
        params_long (routine_at p r).params,
        first.fit,
      )

  abbrev pub body_slot : (r : ℕ) → ℕ
  body_slot r = length (own_kinds (routine_at p r))

  abbrev pub body_code_of : (r : ℕ) → List LineInstr
  body_code_of r = stmts_code p tables r (start_at code r) (body_slot r) (body_with_lines (routine_at p r))

  -- what stands at its end
  pub routine_ends : (below : Level) (r : ℕ) → Stands code (start_at code r) (routine_code p tables r (start_at code r))
      → EndsAt p tables code input below r (start_at code r + length (body_code_of r)) (routine_at p r).result
  routine_ends below r stands = ends_at (routine_at p r).result
      (stands_back code (start_at code r) (body_code_of r) (own (routine_at p r).line (end_code p tables r (routine_at p r).result ∷ []))
      stands)
    where
      ends_at : (result : Option Range) → Stands code (start_at code r + length (body_code_of r))
          (own (routine_at p r).line (end_code p tables r result ∷ []))
          → EndsAt p tables code input below r (start_at code r + length (body_code_of r)) result
      ends_at None h = h.0
      ends_at (Some range) h = record { instr = h.0; on_line = h.1 }

  -- a routine whose statements run runs to its end
  pub routine_runs : (below : Level) (r q : ℕ) → ParamsFirst (routine_at p r)
      → Stands code (start_at code r) (routine_code p tables r (start_at code r))
      → ((line : ℕ) → RunsFor p code input true r line (start_at code r) (body_slot r) (body_code_of r)
      (ev_stmts p input below (body_with_lines (routine_at p r))) q)
      → RoutineRuns p tables code input (level_above p input below) r q
  routine_runs below r q first stands body = record {
    exit = start_at code r + length (body_code_of r);
    runs = λ line v now b.
        subst (λ lo. Runs code input line (start_at code r) (start_at code r + length (body_code_of r)) now
        (ending p code input true lo r now) (ev_stmts p input below (body_with_lines (routine_at p r)) v) q) (own_long r first)
        (body line (stands_front code (start_at code r) (body_code_of r)
        (own (routine_at p r).line (end_code p tables r (routine_at p r).result ∷ [])) stands) v now b);
    ends = routine_ends (level_above p input below) r stands;
  }

  -- at level 0 all is cut off
  pub routine_cut : (r exit : ℕ) → EndsAt p tables code input level_0 r exit (routine_at p r).result
      → RoutineRuns p tables code input level_0 r 0
  routine_cut r exit ends = record {
    exit = exit;
    runs = λ line v now b c le held s is. (0, s, omega arith, no_step code input s, omega arith, subst IsOn (sym is.mode) tt);
    ends = ends;
  }
