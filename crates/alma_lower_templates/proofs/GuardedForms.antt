-- IF, WHILE, REPEAT and truths as numbers, from template to run.
use Rattle.std.proofs.Common.{◌≡◌, ℕ, suc, ◌+◌, ◌≤◌, Bool, true, false, List, [], ◌∷◌, ◌++◌, length, refl, sym, ap, ◌∙◌, subst, arith}
use Rattle.std.proofs.lemmas.List.{length-append}
use Rattle.alma_code.specs.declared.instr.Instr.TheVariants as I
use Rattle.alma_code.specs.Picture.{PlainFrame}
use Rattle.alma_code.specs.Plain.{PlainCode}
use Rattle.alma_ir.specs.Tree.{Program, Stmts, Test, Arms, no_arms, more_arms, If, Value, Bind, Unify, SameCells, Seq, And, Or, Not}
use Rattle.alma_ir.specs.Tree.{CallTest}
use Rattle.alma_mean.specs.Store.{Store}
use Rattle.alma_mean.specs.Events.{Events, NoYield, Visit, node, on_first, visit_each}
use Rattle.alma_mean.specs.Meaning.{Level, ev_stmts, ev_test, ev_arms}
use Rattle.alma_lower_implements.proofs.Frames.{own_end, HasSlots}
use Rattle.alma_lower_implements.proofs.Steps.{InstrAt}
use Rattle.alma_lower_implements.proofs.TurnRow.{Decides, arm_row}
use Rattle.alma_lower_implements.proofs.Ways.{Visited, LeadsTo, leads_by_jump, leads_then, visited_behind}
use Rattle.alma_lower_templates.specs.LineInstr.{LineInstr, own}
use Rattle.alma_lower_templates.specs.Tables.{Tables}
use Rattle.alma_lower_templates.specs.Slots.{is_simple, mark_slots, test_slots, behind_stmts, behind_condition}
use Rattle.alma_lower_templates.specs.Pieces.{condition, guard_code}
use Rattle.alma_lower_templates.specs.Templates.{stmts_code, test_code, jump_code, arms_code}
use Rattle.alma_lower_templates.specs.Stands.{Stands}
use Rattle.alma_lower_templates.proofs.Stands.{stands_front, stands_back}
use Rattle.alma_lower_templates.proofs.Parts.{Begins, begins, Left, From, ending, on_ending, from_ending, as_runs, node_runs, runs_from}
use Rattle.alma_lower_templates.proofs.Conditions.{TestKnown, condition_code, condition_decides}
use Rattle.alma_lower_templates.proofs.FormRuns.{StatementRuns, ListRuns}

module _ (p : Program) (tables : Tables) (code : PlainCode) (input : List ℕ) (below : Level) (r line q : ℕ) where
  -- ---- a condition and what it guards

  jump_long : (at lo a b : ℕ) (t : Test) → length (jump_code p tables r line at lo a t) ≡ length (jump_code p tables r line at lo b t)
  jump_long at lo a b (Value x) = length-append _ (own line (I.JumpZero _ a ∷ [])) ∙ sym (length-append _ (own line (I.JumpZero _ b ∷ [])))
  jump_long at lo a b (Bind d x range left) = refl
  jump_long at lo a b (Unify d range x range') = refl
  jump_long at lo a b (SameCells d x) = refl
  jump_long at lo a b (Seq x) = refl
  jump_long at lo a b (And ts) = refl
  jump_long at lo a b (Or ts) = refl
  jump_long at lo a b (Not t) = refl
  jump_long at lo a b (CallTest called args up) = refl

  long_by : (z : Bool) (at lo a b : ℕ) (t : Test)
      → length (condition z line at lo a (λ at lo none. jump_code p tables r line at lo none t)
      (λ at lo. test_code p tables r line at lo t)) ≡ length
      (condition z line at lo b (λ at lo none. jump_code p tables r line at lo none t) (λ at lo. test_code p tables r line at lo t))
  long_by true at lo a b t = jump_long at lo a b t
  long_by false at lo a b t = refl

  -- the address behind a condition
  abbrev pub behind_test_at : (at lo : ℕ) → Test → ℕ
  behind_test_at at lo t = at + length (condition_code p tables code input below r line q at lo 0 t)

  pub condition_long : (at lo none : ℕ) (t : Test)
      → at + length (condition_code p tables code input below r line q at lo none t) ≡ behind_test_at at lo t
  condition_long at lo none t = ap (λ n. at + n) (long_by (is_simple t) at lo none 0 t)

  abbrev pub guarded_code : (at lo skipped : ℕ) → Test → (ℕ → List LineInstr) → List LineInstr
  guarded_code at lo skipped t body = guard_code at skipped
      (λ none. condition (is_simple t) line at lo none (λ at lo none. jump_code p tables r line at lo none t)
      (λ at lo. test_code p tables r line at lo t)) body

  -- where it goes on when there is no alternative
  abbrev pub none_at : (at lo skipped : ℕ) → Test → (ℕ → List LineInstr) → ℕ
  none_at at lo skipped t body = behind_test_at at lo t + length (body (behind_test_at at lo t)) + skipped

  pub guarded_front : (at lo skipped : ℕ) (t : Test) (body : ℕ → List LineInstr) → Stands code at (guarded_code at lo skipped t body)
      → Stands code at (condition_code p tables code input below r line q at lo (none_at at lo skipped t body) t)
  guarded_front at lo skipped t body stands =
      stands_front code at (condition_code p tables code input below r line q at lo (none_at at lo skipped t body) t)
      (body (behind_test_at at lo t)) stands

  pub guarded_back : (at lo skipped : ℕ) (t : Test) (body : ℕ → List LineInstr) → Stands code at (guarded_code at lo skipped t body)
      → Stands code (behind_test_at at lo t) (body (behind_test_at at lo t))
  guarded_back at lo skipped t body stands =
      subst (λ n. Stands code n (body (behind_test_at at lo t))) (condition_long at lo (none_at at lo skipped t body) t)
      (stands_back code at (condition_code p tables code input below r line q at lo (none_at at lo skipped t body) t)
      (body (behind_test_at at lo t)) stands)

  pub guarded_long : (at lo skipped : ℕ) (t : Test) (body : ℕ → List LineInstr)
      → at + length (guarded_code at lo skipped t body) ≡ behind_test_at at lo t + length (body (behind_test_at at lo t))
  guarded_long at lo skipped t body =
      let c : List LineInstr = condition_code p tables code input below r line q at lo (none_at at lo skipped t body) t in
      let b : List LineInstr = body (behind_test_at at lo t) in
      let both : length (c ++ b) ≡ length c + length b = length-append c b in
      omega (arith, both, condition_long at lo (none_at at lo skipped t body) t)

  -- what the events of a condition decide, at a debt
  abbrev pub Decided : (at lo none : ℕ) → Test → (Store → Events NoYield) → (d : ℕ) → Type 1
  Decided at lo none t cond d =
      (v : Store) (now : List PlainFrame) → Begins p code input r v now
      → Stands code at (condition_code p tables code input below r line q at lo none t)
      → Decides code input line (at) (behind_test_at at lo t) none now (cond v) (λ u t2. Left p code input lo r now u t2)
      (λ t2. Left p code input lo r now v t2) d

  pub decided : (at lo none : ℕ) (t : Test) → HasSlots p code r lo (mark_slots (is_simple t) ++ test_slots p r t)
      → TestKnown p tables code input below r line q at lo t → Decided at lo none t (ev_test p input below t) q
  decided at lo none t slots known v now b stands =
      subst (λ n. Decides code input line at n none now (ev_test p input below t v) (λ u t2. Left p code input lo r now u t2)
      (λ t2. Left p code input lo r now v t2) q) (condition_long at lo none t)
      (condition_decides p tables code input below r line q at lo none t v now slots b known stands)

  -- ---- IF

  -- the arms behind the first, from a state that has 8 steps left
  abbrev pub ArmsRun : (may : Bool) (jump at lo : ℕ) → Arms → Stmts → Type 0
  ArmsRun may jump at lo arms els =
      Stands code at (arms_code p tables r line jump at lo arms (λ next lo. stmts_code p tables r next lo els)) → (exit : ℕ)
      → exit ≡ at + length (arms_code p tables r line jump at lo arms (λ next lo. stmts_code p tables r next lo els))
      → LeadsTo code input 7 jump exit
      → (v : Store) (now : List PlainFrame) → Begins p code input r v now
      → From p code input line 8 at exit now (ending p code input may lo r now)
      (ev_arms p input below arms v (ev_stmts p input below els)) q

  pub no_arms_run : (may : Bool) (jump at lo : ℕ) (els : Stmts) → ListRuns p tables code input below r line q may at lo els
      → ArmsRun may jump at lo no_arms els
  unfolding ev_stmts
  no_arms_run may jump at lo els runs stands exit is leads v now b =
      subst (λ n. From p code input line 8 at n now (ending p code input may lo r now) (ev_stmts p input below els v) q) (sym is)
      (runs_from p code input line at (at + length (stmts_code p tables r at lo els)) now (ending p code input may lo r now)
      (ev_stmts p input below els v) q (runs stands v now b))

  -- one arm; its body ends at y, and the code for no alternative begins behind the jump there
  arm_from : (may : Bool) (at lo exit : ℕ) (t : Test) (body : Stmts) (rest : Store → Events NoYield) (v : Store) (now : List PlainFrame)
      → own_end p r ≤ lo → Begins p code input r v now
      → Decided at lo (none_at at lo 1 t (λ next. stmts_code p tables r next (behind_condition p r lo t) body)) t (ev_test p input below t)
      q
      → Stands code at (guarded_code at lo 1 t (λ next. stmts_code p tables r next (behind_condition p r lo t) body))
      → ((next : ℕ) → ListRuns p tables code input below r line q may next (behind_condition p r lo t) body)
      → LeadsTo code input 8 (behind_test_at at lo t
      + length (stmts_code p tables r (behind_test_at at lo t) (behind_condition p r lo t) body)) exit
      → ((t2 : List PlainFrame) → Left p code input lo r now v t2
      → From p code input line 8 (none_at at lo 1 t (λ next. stmts_code p tables r next (behind_condition p r lo t) body)) exit t2
      (ending p code input may lo r now) (rest v) q)
      → Visited code input line at exit now (ending p code input may lo r now)
      (on_first (ev_test p input below t v) (λ u _. visit_each (ev_stmts p input below body u)) (λ _. rest v)) q
  arm_from may at lo exit t body rest v now behind b decides stands runs leads later =
      let made = λ (next : ℕ). stmts_code p tables r next (behind_condition p r lo t) body in
      let m : ℕ = behind_test_at at lo t in
      let y : ℕ = m + length (made m) in
      arm_row code input line at m y (none_at at lo 1 t made) exit now (ending p code input may lo r now) (ev_test p input below t v)
      (λ u. ev_stmts p input below body u) (rest v) (λ u t2. Left p code input lo r now u t2) (λ t2. Left p code input lo r now v t2) q
      (decides v now b (guarded_front at lo 1 t made stands)) leads
      (λ u t2 left. on_ending p code input may line m y lo (behind_condition p r lo t) r u now t2 (ev_stmts p input below body u) q
      (omega arith) behind left (runs m (guarded_back at lo 1 t made stands) u t2 (begins p code input lo r now u t2 left)))
      later

  pub more_arms_run : (may : Bool) (jump at lo : ℕ) (t : Test) (body : Stmts) (rest : Arms) (els : Stmts) → own_end p r ≤ lo
      → ((none : ℕ) → Decided at lo none t (ev_test p input below t) q)
      → ((next : ℕ) → ListRuns p tables code input below r line q may next (behind_condition p r lo t) body)
      → ((next : ℕ) → ArmsRun may jump next (behind_stmts p r (behind_condition p r lo t) body) rest els)
      → ArmsRun may jump at lo (more_arms t body rest) els
  unfolding ev_stmts
  more_arms_run may jump at lo t body rest els behind decides runs others stands exit is leads v now b =
      let made = λ (next : ℕ). stmts_code p tables r next (behind_condition p r lo t) body in
      let head : List LineInstr = guarded_code at lo 1 t made in
      let out : List LineInstr = own line (I.Jump jump ∷ []) in
      let next : ℕ = at + length (head ++ out) in
      let lo2 : ℕ = behind_stmts p r (behind_condition p r lo t) body in
      let after : List LineInstr = arms_code p tables r line jump next lo2 rest (λ next lo. stmts_code p tables r next lo els) in
      let m : ℕ = behind_test_at at lo t in
      let y : ℕ = m + length (made m) in
      let front = stands_front code at (head ++ out) after stands in
      let back = stands_back code at head out front in
      let ends : at + length head ≡ y = guarded_long at lo 1 t made in
      let both : length (head ++ out) ≡ length head + 1 = length-append head out in
      let whole : length ((head ++ out) ++ after) ≡ length (head ++ out) + length after = length-append (head ++ out) after in
      let jump_at : InstrAt code input line y (I.Jump jump) =
      subst (λ n. InstrAt code input line n (I.Jump jump)) ends (record { instr = back.0; on_line = back.1 }) in
      let here : next ≡ none_at at lo 1 t made = omega (arith, both, ends) in
      let end : exit ≡ next + length after = omega (arith, is, whole) in
      visited_behind code input line at exit now (ending p code input may lo r now)
      (on_first (ev_test p input below t v) (λ u _. visit_each (ev_stmts p input below body u))
      (λ _. ev_arms p input below rest v (ev_stmts p input below els))) q
      (arm_from may at lo exit t body (λ u. ev_arms p input below rest u (ev_stmts p input below els)) v now behind b
      (decides (none_at at lo 1 t made)) (stands_front code at head out front) runs
      (leads_then code input line 7 y jump exit jump_at leads)
      (λ t2 left.
      subst (λ n. From p code input line 8 n exit t2 (ending p code input may lo r now)
      (ev_arms p input below rest v (ev_stmts p input below els)) q) here
      (from_ending p code input may line 8 next exit lo lo2 r v now t2 (ev_arms p input below rest v (ev_stmts p input below els)) q
      (omega arith) behind left
      (others next (stands_back code at (head ++ out) after stands) exit end leads v t2 (begins p code input lo r now v t2 left)))))

  pub no_arms_if : (may : Bool) (at lo : ℕ) (els : Stmts) → ListRuns p tables code input below r line q may at lo els
      → StatementRuns p tables code input below r line q may at lo (If no_arms els)
  unfolding ev_stmts
  no_arms_if may at lo els runs stands v now b =
      let exit : ℕ = at + length (stmts_code p tables r at lo els) in
      let w = ending p code input may lo r now in
      as_runs p code input line at exit now w (node (ev_stmts p input below els v)) q
      (node_runs p code input line 8 at exit now w (ev_stmts p input below els v) q (omega arith)
      (runs_from p code input line at exit now w (ev_stmts p input below els v) q (runs stands v now b)))

  pub if_runs : (may : Bool) (at lo : ℕ) (t : Test) (body : Stmts) (rest : Arms) (els : Stmts) → own_end p r ≤ lo
      → ((none : ℕ) → Decided at lo none t (ev_test p input below t) q)
      → ((next : ℕ) → ListRuns p tables code input below r line q may next (behind_condition p r lo t) body)
      → ((jump next : ℕ) → ArmsRun may jump next (behind_stmts p r (behind_condition p r lo t) body) rest els)
      → StatementRuns p tables code input below r line q may at lo (If (more_arms t body rest) els)
  unfolding ev_stmts
  if_runs may at lo t body rest els behind decides runs others stands v now b =
      let made = λ (next : ℕ). stmts_code p tables r next (behind_condition p r lo t) body in
      let head : List LineInstr = guarded_code at lo 1 t made in
      let jump : ℕ = at + length head in
      let next : ℕ = at + length head + 1 in
      let lo2 : ℕ = behind_stmts p r (behind_condition p r lo t) body in
      let after : List LineInstr = arms_code p tables r line jump next lo2 rest (λ next lo. stmts_code p tables r next lo els) in
      let out : List LineInstr = own line (I.Jump (jump + 1 + length after) ∷ []) in
      let exit : ℕ = at + length (head ++ (out ++ after)) in
      let m : ℕ = behind_test_at at lo t in
      let y : ℕ = m + length (made m) in
      let back = stands_back code at head (out ++ after) stands in
      let ends : at + length head ≡ y = guarded_long at lo 1 t made in
      let whole : length (head ++ (out ++ after)) ≡ length head + suc (length after) = length-append head (out ++ after) in
      let end : jump + 1 + length after ≡ exit = omega (arith, whole) in
      let i : InstrAt code input line jump (I.Jump exit) =
      subst (λ n. InstrAt code input line jump (I.Jump n)) end (record { instr = back.0; on_line = back.1 }) in
      let here : next ≡ none_at at lo 1 t made = omega (arith, ends) in
      let last : exit ≡ next + length after = omega (arith, whole) in
      let w = ending p code input may lo r now in
      let arms : Events NoYield = on_first (ev_test p input below t v) (λ u _. visit_each (ev_stmts p input below body u))
      (λ _. ev_arms p input below rest v (ev_stmts p input below els)) in
      as_runs p code input line at exit now w (node (Visit arms)) q
      (node_runs p code input line 8 at exit now w (Visit arms) q (omega arith)
      (visited_behind code input line at exit now w arms q
      (arm_from may at lo exit t body (λ u. ev_arms p input below rest u (ev_stmts p input below els)) v now behind b
      (decides (none_at at lo 1 t made)) (stands_front code at head (out ++ after) stands) runs
      (subst (λ n. LeadsTo code input 8 n exit) ends (leads_by_jump code input line 8 jump exit (omega arith) i))
      (λ t2 left.
      subst (λ n. From p code input line 8 n exit t2 w (ev_arms p input below rest v (ev_stmts p input below els)) q) here
      (from_ending p code input may line 8 next exit lo lo2 r v now t2 (ev_arms p input below rest v (ev_stmts p input below els)) q
      (omega arith) behind left
      (others jump next back.2 exit last (leads_by_jump code input line 7 jump exit (omega arith) i) v t2
      (begins p code input lo r now v t2 left)))))))
