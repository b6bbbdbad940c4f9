-- From the template of EITHER to its row: what stands at an address runs as the meaning says, where its lists do.
use Rattle.std.proofs.Common.{◌≡◌, ◌≤◌, ℕ, suc, ◌+◌, List, [], ◌∷◌, ◌++◌, length, Some, refl, sym, ap, ◌∙◌, subst, arith}
use Rattle.std.proofs.lemmas.List.{length-append}
use Rattle.alma_code.specs.declared.instr.Instr.TheVariants as I
use Rattle.alma_code.specs.Picture.{PlainFrame}
use Rattle.alma_code.specs.Plain.{PlainCode}
use Rattle.alma_ir.specs.Tree.{Stmts, Branches, Program, no_branches, more_branches}
use Rattle.alma_mean.specs.Store.{Store}
use Rattle.alma_mean.specs.Events.{Events, NoYield, Fail, join, visit_each, node}
use Rattle.alma_mean.specs.Meaning.{Level, ev_stmts, ev_branches}
use Rattle.alma_lower_templates.specs.LineInstr.{LineInstr, own}
use Rattle.alma_lower_templates.specs.Tables.{Tables}
use Rattle.alma_lower_templates.specs.Slots.{behind_stmts, stmts_slots, branches_slots}
use Rattle.alma_lower_templates.specs.Pieces.{branch_code}
use Rattle.alma_lower_templates.specs.Templates.{stmts_code, either_code, branches_code}
use Rattle.alma_lower_implements.proofs.Frames.{HasSlots}
use Rattle.alma_lower_implements.proofs.ExprRows.{slots_first, slots_behind}
use Rattle.alma_lower_implements.proofs.Steps.{InstrAt}
use Rattle.alma_lower_templates.specs.Stands.{Stands}
use Rattle.alma_lower_templates.proofs.Stands.{stands_front, stands_back}
use Rattle.alma_lower_implements.proofs.Ways.{Ways, Runs, Later, Visited, LeadsTo, leads_nowhere, leads_by_jump, leads_then, visited_later}
use Rattle.alma_lower_implements.proofs.EitherRow.{branch_row, last_branch_row, visited_inside, node_row}

module _ (p : Program) (tables : Tables) (r : ℕ) (code : PlainCode) (input : List ℕ) (below : Level) (line : ℕ) (v : Store)
    (now : List PlainFrame) (w : Ways NoYield) (q : ℕ) (least : ℕ) where
  -- a list of statements that stands somewhere, with its slots, runs as the meaning says
  abbrev pub ListRuns : Stmts → Type 0
  ListRuns body = (at lo : ℕ) → least ≤ lo → HasSlots p code r lo (stmts_slots p r body) → Stands code at (stmts_code p tables r at lo body)
      → Runs code input line at (at + length (stmts_code p tables r at lo body)) now w (ev_stmts p input below body v) q

  -- each list of the branches
  abbrev pub ListsRun : Branches → Type 0
  ListsRun no_branches = Unit {0}
  ListsRun (more_branches body rest) = ListRuns body × ListsRun rest

  -- a branch that is not the last: its choice entry, its list and its jump
  chosen_goes : (body : Stmts) (at lo next exit : ℕ) (rest : Events NoYield) → ListRuns body → least ≤ lo
      → HasSlots p code r lo (stmts_slots p r body) → next ≡ at + 1 + length (stmts_code p tables r (at + 1) lo body) + 1
      → Stands code at (branch_code line (at + 1) (stmts_code p tables r (at + 1) lo body))
      → LeadsTo code input 8 (at + 1 + length (stmts_code p tables r (at + 1) lo body)) exit
      → Later code input line next exit now w rest q
      → Visited code input line at exit now w (join (visit_each (ev_stmts p input below body v)) rest) q
  chosen_goes body at lo next exit rest list le slots is stands leads later =
      branch_row code input line at (at + 1 + length (stmts_code p tables r (at + 1) lo body)) next exit now w
      (ev_stmts p input below body v) rest q (record { instr = stands.0 ∙ ap (λ n. Some (I.Choose n)) (sym is); on_line = stands.1 })
      leads (list (at + 1) lo le slots stands.2) later

  branches_goes : (body : Stmts) (rest : Branches) (jump at lo exit : ℕ) → ListRuns body → ListsRun rest → least ≤ lo
      → HasSlots p code r lo (branches_slots p r (more_branches body rest))
      → Stands code at (branches_code p tables r line jump at lo (more_branches body rest)) → LeadsTo code input 7 jump exit
      → exit ≡ at + length (branches_code p tables r line jump at lo (more_branches body rest))
      → Visited code input line at exit now w (join (visit_each (ev_stmts p input below body v)) (ev_branches p input below rest v)) q
  unfolding ev_stmts
  branches_goes body no_branches jump at lo exit list others le slots stands leads is =
      last_branch_row code input line at (at + length (stmts_code p tables r at lo body)) exit now w (ev_stmts p input below body v) q
      (subst (λ n. LeadsTo code input 8 (at + length (stmts_code p tables r at lo body)) n) (sym is)
      (leads_nowhere code input 8 (at + length (stmts_code p tables r at lo body))))
      (list at lo le (slots_first p code input r lo (stmts_slots p r body) [] slots) stands)
  branches_goes body (more_branches body' rest) jump at lo exit list others le slots stands leads is =
      let inner : List LineInstr = stmts_code p tables r (at + 1) lo body in
      let head : List LineInstr = branch_code line (at + 1) inner in
      let out : List LineInstr = own line (I.Jump jump ∷ []) in
      let next : ℕ = at + length (head ++ out) in
      let after : List LineInstr = branches_code p tables r line jump next (behind_stmts p r lo body) (more_branches body' rest) in
      let both : length (head ++ out) ≡ length head + 1 = length-append head out in
      let whole : length ((head ++ out) ++ after) ≡ length (head ++ out) + length after = length-append (head ++ out) after in
      let front : Stands code at (head ++ out) = stands_front code at (head ++ out) after stands in
      let at_out : at + length head ≡ at + 1 + length inner = omega arith in
      let there = stands_back code at head out front in
      let jumps_out : InstrAt code input line (at + 1 + length inner) (I.Jump jump) =
      subst (λ n. InstrAt code input line n (I.Jump jump)) at_out (record { instr = there.0; on_line = there.1 }) in
      let here : next ≡ at + 1 + length inner + 1 = omega (arith, both) in
      let end : exit ≡ next + length after = omega (arith, is, whole) in
      chosen_goes body at lo next exit (ev_branches p input below (more_branches body' rest) v) list le
      (slots_first p code input r lo (stmts_slots p r body) (branches_slots p r (more_branches body' rest)) slots) here
      (stands_front code at head out front)
      (leads_then code input line 7 (at + 1 + length inner) jump exit jumps_out leads)
      (visited_later code input line next exit now w (join (visit_each (ev_stmts p input below body' v)) (ev_branches p input below rest v))
      q
      (branches_goes body' rest jump next (behind_stmts p r lo body) exit others.0 others.1 (omega (arith, le))
      (slots_behind p code input r lo (stmts_slots p r body) (branches_slots p r (more_branches body' rest)) slots)
      (stands_back code at (head ++ out) after stands) leads end))

  -- the whole statement
  pub either_runs : (b : Branches) (at lo : ℕ) → ListsRun b → least ≤ lo → HasSlots p code r lo (branches_slots p r b)
      → (b ≡ no_branches → ⊥) → Stands code at (either_code p tables r line at lo b)
      → Runs code input line at (at + length (either_code p tables r line at lo b)) now w (node (ev_branches p input below b v)) q
  unfolding ev_stmts
  either_runs no_branches at lo lists le slots some stands = absurd (some refl)
  either_runs (more_branches body no_branches) at lo lists le slots some stands =
      let list = lists.0 in
      let exit : ℕ = at + length (stmts_code p tables r at lo body) in
      node_row code input line at exit now w (join (node (ev_stmts p input below body v)) Fail) q
      (visited_inside code input line at exit now w (join (visit_each (ev_stmts p input below body v)) Fail) q
      (last_branch_row code input line at exit exit now w (ev_stmts p input below body v) q (leads_nowhere code input 8 exit)
      (list at lo le (slots_first p code input r lo (stmts_slots p r body) [] slots) stands)))
  either_runs (more_branches body (more_branches body' rest)) at lo lists le slots some stands =
      let list = lists.0 in
      let others = lists.1 in
      let inner : List LineInstr = stmts_code p tables r (at + 1) lo body in
      let head : List LineInstr = branch_code line (at + 1) inner in
      let jump : ℕ = at + length head in
      let next : ℕ = at + length head + 1 in
      let after : List LineInstr = branches_code p tables r line jump next (behind_stmts p r lo body) (more_branches body' rest) in
      let out : List LineInstr = own line (I.Jump (jump + 1 + length after) ∷ []) in
      let exit : ℕ = at + length (head ++ (out ++ after)) in
      let whole : length (head ++ (out ++ after)) ≡ length head + suc (length after) = length-append head (out ++ after) in
      let behind : Stands code (at + length head) (out ++ after) = stands_back code at head (out ++ after) stands in
      let at_out : at + length head ≡ at + 1 + length inner = omega arith in
      let end : jump + 1 + length after ≡ exit = omega (arith, whole) in
      let leads : LeadsTo code input 7 jump exit =
      subst (λ n. LeadsTo code input 7 jump n) end
      (leads_by_jump code input line 7 jump (jump + 1 + length after) (omega arith) (record { instr = behind.0; on_line = behind.1 }))
      in
      let leads_out : LeadsTo code input 8 (at + 1 + length inner) exit =
      subst (λ n. LeadsTo code input 8 n exit) at_out
      (subst (λ n. LeadsTo code input 8 jump n) end
      (leads_by_jump code input line 8 jump (jump + 1 + length after) (omega arith) (record { instr = behind.0; on_line = behind.1 })))
      in
      let last : exit ≡ next + length after = omega (arith, whole) in
      let here : next ≡ at + 1 + length inner + 1 = omega arith in
      node_row code input line at exit now w (join (node (ev_stmts p input below body v))
      (ev_branches p input below (more_branches body' rest) v)) q
      (visited_inside code input line at exit now w
      (join (visit_each (ev_stmts p input below body v)) (ev_branches p input below (more_branches body' rest) v)) q
      (chosen_goes body at lo next exit (ev_branches p input below (more_branches body' rest) v) list le
      (slots_first p code input r lo (stmts_slots p r body) (branches_slots p r (more_branches body' rest)) slots) here
      (stands_front code at head (out ++ after) stands) leads_out
      (visited_later code input line next exit now w (join (visit_each (ev_stmts p input below body' v)) (ev_branches p input below rest v))
      q
      (branches_goes body' rest jump next (behind_stmts p r lo body) exit others.0 others.1 (omega (arith, le))
      (slots_behind p code input r lo (stmts_slots p r body) (branches_slots p r (more_branches body' rest)) slots) behind.2 leads
      last))))
