-- Each routine of a resolved program has as many lines as statements, and each arm of its CASEs has a label.
use Rattle.std.proofs.Common.{◌≡◌, ℕ, zero, suc, ◌+◌, ◌-◌, ◌<◌, List, [], ◌∷◌, length, get_or, Option, None, Some, refl, sym, ap, ◌∙◌}
use Rattle.std.proofs.Common.{subst, arith}
use Rattle.std.specs.Prelude.{map, option_map}
use Rattle.std.specs.List.{AllByRecursion}
use Rattle.alma_scan.specs.Tokens.{Lexeme}
use Rattle.alma_ir.specs.Tree as ir
use Rattle.alma_ir.specs.Tree.{Program, Routine, no_routine}
use Rattle.alma_ir.specs.Phrases.{stmts_phrases, expr_phrases}
use Rattle.alma_ir.specs.Checked.{EachRoutine, HasLines}
use Rattle.alma_ir.proofs.Each.{each_of_append}
use Rattle.alma_rules.specs.Numbered as tree
use Rattle.alma_rules.specs.Judgement.{BrokenRule, if_unbroken}
use Rattle.alma_rules.specs.Scene.{Scene, line_of}
use Rattle.alma_rules.specs.Places.{width, stmt_tokens, mark_stmts}
use Rattle.alma_rules.specs.Decls.{Frame, decl_routines, read_heading, read_decls}
use Rattle.alma_rules.specs.Modules.{judge_body, frame_of, with_shapes, judge_block, judge_bodies, judge_decl, module_frame, judge_module}
use Rattle.alma_rules.specs.Modules.{program_of, broken_rules, resolution, cons_routine, joined_routines, body_lines}
use Rattle.alma_resolved.specs.Frames.{KeepsFrames}
use Rattle.alma_resolved.proofs.Fits.{when_is}
use Rattle.alma_resolved.proofs.FramesKept.{parts}
use Rattle.alma_resolved.proofs.Tallies.{Tallies, tally_stmts, stmts_tallied}
use Rattle.alma_resolved.proofs.Counts.{Tally, tally_nil, tally_is}
use Rattle.alma_resolved.proofs.Counting.{stmts_count}

-- as many lines as statements among the phrases
abbrev pub RoutineCounts : Routine → Type 0
RoutineCounts x = Tally (length x.lines) (stmts_phrases x.body)

mapped : (s : Scene) (xs : List ℕ) → length (map (line_of s) xs) ≡ length xs
mapped s [] = refl
mapped s (x ∷ xs) = ap suc (mapped s xs)

body_counts : (g : Frame) (end : ℕ) (body : Option tree.Stmts) (y : ir.Stmts) → (judge_body g body).value ≡ Some y
    → Tally (length (body_lines g.scene end body)) (stmts_phrases y)
unfolding expr_phrases Tallies
body_counts g end None y e = let same : ir.no_stmts ≡ y = cc in subst (λ z. Tally 0 (stmts_phrases z)) same tally_nil
body_counts g end (Some body) y e =
    let at = end - width (mark_stmts body) in
    let many : length (map (line_of g.scene) (stmt_tokens (mark_stmts body at).marks)) ≡ tally_stmts body =
    mapped g.scene (stmt_tokens (mark_stmts body at).marks) ∙ stmts_tallied body at in
    tally_is (tally_stmts body) (length (body_lines g.scene end (Some body))) (sym many) (when_is y e (stmts_count g.scene g.slots body))

nothing_made : (rs : List Routine) → [] ≡ rs → AllByRecursion RoutineCounts rs
nothing_made [] e = tt
nothing_made (x ∷ xs) e = absurd (cc)

mutual
  unfolding judge_block

  block_counts : (f : Frame) (r : ℕ) (name : tree.Name) (outer end : ℕ) (x : tree.Block) (rs : List Routine)
      → (judge_block f r name outer end x).value ≡ Some rs → AllByRecursion RoutineCounts rs
  block_counts f r name outer end (tree.block n decls body) rs value =
      let v = parts (judge_bodies (read_decls f r decls).scene r decls).value (judge_body (read_decls f r decls) body).value
      (cons_routine (read_decls f r decls) name outer (judge_body (read_decls f r decls) body).next
      (body_lines (read_decls f r decls).scene end body)) rs value in
      subst (λ ys. AllByRecursion RoutineCounts ys) v.is (
        body_counts (read_decls f r decls) end body v.second v.has_second,
        bodies_counts (read_decls f r decls).scene r decls v.first v.has_first,
      )

  bodies_counts : (s : Scene) (r : ℕ) (x : tree.DeclTail) (rs : List Routine) → (judge_bodies s r x).value ≡ Some rs
      → AllByRecursion RoutineCounts rs
  bodies_counts s r tree.no_decl rs value = nothing_made rs (cc)
  bodies_counts s r (tree.more_decl d rest) rs value =
      let v = parts (judge_decl s r d).value (judge_bodies (with_shapes s (judge_decl s r d).shapes) (r + decl_routines d) rest).value
      joined_routines rs value in
      subst (λ ys. AllByRecursion RoutineCounts ys) v.is
      (each_of_append RoutineCounts v.first v.second (decl_counts s r d v.first v.has_first)
      (bodies_counts (with_shapes s (judge_decl s r d).shapes) (r + decl_routines d) rest v.second v.has_second))

  decl_counts : (s : Scene) (r : ℕ) (d : tree.Decl) (rs : List Routine) → (judge_decl s r d).value ≡ Some rs
      → AllByRecursion RoutineCounts rs
  decl_counts s r (tree.const_decl n xs) rs value = nothing_made rs (cc)
  decl_counts s r (tree.type_decl n xs) rs value = nothing_made rs (cc)
  decl_counts s r (tree.var_decl n xs) rs value = nothing_made rs (cc)
  decl_counts s r (tree.procedure n name params result b end_name) rs value =
      block_counts (frame_of (read_heading s r n params result b)) (r + 1) name s.routine (end_name.token - 1) b rs value

each_in : (P : Routine → Type 0) (xs : List Routine) (i : ℕ) → AllByRecursion P xs → i < length xs → P (get_or xs i no_routine)
each_in P [] i h lt = absurd (omega (arith, lt))
each_in P (x ∷ xs) zero h lt = h.0
each_in P (x ∷ xs) (suc i) h lt = each_in P xs i h.1 (omega (arith, lt))

pub program_counts : (source : List ℕ) (tokens : List Lexeme) (m : tree.Module) (p : Program) → resolution source tokens m ≡ Some p
    → AllByRecursion RoutineCounts p.routines
program_counts source tokens m p e =
    by (broken_rules source tokens m) (judge_module source tokens m).value e
    (λ rs i. block_counts (module_frame source tokens m) 1 m.name 0 (m.end_name.token - 1) m.block rs i)
  where
    by : (fs : List BrokenRule) (o : Option (List Routine)) → if_unbroken fs (option_map (program_of source tokens m) o) ≡ Some p
        → ((rs : List Routine) → o ≡ Some rs → AllByRecursion RoutineCounts rs) → AllByRecursion RoutineCounts p.routines
    by [] None e f = absurd (cc)
    by [] (Some rs) e f = let same : program_of source tokens m rs ≡ p = cc in
        subst (λ (x : Program). AllByRecursion RoutineCounts x.routines) same (f rs refl)
    by (b ∷ bs) o e f = absurd (cc)

-- as many lines as statements
pub program_lines : (source : List ℕ) (tokens : List Lexeme) (m : tree.Module) (p : Program) → KeepsFrames p
    → resolution source tokens m ≡ Some p → EachRoutine p (λ r routine. HasLines routine)
program_lines source tokens m p all e r lt = record {
  line = (all.routines r lt).line;
  count = sym (each_in RoutineCounts p.routines r (program_counts source tokens m p e) lt).count;
  lines = (all.routines r lt).lines;
}
