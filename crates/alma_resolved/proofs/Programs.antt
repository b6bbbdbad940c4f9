-- A resolved program fits: each of its routines does, and its variables stand in the frame of routine 0.
use Rattle.std.proofs.Common.{◌≡◌, ℕ, zero, suc, ◌+◌, ◌-◌, ◌<◌, ◌≤◌, Bool, true, false, List, [], ◌∷◌, length, get_or, Option, None, Some}
use Rattle.std.proofs.Common.{refl, sym, ap, ◌∙◌, subst, arith}
use Rattle.std.specs.Prelude.{nat_lt, sum_by, option_map}
use Rattle.std.specs.List.{AllByRecursion}
use Rattle.std.proofs.lemmas.Bool.{ltb-true, ltb-false}
use Rattle.std.proofs.lemmas.List.{length-replicate}
use Rattle.alma_base.specs.Choice.{if_true}
use Rattle.alma_scan.specs.Tokens.{Lexeme}
use Rattle.alma_ir.specs.Tree.{Program, Routine, Global, no_routine, routine_at}
use Rattle.alma_ir.specs.Checked.{AreLaidOut, param_slots, IsOrdered}
use Rattle.alma_ir.proofs.Each.{each_of_append, each_follows}
use Rattle.alma_rules.specs.Numbered as tree
use Rattle.alma_rules.specs.Judgement.{BrokenRule, broken_at, if_unbroken}
use Rattle.alma_rules.specs.Scene.{Heading, nothing, cells, text_at, is_first}
use Rattle.alma_rules.specs.Types.{redeclaration_rules, read_type, read_constant, all_names, last_token}
use Rattle.alma_rules.specs.Places.{width, mark_type}
use Rattle.alma_rules.specs.Decls.{Frame, with_faults, with_scene, within_limit, constant_in, read_consts, type_in, read_types}
use Rattle.alma_rules.specs.Decls.{with_variable}
use Rattle.alma_rules.specs.Decls.{variable_in, variables_in, variables_of, read_vars, read_decl, read_decls, block_routines, decl_routines}
use Rattle.alma_rules.specs.Modules.{first_scene, module_frame, judge_block, judge_module, block_variables, program_of, broken_rules}
use Rattle.alma_rules.specs.Modules.{resolution}
use Rattle.alma_rules.proofs.Sound.{nil_left}
use Rattle.alma_rules.proofs.Limited.{limited_case}
use Rattle.alma_resolved.specs.Stand.{BlockStands}
use Rattle.alma_resolved.specs.Frames.{KeepsFrames}
use Rattle.alma_resolved.specs.Scenes.{ReturnsSimple}
use Rattle.alma_resolved.proofs.DeclsSound.{block_headings, block_routine, block_returns, IsProcIn}
use Rattle.alma_resolved.proofs.ModuleSound.{block_opened, resolved_unbroken}
use Rattle.alma_resolved.proofs.FramesKept.{program_keeps_frames}
use Rattle.alma_resolved.specs.Whole.{place, RoutineFits, ProgramFits}
use Rattle.alma_resolved.proofs.Entries.{RoutineKeeps}
use Rattle.alma_resolved.proofs.FramesKeep.{FrameKeeps}
use Rattle.alma_resolved.proofs.HeadScenes.{block_inside}
use Rattle.alma_resolved.proofs.BlocksMade.{numbered_all, block_count, block_procs}
use Rattle.alma_resolved.proofs.Entering.{module_scene}
use Rattle.alma_resolved.proofs.BlocksKeep.{block_ends, EndsAt, ends_all, ends_count, each_at, Good, owner_self, block_good}

-- ---- the variables of the module

-- the variables so far stand in the frame
abbrev VarsEnd : Frame → Type 0
VarsEnd f = AllByRecursion (λ g. g.slot + g.cells ≤ f.slots) f.variables

consts_end : (f : Frame) (xs : List tree.ConstEntry) → VarsEnd f → VarsEnd (read_consts f xs)
consts_end f [] h = h
consts_end f (x ∷ xs) h = consts_end (constant_in f x (read_constant f.scene x.value)) xs h

types_end : (f : Frame) (xs : List tree.TypeEntry) → VarsEnd f → VarsEnd (read_types f xs)
types_end f [] h = h
types_end f (x ∷ xs) h = types_end (type_in f x (read_type f.scene x.type_node)) xs h

variable_ends : (f : Frame) (from : ℕ) (o : Option ℕ) (name : tree.Name) → VarsEnd f → VarsEnd (variable_in f from o name)
variable_ends f from None name h = h
variable_ends f from (Some shape) name h = by (is_first f.scene name)
  where
    taken : VarsEnd (with_variable f name from shape)
    taken =
        each_of_append (λ (g : Global). g.slot + g.cells ≤ f.slots + cells f.scene shape) f.variables
        (record { name = text_at f.scene name.token; slot = f.slots; cells = cells f.scene shape } ∷ [])
        (each_follows (λ (g : Global). g.slot + g.cells ≤ f.slots) (λ (g : Global). g.slot + g.cells ≤ f.slots + cells f.scene shape)
        (λ g k. omega (arith, k)) f.variables h)
        (omega arith, tt)

    by : (b : Bool) → VarsEnd (if_true b (λ u. within_limit name f (with_variable f name from shape))
        (λ u. with_faults f (broken_at name.node (redeclaration_rules f.scene name))))
    by true = limited_case (λ x. VarsEnd x) name f (with_variable f name from shape) (λ le. taken) h
    by false = h

variables_end : (f : Frame) (from : ℕ) (o : Option ℕ) (xs : List tree.Name) → VarsEnd f → VarsEnd (variables_in f from o xs)
variables_end f from o [] h = h
variables_end f from o (x ∷ xs) h = variables_end (variable_in f from o x) from o xs (variable_ends f from o x h)

vars_end : (f : Frame) (xs : List tree.VarEntry) → VarsEnd f → VarsEnd (read_vars f xs)
vars_end f [] h = h
vars_end f (x ∷ xs) h =
    vars_end (variables_of f x (read_type f.scene x.type_node)) xs
    (variables_end (with_scene f (read_type f.scene x.type_node).scene)
    (last_token x.names.first x.names.more + 3 + width (mark_type x.type_node)) (read_type f.scene x.type_node).value
    (all_names x.names) h)

decl_ends_in : (f : Frame) (r : ℕ) (d : tree.Decl) → VarsEnd f → VarsEnd (read_decl f r d)
decl_ends_in f r (tree.const_decl n xs) h = consts_end f xs h
decl_ends_in f r (tree.type_decl n xs) h = types_end f xs h
decl_ends_in f r (tree.var_decl n xs) h = vars_end f xs h
decl_ends_in f r (tree.procedure n name params result b end_name) h = h

decls_end : (f : Frame) (r : ℕ) (x : tree.DeclTail) → VarsEnd f → VarsEnd (read_decls f r x)
decls_end f r tree.no_decl h = h
decls_end f r (tree.more_decl d rest) h = decls_end (read_decl f r d) (r + decl_routines d) rest (decl_ends_in f r d h)

globals_end : (ends : ℕ → ℕ) (f : Frame) (r : ℕ) (x : tree.Block) → VarsEnd f → EndsAt ends 0 (block_ends f r x)
    → AllByRecursion (λ g. g.slot + g.cells ≤ ends 0) (block_variables f r x)
unfolding block_ends
globals_end ends f r (tree.block n decls body) h e =
    subst (λ m. AllByRecursion (λ (g : Global). g.slot + g.cells ≤ m) (read_decls f r decls).variables) (sym e.0) (decls_end f r decls h)

-- ---- the program of these routines

past_end : (xs : List ℕ) (q : ℕ) → length xs ≤ q → get_or xs q 0 ≡ 0
past_end [] q le = refl
past_end (x ∷ xs) zero le = absurd (omega (arith, le))
past_end (x ∷ xs) (suc q) le = past_end xs q (omega (arith, le))

module_room : (source : List ℕ) (tokens : List Lexeme) (m : tree.Module)
    → 1 + block_routines m.block ≤ length (first_scene source tokens m).headings
module_room source tokens m = let none : Option Heading = None in omega (arith, length-replicate (1 + block_routines m.block) none)

-- where each frame ends
abbrev ends_of : List ℕ → List Lexeme → tree.Module → ℕ → ℕ
ends_of source tokens m q = get_or (block_ends (module_frame source tokens m) 1 m.block) q 0

made_good : (source : List ℕ) (tokens : List Lexeme) (m : tree.Module) (rs : List Routine) → BlockStands m.block
    → broken_rules source tokens m ≡ [] → (judge_module source tokens m).value ≡ Some rs → KeepsFrames (program_of source tokens m rs)
    → Good (program_of source tokens m rs) (ends_of source tokens m) 0 rs
    (judge_block (module_frame source tokens m) 1 m.name 0 (m.end_name.token - 1) m.block).shapes
made_good source tokens m rs stand e value all =
    let p = program_of source tokens m rs in
    let ends = ends_of source tokens m in
    let f = module_frame source tokens m in
    let headings = block_headings (first_scene source tokens m) 0 nothing [] m.block in
    let quiet = nil_left _ _ e in
    let numbered = numbered_all p 0 [] rs refl refl in
    let number = block_routine (first_scene source tokens m) 0 nothing [] m.block in
    let procs = block_procs p f 1 0 m.name 0 (m.end_name.token - 1) m.block (first_scene source tokens m).headings rs headings quiet
    (block_opened source tokens m m.block) stand (module_room source tokens m) (omega arith) number value numbered in
    let first = all.routines 0 all.body.0 in
    let level : (routine_at p 0).level ≡ 0 = (first.nested.body refl).0 in
    let none : (routine_at p 0).params ≡ [] = all.body_takes_nothing.0 in
    let proc_keeps : (q : ℕ) → IsProcIn 1 m.block q → RoutineKeeps (place p ends 0) 0 1 q = λ q i.
    record {
      some = (procs q i).some;
      exists = (procs q i).exists;
      outer = (procs q i).outer ∙ sym (owner_self (place p ends 0) 0);
      level = (all.routines q (procs q i).exists).nested.above (procs q i).some
          ∙ (ap (λ j. suc (routine_at p j).level) (procs q i).outer ∙ ap suc level);
    } in
    let frame : FrameKeeps (place p ends 0) 0 f = record {
      scene = module_scene (place p ends 0) source tokens m m.block proc_keeps;
      laid = subst (AreLaidOut 0) (sym none) tt;
      params = omega (arith, ap (λ qs. sum_by param_slots qs) none);
      position = λ i. omega arith;
      number = λ i. refl;
    } in
    let simple : ReturnsSimple f.scene f.scene.returns =
    subst (λ y. ReturnsSimple f.scene y) (sym (block_returns (first_scene source tokens m) 0 nothing [] m.block)) tt in
    block_good p ends all f 1 0 0 m.name 0 (m.end_name.token - 1) m.block (first_scene source tokens m).headings rs headings quiet
    (block_opened source tokens m m.block) stand (module_room source tokens m) (omega arith) frame
    (record { level = level; outside = λ i. refl; module_level = λ i. refl }) number
    (block_inside (first_scene source tokens m) 0 nothing [] m.block) simple
    (subst (λ qs. AllByRecursion (λ q. IsOrdered q.range) qs) (sym none) tt) (omega arith) value numbered
    (ends_all ends 0 [] (block_ends f 1 m.block) (block_ends f 1 m.block) refl (λ q. refl) refl)

made_fits : (source : List ℕ) (tokens : List Lexeme) (m : tree.Module) (rs : List Routine) → BlockStands m.block
    → broken_rules source tokens m ≡ [] → (judge_module source tokens m).value ≡ Some rs → KeepsFrames (program_of source tokens m rs)
    → ProgramFits (program_of source tokens m rs)
made_fits source tokens m rs stand e value all =
    record { ends = ends_of source tokens m; within = within; routines = routines; globals = globals }
  where
    routines : (i : ℕ) → i < length rs → RoutineFits (program_of source tokens m rs) (ends_of source tokens m) i (get_or rs i no_routine)
    routines i lt =
        subst (λ j. RoutineFits (program_of source tokens m rs) (ends_of source tokens m) j (get_or rs i no_routine)) (omega arith)
        (each_at (RoutineFits (program_of source tokens m rs) (ends_of source tokens m)) 0 i rs
        (made_good source tokens m rs stand e value all).each lt)

    many : length (block_ends (module_frame source tokens m) 1 m.block) ≡ length rs
    many = ends_count (module_frame source tokens m) 1 m.block
        ∙ sym (block_count (module_frame source tokens m) 1 m.name 0 (m.end_name.token - 1) m.block rs value)

    within : (q : ℕ) → ends_of source tokens m q ≤ (get_or rs q no_routine).slots
    within q = by (nat_lt q (length rs)) refl
      where
        by : (b : Bool) → nat_lt q (length rs) ≡ b → ends_of source tokens m q ≤ (get_or rs q no_routine).slots
        by true i = (routines q (ltb-true q (length rs) i)).body.le
        by false i = omega (
          arith,
          past_end (block_ends (module_frame source tokens m) 1 m.block) q
              (omega (arith, many, ltb-false q (length rs) i)),
        )

    globals : AllByRecursion (λ g. g.slot + g.cells ≤ ends_of source tokens m 0) (block_variables (module_frame source tokens m) 1 m.block)
    globals =
        globals_end (ends_of source tokens m) (module_frame source tokens m) 1 m.block tt
        (ends_all (ends_of source tokens m) 0 [] (block_ends (module_frame source tokens m) 1 m.block)
        (block_ends (module_frame source tokens m) 1 m.block) refl (λ q. refl) refl)

pub program_fits : (source : List ℕ) (tokens : List Lexeme) (m : tree.Module) (p : Program) → BlockStands m.block
    → resolution source tokens m ≡ Some p → ProgramFits p
program_fits source tokens m p stand e =
    by (broken_rules source tokens m) (judge_module source tokens m).value (resolved_unbroken source tokens m p e) e
    (program_keeps_frames source tokens m p stand e)
    (λ rs i all. made_fits source tokens m rs stand (resolved_unbroken source tokens m p e) i all)
  where
    by : (fs : List BrokenRule) (o : Option (List Routine)) → fs ≡ [] → if_unbroken fs (option_map (program_of source tokens m) o) ≡ Some p
        → KeepsFrames p
        → ((rs : List Routine) → o ≡ Some rs → KeepsFrames (program_of source tokens m rs) → ProgramFits (program_of source tokens m rs))
        → ProgramFits p
    by [] None q e all f = absurd (cc)
    by [] (Some rs) q e all f =
        let same : program_of source tokens m rs ≡ p = cc in
        subst ProgramFits same (f rs refl (subst KeepsFrames (sym same) all))
    by (b ∷ bs) o q e all f = absurd (cc)
