-- The variables of the module are number slots of routine 0.
use Rattle.std.proofs.Common.{◌≡◌, ℕ, ◌+◌, ◌-◌, ◌<◌, ◌≤◌, Bool, true, false, List, [], ◌∷◌, get_or, Option, None, Some, refl, sym, subst}
use Rattle.std.proofs.Common.{arith}
use Rattle.std.specs.Prelude.{option_map}
use Rattle.std.specs.List.{AllByRecursion}
use Rattle.alma_base.specs.Choice.{if_true}
use Rattle.alma_scan.specs.Tokens.{Lexeme}
use Rattle.alma_ir.specs.Tree.{Program, Routine, Global, no_routine, routine_at}
use Rattle.alma_ir.specs.Checked.{IsGlobal, HoldsPlace, IsOutside}
use Rattle.alma_ir.proofs.Each.{each_of_append, each_follows}
use Rattle.alma_rules.specs.Numbered as tree
use Rattle.alma_rules.specs.Judgement.{BrokenRule, broken_at, if_unbroken}
use Rattle.alma_rules.specs.Scene.{cells, text_at, is_first}
use Rattle.alma_rules.specs.Types.{redeclaration_rules, read_type, read_constant, all_names, last_token}
use Rattle.alma_rules.specs.Places.{width, mark_type}
use Rattle.alma_rules.specs.Decls.{Frame, with_faults, with_scene, within_limit, constant_in, read_consts, type_in, read_types}
use Rattle.alma_rules.specs.Decls.{with_variable}
use Rattle.alma_rules.specs.Decls.{variable_in, variables_in, variables_of, read_vars, read_decl, read_decls, decl_routines}
use Rattle.alma_rules.specs.Modules.{judge_body, judge_block, judge_bodies, judge_module, cons_routine, body_lines, module_frame}
use Rattle.alma_rules.specs.Modules.{block_variables, program_of, broken_rules, resolution}
use Rattle.alma_rules.proofs.Limited.{limited_case}
use Rattle.alma_resolved.specs.Stand.{BlockStands}
use Rattle.alma_resolved.specs.Frames.{KeepsFrames}
use Rattle.alma_resolved.proofs.FramesKept.{parts, body_up, program_keeps_frames}

-- the variables lie in the frame, behind slot 0
record VarsLie (f : Frame) : Type 0 where
  above : 0 < f.slots
  each : AllByRecursion (λ g. (0 < g.slot) × (g.slot + g.cells ≤ f.slots)) f.variables

consts_lie : (f : Frame) (xs : List tree.ConstEntry) → VarsLie f → VarsLie (read_consts f xs)
consts_lie f [] h = h
consts_lie f (x ∷ xs) h = consts_lie (constant_in f x (read_constant f.scene x.value)) xs (record { above = h.above; each = h.each })

types_lie : (f : Frame) (xs : List tree.TypeEntry) → VarsLie f → VarsLie (read_types f xs)
types_lie f [] h = h
types_lie f (x ∷ xs) h = types_lie (type_in f x (read_type f.scene x.type_node)) xs (record { above = h.above; each = h.each })

variable_lies : (f : Frame) (from : ℕ) (o : Option ℕ) (name : tree.Name) → VarsLie f → VarsLie (variable_in f from o name)
variable_lies f from None name h = record { above = h.above; each = h.each }
variable_lies f from (Some shape) name h = by (is_first f.scene name)
  where
    more : (g : Global) → (0 < g.slot) × (g.slot + g.cells ≤ f.slots) → (0 < g.slot) × (g.slot + g.cells ≤ f.slots + cells f.scene shape)
    more g k = (k.0, omega (arith, k.1))

    taken : VarsLie (with_variable f name from shape)
    taken = record {
      above = omega (arith, h.above);
      each = each_of_append (λ (g : Global). (0 < g.slot) × (g.slot + g.cells ≤ f.slots + cells f.scene shape)) f.variables
          (record { name = text_at f.scene name.token; slot = f.slots; cells = cells f.scene shape } ∷ [])
          (each_follows (λ (g : Global). (0 < g.slot) × (g.slot + g.cells ≤ f.slots))
          (λ (g : Global). (0 < g.slot) × (g.slot + g.cells ≤ f.slots + cells f.scene shape)) more f.variables h.each)
          ((h.above, omega arith), tt);
    }

    by : (c : Bool) → VarsLie (if_true c (λ u. within_limit name f (with_variable f name from shape))
        (λ u. with_faults f (broken_at name.node (redeclaration_rules f.scene name))))
    by true = limited_case VarsLie name f (with_variable f name from shape) (λ le. taken) (record { above = h.above; each = h.each })
    by false = record { above = h.above; each = h.each }

variables_lie : (f : Frame) (from : ℕ) (o : Option ℕ) (xs : List tree.Name) → VarsLie f → VarsLie (variables_in f from o xs)
variables_lie f from o [] h = h
variables_lie f from o (x ∷ xs) h = variables_lie (variable_in f from o x) from o xs (variable_lies f from o x h)

vars_lie : (f : Frame) (xs : List tree.VarEntry) → VarsLie f → VarsLie (read_vars f xs)
vars_lie f [] h = h
vars_lie f (x ∷ xs) h =
    let v = variables_lie (with_scene f (read_type f.scene x.type_node).scene)
    (last_token x.names.first x.names.more + 3 + width (mark_type x.type_node)) (read_type f.scene x.type_node).value
    (all_names x.names) (record { above = h.above; each = h.each }) in
    vars_lie (variables_of f x (read_type f.scene x.type_node)) xs (record { above = v.above; each = v.each })

decl_lies : (f : Frame) (r : ℕ) (d : tree.Decl) → VarsLie f → VarsLie (read_decl f r d)
decl_lies f r (tree.const_decl n xs) h = consts_lie f xs h
decl_lies f r (tree.type_decl n xs) h = types_lie f xs h
decl_lies f r (tree.var_decl n xs) h = vars_lie f xs h
decl_lies f r (tree.procedure n name params result b end_name) h = record { above = h.above; each = h.each }

decls_lie : (f : Frame) (r : ℕ) (x : tree.DeclTail) → VarsLie f → VarsLie (read_decls f r x)
decls_lie f r tree.no_decl h = h
decls_lie f r (tree.more_decl d rest) h = decls_lie (read_decl f r d) (r + decl_routines d) rest (decl_lies f r d h)

-- the variables of a block lie in the slots of its routine, the first
abbrev Lie : List Global → Routine → Type 0
Lie gs x = AllByRecursion (λ g. (0 < g.slot) × (g.slot + g.cells ≤ x.slots)) gs

block_lies : (f : Frame) (r : ℕ) (name : tree.Name) (outer end : ℕ) (x : tree.Block) (rs : List Routine) → VarsLie f
    → (judge_block f r name outer end x).value ≡ Some rs → Lie (block_variables f r x) (get_or rs 0 no_routine)
unfolding judge_block
block_lies f r name outer end (tree.block n decls body) rs h value =
    let v = parts (judge_bodies (read_decls f r decls).scene r decls).value (judge_body (read_decls f r decls) body).value
    (cons_routine (read_decls f r decls) name outer (judge_body (read_decls f r decls) body).next
    (body_lines (read_decls f r decls).scene end body)) rs value in
    let up : (read_decls f r decls).slots ≤ (judge_body (read_decls f r decls) body).next = body_up (read_decls f r decls) body in
    subst (λ ys. Lie (read_decls f r decls).variables (get_or ys 0 no_routine)) v.is
    (each_follows (λ (g : Global). (0 < g.slot) × (g.slot + g.cells ≤ (read_decls f r decls).slots))
    (λ (g : Global). (0 < g.slot) × (g.slot + g.cells ≤ (judge_body (read_decls f r decls) body).next))
    (λ g k. (k.0, omega (arith, k.1, up))) (read_decls f r decls).variables (decls_lie f r decls h).each)

one_global : (p : Program) (g : Global) → (routine_at p 0).params ≡ [] → (0 < g.slot) × (g.slot + g.cells ≤ (routine_at p 0).slots)
    → IsGlobal p g
one_global p g none h = record {
  slots = record {
    exist = h.1;
    kinds = subst (λ qs. AllByRecursion (λ q. HoldsPlace q.kind → IsOutside g.slot g.cells q.slot) qs)
        (sym none) tt;
  };
  position = h.0;
}

made_globals : (source : List ℕ) (tokens : List Lexeme) (m : tree.Module) (rs : List Routine) → (get_or rs 0 no_routine).params ≡ []
    → (judge_module source tokens m).value ≡ Some rs
    → AllByRecursion (IsGlobal (program_of source tokens m rs)) (program_of source tokens m rs).globals
made_globals source tokens m rs none value =
    each_follows (λ (g : Global). (0 < g.slot) × (g.slot + g.cells ≤ (get_or rs 0 no_routine).slots))
    (IsGlobal (program_of source tokens m rs)) (λ g k. one_global (program_of source tokens m rs) g none k)
    (block_variables (module_frame source tokens m) 1 m.block)
    (block_lies (module_frame source tokens m) 1 m.name 0 (m.end_name.token - 1) m.block rs (record { above = omega arith; each = tt })
    value)

pub program_has_globals : (source : List ℕ) (tokens : List Lexeme) (m : tree.Module) (p : Program) → BlockStands m.block
    → resolution source tokens m ≡ Some p → AllByRecursion (IsGlobal p) p.globals
program_has_globals source tokens m p stand e =
    by (broken_rules source tokens m) (judge_module source tokens m).value e (program_keeps_frames source tokens m p stand e)
    (λ rs none i. made_globals source tokens m rs none i)
  where
    by : (fs : List BrokenRule) (o : Option (List Routine)) → if_unbroken fs (option_map (program_of source tokens m) o) ≡ Some p
        → KeepsFrames p
        → ((rs : List Routine) → (get_or rs 0 no_routine).params ≡ [] → o ≡ Some rs
        → AllByRecursion (IsGlobal (program_of source tokens m rs)) (program_of source tokens m rs).globals)
        → AllByRecursion (IsGlobal p) p.globals
    by [] None e k f = absurd (cc)
    by [] (Some rs) e k f =
        let same : program_of source tokens m rs ≡ p = cc in
        subst (λ x. AllByRecursion (IsGlobal x) x.globals) same
        (f rs (subst (λ x. (routine_at x 0).params ≡ []) (sym same) k.body_takes_nothing.0) refl)
    by (b ∷ bs) o e k f = absurd (cc)
