-- Constants, types and variables of a block keep its scene: each variable has slots of its frame.
use Rattle.std.proofs.Common.{◌≡◌, inl, ℕ, zero, suc, ◌+◌, ◌-◌, ◌<◌, ◌≤◌, ℤ, Bool, true, false, List, [], ◌∷◌, length, Option, None, Some}
use Rattle.std.proofs.Common.{refl, sym, ap, subst, arith, length-append}
use Rattle.std.specs.Prelude.{nat_eq, sum_by, if◌then◌else◌}
use Rattle.std.specs.List.{AllByRecursion}
use Rattle.std.proofs.lemmas.Bool.{eqb-true}
use Rattle.std.proofs.lemmas.List.Sums.{sum_by-cons}
use Rattle.alma_base.specs.Choice.{if_true}
use Rattle.alma_names.specs.declared.block.Access.TheVariants as access
use Rattle.alma_names.specs.declared.block.Entry.TheVariants as entry
use Rattle.alma_names.specs.Shapes.{PlainShape}
use Rattle.alma_names.specs.Blocks.{shape_id}
use Rattle.alma_ir.specs.declared.program.ArgKind.{ArgKind}
use Rattle.alma_ir.specs.declared.program.ArgKind.TheVariants as kinds
use Rattle.alma_ir.specs.declared.program.Param.{Param}
use Rattle.alma_ir.specs.Tree.{routine_at}
use Rattle.alma_ir.specs.Checked.{AreLaidOut, param_slots, slots_of_kind, HoldsPlace, IsOutside, outer_at}
use Rattle.alma_rules.specs.Numbered as tree
use Rattle.alma_rules.specs.Judgement.{broken_at}
use Rattle.alma_rules.specs.Scene.{Scene, cells, is_first}
use Rattle.alma_rules.specs.Parts.{Typing}
use Rattle.alma_rules.specs.Places.{width, mark_expr, mark_type}
use Rattle.alma_rules.specs.Types.{declare_name, redeclaration_rules, read_constant, read_type, all_names, last_token}
use Rattle.alma_rules.specs.Decls.{Frame, with_faults, with_scene, within_limit, constant_entry, constant_from, constant_in, read_consts}
use Rattle.alma_rules.specs.Decls.{type_entry, type_in, read_types, variable_access, with_variable, variable_in, variables_in, variables_of}
use Rattle.alma_rules.specs.Decls.{read_vars}
use Rattle.alma_rules.proofs.Sound.{nil_left}
use Rattle.alma_rules.proofs.Limited.{limited_case, limited_scene, limited_quiet}
use Rattle.alma_resolved.specs.Fits.{Place, InFrame}
use Rattle.alma_resolved.proofs.Fits.{When, when_weaker}
use Rattle.alma_resolved.proofs.Entries.{AccessKeeps, EntryKeeps, SceneKeeps, keeps_declared, Longer, longer_same, longer_declared}
use Rattle.alma_resolved.proofs.Quiet.{variables_quiet, vars_quiet}
use Rattle.alma_resolved.proofs.TypesKeep.{IsShape, IsValue, constant_keeps, type_keeps}

-- ---- where a frame stands

-- parameters that take slots up to this one leave out those behind it
pub laid_before : (n slot cells : ℕ) (ps : List Param) → AreLaidOut n ps → n + sum_by param_slots ps ≤ slot
    → AllByRecursion (λ x. HoldsPlace x.kind → IsOutside slot cells x.slot) ps
laid_before n slot cells [] h le = tt
laid_before n slot cells (q ∷ ps) h le = (
  by q.kind refl,
  laid_before (n + param_slots q) slot cells ps h.1 (omega (arith, le, sum_by-cons param_slots q ps)),
)
  where
    by : (x : ArgKind) → q.kind ≡ x → HoldsPlace x → IsOutside slot cells q.slot
    by kinds.Value e p = absurd p
    by kinds.Cells e p = absurd p
    by kinds.Place e p = let one : param_slots q ≡ 1 = ap (λ y. slots_of_kind y q.cells) e in
        inl (omega (arith, h.0, le, sum_by-cons param_slots q ps, one))
    by kinds.Mix e p = let two : param_slots q ≡ 2 = ap (λ y. slots_of_kind y q.cells) e in
        inl (omega (arith, h.0, le, sum_by-cons param_slots q ps, two))

-- the frame of routine k.number of the program, in a scene of level c
pub record FrameKeeps (k : Place) (c : ℕ) (f : Frame) : Type 0 where
  pub scene : SceneKeeps k c f.scene
  pub laid : AreLaidOut 0 (routine_at k.program k.number).params
  pub params : sum_by param_slots (routine_at k.program k.number).params ≤ f.slots
  pub position : k.number ≡ 0 → 0 < f.slots
  pub number : c ≡ 0 → k.number ≡ 0

pub frame_scene : {k : Place} {c : ℕ} {f : Frame} (g : Frame) → FrameKeeps k c f → f.slots ≤ g.slots → SceneKeeps k c g.scene
    → FrameKeeps k c g
frame_scene {k} {c} {f} g h le s = record {
  scene = s;
  laid = h.laid;
  params = omega (arith, h.params, le);
  position = λ e. let p : 0 < f.slots = h.position e in omega (arith, p, le);
  number = h.number;
}

-- ---- constants and types

constant_keeps_entry : (k : Place) (c : ℕ) (t : List PlainShape) (n : ℕ) (v : Option Typing) → When v (IsValue t)
    → EntryKeeps k c t n (constant_entry v)
constant_keeps_entry k c t n None h = tt
constant_keeps_entry k c t n (Some x) h = by x.constant refl
  where
    by : (o : Option ℤ) → x.constant ≡ o → EntryKeeps k c t n (constant_from x.shape o)
    by None e = tt
    by (Some v) e = h.gives v e

pub consts_keep : (k : Place) (c : ℕ) (f : Frame) (xs : List tree.ConstEntry) → FrameKeeps k c f → FrameKeeps k c (read_consts f xs)
consts_keep k c f [] h = h
consts_keep k c f (x ∷ xs) h =
    let r = constant_keeps k c f.scene x.value h.scene in
    consts_keep k c (constant_in f x (read_constant f.scene x.value)) xs
    (frame_scene (constant_in f x (read_constant f.scene x.value)) h (omega arith)
    (keeps_declared x.name (x.name.token + 3 + width (mark_expr x.value)) (constant_entry (read_constant f.scene x.value).value) r.scene
    (constant_keeps_entry k c f.scene.shapes (suc c) (read_constant f.scene x.value).value r.value)))

type_keeps_entry : (k : Place) (c : ℕ) (t : List PlainShape) (n : ℕ) (v : Option ℕ) → When v (IsShape t) → EntryKeeps k c t n (type_entry v)
type_keeps_entry k c t n None h = tt
type_keeps_entry k c t n (Some a) h = h.gives

pub types_keep : (k : Place) (c : ℕ) (f : Frame) (xs : List tree.TypeEntry) → FrameKeeps k c f → FrameKeeps k c (read_types f xs)
types_keep k c f [] h = h
types_keep k c f (x ∷ xs) h =
    let r = type_keeps k c f.scene x.type_node h.scene in
    types_keep k c (type_in f x (read_type f.scene x.type_node)) xs
    (frame_scene (type_in f x (read_type f.scene x.type_node)) h (omega arith)
    (keeps_declared x.name (x.name.token + 3 + width (mark_type x.type_node)) (type_entry (read_type f.scene x.type_node).value) r.scene
    (type_keeps_entry k c (read_type f.scene x.type_node).scene.shapes (suc c) (read_type f.scene x.type_node).value r.value)))

-- ---- variables

variable_up : (f : Frame) (from : ℕ) (o : Option ℕ) (name : tree.Name) → f.slots ≤ (variable_in f from o name).slots
variable_up f from None name = omega arith
variable_up f from (Some shape) name = by (is_first f.scene name)
  where
    by : (b : Bool) → f.slots ≤ (if_true b (λ u. within_limit name f (with_variable f name from shape))
        (λ u. with_faults f (broken_at name.node (redeclaration_rules f.scene name)))).slots
    by true = limited_case (λ g. f.slots ≤ g.slots) name f (with_variable f name from shape) (λ le. omega arith) (omega arith)
    by false = omega arith

variables_up : (f : Frame) (from : ℕ) (o : Option ℕ) (xs : List tree.Name) → f.slots ≤ (variables_in f from o xs).slots
variables_up f from o [] = omega arith
variables_up f from o (x ∷ xs) = omega (arith, variable_up f from o x, variables_up (variable_in f from o x) from o xs)

vars_up : (f : Frame) (xs : List tree.VarEntry) → f.slots ≤ (read_vars f xs).slots
vars_up f [] = omega arith
vars_up f (x ∷ xs) =
    let one : f.slots ≤ (variables_of f x (read_type f.scene x.type_node)).slots =
    variables_up (with_scene f (read_type f.scene x.type_node).scene)
    (last_token x.names.first x.names.more + 3 + width (mark_type x.type_node)) (read_type f.scene x.type_node).value
    (all_names x.names) in
    omega (arith, one, vars_up (variables_of f x (read_type f.scene x.type_node)) xs)

owner_self : (k : Place) (c : ℕ) → outer_at k.program k.number (suc c - suc c) ≡ k.number
owner_self k c = let none : suc c - suc c ≡ 0 = omega arith in ap (λ n. outer_at k.program k.number n) none

in_frame : (k : Place) (c : ℕ) (f : Frame) (m : ℕ) → FrameKeeps k c f → f.slots + m ≤ k.ends k.number → InFrame k k.number f.slots m
in_frame k c f m h le = (le, laid_before 0 f.slots m (routine_at k.program k.number).params h.laid (omega (arith, h.params)))

access_keeps : (k : Place) (c : ℕ) (f : Frame) (m : ℕ) → FrameKeeps k c f → f.slots + m ≤ k.ends k.number
    → AccessKeeps k c (suc c) m (variable_access f.scene f.slots)
access_keeps k c f m h le = by (nat_eq (length f.scene.blocks.below - 1) 0) refl
  where
    level : length f.scene.blocks.below - 1 ≡ c
    level = omega (arith, h.scene.deep)

    by : (b : Bool) → nat_eq (length f.scene.blocks.below - 1) 0 ≡ b
        → AccessKeeps k c (suc c) m (if b then access.Global f.slots else access.Local f.slots)
    by true e =
        let zero_level : length f.scene.blocks.below - 1 ≡ 0 = eqb-true (length f.scene.blocks.below - 1) 0 e in
        let zero_number : k.number ≡ 0 = h.number (omega (arith, level, zero_level)) in
        (subst (λ n. InFrame k n f.slots m) zero_number (in_frame k c f m h le), h.position zero_number)
    by false e = (above c e level, subst (λ n. InFrame k n f.slots m) (sym (owner_self k c)) (in_frame k c f m h le))
      where
        above : (d : ℕ) → nat_eq (length f.scene.blocks.below - 1) 0 ≡ false → length f.scene.blocks.below - 1 ≡ d → 1 < suc d
        above zero p q = absurd (let bad : nat_eq 0 0 ≡ false = subst (λ n. nat_eq n 0 ≡ false) q p in cc)
        above (suc d) p q = omega arith

variable_shapes : (f : Frame) (from : ℕ) (o : Option ℕ) (name : tree.Name) → Longer f.scene (variable_in f from o name).scene
variable_shapes f from None name = longer_declared f.scene name from entry.Bad
variable_shapes f from (Some shape) name =
    by (is_first f.scene name) (longer_declared f.scene name from (entry.Variable (shape_id shape) (variable_access f.scene f.slots)))
  where
    by : (b : Bool) → Longer f.scene (declare_name f.scene name from (entry.Variable (shape_id shape) (variable_access f.scene f.slots)))
        → Longer f.scene (if_true b (λ u. within_limit name f (with_variable f name from shape))
        (λ u. with_faults f (broken_at name.node (redeclaration_rules f.scene name)))).scene
    by true l = subst (λ s. Longer f.scene s) (sym (limited_scene name f (with_variable f name from shape))) l
    by false l = longer_same f.scene f.scene refl

-- a variable, with which no rule is broken
variable_keeps : (k : Place) (c : ℕ) (f : Frame) (from : ℕ) (o : Option ℕ) (name : tree.Name) → (variable_in f from o name).faults ≡ []
    → FrameKeeps k c f → When o (IsShape f.scene.shapes)
    → (variable_in f from o name).slots ≤ k.ends k.number → FrameKeeps k c (variable_in f from o name)
variable_keeps k c f from None name e h w le =
    frame_scene (variable_in f from None name) h (omega arith) (keeps_declared name from entry.Bad h.scene tt)
variable_keeps k c f from (Some shape) name e h w le = by (is_first f.scene name) e le
  where
    made : f.slots + cells f.scene shape ≤ k.ends k.number
        → SceneKeeps k c (declare_name f.scene name from (entry.Variable (shape_id shape) (variable_access f.scene f.slots)))
    made q = keeps_declared name from (entry.Variable (shape_id shape) (variable_access f.scene f.slots)) h.scene
        (w.gives, omega arith, access_keeps k c f (cells f.scene shape) h q)

    by : (b : Bool) → (if_true b (λ u. within_limit name f (with_variable f name from shape))
        (λ u. with_faults f (broken_at name.node (redeclaration_rules f.scene name)))).faults ≡ []
        → (if_true b (λ u. within_limit name f (with_variable f name from shape))
        (λ u. with_faults f (broken_at name.node (redeclaration_rules f.scene name)))).slots ≤ k.ends k.number
        → FrameKeeps k c (if_true b (λ u. within_limit name f (with_variable f name from shape))
        (λ u. with_faults f (broken_at name.node (redeclaration_rules f.scene name))))
    by true e q =
        limited_quiet (λ g. g.slots ≤ k.ends k.number → FrameKeeps k c g) name f (with_variable f name from shape) e
        (λ le q. frame_scene (with_variable f name from shape) h (omega arith) (made q)) q
    by false e q = frame_scene (with_faults f (broken_at name.node (redeclaration_rules f.scene name))) h (omega arith) h.scene

shape_on : {s t : Scene} (o : Option ℕ) → Longer s t → When o (IsShape s.shapes) → When o (IsShape t.shapes)
shape_on {s} {t} o l w = when_weaker w (λ a g. omega (arith, g, ap (λ (x : List PlainShape). length x) l.is, length-append s.shapes l.tail))

variables_keep : (k : Place) (c : ℕ) (f : Frame) (from : ℕ) (o : Option ℕ) (xs : List tree.Name) → (variables_in f from o xs).faults ≡ []
    → FrameKeeps k c f → When o (IsShape f.scene.shapes)
    → (variables_in f from o xs).slots ≤ k.ends k.number → FrameKeeps k c (variables_in f from o xs)
variables_keep k c f from o [] e h w le = h
variables_keep k c f from o (x ∷ xs) e h w le =
    let one = variable_keeps k c f from o x (variables_quiet (variable_in f from o x) from o xs e) h w
    (omega (arith, le, variables_up (variable_in f from o x) from o xs)) in
    variables_keep k c (variable_in f from o x) from o xs e one (shape_on o (variable_shapes f from o x) w) le

pub vars_keep : (k : Place) (c : ℕ) (f : Frame) (xs : List tree.VarEntry) → (read_vars f xs).faults ≡ [] → FrameKeeps k c f
    → (read_vars f xs).slots ≤ k.ends k.number → FrameKeeps k c (read_vars f xs)
vars_keep k c f [] e h le = h
vars_keep k c f (x ∷ xs) e h le =
    let r = type_keeps k c f.scene x.type_node h.scene in
    let f1 = with_scene f (read_type f.scene x.type_node).scene in
    let from = last_token x.names.first x.names.more + 3 + width (mark_type x.type_node) in
    let up : (variables_of f x (read_type f.scene x.type_node)).slots ≤ (read_vars f (x ∷ xs)).slots =
    vars_up (variables_of f x (read_type f.scene x.type_node)) xs in
    let quiet = nil_left _ _ (vars_quiet (variables_of f x (read_type f.scene x.type_node)) xs e) in
    let one = variables_keep k c f1 from (read_type f.scene x.type_node).value (all_names x.names) quiet
    (frame_scene f1 h (omega arith) r.scene) r.value (omega (arith, up, le)) in
    vars_keep k c (variables_of f x (read_type f.scene x.type_node)) xs e
    (frame_scene (variables_of f x (read_type f.scene x.type_node)) one (omega arith) one.scene) le

-- ---- frames only rise
