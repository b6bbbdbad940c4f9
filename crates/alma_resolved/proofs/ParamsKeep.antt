-- The parameters of a heading keep its scene: each has its slots, or is one of the parameters that hold a place.
use Rattle.std.proofs.Common.{◌≡◌, inl, inr, ℕ, suc, ◌+◌, ◌-◌, ◌<◌, ◌≤◌, Bool, true, false, List, [], ◌∷◌, ◌++◌, length, Option, None, Some}
use Rattle.std.proofs.Common.{refl, sym, ap, ◌∙◌, subst, arith, append_assoc, append-nil, length-append}
use Rattle.std.specs.Prelude.{sum_by}
use Rattle.std.specs.List.{AllByRecursion}
use Rattle.std.proofs.lemmas.List.Sums.{sum_by-cons}
use Rattle.alma_base.specs.Choice.{if_true}
use Rattle.alma_tree.specs.declared.leaf.Mode.{Mode}
use Rattle.alma_tree.specs.declared.leaf.Mode.TheVariants as modes
use Rattle.alma_names.specs.declared.block.Entry.TheVariants as entry
use Rattle.alma_names.specs.Blocks.{shape_id}
use Rattle.alma_ir.specs.declared.program.ArgKind.{ArgKind}
use Rattle.alma_ir.specs.declared.program.ArgKind.TheVariants as kinds
use Rattle.alma_ir.specs.declared.program.Param.{Param}
use Rattle.alma_ir.specs.Tree.{routine_at}
use Rattle.alma_ir.specs.Checked.{AreLaidOut, param_slots, slots_of_kind, HoldsPlace, HoldPlace, IsOutside, outer_at}
use Rattle.alma_rules.specs.Numbered as tree
use Rattle.alma_rules.specs.Judgement.{broken_at}
use Rattle.alma_rules.specs.Scene.{Scene, cells, range, is_structured, is_first}
use Rattle.alma_rules.specs.Types.{declare_name, redeclaration_rules, read_type_name, all_names}
use Rattle.alma_rules.specs.Decls.{Frame, with_faults, with_formal, within_limit, param_access, param_kind, with_param, param_in, params_in}
use Rattle.alma_rules.specs.Decls.{formal_in, read_formals}
use Rattle.alma_rules.proofs.Limited.{limited_case, limited_scene}
use Rattle.alma_resolved.specs.Fits.{Place, InFrame}
use Rattle.alma_resolved.proofs.Fits.{When, when_weaker}
use Rattle.alma_resolved.proofs.Slots.{simple_cells}
use Rattle.alma_resolved.proofs.Entries.{AccessKeeps, SceneKeeps, keeps_declared, Longer, longer_same, longer_declared}
use Rattle.alma_resolved.proofs.TypesKeep.{IsShape, name_keeps}

-- ---- one of the parameters

-- one that is laid out among others leaves out their places
place_slot : (q : Param) → HoldsPlace q.kind → 0 < param_slots q
place_slot q h = by q.kind refl h
  where
    by : (x : ArgKind) → q.kind ≡ x → HoldsPlace x → 0 < param_slots q
    by kinds.Value e p = absurd p
    by kinds.Cells e p = absurd p
    by kinds.Place e p = let one : param_slots q ≡ 1 = ap (λ y. slots_of_kind y q.cells) e in omega (arith, one)
    by kinds.Mix e p = let two : param_slots q ≡ 2 = ap (λ y. slots_of_kind y q.cells) e in omega (arith, two)

laid_behind : (n slot m : ℕ) (ps : List Param) → AreLaidOut n ps → slot + m ≤ n
    → AllByRecursion (λ x. HoldsPlace x.kind → IsOutside slot m x.slot) ps
laid_behind n slot m [] h le = tt
laid_behind n slot m (q ∷ ps) h le = (λ p. inr (omega (arith, h.0, le)), laid_behind (n + param_slots q) slot m ps h.1 (omega (arith, le)))

laid_round : (n m : ℕ) (front : List Param) (q : Param) (back : List Param) → AreLaidOut n (front ++ q ∷ back) → (HoldsPlace q.kind → ⊥)
    → m ≤ param_slots q
    → (n ≤ q.slot) × AllByRecursion (λ x. HoldsPlace x.kind → IsOutside q.slot m x.slot) (front ++ q ∷ back)
laid_round n m [] q back h free le = (
  omega (arith, h.0),
  (λ p. absurd (free p), laid_behind (n + param_slots q) q.slot m back h.1 (omega (arith, h.0, le))),
)
laid_round n m (x ∷ front) q back h free le =
    let r = laid_round (n + param_slots x) m front q back h.1 free le in
    (omega (arith, r.0), (λ p. let some : 0 < param_slots x = place_slot x p in inl (omega (arith, h.0, r.0, some)), r.1))

-- one that holds a place is among them
holds_among : (front : List Param) (q : Param) (back : List Param) → HoldsPlace q.kind → HoldPlace (front ++ q ∷ back) q.slot q.cells
holds_among [] q back h = inl (h, refl, refl)
holds_among (x ∷ front) q back h = inr (holds_among front q back h)

-- ---- the parameters of a routine

-- all parameters of the routine, which take slots of its frame
pub record AllLaid (k : Place) : Type 0 where
  pub laid : AreLaidOut 0 (routine_at k.program k.number).params
  pub within : sum_by param_slots (routine_at k.program k.number).params ≤ k.ends k.number

-- these parameters are the first of the routine's
pub record Fronts (k : Place) (f : Frame) : Type 0 where
  pub back : List Param
  pub is : (routine_at k.program k.number).params ≡ f.params ++ back

within_sum : (n : ℕ) (front : List Param) (q : Param) (back : List Param) → AreLaidOut n (front ++ q ∷ back)
    → q.slot + param_slots q ≤ n + sum_by param_slots (front ++ q ∷ back)
within_sum n [] q back h = omega (arith, h.0, sum_by-cons param_slots q back)
within_sum n (x ∷ front) q back h = omega
    (arith, within_sum (n + param_slots x) front q back h.1, sum_by-cons param_slots x (front ++ q ∷ back))

owner_self : (k : Place) (c : ℕ) → outer_at k.program k.number (suc c - suc c) ≡ k.number
owner_self k c = let none : suc c - suc c ≡ 0 = omega arith in ap (λ n. outer_at k.program k.number n) none

-- a parameter by value: it is no place
by_value : (b : Bool) → HoldsPlace (param_kind b None) → ⊥
by_value true h = h
by_value false h = h

value_cells : (b : Bool) (n : ℕ) → (b ≡ false → n ≡ 1) → n ≤ slots_of_kind (param_kind b None) n
value_cells true n h = omega arith
value_cells false n h = omega (arith, h refl)

by_place : (b : Bool) (m : Mode) → HoldsPlace (param_kind b (Some m))
by_place true modes.Var = tt
by_place false modes.Var = tt
by_place true modes.Mix = tt
by_place false modes.Mix = tt

abbrev made : Frame → Option Mode → ℕ → Param
made f mode shape = record {
  kind = param_kind (is_structured f.scene shape) mode;
  slot = f.slots;
  cells = cells f.scene shape;
  range =
      range f.scene shape;
}

access_keeps : (k : Place) (c : ℕ) (f : Frame) (mode : Option Mode) (shape : ℕ) → AllLaid k → 0 < c → (back : List Param)
    → (routine_at k.program k.number).params ≡ f.params ++ made f mode shape ∷ back
    → AccessKeeps k c (suc c) (cells f.scene shape) (param_access mode f.slots)
access_keeps k c f None shape a deep back e =
    let laid : AreLaidOut 0 (f.params ++ made f None shape ∷ back) = subst (AreLaidOut 0) e a.laid in
    let cells_in : cells f.scene shape ≤ param_slots (made f None shape) =
    value_cells (is_structured f.scene shape) (cells f.scene shape) (simple_cells f.scene shape) in
    let r = laid_round 0 (cells f.scene shape) f.params (made f None shape) back laid (by_value (is_structured f.scene shape)) cells_in in
    let in_frame : InFrame k k.number f.slots (cells f.scene shape) = (
      omega (arith, a.within, ap (λ qs. sum_by param_slots qs) e, within_sum 0 f.params (made f None shape) back laid, cells_in),
      subst (λ qs. AllByRecursion (λ x. HoldsPlace x.kind → IsOutside f.slots (cells f.scene shape) x.slot) qs) (sym e) r.1,
    ) in
    (omega (arith, deep), subst (λ n. InFrame k n f.slots (cells f.scene shape)) (sym (owner_self k c)) in_frame)
access_keeps k c f (Some m) shape a deep back e =
    let held : HoldPlace (routine_at k.program k.number).params f.slots (cells f.scene shape) =
    subst (λ qs. HoldPlace qs f.slots (cells f.scene shape)) (sym e)
    (holds_among f.params (made f (Some m) shape) back (by_place (is_structured f.scene shape) m)) in
    (omega (arith, deep), subst (λ n. HoldPlace (routine_at k.program n).params f.slots (cells f.scene shape)) (sym (owner_self k c)) held)

-- ---- the walk

-- more parameters stand behind those of a frame
record Onward (f g : Frame) : Type 0 where
  more : List Param
  is : g.params ≡ f.params ++ more

onward_same : (f g : Frame) → g.params ≡ f.params → Onward f g
onward_same f g e = record { more = []; is = e ∙ sym (append-nil f.params) }

onward_twice : (f g h : Frame) → Onward f g → Onward g h → Onward f h
onward_twice f g h a b = record { more = a.more ++ b.more; is = b.is ∙ (ap (λ x. x ++ b.more) a.is ∙ append_assoc f.params a.more b.more) }

param_onward : (f : Frame) (from : ℕ) (mode : Option Mode) (o : Option ℕ) (name : tree.Name) → Onward f (param_in f from mode o name)
param_onward f from mode None name = onward_same f (param_in f from mode None name) refl
param_onward f from mode (Some shape) name = by (is_first f.scene name)
  where
    by : (b : Bool) → Onward f (with_formal
        (if_true b (λ u. within_limit name f (with_param f name from mode shape (param_kind (is_structured f.scene shape) mode)))
        (λ u. with_faults f (broken_at name.node (redeclaration_rules f.scene name)))) (Some (record { mode = mode; shape = shape })))
    by true = limited_case (λ g. Onward f (with_formal g (Some (record { mode = mode; shape = shape })))) name f
        (with_param f name from mode shape (param_kind (is_structured f.scene shape) mode))
        (λ le. record { more = made f mode shape ∷ []; is = refl }) (record { more = []; is = sym (append-nil f.params) })
    by false = record { more = []; is = sym (append-nil f.params) }

params_onward : (f : Frame) (from : ℕ) (mode : Option Mode) (o : Option ℕ) (xs : List tree.Name) → Onward f (params_in f from mode o xs)
params_onward f from mode o [] = onward_same f f refl
params_onward f from mode o (x ∷ xs) = onward_twice f (param_in f from mode o x) (params_in (param_in f from mode o x) from mode o xs)
    (param_onward f from mode o x) (params_onward (param_in f from mode o x) from mode o xs)

formals_onward : (f : Frame) (xs : List tree.Formal) → Onward f (read_formals f xs)
formals_onward f [] = onward_same f f refl
formals_onward f (x ∷ xs) =
    let one = params_onward f (x.type_name.token + 1) x.mode (read_type_name f.scene x.type_name).value (all_names x.names) in
    onward_twice f (formal_in f x (read_type_name f.scene x.type_name))
    (read_formals (formal_in f x (read_type_name f.scene x.type_name)) xs)
    (record { more = one.more; is = one.is }) (formals_onward (formal_in f x (read_type_name f.scene x.type_name)) xs)

fronts_back : (k : Place) (f g : Frame) → Onward f g → Fronts k g → Fronts k f
fronts_back k f g a h = record { back = a.more ++ h.back; is = h.is ∙ (ap (λ x. x ++ h.back) a.is ∙ append_assoc f.params a.more h.back) }

param_longer : (f : Frame) (from : ℕ) (mode : Option Mode) (o : Option ℕ) (name : tree.Name)
    → Longer f.scene (param_in f from mode o name).scene
param_longer f from mode None name = longer_declared f.scene name from entry.Bad
param_longer f from mode (Some shape) name =
    by (is_first f.scene name) (longer_declared f.scene name from (entry.Variable (shape_id shape) (param_access mode f.slots)))
  where
    by : (b : Bool) → Longer f.scene (declare_name f.scene name from (entry.Variable (shape_id shape) (param_access mode f.slots)))
        → Longer f.scene (if_true b (λ u. within_limit name f
        (with_param f name from mode shape (param_kind (is_structured f.scene shape) mode)))
        (λ u. with_faults f (broken_at name.node (redeclaration_rules f.scene name)))).scene
    by true l = subst (λ s. Longer f.scene s)
        (sym (limited_scene name f (with_param f name from mode shape (param_kind (is_structured f.scene shape) mode)))) l
    by false l = longer_same f.scene f.scene refl

-- each formal has its parameter
abbrev pub Paired : Frame → Type 0
Paired f = length f.params ≡ length f.formals

-- no more parameters than formals come behind those of a frame
Fewer : Frame → Frame → Type 0
Fewer f g = length g.params + length f.formals ≤ length f.params + length g.formals

param_fewer : (f : Frame) (from : ℕ) (mode : Option Mode) (o : Option ℕ) (name : tree.Name) → Fewer f (param_in f from mode o name)
unfolding Fewer
param_fewer f from mode None name = omega (arith, length-append f.formals (None ∷ []))
param_fewer f from mode (Some shape) name = by (is_first f.scene name)
  where
    one : length (f.formals ++ (Some (record { mode = mode; shape = shape })) ∷ []) ≡ length f.formals + 1
    one = omega (arith, length-append f.formals ((Some (record { mode = mode; shape = shape })) ∷ []))

    by : (b : Bool) → Fewer f (with_formal
        (if_true b (λ u. within_limit name f (with_param f name from mode shape (param_kind (is_structured f.scene shape) mode)))
        (λ u. with_faults f (broken_at name.node (redeclaration_rules f.scene name)))) (Some (record { mode = mode; shape = shape })))
    by true = limited_case (λ g. Fewer f (with_formal g (Some (record { mode = mode; shape = shape })))) name f
        (with_param f name from mode shape (param_kind (is_structured f.scene shape) mode))
        (λ le. omega (arith, one, length-append f.params (made f mode shape ∷ []))) (omega (arith, one))
    by false = omega (arith, one)

params_fewer : (f : Frame) (from : ℕ) (mode : Option Mode) (o : Option ℕ) (xs : List tree.Name) → Fewer f (params_in f from mode o xs)
unfolding Fewer
params_fewer f from mode o [] = omega arith
params_fewer f from mode o (x ∷ xs) = omega (arith, param_fewer f from mode o x, params_fewer (param_in f from mode o x) from mode o xs)

formals_fewer : (f : Frame) (xs : List tree.Formal) → Fewer f (read_formals f xs)
unfolding Fewer
formals_fewer f [] = omega arith
formals_fewer f (x ∷ xs) =
    let one : Fewer f (formal_in f x (read_type_name f.scene x.type_name)) =
    params_fewer f (x.type_name.token + 1) x.mode (read_type_name f.scene x.type_name).value (all_names x.names) in
    omega (arith, one, formals_fewer (formal_in f x (read_type_name f.scene x.type_name)) xs)

-- a frame is paired where one behind it is
paired_back : (f g h : Frame) → length f.params ≤ length f.formals → Fewer f g → Fewer g h → Paired h → Paired g
unfolding Fewer
paired_back f g h le a b e = omega (arith, le, a, b, e)

param_keeps : (k : Place) (c : ℕ) (f : Frame) (from : ℕ) (mode : Option Mode) (o : Option ℕ) (name : tree.Name) → AllLaid k → 0 < c
    → SceneKeeps k c f.scene → When o (IsShape f.scene.shapes)
    → length f.params ≤ length f.formals → Paired (param_in f from mode o name) → Fronts k (param_in f from mode o name)
    → SceneKeeps k c (param_in f from mode o name).scene
param_keeps k c f from mode None name a deep h w few even r = keeps_declared name from entry.Bad h tt
param_keeps k c f from mode (Some shape) name a deep h w few even r = by (is_first f.scene name) even r
  where
    one : length (f.formals ++ (Some (record { mode = mode; shape = shape })) ∷ []) ≡ length f.formals + 1
    one = omega (arith, length-append f.formals ((Some (record { mode = mode; shape = shape })) ∷ []))

    taken : Fronts k (with_param f name from mode shape (param_kind (is_structured f.scene shape) mode))
        → SceneKeeps k c (declare_name f.scene name from (entry.Variable (shape_id shape) (param_access mode f.slots)))
    taken r =
        keeps_declared name from (entry.Variable (shape_id shape) (param_access mode f.slots)) h
        (w.gives, omega arith, access_keeps k c f mode shape a deep r.back (r.is ∙ append_assoc f.params (made f mode shape ∷ []) r.back))

    by : (b : Bool)
        → Paired (with_formal (if_true b
        (λ u. within_limit name f (with_param f name from mode shape (param_kind (is_structured f.scene shape) mode)))
        (λ u. with_faults f (broken_at name.node (redeclaration_rules f.scene name)))) (Some (record { mode = mode; shape = shape })))
        → Fronts k (with_formal (if_true b
        (λ u. within_limit name f (with_param f name from mode shape (param_kind (is_structured f.scene shape) mode)))
        (λ u. with_faults f (broken_at name.node (redeclaration_rules f.scene name)))) (Some (record { mode = mode; shape = shape })))
        → SceneKeeps k c (if_true b (λ u. within_limit name f
        (with_param f name from mode shape (param_kind (is_structured f.scene shape) mode)))
        (λ u. with_faults f (broken_at name.node (redeclaration_rules f.scene name)))).scene
    by true even r =
        limited_case (λ g. Paired (with_formal g (Some (record { mode = mode; shape = shape })))
        → Fronts k (with_formal g (Some (record { mode = mode; shape = shape }))) → SceneKeeps k c g.scene) name f
        (with_param f name from mode shape (param_kind (is_structured f.scene shape) mode))
        (λ le p q. taken (record { back = q.back; is = q.is })) (λ p q. absurd (omega (arith, few, one, p))) even r
    by false even r = h

shape_on : (s t : Scene) (o : Option ℕ) → Longer s t → When o (IsShape s.shapes) → When o (IsShape t.shapes)
shape_on s t o l w = when_weaker w (λ a g. omega (arith, g, ap (λ x. length x) l.is, length-append s.shapes l.tail))

params_keep : (k : Place) (c : ℕ) (f : Frame) (from : ℕ) (mode : Option Mode) (o : Option ℕ) (xs : List tree.Name) → AllLaid k → 0 < c
    → SceneKeeps k c f.scene → When o (IsShape f.scene.shapes)
    → length f.params ≤ length f.formals → Paired (params_in f from mode o xs) → Fronts k (params_in f from mode o xs)
    → SceneKeeps k c (params_in f from mode o xs).scene
unfolding Fewer
params_keep k c f from mode o [] a deep h w few even r = h
params_keep k c f from mode o (x ∷ xs) a deep h w few even r =
    let front = fronts_back k (param_in f from mode o x) (params_in (param_in f from mode o x) from mode o xs)
    (params_onward (param_in f from mode o x) from mode o xs) r in
    let fewer = param_fewer f from mode o x in
    let here = paired_back f (param_in f from mode o x) (params_in (param_in f from mode o x) from mode o xs) few fewer
    (params_fewer (param_in f from mode o x) from mode o xs) even in
    params_keep k c (param_in f from mode o x) from mode o xs a deep (param_keeps k c f from mode o x a deep h w few here front)
    (shape_on f.scene (param_in f from mode o x).scene o (param_longer f from mode o x) w) (omega (arith, few, fewer)) even r

pub formals_keep : (k : Place) (c : ℕ) (f : Frame) (xs : List tree.Formal) → AllLaid k → 0 < c → SceneKeeps k c f.scene
    → length f.params ≤ length f.formals → Paired (read_formals f xs) → Fronts k (read_formals f xs)
    → SceneKeeps k c (read_formals f xs).scene
unfolding Fewer
formals_keep k c f [] a deep h few even r = h
formals_keep k c f (x ∷ xs) a deep h few even r =
    let t = read_type_name f.scene x.type_name in
    let front = fronts_back k (formal_in f x t) (read_formals (formal_in f x t) xs) (formals_onward (formal_in f x t) xs) r in
    let fewer : Fewer f (formal_in f x t) = params_fewer f (x.type_name.token + 1) x.mode t.value (all_names x.names) in
    let here : Paired (formal_in f x t) = paired_back f (formal_in f x t) (read_formals (formal_in f x t) xs) few fewer
    (formals_fewer (formal_in f x t) xs) even in
    let one = params_keep k c f (x.type_name.token + 1) x.mode t.value (all_names x.names) a deep h
    (name_keeps k c f.scene x.type_name h).value few here (record { back = front.back; is = front.is }) in
    formals_keep k c (formal_in f x t) xs a deep one (omega (arith, few, fewer)) even r
