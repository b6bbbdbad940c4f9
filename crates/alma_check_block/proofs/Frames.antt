-- What is told of a frame as declarations are read, one more at a time.
use Rattle.std.proofs.Common.{◌≡◌, ℕ, ◌+◌, ◌<◌, List, [], ◌∷◌, ◌++◌, Option, None, Some, Bool, true, false, length, get_or, take, Result}
use Rattle.std.proofs.Common.{Ok, Err, refl, sym, ap, subst, ◌∙◌, append-nil, Vec, Global, true≢false, arith}
use Rattle.std.specs.Prelude.{nat_le, option_map, OnOk}
use Rattle.std.proofs.lemmas.List.{take_more, map-append}
use Rattle.alma_base.specs.Choice.{if_true}
use Rattle.alma_base.specs.Limits.{cell_limit}
use Rattle.alma_base.specs.declared.fault.CheckFault.TheVariants as fault
use Rattle.alma_tree.specs.declared.leaf.Mode.{Mode}
use Rattle.alma_tree.specs.declared.leaf.Name.{Name}
use Rattle.alma_tree.specs.declared.module.ConstEntry.{ConstEntry}
use Rattle.alma_tree.specs.declared.module.TypeEntry.{TypeEntry}
use Rattle.alma_tree.specs.declared.module.VarEntry.{VarEntry}
use Rattle.alma_tree.specs.declared.module.Formal.{Formal}
use Rattle.alma_tree.specs.declared.module.Decl as dh
use Rattle.alma_names.specs.declared.block.Access.{Access}
use Rattle.alma_names.specs.declared.block.Entry.{Entry}
use Rattle.alma_names.specs.declared.block.Entry.TheVariants as entry
use Rattle.alma_names.specs.Blocks.{shape_id}
use Rattle.alma_rules.specs.Numbered as tree
use Rattle.alma_rules.specs.View as view
use Rattle.alma_rules.specs.Judgement.{BrokenRule, broken_at}
use Rattle.alma_rules.specs.Answers.{first}
use Rattle.alma_rules.specs.Scene.{Scene, cells, is_first, is_structured}
use Rattle.alma_rules.specs.Types as types
use Rattle.alma_rules.specs.Decls as rules
use Rattle.alma_rules.proofs.Limited.{limited_here, limited_out}
use Rattle.alma_check_rules.specs.declared.env.Formal.{Formal as CodeFormal}
use Rattle.alma_check_rules.specs.declared.env.Env.{Env}
use Rattle.alma_check_rules.specs.Views.{formal_view, scene_of, somewhere}
use Rattle.alma_check_type.specs.declared.reading.Reading.{Reading as CodeReading}
use Rattle.alma_check_type.specs.Told.{Told, told, tells, fault_of}
use Rattle.alma_check_block.specs.declared.frame.Frame.{Frame}
use Rattle.alma_check_block.proofs.Texts.{ok_eq}
use Rattle.alma_check_block.specs.Shown.{ToldFrame, told_frame, frame_with_scene, formals_view, param_shaped}

-- the same with another scene
abbrev pub moved : ToldFrame → Scene → ToldFrame
moved u s = record u { scene = s }

pub scene_is : (s : Scene) (x : Frame) (f : rules.Frame) → frame_with_scene s x ≡ told_frame f → s ≡ f.scene
scene_is s x f h = ap (λ (u : ToldFrame). u.scene) h

pub at_scene : (s : Scene) (x : Frame) (f : rules.Frame) → frame_with_scene s x ≡ told_frame f → frame_with_scene f.scene x ≡ told_frame f
at_scene s x f h = ap (λ u. moved u f.scene) h

-- a name in front of what it stands for
pub entered_by : (s t : Scene) (x : Frame) (f : rules.Frame) (name : tree.Name) (from : ℕ) (faults : List BrokenRule) (e : Entry)
    → frame_with_scene f.scene x ≡ told_frame
    (rules.with_faults (rules.with_faults f (broken_at name.node (types.redeclaration_rules s name))) faults)
    → t ≡ types.declare_name s name from e → frame_with_scene t x ≡ told_frame (rules.enter f name from faults s e)
entered_by s t x f name from faults e h d =
    ap (λ u. moved u t) h
    ∙ ap (λ i. moved (told_frame (rules.with_faults (rules.with_faults f (broken_at name.node (types.redeclaration_rules s name))) faults))
    i) d

-- a name whose type is Bad
pub bad_entered : (s : Scene) (f : rules.Frame) (from : ℕ) (name : tree.Name) → s ≡ f.scene
    → told_frame (rules.enter f name from [] s entry.Bad) ≡ told_frame (rules.variable_in f from None name)
bad_entered s f from name e =
    ap (λ i. told_frame (rules.enter f name from [] i entry.Bad)) e
    ∙ ap (λ xs. told_frame (let g : rules.Frame = record f { faults = xs; scene = types.declare_name f.scene name from entry.Bad } in g))
    (append-nil (f.faults ++ broken_at name.node (types.redeclaration_rules f.scene name)))

-- ---- the limit

-- a name that does not fit, with the scene behind it
pub refused : (s t : Scene) (x : Frame) (f : rules.Frame) (name : tree.Name)
    → frame_with_scene s x ≡ told_frame (rules.with_faults f (broken_at name.node (fault.TooLarge ∷ [])))
    → frame_with_scene t x ≡ told_frame (rules.too_large f name t)
refused s t x f name h = ap (λ u. moved u t) h

-- a frame with one more that fits
pub let_in : {E : Type 0} (r : Result (Unit {0}) E) (u : ToldFrame) (b : Bool) (n : ℕ) (name : tree.Name) (f g : rules.Frame)
    → b ≡ nat_le n cell_limit → b ≡ true → n ≡ g.declared → OnOk r (u ≡ told_frame g)
    → OnOk r (u ≡ told_frame (rules.within_limit name f g))
let_in r u b n name f g is h e k =
    ok_eq r u (told_frame g) (told_frame (rules.within_limit name f g))
    (ap (λ x. told_frame x) (sym (limited_here name f g (ap (λ m. nat_le m cell_limit) (sym e) ∙ (sym is ∙ h))))) k

-- a frame without one that does not
pub left_out : {E : Type 0} (r : Result (Unit {0}) E) (t : Scene) (x : Frame) (b : Bool) (n : ℕ) (name : tree.Name) (f g : rules.Frame)
    → ((u : Scene) → frame_with_scene u x ≡ told_frame (rules.too_large f name u)) → b ≡ nat_le n cell_limit → b ≡ false → n ≡ g.declared
    → OnOk r (t ≡ g.scene) → OnOk r (frame_with_scene t x ≡ told_frame (rules.within_limit name f g))
left_out (Ok u) t x b n name f g k is h e q =
    k t ∙ (ap (λ i. told_frame (rules.too_large f name i)) q
    ∙ ap (λ y. told_frame y) (sym (limited_out name f g (ap (λ m. nat_le m cell_limit) (sym e) ∙ (sym is ∙ h)))))
left_out (Err u) t x b n name f g k is h e q = tt

-- the declared cells with so many more of a shape
pub more_cells : (F : ℕ → ℕ) (s : Scene) (x : Frame) (f : rules.Frame) (env : Env) (n shape : ℕ) → frame_with_scene s x ≡ told_frame f
    → scene_of env somewhere ≡ s → n ≡ F (cells (scene_of env somewhere) shape) → x.declared + n ≡ f.declared + F (cells f.scene shape)
more_cells F s x f env n shape h e k =
    ap (λ (u : ToldFrame). u.declared + n) h
    ∙ (ap (λ m. f.declared + m) k ∙ ap (λ i. f.declared + F (cells i shape)) (e ∙ scene_is s x f h))

-- ---- variables

pub variable_first : (f : rules.Frame) (from : ℕ) (shape : ℕ) (name : tree.Name) → is_first f.scene name ≡ true
    → rules.variable_in f from (Some shape) name ≡ rules.within_limit name f (rules.with_variable f name from shape)
variable_first f from shape name h = go (is_first f.scene name) h
  where
    go : (b : Bool) → b ≡ true → if_true b (λ u. rules.within_limit name f (rules.with_variable f name from shape))
        (λ u. rules.with_faults f (broken_at name.node (types.redeclaration_rules f.scene name)))
        ≡ rules.within_limit name f (rules.with_variable f name from shape)
    go true e = refl
    go false e = absurd (true≢false (sym e))

pub variable_later : (f : rules.Frame) (from : ℕ) (shape : ℕ) (name : tree.Name) → is_first f.scene name ≡ false
    → rules.variable_in f from (Some shape) name ≡ rules.with_faults f (broken_at name.node (types.redeclaration_rules f.scene name))
variable_later f from shape name h = go (is_first f.scene name) h
  where
    go : (b : Bool) → b ≡ false → if_true b (λ u. rules.within_limit name f (rules.with_variable f name from shape))
        (λ u. rules.with_faults f (broken_at name.node (types.redeclaration_rules f.scene name)))
        ≡ rules.with_faults f (broken_at name.node (types.redeclaration_rules f.scene name))
    go true e = absurd (true≢false e)
    go false e = refl

-- the scene behind a variable
pub variable_scene : (s : Scene) (x : Frame) (f : rules.Frame) (name : tree.Name) (from shape : ℕ) (a : Access)
    → frame_with_scene s x ≡ told_frame f
    → a ≡ rules.variable_access s x.slots
    → types.declare_name s name from (entry.Variable (shape_id shape) a) ≡ (rules.with_variable f name from shape).scene
variable_scene s x f name from shape a h k =
    ap (λ i. types.declare_name s name from (entry.Variable (shape_id shape) i)) k
    ∙ (ap (λ (u : ToldFrame). types.declare_name s name from (entry.Variable (shape_id shape) (rules.variable_access s u.slots))) h
    ∙ ap (λ i. types.declare_name i name from (entry.Variable (shape_id shape) (rules.variable_access i f.slots))) (scene_is s x f h))

-- ---- parameters

-- the scene behind a parameter
pub param_scene : (s : Scene) (x : Frame) (f : rules.Frame) (name : tree.Name) (from : ℕ) (mode : Option Mode) (shape : ℕ) (a : Access)
    → frame_with_scene s x ≡ told_frame f → a ≡ rules.param_access mode x.slots
    → types.declare_name s name from (entry.Variable (shape_id shape) a) ≡ types.declare_name f.scene name from
    (entry.Variable (shape_id shape) (rules.param_access mode f.slots))
param_scene s x f name from mode shape a h k =
    ap (λ i. types.declare_name s name from (entry.Variable (shape_id shape) i)) k
    ∙ (ap (λ (u : ToldFrame). types.declare_name s name from (entry.Variable (shape_id shape) (rules.param_access mode u.slots))) h
    ∙ ap (λ i. types.declare_name i name from (entry.Variable (shape_id shape) (rules.param_access mode f.slots))) (scene_is s x f h))

pub param_first : (f : rules.Frame) (from : ℕ) (mode : Option Mode) (shape : ℕ) (name : tree.Name) → is_first f.scene name ≡ true
    → param_shaped f from mode shape name ≡ rules.within_limit name f
    (rules.with_param f name from mode shape (rules.param_kind (is_structured f.scene shape) mode))
param_first f from mode shape name h = go (is_first f.scene name) h
  where
    go : (b : Bool) → b ≡ true
        → if_true b (λ u. rules.within_limit name f (rules.with_param f name from mode shape
        (rules.param_kind (is_structured f.scene shape) mode)))
        (λ u. rules.with_faults f (broken_at name.node (types.redeclaration_rules f.scene name)))
        ≡ rules.within_limit name f (rules.with_param f name from mode shape (rules.param_kind (is_structured f.scene shape) mode))
    go true e = refl
    go false e = absurd (true≢false (sym e))

pub param_later : (f : rules.Frame) (from : ℕ) (mode : Option Mode) (shape : ℕ) (name : tree.Name) → is_first f.scene name ≡ false
    → param_shaped f from mode shape name ≡ rules.with_faults f (broken_at name.node (types.redeclaration_rules f.scene name))
param_later f from mode shape name h = go (is_first f.scene name) h
  where
    go : (b : Bool) → b ≡ false
        → if_true b (λ u. rules.within_limit name f (rules.with_param f name from mode shape
        (rules.param_kind (is_structured f.scene shape) mode)))
        (λ u. rules.with_faults f (broken_at name.node (types.redeclaration_rules f.scene name)))
        ≡ rules.with_faults f (broken_at name.node (types.redeclaration_rules f.scene name))
    go true e = absurd (true≢false e)
    go false e = refl

-- one more formal
pub formal_pushed : (s : Scene) (x : Frame) (v : Vec (Option CodeFormal) Global) (o : Option CodeFormal) (g : rules.Frame)
    → frame_with_scene s x ≡ told_frame g
    → v.items ≡ x.formals.items ++ o ∷ [] → frame_with_scene s (record x { formals = v }) ≡ told_frame
    (rules.with_formal g (option_map formal_view o))
formal_pushed s x v o g h e =
    let all : formals_view v.items ≡ g.formals ++ option_map formal_view o ∷ [] =
    ap (λ xs. formals_view xs) e ∙ map-append (λ z. option_map formal_view z) x.formals.items (o ∷ [])
    ∙ ap (λ xs. xs ++ option_map formal_view o ∷ []) (ap (λ (u : ToldFrame). u.formals) h) in
    ap (λ (u : ToldFrame). let y : ToldFrame = record u { formals = formals_view v.items } in y) h
    ∙ ap (λ xs. let y : ToldFrame = record (told_frame g) { formals = xs } in y) all

-- ---- what is read of a type, in a scene that is another's

pub scene_in : {A B : Type 0} (F : A → B) (s t : A) (u : B) → s ≡ t → F s ≡ u → F t ≡ u
scene_in F s t u e h = ap F (sym e) ∙ h

pub read_in : (F : Scene → Told ℕ) (v : CodeReading ℕ) (a s : Scene) → a ≡ s → F a ≡ tells v a → F s ≡ tells v s
read_in F v a s e h = subst (λ i. F i ≡ tells v i) e h

pub read_moves : (s t : Scene) (x : Frame) (f : rules.Frame) (r : types.Reading ℕ) (v : CodeReading ℕ) → frame_with_scene s x ≡ told_frame f
    → told r ≡ tells v t
    → frame_with_scene t x ≡ told_frame (rules.with_scene f r.scene)
read_moves s t x f r v h k = ap (λ u. moved u t) h ∙ ap (λ i. moved (told_frame f) i) (sym (ap (λ (u : Told ℕ). u.scene) k))

pub read_fault : (r : types.Reading ℕ) (v : CodeReading ℕ) (t : Scene) → told r ≡ tells v t → fault_of v.fault ≡ first r.faults
read_fault r v t k = sym (ap (λ (u : Told ℕ). u.fault) k)

pub read_value : (r : types.Reading ℕ) (v : CodeReading ℕ) (t : Scene) → told r ≡ tells v t → v.value ≡ r.value
read_value r v t k = sym (ap (λ (u : Told ℕ). u.value) k)

pub twice_at : (s t : Scene) (name : tree.Name) (b : Option BrokenRule) → s ≡ t
    → b ≡ first (broken_at name.node (types.redeclaration_rules s name))
    → b ≡ first (broken_at name.node (types.redeclaration_rules t name))
twice_at s t name b e h = h ∙ ap (λ i. first (broken_at name.node (types.redeclaration_rules i name))) e

-- ---- one more entry

taken : {A : Type 0} (all : List A) (i : ℕ) (x : A) → i < length all → x ≡ get_or all i x → take (i + 1) all ≡ take i all ++ x ∷ []
taken all i x lt is = take_more all i x lt ∙ ap (λ y. take i all ++ y ∷ []) (sym is)

abbrev pub const_step : rules.Frame → ConstEntry → rules.Frame
const_step f x = rules.constant_in f (view.view_const x) (types.read_constant f.scene (view.view_expr x.value))

consts_more : (f : rules.Frame) (ys : List ConstEntry) (x : ConstEntry)
    → rules.read_consts f (view.consts_of (ys ++ x ∷ [])) ≡ const_step (rules.read_consts f (view.consts_of ys)) x
consts_more f [] x = refl
consts_more f (y ∷ ys) x = consts_more (const_step f y) ys x

pub consts_next : (f : rules.Frame) (all : List ConstEntry) (i : ℕ) (x : ConstEntry) → i < length all → x ≡ get_or all i x
    → const_step (rules.read_consts f (view.consts_of (take i all))) x ≡ rules.read_consts f (view.consts_of (take (i + 1) all))
consts_next f all i x lt is = sym (ap (λ xs. rules.read_consts f (view.consts_of xs)) (taken all i x lt is) ∙ consts_more f (take i all) x)

abbrev pub type_step : rules.Frame → TypeEntry → rules.Frame
type_step f x = rules.type_in f (view.view_type_entry x) (types.read_type f.scene (view.view_type_node x.type_node))

types_more : (f : rules.Frame) (ys : List TypeEntry) (x : TypeEntry)
    → rules.read_types f (view.types_of (ys ++ x ∷ [])) ≡ type_step (rules.read_types f (view.types_of ys)) x
types_more f [] x = refl
types_more f (y ∷ ys) x = types_more (type_step f y) ys x

pub types_next : (f : rules.Frame) (all : List TypeEntry) (i : ℕ) (x : TypeEntry) → i < length all → x ≡ get_or all i x
    → type_step (rules.read_types f (view.types_of (take i all))) x ≡ rules.read_types f (view.types_of (take (i + 1) all))
types_next f all i x lt is = sym (ap (λ xs. rules.read_types f (view.types_of xs)) (taken all i x lt is) ∙ types_more f (take i all) x)

abbrev pub var_step : rules.Frame → VarEntry → rules.Frame
var_step f x = rules.variables_of f (view.view_var x) (types.read_type f.scene (view.view_type_node x.type_node))

vars_more : (f : rules.Frame) (ys : List VarEntry) (x : VarEntry)
    → rules.read_vars f (view.vars_of (ys ++ x ∷ [])) ≡ var_step (rules.read_vars f (view.vars_of ys)) x
vars_more f [] x = refl
vars_more f (y ∷ ys) x = vars_more (var_step f y) ys x

pub vars_next : (f : rules.Frame) (all : List VarEntry) (i : ℕ) (x : VarEntry) → i < length all → x ≡ get_or all i x
    → var_step (rules.read_vars f (view.vars_of (take i all))) x ≡ rules.read_vars f (view.vars_of (take (i + 1) all))
vars_next f all i x lt is = sym (ap (λ xs. rules.read_vars f (view.vars_of xs)) (taken all i x lt is) ∙ vars_more f (take i all) x)

module _ (from : ℕ) (shape : Option ℕ) where
  variables_more : (f : rules.Frame) (ys : List Name) (x : Name)
      → rules.variables_in f from shape (view.names_of (ys ++ x ∷ [])) ≡ rules.variable_in
      (rules.variables_in f from shape (view.names_of ys)) from shape (view.view_name x)
  variables_more f [] x = refl
  variables_more f (y ∷ ys) x = variables_more (rules.variable_in f from shape (view.view_name y)) ys x

  pub variables_next : (f : rules.Frame) (all : List Name) (i : ℕ) (x : Name) → i < length all → x ≡ get_or all i x
      → rules.variable_in (rules.variables_in f from shape (view.names_of (take i all))) from shape (view.view_name x) ≡ rules.variables_in
      f from shape (view.names_of (take (i + 1) all))
  variables_next f all i x lt is = sym (ap (λ xs. rules.variables_in f from shape (view.names_of xs)) (taken all i x lt is)
      ∙ variables_more f (take i all) x)

  module _ (mode : Option Mode) where
    params_more : (f : rules.Frame) (ys : List Name) (x : Name)
        → rules.params_in f from mode shape (view.names_of (ys ++ x ∷ [])) ≡ rules.param_in
        (rules.params_in f from mode shape (view.names_of ys)) from mode shape (view.view_name x)
    params_more f [] x = refl
    params_more f (y ∷ ys) x = params_more (rules.param_in f from mode shape (view.view_name y)) ys x

    pub params_next : (f : rules.Frame) (all : List Name) (i : ℕ) (x : Name) → i < length all → x ≡ get_or all i x
        → rules.param_in (rules.params_in f from mode shape (view.names_of (take i all))) from mode shape
        (view.view_name x) ≡ rules.params_in f from mode shape (view.names_of (take (i + 1) all))
    params_next f all i x lt is = sym (ap (λ xs. rules.params_in f from mode shape (view.names_of xs)) (taken all i x lt is)
        ∙ params_more f (take i all) x)

abbrev pub formal_step : rules.Frame → Formal → rules.Frame
formal_step f x = rules.formal_in f (view.view_formal x) (types.read_type_name f.scene (view.view_name x.type_name))

formals_more : (f : rules.Frame) (ys : List Formal) (x : Formal)
    → rules.read_formals f (view.more_formals_of (ys ++ x ∷ [])) ≡ formal_step (rules.read_formals f (view.more_formals_of ys)) x
formals_more f [] x = refl
formals_more f (y ∷ ys) x = formals_more (formal_step f y) ys x

pub formals_next : (f : rules.Frame) (all : List Formal) (i : ℕ) (x : Formal) → i < length all → x ≡ get_or all i x
    → formal_step (rules.read_formals f (view.more_formals_of (take i all))) x ≡ rules.read_formals f
    (view.more_formals_of (take (i + 1) all))
formals_next f all i x lt is = sym (ap (λ xs. rules.read_formals f (view.more_formals_of xs)) (taken all i x lt is)
    ∙ formals_more f (take i all) x)

-- ---- declarations, whose routines are numbered

pub none_counted : rules.decls_routines (view.decls_of []) ≡ 0
unfolding rules.block_routines
none_counted = refl

pub more_counted : (x : dh.Decl) (rest : List dh.Decl)
    → rules.decls_routines (view.decls_of (x ∷ rest)) ≡ rules.decl_routines (view.view_decl x) + rules.decls_routines (view.decls_of rest)
unfolding rules.block_routines
more_counted x rest = refl

decls_more : (f : rules.Frame) (r : ℕ) (ys : List dh.Decl) (x : dh.Decl)
    → rules.read_decls f r (view.decls_of (ys ++ x ∷ [])) ≡ rules.read_decl (rules.read_decls f r (view.decls_of ys))
    (r + rules.decls_routines (view.decls_of ys)) (view.view_decl x)
decls_more f r [] x = ap (λ n. rules.read_decl f n (view.view_decl x))
    (let e : rules.decls_routines (view.decls_of []) ≡ 0 = none_counted in omega (arith, e))
decls_more f r (y ∷ ys) x =
    decls_more (rules.read_decl f r (view.view_decl y)) (r + rules.decl_routines (view.view_decl y)) ys x
    ∙ ap (λ n. rules.read_decl (rules.read_decls f r (view.decls_of (y ∷ ys))) n (view.view_decl x))
    (let e : rules.decls_routines (view.decls_of (y ∷ ys)) ≡ rules.decl_routines (view.view_decl y)
    + rules.decls_routines (view.decls_of ys) = more_counted y ys in omega (arith, e))

pub decls_next : (f : rules.Frame) (r : ℕ) (all : List dh.Decl) (i : ℕ) (x : dh.Decl) → i < length all → x ≡ get_or all i x
    → rules.read_decl (rules.read_decls f r (view.decls_of (take i all))) (r + rules.decls_routines (view.decls_of (take i all)))
    (view.view_decl x) ≡ rules.read_decls f r (view.decls_of (take (i + 1) all))
decls_next f r all i x lt is = sym (ap (λ xs. rules.read_decls f r (view.decls_of xs)) (taken all i x lt is)
    ∙ decls_more f r (take i all) x)

counted_more : (ys : List dh.Decl) (x : dh.Decl)
    → rules.decls_routines (view.decls_of (ys ++ x ∷ [])) ≡ rules.decls_routines (view.decls_of ys) + rules.decl_routines (view.view_decl x)
counted_more [] x = more_counted x [] ∙ (let e : rules.decls_routines (view.decls_of []) ≡ 0 = none_counted in omega (arith, e))
counted_more (y ∷ ys) x =
    more_counted y (ys ++ x ∷ [])
    ∙ (let e : rules.decls_routines (view.decls_of (y ∷ ys)) ≡ rules.decl_routines (view.view_decl y)
    + rules.decls_routines (view.decls_of ys) = more_counted y ys in omega (arith, e, counted_more ys x))

pub counted_next : (all : List dh.Decl) (i : ℕ) (x : dh.Decl) → i < length all → x ≡ get_or all i x
    → rules.decls_routines (view.decls_of (take (i + 1) all)) ≡ rules.decls_routines (view.decls_of (take i all))
    + rules.decl_routines (view.view_decl x)
counted_next all i x lt is = ap (λ xs. rules.decls_routines (view.decls_of xs)) (taken all i x lt is) ∙ counted_more (take i all) x
