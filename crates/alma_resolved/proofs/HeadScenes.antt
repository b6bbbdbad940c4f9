-- What a heading leaves of a scene: all but its blocks, its names, its routine and what RETURN gives.
use Rattle.std.proofs.Common.{◌≡◌, ℕ, ◌+◌, Bool, true, false, List, [], ◌∷◌, Option, None, Some, refl, ◌∙◌, ap}
use Rattle.std.specs.Prelude.{if◌then◌else◌}
use Rattle.alma_base.specs.Choice.{if_true}
use Rattle.alma_base.specs.declared.fault.CheckFault.{CheckFault}
use Rattle.alma_tree.specs.declared.leaf.Mode.{Mode}
use Rattle.alma_names.specs.declared.block.Entry.{Entry}
use Rattle.alma_names.specs.declared.block.Entry.TheVariants as entry
use Rattle.alma_names.specs.Blocks.{shape_id}
use Rattle.alma_names.specs.Scopes.{Blocks, with_declared}
use Rattle.alma_rules.specs.Numbered as tree
use Rattle.alma_rules.specs.Judgement.{broken_at}
use Rattle.alma_rules.specs.Scene.{Scene, Returns, nothing, a_value, is_first, is_structured, text_at}
use Rattle.alma_rules.specs.Types.{declare_name, redeclaration_rules, read_type_name, all_names}
use Rattle.alma_rules.specs.Decls.{Frame, with_faults, within_limit, with_block, with_routine, with_routines, decl_routines, param_access}
use Rattle.alma_rules.specs.Decls.{param_kind, with_param, param_in, params_in, formal_in, read_formals, formals_of, formal_names, too_deep}
use Rattle.alma_rules.specs.Decls.{heading_at, with_depth, read_heading}
use Rattle.alma_rules.proofs.Limited.{limited_scene}
use Rattle.alma_resolved.proofs.HeadsSound.{first_frame}

-- a scene with other blocks, names, routine and returns
abbrev pub changed_scene : Scene → Blocks → List (List ℕ × ℕ) → ℕ → Returns → Scene
changed_scene s b d r t = record s { blocks = b; declares = d; routine = r; returns = t }

-- what is the same in each such scene
pub record Steady {A : Type 0} (F : Scene → A) : Type 0 where
  pub same : (s : Scene) (b : Blocks) (d : List (List ℕ × ℕ)) (r : ℕ) (t : Returns) → F (changed_scene s b d r t) ≡ F s

declared_same : {A : Type 0} (F : Scene → A) → Steady F → (s : Scene) (name : tree.Name) (from : ℕ) (e : Entry)
    → F (declare_name s name from e) ≡ F s
declared_same {A} F h s name from e = by (is_first s name)
  where
    by : (b : Bool) → F (if b then record s
        { blocks = with_declared s.blocks (record { name = text_at s name.token; from = from; entry = e }) } else s) ≡ F s
    by true = h.same s (with_declared s.blocks (record { name = text_at s name.token; from = from; entry = e })) s.declares s.routine
        s.returns
    by false = refl

param_same : {A : Type 0} (F : Scene → A) → Steady F → (f : Frame) (from : ℕ) (mode : Option Mode) (o : Option ℕ) (name : tree.Name)
    → F (param_in f from mode o name).scene ≡ F f.scene
param_same F h f from mode None name = declared_same F h f.scene name from entry.Bad
param_same {A} F h f from mode (Some shape) name =
    by (is_first f.scene name) (declared_same F h f.scene name from (entry.Variable (shape_id shape) (param_access mode f.slots)))
  where
    by : (b : Bool) → F (declare_name f.scene name from (entry.Variable (shape_id shape) (param_access mode f.slots))) ≡ F f.scene
        → F (if_true b (λ u. within_limit name f (with_param f name from mode shape (param_kind (is_structured f.scene shape) mode)))
        (λ u. with_faults f (broken_at name.node (redeclaration_rules f.scene name)))).scene ≡ F f.scene
    by true e = ap F (limited_scene name f (with_param f name from mode shape (param_kind (is_structured f.scene shape) mode))) ∙ e
    by false e = refl

params_same : {A : Type 0} (F : Scene → A) → Steady F → (f : Frame) (from : ℕ) (mode : Option Mode) (o : Option ℕ) (xs : List tree.Name)
    → F (params_in f from mode o xs).scene ≡ F f.scene
params_same F h f from mode o [] = refl
params_same F h f from mode o (x ∷ xs) = params_same F h (param_in f from mode o x) from mode o xs ∙ param_same F h f from mode o x

pub formals_same : {A : Type 0} (F : Scene → A) → Steady F → (f : Frame) (xs : List tree.Formal) → F (read_formals f xs).scene ≡ F f.scene
formals_same F h f [] = refl
formals_same F h f (x ∷ xs) =
    formals_same F h (formal_in f x (read_type_name f.scene x.type_name)) xs
    ∙ params_same F h f (x.type_name.token + 1) x.mode (read_type_name f.scene x.type_name).value (all_names x.names)

routines_same : {A : Type 0} (F : Scene → A) → Steady F → (s : Scene) (r : ℕ) (x : tree.DeclTail) → F (with_routines s r x) ≡ F s
routines_same F h s r tree.no_decl = refl
routines_same {A} F h s r (tree.more_decl d rest) = routines_same F h (with_routine s r d) (r + decl_routines d) rest ∙ by d
  where
    by : (d : tree.Decl) → F (with_routine s r d) ≡ F s
    by (tree.const_decl n xs) = refl
    by (tree.type_decl n xs) = refl
    by (tree.var_decl n xs) = refl
    by (tree.procedure n name params result b end_name) = declared_same F h s name 0 (entry.Routine r)

pub block_same : {A : Type 0} (F : Scene → A) → Steady F → (s : Scene) (r : ℕ) (returns : Returns) (names : List tree.Name) (b : tree.Block)
    → F (with_block s r returns names b) ≡ F s
block_same F h s r returns names (tree.block n ds body) = routines_same F h _ (r + 1) ds ∙ h.same s _ _ r returns

headed_same : {A : Type 0} (F : Scene → A) → Steady F → (f : Frame) (o : Option tree.Name) → F (heading_at f o).frame.scene ≡ F f.scene
headed_same F h f None = h.same f.scene f.scene.blocks f.scene.declares f.scene.routine nothing
headed_same F h f (Some name) = h.same f.scene f.scene.blocks f.scene.declares f.scene.routine (a_value (read_type_name f.scene name).value)

pub head_same : {A : Type 0} (F : Scene → A) → Steady F
    → (s : Scene) (r n : ℕ) (params : Option tree.Params) (result : Option tree.Name) (b : tree.Block)
    → F (read_heading s r n params result b).frame.scene ≡ F s
head_same {A} F h s r n params result b =
    by (too_deep s) ∙ (headed_same F h (read_formals (first_frame s r params b) (formals_of params)) result
    ∙ (formals_same F h (first_frame s r params b) (formals_of params) ∙ block_same F h s r nothing (formal_names (formals_of params)) b))
  where
    by : (d : List CheckFault) → F (with_depth d n
        (heading_at (read_formals (first_frame s r params b) (formals_of params)) result)).frame.scene ≡ F
        (heading_at (read_formals (first_frame s r params b) (formals_of params)) result).frame.scene
    by [] = refl
    by (x ∷ xs) = refl

shapes_steady : Steady (λ s. s.shapes)
shapes_steady = record { same = λ s b d r t. refl }

inside_steady : Steady (λ s. s.inside)
inside_steady = record { same = λ s b d r t. refl }

pub head_shapes : (s : Scene) (r n : ℕ) (params : Option tree.Params) (result : Option tree.Name) (b : tree.Block)
    → (read_heading s r n params result b).frame.scene.shapes ≡ s.shapes
head_shapes s r n params result b = head_same (λ s. s.shapes) shapes_steady s r n params result b

pub head_inside : (s : Scene) (r n : ℕ) (params : Option tree.Params) (result : Option tree.Name) (b : tree.Block)
    → (read_heading s r n params result b).frame.scene.inside ≡ s.inside
head_inside s r n params result b = head_same (λ s. s.inside) inside_steady s r n params result b

pub block_inside : (s : Scene) (r : ℕ) (returns : Returns) (names : List tree.Name) (b : tree.Block)
    → (with_block s r returns names b).inside ≡ s.inside
block_inside s r returns names b = block_same (λ s. s.inside) inside_steady s r returns names b

-- what RETURN gives behind a heading
abbrev pub returns_of : Scene → Option tree.Name → Returns
returns_of s None = nothing
returns_of s (Some name) = a_value (read_type_name s name).value

pub head_returns : (s : Scene) (r n : ℕ) (params : Option tree.Params) (result : Option tree.Name) (b : tree.Block)
    → (read_heading s r n params result b).frame.scene.returns ≡ returns_of
    (read_formals (first_frame s r params b) (formals_of params)).scene result
head_returns s r n params result b = by (too_deep s) ∙ one result
  where
    by : (d : List CheckFault) → (with_depth d n
        (heading_at (read_formals (first_frame s r params b) (formals_of params)) result)).frame.scene.returns
        ≡ (heading_at (read_formals (first_frame s r params b) (formals_of params)) result).frame.scene.returns
    by [] = refl
    by (x ∷ xs) = refl

    one : (o : Option tree.Name) → (heading_at (read_formals (first_frame s r params b) (formals_of params)) o).frame.scene.returns
        ≡ returns_of
        (read_formals (first_frame s r params b) (formals_of params)).scene o
    one None = refl
    one (Some name) = refl
