-- Headings: where no rule is broken each type is there, and it is there again where the heading is read in a later scene.
use Rattle.std.proofs.Common.{◌≡◌, ℕ, ◌+◌, ◌-◌, ◌<◌, Bool, true, false, List, [], ◌∷◌, ◌++◌, Option, None, Some, refl, sym, ap, ◌∙◌, subst}
use Rattle.std.proofs.Common.{arith}
use Rattle.std.specs.Prelude.{nat_le, option_map, option_and_then, if◌then◌else◌}
use Rattle.std.specs.List.{AllByRecursion}
use Rattle.alma_base.specs.Choice.{if_true}
use Rattle.alma_base.specs.declared.fault.CheckFault.{CheckFault}
use Rattle.alma_base.specs.declared.fault.CheckFault.TheVariants as fault
use Rattle.alma_tree.specs.declared.leaf.Mode.{Mode}
use Rattle.alma_names.specs.declared.block.Entry.{Entry}
use Rattle.alma_names.specs.declared.block.Entry.TheVariants as entry
use Rattle.alma_names.specs.Blocks.{shape_id}
use Rattle.alma_ir.proofs.Each.{each_of_append, each_of_front, each_of_back}
use Rattle.alma_rules.specs.Numbered as tree
use Rattle.alma_rules.specs.Judgement.{BrokenRule, broken_at, unless, if_unbroken, when}
use Rattle.alma_rules.specs.Scene.{Scene, Heading, FormalOf, nothing, Found, absent, bad, constant, named, variable, routine, found}
use Rattle.alma_rules.specs.Scene.{is_first, is_structured}
use Rattle.alma_rules.specs.Types.{declare_name, redeclaration_rules, type_name_rules, shape_in, read_type_name, all_names}
use Rattle.alma_rules.specs.Decls.{Frame, with_faults, within_limit, with_block, param_access, param_kind, with_param, param_in, params_in}
use Rattle.alma_rules.specs.Decls.{formal_in, read_formals, formals_of, formal_names, result_rules, too_deep, all_formals, heading_with}
use Rattle.alma_rules.specs.Decls.{function_heading, heading_at, with_depth, new_frame, read_heading}
use Rattle.alma_rules.proofs.Sound.{IsThere, nil_left, nil_right}
use Rattle.alma_rules.proofs.Limited.{limited_case, limited_faults, limited_scene}
use Rattle.alma_resolved.specs.Stand.{formal_types, result_types}
use Rattle.alma_resolved.proofs.Lookups.{Each, NotBad, HeadingThere, IsPlain, Grown, grown_same, grown_twice, grown_each, grown_declared}
use Rattle.alma_resolved.proofs.Lookups.{plain_not_bad}
use Rattle.alma_resolved.proofs.TypesSound.{type_name_good}
use Rattle.alma_resolved.proofs.Later.{Later, Outer, later_type, later_declared, block_later, all_extended_length}

-- ---- the name of a type

type_value : (s : Scene) (name : tree.Name) → (read_type_name s name).value ≡ shape_in (found s name)
type_value s name = by (found s name)
  where
    by : (f : Found) → unless (type_name_rules f (shape_in f)) (shape_in f) ≡ shape_in f
    by absent = refl
    by bad = refl
    by (constant shape v) = refl
    by (named shape) = refl
    by (variable shape root) = refl
    by (routine q up None) = refl
    by (routine q up (Some h)) = refl

-- the type of a name is there
abbrev pub TypeThere : Scene → tree.Name → Type 0
TypeThere s name = IsThere (read_type_name s name).value

later_there : (lo : ℕ) (s t : Scene) → Later lo s t → (name : tree.Name) → name.token < lo → TypeThere s name → TypeThere t name
later_there lo s t h name lt g = subst IsThere (type_value s name ∙ (later_type lo s t h name lt ∙ sym (type_value t name))) g

-- ---- parameters

declared_not : (s : Scene) (name : tree.Name) (from : ℕ) (e : Entry) → is_first s name ≡ false → s ≡ declare_name s name from e
declared_not s name from e h = by (is_first s name) h
  where
    by : (c : Bool) → c ≡ false → s ≡ (if c then record s {
      blocks = Rattle.alma_names.specs.Scopes.with_declared s.blocks
          (record { name = Rattle.alma_rules.specs.Scene.text_at s name.token; from = from; entry = e });
    } else s)
    by true q = absurd (let bad : true ≡ false = q in cc)
    by false q = refl

-- the scene behind a parameter
param_scene : (f : Frame) (from : ℕ) (mode : Option Mode) (shape : ℕ) (name : tree.Name)
    → (param_in f from mode (Some shape) name).scene ≡ declare_name f.scene name from
    (entry.Variable (shape_id shape) (param_access mode f.slots))
param_scene f from mode shape name = by (is_first f.scene name) refl
  where
    by : (c : Bool) → is_first f.scene name ≡ c
        → (if_true c (λ u. within_limit name f (with_param f name from mode shape (param_kind (is_structured f.scene shape) mode)))
        (λ u. with_faults f (broken_at name.node (redeclaration_rules f.scene name)))).scene
        ≡ declare_name f.scene name from (entry.Variable (shape_id shape) (param_access mode f.slots))
    by true e = limited_scene name f (with_param f name from mode shape (param_kind (is_structured f.scene shape) mode))
    by false e = declared_not f.scene name from (entry.Variable (shape_id shape) (param_access mode f.slots)) e

param_grown : (f : Frame) (from : ℕ) (mode : Option Mode) (shape : ℕ) (name : tree.Name)
    → Grown 0 f.scene (param_in f from mode (Some shape) name).scene
param_grown f from mode shape name = subst (λ s. Grown 0 f.scene s) (sym (param_scene f from mode shape name))
    (grown_declared f.scene name from (entry.Variable (shape_id shape) (param_access mode f.slots)) tt (omega arith))

params_grown : (f : Frame) (from : ℕ) (mode : Option Mode) (o : Option ℕ) (xs : List tree.Name) → IsThere o
    → Grown 0 f.scene (params_in f from mode o xs).scene
params_grown f from mode None xs t = absurd t
params_grown f from mode (Some shape) [] t = grown_same 0 f.scene
params_grown f from mode (Some shape) (x ∷ xs) t =
    grown_twice (param_grown f from mode shape x) (params_grown (param_in f from mode (Some shape) x) from mode (Some shape) xs tt)

-- the same parameters in a later scene
params_later : (lo : ℕ) (f g : Frame) (from : ℕ) (mode : Option Mode) (o p : Option ℕ) (xs : List tree.Name) → IsThere o → IsThere p
    → Later lo f.scene g.scene → Later lo (params_in f from mode o xs).scene (params_in g from mode p xs).scene
params_later lo f g from mode None p xs t u h = absurd t
params_later lo f g from mode (Some a) None xs t u h = absurd u
params_later lo f g from mode (Some a) (Some b) [] t u h = h
params_later lo f g from mode (Some a) (Some b) (x ∷ xs) t u h =
    params_later lo (param_in f from mode (Some a) x) (param_in g from mode (Some b) x) from mode (Some a) (Some b) xs tt tt
    (subst (λ s. Later lo s (param_in g from mode (Some b) x).scene) (sym (param_scene f from mode a x))
    (subst (λ s. Later lo (declare_name f.scene x from (entry.Variable (shape_id a) (param_access mode f.slots))) s)
    (sym (param_scene g from mode b x))
    (later_declared lo f.scene g.scene x from (entry.Variable (shape_id a) (param_access mode f.slots))
    (entry.Variable (shape_id b) (param_access mode g.slots)) refl h)))

param_quiet : (f : Frame) (from : ℕ) (mode : Option Mode) (o : Option ℕ) (name : tree.Name) → (param_in f from mode o name).faults ≡ []
    → f.faults ≡ []
param_quiet f from mode None name e = nil_left f.faults _ e
param_quiet f from mode (Some shape) name e = by (is_first f.scene name) e
  where
    by : (c : Bool) → (if_true c
        (λ u. within_limit name f (with_param f name from mode shape (param_kind (is_structured f.scene shape) mode)))
        (λ u. with_faults f (broken_at name.node (redeclaration_rules f.scene name)))).faults ≡ [] → f.faults ≡ []
    by true e = limited_faults name f (with_param f name from mode shape (param_kind (is_structured f.scene shape) mode)) e refl
    by false e = nil_left f.faults _ e

params_quiet : (f : Frame) (from : ℕ) (mode : Option Mode) (o : Option ℕ) (xs : List tree.Name) → (params_in f from mode o xs).faults ≡ []
    → f.faults ≡ []
params_quiet f from mode o [] e = e
params_quiet f from mode o (x ∷ xs) e = param_quiet f from mode o x (params_quiet (param_in f from mode o x) from mode o xs e)

abbrev AllThere : List (Option FormalOf) → Type 0
AllThere xs = AllByRecursion (λ x. IsThere x) xs

param_formals : (f : Frame) (from : ℕ) (mode : Option Mode) (shape : ℕ) (name : tree.Name) → AllThere f.formals
    → AllThere (param_in f from mode (Some shape) name).formals
param_formals f from mode shape name h = by (is_first f.scene name)
  where
    by : (c : Bool) → AllThere
        ((if_true c (λ u. within_limit name f (with_param f name from mode shape (param_kind (is_structured f.scene shape) mode)))
        (λ u. with_faults f (broken_at name.node (redeclaration_rules f.scene name)))).formals
        ++ Some (record { mode = mode; shape = shape }) ∷ [])
    by true =
        let more = each_of_append (λ x. IsThere x) f.formals (Some (record { mode = mode; shape = shape }) ∷ []) h (tt, tt) in
        limited_case (λ x. AllThere (x.formals ++ Some (record { mode = mode; shape = shape }) ∷ [])) name f
        (with_param f name from mode shape (param_kind (is_structured f.scene shape) mode)) (λ le. more) more
    by false = each_of_append (λ x. IsThere x) f.formals (Some (record { mode = mode; shape = shape }) ∷ []) h (tt, tt)

params_formals : (f : Frame) (from : ℕ) (mode : Option Mode) (o : Option ℕ) (xs : List tree.Name) → IsThere o → AllThere f.formals
    → AllThere (params_in f from mode o xs).formals
params_formals f from mode None xs t h = absurd t
params_formals f from mode (Some shape) [] t h = h
params_formals f from mode (Some shape) (x ∷ xs) t h =
    params_formals (param_in f from mode (Some shape) x) from mode (Some shape) xs tt (param_formals f from mode shape x h)

-- ---- formals

-- the types of formals are there, each in the scene that those before it leave
pub FormalsThere : Frame → List tree.Formal → Type 0
FormalsThere f [] = Unit {0}
FormalsThere f (x ∷ xs) = TypeThere f.scene x.type_name × FormalsThere (formal_in f x (read_type_name f.scene x.type_name)) xs

pub formals_each : (P : ℕ → Entry → Type 0) → ((n : ℕ) (e : Entry) → IsPlain e → P n e) → (f : Frame) (xs : List tree.Formal)
    → FormalsThere f xs → Each P f.scene → Each P (read_formals f xs).scene
unfolding FormalsThere
formals_each P plain f [] t h = h
formals_each P plain f (x ∷ xs) t h =
    formals_each P plain (formal_in f x (read_type_name f.scene x.type_name)) xs t.1
    (grown_each P plain (params_grown f (x.type_name.token + 1) x.mode (read_type_name f.scene x.type_name).value (all_names x.names)
    t.0) h)

formals_later : (lo : ℕ) (f g : Frame) (xs : List tree.Formal) → Later lo f.scene g.scene
    → AllByRecursion (λ x. x.token < lo) (formal_types xs) → FormalsThere f xs → FormalsThere g xs
    × Later lo (read_formals f xs).scene (read_formals g xs).scene
unfolding FormalsThere
formals_later lo f g [] h lt t = (tt, h)
formals_later lo f g (x ∷ xs) h lt t =
    let there = later_there lo f.scene g.scene h x.type_name lt.0 t.0 in
    let rest = formals_later lo (formal_in f x (read_type_name f.scene x.type_name)) (formal_in g x (read_type_name g.scene x.type_name)) xs
    (params_later lo f g (x.type_name.token + 1) x.mode (read_type_name f.scene x.type_name).value
    (read_type_name g.scene x.type_name).value (all_names x.names) t.0 there h) lt.1 t.1 in
    ((there, rest.0), rest.1)

formals_quiet : (f : Frame) (xs : List tree.Formal) → (read_formals f xs).faults ≡ [] → f.faults ≡ []
formals_quiet f [] e = e
formals_quiet f (x ∷ xs) e = params_quiet f (x.type_name.token + 1) x.mode (read_type_name f.scene x.type_name).value (all_names x.names)
    (nil_left _ _ (formals_quiet (formal_in f x (read_type_name f.scene x.type_name)) xs e))

formals_there : (f : Frame) (xs : List tree.Formal) → (read_formals f xs).faults ≡ [] → Each NotBad f.scene → FormalsThere f xs
unfolding FormalsThere
formals_there f [] e h = tt
formals_there f (x ∷ xs) e h =
    let q = nil_right (params_in f (x.type_name.token + 1) x.mode (read_type_name f.scene x.type_name).value (all_names x.names)).faults _
    (formals_quiet (formal_in f x (read_type_name f.scene x.type_name)) xs e) in
    let g = type_name_good 0 f.scene h x.type_name q in (
      g.there,
      formals_there (formal_in f x (read_type_name f.scene x.type_name)) xs e
          (grown_each NotBad plain_not_bad (params_grown f (x.type_name.token + 1) x.mode (read_type_name f.scene x.type_name).value
          (all_names x.names) g.there) h),
    )

formals_all : (f : Frame) (xs : List tree.Formal) → FormalsThere f xs → AllThere f.formals → AllThere (read_formals f xs).formals
unfolding FormalsThere
formals_all f [] t h = h
formals_all f (x ∷ xs) t h = formals_all (formal_in f x (read_type_name f.scene x.type_name)) xs t.1
    (params_formals f (x.type_name.token + 1) x.mode (read_type_name f.scene x.type_name).value (all_names x.names) t.0 h)

-- ---- headings

abbrev ResultThere : Scene → Option tree.Name → Type 0
ResultThere s None = Unit {0}
ResultThere s (Some name) = TypeThere s name

-- the frame in which the formals of a heading are read
abbrev pub first_frame : Scene → (r : ℕ) → Option tree.Params → tree.Block → Frame
first_frame s r params b = new_frame (with_block s r nothing (formal_names (formals_of params)) b) 0

-- the types of a heading are there
pub record HeadThere (s : Scene) (r : ℕ) (params : Option tree.Params) (result : Option tree.Name) (b : tree.Block) : Type 0 where
  pub formals : FormalsThere (first_frame s r params b) (formals_of params)
  pub result_there : ResultThere (read_formals (first_frame s r params b) (formals_of params)).scene result
  pub shallow : too_deep s ≡ []

result_later : (lo : ℕ) (s t : Scene) (o : Option tree.Name) → Later lo s t → AllByRecursion (λ x. x.token < lo) (result_types o)
    → ResultThere s o → ResultThere t o
result_later lo s t None h lt g = tt
result_later lo s t (Some name) h lt g = later_there lo s t h name lt.0 g

-- they are there again in a scene with more round it that is visible later
pub head_later : (lo : ℕ) (s t : Scene) (r : ℕ) (params : Option tree.Params) (result : Option tree.Name) (b : tree.Block) → Outer lo s t
    → AllByRecursion (λ x. x.token < lo) (formal_types (formals_of params) ++ result_types result)
    → HeadThere s r params result b → HeadThere t r params result b
head_later lo s t r params result b h lt g =
    let front = each_of_front (λ (x : tree.Name). x.token < lo) (formal_types (formals_of params)) (result_types result) lt in
    let back = each_of_back (λ (x : tree.Name). x.token < lo) (formal_types (formals_of params)) (result_types result) lt in
    let both = formals_later lo (first_frame s r params b) (first_frame t r params b) (formals_of params)
    (block_later lo s t r nothing (formal_names (formals_of params)) b h) front g.formals in
    record {
      formals = both.0;
      result_there = result_later lo _ _ result both.1 back g.result_there;
      shallow = subst (λ n. when (nat_le 8 (n - 1)) fault.NestedProcedure ≡ [])
          (all_extended_length lo s.blocks.below t.blocks.below h.below) g.shallow;
    }

-- a heading in which no rule is broken
there_all : (xs : List (Option FormalOf)) → AllThere xs → IsThere (all_formals xs)
there_all [] h = tt
there_all (None ∷ xs) h = absurd h.0
there_all (Some x ∷ xs) h = by (all_formals xs) (there_all xs h.1)
  where
    by : (o : Option (List FormalOf)) → IsThere o → IsThere (option_map (λ ys. x ∷ ys) o)
    by None t = absurd t
    by (Some y) t = tt

made_there : (fs : List BrokenRule) (h : List FormalOf → Heading) (o : Option (List FormalOf)) → fs ≡ [] → IsThere o
    → HeadingThere (if_unbroken fs (option_map h o))
made_there [] h None e t = absurd t
made_there [] h (Some x) e t = tt
made_there (b ∷ bs) h o e t = absurd (cc)

-- with a result, or without
headed_sound : (f : Frame) (o : Option tree.Name) → (heading_at f o).frame.faults ≡ [] → AllThere f.formals → Each NotBad f.scene
    → HeadingThere (heading_at f o).heading × ResultThere f.scene o
headed_sound f None e a h = (made_there f.faults (heading_with f None) (all_formals f.formals) e (there_all f.formals a), tt)
headed_sound f (Some name) e a h =
    let q : (read_type_name f.scene name).faults ≡ [] = nil_left _ _ (nil_right f.faults _ e) in
    let g = type_name_good 0 f.scene h name q in
    (by (read_type_name f.scene name).value g.there, g.there)
  where
    by : (o : Option ℕ) → IsThere o → HeadingThere
        (option_and_then (function_heading (with_faults f
        ((read_type_name f.scene name).faults ++ broken_at name.node (result_rules f.scene (read_type_name f.scene name).value)))) o)
    by None t = absurd t
    by (Some v) t = made_there (f.faults
        ++ ((read_type_name f.scene name).faults ++ broken_at name.node (result_rules f.scene (read_type_name f.scene name).value)))
        (heading_with (with_faults f ((read_type_name f.scene name).faults
        ++ broken_at name.node (result_rules f.scene (read_type_name f.scene name).value))) (Some v)) (all_formals f.formals) e
        (there_all f.formals a)

headed_quiet : (f : Frame) (o : Option tree.Name) → (heading_at f o).frame.faults ≡ [] → f.faults ≡ []
headed_quiet f None e = e
headed_quiet f (Some name) e = nil_left f.faults _ e

-- the heading is there, and so are its types
abbrev pub HeadSound : Scene → (r n : ℕ) → Option tree.Params → Option tree.Name → tree.Block → Type 0
HeadSound s r n params result b = HeadingThere (read_heading s r n params result b).heading × HeadThere s r params result b

pub head_sound : (s : Scene) (r n : ℕ) (params : Option tree.Params) (result : Option tree.Name) (b : tree.Block)
    → Each NotBad (first_frame s r params b).scene → (read_heading s r n params result b).frame.faults ≡ []
    → HeadSound s r n params result b
head_sound s r n params result b h e = by (too_deep s) refl e
  where
    made : too_deep s ≡ [] → (heading_at (read_formals (first_frame s r params b) (formals_of params)) result).frame.faults ≡ []
        → HeadingThere (heading_at (read_formals (first_frame s r params b) (formals_of params)) result).heading
        × HeadThere s r params result b
    made i e =
        let q = headed_quiet (read_formals (first_frame s r params b) (formals_of params)) result e in
        let t = formals_there (first_frame s r params b) (formals_of params) q h in
        let g = headed_sound (read_formals (first_frame s r params b) (formals_of params)) result e
        (formals_all (first_frame s r params b) (formals_of params) t tt)
        (formals_each NotBad plain_not_bad (first_frame s r params b) (formals_of params) t h) in
        (g.0, record { formals = t; result_there = g.1; shallow = i })

    by : (d : List CheckFault) → too_deep s ≡ d
        → (with_depth d n (heading_at (read_formals (first_frame s r params b) (formals_of params)) result)).frame.faults ≡ []
        → HeadingThere (with_depth d n (heading_at (read_formals (first_frame s r params b) (formals_of params)) result)).heading
        × HeadThere s r params result b
    by [] i e = made i e
    by (x ∷ xs) i e = absurd (let q : broken_at n (x ∷ xs) ≡ [] =
        nil_right (heading_at (read_formals (first_frame s r params b) (formals_of params)) result).frame.faults _ e in cc)

-- the scene of a heading, with its parameters
headed_scene : (P : ℕ → Entry → Type 0) (f : Frame) (o : Option tree.Name) → Each P f.scene → Each P (heading_at f o).frame.scene
headed_scene P f None h = h
headed_scene P f (Some name) h = h

pub head_each : (P : ℕ → Entry → Type 0) → ((n : ℕ) (e : Entry) → IsPlain e → P n e)
    → (s : Scene) (r n : ℕ) (params : Option tree.Params) (result : Option tree.Name) (b : tree.Block) → HeadThere s r params result b
    → Each P (first_frame s r params b).scene → Each P (read_heading s r n params result b).frame.scene
head_each P plain s r n params result b t h =
    by (too_deep s) (headed_scene P (read_formals (first_frame s r params b) (formals_of params)) result
    (formals_each P plain (first_frame s r params b) (formals_of params) t.formals h))
  where
    by : (d : List CheckFault) → Each P (heading_at (read_formals (first_frame s r params b) (formals_of params)) result).frame.scene
        → Each P (with_depth d n (heading_at (read_formals (first_frame s r params b) (formals_of params)) result)).frame.scene
    by [] h = h
    by (x ∷ xs) h = h

formals_grown : (f : Frame) (xs : List tree.Formal) → FormalsThere f xs → Grown 0 f.scene (read_formals f xs).scene
unfolding FormalsThere
formals_grown f [] t = grown_same 0 f.scene
formals_grown f (x ∷ xs) t =
    grown_twice (params_grown f (x.type_name.token + 1) x.mode (read_type_name f.scene x.type_name).value (all_names x.names) t.0)
    (formals_grown (formal_in f x (read_type_name f.scene x.type_name)) xs t.1)

-- a heading leaves the headings that were read
pub head_headings : (s : Scene) (r n : ℕ) (params : Option tree.Params) (result : Option tree.Name) (b : tree.Block)
    → HeadThere s r params result b → (read_heading s r n params result b).frame.scene.headings ≡ (first_frame s r params b).scene.headings
head_headings s r n params result b t = by (too_deep s)
    ∙ (result_same result ∙ ap (λ x. x.headings) (formals_grown (first_frame s r params b) (formals_of params) t.formals).is)
  where
    by : (d : List CheckFault) → (with_depth d n
        (heading_at (read_formals (first_frame s r params b) (formals_of params)) result)).frame.scene.headings
        ≡ (heading_at (read_formals (first_frame s r params b) (formals_of params)) result).frame.scene.headings
    by [] = refl
    by (x ∷ xs) = refl

    result_same : (o : Option tree.Name) → (heading_at (read_formals (first_frame s r params b) (formals_of params)) o).frame.scene.headings
        ≡ (read_formals (first_frame s r params b) (formals_of params)).scene.headings
    result_same None = refl
    result_same (Some name) = refl

-- and the number of its routine
pub head_routine : (s : Scene) (r n : ℕ) (params : Option tree.Params) (result : Option tree.Name) (b : tree.Block)
    → HeadThere s r params result b → (read_heading s r n params result b).frame.scene.routine ≡ (first_frame s r params b).scene.routine
head_routine s r n params result b t = by (too_deep s)
    ∙ (result_same result ∙ ap (λ x. x.routine) (formals_grown (first_frame s r params b) (formals_of params) t.formals).is)
  where
    by : (d : List CheckFault) → (with_depth d n
        (heading_at (read_formals (first_frame s r params b) (formals_of params)) result)).frame.scene.routine
        ≡ (heading_at (read_formals (first_frame s r params b) (formals_of params)) result).frame.scene.routine
    by [] = refl
    by (x ∷ xs) = refl

    result_same : (o : Option tree.Name) → (heading_at (read_formals (first_frame s r params b) (formals_of params)) o).frame.scene.routine
        ≡ (read_formals (first_frame s r params b) (formals_of params)).scene.routine
    result_same None = refl
    result_same (Some name) = refl

-- and the blocks round it
pub head_below : (s : Scene) (r n : ℕ) (params : Option tree.Params) (result : Option tree.Name) (b : tree.Block)
    → HeadThere s r params result b → (read_heading s r n params result b).frame.scene.blocks.below
    ≡ (first_frame s r params b).scene.blocks.below
head_below s r n params result b t = by (too_deep s)
    ∙ (result_same result ∙ ap (λ x. x.blocks.below) (formals_grown (first_frame s r params b) (formals_of params) t.formals).is)
  where
    by : (d : List CheckFault) → (with_depth d n
        (heading_at (read_formals (first_frame s r params b) (formals_of params)) result)).frame.scene.blocks.below
        ≡ (heading_at (read_formals (first_frame s r params b) (formals_of params)) result).frame.scene.blocks.below
    by [] = refl
    by (x ∷ xs) = refl

    result_same : (o : Option tree.Name) → (heading_at (read_formals (first_frame s r params b) (formals_of params))
        o).frame.scene.blocks.below
        ≡ (read_formals (first_frame s r params b) (formals_of params)).scene.blocks.below
    result_same None = refl
    result_same (Some name) = refl
