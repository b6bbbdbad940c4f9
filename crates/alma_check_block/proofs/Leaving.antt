-- A heading is read in a block of its own: behind that block the scene is as it was.
use Rattle.std.proofs.Common.{◌≡◌, ℕ, suc, ◌+◌, ◌-◌, ◌<◌, Bool, true, false, List, [], ◌∷◌, ◌++◌, Option, None, Some, length, take, get_or}
use Rattle.std.proofs.Common.{set, refl, sym, ap, subst, ◌∙◌, arith}
use Rattle.std.specs.Prelude.{if◌then◌else◌}
use Rattle.std.proofs.lemmas.List.{take_at}
use Rattle.alma_base.specs.Choice.{if_true}
use Rattle.alma_base.specs.declared.fault.CheckFault.{CheckFault}
use Rattle.alma_tree.specs.declared.leaf.Mode.{Mode}
use Rattle.alma_names.specs.declared.block.Entry.{Entry}
use Rattle.alma_names.specs.declared.block.Entry.TheVariants as entry
use Rattle.alma_names.specs.Blocks.{shape_id}
use Rattle.alma_names.specs.Scopes.{Blocks, with_declared, with_new_block, without_top_block}
use Rattle.alma_rules.specs.Numbered as tree
use Rattle.alma_rules.specs.Judgement.{broken_at}
use Rattle.alma_rules.specs.Scene.{Scene, Returns, nothing, Heading, is_first, is_structured, text_at}
use Rattle.alma_rules.specs.Types as types
use Rattle.alma_rules.specs.Decls as rules
use Rattle.alma_check_type.specs.Around.{Outer, outer_of, leave_block}
use Rattle.alma_check_type.specs.Told.{fault_of}
use Rattle.alma_rules.specs.Answers.{first}
use Rattle.alma_rules.proofs.Limited.{limited_scene}
use Rattle.alma_check_block.specs.declared.frame.Frame.{Frame}
use Rattle.alma_check_block.specs.Shown.{ToldFrame, told_frame, frame_with_scene}
use Rattle.alma_check_block.proofs.Frames.{moved, scene_is}

-- what is outside of the top block of a scene
abbrev outside : Scene → Scene
outside t = record t { blocks = record { below = t.blocks.below; top = [] }; declares = []; routine = 0; returns = nothing }

declared_out : (s : Scene) (name : tree.Name) (from : ℕ) (e : Entry) → outside (types.declare_name s name from e) ≡ outside s
declared_out s name from e = by (is_first s name)
  where
    by : (b : Bool) → outside (if b then record s
        { blocks = with_declared s.blocks (record { name = text_at s name.token; from = from; entry = e }) } else s) ≡ outside s
    by true = refl
    by false = refl

param_out : (f : rules.Frame) (from : ℕ) (mode : Option Mode) (o : Option ℕ) (name : tree.Name)
    → outside (rules.param_in f from mode o name).scene ≡ outside f.scene
param_out f from mode None name = declared_out f.scene name from entry.Bad
param_out f from mode (Some shape) name =
    by (is_first f.scene name) (declared_out f.scene name from (entry.Variable (shape_id shape) (rules.param_access mode f.slots)))
  where
    by : (b : Bool) → outside (types.declare_name f.scene name from (entry.Variable (shape_id shape) (rules.param_access mode f.slots)))
        ≡ outside f.scene
        → outside (if_true b (λ u. rules.within_limit name f
        (rules.with_param f name from mode shape (rules.param_kind (is_structured f.scene shape) mode)))
        (λ u. rules.with_faults f (broken_at name.node (types.redeclaration_rules f.scene name)))).scene
        ≡ outside f.scene
    by true e = ap outside (limited_scene name f
        (rules.with_param f name from mode shape (rules.param_kind (is_structured f.scene shape) mode))) ∙ e
    by false e = refl

params_out : (f : rules.Frame) (from : ℕ) (mode : Option Mode) (o : Option ℕ) (xs : List tree.Name)
    → outside (rules.params_in f from mode o xs).scene ≡ outside f.scene
params_out f from mode o [] = refl
params_out f from mode o (x ∷ xs) = params_out (rules.param_in f from mode o x) from mode o xs ∙ param_out f from mode o x

formals_out : (f : rules.Frame) (xs : List tree.Formal) → outside (rules.read_formals f xs).scene ≡ outside f.scene
formals_out f [] = refl
formals_out f (x ∷ xs) =
    formals_out (rules.formal_in f x (types.read_type_name f.scene x.type_name)) xs
    ∙ params_out f (x.type_name.token + 1) x.mode (types.read_type_name f.scene x.type_name).value (types.all_names x.names)

routine_out : (s : Scene) (r : ℕ) (d : tree.Decl) → outside (rules.with_routine s r d) ≡ outside s
routine_out s r (tree.const_decl n xs) = refl
routine_out s r (tree.type_decl n xs) = refl
routine_out s r (tree.var_decl n xs) = refl
routine_out s r (tree.procedure n name params result b end_name) = declared_out s name 0 (entry.Routine r)

routines_out : (s : Scene) (r : ℕ) (x : tree.DeclTail) → outside (rules.with_routines s r x) ≡ outside s
routines_out s r tree.no_decl = refl
routines_out s r (tree.more_decl d rest) = routines_out (rules.with_routine s r d) (r + rules.decl_routines d) rest ∙ routine_out s r d

-- a scene with a new block
abbrev opened : Scene → Scene
opened s = record s { blocks = with_new_block s.blocks }

block_out : (s : Scene) (r : ℕ) (returns : Returns) (names : List tree.Name) (b : tree.Block)
    → outside (rules.with_block s r returns names b) ≡ outside (opened s)
block_out s r returns names (tree.block n ds body) =
    routines_out (let i : Scene = record s {
      blocks = with_new_block s.blocks;
      declares =
          rules.with_texts s (names ++ rules.block_names (tree.block n ds body));
      routine = r;
      returns = returns;
    } in i) (r + 1) ds

headed_out : (f : rules.Frame) (o : Option tree.Name) → outside (rules.heading_at f o).frame.scene ≡ outside f.scene
headed_out f None = refl
headed_out f (Some name) = refl

head_out : (s : Scene) (r n : ℕ) (params : Option tree.Params) (result : Option tree.Name) (b : tree.Block)
    → outside (rules.read_heading s r n params result b).frame.scene ≡ outside (opened s)
head_out s r n params result b =
    by (rules.too_deep s) ∙ headed_out read result ∙ formals_out begun (rules.formals_of params)
    ∙ block_out s r nothing (rules.formal_names (rules.formals_of params)) b
  where
    begun : rules.Frame
    begun = rules.new_frame (rules.with_block s r nothing (rules.formal_names (rules.formals_of params)) b) 0

    read : rules.Frame
    read = rules.read_formals begun (rules.formals_of params)

    by : (d : List CheckFault) → outside (rules.with_depth d n (rules.heading_at read result)).frame.scene ≡ outside
        (rules.heading_at read result).frame.scene
    by [] = refl
    by (x ∷ xs) = refl

last_of : {A : Type 0} (xs : List A) (x d : A) → get_or (xs ++ x ∷ []) (length xs) d ≡ x
last_of [] x d = refl
last_of (y ∷ ys) x d = last_of ys x d

length_more : {A : Type 0} (xs : List A) (x : A) → length (xs ++ x ∷ []) ≡ suc (length xs)
length_more [] x = refl
length_more (y ∷ ys) x = ap suc (length_more ys x)

length_less : {A : Type 0} (xs : List A) (x : A) → length (xs ++ x ∷ []) - 1 ≡ length xs
length_less xs x = omega (arith, length_more xs x)

closed : (b : Blocks) → without_top_block (with_new_block b) ≡ b
closed b =
    ap (λ n. let c : Blocks = record { below = take n (b.below ++ b.top ∷ []); top = get_or (b.below ++ b.top ∷ []) n [] } in c)
    (length_less b.below b.top)
    ∙ ap (λ xs. let c : Blocks = record { below = xs; top = get_or (b.below ++ b.top ∷ []) (length b.below) [] } in c)
    (take_at b.below (b.top ∷ []) (length b.below) refl)
    ∙ ap (λ x. let c : Blocks = record { below = b.below; top = x } in c) (last_of b.below b.top [])

-- behind the block of a heading
pub head_left : (s : Scene) (r n : ℕ) (params : Option tree.Params) (result : Option tree.Name) (b : tree.Block)
    → leave_block (rules.read_heading s r n params result b).frame.scene (outer_of s) ≡ s
head_left s r n params result b =
    ap (λ i. leave_block i (outer_of s)) (head_out s r n params result b)
    ∙ ap (λ x. let i : Scene = record s { blocks = x } in i) (closed s.blocks)

more_than_none : {A : Type 0} (xs : List A) (x : A) → 0 < length (xs ++ x ∷ [])
more_than_none xs x = omega (arith, length_more xs x)

-- there is a block round it
pub head_inside : (s : Scene) (r n : ℕ) (params : Option tree.Params) (result : Option tree.Name) (b : tree.Block)
    → 0 < length (rules.read_heading s r n params result b).frame.scene.blocks.below
head_inside s r n params result b = subst (λ i. 0 < length i.blocks.below) (sym (head_out s r n params result b))
    (more_than_none s.blocks.below s.blocks.top)

-- ---- a procedure among declarations

module _ (s : Scene) (f : rules.Frame) (r n : ℕ) (name : tree.Name) (params : Option tree.Params) (result : Option tree.Name)
    (b : tree.Block) where
  abbrev head : rules.FramedHeading
  head = rules.read_heading s r n params result b

  -- the frame behind its heading, of which the rules are told in a scene
  abbrev noted : Scene → rules.Frame
  noted i =
      record f {
        faults = f.faults ++ broken_at name.node (types.redeclaration_rules i name)
            ++ (rules.read_heading i r n params result b).frame.faults;
        scene = record i { headings = set i.headings r (rules.read_heading i r n params result b).heading };
      }

  pub heading_fault : (t : Scene) (y : Frame) → frame_with_scene t y ≡ told_frame head.frame → fault_of y.fault ≡ first head.frame.faults
  heading_fault t y h = ap (λ (u : ToldFrame). u.fault) h

  pub heading_inside : (t : Scene) (y : Frame) → frame_with_scene t y ≡ told_frame head.frame → 0 < length t.blocks.below
  heading_inside t y h = subst (λ i. 0 < length i.blocks.below) (sym (scene_is t y head.frame h)) (head_inside s r n params result b)

  behind_heading : (t j : Scene) (y : Frame) (o : Outer) → frame_with_scene t y ≡ told_frame head.frame → o ≡ outer_of s
      → j ≡ leave_block t o → j ≡ s
  behind_heading t j y o h e d = d ∙ ap (λ i. leave_block i o) (scene_is t y head.frame h) ∙ ap (λ x. leave_block head.frame.scene x) e
      ∙ head_left s r n params result b

  pub procedure_read : (t j k : Scene) (x y z : Frame) (o : Outer) (v : Option Heading) → frame_with_scene s x ≡ told_frame f
      → frame_with_scene s z ≡ told_frame (rules.with_faults (rules.with_faults f (broken_at name.node (types.redeclaration_rules s name)))
      head.frame.faults)
      → frame_with_scene t y ≡ told_frame head.frame → o ≡ outer_of s → j ≡ leave_block t o → v ≡ head.heading
      → k ≡ record j { headings = set j.headings r v }
      → frame_with_scene k z ≡ told_frame (rules.heading_in f r name (rules.read_heading f.scene r n params result b))
  procedure_read t j k x y z o v h g q e d u m =
      let same : k ≡ record s { headings = set s.headings r head.heading } =
      m ∙ ap (λ i. let w : Scene = record i { headings = set i.headings r v } in w) (behind_heading t j y o q e d)
      ∙ ap (λ hd. let w : Scene = record s { headings = set s.headings r hd } in w) u in
      ap (λ w. moved w k) g
      ∙ ap (λ i. moved (told_frame (rules.with_faults (rules.with_faults f (broken_at name.node (types.redeclaration_rules s name)))
      head.frame.faults)) i) same
      ∙ ap (λ i. told_frame (noted i)) (scene_is s x f h)
