-- Headings: a heading fits the parameters that it makes, and makes the same ones where it is read again in a later scene.
use Rattle.std.proofs.Common.{◌≡◌, ℕ, suc, ◌+◌, ◌<◌, Bool, true, false, List, [], ◌∷◌, ◌++◌, length, Option, None, Some, refl, sym, ap, ◌∙◌}
use Rattle.std.proofs.Common.{subst, arith, append_assoc, append-nil, length-append}
use Rattle.std.specs.Prelude.{not, nat_eq, nat_le, slice_get, option_map, option_and_then, unwrap_or, if◌then◌else◌}
use Rattle.std.specs.List.{AllByRecursion}
use Rattle.alma_base.specs.Choice.{if_true}
use Rattle.alma_base.specs.Limits.{cell_limit}
use Rattle.alma_base.specs.Numbers.{whole_range}
use Rattle.alma_base.specs.declared.fault.CheckFault.{CheckFault}
use Rattle.alma_base.specs.declared.fault.CheckFault.TheVariants as fault
use Rattle.alma_tree.specs.declared.leaf.Mode.{Mode}
use Rattle.alma_names.specs.declared.block.Entry.{Entry}
use Rattle.alma_names.specs.declared.block.Entry.TheVariants as entry
use Rattle.alma_names.specs.Shapes.{PlainShape, range_at, cells_at}
use Rattle.alma_names.specs.Blocks.{shape_id}
use Rattle.alma_names.specs.Scopes.{with_declared}
use Rattle.alma_ir.specs.declared.program.Param.{Param}
use Rattle.alma_ir.specs.Checked.{IsOrdered}
use Rattle.alma_ir.proofs.Each.{each_of_front, each_of_back}
use Rattle.alma_rules.specs.Numbered as tree
use Rattle.alma_rules.specs.Judgement.{BrokenRule, broken_at, unless, if_unbroken, when}
use Rattle.alma_rules.specs.Scene.{Scene, Heading, FormalOf, Returns, nothing, Found, absent, bad, constant, named, variable, routine}
use Rattle.alma_rules.specs.Scene.{found, found_as, is_first, first_token, text_at, text_of, is_structured}
use Rattle.alma_rules.specs.Types.{declare_name, redeclaration_rules, type_name_rules, shape_in, read_type_name, all_names}
use Rattle.alma_rules.specs.Decls.{Frame, with_faults, too_large, within_limit, with_block, with_routine, with_routines, decl_routines}
use Rattle.alma_rules.specs.Decls.{param_access, declared_cells, param_kind, with_param, param_in, params_in, formal_in, read_formals}
use Rattle.alma_rules.specs.Decls.{formals_of, formal_names, structured_result, result_rules, too_deep, all_formals, heading_with}
use Rattle.alma_rules.specs.Decls.{function_heading, proper_heading, heading_at, with_depth, read_heading}
use Rattle.alma_rules.specs.Decls as decls
use Rattle.alma_rules.proofs.Sound.{IsThere, nil_left, nil_right, quiet}
use Rattle.alma_rules.proofs.Limited.{limited_case, limited_scene, limited_faults, limited_quiet}
use Rattle.alma_resolved.specs.Scenes.{structured_in}
use Rattle.alma_resolved.specs.Stand.{formal_types, result_types}
use Rattle.alma_resolved.proofs.Fits.{When, when_some, when_none, when_node}
use Rattle.alma_resolved.proofs.Scenes.{no_fault_alone}
use Rattle.alma_resolved.proofs.Lookups.{Each, found_each, each_more}
use Rattle.alma_resolved.proofs.Later.{Later, Outer, later_type, later_declared, block_later}
use Rattle.alma_resolved.proofs.HeadsSound.{TypeThere, first_frame}
use Rattle.alma_resolved.proofs.DeclsSound.{block_each}
use Rattle.alma_resolved.proofs.Tables.{TableKeeps, structured_still, simple_still, range_still, cells_more, ordered_at}
use Rattle.alma_resolved.proofs.Entries.{Longer, FormalKeeps, FormalsKeep}
use Rattle.alma_resolved.proofs.ParamsKeep.{Paired}
use Rattle.alma_resolved.proofs.TypesKeep.{IsShape}

-- ---- names of types

type_value : (s : Scene) (name : tree.Name) → (read_type_name s name).value ≡ shape_in (found s name)
type_value s name = by (found s name)
  where
    by : (f : Found) → unless (type_name_rules f (shape_in f)) (shape_in f) ≡ shape_in f
    by absent = refl
    by bad = refl
    by (constant shape v) = refl
    by (named shape) = refl
    by (variable shape root) = refl
    by (routine q up None) = refl
    by (routine q up (Some h)) = refl

later_value : (lo : ℕ) (s t : Scene) → Later lo s t → (name : tree.Name) → name.token < lo
    → (read_type_name t name).value ≡ (read_type_name s name).value
later_value lo s t h name lt = type_value t name ∙ (sym (later_type lo s t h name lt) ∙ sym (type_value s name))

-- each name of a type names one of the table
abbrev pub NamedKeeps : List PlainShape → ℕ → Entry → Type 0
NamedKeeps t n (entry.Constant shape v) = Unit {0}
NamedKeeps t n (entry.Named shape) = shape.0 < length t
NamedKeeps t n (entry.Variable shape a) = Unit {0}
NamedKeeps t n (entry.Routine q) = Unit {0}
NamedKeeps t n entry.Bad = Unit {0}

named_shape : (t : List PlainShape) (s : Scene) (name : tree.Name) → Each (NamedKeeps t) s → When (read_type_name s name).value (IsShape t)
named_shape t s name h = when_node (type_name_rules (found s name)) (shape_in (found s name))
    (found_each (NamedKeeps t) (λ f. When (shape_in f) (IsShape t)) s h when_none by name) (λ x g q. g)
  where
    by : (n : ℕ) (e : Entry) → NamedKeeps t n e → When (shape_in (found_as s n e)) (IsShape t)
    by n (entry.Constant shape v) p = when_none
    by n (entry.Named shape) p = when_some shape.0 p
    by n (entry.Variable shape a) p = when_none
    by n (entry.Routine q) p = when_none
    by n entry.Bad p = when_none

each_declared : (P : ℕ → Entry → Type 0) (s : Scene) (name : tree.Name) (from : ℕ) (e : Entry) → Each P s → ((n : ℕ) → P n e)
    → Each P (declare_name s name from e)
each_declared P s name from e h f = by (is_first s name)
  where
    by : (b : Bool) → Each P (if b then record s
        { blocks = with_declared s.blocks (record { name = text_at s name.token; from = from; entry = e }) } else s)
    by true = each_more P 0 s.blocks.below s.blocks.top (record { name = text_at s name.token; from = from; entry = e } ∷ []) h (f, tt)
    by false = h

-- ---- the scene behind a parameter

declared_not : (s : Scene) (name : tree.Name) (from : ℕ) (e : Entry) → is_first s name ≡ false → s ≡ declare_name s name from e
declared_not s name from e h = by (is_first s name) h
  where
    by : (b : Bool) → b ≡ false → s ≡ (if b then record s
        { blocks = with_declared s.blocks (record { name = text_at s name.token; from = from; entry = e }) } else s)
    by true q = absurd (let bad : true ≡ false = q in cc)
    by false q = refl

param_scene : (f : Frame) (from : ℕ) (mode : Option Mode) (shape : ℕ) (name : tree.Name)
    → (param_in f from mode (Some shape) name).scene ≡ declare_name f.scene name from
    (entry.Variable (shape_id shape) (param_access mode f.slots))
param_scene f from mode shape name = by (is_first f.scene name) refl
  where
    by : (b : Bool) → is_first f.scene name ≡ b
        → (if_true b (λ u. within_limit name f (with_param f name from mode shape (param_kind (is_structured f.scene shape) mode)))
        (λ u. with_faults f (broken_at name.node (redeclaration_rules f.scene name)))).scene
        ≡ declare_name f.scene name from (entry.Variable (shape_id shape) (param_access mode f.slots))
    by true e = limited_scene name f (with_param f name from mode shape (param_kind (is_structured f.scene shape) mode))
    by false e = declared_not f.scene name from (entry.Variable (shape_id shape) (param_access mode f.slots)) e

declared_shapes : (s : Scene) (name : tree.Name) (from : ℕ) (e : Entry) → (declare_name s name from e).shapes ≡ s.shapes
declared_shapes s name from e = by (is_first s name)
  where
    by : (b : Bool) → (if b then record s
        { blocks = with_declared s.blocks (record { name = text_at s name.token; from = from; entry = e }) } else s).shapes ≡ s.shapes
    by true = refl
    by false = refl

param_shapes : (f : Frame) (from : ℕ) (mode : Option Mode) (shape : ℕ) (name : tree.Name)
    → (param_in f from mode (Some shape) name).scene.shapes ≡ f.scene.shapes
param_shapes f from mode shape name = ap (λ (s : Scene). s.shapes) (param_scene f from mode shape name)
    ∙ declared_shapes f.scene name from (entry.Variable (shape_id shape) (param_access mode f.slots))

-- ---- one heading in two scenes

-- the same parameters, slots and declared cells, and as many formals
record Alike (f g : Frame) : Type 0 where
  params : g.params ≡ f.params
  slots : g.slots ≡ f.slots
  declared : g.declared ≡ f.declared
  formals : length g.formals ≡ length f.formals

limited_alike : (name : tree.Name) (f g f1 g1 : Frame) → Alike f g → Alike f1 g1 → Alike (within_limit name f f1) (within_limit name g g1)
limited_alike name f g f1 g1 h k = by (nat_le f1.declared cell_limit) (nat_le g1.declared cell_limit)
    (ap (λ n. nat_le n cell_limit) k.declared)
  where
    by : (b d : Bool) → d ≡ b → Alike (if_true b (λ _. f1) (λ _. too_large f name f1.scene))
        (if_true d (λ _. g1) (λ _. too_large g name g1.scene))
    by true true e = k
    by false false e = record { params = h.params; slots = h.slots; declared = h.declared; formals = h.formals }
    by true false e = absurd (cc)
    by false true e = absurd (cc)

-- two frames of one heading, the second in a later scene
record Twins (lo : ℕ) (f g : Frame) : Type 0 where
  later : Later lo f.scene g.scene
  long : Longer f.scene g.scene
  alike : Alike f g

same_first : (s t : Scene) (name : tree.Name) → s.tokens ≡ t.tokens → s.declares ≡ t.declares → is_first s name ≡ is_first t name
same_first s t name h k =
    ap (λ ts. nat_eq (first_token (text_of (slice_get ts name.token)) s.declares name.token) name.token) h
    ∙ ap (λ x. nat_eq (first_token (text_at t name.token) x name.token) name.token) k

-- the parameter of a name, over a table
abbrev made_param : List PlainShape → Option Mode → (shape slot : ℕ) → Param
made_param t mode shape n = record {
  kind = param_kind (structured_in t shape) mode;
  slot = n;
  cells = cells_at t shape;
  range =
      unwrap_or (range_at t shape) whole_range;
}

made_same : (t u : List PlainShape) (mode : Option Mode) (shape n : ℕ) → shape < length t
    → made_param (t ++ u) mode shape n ≡ made_param t mode shape n
made_same t u mode shape n lt = rw (structured_still t u shape lt, cells_more t u shape lt, range_still t u shape lt) refl

abbrev slots_of : Param → ℕ
slots_of q = decls.param_slots q.kind q.cells

param_twins : (lo : ℕ) (f g : Frame) (from : ℕ) (mode : Option Mode) (shape : ℕ) (name : tree.Name) → shape < length f.scene.shapes
    → Twins lo f g
    → Twins lo (param_in f from mode (Some shape) name) (param_in g from mode (Some shape) name)
param_twins lo f g from mode shape name lt h = record {
  later = subst (λ s. Later lo s (param_in g from mode (Some shape) name).scene) (sym (param_scene f from mode shape name))
      (subst (λ s. Later lo (declare_name f.scene name from (entry.Variable (shape_id shape) (param_access mode f.slots))) s)
      (sym (param_scene g from mode shape name))
      (later_declared lo f.scene g.scene name from (entry.Variable (shape_id shape) (param_access mode f.slots))
      (entry.Variable (shape_id shape) (param_access mode g.slots)) refl h.later));
  long = record {
    tail = h.long.tail;
    is = param_shapes g from mode shape name ∙ (h.long.is ∙ ap (λ x. x ++ h.long.tail) (sym (param_shapes f from mode shape name)));
  };
  alike =
      let a = all (is_first f.scene name) (is_first g.scene name) (same_first f.scene g.scene name h.later.tokens h.later.declares) in
      record {
        params = a.params;
        slots = a.slots;
        declared = a.declared;
        formals = omega (arith, a.formals, length-append (kept f).formals (formal ∷ []), length-append (kept g).formals (formal ∷ []));
      };
}
  where
    formal : Option FormalOf
    formal = Some (record { mode = mode; shape = shape })

    kept : Frame → Frame
    kept x = if_true (is_first x.scene name)
        (λ u. within_limit name x (with_param x name from mode shape (param_kind (is_structured x.scene shape) mode)))
        (λ u. with_faults x (broken_at name.node (redeclaration_rules x.scene name)))

    one : made_param g.scene.shapes mode shape g.slots ≡ made_param f.scene.shapes mode shape f.slots
    one = ap (λ x. made_param x mode shape g.slots) h.long.is
        ∙ (made_same f.scene.shapes h.long.tail mode shape g.slots lt ∙ ap (λ n. made_param f.scene.shapes mode shape n) h.alike.slots)

    taken : Alike (with_param f name from mode shape (param_kind (is_structured f.scene shape) mode))
        (with_param g name from mode shape (param_kind (is_structured g.scene shape) mode))
    taken = record {
      params = ap (λ x. x ++ made_param g.scene.shapes mode shape g.slots ∷ []) h.alike.params ∙ ap (λ q. f.params ++ q ∷ []) one;
      slots = ap (λ n. n + slots_of (made_param g.scene.shapes mode shape g.slots)) h.alike.slots ∙ ap (λ q. f.slots + slots_of q) one;
      declared = ap (λ n. n + declared_cells mode (cells_at g.scene.shapes shape)) h.alike.declared
          ∙ ap (λ (q : Param). f.declared + declared_cells mode q.cells) one;
      formals = h.alike.formals;
    }

    all : (b d : Bool) → b ≡ d
        → Alike (if_true b (λ u. within_limit name f (with_param f name from mode shape (param_kind (is_structured f.scene shape) mode)))
        (λ u. with_faults f (broken_at name.node (redeclaration_rules f.scene name))))
        (if_true d (λ u. within_limit name g (with_param g name from mode shape (param_kind (is_structured g.scene shape) mode)))
        (λ u. with_faults g (broken_at name.node (redeclaration_rules g.scene name))))
    all true true e = limited_alike name f g (with_param f name from mode shape (param_kind (is_structured f.scene shape) mode))
        (with_param g name from mode shape (param_kind (is_structured g.scene shape) mode)) h.alike taken
    all false false e = record { params = h.alike.params; slots = h.alike.slots; declared = h.alike.declared; formals = h.alike.formals }
    all true false e = absurd (cc)
    all false true e = absurd (cc)

params_twins : (lo : ℕ) (f g : Frame) (from : ℕ) (mode : Option Mode) (shape : ℕ) (xs : List tree.Name) → shape < length f.scene.shapes
    → Twins lo f g → Twins lo (params_in f from mode (Some shape) xs) (params_in g from mode (Some shape) xs)
params_twins lo f g from mode shape [] lt h = h
params_twins lo f g from mode shape (x ∷ xs) lt h =
    params_twins lo (param_in f from mode (Some shape) x) (param_in g from mode (Some shape) x) from mode shape xs
    (subst (λ t. shape < length t) (sym (param_shapes f from mode shape x)) lt) (param_twins lo f g from mode shape x lt h)

-- parameters declare no type
params_named : (t : List PlainShape) (f : Frame) (from : ℕ) (mode : Option Mode) (o : Option ℕ) (xs : List tree.Name)
    → Each (NamedKeeps t) f.scene → Each (NamedKeeps t) (params_in f from mode o xs).scene
params_named t f from mode o [] h = h
params_named t f from None None (x ∷ xs) h =
    params_named t (param_in f from None None x) from None None xs (each_declared (NamedKeeps t) f.scene x from entry.Bad h (λ n. tt))
params_named t f from (Some m) None (x ∷ xs) h =
    params_named t (param_in f from (Some m) None x) from (Some m) None xs
    (each_declared (NamedKeeps t) f.scene x from entry.Bad h (λ n. tt))
params_named t f from mode (Some shape) (x ∷ xs) h =
    params_named t (param_in f from mode (Some shape) x) from mode (Some shape) xs
    (subst (λ s. Each (NamedKeeps t) s) (sym (param_scene f from mode shape x))
    (each_declared (NamedKeeps t) f.scene x from (entry.Variable (shape_id shape) (param_access mode f.slots)) h (λ n. tt)))

params_shapes : (f : Frame) (from : ℕ) (mode : Option Mode) (o : Option ℕ) (xs : List tree.Name)
    → (params_in f from mode o xs).scene.shapes ≡ f.scene.shapes
params_shapes f from mode o [] = refl
params_shapes f from mode None (x ∷ xs) = params_shapes (param_in f from mode None x) from mode None xs
    ∙ declared_shapes f.scene x from entry.Bad
params_shapes f from mode (Some shape) (x ∷ xs) = params_shapes (param_in f from mode (Some shape) x) from mode (Some shape) xs
    ∙ param_shapes f from mode shape x

formal_twins : (lo : ℕ) (f g : Frame) (x : tree.Formal) → Twins lo f g → Each (NamedKeeps f.scene.shapes) f.scene → x.type_name.token < lo
    → TypeThere f.scene x.type_name
    → Twins lo (formal_in f x (read_type_name f.scene x.type_name)) (formal_in g x (read_type_name g.scene x.type_name))
formal_twins lo f g x h e lt t = by (read_type_name f.scene x.type_name).value (read_type_name g.scene x.type_name).value refl
    (later_value lo f.scene g.scene h.later x.type_name lt) t (named_shape f.scene.shapes f.scene x.type_name e)
  where
    add : (o p : Option ℕ) → Twins lo (params_in f (x.type_name.token + 1) x.mode o (all_names x.names))
        (params_in g (x.type_name.token + 1) x.mode p (all_names x.names)) → o ≡ (read_type_name f.scene x.type_name).value
        → p ≡ (read_type_name g.scene x.type_name).value
        → Twins lo (formal_in f x (read_type_name f.scene x.type_name)) (formal_in g x (read_type_name g.scene x.type_name))
    add o p w q r =
        let v = subst (λ (y : Option ℕ). Twins lo
        (params_in f (x.type_name.token + 1) x.mode (read_type_name f.scene x.type_name).value (all_names x.names))
        (params_in g (x.type_name.token + 1) x.mode y (all_names x.names))) r
        (subst (λ (y : Option ℕ). Twins lo (params_in f (x.type_name.token + 1) x.mode y (all_names x.names))
        (params_in g (x.type_name.token + 1) x.mode p (all_names x.names))) q w) in
        record {
          later = v.later;
          long = record { tail = v.long.tail; is = v.long.is };
          alike = record { params = v.alike.params; slots = v.alike.slots; declared = v.alike.declared; formals = v.alike.formals };
        }

    by : (o p : Option ℕ) → o ≡ (read_type_name f.scene x.type_name).value → p ≡ o → IsThere o → When o (IsShape f.scene.shapes)
        → Twins lo (formal_in f x (read_type_name f.scene x.type_name)) (formal_in g x (read_type_name g.scene x.type_name))
    by None p q r t w = absurd t
    by (Some a) p q r t w =
        add (Some a) (Some a) (params_twins lo f g (x.type_name.token + 1) x.mode a (all_names x.names) w.gives h) q
        (q ∙ sym (later_value lo f.scene g.scene h.later x.type_name lt))

-- ---- formals whose types are all there

-- each of these is there
pub record AllSome (xs : List (Option FormalOf)) : Type 0 where
  pub list : List FormalOf
  pub is : all_formals xs ≡ Some list

all_front : (xs ys : List (Option FormalOf)) (fs : List FormalOf) → all_formals (xs ++ ys) ≡ Some fs → AllSome xs
all_front [] ys fs e = record { list = []; is = refl }
all_front (None ∷ xs) ys fs e = absurd (cc)
all_front (Some x ∷ xs) ys fs e = by (all_formals (xs ++ ys)) e (all_front xs ys)
  where
    by : (o : Option (List FormalOf)) → option_map (λ zs. x ∷ zs) o ≡ Some fs → ((gs : List FormalOf) → o ≡ Some gs → AllSome xs)
        → AllSome (Some x ∷ xs)
    by None q f = absurd (cc)
    by (Some gs) q f = let r = f gs refl in record { list = x ∷ r.list; is = ap (λ o. option_map (λ zs. x ∷ zs) o) r.is }

all_none : (xs : List (Option FormalOf)) (fs : List FormalOf) → all_formals (xs ++ None ∷ []) ≡ Some fs → ⊥
all_none [] fs e = absurd (cc)
all_none (None ∷ xs) fs e = absurd (cc)
all_none (Some x ∷ xs) fs e = by (all_formals (xs ++ None ∷ [])) e (all_none xs)
  where
    by : (o : Option (List FormalOf)) → option_map (λ ys. x ∷ ys) o ≡ Some fs → ((gs : List FormalOf) → o ≡ Some gs → ⊥) → ⊥
    by None q f = absurd (cc)
    by (Some gs) q f = f gs refl

-- more formals stand behind those of a frame
record MoreFormals (f g : Frame) : Type 0 where
  more : List (Option FormalOf)
  is : g.formals ≡ f.formals ++ more

param_more : (f : Frame) (from : ℕ) (mode : Option Mode) (o : Option ℕ) (name : tree.Name) → MoreFormals f (param_in f from mode o name)
param_more f from mode None name = record { more = None ∷ []; is = refl }
param_more f from mode (Some shape) name = by (is_first f.scene name)
  where
    by : (b : Bool) → MoreFormals f (decls.with_formal
        (if_true b (λ u. within_limit name f (with_param f name from mode shape (param_kind (is_structured f.scene shape) mode)))
        (λ u. with_faults f (broken_at name.node (redeclaration_rules f.scene name)))) (Some (record { mode = mode; shape = shape })))
    by true = limited_case (λ x. MoreFormals f (decls.with_formal x (Some (record { mode = mode; shape = shape })))) name f
        (with_param f name from mode shape (param_kind (is_structured f.scene shape) mode))
        (λ le. record { more = Some (record { mode = mode; shape = shape }) ∷ []; is = refl })
        (record { more = Some (record { mode = mode; shape = shape }) ∷ []; is = refl })
    by false = record { more = Some (record { mode = mode; shape = shape }) ∷ []; is = refl }

more_twice : (f g h : Frame) → MoreFormals f g → MoreFormals g h → MoreFormals f h
more_twice f g h a b = record { more = a.more ++ b.more; is = b.is ∙ (ap (λ x. x ++ b.more) a.is ∙ append_assoc f.formals a.more b.more) }

params_more : (f : Frame) (from : ℕ) (mode : Option Mode) (o : Option ℕ) (xs : List tree.Name) → MoreFormals f (params_in f from mode o xs)
params_more f from mode o [] = record { more = []; is = sym (append-nil f.formals) }
params_more f from mode o (x ∷ xs) = more_twice f (param_in f from mode o x) (params_in (param_in f from mode o x) from mode o xs)
    (param_more f from mode o x) (params_more (param_in f from mode o x) from mode o xs)

formals_more_behind : (f : Frame) (xs : List tree.Formal) → MoreFormals f (read_formals f xs)
formals_more_behind f [] = record { more = []; is = sym (append-nil f.formals) }
formals_more_behind f (x ∷ xs) =
    let one = params_more f (x.type_name.token + 1) x.mode (read_type_name f.scene x.type_name).value (all_names x.names) in
    more_twice f (formal_in f x (read_type_name f.scene x.type_name)) (read_formals (formal_in f x (read_type_name f.scene x.type_name)) xs)
    (record { more = one.more; is = one.is }) (formals_more_behind (formal_in f x (read_type_name f.scene x.type_name)) xs)

-- where all formals are there, the first type is
first_there : (f : Frame) (x : tree.Formal) (xs : List tree.Formal) (fs : List FormalOf)
    → all_formals (read_formals f (x ∷ xs)).formals ≡ Some fs → TypeThere f.scene x.type_name
first_there f x xs fs e = by (read_type_name f.scene x.type_name).value refl
  where
    front : AllSome (params_in f (x.type_name.token + 1) x.mode (read_type_name f.scene x.type_name).value (all_names x.names)).formals
    front =
        let m = formals_more_behind (formal_in f x (read_type_name f.scene x.type_name)) xs in
        all_front (formal_in f x (read_type_name f.scene x.type_name)).formals m.more fs (ap all_formals (sym m.is) ∙ e)

    by : (o : Option ℕ) → (read_type_name f.scene x.type_name).value ≡ o → IsThere o
    by (Some a) q = tt
    by None q =
        let r : AllSome (params_in f (x.type_name.token + 1) x.mode None (all_names x.names)).formals =
        subst (λ o. AllSome (params_in f (x.type_name.token + 1) x.mode o (all_names x.names)).formals) q front in
        let g = param_in f (x.type_name.token + 1) x.mode None x.names.first in
        let m = params_more g (x.type_name.token + 1) x.mode None x.names.more in
        let two : AllSome g.formals = all_front g.formals m.more r.list (ap all_formals (sym m.is) ∙ r.is) in
        absurd (all_none f.formals two.list two.is)

formals_twins : (lo : ℕ) (f g : Frame) (xs : List tree.Formal) (fs : List FormalOf) → Twins lo f g
    → Each (NamedKeeps f.scene.shapes) f.scene → AllByRecursion (λ x. x.token < lo) (formal_types xs)
    → all_formals (read_formals f xs).formals ≡ Some fs
    → Twins lo (read_formals f xs) (read_formals g xs)
formals_twins lo f g [] fs h e lt t = h
formals_twins lo f g (x ∷ xs) fs h e lt t =
    let next = params_named f.scene.shapes f (x.type_name.token + 1) x.mode (read_type_name f.scene x.type_name).value (all_names x.names)
    e in
    let same = params_shapes f (x.type_name.token + 1) x.mode (read_type_name f.scene x.type_name).value (all_names x.names) in
    formals_twins lo (formal_in f x (read_type_name f.scene x.type_name)) (formal_in g x (read_type_name g.scene x.type_name)) xs fs
    (formal_twins lo f g x h e lt.0 (first_there f x xs fs t))
    (subst (λ u. Each (NamedKeeps u) (formal_in f x (read_type_name f.scene x.type_name)).scene) (sym same) next) lt.1 t

-- ---- the heading that is read

formals_more : (t : List PlainShape) (fs : List FormalOf) (qs : List Param) (f : FormalOf) (q : Param) → FormalsKeep t fs qs
    → FormalKeeps t f q → FormalsKeep t (fs ++ f ∷ []) (qs ++ q ∷ [])
formals_more t [] [] f q h k = (k, tt)
formals_more t [] (y ∷ ys) f q h k = absurd h
formals_more t (x ∷ xs) [] f q h k = absurd h
formals_more t (x ∷ xs) (y ∷ ys) f q h k = (h.0, formals_more t xs ys f q h.1 k)

-- all of a list with one more
record AllBut (xs : List (Option FormalOf)) (x : FormalOf) (fs : List FormalOf) : Type 0 where
  front : List FormalOf
  all : all_formals xs ≡ Some front
  is : front ++ x ∷ [] ≡ fs

all_some : (xs : List (Option FormalOf)) (x : FormalOf) (fs : List FormalOf) → all_formals (xs ++ Some x ∷ []) ≡ Some fs → AllBut xs x fs
all_some [] x fs e = record { front = []; all = refl; is = cc }
all_some (None ∷ xs) x fs e = absurd (cc)
all_some (Some y ∷ xs) x fs e = by (all_formals (xs ++ Some x ∷ [])) e (all_some xs x)
  where
    by : (o : Option (List FormalOf)) → option_map (λ ys. y ∷ ys) o ≡ Some fs → ((gs : List FormalOf) → o ≡ Some gs → AllBut xs x gs)
        → AllBut (Some y ∷ xs) x fs
    by None q f = absurd (cc)
    by (Some gs) q f =
        let r = f gs refl in
        let same : y ∷ gs ≡ fs = cc in
        record { front = y ∷ r.front; all = ap (λ o. option_map (λ ys. y ∷ ys) o) r.all; is = ap (λ ys. y ∷ ys) r.is ∙ same }

-- the formals of a frame in which no rule is broken fit its parameters, over this table
record FormalsMade (t : List PlainShape) (f : Frame) : Type 0 where
  shapes : f.scene.shapes ≡ t
  named : Each (NamedKeeps t) f.scene
  fit : f.faults ≡ [] → (fs : List FormalOf) → all_formals f.formals ≡ Some fs → FormalsKeep t fs f.params

param_made : (t : List PlainShape) (f : Frame) (from : ℕ) (mode : Option Mode) (shape : ℕ) (name : tree.Name) → TableKeeps t
    → shape < length t → f.scene.shapes ≡ t
    → (f.faults ≡ [] → (fs : List FormalOf) → all_formals f.formals ≡ Some fs → FormalsKeep t fs f.params)
    → (param_in f from mode (Some shape) name).faults ≡ [] → (fs : List FormalOf)
    → all_formals (param_in f from mode (Some shape) name).formals ≡ Some fs
    → FormalsKeep t fs (param_in f from mode (Some shape) name).params
param_made t f from mode shape name table lt same h = by (is_first f.scene name) refl
  where
    formal : FormalOf
    formal = record { mode = mode; shape = shape }

    one : FormalKeeps t formal (made_param f.scene.shapes mode shape f.slots)
    one = record {
      there = lt;
      kind = ap (λ x. param_kind (structured_in x shape) mode) same;
      cells = ap (λ x. cells_at x shape) same;
      ordered = subst (λ x. IsOrdered (unwrap_or (range_at x shape) whole_range)) (sym same) (ordered_at t shape table);
    }

    add : (fs : List FormalOf) → f.faults ≡ [] → AllBut f.formals formal fs
        → FormalsKeep t fs (f.params ++ made_param f.scene.shapes mode shape f.slots ∷ [])
    add fs e r = subst (λ x. FormalsKeep t x (f.params ++ made_param f.scene.shapes mode shape f.slots ∷ [])) r.is
        (formals_more t r.front f.params formal (made_param f.scene.shapes mode shape f.slots) (h e r.front r.all) one)

    by : (b : Bool) → is_first f.scene name ≡ b
        → (if_true b (λ u. within_limit name f (with_param f name from mode shape (param_kind (is_structured f.scene shape) mode)))
        (λ u. with_faults f (broken_at name.node (redeclaration_rules f.scene name)))).faults ≡ []
        → (fs : List FormalOf)
        → all_formals ((if_true b (λ u. within_limit name f
        (with_param f name from mode shape (param_kind (is_structured f.scene shape) mode)))
        (λ u. with_faults f (broken_at name.node (redeclaration_rules f.scene name)))).formals
        ++ Some (record { mode = mode; shape = shape })
        ∷ []) ≡ Some fs
        → FormalsKeep t fs (if_true b
        (λ u. within_limit name f (with_param f name from mode shape (param_kind (is_structured f.scene shape) mode)))
        (λ u. with_faults f (broken_at name.node (redeclaration_rules f.scene name)))).params
    by true i e fs a =
        limited_quiet (λ x. all_formals (x.formals ++ Some formal ∷ []) ≡ Some fs → FormalsKeep t fs x.params) name f
        (with_param f name from mode shape (param_kind (is_structured f.scene shape) mode)) e
        (λ le q. add fs (limited_faults name f (with_param f name from mode shape (param_kind (is_structured f.scene shape) mode)) e refl)
        (all_some f.formals formal fs q)) a
    by false i e fs a =
        let broken : broken_at name.node (when (not (is_first f.scene name)) fault.Redeclared) ≡ [] = nil_right f.faults _ e in
        absurd (let bad : broken_at name.node (when (not false) fault.Redeclared) ≡ [] =
        subst (λ b. broken_at name.node (when (not b) fault.Redeclared) ≡ []) i broken in cc)

params_made : (t : List PlainShape) (f : Frame) (from : ℕ) (mode : Option Mode) (o : Option ℕ) (xs : List tree.Name) → TableKeeps t
    → When o (IsShape t) → f.scene.shapes ≡ t
    → (f.faults ≡ [] → (fs : List FormalOf) → all_formals f.formals ≡ Some fs → FormalsKeep t fs f.params)
    → (params_in f from mode o xs).faults ≡ [] → (fs : List FormalOf) → all_formals (params_in f from mode o xs).formals ≡ Some fs
    → FormalsKeep t fs (params_in f from mode o xs).params
params_made t f from mode o [] table w same h = h
params_made t f from mode None (x ∷ xs) table w same h =
    params_made t (param_in f from mode None x) from mode None xs table w (declared_shapes f.scene x from entry.Bad ∙ same)
    (λ e fs a. absurd (all_none f.formals fs a))
params_made t f from mode (Some shape) (x ∷ xs) table w same h =
    params_made t (param_in f from mode (Some shape) x) from mode (Some shape) xs table w (param_shapes f from mode shape x ∙ same)
    (param_made t f from mode shape x table w.gives same h)

formals_made : (t : List PlainShape) (f : Frame) (xs : List tree.Formal) → TableKeeps t → FormalsMade t f
    → FormalsMade t (read_formals f xs)
formals_made t f [] table h = h
formals_made t f (x ∷ xs) table h =
    let r = read_type_name f.scene x.type_name in
    let from = x.type_name.token + 1 in
    let names = all_names x.names in
    let fit = params_made t f from x.mode r.value names table (named_shape t f.scene x.type_name h.named) h.shapes h.fit in
    formals_made t (formal_in f x r) xs table (record {
      shapes = params_shapes f from x.mode r.value names ∙ h.shapes;
      named = params_named t f from x.mode r.value names h.named;
      fit = λ e fs a. fit (nil_left (params_in f from x.mode r.value names).faults r.faults e) fs a;
    })

-- ---- the scene of a heading

routines_shapes : (s : Scene) (r : ℕ) (x : tree.DeclTail) → (with_routines s r x).shapes ≡ s.shapes
routines_shapes s r tree.no_decl = refl
routines_shapes s r (tree.more_decl d rest) = routines_shapes (with_routine s r d) (r + decl_routines d) rest ∙ by d
  where
    by : (d : tree.Decl) → (with_routine s r d).shapes ≡ s.shapes
    by (tree.const_decl n xs) = refl
    by (tree.type_decl n xs) = refl
    by (tree.var_decl n xs) = refl
    by (tree.procedure n name params result b end_name) = declared_shapes s name 0 (entry.Routine r)

pub block_shapes : (s : Scene) (r : ℕ) (returns : Returns) (names : List tree.Name) (b : tree.Block)
    → (with_block s r returns names b).shapes ≡ s.shapes
block_shapes s r returns names (tree.block n ds body) = routines_shapes _ (r + 1) ds

first_named : (s : Scene) (r : ℕ) (params : Option tree.Params) (b : tree.Block) → Each (NamedKeeps s.shapes) s
    → Each (NamedKeeps s.shapes) (first_frame s r params b).scene
first_named s r params b h = block_each (NamedKeeps s.shapes) s r nothing (formal_names (formals_of params)) b h (λ q i n. tt)

head_frame : (s : Scene) (r : ℕ) (params : Option tree.Params) (b : tree.Block) → TableKeeps s.shapes → Each (NamedKeeps s.shapes) s
    → FormalsMade s.shapes (read_formals (first_frame s r params b) (formals_of params))
head_frame s r params b table h = formals_made s.shapes (first_frame s r params b) (formals_of params) table (record {
  shapes = block_shapes s r nothing (formal_names (formals_of params)) b;
  named = first_named s r params b h;
  fit = λ e fs a. by fs a;
})
  where
    by : (fs : List FormalOf) → Some [] ≡ Some fs → FormalsKeep s.shapes fs []
    by [] e = tt
    by (x ∷ xs) e = absurd (cc)

-- the parameters and the slots of a heading
headed_params : (f : Frame) (o : Option tree.Name) → (heading_at f o).frame.params ≡ f.params
headed_params f None = refl
headed_params f (Some name) = refl

pub head_params : (s : Scene) (r n : ℕ) (params : Option tree.Params) (result : Option tree.Name) (b : tree.Block)
    → (read_heading s r n params result b).frame.params ≡ (read_formals (first_frame s r params b) (formals_of params)).params
head_params s r n params result b = by (too_deep s) ∙ headed_params (read_formals (first_frame s r params b) (formals_of params)) result
  where
    by : (d : List CheckFault) → (with_depth d n
        (heading_at (read_formals (first_frame s r params b) (formals_of params)) result)).frame.params
        ≡ (heading_at (read_formals (first_frame s r params b) (formals_of params)) result).frame.params
    by [] = refl
    by (x ∷ xs) = refl

-- the type of a result is simple
abbrev pub ResultPlain : Scene → Option tree.Name → Type 0
ResultPlain s None = Unit {0}
ResultPlain s (Some name) = (v : ℕ) → (read_type_name s name).value ≡ Some v → structured_in s.shapes v ≡ false

pub record HeadPlain (s : Scene) (r : ℕ) (params : Option tree.Params) (result : Option tree.Name) (b : tree.Block) : Type 0 where
  pub simple : ResultPlain (read_formals (first_frame s r params b) (formals_of params)).scene result
  pub paired : Paired (read_formals (first_frame s r params b) (formals_of params))

-- the result of a heading is simple, where it has one
abbrev pub ResultMade : List PlainShape → Option tree.Name → Option ℕ → Type 0
ResultMade t None o = o ≡ None
ResultMade t (Some name) o = (v : ℕ) × (o ≡ Some v) × (structured_in t v ≡ false)

pub record HeadMade (s : Scene) (r n : ℕ) (params : Option tree.Params) (result : Option tree.Name) (b : tree.Block) (h : Heading) : Type 0
  where
    pub formals : FormalsKeep s.shapes h.formals (read_heading s r n params result b).frame.params
    pub result_made : ResultMade s.shapes result h.result
    pub plain : HeadPlain s r params result b
    pub all : AllSome (read_formals (first_frame s r params b) (formals_of params)).formals

kept_many : (t : List PlainShape) (fs : List FormalOf) (qs : List Param) → FormalsKeep t fs qs → length qs ≡ length fs
kept_many t [] [] h = refl
kept_many t [] (q ∷ qs) h = absurd h
kept_many t (f ∷ fs) [] h = absurd h
kept_many t (f ∷ fs) (q ∷ qs) h = ap suc (kept_many t fs qs h.1)

all_many : (xs : List (Option FormalOf)) (fs : List FormalOf) → all_formals xs ≡ Some fs → length fs ≡ length xs
all_many [] [] e = refl
all_many [] (f ∷ fs) e = absurd (cc)
all_many (None ∷ xs) fs e = absurd (cc)
all_many (Some x ∷ xs) fs e = by (all_formals xs) e (all_many xs)
  where
    by : (o : Option (List FormalOf)) → option_map (λ ys. x ∷ ys) o ≡ Some fs → ((gs : List FormalOf) → o ≡ Some gs → length gs ≡ length xs)
        → length fs ≡ suc (length xs)
    by None q f = absurd (cc)
    by (Some gs) q f = let same : x ∷ gs ≡ fs = cc in ap (λ (ys : List FormalOf). length ys) (sym same) ∙ ap suc (f gs refl)

proper_made : (t : List PlainShape) (f : Frame) (h : Heading) → FormalsMade t f → proper_heading f ≡ Some h
    → FormalsKeep t h.formals f.params × (h.result ≡ None) × AllSome f.formals × Paired f
proper_made t f h m e = by f.faults (all_formals f.formals) refl refl e
  where
    by : (fs : List BrokenRule) (o : Option (List FormalOf)) → f.faults ≡ fs → all_formals f.formals ≡ o
        → if_unbroken fs (option_map (heading_with f None) o) ≡ Some h → FormalsKeep t h.formals f.params × (h.result ≡ None)
        × AllSome f.formals × Paired f
    by [] None p q e = absurd (cc)
    by [] (Some gs) p q e =
        let same : heading_with f None gs ≡ h = cc in (
          subst (λ (x : Heading). FormalsKeep t x.formals f.params) same (m.fit p gs q),
          ap (λ (x : Heading). x.result) (sym same),
          record { list = gs; is = q },
          kept_many t gs f.params (m.fit p gs q) ∙ all_many f.formals gs q,
        )
    by (b ∷ bs) o p q e = absurd (cc)

function_made : (t : List PlainShape) (f : Frame) (name : tree.Name) (h : Heading) → FormalsMade t f
    → (heading_at f (Some name)).heading ≡ Some h
    → FormalsKeep t h.formals f.params × ResultMade t (Some name) h.result × ResultPlain f.scene (Some name) × AllSome f.formals × Paired f
function_made t f name h m e = by (read_type_name f.scene name).value refl e
  where
    rules : Option ℕ → List BrokenRule
    rules o = f.faults ++ ((read_type_name f.scene name).faults ++ broken_at name.node (result_rules f.scene o))

    simple : (v : ℕ) → rules (Some v) ≡ [] → structured_in f.scene.shapes v ≡ false
    simple v p =
        let own : result_rules f.scene (Some v) ≡ [] =
        quiet name.node (read_type_name f.scene name).faults (result_rules f.scene (Some v)) (nil_right f.faults _ p) in
        no_fault_alone (structured_result f.scene v) fault.TypeMismatch own

    made : (v : ℕ) (fs : List BrokenRule) (o : Option (List FormalOf)) → rules (Some v) ≡ fs → all_formals f.formals ≡ o
        → (read_type_name f.scene name).value ≡ Some v
        → if_unbroken fs (option_map (heading_with
        (with_faults f ((read_type_name f.scene name).faults ++ broken_at name.node (result_rules f.scene (Some v)))) (Some v)) o)
        ≡ Some h
        → FormalsKeep t h.formals f.params × ResultMade t (Some name) h.result × ResultPlain f.scene (Some name) × AllSome f.formals
        × Paired f
    made v [] None p q i e = absurd (cc)
    made v [] (Some gs) p q i e =
        let same : heading_with f (Some v) gs ≡ h = cc in
        let plain : structured_in f.scene.shapes v ≡ false = simple v p in (
          subst (λ (x : Heading). FormalsKeep t x.formals f.params) same (m.fit (nil_left f.faults _ p) gs q),
          (v, ap (λ (x : Heading). x.result) (sym same), subst (λ x. structured_in x v ≡ false) m.shapes plain),
          λ w j. let one : v ≡ w = ap (λ (x : Option ℕ). unwrap_or x 0) (sym i ∙ j) in
              subst (λ x. structured_in f.scene.shapes x ≡ false) one plain,
          record { list = gs; is = q },
          kept_many t gs f.params (m.fit (nil_left f.faults _ p) gs q) ∙ all_many f.formals gs q,
        )
    made v (b ∷ bs) o p q i e = absurd (cc)

    by : (o : Option ℕ) → (read_type_name f.scene name).value ≡ o
        → option_and_then (function_heading
        (with_faults f ((read_type_name f.scene name).faults ++ broken_at name.node (result_rules f.scene o)))) o ≡ Some h
        → FormalsKeep t h.formals f.params × ResultMade t (Some name) h.result × ResultPlain f.scene (Some name) × AllSome f.formals
        × Paired f
    by None i e = absurd (cc)
    by (Some v) i e = made v (rules (Some v)) (all_formals f.formals) refl refl i e

pub head_made : (s : Scene) (r n : ℕ) (params : Option tree.Params) (result : Option tree.Name) (b : tree.Block) (h : Heading)
    → TableKeeps s.shapes → Each (NamedKeeps s.shapes) s
    → (read_heading s r n params result b).heading ≡ Some h → HeadMade s r n params result b h
head_made s r n params result b h table each e = go (by result (deep (too_deep s) e))
  where
    f : Frame
    f = read_formals (first_frame s r params b) (formals_of params)

    m : FormalsMade s.shapes (read_formals (first_frame s r params b) (formals_of params))
    m = head_frame s r params b table each

    deep : (d : List CheckFault) → (with_depth d n
        (heading_at (read_formals (first_frame s r params b) (formals_of params)) result)).heading
        ≡ Some h → (heading_at (read_formals (first_frame s r params b) (formals_of params)) result).heading ≡ Some h
    deep [] e = e
    deep (x ∷ xs) e = absurd (cc)

    by : (o : Option tree.Name) → (heading_at (read_formals (first_frame s r params b) (formals_of params)) o).heading ≡ Some h
        → FormalsKeep s.shapes h.formals (read_formals (first_frame s r params b) (formals_of params)).params
        × ResultMade s.shapes o h.result × ResultPlain (read_formals (first_frame s r params b) (formals_of params)).scene o
        × AllSome (read_formals (first_frame s r params b) (formals_of params)).formals
        × Paired (read_formals (first_frame s r params b) (formals_of params))
    by None e = let p = proper_made s.shapes (read_formals (first_frame s r params b) (formals_of params)) h m e in (p.0, p.1, tt, p.2, p.3)
    by (Some name) e = function_made s.shapes (read_formals (first_frame s r params b) (formals_of params)) name h m e

    go : FormalsKeep s.shapes h.formals (read_formals (first_frame s r params b) (formals_of params)).params
        × ResultMade s.shapes result h.result × ResultPlain (read_formals (first_frame s r params b) (formals_of params)).scene result
        × AllSome (read_formals (first_frame s r params b) (formals_of params)).formals
        × Paired (read_formals (first_frame s r params b) (formals_of params))
        → HeadMade s r n params result b h
    go p = record {
      formals = subst (λ qs. FormalsKeep s.shapes h.formals qs) (sym (head_params s r n params result b)) p.0;
      result_made =
          p.1;
      plain = record { simple = p.2; paired = p.4 };
      all = p.3;
    }

-- ---- the same heading in a later scene

first_twins : (lo : ℕ) (s t : Scene) (r : ℕ) (params : Option tree.Params) (b : tree.Block) → Outer lo s t → Longer s t
    → Twins lo (first_frame s r params b) (first_frame t r params b)
first_twins lo s t r params b h l = record {
  later = block_later lo s t r nothing (formal_names (formals_of params)) b h;
  long = record {
    tail = l.tail;
    is = block_shapes t r nothing (formal_names (formals_of params)) b
        ∙ (l.is ∙ ap (λ x. x ++ l.tail) (sym (block_shapes s r nothing (formal_names (formals_of params)) b)));
  };
  alike = record { params = refl; slots = refl; declared = refl; formals = refl };
}

head_twins : (lo : ℕ) (s t : Scene) (r : ℕ) (params : Option tree.Params) (result : Option tree.Name) (b : tree.Block) → Outer lo s t
    → Longer s t → Each (NamedKeeps s.shapes) s
    → AllByRecursion (λ x. x.token < lo) (formal_types (formals_of params))
    → AllSome (read_formals (first_frame s r params b) (formals_of params)).formals
    → Twins lo (read_formals (first_frame s r params b) (formals_of params)) (read_formals (first_frame t r params b) (formals_of params))
head_twins lo s t r params result b h l e lt there =
    formals_twins lo (first_frame s r params b) (first_frame t r params b) (formals_of params) there.list
    (first_twins lo s t r params b h l)
    (subst (λ u. Each (NamedKeeps u) (first_frame s r params b).scene) (sym (block_shapes s r nothing (formal_names (formals_of params)) b))
    (first_named s r params b e)) lt there.is

pub head_params_later : (lo : ℕ) (s t : Scene) (r n : ℕ) (params : Option tree.Params) (result : Option tree.Name) (b : tree.Block)
    → Outer lo s t → Longer s t → Each (NamedKeeps s.shapes) s
    → AllByRecursion (λ x. x.token < lo) (formal_types (formals_of params) ++ result_types result)
    → AllSome (read_formals (first_frame s r params b) (formals_of params)).formals
    → (read_heading t r n params result b).frame.params ≡ (read_heading s r n params result b).frame.params
head_params_later lo s t r n params result b h l e lt there =
    head_params t r n params result b
    ∙ ((head_twins lo s t r params result b h l e
    (each_of_front (λ (x : tree.Name). x.token < lo) (formal_types (formals_of params)) (result_types result) lt) there).alike.params
    ∙ sym (head_params s r n params result b))

result_plain_later : (lo : ℕ) (s t : Scene) (o : Option tree.Name) → Later lo s t → Longer s t
    → AllByRecursion (λ x. x.token < lo) (result_types o) → ResultPlain s o → ResultPlain t o
result_plain_later lo s t None h l lt p = tt
result_plain_later lo s t (Some name) h l lt p =
    λ v e. subst (λ x. structured_in x v ≡ false) (sym l.is)
    (simple_still s.shapes l.tail v (p v (sym (later_value lo s t h name lt.0) ∙ e)))

pub head_plain_later : (lo : ℕ) (s t : Scene) (r : ℕ) (params : Option tree.Params) (result : Option tree.Name) (b : tree.Block)
    → Outer lo s t → Longer s t → Each (NamedKeeps s.shapes) s
    → AllByRecursion (λ x. x.token < lo) (formal_types (formals_of params) ++ result_types result)
    → AllSome (read_formals (first_frame s r params b) (formals_of params)).formals → HeadPlain s r params result b
    → HeadPlain t r params result b
head_plain_later lo s t r params result b h l e lt there p =
    let w = head_twins lo s t r params result b h l e
    (each_of_front (λ (x : tree.Name). x.token < lo) (formal_types (formals_of params)) (result_types result) lt) there in
    record {
      simple = result_plain_later lo _ _ result w.later w.long
          (each_of_back (λ (x : tree.Name). x.token < lo) (formal_types (formals_of params)) (result_types result) lt) p.simple;
      paired = ap (λ (qs : List Param). length qs) w.alike.params ∙ (p.paired ∙ sym w.alike.formals);
    }
