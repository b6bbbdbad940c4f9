-- Declarations: where no rule is broken, no entry is Bad, and all headings of a block are there behind its declarations.
use Rattle.std.proofs.Common.{◌≡◌, ◌≢◌, ℕ, ◌+◌, ◌≤◌, ◌⊎◌, inl, inr, ℤ, Bool, true, false, List, [], ◌∷◌, ◌++◌, length, get_or, set, Option}
use Rattle.std.proofs.Common.{None, Some, refl, sym, ap, ◌∙◌, subst, arith, append_assoc, append-nil}
use Rattle.std.specs.Prelude.{nat_eq, if◌then◌else◌}
use Rattle.std.specs.List.{AllByRecursion}
use Rattle.std.proofs.lemmas.Bool.Decides.{eqb_tells}
use Rattle.std.proofs.lemmas.List.{get_or-set_same, get_or-set_other, length-set}
use Rattle.alma_base.specs.Choice.{if_true}
use Rattle.alma_names.specs.declared.block.Entry.{Entry}
use Rattle.alma_names.specs.declared.block.Entry.TheVariants as entry
use Rattle.alma_names.specs.Shapes.{PlainShape}
use Rattle.alma_names.specs.Blocks.{DeclaredName, shape_id}
use Rattle.alma_names.specs.Scopes.{with_declared}
use Rattle.alma_ir.proofs.Each.{each_of_append, each_follows}
use Rattle.alma_rules.specs.Numbered as tree
use Rattle.alma_rules.specs.Judgement.{broken_at}
use Rattle.alma_rules.specs.Scene.{Scene, Heading, Returns, is_first, in_constant, text_at}
use Rattle.alma_rules.specs.Parts.{Typing}
use Rattle.alma_rules.specs.Types.{declare_name, redeclaration_rules, read_constant, read_type, all_names, last_token, type_names}
use Rattle.alma_rules.specs.Places.{width, mark_expr, mark_type}
use Rattle.alma_rules.specs.Decls.{Frame, with_faults, with_scene, within_limit, constant_entry, constant_from, constant_in, read_consts}
use Rattle.alma_rules.specs.Decls.{type_entry, type_in, read_types, variable_access, with_variable, variable_in, variables_in, variables_of}
use Rattle.alma_rules.specs.Decls.{read_vars, const_names, type_entry_names, var_names, decl_names, decls_names, decls_routines}
use Rattle.alma_rules.specs.Decls.{decl_routines, with_routine, with_routines, with_block, read_heading, read_decl, read_decls}
use Rattle.alma_rules.proofs.Sound.{IsThere, IsTyped, nil_left, nil_right}
use Rattle.alma_rules.proofs.Limited.{limited_faults, limited_scene}
use Rattle.alma_resolved.specs.Stand.{DeclsStand, DeclStands}
use Rattle.alma_resolved.proofs.Lookups.{Each, NotBad, HeadingThere, IsPlain, Grown, grown, grown_same, grown_twice, grown_each}
use Rattle.alma_resolved.proofs.Lookups.{grown_declared, plain_not_bad, each_new_block, each_more}
use Rattle.alma_resolved.proofs.TypesSound.{From, from_front, from_back, last_from, type_good, typed_good}
use Rattle.alma_resolved.proofs.Later.{Outer, extended_more, all_extended_self}
use Rattle.alma_resolved.proofs.HeadsSound.{HeadThere, head_later, head_sound}

-- ---- scenes that move

-- as grown, and with other headings
pub record Moved (lo : ℕ) (s t : Scene) : Type 0 where
  pub shapes : List PlainShape
  pub names : List DeclaredName
  pub headings : List (Option Heading)
  pub plain : AllByRecursion (λ d. IsPlain d.entry) names
  pub behind : AllByRecursion (λ d. lo ≤ d.from) names
  pub is : t ≡ record (grown s shapes names) { headings = headings }

pub moved_grown : {lo : ℕ} {s t : Scene} → Grown lo s t → Moved lo s t
moved_grown {lo} {s} {t} g = record {
  shapes = g.shapes;
  names = g.names;
  headings = s.headings;
  plain = g.plain;
  behind = g.behind;
  is =
      g.is;
}

pub moved_twice : {lo : ℕ} {s t u : Scene} → Moved lo s t → Moved lo t u → Moved lo s u
moved_twice {lo} {s} {t} {u} a b = record {
  shapes = a.shapes ++ b.shapes;
  names = a.names ++ b.names;
  headings = b.headings;
  plain = each_of_append (λ d. IsPlain d.entry) a.names b.names a.plain b.plain;
  behind = each_of_append (λ d. lo ≤ d.from) a.names b.names a.behind b.behind;
  is = b.is ∙ (ap (λ x. record (grown x b.shapes b.names) { headings = b.headings }) a.is ∙ again);
}
  where
    again : record (grown (record (grown s a.shapes a.names) { headings = a.headings }) b.shapes b.names)
        { headings = b.headings } ≡ record (grown s (a.shapes ++ b.shapes) (a.names ++ b.names)) { headings = b.headings }
    again = rw (append_assoc s.shapes a.shapes b.shapes, append_assoc s.blocks.top a.names b.names) refl

pub moved_headings : (lo : ℕ) (s : Scene) (hs : List (Option Heading)) → Moved lo s (record s { headings = hs })
moved_headings lo s hs = record {
  shapes = [];
  names = [];
  headings = hs;
  plain = tt;
  behind = tt;
  is =
      rw (append-nil s.shapes, append-nil s.blocks.top) refl;
}

pub moved_each : (P : ℕ → Entry → Type 0) → ((n : ℕ) (e : Entry) → IsPlain e → P n e) → {lo : ℕ} {s t : Scene} → Moved lo s t → Each P s
    → Each P t
moved_each P f {lo} {s} {t} g h = subst (λ x. Each P x) (sym g.is)
    (each_more P 0 s.blocks.below s.blocks.top g.names h
    (each_follows (λ d. IsPlain d.entry) (λ d. (m : ℕ) → P m d.entry) (λ d k m. f m d.entry k) g.names g.plain))

pub moved_outer : {lo : ℕ} {s t : Scene} → Moved lo s t → Outer lo s t
moved_outer {lo} {s} {t} g = subst (λ x. Outer lo s x) (sym g.is)
    (record { tokens = refl; below = all_extended_self lo s.blocks.below; top = extended_more lo s.blocks.top g.names g.behind })

-- ---- constants and types

consts_quiet : (f : Frame) (xs : List tree.ConstEntry) → (read_consts f xs).faults ≡ [] → f.faults ≡ []
consts_quiet f [] e = e
consts_quiet f (x ∷ xs) e = nil_left _ _ (nil_left _ _ (consts_quiet (constant_in f x (read_constant f.scene x.value)) xs e))

constant_plain : (s : Scene) (v : Option Typing) → IsTyped (in_constant s) v → IsPlain (constant_entry v)
constant_plain s None h = absurd h
constant_plain s (Some t) h = by t.constant (h refl)
  where
    by : (o : Option ℤ) → IsThere o → IsPlain (constant_from t.shape o)
    by None h = absurd h
    by (Some v) h = tt

consts_grown : (lo : ℕ) (f : Frame) (xs : List tree.ConstEntry) → From lo (const_names xs) → Each NotBad f.scene
    → (read_consts f xs).faults ≡ [] → Grown lo f.scene (read_consts f xs).scene
consts_grown lo f [] b h e = grown_same lo f.scene
consts_grown lo f (x ∷ xs) b h e =
    let q = nil_right _ _ (consts_quiet (constant_in f x (read_constant f.scene x.value)) xs e) in
    let g : Grown lo f.scene (constant_in f x (read_constant f.scene x.value)).scene =
    grown_declared f.scene x.name (x.name.token + 3 + width (mark_expr x.value)) (constant_entry (read_constant f.scene x.value).value)
    (constant_plain f.scene _ (typed_good f.scene h x.value q)) (omega (arith, b.0)) in
    grown_twice g (consts_grown lo (constant_in f x (read_constant f.scene x.value)) xs b.1 (grown_each NotBad plain_not_bad g h) e)

types_quiet : (f : Frame) (xs : List tree.TypeEntry) → (read_types f xs).faults ≡ [] → f.faults ≡ []
types_quiet f [] e = e
types_quiet f (x ∷ xs) e = nil_left _ _ (nil_left _ _ (types_quiet (type_in f x (read_type f.scene x.type_node)) xs e))

type_plain : (v : Option ℕ) → IsThere v → IsPlain (type_entry v)
type_plain None h = absurd h
type_plain (Some shape) h = tt

types_grown : (lo : ℕ) (f : Frame) (xs : List tree.TypeEntry) → From lo (type_entry_names xs) → Each NotBad f.scene
    → (read_types f xs).faults ≡ [] → Grown lo f.scene (read_types f xs).scene
types_grown lo f [] b h e = grown_same lo f.scene
types_grown lo f (x ∷ xs) b h e =
    let q = nil_right _ _ (types_quiet (type_in f x (read_type f.scene x.type_node)) xs e) in
    let r = type_good lo f.scene h x.type_node (from_front lo (type_names x.type_node) (type_entry_names xs) b.1) q in
    let g : Grown lo f.scene (type_in f x (read_type f.scene x.type_node)).scene =
    grown_twice r.grown (grown_declared (read_type f.scene x.type_node).scene x.name (x.name.token + 3 + width (mark_type x.type_node))
    (type_entry (read_type f.scene x.type_node).value) (type_plain _ r.there) (omega (arith, b.0))) in
    grown_twice g (types_grown lo (type_in f x (read_type f.scene x.type_node)) xs
    (from_back lo (type_names x.type_node) (type_entry_names xs) b.1) (grown_each NotBad plain_not_bad g h) e)

-- ---- variables

declared_not : (s : Scene) (name : tree.Name) (from : ℕ) (e : Entry) → is_first s name ≡ false → s ≡ declare_name s name from e
declared_not s name from e h = by (is_first s name) h
  where
    by : (c : Bool) → c ≡ false → s ≡ (if c then record s
        { blocks = with_declared s.blocks (record { name = text_at s name.token; from = from; entry = e }) } else s)
    by true q = absurd (let bad : true ≡ false = q in cc)
    by false q = refl

variable_scene : (f : Frame) (from shape : ℕ) (name : tree.Name)
    → (variable_in f from (Some shape) name).scene ≡ declare_name f.scene name from
    (entry.Variable (shape_id shape) (variable_access f.scene f.slots))
variable_scene f from shape name = by (is_first f.scene name) refl
  where
    by : (c : Bool) → is_first f.scene name ≡ c
        → (if_true c (λ u. within_limit name f (with_variable f name from shape))
        (λ u. with_faults f (broken_at name.node (redeclaration_rules f.scene name)))).scene ≡ declare_name f.scene name from
        (entry.Variable (shape_id shape) (variable_access f.scene f.slots))
    by true e = limited_scene name f (with_variable f name from shape)
    by false e = declared_not f.scene name from (entry.Variable (shape_id shape) (variable_access f.scene f.slots)) e

variables_grown : (lo : ℕ) (f : Frame) (from : ℕ) (o : Option ℕ) (xs : List tree.Name) → lo ≤ from → IsThere o
    → Grown lo f.scene (variables_in f from o xs).scene
variables_grown lo f from None xs le t = absurd t
variables_grown lo f from (Some shape) [] le t = grown_same lo f.scene
variables_grown lo f from (Some shape) (x ∷ xs) le t =
    grown_twice (subst (λ s. Grown lo f.scene s) (sym (variable_scene f from shape x))
    (grown_declared f.scene x from (entry.Variable (shape_id shape) (variable_access f.scene f.slots)) tt le))
    (variables_grown lo (variable_in f from (Some shape) x) from (Some shape) xs le tt)

variable_quiet : (f : Frame) (from : ℕ) (o : Option ℕ) (name : tree.Name) → (variable_in f from o name).faults ≡ [] → f.faults ≡ []
variable_quiet f from None name e = nil_left f.faults _ e
variable_quiet f from (Some shape) name e = by (is_first f.scene name) e
  where
    by : (c : Bool) → (if_true c (λ u. within_limit name f (with_variable f name from shape))
        (λ u. with_faults f (broken_at name.node (redeclaration_rules f.scene name)))).faults ≡ [] → f.faults ≡ []
    by true e = limited_faults name f (with_variable f name from shape) e refl
    by false e = nil_left f.faults _ e

variables_quiet : (f : Frame) (from : ℕ) (o : Option ℕ) (xs : List tree.Name) → (variables_in f from o xs).faults ≡ [] → f.faults ≡ []
variables_quiet f from o [] e = e
variables_quiet f from o (x ∷ xs) e = variable_quiet f from o x (variables_quiet (variable_in f from o x) from o xs e)

abbrev vars_from : tree.VarEntry → ℕ
vars_from x = last_token x.names.first x.names.more + 3 + width (mark_type x.type_node)

vars_quiet : (f : Frame) (xs : List tree.VarEntry) → (read_vars f xs).faults ≡ [] → f.faults ≡ []
vars_quiet f [] e = e
vars_quiet f (x ∷ xs) e =
    variables_quiet (with_scene f (read_type f.scene x.type_node).scene) (vars_from x) (read_type f.scene x.type_node).value
    (all_names x.names) (nil_left _ _ (vars_quiet (variables_of f x (read_type f.scene x.type_node)) xs e))

vars_grown : (lo : ℕ) (f : Frame) (xs : List tree.VarEntry) → From lo (var_names xs) → Each NotBad f.scene → (read_vars f xs).faults ≡ []
    → Grown lo f.scene (read_vars f xs).scene
vars_grown lo f [] b h e = grown_same lo f.scene
vars_grown lo f (x ∷ xs) b h e =
    let q = nil_right (variables_in (with_scene f (read_type f.scene x.type_node).scene) (vars_from x) (read_type f.scene x.type_node).value
    (all_names x.names)).faults _ (vars_quiet (variables_of f x (read_type f.scene x.type_node)) xs e) in
    let front = from_front lo (all_names x.names ++ type_names x.type_node) (var_names xs) b in
    let last : lo ≤ last_token x.names.first x.names.more + 2 =
    last_from lo x.names.first x.names.more (from_front lo (all_names x.names) (type_names x.type_node) front) in
    let r = type_good lo f.scene h x.type_node (from_back lo (all_names x.names) (type_names x.type_node) front) q in
    let g : Grown lo f.scene (variables_of f x (read_type f.scene x.type_node)).scene =
    grown_twice r.grown (variables_grown lo (with_scene f (read_type f.scene x.type_node).scene) (vars_from x)
    (read_type f.scene x.type_node).value (all_names x.names) (omega (arith, last)) r.there) in
    grown_twice g (vars_grown lo (variables_of f x (read_type f.scene x.type_node)) xs
    (from_back lo (all_names x.names ++ type_names x.type_node) (var_names xs) b) (grown_each NotBad plain_not_bad g h) e)

-- ---- a new block

-- q is the number of a procedure of the declarations, which have the numbers from r on
abbrev pub IsProcHere : ℕ → tree.Decl → ℕ → Type 0
IsProcHere r (tree.const_decl n xs) q = ⊥
IsProcHere r (tree.type_decl n xs) q = ⊥
IsProcHere r (tree.var_decl n xs) q = ⊥
IsProcHere r (tree.procedure n name params result b end_name) q = q ≡ r

unfoldable pub IsProc : ℕ → tree.DeclTail → ℕ → Type 0
IsProc r tree.no_decl q = ⊥
IsProc r (tree.more_decl d rest) q = IsProcHere r d q ⊎ IsProc (r + decl_routines d) rest q

each_declared : (P : ℕ → Entry → Type 0) (s : Scene) (name : tree.Name) (from : ℕ) (e : Entry) → Each P s → ((n : ℕ) → P n e)
    → Each P (declare_name s name from e)
each_declared P s name from e h f = by (is_first s name)
  where
    by : (c : Bool) → Each P (if c then record s
        { blocks = with_declared s.blocks (record { name = text_at s name.token; from = from; entry = e }) } else s)
    by true = each_more P 0 s.blocks.below s.blocks.top (record { name = text_at s name.token; from = from; entry = e } ∷ []) h (f, tt)
    by false = h

routines_each : (P : ℕ → Entry → Type 0) (s : Scene) (r : ℕ) (x : tree.DeclTail) → Each P s
    → ((q : ℕ) → IsProc r x q → (n : ℕ) → P n (entry.Routine q)) → Each P (with_routines s r x)
unfolding IsProc
routines_each P s r tree.no_decl h f = h
routines_each P s r (tree.more_decl d rest) h f =
    routines_each P (with_routine s r d) (r + decl_routines d) rest (by d (λ q i n. f q (inl i) n)) (λ q i n. f q (inr i) n)
  where
    by : (d : tree.Decl) → ((q : ℕ) → IsProcHere r d q → (n : ℕ) → P n (entry.Routine q)) → Each P (with_routine s r d)
    by (tree.const_decl n xs) f = h
    by (tree.type_decl n xs) f = h
    by (tree.var_decl n xs) f = h
    by (tree.procedure n name params result b end_name) f = each_declared P s name 0 (entry.Routine r) h (f r refl)

abbrev pub IsProcIn : ℕ → tree.Block → ℕ → Type 0
IsProcIn r (tree.block n decls body) q = IsProc r decls q

pub block_each : (P : ℕ → Entry → Type 0) (s : Scene) (r : ℕ) (returns : Returns) (names : List tree.Name) (b : tree.Block) → Each P s
    → ((q : ℕ) → IsProcIn (r + 1) b q → (n : ℕ) → P n (entry.Routine q)) → Each P (with_block s r returns names b)
block_each P s r returns names (tree.block n decls body) h f =
    routines_each P _ (r + 1) decls (each_new_block P 0 s.blocks.below s.blocks.top h) f

routines_headings : (s : Scene) (r : ℕ) (x : tree.DeclTail) → (with_routines s r x).headings ≡ s.headings
routines_headings s r tree.no_decl = refl
routines_headings s r (tree.more_decl d rest) = routines_headings (with_routine s r d) (r + decl_routines d) rest ∙ by d
  where
    first : (name : tree.Name) (c : Bool) → (if c then record s
        { blocks = with_declared s.blocks (record { name = text_at s name.token; from = 0; entry = entry.Routine r }) } else s).headings
        ≡ s.headings
    first name true = refl
    first name false = refl

    by : (d : tree.Decl) → (with_routine s r d).headings ≡ s.headings
    by (tree.const_decl n xs) = refl
    by (tree.type_decl n xs) = refl
    by (tree.var_decl n xs) = refl
    by (tree.procedure n name params result b end_name) = first name (is_first s name)

pub block_headings : (s : Scene) (r : ℕ) (returns : Returns) (names : List tree.Name) (b : tree.Block)
    → (with_block s r returns names b).headings ≡ s.headings
block_headings s r returns names (tree.block n decls body) = routines_headings _ (r + 1) decls

routines_routine : (s : Scene) (r : ℕ) (x : tree.DeclTail) → (with_routines s r x).routine ≡ s.routine
routines_routine s r tree.no_decl = refl
routines_routine s r (tree.more_decl d rest) = routines_routine (with_routine s r d) (r + decl_routines d) rest ∙ by d
  where
    first : (name : tree.Name) (c : Bool) → (if c then record s
        { blocks = with_declared s.blocks (record { name = text_at s name.token; from = 0; entry = entry.Routine r }) } else s).routine
        ≡ s.routine
    first name true = refl
    first name false = refl

    by : (d : tree.Decl) → (with_routine s r d).routine ≡ s.routine
    by (tree.const_decl n xs) = refl
    by (tree.type_decl n xs) = refl
    by (tree.var_decl n xs) = refl
    by (tree.procedure n name params result b end_name) = first name (is_first s name)

pub block_routine : (s : Scene) (r : ℕ) (returns : Returns) (names : List tree.Name) (b : tree.Block)
    → (with_block s r returns names b).routine ≡ r
block_routine s r returns names (tree.block n decls body) = routines_routine _ (r + 1) decls

routines_returns : (s : Scene) (r : ℕ) (x : tree.DeclTail) → (with_routines s r x).returns ≡ s.returns
routines_returns s r tree.no_decl = refl
routines_returns s r (tree.more_decl d rest) = routines_returns (with_routine s r d) (r + decl_routines d) rest ∙ by d
  where
    first : (name : tree.Name) (c : Bool) → (if c then record s
        { blocks = with_declared s.blocks (record { name = text_at s name.token; from = 0; entry = entry.Routine r }) } else s).returns
        ≡ s.returns
    first name true = refl
    first name false = refl

    by : (d : tree.Decl) → (with_routine s r d).returns ≡ s.returns
    by (tree.const_decl n xs) = refl
    by (tree.type_decl n xs) = refl
    by (tree.var_decl n xs) = refl
    by (tree.procedure n name params result b end_name) = first name (is_first s name)

pub block_returns : (s : Scene) (r : ℕ) (returns : Returns) (names : List tree.Name) (b : tree.Block)
    → (with_block s r returns names b).returns ≡ returns
block_returns s r returns names (tree.block n decls body) = routines_returns _ (r + 1) decls

routines_below : (s : Scene) (r : ℕ) (x : tree.DeclTail) → (with_routines s r x).blocks.below ≡ s.blocks.below
routines_below s r tree.no_decl = refl
routines_below s r (tree.more_decl d rest) = routines_below (with_routine s r d) (r + decl_routines d) rest ∙ by d
  where
    first : (name : tree.Name) (c : Bool) → (if c then record s
        { blocks = with_declared s.blocks (record { name = text_at s name.token; from = 0; entry = entry.Routine r }) } else s).blocks.below
        ≡ s.blocks.below
    first name true = refl
    first name false = refl

    by : (d : tree.Decl) → (with_routine s r d).blocks.below ≡ s.blocks.below
    by (tree.const_decl n xs) = refl
    by (tree.type_decl n xs) = refl
    by (tree.var_decl n xs) = refl
    by (tree.procedure n name params result b end_name) = first name (is_first s name)

pub block_below : (s : Scene) (r : ℕ) (returns : Returns) (names : List tree.Name) (b : tree.Block)
    → (with_block s r returns names b).blocks.below ≡ s.blocks.below ++ s.blocks.top ∷ []
block_below s r returns names (tree.block n decls body) = routines_below _ (r + 1) decls

-- ---- all declarations

decl_quiet : (f : Frame) (r : ℕ) (d : tree.Decl) → (read_decl f r d).faults ≡ [] → f.faults ≡ []
decl_quiet f r (tree.const_decl n xs) e = consts_quiet f xs e
decl_quiet f r (tree.type_decl n xs) e = types_quiet f xs e
decl_quiet f r (tree.var_decl n xs) e = vars_quiet f xs e
decl_quiet f r (tree.procedure n name params result b end_name) e = nil_left _ _ (nil_left _ _ e)

decls_quiet : (f : Frame) (r : ℕ) (x : tree.DeclTail) → (read_decls f r x).faults ≡ [] → f.faults ≡ []
decls_quiet f r tree.no_decl e = e
decls_quiet f r (tree.more_decl d rest) e = decl_quiet f r d (decls_quiet (read_decl f r d) (r + decl_routines d) rest e)

-- the headings of procedures are there in a scene, with their types
abbrev pub ProcThere : Scene → ℕ → tree.Decl → Type 0
ProcThere s r (tree.const_decl n xs) = Unit {0}
ProcThere s r (tree.type_decl n xs) = Unit {0}
ProcThere s r (tree.var_decl n xs) = Unit {0}
ProcThere s r (tree.procedure n name params result b end_name) = HeadThere s r params result b

unfoldable pub ProcsThere : Scene → ℕ → tree.DeclTail → Type 0
ProcsThere s r tree.no_decl = Unit {0}
ProcsThere s r (tree.more_decl d rest) = ProcThere s r d × ProcsThere s (r + decl_routines d) rest

pub record DeclRead (f : Frame) (r : ℕ) (d : tree.Decl) (g : Frame) : Type 0 where
  pub moved : (lo : ℕ) → From lo (decl_names d) → Moved lo f.scene g.scene
  pub made : (q : ℕ) → IsProcHere r d q → HeadingThere (get_or g.scene.headings q None)
  pub stay : (q : ℕ) → HeadingThere (get_or f.scene.headings q None) → HeadingThere (get_or g.scene.headings q None)
  pub long : length g.scene.headings ≡ length f.scene.headings
  pub head : ProcThere f.scene r d

plain_read : (f : Frame) (r : ℕ) (d : tree.Decl) (g : Frame) → ((lo : ℕ) → From lo (decl_names d) → Grown lo f.scene g.scene)
    → From 0 (decl_names d) → ((q : ℕ) → IsProcHere r d q → ⊥) → ProcThere f.scene r d → DeclRead f r d g
plain_read f r d g h z none p =
    let same : g.scene.headings ≡ f.scene.headings = ap (λ s. s.headings) (h 0 z).is in
    record {
      moved = λ lo b. moved_grown (h lo b);
      made = λ q i. absurd (none q i);
      stay = λ q i. subst (λ hs. HeadingThere (get_or hs q None)) (sym same) i;
      long = ap (λ hs. length hs) same;
      head = p;
    }

pub from_zero : (xs : List tree.Name) → From 0 xs
from_zero [] = tt
from_zero (x ∷ xs) = (omega arith, from_zero xs)

decl_read : (f : Frame) (r : ℕ) (d : tree.Decl) → (read_decl f r d).faults ≡ [] → Each NotBad f.scene
    → r + decl_routines d ≤ length f.scene.headings → DeclRead f r d (read_decl f r d)
unfolding decls_routines
decl_read f r (tree.const_decl n xs) e h room =
    plain_read f r (tree.const_decl n xs) (read_consts f xs) (λ lo b. consts_grown lo f xs b h e) (from_zero (const_names xs)) (λ q i. i) tt
decl_read f r (tree.type_decl n xs) e h room =
    plain_read f r (tree.type_decl n xs) (read_types f xs) (λ lo b. types_grown lo f xs b h e) (from_zero (type_entry_names xs)) (λ q i. i)
    tt
decl_read f r (tree.var_decl n xs) e h room =
    plain_read f r (tree.var_decl n xs) (read_vars f xs) (λ lo b. vars_grown lo f xs b h e) (from_zero (var_names xs)) (λ q i. i) tt
decl_read f r (tree.procedure n name params result b end_name) e h room =
    let sound = head_sound f.scene r n params result b
    (block_each NotBad f.scene r Rattle.alma_rules.specs.Scene.nothing
    (Rattle.alma_rules.specs.Decls.formal_names (Rattle.alma_rules.specs.Decls.formals_of params)) b h (λ q i m. tt))
    (nil_right _ _ e) in
    let hs = f.scene.headings in
    let there : HeadingThere (get_or (set f.scene.headings r (read_heading f.scene r n params result b).heading) r None) =
    subst HeadingThere (sym
    (get_or-set_same f.scene.headings r (read_heading f.scene r n params result b).heading None (omega (arith, room)))) sound.0 in
    record {
      moved = λ lo x. moved_headings lo f.scene (set f.scene.headings r (read_heading f.scene r n params result b).heading);
      made = λ q i. subst (λ j. HeadingThere (get_or (set f.scene.headings r (read_heading f.scene r n params result b).heading) j None))
          (sym i) there;
      stay = λ q i. by (read_heading f.scene r n params result b).heading q i there (eqb_tells q r);
      long = length-set f.scene.headings r (read_heading f.scene r n params result b).heading;
      head = sound.1;
    }
  where
    by : (o : Option Heading) (q : ℕ) → HeadingThere (get_or f.scene.headings q None)
        → HeadingThere (get_or (set f.scene.headings r o) r None) → ((nat_eq q r ≡ true) × (q ≡ r)) ⊎ ((nat_eq q r ≡ false) × (q ≢ r))
        → HeadingThere (get_or (set f.scene.headings r o) q None)
    by o q i there (inl s) = subst (λ j. HeadingThere (get_or (set f.scene.headings r o) j None)) (sym s.1) there
    by o q i there (inr s) = subst HeadingThere (sym (get_or-set_other f.scene.headings r q o None s.1)) i

pub record DeclsRead (f : Frame) (r : ℕ) (x : tree.DeclTail) (g : Frame) : Type 0 where
  pub moved : (lo : ℕ) → From lo (decls_names x) → Moved lo f.scene g.scene
  pub made : (q : ℕ) → IsProc r x q → HeadingThere (get_or g.scene.headings q None)
  pub stay : (q : ℕ) → HeadingThere (get_or f.scene.headings q None) → HeadingThere (get_or g.scene.headings q None)
  pub long : length g.scene.headings ≡ length f.scene.headings
  pub heads : ProcsThere g.scene r x

pub decls_read : (f : Frame) (r : ℕ) (x : tree.DeclTail) → (read_decls f r x).faults ≡ [] → Each NotBad f.scene → DeclsStand x
    → r + decls_routines x ≤ length f.scene.headings → DeclsRead f r x (read_decls f r x)
unfolding DeclsStand IsProc ProcsThere decls_routines
decls_read f r tree.no_decl e h stand room = record {
  moved = λ lo b. moved_grown (grown_same lo f.scene);
  made = λ q i. absurd i;
  stay = λ q i. i;
  long = refl;
  heads = tt;
}
decls_read f r (tree.more_decl d rest) e h stand room =
    let q = decls_quiet (read_decl f r d) (r + decl_routines d) rest e in
    let one = decl_read f r d q h (omega (arith, room)) in
    let more = decls_read (read_decl f r d) (r + decl_routines d) rest e
    (moved_each NotBad plain_not_bad (one.moved 0 (from_zero (decl_names d))) h) stand.1 (omega (arith, room, one.long)) in
    record {
      moved = λ lo b. moved_twice (one.moved lo (from_front lo (decl_names d) (decls_names rest) b))
          (more.moved lo (from_back lo (decl_names d) (decls_names rest) b));
      made = λ j i. by d one more j i;
      stay = λ j i. more.stay j (one.stay j i);
      long = more.long ∙ one.long;
      heads = (later d one more stand.0, more.heads);
    }
  where
    by : (d : tree.Decl) → DeclRead f r d (read_decl f r d)
        → DeclsRead (read_decl f r d) (r + decl_routines d) rest (read_decls (read_decl f r d) (r + decl_routines d) rest) → (j : ℕ)
        → IsProcHere r d j ⊎ IsProc (r + decl_routines d) rest j
        → HeadingThere (get_or (read_decls (read_decl f r d) (r + decl_routines d) rest).scene.headings j None)
    by d one more j (inl i) = more.stay j (one.made j i)
    by d one more j (inr i) = more.made j i

    later : (d : tree.Decl) → DeclRead f r d (read_decl f r d)
        → DeclsRead (read_decl f r d) (r + decl_routines d) rest (read_decls (read_decl f r d) (r + decl_routines d) rest)
        → DeclStands d (decls_names rest)
        → ProcThere (read_decls (read_decl f r d) (r + decl_routines d) rest).scene r d
    later (tree.const_decl n xs) one more stand = tt
    later (tree.type_decl n xs) one more stand = tt
    later (tree.var_decl n xs) one more stand = tt
    later (tree.procedure n name params result b end_name) one more stand =
        head_later stand.0.0 f.scene _ r params result b
        (moved_outer (moved_twice (moved_headings stand.0.0 f.scene _) (more.moved stand.0.0 stand.0.2))) stand.0.1 one.head
