-- What a scene keeps whose phrases belong to a routine of a program: its table, and what each name declared in it stands for.
use Rattle.std.proofs.Common.{◌≡◌, ℕ, suc, ◌+◌, ◌-◌, ◌<◌, ◌≤◌, Bool, true, false, List, [], ◌∷◌, ◌++◌, length, Option, None, Some, refl}
use Rattle.std.proofs.Common.{sym, ap, ◌∙◌, subst, arith, append_assoc, append-nil, length-append}
use Rattle.std.specs.Prelude.{get_or, sum_by, if◌then◌else◌, IsSome, IsNone}
use Rattle.alma_names.specs.declared.block.Access.{Access}
use Rattle.alma_names.specs.declared.block.Access.TheVariants as access
use Rattle.alma_names.specs.declared.block.Entry.{Entry}
use Rattle.alma_names.specs.declared.block.Entry.TheVariants as entry
use Rattle.alma_names.specs.Shapes.{PlainShape, cells_at}
use Rattle.alma_names.specs.Blocks.{DeclaredName}
use Rattle.alma_names.specs.Scopes.{with_declared}
use Rattle.alma_base.specs.Limits.{cell_limit}
use Rattle.alma_ir.specs.declared.program.ArgKind.{ArgKind}
use Rattle.alma_ir.specs.declared.program.ArgKind.TheVariants as kinds
use Rattle.alma_ir.specs.declared.program.Param.{Param}
use Rattle.alma_ir.specs.Tree.{Program, Routine, routine_at}
use Rattle.alma_ir.specs.Checked.{HoldPlace, IsOrdered, outer_at}
use Rattle.alma_rules.specs.Numbered as tree
use Rattle.alma_rules.specs.Scene.{Scene, Heading, FormalOf, found_as, is_first, text_at, in_constant}
use Rattle.alma_rules.specs.Types.{declare_name}
use Rattle.alma_rules.specs.Decls.{param_kind}
use Rattle.alma_resolved.specs.Fits.{Place, InFrame}
use Rattle.alma_resolved.specs.Scenes.{structured_in}
use Rattle.alma_resolved.proofs.Lookups.{AllFrom, Each, found_each, each_follows_from}
use Rattle.alma_resolved.proofs.Tables.{TableKeeps, structured_still, simple_still, cells_more}
use Rattle.alma_resolved.proofs.Constants.{ConstantFound, Simples}

-- ---- entries

-- the routine whose block has this number, in a scene of this level
abbrev pub owner : Place → (c n : ℕ) → ℕ
owner k c n = outer_at k.program k.number (suc c - n)

-- a variable of so many cells of the block of this number
abbrev pub AccessKeeps : Place → (c n cells : ℕ) → Access → Type 0
AccessKeeps k c n cells (access.Local slot) = (1 < n) × InFrame k (owner k c n) slot cells
AccessKeeps k c n cells (access.Global slot) = InFrame k 0 slot cells × (0 < slot)
AccessKeeps k c n cells (access.Param slot) = (1 < n) × HoldPlace (routine_at k.program (owner k c n)).params slot cells

-- a procedure of the block of this number
pub record RoutineKeeps (k : Place) (c n q : ℕ) : Type 0 where
  pub some : 0 < q
  pub exists : q < length k.program.routines
  pub outer : (routine_at k.program q).outer ≡ owner k c n
  pub level : (routine_at k.program q).level ≡ n

-- what a name stands for that is declared in the block of this number
abbrev pub EntryKeeps : Place → (c : ℕ) → List PlainShape → (n : ℕ) → Entry → Type 0
EntryKeeps k c t n (entry.Constant shape v) = structured_in t shape.0 ≡ false
EntryKeeps k c t n (entry.Named shape) = shape.0 < length t
EntryKeeps k c t n (entry.Variable shape a) = (shape.0 < length t) × (n ≤ suc c) × AccessKeeps k c n (cells_at t shape.0) a
EntryKeeps k c t n (entry.Routine q) = (n ≤ suc c) × RoutineKeeps k c n q
EntryKeeps k c t n entry.Bad = Unit {0}

-- the declared cells of a parameter: one where it stands for a place
abbrev pub cells_of_kind : ArgKind → (cells : ℕ) → ℕ
cells_of_kind kinds.Value n = n
cells_of_kind kinds.Cells n = n
cells_of_kind kinds.Place n = 1
cells_of_kind kinds.Mix n = 1

abbrev pub cells_declared : Param → ℕ
cells_declared q = cells_of_kind q.kind q.cells

-- a formal and the parameter that it makes
pub record FormalKeeps (t : List PlainShape) (f : FormalOf) (q : Param) : Type 0 where
  pub there : f.shape < length t
  pub kind : q.kind ≡ param_kind (structured_in t f.shape) f.mode
  pub cells : q.cells ≡ cells_at t f.shape
  pub ordered : IsOrdered q.range

abbrev pub FormalsKeep : List PlainShape → List FormalOf → List Param → Type 0
FormalsKeep t [] [] = Unit {0}
FormalsKeep t [] (q ∷ qs) = ⊥
FormalsKeep t (f ∷ fs) [] = ⊥
FormalsKeep t (f ∷ fs) (q ∷ qs) = FormalKeeps t f q × FormalsKeep t fs qs

-- the result of a heading, of a simple type, and that of the routine
abbrev pub ResultKeeps : List PlainShape → Option ℕ → Routine → Type 0
ResultKeeps t None x = IsNone x.result
ResultKeeps t (Some shape) x = IsSome x.result × (structured_in t shape ≡ false)

-- the heading of routine q of the program
pub record HeadKeeps (p : Program) (t : List PlainShape) (q : ℕ) (h : Heading) : Type 0 where
  pub formals : FormalsKeep t h.formals (routine_at p q).params
  pub result : ResultKeeps t h.result (routine_at p q)
  pub small : sum_by cells_declared (routine_at p q).params ≤ cell_limit

-- each heading that was read is that of its routine
abbrev pub HeadsKeep : Program → Scene → Type 0
HeadsKeep p s = (q : ℕ) (h : Heading) → get_or s.headings q None ≡ Some h → HeadKeeps p s.shapes q h

pub record SceneKeeps (k : Place) (c : ℕ) (s : Scene) : Type 0 where
  pub table : TableKeeps s.shapes
  pub deep : length s.blocks.below ≡ suc c
  pub entries : Each (EntryKeeps k c s.shapes) s
  pub heads : HeadsKeep k.program s

-- ---- more shapes

pub entry_still : (k : Place) (c : ℕ) (t u : List PlainShape) (n : ℕ) (e : Entry) → EntryKeeps k c t n e → EntryKeeps k c (t ++ u) n e
entry_still k c t u n (entry.Constant shape v) h = simple_still t u shape.0 h
entry_still k c t u n (entry.Named shape) h = omega (arith, h, length-append t u)
entry_still k c t u n (entry.Variable shape a) h =
    (omega (arith, h.0, length-append t u), h.1, subst (λ m. AccessKeeps k c n m a) (sym (cells_more t u shape.0 h.0)) h.2)
entry_still k c t u n (entry.Routine q) h = h
entry_still k c t u n entry.Bad h = h

formals_still : (t u : List PlainShape) (fs : List FormalOf) (qs : List Param) → FormalsKeep t fs qs → FormalsKeep (t ++ u) fs qs
formals_still t u [] [] h = tt
formals_still t u [] (q ∷ qs) h = h
formals_still t u (f ∷ fs) [] h = h
formals_still t u (f ∷ fs) (q ∷ qs) h = (
  record {
    there = omega (arith, h.0.there, length-append t u);
    kind = h.0.kind ∙ ap (λ b. param_kind b f.mode) (sym (structured_still t u f.shape h.0.there));
    cells = h.0.cells ∙ sym (cells_more t u f.shape h.0.there);
    ordered = h.0.ordered;
  },
  formals_still t u fs qs h.1,
)

result_still : (t u : List PlainShape) (o : Option ℕ) (x : Routine) → ResultKeeps t o x → ResultKeeps (t ++ u) o x
result_still t u None x h = h
result_still t u (Some shape) x h = (h.0, simple_still t u shape h.1)

pub head_still : (p : Program) (t u : List PlainShape) (q : ℕ) (h : Heading) → HeadKeeps p t q h → HeadKeeps p (t ++ u) q h
head_still p t u q h g = record {
  formals = formals_still t u h.formals (routine_at p q).params g.formals;
  result =
      result_still t u h.result (routine_at p q) g.result;
  small = g.small;
}

pub keeps_shapes : {k : Place} {c : ℕ} {s : Scene} (u : List PlainShape) → SceneKeeps k c s → TableKeeps (s.shapes ++ u)
    → SceneKeeps k c (record s { shapes = s.shapes ++ u })
keeps_shapes {k} {c} {s} u h t = record {
  table = t;
  deep = h.deep;
  entries = each_follows_from (EntryKeeps k c s.shapes) (EntryKeeps k c (s.shapes ++ u)) (entry_still k c s.shapes u) 0 s.blocks.below
      s.blocks.top h.entries;
  heads = λ q x e. head_still k.program s.shapes u q x (h.heads q x e);
}

-- ---- one name more

on_top : (P : ℕ → Entry → Type 0) (n m : ℕ) (below : List (List DeclaredName)) (top : List DeclaredName) (d : DeclaredName)
    → AllFrom P n below top → n + length below ≡ m → P m d.entry → AllFrom P n below (top ++ d ∷ [])
unfolding AllFrom
on_top P n m [] [] d h e p = let same : m ≡ n = omega (arith, e) in (subst (λ i. P i d.entry) same p, tt)
on_top P n m [] (x ∷ xs) d h e p = (h.0, on_top P n m [] xs d h.1 e p)
on_top P n m (b ∷ bs) top d h e p = (h.0, on_top P (n + 1) m bs top d h.1 (omega (arith, e)) p)

pub keeps_declared : {k : Place} {c : ℕ} {s : Scene} (name : tree.Name) (from : ℕ) (e : Entry) → SceneKeeps k c s
    → EntryKeeps k c s.shapes (suc c) e → SceneKeeps k c (declare_name s name from e)
keeps_declared {k} {c} {s} name from e h p = by (is_first s name)
  where
    by : (b : Bool) → SceneKeeps k c (if b then record s
        { blocks = with_declared s.blocks (record { name = text_at s name.token; from = from; entry = e }) } else s)
    by true = record {
      table = h.table;
      deep = h.deep;
      entries = on_top (EntryKeeps k c s.shapes) 0 (suc c) s.blocks.below s.blocks.top
          (record { name = text_at s name.token; from = from; entry = e }) h.entries (omega (arith, h.deep)) p;
      heads = h.heads;
    }
    by false = h

declared_shapes : (s : Scene) (name : tree.Name) (from : ℕ) (e : Entry) → (declare_name s name from e).shapes ≡ s.shapes
declared_shapes s name from e = by (is_first s name)
  where
    by : (b : Bool) → (if b then record s
        { blocks = with_declared s.blocks (record { name = text_at s name.token; from = from; entry = e }) } else s).shapes ≡ s.shapes
    by true = refl
    by false = refl

-- the shapes of a scene are the first of another's
pub record Longer (s t : Scene) : Type 0 where
  pub tail : List PlainShape
  pub is : t.shapes ≡ s.shapes ++ tail

pub longer_same : (s t : Scene) → t.shapes ≡ s.shapes → Longer s t
longer_same s t e = record { tail = []; is = e ∙ sym (append-nil s.shapes) }

pub longer_twice : {s t u : Scene} → Longer s t → Longer t u → Longer s u
longer_twice {s} {t} {u} a b = record {
  tail = a.tail ++ b.tail;
  is = b.is
      ∙ (ap (λ x. x ++ b.tail) a.is ∙ append_assoc s.shapes a.tail b.tail);
}

pub longer_declared : (s : Scene) (name : tree.Name) (from : ℕ) (e : Entry) → Longer s (declare_name s name from e)
longer_declared s name from e = longer_same s (declare_name s name from e) (declared_shapes s name from e)

-- ---- constants

-- constants in such a scene are of simple types
pub keeps_simples : {k : Place} {c : ℕ} {s : Scene} → SceneKeeps k c s → Simples (in_constant s)
keeps_simples {k} {c} {s} h = record {
  firsts = h.table.firsts;
  names = found_each (EntryKeeps k c s.shapes) (ConstantFound (in_constant s)) (in_constant s) h.entries tt by;
}
  where
    by : (n : ℕ) (e : Entry) → EntryKeeps k c s.shapes n e → ConstantFound (in_constant s) (found_as (in_constant s) n e)
    by n (entry.Constant shape v) p = p
    by n (entry.Named shape) p = tt
    by n (entry.Variable shape a) p = tt
    by n (entry.Routine q) p = tt
    by n entry.Bad p = tt
