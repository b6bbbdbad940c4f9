-- What a scene keeps in which a body is judged: its table of shapes, and what each name in it stands for, in a place of a program.
use Rattle.std.specs.Prelude.{◌≡◌, ℕ, ◌+◌, ◌*◌, ◌<◌, ◌≤◌, Bool, false, List, [], ◌∷◌, length, Option, None, Some, not, is_some, slice_get}
use Rattle.std.specs.Prelude.{option_and_then, unwrap_or, IsSome, IsNone}
use Rattle.alma_base.specs.Numbers.{range_size, whole_range}
use Rattle.alma_names.specs.Shapes.{PlainShape, range_at, base_at, cells_at, field_at}
use Rattle.alma_ir.specs.declared.program.Param.{Param}
use Rattle.alma_ir.specs.Tree.{Routine, routine_at}
use Rattle.alma_ir.specs.Checked.{IsOrdered, LinksAgree}
use Rattle.alma_rules.specs.Numbered as tree
use Rattle.alma_rules.specs.Scene.{Scene, Heading, FormalOf, Returns, nothing, a_value, Found, absent, bad, constant, named, variable}
use Rattle.alma_rules.specs.Scene.{routine, found, cells, is_structured, row_of}
use Rattle.alma_rules.specs.Decls.{param_kind}
use Rattle.alma_resolved.specs.Fits.{Place, own, RootFits}

-- ---- the table of shapes

-- the shape of a number is no simple one
abbrev pub structured_in : List PlainShape → ℕ → Bool
structured_in t a = not (is_some (range_at t a))

-- what the table says of each number, one of a shape or not
pub record TableFits (t : List PlainShape) : Type 0 where
  pub simple : (a : ℕ) → structured_in t a ≡ false → cells_at t a ≡ 1
  pub rows : (a i e : ℕ) → option_and_then row_of (slice_get t a) ≡ Some (i, e)
      → range_size (unwrap_or (range_at t i) whole_range) * cells_at t e ≤ cells_at t a
  pub indices : (a i e : ℕ) → option_and_then row_of (slice_get t a) ≡ Some (i, e) → structured_in t i ≡ false
  pub fields : (name : List ℕ) (a o f : ℕ) → field_at name (slice_get t a) ≡ Some (o, f) → o + cells_at t f ≤ cells_at t a
  pub alike : (a b : ℕ) → base_at t a ≡ base_at t b → structured_in t a ≡ structured_in t b
  pub same : (a b : ℕ) → base_at t a ≡ base_at t b → cells_at t a ≡ cells_at t b
  pub basic : (a : ℕ) → base_at t a < 3 → structured_in t a ≡ false
  pub firsts : (a : ℕ) → a < 3 → structured_in t a ≡ false
  pub ordered : (a : ℕ) → IsOrdered (unwrap_or (range_at t a) whole_range)

-- ---- names

-- a formal and the parameter that it makes
abbrev pub FormalFits : Scene → FormalOf → Param → Type 0
FormalFits s f q = (q.kind ≡ param_kind (is_structured s f.shape) f.mode) × (q.cells ≡ cells s f.shape)

-- formals and parameters, as many
abbrev pub FormalsFit : Scene → List FormalOf → List Param → Type 0
FormalsFit s [] [] = Unit {0}
FormalsFit s [] (q ∷ qs) = ⊥
FormalsFit s (f ∷ fs) [] = ⊥
FormalsFit s (f ∷ fs) (q ∷ qs) = FormalFits s f q × FormalsFit s fs qs

-- the result of a heading and that of the routine
abbrev pub ResultFits : Scene → Option ℕ → Routine → Type 0
ResultFits s None x = IsNone x.result
ResultFits s (Some shape) x = IsSome x.result × (is_structured s shape ≡ false)

-- a routine with this heading, called by its links
pub record CalleeFits (k : Place) (s : Scene) (q up : ℕ) (h : Heading) : Type 0 where
  pub some : 0 < q
  pub exists : q < length k.program.routines
  pub links : LinksAgree k.program k.number (own k) q up
  pub result : ResultFits s h.result (routine_at k.program q)
  pub formals : FormalsFit s h.formals (routine_at k.program q).params

-- what a name stands for
abbrev pub FoundFits : Place → Scene → Found → Type 0
FoundFits k s absent = Unit {0}
FoundFits k s bad = Unit {0}
FoundFits k s (constant shape v) = is_structured s shape ≡ false
FoundFits k s (named shape) = Unit {0}
FoundFits k s (variable shape root) = RootFits k root (cells s shape)
FoundFits k s (routine q up None) = Unit {0}
FoundFits k s (routine q up (Some h)) = CalleeFits k s q up h

-- what RETURN gives and the result of the routine
abbrev pub ReturnsFit : Routine → Returns → Type 0
ReturnsFit x nothing = IsNone x.result
ReturnsFit x (a_value shape) = IsSome x.result

-- a function gives a simple value
abbrev pub ReturnsSimple : Scene → Returns → Type 0
ReturnsSimple s nothing = Unit {0}
ReturnsSimple s (a_value None) = ⊥
ReturnsSimple s (a_value (Some shape)) = is_structured s shape ≡ false

-- the scene of a body of a routine of the program
pub record SceneFits (k : Place) (s : Scene) : Type 0 where
  pub table : TableFits s.shapes
  pub names : (name : tree.Name) → FoundFits k s (found s name)
  pub returns : ReturnsFit (own k) s.returns
  pub result : ReturnsSimple s s.returns
