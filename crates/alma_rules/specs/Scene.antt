-- Where a phrase stands: the tokens, the declarations that are visible there, the shapes of their types, and the routine round it.
use Rattle.std.specs.Prelude.{ℕ, ◌+◌, ◌-◌, ℤ, pos, Bool, true, false, not, nat_eq, if◌then◌else◌, List, [], ◌∷◌, length, drop, take}
use Rattle.std.specs.Prelude.{slice_get, get_or, bytes_eq, option_and_then, unwrap_or, Option, None, Some, is_some}
use Rattle.std.specs.Str.Parse.{digits_value}
use Rattle.alma_base.specs.declared.number.Range.{Range}
use Rattle.alma_base.specs.Numbers.{whole_range}
use Rattle.alma_tree.specs.declared.leaf.Mode.{Mode}
use Rattle.alma_scan.specs.Tokens.{Lexeme}
use Rattle.alma_scan.specs.Places.{line_at}
use Rattle.alma_names.specs.declared.block.Access.{Access}
use Rattle.alma_names.specs.declared.block.Access.TheVariants as access
use Rattle.alma_names.specs.declared.block.Entry.{Entry}
use Rattle.alma_names.specs.declared.block.Entry.TheVariants as entry
use Rattle.alma_names.specs.Shapes.{PlainShape, row, fields, range_at, base_at, cells_at, integer_shape, char_shape, boolean_shape}
use Rattle.alma_names.specs.Scopes.{Blocks, visible, entry_at, level_of}
use Rattle.alma_ir.specs.declared.program.Param.{Param}
use Rattle.alma_ir.specs.declared.phrase.Root.{Root}
use Rattle.alma_ir.specs.declared.phrase.Root.TheVariants as root
use Rattle.alma_rules.specs.Numbered.{Name}

-- a parameter: how it is passed, where not by value, and the shape of its type
pub record FormalOf : Type 0 where
  pub mode : Option Mode
  pub shape : ℕ

-- a heading in which no rule is broken
pub record Heading : Type 0 where
  pub formals : List FormalOf
  pub result : Option ℕ
  pub params : List Param

-- what RETURN may give in a routine: nothing, or a value of a shape (None where the heading is Bad)
pub data Returns : Type 0 where
  nothing : Returns
  a_value : Option ℕ → Returns

-- the source and its tokens; the shapes of all types so far; the blocks round the phrase, the innermost on top; the heading of
-- each routine by its number, None where it is Bad or not read yet; the names that the innermost block declares, with their
-- tokens, in the order of the text; the number of the routine round the phrase, and what RETURN gives there; whether the phrase
-- stands in a constant place, and whether it stands inside FORALL, COMMIT, NOT or a parenthesised sequence
pub record Scene : Type 0 where
  pub source : List ℕ
  pub tokens : List Lexeme
  pub shapes : List PlainShape
  pub blocks : Blocks
  pub headings : List (Option Heading)
  pub declares : List (List ℕ × ℕ)
  pub routine : ℕ
  pub returns : Returns
  pub constant : Bool
  pub inside : Bool

-- a constant place
abbrev pub in_constant : Scene → Scene
in_constant s = record s { constant = true }

-- the inside of FORALL, COMMIT, NOT or a parenthesised sequence
abbrev pub inside_of : Scene → Scene
inside_of s = record s { inside = true }

-- ---- tokens

-- the bytes of a token, if there is one
abbrev pub text_of : Option Lexeme → List ℕ
text_of None = []
text_of (Some t) = t.text

-- the bytes of the token of this index
abbrev pub text_at : Scene → ℕ → List ℕ
text_at s t = text_of (slice_get s.tokens t)

-- the value of a number
abbrev pub number_at : Scene → ℕ → ℤ
number_at s t = pos (digits_value 10 (text_at s t))

-- the bytes between the quotes of a literal
abbrev pub between : List ℕ → List ℕ
between text = take (length text - 2) (drop 1 text)

-- the same, of the literal that is the token of this index
abbrev pub literal_at : Scene → ℕ → List ℕ
literal_at s t = between (text_at s t)

-- the offset of a token, if there is one
abbrev pub start_of : Option Lexeme → ℕ
start_of None = 0
start_of (Some t) = t.start

-- the line of the token of this index
abbrev pub line_of : Scene → ℕ → ℕ
line_of s t = line_at s.source (start_of (slice_get s.tokens t))

-- ---- shapes

-- the base of a shape
abbrev pub base : Scene → ℕ → ℕ
base s shape = base_at s.shapes shape

-- the cells of a shape
abbrev pub cells : Scene → ℕ → ℕ
cells s shape = cells_at s.shapes shape

-- the range of a simple shape, and that of INTEGER for a structured one
abbrev pub range : Scene → ℕ → Range
range s shape = unwrap_or (range_at s.shapes shape) whole_range

-- the shape is an array or a record
abbrev pub is_structured : Scene → ℕ → Bool
is_structured s shape = not (is_some (range_at s.shapes shape))

-- the base is INTEGER
abbrev pub has_integer : Scene → ℕ → Bool
has_integer s shape = nat_eq (base s shape) integer_shape

-- the base is CHAR
abbrev pub has_char : Scene → ℕ → Bool
has_char s shape = nat_eq (base s shape) char_shape

-- the base is BOOLEAN
abbrev pub has_boolean : Scene → ℕ → Bool
has_boolean s shape = nat_eq (base s shape) boolean_shape

-- the two types are compatible: simple ones of one base, or one structured type
abbrev pub are_compatible : Scene → ℕ → ℕ → Bool
are_compatible s a b = nat_eq (base s a) (base s b)

-- the index and the element of an array
abbrev pub row_of : PlainShape → Option (ℕ × ℕ)
row_of (row i e) = Some (i, e)
row_of s = None

-- the same, of the shape of this number
abbrev pub row_at : Scene → ℕ → Option (ℕ × ℕ)
row_at s shape = option_and_then row_of (slice_get s.shapes shape)

-- the shape is a record
abbrev pub is_record : PlainShape → Bool
is_record (fields fs) = true
is_record s = false

-- the same, of a shape that there may not be
abbrev pub is_record_in : Option PlainShape → Bool
is_record_in None = false
is_record_in (Some s) = is_record s

-- ---- names

-- a name in use: no declaration of it is visible; its entry is Bad; or it stands for something
pub data Found : Type 0 where
  absent : Found
  bad : Found
  constant : (shape : ℕ) → ℤ → Found
  named : (shape : ℕ) → Found
  variable : (shape : ℕ) → Root → Found
  routine : (number up : ℕ) → Option Heading → Found

-- the level of the routine round the phrase: 0 in the body of the module
abbrev pub level : Scene → ℕ
level s = length s.blocks.below - 1

-- where a variable of level m stands, seen from level c
abbrev pub root_from : (c m : ℕ) → Access → Root
root_from c m (access.Local slot) = if nat_eq m c then root.Local slot else root.Outer (c - m) slot
root_from c m (access.Global slot) = if nat_eq c 0 then root.Local slot else root.Global slot
root_from c m (access.Param slot) = if nat_eq m c then root.Param slot else root.OuterParam (c - m) slot

-- the heading of a routine by its number
abbrev pub heading_of : Scene → ℕ → Option Heading
heading_of s r = get_or s.headings r None

-- what an entry is, seen from level c, where its block has this number
abbrev pub found_as : Scene → (block : ℕ) → Entry → Found
found_as s block (entry.Constant shape v) = constant shape.0 v
found_as s block (entry.Named shape) = named shape.0
found_as s block (entry.Variable shape a) = variable shape.0 (root_from (level s) (block - 1) a)
found_as s block (entry.Routine r) = routine r (level s + 1 - block) (heading_of s r)
found_as s block entry.Bad = bad

-- what the declaration of this number stands for, if there is one
abbrev pub found_at : Scene → Option ℕ → Found
found_at s None = absent
found_at s (Some id) = found_as s (level_of id s.blocks) (entry_at id s.blocks)

-- what a name in use stands for: the declaration that is visible at its token
abbrev pub found : Scene → Name → Found
found s name = found_at s (visible (text_at s name.token) name.token s.blocks)

-- the token of the first declaration of a name in its block
abbrev pub first_token : List ℕ → List (List ℕ × ℕ) → ℕ → ℕ
first_token text [] token = token
first_token text (d ∷ ds) token = if bytes_eq text d.0 then d.1 else first_token text ds token

-- of several declarations of one name in one block the first in the text counts
abbrev pub is_first : Scene → Name → Bool
is_first s name = nat_eq (first_token (text_at s name.token) s.declares name.token) name.token
