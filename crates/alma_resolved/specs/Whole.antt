-- What each routine of a resolved program keeps of its frame: hidden slots of loops behind it, and phrases that fit its place.
use Rattle.std.specs.Prelude.{◌≡◌, ℕ, ◌+◌, ◌<◌, ◌≤◌, false, List, length, map, sum_by}
use Rattle.std.specs.List.{AllByRecursion}
use Rattle.alma_base.specs.Limits.{cell_limit, routine_slot_limit}
use Rattle.alma_tree.specs.declared.kind.Kind.{Kind}
use Rattle.alma_tree.specs.declared.module.Module.{Module}
use Rattle.alma_tree.specs.Numbers.{IsNumbered}
use Rattle.alma_tree.specs.Spelling.{spelling}
use Rattle.alma_tree.specs.View.{view_module}
use Rattle.alma_scan.specs.Tokens.{Lexeme, Tokens}
use Rattle.alma_ir.specs.Tree.{Program, Routine, routine_at}
use Rattle.alma_ir.specs.Phrases.{stmts_phrases}
use Rattle.alma_ir.specs.Checked.{EachRoutine, param_slots, link_slots, HeadRangesOrdered}
use Rattle.alma_resolved.specs.Fits.{Place, PhrasesFit}

-- the place of a routine, where the frame of each ends
abbrev pub place : Program → (ends : ℕ → ℕ) → ℕ → Place
place p ends q = record { program = p; number = q; ends = ends }

-- a routine, with its number: its parameters stand in its frame, and behind the frame are the hidden slots of the loops of its body
pub record RoutineFits (p : Program) (ends : ℕ → ℕ) (q : ℕ) (x : Routine) : Type 0 where
  pub params : sum_by param_slots x.params ≤ ends q
  pub position : q ≡ 0 → 0 < ends q
  pub cells : x.declared ≤ cell_limit
  pub body : PhrasesFit (place p ends q) false (ends q) x.slots (stmts_phrases x.body)
  pub heads : HeadRangesOrdered x

-- each routine of a program does so, and the variables of the module stand in the frame of routine 0
pub record ProgramFits (p : Program) : Type 0 where
  pub ends : ℕ → ℕ
  pub within : (q : ℕ) → ends q ≤ (routine_at p q).slots
  pub routines : EachRoutine p (RoutineFits p ends)
  pub globals : AllByRecursion (λ g. g.slot + g.cells ≤ ends 0) p.globals

-- the slots of a routine are within their limit, with one for its link
abbrev pub KeepsSlots : Routine → Type 0
KeepsSlots x = x.slots + link_slots x.level ≤ routine_slot_limit

-- ---- the tree of a source

-- the kinds of tokens, in order
abbrev pub kinds_in : List Lexeme → List Kind
kinds_in tokens = map (λ t. t.kind) tokens

-- the tokens are those of the source, and the tree is spelled by them and numbers them, as the scanner and the parser promise
pub record IsTreeOf (source : List ℕ) (tokens : List Lexeme) (m : Module) : Type 0 where
  pub scanned : Tokens source tokens
  pub spelled : kinds_in tokens ≡ spelling (view_module m)
  pub numbered : IsNumbered m (length tokens)
