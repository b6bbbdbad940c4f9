-- What the functions of the parser give.
use Rattle.std.specs.Prelude.{◌≡◌, ◌≤◌, ◌<◌, ◌+◌, ℕ, suc, Bool, true, false, List, [], ◌∷◌, Some, map, length, nat_eq, nat_le}
use Rattle.alma_base.specs.Limits.{depth_limit}
use Rattle.alma_tree.specs.declared.kind.Kind.{Kind}
use Rattle.alma_tree.specs.Kinds.{code}
use Rattle.alma_tree.specs.Numbers as numbers
use Rattle.alma_tree.specs.Numbers.{Step, token}
use Rattle.alma_grammar.specs.Parts.{Part}
use Rattle.alma_grammar.specs.Reading.{reading, End, unexpected, too_deep}
use Rattle.alma_scan.specs.declared.scanner.Token.{Token}
use Rattle.alma_parse_cursor.specs.declared.cursor.Cursor.{Cursor}
use Rattle.alma_parse_cursor.specs.declared.fault.Fault.{Fault}
use Rattle.alma_parse_cursor.specs.declared.fault.Fault.TheVariants as faults

-- the kinds of tokens, in order: all that the grammar asks of them
abbrev pub kinds_of : List Token → List Kind
kinds_of tokens = map (λ t. t.kind) tokens

-- where the parser stands: the kinds that are left, and the next token and node
pub record At : Type 0 where
  pub kinds : List Kind
  pub place : numbers.Cursor

-- where a cursor stands: the kinds not yet read, and the numbers of the next token and node
abbrev pub position_of : Cursor → At
position_of c = record { kinds = kinds_of c.rest.now; place = record { token = c.token; node = c.node } }

-- the tokens are so many, and can be counted in 32 bits
pub record Few (tokens : ℕ) (a : At) : Type 0 where
  pub counted : a.place.token + length a.kinds ≡ tokens
  pub fits : tokens < 4294967296

-- the list goes on with this kind
abbrev pub starts_with : Kind → List Kind → Bool
starts_with k [] = false
starts_with k (l ∷ ks) = nat_eq (code l) (code k)

-- From a to b the parser passed one token.
pub record Passes (k : Kind) (a b : At) : Type 0 where
  pub kinds_so : a.kinds ≡ k ∷ b.kinds
  pub place_so : (tokens : ℕ) → Few tokens a → (token a.place ≡ Some b.place) × Few tokens b
  pub shorter : length a.kinds ≡ suc (length b.kinds)

-- From a to b, and from depth d to depth e, it passed one token that opens a bracket.
pub record Opens (k : Kind) (d e : ℕ) (a b : At) : Type 0 where
  pub passes : Passes k a b
  pub deeper : e ≡ suc d
  pub shallow : nat_le depth_limit d ≡ false

-- From a to b it gave a node its number.
pub record Counts (n : ℕ) (a b : At) : Type 0 where
  pub is_next : n ≡ a.place.node
  pub kinds_so : b.kinds ≡ a.kinds
  pub place_so : b.place ≡ record { token = a.place.token; node = suc a.place.node }

-- From a to b, and from depth d to depth e, it read these parts: they are spelled so, and their leaves and nodes have their numbers.
pub record Reads (spelled : List Kind → List Kind) (numbered : Step) (parts : List Part → List Part) (d e : ℕ) (a b : At) : Type 0 where
  pub spelled_so : a.kinds ≡ spelled b.kinds
  pub numbered_so : (tokens : ℕ) → Few tokens a → (numbered a.place ≡ Some b.place) × Few tokens b
  pub reads : (open_parts : List Part) → reading true a.kinds d (parts open_parts) ≡ reading true b.kinds e open_parts
  pub shorter : length b.kinds ≤ length a.kinds

-- reading ends with this fault
abbrev pub EndsIn : Fault → End → Type 0
EndsIn faults.Memory end = Unit {0}
EndsIn (faults.Unexpected rest) end = end ≡ unexpected (kinds_of rest.now)
EndsIn (faults.TooDeep rest) end = end ≡ too_deep (kinds_of rest.now)

-- Where these parts are open at a, at depth d, reading ends with the fault.
pub record Fails (fault : Fault) (parts : List Part → List Part) (d : ℕ) (a : At) : Type 0 where
  pub ends : (open_parts : List Part) → EndsIn fault (reading true a.kinds d (parts open_parts))

-- With these tokens next, reading the first parts is reading the others.
pub record Becomes (parts others : List Part → List Part) (ks : List Kind) : Type 0 where
  pub becomes : (d : ℕ) (open_parts : List Part) → reading true ks d (parts open_parts) ≡ reading true ks d (others open_parts)

-- Behind what is spelled and numbered by s and n, the function read further parts, from a to b, and made of both what is spelled and
-- numbered by t and m.
pub record Extends (s : List Kind → List Kind) (n : Step) (parts : List Part → List Part)
    (t : List Kind → List Kind) (m : Step) (d : ℕ) (a b : At) : Type 0 where
  pub extends : (start : At) (before : List Part → List Part) (e : ℕ) → Reads s n before e d start a
      → Reads t m (λ o. before (parts o)) e d start b
  pub reads : (open_parts : List Part) → reading true a.kinds d (parts open_parts) ≡ reading true b.kinds d open_parts
  pub shorter : length b.kinds ≤ length a.kinds
