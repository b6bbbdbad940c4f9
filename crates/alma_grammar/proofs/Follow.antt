-- What may follow each part of the grammar: a table, and the rule that it gives.
use Rattle.std.proofs.Common.{◌≡◌, Bool, true, false, ◌&&◌, ◌||◌, not, List, [], ◌∷◌, ◌++◌, Option, None, Some, nat_eq, refl, subst}
use Rattle.std.proofs.lemmas.Bool.{and_parts}
use Rattle.alma_tree.specs.declared.kind.Kind.{Kind}
use Rattle.alma_tree.specs.declared.kind.Kind.TheVariants as kinds
use Rattle.alma_tree.specs.Kinds.{code}
use Rattle.alma_grammar.specs.Parts.{Part, one, sign_part, factor_part, primary_part, factor_tail, term_tail, compared_part, args_part}
use Rattle.alma_grammar.specs.Parts.{args_inside}
use Rattle.alma_grammar.specs.Parts.{expr_tail, selector_tail, stmt_part, after_desig, stmt_tail, elsif_tail, else_part, by_part}
use Rattle.alma_grammar.specs.Parts.{orelse_tail}
use Rattle.alma_grammar.specs.Parts.{returned_part, desig_tail, arm_part, arm_tail, high_part, label_tail, name_tail, array_tail}
use Rattle.alma_grammar.specs.Parts.{plain_part, plain_tail}
use Rattle.alma_grammar.specs.Parts.{field_list_part, field_list_tail, const_tail, type_tail, var_tail, mode_part, formal_tail, params_part}
use Rattle.alma_grammar.specs.Parts.{params_inside}
use Rattle.alma_grammar.specs.Parts.{result_part, decl_tail, body_part, if_same, begins, may_skip, next, this_or_later}
use Rattle.alma_grammar.specs.Filling.{WhereSome}
use Rattle.alma_grammar.proofs.EveryKind.{all_kinds, each, of_every_kind, same_kind}

-- ---- the table

-- what may follow statements
abbrev behind_stmts : List Kind
behind_stmts =
    kinds.CloseParen ∷ kinds.Bar ∷ kinds.Do ∷ kinds.Else ∷ kinds.Elsif ∷ kinds.End ∷ kinds.Orelse ∷ kinds.Until ∷ []

-- what may follow one statement
abbrev behind_stmt : List Kind
behind_stmt =
    kinds.Semicolon ∷ behind_stmts

-- what may follow an expression
abbrev behind_expr : List Kind
behind_expr =
    kinds.Comma ∷ kinds.DotDot ∷ kinds.Colon ∷ kinds.CloseBracket ∷ kinds.By ∷ kinds.Of ∷ kinds.Then ∷ kinds.To ∷ behind_stmt

-- what may follow one side of a relation
abbrev behind_simple : List Kind
behind_simple =
    kinds.Equal ∷ kinds.Unequal ∷ kinds.Less ∷ kinds.LessEq ∷ kinds.Greater ∷ kinds.GreaterEq ∷ behind_expr

-- what may follow a term
abbrev behind_term : List Kind
behind_term =
    kinds.Plus ∷ kinds.Minus ∷ kinds.Or ∷ behind_simple

-- what may follow a factor
abbrev behind_factor : List Kind
behind_factor =
    kinds.Star ∷ kinds.And ∷ kinds.Div ∷ kinds.Mod ∷ behind_term

-- what may follow a designator
abbrev behind_desig : List Kind
behind_desig =
    kinds.Assign ∷ kinds.OpenParen ∷ behind_factor

-- what may follow each part; of one token nothing is said
abbrev pub follows : Part → List Kind
follows (one a) = []
follows sign_part = kinds.Name ∷ kinds.Number ∷ kinds.Literal ∷ kinds.OpenParen ∷ kinds.Chr ∷ kinds.Known ∷ kinds.Not ∷ kinds.Ord ∷ []
follows factor_part = behind_factor
follows primary_part = behind_factor
follows factor_tail = behind_term
follows term_tail = behind_simple
follows compared_part = behind_expr
follows args_part = behind_factor
follows args_inside = behind_factor
follows expr_tail = kinds.CloseParen ∷ kinds.CloseBracket ∷ []
follows selector_tail = behind_desig
follows stmt_part = behind_stmt
follows after_desig = behind_stmt
follows stmt_tail = behind_stmts
follows elsif_tail = kinds.Else ∷ kinds.End ∷ []
follows else_part = kinds.End ∷ []
follows by_part = kinds.Do ∷ []
follows orelse_tail = kinds.End ∷ []
follows returned_part = behind_stmt
follows desig_tail = kinds.CloseParen ∷ []
follows arm_part = kinds.Bar ∷ kinds.Else ∷ kinds.End ∷ []
follows arm_tail = kinds.Else ∷ kinds.End ∷ []
follows high_part = kinds.Comma ∷ kinds.Colon ∷ []
follows label_tail = kinds.Colon ∷ []
follows name_tail = kinds.Colon ∷ kinds.CloseParen ∷ []
follows array_tail = kinds.Name ∷ kinds.OpenParen ∷ kinds.OpenBracket ∷ kinds.Record ∷ []
follows plain_part = kinds.Semicolon ∷ kinds.Comma ∷ kinds.End ∷ kinds.Of ∷ []
follows plain_tail = kinds.Of ∷ []
follows field_list_part = kinds.Semicolon ∷ kinds.End ∷ []
follows field_list_tail = kinds.End ∷ []
follows const_tail = kinds.Begin ∷ kinds.Const ∷ kinds.End ∷ kinds.Procedure ∷ kinds.Type ∷ kinds.Var ∷ []
follows type_tail = kinds.Begin ∷ kinds.Const ∷ kinds.End ∷ kinds.Procedure ∷ kinds.Type ∷ kinds.Var ∷ []
follows var_tail = kinds.Begin ∷ kinds.Const ∷ kinds.End ∷ kinds.Procedure ∷ kinds.Type ∷ kinds.Var ∷ []
follows mode_part = kinds.Name ∷ []
follows formal_tail = kinds.CloseParen ∷ []
follows params_part = kinds.Semicolon ∷ kinds.Colon ∷ []
follows params_inside = kinds.Semicolon ∷ kinds.Colon ∷ []
follows result_part = kinds.Semicolon ∷ []
follows decl_tail = kinds.Begin ∷ kinds.End ∷ []
follows body_part = kinds.End ∷ []

-- whether a list of kinds has the kind
abbrev has : List Kind → Kind → Bool
has [] k = false
has (a ∷ more) k = nat_eq (code a) (code k) || has more k

-- whether a kind may follow a part; a part that is one token is done with by that token
abbrev pub may_follow : Part → Kind → Bool
may_follow (one a) k = true
may_follow p k = has (follows p) k

-- ---- what is checked of the table, by computation

-- whether there are parts
abbrev pub is_some : Option (List Part) → Bool
is_some None = false
is_some (Some parts) = true

-- whether the second is so where the first is
abbrev implies : Bool → Bool → Bool
implies true b = b
implies false b = true

-- whether each token that begins a part may follow another
abbrev begins_behind : Part → Part → Bool
begins_behind p (one a) = may_follow p a
begins_behind p q = each (λ k. implies (is_some (begins q k)) (may_follow p k)) all_kinds

-- whether what these parts begin with may follow a part, and these kinds where all of them are left out
abbrev stand_behind : Part → List Part → List Kind → Bool
stand_behind p [] ks = each (may_follow p) ks
stand_behind p (q ∷ rest) ks = begins_behind p q && implies (may_skip q) (stand_behind p rest ks)

-- whether each part of a list may be followed by what comes behind it there, or behind the list
abbrev in_order : List Part → List Kind → Bool
in_order [] ks = true
in_order (p ∷ rest) ks = stand_behind p rest ks && in_order rest ks

-- the same of what is open, where something is
abbrev inner : Option (List Part) → List Kind → Bool
inner None ks = true
inner (Some parts) ks = in_order parts ks

-- what a part leaves open behind its first token is in order
abbrev inner_in_order : Part → Kind → Bool
inner_in_order (one a) k = true
inner_in_order p k = inner (begins p k) (follows p)

-- it is so of every part
inner_table : (p : Part) → each (inner_in_order p) all_kinds ≡ true
inner_table (one a) = refl
inner_table p = refl

-- no token that may follow a part that may be left out begins that part
abbrev apart : Part → Kind → Bool
apart p k = implies (may_skip p && may_follow p k) (not (is_some (begins p k)))

-- it is so of every part
apart_table : (p : Part) → each (apart p) all_kinds ≡ true
apart_table (one a) = refl
apart_table p = refl

-- ---- the rule

-- each open part may be followed by what the parts behind it begin with
abbrev pub InOrder : List Part → Type 0
InOrder [] = Unit {0}
InOrder (p ∷ rest) = ((k : Kind) → is_some (next rest k) ≡ true → may_follow p k ≡ true) × InOrder rest

-- a token that a later open part takes does not begin one that may be left out
pub not_this : (p : Part) (k : Kind) → may_skip p ≡ true → may_follow p k ≡ true → is_some (begins p k) ≡ false
not_this p k s h = not_this_by (may_skip p) (may_follow p k) (is_some (begins p k)) s h (of_every_kind (apart p) (apart_table p) k) where
  not_this_by : (s f b : Bool) → s ≡ true → f ≡ true → implies (s && f) (not b) ≡ true → b ≡ false
  not_this_by true true true s h e = absurd cc
  not_this_by true true false s h e = refl
  not_this_by true false b s h e = absurd cc
  not_this_by false f b s h e = absurd cc

-- a test that is so of each kind of a list is so of one that the list has
each_has : (f : Kind → Bool) (ks : List Kind) → each f ks ≡ true → (k : Kind) → has ks k ≡ true → f k ≡ true
each_has f [] e k h = absurd cc
each_has f (a ∷ more) e k h =
    let x = and_parts (f a) (each f more) e in each_has_by (nat_eq (code a) (code k)) (same_kind a k) x.0 h (each_has f more x.1 k) where
      each_has_by : (b : Bool) → (b ≡ true → a ≡ k) → f a ≡ true → (b || has more k) ≡ true → (has more k ≡ true → f k ≡ true) → f k ≡ true
      each_has_by true s x h ih = subst (λ x. f x ≡ true) (s refl) x
      each_has_by false s x h ih = ih h

-- what begins a part may follow another, where the check says so
begins_so : (p q : Part) → begins_behind p q ≡ true → (k : Kind) → is_some (begins q k) ≡ true → may_follow p k ≡ true
begins_so p (one a) e k h = begins_one (nat_eq (code a) (code k)) (same_kind a k) h where
  begins_one : (b : Bool) → (b ≡ true → a ≡ k) → is_some (if_same b) ≡ true → may_follow p k ≡ true
  begins_one true s h = subst (λ x. may_follow p x ≡ true) (s refl) e
  begins_one false s h = absurd cc
begins_so p q e k h = implied (is_some (begins q k)) h (of_every_kind (λ k. implies (is_some (begins q k)) (may_follow p k)) e k) where
  implied : (b : Bool) {c : Bool} → b ≡ true → implies b c ≡ true → c ≡ true
  implied true h e = e
  implied false h e = absurd cc

-- what may follow a list of parts, where these kinds may
abbrev Covers : List Kind → List Part → Type 0
Covers ks rest = (k : Kind) → is_some (next rest k) ≡ true → has ks k ≡ true

-- the same of what comes behind a part in a list of parts, and behind the list
stands_so : (p : Part) (parts rest : List Part) (ks : List Kind) → stand_behind p parts ks ≡ true → Covers ks rest
    → (k : Kind) → is_some (next (parts ++ rest) k) ≡ true → may_follow p k ≡ true
stands_so p [] rest ks e c k h = each_has (may_follow p) ks e k (c k h)
stands_so p (q ∷ parts) rest ks e c k h =
    let x = and_parts (begins_behind p q) _ e in
    stands_by (begins q k) (may_skip q) (begins_so p q x.0 k) x.1 h (λ e. stands_so p parts rest ks e c k)
  where
    stands_by : (b : Option (List Part)) (m : Bool) → (is_some b ≡ true → may_follow p k ≡ true)
        → implies m (stand_behind p parts ks) ≡ true
        → is_some (this_or_later b m (parts ++ rest) (next (parts ++ rest) k)) ≡ true
        → (stand_behind p parts ks ≡ true → is_some (next (parts ++ rest) k) ≡ true → may_follow p k ≡ true) → may_follow p k ≡ true
    stands_by (Some l) m s e h ih = s refl
    stands_by None true s e h ih = ih e h
    stands_by None false s e h ih = absurd cc

-- parts in order, before open parts that may follow them
joined : (parts rest : List Part) (ks : List Kind) → in_order parts ks ≡ true → Covers ks rest → InOrder rest → InOrder (parts ++ rest)
joined [] rest ks e c g = g
joined (p ∷ parts) rest ks e c g =
    let x = and_parts (stand_behind p parts ks) (in_order parts ks) e in
    (stands_so p parts rest ks x.0 c, joined parts rest ks x.1 c g)

-- what a part leaves open behind a token, before the parts behind it
in_order_inside : (p : Part) (k : Kind) (rest : List Part) → InOrder (p ∷ rest) → WhereSome (begins p k) (λ parts. InOrder (parts ++ rest))
in_order_inside (one a) k rest g = one_in_order (nat_eq (code a) (code k)) where
  one_in_order : (b : Bool) → WhereSome (if_same b) (λ parts. InOrder (parts ++ rest))
  one_in_order true = g.1
  one_in_order false = tt
in_order_inside p k rest g = by_table (begins p k) (of_every_kind (inner_in_order p) (inner_table p) k) where
  by_table : (b : Option (List Part)) → inner b (follows p) ≡ true → WhereSome b (λ parts. InOrder (parts ++ rest))
  by_table None e = tt
  by_table (Some parts) e = joined parts rest (follows p) e g.0 g.1

-- the same, where the token goes to the first part or to a later one
in_order_from : (p : Part) (rest : List Part) (b : Option (List Part)) (m : Bool) (later : Option (List Part))
    → WhereSome b (λ parts. InOrder (parts ++ rest)) → WhereSome later InOrder → WhereSome (this_or_later b m rest later) InOrder
in_order_from p rest (Some parts) m later g ih = g
in_order_from p rest None true later g ih = ih
in_order_from p rest None false later g ih = tt

-- the parts that are open behind one more token are in order where those before it were
pub still_in_order : (parts : List Part) (k : Kind) → InOrder parts → WhereSome (next parts k) InOrder
still_in_order [] k g = tt
still_in_order (p ∷ rest) k g = in_order_from p rest (begins p k) (may_skip p) (next rest k) (in_order_inside p k rest g)
    (still_in_order rest k g.1)
