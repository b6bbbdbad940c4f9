-- Operands joined by operators: a chain by its first operator, and its links and tests as they are gathered.
use Rattle.std.proofs.Common.{◌≡◌, List, [], ◌∷◌, ◌++◌, Option, None, Some, refl, ap, sym, ◌∙◌, true}
use Rattle.alma_ir.specs.declared.phrase.Test as T
use Rattle.alma_ir.specs.Tree as ir
use Rattle.alma_ir.specs.declared.phrase.Link.{Link}
use Rattle.alma_ir.specs.declared.phrase.Op.{Op}
use Rattle.alma_tree.specs.declared.leaf.Sign.{Sign}
use Rattle.alma_tree.specs.declared.leaf.Sign.TheVariants as signs
use Rattle.alma_ir.specs.View.{links_list, tests_list, test_of, expr_of}
use Rattle.alma_rules.specs.Parts as parts
use Rattle.alma_check_rules.specs.declared.part.Behind.{Behind}
use Rattle.alma_check_rules.specs.Views.{operands_view, operator_view, typing_of, meaning_view}
use Rattle.alma_check_build_expr.specs.First.{first_of}
use Rattle.alma_check_build_expr.proofs.Steps.{operands_push}

-- ---- a chain by its first operator

pub chain_bare : (join : ir.Tests → ir.Test) (t : parts.Typing) (xs : parts.Operands) → None ≡ first_of xs
    → parts.chain_of join None (t, xs) ≡ t.meaning
chain_bare join t [] h = refl
chain_bare join t (x ∷ xs) h = absurd (cc)

pub chain_plus : (join : ir.Tests → ir.Test) (t : parts.Typing) (xs : parts.Operands) → None ≡ first_of xs
    → parts.chain_of join (Some signs.Plus) (t, xs) ≡ parts.no_place t.meaning
chain_plus join t [] h = refl
chain_plus join t (x ∷ xs) h = absurd (cc)

pub chain_minus : (join : ir.Tests → ir.Test) (t : parts.Typing) (xs : parts.Operands) → None ≡ first_of xs
    → parts.chain_of join (Some signs.Minus) (t, xs) ≡ parts.plain (ir.Chain true (parts.value_of t.meaning) (parts.links_of xs))
chain_minus join t [] h = refl
chain_minus join t (x ∷ xs) h = absurd (cc)

pub chain_arithmetic : (join : ir.Tests → ir.Test) (sign : Option Sign) (t : parts.Typing) (xs : parts.Operands) (op : Op)
    → Some (parts.arithmetic op) ≡ first_of xs
    → parts.chain_of join sign (t, xs) ≡ parts.plain (ir.Chain (parts.is_minus sign) (parts.value_of t.meaning) (parts.links_of xs))
chain_arithmetic join sign t [] op h = absurd (cc)
chain_arithmetic join None t ((parts.arithmetic o, x) ∷ xs) op h = refl
chain_arithmetic join (Some signs.Plus) t ((parts.arithmetic o, x) ∷ xs) op h = refl
chain_arithmetic join (Some signs.Minus) t ((parts.arithmetic o, x) ∷ xs) op h = refl
chain_arithmetic join sign t ((parts.logical, x) ∷ xs) op h = absurd (cc)

pub chain_logical : (join : ir.Tests → ir.Test) (sign : Option Sign) (t : parts.Typing) (xs : parts.Operands)
    → Some parts.logical ≡ first_of xs
    → parts.chain_of join sign (t, xs) ≡ parts.a_test (join (ir.more_tests (parts.test_of t.meaning) (parts.tests_of xs)))
chain_logical join sign t [] h = absurd (cc)
chain_logical join sign t ((parts.arithmetic o, x) ∷ xs) h = absurd (cc)
chain_logical join None t ((parts.logical, x) ∷ xs) h = refl
chain_logical join (Some signs.Plus) t ((parts.logical, x) ∷ xs) h = refl
chain_logical join (Some signs.Minus) t ((parts.logical, x) ∷ xs) h = refl

-- for tactics
pub ruleset chains = (chain_bare, chain_plus, chain_minus, chain_arithmetic, chain_logical)

-- ---- lists put together

abbrev append_links : ir.Links → ir.Links → ir.Links
append_links ir.no_links ys = ys
append_links (ir.more_links op e xs) ys = ir.more_links op e (append_links xs ys)

links_append : (xs ys : List Link) → links_list (xs ++ ys) ≡ append_links (links_list xs) (links_list ys)
links_append [] ys = refl
links_append (x ∷ xs) ys = ap (ir.more_links x.op (expr_of x.operand)) (links_append xs ys)

links_of_append : (xs ys : parts.Operands) → parts.links_of (xs ++ ys) ≡ append_links (parts.links_of xs) (parts.links_of ys)
links_of_append [] ys = refl
links_of_append ((parts.arithmetic op, t) ∷ xs) ys = ap (ir.more_links op (parts.value_of t.meaning)) (links_of_append xs ys)
links_of_append ((parts.logical, t) ∷ xs) ys = links_of_append xs ys

abbrev append_tests : ir.Tests → ir.Tests → ir.Tests
append_tests ir.no_tests ys = ys
append_tests (ir.more_tests t xs) ys = ir.more_tests t (append_tests xs ys)

tests_append : (xs ys : List T.Test) → tests_list (xs ++ ys) ≡ append_tests (tests_list xs) (tests_list ys)
tests_append [] ys = refl
tests_append (x ∷ xs) ys = ap (ir.more_tests (test_of x)) (tests_append xs ys)

tests_of_append : (xs ys : parts.Operands) → parts.tests_of (xs ++ ys) ≡ append_tests (parts.tests_of xs) (parts.tests_of ys)
tests_of_append [] ys = refl
tests_of_append (x ∷ xs) ys = ap (ir.more_tests (parts.test_of x.1.meaning)) (tests_of_append xs ys)

-- one more link, behind an arithmetic operator
pub links_push : (ls : List Link) (xs : List Behind) (b : Behind) (l : Link) → links_list ls ≡ parts.links_of (operands_view xs)
    → operator_view b.operator ≡ parts.arithmetic l.op → expr_of l.operand ≡ parts.value_of (meaning_view b.operand.meaning)
    → links_list (ls ++ l ∷ []) ≡ parts.links_of (operands_view (xs ++ b ∷ []))
links_push ls xs b l is op e =
    links_append ls (l ∷ []) ∙ rw (is, e) (sym (ap parts.links_of (operands_push xs b)
    ∙ links_of_append (operands_view xs) ((operator_view b.operator, typing_of b.operand) ∷ [])
    ∙ ap (λ o. append_links (parts.links_of (operands_view xs)) (parts.links_of ((o, typing_of b.operand) ∷ []))) op))

-- none behind a logical one
pub links_kept : (ls : List Link) (xs : List Behind) (b : Behind) → links_list ls ≡ parts.links_of (operands_view xs)
    → operator_view b.operator ≡ parts.logical → links_list ls ≡ parts.links_of (operands_view (xs ++ b ∷ []))
links_kept ls xs b is op =
    is ∙ sym (ap parts.links_of (operands_push xs b)
    ∙ links_of_append (operands_view xs) ((operator_view b.operator, typing_of b.operand) ∷ [])
    ∙ ap (λ o. append_links (parts.links_of (operands_view xs)) (parts.links_of ((o, typing_of b.operand) ∷ []))) op
    ∙ append_none (parts.links_of (operands_view xs)))
  where
    append_none : (ys : ir.Links) → append_links ys ir.no_links ≡ ys
    append_none ir.no_links = refl
    append_none (ir.more_links o e ys) = ap (ir.more_links o e) (append_none ys)

-- one more test
pub tests_push : (ts : List T.Test) (f : ir.Test) (xs : List Behind) (b : Behind) (t : T.Test)
    → tests_list ts ≡ ir.more_tests f (parts.tests_of (operands_view xs))
    → test_of t ≡ parts.test_of (meaning_view b.operand.meaning)
    → tests_list (ts ++ t ∷ []) ≡ ir.more_tests f (parts.tests_of (operands_view (xs ++ b ∷ [])))
tests_push ts f xs b t is e =
    tests_append ts (t ∷ []) ∙ rw (is, e) (ap (ir.more_tests f) (sym (ap parts.tests_of (operands_push xs b)
    ∙ tests_of_append (operands_view xs) ((operator_view b.operator, typing_of b.operand) ∷ []))))

pub ruleset gathers = (links_push, links_kept, tests_push)
