-- What the nodes of expressions make of parts that fit.
use Rattle.std.proofs.Common.{◌≡◌, ℕ, ◌≤◌, Bool, true, false, List, [], ◌∷◌, ◌++◌, length, Option, None, Some, refl, sym, ap, ◌∙◌, subst}
use Rattle.std.proofs.Common.{arith}
use Rattle.std.specs.Prelude.{not, is_some, ◌&&◌, ◌||◌, nat_eq, option_map, if◌then◌else◌}
use Rattle.alma_base.specs.declared.fault.CheckFault.{CheckFault}
use Rattle.alma_base.specs.declared.fault.CheckFault.TheVariants as fault
use Rattle.alma_tree.specs.declared.leaf.Relation.{Relation}
use Rattle.alma_tree.specs.declared.leaf.Relation.TheVariants as relations
use Rattle.alma_tree.specs.declared.leaf.Sign.{Sign}
use Rattle.alma_tree.specs.declared.leaf.Sign.TheVariants as signs
use Rattle.alma_tree.specs.declared.leaf.Mode.{Mode}
use Rattle.alma_tree.specs.declared.leaf.Mode.TheVariants as modes
use Rattle.alma_ir.specs.declared.phrase.Cmp.{Cmp}
use Rattle.alma_ir.specs.declared.phrase.Cmp.TheVariants as compares
use Rattle.alma_ir.specs.declared.program.Param.{Param}
use Rattle.alma_ir.specs.Tree as ir
use Rattle.alma_ir.specs.Tree.{routine_at}
use Rattle.alma_ir.specs.Phrases.{ExprPhrase, TestPhrase, ArgPhrase, SelPhrase, expr_phrases, test_phrases, tests_phrases, links_phrases}
use Rattle.alma_ir.specs.Phrases.{sels_phrases, sel_phrases, arg_phrases, args_phrases}
use Rattle.alma_ir.specs.Checked.{desig_cells, ArgFits, ArgsFit}
use Rattle.alma_rules.specs.Judgement.{unless, both_of, when}
use Rattle.alma_rules.specs.Scene.{Scene, Heading, FormalOf, Found, absent, bad, constant, named, variable, routine, inside_of, base, cells}
use Rattle.alma_rules.specs.Scene.{range, is_structured, has_integer, row_at}
use Rattle.alma_rules.specs.Parts.{Meaning, a_place, plain, a_test, Typing, value_of, test_of, Denotation, a_constant, a_variable}
use Rattle.alma_rules.specs.Parts.{a_routine}
use Rattle.alma_rules.specs.Parts.{no_array, denotation, field_of, field_part, select_field, select_in, select_index, typing_in, located_in}
use Rattle.alma_rules.specs.Parts.{callee_in, Callee, call_typing, typing_of_call, argument_of, simple_argument, structured_argument}
use Rattle.alma_rules.specs.Parts.{relation_typing}
use Rattle.alma_rules.specs.Parts.{relation_of, equation_of, Operator, arithmetic, logical, Operands, links_of, tests_of, chain_of}
use Rattle.alma_rules.specs.Parts.{chain_shape, chain_typing, arithmetic_of}
use Rattle.alma_rules.specs.ExprRules.{Use, as_variable, as_value, as_procedure, is_equation, relation_rules, unlike, Operand}
use Rattle.alma_rules.specs.ExprRules.{operand_rules, no_operand, other_sort, logical_operand, arithmetic_operand, not_test, chain_rules}
use Rattle.alma_rules.specs.ExprRules.{index_rules, other_index, wants_arguments, has_formals, Argument, other, of_bad, of_variable}
use Rattle.alma_rules.specs.ExprRules.{argument_rules, argument_rules_of, not_fitting, is_var, other_type, call_rules, other_count}
use Rattle.alma_rules.specs.ExprRules.{not_variable, name_rules}
use Rattle.alma_rules.specs.Nodes.{cons_operand, not_typing}
use Rattle.alma_rules.specs.Decls.{param_kind}
use Rattle.alma_resolved.specs.Fits.{Place, PhrasesFit}
use Rattle.alma_resolved.proofs.Fits.{laid_nil, laid_cons, laid_join, laid_wide, laid_both, laid_outside, When, when_some, when_none}
use Rattle.alma_resolved.proofs.Fits.{when_map, when_node, when_unless, when_unless_none}
use Rattle.alma_resolved.specs.Scenes.{CalleeFits, FormalFits, FormalsFit, ResultFits, FoundFits, SceneFits}
use Rattle.alma_resolved.proofs.Scenes.{no_fault, no_fault_alone, no_faults_right, or_left, or_right, and_false, not_false, same_number}
use Rattle.alma_resolved.proofs.Scenes.{clash, env_inside, MeaningFits, TypingFits, value_laid, test_laid, no_place_fits, wide_meaning}
use Rattle.alma_resolved.proofs.Scenes.{base_simple, simple_too, LocatedFits, located_laid, selected}

pub typing_le : {k : Place} {s : Scene} {lo hi : ℕ} {t : Typing} → TypingFits k s lo hi t → lo ≤ hi
typing_le {k} {s} {lo} {hi} {t} h = go t.meaning h.meaning
  where
    go : (m : Meaning) → MeaningFits k s lo hi t.shape m → lo ≤ hi
    go (a_place d) g = g.0.le
    go (plain x) g = g.0.le
    go (a_test x) g = g.0.le

pub typing_wide : {k : Place} {s : Scene} {lo hi : ℕ} {t : Typing} (low high : ℕ) → low ≤ lo → hi ≤ high → TypingFits k s lo hi t
    → TypingFits k s low high t
typing_wide {k} {s} {lo} {hi} {t} low high a b h = record { meaning = wide_meaning k s lo hi low high t.shape t.meaning a b h.meaning }

-- another simple type
reshaped : {k : Place} {s : Scene} (e : SceneFits k s) (lo hi a b : ℕ) (m : Meaning) → is_structured s a ≡ false → is_structured s b ≡ false
    → MeaningFits k s lo hi a m → MeaningFits k s lo hi b m
reshaped e lo hi a b (a_place d) p q h = (h.0, h.1 ∙ (e.table.simple a p ∙ sym (e.table.simple b q)))
reshaped e lo hi a b (plain x) p q h = (h.0, q)
reshaped e lo hi a b (a_test t) p q h = (h.0, q)

-- ---- relations

compare_fits : {k : Place} {s : Scene} (e : SceneFits k s) {lo mid hi : ℕ} (how : Cmp) (a b : Typing) → is_structured s a.shape ≡ false
    → is_structured s b.shape ≡ false
    → TypingFits k s lo mid a → TypingFits k s mid hi b
    → MeaningFits k s lo hi 2 (plain (ir.Compare how (value_of a.meaning) (value_of b.meaning)))
unfolding expr_phrases
compare_fits e how a b p q g h = (
  laid_cons (ExprPhrase (ir.Compare how (value_of a.meaning) (value_of b.meaning))) tt (laid_join (value_laid e p g) (value_laid e q h)),
  e.table.firsts 2 (omega arith),
)

equation_fits : {k : Place} {s : Scene} (e : SceneFits k s) (lo mid hi : ℕ) (a b : Typing) → base s a.shape ≡ base s b.shape
    → (l r : Meaning)
    → MeaningFits k s lo mid a.shape l → MeaningFits k s mid hi b.shape r → MeaningFits k s lo hi 2 (equation_of s a.shape b.shape l r)
unfolding expr_phrases
equation_fits {k} {s} e lo mid hi a b same (a_place d) (a_place x) g h = go (is_structured s a.shape) refl
  where
    go : (c : Bool) → is_structured s a.shape ≡ c
        → MeaningFits k s lo hi 2 (a_test (if c then ir.SameCells d x else ir.Unify d (range s a.shape) x (range s b.shape)))
    go true i = (
      laid_cons (TestPhrase (ir.SameCells d x)) (g.1 ∙ (e.table.same a.shape b.shape same ∙ sym h.1)) (laid_join g.0 h.0),
      e.table.firsts 2 (omega arith),
    )
    go false i = (
      laid_cons (TestPhrase (ir.Unify d (range s a.shape) x (range s b.shape))) (
        g.1 ∙ e.table.simple a.shape i,
        h.1 ∙ e.table.simple b.shape (simple_too e a.shape b.shape same i),
        e.table.ordered a.shape,
        e.table.ordered b.shape,
      ) (laid_join g.0 h.0),
      e.table.firsts 2 (omega arith),
    )
equation_fits {k} {s} e lo mid hi a b same (a_place d) (plain x) g h = (
  laid_cons (TestPhrase (ir.Bind d x (range s a.shape) true))
      (g.1 ∙ e.table.simple a.shape (simple_too e b.shape a.shape (sym same) h.1), e.table.ordered a.shape) (laid_join g.0 h.0),
  e.table.firsts 2 (omega arith),
)
equation_fits {k} {s} e lo mid hi a b same (a_place d) (a_test t) g h = (
  laid_cons (TestPhrase (ir.Bind d (ir.Truth t) (range s a.shape) true))
      (g.1 ∙ e.table.simple a.shape (simple_too e b.shape a.shape (sym same) h.1), e.table.ordered a.shape)
      (laid_join g.0 (laid_cons (ExprPhrase (ir.Truth t)) tt h.0)),
  e.table.firsts 2 (omega arith),
)
equation_fits {k} {s} e lo mid hi a b same (plain x) (a_place d) g h = (
  laid_cons (TestPhrase (ir.Bind d x (range s b.shape) false))
      (h.1 ∙ e.table.simple b.shape (simple_too e a.shape b.shape same g.1), e.table.ordered b.shape)
      (laid_both (laid_wide lo hi g.0.le (omega arith) h.0) (laid_wide lo hi (omega arith) h.0.le g.0)),
  e.table.firsts 2 (omega arith),
)
equation_fits {k} {s} e lo mid hi a b same (a_test t) (a_place d) g h = (
  laid_cons (TestPhrase (ir.Bind d (ir.Truth t) (range s b.shape) false))
      (h.1 ∙ e.table.simple b.shape (simple_too e a.shape b.shape same g.1), e.table.ordered b.shape)
      (laid_both (laid_wide lo hi g.0.le (omega arith) h.0)
      (laid_wide lo hi (omega arith) h.0.le (laid_cons (ExprPhrase (ir.Truth t)) tt g.0))),
  e.table.firsts 2 (omega arith),
)
equation_fits e lo mid hi a b same (plain x) (plain y) g h =
    (laid_cons (ExprPhrase (ir.Compare compares.Equal x y)) tt (laid_join g.0 h.0), e.table.firsts 2 (omega arith))
equation_fits e lo mid hi a b same (plain x) (a_test u) g h = (
  laid_cons (ExprPhrase (ir.Compare compares.Equal x (ir.Truth u))) tt (laid_join g.0 (laid_cons (ExprPhrase (ir.Truth u)) tt h.0)),
  e.table.firsts 2 (omega arith),
)
equation_fits e lo mid hi a b same (a_test t) (plain y) g h = (
  laid_cons (ExprPhrase (ir.Compare compares.Equal (ir.Truth t) y)) tt (laid_join (laid_cons (ExprPhrase (ir.Truth t)) tt g.0) h.0),
  e.table.firsts 2 (omega arith),
)
equation_fits e lo mid hi a b same (a_test t) (a_test u) g h = (
  laid_cons (ExprPhrase (ir.Compare compares.Equal (ir.Truth t) (ir.Truth u))) tt
      (laid_join (laid_cons (ExprPhrase (ir.Truth t)) tt g.0) (laid_cons (ExprPhrase (ir.Truth u)) tt h.0)),
  e.table.firsts 2 (omega arith),
)

related_fits : {k : Place} {s : Scene} (e : SceneFits k s) {lo mid hi : ℕ} (r : Relation) (p : Typing × Typing) → TypingFits k s lo mid p.0
    → TypingFits k s mid hi p.1 → unlike s r p ≡ false
    → MeaningFits k s lo hi 2 (relation_of s r p)
related_fits {k} {s} e {lo} {mid} {hi} r p g h u =
    go r (and_false (is_structured s p.0.shape) (not (is_equation r))
    (or_right (not (nat_eq (base s p.0.shape) (base s p.1.shape))) (is_structured s p.0.shape && not (is_equation r)) u))
  where
    same : base s p.0.shape ≡ base s p.1.shape
    same = same_number (base s p.0.shape) (base s p.1.shape)
        (or_left (not (nat_eq (base s p.0.shape) (base s p.1.shape))) (is_structured s p.0.shape && not (is_equation r)) u)

    simple : (is_structured s p.0.shape ≡ true → true ≡ false) → is_structured s p.0.shape ≡ false
    simple f = by (is_structured s p.0.shape) refl
      where
        by : (c : Bool) → is_structured s p.0.shape ≡ c → is_structured s p.0.shape ≡ false
        by true i = absurd (let bad : true ≡ false = f i in cc)
        by false i = i

    other_fits : (how : Cmp) → (is_structured s p.0.shape ≡ true → true ≡ false)
        → MeaningFits k s lo hi 2 (plain (ir.Compare how (value_of p.0.meaning) (value_of p.1.meaning)))
    other_fits how f = compare_fits e how p.0 p.1 (simple f) (simple_too e p.0.shape p.1.shape same (simple f)) g h

    go : (r : Relation) → (is_structured s p.0.shape ≡ true → not (is_equation r) ≡ false) → MeaningFits k s lo hi 2 (relation_of s r p)
    go relations.Equal f = equation_fits e lo mid hi p.0 p.1 same p.0.meaning p.1.meaning g.meaning h.meaning
    go relations.Unequal f = other_fits compares.Unequal f
    go relations.Less f = other_fits compares.Less f
    go relations.LessEq f = other_fits compares.LessEq f
    go relations.Greater f = other_fits compares.Greater f
    go relations.GreaterEq f = other_fits compares.GreaterEq f

pub relation_fits : {k : Place} {s : Scene} (e : SceneFits k s) {lo mid hi : ℕ} (r : Relation) (v : Option (Typing × Typing))
    → When v (λ p. TypingFits k s lo mid p.0 × TypingFits k s mid hi p.1)
    → When (option_map (relation_typing s r) (unless (relation_rules s r v) v)) (TypingFits k s lo hi)
relation_fits {k} {s} e {lo} {mid} {hi} r v h =
    when_map {P = λ p. MeaningFits k s lo hi 2 (relation_of s r p)} (relation_typing s r)
    (when_node (relation_rules s r) v h (λ p g q. related_fits e r p g.0 g.1
    (no_fault_alone (unlike s r p) fault.TypeMismatch (no_fault s.constant fault.NotConst _ q).1)))
    (λ p g. record { meaning = g })

-- ---- sums and products

pub record OperandsFit (k : Place) (s : Scene) (lo hi : ℕ) (xs : Operands) : Type 0 where
  pub links : PhrasesFit k s.inside lo hi (links_phrases (links_of xs))
  pub tests : PhrasesFit k s.inside lo hi (tests_phrases (tests_of xs))

pub no_operands : (k : Place) (s : Scene) (n : ℕ) → OperandsFit k s n n []
unfolding expr_phrases
no_operands k s n = record { links = laid_nil k s.inside n n (omega arith); tests = laid_nil k s.inside n n (omega arith) }

pub operands_fit : {k : Place} {s : Scene} (e : SceneFits k s) {lo mid hi : ℕ} (o : Operator) (p : Typing × Operands)
    → is_structured s p.0.shape ≡ false → TypingFits k s lo mid p.0 → OperandsFit k s mid hi p.1
    → OperandsFit k s lo hi (cons_operand o p)
unfolding expr_phrases
operands_fit {k} {s} e {lo} {mid} {hi} (arithmetic op) p simple g h =
    record { links = laid_join (value_laid e simple g) h.links; tests = laid_join (test_laid e simple g) h.tests }
operands_fit {k} {s} e {lo} {mid} {hi} logical p simple g h =
    record { links = laid_wide lo hi (typing_le g) (omega arith) h.links; tests = laid_join (test_laid e simple g) h.tests }

-- AND and OR with operands
pub Joins : Place → (ir.Tests → ir.Test) → Type 0
Joins k join = (i : Bool) (lo hi : ℕ) (t : ir.Test) (ts : ir.Tests) → PhrasesFit k i lo hi (test_phrases t ++ tests_phrases ts)
    → PhrasesFit k i lo hi (test_phrases (join (ir.more_tests t ts)))

pub or_joins : (k : Place) → Joins k ir.Or
unfolding expr_phrases Joins
or_joins k i lo hi t ts h = laid_cons (TestPhrase (ir.Or (ir.more_tests t ts))) tt h

pub and_joins : (k : Place) → Joins k ir.And
unfolding expr_phrases Joins
and_joins k i lo hi t ts h = laid_cons (TestPhrase (ir.And (ir.more_tests t ts))) tt h

pub chain_simple : {k : Place} {s : Scene} (e : SceneFits k s) (xs : Operands) → is_structured s (chain_shape xs) ≡ false
chain_simple e [] = e.table.firsts 0 (omega arith)
chain_simple e ((arithmetic op, t) ∷ rest) = e.table.firsts 0 (omega arith)
chain_simple e ((logical, t) ∷ rest) = e.table.firsts 2 (omega arith)

arithmetic_fits : {k : Place} {s : Scene} (e : SceneFits k s) {lo mid hi : ℕ} (sign : Option Sign) (p : Typing × Operands)
    → is_structured s p.0.shape ≡ false → TypingFits k s lo mid p.0 → OperandsFit k s mid hi p.1
    → MeaningFits k s lo hi (chain_shape p.1) (plain (arithmetic_of sign p))
unfolding expr_phrases
arithmetic_fits e sign p simple g h = (
  laid_cons (ExprPhrase (arithmetic_of sign p)) tt (laid_join (value_laid e simple g) h.links),
  chain_simple e p.1,
)

chain_meaning : {k : Place} {s : Scene} (e : SceneFits k s) {lo mid hi : ℕ} (join : ir.Tests → ir.Test) → Joins k join
    → (sign : Option Sign) (first : Typing) (xs : Operands) → is_structured s first.shape ≡ false
    → TypingFits k s lo mid first → OperandsFit k s mid hi xs → MeaningFits k s lo hi (chain_shape xs) (chain_of join sign (first, xs))
unfolding expr_phrases Joins
chain_meaning {k} {s} e {lo} {mid} {hi} join joins (Some signs.Plus) first [] simple g h =
    no_place_fits k s e lo hi 0 first.meaning (e.table.firsts 0 (omega arith))
    (wide_meaning k s lo mid lo hi 0 first.meaning (omega arith) h.links.le
    (reshaped e lo mid first.shape 0 first.meaning simple (e.table.firsts 0 (omega arith)) g.meaning))
chain_meaning {k} {s} e {lo} {mid} {hi} join joins (Some signs.Minus) first [] simple g h =
    arithmetic_fits e (Some signs.Minus) (first, []) simple g h
chain_meaning {k} {s} e {lo} {mid} {hi} join joins None first [] simple g h =
    wide_meaning k s lo mid lo hi 0 first.meaning (omega arith) h.links.le
    (reshaped e lo mid first.shape 0 first.meaning simple (e.table.firsts 0 (omega arith)) g.meaning)
chain_meaning e join joins sign first ((arithmetic op, t) ∷ rest) simple g h =
    arithmetic_fits e sign (first, (arithmetic op, t) ∷ rest) simple g h
chain_meaning {k} {s} e {lo} {mid} {hi} join joins sign first ((logical, t) ∷ rest) simple g h = (
  joins s.inside lo hi (test_of first.meaning) (tests_of ((logical, t) ∷ rest)) (laid_join (test_laid e simple g) h.tests),
  e.table.firsts 2 (omega arith),
)

pub chain_fits : {k : Place} {s : Scene} (e : SceneFits k s) {lo mid hi : ℕ} (join : ir.Tests → ir.Test) → Joins k join
    → (o : Operand) (sign : Option Sign) (l : Bool) (v : Option (Typing × Operands))
    → When v (λ p. (TypingFits k s lo mid p.0 × (is_structured s p.0.shape ≡ false)) × OperandsFit k s mid hi p.1)
    → When (option_map (chain_typing join sign) (unless (chain_rules s join o sign l v) v))
    (λ t. TypingFits k s lo hi t × (is_structured s t.shape ≡ false))
chain_fits {k} {s} e {lo} {mid} {hi} join joins o sign l v h =
    when_map {P = λ p. MeaningFits k s lo hi (chain_shape p.1) (chain_of join sign p)} (chain_typing join sign)
    (when_node (chain_rules s join o sign l) v h (λ p g q. chain_meaning e join joins sign p.0 p.1 g.0.1 g.0.0 g.1))
    (λ p g. (record { meaning = g }, chain_simple e p.1))

-- ---- operands in their place

pub record TermFits (k : Place) (s : Scene) (o : Operand) (lo hi : ℕ) (t : Typing) : Type 0 where
  pub typing : TypingFits k s lo hi t
  pub joined : is_some o.operator ≡ true → is_structured s t.shape ≡ false
  pub signed : o.signed ≡ true → is_structured s t.shape ≡ false

pub term_simple : {k : Place} {s : Scene} {lo hi : ℕ} {t : Typing} (o : Operand) → TypingFits k s lo hi t → is_structured s t.shape ≡ false
    → TermFits k s o lo hi t
term_simple o h simple = record { typing = h; joined = λ e. simple; signed = λ e. simple }

or_true_right : (a b : Bool) → b ≡ true → (a || b) ≡ true
or_true_right true b h = refl
or_true_right false b h = h

pub term_fits : {k : Place} {s : Scene} (e : SceneFits k s) {lo hi : ℕ} (o : Operand) (v : Option Typing) → When v (TypingFits k s lo hi)
    → When (unless (operand_rules s o v) v) (TermFits k s o lo hi)
term_fits {k} {s} e {lo} {hi} o v h = when_node (operand_rules s o) v h (λ t g q. made t g
    (or_right (other_sort o) (no_operand s o t)
    (no_fault_alone (other_sort o || no_operand s o t) fault.TypeMismatch
    (no_faults_right (when (logical_operand o.operator && not_test s t) fault.NotTest) _ q))))
  where
    made : (t : Typing) → TypingFits k s lo hi t → no_operand s o t ≡ false → TermFits k s o lo hi t
    made t g u = record {
      typing = g;
      joined = λ i. and_false (is_some o.operator) (is_structured s t.shape)
          (or_right ((arithmetic_operand o.operator || o.signed) && not (has_integer s t.shape))
          (is_some o.operator && is_structured s t.shape) u) i;
      signed = λ i. base_simple e t.shape 0 (omega arith) (not_false (has_integer s t.shape)
          (and_false (arithmetic_operand o.operator || o.signed) (not (has_integer s t.shape))
          (or_left ((arithmetic_operand o.operator || o.signed) && not (has_integer s t.shape))
          (is_some o.operator && is_structured s t.shape) u) (or_true_right (arithmetic_operand o.operator) o.signed i)));
    }

-- NOT
pub not_fits : {k : Place} {s : Scene} (e : SceneFits k s) {lo hi : ℕ} (o : Operand) (v : Option Typing)
    → When v (TypingFits k (inside_of s) lo hi) → (rules : Option Typing → List CheckFault)
    → (tests : Option Typing → List CheckFault) → ((t : Typing) → tests (Some t) ≡ [] → is_structured s t.shape ≡ false)
    → When (unless (rules (option_map not_typing (unless (tests v) v))) (option_map not_typing (unless (tests v) v))) (TermFits k s o lo hi)
unfolding expr_phrases
not_fits {k} {s} e {lo} {hi} o v h rules tests simple =
    when_node rules _ (when_map {P = λ t. TypingFits k (inside_of s) lo hi t × (is_structured s t.shape ≡ false)} not_typing
    (when_node tests v h (λ t g q. (g, simple t q)))
    (λ t g. made t g.0 g.1)) (λ t g q. g)
  where
    made : (t : Typing) → TypingFits k (inside_of s) lo hi t → is_structured s t.shape ≡ false → TermFits k s o lo hi (not_typing t)
    made t g simple = term_simple o (record {
      meaning = (
        laid_cons (TestPhrase (ir.Not (test_of t.meaning))) tt (laid_outside s.inside (test_laid (env_inside k s e) simple g)),
        e.table.firsts 2 (omega arith),
      );
    }) (e.table.firsts 2 (omega arith))

-- ---- designators

abbrev DenotedIs : Place → Scene → (bare : Bool) → (lo hi : ℕ) → Denotation → Type 0
DenotedIs k s c lo hi (a_constant shape v) = (is_structured s shape ≡ false) × (lo ≤ hi)
DenotedIs k s c lo hi (a_variable l) = LocatedFits k s lo hi l
DenotedIs k s c lo hi (a_routine q up h) = CalleeFits k s q up h × (lo ≤ hi) × (c ≡ false → wants_arguments h ≡ false)
DenotedIs k s c lo hi no_array = Unit {0}

nothing_laid : (k : Place) (s : Scene) (n : ℕ) → PhrasesFit k s.inside n n (sels_phrases ir.no_sels)
unfolding sels_phrases
nothing_laid k s n = laid_nil k s.inside n n (omega arith)

-- what a designator denotes; where the flag is false, a routine needs no arguments
pub record DenotedFits (k : Place) (s : Scene) (c : Bool) (lo hi : ℕ) (d : Denotation) : Type 0 where
  pub is : DenotedIs k s c lo hi d

-- a routine that is used as a value needs no arguments
abbrev pub flag : Use → (selected : Bool) → Found → Bool
flag as_value sel f = not_variable as_value sel f
flag as_variable sel f = true
flag as_procedure sel f = true

abbrev pub free : Use → Bool
free as_value = false
free as_variable = true
free as_procedure = true

pub name_fits : {k : Place} {s : Scene} (e : SceneFits k s) (n : ℕ) (sel : Bool) (w : Use) (f : Found) → FoundFits k s f
    → When (unless (name_rules f (denotation s f)) (denotation s f)) (DenotedFits k s (flag w sel f) n n)
name_fits e n sel w absent h = when_none
name_fits e n sel w bad h = when_none
name_fits e n sel w (constant shape v) h = when_some _ (record { is = (h, omega arith) })
name_fits e n sel w (named shape) h = when_none
name_fits {k} {s} e n sel w (variable shape root) h =
    when_some _ (record { is = record { root = h; parts = tt; left = refl; laid = nothing_laid k s n } })
name_fits e n sel w (routine q up None) h = when_none
name_fits {k} {s} e n sel as_variable (routine q up (Some x)) h =
    when_some _ (record { is = (h, omega arith, λ i. absurd (let bad : true ≡ false = i in cc)) })
name_fits {k} {s} e n sel as_value (routine q up (Some x)) h = when_some _ (record { is = (h, omega arith, by sel) })
  where
    by : (sel : Bool) → not_variable as_value sel (routine q up (Some x)) ≡ false → wants_arguments x ≡ false
    by true i = absurd (let bad : true ≡ false = i in cc)
    by false i = i
name_fits {k} {s} e n sel as_procedure (routine q up (Some x)) h =
    when_some _ (record { is = (h, omega arith, λ i. absurd (let bad : true ≡ false = i in cc)) })

-- a field
pub field_fits : {k : Place} {s : Scene} (e : SceneFits k s) {c : Bool} {lo hi : ℕ} (name : List ℕ) (d : Denotation)
    → DenotedFits k s c lo hi d → When (select_field s name d) (DenotedFits k s c lo hi)
unfolding sel_phrases
field_fits {k} {s} e {c} {lo} {hi} name (a_variable l) h = by (field_of s name l) refl
  where
    by : (o : Option (ℕ × ℕ)) → field_of s name l ≡ o → When (option_map (field_part s l) o) (DenotedFits k s c lo hi)
    by None i = when_none
    by (Some p) i = when_some _ (record {
      is =
          selected l p.1 (ir.Field p.0 (cells s p.1)) h.is (e.table.fields name l.shape p.0 p.1 i) refl
          (laid_cons (SelPhrase (ir.Field p.0 (cells s p.1))) tt (laid_nil k s.inside hi hi (omega arith)));
    })
field_fits e name (a_constant shape v) h = when_some _ h
field_fits e name (a_routine q up x) h = when_some _ h
field_fits e name no_array h = when_some _ h

-- an index
pub index_fits : {k : Place} {s : Scene} (e : SceneFits k s) {c : Bool} {lo mid hi : ℕ} (d : Option Denotation) (i : Option Typing)
    → When d (DenotedFits k s c lo mid) → When i (TypingFits k s mid hi)
    → When (select_index s d (unless (index_rules s d i) i)) (DenotedFits k s c lo hi)
unfolding sel_phrases
index_fits e None i h g = when_none
index_fits {k} {s} e {c} {lo} {mid} {hi} (Some (a_variable l)) None h g =
    by (unless (index_rules s (Some (a_variable l)) None) None) (unless_bad (index_rules s (Some (a_variable l)) None)) (row_at s l.shape)
  where
    unless_bad : (fs : List CheckFault) → unless {A = Typing} fs None ≡ None
    unless_bad [] = refl
    unless_bad (f ∷ fs) = refl

    by : (o : Option Typing) → o ≡ None → (r : Option (ℕ × ℕ)) → When (select_in s l r o) (DenotedFits k s c lo hi)
    by None q None = when_some _ (record { is = tt })
    by None q (Some r) = when_none
    by (Some t) q r = absurd (cc)
index_fits {k} {s} e {c} {lo} {mid} {hi} (Some (a_variable l)) (Some t) h g = by (row_at s l.shape) refl
  where
    with_row : (r : ℕ × ℕ) → row_at s l.shape ≡ Some r → (fs : List CheckFault) → (fs ≡ [] → other_index s (Some r) t ≡ false)
        → When (select_in s l (Some r) (unless fs (Some t))) (DenotedFits k s c lo hi)
    with_row r i (f ∷ fs) q = when_none
    with_row r i [] q = when_some _ (record {
      is = selected l r.1 (ir.Index (value_of t.meaning) (range s r.0) (cells s r.1)) h.gives.is (e.table.rows l.shape r.0 r.1 i) refl
          (laid_cons (SelPhrase (ir.Index (value_of t.meaning) (range s r.0) (cells s r.1))) (e.table.ordered r.0)
          (value_laid e (simple_too e r.0 t.shape (same_number (base s r.0) (base s t.shape) (q refl)) (e.table.indices l.shape r.0 r.1 i))
          g.gives));
    })

    no_row : (fs : List CheckFault) → When (select_in s l None (unless fs (Some t))) (DenotedFits k s c lo hi)
    no_row fs = when_some _ (record { is = tt })

    by : (r : Option (ℕ × ℕ)) → row_at s l.shape ≡ r
        → When (select_in s l r (unless (when (other_index s r t) fault.TypeMismatch) (Some t))) (DenotedFits k s c lo hi)
    by None i = no_row (when (other_index s None t) fault.TypeMismatch)
    by (Some r) i = with_row r i (when (other_index s (Some r) t) fault.TypeMismatch)
        (λ q. no_fault_alone (other_index s (Some r) t) fault.TypeMismatch q)
index_fits e (Some no_array) i h g = when_some _ (record { is = tt })
index_fits {k} {s} e {c} {lo} {mid} {hi} (Some (a_constant shape v)) i h g =
    when_map {P = λ t. mid ≤ hi} (λ t. a_constant shape v)
    (when_node (index_rules s (Some (a_constant shape v))) i g (λ t x q. typing_le x))
    (λ t x. record { is = (h.gives.is.0, omega (arith, x, h.gives.is.1)) })
index_fits {k} {s} e {c} {lo} {mid} {hi} (Some (a_routine r up x)) i h g =
    when_map {P = λ t. mid ≤ hi} (λ t. a_routine r up x) (when_node (index_rules s (Some (a_routine r up x))) i g (λ t x q. typing_le x))
    (λ t y. record { is = (h.gives.is.0, omega (arith, y, h.gives.is.1), h.gives.is.2) })

-- a designator where a variable is needed, and as a value
pub located_fits : {k : Place} {s : Scene} {c : Bool} {lo hi : ℕ} (d : Denotation) → DenotedFits k s c lo hi d
    → When (located_in d) (LocatedFits k s lo hi)
located_fits (a_variable l) h = when_some _ h.is
located_fits (a_constant shape v) h = when_none
located_fits (a_routine q up x) h = when_none
located_fits no_array h = when_none

no_result : (o : Option ℕ) (b : Bool) → (is_some o || b) ≡ false → o ≡ None
no_result None b h = refl
no_result (Some x) b h = absurd (let bad : true ≡ false = h in cc)

no_formals : (o : Option ℕ) (fs : List FormalOf) → (is_some o || has_formals fs) ≡ false → fs ≡ []
no_formals o [] h = refl
no_formals None (f ∷ fs) h = absurd (let bad : true ≡ false = h in cc)
no_formals (Some x) (f ∷ fs) h = absurd (let bad : true ≡ false = h in cc)

bare_args : (s : Scene) (fs : List FormalOf) (qs : List Param) → fs ≡ [] → FormalsFit s fs qs → ArgsFit qs ir.no_args
bare_args s [] [] e h = tt
bare_args s [] (q ∷ qs) e h = absurd h
bare_args s (f ∷ fs) qs e h = absurd (cc)

bare_call : {k : Place} {s : Scene} (e : SceneFits k s) {lo hi : ℕ} (q up : ℕ) (x : Heading) → CalleeFits k s q up x → lo ≤ hi
    → wants_arguments x ≡ false → MeaningFits k s lo hi 2 (a_test (ir.CallTest q ir.no_args up))
unfolding test_phrases
bare_call {k} {s} e {lo} {hi} q up x h le w = (
  laid_cons (TestPhrase (ir.CallTest q ir.no_args up)) (
    subst (λ o. ResultFits s o (routine_at k.program q)) (no_result x.result (has_formals x.formals) w) h.result,
    (h.some, h.exists, h.links, bare_args s x.formals (routine_at k.program q).params (no_formals x.result x.formals w) h.formals),
  )
      (laid_nil k s.inside lo hi le),
  e.table.firsts 2 (omega arith),
)

pub typing_fits : {k : Place} {s : Scene} (e : SceneFits k s) {lo hi : ℕ} (d : Denotation) → DenotedFits k s false lo hi d
    → When (typing_in d) (TypingFits k s lo hi)
unfolding expr_phrases
typing_fits {k} {s} e {lo} {hi} (a_constant shape v) h =
    when_some _ (record { meaning = (laid_cons (ExprPhrase (ir.Const v)) tt (laid_nil k s.inside lo hi h.is.1), h.is.0) })
typing_fits {k} {s} e {lo} {hi} (a_variable l) h = when_some _ (record { meaning = (located_laid h.is, h.is.left) })
typing_fits {k} {s} e {lo} {hi} (a_routine q up x) h = when_some _ (record { meaning = bare_call e q up x h.is.0 h.is.1 (h.is.2 refl) })
typing_fits e no_array h = when_none

-- ---- arguments

-- what kind of argument a meaning is
abbrev pub KindFits : Argument → Meaning → Type 0
KindFits of_variable (a_place d) = Unit {0}
KindFits of_variable (plain x) = ⊥
KindFits of_variable (a_test t) = ⊥
KindFits other (a_place d) = ⊥
KindFits other (plain x) = Unit {0}
KindFits other (a_test t) = Unit {0}
KindFits of_bad m = ⊥

-- the argument fits its parameter
abbrev pub ArgumentFits : Place → Scene → (lo hi : ℕ) → Param → ir.Arg → Type 0
ArgumentFits k s lo hi q a = PhrasesFit k s.inside lo hi (arg_phrases a) × ArgFits q a

place_cells : {k : Place} {s : Scene} (e : SceneFits k s) (d : ir.Desig) (a b n : ℕ) → desig_cells d ≡ cells s a → n ≡ cells s b
    → base s a ≡ base s b → desig_cells d ≡ n
place_cells e d a b n p q same = p ∙ (e.table.same a b same ∙ sym q)

same_shape : {k : Place} {s : Scene} (e : SceneFits k s) (d : ir.Desig) (a b n : ℕ) → desig_cells d ≡ cells s a → n ≡ cells s b → a ≡ b
    → desig_cells d ≡ n
same_shape {k} {s} e d a b n p q same = p ∙ (ap (cells s) same ∙ sym q)

-- an argument that is no place, of a type that is not compatible with a structured one
not_fitting_simple : {k : Place} {s : Scene} (e : SceneFits k s) (f : FormalOf) (t : Typing) → not_fitting s f t ≡ false
    → is_structured s t.shape ≡ false → is_structured s f.shape ≡ false
not_fitting_simple {k} {s} e f t n simple = simple_too e t.shape f.shape (same_number (base s t.shape) (base s f.shape) n) simple

fitting_simple : {k : Place} {s : Scene} (e : SceneFits k s) (f : FormalOf) (t : Typing) → not_fitting s f t ≡ false
    → is_structured s f.shape ≡ false → is_structured s t.shape ≡ false
fitting_simple {k} {s} e f t n simple = simple_too e f.shape t.shape (sym (same_number (base s t.shape) (base s f.shape) n)) simple

-- the rules of a designator and of another argument
abbrev RulesSay : Scene → FormalOf → Typing → Meaning → Type 0
RulesSay s f t (a_place d) = (is_some f.mode ≡ false → not_fitting s f t ≡ false) × (is_some f.mode ≡ true → other_type f t ≡ false)
RulesSay s f t (plain x) = (is_var f.mode ≡ false) × (not_fitting s f t ≡ false)
RulesSay s f t (a_test x) = (is_var f.mode ≡ false) × (not_fitting s f t ≡ false)

other_says : (s : Scene) (f : FormalOf) (t : Typing)
    → when (not (is_var f.mode) && not_fitting s f t) fault.TypeMismatch ++ when (is_var f.mode) fault.NotDesignator ≡ []
    → (is_var f.mode ≡ false) × (not_fitting s f t ≡ false)
other_says s f t q =
    let v : is_var f.mode ≡ false = no_fault_alone (is_var f.mode) fault.NotDesignator
    (no_faults_right (when (not (is_var f.mode) && not_fitting s f t) fault.TypeMismatch) _ q) in (
      v,
      and_false (not (is_var f.mode)) (not_fitting s f t) (no_fault (not (is_var f.mode) && not_fitting s f t) fault.TypeMismatch _ q).0
          (ap not v),
    )

rules_say : (s : Scene) (f : FormalOf) (kind : Argument) (t : Typing) (m : Meaning) → KindFits kind m
    → argument_rules_of s f kind (Some t) ≡ [] → RulesSay s f t m
rules_say s f of_variable t (a_place d) h q = (
  λ i. and_false (not (is_some f.mode)) (not_fitting s f t) (no_fault (not (is_some f.mode) && not_fitting s f t) fault.TypeMismatch _ q).0
      (ap not i),
  λ i. and_false (is_some f.mode) (other_type f t)
      (no_fault_alone (is_some f.mode && other_type f t) fault.ModeType
      (no_faults_right (when (not (is_some f.mode) && not_fitting s f t) fault.TypeMismatch) _ q)) i,
)
rules_say s f of_variable t (plain x) h q = absurd h
rules_say s f of_variable t (a_test x) h q = absurd h
rules_say s f other t (a_place d) h q = absurd h
rules_say s f other t (plain x) h q = other_says s f t q
rules_say s f other t (a_test x) h q = other_says s f t q
rules_say s f of_bad t m h q = absurd h

simple_fits : {k : Place} {s : Scene} (e : SceneFits k s) {lo hi : ℕ} (mode : Option Mode) (shape : ℕ) (q : Param) (t : Typing)
    → is_structured s shape ≡ false → q.kind ≡ param_kind false mode → q.cells ≡ cells s shape
    → (m : Meaning) → MeaningFits k s lo hi t.shape m → RulesSay s (record { mode = mode; shape = shape }) t m
    → ArgumentFits k s lo hi q (simple_argument s mode shape m)
unfolding expr_phrases
simple_fits {k} {s} e None shape q t simple kind size (a_place d) h r =
    let ts : is_structured s t.shape ≡ false = fitting_simple e (record { mode = None; shape = shape }) t (r.0 refl) simple in (
      laid_cons (ArgPhrase (ir.ByValue (ir.Load d) (range s shape))) (e.table.ordered shape)
          (laid_cons (ExprPhrase (ir.Load d)) (h.1 ∙ e.table.simple t.shape ts) h.0),
      kind,
    )
simple_fits {k} {s} e None shape q t simple kind size (plain x) h r =
    (laid_cons (ArgPhrase (ir.ByValue x (range s shape))) (e.table.ordered shape) h.0, kind)
simple_fits {k} {s} e None shape q t simple kind size (a_test x) h r = (
  laid_cons (ArgPhrase (ir.ByValue (ir.Truth x) (range s shape))) (e.table.ordered shape) (laid_cons (ExprPhrase (ir.Truth x)) tt h.0),
  kind,
)
simple_fits {k} {s} e (Some modes.Var) shape q t simple kind size (a_place d) h r = (
  laid_cons (ArgPhrase (ir.ByPlace d)) tt h.0,
  (kind, same_shape e d t.shape shape q.cells h.1 size (same_number t.shape shape (r.1 refl))),
)
simple_fits {k} {s} e (Some modes.Var) shape q t simple kind size (plain x) h r = absurd (let bad : true ≡ false = r.0 in cc)
simple_fits {k} {s} e (Some modes.Var) shape q t simple kind size (a_test x) h r = absurd (let bad : true ≡ false = r.0 in cc)
simple_fits {k} {s} e (Some modes.Mix) shape q t simple kind size (a_place d) h r = (
  laid_cons (ArgPhrase (ir.MixPlace d)) tt h.0,
  (kind, same_shape e d t.shape shape q.cells h.1 size (same_number t.shape shape (r.1 refl))),
)
simple_fits {k} {s} e (Some modes.Mix) shape q t simple kind size (plain x) h r =
    (laid_cons (ArgPhrase (ir.MixValue x (range s shape))) (e.table.ordered shape) h.0, kind)
simple_fits {k} {s} e (Some modes.Mix) shape q t simple kind size (a_test x) h r = (
  laid_cons (ArgPhrase (ir.MixValue (ir.Truth x) (range s shape))) (e.table.ordered shape) (laid_cons (ExprPhrase (ir.Truth x)) tt h.0),
  kind,
)

structured_fits : {k : Place} {s : Scene} (e : SceneFits k s) {lo hi : ℕ} (mode : Option Mode) (shape : ℕ) (q : Param) (t : Typing)
    → is_structured s shape ≡ true → q.kind ≡ param_kind true mode → q.cells ≡ cells s shape
    → (m : Meaning) → MeaningFits k s lo hi t.shape m → RulesSay s (record { mode = mode; shape = shape }) t m
    → ArgumentFits k s lo hi q (structured_argument mode m)
unfolding expr_phrases
structured_fits {k} {s} e None shape q t rough kind size (a_place d) h r = (
  laid_cons (ArgPhrase (ir.ByCells d)) tt h.0,
  (kind, place_cells e d t.shape shape q.cells h.1 size (same_number (base s t.shape) (base s shape) (r.0 refl))),
)
structured_fits {k} {s} e (Some modes.Var) shape q t rough kind size (a_place d) h r = (
  laid_cons (ArgPhrase (ir.ByPlace d)) tt h.0,
  (kind, same_shape e d t.shape shape q.cells h.1 size (same_number t.shape shape (r.1 refl))),
)
structured_fits {k} {s} e (Some modes.Mix) shape q t rough kind size (a_place d) h r = (
  laid_cons (ArgPhrase (ir.ByPlace d)) tt h.0,
  (kind, same_shape e d t.shape shape q.cells h.1 size (same_number t.shape shape (r.1 refl))),
)
structured_fits {k} {s} e mode shape q t rough kind size (plain x) h r =
    clash (is_structured s shape) rough (not_fitting_simple e (record { mode = mode; shape = shape }) t r.1 h.1)
structured_fits {k} {s} e mode shape q t rough kind size (a_test x) h r =
    clash (is_structured s shape) rough (not_fitting_simple e (record { mode = mode; shape = shape }) t r.1 h.1)

pub argument_fits : {k : Place} {s : Scene} (e : SceneFits k s) {lo hi : ℕ} (f : FormalOf) (q : Param) → FormalFits s f q
    → (kind : Argument) (v : Option Typing)
    → When v (λ t. TypingFits k s lo hi t × KindFits kind t.meaning)
    → When (option_map (argument_of s (Some f)) (unless (argument_rules s (Some f) kind v) v)) (ArgumentFits k s lo hi q)
argument_fits {k} {s} e {lo} {hi} f q fits kind v h =
    when_map {P = λ t. TypingFits k s lo hi t × RulesSay s f t t.meaning} (argument_of s (Some f))
    (when_node (argument_rules s (Some f) kind) v h (λ t g r. (g.0, rules_say s f kind t t.meaning g.1 r)))
    (λ t g. by t g (is_structured s f.shape) refl)
  where
    by : (t : Typing) → TypingFits k s lo hi t × RulesSay s f t t.meaning → (c : Bool) → is_structured s f.shape ≡ c
        → ArgumentFits k s lo hi q (if c then structured_argument f.mode t.meaning else simple_argument s f.mode f.shape t.meaning)
    by t g true i = structured_fits e f.mode f.shape q t i (fits.0 ∙ ap (λ c. param_kind c f.mode) i) fits.1 t.meaning g.0.meaning g.1
    by t g false i = simple_fits e f.mode f.shape q t i (fits.0 ∙ ap (λ c. param_kind c f.mode) i) fits.1 t.meaning g.0.meaning g.1

-- ---- calls

abbrev pub CalleeIs : Place → Scene → (lo hi : ℕ) → Callee → Type 0
CalleeIs k s lo hi c = CalleeFits k s c.number c.up c.heading × (lo ≤ hi)

pub callee_fits : {k : Place} {s : Scene} {c : Bool} {lo hi : ℕ} (d : Denotation) → DenotedFits k s c lo hi d
    → When (callee_in d) (CalleeIs k s lo hi)
callee_fits (a_routine q up x) h = when_some _ (h.is.0, h.is.1)
callee_fits (a_constant shape v) h = when_none
callee_fits (a_variable l) h = when_none
callee_fits no_array h = when_none

-- arguments fit the parameters, where they are as many as the formals
abbrev pub ArgsAre : Place → Scene → (lo hi : ℕ) → (count : ℕ) → List FormalOf → ir.Args → Type 0
ArgsAre k s lo hi count fs args = (qs : List Param) → FormalsFit s fs qs → count ≡ length fs
    → PhrasesFit k s.inside lo hi (args_phrases args)
    × ArgsFit qs args

pub record ArgumentsFit (k : Place) (s : Scene) (lo hi count : ℕ) (fs : List FormalOf) (args : ir.Args) : Type 0 where
  pub are : ArgsAre k s lo hi count fs args

call_is : {k : Place} {s : Scene} (e : SceneFits k s) {lo hi : ℕ} (c : Callee) (args : ir.Args) → CalleeFits k s c.number c.up c.heading
    → (o : Option ℕ) → ResultFits s o (routine_at k.program c.number)
    → PhrasesFit k s.inside lo hi (args_phrases args) → ArgsFit (routine_at k.program c.number).params args
    → TypingFits k s lo hi (call_typing c o args)
unfolding expr_phrases
call_is e c args h None r laid fit =
    record {
      meaning = (
        laid_cons (TestPhrase (ir.CallTest c.number args c.up)) (r, (h.some, h.exists, h.links, fit)) laid,
        e.table.firsts 2 (omega arith),
      );
    }
call_is e c args h (Some shape) r laid fit =
    record { meaning = (laid_cons (ExprPhrase (ir.CallExpr c.number args c.up)) (r.0, (h.some, h.exists, h.links, fit)) laid, r.1) }

pub called_fits : {k : Place} {s : Scene} (e : SceneFits k s) {lo mid hi : ℕ} (c : Option Callee) (count : ℕ) (args : Option ir.Args)
    → When c (CalleeIs k s lo mid)
    → ((x : Callee) → c ≡ Some x → When args (ArgumentsFit k s mid hi count x.heading.formals))
    → When (option_map typing_of_call (unless (call_rules s c count (both_of c args)) (both_of c args))) (TypingFits k s lo hi)
called_fits {k} {s} e {lo} {mid} {hi} None count args h g =
    when_map {P = λ p. ⊥} typing_of_call (when_unless_none (call_rules s None count None)) (λ p b. absurd b)
called_fits {k} {s} e {lo} {mid} {hi} (Some c) count None h g =
    when_map {P = λ p. ⊥} typing_of_call (when_unless_none (call_rules s (Some c) count None)) (λ p b. absurd b)
called_fits {k} {s} e {lo} {mid} {hi} (Some c) count (Some a) h g =
    when_map {P = λ p. TypingFits k s lo hi (typing_of_call p)} typing_of_call
    (when_unless (call_rules s (Some c) count (Some (c, a))) (c, a)
    (λ q. made (no_fault_alone (other_count count c) fault.ArgCount (no_fault s.constant fault.NotConst _ q).1)))
    (λ p y. y)
  where
    made : other_count count c ≡ false → TypingFits k s lo hi (call_typing c c.heading.result a)
    made n =
        let b = (g c refl).gives.are (routine_at k.program c.number).params h.gives.0.formals
        (same_number count (length c.heading.formals) n) in
        call_is e c a h.gives.0 c.heading.result h.gives.0.result (laid_wide lo hi h.gives.1 (omega arith) b.0) b.1
