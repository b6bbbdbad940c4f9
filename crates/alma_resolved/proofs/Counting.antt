-- As many statements are among the phrases of a body as the walk over its tokens marks, and each arm of a CASE among them has a label.
use Rattle.std.proofs.Common.{◌≡◌, ℕ, ◌+◌, ℤ, pos, Bool, true, false, List, [], ◌++◌, length, Option, None, Some, refl, sym, ap, ◌∙◌, subst}
use Rattle.std.proofs.Common.{arith, append_assoc}
use Rattle.std.specs.Prelude.{nat_eq, option_map, option_and_then, slice_get, if◌then◌else◌}
use Rattle.alma_base.specs.Choice.{if_true}
use Rattle.alma_base.specs.declared.fault.CheckFault.{CheckFault}
use Rattle.alma_ir.specs.Tree as ir
use Rattle.alma_ir.specs.Phrases.{stmts_phrases, stmt_phrases, arms_phrases, cases_phrases, else_phrases, branches_phrases, loop_phrases}
use Rattle.alma_ir.specs.Phrases.{test_phrases, expr_phrases, arg_phrases, args_phrases}
use Rattle.alma_rules.specs.Numbered as tree
use Rattle.alma_rules.specs.Judgement.{Judgement, fine, at_node, with, unless, both_of}
use Rattle.alma_rules.specs.Scene.{Scene, FormalOf, Found, absent, bad, constant, named, variable, routine, found, is_structured, range}
use Rattle.alma_rules.specs.Scene.{in_constant, inside_of, text_at, literal_at}
use Rattle.alma_rules.specs.Parts.{Meaning, a_place, plain, a_test, Typing, value_of, test_of, without_place, boolean_typing, Location}
use Rattle.alma_rules.specs.Parts.{desig_of, Denotation, denotation, select_field, located_in, typing_in, callee_in, argument_of, Callee}
use Rattle.alma_rules.specs.Parts.{typing_of_call}
use Rattle.alma_rules.specs.Parts.{Operands, joined_stmts, one_stmt, assignment_stmts, assigned_to, read_as, read_stmts}
use Rattle.alma_rules.specs.Parts.{write_as}
use Rattle.alma_rules.specs.Parts.{write_stmts, chain_typing, Span, span_of, append_cases, relation_typing, add_operator, mul_operator}
use Rattle.alma_rules.specs.ExprRules.{Use, as_variable, as_value, as_procedure, desig_rules, field_rules, array_rules, index_rules}
use Rattle.alma_rules.specs.ExprRules.{Operand, alone, operand_rules, not_rules, chain_rules, literal_rules, simple_rules, known_rules}
use Rattle.alma_rules.specs.ExprRules.{chr_rules, sequence_rules, relation_rules, test_rules, call_rules, argument_rules, argument_kind}
use Rattle.alma_rules.specs.ExprRules.{constant_rules}
use Rattle.alma_rules.specs.StmtRules.{assign_rules, loop_name_rules, loop_rules, by_rules, case_rules, label_rules, return_rules}
use Rattle.alma_rules.specs.StmtRules.{read_rules, write_rules}
use Rattle.alma_rules.specs.Nodes.{judge_name, index_at, in_parens, as_sequence, or_sequence, only_of, known_typing, ord_typing, chr_typing}
use Rattle.alma_rules.specs.Nodes.{not_typing, argument_count, cons_arg, cons_operand, operand_behind, first_add, first_mul, any_or}
use Rattle.alma_rules.specs.Nodes.{any_and, if_of, arms_of, loop_variable, loop_of, loop_at, constant_in, cons_span, arm_of, joined_cases}
use Rattle.alma_rules.specs.Nodes.{with_line, item_literal, text_rules, item_of}
use Rattle.alma_rules.specs.Walk.{judge_stmts, judge_stmt_tail, judge_stmt, judge_elsifs, judge_else, judge_by, judge_arm, judge_arm_tail}
use Rattle.alma_rules.specs.Walk.{judge_label, judge_high, judge_labels, judge_case_else, judge_orelses, judge_returned, judge_reads}
use Rattle.alma_rules.specs.Walk.{judge_items, judge_item_tail, judge_line_items, judge_expr, judge_simple, judge_terms, judge_term}
use Rattle.alma_rules.specs.Walk.{judge_factors, judge_factor, judge_primary, judge_only, judge_value, judge_arguments, judge_argument_tail}
use Rattle.alma_rules.specs.Walk.{judge_desig, judge_selectors, judge_selector, judge_indices, judge_index_tail}
use Rattle.alma_rules.proofs.Phrases.{append_phrases}
use Rattle.alma_resolved.proofs.Fits.{When, when_some, when_none, when_map, when_then, when_both, when_node, when_weaker}
use Rattle.alma_resolved.proofs.Scenes.{no_faults_right}
use Rattle.alma_resolved.proofs.Tallies.{only_tally, first_tally, tally_stmts, tally_stmt_tail, tally_stmt, tally_elsifs, tally_else}
use Rattle.alma_resolved.proofs.Tallies.{tally_by, tally_orelses, tally_returned, tally_desigs, tally_arm, tally_arms, tally_label}
use Rattle.alma_resolved.proofs.Tallies.{tally_high, tally_labels, tally_expr, tally_simple, tally_terms, tally_term, tally_factors}
use Rattle.alma_resolved.proofs.Tallies.{tally_factor, tally_primary, tally_exprs, tally_expr_tail, tally_items, tally_item_tail}
use Rattle.alma_resolved.proofs.Tallies.{tally_line_items, tally_desig, tally_selectors, tally_selector, tally_only, tally_value}
use Rattle.alma_resolved.proofs.Counts.{Tally, tally_nil, tally_is, tally_join, stmt_more, expr_more, desig_more, tally_alone, MeaningTally}
use Rattle.alma_resolved.proofs.Counts.{TypingTally, value_tally, test_tally, without_tally, typing_is, constant_tally, seq_tally}
use Rattle.alma_resolved.proofs.Counts.{known_tally, ord_tally, chr_tally, not_tally, DenotedTally, denoted_is, name_tally, field_tally}
use Rattle.alma_resolved.proofs.Counts.{index_tally, DesigTally, bare_end, selected_end, constant_end, typing_tally, LocatedTally}
use Rattle.alma_resolved.proofs.Counts.{located_tally, callee_tally, call_tally, argument_tally, args_none, args_more, related_tally}
use Rattle.alma_resolved.proofs.Counts.{OperandsTally, TermTally, operand_sort, operands_none, operands_more, and_joins, or_joins}
use Rattle.alma_resolved.proofs.Counts.{chain_tally, first_tally_of}

anything : {A : Type 0} (v : Option A) → When v (λ x. Unit {0})
anything None = when_none
anything (Some x) = when_some x tt

-- ---- statements

abbrev StmtsTally : ℕ → ir.Stmts → Type 0
StmtsTally n y = Tally n (stmts_phrases y)

abbrev StmtTally : ℕ → ir.Stmt → Type 0
StmtTally n y = Tally n (stmt_phrases y)

joined_tally : (n m : ℕ) (p : ir.Stmts × ir.Stmts) → StmtsTally n p.0 → StmtsTally m p.1 → StmtsTally (n + m) (joined_stmts p)
joined_tally n m p h k = subst (λ ys. Tally (n + m) ys) (sym (append_phrases p.0 p.1)) (tally_join h k)

one_tally : (n : ℕ) (x : ir.Stmt) → StmtTally n x → StmtsTally n (one_stmt x)
unfolding expr_phrases
one_tally n x h = tally_alone h

none_tally : StmtsTally 0 ir.no_stmts
unfolding expr_phrases
none_tally = tally_nil

one_when : (n : ℕ) (v : Option ir.Stmt) → When v (StmtTally n) → When (option_map one_stmt v) (StmtsTally n)
one_when n v h = when_map one_stmt h (λ x g. one_tally n x g)

assign_to : (s : Scene) (n m : ℕ) (l : Location) (x : Meaning) → LocatedTally n l → MeaningTally m x
    → StmtTally (1 + (n + m)) (assigned_to s l x)
unfolding expr_phrases
assign_to s n m l (a_place d) h g = by (is_structured s l.shape)
  where
    by : (b : Bool) → StmtTally (1 + (n + m))
        (if b then ir.CopyCells (desig_of l) d else ir.Assign (desig_of l) (ir.Load d) (range s l.shape))
    by true = stmt_more _ (tally_join h g)
    by false = stmt_more _ (tally_join h (expr_more _ g))
assign_to s n m l (plain e) h g = stmt_more _ (tally_join h g)
assign_to s n m l (a_test t) h g = stmt_more _ (tally_join h (expr_more _ g))

assign_tally : (s : Scene) (n m : ℕ) (v : Option (Location × Typing)) → When v (λ p. LocatedTally n p.0 × TypingTally m p.1)
    → When (option_map (assignment_stmts s) (unless (assign_rules s v) v)) (StmtsTally (1 + (n + m)))
assign_tally s n m v h =
    when_map {P = λ p. LocatedTally n p.0 × TypingTally m p.1} (assignment_stmts s) (when_node (assign_rules s) v h (λ p g q. g))
    (λ p g. one_tally (1 + (n + m)) (assigned_to s p.0 p.1.meaning) (assign_to s n m p.0 p.1.meaning g.0 g.1.is))

test_stmt : (n : ℕ) (t : ir.Test) → Tally n (test_phrases t) → StmtTally (1 + n) (ir.TestStmt t)
unfolding expr_phrases
test_stmt n t h = stmt_more _ h

condition_tally : (s : Scene) (n : ℕ) (v : Option Typing) → When v (TypingTally n)
    → When (option_map (λ t. test_of t.meaning) (unless (test_rules s v) v)) (λ t. Tally n (test_phrases t))
condition_tally s n v h = when_map {P = TypingTally n} (λ t. test_of t.meaning) (when_node (test_rules s) v h (λ t g q. g))
    (λ t g. test_tally g)

if_tally : (a b c d : ℕ) (p : ir.Test × (ir.Stmts × (ir.Arms × ir.Stmts))) → Tally a (test_phrases p.0) → StmtsTally b p.1.0
    → Tally c (arms_phrases p.1.1.0) → StmtsTally d p.1.1.1 → StmtTally (1 + (a + (b + (c + d)))) (if_of p)
unfolding expr_phrases
if_tally a b c d p h g i j = tally_is (1 + (((a + b) + c) + d)) (1 + (a + (b + (c + d)))) (omega arith)
    (stmt_more _ (tally_join (tally_join (tally_join h g) i) j))

arms_tally : (a b c : ℕ) (p : ir.Test × (ir.Stmts × ir.Arms)) → Tally a (test_phrases p.0) → StmtsTally b p.1.0
    → Tally c (arms_phrases p.1.1) → Tally (a + (b + c)) (arms_phrases (arms_of p))
unfolding expr_phrases
arms_tally a b c p h g i = tally_is ((a + b) + c) (a + (b + c)) (omega arith) (tally_join (tally_join h g) i)

no_arms_tally : Tally 0 (arms_phrases ir.no_arms)
unfolding expr_phrases
no_arms_tally = tally_nil

while_tally : (a b : ℕ) (p : ir.Test × ir.Stmts) → Tally a (test_phrases p.0) → StmtsTally b p.1
    → StmtTally (1 + (a + b)) (ir.While p.0 p.1)
unfolding expr_phrases
while_tally a b p h g = stmt_more _ (tally_join h g)

repeat_tally : (a b : ℕ) (p : ir.Stmts × ir.Test) → StmtsTally a p.0 → Tally b (test_phrases p.1)
    → StmtTally (1 + (a + b)) (ir.Repeat p.0 p.1)
unfolding expr_phrases
repeat_tally a b p h g = stmt_more _ (tally_join h g)

either_tally : (a b : ℕ) (p : ir.Stmts × ir.Branches) → StmtsTally a p.0 → Tally b (branches_phrases p.1)
    → StmtTally (1 + (a + b)) (ir.Either (ir.more_branches p.0 p.1))
unfolding expr_phrases
either_tally a b p h g = stmt_more _ (tally_join h g)

branches_tally : (a b : ℕ) (p : ir.Stmts × ir.Branches) → StmtsTally a p.0 → Tally b (branches_phrases p.1)
    → Tally (a + b) (branches_phrases (ir.more_branches p.0 p.1))
unfolding expr_phrases
branches_tally a b p h g = tally_join h g

no_branches_tally : Tally 0 (branches_phrases ir.no_branches)
unfolding expr_phrases
no_branches_tally = tally_nil

forall_tally : (a b : ℕ) (p : ir.Stmts × ir.Stmts) → StmtsTally a p.0 → StmtsTally b p.1 → StmtTally (1 + (a + b)) (ir.Forall p.0 p.1)
unfolding expr_phrases
forall_tally a b p h g = stmt_more _ (tally_join h g)

commit_tally : (a : ℕ) (x : ir.Stmts) → StmtsTally a x → StmtTally (1 + a) (ir.Commit x)
unfolding expr_phrases
commit_tally a x h = stmt_more _ h

return_tally : (s : Scene) (a : ℕ) (v : Option Typing) → When v (TypingTally a)
    → When (option_map (λ t. ir.Return (ir.some_result (value_of t.meaning))) (unless (return_rules s true v) v)) (StmtTally (1 + a))
unfolding expr_phrases
return_tally s a v h = when_map {P = TypingTally a} (λ t. ir.Return (ir.some_result (value_of t.meaning)))
    (when_node (return_rules s true) v h (λ t g q. g)) (λ t g. stmt_more _ (value_tally g))

bare_tally : (v : Option Typing) → When (option_map (λ t. ir.Return ir.no_result) v) (StmtTally 1)
unfolding expr_phrases
bare_tally v = when_map {P = λ x. Unit {0}} (λ t. ir.Return ir.no_result) (anything v)
    (λ t g. tally_is (1 + 0) 1 (omega arith) (stmt_more _ tally_nil))

read_tally : (s : Scene) (a : ℕ) (v : Option Location) → When v (LocatedTally a)
    → When (option_map (read_stmts s) (unless (read_rules s v) v)) (StmtsTally (1 + a))
unfolding expr_phrases
read_tally s a v h = when_map {P = LocatedTally a} (read_stmts s) (when_node (read_rules s) v h (λ l g q. g))
    (λ l g. one_tally (1 + a) (ir.Read (desig_of l) (read_as s l.shape) (range s l.shape))
    (stmt_more (ir.Read (desig_of l) (read_as s l.shape) (range s l.shape)) g))

write_tally : (s : Scene) (a : ℕ) (v : Option Typing) → When v (TypingTally a)
    → When (option_map (write_stmts s) (unless (write_rules s v) v)) (StmtsTally (1 + a))
unfolding expr_phrases
write_tally s a v h = when_map {P = TypingTally a} (write_stmts s) (when_node (write_rules s) v h (λ t g q. g))
    (λ t g. one_tally (1 + a) (ir.WriteExpr (value_of t.meaning) (write_as s t.shape))
    (stmt_more (ir.WriteExpr (value_of t.meaning) (write_as s t.shape)) (value_tally g)))

text_tally : (s : Scene) (text : List ℕ) (v : Option ir.Stmts) → When v (λ y. y ≡ one_stmt (ir.WriteText text))
    → When (unless (text_rules s v) v) (StmtsTally 1)
unfolding expr_phrases
text_tally s text v h =
    when_weaker (when_node {P = λ y. y ≡ one_stmt (ir.WriteText text)} {Q = λ y. y ≡ one_stmt (ir.WriteText text)} (text_rules s) v h
    (λ y g q. g)) (λ y g. subst (StmtsTally 1) (sym g)
    (one_tally 1 (ir.WriteText text) (tally_is (1 + 0) 1 (omega arith) (stmt_more _ tally_nil))))

line_tally : (n : ℕ) (x : ir.Stmts) → StmtsTally n x → StmtsTally (n + 1) (with_line x)
unfolding expr_phrases
line_tally n x h = joined_tally n 1 (x, one_stmt ir.WriteLine) h
    (one_tally 1 ir.WriteLine (tally_is (1 + 0) 1 (omega arith) (stmt_more _ tally_nil)))

literal_none : (e : tree.Expr) (l : ℕ × ℕ) → item_literal e ≡ Some l → tally_expr e ≡ 0
unfolding tally_stmts
literal_none (tree.expr n (tree.simple m None (tree.term k (tree.factor i (tree.literal j t)) tree.no_factor) tree.no_term)
    tree.no_relation) l q = omega arith
literal_none e l q = absurd (cc)

item_tally : (s : Scene) (n node a : ℕ) (o : Option (ℕ × ℕ)) (item : Judgement Typing) → When item.value (TypingTally a)
    → ((l : ℕ × ℕ) → o ≡ Some l → a ≡ 0) → When (item_of s n node o item).value (StmtsTally (1 + a))
item_tally s n node a None item h f = write_tally s a item.value h
item_tally s n node a (Some l) item h f = by (nat_eq (length (literal_at s l.1)) 1)
  where
    one_more : 1 ≡ 1 + a
    one_more = omega (arith, f l refl)

    by : (b : Bool) → When (if_true b (λ u. with (write_stmts s) (at_node node (write_rules s) item))
        (λ u. at_node l.0 (text_rules s) (fine n (one_stmt (ir.WriteText (literal_at s l.1)))))).value (StmtsTally (1 + a))
    by true = write_tally s a item.value h
    by false = when_weaker (text_tally s (literal_at s l.1) (Some (one_stmt (ir.WriteText (literal_at s l.1)))) (when_some _ refl))
        (λ y g. tally_is 1 (1 + a) one_more g)

-- ---- loops

loop_name : (s : Scene) (f : Found) → When (option_and_then located_in (denotation s f)) (LocatedTally 0)
unfolding expr_phrases
loop_name s absent = when_none
loop_name s bad = when_none
loop_name s (constant shape v) = when_none
loop_name s (named shape) = when_none
loop_name s (variable shape root) = when_some _ (desig_more _ tally_nil)
loop_name s (routine q up None) = when_none
loop_name s (routine q up (Some h)) = when_none

loop_variable_tally : (s : Scene) (n : ℕ) (name : tree.Name) → When (loop_variable s n name).value (LocatedTally 0)
loop_variable_tally s n name = when_node (loop_name_rules s (found s name)) _ (loop_name s (found s name)) (λ l g q. g)

abbrev LoopTally : ℕ → ir.Loop → Type 0
LoopTally n l = Tally n (loop_phrases l)

loop_tally : (s : Scene) (n k a b c d : ℕ) (var : Judgement Location) (low high : Judgement Typing) (by : Judgement ℤ)
    (body : Judgement ir.Stmts)
    → When var.value (LocatedTally 0) → When low.value (TypingTally a) → When high.value (TypingTally b)
    → When by.value (λ v. c ≡ 0) → When body.value (StmtsTally d)
    → When (loop_at s n k var low high by body).value (LoopTally (a + (b + (c + d))))
unfolding expr_phrases
loop_tally s n k a b c d var low high by body h1 h2 h3 h4 h5 =
    when_map {P = λ p. LocatedTally 0 p.0 × (TypingTally a p.1.0 × (TypingTally b p.1.1.0 × ((c ≡ 0) × StmtsTally d p.1.1.1.1)))}
    (loop_of s n)
    (when_node (loop_rules s var.value low.value high.value) _ (when_both h1 (when_both h2 (when_both h3 (when_both h4 h5)))) (λ p g q. g))
    (λ p g. tally_is (((0 + a) + b) + d) (a + (b + (c + d))) (omega (arith, g.1.1.1.0))
    (tally_join (tally_join (tally_join g.0 (value_tally g.1.0)) (value_tally g.1.1.0)) g.1.1.1.1))

for_tally : (n : ℕ) (l : ir.Loop) → LoopTally n l → StmtTally (1 + n) (ir.ForTo l)
unfolding expr_phrases
for_tally n l h = stmt_more _ h

some_tally : (n : ℕ) (l : ir.Loop) → LoopTally n l → StmtTally (1 + n) (ir.SomeOf l)
unfolding expr_phrases
some_tally n l h = stmt_more _ h

-- ---- CASE

record CasesTally (n : ℕ) (y : ir.CaseArms) : Type 0 where
  phrases : Tally n (cases_phrases y)

no_cases_tally : CasesTally 0 ir.no_cases
unfolding expr_phrases
no_cases_tally = record { phrases = tally_nil }

append_cases_phrases : (x y : ir.CaseArms) → cases_phrases (append_cases x y) ≡ cases_phrases x ++ cases_phrases y
unfolding expr_phrases
append_cases_phrases ir.no_cases y = refl
append_cases_phrases (ir.more_cases labels body xs) y = ap (λ z. stmts_phrases body ++ z) (append_cases_phrases xs y)
    ∙ sym (append_assoc (stmts_phrases body) (cases_phrases xs) (cases_phrases y))

joined_cases_tally : (n m : ℕ) (p : ir.CaseArms × ir.CaseArms) → CasesTally n p.0 → CasesTally m p.1 → CasesTally (n + m) (joined_cases p)
joined_cases_tally n m p h g = record {
  phrases =
      subst (λ ys. Tally (n + m) ys) (sym (append_cases_phrases p.0 p.1)) (tally_join h.phrases g.phrases);
}

arm_tally : (a b n : ℕ) (labels : Option (List Span)) (body : Option ir.Stmts) → When labels (λ xs. a + b ≡ 0) → When body (StmtsTally n)
    → When (option_map arm_of (both_of labels body)) (CasesTally (a + (b + n)))
unfolding expr_phrases
arm_tally a b n labels body h g =
    when_map {P = λ p. (a + b ≡ 0) × StmtsTally n p.1} arm_of (when_both h g)
    (λ p k. record { phrases = tally_is (n + 0) (a + (b + n)) (omega (arith, k.0)) (tally_join k.1 tally_nil) })

case_tally : (s : Scene) (a b c : ℕ) (case : Option Typing) (arms : Option ir.CaseArms) (other : Option ir.Else) → When case (TypingTally a)
    → When arms (CasesTally b) → When other (λ y. Tally c (else_phrases y))
    → When (option_map (λ p. ir.Case (value_of p.0.meaning) p.1.0 p.1.1)
    (unless (case_rules s case (both_of case (both_of arms other))) (both_of case (both_of arms other))))
    (StmtTally (1 + ((a + b) + c)))
unfolding expr_phrases
case_tally s a b c case arms other h g k =
    when_map {P = λ p. TypingTally a p.0 × (CasesTally b p.1.0 × Tally c (else_phrases p.1.1))}
    (λ p. ir.Case (value_of p.0.meaning) p.1.0 p.1.1)
    (when_node (case_rules s case) _ (when_both h (when_both g k)) (λ p x q. x))
    (λ p x. stmt_more _ (tally_join (tally_join (value_tally x.0) x.1.0.phrases) x.1.1))

else_some : (n : ℕ) (x : ir.Stmts) → StmtsTally n x → Tally n (else_phrases (ir.else_part x))
unfolding expr_phrases
else_some n x h = h

else_none : Tally 0 (else_phrases ir.no_else)
unfolding expr_phrases
else_none = tally_nil

-- ---- parentheses

abbrev OnlyTally : Option (Judgement Typing) → Option ℕ → Type 0
OnlyTally None None = Unit {0}
OnlyTally None (Some n) = ⊥
OnlyTally (Some j) None = ⊥
OnlyTally (Some j) (Some n) = When j.value (TypingTally n)

only_case : (rest : tree.StmtTail) (o : Option (Judgement Typing)) (n : Option ℕ) → OnlyTally o n
    → OnlyTally (only_of rest o) (only_tally rest n)
only_case tree.no_stmt None None h = tt
only_case tree.no_stmt None (Some n) h = h
only_case tree.no_stmt (Some j) None h = h
only_case tree.no_stmt (Some j) (Some n) h = h
only_case (tree.more_stmt x rest) o n h = tt

paren_tally : (s : Scene) (k m : ℕ) (o : Option (Judgement Typing)) (n : Option ℕ) (j : Judgement ir.Stmts) → OnlyTally o n
    → When j.value (StmtsTally m) → When (or_sequence o (in_parens s k) (λ u. as_sequence s k j)).value (TypingTally (first_tally n m))
paren_tally s k m None None j h g = when_map {P = StmtsTally m} (λ body. boolean_typing (a_test (ir.Seq body)))
    (when_node (sequence_rules s) j.value g (λ x y q. y)) (λ x y. seq_tally x y)
paren_tally s k m None (Some n) j h g = absurd h
paren_tally s k m (Some i) None j h g = absurd h
paren_tally s k m (Some i) (Some n) j h g =
    when_map {P = TypingTally n} without_place (when_node (simple_rules s) i.value h (λ t y q. y)) (λ t y. without_tally t y)

-- the same in a constant place, where no statement stands
abbrev OnlyQuiet : Option (Judgement Typing) → Option ℕ → Type 0
OnlyQuiet None None = Unit {0}
OnlyQuiet None (Some n) = ⊥
OnlyQuiet (Some j) None = ⊥
OnlyQuiet (Some j) (Some n) = When j.value (λ t. n ≡ 0)

only_quiet_case : (rest : tree.StmtTail) (o : Option (Judgement Typing)) (n : Option ℕ) → OnlyQuiet o n
    → OnlyQuiet (only_of rest o) (only_tally rest n)
only_quiet_case tree.no_stmt None None h = tt
only_quiet_case tree.no_stmt None (Some n) h = h
only_quiet_case tree.no_stmt (Some j) None h = h
only_quiet_case tree.no_stmt (Some j) (Some n) h = h
only_quiet_case (tree.more_stmt x rest) o n h = tt

paren_quiet : (s : Scene) (k m : ℕ) (o : Option (Judgement Typing)) (n : Option ℕ) (j : Judgement ir.Stmts) → OnlyQuiet o n
    → When (or_sequence o (in_parens (in_constant s) k) (λ u. as_sequence (in_constant s) k j)).value (λ t. first_tally n m ≡ 0)
paren_quiet s k m None None j h = when_map {P = λ x. ⊥} (λ body. boolean_typing (a_test (ir.Seq body)))
    (when_node {P = λ x. Unit {0}} {Q = λ x. ⊥} (sequence_rules (in_constant s)) j.value (anything j.value) (λ x y q. absurd (cc)))
    (λ x y. absurd y)
paren_quiet s k m None (Some n) j h = absurd h
paren_quiet s k m (Some i) None j h = absurd h
paren_quiet s k m (Some i) (Some n) j h =
    when_map {P = λ t. n ≡ 0} without_place (when_node (simple_rules (in_constant s)) i.value h (λ t y q. y)) (λ t y. y)

-- ---- calls

called_tally : (s : Scene) (n m count : ℕ) (c : Option Callee) (args : Option ir.Args) → When c (λ x. 0 ≡ n)
    → When args (λ y. Tally m (args_phrases y))
    → When (option_map typing_of_call (unless (call_rules s c count (both_of c args)) (both_of c args))) (TypingTally (n + m))
called_tally s n m count c args h g =
    when_map {P = λ p. (0 ≡ n) × Tally m (args_phrases p.1)} typing_of_call
    (when_node (call_rules s c count) _ (when_both h g) (λ p x q. x))
    (λ p x. call_tally n m p.0 p.0.heading.result p.1 x.0 x.1)

argument_when : (s : Scene) (n : ℕ) (f : Option FormalOf) (e : tree.Expr) (v : Option Typing) → When v (TypingTally n)
    → When (option_map (argument_of s f) (unless (argument_rules s f (argument_kind s e) v) v)) (λ a. Tally n (arg_phrases a))
argument_when s n f e v h = when_map {P = TypingTally n} (argument_of s f)
    (when_node (argument_rules s f (argument_kind s e)) v h (λ t g q. g)) (λ t g. argument_tally s n f t g)

arguments_when : (n m : ℕ) (v : Option (ir.Arg × ir.Args)) → When v (λ p. Tally n (arg_phrases p.0) × Tally m (args_phrases p.1))
    → When (option_map cons_arg v) (λ y. Tally (n + m) (args_phrases y))
arguments_when n m v h = when_map {P = λ p. Tally n (arg_phrases p.0) × Tally m (args_phrases p.1)} cons_arg h
    (λ p g. args_more n m p g.0 g.1)

-- a fact that asks nothing of the value
only_some : {A : Type 0} {n : ℕ} (v : Option A) → n ≡ 0 → When v (λ x. n ≡ 0)
only_some None e = when_none
only_some (Some x) e = when_some x e

quiet_chain : (n m : ℕ) (f : Typing × Operands → Typing) (rules : Option (Typing × Operands) → List CheckFault)
    (v : Option (Typing × Operands)) → When v (λ p. (n ≡ 0) × (m ≡ 0)) → When (option_map f (unless (rules v) v)) (λ t. n + m ≡ 0)
quiet_chain n m f rules v h = when_map {P = λ p. (n ≡ 0) × (m ≡ 0)} f (when_node rules v h (λ p g q. g)) (λ p g. omega (arith, g.0, g.1))

place_tally : (n : ℕ) (v : Option Denotation) → When v (DesigTally n) → When (option_and_then located_in v) (LocatedTally n)
place_tally n v h = when_then {P = DesigTally n} located_in h (λ x g. located_tally n x g)

-- ---- the walk

mutual
  unfolding judge_expr tally_stmts

  pub stmts_count : (s : Scene) (n : ℕ) (x : tree.Stmts) → When (judge_stmts s n x).value (StmtsTally (tally_stmts x))
  stmts_count s n (tree.stmts k x rest) =
      when_map {P = λ p. StmtsTally (tally_stmt x) p.0 × StmtsTally (tally_stmt_tail rest) p.1} joined_stmts
      (when_both (stmt_counts s n x) (stmt_tail_counts s _ rest)) (λ p g. joined_tally (tally_stmt x) (tally_stmt_tail rest) p g.0 g.1)

  stmt_tail_counts : (s : Scene) (n : ℕ) (x : tree.StmtTail) → When (judge_stmt_tail s n x).value (StmtsTally (tally_stmt_tail x))
  stmt_tail_counts s n tree.no_stmt = when_some _ none_tally
  stmt_tail_counts s n (tree.more_stmt x rest) =
      when_map {P = λ p. StmtsTally (tally_stmt x) p.0 × StmtsTally (tally_stmt_tail rest) p.1} joined_stmts
      (when_both (stmt_counts s n x) (stmt_tail_counts s _ rest)) (λ p g. joined_tally (tally_stmt x) (tally_stmt_tail rest) p g.0 g.1)

  stmt_counts : (s : Scene) (n : ℕ) (x : tree.Stmt) → When (judge_stmt s n x).value (StmtsTally (tally_stmt x))
  stmt_counts s n (tree.nothing k) = when_some _ none_tally
  stmt_counts s n (tree.assign k d e) = assign_tally s (tally_desig d) (tally_expr e) _
      (when_both (place_tally (tally_desig d) _ (desig_counts s n as_variable d)) (expr_counts s _ e))
  stmt_counts s n (tree.value k e) =
      one_when (1 + tally_expr e) _ (when_map {P = λ t. Tally (tally_expr e) (test_phrases t)} ir.TestStmt
      (condition_tally s (tally_expr e) _ (expr_counts s n e)) (λ t g. test_stmt (tally_expr e) t g))
  stmt_counts s n (tree.if_stmt k e body elsifs other) =
      one_when (1 + (tally_expr e + (tally_stmts body + (tally_elsifs elsifs + tally_else other)))) _
      (when_map {P = λ p. Tally (tally_expr e) (test_phrases p.0)
      × (StmtsTally (tally_stmts body) p.1.0 × (Tally (tally_elsifs elsifs) (arms_phrases p.1.1.0)
      × StmtsTally (tally_else other) p.1.1.1))} if_of
      (when_both (condition_tally s (tally_expr e) _ (expr_counts s n e))
      (when_both (stmts_count s _ body) (when_both (elsifs_count s _ elsifs) (else_counts s _ other))))
      (λ p g. if_tally (tally_expr e) (tally_stmts body) (tally_elsifs elsifs) (tally_else other) p g.0 g.1.0 g.1.1.0 g.1.1.1))
  stmt_counts s n (tree.while_stmt k e body) =
      one_when (1 + (tally_expr e + tally_stmts body)) _
      (when_map {P = λ p. Tally (tally_expr e) (test_phrases p.0) × StmtsTally (tally_stmts body) p.1} (λ p. ir.While p.0 p.1)
      (when_both (condition_tally s (tally_expr e) _ (expr_counts s n e)) (stmts_count s _ body))
      (λ p g. while_tally (tally_expr e) (tally_stmts body) p g.0 g.1))
  stmt_counts s n (tree.repeat_stmt k body e) =
      one_when (1 + (tally_stmts body + tally_expr e)) _
      (when_map {P = λ p. StmtsTally (tally_stmts body) p.0 × Tally (tally_expr e) (test_phrases p.1)} (λ p. ir.Repeat p.0 p.1)
      (when_both (stmts_count s n body) (condition_tally s (tally_expr e) _ (expr_counts s _ e)))
      (λ p g. repeat_tally (tally_stmts body) (tally_expr e) p g.0 g.1))
  stmt_counts s n (tree.for_stmt k name low high by body) =
      one_when (1 + (tally_expr low + (tally_expr high + (tally_by by + tally_stmts body)))) _
      (when_map {P = LoopTally (tally_expr low + (tally_expr high + (tally_by by + tally_stmts body)))} ir.ForTo
      (loop_tally s n k (tally_expr low) (tally_expr high) (tally_by by) (tally_stmts body) (loop_variable s n name)
      (judge_expr s (n + 2) low) (judge_expr s (judge_expr s (n + 2) low).next high)
      (judge_by s (judge_expr s (judge_expr s (n + 2) low).next high).next by)
      (judge_stmts s (judge_by s (judge_expr s (judge_expr s (n + 2) low).next high).next by).next body)
      (loop_variable_tally s n name) (expr_counts s _ low) (expr_counts s _ high) (by_counts s _ by) (stmts_count s _ body))
      (λ l g. for_tally _ l g))
  stmt_counts s n (tree.some_stmt k name low high body) =
      one_when (1 + (tally_expr low + (tally_expr high + tally_stmts body))) _
      (when_map {P = LoopTally (tally_expr low + (tally_expr high + tally_stmts body))} ir.SomeOf
      (when_weaker (loop_tally s n k (tally_expr low) (tally_expr high) 0 (tally_stmts body) (loop_variable s n name)
      (judge_expr s (n + 2) low) (judge_expr s (judge_expr s (n + 2) low).next high)
      (fine (judge_expr s (judge_expr s (n + 2) low).next high).next (pos 1))
      (judge_stmts s (judge_expr s (judge_expr s (n + 2) low).next high).next body)
      (loop_variable_tally s n name) (expr_counts s _ low) (expr_counts s _ high) (when_some (pos 1) refl) (stmts_count s _ body))
      (λ l g. tally_is (tally_expr low + (tally_expr high + (0 + tally_stmts body))) (tally_expr low + (tally_expr high + tally_stmts body))
      (omega arith) g)) (λ l g. some_tally _ l g))
  stmt_counts s n (tree.case_stmt k e first rest other) =
      one_when (1 + (tally_expr e + (tally_arm first + (tally_arms rest + tally_else other)))) _
      (when_weaker (case_tally s (tally_expr e) (tally_arm first + tally_arms rest) (tally_else other) (judge_expr s n e).value _ _
      (expr_counts s n e)
      (when_map {P = λ p. CasesTally (tally_arm first) p.0 × CasesTally (tally_arms rest) p.1} joined_cases
      (when_both (arm_counts s (judge_expr s n e).next (judge_expr s n e).value [] first)
      (arm_tail_counts s _ (judge_expr s n e).value _ rest)) (λ p g. joined_cases_tally (tally_arm first) (tally_arms rest) p g.0 g.1))
      (case_else_counts s _ other))
      (λ x g. tally_is (1 + ((tally_expr e + (tally_arm first + tally_arms rest)) + tally_else other))
      (1 + (tally_expr e + (tally_arm first + (tally_arms rest + tally_else other)))) (omega arith) g))
  stmt_counts s n (tree.either_stmt k body rest) =
      one_when (1 + (tally_stmts body + tally_orelses rest)) _
      (when_map {P = λ p. StmtsTally (tally_stmts body) p.0 × Tally (tally_orelses rest) (branches_phrases p.1)}
      (λ p. ir.Either (ir.more_branches p.0 p.1)) (when_both (stmts_count s n body) (orelses_count s _ rest))
      (λ p g. either_tally (tally_stmts body) (tally_orelses rest) p g.0 g.1))
  stmt_counts s n (tree.forall_stmt k choice body) =
      one_when (1 + (tally_stmts choice + tally_stmts body)) _
      (when_map {P = λ p. StmtsTally (tally_stmts choice) p.0 × StmtsTally (tally_stmts body) p.1} (λ p. ir.Forall p.0 p.1)
      (when_both (stmts_count (inside_of s) n choice) (stmts_count (inside_of s) _ body))
      (λ p g. forall_tally (tally_stmts choice) (tally_stmts body) p g.0 g.1))
  stmt_counts s n (tree.commit_stmt k body) =
      one_when (1 + tally_stmts body) _ (when_map {P = StmtsTally (tally_stmts body)} ir.Commit (stmts_count (inside_of s) n body)
      (λ x g. commit_tally (tally_stmts body) x g))
  stmt_counts s n (tree.return_stmt k e) = one_when (1 + tally_returned e) _ (returned_counts s n k e)
  stmt_counts s n (tree.read_stmt k d rest) =
      when_map {P = λ p. StmtsTally (1 + tally_desig d) p.0 × StmtsTally (tally_desigs rest) p.1} joined_stmts
      (when_both (read_tally s (tally_desig d) _ (place_tally (tally_desig d) _ (desig_counts s n as_variable d)))
      (reads_count s _ rest))
      (λ p g. tally_is ((1 + tally_desig d) + tally_desigs rest) (1 + (tally_desig d + tally_desigs rest)) (omega arith)
      (joined_tally (1 + tally_desig d) (tally_desigs rest) p g.0 g.1))
  stmt_counts s n (tree.write_stmt k items) = items_count s n items
  stmt_counts s n (tree.writeln_stmt k items) =
      when_map {P = StmtsTally (tally_line_items items)} with_line (line_items_count s n items)
      (λ x g. line_tally (tally_line_items items) x g)

  elsifs_count : (s : Scene) (n : ℕ) (x : tree.ElsifTail) → When (judge_elsifs s n x).value (λ y. Tally (tally_elsifs x) (arms_phrases y))
  elsifs_count s n tree.no_elsif = when_some _ no_arms_tally
  elsifs_count s n (tree.more_elsif e body rest) =
      when_map {P = λ p. Tally (tally_expr e) (test_phrases p.0)
      × (StmtsTally (tally_stmts body) p.1.0 × Tally (tally_elsifs rest) (arms_phrases p.1.1))} arms_of
      (when_both (condition_tally s (tally_expr e) _ (expr_counts s n e)) (when_both (stmts_count s _ body) (elsifs_count s _ rest)))
      (λ p g. arms_tally (tally_expr e) (tally_stmts body) (tally_elsifs rest) p g.0 g.1.0 g.1.1)

  else_counts : (s : Scene) (n : ℕ) (x : tree.Else) → When (judge_else s n x).value (StmtsTally (tally_else x))
  else_counts s n tree.no_else = when_some _ none_tally
  else_counts s n (tree.else_stmts body) = stmts_count s n body

  by_counts : (s : Scene) (n : ℕ) (x : tree.By) → When (judge_by s n x).value (λ v. tally_by x ≡ 0)
  by_counts s n tree.no_by = when_some _ refl
  by_counts s n (tree.by_expr e) = when_then {P = λ t. tally_expr e ≡ 0} constant_in
      (when_node (by_rules (in_constant s)) _ (expr_quiet s n e) (λ t g q. g)) (λ t g. only_some t.constant g)

  arm_counts : (s : Scene) (n : ℕ) (case : Option Typing) (earlier : List Span) (x : tree.Arm)
      → When (judge_arm s n case earlier x).arm.value (CasesTally (tally_arm x))
  arm_counts s n case earlier (tree.empty_arm k) = when_some _ no_cases_tally
  arm_counts s n case earlier (tree.arm k first rest body) =
      arm_tally (tally_label first) (tally_labels rest) (tally_stmts body) _ _
      (when_map {P = λ p. (tally_label first ≡ 0) × (tally_labels rest ≡ 0)} cons_span
      (when_both (label_quiet s n case earlier first) (labels_quiet s _ case _ rest)) (λ p g. omega (arith, g.0, g.1)))
      (stmts_count s _ body)

  arm_tail_counts : (s : Scene) (n : ℕ) (case : Option Typing) (earlier : List Span) (x : tree.ArmTail)
      → When (judge_arm_tail s n case earlier x).value (CasesTally (tally_arms x))
  arm_tail_counts s n case earlier tree.no_arm = when_some _ no_cases_tally
  arm_tail_counts s n case earlier (tree.more_arm x rest) =
      when_map {P = λ p. CasesTally (tally_arm x) p.0 × CasesTally (tally_arms rest) p.1} joined_cases
      (when_both (arm_counts s n case earlier x) (arm_tail_counts s _ case _ rest))
      (λ p g. joined_cases_tally (tally_arm x) (tally_arms rest) p g.0 g.1)

  label_quiet : (s : Scene) (n : ℕ) (case : Option Typing) (earlier : List Span) (x : tree.Label)
      → When (judge_label s n case earlier x).value (λ v. tally_label x ≡ 0)
  label_quiet s n case earlier (tree.label k low high) =
      when_then {P = λ p. (tally_expr low ≡ 0) × (tally_high high ≡ 0)} (span_of s)
      (when_node (label_rules s case earlier (span_of s) _ _) _ (when_both (expr_quiet s n low) (high_quiet s _ _ high)) (λ p g q. g))
      (λ p g. only_some (span_of s p) (omega (arith, g.0, g.1)))

  high_quiet : (s : Scene) (n : ℕ) (low : Option Typing) (x : tree.High)
      → When (judge_high (in_constant s) n low x).value (λ v. tally_high x ≡ 0)
  high_quiet s n low tree.no_high = only_some low refl
  high_quiet s n low (tree.high_expr e) = expr_quiet s n e

  labels_quiet : (s : Scene) (n : ℕ) (case : Option Typing) (earlier : List Span) (x : tree.LabelTail)
      → When (judge_labels s n case earlier x).value (λ v. tally_labels x ≡ 0)
  labels_quiet s n case earlier tree.no_label = when_some _ refl
  labels_quiet s n case earlier (tree.more_label x rest) =
      when_map {P = λ p. (tally_label x ≡ 0) × (tally_labels rest ≡ 0)} cons_span
      (when_both (label_quiet s n case earlier x) (labels_quiet s _ case _ rest)) (λ p g. omega (arith, g.0, g.1))

  case_else_counts : (s : Scene) (n : ℕ) (x : tree.Else) → When (judge_case_else s n x).value (λ y. Tally (tally_else x) (else_phrases y))
  case_else_counts s n tree.no_else = when_some _ else_none
  case_else_counts s n (tree.else_stmts body) =
      when_map {P = StmtsTally (tally_stmts body)} ir.else_part (stmts_count s n body) (λ x g. else_some (tally_stmts body) x g)

  orelses_count : (s : Scene) (n : ℕ) (x : tree.OrelseTail)
      → When (judge_orelses s n x).value (λ y. Tally (tally_orelses x) (branches_phrases y))
  orelses_count s n tree.no_orelse = when_some _ no_branches_tally
  orelses_count s n (tree.more_orelse body rest) =
      when_map {P = λ p. StmtsTally (tally_stmts body) p.0 × Tally (tally_orelses rest) (branches_phrases p.1)}
      (λ p. ir.more_branches p.0 p.1) (when_both (stmts_count s n body) (orelses_count s _ rest))
      (λ p g. branches_tally (tally_stmts body) (tally_orelses rest) p g.0 g.1)

  returned_counts : (s : Scene) (n k : ℕ) (x : tree.Returned) → When (judge_returned s n k x).value (StmtTally (1 + tally_returned x))
  returned_counts s n k tree.no_value = when_weaker (bare_tally _) (λ x g. tally_is 1 (1 + 0) (omega arith) g)
  returned_counts s n k (tree.returned e) = return_tally s (tally_expr e) _ (expr_counts s n e)

  reads_count : (s : Scene) (n : ℕ) (x : tree.DesigTail) → When (judge_reads s n x).value (StmtsTally (tally_desigs x))
  reads_count s n tree.no_desig = when_some _ none_tally
  reads_count s n (tree.more_desig d rest) =
      when_map {P = λ p. StmtsTally (1 + tally_desig d) p.0 × StmtsTally (tally_desigs rest) p.1} joined_stmts
      (when_both (read_tally s (tally_desig d) _ (place_tally (tally_desig d) _ (desig_counts s n as_variable d)))
      (reads_count s _ rest))
      (λ p g. tally_is ((1 + tally_desig d) + tally_desigs rest) (1 + (tally_desig d + tally_desigs rest)) (omega arith)
      (joined_tally (1 + tally_desig d) (tally_desigs rest) p g.0 g.1))

  items_count : (s : Scene) (n : ℕ) (x : tree.Exprs) → When (judge_items s n x).value (StmtsTally (tally_items x))
  items_count s n (tree.exprs e rest) =
      when_map {P = λ p. StmtsTally (1 + tally_expr e) p.0 × StmtsTally (tally_item_tail rest) p.1} joined_stmts
      (when_both (item_tally s n (tree.expr_node e) (tally_expr e) (item_literal e) (judge_expr s n e) (expr_counts s n e) (literal_none e))
      (item_tail_counts s _ rest))
      (λ p g. tally_is ((1 + tally_expr e) + tally_item_tail rest) (1 + (tally_expr e + tally_item_tail rest)) (omega arith)
      (joined_tally (1 + tally_expr e) (tally_item_tail rest) p g.0 g.1))

  item_tail_counts : (s : Scene) (n : ℕ) (x : tree.ExprTail) → When (judge_item_tail s n x).value (StmtsTally (tally_item_tail x))
  item_tail_counts s n tree.no_expr = when_some _ none_tally
  item_tail_counts s n (tree.more_expr e rest) =
      when_map {P = λ p. StmtsTally (1 + tally_expr e) p.0 × StmtsTally (tally_item_tail rest) p.1} joined_stmts
      (when_both (item_tally s n (tree.expr_node e) (tally_expr e) (item_literal e) (judge_expr s n e) (expr_counts s n e) (literal_none e))
      (item_tail_counts s _ rest))
      (λ p g. tally_is ((1 + tally_expr e) + tally_item_tail rest) (1 + (tally_expr e + tally_item_tail rest)) (omega arith)
      (joined_tally (1 + tally_expr e) (tally_item_tail rest) p g.0 g.1))

  line_items_count : (s : Scene) (n : ℕ) (x : tree.Args) → When (judge_line_items s n x).value (StmtsTally (tally_line_items x))
  line_items_count s n tree.no_args = when_some _ none_tally
  line_items_count s n tree.empty_args = when_some _ none_tally
  line_items_count s n (tree.args items) = items_count s n items

  -- expressions

  expr_counts : (s : Scene) (n : ℕ) (x : tree.Expr) → When (judge_expr s n x).value (TypingTally (tally_expr x))
  expr_counts s n (tree.expr k left tree.no_relation) =
      when_weaker (simple_counts s n left) (λ t g. typing_is (tally_simple left) (tally_simple left + 0) (omega arith) g)
  expr_counts s n (tree.expr k left (tree.compared r right)) =
      when_map {P = λ p. TypingTally (tally_simple left) p.0 × TypingTally (tally_simple right) p.1} (relation_typing s r)
      (when_node (relation_rules s r) _ (when_both (simple_counts s n left) (simple_counts s _ right)) (λ p g q. g))
      (λ p g. related_tally s (tally_simple left) (tally_simple right) r p g.0 g.1)

  simple_counts : (s : Scene) (n : ℕ) (x : tree.Simple) → When (judge_simple s n x).value (TypingTally (tally_simple x))
  simple_counts s n (tree.simple k None first tree.no_term) =
      when_weaker (first_tally_of _ (term_counts s n (first_add None tree.no_term) first))
      (λ t g. typing_is (tally_term first) (tally_term first + 0) (omega arith) g.typing)
  simple_counts s n (tree.simple k None first (tree.more_term o t rest)) =
      when_weaker (chain_tally s ir.Or or_joins alone None (any_or (tree.more_term o t rest))
      (first_add None (tree.more_term o t rest)).sort (tally_term first) (tally_terms (tree.more_term o t rest)) _
      (when_both (when_weaker (term_counts s n (first_add None (tree.more_term o t rest)) first) (λ x g. g.typing))
      (terms_count s _ (first_add None (tree.more_term o t rest)).sort (tree.more_term o t rest)))) (λ x g. g.typing)
  simple_counts s n (tree.simple k (Some sign) first tree.no_term) =
      when_weaker (chain_tally s ir.Or or_joins alone (Some sign) (any_or tree.no_term) (first_add (Some sign) tree.no_term).sort
      (tally_term first) 0 _
      (when_both (when_weaker (term_counts s n (first_add (Some sign) tree.no_term) first) (λ x g. g.typing))
      (terms_count s (judge_term s n (first_add (Some sign) tree.no_term) first).next (first_add (Some sign) tree.no_term).sort
      tree.no_term))) (λ x g. g.typing)
  simple_counts s n (tree.simple k (Some sign) first (tree.more_term o t rest)) =
      when_weaker (chain_tally s ir.Or or_joins alone (Some sign) (any_or (tree.more_term o t rest))
      (first_add (Some sign) (tree.more_term o t rest)).sort (tally_term first) (tally_terms (tree.more_term o t rest)) _
      (when_both (when_weaker (term_counts s n (first_add (Some sign) (tree.more_term o t rest)) first) (λ x g. g.typing))
      (terms_count s _ (first_add (Some sign) (tree.more_term o t rest)).sort (tree.more_term o t rest)))) (λ x g. g.typing)

  terms_count : (s : Scene) (n : ℕ) (sort : Bool) (x : tree.TermTail)
      → When (judge_terms s n sort x).value (OperandsTally sort (tally_terms x))
  terms_count s n sort tree.no_term = when_some _ (operands_none sort)
  terms_count s n sort (tree.more_term o t rest) =
      when_map {P = λ p. TermTally (operand_behind sort (add_operator o)) (tally_term t) p.0 × OperandsTally sort (tally_terms rest) p.1}
      (cons_operand (add_operator o))
      (when_both (term_counts s n (operand_behind sort (add_operator o)) t) (terms_count s _ sort rest))
      (λ p g. operands_more sort (add_operator o) (tally_term t) (tally_terms rest) p g.0 g.1)

  term_counts : (s : Scene) (n : ℕ) (o : Operand) (x : tree.Term) → When (judge_term s n o x).value (TermTally o (tally_term x))
  term_counts s n o (tree.term k first tree.no_factor) =
      when_node (operand_rules s o) _ (first_tally_of _ (factor_counts s n alone first))
      (λ t g q. record {
        typing = typing_is (tally_factor first) (tally_factor first + 0) (omega arith) g.typing;
        sort =
            operand_sort s o (Some t) q;
      })
  term_counts s n o (tree.term k first (tree.more_factor m f rest)) =
      chain_tally s ir.And and_joins o None (any_and (tree.more_factor m f rest)) (first_mul (tree.more_factor m f rest)).sort
      (tally_factor first) (tally_factors (tree.more_factor m f rest)) _
      (when_both (when_weaker (factor_counts s n (first_mul (tree.more_factor m f rest)) first) (λ x g. g.typing))
      (factors_count s _ (first_mul (tree.more_factor m f rest)).sort (tree.more_factor m f rest)))

  factors_count : (s : Scene) (n : ℕ) (sort : Bool) (x : tree.FactorTail)
      → When (judge_factors s n sort x).value (OperandsTally sort (tally_factors x))
  factors_count s n sort tree.no_factor = when_some _ (operands_none sort)
  factors_count s n sort (tree.more_factor o f rest) =
      when_map {P = λ p. TermTally (operand_behind sort (mul_operator o)) (tally_factor f) p.0
      × OperandsTally sort (tally_factors rest) p.1} (cons_operand (mul_operator o))
      (when_both (factor_counts s n (operand_behind sort (mul_operator o)) f) (factors_count s _ sort rest))
      (λ p g. operands_more sort (mul_operator o) (tally_factor f) (tally_factors rest) p g.0 g.1)

  factor_counts : (s : Scene) (n : ℕ) (o : Operand) (x : tree.Factor) → When (judge_factor s n o x).value (TermTally o (tally_factor x))
  factor_counts s n o (tree.not_factor k p) =
      when_node (not_rules s o) _ (when_map {P = TypingTally (tally_primary p)} not_typing
      (when_node (test_rules s) _ (primary_counts (inside_of s) n p) (λ t g q. g)) (λ t g. not_tally t g))
      (λ t g q. record { typing = g; sort = operand_sort s o _ (no_faults_right (constant_rules s) _ q) })
  factor_counts s n o (tree.factor k p) = when_node (operand_rules s o) _ (primary_counts s n p)
      (λ t g q. record { typing = g; sort = operand_sort s o (Some t) q })

  primary_counts : (s : Scene) (n : ℕ) (x : tree.Primary) → When (judge_primary s n x).value (TypingTally (tally_primary x))
  primary_counts s n (tree.number k t) = when_some _ (constant_tally _ _ _)
  primary_counts s n (tree.literal k t) = when_node (literal_rules s (literal_at s t)) _
      (when_some {P = TypingTally 0} _ (constant_tally _ _ _)) (λ x g q. g)
  primary_counts s n (tree.named k d tree.no_args) =
      when_then {P = DesigTally (tally_desig d)} typing_in (desig_counts s n as_value d)
      (λ x g. when_weaker (typing_tally (tally_desig d) x g) (λ t h. typing_is (tally_desig d) (tally_desig d + 0) (omega arith) h))
  primary_counts s n (tree.named k d tree.empty_args) =
      called_tally s (tally_desig d) 0 0 _ (Some ir.no_args)
      (when_then {P = DesigTally (tally_desig d)} callee_in (desig_counts s n as_procedure d) (λ x g. callee_tally (tally_desig d) x g))
      (when_some ir.no_args args_none)
  primary_counts s n (tree.named k d (tree.args items)) =
      called_tally s (tally_desig d) (tally_exprs items) (argument_count items) _ _
      (when_then {P = DesigTally (tally_desig d)} callee_in (desig_counts s n as_procedure d) (λ x g. callee_tally (tally_desig d) x g))
      (arguments_count s _ _ items)
  primary_counts s n (tree.paren k body) =
      paren_tally s k (tally_stmts body) (judge_only s n body) (tally_only body) (judge_stmts (inside_of s) n body) (only_counts s n body)
      (stmts_count (inside_of s) n body)
  primary_counts s n (tree.known k d) = when_map {P = LocatedTally (tally_desig d)} known_typing
      (when_node (known_rules s) _ (place_tally (tally_desig d) _ (desig_counts s n as_variable d)) (λ l g q. g)) (λ l g. known_tally l g)
  primary_counts s n (tree.ord k e) = when_map {P = TypingTally (tally_expr e)} ord_typing
      (when_node (simple_rules s) _ (expr_counts s n e) (λ t g q. g)) (λ t g. ord_tally t g)
  primary_counts s n (tree.chr k e) = when_map {P = TypingTally (tally_expr e)} chr_typing
      (when_node (chr_rules s) _ (expr_counts s n e) (λ t g q. g)) (λ t g. chr_tally t g)

  only_counts : (s : Scene) (n : ℕ) (x : tree.Stmts) → OnlyTally (judge_only s n x) (tally_only x)
  only_counts s n (tree.stmts k x rest) = only_case rest (judge_value s n x) (tally_value x) (value_counts s n x)

  value_counts : (s : Scene) (n : ℕ) (x : tree.Stmt) → OnlyTally (judge_value s n x) (tally_value x)
  value_counts s n (tree.value k e) = expr_counts s n e
  value_counts s n x = tt

  arguments_count : (s : Scene) (n : ℕ) (fs : List FormalOf) (x : tree.Exprs)
      → When (judge_arguments s n fs x).value (λ y. Tally (tally_exprs x) (args_phrases y))
  arguments_count s n fs (tree.exprs e rest) =
      arguments_when (tally_expr e) (tally_expr_tail rest) _
      (when_both (argument_when s (tally_expr e) (slice_get fs 0) e _ (expr_counts s n e)) (argument_tail_counts s _ _ rest))

  argument_tail_counts : (s : Scene) (n : ℕ) (fs : List FormalOf) (x : tree.ExprTail)
      → When (judge_argument_tail s n fs x).value (λ y. Tally (tally_expr_tail x) (args_phrases y))
  argument_tail_counts s n fs tree.no_expr = when_some _ args_none
  argument_tail_counts s n fs (tree.more_expr e rest) =
      arguments_when (tally_expr e) (tally_expr_tail rest) _
      (when_both (argument_when s (tally_expr e) (slice_get fs 0) e _ (expr_counts s n e)) (argument_tail_counts s _ _ rest))

  -- designators

  desig_counts : (s : Scene) (n : ℕ) (w : Use) (x : tree.Desig) → When (judge_desig s n w x).value (DesigTally (tally_desig x))
  desig_counts s n w (tree.desig k name tree.no_selector) =
      when_node (desig_rules s w false (found s name)) _ (name_tally s (found s name)) (λ d g q. bare_end (found s name) d g)
  desig_counts s n w (tree.desig k name (tree.more_selector x rest)) =
      when_node (desig_rules s w true (found s name)) _
      (selectors_count s (found s name) 0 (judge_name s n name) (tree.more_selector x rest) (name_tally s (found s name)))
      (λ d g q. selected_end s w (found s name) (tally_selectors (tree.more_selector x rest)) (Some d) d
      (denoted_is (0 + tally_selectors (tree.more_selector x rest)) (tally_selectors (tree.more_selector x rest)) (omega arith) g) q)

  selectors_count : (s : Scene) (f : Found) (m : ℕ) (d : Judgement Denotation) (x : tree.SelectorTail) → When d.value (DenotedTally f m)
      → When (judge_selectors s d x).value (DenotedTally f (m + tally_selectors x))
  selectors_count s f m d tree.no_selector h = when_weaker h (λ x g. denoted_is m (m + 0) (omega arith) g)
  selectors_count s f m d (tree.more_selector x rest) h =
      when_weaker (selectors_count s f (m + tally_selector x) (judge_selector s d x) rest (selector_counts s f m d x h))
      (λ y g. denoted_is ((m + tally_selector x) + tally_selectors rest) (m + (tally_selector x + tally_selectors rest)) (omega arith)
      g)

  selector_counts : (s : Scene) (f : Found) (m : ℕ) (d : Judgement Denotation) (x : tree.Selector) → When d.value (DenotedTally f m)
      → When (judge_selector s d x).value (DenotedTally f (m + tally_selector x))
  selector_counts s f m d (tree.field k name) h =
      when_then {P = DenotedTally f m} (select_field s (text_at s name.token))
      (when_node (field_rules s (text_at s name.token)) d.value h (λ x g q. g))
      (λ x g. when_weaker (field_tally s f m (text_at s name.token) x g) (λ y k. denoted_is m (m + 0) (omega arith) k))
  selector_counts s f m d (tree.index k items) h =
      when_node array_rules (judge_indices s d items).value (indices_count s f m d items h) (λ x g q. g)

  indices_count : (s : Scene) (f : Found) (m : ℕ) (d : Judgement Denotation) (x : tree.Exprs) → When d.value (DenotedTally f m)
      → When (judge_indices s d x).value (DenotedTally f (m + tally_exprs x))
  indices_count s f m d (tree.exprs e rest) h =
      when_weaker (index_tail_counts s f (m + tally_expr e) (index_at s d (tree.expr_node e) (judge_expr s d.next e)) rest
      (index_tally s f m (tally_expr e) d.value _ h (when_node (index_rules s d.value) _ (expr_counts s d.next e) (λ t g q. g))))
      (λ y g. denoted_is ((m + tally_expr e) + tally_expr_tail rest) (m + (tally_expr e + tally_expr_tail rest)) (omega arith) g)

  index_tail_counts : (s : Scene) (f : Found) (m : ℕ) (d : Judgement Denotation) (x : tree.ExprTail) → When d.value (DenotedTally f m)
      → When (judge_index_tail s d x).value (DenotedTally f (m + tally_expr_tail x))
  index_tail_counts s f m d tree.no_expr h = when_weaker h (λ x g. denoted_is m (m + 0) (omega arith) g)
  index_tail_counts s f m d (tree.more_expr e rest) h =
      when_weaker (index_tail_counts s f (m + tally_expr e) (index_at s d (tree.expr_node e) (judge_expr s d.next e)) rest
      (index_tally s f m (tally_expr e) d.value _ h (when_node (index_rules s d.value) _ (expr_counts s d.next e) (λ t g q. g))))
      (λ y g. denoted_is ((m + tally_expr e) + tally_expr_tail rest) (m + (tally_expr e + tally_expr_tail rest)) (omega arith) g)

  -- constant places

  expr_quiet : (s : Scene) (n : ℕ) (x : tree.Expr) → When (judge_expr (in_constant s) n x).value (λ t. tally_expr x ≡ 0)
  expr_quiet s n (tree.expr k left tree.no_relation) = when_weaker (simple_quiet s n left) (λ t g. omega (arith, g))
  expr_quiet s n (tree.expr k left (tree.compared r right)) = when_none

  simple_quiet : (s : Scene) (n : ℕ) (x : tree.Simple) → When (judge_simple (in_constant s) n x).value (λ t. tally_simple x ≡ 0)
  simple_quiet s n (tree.simple k None first tree.no_term) =
      when_weaker (first_tally_of {P = λ t. tally_term first ≡ 0} _ (term_quiet s n (first_add None tree.no_term) first))
      (λ t g. omega (arith, g))
  simple_quiet s n (tree.simple k None first (tree.more_term o t rest)) =
      quiet_chain (tally_term first) (tally_terms (tree.more_term o t rest)) (chain_typing ir.Or None)
      (chain_rules (in_constant s) ir.Or alone None (any_or (tree.more_term o t rest))) _
      (when_both (term_quiet s n (first_add None (tree.more_term o t rest)) first)
      (terms_quiet s _ (first_add None (tree.more_term o t rest)).sort (tree.more_term o t rest)))
  simple_quiet s n (tree.simple k (Some sign) first tree.no_term) =
      quiet_chain (tally_term first) 0 (chain_typing ir.Or (Some sign))
      (chain_rules (in_constant s) ir.Or alone (Some sign) (any_or tree.no_term)) _
      (when_both (term_quiet s n (first_add (Some sign) tree.no_term) first)
      (terms_quiet s (judge_term (in_constant s) n (first_add (Some sign) tree.no_term) first).next
      (first_add (Some sign) tree.no_term).sort tree.no_term))
  simple_quiet s n (tree.simple k (Some sign) first (tree.more_term o t rest)) =
      quiet_chain (tally_term first) (tally_terms (tree.more_term o t rest)) (chain_typing ir.Or (Some sign))
      (chain_rules (in_constant s) ir.Or alone (Some sign) (any_or (tree.more_term o t rest))) _
      (when_both (term_quiet s n (first_add (Some sign) (tree.more_term o t rest)) first)
      (terms_quiet s _ (first_add (Some sign) (tree.more_term o t rest)).sort (tree.more_term o t rest)))

  terms_quiet : (s : Scene) (n : ℕ) (sort : Bool) (x : tree.TermTail)
      → When (judge_terms (in_constant s) n sort x).value (λ t. tally_terms x ≡ 0)
  terms_quiet s n sort tree.no_term = when_some _ refl
  terms_quiet s n sort (tree.more_term o t rest) =
      when_map {P = λ p. (tally_term t ≡ 0) × (tally_terms rest ≡ 0)} (cons_operand (add_operator o))
      (when_both (term_quiet s n (operand_behind sort (add_operator o)) t) (terms_quiet s _ sort rest)) (λ p g. omega (arith, g.0, g.1))

  term_quiet : (s : Scene) (n : ℕ) (o : Operand) (x : tree.Term) → When (judge_term (in_constant s) n o x).value (λ t. tally_term x ≡ 0)
  term_quiet s n o (tree.term k first tree.no_factor) =
      when_node (operand_rules (in_constant s) o) _ (first_tally_of {P = λ t. tally_factor first ≡ 0} _ (factor_quiet s n alone first))
      (λ t g q. omega (arith, g))
  term_quiet s n o (tree.term k first (tree.more_factor m f rest)) =
      quiet_chain (tally_factor first) (tally_factors (tree.more_factor m f rest)) (chain_typing ir.And None)
      (chain_rules (in_constant s) ir.And o None (any_and (tree.more_factor m f rest))) _
      (when_both (factor_quiet s n (first_mul (tree.more_factor m f rest)) first)
      (factors_quiet s _ (first_mul (tree.more_factor m f rest)).sort (tree.more_factor m f rest)))

  factors_quiet : (s : Scene) (n : ℕ) (sort : Bool) (x : tree.FactorTail)
      → When (judge_factors (in_constant s) n sort x).value (λ t. tally_factors x ≡ 0)
  factors_quiet s n sort tree.no_factor = when_some _ refl
  factors_quiet s n sort (tree.more_factor o f rest) =
      when_map {P = λ p. (tally_factor f ≡ 0) × (tally_factors rest ≡ 0)} (cons_operand (mul_operator o))
      (when_both (factor_quiet s n (operand_behind sort (mul_operator o)) f) (factors_quiet s _ sort rest))
      (λ p g. omega (arith, g.0, g.1))

  factor_quiet : (s : Scene) (n : ℕ) (o : Operand) (x : tree.Factor)
      → When (judge_factor (in_constant s) n o x).value (λ t. tally_factor x ≡ 0)
  factor_quiet s n o (tree.not_factor k p) = when_none
  factor_quiet s n o (tree.factor k p) = when_node (operand_rules (in_constant s) o) _ (primary_quiet s n p) (λ t g q. g)

  primary_quiet : (s : Scene) (n : ℕ) (x : tree.Primary) → When (judge_primary (in_constant s) n x).value (λ t. tally_primary x ≡ 0)
  primary_quiet s n (tree.number k t) = when_some _ refl
  primary_quiet s n (tree.literal k t) = only_some _ refl
  primary_quiet s n (tree.named k d tree.no_args) =
      when_then {P = λ x. tally_desig d ≡ 0} typing_in (desig_quiet s n as_value d) (λ x g. only_some (typing_in x) (omega (arith, g)))
  primary_quiet s n (tree.named k d tree.empty_args) = when_none
  primary_quiet s n (tree.named k d (tree.args items)) = when_none
  primary_quiet s n (tree.paren k body) = paren_quiet s k (tally_stmts body) (judge_only (in_constant s) n body) (tally_only body)
      (judge_stmts (inside_of (in_constant s)) n body) (only_quiet s n body)
  primary_quiet s n (tree.known k d) = when_none
  primary_quiet s n (tree.ord k e) = when_map {P = λ t. tally_expr e ≡ 0} ord_typing
      (when_node (simple_rules (in_constant s)) _ (expr_quiet s n e) (λ t g q. g)) (λ t g. g)
  primary_quiet s n (tree.chr k e) = when_map {P = λ t. tally_expr e ≡ 0} chr_typing
      (when_node (chr_rules (in_constant s)) _ (expr_quiet s n e) (λ t g q. g)) (λ t g. g)

  only_quiet : (s : Scene) (n : ℕ) (x : tree.Stmts) → OnlyQuiet (judge_only (in_constant s) n x) (tally_only x)
  only_quiet s n (tree.stmts k x rest) = only_quiet_case rest (judge_value (in_constant s) n x) (tally_value x) (value_quiet s n x)

  value_quiet : (s : Scene) (n : ℕ) (x : tree.Stmt) → OnlyQuiet (judge_value (in_constant s) n x) (tally_value x)
  value_quiet s n (tree.value k e) = expr_quiet s n e
  value_quiet s n x = tt

  desig_quiet : (s : Scene) (n : ℕ) (w : Use) (x : tree.Desig) → When (judge_desig (in_constant s) n w x).value (λ t. tally_desig x ≡ 0)
  desig_quiet s n w (tree.desig k name tree.no_selector) = only_some _ refl
  desig_quiet s n w (tree.desig k name (tree.more_selector x rest)) =
      when_node (desig_rules (in_constant s) w true (found (in_constant s) name)) _
      (selectors_count (in_constant s) (found (in_constant s) name) 0 (judge_name (in_constant s) n name) (tree.more_selector x rest)
      (name_tally (in_constant s) (found (in_constant s) name)))
      (λ d g q. absurd (constant_end s w (found (in_constant s) name) (0 + tally_selectors (tree.more_selector x rest)) (Some d) d g q))
