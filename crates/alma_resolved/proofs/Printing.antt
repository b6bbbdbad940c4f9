-- The texts that a body prints have no more bytes than the literals of its tree.
use Rattle.std.proofs.Common.{◌≡◌, ℕ, ◌+◌, ℤ, pos, Bool, true, false, List, [], ◌++◌, length, Option, None, Some, refl, sym, ap, ◌∙◌, subst}
use Rattle.std.proofs.Common.{arith, append_assoc}
use Rattle.std.specs.Prelude.{nat_eq, option_map, option_and_then, slice_get, if◌then◌else◌}
use Rattle.alma_base.specs.Choice.{if_true}
use Rattle.alma_ir.specs.Tree as ir
use Rattle.alma_ir.specs.Phrases.{stmts_phrases, stmt_phrases, arms_phrases, cases_phrases, else_phrases, branches_phrases, loop_phrases}
use Rattle.alma_ir.specs.Phrases.{test_phrases, expr_phrases, arg_phrases, args_phrases}
use Rattle.alma_rules.specs.Numbered as tree
use Rattle.alma_rules.specs.Judgement.{Judgement, fine, at_node, with, unless, both_of}
use Rattle.alma_rules.specs.Scene.{Scene, FormalOf, Found, absent, bad, constant, named, variable, routine, found, is_structured, range}
use Rattle.alma_rules.specs.Scene.{inside_of, text_at, literal_at}
use Rattle.alma_rules.specs.Parts.{Meaning, a_place, plain, a_test, Typing, value_of, test_of, without_place, boolean_typing, Location}
use Rattle.alma_rules.specs.Parts.{desig_of, Denotation, denotation, select_field, located_in, typing_in, callee_in, argument_of, Callee}
use Rattle.alma_rules.specs.Parts.{typing_of_call}
use Rattle.alma_rules.specs.Parts.{joined_stmts, one_stmt, assignment_stmts, assigned_to, read_as, read_stmts, write_as}
use Rattle.alma_rules.specs.Parts.{write_stmts}
use Rattle.alma_rules.specs.Parts.{Span, append_cases, relation_typing, add_operator, mul_operator}
use Rattle.alma_rules.specs.ExprRules.{Use, as_variable, as_value, as_procedure, desig_rules, field_rules, array_rules, index_rules}
use Rattle.alma_rules.specs.ExprRules.{Operand, alone, operand_rules, not_rules, literal_rules, simple_rules, known_rules, chr_rules}
use Rattle.alma_rules.specs.ExprRules.{sequence_rules, relation_rules, test_rules, call_rules, argument_rules, argument_kind}
use Rattle.alma_rules.specs.StmtRules.{assign_rules, loop_name_rules, loop_rules, case_rules, return_rules, read_rules, write_rules}
use Rattle.alma_rules.specs.Nodes.{judge_name, index_at, in_parens, as_sequence, or_sequence, only_of, known_typing, ord_typing, chr_typing}
use Rattle.alma_rules.specs.Nodes.{not_typing, argument_count, cons_arg, cons_operand, operand_behind, first_add, first_mul, any_or}
use Rattle.alma_rules.specs.Nodes.{any_and, if_of, arms_of, loop_variable, loop_of, loop_at, arm_of, joined_cases, with_line, item_literal}
use Rattle.alma_rules.specs.Nodes.{text_rules, item_of}
use Rattle.alma_rules.specs.Walk.{judge_stmts, judge_stmt_tail, judge_stmt, judge_elsifs, judge_else, judge_by, judge_arm, judge_arm_tail}
use Rattle.alma_rules.specs.Walk.{judge_case_else, judge_orelses, judge_returned, judge_reads, judge_items, judge_item_tail}
use Rattle.alma_rules.specs.Walk.{judge_line_items, judge_expr, judge_simple, judge_terms, judge_term, judge_factors, judge_factor}
use Rattle.alma_rules.specs.Walk.{judge_primary, judge_only, judge_value, judge_arguments, judge_argument_tail, judge_desig}
use Rattle.alma_rules.specs.Walk.{judge_selectors, judge_selector, judge_indices, judge_index_tail}
use Rattle.alma_resolved.proofs.Fits.{When, when_some, when_none, when_map, when_then, when_both, when_node, when_weaker}
use Rattle.std.specs.Prelude.{drop, ◌-◌, ◌≤◌}
use Rattle.std.proofs.lemmas.List.{length-take, length-drop}
use Rattle.std.proofs.lemmas.List.Sums.{sum_by-cons}
use Rattle.alma_scan.specs.Tokens.{Lexeme}
use Rattle.alma_ir.specs.Phrases.{StmtPhrase, branches_phrases}
use Rattle.alma_ir.specs.Checked.{text_bytes}
use Rattle.alma_rules.specs.Scene.{text_of, between}
use Rattle.alma_rules.specs.Nodes.{is_selected}
use Rattle.alma_rules.proofs.Phrases.{append_phrases}
use Rattle.alma_resolved.proofs.Weights.{weigh_args, weigh_arm, weigh_arms, weigh_by, weigh_desig, weigh_desigs, weigh_else, weigh_elsifs}
use Rattle.alma_resolved.proofs.Weights.{weigh_expr, weigh_expr_tail, weigh_exprs, weigh_factor, weigh_factors, weigh_label, weigh_labels}
use Rattle.alma_resolved.proofs.Weights.{weigh_orelses, weigh_primary, weigh_returned, weigh_selector, weigh_selectors, weigh_simple}
use Rattle.alma_resolved.proofs.Weights.{weigh_stmt, weigh_stmt_tail, weigh_stmts, weigh_term, weigh_terms}
use Rattle.alma_resolved.proofs.Prints.{Prints, prints_nil, prints_up, prints_join, stmt_more, expr_more, desig_more, prints_alone}
use Rattle.alma_resolved.proofs.Prints.{MeaningPrints, TypingPrints, value_prints, test_prints, without_prints, typing_up, constant_prints}
use Rattle.alma_resolved.proofs.Prints.{seq_prints, known_prints, ord_prints, chr_prints, not_prints, anything, DenotedPrints, denoted_up}
use Rattle.alma_resolved.proofs.Prints.{name_prints, field_prints, index_prints, typing_prints, LocatedPrints, located_prints, call_prints}
use Rattle.alma_resolved.proofs.Prints.{argument_prints, args_none, args_more, related_prints, OperandsPrint, operands_none, operands_more}
use Rattle.alma_resolved.proofs.Prints.{chain_prints}
use Rattle.alma_resolved.proofs.Counts.{and_joins, or_joins, first_tally_of}

-- ---- statements

abbrev StmtsPrint : ℕ → ir.Stmts → Type 0
StmtsPrint n y = Prints n (stmts_phrases y)

abbrev StmtPrints : ℕ → ir.Stmt → Type 0
StmtPrints n y = Prints n (stmt_phrases y)

joined_prints : (n m : ℕ) (p : ir.Stmts × ir.Stmts) → StmtsPrint n p.0 → StmtsPrint m p.1 → StmtsPrint (n + m) (joined_stmts p)
joined_prints n m p h k = subst (λ ys. Prints (n + m) ys) (sym (append_phrases p.0 p.1)) (prints_join h k)

one_prints : (n : ℕ) (x : ir.Stmt) → StmtPrints n x → StmtsPrint n (one_stmt x)
unfolding expr_phrases
one_prints n x h = prints_alone h

none_prints : StmtsPrint 0 ir.no_stmts
unfolding expr_phrases
none_prints = prints_nil 0

one_when : (n : ℕ) (v : Option ir.Stmt) → When v (StmtPrints n) → When (option_map one_stmt v) (StmtsPrint n)
one_when n v h = when_map one_stmt h (λ x g. one_prints n x g)

assign_to : (s : Scene) (n m : ℕ) (l : Location) (x : Meaning) → LocatedPrints n l → MeaningPrints m x
    → StmtPrints (n + m) (assigned_to s l x)
unfolding expr_phrases
assign_to s n m l (a_place d) h g = by (is_structured s l.shape)
  where
    by : (b : Bool) → StmtPrints (n + m) (if b then ir.CopyCells (desig_of l) d else ir.Assign (desig_of l) (ir.Load d) (range s l.shape))
    by true = stmt_more _ refl (prints_join h g)
    by false = stmt_more _ refl (prints_join h (expr_more _ g))
assign_to s n m l (plain e) h g = stmt_more _ refl (prints_join h g)
assign_to s n m l (a_test t) h g = stmt_more _ refl (prints_join h (expr_more _ g))

assign_prints : (s : Scene) (n m : ℕ) (v : Option (Location × Typing)) → When v (λ p. LocatedPrints n p.0 × TypingPrints m p.1)
    → When (option_map (assignment_stmts s) (unless (assign_rules s v) v)) (StmtsPrint (n + m))
assign_prints s n m v h =
    when_map {P = λ p. LocatedPrints n p.0 × TypingPrints m p.1} (assignment_stmts s) (when_node (assign_rules s) v h (λ p g q. g))
    (λ p g. one_prints (n + m) (assigned_to s p.0 p.1.meaning) (assign_to s n m p.0 p.1.meaning g.0 g.1.is))

test_stmt : (n : ℕ) (t : ir.Test) → Prints n (test_phrases t) → StmtPrints (n) (ir.TestStmt t)
unfolding expr_phrases
test_stmt n t h = stmt_more _ refl h

condition_prints : (s : Scene) (n : ℕ) (v : Option Typing) → When v (TypingPrints n)
    → When (option_map (λ t. test_of t.meaning) (unless (test_rules s v) v)) (λ t. Prints n (test_phrases t))
condition_prints s n v h = when_map {P = TypingPrints n} (λ t. test_of t.meaning) (when_node (test_rules s) v h (λ t g q. g))
    (λ t g. test_prints g)

if_prints : (a b c d : ℕ) (p : ir.Test × (ir.Stmts × (ir.Arms × ir.Stmts))) → Prints a (test_phrases p.0) → StmtsPrint b p.1.0
    → Prints c (arms_phrases p.1.1.0) → StmtsPrint d p.1.1.1 → StmtPrints (a + (b + (c + d))) (if_of p)
unfolding expr_phrases
if_prints a b c d p h g i j = prints_up (((a + b) + c) + d) (a + (b + (c + d))) (omega arith)
    (stmt_more _ refl (prints_join (prints_join (prints_join h g) i) j))

arms_prints : (a b c : ℕ) (p : ir.Test × (ir.Stmts × ir.Arms)) → Prints a (test_phrases p.0) → StmtsPrint b p.1.0
    → Prints c (arms_phrases p.1.1) → Prints (a + (b + c)) (arms_phrases (arms_of p))
unfolding expr_phrases
arms_prints a b c p h g i = prints_up ((a + b) + c) (a + (b + c)) (omega arith) (prints_join (prints_join h g) i)

no_arms_prints : Prints 0 (arms_phrases ir.no_arms)
unfolding expr_phrases
no_arms_prints = prints_nil 0

while_prints : (a b : ℕ) (p : ir.Test × ir.Stmts) → Prints a (test_phrases p.0) → StmtsPrint b p.1 → StmtPrints (a + b) (ir.While p.0 p.1)
unfolding expr_phrases
while_prints a b p h g = stmt_more _ refl (prints_join h g)

repeat_prints : (a b : ℕ) (p : ir.Stmts × ir.Test) → StmtsPrint a p.0 → Prints b (test_phrases p.1) → StmtPrints (a + b) (ir.Repeat p.0 p.1)
unfolding expr_phrases
repeat_prints a b p h g = stmt_more _ refl (prints_join h g)

either_prints : (a b : ℕ) (p : ir.Stmts × ir.Branches) → StmtsPrint a p.0 → Prints b (branches_phrases p.1)
    → StmtPrints (a + b) (ir.Either (ir.more_branches p.0 p.1))
unfolding expr_phrases
either_prints a b p h g = stmt_more _ refl (prints_join h g)

branches_prints : (a b : ℕ) (p : ir.Stmts × ir.Branches) → StmtsPrint a p.0 → Prints b (branches_phrases p.1)
    → Prints (a + b) (branches_phrases (ir.more_branches p.0 p.1))
unfolding expr_phrases
branches_prints a b p h g = prints_join h g

no_branches_prints : Prints 0 (branches_phrases ir.no_branches)
unfolding expr_phrases
no_branches_prints = prints_nil 0

forall_prints : (a b : ℕ) (p : ir.Stmts × ir.Stmts) → StmtsPrint a p.0 → StmtsPrint b p.1 → StmtPrints (a + b) (ir.Forall p.0 p.1)
unfolding expr_phrases
forall_prints a b p h g = stmt_more _ refl (prints_join h g)

commit_prints : (a : ℕ) (x : ir.Stmts) → StmtsPrint a x → StmtPrints (a) (ir.Commit x)
unfolding expr_phrases
commit_prints a x h = stmt_more _ refl h

return_prints : (s : Scene) (a : ℕ) (v : Option Typing) → When v (TypingPrints a)
    → When (option_map (λ t. ir.Return (ir.some_result (value_of t.meaning))) (unless (return_rules s true v) v)) (StmtPrints (a))
unfolding expr_phrases
return_prints s a v h = when_map {P = TypingPrints a} (λ t. ir.Return (ir.some_result (value_of t.meaning)))
    (when_node (return_rules s true) v h (λ t g q. g)) (λ t g. stmt_more _ refl (value_prints g))

bare_prints : (v : Option Typing) → When (option_map (λ t. ir.Return ir.no_result) v) (StmtPrints 0)
unfolding expr_phrases
bare_prints v = when_map {P = λ x. Unit {0}} (λ t. ir.Return ir.no_result) (anything v) (λ t g. stmt_more _ refl (prints_nil 0))

read_prints : (s : Scene) (a : ℕ) (v : Option Location) → When v (LocatedPrints a)
    → When (option_map (read_stmts s) (unless (read_rules s v) v)) (StmtsPrint (a))
unfolding expr_phrases
read_prints s a v h = when_map {P = LocatedPrints a} (read_stmts s) (when_node (read_rules s) v h (λ l g q. g))
    (λ l g. one_prints (a) (ir.Read (desig_of l) (read_as s l.shape) (range s l.shape))
    (stmt_more (ir.Read (desig_of l) (read_as s l.shape) (range s l.shape)) refl g))

write_prints : (s : Scene) (a : ℕ) (v : Option Typing) → When v (TypingPrints a)
    → When (option_map (write_stmts s) (unless (write_rules s v) v)) (StmtsPrint (a))
unfolding expr_phrases
write_prints s a v h = when_map {P = TypingPrints a} (write_stmts s) (when_node (write_rules s) v h (λ t g q. g))
    (λ t g. one_prints (a) (ir.WriteExpr (value_of t.meaning) (write_as s t.shape))
    (stmt_more (ir.WriteExpr (value_of t.meaning) (write_as s t.shape)) refl (value_prints g)))

text_more : (text : List ℕ) → StmtPrints (length text) (ir.WriteText text)
unfolding expr_phrases
text_more text = record { most = omega (arith, sum_by-cons text_bytes (StmtPhrase (ir.WriteText text)) []) }

text_prints : (s : Scene) (text : List ℕ) (v : Option ir.Stmts) → When v (λ y. y ≡ one_stmt (ir.WriteText text))
    → When (unless (text_rules s v) v) (StmtsPrint (length text))
text_prints s text v h =
    when_weaker (when_node {P = λ y. y ≡ one_stmt (ir.WriteText text)} {Q = λ y. y ≡ one_stmt (ir.WriteText text)} (text_rules s) v h
    (λ y g q. g))
    (λ y g. subst (StmtsPrint (length text)) (sym g) (one_prints (length text) (ir.WriteText text) (text_more text)))

line_prints : (n : ℕ) (x : ir.Stmts) → StmtsPrint n x → StmtsPrint n (with_line x)
unfolding expr_phrases
line_prints n x h = prints_up (n + 0) n (omega arith)
    (joined_prints n 0 (x, one_stmt ir.WriteLine) h (one_prints 0 ir.WriteLine (stmt_more _ refl (prints_nil 0))))

-- a token weighs as much as its text has bytes
abbrev pub sizes : List Lexeme → ℕ → ℕ
sizes tokens t = length (text_of (slice_get tokens t))

abbrev pub weight_in : Scene → ℕ → ℕ
weight_in s = sizes s.tokens

between_less : (text : List ℕ) → length (between text) ≤ length text
between_less text = omega (arith, length-take (length text - 2) (drop 1 text), length-drop 1 text)

literal_weighs : (s : Scene) (e : tree.Expr) (l : ℕ × ℕ) → item_literal e ≡ Some l → length (literal_at s l.1) ≤ weigh_expr (weight_in s) e
unfolding weigh_stmts
literal_weighs s (tree.expr n (tree.simple m None (tree.term k (tree.factor i (tree.literal j t)) tree.no_factor) tree.no_term)
    tree.no_relation) l q =
    let here : t ≡ l.1 = cc in
    omega (arith, between_less (text_at s t), ap (λ i. length (literal_at s i)) here)
literal_weighs s e l q = absurd (cc)

item_prints : (s : Scene) (n node a : ℕ) (o : Option (ℕ × ℕ)) (item : Judgement Typing) → When item.value (TypingPrints a)
    → ((l : ℕ × ℕ) → o ≡ Some l → length (literal_at s l.1) ≤ a) → When (item_of s n node o item).value (StmtsPrint a)
item_prints s n node a None item h f = write_prints s a item.value h
item_prints s n node a (Some l) item h f = by (nat_eq (length (literal_at s l.1)) 1)
  where
    by : (b : Bool) → When (if_true b (λ u. with (write_stmts s) (at_node node (write_rules s) item))
        (λ u. at_node l.0 (text_rules s) (fine n (one_stmt (ir.WriteText (literal_at s l.1)))))).value (StmtsPrint a)
    by true = write_prints s a item.value h
    by false = when_weaker (text_prints s (literal_at s l.1) (Some (one_stmt (ir.WriteText (literal_at s l.1)))) (when_some _ refl))
        (λ y g. prints_up (length (literal_at s l.1)) a (f l refl) g)

-- ---- loops

loop_name : (s : Scene) (f : Found) → When (option_and_then located_in (denotation s f)) (LocatedPrints 0)
unfolding expr_phrases
loop_name s absent = when_none
loop_name s bad = when_none
loop_name s (constant shape v) = when_none
loop_name s (named shape) = when_none
loop_name s (variable shape root) = when_some _ (desig_more _ (prints_nil 0))
loop_name s (routine q up None) = when_none
loop_name s (routine q up (Some h)) = when_none

loop_variable_prints : (s : Scene) (n : ℕ) (name : tree.Name) → When (loop_variable s n name).value (LocatedPrints 0)
loop_variable_prints s n name = when_node (loop_name_rules s (found s name)) _ (loop_name s (found s name)) (λ l g q. g)

abbrev LoopPrints : ℕ → ir.Loop → Type 0
LoopPrints n l = Prints n (loop_phrases l)

loop_prints : (s : Scene) (n k a b c d : ℕ) (var : Judgement Location) (low high : Judgement Typing) (by : Judgement ℤ)
    (body : Judgement ir.Stmts)
    → When var.value (LocatedPrints 0) → When low.value (TypingPrints a) → When high.value (TypingPrints b)
    → When body.value (StmtsPrint d) → When (loop_at s n k var low high by body).value (LoopPrints (a + (b + (c + d))))
unfolding expr_phrases
loop_prints s n k a b c d var low high by body h1 h2 h3 h5 =
    when_map {P = λ p. LocatedPrints 0 p.0 × (TypingPrints a p.1.0 × (TypingPrints b p.1.1.0 × (Unit {0} × StmtsPrint d p.1.1.1.1)))}
    (loop_of s n)
    (when_node (loop_rules s var.value low.value high.value) _
    (when_both h1 (when_both h2 (when_both h3 (when_both (anything by.value) h5)))) (λ p g q. g))
    (λ p g. prints_up (((0 + a) + b) + d) (a + (b + (c + d))) (omega arith)
    (prints_join (prints_join (prints_join g.0 (value_prints g.1.0)) (value_prints g.1.1.0)) g.1.1.1.1))

for_prints : (v n : ℕ) (l : ir.Loop) → LoopPrints n l → StmtPrints (v + n) (ir.ForTo l)
unfolding expr_phrases
for_prints v n l h = prints_up n (v + n) (omega arith) (stmt_more _ refl h)

some_prints : (v n : ℕ) (l : ir.Loop) → LoopPrints n l → StmtPrints (v + n) (ir.SomeOf l)
unfolding expr_phrases
some_prints v n l h = prints_up n (v + n) (omega arith) (stmt_more _ refl h)

-- ---- CASE

abbrev CasesPrint : ℕ → ir.CaseArms → Type 0
CasesPrint n y = Prints n (cases_phrases y)

no_cases_prints : CasesPrint 0 ir.no_cases
unfolding expr_phrases
no_cases_prints = prints_nil 0

append_cases_phrases : (x y : ir.CaseArms) → cases_phrases (append_cases x y) ≡ cases_phrases x ++ cases_phrases y
unfolding expr_phrases
append_cases_phrases ir.no_cases y = refl
append_cases_phrases (ir.more_cases labels body xs) y = ap (λ z. stmts_phrases body ++ z) (append_cases_phrases xs y)
    ∙ sym (append_assoc (stmts_phrases body) (cases_phrases xs) (cases_phrases y))

joined_cases_prints : (n m : ℕ) (p : ir.CaseArms × ir.CaseArms) → CasesPrint n p.0 → CasesPrint m p.1 → CasesPrint (n + m) (joined_cases p)
joined_cases_prints n m p h g = subst (λ ys. Prints (n + m) ys) (sym (append_cases_phrases p.0 p.1)) (prints_join h g)

arm_prints : (a b n : ℕ) (labels : Option (List Span)) (body : Option ir.Stmts) → When body (StmtsPrint n)
    → When (option_map arm_of (both_of labels body)) (CasesPrint (a + (b + n)))
unfolding expr_phrases
arm_prints a b n labels body g =
    when_map {P = λ p. Unit {0} × StmtsPrint n p.1} arm_of (when_both (anything labels) g)
    (λ p k. prints_up (n + 0) (a + (b + n)) (omega arith) (prints_join k.1 (prints_nil 0)))

case_prints : (s : Scene) (a b c : ℕ) (case : Option Typing) (arms : Option ir.CaseArms) (other : Option ir.Else)
    → When case (TypingPrints a) → When arms (CasesPrint b) → When other (λ y. Prints c (else_phrases y))
    → When (option_map (λ p. ir.Case (value_of p.0.meaning) p.1.0 p.1.1)
    (unless (case_rules s case (both_of case (both_of arms other))) (both_of case (both_of arms other)))) (StmtPrints ((a + b) + c))
unfolding expr_phrases
case_prints s a b c case arms other h g k =
    when_map {P = λ p. TypingPrints a p.0 × (CasesPrint b p.1.0 × Prints c (else_phrases p.1.1))}
    (λ p. ir.Case (value_of p.0.meaning) p.1.0 p.1.1)
    (when_node (case_rules s case) _ (when_both h (when_both g k)) (λ p x q. x))
    (λ p x. stmt_more _ refl (prints_join (prints_join (value_prints x.0) x.1.0) x.1.1))

else_some : (n : ℕ) (x : ir.Stmts) → StmtsPrint n x → Prints n (else_phrases (ir.else_part x))
unfolding expr_phrases
else_some n x h = h

else_none : Prints 0 (else_phrases ir.no_else)
unfolding expr_phrases
else_none = prints_nil 0

-- ---- parentheses

abbrev OnlyPrints : ℕ → Option (Judgement Typing) → Type 0
OnlyPrints n None = Unit {0}
OnlyPrints n (Some j) = When j.value (TypingPrints n)

only_case : (W : ℕ → ℕ) (n : ℕ) (rest : tree.StmtTail) (o : Option (Judgement Typing)) → OnlyPrints n o
    → OnlyPrints (n + weigh_stmt_tail W rest) (only_of rest o)
unfolding weigh_stmts
only_case W n tree.no_stmt None h = tt
only_case W n tree.no_stmt (Some j) h = when_weaker h (λ t g. typing_up n (n + 0) (omega arith) g)
only_case W n (tree.more_stmt x rest) o h = tt

paren_prints : (s : Scene) (k n : ℕ) (o : Option (Judgement Typing)) (j : Judgement ir.Stmts) → OnlyPrints n o → When j.value (StmtsPrint n)
    → When (or_sequence o (in_parens s k) (λ u. as_sequence s k j)).value (TypingPrints n)
paren_prints s k n None j h g = when_map {P = StmtsPrint n} (λ body. boolean_typing (a_test (ir.Seq body)))
    (when_node (sequence_rules s) j.value g (λ x y q. y)) (λ x y. seq_prints x y)
paren_prints s k n (Some i) j h g = when_map {P = TypingPrints n} without_place (when_node (simple_rules s) i.value h (λ t y q. y))
    (λ t y. without_prints t y)

-- ---- calls

called_prints : (s : Scene) (n m count : ℕ) (c : Option Callee) (args : Option ir.Args) → When args (λ y. Prints m (args_phrases y))
    → When (option_map typing_of_call (unless (call_rules s c count (both_of c args)) (both_of c args))) (TypingPrints (n + m))
called_prints s n m count c args g =
    when_map {P = λ p. Unit {0} × Prints m (args_phrases p.1)} typing_of_call
    (when_node (call_rules s c count) _ (when_both (anything c) g) (λ p x q. x))
    (λ p x. typing_up m (n + m) (omega arith) (call_prints m p.0 p.0.heading.result p.1 x.1))

argument_when : (s : Scene) (n : ℕ) (f : Option FormalOf) (e : tree.Expr) (v : Option Typing) → When v (TypingPrints n)
    → When (option_map (argument_of s f) (unless (argument_rules s f (argument_kind s e) v) v)) (λ a. Prints n (arg_phrases a))
argument_when s n f e v h = when_map {P = TypingPrints n} (argument_of s f)
    (when_node (argument_rules s f (argument_kind s e)) v h (λ t g q. g)) (λ t g. argument_prints s n f t g)

arguments_when : (n m : ℕ) (v : Option (ir.Arg × ir.Args)) → When v (λ p. Prints n (arg_phrases p.0) × Prints m (args_phrases p.1))
    → When (option_map cons_arg v) (λ y. Prints (n + m) (args_phrases y))
arguments_when n m v h = when_map {P = λ p. Prints n (arg_phrases p.0) × Prints m (args_phrases p.1)} cons_arg h
    (λ p g. args_more n m p g.0 g.1)

place_prints : (n : ℕ) (v : Option Denotation) → When v (DenotedPrints n) → When (option_and_then located_in v) (LocatedPrints n)
place_prints n v h = when_then {P = DenotedPrints n} located_in h (λ x g. located_prints n x g)

-- ---- the walk

mutual
  unfolding judge_expr weigh_stmts

  pub stmts_print : (s : Scene) (n : ℕ) (x : tree.Stmts) → When (judge_stmts s n x).value (StmtsPrint (weigh_stmts (weight_in s) x))
  stmts_print s n (tree.stmts k x rest) =
      when_map {P = λ p. StmtsPrint (weigh_stmt (weight_in s) x) p.0 × StmtsPrint (weigh_stmt_tail (weight_in s) rest) p.1} joined_stmts
      (when_both (stmt_print s n x) (stmt_tail_print s _ rest))
      (λ p g. joined_prints (weigh_stmt (weight_in s) x) (weigh_stmt_tail (weight_in s) rest) p g.0 g.1)

  stmt_tail_print : (s : Scene) (n : ℕ) (x : tree.StmtTail)
      → When (judge_stmt_tail s n x).value (StmtsPrint (weigh_stmt_tail (weight_in s) x))
  stmt_tail_print s n tree.no_stmt = when_some _ none_prints
  stmt_tail_print s n (tree.more_stmt x rest) =
      when_map {P = λ p. StmtsPrint (weigh_stmt (weight_in s) x) p.0 × StmtsPrint (weigh_stmt_tail (weight_in s) rest) p.1} joined_stmts
      (when_both (stmt_print s n x) (stmt_tail_print s _ rest))
      (λ p g. joined_prints (weigh_stmt (weight_in s) x) (weigh_stmt_tail (weight_in s) rest) p g.0 g.1)

  stmt_print : (s : Scene) (n : ℕ) (x : tree.Stmt) → When (judge_stmt s n x).value (StmtsPrint (weigh_stmt (weight_in s) x))
  stmt_print s n (tree.nothing k) = when_some _ none_prints
  stmt_print s n (tree.assign k d e) = assign_prints s (weigh_desig (weight_in s) d) (weigh_expr (weight_in s) e) _
      (when_both (place_prints (weigh_desig (weight_in s) d) _ (desig_print s n as_variable d)) (expr_print s _ e))
  stmt_print s n (tree.value k e) =
      one_when (weigh_expr (weight_in s) e) _ (when_map {P = λ t. Prints (weigh_expr (weight_in s) e) (test_phrases t)} ir.TestStmt
      (condition_prints s (weigh_expr (weight_in s) e) _ (expr_print s n e)) (λ t g. test_stmt (weigh_expr (weight_in s) e) t g))
  stmt_print s n (tree.if_stmt k e body elsifs other) =
      one_when (weigh_expr (weight_in s) e + (weigh_stmts (weight_in s) body
      + (weigh_elsifs (weight_in s) elsifs + weigh_else (weight_in s) other))) _
      (when_map {P = λ p. Prints (weigh_expr (weight_in s) e) (test_phrases p.0)
      × (StmtsPrint (weigh_stmts (weight_in s) body) p.1.0
      × (Prints (weigh_elsifs (weight_in s) elsifs) (arms_phrases p.1.1.0) × StmtsPrint (weigh_else (weight_in s) other) p.1.1.1))}
      if_of
      (when_both (condition_prints s (weigh_expr (weight_in s) e) _ (expr_print s n e))
      (when_both (stmts_print s _ body) (when_both (elsifs_print s _ elsifs) (else_print s _ other))))
      (λ p g. if_prints (weigh_expr (weight_in s) e) (weigh_stmts (weight_in s) body) (weigh_elsifs (weight_in s) elsifs)
      (weigh_else (weight_in s) other) p g.0 g.1.0 g.1.1.0 g.1.1.1))
  stmt_print s n (tree.while_stmt k e body) =
      one_when (weigh_expr (weight_in s) e + weigh_stmts (weight_in s) body) _
      (when_map {P = λ p. Prints (weigh_expr (weight_in s) e) (test_phrases p.0) × StmtsPrint (weigh_stmts (weight_in s) body) p.1}
      (λ p. ir.While p.0 p.1) (when_both (condition_prints s (weigh_expr (weight_in s) e) _ (expr_print s n e)) (stmts_print s _ body))
      (λ p g. while_prints (weigh_expr (weight_in s) e) (weigh_stmts (weight_in s) body) p g.0 g.1))
  stmt_print s n (tree.repeat_stmt k body e) =
      one_when (weigh_stmts (weight_in s) body + weigh_expr (weight_in s) e) _
      (when_map {P = λ p. StmtsPrint (weigh_stmts (weight_in s) body) p.0 × Prints (weigh_expr (weight_in s) e) (test_phrases p.1)}
      (λ p. ir.Repeat p.0 p.1) (when_both (stmts_print s n body) (condition_prints s (weigh_expr (weight_in s) e) _ (expr_print s _ e)))
      (λ p g. repeat_prints (weigh_stmts (weight_in s) body) (weigh_expr (weight_in s) e) p g.0 g.1))
  stmt_print s n (tree.for_stmt k name low high by body) =
      one_when (weigh_stmt (weight_in s) (tree.for_stmt k name low high by body)) _
      (when_map {P = LoopPrints (weigh_expr (weight_in s) low
      + (weigh_expr (weight_in s) high + (weigh_by (weight_in s) by + weigh_stmts (weight_in s) body)))} ir.ForTo
      (loop_prints s n k (weigh_expr (weight_in s) low) (weigh_expr (weight_in s) high) (weigh_by (weight_in s) by)
      (weigh_stmts (weight_in s) body) (loop_variable s n name) (judge_expr s (n + 2) low)
      (judge_expr s (judge_expr s (n + 2) low).next high)
      (judge_by s (judge_expr s (judge_expr s (n + 2) low).next high).next by)
      (judge_stmts s (judge_by s (judge_expr s (judge_expr s (n + 2) low).next high).next by).next body)
      (loop_variable_prints s n name) (expr_print s _ low) (expr_print s _ high) (stmts_print s _ body))
      (λ l g. for_prints (weight_in s name.token) _ l g))
  stmt_print s n (tree.some_stmt k name low high body) =
      one_when (weigh_stmt (weight_in s) (tree.some_stmt k name low high body)) _
      (when_map {P = LoopPrints (weigh_expr (weight_in s) low + (weigh_expr (weight_in s) high + weigh_stmts (weight_in s) body))} ir.SomeOf
      (when_weaker (loop_prints s n k (weigh_expr (weight_in s) low) (weigh_expr (weight_in s) high) 0 (weigh_stmts (weight_in s) body)
      (loop_variable s n name) (judge_expr s (n + 2) low) (judge_expr s (judge_expr s (n + 2) low).next high)
      (fine (judge_expr s (judge_expr s (n + 2) low).next high).next (pos 1))
      (judge_stmts s (judge_expr s (judge_expr s (n + 2) low).next high).next body)
      (loop_variable_prints s n name) (expr_print s _ low) (expr_print s _ high) (stmts_print s _ body))
      (λ l g. prints_up (weigh_expr (weight_in s) low + (weigh_expr (weight_in s) high + (0 + weigh_stmts (weight_in s) body)))
      (weigh_expr (weight_in s) low + (weigh_expr (weight_in s) high + weigh_stmts (weight_in s) body)) (omega arith) g))
      (λ l g. some_prints (weight_in s name.token) _ l g))
  stmt_print s n (tree.case_stmt k e first rest other) =
      one_when (weigh_expr (weight_in s) e + (weigh_arm (weight_in s) first
      + (weigh_arms (weight_in s) rest + weigh_else (weight_in s) other))) _
      (when_weaker (case_prints s (weigh_expr (weight_in s) e) (weigh_arm (weight_in s) first + weigh_arms (weight_in s) rest)
      (weigh_else (weight_in s) other) (judge_expr s n e).value _ _ (expr_print s n e)
      (when_map {P = λ p. CasesPrint (weigh_arm (weight_in s) first) p.0 × CasesPrint (weigh_arms (weight_in s) rest) p.1} joined_cases
      (when_both (arm_print s (judge_expr s n e).next (judge_expr s n e).value [] first)
      (arm_tail_print s _ (judge_expr s n e).value _ rest))
      (λ p g. joined_cases_prints (weigh_arm (weight_in s) first) (weigh_arms (weight_in s) rest) p g.0 g.1))
      (case_else_print s _ other))
      (λ x g. prints_up
      (((weigh_expr (weight_in s) e + (weigh_arm (weight_in s) first + weigh_arms (weight_in s) rest))
      + weigh_else (weight_in s) other))
      ((weigh_expr (weight_in s) e + (weigh_arm (weight_in s) first
      + (weigh_arms (weight_in s) rest + weigh_else (weight_in s) other)))) (omega arith) g))
  stmt_print s n (tree.either_stmt k body rest) =
      one_when (weigh_stmts (weight_in s) body + weigh_orelses (weight_in s) rest) _
      (when_map {P = λ p. StmtsPrint (weigh_stmts (weight_in s) body) p.0
      × Prints (weigh_orelses (weight_in s) rest) (branches_phrases p.1)} (λ p. ir.Either (ir.more_branches p.0 p.1))
      (when_both (stmts_print s n body) (orelses_print s _ rest))
      (λ p g. either_prints (weigh_stmts (weight_in s) body) (weigh_orelses (weight_in s) rest) p g.0 g.1))
  stmt_print s n (tree.forall_stmt k choice body) =
      one_when (weigh_stmts (weight_in s) choice + weigh_stmts (weight_in s) body) _
      (when_map {P = λ p. StmtsPrint (weigh_stmts (weight_in s) choice) p.0 × StmtsPrint (weigh_stmts (weight_in s) body) p.1}
      (λ p. ir.Forall p.0 p.1) (when_both (stmts_print (inside_of s) n choice) (stmts_print (inside_of s) _ body))
      (λ p g. forall_prints (weigh_stmts (weight_in s) choice) (weigh_stmts (weight_in s) body) p g.0 g.1))
  stmt_print s n (tree.commit_stmt k body) =
      one_when (weigh_stmts (weight_in s) body) _
      (when_map {P = StmtsPrint (weigh_stmts (weight_in s) body)} ir.Commit (stmts_print (inside_of s) n body)
      (λ x g. commit_prints (weigh_stmts (weight_in s) body) x g))
  stmt_print s n (tree.return_stmt k e) = one_when (weigh_returned (weight_in s) e) _ (returned_print s n k e)
  stmt_print s n (tree.read_stmt k d rest) =
      when_map {P = λ p. StmtsPrint (weigh_desig (weight_in s) d) p.0 × StmtsPrint (weigh_desigs (weight_in s) rest) p.1} joined_stmts
      (when_both (read_prints s (weigh_desig (weight_in s) d) _
      (place_prints (weigh_desig (weight_in s) d) _ (desig_print s n as_variable d))) (reads_print s _ rest))
      (λ p g. joined_prints (weigh_desig (weight_in s) d) (weigh_desigs (weight_in s) rest) p g.0 g.1)
  stmt_print s n (tree.write_stmt k items) = items_print s n items
  stmt_print s n (tree.writeln_stmt k items) =
      when_map {P = StmtsPrint (weigh_args (weight_in s) items)} with_line (line_items_print s n items)
      (λ x g. line_prints (weigh_args (weight_in s) items) x g)

  elsifs_print : (s : Scene) (n : ℕ) (x : tree.ElsifTail)
      → When (judge_elsifs s n x).value (λ y. Prints (weigh_elsifs (weight_in s) x) (arms_phrases y))
  elsifs_print s n tree.no_elsif = when_some _ no_arms_prints
  elsifs_print s n (tree.more_elsif e body rest) =
      when_map {P = λ p. Prints (weigh_expr (weight_in s) e) (test_phrases p.0)
      × (StmtsPrint (weigh_stmts (weight_in s) body) p.1.0 × Prints (weigh_elsifs (weight_in s) rest) (arms_phrases p.1.1))} arms_of
      (when_both (condition_prints s (weigh_expr (weight_in s) e) _ (expr_print s n e))
      (when_both (stmts_print s _ body) (elsifs_print s _ rest)))
      (λ p g. arms_prints (weigh_expr (weight_in s) e) (weigh_stmts (weight_in s) body) (weigh_elsifs (weight_in s) rest) p g.0 g.1.0 g.1.1)

  else_print : (s : Scene) (n : ℕ) (x : tree.Else) → When (judge_else s n x).value (StmtsPrint (weigh_else (weight_in s) x))
  else_print s n tree.no_else = when_some _ none_prints
  else_print s n (tree.else_stmts body) = stmts_print s n body

  arm_print : (s : Scene) (n : ℕ) (case : Option Typing) (earlier : List Span) (x : tree.Arm)
      → When (judge_arm s n case earlier x).arm.value (CasesPrint (weigh_arm (weight_in s) x))
  arm_print s n case earlier (tree.empty_arm k) = when_some _ no_cases_prints
  arm_print s n case earlier (tree.arm k first rest body) =
      arm_prints (weigh_label (weight_in s) first) (weigh_labels (weight_in s) rest) (weigh_stmts (weight_in s) body) _ _
      (stmts_print s _ body)

  arm_tail_print : (s : Scene) (n : ℕ) (case : Option Typing) (earlier : List Span) (x : tree.ArmTail)
      → When (judge_arm_tail s n case earlier x).value (CasesPrint (weigh_arms (weight_in s) x))
  arm_tail_print s n case earlier tree.no_arm = when_some _ no_cases_prints
  arm_tail_print s n case earlier (tree.more_arm x rest) =
      when_map {P = λ p. CasesPrint (weigh_arm (weight_in s) x) p.0 × CasesPrint (weigh_arms (weight_in s) rest) p.1} joined_cases
      (when_both (arm_print s n case earlier x) (arm_tail_print s _ case _ rest))
      (λ p g. joined_cases_prints (weigh_arm (weight_in s) x) (weigh_arms (weight_in s) rest) p g.0 g.1)

  case_else_print : (s : Scene) (n : ℕ) (x : tree.Else)
      → When (judge_case_else s n x).value (λ y. Prints (weigh_else (weight_in s) x) (else_phrases y))
  case_else_print s n tree.no_else = when_some _ else_none
  case_else_print s n (tree.else_stmts body) =
      when_map {P = StmtsPrint (weigh_stmts (weight_in s) body)} ir.else_part (stmts_print s n body)
      (λ x g. else_some (weigh_stmts (weight_in s) body) x g)

  orelses_print : (s : Scene) (n : ℕ) (x : tree.OrelseTail)
      → When (judge_orelses s n x).value (λ y. Prints (weigh_orelses (weight_in s) x) (branches_phrases y))
  orelses_print s n tree.no_orelse = when_some _ no_branches_prints
  orelses_print s n (tree.more_orelse body rest) =
      when_map {P = λ p. StmtsPrint (weigh_stmts (weight_in s) body) p.0 × Prints (weigh_orelses (weight_in s) rest) (branches_phrases p.1)}
      (λ p. ir.more_branches p.0 p.1) (when_both (stmts_print s n body) (orelses_print s _ rest))
      (λ p g. branches_prints (weigh_stmts (weight_in s) body) (weigh_orelses (weight_in s) rest) p g.0 g.1)

  returned_print : (s : Scene) (n k : ℕ) (x : tree.Returned)
      → When (judge_returned s n k x).value (StmtPrints (weigh_returned (weight_in s) x))
  returned_print s n k tree.no_value = bare_prints _
  returned_print s n k (tree.returned e) = return_prints s (weigh_expr (weight_in s) e) _ (expr_print s n e)

  reads_print : (s : Scene) (n : ℕ) (x : tree.DesigTail) → When (judge_reads s n x).value (StmtsPrint (weigh_desigs (weight_in s) x))
  reads_print s n tree.no_desig = when_some _ none_prints
  reads_print s n (tree.more_desig d rest) =
      when_map {P = λ p. StmtsPrint (weigh_desig (weight_in s) d) p.0 × StmtsPrint (weigh_desigs (weight_in s) rest) p.1} joined_stmts
      (when_both (read_prints s (weigh_desig (weight_in s) d) _
      (place_prints (weigh_desig (weight_in s) d) _ (desig_print s n as_variable d))) (reads_print s _ rest))
      (λ p g. joined_prints (weigh_desig (weight_in s) d) (weigh_desigs (weight_in s) rest) p g.0 g.1)

  items_print : (s : Scene) (n : ℕ) (x : tree.Exprs) → When (judge_items s n x).value (StmtsPrint (weigh_exprs (weight_in s) x))
  items_print s n (tree.exprs e rest) =
      when_map {P = λ p. StmtsPrint (weigh_expr (weight_in s) e) p.0 × StmtsPrint (weigh_expr_tail (weight_in s) rest) p.1} joined_stmts
      (when_both (item_prints s n (tree.expr_node e) (weigh_expr (weight_in s) e) (item_literal e) (judge_expr s n e) (expr_print s n e)
      (literal_weighs s e)) (item_tail_print s _ rest))
      (λ p g. joined_prints (weigh_expr (weight_in s) e) (weigh_expr_tail (weight_in s) rest) p g.0 g.1)

  item_tail_print : (s : Scene) (n : ℕ) (x : tree.ExprTail)
      → When (judge_item_tail s n x).value (StmtsPrint (weigh_expr_tail (weight_in s) x))
  item_tail_print s n tree.no_expr = when_some _ none_prints
  item_tail_print s n (tree.more_expr e rest) =
      when_map {P = λ p. StmtsPrint (weigh_expr (weight_in s) e) p.0 × StmtsPrint (weigh_expr_tail (weight_in s) rest) p.1} joined_stmts
      (when_both (item_prints s n (tree.expr_node e) (weigh_expr (weight_in s) e) (item_literal e) (judge_expr s n e) (expr_print s n e)
      (literal_weighs s e)) (item_tail_print s _ rest))
      (λ p g. joined_prints (weigh_expr (weight_in s) e) (weigh_expr_tail (weight_in s) rest) p g.0 g.1)

  line_items_print : (s : Scene) (n : ℕ) (x : tree.Args) → When (judge_line_items s n x).value (StmtsPrint (weigh_args (weight_in s) x))
  line_items_print s n tree.no_args = when_some _ none_prints
  line_items_print s n tree.empty_args = when_some _ none_prints
  line_items_print s n (tree.args items) = items_print s n items

  -- expressions

  expr_print : (s : Scene) (n : ℕ) (x : tree.Expr) → When (judge_expr s n x).value (TypingPrints (weigh_expr (weight_in s) x))
  expr_print s n (tree.expr k left tree.no_relation) =
      when_weaker (simple_print s n left) (λ t g. typing_up (weigh_simple (weight_in s) left) (weigh_simple (weight_in s) left + 0)
      (omega arith) g)
  expr_print s n (tree.expr k left (tree.compared r right)) =
      when_map {P = λ p. TypingPrints (weigh_simple (weight_in s) left) p.0 × TypingPrints (weigh_simple (weight_in s) right) p.1}
      (relation_typing s r) (when_node (relation_rules s r) _ (when_both (simple_print s n left) (simple_print s _ right)) (λ p g q. g))
      (λ p g. related_prints s (weigh_simple (weight_in s) left) (weigh_simple (weight_in s) right) r p g.0 g.1)

  simple_print : (s : Scene) (n : ℕ) (x : tree.Simple) → When (judge_simple s n x).value (TypingPrints (weigh_simple (weight_in s) x))
  simple_print s n (tree.simple k None first tree.no_term) =
      when_weaker (first_tally_of _ (term_print s n (first_add None tree.no_term) first))
      (λ t g. typing_up (weigh_term (weight_in s) first) (weigh_term (weight_in s) first + 0) (omega arith) g)
  simple_print s n (tree.simple k None first (tree.more_term o t rest)) =
      chain_prints s ir.Or or_joins alone None (any_or (tree.more_term o t rest)) (weigh_term (weight_in s) first)
      (weigh_terms (weight_in s) (tree.more_term o t rest)) _
      (when_both (term_print s n (first_add None (tree.more_term o t rest)) first)
      (terms_print s _ (first_add None (tree.more_term o t rest)).sort (tree.more_term o t rest)))
  simple_print s n (tree.simple k (Some sign) first tree.no_term) =
      chain_prints s ir.Or or_joins alone (Some sign) (any_or tree.no_term) (weigh_term (weight_in s) first) 0 _
      (when_both (term_print s n (first_add (Some sign) tree.no_term) first)
      (terms_print s (judge_term s n (first_add (Some sign) tree.no_term) first).next (first_add (Some sign) tree.no_term).sort
      tree.no_term))
  simple_print s n (tree.simple k (Some sign) first (tree.more_term o t rest)) =
      chain_prints s ir.Or or_joins alone (Some sign) (any_or (tree.more_term o t rest)) (weigh_term (weight_in s) first)
      (weigh_terms (weight_in s) (tree.more_term o t rest)) _
      (when_both (term_print s n (first_add (Some sign) (tree.more_term o t rest)) first)
      (terms_print s _ (first_add (Some sign) (tree.more_term o t rest)).sort (tree.more_term o t rest)))

  terms_print : (s : Scene) (n : ℕ) (sort : Bool) (x : tree.TermTail)
      → When (judge_terms s n sort x).value (OperandsPrint (weigh_terms (weight_in s) x))
  terms_print s n sort tree.no_term = when_some _ operands_none
  terms_print s n sort (tree.more_term o t rest) =
      when_map {P = λ p. TypingPrints (weigh_term (weight_in s) t) p.0 × OperandsPrint (weigh_terms (weight_in s) rest) p.1}
      (cons_operand (add_operator o))
      (when_both (term_print s n (operand_behind sort (add_operator o)) t) (terms_print s _ sort rest))
      (λ p g. operands_more (add_operator o) (weigh_term (weight_in s) t) (weigh_terms (weight_in s) rest) p g.0 g.1)

  term_print : (s : Scene) (n : ℕ) (o : Operand) (x : tree.Term)
      → When (judge_term s n o x).value (TypingPrints (weigh_term (weight_in s) x))
  term_print s n o (tree.term k first tree.no_factor) =
      when_node (operand_rules s o) _ (first_tally_of _ (factor_print s n alone first))
      (λ t g q. typing_up (weigh_factor (weight_in s) first) (weigh_factor (weight_in s) first + 0) (omega arith) g)
  term_print s n o (tree.term k first (tree.more_factor m f rest)) =
      chain_prints s ir.And and_joins o None (any_and (tree.more_factor m f rest)) (weigh_factor (weight_in s) first)
      (weigh_factors (weight_in s) (tree.more_factor m f rest)) _
      (when_both (factor_print s n (first_mul (tree.more_factor m f rest)) first)
      (factors_print s _ (first_mul (tree.more_factor m f rest)).sort (tree.more_factor m f rest)))

  factors_print : (s : Scene) (n : ℕ) (sort : Bool) (x : tree.FactorTail)
      → When (judge_factors s n sort x).value (OperandsPrint (weigh_factors (weight_in s) x))
  factors_print s n sort tree.no_factor = when_some _ operands_none
  factors_print s n sort (tree.more_factor o f rest) =
      when_map {P = λ p. TypingPrints (weigh_factor (weight_in s) f) p.0 × OperandsPrint (weigh_factors (weight_in s) rest) p.1}
      (cons_operand (mul_operator o))
      (when_both (factor_print s n (operand_behind sort (mul_operator o)) f) (factors_print s _ sort rest))
      (λ p g. operands_more (mul_operator o) (weigh_factor (weight_in s) f) (weigh_factors (weight_in s) rest) p g.0 g.1)

  factor_print : (s : Scene) (n : ℕ) (o : Operand) (x : tree.Factor)
      → When (judge_factor s n o x).value (TypingPrints (weigh_factor (weight_in s) x))
  factor_print s n o (tree.not_factor k p) =
      when_node (not_rules s o) _ (when_map {P = TypingPrints (weigh_primary (weight_in s) p)} not_typing
      (when_node (test_rules s) _ (primary_print (inside_of s) n p) (λ t g q. g)) (λ t g. not_prints t g))
      (λ t g q. g)
  factor_print s n o (tree.factor k p) = when_node (operand_rules s o) _ (primary_print s n p) (λ t g q. g)

  primary_print : (s : Scene) (n : ℕ) (x : tree.Primary) → When (judge_primary s n x).value (TypingPrints (weigh_primary (weight_in s) x))
  primary_print s n (tree.number k t) = when_some _ (constant_prints 0 _ _ _)
  primary_print s n (tree.literal k t) = when_node (literal_rules s (literal_at s t)) _
      (when_some {P = TypingPrints (weight_in s t)} _ (constant_prints (weight_in s t) _ _ _)) (λ x g q. g)
  primary_print s n (tree.named k d tree.no_args) =
      when_then {P = DenotedPrints (weigh_desig (weight_in s) d)} typing_in (desig_print s n as_value d)
      (λ x g. when_weaker (typing_prints (weigh_desig (weight_in s) d) x g)
      (λ t h. typing_up (weigh_desig (weight_in s) d) (weigh_desig (weight_in s) d + 0) (omega arith) h))
  primary_print s n (tree.named k d tree.empty_args) =
      called_prints s (weigh_desig (weight_in s) d) 0 0 (option_and_then callee_in (judge_desig s n as_procedure d).value) (Some ir.no_args)
      (when_some ir.no_args (args_none 0))
  primary_print s n (tree.named k d (tree.args items)) =
      called_prints s (weigh_desig (weight_in s) d) (weigh_exprs (weight_in s) items) (argument_count items)
      (option_and_then callee_in (judge_desig s n as_procedure d).value) _ (arguments_print s _ _ items)
  primary_print s n (tree.paren k body) = paren_prints s k (weigh_stmts (weight_in s) body) (judge_only s n body)
      (judge_stmts (inside_of s) n body) (only_print s n body) (stmts_print (inside_of s) n body)
  primary_print s n (tree.known k d) = when_map {P = LocatedPrints (weigh_desig (weight_in s) d)} known_typing
      (when_node (known_rules s) _ (place_prints (weigh_desig (weight_in s) d) _ (desig_print s n as_variable d)) (λ l g q. g))
      (λ l g. known_prints l g)
  primary_print s n (tree.ord k e) = when_map {P = TypingPrints (weigh_expr (weight_in s) e)} ord_typing
      (when_node (simple_rules s) _ (expr_print s n e) (λ t g q. g)) (λ t g. ord_prints t g)
  primary_print s n (tree.chr k e) = when_map {P = TypingPrints (weigh_expr (weight_in s) e)} chr_typing
      (when_node (chr_rules s) _ (expr_print s n e) (λ t g q. g)) (λ t g. chr_prints t g)

  only_print : (s : Scene) (n : ℕ) (x : tree.Stmts) → OnlyPrints (weigh_stmts (weight_in s) x) (judge_only s n x)
  only_print s n (tree.stmts k x rest) = only_case (weight_in s) (weigh_stmt (weight_in s) x) rest (judge_value s n x) (value_print s n x)

  value_print : (s : Scene) (n : ℕ) (x : tree.Stmt) → OnlyPrints (weigh_stmt (weight_in s) x) (judge_value s n x)
  value_print s n (tree.value k e) = expr_print s n e
  value_print s n x = tt

  arguments_print : (s : Scene) (n : ℕ) (fs : List FormalOf) (x : tree.Exprs)
      → When (judge_arguments s n fs x).value (λ y. Prints (weigh_exprs (weight_in s) x) (args_phrases y))
  arguments_print s n fs (tree.exprs e rest) =
      arguments_when (weigh_expr (weight_in s) e) (weigh_expr_tail (weight_in s) rest) _
      (when_both (argument_when s (weigh_expr (weight_in s) e) (slice_get fs 0) e _ (expr_print s n e)) (argument_tail_print s _ _ rest))

  argument_tail_print : (s : Scene) (n : ℕ) (fs : List FormalOf) (x : tree.ExprTail)
      → When (judge_argument_tail s n fs x).value (λ y. Prints (weigh_expr_tail (weight_in s) x) (args_phrases y))
  argument_tail_print s n fs tree.no_expr = when_some _ (args_none 0)
  argument_tail_print s n fs (tree.more_expr e rest) =
      arguments_when (weigh_expr (weight_in s) e) (weigh_expr_tail (weight_in s) rest) _
      (when_both (argument_when s (weigh_expr (weight_in s) e) (slice_get fs 0) e _ (expr_print s n e)) (argument_tail_print s _ _ rest))

  -- designators

  desig_print : (s : Scene) (n : ℕ) (w : Use) (x : tree.Desig)
      → When (judge_desig s n w x).value (DenotedPrints (weigh_desig (weight_in s) x))
  desig_print s n w (tree.desig k name more) =
      when_node (desig_rules s w (is_selected more) (found s name)) _
      (selectors_print s 0 (judge_name s n name) more (name_prints s (found s name)))
      (λ d g q. denoted_up (0 + weigh_selectors (weight_in s) more) (weigh_selectors (weight_in s) more) (omega arith) g)

  selectors_print : (s : Scene) (m : ℕ) (d : Judgement Denotation) (x : tree.SelectorTail) → When d.value (DenotedPrints m)
      → When (judge_selectors s d x).value (DenotedPrints (m + weigh_selectors (weight_in s) x))
  selectors_print s m d tree.no_selector h = when_weaker h (λ x g. denoted_up m (m + 0) (omega arith) g)
  selectors_print s m d (tree.more_selector x rest) h =
      when_weaker (selectors_print s (m + weigh_selector (weight_in s) x) (judge_selector s d x) rest (selector_print s m d x h))
      (λ y g. denoted_up ((m + weigh_selector (weight_in s) x) + weigh_selectors (weight_in s) rest)
      (m + (weigh_selector (weight_in s) x + weigh_selectors (weight_in s) rest)) (omega arith) g)

  selector_print : (s : Scene) (m : ℕ) (d : Judgement Denotation) (x : tree.Selector) → When d.value (DenotedPrints m)
      → When (judge_selector s d x).value (DenotedPrints (m + weigh_selector (weight_in s) x))
  selector_print s m d (tree.field k name) h =
      when_then {P = DenotedPrints m} (select_field s (text_at s name.token))
      (when_node (field_rules s (text_at s name.token)) d.value h (λ x g q. g))
      (λ x g. when_weaker (field_prints s m (text_at s name.token) x g) (λ y k. denoted_up m (m + 0) (omega arith) k))
  selector_print s m d (tree.index k items) h =
      when_node array_rules (judge_indices s d items).value (indices_print s m d items h) (λ x g q. g)

  indices_print : (s : Scene) (m : ℕ) (d : Judgement Denotation) (x : tree.Exprs) → When d.value (DenotedPrints m)
      → When (judge_indices s d x).value (DenotedPrints (m + weigh_exprs (weight_in s) x))
  indices_print s m d (tree.exprs e rest) h =
      when_weaker (index_tail_print s (m + weigh_expr (weight_in s) e) (index_at s d (tree.expr_node e) (judge_expr s d.next e)) rest
      (index_prints s m (weigh_expr (weight_in s) e) d.value _ h
      (when_node (index_rules s d.value) _ (expr_print s d.next e) (λ t g q. g))))
      (λ y g. denoted_up ((m + weigh_expr (weight_in s) e) + weigh_expr_tail (weight_in s) rest)
      (m + (weigh_expr (weight_in s) e + weigh_expr_tail (weight_in s) rest)) (omega arith) g)

  index_tail_print : (s : Scene) (m : ℕ) (d : Judgement Denotation) (x : tree.ExprTail) → When d.value (DenotedPrints m)
      → When (judge_index_tail s d x).value (DenotedPrints (m + weigh_expr_tail (weight_in s) x))
  index_tail_print s m d tree.no_expr h = when_weaker h (λ x g. denoted_up m (m + 0) (omega arith) g)
  index_tail_print s m d (tree.more_expr e rest) h =
      when_weaker (index_tail_print s (m + weigh_expr (weight_in s) e) (index_at s d (tree.expr_node e) (judge_expr s d.next e)) rest
      (index_prints s m (weigh_expr (weight_in s) e) d.value _ h
      (when_node (index_rules s d.value) _ (expr_print s d.next e) (λ t g q. g))))
      (λ y g. denoted_up ((m + weigh_expr (weight_in s) e) + weigh_expr_tail (weight_in s) rest)
      (m + (weigh_expr (weight_in s) e + weigh_expr_tail (weight_in s) rest)) (omega arith) g)
