-- The walk: what is judged in a scene that fits a place of a program fits it.
use Rattle.std.proofs.Common.{◌≡◌, ℕ, ◌+◌, ◌≤◌, ℤ, pos, Bool, true, false, List, [], ◌∷◌, length, Option, None, Some, refl, ◌∙◌, subst}
use Rattle.std.proofs.Common.{arith}
use Rattle.std.specs.Prelude.{option_map, option_and_then}
use Rattle.alma_base.specs.declared.fault.CheckFault.TheVariants as fault
use Rattle.alma_tree.specs.declared.leaf.Sign.{Sign}
use Rattle.alma_ir.specs.declared.program.Param.{Param}
use Rattle.alma_ir.specs.Tree as ir
use Rattle.alma_ir.specs.Phrases.{ExprPhrase, expr_phrases, stmts_phrases, stmt_phrases, arms_phrases, else_phrases, branches_phrases}
use Rattle.alma_ir.specs.Phrases.{args_phrases}
use Rattle.alma_ir.specs.Checked.{ArgsFit}
use Rattle.alma_rules.specs.Numbered as tree
use Rattle.alma_rules.specs.Judgement.{Judgement, unless, both, when}
use Rattle.alma_rules.specs.Scene.{Scene, FormalOf, Found, found, inside_of, text_at, literal_at, is_structured, has_integer}
use Rattle.alma_rules.specs.Parts.{plain, a_test, Typing, value_of, Location, Denotation, located_in, typing_in, callee_in, Callee}
use Rattle.alma_rules.specs.Parts.{argument_of}
use Rattle.alma_rules.specs.Parts.{add_operator, mul_operator, Operands, joined_stmts, Span, select_field, boolean_typing, without_place}
use Rattle.alma_rules.specs.Parts.{desig_of}
use Rattle.alma_rules.specs.ExprRules.{Use, as_variable, as_value, as_procedure, desig_rules, field_rules, array_rules, Operand, alone}
use Rattle.alma_rules.specs.ExprRules.{not_rules, literal_rules, simple_rules, known_rules, chr_rules, test_rules, argument_rules}
use Rattle.alma_rules.specs.ExprRules.{argument_kind, sequence_rules, structured, structured_place, no_integer, no_constant, not_variable}
use Rattle.alma_rules.specs.ExprRules.{not_procedure, Argument}
use Rattle.alma_rules.specs.Nodes.{judge_name, is_selected, index_at, known_typing, ord_typing, chr_typing, formals_of, argument_count}
use Rattle.alma_rules.specs.Nodes.{expr_count, cons_arg, cons_operand, operand_behind, first_add, first_mul, sum_at, product_at, any_or}
use Rattle.alma_rules.specs.Nodes.{any_and, if_of, arms_of, arm_of, with_line, item_literal, in_parens, as_sequence, or_sequence, only_of}
use Rattle.alma_rules.specs.Walk.{judge_stmts, judge_stmt_tail, judge_stmt, judge_elsifs, judge_else, judge_by, judge_arm, judge_arm_tail}
use Rattle.alma_rules.specs.Walk.{judge_label, judge_high, judge_labels, judge_case_else, judge_orelses, judge_returned, judge_reads}
use Rattle.alma_rules.specs.Walk.{judge_items, judge_item_tail, judge_line_items, judge_expr, judge_compared, judge_simple, judge_terms}
use Rattle.alma_rules.specs.Walk.{judge_term, judge_factors, judge_factor, judge_primary, judge_only, judge_value, judge_arguments}
use Rattle.alma_rules.specs.Walk.{judge_argument_tail, judge_desig, judge_selectors, judge_selector, judge_indices, judge_index_tail}
use Rattle.alma_resolved.specs.Fits.{Place, PhrasesFit}
use Rattle.alma_resolved.proofs.Fits.{laid_nil, laid_cons, laid_join, When, when_is, when_some, when_all, when_pair, when_map, when_then}
use Rattle.alma_resolved.proofs.Fits.{when_both, when_node, when_weaker}
use Rattle.alma_resolved.specs.Scenes.{FormalFits, FormalsFit, SceneFits}
use Rattle.alma_resolved.proofs.Scenes.{no_fault, no_fault_alone, no_faults_left, not_false, env_constant, env_inside, TypingFits}
use Rattle.alma_resolved.proofs.Scenes.{LocatedFits, value_laid, no_place_fits, base_simple, located_laid}
use Rattle.alma_resolved.proofs.ExprNodes.{typing_le, typing_wide, relation_fits, OperandsFit, no_operands, operands_fit, or_joins}
use Rattle.alma_resolved.proofs.ExprNodes.{and_joins, chain_fits, TermFits, term_simple, term_fits, not_fits, DenotedFits, flag, free}
use Rattle.alma_resolved.proofs.ExprNodes.{name_fits, field_fits, index_fits, located_fits, typing_fits, KindFits, ArgumentFits}
use Rattle.alma_resolved.proofs.ExprNodes.{argument_fits, callee_fits, ArgumentsFit, called_fits}
use Rattle.alma_resolved.proofs.StmtNodes.{joined_fit, no_stmts_fit, assign_fits, boolean_simple, condition_fits, loop_name_fits, step_fits}
use Rattle.alma_resolved.proofs.StmtNodes.{one_step, loop_fits, for_fits, some_fits, test_stmt, if_fits, arms_fit, while_fits, repeat_fits}
use Rattle.alma_resolved.proofs.StmtNodes.{either_fits, branches_fit, forall_fits, commit_fits, sequence_fits, no_arms_laid}
use Rattle.alma_resolved.proofs.StmtNodes.{no_branches_laid, no_else_laid, else_laid, line_fits, one_when, item_fits, ArmsFit, SpansFit}
use Rattle.alma_resolved.proofs.StmtNodes.{SpanFits, arms_when, no_arms_fit, arm_fits, label_fits, spans_when, case_fits, return_fits}
use Rattle.alma_resolved.proofs.StmtNodes.{bare_return_fits, read_fits}
use Rattle.alma_resolved.proofs.Exact.{kind_fits}

-- ---- nodes with their judged parts

sum_fits : {k : Place} {s : Scene} (e : SceneFits k s) (n j : ℕ) (sign : Option Sign) (rest : tree.TermTail) (a : Judgement Typing)
    (b : Judgement Operands) → When a.value (TermFits k s (first_add sign rest) n a.next)
    → When b.value (OperandsFit k s a.next b.next)
    → When (sum_at s j sign rest (both a b)).value (TypingFits k s n (sum_at s j sign rest (both a b)).next)
sum_fits {k} {s} e n j None tree.no_term a b h g =
    when_map (λ p. p.0) (when_both h g) (λ p x. typing_wide n b.next (omega arith) x.1.links.le x.0.typing)
sum_fits {k} {s} e n j None (tree.more_term o t rest) a b h g =
    when_weaker (chain_fits e ir.Or (or_joins k) alone None (any_or (tree.more_term o t rest)) _
    (when_both (when_weaker h (λ t g. (g.typing, g.joined refl))) g)) (λ t g. g.0)
sum_fits {k} {s} e n j (Some z) tree.no_term a b h g =
    when_weaker (chain_fits e ir.Or (or_joins k) alone (Some z) (any_or tree.no_term) _
    (when_both (when_weaker h (λ t g. (g.typing, g.signed refl))) g)) (λ t g. g.0)
sum_fits {k} {s} e n j (Some z) (tree.more_term o t rest) a b h g =
    when_weaker (chain_fits e ir.Or (or_joins k) alone (Some z) (any_or (tree.more_term o t rest)) _
    (when_both (when_weaker h (λ t g. (g.typing, g.joined refl))) g)) (λ t g. g.0)

product_fits : {k : Place} {s : Scene} (e : SceneFits k s) (n j : ℕ) (o : Operand) (rest : tree.FactorTail) (a : Judgement Typing)
    (b : Judgement Operands) → When a.value (TermFits k s (first_mul rest) n a.next)
    → When b.value (OperandsFit k s a.next b.next)
    → When (product_at s o j rest (both a b)).value (TermFits k s o n (product_at s o j rest (both a b)).next)
product_fits {k} {s} e n j o tree.no_factor a b h g =
    term_fits e o _ (when_map (λ p. p.0) (when_both h g) (λ p x. typing_wide n b.next (omega arith) x.1.links.le x.0.typing))
product_fits {k} {s} e n j o (tree.more_factor m f rest) a b h g =
    when_weaker (chain_fits e ir.And (and_joins k) o None (any_and (tree.more_factor m f rest)) _
    (when_both (when_weaker h (λ t g. (g.typing, g.joined refl))) g)) (λ t g. term_simple o g.0 g.1)

constant_fits : {k : Place} {s : Scene} (e : SceneFits k s) (n shape : ℕ) (v : ℤ) (o : Option ℤ) → is_structured s shape ≡ false
    → TypingFits k s n n (record { shape = shape; constant = o; meaning = plain (ir.Const v) })
unfolding expr_phrases
constant_fits {k} {s} e n shape v o simple =
    record { meaning = (laid_cons (ExprPhrase (ir.Const v)) tt (laid_nil k s.inside n n (omega arith)), simple) }

known_fits : {k : Place} {s : Scene} (e : SceneFits k s) {lo hi : ℕ} (v : Option Location) → When v (LocatedFits k s lo hi)
    → When (option_map known_typing (unless (known_rules s v) v)) (TypingFits k s lo hi)
unfolding expr_phrases
known_fits {k} {s} e {lo} {hi} v h = when_map {P = λ l. TypingFits k s lo hi (known_typing l)} known_typing
    (when_node (known_rules s) v h (λ l g q. made l g
    (no_fault_alone (structured_place s l) fault.TypeMismatch (no_fault s.constant fault.NotConst _ q).1))) (λ l g. g)
  where
    made : (l : Location) → LocatedFits k s lo hi l → is_structured s l.shape ≡ false → TypingFits k s lo hi (known_typing l)
    made l g simple = record {
      meaning = (
        laid_cons (ExprPhrase (ir.Known (desig_of l))) (g.left ∙ e.table.simple l.shape simple) (located_laid g),
        e.table.firsts 2 (omega arith),
      );
    }

ord_fits : {k : Place} {s : Scene} (e : SceneFits k s) {lo hi : ℕ} (v : Option Typing) → When v (TypingFits k s lo hi)
    → When (option_map ord_typing (unless (simple_rules s v) v)) (TypingFits k s lo hi)
ord_fits {k} {s} e {lo} {hi} v h =
    when_map {P = λ t. TypingFits k s lo hi (ord_typing t)} ord_typing
    (when_node (simple_rules s) v h (λ t g q.
    record { meaning = (value_laid e (no_fault_alone (structured s t) fault.TypeMismatch q) g, e.table.firsts 0 (omega arith)) }))
    (λ t g. g)

chr_fits : {k : Place} {s : Scene} (e : SceneFits k s) {lo hi : ℕ} (v : Option Typing) → When v (TypingFits k s lo hi)
    → When (option_map chr_typing (unless (chr_rules s v) v)) (TypingFits k s lo hi)
unfolding expr_phrases
chr_fits {k} {s} e {lo} {hi} v h =
    when_map {P = λ t. TypingFits k s lo hi (chr_typing t)} chr_typing
    (when_node (chr_rules s) v h (λ t g q. made t g
    (base_simple e t.shape 0 (omega arith) (not_false (has_integer s t.shape) (no_fault (no_integer s t) fault.TypeMismatch _ q).0))))
    (λ t g. g)
  where
    made : (t : Typing) → TypingFits k s lo hi t → is_structured s t.shape ≡ false → TypingFits k s lo hi (chr_typing t)
    made t g simple = record {
      meaning =
          (laid_cons (ExprPhrase (ir.Chr (value_of t.meaning))) tt (value_laid e simple g), e.table.firsts 1 (omega arith));
    }

abbrev OnlyFits : Place → Scene → ℕ → Option (Judgement Typing) → Type 0
OnlyFits k s n None = Unit {0}
OnlyFits k s n (Some j) = When j.value (TypingFits k s n j.next)

paren_fits : {k : Place} {s : Scene} (e : SceneFits k s) (n j : ℕ) (o : Option (Judgement Typing)) (b : Judgement ir.Stmts)
    → OnlyFits k s n o
    → When b.value (λ x. PhrasesFit k true n b.next (stmts_phrases x))
    → When (or_sequence o (in_parens s j) (λ u. as_sequence s j b)).value
    (TypingFits k s n (or_sequence o (in_parens s j) (λ u. as_sequence s j b)).next)
paren_fits {k} {s} e n j None b h g =
    when_map {P = λ x. PhrasesFit k true n b.next (stmts_phrases x)} (λ body. boolean_typing (a_test (ir.Seq body)))
    (when_node (sequence_rules s) b.value g (λ x y q. y))
    (λ x y. record { meaning = (sequence_fits s.inside x y, e.table.firsts 2 (omega arith)) })
paren_fits {k} {s} e n j (Some i) b h g =
    when_map {P = λ t. TypingFits k s n i.next t × (is_structured s t.shape ≡ false)} without_place
    (when_node (simple_rules s) i.value h (λ t y q. (y, no_fault_alone (structured s t) fault.TypeMismatch q)))
    (λ t y. record { meaning = no_place_fits k s e n i.next t.shape t.meaning y.1 y.0.meaning })

only_fits : (k : Place) (s : Scene) (n : ℕ) (rest : tree.StmtTail) (o : Option (Judgement Typing)) → OnlyFits k s n o
    → OnlyFits k s n (only_of rest o)
only_fits k s n tree.no_stmt None h = h
only_fits k s n tree.no_stmt (Some j) h = h
only_fits k s n (tree.more_stmt x rest) o h = tt

no_arguments : {k : Place} (s : Scene) (n : ℕ) (fs : List FormalOf) → ArgumentsFit k s n n 0 fs ir.no_args
unfolding expr_phrases
no_arguments {k} s n [] = record { are = λ qs h c. by qs h }
  where
    by : (qs : List Param) → FormalsFit s [] qs → PhrasesFit k s.inside n n (args_phrases ir.no_args) × ArgsFit qs ir.no_args
    by [] h = (laid_nil k s.inside n n (omega arith), tt)
    by (q ∷ qs) h = absurd h
no_arguments {k} s n (f ∷ fs) = record { are = λ qs h c. absurd (cc) }

-- an argument with its formal, for each parameter that the formal makes
abbrev FitsAny : Place → Scene → (lo hi : ℕ) → FormalOf → ir.Arg → Type 0
FitsAny k s lo hi f a = (q : Param) → FormalFits s f q → ArgumentFits k s lo hi q a

one_argument : {k : Place} {s : Scene} (e : SceneFits k s) {lo hi : ℕ} (f : FormalOf) (kind : Argument) (v : Option Typing)
    → When v (TypingFits k s lo hi) → When v (λ t. KindFits kind t.meaning)
    → When (option_map (argument_of s (Some f)) (unless (argument_rules s (Some f) kind v) v)) (FitsAny k s lo hi f)
one_argument {k} {s} e {lo} {hi} f kind v h g =
    when_all (option_map (argument_of s (Some f)) (unless (argument_rules s (Some f) kind v) v))
    (λ a i q fits. when_is a i (argument_fits e f q fits kind v (when_pair h g)))

more_arguments : {k : Place} {s : Scene} {lo mid hi : ℕ} (count : ℕ) (f : FormalOf) (fs : List FormalOf) (p : ir.Arg × ir.Args)
    → FitsAny k s lo mid f p.0 → ArgumentsFit k s mid hi count fs p.1 → ArgumentsFit k s lo hi (1 + count) (f ∷ fs) (cons_arg p)
unfolding expr_phrases
more_arguments {k} {s} {lo} {mid} {hi} count f fs p h g = record { are = by }
  where
    by : (qs : List Param) → FormalsFit s (f ∷ fs) qs → 1 + count ≡ length (f ∷ fs)
        → PhrasesFit k s.inside lo hi (args_phrases (cons_arg p))
        × ArgsFit qs (cons_arg p)
    by [] x c = absurd x
    by (q ∷ qs) x c =
        let one = h q x.0 in
        let rest = g.are qs x.1 (omega (arith, c)) in
        (laid_join one.0 rest.0, (one.1, rest.1))

too_many : {k : Place} {s : Scene} {lo hi : ℕ} (count : ℕ) (v : Option ir.Args) → When v (ArgumentsFit k s lo hi (1 + count) [])
too_many count v = when_all v (λ a i. record { are = λ qs h c. absurd (omega (arith, c)) })

indexed_fits : {k : Place} {s : Scene} (e : SceneFits k s) {c : Bool} (lo : ℕ) (d : Judgement Denotation) (node : ℕ) (i : Judgement Typing)
    → When d.value (DenotedFits k s c lo d.next) → When i.value (TypingFits k s d.next i.next)
    → When (index_at s d node i).value (DenotedFits k s c lo (index_at s d node i).next)
indexed_fits e lo d node i h g = index_fits e d.value i.value h g

freed : {k : Place} {s : Scene} {lo hi : ℕ} (w : Use) (sel : Bool) (f : Found) (v : Option Denotation) (d : Denotation)
    → desig_rules s w sel f v ≡ [] → DenotedFits k s (flag w sel f) lo hi d → DenotedFits k s (free w) lo hi d
freed as_variable sel f v d q h = h
freed as_procedure sel f v d q h = h
freed {k} {s} {lo} {hi} as_value sel f v d q h =
    subst (λ c. DenotedFits k s c lo hi d) (no_fault_alone (not_variable as_value sel f) fault.NotVariable
    (no_fault (no_constant s sel f) fault.NotConst _ (no_faults_left _ (when (not_procedure as_value sel f) fault.NotProcedure) q)).1) h

place_of : {k : Place} {s : Scene} (n : ℕ) (x : tree.Desig)
    → When (judge_desig s n as_variable x).value (DenotedFits k s true n (judge_desig s n as_variable x).next)
    → When (option_and_then located_in (judge_desig s n as_variable x).value) (LocatedFits k s n (judge_desig s n as_variable x).next)
place_of n x h = when_then located_in h (λ d g. located_fits d g)

-- a call with arguments: the callee, its formals, and the arguments judged with them
abbrev callee_in_call : Scene → ℕ → tree.Desig → Option Callee
callee_in_call s n d = option_and_then callee_in (judge_desig s n as_procedure d).value

abbrev args_in_call : Scene → ℕ → tree.Desig → tree.Exprs → Judgement ir.Args
args_in_call s n d items = judge_arguments s (judge_desig s n as_procedure d).next (formals_of (callee_in_call s n d)) items

with_arguments : {k : Place} {s : Scene} (e : SceneFits k s) (n j : ℕ) (d : tree.Desig) (items : tree.Exprs)
    → When (judge_desig s n as_procedure d).value (DenotedFits k s true n (judge_desig s n as_procedure d).next)
    → When (args_in_call s n d items).value (ArgumentsFit k s (judge_desig s n as_procedure d).next (args_in_call s n d items).next
    (argument_count items) (formals_of (callee_in_call s n d)))
    → When (judge_primary s n (tree.named j d (tree.args items))).value
    (TypingFits k s n (judge_primary s n (tree.named j d (tree.args items))).next)
unfolding judge_expr
with_arguments {k} {s} e n j d items g h =
    called_fits e (callee_in_call s n d) (argument_count items) (args_in_call s n d items).value
    (when_then callee_in g (λ x y. callee_fits x y))
    (λ x i. subst (λ o. When (args_in_call s n d items).value
    (ArgumentsFit k s (judge_desig s n as_procedure d).next (args_in_call s n d items).next (argument_count items) (formals_of o))) i h)

-- ---- the walk

mutual
  unfolding judge_expr

  pub stmts_fit : {k : Place} {s : Scene} (e : SceneFits k s) (n : ℕ) (x : tree.Stmts)
      → When (judge_stmts s n x).value (λ y. PhrasesFit k s.inside n (judge_stmts s n x).next (stmts_phrases y))
  stmts_fit {k} {s} e n (tree.stmts j x rest) =
      when_map joined_stmts (when_both (stmt_fits e n x) (stmt_tail_fits e _ rest)) (λ p g. joined_fit p.0 p.1 g.0 g.1)

  stmt_tail_fits : {k : Place} {s : Scene} (e : SceneFits k s) (n : ℕ) (x : tree.StmtTail)
      → When (judge_stmt_tail s n x).value (λ y. PhrasesFit k s.inside n (judge_stmt_tail s n x).next (stmts_phrases y))
  stmt_tail_fits {k} {s} e n tree.no_stmt = when_some _ (no_stmts_fit k s.inside n)
  stmt_tail_fits {k} {s} e n (tree.more_stmt x rest) =
      when_map joined_stmts (when_both (stmt_fits e n x) (stmt_tail_fits e _ rest)) (λ p g. joined_fit p.0 p.1 g.0 g.1)

  stmt_fits : {k : Place} {s : Scene} (e : SceneFits k s) (n : ℕ) (x : tree.Stmt)
      → When (judge_stmt s n x).value (λ y. PhrasesFit k s.inside n (judge_stmt s n x).next (stmts_phrases y))
  stmt_fits {k} {s} e n (tree.nothing j) = when_some _ (no_stmts_fit k s.inside n)
  stmt_fits {k} {s} e n (tree.assign j d x) = assign_fits e _ (when_both (place_of n d (desig_fits e n as_variable d)) (expr_fits e _ x))
  stmt_fits {k} {s} e n (tree.value j x) = one_when (when_map ir.TestStmt (condition_fits e _ (expr_fits e n x)) (λ t g. test_stmt t g))
  stmt_fits {k} {s} e n (tree.if_stmt j x body elsifs other) =
      one_when (when_map if_of (when_both (condition_fits e _ (expr_fits e n x))
      (when_both (stmts_fit e _ body) (when_both (elsifs_fit e _ elsifs) (else_fits e _ other))))
      (λ p g. if_fits p g.0 g.1.0 g.1.1.0 g.1.1.1))
  stmt_fits {k} {s} e n (tree.while_stmt j x body) =
      one_when (when_map (λ p. ir.While p.0 p.1) (when_both (condition_fits e _ (expr_fits e n x)) (stmts_fit e _ body))
      (λ p g. while_fits p.0 p.1 g.0 g.1))
  stmt_fits {k} {s} e n (tree.repeat_stmt j body x) =
      one_when (when_map (λ p. ir.Repeat p.0 p.1) (when_both (stmts_fit e n body) (condition_fits e _ (expr_fits e _ x)))
      (λ p g. repeat_fits p.0 p.1 g.0 g.1))
  stmt_fits {k} {s} e n (tree.for_stmt j name low high by body) =
      one_when (when_map ir.ForTo (loop_fits e n _ _ _ _ _ _ _ _ _ (loop_name_fits e (n + 2) (found s name) (e.names name))
      (expr_fits e (n + 2) low) (expr_fits e _ high) (by_fits e _ by) (stmts_fit e _ body)) (λ l g. for_fits l g))
  stmt_fits {k} {s} e n (tree.some_stmt j name low high body) =
      one_when (when_map ir.SomeOf (loop_fits e n _ _ _ _ _ _ _ _ _ (loop_name_fits e (n + 2) (found s name) (e.names name))
      (expr_fits e (n + 2) low) (expr_fits e _ high) (when_some _ (one_step, omega arith)) (stmts_fit e _ body)) (λ l g. some_fits l g))
  stmt_fits {k} {s} e n (tree.case_stmt j x first rest other) =
      one_when (case_fits e _ _ (expr_fits e n x)
      (when_both (arms_when (arm_is e _ _ [] first) (arm_tail_is e _ _ _ rest)) (case_else_fits e _ other)))
  stmt_fits {k} {s} e n (tree.either_stmt j body rest) =
      one_when (when_map (λ p. ir.Either (ir.more_branches p.0 p.1)) (when_both (stmts_fit e n body) (orelses_fit e _ rest))
      (λ p g. either_fits p.0 p.1 g.0 g.1))
  stmt_fits {k} {s} e n (tree.forall_stmt j choice body) =
      one_when (when_map (λ p. ir.Forall p.0 p.1) (when_both (stmts_fit (env_inside k s e) n choice) (stmts_fit (env_inside k s e) _ body))
      (λ p g. forall_fits s.inside p.0 p.1 g.0 g.1))
  stmt_fits {k} {s} e n (tree.commit_stmt j body) =
      one_when (when_map ir.Commit (stmts_fit (env_inside k s e) n body) (λ x g. commit_fits s.inside x g))
  stmt_fits {k} {s} e n (tree.return_stmt j x) = one_when (returned_fits e n j x)
  stmt_fits {k} {s} e n (tree.read_stmt j d rest) =
      when_map joined_stmts (when_both (read_fits e _ (place_of n d (desig_fits e n as_variable d))) (reads_fit e _ rest))
      (λ p g. joined_fit p.0 p.1 g.0 g.1)
  stmt_fits {k} {s} e n (tree.write_stmt j items) = items_fit e n items
  stmt_fits {k} {s} e n (tree.writeln_stmt j items) = when_map with_line (line_items_fit e n items) (λ x g. line_fits x g)

  elsifs_fit : {k : Place} {s : Scene} (e : SceneFits k s) (n : ℕ) (x : tree.ElsifTail)
      → When (judge_elsifs s n x).value (λ y. PhrasesFit k s.inside n (judge_elsifs s n x).next (arms_phrases y))
  elsifs_fit {k} {s} e n tree.no_elsif = when_some _ (no_arms_laid k s.inside n)
  elsifs_fit {k} {s} e n (tree.more_elsif x body rest) =
      when_map arms_of (when_both (condition_fits e _ (expr_fits e n x)) (when_both (stmts_fit e _ body) (elsifs_fit e _ rest)))
      (λ p g. arms_fit p g.0 g.1.0 g.1.1)

  else_fits : {k : Place} {s : Scene} (e : SceneFits k s) (n : ℕ) (x : tree.Else)
      → When (judge_else s n x).value (λ y. PhrasesFit k s.inside n (judge_else s n x).next (stmts_phrases y))
  else_fits {k} {s} e n tree.no_else = when_some _ (no_stmts_fit k s.inside n)
  else_fits {k} {s} e n (tree.else_stmts body) = stmts_fit e n body

  by_fits : {k : Place} {s : Scene} (e : SceneFits k s) (n : ℕ) (x : tree.By)
      → When (judge_by s n x).value (λ z. (z ≡ pos 0 → ⊥) × (n ≤ (judge_by s n x).next))
  by_fits {k} {s} e n tree.no_by = when_some _ (one_step, omega arith)
  by_fits {k} {s} e n (tree.by_expr x) = step_fits _ (expr_fits (env_constant k s e) n x)

  arm_is : {k : Place} {s : Scene} (e : SceneFits k s) (n : ℕ) (case : Option Typing) (earlier : List Span) (x : tree.Arm)
      → When (judge_arm s n case earlier x).arm.value (ArmsFit k s case n (judge_arm s n case earlier x).arm.next)
  arm_is {k} {s} e n case earlier (tree.empty_arm j) = when_some _ (no_arms_fit k s case n)
  arm_is {k} {s} e n case earlier (tree.arm j first rest body) =
      when_map arm_of (when_both (spans_when (label_is e n case earlier first) (labels_are e _ case _ rest)) (stmts_fit e _ body))
      (λ p g. arm_fits p g.0 g.1)

  arm_tail_is : {k : Place} {s : Scene} (e : SceneFits k s) (n : ℕ) (case : Option Typing) (earlier : List Span) (x : tree.ArmTail)
      → When (judge_arm_tail s n case earlier x).value (ArmsFit k s case n (judge_arm_tail s n case earlier x).next)
  arm_tail_is {k} {s} e n case earlier tree.no_arm = when_some _ (no_arms_fit k s case n)
  arm_tail_is {k} {s} e n case earlier (tree.more_arm x rest) = arms_when (arm_is e n case earlier x) (arm_tail_is e _ case _ rest)

  label_is : {k : Place} {s : Scene} (e : SceneFits k s) (n : ℕ) (case : Option Typing) (earlier : List Span) (x : tree.Label)
      → When (judge_label s n case earlier x).value (SpanFits s case n (judge_label s n case earlier x).next)
  label_is {k} {s} e n case earlier (tree.label j low high) =
      label_fits e case earlier _ _ (when_weaker (expr_fits (env_constant k s e) n low) (λ t g. typing_le g))
      (high_is (env_constant k s e) _ _ high)

  high_is : {k : Place} {s : Scene} (e : SceneFits k s) (n : ℕ) (low : Option Typing) (x : tree.High)
      → When (judge_high s n low x).value (λ t. n ≤ (judge_high s n low x).next)
  high_is {k} {s} e n low tree.no_high = when_all low (λ t i. omega arith)
  high_is {k} {s} e n low (tree.high_expr x) = when_weaker (expr_fits e n x) (λ t g. typing_le g)

  labels_are : {k : Place} {s : Scene} (e : SceneFits k s) (n : ℕ) (case : Option Typing) (earlier : List Span) (x : tree.LabelTail)
      → When (judge_labels s n case earlier x).value (SpansFit s case n (judge_labels s n case earlier x).next)
  labels_are {k} {s} e n case earlier tree.no_label = when_some _ (record { le = omega arith; ordered = λ c. tt })
  labels_are {k} {s} e n case earlier (tree.more_label x rest) = spans_when (label_is e n case earlier x) (labels_are e _ case _ rest)

  case_else_fits : {k : Place} {s : Scene} (e : SceneFits k s) (n : ℕ) (x : tree.Else)
      → When (judge_case_else s n x).value (λ y. PhrasesFit k s.inside n (judge_case_else s n x).next (else_phrases y))
  case_else_fits {k} {s} e n tree.no_else = when_some _ (no_else_laid k s.inside n)
  case_else_fits {k} {s} e n (tree.else_stmts body) = when_map ir.else_part (stmts_fit e n body) (λ x g. else_laid x g)

  orelses_fit : {k : Place} {s : Scene} (e : SceneFits k s) (n : ℕ) (x : tree.OrelseTail)
      → When (judge_orelses s n x).value (λ y. PhrasesFit k s.inside n (judge_orelses s n x).next (branches_phrases y))
  orelses_fit {k} {s} e n tree.no_orelse = when_some _ (no_branches_laid k s.inside n)
  orelses_fit {k} {s} e n (tree.more_orelse body rest) =
      when_map (λ p. ir.more_branches p.0 p.1) (when_both (stmts_fit e n body) (orelses_fit e _ rest)) (λ p g. branches_fit p.0 p.1 g.0 g.1)

  returned_fits : {k : Place} {s : Scene} (e : SceneFits k s) (n j : ℕ) (x : tree.Returned)
      → When (judge_returned s n j x).value (λ y. PhrasesFit k s.inside n (judge_returned s n j x).next (stmt_phrases y))
  returned_fits {k} {s} e n j tree.no_value = bare_return_fits e n _
  returned_fits {k} {s} e n j (tree.returned x) = return_fits e _ (expr_fits e n x)

  reads_fit : {k : Place} {s : Scene} (e : SceneFits k s) (n : ℕ) (x : tree.DesigTail)
      → When (judge_reads s n x).value (λ y. PhrasesFit k s.inside n (judge_reads s n x).next (stmts_phrases y))
  reads_fit {k} {s} e n tree.no_desig = when_some _ (no_stmts_fit k s.inside n)
  reads_fit {k} {s} e n (tree.more_desig d rest) =
      when_map joined_stmts (when_both (read_fits e _ (place_of n d (desig_fits e n as_variable d))) (reads_fit e _ rest))
      (λ p g. joined_fit p.0 p.1 g.0 g.1)

  items_fit : {k : Place} {s : Scene} (e : SceneFits k s) (n : ℕ) (x : tree.Exprs)
      → When (judge_items s n x).value (λ y. PhrasesFit k s.inside n (judge_items s n x).next (stmts_phrases y))
  items_fit {k} {s} e n (tree.exprs x rest) =
      when_map joined_stmts (when_both (item_fits e n (tree.expr_node x) (item_literal x) (judge_expr s n x) (expr_fits e n x))
      (item_tail_fits e _ rest)) (λ p g. joined_fit p.0 p.1 g.0 g.1)

  item_tail_fits : {k : Place} {s : Scene} (e : SceneFits k s) (n : ℕ) (x : tree.ExprTail)
      → When (judge_item_tail s n x).value (λ y. PhrasesFit k s.inside n (judge_item_tail s n x).next (stmts_phrases y))
  item_tail_fits {k} {s} e n tree.no_expr = when_some _ (no_stmts_fit k s.inside n)
  item_tail_fits {k} {s} e n (tree.more_expr x rest) =
      when_map joined_stmts (when_both (item_fits e n (tree.expr_node x) (item_literal x) (judge_expr s n x) (expr_fits e n x))
      (item_tail_fits e _ rest)) (λ p g. joined_fit p.0 p.1 g.0 g.1)

  line_items_fit : {k : Place} {s : Scene} (e : SceneFits k s) (n : ℕ) (x : tree.Args)
      → When (judge_line_items s n x).value (λ y. PhrasesFit k s.inside n (judge_line_items s n x).next (stmts_phrases y))
  line_items_fit {k} {s} e n tree.no_args = when_some _ (no_stmts_fit k s.inside n)
  line_items_fit {k} {s} e n tree.empty_args = when_some _ (no_stmts_fit k s.inside n)
  line_items_fit {k} {s} e n (tree.args items) = items_fit e n items

  -- ---- expressions

  expr_fits : {k : Place} {s : Scene} (e : SceneFits k s) (n : ℕ) (x : tree.Expr)
      → When (judge_expr s n x).value (TypingFits k s n (judge_expr s n x).next)
  expr_fits {k} {s} e n (tree.expr j left right) = compared_fits e n j (judge_simple s n left) right (simple_fit e n left)

  compared_fits : {k : Place} {s : Scene} (e : SceneFits k s) (n j : ℕ) (left : Judgement Typing) (x : tree.Compared)
      → When left.value (TypingFits k s n left.next)
      → When (judge_compared s j left x).value (TypingFits k s n (judge_compared s j left x).next)
  compared_fits {k} {s} e n j left tree.no_relation h = h
  compared_fits {k} {s} e n j left (tree.compared r right) h = relation_fits e r _ (when_both h (simple_fit e _ right))

  simple_fit : {k : Place} {s : Scene} (e : SceneFits k s) (n : ℕ) (x : tree.Simple)
      → When (judge_simple s n x).value (TypingFits k s n (judge_simple s n x).next)
  simple_fit {k} {s} e n (tree.simple j sign first rest) =
      sum_fits e n j sign rest (judge_term s n (first_add sign rest) first)
      (judge_terms s (judge_term s n (first_add sign rest) first).next (first_add sign rest).sort rest)
      (term_fit e n (first_add sign rest) first) (terms_fit e _ (first_add sign rest).sort rest)

  terms_fit : {k : Place} {s : Scene} (e : SceneFits k s) (n : ℕ) (sort : Bool) (x : tree.TermTail)
      → When (judge_terms s n sort x).value (OperandsFit k s n (judge_terms s n sort x).next)
  terms_fit {k} {s} e n sort tree.no_term = when_some _ (no_operands k s n)
  terms_fit {k} {s} e n sort (tree.more_term o t rest) =
      when_map (cons_operand (add_operator o)) (when_both (term_fit e n (operand_behind sort (add_operator o)) t) (terms_fit e _ sort rest))
      (λ p g. operands_fit e (add_operator o) p (g.0.joined refl) g.0.typing g.1)

  term_fit : {k : Place} {s : Scene} (e : SceneFits k s) (n : ℕ) (o : Operand) (x : tree.Term)
      → When (judge_term s n o x).value (TermFits k s o n (judge_term s n o x).next)
  term_fit {k} {s} e n o (tree.term j first rest) =
      product_fits e n j o rest (judge_factor s n (first_mul rest) first)
      (judge_factors s (judge_factor s n (first_mul rest) first).next (first_mul rest).sort rest) (factor_fit e n (first_mul rest) first)
      (factors_fit e _ (first_mul rest).sort rest)

  factors_fit : {k : Place} {s : Scene} (e : SceneFits k s) (n : ℕ) (sort : Bool) (x : tree.FactorTail)
      → When (judge_factors s n sort x).value (OperandsFit k s n (judge_factors s n sort x).next)
  factors_fit {k} {s} e n sort tree.no_factor = when_some _ (no_operands k s n)
  factors_fit {k} {s} e n sort (tree.more_factor o f rest) =
      when_map (cons_operand (mul_operator o))
      (when_both (factor_fit e n (operand_behind sort (mul_operator o)) f) (factors_fit e _ sort rest))
      (λ p g. operands_fit e (mul_operator o) p (g.0.joined refl) g.0.typing g.1)

  factor_fit : {k : Place} {s : Scene} (e : SceneFits k s) (n : ℕ) (o : Operand) (x : tree.Factor)
      → When (judge_factor s n o x).value (TermFits k s o n (judge_factor s n o x).next)
  factor_fit {k} {s} e n o (tree.not_factor j p) =
      not_fits e o _ (primary_fits (env_inside k s e) n p) (not_rules s o) (test_rules s) (λ t q. boolean_simple e t q)
  factor_fit {k} {s} e n o (tree.factor j p) = term_fits e o _ (primary_fits e n p)

  primary_fits : {k : Place} {s : Scene} (e : SceneFits k s) (n : ℕ) (x : tree.Primary)
      → When (judge_primary s n x).value (TypingFits k s n (judge_primary s n x).next)
  primary_fits {k} {s} e n (tree.number j t) = when_some _ (constant_fits e n 0 _ _ (e.table.firsts 0 (omega arith)))
  primary_fits {k} {s} e n (tree.literal j t) =
      when_node (literal_rules s (literal_at s t)) _ (when_some _ (constant_fits e n 1 _ _ (e.table.firsts 1 (omega arith)))) (λ x g q. g)
  primary_fits {k} {s} e n (tree.named j d tree.no_args) = when_then typing_in (desig_fits e n as_value d) (λ x g. typing_fits e x g)
  primary_fits {k} {s} e n (tree.named j d tree.empty_args) =
      called_fits e _ 0 _ (when_then callee_in (desig_fits e n as_procedure d) (λ x g. callee_fits x g))
      (λ x i. when_some _ (no_arguments s _ x.heading.formals))
  primary_fits {k} {s} e n (tree.named j d (tree.args items)) =
      with_arguments e n j d items (desig_fits e n as_procedure d) (arguments_fit e _ _ items)
  primary_fits {k} {s} e n (tree.paren j body) =
      paren_fits e n j (judge_only s n body) (judge_stmts (inside_of s) n body) (only_fit e n body) (stmts_fit (env_inside k s e) n body)
  primary_fits {k} {s} e n (tree.known j d) = known_fits e _ (place_of n d (desig_fits e n as_variable d))
  primary_fits {k} {s} e n (tree.ord j x) = ord_fits e _ (expr_fits e n x)
  primary_fits {k} {s} e n (tree.chr j x) = chr_fits e _ (expr_fits e n x)

  only_fit : {k : Place} {s : Scene} (e : SceneFits k s) (n : ℕ) (x : tree.Stmts) → OnlyFits k s n (judge_only s n x)
  only_fit {k} {s} e n (tree.stmts j x rest) = only_fits k s n rest (judge_value s n x) (value_fit e n x)

  value_fit : {k : Place} {s : Scene} (e : SceneFits k s) (n : ℕ) (x : tree.Stmt) → OnlyFits k s n (judge_value s n x)
  value_fit {k} {s} e n (tree.value j x) = expr_fits e n x
  value_fit {k} {s} e n x = tt

  arguments_fit : {k : Place} {s : Scene} (e : SceneFits k s) (n : ℕ) (fs : List FormalOf) (x : tree.Exprs)
      → When (judge_arguments s n fs x).value (ArgumentsFit k s n (judge_arguments s n fs x).next (argument_count x) fs)
  arguments_fit {k} {s} e n [] (tree.exprs x rest) = too_many (expr_count rest) _
  arguments_fit {k} {s} e n (f ∷ fs) (tree.exprs x rest) =
      when_map cons_arg (when_both (one_argument e f (argument_kind s x) _ (expr_fits e n x) (kind_fits s n x))
      (argument_tail_fits e _ fs rest)) (λ p g. more_arguments (expr_count rest) f fs p g.0 g.1)

  argument_tail_fits : {k : Place} {s : Scene} (e : SceneFits k s) (n : ℕ) (fs : List FormalOf) (x : tree.ExprTail)
      → When (judge_argument_tail s n fs x).value (ArgumentsFit k s n (judge_argument_tail s n fs x).next (expr_count x) fs)
  argument_tail_fits {k} {s} e n fs tree.no_expr = when_some _ (no_arguments s n fs)
  argument_tail_fits {k} {s} e n [] (tree.more_expr x rest) = too_many (expr_count rest) _
  argument_tail_fits {k} {s} e n (f ∷ fs) (tree.more_expr x rest) =
      when_map cons_arg (when_both (one_argument e f (argument_kind s x) _ (expr_fits e n x) (kind_fits s n x))
      (argument_tail_fits e _ fs rest)) (λ p g. more_arguments (expr_count rest) f fs p g.0 g.1)

  -- ---- designators

  desig_fits : {k : Place} {s : Scene} (e : SceneFits k s) (n : ℕ) (w : Use) (x : tree.Desig)
      → When (judge_desig s n w x).value (DenotedFits k s (free w) n (judge_desig s n w x).next)
  desig_fits {k} {s} e n w (tree.desig j name more) =
      when_node (desig_rules s w (is_selected more) (found s name)) _
      (selectors_fit e _ n (judge_name s n name) more (name_fits e n (is_selected more) w (found s name) (e.names name)))
      (λ d g q. freed w (is_selected more) (found s name) (Some d) d q g)

  selectors_fit : {k : Place} {s : Scene} (e : SceneFits k s) (c : Bool) (lo : ℕ) (d : Judgement Denotation) (x : tree.SelectorTail)
      → When d.value (DenotedFits k s c lo d.next) → When (judge_selectors s d x).value (DenotedFits k s c lo (judge_selectors s d x).next)
  selectors_fit {k} {s} e c lo d tree.no_selector h = h
  selectors_fit {k} {s} e c lo d (tree.more_selector x rest) h =
      selectors_fit e c lo (judge_selector s d x) rest (selector_fits e c lo d x h)

  selector_fits : {k : Place} {s : Scene} (e : SceneFits k s) (c : Bool) (lo : ℕ) (d : Judgement Denotation) (x : tree.Selector)
      → When d.value (DenotedFits k s c lo d.next) → When (judge_selector s d x).value (DenotedFits k s c lo (judge_selector s d x).next)
  selector_fits {k} {s} e c lo d (tree.field j name) h =
      when_then (select_field s (text_at s name.token)) (when_node (field_rules s (text_at s name.token)) d.value h (λ x g q. g))
      (λ x g. field_fits e (text_at s name.token) x g)
  selector_fits {k} {s} e c lo d (tree.index j items) h =
      when_node array_rules (judge_indices s d items).value (indices_fit e c lo d items h) (λ x g q. g)

  indices_fit : {k : Place} {s : Scene} (e : SceneFits k s) (c : Bool) (lo : ℕ) (d : Judgement Denotation) (x : tree.Exprs)
      → When d.value (DenotedFits k s c lo d.next) → When (judge_indices s d x).value (DenotedFits k s c lo (judge_indices s d x).next)
  indices_fit {k} {s} e c lo d (tree.exprs x rest) h =
      index_tail_fits e c lo (index_at s d (tree.expr_node x) (judge_expr s d.next x)) rest
      (indexed_fits e lo d (tree.expr_node x) (judge_expr s d.next x) h (expr_fits e d.next x))

  index_tail_fits : {k : Place} {s : Scene} (e : SceneFits k s) (c : Bool) (lo : ℕ) (d : Judgement Denotation) (x : tree.ExprTail)
      → When d.value (DenotedFits k s c lo d.next)
      → When (judge_index_tail s d x).value (DenotedFits k s c lo (judge_index_tail s d x).next)
  index_tail_fits {k} {s} e c lo d tree.no_expr h = h
  index_tail_fits {k} {s} e c lo d (tree.more_expr x rest) h =
      index_tail_fits e c lo (index_at s d (tree.expr_node x) (judge_expr s d.next x)) rest
      (indexed_fits e lo d (tree.expr_node x) (judge_expr s d.next x) h (expr_fits e d.next x))
