-- The walk: where no name is Bad and no rule is broken, each phrase has its resolved part.
use Rattle.std.proofs.Common.{◌≡◌, ℕ, List, [], ◌∷◌, ◌++◌, Bool, Option, None, Some, refl}
use Rattle.std.specs.Prelude.{true, false, ◌&&◌, not, is_some, option_map, option_and_then, ℤ, pos, nat_eq, length}
use Rattle.alma_base.specs.Choice.{if_true}
use Rattle.alma_base.specs.declared.fault.CheckFault.{CheckFault}
use Rattle.alma_base.specs.declared.fault.CheckFault.TheVariants as fault
use Rattle.alma_tree.specs.declared.leaf.Relation.{Relation}
use Rattle.alma_tree.specs.declared.leaf.Sign.{Sign}
use Rattle.alma_ir.specs.Tree as ir
use Rattle.alma_rules.specs.Numbered as tree
use Rattle.alma_rules.specs.Judgement.{Judgement, BrokenRule, at_node, broken_at, unless, both_of, both, with, with_some, when, fine}
use Rattle.alma_rules.specs.Scene.{Scene, FormalOf, Found, absent, bad, constant, named, variable, routine, found, in_constant, inside_of}
use Rattle.alma_rules.specs.Scene.{text_at, literal_at}
use Rattle.alma_rules.specs.Parts.{Typing, Location, Denotation, denotation, located_in, typing_in, callee_in, Callee, typing_of_call}
use Rattle.alma_rules.specs.Parts.{Operands, chain_value}
use Rattle.alma_rules.specs.Parts.{chain_typing, relation_typing, Span, span_of, span_from, select_field, without_place, boolean_typing}
use Rattle.alma_rules.specs.Parts.{a_test}
use Rattle.alma_rules.specs.Parts.{one_stmt, write_stmts}
use Rattle.alma_rules.specs.ExprRules.{as_variable, as_value, as_procedure, Operand, alone, chain_rules, not_rules, constant_rules}
use Rattle.alma_rules.specs.ExprRules.{call_rules, field_rules, array_rules, index_rules, relation_rules, literal_rules, simple_rules}
use Rattle.alma_rules.specs.ExprRules.{known_rules, chr_rules, test_rules}
use Rattle.alma_rules.specs.StmtRules.{loop_name_rules, write_rules}
use Rattle.alma_rules.specs.Nodes.{first_add, first_mul, index_at, literal_typing, in_parens, as_sequence, or_sequence, only_of}
use Rattle.alma_rules.specs.Nodes.{known_typing, ord_typing, chr_typing, not_typing, formals_of, argument_count, called_at, chain_at}
use Rattle.alma_rules.specs.Nodes.{any_or, any_and, sum_at, product_at, relation_at, constant_in, step_at, loop_variable, label_at}
use Rattle.alma_rules.specs.Nodes.{text_item, item_of, item_literal, text_rules}
use Rattle.alma_rules.specs.Walk.{judge_stmts, judge_stmt_tail, judge_stmt, judge_elsifs, judge_else, judge_by, judge_arm, judge_arm_tail}
use Rattle.alma_rules.specs.Walk.{judge_label, judge_high, judge_labels, judge_case_else, judge_orelses, judge_returned, judge_reads}
use Rattle.alma_rules.specs.Walk.{judge_items, judge_item_tail, judge_line_items, judge_expr, judge_compared, judge_simple, judge_terms}
use Rattle.alma_rules.specs.Walk.{judge_term, judge_factors, judge_factor, judge_primary, judge_only, judge_value, judge_arguments}
use Rattle.alma_rules.specs.Walk.{judge_argument_tail, judge_desig, judge_selectors, judge_selector, judge_indices, judge_index_tail}
use Rattle.alma_rules.proofs.Sound.{IsThere, IsKnown, NoBad, Sound, IsTyped, TypedExpr, typed_sound, typed_map, typed_keep, typed_unless}
use Rattle.alma_rules.proofs.Sound.{typed_node, sound_node, sound_both, sound_map, sound_fine, nil_left, nil_right, quiet, unless_there}
use Rattle.alma_rules.proofs.Sound.{when_left, when_alone, rules_left, rules_right, clash, both_there, IsVariable, IsPart, Variable, Part}
use Rattle.alma_rules.proofs.Sound.{field_there, index_there, array_there, unless_variable, located_at, valued_at, callee_at}

good_constant : (s : Scene) → NoBad s → NoBad (in_constant s)
good_constant s good name = go (found s name) (good name)
  where
    go : (f : Found) → IsKnown s f → IsKnown (in_constant s) f
    go absent k = k
    go bad k = k
    go (constant shape v) k = k
    go (named shape) k = k
    go (variable shape root) k = k
    go (routine r up None) k = refl
    go (routine r up (Some h)) k = k

good_inside : (s : Scene) → NoBad s → NoBad (inside_of s)
good_inside s good name = good name

-- ---- nodes of expressions

related_typed : (s : Scene) (k : ℕ) (r : Relation) (j : Judgement (Typing × Typing)) → Sound j.faults j.value
    → TypedExpr s (relation_at s k r j).faults (relation_at s k r j).value
unfolding Sound TypedExpr
related_typed s k r j p h =
    let q : relation_rules s r j.value ≡ [] = quiet k j.faults _ h in
    typed_map s (relation_typing s r) (relation_rules s r j.value) j.value q (when_left s.constant fault.NotConst _ q)
    (p (nil_left j.faults _ h))

fold_there : (c l : Bool) (o : Option ℤ) → c ≡ true → (c && l) ≡ false → (c && not l && not (is_some o)) ≡ false → IsThere o
fold_there c l (Some x) t a b = tt
fold_there true true None t a b = absurd (cc)
fold_there true false None t a b = absurd (cc)
fold_there false l None t a b = absurd (cc)

chain_typed : (s : Scene) (join : ir.Tests → ir.Test) (o : Operand) (k : ℕ) (sign : Option Sign) (l : Bool)
    (j : Judgement (Typing × Operands))
    → Sound j.faults j.value
    → TypedExpr s (chain_at s join o k sign l j).faults (chain_at s join o k sign l j).value
unfolding Sound TypedExpr
chain_typed s join o k sign l j p h =
    let q : chain_rules s join o sign l j.value ≡ [] = quiet k j.faults _ h in
    go j.value q (p (nil_left j.faults _ h))
  where
    given : (fs : List CheckFault) (v : Typing × Operands) → fs ≡ [] → (s.constant ≡ true → IsThere (chain_value sign v))
        → IsTyped s (option_map (chain_typing join sign) (unless fs (Some v)))
    given [] v e t = t
    given (f ∷ fs) v e t = absurd (cc)

    go : (v : Option (Typing × Operands)) → chain_rules s join o sign l v ≡ [] → IsThere v
        → IsTyped s (option_map (chain_typing join sign) (unless (chain_rules s join o sign l v) v))
    go None q t = absurd t
    go (Some v) q t =
        given (chain_rules s join o sign l (Some v)) v q (λ c. fold_there s.constant l (chain_value sign v) c
        (when_left (s.constant && l) fault.NotConst _ (rules_left _ _ q))
        (when_alone (s.constant && not l && not (is_some (chain_value sign v))) fault.ConstRange (rules_right _ _ q)))

alone_typed : (s : Scene) (v : Option Typing) (w : Option Operands) → IsTyped s v → IsThere w
    → IsTyped s (option_map (λ p. p.0) (both_of v w))
alone_typed s None w t u = t
alone_typed s (Some x) None t u = absurd u
alone_typed s (Some x) (Some y) t u = t

sum_typed : (s : Scene) (k : ℕ) (sign : Option Sign) (rest : tree.TermTail) (a : Judgement Typing) (b : Judgement Operands)
    → TypedExpr s a.faults a.value → Sound b.faults b.value
    → TypedExpr s (sum_at s k sign rest (both a b)).faults (sum_at s k sign rest (both a b)).value
unfolding Sound TypedExpr
sum_typed s k None tree.no_term a b p q h =
    alone_typed s a.value b.value (p (nil_left a.faults b.faults h)) (q (nil_right a.faults b.faults h))
sum_typed s k None (tree.more_term o t rest) a b p q h =
    chain_typed s ir.Or alone k None (any_or (tree.more_term o t rest)) (both a b)
    (sound_both a.faults b.faults a.value b.value (typed_sound s a.faults a.value p) q) h
sum_typed s k (Some g) tree.no_term a b p q h =
    chain_typed s ir.Or alone k (Some g) (any_or tree.no_term) (both a b)
    (sound_both a.faults b.faults a.value b.value (typed_sound s a.faults a.value p) q) h
sum_typed s k (Some g) (tree.more_term o t rest) a b p q h =
    chain_typed s ir.Or alone k (Some g) (any_or (tree.more_term o t rest)) (both a b)
    (sound_both a.faults b.faults a.value b.value (typed_sound s a.faults a.value p) q) h

product_typed : (s : Scene) (o : Operand) (k : ℕ) (rest : tree.FactorTail) (a : Judgement Typing) (b : Judgement Operands)
    → TypedExpr s a.faults a.value → Sound b.faults b.value
    → TypedExpr s (product_at s o k rest (both a b)).faults (product_at s o k rest (both a b)).value
unfolding Sound TypedExpr
product_typed s o k tree.no_factor a b p q h =
    let e : a.faults ++ b.faults ≡ [] = nil_left (a.faults ++ b.faults) _ h in
    typed_unless s _ _ (quiet k (a.faults ++ b.faults) _ h)
    (alone_typed s a.value b.value (p (nil_left a.faults b.faults e)) (q (nil_right a.faults b.faults e)))
product_typed s o k (tree.more_factor m t rest) a b p q h =
    chain_typed s ir.And o k None (any_and (tree.more_factor m t rest)) (both a b)
    (sound_both a.faults b.faults a.value b.value (typed_sound s a.faults a.value p) q) h

negated_typed : (s : Scene) (o : Operand) (k n : ℕ) (j : Judgement Typing) → Sound j.faults j.value
    → TypedExpr s (at_node k (not_rules s o) (with not_typing (at_node n (test_rules s) j))).faults
    (at_node k (not_rules s o) (with not_typing (at_node n (test_rules s) j))).value
unfolding TypedExpr Sound
negated_typed s o k n j p h =
    let i : j.faults ++ broken_at n (test_rules s j.value) ≡ [] = nil_left _ _ h in
    let q : not_rules s o (option_map not_typing (unless (test_rules s j.value) j.value)) ≡ [] =
    quiet k (j.faults ++ broken_at n (test_rules s j.value)) _ h in
    typed_unless s _ _ q (typed_map s not_typing (test_rules s j.value) j.value (quiet n j.faults _ i)
    (when_left s.constant fault.NotConst _ q)
    (p (nil_left j.faults _ i)))

called_typed : (s : Scene) (k : ℕ) (c : Judgement Callee) (count : ℕ) (args : Judgement ir.Args) → Sound c.faults c.value
    → Sound args.faults args.value → TypedExpr s (called_at s k c count args).faults (called_at s k c count args).value
unfolding TypedExpr Sound
called_typed s k c count args p q h =
    let r : call_rules s c.value count (both c args).value ≡ [] = quiet k (c.faults ++ args.faults) _ h in
    let e : c.faults ++ args.faults ≡ [] = nil_left (c.faults ++ args.faults) _ h in
    typed_map s typing_of_call (call_rules s c.value count (both c args).value) (both c args).value r
    (when_left s.constant fault.NotConst _ r)
    (both_there c.value args.value (p (nil_left c.faults args.faults e)) (q (nil_right c.faults args.faults e)))

abbrev IfTyped : Scene → Option (Judgement Typing) → Type 0
IfTyped s None = Unit {0}
IfTyped s (Some j) = TypedExpr s j.faults j.value

paren_typed : (s : Scene) (k : ℕ) (o : Option (Judgement Typing)) (j : Judgement ir.Stmts) → IfTyped s o → Sound j.faults j.value
    → TypedExpr s (or_sequence o (in_parens s k) (λ u. as_sequence s k j)).faults
    (or_sequence o (in_parens s k) (λ u. as_sequence s k j)).value
unfolding TypedExpr Sound
paren_typed s k None j p q h =
    let r : constant_rules s ≡ [] = quiet k j.faults _ h in
    typed_map s (λ body. boolean_typing (a_test (ir.Seq body))) (constant_rules s) j.value r (when_alone s.constant fault.NotConst r)
    (q (nil_left j.faults _ h))
paren_typed s k (Some i) j p q h =
    typed_keep s without_place (λ t. refl) (simple_rules s i.value) i.value (quiet k i.faults _ h) (p (nil_left i.faults _ h))

known_typed : (s : Scene) (k : ℕ) (j : Judgement Location) → Sound j.faults j.value
    → TypedExpr s (with known_typing (at_node k (known_rules s) j)).faults (with known_typing (at_node k (known_rules s) j)).value
unfolding TypedExpr Sound
known_typed s k j p h =
    let r : known_rules s j.value ≡ [] = quiet k j.faults _ h in
    typed_map s known_typing (known_rules s j.value) j.value r (when_left s.constant fault.NotConst _ r) (p (nil_left j.faults _ h))

kept_typed : (s : Scene) (k : ℕ) (f : Typing → Typing) (same : (t : Typing) → (f t).constant ≡ t.constant)
    (rules : Option Typing → List CheckFault) (j : Judgement Typing) → TypedExpr s j.faults j.value
    → TypedExpr s (with f (at_node k rules j)).faults (with f (at_node k rules j)).value
unfolding TypedExpr
kept_typed s k f same rules j p h = typed_keep s f same (rules j.value) j.value (quiet k j.faults _ h) (p (nil_left j.faults _ h))

only_typed : (s : Scene) (rest : tree.StmtTail) (o : Option (Judgement Typing)) → IfTyped s o → IfTyped s (only_of rest o)
only_typed s tree.no_stmt None p = tt
only_typed s tree.no_stmt (Some j) p = p
only_typed s (tree.more_stmt x r) o p = tt

-- ---- nodes of statements

step_there : (s : Scene) (fs : List CheckFault) (v : Option Typing) → fs ≡ [] → IsTyped (in_constant s) v
    → IsThere (option_and_then constant_in (unless fs v))
step_there s [] None e t = t
step_there s [] (Some x) e t = t refl
step_there s (f ∷ fs) v e t = absurd (cc)

step_sound : (s : Scene) (e : tree.Expr) (j : Judgement Typing) → TypedExpr (in_constant s) j.faults j.value
    → Sound (step_at (in_constant s) e j).faults (step_at (in_constant s) e j).value
unfolding TypedExpr Sound
step_sound s e j p h = step_there s _ j.value (quiet (tree.expr_node e) j.faults _ h) (p (nil_left j.faults _ h))

loop_name_sound : (s : Scene) (n : ℕ) (name : tree.Name) → NoBad s → Sound (loop_variable s n name).faults (loop_variable s n name).value
unfolding Sound
loop_name_sound s n name good h = go (found s name) (good name) h
  where
    go : (f : Found) → IsKnown s f → broken_at name.node (loop_name_rules s f (option_and_then located_in (denotation s f))) ≡ []
        → IsThere (unless (loop_name_rules s f (option_and_then located_in (denotation s f))) (option_and_then located_in (denotation s f)))
    go absent k h = absurd (cc)
    go bad k h = absurd k
    go (constant shape v) k h = absurd (cc)
    go (named shape) k h = absurd (cc)
    go (variable shape root) k h = tt
    go (routine r up None) k h = clash s.constant k
        (when_alone s.constant fault.NotVariable (quiet name.node [] (when s.constant fault.NotVariable) h))
    go (routine r up (Some x)) k h = absurd (cc)

span_there : (s : Scene) (fs : List CheckFault) (v w : Option Typing) → fs ≡ [] → IsTyped (in_constant s) v → IsTyped (in_constant s) w
    → IsThere (option_and_then (span_of s) (unless fs (both_of v w)))
span_there s (f ∷ fs) v w e t u = absurd (cc)
span_there s [] None w e t u = t
span_there s [] (Some x) None e t u = u
span_there s [] (Some x) (Some y) e t u = go x.constant y.constant (t refl) (u refl)
  where
    go : (a b : Option ℤ) → IsThere a → IsThere b → IsThere (span_from (Rattle.alma_rules.specs.Scene.base s x.shape) a b)
    go None b p q = p
    go (Some a) None p q = q
    go (Some a) (Some b) p q = tt

text_sound : (s : Scene) (n j : ℕ) (text : List ℕ) (item : Judgement Typing) (node : ℕ) → Sound item.faults item.value
    → Sound (text_item s n j text item node).faults (text_item s n j text item node).value
text_sound s n j text item node p = go (nat_eq (length text) 1)
  where
    go : (b : Bool) → Sound (if_true b (λ _. with (write_stmts s) (at_node node (write_rules s) item))
        (λ _. at_node j (text_rules s) (fine n (one_stmt (ir.WriteText text))))).faults
        (if_true b (λ _. with (write_stmts s) (at_node node (write_rules s) item))
        (λ _. at_node j (text_rules s) (fine n (one_stmt (ir.WriteText text))))).value
    go true = sound_map _ (write_stmts s) _ (sound_node node item.faults (write_rules s item.value) item.value p)
    go false = sound_node j [] (text_rules s (Some (one_stmt (ir.WriteText text)))) (Some (one_stmt (ir.WriteText text))) (sound_fine _)

item_sound : (s : Scene) (n node : ℕ) (l : Option (ℕ × ℕ)) (item : Judgement Typing) → Sound item.faults item.value
    → Sound (item_of s n node l item).faults (item_of s n node l item).value
item_sound s n node None item p = sound_map _ (write_stmts s) _ (sound_node node item.faults (write_rules s item.value) item.value p)
item_sound s n node (Some l) item p = text_sound s n l.0 (literal_at s l.1) item node p

-- ---- selectors

field_in : (s : Scene) (name : List ℕ) (fs : List CheckFault) (v : Option Denotation) → fs ≡ [] → field_rules s name v ≡ [] → IsVariable v
    → IsVariable (option_and_then (select_field s name) (unless fs v))
field_in s name [] v e q t = field_there s name v q t
field_in s name (f ∷ fs) v e q t = absurd (cc)

indexed_part : (s : Scene) (d : Judgement Denotation) (node : ℕ) (i : Judgement Typing) → Part d.faults d.value → Sound i.faults i.value
    → Part (index_at s d node i).faults (index_at s d node i).value
unfolding Part Sound
indexed_part s d node i p q h =
    let r : i.faults ++ broken_at node (index_rules s d.value i.value) ≡ [] = nil_right d.faults _ h in
    index_there s d.value (unless (index_rules s d.value i.value) i.value) (p (nil_left d.faults _ h))
    (unless_there (index_rules s d.value i.value) i.value (quiet node i.faults _ r) (q (nil_left i.faults _ r)))

as_part : (v : Option Denotation) → IsVariable v → IsPart v
as_part None p = p
as_part (Some d) p = go d p
  where
    go : (d : Denotation) → IsVariable (Some d) → IsPart (Some d)
    go (Rattle.alma_rules.specs.Parts.a_constant shape v) p = p
    go (Rattle.alma_rules.specs.Parts.a_variable l) p = tt
    go (Rattle.alma_rules.specs.Parts.a_routine r up h) p = p
    go Rattle.alma_rules.specs.Parts.no_array p = absurd p

field_variable : (s : Scene) (name : List ℕ) (k : ℕ) (d : Judgement Denotation) → Variable d.faults d.value
    → Variable (with_some (select_field s name) (at_node k (field_rules s name) d)).faults
    (with_some (select_field s name) (at_node k (field_rules s name) d)).value
unfolding Variable
field_variable s name k d p h =
    let q : field_rules s name d.value ≡ [] = quiet k d.faults _ h in
    field_in s name (field_rules s name d.value) d.value q q (p (nil_left d.faults _ h))

variable_part : (a : List BrokenRule) (v : Option Denotation) → Variable a v → Part a v
unfolding Variable Part
variable_part a v p h = as_part v (p h)

index_variable : (k : ℕ) (d : Judgement Denotation) → Part d.faults d.value
    → Variable (at_node k array_rules d).faults (at_node k array_rules d).value
unfolding Variable Part
index_variable k d p h =
    let q : array_rules d.value ≡ [] = quiet k d.faults _ h in
    unless_variable (array_rules d.value) d.value q (array_there d.value q (p (nil_left d.faults _ h)))

made_sound : {A : Type 0} (a : List BrokenRule) (v : Option A) → (a ≡ [] → IsThere v) → Sound a v
unfolding Sound
made_sound a v p = p

made_typed : (s : Scene) (a : List BrokenRule) (v : Option Typing) → (a ≡ [] → IsTyped s v) → TypedExpr s a v
unfolding TypedExpr
made_typed s a v p = p

typed_value : (s : Scene) (v : Option Typing) → IsTyped s v → TypedExpr s [] v
unfolding TypedExpr
typed_value s v t h = t

label_at_sound : (s : Scene) (k : ℕ) (case : Option Typing) (earlier : List Span) (a b : Judgement Typing)
    → TypedExpr (in_constant s) a.faults a.value
    → (IsTyped (in_constant s) a.value → TypedExpr (in_constant s) b.faults b.value)
    → Sound (label_at s case earlier k a b).faults (label_at s case earlier k a b).value
unfolding TypedExpr Sound
label_at_sound s k case earlier a b p q h =
    let e : a.faults ++ b.faults ≡ [] = nil_left (a.faults ++ b.faults) _ h in
    let t : IsTyped (in_constant s) a.value = p (nil_left a.faults b.faults e) in
    span_there s _ a.value b.value (quiet k (a.faults ++ b.faults) _ h) t (q t (nil_right a.faults b.faults e))

-- ---- the walk

mutual
  unfolding judge_expr

  pub stmts_sound : (s : Scene) (good : NoBad s) (n : ℕ) (x : tree.Stmts) → Sound (judge_stmts s n x).faults (judge_stmts s n x).value
  stmts_sound s good n (tree.stmts k x rest) = sound_map _ _ _ (sound_both _ _ _ _ (stmt_sound s good n x) (stmt_tail_sound s good _ rest))

  stmt_tail_sound : (s : Scene) (good : NoBad s) (n : ℕ) (x : tree.StmtTail)
      → Sound (judge_stmt_tail s n x).faults (judge_stmt_tail s n x).value
  stmt_tail_sound s good n tree.no_stmt = sound_fine _
  stmt_tail_sound s good n (tree.more_stmt x rest) =
      sound_map _ _ _ (sound_both _ _ _ _ (stmt_sound s good n x) (stmt_tail_sound s good _ rest))

  condition_sound : (s : Scene) (good : NoBad s) (n : ℕ) (e : tree.Expr) → Sound (judge_expr s n e).faults (judge_expr s n e).value
  condition_sound s good n (tree.expr k left right) =
      typed_sound s _ _ (compared_typed s good k (judge_simple s n left) right (simple_typed s good n left))

  stmt_sound : (s : Scene) (good : NoBad s) (n : ℕ) (x : tree.Stmt) → Sound (judge_stmt s n x).faults (judge_stmt s n x).value
  stmt_sound s good n (tree.nothing k) = sound_fine _
  stmt_sound s good n (tree.assign k d e) =
      sound_map _ _ _ (sound_node k _ _ _ (sound_both _ _ _ _ (located_sound s good n d) (condition_sound s good _ e)))
  stmt_sound s good n (tree.value k e) = sound_map _ _ _
      (sound_map _ _ _ (sound_map _ _ _ (sound_node (tree.expr_node e) _ _ _ (condition_sound s good n e))))
  stmt_sound s good n (tree.if_stmt k e body elsifs other) =
      sound_map _ _ _ (sound_map _ _ _ (sound_both _ _ _ _
      (sound_map _ _ _ (sound_node (tree.expr_node e) _ _ _ (condition_sound s good n e)))
      (sound_both _ _ _ _ (stmts_sound s good _ body) (sound_both _ _ _ _ (elsifs_sound s good _ elsifs) (else_sound s good _ other)))))
  stmt_sound s good n (tree.while_stmt k e body) =
      sound_map _ _ _ (sound_map _ _ _ (sound_both _ _ _ _
      (sound_map _ _ _ (sound_node (tree.expr_node e) _ _ _ (condition_sound s good n e))) (stmts_sound s good _ body)))
  stmt_sound s good n (tree.repeat_stmt k body e) =
      sound_map _ _ _ (sound_map _ _ _ (sound_both _ _ _ _ (stmts_sound s good n body)
      (sound_map _ _ _ (sound_node (tree.expr_node e) _ _ _ (condition_sound s good _ e)))))
  stmt_sound s good n (tree.for_stmt k name low high by body) =
      sound_map _ _ _ (sound_map _ _ _ (sound_map _ _ _
      (sound_node k _ _ _ (sound_both _ _ _ _ (loop_name_sound s n name good) (sound_both _ _ _ _ (condition_sound s good _ low)
      (sound_both _ _ _ _ (condition_sound s good _ high) (sound_both _ _ _ _ (by_sound s good _ by) (stmts_sound s good _ body))))))))
  stmt_sound s good n (tree.some_stmt k name low high body) =
      sound_map _ _ _ (sound_map _ _ _ (sound_map _ _ _
      (sound_node k _ _ _ (sound_both _ _ _ _ (loop_name_sound s n name good) (sound_both _ _ _ _ (condition_sound s good _ low)
      (sound_both _ _ _ _ (condition_sound s good _ high) (sound_both _ _ _ _ (sound_fine (pos 1)) (stmts_sound s good _ body))))))))
  stmt_sound s good n (tree.case_stmt k e first rest other) =
      sound_map _ _ _ (sound_map _ _ _ (sound_node k _ _ _ (sound_both _ _ _ _ (condition_sound s good n e) (sound_both _ _ _ _
      (sound_map _ _ _ (sound_both _ _ _ _ (arm_sound s good _ _ [] first) (arm_tail_sound s good _ _ _ rest)))
      (case_else_sound s good _ other)))))
  stmt_sound s good n (tree.either_stmt k body rest) =
      sound_map _ _ _ (sound_map _ _ _ (sound_both _ _ _ _ (stmts_sound s good n body) (orelses_sound s good _ rest)))
  stmt_sound s good n (tree.forall_stmt k choice body) =
      sound_map _ _ _ (sound_map _ _ _ (sound_both _ _ _ _ (stmts_sound (inside_of s) (good_inside s good) n choice)
      (stmts_sound (inside_of s) (good_inside s good) _ body)))
  stmt_sound s good n (tree.commit_stmt k body) = sound_map _ _ _ (sound_map _ _ _ (stmts_sound (inside_of s) (good_inside s good) n body))
  stmt_sound s good n (tree.return_stmt k e) = sound_map _ _ _ (returned_sound s good n k e)
  stmt_sound s good n (tree.read_stmt k d rest) =
      sound_map _ _ _ (sound_both _ _ _ _ (sound_map _ _ _ (sound_node (tree.desig_node d) _ _ _ (located_sound s good n d)))
      (reads_sound s good _ rest))
  stmt_sound s good n (tree.write_stmt k items) = items_sound s good n items
  stmt_sound s good n (tree.writeln_stmt k items) = sound_map _ _ _ (line_items_sound s good n items)

  elsifs_sound : (s : Scene) (good : NoBad s) (n : ℕ) (x : tree.ElsifTail) → Sound (judge_elsifs s n x).faults (judge_elsifs s n x).value
  elsifs_sound s good n tree.no_elsif = sound_fine _
  elsifs_sound s good n (tree.more_elsif e body rest) =
      sound_map _ _ _ (sound_both _ _ _ _ (sound_map _ _ _ (sound_node (tree.expr_node e) _ _ _ (condition_sound s good n e)))
      (sound_both _ _ _ _ (stmts_sound s good _ body) (elsifs_sound s good _ rest)))

  else_sound : (s : Scene) (good : NoBad s) (n : ℕ) (x : tree.Else) → Sound (judge_else s n x).faults (judge_else s n x).value
  else_sound s good n tree.no_else = sound_fine _
  else_sound s good n (tree.else_stmts body) = stmts_sound s good n body

  by_sound : (s : Scene) (good : NoBad s) (n : ℕ) (x : tree.By) → Sound (judge_by s n x).faults (judge_by s n x).value
  by_sound s good n tree.no_by = sound_fine _
  by_sound s good n (tree.by_expr e) = step_sound s e (judge_expr (in_constant s) n e)
      (expr_typed (in_constant s) (good_constant s good) n e)

  arm_sound : (s : Scene) (good : NoBad s) (n : ℕ) (case : Option Typing) (earlier : List Span) (x : tree.Arm)
      → Sound (judge_arm s n case earlier x).arm.faults (judge_arm s n case earlier x).arm.value
  arm_sound s good n case earlier (tree.empty_arm k) = sound_fine _
  arm_sound s good n case earlier (tree.arm k first rest body) =
      sound_map _ _ _ (sound_both _ _ _ _ (sound_map _ _ _
      (sound_both _ _ _ _ (label_sound s good n case earlier first) (labels_sound s good _ case _ rest))) (stmts_sound s good _ body))

  arm_tail_sound : (s : Scene) (good : NoBad s) (n : ℕ) (case : Option Typing) (earlier : List Span) (x : tree.ArmTail)
      → Sound (judge_arm_tail s n case earlier x).faults (judge_arm_tail s n case earlier x).value
  arm_tail_sound s good n case earlier tree.no_arm = sound_fine _
  arm_tail_sound s good n case earlier (tree.more_arm x rest) =
      sound_map _ _ _ (sound_both _ _ _ _ (arm_sound s good n case earlier x) (arm_tail_sound s good _ case _ rest))

  label_sound : (s : Scene) (good : NoBad s) (n : ℕ) (case : Option Typing) (earlier : List Span) (x : tree.Label)
      → Sound (judge_label s n case earlier x).faults (judge_label s n case earlier x).value
  label_sound s good n case earlier (tree.label k low high) =
      label_at_sound s k case earlier (judge_expr (in_constant s) n low)
      (judge_high (in_constant s) (judge_expr (in_constant s) n low).next (judge_expr (in_constant s) n low).value high)
      (expr_typed (in_constant s) (good_constant s good) n low) (λ t. high_typed (in_constant s) (good_constant s good) _ _ high t)

  high_typed : (s : Scene) (good : NoBad s) (n : ℕ) (low : Option Typing) (x : tree.High) → IsTyped s low
      → TypedExpr s (judge_high s n low x).faults (judge_high s n low x).value
  high_typed s good n low tree.no_high t = typed_value s low t
  high_typed s good n low (tree.high_expr e) t = expr_typed s good n e

  labels_sound : (s : Scene) (good : NoBad s) (n : ℕ) (case : Option Typing) (earlier : List Span) (x : tree.LabelTail)
      → Sound (judge_labels s n case earlier x).faults (judge_labels s n case earlier x).value
  labels_sound s good n case earlier tree.no_label = sound_fine _
  labels_sound s good n case earlier (tree.more_label x rest) =
      sound_map _ _ _ (sound_both _ _ _ _ (label_sound s good n case earlier x) (labels_sound s good _ case _ rest))

  case_else_sound : (s : Scene) (good : NoBad s) (n : ℕ) (x : tree.Else)
      → Sound (judge_case_else s n x).faults (judge_case_else s n x).value
  case_else_sound s good n tree.no_else = sound_fine _
  case_else_sound s good n (tree.else_stmts body) = sound_map _ _ _ (stmts_sound s good n body)

  orelses_sound : (s : Scene) (good : NoBad s) (n : ℕ) (x : tree.OrelseTail)
      → Sound (judge_orelses s n x).faults (judge_orelses s n x).value
  orelses_sound s good n tree.no_orelse = sound_fine _
  orelses_sound s good n (tree.more_orelse body rest) =
      sound_map _ _ _ (sound_both _ _ _ _ (stmts_sound s good n body) (orelses_sound s good _ rest))

  returned_sound : (s : Scene) (good : NoBad s) (n k : ℕ) (x : tree.Returned)
      → Sound (judge_returned s n k x).faults (judge_returned s n k x).value
  returned_sound s good n k tree.no_value = sound_map _ _ _ (sound_node k [] _ _ (sound_fine _))
  returned_sound s good n k (tree.returned e) = sound_map _ _ _ (sound_node k _ _ _ (condition_sound s good n e))

  reads_sound : (s : Scene) (good : NoBad s) (n : ℕ) (x : tree.DesigTail) → Sound (judge_reads s n x).faults (judge_reads s n x).value
  reads_sound s good n tree.no_desig = sound_fine _
  reads_sound s good n (tree.more_desig d rest) =
      sound_map _ _ _ (sound_both _ _ _ _ (sound_map _ _ _ (sound_node (tree.desig_node d) _ _ _ (located_sound s good n d)))
      (reads_sound s good _ rest))

  items_sound : (s : Scene) (good : NoBad s) (n : ℕ) (x : tree.Exprs) → Sound (judge_items s n x).faults (judge_items s n x).value
  items_sound s good n (tree.exprs e rest) =
      sound_map _ _ _ (sound_both _ _ _ _ (item_sound s n (tree.expr_node e) (item_literal e) (judge_expr s n e)
      (condition_sound s good n e)) (item_tail_sound s good _ rest))

  item_tail_sound : (s : Scene) (good : NoBad s) (n : ℕ) (x : tree.ExprTail)
      → Sound (judge_item_tail s n x).faults (judge_item_tail s n x).value
  item_tail_sound s good n tree.no_expr = sound_fine _
  item_tail_sound s good n (tree.more_expr e rest) =
      sound_map _ _ _ (sound_both _ _ _ _ (item_sound s n (tree.expr_node e) (item_literal e) (judge_expr s n e)
      (condition_sound s good n e)) (item_tail_sound s good _ rest))

  line_items_sound : (s : Scene) (good : NoBad s) (n : ℕ) (x : tree.Args)
      → Sound (judge_line_items s n x).faults (judge_line_items s n x).value
  line_items_sound s good n tree.no_args = sound_fine _
  line_items_sound s good n tree.empty_args = sound_fine _
  line_items_sound s good n (tree.args items) = items_sound s good n items

  pub expr_typed : (s : Scene) (good : NoBad s) (n : ℕ) (e : tree.Expr) → TypedExpr s (judge_expr s n e).faults (judge_expr s n e).value
  expr_typed s good n (tree.expr k left right) = compared_typed s good k (judge_simple s n left) right (simple_typed s good n left)

  compared_typed : (s : Scene) (good : NoBad s) (k : ℕ) (j : Judgement Typing) (c : tree.Compared) → TypedExpr s j.faults j.value
      → TypedExpr s (judge_compared s k j c).faults (judge_compared s k j c).value
  compared_typed s good k j tree.no_relation p = p
  compared_typed s good k j (tree.compared r right) p =
      related_typed s k r (both j (judge_simple s j.next right))
      (sound_both _ _ _ _ (typed_sound s _ _ p) (typed_sound s _ _ (simple_typed s good j.next right)))

  simple_typed : (s : Scene) (good : NoBad s) (n : ℕ) (e : tree.Simple) → TypedExpr s (judge_simple s n e).faults (judge_simple s n e).value
  simple_typed s good n (tree.simple k sign first rest) =
      sum_typed s k sign rest (judge_term s n (first_add sign rest) first)
      (judge_terms s (judge_term s n (first_add sign rest) first).next (first_add sign rest).sort rest) (term_typed s good n _ first)
      (terms_sound s good _ _ rest)

  terms_sound : (s : Scene) (good : NoBad s) (n : ℕ) (sort : Bool) (x : tree.TermTail)
      → Sound (judge_terms s n sort x).faults (judge_terms s n sort x).value
  terms_sound s good n sort tree.no_term = sound_fine _
  terms_sound s good n sort (tree.more_term o t rest) =
      sound_map _ _ _ (sound_both _ _ _ _ (typed_sound s _ _ (term_typed s good n _ t)) (terms_sound s good _ sort rest))

  term_typed : (s : Scene) (good : NoBad s) (n : ℕ) (o : Operand) (x : tree.Term)
      → TypedExpr s (judge_term s n o x).faults (judge_term s n o x).value
  term_typed s good n o (tree.term k first rest) =
      product_typed s o k rest (judge_factor s n (first_mul rest) first)
      (judge_factors s (judge_factor s n (first_mul rest) first).next (first_mul rest).sort rest) (factor_typed s good n _ first)
      (factors_sound s good _ _ rest)

  factors_sound : (s : Scene) (good : NoBad s) (n : ℕ) (sort : Bool) (x : tree.FactorTail)
      → Sound (judge_factors s n sort x).faults (judge_factors s n sort x).value
  factors_sound s good n sort tree.no_factor = sound_fine _
  factors_sound s good n sort (tree.more_factor o f rest) =
      sound_map _ _ _ (sound_both _ _ _ _ (typed_sound s _ _ (factor_typed s good n _ f)) (factors_sound s good _ sort rest))

  factor_typed : (s : Scene) (good : NoBad s) (n : ℕ) (o : Operand) (x : tree.Factor)
      → TypedExpr s (judge_factor s n o x).faults (judge_factor s n o x).value
  factor_typed s good n o (tree.not_factor k p) =
      negated_typed s o k (tree.primary_node p) (judge_primary (inside_of s) n p)
      (typed_sound (inside_of s) _ _ (primary_typed (inside_of s) (good_inside s good) n p))
  factor_typed s good n o (tree.factor k p) = typed_node s k _ _ _ (primary_typed s good n p)

  primary_typed : (s : Scene) (good : NoBad s) (n : ℕ) (x : tree.Primary)
      → TypedExpr s (judge_primary s n x).faults (judge_primary s n x).value
  primary_typed s good n (tree.number k t) = typed_value s _ (λ e. tt)
  primary_typed s good n (tree.literal k t) =
      typed_node s k [] (literal_rules s (literal_at s t) (Some (literal_typing s t))) (Some (literal_typing s t))
      (typed_value s _ (λ e. tt))
  primary_typed s good n (tree.named k d tree.no_args) = value_typed s good n d
  primary_typed s good n (tree.named k d tree.empty_args) =
      called_typed s k (with_some callee_in (judge_desig s n as_procedure d)) 0 (fine (judge_desig s n as_procedure d).next ir.no_args)
      (callee_sound s good n d) (sound_fine _)
  primary_typed s good n (tree.named k d (tree.args items)) =
      called_typed s k (with_some callee_in (judge_desig s n as_procedure d)) (argument_count items)
      (judge_arguments s (judge_desig s n as_procedure d).next (formals_of (with_some callee_in (judge_desig s n as_procedure d)).value)
      items) (callee_sound s good n d) (arguments_sound s good _ _ items)
  primary_typed s good n (tree.paren k body) =
      paren_typed s k (judge_only s n body) (judge_stmts (inside_of s) n body) (only_is_typed s good n body)
      (stmts_sound (inside_of s) (good_inside s good) n body)
  primary_typed s good n (tree.known k d) =
      known_typed s k (with_some located_in (judge_desig s n as_variable d)) (located_sound s good n d)
  primary_typed s good n (tree.ord k e) = kept_typed s k ord_typing (λ t. refl) (simple_rules s) (judge_expr s n e) (expr_typed s good n e)
  primary_typed s good n (tree.chr k e) = kept_typed s k chr_typing (λ t. refl) (chr_rules s) (judge_expr s n e) (expr_typed s good n e)

  only_is_typed : (s : Scene) (good : NoBad s) (n : ℕ) (x : tree.Stmts) → IfTyped s (judge_only s n x)
  only_is_typed s good n (tree.stmts k x rest) = only_typed s rest (judge_value s n x) (value_is_typed s good n x)

  value_is_typed : (s : Scene) (good : NoBad s) (n : ℕ) (x : tree.Stmt) → IfTyped s (judge_value s n x)
  value_is_typed s good n (tree.value k e) = expr_typed s good n e
  value_is_typed s good n x = tt

  arguments_sound : (s : Scene) (good : NoBad s) (n : ℕ) (formals : List FormalOf) (x : tree.Exprs)
      → Sound (judge_arguments s n formals x).faults (judge_arguments s n formals x).value
  arguments_sound s good n formals (tree.exprs e rest) =
      sound_map _ _ _ (sound_both _ _ _ _ (sound_map _ _ _ (sound_node (tree.expr_node e) _ _ _ (condition_sound s good n e)))
      (argument_tail_sound s good _ _ rest))

  argument_tail_sound : (s : Scene) (good : NoBad s) (n : ℕ) (formals : List FormalOf) (x : tree.ExprTail)
      → Sound (judge_argument_tail s n formals x).faults (judge_argument_tail s n formals x).value
  argument_tail_sound s good n formals tree.no_expr = sound_fine _
  argument_tail_sound s good n formals (tree.more_expr e rest) =
      sound_map _ _ _ (sound_both _ _ _ _ (sound_map _ _ _ (sound_node (tree.expr_node e) _ _ _ (condition_sound s good n e)))
      (argument_tail_sound s good _ _ rest))

  located_sound : (s : Scene) (good : NoBad s) (n : ℕ) (x : tree.Desig)
      → Sound (judge_desig s n as_variable x).faults (option_and_then located_in (judge_desig s n as_variable x).value)
  located_sound s good n (tree.desig k name more) =
      made_sound _ _ (located_at s k n name more (found s name) (good name) (λ d p. selectors_variable s good d more p))

  value_typed : (s : Scene) (good : NoBad s) (n : ℕ) (x : tree.Desig)
      → TypedExpr s (judge_desig s n as_value x).faults (option_and_then typing_in (judge_desig s n as_value x).value)
  value_typed s good n (tree.desig k name more) =
      made_typed s _ _ (valued_at s k n name more (found s name) (good name) (λ d p. selectors_variable s good d more p))

  callee_sound : (s : Scene) (good : NoBad s) (n : ℕ) (x : tree.Desig)
      → Sound (judge_desig s n as_procedure x).faults (option_and_then callee_in (judge_desig s n as_procedure x).value)
  callee_sound s good n (tree.desig k name more) = made_sound _ _ (callee_at s k n name more (found s name) (good name))

  selectors_variable : (s : Scene) (good : NoBad s) (d : Judgement Denotation) (x : tree.SelectorTail) → Variable d.faults d.value
      → Variable (judge_selectors s d x).faults (judge_selectors s d x).value
  selectors_variable s good d tree.no_selector p = p
  selectors_variable s good d (tree.more_selector x rest) p =
      selectors_variable s good (judge_selector s d x) rest (selector_variable s good d x p)

  selector_variable : (s : Scene) (good : NoBad s) (d : Judgement Denotation) (x : tree.Selector) → Variable d.faults d.value
      → Variable (judge_selector s d x).faults (judge_selector s d x).value
  selector_variable s good d (tree.field k name) p = field_variable s (text_at s name.token) k d p
  selector_variable s good d (tree.index k items) p =
      index_variable k (judge_indices s d items) (indices_part s good d items (variable_part d.faults d.value p))

  indices_part : (s : Scene) (good : NoBad s) (d : Judgement Denotation) (x : tree.Exprs) → Part d.faults d.value
      → Part (judge_indices s d x).faults (judge_indices s d x).value
  indices_part s good d (tree.exprs e rest) p =
      index_tail_part s good (index_at s d (tree.expr_node e) (judge_expr s d.next e)) rest
      (indexed_part s d (tree.expr_node e) (judge_expr s d.next e) p (condition_sound s good d.next e))

  index_tail_part : (s : Scene) (good : NoBad s) (d : Judgement Denotation) (x : tree.ExprTail) → Part d.faults d.value
      → Part (judge_index_tail s d x).faults (judge_index_tail s d x).value
  index_tail_part s good d tree.no_expr p = p
  index_tail_part s good d (tree.more_expr e rest) p =
      index_tail_part s good (index_at s d (tree.expr_node e) (judge_expr s d.next e)) rest
      (indexed_part s d (tree.expr_node e) (judge_expr s d.next e) p (condition_sound s good d.next e))
