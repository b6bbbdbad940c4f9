-- What the nodes of statements make of parts that fit.
use Rattle.std.proofs.Common.{◌≡◌, ℕ, zero, suc, ◌+◌, ◌≤◌, ◌⊎◌, inl, inr, ℤ, pos, negsuc, Bool, true, false, List, [], ◌++◌, length, Option}
use Rattle.std.proofs.Common.{None, Some, refl, sym, ap, ◌∙◌, subst, arith, append_assoc}
use Rattle.std.specs.Prelude.{not, ◌||◌, nat_eq, option_map, option_and_then, if◌then◌else◌, IsSome, IsNone}
use Rattle.std.specs.List.{AllByRecursion}
use Rattle.std.proofs.lemmas.Int.{ints}
use Rattle.std.proofs.lemmas.Bool.{eq-eqb}
use Rattle.alma_base.specs.declared.fault.CheckFault.TheVariants as fault
use Rattle.alma_base.specs.Numbers.{is_zero}
use Rattle.alma_base.specs.Choice.{if_true}
use Rattle.alma_ir.specs.Tree as ir
use Rattle.alma_ir.specs.Phrases.{StmtPhrase, ExprPhrase, TestPhrase, test_phrases, sels_phrases, stmts_phrases, stmt_phrases, arms_phrases}
use Rattle.alma_ir.specs.Phrases.{cases_phrases, else_phrases, branches_phrases, loop_phrases}
use Rattle.alma_ir.specs.Checked.{labels_of, IsOrdered}
use Rattle.alma_ir.proofs.Each.{each_of_front, each_of_back, each_of_append}
use Rattle.alma_rules.specs.Judgement.{Judgement, unless, both_of, when, holds, at_node, with, fine}
use Rattle.alma_rules.specs.Scene.{Scene, Returns, nothing, a_value, Found, absent, bad, constant, named, variable, routine, literal_at}
use Rattle.alma_rules.specs.Scene.{base, range, is_structured, has_integer, has_char, has_boolean}
use Rattle.alma_rules.specs.Parts.{Meaning, a_place, plain, a_test, Typing, value_of, test_of, Location, desig_of, denotation, located_in}
use Rattle.alma_rules.specs.Parts.{one_stmt, append_stmts, assignment_stmts, assigned_to, read_stmts, read_as, write_stmts, write_as, Span}
use Rattle.alma_rules.specs.Parts.{span_of}
use Rattle.alma_rules.specs.Parts.{span_from, ranges_of, append_cases}
use Rattle.alma_rules.specs.ExprRules.{test_rules, not_test, structured, no_integer}
use Rattle.alma_rules.specs.StmtRules.{assign_rules, unlike_sides, loop_name_rules, loop_rules, bad_loop, other_base, by_rules, zero_step}
use Rattle.alma_rules.specs.StmtRules.{case_rules, other_label, ends_with, is_above, low_above_high, label_twice, label_rules, return_rules}
use Rattle.alma_rules.specs.StmtRules.{other_result, other_form, read_rules, unreadable, write_rules, unwritable}
use Rattle.alma_rules.specs.Nodes.{constant_in, loop_of, cons_span, arm_of, joined_cases, text_rules, if_of, arms_of, with_line, item_of}
use Rattle.alma_resolved.specs.Fits.{Place, own, LoopFits, PhrasesFit}
use Rattle.alma_resolved.proofs.Fits.{laid_nil, laid_cons, laid_join, laid_wide, laid_one, laid_outside, laid_stays, laid_leaves, When}
use Rattle.alma_resolved.proofs.Fits.{when_is, when_some, when_none, when_all, when_map, when_then, when_both, when_node, when_unless}
use Rattle.alma_resolved.proofs.Fits.{when_unless_none}
use Rattle.alma_resolved.specs.Scenes.{FoundFits, ReturnsFit, ReturnsSimple, SceneFits}
use Rattle.alma_resolved.proofs.Scenes.{no_fault, no_fault_alone, no_faults_left, no_faults_right, or_left, or_right, and_false, not_false}
use Rattle.alma_resolved.proofs.Scenes.{same_number, MeaningFits, TypingFits, value_laid, test_laid, base_simple, simple_too, LocatedFits}
use Rattle.alma_resolved.proofs.Scenes.{located_laid}
use Rattle.alma_resolved.proofs.ExprNodes.{typing_le}

-- ---- statements in a row

append_is : (a b : ir.Stmts) → stmts_phrases (append_stmts a b) ≡ stmts_phrases a ++ stmts_phrases b
unfolding stmts_phrases
append_is ir.no_stmts b = refl
append_is (ir.more_stmts line x rest) b = ap (λ xs. stmt_phrases x ++ xs) (append_is rest b)
    ∙ sym (append_assoc (stmt_phrases x) (stmts_phrases rest) (stmts_phrases b))

pub joined_fit : {k : Place} {i : Bool} {lo mid hi : ℕ} (a b : ir.Stmts) → PhrasesFit k i lo mid (stmts_phrases a)
    → PhrasesFit k i mid hi (stmts_phrases b) → PhrasesFit k i lo hi (stmts_phrases (append_stmts a b))
joined_fit {k} {i} {lo} {mid} {hi} a b p q = subst (λ xs. PhrasesFit k i lo hi xs) (sym (append_is a b)) (laid_join p q)

pub one_fits : {k : Place} {i : Bool} {lo hi : ℕ} (x : ir.Stmt) → PhrasesFit k i lo hi (stmt_phrases x)
    → PhrasesFit k i lo hi (stmts_phrases (one_stmt x))
unfolding stmts_phrases
one_fits x p = laid_one p

pub no_stmts_fit : (k : Place) (i : Bool) (n : ℕ) → PhrasesFit k i n n (stmts_phrases ir.no_stmts)
unfolding stmts_phrases
no_stmts_fit k i n = laid_nil k i n n (omega arith)

-- ---- assignment, conditions

assigned_fits : {k : Place} {s : Scene} (e : SceneFits k s) {lo mid hi : ℕ} (l : Location) (shape : ℕ) → base s l.shape ≡ base s shape
    → LocatedFits k s lo mid l → (m : Meaning) → MeaningFits k s mid hi shape m
    → PhrasesFit k s.inside lo hi (stmt_phrases (assigned_to s l m))
unfolding stmts_phrases
assigned_fits {k} {s} e {lo} {mid} {hi} l shape same p (a_place d) h = by (is_structured s l.shape) refl
  where
    by : (c : Bool) → is_structured s l.shape ≡ c
        → PhrasesFit k s.inside lo hi (stmt_phrases
        (if c then ir.CopyCells (desig_of l) d else ir.Assign (desig_of l) (ir.Load d) (range s l.shape)))
    by true i = laid_cons (StmtPhrase (ir.CopyCells (desig_of l) d)) (p.left ∙ (e.table.same l.shape shape same ∙ sym h.1))
        (laid_join (located_laid p) h.0)
    by false i =
        laid_cons (StmtPhrase (ir.Assign (desig_of l) (ir.Load d) (range s l.shape)))
        (p.left ∙ e.table.simple l.shape i, e.table.ordered l.shape)
        (laid_join (located_laid p) (laid_cons (ExprPhrase (ir.Load d)) (h.1 ∙ e.table.simple shape (simple_too e l.shape shape same i))
        h.0))
assigned_fits {k} {s} e {lo} {mid} {hi} l shape same p (plain x) h =
    laid_cons (StmtPhrase (ir.Assign (desig_of l) x (range s l.shape)))
    (p.left ∙ e.table.simple l.shape (simple_too e shape l.shape (sym same) h.1), e.table.ordered l.shape)
    (laid_join (located_laid p) h.0)
assigned_fits {k} {s} e {lo} {mid} {hi} l shape same p (a_test x) h =
    laid_cons (StmtPhrase (ir.Assign (desig_of l) (ir.Truth x) (range s l.shape)))
    (p.left ∙ e.table.simple l.shape (simple_too e shape l.shape (sym same) h.1), e.table.ordered l.shape)
    (laid_join (located_laid p) (laid_cons (ExprPhrase (ir.Truth x)) tt h.0))

pub assign_fits : {k : Place} {s : Scene} (e : SceneFits k s) {lo mid hi : ℕ} (v : Option (Location × Typing))
    → When v (λ p. LocatedFits k s lo mid p.0 × TypingFits k s mid hi p.1)
    → When (option_map (assignment_stmts s) (unless (assign_rules s v) v)) (λ x. PhrasesFit k s.inside lo hi (stmts_phrases x))
assign_fits {k} {s} e {lo} {mid} {hi} v h =
    when_map {P = λ p. PhrasesFit k s.inside lo hi (stmt_phrases (assigned_to s p.0 p.1.meaning))} (assignment_stmts s)
    (when_node (assign_rules s) v h (λ p g q. assigned_fits e p.0 p.1.shape
    (same_number (base s p.0.shape) (base s p.1.shape) (no_fault_alone (unlike_sides s p) fault.TypeMismatch q)) g.0 p.1.meaning
    g.1.meaning))
    (λ p g. one_fits (assigned_to s p.0 p.1.meaning) g)

-- an expression of base BOOLEAN
pub boolean_simple : {k : Place} {s : Scene} (e : SceneFits k s) (t : Typing) → test_rules s (Some t) ≡ [] → is_structured s t.shape ≡ false
boolean_simple {k} {s} e t q = base_simple e t.shape 2 (omega arith)
    (not_false (has_boolean s t.shape) (no_fault_alone (not_test s t) fault.NotTest q))

pub condition_fits : {k : Place} {s : Scene} (e : SceneFits k s) {lo hi : ℕ} (v : Option Typing) → When v (TypingFits k s lo hi)
    → When (option_map (λ t. test_of t.meaning) (unless (test_rules s v) v)) (λ t. PhrasesFit k s.inside lo hi (test_phrases t))
condition_fits {k} {s} e {lo} {hi} v h =
    when_map {P = λ t. PhrasesFit k s.inside lo hi (test_phrases (test_of t.meaning))} (λ t. test_of t.meaning)
    (when_node (test_rules s) v h (λ t g q. test_laid e (boolean_simple e t q) g)) (λ t g. g)

-- ---- loops

loop_name : {k : Place} {s : Scene} (e : SceneFits k s) (n : ℕ) (f : Found) → FoundFits k s f
    → When (option_and_then located_in (denotation s f)) (LocatedFits k s n n)
unfolding sels_phrases
loop_name e n absent h = when_none
loop_name e n bad h = when_none
loop_name e n (constant shape v) h = when_none
loop_name e n (named shape) h = when_none
loop_name {k} {s} e n (variable shape root) h =
    when_some _ (record { root = h; parts = tt; left = refl; laid = laid_nil k s.inside n n (omega arith) })
loop_name e n (routine q up None) h = when_none
loop_name e n (routine q up (Some x)) h = when_none

pub loop_name_fits : {k : Place} {s : Scene} (e : SceneFits k s) (n : ℕ) (f : Found) → FoundFits k s f
    → When (unless (loop_name_rules s f (option_and_then located_in (denotation s f))) (option_and_then located_in (denotation s f)))
    (LocatedFits k s n n)
loop_name_fits {k} {s} e n f h = when_node (loop_name_rules s f) (option_and_then located_in (denotation s f)) (loop_name e n f h)
    (λ l g q. g)

-- a step is not zero
not_zero : (z : ℤ) → is_zero z ≡ false → z ≡ pos 0 → ⊥
not_zero (pos zero) h e = absurd (let bad : true ≡ false = h in cc)
not_zero (pos (suc n)) h e = absurd (let same : is_zero (pos (suc n)) ≡ is_zero (pos 0) = ap is_zero e in let bad : false ≡ true = same in
    cc)
not_zero (negsuc n) h e = absurd (let same : is_zero (negsuc n) ≡ is_zero (pos 0) = ap is_zero e in let bad : false ≡ true = same in cc)

-- without BY the step is one
pub one_step : pos 1 ≡ pos 0 → ⊥
one_step e = not_zero (pos 1) refl e

pub step_fits : {k : Place} {s : Scene} {lo hi : ℕ} (v : Option Typing) → When v (TypingFits k s lo hi)
    → When (option_and_then constant_in (unless (by_rules s v) v)) (λ z. (z ≡ pos 0 → ⊥) × (lo ≤ hi))
step_fits {k} {s} {lo} {hi} v h =
    when_then {P = λ t. (zero_step s t ≡ false) × (has_integer s t.shape ≡ true) × (lo ≤ hi)} constant_in
    (when_node (by_rules s) v h (λ t g q. (
      no_fault_alone (zero_step s t) fault.ConstRange (no_fault (no_integer s t) fault.TypeMismatch _ q).1,
      not_false (has_integer s t.shape) (no_fault (no_integer s t) fault.TypeMismatch _ q).0,
      typing_le g,
    ))) (λ t g. by t.constant (and_false (has_integer s t.shape) (holds is_zero t.constant) g.0 g.1) g.2)
  where
    by : (o : Option ℤ) → holds is_zero o ≡ false → lo ≤ hi → When o (λ z. (z ≡ pos 0 → ⊥) × (lo ≤ hi))
    by None i le = when_none
    by (Some z) i le = when_some z (not_zero z i, le)

pub record LoopIs (k : Place) (s : Scene) (lo hi : ℕ) (l : ir.Loop) : Type 0 where
  pub loop : LoopFits lo hi l
  pub laid : PhrasesFit k s.inside lo hi (loop_phrases l)

loop_made : {k : Place} {s : Scene} (e : SceneFits k s) (n m1 m2 m3 m4 : ℕ) (l : Location) (a b : Typing) (z : ℤ) (x : ir.Stmts)
    → LocatedFits k s (n + 2) (n + 2) l → TypingFits k s (n + 2) m1 a → TypingFits k s m1 m2 b
    → (z ≡ pos 0 → ⊥) × (m2 ≤ m3) → PhrasesFit k s.inside m3 m4 (stmts_phrases x) → bad_loop s (Some a) (Some b) l ≡ false
    → LoopIs k s n m4 (loop_of s n (l, (a, (b, (z, x)))))
unfolding stmts_phrases
loop_made {k} {s} e n m1 m2 m3 m4 l a b z x hl ha hb hz hx q =
    let simple : is_structured s l.shape ≡ false = or_left (is_structured s l.shape) _ (or_left _ _ q) in
    let low : base s l.shape ≡ base s a.shape =
    same_number (base s l.shape) (base s a.shape) (or_right (is_structured s l.shape) _ (or_left _ _ q)) in
    let high : base s l.shape ≡ base s b.shape = same_number (base s l.shape) (base s b.shape) (or_right _ _ q) in
    let body = laid_wide m2 m4 hz.1 (omega arith) hx in
    let whole = laid_join (laid_join (laid_join (located_laid hl) (value_laid e (simple_too e l.shape a.shape low simple) ha))
    (value_laid e (simple_too e l.shape b.shape high simple) hb)) body in
    record {
      loop = (
        hl.left ∙ e.table.simple l.shape simple,
        e.table.ordered l.shape,
        hz.0,
        omega arith,
        omega arith,
        omega (arith, whole.le),
        laid_leaves n (n + 1) (omega arith) (omega arith) whole,
      );
      laid = laid_wide n m4 (omega arith) (omega arith) whole;
    }

pub loop_fits : {k : Place} {s : Scene} (e : SceneFits k s) (n m1 m2 m3 m4 : ℕ) (va : Option Location) (vb vc : Option Typing)
    (vd : Option ℤ) (vx : Option ir.Stmts) → When va (LocatedFits k s (n + 2) (n + 2))
    → When vb (TypingFits k s (n + 2) m1) → When vc (TypingFits k s m1 m2) → When vd (λ z. (z ≡ pos 0 → ⊥) × (m2 ≤ m3))
    → When vx (λ x. PhrasesFit k s.inside m3 m4 (stmts_phrases x))
    → When (option_map (loop_of s n) (unless (loop_rules s va vb vc (both_of va (both_of vb (both_of vc (both_of vd vx)))))
    (both_of va (both_of vb (both_of vc (both_of vd vx)))))) (LoopIs k s n m4)
loop_fits {k} {s} e n m1 m2 m3 m4 None vb vc vd vx ha hb hc hd hx =
    when_map {P = λ p. ⊥} (loop_of s n) (when_unless_none
    (loop_rules {A = Location × (Typing × (Typing × (ℤ × ir.Stmts)))} s None vb vc None)) (λ p b. absurd b)
loop_fits {k} {s} e n m1 m2 m3 m4 (Some l) None vc vd vx ha hb hc hd hx =
    when_map {P = λ p. ⊥} (loop_of s n) (when_unless_none
    (loop_rules {A = Location × (Typing × (Typing × (ℤ × ir.Stmts)))} s (Some l) None vc None)) (λ p b. absurd b)
loop_fits {k} {s} e n m1 m2 m3 m4 (Some l) (Some a) None vd vx ha hb hc hd hx =
    when_map {P = λ p. ⊥} (loop_of s n) (when_unless_none
    (loop_rules {A = Location × (Typing × (Typing × (ℤ × ir.Stmts)))} s (Some l) (Some a) None None)) (λ p b. absurd b)
loop_fits {k} {s} e n m1 m2 m3 m4 (Some l) (Some a) (Some b) None vx ha hb hc hd hx =
    when_map {P = λ p. ⊥} (loop_of s n) (when_unless_none
    (loop_rules {A = Location × (Typing × (Typing × (ℤ × ir.Stmts)))} s (Some l) (Some a) (Some b) None)) (λ p b. absurd b)
loop_fits {k} {s} e n m1 m2 m3 m4 (Some l) (Some a) (Some b) (Some z) None ha hb hc hd hx =
    when_map {P = λ p. ⊥} (loop_of s n) (when_unless_none
    (loop_rules {A = Location × (Typing × (Typing × (ℤ × ir.Stmts)))} s (Some l) (Some a) (Some b) None)) (λ p b. absurd b)
loop_fits {k} {s} e n m1 m2 m3 m4 (Some l) (Some a) (Some b) (Some z) (Some x) ha hb hc hd hx =
    when_map {P = λ p. LoopIs k s n m4 (loop_of s n p)} (loop_of s n)
    (when_unless (loop_rules {A = Location × (Typing × (Typing × (ℤ × ir.Stmts)))} s (Some l) (Some a) (Some b)
    (Some (l, (a, (b, (z, x))))))
    (l, (a, (b, (z, x)))) (λ q. loop_made e n m1 m2 m3 m4 l a b z x ha.gives hb.gives hc.gives hd.gives hx.gives
    (no_fault_alone (bad_loop s (Some a) (Some b) l) fault.TypeMismatch q)))
    (λ p g. g)

pub for_fits : {k : Place} {s : Scene} {lo hi : ℕ} (l : ir.Loop) → LoopIs k s lo hi l
    → PhrasesFit k s.inside lo hi (stmt_phrases (ir.ForTo l))
unfolding stmts_phrases
for_fits l h = laid_cons (StmtPhrase (ir.ForTo l)) h.loop h.laid

pub some_fits : {k : Place} {s : Scene} {lo hi : ℕ} (l : ir.Loop) → LoopIs k s lo hi l
    → PhrasesFit k s.inside lo hi (stmt_phrases (ir.SomeOf l))
unfolding stmts_phrases
some_fits l h = laid_cons (StmtPhrase (ir.SomeOf l)) h.loop h.laid

-- ---- statements with bodies

pub test_stmt : {k : Place} {i : Bool} {lo hi : ℕ} (t : ir.Test) → PhrasesFit k i lo hi (test_phrases t)
    → PhrasesFit k i lo hi (stmt_phrases (ir.TestStmt t))
unfolding stmts_phrases
test_stmt t h = laid_cons (StmtPhrase (ir.TestStmt t)) tt h

pub if_fits : {k : Place} {i : Bool} {lo m1 m2 m3 hi : ℕ} (p : ir.Test × (ir.Stmts × (ir.Arms × ir.Stmts)))
    → PhrasesFit k i lo m1 (test_phrases p.0) → PhrasesFit k i m1 m2 (stmts_phrases p.1.0) → PhrasesFit k i m2 m3 (arms_phrases p.1.1.0)
    → PhrasesFit k i m3 hi (stmts_phrases p.1.1.1) → PhrasesFit k i lo hi (stmt_phrases (if_of p))
unfolding stmts_phrases
if_fits p a b c d = laid_cons (StmtPhrase (if_of p)) tt (laid_join (laid_join (laid_join a b) c) d)

pub arms_fit : {k : Place} {i : Bool} {lo m1 m2 hi : ℕ} (p : ir.Test × (ir.Stmts × ir.Arms)) → PhrasesFit k i lo m1 (test_phrases p.0)
    → PhrasesFit k i m1 m2 (stmts_phrases p.1.0) → PhrasesFit k i m2 hi (arms_phrases p.1.1)
    → PhrasesFit k i lo hi (arms_phrases (arms_of p))
unfolding stmts_phrases
arms_fit p a b c = laid_join (laid_join a b) c

pub while_fits : {k : Place} {i : Bool} {lo mid hi : ℕ} (t : ir.Test) (x : ir.Stmts) → PhrasesFit k i lo mid (test_phrases t)
    → PhrasesFit k i mid hi (stmts_phrases x) → PhrasesFit k i lo hi (stmt_phrases (ir.While t x))
unfolding stmts_phrases
while_fits t x a b = laid_cons (StmtPhrase (ir.While t x)) tt (laid_join a b)

pub repeat_fits : {k : Place} {i : Bool} {lo mid hi : ℕ} (x : ir.Stmts) (t : ir.Test) → PhrasesFit k i lo mid (stmts_phrases x)
    → PhrasesFit k i mid hi (test_phrases t) → PhrasesFit k i lo hi (stmt_phrases (ir.Repeat x t))
unfolding stmts_phrases
repeat_fits x t a b = laid_cons (StmtPhrase (ir.Repeat x t)) tt (laid_join a b)

pub either_fits : {k : Place} {i : Bool} {lo mid hi : ℕ} (x : ir.Stmts) (rest : ir.Branches) → PhrasesFit k i lo mid (stmts_phrases x)
    → PhrasesFit k i mid hi (branches_phrases rest) → PhrasesFit k i lo hi (stmt_phrases (ir.Either (ir.more_branches x rest)))
unfolding stmts_phrases
either_fits x rest a b = laid_cons (StmtPhrase (ir.Either (ir.more_branches x rest))) tt (laid_join a b)

pub branches_fit : {k : Place} {i : Bool} {lo mid hi : ℕ} (x : ir.Stmts) (rest : ir.Branches) → PhrasesFit k i lo mid (stmts_phrases x)
    → PhrasesFit k i mid hi (branches_phrases rest) → PhrasesFit k i lo hi (branches_phrases (ir.more_branches x rest))
unfolding stmts_phrases
branches_fit x rest a b = laid_join a b

pub forall_fits : {k : Place} {lo mid hi : ℕ} (i : Bool) (x y : ir.Stmts) → PhrasesFit k true lo mid (stmts_phrases x)
    → PhrasesFit k true mid hi (stmts_phrases y) → PhrasesFit k i lo hi (stmt_phrases (ir.Forall x y))
unfolding stmts_phrases
forall_fits i x y a b = laid_cons (StmtPhrase (ir.Forall x y)) (laid_stays a, laid_stays b) (laid_outside i (laid_join a b))

pub commit_fits : {k : Place} {lo hi : ℕ} (i : Bool) (x : ir.Stmts) → PhrasesFit k true lo hi (stmts_phrases x)
    → PhrasesFit k i lo hi (stmt_phrases (ir.Commit x))
unfolding stmts_phrases
commit_fits i x a = laid_cons (StmtPhrase (ir.Commit x)) (laid_stays a) (laid_outside i a)

pub sequence_fits : {k : Place} {lo hi : ℕ} (i : Bool) (x : ir.Stmts) → PhrasesFit k true lo hi (stmts_phrases x)
    → PhrasesFit k i lo hi (test_phrases (ir.Seq x))
unfolding stmts_phrases
sequence_fits i x a = laid_cons (TestPhrase (ir.Seq x)) (laid_stays a) (laid_outside i a)

pub no_arms_laid : (k : Place) (i : Bool) (n : ℕ) → PhrasesFit k i n n (arms_phrases ir.no_arms)
unfolding stmts_phrases
no_arms_laid k i n = laid_nil k i n n (omega arith)

pub no_branches_laid : (k : Place) (i : Bool) (n : ℕ) → PhrasesFit k i n n (branches_phrases ir.no_branches)
unfolding stmts_phrases
no_branches_laid k i n = laid_nil k i n n (omega arith)

pub no_else_laid : (k : Place) (i : Bool) (n : ℕ) → PhrasesFit k i n n (else_phrases ir.no_else)
unfolding stmts_phrases
no_else_laid k i n = laid_nil k i n n (omega arith)

pub else_laid : {k : Place} {i : Bool} {lo hi : ℕ} (x : ir.Stmts) → PhrasesFit k i lo hi (stmts_phrases x)
    → PhrasesFit k i lo hi (else_phrases (ir.else_part x))
unfolding stmts_phrases
else_laid x h = h

pub line_fits : {k : Place} {i : Bool} {lo hi : ℕ} (x : ir.Stmts) → PhrasesFit k i lo hi (stmts_phrases x)
    → PhrasesFit k i lo hi (stmts_phrases (with_line x))
unfolding stmts_phrases
line_fits {k} {i} {lo} {hi} x h = joined_fit x (one_stmt ir.WriteLine) h
    (laid_one (laid_cons (StmtPhrase ir.WriteLine) tt (laid_nil k i hi hi (omega arith))))

pub one_when : {k : Place} {i : Bool} {lo hi : ℕ} {v : Option ir.Stmt} → When v (λ x. PhrasesFit k i lo hi (stmt_phrases x))
    → When (option_map one_stmt v) (λ x. PhrasesFit k i lo hi (stmts_phrases x))
one_when {k} {i} {lo} {hi} {v} h = when_map one_stmt h (λ x g. one_fits x g)

-- ---- CASE

-- the value of a CASE is there and simple
abbrev pub CaseIs : Scene → Option Typing → Type 0
CaseIs s None = ⊥
CaseIs s (Some c) = is_structured s c.shape ≡ false

-- the labels of arms, for a value that is simple
pub record ArmsFit (k : Place) (s : Scene) (case : Option Typing) (lo hi : ℕ) (arms : ir.CaseArms) : Type 0 where
  pub laid : PhrasesFit k s.inside lo hi (cases_phrases arms)
  pub labels : CaseIs s case → AllByRecursion IsOrdered (labels_of arms)

pub record SpansFit (s : Scene) (case : Option Typing) (lo hi : ℕ) (spans : List Span) : Type 0 where
  pub le : lo ≤ hi
  pub ordered : CaseIs s case → AllByRecursion IsOrdered (ranges_of spans)

pub record SpanFits (s : Scene) (case : Option Typing) (lo hi : ℕ) (span : Span) : Type 0 where
  pub le : lo ≤ hi
  pub ordered : CaseIs s case → IsOrdered span.range

cases_are : (a b : ir.CaseArms) → cases_phrases (append_cases a b) ≡ cases_phrases a ++ cases_phrases b
unfolding stmts_phrases
cases_are ir.no_cases b = refl
cases_are (ir.more_cases labels body rest) b = ap (λ xs. stmts_phrases body ++ xs) (cases_are rest b)
    ∙ sym (append_assoc (stmts_phrases body) (cases_phrases rest) (cases_phrases b))

labels_are : (a b : ir.CaseArms) → AllByRecursion IsOrdered (labels_of a) → AllByRecursion IsOrdered (labels_of b)
    → AllByRecursion IsOrdered (labels_of (append_cases a b))
labels_are ir.no_cases b h g = g
labels_are (ir.more_cases labels body rest) b h g =
    let front = each_of_front IsOrdered labels (labels_of rest) h in
    let back = each_of_back IsOrdered labels (labels_of rest) h in
    each_of_append IsOrdered labels (labels_of (append_cases rest b)) front (labels_are rest b back g)

pub arms_join : {k : Place} {s : Scene} {case : Option Typing} {lo mid hi : ℕ} (a b : ir.CaseArms) → ArmsFit k s case lo mid a
    → ArmsFit k s case mid hi b → ArmsFit k s case lo hi (append_cases a b)
arms_join {k} {s} {case} {lo} {mid} {hi} a b p q = record {
  laid = subst (λ xs. PhrasesFit k s.inside lo hi xs) (sym (cases_are a b)) (laid_join p.laid q.laid);
  labels = λ c. labels_are a b (p.labels c) (q.labels c);
}

pub no_arms_fit : (k : Place) (s : Scene) (case : Option Typing) (n : ℕ) → ArmsFit k s case n n ir.no_cases
unfolding stmts_phrases
no_arms_fit k s case n = record { laid = laid_nil k s.inside n n (omega arith); labels = λ c. tt }

pub arm_fits : {k : Place} {s : Scene} {case : Option Typing} {lo mid hi : ℕ} (p : List Span × ir.Stmts) → SpansFit s case lo mid p.0
    → PhrasesFit k s.inside mid hi (stmts_phrases p.1) → ArmsFit k s case lo hi (arm_of p)
unfolding stmts_phrases
arm_fits {k} {s} {case} {lo} {mid} {hi} p g h = record {
  laid = laid_wide lo hi g.le (omega arith) (laid_one h);
  labels = λ c. each_of_append IsOrdered (ranges_of p.0) [] (g.ordered c) tt;
}

ordered_span : (s : Scene) (x y : Typing) (a b : Option ℤ) → is_above a b ≡ false
    → When (span_from (base s x.shape) a b) (λ z. IsOrdered z.range)
ordered_span s x y (Some a) (Some b) h = when_some _ (omega (arith, ints, h))
ordered_span s x y (Some a) None h = when_none
ordered_span s x y None b h = when_none

label_ordered : (s : Scene) (case : Option Typing) (x y : Typing) → holds (other_label s (Some x) (Some y)) case ≡ false
    → low_above_high s (x, y) ≡ false → CaseIs s case → is_above x.constant y.constant ≡ false
label_ordered s None x y p q c = absurd c
label_ordered s (Some z) x y p q c =
    let bases : (other_base s z.shape x || other_base s z.shape y) ≡ false =
    and_false (not (is_structured s z.shape)) (other_base s z.shape x || other_base s z.shape y) p (ap not c) in
    let low : base s z.shape ≡ base s x.shape = same_number (base s z.shape) (base s x.shape) (or_left (other_base s z.shape x) _ bases) in
    let high : base s z.shape ≡ base s y.shape =
    same_number (base s z.shape) (base s y.shape) (or_right (other_base s z.shape x) _ bases) in
    and_false (ends_with s (x, y)) (is_above x.constant y.constant) q (eq-eqb (base s x.shape) (base s y.shape) (sym low ∙ high))

-- a label with both ends
pub label_fits : {k : Place} {s : Scene} (e : SceneFits k s) {lo mid hi : ℕ} (case : Option Typing) (earlier : List Span)
    (x y : Option Typing) → When x (λ t. lo ≤ mid) → When y (λ t. mid ≤ hi)
    → When (option_and_then (span_of s) (unless (label_rules s case earlier (span_of s) x y (both_of x y)) (both_of x y)))
    (SpanFits s case lo hi)
label_fits {k} {s} e {lo} {mid} {hi} case earlier None y h g =
    when_then {P = λ p. ⊥} (span_of s) (when_unless_none (label_rules {A = Typing × Typing} s case earlier (span_of s) None y None))
    (λ p b. absurd b)
label_fits {k} {s} e {lo} {mid} {hi} case earlier (Some x) None h g =
    when_then {P = λ p. ⊥} (span_of s) (when_unless_none (label_rules {A = Typing × Typing} s case earlier (span_of s) (Some x) None None))
    (λ p b. absurd b)
label_fits {k} {s} e {lo} {mid} {hi} case earlier (Some x) (Some y) h g =
    when_then {P = λ p. (p ≡ (x, y)) × (CaseIs s case → is_above x.constant y.constant ≡ false)} (span_of s)
    (when_unless (label_rules {A = Typing × Typing} s case earlier (span_of s) (Some x) (Some y) (Some (x, y))) (x, y)
    (λ q. (refl, λ c. fine q c)))
    (λ p r. subst (λ z. When (span_of s z) (SpanFits s case lo hi)) (sym r.0)
    (when_all (span_of s (x, y)) (λ z i.
    record { le = omega (arith, h.gives, g.gives); ordered = λ c. when_is z i (ordered_span s x y x.constant y.constant (r.1 c)) })))
  where
    fine : when (holds (other_label s (Some x) (Some y)) case) fault.TypeMismatch ++ when (low_above_high s (x, y)) fault.ConstRange
        ++ when (label_twice s earlier (span_of s) (x, y)) fault.LabelTwice ≡ [] → CaseIs s case → is_above x.constant y.constant ≡ false
    fine q c =
        let l : when (holds (other_label s (Some x) (Some y)) case) fault.TypeMismatch
        ++ when (low_above_high s (x, y)) fault.ConstRange ≡ [] =
        no_faults_left _ (when (label_twice s earlier (span_of s) (x, y)) fault.LabelTwice) q in
        label_ordered s case x y (no_fault (holds (other_label s (Some x) (Some y)) case) fault.TypeMismatch _ l).0
        (no_fault_alone (low_above_high s (x, y)) fault.ConstRange
        (no_fault (holds (other_label s (Some x) (Some y)) case) fault.TypeMismatch _ l).1) c

pub spans_fit : {s : Scene} {case : Option Typing} {lo mid hi : ℕ} (p : Span × List Span) → SpanFits s case lo mid p.0
    → SpansFit s case mid hi p.1 → SpansFit s case lo hi (cons_span p)
spans_fit p g h = record { le = omega (arith, g.le, h.le); ordered = λ c. (g.ordered c, h.ordered c) }

pub spans_when : {s : Scene} {case : Option Typing} {lo mid hi : ℕ} {v : Option Span} {w : Option (List Span)}
    → When v (SpanFits s case lo mid) → When w (SpansFit s case mid hi) → When (option_map cons_span (both_of v w)) (SpansFit s case lo hi)
spans_when h g = when_map cons_span (when_both h g) (λ p x. spans_fit p x.0 x.1)

pub arms_when : {k : Place} {s : Scene} {case : Option Typing} {lo mid hi : ℕ} {v w : Option ir.CaseArms} → When v (ArmsFit k s case lo mid)
    → When w (ArmsFit k s case mid hi) → When (option_map joined_cases (both_of v w)) (ArmsFit k s case lo hi)
arms_when h g = when_map joined_cases (when_both h g) (λ p x. arms_join p.0 p.1 x.0 x.1)

abbrev pub case_of : Typing × (ir.CaseArms × ir.Else) → ir.Stmt
case_of p = ir.Case (value_of p.0.meaning) p.1.0 p.1.1

pub case_fits : {k : Place} {s : Scene} (e : SceneFits k s) {lo mid m2 hi : ℕ} (v : Option Typing) (w : Option (ir.CaseArms × ir.Else))
    → When v (TypingFits k s lo mid)
    → When w (λ p. ArmsFit k s v mid m2 p.0 × PhrasesFit k s.inside m2 hi (else_phrases p.1))
    → When (option_map case_of (unless (case_rules s v (both_of v w)) (both_of v w))) (λ x. PhrasesFit k s.inside lo hi (stmt_phrases x))
unfolding stmts_phrases
case_fits {k} {s} e {lo} {mid} {m2} {hi} None w h g =
    when_map {P = λ p. ⊥} case_of (when_unless_none (case_rules {A = Typing × (ir.CaseArms × ir.Else)} s None None)) (λ p b. absurd b)
case_fits {k} {s} e {lo} {mid} {m2} {hi} (Some t) None h g =
    when_map {P = λ p. ⊥} case_of (when_unless_none (case_rules {A = Typing × (ir.CaseArms × ir.Else)} s (Some t) None)) (λ p b. absurd b)
case_fits {k} {s} e {lo} {mid} {m2} {hi} (Some t) (Some p) h g =
    when_map {P = λ x. PhrasesFit k s.inside lo hi (stmt_phrases (case_of x))} case_of
    (when_unless (case_rules {A = Typing × (ir.CaseArms × ir.Else)} s (Some t) (Some (t, p))) (t, p)
    (λ q. made (no_fault_alone (structured s t) fault.TypeMismatch q))) (λ x y. y)
  where
    made : structured s t ≡ false → PhrasesFit k s.inside lo hi (stmt_phrases (case_of (t, p)))
    made simple = laid_cons (StmtPhrase (case_of (t, p))) (g.gives.0.labels simple)
        (laid_join (laid_join (value_laid e simple h.gives) g.gives.0.laid) g.gives.1)

-- ---- RETURN, READ and WRITE

return_form : (k : Place) (s : Scene) (r : Returns) → ReturnsFit (own k) r → other_form true r ≡ false → IsSome (own k).result
return_form k s nothing h q = absurd (let bad : true ≡ false = q in cc)
return_form k s (a_value shape) h q = h

bare_form : (k : Place) (s : Scene) (r : Returns) → ReturnsFit (own k) r → other_form false r ≡ false → IsNone (own k).result
bare_form k s nothing h q = h
bare_form k s (a_value shape) h q = absurd (let bad : true ≡ false = q in cc)

return_simple : {k : Place} {s : Scene} (e : SceneFits k s) (r : Returns) (t : Typing) → other_result s r t ≡ false
    → other_form true r ≡ false → ReturnsSimple s r → is_structured s t.shape ≡ false
return_simple e nothing t q f h = absurd (let bad : true ≡ false = f in cc)
return_simple e (a_value None) t q f h = absurd h
return_simple {k} {s} e (a_value (Some shape)) t q f h = simple_too e shape t.shape (same_number (base s shape) (base s t.shape) q) h

abbrev return_of : Typing → ir.Stmt
return_of t = ir.Return (ir.some_result (value_of t.meaning))

pub return_fits : {k : Place} {s : Scene} (e : SceneFits k s) {lo hi : ℕ} (v : Option Typing) → When v (TypingFits k s lo hi)
    → When (option_map return_of (unless (return_rules s true v) v)) (λ x. PhrasesFit k s.inside lo hi (stmt_phrases x))
unfolding stmts_phrases
return_fits {k} {s} e {lo} {hi} v h =
    when_map {P = λ t. PhrasesFit k s.inside lo hi (stmt_phrases (return_of t))} return_of
    (when_node (return_rules s true) v h (λ t g q. made t g q)) (λ t g. g)
  where
    made : (t : Typing) → TypingFits k s lo hi t
        → when (other_result s s.returns t) fault.TypeMismatch ++ when (other_form true s.returns) fault.ReturnForm
        ++ when s.inside fault.JumpOut ≡ [] → PhrasesFit k s.inside lo hi (stmt_phrases (return_of t))
    made t g q =
        let l : when (other_result s s.returns t) fault.TypeMismatch ++ when (other_form true s.returns) fault.ReturnForm ≡ [] =
        no_faults_left _ (when s.inside fault.JumpOut) q in
        let form : other_form true s.returns ≡ false =
        no_fault_alone (other_form true s.returns) fault.ReturnForm (no_fault (other_result s s.returns t) fault.TypeMismatch _ l).1 in
        laid_cons (StmtPhrase (return_of t)) (
          no_fault_alone s.inside fault.JumpOut
              (no_faults_right (when (other_result s s.returns t) fault.TypeMismatch ++ when (other_form true s.returns) fault.ReturnForm) _
              q),
          return_form k s s.returns e.returns form,
        )
        (value_laid e (return_simple e s.returns t (no_fault (other_result s s.returns t) fault.TypeMismatch _ l).0 form e.result) g)

pub bare_return_fits : {k : Place} {s : Scene} (e : SceneFits k s) (n : ℕ) (t : Typing)
    → When (option_map (λ t. ir.Return ir.no_result) (unless (return_rules s false None) (Some t)))
    (λ x. PhrasesFit k s.inside n n (stmt_phrases x))
unfolding stmts_phrases
bare_return_fits {k} {s} e n t = when_map {P = λ t. PhrasesFit k s.inside n n (stmt_phrases (ir.Return ir.no_result))}
    (λ t. ir.Return ir.no_result) (when_unless (return_rules s false None) t (λ q. made q)) (λ t g. g)
  where
    made : when (other_form false s.returns) fault.ReturnForm ++ when s.inside fault.JumpOut ≡ []
        → PhrasesFit k s.inside n n (stmt_phrases (ir.Return ir.no_result))
    made q =
        laid_cons (StmtPhrase (ir.Return ir.no_result)) (
          no_fault_alone s.inside fault.JumpOut (no_fault (other_form false s.returns) fault.ReturnForm _ q).1,
          bare_form k s s.returns e.returns (no_fault (other_form false s.returns) fault.ReturnForm _ q).0,
        )
        (laid_nil k s.inside n n (omega arith))

true_of_or : (a b : Bool) → not (a || b) ≡ false → (a ≡ true) ⊎ (b ≡ true)
true_of_or true b h = inl refl
true_of_or false true h = inr refl
true_of_or false false h = absurd (let bad : true ≡ false = h in cc)

readable_simple : {k : Place} {s : Scene} (e : SceneFits k s) (shape : ℕ) → not (has_integer s shape || has_char s shape) ≡ false
    → is_structured s shape ≡ false
readable_simple {k} {s} e shape q = by (true_of_or (has_integer s shape) (has_char s shape) q)
  where
    by : (has_integer s shape ≡ true) ⊎ (has_char s shape ≡ true) → is_structured s shape ≡ false
    by (inl h) = base_simple e shape 0 (omega arith) h
    by (inr h) = base_simple e shape 1 (omega arith) h

writable_simple : {k : Place} {s : Scene} (e : SceneFits k s) (shape : ℕ)
    → not (has_integer s shape || has_char s shape || has_boolean s shape) ≡ false → is_structured s shape ≡ false
writable_simple {k} {s} e shape q = by (true_of_or (has_integer s shape || has_char s shape) (has_boolean s shape) q)
  where
    by : ((has_integer s shape || has_char s shape) ≡ true) ⊎ (has_boolean s shape ≡ true) → is_structured s shape ≡ false
    by (inl h) = readable_simple e shape (ap not h)
    by (inr h) = base_simple e shape 2 (omega arith) h

pub read_fits : {k : Place} {s : Scene} (e : SceneFits k s) {lo hi : ℕ} (v : Option Location) → When v (LocatedFits k s lo hi)
    → When (option_map (read_stmts s) (unless (read_rules s v) v)) (λ x. PhrasesFit k s.inside lo hi (stmts_phrases x))
unfolding stmts_phrases
read_fits {k} {s} e {lo} {hi} v h =
    when_map {P = λ l. PhrasesFit k s.inside lo hi (stmts_phrases (read_stmts s l))} (read_stmts s)
    (when_node (read_rules s) v h (λ l g q. made l g (readable_simple e l.shape (no_fault_alone (unreadable s l) fault.BadRead q))))
    (λ l g. g)
  where
    made : (l : Location) → LocatedFits k s lo hi l → is_structured s l.shape ≡ false
        → PhrasesFit k s.inside lo hi (stmts_phrases (read_stmts s l))
    made l g simple = laid_one (laid_cons (StmtPhrase (ir.Read (desig_of l) (read_as s l.shape) (range s l.shape)))
        (g.left ∙ e.table.simple l.shape simple, e.table.ordered l.shape) (located_laid g))

pub write_fits : {k : Place} {s : Scene} (e : SceneFits k s) {lo hi : ℕ} (v : Option Typing) → When v (TypingFits k s lo hi)
    → When (option_map (write_stmts s) (unless (write_rules s v) v)) (λ x. PhrasesFit k s.inside lo hi (stmts_phrases x))
unfolding stmts_phrases
write_fits {k} {s} e {lo} {hi} v h =
    when_map {P = λ t. PhrasesFit k s.inside lo hi (stmts_phrases (write_stmts s t))} (write_stmts s)
    (when_node (write_rules s) v h (λ t g q. made t g (writable_simple e t.shape (no_fault_alone (unwritable s t) fault.BadWrite q))))
    (λ t g. g)
  where
    made : (t : Typing) → TypingFits k s lo hi t → is_structured s t.shape ≡ false
        → PhrasesFit k s.inside lo hi (stmts_phrases (write_stmts s t))
    made t g simple = laid_one (laid_cons (StmtPhrase (ir.WriteExpr (value_of t.meaning) (write_as s t.shape))) tt (value_laid e simple g))

pub text_fits : {k : Place} (s : Scene) (n : ℕ) (text : List ℕ)
    → When (unless (text_rules s (Some (one_stmt (ir.WriteText text)))) (Some (one_stmt (ir.WriteText text))))
    (λ x. PhrasesFit k s.inside n n (stmts_phrases x))
unfolding stmts_phrases
text_fits {k} s n text = when_unless (text_rules s (Some (one_stmt (ir.WriteText text)))) (one_stmt (ir.WriteText text))
    (λ q. laid_one (laid_cons (StmtPhrase (ir.WriteText text)) tt (laid_nil k s.inside n n (omega arith))))

pub item_fits : {k : Place} {s : Scene} (e : SceneFits k s) (n node : ℕ) (o : Option (ℕ × ℕ)) (j : Judgement Typing)
    → When j.value (TypingFits k s n j.next)
    → When (item_of s n node o j).value (λ x. PhrasesFit k s.inside n (item_of s n node o j).next (stmts_phrases x))
item_fits {k} {s} e n node None j h = write_fits e j.value h
item_fits {k} {s} e n node (Some l) j h = by (nat_eq (length (literal_at s l.1)) 1)
  where
    by : (b : Bool) → When (if_true b (λ _. with (write_stmts s) (at_node node (write_rules s) j))
        (λ _. at_node l.0 (text_rules s) (fine n (one_stmt (ir.WriteText (literal_at s l.1)))))).value
        (λ x. PhrasesFit k s.inside n (if_true b (λ _. with (write_stmts s) (at_node node (write_rules s) j))
        (λ _. at_node l.0 (text_rules s) (fine n (one_stmt (ir.WriteText (literal_at s l.1)))))).next (stmts_phrases x))
    by true = write_fits e j.value h
    by false = text_fits s n (literal_at s l.1)
