-- What goes on as lists of parts are put together.
use Rattle.std.proofs.Common.{◌≡◌, ℕ, Vec, Global, List, [], ◌∷◌, ◌++◌, Option, None, Some, refl, sym, ap, ◌∙◌}
use Rattle.std.specs.Prelude.{option_map}
use Rattle.alma_ir.specs.Tree as ir
use Rattle.alma_ir.specs.declared.phrase.Arg.{Arg}
use Rattle.alma_ir.specs.declared.phrase.Arm.{Arm}
use Rattle.alma_ir.specs.declared.phrase.CaseArm.{CaseArm}
use Rattle.alma_ir.specs.declared.phrase.Branch.{Branch}
use Rattle.alma_ir.specs.View.{args_list, arms_list, cases_list, branches_list, arg_of, test_of, stmts_list}
use Rattle.alma_rules.specs.Judgement.{Judgement, of_value, and_then, both_of, with}
use Rattle.alma_rules.specs.Parts as parts
use Rattle.alma_check_rules.specs.declared.part.Span.{Span}
use Rattle.alma_check_rules.specs.Views.{span_view, spans_view, spans_in, args_in, gather}
use Rattle.alma_rules.specs.Nodes as nodes
use Rattle.alma_check_build_expr.specs.Lists.{arms_in, branches_in, guarded_of, items_in, push}
use Rattle.alma_rules.specs.Appends.{append_args, append_arms, append_branches}
use Rattle.alma_rules.proofs.Onwards.{onward_stops, onward_bad, onward_none, onward_some, passed_on, no_memory_on, append_more}
use Rattle.alma_check_join_stmt.specs.Onward.{onward_operands, onward_args, onward_stmts, onward_arms, onward_cases, onward_branches}
use Rattle.alma_check_join_stmt.specs.Onward.{onward_spans}

-- ---- lists put together

pub args_push : (xs : List Arg) (x : Arg) (b : ir.Args)
    → append_args (args_list xs) (ir.more_args (arg_of x) b) ≡ append_args (args_list (xs ++ x ∷ [])) b
args_push [] x b = refl
args_push (y ∷ xs) x b = ap (ir.more_args (arg_of y)) (args_push xs x b)

pub arms_push : (xs : List Arm) (x : Arm) (b : ir.Arms)
    → append_arms (arms_list xs) (ir.more_arms (test_of x.cond) (stmts_list x.body.items) b) ≡ append_arms (arms_list (xs ++ x ∷ [])) b
arms_push [] x b = refl
arms_push (y ∷ xs) x b = ap (ir.more_arms (test_of y.cond) (stmts_list y.body.items)) (arms_push xs x b)

pub branches_push : (xs : List Branch) (x : Branch) (b : ir.Branches)
    → append_branches (branches_list xs) (ir.more_branches (stmts_list x.body.items) b) ≡ append_branches (branches_list (xs ++ x ∷ [])) b
branches_push [] x b = refl
branches_push (y ∷ xs) x b = ap (ir.more_branches (stmts_list y.body.items)) (branches_push xs x b)

pub stmts_join : (a b c : ir.Stmts) → parts.append_stmts a (parts.append_stmts b c) ≡ parts.append_stmts (parts.append_stmts a b) c
stmts_join ir.no_stmts b c = refl
stmts_join (ir.more_stmts line x a) b c = ap (ir.more_stmts line x) (stmts_join a b c)

pub cases_append : (xs ys : List CaseArm) → cases_list (xs ++ ys) ≡ parts.append_cases (cases_list xs) (cases_list ys)
cases_append [] ys = refl
cases_append (x ∷ xs) ys = ap (ir.more_cases x.labels.items (stmts_list x.body.items)) (cases_append xs ys)

pub cases_join : (a b c : ir.CaseArms) → parts.append_cases a (parts.append_cases b c) ≡ parts.append_cases (parts.append_cases a b) c
cases_join ir.no_cases b c = refl
cases_join (ir.more_cases ls s a) b c = ap (ir.more_cases ls s) (cases_join a b c)

-- what a list stands for that was put behind another, where a list stands for what its parts do
module _ {T R : Type 0} (f : List T → R) (g : R × R → R) where
  shown : (v : Option (Vec T Global)) → option_map (λ x. f x.items) v ≡ option_map f (items_in v)
  shown None = refl
  shown (Some v) = refl

  parted : ((xs ys : List T) → f (xs ++ ys) ≡ g (f xs, f ys)) → (a b : Option (Vec T Global))
      → option_map f (option_map (λ p. p.0 ++ p.1) (both_of (items_in a) (items_in b)))
      ≡ option_map g (both_of (option_map (λ x. f x.items) a) (option_map (λ x. f x.items) b))
  parted h None b = refl
  parted h (Some a) None = refl
  parted h (Some a) (Some b) = ap Some (h a.items b.items)

  pub whole_is : ((xs ys : List T) → f (xs ++ ys) ≡ g (f xs, f ys)) → (v a b : Option (Vec T Global))
      → items_in v ≡ option_map (λ p. p.0 ++ p.1) (both_of (items_in a) (items_in b))
      → option_map (λ x. f x.items) v ≡ option_map g (both_of (option_map (λ x. f x.items) a) (option_map (λ x. f x.items) b))
  whole_is h v a b e = shown v ∙ ap (option_map f) e ∙ parted h a b

pub spans_push : (xs : List Span) (x : Span) → spans_view (xs ++ x ∷ []) ≡ spans_view xs ++ span_view x ∷ []
spans_push [] x = refl
spans_push (y ∷ xs) x = ap (λ l. span_view y ∷ l) (spans_push xs x)

-- ---- a list with one more part, and the rest

pub operand_added : (o : parts.Operator) (xs : Option parts.Operands) (v : Option parts.Typing) (j : Judgement parts.Typing) (m : ℕ)
    (rest : ℕ → Judgement parts.Operands) → j ≡ of_value m v
    → onward_operands xs (with (nodes.cons_operand o) (and_then j rest)) ≡ onward_operands (gather o xs v) (rest m)
operand_added o None v j m rest h = onward_none (λ (a b : parts.Operands). a ++ b) (nodes.cons_operand o) j m v rest h
operand_added o (Some xs) None j m rest h = onward_bad (λ (a b : parts.Operands). a ++ b) (nodes.cons_operand o) (Some xs) j m rest h
operand_added o (Some xs) (Some t) j m rest h =
    onward_some (λ (a b : parts.Operands). a ++ b) (nodes.cons_operand o) xs (xs ++ (o, t) ∷ []) t j m rest h
    (λ b. sym (append_more xs ((o, t) ∷ []) b))

pub arg_added : (k kept : Option (Vec Arg Global)) (v : Option Arg) (j : Judgement ir.Arg) (m : ℕ) (rest : ℕ → Judgement ir.Args)
    → j ≡ of_value m (option_map arg_of v) → items_in k ≡ push (items_in kept) v
    → onward_args (args_in kept) (with nodes.cons_arg (and_then j rest)) ≡ onward_args (args_in k) (rest m)
arg_added None None v j m rest h is = onward_none append_args nodes.cons_arg j m _ rest h
arg_added None (Some xs) None j m rest h is = onward_bad append_args nodes.cons_arg (Some (args_list xs.items)) j m rest h
arg_added None (Some xs) (Some x) j m rest h is = absurd (cc)
arg_added (Some ys) None v j m rest h is = absurd (cc)
arg_added (Some ys) (Some xs) None j m rest h is = absurd (cc)
arg_added (Some ys) (Some xs) (Some x) j m rest h is =
    let e : ys.items ≡ xs.items ++ x ∷ [] = cc in
    onward_some append_args nodes.cons_arg (args_list xs.items) (args_list ys.items) (arg_of x) j m rest h
    (λ b. args_push xs.items x b ∙ ap (λ l. append_args (args_list l) b) (sym e))

pub arm_added : (k kept : Option (Vec Arm Global)) (v : Option Arm) (j : Judgement (ir.Test × ir.Stmts)) (m : ℕ)
    (rest : ℕ → Judgement ir.Arms)
    → j ≡ of_value m (option_map guarded_of v) → items_in k ≡ push (items_in kept) v
    → onward_arms (arms_in kept) (with (λ p. ir.more_arms p.0.0 p.0.1 p.1) (and_then j rest)) ≡ onward_arms (arms_in k) (rest m)
arm_added None None v j m rest h is = onward_none append_arms (λ p. ir.more_arms p.0.0 p.0.1 p.1) j m _ rest h
arm_added None (Some xs) None j m rest h is =
    onward_bad append_arms (λ p. ir.more_arms p.0.0 p.0.1 p.1) (Some (arms_list xs.items)) j m rest h
arm_added None (Some xs) (Some x) j m rest h is = absurd (cc)
arm_added (Some ys) None v j m rest h is = absurd (cc)
arm_added (Some ys) (Some xs) None j m rest h is = absurd (cc)
arm_added (Some ys) (Some xs) (Some x) j m rest h is =
    let e : ys.items ≡ xs.items ++ x ∷ [] = cc in
    onward_some append_arms (λ p. ir.more_arms p.0.0 p.0.1 p.1) (arms_list xs.items) (arms_list ys.items) (guarded_of x) j m rest h
    (λ b. arms_push xs.items x b ∙ ap (λ l. append_arms (arms_list l) b) (sym e))

pub branch_added : (k kept : Option (Vec Branch Global)) (v : Option Branch) (j : Judgement ir.Stmts) (m : ℕ)
    (rest : ℕ → Judgement ir.Branches)
    → j ≡ of_value m (option_map (λ b. stmts_list b.body.items) v) → items_in k ≡ push (items_in kept) v
    → onward_branches (branches_in kept) (with (λ p. ir.more_branches p.0 p.1) (and_then j rest)) ≡ onward_branches (branches_in k) (rest m)
branch_added None None v j m rest h is = onward_none append_branches (λ p. ir.more_branches p.0 p.1) j m _ rest h
branch_added None (Some xs) None j m rest h is =
    onward_bad append_branches (λ p. ir.more_branches p.0 p.1) (Some (branches_list xs.items)) j m rest h
branch_added None (Some xs) (Some x) j m rest h is = absurd (cc)
branch_added (Some ys) None v j m rest h is = absurd (cc)
branch_added (Some ys) (Some xs) None j m rest h is = absurd (cc)
branch_added (Some ys) (Some xs) (Some x) j m rest h is =
    let e : ys.items ≡ xs.items ++ x ∷ [] = cc in
    onward_some append_branches (λ p. ir.more_branches p.0 p.1) (branches_list xs.items) (branches_list ys.items) (stmts_list x.body.items)
    j m rest h
    (λ b. branches_push xs.items x b ∙ ap (λ l. append_branches (branches_list l) b) (sym e))

pub span_added : (k kept : Option (Vec Span Global)) (v : Option Span) (j : Judgement parts.Span) (m : ℕ)
    (rest : ℕ → Judgement (List parts.Span))
    → j ≡ of_value m (option_map span_view v) → items_in k ≡ push (items_in kept) v
    → onward_spans (spans_in kept) (with nodes.cons_span (and_then j rest)) ≡ onward_spans (spans_in k) (rest m)
span_added None None v j m rest h is = onward_none (λ (a b : List parts.Span). a ++ b) nodes.cons_span j m _ rest h
span_added None (Some xs) None j m rest h is =
    onward_bad (λ (a b : List parts.Span). a ++ b) nodes.cons_span (Some (spans_view xs.items)) j m rest h
span_added None (Some xs) (Some x) j m rest h is = absurd (cc)
span_added (Some ys) None v j m rest h is = absurd (cc)
span_added (Some ys) (Some xs) None j m rest h is = absurd (cc)
span_added (Some ys) (Some xs) (Some x) j m rest h is =
    let e : ys.items ≡ xs.items ++ x ∷ [] = cc in
    onward_some (λ (a b : List parts.Span). a ++ b) nodes.cons_span (spans_view xs.items) (spans_view ys.items) (span_view x) j m rest h
    (λ b. sym (append_more (spans_view xs.items) (span_view x ∷ []) b) ∙ ap (λ l. l ++ b) (sym (spans_push xs.items x))
    ∙ ap (λ l. spans_view l ++ b) (sym e))

-- statements and arms of CASE behind others
pub stmts_added : (xs v : Option ir.Stmts) (j : Judgement ir.Stmts) (m : ℕ) (rest : ℕ → Judgement ir.Stmts) → j ≡ of_value m v
    → onward_stmts xs (with parts.joined_stmts (and_then j rest)) ≡ onward_stmts (option_map parts.joined_stmts (both_of xs v)) (rest m)
stmts_added None v j m rest h = onward_none parts.append_stmts parts.joined_stmts j m v rest h
stmts_added (Some xs) None j m rest h = onward_bad parts.append_stmts parts.joined_stmts (Some xs) j m rest h
stmts_added (Some xs) (Some x) j m rest h =
    onward_some parts.append_stmts parts.joined_stmts xs (parts.append_stmts xs x) x j m rest h (λ b. stmts_join xs x b)

pub cases_added : (xs v : Option ir.CaseArms) (j : Judgement ir.CaseArms) (m : ℕ) (rest : ℕ → Judgement ir.CaseArms) → j ≡ of_value m v
    → onward_cases xs (with nodes.joined_cases (and_then j rest)) ≡ onward_cases (option_map nodes.joined_cases (both_of xs v)) (rest m)
cases_added None v j m rest h = onward_none parts.append_cases nodes.joined_cases j m v rest h
cases_added (Some xs) None j m rest h = onward_bad parts.append_cases nodes.joined_cases (Some xs) j m rest h
cases_added (Some xs) (Some x) j m rest h =
    onward_some parts.append_cases nodes.joined_cases xs (parts.append_cases xs x) x j m rest h (λ b. cases_join xs x b)

pub ruleset lists = (
  onward_stops,
  passed_on,
  no_memory_on,
  operand_added,
  arg_added,
  arm_added,
  branch_added,
  span_added,
  stmts_added,
  cases_added,
)
