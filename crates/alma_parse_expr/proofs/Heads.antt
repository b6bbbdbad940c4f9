-- What reading a part is where the next token does not begin it, and where it does.
use Rattle.std.proofs.Common.{◌≡◌, true, false, List, [], ◌∷◌, refl, sym, subst}
use Rattle.alma_tree.specs.declared.kind.Kind.{Kind}
use Rattle.alma_tree.specs.declared.kind.Kind.TheVariants as kinds
use Rattle.alma_tree.specs.declared.leaf.AddOperator.{AddOperator}
use Rattle.alma_tree.specs.declared.leaf.AddOperator.TheVariants as adds
use Rattle.alma_tree.specs.declared.leaf.MulOperator.{MulOperator}
use Rattle.alma_tree.specs.declared.leaf.MulOperator.TheVariants as muls
use Rattle.alma_tree.specs.declared.leaf.Relation.{Relation}
use Rattle.alma_tree.specs.declared.leaf.Relation.TheVariants as relations
use Rattle.alma_tree.specs.Depth.{opens, closes}
use Rattle.alma_tree.specs.Spelling.{add_kind, mul_kind, relation_kind}
use Rattle.alma_grammar.specs.Parts.{Part, one, factor_part, primary_part, factor_tail, term_tail, compared_part, args_part, args_inside}
use Rattle.alma_grammar.specs.Parts.{expr_tail}
use Rattle.alma_grammar.specs.Parts.{after_desig}
use Rattle.alma_grammar.specs.Parts.{stmt_part, arm_part, stmt_tail, elsif_tail, else_part, by_part, orelse_tail, desig_tail, arm_tail}
use Rattle.alma_grammar.specs.Parts.{high_part}
use Rattle.alma_grammar.specs.Parts.{label_tail}
use Rattle.alma_grammar.specs.Parts.{term_parts, simple_parts, expr_parts, exprs_parts, stmts_parts, label_parts}
use Rattle.alma_grammar.specs.Parts.{desig_parts}
use Rattle.alma_parse_cursor.specs.Parsing.{At, starts_with, Passes, Becomes}

no : true ≡ false → ⊥
no h = cc

-- ---- the next token is another one

pub skips_args : (ks : List Kind) → starts_with kinds.OpenParen ks ≡ false → Becomes (λ o. args_part ∷ o) (λ o. o) ks
skips_args [] h = record { becomes = λ d o. refl }
skips_args (kinds.OpenParen ∷ ks) h = absurd (no h)
skips_args (k ∷ ks) h = record { becomes = λ d o. refl }

pub skips_exprs : (ks : List Kind) → starts_with kinds.Comma ks ≡ false → Becomes (λ o. expr_tail ∷ o) (λ o. o) ks
skips_exprs [] h = record { becomes = λ d o. refl }
skips_exprs (kinds.Comma ∷ ks) h = absurd (no h)
skips_exprs (k ∷ ks) h = record { becomes = λ d o. refl }

pub skips_stmts : (ks : List Kind) → starts_with kinds.Semicolon ks ≡ false → Becomes (λ o. stmt_tail ∷ o) (λ o. o) ks
skips_stmts [] h = record { becomes = λ d o. refl }
skips_stmts (kinds.Semicolon ∷ ks) h = absurd (no h)
skips_stmts (k ∷ ks) h = record { becomes = λ d o. refl }

pub skips_elsifs : (ks : List Kind) → starts_with kinds.Elsif ks ≡ false → Becomes (λ o. elsif_tail ∷ o) (λ o. o) ks
skips_elsifs [] h = record { becomes = λ d o. refl }
skips_elsifs (kinds.Elsif ∷ ks) h = absurd (no h)
skips_elsifs (k ∷ ks) h = record { becomes = λ d o. refl }

pub skips_else : (ks : List Kind) → starts_with kinds.Else ks ≡ false → Becomes (λ o. else_part ∷ o) (λ o. o) ks
skips_else [] h = record { becomes = λ d o. refl }
skips_else (kinds.Else ∷ ks) h = absurd (no h)
skips_else (k ∷ ks) h = record { becomes = λ d o. refl }

pub skips_by : (ks : List Kind) → starts_with kinds.By ks ≡ false → Becomes (λ o. by_part ∷ o) (λ o. o) ks
skips_by [] h = record { becomes = λ d o. refl }
skips_by (kinds.By ∷ ks) h = absurd (no h)
skips_by (k ∷ ks) h = record { becomes = λ d o. refl }

pub skips_arms : (ks : List Kind) → starts_with kinds.Bar ks ≡ false → Becomes (λ o. arm_tail ∷ o) (λ o. o) ks
skips_arms [] h = record { becomes = λ d o. refl }
skips_arms (kinds.Bar ∷ ks) h = absurd (no h)
skips_arms (k ∷ ks) h = record { becomes = λ d o. refl }

pub skips_high : (ks : List Kind) → starts_with kinds.DotDot ks ≡ false → Becomes (λ o. high_part ∷ o) (λ o. o) ks
skips_high [] h = record { becomes = λ d o. refl }
skips_high (kinds.DotDot ∷ ks) h = absurd (no h)
skips_high (k ∷ ks) h = record { becomes = λ d o. refl }

pub skips_labels : (ks : List Kind) → starts_with kinds.Comma ks ≡ false → Becomes (λ o. label_tail ∷ o) (λ o. o) ks
skips_labels [] h = record { becomes = λ d o. refl }
skips_labels (kinds.Comma ∷ ks) h = absurd (no h)
skips_labels (k ∷ ks) h = record { becomes = λ d o. refl }

pub skips_orelses : (ks : List Kind) → starts_with kinds.Orelse ks ≡ false → Becomes (λ o. orelse_tail ∷ o) (λ o. o) ks
skips_orelses [] h = record { becomes = λ d o. refl }
skips_orelses (kinds.Orelse ∷ ks) h = absurd (no h)
skips_orelses (k ∷ ks) h = record { becomes = λ d o. refl }

pub skips_desigs : (ks : List Kind) → starts_with kinds.Comma ks ≡ false → Becomes (λ o. desig_tail ∷ o) (λ o. o) ks
skips_desigs [] h = record { becomes = λ d o. refl }
skips_desigs (kinds.Comma ∷ ks) h = absurd (no h)
skips_desigs (k ∷ ks) h = record { becomes = λ d o. refl }

pub no_not : (ks : List Kind) → starts_with kinds.Not ks ≡ false → Becomes (λ o. factor_part ∷ o) (λ o. primary_part ∷ o) ks
no_not [] h = record { becomes = λ d o. refl }
no_not (kinds.Not ∷ ks) h = absurd (no h)
no_not (k ∷ ks) h = record { becomes = λ d o. refl }

pub some_args : (ks : List Kind) → starts_with kinds.CloseParen ks ≡ false
    → Becomes (λ o. args_inside ∷ o) (λ o. exprs_parts (one kinds.CloseParen ∷ o)) ks
some_args [] h = record { becomes = λ d o. refl }
some_args (kinds.CloseParen ∷ ks) h = absurd (no h)
some_args (k ∷ ks) h = record { becomes = λ d o. refl }

pub no_assign : (ks : List Kind) → starts_with kinds.Assign ks ≡ false
    → Becomes (λ o. after_desig ∷ o) (λ o. args_part ∷ factor_tail ∷ term_tail ∷ compared_part ∷ o) ks
no_assign [] h = record { becomes = λ d o. refl }
no_assign (kinds.Assign ∷ ks) h = absurd (no h)
no_assign (k ∷ ks) h = record { becomes = λ d o. refl }

-- ---- the next token is this one

-- where a token was passed, what holds of the list with it at its head
headed : {p q : List Part → List Part} {k : Kind} {a b : At} → Passes k a b → Becomes p q (k ∷ b.kinds) → Becomes p q a.kinds
headed {p = p} {q = q} {k = k} {a = a} {b = b} x h = subst (Becomes p q) (sym x.kinds_so) h

pub begins_not : {a b : At} → Passes kinds.Not a b → Becomes (λ o. factor_part ∷ o) (λ o. one kinds.Not ∷ primary_part ∷ o) a.kinds
begins_not x = headed x (record { becomes = λ d o. refl })

pub begins_exprs : {a b : At} → Passes kinds.Comma a b
    → Becomes (λ o. expr_tail ∷ o) (λ o. one kinds.Comma ∷ expr_parts (expr_tail ∷ o)) a.kinds
begins_exprs x = headed x (record { becomes = λ d o. refl })

pub begins_stmts : {a b : At} → Passes kinds.Semicolon a b
    → Becomes (λ o. stmt_tail ∷ o) (λ o. one kinds.Semicolon ∷ stmt_part ∷ stmt_tail ∷ o) a.kinds
begins_stmts x = headed x (record { becomes = λ d o. refl })

pub begins_elsifs : {a b : At} → Passes kinds.Elsif a b
    → Becomes (λ o. elsif_tail ∷ o) (λ o. one kinds.Elsif ∷ expr_parts (one kinds.Then ∷ stmts_parts
    (elsif_tail ∷ o))) a.kinds
begins_elsifs x = headed x (record { becomes = λ d o. refl })

pub begins_else : {a b : At} → Passes kinds.Else a b → Becomes (λ o. else_part ∷ o) (λ o. one kinds.Else ∷ stmts_parts o) a.kinds
begins_else x = headed x (record { becomes = λ d o. refl })

pub begins_by : {a b : At} → Passes kinds.By a b → Becomes (λ o. by_part ∷ o) (λ o. one kinds.By ∷ expr_parts o) a.kinds
begins_by x = headed x (record { becomes = λ d o. refl })

pub begins_arms : {a b : At} → Passes kinds.Bar a b → Becomes (λ o. arm_tail ∷ o) (λ o. one kinds.Bar ∷ arm_part ∷ arm_tail ∷ o) a.kinds
begins_arms x = headed x (record { becomes = λ d o. refl })

pub begins_high : {a b : At} → Passes kinds.DotDot a b → Becomes (λ o. high_part ∷ o) (λ o. one kinds.DotDot ∷ expr_parts o) a.kinds
begins_high x = headed x (record { becomes = λ d o. refl })

pub begins_labels : {a b : At} → Passes kinds.Comma a b
    → Becomes (λ o. label_tail ∷ o) (λ o. one kinds.Comma ∷ label_parts (label_tail ∷ o)) a.kinds
begins_labels x = headed x (record { becomes = λ d o. refl })

pub begins_orelses : {a b : At} → Passes kinds.Orelse a b
    → Becomes (λ o. orelse_tail ∷ o) (λ o. one kinds.Orelse ∷ stmts_parts (orelse_tail ∷ o)) a.kinds
begins_orelses x = headed x (record { becomes = λ d o. refl })

pub begins_desigs : {a b : At} → Passes kinds.Comma a b
    → Becomes (λ o. desig_tail ∷ o) (λ o. one kinds.Comma ∷ desig_parts (desig_tail ∷ o)) a.kinds
begins_desigs x = headed x (record { becomes = λ d o. refl })

pub begins_args_end : {a b : At} → Passes kinds.CloseParen a b → Becomes (λ o. args_inside ∷ o) (λ o. one kinds.CloseParen ∷ o) a.kinds
begins_args_end x = headed x (record { becomes = λ d o. refl })

-- ---- the next token is tested to be this one

other : {p q : List Part → List Part} {ks : List Kind} → false ≡ true → Becomes p q ks
other h = absurd (no (sym h))

pub at_args : (ks : List Kind) → starts_with kinds.OpenParen ks ≡ true
    → Becomes (λ o. args_part ∷ o) (λ o. one kinds.OpenParen ∷ args_inside ∷ o) ks
at_args [] h = other h
at_args (kinds.OpenParen ∷ ks) h = record { becomes = λ d o. refl }
at_args (k ∷ ks) h = other h

pub at_assign : (ks : List Kind) → starts_with kinds.Assign ks ≡ true
    → Becomes (λ o. after_desig ∷ o) (λ o. one kinds.Assign ∷ expr_parts o) ks
at_assign [] h = other h
at_assign (kinds.Assign ∷ ks) h = record { becomes = λ d o. refl }
at_assign (k ∷ ks) h = other h

pub begins_add : (op : AddOperator) {a b : At} → Passes (add_kind op) a b
    → Becomes (λ o. term_tail ∷ o) (λ o. one (add_kind op) ∷ term_parts (term_tail ∷ o)) a.kinds
begins_add adds.Plus x = headed x (record { becomes = λ d o. refl })
begins_add adds.Minus x = headed x (record { becomes = λ d o. refl })
begins_add adds.Or x = headed x (record { becomes = λ d o. refl })

pub add_opens : (op : AddOperator) → opens (add_kind op) ≡ false
add_opens adds.Plus = refl
add_opens adds.Minus = refl
add_opens adds.Or = refl

pub add_closes : (op : AddOperator) → closes (add_kind op) ≡ false
add_closes adds.Plus = refl
add_closes adds.Minus = refl
add_closes adds.Or = refl

pub begins_mul : (op : MulOperator) {a b : At} → Passes (mul_kind op) a b
    → Becomes (λ o. factor_tail ∷ o) (λ o. one (mul_kind op) ∷ factor_part ∷ factor_tail ∷ o) a.kinds
begins_mul muls.Star x = headed x (record { becomes = λ d o. refl })
begins_mul muls.Div x = headed x (record { becomes = λ d o. refl })
begins_mul muls.Mod x = headed x (record { becomes = λ d o. refl })
begins_mul muls.And x = headed x (record { becomes = λ d o. refl })

pub mul_opens : (op : MulOperator) → opens (mul_kind op) ≡ false
mul_opens muls.Star = refl
mul_opens muls.Div = refl
mul_opens muls.Mod = refl
mul_opens muls.And = refl

pub mul_closes : (op : MulOperator) → closes (mul_kind op) ≡ false
mul_closes muls.Star = refl
mul_closes muls.Div = refl
mul_closes muls.Mod = refl
mul_closes muls.And = refl

pub begins_relation : (op : Relation) {a b : At} → Passes (relation_kind op) a b
    → Becomes (λ o. compared_part ∷ o) (λ o. one (relation_kind op) ∷ simple_parts o) a.kinds
begins_relation relations.Equal x = headed x (record { becomes = λ d o. refl })
begins_relation relations.Unequal x = headed x (record { becomes = λ d o. refl })
begins_relation relations.Less x = headed x (record { becomes = λ d o. refl })
begins_relation relations.LessEq x = headed x (record { becomes = λ d o. refl })
begins_relation relations.Greater x = headed x (record { becomes = λ d o. refl })
begins_relation relations.GreaterEq x = headed x (record { becomes = λ d o. refl })

pub relation_opens : (op : Relation) → opens (relation_kind op) ≡ false
relation_opens relations.Equal = refl
relation_opens relations.Unequal = refl
relation_opens relations.Less = refl
relation_opens relations.LessEq = refl
relation_opens relations.Greater = refl
relation_opens relations.GreaterEq = refl

pub relation_closes : (op : Relation) → closes (relation_kind op) ≡ false
relation_closes relations.Equal = refl
relation_closes relations.Unequal = refl
relation_closes relations.Less = refl
relation_closes relations.LessEq = refl
relation_closes relations.Greater = refl
relation_closes relations.GreaterEq = refl
