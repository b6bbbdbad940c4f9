-- The token that what fills a part begins with, and what is then open: each filler comes from one.
use Rattle.std.proofs.Common.{◌≡◌, Bool, true, false, List, ◌++◌, Option, None, Some, nat_eq, eq-eqb, refl}
use Rattle.alma_tree.specs.declared.kind.Kind.{Kind}
use Rattle.alma_tree.specs.declared.kind.Kind.TheVariants as kinds
use Rattle.alma_tree.specs.declared.leaf.Relation.TheVariants as relations
use Rattle.alma_tree.specs.declared.leaf.Sign.TheVariants as signs
use Rattle.alma_tree.specs.declared.leaf.AddOperator.TheVariants as adds
use Rattle.alma_tree.specs.declared.leaf.MulOperator.TheVariants as muls
use Rattle.alma_tree.specs.declared.leaf.Mode.TheVariants as modes
use Rattle.alma_tree.specs.Tree as tree
use Rattle.alma_tree.specs.Kinds.{code}
use Rattle.alma_grammar.specs.Parts.{Part, one, sign_part, factor_part, primary_part, factor_tail, term_tail, compared_part, args_part}
use Rattle.alma_grammar.specs.Parts.{args_inside}
use Rattle.alma_grammar.specs.Parts.{expr_tail, selector_tail, stmt_part, after_desig, stmt_tail, elsif_tail, else_part, by_part}
use Rattle.alma_grammar.specs.Parts.{orelse_tail}
use Rattle.alma_grammar.specs.Parts.{returned_part, desig_tail, arm_part, arm_tail, high_part, label_tail, name_tail, array_tail}
use Rattle.alma_grammar.specs.Parts.{plain_part, plain_tail}
use Rattle.alma_grammar.specs.Parts.{field_list_part, field_list_tail, const_tail, type_tail, var_tail, mode_part, formal_tail, params_part}
use Rattle.alma_grammar.specs.Parts.{params_inside}
use Rattle.alma_grammar.specs.Parts.{result_part, decl_tail, body_part}
use Rattle.alma_grammar.specs.Parts.{if_same, begins}
use Rattle.alma_grammar.specs.Filling.{assigned, used, closed_args, filled_args, closed_params, filled_params}
use Rattle.alma_grammar.specs.Filling.{Fill, Fills, shortest, WhereSome}
use Rattle.alma_grammar.proofs.EveryKind.{same_kind}
use Rattle.alma_grammar.specs.Parts.{may_skip}
use Rattle.alma_grammar.proofs.Begun.{Built, begun, begun_one}

-- the filler and what follows it are made of fillers of what is open behind the token
abbrev pub Undone : (p : Part) (k : Kind) (rest : List Part) → Fill p → Fills rest → (b : Option (List Part)) → WhereSome b (Built p k rest)
    → Type 0
Undone p k rest f o None w = ⊥
Undone p k rest f o (Some parts) w = (g : Fills (parts ++ rest)) × ((w g).0 ≡ f) × ((w g).1 ≡ o)

-- what fills a part is nothing, or it begins with a token
pub data Undo (p : Part) (f : Fill p) (rest : List Part) (o : Fills rest) : Type 0 where
  nothing : may_skip p ≡ true → shortest p ≡ f → Undo p f rest o
  token : (k : Kind) → Undone p k rest f o (begins p k) (begun p k rest) → Undo p f rest o

-- a part that is one token begins with it
undo_same : (a : Kind) (f : Unit {0}) (rest : List Part) (o : Fills rest) (b : Bool) (same : b ≡ true → a ≡ a) → b ≡ true
    → Undone (one a) a rest f o (if_same b) (begun_one a a rest b same)
undo_same a f rest o true same h = (o, refl, refl)
undo_same a f rest o false same h = absurd cc

-- ---- each part, by what may fill it

undo_sign_part : (f : Fill sign_part) (rest : List Part) (o : Fills rest) → Undo sign_part f rest o
undo_sign_part None rest o = nothing refl refl
undo_sign_part (Some signs.Plus) rest o = token kinds.Plus (o, refl, refl)
undo_sign_part (Some signs.Minus) rest o = token kinds.Minus (o, refl, refl)

undo_factor_part : (f : Fill factor_part) (rest : List Part) (o : Fills rest) → Undo factor_part f rest o
undo_factor_part (tree.not_factor x0) rest o = token kinds.Not ((x0, o), refl, refl)
undo_factor_part (tree.factor tree.number) rest o = token kinds.Number (o, refl, refl)
undo_factor_part (tree.factor tree.literal) rest o = token kinds.Literal (o, refl, refl)
undo_factor_part (tree.factor (tree.named (tree.desig x0) x1)) rest o = token kinds.Name ((x0, (x1, o)), refl, refl)
undo_factor_part (tree.factor (tree.paren (tree.stmts x0 x1))) rest o = token kinds.OpenParen ((x0, (x1, (tt, o))), refl, refl)
undo_factor_part (tree.factor (tree.known (tree.desig x2))) rest o = token kinds.Known ((tt, (tt, (x2, (tt, o)))), refl, refl)
undo_factor_part (tree.factor (tree.ord (tree.expr (tree.simple x1 (tree.term x2 x3) x4) x5))) rest o =
    token kinds.Ord ((tt, (x1, (x2, (x3, (x4, (x5, (tt, o))))))), refl, refl)
undo_factor_part (tree.factor (tree.chr (tree.expr (tree.simple x1 (tree.term x2 x3) x4) x5))) rest o =
    token kinds.Chr ((tt, (x1, (x2, (x3, (x4, (x5, (tt, o))))))), refl, refl)

undo_primary_part : (f : Fill primary_part) (rest : List Part) (o : Fills rest) → Undo primary_part f rest o
undo_primary_part tree.number rest o = token kinds.Number (o, refl, refl)
undo_primary_part tree.literal rest o = token kinds.Literal (o, refl, refl)
undo_primary_part (tree.named (tree.desig x0) x1) rest o = token kinds.Name ((x0, (x1, o)), refl, refl)
undo_primary_part (tree.paren (tree.stmts x0 x1)) rest o = token kinds.OpenParen ((x0, (x1, (tt, o))), refl, refl)
undo_primary_part (tree.known (tree.desig x2)) rest o = token kinds.Known ((tt, (tt, (x2, (tt, o)))), refl, refl)
undo_primary_part (tree.ord (tree.expr (tree.simple x1 (tree.term x2 x3) x4) x5)) rest o =
    token kinds.Ord ((tt, (x1, (x2, (x3, (x4, (x5, (tt, o))))))), refl, refl)
undo_primary_part (tree.chr (tree.expr (tree.simple x1 (tree.term x2 x3) x4) x5)) rest o =
    token kinds.Chr ((tt, (x1, (x2, (x3, (x4, (x5, (tt, o))))))), refl, refl)

undo_factor_tail : (f : Fill factor_tail) (rest : List Part) (o : Fills rest) → Undo factor_tail f rest o
undo_factor_tail tree.no_factor rest o = nothing refl refl
undo_factor_tail (tree.more_factor muls.Star x0 x1) rest o = token kinds.Star ((x0, (x1, o)), refl, refl)
undo_factor_tail (tree.more_factor muls.Div x0 x1) rest o = token kinds.Div ((x0, (x1, o)), refl, refl)
undo_factor_tail (tree.more_factor muls.Mod x0 x1) rest o = token kinds.Mod ((x0, (x1, o)), refl, refl)
undo_factor_tail (tree.more_factor muls.And x0 x1) rest o = token kinds.And ((x0, (x1, o)), refl, refl)

undo_term_tail : (f : Fill term_tail) (rest : List Part) (o : Fills rest) → Undo term_tail f rest o
undo_term_tail tree.no_term rest o = nothing refl refl
undo_term_tail (tree.more_term adds.Plus (tree.term x0 x1) x2) rest o = token kinds.Plus ((x0, (x1, (x2, o))), refl, refl)
undo_term_tail (tree.more_term adds.Minus (tree.term x0 x1) x2) rest o = token kinds.Minus ((x0, (x1, (x2, o))), refl, refl)
undo_term_tail (tree.more_term adds.Or (tree.term x0 x1) x2) rest o = token kinds.Or ((x0, (x1, (x2, o))), refl, refl)

undo_compared_part : (f : Fill compared_part) (rest : List Part) (o : Fills rest) → Undo compared_part f rest o
undo_compared_part tree.no_relation rest o = nothing refl refl
undo_compared_part (tree.compared relations.Equal (tree.simple x0 (tree.term x1 x2) x3)) rest o =
    token kinds.Equal ((x0, (x1, (x2, (x3, o)))), refl, refl)
undo_compared_part (tree.compared relations.Unequal (tree.simple x0 (tree.term x1 x2) x3)) rest o =
    token kinds.Unequal ((x0, (x1, (x2, (x3, o)))), refl, refl)
undo_compared_part (tree.compared relations.Less (tree.simple x0 (tree.term x1 x2) x3)) rest o =
    token kinds.Less ((x0, (x1, (x2, (x3, o)))), refl, refl)
undo_compared_part (tree.compared relations.LessEq (tree.simple x0 (tree.term x1 x2) x3)) rest o =
    token kinds.LessEq ((x0, (x1, (x2, (x3, o)))), refl, refl)
undo_compared_part (tree.compared relations.Greater (tree.simple x0 (tree.term x1 x2) x3)) rest o =
    token kinds.Greater ((x0, (x1, (x2, (x3, o)))), refl, refl)
undo_compared_part (tree.compared relations.GreaterEq (tree.simple x0 (tree.term x1 x2) x3)) rest o =
    token kinds.GreaterEq ((x0, (x1, (x2, (x3, o)))), refl, refl)

undo_args_part : (f : Fill args_part) (rest : List Part) (o : Fills rest) → Undo args_part f rest o
undo_args_part tree.no_args rest o = nothing refl refl
undo_args_part tree.empty_args rest o = token kinds.OpenParen ((closed_args, o), refl, refl)
undo_args_part (tree.args es) rest o = token kinds.OpenParen (((filled_args es), o), refl, refl)

undo_args_inside : (f : Fill args_inside) (rest : List Part) (o : Fills rest) → Undo args_inside f rest o
undo_args_inside closed_args rest o = token kinds.CloseParen (o, refl, refl)
undo_args_inside (filled_args (tree.exprs (tree.expr (tree.simple (Some signs.Plus) (tree.term x0 x1) x2) x3) x4)) rest o =
    token kinds.Plus ((x0, (x1, (x2, (x3, (x4, (tt, o)))))), refl, refl)
undo_args_inside (filled_args (tree.exprs (tree.expr (tree.simple (Some signs.Minus) (tree.term x0 x1) x2) x3) x4)) rest o =
    token kinds.Minus ((x0, (x1, (x2, (x3, (x4, (tt, o)))))), refl, refl)
undo_args_inside (filled_args (tree.exprs (tree.expr (tree.simple None (tree.term (tree.not_factor x0) x1) x2) x3) x4)) rest o =
    token kinds.Not ((x0, (x1, (x2, (x3, (x4, (tt, o)))))), refl, refl)
undo_args_inside (filled_args (tree.exprs (tree.expr (tree.simple None (tree.term (tree.factor tree.number) x0) x1) x2) x3)) rest o =
    token kinds.Number ((x0, (x1, (x2, (x3, (tt, o))))), refl, refl)
undo_args_inside (filled_args (tree.exprs (tree.expr (tree.simple None (tree.term (tree.factor tree.literal) x0) x1) x2) x3)) rest o =
    token kinds.Literal ((x0, (x1, (x2, (x3, (tt, o))))), refl, refl)
undo_args_inside (filled_args (tree.exprs (tree.expr (tree.simple None (tree.term (tree.factor (tree.named (tree.desig x0) x1)) x2) x3) x4)
    x5)) rest o =
    token kinds.Name ((x0, (x1, (x2, (x3, (x4, (x5, (tt, o))))))), refl, refl)
undo_args_inside (filled_args (tree.exprs (tree.expr (tree.simple None (tree.term (tree.factor (tree.paren (tree.stmts x0 x1))) x3) x4) x5)
    x6)) rest o =
    token kinds.OpenParen ((x0, (x1, (tt, (x3, (x4, (x5, (x6, (tt, o)))))))), refl, refl)
undo_args_inside (filled_args (tree.exprs (tree.expr (tree.simple None (tree.term (tree.factor (tree.known (tree.desig x2))) x4) x5) x6)
    x7)) rest o =
    token kinds.Known ((tt, (tt, (x2, (tt, (x4, (x5, (x6, (x7, (tt, o))))))))), refl, refl)
undo_args_inside (filled_args (tree.exprs
    (tree.expr (tree.simple None (tree.term (tree.factor (tree.ord (tree.expr (tree.simple x1 (tree.term x2 x3) x4) x5))) x7) x8) x9) x10))
    rest o =
    token kinds.Ord ((tt, (x1, (x2, (x3, (x4, (x5, (tt, (x7, (x8, (x9, (x10, (tt, o)))))))))))), refl, refl)
undo_args_inside (filled_args (tree.exprs
    (tree.expr (tree.simple None (tree.term (tree.factor (tree.chr (tree.expr (tree.simple x1 (tree.term x2 x3) x4) x5))) x7) x8) x9) x10))
    rest o =
    token kinds.Chr ((tt, (x1, (x2, (x3, (x4, (x5, (tt, (x7, (x8, (x9, (x10, (tt, o)))))))))))), refl, refl)

undo_expr_tail : (f : Fill expr_tail) (rest : List Part) (o : Fills rest) → Undo expr_tail f rest o
undo_expr_tail tree.no_expr rest o = nothing refl refl
undo_expr_tail (tree.more_expr (tree.expr (tree.simple x0 (tree.term x1 x2) x3) x4) x5) rest o =
    token kinds.Comma ((x0, (x1, (x2, (x3, (x4, (x5, o)))))), refl, refl)

undo_selector_tail : (f : Fill selector_tail) (rest : List Part) (o : Fills rest) → Undo selector_tail f rest o
undo_selector_tail tree.no_selector rest o = nothing refl refl
undo_selector_tail (tree.more_selector tree.field x1) rest o = token kinds.Dot ((tt, (x1, o)), refl, refl)
undo_selector_tail (tree.more_selector (tree.index (tree.exprs (tree.expr (tree.simple x0 (tree.term x1 x2) x3) x4) x5)) x7) rest o =
    token kinds.OpenBracket ((x0, (x1, (x2, (x3, (x4, (x5, (tt, (x7, o)))))))), refl, refl)

undo_stmt_part : (f : Fill stmt_part) (rest : List Part) (o : Fills rest) → Undo stmt_part f rest o
undo_stmt_part tree.nothing rest o = nothing refl refl
undo_stmt_part (tree.assign (tree.desig x0) x) rest o = token kinds.Name ((x0, ((assigned x), o)), refl, refl)
undo_stmt_part (tree.value (tree.expr (tree.simple None (tree.term (tree.factor (tree.named (tree.desig x0) a)) fs) ts) r)) rest o =
    token kinds.Name ((x0, ((used a fs ts r), o)), refl, refl)
undo_stmt_part (tree.if_stmt (tree.expr (tree.simple x0 (tree.term x1 x2) x3) x4) (tree.stmts x6 x7) x8 x9) rest o =
    token kinds.If ((x0, (x1, (x2, (x3, (x4, (tt, (x6, (x7, (x8, (x9, (tt, o))))))))))), refl, refl)
undo_stmt_part (tree.while_stmt (tree.expr (tree.simple x0 (tree.term x1 x2) x3) x4) (tree.stmts x6 x7)) rest o =
    token kinds.While ((x0, (x1, (x2, (x3, (x4, (tt, (x6, (x7, (tt, o))))))))), refl, refl)
undo_stmt_part (tree.repeat_stmt (tree.stmts x0 x1) (tree.expr (tree.simple x3 (tree.term x4 x5) x6) x7)) rest o =
    token kinds.Repeat ((x0, (x1, (tt, (x3, (x4, (x5, (x6, (x7, o)))))))), refl, refl)
undo_stmt_part (tree.for_stmt (tree.expr (tree.simple x2 (tree.term x3 x4) x5) x6) (tree.expr (tree.simple x8 (tree.term x9 x10) x11) x12)
    x13 (tree.stmts x15 x16)) rest o =
    token kinds.For (
      (tt, (tt, (x2, (x3, (x4, (x5, (x6, (tt, (x8, (x9, (x10, (x11, (x12, (x13, (tt, (x15, (x16, (tt, o)))))))))))))))))),
      refl,
      refl,
    )
undo_stmt_part (tree.some_stmt (tree.expr (tree.simple x2 (tree.term x3 x4) x5) x6) (tree.expr (tree.simple x8 (tree.term x9 x10) x11) x12)
    (tree.stmts x14 x15)) rest o =
    token kinds.Some (
      (tt, (tt, (x2, (x3, (x4, (x5, (x6, (tt, (x8, (x9, (x10, (x11, (x12, (tt, (x14, (x15, (tt, o))))))))))))))))),
      refl,
      refl,
    )
undo_stmt_part (tree.case_stmt (tree.expr (tree.simple x0 (tree.term x1 x2) x3) x4) x6 x7 x8) rest o =
    token kinds.Case ((x0, (x1, (x2, (x3, (x4, (tt, (x6, (x7, (x8, (tt, o)))))))))), refl, refl)
undo_stmt_part (tree.either_stmt (tree.stmts x0 x1) x2) rest o = token kinds.Either ((x0, (x1, (x2, (tt, o)))), refl, refl)
undo_stmt_part (tree.forall_stmt (tree.stmts x0 x1) (tree.stmts x3 x4)) rest o =
    token kinds.Forall ((x0, (x1, (tt, (x3, (x4, (tt, o)))))), refl, refl)
undo_stmt_part (tree.commit_stmt (tree.stmts x0 x1)) rest o = token kinds.Commit ((x0, (x1, (tt, o))), refl, refl)
undo_stmt_part (tree.return_stmt x0) rest o = token kinds.Return ((x0, o), refl, refl)
undo_stmt_part (tree.read_stmt (tree.desig x2) x3) rest o = token kinds.Read ((tt, (tt, (x2, (x3, (tt, o))))), refl, refl)
undo_stmt_part (tree.write_stmt (tree.exprs (tree.expr (tree.simple x1 (tree.term x2 x3) x4) x5) x6)) rest o =
    token kinds.Write ((tt, (x1, (x2, (x3, (x4, (x5, (x6, (tt, o)))))))), refl, refl)
undo_stmt_part (tree.writeln_stmt x0) rest o = token kinds.Writeln ((x0, o), refl, refl)
undo_stmt_part (tree.value (tree.expr (tree.simple (Some signs.Plus) (tree.term x0 x1) x2) x3)) rest o =
    token kinds.Plus ((x0, (x1, (x2, (x3, o)))), refl, refl)
undo_stmt_part (tree.value (tree.expr (tree.simple (Some signs.Minus) (tree.term x0 x1) x2) x3)) rest o =
    token kinds.Minus ((x0, (x1, (x2, (x3, o)))), refl, refl)
undo_stmt_part (tree.value (tree.expr (tree.simple None (tree.term (tree.not_factor x0) x1) x2) x3)) rest o =
    token kinds.Not ((x0, (x1, (x2, (x3, o)))), refl, refl)
undo_stmt_part (tree.value (tree.expr (tree.simple None (tree.term (tree.factor tree.number) x0) x1) x2)) rest o =
    token kinds.Number ((x0, (x1, (x2, o))), refl, refl)
undo_stmt_part (tree.value (tree.expr (tree.simple None (tree.term (tree.factor tree.literal) x0) x1) x2)) rest o =
    token kinds.Literal ((x0, (x1, (x2, o))), refl, refl)
undo_stmt_part (tree.value (tree.expr (tree.simple None (tree.term (tree.factor (tree.paren (tree.stmts x0 x1))) x3) x4) x5)) rest o =
    token kinds.OpenParen ((x0, (x1, (tt, (x3, (x4, (x5, o)))))), refl, refl)
undo_stmt_part (tree.value (tree.expr (tree.simple None (tree.term (tree.factor (tree.known (tree.desig x2))) x4) x5) x6)) rest o =
    token kinds.Known ((tt, (tt, (x2, (tt, (x4, (x5, (x6, o))))))), refl, refl)
undo_stmt_part (tree.value (tree.expr
    (tree.simple None (tree.term (tree.factor (tree.ord (tree.expr (tree.simple x1 (tree.term x2 x3) x4) x5))) x7) x8) x9)) rest o =
    token kinds.Ord ((tt, (x1, (x2, (x3, (x4, (x5, (tt, (x7, (x8, (x9, o)))))))))), refl, refl)
undo_stmt_part (tree.value (tree.expr
    (tree.simple None (tree.term (tree.factor (tree.chr (tree.expr (tree.simple x1 (tree.term x2 x3) x4) x5))) x7) x8) x9)) rest o =
    token kinds.Chr ((tt, (x1, (x2, (x3, (x4, (x5, (tt, (x7, (x8, (x9, o)))))))))), refl, refl)

undo_after_desig : (f : Fill after_desig) (rest : List Part) (o : Fills rest) → Undo after_desig f rest o
undo_after_desig (used tree.no_args tree.no_factor tree.no_term tree.no_relation) rest o = nothing refl refl
undo_after_desig (assigned (tree.expr (tree.simple x0 (tree.term x1 x2) x3) x4)) rest o =
    token kinds.Assign ((x0, (x1, (x2, (x3, (x4, o))))), refl, refl)
undo_after_desig (used tree.empty_args x1 x2 x3) rest o = token kinds.OpenParen ((closed_args, (x1, (x2, (x3, o)))), refl, refl)
undo_after_desig (used (tree.args es) x1 x2 x3) rest o = token kinds.OpenParen (((filled_args es), (x1, (x2, (x3, o)))), refl, refl)
undo_after_desig (used tree.no_args (tree.more_factor muls.Star x0 x1) x2 x3) rest o =
    token kinds.Star ((x0, (x1, (x2, (x3, o)))), refl, refl)
undo_after_desig (used tree.no_args (tree.more_factor muls.Div x0 x1) x2 x3) rest o =
    token kinds.Div ((x0, (x1, (x2, (x3, o)))), refl, refl)
undo_after_desig (used tree.no_args (tree.more_factor muls.Mod x0 x1) x2 x3) rest o =
    token kinds.Mod ((x0, (x1, (x2, (x3, o)))), refl, refl)
undo_after_desig (used tree.no_args (tree.more_factor muls.And x0 x1) x2 x3) rest o =
    token kinds.And ((x0, (x1, (x2, (x3, o)))), refl, refl)
undo_after_desig (used tree.no_args tree.no_factor (tree.more_term adds.Plus (tree.term x0 x1) x2) x3) rest o =
    token kinds.Plus ((x0, (x1, (x2, (x3, o)))), refl, refl)
undo_after_desig (used tree.no_args tree.no_factor (tree.more_term adds.Minus (tree.term x0 x1) x2) x3) rest o =
    token kinds.Minus ((x0, (x1, (x2, (x3, o)))), refl, refl)
undo_after_desig (used tree.no_args tree.no_factor (tree.more_term adds.Or (tree.term x0 x1) x2) x3) rest o =
    token kinds.Or ((x0, (x1, (x2, (x3, o)))), refl, refl)
undo_after_desig (used tree.no_args tree.no_factor tree.no_term (tree.compared relations.Equal (tree.simple x0 (tree.term x1 x2) x3))) rest
    o =
    token kinds.Equal ((x0, (x1, (x2, (x3, o)))), refl, refl)
undo_after_desig (used tree.no_args tree.no_factor tree.no_term (tree.compared relations.Unequal (tree.simple x0 (tree.term x1 x2) x3)))
    rest o =
    token kinds.Unequal ((x0, (x1, (x2, (x3, o)))), refl, refl)
undo_after_desig (used tree.no_args tree.no_factor tree.no_term (tree.compared relations.Less (tree.simple x0 (tree.term x1 x2) x3))) rest
    o =
    token kinds.Less ((x0, (x1, (x2, (x3, o)))), refl, refl)
undo_after_desig (used tree.no_args tree.no_factor tree.no_term (tree.compared relations.LessEq (tree.simple x0 (tree.term x1 x2) x3))) rest
    o =
    token kinds.LessEq ((x0, (x1, (x2, (x3, o)))), refl, refl)
undo_after_desig (used tree.no_args tree.no_factor tree.no_term (tree.compared relations.Greater (tree.simple x0 (tree.term x1 x2) x3)))
    rest o =
    token kinds.Greater ((x0, (x1, (x2, (x3, o)))), refl, refl)
undo_after_desig (used tree.no_args tree.no_factor tree.no_term (tree.compared relations.GreaterEq (tree.simple x0 (tree.term x1 x2) x3)))
    rest o =
    token kinds.GreaterEq ((x0, (x1, (x2, (x3, o)))), refl, refl)

undo_stmt_tail : (f : Fill stmt_tail) (rest : List Part) (o : Fills rest) → Undo stmt_tail f rest o
undo_stmt_tail tree.no_stmt rest o = nothing refl refl
undo_stmt_tail (tree.more_stmt x0 x1) rest o = token kinds.Semicolon ((x0, (x1, o)), refl, refl)

undo_elsif_tail : (f : Fill elsif_tail) (rest : List Part) (o : Fills rest) → Undo elsif_tail f rest o
undo_elsif_tail tree.no_elsif rest o = nothing refl refl
undo_elsif_tail (tree.more_elsif (tree.expr (tree.simple x0 (tree.term x1 x2) x3) x4) (tree.stmts x6 x7) x8) rest o =
    token kinds.Elsif ((x0, (x1, (x2, (x3, (x4, (tt, (x6, (x7, (x8, o))))))))), refl, refl)

undo_else_part : (f : Fill else_part) (rest : List Part) (o : Fills rest) → Undo else_part f rest o
undo_else_part tree.no_else rest o = nothing refl refl
undo_else_part (tree.else_stmts (tree.stmts x0 x1)) rest o = token kinds.Else ((x0, (x1, o)), refl, refl)

undo_by_part : (f : Fill by_part) (rest : List Part) (o : Fills rest) → Undo by_part f rest o
undo_by_part tree.no_by rest o = nothing refl refl
undo_by_part (tree.by_expr (tree.expr (tree.simple x0 (tree.term x1 x2) x3) x4)) rest o =
    token kinds.By ((x0, (x1, (x2, (x3, (x4, o))))), refl, refl)

undo_orelse_tail : (f : Fill orelse_tail) (rest : List Part) (o : Fills rest) → Undo orelse_tail f rest o
undo_orelse_tail tree.no_orelse rest o = nothing refl refl
undo_orelse_tail (tree.more_orelse (tree.stmts x0 x1) x2) rest o = token kinds.Orelse ((x0, (x1, (x2, o))), refl, refl)

undo_returned_part : (f : Fill returned_part) (rest : List Part) (o : Fills rest) → Undo returned_part f rest o
undo_returned_part tree.no_value rest o = nothing refl refl
undo_returned_part (tree.returned (tree.expr (tree.simple (Some signs.Plus) (tree.term x0 x1) x2) x3)) rest o =
    token kinds.Plus ((x0, (x1, (x2, (x3, o)))), refl, refl)
undo_returned_part (tree.returned (tree.expr (tree.simple (Some signs.Minus) (tree.term x0 x1) x2) x3)) rest o =
    token kinds.Minus ((x0, (x1, (x2, (x3, o)))), refl, refl)
undo_returned_part (tree.returned (tree.expr (tree.simple None (tree.term (tree.not_factor x0) x1) x2) x3)) rest o =
    token kinds.Not ((x0, (x1, (x2, (x3, o)))), refl, refl)
undo_returned_part (tree.returned (tree.expr (tree.simple None (tree.term (tree.factor tree.number) x0) x1) x2)) rest o =
    token kinds.Number ((x0, (x1, (x2, o))), refl, refl)
undo_returned_part (tree.returned (tree.expr (tree.simple None (tree.term (tree.factor tree.literal) x0) x1) x2)) rest o =
    token kinds.Literal ((x0, (x1, (x2, o))), refl, refl)
undo_returned_part (tree.returned (tree.expr (tree.simple None (tree.term (tree.factor (tree.named (tree.desig x0) x1)) x2) x3) x4)) rest
    o =
    token kinds.Name ((x0, (x1, (x2, (x3, (x4, o))))), refl, refl)
undo_returned_part (tree.returned (tree.expr (tree.simple None (tree.term (tree.factor (tree.paren (tree.stmts x0 x1))) x3) x4) x5)) rest
    o =
    token kinds.OpenParen ((x0, (x1, (tt, (x3, (x4, (x5, o)))))), refl, refl)
undo_returned_part (tree.returned (tree.expr (tree.simple None (tree.term (tree.factor (tree.known (tree.desig x2))) x4) x5) x6)) rest o =
    token kinds.Known ((tt, (tt, (x2, (tt, (x4, (x5, (x6, o))))))), refl, refl)
undo_returned_part (tree.returned
    (tree.expr (tree.simple None (tree.term (tree.factor (tree.ord (tree.expr (tree.simple x1 (tree.term x2 x3) x4) x5))) x7) x8) x9)) rest
    o =
    token kinds.Ord ((tt, (x1, (x2, (x3, (x4, (x5, (tt, (x7, (x8, (x9, o)))))))))), refl, refl)
undo_returned_part (tree.returned
    (tree.expr (tree.simple None (tree.term (tree.factor (tree.chr (tree.expr (tree.simple x1 (tree.term x2 x3) x4) x5))) x7) x8) x9)) rest
    o =
    token kinds.Chr ((tt, (x1, (x2, (x3, (x4, (x5, (tt, (x7, (x8, (x9, o)))))))))), refl, refl)

undo_desig_tail : (f : Fill desig_tail) (rest : List Part) (o : Fills rest) → Undo desig_tail f rest o
undo_desig_tail tree.no_desig rest o = nothing refl refl
undo_desig_tail (tree.more_desig (tree.desig x1) x2) rest o = token kinds.Comma ((tt, (x1, (x2, o))), refl, refl)

undo_arm_part : (f : Fill arm_part) (rest : List Part) (o : Fills rest) → Undo arm_part f rest o
undo_arm_part tree.empty_arm rest o = nothing refl refl
undo_arm_part (tree.arm (tree.label (tree.expr (tree.simple (Some signs.Plus) (tree.term x0 x1) x2) x3) x4) x5 (tree.stmts x7 x8)) rest o =
    token kinds.Plus ((x0, (x1, (x2, (x3, (x4, (x5, (tt, (x7, (x8, o))))))))), refl, refl)
undo_arm_part (tree.arm (tree.label (tree.expr (tree.simple (Some signs.Minus) (tree.term x0 x1) x2) x3) x4) x5 (tree.stmts x7 x8)) rest o =
    token kinds.Minus ((x0, (x1, (x2, (x3, (x4, (x5, (tt, (x7, (x8, o))))))))), refl, refl)
undo_arm_part (tree.arm (tree.label (tree.expr (tree.simple None (tree.term (tree.not_factor x0) x1) x2) x3) x4) x5 (tree.stmts x7 x8)) rest
    o =
    token kinds.Not ((x0, (x1, (x2, (x3, (x4, (x5, (tt, (x7, (x8, o))))))))), refl, refl)
undo_arm_part (tree.arm (tree.label (tree.expr (tree.simple None (tree.term (tree.factor tree.number) x0) x1) x2) x3) x4 (tree.stmts x6 x7))
    rest o =
    token kinds.Number ((x0, (x1, (x2, (x3, (x4, (tt, (x6, (x7, o)))))))), refl, refl)
undo_arm_part (tree.arm (tree.label (tree.expr (tree.simple None (tree.term (tree.factor tree.literal) x0) x1) x2) x3) x4
    (tree.stmts x6 x7)) rest o =
    token kinds.Literal ((x0, (x1, (x2, (x3, (x4, (tt, (x6, (x7, o)))))))), refl, refl)
undo_arm_part (tree.arm (tree.label (tree.expr (tree.simple None (tree.term (tree.factor (tree.named (tree.desig x0) x1)) x2) x3) x4) x5) x6
    (tree.stmts x8 x9)) rest o =
    token kinds.Name ((x0, (x1, (x2, (x3, (x4, (x5, (x6, (tt, (x8, (x9, o)))))))))), refl, refl)
undo_arm_part (tree.arm (tree.label (tree.expr (tree.simple None (tree.term (tree.factor (tree.paren (tree.stmts x0 x1))) x3) x4) x5) x6) x7
    (tree.stmts x9 x10)) rest o =
    token kinds.OpenParen ((x0, (x1, (tt, (x3, (x4, (x5, (x6, (x7, (tt, (x9, (x10, o))))))))))), refl, refl)
undo_arm_part (tree.arm (tree.label (tree.expr (tree.simple None (tree.term (tree.factor (tree.known (tree.desig x2))) x4) x5) x6) x7) x8
    (tree.stmts x10 x11)) rest o =
    token kinds.Known ((tt, (tt, (x2, (tt, (x4, (x5, (x6, (x7, (x8, (tt, (x10, (x11, o)))))))))))), refl, refl)
undo_arm_part (tree.arm (tree.label
    (tree.expr (tree.simple None (tree.term (tree.factor (tree.ord (tree.expr (tree.simple x1 (tree.term x2 x3) x4) x5))) x7) x8) x9) x10)
    x11 (tree.stmts x13 x14)) rest o =
    token kinds.Ord ((tt, (x1, (x2, (x3, (x4, (x5, (tt, (x7, (x8, (x9, (x10, (x11, (tt, (x13, (x14, o))))))))))))))), refl, refl)
undo_arm_part (tree.arm (tree.label
    (tree.expr (tree.simple None (tree.term (tree.factor (tree.chr (tree.expr (tree.simple x1 (tree.term x2 x3) x4) x5))) x7) x8) x9) x10)
    x11 (tree.stmts x13 x14)) rest o =
    token kinds.Chr ((tt, (x1, (x2, (x3, (x4, (x5, (tt, (x7, (x8, (x9, (x10, (x11, (tt, (x13, (x14, o))))))))))))))), refl, refl)

undo_arm_tail : (f : Fill arm_tail) (rest : List Part) (o : Fills rest) → Undo arm_tail f rest o
undo_arm_tail tree.no_arm rest o = nothing refl refl
undo_arm_tail (tree.more_arm x0 x1) rest o = token kinds.Bar ((x0, (x1, o)), refl, refl)

undo_high_part : (f : Fill high_part) (rest : List Part) (o : Fills rest) → Undo high_part f rest o
undo_high_part tree.no_high rest o = nothing refl refl
undo_high_part (tree.high_expr (tree.expr (tree.simple x0 (tree.term x1 x2) x3) x4)) rest o =
    token kinds.DotDot ((x0, (x1, (x2, (x3, (x4, o))))), refl, refl)

undo_label_tail : (f : Fill label_tail) (rest : List Part) (o : Fills rest) → Undo label_tail f rest o
undo_label_tail tree.no_label rest o = nothing refl refl
undo_label_tail (tree.more_label (tree.label (tree.expr (tree.simple x0 (tree.term x1 x2) x3) x4) x5) x6) rest o =
    token kinds.Comma ((x0, (x1, (x2, (x3, (x4, (x5, (x6, o))))))), refl, refl)

undo_name_tail : (f : Fill name_tail) (rest : List Part) (o : Fills rest) → Undo name_tail f rest o
undo_name_tail tree.no_name rest o = nothing refl refl
undo_name_tail (tree.more_name x1) rest o = token kinds.Comma ((tt, (x1, o)), refl, refl)

undo_array_tail : (f : Fill array_tail) (rest : List Part) (o : Fills rest) → Undo array_tail f rest o
undo_array_tail tree.no_array rest o = nothing refl refl
undo_array_tail (tree.more_array (tree.dimensions x0 x1) x3) rest o = token kinds.Array ((x0, (x1, (tt, (x3, o)))), refl, refl)

undo_plain_part : (f : Fill plain_part) (rest : List Part) (o : Fills rest) → Undo plain_part f rest o
undo_plain_part tree.type_name rest o = token kinds.Name (o, refl, refl)
undo_plain_part (tree.listed (tree.names x1)) rest o = token kinds.OpenParen ((tt, (x1, (tt, o))), refl, refl)
undo_plain_part (tree.subrange (tree.expr (tree.simple x0 (tree.term x1 x2) x3) x4) (tree.expr (tree.simple x6 (tree.term x7 x8) x9) x10))
    rest o =
    token kinds.OpenBracket ((x0, (x1, (x2, (x3, (x4, (tt, (x6, (x7, (x8, (x9, (x10, (tt, o)))))))))))), refl, refl)
undo_plain_part (tree.record_type x0 x1) rest o = token kinds.Record ((x0, (x1, (tt, o))), refl, refl)

undo_plain_tail : (f : Fill plain_tail) (rest : List Part) (o : Fills rest) → Undo plain_tail f rest o
undo_plain_tail tree.no_plain rest o = nothing refl refl
undo_plain_tail (tree.more_plain x0 x1) rest o = token kinds.Comma ((x0, (x1, o)), refl, refl)

undo_field_list_part : (f : Fill field_list_part) (rest : List Part) (o : Fills rest) → Undo field_list_part f rest o
undo_field_list_part tree.empty_fields rest o = nothing refl refl
undo_field_list_part (tree.fields (tree.names x0) (tree.type_node x2 x3)) rest o = token kinds.Name ((x0, (tt, (x2, (x3, o)))), refl, refl)

undo_field_list_tail : (f : Fill field_list_tail) (rest : List Part) (o : Fills rest) → Undo field_list_tail f rest o
undo_field_list_tail tree.no_fields rest o = nothing refl refl
undo_field_list_tail (tree.more_fields x0 x1) rest o = token kinds.Semicolon ((x0, (x1, o)), refl, refl)

undo_const_tail : (f : Fill const_tail) (rest : List Part) (o : Fills rest) → Undo const_tail f rest o
undo_const_tail tree.no_const rest o = nothing refl refl
undo_const_tail (tree.more_const (tree.expr (tree.simple x1 (tree.term x2 x3) x4) x5) x7) rest o =
    token kinds.Name ((tt, (x1, (x2, (x3, (x4, (x5, (tt, (x7, o)))))))), refl, refl)

undo_type_tail : (f : Fill type_tail) (rest : List Part) (o : Fills rest) → Undo type_tail f rest o
undo_type_tail tree.no_type rest o = nothing refl refl
undo_type_tail (tree.more_type (tree.type_node x1 x2) x4) rest o = token kinds.Name ((tt, (x1, (x2, (tt, (x4, o))))), refl, refl)

undo_var_tail : (f : Fill var_tail) (rest : List Part) (o : Fills rest) → Undo var_tail f rest o
undo_var_tail tree.no_var rest o = nothing refl refl
undo_var_tail (tree.more_var (tree.names x0) (tree.type_node x2 x3) x5) rest o =
    token kinds.Name ((x0, (tt, (x2, (x3, (tt, (x5, o)))))), refl, refl)

undo_mode_part : (f : Fill mode_part) (rest : List Part) (o : Fills rest) → Undo mode_part f rest o
undo_mode_part None rest o = nothing refl refl
undo_mode_part (Some modes.Var) rest o = token kinds.Var (o, refl, refl)
undo_mode_part (Some modes.Mix) rest o = token kinds.Mix (o, refl, refl)

undo_formal_tail : (f : Fill formal_tail) (rest : List Part) (o : Fills rest) → Undo formal_tail f rest o
undo_formal_tail tree.no_formal rest o = nothing refl refl
undo_formal_tail (tree.more_formal (tree.formal x0 (tree.names x2)) x5) rest o =
    token kinds.Semicolon ((x0, (tt, (x2, (tt, (tt, (x5, o)))))), refl, refl)

undo_params_part : (f : Fill params_part) (rest : List Part) (o : Fills rest) → Undo params_part f rest o
undo_params_part tree.no_params rest o = nothing refl refl
undo_params_part tree.empty_params rest o = token kinds.OpenParen ((closed_params, o), refl, refl)
undo_params_part (tree.params f) rest o = token kinds.OpenParen (((filled_params f), o), refl, refl)

undo_params_inside : (f : Fill params_inside) (rest : List Part) (o : Fills rest) → Undo params_inside f rest o
undo_params_inside closed_params rest o = token kinds.CloseParen (o, refl, refl)
undo_params_inside (filled_params (tree.formals (tree.formal (Some modes.Var) (tree.names x1)) x4)) rest o =
    token kinds.Var ((tt, (x1, (tt, (tt, (x4, (tt, o)))))), refl, refl)
undo_params_inside (filled_params (tree.formals (tree.formal (Some modes.Mix) (tree.names x1)) x4)) rest o =
    token kinds.Mix ((tt, (x1, (tt, (tt, (x4, (tt, o)))))), refl, refl)
undo_params_inside (filled_params (tree.formals (tree.formal None (tree.names x0)) x3)) rest o =
    token kinds.Name ((x0, (tt, (tt, (x3, (tt, o))))), refl, refl)

undo_result_part : (f : Fill result_part) (rest : List Part) (o : Fills rest) → Undo result_part f rest o
undo_result_part tree.no_result rest o = nothing refl refl
undo_result_part tree.result_name rest o = token kinds.Colon ((tt, o), refl, refl)

undo_decl_tail : (f : Fill decl_tail) (rest : List Part) (o : Fills rest) → Undo decl_tail f rest o
undo_decl_tail tree.no_decl rest o = nothing refl refl
undo_decl_tail (tree.more_decl (tree.const_decl x0) x1) rest o = token kinds.Const ((x0, (x1, o)), refl, refl)
undo_decl_tail (tree.more_decl (tree.type_decl x0) x1) rest o = token kinds.Type ((x0, (x1, o)), refl, refl)
undo_decl_tail (tree.more_decl (tree.var_decl x0) x1) rest o = token kinds.Var ((x0, (x1, o)), refl, refl)
undo_decl_tail (tree.more_decl (tree.procedure x1 x2 (tree.block x4 x5)) x9) rest o =
    token kinds.Procedure ((tt, (x1, (x2, (tt, (x4, (x5, (tt, (tt, (tt, (x9, o)))))))))), refl, refl)

undo_body_part : (f : Fill body_part) (rest : List Part) (o : Fills rest) → Undo body_part f rest o
undo_body_part tree.no_body rest o = nothing refl refl
undo_body_part (tree.body (tree.stmts x0 x1)) rest o = token kinds.Begin ((x0, (x1, o)), refl, refl)

-- ---- every part

pub undo : (p : Part) (f : Fill p) (rest : List Part) (o : Fills rest) → Undo p f rest o
undo (one a) f rest o = token a (undo_same a f rest o (nat_eq (code a) (code a)) (same_kind a a) (eq-eqb (code a) (code a) refl))
undo sign_part f rest o = undo_sign_part f rest o
undo factor_part f rest o = undo_factor_part f rest o
undo primary_part f rest o = undo_primary_part f rest o
undo factor_tail f rest o = undo_factor_tail f rest o
undo term_tail f rest o = undo_term_tail f rest o
undo compared_part f rest o = undo_compared_part f rest o
undo args_part f rest o = undo_args_part f rest o
undo args_inside f rest o = undo_args_inside f rest o
undo expr_tail f rest o = undo_expr_tail f rest o
undo selector_tail f rest o = undo_selector_tail f rest o
undo stmt_part f rest o = undo_stmt_part f rest o
undo after_desig f rest o = undo_after_desig f rest o
undo stmt_tail f rest o = undo_stmt_tail f rest o
undo elsif_tail f rest o = undo_elsif_tail f rest o
undo else_part f rest o = undo_else_part f rest o
undo by_part f rest o = undo_by_part f rest o
undo orelse_tail f rest o = undo_orelse_tail f rest o
undo returned_part f rest o = undo_returned_part f rest o
undo desig_tail f rest o = undo_desig_tail f rest o
undo arm_part f rest o = undo_arm_part f rest o
undo arm_tail f rest o = undo_arm_tail f rest o
undo high_part f rest o = undo_high_part f rest o
undo label_tail f rest o = undo_label_tail f rest o
undo name_tail f rest o = undo_name_tail f rest o
undo array_tail f rest o = undo_array_tail f rest o
undo plain_part f rest o = undo_plain_part f rest o
undo plain_tail f rest o = undo_plain_tail f rest o
undo field_list_part f rest o = undo_field_list_part f rest o
undo field_list_tail f rest o = undo_field_list_tail f rest o
undo const_tail f rest o = undo_const_tail f rest o
undo type_tail f rest o = undo_type_tail f rest o
undo var_tail f rest o = undo_var_tail f rest o
undo mode_part f rest o = undo_mode_part f rest o
undo formal_tail f rest o = undo_formal_tail f rest o
undo params_part f rest o = undo_params_part f rest o
undo params_inside f rest o = undo_params_inside f rest o
undo result_part f rest o = undo_result_part f rest o
undo decl_tail f rest o = undo_decl_tail f rest o
undo body_part f rest o = undo_body_part f rest o
