-- A part is built from the token that began it and from what fills what is open behind that.
use Rattle.std.proofs.Common.{◌≡◌, Bool, true, false, List, ◌∷◌, ◌++◌, Option, None, Some, nat_eq, refl, ap}
use Rattle.alma_tree.specs.declared.kind.Kind.{Kind}
use Rattle.alma_tree.specs.declared.kind.Kind.TheVariants as kinds
use Rattle.alma_tree.specs.declared.leaf.Relation.TheVariants as relations
use Rattle.alma_tree.specs.declared.leaf.Sign.TheVariants as signs
use Rattle.alma_tree.specs.declared.leaf.AddOperator.TheVariants as adds
use Rattle.alma_tree.specs.declared.leaf.MulOperator.TheVariants as muls
use Rattle.alma_tree.specs.declared.leaf.Mode.TheVariants as modes
use Rattle.alma_tree.specs.Tree as tree
use Rattle.alma_tree.specs.Spelling as spells
use Rattle.alma_tree.specs.Kinds.{code}
use Rattle.alma_grammar.specs.Parts.{Part, one, sign_part, factor_part, primary_part, factor_tail, term_tail, compared_part, args_part}
use Rattle.alma_grammar.specs.Parts.{args_inside}
use Rattle.alma_grammar.specs.Parts.{expr_tail, selector_tail, stmt_part, after_desig, stmt_tail, elsif_tail, else_part, by_part}
use Rattle.alma_grammar.specs.Parts.{orelse_tail}
use Rattle.alma_grammar.specs.Parts.{returned_part, desig_tail, arm_part, arm_tail, high_part, label_tail, name_tail, array_tail}
use Rattle.alma_grammar.specs.Parts.{plain_part, plain_tail}
use Rattle.alma_grammar.specs.Parts.{field_list_part, field_list_tail, const_tail, type_tail, var_tail, mode_part, formal_tail, params_part}
use Rattle.alma_grammar.specs.Parts.{params_inside}
use Rattle.alma_grammar.specs.Parts.{result_part, decl_tail, body_part}
use Rattle.alma_grammar.specs.Parts.{if_same, begins}
use Rattle.alma_grammar.specs.Filling.{Behind, assigned, used, InsideArgs, closed_args, filled_args, InsideParams, closed_params}
use Rattle.alma_grammar.specs.Filling.{filled_params}
use Rattle.alma_grammar.specs.Filling.{Fill, spell_fill, Fills, spell_fills, WhereSome}
use Rattle.alma_grammar.proofs.EveryKind.{same_kind}

-- fillers of what stays open behind a token make one of the part that it began
abbrev pub Built : Part → Kind → List Part → List Part → Type 0
Built p k rest parts =
    (f : Fills (parts ++ rest)) → (whole_part : Fill p) × (others : Fills rest)
    × (spell_fill p whole_part (spell_fills rest others) ≡ k ∷ spell_fills (parts ++ rest) f)

abbrev args_of : InsideArgs → tree.Args
args_of closed_args = tree.empty_args
args_of (filled_args es) = tree.args es

abbrev params_of : InsideParams → tree.Params
params_of closed_params = tree.empty_params
params_of (filled_params f) = tree.params f

abbrev name_stmt : tree.SelectorTail → Behind → tree.Stmt
name_stmt s (assigned e) = tree.assign (tree.desig s) e
name_stmt s (used a fs ts r) =
    tree.value (tree.expr (tree.simple None (tree.term (tree.factor (tree.named (tree.desig s) a)) fs) ts) r)

pub name_spelled : (s : tree.SelectorTail) (b : Behind) (rest : List Kind)
    → spell_fill stmt_part (name_stmt s b) rest ≡ kinds.Name ∷ spell_fill selector_tail s (spell_fill after_desig b rest)
name_spelled s (assigned e) rest = refl
name_spelled s (used a fs ts r) rest = refl

pub args_spelled : (i : InsideArgs) (rest : List Kind)
    → spell_fill args_part (args_of i) rest ≡ kinds.OpenParen ∷ spell_fill args_inside i rest
args_spelled closed_args rest = refl
args_spelled (filled_args es) rest = refl

pub params_spelled : (i : InsideParams) (rest : List Kind)
    → spell_fill params_part (params_of i) rest ≡ kinds.OpenParen ∷ spell_fill params_inside i rest
params_spelled closed_params rest = refl
params_spelled (filled_params f) rest = refl

abbrev pub begun_one : (a k : Kind) (rest : List Part) (b : Bool) → (b ≡ true → a ≡ k) → WhereSome (if_same b) (Built (one a) k rest)
begun_one a k rest true same = λ f. (tt, f, ap (λ x. x ∷ spell_fills rest f) (same refl))
begun_one a k rest false same = tt

abbrev pub begun_sign_part : (k : Kind) (rest : List Part) → WhereSome (begins sign_part k) (Built sign_part k rest)
begun_sign_part kinds.Plus rest = λ f. ((Some signs.Plus), f, refl)
begun_sign_part kinds.Minus rest = λ f. ((Some signs.Minus), f, refl)
begun_sign_part _ rest = tt

abbrev pub begun_primary_part : (k : Kind) (rest : List Part) → WhereSome (begins primary_part k) (Built primary_part k rest)
begun_primary_part kinds.Number rest = λ f. (tree.number, f, refl)
begun_primary_part kinds.Literal rest = λ f. (tree.literal, f, refl)
begun_primary_part kinds.Name rest = λ f. ((tree.named (tree.desig f.0) f.1.0), f.1.1, refl)
begun_primary_part kinds.OpenParen rest = λ f. ((tree.paren (tree.stmts f.0 f.1.0)), f.1.1.1, refl)
begun_primary_part kinds.Known rest = λ f. ((tree.known (tree.desig f.1.1.0)), f.1.1.1.1, refl)
begun_primary_part kinds.Ord rest =
    λ f. ((tree.ord (tree.expr (tree.simple f.1.0 (tree.term f.1.1.0 f.1.1.1.0) f.1.1.1.1.0) f.1.1.1.1.1.0)), f.1.1.1.1.1.1.1, refl)
begun_primary_part kinds.Chr rest =
    λ f. ((tree.chr (tree.expr (tree.simple f.1.0 (tree.term f.1.1.0 f.1.1.1.0) f.1.1.1.1.0) f.1.1.1.1.1.0)), f.1.1.1.1.1.1.1, refl)
begun_primary_part _ rest = tt

-- what a primary is built of builds a factor
abbrev pub as_factor : (k : Kind) (rest : List Part) (b : Option (List Part)) → WhereSome b (Built primary_part k rest)
    → WhereSome b (Built factor_part k rest)
as_factor k rest None w = tt
as_factor k rest (Some parts) w = λ f. let r = w f in (tree.factor r.0, r.1, r.2)

abbrev pub begun_factor_part : (k : Kind) (rest : List Part) → WhereSome (begins factor_part k) (Built factor_part k rest)
begun_factor_part kinds.Not rest = λ f. ((tree.not_factor f.0), f.1, refl)
begun_factor_part k rest = as_factor k rest (begins primary_part k) (begun_primary_part k rest)

-- the same as Built, of an expression, which is no part by itself
abbrev pub BuiltExpr : Kind → List Part → List Part → Type 0
BuiltExpr k rest parts =
    (f : Fills (parts ++ rest)) → (x : tree.Expr) × (o : Fills rest)
    × (spells.spell_expr x (spell_fills rest o) ≡ k ∷ spell_fills (parts ++ rest) f)

-- what may come in an expression behind its first factor
abbrev pub behind_factor : List Part → List Part
behind_factor rest = factor_tail ∷ term_tail ∷ compared_part ∷ rest

-- a factor and what is open behind it make an expression
abbrev pub expr_of : (rest : List Part) (ks : List Kind) → (x : tree.Factor) × (o : Fills (behind_factor rest))
    × (spells.spell_factor x (spell_fills (behind_factor rest) o) ≡ ks)
    → (x : tree.Expr) × (o : Fills rest) × (spells.spell_expr x (spell_fills rest o) ≡ ks)
expr_of rest ks r = (tree.expr (tree.simple None (tree.term r.0 r.1.0) r.1.1.0) r.1.1.1.0, r.1.1.1.1, r.2)

abbrev pub begun_expr : (k : Kind) (rest : List Part) → WhereSome (begins returned_part k) (BuiltExpr k rest)
begun_expr kinds.Plus rest = λ f. (tree.expr (tree.simple (Some signs.Plus) (tree.term f.0 f.1.0) f.1.1.0) f.1.1.1.0, f.1.1.1.1, refl)
begun_expr kinds.Minus rest = λ f. (tree.expr (tree.simple (Some signs.Minus) (tree.term f.0 f.1.0) f.1.1.0) f.1.1.1.0, f.1.1.1.1, refl)
begun_expr kinds.Not rest = λ f. expr_of rest _ (begun_factor_part kinds.Not (behind_factor rest) f)
begun_expr kinds.Number rest = λ f. expr_of rest _ (begun_factor_part kinds.Number (behind_factor rest) f)
begun_expr kinds.Literal rest = λ f. expr_of rest _ (begun_factor_part kinds.Literal (behind_factor rest) f)
begun_expr kinds.Name rest = λ f. expr_of rest _ (begun_factor_part kinds.Name (behind_factor rest) f)
begun_expr kinds.OpenParen rest = λ f. expr_of rest _ (begun_factor_part kinds.OpenParen (behind_factor rest) f)
begun_expr kinds.Known rest = λ f. expr_of rest _ (begun_factor_part kinds.Known (behind_factor rest) f)
begun_expr kinds.Ord rest = λ f. expr_of rest _ (begun_factor_part kinds.Ord (behind_factor rest) f)
begun_expr kinds.Chr rest = λ f. expr_of rest _ (begun_factor_part kinds.Chr (behind_factor rest) f)
begun_expr _ rest = tt

abbrev pub begun_factor_tail : (k : Kind) (rest : List Part) → WhereSome (begins factor_tail k) (Built factor_tail k rest)
begun_factor_tail kinds.Star rest = λ f. ((tree.more_factor muls.Star f.0 f.1.0), f.1.1, refl)
begun_factor_tail kinds.Div rest = λ f. ((tree.more_factor muls.Div f.0 f.1.0), f.1.1, refl)
begun_factor_tail kinds.Mod rest = λ f. ((tree.more_factor muls.Mod f.0 f.1.0), f.1.1, refl)
begun_factor_tail kinds.And rest = λ f. ((tree.more_factor muls.And f.0 f.1.0), f.1.1, refl)
begun_factor_tail _ rest = tt

abbrev pub begun_term_tail : (k : Kind) (rest : List Part) → WhereSome (begins term_tail k) (Built term_tail k rest)
begun_term_tail kinds.Plus rest = λ f. ((tree.more_term adds.Plus (tree.term f.0 f.1.0) f.1.1.0), f.1.1.1, refl)
begun_term_tail kinds.Minus rest = λ f. ((tree.more_term adds.Minus (tree.term f.0 f.1.0) f.1.1.0), f.1.1.1, refl)
begun_term_tail kinds.Or rest = λ f. ((tree.more_term adds.Or (tree.term f.0 f.1.0) f.1.1.0), f.1.1.1, refl)
begun_term_tail _ rest = tt

abbrev pub begun_compared_part : (k : Kind) (rest : List Part) → WhereSome (begins compared_part k) (Built compared_part k rest)
begun_compared_part kinds.Equal rest = λ f.
    ((tree.compared relations.Equal (tree.simple f.0 (tree.term f.1.0 f.1.1.0) f.1.1.1.0)), f.1.1.1.1, refl)
begun_compared_part kinds.Unequal rest =
    λ f. ((tree.compared relations.Unequal (tree.simple f.0 (tree.term f.1.0 f.1.1.0) f.1.1.1.0)), f.1.1.1.1, refl)
begun_compared_part kinds.Less rest = λ f.
    ((tree.compared relations.Less (tree.simple f.0 (tree.term f.1.0 f.1.1.0) f.1.1.1.0)), f.1.1.1.1, refl)
begun_compared_part kinds.LessEq rest = λ f.
    ((tree.compared relations.LessEq (tree.simple f.0 (tree.term f.1.0 f.1.1.0) f.1.1.1.0)), f.1.1.1.1, refl)
begun_compared_part kinds.Greater rest =
    λ f. ((tree.compared relations.Greater (tree.simple f.0 (tree.term f.1.0 f.1.1.0) f.1.1.1.0)), f.1.1.1.1, refl)
begun_compared_part kinds.GreaterEq rest =
    λ f. ((tree.compared relations.GreaterEq (tree.simple f.0 (tree.term f.1.0 f.1.1.0) f.1.1.1.0)), f.1.1.1.1, refl)
begun_compared_part _ rest = tt

abbrev pub begun_args_part : (k : Kind) (rest : List Part) → WhereSome (begins args_part k) (Built args_part k rest)
begun_args_part kinds.OpenParen rest = λ f. ((args_of f.0), f.1, args_spelled f.0 _)
begun_args_part _ rest = tt

-- what comes behind the first of the arguments
abbrev pub behind_arg : List Part → List Part
behind_arg rest = expr_tail ∷ one kinds.CloseParen ∷ rest

-- an expression and what is open behind it make arguments
abbrev pub inside_of : (rest : List Part) (ks : List Kind) → (x : tree.Expr) × (o : Fills (behind_arg rest))
    × (spells.spell_expr x (spell_fills (behind_arg rest) o) ≡ ks)
    → (x : InsideArgs) × (o : Fills rest) × (spell_fill args_inside x (spell_fills rest o) ≡ ks)
inside_of rest ks r = (filled_args (tree.exprs r.0 r.1.0), r.1.1.1, r.2)

abbrev pub begun_args_inside : (k : Kind) (rest : List Part) → WhereSome (begins args_inside k) (Built args_inside k rest)
begun_args_inside kinds.CloseParen rest = λ f. (closed_args, f, refl)
begun_args_inside kinds.Plus rest = λ f. inside_of rest _ (begun_expr kinds.Plus (behind_arg rest) f)
begun_args_inside kinds.Minus rest = λ f. inside_of rest _ (begun_expr kinds.Minus (behind_arg rest) f)
begun_args_inside kinds.Not rest = λ f. inside_of rest _ (begun_expr kinds.Not (behind_arg rest) f)
begun_args_inside kinds.Number rest = λ f. inside_of rest _ (begun_expr kinds.Number (behind_arg rest) f)
begun_args_inside kinds.Literal rest = λ f. inside_of rest _ (begun_expr kinds.Literal (behind_arg rest) f)
begun_args_inside kinds.Name rest = λ f. inside_of rest _ (begun_expr kinds.Name (behind_arg rest) f)
begun_args_inside kinds.OpenParen rest = λ f. inside_of rest _ (begun_expr kinds.OpenParen (behind_arg rest) f)
begun_args_inside kinds.Known rest = λ f. inside_of rest _ (begun_expr kinds.Known (behind_arg rest) f)
begun_args_inside kinds.Ord rest = λ f. inside_of rest _ (begun_expr kinds.Ord (behind_arg rest) f)
begun_args_inside kinds.Chr rest = λ f. inside_of rest _ (begun_expr kinds.Chr (behind_arg rest) f)
begun_args_inside _ rest = tt

abbrev pub begun_expr_tail : (k : Kind) (rest : List Part) → WhereSome (begins expr_tail k) (Built expr_tail k rest)
begun_expr_tail kinds.Comma rest =
    λ f. ((tree.more_expr (tree.expr (tree.simple f.0 (tree.term f.1.0 f.1.1.0) f.1.1.1.0) f.1.1.1.1.0) f.1.1.1.1.1.0), f.1.1.1.1.1.1, refl)
begun_expr_tail _ rest = tt

abbrev pub begun_selector_tail : (k : Kind) (rest : List Part) → WhereSome (begins selector_tail k) (Built selector_tail k rest)
begun_selector_tail kinds.Dot rest = λ f. ((tree.more_selector tree.field f.1.0), f.1.1, refl)
begun_selector_tail kinds.OpenBracket rest =
    λ f. (
      (tree.more_selector (tree.index
          (tree.exprs (tree.expr (tree.simple f.0 (tree.term f.1.0 f.1.1.0) f.1.1.1.0) f.1.1.1.1.0) f.1.1.1.1.1.0))
          f.1.1.1.1.1.1.1.0),
      f.1.1.1.1.1.1.1.1,
      refl,
    )
begun_selector_tail _ rest = tt

-- what an expression is built of builds a statement
abbrev pub as_value : (k : Kind) (rest : List Part) (b : Option (List Part)) → WhereSome b (BuiltExpr k rest)
    → WhereSome b (Built stmt_part k rest)
as_value k rest None w = tt
as_value k rest (Some parts) w = λ f. let r = w f in (tree.value r.0, r.1, r.2)

abbrev pub begun_stmt_part : (k : Kind) (rest : List Part) → WhereSome (begins stmt_part k) (Built stmt_part k rest)
begun_stmt_part kinds.Name rest = λ f. ((name_stmt f.0 f.1.0), f.1.1, name_spelled f.0 f.1.0 _)
begun_stmt_part kinds.If rest =
    λ f. (
      (tree.if_stmt (tree.expr (tree.simple f.0 (tree.term f.1.0 f.1.1.0) f.1.1.1.0) f.1.1.1.1.0)
          (tree.stmts f.1.1.1.1.1.1.0 f.1.1.1.1.1.1.1.0)
          f.1.1.1.1.1.1.1.1.0 f.1.1.1.1.1.1.1.1.1.0),
      f.1.1.1.1.1.1.1.1.1.1.1,
      refl,
    )
begun_stmt_part kinds.While rest =
    λ f. (
      (tree.while_stmt (tree.expr (tree.simple f.0 (tree.term f.1.0 f.1.1.0) f.1.1.1.0) f.1.1.1.1.0)
          (tree.stmts f.1.1.1.1.1.1.0 f.1.1.1.1.1.1.1.0)),
      f.1.1.1.1.1.1.1.1.1,
      refl,
    )
begun_stmt_part kinds.Repeat rest =
    λ f. (
      (tree.repeat_stmt (tree.stmts f.0 f.1.0)
          (tree.expr (tree.simple f.1.1.1.0 (tree.term f.1.1.1.1.0 f.1.1.1.1.1.0) f.1.1.1.1.1.1.0) f.1.1.1.1.1.1.1.0)),
      f.1.1.1.1.1.1.1.1,
      refl,
    )
begun_stmt_part kinds.For rest =
    λ f. (
      (tree.for_stmt (tree.expr (tree.simple f.1.1.0 (tree.term f.1.1.1.0 f.1.1.1.1.0) f.1.1.1.1.1.0) f.1.1.1.1.1.1.0)
          (tree.expr (tree.simple
          f.1.1.1.1.1.1.1.1.0 (tree.term f.1.1.1.1.1.1.1.1.1.0 f.1.1.1.1.1.1.1.1.1.1.0) f.1.1.1.1.1.1.1.1.1.1.1.0)
          f.1.1.1.1.1.1.1.1.1.1.1.1.0)
          f.1.1.1.1.1.1.1.1.1.1.1.1.1.0 (tree.stmts f.1.1.1.1.1.1.1.1.1.1.1.1.1.1.1.0 f.1.1.1.1.1.1.1.1.1.1.1.1.1.1.1.1.0)),
      f.1.1.1.1.1.1.1.1.1.1.1.1.1.1.1.1.1.1,
      refl,
    )
begun_stmt_part kinds.Some rest =
    λ f. (
      (tree.some_stmt (tree.expr (tree.simple f.1.1.0 (tree.term f.1.1.1.0 f.1.1.1.1.0) f.1.1.1.1.1.0) f.1.1.1.1.1.1.0)
          (tree.expr (tree.simple
          f.1.1.1.1.1.1.1.1.0 (tree.term f.1.1.1.1.1.1.1.1.1.0 f.1.1.1.1.1.1.1.1.1.1.0) f.1.1.1.1.1.1.1.1.1.1.1.0)
          f.1.1.1.1.1.1.1.1.1.1.1.1.0)
          (tree.stmts f.1.1.1.1.1.1.1.1.1.1.1.1.1.1.0 f.1.1.1.1.1.1.1.1.1.1.1.1.1.1.1.0)),
      f.1.1.1.1.1.1.1.1.1.1.1.1.1.1.1.1.1,
      refl,
    )
begun_stmt_part kinds.Case rest =
    λ f. (
      (tree.case_stmt (tree.expr (tree.simple f.0 (tree.term f.1.0 f.1.1.0) f.1.1.1.0) f.1.1.1.1.0) f.1.1.1.1.1.1.0 f.1.1.1.1.1.1.1.0
          f.1.1.1.1.1.1.1.1.0),
      f.1.1.1.1.1.1.1.1.1.1,
      refl,
    )
begun_stmt_part kinds.Either rest = λ f. ((tree.either_stmt (tree.stmts f.0 f.1.0) f.1.1.0), f.1.1.1.1, refl)
begun_stmt_part kinds.Forall rest = λ f. ((tree.forall_stmt (tree.stmts f.0 f.1.0) (tree.stmts f.1.1.1.0 f.1.1.1.1.0)), f.1.1.1.1.1.1, refl)
begun_stmt_part kinds.Commit rest = λ f. ((tree.commit_stmt (tree.stmts f.0 f.1.0)), f.1.1.1, refl)
begun_stmt_part kinds.Return rest = λ f. ((tree.return_stmt f.0), f.1, refl)
begun_stmt_part kinds.Read rest = λ f. ((tree.read_stmt (tree.desig f.1.1.0) f.1.1.1.0), f.1.1.1.1.1, refl)
begun_stmt_part kinds.Write rest =
    λ f. (
      (tree.write_stmt (tree.exprs (tree.expr (tree.simple f.1.0 (tree.term f.1.1.0 f.1.1.1.0) f.1.1.1.1.0) f.1.1.1.1.1.0)
          f.1.1.1.1.1.1.0)),
      f.1.1.1.1.1.1.1.1,
      refl,
    )
begun_stmt_part kinds.Writeln rest = λ f. ((tree.writeln_stmt f.0), f.1, refl)
begun_stmt_part k rest = as_value k rest (begins returned_part k) (begun_expr k rest)

-- what a relation is built of builds the rest of an expression
abbrev pub as_behind : (k : Kind) (rest : List Part) (b : Option (List Part)) → WhereSome b (Built compared_part k rest)
    → WhereSome b (Built after_desig k rest)
as_behind k rest None w = tt
as_behind k rest (Some parts) w = λ f. let r = w f in (used tree.no_args tree.no_factor tree.no_term r.0, r.1, r.2)

abbrev pub begun_after_desig : (k : Kind) (rest : List Part) → WhereSome (begins after_desig k) (Built after_desig k rest)
begun_after_desig kinds.Assign rest = λ f.
    ((assigned (tree.expr (tree.simple f.0 (tree.term f.1.0 f.1.1.0) f.1.1.1.0) f.1.1.1.1.0)), f.1.1.1.1.1, refl)
begun_after_desig kinds.OpenParen rest = λ f. ((used (args_of f.0) f.1.0 f.1.1.0 f.1.1.1.0), f.1.1.1.1, args_spelled f.0 _)
begun_after_desig kinds.Star rest = λ f. ((used tree.no_args (tree.more_factor muls.Star f.0 f.1.0) f.1.1.0 f.1.1.1.0), f.1.1.1.1, refl)
begun_after_desig kinds.Div rest = λ f. ((used tree.no_args (tree.more_factor muls.Div f.0 f.1.0) f.1.1.0 f.1.1.1.0), f.1.1.1.1, refl)
begun_after_desig kinds.Mod rest = λ f. ((used tree.no_args (tree.more_factor muls.Mod f.0 f.1.0) f.1.1.0 f.1.1.1.0), f.1.1.1.1, refl)
begun_after_desig kinds.And rest = λ f. ((used tree.no_args (tree.more_factor muls.And f.0 f.1.0) f.1.1.0 f.1.1.1.0), f.1.1.1.1, refl)
begun_after_desig kinds.Plus rest =
    λ f. ((used tree.no_args tree.no_factor (tree.more_term adds.Plus (tree.term f.0 f.1.0) f.1.1.0) f.1.1.1.0), f.1.1.1.1, refl)
begun_after_desig kinds.Minus rest =
    λ f. ((used tree.no_args tree.no_factor (tree.more_term adds.Minus (tree.term f.0 f.1.0) f.1.1.0) f.1.1.1.0), f.1.1.1.1, refl)
begun_after_desig kinds.Or rest = λ f. (
  (used tree.no_args tree.no_factor (tree.more_term adds.Or (tree.term f.0 f.1.0) f.1.1.0) f.1.1.1.0),
  f.1.1.1.1,
  refl,
)
begun_after_desig k rest = as_behind k rest (begins compared_part k) (begun_compared_part k rest)

abbrev pub begun_stmt_tail : (k : Kind) (rest : List Part) → WhereSome (begins stmt_tail k) (Built stmt_tail k rest)
begun_stmt_tail kinds.Semicolon rest = λ f. ((tree.more_stmt f.0 f.1.0), f.1.1, refl)
begun_stmt_tail _ rest = tt

abbrev pub begun_elsif_tail : (k : Kind) (rest : List Part) → WhereSome (begins elsif_tail k) (Built elsif_tail k rest)
begun_elsif_tail kinds.Elsif rest =
    λ f. (
      (tree.more_elsif (tree.expr (tree.simple f.0 (tree.term f.1.0 f.1.1.0) f.1.1.1.0) f.1.1.1.1.0)
          (tree.stmts f.1.1.1.1.1.1.0 f.1.1.1.1.1.1.1.0)
          f.1.1.1.1.1.1.1.1.0),
      f.1.1.1.1.1.1.1.1.1,
      refl,
    )
begun_elsif_tail _ rest = tt

abbrev pub begun_else_part : (k : Kind) (rest : List Part) → WhereSome (begins else_part k) (Built else_part k rest)
begun_else_part kinds.Else rest = λ f. ((tree.else_stmts (tree.stmts f.0 f.1.0)), f.1.1, refl)
begun_else_part _ rest = tt

abbrev pub begun_by_part : (k : Kind) (rest : List Part) → WhereSome (begins by_part k) (Built by_part k rest)
begun_by_part kinds.By rest = λ f. (
  (tree.by_expr (tree.expr (tree.simple f.0 (tree.term f.1.0 f.1.1.0) f.1.1.1.0) f.1.1.1.1.0)),
  f.1.1.1.1.1,
  refl,
)
begun_by_part _ rest = tt

abbrev pub begun_orelse_tail : (k : Kind) (rest : List Part) → WhereSome (begins orelse_tail k) (Built orelse_tail k rest)
begun_orelse_tail kinds.Orelse rest = λ f. ((tree.more_orelse (tree.stmts f.0 f.1.0) f.1.1.0), f.1.1.1, refl)
begun_orelse_tail _ rest = tt

-- what an expression is built of builds what RETURN gives
abbrev pub as_returned : (k : Kind) (rest : List Part) (b : Option (List Part)) → WhereSome b (BuiltExpr k rest)
    → WhereSome b (Built returned_part k rest)
as_returned k rest None w = tt
as_returned k rest (Some parts) w = λ f. let r = w f in (tree.returned r.0, r.1, r.2)

abbrev pub begun_returned_part : (k : Kind) (rest : List Part) → WhereSome (begins returned_part k) (Built returned_part k rest)
begun_returned_part k rest = as_returned k rest (begins returned_part k) (begun_expr k rest)

abbrev pub begun_desig_tail : (k : Kind) (rest : List Part) → WhereSome (begins desig_tail k) (Built desig_tail k rest)
begun_desig_tail kinds.Comma rest = λ f. ((tree.more_desig (tree.desig f.1.0) f.1.1.0), f.1.1.1, refl)
begun_desig_tail _ rest = tt

-- what comes in an arm behind its first expression
abbrev pub behind_low : List Part → List Part
behind_low rest = high_part ∷ label_tail ∷ one kinds.Colon ∷ stmt_part ∷ stmt_tail ∷ rest

-- an expression and what is open behind it make an arm
abbrev pub arm_of : (rest : List Part) (ks : List Kind)
    → (x : tree.Expr) × (o : Fills (behind_low rest))
    × (spells.spell_expr x (spell_fills (behind_low rest) o) ≡ ks)
    → (x : tree.Arm) × (o : Fills rest) × (spell_fill arm_part x (spell_fills rest o) ≡ ks)
arm_of rest ks r = (tree.arm (tree.label r.0 r.1.0) r.1.1.0 (tree.stmts r.1.1.1.1.0 r.1.1.1.1.1.0), r.1.1.1.1.1.1, r.2)

abbrev pub begun_arm_part : (k : Kind) (rest : List Part) → WhereSome (begins arm_part k) (Built arm_part k rest)
begun_arm_part kinds.Plus rest = λ f. arm_of rest _ (begun_expr kinds.Plus (behind_low rest) f)
begun_arm_part kinds.Minus rest = λ f. arm_of rest _ (begun_expr kinds.Minus (behind_low rest) f)
begun_arm_part kinds.Not rest = λ f. arm_of rest _ (begun_expr kinds.Not (behind_low rest) f)
begun_arm_part kinds.Number rest = λ f. arm_of rest _ (begun_expr kinds.Number (behind_low rest) f)
begun_arm_part kinds.Literal rest = λ f. arm_of rest _ (begun_expr kinds.Literal (behind_low rest) f)
begun_arm_part kinds.Name rest = λ f. arm_of rest _ (begun_expr kinds.Name (behind_low rest) f)
begun_arm_part kinds.OpenParen rest = λ f. arm_of rest _ (begun_expr kinds.OpenParen (behind_low rest) f)
begun_arm_part kinds.Known rest = λ f. arm_of rest _ (begun_expr kinds.Known (behind_low rest) f)
begun_arm_part kinds.Ord rest = λ f. arm_of rest _ (begun_expr kinds.Ord (behind_low rest) f)
begun_arm_part kinds.Chr rest = λ f. arm_of rest _ (begun_expr kinds.Chr (behind_low rest) f)
begun_arm_part _ rest = tt

abbrev pub begun_arm_tail : (k : Kind) (rest : List Part) → WhereSome (begins arm_tail k) (Built arm_tail k rest)
begun_arm_tail kinds.Bar rest = λ f. ((tree.more_arm f.0 f.1.0), f.1.1, refl)
begun_arm_tail _ rest = tt

abbrev pub begun_high_part : (k : Kind) (rest : List Part) → WhereSome (begins high_part k) (Built high_part k rest)
begun_high_part kinds.DotDot rest = λ f.
    ((tree.high_expr (tree.expr (tree.simple f.0 (tree.term f.1.0 f.1.1.0) f.1.1.1.0) f.1.1.1.1.0)), f.1.1.1.1.1, refl)
begun_high_part _ rest = tt

abbrev pub begun_label_tail : (k : Kind) (rest : List Part) → WhereSome (begins label_tail k) (Built label_tail k rest)
begun_label_tail kinds.Comma rest =
    λ f. (
      (tree.more_label (tree.label (tree.expr (tree.simple f.0 (tree.term f.1.0 f.1.1.0) f.1.1.1.0) f.1.1.1.1.0) f.1.1.1.1.1.0)
          f.1.1.1.1.1.1.0),
      f.1.1.1.1.1.1.1,
      refl,
    )
begun_label_tail _ rest = tt

abbrev pub begun_name_tail : (k : Kind) (rest : List Part) → WhereSome (begins name_tail k) (Built name_tail k rest)
begun_name_tail kinds.Comma rest = λ f. ((tree.more_name f.1.0), f.1.1, refl)
begun_name_tail _ rest = tt

abbrev pub begun_array_tail : (k : Kind) (rest : List Part) → WhereSome (begins array_tail k) (Built array_tail k rest)
begun_array_tail kinds.Array rest = λ f. ((tree.more_array (tree.dimensions f.0 f.1.0) f.1.1.1.0), f.1.1.1.1, refl)
begun_array_tail _ rest = tt

abbrev pub begun_plain_part : (k : Kind) (rest : List Part) → WhereSome (begins plain_part k) (Built plain_part k rest)
begun_plain_part kinds.Name rest = λ f. (tree.type_name, f, refl)
begun_plain_part kinds.OpenParen rest = λ f. ((tree.listed (tree.names f.1.0)), f.1.1.1, refl)
begun_plain_part kinds.OpenBracket rest =
    λ f. (
      (tree.subrange (tree.expr (tree.simple f.0 (tree.term f.1.0 f.1.1.0) f.1.1.1.0) f.1.1.1.1.0) (tree.expr (tree.simple f.1.1.1.1.1.1.0
          (tree.term f.1.1.1.1.1.1.1.0 f.1.1.1.1.1.1.1.1.0) f.1.1.1.1.1.1.1.1.1.0) f.1.1.1.1.1.1.1.1.1.1.0)),
      f.1.1.1.1.1.1.1.1.1.1.1.1,
      refl,
    )
begun_plain_part kinds.Record rest = λ f. ((tree.record_type f.0 f.1.0), f.1.1.1, refl)
begun_plain_part _ rest = tt

abbrev pub begun_plain_tail : (k : Kind) (rest : List Part) → WhereSome (begins plain_tail k) (Built plain_tail k rest)
begun_plain_tail kinds.Comma rest = λ f. ((tree.more_plain f.0 f.1.0), f.1.1, refl)
begun_plain_tail _ rest = tt

abbrev pub begun_field_list_part : (k : Kind) (rest : List Part) → WhereSome (begins field_list_part k) (Built field_list_part k rest)
begun_field_list_part kinds.Name rest = λ f. ((tree.fields (tree.names f.0) (tree.type_node f.1.1.0 f.1.1.1.0)), f.1.1.1.1, refl)
begun_field_list_part _ rest = tt

abbrev pub begun_field_list_tail : (k : Kind) (rest : List Part) → WhereSome (begins field_list_tail k) (Built field_list_tail k rest)
begun_field_list_tail kinds.Semicolon rest = λ f. ((tree.more_fields f.0 f.1.0), f.1.1, refl)
begun_field_list_tail _ rest = tt

abbrev pub begun_const_tail : (k : Kind) (rest : List Part) → WhereSome (begins const_tail k) (Built const_tail k rest)
begun_const_tail kinds.Name rest =
    λ f. (
      (tree.more_const (tree.expr (tree.simple f.1.0 (tree.term f.1.1.0 f.1.1.1.0) f.1.1.1.1.0) f.1.1.1.1.1.0) f.1.1.1.1.1.1.1.0),
      f.1.1.1.1.1.1.1.1,
      refl,
    )
begun_const_tail _ rest = tt

abbrev pub begun_type_tail : (k : Kind) (rest : List Part) → WhereSome (begins type_tail k) (Built type_tail k rest)
begun_type_tail kinds.Name rest = λ f. ((tree.more_type (tree.type_node f.1.0 f.1.1.0) f.1.1.1.1.0), f.1.1.1.1.1, refl)
begun_type_tail _ rest = tt

abbrev pub begun_var_tail : (k : Kind) (rest : List Part) → WhereSome (begins var_tail k) (Built var_tail k rest)
begun_var_tail kinds.Name rest = λ f. (
  (tree.more_var (tree.names f.0) (tree.type_node f.1.1.0 f.1.1.1.0) f.1.1.1.1.1.0),
  f.1.1.1.1.1.1,
  refl,
)
begun_var_tail _ rest = tt

abbrev pub begun_mode_part : (k : Kind) (rest : List Part) → WhereSome (begins mode_part k) (Built mode_part k rest)
begun_mode_part kinds.Var rest = λ f. ((Some modes.Var), f, refl)
begun_mode_part kinds.Mix rest = λ f. ((Some modes.Mix), f, refl)
begun_mode_part _ rest = tt

abbrev pub begun_formal_tail : (k : Kind) (rest : List Part) → WhereSome (begins formal_tail k) (Built formal_tail k rest)
begun_formal_tail kinds.Semicolon rest = λ f. ((tree.more_formal (tree.formal f.0 (tree.names f.1.1.0)) f.1.1.1.1.1.0), f.1.1.1.1.1.1, refl)
begun_formal_tail _ rest = tt

abbrev pub begun_params_part : (k : Kind) (rest : List Part) → WhereSome (begins params_part k) (Built params_part k rest)
begun_params_part kinds.OpenParen rest = λ f. ((params_of f.0), f.1, params_spelled f.0 _)
begun_params_part _ rest = tt

abbrev pub begun_params_inside : (k : Kind) (rest : List Part) → WhereSome (begins params_inside k) (Built params_inside k rest)
begun_params_inside kinds.CloseParen rest = λ f. (closed_params, f, refl)
begun_params_inside kinds.Var rest = λ f. (
  (filled_params (tree.formals (tree.formal (Some modes.Var) (tree.names f.1.0)) f.1.1.1.1.0)),
  f.1.1.1.1.1.1,
  refl,
)
begun_params_inside kinds.Mix rest = λ f. (
  (filled_params (tree.formals (tree.formal (Some modes.Mix) (tree.names f.1.0)) f.1.1.1.1.0)),
  f.1.1.1.1.1.1,
  refl,
)
begun_params_inside kinds.Name rest = λ f. ((filled_params (tree.formals (tree.formal None (tree.names f.0)) f.1.1.1.0)), f.1.1.1.1.1, refl)
begun_params_inside _ rest = tt

abbrev pub begun_result_part : (k : Kind) (rest : List Part) → WhereSome (begins result_part k) (Built result_part k rest)
begun_result_part kinds.Colon rest = λ f. (tree.result_name, f.1, refl)
begun_result_part _ rest = tt

abbrev pub begun_decl_tail : (k : Kind) (rest : List Part) → WhereSome (begins decl_tail k) (Built decl_tail k rest)
begun_decl_tail kinds.Const rest = λ f. ((tree.more_decl (tree.const_decl f.0) f.1.0), f.1.1, refl)
begun_decl_tail kinds.Type rest = λ f. ((tree.more_decl (tree.type_decl f.0) f.1.0), f.1.1, refl)
begun_decl_tail kinds.Var rest = λ f. ((tree.more_decl (tree.var_decl f.0) f.1.0), f.1.1, refl)
begun_decl_tail kinds.Procedure rest =
    λ f. (
      (tree.more_decl (tree.procedure f.1.0 f.1.1.0 (tree.block f.1.1.1.1.0 f.1.1.1.1.1.0)) f.1.1.1.1.1.1.1.1.1.0),
      f.1.1.1.1.1.1.1.1.1.1,
      refl,
    )
begun_decl_tail _ rest = tt

abbrev pub begun_body_part : (k : Kind) (rest : List Part) → WhereSome (begins body_part k) (Built body_part k rest)
begun_body_part kinds.Begin rest = λ f. ((tree.body (tree.stmts f.0 f.1.0)), f.1.1, refl)
begun_body_part _ rest = tt

-- one token, undone
abbrev pub begun : (p : Part) (k : Kind) (rest : List Part) → WhereSome (begins p k) (Built p k rest)
begun (one a) k rest = begun_one a k rest (nat_eq (code a) (code k)) (same_kind a k)
begun sign_part k rest = begun_sign_part k rest
begun factor_part k rest = begun_factor_part k rest
begun primary_part k rest = begun_primary_part k rest
begun factor_tail k rest = begun_factor_tail k rest
begun term_tail k rest = begun_term_tail k rest
begun compared_part k rest = begun_compared_part k rest
begun args_part k rest = begun_args_part k rest
begun args_inside k rest = begun_args_inside k rest
begun expr_tail k rest = begun_expr_tail k rest
begun selector_tail k rest = begun_selector_tail k rest
begun stmt_part k rest = begun_stmt_part k rest
begun after_desig k rest = begun_after_desig k rest
begun stmt_tail k rest = begun_stmt_tail k rest
begun elsif_tail k rest = begun_elsif_tail k rest
begun else_part k rest = begun_else_part k rest
begun by_part k rest = begun_by_part k rest
begun orelse_tail k rest = begun_orelse_tail k rest
begun returned_part k rest = begun_returned_part k rest
begun desig_tail k rest = begun_desig_tail k rest
begun arm_part k rest = begun_arm_part k rest
begun arm_tail k rest = begun_arm_tail k rest
begun high_part k rest = begun_high_part k rest
begun label_tail k rest = begun_label_tail k rest
begun name_tail k rest = begun_name_tail k rest
begun array_tail k rest = begun_array_tail k rest
begun plain_part k rest = begun_plain_part k rest
begun plain_tail k rest = begun_plain_tail k rest
begun field_list_part k rest = begun_field_list_part k rest
begun field_list_tail k rest = begun_field_list_tail k rest
begun const_tail k rest = begun_const_tail k rest
begun type_tail k rest = begun_type_tail k rest
begun var_tail k rest = begun_var_tail k rest
begun mode_part k rest = begun_mode_part k rest
begun formal_tail k rest = begun_formal_tail k rest
begun params_part k rest = begun_params_part k rest
begun params_inside k rest = begun_params_inside k rest
begun result_part k rest = begun_result_part k rest
begun decl_tail k rest = begun_decl_tail k rest
begun body_part k rest = begun_body_part k rest
