-- What is still open while a program is read from left to right, one token after another.
use Rattle.std.specs.Prelude.{Bool, true, false, ◌&&◌, List, [], ◌∷◌, ◌++◌, Option, None, Some, nat_eq}
use Rattle.alma_tree.specs.declared.kind.Kind.{Kind}
use Rattle.alma_tree.specs.declared.kind.Kind.TheVariants as kinds
use Rattle.alma_tree.specs.Kinds.{code}

-- A part of the grammar that is to come: one token, or what its name says. A tail is what may come any number of times.
pub data Part : Type 0 where
  one : Kind → Part
  -- expressions: a sign or none, a factor, a primary, factors, terms, the right side of a relation or none
  sign_part : Part
  factor_part : Part
  primary_part : Part
  factor_tail : Part
  term_tail : Part
  compared_part : Part
  -- arguments or none, what stands behind their opening parenthesis, further expressions, selectors
  args_part : Part
  args_inside : Part
  expr_tail : Part
  selector_tail : Part
  -- statements, and what stands behind a designator that begins one
  stmt_part : Part
  after_desig : Part
  stmt_tail : Part
  elsif_tail : Part
  else_part : Part
  by_part : Part
  orelse_tail : Part
  returned_part : Part
  desig_tail : Part
  arm_part : Part
  arm_tail : Part
  high_part : Part
  label_tail : Part
  -- names and types
  name_tail : Part
  array_tail : Part
  plain_part : Part
  plain_tail : Part
  field_list_part : Part
  field_list_tail : Part
  -- declarations, and what stands behind the opening parenthesis of parameters
  const_tail : Part
  type_tail : Part
  var_tail : Part
  mode_part : Part
  formal_tail : Part
  params_part : Part
  params_inside : Part
  result_part : Part
  decl_tail : Part
  body_part : Part

-- ---- the parts of what is no part by itself, before further parts

-- Term = Factor { MulOperator Factor } .
abbrev pub term_parts : List Part → List Part
term_parts rest = factor_part ∷ factor_tail ∷ rest

-- Simple = [ Sign ] Term { AddOperator Term } .
abbrev pub simple_parts : List Part → List Part
simple_parts rest = sign_part ∷ factor_part ∷ factor_tail ∷ term_tail ∷ rest

-- Expr = Simple [ Relation Simple ] .
abbrev pub expr_parts : List Part → List Part
expr_parts rest = sign_part ∷ factor_part ∷ factor_tail ∷ term_tail ∷ compared_part ∷ rest

-- Expr { "," Expr }
abbrev pub exprs_parts : List Part → List Part
exprs_parts rest = expr_parts (expr_tail ∷ rest)

-- Desig = Name { Selector } .
abbrev pub desig_parts : List Part → List Part
desig_parts rest = one kinds.Name ∷ selector_tail ∷ rest

-- Stmts = Stmt { ";" Stmt } .
abbrev pub stmts_parts : List Part → List Part
stmts_parts rest = stmt_part ∷ stmt_tail ∷ rest

-- Label = Expr [ ".." Expr ] .
abbrev pub label_parts : List Part → List Part
label_parts rest = expr_parts (high_part ∷ rest)

-- Names = Name { "," Name } .
abbrev pub names_parts : List Part → List Part
names_parts rest = one kinds.Name ∷ name_tail ∷ rest

-- TypeNode = { Dimensions } PlainType .
abbrev pub type_parts : List Part → List Part
type_parts rest = array_tail ∷ plain_part ∷ rest

-- Formal = [ VAR | MIX ] Names ":" Name .
abbrev pub formal_parts : List Part → List Part
formal_parts rest = mode_part ∷ one kinds.Name ∷ name_tail ∷ one kinds.Colon ∷ one kinds.Name ∷ rest

-- Block = { Decl } [ BEGIN Stmts ] .
abbrev pub block_parts : List Part → List Part
block_parts rest = decl_tail ∷ body_part ∷ rest

-- a whole program
abbrev pub whole : List Part
whole =
    one kinds.Module ∷ one kinds.Name ∷ one kinds.Semicolon ∷ block_parts (one kinds.End ∷ one kinds.Name ∷ one kinds.Dot ∷ [])

-- ---- what stays open of a part once it has begun with a token

-- a part that is one token: nothing is open of it behind that very token, and no other begins it
abbrev pub if_same : Bool → Option (List Part)
if_same true = Some []
if_same false = None

-- what is open of a first part, and further parts behind it; none where the first cannot begin so
abbrev pub followed_by : Option (List Part) → List Part → Option (List Part)
followed_by None more = None
followed_by (Some parts) more = Some (parts ++ more)

-- [ Sign ]: plus or minus, and nothing more
abbrev pub begin_sign : Kind → Option (List Part)
begin_sign kinds.Plus = Some []
begin_sign kinds.Minus = Some []
begin_sign _ = None

-- Primary: the token tells which choice it is
abbrev pub begin_primary : Kind → Option (List Part)
begin_primary kinds.Number = Some []
begin_primary kinds.Literal = Some []
begin_primary kinds.Name = Some (selector_tail ∷ args_part ∷ [])
begin_primary kinds.OpenParen = Some (stmts_parts (one kinds.CloseParen ∷ []))
begin_primary kinds.Known = Some (one kinds.OpenParen ∷ desig_parts (one kinds.CloseParen ∷ []))
begin_primary kinds.Ord = Some (one kinds.OpenParen ∷ expr_parts (one kinds.CloseParen ∷ []))
begin_primary kinds.Chr = Some (one kinds.OpenParen ∷ expr_parts (one kinds.CloseParen ∷ []))
begin_primary _ = None

-- Factor: NOT and a primary, or a primary
abbrev pub begin_factor : Kind → Option (List Part)
begin_factor kinds.Not = Some (primary_part ∷ [])
begin_factor k = begin_primary k

-- { MulOperator Factor }: an operator, and then a factor and the same again
abbrev pub begin_factor_tail : Kind → Option (List Part)
begin_factor_tail kinds.Star = Some (term_parts [])
begin_factor_tail kinds.Div = Some (term_parts [])
begin_factor_tail kinds.Mod = Some (term_parts [])
begin_factor_tail kinds.And = Some (term_parts [])
begin_factor_tail _ = None

-- { AddOperator Term }: an operator, and then a term and the same again
abbrev pub begin_term_tail : Kind → Option (List Part)
begin_term_tail kinds.Plus = Some (term_parts (term_tail ∷ []))
begin_term_tail kinds.Minus = Some (term_parts (term_tail ∷ []))
begin_term_tail kinds.Or = Some (term_parts (term_tail ∷ []))
begin_term_tail _ = None

-- [ Relation Simple ]: a relation, and then a Simple, behind which no second relation comes
abbrev pub begin_compared : Kind → Option (List Part)
begin_compared kinds.Equal = Some (simple_parts [])
begin_compared kinds.Unequal = Some (simple_parts [])
begin_compared kinds.Less = Some (simple_parts [])
begin_compared kinds.LessEq = Some (simple_parts [])
begin_compared kinds.Greater = Some (simple_parts [])
begin_compared kinds.GreaterEq = Some (simple_parts [])
begin_compared _ = None

-- an expression: a sign, or a factor
abbrev pub begin_expr : Kind → Option (List Part)
begin_expr kinds.Plus = Some (term_parts (term_tail ∷ compared_part ∷ []))
begin_expr kinds.Minus = Some (term_parts (term_tail ∷ compared_part ∷ []))
begin_expr k = followed_by (begin_factor k) (factor_tail ∷ term_tail ∷ compared_part ∷ [])

-- [ "(" [ Exprs ] ")" ]: the opening parenthesis
abbrev pub begin_args : Kind → Option (List Part)
begin_args kinds.OpenParen = Some (args_inside ∷ [])
begin_args _ = None

-- [ Exprs ] ")": the closing parenthesis, or the first expression
abbrev pub begin_args_inside : Kind → Option (List Part)
begin_args_inside kinds.CloseParen = Some []
begin_args_inside k = followed_by (begin_expr k) (expr_tail ∷ one kinds.CloseParen ∷ [])

-- { "," Expr }: a comma, and then an expression and the same again
abbrev pub begin_expr_tail : Kind → Option (List Part)
begin_expr_tail kinds.Comma = Some (exprs_parts [])
begin_expr_tail _ = None

-- { Selector }: a dot and a name, or a bracket and indexes, and then the same again
abbrev pub begin_selector_tail : Kind → Option (List Part)
begin_selector_tail kinds.Dot = Some (one kinds.Name ∷ selector_tail ∷ [])
begin_selector_tail kinds.OpenBracket = Some (exprs_parts (one kinds.CloseBracket ∷ selector_tail ∷ []))
begin_selector_tail _ = None

-- Stmt: the token tells which choice it is; a Name begins an assignment or an expression
abbrev pub begin_stmt : Kind → Option (List Part)
begin_stmt kinds.Name = Some (selector_tail ∷ after_desig ∷ [])
begin_stmt kinds.If = Some (expr_parts (one kinds.Then ∷ stmts_parts (elsif_tail ∷ else_part ∷ one kinds.End ∷ [])))
begin_stmt kinds.While = Some (expr_parts (one kinds.Do ∷ stmts_parts (one kinds.End ∷ [])))
begin_stmt kinds.Repeat = Some (stmts_parts (one kinds.Until ∷ expr_parts []))
begin_stmt kinds.For =
    Some (one kinds.Name ∷ one kinds.Assign ∷ expr_parts
    (one kinds.To ∷ expr_parts (by_part ∷ one kinds.Do ∷ stmts_parts (one kinds.End ∷ []))))
begin_stmt kinds.Some =
    Some (one kinds.Name ∷ one kinds.Assign ∷ expr_parts (one kinds.To ∷ expr_parts (one kinds.Do ∷ stmts_parts (one kinds.End ∷ []))))
begin_stmt kinds.Case = Some (expr_parts (one kinds.Of ∷ arm_part ∷ arm_tail ∷ else_part ∷ one kinds.End ∷ []))
begin_stmt kinds.Either = Some (stmts_parts (orelse_tail ∷ one kinds.End ∷ []))
begin_stmt kinds.Forall = Some (stmts_parts (one kinds.Do ∷ stmts_parts (one kinds.End ∷ [])))
begin_stmt kinds.Commit = Some (stmts_parts (one kinds.End ∷ []))
begin_stmt kinds.Return = Some (returned_part ∷ [])
begin_stmt kinds.Read = Some (one kinds.OpenParen ∷ desig_parts (desig_tail ∷ one kinds.CloseParen ∷ []))
begin_stmt kinds.Write = Some (one kinds.OpenParen ∷ exprs_parts (one kinds.CloseParen ∷ []))
begin_stmt kinds.Writeln = Some (args_part ∷ [])
begin_stmt k = begin_expr k

-- `:=` and an expression, or the rest of an expression
abbrev pub begin_after_desig : Kind → Option (List Part)
begin_after_desig kinds.Assign = Some (expr_parts [])
begin_after_desig kinds.OpenParen = Some (args_inside ∷ factor_tail ∷ term_tail ∷ compared_part ∷ [])
begin_after_desig kinds.Star = Some (term_parts (term_tail ∷ compared_part ∷ []))
begin_after_desig kinds.Div = Some (term_parts (term_tail ∷ compared_part ∷ []))
begin_after_desig kinds.Mod = Some (term_parts (term_tail ∷ compared_part ∷ []))
begin_after_desig kinds.And = Some (term_parts (term_tail ∷ compared_part ∷ []))
begin_after_desig kinds.Plus = Some (term_parts (term_tail ∷ compared_part ∷ []))
begin_after_desig kinds.Minus = Some (term_parts (term_tail ∷ compared_part ∷ []))
begin_after_desig kinds.Or = Some (term_parts (term_tail ∷ compared_part ∷ []))
begin_after_desig k = begin_compared k

-- { ";" Stmt }: a semicolon, and then a statement and the same again
abbrev pub begin_stmt_tail : Kind → Option (List Part)
begin_stmt_tail kinds.Semicolon = Some (stmts_parts [])
begin_stmt_tail _ = None

-- { ELSIF Expr THEN Stmts }: the word, and then the rest of one and the same again
abbrev pub begin_elsif_tail : Kind → Option (List Part)
begin_elsif_tail kinds.Elsif = Some (expr_parts (one kinds.Then ∷ stmts_parts (elsif_tail ∷ [])))
begin_elsif_tail _ = None

-- [ ELSE Stmts ]: the word, and then statements
abbrev pub begin_else : Kind → Option (List Part)
begin_else kinds.Else = Some (stmts_parts [])
begin_else _ = None

-- [ BY Expr ]: the word, and then an expression
abbrev pub begin_by : Kind → Option (List Part)
begin_by kinds.By = Some (expr_parts [])
begin_by _ = None

-- { ORELSE Stmts }: the word, and then statements and the same again
abbrev pub begin_orelse_tail : Kind → Option (List Part)
begin_orelse_tail kinds.Orelse = Some (stmts_parts (orelse_tail ∷ []))
begin_orelse_tail _ = None

-- { "," Desig }: a comma, and then a designator and the same again
abbrev pub begin_desig_tail : Kind → Option (List Part)
begin_desig_tail kinds.Comma = Some (desig_parts (desig_tail ∷ []))
begin_desig_tail _ = None

-- Arm: the first expression of a label; an empty arm begins with no token
abbrev pub begin_arm : Kind → Option (List Part)
begin_arm k = followed_by (begin_expr k) (high_part ∷ label_tail ∷ one kinds.Colon ∷ stmts_parts [])

-- { "|" Arm }: a bar, and then an arm and the same again
abbrev pub begin_arm_tail : Kind → Option (List Part)
begin_arm_tail kinds.Bar = Some (arm_part ∷ arm_tail ∷ [])
begin_arm_tail _ = None

-- [ ".." Expr ]: the two dots, and then an expression
abbrev pub begin_high : Kind → Option (List Part)
begin_high kinds.DotDot = Some (expr_parts [])
begin_high _ = None

-- { "," Label }: a comma, and then a label and the same again
abbrev pub begin_label_tail : Kind → Option (List Part)
begin_label_tail kinds.Comma = Some (label_parts (label_tail ∷ []))
begin_label_tail _ = None

-- { "," Name }: a comma, and then a name and the same again
abbrev pub begin_name_tail : Kind → Option (List Part)
begin_name_tail kinds.Comma = Some (names_parts [])
begin_name_tail _ = None

-- { ARRAY PlainType { "," PlainType } OF }: the word, and then the rest of one and the same again
abbrev pub begin_array_tail : Kind → Option (List Part)
begin_array_tail kinds.Array = Some (plain_part ∷ plain_tail ∷ one kinds.Of ∷ array_tail ∷ [])
begin_array_tail _ = None

-- PlainType: a name, or the opening of an enumeration, a subrange or a record
abbrev pub begin_plain : Kind → Option (List Part)
begin_plain kinds.Name = Some []
begin_plain kinds.OpenParen = Some (names_parts (one kinds.CloseParen ∷ []))
begin_plain kinds.OpenBracket = Some (expr_parts (one kinds.DotDot ∷ expr_parts (one kinds.CloseBracket ∷ [])))
begin_plain kinds.Record = Some (field_list_part ∷ field_list_tail ∷ one kinds.End ∷ [])
begin_plain _ = None

-- { "," PlainType }: a comma, and then a plain type and the same again
abbrev pub begin_plain_tail : Kind → Option (List Part)
begin_plain_tail kinds.Comma = Some (plain_part ∷ plain_tail ∷ [])
begin_plain_tail _ = None

-- FieldList: the first of its names; an empty one begins with no token
abbrev pub begin_field_list : Kind → Option (List Part)
begin_field_list kinds.Name = Some (name_tail ∷ one kinds.Colon ∷ type_parts [])
begin_field_list _ = None

-- { ";" FieldList }: a semicolon, and then a field list and the same again
abbrev pub begin_field_list_tail : Kind → Option (List Part)
begin_field_list_tail kinds.Semicolon = Some (field_list_part ∷ field_list_tail ∷ [])
begin_field_list_tail _ = None

-- { Name "=" Expr ";" }: a name, and then the rest of its entry and the same again
abbrev pub begin_const_tail : Kind → Option (List Part)
begin_const_tail kinds.Name = Some (one kinds.Equal ∷ expr_parts (one kinds.Semicolon ∷ const_tail ∷ []))
begin_const_tail _ = None

-- { Name "=" TypeNode ";" }: a name, and then the rest of its entry and the same again
abbrev pub begin_type_tail : Kind → Option (List Part)
begin_type_tail kinds.Name = Some (one kinds.Equal ∷ type_parts (one kinds.Semicolon ∷ type_tail ∷ []))
begin_type_tail _ = None

-- { Names ":" TypeNode ";" }: a name, and then the rest of its entry and the same again
abbrev pub begin_var_tail : Kind → Option (List Part)
begin_var_tail kinds.Name = Some (name_tail ∷ one kinds.Colon ∷ type_parts (one kinds.Semicolon ∷ var_tail ∷ []))
begin_var_tail _ = None

-- [ VAR | MIX ]: one of the words, and nothing more
abbrev pub begin_mode : Kind → Option (List Part)
begin_mode kinds.Var = Some []
begin_mode kinds.Mix = Some []
begin_mode _ = None

-- { ";" Formal }: a semicolon, and then a formal and the same again
abbrev pub begin_formal_tail : Kind → Option (List Part)
begin_formal_tail kinds.Semicolon = Some (formal_parts (formal_tail ∷ []))
begin_formal_tail _ = None

-- [ "(" [ Formals ] ")" ]: the opening parenthesis
abbrev pub begin_params : Kind → Option (List Part)
begin_params kinds.OpenParen = Some (params_inside ∷ [])
begin_params _ = None

-- [ Formals ] ")": the closing parenthesis, or the mode or first name of the first formal
abbrev pub begin_params_inside : Kind → Option (List Part)
begin_params_inside kinds.CloseParen = Some []
begin_params_inside kinds.Var = Some (names_parts (one kinds.Colon ∷ one kinds.Name ∷ formal_tail ∷ one kinds.CloseParen ∷ []))
begin_params_inside kinds.Mix = Some (names_parts (one kinds.Colon ∷ one kinds.Name ∷ formal_tail ∷ one kinds.CloseParen ∷ []))
begin_params_inside kinds.Name = Some (name_tail ∷ one kinds.Colon ∷ one kinds.Name ∷ formal_tail ∷ one kinds.CloseParen ∷ [])
begin_params_inside _ = None

-- [ ":" Name ]: the colon, and then the name of a type
abbrev pub begin_result : Kind → Option (List Part)
begin_result kinds.Colon = Some (one kinds.Name ∷ [])
begin_result _ = None

-- { Decl }: the word that tells which choice it is, and then the rest of one and the same again
abbrev pub begin_decl_tail : Kind → Option (List Part)
begin_decl_tail kinds.Const = Some (const_tail ∷ decl_tail ∷ [])
begin_decl_tail kinds.Type = Some (type_tail ∷ decl_tail ∷ [])
begin_decl_tail kinds.Var = Some (var_tail ∷ decl_tail ∷ [])
begin_decl_tail kinds.Procedure =
    Some (one kinds.Name ∷ params_part ∷ result_part ∷ one kinds.Semicolon
    ∷ block_parts (one kinds.End ∷ one kinds.Name ∷ one kinds.Semicolon ∷ decl_tail ∷ []))
begin_decl_tail _ = None

-- [ BEGIN Stmts ]: the word, and then statements
abbrev pub begin_body : Kind → Option (List Part)
begin_body kinds.Begin = Some (stmts_parts [])
begin_body _ = None

-- what stays open of a part once it has begun with a token, where it can
abbrev pub begins : Part → Kind → Option (List Part)
begins (one a) k = if_same (nat_eq (code a) (code k))
begins sign_part k = begin_sign k
begins factor_part k = begin_factor k
begins primary_part k = begin_primary k
begins factor_tail k = begin_factor_tail k
begins term_tail k = begin_term_tail k
begins compared_part k = begin_compared k
begins args_part k = begin_args k
begins args_inside k = begin_args_inside k
begins expr_tail k = begin_expr_tail k
begins selector_tail k = begin_selector_tail k
begins stmt_part k = begin_stmt k
begins after_desig k = begin_after_desig k
begins stmt_tail k = begin_stmt_tail k
begins elsif_tail k = begin_elsif_tail k
begins else_part k = begin_else k
begins by_part k = begin_by k
begins orelse_tail k = begin_orelse_tail k
begins returned_part k = begin_expr k
begins desig_tail k = begin_desig_tail k
begins arm_part k = begin_arm k
begins arm_tail k = begin_arm_tail k
begins high_part k = begin_high k
begins label_tail k = begin_label_tail k
begins name_tail k = begin_name_tail k
begins array_tail k = begin_array_tail k
begins plain_part k = begin_plain k
begins plain_tail k = begin_plain_tail k
begins field_list_part k = begin_field_list k
begins field_list_tail k = begin_field_list_tail k
begins const_tail k = begin_const_tail k
begins type_tail k = begin_type_tail k
begins var_tail k = begin_var_tail k
begins mode_part k = begin_mode k
begins formal_tail k = begin_formal_tail k
begins params_part k = begin_params k
begins params_inside k = begin_params_inside k
begins result_part k = begin_result k
begins decl_tail k = begin_decl_tail k
begins body_part k = begin_body k

-- whether a part may be left out
abbrev pub may_skip : Part → Bool
may_skip (one _) = false
may_skip factor_part = false
may_skip primary_part = false
may_skip args_inside = false
may_skip plain_part = false
may_skip params_inside = false
may_skip _ = true

-- ---- what is open after one more token

-- the token goes to the part that it can begin; else to a later one, where this may be left out
abbrev pub this_or_later : Option (List Part) → Bool → List Part → Option (List Part) → Option (List Part)
this_or_later (Some parts) may rest later = Some (parts ++ rest)
this_or_later None true rest later = later
this_or_later None false rest later = None

-- a token goes to the first open part that it can begin; parts before that one are left out,
-- where all of them may be
abbrev pub next : List Part → Kind → Option (List Part)
next [] k = None
next (p ∷ rest) k = this_or_later (begins p k) (may_skip p) rest (next rest k)

-- the program may end here: each part that is open may be left out
abbrev pub all_skip : List Part → Bool
all_skip [] = true
all_skip (p ∷ rest) = may_skip p && all_skip rest
