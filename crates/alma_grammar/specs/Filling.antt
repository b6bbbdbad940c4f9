-- What may fill the parts that are open, and the shortest that does.
use Rattle.std.specs.Prelude.{List, [], ◌∷◌, Option, None, Some}
use Rattle.alma_tree.specs.declared.kind.Kind.{Kind}
use Rattle.alma_tree.specs.declared.kind.Kind.TheVariants as kinds
use Rattle.alma_tree.specs.declared.leaf.Sign.{Sign}
use Rattle.alma_tree.specs.declared.leaf.Mode.{Mode}
use Rattle.alma_tree.specs.Tree as tree
use Rattle.alma_tree.specs.Spelling as spells
use Rattle.alma_grammar.specs.Parts.{Part, one, sign_part, factor_part, primary_part, factor_tail, term_tail, compared_part, args_part}
use Rattle.alma_grammar.specs.Parts.{args_inside}
use Rattle.alma_grammar.specs.Parts.{expr_tail, selector_tail, stmt_part, after_desig, stmt_tail, elsif_tail, else_part, by_part}
use Rattle.alma_grammar.specs.Parts.{orelse_tail}
use Rattle.alma_grammar.specs.Parts.{returned_part, desig_tail, arm_part, arm_tail, high_part, label_tail, name_tail, array_tail}
use Rattle.alma_grammar.specs.Parts.{plain_part, plain_tail}
use Rattle.alma_grammar.specs.Parts.{field_list_part, field_list_tail, const_tail, type_tail, var_tail, mode_part, formal_tail, params_part}
use Rattle.alma_grammar.specs.Parts.{params_inside}
use Rattle.alma_grammar.specs.Parts.{result_part, decl_tail, body_part, next}

-- what stands behind a designator that begins a statement
pub data Behind : Type 0 where
  assigned : tree.Expr → Behind
  used : tree.Args → tree.FactorTail → tree.TermTail → tree.Compared → Behind

-- what stands behind the opening parenthesis of arguments
pub data InsideArgs : Type 0 where
  closed_args : InsideArgs
  filled_args : tree.Exprs → InsideArgs

-- what stands behind the opening parenthesis of parameters
pub data InsideParams : Type 0 where
  closed_params : InsideParams
  filled_params : tree.Formals → InsideParams

-- the trees that may fill a part
abbrev pub Fill : Part → Type 0
Fill (one k) = Unit {0}
Fill sign_part = Option Sign
Fill factor_part = tree.Factor
Fill primary_part = tree.Primary
Fill factor_tail = tree.FactorTail
Fill term_tail = tree.TermTail
Fill compared_part = tree.Compared
Fill args_part = tree.Args
Fill args_inside = InsideArgs
Fill expr_tail = tree.ExprTail
Fill selector_tail = tree.SelectorTail
Fill stmt_part = tree.Stmt
Fill after_desig = Behind
Fill stmt_tail = tree.StmtTail
Fill elsif_tail = tree.ElsifTail
Fill else_part = tree.Else
Fill by_part = tree.By
Fill orelse_tail = tree.OrelseTail
Fill returned_part = tree.Returned
Fill desig_tail = tree.DesigTail
Fill arm_part = tree.Arm
Fill arm_tail = tree.ArmTail
Fill high_part = tree.High
Fill label_tail = tree.LabelTail
Fill name_tail = tree.NameTail
Fill array_tail = tree.ArrayTail
Fill plain_part = tree.PlainType
Fill plain_tail = tree.PlainTail
Fill field_list_part = tree.FieldList
Fill field_list_tail = tree.FieldListTail
Fill const_tail = tree.ConstTail
Fill type_tail = tree.TypeTail
Fill var_tail = tree.VarTail
Fill mode_part = Option Mode
Fill formal_tail = tree.FormalTail
Fill params_part = tree.Params
Fill params_inside = InsideParams
Fill result_part = tree.ResultName
Fill decl_tail = tree.DeclTail
Fill body_part = tree.Body

-- `:=` and an expression; or the rest of an expression that the designator began
abbrev pub spell_behind : Behind → List Kind → List Kind
spell_behind (assigned e) rest = kinds.Assign ∷ spells.spell_expr e rest
spell_behind (used a fs ts r) rest = spells.spell_args a
    (spells.spell_factor_tail fs (spells.spell_term_tail ts (spells.spell_compared r rest)))

-- the rest of arguments, the closing parenthesis included
abbrev pub spell_inside_args : InsideArgs → List Kind → List Kind
spell_inside_args closed_args rest = kinds.CloseParen ∷ rest
spell_inside_args (filled_args es) rest = spells.spell_exprs es (kinds.CloseParen ∷ rest)

-- the rest of parameters, the closing parenthesis included
abbrev pub spell_inside_params : InsideParams → List Kind → List Kind
spell_inside_params closed_params rest = kinds.CloseParen ∷ rest
spell_inside_params (filled_params f) rest = spells.spell_formals f (kinds.CloseParen ∷ rest)

-- the spelling of what fills a part, before the tokens that follow it
abbrev pub spell_fill : (p : Part) → Fill p → List Kind → List Kind
spell_fill (one k) _ rest = k ∷ rest
spell_fill sign_part t rest = spells.spell_sign t rest
spell_fill factor_part t rest = spells.spell_factor t rest
spell_fill primary_part t rest = spells.spell_primary t rest
spell_fill factor_tail t rest = spells.spell_factor_tail t rest
spell_fill term_tail t rest = spells.spell_term_tail t rest
spell_fill compared_part t rest = spells.spell_compared t rest
spell_fill args_part t rest = spells.spell_args t rest
spell_fill args_inside t rest = spell_inside_args t rest
spell_fill expr_tail t rest = spells.spell_expr_tail t rest
spell_fill selector_tail t rest = spells.spell_selector_tail t rest
spell_fill stmt_part t rest = spells.spell_stmt t rest
spell_fill after_desig t rest = spell_behind t rest
spell_fill stmt_tail t rest = spells.spell_stmt_tail t rest
spell_fill elsif_tail t rest = spells.spell_elsif_tail t rest
spell_fill else_part t rest = spells.spell_else t rest
spell_fill by_part t rest = spells.spell_by t rest
spell_fill orelse_tail t rest = spells.spell_orelse_tail t rest
spell_fill returned_part t rest = spells.spell_returned t rest
spell_fill desig_tail t rest = spells.spell_desig_tail t rest
spell_fill arm_part t rest = spells.spell_arm t rest
spell_fill arm_tail t rest = spells.spell_arm_tail t rest
spell_fill high_part t rest = spells.spell_high t rest
spell_fill label_tail t rest = spells.spell_label_tail t rest
spell_fill name_tail t rest = spells.spell_name_tail t rest
spell_fill array_tail t rest = spells.spell_array_tail t rest
spell_fill plain_part t rest = spells.spell_plain_type t rest
spell_fill plain_tail t rest = spells.spell_plain_tail t rest
spell_fill field_list_part t rest = spells.spell_field_list t rest
spell_fill field_list_tail t rest = spells.spell_field_list_tail t rest
spell_fill const_tail t rest = spells.spell_const_tail t rest
spell_fill type_tail t rest = spells.spell_type_tail t rest
spell_fill var_tail t rest = spells.spell_var_tail t rest
spell_fill mode_part t rest = spells.spell_mode t rest
spell_fill formal_tail t rest = spells.spell_formal_tail t rest
spell_fill params_part t rest = spells.spell_params t rest
spell_fill params_inside t rest = spell_inside_params t rest
spell_fill result_part t rest = spells.spell_result_name t rest
spell_fill decl_tail t rest = spells.spell_decl_tail t rest
spell_fill body_part t rest = spells.spell_body t rest

-- one filler for each part
abbrev pub Fills : List Part → Type 0
Fills [] = Unit {0}
Fills (p ∷ rest) = Fill p × Fills rest

-- the spelling of what fills all parts, one behind the other
abbrev pub spell_fills : (parts : List Part) → Fills parts → List Kind
spell_fills [] _ = []
spell_fills (p ∷ rest) f = spell_fill p f.0 (spell_fills rest f.1)

-- the shortest that fills a part
abbrev pub shortest : (p : Part) → Fill p
shortest (one k) = tt
shortest sign_part = None
shortest factor_part = tree.factor tree.number
shortest primary_part = tree.number
shortest factor_tail = tree.no_factor
shortest term_tail = tree.no_term
shortest compared_part = tree.no_relation
shortest args_part = tree.no_args
shortest args_inside = closed_args
shortest expr_tail = tree.no_expr
shortest selector_tail = tree.no_selector
shortest stmt_part = tree.nothing
shortest after_desig = used tree.no_args tree.no_factor tree.no_term tree.no_relation
shortest stmt_tail = tree.no_stmt
shortest elsif_tail = tree.no_elsif
shortest else_part = tree.no_else
shortest by_part = tree.no_by
shortest orelse_tail = tree.no_orelse
shortest returned_part = tree.no_value
shortest desig_tail = tree.no_desig
shortest arm_part = tree.empty_arm
shortest arm_tail = tree.no_arm
shortest high_part = tree.no_high
shortest label_tail = tree.no_label
shortest name_tail = tree.no_name
shortest array_tail = tree.no_array
shortest plain_part = tree.type_name
shortest plain_tail = tree.no_plain
shortest field_list_part = tree.empty_fields
shortest field_list_tail = tree.no_fields
shortest const_tail = tree.no_const
shortest type_tail = tree.no_type
shortest var_tail = tree.no_var
shortest mode_part = None
shortest formal_tail = tree.no_formal
shortest params_part = tree.no_params
shortest params_inside = closed_params
shortest result_part = tree.no_result
shortest decl_tail = tree.no_decl
shortest body_part = tree.no_body

-- the shortest that fills each part
abbrev pub shortest_fills : (parts : List Part) → Fills parts
shortest_fills [] = tt
shortest_fills (p ∷ rest) = (shortest p, shortest_fills rest)

-- the shortest rest of the parts that are open
abbrev pub finish : List Part → List Kind
finish parts = spell_fills parts (shortest_fills parts)

-- a fact about the value, where there is one
abbrev pub WhereSome : {A : Type 0} → Option A → (A → Type 0) → Type 0
WhereSome None P = Unit {0}
WhereSome (Some x) P = P x

-- what a second step makes of the value of a first; none where either gives none
abbrev pub and_then : {A B : Type 0} → Option A → (A → Option B) → Option B
and_then None f = None
and_then (Some x) f = f x

-- what is open after these tokens, where they may stand there
abbrev pub open_after : List Kind → List Part → Option (List Part)
open_after [] parts = Some parts
open_after (k ∷ ks) parts = and_then (next parts k) (open_after ks)
