-- The parts of each form of a statement, selector, primary, type and declaration, its first token included.
use Rattle.std.specs.Prelude.{List, ◌∷◌}
use Rattle.alma_tree.specs.declared.kind.Kind.TheVariants as kinds
use Rattle.alma_grammar.specs.Parts.{Part, one, args_part, elsif_tail, else_part, by_part, orelse_tail, returned_part, desig_tail, arm_part}
use Rattle.alma_grammar.specs.Parts.{arm_tail}
use Rattle.alma_grammar.specs.Parts.{label_tail, after_desig, expr_parts, exprs_parts, desig_parts, stmts_parts, label_parts}
use Rattle.alma_grammar.specs.Parts.{plain_part, plain_tail, field_list_part, field_list_tail, names_parts, type_parts, const_tail}
use Rattle.alma_grammar.specs.Parts.{type_tail, var_tail}
use Rattle.alma_grammar.specs.Parts.{params_part, result_part, block_parts, formal_parts, formal_tail}
use Rattle.alma_parse_cursor.specs.declared.form.StmtForm.{StmtForm}
use Rattle.alma_parse_cursor.specs.declared.form.StmtForm.TheVariants as stmt_forms
use Rattle.alma_parse_cursor.specs.declared.form.SelectorForm.{SelectorForm}
use Rattle.alma_parse_cursor.specs.declared.form.SelectorForm.TheVariants as selector_forms
use Rattle.alma_parse_cursor.specs.declared.form.PlainForm.{PlainForm}
use Rattle.alma_parse_cursor.specs.declared.form.PlainForm.TheVariants as plain_forms
use Rattle.alma_parse_cursor.specs.declared.form.DeclForm.{DeclForm}
use Rattle.alma_parse_cursor.specs.declared.form.DeclForm.TheVariants as decl_forms
use Rattle.alma_parse_cursor.specs.declared.form.PrimaryForm.{PrimaryForm}
use Rattle.alma_parse_cursor.specs.declared.form.PrimaryForm.TheVariants as primary_forms

-- ---- statements

-- IF Expr THEN Stmts { ELSIF Expr THEN Stmts } [ ELSE Stmts ] END
abbrev pub if_parts : List Part → List Part
if_parts o = one kinds.If ∷ expr_parts (one kinds.Then ∷ stmts_parts (elsif_tail ∷ else_part ∷ one kinds.End ∷ o))

-- WHILE Expr DO Stmts END
abbrev pub while_parts : List Part → List Part
while_parts o = one kinds.While ∷ expr_parts (one kinds.Do ∷ stmts_parts (one kinds.End ∷ o))

-- REPEAT Stmts UNTIL Expr
abbrev pub repeat_parts : List Part → List Part
repeat_parts o = one kinds.Repeat ∷ stmts_parts (one kinds.Until ∷ expr_parts o)

-- FOR Name ":=" Expr TO Expr [ BY Expr ] DO Stmts END
abbrev pub for_parts : List Part → List Part
for_parts o =
    one kinds.For ∷ one kinds.Name ∷ one kinds.Assign
    ∷ expr_parts (one kinds.To ∷ expr_parts (by_part ∷ one kinds.Do ∷ stmts_parts (one kinds.End ∷ o)))

-- SOME Name ":=" Expr TO Expr DO Stmts END
abbrev pub some_parts : List Part → List Part
some_parts o =
    one kinds.Some ∷ one kinds.Name ∷ one kinds.Assign
    ∷ expr_parts (one kinds.To ∷ expr_parts (one kinds.Do ∷ stmts_parts (one kinds.End ∷ o)))

-- CASE Expr OF Arm { "|" Arm } [ ELSE Stmts ] END
abbrev pub case_parts : List Part → List Part
case_parts o = one kinds.Case ∷ expr_parts (one kinds.Of ∷ arm_part ∷ arm_tail ∷ else_part ∷ one kinds.End ∷ o)

-- EITHER Stmts { ORELSE Stmts } END
abbrev pub either_parts : List Part → List Part
either_parts o = one kinds.Either ∷ stmts_parts (orelse_tail ∷ one kinds.End ∷ o)

-- FORALL Stmts DO Stmts END
abbrev pub forall_parts : List Part → List Part
forall_parts o = one kinds.Forall ∷ stmts_parts (one kinds.Do ∷ stmts_parts (one kinds.End ∷ o))

-- COMMIT Stmts END
abbrev pub commit_parts : List Part → List Part
commit_parts o = one kinds.Commit ∷ stmts_parts (one kinds.End ∷ o)

-- RETURN [ Expr ]
abbrev pub return_parts : List Part → List Part
return_parts o = one kinds.Return ∷ returned_part ∷ o

-- READ "(" Desig { "," Desig } ")"
abbrev pub read_parts : List Part → List Part
read_parts o = one kinds.Read ∷ one kinds.OpenParen ∷ desig_parts (desig_tail ∷ one kinds.CloseParen ∷ o)

-- WRITE "(" Expr { "," Expr } ")"
abbrev pub write_parts : List Part → List Part
write_parts o = one kinds.Write ∷ one kinds.OpenParen ∷ exprs_parts (one kinds.CloseParen ∷ o)

-- WRITELN [ "(" [ Expr { "," Expr } ] ")" ]
abbrev pub writeln_parts : List Part → List Part
writeln_parts o = one kinds.Writeln ∷ args_part ∷ o

-- a statement that begins with a designator
abbrev pub desig_stmt_parts : List Part → List Part
desig_stmt_parts o = desig_parts (after_desig ∷ o)

-- the parts of a statement, by the form that its first token tells
abbrev pub stmt_form_parts : StmtForm → List Part → List Part
stmt_form_parts stmt_forms.Nothing o = o
stmt_form_parts stmt_forms.Desig o = desig_stmt_parts o
stmt_form_parts stmt_forms.Value o = expr_parts o
stmt_form_parts stmt_forms.If o = if_parts o
stmt_form_parts stmt_forms.While o = while_parts o
stmt_form_parts stmt_forms.Repeat o = repeat_parts o
stmt_form_parts stmt_forms.For o = for_parts o
stmt_form_parts stmt_forms.Some o = some_parts o
stmt_form_parts stmt_forms.Case o = case_parts o
stmt_form_parts stmt_forms.Either o = either_parts o
stmt_form_parts stmt_forms.Forall o = forall_parts o
stmt_form_parts stmt_forms.Commit o = commit_parts o
stmt_form_parts stmt_forms.Return o = return_parts o
stmt_form_parts stmt_forms.Read o = read_parts o
stmt_form_parts stmt_forms.Write o = write_parts o
stmt_form_parts stmt_forms.Writeln o = writeln_parts o

-- an arm that has labels
abbrev pub labelled_parts : List Part → List Part
labelled_parts o = label_parts (label_tail ∷ one kinds.Colon ∷ stmts_parts o)

-- ---- selectors

-- "." Name
abbrev pub field_parts : List Part → List Part
field_parts o = one kinds.Dot ∷ one kinds.Name ∷ o

-- "[" Expr { "," Expr } "]"
abbrev pub index_parts : List Part → List Part
index_parts o = one kinds.OpenBracket ∷ exprs_parts (one kinds.CloseBracket ∷ o)

-- the parts of a selector, by the form that its first token tells
abbrev pub selector_form_parts : SelectorForm → List Part → List Part
selector_form_parts selector_forms.Field o = field_parts o
selector_form_parts selector_forms.Index o = index_parts o

-- ---- primaries

-- "(" Stmts ")"
abbrev pub paren_parts : List Part → List Part
paren_parts o = one kinds.OpenParen ∷ stmts_parts (one kinds.CloseParen ∷ o)

-- KNOWN "(" Desig ")"
abbrev pub known_parts : List Part → List Part
known_parts o = one kinds.Known ∷ one kinds.OpenParen ∷ desig_parts (one kinds.CloseParen ∷ o)

-- ORD "(" Expr ")"
abbrev pub ord_parts : List Part → List Part
ord_parts o = one kinds.Ord ∷ one kinds.OpenParen ∷ expr_parts (one kinds.CloseParen ∷ o)

-- CHR "(" Expr ")"
abbrev pub chr_parts : List Part → List Part
chr_parts o = one kinds.Chr ∷ one kinds.OpenParen ∷ expr_parts (one kinds.CloseParen ∷ o)

-- the parts of a primary, by the form that its first token tells
abbrev pub primary_form_parts : PrimaryForm → List Part → List Part
primary_form_parts primary_forms.Number o = one kinds.Number ∷ o
primary_form_parts primary_forms.Literal o = one kinds.Literal ∷ o
primary_form_parts primary_forms.Desig o = desig_parts (args_part ∷ o)
primary_form_parts primary_forms.Paren o = paren_parts o
primary_form_parts primary_forms.Known o = known_parts o
primary_form_parts primary_forms.Ord o = ord_parts o
primary_form_parts primary_forms.Chr o = chr_parts o

-- ---- types

-- ARRAY PlainType { "," PlainType } OF
abbrev pub dimensions_parts : List Part → List Part
dimensions_parts o = one kinds.Array ∷ plain_part ∷ plain_tail ∷ one kinds.Of ∷ o

-- a plain type that is a name
abbrev pub named_type_parts : List Part → List Part
named_type_parts o = one kinds.Name ∷ o

-- "(" Names ")", an enumeration
abbrev pub listed_parts : List Part → List Part
listed_parts o = one kinds.OpenParen ∷ names_parts (one kinds.CloseParen ∷ o)

-- "[" Expr ".." Expr "]"
abbrev pub subrange_parts : List Part → List Part
subrange_parts o = one kinds.OpenBracket ∷ expr_parts (one kinds.DotDot ∷ expr_parts (one kinds.CloseBracket ∷ o))

-- RECORD FieldList { ";" FieldList } END
abbrev pub record_parts : List Part → List Part
record_parts o = one kinds.Record ∷ field_list_part ∷ field_list_tail ∷ one kinds.End ∷ o

-- the parts of a plain type, by the form that its first token tells
abbrev pub plain_form_parts : PlainForm → List Part → List Part
plain_form_parts plain_forms.Named o = named_type_parts o
plain_form_parts plain_forms.Listed o = listed_parts o
plain_form_parts plain_forms.Subrange o = subrange_parts o
plain_form_parts plain_forms.Record o = record_parts o

-- Names ":" TypeNode, a field list that is not empty
abbrev pub fields_parts : List Part → List Part
fields_parts o = names_parts (one kinds.Colon ∷ type_parts o)

-- ---- declarations

-- Name "=" Expr ";"
abbrev pub const_entry_parts : List Part → List Part
const_entry_parts o = one kinds.Name ∷ one kinds.Equal ∷ expr_parts (one kinds.Semicolon ∷ o)

-- Name "=" TypeNode ";"
abbrev pub type_entry_parts : List Part → List Part
type_entry_parts o = one kinds.Name ∷ one kinds.Equal ∷ type_parts (one kinds.Semicolon ∷ o)

-- Names ":" TypeNode ";"
abbrev pub var_entry_parts : List Part → List Part
var_entry_parts o = names_parts (one kinds.Colon ∷ type_parts (one kinds.Semicolon ∷ o))

-- CONST { Name "=" Expr ";" }
abbrev pub const_decl_parts : List Part → List Part
const_decl_parts o = one kinds.Const ∷ const_tail ∷ o

-- TYPE { Name "=" TypeNode ";" }
abbrev pub type_decl_parts : List Part → List Part
type_decl_parts o = one kinds.Type ∷ type_tail ∷ o

-- VAR { Names ":" TypeNode ";" }
abbrev pub var_decl_parts : List Part → List Part
var_decl_parts o = one kinds.Var ∷ var_tail ∷ o

-- PROCEDURE Name [ "(" [ Formals ] ")" ] [ ":" Name ] ";" Block END Name ";"
abbrev pub procedure_parts : List Part → List Part
procedure_parts o =
    one kinds.Procedure ∷ one kinds.Name ∷ params_part ∷ result_part ∷ one kinds.Semicolon
    ∷ block_parts (one kinds.End ∷ one kinds.Name ∷ one kinds.Semicolon ∷ o)

-- the parts of a declaration, by the form that its first token tells
abbrev pub decl_form_parts : DeclForm → List Part → List Part
decl_form_parts decl_forms.Const o = const_decl_parts o
decl_form_parts decl_forms.Type o = type_decl_parts o
decl_form_parts decl_forms.Var o = var_decl_parts o
decl_form_parts decl_forms.Procedure o = procedure_parts o

-- Formals = Formal { ";" Formal } .
abbrev pub formals_parts : List Part → List Part
formals_parts o = formal_parts (formal_tail ∷ o)
