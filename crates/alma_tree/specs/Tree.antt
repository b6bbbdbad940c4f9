-- The trees of the grammar, without the numbers of nodes and leaves. Each left side of the grammar is a type, and so is each
-- repeated and each optional part.
use Rattle.std.specs.Prelude.{Option}
use Rattle.alma_tree.specs.declared.leaf.Relation.{Relation}
use Rattle.alma_tree.specs.declared.leaf.Sign.{Sign}
use Rattle.alma_tree.specs.declared.leaf.AddOperator.{AddOperator}
use Rattle.alma_tree.specs.declared.leaf.MulOperator.{MulOperator}
use Rattle.alma_tree.specs.declared.leaf.Mode.{Mode}

-- ---- statements and expressions

mutual
  -- Stmts = Stmt { ";" Stmt } .
  pub data Stmts : Type 0 where
    stmts : Stmt → StmtTail → Stmts

  -- { ";" Stmt }
  pub data StmtTail : Type 0 where
    no_stmt : StmtTail
    more_stmt : Stmt → StmtTail → StmtTail

  -- Stmt, one constructor for each choice
  pub data Stmt : Type 0 where
    nothing : Stmt
    assign : (target : Desig) → (value : Expr) → Stmt
    value : Expr → Stmt
    if_stmt : (test : Expr) → Stmts → ElsifTail → Else → Stmt
    while_stmt : (test : Expr) → Stmts → Stmt
    repeat_stmt : Stmts → (test : Expr) → Stmt
    for_stmt : (low high : Expr) → By → Stmts → Stmt
    some_stmt : (low high : Expr) → Stmts → Stmt
    case_stmt : Expr → Arm → ArmTail → Else → Stmt
    either_stmt : Stmts → OrelseTail → Stmt
    forall_stmt : (choice body : Stmts) → Stmt
    commit_stmt : Stmts → Stmt
    return_stmt : Returned → Stmt
    read_stmt : Desig → DesigTail → Stmt
    write_stmt : Exprs → Stmt
    writeln_stmt : Args → Stmt

  -- { ELSIF Expr THEN Stmts }
  pub data ElsifTail : Type 0 where
    no_elsif : ElsifTail
    more_elsif : (test : Expr) → Stmts → ElsifTail → ElsifTail

  -- [ ELSE Stmts ]
  pub data Else : Type 0 where
    no_else : Else
    else_stmts : Stmts → Else

  -- [ BY Expr ]
  pub data By : Type 0 where
    no_by : By
    by_expr : Expr → By

  -- { ORELSE Stmts }
  pub data OrelseTail : Type 0 where
    no_orelse : OrelseTail
    more_orelse : Stmts → OrelseTail → OrelseTail

  -- [ Expr ], behind RETURN
  pub data Returned : Type 0 where
    no_value : Returned
    returned : Expr → Returned

  -- { "," Desig }
  pub data DesigTail : Type 0 where
    no_desig : DesigTail
    more_desig : Desig → DesigTail → DesigTail

  -- Arm = [ Label { "," Label } ":" Stmts ] .
  pub data Arm : Type 0 where
    empty_arm : Arm
    arm : Label → LabelTail → Stmts → Arm

  -- { "|" Arm }
  pub data ArmTail : Type 0 where
    no_arm : ArmTail
    more_arm : Arm → ArmTail → ArmTail

  -- Label = Expr [ ".." Expr ] .
  pub data Label : Type 0 where
    label : Expr → High → Label

  -- [ ".." Expr ]
  pub data High : Type 0 where
    no_high : High
    high_expr : Expr → High

  -- { "," Label }
  pub data LabelTail : Type 0 where
    no_label : LabelTail
    more_label : Label → LabelTail → LabelTail

  -- Expr = Simple [ Relation Simple ] .
  pub data Expr : Type 0 where
    expr : Simple → Compared → Expr

  -- [ Relation Simple ]
  pub data Compared : Type 0 where
    no_relation : Compared
    compared : Relation → Simple → Compared

  -- Simple = [ Sign ] Term { AddOperator Term } .
  pub data Simple : Type 0 where
    simple : Option Sign → Term → TermTail → Simple

  -- { AddOperator Term }
  pub data TermTail : Type 0 where
    no_term : TermTail
    more_term : AddOperator → Term → TermTail → TermTail

  -- Term = Factor { MulOperator Factor } .
  pub data Term : Type 0 where
    term : Factor → FactorTail → Term

  -- { MulOperator Factor }
  pub data FactorTail : Type 0 where
    no_factor : FactorTail
    more_factor : MulOperator → Factor → FactorTail → FactorTail

  -- Factor = NOT Primary | Primary .
  pub data Factor : Type 0 where
    not_factor : Primary → Factor
    factor : Primary → Factor

  -- Primary, one constructor for each choice
  pub data Primary : Type 0 where
    number : Primary
    literal : Primary
    named : Desig → Args → Primary
    paren : Stmts → Primary
    known : Desig → Primary
    ord : Expr → Primary
    chr : Expr → Primary

  -- [ "(" [ Exprs ] ")" ]
  pub data Args : Type 0 where
    no_args : Args
    empty_args : Args
    args : Exprs → Args

  -- Expr { "," Expr }
  pub data Exprs : Type 0 where
    exprs : Expr → ExprTail → Exprs

  -- { "," Expr }
  pub data ExprTail : Type 0 where
    no_expr : ExprTail
    more_expr : Expr → ExprTail → ExprTail

  -- Desig = Name { Selector } .
  pub data Desig : Type 0 where
    desig : SelectorTail → Desig

  -- { Selector }
  pub data SelectorTail : Type 0 where
    no_selector : SelectorTail
    more_selector : Selector → SelectorTail → SelectorTail

  -- Selector = "." Name | "[" Exprs "]" .
  pub data Selector : Type 0 where
    field : Selector
    index : Exprs → Selector

-- ---- names and types

-- { "," Name }
pub data NameTail : Type 0 where
  no_name : NameTail
  more_name : NameTail → NameTail

-- Names = Name { "," Name } .
pub data Names : Type 0 where
  names : NameTail → Names

mutual
  -- TypeNode = { Dimensions } PlainType .
  pub data TypeNode : Type 0 where
    type_node : ArrayTail → PlainType → TypeNode

  -- { Dimensions }
  pub data ArrayTail : Type 0 where
    no_array : ArrayTail
    more_array : Dimensions → ArrayTail → ArrayTail

  -- Dimensions = ARRAY PlainType { "," PlainType } OF .
  pub data Dimensions : Type 0 where
    dimensions : PlainType → PlainTail → Dimensions

  -- PlainType, one constructor for each choice
  pub data PlainType : Type 0 where
    type_name : PlainType
    listed : Names → PlainType
    subrange : (low high : Expr) → PlainType
    record_type : FieldList → FieldListTail → PlainType

  -- { "," PlainType }
  pub data PlainTail : Type 0 where
    no_plain : PlainTail
    more_plain : PlainType → PlainTail → PlainTail

  -- FieldList = [ Names ":" TypeNode ] .
  pub data FieldList : Type 0 where
    empty_fields : FieldList
    fields : Names → TypeNode → FieldList

  -- { ";" FieldList }
  pub data FieldListTail : Type 0 where
    no_fields : FieldListTail
    more_fields : FieldList → FieldListTail → FieldListTail

-- ---- declarations and the module

-- { Name "=" Expr ";" }
pub data ConstTail : Type 0 where
  no_const : ConstTail
  more_const : Expr → ConstTail → ConstTail

-- { Name "=" TypeNode ";" }
pub data TypeTail : Type 0 where
  no_type : TypeTail
  more_type : TypeNode → TypeTail → TypeTail

-- { Names ":" TypeNode ";" }
pub data VarTail : Type 0 where
  no_var : VarTail
  more_var : Names → TypeNode → VarTail → VarTail

-- Formal = [ Mode ] Names ":" Name .
pub data Formal : Type 0 where
  formal : Option Mode → Names → Formal

-- { ";" Formal }
pub data FormalTail : Type 0 where
  no_formal : FormalTail
  more_formal : Formal → FormalTail → FormalTail

-- Formals = Formal { ";" Formal } .
pub data Formals : Type 0 where
  formals : Formal → FormalTail → Formals

-- [ "(" [ Formals ] ")" ]
pub data Params : Type 0 where
  no_params : Params
  empty_params : Params
  params : Formals → Params

-- [ ":" Name ]
pub data ResultName : Type 0 where
  no_result : ResultName
  result_name : ResultName

-- [ BEGIN Stmts ]
pub data Body : Type 0 where
  no_body : Body
  body : Stmts → Body

mutual
  -- Block = { Decl } [ BEGIN Stmts ] .
  pub data Block : Type 0 where
    block : DeclTail → Body → Block

  -- { Decl }
  pub data DeclTail : Type 0 where
    no_decl : DeclTail
    more_decl : Decl → DeclTail → DeclTail

  -- Decl, one constructor for each choice
  pub data Decl : Type 0 where
    const_decl : ConstTail → Decl
    type_decl : TypeTail → Decl
    var_decl : VarTail → Decl
    procedure : Params → ResultName → Block → Decl

-- Module = MODULE Name ";" Block END Name "." .
pub data Module : Type 0 where
  module_of : Block → Module
