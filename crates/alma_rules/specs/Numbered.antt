-- The trees of the grammar with their numbers: `node` is the number of a node in post-order, `token` the index of the token of a leaf.
-- Each left side of the grammar is a type, and so is each repeated and each optional part of statements and expressions.
use Rattle.std.specs.Prelude.{ℕ, List, Option}
use Rattle.alma_tree.specs.declared.leaf.Relation.{Relation}
use Rattle.alma_tree.specs.declared.leaf.Sign.{Sign}
use Rattle.alma_tree.specs.declared.leaf.AddOperator.{AddOperator}
use Rattle.alma_tree.specs.declared.leaf.MulOperator.{MulOperator}
use Rattle.alma_tree.specs.declared.leaf.Mode.{Mode}

-- a name, which is a node and one token
pub record Name : Type 0 where
  pub node : ℕ
  pub token : ℕ

-- ---- statements and expressions

mutual
  -- Stmts = Stmt { ";" Stmt } .
  pub data Stmts : Type 0 where
    stmts : (node : ℕ) → Stmt → StmtTail → Stmts

  -- { ";" Stmt }
  pub data StmtTail : Type 0 where
    no_stmt : StmtTail
    more_stmt : Stmt → StmtTail → StmtTail

  -- Stmt, one constructor for each choice
  pub data Stmt : Type 0 where
    nothing : (node : ℕ) → Stmt
    assign : (node : ℕ) → (target : Desig) → (value : Expr) → Stmt
    value : (node : ℕ) → Expr → Stmt
    if_stmt : (node : ℕ) → (test : Expr) → Stmts → ElsifTail → Else → Stmt
    while_stmt : (node : ℕ) → (test : Expr) → Stmts → Stmt
    repeat_stmt : (node : ℕ) → Stmts → (test : Expr) → Stmt
    for_stmt : (node : ℕ) → (variable : Name) → (low high : Expr) → By → Stmts → Stmt
    some_stmt : (node : ℕ) → (variable : Name) → (low high : Expr) → Stmts → Stmt
    case_stmt : (node : ℕ) → Expr → Arm → ArmTail → Else → Stmt
    either_stmt : (node : ℕ) → Stmts → OrelseTail → Stmt
    forall_stmt : (node : ℕ) → (choice body : Stmts) → Stmt
    commit_stmt : (node : ℕ) → Stmts → Stmt
    return_stmt : (node : ℕ) → Returned → Stmt
    read_stmt : (node : ℕ) → Desig → DesigTail → Stmt
    write_stmt : (node : ℕ) → Exprs → Stmt
    writeln_stmt : (node : ℕ) → Args → Stmt

  -- { ELSIF Expr THEN Stmts }
  pub data ElsifTail : Type 0 where
    no_elsif : ElsifTail
    more_elsif : (test : Expr) → Stmts → ElsifTail → ElsifTail

  -- [ ELSE Stmts ]
  pub data Else : Type 0 where
    no_else : Else
    else_stmts : Stmts → Else

  -- [ BY Expr ]
  pub data By : Type 0 where
    no_by : By
    by_expr : Expr → By

  -- { ORELSE Stmts }
  pub data OrelseTail : Type 0 where
    no_orelse : OrelseTail
    more_orelse : Stmts → OrelseTail → OrelseTail

  -- [ Expr ], behind RETURN
  pub data Returned : Type 0 where
    no_value : Returned
    returned : Expr → Returned

  -- { "," Desig }
  pub data DesigTail : Type 0 where
    no_desig : DesigTail
    more_desig : Desig → DesigTail → DesigTail

  -- Arm = [ Label { "," Label } ":" Stmts ] .
  pub data Arm : Type 0 where
    empty_arm : (node : ℕ) → Arm
    arm : (node : ℕ) → Label → LabelTail → Stmts → Arm

  -- { "|" Arm }
  pub data ArmTail : Type 0 where
    no_arm : ArmTail
    more_arm : Arm → ArmTail → ArmTail

  -- Label = Expr [ ".." Expr ] .
  pub data Label : Type 0 where
    label : (node : ℕ) → Expr → High → Label

  -- [ ".." Expr ]
  pub data High : Type 0 where
    no_high : High
    high_expr : Expr → High

  -- { "," Label }
  pub data LabelTail : Type 0 where
    no_label : LabelTail
    more_label : Label → LabelTail → LabelTail

  -- Expr = Simple [ Relation Simple ] .
  pub data Expr : Type 0 where
    expr : (node : ℕ) → Simple → Compared → Expr

  -- [ Relation Simple ]
  pub data Compared : Type 0 where
    no_relation : Compared
    compared : Relation → Simple → Compared

  -- Simple = [ Sign ] Term { AddOperator Term } .
  pub data Simple : Type 0 where
    simple : (node : ℕ) → Option Sign → Term → TermTail → Simple

  -- { AddOperator Term }
  pub data TermTail : Type 0 where
    no_term : TermTail
    more_term : AddOperator → Term → TermTail → TermTail

  -- Term = Factor { MulOperator Factor } .
  pub data Term : Type 0 where
    term : (node : ℕ) → Factor → FactorTail → Term

  -- { MulOperator Factor }
  pub data FactorTail : Type 0 where
    no_factor : FactorTail
    more_factor : MulOperator → Factor → FactorTail → FactorTail

  -- Factor = NOT Primary | Primary .
  pub data Factor : Type 0 where
    not_factor : (node : ℕ) → Primary → Factor
    factor : (node : ℕ) → Primary → Factor

  -- Primary, one constructor for each choice
  pub data Primary : Type 0 where
    number : (node token : ℕ) → Primary
    literal : (node token : ℕ) → Primary
    named : (node : ℕ) → Desig → Args → Primary
    paren : (node : ℕ) → Stmts → Primary
    known : (node : ℕ) → Desig → Primary
    ord : (node : ℕ) → Expr → Primary
    chr : (node : ℕ) → Expr → Primary

  -- [ "(" [ Exprs ] ")" ]
  pub data Args : Type 0 where
    no_args : Args
    empty_args : Args
    args : Exprs → Args

  -- Expr { "," Expr }
  pub data Exprs : Type 0 where
    exprs : Expr → ExprTail → Exprs

  -- { "," Expr }
  pub data ExprTail : Type 0 where
    no_expr : ExprTail
    more_expr : Expr → ExprTail → ExprTail

  -- Desig = Name { Selector } .
  pub data Desig : Type 0 where
    desig : (node : ℕ) → Name → SelectorTail → Desig

  -- { Selector }
  pub data SelectorTail : Type 0 where
    no_selector : SelectorTail
    more_selector : Selector → SelectorTail → SelectorTail

  -- Selector = "." Name | "[" Exprs "]" .
  pub data Selector : Type 0 where
    field : (node : ℕ) → Name → Selector
    index : (node : ℕ) → Exprs → Selector

-- ---- names and types

-- Names = Name { "," Name } .
pub record Names : Type 0 where
  pub node : ℕ
  pub first : Name
  pub more : List Name

mutual
  -- TypeNode = [ Arrays ] PlainType .
  pub data TypeNode : Type 0 where
    type_node : (node : ℕ) → Arrays → PlainType → TypeNode

  -- [ Dimensions { Dimensions } ]
  pub data Arrays : Type 0 where
    no_arrays : Arrays
    arrays : (node : ℕ) → Dimensions → DimensionTail → Arrays

  -- { Dimensions }
  pub data DimensionTail : Type 0 where
    no_dimensions : DimensionTail
    more_dimensions : Dimensions → DimensionTail → DimensionTail

  -- Dimensions = ARRAY PlainType { "," PlainType } OF .
  pub data Dimensions : Type 0 where
    dimensions : PlainType → PlainTail → Dimensions

  -- { "," PlainType }
  pub data PlainTail : Type 0 where
    no_plain : PlainTail
    more_plain : PlainType → PlainTail → PlainTail

  -- PlainType, one constructor for each choice
  pub data PlainType : Type 0 where
    type_name : (node : ℕ) → Name → PlainType
    listed : (node : ℕ) → Names → PlainType
    subrange : (node : ℕ) → (low high : Expr) → PlainType
    record_type : (node : ℕ) → FieldList → FieldListTail → PlainType

  -- FieldList = [ Names ":" TypeNode ] .
  pub data FieldList : Type 0 where
    empty_fields : (node : ℕ) → FieldList
    fields : (node : ℕ) → Names → TypeNode → FieldList

  -- { ";" FieldList }
  pub data FieldListTail : Type 0 where
    no_fields : FieldListTail
    more_fields : FieldList → FieldListTail → FieldListTail

-- ---- declarations and the module

-- Name "=" Expr ";"
pub record ConstEntry : Type 0 where
  pub name : Name
  pub value : Expr

-- Name "=" TypeNode ";"
pub record TypeEntry : Type 0 where
  pub name : Name
  pub type_node : TypeNode

-- Names ":" TypeNode ";"
pub record VarEntry : Type 0 where
  pub names : Names
  pub type_node : TypeNode

-- Formal = [ Mode ] Names ":" Name .
pub record Formal : Type 0 where
  pub node : ℕ
  pub mode : Option Mode
  pub names : Names
  pub type_name : Name

-- Formals = Formal { ";" Formal } .
pub record Formals : Type 0 where
  pub node : ℕ
  pub first : Formal
  pub more : List Formal

-- "(" [ Formals ] ")"
pub record Params : Type 0 where
  pub formals : Option Formals

mutual
  -- Block = { Decl } [ BEGIN Stmts ] .
  pub data Block : Type 0 where
    block : (node : ℕ) → DeclTail → (body : Option Stmts) → Block

  -- { Decl }
  pub data DeclTail : Type 0 where
    no_decl : DeclTail
    more_decl : Decl → DeclTail → DeclTail

  -- Decl, one constructor for each choice
  pub data Decl : Type 0 where
    const_decl : (node : ℕ) → List ConstEntry → Decl
    type_decl : (node : ℕ) → List TypeEntry → Decl
    var_decl : (node : ℕ) → List VarEntry → Decl
    procedure : (node : ℕ) → Name → Option Params → (result : Option Name) → Block → (end_name : Name) → Decl

-- Module = MODULE Name ";" Block END Name "." .
pub record Module : Type 0 where
  pub node : ℕ
  pub name : Name
  pub block : Block
  pub end_name : Name

-- ---- the number of a phrase

-- of an Expr
abbrev pub expr_node : Expr → ℕ
expr_node (expr n s c) = n

-- of a Primary
abbrev pub primary_node : Primary → ℕ
primary_node (number n t) = n
primary_node (literal n t) = n
primary_node (named n d a) = n
primary_node (paren n s) = n
primary_node (known n d) = n
primary_node (ord n e) = n
primary_node (chr n e) = n

-- of a Desig
abbrev pub desig_node : Desig → ℕ
desig_node (desig n name more) = n

-- of a PlainType
abbrev pub plain_node : PlainType → ℕ
plain_node (type_name n name) = n
plain_node (listed n names) = n
plain_node (subrange n low high) = n
plain_node (record_type n first more) = n
