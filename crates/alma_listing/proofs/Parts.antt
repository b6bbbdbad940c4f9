-- The statements that write a cell, put together of their parts.
use Rattle.std.proofs.Common.{◌≡◌, ℕ, suc, ℤ, List, [], ◌∷◌, ◌++◌, ap, ◌∙◌}
use Rattle.std.specs.Prelude.{Vec, None, Result, Ok, Err, IfOk, pos, codes, replicate}
use Rattle.std.specs.declared.alloc.Global.{Global as Heap}
use Rattle.alma_base.specs.declared.number.Range.{Range}
use Rattle.alma_ir.specs.declared.phrase.Stmt as S
use Rattle.alma_ir.specs.declared.phrase.Expr as E
use Rattle.alma_ir.specs.declared.phrase.Sel as L
use Rattle.alma_ir.specs.declared.phrase.Desig as D
use Rattle.alma_ir.specs.declared.phrase.Arm.{Arm}
use Rattle.alma_ir.specs.declared.phrase.Root.TheVariants as root
use Rattle.alma_ir.specs.declared.program.Param.{Param}
use Rattle.alma_ir.specs.Tree.{Stmts, Stmt, Expr, Global, no_stmts, more_stmts, If, more_arms, no_arms, a_loop, Value, Const, Load, a_desig}
use Rattle.alma_ir.specs.Tree.{no_sels, more_sels, Index}
use Rattle.alma_ir.specs.View.{stmts_list, stmt_of, arms_list, expr_of, sels_list, desig_of}
use Rattle.alma_ir.specs.Lines.{stmt_count}
use Rattle.alma_ir.specs.Phrases.{stmts_phrases}
use Rattle.alma_ir.proofs.Views
use Rattle.alma_listing.specs.Lister.{index, cell_range, cell_of_global, write_comma, write_cell, cells_loop, write_line, list_procedure}
use Rattle.alma_listing.proofs.LineEach.{line_count}

-- what follows of a value that is there
pub for_ok : {X F : Type 0} (P Q : X → Type 0) (r : Result X F) → ((x : X) → P x → Q x) → IfOk r P → IfOk r Q
for_ok P Q (Ok x) f h = f x h
for_ok P Q (Err e) f h = tt

pub one_stmt : (xs : List S.Stmt) (x : S.Stmt) (v : Stmt) → xs ≡ x ∷ [] → stmt_of x ≡ v → stmts_list xs ≡ more_stmts 0 v no_stmts
one_stmt xs x v is of_x = ap stmts_list is ∙ ap (λ y. more_stmts 0 y no_stmts) of_x

pub two_stmts : (xs ys : List S.Stmt) (x y : S.Stmt) (v w : Stmt) → xs ≡ x ∷ [] → ys ≡ xs ++ (y ∷ []) → stmt_of x ≡ v → stmt_of y ≡ w →
    stmts_list ys ≡ more_stmts 0 v (more_stmts 0 w no_stmts)
two_stmts xs ys x y v w first second of_x of_y =
    ap stmts_list (second ∙ ap (λ l. l ++ (y ∷ [])) first) ∙ (λ i. more_stmts 0 (of_x i) (more_stmts 0 (of_y i) no_stmts))

-- the number of the cell
pub index_is : (d : D.Desig) → desig_of d ≡ a_desig (root.Local 0) 1 no_sels → expr_of (E.Load d) ≡ index
index_is d is = Views.load_view d ∙ ap Load is

-- an arm with a value for its condition
pub arm_is : (xs : List Arm) (arm : Arm) (e : E.Expr) (body : List S.Stmt) → xs ≡ arm ∷ [] → arms_list (arm ∷ []) ≡ more_arms
    (Value (expr_of e)) (stmts_list body) no_arms → arms_list xs ≡ more_arms (Value (expr_of e)) (stmts_list body) no_arms
arm_is xs arm e body is of_arm = ap arms_list is ∙ of_arm

pub if_is : (arms : Vec Arm Heap) (rest : Vec S.Stmt Heap) (e f : Expr) (body : List S.Stmt) (x y : Stmts) →
    arms_list arms.items ≡ more_arms (Value e) (stmts_list body) no_arms → e ≡ f → stmts_list body ≡ x → stmts_list rest.items ≡ y →
    stmt_of (S.If arms rest) ≡ If (more_arms (Value f) x no_arms) y
if_is arms rest e f body x y is of_cond of_body of_rest =
    Views.if_view arms rest ∙ (λ i. If ((is ∙ (λ j. more_arms (Value (of_cond j)) (of_body j) no_arms)) i) (of_rest i))

-- the cell of a global
pub cell_is : (slot last cells : ℕ) (xs : List L.Sel) (d : D.Desig) (range : Range) → cells ≡ suc last → xs ≡ L.Index (E.Load d) range 1 ∷
    [] → desig_of d ≡ a_desig (root.Local 0) 1 no_sels → range ≡ cell_range last →
    a_desig (root.Global slot) cells (sels_list xs) ≡ cell_of_global slot last
cell_is slot last cells xs d range of_cells is of_d of_range =
    λ i. a_desig (root.Global slot) (of_cells i)
    ((ap sels_list is ∙ ap (λ x. more_sels x no_sels)
    (Views.index_view (E.Load d) range 1 ∙ (λ j. Index (index_is d of_d j) (of_range j) 1))) i)

-- the loop over the cells
pub loop_is : (d : D.Desig) (range : Range) (v : ℤ) (slot last : ℕ) (body : Stmts) → desig_of d ≡ a_desig (root.Local 0) 1 no_sels →
    range ≡ cell_range last → v ≡ pos last → body ≡ more_stmts 0 write_comma (more_stmts 0 (write_cell slot last) no_stmts) →
    a_loop (desig_of d) range 1 2 (expr_of (E.Const (pos 0))) (expr_of (E.Const v)) (pos 1) body ≡ cells_loop slot last
loop_is d range v slot last body of_d of_range of_v of_body =
    λ i. a_loop (of_d i) (of_range i) 1 2 (Views.const_view (pos 0) i) ((Views.const_view v ∙ ap Const of_v) i) (pos 1) (of_body i)

-- the procedure
pub list_procedure_is : (name : List ℕ) (params : List Param) (body : Stmts) (lines : List ℕ) (count line : ℕ) (gs : List Global) →
    name ≡ codes "list" → params ≡ [] → body ≡ write_line gs → count ≡ stmt_count (stmts_phrases body) → lines ≡ replicate count line →
    record {
      name = name;
      params = params;
      result = None;
      declared = 0;
      slots = 3;
      body = body;
      level = 1;
      outer = 0;
      line = line;
      lines =
          lines;
    } ≡ list_procedure line gs
list_procedure_is name params body lines count line gs of_name of_params of_body of_count of_lines =
    λ i. record {
      name = of_name i;
      params = of_params i;
      result = None;
      declared = 0;
      slots = 3;
      body = of_body i;
      level = 1;
      outer = 0;
      line = line;
      lines = (of_lines ∙ ap (λ n. replicate n line) (of_count ∙ ap (λ b. stmt_count (stmts_phrases b)) of_body ∙ line_count gs)) i;
    }
