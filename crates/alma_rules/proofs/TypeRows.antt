-- What a type or a procedure is, said of the vectors, options and boxes in it.
use Rattle.std.proofs.Common.{◌≡◌, ℕ, Option, None, Some, Box, Vec, Global, refl, ap, sym, ◌∙◌}
use Rattle.alma_tree.specs.declared.type_node.TypeNode as dy
use Rattle.alma_tree.specs.declared.type_node.Arrays as dz
use Rattle.alma_tree.specs.declared.type_node.PlainType as dq
use Rattle.alma_tree.specs.declared.type_node.FieldList as dw
use Rattle.alma_tree.specs.declared.leaf.Name.{Name}
use Rattle.alma_tree.specs.declared.module.Block as db
use Rattle.alma_tree.specs.declared.module.Decl as dh
use Rattle.alma_tree.specs.declared.module.Params.{Params}
use Rattle.alma_rules.specs.Numbered as tree
use Rattle.alma_rules.specs.View as view

plains_row : (n : _) (row : dz.Row_of-PlainType n) → view.view_plains row ≡ view.plains_of (dz.items-the_row-PlainType n row)
plains_row n dz.end_of-PlainType = refl
plains_row n (dz.more_of-PlainType x rest) = ap (tree.more_plain (view.view_plain_type x)) (plains_row _ rest)

plains_shown : (shape : _) (row : _) → view.view_plains row ≡ view.plains_of (dw.TheBlock.shown-the_row-PlainType-1 shape row).items
plains_shown shape row = plains_row _ row ∙ ap view.plains_of (sym (dz.items_shown-the_row-PlainType-1 shape row))

field_lists_row : (n : _) (row : dq.Row_of-FieldList n) → view.view_field_lists row ≡ view.field_lists_of (dq.items-the_row-FieldList n row)
field_lists_row n dq.end_of-FieldList = refl
field_lists_row n (dq.more_of-FieldList x rest) = ap (tree.more_fields (view.view_field_list x)) (field_lists_row _ rest)

field_lists_kept : (v : Vec dw.FieldList Global)
    → view.view_field_lists (dw.TheBlock.hidden-the_row-FieldList-0 v) ≡ view.field_lists_of v.items
field_lists_kept v = field_lists_row _ (dw.TheBlock.hidden-the_row-FieldList-0 v)
    ∙ ap view.field_lists_of (dq.items_hidden-the_row-FieldList-0 v)

dimensions_row : (n : _) (row : dz.Row_of-Dimensions n) → view.view_dimensions row ≡ view.dimensions_of (dz.items-the_row-Dimensions n row)
dimensions_row n dz.end_of-Dimensions = refl
dimensions_row n (dz.more_of-Dimensions p shape row rest) =
    ap (λ x. tree.more_dimensions (tree.dimensions (view.view_plain_type p) x) (view.view_dimensions rest)) (plains_shown shape row)
    ∙ ap (tree.more_dimensions (tree.dimensions (view.view_plain_type p)
    (view.plains_of (dw.TheBlock.shown-the_row-PlainType-1 shape row).items))) (dimensions_row _ rest)

dimensions_shown : (shape : _) (row : _)
    → view.view_dimensions row ≡ view.dimensions_of (dw.TheBlock.shown-the_row-Dimensions-2 shape row).items
dimensions_shown shape row = dimensions_row _ row ∙ ap view.dimensions_of (sym (dz.items_shown-the_row-Dimensions-2 shape row))

arrays_kept : (x : Option dz.Arrays) → view.view_arrays (dy.back-TypeNode-arrays x) ≡ view.arrays_of x
arrays_kept None = refl
arrays_kept (Some (dz.Arrays' n p shape row shape' row')) =
    rw (dz.outs-Arrays' n p shape row shape' row') (
    ap (λ x. tree.arrays n (tree.dimensions (view.view_plain_type p) x) (view.view_dimensions row')) (plains_shown shape row)
    ∙ ap (tree.arrays n (tree.dimensions (view.view_plain_type p) (view.plains_of (dw.TheBlock.shown-the_row-PlainType-1 shape row).items)))
    (dimensions_shown shape' row'))

type_rolled : (r : _) → view.view_type_node (dy.roll-TypeNode r) ≡ tree.type_node r.node (view.arrays_of r.arrays)
    (view.view_plain_type r.element)
type_rolled r = ap view.view_type_node (dy.rolls-TypeNode' r)
    ∙ ap (λ x. tree.type_node r.node x (view.view_plain_type r.element)) (arrays_kept r.arrays)

pub type_is : (t : dy.TypeNode) → view.view_type_node t ≡ tree.type_node (dy.out-TypeNode t).node
    (view.arrays_of (dy.out-TypeNode t).arrays) (view.view_plain_type (dy.out-TypeNode t).element)
type_is t = ap view.view_type_node (sym (dy.roll-out-TypeNode t)) ∙ type_rolled (dy.out-TypeNode t)

pub record_is : (n : ℕ) (f : Box dw.FieldList Global) (more : Vec dw.FieldList Global)
    → view.view_plain_type (dq.Record n f more) ≡ tree.record_type n (view.view_field_list f.value) (view.field_lists_of more.items)
record_is n f more = ap (tree.record_type n (view.view_field_list f.value)) (field_lists_kept more)

-- ---- procedures

decls_row : (n : _) (row : db.Row_of-Decl n) → view.view_decls row ≡ view.decls_of (db.items-the_row-Decl n row)
decls_row n db.end_of-Decl = refl
decls_row n (db.more_of-Decl x rest) = ap (tree.more_decl (view.view_decl x)) (decls_row _ rest)

decls_kept : (v : Vec dh.Decl Global) → view.view_decls (dh.TheBlock.hidden-the_row-Decl-0 v) ≡ view.decls_of v.items
decls_kept v = decls_row _ (dh.TheBlock.hidden-the_row-Decl-0 v) ∙ ap view.decls_of (db.items_hidden-the_row-Decl-0 v)

pub procedure_is : (n : _) (l : Name) (p : Option Params) (r : Option Name) (b : db.Block) (e : Name)
    → view.view_decl (dh.Procedure n l p r b e) ≡ tree.procedure n (view.view_name l) (view.params_of p) (view.result_of r)
    (view.view_block b) (view.view_name e)
procedure_is n l p r b e =
    ap (λ x. tree.procedure n (view.view_name l) (view.params_of p) (view.result_of r) (tree.block b.node x (view.body_of b.body))
    (view.view_name e)) (decls_kept b.decls)
