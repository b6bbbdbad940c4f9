-- For each plain tree a value of the parser's types that is seen as it, its leaves and nodes numbered as its tokens stand.
use Rattle.std.proofs.Common.{◌≡◌, ◌<◌, ◌^◌, ◌∙◌, ℕ, List, [], ◌∷◌, length, Option, None, Some, refl, ap, ap₂, arith}
use Rattle.alma_tree.specs.declared.kind.Kind.{Kind}
use Rattle.alma_tree.specs.declared.leaf.Mode.{Mode}
use Rattle.alma_tree.specs.declared.leaf.Mode.TheVariants as modes
use Rattle.alma_tree.specs.declared.type_node.TypeNode as dy
use Rattle.alma_tree.specs.declared.type_node.Arrays as dz
use Rattle.alma_tree.specs.declared.type_node.Dimensions as dv
use Rattle.alma_tree.specs.declared.type_node.PlainType as dq
use Rattle.alma_tree.specs.declared.type_node.FieldList as dw
use Rattle.alma_tree.specs.declared.module.Decl as dh
use Rattle.alma_tree.specs.declared.module.Module.{Module}
use Rattle.alma_tree.specs.Tree as tree
use Rattle.alma_tree.specs.Spelling as spell
use Rattle.alma_tree.specs.View as view
use Rattle.alma_tree.specs.Numbers as number
use Rattle.alma_tree.specs.Numbers.{Cursor, token, node, ◌>>◌, IsNumbered}
use Rattle.alma_tree.proofs.Rows as seen
use Rattle.alma_tree.proofs.NumberRows as laid
use Rattle.alma_source.proofs.Numbering.{Place, next, counted, name_at, Walk, ◌⊳◌, of_step, stayed, one_token, one_node, one_name, one_more}
use Rattle.alma_source.proofs.Numbering.{Part, Parts, no_value, no_items, ap₃, box, vec_of}
use Rattle.alma_source.proofs.PhraseValues.{stmts, expr}

-- ---- names

name_tail : (t : tree.NameTail) {total : ℕ} {rest : List Kind} (p : Place total (spell.spell_name_tail t rest))
    → Parts view.name_tail_of number.numbers_of_names t total rest p.at
name_tail tree.no_name p = no_items p refl
name_tail (tree.more_name more) p =
    let others = name_tail more (counted (next (next p))) in
    record {
      items = name_at (next p) ∷ others.items;
      seen = ap tree.more_name others.seen;
      to = others.to;
      walk = one_token p ⊳ one_name (next p) ⊳ others.walk;
      few = one_more p (stayed p) (one_name (next p)) (length others.items) others.to.at.token others.few;
    }

names : (t : tree.Names) {total : ℕ} {rest : List Kind} (p : Place total (spell.spell_names t rest))
    → Part view.view_names number.number_names t total rest p.at
names (tree.names more) p =
    let others = name_tail more (counted (next p)) in
    record {
      value = record { node = others.to.at.node; first = name_at p; more = vec_of others };
      seen = ap tree.names others.seen;
      to = counted others.to;
      walk = one_name p ⊳ others.walk ⊳ one_node others.to;
    }

-- ---- types

arrays_seen : (n : ℕ) (d : dv.Dimensions) (more : _)
    → view.arrays_of (Some (dz.roll-Arrays (record { node = n; first = d; more = more })))
    ≡ tree.more_array (view.view_dimension d) (view.dimensions_of more.items)
arrays_seen n d more = rw (dz.out-roll-Arrays (record { node = n; first = d; more = more })) refl

arrays_laid : (n : ℕ) (d : dv.Dimensions) (more : _)
    → number.numbers_of_arrays (Some (dz.roll-Arrays (record { node = n; first = d; more = more })))
    ≡ (token >> number.number_plain d.first >> number.numbers_of_plains d.more.items >> token >> number.numbers_of_dimensions more.items
    >> node n)
arrays_laid n d more = rw (dz.out-roll-Arrays (record { node = n; first = d; more = more })) refl

mutual
  type_node : (t : tree.TypeNode) {total : ℕ} {rest : List Kind} (p : Place total (spell.spell_type_node t rest))
      → Part view.view_type_node number.number_type t total rest p.at
  type_node (tree.type_node arrays t) p =
      let parts = array_parts arrays p in
      let one = plain t parts.to in
      let n = one.to.at.node in
      record {
        value = dy.roll-TypeNode (record { node = n; arrays = parts.value; element = one.value });
        seen = seen.type_rolled (record { node = n; arrays = parts.value; element = one.value })
            ∙ ap₂ tree.type_node parts.seen one.seen;
        to = counted one.to;
        walk = of_step (laid.type_rolled (record { node = n; arrays = parts.value; element = one.value }))
            (parts.walk ⊳ one.walk ⊳ one_node one.to);
      }

  array_parts : (t : tree.ArrayTail) {total : ℕ} {rest : List Kind} (p : Place total (spell.spell_array_tail t rest))
      → Part view.arrays_of number.numbers_of_arrays t total rest p.at
  array_parts tree.no_array p = no_value p refl
  array_parts (tree.more_array (tree.dimensions t ts) more) p =
      let first = plain t (next p) in
      let others = plain_tail ts first.to in
      let last = dimension_tail more (next others.to) in
      let n = last.to.at.node in
      let one : dv.Dimensions = record { first = first.value; more = vec_of others } in
      record {
        value = Some (dz.roll-Arrays (record { node = n; first = one; more = vec_of last }));
        seen = arrays_seen n one (vec_of last) ∙ ap₃ (λ x y z. tree.more_array (tree.dimensions x y) z) first.seen others.seen last.seen;
        to = counted last.to;
        walk = of_step (arrays_laid n one (vec_of last))
            (one_token p ⊳ first.walk ⊳ others.walk ⊳ one_token others.to ⊳ last.walk ⊳ one_node last.to);
      }

  dimension_tail : (t : tree.ArrayTail) {total : ℕ} {rest : List Kind} (p : Place total (spell.spell_array_tail t rest))
      → Parts view.dimensions_of number.numbers_of_dimensions t total rest p.at
  dimension_tail tree.no_array p = no_items p refl
  dimension_tail (tree.more_array (tree.dimensions t ts) more) p =
      let first = plain t (next p) in
      let others = plain_tail ts first.to in
      let last = dimension_tail more (next others.to) in
      record {
        items = record { first = first.value; more = vec_of others } ∷ last.items;
        seen = ap₃ (λ x y z. tree.more_array (tree.dimensions x y) z) first.seen others.seen last.seen;
        to = last.to;
        walk = one_token p ⊳ first.walk ⊳ others.walk ⊳ one_token others.to ⊳ last.walk;
        few = one_more p (stayed p) (first.walk ⊳ others.walk ⊳ one_token others.to) (length last.items) last.to.at.token last.few;
      }

  plain : (t : tree.PlainType) {total : ℕ} {rest : List Kind} (p : Place total (spell.spell_plain_type t rest))
      → Part view.view_plain_type number.number_plain t total rest p.at
  plain tree.type_name p =
      let ended = counted (next p) in
      record { value = dq.Named ended.at.node (name_at p); seen = refl; to = counted ended; walk = one_name p ⊳ one_node ended }
  plain (tree.listed l) p =
      let one = names l (next p) in
      let ended = next one.to in
      record {
        value = dq.Listed ended.at.node one.value;
        seen = ap tree.listed one.seen;
        to = counted ended;
        walk = one_token p ⊳ one.walk ⊳ one_token one.to ⊳ one_node ended;
      }
  plain (tree.subrange low high) p =
      let from = expr low (next p) in
      let until = expr high (next from.to) in
      let ended = next until.to in
      record {
        value = dq.Subrange ended.at.node from.value until.value;
        seen = ap₂ tree.subrange from.seen until.seen;
        to = counted ended;
        walk = one_token p ⊳ from.walk ⊳ one_token from.to ⊳ until.walk ⊳ one_token until.to ⊳ one_node ended;
      }
  plain (tree.record_type f more) p =
      let first = field_list f (next p) in
      let others = field_list_tail more first.to in
      let ended = next others.to in
      let n = ended.at.node in
      record {
        value = dq.Record n (box first.value) (vec_of others);
        seen = seen.record_laid n (box first.value) (vec_of others) ∙ ap₂ tree.record_type first.seen others.seen;
        to = counted ended;
        walk = of_step (laid.record_laid n (box first.value) (vec_of others))
            (one_token p ⊳ first.walk ⊳ others.walk ⊳ one_token others.to ⊳ one_node ended);
      }

  plain_tail : (t : tree.PlainTail) {total : ℕ} {rest : List Kind} (p : Place total (spell.spell_plain_tail t rest))
      → Parts view.plains_of number.numbers_of_plains t total rest p.at
  plain_tail tree.no_plain p = no_items p refl
  plain_tail (tree.more_plain t more) p =
      let one = plain t (next p) in
      let others = plain_tail more one.to in
      record {
        items = one.value ∷ others.items;
        seen = ap₂ tree.more_plain one.seen others.seen;
        to = others.to;
        walk = one_token p ⊳ one.walk ⊳ others.walk;
        few = one_more p (stayed p) one.walk (length others.items) others.to.at.token others.few;
      }

  field_list : (t : tree.FieldList) {total : ℕ} {rest : List Kind} (p : Place total (spell.spell_field_list t rest))
      → Part view.view_field_list number.number_field_list t total rest p.at
  field_list tree.empty_fields p = record { value = dw.Empty p.at.node; seen = refl; to = counted p; walk = one_node p }
  field_list (tree.fields l t) p =
      let one = names l p in
      let type = type_node t (next one.to) in
      record {
        value = dw.Fields type.to.at.node one.value type.value;
        seen = ap₂ tree.fields one.seen type.seen;
        to = counted type.to;
        walk = one.walk ⊳ one_token one.to ⊳ type.walk ⊳ one_node type.to;
      }

  field_list_tail : (t : tree.FieldListTail) {total : ℕ} {rest : List Kind} (p : Place total (spell.spell_field_list_tail t rest))
      → Parts view.field_lists_of number.numbers_of_field_lists t total rest p.at
  field_list_tail tree.no_fields p = no_items p refl
  field_list_tail (tree.more_fields f more) p =
      let one = field_list f (next p) in
      let others = field_list_tail more one.to in
      record {
        items = one.value ∷ others.items;
        seen = ap₂ tree.more_fields one.seen others.seen;
        to = others.to;
        walk = one_token p ⊳ one.walk ⊳ others.walk;
        few = one_more p (stayed p) one.walk (length others.items) others.to.at.token others.few;
      }

-- ---- declarations

const_tail : (t : tree.ConstTail) {total : ℕ} {rest : List Kind} (p : Place total (spell.spell_const_tail t rest))
    → Parts view.consts_of number.numbers_of_consts t total rest p.at
const_tail tree.no_const p = no_items p refl
const_tail (tree.more_const e more) p =
    let named = counted (next p) in
    let one = expr e (next named) in
    let others = const_tail more (next one.to) in
    record {
      items = record { name = name_at p; value = one.value } ∷ others.items;
      seen = ap₂ tree.more_const one.seen others.seen;
      to = others.to;
      walk = one_name p ⊳ one_token named ⊳ one.walk ⊳ one_token one.to ⊳ others.walk;
      few = one_more named (one_name p) (one.walk ⊳ one_token one.to) (length others.items) others.to.at.token others.few;
    }

type_tail : (t : tree.TypeTail) {total : ℕ} {rest : List Kind} (p : Place total (spell.spell_type_tail t rest))
    → Parts view.types_of number.numbers_of_types t total rest p.at
type_tail tree.no_type p = no_items p refl
type_tail (tree.more_type t more) p =
    let named = counted (next p) in
    let one = type_node t (next named) in
    let others = type_tail more (next one.to) in
    record {
      items = record { name = name_at p; type_node = one.value } ∷ others.items;
      seen = ap₂ tree.more_type one.seen others.seen;
      to = others.to;
      walk = one_name p ⊳ one_token named ⊳ one.walk ⊳ one_token one.to ⊳ others.walk;
      few = one_more named (one_name p) (one.walk ⊳ one_token one.to) (length others.items) others.to.at.token others.few;
    }

var_tail : (t : tree.VarTail) {total : ℕ} {rest : List Kind} (p : Place total (spell.spell_var_tail t rest))
    → Parts view.vars_of number.numbers_of_vars t total rest p.at
var_tail tree.no_var p = no_items p refl
var_tail (tree.more_var l t more) p =
    let listed = names l p in
    let one = type_node t (next listed.to) in
    let others = var_tail more (next one.to) in
    record {
      items = record { names = listed.value; type_node = one.value } ∷ others.items;
      seen = ap₃ tree.more_var listed.seen one.seen others.seen;
      to = others.to;
      walk = listed.walk ⊳ one_token listed.to ⊳ one.walk ⊳ one_token one.to ⊳ others.walk;
      few = one_more listed.to listed.walk (one.walk ⊳ one_token one.to) (length others.items) others.to.at.token others.few;
    }

-- [ VAR | MIX ]
record Passed (mode : Option Mode) (total : ℕ) (rest : List Kind) (a : Cursor) : Type 0 where
  to : Place total rest
  walk : Walk (number.number_mode mode) a to.at

passed : (mode : Option Mode) {total : ℕ} {rest : List Kind} (p : Place total (spell.spell_mode mode rest)) → Passed mode total rest p.at
passed None p = record { to = p; walk = stayed p }
passed (Some modes.Var) p = record { to = next p; walk = one_token p }
passed (Some modes.Mix) p = record { to = next p; walk = one_token p }

formal : (t : tree.Formal) {total : ℕ} {rest : List Kind} (p : Place total (spell.spell_formal t rest))
    → Part view.view_formal number.number_formal t total rest p.at
formal (tree.formal mode l) p =
    let way = passed mode p in
    let listed = names l way.to in
    let ended = counted (next (next listed.to)) in
    record {
      value = record { node = ended.at.node; mode = mode; names = listed.value; type_name = name_at (next listed.to) };
      seen = ap (tree.formal mode) listed.seen;
      to = counted ended;
      walk = way.walk ⊳ listed.walk ⊳ one_token listed.to ⊳ one_name (next listed.to) ⊳ one_node ended;
    }

formal_tail : (t : tree.FormalTail) {total : ℕ} {rest : List Kind} (p : Place total (spell.spell_formal_tail t rest))
    → Parts view.formal_tail_of number.numbers_of_formals t total rest p.at
formal_tail tree.no_formal p = no_items p refl
formal_tail (tree.more_formal f more) p =
    let one = formal f (next p) in
    let others = formal_tail more one.to in
    record {
      items = one.value ∷ others.items;
      seen = ap₂ tree.more_formal one.seen others.seen;
      to = others.to;
      walk = one_token p ⊳ one.walk ⊳ others.walk;
      few = one_more p (stayed p) one.walk (length others.items) others.to.at.token others.few;
    }

formals : (t : tree.Formals) {total : ℕ} {rest : List Kind} (p : Place total (spell.spell_formals t rest))
    → Part view.view_formals number.number_formals t total rest p.at
formals (tree.formals f more) p =
    let first = formal f p in
    let others = formal_tail more first.to in
    record {
      value = record { node = others.to.at.node; first = first.value; more = vec_of others };
      seen = ap₂ tree.formals first.seen others.seen;
      to = counted others.to;
      walk = first.walk ⊳ others.walk ⊳ one_node others.to;
    }

params_part : (t : tree.Params) {total : ℕ} {rest : List Kind} (p : Place total (spell.spell_params t rest))
    → Part view.params_of number.numbers_of_params t total rest p.at
params_part tree.no_params p = no_value p refl
params_part tree.empty_params p = record {
  value = Some (record { formals = None });
  seen = refl;
  to = next (next p);
  walk = one_token p ⊳ one_token (next p);
}
params_part (tree.params f) p =
    let one = formals f (next p) in
    record {
      value = Some (record { formals = Some one.value });
      seen = ap tree.params one.seen;
      to = next one.to;
      walk = one_token p ⊳ one.walk ⊳ one_token one.to;
    }

result_part : (t : tree.ResultName) {total : ℕ} {rest : List Kind} (p : Place total (spell.spell_result_name t rest))
    → Part view.result_of number.numbers_of_result t total rest p.at
result_part tree.no_result p = no_value p refl
result_part tree.result_name p = record {
  value = Some (name_at (next p));
  seen = refl;
  to = counted (next (next p));
  walk = one_token p ⊳ one_name (next p);
}

body_part : (t : tree.Body) {total : ℕ} {rest : List Kind} (p : Place total (spell.spell_body t rest))
    → Part view.body_of number.numbers_of_body t total rest p.at
body_part tree.no_body p = no_value p refl
body_part (tree.body s) p =
    let one = stmts s (next p) in
    record { value = Some one.value; seen = ap tree.body one.seen; to = one.to; walk = one_token p ⊳ one.walk }

-- a procedure, of its parts, and the declarations behind it
more_procedure : {heading : tree.Params} {result : tree.ResultName} {b : tree.Block} {more : tree.DeclTail} {total : ℕ} {k l m n i j : Kind}
    {before inside left ahead rest : List Kind} (p : Place total (k ∷ l ∷ before))
    (given : Part view.params_of number.numbers_of_params heading total inside (counted (next (next p))).at)
    (gives : Part view.result_of number.numbers_of_result result total (m ∷ left) given.to.at)
    (inner : Part view.view_block number.number_block b total (n ∷ i ∷ j ∷ ahead) (next gives.to).at)
    → Parts view.decls_of number.numbers_of_decls more total rest (counted (next (counted (next (next inner.to))))).at
    → Parts view.decls_of number.numbers_of_decls (tree.more_decl (tree.procedure heading result b) more) total rest p.at
more_procedure p given gives inner others =
    let closed = next inner.to in
    let ended = next (counted (next closed)) in
    let value : dh.Decl = dh.Procedure ended.at.node (name_at (next p)) given.value gives.value inner.value (name_at closed) in
    record {
      items = value ∷ others.items;
      seen = ap₂ tree.more_decl (seen.procedure_laid ended.at.node (name_at (next p)) given.value gives.value inner.value (name_at closed)
          ∙ ap₃ tree.procedure given.seen gives.seen inner.seen) others.seen;
      to = others.to;
      walk = of_step (laid.procedure_laid ended.at.node (name_at (next p)) given.value gives.value inner.value (name_at closed))
          (one_token p ⊳ one_name (next p) ⊳ given.walk ⊳ gives.walk ⊳ one_token gives.to ⊳ inner.walk ⊳ one_token inner.to
          ⊳ one_name closed ⊳ one_token (counted (next closed)) ⊳ one_node ended)
          ⊳ others.walk;
      few = one_more p (stayed p) (one_name (next p) ⊳ given.walk ⊳ gives.walk ⊳ one_token gives.to ⊳ inner.walk ⊳ one_token inner.to
          ⊳ one_name closed ⊳ one_token (counted (next closed)) ⊳ one_node ended) (length others.items) others.to.at.token others.few;
    }

mutual
  block : (t : tree.Block) {total : ℕ} {rest : List Kind} (p : Place total (spell.spell_block t rest))
      → Part view.view_block number.number_block t total rest p.at
  block (tree.block decls inner) p =
      let items = decl_tail decls p in
      let last = body_part inner items.to in
      record {
        value = record { node = last.to.at.node; decls = vec_of items; body = last.value };
        seen = ap₂ tree.block items.seen last.seen;
        to = counted last.to;
        walk = items.walk ⊳ last.walk ⊳ one_node last.to;
      }

  decl_tail : (t : tree.DeclTail) {total : ℕ} {rest : List Kind} (p : Place total (spell.spell_decl_tail t rest))
      → Parts view.decls_of number.numbers_of_decls t total rest p.at
  decl_tail tree.no_decl p = no_items p refl
  decl_tail (tree.more_decl (tree.const_decl entries) more) p =
      let one = const_tail entries (next p) in
      let others = decl_tail more (counted one.to) in
      record {
        items = dh.Const one.to.at.node (vec_of one) ∷ others.items;
        seen = ap₂ (λ x y. tree.more_decl (tree.const_decl x) y) one.seen others.seen;
        to = others.to;
        walk = (one_token p ⊳ one.walk ⊳ one_node one.to) ⊳ others.walk;
        few = one_more p (stayed p) (one.walk ⊳ one_node one.to) (length others.items) others.to.at.token others.few;
      }
  decl_tail (tree.more_decl (tree.type_decl entries) more) p =
      let one = type_tail entries (next p) in
      let others = decl_tail more (counted one.to) in
      record {
        items = dh.Type one.to.at.node (vec_of one) ∷ others.items;
        seen = ap₂ (λ x y. tree.more_decl (tree.type_decl x) y) one.seen others.seen;
        to = others.to;
        walk = (one_token p ⊳ one.walk ⊳ one_node one.to) ⊳ others.walk;
        few = one_more p (stayed p) (one.walk ⊳ one_node one.to) (length others.items) others.to.at.token others.few;
      }
  decl_tail (tree.more_decl (tree.var_decl entries) more) p =
      let one = var_tail entries (next p) in
      let others = decl_tail more (counted one.to) in
      record {
        items = dh.Var one.to.at.node (vec_of one) ∷ others.items;
        seen = ap₂ (λ x y. tree.more_decl (tree.var_decl x) y) one.seen others.seen;
        to = others.to;
        walk = (one_token p ⊳ one.walk ⊳ one_node one.to) ⊳ others.walk;
        few = one_more p (stayed p) (one.walk ⊳ one_node one.to) (length others.items) others.to.at.token others.few;
      }
  decl_tail (tree.more_decl (tree.procedure heading result b) more) p =
      let given = params_part heading (counted (next (next p))) in
      let gives = result_part result given.to in
      let inner = block b (next gives.to) in
      let others = decl_tail more (counted (next (counted (next (next inner.to))))) in
      more_procedure p given gives inner others

-- ---- the module

-- a value that is seen as this tree, and numbered
pub record Numbered (t : tree.Module) : Type 0 where
  pub value : Module
  pub seen : view.view_module value ≡ t
  pub numbered : IsNumbered value (length (spell.spelling t))

start : (ks : List Kind) → length ks < 2 ^ 63 → Place (length ks) ks
start ks small = record { at = record { token = 0; node = 0 }; all = omega arith; small = small }

-- a walk from the start to the end of all tokens
all_numbered : (m : Module) (total : ℕ) (to : Place total []) → Walk (number.number_module m) (record { token = 0; node = 0 }) to.at
    → IsNumbered m total
all_numbered m total to walk =
    let all : to.at.token ≡ total = omega (arith, to.all) in
    (to.at.node, walk.steps ∙ ap (λ n. Some (record { token = n; node = to.at.node })) all)

module_part : (t : tree.Module) {total : ℕ} (p : Place total (spell.spelling t))
    → Part view.view_module number.number_module t total [] p.at
module_part (tree.module_of b) p =
    let named = counted (next (next p)) in
    let inner = block b (next named) in
    let closed = next inner.to in
    let dotted = counted (next closed) in
    let ended = next dotted in
    record {
      value = record { node = ended.at.node; name = name_at (next p); block = inner.value; end_name = name_at closed };
      seen = ap tree.module_of inner.seen;
      to = counted ended;
      walk = one_token p ⊳ one_name (next p) ⊳ one_token named ⊳ inner.walk ⊳ one_token inner.to ⊳ one_name closed ⊳ one_token dotted
          ⊳ one_node ended;
    }

-- each plain tree is that of a numbered value, where its tokens are few enough for vectors
pub numbered_module : (t : tree.Module) → length (spell.spelling t) < 2 ^ 63 → Numbered t
unfolding start
numbered_module t small =
    let m = module_part t (start (spell.spelling t) small) in
    record { value = m.value; seen = m.seen; numbered = all_numbered m.value (length (spell.spelling t)) m.to m.walk }
