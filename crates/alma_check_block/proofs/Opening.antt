-- A block as it begins, and the routines that it declares.
use Rattle.std.proofs.Common.{◌≡◌, ℕ, ◌+◌, ◌<◌, ◌≤◌, List, ◌++◌, Option, None, Some, length, get_or, drop, refl, sym, ap, ◌∙◌}
use Rattle.std.specs.Prelude.{IfSome}
use Rattle.std.proofs.lemmas.List.{drop_all}
use Rattle.alma_tree.specs.declared.leaf.Name.{Name}
use Rattle.alma_tree.specs.declared.module.Params.{Params}
use Rattle.alma_tree.specs.declared.module.Block as db
use Rattle.alma_tree.specs.declared.module.Decl as dh
use Rattle.alma_rules.specs.Numbered as tree
use Rattle.alma_rules.specs.View as view
use Rattle.alma_rules.specs.Scene.{Scene, nothing}
use Rattle.alma_rules.specs.Decls as rules
use Rattle.alma_rules.proofs.Exprs.{next_of}
use Rattle.alma_check_type.specs.Around.{enter_block}
use Rattle.alma_rules.proofs.TypeRows.{procedure_is}
use Rattle.alma_check_block.proofs.Frames.{none_counted, more_counted}

-- ---- counts

pub count_on : (all : List dh.Decl) (i : ℕ) (x : dh.Decl) → i < length all → x ≡ get_or all i x
    → rules.decls_routines (view.decls_of (drop i all)) ≡ rules.decl_routines (view.view_decl x)
    + rules.decls_routines (view.decls_of (drop (i + 1) all))
count_on all i x lt is = ap (λ xs. rules.decls_routines (view.decls_of xs)) (next_of all i x lt is) ∙ more_counted x (drop (i + 1) all)

pub count_end : (all : List dh.Decl) (i : ℕ) → length all ≤ i → rules.decls_routines (view.decls_of (drop i all)) ≡ 0
count_end all i h = ap (λ xs. rules.decls_routines (view.decls_of xs)) (drop_all i all h) ∙ none_counted

pub block_count : (b : db.Block) → rules.block_routines (view.view_block b) ≡ rules.decls_routines (view.decls_of b.decls.items)
unfolding rules.block_routines
block_count b = refl

pub const_count : (n : ℕ) (xs : _) → rules.decl_routines (view.view_decl (dh.Const n xs)) ≡ 0
unfolding rules.block_routines
const_count n xs = refl

pub type_count : (n : ℕ) (xs : _) → rules.decl_routines (view.view_decl (dh.Type n xs)) ≡ 0
unfolding rules.block_routines
type_count n xs = refl

pub var_count : (n : ℕ) (xs : _) → rules.decl_routines (view.view_decl (dh.Var n xs)) ≡ 0
unfolding rules.block_routines
var_count n xs = refl

procedure_at : (n : ℕ) (name : tree.Name) (params : Option tree.Params) (result : Option tree.Name) (b : tree.Block) (e : tree.Name)
    → rules.decl_routines (tree.procedure n name params result b e) ≡ 1 + rules.block_routines b
unfolding rules.block_routines
procedure_at n name params result b e = refl

pub procedure_count : (n : ℕ) (l : Name) (p : Option Params) (r : Option Name) (b : db.Block) (e : Name)
    → rules.decl_routines (view.view_decl (dh.Procedure n l p r b e)) ≡ 1 + rules.block_routines (view.view_block b)
procedure_count n l p r b e =
    ap rules.decl_routines (procedure_is n l p r b e)
    ∙ procedure_at n (view.view_name l) (view.params_of p) (view.result_of r) (view.view_block b) (view.view_name e)

pub some_to : (r : Option ℕ) (a b : ℕ) → a ≡ b → IfSome r (λ n. n ≡ a) → IfSome r (λ n. n ≡ b)
some_to (Some n) a b e h = h ∙ e
some_to None a b e h = tt

-- ---- procedures

pub routines_next : (s j : Scene) (n m : ℕ) (i : ℕ) (all : List dh.Decl) (x : dh.Decl) → i < length all → x ≡ get_or all i x
    → j ≡ rules.with_routine s n (view.view_decl x) → m ≡ n + rules.decl_routines (view.view_decl x)
    → rules.with_routines s n (view.decls_of (drop i all)) ≡ rules.with_routines j m (view.decls_of (drop (i + 1) all))
routines_next s j n m i all x lt is h e =
    ap (λ xs. rules.with_routines s n (view.decls_of xs)) (next_of all i x lt is)
    ∙ ap (λ k. rules.with_routines k (n + rules.decl_routines (view.view_decl x)) (view.decls_of (drop (i + 1) all))) (sym h)
    ∙ ap (λ k. rules.with_routines j k (view.decls_of (drop (i + 1) all))) (sym e)

pub routines_end : (s : Scene) (n : ℕ) (i : ℕ) (all : List dh.Decl) → length all ≤ i
    → rules.with_routines s n (view.decls_of (drop i all)) ≡ s
routines_end s n i all h = ap (λ xs. rules.with_routines s n (view.decls_of xs)) (drop_all i all h)

-- ---- the block

pub opened_by : (s j k : Scene) (r first : ℕ) (ds : List (List ℕ × ℕ)) (ps : Option tree.Params) (b : db.Block) → first ≡ r + 1
    → ds ≡ rules.with_texts s (rules.formal_names (rules.formals_of ps) ++ rules.block_names (view.view_block b)) → j ≡ enter_block s ds r
    → k ≡ rules.with_routines j first (view.decls_of b.decls.items)
    → k ≡ rules.with_block s r nothing (rules.formal_names (rules.formals_of ps)) (view.view_block b)
opened_by s j k r first ds ps b e d h g =
    g ∙ ap (λ i. rules.with_routines i first (view.decls_of b.decls.items)) h
    ∙ ap (λ n. rules.with_routines (enter_block s ds r) n (view.decls_of b.decls.items)) e
    ∙ ap (λ x. rules.with_routines (enter_block s x r) (r + 1) (view.decls_of b.decls.items)) d
