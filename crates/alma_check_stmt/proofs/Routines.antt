-- The routines of a block, put together of their parts.
use Rattle.std.proofs.Common.{◌≡◌, ℕ, ◌+◌, ◌-◌, ◌<◌, ◌≤◌, List, [], length, get_or, drop, Option, refl, sym, ap, subst, ◌∙◌, arith, Vec}
use Rattle.std.proofs.Common.{Global}
use Rattle.std.proofs.lemmas.List.{length_push, drop_all}
use Rattle.alma_tree.specs.declared.leaf.Name.{Name}
use Rattle.alma_tree.specs.declared.module.Block as db
use Rattle.alma_tree.specs.declared.module.Decl as dh
use Rattle.alma_tree.specs.declared.module.Params.{Params}
use Rattle.alma_names.specs.Shapes.{PlainShape}
use Rattle.alma_ir.specs.Tree as ir
use Rattle.alma_rules.specs.Numbered as tree
use Rattle.alma_rules.specs.View as view
use Rattle.alma_rules.specs.Judgement.{BrokenRule, broken_at}
use Rattle.alma_rules.specs.Scene.{Scene}
use Rattle.alma_rules.specs.Decls.{Frame, block_routines, decls_routines, decl_routines, read_heading, read_decls}
use Rattle.alma_rules.specs.Modules.{judge_body, body_lines, judge_bodies, judge_decl, routine_of, with_shapes, end_rules}
use Rattle.alma_rules.proofs.Exprs.{next_of}
use Rattle.alma_check_type.specs.Around.{clear, leave_block, outer_of}
use Rattle.alma_check_stmt.specs.Inner.Gathered.{Stage, stage, through_decls, through_decl, through_block, through_read, read_stage}
use Rattle.alma_check_stmt.specs.Inner.Gathered.{with_fault, with_least, next_routine, quiet, Adds, AreEmpty, AreEmptyInside, IsRisingBody}
use Rattle.alma_check_stmt.specs.Inner.Gathered.{AreReady, IsReady, IsReadyInside}
use Rattle.alma_check_stmt.proofs.Headings.{inner_frame, inner_ground, heading_ground, heading_empty, scene_closed, decls_ground}
use Rattle.alma_check_stmt.proofs.Headings.{read_inside}
use Rattle.alma_check_stmt.proofs.Gathering.{block_by, body_first, through_more, through_none, through_procedure, rising_rest}
use Rattle.alma_check_stmt.proofs.Gathering.{rising_procedure}

-- ---- a procedure, said of the row of its declarations

decls_row : (n : _) (row : db.Row_of-Decl n) → view.view_decls row ≡ view.decls_of (db.items-the_row-Decl n row)
decls_row n db.end_of-Decl = refl
decls_row n (db.more_of-Decl x rest) = ap (tree.more_decl (view.view_decl x)) (decls_row _ rest)

decls_kept : (v : Vec dh.Decl Global) → view.view_decls (dh.TheBlock.hidden-the_row-Decl-0 v) ≡ view.decls_of v.items
decls_kept v = decls_row _ (dh.TheBlock.hidden-the_row-Decl-0 v) ∙ ap view.decls_of (db.items_hidden-the_row-Decl-0 v)

pub procedure_is : (n : ℕ) (l : Name) (p : Option Params) (r : Option Name) (b : db.Block) (e : Name)
    → view.view_decl (dh.Procedure n l p r b e) ≡ tree.procedure n (view.view_name l) (view.params_of p) (view.result_of r)
    (view.view_block b) (view.view_name e)
procedure_is n l p r b e = ap (λ x. tree.procedure n (view.view_name l) (view.params_of p) (view.result_of r)
    (tree.block b.node x (view.body_of b.body)) (view.view_name e)) (decls_kept b.decls)

-- ---- what callers know

pub inside_ready : (source : List ℕ) (s : Scene) (next n : ℕ) (name : tree.Name) (params : Option tree.Params) (result : Option tree.Name)
    (m : ℕ) (decls : tree.DeclTail) (body : Option tree.Stmts) (end_name : tree.Name)
    → AreReady source s next (tree.more_decl (tree.procedure n name params result (tree.block m decls body) end_name) tree.no_decl)
    → IsReadyInside source s next decls body
unfolding AreEmptyInside block_routines
inside_ready source s next n name params result m decls body end_name h =
    let r = rising_procedure n name params result m decls body end_name tree.no_decl h.rising in
    record { lined = h.lined; empty = h.empty.0; rising = r.in_decls; rising_body = r.in_body }

pub block_ready : (source : List ℕ) (s t : Scene) (next n : ℕ) (params : Option tree.Params) (result : Option tree.Name) (b : tree.Block)
    (decls : tree.DeclTail) (body : Option tree.Stmts)
    → IsReadyInside source s next decls body → t ≡ (read_heading s next n params result b).frame.scene → (k : ℕ) → k ≡ next + 1
    → IsReady source t k decls body
block_ready source s t next n params result b decls body h e k is =
    rw (e, is) (record {
      lined = h.lined ∙ sym (ap (λ g. g.source) (heading_ground s next n params result b));
      empty = heading_empty s next n params result b (next + 1) (decls_routines decls) h.empty;
      rising = h.rising;
      rising_body = h.rising_body;
    })

pub declared_ready : (source : List ℕ) (f : Frame) (t : Scene) (next : ℕ) (decls : tree.DeclTail) (body : Option tree.Stmts)
    → IsReady source f.scene next decls body → t ≡ (read_decls f next decls).scene → (k : ℕ) → k ≡ next → AreReady source t k decls
declared_ready source f t next decls body h e k is =
    rw (e, is) (record {
      lined = h.lined ∙ sym (ap (λ g. g.source) (decls_ground f next decls));
      empty = read_inside f next decls h.empty;
      rising = h.rising;
    })

-- one declaration, and those behind it
first_ready : (source : List ℕ) (s : Scene) (next : ℕ) (d : tree.Decl) (rest : tree.DeclTail)
    → AreReady source s next (tree.more_decl d rest) → AreReady source s next (tree.more_decl d tree.no_decl)
unfolding AreEmptyInside Rattle.alma_rules.specs.Rising.rise_block
first_ready source s next d rest h =
    record {
      lined = h.lined;
      empty = (h.empty.0, tt);
      rising =
          record { low = h.rising.low; high = h.rising.rise.0; rise = (h.rising.rise.0, h.rising.rise.1, omega arith) };
    }

rest_ready : (source : List ℕ) (s t : Scene) (next k : ℕ) (d : tree.Decl) (rest : tree.DeclTail) (shapes : List PlainShape)
    → AreReady source s next (tree.more_decl d rest) → t ≡ with_shapes s shapes → k ≡ next + decl_routines d → AreReady source t k rest
unfolding AreEmptyInside
rest_ready source s t next k d rest shapes h e is =
    rw (e, is) (record { lined = h.lined; empty = h.empty.1; rising = rising_rest d rest h.rising })

-- ---- declarations one by one

pub first_of : (source : List ℕ) (s : Scene) (next i : ℕ) (all : List dh.Decl) (x : dh.Decl) → i < length all → x ≡ get_or all i x
    → AreReady source s next (view.decls_of (drop i all)) → AreReady source s next (tree.more_decl (view.view_decl x) tree.no_decl)
first_of source s next i all x lt is h =
    first_ready source s next (view.view_decl x) (view.decls_of (drop (i + 1) all))
    (subst (λ xs. AreReady source s next (view.decls_of xs)) (next_of all i x lt is) h)

pub rest_of : (source : List ℕ) (s t : Scene) (i : ℕ) (all : List dh.Decl) (x : dh.Decl) (f g : Option BrokenRule)
    (v w : Option (List ir.Routine)) (next k : ℕ) → i < length all → x ≡ get_or all i x
    → AreReady source s next (view.decls_of (drop i all)) → through_decl (stage f v next s) (view.view_decl x) ≡ stage g w k t
    → AreReady source t k (view.decls_of (drop (i + 1) all))
rest_of source s t i all x f g v w next k lt is h e =
    rest_ready source s t next k (view.view_decl x) (view.decls_of (drop (i + 1) all)) (judge_decl s next (view.view_decl x)).shapes
    (subst (λ xs. AreReady source s next (view.decls_of xs)) (next_of all i x lt is) h)
    (sym (ap (λ (y : Stage). y.scene) e)) (sym (ap (λ (y : Stage). y.next) e))

pub decls_next : (t u : Stage) (i : ℕ) (all : List dh.Decl) (x : dh.Decl) → i < length all → x ≡ get_or all i x
    → through_decl t (view.view_decl x) ≡ u
    → through_decls t (view.decls_of (drop i all)) ≡ through_decls u (view.decls_of (drop (i + 1) all))
decls_next t u i all x lt is e =
    ap (λ xs. through_decls t (view.decls_of xs)) (next_of all i x lt is)
    ∙ (through_more t (view.view_decl x) (view.decls_of (drop (i + 1) all))
    ∙ ap (λ (y : Stage). through_decls y (view.decls_of (drop (i + 1) all))) e)

pub decls_end : (f : Option BrokenRule) (v : Option (List ir.Routine)) (n : ℕ) (s : Scene) (i : ℕ) (all : List dh.Decl) → length all ≤ i
    → through_decls (stage f v n s) (view.decls_of (drop i all)) ≡ stage f v n s
decls_end f v n s i all le = ap (λ xs. through_decls (stage f v n s) (view.decls_of xs)) (drop_all i all le) ∙ through_none f v n s

-- ---- blocks

pub declared_by : (x x' o : Option BrokenRule) (v v' : Option (List ir.Routine)) (n n' : ℕ) (s : Scene) (f : Frame) (name : tree.Name)
    (outer end : ℕ) (decls : tree.DeclTail) (body : Option tree.Stmts) (t u : Stage)
    → f.faults ≡ [] → IsRisingBody body
    → Adds (judge_body f body) (λ slots b. routine_of f name outer slots (body_lines f.scene end body) b) o v v'
    → x' ≡ x → n' ≡ n → through_decls (stage x' v' n' s) decls ≡ t → u ≡ with_fault t o
    → through_block (stage x v n s) f name outer end decls body ≡ u
declared_by x x' o v v' n n' s f name outer end decls body t u q r a ex en d e =
    block_by x o v v' n s f name outer end decls body q (body_first f body r) a
    ∙ (ap (λ (y : Stage). with_fault y o) (subst (λ k. through_decls (stage x v' k s) decls ≡ t) en
    (subst (λ z. through_decls (stage z v' n' s) decls ≡ t) ex d)) ∙ sym e)

pub read_by : (t t' u : Stage) (g f : Frame) (name : tree.Name) (outer end : ℕ) (decls : tree.DeclTail) (body : Option tree.Stmts)
    → t' ≡ read_stage t g → f ≡ quiet g → through_block t' f name outer end decls body ≡ u
    → through_read t g name outer end decls body ≡ u
read_by t t' u g f name outer end decls body a b e =
    subst (λ y. through_block (read_stage t g) y name outer end decls body ≡ u) b
    (subst (λ (y : Stage). through_block y f name outer end decls body ≡ u) a e)

-- ---- procedures

-- the blocks below the top one behind the declarations of a procedure
pub is_open : (s s' : Scene) (r n : ℕ) (params : Option tree.Params) (result : Option tree.Name) (m : ℕ) (decls : tree.DeclTail)
    (body : Option tree.Stmts) (shapes : List PlainShape)
    → s' ≡ with_shapes (inner_frame s r n params result m decls body).scene shapes → 0 < length s'.blocks.below
is_open s s' r n params result m decls body shapes e =
    rw (e, ap (λ g. g.below) (inner_ground s r n params result m decls body)) (omega (arith, length_push s.blocks.below s.blocks.top))

pub procedure_by : (f0 f2 : Option BrokenRule) (v0 v2 : Option (List ir.Routine)) (n n2 : ℕ) (s0 s2 s4 : Scene) (k : ℕ) (name : tree.Name)
    (params : Option tree.Params) (result : Option tree.Name) (m : ℕ) (decls : tree.DeclTail) (body : Option tree.Stmts)
    (end_name : tree.Name) (w : Stage)
    → AreEmpty s0.headings (n + 1) (decls_routines decls)
    → through_read (next_routine (stage f0 v0 n s0)) (inner_frame s0 n k params result m decls body) name s0.routine (end_name.token - 1)
    decls
    body ≡ stage f2 v2 n2 s2
    → s4 ≡ record (leave_block s2 (outer_of s0)) { headings = clear (n + 1) (n2 - (n + 1)) s2.headings }
    → w ≡ with_least (stage f2 v2 n2 s4) (broken_at end_name.node (end_rules s4 name end_name))
    → through_decl (stage f0 v0 n s0) (tree.procedure k name params result (tree.block m decls body) end_name) ≡ w
procedure_by f0 f2 v0 v2 n n2 s0 s2 s4 k name params result m decls body end_name w empty e c d =
    let g : Frame = inner_frame s0 n k params result m decls body in
    let sh : List PlainShape = (judge_bodies g.scene (n + 1) decls).shapes in
    let is : s2 ≡ with_shapes g.scene sh = sym (ap (λ (y : Stage). y.scene) e) in
    let at : n + 1 + decls_routines decls ≡ n2 = ap (λ (y : Stage). y.next) e in
    let count : n2 - (n + 1) ≡ decls_routines decls = omega (arith, at) in
    let whole : s4 ≡ with_shapes s0 sh = c ∙ (rw (is, count) (scene_closed s0 n k params result m decls body sh empty)) in
    let there : with_shapes s0 s2.shapes ≡ s4 = ap (λ (y : Scene). with_shapes s0 y.shapes) is ∙ sym whole in
    through_procedure (stage f0 v0 n s0) k name params result m decls body end_name
    ∙ (ap (λ (v : Stage). with_least (record v { scene = with_shapes s0 v.scene.shapes })
    (broken_at end_name.node (end_rules s0 name end_name))) e
    ∙ (ap (λ (y : Scene). with_least (stage f2 v2 n2 y) (broken_at end_name.node (end_rules s0 name end_name))) there
    ∙ (ap (λ (y : Scene). with_least (stage f2 v2 n2 s4) (broken_at end_name.node (end_rules y name end_name))) (sym whole) ∙ sym d)))
