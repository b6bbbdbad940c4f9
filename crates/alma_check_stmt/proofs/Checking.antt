-- What the calls that check routines leave, put together.
use Rattle.std.proofs.Common.{◌≡◌, ℕ, ◌+◌, ◌-◌, List, [], Option, None, Some, refl, sym, ap, subst, ◌∙◌, Result, Ok, Err}
use Rattle.std.specs.Prelude.{OnOk}
use Rattle.alma_rules.specs.Numbered as tree
use Rattle.alma_rules.specs.Judgement.{BrokenRule, least}
use Rattle.alma_rules.specs.Answers.{first}
use Rattle.alma_rules.specs.Scene.{Scene}
use Rattle.alma_rules.specs.Decls.{Frame, read_heading, read_decls}
use Rattle.alma_rules.specs.Modules.{frame_of}
use Rattle.alma_check_type.specs.declared.reading.BrokenRule.{BrokenRule as CodeBroken}
use Rattle.alma_check_type.specs.Told.{fault_of}
use Rattle.alma_check_type.specs.Around.{Outer, leave_block, outer_of, clear}
use Rattle.alma_check_block.specs.declared.frame.Frame.{Frame as CodeFrame}
use Rattle.alma_check_block.specs.Shown.{ToldFrame, frame_with_scene, told_frame}
use Rattle.alma_check_stmt.specs.declared.checked.Checked.{Checked}
use Rattle.alma_check_stmt.specs.Inner.Gathered.{Stage, stage, through_block, through_read, read_stage, with_fault, next_routine, quiet}
use Rattle.alma_check_stmt.specs.Inner.Shown.{stand, routines_in}
use Rattle.alma_check_stmt.specs.Inner.Framed.{frame_in}
use Rattle.alma_check_stmt.proofs.Headings.{inner_frame}
use Rattle.alma_check_stmt.proofs.Routines.{read_by}

pub on_ok : {T E : Type 0} {P Q : Type 0} (r : Result T E) → (P → Q) → OnOk r P → OnOk r Q
on_ok (Ok x) f h = f h
on_ok (Err e) f h = h

-- ---- frames

-- a frame in which no rule is broken, of what is told of one
abbrev frame_from : ToldFrame → Frame
frame_from t = record {
  faults = [];
  scene = t.scene;
  slots = t.slots;
  declared = t.declared;
  params = t.params;
  formals = t.formals;
  variables = t.variables;
}

pub shown_in : (s : Scene) (x : CodeFrame) → x.fault ≡ None → frame_with_scene s x ≡ told_frame (frame_in s x)
shown_in s x e = rw e refl

pub no_fault : (x : Option CodeBroken) → fault_of x ≡ None → x ≡ None
no_fault None e = refl
no_fault (Some b) e = absurd (cc)

pub frame_told : (s : Scene) (x : CodeFrame) (g : Frame) → frame_with_scene s x ≡ told_frame g → frame_in s x ≡ quiet g
frame_told s x g e = ap frame_from e

stage_read : (f o : Option BrokenRule) (v : Option (List Rattle.alma_ir.specs.Tree.Routine)) (n : ℕ) (s0 s1 : Scene) (g : Frame)
    → o ≡ least g.faults → s1 ≡ g.scene → with_fault (stage f v n s1) o ≡ read_stage (stage f v n s0) g
stage_read f o v n s0 s1 g a b = rw (a, b) refl

pub block_checked : (x x1 : Checked) (s0 s1 : Scene) (f1 : CodeFrame) (g : Frame) (u : Stage) (name : tree.Name) (outer end : ℕ)
    (decls : tree.DeclTail) (body : Option tree.Stmts)
    → frame_with_scene s1 f1 ≡ told_frame g → least g.faults ≡ first g.faults → stand x1 s1 ≡ with_fault (stand x s1) (fault_of f1.fault)
    → through_block (stand x1 s1) (frame_in s1 f1) name outer end decls body ≡ u
    → through_read (stand x s0) g name outer end decls body ≡ u
block_checked x x1 s0 s1 f1 g u name outer end decls body told l a e =
    read_by (stand x s0) (stand x1 s1) u g (frame_in s1 f1) name outer end decls body
    (a ∙ stage_read (fault_of x.fault) (fault_of f1.fault) (routines_in x) x.next s0 s1 g (ap (λ (t : ToldFrame). t.fault) told ∙ sym l)
    (ap (λ (t : ToldFrame). t.scene) told))
    (frame_told s1 f1 g told) e

-- ---- procedures

pub inner_read : (x0 x1 : Checked) (s0 s1 : Scene) (f1 : CodeFrame) (k : ℕ) (params : Option tree.Params) (result : Option tree.Name)
    (m : ℕ) (decls : tree.DeclTail) (body : Option tree.Stmts) (name : tree.Name) (outer outer' end end' : ℕ) (u : Stage)
    → ((s : Scene) → stand x1 s ≡ next_routine (stand x0 s))
    → frame_in s1 f1 ≡ frame_of (read_heading s0 x0.next k params result (tree.block m decls body)) → outer ≡ outer' → end ≡ end'
    → through_read (stand x1 s1) (read_decls (frame_in s1 f1) x1.next decls) name outer end decls body ≡ u
    → through_read (next_routine (stand x0 s0)) (inner_frame s0 x0.next k params result m decls body) name outer' end' decls body ≡ u
inner_read x0 x1 s0 s1 f1 k params result m decls body name outer outer' end end' u c e o d h =
    let n : x1.next ≡ x0.next + 1 = ap (λ (y : Stage). y.next) (c s1) in
    let h1 = subst (λ (y : Stage). through_read y (read_decls (frame_in s1 f1) x1.next decls) name outer end decls body ≡ u) (c s1) h in
    let h2 = subst (λ i. through_read (next_routine (stand x0 s1)) (read_decls (frame_in s1 f1) i decls) name outer end decls body ≡ u) n
    h1 in
    let h3 = subst (λ (f : Frame). through_read (next_routine (stand x0 s1)) (read_decls f (x0.next + 1) decls) name outer end decls
    body ≡ u) e
    h2 in
    let h4 = subst (λ i. through_read (next_routine (stand x0 s1)) (inner_frame s0 x0.next k params result m decls body) name i end decls
    body ≡ u) o h3 in
    subst (λ i. through_read (next_routine (stand x0 s1)) (inner_frame s0 x0.next k params result m decls body) name outer' i decls
    body ≡ u) d
    h4

pub cleared_by : (s0 s2 s3 s4 : Scene) (a : Outer) (from n n2 : ℕ) → s3 ≡ leave_block s2 a → a ≡ outer_of s0 → from ≡ n + 1
    → s4 ≡ record s3 { headings = clear from (n2 - from) s3.headings }
    → s4 ≡ record (leave_block s2 (outer_of s0)) { headings = clear (n + 1) (n2 - (n + 1)) s2.headings }
cleared_by s0 s2 s3 s4 a from n n2 l o f e = e ∙ rw (l, o, f) refl
