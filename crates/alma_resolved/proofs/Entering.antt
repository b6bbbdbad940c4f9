-- The scene of a procedure's block: what the scene round it keeps, and the procedures and parameters of its own.
use Rattle.std.proofs.Common.{◌≡◌, inl, inr, ℕ, zero, suc, ◌+◌, ◌-◌, ◌<◌, ◌≤◌, List, [], ◌∷◌, ◌++◌, get_or, Option, None, Some, refl, sym}
use Rattle.std.proofs.Common.{ap, ◌∙◌, subst, arith, append-nil, length-append}
use Rattle.std.specs.Prelude.{sum_by, replicate}
use Rattle.alma_base.specs.declared.fault.CheckFault.{CheckFault}
use Rattle.alma_scan.specs.Tokens.{Lexeme}
use Rattle.alma_names.specs.declared.block.Access.{Access}
use Rattle.alma_names.specs.declared.block.Access.TheVariants as access
use Rattle.alma_names.specs.declared.block.Entry.{Entry}
use Rattle.alma_names.specs.declared.block.Entry.TheVariants as entry
use Rattle.alma_names.specs.Shapes.{cells_at}
use Rattle.alma_names.specs.Scopes.{with_new_block}
use Rattle.alma_ir.specs.Tree.{routine_at}
use Rattle.alma_ir.specs.Checked.{HoldPlace, AreLaidOut, param_slots, outer_at}
use Rattle.alma_rules.specs.Numbered as tree
use Rattle.alma_rules.specs.Scene.{Scene, Heading, Returns, nothing, a_value}
use Rattle.alma_rules.specs.Types.{read_type_name}
use Rattle.alma_rules.specs.Decls.{Frame, with_block, with_routine, with_routines, with_texts, block_routines, decl_routines, decls_names}
use Rattle.alma_rules.specs.Decls.{formal_names, formals_of, read_formals, too_deep, heading_at, with_depth, read_heading}
use Rattle.alma_rules.specs.Modules.{frame_of, first_scene}
use Rattle.alma_resolved.specs.Fits.{Place, InFrame}
use Rattle.alma_resolved.proofs.Lookups.{AllFrom, each_follows_from, each_new_block}
use Rattle.alma_resolved.proofs.HeadsSound.{first_frame}
use Rattle.alma_resolved.proofs.DeclsSound.{IsProcHere, IsProc, IsProcIn}
use Rattle.alma_resolved.proofs.Slots.{head_laid}
use Rattle.alma_resolved.proofs.Tables.{first_keeps}
use Rattle.alma_resolved.proofs.Entries.{owner, AccessKeeps, RoutineKeeps, EntryKeeps, SceneKeeps, keeps_declared}
use Rattle.alma_resolved.proofs.FramesKeep.{FrameKeeps}
use Rattle.alma_resolved.proofs.HeadsKeep.{head_params}
use Rattle.alma_resolved.proofs.ParamsKeep.{AllLaid, Paired, formals_keep}

-- the place of a routine inside another
abbrev pub inner : Place → ℕ → Place
inner k r = record { program = k.program; number = r; ends = k.ends }

owner_inner : (k : Place) (c n r : ℕ) → (routine_at k.program r).outer ≡ k.number → n ≤ suc c → owner (inner k r) (suc c) n ≡ owner k c n
owner_inner k c n r outer le =
    let more : suc (suc c) - n ≡ suc (suc c - n) = omega (arith, le) in
    ap (λ m. outer_at k.program r m) more ∙ ap (λ q. outer_at k.program q (suc c - n)) outer

access_inner : (k : Place) (c n r m : ℕ) (a : Access) → (routine_at k.program r).outer ≡ k.number → n ≤ suc c → AccessKeeps k c n m a
    → AccessKeeps (inner k r) (suc c) n m a
access_inner k c n r m (access.Local slot) outer le h = (h.0, subst (λ q. InFrame k q slot m) (sym (owner_inner k c n r outer le)) h.1)
access_inner k c n r m (access.Global slot) outer le h = h
access_inner k c n r m (access.Param slot) outer le h =
    (h.0, subst (λ q. HoldPlace (routine_at k.program q).params slot m) (sym (owner_inner k c n r outer le)) h.1)

entry_inner : (k : Place) (c r : ℕ) (s : Scene) → (routine_at k.program r).outer ≡ k.number → (n : ℕ) (e : Entry)
    → EntryKeeps k c s.shapes n e → EntryKeeps (inner k r) (suc c) s.shapes n e
entry_inner k c r s outer n (entry.Constant shape v) h = h
entry_inner k c r s outer n (entry.Named shape) h = h
entry_inner k c r s outer n (entry.Variable shape a) h =
    (h.0, omega (arith, h.1), access_inner k c n r (cells_at s.shapes shape.0) a outer h.1 h.2)
entry_inner k c r s outer n (entry.Routine q) h = (
  omega (arith, h.0),
  record {
    some = h.1.some;
    exists = h.1.exists;
    outer = h.1.outer ∙ sym (owner_inner k c n r outer h.0);
    level =
        h.1.level;
  },
)
entry_inner k c r s outer n entry.Bad h = tt

-- a new block in it
new_block : (k : Place) (c r : ℕ) (s : Scene) (names : List (List ℕ × ℕ)) (returns : Returns) → (routine_at k.program r).outer ≡ k.number
    → SceneKeeps k c s
    → SceneKeeps (inner k r) (suc c) (record s { blocks = with_new_block s.blocks; declares = names; routine = r; returns = returns })
new_block k c r s names returns outer h = record {
  table = h.table;
  deep = omega (arith, length-append s.blocks.below (s.blocks.top ∷ []), h.deep);
  entries = each_new_block (EntryKeeps (inner k r) (suc c) s.shapes) 0 s.blocks.below s.blocks.top
      (each_follows_from (EntryKeeps k c s.shapes) (EntryKeeps (inner k r) (suc c) s.shapes) (entry_inner k c r s outer) 0 s.blocks.below
      s.blocks.top h.entries);
  heads = h.heads;
}

routines_keep : (k : Place) (c : ℕ) (s : Scene) (r : ℕ) (x : tree.DeclTail) → SceneKeeps k c s
    → ((q : ℕ) → IsProc r x q → RoutineKeeps k c (suc c) q) → SceneKeeps k c (with_routines s r x)
unfolding IsProc
routines_keep k c s r tree.no_decl h f = h
routines_keep k c s r (tree.more_decl d rest) h f =
    routines_keep k c (with_routine s r d) (r + decl_routines d) rest (by d (λ q i. f q (inl i))) (λ q i. f q (inr i))
  where
    by : (d : tree.Decl) → ((q : ℕ) → IsProcHere r d q → RoutineKeeps k c (suc c) q) → SceneKeeps k c (with_routine s r d)
    by (tree.const_decl n xs) f = h
    by (tree.type_decl n xs) f = h
    by (tree.var_decl n xs) f = h
    by (tree.procedure n name params result b end_name) f = keeps_declared name 0 (entry.Routine r) h (omega arith, f r refl)

block_scene : (k : Place) (c r : ℕ) (s : Scene) (returns : Returns) (names : List tree.Name) (b : tree.Block)
    → (routine_at k.program r).outer ≡ k.number → SceneKeeps k c s
    → ((q : ℕ) → IsProcIn (r + 1) b q → RoutineKeeps (inner k r) (suc c) (suc (suc c)) q)
    → SceneKeeps (inner k r) (suc c) (with_block s r returns names b)
block_scene k c r s returns names (tree.block n ds body) outer h f =
    routines_keep (inner k r) (suc c) _ (r + 1) ds (new_block k c r s (with_texts s (names ++ decls_names ds)) returns outer h) f

-- what RETURN gives is left aside
returns_keep : {k : Place} {c : ℕ} {s : Scene} (r : Returns) → SceneKeeps k c s → SceneKeeps k c (record s { returns = r })
returns_keep r h = record { table = h.table; deep = h.deep; entries = h.entries; heads = h.heads }

headed_scene : (k : Place) (c : ℕ) (f : Frame) (o : Option tree.Name) → SceneKeeps k c f.scene → SceneKeeps k c (heading_at f o).frame.scene
headed_scene k c f None h = returns_keep nothing h
headed_scene k c f (Some name) h = returns_keep (a_value (read_type_name f.scene name).value) h

-- the scene of a heading, with its parameters
pub head_scene : (k : Place) (c r n : ℕ) (s : Scene) (params : Option tree.Params) (result : Option tree.Name) (b : tree.Block)
    → (routine_at k.program r).outer ≡ k.number → SceneKeeps k c s
    → ((q : ℕ) → IsProcIn (r + 1) b q → RoutineKeeps (inner k r) (suc c) (suc (suc c)) q) → AllLaid (inner k r)
    → Paired (read_formals (first_frame s r params b) (formals_of params))
    → (routine_at k.program r).params ≡ (read_heading s r n params result b).frame.params
    → SceneKeeps (inner k r) (suc c) (read_heading s r n params result b).frame.scene
head_scene k c r n s params result b outer h f laid paired same =
    by (too_deep s) (headed_scene (inner k r) (suc c) (read_formals (first_frame s r params b) (formals_of params)) result
    (formals_keep (inner k r) (suc c) (first_frame s r params b) (formals_of params) laid (omega arith)
    (block_scene k c r s nothing (formal_names (formals_of params)) b outer h f) (omega arith) paired
    (record {
      back = [];
      is = same ∙ (head_params s r n params result b
          ∙ sym (append-nil (read_formals (first_frame s r params b) (formals_of params)).params));
    })))
  where
    by : (d : List CheckFault) → SceneKeeps (inner k r) (suc c)
        (heading_at (read_formals (first_frame s r params b) (formals_of params)) result).frame.scene
        → SceneKeeps (inner k r) (suc c) (with_depth d n
        (heading_at (read_formals (first_frame s r params b) (formals_of params)) result)).frame.scene
    by [] h = h
    by (x ∷ xs) h = h

-- and its frame, whose slots end below this one
pub head_frame : (k : Place) (c r n : ℕ) (s : Scene) (params : Option tree.Params) (result : Option tree.Name) (b : tree.Block)
    → (routine_at k.program r).outer ≡ k.number → SceneKeeps k c s
    → ((q : ℕ) → IsProcIn (r + 1) b q → RoutineKeeps (inner k r) (suc c) (suc (suc c)) q)
    → Paired (read_formals (first_frame s r params b) (formals_of params))
    → (routine_at k.program r).params ≡ (read_heading s r n params result b).frame.params → AreLaidOut 0 (routine_at k.program r).params
    → 0 < r → (read_heading s r n params result b).frame.slots ≤ k.ends r
    → FrameKeeps (inner k r) (suc c) (frame_of (read_heading s r n params result b))
head_frame k c r n s params result b outer h f paired same laid up le =
    let own = head_laid s r n params result b in
    let sum : sum_by param_slots (routine_at k.program r).params ≡ (read_heading s r n params result b).frame.slots =
    ap (λ qs. sum_by param_slots qs) same ∙ own.sum in
    let scene = head_scene k c r n s params result b outer h f (record { laid = laid; within = omega (arith, sum, le) }) paired same in
    record {
      scene = record { table = scene.table; deep = scene.deep; entries = scene.entries; heads = scene.heads };
      laid = laid;
      params = omega (arith, sum);
      position = λ e. absurd (omega (arith, e, up));
      number = λ e. absurd (omega (arith, e));
    }

-- ---- the module

no_heading : (n q : ℕ) (h : Heading) → get_or (replicate n None) q None ≡ Some h → ⊥
no_heading n q h e = by n q e
  where
    by : (n q : ℕ) → get_or (replicate n None) q None ≡ Some h → ⊥
    by zero q e = absurd (cc)
    by (suc n) zero e = absurd (cc)
    by (suc n) (suc q) e = by n q e

module_new : (k : Place) (source : List ℕ) (tokens : List Lexeme) (m : tree.Module) (names : List (List ℕ × ℕ))
    → SceneKeeps k 0 (record (first_scene source tokens m)
    { blocks = with_new_block (first_scene source tokens m).blocks; declares = names; routine = 0; returns = nothing })
unfolding AllFrom
module_new k source tokens m names = record {
  table = first_keeps;
  deep = refl;
  entries = ((omega arith, (omega arith, (omega arith, (refl, (refl, tt))))), tt);
  heads = λ q h e. absurd (no_heading (1 + block_routines m.block) q h e);
}

pub module_scene : (k : Place) (source : List ℕ) (tokens : List Lexeme) (m : tree.Module) (b : tree.Block)
    → ((q : ℕ) → IsProcIn 1 b q → RoutineKeeps k 0 1 q)
    → SceneKeeps k 0 (with_block (first_scene source tokens m) 0 nothing [] b)
module_scene k source tokens m (tree.block n ds body) f =
    let one : 0 + 1 ≡ 1 = omega arith in
    routines_keep k 0 _ (0 + 1) ds (module_new k source tokens m (with_texts (first_scene source tokens m) (decls_names ds)))
    (λ q i. f q (subst (λ j. IsProc j ds q) one i))
