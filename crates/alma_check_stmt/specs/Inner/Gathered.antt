-- What is gathered of the blocks of a module: the least broken rule, and the routines.
use Rattle.std.specs.Prelude.{◌≡◌, ℕ, ◌+◌, ◌<◌, ◌≤◌, List, [], ◌∷◌, get_or, Option, None, Some, option_map}
use Rattle.alma_ir.specs.Tree as ir
use Rattle.alma_rules.specs.Numbered as tree
use Rattle.alma_rules.specs.Judgement.{BrokenRule, Judgement, better, least, both_of}
use Rattle.alma_rules.specs.Answers.{first}
use Rattle.alma_rules.specs.Scene.{Scene, Heading}
use Rattle.alma_rules.specs.Decls.{Frame, block_routines, decls_routines, decl_routines}
use Rattle.alma_rules.specs.Modules.{RoutineBodies, joined_routines, judge_body, judge_bodies, judge_decl, routine_at, with_shapes}
use Rattle.alma_rules.specs.Rising.{rise_decls, rise_body}

-- ---- broken rules and routines

-- a value, where no rule is broken
abbrev pub unless_broken : {A : Type 0} → Option BrokenRule → Option A → Option A
unless_broken None v = v
unless_broken (Some b) v = None

-- how far a module is judged: the least broken rule so far; the routines, where no rule is broken and none is Bad; the number of the
-- next routine; and the scene
pub record Stage : Type 0 where
  pub fault : Option BrokenRule
  pub routines : Option (List ir.Routine)
  pub next : ℕ
  pub scene : Scene

-- a stage, whose routines are told only where no rule is broken
abbrev pub stage : Option BrokenRule → Option (List ir.Routine) → (next : ℕ) → Scene → Stage
stage fault routines next s = record { fault = fault; routines = unless_broken fault routines; next = next; scene = s }

-- one more part of the module, with so many routines
abbrev pub gather : Stage → (count : ℕ) → RoutineBodies → Stage
gather t count j =
    record {
      fault = better t.fault (least j.faults);
      routines = unless_broken (better t.fault (least j.faults)) (option_map joined_routines (both_of t.routines j.value));
      next = t.next + count;
      scene = with_shapes t.scene j.shapes;
    }

-- the procedures among the declarations of a block, with those inside them
abbrev pub through_decls : Stage → tree.DeclTail → Stage
through_decls t decls = gather t (decls_routines decls) (judge_bodies t.scene t.next decls)

-- the procedure that one declaration may be, with those inside it
abbrev pub through_decl : Stage → tree.Decl → Stage
through_decl t decl = gather t (decl_routines decl) (judge_decl t.scene t.next decl)

-- a block whose declarations are read, with no rule broken in them
abbrev pub through_block : Stage → Frame → tree.Name → (outer end : ℕ) → tree.DeclTail → Option tree.Stmts → Stage
through_block t f name outer end decls body =
    gather t (decls_routines decls) (routine_at f name outer end (judge_bodies t.scene t.next decls) body (judge_body f body))

-- a stage, with a rule that may be broken behind it
abbrev pub with_fault : Stage → Option BrokenRule → Stage
with_fault t fault = record t { fault = better t.fault fault; routines = unless_broken (better t.fault fault) t.routines }

-- a stage, with the least of some rules that are broken behind it
abbrev pub with_least : Stage → List BrokenRule → Stage
with_least t faults = with_fault t (least faults)

-- a frame without its broken rules
abbrev pub quiet : Frame → Frame
quiet f = record f { faults = [] }

-- a stage behind the declarations of a block: their broken rules noted, in their scene
abbrev pub read_stage : Stage → Frame → Stage
read_stage t g = record (with_least t g.faults) { scene = g.scene }

-- a block, of its frame behind the declarations, with the rules that are broken in these
abbrev pub through_read : Stage → Frame → tree.Name → (outer end : ℕ) → tree.DeclTail → Option tree.Stmts → Stage
through_read t g name outer end decls body = through_block (read_stage t g) (quiet g) name outer end decls body

-- the next routine is begun
abbrev pub next_routine : Stage → Stage
next_routine t = record t { next = t.next + 1 }

-- ---- what holds of the numbers of a tree and of headings

-- none of so many routines from one on has a heading
abbrev pub AreEmpty : List (Option Heading) → (first count : ℕ) → Type 0
AreEmpty headings first count = (i : ℕ) → first ≤ i → i < first + count → get_or headings i None ≡ None

-- no routine inside a procedure has a heading
abbrev pub IsEmptyInside : List (Option Heading) → (r : ℕ) → tree.Decl → Type 0
IsEmptyInside headings r (tree.const_decl n xs) = Unit {0}
IsEmptyInside headings r (tree.type_decl n xs) = Unit {0}
IsEmptyInside headings r (tree.var_decl n xs) = Unit {0}
IsEmptyInside headings r (tree.procedure n name params result b end_name) = AreEmpty headings (r + 1) (block_routines b)

-- no routine inside one of the procedures has a heading
unfoldable pub AreEmptyInside : List (Option Heading) → (r : ℕ) → tree.DeclTail → Type 0
AreEmptyInside headings r tree.no_decl = Unit {0}
AreEmptyInside headings r (tree.more_decl d rest) = IsEmptyInside headings r d × AreEmptyInside headings (r + decl_routines d) rest

-- the numbers of the nodes of declarations rise
pub record AreRising (decls : tree.DeclTail) : Type 0 where
  pub low : ℕ
  pub high : ℕ
  pub rise : rise_decls decls low high

-- the numbers of the nodes of a body rise
pub record IsRisingBody (body : Option tree.Stmts) : Type 0 where
  pub low : ℕ
  pub high : ℕ
  pub rise : rise_body body low high

-- the procedures of a block may be checked: the lines are those of the source
pub record AreReady (source : List ℕ) (s : Scene) (next : ℕ) (decls : tree.DeclTail) : Type 0 where
  pub lined : source ≡ s.source
  pub empty : AreEmptyInside s.headings next decls
  pub rising : AreRising decls

-- the same of a procedure whose heading is not read yet
pub record IsReadyInside (source : List ℕ) (s : Scene) (next : ℕ) (decls : tree.DeclTail) (body : Option tree.Stmts) : Type 0 where
  pub lined : source ≡ s.source
  pub empty : AreEmpty s.headings (next + 1) (decls_routines decls)
  pub rising : AreRising decls
  pub rising_body : IsRisingBody body

-- the same of a block whose declarations are not read yet
pub record IsReady (source : List ℕ) (s : Scene) (next : ℕ) (decls : tree.DeclTail) (body : Option tree.Stmts) : Type 0 where
  pub lined : source ≡ s.source
  pub empty : AreEmpty s.headings next (decls_routines decls)
  pub rising : AreRising decls
  pub rising_body : IsRisingBody body

-- ---- the routine of a block

-- the routines of both lists, where no routine is Bad
abbrev pub joined_lists : Option (List ir.Routine) → Option (List ir.Routine) → Option (List ir.Routine)
joined_lists a b = option_map joined_routines (both_of a b)

-- a routine is added to others, where no rule is broken in its body, and that is not Bad
pub record Adds (j : Judgement ir.Stmts) (routine : ℕ → ir.Stmts → ir.Routine) (fault : Option BrokenRule)
    (before after : Option (List ir.Routine)) : Type 0 where
  pub broken : fault ≡ first j.faults
  pub added : unless_broken fault after ≡ unless_broken fault (joined_lists before (option_map (λ b. routine j.next b ∷ []) j.value))
