-- What the code's frame of a routine shows of the frame that the rules speak of.
use Rattle.std.specs.Global.{Global}
use Rattle.std.specs.HashMap.{HashMap}
use Rattle.std.specs.Prelude.{◌≡◌, ℕ, List, Option, option_map, map, Result, OnOk, Vec}
use Rattle.alma_base.specs.declared.fault.NoMemory.{NoMemory}
use Rattle.alma_base.specs.Choice.{if_true}
use Rattle.alma_tree.specs.declared.leaf.Mode.{Mode}
use Rattle.alma_ir.specs.declared.program.Param.{Param}
use Rattle.alma_ir.specs.Tree as ir
use Rattle.alma_ir.specs.View.{global_of}
use Rattle.alma_rules.specs.Numbered as tree
use Rattle.alma_rules.specs.Judgement.{BrokenRule, broken_at}
use Rattle.alma_rules.specs.Scene.{Scene, FormalOf, is_first, is_structured}
use Rattle.alma_rules.specs.Answers.{first}
use Rattle.alma_rules.specs.Types.{redeclaration_rules}
use Rattle.alma_rules.specs.Decls as rules
use Rattle.alma_check_rules.specs.declared.env.Formal.{Formal}
use Rattle.alma_check_rules.specs.Views.{declares_view, formal_view}
use Rattle.alma_check_type.specs.Told.{fault_of}
use Rattle.alma_check_block.specs.declared.frame.Frame.{Frame}

-- formals in their order, each None where its type is Bad
abbrev pub formals_view : List (Option Formal) → List (Option FormalOf)
formals_view xs = map (λ o. option_map formal_view o) xs

-- all formals, or None where the type of one is Bad
abbrev pub formals_in : Option (Vec Formal Global) → Option (List FormalOf)
formals_in v = option_map (λ x. map formal_view x.items) v

-- what is told of a frame: its first broken rule, and all the rest of it
pub record ToldFrame : Type 0 where
  pub fault : Option BrokenRule
  pub scene : Scene
  pub slots : ℕ
  pub declared : ℕ
  pub params : List Param
  pub formals : List (Option FormalOf)
  pub variables : List ir.Global

-- what is told of a frame of the rules
abbrev pub told_frame : rules.Frame → ToldFrame
told_frame f = record {
  fault = first f.faults;
  scene = f.scene;
  slots = f.slots;
  declared = f.declared;
  params = f.params;
  formals = f.formals;
  variables = f.variables;
}

-- the code's frame, with the scene of its reader
abbrev pub frame_with_scene : Scene → Frame → ToldFrame
frame_with_scene s x = record {
  fault = fault_of x.fault;
  scene = s;
  slots = x.slots;
  declared = x.declared;
  params = x.params.items;
  formals = formals_view x.formals.items;
  variables = map global_of x.variables.items;
}

-- at Ok the code's frame has gone from what tells of f to what tells of go f, for each frame f of the rules
abbrev pub Follows : {T : Type 0} → (before : Scene) → (old : Frame) → (behind : Scene) → (new : Frame) → Result T NoMemory
    → (go : rules.Frame → rules.Frame) → Type 0
Follows before old behind new result go =
    (f : rules.Frame) → frame_with_scene before old ≡ told_frame f → OnOk result (frame_with_scene behind new ≡ told_frame (go f))

-- at Ok the names of a block, each once with the token of its first declaration, have got these
abbrev pub Collects : {S : Type 0} → Result (Unit {0}) NoMemory → Scene → (old new : HashMap (Vec ℕ Global) ℕ S) → List tree.Name → Type 0
Collects result s old new names = OnOk result (declares_view new ≡ rules.texts_behind s (declares_view old) names)

-- a parameter whose type is not Bad, apart from its formal
abbrev pub param_shaped : rules.Frame → (from : ℕ) → Option Mode → (shape : ℕ) → tree.Name → rules.Frame
param_shaped f from mode shape name = if_true (is_first f.scene name)
    (λ _. rules.within_limit name f (rules.with_param f name from mode shape (rules.param_kind (is_structured f.scene shape) mode)))
    (λ _. rules.with_faults f (broken_at name.node (redeclaration_rules f.scene name)))
