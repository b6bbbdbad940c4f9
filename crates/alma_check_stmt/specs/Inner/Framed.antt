-- What the frame of a block and a routine without its body stand for.
use Rattle.std.specs.Prelude.{◌≡◌, ℕ, ◌-◌, List, [], map}
use Rattle.alma_ir.specs.View.{global_of}
use Rattle.alma_rules.specs.Numbered as tree
use Rattle.alma_rules.specs.Modules.{result_in}
use Rattle.alma_rules.specs.Scene.{Scene, text_at, level, line_of}
use Rattle.alma_rules.specs.Decls.{Frame}
use Rattle.alma_check_block.specs.Shown.{formals_view}
use Rattle.alma_check_block.specs.declared.frame.Frame.{Frame as CodeFrame}
use Rattle.alma_check_stmt.specs.declared.body.Outline.{Outline}

-- a frame in which no rule is broken, with the scene of its reader
abbrev pub frame_in : Scene → CodeFrame → Frame
frame_in s x =
    record {
      faults = [];
      scene = s;
      slots = x.slots;
      declared = x.declared;
      params = x.params.items;
      formals = formals_view x.formals.items;
      variables = map global_of x.variables.items;
    }

-- what a routine is but for its body
pub record IsOutline (o : Outline) (f : Frame) (name : tree.Name) (outer : ℕ) (lines : List ℕ) : Type 0 where
  pub name_is : o.name.items ≡ text_at f.scene name.token
  pub params_are : o.params.items ≡ f.params
  pub result_is : o.result ≡ result_in f.scene f.scene.returns
  pub declared_are : o.declared ≡ f.declared
  pub level_is : o.level ≡ level f.scene
  pub outer_is : o.outer ≡ outer
  pub line_is : o.line ≡ line_of f.scene (name.token - 1)
  pub lines_are : o.lines.items ≡ lines
