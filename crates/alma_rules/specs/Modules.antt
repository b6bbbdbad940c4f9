-- Blocks, procedures and the module: all declarations are read before the bodies of procedures. On top stand the broken rules
-- and the resolved program of a tree.
use Rattle.std.specs.Prelude.{ℕ, ◌+◌, ◌-◌, false, not, List, [], ◌∷◌, ◌++◌, map, replicate, bytes_eq, Option, None, Some, option_map}
use Rattle.alma_base.specs.declared.fault.CheckFault.{CheckFault}
use Rattle.alma_base.specs.declared.fault.CheckFault.TheVariants as fault
use Rattle.alma_base.specs.declared.number.Range.{Range}
use Rattle.alma_scan.specs.Tokens.{Lexeme}
use Rattle.alma_names.specs.Shapes.{PlainShape, first_shapes}
use Rattle.alma_names.specs.Scopes.{first_blocks}
use Rattle.alma_ir.specs.Tree as ir
use Rattle.alma_rules.specs.Numbered as tree
use Rattle.alma_rules.specs.Judgement.{if_unbroken, BrokenRule, Judgement, broken_at, fine, both_of, after, when, least}
use Rattle.alma_rules.specs.Scene.{Scene, Returns, nothing, a_value, text_at, range, line_of, level}
use Rattle.alma_rules.specs.Walk.{judge_stmts}
use Rattle.alma_rules.specs.Places.{width, stmt_tokens, node_token, mark_stmts, mark_module}
use Rattle.alma_rules.specs.Decls.{Frame, FramedHeading, read_heading, read_decls, new_frame, with_block, decl_routines, block_routines}

-- ---- routines

-- the lines of the statements of a body that begins at a token
abbrev pub lines_of : Scene → (at : ℕ) → tree.Stmts → List ℕ
lines_of s at body = map (line_of s) (stmt_tokens (mark_stmts body at).marks)

-- a body in front of an END
abbrev pub body_lines : Scene → (end : ℕ) → Option tree.Stmts → List ℕ
body_lines s end None = []
body_lines s end (Some body) = lines_of s (end - width (mark_stmts body)) body

-- the statements of a block
abbrev pub judge_body : Frame → Option tree.Stmts → Judgement ir.Stmts
judge_body f None = fine f.slots ir.no_stmts
judge_body f (Some body) = judge_stmts f.scene f.slots body

-- the range of what a routine returns, if it returns a value
abbrev pub result_in : Scene → Returns → Option Range
result_in s nothing = None
result_in s (a_value shape) = option_map (range s) shape

-- a routine with its name and the number of the routine round it; the slots behind those of its frame are hidden
abbrev pub routine_of : Frame → tree.Name → (outer : ℕ) → (slots : ℕ) → List ℕ → ir.Stmts → ir.Routine
routine_of f name outer slots lines body =
    record {
      name = text_at f.scene name.token;
      params = f.params;
      result = result_in f.scene f.scene.returns;
      declared = f.declared;
      slots = slots;
      body = body;
      level = level f.scene;
      outer = outer;
      line = line_of f.scene (name.token - 1);
      lines = lines;
    }

-- a routine and those inside it
abbrev pub cons_routine : Frame → tree.Name → (outer slots : ℕ) → List ℕ → List ir.Routine × ir.Stmts → List ir.Routine
cons_routine f name outer slots lines p = routine_of f name outer slots lines p.1 ∷ p.0

-- routines, and others behind them
abbrev pub joined_routines : List ir.Routine × List ir.Routine → List ir.Routine
joined_routines p = p.0 ++ p.1

-- what is judged of routines, and the shapes of all types so far
pub record RoutineBodies : Type 0 where
  pub faults : List BrokenRule
  pub shapes : List PlainShape
  pub value : Option (List ir.Routine)

-- what is judged where there is no routine
abbrev pub no_routines : List PlainShape → RoutineBodies
no_routines shapes = record { faults = []; shapes = shapes; value = Some [] }

-- the routine of a block: the rules broken in its declarations, in the procedures inside, and in its body
abbrev pub routine_at : Frame → tree.Name → (outer end : ℕ) → RoutineBodies → Option tree.Stmts → Judgement ir.Stmts → RoutineBodies
routine_at f name outer end inner body j =
    record {
      faults = f.faults ++ inner.faults ++ j.faults;
      shapes = inner.shapes;
      value = option_map (cons_routine f name outer j.next (body_lines f.scene end body)) (both_of inner.value j.value);
    }

-- the routines of one declaration and of those behind it
abbrev pub bodied_both : RoutineBodies → RoutineBodies → RoutineBodies
bodied_both a b = record { faults = a.faults ++ b.faults; shapes = b.shapes; value = option_map joined_routines (both_of a.value b.value) }

-- NameMismatch: the Name after END that differs from its heading's
abbrev pub end_rules : Scene → tree.Name → tree.Name → List CheckFault
end_rules s name end_name = when (not (bytes_eq (text_at s name.token) (text_at s end_name.token))) fault.NameMismatch

-- what is judged, with the rules on the Name after END
abbrev pub with_end : Scene → tree.Name → tree.Name → RoutineBodies → RoutineBodies
with_end s name end_name j =
    record { faults = j.faults ++ broken_at end_name.node (end_rules s name end_name); shapes = j.shapes; value = j.value }

-- the frame of a body: the rules broken in its heading are those of the block round it
abbrev pub frame_of : FramedHeading → Frame
frame_of h = record h.frame { faults = [] }

-- the scene with these shapes
abbrev pub with_shapes : Scene → List PlainShape → Scene
with_shapes s shapes = record s { shapes = shapes }

-- ---- the walk

unfoldable mutual
  -- the block of a routine, whose frame has the parameters: the routine and those inside it; the first of these has number r
  pub judge_block : Frame → (r : ℕ) → tree.Name → (outer end : ℕ) → tree.Block → RoutineBodies
  judge_block f r name outer end (tree.block n decls body) =
      after (read_decls f r decls) (λ g. routine_at g name outer end (judge_bodies g.scene r decls) body (judge_body g body))

  -- the procedures of a block, in the scene of all its declarations
  pub judge_bodies : Scene → (r : ℕ) → tree.DeclTail → RoutineBodies
  judge_bodies s r tree.no_decl = no_routines s.shapes
  judge_bodies s r (tree.more_decl d rest) =
      after (judge_decl s r d) (λ j. bodied_both j (judge_bodies (with_shapes s j.shapes) (r + decl_routines d) rest))

  -- one declaration: of a procedure its block, and the Name after its END
  pub judge_decl : Scene → (r : ℕ) → tree.Decl → RoutineBodies
  judge_decl s r (tree.const_decl n xs) = no_routines s.shapes
  judge_decl s r (tree.type_decl n xs) = no_routines s.shapes
  judge_decl s r (tree.var_decl n xs) = no_routines s.shapes
  judge_decl s r (tree.procedure n name params result b end_name) =
      with_end s name end_name (judge_block (frame_of (read_heading s r n params result b)) (r + 1) name s.routine (end_name.token - 1) b)

-- ---- the module

-- where nothing is declared but the names that are declared outside the module
abbrev pub first_scene : List ℕ → List Lexeme → tree.Module → Scene
first_scene source tokens m =
    record {
      source = source;
      tokens = tokens;
      shapes = first_shapes;
      blocks = first_blocks;
      headings = replicate (1 + block_routines m.block) None;
      declares = [];
      routine = 0;
      returns = nothing;
      constant = false;
      inside = false;
    }

-- slot 0 of the module's body is the input position
abbrev pub module_frame : List ℕ → List Lexeme → tree.Module → Frame
module_frame source tokens m = new_frame (with_block (first_scene source tokens m) 0 nothing [] m.block) 1

-- what is judged of the module
abbrev pub judge_module : List ℕ → List Lexeme → tree.Module → RoutineBodies
judge_module source tokens m =
    with_end (first_scene source tokens m) m.name m.end_name
    (judge_block (module_frame source tokens m) 1 m.name 0 (m.end_name.token - 1) m.block)

-- the variables of the module, in order of declaration
abbrev pub block_variables : Frame → (r : ℕ) → tree.Block → List ir.Global
block_variables f r (tree.block n decls body) = (read_decls f r decls).variables

-- the program of a module with these routines
abbrev pub program_of : List ℕ → List Lexeme → tree.Module → List ir.Routine → ir.Program
program_of source tokens m routines =
    record {
      name = text_at (first_scene source tokens m) m.name.token;
      globals = block_variables (module_frame source tokens m) 1 m.block;
      routines = routines;
    }

-- ---- what is broken in a tree with its tokens, and what is resolved

-- the rules that are broken, each at its node
abbrev pub broken_rules : List ℕ → List Lexeme → tree.Module → List BrokenRule
broken_rules source tokens m = (judge_module source tokens m).faults

-- the resolved program, which is there where no rule is broken
abbrev pub resolved_in : List ℕ → List Lexeme → tree.Module → RoutineBodies → Option ir.Program
resolved_in source tokens m j = if_unbroken j.faults (option_map (program_of source tokens m) j.value)

-- the resolved program of a tree, where no rule is broken in it
abbrev pub resolution : List ℕ → List Lexeme → tree.Module → Option ir.Program
resolution source tokens m = resolved_in source tokens m (judge_module source tokens m)

-- the first token of a node
abbrev pub first_token_of : tree.Module → ℕ → ℕ
first_token_of m n = node_token n (mark_module m 0).marks

-- the check fault: the least of the broken rules
abbrev pub check_fault : List ℕ → List Lexeme → tree.Module → Option BrokenRule
check_fault source tokens m = least (broken_rules source tokens m)
