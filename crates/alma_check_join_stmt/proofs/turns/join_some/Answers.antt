use Rattle.std.proofs.Common.{Option, Some, sym, ap, ◌∙◌}
use Rattle.std.specs.Prelude.{pos, option_and_then}
use Rattle.alma_ir.specs.Tree as ir
use Rattle.alma_rules.specs.Judgement.{fine, of_value, both, at_node, with}
use Rattle.alma_rules.specs.Parts as parts
use Rattle.alma_rules.specs.StmtRules as stmt_rules
use Rattle.alma_rules.specs.Nodes as nodes
use Rattle.alma_check_rules.specs.Views.{scene_of, somewhere, typing_in, located_in, stmts_of}
use Rattle.alma_rules.proofs.Judging.{stops_more, passed, no_memory, answers_as, node_stops, node_fine, both_fine, with_fine}
use Rattle.alma_check_join_stmt.proofs.turns.join_some.Goals as goal

pub returns-in_err-body : goal.returns-in_err-body
returns-in_err-body c = λ j n a0 b0 m a. passed _ stmts_of m _ _ c.from_residual.ensures.1
    (stops_more j.faults _ _ (rw c.in_err-body.was at a))

pub returns-in_err-pass_loop : goal.returns-in_err-pass_loop
returns-in_err-pass_loop c = λ j n a0 b0 m a. answers_as _ _ stmts_of m _
    (ap (λ (v : Option parts.Location). (nodes.one
    (with ir.SomeOf (nodes.loop_at (scene_of c.args.env.now somewhere) c.args.counter c.args.node (of_value n v)
    (of_value a0 (typing_in c.args.bounds.low)) (of_value b0 (typing_in c.args.bounds.high)) (fine b0 (pos 1)) j))))
    (sym (c.as_located-variable.ensures ∙ ap (option_and_then parts.located_in) c.denoted.ensures)))
    (passed _ stmts_of m _ _ c.from_residual-in_err-pass_loop.ensures.1
    (node_stops c.args.node (stmt_rules.loop_rules (scene_of c.args.env.now somewhere) (located_in c.as_located-variable.result)
    (typing_in c.args.bounds.low) (typing_in c.args.bounds.high))
    (both (of_value n (located_in c.as_located-variable.result))
    (both (of_value a0 (typing_in c.args.bounds.low)) (both (of_value b0 (typing_in c.args.bounds.high)) (both (fine b0 (pos 1)) j)))) _ m _
    (both_fine n m (located_in c.as_located-variable.result)
    (both (of_value a0 (typing_in c.args.bounds.low)) (both (of_value b0 (typing_in c.args.bounds.high)) (both (fine b0 (pos 1)) j))) _
    (both_fine a0 m (typing_in c.args.bounds.low) (both (of_value b0 (typing_in c.args.bounds.high)) (both (fine b0 (pos 1)) j)) _
    (both_fine b0 m (typing_in c.args.bounds.high) (both (fine b0 (pos 1)) j) _
    (both_fine b0 m (Some (pos 1)) j _ (rw c.in_ok-body.was at a))))) c.in_err-pass_loop.ensures))

pub returns-in_err-looped : goal.returns-in_err-looped
returns-in_err-looped c = λ j n a0 b0 m a. no_memory _ stmts_of m _ c.from_residual-in_err-looped.ensures.1

pub returns-in_err-whole : goal.returns-in_err-whole
returns-in_err-whole c = λ j n a0 b0 m a. no_memory _ stmts_of m _ c.from_residual-in_err-whole.ensures.1

pub returns : goal.returns
returns c = λ j n a0 b0 m a. (ap
    (λ (v : Option parts.Location). (nodes.one
    (with ir.SomeOf (nodes.loop_at (scene_of c.args.env.now somewhere) c.args.counter c.args.node (of_value n v)
    (of_value a0 (typing_in c.args.bounds.low)) (of_value b0 (typing_in c.args.bounds.high)) (fine b0 (pos 1)) j))))
    (sym (c.as_located-variable.ensures ∙ ap (option_and_then parts.located_in) c.denoted.ensures)))
    ∙ (with_fine parts.one_stmt (with ir.SomeOf
    (with (nodes.loop_of (scene_of c.args.env.now somewhere) c.args.counter)
    (at_node c.args.node (stmt_rules.loop_rules (scene_of c.args.env.now somewhere) (located_in c.as_located-variable.result)
    (typing_in c.args.bounds.low) (typing_in c.args.bounds.high))
    (both (of_value n (located_in c.as_located-variable.result))
    (both (of_value a0 (typing_in c.args.bounds.low)) (both (of_value b0 (typing_in c.args.bounds.high)) (both (fine b0 (pos 1)) j))))))) m
    _ (with_fine ir.SomeOf (with (nodes.loop_of (scene_of c.args.env.now somewhere) c.args.counter)
    (at_node c.args.node (stmt_rules.loop_rules (scene_of c.args.env.now somewhere) (located_in c.as_located-variable.result)
    (typing_in c.args.bounds.low) (typing_in c.args.bounds.high))
    (both (of_value n (located_in c.as_located-variable.result))
    (both (of_value a0 (typing_in c.args.bounds.low)) (both (of_value b0 (typing_in c.args.bounds.high)) (both (fine b0 (pos 1)) j)))))) m _
    (with_fine (nodes.loop_of (scene_of c.args.env.now somewhere) c.args.counter)
    (at_node c.args.node (stmt_rules.loop_rules (scene_of c.args.env.now somewhere) (located_in c.as_located-variable.result)
    (typing_in c.args.bounds.low) (typing_in c.args.bounds.high))
    (both (of_value n (located_in c.as_located-variable.result))
    (both (of_value a0 (typing_in c.args.bounds.low)) (both (of_value b0 (typing_in c.args.bounds.high)) (both (fine b0 (pos 1)) j))))) m _
    (node_fine c.args.node (stmt_rules.loop_rules (scene_of c.args.env.now somewhere) (located_in c.as_located-variable.result)
    (typing_in c.args.bounds.low) (typing_in c.args.bounds.high))
    (both (of_value n (located_in c.as_located-variable.result))
    (both (of_value a0 (typing_in c.args.bounds.low)) (both (of_value b0 (typing_in c.args.bounds.high)) (both (fine b0 (pos 1)) j)))) m _
    (both_fine n m (located_in c.as_located-variable.result)
    (both (of_value a0 (typing_in c.args.bounds.low)) (both (of_value b0 (typing_in c.args.bounds.high)) (both (fine b0 (pos 1)) j))) _
    (both_fine a0 m (typing_in c.args.bounds.low) (both (of_value b0 (typing_in c.args.bounds.high)) (both (fine b0 (pos 1)) j)) _
    (both_fine b0 m (typing_in c.args.bounds.high) (both (fine b0 (pos 1)) j) _
    (both_fine b0 m (Some (pos 1)) j _ (rw c.in_ok-body.was at a))))) c.in_ok-pass_loop.ensures)
    ∙ ap (of_value m) (sym c.in_ok-looped.ensures))) ∙ ap (of_value m) (sym c.in_ok-whole.ensures))
