use Rattle.std.proofs.Common.{map, length}
use Rattle.alma_scan.specs.Scanned.{lexemes}
use Rattle.alma_ir.specs.View.{routine_of, global_of}
use Rattle.alma_rules.specs.View.{view_module}
use Rattle.alma_rules.proofs.Bridge.{numbered_rises}
use Rattle.alma_check_stmt.proofs.Judging.{resolved_checked, never_bad}
use Rattle.alma_check_stmt.proofs.module.check.Goals as goal

pub judge_whole-requires-clause-rising : goal.judge_whole-requires-clause-rising
judge_whole-requires-clause-rising c = numbered_rises c.args.module.now _ c.requires.tree.numbered

pub returns-in-Ok-clause-checked : goal.returns-in-Ok-clause-checked
returns-in-Ok-clause-checked c =
    resolved_checked c.args.source.now (lexemes c.args.tokens.now) (view_module c.args.module.now) c.finish.result
    (c.finish.ensures c.args.source.now (lexemes c.args.tokens.now) c.in-Ok.ensures)
    (λ p e. c.a_resolved_program_of_a_short_source_is_checked.ensures c.args.source.now (lexemes c.args.tokens.now) c.args.module.now p
    c.requires.short c.requires.tree e)

pub finish-requires : goal.finish-requires
finish-requires c =
    let w = c.in-Ok.whole in
    record {
      fine = never_bad c.args.source.now (lexemes c.args.tokens.now) (view_module c.args.module.now) w.checked.fault w.checked.is_bad
          (map routine_of w.checked.routines.items) w.name.items (map global_of w.globals.items)
          c.in-Ok.ensures (c.unbroken_trees_have_a_program.ensures c.args.source.now (lexemes c.args.tokens.now)
          (view_module c.args.module.now)
          (c.trees_of_the_parser_stand_so.ensures c.args.module.now (length (lexemes c.args.tokens.now)) c.requires.tree.numbered));
    }
