use Rattle.std.proofs.Common.{map}
use Rattle.alma_ir.specs.View.{routine_of, global_of}
use Rattle.alma_rules.specs.View.{view_module}
use Rattle.alma_check_stmt.proofs.Judging.{fine_judged}
use Rattle.alma_check_stmt.proofs.Wholes.{unbroken_resolves}
use Rattle.alma_check_stmt.proofs.module.finish.Goals as goal

pub returns : goal.returns
returns c = λ source tokens j.
    let w = c.args.whole in
    let u = unbroken_resolves source tokens (view_module c.args.module.now) (map routine_of w.checked.routines.items) w.name.items
    (map global_of w.globals.items)
    (fine_judged source tokens (view_module c.args.module.now) w.checked.fault w.checked.is_bad (map routine_of w.checked.routines.items)
    w.name.items (map global_of w.globals.items) c.in_default.is (c.requires.fine c.in_default.is) j) in
    (u.quiet, u.is)
