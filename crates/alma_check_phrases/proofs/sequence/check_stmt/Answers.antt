use Rattle.std.proofs.Common.{sym, ap}
use Rattle.alma_rules.specs.View as view
use Rattle.alma_rules.specs.Judgement.{of_value}
use Rattle.alma_check_rules.specs.Views.{scene_of}
use Rattle.alma_rules.proofs.Rows as rows
use Rattle.alma_rules.proofs.Stmts as stmts
use Rattle.alma_check_phrases.proofs.sequence.check_stmt.Goals as goal

pub returns-in-Assign : goal.returns-in-Assign
returns-in-Assign g c =
    rw (c.in-Assign.is, rows.assign_is c.in-Assign.node c.in-Assign.target c.in-Assign.value) c.check_assign.ensures

pub returns-in-If : goal.returns-in-If
returns-in-If g c =
    rw (c.in-If.is, rows.if_is c.in-If.node c.in-If.test c.in-If.then c.in-If.elsifs c.in-If.otherwise)
    (rw (c.deref.ensures.value) at c.check_if.ensures)

pub returns-in-While : goal.returns-in-While
returns-in-While g c =
    rw (c.in-While.is, rows.while_is c.in-While.node c.in-While.test c.in-While.body) c.check_while.ensures

pub returns-in-Repeat : goal.returns-in-Repeat
returns-in-Repeat g c =
    rw (c.in-Repeat.is, rows.repeat_is c.in-Repeat.node c.in-Repeat.body c.in-Repeat.test) c.check_repeat.ensures

pub returns-in-For : goal.returns-in-For
returns-in-For g c =
    rw (c.in-For.is, rows.for_is c.in-For.node c.in-For.variable c.in-For.from c.in-For.to c.in-For.by c.in-For.body) c.check_for.ensures

pub returns-in-Some : goal.returns-in-Some
returns-in-Some g c =
    rw (c.in-Some.is, rows.some_is c.in-Some.node c.in-Some.variable c.in-Some.from c.in-Some.to c.in-Some.body) c.check_some.ensures

pub returns-in-Case : goal.returns-in-Case
returns-in-Case g c =
    rw (c.in-Case.is, rows.case_is c.in-Case.node c.in-Case.value c.in-Case.first c.in-Case.more c.in-Case.otherwise)
    (rw (c.deref-in-Case.ensures, c.deref-in-Case-2.ensures.value) at c.check_case.ensures)

pub returns-in-Either : goal.returns-in-Either
returns-in-Either g c =
    rw (c.in-Either.is, rows.either_is c.in-Either.node c.in-Either.first c.in-Either.more)
    (rw (c.deref-in-Either.ensures.value) at c.check_either.ensures)

pub returns-in-Forall : goal.returns-in-Forall
returns-in-Forall g c =
    rw (c.in-Forall.is, rows.forall_is c.in-Forall.node c.in-Forall.choice c.in-Forall.body) c.check_forall.ensures

pub returns-in-Commit : goal.returns-in-Commit
returns-in-Commit g c =
    rw (c.in-Commit.is, rows.commit_is c.in-Commit.node c.in-Commit.body) c.check_commit.ensures

pub returns-in-Return : goal.returns-in-Return
returns-in-Return g c =
    rw (c.in-Return.is, rows.return_is c.in-Return.node c.in-Return.value) c.check_return.ensures

pub returns-in-Read : goal.returns-in-Read
returns-in-Read g c =
    rw (c.in-Read.is, rows.read_is c.in-Read.node c.in-Read.first c.in-Read.more)
    (rw (c.deref-in-Read.ensures.value) at c.check_read.ensures)

pub returns-in-Writeln : goal.returns-in-Writeln
returns-in-Writeln g c =
    rw (c.in-Writeln.is, rows.writeln_is c.in-Writeln.node c.in-Writeln.items) c.check_writeln.ensures

pub returns-in-Nothing : goal.returns-in-Nothing
returns-in-Nothing g c =
    rw (c.in-Nothing.is, stmts.nothing_at (scene_of c.args.env.now c.args.place) c.args.slot.now c.in-Nothing.node)
    (ap (of_value c.args.slot.now) (sym c.nothing.ensures))

pub returns-in-Value : goal.returns-in-Value
returns-in-Value g c =
    rw c.in-Value.is c.check_value.ensures

pub returns-in-Write : goal.returns-in-Write
returns-in-Write g c =
    rw (
      c.in-Write.is,
      stmts.write_is (scene_of c.args.env.now c.args.place) c.args.slot.now c.in-Write.node
          (view.view_exprs c.in-Write.items),
    ) c.check_items.ensures
