use Rattle.alma_spell.proofs.Steps.{given}
use Rattle.alma_spell.proofs.phrase.push_stmts.Goals as goal

pub returns : goal.returns
returns c =
    record {
      pushed = given c.finish.result c.args.out.now.items c.finish.new.out.items c.behind-spelled.ensures.kinds c.put_stmts.ensures
          c.finish.ensures.kinds c.finish.ensures.room;
    }
