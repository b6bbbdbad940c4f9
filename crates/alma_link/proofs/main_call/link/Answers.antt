use Rattle.std.specs.Prelude.{map}
use Rattle.alma_ir.specs.View.{program_of}
use Rattle.alma_driver_words.specs.Words.{texts}
use Rattle.alma_plan.proofs.CauseLemmas.{causes_of}
use Rattle.alma_plan.specs.Programs.{sense}
use Rattle.alma_source.proofs.Verdicts.{one_verdict}
use Rattle.alma_link.specs.Ends.{link_end}
use Rattle.alma_link.specs.Link.{failure, link_plan, program}
use Rattle.alma_link.proofs.Plans.{own_plan}
use Rattle.alma_link.proofs.main_call.link.Goals as goal

pub returns-clause-answer : goal.returns-clause-answer
returns-clause-answer g c =
    record {
      end = link_end (map program_of c.perform-end.new.units.items) c.perform-end.result;
      course = c.perform-end.ensures;
      reported =
          rw c.deref.ensures.value at c.tell.ensures;
    }

pub returns-clause-causes : goal.returns-clause-causes
returns-clause-causes g c =
    causes_of (sense program failure) program (link_plan (texts c.args.words.now)) one_verdict (own_plan (texts c.args.words.now)) _ _ _
    (record {
      end = link_end (map program_of c.perform-end.new.units.items) c.perform-end.result;
      course = c.perform-end.ensures;
      reported =
          rw c.deref.ensures.value at c.tell.ensures;
    })
