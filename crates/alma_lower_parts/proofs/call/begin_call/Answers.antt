use Rattle.std.proofs.Common.{◌∙◌, ap}
use Rattle.alma_ir.specs.View.{args_list}
use Rattle.alma_lower_work.specs.Front.{around}
use Rattle.alma_lower_work.specs.Puts.{first_of_call}
use Rattle.alma_lower_parts.proofs.Calling.{first_is}
use Rattle.alma_lower_parts.proofs.call.begin_call.Goals as goal

pub returns-clause-first : goal.returns-clause-first
returns-clause-first c =
    c.first_handed-first.ensures ∙ ap (λ o. first_of_call o (args_list c.args.args.now) c.in_ok-to.to) c.in_ok-link.ensures.link
    ∙ first_is (around c.args.scene.now) c.args.called c.args.up _ _ _ (c.in_ok-to.ensures.first ∙ c.in_ok-link.ensures.puts.next_slot)

pub returns-clause-begins : goal.returns-clause-begins
returns-clause-begins c = record {
  b = _;
  link = c.in_ok-link.ensures.puts;
  slots = c.in_ok-to.ensures.puts;
  to_slot =
      c.in_ok-to.ensures.first;
}
