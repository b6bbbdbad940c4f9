use Rattle.std.proofs.Common.{◌∙◌, sym, refl, add-zero}
use Rattle.alma_lower_work.specs.Front.{around}
use Rattle.alma_lower_work.proofs.DesigForms.{links_start, links_step, next_link, outer_step}
use Rattle.alma_lower_work.proofs.place.put_links.Goals as goal

pub loop-init : goal.loop-init
unfolding around
loop-init c = record {
  routine = refl;
  link = c.in_ok-link.ensures.slot ∙ sym (add-zero _);
  puts = links_start (around c.args.scene.now) c.args.line _ _ _ _ c.in_ok-link.ensures.takes c.in_ok-link.ensures.slot
      c.in_ok-put.ensures.codes;
}

pub loop-preserved : goal.loop-preserved
loop-preserved c =
    let s = around c.args.scene.now in
    let l = c.loop in
    let out = outer_step s c.args.line l.counter l.routine c.outer-routine.result l.invariant.routine c.outer-routine.ensures in
    record {
      routine = out;
      link = next_link s c.args.line _ _ l.counter _ l.invariant.puts c.in_ok-next.ensures.slot;
      puts = links_step s c.args.line _ _ _ _ l.counter l.link _ _ l.invariant.puts l.invariant.link out c.in_ok-next.ensures.takes
          c.in_ok-next.ensures.slot c.in_ok-put-2.ensures.codes;
    }
