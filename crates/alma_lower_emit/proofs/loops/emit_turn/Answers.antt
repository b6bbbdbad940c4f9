use Rattle.std.proofs.Common.{ap}
use Rattle.alma_ir.specs.View.{stmts_list, desig_of}
use Rattle.alma_lower_work.specs.Front.{around, front}
use Rattle.alma_lower_parts.proofs.Said.{on_ok, stmts_is, codes_is}
use Rattle.alma_lower_parts.proofs.Turns.{count_lined, count_at_lined}
use Rattle.alma_lower_emit.proofs.loops.emit_turn.Goals as goal

pub returns : goal.returns
returns g c =
    record {
      puts = on_ok c.emit_inside.result (λ h. record {
        b = _;
        c = _;
        d = _;
        e = _;
        count = _;
        stand = _;
        checked = count_lined (around c.args.scene.now) c.args.line _ _ c.args.each.now.range c.args.counter (desig_of c.args.each.now.var)
            c.in_ok-count.ensures.puts;
        count_slot = count_at_lined (around c.args.scene.now) c.args.line (front c.args.work.now) c.args.counter _
            (desig_of c.args.each.now.var) c.in_ok-count.ensures.count;
        located = c.in_ok-stand.ensures.puts;
        stands = c.in_ok-stand.ensures.stand;
        set = codes_is _ _ c.args.line _ _ c.set.ensures c.in_ok-add.ensures;
        code = c.go_to.ensures.code;
        kinds = c.go_to.ensures.kinds;
        next = c.go_to.ensures.next;
        lines = c.go_to.ensures.lines;
        whole = c.go_to.ensures.whole;
        body_put = stmts_is (around c.args.scene.now) 0 _ _ _ _ (ap stmts_list c.deref.ensures.value) h;
      }) c.emit_inside.ensures.puts;
    }
