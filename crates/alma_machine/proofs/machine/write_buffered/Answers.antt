use Rattle.std.proofs.Common.{◌++◌}
use Rattle.alma_machine.proofs.Withins.{flush_buffers}
use Rattle.alma_machine.proofs.machine.write_buffered.Goals as goal

pub returns : goal.returns
returns g c =
    flush_buffers c.flush.result (g.K.Sink.side c.args.out.now) (g.K.Sink.side c.write_printed.new.out) (g.K.Sink.side c.flush.new.sink)
    (c.args.buffer.now ++ c.args.printed.now) c.write_printed.new.buffer c.flush.new.self c.in_ok-write_printed.ensures
    c.flush.ensures.writes c.flush.ensures.empty
