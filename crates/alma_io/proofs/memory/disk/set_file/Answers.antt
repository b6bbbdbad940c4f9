use Rattle.alma_io.proofs.NamedLemmas.{named_bytes-insert}
use Rattle.alma_io.proofs.memory.disk.set_file.Goals as goal

pub returns-clause-ok : goal.returns-clause-ok
returns-clause-ok c =
    let set = named_bytes-insert c.args.files.now c.insert.new.self c.in_ok-key.key c.in_ok-value.value c.in_ok-insert.ensures.updates in
    simp (c.in_ok-key.ensures.ok, c.in_ok-value.ensures.items) at set
