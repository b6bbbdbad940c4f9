use Rattle.alma_scan.specs.Scanned.{lexemes}
use Rattle.alma_source.proofs.RefusalLemmas.{refused_by_check}
use Rattle.alma_unit.proofs.check.check_tree.Goals as goal

pub returns-in-Err-Fault-clause-refused : goal.returns-in-Err-Fault-clause-refused
returns-in-Err-Fault-clause-refused c =
    let f = c.in-Err-Fault in
    let r = rw f.field-0-is at f.ensures.resolves in
    refused_by_check c.args.source.now (lexemes c.args.tokens.now) c.args.tree.now f.fault f._node f.token c.offset_of.result
    c.requires.parsed r.0 r.1 c.offset_of.ensures
