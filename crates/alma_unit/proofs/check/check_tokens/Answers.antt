use Rattle.alma_source.proofs.RefusalLemmas.{parsed_of, refused_at}
use Rattle.alma_unit.proofs.check.check_tokens.Goals as goal

pub check_tree-requires-clause-parsed : goal.check_tree-requires-clause-parsed
check_tree-requires-clause-parsed c =
    let found = c.in-Ok.ensures.found in
    parsed_of c.args.source.now c.args.tokens.now c.in-Ok.tree c.requires.scanned found.0 found.1 found.2

pub returns-in-Err-Syntax-clause-refused : goal.returns-in-Err-Syntax-clause-refused
returns-in-Err-Syntax-clause-refused c =
    let s = c.in-Err-Syntax in
    rw s.fault-is (refused_at c.args.source.now c.args.tokens.now s.fault s.index c.offset_of.result c.requires.scanned
    (rw s.field-0-is at s.ensures.refused) (rw s.index-is at c.offset_of.ensures))
