use Rattle.alma_parse.proofs.Places.{unexpected_at, deep_at, unexpected_within, deep_within, found_depth}
use Rattle.alma_parse.proofs.parser.parse.Goals as goal

pub index_of-requires : goal.index_of-requires
index_of-requires c =
    let h = rw c.in-Err-Unexpected.field-0-is at c.in-Err-Unexpected.ensures.read in
    record { shorter = unexpected_within c.args.tokens.now c.in-Err-Unexpected.rest.now h }

pub index_of-requires-in-Err-TooDeep : goal.index_of-requires-in-Err-TooDeep
index_of-requires-in-Err-TooDeep c =
    let h = rw c.in-Err-TooDeep.field-0-is at c.in-Err-TooDeep.ensures.read in
    record { shorter = deep_within c.args.tokens.now c.in-Err-TooDeep.rest.now h }

pub returns-in-Ok-clause-found : goal.returns-in-Ok-clause-found
returns-in-Ok-clause-found c =
    (c.in-Ok.ensures.read.0, c.in-Ok.ensures.read.1, found_depth _ c.in-Ok.ensures.read.2)

pub returns-in-Err-Unexpected-clause-refused : goal.returns-in-Err-Unexpected-clause-refused
returns-in-Err-Unexpected-clause-refused c =
    let h = rw c.in-Err-Unexpected.field-0-is at c.in-Err-Unexpected.ensures.read in
    unexpected_at c.args.tokens.now c.in-Err-Unexpected.rest.now c.index_of.result h c.index_of.ensures.index

pub returns-in-Err-TooDeep-clause-refused : goal.returns-in-Err-TooDeep-clause-refused
returns-in-Err-TooDeep-clause-refused c =
    let h = rw c.in-Err-TooDeep.field-0-is at c.in-Err-TooDeep.ensures.read in
    deep_at c.args.tokens.now c.in-Err-TooDeep.rest.now c.index_of-in-Err-TooDeep.result h c.index_of-in-Err-TooDeep.ensures.index
