use Rattle.alma_code.specs.Plain.{code_of}
use Rattle.alma_lower_slots.proofs.Passed.{IsPassed, passed_as}
use Rattle.alma_lower_slots.proofs.share.share_slots.Goals as goal

-- all of them
all : (c : goal.After-with_parts) → IsPassed (code_of c.args.code) (code_of c.with_parts.result)
all c =
    let shared = rw c.in-Some.is at c.in_ok-parts.ensures in
    passed_as (code_of c.args.code) _ _ c.with_parts.ensures c.requires.sound c.requires.counts c.requires.records c.requires.version shared

pub returns-in-Some-clause-same : goal.returns-in-Some-clause-same
returns-in-Some-clause-same c = (all c).same

pub returns-in-Some-clause-sound : goal.returns-in-Some-clause-sound
returns-in-Some-clause-sound c = (all c).sound

pub returns-in-Some-clause-counts : goal.returns-in-Some-clause-counts
returns-in-Some-clause-counts c = (all c).counts

pub returns-in-Some-clause-records : goal.returns-in-Some-clause-records
returns-in-Some-clause-records c = (all c).records

pub returns-in-Some-clause-version : goal.returns-in-Some-clause-version
returns-in-Some-clause-version c = (all c).version

pub returns-in-Some-clause-tables : goal.returns-in-Some-clause-tables
returns-in-Some-clause-tables c = (all c).tables

pub returns-in-Some-clause-reads : goal.returns-in-Some-clause-reads
returns-in-Some-clause-reads c = (all c).reads
