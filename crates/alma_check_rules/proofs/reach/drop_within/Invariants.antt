use Rattle.std.specs.BTreeMap.{btree_map_len}
use Rattle.alma_check_rules.specs.Reach.{IsTopped, Keeps}
use Rattle.alma_check_rules.proofs.reach.drop_within.Given as goal

abbrev pub invariant-loop-start : goal.invariant-loop-start
invariant-loop-start l = record { topped : IsTopped l.ends l.base l.low l.high; keeps : Keeps l.initial.ends l.ends }

abbrev pub decreases-loop-start : goal.decreases-loop-start
decreases-loop-start l = btree_map_len l.ends
