use Rattle.std.proofs.Common.{◌≡◌, map}
use Rattle.alma_lower_tables.specs.Numbers.{text_of}
use Rattle.alma_lower_tables.proofs.numbers.Numbers.all_texts.Given as goal

abbrev pub invariant-loop-text : goal.invariant-loop-text
invariant-loop-text l = map text_of l.texts.items ≡ map text_of (map (λ x. x.now) l.yielded)
