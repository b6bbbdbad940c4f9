use Rattle.std.proofs.Common.{rules, ◌≡◌, ◌∙◌, sym, to_z, of_z, w64}
use Rattle.std.proofs.lemmas.Int.{to_z-of_z}
use Rattle.alma_lower_templates.specs.Tables.{same_range}
use Rattle.alma_lower_tables.specs.Numbers.{range_of}
use Rattle.alma_lower_tables.proofs.Places.{some_place, none_place, ends_agree, if_ok_to}
use Rattle.alma_lower_tables.proofs.numbers.Numbers.range_number.Goals as goal

pub returns-in-Some : goal.returns-in-Some
returns-in-Some c =
    let low : to_z w64 (of_z w64 c.args.range.low) ≡ c.args.range.low = to_z-of_z w64 c.args.range.low (search rules) in
    let high : to_z w64 (of_z w64 c.args.range.high) ≡ c.args.range.high = to_z-of_z w64 c.args.range.high (search rules) in
    record {
      number = if_ok_to c.number_of.result _ _
          (some_place range_of same_range c.args.range _ (ends_agree c.args.range _ _ low high) c.args.self.now.ranges.keys _
          (sym c.in-Some.is ∙ c.get_index_of.ensures.index)) c.number_of.ensures;
    }

pub returns-in-None : goal.returns-in-None
returns-in-None c =
    let low : to_z w64 (of_z w64 c.args.range.low) ≡ c.args.range.low = to_z-of_z w64 c.args.range.low (search rules) in
    let high : to_z w64 (of_z w64 c.args.range.high) ≡ c.args.range.high = to_z-of_z w64 c.args.range.high (search rules) in
    record {
      number = if_ok_to c.number_of-in-None.result _ _
          (c.len.ensures.len ∙ none_place range_of same_range c.args.range _ (ends_agree c.args.range _ _ low high)
          c.args.self.now.ranges.keys (sym c.in-None.is ∙ c.get_index_of.ensures.index)) c.number_of-in-None.ensures;
    }
