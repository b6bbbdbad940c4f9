use Rattle.std.proofs.Common.{rules, ◌≡◌, ◌∙◌, ap, sym, map, [], to_z, of_z, w64}
use Rattle.std.specs.List.{list_any}
use Rattle.std.proofs.lemmas.Int.{to_z-of_z}
use Rattle.std.proofs.lemmas.List.{append-nil}
use Rattle.alma_lower_templates.specs.Tables.{same_range}
use Rattle.alma_lower_tables.specs.Numbers.{range_of}
use Rattle.alma_lower_tables.proofs.Places.{held_there, ends_agree, any_inserted, ends_themselves, range_is, inserted, inserted_is, entered}
use Rattle.alma_lower_tables.proofs.Places.{ends_are}
use Rattle.alma_lower_tables.proofs.numbers.Numbers.add_range.Goals as goal

pub returns-clause-held : goal.returns-clause-held
returns-clause-held c =
    let low : to_z w64 (of_z w64 c.args.range.low) ≡ c.args.range.low = to_z-of_z w64 c.args.range.low (search rules) in
    let high : to_z w64 (of_z w64 c.args.range.high) ≡ c.args.range.high = to_z-of_z w64 c.args.range.high (search rules) in
    held_there range_of same_range c.args.range _ (ends_agree c.args.range _ _ low high) (λ r e. range_is r c.args.range e)
    c.insert.new.self.keys
    (ap (list_any _) c.in_ok-insert.ensures.keys
    ∙ any_inserted _ c.args.self.now.ranges.keys (to_z w64 (of_z w64 c.args.range.low), to_z w64 (of_z w64 c.args.range.high))
    (ends_themselves (to_z w64 (of_z w64 c.args.range.low)) (to_z w64 (of_z w64 c.args.range.high))))

pub returns-clause-extends : goal.returns-clause-extends
returns-clause-extends c = record {
  more_ranges = map range_of (inserted _ (to_z w64 (of_z w64 c.args.range.low), to_z w64 (of_z w64 c.args.range.high)));
  more_texts = [];
  ranges = ap (map range_of) c.in_ok-insert.ensures.keys
      ∙ inserted_is range_of _ c.args.self.now.ranges.keys (to_z w64 (of_z w64 c.args.range.low), to_z w64 (of_z w64 c.args.range.high));
  texts = sym (append-nil _);
}

pub returns-clause-ranges : goal.returns-clause-ranges
returns-clause-ranges c =
    let low : to_z w64 (of_z w64 c.args.range.low) ≡ c.args.range.low = to_z-of_z w64 c.args.range.low (search rules) in
    let high : to_z w64 (of_z w64 c.args.range.high) ≡ c.args.range.high = to_z-of_z w64 c.args.range.high (search rules) in
    ap (map range_of) c.in_ok-insert.ensures.keys
    ∙ entered range_of same_range c.args.range _ (ends_agree c.args.range _ _ low high) c.args.self.now.ranges.keys _
    (ends_are c.args.range _ _ low high)
