use Rattle.std.proofs.Common.{◌∙◌, sym}
use Rattle.std.specs.Prelude.{nat_eq}
use Rattle.std.specs.Cmp.Lexicographic.{pointwise}
use Rattle.alma_lower_templates.specs.Tables.{same_text}
use Rattle.alma_lower_tables.specs.Numbers.{text_of}
use Rattle.alma_lower_tables.proofs.Places.{some_place, none_place, bytes_agree, if_ok_to}
use Rattle.alma_lower_tables.proofs.numbers.Numbers.text_number.Goals as goal

pub returns-in-Some : goal.returns-in-Some
returns-in-Some c = record {
  number = if_ok_to c.number_of.result _ _
      (some_place text_of same_text c.args.text.now (λ k. pointwise nat_eq c.args.text.now k.items)
      (λ k. bytes_agree c.args.text.now k.items)
      c.args.self.now.texts.keys _ (sym c.in-Some.is ∙ c.get_index_of.ensures.index)) c.number_of.ensures;
}

pub returns-in-None : goal.returns-in-None
returns-in-None c = record {
  number = if_ok_to c.number_of-in-None.result _ _
      (c.len.ensures.len ∙ none_place text_of same_text c.args.text.now (λ k. pointwise nat_eq c.args.text.now k.items)
      (λ k. bytes_agree c.args.text.now k.items) c.args.self.now.texts.keys (sym c.in-None.is ∙ c.get_index_of.ensures.index))
      c.number_of-in-None.ensures;
}
