use Rattle.std.proofs.Common.{◌≡◌, ◌∙◌, ap, sym, subst, map, true, []}
use Rattle.std.specs.Prelude.{nat_eq}
use Rattle.std.specs.Cmp.Lexicographic.{pointwise}
use Rattle.std.specs.List.{list_any}
use Rattle.std.proofs.lemmas.List.{append-nil}
use Rattle.alma_lower_templates.specs.Tables.{same_text}
use Rattle.alma_lower_tables.specs.Numbers.{text_of}
use Rattle.alma_lower_tables.proofs.Places.{held_there, bytes_agree, any_inserted, bytes_themselves, text_is, inserted, inserted_is}
use Rattle.alma_lower_tables.proofs.Places.{entered}
use Rattle.alma_lower_tables.proofs.numbers.Numbers.add_text.Goals as goal

pub returns-clause-held : goal.returns-clause-held
returns-clause-held c =
    let key = c.in_ok-to_vec.field-0 in
    let same : key.items ≡ c.args.text.now = c.in_ok-to_vec.ensures.items_if_clones_equal (λ x y e. e) in
    let any : list_any (λ k. pointwise nat_eq key.items k.items) c.insert.new.self.keys ≡ true =
    ap (list_any (λ k. pointwise nat_eq key.items k.items)) c.in_ok-insert.ensures.keys
    ∙ any_inserted (λ k. pointwise nat_eq key.items k.items) c.args.self.now.texts.keys key (bytes_themselves key.items) in
    held_there text_of same_text c.args.text.now (λ k. pointwise nat_eq c.args.text.now k.items) (λ k. bytes_agree c.args.text.now k.items)
    (λ r e. text_is r c.args.text.now e) c.insert.new.self.keys
    (subst (λ t. list_any (λ k. pointwise nat_eq t k.items) c.insert.new.self.keys ≡ true) same any)

pub returns-clause-extends : goal.returns-clause-extends
returns-clause-extends c =
    let key = c.in_ok-to_vec.field-0 in
    let keys = c.args.self.now.texts.keys in
    let there = list_any (λ k. pointwise nat_eq key.items k.items) keys in
    record {
      more_ranges = [];
      more_texts = map text_of (inserted there key);
      ranges = sym (append-nil _);
      texts = ap (map text_of) c.in_ok-insert.ensures.keys ∙ inserted_is text_of there keys key;
    }

pub returns-clause-texts : goal.returns-clause-texts
returns-clause-texts c =
    let key = c.in_ok-to_vec.field-0 in
    let same : key.items ≡ c.args.text.now = c.in_ok-to_vec.ensures.items_if_clones_equal (λ x y e. e) in
    ap (map text_of) c.in_ok-insert.ensures.keys
    ∙ entered text_of same_text c.args.text.now (λ k. pointwise nat_eq key.items k.items)
    (λ k. ap (λ t. pointwise nat_eq t k.items) same ∙ bytes_agree c.args.text.now k.items) c.args.self.now.texts.keys key same
