-- The lists of names and types, by what one item spells and numbers.
use Rattle.std.proofs.Common.{◌∷◌, refl}
use Rattle.alma_tree.specs.declared.kind.Kind.TheVariants as kinds
use Rattle.alma_tree.specs.declared.leaf.Name.{Name}
use Rattle.alma_tree.specs.declared.type_node.Dimensions.{Dimensions}
use Rattle.alma_tree.specs.declared.type_node.PlainType.{PlainType}
use Rattle.alma_tree.specs.declared.type_node.FieldList.{FieldList}
use Rattle.alma_tree.specs.Spelling as spelling
use Rattle.alma_tree.specs.View as view
use Rattle.alma_tree.specs.Numbers as numbers
use Rattle.alma_tree.specs.Numbers.{token, ◌>>◌}
use Rattle.alma_parse.specs.Dimensions.{number_dimension}
use Rattle.alma_parse_cursor.proofs.Turns.{Lists, four_and, two_and}

pub names_listed : Lists {A = Name} (λ n r. kinds.Comma ∷ kinds.Name ∷ r) (λ ns. spelling.spell_name_tail (view.name_tail_of ns))
    (λ n. token >> numbers.number_name n) numbers.numbers_of_names
names_listed = record {
  spelled_none = λ r. refl;
  spelled_more = λ n ns r. refl;
  numbered_none = λ at. refl;
  numbered_more = λ n ns at. two_and token (numbers.number_name n) (numbers.numbers_of_names ns) at;
}

pub dimensions_listed : Lists {A = Dimensions} (λ d. spelling.spell_dimensions (view.view_dimension d)) (λ ds. spelling.spell_array_tail
    (view.dimensions_of ds))
    number_dimension numbers.numbers_of_dimensions
dimensions_listed = record {
  spelled_none = λ r. refl;
  spelled_more = λ d ds r. refl;
  numbered_none = λ at. refl;
  numbered_more = λ d ds at. four_and token (numbers.number_plain d.first) (numbers.numbers_of_plains d.more.items) token
      (numbers.numbers_of_dimensions ds) at;
}

pub plains_listed : Lists {A = PlainType} (λ p r. kinds.Comma ∷ spelling.spell_plain_type (view.view_plain_type p) r)
    (λ ps. spelling.spell_plain_tail (view.plains_of ps)) (λ p. token >> numbers.number_plain p) numbers.numbers_of_plains
plains_listed = record {
  spelled_none = λ r. refl;
  spelled_more = λ p ps r. refl;
  numbered_none = λ at. refl;
  numbered_more = λ p ps at. two_and token (numbers.number_plain p) (numbers.numbers_of_plains ps) at;
}

pub field_lists_listed : Lists {A = FieldList} (λ f r. kinds.Semicolon ∷ spelling.spell_field_list (view.view_field_list f) r)
    (λ fs. spelling.spell_field_list_tail (view.field_lists_of fs)) (λ f. token >> numbers.number_field_list f)
    numbers.numbers_of_field_lists
field_lists_listed = record {
  spelled_none = λ r. refl;
  spelled_more = λ f fs r. refl;
  numbered_none = λ at. refl;
  numbered_more = λ f fs at. two_and token (numbers.number_field_list f) (numbers.numbers_of_field_lists fs) at;
}
