-- Counting gives each phrase with the numbers that the parser gave it: names and types.
use Rattle.std.specs.Prelude.{List, [], ◌∷◌}
use Rattle.alma_tree.specs.declared.leaf.Name.{Name}
use Rattle.alma_tree.specs.declared.leaf.Names.{Names}
use Rattle.alma_tree.specs.declared.type_node.TypeNode as dy
use Rattle.alma_tree.specs.declared.type_node.Arrays as dz
use Rattle.alma_tree.specs.declared.type_node.PlainType as dq
use Rattle.alma_tree.specs.declared.type_node.FieldList as dw
use Rattle.alma_tree.specs.Numbers as number
use Rattle.alma_tree.specs.View as plain
use Rattle.alma_rules.specs.View as view
use Rattle.alma_resolved.proofs.Recount as count
use Rattle.alma_resolved.proofs.Steps.{Makes, stays, closes, behind_token, both, last, name_made}
use Rattle.alma_resolved.proofs.Phrases.{expr_made}

name_list_made : (xs : List Name) → Makes (number.numbers_of_names xs) (count.count_name_tail (plain.name_tail_of xs)) (view.names_of xs)
name_list_made [] = stays _
name_list_made (x ∷ xs) = behind_token (both _ (name_made x) (last _ (name_list_made xs)))

pub names_made : (x : Names) → Makes (number.number_names x) (count.count_names (plain.view_names x)) (view.view_names x)
names_made x = both _ (name_made x.first) (both _ (name_list_made x.more.items) (closes x.node _))

mutual
  pub type_made : (x : dy.TypeNode) → Makes (number.number_type x) (count.count_type (plain.view_type_node x)) (view.view_type_node x)
  type_made (dy.TypeNode' n arrays p) = both _ (arrays_made arrays) (both _ (plain_made p) (closes n _))

  pub arrays_made : (x : dy.Held-TypeNode-arrays)
      → Makes (number.number_arrays x) (count.count_arrays (plain.view_arrays x)) (view.view_arrays x)
  arrays_made dy.None' = stays _
  arrays_made (dy.Some' (dz.Arrays' n p shape row shape' row')) =
      behind_token (both _ (plain_made p) (both _ (plains_made row) (behind_token (both _ (dimensions_made row') (closes n _)))))

  pub dimensions_made : {n : _} (x : dz.Row_of-Dimensions n)
      → Makes (number.number_dimensions x) (count.count_dimensions (plain.view_dimensions x)) (view.view_dimensions x)
  dimensions_made dz.end_of-Dimensions = stays _
  dimensions_made (dz.more_of-Dimensions p shape row rest) =
      behind_token (both _ (plain_made p) (both _ (plains_made row) (behind_token (last _ (dimensions_made rest)))))

  pub plains_made : {n : _} (x : dz.Row_of-PlainType n)
      → Makes (number.number_plains x) (count.count_plains (plain.view_plains x)) (view.view_plains x)
  plains_made dz.end_of-PlainType = stays _
  plains_made (dz.more_of-PlainType p rest) = behind_token (both _ (plain_made p) (last _ (plains_made rest)))

  pub plain_made : (x : dq.PlainType) → Makes (number.number_plain x) (count.count_plain (plain.view_plain_type x)) (view.view_plain_type x)
  plain_made (dq.Named n l) = both _ (name_made l) (closes n _)
  plain_made (dq.Listed n l) = behind_token (both _ (names_made l) (behind_token (closes n _)))
  plain_made (dq.Subrange n low high) = behind_token
      (both _ (expr_made low) (behind_token (both _ (expr_made high) (behind_token (closes n _)))))
  plain_made (dq.Record' n b f shape row) =
      behind_token (both _ (field_list_made f) (both _ (field_lists_made row) (behind_token (closes n _))))

  pub field_list_made : (x : dw.FieldList)
      → Makes (number.number_field_list x) (count.count_fields (plain.view_field_list x)) (view.view_field_list x)
  field_list_made (dw.Empty n) = closes n _
  field_list_made (dw.Fields n l t) = both _ (names_made l) (behind_token (both _ (type_made t) (closes n _)))

  pub field_lists_made : {n : _} (x : dq.Row_of-FieldList n)
      → Makes (number.number_field_lists x) (count.count_field_tail (plain.view_field_lists x)) (view.view_field_lists x)
  field_lists_made dq.end_of-FieldList = stays _
  field_lists_made (dq.more_of-FieldList f rest) = behind_token (both _ (field_list_made f) (last _ (field_lists_made rest)))
