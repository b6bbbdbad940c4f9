-- One ARRAY of a type, which is no tree of its own.
use Rattle.alma_tree.specs.declared.type_node.Dimensions.{Dimensions}
use Rattle.alma_tree.specs.Numbers.{Step, token, ◌>>◌, number_plain, numbers_of_plains}

-- ARRAY PlainType { "," PlainType } OF, which is no node of its own
abbrev pub number_dimension : Dimensions → Step
number_dimension d = token >> number_plain d.first >> numbers_of_plains d.more.items >> token
