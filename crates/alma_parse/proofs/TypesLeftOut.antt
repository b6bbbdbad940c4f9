-- Parts of types and lists of names that are left out where the next token is not the one that begins them, and parts that begin with it.
use Rattle.std.proofs.Common.{◌≡◌, false, List, [], ◌∷◌, refl}
use Rattle.alma_tree.specs.declared.kind.Kind.{Kind}
use Rattle.alma_tree.specs.declared.kind.Kind.TheVariants as kinds
use Rattle.alma_grammar.specs.Parts.{one, name_tail, array_tail, plain_part, plain_tail, field_list_part, field_list_tail}
use Rattle.alma_parse_cursor.specs.Parsing.{starts_with, Becomes}
use Rattle.alma_parse_cursor.specs.Forms.{dimensions_parts, fields_parts}

-- ---- left out

pub no_name_tail : (ks : List Kind) → starts_with kinds.Comma ks ≡ false → Becomes (λ o. name_tail ∷ o) (λ o. o) ks
no_name_tail [] h = record { becomes = λ d o. refl }
no_name_tail (kinds.Comma ∷ ks) h = cc
no_name_tail (k ∷ ks) h = record { becomes = λ d o. refl }

pub no_array_tail : (ks : List Kind) → starts_with kinds.Array ks ≡ false → Becomes (λ o. array_tail ∷ o) (λ o. o) ks
no_array_tail [] h = record { becomes = λ d o. refl }
no_array_tail (kinds.Array ∷ ks) h = cc
no_array_tail (k ∷ ks) h = record { becomes = λ d o. refl }

pub no_plain_tail : (ks : List Kind) → starts_with kinds.Comma ks ≡ false → Becomes (λ o. plain_tail ∷ o) (λ o. o) ks
no_plain_tail [] h = record { becomes = λ d o. refl }
no_plain_tail (kinds.Comma ∷ ks) h = cc
no_plain_tail (k ∷ ks) h = record { becomes = λ d o. refl }

pub no_field_list_tail : (ks : List Kind) → starts_with kinds.Semicolon ks ≡ false → Becomes (λ o. field_list_tail ∷ o) (λ o. o) ks
no_field_list_tail [] h = record { becomes = λ d o. refl }
no_field_list_tail (kinds.Semicolon ∷ ks) h = cc
no_field_list_tail (k ∷ ks) h = record { becomes = λ d o. refl }

-- ---- begun

pub a_name_tail : (ks : List Kind) → Becomes (λ o. name_tail ∷ o) (λ o. one kinds.Comma ∷ one kinds.Name ∷ name_tail ∷ o) (kinds.Comma ∷ ks)
a_name_tail ks = record { becomes = λ d o. refl }

pub a_array_tail : (ks : List Kind) → Becomes (λ o. array_tail ∷ o) (λ o. dimensions_parts (array_tail ∷ o)) (kinds.Array ∷ ks)
a_array_tail ks = record { becomes = λ d o. refl }

pub a_plain_tail : (ks : List Kind) → Becomes (λ o. plain_tail ∷ o) (λ o. one kinds.Comma ∷ plain_part ∷ plain_tail ∷ o) (kinds.Comma ∷ ks)
a_plain_tail ks = record { becomes = λ d o. refl }

pub a_field_list_part : (ks : List Kind) → Becomes (λ o. field_list_part ∷ o) (fields_parts) (kinds.Name ∷ ks)
a_field_list_part ks = record { becomes = λ d o. refl }

pub a_field_list_tail : (ks : List Kind)
    → Becomes (λ o. field_list_tail ∷ o) (λ o. one kinds.Semicolon ∷ field_list_part ∷ field_list_tail ∷ o)
    (kinds.Semicolon ∷ ks)
a_field_list_tail ks = record { becomes = λ d o. refl }
