-- Parts of declarations that are left out where the next token is not the one that begins them, and parts that begin with it.
use Rattle.std.proofs.Common.{◌≡◌, false, List, [], ◌∷◌, refl}
use Rattle.alma_tree.specs.declared.kind.Kind.{Kind}
use Rattle.alma_tree.specs.declared.kind.Kind.TheVariants as kinds
use Rattle.alma_grammar.specs.Parts.{one, const_tail, type_tail, var_tail}
use Rattle.alma_grammar.specs.Parts.{formal_tail, params_part, params_inside, result_part, body_part, formal_parts, stmts_parts}
use Rattle.alma_parse_cursor.specs.Parsing.{starts_with, Becomes}
use Rattle.alma_parse_cursor.specs.Forms.{const_entry_parts, type_entry_parts, var_entry_parts, formals_parts}

-- ---- left out

pub no_const_tail : (ks : List Kind) → starts_with kinds.Name ks ≡ false → Becomes (λ o. const_tail ∷ o) (λ o. o) ks
no_const_tail [] h = record { becomes = λ d o. refl }
no_const_tail (kinds.Name ∷ ks) h = cc
no_const_tail (k ∷ ks) h = record { becomes = λ d o. refl }

pub no_type_tail : (ks : List Kind) → starts_with kinds.Name ks ≡ false → Becomes (λ o. type_tail ∷ o) (λ o. o) ks
no_type_tail [] h = record { becomes = λ d o. refl }
no_type_tail (kinds.Name ∷ ks) h = cc
no_type_tail (k ∷ ks) h = record { becomes = λ d o. refl }

pub no_var_tail : (ks : List Kind) → starts_with kinds.Name ks ≡ false → Becomes (λ o. var_tail ∷ o) (λ o. o) ks
no_var_tail [] h = record { becomes = λ d o. refl }
no_var_tail (kinds.Name ∷ ks) h = cc
no_var_tail (k ∷ ks) h = record { becomes = λ d o. refl }

pub no_formal_tail : (ks : List Kind) → starts_with kinds.Semicolon ks ≡ false → Becomes (λ o. formal_tail ∷ o) (λ o. o) ks
no_formal_tail [] h = record { becomes = λ d o. refl }
no_formal_tail (kinds.Semicolon ∷ ks) h = cc
no_formal_tail (k ∷ ks) h = record { becomes = λ d o. refl }

pub no_result_part : (ks : List Kind) → starts_with kinds.Colon ks ≡ false → Becomes (λ o. result_part ∷ o) (λ o. o) ks
no_result_part [] h = record { becomes = λ d o. refl }
no_result_part (kinds.Colon ∷ ks) h = cc
no_result_part (k ∷ ks) h = record { becomes = λ d o. refl }

pub no_body_part : (ks : List Kind) → starts_with kinds.Begin ks ≡ false → Becomes (λ o. body_part ∷ o) (λ o. o) ks
no_body_part [] h = record { becomes = λ d o. refl }
no_body_part (kinds.Begin ∷ ks) h = cc
no_body_part (k ∷ ks) h = record { becomes = λ d o. refl }

-- ---- begun

pub a_const_tail : (ks : List Kind) → Becomes (λ o. const_tail ∷ o) (λ o. const_entry_parts (const_tail ∷ o)) (kinds.Name ∷ ks)
a_const_tail ks = record { becomes = λ d o. refl }

pub a_type_tail : (ks : List Kind) → Becomes (λ o. type_tail ∷ o) (λ o. type_entry_parts (type_tail ∷ o)) (kinds.Name ∷ ks)
a_type_tail ks = record { becomes = λ d o. refl }

pub a_var_tail : (ks : List Kind) → Becomes (λ o. var_tail ∷ o) (λ o. var_entry_parts (var_tail ∷ o)) (kinds.Name ∷ ks)
a_var_tail ks = record { becomes = λ d o. refl }

pub a_formal_tail : (ks : List Kind) → Becomes (λ o. formal_tail ∷ o) (λ o. one kinds.Semicolon ∷ formal_parts (formal_tail ∷ o))
    (kinds.Semicolon ∷ ks)
a_formal_tail ks = record { becomes = λ d o. refl }

pub a_params_part : (ks : List Kind) → Becomes (λ o. params_part ∷ o) (λ o. one kinds.OpenParen ∷ params_inside ∷ o) (kinds.OpenParen ∷ ks)
a_params_part ks = record { becomes = λ d o. refl }

pub a_params_inside : (ks : List Kind) → Becomes (λ o. params_inside ∷ o) (λ o. one kinds.CloseParen ∷ o) (kinds.CloseParen ∷ ks)
a_params_inside ks = record { becomes = λ d o. refl }

pub a_result_part : (ks : List Kind) → Becomes (λ o. result_part ∷ o) (λ o. one kinds.Colon ∷ one kinds.Name ∷ o) (kinds.Colon ∷ ks)
a_result_part ks = record { becomes = λ d o. refl }

pub a_body_part : (ks : List Kind) → Becomes (λ o. body_part ∷ o) (λ o. one kinds.Begin ∷ stmts_parts o) (kinds.Begin ∷ ks)
a_body_part ks = record { becomes = λ d o. refl }

-- what stands behind the opening parenthesis of parameters and is no closing one
pub some_params : (ks : List Kind) → starts_with kinds.CloseParen ks ≡ false
    → Becomes (λ o. params_inside ∷ o) (λ o. formals_parts (one kinds.CloseParen ∷ o)) ks
some_params [] h = record { becomes = λ d o. refl }
some_params (kinds.CloseParen ∷ ks) h = cc
some_params (k ∷ ks) h = record { becomes = λ d o. refl }
