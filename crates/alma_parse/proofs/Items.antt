-- The lists of declarations, by what one item spells and numbers.
use Rattle.std.proofs.Common.{◌≡◌, List, ◌∷◌, Option, None, Some, refl}
use Rattle.alma_tree.specs.declared.kind.Kind.{Kind}
use Rattle.alma_tree.specs.declared.kind.Kind.TheVariants as kinds
use Rattle.alma_tree.specs.declared.module.Formals.{Formals}
use Rattle.alma_tree.specs.declared.module.Decl.{Decl}
use Rattle.alma_tree.specs.declared.module.ConstEntry.{ConstEntry}
use Rattle.alma_tree.specs.declared.module.TypeEntry.{TypeEntry}
use Rattle.alma_tree.specs.declared.module.VarEntry.{VarEntry}
use Rattle.alma_tree.specs.declared.module.Formal.{Formal}
use Rattle.alma_tree.specs.Spelling as spelling
use Rattle.alma_tree.specs.View as view
use Rattle.alma_tree.specs.Numbers as numbers
use Rattle.alma_tree.specs.Numbers.{token, ◌>>◌}
use Rattle.alma_parse.specs.Entries.{spell_const_entry, spell_type_entry, spell_var_entry, number_const_entry, number_type_entry}
use Rattle.alma_parse.specs.Entries.{number_var_entry}
use Rattle.alma_parse.specs.Entries.{inside_params_of, number_inside_params}
use Rattle.alma_grammar.specs.Filling.{spell_inside_params}
use Rattle.alma_parse_cursor.proofs.Turns.{Lists, four_and, two_and}

pub consts_listed : Lists {A = ConstEntry} spell_const_entry (λ es. spelling.spell_const_tail
    (view.consts_of es)) number_const_entry numbers.numbers_of_consts
consts_listed = record {
  spelled_none = λ r. refl;
  spelled_more = λ e es r. refl;
  numbered_none = λ at. refl;
  numbered_more = λ e es at. four_and (numbers.number_name e.name) token (numbers.number_expr e.value) token (numbers.numbers_of_consts es)
      at;
}

pub types_listed : Lists {A = TypeEntry} spell_type_entry (λ es. spelling.spell_type_tail (view.types_of es)) number_type_entry
    numbers.numbers_of_types
types_listed = record {
  spelled_none = λ r. refl;
  spelled_more = λ e es r. refl;
  numbered_none = λ at. refl;
  numbered_more = λ e es at. four_and (numbers.number_name e.name) token (numbers.number_type e.type_node) token
      (numbers.numbers_of_types es) at;
}

pub vars_listed : Lists {A = VarEntry} spell_var_entry (λ es. spelling.spell_var_tail (view.vars_of es)) number_var_entry
    numbers.numbers_of_vars
vars_listed = record {
  spelled_none = λ r. refl;
  spelled_more = λ e es r. refl;
  numbered_none = λ at. refl;
  numbered_more = λ e es at. four_and (numbers.number_names e.names) token (numbers.number_type e.type_node) token
      (numbers.numbers_of_vars es) at;
}

pub formals_listed : Lists {A = Formal} (λ f r. kinds.Semicolon ∷ spelling.spell_formal (view.view_formal f) r)
    (λ fs. spelling.spell_formal_tail (view.formal_tail_of fs)) (λ f. token >> numbers.number_formal f) numbers.numbers_of_formals
formals_listed = record {
  spelled_none = λ r. refl;
  spelled_more = λ f fs r. refl;
  numbered_none = λ at. refl;
  numbered_more = λ f fs at. two_and token (numbers.number_formal f) (numbers.numbers_of_formals fs) at;
}

pub decls_listed : Lists {A = Decl} (λ d. spelling.spell_decl (view.view_decl d)) (λ ds. spelling.spell_decl_tail (view.decls_of ds))
    numbers.number_decl numbers.numbers_of_decls
decls_listed = record {
  spelled_none = λ r. refl;
  spelled_more = λ d ds r. refl;
  numbered_none = λ at. refl;
  numbered_more = λ d ds at. refl;
}

-- ---- parameters behind their opening parenthesis

pub params_spelled : (f : Option Formals) (r : List Kind)
    → kinds.OpenParen ∷ spell_inside_params (inside_params_of f) r ≡ spelling.spell_params
    (view.params_values f) r
params_spelled None r = refl
params_spelled (Some f) r = refl

pub params_numbered : (f : Option Formals) (at : numbers.Cursor) → numbers.numbers_inside_params f at ≡ (token >> number_inside_params f) at
params_numbered None at = refl
params_numbered (Some f) at = refl
