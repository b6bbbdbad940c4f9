-- Pieces of an expression that are no tree of their own: what stands behind the opening parenthesis of arguments, and a sign with its term.
use Rattle.std.specs.Prelude.{List, Option, None, Some}
use Rattle.alma_tree.specs.declared.kind.Kind.{Kind}
use Rattle.alma_tree.specs.declared.leaf.Sign.{Sign}
use Rattle.alma_tree.specs.declared.phrase.Exprs.{Exprs}
use Rattle.alma_tree.specs.declared.phrase.Term.{Term}
use Rattle.alma_tree.specs.Spelling.{spell_sign, spell_term}
use Rattle.alma_tree.specs.View.{view_term, view_exprs}
use Rattle.alma_tree.specs.Numbers.{Step, token, ◌>>◌, number_exprs, number_sign, number_term}
use Rattle.alma_grammar.specs.Filling.{InsideArgs, closed_args, filled_args}

-- the arguments behind their opening parenthesis, the closing one included
abbrev pub inside_of : Option Exprs → InsideArgs
inside_of None = closed_args
inside_of (Some es) = filled_args (view_exprs es)

-- their numbers, where the closing parenthesis is a token
abbrev pub number_inside_args : Option Exprs → Step
number_inside_args None = token
number_inside_args (Some es) = number_exprs es >> token

-- how a sign, or none, and the term behind it are spelled
abbrev pub spell_signed : Option Sign → Term → List Kind → List Kind
spell_signed sign t rest = spell_sign sign (spell_term (view_term t) rest)

-- and their numbers: a sign is a token, and none is not
abbrev pub number_signed : Option Sign → Term → Step
number_signed sign t = number_sign sign >> number_term t
