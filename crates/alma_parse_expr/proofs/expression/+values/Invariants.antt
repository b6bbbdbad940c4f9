use Rattle.std.proofs.Common.{◌+◌, ◌*◌, length}
use Rattle.alma_tree.specs.Spelling.{spell_term_tail, spell_factor_tail, spell_expr_tail, spell_selector_tail}
use Rattle.alma_tree.specs.View.{terms_of, factors_of, exprs_of, selectors_of}
use Rattle.alma_tree.specs.Numbers.{numbers_of_terms, numbers_of_factors, numbers_of_exprs, numbers_of_selectors}
use Rattle.alma_grammar.specs.Parts.{term_tail, factor_tail, expr_tail, selector_tail}
use Rattle.alma_parse_cursor.specs.Parsing.{position_of}
use Rattle.alma_parse_cursor.proofs.Loops.{Loops}
use Rattle.alma_parse_expr.proofs.expression.+values.Given as goal

-- Each call reads fewer tokens, or as many and comes before in the order of the numbers here.

abbrev pub decreases-args : goal.decreases-args
decreases-args g l = 16 * length (position_of l.at).kinds + 0

abbrev pub decreases-chr : goal.decreases-chr
decreases-chr g l = 16 * length (position_of l.at).kinds + 1

abbrev pub decreases-compared : goal.decreases-compared
decreases-compared g l = 16 * length (position_of l.at).kinds + 1

abbrev pub decreases-desig : goal.decreases-desig
decreases-desig g l = 16 * length (position_of l.at).kinds + 1

abbrev pub decreases-expr_list : goal.decreases-expr_list
decreases-expr_list g l = 16 * length (position_of l.at).kinds + 1

abbrev pub decreases-factors : goal.decreases-factors
decreases-factors g l = 16 * length (position_of l.at).kinds + 1

abbrev pub decreases-index : goal.decreases-index
decreases-index g l = 16 * length (position_of l.at).kinds + 1

abbrev pub decreases-known : goal.decreases-known
decreases-known g l = 16 * length (position_of l.at).kinds + 1

abbrev pub decreases-named : goal.decreases-named
decreases-named g l = 16 * length (position_of l.at).kinds + 1

abbrev pub decreases-ord : goal.decreases-ord
decreases-ord g l = 16 * length (position_of l.at).kinds + 1

abbrev pub decreases-terms : goal.decreases-terms
decreases-terms g l = 16 * length (position_of l.at).kinds + 1

abbrev pub decreases-expr_from : goal.decreases-expr_from
decreases-expr_from g l = 16 * length (position_of l.at).kinds + 2

abbrev pub decreases-primary : goal.decreases-primary
decreases-primary g l = 16 * length (position_of l.at).kinds + 2

abbrev pub decreases-selector : goal.decreases-selector
decreases-selector g l = 16 * length (position_of l.at).kinds + 2

abbrev pub decreases-simple_from : goal.decreases-simple_from
decreases-simple_from g l = 16 * length (position_of l.at).kinds + 2

abbrev pub decreases-term_from : goal.decreases-term_from
decreases-term_from g l = 16 * length (position_of l.at).kinds + 2

abbrev pub decreases-factor : goal.decreases-factor
decreases-factor g l = 16 * length (position_of l.at).kinds + 3

abbrev pub decreases-selectors : goal.decreases-selectors
decreases-selectors g l = 16 * length (position_of l.at).kinds + 3

abbrev pub decreases-term : goal.decreases-term
decreases-term g l = 16 * length (position_of l.at).kinds + 4

abbrev pub decreases-simple : goal.decreases-simple
decreases-simple g l = 16 * length (position_of l.at).kinds + 5

abbrev pub decreases-expr : goal.decreases-expr
decreases-expr g l = 16 * length (position_of l.at).kinds + 6

abbrev pub decreases-exprs : goal.decreases-exprs
decreases-exprs g l = 16 * length (position_of l.at).kinds + 7

abbrev pub decreases-args_values : goal.decreases-args_values
decreases-args_values g l = 16 * length (position_of l.at).kinds + 8

abbrev pub invariant-terms-loop-operator : goal.invariant-terms-loop-operator
invariant-terms-loop-operator g l = Loops (spell_term_tail (terms_of l.more.items)) (numbers_of_terms l.more.items) term_tail l.depth
    (position_of l.fn.at) (position_of l.at)

abbrev pub decreases-terms-loop-operator : goal.decreases-terms-loop-operator
decreases-terms-loop-operator g l = length (position_of l.at).kinds

abbrev pub invariant-factors-loop-operator : goal.invariant-factors-loop-operator
invariant-factors-loop-operator g l = Loops (spell_factor_tail (factors_of l.more.items)) (numbers_of_factors l.more.items) factor_tail
    l.depth
    (position_of l.fn.at) (position_of l.at)

abbrev pub decreases-factors-loop-operator : goal.decreases-factors-loop-operator
decreases-factors-loop-operator g l = length (position_of l.at).kinds

abbrev pub invariant-expr_list-loop-after : goal.invariant-expr_list-loop-after
invariant-expr_list-loop-after g l = Loops (spell_expr_tail (exprs_of l.more.items)) (numbers_of_exprs l.more.items) expr_tail l.depth
    (position_of l.fn.at) (position_of l.at)

abbrev pub decreases-expr_list-loop-after : goal.decreases-expr_list-loop-after
decreases-expr_list-loop-after g l = length (position_of l.at).kinds

abbrev pub invariant-selectors-loop-form : goal.invariant-selectors-loop-form
invariant-selectors-loop-form g l = Loops (spell_selector_tail (selectors_of l.more.items))
    (numbers_of_selectors l.more.items) selector_tail l.depth (position_of l.fn.at) (position_of l.at)

abbrev pub decreases-selectors-loop-form : goal.decreases-selectors-loop-form
decreases-selectors-loop-form g l = length (position_of l.at).kinds
