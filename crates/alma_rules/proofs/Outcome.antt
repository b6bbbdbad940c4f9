-- What the definitions say of a source: its resolved program, or the least broken rule with the first token of its node.
use Rattle.std.specs.Prelude.{ℕ, List, [], ◌∷◌, Option, None, Some}
use Rattle.alma_base.specs.declared.fault.CheckFault.{CheckFault}
use Rattle.alma_scan.specs.Tokens.{Lexeme}
use Rattle.alma_names.specs.Shapes.{cell_counts}
use Rattle.alma_ir.specs.Tree.{Program, Routine}
use Rattle.alma_ir.specs.Lines.{stmts_with}
use Rattle.alma_ir.specs.Phrases.{stmts_phrases}
use Rattle.alma_rules.specs.Numbered.{Module}
use Rattle.alma_rules.specs.Judgement.{BrokenRule}
use Rattle.alma_rules.specs.Walk.{judge_expr}
use Rattle.alma_rules.specs.Places.{mark_stmts, mark_type, mark_block}
use Rattle.alma_rules.specs.Types.{read_type, type_names}
use Rattle.alma_rules.specs.Decls.{block_routines}
use Rattle.alma_rules.specs.Modules.{judge_block, check_fault, resolution, first_token_of}

pub data Outcome : Type 0 where
  Resolved : Program → Outcome
  Refused : (node : ℕ) → CheckFault → (token : ℕ) → Outcome
  Neither : Outcome
  Both : (node : ℕ) → CheckFault → Program → Outcome

-- the routines with the line of each statement at the statement
abbrev pub with_lines : List Routine → List Routine
with_lines [] = []
with_lines (r ∷ rs) = record r { body = stmts_with r.body r.lines } ∷ with_lines rs

abbrev pub lined : Program → Program
lined p = record p { routines = with_lines p.routines }

abbrev pub outcome_of : Module → Option BrokenRule → Option Program → Outcome
outcome_of m None (Some p) = Resolved (lined p)
outcome_of m (Some b) None = Refused b.node b.fault (first_token_of m b.node)
outcome_of m None None = Neither
outcome_of m (Some b) (Some p) = Both b.node b.fault p

unfoldable pub outcome : List ℕ → List Lexeme → Module → Outcome
unfolding judge_block judge_expr read_type type_names block_routines mark_stmts mark_type mark_block cell_counts stmts_with stmts_phrases
outcome source tokens m = outcome_of m (check_fault source tokens m) (resolution source tokens m)
