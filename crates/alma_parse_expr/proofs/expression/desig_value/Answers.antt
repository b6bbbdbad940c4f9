use Rattle.std.proofs.Common.{◌∷◌, Ok, Err}
use Rattle.alma_tree.specs.Spelling.{spell_expr}
use Rattle.alma_tree.specs.View.{view_expr}
use Rattle.alma_tree.specs.Numbers.{number_expr}
use Rattle.alma_tree.specs.Numbers.{number_primary}
use Rattle.alma_grammar.specs.Parts.{compared_part}
use Rattle.alma_parse_cursor.proofs.Steps.{twice, first, beyond}
use Rattle.alma_parse_cursor.proofs.Steps.{extended_twice}
use Rattle.alma_parse_expr.proofs.Stopped.{stopped}
use Rattle.alma_parse_expr.proofs.Chain.{ended_extending}
use Rattle.alma_parse_expr.proofs.Values.{a_primary}
use Rattle.alma_parse_expr.proofs.expression.desig_value.Goals as goal

pub returns-in_err-primary : goal.returns-in_err-primary
returns-in_err-primary g c = record {
  read =
      stopped _ _ _ _ c.from_residual.ensures.1
      (first (ended_extending a_primary number_primary _ _ _ _ _ c.named.result (Err _) c.in_err-primary.ensures.numbered
      c.named.ensures.read));
}

pub returns-in_err-first : goal.returns-in_err-first
returns-in_err-first g c = record {
  read =
      stopped _ _ _ _ c.from_residual-in_err-first.ensures.1
      (beyond (ended_extending a_primary number_primary _ _ _ _ _ c.named.result (Ok _) c.in_ok-primary.ensures.numbered
      c.named.ensures.read)
      (first c.in_err-first.ensures.read));
}

pub returns-in_err-left : goal.returns-in_err-left
returns-in_err-left g c = record {
  read =
      stopped _ _ _ _ c.from_residual-in_err-left.ensures.1
      (beyond (twice (ended_extending a_primary number_primary _ _ _ _ _ c.named.result (Ok _) c.in_ok-primary.ensures.numbered
      c.named.ensures.read) c.in_ok-first.ensures.read) (first c.in_err-left.ensures.read));
}

pub returns : goal.returns
returns g c = record {
  read = extended_twice c.expr_from.result (λ v. spell_expr (view_expr v)) number_expr (λ o. compared_part ∷ o)
      (twice (ended_extending a_primary number_primary _ _ _ _ _ c.named.result (Ok _) c.in_ok-primary.ensures.numbered
      c.named.ensures.read)
      (twice c.in_ok-first.ensures.read c.in_ok-left.ensures.read)) c.expr_from.ensures.read;
}
