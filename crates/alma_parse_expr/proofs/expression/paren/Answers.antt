use Rattle.std.proofs.Common.{◌∷◌, refl, ap}
use Rattle.alma_tree.specs.declared.kind.Kind.TheVariants as kinds
use Rattle.alma_tree.specs.declared.phrase.Primary as dp
use Rattle.alma_tree.specs.Spelling.{spell_primary}
use Rattle.alma_tree.specs.Numbers.{token, node, ◌>>◌, number_stmts}
use Rattle.alma_tree.specs.Numbers.{number_primary}
use Rattle.alma_tree.proofs.Rows as rows
use Rattle.alma_tree.proofs.NumberRows as numbers
use Rattle.alma_grammar.specs.Parts.{one}
use Rattle.alma_grammar.specs.Parts.{stmts_parts}
use Rattle.alma_parse_cursor.proofs.Steps.{opened, first}
use Rattle.alma_parse_expr.proofs.Stopped.{stopped}
use Rattle.alma_parse_expr.proofs.Made.{made_gives, behind_front}
use Rattle.alma_parse_expr.proofs.Chain.{matching, ended_behind, in_box}
use Rattle.alma_parse_expr.proofs.Values.{a_primary, some_stmts}
use Rattle.alma_parse_expr.proofs.expression.paren.Goals as goal

pub returns : goal.returns
returns g c = record {
  read = made_gives (λ v ks. kinds.OpenParen ∷ some_stmts v.0.value (kinds.CloseParen ∷ ks))
      (λ v. token >> number_stmts v.0.value >> token >> node v.1) a_primary number_primary _ _ _ _ (λ v. dp.Paren v.1 v.0)
      (λ v. ap spell_primary (rows.paren_laid v.1 v.0)) (λ v. numbers.paren_laid v.1 v.0) c.numbered.result c.paren_of.result
      c.paren_of.ensures.made (behind_front (λ v ks. some_stmts v.0.value (kinds.CloseParen ∷ ks))
      (λ v. number_stmts v.0.value >> token >> node v.1) (opened refl c.in_ok-at.ensures.opened)
      (λ o. stmts_parts (one kinds.CloseParen ∷ o))
      _ c.numbered.result (ended_behind (λ v. some_stmts v.value) (λ v. number_stmts v.value) _ _ _ _ _ _
      (matching kinds.CloseParen refl refl c.in_ok-at.ensures.opened) c.boxed-body.result c.followed_by.result
      c.followed_by.ensures.followed
      (in_box some_stmts number_stmts _ _ _ _ c.inside.result c.boxed-body.result c.boxed-body.ensures.boxed
      (c.requires.reads.each_call _ _ _ _ c.inside.ensures)) c.numbered.result c.numbered.ensures.numbered));
}

pub returns-in_err-at : goal.returns-in_err-at
returns-in_err-at g c = record { read = stopped _ _ _ _ c.from_residual.ensures.1 (first c.in_err-at.ensures.opened) }

pub open-requires : goal.open-requires
open-requires g c = record { opening = refl }
