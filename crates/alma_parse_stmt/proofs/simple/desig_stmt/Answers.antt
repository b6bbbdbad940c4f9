use Rattle.std.proofs.Common.{◌∷◌, refl, sym, ◌∙◌}
use Rattle.alma_tree.specs.declared.kind.Kind.TheVariants as kinds
use Rattle.alma_tree.specs.Spelling.{spell_desig, spell_stmt}
use Rattle.alma_tree.specs.View.{view_desig}
use Rattle.alma_tree.specs.View.{view_stmt}
use Rattle.alma_tree.specs.Numbers.{node, ◌>>◌, number_stmt, number_expr}
use Rattle.alma_tree.specs.Numbers.{number_desig}
use Rattle.alma_grammar.specs.Parts.{one}
use Rattle.alma_grammar.specs.Parts.{factor_tail, term_tail, compared_part, args_part, after_desig, expr_parts}
use Rattle.alma_parse_cursor.proofs.Steps.{first}
use Rattle.alma_parse_cursor.proofs.Steps.{extended, instead_extending}
use Rattle.alma_parse_expr.proofs.Stopped.{stopped}
use Rattle.alma_parse_expr.proofs.Made.{made_gives}
use Rattle.alma_parse_expr.proofs.Chain.{ended_extending}
use Rattle.alma_parse_expr.proofs.Heads as heads
use Rattle.alma_parse_expr.proofs.Values.{a_stmt, an_expr}
use Rattle.alma_tree.specs.declared.phrase.Stmt as dt
use Rattle.alma_parse_stmt.proofs.simple.desig_stmt.Goals as goal

pub returns-in_err-desig : goal.returns-in_err-desig
returns-in_err-desig g c = record { read = stopped _ _ _ _ c.from_residual.ensures.1 (first c.in_err-desig.ensures.read) }

pub returns-then-is_at : goal.returns-then-is_at
returns-then-is_at g c = record {
  read = extended c.assign.result (λ v. spell_stmt (view_stmt v)) number_stmt (λ o. after_desig
      ∷ o) c.in_ok-desig.ensures.read (instead_extending c.assign.result (λ v. spell_stmt (view_stmt v)) number_stmt (λ o. after_desig ∷ o)
      (λ o. one
      kinds.Assign ∷ expr_parts o) c.args.depth _ (spell_desig (view_desig c.in_ok-desig.desig)) (number_desig c.in_ok-desig.desig)
      (heads.at_assign _
      (sym c.is_at.ensures.starts ∙ c.if-is_at.true)) c.assign.ensures.read);
}

pub returns : goal.returns
returns g c = record {
  read = made_gives (λ v. an_expr v.0) (λ v. number_expr v.0 >> node v.1) a_stmt number_stmt _ _ _ _
      (λ v. dt.Value v.1 v.0) (λ v. refl) (λ v. refl) c.numbered.result _ c.value_of.ensures.made
      (extended c.numbered.result (λ v. an_expr v.0) (λ v. number_expr v.0 >> node v.1) (λ o. after_desig ∷ o) c.in_ok-desig.ensures.read
      (instead_extending c.numbered.result (λ v. an_expr v.0) (λ v. number_expr v.0 >> node v.1) (λ o. after_desig ∷ o)
      (λ o. args_part ∷ factor_tail ∷ term_tail ∷ compared_part ∷ o) c.args.depth _ (spell_desig (view_desig c.in_ok-desig.desig))
      (number_desig c.in_ok-desig.desig) (heads.no_assign _ (sym c.is_at.ensures.starts ∙ c.if-is_at.false))
      (ended_extending an_expr number_expr _ _ _ _ _ c.desig_value.result c.numbered.result c.numbered.ensures.numbered
      c.desig_value.ensures.read)));
}
