use Rattle.std.proofs.Common.{◌∷◌}
use Rattle.alma_tree.specs.Spelling.{spell_stmt}
use Rattle.alma_tree.specs.View.{view_stmt}
use Rattle.alma_tree.specs.Numbers.{number_stmt}
use Rattle.alma_grammar.specs.Parts.{stmt_part}
use Rattle.alma_parse_cursor.specs.Forms as forms
use Rattle.alma_parse_cursor.proofs.Steps.{instead}
use Rattle.alma_parse_stmt.proofs.statement.stmt.Goals as goal

pub returns-in-If : goal.returns-in-If
returns-in-If g c = record {
  read = instead c.if_stmt.result (λ v. spell_stmt (view_stmt v)) number_stmt (λ o. stmt_part ∷ o)
      forms.if_parts c.args.depth _ (rw c.in-If.is at c.stmt_form.ensures.becomes) c.if_stmt.ensures.read;
}

pub returns-in-While : goal.returns-in-While
returns-in-While g c = record {
  read = instead c.while_stmt.result (λ v. spell_stmt (view_stmt v)) number_stmt (λ o. stmt_part ∷ o)
      forms.while_parts c.args.depth _ (rw c.in-While.is at c.stmt_form.ensures.becomes) c.while_stmt.ensures.read;
}

pub returns-in-Repeat : goal.returns-in-Repeat
returns-in-Repeat g c = record {
  read = instead c.repeat_stmt.result (λ v. spell_stmt (view_stmt v)) number_stmt (λ o. stmt_part ∷ o)
      forms.repeat_parts c.args.depth _ (rw c.in-Repeat.is at c.stmt_form.ensures.becomes) c.repeat_stmt.ensures.read;
}

pub returns-in-For : goal.returns-in-For
returns-in-For g c = record {
  read = instead c.for_stmt.result (λ v. spell_stmt (view_stmt v)) number_stmt (λ o. stmt_part ∷ o)
      forms.for_parts c.args.depth _ (rw c.in-For.is at c.stmt_form.ensures.becomes) c.for_stmt.ensures.read;
}

pub returns-in-Some : goal.returns-in-Some
returns-in-Some g c = record {
  read = instead c.some_stmt.result (λ v. spell_stmt (view_stmt v)) number_stmt (λ o. stmt_part ∷ o)
      forms.some_parts c.args.depth _ (rw c.in-Some.is at c.stmt_form.ensures.becomes) c.some_stmt.ensures.read;
}

pub returns-in-Case : goal.returns-in-Case
returns-in-Case g c = record {
  read = instead c.case_stmt.result (λ v. spell_stmt (view_stmt v)) number_stmt (λ o. stmt_part ∷ o)
      forms.case_parts c.args.depth _ (rw c.in-Case.is at c.stmt_form.ensures.becomes) c.case_stmt.ensures.read;
}

pub returns-in-Either : goal.returns-in-Either
returns-in-Either g c = record {
  read = instead c.either_stmt.result (λ v. spell_stmt (view_stmt v)) number_stmt (λ o. stmt_part ∷ o)
      forms.either_parts c.args.depth _ (rw c.in-Either.is at c.stmt_form.ensures.becomes) c.either_stmt.ensures.read;
}

pub returns-in-Forall : goal.returns-in-Forall
returns-in-Forall g c = record {
  read = instead c.forall_stmt.result (λ v. spell_stmt (view_stmt v)) number_stmt (λ o. stmt_part ∷ o)
      forms.forall_parts c.args.depth _ (rw c.in-Forall.is at c.stmt_form.ensures.becomes) c.forall_stmt.ensures.read;
}

pub returns-in-Commit : goal.returns-in-Commit
returns-in-Commit g c = record {
  read = instead c.commit_stmt.result (λ v. spell_stmt (view_stmt v)) number_stmt (λ o. stmt_part ∷ o)
      forms.commit_parts c.args.depth _ (rw c.in-Commit.is at c.stmt_form.ensures.becomes) c.commit_stmt.ensures.read;
}

pub returns-in_default : goal.returns-in_default
returns-in_default g c = record {
  read = instead c.simple_stmt.result (λ v. spell_stmt (view_stmt v)) number_stmt (λ o. stmt_part ∷ o)
      (forms.stmt_form_parts c.stmt_form.result) c.args.depth _ c.stmt_form.ensures.becomes c.simple_stmt.ensures.read;
}
