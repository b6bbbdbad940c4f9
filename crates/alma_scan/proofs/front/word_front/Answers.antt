use Rattle.std.proofs.Common.{◌++◌, subst, sym, ap, ◌∙◌}
use Rattle.std.specs.Prelude.{Option, unwrap_or}
use Rattle.alma_base.specs.Bytes.{is_letter}
use Rattle.alma_tree.specs.declared.kind.Kind.{Kind}
use Rattle.alma_tree.specs.declared.kind.Kind.TheVariants as kinds
use Rattle.alma_scan.specs.Bytes.{Begins}
use Rattle.alma_scan.specs.Tokens.{IsToken}
use Rattle.alma_scan.proofs.Standing.{word_token}
use Rattle.alma_scan.proofs.front.word_front.Goals as goal

pub returns : goal.returns
returns c =
    let text = c.split_run.result.0.now in
    let rest = c.split_run.result.1.now in
    let first : Begins is_letter (text ++ rest) = subst (Begins is_letter) c.split_run.ensures.whole c.requires in
    let kind = ap (λ (o : Option Kind). unwrap_or o kinds.Name) (sym c.reserved_kind.ensures) ∙ sym c.unwrap_or-kind.ensures in
    record {
      whole = c.split_run.ensures.whole;
      token = subst (λ (k : Kind). IsToken k text rest) kind (word_token text rest first c.split_run.ensures.run c.split_run.ensures.stop);
    }
