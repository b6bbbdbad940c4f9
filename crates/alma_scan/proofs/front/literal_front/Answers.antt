use Rattle.std.proofs.Common.{◌++◌, ◌∷◌, ℕ, List, subst, sym, ap, ◌∙◌}
use Rattle.alma_tree.specs.declared.kind.Kind.TheVariants as kinds
use Rattle.alma_scan.specs.Bytes.{Begins, is_quote}
use Rattle.alma_scan.specs.Tokens.{IsToken}
use Rattle.alma_scan.proofs.Standing.{literal_token, literal_rest, literal_text}
use Rattle.alma_scan.proofs.front.literal_front.Goals as goal

pub returns-in-Some-split_first : goal.returns-in-Some-split_first
returns-in-Some-split_first c =
    let quote = c.in-Some.quote.now in
    let inside = c.split_run.result.0.now in
    let rest = c.in-Some-split_first.rest.now in
    let begins = c.in-Some.ensures.cases.0 in
    let whole = literal_rest quote _ c.args.bytes.now _ inside _ rest begins c.split_run.ensures.whole c.in-Some-split_first.ensures.cases.0
    c.if-closing-quote.true in
    let text = literal_text quote c.args.bytes.now inside rest whole in
    let first : Begins is_quote (quote ∷ c.in-Some.inner.now) = subst (Begins is_quote) begins c.requires in
    record {
      whole = whole ∙ ap (λ (z : List ℕ). z ++ rest) (sym text);
      token = subst (λ (z : List ℕ). IsToken kinds.Literal z rest) (sym text)
          (literal_token quote inside rest first c.split_run.ensures.run);
    }
