-- The bytes of a text are those of its statement, and no other statement has any.
use Rattle.std.proofs.Common.{◌≡◌, length, ap, sym, ◌∙◌, subst, arith}
use Rattle.alma_ir.specs.Count.{saturate}
use Rattle.alma_ir.specs.Inner.Measures.{own}
use Rattle.alma_ir.specs.View.{stmt_of}
use Rattle.alma_ir.specs.declared.inside.Measure.TheVariants as measure
use Rattle.alma_ir.proofs.Counted.{no_bytes, text_bytes_of}
use Rattle.alma_ir.proofs.inside.own_amount.Goals as goal

pub returns-in-WriteText : goal.returns-in-WriteText
returns-in-WriteText c =
    let own_is : own c.args.measure (stmt_of c.args.stmt.now) ≡ length c.in-WriteText.text.items =
    ap (λ m. own m (stmt_of c.args.stmt.now)) c.in-TextBytes.is ∙ ap (λ x. own measure.TextBytes (stmt_of x)) c.in-WriteText.is
    ∙ text_bytes_of c.in-WriteText.text in
    subst (λ n. c.len.result ≡ saturate n) (sym own_is)
    (omega (arith, c.len.ensures, c.in-WriteText.text.ok, c.in-WriteText.text.small))

pub returns-in_default : goal.returns-in_default
returns-in_default c =
    ap saturate (sym (ap (λ m. own m (stmt_of c.args.stmt.now)) c.in-TextBytes.is ∙ no_bytes _ c.in_default.not-WriteText))
