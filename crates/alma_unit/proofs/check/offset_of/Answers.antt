use Rattle.std.proofs.Common.{length, ap, sym, ◌∙◌}
use Rattle.alma_scan.specs.declared.scanner.Token.{Token}
use Rattle.alma_source.proofs.RefusalLemmas.{offset_at, offset_behind}
use Rattle.alma_unit.proofs.check.offset_of.Goals as goal

pub returns-in-Some : goal.returns-in-Some
returns-in-Some c =
    let found = c.in-Some.ensures.lookup in
    ap (λ (token : Token). token.start) found.1
    ∙ sym (offset_at (length c.args.source.now) c.args.tokens.now c.args.index c.in-Some.token.now found.3.0)

pub returns-in-None : goal.returns-in-None
returns-in-None c = sym (offset_behind (length c.args.source.now) c.args.tokens.now c.args.index c.in-None.ensures.lookup.3)
