use Rattle.std.proofs.Common.{◌<◌, length, rules, sym, ◌∙◌}
use Rattle.alma_verify.proofs.SameKinds.{fit_like}
use Rattle.alma_verify.proofs.seen.SeenCalls.fits_like_latest.Goals as goal

pub returns-then-is_free : goal.returns-then-is_free
returns-then-is_free g c =
    λ yes. let code = g.R.CodeReader.code c.args.reader.now in
    let within : c.latest_place.result < length c.args.self.now.latest = search rules in
    let fit = c.requires.seen.latest c.latest_place.result _ within in
    let free = sym c.is_free.ensures ∙ c.if-is_free.true in
    fit_like code _ c.args.call c.param_count-count.result (c.are_alike.ensures yes) fit c.if-latest-call.false
    c.param_count-count.ensures c.requires.caller free
