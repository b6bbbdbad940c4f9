use Rattle.std.proofs.Common.{◌≡◌, ap, sym, subst, ◌∙◌}
use Rattle.std.specs.Prelude.{true, false}
use Rattle.alma_code.specs.Plain.{code_of}
use Rattle.alma_code.specs.Rules.{IsSound}
use Rattle.alma_object.specs.View.{code_of_view}
use Rattle.alma_object.proofs.Again.{code_again}
use Rattle.alma_object.proofs.Clean.{object_clean}
use Rattle.alma_verify.proofs.opening.open_encoded.Goals as goal

pub unreachable-requires : goal.unreachable-requires
unreachable-requires c =
    let clean = object_clean (code_of c.args.code.now) c.args.bytes.now c.requires.object c.fits_fields.ensures in
    cc (clean, c.in_default.ensures.fault)

pub unreachable-requires-in-Err : goal.unreachable-requires-in-Err
unreachable-requires-in-Err c =
    let same : code_of_view c.in-Ok.view ≡ code_of c.args.code.now =
    c.in-Ok.ensures.code ∙ code_again (code_of c.args.code.now) c.args.bytes.now c.requires.object c.fits_fields.ensures in
    let no : false ≡ true = c.in-Err.ensures.complete (subst IsSound (sym same) c.requires.sound) in
    cc no

pub returns : goal.returns
returns c =
    let same : code_of_view c.in-Ok.view ≡ code_of c.args.code.now =
    c.in-Ok.ensures.code ∙ code_again (code_of c.args.code.now) c.args.bytes.now c.requires.object c.fits_fields.ensures in
    ap code_of_view c.in-Ok-verify.ensures.view ∙ same
