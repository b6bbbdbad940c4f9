use Rattle.std.proofs.Common.{subst, ◌<◌, ◌^◌}
use Rattle.std.specs.Prelude.{All}
use Rattle.std.proofs.lemmas.List.Elements.{All-map}
use Rattle.alma_code.specs.declared.code.CodeGlobal.{CodeGlobal}
use Rattle.alma_code.specs.declared.code.Line.{Line}
use Rattle.alma_code.specs.Plain.{global_of}
use Rattle.alma_object.specs.Fields.{FitsGlobal, FitsInstr, FitsRange}
use Rattle.alma_verify.specs.Heads.{FitsHead}
use Rattle.alma_verify.proofs.Fitting.{routines_fit, params_fit, runs_fit}
use Rattle.alma_verify.proofs.fields.fits_fields.Goals as goal

pub returns : goal.returns
returns c =
    let code = c.args.code.now in
    let rows = code.routines.items in
    let heads = subst (All FitsHead) c.deref.ensures.value c.fits_heads.ensures in
    let globals = subst (All (λ (g : CodeGlobal). FitsGlobal (global_of g))) c.deref-2.ensures.value c.fits_globals.ensures in
    record {
      routines = routines_fit rows heads;
      globals = All-map FitsGlobal global_of code.globals.items globals;
      params = params_fit rows heads;
      runs = runs_fit rows heads;
      ranges = subst (All FitsRange) c.deref-3.ensures.value c.fits_ranges.ensures;
      instrs = subst (All FitsInstr) c.deref-4.ensures.value c.fits_instrs.ensures;
      lines = subst (All (λ (x : Line). x.line < 2 ^ 32)) c.deref-5.ensures.value c.fits_lines.ensures;
    }
