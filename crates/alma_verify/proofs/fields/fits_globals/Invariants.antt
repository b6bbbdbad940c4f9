use Rattle.std.proofs.Common.{take}
use Rattle.std.specs.Prelude.{All}
use Rattle.alma_code.specs.declared.code.CodeGlobal.{CodeGlobal}
use Rattle.alma_code.specs.Plain.{global_of}
use Rattle.alma_object.specs.Fields.{FitsGlobal}
use Rattle.alma_verify.proofs.fields.fits_globals.Given as goal

abbrev pub invariant-loop-global : goal.invariant-loop-global
invariant-loop-global l = All (λ (g : CodeGlobal). FitsGlobal (global_of g)) (take l.global-index l.globals)
