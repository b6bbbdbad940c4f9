use Rattle.alma_resolved.proofs.Checks.{body_fits}
use Rattle.alma_resolved.proofs.laws.body_fits_its_place.Goals as goal

-- src/laws.rt:15:1
pub returns : goal.returns
returns c = body_fits
