use Rattle.alma_code_laws.proofs.laws.start_fits.Goals as goal
use Rattle.alma_code_laws.proofs.Runs as Runs

pub returns : goal.returns
returns c = Runs.start_fits
