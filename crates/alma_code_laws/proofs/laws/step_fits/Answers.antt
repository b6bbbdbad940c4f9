use Rattle.alma_code_laws.proofs.laws.step_fits.Goals as goal
use Rattle.alma_code_laws.proofs.Runs as Runs

pub returns : goal.returns
returns c = Runs.stays_fit
