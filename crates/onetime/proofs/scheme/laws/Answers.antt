use Rattle.onetime.proofs.Theorems.{chains_meet, paths_lead_up, signatures_accepted}
use Rattle.onetime.proofs.scheme.laws.Goals as goal

pub returns : goal.returns
returns c = record { chains = chains_meet; paths = paths_lead_up; accepted = signatures_accepted }
