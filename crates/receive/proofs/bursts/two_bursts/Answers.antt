use Rattle.receive.proofs.Bursting.{form_bursts}
use Rattle.receive.proofs.bursts.two_bursts.Goals as goal

pub returns-clause-bursts : goal.returns-clause-bursts
returns-clause-bursts g c = form_bursts g.row.S.Denot
