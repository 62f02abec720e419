use Rattle.orc_job.proofs.Faults.{one_reading}
use Rattle.orc_job.proofs.reading.one_reading.Goals as goal

pub returns : goal.returns
returns c = one_reading
