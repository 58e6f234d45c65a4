use Rattle.std.proofs.Common.{refl}
use Rattle.owner_rows.proofs.JobTelling.{job_of_none}
use Rattle.owner_rows.proofs.jobs.JobRow.blank.Goals as goal

pub returns : goal.returns
returns c j = job_of_none j _ refl refl refl
