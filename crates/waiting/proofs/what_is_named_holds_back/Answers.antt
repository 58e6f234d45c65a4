use Rattle.waiting.proofs.Claimed.{end_held, job_held, release_held}
use Rattle.waiting.proofs.what_is_named_holds_back.Goals as goal

pub returns-clause-job : goal.returns-clause-job
returns-clause-job c = job_held

pub returns-clause-release : goal.returns-clause-release
returns-clause-release c = release_held

pub returns-clause-end : goal.returns-clause-end
returns-clause-end c = end_held
