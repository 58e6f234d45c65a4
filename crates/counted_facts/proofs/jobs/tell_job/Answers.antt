use Rattle.counted_facts.specs.Facts.{is_done}
use Rattle.counted_facts.specs.Subjects.{job_told_in}
use Rattle.counted_facts.proofs.Telling.{keyed_none, keyed_told}
use Rattle.counted_facts.proofs.Unspoken.{done_stays}
use Rattle.counted_facts.proofs.jobs.tell_job.Goals as goal

pub returns-in-None : goal.returns-in-None
returns-in-None c =
    keyed_none is_done job_told_in done_stays c.args.kept.now c.args.e.now c.job_key.result c.job_key.ensures
    c.args.jobs.now c.in-None.is

pub returns-in-Some : goal.returns-in-Some
returns-in-Some c =
    keyed_told is_done job_told_in done_stays c.args.kept.now c.args.e.now c.job_key.result c.job_key.ensures
    c.tell.result c.in-Some.w c.in-Some.j c.from.result c.is_done.result c.args.jobs.now c.tell.new.self c.in-Some.is
    c.from.ensures c.is_done.ensures c.tell.ensures
