use Rattle.owner_rows.proofs.JobTelling.{job_told}
use Rattle.owner_rows.proofs.jobs.JobRow.after.Goals as goal

pub returns : goal.returns
returns c events room h =
    job_told c.args.j events c.args.body.now c.args.self.now _ c.is_launch.result c.is_rerun.result room h
    c.is_launch.ensures c.is_rerun.ensures c.counted.ensures c.counted-2.ensures c.last_after.ensures
