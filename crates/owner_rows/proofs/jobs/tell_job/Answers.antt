use Rattle.std.proofs.Math.Dec.{eqb}
use Rattle.std.proofs.Common.{subst, sym, ◌∙◌}
use Rattle.lemmas.proofs.Numbers.{number_itself, number_tells}
use Rattle.owner_rows.specs.Jobs.{IsJobRow}
use Rattle.owner_rows.specs.Subjects.{job_in}
use Rattle.owner_rows.specs.Tables.{row_in}
use Rattle.owner_rows.proofs.JobTelling.{job_quiet}
use Rattle.owner_rows.proofs.Rows.{rows_stay, rows_told}
use Rattle.owner_rows.proofs.jobs.tell_job.Goals as goal

pub returns-in-Some : goal.returns-in-Some
returns-in-Some c kept room h =
    rows_told eqb number_tells number_itself IsJobRow job_in job_quiet kept c.args.e.now (row_in c.args.jobs.now) h (c.in-Some.w, c.in-Some.j)
    c.after.result (row_in c.put.new.self) (sym c.job_key.ensures ∙ c.in-Some.is) room
    (λ short subject. c.after.ensures _ short (subst (IsJobRow _ c.in-Some.j) (sym c.row-row.ensures) (h c.in-Some.w c.in-Some.j)))
    c.put.ensures

pub returns-in_default : goal.returns-in_default
returns-in_default c kept room h =
    rows_stay eqb number_tells number_itself IsJobRow job_in job_quiet kept c.args.e.now (row_in c.args.jobs.now) h (sym c.job_key.ensures ∙ c.in_default.is)
