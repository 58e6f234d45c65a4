use Rattle.owner_rows.proofs.work_tables.WorkTables.tell.Goals as goal

pub returns : goal.returns
returns c kept room h = record {
  jobs = c.tell_job.ensures kept room h.jobs;
  starts = c.tell_start.ensures kept room h.starts;
  streams = c.tell_stream.ensures kept room h.streams;
  objects = c.tell_object.ensures kept room h.objects;
  deps = c.tell_dep.ensures kept room h.deps;
}
