use Rattle.owner_rows.specs.Deps.{IsRowOfDep}
use Rattle.owner_rows.specs.Jobs.{IsJobRow}
use Rattle.owner_rows.specs.Objects.{IsRowOfObject}
use Rattle.owner_rows.specs.Starts.{IsStartRow}
use Rattle.owner_rows.specs.Streams.{IsStreamRow}
use Rattle.owner_rows.proofs.Rows.{rows_same}
use Rattle.owner_rows.proofs.work_tables.WorkTables.prepare.Goals as goal

pub returns-in_err-prepare-4-clause-same : goal.returns-in_err-prepare-4-clause-same
returns-in_err-prepare-4-clause-same c kept h = record {
  jobs = rows_same IsJobRow kept _ _ c.prepare.ensures.same h.jobs;
  starts = rows_same IsStartRow kept _ _ c.prepare-2.ensures.same h.starts;
  streams = rows_same IsStreamRow kept _ _ c.prepare-3.ensures.same h.streams;
  objects = rows_same IsRowOfObject kept _ _ c.prepare-4.ensures.same h.objects;
  deps = h.deps;
}

pub returns-in_err-prepare-5-clause-same : goal.returns-in_err-prepare-5-clause-same
returns-in_err-prepare-5-clause-same c kept h = record {
  jobs = rows_same IsJobRow kept _ _ c.prepare.ensures.same h.jobs;
  starts = rows_same IsStartRow kept _ _ c.prepare-2.ensures.same h.starts;
  streams = rows_same IsStreamRow kept _ _ c.prepare-3.ensures.same h.streams;
  objects = rows_same IsRowOfObject kept _ _ c.prepare-4.ensures.same h.objects;
  deps = rows_same IsRowOfDep kept _ _ c.prepare-5.ensures.same h.deps;
}

pub returns-clause-same : goal.returns-clause-same
returns-clause-same c kept h = record {
  jobs = rows_same IsJobRow kept _ _ c.prepare.ensures.same h.jobs;
  starts = rows_same IsStartRow kept _ _ c.prepare-2.ensures.same h.starts;
  streams = rows_same IsStreamRow kept _ _ c.prepare-3.ensures.same h.streams;
  objects = rows_same IsRowOfObject kept _ _ c.prepare-4.ensures.same h.objects;
  deps = rows_same IsRowOfDep kept _ _ c.prepare-5.ensures.same h.deps;
}
