use Rattle.owner_rows.proofs.told.Told.prepare.Goals as goal

pub returns-in_err-prepare-clause-same : goal.returns-in_err-prepare-clause-same
returns-in_err-prepare-clause-same c kept h =
    record { work = c.prepare.ensures.same kept h.work; stations = h.stations }

pub returns-in_err-prepare-2-clause-same : goal.returns-in_err-prepare-2-clause-same
returns-in_err-prepare-2-clause-same c kept h = record {
  work = c.prepare.ensures.same kept h.work;
  stations = c.prepare-2.ensures.same kept h.stations;
}

pub returns-clause-same : goal.returns-clause-same
returns-clause-same c kept h = record {
  work = c.prepare.ensures.same kept h.work;
  stations = c.prepare-2.ensures.same kept h.stations;
}
