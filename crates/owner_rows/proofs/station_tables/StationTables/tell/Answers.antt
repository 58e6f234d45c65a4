use Rattle.owner_rows.proofs.station_tables.StationTables.tell.Goals as goal

pub returns : goal.returns
returns c kept room h = record {
  counts = c.tell_count.ensures kept room h.counts;
  stations = c.tell_station.ensures kept room h.stations;
  answers = c.tell_answer.ensures kept room h.answers;
  totals = c.tell_total.ensures kept room h.totals;
  plans = c.tell_plan.ensures kept room h.plans;
  replies = c.tell_reply.ensures kept room h.plans h.replies;
}
