use Rattle.std.proofs.Common.{◌∙◌}
use Rattle.owner_rows.specs.Answers.{IsAnswerRow}
use Rattle.owner_rows.specs.Replies.{IsPlanRow, IsReplyRow}
use Rattle.owner_rows.specs.Stations.{IsStationRow}
use Rattle.owner_rows.specs.Totals.{IsTotalRow}
use Rattle.owner_rows.specs.Counts.{feed_key}
use Rattle.owner_rows.proofs.Rows.{rows_same}
use Rattle.owner_rows.proofs.station_tables.StationTables.prepare.Goals as goal

pub returns-in_err-prepare-4-clause-same : goal.returns-in_err-prepare-4-clause-same
returns-in_err-prepare-4-clause-same c kept h = record {
  counts = λ f. c.prepare.ensures.same (feed_key f) ∙ h.counts f;
  stations = rows_same IsStationRow kept _ _ c.prepare-2.ensures.same h.stations;
  answers = rows_same IsAnswerRow kept _ _ c.prepare-3.ensures.same h.answers;
  totals = rows_same IsTotalRow kept _ _ c.prepare-4.ensures.same h.totals;
  plans = h.plans;
  replies = h.replies;
}

pub returns-in_err-prepare-5-clause-same : goal.returns-in_err-prepare-5-clause-same
returns-in_err-prepare-5-clause-same c kept h = record {
  counts = λ f. c.prepare.ensures.same (feed_key f) ∙ h.counts f;
  stations = rows_same IsStationRow kept _ _ c.prepare-2.ensures.same h.stations;
  answers = rows_same IsAnswerRow kept _ _ c.prepare-3.ensures.same h.answers;
  totals = rows_same IsTotalRow kept _ _ c.prepare-4.ensures.same h.totals;
  plans = rows_same IsPlanRow kept _ _ c.prepare-5.ensures.same h.plans;
  replies = h.replies;
}

pub returns-in_err-prepare-6-clause-same : goal.returns-in_err-prepare-6-clause-same
returns-in_err-prepare-6-clause-same c kept h = record {
  counts = λ f. c.prepare.ensures.same (feed_key f) ∙ h.counts f;
  stations = rows_same IsStationRow kept _ _ c.prepare-2.ensures.same h.stations;
  answers = rows_same IsAnswerRow kept _ _ c.prepare-3.ensures.same h.answers;
  totals = rows_same IsTotalRow kept _ _ c.prepare-4.ensures.same h.totals;
  plans = rows_same IsPlanRow kept _ _ c.prepare-5.ensures.same h.plans;
  replies = rows_same IsReplyRow kept _ _ c.prepare-6.ensures.same h.replies;
}

pub returns-clause-same : goal.returns-clause-same
returns-clause-same c kept h = record {
  counts = λ f. c.prepare.ensures.same (feed_key f) ∙ h.counts f;
  stations = rows_same IsStationRow kept _ _ c.prepare-2.ensures.same h.stations;
  answers = rows_same IsAnswerRow kept _ _ c.prepare-3.ensures.same h.answers;
  totals = rows_same IsTotalRow kept _ _ c.prepare-4.ensures.same h.totals;
  plans = rows_same IsPlanRow kept _ _ c.prepare-5.ensures.same h.plans;
  replies = rows_same IsReplyRow kept _ _ c.prepare-6.ensures.same h.replies;
}
