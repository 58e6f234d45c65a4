-- What decides between two ready jobs.
use Rattle.std.specs.Prelude.{if◌then◌else◌, None, Option, Some}
use Rattle.model.specs.History.{View}
use Rattle.model.specs.Catalogue.{StreamJob}
use Rattle.model.specs.Readiness.{job_priority, stream_priority}
use Rattle.decision_rules.specs.Ranks.{comes_before}
use Rattle.decision_rules.specs.declared.Rank.{Rank}

-- the rank of a job
abbrev pub rank_of : View → StreamJob → Rank
rank_of V p =
    record {
      stream = stream_priority V p.parent;
      job = job_priority V p;
      number = p.doc.no;
    }

-- the better of the best so far and the next
abbrev pub better_rank : Option Rank → Rank → Rank
better_rank None next = next
better_rank (Some before) next = if comes_before next before then next else before
