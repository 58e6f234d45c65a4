use Rattle.model.specs.Types.{Events}
use Rattle.model.specs.History.{list_of}
use Rattle.counted_facts.proofs.Unspoken.{limit_set}
use Rattle.counted_facts.proofs.streams.stream_told.Goals as goal

pub returns : goal.returns
returns c =
    λ i. record {
      released = c.is_released_at.ensures i;
      ended = c.is_ended_at.ensures i;
      cancelled = c.is_cancelled_at.ensures i;
      limit = limit_set c.args.s c.stream_limit_set_at.result (list_of c.args.kept.now (Events c.args.w))
          c.stream_limit_set_at.ensures i;
    }
