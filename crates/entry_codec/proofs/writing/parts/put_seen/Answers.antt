use Rattle.std.proofs.Common.{◌++◌, ◌∙◌, ap, length, subst}
use Rattle.model.specs.Fields.{u32_bytes}
use Rattle.model.specs.Ranges.{CountInRange}
use Rattle.model.specs.Spelling.{count_bytes}
use Rattle.entry_codec.proofs.Puts.{added_further, all_further}
use Rattle.entry_codec.proofs.writing.parts.put_seen.Goals as goal

pub loop-pair-preserved : goal.loop-pair-preserved
loop-pair-preserved c =
    record {
      added =
          added_further count_bytes c.as_slice-pair-items.result.now c.loop-pair.pair-index c.pair-item.result
          c.args.out.now (u32_bytes (length c.args.seen.now)) c.loop-pair.out c.put_count.new.out c.loop-pair-test.true
          c.loop-pair.invariant.added
          (c.in_ok-put_count.ensures.added ∙ ap (λ p. c.loop-pair.out ++ count_bytes p) c.pair-item.is);
      range =
          all_further CountInRange c.as_slice-pair-items.result.now c.loop-pair.pair-index c.pair-item.result
          c.loop-pair-test.true (subst CountInRange c.pair-item.is c.in_ok-put_count.ensures.range)
          c.loop-pair.invariant.range;
    }
