use Rattle.std.proofs.Common.{length}
use Rattle.model.specs.Fields.{u8_bytes}
use Rattle.model.specs.Ranges.{OpInRange}
use Rattle.model.specs.Spelling.{op_bytes}
use Rattle.entry_codec.proofs.Puts.{added_further, all_further}
use Rattle.entry_codec.proofs.writing.documents.put_cond.Goals as goal

pub loop-op-preserved : goal.loop-op-preserved
loop-op-preserved c =
    record {
      added =
          added_further op_bytes c.as_slice-op-items.result.now c.loop-op.op-index _ c.args.out.now
          (u8_bytes (length c.args.ops.now)) c.loop-op.out c.put_op.new.out c.loop-op-test.true c.loop-op.invariant.added
          c.in_ok-put_op.ensures.added;
      range =
          all_further OpInRange c.as_slice-op-items.result.now c.loop-op.op-index _ c.loop-op-test.true
          c.in_ok-put_op.ensures.range c.loop-op.invariant.range;
    }
