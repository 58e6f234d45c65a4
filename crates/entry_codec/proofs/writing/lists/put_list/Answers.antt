use Rattle.std.proofs.Common.{◌++◌, ◌∙◌, ap, length, subst}
use Rattle.model.specs.Fields.{u32_bytes}
use Rattle.entry_codec.proofs.Puts.{added_further, all_further}
use Rattle.entry_codec.proofs.writing.lists.put_list.Goals as goal

pub loop-item-preserved : goal.loop-item-preserved
loop-item-preserved g c =
    record {
      added =
          added_further g.T.Put.spelling c.as_slice-item-items.result.now c.loop-item.item-index c.item-item.result
          c.args.out.now (u32_bytes (length c.args.items.now)) c.loop-item.out c.put.new.out c.loop-item-test.true
          c.loop-item.invariant.added
          (c.in_ok-put.ensures.added ∙ ap (λ x. c.loop-item.out ++ g.T.Put.spelling x) c.item-item.is);
      range =
          all_further g.T.Put.in_range c.as_slice-item-items.result.now c.loop-item.item-index c.item-item.result
          c.loop-item-test.true (subst g.T.Put.in_range c.item-item.is c.in_ok-put.ensures.range)
          c.loop-item.invariant.range;
    }
