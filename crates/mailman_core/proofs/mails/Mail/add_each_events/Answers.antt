use Rattle.std.proofs.Common.{◌∙◌, ◌∷◌, ◌+◌, ◌-◌, [], List, ap, arith, sym, ℕ}
use Rattle.std.specs.Prelude.{◌++◌, map}
use Rattle.model.specs.Types.{Events, Feed}
use Rattle.model.specs.Words.{numbers_from}
use Rattle.model.specs.Network.{node_count}
use Rattle.model.specs.History.{view_of}
use Rattle.mailman_core.specs.Mails.{acked_by}
use Rattle.mailman_core.specs.Sends.{unsent}
use Rattle.mailman_core.proofs.Unsent.{no_feeds, part_end, part_next, still_few, take_full, unsent_next}
use Rattle.mailman_core.proofs.mails.Mail.add_each_events.Goals as goal

pub returns-then-is_full : goal.returns-then-is_full
returns-then-is_full c =
    let n = node_count c.args.net.now in
    let g : ℕ → Feed = Events in
    let rest =
    unsent c.args.net.now (view_of c.args.o.now) c.args.me c.args.to (acked_by c.args.self.now c.args.to)
    (map g (numbers_from c.loop-w.w (n - c.loop-w.w))) in
    sym (take_full 8 c.loop-w.batch.items rest (c.is_full.ensures.eight c.if-is_full.true)) ∙ c.loop-w.invariant.told

pub loop-w-preserved : goal.loop-w-preserved
loop-w-preserved c =
    let n = node_count c.args.net.now in
    let V = view_of c.args.o.now in
    let acked = acked_by c.args.self.now c.args.to in
    let g : ℕ → Feed = Events in
    let one = unsent c.args.net.now V c.args.me c.args.to acked (g c.loop-w.w ∷ []) in
    let rest =
    unsent c.args.net.now V c.args.me c.args.to acked
    (map g (numbers_from (c.loop-w.w + 1) (n - (c.loop-w.w + 1)))) in
    let all =
    unsent c.args.net.now V c.args.me c.args.to acked (map g (numbers_from c.loop-w.w (n - c.loop-w.w))) in
    record {
      few = still_few c.add_feed.new.batch.items (c.loop-w.batch.items ++ one) c.add_feed.ensures;
      told =
          part_next c.loop-w.batch.items c.add_feed.new.batch.items one rest all c.add_feed.ensures
          (unsent_next c.args.net.now V c.args.me c.args.to acked g c.loop-w.w n
          (omega (arith, c.count-w-end.ensures.value, c.loop-w-test.true)))
          ∙ c.loop-w.invariant.told;
    }

pub returns : goal.returns
returns c =
    let n = node_count c.args.net.now in
    let V = view_of c.args.o.now in
    let acked = acked_by c.args.self.now c.args.to in
    let g : ℕ → Feed = Events in
    let rest =
    unsent c.args.net.now V c.args.me c.args.to acked (map g (numbers_from c.loop-w.w (n - c.loop-w.w))) in
    sym
    (part_end c.loop-w.batch.items rest c.loop-w.invariant.few
    (ap (λ (l : List Feed). unsent c.args.net.now V c.args.me c.args.to acked l)
    (no_feeds g c.loop-w.w n (omega (arith, c.count-w-end.ensures.value, c.loop-w-test.false)))))
    ∙ c.loop-w.invariant.told
