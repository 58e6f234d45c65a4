use Rattle.std.proofs.Common.{◌<◌, ◌∙◌, ◌∷◌, ◌+◌, [], List, ap, arith, drop, sym, take, ℕ}
use Rattle.std.specs.Prelude.{◌++◌, map}
use Rattle.lemmas.proofs.Lists.{all_get, drop_at_end, get_there}
use Rattle.model.specs.Types.{Events, Feed}
use Rattle.model.specs.Network.{node_count}
use Rattle.model.specs.History.{view_of}
use Rattle.mailman_core.specs.Mails.{acked_by}
use Rattle.mailman_core.specs.Sends.{unsent}
use Rattle.mailman_core.proofs.Listing.{one_inside, unsent_here, unsent_same}
use Rattle.mailman_core.proofs.Unsent.{part_end, part_next, still_few, take_full}
use Rattle.mailman_core.proofs.mails.Mail.add_listed_events.Goals as goal

pub returns-then-is_full : goal.returns-then-is_full
returns-then-is_full c =
    let net = c.args.net.now in
    let V = view_of c.args.o.now in
    let acked = acked_by c.args.self.now c.args.to in
    sym
    (take_full 8 c.loop-w.batch.items
    (unsent net V c.args.me c.args.to acked (map Events (drop c.loop-w.w-index c.args.listed.now)))
    (c.is_full.ensures.eight c.if-is_full.true))
    ∙ c.loop-w.invariant.told
    ∙ ap (λ (l : List (Feed × ℕ)). take 8 (c.args.batch.now.items ++ l))
    (unsent_same net V c.args.me c.args.to acked c.args.listed.now c.requires.listed)

pub add_feed-requires : goal.add_feed-requires
add_feed-requires c =
    record {
      from = c.requires.from;
      to = c.requires.to;
      inside =
          one_inside (node_count c.args.net.now) c.w-item.result
          (all_get (λ (u : ℕ). u < node_count c.args.net.now) c.args.listed.now c.loop-w.w-index c.w-item.result
          c.requires.listed.inside
          (get_there c.args.listed.now c.loop-w.w-index c.w-item.result (omega arith) c.w-item.is));
      few = c.loop-w.invariant.few;
    }

pub loop-w-preserved : goal.loop-w-preserved
loop-w-preserved c =
    let net = c.args.net.now in
    let V = view_of c.args.o.now in
    let acked = acked_by c.args.self.now c.args.to in
    let w = c.w-item.result in
    let one = unsent net V c.args.me c.args.to acked (Events w ∷ []) in
    let rest =
    unsent net V c.args.me c.args.to acked (map Events (drop (c.loop-w.w-index + 1) c.args.listed.now)) in
    let all = unsent net V c.args.me c.args.to acked (map Events (drop c.loop-w.w-index c.args.listed.now)) in
    record {
      few = still_few c.add_feed.new.batch.items (c.loop-w.batch.items ++ one) c.add_feed.ensures;
      told =
          part_next c.loop-w.batch.items c.add_feed.new.batch.items one rest all c.add_feed.ensures
          (unsent_here net V c.args.me c.args.to acked c.args.listed.now c.loop-w.w-index w (omega arith) c.w-item.is)
          ∙ c.loop-w.invariant.told;
    }

pub returns : goal.returns
returns c =
    let net = c.args.net.now in
    let V = view_of c.args.o.now in
    let acked = acked_by c.args.self.now c.args.to in
    sym
    (part_end c.loop-w.batch.items
    (unsent net V c.args.me c.args.to acked (map Events (drop c.loop-w.w-index c.args.listed.now)))
    c.loop-w.invariant.few
    (ap (λ (l : List ℕ). unsent net V c.args.me c.args.to acked (map Events l))
    (drop_at_end c.args.listed.now c.loop-w.w-index (omega arith))))
    ∙ c.loop-w.invariant.told
    ∙ ap (λ (l : List (Feed × ℕ)). take 8 (c.args.batch.now.items ++ l))
    (unsent_same net V c.args.me c.args.to acked c.args.listed.now c.requires.listed)
