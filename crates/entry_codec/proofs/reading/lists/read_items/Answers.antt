use Rattle.std.proofs.Common.{◌≡◌, ◌++◌, ◌∷◌, []}
use Rattle.std.proofs.lemmas.Result.{err_from_is_err_and}
use Rattle.entry_codec.specs.Fields.{items_at}
use Rattle.entry_codec.proofs.Loops.{goes_on, ends, is_done}
use Rattle.entry_codec.proofs.reading.lists.read_items.Goals as goal

pub returns-in_err-item-clause-reads : goal.returns-in_err-item-clause-reads
returns-in_err-item-clause-reads g c =
    let p = err_from_is_err_and c.from_residual.result c.from_residual.ensures.1 in
    rw (p.1, p.2) (ends (g.T.Read.reader c.args.second) c.in_err-item.field-0.0 c.loop.items c.args.count c.loop.counter
    c.args.from.now c.loop.next (items_at (g.T.Read.reader c.args.second) c.args.count c.args.from.now c.args.at) c.loop-test.true
    c.in_err-item.ensures.reads c.loop.invariant.read)

pub loop-preserved : goal.loop-preserved
loop-preserved g c =
    let pushed : c.push.new.self ≡ c.loop.items ++ c.in_ok-item.item ∷ [] = c.in_ok-push.ensures.ok in
    record {
      read = rw pushed (goes_on (g.T.Read.reader c.args.second) c.loop.items c.args.count c.loop.counter c.args.from.now c.loop.next
          c.in_ok-item.item c.in_ok-item.after (items_at (g.T.Read.reader c.args.second) c.args.count c.args.from.now c.args.at)
          c.loop-test.true c.in_ok-item.ensures.reads c.loop.invariant.read);
      within = c.in_ok-item.ensures.within;
    }

pub returns-clause-reads : goal.returns-clause-reads
returns-clause-reads g c =
    is_done (g.T.Read.reader c.args.second) c.loop.items c.args.count c.loop.counter c.args.from.now c.loop.next
    (items_at (g.T.Read.reader c.args.second) c.args.count c.args.from.now c.args.at) c.loop-test.false c.loop.invariant.read
