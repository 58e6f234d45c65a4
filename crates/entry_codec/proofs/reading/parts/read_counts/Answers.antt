use Rattle.std.proofs.Common.{◌≡◌, ◌++◌, ◌∷◌, []}
use Rattle.std.proofs.lemmas.Result.{err_from_is_err_and}
use Rattle.entry_codec.specs.Fields.{counts_at}
use Rattle.entry_codec.proofs.Loops.{counts_go_on, counts_end, counts_done}
use Rattle.entry_codec.proofs.reading.parts.read_counts.Goals as goal

pub returns-in_err-ws-clause-reads : goal.returns-in_err-ws-clause-reads
returns-in_err-ws-clause-reads c =
    let p = err_from_is_err_and c.from_residual.result c.from_residual.ensures.1 in
    rw (p.1, p.2) (counts_end c.in_err-ws.field-0.0 c.loop.seen c.args.count c.loop.counter c.loop.least
    c.args.from.now c.loop.next (counts_at 0 c.args.count c.args.from.now c.args.at) c.loop-test.true
    c.in_err-ws.ensures.reads c.loop.invariant.read)

pub loop-preserved : goal.loop-preserved
loop-preserved c =
    let pushed : c.push.new.self ≡ c.loop.seen ++ (c.in_ok-ws.ws, c.in_ok-ws.entries) ∷ [] = c.in_ok-push.ensures.ok
    in
    let least : c.from-least.result ≡ c.in_ok-ws.ws = c.from-least.ensures in
    record {
      read = rw (pushed, least) (counts_go_on c.loop.seen c.args.count c.loop.counter c.loop.least c.args.from.now
          c.loop.next (c.in_ok-ws.ws, c.in_ok-ws.entries) c.in_ok-ws.after
          (counts_at 0 c.args.count c.args.from.now c.args.at)
          c.loop-test.true c.in_ok-ws.ensures.reads c.loop.invariant.read);
      within = c.in_ok-ws.ensures.within;
    }

pub returns-clause-reads : goal.returns-clause-reads
returns-clause-reads c =
    counts_done c.loop.seen c.args.count c.loop.counter c.loop.least c.args.from.now c.loop.next
    (counts_at 0 c.args.count c.args.from.now c.args.at) c.loop-test.false c.loop.invariant.read
