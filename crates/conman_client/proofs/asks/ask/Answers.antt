use Rattle.std.proofs.Common.{true, false, ◌∙◌}
use Rattle.std.proofs.lemmas.Result.{err_from_is_err_and}
use Rattle.conman_client.proofs.Running.{nothing_called, begin_called, send_called, begin_failed, send_failed, listened}
use Rattle.conman_client.proofs.asks.ask.Goals as goal

pub returns-in_err-peers-clause-run : goal.returns-in_err-peers-clause-run
returns-in_err-peers-clause-run g c =
    let failed = err_from_is_err_and c.from_residual.result c.from_residual.ensures.1 in
    rw (failed.1, failed.2)
    (nothing_called c.args.peer.now c.args.command.now (g.L.Link.calls c.args.link.now) (g.L.Link.faults c.args.link.now))

pub returns-in_err-frame-clause-run : goal.returns-in_err-frame-clause-run
returns-in_err-frame-clause-run g c =
    let failed = err_from_is_err_and c.from_residual-in_err-frame.result c.from_residual-in_err-frame.ensures.1 in
    rw (failed.1, failed.2)
    (nothing_called c.args.peer.now c.args.command.now (g.L.Link.calls c.args.link.now) (g.L.Link.faults c.args.link.now))

pub returns-in_err-begin-clause-run : goal.returns-in_err-begin-clause-run
returns-in_err-begin-clause-run g c =
    let peer = c.args.peer.now in
    let old = g.L.Link.calls c.args.link.now in
    let new = g.L.Link.calls c.begin.new.self in
    let cause = c.in_err-begin.ensures.cause in
    let failed = err_from_is_err_and c.from_residual-in_err-begin.result c.from_residual-in_err-begin.ensures.1 in
    rw (failed.1, failed.2)
    (begin_failed peer c.args.command.now old new (g.L.Link.faults c.args.link.now) (g.L.Link.faults c.begin.new.self)
    (begin_called peer c.in_ok-peers.peers false c.in_ok-peers.ensures old new c.in_err-begin.ensures.calls) cause.later
    cause.failed)

pub returns-in_err-send-clause-run : goal.returns-in_err-send-clause-run
returns-in_err-send-clause-run g c =
    let peer = c.args.peer.now in
    let command = c.args.command.now in
    let old = g.L.Link.calls c.args.link.now in
    let second = g.L.Link.calls c.begin.new.self in
    let new = g.L.Link.calls c.send.new.self in
    let cause = c.in_err-send.ensures.cause in
    let failed = err_from_is_err_and c.from_residual-in_err-send.result c.from_residual-in_err-send.ensures.1 in
    rw (failed.1, failed.2)
    (send_failed peer command old second new (g.L.Link.faults c.args.link.now) (g.L.Link.faults c.begin.new.self)
    (begin_called peer c.in_ok-peers.peers true c.in_ok-peers.ensures old second c.in_ok-begin.ensures.calls)
    c.in_ok-begin.ensures.cause.succeeded (g.L.Link.faults c.send.new.self)
    (send_called peer command c.as_slice.result.now false (c.as_slice.ensures ∙ c.in_ok-frame.ensures) second new
    c.in_err-send.ensures.calls) cause.later cause.failed)

pub returns-clause-run : goal.returns-clause-run
returns-clause-run g c =
    let peer = c.args.peer.now in
    let command = c.args.command.now in
    let old = g.L.Link.calls c.args.link.now in
    let second = g.L.Link.calls c.begin.new.self in
    let third = g.L.Link.calls c.send.new.self in
    let run = c.listen.ensures.run in
    listened peer command old second third (g.L.Link.faults c.args.link.now) (g.L.Link.faults c.begin.new.self)
    (begin_called peer c.in_ok-peers.peers true c.in_ok-peers.ensures old second c.in_ok-begin.ensures.calls)
    c.in_ok-begin.ensures.cause.succeeded run.0 (g.L.Link.calls c.listen.new.link)
    (g.L.Link.faults c.listen.new.link) c.listen.result
    (send_called peer command c.as_slice.result.now true (c.as_slice.ensures ∙ c.in_ok-frame.ensures) second third
    c.in_ok-send.ensures.calls) run.1 (c.listen.ensures.same ∙ c.in_ok-send.ensures.cause.succeeded) run.2
