use Rattle.std.proofs.Common.{◌+◌, ◌<◌, ◌∙◌, ℕ, arith, sym}
use Rattle.std.specs.Prelude.{is_some}
use Rattle.model.specs.Network.{node_count}
use Rattle.model.specs.History.{view_of}
use Rattle.model.specs.Turn.{next_issuer, next_order}
use Rattle.batchman_core.proofs.Leasts.{least_first, least_nothing}
use Rattle.batchman_core.proofs.issuers.next_issuer.Goals as goal

pub returns-then-has_next_order : goal.returns-then-has_next_order
unfolding next_issuer
returns-then-has_next_order c =
    let low : c.loop-a.a < 0 + node_count c.args.net.now = omega (arith, c.count-a-end.ensures.value) in
    sym
    (least_first (λ (a : ℕ). is_some (next_order (view_of c.args.o.now) c.args.me a)) 0 (node_count c.args.net.now)
    c.loop-a.a (omega arith) low (λ k l h. c.loop-a.invariant k h)
    (sym c.has_next_order.ensures ∙ c.if-has_next_order.true))

pub returns : goal.returns
unfolding next_issuer
returns c =
    sym
    (least_nothing (λ (a : ℕ). is_some (next_order (view_of c.args.o.now) c.args.me a)) 0 (node_count c.args.net.now)
    (λ k l h. c.loop-a.invariant k (omega (arith, c.count-a-end.ensures.value))))
