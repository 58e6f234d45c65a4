use Rattle.std.proofs.Common.{List, refl, subst, sym}
use Rattle.node_loop.specs.declared.streams.Stream.{Stream}
use Rattle.node_loop.specs.Heard.{AreHeard, nothing_heard}
use Rattle.node_loop.specs.Placed.{IsFirst}
use Rattle.model.specs.Words.{with_at}
use Rattle.node_loop.proofs.Hearing.{heard_at}
use Rattle.node_loop.proofs.streams.Streams.begin.Goals as goal

pub returns-in-Some : goal.returns-in-Some
returns-in-Some c = λ heard are.
    let s : Stream = record { ws = c.args.x; decoder = c.new.result } in
    let first = subst (λ (l : List Stream). IsFirst l c.args.x c.in-Some.i) (sym c.self.view_is) c.in-Some.ensures in
    subst (λ (l : List Stream). AreHeard l (with_at c.args.x nothing_heard heard)) (sym c.set.ensures)
    (heard_at c.self.inside.list c.args.x c.in-Some.i s nothing_heard heard first refl c.new.ensures
    (subst (λ (l : List Stream). AreHeard l heard) (sym c.self.view_is) are))
