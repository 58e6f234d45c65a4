use Rattle.std.proofs.Common.{ℕ, ◌≡◌, List, None, ap, length, refl, subst, subst₂, sym}
use Rattle.node_loop.specs.declared.streams.Stream.{Stream}
use Rattle.node_loop.specs.Heard.{AreHeard, stream_of}
use Rattle.node_loop.specs.Placed.{IsFirst}
use Rattle.node_loop.proofs.Hearing.{heard_new, new_first}
use Rattle.node_loop.proofs.streams.Streams.place_or_new.Goals as goal

pub returns-clause-place : goal.returns-clause-place
returns-clause-place c =
    let s : Stream = record { ws = c.args.x; decoder = c.new.result } in
    let none = subst (λ (l : List Stream). stream_of l c.args.x ≡ None) (sym c.self.view_is) c.in_default.ensures in
    subst₂ (λ (l : List Stream) (n : ℕ). IsFirst l c.args.x n) (sym c.in_ok-push.ensures.ok)
    (ap length (sym c.as_slice-i.ensures)) (new_first c.self.inside.list c.args.x s none refl)

pub returns-clause-heard : goal.returns-clause-heard
returns-clause-heard c = λ heard are.
    let s : Stream = record { ws = c.args.x; decoder = c.new.result } in
    let none = subst (λ (l : List Stream). stream_of l c.args.x ≡ None) (sym c.self.view_is) c.in_default.ensures in
    subst (λ (l : List Stream). AreHeard l heard) (sym c.in_ok-push.ensures.ok)
    (heard_new c.self.inside.list c.args.x s heard none refl c.new.ensures
    (subst (λ (l : List Stream). AreHeard l heard) (sym c.self.view_is) are))
