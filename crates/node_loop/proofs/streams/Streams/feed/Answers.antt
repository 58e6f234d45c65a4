use Rattle.std.proofs.Common.{List, Err, IfOk, OnErr, Ok, Result, subst, sym}
use Rattle.node_loop.specs.declared.streams.Stream.{Stream}
use Rattle.node_loop.specs.Heard.{AreHeard}
use Rattle.node_loop.specs.Placed.{IsFirst}
use Rattle.node_loop.proofs.Hearing.{heard_fed, heard_still}
use Rattle.node_loop.proofs.streams.Streams.feed.Goals as goal

-- what three clauses on an answer come to
from_three : {X Y : Type 0} (r : Result X Y) (P Q R S : X → Type 0) → ((x : X) → P x → Q x → R x → S x) → IfOk r P
    → IfOk r Q → IfOk r R → IfOk r S
from_three (Ok x) P Q R S follows p q r = follows x p q r
from_three (Err e) P Q R S follows p q r = tt

-- and one on a fault
from_fault : {X Y : Type 0} (r : Result X Y) (P S : Type 0) → (P → S) → OnErr r P → OnErr r S
from_fault (Ok x) P S follows p = tt
from_fault (Err e) P S follows p = follows p

pub returns-clause-taken : goal.returns-clause-taken
returns-clause-taken c =
    let first = subst (λ (l : List Stream). IsFirst l c.args.x c.in_ok-i.i) (sym c.self.view_is) c.in_ok-i.ensures.place in
    from_three c.feed.result _ _ _ _
    (λ fed frames bad takes heard are.
    heard_fed c.self.inside.list c.args.x c.in_ok-i.i c.in-Some.stream.now c.feed.new.self c.args.bytes.now fed first
    c.in-Some.ensures.item.1 frames bad takes heard
    (subst (λ (l : List Stream). AreHeard l heard) (sym c.self.view_is) (c.in_ok-i.ensures.heard heard are)))
    c.feed.ensures.frames c.feed.ensures.bad c.feed.ensures.takes

pub returns-clause-err : goal.returns-clause-err
returns-clause-err c =
    let first = subst (λ (l : List Stream). IsFirst l c.args.x c.in_ok-i.i) (sym c.self.view_is) c.in_ok-i.ensures.place in
    from_fault c.feed.result _ _
    (λ still heard are.
    heard_still c.self.inside.list c.args.x c.in_ok-i.i c.in-Some.stream.now c.feed.new.self heard first
    c.in-Some.ensures.item.1 still
    (subst (λ (l : List Stream). AreHeard l heard) (sym c.self.view_is) (c.in_ok-i.ensures.heard heard are)))
    c.feed.ensures.err
