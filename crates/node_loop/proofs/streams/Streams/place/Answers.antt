use Rattle.std.proofs.Common.{◌==◌, ◌≡◌, ◌∙◌, List, None, arith, false, subst, take_all}
use Rattle.std.specs.List.{list_any}
use Rattle.node_loop.specs.Heard.{stream_of}
use Rattle.node_loop.specs.declared.streams.Stream.{Stream}
use Rattle.node_loop.proofs.Finding.{found_none}
use Rattle.node_loop.proofs.streams.Streams.place.Goals as goal

pub returns : goal.returns
returns c =
    let p = λ (s : Stream). s.ws == c.args.x in
    let streams = c.as_slice-stream-items.result.now in
    subst (λ (l : List Stream). stream_of l c.args.x ≡ None) (c.as_slice-stream-items.ensures ∙ c.self.view_is)
    (found_none p streams
    (subst (λ (l : List Stream). list_any p l ≡ false) (take_all c.loop-i.i streams (omega arith)) c.loop-i.invariant))
