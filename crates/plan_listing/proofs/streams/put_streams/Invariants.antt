use Rattle.std.proofs.Common.{◌≡◌, ◌++◌, drop, flat_map}
use Rattle.plan_listing.specs.Streams.{stream_text}
use Rattle.plan_listing.proofs.streams.put_streams.Given as goal

abbrev pub invariant-loop-stream : goal.invariant-loop-stream
invariant-loop-stream l =
    l.initial.out.items ++ flat_map (stream_text l.net) l.streams
    ≡ l.out.items ++ flat_map (stream_text l.net) (drop l.stream-index l.streams)
