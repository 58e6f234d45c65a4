-- What a source had left, by what was read of it.
use Rattle.std.proofs.Common.{◌+◌, ◌++◌, ◌<◌, ◌≡◌, ◌∙◌, ℕ, List, None, Option, Some, ap, append-nil, arith, length, length-append}
use Rattle.outside.specs.Streams.{Stream, TakesAll}
use Rattle.whole_io.specs.Whole.{TakesCount}

-- what was left of a source that was read to its end
pub left_read : (source : Stream) (new : Option Stream) (bytes : List ℕ) → TakesAll (Some source) new bytes
    → source.left ≡ bytes
left_read source None bytes all = absurd all.takes
left_read source (Some s) bytes all = all.takes.1 ∙ ap (λ l. bytes ++ l) all.end ∙ append-nil bytes

pub left_long : (source : Stream) (new : Option Stream) → TakesCount 16777217 (Some source) new
    → 16777216 < length source.left
left_long source None h = absurd h.2
left_long source (Some s) h =
    let whole : length source.left ≡ length h.0 + length s.left = ap length h.2.1 ∙ length-append h.0 s.left in
    let count : length h.0 ≡ 16777217 = h.1 in
    omega arith
