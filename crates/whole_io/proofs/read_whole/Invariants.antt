use Rattle.std.proofs.Common.{◌≡◌, ◌≤◌, ◌-◌, ◌+◌, vec_len}
use Rattle.outside.specs.Streams.{Takes}
use Rattle.whole_io.proofs.read_whole.Given as goal

abbrev pub invariant-loop-piece : goal.invariant-loop-piece
invariant-loop-piece g l = record {
  taken : Takes (g.I.Source.stream l.initial.input) (g.I.Source.stream l.input) l.bytes.items;
  within : vec_len l.bytes ≤ l.most;
  quiet : g.I.Source.faults l.input ≡ g.I.Source.faults l.initial.input;
  most : l.most ≡ l.limit + 1;
}

abbrev pub decreases-loop-piece : goal.decreases-loop-piece
decreases-loop-piece g l = l.most - vec_len l.bytes
