use Rattle.std.proofs.Common.{◌≡◌, drop}
use Rattle.owner_fold.specs.Searches.{streams_passing}
use Rattle.owner_fold.proofs.searches.next_stream.Given as goal

abbrev pub invariant-loop-i : goal.invariant-loop-i
invariant-loop-i l = streams_passing l.test l.owners l.w l.codes ≡ streams_passing l.test l.owners l.w (drop l.i l.codes)
