use Rattle.std.proofs.Common.{◌<◌, ◌^◌, drop, map, take}
use Rattle.model.specs.Fit.{AreFitEntries}
use Rattle.history_script.specs.Taken.{lines_size}
use Rattle.history_script.proofs.Walks.{IsReadTo}
use Rattle.history_script.proofs.found.read_rows.Given as goal

abbrev pub invariant-loop-i : goal.invariant-loop-i
invariant-loop-i l =
    record {
      read : IsReadTo l.net (map (λ x. x.now) (take l.i l.texts)) (map (λ x. x.now) (drop l.i l.texts))
          (map (λ x. x.now) l.texts) l.found;
      fit : AreFitEntries l.found.entries;
      short : lines_size (map (λ x. x.now) (drop l.i l.texts)) < 2 ^ 32;
    }
