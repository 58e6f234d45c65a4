use Rattle.std.proofs.Common.{◌≡◌, ℕ, List, bytes_eq, drop, map}
use Rattle.std.specs.List.{position_from}
use Rattle.definition_names.specs.Keys.{seen}
use Rattle.definition_names.specs.Indexes.{name_in}
use Rattle.definition_names.proofs.firsts.index.Given as goal

abbrev pub invariant-loop-i : goal.invariant-loop-i
invariant-loop-i l =
    (name : List ℕ) → name_in l.index.entries name ≡ position_from (bytes_eq name) l.i (map seen (drop l.i l.names))
