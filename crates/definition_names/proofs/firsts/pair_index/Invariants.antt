use Rattle.std.proofs.Common.{◌≡◌, ℕ, List, drop, map}
use Rattle.std.specs.List.{position_from}
use Rattle.definition_names.specs.Keys.{seen_pair}
use Rattle.definition_names.specs.Names.{is_pair}
use Rattle.definition_names.specs.Indexes.{pair_in}
use Rattle.definition_names.proofs.firsts.pair_index.Given as goal

abbrev pub invariant-loop-i : goal.invariant-loop-i
invariant-loop-i l =
    (ws name : List ℕ) → pair_in l.index.entries ws name
    ≡ position_from (is_pair ws name) l.i (map seen_pair (drop l.i l.names))
