-- Nodes that have just begun stand for the world of their night.
use Rattle.std.proofs.Common.{◌≡◌, ℕ, Bool, None, Some, false, subst, true}
use Rattle.std.specs.Prelude.{◌==◌, filter_map, if◌then◌else◌}
use Rattle.lemmas.proofs.Options.{some_is}
use Rattle.composer_parser.specs.declared.Defs.{Defs}
use Rattle.model.specs.Types.{Entry}
use Rattle.model.specs.History.{maker}
use Rattle.model.specs.World.{World}
use Rattle.network_runs.specs.Happenings.{Night, kept_in, made, of_its_maker}
use Rattle.network_runs.specs.Nights.{IsNight, IsWorldOf, IsWritten}
use Rattle.network_runs.proofs.Members.{IsIn, in_of, in_split, mapped_in}
use Rattle.nights_at_rest.specs.Passes.{HaveBegun, StandBetween}
use Rattle.nights_at_rest.specs.Still.{Nodes}
use Rattle.nights_at_rest.proofs.Standing.{begun_stands}

its_entry : (kept : ℕ × Entry) (e : Entry) → of_its_maker kept ≡ Some e → kept.1 ≡ e
its_entry kept e is = go (maker kept.1.feed == kept.0) is
  where
    go : (c : Bool) → (if c then Some kept.1 else None) ≡ Some e → kept.1 ≡ e
    go true is = some_is is
    go false is = cc

-- what makers kept in a night can be written down
made_written : (defs : Defs) (night : Night) → IsNight defs night → (e : Entry) → IsIn e (made night) → IsWritten e
made_written defs night n e k =
    let own = mapped_in of_its_maker e (filter_map kept_in night) k in
    let there = mapped_in kept_in own.0 night own.1 in
    let at = in_split there.0 night there.1 in
    subst IsWritten (its_entry own.0 e own.2)
    (n.written at.front at.back there.0 own.0.0 own.0.1 at.split there.2)

pub begun_between : (defs : Defs) (night : Night) (nodes : Nodes) (x : World) → IsNight defs night → IsWorldOf defs night x
    → HaveBegun defs night nodes → StandBetween defs night nodes x
begun_between defs night nodes x n is begun = record {
  steps = is.steps;
  by_them = is.by_them;
  history_ = is.history_;
  written = λ e k. made_written defs night n e (in_of e (made night) k);
  sent_ = is.sent_;
  nodes_ = λ w w_in. begun_stands defs night x w (nodes w).node is w_in (begun w w_in).stopped (begun w w_in).begun;
  disks = λ w w_in. (begun w w_in).begun.kept_;
}
