-- What the rows tell of a history.
use Rattle.std.specs.List.{list_any}
use Rattle.std.specs.Prelude.{ℕ, ◌≡◌, List, count_by, nat_eq, unwrap_or}
use Rattle.indexmap.specs.IndexMap.{get}
use Rattle.indexmap.specs.IndexSet.{contains}
use Rattle.model.specs.Types.{Entry, Events}
use Rattle.model.specs.History.{list_of}
use Rattle.model.specs.Facts.{is_launch_of}
use Rattle.model.specs.Sound.{is_numbered_launch}
use Rattle.counted_facts.specs.Keys.{ends_launch, same_key}
use Rattle.counted_facts.specs.declared.launch_rows.ToldLaunches.{ToldLaunches}

-- how many launches of each job there are in all lists, and which launches are told and ended in the list of which
-- workstation
pub record AreTold (G : List Entry) (t : ToldLaunches) : Type 0 where
  pub counts : (j : ℕ) → unwrap_or (get nat_eq t.counts j) 0 ≡ count_by (λ (e : Entry). is_launch_of j e.body) G
  pub launched : (w j n : ℕ)
      → contains same_key t.launched (w, (j, n)) ≡ list_any (is_numbered_launch j n) (list_of G (Events w))
  pub ended : (w j n : ℕ)
      → contains same_key t.ended (w, (j, n)) ≡ list_any (ends_launch j n) (list_of G (Events w))
