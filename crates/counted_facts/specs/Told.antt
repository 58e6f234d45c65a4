-- What the timelines tell of a history.
use Rattle.std.specs.Prelude.{List}
use Rattle.model.specs.Types.{Entry}
use Rattle.counted_facts.specs.Facts.{is_done, stream_told}
use Rattle.counted_facts.specs.Places.{brought_at, named_at, planned_at, replied_at}
use Rattle.counted_facts.specs.Timelines.{AreTimelines}
use Rattle.counted_facts.specs.declared.facts.CountedFacts.{CountedFacts}
use Rattle.counted_facts.specs.declared.masters.MasterFacts.{MasterFacts}

-- what they tell of a master's plans, and of replies to the prompts of the network
pub record AreMasterFacts (G : List Entry) (f : MasterFacts) : Type 0 where
  pub brought : AreTimelines brought_at G f.brought
  pub named : AreTimelines named_at G f.named
  pub planned : AreTimelines planned_at G f.planned
  pub replied : AreTimelines replied_at G f.replied

-- each timeline tells its fact of these entries
pub record AreCountedFacts (G : List Entry) (f : CountedFacts) : Type 0 where
  pub jobs : AreTimelines is_done G f.jobs
  pub streams : AreTimelines stream_told G f.streams
  pub master : AreMasterFacts G f.master
