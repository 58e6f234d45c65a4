use Rattle.mailman_core.proofs.Listing.{no_rows}
use Rattle.agent_core.proofs.Restored.{blank_stands}
use Rattle.agent_core.proofs.agents.Agent.blank.Goals as goal
use Rattle.std.proofs.Common.{refl}

pub invariant_of-result : goal.invariant_of-result
invariant_of-result c = (
  blank_stands _ _ _ _ _ _ c.requires c.in_ok-present.ensures c.new-owners.ensures c.new-tracker.ensures,
  no_rows _ _ _ _ c.new-listed.ensures,
)

pub returns : goal.returns
returns c =
    record {
      net_ = refl;
      me_ = refl;
      kept_ = c.new-owners.ensures;
      mail_ = c.new-mail.ensures;
      live_ = c.new-live.ensures;
    }
