use Rattle.owner_fold.specs.Holders.{open_left}
use Rattle.owner_fold.proofs.holdings.Owners.open_launches.Goals as goal

pub returns : goal.returns
unfolding open_left
returns c = c.opened_codes.ensures
