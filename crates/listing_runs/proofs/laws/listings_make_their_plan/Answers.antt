use Rattle.listing_runs.proofs.Listings.{makes_its_plan}
use Rattle.listing_runs.proofs.laws.listings_make_their_plan.Goals as goal

pub returns : goal.returns
returns c = λ bytes d day drafts checked is_day none are. makes_its_plan bytes d day drafts checked is_day none are
