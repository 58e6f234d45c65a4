use Rattle.symphony_view.proofs.Shown.{listing_same, symphony_same}
use Rattle.symphony_view.proofs.shows_events_alone.Goals as goal

pub returns-clause-listing : goal.returns-clause-listing
returns-clause-listing c = λ net V U agree. listing_same net V U agree

pub returns-clause-symphony : goal.returns-clause-symphony
returns-clause-symphony c = λ net V U agree. symphony_same net V U agree
