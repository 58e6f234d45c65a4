use Rattle.listing_laws.proofs.Read.{listing_back, listing_is_text}
use Rattle.listing_laws.proofs.laws.printed_listings_are_read_back.Goals as goal

pub returns-clause-text : goal.returns-clause-text
returns-clause-text c = λ net drafts printable none listable. listing_is_text net drafts printable none listable

pub returns-clause-read : goal.returns-clause-read
returns-clause-read c = λ net drafts printable none listable. listing_back net drafts printable none listable
