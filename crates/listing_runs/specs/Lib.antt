-- What the listing of a day is as a record, and what its run makes.
pub mod Listings
