-- What a node shows of its plan: states by their words and numbers, the listing, and the bytes of Symphony. Listing and
-- Symphony are functions of a view that read its events alone.
pub mod Words
pub mod Tables
pub mod Cpus
pub mod Listings
pub mod Symphonies
pub mod Counts
