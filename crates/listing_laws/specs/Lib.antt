-- Drafts whose listing is read back, and to what.
pub mod Listables
pub mod ListingReturns
