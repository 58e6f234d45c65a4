-- What is due for all words, and the statuses one by one.
pub mod Dues
pub mod InputRows
pub mod ServiceRows
