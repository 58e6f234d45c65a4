-- What may stand in definitions, definitions without their lines, and what is read back.
pub mod Written
pub mod Lines
pub mod Returns
