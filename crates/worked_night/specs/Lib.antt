-- A workload of two workstations, and a night of them.
pub mod Workload
pub mod Happened
