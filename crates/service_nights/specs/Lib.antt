-- What happens where workstations are served, which disks their services begin with and leave, and which night that is.
pub mod Services
pub mod Served
