-- How often workstations advise themselves, and how long a network goes on while they do.
pub mod Advices
pub mod Advised
