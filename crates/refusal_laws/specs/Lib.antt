-- What a step of the world names, and the limits that a replay reaches.
pub mod Named
