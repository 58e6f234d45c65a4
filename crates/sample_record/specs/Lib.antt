-- The record of a sample: draws from a seed, a network of a master and four agents, a plan whose streams and jobs follow
-- each other as the draws say, and rounds of steps.
pub mod Draws
pub mod Agents
pub mod Streams
pub mod Rounds
pub mod Samples
