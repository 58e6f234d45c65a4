-- Which entries change whom feeds are passed on to.
pub mod Quiet
