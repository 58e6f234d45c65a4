mod Counting
mod Plans
