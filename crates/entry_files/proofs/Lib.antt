mod Walks
mod Fronts
