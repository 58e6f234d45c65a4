mod FirstPlaces
pub mod StepWords
pub mod Texts
