mod Telling
mod Stations
mod Coming
