mod Between
mod Stops
mod Fronts
mod Disks
mod Standing
mod Nights
