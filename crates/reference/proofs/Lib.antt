mod Onward
mod Fitting
mod Listing
mod Adding
mod Opening
mod Keeping
mod Turned
mod Texts
