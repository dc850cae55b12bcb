pub mod Grids
pub mod Laying
pub mod Places
