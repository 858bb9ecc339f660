-- Reading order: each file uses only those above it. Agreement is the statement that all the rest is for.
pub mod Lattice
pub mod Setting
pub mod State
pub mod Steps
pub mod Agreement
