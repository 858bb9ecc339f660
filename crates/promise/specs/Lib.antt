-- What is promised of every run, and what every run keeps.
pub mod Promise
pub mod Reachable
