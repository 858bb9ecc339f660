pub mod Slots
pub mod State
pub mod Settled
