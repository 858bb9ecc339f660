pub mod Contents
pub mod Effects
pub mod Settled
