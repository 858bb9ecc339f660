pub mod SlotLaws
pub mod Chains
pub mod StateLaws
pub mod ListingLaws
pub mod Settled
