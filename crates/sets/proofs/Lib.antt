pub mod SetLaws
pub mod Single
pub mod BoundedLaws
pub mod Parts
pub mod CountLaws
pub mod MajorityLaws
pub mod Settled
