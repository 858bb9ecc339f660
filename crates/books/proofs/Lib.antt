pub mod Turns
pub mod NoteLaws
pub mod BookLaws
pub mod ListedLaws
pub mod QueriedLaws
pub mod Statements
pub mod Settled
