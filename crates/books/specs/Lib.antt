pub mod Books
pub mod Joined
pub mod Queried
pub mod Cases
pub mod Statements
pub mod Settled
