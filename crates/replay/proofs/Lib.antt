pub mod Words
pub mod Accepted
pub mod OneTape
pub mod Statements
