pub mod NumberLaws
pub mod Statements
