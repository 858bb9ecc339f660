pub mod Bits
pub mod Edition
pub mod Layout
pub mod Reading
pub mod Writing
pub mod Promises
pub mod Printed
pub mod Statements
