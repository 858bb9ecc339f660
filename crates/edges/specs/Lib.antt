pub mod Edges
pub mod Useless
