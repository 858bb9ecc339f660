pub mod Replay
pub mod Working
pub mod Statements
