-- Reading order: each file uses only those above it.
-- How the parlour reads as a setting of the agreement argument.
pub mod Reading
pub mod Changes
pub mod Merges
-- When a run and its history are like a state of the argument.
pub mod History
pub mod Likeness
pub mod Following
-- Each step is one of the argument's, or none.
pub mod AskFollows
pub mod BoxFollows
pub mod TabletFollows
pub mod AdvanceFollows
pub mod StepFollows
-- What every run keeps.
pub mod Reachable
-- The promise, read off the argument's, and two runs that it speaks of.
pub mod FromAsks
pub mod Promise
pub mod Example
