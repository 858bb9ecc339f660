-- Reading order: each file uses only those above it.
-- Of the functions: which slot and device a step is about, the laying of messages, and the stores of one step.
pub mod Places
pub mod Laying
pub mod Taking
-- Of the rules: what a step may do, case by case; how an ask names its pair; what an effect makes of a run.
pub mod Acts
pub mod Naming
pub mod Frame
-- A step keeps a proper state proper, leaves all others as before, takes nothing from any device, leaves T outstanding, and moves a round by 1.
pub mod ProperEffect
pub mod ProperStays
pub mod Others
pub mod Growth
pub mod Outstanding
pub mod Rounds
-- What specs/Statements says, all of it.
pub mod Statements
