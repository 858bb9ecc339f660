-- Reading order: each file uses only those above it.
-- Laws of the order on notes, configurations and books; of ⊑*, decide and the queried configurations (Property 5.1, Lemma 5.2).
pub mod Order
pub mod Below
-- Sets of changes as lists: how to make a setting.
pub mod Changes
-- The chain of commits, how a new one goes in (Lemmas 5.3 to 5.5), and what was shown before an ask (the core of Theorem 5.2).
pub mod Chain
pub mod Insertion
pub mod Shown
-- Merging (Lemma 5.1), the evidence of a commit (Lemma 5.4), and what holds of every state.
pub mod Frames
pub mod Merging
pub mod Evidence
pub mod Invariant
-- Each step keeps it.
pub mod Growth
pub mod Sending
pub mod Delivered
pub mod Advanced
pub mod Preserved
-- Nothing comes from elsewhere.
pub mod FromAsks
-- The promise of specs/Agreement, and a run that it speaks of.
pub mod Agreement
pub mod Example
