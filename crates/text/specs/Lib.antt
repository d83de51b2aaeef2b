pub mod Words
pub mod Write
pub mod Form
pub mod Figures
pub mod Split
-- What is computed, and what mirrors the code on bytes: nothing in these has to be believed.
pub mod Read
pub mod Answers
pub mod Size
pub mod Heads
pub mod Kinds
pub mod Access
